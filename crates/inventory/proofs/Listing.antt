-- The lists of keys, items and numbers that stand behind a line's other fields.
use Prim.Native.Nat.{ℕ, ◌≤◌}
use mathlib.Core.Path.{sym, ap, ◌∙◌}
use mathlib.Core.List.{List}
use mathlib.Core.Option.{some}
use native.Mathlib.Omega.{arith}
use lib.Dec.{lit≤}
use lib.ListN.{length}
use Rattle.ident.specs.Number.{Key, Item}
use Rattle.words.specs.Words.{number, words}
use Rattle.machine.specs.Call.{On, key_bytes}
use Rattle.lent_lists.specs.Lists.{key_in, keys_in}
use Rattle.lent_lists.specs.Items.{item_bytes, item_in, items_in}
use Rattle.machine.specs.Fields.{number_of, key_of, item_of, taking}
use Rattle.reading.specs.Line.{Asks, Send}
use Rattle.reading.specs.Lists.{key_list_call, item_list_call, send_line}
use Rattle.reading.specs.Given.{longest_line, FrontList, WholeList}
use Rattle.reading.proofs.Stored.{all_counted}
use Rattle.inventory.proofs.Sizes.{number-takes, key-takes, item-takes}
use denote.Ref.{Bor}
use Rattle.std.specs.Prelude as answer
use Rattle.std.specs.Prelude.{None, Some}
use Rattle.inventory.specs.Given.{most_listed, items_of, Front, KeysGiven, ItemsGiven, most_numbers, number_bytes, NumbersFront, NumbersGiven}

-- a list as it was read

module _ {l : List ℕ} {e : ℕ} (m : length l ≤ longest_line) {b : List ℕ} where
  pub keys-front : {r : answer.Option ℕ} → FrontList (taking key_of) key_bytes key_in l e most_listed b r → Front key_list_call l e most_listed (λ n. keys_in n b) r
  unfolding key_list_call keys_in
  keys-front {r = None} q = record { is = λ ask. q.is 3 key-takes (omega (arith, m)) (λ ks. Asks (On (ask ks))) }
  keys-front {r = Some n} q = record { is = (q.is.0, λ ask. q.is.1 (λ ks. Asks (On (ask ks)))) }

  pub items-front : {r : answer.Option ℕ} → FrontList (taking item_of) item_bytes item_in l e most_listed b r → Front item_list_call l e most_listed (λ n. items_of n b) r
  unfolding item_list_call
  items-front {r = None} q = record { is = λ ask. q.is 3 item-takes (omega (arith, m)) (λ is. Asks (On (ask is))) }
  items-front {r = Some n} q = record { is = (q.is.0, λ ask. q.is.1 (λ is. Asks (On (ask is)))) }

  pub numbers-front : {r : answer.Option ℕ} → FrontList (taking number_of) number_bytes (number 256) l e most_numbers b r → NumbersFront l e b r
  unfolding send_line
  numbers-front {r = None} q = record { is = q.is 2 number-takes (omega (arith, m)) Send }
  numbers-front {r = Some n} q = record { is = (q.is.0, q.is.1 Send) }

module _ {l : List ℕ} {e : ℕ} (m : length l ≤ longest_line) where
  pub keys-given : {r : answer.Option (Bor (List ℕ))} → WholeList (taking key_of) key_bytes key_in l e most_listed r → KeysGiven l e r
  unfolding key_list_call keys_in
  keys-given {r = None} q = record { is = λ ask. q.is 3 key-takes (omega (arith, m)) (λ ks. Asks (On (ask ks))) }
  keys-given {r = Some b} q =
      record {
        is = record {
          n = q.is.0;
          few = q.is.1;
          long = q.is.2;
          is = λ ask. q.is.3 (λ ks. Asks (On (ask ks))) ∙ ap (λ (ks : List Key). some (Asks (On (ask ks)))) (sym (all_counted key_bytes key_in q.is.0 b.now (lit≤ tt) q.is.2));
        };
      }

  pub items-given : {r : answer.Option (Bor (List ℕ))} → WholeList (taking item_of) item_bytes item_in l e most_listed r → ItemsGiven l e r
  unfolding item_list_call items_in
  items-given {r = None} q = record { is = λ ask. q.is 3 item-takes (omega (arith, m)) (λ is. Asks (On (ask is))) }
  items-given {r = Some b} q =
      record {
        is = record {
          n = q.is.0;
          few = q.is.1;
          long = q.is.2;
          is = λ ask. q.is.3 (λ is. Asks (On (ask is))) ∙ ap (λ (is : List Item). some (Asks (On (ask is)))) (sym (all_counted item_bytes item_in q.is.0 b.now (lit≤ tt) q.is.2));
        };
      }

  pub numbers-given : {r : answer.Option (Bor (List ℕ))} → WholeList (taking number_of) number_bytes (number 256) l e most_numbers r → NumbersGiven l e r
  unfolding send_line words
  numbers-given {r = None} q = record { is = q.is 2 number-takes (omega (arith, m)) Send }
  numbers-given {r = Some b} q =
      record {
        is = record {
          n = q.is.0;
          few = q.is.1;
          long = q.is.2;
          is = q.is.3 Send ∙ ap (λ (ns : List ℕ). some (Send ns)) (sym (all_counted number_bytes (number 256) q.is.0 b.now (lit≤ tt) q.is.2));
        };
      }
