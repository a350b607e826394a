-- The list of hashes that stands behind a line's other fields.
use Prim.Native.Nat.{ℕ, ◌≤◌}
use mathlib.Core.Path.{sym, ap, ◌∙◌}
use mathlib.Core.List.{List}
use mathlib.Core.Option.{some}
use native.Mathlib.Omega.{arith}
use lib.Dec.{lit≤}
use lib.ListN.{length}
use Rattle.ident.specs.Number.{top}
use Rattle.ident.specs.Words.{hash_bytes}
use Rattle.words.specs.Words.{number}
use Rattle.machine.specs.Call.{On}
use Rattle.lent_lists.specs.Lists.{hashes_in}
use Rattle.machine.specs.Fields.{hash_of, taking}
use denote.Ref.{Bor}
use Rattle.std.specs.Prelude.{Option, None, Some}
use Rattle.reading.specs.Line.{Asks}
use Rattle.reading.specs.Lists.{list_call}
use Rattle.reading.specs.Given.{longest_line, most_hashes, Takes, FrontList, WholeList, HashesFront, HashesGiven}
use Rattle.reading.proofs.Bytes.{numeral_some}
use Rattle.reading.proofs.Elements.{takes_field}
use Rattle.reading.proofs.Stored.{all_counted}

-- a comma and a digit
pub hash-takes : Takes (taking hash_of) 2
hash-takes = takes_field hash_of (λ f x g. omega (arith, numeral_some 16 top f x g))

pub hashes-front : {l : List ℕ} {e : ℕ} {b : List ℕ} {r : Option ℕ} → length l ≤ longest_line → FrontList (taking hash_of) hash_bytes (number 256) l e most_hashes b r → HashesFront l e b r
unfolding list_call
hashes-front {r = None} m q = record { is = λ ask. q.is 2 hash-takes (omega (arith, m)) (λ hs. Asks (On (ask hs))) }
hashes-front {r = Some n} m q = record { is = (q.is.0, λ ask. q.is.1 (λ hs. Asks (On (ask hs)))) }

pub hashes-given : {l : List ℕ} {e : ℕ} {r : Option (Bor (List ℕ))} → length l ≤ longest_line → WholeList (taking hash_of) hash_bytes (number 256) l e most_hashes r → HashesGiven l e r
unfolding list_call hashes_in
hashes-given {r = None} m q = record { is = λ ask. q.is 2 hash-takes (omega (arith, m)) (λ hs. Asks (On (ask hs))) }
hashes-given {r = Some s} m q =
    record {
      is = (
        omega (arith, q.is.1, q.is.2),
        λ ask. q.is.3 (λ hs. Asks (On (ask hs))) ∙ ap (λ (hs : List ℕ). some (Asks (On (ask hs)))) (sym (all_counted hash_bytes (number 256) q.is.0 s.now (lit≤ tt) q.is.2)),
      );
    }
