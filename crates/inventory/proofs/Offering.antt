-- Items with their priorities.
use Prim.Native.Nat.{ℕ, ◌+◌, ◌*◌, ◌≤◌}
use mathlib.Core.Path.{◌≡◌, refl, sym, ap, subst, ◌∙◌}
use mathlib.Core.List.{List, [], ◌∷◌, ◌++◌}
use mathlib.Core.Option.{Option, none, some}
use native.Mathlib.Omega.{arith}
use lib.Dec.{lit≤}
use lib.ListN.{length, take}
use lib.Seq.{length-take-le}
use Rattle.ident.specs.Number.{Item}
use Rattle.words.specs.Words.{number, words, recs}
use Rattle.words.proofs.Records.{length-recs}
use Rattle.machine.specs.Wrapper.{Offer}
use Rattle.machine.specs.Call.{Ask, On}
use Rattle.lent_lists.specs.Items.{item_bytes, item_in, items_in, paired, offers_in}
use Rattle.machine.specs.Fields.{number_of, item_of, rest, taking}
use Rattle.reading.specs.Line.{Asks}
use Rattle.reading.specs.Lists.{offer_of, offer_then, offers_call}
use Rattle.reading.specs.Given.{At, ElementRead, FieldRead, NoList, IsList}
use Rattle.reading.proofs.Taking.{field_not, field_is}
use Rattle.reading.proofs.Stored.{all_stored}
use Rattle.inventory.specs.declared.offers.Offers.{Offers}
use Rattle.std.specs.Prelude as answer
use Rattle.inventory.specs.Given.{most_offers, item_room, priority_room, FrontAs, Front, items_of, number_bytes, numbers_of, offers_of, OfferPut, OffersGiven}
use Rattle.inventory.proofs.Plain.{plain-item}

-- ---- one offer: an item, and the number behind it

abbrev offer_at : At Item → At ℕ → At Offer
offer_at a b = record { value = offer_of a.value b.value; end = b.end }

module _ {l : List ℕ} {e : ℕ} {o : Option (At Item)} (p : FieldRead item_of l e o) where
  pub no_item : o ≡ none → ElementRead offer_then l e none
  unfolding offer_then
  no_item z = record { is = λ k. field_not p (λ i. taking number_of (λ n. k (offer_of i n))) z }

  module _ {a : At Item} (z : o ≡ some a) {u : Option (At ℕ)} (q : FieldRead number_of l a.end u) where
    pub no-priority : u ≡ none → ElementRead offer_then l e none
    unfolding offer_then
    no-priority y = record { is = λ k. field_is p (λ i. taking number_of (λ n. k (offer_of i n))) z ∙ field_not q (λ n. k (offer_of a.value n)) y }

    pub offer_is : {b : At ℕ} → u ≡ some b → ElementRead offer_then l e (some (offer_at a b))
    unfolding offer_then
    offer_is y = record { is = λ k. field_is p (λ i. taking number_of (λ n. k (offer_of i n))) z ∙ field_is q (λ n. k (offer_of a.value n)) y }

-- ---- one more in the bytes

paired-append : (is : List Item) (ps : List ℕ) (i : Item) (p : ℕ) → length is ≡ length ps → paired (is ++ (i ∷ [])) (ps ++ (p ∷ [])) ≡ paired is ps ++ (offer_of i p ∷ [])
unfolding paired
paired-append [] [] i p h = refl
paired-append [] (q ∷ ps) i p h = absurd (omega arith)
paired-append (j ∷ is) [] i p h = absurd (omega arith)
paired-append (j ∷ is) (q ∷ ps) i p h = ap (λ (l : List Offer). offer_of j q ∷ l) (paired-append is ps i p (omega arith))

same_count : (i : ℕ) (b c : List ℕ) → length (items_of i b) ≡ length (numbers_of i c)
same_count i b c = length-recs item_bytes item_in i b ∙ sym (length-recs number_bytes (number 256) i c)

pub none_yet : (b c : List ℕ) → offers_of 0 b c ≡ []
unfolding recs paired
none_yet b c = refl

module _ {l : List ℕ} {e : ℕ} {o : Option (At Item)} (p : FieldRead item_of l e o) {a : At Item} (z : o ≡ some a) where
  pub offer-put : {b b' c c' : List ℕ} {i n : ℕ} → OfferPut b b' c c' i a.value.kind a.value.hash n → offers_of (i + 1) b' c' ≡ offers_of i b c ++ (offer_of a.value n ∷ [])
  offer-put {b} {b'} {c} {c'} {i} {n} w = rw ((w.item.is (plain-item p z)).is, w.priority.is) (paired-append (items_of i b) (numbers_of i c) a.value n (same_count i b c))

-- ---- the whole list

items-stored : (n : ℕ) (b : List ℕ) → item_bytes * n ≤ length b → items_in (take (n * item_bytes) b) ≡ items_of n b
unfolding items_in
items-stored n b s = all_stored item_bytes item_in n b (lit≤ tt) s

numbers-stored : (n : ℕ) (b : List ℕ) → number_bytes * n ≤ length b → words (take (n * number_bytes) b) ≡ numbers_of n b
unfolding words
numbers-stored n b s = all_stored number_bytes (number 256) n b (lit≤ tt) s

pub no-front : {l : List ℕ} {e : ℕ} {first : ℕ → List Offer} → NoList offer_then l e → Front offers_call l e most_offers first answer.None
unfolding offers_call
no-front g = record { is = λ ask. g (λ os. Asks (On (ask os))) }

pub front-is : {l : List ℕ} {e : ℕ} (first : ℕ → List Offer) {n : ℕ} → n ≤ most_offers → IsList offer_then l e (first n) → Front offers_call l e most_offers first (answer.Some n)
unfolding offers_call
front-is first f w = record { is = (f, λ ask. w (λ os. Asks (On (ask os)))) }

-- the list as it was read
module _ {l : List ℕ} {e : ℕ} {first : ℕ → List Offer} {r : answer.Option ℕ} (q : Front offers_call l e most_offers first r) where
  pub unlisted : r ≡ answer.None → OffersGiven l e answer.None
  unlisted g = record { is = subst (FrontAs offers_call l e most_offers first) g q.is }

  pub listed : {n : ℕ} → r ≡ answer.Some n → FrontAs offers_call l e most_offers first (answer.Some n)
  listed g = subst (FrontAs offers_call l e most_offers first) g q.is

-- the bytes of both, as they are lent
module _ {n : ℕ} (b c : List ℕ) (f : n ≤ most_offers) (i : item_room ≤ length b) (j : priority_room ≤ length c) (o : Offers) (g : o.items.now ≡ take (n * item_bytes) b)
    (h : o.priorities.now ≡ take (n * number_bytes) c) where
  offers-stored : offers_in o.items.now o.priorities.now ≡ offers_of n b c
  offers-stored = rw (g, h, items-stored n b (omega arith), numbers-stored n c (omega arith))

  pub offers-are : {l : List ℕ} {e : ℕ} → ((ask : List Offer → Ask) → offers_call ask (rest l (e + 1)) ≡ some (Asks (On (ask (offers_of n b c))))) → OffersGiven l e (answer.Some o)
  offers-are w =
      record {
        is = record {
          held = record {
            n = n;
            few = f;
            long = rw g (length-take-le (n * item_bytes) b (omega arith));
            is = λ ask. w ask ∙ ap (λ (os : List Offer). some (Asks (On (ask os)))) (sym offers-stored);
          };
          paired = rw h (length-take-le (n * number_bytes) c (omega arith));
        };
      }
