-- Parts of a batch: offers in a row, and what the machine makes of parts one after the other.
use Prim.Native.Nat.{ℕ, zero, suc, ◌+◌, ◌-◌, ◌≤◌, ◌<◌}
use mathlib.Core.Path.{◌≡◌, refl, sym, ap, ◌∙◌}
use mathlib.Core.Bool.{Bool}
use mathlib.Core.List.{List, [], ◌∷◌, ◌++◌}
use native.Mathlib.Omega.{arith}
use lib.ListN.{length, take, drop, get_or}
use lib.Seq.{take-add, drop-drop, drop-cons}
use Rattle.machine.specs.Limits.{Limits}
use Rattle.machine.specs.State.{Table}
use Rattle.machine.specs.Announce.{announce}
use Rattle.machine.specs.Wrapper.{Offer, offered, offers_from}
use Rattle.machine.specs.Typed.{Each, OfferTyped}
use Rattle.wrapping.specs.declared.offering.Terms.{Terms}
use Rattle.wrapping.specs.Batches.{between, announced}

-- ---- offers in a row

pub between_none : (i : ℕ) (os : List Offer) → between i i os ≡ []
between_none i os = let e : i - i ≡ 0 = omega arith in rw e

pub between_one : (i : ℕ) (os : List Offer) (o : Offer) → i < length os → between i (i + 1) os ≡ get_or os i o ∷ []
between_one i os o h = let e : i + 1 - i ≡ 1 = omega arith in rw (e, drop-cons os i o h)

pub between_join : (i j k : ℕ) (os : List Offer) → i ≤ j → j ≤ k → between i j os ++ between j k os ≡ between i k os
between_join i j k os a b =
    let e : k - i ≡ j - i + (k - j) = omega arith in
    let q : i + (j - i) ≡ j = omega arith in
    sym (ap (λ (n : ℕ). take n (drop i os)) e ∙ take-add (j - i) (k - j) (drop i os)
    ∙ ap (λ (l : List Offer). take (j - i) (drop i os) ++ take (k - j) l) (drop-drop (j - i) i os ∙ ap (λ (n : ℕ). drop n os) q))

pub take-between : (i j : ℕ) (os : List Offer) → i ≤ j → take i os ++ between i j os ≡ take j os
take-between i j os a = let e : j ≡ i + (j - i) = omega arith in sym (ap (λ (n : ℕ). take n os) e ∙ take-add i (j - i) os)

pub each_take : (i : ℕ) (os : List Offer) → Each OfferTyped os → Each OfferTyped (take i os)
each_take zero os a = tt
each_take (suc i) [] a = tt
each_take (suc i) (o ∷ os) a = (a.0, each_take i os a.1)

each_drop : (i : ℕ) (os : List Offer) → Each OfferTyped os → Each OfferTyped (drop i os)
each_drop zero os a = a
each_drop (suc i) [] a = tt
each_drop (suc i) (o ∷ os) a = each_drop i os a.1

pub each_between : (i j : ℕ) (os : List Offer) → Each OfferTyped os → Each OfferTyped (between i j os)
each_between i j os a = each_take (j - i) (drop i os) (each_drop i os a)

-- ---- the machine, part by part

pub offers_none : (m : Limits) (n now : ℕ) (p v f : Bool) (t : Table) → offers_from m n now p v f [] t ≡ t
unfolding offers_from
offers_none m n now p v f t = refl

pub offers_one : (m : Limits) (n now : ℕ) (p v f : Bool) (o : Offer) (t : Table) → offers_from m n now p v f (o ∷ []) t ≡ (announce m (offered n now p v f o) t).table
unfolding offers_from
offers_one m n now p v f o t = refl

pub offers-append : (m : Limits) (n now : ℕ) (p v f : Bool) (xs ys : List Offer) (t : Table) → offers_from m n now p v f (xs ++ ys) t ≡ offers_from m n now p v f ys (offers_from m n now p v f xs t)
unfolding offers_from
offers-append m n now p v f [] ys t = refl
offers-append m n now p v f (x ∷ xs) ys t = offers-append m n now p v f xs ys (announce m (offered n now p v f x) t).table

module _ (a : Terms) (m : Limits) (os : List Offer) (t : Table) where
  abbrev From : List Offer → Table → Table
  From l s = announced a l m s

  pub announced-join : (i j k : ℕ) → i ≤ j → j ≤ k → From (between j k os) (From (between i j os) t) ≡ From (between i k os) t
  announced-join i j k p q =
      sym (offers-append m a.connection.number a.clock.time a.preferred a.source a.late (between i j os) (between j k os) t) ∙ ap (λ (l : List Offer). From l t) (between_join i j k os p q)

  pub announced_one : (i : ℕ) (o : Offer) → i < length os
      → From (between i (i + 1) os) t ≡ (announce m (offered a.connection.number a.clock.time a.preferred a.source a.late (get_or os i o)) t).table
  announced_one i o h = ap (λ (l : List Offer). From l t) (between_one i os o h) ∙ offers_one m a.connection.number a.clock.time a.preferred a.source a.late (get_or os i o) t
