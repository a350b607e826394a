-- Tests, and walks along the records of a region that stop where a test fails.
use Prim.Native.Nat.{ℕ, suc, ◌+◌, ◌-◌, ◌*◌, ◌≤◌, ◌<◌}
use mathlib.Core.Path.{◌≡◌}
use mathlib.Core.Bool.{Bool, true, false}
use mathlib.Core.List.{List, [], ◌∷◌}
use native.Mathlib.Omega.{arith}
use lib.ListN.{take, drop}
use lib.Seq.{drop-drop}
use Rattle.words.specs.Words.{recs, Decides}

-- ---- tests

pub record Iff (P Q : Type 0) : Type 0 where
  pub to : P → Q
  pub from : Q → P

pub iff_self : {P : Type 0} → Iff P P
iff_self = record { to = λ p. p; from = λ p. p }

pub decides_iff : {P Q : Type 0} (b : Bool) → Iff P Q → Decides b P → Decides b Q
decides_iff true e d = e.to d
decides_iff false e d = λ q. d (e.from q)

-- ---- records in a row, each fit to stand behind the one before it

unfoldable pub Chain : {A : Type 0} → (A → A → Type 0) → A → List A → Type 0
Chain R p [] = Unit {0}
Chain R p (a ∷ l) = R p a × Chain R a l

-- the records from i on
abbrev pub rest : {A : Type 0} → ℕ → (List ℕ → A) → ℕ → ℕ → List ℕ → List A
rest k f n i w = recs k f (n - i) (drop (k * i) w)

pub rest_all : {A : Type 0} (k : ℕ) (f : List ℕ → A) (n : ℕ) (w : List ℕ) → rest k f n 0 w ≡ recs k f n w
rest_all k f n w =
    let e : k * 0 ≡ 0 = omega arith in
    let g : n - 0 ≡ n = omega arith in
    rw (e, g)

pub rest_turn : {A : Type 0} (k : ℕ) (f : List ℕ → A) (n i : ℕ) (w : List ℕ) → i < n
    → rest k f n i w ≡ f (take k (drop (k * i) w)) ∷ rest k f n (i + 1) w
unfolding recs
rest_turn k f n i w h =
    let e : n - i ≡ suc (n - (i + 1)) = omega arith in
    let g : k * (i + 1) ≡ k * i + k = omega arith in
    rw (e, g, drop-drop k (k * i) w)

pub rest_none : {A : Type 0} (k : ℕ) (f : List ℕ → A) (n i : ℕ) (w : List ℕ) → n ≤ i → rest k f n i w ≡ []
unfolding recs
rest_none k f n i w h = let e : n - i ≡ 0 = omega arith in rw e

-- a walk: X holds exactly if the records from i on are fit to stand behind p
module _ {A : Type 0} (R : A → A → Type 0) (k : ℕ) (f : List ℕ → A) (n : ℕ) (w : List ℕ) where
  abbrev pub Walk : Type 0 → A → ℕ → Type 0
  Walk X p i = Iff X (Chain R p (rest k f n i w))

  pub walk_turn : {X : Type 0} (p : A) {a : A} (i : ℕ) → i < n → Walk X p i → a ≡ f (take k (drop (k * i) w)) → R p a → Walk X a (i + 1)
  unfolding Chain
  walk_turn {X} p {a} i h v e r =
      let v' : Iff X (R p (f (take k (drop (k * i) w))) × Chain R (f (take k (drop (k * i) w))) (rest k f n (i + 1) w)) = rw (rest_turn k f n i w h) at v in
      rw e (record { to = λ x. (v'.to x).1; from = λ c. v'.from (rw e at r, c) })

  pub walk_stop : {X : Type 0} (p : A) {a : A} (i : ℕ) → i < n → Walk X p i → a ≡ f (take k (drop (k * i) w)) → (R p a → ⊥) → X → ⊥
  unfolding Chain
  walk_stop {X} p {a} i h v e r x =
      let v' : Iff X (R p (f (take k (drop (k * i) w))) × Chain R (f (take k (drop (k * i) w))) (rest k f n (i + 1) w)) = rw (rest_turn k f n i w h) at v in
      r (rw e (v'.to x).0)

  pub walk_end : {X : Type 0} (p : A) (i : ℕ) → n ≤ i → Walk X p i → X
  unfolding Chain
  walk_end p i h v = v.from (rw (rest_none k f n i w h) tt)
