-- The tally's entries by their places: what a search finds, and where one row more, or a change, works.
use Prim.Native.Nat.{ℕ, zero, suc, ◌+◌, ◌≤◌, ◌<◌}
use mathlib.Core.Path.{◌≡◌, refl, sym, ◌∙◌}
use mathlib.Core.Logic.{inl, inr}
use mathlib.Core.List.{List, [], ◌∷◌, ◌++◌, map}
use native.Mathlib.Nat.{le_refl}
use native.Mathlib.Omega.{arith}
use lib.ListN.{length, take, drop, get_or, set, length-map}
use lib.Seq.{set_split}
use Rattle.std.specs.Prelude.{Option}
use borrow.Author.Tests.{eq-eqb, ne_eqb}
use Rattle.regions.specs.declared.Row.{Row}
use Rattle.regions.specs.declared.Conn.{Conn}
use Rattle.regions.specs.Regions.{insert_at}
use Rattle.regions.specs.Order.{Sorted, Bound}
use Rattle.store.specs.Flat.{own_bit, bump, tally}
use Rattle.store.specs.Counting.{put, adjusted}
use Rattle.store.proofs.Tally.{fresh, more, bump-nil, bump-lt, bump-eq, bump_gt, Tallied}
use Rattle.store.proofs.Certify.{value_of}
use Rattle.store.proofs.Bounds.{Ascend, ascend_weaken, ascend-sorted}
use Rattle.machine.proofs.Tests.{order}

-- the connections, in order
abbrev pub names : List Conn → List ℕ
names cs = map (λ c. c.conn) cs

names-ascend : (lo : ℕ) (cs : List Conn) → Tallied lo cs → Ascend lo (names cs)
names-ascend lo [] t = tt
names-ascend lo (c ∷ cs) t = (t.0, ascend_weaken _ (suc c.conn) (names cs) (omega arith) (names-ascend _ cs t.2))

pub names-sorted : (lo : ℕ) (cs : List Conn) → Tallied lo cs → Sorted (names cs)
names-sorted lo cs t = ascend-sorted lo (names cs) (names-ascend lo cs t)

pub tally-length : (rs : List Row) → length (tally rs) ≤ length rs
unfolding tally
tally-length [] = omega arith
tally-length (r ∷ rs) = omega (arith, bump-length (tally rs), tally-length rs)
  where
    bump-length : (cs : List Conn) → length (bump r.conn (own_bit r) cs) ≤ length cs + 1
    bump-length [] = rw bump-nil (omega arith)
    bump-length (c ∷ cs) =
        elim (order r.conn c.conn) [
          | inl b ↦ rw (bump-lt r.conn (own_bit r) c cs b) (omega arith)
          | inr (inl b) ↦ rw (bump-eq r.conn (own_bit r) c cs b) (omega arith)
          | inr (inr b) ↦ rw (bump_gt r.conn (own_bit r) c cs b) (omega (arith, bump-length cs))
        ]

-- ---- by induction to the place

module _ (x : ℕ) where
  abbrev Below : List Conn → ℕ → Type 0
  Below cs i = (j : ℕ) → j < i → get_or (names cs) j 0 < x

  bump_there : (o : ℕ) (cs : List Conn) (i : ℕ) (d : Conn) → Below cs i → i < length cs → (get_or cs i d).conn ≡ x → bump x o cs ≡ take i cs ++ (more o (get_or cs i d) ∷ drop (suc i) cs)
  bump_there o [] i d b h e = absurd (omega arith)
  bump_there o (c ∷ cs) zero d b h e = bump-eq x o c cs (sym e)
  bump_there o (c ∷ cs) (suc i) d b h e = rw (bump_gt x o c cs (b 0 (omega arith)), bump_there o cs i d (λ j l. b (suc j) (omega arith)) (omega arith) e)

  bump_new : (o : ℕ) (cs : List Conn) (i : ℕ) → Below cs i → i ≤ length cs → (i < length cs → x < get_or (names cs) i 0) → bump x o cs ≡ take i cs ++ (fresh x o ∷ drop i cs)
  bump_new o [] zero b h e = bump-nil x o
  bump_new o [] (suc i) b h e = absurd (omega arith)
  bump_new o (c ∷ cs) zero b h e = bump-lt x o c cs (e (omega arith))
  bump_new o (c ∷ cs) (suc i) b h e = rw (bump_gt x o c cs (b 0 (omega arith)), bump_new o cs i (λ j l. b (suc j) (omega arith)) (omega arith) (λ l. e (omega arith)))

  adjusted_there : (g : Conn → Option Conn) (cs : List Conn) (i : ℕ) (d : Conn) → Below cs i → i < length cs → (get_or cs i d).conn ≡ x
      → adjusted x g cs ≡ take i cs ++ put (g (get_or cs i d)) (drop (suc i) cs)
  unfolding adjusted
  adjusted_there g [] i d b h e = absurd (omega arith)
  adjusted_there g (c ∷ cs) zero d b h e = rw (eq-eqb x c.conn (sym e))
  adjusted_there g (c ∷ cs) (suc i) d b h e = rw (ne_eqb x c.conn (λ z. omega (arith, b 0 (omega arith))), adjusted_there g cs i d (λ j l. b (suc j) (omega arith)) (omega arith) e)

  value_there : (v : Conn → ℕ) (cs : List Conn) (i : ℕ) (d : Conn) → Below cs i → i < length cs → (get_or cs i d).conn ≡ x → value_of v x cs ≡ v (get_or cs i d)
  unfolding value_of
  value_there v [] i d b h e = absurd (omega arith)
  value_there v (c ∷ cs) zero d b h e = rw (eq-eqb x c.conn (sym e))
  value_there v (c ∷ cs) (suc i) d b h e = rw (ne_eqb x c.conn (λ z. omega (arith, b 0 (omega arith)))) (value_there v cs i d (λ j l. b (suc j) (omega arith)) (omega arith) e)

  value_gone : (v : Conn → ℕ) (cs : List Conn) → ((j : ℕ) → j < length cs → get_or (names cs) j 0 ≡ x → ⊥) → value_of v x cs ≡ 0
  unfolding value_of
  value_gone v [] n = refl
  value_gone v (c ∷ cs) n = rw (ne_eqb x c.conn (λ z. n 0 (omega arith) (sym z))) (value_gone v cs (λ j l. n (suc j) (omega arith)))

-- ---- where a search says

name_at : (cs : List Conn) (i : ℕ) (d : Conn) → i < length cs → get_or (names cs) i 0 ≡ (get_or cs i d).conn
name_at [] i d h = absurd (omega arith)
name_at (c ∷ cs) zero d h = refl
name_at (c ∷ cs) (suc i) d h = name_at cs i d (omega arith)

module _ (cs : List Conn) {x i : ℕ} (b : Bound (names cs) x i) (d : Conn) where
  module _ (l : i < length cs) (e : (get_or cs i d).conn ≡ x) where
    pub bump_found : (o : ℕ) → bump x o cs ≡ set cs i (more o (get_or cs i d))
    bump_found o = bump_there x o cs i d b.below l e ∙ sym (set_split cs i (more o (get_or cs i d)) l)

    pub adjusted_found : (g : Conn → Option Conn) → adjusted x g cs ≡ take i cs ++ put (g (get_or cs i d)) (drop (suc i) cs)
    adjusted_found g = adjusted_there x g cs i d b.below l e

    pub value_found : (v : Conn → ℕ) → value_of v x cs ≡ v (get_or cs i d)
    value_found v = value_there x v cs i d b.below l e

  module _ (n : i < length cs → (get_or cs i d).conn ≡ x → ⊥) where
    beyond : i < length cs → x < get_or (names cs) i 0
    beyond l =
        let e : get_or (names cs) i 0 ≡ (get_or cs i d).conn = name_at cs i d l in
        let m : (get_or (names cs) i 0 ≡ x) → ⊥ = λ z. n l (sym e ∙ z) in
        omega (arith, b.above i (le_refl i) (rw (length-map cs (λ c. c.conn)) l))

    pub bump-missing : (o : ℕ) → bump x o cs ≡ insert_at i (fresh x o) cs
    unfolding insert_at
    bump-missing o = bump_new x o cs i b.below (rw (length-map cs (λ c. c.conn)) at b.most) beyond

    -- a connection that the search does not find has neither row nor request
    pub value-missing : Tallied 0 cs → (v : Conn → ℕ) → value_of v x cs ≡ 0
    unfolding Sorted
    value-missing t v = value_gone x v cs (λ j l z. elsewhere j l z)
      where
        elsewhere : (j : ℕ) → j < length cs → get_or (names cs) j 0 ≡ x → ⊥
        elsewhere j l z = elim (order j i) [
          | inl a ↦ omega (arith, b.below j a)
          | inr a ↦ let h : i ≤ j = elim a [ inl e ↦ omega arith | inr g ↦ omega arith ] in
              let k : i < length cs = omega arith in
              omega (arith, beyond k, names-sorted 0 cs t i j h (rw (length-map cs (λ c. c.conn)) l))
        ]
