-- The tally of the rows that are left: some rows less of one connection.
use Prim.Native.Nat.{ℕ, zero, suc, ◌+◌, ◌-◌, ◌≤◌, ◌<◌}
use mathlib.Core.Path.{◌≡◌, refl, sym, ap, ◌∙◌}
use mathlib.Core.Logic.{inl, inr}
use mathlib.Core.Bool.{Bool, false}
use mathlib.Core.List.{List, [], ◌∷◌}
use native.Mathlib.Omega.{arith}
use lib.Dec.{ltb, eqb}
use lib.ListN.{length}
use borrow.Author.Tests.{ltb-true, ltb-false, lt-ltb, le-ltb, eq-eqb, ne_eqb}
use Rattle.regions.specs.declared.Row.{Row}
use Rattle.regions.specs.declared.Conn.{Conn}
use Rattle.machine.proofs.Tests.{test, order}
use Rattle.store.specs.Flat.{own_bit, bump, tally}
use Rattle.store.specs.Counting.{adjusted}
use Rattle.store.proofs.Tally.{bump-nil, bump-lt, bump-eq, bump_gt, bump-swap, bump_tallied, Tallied, tally_tallied}
use Rattle.package_stages.specs.Dead.{filter}
use Rattle.cutting.specs.Cuts.{less, lessen}

-- ---- rows that go are rows more of what is left

unfoldable bumps : ℕ → ℕ → List Conn → List Conn
bumps n zero l = l
bumps n (suc d) l = bump n 0 (bumps n d l)

bumps_swap : (m p n d : ℕ) (l : List Conn) → bump m p (bumps n d l) ≡ bumps n d (bump m p l)
unfolding bumps
bumps_swap m p n zero l = refl
bumps_swap m p n (suc d) l = bump-swap m p n 0 (bumps n d l) ∙ ap (bump n 0) (bumps_swap m p n d l)

pub filter-fewer : {A : Type 0} (q : A → Bool) (l : List A) → length (filter q l) ≤ length l
unfolding filter
filter-fewer q [] = omega arith
filter-fewer q (a ∷ l) = elim (test (q a)) [ inl e ↦ rw e (omega (arith, filter-fewer q l)) | inr e ↦ rw e (omega (arith, filter-fewer q l)) ]

-- the rows that do not pass are of one connection, and do not own their requests
pub record Idle (q : Row → Bool) (n : ℕ) : Type 0 where
  pub conn : (r : Row) → q r ≡ false → r.conn ≡ n
  pub own : (r : Row) → q r ≡ false → own_bit r ≡ 0

tally_more : (q : Row → Bool) (n d : ℕ) (rs : List Row) → Idle q n → length rs ≡ d + length (filter q rs) → tally rs ≡ bumps n d (tally (filter q rs))
unfolding tally filter bumps
tally_more q n zero [] i e = refl
tally_more q n (suc d) [] i e = absurd (omega arith)
tally_more q n zero (r ∷ rs) i e =
    elim (test (q r)) [
      | inl z ↦ let m : length rs ≡ 0 + length (filter q rs) = omega (arith, rw z at e) in
          rw (z, tally_more q n 0 rs i m)
      | inr z ↦ absurd (omega (arith, filter-fewer q rs, rw z at e))
    ]
tally_more q n (suc d) (r ∷ rs) i e =
    elim (test (q r)) [
      | inl z ↦ let m : length rs ≡ suc d + length (filter q rs) = omega (arith, rw z at e) in
          rw (z, tally_more q n (suc d) rs i m) (bumps_swap r.conn (own_bit r) n (suc d) (tally (filter q rs)))
      | inr z ↦ let m : length rs ≡ d + length (filter q rs) = omega (arith, rw z at e) in
          rw (z, i.own r z, i.conn r z, tally_more q n d rs i m)
    ]

-- ---- and lessening takes them away

lessen-absent : (n d lo : ℕ) (l : List Conn) → n < lo → Tallied lo l → lessen n d l ≡ l
unfolding lessen
lessen-absent n d lo [] h t = refl
lessen-absent n d lo (c ∷ l) h t = rw (ne_eqb n c.conn (λ e. omega (arith, t.0)), lessen-absent n d (suc c.conn) l (omega (arith, t.0)) t.2)

lessen_none : (n lo : ℕ) (l : List Conn) → Tallied lo l → lessen n 0 l ≡ l
unfolding lessen
lessen_none n lo [] t = refl
lessen_none n lo (c ∷ l) t =
    elim (test (eqb n c.conn)) [
      | inl e ↦ let z : c.held - 0 ≡ c.held = omega arith in rw (e, lt-ltb 0 c.held t.1, z)
      | inr e ↦ rw (e, lessen_none n (suc c.conn) l t.2)
    ]

lessen-bump : (n d lo : ℕ) (l : List Conn) → Tallied lo l → lessen n (suc d) (bump n 0 l) ≡ lessen n d l
unfolding lessen
lessen-bump n d lo [] t = rw (bump-nil n 0, eq-eqb n n refl, le-ltb (suc d) 1 (omega arith))
lessen-bump n d lo (c ∷ l) t =
    elim (order n c.conn) [
      | inl b ↦ rw (bump-lt n 0 c l b, eq-eqb n n refl, le-ltb (suc d) 1 (omega arith), ne_eqb n c.conn (λ e. omega arith), lessen-absent n d (suc c.conn) l (omega arith) t.2)
      | inr (inl b) ↦ rw (bump-eq n 0 c l b, eq-eqb n c.conn b) (elim (test (ltb d c.held)) [
        | inl z ↦ let x : c.held + 1 - suc d ≡ c.held - d = omega arith in
            let y : c.owned + 0 ≡ c.owned = omega arith in
            rw (lt-ltb (suc d) (c.held + 1) (omega (arith, ltb-true d c.held z)), z, x, y)
        | inr z ↦ rw (le-ltb (suc d) (c.held + 1) (omega (arith, ltb-false d c.held z)), z)
      ])
      | inr (inr b) ↦ rw (bump_gt n 0 c l b, ne_eqb n c.conn (λ e. omega arith), lessen-bump n d (suc c.conn) l t.2)
    ]

bumps_tallied : (n d : ℕ) (l : List Conn) → Tallied 0 l → Tallied 0 (bumps n d l)
unfolding bumps
bumps_tallied n zero l t = t
bumps_tallied n (suc d) l t = bump_tallied 0 n 0 (bumps n d l) (omega arith) (bumps_tallied n d l t)

lessen_bumps : (n d : ℕ) (l : List Conn) → Tallied 0 l → lessen n d (bumps n d l) ≡ l
unfolding bumps
lessen_bumps n zero l t = lessen_none n 0 l t
lessen_bumps n (suc d) l t = lessen-bump n d 0 (bumps n d l) (bumps_tallied n d l t) ∙ lessen_bumps n d l t

pub tally_left : (q : Row → Bool) (n d : ℕ) (rs : List Row) → Idle q n → length rs ≡ d + length (filter q rs) → tally (filter q rs) ≡ lessen n d (tally rs)
tally_left q n d rs i e = sym (ap (lessen n d) (tally_more q n d rs i e) ∙ lessen_bumps n d (tally (filter q rs)) (tally_tallied (filter q rs)))

-- ---- as the code does it

pub lessen-is : (n d : ℕ) (cs : List Conn) → lessen n d cs ≡ adjusted n (less d) cs
unfolding lessen adjusted
lessen-is n d [] = refl
lessen-is n d (c ∷ cs) =
    elim (test (eqb n c.conn)) [
      | inl a ↦ rw a (elim (test (ltb d c.held)) [ inl h ↦ rw h | inr h ↦ rw h ])
      | inr a ↦ rw (a, lessen-is n d cs)
    ]
