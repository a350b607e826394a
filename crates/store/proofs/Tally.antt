-- The tally of rows: one row more, one row less, a row that comes to own or ceases to.
use Prim.Native.Nat.{ℕ, suc, ◌+◌, ◌-◌, ◌≤◌, ◌<◌}
use mathlib.Core.Path.{◌≡◌, refl, sym}
use mathlib.Core.Logic.{inl, inr}
use mathlib.Core.List.{List, [], ◌∷◌, ◌++◌}
use native.Mathlib.Nat.{add_comm}
use native.Mathlib.Omega.{arith}
use borrow.Author.Tests.{lt-ltb, le-ltb, eq-eqb, ne_eqb}
use Rattle.machine.proofs.Tests.{order}
use Rattle.regions.specs.declared.Row.{Row}
use Rattle.regions.specs.declared.Conn.{Conn}
use Rattle.store.specs.Flat.{own_bit, bump, tally}
unfoldable pub use Rattle.store.specs.Counting.{fewer, unbump, reowned, retally}

abbrev pub fresh : ℕ → ℕ → Conn
fresh n o = record { conn = n; held = 1; owned = o }

abbrev pub more : ℕ → Conn → Conn
more o c = record { conn = c.conn; held = c.held + 1; owned = c.owned + o }

module _ (n o : ℕ) (c : Conn) (l : List Conn) where
  pub bump-lt : n < c.conn → bump n o (c ∷ l) ≡ fresh n o ∷ (c ∷ l)
  unfolding bump
  bump-lt h = rw (lt-ltb n c.conn h)

  pub bump-eq : n ≡ c.conn → bump n o (c ∷ l) ≡ more o c ∷ l
  unfolding bump
  bump-eq h = rw (h, le-ltb c.conn c.conn (omega arith), eq-eqb c.conn c.conn refl)

  pub bump_gt : c.conn < n → bump n o (c ∷ l) ≡ c ∷ bump n o l
  unfolding bump
  bump_gt h = rw (le-ltb n c.conn (omega arith), ne_eqb n c.conn (λ e. omega arith))

pub bump-nil : (n o : ℕ) → bump n o [] ≡ fresh n o ∷ []
unfolding bump
bump-nil n o = refl

-- two rows, one after the other, in either order
swap-lt : (m p n o : ℕ) (l : List Conn) → m < n → bump m p (bump n o l) ≡ bump n o (bump m p l)
swap-lt m p n o [] a = rw (bump-nil n o, bump-nil m p, bump-lt m p (fresh n o) [] a, bump_gt n o (fresh m p) [] a, bump-nil n o)
swap-lt m p n o (c ∷ l) a =
    elim (order m c.conn) [
      | inl b ↦ rw (bump-lt m p c l b, bump_gt n o (fresh m p) (c ∷ l) a) (elim (order n c.conn) [
        | inl d ↦ rw (bump-lt n o c l d) (bump-lt m p (fresh n o) (c ∷ l) a)
        | inr (inl d) ↦ rw (bump-eq n o c l d) (bump-lt m p (more o c) l b)
        | inr (inr d) ↦ rw (bump_gt n o c l d) (bump-lt m p c (bump n o l) b)
      ])
      | inr (inl b) ↦ let d : c.conn < n = omega arith in
          rw (bump_gt n o c l d, bump-eq m p c (bump n o l) b, bump-eq m p c l b) (sym (bump_gt n o (more p c) l d))
      | inr (inr b) ↦ let d : c.conn < n = omega arith in
          rw (bump_gt n o c l d, bump_gt m p c (bump n o l) b, bump_gt m p c l b, bump_gt n o c (bump m p l) d, swap-lt m p n o l a)
    ]

swap-eq : (n p o : ℕ) (l : List Conn) → bump n p (bump n o l) ≡ bump n o (bump n p l)
swap-eq n p o [] = rw (bump-nil n o, bump-nil n p, bump-eq n p (fresh n o) [] refl, bump-eq n o (fresh n p) [] refl, add_comm o p)
swap-eq n p o (c ∷ l) =
    elim (order n c.conn) [
      | inl b ↦ rw (bump-lt n o c l b, bump-lt n p c l b, bump-eq n p (fresh n o) (c ∷ l) refl, bump-eq n o (fresh n p) (c ∷ l) refl, add_comm o p)
      | inr (inl b) ↦ let e : c.owned + o + p ≡ c.owned + p + o = omega arith in
          rw (bump-eq n o c l b, bump-eq n p c l b, bump-eq n p (more o c) l b, bump-eq n o (more p c) l b, e)
      | inr (inr b) ↦ rw (bump_gt n o c l b, bump_gt n p c l b, bump_gt n p c (bump n o l) b, bump_gt n o c (bump n p l) b, swap-eq n p o l)
    ]

pub bump-swap : (m p n o : ℕ) (l : List Conn) → bump m p (bump n o l) ≡ bump n o (bump m p l)
bump-swap m p n o l =
    elim (order m n) [
      | inl a ↦ swap-lt m p n o l a
      | inr (inl a) ↦ rw a (swap-eq n p o l)
      | inr (inr a) ↦ sym (swap-lt n o m p l a)
    ]

-- a row among others counts as if it stood first
pub tally-row : (a : List Row) (r : Row) (b : List Row) → tally (a ++ (r ∷ b)) ≡ bump r.conn (own_bit r) (tally (a ++ b))
unfolding tally
tally-row [] r b = refl
tally-row (x ∷ a) r b = rw (tally-row a r b) (bump-swap x.conn (own_bit x) r.conn (own_bit r) (tally (a ++ b)))

-- ---- connections ascend, and each has a row

abbrev pub Tallied : ℕ → List Conn → Type 0
Tallied lo [] = Unit {0}
Tallied lo (c ∷ l) = (lo ≤ c.conn) × (0 < c.held) × Tallied (suc c.conn) l

pub tallied_weaken : (lo hi : ℕ) (cs : List Conn) → lo ≤ hi → Tallied hi cs → Tallied lo cs
tallied_weaken lo hi [] h t = tt
tallied_weaken lo hi (c ∷ cs) h t = (omega (arith, t.0), t.1, t.2)

pub bump_tallied : (lo n o : ℕ) (l : List Conn) → lo ≤ n → Tallied lo l → Tallied lo (bump n o l)
bump_tallied lo n o [] h t = rw bump-nil (h, omega arith, tt)
bump_tallied lo n o (c ∷ l) h t =
    elim (order n c.conn) [
      | inl b ↦ rw (bump-lt n o c l b) (h, omega arith, (omega arith, t.1, t.2))
      | inr (inl b) ↦ rw (bump-eq n o c l b) (t.0, omega arith, t.2)
      | inr (inr b) ↦ rw (bump_gt n o c l b) (t.0, t.1, bump_tallied _ n o l (omega arith) t.2)
    ]

pub tally_tallied : (rs : List Row) → Tallied 0 (tally rs)
unfolding tally
tally_tallied [] = tt
tally_tallied (r ∷ rs) = bump_tallied 0 r.conn (own_bit r) (tally rs) (omega arith) (tally_tallied rs)

-- ---- one row less

pub unbump-bump : (lo n o : ℕ) (l : List Conn) → Tallied lo l → unbump n o (bump n o l) ≡ l
unfolding unbump
unbump-bump lo n o [] t = rw (bump-nil, eq-eqb n n refl)
unbump-bump lo n o (c ∷ l) t =
    elim (order n c.conn) [
      | inl b ↦ rw (bump-lt n o c l b, eq-eqb n n refl)
      | inr (inl b) ↦ let e : c.held + 1 - 1 ≡ c.held = omega arith in
          let d : c.owned + o - o ≡ c.owned = omega arith in
          rw (bump-eq n o c l b, eq-eqb n c.conn b, ne_eqb (c.held + 1) 1 (λ z. omega (arith, t.1)), e, d)
      | inr (inr b) ↦ rw (bump_gt n o c l b, ne_eqb n c.conn (λ z. omega arith), unbump-bump _ n o l t.2)
    ]

pub tally_less : (a : List Row) (r : Row) (b : List Row) → tally (a ++ b) ≡ unbump r.conn (own_bit r) (tally (a ++ (r ∷ b)))
tally_less a r b = rw (tally-row a r b) (sym (unbump-bump 0 r.conn (own_bit r) (tally (a ++ b)) (tally_tallied (a ++ b))))

-- ---- a row whose bit goes from o to p

pub retally-bump : (n o p : ℕ) (l : List Conn) → retally n o p (bump n o l) ≡ bump n p l
unfolding retally
retally-bump n o p [] = let e : o - o + p ≡ p = omega arith in rw (bump-nil n o, bump-nil n p, eq-eqb n n refl, e)
retally-bump n o p (c ∷ l) =
    elim (order n c.conn) [
      | inl b ↦ let e : o - o + p ≡ p = omega arith in
          rw (bump-lt n o c l b, bump-lt n p c l b, eq-eqb n n refl, e)
      | inr (inl b) ↦ let e : c.owned + o - o + p ≡ c.owned + p = omega arith in
          rw (bump-eq n o c l b, bump-eq n p c l b, eq-eqb n c.conn b, e)
      | inr (inr b) ↦ rw (bump_gt n o c l b, bump_gt n p c l b, ne_eqb n c.conn (λ z. omega arith), retally-bump n o p l)
    ]

pub tally-changed : (a : List Row) (r q : Row) (b : List Row) → r.conn ≡ q.conn → tally (a ++ (q ∷ b)) ≡ retally r.conn (own_bit r) (own_bit q) (tally (a ++ (r ∷ b)))
tally-changed a r q b e = rw (tally-row a r b, tally-row a q b, ← e) (sym (retally-bump r.conn (own_bit r) (own_bit q) (tally (a ++ b))))

-- rows that are changed in nothing that the tally reads
pub tally_same : (a : List Row) (r q : Row) (b : List Row) → r.conn ≡ q.conn → own_bit r ≡ own_bit q → tally (a ++ (q ∷ b)) ≡ tally (a ++ (r ∷ b))
tally_same a r q b e f = rw (tally-row a r b, tally-row a q b, e, f)
