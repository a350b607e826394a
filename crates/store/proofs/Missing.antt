-- A connection that a search does not find has no entry to change.
use Prim.Native.Nat.{ℕ, zero, suc, ◌≤◌, ◌<◌}
use mathlib.Core.Path.{◌≡◌, refl, sym, ◌∙◌}
use mathlib.Core.Logic.{inl, inr}
use mathlib.Core.List.{List, [], ◌∷◌}
use native.Mathlib.Nat.{le_refl}
use native.Mathlib.Omega.{arith}
use lib.ListN.{length, get_or, length-map}
use Rattle.std.specs.Prelude.{Option}
use borrow.Author.Tests.{ne_eqb}
use Rattle.regions.specs.declared.Conn.{Conn}
use Rattle.regions.specs.Order.{Sorted, Bound}
use Rattle.machine.specs.Typed.{Each}
use Rattle.machine.proofs.Tests.{order}
use Rattle.store.specs.Counting.{adjusted}
use Rattle.store.specs.Shown.{conn_names}

abbrev Gone : ℕ → List Conn → Type 0
Gone x cs = (j : ℕ) → j < length cs → get_or (conn_names cs) j 0 ≡ x → ⊥

adjusted-gone : (x : ℕ) (g : Conn → Option Conn) (cs : List Conn) → Gone x cs → adjusted x g cs ≡ cs
unfolding adjusted
adjusted-gone x g [] n = refl
adjusted-gone x g (c ∷ cs) n = rw (ne_eqb x c.conn (λ z. n 0 (omega arith) (sym z)), adjusted-gone x g cs (λ j l. n (suc j) (omega arith)))

pub name_at : (cs : List Conn) (i : ℕ) (d : Conn) → i < length cs → get_or (conn_names cs) i 0 ≡ (get_or cs i d).conn
name_at [] i d h = absurd (omega arith)
name_at (c ∷ cs) zero d h = refl
name_at (c ∷ cs) (suc i) d h = name_at cs i d (omega arith)

module _ (cs : List Conn) {x i : ℕ} (s : Sorted (conn_names cs)) (b : Bound (conn_names cs) x i) (d : Conn) (n : i < length cs → (get_or cs i d).conn ≡ x → ⊥) where
  gone : Gone x cs
  unfolding Sorted
  gone j l z =
      let m : length (conn_names cs) ≡ length cs = length-map cs (λ c. c.conn) in
      elim (order j i) [
        | inl a ↦ omega (arith, b.below j a)
        | inr a ↦ let h : i ≤ j = elim a [ inl e ↦ omega arith | inr g ↦ omega arith ] in
            let k : i < length cs = omega arith in
            let above = b.above i (le_refl i) (omega arith) in
            let rest = s i j h (omega arith) in
            let e : get_or (conn_names cs) i 0 ≡ x = omega arith in
            n k (sym (name_at cs i d k) ∙ e)
      ]

  pub adjusted-missing : (g : Conn → Option Conn) → adjusted x g cs ≡ cs
  adjusted-missing g = adjusted-gone x g cs gone

pub each_at : {A : Type 0} (P : A → Type 0) (l : List A) (i : ℕ) (d : A) → Each P l → i < length l → P (get_or l i d)
each_at P [] i d a h = absurd (omega arith)
each_at P (x ∷ l) zero d a h = a.0
each_at P (x ∷ l) (suc i) d a h = each_at P l i d a.1 (omega arith)
