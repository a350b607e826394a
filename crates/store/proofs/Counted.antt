-- The tally in bytes: an entry found and changed, taken out, or missing.
use Prim.Native.Nat.{ℕ, suc, ◌<◌}
use mathlib.Core.Path.{◌≡◌, refl, sym, ap, subst, ◌∙◌}
use mathlib.Core.Logic.{inl, inr}
use mathlib.Core.List.{List, [], ◌∷◌, ◌++◌}
use native.Mathlib.Omega.{arith}
use lib.Dec.{eqb}
use lib.ListN.{length, take, drop, get_or, set}
use lib.Seq.{set_split}
use Rattle.std.specs.Prelude.{Option, Some, None}
use Rattle.regions.specs.declared.Conn.{Conn}
use Rattle.regions.specs.Order.{Sorted, Bound}
use Rattle.regions.specs.Regions.{remove_at}
use Rattle.machine.proofs.Tests.{test}
use Rattle.store.specs.Flat.{Flat}
use Rattle.store.specs.Counting.{put, adjusted, less_one, unbump, reowned, retally}
use Rattle.store.specs.Image.{Shows}
use Rattle.store.specs.Shown.{conns_in, conn_names, Shown, Light, with_conns, Tallies}
use Rattle.store.proofs.Entries.{adjusted_found}
use Rattle.store.proofs.Missing.{adjusted-missing, each_at}

pub light_at : {b : List ℕ} (s : Shown b) (i : ℕ) (d : Conn) {c : Conn} → i < conns_in b → c ≡ get_or s.flat.conns i d → Light c
light_at s i d l e = subst Light (sym e) (each_at Light s.flat.conns i d s.light (omega (arith, s.sizes)))

abbrev With : List ℕ → Flat → List Conn → Type 0
With b f cs = Shows b (with_conns cs f)

module _ (f : Flat) {x i : ℕ} (bd : Bound (conn_names f.conns) x i) (d : Conn) (g : Conn → Option Conn) where
  module _ (l : i < length f.conns) (e : (get_or f.conns i d).conn ≡ x) {c : Conn} (k : c ≡ get_or f.conns i d) where
    changed_is : {r : Option Conn} → r ≡ g c → take i f.conns ++ put r (drop (suc i) f.conns) ≡ adjusted x g f.conns
    changed_is q = ap (λ (r : Option Conn). take i f.conns ++ put r (drop (suc i) f.conns)) (q ∙ ap g k) ∙ sym (adjusted_found f.conns bd d l e g)

    pub adjusted_kept : {b' : List ℕ} {r : Conn} → Some r ≡ g c → With b' f (set f.conns i r) → With b' f (adjusted x g f.conns)
    adjusted_kept {b'} {r} q s = subst (With b' f) (set_split f.conns i r l ∙ changed_is q) s

    pub adjusted_away : {b' : List ℕ} → None ≡ g c → With b' f (remove_at i f.conns) → With b' f (adjusted x g f.conns)
    unfolding remove_at
    adjusted_away {b'} q s = subst (With b' f) (changed_is q) s

  pub adjusted_nowhere : {b' : List ℕ} → (i < length f.conns → (get_or f.conns i d).conn ≡ x → ⊥) → Sorted (conn_names f.conns) → With b' f f.conns → With b' f (adjusted x g f.conns)
  adjusted_nowhere {b'} n so s = subst (With b' f) (sym (adjusted-missing f.conns so bd d n g)) s

-- ---- what is one row less, and a new bit

pub tallies_as : {b b' : List ℕ} {g h : List Conn → List Conn} → ((cs : List Conn) → h cs ≡ g cs) → Tallies b b' g → Tallies b b' h
tallies_as {b} {b'} e t f so s = subst (With b' f) (sym (e f.conns)) (t f so s)

module _ (n o : ℕ) where
  pub unbump-is : (cs : List Conn) → unbump n o cs ≡ adjusted n (less_one o) cs
  unfolding unbump adjusted
  unbump-is [] = refl
  unbump-is (c ∷ cs) =
      elim (test (eqb n c.conn)) [
        | inl a ↦ rw a (elim (test (eqb c.held 1)) [ inl h ↦ rw h | inr h ↦ rw h ])
        | inr a ↦ rw (a, unbump-is cs)
      ]

  pub retally-is : (p : ℕ) (cs : List Conn) → retally n o p cs ≡ adjusted n (λ c. Some (reowned o p c)) cs
  unfolding retally adjusted
  retally-is p [] = refl
  retally-is p (c ∷ cs) = elim (test (eqb n c.conn)) [ inl a ↦ rw a | inr a ↦ rw (a, retally-is p cs) ]
