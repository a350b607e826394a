-- An entry with one row less that stays in the tally: the entries that have a row are those of the tally with one row less.
use Prim.Native.Nat.{ℕ, suc, ◌-◌, ◌≤◌, ◌<◌}
use mathlib.Core.Path.{◌≡◌, refl, sym, ap}
use mathlib.Core.Logic.{inl, inr}
use mathlib.Core.List.{List, [], ◌∷◌}
use native.Mathlib.Omega.{arith}
use lib.Dec.{eqb}
use lib.ListN.{length}
use Rattle.std.specs.Prelude.{Some}
use borrow.Author.Tests.{lt-ltb, le-ltb, ltb-true, ltb-false, eqb-true, eqb-false, ne_eqb}
use Rattle.regions.specs.declared.Conn.{Conn}
use Rattle.regions.specs.Order.{Sorted}
use Rattle.machine.specs.Typed.{Each}
use Rattle.machine.proofs.Tests.{test}
use Rattle.store.specs.Counting.{adjusted, unbump}
use Rattle.store.specs.Shown.{conn_names, Light}
use Rattle.store.proofs.Bounds.{Ascend, ascend_weaken, ascend-sorted}
use Rattle.store.proofs.Tally.{Tallied}
use Rattle.package_stages.specs.Dead.{filter}
use Rattle.tearing.specs.Idle.{busy, ebb, ebbed}

-- ---- as the code does it

module _ (n o : ℕ) where
  pub ebbed-is : (cs : List Conn) → ebbed n o cs ≡ adjusted n (λ c. Some (ebb o c)) cs
  unfolding ebbed adjusted
  ebbed-is [] = refl
  ebbed-is (c ∷ cs) = elim (test (eqb n c.conn)) [ inl a ↦ rw a | inr a ↦ rw (a, ebbed-is cs) ]

-- ---- entries that rise

abbrev pub Rising : ℕ → List Conn → Type 0
Rising lo [] = Unit {0}
Rising lo (c ∷ cs) = (lo ≤ c.conn) × Rising (suc c.conn) cs

pub rising-sorted : (lo : ℕ) (cs : List Conn) → Rising lo cs → Sorted (conn_names cs)
rising-sorted lo cs r = ascend-sorted lo (conn_names cs) (ascend lo cs r)
  where
    ascend : (lo : ℕ) (cs : List Conn) → Rising lo cs → Ascend lo (conn_names cs)
    ascend lo [] r = tt
    ascend lo (c ∷ cs) r = (r.0, ascend_weaken _ (suc c.conn) (conn_names cs) (omega arith) (ascend _ cs r.1))

-- the tally itself: every entry has a row
pub tallied_rising : (lo : ℕ) (cs : List Conn) → Tallied lo cs → Rising lo cs
tallied_rising lo [] t = tt
tallied_rising lo (c ∷ cs) t = (t.0, tallied_rising _ cs t.2)

pub tallied_busy : (lo : ℕ) (cs : List Conn) → Tallied lo cs → filter busy cs ≡ cs
unfolding filter
tallied_busy lo [] t = refl
tallied_busy lo (c ∷ cs) t = rw (lt-ltb 0 c.held t.1) (ap (λ (l : List Conn). c ∷ l) (tallied_busy _ cs t.2))

module _ (n o : ℕ) where
  pub ebbed-rising : (lo : ℕ) (cs : List Conn) → Rising lo cs → Rising lo (ebbed n o cs)
  unfolding ebbed
  ebbed-rising lo [] r = tt
  ebbed-rising lo (c ∷ cs) r = elim (test (eqb n c.conn)) [ inl a ↦ rw a r | inr a ↦ rw a (r.0, ebbed-rising _ cs r.1) ]

  pub ebbed-long : (cs : List Conn) → length (ebbed n o cs) ≡ length cs
  unfolding ebbed
  ebbed-long [] = refl
  ebbed-long (c ∷ cs) = elim (test (eqb n c.conn)) [ inl a ↦ rw a | inr a ↦ rw a (ap suc (ebbed-long cs)) ]

  pub ebbed-light : (cs : List Conn) → Each Light cs → Each Light (ebbed n o cs)
  unfolding ebbed
  ebbed-light [] a = tt
  ebbed-light (c ∷ cs) a =
      elim (test (eqb n c.conn)) [
        | inl e ↦ rw e (record { held = omega (arith, a.0.held); owned = omega (arith, a.0.owned) }, a.1)
        | inr e ↦ rw e (a.0, ebbed-light cs a.1)
      ]

  above : (lo : ℕ) (cs : List Conn) → n < lo → Rising lo cs → unbump n o (filter busy cs) ≡ filter busy cs
  unfolding unbump filter
  above lo [] h r = refl
  above lo (c ∷ cs) h r =
      let rest = above (suc c.conn) cs (omega (arith, r.0)) r.1 in
      elim (test (busy c)) [
        | inl e ↦ rw (e, ne_eqb n c.conn (λ z. omega (arith, r.0)), rest)
        | inr e ↦ rw (e, rest)
      ]

  pub ebbed-busy : (lo : ℕ) (cs : List Conn) → Rising lo cs → filter busy (ebbed n o cs) ≡ unbump n o (filter busy cs)
  unfolding ebbed unbump filter
  ebbed-busy lo [] r = refl
  ebbed-busy lo (c ∷ cs) r =
      elim (test (eqb n c.conn)) [
        | inl a ↦ elim (test (busy c)) [
          | inl e ↦ elim (test (eqb c.held 1)) [
            | inl h ↦ rw (a, e, le-ltb 0 (c.held - 1) (omega (arith, eqb-true c.held 1 h))) (rw (a, h))
            | inr h ↦ rw (a, e, lt-ltb 0 (c.held - 1) (omega (arith, ltb-true 0 c.held e, eqb-false c.held 1 h))) (rw (a, h))
          ]
          | inr e ↦ rw (a, e, le-ltb 0 (c.held - 1) (omega (arith, ltb-false 0 c.held e))) (sym (above (suc c.conn) cs (omega (arith, eqb-true n c.conn a)) r.1))
        ]
        | inr a ↦ elim (test (busy c)) [
          | inl e ↦ rw (a, e) (rw a (ap (λ (l : List Conn). c ∷ l) (ebbed-busy (suc c.conn) cs r.1)))
          | inr e ↦ rw (a, e) (ebbed-busy (suc c.conn) cs r.1)
        ]
      ]
