-- Where L are held and nobody can be evicted, a preferred announcement changes nothing.
use Prim.Native.Nat.{ℕ, ◌≤◌}
use mathlib.Core.Path.{◌≡◌, refl, sym, ap, ◌∙◌}
use mathlib.Core.Logic.{inl, inr}
use mathlib.Core.Bool.{Bool, true}
use mathlib.Core.List.{List, [], ◌∷◌, ◌++◌}
use mathlib.Core.Option.{Option, none, some}
use native.Mathlib.Omega.{arith}
use lib.Dec.{leb}
use lib.ListN.{length}
use borrow.Author.Tests.{le-leb}
use Rattle.ident.specs.Number.{Key}
use Rattle.machine.specs.Limits.{Limits}
use Rattle.machine.specs.State.{Candidate, Entry, State, Table, Answer, refused}
use Rattle.machine.specs.Table.{held, held_at}
use Rattle.machine.specs.Announce.{victims_in, victims, greatest, anywhere, at_hash, evicting, announce_at, announce_keyed}
use Rattle.machine.specs.Sound.{Sound}
use Rattle.machine.proofs.Tests.{test}
use Rattle.store.specs.Flat.{rows_of}
use Rattle.announcing.specs.Falls.{fallen, head_of}
use Rattle.announcing.proofs.Deciding.{Barred, Crowded, when-barred, when-crowded, when-full}
use Rattle.announcing.proofs.Falling.{fallen-head}
use Rattle.announcing.proofs.Victims.{greatest-rows}

-- ---- nobody of all, nobody under some keys

none_in_lem : {A : Type 0} (a b : List A) → a ++ b ≡ [] → (a ≡ []) × (b ≡ [])
none_in_lem [] b e = (refl, e)
none_in_lem (x ∷ a) b e = absurd (omega (arith, ap length e))

pub nobody_under : (p : Key → Bool) (t : Table) → victims anywhere t ≡ [] → victims p t ≡ []
unfolding victims
nobody_under p [] e = refl
nobody_under p (r ∷ t) e =
    let z = none_in_lem (victims_in r r.candidates) (victims anywhere t) e in
    elim (test (p r.key)) [ inl q ↦ rw (q, z.0) (nobody_under p t z.1) | inr q ↦ rw q (nobody_under p t z.1) ]

head_none : (l : List Entry) → length l ≡ 0 → head_of l ≡ none
head_none [] e = refl
head_none (x ∷ l) e = absurd (omega arith)

pub none_greatest : (l : List Entry) → greatest l ≡ none → l ≡ []
unfolding greatest
none_greatest [] q = refl
none_greatest (x ∷ l) q = let z : ◌≡◌ {A = ℕ} 0 1 = cc in absurd (omega arith)

-- by the rows
pub nobody-listed : (st : State) → Sound st → length (fallen [] (rows_of st.table)) ≡ 0 → victims anywhere st.table ≡ []
nobody-listed st s e =
    let rs = rows_of st.table in
    none_greatest (victims anywhere st.table) (sym (greatest-rows st.table s.bounded.lawful) ∙ sym (fallen-head [] rs) ∙ head_none (fallen [] rs) e)

-- ---- the announcement

module _ (m : Limits) (c : Candidate) (t : Table) (p : c.preferred ≡ true) where
  nobody_goes : (k : Key) (q : Key → Bool) → victims q t ≡ [] → evicting (greatest (victims q t)) k c t ≡ refused t
  unfolding evicting greatest
  nobody_goes k q e = ap (λ (l : List Entry). evicting (greatest l) k c t) e

  -- eight at its hash, none of whom can be evicted
  pub nobody_there : (k : Key) → leb m.alternates (held_at k.hash t) ≡ true → victims (at_hash k.hash) t ≡ [] → announce_at m k c t ≡ refused t
  nobody_there k f e =
      elim (test (Barred m k c t)) [
        | inl b ↦ when-barred m k c t b
        | inr b ↦ when-crowded m k c t b f p ∙ nobody_goes k (at_hash k.hash) e
      ]

  module _ (l : m.announcements ≤ held t) (e : victims anywhere t ≡ []) where
    pub nobody-anywhere : (k : Key) → announce_at m k c t ≡ refused t
    nobody-anywhere k =
        elim (test (Crowded m k c t)) [
          | inl f ↦ nobody_there k f (nobody_under (at_hash k.hash) t e)
          | inr f ↦ elim (test (Barred m k c t)) [
            | inl b ↦ when-barred m k c t b
            | inr b ↦ when-full m k c t b f (le-leb m.announcements (held t) l) p ∙ nobody_goes k anywhere e
          ]
        ]

    pub nobody-keyed : (x : Option Key) → (announce_keyed m x c t).table ≡ t
    unfolding announce_keyed
    nobody-keyed none = refl
    nobody-keyed (some k) = ap (λ (a : Answer). a.table) (nobody-anywhere k)
