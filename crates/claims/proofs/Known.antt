-- forget_known: what guards a request, and its parents announced for its owner.
use Prim.Native.Nat.{ℕ, ◌<◌}
use mathlib.Core.Path.{◌≡◌, refl, sym, ap, ◌∙◌}
use mathlib.Core.Bool.{Bool, true, false, ◌||◌}
use mathlib.Core.List.{List}
use mathlib.Core.Option.{Option, none, some}
use Rattle.std.specs.Option.{option_eq, is_some as is_some_of}
use Rattle.std.specs.Prelude.{Some}
use Rattle.ident.specs.Number.{Key}
use Rattle.machine.specs.Limits.{word}
use Rattle.machine.specs.State.{Package, Request, State, on_table, limits_of, is_some}
use Rattle.machine.specs.Table.{at}
use Rattle.machine.specs.Fail.{forget}
use Rattle.machine.specs.Leave.{alive, guarded, owner_parents, forget_known}
use Rattle.machine.specs.Sound.{Sound}
use Rattle.machine.proofs.Table.{lawful_at}
use Rattle.machine.proofs.Kept.{sound-table}
use Rattle.machine.proofs.Leave.{bounded-owner_parents as bounded-handed}
use Rattle.store.specs.Shown.{Kept}
use Rattle.requests.specs.Changes.{Makes, Tells}
use Rattle.package_stages.specs.declared.Request.{Request as Read}
use Rattle.package_stages.specs.contracts.StagePartialEq.TheImpl.{eq-value}
use Rattle.package_stages.specs.declared.Stage.TheVariants.{Enqueued}
use Rattle.package_stages.specs.Changes.{owner_as, RequestOf}
use Rattle.package_stages.proofs.Read.{staged}
use Rattle.failing.proofs.Releasing.{enqueued-is}
use Rattle.claims.specs.Changes.{Becomes}

-- ---- what guards a request

placed_either : (i : Bool) (p : Option Package) → (is_some p || i) ≡ (i || is_some p)
placed_either true (some p) = refl
placed_either true none = refl
placed_either false (some p) = refl
placed_either false none = refl

module _ {q : Request} {r : Read} (x : RequestOf q r) (v : ℕ) where
  pub guarded-enqueued : true ≡ option_eq eq-value.it r.stage (Some Enqueued) → true ≡ guarded v q
  unfolding guarded
  guarded-enqueued e = rw (sym (enqueued-is x e))

  module _ (n : false ≡ option_eq eq-value.it r.stage (Some Enqueued)) where
    pub guarded_in_time : is_some_of r.stage ≡ true → {b : Bool} → b ≡ alive v (owner_as r.owner) → b ≡ guarded v q
    unfolding guarded
    guarded_in_time h e = rw (sym (enqueued-is x n), placed_either q.info q.«package», sym (staged x) ∙ h) (e ∙ ap (alive v) x.owner)

    pub guarded_not : is_some_of r.stage ≡ false → false ≡ guarded v q
    unfolding guarded
    guarded_not h = rw (sym (enqueued-is x n), placed_either q.info q.«package», sym (staged x) ∙ h)

-- ---- the parents of a request, announced for its owner

-- ---- the whole

module _ {b : List ℕ} (k : Key) (v : ℕ) where
  pub known_kept : Tells b (λ t. true ≡ guarded v (at k t)) → Becomes b b (λ m t. forget_known m k v t)
  unfolding forget_known
  known_kept g st s w = rw (sym (g st s w)) w

  module _ (late : v < word) {b₁ : List ℕ} (h : Becomes b b₁ (λ m t. owner_parents m v (at k t).owner (at k t) t)) where
    abbrev after : State → State
    after st = on_table (owner_parents (limits_of st) v (at k st.table).owner (at k st.table) st.table) st

    after-sound : (st : State) → Sound st → Sound (after st)
    after-sound st s = sound-table s (bounded-handed v (at k st.table).owner (at k st.table) late refl (lawful_at k st.table s.bounded.lawful) s.bounded)

    pub handed_kept : Kept b → Kept b₁
    handed_kept p = record { state = after p.state; sound = after-sound p.state p.sound; writes = h p.state p.sound p.writes }

    pub known_gone : {b₂ : List ℕ} → Tells b (λ t. false ≡ guarded v (at k t)) → Makes b₁ b₂ (λ t. Unit {0}) (forget k) → Becomes b b₂ (λ m t. forget_known m k v t)
    unfolding forget_known
    known_gone g f st s w = rw (sym (g st s w)) (f (after st) (after-sound st s) (h st s w) tt)
