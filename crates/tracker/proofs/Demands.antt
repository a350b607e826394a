-- Demands 2 and 3 of a whole list of public calls (specs/Tracked), by induction over the list.
use Prim.Native.Nat.{ℕ}
use mathlib.Core.Path.{◌≡◌, refl, subst, ◌∙◌}
use mathlib.Core.List.{List, [], ◌∷◌}
use mathlib.Core.Option.{some}
use lib.ListN.{length}
use Rattle.machine.specs.State.{State}
use Rattle.machine.specs.Sound.{Sound}
use Rattle.machine.specs.Listing.{read_listing}
use Rattle.machine.specs.Call.{Call, Open, Restore, opening_refusal, restore_refusal}
use Rattle.machine.specs.Step.{empty, step}
use Rattle.machine.specs.Typed.{Each, CallTyped}
use Rattle.machine.specs.Demand3.{run, Bounds}
use Rattle.machine.proofs.Demand3.{demand_3}
use Rattle.store.specs.Image.{SoundStore, Bytes}
use Rattle.outcome.specs.Outcome.{Effect, Does}
use Rattle.outcome.specs.Steps.{Stepped}
use Rattle.outcome.proofs.Calls.{opened, read, does-steps, does-open, does_read}
use Rattle.tracker.specs.Tracked.{Ran, last_store, Agrees, Follows, Tracked}

-- ---- by induction over the list

sound-bounds : (n : ℕ) (s : State) → Sound s → Bounds s
unfolding run
sound-bounds n s g = (demand_3 n s [] g tt).0

-- a sound store of n bytes, and its state
record At (n : ℕ) (s : State) (b : List ℕ) : Type 0 where
  sound : SoundStore b
  state : sound.state ≡ s
  bytes : Bytes b
  long : length b ≡ n

module _ (n : ℕ) where
  steps : (c : Call) (s : State) (b : List ℕ) (e : Effect) → At n s b → CallTyped c → Does c b e → Stepped b (step n c s) e
  steps c s b e a t d =
      subst (λ (x : State). Stepped b (step n c x) e) a.state (subst (λ (m : ℕ). Stepped b (step m c a.sound.state) e) a.long (does-steps b e c a.sound t a.bytes d))

  next : (c : Call) (s : State) (b : List ℕ) (e : Effect) → At n s b → Stepped b (step n c s) e → At n (step n c s).state e.store
  next c s b e a r = record { sound = r.sound; state = r.state; bytes = r.bytes; long = r.long ∙ a.long }

  agrees : (c : Call) (s : State) (b : List ℕ) (e : Effect) → Stepped b (step n c s) e → Agrees n b c s e
  agrees c s b e r = record { stepped = r; bounds = sound-bounds n (step n c s).state (subst Sound r.state r.sound.sound) }

  follow : (calls : List Call) (es : List Effect) (s : State) (b : List ℕ) → At n s b → Each CallTyped calls → Ran b calls es → Follows n b s calls es
  follow [] [] s b a t r = tt
  follow [] (e ∷ es) s b a t r = absurd r
  follow (c ∷ cs) [] s b a t r = absurd r
  follow (c ∷ cs) (e ∷ es) s b a t r =
      let q = steps c s b e a t.0 r.0 in
      (agrees c s b e q, follow cs es (step n c s).state e.store (next c s b e a q) t.1 r.1)

  final : (calls : List Call) (es : List Effect) (s : State) (b : List ℕ) → At n s b → Each CallTyped calls → Ran b calls es → At n (run n calls s) (last_store b es)
  unfolding run last_store
  final [] [] s b a t r = a
  final [] (e ∷ es) s b a t r = absurd r
  final (c ∷ cs) [] s b a t r = absurd r
  final (c ∷ cs) (e ∷ es) s b a t r =
      let q = steps c s b e a t.0 r.0 in
      final cs es (step n c s).state e.store (next c s b e a q) t.1 r.1

track : (calls : List Call) (es : List Effect) (s : State) (b : List ℕ) → At (length b) s b → Each CallTyped calls → Ran b calls es → Tracked b s calls es
track calls es s b a t r =
    let l = final (length b) calls es s b a t r in
    let g : Sound s = subst Sound a.state a.sound.sound in
    let d = demand_3 (length b) s calls g t in
    record { follows = follow (length b) calls es s b a t r; store = l.sound; state = l.state; bounds = d.0; fair = d.1 }

-- "starts in the state that the first store writes"
pub tracked : (b : List ℕ) (calls : List Call) (es : List Effect) (w : SoundStore b) → Bytes b → Each CallTyped calls → Ran b calls es → Tracked b w.state calls es
tracked b calls es w p t r = track calls es w.state b (record { sound = w; state = refl; bytes = p; long = refl }) t r

-- "from an empty tracker": a list that begins with an opening that is carried out, on any store
pub tracked_open : (b : List ℕ) (L Q : ℕ) (e : Effect) (calls : List Call) (es : List Effect) → opening_refusal (length b) L Q ≡ 0 → Bytes b → Each CallTyped calls
    → Ran b (Open L Q ∷ calls) (e ∷ es) → Stepped b (opened L Q) e × Tracked e.store (empty L Q) calls es
tracked_open b L Q e calls es z p t r =
    let q = does-open b e L Q z p r.0 in
    (q, track calls es (empty L Q) e.store (record { sound = q.sound; state = q.state; bytes = q.bytes; long = refl }) t r.1)

-- "from .. any sound store": a list that begins with the reading of a listing that is carried out, on any store
pub tracked_restored : (b x : List ℕ) (t : State) (e : Effect) (calls : List Call) (es : List Effect) → read_listing x ≡ some t → restore_refusal (length b) (some t) ≡ 0 → Bytes b
    → Each CallTyped calls → Ran b (Restore x ∷ calls) (e ∷ es) → Stepped b (read t) e × Tracked e.store t calls es
tracked_restored b x t e calls es g z p w r =
    let q = does_read b e x t g z p r.0 in
    (q, track calls es t e.store (record { sound = q.sound; state = q.state; bytes = q.bytes; long = refl }) w r.1)
