-- What a public call has to show of its reply, buffer and bytes to have its contract.
use Prim.Native.Nat.{ℕ, suc}
use mathlib.Core.Path.{◌≡◌, refl, sym, ap, subst, ◌∙◌}
use mathlib.Core.Bool.{Bool, true, false}
use mathlib.Core.List.{List, []}
use mathlib.Core.Option.{some}
use lib.Dec.{eqb-suc-zero}
use lib.ListN.{length, take, drop}
use Rattle.words.specs.Words.{words}
use Rattle.machine.specs.Limits.{need}
use Rattle.machine.specs.State.{State}
use Rattle.machine.specs.Listing.{read_listing}
use Rattle.machine.specs.Call.{Ask, Call, Open, Restore, On, named, opening_refusal, restore_refusal, ask_refusal, refusal}
use Rattle.machine.specs.Step.{Refused, Number, perform, carry_out, answer_bytes, written, empty, buffer_of, step_if}
use Rattle.store.specs.Image.{Writes, SoundStore, stored, Bytes, need_of}
use Rattle.store.specs.Read.{state_of}
use Rattle.store.proofs.Stored.{stored_from, state-shown, store_kept}
use Rattle.outcome.specs.Outcome.{Effect, outcome_if, Does}

-- ---- the outcome, by the refusal

-- what a call that is carried out leaves, and what a refused one does
abbrev done : List ℕ → Call → State → Effect
done b c s = record { reply = (carry_out c s).reply; buffer = written (answer_bytes (carry_out c s).reply) (buffer_of c s); store = stored (carry_out c s).state b }

abbrev kept : List ℕ → Call → State → ℕ → Effect
kept b c s n = record { reply = Refused n; buffer = buffer_of c s; store = b }

module _ (b : List ℕ) (x : Bool) (c : Call) where
  outcome_done : refusal (length b) x c (state_of (words b)) ≡ 0 → outcome_if x b c ≡ done b c (state_of (words b))
  unfolding outcome_if step_if
  outcome_done z = rw z

  outcome_kept : (m : ℕ) → refusal (length b) x c (state_of (words b)) ≡ suc m → outcome_if x b c ≡ kept b c (state_of (words b)) (suc m)
  unfolding outcome_if step_if
  outcome_kept m z = rw (z, eqb-suc-zero m)

-- an effect is known by its three parts
same_effect : (e f : Effect) → e.reply ≡ f.reply → e.buffer ≡ f.buffer → e.store ≡ f.store → e ≡ f
same_effect e f r u t = λ i. record { reply = r i; buffer = u i; store = t i }

-- ---- calls other than opening

module _ (b : List ℕ) (e : Effect) (a : Ask) where
  -- on a sound store, carried out
  module _ (w : SoundStore b) (z : ask_refusal true a w.state ≡ 0) (r : e.reply ≡ (perform a w.state).reply)
      (u : e.buffer ≡ written (answer_bytes (perform a w.state).reply) (named a w.state).buffer) where
    abbrev next : State
    next = (perform a w.state).state

    is_done : outcome_if true b (On a) ≡ done b (On a) w.state
    unfolding refusal
    is_done = subst (λ (s : State). ask_refusal true a s ≡ 0 → outcome_if true b (On a) ≡ done b (On a) s) (state-shown b w) (outcome_done b true (On a)) z

    does-stored : e.store ≡ stored next b → Does (On a) b e
    unfolding carry_out
    does-stored t = record { sound = true; tested = w; effect = same_effect e (done b (On a) w.state) r u t ∙ sym is_done }

    -- the bytes as far as the need write the next state, and those past it stay
    pub does-carried : Bytes e.store → Writes (take (need_of next) e.store) next → drop (need_of next) e.store ≡ drop (need_of next) b → Does (On a) b e
    does-carried p v t = does-stored (stored_from next b e.store p v t)

    -- or the state stays, and every byte
    pub does-nothing : next ≡ w.state → Bytes b → e.store ≡ b → Does (On a) b e
    does-nothing q p t = does-stored (t ∙ store_kept b w p ∙ ap (λ (s : State). stored s b) (sym q))

  -- refused
  pub does-refused : (w : SoundStore b) (m : ℕ) → ask_refusal true a w.state ≡ suc m → e.reply ≡ Refused (suc m) → e.buffer ≡ (named a w.state).buffer → e.store ≡ b → Does (On a) b e
  unfolding refusal
  does-refused w m z r u t =
      let q : outcome_if true b (On a) ≡ kept b (On a) w.state (suc m) = subst (λ (s : State). ask_refusal true a s ≡ suc m → outcome_if true b (On a) ≡ kept b (On a) s (suc m)) (state-shown b w)
      (outcome_kept b true (On a) m) z in
      record { sound = true; tested = w; effect = same_effect e (kept b (On a) w.state (suc m)) r u t ∙ sym q }

  -- on a store that is not sound
  pub does-unsound : (SoundStore b → ⊥) → e.reply ≡ Refused 3 → e.buffer ≡ (named a (state_of (words b))).buffer → e.store ≡ b → Does (On a) b e
  unfolding refusal ask_refusal
  does-unsound n r u t =
      record { sound = false; tested = n; effect = same_effect e (kept b (On a) (state_of (words b)) 3) r u t ∙ sym (outcome_kept b false (On a) 2 refl) }

-- ---- opening

module _ (b : List ℕ) (e : Effect) (L Q : ℕ) (u : e.buffer ≡ []) where
  pub does-opened : opening_refusal (length b) L Q ≡ 0 → e.reply ≡ Number 1 → Bytes e.store → Writes (take (need L Q) e.store) (empty L Q) → drop (need L Q) e.store ≡ drop (need L Q) b
      → Does (Open L Q) b e
  unfolding refusal carry_out written
  does-opened z r p v t =
      record { sound = true; tested = tt; effect = same_effect e (done b (Open L Q) (state_of (words b))) r u (stored_from (empty L Q) b e.store p v t) ∙ sym (outcome_done b true (Open L Q) z) }

  pub does_not_open : (m : ℕ) → opening_refusal (length b) L Q ≡ suc m → e.reply ≡ Refused (suc m) → e.store ≡ b → Does (Open L Q) b e
  unfolding refusal
  does_not_open m z r t =
      record { sound = true; tested = tt; effect = same_effect e (kept b (Open L Q) (state_of (words b)) (suc m)) r u t ∙ sym (outcome_kept b true (Open L Q) m z) }

-- ---- the reading of a listing

module _ (b : List ℕ) (e : Effect) (x : List ℕ) (u : e.buffer ≡ []) where
  pub does-restored : (t : State) → read_listing x ≡ some t → restore_refusal (length b) (some t) ≡ 0 → e.reply ≡ Number 1 → Bytes e.store → Writes (take (need_of t) e.store) t
      → drop (need_of t) e.store ≡ drop (need_of t) b → Does (Restore x) b e
  unfolding refusal carry_out written
  does-restored t g z r p v d =
      record { sound = true; tested = tt; effect = same_effect e (record { reply = Number 1; buffer = []; store = stored t b }) r u (stored_from t b e.store p v d) ∙ sym shown }
    where
      shown : outcome_if true b (Restore x) ≡ record { reply = Number 1; buffer = []; store = stored t b }
      shown = outcome_done b true (Restore x) (rw g z) ∙ rw g

  pub does_not_restore : (m : ℕ) → restore_refusal (length b) (read_listing x) ≡ suc m → e.reply ≡ Refused (suc m) → e.store ≡ b → Does (Restore x) b e
  unfolding refusal
  does_not_restore m z r t =
      record { sound = true; tested = tt; effect = same_effect e (kept b (Restore x) (state_of (words b)) (suc m)) r u t ∙ sym (outcome_kept b true (Restore x) m z) }
