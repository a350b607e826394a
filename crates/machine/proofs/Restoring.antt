-- Saving and reading as calls: their refusals, and that each gives back what the other was given.
use Prim.Native.Nat.{ℕ, ◌≤◌, ◌<◌}
use mathlib.Core.Path.{◌≡◌, refl}
use mathlib.Core.Logic.{inl, inr}
use mathlib.Core.Bool.{true}
use mathlib.Core.List.{List, []}
use mathlib.Core.Option.{Option, none, some}
use native.Mathlib.Omega.{arith}
use lib.Dec.{ltb}
use lib.ListN.{length}
use borrow.Author.Tests.{lt-ltb, le-ltb, ltb-false}
use Rattle.machine.specs.Limits.{need}
use Rattle.machine.specs.State.{State}
use Rattle.machine.specs.Sound.{Sound}
use Rattle.machine.specs.SoundTest.{is_sound}
use Rattle.machine.specs.Listing.{listing, read_listing}
use Rattle.machine.specs.Claim.{elem}
use Rattle.machine.specs.Owners.{ascending}
use Rattle.machine.specs.Call.{late, Buffer, Save, Restore, On, named, any_late, takes_place, restore_refusal, ask_refusal, refusal}
use Rattle.machine.specs.Step.{Saved, Number, Outcome, perform, carry_out, written, step_if, step}
use Rattle.machine.proofs.Tests.{test}
use Rattle.machine.proofs.SoundTest.{sound-passes, passes-sound}
use Rattle.machine.proofs.Listings.{listing_read, read-listing}

-- ---- the refusals of a reading, in turn

module _ (n : ℕ) (x : List ℕ) where
  -- "An unreadable or misplaced line, .. no line at all or falling keys gets 11"
  pub unreadable : read_listing x ≡ none → restore_refusal n (read_listing x) ≡ 11
  unfolding restore_refusal
  unreadable e = rw e

  module _ (t : State) (e : read_listing x ≡ some t) where
    -- "a readable listing of an unsound state gets 12"
    pub unsound : (Sound t → ⊥) → restore_refusal n (read_listing x) ≡ 12
    unfolding restore_refusal
    unsound h = elim (test (is_sound t)) [ inl d ↦ absurd (h (passes-sound t d)) | inr d ↦ rw (e, d) ]

    -- "a receiving store shorter than the state's need gets 1 after those"
    pub too_short : Sound t → n < need t.limit t.places → restore_refusal n (read_listing x) ≡ 1
    unfolding restore_refusal
    too_short h l = rw (e, sound-passes t h, lt-ltb n (need t.limit t.places) l)

    pub taken : Sound t → need t.limit t.places ≤ n → restore_refusal n (read_listing x) ≡ 0
    unfolding restore_refusal
    taken h l = rw (e, sound-passes t h, le-ltb n (need t.limit t.places) l)

-- what a reading that is carried out has read
pub record Read (n : ℕ) (x : List ℕ) : Type 0 where
  pub state : State
  pub is : read_listing x ≡ some state
  pub sound : Sound state
  pub room : need state.limit state.places ≤ n

pub read_state : (n : ℕ) (x : List ℕ) → restore_refusal n (read_listing x) ≡ 0 → Read n x
unfolding restore_refusal
read_state n x = go (read_listing x) refl
  where
    go : (o : Option State) → read_listing x ≡ o → restore_refusal n o ≡ 0 → Read n x
    go none q e = absurd (omega arith)
    go (some t) q e = elim (test (is_sound t)) [
      | inl d ↦ elim (test (ltb n (need t.limit t.places))) [
        | inl l ↦ absurd (omega (arith, rw (d, l) at e))
        | inr l ↦ record { state = t; is = q; sound = passes-sound t d; room = ltb-false n (need t.limit t.places) l }
      ]
      | inr d ↦ absurd (omega (arith, rw d at e))
    ]

-- ---- the refusals of saving

-- "saving needs a buffer of its length"
pub no_room : (b : Buffer) (s : State) → length b < length (listing s) → ask_refusal true (Save b) s ≡ 7
unfolding ask_refusal named elem any_late late ascending
no_room b s h = rw (lt-ltb (length b) (length (listing s)) h)

pub saves : (b : Buffer) (s : State) → length (listing s) ≤ length b → ask_refusal true (Save b) s ≡ 0
unfolding ask_refusal named elem any_late takes_place late ascending
saves b s h = rw (le-ltb (length b) (length (listing s)) h)

-- ---- one after the other

abbrev pub saved : List ℕ → Buffer → State → Outcome
saved x b s = record { reply = Saved x; buffer = written x b; state = s }

-- the listing stands at the buffer's head, and the state stays
pub save_step : (n : ℕ) (b : Buffer) (s : State) → length (listing s) ≤ length b → step n (On (Save b)) s ≡ saved (listing s) b s
unfolding step_if refusal carry_out perform named
save_step n b s h = rw (saves b s h)

-- "Reading a listing gives the store .. that was saved": whatever state t was there
pub save-restore : (n : ℕ) (s t : State) → Sound s → need s.limit s.places ≤ n → step n (Restore (listing s)) t ≡ record { reply = Number 1; buffer = []; state = s }
unfolding step_if refusal carry_out written
save-restore n s t v h = rw (taken n (listing s) s (listing_read s v) v h, listing_read s v)

-- what was read is saved as it was
pub restore-save : (n m : ℕ) (x : List ℕ) (s : State) (b : Buffer) → restore_refusal n (read_listing x) ≡ 0 → length x ≤ length b
    → step m (On (Save b)) (step n (Restore x) s).state ≡ saved x b (step n (Restore x) s).state
restore-save n m x s b e h =
    let r = read_state n x e in
    let g : (step n (Restore x) s).state ≡ r.state = left r.state r.is in
    let l : listing r.state ≡ x = read-listing x r.state r.is in
    rw (g, save_step m b r.state (rw l h), l)
  where
    left : (t : State) → read_listing x ≡ some t → (step n (Restore x) s).state ≡ t
    left t q = unfold step_if refusal carry_out in rw (e, q)
