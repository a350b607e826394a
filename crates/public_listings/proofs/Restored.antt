-- What the reading of a listing does, case by case of its refusals.
use Prim.Native.Nat.{ℕ, ◌≤◌, ◌<◌}
use mathlib.Core.Path.{◌≡◌, refl, sym, ap, subst, ◌∙◌}
use mathlib.Core.Bool.{Bool, true, false}
use mathlib.Core.List.{List, ◌++◌}
use mathlib.Core.Option.{none}
use lib.ListN.{length, drop}
use borrow.Author.Tests.{lt-ltb, le-ltb}
use Rattle.words.specs.Words.{Decides}
use Rattle.machine.specs.Limits.{need, max_announcements, max_places}
use Rattle.machine.specs.State.{State}
use Rattle.machine.specs.Sound.{Sound}
use Rattle.machine.specs.Listing.{read_listing}
use Rattle.machine.specs.SoundTest.{is_sound}
use Rattle.machine.specs.Call.{Restore, restore_refusal, refusal}
use Rattle.machine.specs.Step.{Refused, Number, carry_out, written, step_if}
use Rattle.machine.proofs.Tests.{never}
use Rattle.machine.proofs.SoundTest.{sound-decides}
use Rattle.store.specs.Image.{Writes, stored, Bytes, need_of}
use Rattle.store.proofs.Stored.{written_bytes}
use Rattle.outcome.specs.declared.refusal.Refusal.{Refusal}
use Rattle.outcome.specs.declared.refusal.Refusal.TheVariants.{StoreTooShort, SizesOutOfRange, NotSound, NoConnection, NowTooLate, TooManyParents}
use Rattle.outcome.specs.declared.refusal.Refusal.TheVariants.{AnswerTooShort, NoPlace, UnreadableLine, BadPayload, NotAListing, ListingNotSound, WrongHashes}
use Rattle.outcome.specs.Refusals.{number_of}
use Rattle.outcome.specs.Outcome.{outcome_if, Leaves}
use Rattle.outcome.proofs.Contract.{does_not_restore}
use Rattle.listed_lines.specs.declared.line.Head as line-head
use Rattle.restoring.specs.Given.{Readable, Restored}
use Rattle.public_listings.specs.Verdicts.{Lists, Whole, RefusedAs}

-- ---- a text that lists a sound state

module _ {x : List ℕ} {h : line-head.Head} {e : ℕ} (y : Whole x h e) where
  pub whole_sound : Sound y.reads.state
  whole_sound = by (is_sound y.reads.state) y.told (sound-decides y.reads.state)
    where
      by : (r : Bool) → r ≡ true → Decides r (Sound y.reads.state) → Sound y.reads.state
      by true g d = d
      by false g d = never g

  pub needs-are : need_of y.reads.state ≡ need h.limit h.places
  needs-are = ap (λ (s : State). need s.limit s.places) y.reads.head

  pub whole_limit : h.limit ≤ max_announcements
  whole_limit = subst (λ (n : ℕ). n ≤ max_announcements) (ap (λ (s : State). s.limit) y.reads.head) whole_sound.most-limit

  pub whole_places : h.places ≤ max_places
  whole_places = subst (λ (n : ℕ). n ≤ max_places) (ap (λ (s : State). s.places) y.reads.head) whole_sound.most-places

  -- what the writer asks for, and what it leaves
  pub whole_readable : (n : ℕ) → n ≡ need h.limit h.places → Readable x h e n
  whole_readable n g = record { state = y.reads.state; head = y.reads.head; body = y.reads.body; sound = whole_sound; needs = g ∙ sym needs-are }

  pub whole_written : {p : List ℕ} → Restored x h e p → Writes p y.reads.state
  whole_written w = w y.reads.state whole_sound y.reads.head y.reads.body

-- ---- each way out

module _ (x b : List ℕ) where
  -- "an unreadable .. line .. gets 11"
  unreadable : read_listing x ≡ none → Leaves (Restore x) b b (Refused 11)
  unfolding restore_refusal
  unreadable e = does_not_restore b _ x refl 10 (rw e) refl refl

  -- "a readable listing of an unsound state gets 12"
  unsound : Lists x false → Leaves (Restore x) b b (Refused 12)
  unfolding restore_refusal
  unsound l = does_not_restore b _ x refl 11 (rw (l.read, l.told)) refl refl

  pub not_listed : (r : Refusal) → RefusedAs x r → Leaves (Restore x) b b (Refused (number_of r))
  not_listed NotAListing l = unreadable l
  not_listed ListingNotSound l = unsound l
  not_listed StoreTooShort l = absurd l
  not_listed SizesOutOfRange l = absurd l
  not_listed NotSound l = absurd l
  not_listed NoConnection l = absurd l
  not_listed NowTooLate l = absurd l
  not_listed TooManyParents l = absurd l
  not_listed AnswerTooShort l = absurd l
  not_listed NoPlace l = absurd l
  not_listed UnreadableLine l = absurd l
  not_listed BadPayload l = absurd l
  not_listed WrongHashes l = absurd l

  module _ {h : line-head.Head} {e : ℕ} (y : Whole x h e) where
    -- "a receiving store shorter than the state's need gets 1 after those"
    pub short-store : length b < need h.limit h.places → Leaves (Restore x) b b (Refused 1)
    unfolding restore_refusal
    short-store g = does_not_restore b _ x refl 0 (rw (y.reads.read, y.told, (needs-are y), lt-ltb (length b) (need h.limit h.places) g)) refl refl

    left : (p : List ℕ) → need_of y.reads.state ≤ length b → Bytes p → Writes p y.reads.state → Leaves (Restore x) b (p ++ drop (need_of y.reads.state) b) (Number 1)
    unfolding outcome_if step_if refusal restore_refusal carry_out written stored
    left p g q w = record {
      sound = false;
      tested = tt;
      effect = rw (y.reads.read, y.told, le-ltb (length b) (need_of y.reads.state) g, ← written_bytes p y.reads.state q w);
    }

    pub restored : (p : List ℕ) → need h.limit h.places ≤ length b → Bytes p → Writes p y.reads.state → Leaves (Restore x) b (p ++ drop (need h.limit h.places) b) (Number 1)
    restored p g q w =
        subst (λ (n : ℕ). Leaves (Restore x) b (p ++ drop n b) (Number 1)) (needs-are y) (left p (subst (λ (n : ℕ). n ≤ length b) (sym (needs-are y)) g) q w)
