-- What a text is: no listing (11), the listing of an unsound state (12), or that of a sound one.
use Rattle.std.specs.Prelude.{ℕ, ◌≡◌, Bool, true, false, List, Result, Ok, Err}
use Rattle.std.proofs.Math.Option.{none, some}
use Rattle.machine.specs.State.{State}
use Rattle.machine.specs.Listing.{read_listing}
use Rattle.machine.specs.SoundTest.{is_sound}
use Rattle.listed_lines.specs.declared.line.Head as line-head
use Rattle.listed_form.specs.declared.Listing.{Listing}
use Rattle.listed_form.specs.Given.{Reads}
use Rattle.outcome.specs.declared.refusal.Refusal.{Refusal}
use Rattle.outcome.specs.declared.refusal.Refusal.TheVariants.{NotAListing, ListingNotSound}

-- whether the state that the text lists, whose first line is h and whose other lines begin at index e, is sound
pub record Sounds (b : List ℕ) (h : line-head.Head) (e : ℕ) (r : Bool) : Type 0 where
  pub is : (y : Reads b h e) → r ≡ is_sound y.state

pub record Lists (b : List ℕ) (sound : Bool) : Type 0 where
  pub state : State
  pub read : read_listing b ≡ some state
  pub told : is_sound state ≡ sound

pub record Whole (b : List ℕ) (h : line-head.Head) (e : ℕ) : Type 0 where
  pub reads : Reads b h e
  pub told : is_sound reads.state ≡ true

-- refused: the text is no listing, or that of an unsound state
abbrev pub RefusedAs : List ℕ → Refusal → Type 0
RefusedAs b NotAListing = read_listing b ≡ none
RefusedAs b ListingNotSound = Lists b false
RefusedAs b _ = ⊥

abbrev pub VerdictAs : List ℕ → Result Listing Refusal → Type 0
VerdictAs b (Err r) = RefusedAs b r
VerdictAs b (Ok l) = (l.lines.text.now ≡ b) × Whole b l.head l.lines.at

pub record VerdictOf (b : List ℕ) (r : Result Listing Refusal) : Type 0 where
  pub is : VerdictAs b r
