-- The verdict on a text, by its form and by the test of the state that it lists.
use Prim.Native.Nat.{ℕ}
use mathlib.Core.Path.{◌≡◌, sym, ◌∙◌}
use mathlib.Core.Bool.{Bool, true, false}
use mathlib.Core.List.{List}
use Rattle.std.specs.Prelude.{Some, None, Ok, Err}
use Rattle.listed_form.specs.declared.Listing.{Listing}
use Rattle.listed_form.specs.Given.{FormRead}
use Rattle.outcome.specs.declared.refusal.Refusal.TheVariants.{NotAListing, ListingNotSound}
use Rattle.public_listings.specs.Verdicts.{Sounds, VerdictOf}

pub no-form : {b : List ℕ} → FormRead b None → VerdictOf b (Err NotAListing)
no-form v = record { is = v.is }

module _ {b : List ℕ} {l : Listing} (v : FormRead b (Some l)) where
  pub not_sound : {x : Bool} → Sounds l.lines.text.now l.head l.lines.at x → x ≡ false → VerdictOf b (Err ListingNotSound)
  not_sound t g =
      let r = v.is.1 in
      record { is = record { state = r.state; read = r.read; told = sym ((rw v.is.0 at t).is r) ∙ g } }

  pub is-sound : {x : Bool} → Sounds l.lines.text.now l.head l.lines.at x → x ≡ true → VerdictOf b (Ok l)
  is-sound t g = let r = v.is.1 in record { is = (v.is.0, record { reads = r; told = sym ((rw v.is.0 at t).is r) ∙ g }) }
