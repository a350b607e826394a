-- `public_listings::verdict::sound_listing` meets its contract.
use Rattle.public_listings.proofs.Judging.{no-form, not_sound, is-sound}
use Rattle.public_listings.proofs.verdict.sound_listing.Goals as goal

pub returns-in_default : goal.returns-in_default
returns-in_default c = no-form c.in_default.ensures

pub returns-then-not-sound_lines : goal.returns-then-not-sound_lines
returns-then-not-sound_lines c = not_sound c.in-Some.ensures c.sound_lines.ensures c.if-not-sound_lines.true

pub returns : goal.returns
returns c = is-sound c.in-Some.ensures c.sound_lines.ensures c.if-not-sound_lines.false
