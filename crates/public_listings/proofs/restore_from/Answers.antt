-- `public_listings::restore_from` meets its contract: the length of the store, and the writing.
use native.Mathlib.Omega.{arith}
use lib.ListN.{drop, length-take}
use Rattle.public_requests.proofs.Opening.{bytes_front}
use Rattle.public_listings.proofs.Restored.{whole_limit, whole_places, whole_readable, whole_written, short-store, restored}
use Rattle.public_listings.proofs.restore_from.Goals as goal

pub need-n-requires : goal.need-n-requires
need-n-requires c = (whole_limit c.requires, whole_places c.requires)

pub returns-then-s-n : goal.returns-then-s-n
returns-then-s-n c = short-store _ _ c.requires (omega (arith, c.need-n.ensures))

pub write_from-requires : goal.write_from-requires
write_from-requires c = whole_readable c.requires _ (simp length-take (omega (arith, c.need-n.ensures)))

pub returns : goal.returns
returns c =
    let n = c.need-n in
    rw n.ensures
    (restored _ _ c.requires _ (omega (arith, n.ensures))
    (bytes_front c.write_from.new.s (drop n.result c.args.s.now) (λ i. omega (arith, c.type_inv.s i)))
    (whole_written c.requires c.write_from.ensures))
