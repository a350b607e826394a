-- `public_requests::open` meets its contract: one law of proofs/Opening for each way out.
use mathlib.Core.Path.{sym, ◌∙◌}
use native.Mathlib.Omega.{arith}
use lib.ListN.{drop}
use Rattle.public_requests.proofs.Opening.{bytes_front, bad-sizes, short-store, opened}
use Rattle.public_requests.proofs.open.Goals as goal

pub returns-then-not-sizes_taken : goal.returns-then-not-sizes_taken
returns-then-not-sizes_taken c = bad-sizes _ _ _ (sym c.sizes_taken.ensures ∙ c.if-not-sizes_taken.true)

pub returns-then-s-n : goal.returns-then-s-n
returns-then-s-n c = short-store _ _ _ (sym c.sizes_taken.ensures ∙ c.if-not-sizes_taken.false) (omega (arith, c.need-n.ensures))

pub returns : goal.returns
returns c =
    rw c.need-n.ensures
    (opened _ _ _ _ (sym c.sizes_taken.ensures ∙ c.if-not-sizes_taken.false)
    (omega (arith, c.need-n.ensures))
    (bytes_front c.fill.new.s
    (drop c.need-n.result c.args.s.now)
    (λ i. omega (arith, c.type_inv.s i))) c.fill.ensures)
