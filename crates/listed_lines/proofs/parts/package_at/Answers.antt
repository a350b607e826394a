-- `listed_lines::parts::package_at` meets its contract.
use mathlib.Core.Path.{ap}
use Rattle.machine.specs.Fields.{hash_of}
use Rattle.machine.specs.Listing.{short, package_then}
use Rattle.reading.specs.Given.{hash_at, bool_at}
use Rattle.listed_lines.specs.Given.{list_at}
use Rattle.listed_lines.proofs.Anywhere.{number_took, bool_took}
use Rattle.listed_lines.proofs.Missing.{nothing, something}
use Rattle.listed_lines.proofs.Forms.{package-empty, no-combined, no-wtxids, no-stage, package_is}
use Rattle.listed_lines.proofs.parts.package_at.Goals as goal

pub returns-in-Some : goal.returns-in-Some
returns-in-Some c = nothing (package_then short) c.in-Some.ensures

pub returns-in_err-combined : goal.returns-in_err-combined
returns-in_err-combined c =
    rw c.from_residual.ensures
    (something (package_then short) c.in_default.ensures package-empty (no-combined (number_took hash_of c.hash_at.ensures) (ap hash_at c.in_err-combined.was)))

pub returns-in_err-list : goal.returns-in_err-list
returns-in_err-list c =
    rw c.from_residual-in_err-list.ensures
    (something (package_then short) c.in_default.ensures package-empty
    (no-wtxids (number_took hash_of c.hash_at.ensures) (ap hash_at c.in_ok-combined.was) c.list_at.ensures (ap (list_at _) c.in_err-list.was)))

pub returns-in_err-enqueued : goal.returns-in_err-enqueued
returns-in_err-enqueued c =
    rw c.from_residual-in_err-enqueued.ensures
    (something (package_then short) c.in_default.ensures package-empty
    (no-stage (number_took hash_of c.hash_at.ensures) (ap hash_at c.in_ok-combined.was) c.list_at.ensures (ap (list_at _) c.in_ok-list.was)
    (bool_took c.bool_at.ensures) (ap bool_at c.in_err-enqueued.was)))

pub returns : goal.returns
returns c =
    something (package_then short) c.in_default.ensures package-empty
    (package_is (number_took hash_of c.hash_at.ensures) (ap hash_at c.in_ok-combined.was) c.list_at.ensures (ap (list_at _) c.in_ok-list.was)
    (bool_took c.bool_at.ensures) (ap bool_at c.in_ok-enqueued.was))
