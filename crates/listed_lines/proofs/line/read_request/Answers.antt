-- `listed_lines::line::read_request` meets its contract.
use mathlib.Core.Path.{ap}
use Rattle.reading.specs.Given.{key_at, bool_at}
use Rattle.listed_lines.specs.Given.{owner_at, package_at, list_at}
use Rattle.listed_lines.proofs.Anywhere.{bool_took}
use Rattle.reading.proofs.Taking.{not_last, is_last}
use Rattle.listed_lines.proofs.Forms.{request_1, request_2, request_3, request_4, request_5, request_6, request_more, request_is}
use Rattle.listed_lines.proofs.line.read_request.Goals as goal

pub returns-in_err-key : goal.returns-in_err-key
returns-in_err-key c =
    rw c.from_residual.ensures
    (request_1 c.first_key.ensures (ap key_at c.in_err-key.was))

pub returns-in_err-owner : goal.returns-in_err-owner
returns-in_err-owner c =
    rw c.from_residual-in_err-owner.ensures
    (request_2 c.first_key.ensures (ap key_at c.in_ok-key.was)
    c.owner_at.ensures (ap owner_at c.in_err-owner.was))

pub returns-in_err-info : goal.returns-in_err-info
returns-in_err-info c =
    rw c.from_residual-in_err-info.ensures
    (request_3 c.first_key.ensures (ap key_at c.in_ok-key.was)
    c.owner_at.ensures (ap owner_at c.in_ok-owner.was)
    (bool_took c.bool_at.ensures) (ap bool_at c.in_err-info.was))

pub returns-in_err-packed : goal.returns-in_err-packed
returns-in_err-packed c =
    rw c.from_residual-in_err-packed.ensures
    (request_4 c.first_key.ensures (ap key_at c.in_ok-key.was)
    c.owner_at.ensures (ap owner_at c.in_ok-owner.was)
    (bool_took c.bool_at.ensures) (ap bool_at c.in_ok-info.was)
    c.package_at.ensures (ap (package_at _) c.in_err-packed.was))

pub returns-in_err-list : goal.returns-in_err-list
returns-in_err-list c =
    rw c.from_residual-in_err-list.ensures
    (request_5 c.first_key.ensures (ap key_at c.in_ok-key.was)
    c.owner_at.ensures (ap owner_at c.in_ok-owner.was)
    (bool_took c.bool_at.ensures) (ap bool_at c.in_ok-info.was)
    c.package_at.ensures (ap (package_at _) c.in_ok-packed.was)
    c.list_at.ensures (ap (list_at _) c.in_err-list.was))

pub returns-in_err-bool_at : goal.returns-in_err-bool_at
returns-in_err-bool_at c =
    rw c.from_residual-in_err-bool_at.ensures
    (request_6 c.first_key.ensures (ap key_at c.in_ok-key.was)
    c.owner_at.ensures (ap owner_at c.in_ok-owner.was)
    (bool_took c.bool_at.ensures) (ap bool_at c.in_ok-info.was)
    c.package_at.ensures (ap (package_at _) c.in_ok-packed.was)
    c.list_at.ensures (ap (list_at _) c.in_ok-list.was)
    (bool_took c.bool_at-2.ensures) (ap bool_at c.in_err-bool_at.was))

pub returns-in_err-mark : goal.returns-in_err-mark
returns-in_err-mark c =
    rw c.from_residual-in_err-mark.ensures
    (request_more c.first_key.ensures (ap key_at c.in_ok-key.was)
    c.owner_at.ensures (ap owner_at c.in_ok-owner.was)
    (bool_took c.bool_at.ensures) (ap bool_at c.in_ok-info.was)
    c.package_at.ensures (ap (package_at _) c.in_ok-packed.was)
    c.list_at.ensures (ap (list_at _) c.in_ok-list.was)
    (bool_took c.bool_at-2.ensures) (ap bool_at c.in_ok-bool_at.was)
    (not_last _ c.last.ensures c.in_err-mark.was))

pub returns : goal.returns
returns c =
    let e = is_last _ c.last.ensures c.in_ok-mark.was in
    rw (c.from.ensures, e.1)
    (request_is c.first_key.ensures (ap key_at c.in_ok-key.was)
    c.owner_at.ensures (ap owner_at c.in_ok-owner.was)
    (bool_took c.bool_at.ensures) (ap bool_at c.in_ok-info.was)
    c.package_at.ensures (ap (package_at _) c.in_ok-packed.was)
    c.list_at.ensures (ap (list_at _) c.in_ok-list.was)
    (bool_took c.bool_at-2.ensures) (ap bool_at c.in_ok-bool_at.was)
    e.0)
