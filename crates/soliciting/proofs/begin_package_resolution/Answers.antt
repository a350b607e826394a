-- `soliciting::begin_package_resolution` meets its contract.
use Rattle.ident.specs.Words.{hash_num}
use Rattle.lent_lists.specs.Lists.{hashes_in}
use Rattle.soliciting.proofs.Beginning.{begin-barred, begin_read, begin_other, begin_done}
use Rattle.soliciting.proofs.begin_package_resolution.Goals as goal

pub returns-then-not-owned_at : goal.returns-then-not-owned_at
returns-then-not-owned_at c =
    begin-barred c.args.n (hash_num c.args.subject.0) (hash_num c.args.combined) (hashes_in c.args.wtxids.now) c.args.clock c.owned_at.ensures
    c.if-not-owned_at.true

pub returns-then-not-same_package : goal.returns-then-not-same_package
returns-then-not-same_package c =
    let e = c.owned_at.ensures in
    let d = c.if-not-owned_at.false in
    begin_other c.args.n (hash_num c.args.subject.0) (hash_num c.args.combined) (hashes_in c.args.wtxids.now) c.args.clock e d
    (begin_read c.args.n (hash_num c.args.subject.0) (hash_num c.args.combined) (hashes_in c.args.wtxids.now) c.args.clock e d
    c.in-Ok.ensures c.same_package.ensures) c.if-not-same_package.true

pub returns : goal.returns
returns c =
    let e = c.owned_at.ensures in
    let d = c.if-not-owned_at.false in
    begin_done c.args.n (hash_num c.args.subject.0) (hash_num c.args.combined) (hashes_in c.args.wtxids.now) c.args.clock e d
    (begin_read c.args.n (hash_num c.args.subject.0) (hash_num c.args.combined) (hashes_in c.args.wtxids.now) c.args.clock e d
    c.in-Ok.ensures c.same_package.ensures)
    c.if-not-same_package.false c.enqueue.ensures
