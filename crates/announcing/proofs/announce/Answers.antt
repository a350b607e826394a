-- `announcing::announce` meets its contract: the key taken, and the call made at it.
use mathlib.Core.Path.{subst}
use mathlib.Core.Bool.{false}
use Rattle.ident.specs.Words.{key_num}
use Rattle.machine.specs.Announce.{announce_keyed}
use Rattle.requests.specs.Changes.{candidate_of}
use Rattle.announcing.specs.Answers.{Answered}
use Rattle.announcing.proofs.Heads.{announces}
use Rattle.announcing.proofs.announce.Goals as goal

pub returns-in_default : goal.returns-in_default
returns-in_default c =
    subst (λ k. Answered c.args.s.now c.args.s.now false (λ m t. announce_keyed m k (candidate_of c.args.c) t)) c.in_default.ensures
    (announces.keyless c.args.s.now (candidate_of c.args.c))

pub returns : goal.returns
returns c =
    subst (λ k. Answered c.args.s.now c.announce_at.new.s c.announce_at.result (λ m t. announce_keyed m k (candidate_of c.args.c) t)) c.in-Some.ensures
    (announces.keyed c.args.s.now c.announce_at.new.s c.announce_at.result (key_num c.in-Some.key) (candidate_of c.args.c) c.announce_at.ensures)
