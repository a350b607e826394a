-- `announcing::request_parent` meets its contract: the key taken, and the call made at it.
use mathlib.Core.Path.{subst}
use mathlib.Core.Bool.{false}
use Rattle.ident.specs.Words.{key_num}
use Rattle.machine.specs.Announce.{request_parent_keyed}
use Rattle.requests.specs.Changes.{candidate_of}
use Rattle.announcing.specs.Answers.{Answered}
use Rattle.announcing.proofs.Heads.{requests}
use Rattle.announcing.proofs.request_parent.Goals as goal

pub returns-in_default : goal.returns-in_default
returns-in_default c =
    subst (λ k. Answered c.args.s.now c.args.s.now false (λ m t. request_parent_keyed m k (candidate_of c.args.c) t)) c.in_default.ensures
    (requests.keyless c.args.s.now (candidate_of c.args.c))

pub returns : goal.returns
returns c =
    subst (λ k. Answered c.args.s.now c.request_parent_at.new.s c.request_parent_at.result (λ m t. request_parent_keyed m k (candidate_of c.args.c) t)) c.in-Some.ensures
    (requests.keyed c.args.s.now c.request_parent_at.new.s c.request_parent_at.result (key_num c.in-Some.key) (candidate_of c.args.c) c.request_parent_at.ensures)
