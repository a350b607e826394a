-- `announcing::parent::request_parent_at` meets its contract.
use Rattle.ident.specs.Words.{key_num}
use Rattle.requests.specs.Changes.{candidate_of}
use Rattle.announcing.proofs.Adopting.{at_key, at_other, at_neither}
use Rattle.announcing.proofs.parent.request_parent_at.Goals as goal

pub returns-then-holds_in : goal.returns-then-holds_in
returns-then-holds_in c =
    at_key _ _ (key_num c.args.k) (candidate_of c.args.c) c.holds_in.ensures c.if-holds_in.true
    c.adopt_in.ensures

pub returns-then-holds_in-2 : goal.returns-then-holds_in-2
returns-then-holds_in-2 c =
    at_other _ _ (key_num c.args.k) (candidate_of c.args.c) _ c.same_hash_other_kind-other.ensures
    c.holds_in.ensures c.if-holds_in.false
    c.holds_in-2.ensures c.if-holds_in-2.true c.adopt_in-then-holds_in-2.ensures

pub returns : goal.returns
returns c =
    at_neither _ _ (key_num c.args.k) (candidate_of c.args.c) _ c.same_hash_other_kind-other.ensures
    c.holds_in.ensures c.if-holds_in.false
    c.holds_in-2.ensures c.if-holds_in-2.false c.announce_in.ensures
