-- `soliciting::info::would_solicit` meets its contract.
use mathlib.Core.Path.{sym, ap, ◌∙◌}
use Rattle.ident.specs.Number.{Key, wtxid}
use Rattle.ident.specs.Words.{hash_num}
use Rattle.machine.specs.State.{Candidate, limits_of}
use Rattle.machine.specs.Table.{at, has}
use Rattle.machine.specs.Announce.{announce_at}
use Rattle.requests.specs.Changes.{candidate_of}
use Rattle.soliciting.proofs.Entered.{reply-barred, reply_held, reply_new}
use Rattle.soliciting.proofs.info.would_solicit.Goals as goal

pub returns-then-not-may_own : goal.returns-then-not-may_own
returns-then-not-may_own c = λ hs st s w.
    reply-barred (limits_of st) c.args.n (hash_num c.args.subject.0) hs c.args.clock st.table (sym (c.may_own.ensures st s w) ∙ c.if-not-may_own.true)

pub returns-then-holds : goal.returns-then-holds
returns-then-holds c = λ hs st s w.
    let n = c.args.n in
    let here = ap (λ (k : Key). has n (at k st.table).candidates) c.from-k.ensures in
    reply_held (limits_of st) n (hash_num c.args.subject.0) hs c.args.clock st.table
    (sym (c.may_own.ensures st s w) ∙ c.if-not-may_own.false) (sym here ∙ sym (c.holds.ensures st s w) ∙ c.if-holds.true)

pub returns : goal.returns
returns c = λ hs st s w.
    let n = c.args.n in
    let h = hash_num c.args.subject.0 in
    let here = ap (λ (k : Key). has n (at k st.table).candidates) c.from-k.ensures in
    c.would_announce.ensures st s w
    ∙ ap (λ (k : Key). (announce_at (limits_of st) k (candidate_of c.soliciting.result) st.table).reply) c.from-k.ensures
    ∙ ap (λ (x : Candidate). (announce_at (limits_of st) (wtxid h) x st.table).reply) c.soliciting.ensures
    ∙ reply_new (limits_of st) n h hs c.args.clock st.table (sym (c.may_own.ensures st s w) ∙
    c.if-not-may_own.false) (sym here ∙ sym (c.holds.ensures st s w) ∙ c.if-holds.false)
