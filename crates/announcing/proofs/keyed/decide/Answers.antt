use mathlib.Core.Path.{sym, ◌∙◌}
use Rattle.ident.specs.Words.{key_num}
use Rattle.machine.specs.State.{limits_of}
use Rattle.machine.specs.Announce.{at_hash, anywhere}
use Rattle.requests.specs.Changes.{candidate_of}
use Rattle.announcing.proofs.Deciding.{when-barred, when-crowded, when-crowded_out, when-full, when-full_out, entering, replacing}
use Rattle.announcing.proofs.keyed.decide.Goals as goal

pub returns-then-barred : goal.returns-then-barred
returns-then-barred c = λ st s w. when-barred (limits_of st) (key_num c.args.k) (candidate_of c.args.c) st.table (sym (c.barred.ensures st s w) ∙ c.if-barred.true)

pub returns-then-c : goal.returns-then-c
returns-then-c c = λ st s w.
    let m = limits_of st in
    let k = key_num c.args.k in
    let x = candidate_of c.args.c in
    let t = st.table in
    let b = (sym (c.barred.ensures st s w) ∙ c.if-barred.false) in
    rw c.from.ensures (replacing m k x t (at_hash k.hash) s.bounded.ordered b
    (when-crowded m k x t b (sym (c.crowded_in.ensures st s w) ∙ c.if-crowded_in.true) c.if-c.true) c.victim_in.result (c.victim_in.ensures st s w))

pub returns-then-crowded_in : goal.returns-then-crowded_in
returns-then-crowded_in c = λ st s w.
    when-crowded_out (limits_of st) (key_num c.args.k) (candidate_of c.args.c) st.table (sym (c.barred.ensures st s w) ∙ c.if-barred.false)
    (sym (c.crowded_in.ensures st s w) ∙ c.if-crowded_in.true) c.if-c.false

pub returns-then-c-2 : goal.returns-then-c-2
returns-then-c-2 c = λ st s w.
    let m = limits_of st in
    let k = key_num c.args.k in
    let x = candidate_of c.args.c in
    let t = st.table in
    let b = (sym (c.barred.ensures st s w) ∙ c.if-barred.false) in
    rw c.from-then-c-2.ensures (replacing m k x t anywhere s.bounded.ordered b
    (when-full m k x t b (sym (c.crowded_in.ensures st s w) ∙ c.if-crowded_in.false)
    (sym (c.full.ensures st s w) ∙ c.if-full.true) c.if-c-2.true) c.victim_anywhere.result (c.victim_anywhere.ensures st s w))

pub returns-then-full : goal.returns-then-full
returns-then-full c = λ st s w.
    when-full_out (limits_of st) (key_num c.args.k) (candidate_of c.args.c) st.table (sym (c.barred.ensures st s w) ∙ c.if-barred.false)
    (sym (c.crowded_in.ensures st s w) ∙ c.if-crowded_in.false)
    (sym (c.full.ensures st s w) ∙ c.if-full.true) c.if-c-2.false

pub returns : goal.returns
returns c = λ st s w.
    entering (limits_of st) (key_num c.args.k) (candidate_of c.args.c) st.table (sym (c.barred.ensures st s w) ∙ c.if-barred.false)
    (sym (c.crowded_in.ensures st s w) ∙ c.if-crowded_in.false) (sym (c.full.ensures st s w) ∙ c.if-full.false)
