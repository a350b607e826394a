-- `listed_counts::light` meets its contract: both passes, of connections and of owners.
use mathlib.Core.Path.{sym, ap, ◌∙◌}
use lib.ListN.{length}
use Rattle.heavy.proofs.Seeking.{length-names, length-counts}
use Rattle.listed_counts.proofs.Tables.{passes-tell, verdict_with, light-told}
use Rattle.listed_counts.proofs.light.Goals as goal

pub returns : goal.returns
returns c =
    let k = c.zeros-connections in
    let o = c.zeros-owners in
    let n = c.note_lines.ensures in
    let r = c.restart.ensures in
    let s = c.restart-2.ensures in
    let m = c.count_lines.ensures in
    let cs = c.restart.new.counters in
    let os = c.restart-2.new.counters in
    light-told
    (verdict_with k.ensures.0
    (passes-tell n.connections (rw r.0 at m.connections) c.few-light.ensures (length-names k.result ∙ sym (length-counts k.result)) k.ensures.1
    (ap length (sym r.0) ∙ length-names cs ∙ sym (length-counts cs)) r.1))
    (verdict_with o.ensures.0
    (passes-tell n.owners (rw s.0 at m.owners) c.few-rare.ensures (length-names o.result ∙ sym (length-counts o.result)) o.ensures.1
    (ap length (sym s.0) ∙ length-names os ∙ sym (length-counts os)) s.1))
