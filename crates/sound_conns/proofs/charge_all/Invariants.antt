use mathlib.Core.Path.{◌≡◌}
use mathlib.Core.List.{[]}
use lib.ListN.{length, get_or}
use Rattle.words.specs.Words.{recs, words}
use Rattle.regions.specs.Rows.{conn_size, read_conn}
use Rattle.sound_conns.specs.Conns.{Left, Within}
use Rattle.sound_conns.proofs.charge_all.Given as goal

abbrev pub invariant-loop-j : goal.invariant-loop-j
invariant-loop-j l = (length l.t ≡ length l.initial.t)
    × Within (λ e j. Left [] e (get_or l.t j 0)) (recs conn_size read_conn l.pass.conns.count (words l.pass.conns.bytes.now)) l.pass.lo l.j
