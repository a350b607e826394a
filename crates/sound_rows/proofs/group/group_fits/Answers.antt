use native.Mathlib.Omega.{arith}
use Prim.Native.Nat.{◌-◌, ◌*◌}
use mathlib.Core.Path.{◌≡◌}
use lib.ListN.{length, drop}
use Rattle.words.specs.Words.{words}
use Rattle.words.proofs.Records.{length-recs}
use Rattle.regions.specs.Rows.{row_size, read_row}
use Rattle.sound_rows.specs.declared.part.Part.{Part}
use Rattle.sound_rows.specs.Parts.{rows_of}
use Rattle.sound_rows.proofs.Decide.{decides_iff}
use Rattle.sound_rows.proofs.Groups.{apart_iff}
use Rattle.sound_rows.proofs.group.group_fits.Goals as goal

length-rows : (p : Part) → length (rows_of p) ≡ p.to - p.from
length-rows p = length-recs row_size read_row (p.to - p.from) (drop (row_size * p.from) (words p.rows.bytes.now))

pub returns-then-a-b : goal.returns-then-a-b
returns-then-a-b c = λ g. omega (arith, g.few, length-rows c.args.a, length-rows c.args.b)

pub returns-then-owned-gt1 : goal.returns-then-owned-gt1
returns-then-owned-gt1 c = λ g. omega (arith, g.single, c.requires.owners)

pub returns-then-once : goal.returns-then-once
returns-then-once c = record {
  few = omega (arith, length-rows c.args.a, length-rows c.args.b);
  once = c.requires.distinct c.if-once.true;
  single = omega (arith, c.requires.owners);
}

pub returns : goal.returns
returns c =
    let i = apart_iff (rows_of c.args.a) (rows_of c.args.b) in
    decides_iff c.conns_once.result (record {
      to = λ o. record { few = omega (arith, length-rows c.args.a, length-rows c.args.b); once = i.to o; single = omega (arith, c.requires.owners) };
      from = λ g. i.from g.once;
    }) c.conns_once.ensures
