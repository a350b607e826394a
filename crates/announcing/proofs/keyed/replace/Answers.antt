use Rattle.ident.specs.Words.{key_num}
use Rattle.announcing.proofs.Entering.{fresh, cleared-sound, cleared-fresh, cleared-room, cleared_kept, cut-writes}
use Rattle.announcing.proofs.Lent.{key_low}
use Rattle.announcing.proofs.keyed.replace.Goals as goal

pub push-requires : goal.push-requires
push-requires c =
    let kept = c.requires.0 in
    let st = kept.state in
    let s = kept.sound in
    let g = c.requires.1 st s kept.writes in
    let w = cut-writes st s c.args.r g
    c.key_of.ensures c.cut.ensures kept.writes in
    (cleared_kept st s c.args.r g w, cleared-room st s c.args.r g w)

pub returns : goal.returns
returns c = λ st s w u.
    let k = key_num c.args.k in
    let n = c.args.c.connection in
    let g = c.requires.1 st s w in
    let small = key_low c.args.k c.well_formed.1.1.0 in
    let sound = cleared-sound st s c.args.r g in
    c.push.ensures _ sound (cut-writes st s c.args.r g
    c.key_of.ensures c.cut.ensures w)
    (fresh _ sound k small n (cleared-fresh st s c.args.r g n k.hash
    (c.requires.2 st s w)))
