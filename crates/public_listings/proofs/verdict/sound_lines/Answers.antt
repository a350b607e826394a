-- `public_listings::verdict::sound_lines` meets its contract: the tests in turn, one law of proofs/Deciding for each way out.
use mathlib.Core.Path.{sym, ◌∙◌}
use Rattle.public_requests.proofs.Opening.{taken-limit, taken_places}
use Rattle.public_listings.proofs.Deciding.{bad-sizes, bad_local, bad-pairs, all_told}
use Rattle.public_listings.proofs.verdict.sound_lines.Goals as goal
use Rattle.public_listings.proofs.verdict.sound_lines.Goals.{then-sizes_taken, else-sizes_taken, then-each_fits, else-each_fits}

pub each_fits-requires : goal.each_fits-requires
each_fits-requires c =
    let g = sym c.sizes_taken.ensures ∙ c.if-sizes_taken.true in
    (taken-limit c.args.l.head.limit c.args.l.head.places g, taken_places c.args.l.head.limit c.args.l.head.places g)

pub returns-then-pairs_fit : goal.returns-then-pairs_fit
returns-then-pairs_fit c = elim c.if-each_fits.branch [
  | then-each_fits w ↦ elim c.if-sizes_taken.branch [
    | then-sizes_taken v ↦
        all_told v.each_fits.ensures (sym v.value-is ∙ w.if-each_fits.true) w.pairs_fit.ensures
        (sym c.sizes_taken.ensures ∙ v.if-sizes_taken.true) (sym w.value-is ∙ c.if-pairs_fit.true) c.light.ensures
    | else-sizes_taken v ↦ absurd (cc)
  ]
  | else-each_fits w ↦ absurd (cc)
]

pub returns-else-pairs_fit : goal.returns-else-pairs_fit
returns-else-pairs_fit c =
    rw c.if-pairs_fit.false (elim c.if-sizes_taken.branch [
      | else-sizes_taken v ↦ bad-sizes (sym c.sizes_taken.ensures ∙ v.if-sizes_taken.false)
      | then-sizes_taken v ↦ elim c.if-each_fits.branch [
        | else-each_fits w ↦ bad_local v.each_fits.ensures (sym v.value-is ∙ w.if-each_fits.false)
        | then-each_fits w ↦
            bad-pairs v.each_fits.ensures (sym v.value-is ∙ w.if-each_fits.true) w.pairs_fit.ensures (sym w.value-is ∙ c.if-pairs_fit.false)
      ]
    ])
