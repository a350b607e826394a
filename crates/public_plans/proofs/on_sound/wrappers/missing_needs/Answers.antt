-- `public_plans::on_sound::wrappers::missing_needs` meets its contract: Q of the header is that of the state.
use native.Mathlib.Omega.{arith}
use Rattle.lent_lists.proofs.Inventory.{length-items}
use Rattle.outcome.proofs.Header.{head-inside, places-word}
use Rattle.public_plans.proofs.on_sound.wrappers.missing_needs.Goals as goal

pub places-q-requires : goal.places-q-requires
places-q-requires c = head-inside c.args.s.now c.requires

pub overflow_mul-result : goal.overflow_mul-result
overflow_mul-result c =
    let w = c.requires in
    omega (arith, c.places-q.ensures.word, places-word c.args.s.now w, w.sound.most-places)

pub overflow_add-result : goal.overflow_add-result
overflow_add-result c =
    let w = c.requires in
    let a = c.args in
    omega (arith, c.places-q.ensures.word, places-word a.s.now w, w.sound.most-places, c.items-count.ensures, length-items a.items.now)

pub overflow_mul-result-2 : goal.overflow_mul-result-2
overflow_mul-result-2 c =
    let w = c.requires in
    let a = c.args in
    omega (arith, c.places-q.ensures.word, places-word a.s.now w, w.sound.most-places, c.items-count.ensures, length-items a.items.now)

pub returns : goal.returns
returns c w = omega (arith, c.places-q.ensures.word, places-word c.args.s.now w, c.items-count.ensures)
