use Rattle.std.proofs.Common.{sym, ◌∙◌, arith}
use borrow.Author.Tests.{ltb-true, ltb-false}
use Rattle.regions.specs.Rows.{quad_number}
use Rattle.regions.proofs.Order.{Small}
use Rattle.lines.proofs.Hashes.{digit-word}
use Rattle.lines.proofs.Writing.{hash_one, hash_end, hash_last}
use Rattle.lines.proofs.write.+put_hash.Goals as goal

pub text-requires : goal.text-requires
text-requires t c =
    let h = ltb-true (quad_number c.args.q) 16 (sym c.is_digit.ensures ∙ c.if-is_digit.true) in
    omega (arith, digit-word c.args.q h)

pub returns-then-is_digit : goal.returns-then-is_digit
returns-then-is_digit t c =
    hash_one c.args.s.now c.args.a c.args.q c.requires c.text.ensures (ltb-true (quad_number c.args.q) 16 (sym c.is_digit.ensures ∙ c.if-is_digit.true))

pub bounds-s-e : goal.bounds-s-e
bounds-s-e t c =
    let f : Small c.args.q = omega arith in
    let h = ltb-false (quad_number c.args.q) 16 (sym c.is_digit.ensures ∙ c.if-is_digit.false) in
    omega (arith, hash_end c.args.s.now c.args.a c.args.q c.requires f h c.without_digit.ensures c.put_hash-e.ensures, c.put_hash-e.auto.s)

pub overflow_add-result-2 : goal.overflow_add-result-2
overflow_add-result-2 t c =
    let f : Small c.args.q = omega arith in
    let h = ltb-false (quad_number c.args.q) 16 (sym c.is_digit.ensures ∙ c.if-is_digit.false) in
    omega (arith, hash_end c.args.s.now c.args.a c.args.q c.requires f h c.without_digit.ensures c.put_hash-e.ensures)

pub returns : goal.returns
returns t c =
    let f : Small c.args.q = omega arith in
    let h = ltb-false (quad_number c.args.q) 16 (sym c.is_digit.ensures ∙ c.if-is_digit.false) in
    hash_last c.args.s.now c.args.a c.args.q c.requires f h c.without_digit.ensures c.put_hash-e.ensures c.text-2.ensures
