-- `lent_lists::is_hash` meets its contract: where the first words differ, the hashes do.
use Prim.Native.Nat.{ℕ, ◌*◌, ◌^◌, ◌<◌}
use mathlib.Core.Path.{◌≡◌, sym, ◌∙◌}
use native.Mathlib.Omega.{arith}
use lib.ListN.{get_or}
use borrow.Author.Tests.{ne_eqb}
use Rattle.words.specs.Words.{words}
use Rattle.ident.specs.Words.{hash_num}
use Rattle.ident.proofs.Words.{hash-four}
use Rattle.lent_lists.specs.Lists.{hashes_in}
use Rattle.lent_lists.proofs.Given.{length-hashes, first_word}
use Rattle.lent_lists.proofs.is_hash.Goals as goal

pub overflow_mul-i : goal.overflow_mul-i
overflow_mul-i c = omega (arith, length-hashes c.args.s.now, c.requires)

pub get-requires : goal.get-requires
get-requires c = omega (arith, length-hashes c.args.s.now, c.requires)

pub returns-else-get-h : goal.returns-else-get-h
returns-else-get-h c =
    let a = c.args in
    let word : ℕ = get_or (words a.s.now) (a.i * 4) 0 in
    let below : word < 2 ^ 64 = rw c.get.ensures at c.get.type_inv in
    let other : get_or (hashes_in a.s.now) a.i 0 ≡ hash_num a.h → ⊥ =
    λ e. c.if-get-h.false (c.get.ensures ∙ first_word a.s.now a.i a.h (hash-four a.h c.well_formed.1.1.0) c.requires below e) in
    ne_eqb c.get.result (get_or a.h.words 0 0) c.if-get-h.false ∙ sym (ne_eqb (get_or (hashes_in a.s.now) a.i 0) (hash_num a.h) other)
