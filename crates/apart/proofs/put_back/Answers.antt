-- `apart::put_back` meets its contract.
use mathlib.Core.Path.{refl}
use Rattle.apart.proofs.Parting.{places-shown, put_in, put_done}
use borrow.Author.Rules.{rules}
use Rattle.apart.proofs.put_back.Goals as goal

pub drop_dead-requires : goal.drop_dead-requires
drop_dead-requires c = let p = c.requires in places-shown p.places p.apart
    refl p.count (put_in p.places p.apart refl p.count c.copy_from_slice.ensures.after refl (search
    rules) c.put.ensures.word c.put-2.ensures.word)

pub returns : goal.returns
returns c = λ st ps o n. put_done ps o refl n (put_in ps o refl n c.copy_from_slice.ensures.after refl (search rules) c.put.ensures.word c.put-2.ensures.word) c.drop_dead.ensures
