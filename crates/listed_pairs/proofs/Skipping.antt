-- Txid requests below a hash, passed one after the other.
use Prim.Native.Nat.{ℕ, ◌≤◌}
use mathlib.Core.Path.{◌≡◌, sym, ap, ◌∙◌}
use mathlib.Core.Bool.{Bool, true, false}
use mathlib.Core.List.{List, ◌∷◌}
use native.Mathlib.Omega.{arith}
use lib.Dec.{ltb}
use lib.ListN.{length}
use borrow.Author.Tests.{ltb-true}
use Rattle.ident.specs.declared.Kind.TheVariants.{Wtxid}
use Rattle.regions.specs.Rows.{quad_number}
use Rattle.machine.specs.Limits.{max_alternates}
use Rattle.machine.specs.State.{Request, Table, with_candidates}
use Rattle.machine.specs.Claim.{same_kind}
use Rattle.machine.specs.SoundTest.{every}
use Rattle.machine.proofs.Table.{weaken}
use Rattle.listed_lines.specs.declared.line.Request as line-request
use Rattle.listed_lines.specs.Given.{request_in}
use Rattle.listed_requests.specs.Parts.{uncrowded, pairs_fit}
use Rattle.listed_requests.specs.Given.{TakesRequest}
use Rattle.listed_requests.proofs.Crowds.{test_few}
use Rattle.listed_pairs.specs.Given.{Skips, Below}
use Rattle.listed_pairs.proofs.Facing.{first_few, others_few, front_first}
use Rattle.listed_pairs.proofs.Seeking.{txid-kind}

pub few_in : (q : Request) (t : Table) → every (uncrowded max_alternates) (q ∷ t) ≡ true → length q.candidates ≤ max_alternates
few_in q t h = ((test_few max_alternates q.candidates).holds (first_few max_alternates q t h)).few

-- one more
pub below_on : {b : List ℕ} {from i k : ℕ} → Below b from i k → {ws ps : List ℕ} {r : line-request.Request} {to : ℕ} → TakesRequest b i ws ps r to
    → {x : Bool} → x ≡ same_kind r.key.kind Wtxid → x ≡ false → {y : Bool} → y ≡ ltb (quad_number r.key.hash) k → y ≡ true → {e : ℕ} → Skips b to e → Below b from e k
below_on {b} {from} {i} {k} a {ws} {ps} {r} n x-is x-no y-is y-yes {e} s = record {
  on = omega (arith, a.on, n.on, s.on);
  is = λ p y o c.
      let z = a.is p y o c in
      let v = n.is z.table z.body in
      let t = v.parts in
      let q = with_candidates v.candidates (request_in ws ps r) in
      let o' = rw t at z.ordered in
      let c' = rw t at z.few in
      let l = ltb-true (quad_number r.key.hash) k (sym y-is ∙ y-yes) in
      record {
        table = v.table;
        body = s.is (record { candidates = v.candidates; table = v.table }) v.body (few_in q v.table c');
        ordered = weaken v.table (omega arith) o'.2;
        few = others_few max_alternates q v.table c';
        same = λ w u g h.
            z.same w u g h ∙ ap (pairs_fit max_alternates (w ∷ u)) t
            ∙ front_first max_alternates q v.table w u o' g (txid-kind r.key.kind (sym x-is ∙ x-no)) (first_few max_alternates q v.table c') (omega arith);
      };
}
