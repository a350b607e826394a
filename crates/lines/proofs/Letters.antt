-- Other items: a type, a colon and a hash behind the letter.
use Prim.Native.Nat.{ℕ, ◌+◌, ◌-◌, ◌≤◌}
use mathlib.Core.Path.{◌≡◌, refl, sym, ap, ◌∙◌}
use mathlib.Core.List.{List, []}
use mathlib.Core.Option.{Option, none, some}
use native.Mathlib.Omega.{arith}
use lib.ListN.{length, take, drop, drop_of_length-le, length-drop}
use lib.Seq.{take_all}
use Rattle.ident.specs.declared.ItemKind.{ItemKind}
use Rattle.machine.specs.Fields.{before, behind, item_with, other_kind, other_of, hash_of, type_of}
use Rattle.lines.proofs.Scans.{scan-empty}
use Rattle.machine.proofs.Parting.{take-before, before-length}

-- what stands behind the first bytes, as it is lent
pub lent_rest : (f : List ℕ) (a : ℕ) → take (length f - a) (drop a f) ≡ drop a f
lent_rest f a = take_all (length f - a) (drop a f) (rw length-drop (omega arith))

with_no-kind : (h : Option ℕ) {k : Option ItemKind} → k ≡ none → item_with k h ≡ none
with_no-kind h e = rw e

with_no-hash : (k : Option ItemKind) {h : Option ℕ} → h ≡ none → item_with k h ≡ none
with_no-hash none e = refl
with_no-hash (some k) e = rw e

with_both : {o : Option ItemKind} {p : Option ℕ} {k : ItemKind} {h : ℕ} → o ≡ some k → p ≡ some h → item_with o p ≡ some (record { kind = k; hash = h })
with_both e f = rw (e, f)

module _ (f : List ℕ) (at : ℕ) (e : at ≡ 0 + length (before 58 f)) where
  pub other_at : at ≤ length f
  other_at = omega (arith, before-length 58 f)

  parts : other_of f ≡ item_with (other_kind (type_of (take at f))) (hash_of (drop (at + 1) f))
  unfolding behind
  parts = let g : at ≡ length (before 58 f) = omega arith in rw (g, take-before)

  pub other_no_colon : at ≡ length f → none ≡ other_of f
  other_no_colon h =
      let l : length f ≤ at + 1 = omega arith in
      sym (parts ∙ with_no-hash (other_kind (type_of (take at f))) (ap hash_of (drop_of_length-le f l) ∙ scan-empty 16 _ [] refl))

  pub other_no-kind : other_kind (type_of (take at f)) ≡ none → none ≡ other_of f
  other_no-kind k = sym (parts ∙ with_no-kind (hash_of (drop (at + 1) f)) k)

  pub other_is : {k : ItemKind} {q : ℕ} → other_kind (type_of (take at f)) ≡ some k → hash_of (take (length f - (at + 1)) (drop (at + 1) f)) ≡ some q
      → some (record { kind = k; hash = q }) ≡ other_of f
  other_is k h = sym (parts ∙ with_both k (sym (ap hash_of (lent_rest f (at + 1))) ∙ h))
