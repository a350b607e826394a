-- announce_parents with one hash more behind the others: a repeat changes nothing, a new one is the last parent.
use Prim.Native.Nat.{ℕ, suc, ◌+◌}
use mathlib.Core.Path.{◌≡◌, refl, sym, ap, subst, ◌∙◌}
use mathlib.Core.Logic.{inl, inr}
use mathlib.Core.Bool.{Bool, true, false, ◌||◌}
use mathlib.Core.List.{List, [], ◌∷◌, ◌++◌, append-nil}
use native.Mathlib.Omega.{arith}
use native.Mathlib.Nat.{zero-add, add-zero}
use lib.Dec.{eqb}
use lib.ListN.{length}
use Rattle.std.specs.Prelude.{if◌then◌else◌}
use Rattle.ident.specs.Number.{Key, txid}
use Rattle.machine.specs.Limits.{Limits}
use Rattle.machine.specs.State.{Table}
use Rattle.machine.specs.Claim.{elem}
use Rattle.machine.specs.Fail.{but, dedup, parents_from, announce_parents}
use Rattle.machine.proofs.Tests.{test, never, or_left, or_right}
use Rattle.store.proofs.Counts.{eqb-sym}
use Rattle.announcing.specs.Answers.{one_parent}

-- ---- repeats dropped, the first kept

but-append : (h : ℕ) (l m : List ℕ) → but h (l ++ m) ≡ but h l ++ but h m
unfolding but
but-append h [] m = refl
but-append h (x ∷ l) m = elim (test (eqb x h)) [ inl e ↦ rw e (but-append h l m) | inr e ↦ rw e (ap (λ (k : List ℕ). x ∷ k) (but-append h l m)) ]

pub dedup_new : (x : ℕ) (l : List ℕ) → elem x l ≡ false → dedup (l ++ (x ∷ [])) ≡ dedup l ++ (x ∷ [])
unfolding dedup but elem
dedup_new x [] e = refl
dedup_new x (y ∷ l) e =
    let d : eqb x y ≡ false = eqb-sym x y ∙ or_left (eqb y x) (elem x l) e in
    ap (λ (k : List ℕ). y ∷ but y k) (dedup_new x l (or_right (eqb y x) (elem x l) e)) ∙ ap (λ (k : List ℕ). y ∷ k) (but-append y (dedup l) (x ∷ []) ∙ rw d)

pub dedup-met : (x : ℕ) (l : List ℕ) → elem x l ≡ true → dedup (l ++ (x ∷ [])) ≡ dedup l
unfolding dedup but elem
dedup-met x [] e = never e
dedup-met x (y ∷ l) e =
    elim (test (elem x l)) [
      | inl d ↦ ap (λ (k : List ℕ). y ∷ but y k) (dedup-met x l d)
      | inr d ↦ ap (λ (k : List ℕ). y ∷ but y k) (dedup_new x l d) ∙ ap (λ (k : List ℕ). y ∷ k) (but-append y (dedup l) (x ∷ []) ∙ rw (same d) (append-nil (but y (dedup l))))
    ]
  where
    only : (a b : Bool) → (a || b) ≡ true → b ≡ false → a ≡ true
    only true b p q = refl
    only false b p q = never (sym q ∙ p)

    same : elem x l ≡ false → eqb x y ≡ true
    same d = eqb-sym x y ∙ only (eqb y x) (elem x l) e d

-- ---- the parents in their order, and one more

module _ (m : Limits) (n now : ℕ) where
  -- the key of a parent that is kept
  abbrev pub key_if : Bool → ℕ → List Key
  key_if b h = if b then txid h ∷ [] else []

  cons-append : (b : Bool) (k : Key) (l r x : List Key) → l ≡ r ++ x → (if b then k ∷ l else l) ≡ (if b then k ∷ r else r) ++ x
  cons-append true k l r x e = ap (λ (y : List Key). k ∷ y) e
  cons-append false k l r x e = e

  from_keys : (i : ℕ) (hs : List ℕ) (h : ℕ) (t : Table)
      → (parents_from m n now i (hs ++ (h ∷ [])) t).keys ≡ (parents_from m n now i hs t).keys ++ key_if (one_parent m n now h (i + length hs) (parents_from m n now i hs t).table).reply h
  unfolding parents_from
  from_keys i [] h t = rw (add-zero i)
  from_keys i (g ∷ hs) h t =
      let t' = (one_parent m n now g i t).table in
      let p = parents_from m n now (suc i) hs t' in
      let e : suc i + length hs ≡ i + suc (length hs) = omega arith in
      cons-append (one_parent m n now g i t).reply (txid g) _ p.keys _
      (subst (λ (j : ℕ). (parents_from m n now (suc i) (hs ++ (h ∷ [])) t').keys ≡ p.keys ++ key_if (one_parent m n now h j p.table).reply h) e (from_keys (suc i) hs h t'))

  from_table : (i : ℕ) (hs : List ℕ) (h : ℕ) (t : Table)
      → (parents_from m n now i (hs ++ (h ∷ [])) t).table ≡ (one_parent m n now h (i + length hs) (parents_from m n now i hs t).table).table
  unfolding parents_from
  from_table i [] h t = rw (add-zero i)
  from_table i (g ∷ hs) h t =
      let t' = (one_parent m n now g i t).table in
      let p = parents_from m n now (suc i) hs t' in
      let e : suc i + length hs ≡ i + suc (length hs) = omega arith in
      subst (λ (j : ℕ). (parents_from m n now (suc i) (hs ++ (h ∷ [])) t').table ≡ (one_parent m n now h j p.table).table) e (from_table (suc i) hs h t')

  pub repeat_same : (hs : List ℕ) (h : ℕ) (t : Table) → elem h hs ≡ true → announce_parents m n now (hs ++ (h ∷ [])) t ≡ announce_parents m n now hs t
  unfolding announce_parents
  repeat_same hs h t e = ap (λ (l : List ℕ). parents_from m n now 0 l t) (dedup-met h hs e)

  module _ (hs : List ℕ) (h : ℕ) (t : Table) (e : elem h hs ≡ false) where
    pub new_keys : (announce_parents m n now (hs ++ (h ∷ [])) t).keys ≡ (announce_parents m n now hs t).keys ++
        key_if (one_parent m n now h (length (dedup hs)) (announce_parents m n now hs t).table).reply h
    unfolding announce_parents
    new_keys = rw (dedup_new h hs e) (rw (zero-add (length (dedup hs))) at (from_keys 0 (dedup hs) h t))

    pub new_table : (announce_parents m n now (hs ++ (h ∷ [])) t).table ≡ (one_parent m n now h (length (dedup hs)) (announce_parents m n now hs t).table).table
    unfolding announce_parents
    new_table = rw (dedup_new h hs e) (rw (zero-add (length (dedup hs))) at (from_table 0 (dedup hs) h t))
