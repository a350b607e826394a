-- Requests marked one after the other: no count changes, the order does not matter, and a candidate at another key may come in or go before or after.
use Prim.Native.Nat.{ℕ, ◌+◌, ◌<◌}
use mathlib.Core.Path.{◌≡◌, refl, sym, ap, subst, ◌∙◌}
use mathlib.Core.Logic.{inl, inr}
use mathlib.Core.Bool.{Bool, true, false}
use mathlib.Core.List.{List, [], ◌∷◌, ◌++◌, map-append}
use native.Mathlib.Omega.{arith}
use lib.Dec.{ltb, eqb}
use borrow.Author.Tests.{eqb-true, eqb-false}
use Rattle.ident.specs.Number.{top, Key, place}
use Rattle.ident.proofs.Places.{place_same as place-inj}
use Rattle.regions.specs.declared.Row.{Row}
use Rattle.machine.specs.State.{Candidate, Entry, Request, Table, State, on_table, with_candidates, marked}
use Rattle.machine.specs.Table.{at, keep, change, count_in, count, total}
use Rattle.machine.specs.Announce.{push}
use Rattle.machine.specs.Fail.{mark}
use Rattle.machine.specs.Sound.{Ordered, All, Filled, Sound}
use Rattle.machine.specs.Typed.{Each}
use Rattle.machine.proofs.Announce.{each_append as each_both}
use Rattle.machine.proofs.Tests.{test, or_left, or_right}
use Rattle.machine.proofs.At.{KeepsKey, at_other}
use Rattle.machine.proofs.Table.{at_key, ordered-change, filled-change}
use Rattle.machine.proofs.Fail.{bounded-mark}
use Rattle.machine.proofs.Kept.{sound-table}
use Rattle.store.specs.Flat.{row_of}
use Rattle.store.specs.Gather.{key_at}
use Rattle.store.proofs.Bits.{key_row}
use Rattle.announcing.proofs.GoneBy.{each_front}
use Rattle.announcing.proofs.Swapping.{change-swap}
use Rattle.gathering.specs.Merges.{number_of, upto, beyond, placed, gathered}
use Rattle.gathering.specs.Waits.{Small, waits}
use Rattle.gathering.proofs.Merging.{parted, placed_is}
use Rattle.parenting.specs.Waiting.{marks, keys_of, row_keys, TxKey, Parental}

-- ---- counts

pub count-mark : (q : Key → ℕ → Bool) (k : Key) (t : Table) → count q (mark k t) ≡ count q t
unfolding change total keep count_in
count-mark q k [] = refl
count-mark q k (r ∷ t) =
    elim (test (ltb (place k) (place r.key))) [
      | inl e ↦ rw e
      | inr e ↦ rw e (elim (test (eqb (place k) (place r.key))) [
        | inl d ↦ rw d (held_on r.candidates refl)
        | inr d ↦ rw d (ap (λ (n : ℕ). count_in (q r.key) r.candidates + n) (count-mark q k t))
      ])
    ]
  where
    held_on : (cs : List Candidate) → r.candidates ≡ cs → count q (keep (marked r) cs t) ≡ count_in (q r.key) r.candidates + count q t
    held_on [] e = rw e (let z : count q t ≡ 0 + count q t = omega arith in z)
    held_on (c ∷ cs) e = refl

pub count-marks : (q : Key → ℕ → Bool) (ks : List Key) (t : Table) → count q (marks ks t) ≡ count q t
unfolding marks
count-marks q [] t = refl
count-marks q (k ∷ ks) t = count-marks q ks (mark k t) ∙ count-mark q k t

-- ---- what is sound stays so

sound-mark : (st : State) (k : Key) (t : Table) → TxKey k → Sound (on_table t st) → Sound (on_table (mark k t) st)
sound-mark st k t x s = subst (λ (j : Key). Sound (on_table (mark j t) st)) (sym x.kind) (sound-table s (bounded-mark k.hash x.small s.bounded))

pub sound-marks : (st : State) (ks : List Key) (t : Table) → Each TxKey ks → Sound (on_table t st) → Sound (on_table (marks ks t) st)
unfolding marks
sound-marks st [] t a s = s
sound-marks st (k ∷ ks) t a s = sound-marks st ks (mark k t) a.1 (sound-mark st k t a.0 s)

-- ---- a candidate at another key

-- k has 256 bits, and is not at the hash h
pub record Else (h : ℕ) (k : Key) : Type 0 where
  pub small : k.hash < top
  pub other : k.hash ≡ h → ⊥

pub at_marks : (j : Key) (ks : List Key) (t : Table) → j.hash < top → Each (Else j.hash) ks → at j (marks ks t) ≡ at j t
unfolding marks
at_marks j [] t s a = refl
at_marks j (k ∷ ks) t s a =
    at_marks j ks (mark k t) s a.1 ∙ at_other j k marked t (λ r. refl) (λ e. a.0.other (sym (ap (λ (i : Key). i.hash) (place-inj j k s a.0.small e))))

module _ (j : Key) (f : Request → Request) (g : KeepsKey f) (s : j.hash < top) where
  pub change-marks : (ks : List Key) (t : Table) → Each (Else j.hash) ks → Ordered 0 t → All Filled t → change j f (marks ks t) ≡ marks ks (change j f t)
  unfolding marks
  change-marks [] t a o l = refl
  change-marks (k ∷ ks) t a o l =
      let far : place j ≡ place k → ⊥ = λ e. a.0.other (sym (ap (λ (i : Key). i.hash) (place-inj j k s a.0.small e))) in
      change-marks ks (mark k t) a.1 (ordered-change k marked 0 t (λ r. refl) (omega arith) a.0.small o) (filled-change k marked t l)
      ∙ ap (marks ks) (change-swap j k f marked t s a.0.small far g (λ r. refl) o l)

pub push-marks : (j : Key) (c : Candidate) (ks : List Key) (t : Table) → j.hash < top → Each (Else j.hash) ks → Ordered 0 t → All Filled t → push j c (marks ks t) ≡ marks ks (push j c t)
push-marks j c ks t s a o l = change-marks j (λ r. with_candidates (r.candidates ++ (c ∷ [])) r) (λ r. refl) s ks t a o l

-- ---- one more

pub marks_more : (ks : List Key) (k : Key) (t : Table) → marks (ks ++ (k ∷ [])) t ≡ mark k (marks ks t)
unfolding marks
marks_more [] k t = refl
marks_more (x ∷ ks) k t = marks_more ks k (mark x t)

-- ---- in any order

marks_both : (a b : List Key) (t : Table) → marks (a ++ b) t ≡ marks b (marks a t)
unfolding marks
marks_both [] b t = refl
marks_both (k ∷ a) b t = marks_both a b (mark k t)

keys-placed : (r : Row) (ys : List Row) → TxKey (key_at r) → Each TxKey (row_keys ys) → Each TxKey (row_keys (placed r ys))
keys-placed r ys x a =
    let u = upto (number_of r) ys in
    let v = beyond (number_of r) ys in
    let e : row_keys ys ≡ row_keys u ++ row_keys v = ap row_keys (sym (parted (number_of r) ys)) ∙ map-append key_at u v in
    let c = each_front TxKey (row_keys u) (row_keys v) (subst (Each TxKey) e a) in
    subst (Each TxKey) (sym (ap row_keys (placed_is r ys) ∙ map-append key_at u (r ∷ v))) (each_both TxKey (row_keys u) (key_at r ∷ row_keys v) c.0 (x, c.1))

module _ (st : State) where
  mark-swap : (j k : Key) (t : Table) → TxKey j → TxKey k → Sound (on_table t st) → mark j (mark k t) ≡ mark k (mark j t)
  mark-swap j k t x y s =
      elim (test (eqb (place j) (place k))) [
        | inl e ↦ rw (place-inj j k x.small y.small (eqb-true (place j) (place k) e))
        | inr e ↦ change-swap j k marked marked t x.small y.small (eqb-false (place j) (place k) e) (λ r. refl) (λ r. refl) s.bounded.ordered s.bounded.filled
      ]

  marks_late : (ks : List Key) (k : Key) (t : Table) → Each TxKey ks → TxKey k → Sound (on_table t st) → marks ks (mark k t) ≡ mark k (marks ks t)
  unfolding marks
  marks_late [] k t a x s = refl
  marks_late (j ∷ ks) k t a x s = ap (marks ks) (mark-swap j k t a.0 x s) ∙ marks_late ks k (mark j t) a.1 x (sound-mark st j t a.0 s)

  -- a row put in its place among others
  marks-placed : (r : Row) (ys : List Row) (t : Table) → TxKey (key_at r) → Each TxKey (row_keys ys) → Sound (on_table t st)
      → marks (row_keys (placed r ys)) t ≡ mark (key_at r) (marks (row_keys ys) t)
  unfolding marks
  marks-placed r ys t x a s =
      let u = upto (number_of r) ys in
      let v = beyond (number_of r) ys in
      let e : row_keys ys ≡ row_keys u ++ row_keys v = ap row_keys (sym (parted (number_of r) ys)) ∙ map-append key_at u v in
      let b : Each TxKey (row_keys u ++ row_keys v) = subst (Each TxKey) e a in
      let c = each_front TxKey (row_keys u) (row_keys v) b in
      ap (λ (l : List Row). marks (row_keys l) t) (placed_is r ys) ∙ ap (λ (l : List Key). marks l t) (map-append key_at u (r ∷ v)) ∙ marks_both (row_keys u) (key_at r ∷ row_keys v) t
      ∙ marks_late (row_keys v) (key_at r) (marks (row_keys u) t) c.1 x (sound-marks st (row_keys u) t c.0 s)
      ∙ ap (mark (key_at r)) (sym (marks_both (row_keys u) (row_keys v) t) ∙ ap (λ (l : List Key). marks l t) (sym e))

-- ---- the rows of those that wait

pub entries-keys : (es : List Entry) → Each Small es → Each Parental es → Each TxKey (keys_of es)
entries-keys [] a p = tt
entries-keys (e ∷ es) a p = (record { kind = p.0.kind; small = a.0.small }, entries-keys es a.1 p.1)

pub entries-else : (h : ℕ) (es : List Entry) → Each Small es → waits h es ≡ false → Each (Else h) (keys_of es)
unfolding waits
entries-else h [] a w = tt
entries-else h (e ∷ es) a w =
    let l = or_left (eqb e.key.hash h) (waits h es) w in
    (record { small = a.0.small; other = eqb-false e.key.hash h l }, entries-else h es a.1 (or_right (eqb e.key.hash h) (waits h es) w))

pub entries-preferred : (es : List Entry) → Each Parental es → Each (λ (a : Entry). a.candidate.preferred ≡ true) es
entries-preferred [] p = tt
entries-preferred (e ∷ es) p = (p.0.preferred, entries-preferred es p.1)

module _ (t : Table) (o : Ordered 0 t) where
  row-key : (e : Entry) → Small e → key_at (row_of (at e.key t) e.candidate) ≡ e.key
  row-key e r = key_row (at e.key t) e.candidate ∙ at_key e.key 0 t r.small o

  pub keys-gathered : (es : List Entry) (ys : List Row) → Each Small es → Each Parental es → Each TxKey (row_keys ys) → Each TxKey (row_keys (gathered t es ys))
  unfolding gathered
  keys-gathered [] ys a p k = k
  keys-gathered (e ∷ es) ys a p k =
      let x : TxKey (key_at (row_of (at e.key t) e.candidate)) = subst TxKey (sym (row-key e a.0)) (record { kind = p.0.kind; small = a.0.small }) in
      keys-gathered es (placed (row_of (at e.key t) e.candidate) ys) a.1 p.1 (keys-placed (row_of (at e.key t) e.candidate) ys x k)

  pub marks-gathered : (st : State) (u : Table) → Sound (on_table u st) → (es : List Entry) (ys : List Row) → Each Small es → Each Parental es → Each TxKey (row_keys ys)
      → marks (row_keys (gathered t es ys)) u ≡ marks (keys_of es) (marks (row_keys ys) u)
  unfolding gathered marks
  marks-gathered st u s [] ys a p k = refl
  marks-gathered st u s (e ∷ es) ys a p k =
      let r = row_of (at e.key t) e.candidate in
      let x : TxKey (key_at r) = subst TxKey (sym (row-key e a.0)) (record { kind = p.0.kind; small = a.0.small }) in
      marks-gathered st u s es (placed r ys) a.1 p.1 (keys-placed r ys x k)
      ∙ ap (marks (keys_of es)) (marks-placed st r ys u x k s ∙ ap (λ (i : Key). mark i (marks (row_keys ys) u)) (row-key e a.0))
