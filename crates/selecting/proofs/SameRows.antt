-- Selections marked leave the entry of every row as it was.
use Prim.Native.Nat.{ℕ, suc, ◌≤◌}
use mathlib.Core.Path.{◌≡◌, refl, sym, ap, subst, ◌∙◌}
use mathlib.Core.Logic.{inl, inr}
use mathlib.Core.List.{List, [], ◌∷◌, ◌++◌, map, map-append}
use native.Mathlib.Omega.{arith}
use lib.Dec.{ltb, eqb}
use lib.ListN.{length, get_or, length-map, get_or-map}
use borrow.Author.Tests.{ltb-true}
use Rattle.ident.specs.Number.{Key, place}
use Rattle.regions.specs.declared.Row.{Row}
use Rattle.regions.specs.Regions.{each}
use Rattle.machine.specs.State.{Candidate, Request, Table, Entry, blank, owned_until, owner_is}
use Rattle.machine.specs.Table.{at, change, one}
use Rattle.machine.specs.Sound.{Ordered}
use Rattle.machine.proofs.Table.{at_absent}
use Rattle.machine.proofs.Tests.{test}
use Rattle.machine.proofs.First.{keep_some as keep_one}
use Rattle.store.specs.Flat.{witness_bit, row_of, rows_for, rows_of}
use Rattle.store.specs.Gather.{item_kind_as, candidate_at}
use Rattle.store.proofs.Bits.{bits-witness, bits-preferred, key_row}
use Rattle.announcing.specs.Evicts.{entry_at}
use Rattle.selecting.specs.Selecting.{marking, mark_all, Free, AllFree, Numbered}
use Rattle.selecting.proofs.Marked.{ordered-marking}

-- ---- one row

-- what a row says of its candidate, whoever owns the request
reading : (q : Request) (c : Candidate) → candidate_at (row_of q c) ≡ record {
  connection = c.connection;
  item = record { kind = item_kind_as q.key.kind (witness_bit c.item.kind); hash = q.key.hash };
  ready = c.ready;
  preferred = eqb (one c.preferred) 1;
  priority = c.priority;
}
unfolding candidate_at row_of
reading q c =
    let x = bits-witness q.key.kind c.item.kind c.preferred (owner_is c.connection q.owner) q.fallback in
    let y = bits-preferred q.key.kind c.item.kind c.preferred (owner_is c.connection q.owner) q.fallback in
    rw (key_row q c, x, y)

same-entry : (q : Request) (n d : ℕ) (c : Candidate) → entry_at (row_of (owned_until n d q) c) ≡ entry_at (row_of q c)
same-entry q n d c = λ i. record { key = (key_row (owned_until n d q) c ∙ sym (key_row q c)) i; candidate = (reading (owned_until n d q) c ∙ sym (reading q c)) i }

same_entries : (q : Request) (n d : ℕ) (cs : List Candidate) → map entry_at (map (row_of (owned_until n d q)) cs) ≡ map entry_at (map (row_of q) cs)
same_entries q n d [] = refl
same_entries q n d (c ∷ cs) = λ i. same-entry q n d c i ∷ same_entries q n d cs i

-- ---- a table

same_rows : (k : Key) (n d lo : ℕ) (t : Table) → Ordered lo t → 1 ≤ length (at k t).candidates → map entry_at (rows_of (change k (owned_until n d) t)) ≡ map entry_at (rows_of t)
unfolding change at each rows_for
same_rows k n d lo [] o h = absurd (omega arith)
same_rows k n d lo (r ∷ t) o h = elim (test (ltb (place k) (place r.key))) [
  | inl e ↦ absurd (none_here (subst (λ (x : Request). 1 ≤ length x.candidates) (at_absent k (place r.key) (r ∷ t) (ltb-true (place k) (place r.key) e) (omega arith, o.1, o.2)) h))
  | inr e ↦ elim (test (eqb (place k) (place r.key))) [
    | inl x ↦ rw (e, x, keep_one (owned_until n d r) r.candidates t (rw x at h), map-append, map-append)
        (ap (λ (l : List Entry). l ++ map entry_at (rows_of t)) (same_entries r n d r.candidates))
    | inr x ↦ rw (e, x, map-append, map-append) (ap (λ (l : List Entry). map entry_at (map (row_of r) r.candidates) ++ l) (same_rows k n d (suc (place r.key)) t o.2 (rw x at h)))
  ]
]
  where
    none_here : 1 ≤ length (blank k).candidates → ⊥
    none_here l = omega arith

pub marking-rows : (d : ℕ) (a : Entry) (t : Table) → Ordered 0 t → Free t a → map entry_at (rows_of (marking d a t)) ≡ map entry_at (rows_of t)
marking-rows d a t o f = same_rows a.key a.candidate.connection d 0 t o f.some_candidate

pub marked-rows : (d : ℕ) (l : List Entry) (t : Table) → Ordered 0 t → AllFree d l t → map entry_at (rows_of (mark_all d l t)) ≡ map entry_at (rows_of t)
unfolding mark_all
marked-rows d [] t o f = refl
marked-rows d (a ∷ l) t o f = marked-rows d l (marking d a t) (ordered-marking d a t o f.0) f.1 ∙ marking-rows d a t o f.0

-- ---- a number names the same entry

pub same_length : (rs qs : List Row) → map entry_at rs ≡ map entry_at qs → length rs ≡ length qs
same_length rs qs e = sym (length-map rs entry_at) ∙ ap length e ∙ length-map qs entry_at

pub numbered_as : {rs qs : List Row} {i : ℕ} {a : Entry} → map entry_at rs ≡ map entry_at qs → Numbered rs i a → Numbered qs i a
numbered_as {rs} {qs} {i} e g = record {
  inside = omega (arith, g.inside, same_length rs qs e);
  entry_is = λ d. sym (get_or-map entry_at qs i d) ∙ ap (λ (l : List Entry). get_or l i (entry_at d)) (sym e) ∙ get_or-map entry_at rs i d ∙ g.entry_is d;
}
