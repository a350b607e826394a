-- The rows of a key say what a plan chooses there.
use Prim.Native.Nat.{ℕ, ◌<◌}
use native.Mathlib.Omega.{arith}
use mathlib.Core.Path.{◌≡◌, refl, sym, ap, ◌∙◌}
use mathlib.Core.Logic.{inl, inr}
use mathlib.Core.Bool.{Bool, true, false}
use mathlib.Core.List.{List, [], ◌∷◌, map}
use mathlib.Core.Option.{Option, none, some}
use lib.Dec.{eqb}
use borrow.Author.Tests.{eqb-true, eq-eqb, ne_eqb}
use Rattle.ident.specs.declared.Kind.{Kind}
use Rattle.ident.specs.declared.Kind.TheVariants.{Txid, Wtxid}
use Rattle.ident.specs.Number.{top, Key, place, txid, wtxid}
use Rattle.machine.specs.State.{Candidate, Owner, Request, Table, Entry, State, is_some, is_none}
use Rattle.machine.specs.Table.{at, has, owned_at}
use Rattle.machine.specs.Plan.{able, or_else, least_in, least_at, choice}
use Rattle.machine.specs.Sound.{AllFit, OwnerFits, Lawful, Sound}
use Rattle.machine.proofs.Change.{unowned_at}
use Rattle.machine.proofs.Table.{at_key, lawful_at}
use Rattle.machine.proofs.Tests.{test, never, or_true}
use Rattle.machine.proofs.Unowned.{owners_none}
use Rattle.store.specs.Flat.{row_of, rows_for, rows_of}
use Rattle.store.specs.FlatSound.{owns}
use Rattle.store.proofs.Bits.{key_row, owns-row, candidate-row}
use Rattle.store.specs.Image.{Writes}
use Rattle.requests.specs.Changes.{Spans}
use Rattle.requests.proofs.Keeping.{from_at, to_at}
use Rattle.announcing.specs.Evicts.{part}
use Rattle.announcing.proofs.Victims.{window_part}
use Rattle.choosing.specs.Choosing.{least_rows, any_owns, free_choice}

-- ---- the rows of one request

rows_least : (p : Candidate → Bool) (q : Request) (cs : List Candidate) → AllFit q.key cs → least_rows p (map (row_of q) cs) ≡ least_in p q.key cs
unfolding least_rows least_in
rows_least p q [] f = refl
rows_least p q (c ∷ cs) f = rw (key_row q c, candidate-row q c f.0.item, rows_least p q cs f.1) refl

owned_none : (q : Request) (cs : List Candidate) → q.owner ≡ none → any_owns (map (row_of q) cs) ≡ false
unfolding any_owns
owned_none q [] e = refl
owned_none q (c ∷ cs) e = rw (owns-row q c, owned_none q cs e, e) refl

owned_some : (q : Request) (o : Owner) (cs : List Candidate) → q.owner ≡ some o → has o.connection cs ≡ true → any_owns (map (row_of q) cs) ≡ true
unfolding any_owns has
owned_some q o [] e h = never h
owned_some q o (c ∷ cs) e h = elim (test (eqb c.connection o.connection)) [
  | inl d ↦ rw (owns-row q c, e, eq-eqb o.connection c.connection (sym (eqb-true c.connection o.connection d))) refl
  | inr d ↦ or_true (owns (row_of q c)) (any_owns (map (row_of q) cs)) (owned_some q o cs e (rw d at h))
]

rows-owned : (q : Request) → Lawful q → any_owns (rows_for q) ≡ is_some q.owner
unfolding rows_for
rows-owned q l = go q.owner refl l.owner
  where
    go : (w : Option Owner) → q.owner ≡ w → OwnerFits w q.candidates → any_owns (map (row_of q) q.candidates) ≡ is_some w
    go none e f = owned_none q q.candidates e
    go (some o) e f = owned_some q o q.candidates e f.0

none_is : (o : Option Owner) → is_some o ≡ false → is_none o ≡ true
none_is none e = refl
none_is (some o) e = never (sym e)

-- ---- the rows of a key, which stand from .. to

module _ {b : List ℕ} (st : State) (s : Sound st) (w : Writes b st) (k : Key) (small : k.hash < top) {x from to : ℕ} (num : x ≡ place k) (sp : Spans b x from to) where
  abbrev t : Table
  t = st.table

  pub here : part from to (rows_of t) ≡ rows_for (at k t)
  here = window_part k 0 t s.bounded.ordered (from_at st s k small num (sp.from_is st s w)) (to_at st s k small num (sp.to_is st s w))

  pub l : Lawful (at k t)
  l = lawful_at k t s.bounded.lawful

  window_least : (p : Candidate → Bool) → least_rows p (part from to (rows_of t)) ≡ least_in p k (at k t).candidates
  unfolding rows_for
  window_least p = ap (least_rows p) here ∙ rows_least p (at k t) (at k t).candidates l.candidates ∙ ap (λ (j : Key). least_in p j (at k t).candidates)
      (at_key k 0 t small s.bounded.ordered)

  module _ {y : Bool} (e : y ≡ any_owns (part from to (rows_of t))) where
    pub window-owned : y ≡ is_some (at k t).owner
    window-owned = e ∙ ap any_owns here ∙ rows-owned (at k t) l

    pub least_free : (p : Candidate → Bool) {v : Option Entry} → y ≡ false → v ≡ least_rows p (part from to (rows_of t)) → v ≡ least_at p k t
    unfolding least_at
    least_free p d q = rw (none_is (at k t).owner (sym window-owned ∙ d)) (q ∙ window_least p)

-- ---- the two keys of a hash

pub of_both : (now : ℕ) (t : Table) (h : ℕ) {v x y : Option Entry} → v ≡ or_else x y → x ≡ least_at (able now t []) (txid h) t → y ≡ least_at (able now t []) (wtxid h) t → v ≡ choice now t []
    (txid h)
unfolding choice
of_both now t h e f g = e ∙ rw (f, g) refl

not_some : (o : Option Owner) → is_some o ≡ false → o ≡ none
not_some none e = refl
not_some (some o) e = never (sym e)

module _ (now : ℕ) (st : State) (s : Sound st) (h : ℕ) (small : h < top) where
  abbrev u : Table
  u = st.table

  -- an owner at a key of the hash
  pub hash-owned : (k : Key) → k.hash ≡ h → {x : Bool} → x ≡ is_some (at k u).owner → x ≡ true → eqb (owned_at h u) 0 ≡ false
  hash-owned k e {x} f d = ne_eqb (owned_at h u) 0 (λ z. never (sym (ap is_some (unowned_at k u (rw e small) s.bounded.ordered (rw e (omega (arith, z))))) ∙ sym f ∙ d))

  pub choice-owned : (k : Key) → k.hash ≡ h → {x : Bool} → x ≡ is_some (at k u).owner → x ≡ true → {v : Option Entry} → v ≡ none → v ≡ free_choice now u (txid h)
  choice-owned k e f d q = rw (hash-owned k e f d) q

  module _ {x y : Bool} (f : x ≡ is_some (at (txid h) u).owner) (g : y ≡ is_some (at (wtxid h) u).owner) (d : x ≡ false) (e : y ≡ false) where
    pub hash-free : eqb (owned_at h u) 0 ≡ true
    hash-free = eq-eqb (owned_at h u) 0 (owners_none h 0 u s.bounded.ordered (λ k z. at_kind k.kind k.hash z))
      where
        at_kind : (k : Kind) (i : ℕ) → i ≡ h → (at (record { kind = k; hash = i }) u).owner ≡ none
        at_kind Txid i z = rw z (not_some (at (txid h) u).owner (sym f ∙ d))
        at_kind Wtxid i z = rw z (not_some (at (wtxid h) u).owner (sym g ∙ e))

    pub choice-free : {v : Option Entry} → v ≡ choice now u [] (txid h) → v ≡ free_choice now u (txid h)
    choice-free q = rw hash-free q
