-- The victims of a table, read from its rows in order.
use Prim.Native.Nat.{ℕ, ◌+◌, ◌-◌, ◌/◌, ◌%◌, ◌≤◌, ◌<◌, suc}
use mathlib.Core.Path.{◌≡◌, refl, sym, ap, ◌∙◌}
use mathlib.Core.Logic.{inl, inr}
use mathlib.Core.Bool.{true, false, ◌||◌}
use mathlib.Core.List.{List, [], ◌∷◌, ◌++◌, map, append-nil}
use mathlib.Core.Option.{Option, none, some}
use native.Mathlib.Omega.{arith}
use lib.Dec.{eqb}
use lib.ListN.{length, take, drop, length-append}
use lib.Seq.{take_all, take_at, drop_at}
use borrow.Author.Tests.{eqb-true, eqb-false}
use Rattle.ident.specs.declared.Kind.{Kind}
use Rattle.ident.specs.declared.Kind.TheVariants.{Txid, Wtxid}
use Rattle.ident.specs.Number.{top, Key, place, base, txid, wtxid}
use Rattle.regions.specs.declared.Row.{Row}
use Rattle.regions.specs.Regions.{each}
use Rattle.machine.specs.State.{Candidate, Request, Table, Entry, owner_is}
use Rattle.machine.specs.Table.{at}
use Rattle.machine.specs.Announce.{victims_in, victims, greatest_from, greatest, at_hash, anywhere}
use Rattle.machine.specs.Sound.{AllFit, Lawful, Ordered, All}
use Rattle.machine.proofs.Table.{at_absent, lawful_at}
use Rattle.machine.proofs.At.{at_here, at_there}
use Rattle.machine.proofs.Tests.{test}
use Rattle.store.specs.Flat.{row_of, rows_for, rows_of}
use Rattle.store.proofs.Bits.{bits-preferred, bit_one, key_row, owns-row, candidate-row}
use Rattle.store.proofs.Split.{rows_below, rows_above, rows_at}
use Rattle.requests.proofs.AtHash.{apart}
use Rattle.announcing.specs.Evicts.{entry_at, greater, protected, or_row, greatest_over, part}
use Rattle.announcing.proofs.Scanning.{row_stays, row_goes}

-- ---- the greatest, with what has been found before

abbrev upon : Option Entry → List Entry → Option Entry
upon none l = greatest l
upon (some a) l = some (greatest_from a l)

upon_nil : (o : Option Entry) → upon o [] ≡ o
unfolding greatest greatest_from
upon_nil none = refl
upon_nil (some a) = refl

upon_more : (o : Option Entry) (e : Entry) (l : List Entry) → upon o (e ∷ l) ≡ upon (some (greater o e)) l
unfolding greatest greatest_from
upon_more none e l = refl
upon_more (some a) e l = refl

upon_append : (o : Option Entry) (a b : List Entry) → upon o (a ++ b) ≡ upon (upon o a) b
upon_append o [] b = ap (λ (x : Option Entry). upon x b) (sym (upon_nil o))
upon_append o (e ∷ a) b = upon_more o e (a ++ b) ∙ upon_append (some (greater o e)) a b ∙ ap (λ (x : Option Entry). upon x b) (sym (upon_more o e a))

pub over_append : (o : Option Entry) (a b : List Row) → greatest_over o (a ++ b) ≡ greatest_over (greatest_over o a) b
unfolding greatest_over
over_append o [] b = refl
over_append o (r ∷ a) b = over_append (or_row o r) a b

-- ---- the rows of one request

module _ (q : Request) (c : Candidate) where
  -- its bits say whether it stays
  pub bits-say : protected (row_of q c).bits ≡ (c.preferred || owner_is c.connection q.owner)
  bits-say = rw (owns-row q c, preferred)
    where
      preferred : eqb ((row_of q c).bits / 4 % 2) 1 ≡ c.preferred
      preferred = unfold row_of in (ap (λ (n : ℕ). eqb n 1) (bits-preferred q.key.kind c.item.kind c.preferred (owner_is c.connection q.owner) q.fallback) ∙ bit_one c.preferred)

  in_stays : (cs : List Candidate) → (c.preferred || owner_is c.connection q.owner) ≡ true → victims_in q (c ∷ cs) ≡ victims_in q cs
  unfolding victims_in
  in_stays cs e = rw e

  in_goes : (cs : List Candidate) → (c.preferred || owner_is c.connection q.owner) ≡ false → victims_in q (c ∷ cs) ≡ record { key = q.key; candidate = c } ∷ victims_in q cs
  unfolding victims_in
  in_goes cs e = rw e

over_request : (q : Request) (cs : List Candidate) (o : Option Entry) → AllFit q.key cs → greatest_over o (map (row_of q) cs) ≡ upon o (victims_in q cs)
unfolding greatest_over
over_request q [] o f = sym (unfold victims_in in upon_nil o)
over_request q (c ∷ cs) o f =
    elim (test (c.preferred || owner_is c.connection q.owner)) [
      | inl e ↦ ap (λ (x : Option Entry). greatest_over x (map (row_of q) cs)) (sym (row_stays (row_of q c) (sym (bits-say q c)) e o)) ∙ over_request q cs o f.1 ∙ ap (upon o) (sym (in_stays q c cs e))
      | inr e ↦ let same : entry_at (row_of q c) ≡ record { key = q.key; candidate = c } = rw (key_row q c, candidate-row q c f.0.item) in
          ap (λ (x : Option Entry). greatest_over x (map (row_of q) cs)) (row_goes (row_of q c) (sym (bits-say q c)) e o ∙ ap (λ (x : Entry). some (greater o x)) same)
          ∙ over_request q cs (some (greater o (record { key = q.key; candidate = c }))) f.1
          ∙ sym (upon_more o (record { key = q.key; candidate = c }) (victims_in q cs))
          ∙ ap (upon o) (sym (in_goes q c cs e))
    ]

-- ---- every row

over_table : (t : Table) (o : Option Entry) → All Lawful t → greatest_over o (rows_of t) ≡ upon o (victims anywhere t)
unfolding each rows_for victims
over_table [] o a = unfold greatest_over in sym (upon_nil o)
over_table (r ∷ t) o a =
    over_append o (map (row_of r) r.candidates) (rows_of t)
    ∙ ap (λ (x : Option Entry). greatest_over x (rows_of t)) (over_request r r.candidates o a.0.candidates)
    ∙ over_table t (upon o (victims_in r r.candidates)) a.1
    ∙ sym (upon_append o (victims_in r r.candidates) (victims anywhere t))

pub greatest-rows : (t : Table) → All Lawful t → greatest_over none (rows_of t) ≡ greatest (victims anywhere t)
greatest-rows t a = over_table t none a

pub found_anywhere : (t : Table) → All Lawful t → {o : Option Entry} → o ≡ none → {n : ℕ} → n ≡ length (rows_of t) → greatest_over o (part 0 n (rows_of t)) ≡ greatest (victims anywhere t)
found_anywhere t a {o} e {n} l =
    let m : length (rows_of t) ≤ n - 0 = omega arith in
    ap (greatest_over o) (take_all (n - 0) (rows_of t) m) ∙ over_table t o a ∙ ap (λ (x : Option Entry). upon x (victims anywhere t)) e

-- ---- the rows of a hash

abbrev pub at_key : Key → Table → List Entry
at_key k t = victims_in (at k t) (at k t).candidates

module _ (k : Key) (lo : ℕ) (t : Table) (o : Ordered lo t) {from to : ℕ} (p : from ≡ length (rows_below k t)) (q : to ≡ length (rows_below k t ++ rows_for (at k t))) where
  pub window_part : part from to (rows_of t) ≡ rows_for (at k t)
  window_part =
      let z : to - from ≡ length (rows_for (at k t)) = omega (arith, length-append (rows_below k t) (rows_for (at k t))) in
      ap (λ (l : List Row). take (to - from) (drop from l)) (rows_at k lo t o)
      ∙ ap (take (to - from)) (drop_at (rows_below k t) (rows_for (at k t) ++ rows_above k t) from (sym p))
      ∙ take_at (rows_for (at k t)) (rows_above k t) (to - from) (sym z)

  over_key : All Lawful t → (x : Option Entry) → greatest_over x (part from to (rows_of t)) ≡ upon x (at_key k t)
  unfolding rows_for
  over_key a x = ap (greatest_over x) window_part ∙ over_request (at k t) (at k t).candidates x (lawful_at k t a).candidates

key_here : (k : Key) (r : Request) (t : Table) → place k ≡ place r.key → at_key k (r ∷ t) ≡ victims_in r r.candidates
key_here k r t e = ap (λ (q : Request). victims_in q q.candidates) (at_here k r t e)

key_past : (k : Key) (r : Request) (t : Table) → (place k ≡ place r.key → ⊥) → at_key k (r ∷ t) ≡ at_key k t
key_past k r t n = ap (λ (q : Request). victims_in q q.candidates) (at_there k r t n)

key-absent : (k : Key) (lo : ℕ) (t : Table) → place k < lo → Ordered lo t → at_key k t ≡ []
unfolding victims_in
key-absent k lo t l o = ap (λ (q : Request). victims_in q q.candidates) (at_absent k lo t l o)

module _ (h : ℕ) (small : h < top) where
  pub at-hash : (lo : ℕ) (t : Table) → Ordered lo t → victims (at_hash h) t ≡ at_key (txid h) t ++ at_key (wtxid h) t
  unfolding victims at victims_in
  at-hash lo [] o = refl
  at-hash lo (r ∷ t) o = elim (test (eqb r.key.hash h)) [
    | inl e ↦ rw e (here r.key.kind refl (eqb-true r.key.hash h e) (at-hash (suc (place r.key)) t o.2))
    | inr e ↦ let n = eqb-false r.key.hash h e in
        let a = key_past (txid h) r t (apart h small (λ m. true) r Txid r.key.kind n o.1) in
        let b = key_past (wtxid h) r t (apart h small (λ m. true) r Wtxid r.key.kind n o.1) in
        rw e (at-hash _ t o.2 ∙ sym (ap (λ (l : List Entry). l ++ at_key (wtxid h) (r ∷ t)) a ∙ ap (λ (l : List Entry). at_key (txid h) t ++ l) b))
  ]
    where
      here : (k : Kind) → r.key.kind ≡ k → r.key.hash ≡ h → victims (at_hash h) t ≡ at_key (txid h) t ++ at_key (wtxid h) t
          → victims_in r r.candidates ++ victims (at_hash h) t ≡ at_key (txid h) (r ∷ t) ++ at_key (wtxid h) (r ∷ t)
      here Txid e q i =
          let w : place r.key ≡ h = ap (λ (x : Kind). base x + r.key.hash) e ∙ omega arith in
          let a = key_here (txid h) r t (omega arith) in
          let b = key_past (wtxid h) r t (λ y. omega arith) in
          let z = i ∙ ap (λ (l : List Entry). l ++ at_key (wtxid h) t) (key-absent (txid h) _ t (omega arith) o.2) in
          ap (λ (l : List Entry). victims_in r r.candidates ++ l) z ∙ sym (ap (λ (l : List Entry). l ++ at_key (wtxid h) (r ∷ t)) a ∙ ap (λ (l : List Entry). victims_in r r.candidates ++ l) b)
      here Wtxid e q i =
          let w : place r.key ≡ top + h = ap (λ (x : Kind). base x + r.key.hash) e ∙ omega arith in
          let a = key_past (txid h) r t (λ y. omega arith) ∙ key-absent (txid h) _ t (omega arith) o.2 in
          let b = key_here (wtxid h) r t (omega arith) in
          let y = i ∙ ap (λ (l : List Entry). l ++ at_key (wtxid h) t) (key-absent (txid h) _ t (omega arith) o.2) ∙ key-absent (wtxid h) _ t (omega arith) o.2 in
          ap (λ (l : List Entry). victims_in r r.candidates ++ l) y ∙ append-nil (victims_in r r.candidates) ∙ sym (ap (λ (l : List Entry). l ++ at_key (wtxid h) (r ∷ t)) a ∙ b)

  module _ (t : Table) (o : Ordered 0 t) (a : All Lawful t) where
    pub found_at_hash : {x y z : Option Entry} {from to from' to' : ℕ} → x ≡ none
        → from ≡ length (rows_below (txid h) t) → to ≡ length (rows_below (txid h) t ++ rows_for (at (txid h) t)) → y ≡ greatest_over x (part from to (rows_of t))
        → from' ≡ length (rows_below (wtxid h) t) → to' ≡ length (rows_below (wtxid h) t ++ rows_for (at (wtxid h) t)) → z ≡ greatest_over y (part from' to' (rows_of t))
        → z ≡ greatest (victims (at_hash h) t)
    found_at_hash {x} {y} {z} e p q ey p' q' ez =
        let first : y ≡ upon none (at_key (txid h) t) = ey ∙ over_key (txid h) 0 t o p q a x ∙ ap (λ (v : Option Entry). upon v (at_key (txid h) t)) e in
        ez
        ∙ over_key (wtxid h) 0 t o p' q' a y
        ∙ ap (λ (v : Option Entry). upon v (at_key (wtxid h) t)) first
        ∙ sym (upon_append none (at_key (txid h) t) (at_key (wtxid h) t))
        ∙ ap greatest (sym (at-hash 0 t o))
