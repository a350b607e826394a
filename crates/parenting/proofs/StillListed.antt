-- A request is changed at whose hash no victim listed is: rows at the hash may leave the falling order, and those listed are its first still.
use Prim.Native.Nat.{ℕ, zero, suc}
use mathlib.Core.Path.{◌≡◌, refl, sym, ap, subst, ◌∙◌}
use mathlib.Core.Logic.{◌⊎◌, inl, inr}
use mathlib.Core.Bool.{Bool, true, false}
use mathlib.Core.List.{List, [], ◌∷◌, ◌++◌, map}
use lib.Dec.{eqb}
use lib.ListN.{length, get_or, take}
use borrow.Author.Tests.{eq-eqb}
use Rattle.ident.specs.Number.{Key}
use Rattle.regions.specs.declared.Row.{Row}
use Rattle.machine.specs.State.{Candidate, Entry, Request, Table, marked, adopting, owner_is}
use Rattle.machine.specs.Table.{at, change, one}
use Rattle.machine.specs.Announce.{after, adopt}
use Rattle.machine.specs.Sound.{Ordered}
use Rattle.machine.specs.Typed.{Each}
use Rattle.machine.proofs.Tests.{test, never}
use Rattle.store.specs.Flat.{witness_bit, row_of, rows_for, rows_of}
use Rattle.store.specs.Gather.{item_kind_as, key_at, candidate_at}
use Rattle.store.proofs.Bits.{bits-witness, bits-preferred, key_row}
use Rattle.store.proofs.Split.{rows_below, rows_above, rows_at, rows-change}
use Rattle.announcing.specs.Evicts.{entry_at, protected}
use Rattle.announcing.specs.Falls.{ranked, fallen, no_row, numbered, Numbers, Falling, VictimRows}
use Rattle.announcing.proofs.Precedence.{after-over}
use Rattle.announcing.proofs.Ranking.{falling_ranked}
use Rattle.announcing.proofs.Victims.{bits-say}

-- the same numbers name the same rows, which are the first that give way of the rows rs
pub record Still (w : List ℕ) (m : ℕ) (rows rs : List Row) : Type 0 where
  pub victims : VictimRows w m rs
  pub same : victims.rows ≡ rows

module _ (h : ℕ) where
  abbrev pub Off : Row → Type 0
  Off y = eqb (key_at y).hash h ≡ false

  -- ---- a list without some entries at the hash

  abbrev pub Fewer : List Entry → List Entry → Type 0
  Fewer [] [] = Unit {0}
  Fewer [] (y ∷ l') = ⊥
  Fewer (x ∷ l) [] = (eqb x.key.hash h ≡ true) × Fewer l []
  Fewer (x ∷ l) (y ∷ l') = ((x ≡ y) × Fewer l l') ⊎ ((eqb x.key.hash h ≡ true) × Fewer l (y ∷ l'))

  one_less : (x : Entry) (l l' : List Entry) → eqb x.key.hash h ≡ true → Fewer l l' → Fewer (x ∷ l) l'
  one_less x l [] a s = (a, s)
  one_less x l (y ∷ l') a s = inr (a, s)

  each_fewer : (P : Entry → Type 0) (l : List Entry) (y : Entry) (l' : List Entry) → Each P l → Fewer l (y ∷ l') → P y
  each_fewer P [] y l' a s = absurd s
  each_fewer P (x ∷ l) y l' a s = elim s [ inl k ↦ subst P k.0 a.0 | inr k ↦ each_fewer P l y l' a.1 k.1 ]

  put_both : (e : Entry) (l l' : List Entry) → Falling l → Fewer l l' → Fewer (ranked e l) (ranked e l')
  unfolding ranked
  put_both e [] [] f s = inl (refl, tt)
  put_both e [] (y ∷ l') f s = absurd s
  put_both e (x ∷ l) [] f s = elim (test (after e x)) [ inl a ↦ rw a (inl (refl, s)) | inr a ↦ rw a (inr (s.0, put_both e l [] f.1 s.1)) ]
  put_both e (x ∷ l) (y ∷ l') f s = elim s [
    | inl k ↦ elim (test (after e x)) [
      | inl a ↦ rw (a, ap (after e) (sym k.0) ∙ a) (inl (refl, inl k))
      | inr a ↦ rw (a, ap (after e) (sym k.0) ∙ a) (inl (k.0, put_both e l l' f.1 k.1))
    ]
    | inr k ↦ elim (test (after e x)) [
      | inl a ↦ rw (a, after-over e x y a (each_fewer (λ z. after z x ≡ false) l y l' f.0 k.1)) (inl (refl, inr k))
      | inr a ↦ rw a (one_less x (ranked e l) (ranked e (y ∷ l')) k.0 (put_both e l (y ∷ l') f.1 k.1))
    ]
  ]

  put_one : (e : Entry) (l l' : List Entry) → eqb e.key.hash h ≡ true → Fewer l l' → Fewer (ranked e l) l'
  unfolding ranked
  put_one e [] [] a s = (a, tt)
  put_one e [] (y ∷ l') a s = absurd s
  put_one e (x ∷ l) [] a s = elim (test (after e x)) [ inl b ↦ rw b (a, s) | inr b ↦ rw b (s.0, put_one e l [] a s.1) ]
  put_one e (x ∷ l) (y ∷ l') a s = elim (test (after e x)) [
    | inl b ↦ rw b (inr (a, s))
    | inr b ↦ rw b (elim s [ inl k ↦ inl (k.0, put_one e l l' a k.1) | inr k ↦ inr (k.0, put_one e l (y ∷ l') a k.1) ])
  ]

  -- what begins with entries elsewhere does so still
  record Begins (a l : List Entry) : Type 0 where
    others : List Entry
    all : l ≡ a ++ others

  begins : (a o l : List Entry) → Each (λ (x : Entry). eqb x.key.hash h ≡ false) a → Fewer (a ++ o) l → Begins a l
  begins [] o l e s = record { others = l; all = refl }
  begins (x ∷ a) o [] e s = never (sym e.0 ∙ s.0)
  begins (x ∷ a) o (y ∷ l) e s = elim s [
    | inl k ↦ let b = begins a o l e.1 k.1 in record { others = b.others; all = λ i. sym k.0 i ∷ b.all i }
    | inr k ↦ never (sym e.0 ∙ k.0)
  ]

  -- ---- rows that are others at the hash alone: each has the entry that it had, or stays

  pub record Shift (r r' : Row) : Type 0 where
    pub same : Off r → r' ≡ r
    pub goes : (protected r'.bits ≡ true) ⊎ ((entry_at r' ≡ entry_at r) × (protected r'.bits ≡ protected r.bits))

  abbrev pub Turned : List Row → List Row → Type 0
  Turned [] [] = Unit {0}
  Turned [] (y ∷ l') = ⊥
  Turned (x ∷ l) [] = ⊥
  Turned (x ∷ l) (y ∷ l') = Shift x y × Turned l l'

  turned_same : (l : List Row) → Turned l l
  turned_same [] = tt
  turned_same (x ∷ l) = (record { same = λ _. refl; goes = inr (refl, refl) }, turned_same l)

  turned_both : (a a' b b' : List Row) → Turned a a' → Turned b b' → Turned (a ++ b) (a' ++ b')
  turned_both [] [] b b' s t = t
  turned_both [] (y ∷ a') b b' s t = absurd s
  turned_both (x ∷ a) [] b b' s t = absurd s
  turned_both (x ∷ a) (y ∷ a') b b' s t = (s.0, turned_both a a' b b' s.1 t)

  turned_length : (l l' : List Row) → Turned l l' → length l' ≡ length l
  turned_length [] [] t = refl
  turned_length [] (y ∷ l') t = absurd t
  turned_length (x ∷ l) [] t = absurd t
  turned_length (x ∷ l) (y ∷ l') t = ap suc (turned_length l l' t.1)

  turned_at : (l l' : List Row) (i : ℕ) → Turned l l' → Off (get_or l i no_row) → get_or l' i no_row ≡ get_or l i no_row
  turned_at [] [] i t o = refl
  turned_at [] (y ∷ l') i t o = absurd t
  turned_at (x ∷ l) [] i t o = absurd t
  turned_at (x ∷ l) (y ∷ l') zero t o = t.0.same o
  turned_at (x ∷ l) (y ∷ l') (suc i) t o = turned_at l l' i t.1 o

  turned_numbered : (l l' : List Row) (ns : List ℕ) → Turned l l' → Each Off (numbered l ns) → numbered l' ns ≡ numbered l ns
  turned_numbered l l' [] t o = refl
  turned_numbered l l' (i ∷ ns) t o = λ k. turned_at l l' i t o.0 k ∷ turned_numbered l l' ns t o.1 k

  at_hash : (r r' : Row) → (Off r → r' ≡ r) → protected r'.bits ≡ true → protected r.bits ≡ false → eqb (key_at r).hash h ≡ true
  at_hash r r' s p q = elim (test (eqb (key_at r).hash h)) [ inl e ↦ e | inr e ↦ never (sym q ∙ ap (λ (z : Row). protected z.bits) (sym (s e)) ∙ p) ]

  fallen_fewer : (rs rs' : List Row) (l l' : List Entry) → Falling l → Turned rs rs' → Fewer l l' → Fewer (fallen l rs) (fallen l' rs')
  unfolding fallen
  fallen_fewer [] [] l l' f t s = s
  fallen_fewer [] (y ∷ rs') l l' f t s = absurd t
  fallen_fewer (x ∷ rs) [] l l' f t s = absurd t
  fallen_fewer (x ∷ rs) (y ∷ rs') l l' f t s = elim t.0.goes [
    | inl p ↦ elim (test (protected x.bits)) [
      | inl q ↦ rw (p, q) (fallen_fewer rs rs' l l' f t.1 s)
      | inr q ↦ rw (p, q) (fallen_fewer rs rs' (ranked (entry_at x) l) l' (falling_ranked (entry_at x) l f) t.1 (put_one (entry_at x) l l' (at_hash x y t.0.same p q) s))
    ]
    | inr p ↦ elim (test (protected x.bits)) [
      | inl q ↦ rw (p.1 ∙ q, q) (fallen_fewer rs rs' l l' f t.1 s)
      | inr q ↦ rw (p.1 ∙ q, q) (fallen_fewer rs rs' (ranked (entry_at x) l) (ranked (entry_at y) l') (falling_ranked (entry_at x) l f) t.1
          (subst (λ (z : Entry). Fewer (ranked (entry_at x) l) (ranked z l')) (sym p.0) (put_both (entry_at x) l l' f s)))
    ]
  ]

  off_entries : (ys : List Row) → Each Off ys → Each (λ (x : Entry). eqb x.key.hash h ≡ false) (map entry_at ys)
  off_entries [] o = tt
  off_entries (y ∷ ys) o = (o.0, off_entries ys o.1)

  pub still_first : {rs rs' : List Row} {w : List ℕ} {m : ℕ} (x : VictimRows w m rs) → Turned rs rs' → Each Off x.rows → Still w m x.rows rs'
  still_first {rs} {rs'} {w} {m} x t o =
      let b = begins (map entry_at x.rows) x.first.others (fallen [] rs') (off_entries x.rows o)
      (subst (λ (l : List Entry). Fewer l (fallen [] rs')) x.first.all (fallen_fewer rs rs' [] [] tt t tt)) in
      record {
        victims = record {
          rows = x.rows;
          count = x.count;
          inside = subst (Numbers w m) (sym (turned_length rs rs' t)) x.inside;
          are = x.are ∙ sym (turned_numbered rs rs' (take m w) t (subst (Each Off) x.are o));
          first = record { others = b.others; all = b.all };
        };
        same = refl;
      }

  -- ---- the rows of one request

  reading : (q : Request) (c : Candidate) → candidate_at (row_of q c) ≡ record {
    connection = c.connection;
    item = record { kind = item_kind_as q.key.kind (witness_bit c.item.kind); hash = q.key.hash };
    ready = c.ready;
    preferred = eqb (one c.preferred) 1;
    priority = c.priority;
  }
  unfolding candidate_at row_of
  reading q c =
      let x = bits-witness q.key.kind c.item.kind c.preferred (owner_is c.connection q.owner) q.fallback in
      let y = bits-preferred q.key.kind c.item.kind c.preferred (owner_is c.connection q.owner) q.fallback in
      rw (key_row q c, x, y)

  module _ (q : Request) (here : q.key.hash ≡ h) where
    on : (c : Candidate) → eqb (key_at (row_of q c)).hash h ≡ true
    on c = eq-eqb (key_at (row_of q c)).hash h (ap (λ (k : Key). k.hash) (key_row q c) ∙ here)

    pub turned_marked : (cs : List Candidate) → Turned (map (row_of q) cs) (map (row_of (marked q)) cs)
    turned_marked [] = tt
    turned_marked (c ∷ cs) = (
      record {
        same = λ o. never (sym o ∙ on c);
        goes = inr (
          λ i. record { key = (key_row (marked q) c ∙ sym (key_row q c)) i; candidate = (reading (marked q) c ∙ sym (reading q c)) i },
          bits-say (marked q) c ∙ sym (bits-say q c),
        );
      },
      turned_marked cs,
    )

    pub turned_adopted : (same : Bool) (b : Candidate) (cs : List Candidate) → Turned (map (row_of q) cs) (map (row_of q) (adopt same b cs))
    unfolding adopt
    turned_adopted same b [] = tt
    turned_adopted same b (c ∷ cs) = elim (test (eqb c.connection b.connection)) [
      | inl e ↦ rw e (record { same = λ o. never (sym o ∙ on c); goes = inl (bits-say q (adopting same b c)) }, turned_same (map (row_of q) cs))
      | inr e ↦ rw e (record { same = λ _. refl; goes = inr (refl, refl) }, turned_adopted same b cs)
    ]

  pub turned_change : (k : Key) (f : Request → Request) (t : Table) → Ordered 0 t → Turned (rows_for (at k t)) (rows_for (f (at k t))) → Turned (rows_of t) (rows_of (change k f t))
  turned_change k f t o a =
      subst (λ (l : List Row). Turned l (rows_of (change k f t))) (sym (rows_at k 0 t o))
      (subst (Turned (rows_below k t ++ (rows_for (at k t) ++ rows_above k t))) (sym (rows-change k 0 t o f))
      (turned_both (rows_below k t) (rows_below k t) (rows_for (at k t) ++ rows_above k t) (rows_for (f (at k t)) ++ rows_above k t) (turned_same (rows_below k t))
      (turned_both (rows_for (at k t)) (rows_for (f (at k t))) (rows_above k t) (rows_above k t) a (turned_same (rows_above k t)))))
