-- What a change of one request does to its rows: an owner comes or goes, a mark, a ready time, an adopted candidate.
use Prim.Native.Nat.{ℕ, ◌+◌, ◌-◌}
use mathlib.Core.Path.{◌≡◌, refl, sym, ap, ◌∙◌}
use mathlib.Core.Bool.{Bool, true, false}
use mathlib.Core.List.{List, [], ◌∷◌, ◌++◌, map, append_assoc}
use mathlib.Core.Option.{Option, none, some}
use native.Mathlib.Omega.{arith}
use lib.Dec.{eqb}
use lib.ListN.{length, set}
use lib.Seq.{set_at}
use borrow.Author.Tests.{eq-eqb}
use Rattle.ident.specs.Number.{Key, kind_number}
use Rattle.regions.specs.declared.Row.{Row}
use Rattle.regions.specs.Rows.{with_ready, with_deadline, with_bits}
use Rattle.machine.specs.State.{Candidate, Owner, Request, Table, with_candidates, marked, ready_at, adopting, owner_is}
use Rattle.machine.specs.Table.{at, change, one, count_in, has}
use Rattle.machine.specs.Announce.{adopt, adopted}
use Rattle.machine.specs.Sound.{Ordered}
use Rattle.machine.proofs.Tests.{or_left, or_right}
use Rattle.regions.specs.Rows.{quad_of}
use Rattle.store.specs.Flat.{deadline_for, row_of, rows_for, rows_of}
use Rattle.store.proofs.Split.{rows_below, rows_above, rows-change}
use Rattle.store.proofs.Counts.{Distinct, in_hasnt, eqb-sym}
use Rattle.store.proofs.RowBack.{row_same, rows_like}
use Rattle.store.proofs.RowsAt.{rows_append, Among, ahead, behind, rows-among}

-- ---- one row

row_is : (a b : Row) → a.hash ≡ b.hash → a.conn ≡ b.conn → a.ready ≡ b.ready → a.prio ≡ b.prio → a.deadline ≡ b.deadline → a.bits ≡ b.bits → a ≡ b
row_is a b e f g h i j =
    let q : ◌≡◌ {A = Row} (record { hash = a.hash; conn = a.conn; ready = a.ready; prio = a.prio; deadline = a.deadline; bits = a.bits })
    (record { hash = b.hash; conn = b.conn; ready = b.ready; prio = b.prio; deadline = b.deadline; bits = b.bits }) = rw (e, f, g, h, i, j) in
    q

module _ (q r : Request) (c : Candidate) (e : q.key ≡ r.key) (m : q.fallback ≡ r.fallback) where
  -- its connection comes to own the request
  pub row-owned : (o : Owner) → q.owner ≡ some o → o.connection ≡ c.connection → owner_is c.connection r.owner ≡ false
      → row_of q c ≡ with_deadline o.deadline (with_bits ((row_of r c).bits + 8) (row_of r c))
  unfolding row_of
  row-owned o w n v =
      let t : eqb o.connection c.connection ≡ true = eq-eqb o.connection c.connection n in
      let d : deadline_for c.connection (some o) ≡ o.deadline = rw t in
      let k₁ : kind_number q.key.kind ≡ kind_number r.key.kind = ap (λ (k : Key). kind_number k.kind) e in
      let k₂ : one (owner_is c.connection q.owner) ≡ 1 = ap (λ (p : Option Owner). one (owner_is c.connection p)) w ∙ ap one t in
      let k₃ : one (owner_is c.connection r.owner) ≡ 0 = ap one v in
      let k₄ : one q.fallback ≡ one r.fallback = ap one m in
      row_is _ _ (ap (λ (k : Key). quad_of k.hash) e) refl refl refl (ap (deadline_for c.connection) w ∙ d) (omega arith)

  -- its connection ceases to
  pub row-unowned : q.owner ≡ none → owner_is c.connection r.owner ≡ true → row_of q c ≡ with_deadline 0 (with_bits ((row_of r c).bits - 8) (row_of r c))
  unfolding row_of
  row-unowned w v =
      let k₁ : kind_number q.key.kind ≡ kind_number r.key.kind = ap (λ (k : Key). kind_number k.kind) e in
      let k₂ : one (owner_is c.connection q.owner) ≡ 0 = ap (λ (p : Option Owner). one (owner_is c.connection p)) w in
      let k₃ : one (owner_is c.connection r.owner) ≡ 1 = ap one v in
      let k₄ : one q.fallback ≡ one r.fallback = ap one m in
      row_is _ _ (ap (λ (k : Key). quad_of k.hash) e) refl refl refl (ap (deadline_for c.connection) w) (omega arith)

pub idle : (n : ℕ) (o : Option Owner) → owner_is n o ≡ false → deadline_for n o ≡ 0
idle n none e = refl
idle n (some o) e = rw e

-- a connection that owns before and after, or neither, has the same row
row-idle : (q r : Request) (c : Candidate) → q.key ≡ r.key → q.fallback ≡ r.fallback → owner_is c.connection q.owner ≡ false → owner_is c.connection r.owner ≡ false
    → row_of q c ≡ row_of r c
row-idle q r c e m v w = row_same q r c e m (v ∙ sym w) (idle c.connection q.owner v ∙ sym (idle c.connection r.owner w))

pub row-ready : (r : Request) (c : Candidate) (v : ℕ) → row_of r (ready_at v c) ≡ with_ready v (row_of r c)
unfolding row_of
row-ready r c v = refl

pub rows-ready : (r : Request) (cs : List Candidate) (v : ℕ) → map (row_of r) (map (ready_at v) cs) ≡ map (with_ready v) (map (row_of r) cs)
rows-ready r [] v = refl
rows-ready r (c ∷ cs) v = rw (row-ready r c v, rows-ready r cs v)

pub row-marked : (r : Request) (c : Candidate) → r.fallback ≡ false → row_of (marked r) c ≡ with_bits ((row_of r c).bits + 16) (row_of r c)
unfolding row_of
row-marked r c m = let k : one r.fallback ≡ 0 = ap one m in row_is _ _ refl refl refl refl refl (omega arith)

pub row_remarked : (r : Request) (c : Candidate) → r.fallback ≡ true → row_of (marked r) c ≡ row_of r c
unfolding row_of
row_remarked r c m = let k : one r.fallback ≡ 1 = ap one m in row_is _ _ refl refl refl refl refl (omega arith)

-- ---- the rows of a request

-- none of these candidates is n
rows-idle : (n : ℕ) (q r : Request) (cs : List Candidate) → q.key ≡ r.key → q.fallback ≡ r.fallback → ((m : ℕ) → eqb n m ≡ false → owner_is m q.owner ≡ false)
    → ((m : ℕ) → eqb n m ≡ false → owner_is m r.owner ≡ false) → has n cs ≡ false → map (row_of q) cs ≡ map (row_of r) cs
unfolding has
rows-idle n q r [] e m v w h = refl
rows-idle n q r (c ∷ cs) e m v w h =
    let z = eqb-sym n c.connection ∙ or_left (eqb c.connection n) (has n cs) h in
    rw (row-idle q r c e m (v c.connection z) (w c.connection z), rows-idle n q r cs e m v w (or_right (eqb c.connection n) (has n cs) h))

none_behind : (n : ℕ) (cs : List Candidate) → Distinct cs → (f : Among n cs) → has n f.back ≡ false
unfolding count_in
none_behind n cs d f =
    in_hasnt n f.back (omega (arith, rw (f.all, in_append f.front (f.one ∷ f.back), eq-eqb f.one.connection n f.is) at (d n)))
  where
    in_append : (a b : List Candidate) → count_in (λ m. eqb m n) (a ++ b) ≡ count_in (λ m. eqb m n) a + count_in (λ m. eqb m n) b
    in_append [] b = omega arith
    in_append (c ∷ a) b = omega (arith, in_append a b)

module _ (k : Key) (n lo : ℕ) (t : Table) (o : Ordered lo t) (f : Among n (at k t).candidates) where
  abbrev r : Request
  r = at k t

  -- a change that shows in the row of n alone
  rows_one : (g : Request → Request) (c : Candidate) (x : Row) → (g r).candidates ≡ f.front ++ (c ∷ f.back) → map (row_of (g r)) f.front ≡ map (row_of r) f.front → row_of (g r) c ≡ x
      → map (row_of (g r)) f.back ≡ map (row_of r) f.back
      → rows_of (change k g t) ≡ set (rows_of t) (length (ahead k n lo t o f)) x
  unfolding rows_for
  rows_one g c x e a b d =
      let z : map (row_of (g r)) (g r).candidates ≡ map (row_of r) f.front ++ (x ∷ map (row_of r) f.back) = ap (map (row_of (g r))) e ∙ rows_append (g r) f.front (c ∷ f.back) ∙
      rw (a, b, d) in
      rows-change k lo t o g
      ∙ ap (λ (l : List Row). rows_below k t ++ (l ++ rows_above k t)) z
      ∙ (simp append_assoc)
      ∙ sym (set_at (ahead k n lo t o f) (row_of r f.one) (behind k n lo t o f) x (length (ahead k n lo t o f)) refl)
      ∙ ap (λ (l : List Row). set l (length (ahead k n lo t o f)) x) (sym (rows-among k n lo t o f))

  module _ (d : Distinct (at k t).candidates) (g : Request → Request) (ek : (g (at k t)).key ≡ (at k t).key) (ec : (g (at k t)).candidates ≡ (at k t).candidates)
      (em : (g (at k t)).fallback ≡ (at k t).fallback) where
    -- n becomes the owner of a request that has none
    pub rows-owned : (v : ℕ) → (g (at k t)).owner ≡ some (record { connection = n; deadline = v }) → (at k t).owner ≡ none
        → rows_of (change k g t) ≡ set (rows_of t) (length (ahead k n lo t o f)) (with_deadline v (with_bits ((row_of (at k t) f.one).bits + 8) (row_of (at k t) f.one)))
    rows-owned v w u =
        let p : (m : ℕ) → eqb n m ≡ false → owner_is m (g r).owner ≡ false = λ m z. ap (owner_is m) w ∙ z in
        let q : (m : ℕ) → owner_is m r.owner ≡ false = λ m. ap (owner_is m) u in
        rows_one g f.one _ (ec ∙ f.all)
        (rows-idle n (g r) r f.front ek em p (λ m z. q m) f.none)
        (row-owned (g r) r f.one ek em (record { connection = n; deadline = v }) w (sym f.is) (q f.one.connection))
        (rows-idle n (g r) r f.back ek em p (λ m z. q m) (none_behind n r.candidates d f))

    -- the owner n goes
    pub rows-unowned : (v : Owner) → (g (at k t)).owner ≡ none → (at k t).owner ≡ some v → v.connection ≡ n
        → rows_of (change k g t) ≡ set (rows_of t) (length (ahead k n lo t o f)) (with_deadline 0 (with_bits ((row_of (at k t) f.one).bits - 8) (row_of (at k t) f.one)))
    rows-unowned v w u e =
        let p : (m : ℕ) → owner_is m (g r).owner ≡ false = λ m. ap (owner_is m) w in
        let q : (m : ℕ) → eqb n m ≡ false → owner_is m r.owner ≡ false = λ m z. ap (owner_is m) u ∙ ap (λ (x : ℕ). eqb x m) e ∙ z in
        rows_one g f.one _ (ec ∙ f.all)
        (rows-idle n (g r) r f.front ek em (λ m z. p m) q f.none)
        (row-unowned (g r) r f.one ek em w (ap (owner_is f.one.connection) u ∙ eq-eqb v.connection f.one.connection (e ∙ sym f.is)))
        (rows-idle n (g r) r f.back ek em (λ m z. p m) q (none_behind n r.candidates d f))

-- "an existing candidate .. takes the smaller ready time and priority, turns preferred"
adopt-among : (same : Bool) (c : Candidate) (a b : List Candidate) (d : Candidate) → has c.connection a ≡ false → d.connection ≡ c.connection
    → adopt same c (a ++ (d ∷ b)) ≡ a ++ (adopting same c d ∷ b)
unfolding adopt has
adopt-among same c [] b d h e = rw (eq-eqb d.connection c.connection e)
adopt-among same c (x ∷ a) b d h e =
    rw (or_left (eqb x.connection c.connection) (has c.connection a) h, adopt-among same c a b d (or_right (eqb x.connection c.connection) (has c.connection a) h) e)

pub rows-adopted : (same : Bool) (c : Candidate) (k : Key) (lo : ℕ) (t : Table) (o : Ordered lo t) (f : Among c.connection (at k t).candidates)
    → rows_of (adopted same k c t) ≡ set (rows_of t) (length (ahead k c.connection lo t o f)) (row_of (at k t) (adopting same c f.one))
rows-adopted same c k lo t o f =
    let r : Request = at k t in
    let q : Request = with_candidates (adopt same c r.candidates) r in
    rows_one k c.connection lo t o f (λ p. with_candidates (adopt same c p.candidates) p) (adopting same c f.one) _
    (ap (adopt same c) f.all ∙ adopt-among same c f.front f.back f.one f.none f.is)
    (rows_like q r f.front refl refl refl)
    (row_same q r (adopting same c f.one) refl refl refl refl)
    (rows_like q r f.back refl refl refl)
