-- The entries of a region, counted one after the other into the table at their front.
use Prim.Native.Nat.{ℕ, suc, ◌+◌, ◌-◌, ◌%◌, ◌≤◌, ◌<◌}
use mathlib.Core.Path.{◌≡◌, refl, sym, ap, subst, ◌∙◌}
use mathlib.Core.Bool.{Bool, true, false}
use mathlib.Core.List.{List, [], ◌∷◌, ◌++◌, map-append}
use native.Mathlib.Omega.{arith}
use lib.ListN.{length, take, drop, get_or, set, length-append, length-set, length-map}
use lib.Seq.{take_at, take_all, length-take-le, get_or-take, get_or-drop, drop-drop, drop-append-add, drop-set-lt, set-append_left}
use Rattle.words.specs.Words.{recs}
use Rattle.words.proofs.Records.{take-recs}
use Rattle.regions.specs.declared.Conn.{Conn}
use Rattle.regions.specs.Order.{Bound, Sought}
use Rattle.regions.specs.Regions.{insert_at, Found, Replaced, Inserted, Truncated}
use Rattle.regions.specs.Rows.{conn_size, conn_words, read_conn, conn_key}
use Rattle.regions.proofs.Regions.{column}
use Rattle.machine.specs.Typed.{Each}
use Rattle.store.specs.Flat.{bump}
use Rattle.store.specs.Shown.{conn_names}
use Rattle.store.proofs.Entries.{names-sorted, bump_found, bump-missing}
use Rattle.store.proofs.Frame.{length-insert}
use Rattle.store.proofs.Missing.{each_at}
use Rattle.store.proofs.Tally.{fresh, more, Tallied}
use Rattle.tallying.specs.Entries.{with_row, counted, Entries, Partly, EntryAt, Settled}
use Rattle.tallying.proofs.Counted.{Few, counted_next, counted_tallied, counted_few}
use Rattle.tallying.proofs.Opening.{opened-entries}

pub partly_none : (L : ℕ) (cs : List Conn) {w : List ℕ} → Entries L cs w → Partly L cs w 0 0
unfolding counted
partly_none L cs h = record { table = []; rest = cs; holds = h; many = refl; long = refl; short = omega arith; left = refl; counts = refl }

module _ {L m j : ℕ} {cs : List Conn} {w : List ℕ} (p : Partly L cs w m j) (l : j < length cs) where
  -- the entries that the region holds
  abbrev all : List Conn
  all = p.table ++ p.rest

  all_long : length all ≡ length cs
  all_long = p.long

  parts : length all ≡ m + length p.rest
  parts = length-append p.table p.rest ∙ ap (λ (n : ℕ). n + length p.rest) p.many

  front : take m all ≡ p.table
  front = take_at p.table p.rest m p.many

  tallied : Tallied 0 p.table
  tallied = subst (Tallied 0) (sym p.counts) (counted_tallied [] (take j cs) tt)

  few : Each (Few j) p.table
  few =
      let n : 0 + length (take j cs) ≡ j = omega (arith, length-take-le j cs (omega arith)) in
      subst (λ (t : List Conn). Each (Few j) t) (sym p.counts) (subst (λ (k : ℕ). Each (Few k) (counted [] (take j cs))) n (counted_few 0 [] (take j cs) tt))

  in_table : (i : ℕ) (d : Conn) → i < m → get_or all i d ≡ get_or p.table i d
  in_table i d h = sym (get_or-take m all i d h) ∙ ap (λ (t : List Conn). get_or t i d) front

  -- the next entry, and those behind it
  next_is : (d : Conn) → get_or all j d ≡ get_or cs j d
  next_is d =
      let z : j + 0 ≡ j = omega arith in
      let at : (l : List Conn) → get_or (drop j l) 0 d ≡ get_or l j d = λ l. get_or-drop j l 0 d ∙ ap (λ (n : ℕ). get_or l n d) z in
      sym (at all) ∙ ap (λ (t : List Conn). get_or t 0 d) p.left ∙ at cs

  behind : drop (suc j) all ≡ drop (suc j) cs
  behind =
      let z : j + 1 ≡ suc j = omega arith in
      let at : (l : List Conn) → drop 1 (drop j l) ≡ drop (suc j) l = λ l. drop-drop 1 j l ∙ ap (λ (n : ℕ). drop n l) z in
      sym (at all) ∙ ap (drop 1) p.left ∙ at cs

  -- what a search in the table finds
  names : length cs ≤ L → recs conn_size conn_key m w ≡ conn_names p.table
  unfolding conn_words
  names fits =
      let c = column conn_size conn_words (λ r. refl) conn_key (λ (a : Conn). a.conn) (λ r. refl) L all (omega (arith, all_long)) p.holds in
      sym (take-recs conn_size conn_key m (length all) w (omega (arith, parts))) ∙ ap (take m) (c ∙ map-append (λ (a : Conn). a.conn) p.table p.rest)
      ∙ take_at (conn_names p.table) (conn_names p.rest) m (length-map p.table (λ (a : Conn). a.conn) ∙ p.many)

  bound : length cs ≤ L → {x q : ℕ} → Sought (recs conn_size conn_key m w) m x q → Bound (conn_names p.table) x q
  bound fits s = let e = names fits in rw e at (s.bound (rw e (names-sorted 0 p.table tallied)))

  -- the table with one row more, and what stands behind it
  turned : {c : Conn} {w' : List ℕ} {k : ℕ} (t r : List Conn) → c ≡ get_or cs j c → t ≡ with_row c p.table → Entries L (t ++ r) w' → length t ≡ k → k ≤ suc j → length (t ++ r) ≡ length all
      → drop (suc j) (t ++ r) ≡ drop (suc j) all → Partly L cs w' k (suc j)
  turned {c} {w'} {k} t r e q h n s long left = record {
    table = t;
    rest = r;
    holds = h;
    many = n;
    long = long ∙ p.long;
    short = s;
    left = left ∙ behind;
    counts = q ∙ ap (λ (a : Conn). with_row a p.table) e ∙ ap (with_row (get_or cs j c)) p.counts ∙ sym (counted_next cs j c l);
  }

  module _ {c : Conn} (r : Found conn_size conn_words w read_conn j c) where
    next : c ≡ get_or cs j c
    next = r.region L all c (omega (arith, all_long)) p.holds ∙ next_is c

    -- the connection has an entry
    module _ {q : ℕ} {e : Conn} (i : q < m) (g : Found conn_size conn_words w read_conn q e) where
      entry : e ≡ get_or p.table q e
      entry = g.region L all e (omega (arith, parts)) p.holds ∙ in_table q e i

      pub entry_few : Few j e
      entry_few = subst (Few j) (sym entry) (each_at (Few j) p.table q e few (omega (arith, p.many)))

      pub partly_found : {w' : List ℕ} → length cs ≤ L → Sought (recs conn_size conn_key m w) m c.conn q → {b : Bool} → EntryAt w m q c.conn b → b ≡ true
          → Replaced conn_size conn_words w w' q (record { conn = e.conn; held = e.held + 1; owned = e.owned + c.owned % 2 }) → Partly L cs w' m (suc j)
      partly_found {w'} fits s is taken h =
          let o = c.owned % 2 in
          let v : Conn = more o e in
          let lt : q < length p.table = omega (arith, p.many) in
          let same : (get_or p.table q e).conn ≡ c.conn = ap (λ (a : Conn). a.conn) (sym (in_table q e i)) ∙ is.is L all e (omega (arith, parts)) p.holds taken in
          let b : bump c.conn o p.table ≡ set p.table q v = bump_found p.table (bound fits s) e lt same o ∙ ap (λ (a : Conn). set p.table q (more o a)) (sym entry) in
          let z : set all q v ≡ set p.table q v ++ p.rest = set-append_left p.table p.rest q v lt in
          turned (set p.table q v) p.rest next (sym b) (subst (λ (t : List Conn). Entries L t w') z (h.region L all (omega (arith, parts)) p.holds))
          (length-set p.table q v ∙ p.many) (omega (arith, p.short)) (sym (ap length z) ∙ length-set all q v)
          (ap (drop (suc j)) (sym z) ∙ drop-set-lt (suc j) all q v (omega (arith, p.short)))

    -- it has none
    pub partly_new : {w' : List ℕ} {q : ℕ} → length cs ≤ L → Sought (recs conn_size conn_key m w) m c.conn q → {b : Bool} → EntryAt w m q c.conn b → b ≡ false
        → Inserted conn_size conn_words w w' m q (fresh c.conn (c.owned % 2)) → Partly L cs w' (m + 1) (suc j)
    partly_new {w'} {q} fits s is left_out h = rest p.rest refl
      where
        x : Conn
        x = fresh c.conn (c.owned % 2)

        missing : q < length p.table → (get_or p.table q c).conn ≡ c.conn → ⊥
        missing i e = is.not L all c (omega (arith, parts, p.many)) p.holds left_out (omega (arith, p.many)) (ap (λ (a : Conn). a.conn) (in_table q c (omega (arith, p.many))) ∙ e)

        b : bump c.conn (c.owned % 2) p.table ≡ insert_at q x p.table
        b = bump-missing p.table (bound fits s) c missing (c.owned % 2)

        longer : length (insert_at q x p.table) ≡ m + 1
        longer = length-insert p.table q x (omega (arith, s.most, p.many)) ∙ ap (λ (n : ℕ). n + 1) p.many

        rest : (r : List Conn) → p.rest ≡ r → Partly L cs w' (m + 1) (suc j)
        rest [] e = let z : length p.rest ≡ 0 = ap length e in absurd (omega (arith, parts, all_long, p.short))
        rest (y ∷ r) e =
            let T = p.table in
            let d : ℕ = j - m in
            let lr : length p.rest ≡ suc (length r) = ap length e in
            let lt : length (insert_at q x T ++ r) ≡ length all = length-append (insert_at q x T) r ∙ omega (arith, longer, parts) in
            let u : suc j ≡ length (insert_at q x T) + d = omega (arith, longer, p.short) in
            let v : suc j ≡ length T + suc d = omega (arith, p.many, p.short) in
            let left : drop (suc j) (insert_at q x T ++ r) ≡ drop (suc j) all =
            ap (λ (n : ℕ). drop n (insert_at q x T ++ r)) u ∙ drop-append-add (insert_at q x T) r d
            ∙ sym (ap (λ (z : List Conn). drop (suc j) (T ++ z)) e ∙ ap (λ (n : ℕ). drop n (T ++ (y ∷ r))) v ∙ drop-append-add T (y ∷ r) (suc d)) in
            let o = opened-entries L T y x r q (omega (arith, s.most, p.many)) (omega (arith, parts, all_long, p.many)) in
            let held : Entries L (T ++ (y ∷ r)) w = subst (λ (z : List Conn). Entries L (T ++ z) w) e p.holds in
            turned (insert_at q x T) r next (sym b) (h.words_are ∙ rw (← p.many, held) o) longer (omega (arith, p.short)) lt left

-- ---- one after the other

pub record Collecting (w₀ w : List ℕ) (n m j : ℕ) : Type 0 where
  pub short : m ≤ j
  pub most : j ≤ n
  pub parts : (L : ℕ) (cs : List Conn) → length cs ≡ n → n ≤ L → Entries L cs w₀ → Partly L cs w m j

pub collecting_none : (w : List ℕ) (n : ℕ) → Collecting w w n 0 0
collecting_none w n = record { short = omega arith; most = omega arith; parts = λ L cs e l h. partly_none L cs h }

module _ {w₀ w : List ℕ} {n m j : ℕ} (p : Collecting w₀ w n m j) where
  pub collecting_done : {w₁ : List ℕ} → j ≡ n → Truncated conn_size conn_words w w₁ n m → Settled w₀ w₁ n m
  unfolding conn_words
  collecting_done {w₁} e t = record {
    most = omega (arith, p.short);
    all = λ L cs n' f h.
        let z = p.parts L cs n' f h in
        let a : z.table ≡ counted [] cs = z.counts ∙ ap (counted []) (take_all j cs (omega arith)) in
        let held = t.region L (z.table ++ z.rest) (z.long ∙ n') z.holds in
        let k : take m (z.table ++ z.rest) ≡ counted [] cs = take_at z.table z.rest m z.many ∙ a in
        (subst (λ (x : List Conn). Entries L x w₁) k held, sym (ap length a) ∙ z.many);
  }

-- for the tactic
pub ruleset counting = (partly_found, partly_new)
