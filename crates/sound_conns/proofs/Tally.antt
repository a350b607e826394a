-- Counters of the entries' rows.
use Prim.Native.Nat.{ℕ, zero, suc, ◌+◌, ◌-◌, ◌*◌, ◌≤◌, ◌<◌}
use mathlib.Core.Path.{◌≡◌, sym, ap, ◌∙◌}
use mathlib.Core.Logic.{◌⊎◌, inl, inr}
use mathlib.Core.Bool.{Bool, true, false, ◌&&◌}
use mathlib.Core.List.{List, [], ◌∷◌, ◌++◌}
use native.Mathlib.Omega.{arith}
use lib.Dec.{eqb}
use lib.ListN.{length, take, drop, get_or, set}
use lib.Seq.{get_or-set_same, get_or-set_other}
use borrow.Author.Tests.{eqb-true, eqb-false, eq-eqb, ne_eqb}
use Rattle.words.specs.Words.{recs}
use Rattle.words.proofs.Records.{length-recs, recs-add, recs_at}
use Rattle.regions.specs.declared.Row.{Row}
use Rattle.regions.specs.declared.Conn.{Conn}
use Rattle.regions.specs.Rows.{row_size, read_row, conn_size, read_conn}
use Rattle.machine.specs.Table.{one}
use Rattle.machine.specs.Typed.{Each}
use Rattle.machine.proofs.Tests.{test, order}
use Rattle.store.specs.Flat.{own_bit}
use Rattle.store.specs.FlatSound.{count_rows, owns, ConnFits}
use Rattle.store.proofs.Counts.{rows_append}
use Rattle.store.proofs.Certify.{own-bit}
use Rattle.sound_conns.specs.Conns.{half, owner_rows_by, Counts, Left, names, Rising, Named, Less, Enough, Lessened}
use Rattle.sound_conns.specs.Conns.{Short, Lessening, Inside, NamedIn, Took, Lacks, Taking, Tallied, blank, Within, Window}
use Rattle.sound_rows.proofs.Decide.{Iff}
use Rattle.sound_conns.proofs.Entries.{length-names, name-entry}
use Rattle.sound_rows.specs.Groups.{rows_by}

-- ---- one counter less

pub charged : (c : Conn) → ConnFits c → Left [] c (c.held + c.owned * half)
unfolding count_rows
charged c f = record { held = omega (arith, f.held); owned = omega (arith, f.held) }

-- ---- rows counted one by one

-- one row more, at the end
pub recs_last : {A : Type 0} (k : ℕ) (f : List ℕ → A) (i : ℕ) (w : List ℕ) → recs k f (i + 1) w ≡ recs k f i w ++ (f (take k (drop (k * i) w)) ∷ [])
unfolding recs
recs_last k f i w = recs-add k f i 1 w

module _ (rs : List Row) (r : Row) where
  held_more : (x : ℕ) → rows_by x (rs ++ (r ∷ [])) ≡ rows_by x rs + one (eqb r.conn x)
  held_more x = rows_append (λ r. eqb r.conn x) rs (r ∷ []) ∙ unfold count_rows in omega arith

  owned_more : (x : ℕ) → owner_rows_by x (rs ++ (r ∷ [])) ≡ owner_rows_by x rs + one (eqb r.conn x && owns r)
  owned_more x = rows_append (λ r. eqb r.conn x && owns r) rs (r ∷ []) ∙ unfold count_rows in omega arith

  left_own : (c : Conn) {v v' : ℕ} → r.conn ≡ c.conn → Less (own_bit r) v v' → Left rs c v → Left (rs ++ (r ∷ [])) c v'
  left_own c e d s = record {
    held = rw (held_more c.conn, eq-eqb r.conn c.conn e) (omega (arith, d.held, s.held));
    owned = rw (owned_more c.conn, eq-eqb r.conn c.conn e) (omega (arith, d.owned, s.owned, own-bit r));
  }

  left_other : (c : Conn) {v : ℕ} → (r.conn ≡ c.conn → ⊥) → Left rs c v → Left (rs ++ (r ∷ [])) c v
  left_other c n s = record {
    held = rw (held_more c.conn, ne_eqb r.conn c.conn n) (omega (arith, s.held));
    owned = rw (owned_more c.conn, ne_eqb r.conn c.conn n) (omega (arith, s.owned));
  }

  -- a row that is not enough for
  left_short : (c : Conn) {v : ℕ} → r.conn ≡ c.conn → (Enough (own_bit r) v → ⊥) → Left rs c v → rows_by c.conn (rs ++ (r ∷ [])) ≤ c.held → owner_rows_by c.conn (rs ++ (r ∷ [])) ≤ c.owned → ⊥
  left_short c e n s h o =
      let h' : rows_by c.conn rs + 1 ≤ c.held = rw (held_more c.conn, eq-eqb r.conn c.conn e) at h in
      let o' : owner_rows_by c.conn rs + one (owns r) ≤ c.owned = rw (owned_more c.conn, eq-eqb r.conn c.conn e) at o in
      n (omega (arith, s.held), omega (arith, s.owned, own-bit r))

each_last : {A : Type 0} (P : A → Type 0) (l : List A) (a : A) → Each P l → P a → Each P (l ++ (a ∷ []))
each_last P [] a e p = (p, tt)
each_last P (b ∷ l) a e p = (e.0, each_last P l a e.1 p)

-- names that rise are apart
rising-apart : (ks : List ℕ) → Rising ks → (p q : ℕ) → p < length ks → q < length ks → get_or ks p 0 ≡ get_or ks q 0 → p ≡ q
rising-apart ks r p q h l e = elim (order p q) [
  | inl b ↦ absurd (omega (arith, r p q b l))
  | inr (inl b) ↦ b
  | inr (inr b) ↦ absurd (omega (arith, r q p b h))
]

-- the first rows have no more than all
counts-grow : (p : Row → Bool) (n i : ℕ) (w : List ℕ) → i < n → count_rows p (recs row_size read_row (i + 1) w) ≤ count_rows p (recs row_size read_row n w)
counts-grow p n i w h =
    let e : n ≡ i + 1 + (n - (i + 1)) = omega arith in
    let g : recs row_size read_row n w ≡ recs row_size read_row (i + 1) w ++ recs row_size read_row (n - (i + 1)) (drop (row_size * (i + 1)) w) =
    ap (λ (k : ℕ). recs row_size read_row k w) e ∙ recs-add row_size read_row (i + 1) (n - (i + 1)) w in
    rw (g, rows_append) (omega arith)

-- ---- a row is taken

module _ (ks : List ℕ) (done last lo x own : ℕ) (t : List ℕ) where
  module _ (k : ℕ) (t' : List ℕ) (h : k < length ks) (q : get_or ks k 0 ≡ x) where
    took_off : Rising ks → Lessened t t' lo k own → Took ks done last lo x own t t'
    took_off u b = record {
      here = λ j m l e. b.here j m (rising-apart ks u (lo + j) k l h (e ∙ sym q));
      other = λ j m l n. b.other j (λ e. n (ap (λ (i : ℕ). get_or ks i 0) e ∙ q));
      named = λ i. record { at = k; within = h; is = q };
    }

    lacks : Short t lo k own → Lacks ks lo x own t
    lacks b = record { at = b.at; within = b.within; entry = rw b.is h; is = rw b.is q; short = b.short }

    pub taking : (b : Bool) → Rising ks → Lessening b t t' lo k own → Taking b ks done last lo x own t t'
    taking true u l = took_off u l
    taking false u l = inr (lacks l)

module _ (c : ℕ) (v w : List ℕ) (done last lo : ℕ) where
  pub tallied_none : (t : List ℕ) → Within (λ e j. Left [] e (get_or t j 0)) (recs conn_size read_conn c v) lo (length t)
      → Tallied (names c v) (recs row_size read_row 0 w) (recs conn_size read_conn c v) done last lo t
  unfolding recs
  tallied_none t z = record { left = z; named = tt }

  module _ (i : ℕ) (t : List ℕ) (r : Row) (e : r ≡ read_row (take row_size (drop (row_size * i) w)))
      (s : Tallied (names c v) (recs row_size read_row i w) (recs conn_size read_conn c v) done last lo t) where
    rows_are : recs row_size read_row (i + 1) w ≡ recs row_size read_row i w ++ (r ∷ [])
    rows_are = rw e (recs_last row_size read_row i w)

    name_of : (j : ℕ) → lo + j < length (recs conn_size read_conn c v) → get_or (names c v) (lo + j) 0 ≡ (get_or (recs conn_size read_conn c v) (lo + j) blank).conn
    name_of j l = name-entry c v (lo + j) (rw (length-recs conn_size read_conn c v) at l)

    pub tallied_turn : (t' : List ℕ) → length t' ≡ length t → Took (names c v) done last lo r.conn (own_bit r) t t'
        → Tallied (names c v) (recs row_size read_row (i + 1) w) (recs conn_size read_conn c v) done last lo t'
    tallied_turn t' q b = rw rows_are (record { left = left; named = each_last (λ r. Inside done last r.conn → Named (names c v) r.conn) (recs row_size read_row i w) r s.named b.named })
      where
        left : Within (λ a j. Left (recs row_size read_row i w ++ (r ∷ [])) a (get_or t' j 0)) (recs conn_size read_conn c v) lo (length t')
        left j m l =
            let m' : j < length t = omega arith in
            let l' : lo + j < length (names c v) = rw (length-names c v, ← (length-recs conn_size read_conn c v)) l in
            let a : Conn = get_or (recs conn_size read_conn c v) (lo + j) blank in
            elim (test (eqb (get_or (names c v) (lo + j) 0) r.conn)) [
              | inl d ↦ let d' = eqb-true (get_or (names c v) (lo + j) 0) r.conn d in
                  left_own (recs row_size read_row i w) r a (sym d' ∙ name_of j l) (b.here j m' l' d') (s.left j m' l)
              | inr d ↦ let n = eqb-false (get_or (names c v) (lo + j) 0) r.conn d in
                  rw (b.other j m' l' n) (left_other (recs row_size read_row i w) r a (λ z. n (name_of j l ∙ sym z)) (s.left j m' l))
            ]

    module _ (n : ℕ) (h : i < n) (o : Window (names c v) (recs row_size read_row n w) (recs conn_size read_conn c v) done last lo (length t)) where
      -- a row whose connection has no entry
      none_stops : Inside done last r.conn × (Named (names c v) r.conn → ⊥) → ⊥
      none_stops none = none.1 (found none.0)
        where
          each_at : (rs : List Row) (j : ℕ) → j < length rs → NamedIn (names c v) done last rs → Inside done last (get_or rs j r).conn → Named (names c v) (get_or rs j r).conn
          each_at [] j h a = absurd (omega arith)
          each_at (x ∷ rs) zero h a = a.0
          each_at (x ∷ rs) (suc j) h a = each_at rs j (omega arith) a.1

          found : Inside done last r.conn → Named (names c v) r.conn
          found =
              let g : get_or (recs row_size read_row n w) i r ≡ r = recs_at row_size read_row n w i r h ∙ sym e in
              rw g at (each_at (recs row_size read_row n w) i (rw (length-recs row_size read_row n w) h) o.named)

      -- a row whose entry has too little left
      short-stops : Lacks (names c v) lo r.conn (own_bit r) t → ⊥
      short-stops b =
          let l : lo + b.at < length (recs conn_size read_conn c v) = rw (length-recs conn_size read_conn c v, ← (length-names c v)) b.entry in
          let a : Conn = get_or (recs conn_size read_conn c v) (lo + b.at) blank in
          let k = o.counted b.at b.within l in
          left_short (recs row_size read_row i w) r a (sym b.is ∙ name_of b.at l) b.short (s.left b.at b.within l)
          (rw (← rows_are, k.held) (counts-grow (λ q. eqb q.conn a.conn) n i w h)) (rw (← rows_are, k.owned) (counts-grow (λ q. eqb q.conn a.conn && owns q) n i w h))

      pub tallied_stop : (Inside done last r.conn × (Named (names c v) r.conn → ⊥)) ⊎ Lacks (names c v) lo r.conn (own_bit r) t → ⊥
      tallied_stop z = elim z [
        | inl x ↦ none_stops x
        | inr x ↦ short-stops x
      ]

-- ---- nothing is left

module _ (rs : List Row) (c : Conn) {v : ℕ} (s : Left rs c v) where
  pub spent_iff : Iff (v ≡ 0) (Counts rs c)
  spent_iff = record {
    to = λ z. record { held = omega (arith, s.held); owned = omega (arith, s.owned) };
    from = λ k. omega (arith, s.held, s.owned, k.held, k.owned);
  }

-- ---- one entry after the other

module _ (n : ℕ) (w : List ℕ) (i : ℕ) {e : Conn} (h : i < n) (q : e ≡ read_conn (take conn_size (drop (conn_size * i) w))) where
  entry-at : e ≡ get_or (recs conn_size read_conn n w) i blank
  entry-at = q ∙ sym (recs_at conn_size read_conn n w i blank h)

  pub conn-fits : Each ConnFits (recs conn_size read_conn n w) → ConnFits e
  conn-fits f = rw entry-at (each_at (recs conn_size read_conn n w) i (rw (length-recs conn_size read_conn n w) h) f)
    where
      each_at : (cs : List Conn) (j : ℕ) → j < length cs → Each ConnFits cs → ConnFits (get_or cs j blank)
      each_at [] j h a = absurd (omega arith)
      each_at (x ∷ cs) zero h a = a.0
      each_at (x ∷ cs) (suc j) h a = each_at cs j (omega arith) a.1

  pub charged_turn : (lo m : ℕ) (t : List ℕ) {v : ℕ} → lo + m ≡ i → m < length t → Left [] e v → Within (λ c j. Left [] c (get_or t j 0)) (recs conn_size read_conn n w) lo m
      → Within (λ c j. Left [] c (get_or (set t m v) j 0)) (recs conn_size read_conn n w) lo (m + 1)
  charged_turn lo m t {v} b f s k j z l = elim (test (eqb j m)) [
    | inl d ↦
        let d' : j ≡ m = eqb-true j m d in
        let g : lo + j ≡ i = omega arith in
        rw (g, d', get_or-set_same t m v 0 f) (rw entry-at at s)
    | inr d ↦ let d' = eqb-false j m d in rw (get_or-set_other t m j v 0 d') (k j (omega (arith, d')) l)
  ]
