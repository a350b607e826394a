-- Rows of one hash in two halves, taken off the front of both: what holds of all rows holds of them and of the rest.
use Prim.Native.Nat.{ℕ, zero, suc, ◌+◌, ◌-◌, ◌*◌, ◌≤◌, ◌<◌}
use mathlib.Core.Path.{◌≡◌, refl, sym, ap, ◌∙◌}
use mathlib.Core.Logic.{inl, inr}
use mathlib.Core.Bool.{Bool, true, false, ◌&&◌, and-true}
use mathlib.Core.List.{List, [], ◌∷◌, ◌++◌}
use native.Mathlib.Omega.{arith}
use lib.Dec.{ltb, eqb}
use lib.ListN.{drop, get_or}
use lib.Seq.{drop-drop}
use borrow.Author.Tests.{ltb-true, ltb-false, eqb-true, eqb-false, eq-eqb, ne_eqb}
use Rattle.ident.specs.declared.Kind.{Kind}
use Rattle.words.specs.Words.{recs}
use Rattle.words.proofs.Records.{recs-add, recs_at}
use Rattle.regions.specs.declared.Row.{Row}
use Rattle.std.specs.Prelude.{Option, Some, None, is_some}
use Rattle.regions.specs.Order.{First, FoundFirst}
use Rattle.regions.specs.Rows.{row_size, read_row, row_conn}
use Rattle.machine.specs.Table.{one}
use Rattle.machine.specs.Typed.{Each}
use Rattle.machine.proofs.Tests.{test, never}
use Rattle.store.specs.Flat.{own_bit}
use Rattle.store.specs.FlatSound.{count_rows, hash_at, owns}
use Rattle.store.proofs.Counts.{rows_append, rows_all, rows_same}
use Rattle.store.proofs.Certify.{own-bit}
use Rattle.sound_rows.specs.declared.group.Found.{Found}
use Rattle.sound_rows.specs.Groups.{GroupsSound, Walked, row_at, rows_in, Least, Run, rows_by, Apart, GroupFits}
use Rattle.sound_rows.proofs.Decide.{Iff, iff_self, rest_all, rest_turn, rest_none}

-- ---- rows from i to m

module _ (w : List ℕ) where
  pub in-turn : (i m : ℕ) → i < m → rows_in w i m ≡ row_at w i ∷ rows_in w (i + 1) m
  in-turn i m h = rest_turn row_size read_row m i w h

  pub in_none : (i m : ℕ) → m ≤ i → rows_in w i m ≡ []
  in_none i m h = rest_none row_size read_row m i w h

  pub in_split : (i a m : ℕ) → i ≤ a → a ≤ m → rows_in w i m ≡ rows_in w i a ++ rows_in w a m
  in_split i a m h l =
      let e : m - i ≡ (a - i) + (m - a) = omega arith in
      let g : row_size * i + row_size * (a - i) ≡ row_size * a = omega arith in
      rw (e, recs-add row_size read_row (a - i) (m - a) (drop (row_size * i) w), drop-drop (row_size * (a - i)) (row_size * i) w, g)

  pub in_each : (P : Row → Type 0) (d i m : ℕ) → i + d ≡ m → ((k : ℕ) → i ≤ k → k < m → P (row_at w k)) → Each P (rows_in w i m)
  in_each P zero i m e f = rw (in_none i m (omega arith)) tt
  in_each P (suc d) i m e f = rw (in-turn i m (omega arith)) (f i (omega arith) (omega arith), in_each P d (i + 1) m (omega arith) (λ k h l. f k (omega arith) l))

  -- a row more at the end
  pub in_more : (i m : ℕ) → i ≤ m → rows_in w i (m + 1) ≡ rows_in w i m ++ (row_at w m ∷ [])
  in_more i m h = in_split i m (m + 1) h (omega arith) ∙ rw (in-turn m (m + 1) (omega arith), in_none (m + 1) (m + 1) (omega arith)) refl

pub one_more : (q : Row → Bool) (w : List ℕ) (i m : ℕ) → i ≤ m → count_rows q (rows_in w i (m + 1)) ≡ count_rows q (rows_in w i m) + one (q (row_at w m))
one_more q w i m h = rw (in_more w i m h, rows_append q (rows_in w i m) (row_at w m ∷ [])) (unfold count_rows in omega arith)

-- ---- counts of rows with one hash

-- rows of the hash h that pass q
abbrev of : (Row → Bool) → ℕ → List Row → ℕ
of q h rs = count_rows (λ r. eqb (hash_at r) h && q r) rs

of_all : (q : Row → Bool) (h : ℕ) (rs : List Row) → Each (λ r. hash_at r ≡ h) rs → of q h rs ≡ count_rows q rs
unfolding count_rows
of_all q h [] e = refl
of_all q h (r ∷ rs) e = rw (eq-eqb (hash_at r) h e.0, of_all q h rs e.1)

of_none : (q : Row → Bool) (h : ℕ) (rs : List Row) → Each (λ r. hash_at r ≡ h → ⊥) rs → of q h rs ≡ 0
unfolding count_rows
of_none q h [] e = refl
of_none q h (r ∷ rs) e = rw (ne_eqb (hash_at r) h e.0) (omega (arith, of_none q h rs e.1))

of_other : (q : Row → Bool) (g h : ℕ) (rs : List Row) → (g ≡ h → ⊥) → Each (λ r. hash_at r ≡ h) rs → of q g rs ≡ 0
unfolding count_rows
of_other q g h [] n e = refl
of_other q g h (r ∷ rs) n e = rw (ne_eqb (hash_at r) g (λ z. n (sym z ∙ e.0))) (omega (arith, of_other q g h rs n e.1))

-- a and b have the hash h, and no other row has it
record Parted (h : ℕ) (a t b u : List Row) : Type 0 where
  front : Each (λ r. hash_at r ≡ h) a
  back : Each (λ r. hash_at r ≡ h → ⊥) t
  front' : Each (λ r. hash_at r ≡ h) b
  back' : Each (λ r. hash_at r ≡ h → ⊥) u

module _ (h : ℕ) (a t b u : List Row) (p : Parted h a t b u) where
  sum : (q : Row → Bool) → count_rows q ((a ++ t) ++ (b ++ u)) ≡ (count_rows q a + count_rows q t) + (count_rows q b + count_rows q u)
  sum q = rw (rows_append q (a ++ t) (b ++ u), rows_append q a t, rows_append q b u)

  most_split : (q : Row → Bool) (m : ℕ)
      → Iff ((g : ℕ) → of q g ((a ++ t) ++ (b ++ u)) ≤ m) ((count_rows q a + count_rows q b ≤ m) × ((g : ℕ) → of q g (t ++ u) ≤ m))
  most_split q m = record {
    to = λ f. (
      omega (arith, f h, sum (λ r. eqb (hash_at r) h && q r), of_all q h a p.front, of_none q h t p.back, of_all q h b p.front', of_none q h u p.back'),
      λ g. omega (arith, f g, sum (λ r. eqb (hash_at r) g && q r), rows_append (λ r. eqb (hash_at r) g && q r) t u),
    );
    from = λ d g. elim (test (eqb g h)) [
      | inl e ↦ rw (eqb-true g h e) (omega (arith, d.0, sum (λ r. eqb (hash_at r) h && q r), of_all q h a p.front, of_none q h t p.back, of_all q h b p.front', of_none q h u p.back'))
      | inr e ↦ let n = eqb-false g h e in
          omega (arith, d.1 g, sum (λ r. eqb (hash_at r) g && q r), rows_append (λ r. eqb (hash_at r) g && q r) t u, of_other q g h a n p.front, of_other q g h b n p.front')
    ];
  }

-- every test passed: the alternates
any_of : (h : ℕ) (rs : List Row) → count_rows (λ r. eqb (hash_at r) h) rs ≡ of (λ r. true) h rs
any_of h rs = rows_same _ _ rs (λ r. sym (and-true (eqb (hash_at r) h)))

-- ---- a group taken off

module _ (h : ℕ) (a t b u : List Row) (p : Parted h a t b u) where
  groups_split : {most : ℕ} → Iff (GroupsSound most ((a ++ t) ++ (b ++ u))) (GroupFits most a b × GroupsSound most (t ++ u))
  groups_split {most} =
      let few = most_split h a t b u p (λ r. true) most in
      let single = most_split h a t b u p owns 1 in
      record {
        to = λ s.
            let f = few.to (λ g. rw (← (any_of g ((a ++ t) ++ (b ++ u)))) (s.alternates g)) in (
              record { few = rw (← (rows_all a), ← (rows_all b)) f.0; once = λ n. ((most_split h a t b u p (λ r. eqb r.conn n) 1).to (s.once n)).0; single = (single.to s.single).0 },
              record { alternates = λ g. rw (any_of g (t ++ u)) (f.1 g); once = λ n. ((most_split h a t b u p (λ r. eqb r.conn n) 1).to (s.once n)).1; single = (single.to s.single).1 },
            );
        from = λ d. record {
          alternates = λ g. rw (any_of g ((a ++ t) ++ (b ++ u))) (few.from (rw (rows_all a, rows_all b) d.0.few, λ i. rw (← (any_of i (t ++ u))) (d.1.alternates i)) g);
          once = λ n. (most_split h a t b u p (λ r. eqb r.conn n) 1).from (d.0.once n, d.1.once n);
          single = single.from (d.0.single, d.1.single);
        };
      }

-- ---- a step of the walk

-- the hashes of the rows from .. to do not fall
abbrev pub Level : List ℕ → ℕ → ℕ → Type 0
Level w from to = (p q : ℕ) → from ≤ p → p ≤ q → q < to → hash_at (row_at w p) ≤ hash_at (row_at w q)

module _ (w : List ℕ) (from i to h r : ℕ) (o : from ≤ i) (l : Level w from to) (v : Run w i to h r) where
  run_front : (i < to → h ≤ hash_at (row_at w i)) → Each (λ r. hash_at r ≡ h) (rows_in w i r)
  run_front f = in_each w (λ r. hash_at r ≡ h) (r - i) i r (omega (arith, v.least)) (λ k a b. omega (arith, v.upto k a b, f (omega (arith, v.most)), l i k (omega arith) a (omega (arith, v.most))))

  run_back : Each (λ r. hash_at r ≡ h → ⊥) (rows_in w r to)
  run_back = in_each w (λ r. hash_at r ≡ h → ⊥) (to - r) r to (omega (arith, v.most)) (λ k a b e. omega (arith, v.past (omega arith), l r k (omega (arith, v.least)) a b))

-- the walk ends where the rows of its hash do, if their hashes do not fall and the first is not below it
pub walked_run : {kind : Kind} {w t t' : List ℕ} {i to h v : ℕ} {r : Found} (from : ℕ) → from ≤ i → Level w from to → (i < to → h ≤ hash_at (row_at w i)) → Walked kind w i to h v t t' r
    → Run w i to h r.to
walked_run {w = w} {i = i} {to = to} {h = h} {r = r} from o l f v = record {
  least = v.least;
  most = v.most;
  upto = λ k a b. omega (arith, v.same k a b);
  past = λ b. omega (arith, f (omega (arith, v.least)), l i r.to o v.least b, v.past b);
}

module _ (w : List ℕ) (i m j n h a b : ℕ) {from from' : ℕ} (o : from ≤ i) (o' : from' ≤ j) (l : Level w from m) (l' : Level w from' n) (e : Least w i m j n h) (v : Run w i m h a)
    (v' : Run w j n h b) where
  pub group_off : {most : ℕ} → Iff (GroupsSound most (rows_in w i m ++ rows_in w j n)) (GroupFits most (rows_in w i a) (rows_in w j b) × GroupsSound most (rows_in w a m ++ rows_in w b n))
  group_off {most} =
      rw (in_split w i a m v.least v.most, in_split w j b n v'.least v'.most)
      (groups_split h (rows_in w i a) (rows_in w a m) (rows_in w j b) (rows_in w b n) (record {
        front = run_front w from i m h a o l v e.left;
        back = run_back w from i m h a o l v;
        front' = run_front w from' j n h b o' l' v' e.right;
        back' = run_back w from' j n h b o' l' v';
      }))

-- ---- no connection twice

apart_none : (x : ℕ) (others rs : List Row) → Apart others rs → 0 < rows_by x others → rows_by x rs ≡ 0
unfolding count_rows
apart_none x others [] p h = refl
apart_none x others (r ∷ rs) p h =
    rw (ne_eqb r.conn x (λ z. omega (arith, rw z at p.1))) (omega (arith, apart_none x others rs p.2 h))

apart_once : (x : ℕ) (others rs : List Row) → Apart others rs → rows_by x rs ≤ 1
unfolding count_rows
apart_once x others [] p = omega arith
apart_once x others (r ∷ rs) p = elim (test (eqb r.conn x)) [
  | inl e ↦ rw e (omega (arith, rw (eqb-true r.conn x e) at p.0))
  | inr e ↦ rw e (omega (arith, apart_once x others rs p.2))
]

once_apart : (others rs : List Row) → ((x : ℕ) → rows_by x rs + rows_by x others ≤ 1) → Apart others rs
unfolding count_rows
once_apart others [] f = tt
once_apart others (r ∷ rs) f =
    let g : one (eqb r.conn r.conn) + rows_by r.conn rs + rows_by r.conn others ≤ 1 = f r.conn in
    let g' = rw (eq-eqb r.conn r.conn refl) at g in
    (omega arith, omega arith, once_apart others rs (λ x. omega (arith, f x)))

pub apart_iff : (a b : List Row) → Iff (Apart b a × Apart [] b) ((n : ℕ) → rows_by n a + rows_by n b ≤ 1)
apart_iff a b = record {
  to = λ p n. elim (test (ltb 0 (rows_by n b))) [
    | inl e ↦ omega (arith, apart_none n b a p.0 (ltb-true 0 (rows_by n b) e), apart_once n [] b p.1)
    | inr e ↦ omega (arith, apart_once n b a p.0, ltb-false 0 (rows_by n b) e)
  ];
  from = λ f. (once_apart b a f, once_apart [] b (λ x. omega (arith, f x, none x)));
}
  where
    none : (x : ℕ) → rows_by x [] ≡ 0
    none x = unfold count_rows in refl

-- ---- as `find_conn_in` finds it

module _ (w : List ℕ) (x : ℕ) where
  conn-at : (to k : ℕ) → k < to → get_or (recs row_size row_conn to w) k 0 ≡ (row_at w k).conn
  unfolding read_row
  conn-at to k h = recs_at row_size row_conn to w k 0 h

  by_cons : (r : Row) (rs : List Row) → rows_by x (r ∷ rs) ≡ one (eqb r.conn x) + rows_by x rs
  unfolding count_rows
  by_cons r rs = refl

  none_by : (d from to : ℕ) → from + d ≡ to → ((k : ℕ) → from ≤ k → k < to → (row_at w k).conn ≡ x → ⊥) → rows_by x (rows_in w from to) ≡ 0
  none_by zero from to e f = rw (in_none w from to (omega arith)) (unfold count_rows in refl)
  none_by (suc d) from to e f =
      rw (in-turn w from to (omega arith), by_cons (row_at w from) (rows_in w (from + 1) to), ne_eqb (row_at w from).conn x (f from (omega arith) (omega arith)))
      (omega (arith, none_by d (from + 1) to (omega arith) (λ k a b. f k (omega arith) b)))

  some_by : (d from k to : ℕ) → from + d ≡ k → k < to → (row_at w k).conn ≡ x → 1 ≤ rows_by x (rows_in w from to)
  some_by zero from k to e h q =
      let z : from ≡ k = omega arith in
      rw (z, in-turn w k to h, by_cons (row_at w k) (rows_in w (k + 1) to), eq-eqb (row_at w k).conn x q) (omega arith)
  some_by (suc d) from k to e h q =
      rw (in-turn w from to (omega arith), by_cons (row_at w from) (rows_in w (from + 1) to)) (omega (arith, some_by d (from + 1) k to (omega arith) h q))

  module _ (from to r : ℕ) (f : First (recs row_size row_conn to w) from to x r) where
    first_none : to ≤ r → rows_by x (rows_in w from to) ≡ 0
    first_none h = none_by (to - from) from to (omega (arith, f.least, f.most)) (λ k a b e. f.none k a (omega arith) (conn-at to k b ∙ e))

    first_some : r < to → rows_by x (rows_in w from to) ≡ 0 → ⊥
    first_some h z = omega (arith, some_by (r - from) from r to (omega (arith, f.least)) h (sym (conn-at to r h) ∙ f.found h))

  pub found-none : (from to : ℕ) (o : Option ℕ) → FoundFirst (recs row_size row_conn to w) from to x o → {y : Bool} → y ≡ is_some o → y ≡ false → rows_by x (rows_in w from to) ≡ 0
  found-none from to None f e z = first_none from to to f (omega arith)
  found-none from to (Some i) f e z = never (sym z ∙ e)

  pub found-some : (from to : ℕ) (o : Option ℕ) → FoundFirst (recs row_size row_conn to w) from to x o → {y : Bool} → y ≡ is_some o → y ≡ true → rows_by x (rows_in w from to) ≡ 0 → ⊥
  found-some from to None f e z = never (sym e ∙ z)
  found-some from to (Some i) f e z = first_some from to i f.0 f.1

-- ---- turns of the loops

module _ {X : Type 0} (w : List ℕ) (others : List Row) (k a : ℕ) (h : k < a) {r : Row} (e : r ≡ row_at w k) (v : Iff X (Apart others (rows_in w k a))) where
  apart_next : Iff X ((rows_by r.conn (rows_in w (k + 1) a) ≡ 0) × (rows_by r.conn others ≡ 0) × Apart others (rows_in w (k + 1) a))
  apart_next = rw (ap (λ (r : Row). r.conn) e) (rw (in-turn w k a h) at v)

  pub apart_turn : rows_by r.conn (rows_in w (k + 1) a) ≡ 0 → rows_by r.conn others ≡ 0 → Iff X (Apart others (rows_in w (k + 1) a))
  apart_turn p q = record { to = λ x. (apart_next.to x).2; from = λ d. apart_next.from (p, q, d) }

  pub apart-later : (rows_by r.conn (rows_in w (k + 1) a) ≡ 0 → ⊥) → X → ⊥
  apart-later n x = n (apart_next.to x).0

  pub apart-others : (rows_by r.conn others ≡ 0 → ⊥) → X → ⊥
  apart-others n x = n (apart_next.to x).1

pub apart_end : {X : Type 0} (w : List ℕ) (others : List Row) (k a : ℕ) → a ≤ k → Iff X (Apart others (rows_in w k a)) → X
apart_end w others k a h v = v.from (rw (in_none w k a h) tt)

pub owners_turn : (w : List ℕ) (i to : ℕ) {r : Row} → i < to → r ≡ row_at w i → count_rows owns (rows_in w i to) ≡ own_bit r + count_rows owns (rows_in w (i + 1) to)
owners_turn w i to h e = rw (in-turn w i to h, e) (cons (row_at w i) (rows_in w (i + 1) to))
  where
    cons : (r : Row) (rs : List Row) → count_rows owns (r ∷ rs) ≡ own_bit r + count_rows owns rs
    cons r rs = unfold count_rows in ap (λ (m : ℕ). m + count_rows owns rs) (sym (own-bit r))

pub owners_none : (w : List ℕ) (i to : ℕ) → to ≤ i → count_rows owns (rows_in w i to) ≡ 0
owners_none w i to h = rw (in_none w i to h) (unfold count_rows in refl)

-- the rows are the two halves
pub halves : {most : ℕ} (w : List ℕ) (m n : ℕ) → m ≤ n → Iff (GroupsSound most (recs row_size read_row n w)) (GroupsSound most (rows_in w 0 m ++ rows_in w m n))
halves w m n h = rw (sym (rest_all row_size read_row n w) ∙ in_split w 0 m n (omega arith) h) iff_self

pub groups_end : {X : Type 0} {most : ℕ} (w : List ℕ) (i m j n : ℕ) → m ≤ i → n ≤ j → Iff X (GroupsSound most (rows_in w i m ++ rows_in w j n)) → X
groups_end {X} {most} w i m j n h l v = v.from (rw (in_none w i m h, in_none w j n l) none)
  where
    none : GroupsSound most ([] ++ [])
    none = unfold count_rows in record { alternates = λ h. omega arith; once = λ n h. omega arith; single = λ h. omega arith }

module _ {X G R S : Type 0} (v : Iff X G) (g : Iff G (R × S)) where
  pub off_turn : R → Iff X S
  off_turn r = record { to = λ x. (g.to (v.to x)).1; from = λ s. v.from (g.from (r, s)) }

  pub off_stop : (R → ⊥) → X → ⊥
  off_stop n x = n (g.to (v.to x)).0

-- for the tactic
pub ruleset parted = (apart_turn, apart_end, found-none)
