-- Those that give way first are the rows that can be evicted and that the last of them does not come after: they can go in one pass.
use Prim.Native.Nat.{ℕ, ◌≤◌, ◌<◌, suc}
use mathlib.Core.Path.{◌≡◌, refl, sym, ap, subst, ◌∙◌}
use mathlib.Core.Logic.{◌⊎◌, inl, inr}
use mathlib.Core.Bool.{Bool, true, false, not, ◌&&◌}
use mathlib.Core.List.{List, [], ◌∷◌, ◌++◌, map, map-append, append_assoc}
use native.Mathlib.Omega.{arith}
use borrow.Author.Tests.{eq-eqb}
use Rattle.ident.specs.Number.{top, Key, place}
use Rattle.ident.proofs.Places.{place_same as place-inj}
use Rattle.regions.specs.declared.Row.{Row}
use Rattle.regions.specs.Regions.{each}
use Rattle.regions.proofs.Regions.{each_append}
use Rattle.machine.specs.State.{Candidate, Entry, State, Table, on_table}
use Rattle.machine.specs.Table.{one, by_under}
use Rattle.machine.specs.Announce.{after, cut}
use Rattle.machine.specs.Sound.{Ordered, Sound}
use Rattle.machine.specs.Typed.{Each}
use Rattle.machine.proofs.Announce.{each_append as Each-both, each_map}
use Rattle.machine.proofs.Tests.{test, never}
use Rattle.store.specs.Flat.{row_of, rows_for, rows_of}
use Rattle.store.specs.Gather.{key_at, candidate_at}
use Rattle.store.specs.FlatSound.{count_rows}
use Rattle.store.proofs.Bits.{key_row}
use Rattle.store.proofs.Counts.{count-rows}
use Rattle.announcing.specs.Drops.{kept_row}
use Rattle.announcing.specs.Evicts.{entry_at, protected, greatest_over}
use Rattle.announcing.specs.Falls.{ranked, fallen, cuts, goes_by, Foremost}
use Rattle.announcing.proofs.DroppingRows.{row_goes, row_stays}
use Rattle.announcing.proofs.Entering.{cleared-sound}
use Rattle.announcing.proofs.Falling.{Apart, found_own}
use Rattle.announcing.proofs.Giving.{front, back, own, rows_are, rows_left_lem, first, first_goes, front_apart, back_apart, next_first}
use Rattle.announcing.proofs.Precedence.{Differ, after-after, after-itself, after-either}
use Rattle.announcing.proofs.Ranking.{each_ranked}

-- ---- a falling list, strictly

abbrev pub Strict : List Entry → Type 0
Strict [] = Unit {0}
Strict (x ∷ l) = Each (λ (y : Entry). after x y ≡ true) l × Strict l

strict_ranked : (e : Entry) (l : List Entry) → Each (Differ e) l → Strict l → Strict (ranked e l)
unfolding ranked
strict_ranked e [] d s = (tt, tt)
strict_ranked e (x ∷ l) d s =
    elim (test (after e x)) [
      | inl h ↦ rw h ((h, each_map (λ (y : Entry). after x y ≡ true) (λ (y : Entry). after e y ≡ true) l (λ y q. after-after e x y h q) s.0), s)
      | inr h ↦ rw h (each_ranked (λ (y : Entry). after x y ≡ true) e l (after-either e x d.0 h) s.0, strict_ranked e l d.1 s.1)
    ]

-- no two rows are of one key and connection
abbrev pub Unlike : List Row → Type 0
Unlike [] = Unit {0}
Unlike (r ∷ rs) = Each (λ (x : Row). Differ (entry_at x) (entry_at r)) rs × Unlike rs

strict_fallen : (l : List Entry) (rs : List Row) → Strict l → Each (λ (r : Row). Each (Differ (entry_at r)) l) rs → Unlike rs → Strict (fallen l rs)
unfolding fallen
strict_fallen l [] s d u = s
strict_fallen l (r ∷ rs) s d u =
    elim (test (protected r.bits)) [
      | inl h ↦ rw h (strict_fallen l rs s d.1 u.1)
      | inr h ↦ rw h (strict_fallen (ranked (entry_at r) l) rs (strict_ranked (entry_at r) l d.0 s) (more rs d.1 u.0) u.1)
    ]
  where
    more : (xs : List Row) → Each (λ (x : Row). Each (Differ (entry_at x)) l) xs → Each (λ (x : Row). Differ (entry_at x) (entry_at r)) xs
        → Each (λ (x : Row). Each (Differ (entry_at x)) (ranked (entry_at r) l)) xs
    more [] a b = tt
    more (x ∷ xs) a b = (each_ranked (Differ (entry_at x)) (entry_at r) l b.0 a.0, more xs a.1 b.1)

-- ---- what holds of all that are listed holds of every row that can be evicted

module _ (P : Entry → Type 0) where
  from_ranked : (e : Entry) (l : List Entry) → Each P (ranked e l) → P e × Each P l
  unfolding ranked
  from_ranked e [] a = (a.0, tt)
  from_ranked e (x ∷ l) a =
      elim (test (after e x)) [
        | inl h ↦ let z : P e × Each P (x ∷ l) = rw h at a in z
        | inr h ↦ let z : P x × Each P (ranked e l) = rw h at a in let y = from_ranked e l z.1 in (y.0, (z.0, y.1))
      ]

  from_fallen : (l : List Entry) (rs : List Row) → Each P (fallen l rs) → Each P l × Each (λ (r : Row). protected r.bits ≡ false → P (entry_at r)) rs
  unfolding fallen
  from_fallen l [] a = (a, tt)
  from_fallen l (r ∷ rs) a =
      elim (test (protected r.bits)) [
        | inl h ↦ let z = from_fallen l rs (rw h at a) in (z.0, ((λ n. never (sym n ∙ h)), z.1))
        | inr h ↦ let z = from_fallen (ranked (entry_at r) l) rs (rw h at a) in let y = from_ranked (entry_at r) l z.0 in (y.1, ((λ n. y.0), z.1))
      ]

-- ---- the rows of a sound state

abbrev Small : Row → Type 0
Small r = (key_at r).hash < top

small-rows : (lo : ℕ) (t : Table) → Ordered lo t → Each Small (rows_of t)
unfolding each
small-rows lo [] o = tt
small-rows lo (q ∷ t) o = Each-both Small (rows_for q) (rows_of t) (unfold rows_for in request q.candidates) (small-rows (suc (place q.key)) t o.2)
  where
    request : (cs : List Candidate) → Each Small (map (row_of q) cs)
    request [] = tt
    request (c ∷ cs) = (rw (key_row q c) o.1, request cs)

unlike : (rs : List Row) → Each Small rs → ((n h : ℕ) → count_rows (λ (r : Row). by_under n h (key_at r) r.conn) rs ≤ 1) → Unlike rs
unfolding count_rows
unlike [] sm once = tt
unlike (r ∷ rs) sm once = (differ rs sm.1 (omega (arith, once r.conn (key_at r).hash, ap one itself)), unlike rs sm.1 (λ n h. omega (arith, once n h)))
  where
    itself : by_under r.conn (key_at r).hash (key_at r) r.conn ≡ true
    itself = rw (eq-eqb (key_at r).hash (key_at r).hash refl) (eq-eqb r.conn r.conn refl)

    same : (x : Row) → Small x → place (key_at x) ≡ place (key_at r) → x.conn ≡ r.conn → by_under r.conn (key_at r).hash (key_at x) x.conn ≡ true
    same x s p c = rw (eq-eqb (key_at x).hash (key_at r).hash (ap (λ (k : Key). k.hash) (place-inj (key_at x) (key_at r) s sm.0 p))) (eq-eqb x.conn r.conn c)

    differ : (xs : List Row) → Each Small xs → count_rows (λ (x : Row). by_under r.conn (key_at r).hash (key_at x) x.conn) xs ≡ 0 → Each (λ (x : Row). Differ (entry_at x) (entry_at r)) xs
    differ [] s e = tt
    differ (x ∷ xs) s e = ((λ p c. omega (arith, ap one (same x s.0 p (unfold candidate_at in c)), e)), differ xs s.1 (omega (arith, e)))

pub unlike_rows : (st : State) → Sound st → Unlike (rows_of st.table)
unlike_rows st s =
    unlike (rows_of st.table) (small-rows 0 st.table s.bounded.ordered)
    (λ n h. omega (arith, count-rows (by_under n h) st.table, s.bounded.once n h))

pub strict_rows : (st : State) → Sound st → Strict (fallen [] (rows_of st.table))
strict_rows st s = let rs = rows_of st.table in strict_fallen [] rs tt (none rs) (unlike_rows st s)
  where
    none : (rs : List Row) → Each (λ (r : Row). Each (Differ (entry_at r)) []) rs
    none [] = tt
    none (r ∷ rs) = (tt, none rs)

-- ---- the first goes

pub each_front : {A : Type 0} (P : A → Type 0) (a b : List A) → Each P (a ++ b) → Each P a × Each P b
each_front P [] b p = (tt, p)
each_front P (x ∷ a) b p = let z = each_front P a b p.1 in ((p.0, z.0), z.1)

each_cons : (g : Row → List Row) (r : Row) (rs : List Row) → each g (r ∷ rs) ≡ g r ++ each g rs
unfolding each
each_cons g r rs = refl

-- a row stays, since it is protected or v comes after it
stays_by : (v r : Row) → (protected r.bits ≡ false → after (entry_at v) (entry_at r) ≡ true) → goes_by v r ≡ false
stays_by v r h =
    elim (test (protected r.bits)) [
      | inl e ↦ ap (λ (b : Bool). not b && not (after (entry_at v) (entry_at r))) e
      | inr e ↦ ap (λ (b : Bool). not b && not (after (entry_at v) (entry_at r))) e ∙ ap not (h e)
    ]

module _ (st : State) (s : Sound st) (v : Row) (vs : List Row) (f : Foremost (v ∷ vs) (rows_of st.table)) where
  abbrev e : Entry
  e = entry_at v

  abbrev Below : Row → Type 0
  Below r = protected r.bits ≡ false → (entry_at r ≡ e) ⊎ (after e (entry_at r) ≡ true)

  pub others_below : Each (λ (y : Entry). after e y ≡ true) (map entry_at vs ++ f.others)
  others_below = let z : Strict (e ∷ (map entry_at vs ++ f.others)) = subst Strict f.all (strict_rows st s) in z.0

  below : Each Below (rows_of st.table)
  below =
      let P : Entry → Type 0 = λ y. (y ≡ e) ⊎ (after e y ≡ true) in
      let a : Each P (e ∷ (map entry_at vs ++ f.others)) = (inl refl, each_map (λ (y : Entry). after e y ≡ true) P (map entry_at vs ++ f.others) (λ y q. inr q) others_below) in
      (from_fallen P [] (rows_of st.table) (subst (Each P) (sym f.all) a)).1

  stay : (rs : List Row) → Each Below rs → Apart e rs → each (kept_row (goes_by v)) rs ≡ rs
  unfolding each
  stay [] b n = refl
  stay (r ∷ rs) b n =
      rw (row_stays (goes_by v) r (stays_by v r (λ h. elim (b.0 h) [ inl q ↦ absurd (n.0 q) | inr q ↦ q ])), stay rs b.1 n.1)

  pub rows-gone : rows_of (cut (key_at v) v.conn st.table) ≡ each (kept_row (goes_by v)) (rows_of st.table)
  rows-gone =
      let a = front st s v vs f in
      let o = own st s v vs f in
      let b = back st s v vs f in
      let z = each_front Below a (o ∷ b) (subst (Each Below) (rows_are st s v vs f) below) in
      let w = found_own e a o b (front_apart st s v vs f) (back_apart st s v vs f) (ap (greatest_over _) (sym (rows_are st s v vs f)) ∙ first st s v vs f) in
      let goes : goes_by v o ≡ true = ap (λ (c : Bool). not c && not (after e (entry_at o))) w.0 ∙ ap not (ap (after e) w.1 ∙ after-itself e) in
      let K = kept_row (goes_by v) in
      let one-gone : each K (o ∷ b) ≡ each K b = each_cons K o b ∙ ap (λ (l : List Row). l ++ each K b) (row_goes (goes_by v) o goes) in
      rows_left_lem st s v vs f
      ∙ sym (ap (each K) (rows_are st s v vs f) ∙ each_append K a (o ∷ b) ∙ ap (λ (l : List Row). each K a ++ l) one-gone
      ∙ ap (λ (l : List Row). l ++ each K b) (stay a z.0 (front_apart st s v vs f)) ∙ ap (λ (l : List Row). a ++ l) (stay b z.1.1 (back_apart st s v vs f)))

-- ---- all of them go

-- whoever goes with v goes with a later one
goes_on_lem : (v w r : Row) → after (entry_at v) (entry_at w) ≡ true → goes_by v r ≡ true → goes_by w r ≡ true
goes_on_lem v w r a g =
    elim (test (protected r.bits)) [
      | inl e ↦ never (sym (ap (λ (b : Bool). not b && not (after (entry_at v) (entry_at r))) e) ∙ g)
      | inr e ↦ elim (test (after (entry_at w) (entry_at r))) [
        | inl q ↦ never (sym (ap (λ (b : Bool). not b && not (after (entry_at v) (entry_at r))) e ∙ ap not (after-after (entry_at v) (entry_at w) (entry_at r) a q)) ∙ g)
        | inr q ↦ ap (λ (b : Bool). not b && not (after (entry_at w) (entry_at r))) e ∙ ap not q
      ]
    ]

kept_twice : (p q : Row → Bool) → ((r : Row) → p r ≡ true → q r ≡ true) → (rs : List Row) → each (kept_row q) (each (kept_row p) rs) ≡ each (kept_row q) rs
unfolding each
kept_twice p q h [] = refl
kept_twice p q h (r ∷ rs) =
    elim (test (p r)) [
      | inl e ↦ rw (row_goes p r e, row_goes q r (h r e)) (kept_twice p q h rs)
      | inr e ↦ rw (row_stays p r e) (ap (λ (l : List Row). kept_row q r ++ l) (kept_twice p q h rs))
    ]

pub rows-cuts : (st : State) → Sound st → (vs : List Row) (w : Row) (ws : List Row) → Foremost (vs ++ (w ∷ ws)) (rows_of st.table)
    → rows_of (cuts (vs ++ (w ∷ [])) st.table) ≡ each (kept_row (goes_by w)) (rows_of st.table)
unfolding cuts
rows-cuts st s [] w ws f = rows-gone st s w ws f
rows-cuts st s (v ∷ vs) w ws f =
    let t = st.table in
    let t₁ = cut (key_at v) v.conn t in
    let ms = map entry_at vs in
    let list : map entry_at (vs ++ (w ∷ ws)) ++ f.others ≡ ms ++ (entry_at w ∷ (map entry_at ws ++ f.others)) =
    ap (λ (l : List Entry). l ++ f.others) (map-append entry_at vs (w ∷ ws)) ∙ append_assoc ms (entry_at w ∷ map entry_at ws) f.others in
    let below = each_front (λ (y : Entry). after (entry_at v) y ≡ true) ms (entry_at w ∷ (map entry_at ws ++ f.others))
    (subst (Each (λ (y : Entry). after (entry_at v) y ≡ true)) list (others_below st s v (vs ++ (w ∷ ws)) f)) in
    rows-cuts (on_table t₁ st) (cleared-sound st s v (first_goes st s v (vs ++ (w ∷ ws)) f)) vs w ws (next_first st s v (vs ++ (w ∷ ws)) f)
    ∙ ap (each (kept_row (goes_by w))) (rows-gone st s v (vs ++ (w ∷ ws)) f)
    ∙ kept_twice (goes_by v) (goes_by w) (λ r g. goes_on_lem v w r below.1.0 g) (rows_of t)
