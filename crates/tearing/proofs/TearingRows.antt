-- The rows of packages' owners taken out, those beside them readied, in one pass from the front.
use Prim.Native.Nat.{ℕ, ◌+◌, ◌/◌, ◌%◌, ◌≤◌, ◌<◌}
use mathlib.Core.Path.{◌≡◌, refl, sym, ap, subst, ◌∙◌}
use mathlib.Core.Logic.{inl, inr}
use mathlib.Core.Bool.{true, false}
use mathlib.Core.List.{List, [], ◌∷◌, ◌++◌, append_assoc, append-nil}
use native.Mathlib.Nat.{add-zero}
use native.Mathlib.Numerals.{add-one}
use native.Mathlib.Omega.{arith}
use lib.ListN.{length, take, drop, get_or, set, length-append, drop_of_length-le}
use lib.Seq.{take_all, take-suc, drop-drop, drop-cons, get_or-drop}
use borrow.Author.Tests.{eqb-true, eq-eqb, ne_eqb}
use Rattle.ident.specs.Number.{top}
use Rattle.regions.specs.declared.Conn.{Conn}
use Rattle.regions.specs.declared.Row.{Row}
use Rattle.regions.specs.Regions.{each, remove_range}
use Rattle.regions.specs.Rows.{with_ready}
use Rattle.regions.proofs.Regions.{each_append}
use Rattle.machine.specs.State.{Table, State}
use Rattle.machine.specs.Sound.{Sound}
use Rattle.machine.specs.Typed.{Each}
use Rattle.machine.proofs.Tests.{test}
use Rattle.store.specs.Counting.{unbump}
use Rattle.store.specs.Flat.{Flat, own_bit, rows_of, places_of, tally}
use Rattle.store.specs.FlatSound.{hash_at, owns, RowFits}
use Rattle.store.specs.Image.{Shows, Writes}
use Rattle.store.specs.Shown.{rows_in, with_rows, with_conns, Light, Turns, Tallies, Shown, Kept}
use Rattle.store.proofs.Entries.{tally-length}
use Rattle.store.proofs.Frame.{shown, sizes}
use Rattle.store.proofs.Missing.{each_at}
use Rattle.store.proofs.Quads.{number-top}
use Rattle.store.proofs.Tally.{tally_tallied, tally_less, tally_same}
use Rattle.store.proofs.ToFlat.{flat_sound}
use Rattle.requests.proofs.Keeping.{sized_of, light_of}
use Rattle.requests.proofs.Shearing.{shorn_shown}
use Rattle.package_stages.specs.Dead.{filter}
use Rattle.tearing.specs.Idle.{busy, ebbed}
use Rattle.tearing.specs.declared.packaged.Reached.{Reached}
use Rattle.tearing.specs.declared.packaged.Found.{Found}
use Rattle.tearing.specs.Places.{Stands, Tells, RowTorn}
use Rattle.tearing.specs.Torn.{packaged_row, Ebbs, torn_row, torn_rows, torn_entries, RowsTorn}
use Rattle.tearing.proofs.Ebbing.{Rising, rising-sorted, tallied_rising, tallied_busy, ebbed-rising, ebbed-long, ebbed-light, ebbed-busy}
use Rattle.announcing.proofs.DroppingRows.{put-long, put_front, put_rest}
use Rattle.announcing.specs.Drops.{put_at}

-- ---- one row

module _ (now : ℕ) (t : Table) (r : Row) where
  row_stays : packaged_row t r ≡ false → torn_row now t r ≡ r ∷ []
  unfolding torn_row
  row_stays e = rw e

  row_goes : packaged_row t r ≡ true → owns r ≡ true → torn_row now t r ≡ []
  unfolding torn_row
  row_goes e o = rw (e, o)

  row-ready : packaged_row t r ≡ true → owns r ≡ false → torn_row now t r ≡ with_ready now r ∷ []
  unfolding torn_row
  row-ready e o = rw (e, o)

  entries-stay : packaged_row t r ≡ false → (cs : List Conn) → torn_entries t r cs ≡ cs
  unfolding torn_entries
  entries-stay e cs = rw e

  entries_less : packaged_row t r ≡ true → owns r ≡ true → (cs : List Conn) → torn_entries t r cs ≡ ebbed r.conn 1 cs
  unfolding torn_entries
  entries_less e o cs = rw (e, o)

  entries-ready : packaged_row t r ≡ true → owns r ≡ false → (cs : List Conn) → torn_entries t r cs ≡ cs
  unfolding torn_entries
  entries-ready e o cs = rw (e, o)

  row-short : length (torn_row now t r) ≤ 1
  row-short = elim (test (packaged_row t r)) [
    | inl e ↦ elim (test (owns r)) [ inl o ↦ rw (row_goes e o) (omega arith) | inr o ↦ rw (row-ready e o) (omega arith) ]
    | inr e ↦ rw (row_stays e) (omega arith)
  ]

-- what holds of entries, and of those with one row less
either : (P : List Conn → Type 0) (now : ℕ) (t : Table) (r : Row) (cs : List Conn) → P cs → P (ebbed r.conn 1 cs) → P (torn_entries t r cs)
either P now t r cs p q = elim (test (packaged_row t r)) [
  | inl e ↦ elim (test (owns r)) [ inl o ↦ subst P (sym (entries_less now t r e o cs)) q | inr o ↦ subst P (sym (entries-ready now t r e o cs)) p ]
  | inr e ↦ subst P (sym (entries-stay now t r e cs)) p
]

-- the entries with a row are the tally of what stays
left_tally : (now : ℕ) (t : Table) (x : List Row) (r : Row) (y : List Row) (cs : List Conn) → Rising 0 cs → filter busy cs ≡ tally (x ++ (r ∷ y))
    → filter busy (torn_entries t r cs) ≡ tally (x ++ (torn_row now t r ++ y))
left_tally now t x r y cs up e = elim (test (packaged_row t r)) [
  | inl p ↦ elim (test (owns r)) [
    | inl o ↦ ap (filter busy) (entries_less now t r p o cs) ∙ ebbed-busy r.conn 1 0 cs up ∙ ap (unbump r.conn 1) e
        ∙ ap (λ (j : ℕ). unbump r.conn j (tally (x ++ (r ∷ y)))) (sym (eqb-true (own_bit r) 1 o)) ∙ sym (tally_less x r y) ∙ ap (λ (l : List Row). tally (x ++ (l ++ y))) (sym (row_goes now t r p o))
    | inr o ↦ ap (filter busy) (entries-ready now t r p o cs) ∙ e ∙ sym (tally_same x r (with_ready now r) y refl refl) ∙ ap (λ (l : List Row). tally (x ++ (l ++ y))) (sym (row-ready now t r p o))
  ]
  | inr p ↦ ap (filter busy) (entries-stay now t r p cs) ∙ e ∙ ap (λ (l : List Row). tally (x ++ (l ++ y))) (sym (row_stays now t r p))
]

-- as the code tests it
abbrev Reads : List ℕ → ℕ → Row → Type 0
Reads b i r = (f : Flat) (d : Row) → Shows b f → r ≡ get_or f.rows i d

abbrev Finds : List ℕ → Row → Reached → Found → Type 0
Finds b r c x = (st : State) (xs : List Row) (cs : List Conn) → Sound st → Ebbs b st xs cs → hash_at r < top → Stands (places_of st.table) c → Tells st r x

module _ {b : List ℕ} (now m i : ℕ) {r₀ : Row} (row : Reads b i r₀) {c : Reached} {x : Found} (found : Finds b r₀ c x) where
  module _ (st : State) (xs : List Row) (cs : List Conn) (r : Row) (s : Sound st) (h : Ebbs b st xs cs) (k : Stands (places_of st.table) c) (e : get_or xs i r ≡ r) (small : hash_at r < top) where
    is_row : r₀ ≡ r
    is_row = row _ r h ∙ e

    told : Tells st r₀ x
    told = found st xs cs s h (subst (λ (a : Row). hash_at a < top) (sym is_row) small) k

    is_packaged : packaged_row st.table r ≡ x.packaged
    is_packaged = ap (packaged_row st.table) (sym is_row) ∙ sym told.packaged

    stays : x.packaged ≡ false → torn_row now st.table r ≡ r ∷ []
    stays z = row_stays now st.table r (is_packaged ∙ z)

    goes : x.packaged ≡ true → r₀.bits / 8 % 2 ≡ 1 → torn_row now st.table r ≡ []
    goes z o = row_goes now st.table r (is_packaged ∙ z) (ap owns (sym is_row) ∙ eq-eqb (own_bit r₀) 1 o)

    readied : x.packaged ≡ true → (r₀.bits / 8 % 2 ≡ 1 → ⊥) → torn_row now st.table r ≡ with_ready now r ∷ []
    readied z o = row-ready now st.table r (is_packaged ∙ z) (ap owns (sym is_row) ∙ ne_eqb (own_bit r₀) 1 o)

  pub tear_stays : x.packaged ≡ false → {b' : List ℕ} → Turns b b' (λ f. with_rows (set f.rows m r₀) f) → RowTorn b b' now m i (m + 1) c x.reached
  tear_stays z {b'} turn = record {
    least = omega arith;
    most = omega arith;
    count = λ st xs cs r s h k e small. ap (λ (l : List Row). m + length l) (sym (stays st xs cs r s h k e small z));
    stands = λ st xs cs r s h k e small. (told st xs cs r s h k e small).stands;
    rows = λ st xs cs r s so h k e small.
        let q = is_row st xs cs r s h k e small in
        let same = entries-stay now st.table r (is_packaged st xs cs r s h k e small ∙ z) cs in
        subst (λ (l : List Row). Ebbs b' st (put_at m l xs) (torn_entries st.table r cs)) (sym (stays st xs cs r s h k e small z))
        (subst (Ebbs b' st (set xs m r)) (sym same) (subst (λ (a : Row). Ebbs b' st (set xs m a) cs) q (turn _ h)));
  }

  pub tear_goes : x.packaged ≡ true → r₀.bits / 8 % 2 ≡ 1 → {b' : List ℕ} → Tallies b b' (ebbed r₀.conn 1) → RowTorn b b' now m i m c x.reached
  tear_goes z o {b'} t = record {
    least = omega arith;
    most = omega arith;
    count = λ st xs cs r s h k e small. sym (add-zero m) ∙ ap (λ (l : List Row). m + length l) (sym (goes st xs cs r s h k e small z o));
    stands = λ st xs cs r s h k e small. (told st xs cs r s h k e small).stands;
    rows = λ st xs cs r s so h k e small.
        let q = is_row st xs cs r s h k e small in
        let less = entries_less now st.table r (is_packaged st xs cs r s h k e small ∙ z) (ap owns (sym q) ∙ eq-eqb (own_bit r₀) 1 o) cs in
        subst (λ (l : List Row). Ebbs b' st (put_at m l xs) (torn_entries st.table r cs)) (sym (goes st xs cs r s h k e small z o))
        (subst (Ebbs b' st xs) (sym less) (subst (λ (a : Row). Ebbs b' st xs (ebbed a.conn 1 cs)) q (t _ so h)));
  }

  pub tear_readies : x.packaged ≡ true → (r₀.bits / 8 % 2 ≡ 1 → ⊥) → {x₀ : Row} → x₀ ≡ with_ready now r₀ → {b' : List ℕ} → Turns b b' (λ f. with_rows (set f.rows m x₀) f)
      → RowTorn b b' now m i (m + 1) c x.reached
  tear_readies z o {x₀} w {b'} turn = record {
    least = omega arith;
    most = omega arith;
    count = λ st xs cs r s h k e small. ap (λ (l : List Row). m + length l) (sym (readied st xs cs r s h k e small z o));
    stands = λ st xs cs r s h k e small. (told st xs cs r s h k e small).stands;
    rows = λ st xs cs r s so h k e small.
        let p = is_row st xs cs r s h k e small in
        let q : x₀ ≡ with_ready now r = w ∙ ap (with_ready now) p in
        let same = entries-ready now st.table r (is_packaged st xs cs r s h k e small ∙ z) (ap owns (sym p) ∙ ne_eqb (own_bit r₀) 1 o) cs in
        subst (λ (l : List Row). Ebbs b' st (put_at m l xs) (torn_entries st.table r cs)) (sym (readied st xs cs r s h k e small z o))
        (subst (Ebbs b' st (set xs m (with_ready now r))) (sym same) (subst (λ (a : Row). Ebbs b' st (set xs m a) cs) q (turn _ h)));
  }

-- what stays is no more than there was
pub torn_few : (now : ℕ) (t : Table) (rs : List Row) → length (each (torn_row now t) rs) ≤ length rs
unfolding each
torn_few now t [] = omega arith
torn_few now t (r ∷ rs) = omega (arith, length-append (torn_row now t r) (each (torn_row now t) rs), row-short now t r, torn_few now t rs)

-- ---- the loop: of the first i rows, what stays stands at the front, m of them

pub record Going (b : List ℕ) (st : State) (now i m : ℕ) (c : Reached) : Type 0 where
  pub rows : List Row
  pub long : length rows ≡ length (rows_of st.table)
  pub front : take m rows ≡ each (torn_row now st.table) (take i (rows_of st.table))
  pub rest : drop i rows ≡ drop i (rows_of st.table)
  pub conns : List Conn
  pub rising : Rising 0 conns
  pub few : length conns ≤ length (rows_of st.table)
  pub light : Each Light conns
  pub tallied : filter busy conns ≡ tally (each (torn_row now st.table) (take i (rows_of st.table)) ++ drop i (rows_of st.table))
  pub shows : Ebbs b st rows conns
  pub stands : Stands (places_of st.table) c

pub record Tearing (b₀ b : List ℕ) (now i m : ℕ) (c : Reached) : Type 0 where
  pub most : i ≤ rows_in b₀
  pub less : m ≤ i
  pub size : length b ≡ length b₀
  pub going : (st : State) → Sound st → Writes b₀ st → Going b st now i m c

pub tearing_none : (b : List ℕ) (now : ℕ) {c : Reached} → ((f : Flat) → Shows b f → Stands f.places c) → Tearing b b now 0 0 c
unfolding each
tearing_none b now {c} first = record { most = omega arith; less = omega arith; size = refl; going = λ st s w. begun st s w }
  where
    begun : (st : State) → Sound st → Writes b st → Going b st now 0 0 c
    begun st s w =
        let t = tally_tallied (rows_of st.table) in
        record {
          rows = rows_of st.table;
          long = refl;
          front = refl;
          rest = refl;
          conns = tally (rows_of st.table);
          rising = tallied_rising 0 (tally (rows_of st.table)) t;
          few = tally-length (rows_of st.table);
          light = light_of st s;
          tallied = tallied_busy 0 (tally (rows_of st.table)) t;
          shows = w;
          stands = first _ w;
        }

module _ {b₀ b : List ℕ} {now i m : ℕ} {known : Reached} (c : Tearing b₀ b now i m known) where
  pub tearing-rows : Kept b₀ → rows_in b ≡ rows_in b₀
  tearing-rows k = let g = c.going k.state k.sound k.writes in let z = sizes k.writes in let y = sizes g.shows in omega (arith, g.long)

  pub tearing-shown : Kept b₀ → Shown b
  tearing-shown k =
      let g = c.going k.state k.sound k.writes in
      let z = sized_of k.state k.sound in
      shown g.shows
      (record { limit = z.limit; places = z.places; rows_few = omega (arith, z.rows_few, g.long); conns_few = omega (arith, z.rows_few, g.few); places_few = z.places_few }) g.light

  pub tearing_more : {b' : List ℕ} {m' : ℕ} {next : Reached} → i < rows_in b₀ → length b' ≡ length b → RowTorn b b' now m i m' known next → Tearing b₀ b' now (i + 1) m' next
  tearing_more {b'} {m'} {next} l e t = record {
    most = omega arith;
    less = omega (arith, c.less, t.most);
    size = e ∙ c.size;
    going = λ st s w. then st s w;
  }
    where
      none : Row
      none = record { hash = record { w0 = 0; w1 = 0; w2 = 0; w3 = 0 }; conn = 0; ready = 0; prio = 0; deadline = 0; bits = 0 }

      then : (st : State) → Sound st → Writes b₀ st → Going b' st now (i + 1) m' next
      then st s w =
          let rs = rows_of st.table in
          let g = c.going st s w in
          let xs = g.rows in
          let z = sizes w in
          let n : i < length rs = omega arith in
          let r = get_or rs i none in
          let T = torn_row now st.table r in
          let F = each (torn_row now st.table) (take i rs) in
          let D = drop (i + 1) rs in
          let split : drop i rs ≡ r ∷ D = rw (add-one i) (drop-cons rs i none n) in
          let here : get_or xs i r ≡ r = ap (λ (j : ℕ). get_or xs j r) (sym (add-zero i)) ∙ sym (get_or-drop i xs 0 r) ∙ ap (λ (x : List Row). get_or x 0 r) (g.rest ∙ split) in
          let small : hash_at r < top = number-top r.hash (each_at RowFits rs i none (flat_sound st s).rows_fit n).hash in
          let cs = g.conns in
          let now-are : filter busy cs ≡ tally (F ++ (r ∷ D)) = g.tallied ∙ ap (λ (x : List Row). tally (F ++ x)) split in
          let count = t.count st xs cs r s g.shows g.stands here small in
          let keep = torn_row now st.table in
          let longer : each keep (take (i + 1) rs) ≡ F ++ T =
          ap (each keep) (rw (add-one i) (take-suc rs i none n)) ∙ each_append keep (take i rs) (r ∷ []) ∙ ap (λ (x : List Row). F ++ x) (single keep r) in
          record {
            rows = put_at m T xs;
            long = put-long m T xs ∙ g.long;
            front =
                ap (λ (j : ℕ). take j (put_at m T xs)) count
                ∙ put_front m T xs (row-short now st.table r) (omega (arith, g.long, c.less))
                ∙ ap (λ (x : List Row). x ++ T) g.front
                ∙ sym longer;
            rest = put_rest m i T xs c.less ∙ sym (drop-drop 1 i xs) ∙ ap (drop 1) g.rest ∙ drop-drop 1 i rs;
            conns = torn_entries st.table r cs;
            rising = either (Rising 0) now st.table r cs g.rising (ebbed-rising r.conn 1 0 cs g.rising);
            few = either (λ (ds : List Conn). length ds ≤ length rs) now st.table r cs g.few (omega (arith, ebbed-long r.conn 1 cs, g.few));
            light = either (Each Light) now st.table r cs g.light (ebbed-light r.conn 1 cs g.light);
            tallied = left_tally now st.table F r D cs g.rising now-are ∙ ap tally (sym (ap (λ (x : List Row). x ++ D) longer ∙ append_assoc F T D));
            shows = t.rows st xs cs r s (rising-sorted 0 cs g.rising) g.shows g.stands here small;
            stands = t.stands st xs cs r s g.shows g.stands here small;
          }
        where
          single : (g : Row → List Row) (x : Row) → each g (x ∷ []) ≡ g x
          single g x = unfold each in append-nil (g x)

  module _ {n : ℕ} (e : n ≡ rows_in b₀) (l : n ≤ i) {b₁ : List ℕ} (turn : Turns b b₁ (λ f. with_rows (remove_range m n f.rows) f)) where
    module _ (st : State) (s : Sound st) (w : Writes b₀ st) where
      all : take i (rows_of st.table) ≡ rows_of st.table
      all = let z = sizes w in take_all i (rows_of st.table) (omega arith)

      cut : Ebbs b₁ st (torn_rows now st.table) (c.going st s w).conns
      cut =
          let g = c.going st s w in
          let z = sizes w in
          let is : remove_range m n g.rows ≡ torn_rows now st.table = range_front m n g.rows (omega (arith, g.long)) ∙ g.front ∙ ap (each (torn_row now st.table)) all in
          subst (λ (x : List Row). Ebbs b₁ st x g.conns) is (turn _ g.shows)
        where
          range_front : (a b : ℕ) (xs : List Row) → length xs ≤ b → remove_range a b xs ≡ take a xs
          range_front a b xs h = unfold remove_range in (ap (λ (x : List Row). take a xs ++ x) (drop_of_length-le xs h) ∙ append-nil (take a xs))

    -- the rows that stay, and every entry
    pub tearing-cut : Kept b₀ → Shown b₁
    tearing-cut k =
        let g = c.going k.state k.sound k.writes in
        let z = sized_of k.state k.sound in
        let few = torn_few now k.state.table (rows_of k.state.table) in
        shown (cut k.state k.sound k.writes)
        (record { limit = z.limit; places = z.places; rows_few = omega (arith, z.rows_few); conns_few = omega (arith, z.rows_few, g.few); places_few = z.places_few }) g.light

    pub tearing_end : {b₂ : List ℕ} → Turns b₁ b₂ (λ f. with_conns (filter busy f.conns) f) → (st : State) → Sound st → Writes b₀ st → RowsTorn b₂ st now
    tearing_end {b₂} idle st s w =
        let rs = rows_of st.table in
        let g = c.going st s w in
        let z = sizes w in
        let none : drop i rs ≡ [] = drop_of_length-le rs {i = i} (omega arith) in
        let F = each (torn_row now st.table) (take i rs) in
        let live : F ++ drop i rs ≡ torn_rows now st.table = ap (λ (x : List Row). F ++ x) none ∙ append-nil F ∙ ap (each (torn_row now st.table)) (all st s w) in
        subst (Ebbs b₂ st (torn_rows now st.table)) (g.tallied ∙ ap tally live) (idle _ (cut st s w))

pub torn-shown : {b : List ℕ} (now : ℕ) (st : State) → Sound st → RowsTorn b st now → Shown b
torn-shown now st s h = let l = torn_few now st.table (rows_of st.table) in shorn_shown st s (torn_rows now st.table) (torn_rows now st.table) l l h
