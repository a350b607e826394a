-- Rows that go, the tally first: what the bytes show on the way, and a request that goes whole.
use Prim.Native.Nat.{ℕ, suc, ◌+◌, ◌/◌, ◌%◌, ◌≤◌, ◌<◌}
use mathlib.Core.Path.{◌≡◌, refl, sym, ap, subst, ◌∙◌}
use mathlib.Core.Logic.{inl, inr}
use mathlib.Core.Bool.{Bool, true, false}
use mathlib.Core.List.{List, [], ◌∷◌, ◌++◌, append_assoc}
use mathlib.Core.Option.{Option, none, some}
use native.Mathlib.Numerals.{add-one}
use native.Mathlib.Omega.{arith}
use lib.ListN.{length, take, drop, get_or, take-append-drop}
use lib.Seq.{take_at, drop_at, drop-cons}
use Rattle.ident.specs.Number.{Key}
use Rattle.regions.specs.declared.Row.{Row}
use Rattle.regions.specs.declared.Conn.{Conn}
use Rattle.regions.specs.Regions.{remove_range}
use Rattle.places.specs.Places.{Place}
use Rattle.machine.specs.State.{Owner, Package, Request, State, on_table, blank}
use Rattle.machine.specs.Table.{at}
use Rattle.machine.specs.Fail.{forget}
use Rattle.machine.specs.Sound.{Sound, Packed, Lawful}
use Rattle.machine.specs.Typed.{Each}
use Rattle.machine.proofs.Tests.{never, order}
use Rattle.machine.proofs.Table.{lawful_at}
use Rattle.store.specs.Flat.{Flat, flat_of, own_bit, bump, tally, rows_for, rows_of, place_for, places_for, places_of}
use Rattle.store.specs.Counting.{unbump}
use Rattle.store.specs.Image.{Shows, Writes}
use Rattle.store.specs.Shown.{half, rows_in, Light, Shown, Kept, Tallies, with_rows, with_conns}
use Rattle.store.proofs.Entries.{tally-length}
use Rattle.store.proofs.Frame.{shown, sizes, length_remove_range}
use Rattle.store.proofs.Split.{rows_below, rows_above, places_below, places_above, rows_at, places-at, rows-change, places-change}
use Rattle.store.proofs.Tally.{bump-nil, bump-lt, bump-eq, bump_gt, tally_less}
use Rattle.requests.specs.Changes.{Shorn}
use Rattle.requests.proofs.Keeping.{sized_of, conns_in_order, writes_by}

-- ---- counts are at most the number of rows

record Most (n : ℕ) (c : Conn) : Type 0 where
  held : c.held ≤ n
  owned : c.owned ≤ n

bump-most : (n x o : ℕ) (cs : List Conn) → o ≤ 1 → Each (Most n) cs → Each (Most (suc n)) (bump x o cs)
bump-most n x o [] l a = rw bump-nil (record { held = omega arith; owned = omega arith }, tt)
bump-most n x o (c ∷ cs) l a =
    elim (order x c.conn) [
      | inl b ↦ rw (bump-lt x o c cs b) (record { held = omega arith; owned = omega arith }, (record { held = omega (arith, a.0.held); owned = omega (arith, a.0.owned) }, more cs a.1))
      | inr (inl b) ↦ rw (bump-eq x o c cs b) (record { held = omega (arith, a.0.held); owned = omega (arith, a.0.owned) }, more cs a.1)
      | inr (inr b) ↦ rw (bump_gt x o c cs b) (record { held = omega (arith, a.0.held); owned = omega (arith, a.0.owned) }, bump-most n x o cs l a.1)
    ]
  where
    more : (ds : List Conn) → Each (Most n) ds → Each (Most (suc n)) ds
    more [] e = tt
    more (d ∷ ds) e = (record { held = omega (arith, e.0.held); owned = omega (arith, e.0.owned) }, more ds e.1)

tally-most : (rs : List Row) → Each (Most (length rs)) (tally rs)
unfolding tally
tally-most [] = tt
tally-most (r ∷ rs) = bump-most (length rs) r.conn (own_bit r) (tally rs) (omega arith) (tally-most rs)

most-light : (n : ℕ) (cs : List Conn) → n < half → Each (Most n) cs → Each Light cs
most-light n [] l a = tt
most-light n (c ∷ cs) l a = (record { held = omega (arith, a.0.held); owned = omega (arith, a.0.owned) }, most-light n cs l a.1)

-- ---- on the way, every index and sum is in range

module _ (st : State) (s : Sound st) (rs ls : List Row) (m : length rs ≤ length (rows_of st.table)) (l : length ls ≤ length (rows_of st.table)) where
  pub shorn_shown : {b : List ℕ} → Shorn b st rs ls → Shown b
  shorn_shown h =
      let z = sized_of st s in
      shown h (record { limit = z.limit; places = z.places; rows_few = omega (arith, z.rows_few); conns_few = omega (arith, z.rows_few, tally-length ls); places_few = z.places_few })
      (most-light (length ls) (tally ls) (omega (arith, z.limit, z.rows_few)) (tally-most ls))

-- a row less in the tally
pub shorn_less : (st : State) {rs : List Row} (x : List Row) (r : Row) (y : List Row) {b b' : List ℕ} {n o : ℕ} → n ≡ r.conn → o ≡ own_bit r
    → Shorn b st rs (x ++ (r ∷ y)) → Tallies b b' (unbump n o) → Shorn b' st rs (x ++ y)
shorn_less st {rs} x r y {b} {b'} {n} {o} e f h t =
    let cs = tally (x ++ (r ∷ y)) in
    let less : tally (x ++ y) ≡ unbump n o cs = tally_less x r y ∙ ap (λ (j : ℕ). unbump j (own_bit r) cs) (sym e) ∙ ap (λ (j : ℕ). unbump n j cs) (sym f) in
    subst (λ (ds : List Conn). Shows b' (with_conns ds (with_rows rs (flat_of st)))) (sym less) (t _ (conns_in_order (x ++ (r ∷ y))) h)

-- ---- a range of rows counted no more

module _ {A : Type 0} (l : List A) (from : ℕ) where
  pub range_none : remove_range from from l ≡ l
  unfolding remove_range
  range_none = take-append-drop from l

  -- a range is longer by its next element
  pub range_at : (i : ℕ) (d : A) → i < length l → remove_range from i l ≡ take from l ++ (get_or l i d ∷ drop (i + 1) l)
  unfolding remove_range
  range_at i d h = ap (λ (x : List A). take from l ++ x) (rw add-one (drop-cons l i d h))

  pub range_is : (i : ℕ) → take from l ++ drop i l ≡ remove_range from i l
  unfolding remove_range
  range_is i = refl

pub record CountedOut (b₀ b : List ℕ) (from i to : ℕ) : Type 0 where
  pub least : from ≤ i
  pub most : i ≤ to
  pub long : length b ≡ length b₀
  pub shorn : (st : State) → Sound st → Writes b₀ st → Shorn b st (rows_of st.table) (remove_range from i (rows_of st.table))

pub none_out : {b : List ℕ} (from to : ℕ) → from ≤ to → CountedOut b b from from to
none_out {b} from to h = record {
  least = omega arith;
  most = h;
  long = refl;
  shorn = λ st s w. subst (λ (ls : List Row). Shorn b st (rows_of st.table) ls) (sym (range_none (rows_of st.table) from)) w;
}

module _ {b₀ b : List ℕ} {from i to : ℕ} (k : Kept b₀) (c : CountedOut b₀ b from i to) (l : to ≤ rows_in b₀) where
  pub out_shown : Shown b
  out_shown =
      let rs = rows_of k.state.table in
      let z = sizes k.writes in
      let n = length_remove_range rs from i c.least (omega (arith, c.most)) in
      shorn_shown k.state k.sound rs (remove_range from i rs) (omega arith) (omega arith) (c.shorn k.state k.sound k.writes)

  pub out_rows : rows_in b ≡ rows_in b₀
  out_rows = let z = sizes k.writes in let y = sizes (c.shorn k.state k.sound k.writes) in omega arith

  pub one_out : i < to → {r : Row} → ((f : Flat) (d : Row) → Shows b f → r ≡ get_or f.rows i d) → {b' : List ℕ} → length b' ≡ length b → Tallies b b' (unbump r.conn (r.bits / 8 % 2))
      → CountedOut b₀ b' from (i + 1) to
  one_out h {r} row {b'} e t = record {
    least = omega (arith, c.least);
    most = omega arith;
    long = e ∙ c.long;
    shorn = λ st s w.
        let rs = rows_of st.table in
        let z = sizes w in
        let q = get_or rs i r in
        let same : r ≡ q = row _ r (c.shorn st s w) in
        let m : i < length rs = omega arith in
        let now = subst (λ (ls : List Row). Shorn b st rs ls) (range_at rs from i r m) (c.shorn st s w) in
        subst (λ (ls : List Row). Shorn b' st rs ls) (range_is rs from (i + 1)) (shorn_less st (take from rs) q (drop (i + 1) rs) (ap (λ (a : Row). a.conn) same) (ap own_bit same) now t);
  }

-- all of them: they can be taken out
pub all_out : {b₀ b : List ℕ} {from to : ℕ} → Kept b₀ → from ≤ to → to ≤ rows_in b₀ → length b ≡ length b₀
    → ((st : State) → Sound st → Writes b₀ st → Shorn b st (rows_of st.table) (remove_range from to (rows_of st.table))) → Shown b × (to ≤ rows_in b)
all_out {b₀} {b} {from} {to} k h l e x =
    let c : CountedOut b₀ b from to to = record { least = h; most = omega arith; long = e; shorn = x } in
    (out_shown k c l, omega (arith, out_rows k c l))

-- ---- a request goes whole

-- "flag or package only with an owner"
free-place : (r : Request) → Lawful r → r.owner ≡ none → places_for r ≡ []
unfolding places_for
free-place r l e = go r.owner r.info r.«package» e l.packed
  where
    go : (o : Option Owner) (i : Bool) (p : Option Package) → o ≡ none → Packed r.key.kind o i p r.parents → place_for r i p ≡ []
    go (some o) i p e x = let z : ◌≡◌ {A = ℕ} 0 1 = cc in absurd (omega arith)
    go none true (some p) e x = absurd x
    go none true none e x = never x.0
    go none false (some p) e x = never x.0
    go none false none e x = refl

range_out : {A : Type 0} (a m b : List A) {from to : ℕ} → from ≡ length a → to ≡ length (a ++ m) → remove_range from to (a ++ (m ++ b)) ≡ a ++ b
unfolding remove_range
range_out a m b {from} {to} e f =
    let t : take from (a ++ (m ++ b)) ≡ a = take_at a (m ++ b) from (sym e) in
    let d : drop to (a ++ (m ++ b)) ≡ b = rw (← append_assoc) (drop_at (a ++ m) b to (sym f)) in
    rw (t, d)

module _ (st : State) (s : Sound st) (k : Key) {from to : ℕ} (e : from ≡ length (rows_below k st.table)) (f : to ≡ length (rows_below k st.table ++ rows_for (at k st.table)))
    (free : (at k st.table).owner ≡ none) where
  gone-rows : rows_of (forget k st.table) ≡ remove_range from to (rows_of st.table)
  unfolding forget rows_for
  gone-rows =
      let t = st.table in
      let o = s.bounded.ordered in
      rows-change k 0 t o (λ r. blank r.key) ∙ sym (ap (remove_range from to) (rows_at k 0 t o) ∙ range_out (rows_below k t) (rows_for (at k t)) (rows_above k t) e f)

  gone-places : places_of (forget k st.table) ≡ places_of st.table
  unfolding forget places_for
  gone-places =
      let t = st.table in
      let o = s.bounded.ordered in
      places-change k 0 t o (λ r. blank r.key) (λ z. refl)
      ∙ sym (places-at k 0 t o ∙ ap (λ (p : List Place). places_below k t ++ (p ++ places_above k t)) (free-place (at k t) (lawful_at k t s.bounded.lawful) free))

  pub gone_made : {b : List ℕ} → Shorn b st (remove_range from to (rows_of st.table)) (remove_range from to (rows_of st.table)) → Writes b (on_table (forget k st.table) st)
  gone_made h = writes_by st (forget k st.table) gone-rows (ap tally gone-rows) gone-places h
