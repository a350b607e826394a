-- An owner comes or goes, in the records and in bytes.
use Prim.Native.Nat.{ℕ, ◌+◌, ◌-◌, ◌<◌}
use mathlib.Core.Path.{◌≡◌, refl, sym, ap, subst, ◌∙◌}
use mathlib.Core.Bool.{Bool, true, false}
use mathlib.Core.List.{List, [], ◌∷◌}
use mathlib.Core.Option.{Option, none, some}
use native.Mathlib.Omega.{arith}
use lib.ListN.{length, get_or, set, length-append, length-set}
use borrow.Author.Tests.{eqb-true, eq-eqb}
use Rattle.ident.specs.Number.{Key}
use Rattle.regions.specs.declared.Row.{Row}
use Rattle.regions.specs.Rows.{with_deadline, with_bits}
use Rattle.machine.specs.State.{Candidate, Owner, Package, Request, State, on_table, owner_is, owned_until, unowned}
use Rattle.machine.specs.Table.{at, change, has, one, count_in}
use Rattle.machine.specs.Sound.{Sound, OwnerFits}
use Rattle.machine.proofs.Tests.{never}
use Rattle.machine.proofs.Table.{all_at}
use Rattle.store.specs.Flat.{flat_of, own_bit, row_of, rows_of, place_for, places_for, tally}
use Rattle.store.specs.FlatSound.{RowFits}
use Rattle.store.specs.Counting.{retally}
use Rattle.store.specs.Image.{Shows, Writes}
use Rattle.store.specs.Shown.{Shown, with_rows, with_conns}
use Rattle.store.proofs.Bits.{own_row, conn-row}
use Rattle.store.proofs.Counts.{Distinct, DistinctIn, distinct_in}
use Rattle.store.proofs.Frame.{shown}
use Rattle.store.proofs.Missing.{each_at}
use Rattle.store.proofs.PlacesAt.{places-unchanged}
use Rattle.store.proofs.RowChanges.{rows-owned, rows-unowned}
use Rattle.store.proofs.RowsAt.{Among, ahead, tally-set}
use Rattle.store.proofs.ToFlat.{flat_sound}
use Rattle.requests.proofs.Keeping.{sized_of, light_of, writes_by}
use Rattle.requests.proofs.Cutting.{row_there, ahead_less}

-- the rows of the owner, and of who was it
abbrev pub owned_row : ℕ → Row → Row
owned_row v r = with_deadline v (with_bits (r.bits + 8) r)

abbrev pub unowned_row : Row → Row
unowned_row r = with_deadline 0 (with_bits (r.bits - 8) r)

-- a row's bits are few
pub bits_few : (st : State) → Sound st → (i : ℕ) (d : Row) {r : Row} → i < length (rows_of st.table) → r ≡ get_or (rows_of st.table) i d → r.bits < 32
bits_few st s i d {r} l e = (subst RowFits (sym e) (each_at RowFits (rows_of st.table) i d (flat_sound st s).rows_fit l)).bits

-- the row is replaced, then the tally is told
pub replaced-shown : (st : State) (s : Sound st) (i : ℕ) (r : Row) {b₁ : List ℕ} → Shows b₁ (with_rows (set (rows_of st.table) i r) (flat_of st)) → Shown b₁
replaced-shown st s i r h =
    let z = sized_of st s in
    let n = length-set (rows_of st.table) i r in
    shown h (record { limit = z.limit; places = z.places; rows_few = omega arith; conns_few = z.conns_few; places_few = z.places_few }) (light_of st s)

distinct_at : (st : State) → Sound st → (k : Key) → Distinct (at k st.table).candidates
unfolding count_in
distinct_at st s k = all_at DistinctIn k st.table (λ n. omega arith) (distinct_in st.table s.bounded.once)

same_place : (n v : ℕ) (r : Request) → places_for (owned_until n v r) ≡ places_for r
unfolding places_for
same_place n v r = go r.info r.«package»
  where
    go : (i : Bool) (p : Option Package) → place_for (owned_until n v r) i p ≡ place_for r i p
    go i (some p) = refl
    go true none = refl
    go false none = refl

no_place : (r : Request) → r.info ≡ false → r.«package» ≡ none → places_for (unowned r) ≡ places_for r
unfolding places_for
no_place r w y = ap (λ (p : Option Package). place_for r false p) (sym y) ∙ ap (λ (i : Bool). place_for r i r.«package») (sym w)

module _ (st : State) (s : Sound st) (k : Key) (n : ℕ) (f : Among n (at k st.table).candidates) {i : ℕ} (e : i ≡ length (ahead k n 0 st.table s.bounded.ordered f)) {r : Row}
    (q : r ≡ row_of (at k st.table) f.one) where
  -- a change that shows in the row of n and in nothing else
  one_row : (g : Request → Request) (x : Row) (o p : ℕ) → (g (at k st.table)).candidates ≡ (at k st.table).candidates → rows_of (change k g st.table) ≡ set (rows_of st.table) i x
      → x.conn ≡ r.conn → own_bit r ≡ o → own_bit x ≡ p → places_for (g (at k st.table)) ≡ places_for (at k st.table)
      → {b : List ℕ} → Shows b (with_conns (retally n o p (tally (rows_of st.table))) (with_rows (set (rows_of st.table) i x) (flat_of st))) → Writes b (on_table (change k g st.table) st)
  one_row g x o p ec rows xn ro xp pl h =
      let t = st.table in
      let ord = s.bounded.ordered in
      let there : get_or (rows_of t) i r ≡ r = row_there k n 0 t ord f r e ∙ sym q in
      let l : i < length (rows_of t) = omega (arith, ahead_less k n 0 t ord f) in
      let name : r.conn ≡ n = ap (λ (a : Row). a.conn) q ∙ conn-row (at k t) f.one ∙ f.is in
      let same : (get_or (rows_of t) i r).conn ≡ x.conn = ap (λ (a : Row). a.conn) there ∙ sym xn in
      let conns : tally (rows_of (change k g t)) ≡ retally n o p (tally (rows_of t)) =
      ap tally rows ∙ tally-set (rows_of t) i r l x same ∙ ap (λ (a : Row). retally a.conn (own_bit a) (own_bit x) (tally (rows_of t))) there ∙ rw (name, ro, xp) in
      let some_one : (g (at k t)).candidates ≡ [] → places_for (g (at k t)) ≡ [] = λ z. absurd (omega (arith, length-append f.front (f.one ∷ f.back), ap length (sym f.all ∙ sym ec ∙ z))) in
      writes_by st (change k g t) rows conns (places-unchanged k 0 t ord g some_one pl) h

  own_is : own_bit r ≡ one (owner_is n (at k st.table).owner)
  own_is = ap own_bit q ∙ own_row (at k st.table) f.one ∙ ap (λ (m : ℕ). one (owner_is m (at k st.table).owner)) f.is

  -- "its connection becomes owner with deadline"
  pub own_made : (v : ℕ) → (at k st.table).owner ≡ none → {x : Row} → x ≡ owned_row v r → {b : List ℕ}
      → Shows b (with_conns (retally n 0 1 (tally (rows_of st.table))) (with_rows (set (rows_of st.table) i x) (flat_of st))) → Writes b (on_table (change k (owned_until n v) st.table) st)
  own_made v u xe {b} h =
      let h' = subst (λ (a : Row). Shows b (with_conns (retally n 0 1 (tally (rows_of st.table))) (with_rows (set (rows_of st.table) i a) (flat_of st)))) xe h in
      let t = st.table in
      let ord = s.bounded.ordered in
      let rows = rows-owned k n 0 t ord f (distinct_at st s k) (owned_until n v) refl refl refl v refl u ∙ ap (λ (a : Row). set (rows_of t) (length (ahead k n 0 t ord f)) (owned_row v a)) (sym q) ∙
      ap (λ (j : ℕ). set (rows_of t) j (owned_row v r)) (sym e) in
      let z : own_bit r ≡ 0 = own_is ∙ ap (λ (o : Option Owner). one (owner_is n o)) u in
      one_row (owned_until n v) (owned_row v r) 0 1 refl rows refl z (omega arith) (same_place n v (at k t)) h'

  -- "owner .. go", where flag, package and parents have gone
  pub disown_made : (v : Owner) → (at k st.table).owner ≡ some v → v.connection ≡ n → (at k st.table).info ≡ false → (at k st.table).«package» ≡ none → {x : Row} → x ≡ unowned_row r
      → {b : List ℕ} → Shows b (with_conns (retally n 1 0 (tally (rows_of st.table))) (with_rows (set (rows_of st.table) i x) (flat_of st))) → Writes b (on_table (change k unowned st.table) st)
  disown_made v u m w y xe {b} h =
      let h' = subst (λ (a : Row). Shows b (with_conns (retally n 1 0 (tally (rows_of st.table))) (with_rows (set (rows_of st.table) i a) (flat_of st)))) xe h in
      let t = st.table in
      let ord = s.bounded.ordered in
      let rows = rows-unowned k n 0 t ord f (distinct_at st s k) unowned refl refl refl v refl u m ∙ ap (λ (a : Row). set (rows_of t) (length (ahead k n 0 t ord f)) (unowned_row a)) (sym q) ∙
      ap (λ (j : ℕ). set (rows_of t) j (unowned_row r)) (sym e) in
      let z : own_bit r ≡ 1 = own_is ∙ ap (λ (o : Option Owner). one (owner_is n o)) u ∙ ap one (eq-eqb v.connection n m) in
      one_row unowned (unowned_row r) 1 0 refl rows refl z (omega arith) (no_place (at k t) w y) h'

-- who owns a request is a candidate of it
pub owner-is : (n : ℕ) (o : Option Owner) → owner_is n o ≡ true → (cs : List Candidate) → OwnerFits o cs → has n cs ≡ true
owner-is n none e cs f = never e
owner-is n (some o) e cs f = ap (λ (m : ℕ). has m cs) (sym (eqb-true o.connection n e)) ∙ f.0

pub record OwnerAt (n : ℕ) (o : Option Owner) : Type 0 where
  pub owner : Owner
  pub is : o ≡ some owner
  pub name : owner.connection ≡ n

pub owner_at_lem : (n : ℕ) (o : Option Owner) → owner_is n o ≡ true → OwnerAt n o
owner_at_lem n none e = never e
owner_at_lem n (some o) e = record { owner = o; is = refl; name = eqb-true o.connection n e }
