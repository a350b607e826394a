-- The keys under which a connection is a candidate are those of its rows.
use Prim.Native.Nat.{ℕ, min, ◌+◌, ◌*◌, ◌≤◌, ◌<◌}
use mathlib.Core.Path.{◌≡◌, refl, sym, ap, ◌∙◌}
use mathlib.Core.Logic.{inl, inr}
use mathlib.Core.List.{List, [], ◌∷◌, ◌++◌, map, append-nil}
use native.Mathlib.Nat.{add-zero}
use native.Mathlib.Numerals.{add-one}
use native.Mathlib.Omega.{arith}
use lib.Dec.{eqb}
use lib.ListN.{length, take, drop, get_or, length-append, length-map, take-append-drop}
use lib.Seq.{take-suc, take_all}
use borrow.Author.Tests.{eqb-true, eq-eqb, ne_eqb}
use Rattle.std.specs.Prelude.{if◌then◌else◌}
use Rattle.ident.specs.Number.{Key}
use Rattle.words.specs.Words.{splice}
use Rattle.words.proofs.Splice.{length-splice}
use Rattle.regions.specs.declared.Row.{Row}
use Rattle.regions.specs.Regions.{each}
use Rattle.machine.specs.Limits.{max_peer_announcements}
use Rattle.machine.specs.Call.{key_bytes}
use Rattle.machine.specs.State.{Candidate, Request, Table, State}
use Rattle.machine.specs.Table.{has, count_in}
use Rattle.machine.specs.Leave.{keys_of}
use Rattle.machine.specs.Sound.{All, Sound}
use Rattle.machine.specs.Step.{key_answer, keys_answer, written}
use Rattle.machine.proofs.Tests.{test}
use Rattle.machine.proofs.AnswerLengths.{length-key_answer}
use Rattle.store.specs.Flat.{Flat, flat_of, row_of, rows_for, rows_of}
use Rattle.store.specs.FlatSound.{count_rows}
use Rattle.store.specs.Gather.{key_at}
use Rattle.store.specs.Image.{Shows, Writes}
use Rattle.store.specs.Shown.{limit_in, Kept}
use Rattle.store.proofs.Bits.{key_row, conn-row}
use Rattle.store.proofs.Counts.{DistinctIn, distinct_in, by_rows}
use Rattle.store.proofs.Frame.{sizes}
use Rattle.requests.proofs.Keeping.{sized_of}
use Rattle.lent_lists.proofs.Answer.{written_more, written_none}
use Rattle.package_stages.specs.Dead.{filter}
use Rattle.package_stages.proofs.Compacting.{filter-append, filter_one, filter_none}
use Rattle.leaving.specs.Parts.{is_of, row_keys, PutIf, OwnKeys}
use Rattle.cutting.proofs.Lessening.{filter-fewer}

map-append : {A B : Type 0} (f : A → B) (a b : List A) → map f (a ++ b) ≡ map f a ++ map f b
map-append f [] b = refl
map-append f (x ∷ a) b = rw (map-append f a b)

pub keys-append : (n : ℕ) (a b : List Row) → row_keys n (a ++ b) ≡ row_keys n a ++ row_keys n b
keys-append n a b = ap (map key_at) (filter-append (is_of n) a b) ∙ map-append key_at (filter (is_of n) a) (filter (is_of n) b)

-- ---- of a table

module _ (n : ℕ) (r : Request) where
  none_in_lem : (cs : List Candidate) → count_in (λ m. eqb m n) cs ≡ 0 → row_keys n (map (row_of r) cs) ≡ []
  unfolding filter count_in
  none_in_lem [] h = refl
  none_in_lem (c ∷ cs) h = elim (test (eqb c.connection n)) [
    | inl e ↦ absurd (omega (arith, rw e at h))
    | inr e ↦ let m : count_in (λ m. eqb m n) cs ≡ 0 = omega (arith, rw e at h) in rw (conn-row r c, e) (none_in_lem cs m)
  ]

  one_in : (cs : List Candidate) → count_in (λ m. eqb m n) cs ≤ 1 → row_keys n (map (row_of r) cs) ≡ (if has n cs then r.key ∷ [] else [])
  unfolding filter count_in has key_at
  one_in [] h = refl
  one_in (c ∷ cs) h = elim (test (eqb c.connection n)) [
    | inl e ↦ let m : count_in (λ m. eqb m n) cs ≡ 0 = omega (arith, rw e at h) in rw (conn-row r c, e, none_in_lem cs m, key_row r c)
    | inr e ↦ let m : count_in (λ m. eqb m n) cs ≤ 1 = omega (arith, rw e at h) in rw (conn-row r c, e) (one_in cs m)
  ]

pub keys_of_rows : (n : ℕ) (t : Table) → All DistinctIn t → row_keys n (rows_of t) ≡ keys_of n t
unfolding keys_of each rows_for
keys_of_rows n [] d = unfold filter in refl
keys_of_rows n (r ∷ t) d =
    keys-append n (map (row_of r) r.candidates) (rows_of t)
    ∙ ap (λ (l : List Key). l ++ row_keys n (rows_of t)) (one_in n r r.candidates (d.0 n))
    ∙ ap (λ (l : List Key). (if has n r.candidates then r.key ∷ [] else []) ++ l) (keys_of_rows n t d.1)
    ∙ elim (test (has n r.candidates)) [ inl e ↦ rw e | inr e ↦ rw e ]

-- ---- there is room for them

count-rows : (n : ℕ) (rs : List Row) → length (row_keys n rs) ≡ count_rows (is_of n) rs
unfolding filter count_rows
count-rows n [] = refl
count-rows n (r ∷ rs) = elim (test (is_of n r)) [ inl e ↦ rw (e, count-rows n rs) (omega arith) | inr e ↦ rw (e, count-rows n rs) (omega arith) ]

pub keys_few : (n : ℕ) {b : List ℕ} (k : Kept b) → length (row_keys n (rows_of k.state.table)) ≤ min max_peer_announcements (limit_in b)
keys_few n {b} k =
    let t = k.state.table in
    let s = k.sound in
    let z = sizes k.writes in
    let x : length (row_keys n (rows_of t)) ≤ max_peer_announcements = rw (count-rows n (rows_of t), by_rows t n) (s.bounded.each n) in
    let y = filter-fewer (is_of n) (rows_of t) in
    let l = length-map (filter (is_of n) (rows_of t)) key_at in
    omega (arith, sized_of k.state s)

-- ---- the loop

pub record Owning (n : ℕ) (b u₀ u : List ℕ) (c i : ℕ) : Type 0 where
  pub long : length u ≡ length u₀
  pub count : (f : Flat) → Shows b f → c ≡ length (row_keys n (take i f.rows))
  pub bytes : (f : Flat) → Shows b f → u ≡ written (keys_answer (row_keys n (take i f.rows))) u₀

pub owning_none : (n : ℕ) (b u : List ℕ) → Owning n b u u 0 0
unfolding filter
owning_none n b u = record { long = refl; count = λ f h. refl; bytes = λ f h. written_none u }

module _ {n : ℕ} {b u₀ u : List ℕ} {c i : ℕ} (v : Owning n b u₀ u c i) where
  keys_next : (f : Flat) (d : Row) → i < length f.rows → row_keys n (take (i + 1) f.rows) ≡ row_keys n (take i f.rows) ++ row_keys n (get_or f.rows i d ∷ [])
  keys_next f d l = rw (add-one i, take-suc f.rows i d l) (keys-append n (take i f.rows) (get_or f.rows i d ∷ []))

  -- room for one key more
  pub owning-room : (k : Kept b) (r : Row) → key_bytes * min max_peer_announcements (limit_in b) ≤ length u₀ → i < length (rows_of k.state.table) → r ≡ get_or (rows_of k.state.table) i r
      → r.conn ≡ n → key_bytes * c + key_bytes ≤ length u
  owning-room k r room l e own =
      let rs = rows_of k.state.table in
      let f = flat_of k.state in
      let x : length (row_keys n (take (i + 1) rs)) ≡ length (row_keys n (take i rs)) + 1 = ap length (keys_next f r l) ∙
      length-append (row_keys n (take i rs)) (row_keys n (get_or rs i r ∷ [])) ∙ ap (λ (q : Row). length (row_keys n (take i rs)) + length (row_keys n (q ∷ []))) (sym e) ∙
      ap (λ (q : List Row). length (row_keys n (take i rs)) + length (map key_at q)) (filter_one (is_of n) r (eq-eqb r.conn n own)) in
      let y : length (row_keys n rs) ≡ length (row_keys n (take (i + 1) rs)) + length (row_keys n (drop (i + 1) rs)) =
      ap (λ (q : List Row). length (row_keys n q)) (sym (take-append-drop (i + 1) rs)) ∙
      ap length (keys-append n (take (i + 1) rs) (drop (i + 1) rs)) ∙ length-append (row_keys n (take (i + 1) rs)) (row_keys n (drop (i + 1) rs)) in
      let z = keys_few n k in
      let w = v.count f k.writes in
      omega (arith, v.long)

  pub owning_more : {u₁ : List ℕ} {w : ℕ} (r : Row) → (r.conn ≡ n → key_bytes * c + key_bytes ≤ length u) → ((f : Flat) → Shows b f → i < length f.rows)
      → ((f : Flat) (d : Row) → Shows b f → r ≡ get_or f.rows i d) → PutIf n r u u₁ c w → Owning n b u₀ u₁ w (i + 1)
  owning_more {u₁} {w} r room inside is p = elim (test (is_of n r)) [
    | inl e ↦ let bytes : u₁ ≡ splice u (key_bytes * c) (key_answer (key_at r)) = rw e at p.bytes in
        let count : w ≡ c + 1 = rw e at p.count in
        let fits = room (eqb-true r.conn n e) in
        let next : (f : Flat) → Shows b f → row_keys n (take (i + 1) f.rows) ≡ row_keys n (take i f.rows) ++ (key_at r ∷ []) = λ f h. keys_next f r (inside f h) ∙
        ap (λ (q : Row). row_keys n (take i f.rows) ++ row_keys n (q ∷ [])) (sym (is f r h)) ∙ ap (λ (q : List Row). row_keys n (take i f.rows) ++ map key_at q) (filter_one (is_of n) r e) in
        record {
          long = ap length bytes ∙ length-splice u (key_bytes * c) (key_answer (key_at r)) (omega (arith, length-key_answer (key_at r))) ∙ v.long;
          count = λ f h. count ∙ sym (ap length (next f h) ∙ length-append (row_keys n (take i f.rows)) (key_at r ∷ []) ∙ ap (λ (x : ℕ). x + 1) (sym (v.count f h)));
          bytes = λ f h.
              let ks = row_keys n (take i f.rows) in
              let l : key_bytes * length ks + key_bytes ≤ length u₀ = omega (arith, v.count f h, v.long) in
              bytes ∙ ap (λ (x : ℕ). splice u (key_bytes * x) (key_answer (key_at r))) (v.count f h) ∙ ap (λ (x : List ℕ). splice x (key_bytes * length ks) (key_answer (key_at r))) (v.bytes f h) ∙
              written_more ks (key_at r) u₀ l ∙ ap (λ (x : List Key). written (keys_answer x) u₀) (sym (next f h));
        }
    | inr e ↦ let bytes : u₁ ≡ u = rw e at p.bytes in
        let count : w ≡ c + 0 = rw e at p.count in
        let next : (f : Flat) → Shows b f → row_keys n (take (i + 1) f.rows) ≡ row_keys n (take i f.rows) = λ f h. keys_next f r (inside f h) ∙ ap (λ (q : Row). row_keys n (take i f.rows) ++
        row_keys n (q ∷ [])) (sym (is f r h)) ∙ ap (λ (q : List Row). row_keys n (take i f.rows) ++ map key_at q) (filter_none (is_of n) r e) ∙ append-nil (row_keys n (take i f.rows)) in
        record {
          long = ap length bytes ∙ v.long;
          count = λ f h. count ∙ add-zero c ∙ v.count f h ∙ ap length (sym (next f h));
          bytes = λ f h. bytes ∙ v.bytes f h ∙ ap (λ (x : List Key). written (keys_answer x) u₀) (sym (next f h));
        }
  ]

  pub owning_done : ((f : Flat) → Shows b f → length f.rows ≤ i) → OwnKeys n b u₀ u c
  owning_done all = record {
    count = λ st s w. v.count (flat_of st) w ∙ ap length (whole st s w);
    keys = λ st s w. v.bytes (flat_of st) w ∙ ap (λ (x : List Key). written (keys_answer x) u₀) (whole st s w);
  }
    where
      whole : (st : State) → Sound st → Writes b st → row_keys n (take i (rows_of st.table)) ≡ keys_of n st.table
      whole st s w = ap (row_keys n) (take_all i (rows_of st.table) (all (flat_of st) w)) ∙ keys_of_rows n st.table (distinct_in st.table s.bounded.once)

-- ---- one row

module _ (n : ℕ) (r : Row) (u : List ℕ) (c : ℕ) where
  pub put-its : {k : Key} {u₁ : List ℕ} → r.conn ≡ n → k ≡ key_at r → u₁ ≡ splice u (key_bytes * c) (key_answer k) → PutIf n r u u₁ c (c + 1)
  put-its e k q = record { count = rw (eq-eqb r.conn n e); bytes = rw (eq-eqb r.conn n e) (q ∙ ap (λ (x : Key). splice u (key_bytes * c) (key_answer x)) k) }

  pub put_not : (r.conn ≡ n → ⊥) → PutIf n r u u c c
  put_not e = record { count = rw (ne_eqb r.conn n e) (sym (add-zero c)); bytes = rw (ne_eqb r.conn n e) }
