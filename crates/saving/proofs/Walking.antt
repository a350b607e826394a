-- The walk over the rows: a request's line, the lines of its candidates, and so on to the last row.
use Prim.Native.Nat.{ℕ, ◌+◌, ◌*◌, ◌≤◌, ◌<◌}
use mathlib.Core.Path.{◌≡◌, refl, sym, ap, subst, ◌∙◌}
use mathlib.Core.List.{List, [], ◌∷◌, ◌++◌, append_assoc, append-nil}
use native.Mathlib.Omega.{arith}
use lib.ListN.{length, get_or, length-append, length-map}
use Rattle.ident.specs.Number.{Key, place, top}
use Rattle.words.specs.Words.{splice}
use Rattle.regions.specs.declared.Row.{Row}
use Rattle.regions.specs.Regions.{each}
use Rattle.regions.specs.Order.{Bound}
use Rattle.machine.specs.Limits.{max_announcements}
use Rattle.machine.specs.State.{Request, Table, State, on_table, with_candidates}
use Rattle.machine.specs.Table.{at}
use Rattle.machine.specs.Sound.{Lawful, Filled, Ordered, All, Sound}
use Rattle.machine.specs.Step.{written}
use Rattle.machine.specs.Listing.{short, HeadLine, RequestLine, lines_of, text_of, listing_in, listing}
use Rattle.store.specs.Flat.{Flat, flat_of, row_of, rows_for, rows_of}
use Rattle.store.specs.Gather.{key_at}
use Rattle.store.specs.Image.{Shows, Writes}
use Rattle.store.specs.Shown.{rows_in, row_numbers, Kept}
use Rattle.store.proofs.Frame.{sizes}
use Rattle.store.proofs.Split.{below, rows_below}
use Rattle.requests.specs.Changes.{Tells}
use Rattle.requests.proofs.Keeping.{to_at, kept_shown}
use Rattle.package_stages.specs.declared.Request.{Request as RequestRead}
use Rattle.package_stages.specs.Changes.{RequestAt}
use Rattle.announcing.specs.Evicts.{part}
use Rattle.saving.specs.Laid.{Lays, request_room, candidate_room, line_text, row_texts, Saves}
use Rattle.saving.proofs.Laying.{lays_as, lays_more, lays_none}
use Rattle.saving.proofs.Splitting.{at_split, below_split, small_split, rows_more_lem, rows_split, key_split, part_split, text_one, text_more}

-- the lines of the requests that are done are laid from a on, u₀ before the walk; the next row is the i-th
pub record Done (st : State) (u₀ u : List ℕ) (a i e : ℕ) : Type 0 where
  pub done : Table
  pub rest : Table
  pub table_is : st.table ≡ done ++ rest
  pub row : i ≡ length (rows_of done)
  pub text : Lays u₀ u a (text_of short (lines_of done)) e

text-empty : text_of short (lines_of []) ≡ []
unfolding lines_of text_of
text-empty = refl

rows_none : length (rows_of []) ≡ 0
unfolding each
rows_none = refl

pub done_none : (st : State) (u₀ : List ℕ) (a : ℕ) → Done st u₀ u₀ a 0 a
done_none st u₀ a = record { done = []; rest = st.table; table_is = refl; row = sym rows_none; text = lays_as (sym text-empty) (lays_none u₀ a) }

-- ---- one request more

-- what holds of all requests holds of the first that is left
all_split : (P : Request → Type 0) (done : Table) (r : Request) (rest : Table) → All P (done ++ (r ∷ rest)) → P r
all_split P [] r rest a = a.0
all_split P (d ∷ done) r rest a = all_split P done r rest a.1

-- the next request, its key and where its rows end
pub record Next (st : State) (i : ℕ) (done : Table) (k : Key) (to : ℕ) : Type 0 where
  pub request : Request
  pub rest : Table
  pub table_is : st.table ≡ done ++ (request ∷ rest)
  pub at_is : at k st.table ≡ request
  pub lawful : Lawful request
  pub filled : Filled request
  pub to_is : to ≡ length (rows_of done ++ rows_for request)
  pub part_is : part i to (rows_of st.table) ≡ rows_for request

some_row : (r : Request) → Filled r → 1 ≤ length (rows_for r)
unfolding rows_for
some_row r f = omega (arith, length-map r.candidates (row_of r))

module _ (st : State) (s : Sound st) (i : ℕ) (done : Table) (e : i ≡ length (rows_of done)) (l : i < length (rows_of st.table)) where
  pub next_request : (rest : Table) → st.table ≡ done ++ rest → (d : Row) (k : Key) {to : ℕ} → k ≡ key_at (get_or (rows_of st.table) i d)
      → Bound (row_numbers (rows_of st.table)) (place k + 1) to → Next st i done k to
  next_request [] t d k kk bd = absurd (omega (arith, e, ap (λ (x : Table). length (rows_of x)) (t ∙ append-nil done)))
  next_request (r ∷ rest) t d k {to} kk bd =
      let o = subst (λ (x : Table). Ordered 0 x) t s.bounded.ordered in
      let f = all_split Filled done r rest (subst (All Filled) t s.bounded.filled) in
      let g = all_split Lawful done r rest (subst (All Lawful) t s.bounded.lawful) in
      let key : k ≡ r.key = kk ∙ ap (λ (x : Table). key_at (get_or (rows_of x) i d)) t ∙ key_split done r rest e f d in
      let here : at k st.table ≡ r = ap (λ (j : Key). at j st.table) key ∙ ap (at r.key) t ∙ at_split 0 done r rest o in
      let under : rows_below k st.table ≡ rows_of done = ap (λ (j : Key). rows_below j st.table) key ∙ ap (λ (x : Table). rows_of (below r.key x)) t ∙ ap rows_of (below_split 0 done r rest o) in
      let small : k.hash < top = subst (λ (j : Key). j.hash < top) (sym key) (small_split 0 done r rest o) in
      let end : to ≡ length (rows_of done ++ rows_for r) = to_at st s k small refl bd ∙ ap length (λ j. under j ++ rows_for (here j)) in
      record {
        request = r;
        rest = rest;
        table_is = t;
        at_is = here;
        lawful = g;
        filled = f;
        to_is = end;
        part_is = ap (λ (x : Table). part i to (rows_of x)) t ∙ part_split done r rest e end;
      }

  -- its rows follow one another up to the next request's
  pub next_after : {k : Key} {to : ℕ} → Next st i done k to → i < to
  next_after n = omega (arith, n.to_is, length-append (rows_of done) (rows_for n.request), some_row n.request n.filled)

-- ---- the loop's invariant: the rows before i are done

pub record Walked (b u₀ u : List ℕ) (a i e : ℕ) : Type 0 where
  pub inside : i ≤ rows_in b
  pub near : e ≤ a + (request_room + candidate_room) * i
  pub long : length u ≡ length u₀
  pub done : (st : State) → Sound st → Writes b st → Done st u₀ u a i e

pub walked_none : (b u₀ : List ℕ) (a : ℕ) → Walked b u₀ u₀ a 0 a
walked_none b u₀ a = record { inside = omega arith; near = omega arith; long = refl; done = λ st s w. done_none st u₀ a }

-- the rows are at most 100,000
pub few_rows : {b : List ℕ} → Kept b → rows_in b ≤ max_announcements
few_rows k = let z = (kept_shown k).sized in omega (arith, z.limit, z.rows_few, (kept_shown k).sizes.rows)

module _ {b u₀ u : List ℕ} {a i e : ℕ} (v : Walked b u₀ u a i e) (l : i < rows_in b) {r : Row} (row : (f : Flat) (d : Row) → Shows b f → r ≡ get_or f.rows i d)
    (k : Key) (key : k ≡ key_at r) {q : RequestRead} (x : RequestAt b k q) where
  pub next_of : (st : State) (s : Sound st) (w : Writes b st) → Next st i (v.done st s w).done k q.rows.to
  next_of st s w =
      let d = v.done st s w in
      next_request st s i d.done d.row (omega (arith, (sizes w).rows)) d.rest d.table_is r k (key ∙ ap key_at (row (flat_of st) r w)) (x.spans.to_is st s w)

  pub row_ends : Kept b → i < q.rows.to
  row_ends c =
      let st = c.state in
      let d = v.done st c.sound c.writes in
      next_after st c.sound i d.done d.row (omega (arith, (sizes c.writes).rows)) (next_of st c.sound c.writes)

  pub walked_more : Kept b → {u₁ u₂ : List ℕ} {e₁ e₂ : ℕ} → e₁ ≤ e + request_room → e₂ + candidate_room * i ≤ e₁ + candidate_room * q.rows.to
      → Tells b (λ t. Lays u u₁ e (line_text (RequestLine (with_candidates [] (at k t)))) e₁)
      → ((f : Flat) → Shows b f → Lays u₁ u₂ e₁ (row_texts (part i q.rows.to f.rows)) e₂)
      → Walked b u₀ u₂ a q.rows.to e₂
  walked_more c {u₁} {u₂} {e₁} {e₂} h₁ h₂ p₁ p₂ = record {
    inside = x.spans.most;
    near = omega (arith, v.near, row_ends c);
    long = (p₂ (flat_of c.state) c.writes).long ∙ (p₁ c.state c.sound c.writes).long ∙ v.long;
    done = λ st s w.
        let d = v.done st s w in
        let n = next_of st s w in
        let y = n.request in
        let line = subst (λ (z : Request). Lays u u₁ e (line_text (RequestLine (with_candidates [] z))) e₁) n.at_is (p₁ st s w) in
        let rows = subst (λ (z : List Row). Lays u₁ u₂ e₁ (row_texts z) e₂) n.part_is (p₂ (flat_of st) w) in
        record {
          done = d.done ++ (y ∷ []);
          rest = n.rest;
          table_is = n.table_is ∙ sym (append_assoc d.done (y ∷ []) n.rest);
          row = n.to_is ∙ ap length (sym (rows_more_lem d.done y));
          text = lays_as (sym (text_more d.done y n.lawful.candidates)) (lays_more d.text (lays_more line rows));
        };
  }

-- ---- the end

-- no row is left: no request is
rest_none : (done rest : Table) → All Filled (done ++ rest) → length (rows_of (done ++ rest)) ≤ length (rows_of done) → done ++ rest ≡ done
rest_none done [] a h = append-nil done
rest_none done (r ∷ rest) a h =
    absurd (omega (
      arith,
      ap length (rows_split done r rest),
      length-append (rows_of done) (rows_for r ++ rows_of rest),
      length-append (rows_for r) (rows_of rest),
      some_row r
          (all_split Filled done r rest a),
    ))

pub walked_all : {b u₀ u : List ℕ} {a i e : ℕ} → Walked b u₀ u a i e → rows_in b ≤ i → Tells b (λ t. Lays u₀ u a (text_of short (lines_of t)) e)
walked_all {b} {u₀} {u} {a} {i} {e} v h st s w =
    let d = v.done st s w in
    let t = d.table_is in
    let m : length (rows_of (d.done ++ d.rest)) ≤ length (rows_of d.done) = omega (arith, ap (λ (x : Table). length (rows_of x)) t, (sizes w).rows, d.row) in
    let whole : st.table ≡ d.done = t ∙ rest_none d.done d.rest (subst (All Filled) t s.bounded.filled) m in
    lays_as (ap (λ (x : Table). text_of short (lines_of x)) (sym whole)) d.text

-- ---- the first line before them

splice_front : (x u : List ℕ) → splice u 0 x ≡ written x u
unfolding splice written
splice_front x u = let z : 0 + length x ≡ length x = omega arith in rw z

listing_is : (st : State) → line_text (HeadLine (on_table [] st)) ++ text_of short (lines_of st.table) ≡ listing st
unfolding listing_in
listing_is st = sym (text_one (HeadLine (on_table [] st)) (lines_of st.table))

pub saved : {b u u₁ u₂ : List ℕ} {e r : ℕ} → ((st : State) → Sound st → Writes b st → Lays u u₁ 0 (line_text (HeadLine (on_table [] st))) e)
    → Tells b (λ t. Lays u₁ u₂ e (text_of short (lines_of t)) r) → Saves b u u₂ r
saved {u = u} p q st s w =
    let l = lays_as (listing_is st) (lays_more (p st s w) (q st s w)) in
    let n = l.next in
    record { length_is = omega arith; stands = λ g. l.bytes (omega arith) ∙ splice_front (listing st) u }
