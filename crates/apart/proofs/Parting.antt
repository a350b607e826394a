-- The places set apart from a store, and put back: what the words are.
use Prim.Native.Nat.{ℕ, zero, suc, ◌+◌, ◌-◌, ◌*◌, ◌/◌, ◌≤◌}
use mathlib.Core.Path.{◌≡◌, refl, sym, ap, subst, ◌∙◌}
use mathlib.Core.List.{List, [], ◌∷◌, ◌++◌, append_assoc, append-nil}
use native.Mathlib.Omega.{arith}
use mathlib.Core.Bool.{true}
use lib.Dec.{ltb}
use borrow.Author.Tests.{lt-ltb}
use lib.ListN.{length, take, drop, set, replicate-append-replicate, length-append, length-take, length-drop, replicate, length-replicate, take-append-drop, length-map}
use lib.Seq.{take_at, drop_at, drop-drop, take-take, length-take-le}
use Rattle.words.specs.Words.{words, splice}
use Rattle.words.proofs.Parts.{words-lent, words_back, words_take, words-drop}
use Rattle.words.proofs.Words.{length-words}
use Rattle.regions.specs.Regions.{each, padded}
use Rattle.regions.specs.declared.Row.{Row}
use Rattle.regions.specs.Rows.{row_size, row_words, conn_size, conn_words}
use Rattle.regions.proofs.Regions.{length-padded, padded-fit, length_each}
use Rattle.places.specs.Places.{Place, list_most, place_size, place_words}
use Rattle.places.proofs.Places.{length-place}
use Rattle.machine.specs.Limits.{need}
use Rattle.machine.specs.State.{State}
use Rattle.machine.specs.Sound.{Sound}
use Rattle.store.specs.Flat.{Head, head_of, flat_of, rows_of, places_of, tally}
use Rattle.store.specs.FlatSound.{PlacesAscend, StageFits, PlaceFits}
use Rattle.machine.specs.Typed.{Each}
use Rattle.store.specs.Image.{head_size, head_words, words_of, Shows, Writes}
use Rattle.store.specs.Shown.{limit_in, Kept, places_at, held_places_at, Shown, with_places, Turns}
use Rattle.store.proofs.Frame.{row_part, conn_part, place_part, framed_is, sizes, shown, padded-nil as padded-none, cleared}
use Rattle.store.proofs.HeadWords.{head-length}
use Rattle.store.proofs.ToFlat.{flat_sound}
use Rattle.requests.proofs.Keeping.{sized_of, light_of}
use Rattle.package_stages.specs.Dead.{filter, live}
use Rattle.apart.specs.Bare.{bare_state}
use Rattle.apart.specs.Apart.{slot_bytes, bare_bytes, slot_words, at_rest, resting, plain, Apart}
use Rattle.apart.proofs.BareTable.{rows-bare, places-bare}
use Rattle.apart.proofs.SlotWords.{rest_each, plain_rest}

-- ---- a region cut behind its first record

zeros-take : (a b : ℕ) → take a (replicate {A = ℕ} (a + b) 0) ≡ replicate a 0
zeros-take a b = rw (← (replicate-append-replicate {A = ℕ} a b 0)) (take_at (replicate a 0) (replicate b 0) a (length-replicate {A = ℕ} a 0))

zeros-drop : (a b : ℕ) → drop a (replicate {A = ℕ} (a + b) 0) ≡ replicate b 0
zeros-drop a b = rw (← (replicate-append-replicate {A = ℕ} a b 0)) (drop_at (replicate a 0) (replicate b 0) a (length-replicate {A = ℕ} a 0))

module _ (Q : ℕ) (some : 1 ≤ Q) where
  cut : place_size * Q ≡ place_size + place_size * (Q - 1)
  cut = omega arith

  cut_here : (p : Place) (ps : List Place) → length (p ∷ ps) ≤ Q → place_part Q (p ∷ ps) ≡ place_words p ++ place_part (Q - 1) ps
  unfolding each
  cut_here p ps few =
      let l = length_each place_size place_words length-place ps in
      let a = length-place p in
      let n : length (place_words p ++ each place_words ps) ≡ place_size + place_size * length ps = rw length-append (omega arith) in
      let z : place_size * Q - length (place_words p ++ each place_words ps) ≡ place_size * (Q - 1) - length (each place_words ps) = omega arith in
      padded-fit (place_size * Q) (place_words p ++ each place_words ps) (omega arith) ∙ rw (z, append_assoc)
      (ap (λ (w : List ℕ). place_words p ++ w) (sym (padded-fit (place_size * (Q - 1)) (each place_words ps) (omega arith))))

  alone : (p : Place) → padded (place_size * 1) (each place_words (p ∷ [])) ≡ place_words p
  unfolding each
  alone p =
      let l : length (place_words p ++ []) ≡ place_size = ap length (append-nil (place_words p)) ∙ length-place p in
      let z : place_size - length (place_words p ++ []) ≡ 0 = omega arith in
      padded-fit place_size (place_words p ++ []) (omega arith) ∙ ap (λ (n : ℕ). (place_words p ++ []) ++ replicate n 0) z ∙ append-nil (place_words p ++ []) ∙ append-nil (place_words p)

  pub cut_first : (ps : List Place) → length ps ≤ Q → take place_size (place_part Q ps) ≡ place_part 1 (take 1 ps)
  unfolding each
  cut_first [] few = ap (take place_size) (padded-none (place_size * Q) ∙ ap (λ (n : ℕ). replicate n 0) cut) ∙ zeros-take place_size (place_size * (Q - 1)) ∙ sym (padded-none place_size)
  cut_first (p ∷ ps) few = ap (take place_size) (cut_here p ps few) ∙ take_at (place_words p) (place_part (Q - 1) ps) place_size (length-place p) ∙ sym (alone p)

  pub cut_rest : (ps : List Place) → length ps ≤ Q → drop place_size (place_part Q ps) ≡ place_part (Q - 1) (drop 1 ps)
  unfolding each
  cut_rest [] few = ap (drop place_size) (padded-none (place_size * Q) ∙ ap (λ (n : ℕ). replicate n 0) cut) ∙ zeros-drop place_size (place_size * (Q - 1)) ∙ sym (padded-none (place_size * (Q - 1)))
  cut_rest (p ∷ ps) few = ap (drop place_size) (cut_here p ps few) ∙ drop_at (place_words p) (place_part (Q - 1) ps) place_size (length-place p)

  pub cut-joined : (ps : List Place) → length ps ≤ Q → place_part 1 (take 1 ps) ++ place_part (Q - 1) (drop 1 ps) ≡ place_part Q ps
  cut-joined ps few = rw (← (cut_first ps few), ← (cut_rest ps few)) (take-append-drop place_size (place_part Q ps))

-- places of which nothing is noted are as they are at rest
rest_first : (ps : List Place) → place_part 1 (take 1 ps) ≡ padded (place_size * 1) (each slot_words (take 1 (resting ps)))
unfolding each
rest_first [] = refl
rest_first (p ∷ ps) = ap (padded (place_size * 1)) (sym (rest_each (p ∷ [])))

rest_others : (Q : ℕ) (ps : List Place) → place_part Q (drop 1 ps) ≡ padded (place_size * Q) (each slot_words (drop 1 (resting ps)))
unfolding each
rest_others Q [] = refl
rest_others Q (p ∷ ps) = ap (padded (place_size * Q)) (sym (rest_each ps))

-- ---- the header with other numbers of places

abbrev with_room : ℕ → Head → Head
with_room Q h = record { limit = h.limit; places = Q; next_poll = h.next_poll; known_cursor = h.known_cursor; ready_cursor = h.ready_cursor }

set-head : (h : Head) (n c q Q v : ℕ) (b : List ℕ) → set (set (head_words h n c q ++ b) places_at Q) held_places_at v ≡ head_words (with_room Q h) n c v ++ b
unfolding head_words
set-head h n c q Q v b = refl

-- ---- words of a store, before its places and from them on

-- header, rows and connections of a state with Q places, of which q are held
abbrev front : State → ℕ → ℕ → List ℕ
front st Q q = head_words (with_room Q (head_of st)) (length (rows_of st.table)) (length (tally (rows_of st.table))) q ++ (row_part st.limit (rows_of st.table) ++ conn_part st.limit
    (tally (rows_of st.table)))

abbrev front_size : ℕ → ℕ
front_size L = head_size + L * row_size + L * conn_size

front_long : (st : State) (Q q : ℕ) → length (front st Q q) ≡ front_size st.limit
front_long st Q q =
    let rs = rows_of st.table in
    let a = head-length (with_room Q (head_of st)) (length rs) (length (tally rs)) q in
    let r = length-padded (row_size * st.limit) (each row_words rs) in
    let c = length-padded (conn_size * st.limit) (each conn_words (tally rs)) in
    rw (length-append, length-append) (omega arith)

flat-words : (st : State) (ps : List Place) → words_of (with_places ps (flat_of st)) ≡ front st st.places (length ps) ++ place_part st.places ps
flat-words st ps = framed_is (with_places ps (flat_of st)) ∙ simp append_assoc

bare-words : (st : State) → words_of (flat_of (bare_state st)) ≡ front st 1 0 ++ replicate place_size 0
unfolding each
bare-words st = framed_is (flat_of (bare_state st)) ∙ rw (rows-bare st.table, places-bare st.table, padded-none place_size) (simp append_assoc)

set_front : (st : State) (Q₀ q₀ Q q : ℕ) (w : List ℕ) → set (set (front st Q₀ q₀ ++ w) places_at Q) held_places_at q ≡ front st Q q ++ w
set_front st Q₀ q₀ Q q w =
    let rs = rows_of st.table in
    let z = row_part st.limit rs ++ conn_part st.limit (tally rs) in
    ap (λ (x : List ℕ). set (set x places_at Q) held_places_at q) (append_assoc (head_words (with_room Q₀ (head_of st)) (length rs) (length (tally rs)) q₀) z w)
    ∙ set-head (with_room Q₀ (head_of st)) (length rs) (length (tally rs)) q₀ Q q (z ++ w)
    ∙ sym (append_assoc (head_words (with_room Q (head_of st)) (length rs) (length (tally rs)) q) z w)

-- ---- a part of whole words

module _ (b : List ℕ) (a e : ℕ) {x m : ℕ} (ex : x ≡ a * 8) (em : m ≡ e * 8) (h : a ≤ e) (l : m ≤ length b) where
  pub part_words : words (take (m - x) (drop x b)) ≡ take (e - a) (drop a (words b))
  part_words = rw (ex, em) (words-lent b a e h (omega arith))

  pub back_words : (v : List ℕ) → length v ≡ length (take (m - x) (drop x b)) → words (take x b ++ (v ++ drop (m - x) (drop x b))) ≡ take a (words b) ++ (words v ++ drop e (words b))
  back_words v n = rw (ex, em) (words_back b v a e h (omega arith) (rw (ex, em) at n))

module _ (b : List ℕ) (e : ℕ) {m : ℕ} (em : m ≡ e * 8) (l : m ≤ length b) where
  pub front_words : words (take m b) ≡ take e (words b)
  front_words = let q : m ≡ 8 * e = omega arith in ap (λ (n : ℕ). words (take n b)) q ∙ words_take b e (omega arith)

  pub rest_words : words (drop m b) ≡ drop e (words b)
  rest_words = let q : m ≡ 8 * e = omega arith in ap (λ (n : ℕ). words (drop n b)) q ∙ words-drop b e (omega arith)

-- the need for one place, and for more
need_one : (L : ℕ) → need L 1 ≡ bare_bytes L
unfolding need
need_one L = omega arith

need_more : (L Q : ℕ) → 1 ≤ Q → need L Q ≡ bare_bytes L + slot_bytes * (Q - 1)
unfolding need
need_more L Q h = omega arith

-- every place of a sound state lives
stage_some : (n : ℕ) (p : Place) → StageFits n p → ltb 0 n ≡ true
stage_some zero p f = absurd f
stage_some (suc n) p f = lt-ltb 0 (suc n) (omega arith)

all_live : (rs : List Row) (ps : List Place) → Each (PlaceFits rs) ps → filter live ps ≡ ps
unfolding filter
all_live rs [] a = refl
all_live rs (p ∷ ps) a = rw (stage_some p.stage p a.0.stage, all_live rs ps a.1)

all_short : (rs : List Row) (ps : List Place) → Each (PlaceFits rs) ps → Each (λ p. length p.parents ≤ list_most) ps
all_short rs [] a = tt
all_short rs (p ∷ ps) a = (a.0.parents.few, all_short rs ps a.1)

-- ---- set apart

module _ (b : List ℕ) (st : State) (s : Sound st) (o : Writes b st) {x m : ℕ} (em : m ≡ bare_bytes st.limit) (ex : x ≡ m - slot_bytes) where
  abbrev a : ℕ
  a = front_size st.limit

  abbrev P : List ℕ
  P = place_part st.places (places_of st.table)

  whole : words b ≡ front st st.places (length (places_of st.table)) ++ P
  whole = o.words_are ∙ flat-words st (places_of st.table)

  long : length b ≡ m + slot_bytes * (st.places - 1)
  long = let e = need_more st.limit st.places s.some_place in omega (arith, o.long)

  few : length (places_of st.table) ≤ st.places
  few = (flat_sound st s).places_few

  before : take a (words b) ≡ front st st.places (length (places_of st.table))
  before = ap (take a) whole ∙ take_at (front st st.places (length (places_of st.table))) P a (front_long st st.places (length (places_of st.table)))

  from : drop a (words b) ≡ P
  from = ap (drop a) whole ∙ drop_at (front st st.places (length (places_of st.table))) P a (front_long st st.places (length (places_of st.table)))

  behind : drop (a + place_size) (words b) ≡ drop place_size P
  behind = sym (drop-drop place_size a (words b)) ∙ ap (drop place_size) from

  pub set_out : {f : List ℕ} (v : List ℕ) {b₁ w₂ b₃ : List ℕ} → f ≡ take (m - x) (drop x b) → length v ≡ length (take (m - x) (drop x b)) → words v ≡ splice (words (take (m - x) (drop x
      b))) 0 (replicate place_size 0)
      → b₁ ≡ take x b ++ (v ++ drop (m - x) (drop x b)) → length b₃ ≡ length b → w₂ ≡ set (words b₁) places_at 1 → words b₃ ≡ set w₂ held_places_at 0
      → Apart b₃ f m st (resting (places_of st.table))
  set_out {f} v {b₁} {w₂} {b₃} ef nv ev e₁ n₃ e₂ e₃ = record {
    sound = s;
    size = em;
    long = n₃ ∙ long;
    first_long = ap length ef ∙ part_long;
    writes = record { long = bare-long; words_are = front_words b₃ e me (omega (arith, long)) ∙ ap (take e) after ∙ take_front ∙ sym (bare-words st) };
    slots = record {
      some = s.some_place;
      few = omega (arith, few, length-map (places_of st.table) at_rest);
      first = ap words ef ∙ part_words b a e ax me (omega arith) (omega (arith, long)) ∙ ap (take (e - a)) from ∙ ap (λ (n : ℕ). take n P) size ∙ cut_first st.places s.some_place
          (places_of st.table) few ∙ rest_first (places_of st.table);
      rest = rest_words b₃ e me (omega (arith, long)) ∙ ap (drop e) after ∙ drop_front ∙ cut_rest st.places s.some_place (places_of st.table) few
          ∙ rest_others (st.places - 1) (places_of st.table);
    };
    lives = ap (filter live) as_were ∙ all_live (rows_of st.table) (places_of st.table) (flat_sound st s).places-fit;
    ascend = subst (PlacesAscend 0) (sym as_were) (flat_sound st s).places-ascend;
    short = subst (Each (λ p. length p.parents ≤ list_most)) (sym as_were) (all_short (rows_of st.table) (places_of st.table) (flat_sound st s).places-fit);
  }
    where
      as_were : plain (resting (places_of st.table)) ≡ places_of st.table
      as_were = plain_rest (places_of st.table)

      e : ℕ
      e = a + place_size

      ax : x ≡ a * 8
      ax = omega arith

      me : m ≡ (a + place_size) * 8
      me = omega arith

      size : a + place_size - a ≡ place_size
      size = omega arith

      part_long : length (take (m - x) (drop x b)) ≡ slot_bytes
      part_long = simp (length-take, length-drop) (omega (arith, long))

      bare-long : length (take m b₃) ≡ need st.limit 1
      bare-long = length-take-le m b₃ (omega (arith, long)) ∙ em ∙ sym (need_one st.limit)

      zeroed : words v ≡ replicate place_size 0
      zeroed = ev ∙ cleared (words (take (m - x) (drop x b))) place_size (length-words (take (m - x) (drop x b)) ∙ (let n = part_long in omega arith))

      first_words : words b₁ ≡ front st st.places (length (places_of st.table)) ++ (replicate place_size 0 ++ drop place_size P)
      first_words = ap words e₁ ∙ back_words b a (a + place_size) ax me (omega arith) (omega (arith, long)) v nv ∙ rw (before, zeroed, behind)

      after : words b₃ ≡ front st 1 0 ++ (replicate place_size 0 ++ drop place_size P)
      after = e₃ ∙ rw (e₂, first_words) (set_front st st.places (length (places_of st.table)) 1 0 (replicate place_size 0 ++ drop place_size P))

      zeros-long : length (front st 1 0 ++ replicate place_size 0) ≡ a + place_size
      zeros-long = length-append (front st 1 0) (replicate place_size 0) ∙ (let l = front_long st 1 0 in let z = length-replicate {A = ℕ} place_size 0 in omega arith)

      take_front : take (a + place_size) (front st 1 0 ++ (replicate place_size 0 ++ drop place_size P)) ≡ front st 1 0 ++ replicate place_size 0
      take_front = rw (← (append_assoc (front st 1 0) (replicate place_size 0) (drop place_size P))) (take_at (front st 1 0 ++ replicate place_size 0) (drop place_size P) (a + place_size) zeros-long)

      drop_front : drop (a + place_size) (front st 1 0 ++ (replicate place_size 0 ++ drop place_size P)) ≡ drop place_size P
      drop_front = rw (← (append_assoc (front st 1 0) (replicate place_size 0) (drop place_size P))) (drop_at (front st 1 0 ++ replicate place_size 0) (drop place_size P) (a + place_size) zeros-long)

-- ---- put back

module _ {b f : List ℕ} {x m n : ℕ} {st : State} (ps : List Place) (o : Apart b f m st (resting ps)) (ex : x ≡ m - slot_bytes) (en : n ≡ length ps) where
  abbrev size : ℕ
  size = front_size st.limit

  at_front : x ≡ size * 8
  at_front = omega (arith, o.size)

  at_rest_lem : m ≡ (size + place_size) * 8
  at_rest_lem = omega (arith, o.size)

  fits : m ≤ length b
  fits = omega (arith, o.long)

  as_bare : take (size + place_size) (words b) ≡ front st 1 0 ++ replicate place_size 0
  as_bare = sym (front_words b (size + place_size) at_rest_lem fits) ∙ o.writes.words_are ∙ bare-words st

  in-front : take size (words b) ≡ front st 1 0
  in-front = sym (take-take size (size + place_size) (words b) (omega arith)) ∙ ap (take size) as_bare ∙ take_at (front st 1 0) (replicate place_size 0) size (front_long st 1 0)

  few_here : length ps ≤ st.places
  few_here = omega (arith, o.slots.few, length-map ps at_rest)

  room_is : (length b - m) / slot_bytes + 1 ≡ st.places
  room_is = omega (arith, o.long, o.sound.some_place)

  pub put_in : {v b₁ w₂ b₃ : List ℕ} → v ≡ f → b₁ ≡ take x b ++ (v ++ drop (m - x) (drop x b)) → length b₃ ≡ length b → w₂ ≡ set (words b₁) places_at ((length b - m) / slot_bytes + 1)
      → words b₃ ≡ set w₂ held_places_at n → Shows b₃ (with_places ps (flat_of st))
  put_in {v} {b₁} {w₂} {b₃} ev e₁ n₃ e₂ e₃ = record {
    long = n₃ ∙ whole_long;
    words_are = e₃ ∙ rw (e₂, room_is, en, first_words) (set_front st 1 0 st.places (length ps) (place_part st.places ps)) ∙ sym (flat-words st ps);
  }
    where
      whole_long : length b ≡ need st.limit st.places
      whole_long = o.long ∙ (let e = need_more st.limit st.places o.sound.some_place in omega (arith, o.size))

      part_long : length f ≡ length (take (m - x) (drop x b))
      part_long = o.first_long ∙ sym (simp (length-take, length-drop) (omega (arith, o.long, o.size)))

      first_words : words b₁ ≡ front st 1 0 ++ place_part st.places ps
      first_words =
          ap words (e₁ ∙ ap (λ (z : List ℕ). take x b ++ (z ++ drop (m - x) (drop x b))) ev) ∙ back_words b size (size + place_size) at_front at_rest_lem (omega arith) fits f part_long
          ∙ rw (in-front, o.slots.first ∙ sym (rest_first ps), ← (rest_words b (size + place_size) at_rest_lem fits), o.slots.rest ∙ sym (rest_others (st.places - 1) ps))
          (ap (λ (w : List ℕ). front st 1 0 ++ w) (cut-joined st.places o.slots.some ps few_here))

  pub places-shown : {b₃ : List ℕ} → Shows b₃ (with_places ps (flat_of st)) → Shown b₃
  places-shown h =
      let z = sized_of st o.sound in
      shown h (record { limit = z.limit; places = z.places; rows_few = z.rows_few; conns_few = z.conns_few; places_few = few_here }) (light_of st o.sound)

  pub put_done : {b₃ b₄ : List ℕ} → Shows b₃ (with_places ps (flat_of st)) → Turns b₃ b₄ (λ f. with_places (filter live f.places) f) → Writes b₄ st
  put_done {b₄ = b₄} h t = subst (λ (qs : List Place). Shows b₄ (with_places qs (flat_of st))) (ap (filter live) (sym (plain_rest ps)) ∙ o.lives) (t (with_places ps (flat_of st)) h)

-- there is a place to set apart
pub room-enough : {b : List ℕ} {m : ℕ} → Kept b → m ≡ bare_bytes (limit_in b) → m ≤ length b
room-enough k e =
    let st = k.state in
    let l = need_more st.limit st.places k.sound.some_place in
    let z = (sizes k.writes).limit in
    omega (arith, k.writes.long, ap bare_bytes z)
