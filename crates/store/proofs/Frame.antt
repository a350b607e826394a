-- The words of a flat state, and a part of them that is lent and comes back.
use Prim.Native.Nat.{ℕ, ◌+◌, ◌-◌, ◌*◌, ◌≤◌, ◌<◌}
use mathlib.Core.Path.{◌≡◌, refl, sym, ap, ◌∙◌}
use mathlib.Core.List.{List, [], ◌++◌, append_assoc, append-nil}
use native.Mathlib.Omega.{arith}
use native.Mathlib.Nat.{mul_comm, mul-le-mul_left}
use lib.ListN.{length, take, drop, get_or, set, length-append, length-take, length-drop, replicate, length-replicate, replicate-append-replicate, drop_of_length-le}
use Rattle.std.proofs.lemmas.List.{set-append_left, get_or_append_left, set-get_or}
use lib.Seq.{take_at, drop_at}
use Rattle.words.specs.Words.{words, splice}
use Rattle.words.proofs.Parts.{words-lent, words_back}
use Rattle.regions.specs.declared.Row.{Row}
use Rattle.regions.specs.declared.Conn.{Conn}
use Rattle.regions.specs.Regions.{each, padded, Holds, insert_at, remove_at, remove_range}
use Rattle.regions.specs.Rows.{row_size, row_words, conn_size, conn_words}
use Rattle.regions.proofs.Regions.{length-padded, padded-fit}
use Rattle.places.specs.Places.{Place, place_size, place_words}
use Rattle.machine.specs.Limits.{need}
use Rattle.machine.specs.Step.{empty}
use Rattle.machine.specs.Typed.{Each}
use Rattle.store.specs.Flat.{Head, Flat, flat_of, tally}
use Rattle.store.specs.Image.{head_words, words_of, Shows, Writes}
use Rattle.store.specs.Shown.{limit_at, places_at, rows_at, conns_at, held_places_at, limit_in, places_in, Sizes, Sized, Light, Shown}
use Rattle.store.specs.Parts.{PartOf, Shape, Region, Framed, PartLaws, in_use, room_in}

-- ---- the whole, with counts that need not be those of the lists

abbrev pub row_part : ℕ → List Row → List ℕ
row_part L rs = padded (row_size * L) (each row_words rs)

abbrev pub conn_part : ℕ → List Conn → List ℕ
conn_part L cs = padded (conn_size * L) (each conn_words cs)

abbrev pub place_part : ℕ → List Place → List ℕ
place_part Q ps = padded (place_size * Q) (each place_words ps)

abbrev pub framed : Head → ℕ → ℕ → ℕ → List Row → List Conn → List Place → List ℕ
framed h n c q rs cs ps = head_words h n c q ++ (row_part h.limit rs ++ (conn_part h.limit cs ++ place_part h.places ps))

pub framed_is : (f : Flat) → words_of f ≡ framed f.head (length f.rows) (length f.conns) (length f.places) f.rows f.conns f.places
unfolding words_of
framed_is f = refl

-- ---- words in three pieces, the second lent and given back

-- the bytes from .. to, and all bytes with w there
abbrev pub lent : List ℕ → ℕ → ℕ → List ℕ
lent s from to = take (to - from) (drop from s)

abbrev pub replaced : List ℕ → ℕ → ℕ → List ℕ → List ℕ
replaced s from to w = take from s ++ (w ++ drop (to - from) (drop from s))

module _ {s : List ℕ} {a e from to : ℕ} (p : PartOf s a e from to) (A B C : List ℕ) (q : words s ≡ A ++ (B ++ C)) (la : length A ≡ a) (lb : a + length B ≡ e) where
  l : 8 * e ≤ length s
  l = omega (arith, p)

  lent_is : words (lent s from to) ≡ B
  lent_is =
      let m : length B ≡ e - a = omega arith in
      rw (p.from_is, p.to_is) (words-lent s a e (omega arith) l ∙ rw (q, drop_at A (B ++ C) a la) (take_at B C (e - a) m))

  back_is : (w : List ℕ) → length w ≡ length (lent s from to) → words (replaced s from to w) ≡ A ++ (words w ++ C)
  back_is w lw =
      let m : length (A ++ B) ≡ e = rw length-append (omega arith) in
      rw (p.from_is, p.to_is) (words_back s w a e (omega arith) l (rw (p.from_is, p.to_is) at lw)
      ∙ rw (q, take_at A (B ++ C) a la, ← (append_assoc A B C)) (rw (drop_at (A ++ B) C e m)))

-- ---- what bytes show

module _ {b : List ℕ} {f : Flat} (h : Shows b f) where
  pub sizes : Sizes b f
  unfolding need words_of head_words
  sizes = record {
    long = h.long;
    limit = ap (λ (w : List ℕ). get_or w limit_at 0) h.words_are;
    places = ap (λ (w : List ℕ). get_or w places_at 0) h.words_are;
    rows = ap (λ (w : List ℕ). get_or w rows_at 0) h.words_are;
    conns = ap (λ (w : List ℕ). get_or w conns_at 0) h.words_are;
    held-places = ap (λ (w : List ℕ). get_or w held_places_at 0) h.words_are;
  }

  pub shown : Sized f → Each Light f.conns → Shown b
  shown z l = record { flat = f; shows = h; sizes = sizes; sized = z; light = l }

  pub words_framed : words b ≡ framed f.head (length f.rows) (length f.conns) (length f.places) f.rows f.conns f.places
  words_framed = h.words_are ∙ framed_is f

-- ---- a part that is lent and comes back

module _ {A : Type 0} {k : ℕ} {p : Shape A} {enc : A → List ℕ} {count : ℕ} (laws : PartLaws k p enc count) where
  module _ {b : List ℕ} {f : Flat} (h : Shows b f) where
    abbrev pub r : Framed k p enc count f
    r = laws.framed f

    abbrev pub L : ℕ
    L = f.head.limit

    abbrev pub Q : ℕ
    Q = f.head.places

    -- the words with the list xs in the part, and the count as it was
    abbrev pub with_part : List A → List ℕ
    with_part xs = r.before ++ (padded (k * p.room L Q) (each enc xs) ++ r.behind)

    in_before : count < length r.before
    in_before = omega (arith, laws.in_head, laws.behind_head L Q, r.long)

    pub part-counts : in_use b count ≡ length (p.list f)
    part-counts = ap (λ (w : List ℕ). get_or w count 0) (h.words_are ∙ r.words_are) ∙ get_or_append_left r.before _ 0 count in_before ∙ r.counts

    module _ {from to : ℕ} (q : Region k p b from to) where
      region : PartOf b (p.first L Q) (p.first L Q + p.room L Q * k) from to
      region = rw ((sizes h).limit, (sizes h).places) at q

      filled_to : p.first L Q + length (padded (k * p.room L Q) (each enc (p.list f))) ≡ p.first L Q + p.room L Q * k
      filled_to = rw (length-padded (k * p.room L Q) (each enc (p.list f)), mul_comm k (p.room L Q)) refl

      pub part-lent : Holds k enc (p.room L Q) (p.list f) (words (lent b from to))
      part-lent = lent_is region r.before _ r.behind (h.words_are ∙ r.words_are) r.long filled_to

      pub part_back : (w : List ℕ) (xs : List A) → length w ≡ length (lent b from to) → Holds k enc (p.room L Q) xs (words w) → words (replaced b from to w) ≡ with_part xs
      part_back w xs l e = back_is region r.before _ r.behind (h.words_are ∙ r.words_are) r.long filled_to w l ∙ rw e

    module _ {b' : List ℕ} (l : length b' ≡ length b) where
      -- its records replaced by as many
      pub part_same : (xs : List A) → length xs ≡ length (p.list f) → words b' ≡ with_part xs → Shows b' (p.changed xs f)
      part_same xs n e = record {
        long = l ∙ h.long ∙ ap (λ (d : Head). need d.limit d.places) (sym (r.head_stays xs));
        words_are = e ∙ sym (r.changed_are xs ∙ rw (n, ← r.counts, set-get_or r.before count 0) refl);
      }

      -- and by others, with their count
      pub part-counted : {w : List ℕ} (xs : List A) (v : ℕ) → length xs ≡ v → w ≡ with_part xs → words b' ≡ set w count v → Shows b' (p.changed xs f)
      part-counted xs v n e g = record {
        long = l ∙ h.long ∙ ap (λ (d : Head). need d.limit d.places) (sym (r.head_stays xs));
        words_are = g ∙ rw (e, ← n) (set-append_left r.before _ count (length xs) in_before ∙ sym (r.changed_are xs));
      }

  -- a part has room for the records in use
  pub part-few : {b : List ℕ} → Shown b → in_use b count ≤ room_in b p
  part-few {b} s =
      let h : get_or (words b) count 0 ≤ p.room (limit_in b) (places_in b) = rw (s.sizes.limit, s.sizes.places, part-counts s.shows) (laws.few s.flat s.sized) in
      h

-- n records lie within a part that has room for them
pub room_for : {b : List ℕ} {a : ℕ} (k m n : ℕ) {from to : ℕ} → PartOf b a (a + m * k) from to → n ≤ m → 8 * (k * n) ≤ length (lent b from to)
room_for k m n q h =
    let e : k * n ≤ k * m = mul-le-mul_left k h in
    let c : k * m ≡ m * k = mul_comm k m in
    rw (length-take, length-drop) (omega (arith, q))

-- ---- lists with one element more or less

module _ {A : Type 0} (l : List A) (i : ℕ) where
  pub length-insert : (x : A) → i ≤ length l → length (insert_at i x l) ≡ length l + 1
  unfolding insert_at
  length-insert x h = simp (length-append, length-take, length-drop) (omega arith)

  pub length_remove : i < length l → length (remove_at i l) ≡ length l - 1
  unfolding remove_at
  length_remove h = simp (length-append, length-take, length-drop) (omega arith)

pub length_remove_range : {A : Type 0} (l : List A) (from to : ℕ) → from ≤ to → to ≤ length l → length (remove_range from to l) ≡ length l - (to - from)
unfolding remove_range
length_remove_range l from to h g = simp (length-append, length-take, length-drop) (omega arith)

-- ---- an empty store

pub cleared : (w : List ℕ) (d : ℕ) → length w ≡ d → splice w 0 (replicate d 0) ≡ replicate d 0
unfolding splice
cleared w d n =
    let m : length (replicate {A = ℕ} d 0) ≡ d = length-replicate d 0 in
    let z : drop (0 + length (replicate {A = ℕ} d 0)) w ≡ [] = drop_of_length-le w {i = 0 + length (replicate {A = ℕ} d 0)} (omega arith) in
    rw z (append-nil (replicate d 0))

pub padded-nil : (n : ℕ) → padded n [] ≡ replicate n 0
padded-nil n = padded-fit n [] (omega arith) ∙ (let e : n - 0 ≡ n = omega arith in rw e)

parted : (l q d : ℕ) → d ≡ 24 + (12 * l + 824 * q) → replicate {A = ℕ} d 0 ≡ replicate 24 0 ++ (replicate (row_size * l) 0 ++ (replicate (conn_size * l) 0 ++ replicate (place_size * q) 0))
parted l q d e =
    let m : d ≡ 24 + (row_size * l + (conn_size * l + place_size * q)) = omega arith in
    rw (
      m,
      ← (replicate-append-replicate {A = ℕ} 24 (row_size * l + (conn_size * l + place_size * q)) 0),
      ← (replicate-append-replicate {A = ℕ} (row_size * l) (conn_size * l + place_size * q) 0),
      ← (replicate-append-replicate {A = ℕ} (conn_size * l) (place_size * q) 0),
    )

empty-words : (l q : ℕ) → set (set (set (replicate 24 0 ++ (replicate (row_size * l) 0 ++ (replicate (conn_size * l) 0 ++ replicate (place_size * q) 0))) 0 1) 1 l) 2 q ≡ words_of (flat_of (empty l q))
unfolding words_of head_words each tally
empty-words l q = rw (padded-nil (row_size * l), padded-nil (conn_size * l), padded-nil (place_size * q))

pub filled : (l q d : ℕ) (w : List ℕ) {b w₁ w₂ w₃ : List ℕ} → length b ≡ need l q → length w ≡ d → d ≡ 24 + (12 * l + 824 * q)
    → w₁ ≡ splice w 0 (replicate d 0) → w₂ ≡ set w₁ 0 1 → w₃ ≡ set w₂ 1 l → words b ≡ set w₃ 2 q → Writes b (empty l q)
filled l q d w m n k e e₂ e₃ e₄ = record { long = m; words_are = e₄ ∙ rw (e₃, e₂, e, cleared w d n, parted l q d k) (empty-words l q) }
