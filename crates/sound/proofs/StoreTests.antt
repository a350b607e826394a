-- Bytes are a sound store exactly if the header and the three regions pass their tests.
use Prim.Native.Nat.{ℕ, zero, suc, ◌+◌, ◌-◌, ◌*◌, ◌≤◌, ◌<◌}
use mathlib.Core.Path.{◌≡◌, refl, sym, ap, ◌∙◌}
use mathlib.Core.List.{List, ◌++◌, append_assoc}
use native.Mathlib.Omega.{arith}
use mir.Syntax.{w8}
use mir.Val.{Fits}
use lib.ListN.{length, take, drop, get_or, length-drop}
use lib.Seq.{take-add, take_at, drop_at, drop-drop, length-take-le}
use Rattle.ident.specs.Number.{top}
use Rattle.words.specs.Words.{recs, words}
use Rattle.words.proofs.Records.{length-recs}
use Rattle.words.proofs.Words.{length-words}
use Rattle.words.proofs.Parts.{words_take}
use Rattle.regions.specs.Regions.{each, padded}
use Rattle.regions.specs.Rows.{row_size, read_row, row_words, conn_size, read_conn, conn_words, read_quad, quad_number}
use Rattle.regions.proofs.Regions.{length-padded, length_each}
use Rattle.places.specs.Places.{place_size, place_words}
use Rattle.places.proofs.Places.{length-place}
use Rattle.machine.specs.Limits.{word, need}
use Rattle.machine.specs.Sound.{PollFits, CursorFits}
use Rattle.store.specs.Flat.{Flat, flat_of}
use Rattle.store.specs.Gather.{state_in}
use Rattle.store.specs.FlatSound.{FlatSound}
use Rattle.store.specs.Image.{head_size, head_words, words_of, SoundStore}
use Rattle.store.specs.Read.{read_place, poll_is, cursor_is, cursor_at, head_in, flat_in}
use Rattle.store.proofs.Quads.{number-top}
use Rattle.store.proofs.ToFlat.{flat_sound}
use Rattle.store.proofs.FromFlat.{sound-state, flat_back}
use Rattle.store.proofs.HeadWords.{head-length}
use Rattle.store.proofs.WordsFit.{few_conns}
use Rattle.store.proofs.FlatRead.{length-image, flat_read}
use Rattle.store.proofs.Stored.{words_front}
use Rattle.sound.specs.Whole.{SizesPlain, HeadPlain, RecordsSound}
use Rattle.sound_rows.proofs.Decide.{Iff}
use Rattle.sound_rows.proofs.Ranges.{Below, below_bytes, below_words, below_take, below_drop, quad_ranges}
use Rattle.sound.proofs.HeadTests.{head_iff}
use Rattle.sound.proofs.Areas.{area_iff, rows_exact, conns_exact, recs-lent}

append_iff : (a b c d : List ℕ) → length a ≡ length c → Iff (a ++ b ≡ c ++ d) ((a ≡ c) × (b ≡ d))
append_iff a b c d e = record {
  to = λ q. (sym (take_at a b (length a) refl) ∙ ap (take (length a)) q ∙ take_at c d (length a) (sym e), sym (drop_at a b (length a) refl) ∙ ap (drop (length a)) q ∙ drop_at c d (length a) (sym e));
  from = λ p. rw (p.0, p.1);
}

poll-fits : (m n : ℕ) → n < word → PollFits (poll_is m n)
poll-fits zero n h = tt
poll-fits (suc m) n h = h

cursor-fits : (m h : ℕ) → h < top → CursorFits (cursor_is m h)
cursor-fits zero h l = tt
cursor-fits (suc zero) h l = l
cursor-fits (suc (suc m)) h l = l

-- ---- words with regions for L and Q, and n, c and q records in use

module _ (w : List ℕ) (b : Below word w) (L Q n c q : ℕ) (e_l : L ≡ get_or w 1 0) (e_q : Q ≡ get_or w 2 0) (en : n ≡ get_or w 3 0) (ec : c ≡ get_or w 4 0) (eq : q ≡ get_or w 5 0)
    (fn : n ≤ L) (fc : c ≤ L) (fq : q ≤ Q) (long : 24 + L * 9 + L * 3 + Q * 824 ≤ length w) where
  abbrev pub X : ℕ
  X = 24 + L * 9

  abbrev pub Y : ℕ
  Y = 24 + L * 9 + L * 3

  abbrev pub Z : ℕ
  Z = 24 + L * 9 + L * 3 + Q * 824

  abbrev pub R : List ℕ
  R = take (X - 24) (drop 24 w)

  abbrev pub C : List ℕ
  C = take (Y - X) (drop X w)

  abbrev pub P : List ℕ
  P = take (Z - Y) (drop Y w)

  length_part : (a e : ℕ) → a ≤ e → e ≤ length w → length (take (e - a) (drop a w)) ≡ e - a
  length_part a e h l = length-take-le (e - a) (drop a w) (simp length-drop (omega arith))

  lr : length R ≡ row_size * L
  lr = length_part 24 X (omega arith) (omega arith) ∙ omega arith

  lc : length C ≡ conn_size * L
  lc = length_part X Y (omega arith) (omega arith) ∙ omega arith

  lp : length P ≡ place_size * Q
  lp = length_part Y Z (omega arith) long ∙ omega arith

  abbrev flat : Flat
  flat = record { head = head_in w; rows = recs row_size read_row n R; conns = recs conn_size read_conn c C; places = recs place_size read_place q P }

  part_recs : {A : Type 0} (k : ℕ) (f : List ℕ → A) (m a e : ℕ) → k * m ≤ e - a → a ≤ e → e ≤ length w → recs k f m (drop a w) ≡ recs k f m (take (e - a) (drop a w))
  part_recs k f m a e h g l = sym (recs-lent k f m (e - a) (drop a w) h (simp length-drop (omega arith)))

  rows_is : recs row_size read_row (get_or w 3 0) (drop head_size w) ≡ recs row_size read_row n R
  rows_is = rw (← en) (part_recs row_size read_row n 24 X (omega arith) (omega arith) (omega arith))

  conns_is : recs conn_size read_conn (get_or w 4 0) (drop (head_size + row_size * get_or w 1 0) w) ≡ recs conn_size read_conn c C
  conns_is =
      let e : head_size + row_size * L ≡ X = omega arith in
      rw (← ec, ← e_l, e) (part_recs conn_size read_conn c X Y (omega arith) (omega arith) (omega arith))

  places_is : recs place_size read_place (get_or w 5 0) (drop (head_size + (row_size + conn_size) * get_or w 1 0) w) ≡ recs place_size read_place q P
  places_is =
      let e : head_size + (row_size + conn_size) * L ≡ Y = omega arith in
      rw (← eq, ← e_l, e) (part_recs place_size read_place q Y Z (omega arith) (omega arith) long)

  flat_is : flat_in w ≡ flat
  unfolding flat_in
  flat_is = λ i. record { head = head_in w; rows = rows_is i; conns = conns_is i; places = places_is i }

  -- ---- the words, part by part

  parts : take Z w ≡ take 24 w ++ (R ++ (C ++ P))
  parts =
      let e₁ : Z ≡ 24 + (X - 24 + (Y - X + (Z - Y))) = omega arith in
      let e₂ : 24 + (X - 24) ≡ X = omega arith in
      let e₃ : X + (Y - X) ≡ Y = omega arith in
      ap (λ (k : ℕ). take k w) e₁
      ∙ take-add 24 (X - 24 + (Y - X + (Z - Y))) w
      ∙ ap (λ (u : List ℕ). take 24 w ++ u) (take-add (X - 24) (Y - X + (Z - Y)) (drop 24 w))
      ∙ rw (drop-drop (X - 24) 24 w, e₂, take-add (Y - X) (Z - Y) (drop X w), drop-drop (Y - X) X w, e₃)

  pub record Parts : Type 0 where
    pub head : take head_size w ≡ head_words (head_in w) n c q
    pub rows : R ≡ padded (length R) (each row_words (recs row_size read_row n R))
    pub conns : C ≡ padded (length C) (each conn_words (recs conn_size read_conn c C))
    pub places : P ≡ padded (length P) (each place_words (recs place_size read_place q P))

  abbrev image : List ℕ
  image = head_words (head_in w) n c q ++ (padded (length R) (each row_words (recs row_size read_row n R)) ++
      (padded (length C) (each conn_words (recs conn_size read_conn c C)) ++ padded (length P) (each place_words (recs place_size read_place q P))))

  image_is : words_of flat ≡ image
  unfolding words_of head_in
  image_is = rw (length-recs row_size read_row n R, length-recs conn_size read_conn c C, length-recs place_size read_place q P, ← e_l, ← e_q, lr, lc, lp)

  parts_iff : Iff (take Z w ≡ words_of flat) Parts
  parts_iff =
      let l₁ : length (take 24 w) ≡ length (head_words (head_in w) n c q) = length-take-le 24 w (omega arith) ∙ sym (head-length (head_in w) n c q) in
      let i₁ = append_iff (take 24 w) (R ++ (C ++ P)) (head_words (head_in w) n c q) _ l₁ in
      let i₂ = append_iff R (C ++ P) _ (padded (length C) (each conn_words (recs conn_size read_conn c C)) ++ padded (length P) (each place_words (recs place_size read_place q P)))
      (sym (length-padded (length R) (each row_words (recs row_size read_row n R)))) in
      let i₃ = append_iff C P _ (padded (length P) (each place_words (recs place_size read_place q P))) (sym (length-padded (length C) (each conn_words (recs conn_size read_conn c C)))) in
      record {
        to = λ e.
            let d₁ = i₁.to (sym parts ∙ e ∙ image_is) in
            let d₂ = i₂.to d₁.1 in
            let d₃ = i₃.to d₂.1 in
            record { head = d₁.0; rows = d₂.0; conns = d₃.0; places = d₃.1 };
        from = λ d. parts ∙ i₁.from (d.head, i₂.from (d.rows, i₃.from (d.conns, d.places))) ∙ sym image_is;
      }

  -- ---- flat states that are sound

  rb : Below word R
  rb = below_take word (X - 24) (drop 24 w) (omega arith) (below_drop word 24 w b)

  cb : Below word C
  cb = below_take word (Y - X) (drop X w) (omega arith) (below_drop word X w b)

  length-rows : length (each row_words (recs row_size read_row n R)) ≡ row_size * n
  length-rows = ap length (sym (rows_exact n R (omega (arith, lr)) rb)) ∙ length-take-le (row_size * n) R (omega (arith, lr))

  length-conns : length (each conn_words (recs conn_size read_conn c C)) ≡ conn_size * c
  length-conns = ap length (sym (conns_exact c C (omega (arith, lc)) cb)) ∙ length-take-le (conn_size * c) C (omega (arith, lc))

  length-places : length (each place_words (recs place_size read_place q P)) ≡ place_size * q
  length-places = length_each place_size place_words length-place (recs place_size read_place q P) ∙ rw (length-recs place_size read_place q P)

  known_top : CursorFits (cursor_at (drop 8 w))
  known_top = cursor-fits (get_or (drop 8 w) 0 0) (quad_number (read_quad (drop 1 (drop 8 w))))
      (number-top (read_quad (drop 1 (drop 8 w))) (quad_ranges (drop 1 (drop 8 w)) (below_drop word 1 (drop 8 w) (below_drop word 8 w b))))

  ready-top : CursorFits (cursor_at (drop 13 w))
  ready-top = cursor-fits (get_or (drop 13 w) 0 0) (quad_number (read_quad (drop 1 (drop 13 w))))
      (number-top (read_quad (drop 1 (drop 13 w))) (quad_ranges (drop 1 (drop 13 w)) (below_drop word 1 (drop 13 w) (below_drop word 13 w b))))

  flat_made : SizesPlain w → RecordsSound R n C c P q → FlatSound flat
  unfolding head_in
  flat_made z s = record {
    some_limit = z.some_limit;
    most-limit = z.most-limit;
    some_place = z.some_place;
    most-places = z.most-places;
    poll = poll-fits (get_or w 6 0) (get_or w 7 0) (b 7);
    known = known_top;
    ready = ready-top;
    rows_few = rw (length-recs row_size read_row n R) (omega (arith, z.rows_few));
    rows_fit = s.rows.fit;
    ascending = s.rows.ascending;
    marks = s.rows.marks;
    alternates = s.groups.alternates;
    once = s.groups.once;
    single = s.groups.single;
    conns = s.conns.tally;
    conns-fit = s.conns.fit;
    places_few = rw (length-recs place_size read_place q P) (omega (arith, z.places_few));
    places-ascend = s.places.ascend;
    places-fit = s.places.fit;
  }

  sizes_same : (k n : ℕ) → n * k ≡ k * n
  sizes_same k n = native.Mathlib.Nat.mul_comm n k

  pub records-parts : HeadPlain w → RecordsSound R n C c P q → Parts
  records-parts h s = record {
    head = (head_iff w (omega arith) b n c q).from
        (record { format_is = h.sizes.format_is; rows_is = sym en; conns_is = sym ec; places_is = sym eq; poll = h.poll; known = h.known; ready = h.ready; spare = h.spare });
    rows = (area_iff R _ (row_size * n) length-rows (omega (arith, lr))).from (rows_exact n R (omega (arith, lr)) rb, rw (sizes_same row_size n) at s.rows-zero);
    conns = (area_iff C _ (conn_size * c) length-conns (omega (arith, lc))).from (conns_exact c C (omega (arith, lc)) cb, rw (sizes_same conn_size c) at s.conns-zero);
    places = (area_iff P _ (place_size * q) length-places (omega (arith, lp))).from (s.places.words_are, rw (sizes_same place_size q) at s.places-zero);
  }

  pub parts-records : FlatSound flat → Parts → RecordsSound R n C c P q
  parts-records f d = record {
    rows = record { fit = f.rows_fit; ascending = f.ascending; marks = f.marks };
    groups = record { alternates = f.alternates; once = f.once; single = f.single };
    conns = record { tally = f.conns; fit = f.conns-fit };
    places = record { words_are = ((area_iff P _ (place_size * q) length-places (omega (arith, lp))).to d.places).0; fit = f.places-fit; ascend = f.places-ascend };
    rows-zero = rw (sizes_same row_size n) ((area_iff R _ (row_size * n) length-rows (omega (arith, lr))).to d.rows).1;
    conns-zero = rw (sizes_same conn_size c) ((area_iff C _ (conn_size * c) length-conns (omega (arith, lc))).to d.conns).1;
    places-zero = rw (sizes_same place_size q) ((area_iff P _ (place_size * q) length-places (omega (arith, lp))).to d.places).1;
  }

  pub flat_iff : HeadPlain w → Iff (RecordsSound R n C c P q) (FlatSound (flat_in w) × (take Z w ≡ words_of (flat_in w)))
  flat_iff h = record {
    to = λ s. rw flat_is (flat_made h.sizes s, parts_iff.from (records-parts h s));
    from = λ d. let d' : FlatSound flat × (take Z w ≡ words_of flat) = rw flat_is at d in parts-records d'.0 (parts_iff.to d'.1);
  }

-- ---- a sound store

-- what the words of a sound store begin with
record Begins (b : List ℕ) : Type 0 where
  flat : Flat
  sound : FlatSound flat
  long : need flat.head.limit flat.head.places ≤ length b
  behind : List ℕ
  words_are : words b ≡ words_of flat ++ behind
  read : flat_in (words b) ≡ flat

begins : (b : List ℕ) → SoundStore b → Begins b
begins b s = record {
  flat = flat_of s.state;
  sound = flat_sound s.state s.sound;
  long = s.long;
  behind = words (drop (need s.state.limit s.state.places) b);
  words_are = e;
  read = ap flat_in e ∙ flat_read (flat_of s.state) _ (flat_sound s.state s.sound);
}
  where
    e : words b ≡ words_of (flat_of s.state) ++ words (drop (need s.state.limit s.state.places) b)
    e = words_front b s.state s.writes ∙ unfold Rattle.store.specs.Image.image in refl

module _ (w : List ℕ) where
  limit_is : (flat_in w).head.limit ≡ get_or w 1 0
  unfolding flat_in head_in
  limit_is = refl

  places-in : (flat_in w).head.places ≡ get_or w 2 0
  unfolding flat_in head_in
  places-in = refl

  head_in_lem : (flat_in w).head ≡ head_in w
  unfolding flat_in
  head_in_lem = refl

  rows_in_lem : length (flat_in w).rows ≡ get_or w 3 0
  unfolding flat_in
  rows_in_lem = length-recs row_size read_row (get_or w 3 0) _

  conns-in : length (flat_in w).conns ≡ get_or w 4 0
  unfolding flat_in
  conns-in = length-recs conn_size read_conn (get_or w 4 0) _

  held_in : length (flat_in w).places ≡ get_or w 5 0
  unfolding flat_in
  held_in = length-recs place_size read_place (get_or w 5 0) _

need_is : (L Q : ℕ) → need L Q ≡ 8 * (24 + L * 9 + L * 3 + Q * 824)
unfolding need
need_is L Q = omega arith

module _ (b : List ℕ) (g : Begins b) where
  abbrev w : List ℕ
  w = words b

  limit_of : get_or w 1 0 ≡ g.flat.head.limit
  limit_of = sym (limit_is w) ∙ ap (λ (f : Flat). f.head.limit) g.read

  places_of : get_or w 2 0 ≡ g.flat.head.places
  places_of = sym (places-in w) ∙ ap (λ (f : Flat). f.head.places) g.read

  rows-of : get_or w 3 0 ≡ length g.flat.rows
  rows-of = sym (rows_in_lem w) ∙ ap (λ (f : Flat). length f.rows) g.read

  conns-of : get_or w 4 0 ≡ length g.flat.conns
  conns-of = sym (conns-in w) ∙ ap (λ (f : Flat). length f.conns) g.read

  held_of : get_or w 5 0 ≡ length g.flat.places
  held_of = sym (held_in w) ∙ ap (λ (f : Flat). length f.places) g.read

  head_of : head_in w ≡ g.flat.head
  head_of = sym (head_in_lem w) ∙ ap (λ (f : Flat). f.head) g.read

  length_of : length (words_of g.flat) ≡ 24 + get_or w 1 0 * 9 + get_or w 1 0 * 3 + get_or w 2 0 * 824
  length_of = rw (limit_of, places_of) (omega (arith, length-image g.flat, need_is g.flat.head.limit g.flat.head.places))

  long_of : 8 * (24 + get_or w 1 0 * 9 + get_or w 1 0 * 3 + get_or w 2 0 * 824) ≤ length b
  long_of = rw (limit_of, places_of) (omega (arith, g.long, need_is g.flat.head.limit g.flat.head.places))

  -- the header
  front_of : take head_size w ≡ head_words (head_in w) (get_or w 3 0) (get_or w 4 0) (get_or w 5 0)
  unfolding words_of
  front_of =
      let f : Flat = g.flat in
      let H : List ℕ = head_words f.head (length f.rows) (length f.conns) (length f.places) in
      ap (take head_size) (g.words_are ∙ append_assoc H _ g.behind) ∙ take_at H _ head_size (head-length f.head (length f.rows) (length f.conns) (length f.places)) ∙
      rw (head_of, rows-of, conns-of, held_of)

  head_plain : Below word w → HeadPlain w
  head_plain p =
      let h = (head_iff w (omega (arith, long_of, length-words b)) p (get_or w 3 0) (get_or w 4 0) (get_or w 5 0)).to front_of in
      let s = g.sound in
      record {
        sizes = record {
          format_is = h.format_is;
          some_limit = rw limit_of s.some_limit;
          most-limit = rw limit_of s.most-limit;
          some_place = rw places_of s.some_place;
          most-places = rw places_of s.most-places;
          rows_few = rw (rows-of, limit_of) s.rows_few;
          conns_few = rw (conns-of, limit_of) (few_conns g.flat s);
          places_few = rw (held_of, places_of) s.places_few;
        };
        poll = h.poll;
        known = h.known;
        ready = h.ready;
        spare = h.spare;
      }

  flat-of : FlatSound (flat_in w) × (take (24 + get_or w 1 0 * 9 + get_or w 1 0 * 3 + get_or w 2 0 * 824) w ≡ words_of (flat_in w))
  flat-of = (
    rw g.read g.sound,
    rw g.read (ap (take (24 + get_or w 1 0 * 9 + get_or w 1 0 * 3 + get_or w 2 0 * 824)) g.words_are ∙
        take_at (words_of g.flat) g.behind (24 + get_or w 1 0 * 9 + get_or w 1 0 * 3 + get_or w 2 0 * 824) length_of),
  )

-- ---- the tests, in the code's order

pub refuse_short : (b : List ℕ) → length b < 192 → SoundStore b → ⊥
refuse_short b h s = omega (arith, long_of b (begins b s))

pub refuse_long : (b : List ℕ) (L Q : ℕ) → L ≡ get_or (words b) 1 0 → Q ≡ get_or (words b) 2 0 → length b < (24 + L * 9 + L * 3 + Q * 824) * 8 → SoundStore b → ⊥
refuse_long b L Q e_l e_q h s = omega (arith, rw (← e_l, ← e_q) at (long_of b (begins b s)))

module _ (b : List ℕ) (t : (i : ℕ) → Fits w8 (get_or b i 0)) where
  p : Below word (words b)
  p = below_words b (below_bytes b t)

  pub refuse_head : (HeadPlain (words b) → ⊥) → SoundStore b → ⊥
  refuse_head n s = n (head_plain b (begins b s) p)

  module _ (L Q : ℕ) (e_l : L ≡ get_or (words b) 1 0) (e_q : Q ≡ get_or (words b) 2 0) where
    module _ (n c q : ℕ) (en : n ≡ get_or (words b) 3 0) (ec : c ≡ get_or (words b) 4 0) (eq : q ≡ get_or (words b) 5 0) (h : HeadPlain (words b))
        (long : (24 + L * 9 + L * 3 + Q * 824) * 8 ≤ length b) where
      long-words : 24 + L * 9 + L * 3 + Q * 824 ≤ length (words b)
      long-words = omega (arith, length-words b)

      few_rows : n ≤ L
      few_rows = rw (en, e_l) h.sizes.rows_few

      few_conn : c ≤ L
      few_conn = rw (ec, e_l) h.sizes.conns_few

      few_place : q ≤ Q
      few_place = rw (eq, e_q) h.sizes.places_few

      abbrev state : Type 0
      state = FlatSound (flat_in (words b)) × (take (24 + L * 9 + L * 3 + Q * 824) (words b) ≡ words_of (flat_in (words b)))

      store_made : state → SoundStore b
      store_made d =
          let f : Flat = flat_in (words b) in
          let z : need f.head.limit f.head.places ≡ 8 * (24 + L * 9 + L * 3 + Q * 824) = rw (limit_is (words b), places-in (words b), ← e_l, ← e_q) (need_is L Q) in
          let m : need f.head.limit f.head.places ≤ length b = omega arith in
          record {
            state = state_in f;
            sound = sound-state f d.0;
            long = m;
            writes = record {
              long = length-take-le (need f.head.limit f.head.places) b m;
              words_are = rw z (words_take b (24 + L * 9 + L * 3 + Q * 824) (omega arith) ∙ d.1 ∙ ap words_of (sym (flat_back f d.0)));
            };
          }

      store-flat : SoundStore b → state
      store-flat s = rw (e_l, e_q) (flat-of b (begins b s))

      pub store_iff : Iff (RecordsSound (take (24 + L * 9 - 24) (drop 24 (words b))) n (take (24 + L * 9 + L * 3 - (24 + L * 9)) (drop (24 + L * 9) (words b))) c
          (take (24 + L * 9 + L * 3 + Q * 824 - (24 + L * 9 + L * 3)) (drop (24 + L * 9 + L * 3) (words b))) q) (SoundStore b)
      store_iff =
          let i = flat_iff (words b) p L Q n c q e_l e_q en ec eq few_rows few_conn few_place long-words h in
          record { to = λ r. store_made (i.to r); from = λ s. i.from (store-flat s) }

-- for the tactic
pub ruleset refusals = (refuse_short, refuse_head, refuse_long)

pub ruleset long = (length-words)
