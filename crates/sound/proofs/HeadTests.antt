-- The words of a header are those that the header read from them is written as, exactly if its tests pass.
use Prim.Native.Nat.{ℕ, zero, suc, ◌+◌, ◌≤◌}
use mathlib.Core.Path.{◌≡◌, refl, sym, ap, ◌∙◌}
use mathlib.Core.List.{List, [], ◌∷◌}
use native.Mathlib.Omega.{arith}
use lib.ListN.{length, take, drop, get_or, replicate}
use lib.Seq.{slice, drop-cons, drop-drop, get_or-drop}
use Rattle.words.proofs.Moves.{mid as drop-take}
use Rattle.regions.specs.declared.Quad.{Quad}
use Rattle.regions.specs.Rows.{read_quad, quad_number}
use Rattle.regions.proofs.Order.{zero_number}
use Rattle.machine.specs.Limits.{word}
use Rattle.store.specs.FlatSound.{QuadFits}
use Rattle.store.specs.Image.{format, head_size, head_words}
use Rattle.ident.specs.Number.{Key}
use mathlib.Core.Option.{Option}
use Rattle.store.specs.Read.{read_hash, poll_is, cursor_is, cursor_at, head_in}
use Rattle.store.proofs.HeadWords.{poll_tag, poll_time, tag_of, quad_in, in_words, head-words}
use Rattle.store.proofs.Quads.{quad-number}
use Rattle.sound.specs.Whole.{PollPlain, CursorPlain}
use Rattle.sound_rows.proofs.Decide.{Iff}
use Rattle.sound_rows.proofs.Ranges.{Below, below_drop, quad_ranges}
use Rattle.sound_rows.proofs.Quads.{same-quad}

-- ---- the words of a poll time and of a cursor

record PollWords (m n : ℕ) : Type 0 where
  tag : m ≡ poll_tag (poll_is m n)
  time : n ≡ poll_time (poll_is m n)

poll_iff : (m n : ℕ) → Iff (PollWords m n) (PollPlain m n)
poll_iff zero n = record { to = λ p. p.time; from = λ z. record { tag = refl; time = z } }
poll_iff (suc zero) n = record { to = λ p. tt; from = λ z. record { tag = refl; time = refl } }
poll_iff (suc (suc m)) n = record { to = λ p. let e : suc (suc m) ≡ 1 = p.tag in omega arith; from = λ z. absurd z }

record CursorWords (m : ℕ) (q : Quad) : Type 0 where
  tag : m ≡ tag_of (cursor_is m (quad_number q))
  quad : q ≡ quad_in (cursor_is m (quad_number q))

zeros-fit : QuadFits (record { w0 = 0; w1 = 0; w2 = 0; w3 = 0 })
zeros-fit = record { w0 = omega arith; w1 = omega arith; w2 = omega arith; w3 = omega arith }

cursor_iff : (m : ℕ) (q : Quad) → QuadFits q → Iff (CursorWords m q) (CursorPlain m (quad_number q))
cursor_iff zero q f = record {
  to = λ p. ap quad_number p.quad ∙ zero_number;
  from = λ z. record { tag = refl; quad = same-quad q (record { w0 = 0; w1 = 0; w2 = 0; w3 = 0 }) f zeros-fit (z ∙ sym zero_number) };
}
cursor_iff (suc zero) q f = record { to = λ p. tt; from = λ z. record { tag = refl; quad = sym (quad-number q f) } }
cursor_iff (suc (suc zero)) q f = record { to = λ p. tt; from = λ z. record { tag = refl; quad = sym (quad-number q f) } }
cursor_iff (suc (suc (suc m))) q f = record { to = λ p. let e : suc (suc (suc m)) ≡ 2 = p.tag in omega arith; from = λ z. absurd z }

-- ---- the header, word by word

-- the n words from a on
abbrev from : ℕ → ℕ → List ℕ → List ℕ
from zero a w = []
from (suc n) a w = get_or w a 0 ∷ from n (suc a) w

from_is : (n a : ℕ) (w : List ℕ) → a + n ≤ length w → take n (drop a w) ≡ from n a w
from_is zero a w h = refl
from_is (suc n) a w h = rw (drop-cons w a 0 (omega arith), from_is n (suc a) w (omega arith))

module _ (w : List ℕ) (l : head_size ≤ length w) (b : Below word w) (n c q : ℕ) where
  -- what the header's words say beside its sizes
  pub record HeadIs : Type 0 where
    pub format_is : get_or w 0 0 ≡ format
    pub rows_is : get_or w 3 0 ≡ n
    pub conns_is : get_or w 4 0 ≡ c
    pub places_is : get_or w 5 0 ≡ q
    pub poll : PollPlain (get_or w 6 0) (get_or w 7 0)
    pub known : CursorPlain (get_or w 8 0) (read_hash (drop 9 w))
    pub ready : CursorPlain (get_or w 13 0) (read_hash (drop 14 w))
    pub spare : slice 18 head_size w ≡ replicate 6 0

  cursor_of : (a : ℕ) → Iff (CursorWords (get_or w a 0) (read_quad (drop (a + 1) w))) (CursorPlain (get_or w a 0) (read_hash (drop (a + 1) w)))
  unfolding read_hash
  cursor_of a = cursor_iff (get_or w a 0) (read_quad (drop (a + 1) w)) (quad_ranges (drop (a + 1) w) (below_drop word (a + 1) w b))

  known_is : cursor_at (drop 8 w) ≡ cursor_is (get_or w 8 0) (quad_number (read_quad (drop 9 w)))
  known_is = rw (get_or-drop 8 w 0 0, drop-drop 1 8 w)

  ready_is : cursor_at (drop 13 w) ≡ cursor_is (get_or w 13 0) (quad_number (read_quad (drop 14 w)))
  ready_is = rw (get_or-drop 13 w 0 0, drop-drop 1 13 w)

  known_words : read_quad (drop 9 w) ≡ record { w0 = get_or w 9 0; w1 = get_or w 10 0; w2 = get_or w 11 0; w3 = get_or w 12 0 }
  known_words = rw (get_or-drop 9 w 0 0, get_or-drop 9 w 1 0, get_or-drop 9 w 2 0, get_or-drop 9 w 3 0)

  ready_words : read_quad (drop 14 w) ≡ record { w0 = get_or w 14 0; w1 = get_or w 15 0; w2 = get_or w 16 0; w3 = get_or w 17 0 }
  ready_words = rw (get_or-drop 14 w 0 0, get_or-drop 14 w 1 0, get_or-drop 14 w 2 0, get_or-drop 14 w 3 0)

  -- the words as `in_words` has them, for any poll time and cursors
  abbrev like : Option ℕ → Option Key → Option Key → List ℕ
  like p k r = in_words (record { limit = get_or w 1 0; places = get_or w 2 0; next_poll = p; known_cursor = k; ready_cursor = r }) n c q

  spare_is : slice 18 head_size w ≡ from 6 18 w
  spare_is = drop-take 18 6 w (omega arith) ∙ from_is 6 18 w (omega arith)

  head_is : head_words (head_in w) n c q ≡ like (poll_is (get_or w 6 0) (get_or w 7 0)) (cursor_is (get_or w 8 0) (quad_number (read_quad (drop 9 w))))
      (cursor_is (get_or w 13 0) (quad_number (read_quad (drop 14 w))))
  unfolding head_in
  head_is = head-words (head_in w) n c q ∙ rw (known_is, ready_is)

  pub head_iff : Iff (take head_size w ≡ head_words (head_in w) n c q) HeadIs
  head_iff = record { to = λ e. out (sym (from_is head_size 0 w l) ∙ e ∙ head_is); from = λ h. from_is head_size 0 w l ∙ back h ∙ sym head_is }
    where
      p : Option ℕ
      p = poll_is (get_or w 6 0) (get_or w 7 0)

      k : Option Key
      k = cursor_is (get_or w 8 0) (quad_number (read_quad (drop 9 w)))

      r : Option Key
      r = cursor_is (get_or w 13 0) (quad_number (read_quad (drop 14 w)))

      at : from head_size 0 w ≡ like p k r → (i : ℕ) → get_or (from head_size 0 w) i 0 ≡ get_or (like p k r) i 0
      at e i = ap (λ (u : List ℕ). get_or u i 0) e

      quad-of : (a b : Quad) → a.w0 ≡ b.w0 → a.w1 ≡ b.w1 → a.w2 ≡ b.w2 → a.w3 ≡ b.w3 → a ≡ b
      quad-of a b e f g h = λ i. record { w0 = e i; w1 = f i; w2 = g i; w3 = h i }

      out : from head_size 0 w ≡ like p k r → HeadIs
      out e = record {
        format_is = at e 0;
        rows_is = at e 3;
        conns_is = at e 4;
        places_is = at e 5;
        poll = (poll_iff (get_or w 6 0) (get_or w 7 0)).to (record { tag = at e 6; time = at e 7 });
        known = (cursor_of 8).to (record { tag = at e 8; quad = known_words ∙ quad-of _ (quad_in k) (at e 9) (at e 10) (at e 11) (at e 12) });
        ready = (cursor_of 13).to (record { tag = at e 13; quad = ready_words ∙ quad-of _ (quad_in r) (at e 14) (at e 15) (at e 16) (at e 17) });
        spare = spare_is ∙ ap (drop 18) e;
      }

      back : HeadIs → from head_size 0 w ≡ like p k r
      back h =
          let t = (poll_iff (get_or w 6 0) (get_or w 7 0)).from h.poll in
          let u = (cursor_of 8).from h.known in
          let v = (cursor_of 13).from h.ready in
          let e₆ : get_or w 6 0 ≡ poll_tag p = t.tag in
          let e₇ : get_or w 7 0 ≡ poll_time p = t.time in
          let e₈ : get_or w 8 0 ≡ tag_of k = u.tag in
          let e₁₃ : get_or w 13 0 ≡ tag_of r = v.tag in
          let x : record { w0 = get_or w 9 0; w1 = get_or w 10 0; w2 = get_or w 11 0; w3 = get_or w 12 0 } ≡ quad_in k = sym known_words ∙ u.quad in
          let y : record { w0 = get_or w 14 0; w1 = get_or w 15 0; w2 = get_or w 16 0; w3 = get_or w 17 0 } ≡ quad_in r = sym ready_words ∙ v.quad in
          let z : from 6 18 w ≡ replicate 6 0 = sym spare_is ∙ h.spare in
          λ i. h.format_is i ∷ get_or w 1 0 ∷ get_or w 2 0 ∷ h.rows_is i ∷ h.conns_is i ∷ h.places_is i ∷ e₆ i ∷ e₇ i ∷ e₈ i ∷ (x i).w0 ∷ (x i).w1 ∷ (x i).w2 ∷ (x i).w3 ∷ e₁₃ i ∷ (y i).w0 ∷
          (y i).w1 ∷ (y i).w2 ∷ (y i).w3 ∷ z i
