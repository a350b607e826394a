-- Next poll and cursors of the state that bytes write: as the header's words have them, and with others in their place.
use Prim.Native.Nat.{ℕ, ◌+◌}
use mathlib.Core.Path.{◌≡◌, sym, ap, subst, ◌∙◌}
use mathlib.Core.Bool.{Bool}
use mathlib.Core.List.{List, ◌++◌}
use mathlib.Core.Option.{Option}
use lib.ListN.{length, get_or}
use Rattle.std.specs.Prelude as rust
use Rattle.ident.specs.declared.Key.{Key as KeyRead}
use Rattle.ident.specs.Number.{Key}
use Rattle.ident.specs.Words.{maybe_key_num}
use Rattle.words.specs.Words.{words, splice}
use Rattle.machine.specs.State.{State, with_next_poll, with_known_cursor, with_ready_cursor}
use Rattle.machine.specs.Wrapper.{due_at, next_poll_after}
use Rattle.store.specs.Flat.{Head, Flat, flat_of}
use Rattle.store.specs.Image.{poll_words, cursor_words, head_words, Writes}
use Rattle.store.specs.Read.{poll_is, head_in}
use Rattle.store.proofs.Frame.{row_part, conn_part, place_part, framed_is, words_framed}
use Rattle.store.proofs.HeadWords.{poll-words, cursor-words, in_words, head-words, head_back}
use Rattle.cursors.specs.declared.Cursors.{Cursors}
use Rattle.cursors.specs.Numbers.{Numbers, time_num, numbers_of, cursors_of, with_cursors, with_known, gate_at, Loads, Saves}
use Rattle.cursors.specs.InWords.{poll_at, known_at, ready_at, cursor_in, written, ReadyMoved}

-- ---- the header

abbrev with_numbers : Numbers → Head → Head
with_numbers n h = record { limit = h.limit; places = h.places; next_poll = n.next; known_cursor = n.known; ready_cursor = n.ready }

module _ (h : Head) (rows conns places : ℕ) (z : List ℕ) where
  abbrev W : List ℕ
  W = in_words h rows conns places ++ z

  back : head_in W ≡ h
  back = ap (λ (w : List ℕ). head_in (w ++ z)) (sym (head-words h rows conns places)) ∙ head_back h rows conns places z

  next_in : poll_is (get_or W 6 0) (get_or W 7 0) ≡ h.next_poll
  unfolding head_in
  next_in = ap (λ (x : Head). x.next_poll) back

  known_in : cursor_in W known_at ≡ h.known_cursor
  unfolding head_in
  known_in = ap (λ (x : Head). x.known_cursor) back

  ready_in : cursor_in W ready_at ≡ h.ready_cursor
  unfolding head_in
  ready_in = ap (λ (x : Head). x.ready_cursor) back

  -- other words in the header
  over : (n : Numbers) → splice (splice (splice (head_words h rows conns places ++ z) poll_at (poll_words n.next)) known_at (cursor_words n.known)) ready_at (cursor_words n.ready) ≡ head_words
      (with_numbers n h) rows conns places ++ z
  unfolding splice
  over n = rw (head-words h rows conns places, head-words (with_numbers n h) rows conns places, poll-words n.next, cursor-words n.known, cursor-words n.ready)

  over_ready : (k : Option Key) → splice (head_words h rows conns places ++ z) ready_at (cursor_words k) ≡ head_words
      (with_numbers (record { next = h.next_poll; known = h.known_cursor; ready = k }) h) rows conns places ++ z
  unfolding splice
  over_ready k = rw (head-words h rows conns places, head-words (with_numbers (record { next = h.next_poll; known = h.known_cursor; ready = k }) h) rows conns places, cursor-words k)

-- ---- bytes

-- the words behind the header
abbrev behind : Flat → List ℕ
behind f = row_part f.head.limit f.rows ++ (conn_part f.head.limit f.conns ++ place_part f.head.places f.places)

pub loads : {b : List ℕ} (c : Cursors) → time_num c.next ≡ poll_is (get_or (words b) poll_at 0) (get_or (words b) (poll_at + 1) 0) → maybe_key_num c.known ≡ cursor_in (words b) known_at
    → maybe_key_num c.ready ≡ cursor_in (words b) ready_at → Loads b c
loads {b} c en ek er s w =
    let h = (flat_of s).head in
    let a = length (flat_of s).rows in
    let d = length (flat_of s).conns in
    let q = length (flat_of s).places in
    let z = behind (flat_of s) in
    let e : words b ≡ in_words h a d q ++ z = words_framed w ∙ ap (λ (x : List ℕ). x ++ z) (head-words h a d q) in
    let n : time_num c.next ≡ s.next_poll = en ∙ ap (λ (x : List ℕ). poll_is (get_or x 6 0) (get_or x 7 0)) e ∙ next_in h a d q z in
    let k : maybe_key_num c.known ≡ s.known_cursor = ek ∙ ap (λ (x : List ℕ). cursor_in x known_at) e ∙ known_in h a d q z in
    let y : maybe_key_num c.ready ≡ s.ready_cursor = er ∙ ap (λ (x : List ℕ). cursor_in x ready_at) e ∙ ready_in h a d q z in
    (λ i. record { next = n i; known = k i; ready = y i })

pub saves : {b b' : List ℕ} (c : Cursors) → length b' ≡ length b → words b' ≡ written c (words b) → Saves b b' c
saves {b} {b'} c l e s w =
    let h = (flat_of s).head in
    let a = length (flat_of s).rows in
    let d = length (flat_of s).conns in
    let q = length (flat_of s).places in
    record {
      long = l ∙ w.long;
      words_are = e ∙ rw (words_framed w) (over h a d q (behind (flat_of s)) (numbers_of c)) ∙ sym (framed_is (flat_of (with_cursors (numbers_of c) s)));
    }

-- ---- a cursor by itself

module _ {b : List ℕ} (s : State) (w : Writes b s) where
  abbrev flat : Flat
  flat = flat_of s

  abbrev headed : List ℕ
  headed = in_words flat.head (length flat.rows) (length flat.conns) (length flat.places) ++ behind flat

  in_head : words b ≡ headed
  in_head = words_framed w ∙ ap (λ (x : List ℕ). x ++ behind flat) (head-words flat.head (length flat.rows) (length flat.conns) (length flat.places))

  pub known_read : cursor_in (words b) known_at ≡ s.known_cursor
  known_read = ap (λ (x : List ℕ). cursor_in x known_at) in_head ∙ known_in flat.head (length flat.rows) (length flat.conns) (length flat.places) (behind flat)

  pub ready_read : cursor_in (words b) ready_at ≡ s.ready_cursor
  ready_read = ap (λ (x : List ℕ). cursor_in x ready_at) in_head ∙ ready_in flat.head (length flat.rows) (length flat.conns) (length flat.places) (behind flat)

pub ready_moved : {b b' : List ℕ} (c : rust.Option KeyRead) → length b' ≡ length b → words b' ≡ splice (words b) ready_at (cursor_words (maybe_key_num c)) → ReadyMoved b b' c
ready_moved {b} {b'} c l e k t s w =
    let f = flat_of s in
    record {
      long = l ∙ w.long;
      words_are = e ∙ rw (t, words_framed w) (over_ready f.head (length f.rows) (length f.conns) (length f.places) (behind f) k) ∙ sym (framed_is (flat_of (with_ready_cursor k s)));
    }

-- ---- a record loaded, changed and saved

module _ {b b' : List ℕ} (c c' : Cursors) (l : Loads b c) (v : Saves b b' c') (s : State) (w : Writes b s) where
  saved : (g : Numbers → Numbers) → numbers_of c' ≡ g (numbers_of c) → Writes b' (with_cursors (g (cursors_of s)) s)
  saved g e = subst (λ (n : Numbers). Writes b' (with_cursors n s)) (e ∙ ap g (l s w)) (v s w)

  -- the poll gate
  pub gated : (clock : ℕ) (r : Bool) → r ≡ due_at clock (time_num c.next) → numbers_of c' ≡ gate_at clock (numbers_of c) → (r ≡ due_at clock s.next_poll) × Writes b'
      (with_next_poll (next_poll_after clock s.next_poll) s)
  gated clock r d e = (d ∙ ap (λ (n : Numbers). due_at clock n.next) (l s w), saved (gate_at clock) e)

  -- a cursor set
  pub known_saved : (k : Option Key) → numbers_of c' ≡ with_known k (numbers_of c) → Writes b' (with_known_cursor k s)
  known_saved k e = saved (with_known k) e
