-- What the passes say of the state that a listing lists: whether it is sound, but for how often a connection comes.
use Prim.Native.Nat.{ℕ, ◌<◌, ◌≤◌}
use mathlib.Core.Path.{◌≡◌, refl, sym, ap, ◌∙◌}
use mathlib.Core.Bool.{Bool, true, false, ◌&&◌}
use mathlib.Core.List.{List}
use mathlib.Core.Option.{Option, none, some}
use lib.Dec.{leb}
use borrow.Author.Tests.{lt-ltb, leb-true}
use Rattle.ident.specs.Number.{top, Key}
use Rattle.machine.specs.Limits.{Limits, max_alternates, word}
use Rattle.machine.specs.State.{Table, State, limits_of, KeyTyped}
use Rattle.machine.specs.Table.{held, places_held}
use Rattle.machine.specs.Sound.{Ordered}
use Rattle.machine.specs.SoundTest.{poll_fits, cursor_fits, sizes_fit, is_sound, is_ordered, every, is_filled, is_lawful}
use Rattle.machine.specs.Listing.{Whenever, StateListed}
use Rattle.machine.proofs.Tests.{and_left, and_right}
use Rattle.machine.proofs.Listings.{read_listed}
use Rattle.machine.proofs.SoundTest.{test-ordered}
use Rattle.listed_lines.specs.declared.line.Head as line-head
use Rattle.listed_lines.specs.Given.{head_state}
use Rattle.listed_form.specs.Given.{Reads}
use Rattle.listed_requests.specs.Parts.{head_fits, uncrowded, local_fits, pairs_fit, counts_fit, together_fit}
use Rattle.listed_requests.specs.Given.{EachFits}
use Rattle.listed_requests.proofs.Together.{together_is}
use Rattle.listed_pairs.specs.Given.{PairsFit}

-- ---- the first line

poll-fits : (p : Option ℕ) → Whenever (λ n. n < word) p → poll_fits p ≡ true
poll-fits none l = refl
poll-fits (some n) l = lt-ltb n word l

cursor-fits : (k : Option Key) → Whenever KeyTyped k → cursor_fits k ≡ true
cursor-fits none l = refl
cursor-fits (some k) l = lt-ltb k.hash top l

and-true : (x : Bool) → (x && true) ≡ x
and-true true = refl
and-true false = refl

and-false : (x : Bool) → (x && false) ≡ false
and-false true = refl
and-false false = refl

-- the first line of a listing has no number that is out of its range but L and Q
head_is : (s : State) → StateListed s → head_fits s ≡ sizes_fit s
head_is s l =
    ap (λ (x : Bool). sizes_fit s && (x && (cursor_fits s.known_cursor && cursor_fits s.ready_cursor))) (poll-fits s.next_poll l.head.poll)
    ∙ ap (λ (x : Bool). sizes_fit s && (x && cursor_fits s.ready_cursor)) (cursor-fits s.known_cursor l.head.known)
    ∙ ap (λ (x : Bool). sizes_fit s && x) (cursor-fits s.ready_cursor l.head.ready) ∙ and-true (sizes_fit s)

-- ---- what a table that passes has

module _ (m : Limits) (Q : ℕ) (t : Table) (e : local_fits m Q t ≡ true) where
  shape_true : (is_ordered 0 t && (every is_filled t && every is_lawful t)) ≡ true
  unfolding local_fits
  shape_true = and_left (is_ordered 0 t && (every is_filled t && every is_lawful t)) _ e

  pub in_order : Ordered 0 t
  in_order = (test-ordered 0 t).holds (and_left (is_ordered 0 t) (every is_filled t && every is_lawful t) shape_true)

  pub all_filled : every is_filled t ≡ true
  all_filled = and_left (every is_filled t) (every is_lawful t) (and_right (is_ordered 0 t) (every is_filled t && every is_lawful t) shape_true)

  pub all_lawful : every is_lawful t ≡ true
  all_lawful = and_right (every is_filled t) (every is_lawful t) (and_right (is_ordered 0 t) (every is_filled t && every is_lawful t) shape_true)

  pub all_few : every (uncrowded m.alternates) t ≡ true
  unfolding local_fits
  all_few = and_left (every (uncrowded m.alternates) t) _ (and_right (is_ordered 0 t && (every is_filled t && every is_lawful t)) _ e)

  pub held_within : held t ≤ m.announcements
  unfolding local_fits
  held_within =
      leb-true (held t) m.announcements
      (and_left (leb (held t) m.announcements) (leb (places_held t) Q)
      (and_right (every (uncrowded m.alternates) t) _ (and_right (is_ordered 0 t && (every is_filled t && every is_lawful t)) _ e)))

-- ---- the listing

module _ {b : List ℕ} {h : line-head.Head} {e : ℕ} (v : Reads b h e) where
  abbrev state : State
  state = v.state

  listed : StateListed state
  listed = read_listed b state v.read

  sizes-are : sizes_fit state ≡ sizes_fit (head_state h)
  sizes-are = ap sizes_fit v.head

  sound_is : is_sound state
      ≡ (sizes_fit (head_state h) && (local_fits (limits_of state) state.places state.table && (pairs_fit max_alternates state.table state.table && counts_fit state.table)))
  unfolding together_fit
  sound_is =
      together_is state
      ∙ ap (λ (x : Bool). x && (local_fits (limits_of state) state.places state.table && (pairs_fit max_alternates state.table state.table && counts_fit state.table)))
      (head_is state listed ∙ sizes-are)

  -- each request by itself, within the first line's L and Q
  module _ {x : Bool} (a : EachFits b e h.limit h.places x) where
    each_is : x ≡ local_fits (limits_of state) state.places state.table
    each_is =
        a.is state.table v.body listed.table
        ∙ ap (λ (s : State). local_fits (limits_of s) s.places state.table) (sym v.head)

  pub unsized : sizes_fit (head_state h) ≡ false → is_sound state ≡ false
  unsized d =
      sound_is ∙ ap (λ (x : Bool). x && (local_fits (limits_of state) state.places state.table && (pairs_fit max_alternates state.table state.table && counts_fit state.table))) d

  pub not_each : EachFits b e h.limit h.places false → is_sound state ≡ false
  not_each a =
      sound_is
      ∙ ap (λ (x : Bool). sizes_fit (head_state h) && (x && (pairs_fit max_alternates state.table state.table && counts_fit state.table))) (sym (each_is a)) ∙ and-false (sizes_fit (head_state h))

  module _ (a : EachFits b e h.limit h.places true) where
    pub passed : local_fits (limits_of state) state.places state.table ≡ true
    passed = sym (each_is a)

    pub lawful : every is_lawful state.table ≡ true
    lawful = all_lawful (limits_of state) state.places state.table passed

    pairs-are : {y : Bool} → PairsFit b e y → y ≡ pairs_fit max_alternates state.table state.table
    pairs-are p =
        p.is state.table v.body (in_order (limits_of state) state.places state.table passed) (all_few (limits_of state) state.places state.table passed)

    left_is : is_sound state ≡ (sizes_fit (head_state h) && (pairs_fit max_alternates state.table state.table && counts_fit state.table))
    left_is = sound_is ∙ ap (λ (x : Bool). sizes_fit (head_state h) && (x && (pairs_fit max_alternates state.table state.table && counts_fit state.table))) passed

    pub not_pairs : PairsFit b e false → is_sound state ≡ false
    not_pairs p = left_is ∙ ap (λ (x : Bool). sizes_fit (head_state h) && (x && counts_fit state.table)) (sym (pairs-are p)) ∙ and-false (sizes_fit (head_state h))

    -- what is left is how often a connection comes
    pub by_counts : sizes_fit (head_state h) ≡ true → PairsFit b e true → is_sound state ≡ counts_fit state.table
    by_counts d p =
        left_is ∙ ap (λ (x : Bool). sizes_fit (head_state h) && (x && counts_fit state.table)) (sym (pairs-are p)) ∙ ap (λ (x : Bool). x && counts_fit state.table) d
