-- What the header of a sound store says: L, Q and the announcements held.
use Prim.Native.Nat.{ℕ, ◌*◌, ◌≤◌}
use mathlib.Core.Path.{◌≡◌, sym, ap, ◌∙◌}
use mathlib.Core.List.{List}
use native.Mathlib.Omega.{arith}
use lib.ListN.{length, drop, get_or}
use Rattle.words.specs.Words.{words}
use Rattle.words.proofs.Records.{length-recs}
use Rattle.regions.specs.Rows.{row_size, read_row}
use Rattle.machine.specs.Limits.{need}
use Rattle.machine.specs.State.{State}
use Rattle.machine.specs.Table.{held}
use Rattle.store.specs.Flat.{Flat, flat_of}
use Rattle.store.specs.Image.{head_size, image, SoundStore, need_of}
use Rattle.store.specs.Read.{head_in, flat_in, state_of}
use Rattle.store.proofs.Counts.{held-rows}
use Rattle.store.proofs.ToFlat.{flat_sound}
use Rattle.store.proofs.FlatRead.{flat_read}
use Rattle.store.proofs.Stored.{words_front, state-shown}

module _ (b : List ℕ) (w : SoundStore b) where
  -- ---- the header's figures

  pub limit-word : get_or (words b) 1 0 ≡ w.state.limit
  unfolding state_of flat_in head_in
  limit-word = ap (λ (s : State). s.limit) (state-shown b w)

  pub places-word : get_or (words b) 2 0 ≡ w.state.places
  unfolding state_of flat_in head_in
  places-word = ap (λ (s : State). s.places) (state-shown b w)

  pub held_word : get_or (words b) 3 0 ≡ held w.state.table
  unfolding flat_in image
  held_word =
      sym (length-recs row_size read_row (get_or (words b) 3 0) (drop head_size (words b)))
      ∙ ap (λ (f : Flat). length f.rows) (ap flat_in (words_front b w.state w.writes) ∙ flat_read (flat_of w.state) (words (drop (need_of w.state) b)) (flat_sound w.state w.sound))
      ∙ held-rows w.state.table

  -- ---- the sizes

  pub head-inside : 8 * head_size ≤ length b
  unfolding need
  head-inside = omega (arith, w.long)
