-- The first line, read from the header.
use Prim.Native.Nat.{ℕ, ◌+◌, ◌*◌, ◌≤◌}
use mathlib.Core.Path.{◌≡◌, sym, ap, ◌∙◌}
use mathlib.Core.List.{List, [], ◌∷◌}
use mathlib.Core.Option.{Option}
use native.Mathlib.Omega.{arith}
use lib.ListN.{length, get_or}
use Rattle.ident.specs.Number.{Key}
use Rattle.words.specs.Words.{words}
use Rattle.machine.specs.State.{State, on_table}
use Rattle.machine.specs.Sound.{Sound}
use Rattle.machine.specs.Text.{decimal}
use Rattle.machine.specs.Listing.{short, maybe_field, key_field, HeadLine}
use Rattle.store.specs.Flat.{Head, flat_of}
use Rattle.store.specs.Image.{head_size, Writes}
use Rattle.store.specs.Read.{poll_is, head_in}
use Rattle.store.proofs.Frame.{words_framed}
use Rattle.store.proofs.HeadWords.{head_back}
use Rattle.store.specs.Shown.{limit_at, places_at, Field, Kept}
use Rattle.requests.proofs.Keeping.{kept_shown}
use Rattle.std.specs.Prelude as rust
use Rattle.cursors.specs.Numbers.{time_num}
use Rattle.cursors.specs.InWords.{poll_at, known_at, ready_at, cursor_in}
use Rattle.cursors.proofs.InState.{known_read, ready_read}
use Rattle.saving.specs.Laid.{Lays, line_text}
use Rattle.saving.proofs.Laying.{lays_as, lays_more}
use Rattle.saving.proofs.Lines.{head-line}

-- a store has a header
pub head-room : {b : List ℕ} → Kept b → 8 * head_size ≤ length b
head-room k = omega (arith, (kept_shown k).sizes.long)

poll_read : {b : List ℕ} (st : State) → Writes b st → poll_is (get_or (words b) poll_at 0) (get_or (words b) (poll_at + 1) 0) ≡ st.next_poll
unfolding head_in
poll_read st w = ap (λ (h : Head). h.next_poll) (ap head_in (words_framed w) ∙ head_back _ _ _ _ _)

module _ {b : List ℕ} {l q : ℕ} (m : rust.Option ℕ) {k r : Option Key} (fl : Field b limit_at (λ f. f.head.limit) l) (fq : Field b places_at (λ f. f.head.places) q)
    (fm : time_num m ≡ poll_is (get_or (words b) poll_at 0) (get_or (words b) (poll_at + 1) 0)) (fk : k ≡ cursor_in (words b) known_at) (fr : r ≡ cursor_in (words b) ready_at)
    {u u₁ u₂ u₃ u₄ u₅ u₆ : List ℕ} {e₁ e₂ e₃ e₄ e₅ e₆ : ℕ} where
  pub head-laid : Lays u u₁ 0 (decimal l) e₁ → Lays u₁ u₂ e₁ (44 ∷ decimal q) e₂ → Lays u₂ u₃ e₂ (44 ∷ maybe_field (λ n. decimal n) (time_num m)) e₃
      → Lays u₃ u₄ e₃ (44 ∷ maybe_field (key_field short) k) e₄ → Lays u₄ u₅ e₄ (44 ∷ maybe_field (key_field short) r) e₅ → Lays u₅ u₆ e₅ (10 ∷ []) e₆
      → (st : State) → Sound st → Writes b st → Lays u u₆ 0 (line_text (HeadLine (on_table [] st))) e₆
  head-laid p₁ p₂ p₃ p₄ p₅ p₆ st s w =
      let c₁ = lays_as (ap (λ (n : ℕ). decimal n) (fl.field (flat_of st) w)) p₁ in
      let c₂ = lays_as (ap (λ (n : ℕ). 44 ∷ decimal n) (fq.field (flat_of st) w)) p₂ in
      let c₃ = lays_as (ap (λ (o : Option ℕ). 44 ∷ maybe_field (λ n. decimal n) o) (fm ∙ poll_read st w)) p₃ in
      let c₄ = lays_as (ap (λ (o : Option Key). 44 ∷ maybe_field (key_field short) o) (fk ∙ known_read st w)) p₄ in
      let c₅ = lays_as (ap (λ (o : Option Key). 44 ∷ maybe_field (key_field short) o) (fr ∙ ready_read st w)) p₅ in
      lays_as (sym (head-line st)) (lays_more c₁ (lays_more c₂ (lays_more c₃ (lays_more c₄ (lays_more c₅ p₆)))))
