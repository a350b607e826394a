-- Next poll and cursors in the words of the header: read, and written.
use Prim.Native.Nat.{ℕ, ◌+◌, ◌≤◌}
use mathlib.Core.Path.{◌≡◌, refl, ap, ◌∙◌}
use mir.Val.{bool_byte}
use Rattle.std.specs.Prelude.{Option, Some, None, is_some}
use Rattle.std.specs.Option.{unwrap_or}
use mathlib.Core.List.{List, [], ◌∷◌}
use native.Mathlib.Omega.{arith}
use lib.ListN.{length, set, length-set}
use Rattle.ident.specs.declared.Kind.{Kind}
use Rattle.ident.specs.declared.Kind.TheVariants.{Txid, Wtxid}
use Rattle.words.specs.Words.{splice}
use Rattle.words.proofs.Splice.{splice_more}
use Rattle.regions.proofs.Gap.{set_one}
use Rattle.ident.specs.Number.{kind_number}
use Rattle.store.specs.Image.{cursor_tag, poll_words}
use Rattle.cursors.specs.Numbers.{time_num}

-- ---- tags

tag_is : (k : Kind) → kind_number k + 1 ≡ cursor_tag k
tag_is Txid = refl
tag_is Wtxid = refl

-- the two words of a next poll
pub poll-pair : (m : Option ℕ) → poll_words (time_num m) ≡ bool_byte (is_some m) ∷ unwrap_or m 0 ∷ []
poll-pair None = refl
poll-pair (Some n) = refl

-- ---- a word stored, and the words behind it

pub set_more : (w : List ℕ) (a v : ℕ) (x : List ℕ) {w₁ w₂ : List ℕ} → a + 1 + length x ≤ length w → w₁ ≡ set w a v → w₂ ≡ splice w₁ (a + 1) x → w₂ ≡ splice w a (v ∷ x)
set_more w a v x h e g = g ∙ rw (e, set_one w a v (omega arith)) (splice_more w a (a + 1) (v ∷ []) x refl h)

pub poll_written : (m : Option ℕ) (w : List ℕ) (a : ℕ) {w₁ w₂ : List ℕ} {t n : ℕ} → a + 2 ≤ length w → t ≡ bool_byte (is_some m) → n ≡ unwrap_or m 0
    → w₁ ≡ set w a t → w₂ ≡ set w₁ (a + 1) n → w₂ ≡ splice w a (poll_words (time_num m))
poll_written m w a {w₁ = w₁} {t = t} {n = n} h et en e g =
    let l : length w₁ ≡ length w = ap length e ∙ length-set w a t in
    set_more w a t (n ∷ []) (omega arith) e (g ∙ set_one w₁ (a + 1) n (omega arith)) ∙ rw (et, en, ← (poll-pair m))
