-- From the first line and the lines behind it to the listing.
use Prim.Native.Nat.{ℕ, ◌≤◌}
use mathlib.Core.Path.{◌≡◌, refl, sym, ap, ◌∙◌}
use mathlib.Core.Bool.{true, false}
use mathlib.Core.List.{List, [], ◌∷◌}
use mathlib.Core.Option.{Option, none, some}
use native.Mathlib.Omega.{arith}
use lib.ListN.{length, drop, drop_of_length-le}
use Rattle.std.specs.Prelude.{Option as Maybe, Some, None}
use Rattle.regions.specs.declared.Key.{Key as RowKey}
use Rattle.machine.specs.State.{on_table}
use Rattle.machine.specs.Listing.{Line, HeadLine, text_lines, lines_in, one_more, state_of, tabled_from, read_in, read_listing}
use Rattle.machine.proofs.Tests.{never}
use Rattle.listed_lines.specs.declared.line.Line as line-line
use Rattle.listed_lines.specs.declared.line.Line.TheVariants.{Not as NoLine, Head as IsHead, Request as IsRequest, Candidate as IsCandidate}
use Rattle.listed_lines.specs.declared.line.Head as line-head
use Rattle.listed_lines.specs.Given.{LineAt, head_state, line_in, lines_of_text, LineRead}
use Rattle.listed_form.specs.Placed.{Met, Bad, Start, is_good, meets_candidate, placed, placed_from}
use Rattle.listed_form.specs.Given.{met_of, met_if, Meets, Reads, FormRead}
use Rattle.listed_form.proofs.Placing.{placed-bad, one_step, placed-lists, placed_none}

-- ---- one line more

pub candidate_met : (m : Maybe RowKey) → met_if m ≡ meets_candidate (met_of m)
candidate_met None = refl
candidate_met (Some k) = refl

-- ---- the scan

-- what is left of the lines, from what has been met, comes to the same as all of them
pub record Scanned (b : List ℕ) (from : ℕ) (m : Met) (at : ℕ) : Type 0 where
  pub is : placed_from Start (lines_of_text (drop from b)) ≡ placed_from m (lines_of_text (drop at b))

pub scan_on : {b ws ps : List ℕ} {from at : ℕ} {l : LineAt} {m : Maybe RowKey} {r : Maybe RowKey} → Scanned b from (met_of m) at → LineRead b at ws ps l → Meets m l.value r
    → Scanned b from (met_if r) l.end
scan_on {b} {ws} {ps} {l = l} {m} {r} s p q = record {
  is = s.is ∙ ap (placed_from (met_of m)) p.is ∙ one_step (met_of m) (line_in ws ps l.value) (lines_of_text (drop l.end b))
      ∙ sym (ap (λ (x : Met). placed_from x (lines_of_text (drop l.end b))) (q.is ws ps));
}

none_placed : (o : Option (List Line)) → placed_from Bad o ≡ false
none_placed none = refl
none_placed (some ls) = placed-bad ls

pub scan_stop : {b : List ℕ} {from at : ℕ} → Scanned b from Bad at → false ≡ placed_from Start (lines_of_text (drop from b))
scan_stop {b} {from} {at} s = sym (s.is ∙ none_placed (lines_of_text (drop at b)))

pub no-line_left : lines_of_text [] ≡ some []
unfolding lines_of_text text_lines lines_in
no-line_left = refl

met-good : (m : Maybe RowKey) → is_good (met_of m) ≡ true
met-good None = refl
met-good (Some k) = refl

all_met : (m : Maybe RowKey) (b : List ℕ) (at : ℕ) → length b ≤ at → placed_from (met_of m) (lines_of_text (drop at b)) ≡ true
unfolding placed
all_met m b at h = rw (drop_of_length-le b h, no-line_left) (met-good m)

pub scan_end : {b : List ℕ} {from at : ℕ} (m : Maybe RowKey) → Scanned b from (met_of m) at → length b ≤ at → true ≡ placed_from Start (lines_of_text (drop from b))
scan_end {b} {from} {at} m s h = sym (s.is ∙ all_met m b at h)

-- ---- the whole text

by_lines : (b : List ℕ) → read_listing b ≡ state_of (lines_of_text b)
unfolding read_in lines_of_text
by_lines b = refl

pub no_text : (b : List ℕ) → length b ≤ 0 → FormRead b None
no_text [] h = record { is = by_lines [] ∙ ap state_of no-line_left }
no_text (c ∷ b) h = absurd (omega arith)

module _ {b ws ps : List ℕ} {l : LineAt} (p : LineRead b 0 ws ps l) where
  first_line : read_listing b ≡ state_of (one_more (line_in ws ps l.value) (lines_of_text (drop l.end b)))
  first_line = by_lines b ∙ ap state_of p.is

  -- a text whose first line is of another form
  pub no_first : ((h : line-head.Head) → l.value ≡ IsHead h → ⊥) → FormRead b None
  no_first e = record { is = first_line ∙ refused l.value (lines_of_text (drop l.end b)) e }
    where
      refused : (x : line-line.Line) (o : Option (List Line)) → ((h : line-head.Head) → x ≡ IsHead h → ⊥) → state_of (one_more (line_in ws ps x) o) ≡ none
      refused NoLine o d = refl
      refused (IsHead h) o d = absurd (d h refl)
      refused (IsRequest r) none d = refl
      refused (IsRequest r) (some ls) d = refl
      refused (IsCandidate c) none d = refl
      refused (IsCandidate c) (some ls) d = refl

  module _ {h : line-head.Head} (e : l.value ≡ IsHead h) where
    behind_first : read_listing b ≡ state_of (one_more (some (HeadLine (head_state h))) (lines_of_text (drop l.end b)))
    behind_first = first_line ∙ ap (λ (x : line-line.Line). state_of (one_more (line_in ws ps x) (lines_of_text (drop l.end b)))) e

    pub not_placed : placed_from Start (lines_of_text (drop l.end b)) ≡ false → FormRead b None
    not_placed d = record { is = behind_first ∙ refused (lines_of_text (drop l.end b)) d }
      where
        refused : (o : Option (List Line)) → placed_from Start o ≡ false → state_of (one_more (some (HeadLine (head_state h))) o) ≡ none
        refused none d = refl
        refused (some ls) d = placed_none (head_state h) ls d

    pub listed : placed_from Start (lines_of_text (drop l.end b)) ≡ true → Reads b h l.end
    listed d = taken (lines_of_text (drop l.end b)) refl d
      where
        taken : (o : Option (List Line)) → lines_of_text (drop l.end b) ≡ o → placed_from Start o ≡ true → Reads b h l.end
        taken none g d = never d
        taken (some ls) g d =
            let t = placed-lists ls d in
            record {
              state = on_table t.table (head_state h);
              read = behind_first ∙ rw g (ap (tabled_from (head_state h)) t.list);
              head = refl;
              body = record { inside = p.inside; lines = ls; are = g; list = t.list };
            }
