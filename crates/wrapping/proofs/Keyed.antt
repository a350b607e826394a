-- Whether items are package information, by their indices.
use Prim.Native.Nat.{ℕ, zero, suc, ◌+◌, ◌≤◌}
use mathlib.Core.Path.{◌≡◌, refl, sym, ap, ◌∙◌}
use mathlib.Core.Bool.{Bool, not, ◌&&◌}
use mathlib.Core.List.{List}
use native.Mathlib.Numerals.{add-one}
use native.Mathlib.Omega.{arith}
use lib.ListN.{length, drop, get_or, drop_of_length-le}
use lib.Seq.{drop-cons}
use Rattle.std.specs.List.{list_all, range_with_len}
use Rattle.ident.specs.Number.{Item}
use Rattle.machine.specs.Fail.{tx_item}
use Rattle.machine.specs.Limits.{msg_anc_pkg_info}
use Rattle.machine.specs.Wrapper.{is_type}
use Rattle.wrapping.specs.Lapses.{all_keyed}

-- the i-th is none
abbrev pub keyed_at : List Item → ℕ → Bool
keyed_at l i = not (is_type msg_anc_pkg_info (get_or l i (tx_item 0)).kind)

keyed_from : (l : List Item) (n i : ℕ) → i + n ≡ length l → list_all (keyed_at l) (range_with_len i n) ≡ all_keyed (drop i l)
unfolding all_keyed
keyed_from l zero i h = let e : length l ≤ i = omega arith in rw (drop_of_length-le l e) refl
keyed_from l (suc n) i h =
    ap (λ (b : Bool). keyed_at l i && b) (keyed_from l n (i + 1) (omega arith))
    ∙ sym (ap all_keyed (drop-cons l i (tx_item 0) (omega arith)) ∙ ap (λ (j : ℕ). keyed_at l i && all_keyed (drop j l)) (sym (add-one i)))

pub keyed_by : (l : List Item) (n : ℕ) → n ≡ length l → list_all (keyed_at l) (range_with_len 0 n) ≡ all_keyed l
keyed_by l n h = keyed_from l n 0 (omega arith)
