-- The test of a list of hashes, from pair to pair.
use Prim.Native.Nat.{ℕ, zero, suc, ◌+◌, ◌-◌, ◌≤◌, ◌<◌}
use mathlib.Core.Path.{◌≡◌, refl, sym, ap, ◌∙◌}
use mathlib.Core.Bool.{Bool, true, ◌&&◌}
use mathlib.Core.List.{List, [], ◌∷◌}
use native.Mathlib.Numerals.{add-one}
use native.Mathlib.Omega.{arith}
use lib.Dec.{ltb}
use lib.ListN.{length, drop, get_or, length-drop}
use lib.Seq.{drop-cons}
use Rattle.std.specs.List.{list_all, range_with_len}
use Rattle.ident.specs.declared.Hash.{Hash}
use Rattle.ident.specs.Number.{top}
use Rattle.ident.specs.Words.{hash_num}
use Rattle.regions.specs.declared.Quad.{Quad}
use Rattle.regions.specs.Rows.{quad_number}
use Rattle.regions.proofs.Order.{number_quad}
use Rattle.regions.specs.Keys.{Words}
use Rattle.machine.specs.Owners.{ascending}
use Rattle.owners.specs.Walk.{above_last}

-- ---- a hash as four words

pub quad_is : {h : Hash} {q : Quad} {x : ℕ} → Words h q → hash_num h ≡ x → quad_number q ≡ x
quad_is {h} w e = ap quad_number w.words_are ∙ number_quad (hash_num h) ∙ e

pub quad_small : {h : Hash} {q : Quad} → Words h q → quad_number q < top
quad_small {h} w = rw (ap quad_number w.words_are ∙ number_quad (hash_num h)) w.small

-- ---- from pair to pair

-- the hashes from the i-th on
pair : (hs : List ℕ) (i : ℕ) → i + 1 < length hs → drop i hs ≡ get_or hs i 0 ∷ (get_or hs (i + 1) 0 ∷ drop (i + 1 + 1) hs)
pair hs i l =
    let m : i < length hs = omega arith in
    drop-cons hs i 0 m ∙ ap (λ (x : List ℕ). get_or hs i 0 ∷ x) (rw (← add-one i) (drop-cons hs (i + 1) 0 l ∙ rw (← add-one (i + 1))))

last : (hs : List ℕ) (i : ℕ) → i + 1 < length hs → drop (i + 1) hs ≡ get_or hs (i + 1) 0 ∷ drop (i + 1 + 1) hs
last hs i l = drop-cons hs (i + 1) 0 l ∙ rw (← add-one (i + 1))

pub step : (hs : List ℕ) (i : ℕ) → i + 1 < length hs → ascending (drop i hs) ≡ (ltb (get_or hs i 0) (get_or hs (i + 1) 0) && ascending (drop (i + 1) hs))
unfolding ascending
step hs i l = ap ascending (pair hs i l) ∙ ap (λ (x : List ℕ). ltb (get_or hs i 0) (get_or hs (i + 1) 0) && ascending x) (sym (last hs i l))

short : (l : List ℕ) → length l ≤ 1 → ascending l ≡ true
unfolding ascending
short [] h = refl
short (a ∷ []) h = refl
short (a ∷ (b ∷ l)) h = absurd (omega arith)

pub ended : (hs : List ℕ) (i : ℕ) → length hs ≤ i + 1 → ascending (drop i hs) ≡ true
ended hs i h = short (drop i hs) (omega (arith, length-drop i hs))

ascends_from : (hs : List ℕ) (n i : ℕ) → i + 1 + n ≡ length hs → list_all (above_last hs) (range_with_len (i + 1) n) ≡ ascending (drop i hs)
ascends_from hs zero i h = sym (ended hs i (omega arith))
ascends_from hs (suc n) i h =
    let e : i + 1 - 1 ≡ i = omega arith in
    rw e (ap (λ (x : Bool). ltb (get_or hs i 0) (get_or hs (i + 1) 0) && x) (ascends_from hs n (i + 1) (omega arith)) ∙ sym (step hs i (omega arith)))

pub ascends_by : (hs : List ℕ) (n : ℕ) → length hs - 1 ≡ n → list_all (above_last hs) (range_with_len 1 n) ≡ ascending hs
ascends_by hs zero h = sym (ended hs 0 (omega arith))
ascends_by hs (suc n) h = ascends_from hs (suc n) 0 (omega arith)
