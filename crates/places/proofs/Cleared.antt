-- A place whose head and hashes are cleared is zeros, as the words behind its hashes are.
use Prim.Native.Nat.{ℕ, ◌+◌, ◌-◌, ◌*◌, ◌≤◌, ◌<◌}
use mathlib.Core.Path.{◌≡◌, refl, sym, ap, subst, ◌∙◌}
use mathlib.Core.Logic.{inl, inr}
use mathlib.Core.List.{List, [], ◌++◌, append_assoc}
use native.Mathlib.Nat.{mul_comm, add-zero}
use native.Mathlib.Omega.{arith}
use lib.Dec.{ltb, lit<}
use borrow.Author.Tests.{ltb-true, ltb-false}
use lib.ListN.{length, take, drop, get_or, replicate, length-append, length-drop, length-replicate, replicate-append-replicate, take-append-drop, drop_of_length-le}
use lib.Seq.{length-take-le, drop_at, drop-drop}
use Rattle.std.specs.Prelude.{min}
use Rattle.words.specs.Words.{splice}
use Rattle.words.proofs.Splice.{splice_more, splice_whole, length-splice}
use Rattle.regions.specs.Regions.{each, padded, Holds}
use Rattle.regions.proofs.Gap.{splice_in}
use Rattle.regions.proofs.Order.{test}
use Rattle.regions.proofs.Regions.{padded-fit, length_each, holds_at, truncated}
use Rattle.places.specs.Places.{list_most, list_size, place_size, wtxid_count_at, parent_count_at, wtxids_at, parents_at, kept_size, Place, hash_words, list_words, place_words, blank}
use Rattle.places.proofs.Segments.{splice_front, splice_back, splice_again}
use Rattle.places.proofs.Changes.{word_at}
use Rattle.places.proofs.Places.{length-hash, length-list, length-place, head-words, length-head, around_wtxids}

abbrev pub zeros : ℕ → List ℕ
zeros n = replicate n 0

zeros-long : (n : ℕ) → length (zeros n) ≡ n
zeros-long n = length-replicate n 0

zeros-join : (n m : ℕ) → zeros n ++ zeros m ≡ zeros (n + m)
zeros-join n m = replicate-append-replicate n m 0

splice_none : (w : List ℕ) (a : ℕ) → splice w a [] ≡ w
unfolding splice
splice_none w a = ap (λ (k : ℕ). take a w ++ drop k w) (add-zero a) ∙ take-append-drop a w

splice_behind : (w : List ℕ) (a b : ℕ) (y : List ℕ) → a ≤ length w → b ≡ a + length y → drop b (splice w a y) ≡ drop b w
unfolding splice
splice_behind w a b y l e =
    let n : length (take a w ++ y) ≡ b = length-append (take a w) y ∙ omega (arith, length-take-le a w l, e) in
    ap (drop b) (sym (append_assoc (take a w) y (drop (a + length y) w))) ∙ drop_at (take a w ++ y) (drop (a + length y) w) b n ∙ ap (λ (k : ℕ). drop k w) (sym e)

splice_first : (b y : List ℕ) → splice b 0 y ≡ y ++ drop (length y) b
unfolding splice
splice_first b y = let e : 0 + length y ≡ length y = omega arith in ap (λ (n : ℕ). y ++ drop n b) e

-- ---- a list

-- behind so many hashes a list has zeros
list_rest : (hs : List ℕ) → drop (4 * min (length hs) list_most) (list_words hs) ≡ zeros (list_size - 4 * min (length hs) list_most)
unfolding list_words
list_rest hs = elim (test (ltb list_most (length hs))) [
  | inr y ↦
      let l = ltb-false list_most (length hs) y in
      let w : List ℕ = each hash_words hs in
      let n : length w ≡ 4 * min (length hs) list_most = length_each 4 hash_words length-hash hs ∙ omega (arith, l) in
      ap (drop (4 * min (length hs) list_most)) (padded-fit list_size w (omega (arith, n, l)))
      ∙ drop_at w (zeros (list_size - length w)) (4 * min (length hs) list_most) n
      ∙ ap (λ (k : ℕ). zeros (list_size - k)) n
  | inl y ↦
      let l = ltb-true list_most (length hs) y in
      let n : 4 * min (length hs) list_most ≡ list_size = omega (arith, l) in
      drop_of_length-le (list_words hs) {i = 4 * min (length hs) list_most} (omega (arith, length-list hs, n)) ∙ sym (ap (λ (k : ℕ). zeros (list_size - k)) n)
]

list_cleared : (hs z : List ℕ) → splice (list_words hs ++ z) 0 (zeros (4 * min (length hs) list_most)) ≡ zeros list_size ++ z
list_cleared hs z =
    let k : ℕ = 4 * min (length hs) list_most in
    let m : k ≤ list_size = omega arith in
    let lk : length (zeros k) ≡ k = zeros-long k in
    let c : k + (list_size - k) ≡ list_size = omega (arith, m) in
    splice_front (list_words hs) z 0 (zeros k) (omega (arith, lk, length-list hs))
    ∙ ap (λ (v : List ℕ). v ++ z) (splice_first (list_words hs) (zeros k) ∙ ap (λ (n : ℕ). zeros k ++ drop n (list_words hs)) lk)
    ∙ ap (λ (v : List ℕ). (zeros k ++ v) ++ z) (list_rest hs)
    ∙ ap (λ (v : List ℕ). v ++ z) (zeros-join k (list_size - k))
    ∙ ap (λ (n : ℕ). zeros n ++ z) c

-- ---- a place

pub place_cleared : (p : Place) → splice (splice (place_words p) 0 (zeros (wtxids_at + 4 * min (length p.wtxids) list_most))) parents_at (zeros (4 * min (length p.parents) list_most))
    ≡ zeros place_size
place_cleared p =
    let k : ℕ = 4 * min (length p.wtxids) list_most in
    let j : ℕ = 4 * min (length p.parents) list_most in
    let head : List ℕ = head-words p in
    let back : List ℕ = list_words p.parents ++ zeros kept_size in
    let rest : List ℕ = list_words p.wtxids ++ back in
    let lh : length head ≡ wtxids_at = length-head p in
    let front : splice (place_words p) 0 (zeros wtxids_at) ≡ zeros wtxids_at ++ rest =
    ap (λ (w : List ℕ). splice w 0 (zeros wtxids_at)) (around_wtxids p) ∙ splice_front head rest 0 (zeros wtxids_at) (omega (arith, lh, zeros-long wtxids_at))
    ∙ ap (λ (w : List ℕ). w ++ rest) (splice_whole head (zeros wtxids_at) (lh ∙ sym (zeros-long wtxids_at))) in
    let first : splice (place_words p) 0 (zeros (wtxids_at + k)) ≡ zeros wtxids_at ++ (zeros list_size ++ back) =
    ap (splice (place_words p) 0) (sym (zeros-join wtxids_at k))
    ∙ sym (splice_more (place_words p) 0 wtxids_at (zeros wtxids_at) (zeros k) (sym (zeros-long wtxids_at)) (omega (arith, length-place p, zeros-long k)))
    ∙ ap (λ (w : List ℕ). splice w wtxids_at (zeros k)) front
    ∙ splice_back (zeros wtxids_at) rest wtxids_at 0 (zeros k) (zeros-long wtxids_at)
    ∙ ap (λ (w : List ℕ). zeros wtxids_at ++ w) (list_cleared p.wtxids back) in
    let joined : zeros wtxids_at ++ (zeros list_size ++ back) ≡ zeros parents_at ++ back =
    sym (append_assoc (zeros wtxids_at) (zeros list_size) back) ∙ ap (λ (w : List ℕ). w ++ back) (zeros-join wtxids_at list_size) in
    ap (λ (w : List ℕ). splice w parents_at (zeros j)) (first ∙ joined)
    ∙ splice_back (zeros parents_at) back parents_at 0 (zeros j) (zeros-long parents_at)
    ∙ ap (λ (w : List ℕ). zeros parents_at ++ w) (list_cleared p.parents (zeros kept_size) ∙ zeros-join list_size kept_size)
    ∙ zeros-join parents_at (list_size + kept_size)

-- ---- a place of a region

count-of-wtxids : (p : Place) → get_or (place_words p) wtxid_count_at 0 ≡ length p.wtxids
unfolding place_words hash_words
count-of-wtxids p = refl

count-of-parents : (p : Place) → get_or (place_words p) parent_count_at 0 ≡ length p.parents
unfolding place_words hash_words
count-of-parents p = refl

module _ (w : List ℕ) (i : ℕ) (g : place_size * (i + 1) ≤ length w) where
  pub cleared_at : {w₁ w₂ : List ℕ} (n m : ℕ) → n ≡ get_or w (i * place_size + wtxid_count_at) 0 → m ≡ get_or w (i * place_size + parent_count_at) 0
      → w₁ ≡ splice w (i * place_size) (zeros (wtxids_at + 4 * min n list_most)) → w₂ ≡ splice w₁ (i * place_size + parents_at) (zeros (4 * min m list_most))
      → (p : Place) → take place_size (drop (place_size * i) w) ≡ place_words p → w₂ ≡ splice w (place_size * i) (zeros place_size)
  cleared_at {w₁} {w₂} n m en em e₁ e₂ p h =
      let at : ℕ = place_size * i in
      let old : List ℕ = take place_size (drop at w) in
      let s : place_size * (i + 1) ≡ at + place_size = omega arith in
      let lo : length old ≡ place_size = length-take-le place_size (drop at w) (simp length-drop (omega arith)) in
      let n-is : n ≡ length p.wtxids = en ∙ word_at w i wtxid_count_at (lit< tt) ∙ ap (λ (v : List ℕ). get_or v wtxid_count_at 0) h ∙ count-of-wtxids p in
      let m-is : m ≡ length p.parents = em ∙ word_at w i parent_count_at (lit< tt) ∙ ap (λ (v : List ℕ). get_or v parent_count_at 0) h ∙ count-of-parents p in
      let x : List ℕ = zeros (wtxids_at + 4 * min n list_most) in
      let y : List ℕ = zeros (4 * min m list_most) in
      let lx : length x ≤ place_size = omega (arith, zeros-long (wtxids_at + 4 * min n list_most)) in
      let ly : parents_at + length y ≤ place_size = omega (arith, zeros-long (4 * min m list_most)) in
      let new : List ℕ = splice old 0 x in
      let ln : length new ≡ place_size = length-splice old 0 x (omega (arith, lo, lx)) ∙ lo in
      let f₁ : w₁ ≡ splice w at new =
      e₁ ∙ ap (λ (k : ℕ). splice w k x) (mul_comm i place_size ∙ sym (add-zero at)) ∙ splice_in w at place_size 0 x (omega (arith, g, s)) (omega (arith, lx)) in
      let f₂ : w₂ ≡ splice w₁ (at + parents_at) y = e₂ ∙ ap (λ (k : ℕ). splice w₁ (k + parents_at) y) (mul_comm i place_size) in
      let f₃ : w₂ ≡ splice w at (splice new parents_at y) = splice_again w at place_size parents_at new y ln (omega (arith, g, s)) ly f₁ f₂ in
      let z : splice new parents_at y ≡ zeros place_size =
      ap (λ (v : List ℕ). splice (splice v 0 x) parents_at y) h
      ∙ ap (λ (k : ℕ). splice (splice (place_words p) 0 (zeros (wtxids_at + 4 * min k list_most))) parents_at y) n-is
      ∙ ap (λ (k : ℕ). splice (splice (place_words p) 0 (zeros (wtxids_at + 4 * min (length p.wtxids) list_most))) parents_at (zeros (4 * min k list_most))) m-is
      ∙ place_cleared p in
      f₃ ∙ ap (splice w at) z

-- ---- the loop: of the n places those from the m-th on before the i-th are cleared

pub record Clearing (w₀ w : List ℕ) (n m i : ℕ) : Type 0 where
  pub least : m ≤ i
  pub most : i ≤ n
  pub size : length w ≡ length w₀
  pub words_are : (Q : ℕ) (ps : List Place) → length ps ≡ n → Holds place_size place_words Q ps w₀ → w ≡ splice w₀ (place_size * m) (zeros (place_size * (i - m)))

pub clearing_none : (w : List ℕ) (n m : ℕ) → m ≤ n → Clearing w w n m m
clearing_none w n m l = record { least = omega arith; most = l; size = refl; words_are = λ Q ps e h. sym none }
  where
    none : splice w (place_size * m) (zeros (place_size * (m - m))) ≡ w
    none =
        let e : place_size * (m - m) ≡ 0 = omega arith in
        ap (λ (k : ℕ). splice w (place_size * m) (zeros k)) e ∙ splice_none w (place_size * m)

module _ {w₀ w : List ℕ} {n m i : ℕ} (c : Clearing w₀ w n m i) (g : place_size * n ≤ length w₀) where
  pub clearing_more : i < n → {w' : List ℕ} → length w' ≡ length w → ((p : Place) → take place_size (drop (place_size * i) w) ≡ place_words p → w' ≡ splice w (place_size * i) (zeros place_size))
      → Clearing w₀ w' n m (i + 1)
  clearing_more l {w'} e t = record {
    least = omega (arith, c.least);
    most = omega arith;
    size = e ∙ c.size;
    words_are = λ Q ps k h.
        let a : ℕ = place_size * m in
        let b : ℕ = place_size * i in
        let d : ℕ = place_size * (i - m) in
        let z : List ℕ = zeros d in
        let lz : length z ≡ d = zeros-long d in
        let room : b + place_size ≤ length w₀ = omega (arith, g) in
        let eb : b ≡ a + length z = omega (arith, lz, c.least) in
        let was = c.words_are Q ps k h in
        let part : take place_size (drop b w) ≡ place_words (get_or ps i (blank 0 0)) =
        ap (λ (v : List ℕ). take place_size (drop b v)) was
        ∙ ap (take place_size) (splice_behind w₀ a b z (omega (arith, room, eb)) eb)
        ∙ holds_at place_size place_words length-place w₀ i (omega (arith, room)) Q ps (blank 0 0) (omega (arith, k)) h in
        let more : d + place_size ≡ place_size * (i + 1 - m) = omega (arith, c.least) in
        t (get_or ps i (blank 0 0)) part
        ∙ ap (λ (v : List ℕ). splice v b (zeros place_size)) was
        ∙ splice_more w₀ a b z (zeros place_size) eb (omega (arith, room, zeros-long place_size))
        ∙ ap (splice w₀ a) (zeros-join d place_size ∙ ap zeros more);
  }

  pub clearing_end : n ≤ i → (Q : ℕ) (ps : List Place) → length ps ≡ n → Holds place_size place_words Q ps w₀ → Holds place_size place_words Q (take m ps) w
  clearing_end l Q ps k h =
      let e : i ≡ n = omega (arith, c.most) in
      let a : place_size * m ≡ m * place_size = mul_comm place_size m in
      let d : place_size * (i - m) ≡ (n - m) * place_size = ap (λ (j : ℕ). place_size * (j - m)) e ∙ mul_comm place_size (n - m) in
      (truncated place_size place_words length-place w₀ m n (omega (arith, c.least, e)) g
      (c.words_are Q ps k h ∙ ap (λ (j : ℕ). splice w₀ j (zeros (place_size * (i - m)))) a ∙ ap (λ (j : ℕ). splice w₀ (m * place_size) (zeros j)) d)).region Q ps k h
