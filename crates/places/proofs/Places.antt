-- Places as words: their parts read and changed.
use Prim.Native.Nat.{ℕ, ◌+◌, ◌*◌, ◌≤◌, ◌<◌}
use mathlib.Core.Path.{◌≡◌, refl, sym, ap, ◌∙◌}
use mathlib.Core.List.{List, [], ◌∷◌, ◌++◌, append_assoc}
use native.Mathlib.Omega.{arith}
use lib.ListN.{length, take, drop, get_or, replicate, length-append, length-drop}
use lib.Seq.{take-append-le, drop-append-le, drop_at, drop-drop}
use Rattle.words.specs.Words.{splice}
use Rattle.regions.specs.declared.Quad.{Quad}
use Rattle.regions.specs.Rows.{quad_words, read_quad, quad_number, quad_of}
use Rattle.regions.proofs.Regions.{region-push, region_at}
use Rattle.regions.proofs.Order.{Small, quad-number}
use Rattle.places.specs.Places.{list_most, list_size, combined_at, stage_at, wtxid_count_at, parent_count_at, wtxids_at, parents_at, kept_size}
use Rattle.places.specs.Places.{Place, hash_words, list_words, place_words, head_of, read_head, with_stage, with_combined, with_wtxids, with_parents}
pub use Rattle.places.specs.Kinds.{length-hash, length-list, length-place}
use Rattle.places.proofs.Segments.{splice_front, splice_back, quad-in}

-- ---- fields of fixed place

pub stage-set : (v : ℕ) (p : Place) → splice (place_words p) stage_at (v ∷ []) ≡ place_words (with_stage v p)
unfolding splice place_words hash_words
stage-set v p = refl

pub combined-set : (q : Quad) → Small q → (p : Place) → splice (place_words p) combined_at (quad_words q) ≡ place_words (with_combined (quad_number q) p)
unfolding splice place_words hash_words
combined-set q s p = rw (quad-number q s)

pub head_back : (p : Place) → read_head (place_words p) ≡ head_of p
unfolding place_words hash_words read_head head_of
head_back p = refl

-- ---- lists

-- the words before and behind a list of a place
module _ (p : Place) where
  pub head-words : List ℕ
  head-words = hash_words p.hash ++ (hash_words p.combined ++ (p.stage ∷ length p.wtxids ∷ length p.parents ∷ []))

  pub around_wtxids : place_words p ≡ head-words ++ (list_words p.wtxids ++ (list_words p.parents ++ replicate kept_size 0))
  unfolding place_words head-words
  around_wtxids = simp append_assoc

  pub around_parents : place_words p ≡ (head-words ++ list_words p.wtxids) ++ (list_words p.parents ++ replicate kept_size 0)
  unfolding place_words head-words
  around_parents = simp append_assoc

  pub length-head : length head-words ≡ wtxids_at
  unfolding head-words
  length-head = simp (length-append, length-hash)

  pub length_front : length (head-words ++ list_words p.wtxids) ≡ parents_at
  length_front = simp (length-append, length-head, length-list)

  wtxid-count : (v : ℕ) → splice head-words wtxid_count_at (v ∷ []) ≡ hash_words p.hash ++ (hash_words p.combined ++ (p.stage ∷ v ∷ length p.parents ∷ []))
  unfolding splice head-words hash_words
  wtxid-count v = refl

  parent-count : (v : ℕ) → splice head-words parent_count_at (v ∷ []) ≡ hash_words p.hash ++ (hash_words p.combined ++ (p.stage ∷ length p.wtxids ∷ v ∷ []))
  unfolding splice head-words hash_words
  parent-count v = refl

-- a hash put behind a list
list-push : (hs : List ℕ) (h : ℕ) → length hs < list_most → splice (list_words hs) (4 * length hs) (hash_words h) ≡ list_words (hs ++ (h ∷ []))
unfolding list_words
list-push hs h l = region-push 4 hash_words length-hash hs list_size h (omega arith)

-- the j-th hash of a list, with words behind it
list_at_lem : (hs : List ℕ) (j e : ℕ) (z : List ℕ) → j < length hs → j < list_most → read_quad (drop (4 * j) (list_words hs ++ z)) ≡ quad_of (get_or hs j e)
unfolding list_words hash_words
list_at_lem hs j e z h l =
    let lw : length (list_words hs) ≡ list_size = length-list hs in
    let m : 4 * j ≤ length (list_words hs) = omega arith in
    let n : 4 ≤ length (drop (4 * j) (list_words hs)) = simp length-drop (omega arith) in
    let part : take 4 (drop (4 * j) (list_words hs)) ≡ hash_words (get_or hs j e) = region_at 4 hash_words length-hash hs j list_size e h (omega arith) in
    let front : take 4 (drop (4 * j) (list_words hs ++ z)) ≡ hash_words (get_or hs j e) = ap (take 4) (drop-append-le (4 * j) (list_words hs) z m) ∙
    take-append-le 4 (drop (4 * j) (list_words hs)) z n ∙ part in
    sym (quad-in (drop (4 * j) (list_words hs ++ z)) 4 0 (omega arith)) ∙ ap read_quad front

pub wtxid-at : (p : Place) (j e : ℕ) → j < length p.wtxids → j < list_most → read_quad (drop (wtxids_at + 4 * j) (place_words p)) ≡ quad_of (get_or p.wtxids j e)
wtxid-at p j e h l =
    let z : List ℕ = list_words p.parents ++ replicate kept_size 0 in
    ap read_quad (ap (drop (wtxids_at + 4 * j)) (around_wtxids p) ∙ sym (drop-drop (4 * j) wtxids_at (head-words p ++ (list_words p.wtxids ++ z))) ∙
    ap (drop (4 * j)) (drop_at (head-words p) (list_words p.wtxids ++ z) wtxids_at (length-head p)))
    ∙ list_at_lem p.wtxids j e z h l

pub parent-at : (p : Place) (j e : ℕ) → j < length p.parents → j < list_most → read_quad (drop (parents_at + 4 * j) (place_words p)) ≡ quad_of (get_or p.parents j e)
parent-at p j e h l =
    let a : List ℕ = head-words p ++ list_words p.wtxids in
    let z : List ℕ = list_words p.parents ++ replicate kept_size 0 in
    ap read_quad (ap (drop (parents_at + 4 * j)) (around_parents p) ∙ sym (drop-drop (4 * j) parents_at (a ++ z)) ∙ ap (drop (4 * j)) (drop_at a z parents_at (length_front p)))
    ∙ list_at_lem p.parents j e (replicate kept_size 0) h l

-- a hash put behind the wtxids or the parents, and then their count
module _ (p : Place) (q : Quad) (s : Small q) (n : ℕ) (l : n < list_most) where
  quad-hash : quad_words q ≡ hash_words (quad_number q)
  unfolding hash_words
  quad-hash = rw (quad-number q s)

  in_list : (hs z : List ℕ) → length hs ≡ n → splice (list_words hs ++ z) (4 * n) (quad_words q) ≡ list_words (hs ++ (quad_number q ∷ [])) ++ z
  in_list hs z e =
      let lw : length (list_words hs) ≡ list_size = length-list hs in
      let lh : length (hash_words (quad_number q)) ≡ 4 = length-hash (quad_number q) in
      rw (quad-hash, ← e) (splice_front (list_words hs) z (4 * length hs) (hash_words (quad_number q)) (omega arith) ∙ ap (λ (t : List ℕ). t ++ z) (list-push hs (quad_number q) (omega arith)))

  pub wtxid-push : length p.wtxids ≡ n
      → splice (splice (place_words p) (wtxids_at + 4 * n) (quad_words q)) wtxid_count_at ((n + 1) ∷ []) ≡ place_words (with_wtxids (p.wtxids ++ (quad_number q ∷ [])) p)
  unfolding place_words
  wtxid-push e =
      let hs : List ℕ = p.wtxids ++ (quad_number q ∷ []) in
      let z : List ℕ = list_words p.parents ++ replicate kept_size 0 in
      let c : n + 1 ≡ length hs = rw (length-append, e) in
      let lh : length (head-words p) ≡ wtxids_at = length-head p in
      let a : splice (place_words p) (wtxids_at + 4 * n) (quad_words q) ≡ head-words p ++ (list_words hs ++ z) =
      rw (around_wtxids p, splice_back (head-words p) (list_words p.wtxids ++ z) wtxids_at (4 * n) (quad_words q) lh, in_list p.wtxids z e) in
      rw (a, splice_front (head-words p) (list_words hs ++ z) wtxid_count_at ((n + 1) ∷ []) (omega arith), wtxid-count p (n + 1), c) (simp append_assoc)

  pub parent-push : length p.parents ≡ n
      → splice (splice (place_words p) (parents_at + 4 * n) (quad_words q)) parent_count_at ((n + 1) ∷ []) ≡ place_words (with_parents (p.parents ++ (quad_number q ∷ [])) p)
  unfolding place_words
  parent-push e =
      let hs : List ℕ = p.parents ++ (quad_number q ∷ []) in
      let z : List ℕ = replicate kept_size 0 in
      let f : List ℕ = head-words p ++ list_words p.wtxids in
      let c : n + 1 ≡ length hs = rw (length-append, e) in
      let lh : length (head-words p) ≡ wtxids_at = length-head p in
      let a : splice (place_words p) (parents_at + 4 * n) (quad_words q) ≡ head-words p ++ (list_words p.wtxids ++ (list_words hs ++ z)) =
      rw (around_parents p, splice_back f (list_words p.parents ++ z) parents_at (4 * n) (quad_words q) (length_front p), in_list p.parents z e)
      (append_assoc (head-words p) (list_words p.wtxids) (list_words hs ++ z)) in
      rw (a, splice_front (head-words p) (list_words p.wtxids ++ (list_words hs ++ z)) parent_count_at ((n + 1) ∷ []) (omega arith), parent-count p (n + 1), c) (simp append_assoc)
