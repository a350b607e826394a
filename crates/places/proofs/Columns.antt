-- What is read from the words of a region of places, and from the places that it holds.
use Prim.Native.Nat.{ℕ, ◌*◌, ◌≤◌}
use mathlib.Core.Path.{◌≡◌, refl, ap, ◌∙◌}
use mathlib.Core.List.{List, [], ◌∷◌, ◌++◌, map}
use native.Mathlib.Omega.{arith}
use lib.ListN.{length, drop, replicate}
use lib.Seq.{drop_at}
use Rattle.words.specs.Words.{recs}
use Rattle.words.proofs.Records.{recs_front}
use Rattle.regions.specs.Regions.{Holds}
use Rattle.regions.specs.Rows.{quad_number, quad_of}
use Rattle.regions.proofs.Regions.{column}
use Rattle.regions.proofs.Order.{number_quad}
use Rattle.places.specs.Places.{list_most, place_size, parents_at, kept_size, Place, hash_words, list_words, place_words, place_key, read_hash, read_place, PlaceShort}
use Rattle.places.proofs.Places.{length-hash, length-list, length-place, head-words, around_parents, length_front}

-- ---- a place read back from its words

map_back : (l : List ℕ) → map (λ h. quad_number (quad_of h)) l ≡ l
map_back [] = refl
map_back (h ∷ l) = rw (number_quad h, map_back l)

list_back : (hs z : List ℕ) → length hs ≤ list_most → recs 4 read_hash (length hs) (list_words hs ++ z) ≡ hs
unfolding list_words hash_words read_hash
list_back hs z l =
    let b : 4 * length hs ≤ length (list_words hs) = omega (arith, length-list hs) in
    recs_front 4 read_hash (length hs) (list_words hs) z b
    ∙ column 4 hash_words length-hash read_hash (λ h. quad_number (quad_of h)) (λ _. refl) list_most hs l refl
    ∙ map_back hs

pub place_back : (p : Place) → PlaceShort p → read_place (place_words p) ≡ p
unfolding read_place read_hash place_words hash_words
place_back p s =
    let z : List ℕ = list_words p.parents ++ replicate kept_size 0 in
    let d : drop parents_at (place_words p) ≡ z = ap (drop parents_at) (around_parents p) ∙ drop_at (head-words p ++ list_words p.wtxids) z parents_at (length_front p) in
    rw (d, number_quad p.hash, number_quad p.combined, list_back p.wtxids z s.wtxids, list_back p.parents (replicate kept_size 0) s.parents)

-- ---- a region of places

module _ (Q : ℕ) (ps : List Place) {w : List ℕ} (h : length ps ≤ Q) (r : Holds place_size place_words Q ps w) where
  pub place-keys : recs place_size place_key (length ps) w ≡ map (λ p. quad_number (quad_of p.hash)) ps
  unfolding place_words hash_words
  place-keys = column place_size place_words length-place place_key (λ p. quad_number (quad_of p.hash)) (λ _. refl) Q ps h r
