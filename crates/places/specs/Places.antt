-- Package places as words.
use Rattle.std.specs.Prelude.{ℕ, ◌+◌, ◌*◌, ◌≤◌, ◌<◌, ◌≡◌, List, [], ◌∷◌, ◌++◌, length, take, drop, get_or, set, replicate}
use Rattle.words.specs.Words.{recs}
use Rattle.regions.specs.declared.Quad.{Quad}
use Rattle.regions.specs.Regions.{each, padded, Holds}
use Rattle.regions.specs.Rows.{quad_words, read_quad, quad_number, quad_of}
use Rattle.places.specs.declared.Head.{Head}

-- "1 to 100 wtxids", "up to 100 parents"
abbrev pub list_most : ℕ
list_most = 100

-- ---- where the words of a place lie

abbrev pub place_size : ℕ
place_size = 824

abbrev pub combined_at : ℕ
combined_at = 4

abbrev pub stage_at : ℕ
stage_at = 8

abbrev pub wtxid_count_at : ℕ
wtxid_count_at = 9

abbrev pub parent_count_at : ℕ
parent_count_at = 10

abbrev pub wtxids_at : ℕ
wtxids_at = 11

abbrev pub parents_at : ℕ
parents_at = 411

-- words of a list
abbrev pub list_size : ℕ
list_size = 400

-- room for a flag of each parent, zero at rest
abbrev pub kept_size : ℕ
kept_size = 13

-- ---- a place: "held by a request with a package-info flag or a package". Stage: 1 flag, 2 Awaiting, 3 Enqueued

pub record Place : Type 0 where
  pub hash : ℕ
  pub combined : ℕ
  pub stage : ℕ
  pub wtxids : List ℕ
  pub parents : List ℕ

unfoldable pub hash_words : ℕ → List ℕ
hash_words h = quad_words (quad_of h)

-- a list of hashes, in a region of its own
unfoldable pub list_words : List ℕ → List ℕ
list_words hs = padded list_size (each hash_words hs)

unfoldable pub place_words : Place → List ℕ
place_words p =
    hash_words p.hash ++ (hash_words p.combined ++ ((p.stage ∷ length p.wtxids ∷ length p.parents ∷ [])
    ++ (list_words p.wtxids ++ (list_words p.parents ++ replicate kept_size 0))))

-- ---- the fields of fixed place

unfoldable pub head_of : Place → Head
head_of p = record { hash = quad_of p.hash; combined = quad_of p.combined; stage = p.stage; wtxids = length p.wtxids; parents = length p.parents }

unfoldable pub read_head : List ℕ → Head
read_head w = record { hash = read_quad w; combined = read_quad (drop combined_at w); stage = get_or w stage_at 0; wtxids = get_or w wtxid_count_at 0; parents = get_or w parent_count_at 0 }

-- the key of a place's words
abbrev pub place_key : List ℕ → ℕ
place_key w = quad_number (read_quad w)

-- ---- a place read back

unfoldable pub read_hash : List ℕ → ℕ
read_hash w = quad_number (read_quad w)

unfoldable pub read_place : List ℕ → Place
read_place w = record {
  hash = read_hash w;
  combined = read_hash (drop combined_at w);
  stage = get_or w stage_at 0;
  wtxids = recs 4 read_hash (get_or w wtxid_count_at 0) (drop wtxids_at w);
  parents = recs 4 read_hash (get_or w parent_count_at 0) (drop parents_at w);
}

-- the lists of a place have room
pub record PlaceShort (p : Place) : Type 0 where
  pub wtxids : length p.wtxids ≤ list_most
  pub parents : length p.parents ≤ list_most

-- ---- places changed

-- a place with no package and no parents
abbrev pub blank : ℕ → ℕ → Place
blank h st = record { hash = h; combined = 0; stage = st; wtxids = []; parents = [] }

abbrev pub with_stage : ℕ → Place → Place
with_stage v p = record { hash = p.hash; combined = p.combined; stage = v; wtxids = p.wtxids; parents = p.parents }

abbrev pub with_combined : ℕ → Place → Place
with_combined v p = record { hash = p.hash; combined = v; stage = p.stage; wtxids = p.wtxids; parents = p.parents }

abbrev pub with_wtxids : List ℕ → Place → Place
with_wtxids hs p = record { hash = p.hash; combined = p.combined; stage = p.stage; wtxids = hs; parents = p.parents }

abbrev pub with_parents : List ℕ → Place → Place
with_parents hs p = record { hash = p.hash; combined = p.combined; stage = p.stage; wtxids = p.wtxids; parents = hs }

-- ---- parts of contracts

-- the head that was read of the i-th place
pub record HeadAt (w : List ℕ) (i : ℕ) (x : Head) : Type 0 where
  pub words_are : x ≡ read_head (take place_size (drop (place_size * i) w))
  pub region : (Q : ℕ) (ps : List Place) (d : Place) → i < length ps → Holds place_size place_words Q ps w → x ≡ head_of (get_or ps i d)

-- the hash that was read as the j-th of a list of the i-th place, which starts at the word a of the place
pub record HashAt (w : List ℕ) (i a : ℕ) (list : Place → List ℕ) (j : ℕ) (x : Quad) : Type 0 where
  pub words_are : x ≡ read_quad (drop (place_size * i + (a + 4 * j)) w)
  pub region : (Q : ℕ) (ps : List Place) (d : Place) (e : ℕ) → i < length ps → j < length (list (get_or ps i d)) → Holds place_size place_words Q ps w
      → x ≡ quad_of (get_or (list (get_or ps i d)) j e)

-- the hash h put behind the n hashes of a list of the i-th place, where the list has room
pub record Pushed (w w' : List ℕ) (i : ℕ) (list : Place → List ℕ) (with-list : List ℕ → Place → Place) (n h : ℕ) : Type 0 where
  pub region : (Q : ℕ) (ps : List Place) (d : Place) → i < length ps → length (list (get_or ps i d)) ≡ n → Holds place_size place_words Q ps w
      → Holds place_size place_words Q (set ps i (with-list (list (get_or ps i d) ++ (h ∷ [])) (get_or ps i d))) w'
