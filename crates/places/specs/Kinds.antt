-- Places are a kind of record.
use Rattle.std.specs.Prelude.{◌≡◌, ℕ, List, length}
use mathlib.Core.Path.{refl}
use lib.Dec.{lit<}
use lib.ListN.{length-append}
use Rattle.regions.specs.Regions.{each, RecordLaws}
use Rattle.regions.proofs.Regions.{length-padded}
use Rattle.places.specs.Places.{list_size, place_size, Place, hash_words, list_words, place_words}

pub length-hash : (h : ℕ) → length (hash_words h) ≡ 4
unfolding hash_words
length-hash h = refl

pub length-list : (hs : List ℕ) → length (list_words hs) ≡ list_size
unfolding list_words
length-list hs = length-padded list_size (each hash_words hs)

pub length-place : (p : Place) → length (place_words p) ≡ place_size
unfolding place_words
length-place p = simp (length-append, length-hash, length-list)

pub place_kind : RecordLaws place_size place_words
place_kind = record { some_words = lit< tt; sized = length-place }
