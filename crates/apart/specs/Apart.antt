-- A store whose package places are set apart: its first bytes write the state without packages, the first place lies in an array beside
-- it, the others behind those bytes. A place whose stage is 0 is dead: its request has lost it. Which of its parents were kept is noted in
-- two of the words of a place that are zero at rest.
use Rattle.std.specs.Prelude as rust
use Rattle.std.specs.Prelude.{ℕ, ◌+◌, ◌-◌, ◌*◌, ◌≤◌, ◌<◌, ◌≡◌, ◌⊎◌, true, List, [], ◌∷◌, map, length, take, drop, get_or, set}
use Rattle.ident.specs.declared.Kind.TheVariants.{Txid, Wtxid}
use Rattle.ident.specs.Number.{Key}
use Rattle.words.specs.Words.{words, splice}
use Rattle.regions.specs.Regions.{Holds}
use Rattle.regions.specs.Order.{Sorted, Bound}
use Rattle.regions.specs.Rows.{row_size, conn_size}
use Rattle.places.specs.declared.Head.{Head}
use Rattle.places.specs.Places.{Place, list_most, place_size, place_words, head_of, with_stage}
use Rattle.machine.specs.State.{State}
use Rattle.machine.specs.Sound.{Sound}
use Rattle.machine.specs.Typed.{Each}
use Rattle.store.specs.Flat.{places_of}
use Rattle.store.specs.FlatSound.{PlacesAscend}
use Rattle.store.specs.Image.{head_size, Writes}
use Rattle.package_stages.specs.Records.{place_hashes}
use Rattle.package_stages.specs.Dead.{filter, live}
use Rattle.apart.specs.Bare.{bare_state}
use Rattle.apart.specs.declared.slots.Spot.{Spot}
use Rattle.apart.specs.declared.slots.Note.{Note}

-- bytes of a place, and of a store with one place
abbrev pub slot_bytes : ℕ
slot_bytes = 6592

abbrev pub bare_bytes : ℕ → ℕ
bare_bytes L = (head_size + L * row_size + L * conn_size) * 8 + slot_bytes

-- ---- the places

-- the words of a place in which its notes stand while it is set apart
abbrev pub kept_at : ℕ
kept_at = 811

-- a place with the bits of those parents that were kept, in two numbers
pub record Slot : Type 0 where
  pub place : Place
  pub low : ℕ
  pub high : ℕ

unfoldable pub slot_words : Slot → List ℕ
slot_words x = splice (place_words x.place) kept_at (x.low ∷ x.high ∷ [])

abbrev pub with_notes : ℕ → ℕ → Slot → Slot
with_notes a c x = record { place = x.place; low = a; high = c }

abbrev pub dying : Slot → Slot
dying x = record { place = with_stage 0 x.place; low = x.low; high = x.high }

abbrev pub note_of : Slot → Note
note_of x = record { low = x.low; high = x.high }

-- nothing is noted
abbrev pub at_rest : Place → Slot
at_rest p = record { place = p; low = 0; high = 0 }

abbrev pub resting : List Place → List Slot
resting ps = map at_rest ps

abbrev pub plain : List Slot → List Place
plain xs = map (λ x. x.place) xs

-- of at most Q places xs the first is in f, the others from the byte m of b on
pub record Slots (b f : List ℕ) (m Q : ℕ) (xs : List Slot) : Type 0 where
  pub some : 1 ≤ Q
  pub few : length xs ≤ Q
  pub first : Holds place_size slot_words 1 (take 1 xs) (words f)
  pub rest : Holds place_size slot_words (Q - 1) (drop 1 xs) (words (drop m b))

-- bytes for n places
pub record Room (b f : List ℕ) (m n : ℕ) : Type 0 where
  pub first : length f ≡ slot_bytes
  pub front : m ≤ length b
  pub rest : m + slot_bytes * (n - 1) ≤ length b

-- the bytes z are those of the place x
abbrev pub SlotOf : List ℕ → Slot → Type 0
SlotOf z x = Holds place_size slot_words 1 (x ∷ []) (words z)

-- z are the bytes of the i-th place
abbrev pub Loaded : List ℕ → List ℕ → ℕ → ℕ → List ℕ → Type 0
Loaded b f m i z = (Q : ℕ) (xs : List Slot) (d : Slot) → i < length xs → Slots b f m Q xs → SlotOf z (get_or xs i d)

abbrev pub HeadIn : List ℕ → List ℕ → ℕ → ℕ → Head → Type 0
HeadIn b f m i r = (Q : ℕ) (xs : List Slot) (d : Slot) → i < length xs → Slots b f m Q xs → r ≡ head_of (get_or xs i d).place

pub record SoughtIn (b f : List ℕ) (m n x r : ℕ) : Type 0 where
  pub most : r ≤ n
  pub bound : (Q : ℕ) (xs : List Slot) → n ≡ length xs → Slots b f m Q xs → Sorted (place_hashes (plain xs)) → Bound (place_hashes (plain xs)) x r

-- the i-th place becomes what g makes of it
pub record Altered (b b' f f' : List ℕ) (m i : ℕ) (g : Slot → Slot) : Type 0 where
  pub front : take m b' ≡ take m b
  pub slots : (Q : ℕ) (xs : List Slot) (d : Slot) → i < length xs → Slots b f m Q xs → Slots b' f' m Q (set xs i (g (get_or xs i d)))

-- ---- notes

-- what is noted of the i-th place of a region
pub record NoteAt (w : List ℕ) (i : ℕ) (r : Note) : Type 0 where
  pub region : (Q : ℕ) (xs : List Slot) (d : Slot) → length xs ≤ Q → i < length xs → Holds place_size slot_words Q xs w → r ≡ note_of (get_or xs i d)

-- and of the i-th of all
abbrev pub NoteIn : List ℕ → List ℕ → ℕ → ℕ → Note → Type 0
NoteIn b f m i r = (Q : ℕ) (xs : List Slot) (d : Slot) → i < length xs → Slots b f m Q xs → r ≡ note_of (get_or xs i d)

pub record Clear (x : Slot) : Type 0 where
  pub low_bits : x.low ≡ 0
  pub high_bits : x.high ≡ 0

-- nothing is noted from the n-th place on
abbrev pub ClearFrom : ℕ → List Slot → Type 0
ClearFrom n xs = (j : ℕ) (d : Slot) → n ≤ j → j < length xs → Clear (get_or xs j d)

-- the notes of the first n places are gone
pub record Forgotten (b b' f f' : List ℕ) (m n : ℕ) : Type 0 where
  pub front : take m b' ≡ take m b
  pub slots : (Q : ℕ) (xs : List Slot) → n ≤ length xs → ClearFrom n xs → Slots b f m Q xs → Slots b' f' m Q (resting (plain xs))

-- ---- the place of a key that is not dead

-- the place r is that of k, and not dead
pub record SpotHeld (ps : List Place) (k : Key) (r : Spot) : Type 0 where
  pub kind : k.kind ≡ Wtxid
  pub inside : r.at < length ps
  pub hash : (d : Place) → (get_or ps r.at d).hash ≡ k.hash
  pub lives : (d : Place) → 0 < (get_or ps r.at d).stage
  pub stage : (d : Place) → r.stage ≡ (get_or ps r.at d).stage
  pub parents : (d : Place) → r.parents ≡ length (get_or ps r.at d).parents

-- no place that is not dead is that of k
abbrev pub SpotNone : List Place → Key → Type 0
SpotNone ps k = (k.kind ≡ Txid) ⊎ ((j : ℕ) (d : Place) → j < length ps → live (get_or ps j d) ≡ true → (get_or ps j d).hash ≡ k.hash → ⊥)

pub record SpotIn (b f : List ℕ) (m n : ℕ) (k : Key) (o : rust.Option Spot) : Type 0 where
  pub held : (r : Spot) → o ≡ rust.Some r → (Q : ℕ) (xs : List Slot) → n ≡ length xs → Slots b f m Q xs → PlacesAscend 0 (plain xs) → SpotHeld (plain xs) k r
  pub none : o ≡ rust.None → (Q : ℕ) (xs : List Slot) → n ≡ length xs → Slots b f m Q xs → PlacesAscend 0 (plain xs) → SpotNone (plain xs) k

-- ---- the whole

-- the places xs, of which the ones that live are those of the state st, are set apart
pub record Apart (b f : List ℕ) (m : ℕ) (st : State) (xs : List Slot) : Type 0 where
  pub sound : Sound st
  pub size : m ≡ bare_bytes st.limit
  pub long : length b ≡ m + slot_bytes * (st.places - 1)
  pub first_long : length f ≡ slot_bytes
  pub writes : Writes (take m b) (bare_state st)
  pub slots : Slots b f m st.places xs
  pub lives : filter live (plain xs) ≡ places_of st.table
  pub ascend : PlacesAscend 0 (plain xs)
  pub short : Each (λ p. length p.parents ≤ list_most) (plain xs)

-- some state's n places are set apart
pub record Parted (b f : List ℕ) (m n : ℕ) : Type 0 where
  pub state : State
  pub places : List Slot
  pub apart : Apart b f m state places
  pub count : n ≡ length places

-- and nothing is noted of them
pub record Rested (b f : List ℕ) (m n : ℕ) : Type 0 where
  pub state : State
  pub places : List Place
  pub apart : Apart b f m state (resting places)
  pub count : n ≡ length places

-- what setting apart makes of a store
abbrev pub SetApart : List ℕ → List ℕ → List ℕ → ℕ → Type 0
SetApart b b' f m = (st : State) → Sound st → Writes b st → Apart b' f m st (resting (places_of st.table))

-- and what putting back makes of it again: the state with the places that live
abbrev pub PutBack : List ℕ → List ℕ → List ℕ → ℕ → ℕ → Type 0
PutBack b b' f m n = (st : State) (ps : List Place) → Apart b f m st (resting ps) → n ≡ length ps → Writes b' st
