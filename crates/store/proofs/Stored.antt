-- A store and the one state that its bytes write.
use Prim.Native.Nat.{ℕ, ◌%◌, ◌≤◌}
use mathlib.Core.Path.{◌≡◌, refl, sym, ap, ◌∙◌}
use mathlib.Core.List.{List, ◌++◌}
use native.Mathlib.Omega.{arith}
use lib.ListN.{length, take, drop, length-append, length-drop, take-append-drop}
use lib.Seq.{take_at, drop_at}
use Rattle.words.specs.Words.{words, bytes_of}
use Rattle.words.proofs.Words.{bytes-words, length-bytes}
use Rattle.words.proofs.Parts.{words_append}
use Rattle.machine.specs.Limits.{need}
use Rattle.machine.specs.State.{State}
use Rattle.machine.specs.Sound.{Sound}
use Rattle.store.specs.Flat.{flat_of}
use Rattle.store.specs.Image.{words_of, image, Writes, SoundStore, stored, Bytes, need_of}
use Rattle.store.specs.Read.{state_of}
use Rattle.store.proofs.ToFlat.{flat_sound}
use Rattle.store.proofs.WordsFit.{words-fit}
use Rattle.store.proofs.FlatRead.{length-image, image-state}
use Rattle.store.proofs.BytesBack.{bytes-append, bytes_take, bytes_drop, bytes-of, words-bytes}

whole_words : (L Q : ℕ) → need L Q % 8 ≡ 0
unfolding need
whole_words L Q = omega arith

-- ---- an image, as bytes

pub length-image-bytes : (s : State) → length (bytes_of (image s)) ≡ need_of s
unfolding image
length-image-bytes s = length-bytes (words_of (flat_of s)) ∙ length-image (flat_of s)

pub image-writes : (s : State) → Sound s → Writes (bytes_of (image s)) s
unfolding image
image-writes s h = record { long = length-image-bytes s; words_are = words-bytes (words_of (flat_of s)) (words-fit (flat_of s) (flat_sound s h)) }

-- "each state has one byte image"
pub written_bytes : (b : List ℕ) (s : State) → Bytes b → Writes b s → b ≡ bytes_of (image s)
unfolding image
written_bytes b s p w = sym (bytes-words b (ap (λ (n : ℕ). n % 8) w.long ∙ whole_words s.limit s.places) p) ∙ ap bytes_of w.words_are

-- ---- a state stored

module _ (s : State) (b : List ℕ) where
  pub stored_front : take (need_of s) (stored s b) ≡ bytes_of (image s)
  unfolding stored
  stored_front = take_at (bytes_of (image s)) _ (need_of s) (length-image-bytes s)

  -- "bytes past the need .. stay"
  pub stored_back : drop (need_of s) (stored s b) ≡ drop (need_of s) b
  unfolding stored
  stored_back = drop_at (bytes_of (image s)) (drop (need_of s) b) (need_of s) (length-image-bytes s)

  pub stored_bytes_lem : Bytes b → Bytes (stored s b)
  unfolding stored
  stored_bytes_lem p = bytes-append (bytes_of (image s)) (drop (need_of s) b) (bytes-of (image s)) (bytes_drop (need_of s) b p)

  pub stored-length : need_of s ≤ length b → length (stored s b) ≡ length b
  unfolding stored
  stored-length h = omega (arith, length-append (bytes_of (image s)) (drop (need_of s) b), length-image-bytes s, length-drop (need_of s) b)

  pub stored-writes : Sound s → Writes (take (need_of s) (stored s b)) s
  stored-writes h = rw stored_front (image-writes s h)

  pub stored-sound : Sound s → need_of s ≤ length b → SoundStore (stored s b)
  stored-sound h l = record { state = s; sound = h; long = omega (arith, stored-length l); writes = stored-writes h }

  -- what a call has to show of the bytes that it leaves
  pub stored_from : (b' : List ℕ) → Bytes b' → Writes (take (need_of s) b') s → drop (need_of s) b' ≡ drop (need_of s) b → b' ≡ stored s b
  unfolding stored
  stored_from b' p w e = sym (take-append-drop (need_of s) b') ∙ rw (written_bytes (take (need_of s) b') s (bytes_take (need_of s) b' p) w, e)

-- ---- a sound store

-- the words of a store begin with the image that its bytes write
pub words_front : (b : List ℕ) (s : State) → Writes (take (need_of s) b) s → words b ≡ image s ++ words (drop (need_of s) b)
unfolding image
words_front b s w =
    let m : length (take (need_of s) b) % 8 ≡ 0 = ap (λ (n : ℕ). n % 8) w.long ∙ whole_words s.limit s.places in
    ap words (sym (take-append-drop (need_of s) b)) ∙ words_append (take (need_of s) b) (drop (need_of s) b) m ∙ rw w.words_are

module _ (b : List ℕ) where
  pub state-shown : (w : SoundStore b) → state_of (words b) ≡ w.state
  state-shown w = ap state_of (words_front b w.state w.writes) ∙ image-state w.state (words (drop (need_of w.state) b)) w.sound

  pub state-unique : (v w : SoundStore b) → v.state ≡ w.state
  state-unique v w = sym (state-shown v) ∙ state-shown w

  -- a store that no call changes
  pub store_kept : (w : SoundStore b) → Bytes b → b ≡ stored w.state b
  store_kept w p = stored_from w.state b b p w.writes refl

  pub store_front : (w : SoundStore b) → Bytes b → take (need_of w.state) b ≡ bytes_of (image w.state)
  store_front w p = written_bytes (take (need_of w.state) b) w.state (bytes_take (need_of w.state) b p) w.writes
