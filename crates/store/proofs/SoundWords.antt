-- A store is sound exactly if the records that its words show are, and its words are those of these records.
use Prim.Native.Nat.{ℕ, ◌≤◌}
use mathlib.Core.Path.{◌≡◌, sym, ap, subst, ◌∙◌}
use mathlib.Core.List.{List}
use lib.ListN.{length, take, drop}
use lib.Seq.{length-take-le}
use Rattle.words.specs.Words.{words}
use Rattle.machine.specs.Limits.{need}
use Rattle.store.specs.Flat.{Flat, flat_of}
use Rattle.store.specs.Gather.{state_in}
use Rattle.store.specs.FlatSound.{FlatSound}
use Rattle.store.specs.Image.{words_of, image, SoundStore, need_of}
use Rattle.store.specs.Read.{flat_in}
use Rattle.store.proofs.ToFlat.{flat_sound}
use Rattle.store.proofs.FromFlat.{sound-state, flat_back}
use Rattle.store.proofs.FlatRead.{flat_read}
use Rattle.store.proofs.Stored.{words_front}

abbrev pub need_in : Flat → ℕ
need_in f = need f.head.limit f.head.places

-- the bytes b as far as the need write the records f, which are sound
pub record Certified (b : List ℕ) (f : Flat) : Type 0 where
  pub flat : FlatSound f
  pub long : need_in f ≤ length b
  pub words_are : words (take (need_in f) b) ≡ words_of f

module _ (b : List ℕ) where
  -- the records of a sound store are those of its state
  pub flat-shown : (w : SoundStore b) → flat_in (words b) ≡ flat_of w.state
  unfolding image
  flat-shown w = ap flat_in (words_front b w.state w.writes) ∙ flat_read (flat_of w.state) (words (drop (need_of w.state) b)) (flat_sound w.state w.sound)

  pub sound_certified : SoundStore b → Certified b (flat_in (words b))
  sound_certified w =
      subst (Certified b) (sym (flat-shown w)) (record { flat = flat_sound w.state w.sound; long = w.long; words_are = w.writes.words_are })

  pub certified_sound : (f : Flat) → Certified b f → SoundStore b
  certified_sound f c = record {
    state = state_in f;
    sound = sound-state f c.flat;
    long = c.long;
    writes = record { long = length-take-le (need_in f) b c.long; words_are = c.words_are ∙ ap words_of (sym (flat_back f c.flat)) };
  }
