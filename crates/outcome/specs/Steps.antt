-- What a public call leaves of a sound store, by the machine's step.
use Rattle.std.specs.Prelude.{ℕ, ◌≡◌, List, length, take, drop}
use Rattle.words.specs.Words.{bytes_of}
use Rattle.machine.specs.Step.{Outcome}
use Rattle.store.specs.Image.{image, SoundStore, Bytes, need_of}
use Rattle.outcome.specs.Outcome.{Effect}

-- e, left of the store b, is what the machine's outcome o says
pub record Stepped (b : List ℕ) (o : Outcome) (e : Effect) : Type 0 where
  pub reply : e.reply ≡ o.reply
  pub buffer : e.buffer ≡ o.buffer
  pub sound : SoundStore e.store
  pub state : sound.state ≡ o.state
  pub bytes : Bytes e.store
  pub long : length e.store ≡ length b
  -- "the store, as far as its need, is the byte image of its state"; "bytes past the need .. stay"
  pub front : take (need_of o.state) e.store ≡ bytes_of (image o.state)
  pub back : drop (need_of o.state) e.store ≡ drop (need_of o.state) b
