-- What a core call is lent of a sound store: the bytes of its need.
use Rattle.std.specs.Prelude.{ℕ, ◌≤◌, ◌≡◌, List, length, take}
use Rattle.machine.specs.Limits.{need}
use Rattle.store.specs.Image.{SoundStore}
use Rattle.store.specs.Shown.{Kept}

-- n is the need of the store b: so many bytes are there, and they write a sound state
pub record Lent (b : List ℕ) (n : ℕ) : Type 0 where
  pub inside : n ≤ length b
  pub long : length (take n b) ≡ n
  pub kept : Kept (take n b)
  pub is : (w : SoundStore b) → n ≡ need w.state.limit w.state.places
