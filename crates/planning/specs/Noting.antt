-- What the contracts of the first phase say: the parents noted of the places that are set apart, considered place by place.
use Rattle.std.specs.Prelude.{ℕ, ◌+◌, ◌*◌, ◌≤◌, ◌<◌, ◌≡◌, List, [], length, take, drop, get_or}
use Rattle.places.specs.Places.{Place, list_most}
use Rattle.machine.specs.Typed.{Each}
use Rattle.store.specs.Shown.{Kept}
use Rattle.apart.specs.Apart.{Slot, plain, Slots, ClearFrom}
use Rattle.apart.specs.Lapsing.{noted_of, noted}
use Rattle.selecting.specs.declared.Scan.{Scan}
use Rattle.selecting.specs.Phasing.{Roomy, Scans, Phased}

-- what stands whatever the places are: the bytes behind m stay
pub record Ahead (b b' : List ℕ) (m n : ℕ) (v w : Scan) : Type 0 where
  pub rest : drop m b' ≡ drop m b
  pub kept : Kept (take m b')
  pub roomy : Roomy w
  pub near : w.considered ≤ v.considered + n

-- places with no more parents than there is room for
abbrev pub Short : List Place → Type 0
Short ps = Each (λ p. length p.parents ≤ list_most) ps

-- the parents noted of the i-th place are considered
pub record PlaceScans (b b' f : List ℕ) (m i : ℕ) (p p' : List ℕ) (now : ℕ) (v w : Scan) : Type 0 where
  pub ahead : Ahead b b' m list_most v w
  pub goes : (Q : ℕ) (xs : List Slot) (d : Slot) → i < length xs → Slots b f m Q xs → Short (plain xs) → Scans (take m b) (take m b') p p' now (λ st. noted_of (get_or xs i d)) (λ st. []) v w list_most

-- of e places those noted of the first i
pub record NotedScans (b b' f : List ℕ) (m e i : ℕ) (p p' : List ℕ) (now : ℕ) (v w : Scan) : Type 0 where
  pub ahead : Ahead b b' m (list_most * i) v w
  pub goes : (Q : ℕ) (xs : List Slot) → e ≤ length xs → Slots b f m Q xs → Short (plain xs)
      → Scans (take m b) (take m b') p p' now (λ st. noted xs) (λ st. noted (drop i xs)) v w (list_most * i)

-- a whole phase over them
pub record NotedPhased (b b' f : List ℕ) (m e : ℕ) (p p' : List ℕ) (now : ℕ) (v w : Scan) : Type 0 where
  pub rest : drop m b' ≡ drop m b
  pub kept : Kept (take m b')
  pub near : w.considered ≤ v.considered + list_most * e
  pub goes : (Q : ℕ) (xs : List Slot) → e ≤ length xs → ClearFrom e xs → Slots b f m Q xs → Short (plain xs) → Phased (take m b) (take m b') p p' now (λ st. noted xs) v w (list_most * e)
