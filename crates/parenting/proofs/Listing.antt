-- announce_parents where parents wait beside the store: the laws of parents listed one by one, of what stands then.
use Prim.Native.Nat.{ℕ}
use mathlib.Core.Path.{◌≡◌, sym, subst}
use mathlib.Core.Bool.{false}
use mathlib.Core.List.{List}
use Rattle.words.specs.Words.{words}
use Rattle.machine.specs.State.{State, Table}
use Rattle.machine.specs.Sound.{Sound}
use Rattle.machine.proofs.Tests.{never}
use Rattle.store.specs.Image.{Writes}
use Rattle.announcing.proofs.Listing.{OneMore, Turned}
use Rattle.gathering.specs.Aside.{Empty}
use Rattle.gathering.specs.declared.rows.Waiting.{Waiting}
use Rattle.parenting.specs.declared.displacing.Known.{Known}
use Rattle.parenting.specs.Displacing.{Reserve, reserve_of, unlisted, Further, Supplied, FurtherIn}
use Rattle.parenting.proofs.Starting.{supplied_none}

-- d parents wait beside the bytes s, and q says what is known of the victims
abbrev pub supplied_in : ℕ → List ℕ → List ℕ → List ℕ → ℕ → Reserve → State → Table → Type 0
supplied_in n s w v d q st t = Supplied n s w v d st t q

-- nobody waits, and nothing is known
pub supplied_at_first : {n d : ℕ} {s w : List ℕ} (v : List ℕ) {q : Reserve} → (d ≡ 0) × Empty w → q ≡ unlisted false → (st : State) → Sound st → Writes s st
    → Supplied n s w v d st st.table q
supplied_at_first {n} {d} {s} {w} v {q} e k st g o =
    subst (λ (x : ℕ). Supplied n s w v x st st.table q) (sym e.0) (subst (Supplied n s w v 0 st st.table) (sym k) (supplied_none v g o e.1 false (λ y. never y)))

pub one_further : {n now h i : ℕ} {s s₁ w w₁ v v₁ : List ℕ} {d : ℕ} {q : Reserve} {r : Further} → FurtherIn n now h i s s₁ w w₁ v v₁ d q r
    → OneMore n now h i r.kept (supplied_in n s w v d q) (supplied_in n s₁ w₁ v₁ r.waiting r.reserve)
one_further f = record { reply = λ st t g x. (f st t x).reply; table = λ st t g x. (f st t x).supplied }

-- the same of values that two ways of the code bring together
pub supplied_as : {n now kept kept' priority priority' i : ℕ} {hs s₀ s s' u₀ u u' : List ℕ} {new new' : Waiting} {q q' : Known} → s' ≡ s → u' ≡ u → new' ≡ new → q' ≡ q → kept' ≡ kept
    → priority' ≡ priority → Turned n now hs s₀ u₀ u kept priority i (supplied_in n s (words new.bytes) (words q.listed.bytes) new.count (reserve_of q))
    → Turned n now hs s₀ u₀ u' kept' priority' i (supplied_in n s' (words new'.bytes) (words q'.listed.bytes) new'.count (reserve_of q'))
supplied_as a b c d e f v = rw (a, b, c, d, e, f) v
