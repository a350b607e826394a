-- Three more shapes of reply beside those of proofs/Carried: of a call of which the Rust returns nothing, of one that only reads, and of one that counts.
use Prim.Native.Nat.{ℕ}
use mathlib.Core.Path.{◌≡◌, refl, sym, ap, subst}
use mathlib.Core.Bool.{true}
use mathlib.Core.List.{List, [], ◌++◌}
use lib.ListN.{take, drop}
use Rattle.machine.specs.Limits.{Limits}
use Rattle.machine.specs.State.{State, Table, done}
use Rattle.machine.specs.Sound.{Sound}
use Rattle.machine.specs.Call.{Ask, On}
use Rattle.machine.specs.Step.{Number, Result, perform, written}
use Rattle.store.specs.Image.{Writes, SoundStore, Bytes}
use Rattle.requests.specs.Changes.{Makes, Tells}
use Rattle.announcing.specs.Answers.{Answered}
use Rattle.claims.specs.Changes.{Becomes}
use Rattle.outcome.specs.Outcome.{Leaves}
use Rattle.outcome.specs.Tests.{in_turn}
use Rattle.outcome.specs.Lent.{Lent}
use Rattle.outcome.proofs.Contract.{does-nothing}
use Rattle.outcome.proofs.Carried.{Plain, passes, front_writes, does_front}

-- ---- "Where the Rust returns nothing, the reply is 1": a call that always answers yes

pub silent-answer : {b p : List ℕ} {g : Table → Table} → Makes b p (λ t. Unit {0}) g → Answered b p true (λ m t. done (g t))
silent-answer h = record { reply = λ st s w. refl; table = λ st s w. h st s w tt }

-- the same where the limits are looked at
pub silent-within : {b p : List ℕ} {g : Limits → Table → Table} → Becomes b p g → Answered b p true (λ m t. done (g m t))
silent-within h = record { reply = λ st s w. refl; table = h }

-- ---- calls that only read

-- what such a call names, and what it replies
pub record Reads (a : Ask) (ns ts : List ℕ) (f : Table → ℕ) : Type 0 where
  pub names : Plain a ns ts
  pub performs : (s : State) → perform a s ≡ record { reply = Number (f s.table); state = s }

pub reads_done : {a : Ask} {ns ts : List ℕ} {f : Table → ℕ} → Reads a ns ts f → {b : List ℕ} (v : SoundStore b) → 0 ≡ in_turn ns ts 0 0 0 → {n : ℕ} → Lent b n → Bytes b
    → {r : ℕ} → Tells (take n b) (λ t. r ≡ f t) → Leaves (On a) b b (Number r)
unfolding written
reads_done {a} k {b} v q e h g =
    let d = k.performs v.state in
    does-nothing b _ a v (passes k.names v q) (rw d (ap Number (g v.state v.sound (front_writes v e)))) (rw (d, k.names.are v.state)) (ap (λ (o : Result). o.state) d) h refl

-- ---- calls that reply a count

pub record Counts (a : Ask) (ns ts : List ℕ) (count : State → ℕ) (next : State → State) : Type 0 where
  pub names : Plain a ns ts
  pub performs : (s : State) → perform a s ≡ record { reply = Number (count s); state = next s }

pub counts_done : {a : Ask} {ns ts : List ℕ} {count : State → ℕ} {next : State → State} → Counts a ns ts count next → {b : List ℕ} (v : SoundStore b) → 0 ≡ in_turn ns ts 0 0 0
    → {n : ℕ} → Lent b n → {p : List ℕ} → Bytes (p ++ drop n b) → {r : ℕ} → ((s : State) → Sound s → Writes (take n b) s → r ≡ count s)
    → ((s : State) → Sound s → Writes (take n b) s → Writes p (next s)) → Leaves (On a) b (p ++ drop n b) (Number r)
unfolding written
counts_done {a} k v q e {p} h {r} c w =
    let d = k.performs v.state in
    let x = front_writes v e in
    let y = subst (λ (o : Result). Writes p o.state) (sym d) (w v.state v.sound x) in
    does_front v e a (passes k.names v q) p h (Number r) [] (rw d (ap Number (c v.state v.sound x))) (rw (d, k.names.are v.state)) y
