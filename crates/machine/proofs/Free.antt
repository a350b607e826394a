-- The two free figures of sum: neither is above L, and an announcement that nothing but L can hinder is accepted exactly if its figure is above 0.
use Prim.Native.Nat.{ℕ, suc, ◌+◌, ◌-◌, ◌≤◌, ◌<◌}
use mathlib.Core.Path.{◌≡◌, refl, sym, ap, ◌∙◌}
use mathlib.Core.Logic.{inl, inr}
use mathlib.Core.Bool.{Bool, true, false, ◌||◌}
use mathlib.Core.List.{List, [], ◌∷◌, ◌++◌}
use mathlib.Core.Option.{some}
use native.Mathlib.Omega.{arith}
use lib.Dec.{ltb, leb}
use lib.ListN.{length, length-append}
use borrow.Author.Tests.{leb-true, leb-false, lt-ltb}
use Rattle.std.specs.Prelude.{if◌then◌else◌}
use Rattle.ident.specs.Number.{Key, key_of}
use Rattle.machine.specs.Limits.{Limits, max_peer_announcements}
use Rattle.machine.specs.State.{Candidate, Request, Table, State, Entry, Answer, refused, done, limits_of, owner_is}
use Rattle.machine.specs.Table.{any, one, total, count_in, held, held_by, held_at}
use Rattle.machine.specs.Announce.{push, victims_in, victims, anywhere, greatest, evicting, announce_at, announce_keyed}
use Rattle.machine.specs.Wrapper.{evictable, Sums, sum}
use Rattle.machine.specs.Call.{Announce}
use Rattle.machine.specs.Step.{Number, perform}
use Rattle.machine.specs.Sound.{Sound}
use Rattle.machine.specs.Free.{free_for, Unhindered, FreeFigures}
use Rattle.machine.proofs.Tests.{test, by_test}

-- ---- neither is above L

evictable_in : (r : Request) (cs : List Candidate) → length (victims_in r cs) ≤ count_in (any r.key) cs
unfolding victims_in count_in
evictable_in r [] = omega arith
evictable_in r (c ∷ cs) =
    by_test (λ (l : List Entry). length l ≤ 1 + count_in (any r.key) cs) (c.preferred || owner_is c.connection r.owner) (λ e. omega (arith, evictable_in r cs))
    (λ e. omega (arith, evictable_in r cs))

pub evictable_few : (t : Table) → evictable t ≤ held t
unfolding victims total
evictable_few [] = omega arith
evictable_few (r ∷ t) = omega (arith, length-append (victims_in r r.candidates) (victims anywhere t), evictable_in r r.candidates, evictable_few t)

figures-most : (s : State) → held s.table ≤ s.limit → (p : Bool) → free_for p (sum s) ≤ s.limit
unfolding sum
figures-most s f true = omega (arith, evictable_few s.table)
figures-most s f false = omega arith

-- ---- who enters

-- "It gets 0 exactly if there is none."
evicts_if : (l : List Entry) (k : Key) (c : Candidate) (t : Table) → (evicting (greatest l) k c t).reply ≡ ltb 0 (length l)
unfolding evicting greatest
evicts_if [] k c t = refl
evicts_if (v ∷ l) k c t = sym (lt-ltb 0 (suc (length l)) (omega arith))

below : (m n : ℕ) → m < n → leb n m ≡ false
below m n l = elim (test (leb n m)) [ inl e ↦ absurd (omega (arith, leb-true n m e)) | inr e ↦ e ]

module _ (s : State) (k : Key) (c : Candidate) (u : Unhindered (limits_of s) k c s.table) where
  -- what is left of the tests of an announcement
  only_limit : announce_at (limits_of s) k c s.table ≡ (if leb s.limit (held s.table) then (if c.preferred then evicting (greatest (victims anywhere s.table)) k c s.table
      else refused s.table) else done (push k c s.table))
  unfolding announce_at
  only_limit = rw (u.new, below (held_by c.connection s.table) max_peer_announcements u.below_5000, below (held_at k.hash s.table) (limits_of s).alternates u.below_eight)

  full : (p : Bool) → s.limit ≤ held s.table → (if p then evicting (greatest (victims anywhere s.table)) k c s.table else refused s.table).reply ≡ ltb 0 (free_for p (sum s))
  unfolding sum
  full true f =
      let e : evictable s.table ≡ free_for true (sum s) = omega arith in
      evicts_if (victims anywhere s.table) k c s.table ∙ ap (ltb 0) e
  full false f = let e : 0 ≡ free_for false (sum s) = omega arith in ap (ltb 0) e

  room : (p : Bool) → held s.table < s.limit → true ≡ ltb 0 (free_for p (sum s))
  unfolding sum
  room true f = sym (lt-ltb 0 (free_for true (sum s)) (omega arith))
  room false f = sym (lt-ltb 0 (free_for false (sum s)) (omega arith))

  pub enters_if : (announce_at (limits_of s) k c s.table).reply ≡ ltb 0 (free_for c.preferred (sum s))
  enters_if =
      ap (λ (a : Answer). a.reply) only_limit
      ∙ by_test (λ (a : Answer). a.reply ≡ ltb 0 (free_for c.preferred (sum s))) (leb s.limit (held s.table)) (λ e. full c.preferred (leb-true s.limit (held s.table) e))
      (λ e. room c.preferred (leb-false s.limit (held s.table) e))

pub free-figures : (s : State) → Sound s → FreeFigures s
unfolding perform announce_keyed
free-figures s w = record { most = figures-most s w.bounded.fits; enters = λ k c e u. rw e (ap (λ (b : Bool). Number (one b)) (enters_if s k c u)) }
