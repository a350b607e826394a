-- The tests that calls share, one by one and in turn.
use Prim.Native.Nat.{ℕ, zero, suc, ◌≤◌, ◌<◌}
use mathlib.Core.Path.{◌≡◌, refl, sym, ap, ◌∙◌}
use mathlib.Core.Logic.{inl, inr}
use mathlib.Core.Bool.{Bool, true, false, not, ◌&&◌}
use mathlib.Core.List.{List, [], ◌∷◌}
use native.Mathlib.Omega.{arith}
use lib.Dec.{ltb, leb, eqb}
use lib.ListN.{length}
use borrow.Author.Tests.{lt-ltb, le-ltb, lt-leb, le-leb, leb-false, ne_eqb, ltb-false}
use Rattle.std.specs.Prelude as rust
use Rattle.std.specs.Prelude.{if◌then◌else◌, MatchOption, ok_or}
use Rattle.ident.specs.declared.connection.Connection.{Connection}
use Rattle.machine.specs.declared.clock.Clock.{Clock}
use Rattle.machine.specs.Limits.{max_parents, latest_clock}
use Rattle.machine.specs.State.{State}
use Rattle.machine.specs.Table.{places_held}
use Rattle.machine.specs.Claim.{elem}
use Rattle.machine.specs.Call.{Ask, Named, named, any_late, takes_place, wrong_hashes, late, ask_refusal}
use Rattle.machine.proofs.Tests.{test}
use Rattle.outcome.specs.declared.refusal.Refusal.{Refusal}
use Rattle.outcome.specs.declared.refusal.Refusal.TheVariants.{StoreTooShort, SizesOutOfRange, NotSound, NoConnection, NowTooLate, TooManyParents}
use Rattle.outcome.specs.declared.refusal.Refusal.TheVariants.{AnswerTooShort, NoPlace, UnreadableLine, BadPayload, NotAListing, ListingNotSound, WrongHashes}
use Rattle.outcome.specs.Refusals.{number_of, refusal_in}
use Rattle.outcome.specs.Tests.{first_of, of_connections, of_clocks, of_parents, of_buffer, of_place, in_turn, of_hashes, hashes_in_turn}

-- ---- what a test answers

pub connection_none : (n : ℕ) → n ≡ 0 → 4 ≡ of_connections (n ∷ [])
unfolding of_connections elem
connection_none n e = rw e

pub connection_some : (n : ℕ) → (n ≡ 0 → ⊥) → 0 ≡ of_connections (n ∷ [])
unfolding of_connections elem
connection_some n h = rw (ne_eqb n 0 h)

pub clock-late : (t : ℕ) → latest_clock < t → 5 ≡ of_clocks (t ∷ [])
unfolding of_clocks any_late
clock-late t h = rw (lt-ltb latest_clock t h)

pub clock_early : (t : ℕ) → t ≤ latest_clock → 0 ≡ of_clocks (t ∷ [])
unfolding of_clocks any_late
clock_early t h = rw (le-ltb latest_clock t h)

pub parents-many : (n : ℕ) → max_parents < n → 6 ≡ of_parents n
unfolding of_parents
parents-many n h = rw (lt-ltb max_parents n h)

pub parents_few : (n : ℕ) → n ≤ max_parents → 0 ≡ of_parents n
unfolding of_parents
parents_few n h = rw (le-ltb max_parents n h)

pub buffer-short : (l n : ℕ) → l < n → 7 ≡ of_buffer l n
unfolding of_buffer
buffer-short l n h = rw (lt-ltb l n h)

pub buffer-long : (l n : ℕ) → n ≤ l → 0 ≡ of_buffer l n
unfolding of_buffer
buffer-long l n h = rw (le-ltb l n h)

-- a place is taken, or not
pub place_untaken : (places held : ℕ) → 0 ≡ of_place false places held
unfolding of_place
place_untaken places held = refl

pub place_held : (places held : ℕ) → places ≤ held → 8 ≡ of_place true places held
unfolding of_place
place_held places held h = rw (le-leb places held h)

pub place-free : (places held : ℕ) → held < places → 0 ≡ of_place true places held
unfolding of_place
place-free places held h = rw (lt-leb places held h)

-- hashes and a buffer
pub hashes-wrong : (hs : List ℕ) (long needs : ℕ) → true ≡ wrong_hashes hs → 13 ≡ hashes_in_turn hs long needs
unfolding of_hashes
hashes-wrong hs long needs e = rw (← e)

-- ---- and what its 0 says

pub some_connection : (n : ℕ) → 0 ≡ of_connections (n ∷ []) → 1 ≤ n
unfolding of_connections elem
some_connection zero e = absurd (omega (arith, e))
some_connection (suc n) e = omega arith

pub early_clock : (t : ℕ) → 0 ≡ of_clocks (t ∷ []) → t ≤ latest_clock
unfolding of_clocks any_late
early_clock t e = elim (test (ltb latest_clock t)) [ inl d ↦ absurd (omega (arith, rw d at e)) | inr d ↦ ltb-false latest_clock t d ]

pub few_parents : (n : ℕ) → 0 ≡ of_parents n → n ≤ max_parents
unfolding of_parents
few_parents n e = elim (test (ltb max_parents n)) [ inl t ↦ absurd (omega (arith, rw t at e)) | inr t ↦ ltb-false max_parents n t ]

pub long-buffer : (l n : ℕ) → 0 ≡ of_buffer l n → n ≤ l
unfolding of_buffer
long-buffer l n e = elim (test (ltb l n)) [ inl t ↦ absurd (omega (arith, rw t at e)) | inr t ↦ ltb-false l n t ]

pub free-place : (places held : ℕ) → 0 ≡ of_place true places held → held < places
unfolding of_place
free-place places held e = elim (test (leb places held)) [ inl t ↦ absurd (omega (arith, rw t at e)) | inr t ↦ leb-false places held t ]

-- ---- a refusal's number is not 0

pub never_none : (r : Refusal) → number_of r ≡ 0 → ⊥
never_none StoreTooShort e = omega arith
never_none SizesOutOfRange e = omega arith
never_none NotSound e = omega arith
never_none NoConnection e = omega arith
never_none NowTooLate e = omega arith
never_none TooManyParents e = omega arith
never_none AnswerTooShort e = omega arith
never_none NoPlace e = omega arith
never_none UnreadableLine e = omega arith
never_none BadPayload e = omega arith
never_none NotAListing e = omega arith
never_none ListingNotSound e = omega arith
never_none WrongHashes e = omega arith

-- ---- in turn

pub first_some : (a b : ℕ) → (a ≡ 0 → ⊥) → a ≡ first_of a b
first_some zero b h = absurd (h refl)
first_some (suc a) b h = refl

-- the first test refuses, or has nothing against the call
pub first-refused : {a : ℕ} (r : Refusal) (b : ℕ) → number_of r ≡ a → number_of r ≡ first_of a b
first-refused r b q = rw (← q) (first_some (number_of r) b (never_none r))

pub first-passed : {n a b : ℕ} → 0 ≡ a → n ≡ b → n ≡ first_of a b
first-passed q p = rw (← q) p

pub first_none : (a : ℕ) → first_of a 0 ≡ a
first_none zero = refl
first_none (suc a) = refl

-- a test by itself is all of them in turn, of a call that names nothing else
pub connection_only : (n : ℕ) → of_connections (n ∷ []) ≡ in_turn (n ∷ []) [] 0 0 0
unfolding of_clocks of_parents of_buffer any_late
connection_only n = sym (first_none (first_of (of_connections (n ∷ [])) 0) ∙ first_none (of_connections (n ∷ [])))

pub clock_only : (t : ℕ) → of_clocks (t ∷ []) ≡ in_turn [] (t ∷ []) 0 0 0
unfolding of_connections of_parents of_buffer elem
clock_only t = sym (first_none (of_clocks (t ∷ [])))

pub buffer_only : (l n : ℕ) → of_buffer l n ≡ in_turn [] [] 0 l n
unfolding of_connections of_clocks of_parents elem any_late
buffer_only l n = refl

-- the two that give what they have tested
pub connection-tested : (o : rust.Option Connection) (n : ℕ) → MatchOption o (n ≡ 0) (λ c. c.number ≡ n) → refusal_in (ok_or o NoConnection) ≡ in_turn (n ∷ []) [] 0 0 0
connection-tested rust.None n h = connection_none n h ∙ connection_only n
connection-tested (rust.Some c) n h = connection_some n (λ z. omega (arith, c.positive, h, z)) ∙ connection_only n

pub clock-tested : (o : rust.Option Clock) (t : ℕ) → MatchOption o (latest_clock < t) (λ c. c.time ≡ t) → refusal_in (ok_or o NowTooLate) ≡ in_turn [] (t ∷ []) 0 0 0
clock-tested rust.None t h = clock-late t h ∙ clock_only t
clock-tested (rust.Some c) t h = clock_early t (omega (arith, c.early, h)) ∙ clock_only t

-- tests 4 and 5 alone
named-alone : (n t : ℕ) → in_turn (n ∷ []) (t ∷ []) 0 0 0 ≡ first_of (of_connections (n ∷ [])) (of_clocks (t ∷ []))
unfolding of_parents of_buffer
named-alone n t = first_none (first_of (of_connections (n ∷ [])) (of_clocks (t ∷ [])))

-- and one after the other
pub both_named : (n t : ℕ) → first_of (in_turn (n ∷ []) [] 0 0 0) (in_turn [] (t ∷ []) 0 0 0) ≡ in_turn (n ∷ []) (t ∷ []) 0 0 0
both_named n t = rw (← connection_only n, ← clock_only t) (sym (named-alone n t))

pub sizes-named : (n t parents long needs : ℕ) → first_of (in_turn (n ∷ []) (t ∷ []) 0 0 0) (first_of (of_parents parents) (in_turn [] [] 0 long needs)) ≡ in_turn (n ∷ []) (t ∷ []) parents long needs
sizes-named n t parents long needs = rw (← buffer_only long needs) (ap (λ (x : ℕ). first_of x (first_of (of_parents parents) (of_buffer long needs))) (named-alone n t))

-- a clock and a buffer
clock-buffer : (t long needs : ℕ) → first_of (of_clocks (t ∷ [])) (of_buffer long needs) ≡ in_turn [] (t ∷ []) 0 long needs
unfolding of_connections of_parents elem
clock-buffer t long needs = refl

pub clock-sized : (t long needs : ℕ) → first_of (in_turn [] (t ∷ []) 0 0 0) (in_turn [] [] 0 long needs) ≡ in_turn [] (t ∷ []) 0 long needs
clock-sized t long needs = (λ i. first_of (sym (clock_only t) i) (sym (buffer_only long needs) i)) ∙ clock-buffer t long needs

-- connections and a buffer
pub connections-zero : (ns : List ℕ) (long needs : ℕ) → true ≡ elem 0 ns → 4 ≡ in_turn ns [] 0 long needs
unfolding of_connections
connections-zero ns long needs e = rw (← e)

pub connections-sized : (ns : List ℕ) (long needs : ℕ) → false ≡ elem 0 ns → in_turn [] [] 0 long needs ≡ in_turn ns [] 0 long needs
unfolding of_connections elem
connections-sized ns long needs e = rw (← e)

-- hashes and a buffer
pub hashes-sized : (hs : List ℕ) (long needs : ℕ) → false ≡ wrong_hashes hs → in_turn [] [] 0 long needs ≡ hashes_in_turn hs long needs
unfolding of_hashes
hashes-sized hs long needs e = rw (← e, ← buffer_only long needs)

-- a call that names nothing
pub nothing-named : 0 ≡ in_turn [] [] 0 0 0
unfolding of_connections of_clocks of_parents of_buffer elem any_late
nothing-named = refl

pub first_left : (a b : ℕ) → first_of a b ≡ 0 → a ≡ 0
first_left zero b e = refl
first_left (suc a) b e = e

pub first_right : (a b : ℕ) → first_of a b ≡ 0 → b ≡ 0
first_right zero b e = e
first_right (suc a) b e = absurd (omega arith)

-- the need is said in other words
pub sized : (ns ts : List ℕ) (parents long : ℕ) {needs needs' r : ℕ} → r ≡ in_turn ns ts parents long needs → needs ≡ needs' → r ≡ in_turn ns ts parents long needs'
sized ns ts parents long q e = q ∙ ap (in_turn ns ts parents long) e

-- what a call may rely on that passed them
pub record Passed (ns ts : List ℕ) (parents long needs : ℕ) : Type 0 where
  pub connections : 0 ≡ of_connections ns
  pub clocks : 0 ≡ of_clocks ts
  pub few : parents ≤ max_parents
  pub room : needs ≤ long

pub passed : {ns ts : List ℕ} {parents long needs : ℕ} → 0 ≡ in_turn ns ts parents long needs → Passed ns ts parents long needs
passed {ns} {ts} {parents} {long} {needs} q =
    let x = first_left (first_of (of_connections ns) (of_clocks ts)) (first_of (of_parents parents) (of_buffer long needs)) (sym q) in
    let y = first_right (first_of (of_connections ns) (of_clocks ts)) (first_of (of_parents parents) (of_buffer long needs)) (sym q) in
    record {
      connections = sym (first_left (of_connections ns) (of_clocks ts) x);
      clocks = sym (first_right (of_connections ns) (of_clocks ts) x);
      few = few_parents parents (sym (first_left (of_parents parents) (of_buffer long needs) y));
      room = long-buffer long needs (sym (first_right (of_parents parents) (of_buffer long needs) y));
    }

-- what a call may rely on that passed the test of its hashes
pub record PassedHashes (hs : List ℕ) (long needs : ℕ) : Type 0 where
  pub right : wrong_hashes hs ≡ false
  pub room : needs ≤ long

pub passed-hashes : {hs : List ℕ} {long needs : ℕ} → 0 ≡ hashes_in_turn hs long needs → PassedHashes hs long needs
passed-hashes {hs} {long} {needs} q = record {
  right = right_hashes hs (first_left (of_hashes hs) (of_buffer long needs) (sym q));
  room = long-buffer long needs (sym (first_right (of_hashes hs) (of_buffer long needs) (sym q)));
}
  where
    right_hashes : (hs : List ℕ) → of_hashes hs ≡ 0 → wrong_hashes hs ≡ false
    right_hashes hs e = unfold of_hashes in elim (test (wrong_hashes hs)) [ inl d ↦ absurd (omega (arith, rw d at e)) | inr d ↦ d ]

turns : (a b c : Bool) (n : ℕ) (d e : Bool) → (if a then 4 else if b then 5 else if c then 6 else if not (eqb n 0) then n else if d then 7 else if e then 8 else 0)
    ≡ first_of (first_of (first_of (if a then 4 else 0) (if b then 5 else 0)) (first_of (if c then 6 else 0) (first_of n (if d then 7 else 0)))) (if e then 8 else 0)
turns true b c n d e = refl
turns false true c n d e = refl
turns false false true n d e = refl
turns false false false (suc n) d e = rw (ne_eqb (suc n) 0 (λ z. omega arith))
turns false false false zero true e = refl
turns false false false zero false true = refl
turns false false false zero false false = refl

-- "Other calls test 3 to 8 in turn", and 13 before 7
module _ (a : Ask) (s : State) where
  abbrev w : Named
  w = named a s

  pub whole_turn : ask_refusal true a s
      ≡ first_of (first_of (first_of (of_connections w.connections) (of_clocks w.clocks)) (first_of (of_parents w.parents) (first_of (late a s) (of_buffer (length w.buffer) w.needs))))
      (of_place (takes_place a s) s.places (places_held s.table))
  unfolding ask_refusal of_connections of_clocks of_parents of_buffer of_place
  whole_turn =
      turns
      (elem 0 w.connections)
      (any_late w.clocks)
      (ltb max_parents w.parents)
      (late a s)
      (ltb (length w.buffer) w.needs)
      (takes_place a s && leb s.places (places_held s.table))

  -- of a call that names no hashes
  pub timely_turn : late a s ≡ 0 → ask_refusal true a s
      ≡ first_of (in_turn w.connections w.clocks w.parents (length w.buffer) w.needs) (of_place (takes_place a s) s.places (places_held s.table))
  timely_turn e = whole_turn ∙ rw e

  -- and takes no place
  pub in-turn : late a s ≡ 0 → takes_place a s ≡ false → ask_refusal true a s ≡ in_turn w.connections w.clocks w.parents (length w.buffer) w.needs
  unfolding of_place
  in-turn l e = timely_turn l ∙ rw e (first_none (in_turn w.connections w.clocks w.parents (length w.buffer) w.needs))
