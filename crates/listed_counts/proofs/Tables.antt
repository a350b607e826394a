-- What the passes tell of the table that the lines list.
use Prim.Native.Nat.{ℕ, suc, ◌≤◌}
use mathlib.Core.Path.{◌≡◌, refl, sym, ap, subst, ◌∙◌}
use mathlib.Core.Bool.{Bool, true, false, ◌&&◌}
use mathlib.Core.List.{List, [], ◌∷◌}
use mathlib.Core.Option.{Option, none, some}
use native.Mathlib.Omega.{arith}
use lib.ListN.{length, length-append}
use borrow.Author.Tests.{leb-true}
use Rattle.ident.specs.Number.{Key}
use Rattle.words.specs.Words.{Decides}
use Rattle.machine.specs.Limits.{max_announcements}
use Rattle.machine.specs.State.{Candidate, Owner, Table}
use Rattle.machine.specs.Table.{count_in, total, any, held}
use Rattle.machine.specs.SoundTest.{every, is_filled}
use Rattle.machine.proofs.Tests.{and_left, and_right}
use Rattle.heavy.specs.Counters.{none_above, sum, Few}
use Rattle.heavy.specs.Streams.{connections_of, connections_in, owners_of, owners_in}
use Rattle.heavy.proofs.Frequent.{heavy-decides, length_named}
use Rattle.heavy.proofs.Streams.{held_few, few_held, owned_few, few_owned}
use Rattle.heavy.proofs.ListedStreams.{lines-connections, lines-owners}
use Rattle.listed_form.specs.Given.{Body, requests_only}
use Rattle.listed_counts.specs.Passes.{stream, NotesAll, CountsAll, Verdict, Light, LightRead}

-- ---- both passes

pub passes-tell : {b : List ℕ} {from most : ℕ} {o : Bool} {ns ks ns' zs zs' : List ℕ} {r : Bool} → NotesAll b from o ns ks ns' → CountsAll b from o ns' zs zs' → r ≡ none_above most zs'
    → length ns ≡ length ks → sum ks ≡ 0 → length ns' ≡ length zs → sum zs ≡ 0 → Verdict b from o most (length ks) r
passes-tell {most = most} {o = o} {ns = ns} {ks = ks} {zs = zs} n c e d z w y =
    record {
      is = λ q v h. let l : length zs ≡ length ks = sym w ∙ ap length (n.is q v) ∙ length_named (stream o v.lines) ns ks ∙ d in
          rw (e, c.is q v, n.is q v) (heavy-decides most (stream o v.lines) ns ks zs d z l y h);
    }

pub verdict_with : {b : List ℕ} {from most k m : ℕ} {o r : Bool} → k ≡ m → Verdict b from o most k r → Verdict b from o most m r
verdict_with e v = rw (← e) v

-- ---- how many numbers there are

candidates_all : (k : Key) (cs : List Candidate) → count_in (any k) cs ≡ length cs
unfolding count_in
candidates_all k [] = refl
candidates_all k (c ∷ cs) = omega (arith, candidates_all k cs)

length_of : (cs : List Candidate) → length (connections_of cs) ≡ length cs
length_of [] = refl
length_of (c ∷ cs) = ap suc (length_of cs)

length-connections : (t : Table) → length (connections_in t) ≡ held t
unfolding total connections_in
length-connections [] = refl
length-connections (r ∷ t) =
    omega (arith, length-append (connections_of r.candidates) (connections_in t), length_of r.candidates, candidates_all r.key r.candidates, length-connections t)

length-owner : (o : Option Owner) → length (owners_of o) ≤ 1
length-owner none = omega arith
length-owner (some o) = omega arith

-- a request with a candidate has one owner at most
length-owners : (t : Table) → every is_filled t ≡ true → length (owners_in t) ≤ held t
unfolding total owners_in every
length-owners [] e = omega arith
length-owners (r ∷ t) e =
    omega (
      arith,
      length-append (owners_of r.owner) (owners_in t),
      length-owner r.owner,
      leb-true 1 (length r.candidates) (and_left (is_filled r) (every is_filled t) e),
      candidates_all r.key r.candidates,
      length-owners t (and_right (is_filled r) (every is_filled t) e),
    )

-- ---- the table of the lines

module _ {b : List ℕ} {from : ℕ} {t : Table} (y : Body b from (requests_only t)) where
  connections-are : stream false y.lines ≡ connections_in t
  unfolding stream
  connections-are = lines-connections y.lines (requests_only t) y.list

  owners-are : stream true y.lines ≡ owners_in t
  unfolding stream
  owners-are = lines-owners y.lines (requests_only t) y.list

  module _ {r : Bool} (h : held t ≤ max_announcements) where
    few_connections : Verdict b from false 5000 19 r → Decides r (Few 5000 (connections_in t))
    few_connections v =
        let d = v.is _ y (omega (arith, ap length connections-are, length-connections t)) in
        subst (λ (xs : List ℕ). Decides r (Few 5000 xs)) connections-are d

    few_owners : every is_filled t ≡ true → Verdict b from true 100 999 r → Decides r (Few 100 (owners_in t))
    few_owners f v =
        let d = v.is _ y (omega (arith, ap length owners-are, length-owners t f)) in
        subst (λ (xs : List ℕ). Decides r (Few 100 xs)) owners-are d

-- both verdicts
pub light-told : {b : List ℕ} {from : ℕ} {x y : Bool} → Verdict b from false 5000 19 x → Verdict b from true 100 999 y → LightRead b from (x && y)
light-told {b} {from} {x} {y} v w = record { is = λ t z h f. by t x y (few_connections z h v) (few_owners z h f w) }
  where
    by : (t : Table) (x y : Bool) → Decides x (Few 5000 (connections_in t)) → Decides y (Few 100 (owners_in t)) → Decides (x && y) (Light t)
    by t true true d g = record { held = held_few 5000 t d; owned = owned_few 100 t g }
    by t true false d g = λ l. g (few_owned 100 t l.owned)
    by t false y d g = λ l. d (few_held 5000 t l.held)
