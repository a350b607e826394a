-- Two requests of one hash, in the code's words.
use Prim.Native.Nat.{ℕ, ◌<◌, ◌≤◌}
use mathlib.Core.Path.{◌≡◌, refl, sym, ap, ◌∙◌}
use mathlib.Core.Bool.{Bool, false, not, ◌&&◌}
use mathlib.Core.List.{List, ◌++◌, map-append}
use native.Mathlib.Omega.{arith}
use lib.ListN.{length, take, length-append}
use borrow.Author.Tests.{le-leb, lt-leb}
use Rattle.std.specs.Prelude.{Option as Maybe, Some, None, is_some}
use Rattle.ident.specs.Number.{Key}
use Rattle.machine.specs.Limits.{max_alternates}
use Rattle.machine.specs.State.{Candidate}
use Rattle.machine.specs.SoundTest.{no_repeat}
use Rattle.machine.specs.Listing.{Rest}
use Rattle.machine.proofs.Tests.{never}
use Rattle.heavy.specs.Streams.{connections_of}
use Rattle.listed_lines.specs.declared.line.Request as line-request
use Rattle.listed_form.specs.Given.{Body, requests_only}
use Rattle.listed_requests.specs.Parts.{few_once}
use Rattle.listed_requests.specs.declared.candidates.Gathered.{Gathered}
use Rattle.listed_requests.specs.Given.{Gathers}
use Rattle.listed_pairs.specs.Given.{Skips, SideBySide}

pub skips : {b : List ℕ} {from : ℕ} {k : Key} {w w' : List ℕ} {r : Maybe Gathered} {end : ℕ} → Gathers b from k 0 w w' r end → Skips b from end
skips {b} {from} {k} {w} {w'} {r} {end} a = record { on = a.on; is = λ q y h. by r a q y h }
  where
    by : (r : Maybe Gathered) → Gathers b from k 0 w w' r end → (q : Rest) → Body b from q → length q.candidates ≤ max_alternates → Body b end (requests_only q.table)
    by None a q y h = absurd (omega (arith, a.many refl q y))
    by (Some g) a q y h = (a.all.whole q y).body

-- both have an owner
abbrev owned : line-request.Request → line-request.Request → Bool
owned r w = is_some r.owner && is_some w.owner

over : (x : Bool) (cs : List Candidate) → max_alternates < length cs → false ≡ (few_once max_alternates cs && x)
unfolding few_once
over x cs h = sym (rw (lt-leb (length cs) max_alternates h))

module _ {b : List ℕ} {from : ℕ} {r : line-request.Request} {to : ℕ} {w : line-request.Request} {k : Key} {u v : List ℕ} {e : ℕ} where
  pub first_many : Gathers b from k 0 u v None e → SideBySide b from r to w false e to
  first_many a = record {
    on = a.on;
    on2 = omega arith;
    is = λ q p y z. over (not (owned r w)) (q.candidates ++ p.candidates) (omega (arith, a.many refl q y, length-append q.candidates p.candidates));
    first = λ q p y z e. never e;
    second = λ q p y z e. never e;
  }

  module _ {g : Gathered} (a : Gathers b from k 0 u v (Some g) e) {l : Key} {x : List ℕ} {d : ℕ} where
    pub both_many : Gathers b to l g.count v x None d → SideBySide b from r to w false e d
    both_many c = record {
      on = a.on;
      on2 = c.on;
      is = λ q p y z.
          over (not (owned r w)) (q.candidates ++ p.candidates) (omega (arith, c.many refl p z, (a.all.whole q y).count, length-append q.candidates p.candidates));
      first = λ q p y z e. never e;
      second = λ q p y z e. never e;
    }

    pub both_few : {h : Gathered} → Gathers b to l g.count v x (Some h) d → {once : Bool} → once ≡ no_repeat (take h.count x)
        → SideBySide b from r to w (once && not (owned r w)) e d
    unfolding few_once
    both_few {h} c {once} o = record {
      on = a.on;
      on2 = c.on;
      is = λ q p y z. ap (λ (t : Bool). t && not (owned r w)) (once_is q p y z);
      first = λ q p y z e. (a.all.whole q y).body;
      second = λ q p y z e. (c.all.whole p z).body;
    }
      where
        once_is : (q p : Rest) → Body b from q → Body b to p → once ≡ few_once max_alternates (q.candidates ++ p.candidates)
        once_is q p y z =
            let i = a.all.whole q y in
            let j = c.all.whole p z in
            let e : length (q.candidates ++ p.candidates) ≤ max_alternates = omega (arith, i.count, j.count, c.all.bound, length-append q.candidates p.candidates) in
            o ∙ ap no_repeat (j.connections ∙ ap (λ (t : List ℕ). t ++ connections_of p.candidates) i.connections
            ∙ sym (map-append (λ (t : Candidate). t.connection) q.candidates p.candidates))
            ∙ sym (ap (λ (t : Bool). t && no_repeat (connections_of (q.candidates ++ p.candidates))) (le-leb (length (q.candidates ++ p.candidates)) max_alternates e))
