-- The candidates of a request, gathered line by line.
use Prim.Native.Nat.{ℕ, ◌+◌, ◌<◌, ◌≤◌}
use mathlib.Core.Path.{◌≡◌, refl, sym, ap, ◌∙◌}
use mathlib.Core.Bool.{Bool, true, ◌&&◌}
use mathlib.Core.List.{List, [], ◌∷◌, ◌++◌, append_assoc, append-nil, map-append}
use native.Mathlib.Numerals.{add-one}
use native.Mathlib.Omega.{arith}
use lib.ListN.{length, take, set, length-append}
use lib.Seq.{take-suc-set}
use Rattle.std.specs.Prelude.{Some, None}
use Rattle.ident.specs.Number.{Key}
use Rattle.machine.specs.State.{Candidate}
use Rattle.machine.specs.Listing.{Rest}
use Rattle.machine.specs.SoundTest.{fits, all_fit}
use Rattle.machine.proofs.Tests.{never}
use Rattle.heavy.specs.Streams.{connections_of}
use Rattle.listed_lines.specs.declared.line.Candidate as line-candidate
use Rattle.listed_lines.specs.Given.{candidate_in}
use Rattle.listed_form.specs.Given.{Body}
use Rattle.listed_requests.specs.Given.{TakesCandidate, NoCandidates, most_gathered, Whole, Gathers}
use Rattle.listed_requests.proofs.Fitting.{all_fit_none, all_fit_more}

-- ---- underway

-- of the candidates of q those of gone are gathered, up to index at
pub record Along (b : List ℕ) (k : Key) (n : ℕ) (w w' : List ℕ) (i : ℕ) (fit : Bool) (at : ℕ) (q : Rest) : Type 0 where
  pub gone : List Candidate
  pub left : List Candidate
  pub parts : q.candidates ≡ gone ++ left
  pub count : i ≡ n + length gone
  pub connections : take i w' ≡ take n w ++ connections_of gone
  pub all : fit ≡ all_fit k gone
  pub body : Body b at (record { candidates = left; table = q.table })

pub record Gone (b : List ℕ) (from : ℕ) (k : Key) (n : ℕ) (w w' : List ℕ) (i : ℕ) (fit : Bool) (at : ℕ) : Type 0 where
  pub is : (q : Rest) → Body b from q → Along b k n w w' i fit at q

pub gone_none : (b : List ℕ) (from : ℕ) (k : Key) (n : ℕ) (w : List ℕ) → Gone b from k n w w n true from
gone_none b from k n w = record {
  is = λ q y. record { gone = []; left = q.candidates; parts = refl; count = omega arith; connections = sym (append-nil (take n w)); all = all_fit_none k; body = y };
}

module _ {b : List ℕ} {from : ℕ} {k : Key} {n : ℕ} {w w' : List ℕ} {i : ℕ} {fit : Bool} {at : ℕ} (g : Gone b from k n w w' i fit at) where
  module _ {c : line-candidate.Candidate} {end : ℕ} (f : TakesCandidate b at c end) where
    -- one candidate more
    pub gone_more : i < length w' → {more : Bool} → more ≡ fits k (candidate_in c) → Gone b from k n w (set w' i c.connection) (i + 1) (fit && more) end
    gone_more h {more} d = record { is = λ q y. next q (g.is q y) }
      where
        next : (q : Rest) → Along b k n w w' i fit at q → Along b k n w (set w' i c.connection) (i + 1) (fit && more) end q
        next q a =
            let z = f.is _ a.body in
            record {
              gone = a.gone ++ (candidate_in c ∷ []);
              left = z.candidates;
              parts = a.parts ∙ ap (λ (x : List Candidate). a.gone ++ x) z.parts ∙ sym (append_assoc a.gone (candidate_in c ∷ []) z.candidates);
              count = omega (arith, a.count, length-append a.gone (candidate_in c ∷ []));
              connections = rw (add-one i, take-suc-set w' i c.connection h, a.connections, map-append) (append_assoc (take n w) (connections_of a.gone) (c.connection ∷ []));
              all = sym (all_fit_more k a.gone (candidate_in c) ∙ ap (λ (x : Bool). x && fits k (candidate_in c)) (sym a.all) ∙ ap (λ (x : Bool). fit && x) (sym d));
              body = z.body;
            }

    -- a ninth
    pub too_many : from ≤ at → most_gathered ≤ i → Gathers b from k n w w' None end
    too_many u h = record {
      on = omega (arith, f.on);
      all = tt;
      many = λ d q y.
          let a = g.is q y in
          let z = f.is _ a.body in
          omega (arith, a.count, ap length a.parts, length-append a.gone a.left, ap length z.parts);
    }

  -- none is left
  pub all_gone : {end : ℕ} → from ≤ at → i ≤ most_gathered → NoCandidates b at end → Gathers b from k n w w' (Some (record { count = i; fit = fit })) end
  all_gone {end} u h z = record {
    on = omega (arith, z.stays);
    all = record { bound = h; whole = λ q y. whole q (g.is q y) };
    many = λ d. never (sym d);
  }
    where
      whole : (q : Rest) → Along b k n w w' i fit at q → Whole b k n w w' (record { count = i; fit = fit }) end q
      whole q a =
          let l = z.is _ a.body in
          let e : q.candidates ≡ a.gone = a.parts ∙ ap (λ (x : List Candidate). a.gone ++ x) l ∙ append-nil a.gone in
          record {
            count = a.count ∙ ap (λ (x : List Candidate). n + length x) (sym e);
            connections = a.connections ∙ ap (λ (x : List Candidate). take n w ++ connections_of x) (sym e);
            fit = a.all ∙ ap (λ (x : List Candidate). all_fit k x) (sym e);
            body = rw z.stays (rw l at a.body);
          }
