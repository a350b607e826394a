-- A pass over the lines from an index on: what is left of them, from the counters as they are, comes to the same as all of them from the start.
use Prim.Native.Nat.{ℕ, ◌≤◌}
use mathlib.Core.Path.{◌≡◌, refl, sym, ap, ◌∙◌}
use mathlib.Core.Bool.{Bool, true, false}
use mathlib.Core.List.{List, [], ◌∷◌, ◌++◌}
use mathlib.Core.Option.{Option, none, some}
use lib.ListN.{length, drop_of_length-le}
use Rattle.machine.specs.State.{Owner, is_some}
use Rattle.machine.specs.Listing.{Line, HeadLine, RequestLine, CandidateLine, Rest, rest_of}
use Rattle.machine.proofs.Tests.{never}
use Rattle.machine.proofs.FrontLines.{request_first, candidate_first}
use Rattle.heavy.specs.Counters.{names_of, counts_of}
use Rattle.heavy.specs.Streams.{owners_of, line_connections, line_owners}
use Rattle.listed_lines.specs.Given.{lines_of_text}
use Rattle.listed_form.specs.Given.{Body}
use Rattle.listed_form.proofs.Forms.{no-line_left}
use Rattle.listed_counts.specs.declared.fronts.Front.{Front}
use Rattle.listed_counts.specs.Fronts.{owner_number, added, number_for, Behind, FrontRead}
use Rattle.listed_counts.specs.Passes.{stream, names_added, counts_added, counted_added, Notes, Counts, NotesAll, CountsAll}

-- ---- a line's number in front of the others

abbrev behind : Option ℕ → List ℕ → List ℕ
behind none xs = xs
behind (some x) xs = x ∷ xs

owner-behind : (o : Option Owner) (xs : List ℕ) → owners_of o ++ xs ≡ behind (owner_number o) xs
owner-behind none xs = refl
owner-behind (some o) xs = refl

stream-line : (o : Bool) (l : Line) (ls : List Line) → stream o (l ∷ ls) ≡ behind (added o l) (stream o ls)
unfolding stream line_owners line_connections
stream-line true (HeadLine s) ls = refl
stream-line true (RequestLine r) ls = owner-behind r.owner (line_owners ls)
stream-line true (CandidateLine c) ls = refl
stream-line false (HeadLine s) ls = refl
stream-line false (RequestLine r) ls = refl
stream-line false (CandidateLine c) ls = refl

stream_none : (o : Bool) → stream o [] ≡ []
unfolding stream line_owners line_connections
stream_none true = refl
stream_none false = refl

-- ---- a line in front of others that list requests

record Tail (l : Line) (ls : List Line) : Type 0 where
  behind_first : Behind l
  rest : Rest
  list : rest_of ls ≡ some rest

tail : (l : Line) (ls : List Line) {q : Rest} → rest_of (l ∷ ls) ≡ some q → Tail l ls
unfolding rest_of
tail (HeadLine s) ls e = never (ap is_some e)
tail (RequestLine r) ls e = let w = request_first r ls e in record { behind_first = tt; rest = w.rest; list = w.list }
tail (CandidateLine c) ls e = let w = candidate_first c ls e in record { behind_first = tt; rest = w.rest; list = w.list }

-- ---- any pass: what it makes of numbers, from what it has

pub record LeftOf {S : Type 0} (f : List ℕ → S → List ℕ) (b : List ℕ) (o : Bool) (all : List ℕ) (at : ℕ) (s : S) : Type 0 where
  pub rest : Rest
  pub body : Body b at rest
  pub same : all ≡ f (stream o body.lines) s

pub record Left {S : Type 0} (f : List ℕ → S → List ℕ) (b : List ℕ) (from : ℕ) (o : Bool) (z : S) (at : ℕ) (s : S) : Type 0 where
  pub is : (q : Rest) (y : Body b from q) → LeftOf f b o (f (stream o y.lines) z) at s

module _ {S : Type 0} (f : List ℕ → S → List ℕ) (g : Option ℕ → S → S) (step : (n : Option ℕ) (xs : List ℕ) (s : S) → f (behind n xs) s ≡ f xs (g n s)) {b : List ℕ} {o : Bool} where
  one_line : {at end : ℕ} {s : S} {r : Front} {all : List ℕ} → LeftOf f b o all at s → FrontRead b at r end → LeftOf f b o all end (g (number_for o r) s)
  one_line {at} {end} {s} {r} {all} y p =
      let d = p.is y.body.lines y.body.are in
      let t = tail d.first d.others (ap rest_of (sym d.parts) ∙ y.body.list) in
      let k : added o d.first ≡ number_for o r = sym (d.adds.is o d.first refl t.behind_first) in
      record {
        rest = t.rest;
        body = record { inside = p.inside; lines = d.others; are = d.are; list = t.list };
        same = y.same ∙ ap (λ (ls : List Line). f (stream o ls) s) d.parts ∙ ap (λ (xs : List ℕ). f xs s) (stream-line o d.first d.others)
            ∙ ap (λ (m : Option ℕ). f (behind m (stream o d.others)) s) k ∙ step (number_for o r) (stream o d.others) s;
      }

  pub left_all : {from : ℕ} {z : S} → Left f b from o z from z
  left_all = record { is = λ q y. record { rest = q; body = y; same = refl } }

  pub left_line : {from at end : ℕ} {z s : S} {r : Front} → Left f b from o z at s → FrontRead b at r end → Left f b from o z end (g (number_for o r) s)
  left_line y p = record { is = λ q z. one_line (y.is q z) p }

  pub left_none : {from at : ℕ} {z s : S} → Left f b from o z at s → length b ≤ at → (q : Rest) (y : Body b from q) → f [] s ≡ f (stream o y.lines) z
  left_none {at = at} {s = s} w h q y =
      let d = w.is q y in
      let k : some [] ≡ some d.body.lines = sym (ap lines_of_text (drop_of_length-le b h) ∙ no-line_left) ∙ d.body.are in
      let m : d.body.lines ≡ [] = cc in
      sym (d.same ∙ ap (λ (ms : List Line). f (stream o ms) s) m ∙ ap (λ (xs : List ℕ). f xs s) (stream_none o))

-- ---- the first pass

pub record Counters : Type 0 where
  pub names : List ℕ
  pub counts : List ℕ

abbrev names_from : List ℕ → Counters → List ℕ
names_from xs s = names_of xs s.names s.counts

abbrev noted : Option ℕ → Counters → Counters
noted n s = record { names = names_added n s.names s.counts; counts = counts_added n s.names s.counts }

names-behind : (n : Option ℕ) (xs : List ℕ) (s : Counters) → names_from (behind n xs) s ≡ names_from xs (noted n s)
unfolding names_of
names-behind none xs s = refl
names-behind (some x) xs s = refl

names_done : (s : Counters) → names_from [] s ≡ s.names
unfolding names_of
names_done s = refl

abbrev pub Noting : List ℕ → ℕ → Bool → List ℕ → List ℕ → ℕ → List ℕ → List ℕ → Type 0
Noting b from o ns₀ ks₀ at ns ks = Left names_from b from o (record { names = ns₀; counts = ks₀ }) at (record { names = ns; counts = ks })

module _ {b : List ℕ} {from : ℕ} {o : Bool} {ns₀ ks₀ : List ℕ} where
  pub note-begin : Noting b from o ns₀ ks₀ from ns₀ ks₀
  note-begin = left_all names_from noted names-behind

  pub note_on : {at end : ℕ} {ns ks ns' ks' : List ℕ} {r : Front} → Noting b from o ns₀ ks₀ at ns ks → FrontRead b at r end → Notes (number_for o r) ns ks ns' ks' → Noting b from o ns₀ ks₀ end ns' ks'
  note_on y p h = rw (h.names, h.counts) (left_line names_from noted names-behind y p)

  pub note_end : {at : ℕ} {ns ks : List ℕ} → Noting b from o ns₀ ks₀ at ns ks → length b ≤ at → NotesAll b from o ns₀ ks₀ ns
  note_end {ns = ns} {ks = ks} y h = record { is = λ q z. sym (names_done (record { names = ns; counts = ks })) ∙ left_none names_from noted names-behind y h q z }

-- ---- the second pass

module _ (ns : List ℕ) where
  abbrev counts_from : List ℕ → List ℕ → List ℕ
  counts_from xs ks = counts_of xs ns ks

  abbrev counted : Option ℕ → List ℕ → List ℕ
  counted n ks = counted_added n ns ks

  counts_behind : (n : Option ℕ) (xs : List ℕ) (ks : List ℕ) → counts_from (behind n xs) ks ≡ counts_from xs (counted n ks)
  unfolding counts_of
  counts_behind none xs ks = refl
  counts_behind (some x) xs ks = refl

  counts_done : (ks : List ℕ) → counts_from [] ks ≡ ks
  unfolding counts_of
  counts_done ks = refl

abbrev pub Counting : List ℕ → ℕ → Bool → List ℕ → List ℕ → ℕ → List ℕ → Type 0
Counting b from o ns ks₀ at ks = Left (counts_from ns) b from o ks₀ at ks

pub count-begin : {b : List ℕ} {from : ℕ} {o : Bool} {ks₀ : List ℕ} (ns : List ℕ) → Counting b from o ns ks₀ from ks₀
count-begin ns = left_all (counts_from ns) (counted ns) (counts_behind ns)

module _ {b : List ℕ} {from : ℕ} {o : Bool} {ns ks₀ : List ℕ} where
  pub count_on : {at end : ℕ} {ks ks' : List ℕ} {r : Front} → Counting b from o ns ks₀ at ks → FrontRead b at r end → Counts (number_for o r) ns ks ks' → Counting b from o ns ks₀ end ks'
  count_on y p h = rw h.counts (left_line (counts_from ns) (counted ns) (counts_behind ns) y p)

  pub count_end : {at : ℕ} {ks : List ℕ} → Counting b from o ns ks₀ at ks → length b ≤ at → CountsAll b from o ns ks₀ ks
  count_end {ks = ks} y h = record { is = λ q z. sym (counts_done ns ks) ∙ left_none (counts_from ns) (counted ns) (counts_behind ns) y h q z }
