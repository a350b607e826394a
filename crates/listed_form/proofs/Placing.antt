-- The scan of the lines says what the definition says of them.
use mathlib.Core.Path.{◌≡◌, refl, sym, ◌∙◌}
use mathlib.Core.Bool.{Bool, true, false, not}
use mathlib.Core.List.{List, [], ◌∷◌}
use mathlib.Core.Option.{Option, none, some}
use lib.Dec.{ltb}
use Rattle.std.specs.Prelude.{if◌then◌else◌}
use Rattle.ident.specs.Number.{Key, place}
use Rattle.machine.specs.State.{Candidate, Request, Table, State}
use Rattle.machine.specs.Listing.{Line, HeadLine, RequestLine, CandidateLine, Rest, falls, candidate_then, request_then, rest_of, tabled, tabled_from, one_more}
use Rattle.machine.proofs.Tests.{never}
use Rattle.listed_form.specs.Placed.{Met, Bad, Start, After, meets_key, meets, placed, placed_from}

-- ---- what is left of the definition behind a request, and behind the first line

abbrev goes_on : Key → Option Rest → Bool
goes_on k none = false
goes_on k (some q) = not (falls k q.table)

abbrev none_in : List Candidate → Bool
none_in [] = true
none_in (c ∷ cs) = false

abbrev begins : Option Rest → Bool
begins none = false
begins (some q) = none_in q.candidates

meets-bad : (l : Line) → meets Bad (some l) ≡ Bad
meets-bad (HeadLine s) = refl
meets-bad (RequestLine r) = refl
meets-bad (CandidateLine c) = refl

pub placed-bad : (ls : List Line) → placed Bad ls ≡ false
unfolding placed
placed-bad [] = refl
placed-bad (l ∷ ls) = rw (meets-bad l) (placed-bad ls)

on_candidate : (k : Key) (c : Candidate) (o : Option Rest) → goes_on k o ≡ goes_on k (candidate_then c o)
on_candidate k c none = refl
on_candidate k c (some q) = refl

not_first : (c : Candidate) (o : Option Rest) → false ≡ begins (candidate_then c o)
not_first c none = refl
not_first c (some q) = refl

-- a request behind one of key j
on_request : (j : Key) (r : Request) (o : Option Rest) → (if ltb (place r.key) (place j) then false else goes_on r.key o) ≡ goes_on j (request_then r o)
on_request j r none = by_key (ltb (place r.key) (place j))
  where
    by_key : (t : Bool) → (if t then false else false) ≡ false
    by_key true = refl
    by_key false = refl
on_request j r (some q) = by_key (ltb (place r.key) (place j)) (falls r.key q.table) refl refl
  where
    by_key : (t u : Bool) → ltb (place r.key) (place j) ≡ t → falls r.key q.table ≡ u
        → (if ltb (place r.key) (place j) then false else not (falls r.key q.table)) ≡ goes_on j (request_then r (some q))
    by_key true true e d = rw (e, d)
    by_key true false e d = rw (d, e)
    by_key false true e d = rw (e, d)
    by_key false false e d = rw (d, e)

first_request : (r : Request) (o : Option Rest) → goes_on r.key o ≡ begins (request_then r o)
first_request r none = refl
first_request r (some q) = by_key (falls r.key q.table) refl
  where
    by_key : (u : Bool) → falls r.key q.table ≡ u → not (falls r.key q.table) ≡ begins (request_then r (some q))
    by_key true d = rw d
    by_key false d = rw d

placed_on : (j : Key) (r : Request) (ls : List Line) → placed (meets_key (After j) r.key) ls ≡ (if ltb (place r.key) (place j) then false else placed (After r.key) ls)
placed_on j r ls = by_key (ltb (place r.key) (place j))
  where
    by_key : (t : Bool) → placed (if t then Bad else After r.key) ls ≡ (if t then false else placed (After r.key) ls)
    by_key true = placed-bad ls
    by_key false = refl

placed-after : (k : Key) (ls : List Line) → placed (After k) ls ≡ goes_on k (rest_of ls)
unfolding placed rest_of
placed-after k [] = refl
placed-after k (HeadLine s ∷ ls) = placed-bad ls
placed-after k (CandidateLine c ∷ ls) = placed-after k ls ∙ on_candidate k c (rest_of ls)
placed-after k (RequestLine r ∷ ls) = placed_on k r ls ∙ rw (placed-after r.key ls) (on_request k r (rest_of ls))

pub placed_start : (ls : List Line) → placed Start ls ≡ begins (rest_of ls)
unfolding placed rest_of
placed_start [] = refl
placed_start (HeadLine s ∷ ls) = placed-bad ls
placed_start (CandidateLine c ∷ ls) = placed-bad ls ∙ not_first c (rest_of ls)
placed_start (RequestLine r ∷ ls) = placed-after r.key ls ∙ first_request r (rest_of ls)

-- ---- one line more

pub one_step : (m : Met) (x : Option Line) (o : Option (List Line)) → placed_from m (one_more x o) ≡ placed_from (meets m x) o
unfolding placed
one_step m none none = refl
one_step m none (some ls) = sym (placed-bad ls)
one_step m (some l) none = refl
one_step m (some l) (some ls) = refl

-- ---- the table

-- lines that are placed list a table
pub record Lists (ls : List Line) : Type 0 where
  pub table : Table
  pub list : rest_of ls ≡ some (record { candidates = []; table = table })

pub placed-lists : (ls : List Line) → placed Start ls ≡ true → Lists ls
placed-lists ls e = found (rest_of ls) refl (sym (placed_start ls) ∙ e)
  where
    empty : (cs : List Candidate) (t : Table) → rest_of ls ≡ some (record { candidates = cs; table = t }) → none_in cs ≡ true → Lists ls
    empty [] t d n = record { table = t; list = d }
    empty (c ∷ cs) t d n = never n

    found : (o : Option Rest) → rest_of ls ≡ o → begins o ≡ true → Lists ls
    found none d n = never n
    found (some q) d n = empty q.candidates q.table d n

pub placed_none : (s : State) (ls : List Line) → placed Start ls ≡ false → tabled_from s (rest_of ls) ≡ none
placed_none s ls e = found (rest_of ls) (sym (placed_start ls) ∙ e)
  where
    some_left : (cs : List Candidate) (t : Table) → none_in cs ≡ false → tabled s cs t ≡ none
    some_left [] t n = never (sym n)
    some_left (c ∷ cs) t n = refl

    found : (o : Option Rest) → begins o ≡ false → tabled_from s o ≡ none
    found none n = refl
    found (some q) n = some_left q.candidates q.table n
