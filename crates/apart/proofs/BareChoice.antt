-- What a plan looks at is the same without packages: the owners that are due, the choice for a key, and a phase over keys.
use Prim.Native.Nat.{ℕ, suc, ◌+◌}
use mathlib.Core.Path.{◌≡◌, refl, ap, ◌∙◌}
use mathlib.Core.Bool.{Bool, ◌&&◌}
use mathlib.Core.List.{List, [], ◌∷◌, ◌++◌}
use mathlib.Core.Option.{Option, none, some}
use lib.Dec.{ltb, leb, eqb}
use lib.ListN.{length}
use Rattle.std.specs.Prelude.{if◌then◌else◌}
use Rattle.ident.specs.Number.{Key, txid, wtxid}
use Rattle.machine.specs.Limits.{max_in_flight, max_request_checks}
use Rattle.machine.specs.State.{Candidate, Request, Table, Entry, is_none}
use Rattle.machine.specs.Table.{at, by, under}
use Rattle.machine.specs.Sweep.{round}
use Rattle.machine.specs.Plan.{chosen_by, chosen_at, able, or_else, least_in, least_at, choice, Scan, add, consider, phase, Due, due_of, due, start, asked_keys}
use Rattle.apart.specs.Bare.{bare}
use Rattle.apart.proofs.BareTable.{at_bare, keys-bare, owners-bare}

-- ---- owners that are due

pub due-bare : (now : ℕ) (t : Table) → due now (bare t) ≡ due now t
unfolding due bare
due-bare now [] = refl
due-bare now (r ∷ t) = ap (λ (l : List Due). due_of now r.key r.owner ++ l) (due-bare now t)

-- ---- the choice

able-bare : (now : ℕ) (t : Table) (l : List Entry) (c : Candidate) → able now (bare t) l c ≡ able now t l c
unfolding able
able-bare now t l c = ap (λ (x : ℕ). leb c.ready now && ltb (x + chosen_by c.connection l) max_in_flight) (owners-bare (by c.connection) t)

least_bare : (now : ℕ) (t : Table) (l : List Entry) (k : Key) → least_at (able now (bare t) l) k (bare t) ≡ least_at (able now t l) k t
unfolding least_at
least_bare now t l k =
    ap (λ (r : Request). if is_none r.owner then least_in (able now (bare t) l) k r.candidates else none) (at_bare k t)
    ∙ ap (λ (p : Candidate → Bool). if is_none (at k t).owner then least_in p k (at k t).candidates else none) (λ i c. able-bare now t l c i)

pub choice-bare : (now : ℕ) (t : Table) (l : List Entry) (k : Key) → choice now (bare t) l k ≡ choice now t l k
unfolding choice
choice-bare now t l k = λ i. or_else (least_bare now t l (txid k.hash) i) (least_bare now t l (wtxid k.hash) i)

-- ---- keys considered

pub consider-bare : (now : ℕ) (t : Table) (k : Key) (s : Scan) → consider now (bare t) k s ≡ consider now t k s
unfolding consider
consider-bare now t k s = λ i. record {
  chosen = if eqb (owners-bare (under k.hash) t i + chosen_at k.hash s.chosen) 0 then add (choice-bare now t s.chosen k i) s.chosen else s.chosen;
  considered = suc s.considered;
  last = some k;
}

pub phase-bare : (now : ℕ) (t : Table) (ks : List Key) (s : Scan) → phase now (bare t) ks s ≡ phase now t ks s
unfolding phase
phase-bare now t [] s = refl
phase-bare now t (k ∷ ks) s =
    ap (λ (x : Scan). if leb max_request_checks (length x.chosen) then x else phase now (bare t) ks x) (consider-bare now t k s)
    ∙ ap (λ (x : Scan). if leb max_request_checks (length (consider now t k s).chosen) then consider now t k s else x) (phase-bare now t ks (consider now t k s))

-- ---- the two phases of a plan

asked-bare : (asked : Option (List Key)) (c : Option Key) (t : Table) → asked_keys asked c (bare t) ≡ asked_keys asked c t
asked-bare none c t = ap (round c) (keys-bare t)
asked-bare (some ks) c t = refl

-- the keys ks first, then those asked for
abbrev two_phases : ℕ → Option (List Key) → Option Key → List Key → Table → Scan
two_phases now asked c ks t = phase now t (asked_keys asked c t) (phase now t ks start)

pub phases-bare : (now : ℕ) (asked : Option (List Key)) (c : Option Key) (ks : List Key) (t : Table) → two_phases now asked c ks (bare t) ≡ two_phases now asked c ks t
phases-bare now asked c ks t =
    phase-bare now t (asked_keys asked c (bare t)) (phase now (bare t) ks start)
    ∙ (λ i. phase now t (asked-bare asked c t i) (phase-bare now t ks start i))
