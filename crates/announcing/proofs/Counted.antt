-- How many candidates can be evicted, counted over the rows: request by request as many as the machine has victims.
use Prim.Native.Nat.{ℕ, ◌+◌, ◌≤◌, ◌<◌}
use mathlib.Core.Path.{◌≡◌, refl, sym, ap, ◌∙◌}
use mathlib.Core.Logic.{inl, inr}
use mathlib.Core.Bool.{Bool, true, false, not, ◌||◌}
use mathlib.Core.List.{List, [], ◌∷◌, ◌++◌, map}
use native.Mathlib.Numerals.{add-one}
use native.Mathlib.Omega.{arith}
use lib.ListN.{length, take, get_or, length-append}
use lib.Seq.{take_all, take-suc}
use Rattle.regions.specs.declared.Row.{Row}
use Rattle.regions.specs.Regions.{each}
use Rattle.machine.specs.State.{Candidate, Request, Table, owner_is}
use Rattle.machine.specs.Table.{one}
use Rattle.machine.specs.Announce.{victims_in, victims, anywhere}
use Rattle.machine.specs.Wrapper.{evictable}
use Rattle.machine.proofs.Tests.{test}
use Rattle.store.specs.Flat.{row_of, rows_for, rows_of}
use Rattle.store.specs.FlatSound.{count_rows}
use Rattle.store.proofs.Counts.{rows_append}
use Rattle.announcing.specs.Evicts.{protected}
use Rattle.announcing.proofs.Victims.{bits-say}

-- the candidate of a row can be evicted
abbrev pub goes : Row → Bool
goes r = not (protected r.bits)

in_request : (q : Request) (cs : List Candidate) → count_rows goes (map (row_of q) cs) ≡ length (victims_in q cs)
unfolding count_rows victims_in
in_request q [] = refl
in_request q (c ∷ cs) =
    elim (test (c.preferred || owner_is c.connection q.owner)) [
      | inl e ↦ rw (bits-say q c, e, in_request q cs) (omega arith)
      | inr e ↦ rw (bits-say q c, e, in_request q cs) (omega arith)
    ]

evictable-rows : (t : Table) → count_rows goes (rows_of t) ≡ evictable t
unfolding each rows_for victims
evictable-rows [] = unfold count_rows in refl
evictable-rows (r ∷ t) =
    rows_append goes (map (row_of r) r.candidates) (rows_of t) ∙ rw (in_request r r.candidates, evictable-rows t) (sym (length-append (victims_in r r.candidates) (victims anywhere t)))

-- ---- a turn of the count, and its end

module _ (r : Row) {x : Bool} (ex : x ≡ protected r.bits) (m : ℕ) {m' : ℕ} where
  pub goes_one : x ≡ false → m' ≡ m + 1 → m' ≡ m + one (goes r)
  goes_one e q = q ∙ sym (rw (← ex, e))

  pub stays_none : x ≡ true → m' ≡ m → m' ≡ m + one (goes r)
  stays_none e q = let z : one (goes r) ≡ 0 = rw (← ex, e) in omega arith

module _ (rs : List Row) where
  pub counted_turn : {i m m' : ℕ} {r : Row} (d : Row) → i < length rs → r ≡ get_or rs i d → m ≡ count_rows goes (take i rs)
      → m' ≡ m + one (goes r) → m' ≡ count_rows goes (take (i + 1) rs)
  counted_turn {i} {m} {m'} {r} d l e q n =
      let s : take (i + 1) rs ≡ take i rs ++ (r ∷ []) = rw (add-one, e) (take-suc rs i d l) in
      let o : count_rows goes (r ∷ []) ≡ one (goes r) = unfold count_rows in omega arith in
      n ∙ omega (arith, ap (count_rows goes) s, rows_append goes (take i rs) (r ∷ []))

pub counted : (t : Table) (i : ℕ) {m : ℕ} → length (rows_of t) ≤ i → m ≡ count_rows goes (take i (rows_of t)) → m ≡ evictable t
counted t i l e = e ∙ ap (count_rows goes) (take_all i (rows_of t) l) ∙ evictable-rows t
