-- What rows come to, from the last to the first: one row more, a key that is done, and all rows of a table.
use Prim.Native.Nat.{ℕ, ◌+◌, ◌-◌, ◌/◌, ◌%◌, ◌≤◌, ◌<◌}
use mathlib.Core.Path.{◌≡◌, refl, sym, ap, subst, ◌∙◌}
use mathlib.Core.Logic.{inl, inr}
use mathlib.Core.Bool.{true, false}
use mathlib.Core.List.{List, [], ◌∷◌, ◌++◌, map}
use mathlib.Core.Option.{Option, none, some}
use native.Mathlib.Omega.{arith}
use lib.Dec.{eqb}
use lib.ListN.{length, get_or}
use lib.Seq.{take_all}
use borrow.Author.Tests.{eq-eqb, ne_eqb, eqb-true, not-true, not-false}
use Rattle.std.specs.Prelude as rust
use Rattle.std.specs.Prelude.{if◌then◌else◌}
use Rattle.ident.specs.Number.{place}
use Rattle.regions.specs.declared.Row.{Row}
use Rattle.machine.specs.State.{Candidate, Owner, Request, Table, State}
use Rattle.machine.specs.Later.{earlier, later, least_later, ready_times, times_in, times, next_look}
use Rattle.machine.specs.Sound.{Sound}
use Rattle.machine.proofs.Tests.{test, never}
use Rattle.machine.proofs.Later.{earlier_none, least_append, none_some}
use Rattle.store.specs.Flat.{rows_of}
use Rattle.store.specs.Gather.{key_at, candidate_at, owner_at, single, join, gather}
use Rattle.store.proofs.Regather.{bare, gather-table}
use Rattle.announcing.specs.Evicts.{part}
use Rattle.sweeping.specs.Batches.{last_row}
use Rattle.sweeping.proofs.Rounds.{part_more, part_none}
use Rattle.choosing.specs.Choosing.{option_of}
use Rattle.looking.specs.declared.Look.{Look}
use Rattle.looking.specs.Looking.{deadline_of, Looks, LooksAt}

-- ---- the times of one request

own-times : (now : ℕ) (o : Option Owner) (cs : List Candidate) (d : ℕ) → deadline_of o ≡ some d → least_later now (times_in o cs) ≡ later now d
unfolding least_later
own-times now none cs d e = absurd (none_some e)
own-times now (some o) cs d e = earlier_none (later now o.deadline) ∙ ap (later now) (let z : o.deadline ≡ d = cc in z)

free-times : (now : ℕ) (o : Option Owner) (cs : List Candidate) → deadline_of o ≡ none → least_later now (times_in o cs) ≡ least_later now (ready_times cs)
free-times now none cs e = refl
free-times now (some o) cs e = absurd (none_some (sym e))

next_cons : (now : ℕ) (r : Request) (t : Table) → next_look now (r ∷ t) ≡ earlier (least_later now (times_in r.owner r.candidates)) (next_look now t)
unfolding times
next_cons now r t = least_append now (times_in r.owner r.candidates) (times t)

-- ---- a key that is done

module _ (now : ℕ) (v : Look) where
  pub settled-owned : (d : ℕ) {o p : Option ℕ} → v.due ≡ rust.Some d → o ≡ later now d → p ≡ earlier o (option_of v.rest) → (t : Table) → LooksAt now t v → p ≡ next_look now t
  settled-owned d e f g [] l = absurd (none_some (l.owner ∙ ap option_of e))
  settled-owned d e f g (r ∷ t) l =
      let x = own-times now r.owner r.candidates d (l.owner ∙ ap option_of e) in
      g ∙ (λ i. earlier (f i) (l.rest i)) ∙ ap (λ (y : Option ℕ). earlier y (next_look now t)) (sym x) ∙ sym (next_cons now r t)

  pub settled-free : {p : Option ℕ} → v.due ≡ rust.None → p ≡ earlier (option_of v.free) (option_of v.rest) → (t : Table) → LooksAt now t v → p ≡ next_look now t
  unfolding least_later times
  settled-free e g [] l = g ∙ (λ i. earlier (l.free i) (l.rest i))
  settled-free e g (r ∷ t) l =
      let x = free-times now r.owner r.candidates (l.owner ∙ ap option_of e) in
      g ∙ (λ i. earlier (l.free i) (l.rest i)) ∙ ap (λ (y : Option ℕ). earlier y (next_look now t)) (sym x) ∙ sym (next_cons now r t)

pub looks_none : (now : ℕ) (t : Table) (n : rust.Option ℕ) → option_of n ≡ next_look now t → Looks now none [] t (record { due = rust.None; free = rust.None; rest = n })
unfolding least_later
looks_none now t n e = record { owner = refl; free = refl; rest = e }

-- ---- one row more of a key

module _ (now : ℕ) (v : Look) (r : Row) {p : Option ℕ} (f : rust.Option ℕ) (late : p ≡ later now r.ready) (least : option_of f ≡ earlier p (option_of v.free)) (o : Option Owner) (cs : List Candidate)
    (t : Table) (l : Looks now o cs t v) where
  free_more : option_of f ≡ least_later now (ready_times (candidate_at r ∷ cs))
  unfolding least_later candidate_at
  free_more = least ∙ (λ i. earlier (late i) (l.free i))

  pub row-owns : r.bits / 8 % 2 ≡ 1 → Looks now (owner_at r o) (candidate_at r ∷ cs) t (record { due = rust.Some r.deadline; free = f; rest = v.rest })
  row-owns e = record { owner = rw (eq-eqb (r.bits / 8 % 2) 1 e) refl; free = free_more; rest = l.rest }

  pub row-waits : (r.bits / 8 % 2 ≡ 1 → ⊥) → Looks now (owner_at r o) (candidate_at r ∷ cs) t (record { due = v.due; free = f; rest = v.rest })
  row-waits e = record { owner = rw (ne_eqb (r.bits / 8 % 2) 1 e) l.owner; free = free_more; rest = l.rest }

-- ---- one row more of the rows

join_other : (r q : Row) (t : Table) → eqb (place (key_at r)) (place (key_at q)) ≡ false → join r (join q t) ≡ single r ∷ join q t
unfolding join
join_other r q [] e = rw e refl
join_other r q (h ∷ t) e =
    elim (test (eqb (place (key_at q)) (place h.key))) [
      | inl d ↦ rw d (rw (sym (eqb-true (place (key_at q)) (place h.key) d)) (rw e refl))
      | inr d ↦ rw d (rw e refl)
    ]

looks_same : (now : ℕ) (r q : Row) (t : Table) {v w : Look} → eqb (place (key_at r)) (place (key_at q)) ≡ true
    → ((o : Option Owner) (cs : List Candidate) (u : Table) → Looks now o cs u v → Looks now (owner_at r o) (candidate_at r ∷ cs) u w)
    → LooksAt now (join q t) v → LooksAt now (join r (join q t)) w
unfolding join
looks_same now r q [] e f l = rw e (f (owner_at q none) (candidate_at q ∷ []) [] l)
looks_same now r q (h ∷ t) e f l =
    elim (test (eqb (place (key_at q)) (place h.key))) [
      | inl d ↦ rw d (rw (ap (eqb (place (key_at r))) (sym (eqb-true (place (key_at q)) (place h.key) d)) ∙ e) (f (owner_at q h.owner) (candidate_at q ∷ h.candidates) t (rw d at l)))
      | inr d ↦ rw d (rw e (f (owner_at q none) (candidate_at q ∷ []) (h ∷ t) (rw d at l)))
    ]

module _ (now : ℕ) (r : Row) (v w : Look) where
  -- a key of its own
  pub turn_ends : (rs : List Row) → last_row r rs ≡ true → Looks now (owner_at r none) (candidate_at r ∷ []) (gather rs) w → LooksAt now (gather (r ∷ rs)) w
  unfolding gather last_row join
  turn_ends [] e l = l
  turn_ends (q ∷ rs) e l = subst (λ (t : Table). LooksAt now t w) (sym (join_other r q (gather rs) (not-true (eqb (place (key_at r)) (place (key_at q))) e))) l

  -- the key at hand
  pub turn_goes_on : (rs : List Row) → last_row r rs ≡ false
      → ((o : Option Owner) (cs : List Candidate) (u : Table) → Looks now o cs u v → Looks now (owner_at r o) (candidate_at r ∷ cs) u w)
      → LooksAt now (gather rs) v → LooksAt now (gather (r ∷ rs)) w
  unfolding gather last_row
  turn_goes_on [] e f l = never (sym e)
  turn_goes_on (q ∷ rs) e f l = looks_same now r q (gather rs) (not-false (eqb (place (key_at r)) (place (key_at q))) e) f l

-- ---- the rows from i on

module _ (now n : ℕ) (rs : List Row) where
  pub looks_start : (i : ℕ) (v : Look) → n ≤ i → Looks now none [] [] v → LooksAt now (gather (part i n rs)) v
  unfolding gather
  looks_start i v h l = rw (part_none rs i n h) l

  pub looks-row : {r : Row} (d : Row) {j : ℕ} (i : ℕ) → j ≡ i + 1 → i < n → n ≤ length rs → r ≡ get_or rs i d → (w : Look)
      → LooksAt now (gather (r ∷ part j n rs)) w → LooksAt now (gather (part i n rs)) w
  looks-row d i e l h f w g = rw (part_more rs i n d l h, ← f, ← e) g

-- ---- all rows of a state

next_bare : (now : ℕ) (t : Table) → times (map bare t) ≡ times t
unfolding times
next_bare now [] = refl
next_bare now (r ∷ t) = ap (◌++◌ (times_in r.owner r.candidates)) (next_bare now t)

pub looked_all : (now : ℕ) (st : State) → Sound st → {n i : ℕ} → n ≡ length (rows_of st.table) → i ≡ 0 → {o : Option ℕ}
    → o ≡ next_look now (gather (part i n (rows_of st.table))) → o ≡ next_look now st.table
looked_all now st s {n} {i} e z f =
    let t = st.table in
    let y : n - i ≡ length (rows_of t) = omega (arith, e, z) in
    let whole : part i n (rows_of t) ≡ rows_of t = rw (y, z) (take_all (length (rows_of t)) (rows_of t) (omega arith)) in
    f ∙ ap (λ (x : List Row). next_look now (gather x)) whole
    ∙ ap (next_look now) (gather-table 0 t s.bounded.ordered s.bounded.lawful s.bounded.filled) ∙ ap (least_later now) (next_bare now t)
