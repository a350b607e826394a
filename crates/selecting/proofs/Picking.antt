-- What a plan chooses for a hash that nobody owns can be made its owner.
use Prim.Native.Nat.{ℕ, ◌+◌, ◌≤◌, ◌<◌}
use mathlib.Core.Path.{◌≡◌, refl, sym, ap, subst, ◌∙◌}
use mathlib.Core.Bool.{Bool, true}
use mathlib.Core.List.{List, [], ◌∷◌}
use mathlib.Core.Option.{Option, none, some}
use native.Mathlib.Omega.{arith}
use lib.Dec.{eqb}
use lib.ListN.{set}
use Rattle.std.specs.Prelude as rust
use Rattle.ident.specs.Number.{top, Key, txid, wtxid}
use Rattle.regions.specs.declared.Row.{Row}
use Rattle.machine.specs.Limits.{request_lifetime, latest_clock}
use Rattle.machine.specs.State.{Candidate, Entry, Table, State, on_table, owned_until, is_none}
use Rattle.machine.specs.Table.{at, has, change, owned_at}
use Rattle.machine.specs.Plan.{able, sooner, better, or_else, least_in, least_at, choice}
use Rattle.machine.specs.Claim.{is_choice, takes}
use Rattle.machine.specs.Sound.{Sound}
use Rattle.machine.proofs.Alone.{has_some}
use Rattle.machine.proofs.Change.{unowned_at}
use Rattle.machine.proofs.Claim.{Takes, takes-means, bounded-take}
use Rattle.machine.proofs.Kept.{sound-table}
use Rattle.machine.proofs.Table.{lawful_at}
use Rattle.machine.proofs.Tests.{by_test}
use Rattle.machine.proofs.TakenExactly.{entry-itself as same_self}
use Rattle.store.specs.Gather.{key_at, candidate_at}
use Rattle.store.specs.declared.rows.Window.{Window}
use Rattle.requests.specs.Changes.{Makes, Tells}
use Rattle.announcing.specs.Evicts.{entry_at}
use Rattle.choosing.specs.declared.Pick.{Pick}
use Rattle.choosing.specs.declared.Chosen.{Chosen}
use Rattle.choosing.specs.Choosing.{free_choice, Windows, Choice}
use Rattle.selecting.specs.Selecting.{marking, until, Free, OneSelected}
use Rattle.claiming.proofs.OneEntry.{takes_is}

-- ---- its key has the hash

abbrev Under : ℕ → Option Entry → Type 0
Under h none = Unit {0}
Under h (some a) = a.key.hash ≡ h

under_better : (h : ℕ) (a : Entry) (y : Option Entry) → a.key.hash ≡ h → Under h y → Under h (better a y)
unfolding better
under_better h a none p q = p
under_better h a (some b) p q = by_test (λ (x : Entry). x.key.hash ≡ h) (sooner b.candidate a.candidate) (λ e. q) (λ e. p)

under_else : (h : ℕ) (x y : Option Entry) → Under h x → Under h y → Under h (or_else x y)
unfolding or_else
under_else h none y p q = q
under_else h (some a) y p q = under_better h a y p q

under_least : (p : Candidate → Bool) (k : Key) (cs : List Candidate) → Under k.hash (least_in p k cs)
unfolding least_in
under_least p k [] = tt
under_least p k (c ∷ cs) = by_test (Under k.hash) (p c) (λ e. under_better k.hash (record { key = k; candidate = c }) (least_in p k cs) refl (under_least p k cs)) (λ e. under_least p k cs)

under_at : (p : Candidate → Bool) (k : Key) (t : Table) → Under k.hash (least_at p k t)
unfolding least_at
under_at p k t = by_test (Under k.hash) (is_none (at k t).owner) (λ e. under_least p k (at k t).candidates) (λ e. tt)

under_free : (now h : ℕ) (t : Table) → Under h (free_choice now t (txid h))
unfolding choice
under_free now h t = by_test (Under h) (eqb (owned_at h t) 0)
    (λ e. under_else h (least_at (able now t []) (txid h) t) (least_at (able now t []) (wtxid h) t) (under_at (able now t []) (txid h) t) (under_at (able now t []) (wtxid h) t)) (λ e. tt)

-- ---- it is the choice in every field

module _ (now h : ℕ) (t : Table) (a : Entry) (e : some a ≡ free_choice now t (txid h)) where
  pub hash_is : a.key.hash ≡ h
  hash_is = subst (Under h) (sym e) (under_free now h t)

  pub chosen-takes : takes now a t ≡ true
  chosen-takes = takes_is now a t ∙ ap (λ (g : ℕ). is_choice a (free_choice now t (txid g))) hash_is ∙ ap (is_choice a) (sym e) ∙ same_self a

-- ---- it can own its request

module _ {st : State} (s : Sound st) (now h : ℕ) (small : h < top) (a : Entry) (e : some a ≡ free_choice now st.table (txid h)) where
  pub pick_takes : Takes st.table a
  pick_takes = takes-means now a st.table (chosen-takes now h st.table a e)

  pub pick_small : a.key.hash < top
  pick_small = rw (hash_is now h st.table a e) small

  pub pick-unowned : (at a.key st.table).owner ≡ none
  pick-unowned = unowned_at a.key st.table pick_small s.bounded.ordered pick_takes.free

  pub pick_free : Free st.table a
  pick_free = record {
    lawful = lawful_at a.key st.table s.bounded.lawful;
    small = pick_small;
    some_candidate = has_some a.candidate.connection
        (at a.key st.table).candidates pick_takes.held;
    unowned = pick-unowned;
  }

  pub pick-sound : now ≤ latest_clock → Sound (on_table (marking (until now) a st.table) st)
  pick-sound late = sound-table s (bounded-take now a pick_small (omega (arith, late)) pick_takes s.bounded)

-- ---- the bytes

pub conn-at : (r : Row) → r.conn ≡ (candidate_at r).connection
unfolding candidate_at
conn-at r = refl

module _ {b : List ℕ} (now : ℕ) {x y : Window} (v : Chosen) (c : Choice b now x y v) (n : ℕ) where
  pub select_none : v.pick ≡ rust.None → (p : List ℕ) → OneSelected b b p p now x y n n
  select_none d p = record {
    pick = none;
    number = 0;
    chosen = λ h z st s w. sym (rw d refl) ∙ c.is h z st s w;
    table = λ h z st s w. w;
    stands = λ f w. tt;
    count = omega arith;
    numbers = refl;
  }

  pub select_some : {b' : List ℕ} (i : Pick) {k : Key} {m : ℕ} → v.pick ≡ rust.Some i → k ≡ key_at i.row → m ≡ (candidate_at i.row).connection
      → Makes b b' (λ t. (has m (at k t).candidates ≡ true) × ((at k t).owner ≡ none)) (change k (owned_until m (now + request_lifetime)))
      → {p p' : List ℕ} → p' ≡ set p n i.at → OneSelected b b' p p' now x y n (n + 1)
  select_some {b'} i {k} {m} d e f g {p} {p'} q = record {
    pick = some (entry_at i.row);
    number = i.at;
    chosen = said;
    table = λ h z st s w. let a = said h z st s w in
        (rw (e, f) at g) st s w ((pick_takes s now h z.as_txid.small (entry_at i.row) a).held, pick-unowned s now h z.as_txid.small (entry_at i.row) a);
    stands = λ f w. let g = rw d at (c.found f w) in record { inside = g.inside; entry_is = λ r. ap entry_at (sym (g.row_is r)) };
    count = refl;
    numbers = q;
  }
    where
      said : (h : ℕ) → Windows b h x y → Tells b (λ t. some (entry_at i.row) ≡ free_choice now t (txid h))
      said h z st s w = sym (rw d refl) ∙ c.is h z st s w
