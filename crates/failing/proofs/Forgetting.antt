-- A request goes whole: its owner with the place, then its candidates.
use Prim.Native.Nat.{ℕ, ◌<◌}
use mathlib.Core.Path.{◌≡◌, refl, sym, ap, subst, ◌∙◌}
use mathlib.Core.Bool.{Bool, true, false}
use mathlib.Core.List.{List, [], ◌∷◌}
use mathlib.Core.Option.{Option, none, some}
use Rattle.ident.specs.declared.Kind.{Kind}
use Rattle.ident.specs.Number.{top, Key}
use Rattle.machine.specs.State.{Candidate, Owner, Package, Request, Table, State, on_table, blank, unowned}
use Rattle.machine.specs.Table.{at, change}
use Rattle.machine.specs.Fail.{forget}
use Rattle.machine.specs.Sound.{Packed, Sound}
use Rattle.machine.proofs.Tests.{never}
use Rattle.machine.proofs.Table.{lawful_at}
use Rattle.machine.proofs.At.{kept, at_same}
use Rattle.machine.proofs.Change.{bounded-change}
use Rattle.machine.proofs.Kept.{sound-table}
use Rattle.machine.proofs.Fail.{shrinks_unowned}
use Rattle.store.specs.Image.{Writes}
use Rattle.store.specs.Shown.{Kept}
use Rattle.requests.specs.Changes.{Makes}
use Rattle.failing.proofs.Fusing.{change_fuse, change_none}

-- ---- the owner

-- who has no owner has nothing to clear
unowned_same : (q : Request) (j : Kind) (o : Option Owner) (i : Bool) (p : Option Package) (hs : List ℕ) → o ≡ none → Packed j o i p hs
    → unowned q ≡ record { key = q.key; candidates = q.candidates; owner = o; info = i; «package» = p; parents = hs; fallback = q.fallback }
unowned_same q j (some o) i p hs e x = absurd cc
unowned_same q j none true (some p) hs e x = absurd x
unowned_same q j none true none hs e x = never x.0
unowned_same q j none false (some p) hs e x = never x.0
unowned_same q j none false none hs e x = rw x

kept_free : (k : Key) (r : Request) (cs : List Candidate) → r.owner ≡ none → (kept k r cs).owner ≡ none
kept_free k r [] e = refl
kept_free k r (c ∷ cs) e = e

module _ (st : State) (s : Sound st) (k : Key) where
  pub nothing_released : (at k st.table).owner ≡ none → {b : List ℕ} → Writes b st → Writes b (on_table (change k unowned st.table) st)
  nothing_released e {b} w =
      let q = at k st.table in
      let l = lawful_at k st.table s.bounded.lawful in
      let same : unowned q ≡ q = unowned_same q q.key.kind q.owner q.info q.«package» q.parents e l.packed in
      subst (λ (t : Table). Writes b (on_table t st)) (sym (change_none k unowned 0 st.table s.bounded.ordered s.bounded.filled same)) w

  released_free : (at k (change k unowned st.table)).owner ≡ none
  released_free = ap (λ (r : Request). r.owner) (at_same k unowned 0 st.table (λ r. refl) s.bounded.ordered) ∙ kept_free k (unowned (at k st.table)) (at k st.table).candidates refl

-- ---- the whole

module _ (st : State) (s : Sound st) (k : Key) (small : k.hash < top) where
  released_sound : Sound (on_table (change k unowned st.table) st)
  released_sound = sound-table s (bounded-change k unowned small shrinks_unowned s.bounded)

  forgets : forget k (change k unowned st.table) ≡ forget k st.table
  unfolding forget
  forgets = change_fuse k unowned (λ r. blank r.key) 0 st.table (λ r. refl) (λ r z. refl) s.bounded.ordered

  pub forgotten : {b b' : List ℕ} → Writes b (on_table (change k unowned st.table) st) → Makes b b' (λ t. (at k t).owner ≡ none) (forget k) → Writes b' (on_table (forget k st.table) st)
  forgotten {b} {b'} w h = subst (λ (t : Table). Writes b' (on_table t st)) forgets (h _ released_sound w (released_free st s k))

pub released : {b b' : List ℕ} (k : Key) → k.hash < top → Kept b → Makes b b' (λ t. Unit {0}) (change k unowned) → Kept b'
released k small p h = record { state = _; sound = released_sound p.state p.sound k small; writes = h p.state p.sound p.writes tt }
