-- A change of flag, package or parents: the request's place comes, is replaced or goes, and nothing else in the bytes changes.
use Prim.Native.Nat.{ℕ, ◌<◌}
use mathlib.Core.Path.{◌≡◌, refl, sym, ap, subst, ◌∙◌}
use mathlib.Core.Bool.{Bool, true, false, ◌||◌}
use mathlib.Core.List.{List, [], ◌∷◌, ◌++◌, map}
use mathlib.Core.Option.{Option, none, some}
use lib.ListN.{get_or, set}
use Rattle.ident.specs.Number.{top, Key, wtxid}
use Rattle.regions.specs.declared.Row.{Row}
use Rattle.regions.specs.Order.{Bound}
use Rattle.regions.specs.Regions.{insert_at, remove_at}
use Rattle.places.specs.Places.{Place, blank, with_stage, with_combined, with_wtxids, with_parents}
use Rattle.machine.specs.State.{Candidate, Owner, Package, Request, State, on_table, is_some}
use Rattle.machine.specs.Table.{at, change, has}
use Rattle.machine.specs.Package.{packaged}
use Rattle.machine.specs.Sound.{Sound, OwnerFits, Lawful}
use Rattle.machine.proofs.Table.{at_key, lawful_at}
use Rattle.machine.proofs.Tests.{never}
use Rattle.store.specs.Flat.{flat_of, row_of, rows_for, rows_of, places_for, places_of, tally}
use Rattle.store.specs.Image.{Shows, Writes}
use Rattle.store.specs.Shown.{with_places}
use Rattle.store.proofs.Placed.{Alike}
use Rattle.store.proofs.PlacesAt.{place_comes, place_goes, place-replaced, places-unchanged}
use Rattle.store.proofs.RowBack.{rows_like}
use Rattle.store.proofs.Split.{rows_below, rows_above, rows_at, rows-change}
use Rattle.requests.proofs.Keeping.{writes_by}
use Rattle.package_stages.specs.Records.{place_hashes}
use Rattle.package_stages.specs.Changes.{stage_of, has_place, OwnedPlain, flagged, with_parent, FlagOnly, begun, closed}
use Rattle.package_stages.proofs.Seeking.{place_in, place_held, place-free, holding, spot_is, its-place}

-- ---- a request with a place has an owner, who is a candidate

manned : (q : Request) → Lawful q → is_some q.owner ≡ true → q.candidates ≡ [] → ⊥
manned q l e z = go q.owner q.candidates l.owner e z
  where
    go : (o : Option Owner) (cs : List Candidate) → OwnerFits o cs → is_some o ≡ true → cs ≡ [] → ⊥
    go none cs f e z = never e
    go (some o) cs f e z = unfold has in never (sym (ap (has o.connection) z) ∙ f.0)

pub packed_held : (q : Request) (p : Package) → q.«package» ≡ some p → has_place q ≡ true
packed_held q p e = rw e (go q.info)
  where
    go : (i : Bool) → (i || true) ≡ true
    go true = refl
    go false = refl

pub flag_held : (q : Request) → FlagOnly q → has_place q ≡ true
flag_held q o = rw o.info

pub flag-stage : (q : Request) → FlagOnly q → stage_of q.info q.«package» ≡ 1
flag-stage q o = rw (o.info, o.bare)

-- ---- a change beside the rows

module _ (st : State) (s : Sound st) (k : Key) (g : Request → Request) (same : Alike (g (at k st.table)) (at k st.table)) where
  rows_stay : rows_for (g (at k st.table)) ≡ rows_for (at k st.table)
  unfolding rows_for
  rows_stay =
      let q = at k st.table in
      ap (map (row_of (g q))) same.candidates ∙ rows_like (g q) q q.candidates same.key same.fallback same.owner

  all_rows : rows_of (change k g st.table) ≡ rows_of st.table
  all_rows =
      let t = st.table in
      let o = s.bounded.ordered in
      rows-change k 0 t o g ∙ ap (λ (l : List Row). rows_below k t ++ (l ++ rows_above k t)) rows_stay ∙ sym (rows_at k 0 t o)

  -- the places are all that a change has to show
  pub made : {ps : List Place} → places_of (change k g st.table) ≡ ps → {b : List ℕ} → Shows b (with_places ps (flat_of st)) → Writes b (on_table (change k g st.table) st)
  made e h = writes_by st (change k g st.table) all_rows (ap tally all_rows) e h

  some_one : is_some (at k st.table).owner ≡ true → (g (at k st.table)).candidates ≡ [] → places_for (g (at k st.table)) ≡ []
  some_one e z = absurd (manned (at k st.table) (lawful_at k st.table s.bounded.lawful) e (sym same.candidates ∙ z))

-- ---- the place where a search stopped

module _ (st : State) (s : Sound st) (h : ℕ) (small : h < top) {i : ℕ} (bd : Bound (place_hashes (places_of st.table)) h i) where
  abbrev q : Request
  q = at (wtxid h) st.table

  its-hash : q.key.hash ≡ h
  its-hash = ap (λ (j : Key). j.hash) (at_key (wtxid h) 0 st.table small s.bounded.ordered)

  module _ (g : Request → Request) (same : Alike (g q) q) where
    replaced : has_place q ≡ true → (p : Place) → places_for (g q) ≡ p ∷ [] → {b : List ℕ} → Shows b (with_places (set (places_of st.table) i p) (flat_of st))
        → Writes b (on_table (change (wtxid h) g st.table) st)
    replaced e p w x =
        let k = wtxid h in
        let t = st.table in
        let u = (holding q (lawful_at k t s.bounded.lawful) e).owner in
        made st s k g same (place-replaced k 0 t s.bounded.ordered g (some_one st s k g same u) (place_in q) p (place_held q e) w ∙
        ap (λ (j : ℕ). set (places_of t) j p) (sym (spot_is st s h small bd))) x

  -- "owner .., flag"
  pub opened : OwnedPlain q → {b : List ℕ} → Shows b (with_places (insert_at i (blank h 1) (places_of st.table)) (flat_of st)) → Writes b (on_table (change (wtxid h) flagged st.table) st)
  unfolding places_for
  opened o x =
      let k = wtxid h in
      let t = st.table in
      let same : Alike (flagged q) q = record { key = refl; candidates = refl; owner = refl; fallback = refl } in
      let before : places_for q ≡ [] = rw (o.info, o.bare) in
      let after : places_for (flagged q) ≡ blank h 1 ∷ [] = rw (o.bare, its-hash) in
      made st s k flagged same (place_comes k 0 t s.bounded.ordered flagged (some_one st s k flagged same o.owned) (blank h 1) before after ∙
      ap (λ (j : ℕ). insert_at j (blank h 1) (places_of t)) (sym (spot_is st s h small bd))) x

  pub parent-added : (n : ℕ) → has_place q ≡ true → (d : Place) {b : List ℕ} → Shows b (with_places (set (places_of st.table) i
      (with_parents ((get_or (places_of st.table) i d).parents ++ (n ∷ [])) (get_or (places_of st.table) i d))) (flat_of st)) → Writes b (on_table (change (wtxid h) (with_parent n) st.table) st)
  parent-added n e d {b} x =
      let same : Alike (with_parent n q) q = record { key = refl; candidates = refl; owner = refl; fallback = refl } in
      replaced (with_parent n) same e (place_in (with_parent n q)) (place_held (with_parent n q) e)
      (subst (λ (p : Place). Shows b (with_places (set (places_of st.table) i (with_parents (p.parents ++ (n ∷ [])) p)) (flat_of st))) (its-place st s h small bd e d) x)

  -- "Awaiting" becomes "Enqueued"
  pub stage-set : (p : Package) → q.«package» ≡ some p → has_place q ≡ true → (d : Place) {b : List ℕ}
      → Shows b (with_places (set (places_of st.table) i (with_stage 3 (get_or (places_of st.table) i d))) (flat_of st)) → Writes b (on_table (change (wtxid h) (packaged (begun p)) st.table) st)
  unfolding places_for
  stage-set p w e d {b} x =
      let same : Alike (packaged (begun p) q) q = record { key = refl; candidates = refl; owner = refl; fallback = refl } in
      let z : places_for (packaged (begun p) q) ≡ with_stage 3 (place_in q) ∷ [] = rw w in
      replaced (packaged (begun p)) same e (with_stage 3 (place_in q)) z
      (subst (λ (y : Place). Shows b (with_places (set (places_of st.table) i (with_stage 3 y)) (flat_of st))) (its-place st s h small bd e d) x)

  -- the flag becomes a package
  pub claimed : (c : ℕ) (ws : List ℕ) → FlagOnly q → (d : Place) {b : List ℕ}
      → Shows b (with_places (set (places_of st.table) i (with_stage 2 (with_combined c (with_wtxids ws (get_or (places_of st.table) i d))))) (flat_of st))
      → Writes b (on_table (change (wtxid h) (packaged (record { combined = c; wtxids = ws; enqueued = false })) st.table) st)
  unfolding places_for
  claimed c ws o d {b} x =
      let p : Package = record { combined = c; wtxids = ws; enqueued = false } in
      let same : Alike (packaged p q) q = record { key = refl; candidates = refl; owner = refl; fallback = refl } in
      let e = flag_held q o in
      replaced (packaged p) same e (with_stage 2 (with_combined c (with_wtxids ws (place_in q)))) refl
      (subst (λ (y : Place). Shows b (with_places (set (places_of st.table) i (with_stage 2 (with_combined c (with_wtxids ws y)))) (flat_of st))) (its-place st s h small bd e d) x)

  beside : Alike (closed q) q
  beside = record { key = refl; candidates = refl; owner = refl; fallback = refl }

  gone : places_for (closed q) ≡ []
  unfolding places_for
  gone = refl

  -- "flag, package and parents go"
  pub place-closed : has_place q ≡ true → {b : List ℕ} → Shows b (with_places (remove_at i (places_of st.table)) (flat_of st)) → Writes b (on_table (change (wtxid h) closed st.table) st)
  place-closed e x =
      let k = wtxid h in
      let t = st.table in
      made st s k closed beside (place_goes k 0 t s.bounded.ordered closed (λ z. gone) (place_in q) (place_held q e) gone ∙
      ap (λ (j : ℕ). remove_at j (places_of t)) (sym (spot_is st s h small bd))) x

  pub nothing-closed : has_place q ≡ false → {b : List ℕ} → Writes b st → Writes b (on_table (change (wtxid h) closed st.table) st)
  nothing-closed e x =
      let k = wtxid h in
      made st s k closed beside (places-unchanged k 0 st.table s.bounded.ordered closed (λ z. gone) (gone ∙ sym (place-free q e))) x
