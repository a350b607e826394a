-- Every owner that is due expires, where no place is held: one pass over the rows comes to the same.
use Prim.Native.Nat.{ℕ, ◌<◌}
use mathlib.Core.Path.{◌≡◌, refl, sym, ap, subst, ◌∙◌}
use mathlib.Core.Logic.{inl, inr}
use mathlib.Core.List.{List, [], ◌∷◌, ◌++◌}
use native.Mathlib.Omega.{arith}
use lib.ListN.{length, take, drop}
use Rattle.ident.specs.Number.{other}
use Rattle.regions.specs.Regions.{each}
use Rattle.places.specs.Places.{Place}
use Rattle.machine.specs.Limits.{word}
use Rattle.machine.specs.State.{Request, Table, State, on_table}
use Rattle.machine.specs.Table.{keep, change}
use Rattle.machine.specs.Fail.{Listed}
use Rattle.machine.specs.Plan.{Due, due_of, due, expired}
use Rattle.machine.specs.Sound.{Sound}
use Rattle.machine.proofs.Kept.{sound-table}
use Rattle.machine.proofs.Plan.{bounded-expired}
use Rattle.machine.proofs.Tests.{test}
use Rattle.store.specs.Flat.{places_of}
use Rattle.store.specs.Image.{Writes}
use Rattle.package_stages.specs.Changes.{has_place}
use Rattle.package_stages.specs.Dead.{filter, live}
use Rattle.package_stages.proofs.Seeking.{place_in, place_held, place-free}
use Rattle.requests.specs.Changes.{Makes}
use Rattle.failing.specs.Changes.{readied}
use Rattle.postponing.specs.Silent.{readied_both, late, dropped_in, dropped_all}
use Rattle.postponing.specs.Pending.{Unplaced}
use Rattle.apart.specs.Bare.{bare_request, bare, bare_state}
use Rattle.apart.specs.Apart.{Slot, plain, Apart}
use Rattle.apart.proofs.BareTable.{sound-bare}
use Rattle.apart.proofs.BareChange.{keep-bare, change-bare}
use Rattle.apart.proofs.Overdue.{front_is, rest_stays, slots_rest}
use Rattle.apart.proofs.OneOwner.{front_within}
use Rattle.planning.specs.Silent.{ready_each, silenced}
use Rattle.planning.proofs.AllExpired.{unplaced_bare}
use Rattle.planning.proofs.AtOnce.{expired_at_once, unplaced_after}

-- ---- no place in a list, and no request that has one

none_placed : (t : Table) → places_of t ≡ [] → Unplaced t
unfolding each
none_placed [] e = tt
none_placed (r ∷ t) e = elim (test (has_place r)) [
  | inl h ↦
      let y : ◌≡◌ {A = List Place} (place_in r ∷ places_of t) [] = sym (ap (λ (l : List Place). l ++ places_of t) (place_held r h)) ∙ e in
      let z : ◌≡◌ {A = ℕ} 0 1 = cc in absurd (omega arith)
  | inr h ↦ (h, none_placed t (sym (ap (λ (l : List Place). l ++ places_of t) (place-free r h)) ∙ e))
]

no_places : (t : Table) → Unplaced t → places_of t ≡ []
unfolding each
no_places [] a = refl
no_places (r ∷ t) a = ap (λ (l : List Place). l ++ places_of t) (place-free r a.0) ∙ no_places t a.1

none_live : (xs : List Slot) → length xs ≡ 0 → filter live (plain xs) ≡ []
unfolding filter
none_live [] e = refl
none_live (x ∷ xs) e = absurd (omega arith)

-- ---- without packages it is the same

module _ (now : ℕ) where
  pub due_bare : (t : Table) → due now (bare t) ≡ due now t
  unfolding due bare
  due_bare [] = refl
  due_bare (r ∷ t) = ap (λ (l : List Due). due_of now r.key r.owner ++ l) (due_bare t)

  ready_bare : (ds : List Due) (t : Table) → ready_each now ds (bare t) ≡ bare (ready_each now ds t)
  unfolding ready_each
  ready_bare [] t = refl
  ready_bare (d ∷ ds) t =
      ap (λ (u : Table). ready_each now ds (change (other d.key) (readied now) u)) (change-bare d.key (readied now) (readied now) t (λ r. refl))
      ∙ ap (ready_each now ds) (change-bare (other d.key) (readied now) (readied now) (change d.key (readied now) t) (λ r. refl))
      ∙ ready_bare ds (readied_both now d.key t)

  in_bare : (r : Request) → dropped_in now (bare_request r) ≡ bare_request (dropped_in now r)
  in_bare r = elim (test (late now r.owner)) [ inl e ↦ rw e refl | inr e ↦ rw e refl ]

  dropped_bare : (t : Table) → dropped_all now (bare t) ≡ bare (dropped_all now t)
  unfolding dropped_all bare
  dropped_bare [] = refl
  dropped_bare (r ∷ t) =
      let q = dropped_in now r in
      ap (keep (dropped_in now (bare_request r)) (dropped_in now (bare_request r)).candidates) (dropped_bare t)
      ∙ ap (λ (x : Request). keep x x.candidates (bare (dropped_all now t))) (in_bare r)
      ∙ keep-bare q q.candidates (dropped_all now t)

  silenced_bare : (t : Table) → silenced now (bare t) ≡ bare (silenced now t)
  silenced_bare t =
      ap (λ (ds : List Due). dropped_all now (ready_each now ds (bare t))) (due_bare t)
      ∙ ap (dropped_all now) (ready_bare (due now t) t)
      ∙ dropped_bare (ready_each now (due now t) t)

-- ---- all of them, where there are no places

module _ {b f : List ℕ} {m : ℕ} {st : State} {xs : List Slot} (o : Apart b f m st xs) (few : length xs ≡ 0) {now : ℕ} (w : now < word) where
  abbrev t : Table
  t = st.table

  unplaced : Unplaced t
  unplaced = none_placed t (sym o.lives ∙ none_live xs few)

  pub silent_is : expired now st ≡ record { keys = []; table = silenced now t }
  silent_is = expired_at_once now t w o.sound.bounded unplaced

  pub silent-apart : {v b' : List ℕ} → length v ≡ length (take m b) → Makes (take m b) v Unplaced (silenced now) → length b' ≡ length b → b' ≡ v ++ drop m b
      → Apart b' f m (on_table (expired now st).table st) xs
  silent-apart {v} {b'} nv makes nb e = subst (λ (x : Listed). Apart b' f m (on_table x.table st) xs) (sym silent_is) (record {
    sound = subst (λ (x : Listed). Sound (on_table x.table st)) silent_is (sound-table o.sound (bounded-expired now st w o.sound));
    size = o.size;
    long = nb ∙ o.long;
    first_long = o.first_long;
    writes =
        subst (λ (y : List ℕ). Writes y (bare_state (on_table (silenced now t) st))) (sym (ap (take m) e ∙ front_is b v m (front_within o) nv))
        (subst (λ (x : Table). Writes v (on_table x (bare_state st))) (silenced_bare now t) (makes (bare_state st) (sound-bare o.sound) o.writes (unplaced_bare t)));
    slots = slots_rest (ap (drop m) e ∙ rest_stays b v m (front_within o) nv) o.slots;
    lives = none_live xs few ∙ sym (no_places (silenced now t) (unplaced_after now t w o.sound.bounded unplaced));
    ascend = o.ascend;
    short = o.short;
  })
