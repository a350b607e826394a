-- begin_package_resolution: when it is refused, and what it does.
use Prim.Native.Nat.{ℕ, ◌<◌}
use mathlib.Core.Path.{◌≡◌, refl, sym, subst, ◌∙◌}
use mathlib.Core.Bool.{Bool, true, false, ◌&&◌}
use mathlib.Core.List.{List}
use mathlib.Core.Option.{Option, none, some}
use lib.Dec.{eqb}
use borrow.Author.Tests.{eqb-true}
use Rattle.ident.specs.Number.{wtxid}
use Rattle.machine.specs.State.{Package, Request, State, on_table}
use Rattle.machine.specs.Sound.{Sound}
use Rattle.machine.specs.Table.{at, change}
use Rattle.machine.specs.Package.{live_owner, packaged, same_list, awaits, may_begin, begin_resolution}
use Rattle.machine.proofs.Tests.{never, and_left, and_right}
use Rattle.store.specs.Image.{Writes}
use Rattle.store.specs.Shown.{held_places_in, Kept}
use Rattle.requests.specs.Changes.{Makes, Tells}
use Rattle.package_stages.specs.Changes.{stage_of, wtxids_of, combined_of, has_place, SpotOf, ReadAt, begun}
use Rattle.package_stages.proofs.Placing.{packed_held}
use Rattle.announcing.specs.Answers.{Answered}
use Rattle.soliciting.proofs.Owned.{awaiting_is}
use Rattle.soliciting.proofs.SamePackage.{same_equal}

-- ---- the two tests of the code

abbrev pub awaits_live : ℕ → ℕ → Request → Bool
awaits_live n now r = live_owner n now r.owner && eqb (stage_of r.info r.«package») 2

abbrev pub same_package : ℕ → List ℕ → Option Package → Bool
same_package c ws p = eqb (combined_of p) c && same_list (wtxids_of p) ws

-- an option that holds a package
record Filled (o : Option Package) : Type 0 where
  its : Package
  is : o ≡ some its

awaiting_some : (i : Bool) (o : Option Package) → eqb (stage_of i o) 2 ≡ true → Filled o
awaiting_some i (some p) e = record { its = p; is = refl }
awaiting_some true none e = never e
awaiting_some false none e = never e

tests-are : (l i : Bool) (o : Option Package) (c : ℕ) (ws : List ℕ) → (l && awaits c ws o) ≡ ((l && eqb (stage_of i o) 2) && same_package c ws o)
tests-are false i o c ws = refl
tests-are true i (some p) c ws = rw (awaiting_is p.enqueued) refl
tests-are true true none c ws = refl
tests-are true false none c ws = refl

may : (n c : ℕ) (ws : List ℕ) (now : ℕ) (q : Request) → may_begin n c ws now q ≡ (awaits_live n now q && same_package c ws q.«package»)
may n c ws now q = tests-are (live_owner n now q.owner) q.info q.«package» c ws

module _ (n h c : ℕ) (ws : List ℕ) (now : ℕ) {b : List ℕ} where
  refusing : Tells b (λ t. may_begin n c ws now (at (wtxid h) t) ≡ false) → Answered b b false (λ m t. begin_resolution n h c ws now t)
  unfolding begin_resolution
  refusing z = record { reply = λ st s w. rw (z st s w) refl; table = λ st s w. rw (z st s w) w }

  module _ {r : Bool} (e : Tells b (λ t. r ≡ awaits_live n now (at (wtxid h) t))) where
    pub begin-barred : r ≡ false → Answered b b false (λ m t. begin_resolution n h c ws now t)
    begin-barred d = refusing (λ st s w. may n c ws now (at (wtxid h) st.table) ∙ rw (sym (e st s w) ∙ d) refl)

    module _ (d : r ≡ true) where
      its-package : (st : State) → Sound st → Writes b st → Filled (at (wtxid h) st.table).«package»
      its-package st s w = let q = at (wtxid h) st.table in awaiting_some q.info q.«package» (and_right (live_owner n now q.owner) _ (sym (e st s w) ∙ d))

      pub begin_held : Tells b (λ t. has_place (at (wtxid h) t) ≡ true)
      begin_held st s w = let p = its-package st s w in packed_held (at (wtxid h) st.table) p.its p.is

      pub begin-inside : {i : ℕ} {held : Bool} → SpotOf b h i held → Kept b → i < held_places_in b
      begin-inside p k = p.inside ((p.is k.state k.sound k.writes).held_is ∙ begin_held k.state k.sound k.writes)

      pub begin_read : {v : Bool} {i : ℕ} {held : Bool} → SpotOf b h i held → ReadAt b i (λ q. v ≡ same_package c ws q.«package») → Tells b (λ t. v ≡ same_package c ws (at (wtxid h) t).«package»)
      begin_read p f st s w = f h p.small st s w (record { bound = (p.is st s w).bound; held_is = sym (begin_held st s w) })

      module _ {v : Bool} (same : Tells b (λ t. v ≡ same_package c ws (at (wtxid h) t).«package»)) where
        pub begin_other : v ≡ false → Answered b b false (λ m t. begin_resolution n h c ws now t)
        begin_other f = refusing (λ st s w. may n c ws now (at (wtxid h) st.table) ∙ rw (sym (e st s w) ∙ d, sym (same st s w) ∙ f) refl)

        begun_is : v ≡ true → (st : State) → (s : Sound st) → (w : Writes b st) → begun (its-package st s w).its ≡ record { combined = c; wtxids = ws; enqueued = true }
        begun_is f st s w =
            let p = its-package st s w in
            let z : same_package c ws (some p.its) ≡ true = rw p.is at (sym (same st s w) ∙ f) in
            rw (eqb-true p.its.combined c (and_left (eqb p.its.combined c) (same_list p.its.wtxids ws) z), same_equal p.its.wtxids ws (and_right (eqb p.its.combined c) _ z)) refl

        pub begin_done : {b' : List ℕ} → v ≡ true → ((p : Package) → Makes b b' (λ t. (at (wtxid h) t).«package» ≡ some p) (change (wtxid h) (packaged (begun p))))
            → Answered b b' true (λ m t. begin_resolution n h c ws now t)
        unfolding begin_resolution
        begin_done {b'} f g = record { reply = λ st s w. rw (allowed st s w) refl; table = λ st s w. rw (allowed st s w) (changed st s w) }
          where
            allowed : (st : State) → Sound st → Writes b st → may_begin n c ws now (at (wtxid h) st.table) ≡ true
            allowed st s w = may n c ws now (at (wtxid h) st.table) ∙ rw (sym (e st s w) ∙ d, sym (same st s w) ∙ f) refl

            changed : (st : State) → Sound st → Writes b st → Writes b' (on_table (change (wtxid h) (packaged (record { combined = c; wtxids = ws; enqueued = true })) st.table) st)
            changed st s w = subst (λ (p : Package). Writes b' (on_table (change (wtxid h) (packaged p) st.table) st)) (begun_is f st s w)
                (g (its-package st s w).its st s w (its-package st s w).is)
