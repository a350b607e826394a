-- Packages counted; and the whole: the packages counted, rows, then places.
use Prim.Native.Nat.{ℕ, ◌+◌, ◌≤◌, ◌<◌}
use mathlib.Core.Path.{◌≡◌, refl, sym, ap, subst, ◌∙◌}
use mathlib.Core.Bool.{Bool, true, false}
use mathlib.Core.List.{List, [], ◌∷◌}
use native.Mathlib.Numerals.{add-one}
use native.Mathlib.Omega.{arith}
use lib.Dec.{leb}
use lib.ListN.{length, take, get_or, length-append}
use lib.Seq.{take_all, take-suc}
use Rattle.places.specs.declared.Head.{Head}
use Rattle.places.specs.Places.{Place, head_of}
use Rattle.machine.specs.Limits.{word}
use Rattle.machine.specs.Table.{one}
use Rattle.machine.specs.State.{Table, State, on_table}
use Rattle.machine.specs.Package.{Torn}
use Rattle.machine.specs.Sound.{Sound}
use Rattle.store.specs.Flat.{Flat, tally}
use Rattle.store.specs.Image.{Shows, Writes}
use Rattle.store.specs.Shown.{held_places_in, with_places, Turns}
use Rattle.store.proofs.Counts.{distinct_in}
use Rattle.store.proofs.Frame.{sizes}
use Rattle.requests.proofs.Keeping.{writes_by}
use Rattle.package_stages.specs.Dead.{filter}
use Rattle.package_stages.proofs.Compacting.{filter-append}
use Rattle.package_stages.proofs.Seeking.{head-stage}
use Rattle.tearing.specs.Torn.{torn_all, RowsTorn, is_package, flagged, Cleared}
use Rattle.tearing.proofs.Undoing.{teardown_is}
use Rattle.tearing.proofs.TornTables.{rows_left_lem, places_left, packages-are}

-- ---- the loop: of the first i places c are packages'

pub record Counting (b : List ℕ) (i c : ℕ) : Type 0 where
  pub less : c ≤ i
  pub count : (f : Flat) → Shows b f → c ≡ length (filter is_package (take i f.places))

pub counting_none : (b : List ℕ) → Counting b 0 0
unfolding filter
counting_none b = record { less = omega arith; count = λ f h. refl }

module _ {b : List ℕ} {i c : ℕ} (g : Counting b i c) where
  pub counting_more : i < held_places_in b → (d : Place) {x : Head} → ((f : Flat) (d : Place) → Shows b f → x ≡ head_of (get_or f.places i d))
      → {v : ℕ} → v ≡ one (leb 2 x.stage) → Counting b (i + 1) (c + v)
  counting_more l d {x} r {v} e = record {
    less = omega (arith, g.less, few (leb 2 x.stage), e);
    count = λ f w.
        let u = sizes w in
        let p = get_or f.places i d in
        let more : length (filter is_package (take (i + 1) f.places)) ≡ length (filter is_package (take i f.places)) + one (is_package p) =
        ap (λ (y : List Place). length (filter is_package y)) (rw (add-one i) (take-suc f.places i d (omega arith)))
        ∙ ap length (filter-append is_package (take i f.places) (p ∷ []))
        ∙ length-append (filter is_package (take i f.places)) (filter is_package (p ∷ []))
        ∙ ap (λ (n : ℕ). length (filter is_package (take i f.places)) + n) (single p) in
        ap (λ (n : ℕ). n + v) (g.count f w)
        ∙ ap (λ (n : ℕ). length (filter is_package (take i f.places)) + n) e
        ∙ ap (λ (n : ℕ). length (filter is_package (take i f.places)) + one (leb 2 n)) (head-stage p (r f d w))
        ∙ sym more;
  }
    where
      few : (y : Bool) → one y ≤ 1
      few true = omega arith
      few false = omega arith

      single : (p : Place) → length (filter is_package (p ∷ [])) ≡ one (is_package p)
      single p = by_bool (is_package p) refl
        where
          by_bool : (y : Bool) → is_package p ≡ y → length (filter is_package (p ∷ [])) ≡ one (is_package p)
          by_bool true e = unfold filter in rw e
          by_bool false e = unfold filter in rw e

  pub counting_end : held_places_in b ≤ i → (f : Flat) → Shows b f → c ≡ length (filter is_package f.places)
  counting_end l f w = let u = sizes w in g.count f w ∙ ap (λ (ps : List Place). length (filter is_package ps)) (take_all i f.places (omega arith))

-- ---- the packages counted, rows, then places

pub cleared : {b b₁ b₂ : List ℕ} {r : ℕ} (now : ℕ) → now < word → ((f : Flat) → Shows b f → r ≡ length (filter is_package f.places)) → ((st : State) → Sound st → Writes b st → RowsTorn b₁ st now)
    → Turns b₁ b₂ (λ f. with_places (filter flagged f.places) f) → Cleared b b₂ r now
cleared {b} {b₁} {b₂} {r} now late n h p = record {
  count = λ st s w. n _ w ∙ packages-are st.table ∙ sym (ap (λ (a : Torn). a.cleared) (teardown_is now late st.table s.bounded));
  table = λ st s w.
      let t = st.table in
      let rows = rows_left_lem now t s.bounded.ordered s.bounded.lawful (distinct_in t s.bounded.once) in
      let made = writes_by st (torn_all now t) rows (ap tally rows) (places_left now t s.bounded.lawful) (p _ (h st s w)) in
      subst (λ (x : Table). Writes b₂ (on_table x st)) (sym (ap (λ (a : Torn). a.table) (teardown_is now late t s.bounded))) made;
}
