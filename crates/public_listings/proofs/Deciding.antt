-- The tests of a listing's text, in turn, come to the test of the state that it lists.
use Prim.Native.Nat.{ℕ, ◌≤◌}
use mathlib.Core.Path.{◌≡◌, sym, ap, subst, ◌∙◌}
use mathlib.Core.Bool.{Bool, true, false, ◌&&◌}
use mathlib.Core.List.{List}
use mathlib.Core.Logic.{inl, inr}
use native.Mathlib.Omega.{arith}
use lib.Dec.{leb}
use borrow.Author.Tests.{leb-true}
use Rattle.words.specs.Words.{Decides}
use Rattle.machine.specs.Limits.{max_announcements, max_peer_announcements, max_in_flight}
use Rattle.machine.specs.State.{Table, limits_of}
use Rattle.machine.specs.Table.{held}
use Rattle.machine.specs.Call.{sizes_taken}
use Rattle.machine.specs.SoundTest.{every, is_filled, is_lawful, sizes_fit}
use Rattle.machine.proofs.Tests.{test, and_left, and_right}
use Rattle.heavy.proofs.Streams.{held_few, few_held, owned_few, few_owned}
use Rattle.listed_lines.specs.declared.line.Head as line-head
use Rattle.listed_form.specs.Given.{Body, requests_only, Reads}
use Rattle.listed_counts.specs.Passes.{Light, LightRead}
use Rattle.listed_requests.specs.Parts.{counts_fit}
use Rattle.listed_requests.specs.Given.{EachFits}
use Rattle.listed_requests.proofs.Counted.{test-counts}
use Rattle.listed_pairs.specs.Given.{PairsFit}
use Rattle.listed_pairs.proofs.Verdict.{unsized, not_each, passed, lawful, all_filled, held_within, not_pairs, by_counts}
use Rattle.public_listings.specs.Verdicts.{Sounds}

-- ---- the connections

module _ {b : List ℕ} {from : ℕ} {t : Table} (y : Body b from (requests_only t)) where
  counts_told : (r : Bool) → LightRead b from r → held t ≤ max_announcements → every is_filled t ≡ true → every is_lawful t ≡ true → r ≡ counts_fit t
  counts_told r v h f l = by r (v.is t y h f)
    where
      by : (r : Bool) → Decides r (Light t) → r ≡ counts_fit t
      by true d =
          sym ((test-counts t l).passes (record { held = few_held max_peer_announcements t d.held; owned = few_owned max_in_flight t d.owned }))
      by false d = elim (test (counts_fit t)) [
        | inl e ↦
            let g = (test-counts t l).holds e in
            absurd (d (record { held = held_few max_peer_announcements t g.held; owned = owned_few max_in_flight t g.owned }))
        | inr e ↦ sym e
      ]

-- ---- the tests in turn

each_told : {b : List ℕ} {e L Q : ℕ} {x z : Bool} → EachFits b e L Q x → x ≡ z → EachFits b e L Q z
each_told {b} {e} {L} {Q} v q = subst (λ (r : Bool). EachFits b e L Q r) q v

pairs_told : {b : List ℕ} {e : ℕ} {p q : Bool} → PairsFit b e p → p ≡ q → PairsFit b e q
pairs_told {b} {e} w q = subst (λ (r : Bool). PairsFit b e r) q w

module _ {b : List ℕ} {h : line-head.Head} {e : ℕ} where
  pub bad-sizes : sizes_taken h.limit h.places ≡ false → Sounds b h e false
  bad-sizes g = record { is = λ y. sym (unsized y g) }

  module _ {x : Bool} (v : EachFits b e h.limit h.places x) where
    pub bad_local : x ≡ false → Sounds b h e false
    bad_local q = record { is = λ y. sym (not_each y (each_told v q)) }

    module _ (z : x ≡ true) {p : Bool} (w : PairsFit b e p) where
      pub bad-pairs : p ≡ false → Sounds b h e false
      bad-pairs q = record { is = λ y. sym (not_pairs y (each_told v z) (pairs_told w q)) }

      -- announcements that are within L, which opening takes
      held_few_there : sizes_taken h.limit h.places ≡ true → (y : Reads b h e) → held y.state.table ≤ max_announcements
      held_few_there g y =
          let s = y.state in
          let k : sizes_fit s ≡ true = ap sizes_fit y.head ∙ g in
          let m : s.limit ≤ max_announcements = leb-true s.limit max_announcements (and_right (leb 1 s.limit) _ (and_left (leb 1 s.limit && leb s.limit max_announcements) _ k)) in
          omega (arith, held_within (limits_of s) s.places s.table (passed y (each_told v z)))

      pub all_told : sizes_taken h.limit h.places ≡ true → p ≡ true → {r : Bool} → LightRead b e r → Sounds b h e r
      all_told g q {r} u = record {
        is = λ y.
            let s = y.state in
            counts_told y.body r u (held_few_there g y) (all_filled (limits_of s) s.places s.table (passed y (each_told v z))) (lawful y (each_told v z))
            ∙ sym (by_counts y (each_told v z) g (pairs_told w q));
      }
