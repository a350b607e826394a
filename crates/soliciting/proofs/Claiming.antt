-- claim_package: when it is refused, and what it does.
use Prim.Native.Nat.{ℕ, ◌≤◌, ◌<◌}
use mathlib.Core.Path.{◌≡◌, refl, sym, ap, ◌∙◌}
use mathlib.Core.Bool.{Bool, true, false, ◌&&◌, and-false, and_comm as and-swap}
use mathlib.Core.List.{List}
use mathlib.Core.Option.{Option, none, some}
use native.Mathlib.Omega.{arith}
use lib.Dec.{leb, eqb}
use lib.ListN.{length}
use borrow.Author.Tests.{le-leb, lt-leb}
use Rattle.ident.specs.Number.{wtxid}
use Rattle.machine.specs.Limits.{max_wtxids}
use Rattle.machine.specs.State.{Request, State, is_none}
use Rattle.machine.specs.Sound.{Sound}
use Rattle.machine.specs.Table.{at, change}
use Rattle.machine.specs.Package.{live_owner, packaged, may_claim, claim_package}
use Rattle.machine.proofs.Tests.{never, and_left, and_right}
use Rattle.store.specs.Image.{Writes}
use Rattle.requests.specs.Changes.{Makes, Tells}
use Rattle.package_stages.specs.Changes.{stage_of, FlagOnly}
use Rattle.announcing.specs.Answers.{Answered}
use Rattle.soliciting.proofs.Owned.{flag_is}

none_is : {A : Type 0} (o : Option A) → is_none o ≡ true → o ≡ none
none_is none e = refl
none_is (some a) e = never e

-- what the code asks, once there are 1 to 100 wtxids
abbrev flag_live : ℕ → ℕ → Request → Bool
flag_live n now r = live_owner n now r.owner && eqb (stage_of r.info r.«package») 1

flag_only : (n now : ℕ) (r : Request) → flag_live n now r ≡ true → FlagOnly r
flag_only n now r e =
    let f : (r.info && is_none r.«package») ≡ true = sym (flag_is r.info r.«package») ∙ and_right (live_owner n now r.owner) _ e in
    record { info = and_left r.info _ f; bare = none_is r.«package» (and_right r.info _ f) }

module _ (n h c : ℕ) (ws : List ℕ) (now : ℕ) where
  refusing : {b : List ℕ} → Tells b (λ t. may_claim n ws now (at (wtxid h) t) ≡ false) → Answered b b false (λ m t. claim_package n h c ws now t)
  unfolding claim_package
  refusing z = record { reply = λ st s w. rw (z st s w) refl; table = λ st s w. rw (z st s w) w }

  pub claim_none : {b : List ℕ} → length ws ≡ 0 → Answered b b false (λ m t. claim_package n h c ws now t)
  claim_none e = refusing (λ st s w. rw (lt-leb 1 (length ws) (omega arith)) refl)

  pub claim-many : {b : List ℕ} → max_wtxids < length ws → Answered b b false (λ m t. claim_package n h c ws now t)
  claim-many e = refusing (λ st s w. rw (lt-leb (length ws) max_wtxids e, and-false (leb 1 (length ws))) refl)

  module _ (some_wtxid : 1 ≤ length ws) (few : length ws ≤ max_wtxids) {b : List ℕ} {r : Bool} (e : Tells b (λ t. r ≡ flag_live n now (at (wtxid h) t))) where
    may : (q : Request) → may_claim n ws now q ≡ flag_live n now q
    may q =
        rw (le-leb 1 (length ws) some_wtxid, le-leb (length ws) max_wtxids few)
        (and-swap (q.info && is_none q.«package») (live_owner n now q.owner) ∙ ap (λ (x : Bool). live_owner n now q.owner && x) (sym (flag_is q.info q.«package»)))

    pub claim-barred : r ≡ false → Answered b b false (λ m t. claim_package n h c ws now t)
    claim-barred d = refusing (λ st s w. may (at (wtxid h) st.table) ∙ sym (e st s w) ∙ d)

    pub claim_done : {b' : List ℕ} → r ≡ true → Makes b b' (λ t. FlagOnly (at (wtxid h) t)) (change (wtxid h) (packaged (record { combined = c; wtxids = ws; enqueued = false })))
        → Answered b b' true (λ m t. claim_package n h c ws now t)
    unfolding claim_package
    claim_done {b'} d g =
        record { reply = λ st s w. rw (yes_it_may st s w) refl; table = λ st s w. rw (yes_it_may st s w) (g st s w (flag_only n now (at (wtxid h) st.table) (sym (e st s w) ∙ d))) }
      where
        yes_it_may : (st : State) → Sound st → Writes b st → may_claim n ws now (at (wtxid h) st.table) ≡ true
        yes_it_may st s w = may (at (wtxid h) st.table) ∙ sym (e st s w) ∙ d
