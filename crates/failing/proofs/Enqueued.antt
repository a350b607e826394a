-- release_package: its answer.
use Prim.Native.Nat.{ℕ, ◌<◌}
use mathlib.Core.Path.{◌≡◌, ap, subst, ◌∙◌}
use mathlib.Core.Bool.{true, false}
use mathlib.Core.List.{List}
use lib.ListN.{length}
use Rattle.ident.specs.Number.{top, Key, wtxid}
use Rattle.machine.specs.Limits.{word}
use Rattle.machine.specs.State.{Request, State, on_table, limits_of, owner_is, enqueued_in}
use Rattle.machine.specs.Table.{at}
use Rattle.machine.specs.Step.{keys_answer, written}
use Rattle.machine.specs.Fail.{Listed, leaves, announce_parents, parents_for}
use Rattle.machine.specs.Package.{listed_after, enqueued_by, release_package}
use Rattle.machine.specs.Sound.{Sound}
use Rattle.machine.proofs.Tests.{and_left}
use Rattle.machine.proofs.Fail.{bounded-leaves}
use Rattle.machine.proofs.Kept.{sound-table}
use Rattle.store.specs.Image.{Writes}
use Rattle.store.specs.Shown.{Kept}
use Rattle.lent_lists.proofs.Answer.{written_none}
use Rattle.requests.specs.Changes.{Makes, Tells}
use Rattle.announcing.specs.Answers.{KeysListed}
use Rattle.failing.specs.Changes.{led}

pub enqueued-owner : (n : ℕ) (r : Request) → enqueued_by n r ≡ true → owner_is n r.owner ≡ true
enqueued-owner n r e = and_left (owner_is n r.owner) (enqueued_in r.«package») e

-- ---- the answer

pub nothing_released : {b : List ℕ} (j : Key) (h n v : ℕ) (u : List ℕ) → j ≡ wtxid h → Tells b (λ t. enqueued_by n (at j t) ≡ false) → KeysListed b b u u 0 (λ m t. release_package m n h v t)
unfolding release_package
nothing_released {b} j h n v u q e = record {
  count = λ st s w. rw (no st s w);
  keys = λ st s w. rw (no st s w) (written_none u);
  table = λ st s w. rw (no st s w) w;
}
  where
    no : (st : State) → Sound st → Writes b st → enqueued_by n (at (wtxid h) st.table) ≡ false
    no st s w = rw q at (e st s w)

module _ {b b₁ : List ℕ} (k : Key) (small : k.hash < top) (n v : ℕ) (late : v < word) (a : Makes b b₁ (λ t. Unit {0}) (leaves k n v)) where
  abbrev after : State → State
  after st = on_table (leaves k n v st.table) st

  after-sound : (st : State) → Sound st → Sound (after st)
  after-sound st s = sound-table s (bounded-leaves k n v small late s.bounded)

  pub released_kept : Kept b → Kept b₁
  released_kept p = record { state = after p.state; sound = after-sound p.state p.sound; writes = a p.state p.sound p.writes tt }

  module _ (h : ℕ) (q : k ≡ wtxid h) (e : Tells b (λ t. enqueued_by n (at k t) ≡ true)) (hs : List ℕ) (g : Tells b (λ t. hs ≡ parents_for n (at k t))) where
    answer_is : (st : State) → Sound st → Writes b st → led k (announce_parents (limits_of st) n v hs (leaves k n v st.table)) ≡ release_package (limits_of st) n h v st.table
    unfolding release_package listed_after
    answer_is st s w =
        let yes' : enqueued_by n (at (wtxid h) st.table) ≡ true = rw q at (e st s w) in
        let p : hs ≡ parents_for n (at (wtxid h) st.table) = rw q at (g st s w) in
        rw (yes', q) (ap (λ (x : List ℕ). led (wtxid h) (announce_parents (limits_of st) n v x (leaves (wtxid h) n v st.table))) p)

    pub released_handed : {b₂ u u₂ : List ℕ} {c : ℕ} → KeysListed b₁ b₂ u u₂ c (λ m t. led k (announce_parents m n v hs t)) → KeysListed b b₂ u u₂ c (λ m t. release_package m n h v t)
    released_handed {b₂} {u} {u₂} {c} l = record {
      count = λ st s w. l.count (after st) (after-sound st s) (a st s w tt) ∙ ap (λ (x : Listed). length x.keys) (answer_is st s w);
      keys = λ st s w. l.keys (after st) (after-sound st s) (a st s w tt) ∙ ap (λ (x : Listed). written (keys_answer x.keys) u) (answer_is st s w);
      table = λ st s w. subst (λ (x : Listed). Writes b₂ (on_table x.table st)) (answer_is st s w) (l.table (after st) (after-sound st s) (a st s w tt));
    }
