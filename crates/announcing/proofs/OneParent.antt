-- One parent of announce_parents: requested at its Txid key, and marked there if kept.
use Prim.Native.Nat.{ℕ, ◌<◌}
use mathlib.Core.Path.{◌≡◌, refl, sym, subst, ◌∙◌}
use mathlib.Core.Bool.{Bool, true, false}
use mathlib.Core.List.{List}
use Rattle.ident.specs.Number.{Key, top, txid}
use Rattle.machine.specs.Limits.{word}
use Rattle.machine.specs.State.{Candidate, State, Table, limits_of, on_table}
use Rattle.machine.specs.Sound.{Sound}
use Rattle.machine.specs.Announce.{request_parent_at}
use Rattle.machine.specs.Fail.{parent_of, mark}
use Rattle.machine.proofs.Fail.{Peer, bounded-parent_at}
use Rattle.machine.proofs.Kept.{sound-table}
use Rattle.store.specs.Shown.{Kept}
use Rattle.requests.specs.Changes.{Makes}
use Rattle.announcing.specs.Answers.{Answered, one_parent}

-- the parent's key, as the code has it, is k, and the candidate c
module _ {s s₁ : List ℕ} {r : Bool} (n now h i : ℕ) (p : Peer n) (w : now < word) (v : i < word) (small : h < top) (k : Key) (q : k ≡ txid h)
    (c : Candidate) (o : c ≡ parent_of n now h i) (a : Answered s s₁ r (λ m t. request_parent_at m k c t)) where
  asked : Answered s s₁ r (λ m t. request_parent_at m (txid h) (parent_of n now h i) t)
  asked = subst (λ (j : Key). Answered s s₁ r (λ m t. request_parent_at m j (parent_of n now h i) t)) q (subst (λ (d : Candidate). Answered s s₁ r (λ m t. request_parent_at m k d t)) o a)

  abbrev after : State → State
  after st = on_table (request_parent_at (limits_of st) (txid h) (parent_of n now h i) st.table).table st

  after-sound : (st : State) → Sound st → Sound (after st)
  after-sound st g = sound-table g (bounded-parent_at (txid h) (parent_of n now h i) small (record { item = refl; positive = p.positive; connection = p.small; ready = w; priority = v }) g.bounded)

  pub asked_kept : Kept s → Kept s₁
  asked_kept g = record { state = after g.state; sound = after-sound g.state g.sound; writes = asked.table g.state g.sound g.writes }

  pub parent-marked : {s₂ : List ℕ} → r ≡ true → Makes s₁ s₂ (λ (t : Table). Unit {0}) (mark k) → Answered s s₂ true (λ m t. one_parent m n now h i t)
  parent-marked {s₂} e b = record {
    reply = λ st g x. sym e ∙ asked.reply st g x;
    table = λ st g x. rw (sym (asked.reply st g x) ∙ e) (marks (after st) (after-sound st g) (asked.table st g x) tt);
  }
    where
      marks : Makes s₁ s₂ (λ (t : Table). Unit {0}) (mark (txid h))
      marks = subst (λ (j : Key). Makes s₁ s₂ (λ (t : Table). Unit {0}) (mark j)) q b

  pub parent_left : r ≡ false → Answered s s₁ false (λ m t. one_parent m n now h i t)
  parent_left e = record {
    reply = λ st g x. sym e ∙ asked.reply st g x;
    table = λ st g x. rw (sym (asked.reply st g x) ∙ e) (asked.table st g x);
  }
