-- What a solicitation replies: whether the connection is a candidate once it has been announced.
use Prim.Native.Nat.{ℕ}
use mathlib.Core.Path.{◌≡◌, refl, sym, ap, ◌∙◌}
use mathlib.Core.Logic.{inl, inr}
use mathlib.Core.Bool.{Bool, true, false, ◌&&◌}
use mathlib.Core.List.{List}
use lib.Dec.{ltb, eqb}
use Rattle.ident.specs.Number.{wtxid}
use Rattle.machine.specs.Limits.{Limits, max_in_flight}
use Rattle.machine.specs.State.{Table, Answer}
use Rattle.machine.specs.Table.{at, has, owned_at, owned_by}
use Rattle.machine.specs.Announce.{announce_at}
use Rattle.machine.specs.Package.{soliciting, solicit}
use Rattle.machine.proofs.Entered.{Enters, enters}
use Rattle.machine.proofs.Tests.{test, by_test}

module _ (m : Limits) (n h : ℕ) (hs : List ℕ) (now : ℕ) (t : Table) where
  abbrev may_own : Bool
  may_own = eqb (owned_at h t) 0 && ltb (owned_by n t) max_in_flight

  abbrev asked : Answer
  asked = announce_at m (wtxid h) (soliciting n h now) t

  pub reply-barred : may_own ≡ false → false ≡ (solicit m n h hs now t).reply
  unfolding solicit
  reply-barred e = rw e refl

  reply-has : may_own ≡ true → (solicit m n h hs now t).reply ≡ has n (at (wtxid h) asked.table).candidates
  unfolding solicit
  reply-has e = rw e (by_test (λ (x : Answer). x.reply ≡ has n (at (wtxid h) asked.table).candidates) (has n (at (wtxid h) asked.table).candidates) (λ d. sym d) (λ d. sym d))

  e : Enters (wtxid h) (soliciting n h now) t asked
  e = enters m (wtxid h) (soliciting n h now) t

  pub reply_held : may_own ≡ true → has n (at (wtxid h) t).candidates ≡ true → true ≡ (solicit m n h hs now t).reply
  reply_held y d =
      elim (test asked.reply) [
        | inl r ↦ sym (reply-has y ∙ e.came r)
        | inr r ↦ sym (reply-has y ∙ ap (λ (x : Table). has n (at (wtxid h) x).candidates) (e.stays r) ∙ d)
      ]

  pub reply_new : may_own ≡ true → has n (at (wtxid h) t).candidates ≡ false → asked.reply ≡ (solicit m n h hs now t).reply
  reply_new y d =
      elim (test asked.reply) [
        | inl r ↦ r ∙ sym (reply-has y ∙ e.came r)
        | inr r ↦ r ∙ sym (reply-has y ∙ ap (λ (x : Table). has n (at (wtxid h) x).candidates) (e.stays r) ∙ d)
      ]
