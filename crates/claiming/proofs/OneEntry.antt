-- One entry of a claim: whether it is taken, and what becomes of the bytes.
use Prim.Native.Nat.{ℕ, ◌+◌, ◌*◌, ◌<◌}
use mathlib.Core.Path.{◌≡◌, refl, sym, ap, ◌∙◌}
use mathlib.Core.Logic.{inl, inr}
use mathlib.Core.Bool.{Bool, true, false}
use mathlib.Core.List.{List}
use mathlib.Core.Option.{Option, none, some}
use native.Mathlib.Omega.{arith}
use lib.Dec.{eqb}
use Rattle.ident.specs.Number.{top, txid}
use Rattle.machine.specs.Limits.{request_lifetime}
use Rattle.machine.specs.State.{Entry, Table, State, owned_until}
use Rattle.machine.specs.Table.{at, has, change, owned_at}
use Rattle.machine.specs.Plan.{choice}
use Rattle.machine.specs.Claim.{same_entry, is_choice, takes}
use Rattle.machine.specs.Sound.{Sound}
use Rattle.machine.specs.Call.{entry_bytes}
use Rattle.machine.specs.Step.{entry_answer}
use Rattle.words.specs.Words.{splice}
use Rattle.machine.proofs.Change.{unowned_at}
use Rattle.machine.proofs.Claim.{takes-means}
use Rattle.machine.proofs.Tests.{test}
use Rattle.store.specs.Image.{Writes}
use Rattle.requests.specs.Changes.{Makes, Tells}
use Rattle.announcing.specs.Answers.{Answered}
use Rattle.choosing.specs.Choosing.{free_choice}
use Rattle.claiming.specs.Claiming.{taking, OneMore}

-- ---- whether it is taken

pub takes_is : (now : ℕ) (a : Entry) (t : Table) → takes now a t ≡ is_choice a (free_choice now t (txid a.key.hash))
unfolding takes choice
takes_is now a t = elim (test (eqb (owned_at a.key.hash t) 0)) [ inl d ↦ rw d refl | inr d ↦ rw d refl ]

module _ (now : ℕ) (a : Entry) (t : Table) {o : Option Entry} (e : o ≡ free_choice now t (txid a.key.hash)) where
  pub same_taken : {c : Entry} {x : Bool} → o ≡ some c → x ≡ same_entry a c → x ≡ takes now a t
  same_taken d q = q ∙ sym (takes_is now a t ∙ ap (is_choice a) (sym e) ∙ rw d refl)

  pub none_taken : o ≡ none → false ≡ takes now a t
  none_taken d = sym (takes_is now a t ∙ ap (is_choice a) (sym e) ∙ rw d refl)

-- ---- what becomes of the bytes

module _ {b : List ℕ} (now : ℕ) (a : Entry) {r : Bool} (e : Tells b (λ t. r ≡ takes now a t)) where
  pub entry-taken : {b' : List ℕ} → a.key.hash < top → r ≡ true
      → Makes b b' (λ t. (has a.candidate.connection (at a.key t).candidates ≡ true) × ((at a.key t).owner ≡ none))
      (change a.key (owned_until a.candidate.connection (now + request_lifetime)))
      → Answered b b' true (λ m t. taking now a t)
  entry-taken small d h = record { reply = λ st s w. sym d ∙ e st s w; table = λ st s w. rw (sym (e st s w) ∙ d) (h st s w (may st s w)) }
    where
      may : (st : State) (s : Sound st) (w : Writes b st) → (has a.candidate.connection (at a.key st.table).candidates ≡ true) × ((at a.key st.table).owner ≡ none)
      may st s w =
          let z = takes-means now a st.table (sym (e st s w) ∙ d) in
          (z.held, unowned_at a.key st.table small s.bounded.ordered z.free)

-- ---- and of the answer

module _ {b b' : List ℕ} (now : ℕ) (a : Entry) (small : a.key.hash < top) {r : Bool} (x : Answered b b' r (λ m t. taking now a t)) (n : ℕ) where
  pub more_taken : r ≡ true → (u : List ℕ) {u' : List ℕ} → u' ≡ splice u (entry_bytes * n) (entry_answer a) → OneMore b b' u u' now a n (n + 1)
  more_taken d u q = record { small = small; taken = r; answered = x; count = rw d refl; bytes = rw d q }

  pub more_left : r ≡ false → (u : List ℕ) → OneMore b b' u u now a n n
  more_left d u = record { small = small; taken = r; answered = x; count = rw d (omega arith); bytes = rw d refl }
