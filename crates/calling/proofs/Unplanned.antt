-- A call that is no plan leaves the kept plan.
use Prim.Native.Nat.{ℕ}
use mathlib.Core.Path.{◌≡◌, refl, sym, ap, subst, ◌∙◌}
use mathlib.Core.Bool.{Bool, true, false}
use mathlib.Core.List.{List}
use mathlib.Core.Option.{Option, some}
use lib.Dec.{eqb}
use Rattle.ident.specs.Number.{Item}
use Rattle.words.specs.Words.{words}
use Rattle.machine.specs.State.{State, Entry}
use Rattle.machine.specs.Wrapper.{Offer}
use Rattle.machine.specs.Call.{Buffer, Ask, Sum, On, named, ask_refusal}
use Rattle.machine.specs.Step.{Result, perform}
use Rattle.store.specs.Read.{state_of}
use Rattle.outcome.specs.Outcome.{Effect, Does}
use Rattle.asking.specs.declared.vocabulary.NumberWord.{NumberWord}
use Rattle.asking.specs.declared.vocabulary.NumberWord.TheVariants as number
use Rattle.asking.specs.declared.vocabulary.KeysWord.{KeysWord}
use Rattle.asking.specs.declared.vocabulary.KeysWord.TheVariants as keys
use Rattle.asking.specs.declared.vocabulary.HashesWord.{HashesWord}
use Rattle.asking.specs.declared.vocabulary.HashesWord.TheVariants as hashes
use Rattle.reading.specs.Forms.{Values}
use Rattle.reading.specs.Line.{Line, Asks}
use Rattle.asking.specs.Calls.{number_ask, keys_ask, leave_ask, inventory_ask, hashes_ask, missing_ask}
use Rattle.printing.specs.Kept.{KeptLists, chosen_or, kept_after}
use Rattle.printing.specs.Given.{Carried}
use Rattle.printing.specs.Answers.{Keeping}
use Rattle.printing.proofs.Fitting.{leaves, leaves_is}

abbrev pub Unplanned : Ask → Type 0
Unplanned a = (s : State) (l : List Entry) → chosen_or l (perform a s).reply ≡ l

-- ---- the words of other calls: the first, and the same of each other

pub number_unplanned : (w : NumberWord) (v : Values) → Unplanned (number_ask w v)
unfolding perform
number_unplanned number.Announce v s l = refl
number_unplanned w v s l = refl

pub keys_unplanned : (w : KeysWord) (v : Values) → Unplanned (keys_ask w v)
unfolding perform
keys_unplanned keys.Sweep v s l = refl
keys_unplanned w v s l = refl

pub hashes_unplanned : (w : HashesWord) (v : Values) (hs : List ℕ) → Unplanned (hashes_ask w v hs)
unfolding perform
hashes_unplanned hashes.SolicitPackageInfo v hs s l = refl
hashes_unplanned w v hs s l = refl

pub sum_unplanned : Unplanned Sum
unfolding perform
sum_unplanned s l = refl

pub leaving_unplanned : (v : Values) → Unplanned (leave_ask v)
unfolding perform
leaving_unplanned v s l = refl

pub offers_unplanned : (v : Values) (os : List Offer) → Unplanned (inventory_ask v os)
unfolding perform
offers_unplanned v os s l = refl

pub missing_unplanned : (v : Values) (is : List Item) → Unplanned (missing_ask v is)
unfolding perform
missing_unplanned v is s l = refl

-- ---- what they leave

-- whether the call is carried out or refused
unchosen : (ok : Bool) (n : ℕ) (r : Result) (u : Buffer) (s : State) (b : List ℕ) (l : List Entry) → chosen_or l r.reply ≡ l → chosen_or l (leaves ok n r u s b).reply ≡ l
unchosen true n r u s b l e = e
unchosen false n r u s b l e = refl

pub plan_stays : {a : Ask} {b : List ℕ} {e : Effect} → Unplanned a → Does (On a) b e → (k : KeptLists) → k ≡ kept_after (Asks (On a)) e.reply k
plan_stays {a} {b} {e} w d k =
    let s = state_of (words b) in
    let n = ask_refusal d.sound a s in
    let p : chosen_or k.plan e.reply ≡ k.plan =
    ap (λ (x : Effect). chosen_or k.plan x.reply) (d.effect ∙ leaves_is d.sound b a) ∙ unchosen (eqb n 0) n (perform a s) (named a s).buffer s b k.plan (w s k.plan) in
    λ i. record { plan = sym p i; taken = k.taken; arranged = k.arranged }

pub keeps-call : {o : Option Line} {b b' out out' : List ℕ} {r : ℕ} {a : Ask} → some (Asks (On a)) ≡ o → Unplanned a → Carried (On a) b b' out out' r → Keeping o b b' out out' r
keeps-call {o} {b} {b'} {out} {out'} {r} e w d =
    subst (λ (x : Option Line). Keeping x b b' out out' r) e (record { is = λ k. record { is = record { carried = d; kept = plan_stays w d.does k } } })
