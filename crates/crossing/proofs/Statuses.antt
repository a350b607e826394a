-- From the answer of a public call to the status and the numbers that its export hands out.
use Prim.Native.Nat.{ℕ, zero, suc}
use mathlib.Core.Path.{◌≡◌, refl, sym, ap, subst, ◌∙◌}
use mathlib.Core.Bool.{Bool}
use mathlib.Core.List.{List, []}
use mathlib.Core.Option.{Option, none}
use lib.Dec.{eqb}
use native.Mathlib.Omega.{arith}
use borrow.Author.Tests.{ne_eqb}
use lib.ListN.{length}
use Rattle.std.specs.Prelude as rust
use Rattle.std.specs.Prelude.{unwrap_or, if◌then◌else◌, Result, Ok, Err}
use Rattle.words.specs.Words.{words}
use Rattle.machine.specs.State.{State}
use Rattle.ident.specs.Number.{Key}
use Rattle.machine.specs.Plan.{plan}
use Rattle.machine.specs.Later.{time_of}
use Rattle.choosing.specs.Choosing.{option_of}
use Rattle.planning.proofs.Planned.{next-number}
use Rattle.machine.specs.Call.{Buffer, Call, On, Plan, Sum, refusal}
use Rattle.machine.specs.Step.{Reply, Refused, Number, Keys, Left, Entries, Chosen, Summed, Owned, perform, carry_out, step_if, Saved}
use Rattle.store.specs.Read.{state_of}
use Rattle.outcome.specs.Outcome.{outcome_if, Leaves, LeavesWith}
use Rattle.outcome.specs.Reply.{reply_of, figures_of, listing_of, departure_of, text_of}
use Rattle.public_plans.specs.Entries.{entries_of, planned_of}
use Rattle.public_plans.specs.Ownership.{owners_of}
use Rattle.public_plans.specs.declared.Selection.{Selection}
use Rattle.outcome.specs.declared.refusal.Refusal.{Refusal}
use Rattle.outcome.specs.declared.Figures.{Figures}
use Rattle.outcome.specs.declared.Departure.{Departure}
use Rattle.outcome.specs.Refusals.{number_of}
use Rattle.outcome.proofs.Turns.{never_none}
use Rattle.crossing.specs.Status.{StatusIs, NumberHanded, held_out, free_out, preferred_out, permille_out, own_out, parents_out, considered_out, chosen_out, next_out}
use Rattle.crossing.specs.Status.{told, numbered, figured, Stays, HandsOut, HandsKeys, HandsEntries, HandsDeparture, HandsPlan, HandsOwners, HandsText}

-- ---- a refusal's number is not 0

some_told : (k : ℕ) (y : Reply) → (k ≡ 0 → ⊥) → told k y ≡ Refused k
some_told zero y h = absurd (h refl)
some_told (suc k) y h = refl

refused-told : (e : Refusal) (y : Reply) → told (number_of e) y ≡ Refused (number_of e)
refused-told e y = some_told (number_of e) y (never_none e)

-- refused, what stood there stays
pub stays : (r was : ℕ) → Stays r was was
stays zero was = tt
stays (suc k) was = refl

-- ---- answers that are a number

handed : (c : Call) (a : Result ℕ Refusal) (was : ℕ) {b z : List ℕ} {r n : ℕ} → Leaves c b z (reply_of a) → NumberHanded a was n r → HandsOut c b z r was n
handed c (Err x) was d e = rw (e.told.0, e.told.1) (rw (refused-told x (Number was)) d, stays (number_of x) was)
handed c (Ok k) was d e = rw (e.told.0, e.told.1) (d, tt)

-- the export of a call: c₀ is what was asked, c what it says of the arguments
pub hands_out : {c₀ c : Call} (a : Result ℕ Refusal) (was : ℕ) {b z : List ℕ} {r n : ℕ} → Leaves c₀ b z (reply_of a) → NumberHanded a was n r → c₀ ≡ c → HandsOut c b z r was n
hands_out {c₀} {c} a was {b} {z} d e q = handed c a was (subst (λ (x : Call). Leaves x b z (reply_of a)) q d) e

-- ---- opening and the calls of which the Rust returns nothing: carried out, they reply 1

abbrev pub RepliesOne : Call → Type 0
RepliesOne c = (s : State) → (carry_out c s).reply ≡ Number 1

abbrev status_in : Reply → ℕ
status_in (Refused n) = n
status_in (Number n) = 0
status_in (Keys ks) = 0
status_in (Left own parents) = 0
status_in (Entries l) = 0
status_in (Chosen n l x) = 0
status_in (Summed s) = 0
status_in (Owned n l) = 0
status_in (Saved t) = 0

status-in : (a : Result ℕ Refusal) {r : ℕ} → StatusIs a r → r ≡ status_in (reply_of a)
status-in (Err x) e = e.told
status-in (Ok n) e = e.told

-- a refusal's number is not 0
settled : (k n : ℕ) → numbered (status_in (if eqb k 0 then Number n else Refused k)) n ≡ (if eqb k 0 then Number n else Refused k)
settled zero n = refl
settled (suc k) n = rw (ne_eqb (suc k) 0 (λ e. omega (arith, e)))

one_settled : (c : Call) → RepliesOne c → (b : List ℕ) (sound : Bool) → numbered (status_in (outcome_if sound b c).reply) 1 ≡ (outcome_if sound b c).reply
unfolding outcome_if step_if
one_settled c h b sound = rw (h (state_of (words b))) (settled (refusal (length b) sound c (state_of (words b))) 1)

pub one_told : {c₀ c : Call} → RepliesOne c → (a : Result ℕ Refusal) {r : ℕ} {b z : List ℕ} → Leaves c₀ b z (reply_of a) → StatusIs a r → c₀ ≡ c → Leaves c b z (numbered r 1)
one_told {c₀} {c} h a {r} {b} {z} d₀ e q =
    let d : Leaves c b z (reply_of a) = subst (λ (x : Call). Leaves x b z (reply_of a)) q d₀ in
    let told : numbered (status_in (reply_of a)) 1 ≡ reply_of a = subst (λ x. numbered (status_in x) 1 ≡ x) (sym (ap (λ x. x.reply) d.effect)) (one_settled c h b d.sound) in
    record { sound = d.sound; tested = d.tested; effect = ap (λ x. record { reply = x; buffer = []; store = z }) (ap (λ x. numbered x 1) (status-in a e) ∙ told) ∙ d.effect }

-- ---- sum

pub hands-figures : {b : List ℕ} (a : Result Figures Refusal) (h₀ f₀ p₀ m₀ : ℕ) {r h f p m : ℕ} → Leaves (On Sum) b b (figures_of a)
    → StatusIs a r × (h ≡ held_out a h₀) × (f ≡ free_out a f₀) × (p ≡ preferred_out a p₀) × (m ≡ permille_out a m₀)
    → Leaves (On Sum) b b (figured r h f p m) × Stays r h₀ h × Stays r f₀ f × Stays r p₀ p × Stays r m₀ m
hands-figures (Err x) h₀ f₀ p₀ m₀ d e =
    let s = stays (number_of x) in
    rw (e.0.told, e.1, e.2, e.3, e.4) (rw (refused-told x _) d, s h₀, s f₀, s p₀, s m₀)
hands-figures (Ok y) h₀ f₀ p₀ m₀ d e = rw (e.0.told, e.1, e.2, e.3, e.4) (d, tt, tt, tt, tt)

-- ---- answers that list keys

keys-handed : (c : Call) (a : Result ℕ Refusal) (was : ℕ) {b z : List ℕ} {u : Buffer} {r n : ℕ} → LeavesWith c b z u (listing_of a) → NumberHanded a was n r
    → HandsKeys c b z u r was n
keys-handed c (Err x) was d e = rw (e.told.0, e.told.1) (rw (refused-told x _) d, stays (number_of x) was)
keys-handed c (Ok k) was d e = rw (e.told.0, e.told.1) (d, tt)

pub hands-keys : {c₀ c : Call} (a : Result ℕ Refusal) (was : ℕ) {b z : List ℕ} {u : Buffer} {r n : ℕ} → LeavesWith c₀ b z u (listing_of a) → NumberHanded a was n r
    → c₀ ≡ c → HandsKeys c b z u r was n
hands-keys {c₀} {c} a was {b} {z} {u} d e q = keys-handed c a was (subst (λ (x : Call). LeavesWith x b z u (listing_of a)) q d) e

-- ---- answers that list entries

pub hands-entries : {c : Call} (a : Result ℕ Refusal) (was : ℕ) {b z : List ℕ} {u : Buffer} {r n : ℕ} → LeavesWith c b z u (entries_of a) → NumberHanded a was n r
    → HandsEntries c b z u r was n
hands-entries (Err x) was d e = rw (e.told.0, e.told.1) (rw (refused-told x _) d, stays (number_of x) was)
hands-entries (Ok k) was d e = rw (e.told.0, e.told.1) (d, tt)

-- ---- answers that tell owners

pub hands-owners : {c : Call} (hs : List ℕ) (a : Result ℕ Refusal) (was : ℕ) {b z : List ℕ} {u : Buffer} {r n : ℕ} → LeavesWith c b z u (owners_of hs a) → NumberHanded a was n r
    → HandsOwners c hs b z u r was n
hands-owners hs (Err x) was d e = rw (e.told.0, e.told.1) (rw (refused-told x _) d, stays (number_of x) was)
hands-owners hs (Ok k) was d e = rw (e.told.0, e.told.1) (d, tt)

-- ---- answers that are a text

pub hands-text : {c : Call} (a : Result ℕ Refusal) (was : ℕ) {b z : List ℕ} {u : Buffer} {r n : ℕ} → LeavesWith c b z u (text_of a) → NumberHanded a was n r
    → HandsText c b z u r was n
hands-text (Err x) was d e = rw (e.told.0, e.told.1) (rw (refused-told x _) d, stays (number_of x) was)
hands-text (Ok k) was d e = rw (e.told.0, e.told.1) (d, tt)

-- ---- of a connection that left

pub hands-departure : {c : Call} (a : Result Departure Refusal) (was was' : ℕ) {b z : List ℕ} {u : Buffer} {r n m : ℕ} → LeavesWith c b z u (departure_of a)
    → StatusIs a r × (n ≡ own_out a was) × (m ≡ parents_out a was') → HandsDeparture c b z u r was n was' m
hands-departure (Err x) was was' l e = rw (e.0.told, e.1, e.2) (rw (refused-told x _) l, stays (number_of x) was, stays (number_of x) was')
hands-departure (Ok d) was was' l e = rw (e.0.told, e.1, e.2) (l, tt, tt)

-- ---- of a plan

-- when to look again is a time after the plan's clock, and so no 0, or none
abbrev next_in : Reply → Option ℕ
next_in (Refused n) = none
next_in (Number n) = none
next_in (Keys ks) = none
next_in (Left own parents) = none
next_in (Entries l) = none
next_in (Chosen n l x) = x
next_in (Summed s) = none
next_in (Owned n l) = none
next_in (Saved t) = none

nothing-next : (n : rust.Option ℕ) → option_of n ≡ none → time_of (unwrap_or n 0) ≡ none
nothing-next rust.None e = refl
nothing-next (rust.Some zero) e = refl
nothing-next (rust.Some (suc n)) e = e

module _ (clock : ℕ) (asked : Option (List Key)) (s : State) (n : rust.Option ℕ) where
  settled-next : (k : ℕ) → option_of n ≡ next_in (if eqb k 0 then Chosen (plan clock asked s).considered (plan clock asked s).entries (plan clock asked s).next else Refused k)
      → time_of (unwrap_or n 0) ≡ option_of n
  settled-next zero e = next-number clock asked s n e ∙ sym e
  settled-next (suc k) e =
      let q : option_of n ≡ none = rw (ne_eqb (suc k) 0 (λ z. omega (arith, z))) at e in
      nothing-next n q ∙ sym q

module _ (clock : ℕ) (asked : Option (List Key)) (u₀ : Buffer) where
  abbrev c : Call
  c = On (Plan clock asked u₀)

  told-next : (p : Selection) {b z : List ℕ} {u : Buffer} → LeavesWith c b z u (planned_of (Ok p)) → time_of (unwrap_or p.next 0) ≡ option_of p.next
  unfolding outcome_if step_if carry_out perform
  told-next p {b} d =
      let s = state_of (words b) in
      settled-next clock asked s p.next (refusal (length b) d.sound c s) (ap (λ x. next_in x.reply) d.effect)

  pub hands-plan : (a : Result Selection Refusal) (was was' was'' : ℕ) {b z : List ℕ} {u : Buffer} {r k n x : ℕ} → LeavesWith c b z u (planned_of a)
      → StatusIs a r × (k ≡ considered_out a was) × (n ≡ chosen_out a was') × (x ≡ next_out a was'') → HandsPlan c b z u r was k was' n was'' x
  hands-plan (Err y) was was' was'' l e =
      let s = stays (number_of y) in
      rw (e.0.told, e.1, e.2, e.3) (rw (refused-told y _) l, s was, s was', s was'')
  hands-plan (Ok p) was was' was'' l e = rw (e.0.told, e.1, e.2, e.3) (rw (told-next p l) l, tt, tt, tt)

-- ---- the law of each form of reply, as the check finds it for an exported call

pub ruleset handing = (hands_out, hands-keys, hands-entries, hands-owners, hands-text, hands-departure, hands-plan, one_told)
