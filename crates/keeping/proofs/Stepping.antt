-- The step on one line, by what it asks for.
use Prim.Native.Nat.{ℕ, ◌+◌, ◌*◌, ◌/◌, ◌≤◌}
use mathlib.Core.Path.{◌≡◌, refl, sym, ap, subst, ◌∙◌}
use mathlib.Core.Bool.{Bool, true, false}
use mathlib.Core.Logic.{inl, inr}
use mathlib.Core.List.{List, [], ◌∷◌}
use mathlib.Core.Option.{Option, none, some}
use native.Mathlib.Omega.{arith}
use lib.Dec.{eqb}
use lib.ListN.{length, take, drop}
use borrow.Author.Tests.{eqb-true, eqb-false}
use Rattle.words.specs.Words.{words}
use Rattle.regions.specs.Order.{Sorted}
use Rattle.machine.specs.State.{State, Entry}
use Rattle.machine.specs.Claim.{part_of}
use Rattle.machine.specs.Call.{Buffer, entry_bytes, Ask, Claim, Arrange, On, named, ask_refusal}
use Rattle.machine.specs.Step.{Reply, Refused, Entries, Chosen, entries_answer, answer_bytes, perform}
use Rattle.machine.proofs.AnswerLengths.{length-entries_answer}
use Rattle.store.specs.Image.{SoundStore}
use Rattle.store.specs.Read.{state_of}
use Rattle.choosing.specs.Choosing.{option_of}
use Rattle.claiming.specs.Claiming.{entries_from, entries_in}
use Rattle.sending.proofs.Arranged.{arrange-sorted}
use Rattle.outcome.specs.Outcome.{Effect, Does}
use Rattle.std.specs.Prelude.{Result, Ok, Err, IfOk, MatchResult}
use Rattle.ident.specs.declared.connection.Connection.{Connection}
use Rattle.outcome.specs.declared.refusal.Refusal.{Refusal}
use Rattle.outcome.specs.Refusals.{number_of, refusal_in}
use Rattle.outcome.specs.Tests.{in_turn}
use Rattle.outcome.proofs.Turns.{never_none, connection_none, connection_some, connection_only}
use Rattle.machine.proofs.Tests.{test}
use Rattle.public_plans.specs.declared.Selection.{Selection}
use Rattle.public_plans.specs.Entries.{entries_of, planned_of}
use Rattle.sending.specs.Parts.{connections_in, PartIs}
use Rattle.public_plans.proofs.Entered.{length_from, length-entries}
use Rattle.reading.specs.Line.{Line, Asks, Take, Send}
use Rattle.asking.specs.Calls.{answer_buffer}
use Rattle.printing.specs.Replies.{refusal_text, unreadable, listed, entry_texts, selection_text, reply_text}
use Rattle.printing.specs.Given.{most_entries, Printed}
use Rattle.printing.specs.Kept.{KeptLists, chosen_or, entries_or}
use Rattle.printing.specs.Answers.{Answered, Keeping}
use Rattle.keeping.specs.Steps.{Listable, KeptReply, entries_with, planned_with, EntriesKept, SelectionKept, PartRefused}
use Rattle.printing.proofs.Printing.{reply-refused}
use Rattle.printing.proofs.Lines.{keeps_unread}
use Rattle.printing.proofs.Fitting.{leaves, leaves_is, reply-fits}
use Rattle.keeping.proofs.Keeping.{entries_part}

-- ---- steps that leave the lists

module _ {o : Option Line} {b b' out out' : List ℕ} {r : ℕ} where
  module _ {k : KeptLists} where
    pub step_keeps : {p : Option Line} → p ≡ o → Keeping p b b' out out' r → Answered o k k b b' out out' r
    step_keeps e d = subst (λ (x : Option Line). Answered x k k b b' out out' r) e (d.is k)

    pub step_unread : none ≡ o → b' ≡ b → Printed out out' (refusal_text unreadable) r → Answered o k k b b' out out' r
    step_unread e s t = step_keeps refl (keeps_unread e s t)

-- ---- replies that list entries

module _ {u : Buffer} {n : ℕ} where
  fit_in : (y : Reply) → answer_bytes y ≡ entries_answer (entries_from u 0 n) → Listable y u → (n ≤ most_entries) × (entry_bytes * n ≤ length u)
  fit_in y e f =
      let k : length (answer_bytes y) ≡ entry_bytes * n = ap length e ∙ length-entries_answer (entries_from u 0 n) ∙ ap (◌*◌ entry_bytes) (length_from u 0 n) in
      (omega (arith, f.long, f.fits, k), omega (arith, f.fits, k))

  pub entries_fit : {E : Type 0} {a : Result ℕ E} → a ≡ Ok n → Listable (entries_with 0 a u) u → (n ≤ most_entries) × (entry_bytes * n ≤ length u)
  entries_fit {E} {a} e f = fit_in (entries_with 0 a u) (ap (λ (x : Result ℕ E). answer_bytes (entries_with 0 x u)) e) f

pub selection-fits : {E : Type 0} {u : Buffer} {p : Selection} {a : Result Selection E} → a ≡ Ok p → Listable (planned_with 0 a u) u
    → (p.chosen ≤ most_entries) × (entry_bytes * p.chosen ≤ length u)
selection-fits {E} {u} {p} {a} e f = fit_in (planned_with 0 a u) (ap (λ (x : Result Selection E). answer_bytes (planned_with 0 x u)) e) f

module _ (l : List Entry) {out out' : List ℕ} {y : Reply} {r : ℕ} where
  pub entries_kept : {l' m : List Entry} → l' ≡ m → y ≡ Entries m → Printed out out' (listed (entry_texts m)) r → KeptReply l' (entries_or l y) out out' y r
  unfolding reply_text
  entries_kept h e t = record { list = h ∙ sym (ap (entries_or l) e); text = λ a. rw e t }

  pub selection_kept : {l' m : List Entry} {k : ℕ} {x : Option ℕ} → l' ≡ m → y ≡ Chosen k m x → Printed out out' (selection_text k m x) r → KeptReply l' (chosen_or l y) out out' y r
  unfolding reply_text
  selection_kept h e t = record { list = h ∙ sym (ap (chosen_or l) e); text = λ a. rw e t }

-- an answer whose refusal has any number
module _ {E : Type 0} {numbered : E → ℕ → Type 0} (u : Buffer) {l l' : List Entry} {out out' : List ℕ} {r : ℕ} where
  module _ {a : Result ℕ E} where
    entries_as : (x : Result ℕ E) → a ≡ x → EntriesKept numbered x u l l' out out' r → EntriesKept numbered a u l l' out out' r
    entries_as x g k = subst (λ (y : Result ℕ E). EntriesKept numbered y u l l' out out' r) (sym g) k

    pub refused_entries : {e : E} (k : ℕ) → a ≡ Err e → numbered e k → l' ≡ l → Printed out out' (refusal_text k) r → EntriesKept numbered a u l l' out out' r
    refused_entries {e} k g h s t = entries_as (Err e) g (record { number = k; given = h; kept = record { list = s; text = λ x. reply-refused (On x) refl t } })

    pub listed_entries : {n : ℕ} → a ≡ Ok n → l' ≡ entries_from u 0 n → Printed out out' (listed (entry_texts (entries_from u 0 n))) r → EntriesKept numbered a u l l' out out' r
    listed_entries {n} g h t = entries_as (Ok n) g (record { number = 0; given = tt; kept = entries_kept l h refl t })

  module _ {a : Result Selection E} where
    selection_as : (x : Result Selection E) → a ≡ x → SelectionKept numbered x u l l' out out' r → SelectionKept numbered a u l l' out out' r
    selection_as x g k = subst (λ (y : Result Selection E). SelectionKept numbered y u l l' out out' r) (sym g) k

    pub refused_selection : {e : E} (k : ℕ) → a ≡ Err e → numbered e k → l' ≡ l → Printed out out' (refusal_text k) r → SelectionKept numbered a u l l' out out' r
    refused_selection {e} k g h s t = selection_as (Err e) g (record { number = k; given = h; kept = record { list = s; text = λ x. reply-refused (On x) refl t } })

    pub listed_selection : {p : Selection} → a ≡ Ok p → l' ≡ entries_from u 0 p.chosen
        → Printed out out' (selection_text p.considered (entries_from u 0 p.chosen) (option_of p.next)) r → SelectionKept numbered a u l l' out out' r
    listed_selection {p} g h t = selection_as (Ok p) g (record { number = 0; given = tt; kept = selection_kept l h refl t })

-- of a public call
module _ (u : Buffer) {l l' : List Entry} {out out' : List ℕ} {r : ℕ} where
  pub entries_told : (a : Result ℕ Refusal) → EntriesKept (λ e k. k ≡ number_of e) a u l l' out out' r → KeptReply l' (entries_or l (entries_of a u)) out out' (entries_of a u) r
  entries_told (Ok n) p = p.kept
  entries_told (Err e) p = subst (λ (k : ℕ). KeptReply l' (entries_or l (Refused k)) out out' (Refused k) r) p.given p.kept

  pub selection_told : (a : Result Selection Refusal) → SelectionKept (λ e k. k ≡ number_of e) a u l l' out out' r
      → KeptReply l' (chosen_or l (planned_of a u)) out out' (planned_of a u) r
  selection_told (Ok p) q = q.kept
  selection_told (Err e) q = subst (λ (k : ℕ). KeptReply l' (chosen_or l (Refused k)) out out' (Refused k) r) q.given q.kept

pub entries_asked : (a : Result ℕ Refusal) (u : Buffer) → Listable (entries_of a u) u → Listable (entries_with 0 a u) u
entries_asked (Ok n) u f = f
entries_asked (Err e) u f = record { long = f.long; fits = f.fits }

pub selection_asked : (a : Result Selection Refusal) (u : Buffer) → Listable (planned_of a u) u → Listable (planned_with 0 a u) u
selection_asked (Ok p) u f = f
selection_asked (Err e) u f = record { long = f.long; fits = f.fits }

-- a call's reply in its answer buffer
pub listable : {a : Ask} {b : List ℕ} {e : Effect} → Does (On a) b e → length e.buffer ≡ 12000 → Listable e.reply e.buffer
listable d n = record { long = n; fits = reply-fits d }

-- an arrangement ascends by connection, and a refused one leaves what was kept
sorted_if : (ok : Bool) (n : ℕ) (ws : List ℕ) (k : List Entry) (u v : Buffer) (s : State) (b : List ℕ) (l : List Entry) → Sorted (connections_in l)
    → Sorted (connections_in (entries_or l (leaves ok n (perform (Arrange ws k u) s) v s b).reply))
unfolding perform
sorted_if true n ws k u v s b l w = arrange-sorted ws k s.table
sorted_if false n ws k u v s b l w = w

pub still_sorted : (ws : List ℕ) (k : List Entry) {u : Buffer} {b : List ℕ} {e : Effect} → Does (On (Arrange ws k u)) b e → (l : List Entry) → Sorted (connections_in l)
    → Sorted (connections_in (entries_or l e.reply))
still_sorted ws k {u} {b} {e} d l w =
    let a = Arrange ws k u in
    let s = state_of (words b) in
    let n = ask_refusal d.sound a s in
    subst (λ (x : Effect). Sorted (connections_in (entries_or l x.reply))) (sym (d.effect ∙ leaves_is d.sound b a)) (sorted_if (eqb n 0) n ws k u (named a s).buffer s b l w)

-- ---- steps that change a list

module _ (k : KeptLists) {b : List ℕ} {e : Effect} {b' out out' : List ℕ} {r : ℕ} {l : List Entry} where
  pub step_planned : {a : Ask} → Does (On a) b e → b' ≡ e.store → KeptReply l (chosen_or k.plan e.reply) out out' e.reply r
      → Answered (some (Asks (On a))) k (record { plan = l; taken = k.taken; arranged = k.arranged }) b b' out out' r
  step_planned {a} d s f = record {
    is = record {
      carried = record { effect = e; does = d; store = s; text = f.text a };
      kept = ap (λ (x : List Entry). record { plan = x; taken = k.taken; arranged = k.arranged }) f.list;
    };
  }

  pub step_taken : (now : ℕ) → Does (On (Claim now k.plan answer_buffer)) b e → b' ≡ e.store → KeptReply l (entries_or k.taken e.reply) out out' e.reply r
      → Answered (some (Take now)) k (record { plan = k.plan; taken = l; arranged = k.arranged }) b b' out out' r
  step_taken now d s f = record {
    is = record {
      carried = record { effect = e; does = d; store = s; text = f.text (Claim now k.plan answer_buffer) };
      kept = ap (λ (x : List Entry). record { plan = k.plan; taken = x; arranged = k.arranged }) f.list;
    };
  }

  pub step_sent : (ws : List ℕ) → Does (On (Arrange ws k.taken answer_buffer)) b e → b' ≡ e.store → KeptReply l (entries_or k.arranged e.reply) out out' e.reply r
      → Answered (some (Send ws)) k (record { plan = k.plan; taken = k.taken; arranged = l }) b b' out out' r
  step_sent ws d s f = record {
    is = record {
      carried = record { effect = e; does = d; store = s; text = f.text (Arrange ws k.taken answer_buffer) };
      kept = ap (λ (x : List Entry). record { plan = k.plan; taken = k.taken; arranged = x }) f.list;
    };
  }

-- what is arranged then ascends by connection
pub sent_sorted : (ws : List ℕ) (k : List Entry) {u : Buffer} {b : List ℕ} {e : Effect} → Does (On (Arrange ws k u)) b e → {out out' : List ℕ} (m : List Entry) {m' : List Entry} {r : ℕ}
    → KeptReply m' (entries_or m e.reply) out out' e.reply r → Sorted (connections_in m) → Sorted (connections_in m')
sent_sorted ws k d m f w = subst (λ (x : List Entry). Sorted (connections_in x)) (sym f.list) (still_sorted ws k d m w)

-- ---- one connection's part

pub part_fits : {n : ℕ} (v : List ℕ) {first count : ℕ} → length v ≤ entry_bytes * most_entries → PartIs n (entries_in v) first count
    → (count ≤ most_entries) × (entry_bytes * (first + count) ≤ length v)
part_fits v f q =
    let k = length-entries v in
    (omega (arith, k, f, q.inside), omega (arith, k, q.inside))

pub printed_part : (n : ℕ) (v : List ℕ) {l : List Entry} {first count : ℕ} → entries_in v ≡ l → Sorted (connections_in l)
    → PartIs n (entries_in v) first count → {out out' : List ℕ} {r : ℕ} → Printed out out' (listed (entry_texts (entries_from v first count))) r
    → Printed out out' (listed (entry_texts (part_of n l))) r
printed_part n v {l} {first} {count} g s q {out} {out'} {r} t =
    let a : take count (drop first (entries_in v)) ≡ part_of n (entries_in v) = q.arranged (subst (λ (x : List Entry). Sorted (connections_in x)) (sym g) s) in
    let z : 0 + first ≡ first = omega arith in
    let h : entries_from v first count ≡ part_of n l =
    ap (λ (j : ℕ). entries_from v j count) (sym z) ∙ sym (entries_part v first count (length v / entry_bytes) 0 (omega (arith, q.inside, length-entries v))) ∙ a ∙ ap (part_of n) g in
    subst (λ (x : List Entry). Printed out out' (listed (entry_texts x)) r) h t

-- the test of its connection
module _ {b : List ℕ} (n : ℕ) where
  unnamed_part : (e : Refusal) → SoundStore b → number_of e ≡ in_turn (n ∷ []) [] 0 0 0 → PartRefused b n e
  unnamed_part e w q =
      elim (test (eqb n 0)) [
        | inl d ↦ let z = eqb-true n 0 d in inr (w, z, q ∙ sym (connection_none n z ∙ connection_only n))
        | inr d ↦ absurd (never_none e (q ∙ sym (connection_some n (eqb-false n 0 d) ∙ connection_only n)))
      ]

  pub tested_part : (r : Result Connection Refusal) → SoundStore b → refusal_in r ≡ in_turn (n ∷ []) [] 0 0 0 → IfOk r (λ c. c.number ≡ n)
      → MatchResult r (λ c. SoundStore b × (c.number ≡ n)) (PartRefused b n)
  tested_part (Ok c) w q h = (w, h)
  tested_part (Err e) w q h = unnamed_part e w q
