-- A reply fits its answer buffer, whatever the call: so many keys, or entries, are listed at the most.
use Prim.Native.Nat.{ℕ, ◌+◌, ◌*◌, ◌≤◌}
use mathlib.Core.Path.{◌≡◌, refl, sym, ap, subst, ◌∙◌}
use mathlib.Core.Bool.{Bool, true, false}
use mathlib.Core.List.{List, ◌++◌}
use native.Mathlib.Omega.{arith}
use lib.Dec.{eqb}
use lib.ListN.{length, drop, length-append}
use Rattle.std.specs.Prelude.{if◌then◌else◌}
use Rattle.words.specs.Words.{words}
use Rattle.machine.specs.State.{State}
use Rattle.machine.specs.Call.{Buffer, key_bytes, owner_bytes, Ask, On, named, ask_refusal, refusal}
use Rattle.machine.specs.Step.{Reply, Refused, Left, Result, answer_bytes, written, perform, carry_out, step_if}
use Rattle.machine.proofs.AnswerLengths.{length-keys_answer}
use Rattle.store.specs.Image.{stored}
use Rattle.store.specs.Read.{state_of}
use Rattle.std.specs.Prelude.{Result as StdResult, Ok, Err}
use Rattle.outcome.specs.declared.refusal.Refusal.{Refusal}
use Rattle.outcome.specs.Outcome.{Effect, outcome_if, Does}
use Rattle.outcome.specs.Reply.{listing_of}
use Rattle.lent_lists.specs.Lists.{keys_in}
use Rattle.printing.specs.Given.{most_keys, most_owners, listing_with, KeysFit, OwnersFit}
use Rattle.printing.proofs.KeyLists.{length-keys}

-- what a call leaves, by whether it is carried out
abbrev pub leaves : Bool → ℕ → Result → Buffer → State → List ℕ → Effect
leaves ok n r u s b = record {
  reply = if ok then r.reply else Refused n;
  buffer = if ok then written (answer_bytes r.reply) u else u;
  store = if ok then stored (if ok then r.state else s) b else b;
}

module _ (x : Bool) (b : List ℕ) (a : Ask) where
  pub leaves_is : outcome_if x b (On a) ≡ leaves (eqb (ask_refusal x a (state_of (words b))) 0) (ask_refusal x a (state_of (words b))) (perform a (state_of (words b)))
      (named a (state_of (words b))).buffer (state_of (words b)) b
  unfolding outcome_if step_if refusal carry_out
  leaves_is = refl

long_written : (x u : List ℕ) → length x ≤ length (written x u)
unfolding written
long_written x u = omega (arith, length-append x (drop (length x) u))

leaves-fits : (ok : Bool) (n : ℕ) (r : Result) (u : Buffer) (s : State) (b : List ℕ) → length (answer_bytes (leaves ok n r u s b).reply) ≤ length (leaves ok n r u s b).buffer
leaves-fits true n r u s b = long_written (answer_bytes r.reply) u
leaves-fits false n r u s b = omega arith

module _ {a : Ask} {b : List ℕ} {e : Effect} (d : Does (On a) b e) where
  pub reply-fits : length (answer_bytes e.reply) ≤ length e.buffer
  reply-fits =
      subst (λ (z : Effect). length (answer_bytes z.reply) ≤ length z.buffer) (sym (d.effect ∙ leaves_is d.sound b a))
      (leaves-fits (eqb (ask_refusal d.sound a (state_of (words b))) 0) (ask_refusal d.sound a (state_of (words b))) (perform a (state_of (words b))) (named a (state_of (words b))).buffer
      (state_of (words b)) b)

  -- so that its keys are printed
  pub keys-fit : length e.buffer ≤ key_bytes * most_keys → KeysFit e.reply e.buffer
  keys-fit h = record { long = h; fits = reply-fits }

  -- and so that its owners are
  pub owners-fits : length e.buffer ≤ owner_bytes * most_owners → OwnersFit e.reply e.buffer
  owners-fits h = record { long = h; fits = reply-fits }

  pub departure_fits : (m n : ℕ) (u v : Buffer) → e.reply ≡ Left (keys_in m u) (keys_in n v) → key_bytes * (m + n) ≤ length e.buffer
  departure_fits m n u v g = omega (
    arith,
    reply-fits,
    ap (λ (y : Reply). length (answer_bytes y)) g,
    length-keys_answer (keys_in m u ++ keys_in n v),
    length-append (keys_in m u) (keys_in n v),
    length-keys m u,
    length-keys n v,
  )

pub listing-fits : {E : Type 0} {a : StdResult ℕ E} {u : Buffer} {n : ℕ} → a ≡ Ok n → KeysFit (listing_with 0 a u) u → (n ≤ most_keys) × (key_bytes * n ≤ length u)
listing-fits {E} {a} {u} {n} e f =
    let k : length (answer_bytes (listing_with 0 a u)) ≡ key_bytes * n =
    ap (λ (x : StdResult ℕ E). length (answer_bytes (listing_with 0 x u))) e ∙ length-keys_answer (keys_in n u) ∙ ap (◌*◌ key_bytes) (length-keys n u) in
    (omega (arith, f.long, f.fits, k), omega (arith, f.fits, k))

-- of the answer of a public call
pub listing_asked : (a : StdResult ℕ Refusal) (u : Buffer) → KeysFit (listing_of a u) u → KeysFit (listing_with 0 a u) u
listing_asked (Ok n) u f = f
listing_asked (Err e) u f = record { long = f.long; fits = f.fits }
