-- Answers as text.
use Prim.Native.Nat.{ℕ, ◌+◌, ◌≤◌}
use mathlib.Core.Path.{◌≡◌, refl, sym, ap, subst}
use mathlib.Core.List.{List, [], ◌∷◌, append_assoc}
use native.Mathlib.Omega.{arith}
use lib.ListN.{length}
use Rattle.ident.specs.Number.{Key}
use Rattle.machine.specs.Call.{Buffer, Ask, Sum, Call, Open, On}
use Rattle.machine.specs.Step.{Reply, Refused, Number, Keys, Summed}
use Rattle.std.specs.Prelude.{Result, Ok, Err}
use Rattle.outcome.specs.declared.refusal.Refusal.{Refusal}
use Rattle.outcome.specs.declared.Departure.{Departure}
use Rattle.outcome.specs.Refusals.{number_of}
use Rattle.outcome.specs.Reply.{reply_of, listing_of, departure_of}
use Rattle.lent_lists.specs.Lists.{keys_in}
use Rattle.outcome.specs.Outcome.{Effect, Does}
use Rattle.machine.specs.Text.{decimal_digits, decimal, joined}
use Rattle.lines.specs.Text.{Wrote}
use Rattle.machine.proofs.Numerals.{length-numeral}
use Rattle.lines.proofs.Writing.{wrote_more}
use Rattle.printing.specs.Replies.{refusal_text, listed, key_texts, reply_text}
use Rattle.printing.specs.Given.{answer_room, Printed, ReplyPrinted, NumberPrinted, ListingPrinted, Carried}

-- where a number's text ends
pub decimal_end : {s s' : List ℕ} {a r : ℕ} (n : ℕ) → Wrote s s' a (decimal n) r → r ≤ a + decimal_digits
decimal_end n p = omega (arith, p.next, length-numeral 10 decimal_digits n)

module _ {s : List ℕ} (room : answer_room ≤ length s) where
  pub printed-refusal : {s₁ s₂ : List ℕ} {e r : ℕ} (n : ℕ) → Wrote s s₁ 0 (110 ∷ 111 ∷ 44 ∷ []) e → Wrote s₁ s₂ e (decimal n) r → Printed s s₂ (refusal_text n) r
  printed-refusal n p q = record { wrote = wrote_more p q (omega (arith, p.next, length-numeral 10 decimal_digits n)); room = omega (arith, p.next, decimal_end n q) }

  pub printed-figures : {s₁ s₂ s₃ s₄ : List ℕ} {e₁ e₂ e₃ r : ℕ} (h f g p : ℕ) → Wrote s s₁ 0 (decimal h) e₁ → Wrote s₁ s₂ e₁ (44 ∷ decimal f) e₂ → Wrote s₂ s₃ e₂ (44 ∷ decimal g) e₃
      → Wrote s₃ s₄ e₃ (44 ∷ decimal p) r → Printed s s₄ (joined (decimal h ∷ decimal f ∷ decimal g ∷ decimal p ∷ [])) r
  unfolding joined
  printed-figures h f g p w₁ w₂ w₃ w₄ =
      let b₁ = length-numeral 10 decimal_digits h in
      let b₂ = length-numeral 10 decimal_digits f in
      let b₃ = length-numeral 10 decimal_digits g in
      let b₄ = length-numeral 10 decimal_digits p in
      let n₁ = w₁.next in
      let n₂ = w₂.next in
      let n₃ = w₃.next in
      let n₄ = w₄.next in
      let w = wrote_more (wrote_more (wrote_more w₁ w₂ (omega arith)) w₃ (omega arith)) w₄ (omega arith) in
      record { wrote = simp append_assoc at w; room = omega arith }

-- ---- a reply of the tracker

pub carried : {c : Call} {b b' out out' : List ℕ} {r : ℕ} (e : Effect) → Does c b e → b' ≡ e.store → Printed out out' (reply_text c e.reply) r → Carried c b b' out out' r
carried e d s t = record { effect = e; does = d; store = s; text = t }

module _ {out out' : List ℕ} {r : ℕ} where
  pub reply-refused : (c : Call) {y : Reply} {n : ℕ} → y ≡ Refused n → Printed out out' (refusal_text n) r → Printed out out' (reply_text c y) r
  unfolding reply_text
  reply-refused c e p = rw e p

  pub reply-ok : (L Q : ℕ) {y : Reply} {n : ℕ} → y ≡ Number n → Wrote out out' 0 (111 ∷ 107 ∷ []) r → Printed out out' (reply_text (Open L Q) y) r
  unfolding reply_text
  reply-ok L Q e w = rw e (record { wrote = w; room = omega (arith, w.next) })

  pub reply-figures : {y : Reply} {h f g p : ℕ} → y ≡ Summed (record { held = h; free = f; preferred = g; permille = p })
      → Printed out out' (joined (decimal h ∷ decimal f ∷ decimal g ∷ decimal p ∷ [])) r
      → Printed out out' (reply_text (On Sum) y) r
  unfolding reply_text
  reply-figures e w = rw e w

-- ---- the reply of any call that is no opening

module _ {out out' : List ℕ} {r : ℕ} {y : Reply} where
  pub refused-printed : {n : ℕ} → y ≡ Refused n → Printed out out' (refusal_text n) r → ReplyPrinted out out' y r
  refused-printed e p = record { text = λ a. reply-refused (On a) e p }

  pub number-printed : {n : ℕ} → y ≡ Number n → Wrote out out' 0 (decimal n) r → ReplyPrinted out out' y r
  unfolding reply_text
  number-printed {n} e w = record { text = λ a. rw e (record { wrote = w; room = omega (arith, decimal_end n w) }) }

  pub keys-printed : (ks : List Key) → y ≡ Keys ks → Printed out out' (listed (key_texts ks)) r → ReplyPrinted out out' y r
  unfolding reply_text
  keys-printed ks e p = record { text = λ a. rw e p }

-- ---- an answer whose refusal has any number

module _ {E : Type 0} {numbered : E → ℕ → Type 0} {a : Result ℕ E} {out out' : List ℕ} {r : ℕ} where
  pub number-refused : {e : E} (k : ℕ) → a ≡ Err e → numbered e k → Printed out out' (refusal_text k) r → NumberPrinted numbered a out out' r
  number-refused k g h p = subst (λ (x : Result ℕ E). NumberPrinted numbered x out out' r) (sym g) (record { number = k; given = h; text = refused-printed refl p })

  pub number-said : {n : ℕ} → a ≡ Ok n → Wrote out out' 0 (decimal n) r → NumberPrinted numbered a out out' r
  number-said g w = subst (λ (x : Result ℕ E). NumberPrinted numbered x out out' r) (sym g) (record { number = 0; given = tt; text = number-printed refl w })

  pub listing-refused : {e : E} (k : ℕ) (u : Buffer) → a ≡ Err e → numbered e k → Printed out out' (refusal_text k) r → ListingPrinted numbered a u out out' r
  listing-refused k u g h p = subst (λ (x : Result ℕ E). ListingPrinted numbered x u out out' r) (sym g) (record { number = k; given = h; text = refused-printed refl p })

  pub listing-said : {n : ℕ} (u : Buffer) → a ≡ Ok n → Printed out out' (listed (key_texts (keys_in n u))) r → ListingPrinted numbered a u out out' r
  listing-said {n} u g p =
      subst (λ (x : Result ℕ E). ListingPrinted numbered x u out out' r) (sym g) (record { number = 0; given = tt; text = keys-printed (keys_in n u) refl p })

-- of a public call
pub number-told : (a : Result ℕ Refusal) {out out' : List ℕ} {r : ℕ} → NumberPrinted (λ e k. k ≡ number_of e) a out out' r → ReplyPrinted out out' (reply_of a) r
number-told (Ok n) p = p.text
number-told (Err e) {out} {out'} {r} p = subst (λ (k : ℕ). ReplyPrinted out out' (Refused k) r) p.given p.text

pub listing-told : (a : Result ℕ Refusal) (u : Buffer) {out out' : List ℕ} {r : ℕ} → ListingPrinted (λ e k. k ≡ number_of e) a u out out' r → ReplyPrinted out out' (listing_of a u) r
listing-told (Ok n) u p = p.text
listing-told (Err e) u {out} {out'} {r} p = subst (λ (k : ℕ). ReplyPrinted out out' (Refused k) r) p.given p.text

-- the same call, as the code has it and as the line has it
pub carried_is : {a a' : Ask} {b b' out out' : List ℕ} {r : ℕ} → a ≡ a' → Carried (On a) b b' out out' r → Carried (On a') b b' out out' r
carried_is {a} {a'} {b} {b'} {out} {out'} {r} g c = subst (λ (z : Ask). Carried (On z) b b' out out' r) g c

pub does_is : {a a' : Ask} {b : List ℕ} {e : Effect} → a ≡ a' → Does (On a) b e → Does (On a') b e
does_is {a} {a'} {b} {e} g d = subst (λ (z : Ask). Does (On z) b e) g d

-- the answer that the code has taken apart
pub departure_same : {x y : Result Departure Refusal} (u : Buffer) → x ≡ y → departure_of x u ≡ departure_of y u
departure_same u e = ap (λ (x : Result Departure Refusal). departure_of x u) e
