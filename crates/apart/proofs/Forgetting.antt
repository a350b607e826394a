-- The notes of the first places cleared, one after the other.
use Prim.Native.Nat.{ℕ, zero, suc, ◌+◌, ◌≤◌, ◌<◌}
use mathlib.Core.Path.{◌≡◌, refl, sym, ap, subst, ◌∙◌}
use mathlib.Core.List.{List, [], ◌∷◌, ◌++◌}
use native.Mathlib.Omega.{arith}
use native.Mathlib.Numerals.{add-one}
use lib.ListN.{length, take, drop, get_or, set, length-append, length-drop}
use lib.Seq.{take_at, drop_at, length-take-le}
use Rattle.places.specs.Places.{list_most}
use Rattle.machine.specs.State.{State}
use Rattle.machine.specs.Typed.{Each}
use Rattle.store.specs.FlatSound.{PlacesAscend}
use Rattle.store.specs.Image.{Writes}
use Rattle.package_stages.specs.Dead.{filter, live}
use Rattle.apart.specs.Bare.{bare_state}
use Rattle.apart.specs.Apart.{Slot, with_notes, at_rest, resting, plain, Slots, Room, Altered, Clear, ClearFrom, Forgotten, Apart}
use Rattle.apart.specs.Lapsing.{nowhere}
use Rattle.apart.proofs.SlotWords.{plain_rest}
use Rattle.apart.proofs.Overdue.{slots_rest}

-- nothing is noted of the first n
unfoldable pub cleared : ℕ → List Slot → List Slot
cleared zero xs = xs
cleared (suc n) [] = []
cleared (suc n) (x ∷ xs) = at_rest x.place ∷ cleared n xs

cleared-long : (n : ℕ) (xs : List Slot) → length (cleared n xs) ≡ length xs
unfolding cleared
cleared-long zero xs = refl
cleared-long (suc n) [] = refl
cleared-long (suc n) (x ∷ xs) = ap suc (cleared-long n xs)

cleared_next : (n : ℕ) (xs : List Slot) → n < length xs → set (cleared n xs) n (with_notes 0 0 (get_or (cleared n xs) n nowhere)) ≡ cleared (suc n) xs
unfolding cleared
cleared_next n [] h = absurd (omega arith)
cleared_next zero (x ∷ xs) h = refl
cleared_next (suc n) (x ∷ xs) h = ap (λ (l : List Slot). at_rest x.place ∷ l) (cleared_next n xs (omega arith))

rests : (x : Slot) → Clear x → x ≡ at_rest x.place
rests x c = (λ j. record { place = x.place; low = c.low_bits j; high = c.high_bits j })

cleared_all : (n : ℕ) (xs : List Slot) → ClearFrom n xs → cleared n xs ≡ resting (plain xs)
unfolding cleared
cleared_all zero [] c = refl
cleared_all zero (x ∷ xs) c =
    ap (λ (y : Slot). y ∷ xs) (rests x (c 0 x (omega arith) (omega arith))) ∙ ap (λ (l : List Slot). at_rest x.place ∷ l) (cleared_all zero xs (λ j d g h. c (suc j) d (omega arith)
    (omega arith)))
cleared_all (suc n) [] c = refl
cleared_all (suc n) (x ∷ xs) c = ap (λ (l : List Slot). at_rest x.place ∷ l) (cleared_all n xs (λ j d g h. c (suc j) d (omega arith) (omega arith)))

-- as far as the i-th
pub record ForgottenTo (b b' f f' : List ℕ) (m i : ℕ) : Type 0 where
  pub front : take m b' ≡ take m b
  pub slots : (Q : ℕ) (xs : List Slot) → i ≤ length xs → Slots b f m Q xs → Slots b' f' m Q (cleared i xs)

pub forgetting_starts : {b f : List ℕ} {m : ℕ} → ForgottenTo b b f f m 0
unfolding cleared
forgetting_starts = record { front = refl; slots = λ Q xs l s. s }

pub forgetting_goes : {b b₁ b₂ f f₁ f₂ : List ℕ} {m i : ℕ} → ForgottenTo b b₁ f f₁ m i → Altered b₁ b₂ f₁ f₂ m i (with_notes 0 0) → ForgottenTo b b₂ f f₂ m (i + 1)
forgetting_goes {b₂ = b₂} {f₂ = f₂} {m = m} {i} x y = record {
  front = y.front ∙ x.front;
  slots = λ Q xs l s.
      let h : i < length xs = omega arith in
      subst (Slots b₂ f₂ m Q) (cleared_next i xs h ∙ ap (λ (j : ℕ). cleared j xs) (sym (add-one i)))
      (y.slots Q (cleared i xs) nowhere (omega (arith, cleared-long i xs)) (x.slots Q xs (omega arith) s));
}

pub forgetting_ends : {b b' f f' : List ℕ} {m i n : ℕ} → i ≡ n → ForgottenTo b b' f f' m i → Forgotten b b' f f' m n
forgetting_ends {b' = b'} {f' = f'} {m = m} {i} {n} e x = record {
  front = x.front;
  slots = λ Q xs l c s.
      let k : ClearFrom i xs = λ j d g h. c j d (omega arith) h in
      subst (Slots b' f' m Q) (cleared_all i xs k) (x.slots Q xs (omega arith) s);
}

pub room_within : {b b' f f' : List ℕ} {m n i : ℕ} → i < n → Room b f m n → length b' ≡ length b → length f' ≡ length f → Room b' f' m (i + 1)
room_within h r e g = record { first = g ∙ r.first; front = omega (arith, r.front); rest = omega (arith, r.rest) }

-- ---- the places at rest, beside the front as it was before

pub forgotten_behind : (b b' : List ℕ) (m : ℕ) → m ≤ length b → drop m (take m b ++ drop m b') ≡ drop m b'
forgotten_behind b b' m l = drop_at (take m b) (drop m b') m (length-take-le m b l)

pub forgotten_apart : {b₁ b₂ b₃ f₁ f₃ : List ℕ} {m e : ℕ} {st : State} {xs : List Slot} → Apart b₁ f₁ m st xs → e ≤ length xs → ClearFrom e xs → drop m b₂ ≡ drop m b₁
    → Forgotten b₂ b₃ f₁ f₃ m e → length b₃ ≡ length b₁ → length f₃ ≡ length f₁ → Apart (take m b₁ ++ drop m b₃) f₃ m st (resting (plain xs))
forgotten_apart {b₁} {b₂} {b₃} {f₁} {f₃} {m} {e} {st} {xs} o l c rest z nb nf =
    let h : m ≤ length b₁ = omega (arith, o.long) in
    let p = plain_rest (plain xs) in
    record {
      sound = o.sound;
      size = o.size;
      long = length-append (take m b₁) (drop m b₃) ∙ (let u = length-take-le m b₁ h in let w = length-drop m b₃ in omega (arith, o.long));
      first_long = nf ∙ o.first_long;
      writes = subst (λ (y : List ℕ). Writes y (bare_state st)) (sym (take_at (take m b₁) (drop m b₃) m (length-take-le m b₁ h))) o.writes;
      slots = slots_rest (forgotten_behind b₁ b₃ m h) (z.slots st.places xs l c (slots_rest rest o.slots));
      lives = ap (filter live) p ∙ o.lives;
      ascend = subst (PlacesAscend 0) (sym p) o.ascend;
      short = subst (Each (λ y. length y.parents ≤ list_most)) (sym p) o.short;
    }
