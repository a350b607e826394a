-- Owners of an answer buffer as text.
use Prim.Native.Nat.{ℕ, zero, suc, ◌+◌, ◌*◌, ◌≤◌, ◌<◌}
use mathlib.Core.Path.{◌≡◌, refl, sym, ap, subst, ◌∙◌}
use mathlib.Core.List.{List, [], ◌∷◌, ◌++◌, append_assoc, append-nil}
use mathlib.Core.Option.{Option, none, some}
use native.Mathlib.Numerals.{add-one}
use native.Mathlib.Omega.{arith}
use lib.ListN.{length, take, drop, get_or, length-append}
use lib.Seq.{take_all, drop-drop}
use Rattle.machine.specs.Owners.{Holding}
use Rattle.machine.specs.Call.{Buffer, owner_bytes}
use Rattle.owners.specs.Back.{holding_in, holdings_in}
use Rattle.machine.specs.Step.{Reply, Owned, answer_bytes}
use Rattle.machine.proofs.Owners.{length-holdings_answer}
use Rattle.machine.specs.Text.{decimal, decimal_digits, key_text, joined}
use Rattle.lines.specs.Text.{Wrote, with_commas}
use Rattle.machine.proofs.Numerals.{length-numeral}
use Rattle.lines.proofs.Writing.{wrote_more, wrote_none}
use Rattle.printing.specs.Replies.{owner_text, owner_texts, reply_text}
use Rattle.printing.specs.Given.{answer_room, most_owners, owner_room, OwnersFit, Printed, ReplyPrinted}
use Rattle.printing.proofs.KeyLists.{key-length}
use Rattle.printing.proofs.Printing.{decimal_end}
use Rattle.machine.specs.Listing.{none_text}
use Rattle.lines.proofs.Commas.{joined-commas, commas_both}

-- ---- one owner

-- its texts, each behind a comma
texts-are : (a : Holding) → with_commas (owner_text (some a)) ≡ (((44 ∷ []) ++ key_text a.key) ++ (44 ∷ decimal a.connection)) ++ (44 ∷ decimal a.deadline)
unfolding with_commas
texts-are a = simp (append_assoc, append-nil)

none_is : with_commas (owner_text none) ≡ 44 ∷ none_text
unfolding with_commas
none_is = refl

owner-length : (o : Option Holding) → length (with_commas (owner_text o)) ≤ owner_room
owner-length none = omega (arith, ap length none_is)
owner-length (some a) =
    let k = key-length a.key in
    let c = length-numeral 10 decimal_digits a.connection in
    let d = length-numeral 10 decimal_digits a.deadline in
    rw (texts-are a) (simp length-append (omega arith))

module _ {s : List ℕ} {at : ℕ} {o : Option Holding} where
  pub wrote-nobody : {s' : List ℕ} {r : ℕ} → o ≡ none → Wrote s s' at (44 ∷ none_text) r → Wrote s s' at (with_commas (owner_text o)) r
  wrote-nobody e w = rw (e, none_is) w

  pub wrote-owner : {a : Holding} → o ≡ some a → at + owner_room ≤ length s → {s₁ s₂ s₃ s₄ : List ℕ} {e₁ e₂ e₃ r : ℕ} → Wrote s s₁ at (44 ∷ []) e₁ → Wrote s₁ s₂ e₁ (key_text a.key) e₂
      → Wrote s₂ s₃ e₂ (44 ∷ decimal a.connection) e₃ → Wrote s₃ s₄ e₃ (44 ∷ decimal a.deadline) r
      → Wrote s s₄ at (with_commas (owner_text o)) r
  wrote-owner {a} e room w₁ w₂ w₃ w₄ =
      let l₁ = key-length a.key in
      let lc = length-numeral 10 decimal_digits a.connection in
      let ld = length-numeral 10 decimal_digits a.deadline in
      let n₁ = w₁.next in
      let n₂ = w₂.next in
      let n₃ = w₃.next in
      rw (e, texts-are a) (wrote_more (wrote_more (wrote_more w₁ w₂ (omega arith)) w₃ (omega arith)) w₄ (omega arith))

-- ---- owners one after the other

texts_last : (l : List (Option Holding)) (o : Option Holding) → owner_texts (l ++ (o ∷ [])) ≡ owner_texts l ++ owner_text o
unfolding owner_texts
texts_last [] o = append-nil (owner_text o)
texts_last (p ∷ l) o = ap (◌++◌ (owner_text p)) (texts_last l o) ∙ sym (append_assoc (owner_text p) (owner_texts l) (owner_text o))

last_owner : (hs : List ℕ) (u : Buffer) (i : ℕ) → i < length hs
    → take (suc i) (holdings_in hs u) ≡ take i (holdings_in hs u) ++ (holding_in (get_or hs i 0) (drop (owner_bytes * i) u) ∷ [])
unfolding holdings_in
last_owner [] u i h = absurd (omega arith)
last_owner (g ∷ hs) u zero h = refl
last_owner (g ∷ hs) u (suc i) h =
    let e : owner_bytes + owner_bytes * i ≡ owner_bytes * suc i = omega arith in
    let v : drop (owner_bytes * i) (drop owner_bytes u) ≡ drop (owner_bytes * suc i) u = drop-drop (owner_bytes * i) owner_bytes u ∙ ap (λ (n : ℕ). drop n u) e in
    ap (λ (l : List (Option Holding)). holding_in g u ∷ l)
    (last_owner hs (drop owner_bytes u) i (omega arith) ∙ ap (λ (x : Buffer). take i (holdings_in hs (drop owner_bytes u)) ++ (holding_in (get_or hs i 0) x ∷ [])) v)

length-owners : (hs : List ℕ) (u : Buffer) → length (holdings_in hs u) ≡ length hs
unfolding holdings_in
length-owners [] u = refl
length-owners (h ∷ hs) u = ap suc (length-owners hs (drop owner_bytes u))

-- the owners of the first i hashes are told, each text behind a comma, from `at` on
pub record Telling (hs : List ℕ) (u out₀ out : Buffer) (at to i : ℕ) : Type 0 where
  pub most : i ≤ length hs
  pub long : length out ≡ length out₀
  pub ends : to ≤ at + owner_room * i
  pub wrote : Wrote out₀ out at (with_commas (owner_texts (take i (holdings_in hs u)))) to

module _ (hs : List ℕ) (u : Buffer) {out₀ : List ℕ} {at : ℕ} where
  pub telling_none : Telling hs u out₀ out₀ at at 0
  unfolding with_commas owner_texts
  telling_none = record { most = omega arith; long = refl; ends = omega arith; wrote = record { bytes = (wrote_none out₀ at).bytes; next = omega arith } }

  pub telling_more : {out out' : List ℕ} {to i h r : ℕ} → Telling hs u out₀ out at to i → i < length hs → h ≡ get_or hs i 0 → to + owner_room ≤ length out₀ → length out' ≡ length out
      → Wrote out out' to (with_commas (owner_text (holding_in h (drop (owner_bytes * i) u)))) r → Telling hs u out₀ out' at r (i + 1)
  telling_more {out} {out'} {to} {i} {h} {r} t m e room l w =
      let o = holding_in h (drop (owner_bytes * i) u) in
      let k = owner-length o in
      let x : with_commas (owner_texts (take (i + 1) (holdings_in hs u))) ≡ with_commas (owner_texts (take i (holdings_in hs u))) ++ with_commas (owner_text o) =
      ap (λ (n : ℕ). with_commas (owner_texts (take n (holdings_in hs u)))) (add-one i)
      ∙ ap (λ (q : List (Option Holding)). with_commas (owner_texts q))
      (last_owner hs u i m ∙ ap (λ (n : ℕ). take i (holdings_in hs u) ++ (holding_in n (drop (owner_bytes * i) u) ∷ [])) (sym e))
      ∙ ap with_commas (texts_last (take i (holdings_in hs u)) o)
      ∙ commas_both (owner_texts (take i (holdings_in hs u))) (owner_text o) in
      record {
        most = omega arith;
        long = l ∙ t.long;
        ends = omega (arith, t.ends, w.next);
        wrote = rw x (wrote_more t.wrote w (omega arith));
      }

  pub telling_all : {s out : List ℕ} {to i : ℕ} (passed : ℕ) → answer_room ≤ length s → Wrote s out₀ 0 (decimal passed) at → Telling hs u out₀ out at to i → length hs ≤ i → length hs ≤ most_owners
      → Printed s out (joined (decimal passed ∷ owner_texts (holdings_in hs u))) to
  telling_all {s} {out} {to} {i} passed room p t m f =
      let e : take i (holdings_in hs u) ≡ holdings_in hs u = take_all i (holdings_in hs u) (omega (arith, length-owners hs u)) in
      let q : Wrote out₀ out at (with_commas (owner_texts (holdings_in hs u))) to = subst (λ (l : List (Option Holding)). Wrote out₀ out at (with_commas (owner_texts l)) to) e t.wrote in
      let d = decimal_end passed p in
      record {
        wrote = rw (joined-commas (decimal passed) (owner_texts (holdings_in hs u))) (wrote_more p q (omega (arith, q.next, t.ends, t.most)));
        room = omega (arith, t.ends, t.most);
      }

-- ---- the reply

pub owners-fit : (hs : List ℕ) (u : Buffer) {y : Reply} {n : ℕ} → y ≡ Owned n (holdings_in hs u) → OwnersFit y u → (length hs ≤ most_owners) × (owner_bytes * length hs ≤ length u)
owners-fit hs u {y} {n} e f =
    let k : length (answer_bytes (Owned n (holdings_in hs u))) ≡ owner_bytes * length hs = length-holdings_answer (holdings_in hs u) ∙ ap (◌*◌ owner_bytes) (length-owners hs u) in
    let g = ap (λ (z : Reply). length (answer_bytes z)) e in
    (omega (arith, f.long, f.fits, k, g), omega (arith, f.fits, k, g))

pub owners-printed : {out out' : List ℕ} {r : ℕ} {y : Reply} (n : ℕ) (l : List (Option Holding)) → y ≡ Owned n l → Printed out out' (joined (decimal n ∷ owner_texts l)) r → ReplyPrinted out out' y r
unfolding reply_text
owners-printed n l e p = record { text = λ a. rw e p }
