-- Texts behind others, each behind a comma; the keys of a connection that left.
use Prim.Native.Nat.{ℕ, zero, suc, ◌+◌, ◌-◌, ◌*◌, ◌≤◌}
use mathlib.Core.Path.{◌≡◌, refl, sym, ap, subst, ◌∙◌}
use mathlib.Core.List.{List, [], ◌∷◌, ◌++◌}
use native.Mathlib.Omega.{arith}
use lib.ListN.{length, take, drop}
use lib.Seq.{drop-drop}
use Rattle.ident.specs.Number.{Key}
use Rattle.words.specs.Words.{recs}
use Rattle.words.proofs.Records.{recs-add}
use Rattle.machine.specs.Call.{Buffer, key_bytes, Ask, On}
use Rattle.machine.specs.Step.{Reply, Left}
use Rattle.lent_lists.specs.Lists.{key_in, keys_in}
use Rattle.machine.specs.Text.{decimal, key_text, joined}
use Rattle.lines.specs.Text.{Wrote, with_commas}
use Rattle.lines.proofs.Writing.{wrote_more, wrote_none}
use Rattle.lines.proofs.Commas.{joined-commas, commas-append}
use Rattle.printing.specs.Replies.{listed, key_texts, reply_text}
use Rattle.printing.specs.Given.{next_room, answer_room, most_keys, Printed}
use Rattle.printing.proofs.KeyLists.{key_at, keys_more, texts-append, key-length, length-keys}
use Rattle.printing.proofs.Printing.{decimal_end}

-- ---- the loop over the keys

next_behind : (i : ℕ) (u : Buffer) → with_commas (key_texts (keys_in (i + 1) u)) ≡ with_commas (key_texts (keys_in i u)) ++ (44 ∷ key_text (key_at u i))
next_behind i u =
    ap (λ (ks : List Key). with_commas (key_texts ks)) (keys_more i u) ∙ ap with_commas (texts-append (keys_in i u) (key_at u i)) ∙ commas-append (key_texts (keys_in i u)) (key_text (key_at u i))

pub none_behind : (out : List ℕ) (at : ℕ) (u : Buffer) {at' : ℕ} → at' ≡ at → Wrote out out at (with_commas (key_texts (keys_in 0 u))) at'
unfolding with_commas key_texts keys_in recs
none_behind out at u e = record { bytes = (wrote_none out at).bytes; next = omega (arith, e) }

-- the i-th key behind the first ones
key_behind : (first i : ℕ) (u : Buffer) → key_at u (first + i) ≡ key_at (drop (key_bytes * first) u) i
key_behind first i u =
    let e : key_bytes * (first + i) ≡ key_bytes * first + key_bytes * i = omega arith in
    ap (λ (x : Buffer). key_in (take key_bytes x)) (ap (λ (n : ℕ). drop n u) e ∙ sym (drop-drop (key_bytes * i) (key_bytes * first) u))

pub more_behind : {out₀ out s s' : List ℕ} {at₀ at e r : ℕ} (first i : ℕ) (u : Buffer) → at + next_room ≤ length out₀ → length out ≡ length out₀
    → Wrote out₀ out at₀ (with_commas (key_texts (keys_in i (drop (key_bytes * first) u)))) at
    → Wrote out s at (44 ∷ []) e → Wrote s s' e (key_text (key_at u (first + i))) r
    → (r ≤ at + next_room) × Wrote out₀ s' at₀ (with_commas (key_texts (keys_in (i + 1) (drop (key_bytes * first) u)))) r
more_behind {out₀} {out} {s} {s'} {at₀} {at} {e} {r} first i u h l p q w₀ =
    let v = drop (key_bytes * first) u in
    let w : Wrote s s' e (key_text (key_at v i)) r = subst (λ (k : Key). Wrote s s' e (key_text k) r) (key_behind first i u) w₀ in
    let k = key-length (key_at v i) in
    (omega (arith, q.next, w.next), rw (next_behind i v) (wrote_more p (wrote_more q w (omega (arith, q.next))) (omega (arith))))

-- ---- keys listed

some_listed : (u : Buffer) (n : ℕ) → listed (key_texts (keys_in (suc n) u)) ≡ key_text (key_at u 0) ++ with_commas (key_texts (keys_in n (drop (key_bytes * 1) u)))
unfolding key_texts keys_in recs
some_listed u n = joined-commas (key_text (key_at u 0)) (key_texts (keys_in n (drop (key_bytes * 1) u)))

module _ {out₀ : List ℕ} (room : answer_room ≤ length out₀) (u : Buffer) where
  pub none_listed : {out : List ℕ} {n r : ℕ} → n ≡ 0 → Wrote out₀ out 0 (45 ∷ []) r → Printed out₀ out (listed (key_texts (keys_in n u))) r
  unfolding keys_in recs key_texts
  none_listed e p = rw e (record { wrote = p; room = omega (arith, p.next) })

  pub all_listed : {out out' : List ℕ} {e r : ℕ} (n : ℕ) → (n ≡ 0 → ⊥) → n ≤ most_keys → Wrote out₀ out 0 (key_text (key_at u 0)) e
      → Wrote out out' e (with_commas (key_texts (keys_in (n - 1) (drop (key_bytes * 1) u)))) r → r ≤ e + next_room * (n - 1)
      → Printed out₀ out' (listed (key_texts (keys_in n u))) r
  all_listed zero z m p q h = absurd (z refl)
  all_listed {out} {out'} {e} {r} (suc n) z m p q h =
      let k = key-length (key_at u 0) in
      let f : suc n - 1 ≡ n = omega arith in
      let q' : Wrote out out' e (with_commas (key_texts (keys_in n (drop (key_bytes * 1) u)))) r = rw f at q in
      record { wrote = rw (some_listed u n) (wrote_more p q' (omega (arith, p.next, q'.next))); room = omega (arith, p.next) }

-- ---- the keys of a connection that left

module _ {out₀ : List ℕ} (room : answer_room ≤ length out₀) (u : Buffer) where
  pub departure_wrote : {out out' : List ℕ} {e r : ℕ} (own n : ℕ) → n ≤ most_keys → Wrote out₀ out 0 (decimal own) e → Wrote out out' e (with_commas (key_texts (keys_in n u))) r
      → r ≤ e + next_room * n
      → Printed out₀ out' (joined (decimal own ∷ key_texts (keys_in n u))) r
  departure_wrote own n m p q h =
      let d = decimal_end own p in
      record { wrote = rw (joined-commas (decimal own) (key_texts (keys_in n u))) (wrote_more p q (omega (arith, q.next))); room = omega arith }

texts_both : (xs ys : List Key) → key_texts (xs ++ ys) ≡ key_texts xs ++ key_texts ys
unfolding key_texts
texts_both [] ys = refl
texts_both (x ∷ xs) ys = ap (λ (l : List (List ℕ)). key_text x ∷ l) (texts_both xs ys)

keys_both : (m n : ℕ) (u : Buffer) → keys_in (m + n) u ≡ keys_in m u ++ keys_in n (drop (key_bytes * m) u)
unfolding keys_in
keys_both m n u = recs-add key_bytes _ m n u

pub reply_departure : (a : Ask) {out out' : List ℕ} {r : ℕ} {y : Reply} (own parents : ℕ) (u : Buffer) → y ≡ Left (keys_in own u) (keys_in parents (drop (key_bytes * own) u))
    → Printed out out' (joined (decimal own ∷ key_texts (keys_in (own + parents) u))) r → Printed out out' (reply_text (On a) y) r
unfolding reply_text
reply_departure a {out} {out'} {r} own parents u e p =
    rw (e, length-keys own u, ← texts_both (keys_in own u) (keys_in parents (drop (key_bytes * own) u)), ← keys_both own parents u) p
