-- Owners that were written to an answer buffer, read back.
use Prim.Native.Nat.{ℕ, zero, suc, ◌+◌, ◌-◌, ◌*◌, ◌≤◌, ◌<◌}
use mathlib.Core.Path.{◌≡◌, refl, sym, ap, ◌∙◌}
use mathlib.Core.Logic.{inl, inr}
use mathlib.Core.Bool.{true}
use mathlib.Core.List.{List, [], ◌∷◌, ◌++◌, append_assoc}
use mathlib.Core.Option.{Option, none, some}
use native.Mathlib.Omega.{arith}
use lib.Dec.{lit<, eqb}
use lib.ListN.{length, take, drop, get_or}
use lib.Seq.{take_at, drop_at, drop-drop}
use borrow.Author.Tests.{eqb-true}
use Rattle.ident.specs.Number.{Key, txid, wtxid, kind_is}
use Rattle.ident.specs.declared.Kind.{Kind}
use Rattle.words.specs.Words.{number, digits, bytes_of, words}
use Rattle.words.proofs.Words.{word_at}
use Rattle.words.proofs.Digits.{length_digits, number_digits}
use Rattle.machine.specs.Limits.{word}
use Rattle.machine.specs.State.{Candidate, Owner, State}
use Rattle.machine.specs.Table.{at, has}
use Rattle.machine.specs.Sound.{AllFit, OwnerFits, Sound}
use Rattle.machine.specs.Owners.{Holding, holding_as, or_holding, holding_at, holdings}
use Rattle.machine.specs.Call.{owner_bytes}
use Rattle.machine.specs.Step.{holding_answer, holdings_answer, written}
use Rattle.machine.proofs.Tests.{test, never}
use Rattle.machine.proofs.Table.{lawful_at}
use Rattle.machine.proofs.Owners.{length-holding_answer}
use Rattle.owners.specs.Back.{holding_from, holding_in, holdings_in}

-- ---- three words

module _ (h x y z : ℕ) (lx : x < word) (ly : y < word) (lz : z < word) (v : List ℕ) where
  flat : bytes_of (x ∷ y ∷ z ∷ []) ++ v ≡ digits 256 8 x ++ (digits 256 8 y ++ (digits 256 8 z ++ v))
  unfolding bytes_of
  flat = simp append_assoc

  back : (n : ℕ) (w : List ℕ) → n < word → number 256 (take 8 (digits 256 8 n ++ w)) ≡ n
  back n w l = ap (number 256) (take_at (digits 256 8 n) w 8 (length_digits 256 8 n)) ∙ number_digits 256 (lit< tt) 8 n l

  rest : (n : ℕ) (w : List ℕ) → drop 8 (digits 256 8 n ++ w) ≡ w
  rest n w = drop_at (digits 256 8 n) w 8 (length_digits 256 8 n)

  three_back : holding_in h (bytes_of (x ∷ y ∷ z ∷ []) ++ v) ≡ holding_from h x y z
  unfolding holding_in
  three_back =
      ap (holding_in h) flat
      ∙ (λ i. holding_from h (back x (digits 256 8 y ++ (digits 256 8 z ++ v)) lx i) (number 256 (take 8 (rest x (digits 256 8 y ++ (digits 256 8 z ++ v)) i)))
      (number 256 (take 8 (drop 8 (rest x (digits 256 8 y ++ (digits 256 8 z ++ v)) i)))))
      ∙ (λ i. holding_from h x (back y (digits 256 8 z ++ v) ly i) (number 256 (take 8 (rest y (digits 256 8 z ++ v) i))))
      ∙ (λ i. holding_from h x y (back z v lz i))

-- ---- one answer

-- an owner's connection and deadline are of 64 bits
abbrev Small : Option Owner → Type 0
Small none = Unit {0}
Small (some o) = (o.connection < word) × (o.deadline < word)

one-back : (h : ℕ) (a b : Option Owner) → Small a → Small b → (v : List ℕ) → let o = or_holding (holding_as (txid h) a) (holding_as (wtxid h) b) in holding_in h (holding_answer o ++ v) ≡ o
one-back h (some o) b s t v = three_back h 1 o.connection o.deadline (lit< tt) s.0 s.1 v
one-back h none (some o) s t v = three_back h 2 o.connection o.deadline (lit< tt) t.0 t.1 v
one-back h none none s t v = three_back h 0 0 0 (lit< tt) (lit< tt) (lit< tt) v

has-small : (k : Key) (n : ℕ) (cs : List Candidate) → AllFit k cs → has n cs ≡ true → n < word
unfolding has
has-small k n [] f e = never e
has-small k n (c ∷ cs) f e =
    elim (test (eqb c.connection n)) [
      | inl d ↦ omega (arith, eqb-true c.connection n d, f.0.connection)
      | inr d ↦ has-small k n cs f.1 (rw d at e)
    ]

owner-small : (k : Key) (o : Option Owner) (cs : List Candidate) → AllFit k cs → OwnerFits o cs → Small o
owner-small k none cs f w = tt
owner-small k (some o) cs f w = (has-small k o.connection cs f w.0, w.1)

module _ (st : State) (s : Sound st) where
  at_small : (k : Key) → Small (at k st.table).owner
  at_small k = let l = lawful_at k st.table s.bounded.lawful in owner-small (at k st.table).key (at k st.table).owner (at k st.table).candidates l.candidates l.owner

  hash_back : (h : ℕ) (v : List ℕ) → holding_in h (holding_answer (holding_at st.table h) ++ v) ≡ holding_at st.table h
  unfolding holding_at
  hash_back h v = one-back h (at (txid h) st.table).owner (at (wtxid h) st.table).owner (at_small (txid h)) (at_small (wtxid h)) v

  -- ---- all of them

  front_back : (hs v : List ℕ) → holdings_in hs (holdings_answer (holdings hs st.table) ++ v) ≡ holdings hs st.table
  unfolding holdings_in holdings_answer
  front_back [] v = refl
  front_back (h ∷ hs) v =
      let o = holding_at st.table h in
      let w = holdings_answer (holdings hs st.table) ++ v in
      ap (holdings_in (h ∷ hs)) (append_assoc (holding_answer o) (holdings_answer (holdings hs st.table)) v)
      ∙ (λ i. hash_back h w i ∷ holdings_in hs (drop_at (holding_answer o) w owner_bytes (length-holding_answer o) i))
      ∙ ap (λ (l : List (Option Holding)). o ∷ l) (front_back hs v)

  pub holdings_back : (hs u : List ℕ) → holdings_in hs (written (holdings_answer (holdings hs st.table)) u) ≡ holdings hs st.table
  unfolding written
  holdings_back hs u = front_back hs (drop (length (holdings_answer (holdings hs st.table))) u)

-- ---- one owner of an answer

-- its three words in a buffer
words_are : (u : List ℕ) (i h : ℕ) → owner_bytes * i + owner_bytes ≤ length u → {t c d : ℕ} → t ≡ get_or (words u) (i * 3) 0 → c ≡ get_or (words u) (i * 3 + 1) 0 → d ≡ get_or (words u) (i * 3 + 2) 0
    → holding_in h (drop (owner_bytes * i) u) ≡ holding_from h t c d
unfolding holding_in
words_are u i h l {t} {c} {d} et ec ed =
    let e₀ : 8 * (i * 3) ≡ owner_bytes * i = omega arith in
    let e₁ : 8 * (i * 3 + 1) ≡ owner_bytes * i + 8 = omega arith in
    let e₂ : 8 * (i * 3 + 2) ≡ owner_bytes * i + 8 + 8 = omega arith in
    let x : number 256 (take 8 (drop (owner_bytes * i) u)) ≡ t = sym (et ∙ word_at u (i * 3) (omega arith) ∙ ap (λ (n : ℕ). number 256 (take 8 (drop n u))) e₀) in
    let y : number 256 (take 8 (drop 8 (drop (owner_bytes * i) u))) ≡ c =
    ap (λ (z : List ℕ). number 256 (take 8 z)) (drop-drop 8 (owner_bytes * i) u) ∙ sym (ec ∙ word_at u (i * 3 + 1) (omega arith) ∙ ap (λ (n : ℕ). number 256 (take 8 (drop n u))) e₁) in
    let w : number 256 (take 8 (drop 8 (drop 8 (drop (owner_bytes * i) u)))) ≡ d =
    ap (λ (z : List ℕ). number 256 (take 8 (drop 8 z))) (drop-drop 8 (owner_bytes * i) u) ∙ ap (λ (z : List ℕ). number 256 (take 8 z)) (drop-drop 8 (owner_bytes * i + 8) u)
    ∙ sym (ed ∙ word_at u (i * 3 + 2) (omega arith) ∙ ap (λ (n : ℕ). number 256 (take 8 (drop n u))) e₂) in
    (λ j. holding_from h (x j) (y j) (w j))

no-tag : (h c d : ℕ) {t : ℕ} → t ≡ 0 → holding_from h t c d ≡ none
no-tag h c d e = rw e

a-tag : (t h c d : ℕ) → (t ≡ 0 → ⊥) → holding_from h t c d ≡ some (record { key = record { kind = kind_is (t - 1); hash = h }; connection = c; deadline = d })
a-tag zero h c d n = absurd (n refl)
a-tag (suc zero) h c d n = refl
a-tag (suc (suc t)) h c d n = let e : suc (suc t) - 1 ≡ suc t = omega arith in rw e

module _ (u : List ℕ) (i : ℕ) (l : owner_bytes * i + owner_bytes ≤ length u) {t : ℕ} (et : t ≡ get_or (words u) (i * 3) 0) where
  pub reads_nobody : t ≡ 0 → (h : ℕ) → holding_in h (drop (owner_bytes * i) u) ≡ none
  reads_nobody z h = words_are u i h l et refl refl ∙ no-tag h _ _ z

  pub reads-owner : (t ≡ 0 → ⊥) → {k : Kind} → k ≡ kind_is (t - 1) → {c d : ℕ} → c ≡ get_or (words u) (i * 3 + 1) 0 → d ≡ get_or (words u) (i * 3 + 2) 0 → (h : ℕ)
      → holding_in h (drop (owner_bytes * i) u) ≡ some (record { key = record { kind = k; hash = h }; connection = c; deadline = d })
  reads-owner n {k} ek {c} {d} ec ed h =
      words_are u i h l et ec ed ∙ a-tag t h c d n ∙ ap (λ (x : Kind). some (record { key = record { kind = x; hash = h }; connection = c; deadline = d })) (sym ek)
