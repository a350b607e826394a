-- Entries of an answer buffer, one after the other, as text.
use Prim.Native.Nat.{ℕ, zero, suc, ◌+◌, ◌*◌, ◌-◌, ◌≤◌}
use mathlib.Core.Path.{◌≡◌, refl, sym, ap, subst, ◌∙◌}
use mathlib.Core.Bool.{Bool, true, false}
use mathlib.Core.List.{List, [], ◌∷◌, ◌++◌, append_assoc, append-nil}
use mathlib.Core.Option.{Option, none, some}
use native.Mathlib.Nat.{add-zero}
use native.Mathlib.Numerals.{add-one}
use native.Mathlib.Omega.{arith}
use lib.ListN.{length, length-append}
use Rattle.ident.specs.declared.Hash.{Hash}
use Rattle.ident.specs.declared.Kind.{Kind}
use Rattle.ident.specs.declared.ItemKind.{ItemKind}
use Rattle.ident.specs.declared.ItemKind.TheVariants.{Transaction, WitnessTransaction, WTx, Other}
use Rattle.ident.specs.Number.{Key, Item}
use Rattle.ident.specs.Words.{hash_num}
use Rattle.regions.specs.declared.Quad.{Quad}
use Rattle.regions.specs.Rows.{quad_number}
use Rattle.requests.specs.Changes.{Words}
use Rattle.requests.proofs.HashRows.{words-number}
use Rattle.machine.specs.State.{Candidate, Entry}
use Rattle.claiming.specs.Claiming.{entry_from, entries_from}
use Rattle.machine.specs.Text.{hash_digits, decimal_digits, decimal, hexadecimal, bool_text, key_text, item_kind_text, item_text, joined}
use Rattle.lines.specs.Text.{Wrote, key_room, number_room, with_commas}
use Rattle.machine.proofs.Numerals.{length-numeral}
use Rattle.lines.proofs.Writing.{wrote_more, wrote_none}
use Rattle.lines.proofs.Commas.{joined-commas, commas_both, commas-append}
use Rattle.printing.specs.Replies.{listed, entry_texts, time_text, selection_text}
use Rattle.printing.specs.Given.{answer_room, most_entries, kind_room, item_room, candidate_room, entry_room, candidate_texts, entry_text, Printed}
use Rattle.printing.proofs.KeyLists.{key-length}
use Rattle.printing.proofs.Printing.{decimal_end}

-- ---- how long the texts are

kind-length : (k : ItemKind) → length (item_kind_text k) ≤ kind_room
kind-length Transaction = omega arith
kind-length WitnessTransaction = omega arith
kind-length WTx = omega arith
kind-length (Other n) = omega (arith, length-append (decimal n) (58 ∷ []), length-numeral 10 decimal_digits n)

item-length : (i : Item) → length (item_text i) ≤ item_room
unfolding item_text
item-length i = omega (arith, length-append (item_kind_text i.kind) (hexadecimal i.hash), kind-length i.kind, length-numeral 16 hash_digits i.hash)

bool-length : (b : Bool) → length (bool_text b) ≡ 1
bool-length true = refl
bool-length false = refl

-- ---- one field

module _ {s s' : List ℕ} {a r : ℕ} where
  pub key_of_hash : (k : Kind) {h : Hash} {q : Quad} → Words h q → Wrote s s' a (key_text (record { kind = k; hash = quad_number q })) r
      → Wrote s s' a (key_text (record { kind = k; hash = hash_num h })) r
  key_of_hash k v w = rw (← words-number v) w

module _ {s : List ℕ} {a : ℕ} {s₁ s₂ : List ℕ} {e r : ℕ} where
  pub wrote-number : (n : ℕ) → a + number_room ≤ length s → Wrote s s₁ a (44 ∷ []) e → Wrote s₁ s₂ e (decimal n) r → Wrote s s₂ a (44 ∷ decimal n) r
  wrote-number n h p q = wrote_more p q (omega (arith, p.next, length-numeral 10 decimal_digits n))

  pub wrote-item : (k : ItemKind) {h : Hash} {q : Quad} → a + item_room ≤ length s → Wrote s s₁ a (item_kind_text k) e → Words h q → Wrote s₁ s₂ e (hexadecimal (quad_number q)) r
      → Wrote s s₂ a (item_text (record { kind = k; hash = hash_num h })) r
  unfolding item_text
  wrote-item k {h} m p v w = wrote_more p (rw (words-number v) at w) (omega (arith, p.next, kind-length k, length-numeral 16 hash_digits (hash_num h)))

pub wrote_other : {s s₁ s₂ s₃ : List ℕ} {a e₁ e₂ r n : ℕ} {k : ItemKind} → k ≡ Other n → a + kind_room ≤ length s → Wrote s s₁ a (111 ∷ []) e₁ → Wrote s₁ s₂ e₁ (decimal n) e₂
    → Wrote s₂ s₃ e₂ (58 ∷ []) r
    → Wrote s s₃ a (item_kind_text k) r
wrote_other {n = n} e h p q w =
    let l = length-numeral 10 decimal_digits n in
    let n₁ = p.next in
    let n₂ = q.next in
    rw (e, ← append_assoc (111 ∷ []) (decimal n) (58 ∷ [])) (wrote_more (wrote_more p q (omega arith)) w (omega arith))

time-length : (o : Option ℕ) → length (time_text o) ≤ decimal_digits
time-length none = omega arith
time-length (some n) = length-numeral 10 decimal_digits n

-- where a field's text ends
module _ {s s' : List ℕ} {a r : ℕ} where
  pub key_end : (k : Key) → Wrote s s' a (key_text k) r → r ≤ a + key_room
  key_end k p = omega (arith, p.next, key-length k)

  pub kind_end : (k : ItemKind) → Wrote s s' a (item_kind_text k) r → r ≤ a + kind_room
  kind_end k p = omega (arith, p.next, kind-length k)

  pub item_end : (i : Item) → Wrote s s' a (item_text i) r → r ≤ a + item_room
  item_end i p = omega (arith, p.next, item-length i)

  pub number_end : (n : ℕ) → Wrote s s' a (44 ∷ decimal n) r → r ≤ a + number_room
  number_end n p = omega (arith, p.next, length-numeral 10 decimal_digits n)

  pub bool_end : (b : Bool) → Wrote s s' a (44 ∷ bool_text b) r → r ≤ a + 2
  bool_end b p = omega (arith, p.next, bool-length b)

-- ---- one entry

fields-are : (c : Candidate) → with_commas (candidate_texts c) ≡ (((((44 ∷ decimal c.connection) ++ (44 ∷ [])) ++ item_text c.item) ++ (44 ∷ decimal c.ready)) ++
    (44 ∷ bool_text c.preferred)) ++ (44 ∷ decimal c.priority)
unfolding with_commas
fields-are c = simp (append_assoc, append-nil)

module _ {s : List ℕ} {a : ℕ} (c : Candidate) (h : a + candidate_room ≤ length s) where
  pub wrote-candidate : {s₁ s₂ s₃ s₄ s₅ s₆ : List ℕ} {e₁ e₂ e₃ e₄ e₅ r : ℕ} → Wrote s s₁ a (44 ∷ decimal c.connection) e₁ → Wrote s₁ s₂ e₁ (44 ∷ []) e₂ → Wrote s₂ s₃ e₂ (item_text c.item) e₃
      → Wrote s₃ s₄ e₃ (44 ∷ decimal c.ready) e₄ → Wrote s₄ s₅ e₄ (44 ∷ bool_text c.preferred) e₅ → Wrote s₅ s₆ e₅ (44 ∷ decimal c.priority) r → Wrote s s₆ a (with_commas (candidate_texts c)) r
  wrote-candidate w₁ w₂ w₃ w₄ w₅ w₆ =
      let l₁ = length-numeral 10 decimal_digits c.connection in
      let l₃ = item-length c.item in
      let l₄ = length-numeral 10 decimal_digits c.ready in
      let l₅ = bool-length c.preferred in
      let l₆ = length-numeral 10 decimal_digits c.priority in
      let n₁ = w₁.next in
      let n₂ = w₂.next in
      let n₃ = w₃.next in
      let n₄ = w₄.next in
      let n₅ = w₅.next in
      let w = wrote_more (wrote_more (wrote_more (wrote_more (wrote_more w₁ w₂ (omega arith)) w₃ (omega arith)) w₄ (omega arith)) w₅ (omega arith)) w₆ (omega arith) in
      rw (fields-are c) w

candidate-length : (c : Candidate) → length (with_commas (candidate_texts c)) ≤ candidate_room
candidate-length c =
    let l₁ = length-numeral 10 decimal_digits c.connection in
    let l₃ = item-length c.item in
    let l₄ = length-numeral 10 decimal_digits c.ready in
    let l₅ = bool-length c.preferred in
    let l₆ = length-numeral 10 decimal_digits c.priority in
    rw (fields-are c) (simp length-append (omega arith))

pub entry_length : (a : Entry) → length (entry_text a) + 1 ≤ entry_room
entry_length a = omega (arith, length-append (key_text a.key) (with_commas (candidate_texts a.candidate)), key-length a.key, candidate-length a.candidate)

pub wrote-entry : {a b : Entry} {s s₁ s₂ : List ℕ} {at e r : ℕ} → a ≡ b → at + (key_room + candidate_room) ≤ length s → Wrote s s₁ at (key_text a.key) e
    → Wrote s₁ s₂ e (with_commas (candidate_texts a.candidate)) r → Wrote s s₂ at (entry_text b) r
wrote-entry {a} {b} {s} {s₁} {s₂} {at} {e} {r} g h p q =
    let k = key-length a.key in
    subst (λ (x : Entry). Wrote s s₂ at (entry_text x) r) g (wrote_more p q (omega (arith, p.next, candidate-length a.candidate)))

-- ---- entries one after the other

-- an entry's texts behind a comma, and those of the entries behind it
behind-entry : (a : Entry) (l : List Entry) → with_commas (entry_texts (a ∷ l)) ≡ 44 ∷ (entry_text a ++ with_commas (entry_texts l))
unfolding with_commas entry_texts
behind-entry a l = simp append_assoc

joined-entry : (a : Entry) (l : List Entry) → joined (entry_texts (a ∷ l)) ≡ entry_text a ++ with_commas (entry_texts l)
unfolding entry_texts
joined-entry a l =
    let c = a.candidate in
    joined-commas (key_text a.key) (decimal c.connection ∷ item_text c.item ∷ decimal c.ready ∷ bool_text c.preferred ∷ decimal c.priority ∷ entry_texts l)
    ∙ ap (λ (x : List ℕ). key_text a.key ++ x) (commas_both (candidate_texts c) (entry_texts l))
    ∙ sym (append_assoc (key_text a.key) (with_commas (candidate_texts c)) (with_commas (entry_texts l)))

listed-joined : (a : Entry) (l : List Entry) → listed (entry_texts (a ∷ l)) ≡ joined (entry_texts (a ∷ l))
unfolding entry_texts
listed-joined a l = refl

last_behind : (a : Entry) → 44 ∷ (entry_text a ++ with_commas (entry_texts [])) ≡ with_commas (entry_texts []) ++ (44 ∷ entry_text a)
unfolding with_commas entry_texts
last_behind a = ap (λ (x : List ℕ). 44 ∷ x) (append-nil (entry_text a))

behind_last : (l : List Entry) (a : Entry) → with_commas (entry_texts (l ++ (a ∷ []))) ≡ with_commas (entry_texts l) ++ (44 ∷ entry_text a)
behind_last [] a = behind-entry a [] ∙ last_behind a
behind_last (b ∷ l) a =
    behind-entry b (l ++ (a ∷ []))
    ∙ ap (λ (x : List ℕ). 44 ∷ (entry_text b ++ x)) (behind_last l a)
    ∙ ap (λ (x : List ℕ). 44 ∷ x) (sym (append_assoc (entry_text b) (with_commas (entry_texts l)) (44 ∷ entry_text a)))
    ∙ ap (λ (x : List ℕ). x ++ (44 ∷ entry_text a)) (sym (behind-entry b l))

entries_last : (u : List ℕ) (i first : ℕ) → entries_from u first (suc i) ≡ entries_from u first i ++ (entry_from u (first + i) ∷ [])
unfolding entries_from
entries_last u zero first = rw (add-zero first)
entries_last u (suc i) first =
    let e : first + 1 + i ≡ first + suc i = omega arith in
    ap (λ (l : List Entry). entry_from u first ∷ l) (entries_last u i (first + 1)) ∙ ap (λ (j : ℕ). entry_from u first ∷ (entries_from u (first + 1) i ++ (entry_from u j ∷ []))) e

entries_more : (u : List ℕ) (first i : ℕ) → entries_from u first (i + 1) ≡ entries_from u first i ++ (entry_from u (first + i) ∷ [])
entries_more u first i = ap (entries_from u first) (add-one i) ∙ entries_last u i first

-- ---- the loop over the entries

pub no-entries : (out : List ℕ) (at : ℕ) (u : List ℕ) (first : ℕ) {at' : ℕ} → at' ≡ at → Wrote out out at (with_commas (entry_texts (entries_from u first 0))) at'
unfolding with_commas entry_texts entries_from
no-entries out at u first e = record { bytes = (wrote_none out at).bytes; next = omega (arith, e) }

pub more_entries : {out₀ out s s' : List ℕ} {at₀ at e r : ℕ} (first i : ℕ) (u : List ℕ) → at + entry_room ≤ length out₀ → length out ≡ length out₀
    → Wrote out₀ out at₀ (with_commas (entry_texts (entries_from u first i))) at
    → Wrote out s at (44 ∷ []) e → Wrote s s' e (entry_text (entry_from u (first + i))) r → (r ≤ at + entry_room) × Wrote out₀ s' at₀ (with_commas (entry_texts (entries_from u first (i + 1)))) r
more_entries first i u h l p q w =
    let k = entry_length (entry_from u (first + i)) in
    let n : with_commas (entry_texts (entries_from u first (i + 1))) ≡ with_commas (entry_texts (entries_from u first i)) ++ (44 ∷ entry_text (entry_from u (first + i))) =
    ap (λ (x : List Entry). with_commas (entry_texts x)) (entries_more u first i) ∙ behind_last (entries_from u first i) (entry_from u (first + i)) in
    (omega (arith, q.next, w.next), rw n (wrote_more p (wrote_more q w (omega (arith, q.next))) (omega (arith))))

-- ---- answers

some_listed : (u : List ℕ) (first n : ℕ) → listed (entry_texts (entries_from u first (suc n))) ≡ entry_text (entry_from u first) ++ with_commas (entry_texts (entries_from u (first + 1) n))
unfolding entries_from
some_listed u first n = listed-joined (entry_from u first) (entries_from u (first + 1) n) ∙ joined-entry (entry_from u first) (entries_from u (first + 1) n)

module _ {out₀ : List ℕ} (room : answer_room ≤ length out₀) (u : List ℕ) where
  pub none_listed : {out : List ℕ} (first : ℕ) {n r : ℕ} → n ≡ 0 → Wrote out₀ out 0 (45 ∷ []) r → Printed out₀ out (listed (entry_texts (entries_from u first n))) r
  unfolding entries_from entry_texts
  none_listed first e p = rw e (record { wrote = p; room = omega (arith, p.next) })

  pub all_listed : {out out' : List ℕ} {e r : ℕ} (first n : ℕ) → (n ≡ 0 → ⊥) → n ≤ most_entries → Wrote out₀ out 0 (entry_text (entry_from u first)) e
      → Wrote out out' e (with_commas (entry_texts (entries_from u (first + 1) (n - 1)))) r
      → r ≤ e + entry_room * (n - 1) → Printed out₀ out' (listed (entry_texts (entries_from u first n))) r
  all_listed {out} {out'} {e} {r} first zero z m p q h = absurd (z refl)
  all_listed {out} {out'} {e} {r} first (suc n) z m p q h =
      let k = entry_length (entry_from u first) in
      let f : suc n - 1 ≡ n = omega arith in
      let q' : Wrote out out' e (with_commas (entry_texts (entries_from u (first + 1) n))) r = rw f at q in
      record { wrote = rw (some_listed u first n) (wrote_more p q' (omega (arith, p.next, q'.next))); room = omega (arith, p.next) }

  pub selection-wrote : {out out' out'' : List ℕ} {e r t : ℕ} (considered n : ℕ) (next : Option ℕ) → n ≤ most_entries → Wrote out₀ out 0 (decimal considered) e
      → Wrote out out' e (with_commas (entry_texts (entries_from u 0 n))) r → r ≤ e + entry_room * n → Wrote out' out'' r (44 ∷ time_text next) t
      → Printed out₀ out'' (selection_text considered (entries_from u 0 n) next) t
  selection-wrote considered n next m p q h w =
      let d = decimal_end considered p in
      let l = time-length next in
      let x = entry_texts (entries_from u 0 n) in
      let e : joined (decimal considered ∷ (x ++ (time_text next ∷ []))) ≡ (decimal considered ++ with_commas x) ++ (44 ∷ time_text next) =
      joined-commas (decimal considered) (x ++ (time_text next ∷ [])) ∙ ap (◌++◌ (decimal considered)) (commas-append x (time_text next))
      ∙ sym (append_assoc (decimal considered) (with_commas x) (44 ∷ time_text next)) in
      record { wrote = rw e (wrote_more (wrote_more p q (omega (arith, q.next))) w (omega (arith, w.next))); room = omega (arith, w.next) }
