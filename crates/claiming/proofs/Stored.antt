-- Entries written to an answer buffer: in bytes.
use Prim.Native.Nat.{ℕ, ◌+◌, ◌*◌, ◌≤◌}
use mathlib.Core.Path.{◌≡◌, refl, sym, ap, ◌∙◌}
use mathlib.Core.List.{List, [], ◌∷◌, ◌++◌, append_assoc, append-nil}
use native.Mathlib.Omega.{arith}
use lib.ListN.{length, length-append}
use Rattle.ident.specs.Number.{Item, type_of}
use Rattle.words.specs.Words.{digits, bytes_of, splice, Put}
use Rattle.words.proofs.Digits.{length_digits}
use Rattle.words.proofs.Words.{length-bytes}
use Rattle.words.proofs.Splice.{splice_more}
use Rattle.machine.specs.State.{Entry}
use Rattle.machine.specs.Table.{one}
use Rattle.machine.specs.Call.{entry_bytes}
use Rattle.machine.specs.Step.{key_answer, entry_answer, entries_answer, written}
use Rattle.machine.proofs.AnswerLengths.{length-key_answer, length-entry_answer, length-entries_answer}
use Rattle.claiming.specs.Claiming.{item_answer}
use Rattle.lent_lists.proofs.Answer.{over_front}

-- x written over u from a on, and y behind it
behind : (u : List ℕ) {u₁ u₂ : List ℕ} (a b : ℕ) (x y : List ℕ) → u₁ ≡ splice u a x → u₂ ≡ splice u₁ b y → b ≡ a + length x → b + length y ≤ length u → u₂ ≡ splice u a (x ++ y)
behind u a b x y e f p q = f ∙ ap (λ (s : List ℕ). splice s b y) e ∙ splice_more u a b x y p q

-- ---- a key, a connection with an item, three words

two_put : {u u₁ u₂ : List ℕ} (w x y : ℕ) → 8 * w + 16 ≤ length u → Put u u₁ w x → Put u₁ u₂ (w + 1) y → u₂ ≡ splice u (8 * w) (bytes_of (x ∷ y ∷ []))
unfolding bytes_of
two_put {u} w x y h p q =
    let l = length_digits 256 8 x in
    let m = length_digits 256 8 y in
    behind u (8 * w) (8 * (w + 1)) (digits 256 8 x) (digits 256 8 y) p.bytes q.bytes (omega arith) (omega arith) ∙ rw append-nil refl

length_two : (x y : ℕ) → length (bytes_of (x ∷ y ∷ [])) ≡ 16
length_two x y = length-bytes (x ∷ y ∷ [])

pub item-put : {u u₁ u₂ : List ℕ} (w n t : ℕ) (i : Item) → 8 * w + 48 ≤ length u → t ≡ type_of i.kind → Put u u₁ w n
    → u₂ ≡ splice u₁ (8 * (w + 1)) (bytes_of (t ∷ []) ++ digits 256 32 i.hash) → u₂ ≡ splice u (8 * w) (item_answer n i)
unfolding bytes_of
item-put {u} w n t i h e p r =
    let l = length_digits 256 8 n in
    let m = length-append (bytes_of (t ∷ [])) (digits 256 32 i.hash) in
    behind u (8 * w) (8 * (w + 1)) (digits 256 8 n) (bytes_of (t ∷ []) ++ digits 256 32 i.hash) p.bytes r (omega arith)
    (omega (arith, m, length-bytes (t ∷ []), length_digits 256 32 i.hash))
    ∙ rw (← append_assoc (digits 256 8 n) (bytes_of (t ∷ [])) (digits 256 32 i.hash), e) refl

pub three-put : {u u₁ u₂ u₃ : List ℕ} (w x y z : ℕ) → 8 * w + 24 ≤ length u → Put u u₁ w x → Put u₁ u₂ (w + 1) y → Put u₂ u₃ (w + 2) z → u₃ ≡ splice u (8 * w) (bytes_of (x ∷ y ∷ z ∷ []))
three-put {u} w x y z h p q r =
    let l = length_two x y in
    let m = length_digits 256 8 z in
    behind u (8 * w) (8 * (w + 2)) (bytes_of (x ∷ y ∷ [])) (digits 256 8 z) (two_put w x y (omega arith) p q) r.bytes (omega arith) (omega arith) ∙ ap (splice _ (8 * w)) (joined x y z)
  where
    joined : (x y z : ℕ) → bytes_of (x ∷ y ∷ []) ++ digits 256 8 z ≡ bytes_of (x ∷ y ∷ z ∷ [])
    joined x y z = unfold bytes_of in rw (append-nil (digits 256 8 y), append-nil (digits 256 8 z), append_assoc (digits 256 8 x) (digits 256 8 y) (digits 256 8 z)) refl

-- ---- an entry

pub entry-put : (u : List ℕ) {u₁ u₂ u₃ : List ℕ} (n p : ℕ) (a : Entry) → entry_bytes * n + entry_bytes ≤ length u → p ≡ one a.candidate.preferred
    → u₁ ≡ splice u (8 * (n * 14)) (key_answer a.key) → u₂ ≡ splice u₁ (8 * (n * 14 + 5)) (item_answer a.candidate.connection a.candidate.item)
    → u₃ ≡ splice u₂ (8 * (n * 14 + 11)) (bytes_of (a.candidate.ready ∷ p ∷ a.candidate.priority ∷ [])) → u₃ ≡ splice u (entry_bytes * n) (entry_answer a)
entry-put u n p a h e f g r =
    let c = a.candidate in
    let i = item_answer c.connection c.item in
    let t = bytes_of (c.ready ∷ p ∷ c.priority ∷ []) in
    let lk = length-key_answer a.key in
    let l₂ = length_two c.connection (type_of c.item.kind) in
    let lh = length_digits 256 32 c.item.hash in
    let li : length i ≡ 48 = length-append (bytes_of (c.connection ∷ type_of c.item.kind ∷ [])) (digits 256 32 c.item.hash) ∙ omega arith in
    let lt : length t ≡ 24 = length-bytes (c.ready ∷ p ∷ c.priority ∷ []) in
    let lki : length (key_answer a.key ++ i) ≡ 88 = length-append (key_answer a.key) i ∙ omega arith in
    let two = behind u (8 * (n * 14)) (8 * (n * 14 + 5)) (key_answer a.key) i f g (omega arith) (omega arith) in
    let at : 8 * (n * 14) ≡ entry_bytes * n = omega arith in
    behind u (8 * (n * 14)) (8 * (n * 14 + 11)) (key_answer a.key ++ i) t two r (omega arith) (omega arith)
    ∙ ap (λ (x : ℕ). splice u x ((key_answer a.key ++ i) ++ t)) at
    ∙ ap (splice u (entry_bytes * n))
    (append_assoc (key_answer a.key) i t ∙ ap (λ (x : List ℕ). key_answer a.key ++ x)
    (append_assoc (bytes_of (c.connection ∷ type_of c.item.kind ∷ [])) (digits 256 32 c.item.hash) t))
    ∙ rw e refl

-- ---- entries one behind the other

entries_more : (l : List Entry) (a : Entry) → entries_answer (l ++ (a ∷ [])) ≡ entries_answer l ++ entry_answer a
unfolding entries_answer
entries_more [] a = append-nil (entry_answer a)
entries_more (b ∷ l) a = ap (λ (x : List ℕ). entry_answer b ++ x) (entries_more l a) ∙ sym (append_assoc (entry_answer b) (entries_answer l) (entry_answer a))

pub written_more : (l : List Entry) (a : Entry) (u : List ℕ) → entry_bytes * length l + entry_bytes ≤ length u
    → splice (written (entries_answer l) u) (entry_bytes * length l) (entry_answer a) ≡ written (entries_answer (l ++ (a ∷ []))) u
written_more l a u h =
    let k = length-entries_answer l in
    let m = length-entry_answer a in
    ap (λ (s : List ℕ). splice s (entry_bytes * length l) (entry_answer a)) (over_front (entries_answer l) u)
    ∙ splice_more u 0 (entry_bytes * length l) (entries_answer l) (entry_answer a) (omega arith) (omega arith)
    ∙ ap (splice u 0) (sym (entries_more l a))
    ∙ sym (over_front (entries_answer (l ++ (a ∷ []))) u)

pub written_none : (u : List ℕ) → u ≡ written (entries_answer []) u
unfolding written entries_answer
written_none u = refl
