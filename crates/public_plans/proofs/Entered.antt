-- Entries that a call wrote to its answer buffer, read back; and what the entries of lent bytes are: of their widths.
use Prim.Native.Nat.{ℕ, zero, suc, ◌+◌, ◌*◌, ◌/◌, ◌%◌, ◌^◌, ◌≤◌, ◌<◌}
use mathlib.Core.Path.{◌≡◌, refl, sym, ap, ◌∙◌}
use mathlib.Core.Bool.{Bool, true, false, not}
use mathlib.Core.List.{List, [], ◌∷◌, ◌++◌, append_assoc, append-nil}
use native.Mathlib.Omega.{arith}
use lib.Dec.{eqb, lit<}
use lib.ListN.{length, take, drop, get_or, length-append, length-drop}
use lib.Seq.{take_at, drop_at, drop-drop, length-take-le}
use Rattle.ident.specs.declared.Kind.{Kind}
use Rattle.ident.specs.declared.Kind.TheVariants.{Txid, Wtxid}
use Rattle.ident.specs.declared.ItemKind.{ItemKind}
use Rattle.std.specs.Prelude.{if◌then◌else◌}
use Rattle.ident.specs.Number.{top, type_of, item_kind_of, is_plain}
use Rattle.ident.proofs.TypeNumbers.{kind-plain, type-kind, kind-type}
use Rattle.words.specs.Words.{number, digits, words, bytes_of}
use Rattle.words.proofs.Digits.{length_digits, number_digits, number_below}
use Rattle.words.proofs.Words.{word_at}
use Rattle.machine.specs.Limits.{word, request_lifetime}
use Rattle.machine.specs.State.{Entry, Table, owned_until}
use Rattle.machine.specs.Table.{one, change}
use Rattle.machine.specs.Claim.{takes, claim}
use Rattle.machine.specs.Typed.{Each, EntryTyped}
use Rattle.machine.specs.Call.{entry_bytes}
use Rattle.machine.specs.Step.{kind_number, entry_answer, entries_answer, written}
use Rattle.machine.proofs.Tests.{by_test}
use Rattle.machine.proofs.AnswerLengths.{length-entry_answer}
use Rattle.store.specs.Image.{Bytes}
use Rattle.store.specs.Gather.{kind_is}
use Rattle.store.proofs.BytesBack.{bytes_take, bytes_drop}
use Rattle.claiming.specs.Claiming.{hash_from, entry_from, entries_from, entries_in}
pub use Rattle.sending.proofs.Ordering.{length_from}

-- an entry that bytes can hold
pub record Whole (a : Entry) : Type 0 where
  pub typed : EntryTyped a
  pub plain : is_plain a.candidate.item.kind ≡ true
  pub short : type_of a.candidate.item.kind < 4294967296

-- ---- one piece behind another

abbrev joined : List (List ℕ) → List ℕ → List ℕ
joined [] w = w
joined (x ∷ xs) w = x ++ joined xs w

-- from the byte i on there stand these pieces, and then w
record Stands (b : List ℕ) (i : ℕ) (xs : List (List ℕ)) (w : List ℕ) : Type 0 where
  is : drop i b ≡ joined xs w

module _ (b : List ℕ) where
  behind : {i : ℕ} {x : List ℕ} {xs : List (List ℕ)} {w : List ℕ} → Stands b i (x ∷ xs) w → (n : ℕ) → length x ≡ n → Stands b (i + n) xs w
  behind {i} {x} {xs} {w} e n l = record { is = sym (drop-drop n i b) ∙ ap (drop n) e.is ∙ drop_at x (joined xs w) n l }

  word_in : (j v : ℕ) {i : ℕ} {xs : List (List ℕ)} {w : List ℕ} → Stands b i (digits 256 8 v ∷ xs) w → i ≡ 8 * j → v < word → get_or (words b) j 0 ≡ v
  word_in j v {i} {xs} {w} e q l =
      let r = joined xs w in
      let d : drop (8 * j) b ≡ digits 256 8 v ++ r = ap (λ (k : ℕ). drop k b) (sym q) ∙ e.is in
      let long = sym (length-drop (8 * j) b) ∙ ap length d ∙ length-append (digits 256 8 v) r in
      word_at b j (omega (arith, long, length_digits 256 8 v)) ∙ ap (λ (x : List ℕ). number 256 (take 8 x)) d ∙ ap (number 256) (take_at (digits 256 8 v) r 8 (length_digits 256 8 v))
      ∙ number_digits 256 (lit< tt) 8 v l

  hash-in : (j h : ℕ) {i : ℕ} {xs : List (List ℕ)} {w : List ℕ} → Stands b i (digits 256 32 h ∷ xs) w → i ≡ j * 8 → h < top → hash_from b j ≡ h
  unfolding top
  hash-in j h {i} {xs} {w} e q l =
      let r = joined xs w in
      ap (λ (k : ℕ). number 256 (take 32 (drop k b))) (sym q) ∙ ap (λ (x : List ℕ). number 256 (take 32 x)) e.is ∙ ap (number 256) (take_at (digits 256 32 h) r 32 (length_digits 256 32 h))
      ∙ number_digits 256 (lit< tt) 32 h l

-- ---- its fields

kind_back : (k : Kind) → kind_is (kind_number k) ≡ k
kind_back Txid = refl
kind_back Wtxid = refl

kind-small : (k : Kind) → kind_number k < word
kind-small Txid = lit< tt
kind-small Wtxid = lit< tt

bit_back : (p : Bool) → not (eqb (one p) 0) ≡ p
bit_back true = refl
bit_back false = refl

bit-small : (p : Bool) → one p < word
bit-small true = lit< tt
bit-small false = lit< tt

item_back : (k : ItemKind) → is_plain k ≡ true → type_of k < 4294967296 → item_kind_of (type_of k % 4294967296) ≡ k
item_back k p l = let e : type_of k % 4294967296 ≡ type_of k = omega (arith, l) in ap item_kind_of e ∙ kind-type k p

-- the eight pieces of an entry's bytes
abbrev pieces : Entry → List (List ℕ)
pieces a =
    digits 256 8 (kind_number a.key.kind) ∷ digits 256 32 a.key.hash ∷ digits 256 8 a.candidate.connection ∷ digits 256 8 (type_of a.candidate.item.kind)
    ∷ digits 256 32 a.candidate.item.hash ∷ digits 256 8 a.candidate.ready ∷ digits 256 8 (one a.candidate.preferred) ∷ digits 256 8 a.candidate.priority ∷ []

in_pieces : (a : Entry) (w : List ℕ) → entry_answer a ++ w ≡ joined (pieces a) w
unfolding bytes_of
in_pieces a w = simp (append_assoc, append-nil)

entry-stands : (b : List ℕ) (i : ℕ) (a : Entry) (w : List ℕ) → drop (entry_bytes * i) b ≡ entry_answer a ++ w → Stands b (entry_bytes * i) (pieces a) w
entry-stands b i a w e = record { is = e ∙ in_pieces a w }

entry_back : (b : List ℕ) (i : ℕ) (a : Entry) (w : List ℕ) → drop (entry_bytes * i) b ≡ entry_answer a ++ w → Whole a → entry_from b i ≡ a
unfolding entry_from
entry_back b i a w e g =
    let c = a.candidate in
    let t = g.typed in
    let d₀ = entry-stands b i a w e in
    let d₁ = behind b d₀ 8 (length_digits 256 8 (kind_number a.key.kind)) in
    let d₂ = behind b d₁ 32 (length_digits 256 32 a.key.hash) in
    let d₃ = behind b d₂ 8 (length_digits 256 8 c.connection) in
    let d₄ = behind b d₃ 8 (length_digits 256 8 (type_of c.item.kind)) in
    let d₅ = behind b d₄ 32 (length_digits 256 32 c.item.hash) in
    let d₆ = behind b d₅ 8 (length_digits 256 8 c.ready) in
    let d₇ = behind b d₆ 8 (length_digits 256 8 (one c.preferred)) in
    let small : type_of c.item.kind < word = omega (arith, g.short) in
    let kind = ap kind_is (word_in b (i * 14) (kind_number a.key.kind) d₀ (omega arith) (kind-small a.key.kind)) ∙ kind_back a.key.kind in
    let hash = hash-in b (i * 14 + 1) a.key.hash d₁ (omega arith) t.hash in
    let connection = word_in b (i * 14 + 5) c.connection d₂ (omega arith) t.candidate.connection in
    let type = ap (λ (x : ℕ). item_kind_of (x % 4294967296)) (word_in b (i * 14 + 6) (type_of c.item.kind) d₃ (omega arith) small) ∙ item_back c.item.kind g.plain g.short in
    let item = hash-in b (i * 14 + 6 + 1) c.item.hash d₄ (omega arith) t.candidate.hash in
    let ready = word_in b (i * 14 + 11) c.ready d₅ (omega arith) t.candidate.ready in
    let preferred = ap (λ (x : ℕ). not (eqb x 0)) (word_in b (i * 14 + 12) (one c.preferred) d₆ (omega arith) (bit-small c.preferred)) ∙ bit_back c.preferred in
    let priority = word_in b (i * 14 + 13) c.priority d₇ (omega arith) t.candidate.priority in
    λ j. record {
      key = record { kind = kind j; hash = hash j };
      candidate = record { connection = connection j; item = record { kind = type j; hash = item j }; ready = ready j; preferred = preferred j; priority = priority j };
    }

front_back : (b : List ℕ) (i : ℕ) (l : List Entry) (w : List ℕ) → drop (entry_bytes * i) b ≡ entries_answer l ++ w → Each Whole l → entries_from b i (length l) ≡ l
unfolding entries_from entries_answer
front_back b i [] w e g = refl
front_back b i (a ∷ l) w e g =
    let d : drop (entry_bytes * i) b ≡ entry_answer a ++ (entries_answer l ++ w) = e ∙ append_assoc (entry_answer a) (entries_answer l) w in
    let first : Stands b (entry_bytes * i) (entry_answer a ∷ []) (entries_answer l ++ w) = record { is = d } in
    let next : entry_bytes * (i + 1) ≡ entry_bytes * i + entry_bytes = omega arith in
    let rest : drop (entry_bytes * (i + 1)) b ≡ entries_answer l ++ w = ap (λ (k : ℕ). drop k b) next ∙ (behind b first entry_bytes (length-entry_answer a)).is in
    λ j. entry_back b i a (entries_answer l ++ w) d g.0 j ∷ front_back b (i + 1) l w rest g.1 j

-- the entries that a call wrote over the first bytes of the buffer u
pub entries_back : (l : List Entry) (u : List ℕ) → Each Whole l → entries_from (written (entries_answer l) u) 0 (length l) ≡ l
unfolding written
entries_back l u g = front_back (entries_answer l ++ drop (length (entries_answer l)) u) 0 l (drop (length (entries_answer l)) u) refl g

-- ---- entries of lent bytes

module _ (b : List ℕ) (p : Bytes b) where
  part_below : (n i : ℕ) → i + n ≤ length b → number 256 (take n (drop i b)) < 256 ^ n
  part_below n i h =
      let l : length (take n (drop i b)) ≡ n = length-take-le n (drop i b) (simp length-drop (omega arith)) in
      rw l at (number_below 256 (take n (drop i b)) (λ k g. bytes_take n (drop i b) (bytes_drop i b p) k))

  pub word_small : (j : ℕ) → 8 * j + 8 ≤ length b → get_or (words b) j 0 < word
  word_small j h = rw (word_at b j h) (part_below 8 (8 * j) h)

  hash-small : (j : ℕ) → j * 8 + 32 ≤ length b → hash_from b j < top
  unfolding top
  hash-small j h = part_below 32 (j * 8) h

  entry_whole : (i : ℕ) → entry_bytes * i + entry_bytes ≤ length b → Whole (entry_from b i)
  unfolding entry_from
  entry_whole i h =
      let x = get_or (words b) (i * 14 + 6) 0 % 4294967296 in
      record {
        typed = record {
          hash = hash-small (i * 14 + 1) (omega arith);
          candidate = record {
            connection = word_small (i * 14 + 5) (omega arith);
            hash = hash-small (i * 14 + 6 + 1) (omega arith);
            ready = word_small (i * 14 + 11) (omega arith);
            priority = word_small (i * 14 + 13) (omega arith);
          };
        };
        plain = kind-plain x;
        short = rw (type-kind x) (omega arith);
      }

  from_whole : (n i : ℕ) → entry_bytes * (i + n) ≤ length b → Each Whole (entries_from b i n)
  unfolding entries_from
  from_whole zero i h = tt
  from_whole (suc n) i h = (entry_whole i (omega arith), from_whole n (i + 1) (omega arith))

  pub entries_whole : Each Whole (entries_in b)
  entries_whole = from_whole (length b / entry_bytes) 0 (omega arith)

pub whole_typed : (l : List Entry) → Each Whole l → Each EntryTyped l
whole_typed [] g = tt
whole_typed (a ∷ l) g = (g.0.typed, whole_typed l g.1)

-- how many they are
pub length-entries : (b : List ℕ) → length (entries_in b) ≡ length b / entry_bytes
length-entries b = length_from b 0 (length b / entry_bytes)

-- a claim takes some of them
pub claim_whole : (now : ℕ) (l : List Entry) (t : Table) → Each Whole l → Each Whole (claim now l t).entries
unfolding claim
claim_whole now [] t g = tt
claim_whole now (a ∷ l) t g =
    let t' = if takes now a t then change a.key (owned_until a.candidate.connection (now + request_lifetime)) t else t in
    let rest = claim_whole now l t' g.1 in
    by_test (Each Whole) (takes now a t) (λ e. (g.0, rest)) (λ e. rest)
