-- How long the answers are: bytes of keys and entries, and the lists of sweep, claim, Sending and announce_parents.
use Prim.Native.Nat.{ℕ, suc, ◌+◌, ◌*◌, ◌≤◌, min}
use mathlib.Core.Path.{◌≡◌, refl, ap, ◌∙◌}
use mathlib.Core.Logic.{inl, inr}
use mathlib.Core.Bool.{true, ◌&&◌, ◌||◌}
use mathlib.Core.List.{List, [], ◌∷◌, map}
use mathlib.Core.Option.{Option, none, some}
use native.Mathlib.Omega.{arith}
use lib.Dec.{ltb, leb}
use lib.ListN.{length, length-append, length-take, length-map}
use borrow.Author.Tests.{ltb-true, ltb-false, le-leb, lt-leb}
use Rattle.std.specs.Prelude.{if◌then◌else◌}
use Rattle.ident.specs.Number.{Key, place, txid}
use Rattle.words.proofs.Digits.{length_digits}
use Rattle.words.proofs.Words.{length-bytes as length-bytes_of}
use Rattle.machine.specs.Limits.{Limits, max_known_checks, max_parents, request_lifetime}
use Rattle.machine.specs.State.{Candidate, Request, Table, Entry, Answer, owner_is, is_some, owned_until}
use Rattle.machine.specs.Table.{change, keys, count_in, total, held}
use Rattle.machine.specs.Announce.{request_parent_at}
use Rattle.machine.specs.Fail.{Listed, dedup, parent_of, mark, parents_from, announce_parents, parents_for}
use Rattle.machine.specs.Package.{listed_after}
use Rattle.machine.specs.Sweep.{only, round, handed}
use Rattle.machine.specs.Plan.{insert_by_priority, sort_by_priority}
use Rattle.machine.specs.Claim.{takes, claim, for_witness, insert_by_connection, sort_by_connection, arrange}
use Rattle.machine.specs.Call.{key_bytes, entry_bytes}
use Rattle.machine.specs.Step.{key_answer, candidate_answer, entry_answer, keys_answer, entries_answer}
use Rattle.machine.specs.Sound.{All, Filled, Lawful}
use Rattle.machine.proofs.Tests.{test, by_test}
use Rattle.machine.proofs.Fail.{length-dedup}

-- ---- bytes

pub length-key_answer : (k : Key) → length (key_answer k) ≡ key_bytes
length-key_answer k = simp (length-append, length-bytes_of, length_digits)

length-candidate_answer : (c : Candidate) → length (candidate_answer c) + key_bytes ≡ entry_bytes
length-candidate_answer c = simp (length-append, length_digits, length-bytes_of)

pub length-entry_answer : (a : Entry) → length (entry_answer a) ≡ entry_bytes
length-entry_answer a = omega (arith, length-append (key_answer a.key) (candidate_answer a.candidate), length-key_answer a.key, length-candidate_answer a.candidate)

pub length-keys_answer : (ks : List Key) → length (keys_answer ks) ≡ key_bytes * length ks
unfolding keys_answer
length-keys_answer [] = refl
length-keys_answer (k ∷ ks) = omega (arith, length-append (key_answer k) (keys_answer ks), length-key_answer k, length-keys_answer ks)

pub length-entries_answer : (l : List Entry) → length (entries_answer l) ≡ entry_bytes * length l
unfolding entries_answer
length-entries_answer [] = refl
length-entries_answer (a ∷ l) = omega (arith, length-append (entry_answer a) (entries_answer l), length-entry_answer a, length-entries_answer l)

-- ---- keys of a table, and sweep

pub length-count_in : (cs : List Candidate) → count_in (λ n. true) cs ≡ length cs
unfolding count_in
length-count_in [] = refl
length-count_in (c ∷ cs) = omega (arith, length-count_in cs)

-- each request has a candidate
pub keys_held : (t : Table) → All Filled t → length (keys t) ≤ held t
unfolding keys total
keys_held [] f = omega arith
keys_held (r ∷ t) f = omega (arith, f.0, length-count_in r.candidates, keys_held t f.1)

-- the keys after a cursor and those up to it are all
length-parted : (c : ℕ) (ks : List Key) → length (only (λ n. ltb c n) ks) + length (only (λ n. leb n c) ks) ≡ length ks
unfolding only
length-parted c [] = refl
length-parted c (k ∷ ks) =
    elim (test (ltb c (place k))) [
      | inl e ↦ rw (e, lt-leb (place k) c (ltb-true c (place k) e)) (omega (arith, length-parted c ks))
      | inr e ↦ rw (e, le-leb (place k) c (ltb-false c (place k) e)) (omega (arith, length-parted c ks))
    ]

pub length-round : (c : Option Key) (ks : List Key) → length (round c ks) ≡ length ks
unfolding round
length-round none ks = refl
length-round (some c) ks = length-append (only (λ n. ltb (place c) n) ks) (only (λ n. leb n (place c)) ks) ∙ length-parted (place c) ks

pub length-handed : (c : Option Key) (ks : List Key) → length (handed c ks) ≡ min max_known_checks (length ks)
unfolding handed
length-handed c ks = length-take max_known_checks (round c ks) ∙ ap (λ n. min max_known_checks n) (length-round c ks)

-- ---- sorting, claim, Sending

length-insert_by_priority : (a : Entry) (l : List Entry) → length (insert_by_priority a l) ≡ suc (length l)
unfolding insert_by_priority
length-insert_by_priority a [] = refl
length-insert_by_priority a (b ∷ l) = elim (test (leb a.candidate.priority b.candidate.priority)) [ inl e ↦ rw e | inr e ↦ rw e (ap suc (length-insert_by_priority a l)) ]

pub length-sort_by_priority : (l : List Entry) → length (sort_by_priority l) ≡ length l
unfolding sort_by_priority
length-sort_by_priority [] = refl
length-sort_by_priority (a ∷ l) = length-insert_by_priority a (sort_by_priority l) ∙ ap suc (length-sort_by_priority l)

length-insert_by_connection : (a : Entry) (l : List Entry) → length (insert_by_connection a l) ≡ suc (length l)
unfolding insert_by_connection
length-insert_by_connection a [] = refl
length-insert_by_connection a (b ∷ l) = elim (test (leb a.candidate.connection b.candidate.connection)) [ inl e ↦ rw e | inr e ↦ rw e (ap suc (length-insert_by_connection a l)) ]

pub length-sort_by_connection : (l : List Entry) → length (sort_by_connection l) ≡ length l
unfolding sort_by_connection
length-sort_by_connection [] = refl
length-sort_by_connection (a ∷ l) = length-insert_by_connection a (sort_by_connection l) ∙ ap suc (length-sort_by_connection l)

pub length-arrange : (ws : List ℕ) (l : List Entry) (t : Table) → length (arrange ws l t) ≡ length l
unfolding arrange
length-arrange ws l t = length-sort_by_connection (map (for_witness ws t) l) ∙ length-map l (for_witness ws t)

pub length-claim : (now : ℕ) (l : List Entry) (t : Table) → length (claim now l t).entries ≤ length l
unfolding claim
length-claim now [] t = omega arith
length-claim now (a ∷ l) t =
    let t' = if takes now a t then change a.key (owned_until a.candidate.connection (now + request_lifetime)) t else t in
    by_test (λ (x : List Entry). length x ≤ suc (length l)) (takes now a t) (λ e. omega (arith, length-claim now l t')) (λ e. omega (arith, length-claim now l t'))

-- ---- announce_parents, and a key with its parents

length-parents_from : (m : Limits) (n now i : ℕ) (hs : List ℕ) (t : Table) → length (parents_from m n now i hs t).keys ≤ length hs
unfolding parents_from
length-parents_from m n now i [] t = omega arith
length-parents_from m n now i (h ∷ hs) t =
    let a = request_parent_at m (txid h) (parent_of n now h i) t in
    let t' = if a.reply then mark (txid h) a.table else a.table in
    by_test (λ (x : List Key). length x ≤ suc (length hs)) a.reply (λ e. omega (arith, length-parents_from m n now (suc i) hs t')) (λ e. omega (arith, length-parents_from m n now (suc i) hs t'))

pub length-announce_parents : (m : Limits) (n now : ℕ) (hs : List ℕ) (t : Table) → length (announce_parents m n now hs t).keys ≤ length hs
unfolding announce_parents
length-announce_parents m n now hs t = omega (arith, length-parents_from m n now 0 (dedup hs) t, length-dedup hs)

pub length-listed_after : (m : Limits) (k : Key) (n now : ℕ) (hs : List ℕ) (a : Answer) → length (listed_after m k n now hs a).keys ≤ suc (length hs)
unfolding listed_after
length-listed_after m k n now hs a =
    by_test (λ (x : Listed). length x.keys ≤ suc (length hs)) a.reply (λ e. omega (arith, length-announce_parents m n now hs a.table)) (λ e. omega arith)

pub length-parents_for : (n : ℕ) (r : Request) → Lawful r → length (parents_for n r) ≤ max_parents
length-parents_for n r l =
    by_test (λ (x : List ℕ). length x ≤ max_parents) (owner_is n r.owner && (r.info || is_some r.«package»)) (λ e. l.parents.few) (λ e. omega arith)
