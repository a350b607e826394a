-- Keys listed behind a key, and the answer of failed_with_parents.
use Prim.Native.Nat.{ℕ, ◌+◌, ◌-◌, ◌*◌, ◌/◌, ◌≤◌, ◌<◌}
use mathlib.Core.Path.{◌≡◌, refl, sym, ap, subst, ◌∙◌}
use mathlib.Core.Bool.{Bool, true, false}
use mathlib.Core.List.{List, [], ◌∷◌, ◌++◌, append_assoc, append-nil}
use native.Mathlib.Omega.{arith}
use lib.ListN.{length, take, drop, length-append, length-drop, drop_of_length-le}
use lib.Seq.{take_at, drop_at, take_all, drop-drop, length-take-le}
use Rattle.ident.specs.Number.{top, Key}
use Rattle.ident.specs.Words.{hash_bytes}
use Rattle.words.specs.Words.{number, splice}
use Rattle.words.proofs.Records.{length-recs, recs-take}
use Rattle.machine.specs.Limits.{Limits, word, max_parents}
use Rattle.machine.specs.State.{State, Table, on_table, limits_of}
use Rattle.machine.specs.Table.{at}
use Rattle.machine.specs.Call.{key_bytes}
use Rattle.machine.specs.Step.{key_answer, keys_answer, written}
use Rattle.machine.specs.Fail.{Listed, failed, announce_parents, parents_for}
use Rattle.machine.specs.Package.{listed_after, failed_with_parents}
use Rattle.machine.specs.Sound.{Sound}
use Rattle.machine.proofs.Fail.{bounded-failed}
use Rattle.machine.proofs.Kept.{sound-table}
use Rattle.machine.proofs.AnswerLengths.{length-key_answer}
use Rattle.store.specs.Image.{Writes}
use Rattle.store.specs.Shown.{Kept}
use Rattle.lent_lists.specs.Lists.{hashes_in}
use Rattle.lent_lists.proofs.Answer.{written_none}
use Rattle.requests.specs.Changes.{Tells}
use Rattle.announcing.specs.Answers.{Answered, KeysListed}
use Rattle.failing.specs.Changes.{led}
use Rattle.failing.proofs.Copying.{first_hashes}

-- ---- a key before the others

-- x is written over the front of u, and a behind it
pub behind_front : (x a u : List ℕ) (n : ℕ) → length x ≡ n → take n (x ++ drop n u) ++ (written a (drop n (x ++ drop n u)) ++ []) ≡ written (x ++ a) u
unfolding written
behind_front x a u n l =
    let e : length (x ++ a) ≡ n + length a = length-append x a ∙ ap (λ (m : ℕ). m + length a) l in
    rw (take_at x (drop n u) n l, drop_at x (drop n u) n l, append-nil, drop-drop (length a) n u, e, append_assoc x a (drop (n + length a) u))

key_first : (u : List ℕ) (k : Key) → splice u (key_bytes * 0) (key_answer k) ≡ key_answer k ++ drop key_bytes u
unfolding splice
key_first u k = rw (length-key_answer k)

more_keys : (k : Key) (ks : List Key) → key_answer k ++ keys_answer ks ≡ keys_answer (k ∷ ks)
unfolding keys_answer
more_keys k ks = refl

module _ (u u₁ : List ℕ) (k : Key) (y : ℕ) (e : u₁ ≡ splice u (key_bytes * 0) (key_answer k)) (end : y ≡ length u₁) where
  whole : take (y - key_bytes) (drop key_bytes u₁) ≡ drop key_bytes u₁
  whole = take_all (y - key_bytes) (drop key_bytes u₁) (simp length-drop (omega arith))

  nothing_left : drop (y - key_bytes) (drop key_bytes u₁) ≡ []
  nothing_left = drop_of_length-le (drop key_bytes u₁) {i = y - key_bytes} (simp length-drop (omega arith))

  -- what is lent of the buffer, and comes back as v
  behind-keys : (ks : List Key) {v : List ℕ} → v ≡ written (keys_answer ks) (take (y - key_bytes) (drop key_bytes u₁))
      → take key_bytes u₁ ++ (v ++ drop (y - key_bytes) (drop key_bytes u₁)) ≡ written (keys_answer (k ∷ ks)) u
  behind-keys ks {v} x =
      ap (λ (z : List ℕ). take key_bytes u₁ ++ (z ++ drop (y - key_bytes) (drop key_bytes u₁))) (x ∙ ap (written (keys_answer ks)) whole)
      ∙ ap (λ (z : List ℕ). take key_bytes u₁ ++ (written (keys_answer ks) (drop key_bytes u₁) ++ z)) nothing_left
      ∙ ap (λ (z : List ℕ). take key_bytes z ++ (written (keys_answer ks) (drop key_bytes z) ++ [])) (e ∙ key_first u k)
      ∙ behind_front (key_answer k) (keys_answer ks) u key_bytes (length-key_answer k)
      ∙ ap (λ (z : List ℕ). written z u) (more_keys k ks)

  pub listed-behind : {b b' v : List ℕ} {c : ℕ} (f : Limits → Table → Listed) → KeysListed b b' (take (y - key_bytes) (drop key_bytes u₁)) v c f
      → KeysListed b b' u (take key_bytes u₁ ++ (v ++ drop (y - key_bytes) (drop key_bytes u₁))) (c + 1) (λ m t. led k (f m t))
  listed-behind f l = record { count = λ st s w. omega (arith, l.count st s w); keys = λ st s w. behind-keys (f (limits_of st) st.table).keys (l.keys st s w); table = l.table }

-- ---- the hashes of a list's front

pub hashes_first : (list : List ℕ) (m a : ℕ) → a ≡ m * hash_bytes → hash_bytes * m ≤ length list → hashes_in (take a list) ≡ first_hashes m list
unfolding hashes_in
hashes_first list m a q h =
    let e : a ≡ hash_bytes * m = omega arith in
    let l : length (take (hash_bytes * m) list) ≡ hash_bytes * m = length-take-le (hash_bytes * m) list h in
    let d : length (take (hash_bytes * m) list) / hash_bytes ≡ m = omega arith in
    rw (e, d) (recs-take hash_bytes (number 256) m list h)

pub hashes_few : (list : List ℕ) (m a : ℕ) → a ≡ m * hash_bytes → hash_bytes * m ≤ length list → length (hashes_in (take a list)) ≡ m
hashes_few list m a q h = ap length (hashes_first list m a q h) ∙ length-recs hash_bytes (number 256) m list

module _ (list : List ℕ) (m a : ℕ) (q : a ≡ m * hash_bytes) (few : m ≤ max_parents) (room : hash_bytes * max_parents ≤ length list) where
  pub few_first : length (hashes_in (take a list)) ≤ max_parents
  few_first = omega (arith, hashes_few list m a q (omega arith))

  pub first_are : (hs : List ℕ) → first_hashes m list ≡ hs → hashes_in (take a list) ≡ hs
  first_are hs e = hashes_first list m a q (omega arith) ∙ e

-- ---- failed_with_parents

pub nothing-handed : {b b₁ : List ℕ} {r : Bool} (k : Key) (n v : ℕ) (u : List ℕ) → r ≡ false → Answered b b₁ r (λ m t. failed k n v t) → KeysListed b b₁ u u 0 (λ m t. failed_with_parents m k n v t)
unfolding failed_with_parents listed_after
nothing-handed {b} {b₁} k n v u e a = record {
  count = λ st s w. rw (sym (a.reply st s w) ∙ e);
  keys = λ st s w. rw (sym (a.reply st s w) ∙ e) (written_none u);
  table = λ st s w. rw (sym (a.reply st s w) ∙ e) (a.table st s w);
}

module _ {b b₁ : List ℕ} {r : Bool} (k : Key) (small : k.hash < top) (n v : ℕ) (late : v < word) (e : r ≡ true) (a : Answered b b₁ r (λ m t. failed k n v t)) where
  abbrev after : State → State
  after st = on_table (failed k n v st.table).table st

  after-sound : (st : State) → Sound st → Sound (after st)
  after-sound st s = sound-table s (bounded-failed k n v small late s.bounded)

  pub failed_kept : Kept b → Kept b₁
  failed_kept p = record { state = after p.state; sound = after-sound p.state p.sound; writes = a.table p.state p.sound p.writes }

  answer_is : (hs : List ℕ) → Tells b (λ t. hs ≡ parents_for n (at k t)) → (st : State) → Sound st → Writes b st
      → led k (announce_parents (limits_of st) n v hs (failed k n v st.table).table) ≡ failed_with_parents (limits_of st) k n v st.table
  unfolding failed_with_parents listed_after
  answer_is hs h st s w = rw (sym (a.reply st s w) ∙ e) (ap (λ (x : List ℕ). led k (announce_parents (limits_of st) n v x (failed k n v st.table).table)) (h st s w))

  pub handed : {b₂ u u₂ : List ℕ} {c : ℕ} (hs : List ℕ) → Tells b (λ t. hs ≡ parents_for n (at k t)) → KeysListed b₁ b₂ u u₂ c (λ m t. led k (announce_parents m n v hs t))
      → KeysListed b b₂ u u₂ c (λ m t. failed_with_parents m k n v t)
  handed {b₂} {u} {u₂} {c} hs h l = record {
    count = λ st s w. l.count (after st) (after-sound st s) (a.table st s w) ∙ ap (λ (x : Listed). length x.keys) (answer_is hs h st s w);
    keys = λ st s w. l.keys (after st) (after-sound st s) (a.table st s w) ∙ ap (λ (x : Listed). written (keys_answer x.keys) u) (answer_is hs h st s w);
    table = λ st s w. subst (λ (x : Listed). Writes b₂ (on_table x.table st)) (answer_is hs h st s w) (l.table (after st) (after-sound st s) (a.table st s w));
  }
