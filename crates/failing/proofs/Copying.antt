-- The parents of a place, copied one by one; and which request's they are.
use Prim.Native.Nat.{ℕ, zero, suc, ◌+◌, ◌*◌, ◌≤◌, ◌<◌}
use mathlib.Core.Path.{◌≡◌, refl, sym, ap, ◌∙◌}
use mathlib.Core.Bool.{true, false, and-false}
use mathlib.Core.List.{List, [], ◌∷◌, ◌++◌}
use native.Mathlib.Numerals.{add-one}
use native.Mathlib.Omega.{arith}
use lib.Dec.{lit<}
use lib.ListN.{length, take, drop, get_or, set}
use lib.Seq.{take-suc, take_all, set_at}
use Rattle.ident.specs.declared.Kind.{Kind}
use Rattle.ident.specs.declared.Kind.TheVariants.{Wtxid}
use Rattle.ident.specs.Number.{top, Key, wtxid}
use Rattle.ident.specs.Words.{hash_bytes}
use Rattle.words.specs.Words.{number, digits, recs, splice}
use Rattle.words.proofs.Digits.{length_digits, number_digits}
use Rattle.words.proofs.Splice.{length-splice}
use Rattle.words.proofs.Records.{length-recs, recs-add, recs-set}
use Rattle.places.specs.Places.{list_most}
use Rattle.machine.specs.State.{Request, State, owner_is}
use Rattle.machine.specs.Table.{at}
use Rattle.machine.specs.Fail.{parents_for}
use Rattle.machine.specs.Sound.{Hashes, Sound}
use Rattle.machine.proofs.Tests.{never}
use Rattle.machine.proofs.Table.{lawful_at, at_key}
use Rattle.package_stages.specs.Changes.{has_place, PlaceSpot, ReadAt}
use Rattle.package_stages.proofs.Seeking.{holding}
use Rattle.lent_lists.specs.Lists.{hashes_in}

-- the first n hashes of 32 bytes each
abbrev pub first_hashes : ℕ → List ℕ → List ℕ
first_hashes n b = recs hash_bytes (number 256) n b

-- ---- one hash more

hash_back : (h : ℕ) → h < top → number 256 (digits 256 hash_bytes h) ≡ h
unfolding top
hash_back h l = number_digits 256 (lit< tt) hash_bytes h l

one_hash : (z : List ℕ) → first_hashes 1 z ≡ number 256 (take hash_bytes z) ∷ []
unfolding recs
one_hash z = refl

pub hash_more : (u : List ℕ) (j h : ℕ) → h < top → hash_bytes * (j + 1) ≤ length u → first_hashes (j + 1) (splice u (hash_bytes * j) (digits 256 hash_bytes h)) ≡ first_hashes j u ++ (h ∷ [])
hash_more u j h small l =
    recs-set hash_bytes (number 256) (j + 1) u j (digits 256 hash_bytes h) (omega arith) l (length_digits 256 hash_bytes h)
    ∙ ap (λ (x : List ℕ). set x j (number 256 (digits 256 hash_bytes h))) (recs-add hash_bytes (number 256) j 1 u ∙ ap (λ (x : List ℕ). first_hashes j u ++ x) (one_hash (drop (hash_bytes * j) u)))
    ∙ set_at (first_hashes j u) (number 256 (take hash_bytes (drop (hash_bytes * j) u))) [] (number 256 (digits 256 hash_bytes h)) j (length-recs hash_bytes (number 256) j u)
    ∙ ap (λ (x : ℕ). first_hashes j u ++ (x ∷ [])) (hash_back h small)

hash-small : (hs : List ℕ) (j : ℕ) → Hashes hs → j < length hs → get_or hs j 0 < top
hash-small [] j a h = absurd (omega arith)
hash-small (x ∷ hs) zero a h = a.0
hash-small (x ∷ hs) (suc j) a h = hash-small hs j a.1 (omega arith)

-- ---- the loop

-- the first j of the m parents of the i-th place stand in u
pub record Copied (b : List ℕ) (i m : ℕ) (u₀ u : List ℕ) (j : ℕ) : Type 0 where
  pub most : j ≤ m
  pub long : length u ≡ length u₀
  pub front : ReadAt b i (λ q. first_hashes j u ≡ take j q.parents)

pub copied_none : (b : List ℕ) (i m : ℕ) (u : List ℕ) → Copied b i m u u 0
unfolding recs
copied_none b i m u = record { most = omega arith; long = refl; front = λ h x st s w p. refl }

pub copied_more : {b : List ℕ} {i m : ℕ} {u₀ u u' : List ℕ} {j : ℕ} (h a : ℕ) → Copied b i m u₀ u j → j < m → m ≤ list_most → hash_bytes * list_most ≤ length u₀
    → ReadAt b i (λ q. m ≡ length q.parents)
    → ReadAt b i (λ q. j < length q.parents → h ≡ get_or q.parents j 0) → a ≡ hash_bytes * j → u' ≡ splice u a (digits 256 hash_bytes h) → Copied b i m u₀ u' (j + 1)
copied_more {b} {i} {m} {u₀} {u} {u'} {j} h a c l few room count is e put = record {
  most = omega arith;
  long = ap length put ∙ length-splice u a (digits 256 hash_bytes h) (omega (arith, length_digits 256 hash_bytes h, c.long)) ∙ c.long;
  front = λ x y st s w p.
      let q = at (wtxid x) st.table in
      let n = count x y st s w p in
      let k : j < length q.parents = omega arith in
      let v = is x y st s w p k in
      let small : h < top = rw v (hash-small q.parents j (lawful_at (wtxid x) st.table s.bounded.lawful).parents.hashes k) in
      let room' : hash_bytes * (j + 1) ≤ length u = omega (arith, c.long) in
      ap (first_hashes (j + 1)) (put ∙ ap (λ (z : ℕ). splice u z (digits 256 hash_bytes h)) e)
      ∙ hash_more u j h small room'
      ∙ ap (λ (z : List ℕ). z ++ (h ∷ [])) (c.front x y st s w p)
      ∙ ap (λ (z : ℕ). take j q.parents ++ (z ∷ [])) v
      ∙ sym (rw (add-one j) (take-suc q.parents j 0 k));
}

pub copied_all : {b : List ℕ} {i m : ℕ} {u₀ u : List ℕ} {j : ℕ} → Copied b i m u₀ u j → m ≤ j → ReadAt b i (λ q. m ≡ length q.parents) → ReadAt b i (λ q. first_hashes m u ≡ q.parents)
copied_all {b} {i} {m} {u₀} {u} {j} c l count x y st s w p =
    let q = at (wtxid x) st.table in
    let e : m ≡ j = omega (arith, c.most) in
    rw e (c.front x y st s w p ∙ take_all j q.parents (omega (arith, count x y st s w p)))

-- ---- whose parents they are

pub no-hashes : hashes_in [] ≡ []
unfolding hashes_in recs
no-hashes = refl

module _ (q : Request) (n : ℕ) where
  pub others-parents : false ≡ owner_is n q.owner → hashes_in [] ≡ parents_for n q
  others-parents e = rw (sym e) no-hashes

  pub placeless : has_place q ≡ false → hashes_in [] ≡ parents_for n q
  placeless e = rw (e, and-false (owner_is n q.owner)) no-hashes

module _ (st : State) (s : Sound st) (k : Key) (small : k.hash < top) (z : has_place (at k st.table) ≡ true) where
  key-is : wtxid k.hash ≡ k
  key-is =
      let e : k.kind ≡ Wtxid = sym (ap (λ (j : Key). j.kind) (at_key k 0 st.table small s.bounded.ordered)) ∙ (holding (at k st.table) (lawful_at k st.table s.bounded.lawful) z).kind in
      ap (λ (j : Kind). record { kind = j; hash = k.hash }) (sym e)

  pub must-hold : {i : ℕ} → PlaceSpot st.table k.hash i false → ⊥
  must-hold p = never (p.held_is ∙ ap (λ (j : Key). has_place (at j st.table)) key-is ∙ z)

  pub its-parents : (n : ℕ) → true ≡ owner_is n (at k st.table).owner → {hs : List ℕ} → hs ≡ (at (wtxid k.hash) st.table).parents → hs ≡ parents_for n (at k st.table)
  its-parents n e f = rw (sym e, z) (f ∙ ap (λ (j : Key). (at j st.table).parents) key-is)
