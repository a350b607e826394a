-- An entry put into a table that has other entries behind it: it takes the place of the first of them.
use Prim.Native.Nat.{ℕ, suc, ◌+◌, ◌-◌, ◌*◌, ◌≤◌}
use mathlib.Core.Path.{◌≡◌, refl, sym, ap, ◌∙◌}
use mathlib.Core.List.{List, ◌∷◌, ◌++◌, append_assoc}
use native.Mathlib.Omega.{arith}
use lib.ListN.{length, take, drop, replicate, length-append, take-append-drop}
use lib.Seq.{length-take-le}
use Rattle.regions.specs.declared.Conn.{Conn}
use Rattle.regions.specs.Regions.{each, padded, insert_at, opened}
use Rattle.regions.specs.Rows.{conn_size, conn_words}
use Rattle.regions.proofs.Gap.{opened_at}
use Rattle.regions.proofs.Regions.{padded-fit, each_append, length_each}

length-conn : (c : Conn) → length (conn_words c) ≡ conn_size
unfolding conn_words
length-conn c = refl

long : (l : List Conn) → length (each conn_words l) ≡ conn_size * length l
long l = length_each conn_size conn_words length-conn l

each_cons : (c : Conn) (l : List Conn) → each conn_words (c ∷ l) ≡ conn_words c ++ each conn_words l
unfolding each
each_cons c l = refl

inserted_is : (q : ℕ) (x : Conn) (T : List Conn) → insert_at q x T ≡ take q T ++ (x ∷ drop q T)
unfolding insert_at
inserted_is q x T = refl

module _ (L : ℕ) (T : List Conn) (y x : Conn) (R : List Conn) (q : ℕ) (h : q ≤ length T) (fits : length T + suc (length R) ≤ L) where
  abbrev A : List ℕ
  A = each conn_words (take q T)

  abbrev B : List ℕ
  B = each conn_words (drop q T)

  abbrev E : List ℕ
  E = each conn_words R

  front : each conn_words T ≡ A ++ B
  front = sym (ap (each conn_words) (take-append-drop q T)) ∙ each_append conn_words (take q T) (drop q T)

  before : each conn_words (T ++ (y ∷ R)) ≡ A ++ (B ++ (conn_words y ++ E))
  before = each_append conn_words T (y ∷ R) ∙ ap (λ (z : List ℕ). z ++ each conn_words (y ∷ R)) front ∙ append_assoc A B (each conn_words (y ∷ R)) ∙ ap (λ (z : List ℕ). A ++ (B ++ z))
      (each_cons y R)

  after : each conn_words (insert_at q x T ++ R) ≡ A ++ (conn_words x ++ (B ++ E))
  after =
      ap (λ (z : List Conn). each conn_words (z ++ R)) (inserted_is q x T) ∙ each_append conn_words (take q T ++ (x ∷ drop q T)) R
      ∙ ap (λ (z : List ℕ). z ++ E) (each_append conn_words (take q T) (x ∷ drop q T) ∙ ap (λ (z : List ℕ). A ++ z) (each_cons x (drop q T)))
      ∙ append_assoc A (conn_words x ++ B) E ∙ ap (λ (z : List ℕ). A ++ z) (append_assoc (conn_words x) B E)

  front_long : length A ≡ conn_size * q
  front_long = long (take q T) ∙ ap (λ (n : ℕ). conn_size * n) (length-take-le q T h)

  both_long : length A + length B ≡ conn_size * length T
  both_long = sym (length-append A B) ∙ sym (ap length front) ∙ long T

  before-long : length (each conn_words (T ++ (y ∷ R))) ≡ conn_size * (length T + suc (length R))
  before-long = long (T ++ (y ∷ R)) ∙ ap (λ (n : ℕ). conn_size * n) (length-append T (y ∷ R))

  after-long : length (each conn_words (insert_at q x T ++ R)) ≡ conn_size * (length T + suc (length R))
  after-long =
      let lx = length-conn x in
      let le = long R in
      let a : length (A ++ (conn_words x ++ (B ++ E))) ≡ length A + (length (conn_words x) + (length B + length E)) = simp length-append in
      ap length after ∙ a ∙ omega (arith, both_long)

  pub opened-entries : opened (conn_size * q) (conn_size * length T) (conn_words x) (padded (conn_size * L) (each conn_words (T ++ (y ∷ R)))) ≡ padded (conn_size * L) (each conn_words
      (insert_at q x T ++ R))
  opened-entries =
      let n : ℕ = conn_size * L in
      let z : List ℕ = replicate (n - conn_size * (length T + suc (length R))) 0 in
      let b : padded n (each conn_words (T ++ (y ∷ R))) ≡ A ++ (B ++ (conn_words y ++ (E ++ z))) =
      padded-fit n (each conn_words (T ++ (y ∷ R))) (omega (arith, before-long)) ∙ rw (before-long, before) (simp append_assoc) in
      let a : padded n (each conn_words (insert_at q x T ++ R)) ≡ A ++ (conn_words x ++ (B ++ (E ++ z))) =
      padded-fit n (each conn_words (insert_at q x T ++ R)) (omega (arith, after-long)) ∙ rw (after-long, after) (simp append_assoc) in
      rw (b, a, ← front_long, ← both_long) (opened_at A B (conn_words y) (E ++ z) (conn_words x) (length-conn y ∙ sym (length-conn x)))
