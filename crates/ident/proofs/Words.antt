-- What the number of a hash says of its words: it is below `top`, and it decides them.
use mathlib.Core.Path.{◌≡◌, refl, sym, ◌∙◌, ap}
use mathlib.Core.Bool.{Bool, true, false}
use lib.Dec.{eqb}
use borrow.Author.Tests.{eqb-true, eqb-false}
use Rattle.std.specs.Prelude.{nat_eq}
use Rattle.std.specs.Cmp.Lexicographic.{pointwise, same_text, other_text}
use Prim.Native.Nat.{ℕ, zero, suc, ◌<◌, ◌^◌}
use mathlib.Core.List.{List, [], ◌∷◌}
use lib.Dec.{lit<}
use lib.ListN.{length, get_or}
use mir.Val.{Val}
use denote.Array.{each}
use denote.Builtin.{u64}
use denote.Laws.{Is}
use denote.Shadow.{shadow}
use denote.Struct.Laws as LL
use Rattle.ident.specs.declared.Kind.{Kind}
use Rattle.ident.specs.declared.Hash.{Hash}
use Rattle.ident.specs.declared.Key.{Key}
use Rattle.ident.specs.Number as N
use Rattle.ident.specs.Number.{top}
use Rattle.ident.specs.Words.{hash_num, key_num}
use Rattle.ident.specs.contracts.Hash as T
use Rattle.ident.proofs.Hash.TheLaws as T'
use Rattle.ident.specs.contracts.Key as K
use Rattle.ident.proofs.Key.TheLaws as K'
use Rattle.words.specs.Words.{number, digits}
use Rattle.words.proofs.Digits.{number_below, digits_number}

-- ---- a value of the declared type has four words of 64 bits

pub record Four (h : Hash) : Type 0 where
  pub four : length h.words ≡ 4
  pub fits : (k : ℕ) → get_or h.words k 0 < 2 ^ 64

each_fits : (xs : List ℕ) (us : List Val) → shadow (each ℕ u64.own_val xs us) → (k : ℕ) → get_or xs k 0 < 2 ^ 64
each_fits [] [] s k = lit< tt
each_fits [] (u ∷ us) s k = absurd s
each_fits (x ∷ xs) [] s k = absurd s
each_fits (x ∷ xs) (u ∷ us) s zero = s.0.1
each_fits (x ∷ xs) (u ∷ us) s (suc k) = each_fits xs us s.1 k

pub hash-four : (h : Hash) → Is T.the_row h (LL.vals T.the_type T'.the_laws h) → Four h
hash-four h g = let f = (LL.owed T.the_type T'.the_laws h _ g).0 in record { four = f.1.0.1; fits = each_fits h.words f.0 f.1.1 }

pub key-four : (k : Key) → Is K.the_row k (LL.vals K.the_type K'.the_laws k) → Four k.hash
key-four k g = hash-four k.hash (LL.owed K.the_type K'.the_laws k _ g).1.0

-- ---- the number of a hash

pub hash_below : (h : Hash) → Four h → hash_num h < top
unfolding top
hash_below h f = rw f.four at (number_below (2 ^ 64) h.words (λ i _. f.fits i))

-- hashes of one number are one hash
pub hash_same : (a b : Hash) → Four a → Four b → hash_num a ≡ hash_num b → a ≡ b
hash_same a b f g e = ap (λ (w : List ℕ). record { words = w }) (sym (again a f) ∙ ap (digits (2 ^ 64) 4) e ∙ again b g)
  where
    again : (h : Hash) → Four h → digits (2 ^ 64) 4 (hash_num h) ≡ h.words
    again h f = rw f.four at (digits_number (2 ^ 64) (lit< tt) h.words (λ i _. f.fits i))

-- and so the code's `==` on hashes is that of their numbers
pub same_number : (a b : Hash) → Four a → Four b → pointwise nat_eq a.words b.words ≡ eqb (hash_num a) (hash_num b)
same_number a b f g = both _ _ refl refl
  where
    both : (x y : Bool) → x ≡ pointwise nat_eq a.words b.words → y ≡ eqb (hash_num a) (hash_num b) → x ≡ y
    both true true d e = refl
    both false false d e = refl
    both true false d e = absurd (eqb-false (hash_num a) (hash_num b) (sym e) (ap (λ (w : List ℕ). number (2 ^ 64) w) (same_text a.words b.words d)))
    both false true d e = absurd (other_text a.words b.words d (ap (λ (h : Hash). h.words) (hash_same a b f g (eqb-true (hash_num a) (hash_num b) (sym e)))))

-- keys of one number are one key
pub key_same : (a b : Key) → Four a.hash → Four b.hash → key_num a ≡ key_num b → a ≡ b
key_same a b f g e =
    let k : a.kind ≡ b.kind = ap (λ (n : N.Key). n.kind) e in
    let h : a.hash ≡ b.hash = hash_same a.hash b.hash f g (ap (λ (n : N.Key). n.hash) e) in
    both k h
  where
    both : {k k' : Kind} {h h' : Hash} → k ≡ k' → h ≡ h' → ◌≡◌ {A = Key} (record { kind = k; hash = h }) (record { kind = k'; hash = h' })
    both e f = cc
