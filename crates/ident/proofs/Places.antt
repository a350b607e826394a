-- The order of keys, and that no two keys share a place.
use mathlib.Core.Path.{◌≡◌, refl, sym, ap, ◌∙◌}
use Rattle.std.specs.declared.cmp.Ordering.{Ordering}
use Prim.Native.Nat.{ℕ, ◌+◌, ◌*◌, ◌<◌, ◌≤◌}
use native.Mathlib.Omega.{arith}
use Rattle.ident.specs.declared.Kind.{Kind}
use Rattle.ident.specs.declared.Kind.TheVariants.{Txid, Wtxid}
use Rattle.ident.specs.declared.Key as D
use Rattle.ident.specs.contracts.KindOrd.TheImpl as KindOrd
use Rattle.ident.specs.declared.Hash.{Hash}
use Rattle.ident.specs.contracts.KeyOrd.TheImpl as KeyOrd
use Rattle.ident.specs.contracts.KeyPartialOrd.TheImpl as KeyPartialOrd
use Rattle.ident.specs.Number.{Key, top, base, other, place}
use Rattle.ident.specs.Words.{hash_num, key_num}
use Rattle.std.specs.Prelude.{Option, Some, ltb}
use Rattle.std.specs.Ordering.{nat_cmp, ordering_then, is_lt, is_some_and, partial_lt}
use borrow.Author.Tests.{lt-ltb, le-ltb}
use mathlib.Core.Logic.{⊎_elim}
use Rattle.ident.proofs.Compare.{three, is-less, is_more, is_same, by_parts}
use Rattle.ident.proofs.WordByWord.{by_number}
use Rattle.ident.proofs.Words.{Four, hash_below, key_same}

-- how many ranks of keys stand before a key of this kind
abbrev pub kind_rank : Kind → ℕ
kind_rank Txid = 0
kind_rank Wtxid = 1

-- a key's place is its hash, and its rank times the number of hashes
rank-place : (k : Kind) (h : ℕ) → h + top * kind_rank k ≡ base k + h
rank-place Txid h = omega arith
rank-place Wtxid h = omega arith

pub by_place : (a b : Key) → a.hash < top → b.hash < top
    → ordering_then (nat_cmp (kind_rank a.kind) (kind_rank b.kind)) (nat_cmp a.hash b.hash) ≡ nat_cmp (place a) (place b)
by_place a b g g' = by_parts top a.hash b.hash (kind_rank a.kind) (kind_rank b.kind) g g' ∙ rw (rank-place a.kind a.hash, rank-place b.kind b.hash)

-- the order of keys that the code has is that of their places
pub by_key : (a b : D.Key) → Four a.hash → Four b.hash → (KeyOrd.ghosts).cmp a b ≡ nat_cmp (place (key_num a)) (place (key_num b))
by_key a b f g =
    ap (λ (o : Ordering). ordering_then ((KindOrd.ghosts).cmp a.kind b.kind) o) (by_number a.hash b.hash f g)
    ∙ ap (λ (o : Ordering). ordering_then o (nat_cmp (hash_num a.hash) (hash_num b.hash))) (ranked a.kind b.kind)
    ∙ by_place (key_num a) (key_num b) (hash_below a.hash f) (hash_below b.hash g)
  where
    ranked : (k k' : Kind) → (KindOrd.ghosts).cmp k k' ≡ nat_cmp (kind_rank k) (kind_rank k')
    ranked Txid Txid = refl
    ranked Txid Wtxid = refl
    ranked Wtxid Txid = refl
    ranked Wtxid Wtxid = refl

-- and so the code's `<` on keys
pub key_less : (a b : D.Key) → Four a.hash → Four b.hash → partial_lt (KeyPartialOrd.ghosts).partial_cmp a b ≡ ltb (place (key_num a)) (place (key_num b))
key_less a b f g =
    ap (λ (o : Option Ordering). is_some_and is_lt o) (answered a.kind b.kind a.hash b.hash ∙ ap (λ (o : Ordering). Some o) (by_key a b f g))
    ∙ less (place (key_num a)) (place (key_num b))
  where
    answered : (k k' : Kind) (h h' : Hash)
        → (KeyPartialOrd.ghosts).partial_cmp (record { kind = k; hash = h }) (record { kind = k'; hash = h' })
        ≡ Some ((KeyOrd.ghosts).cmp (record { kind = k; hash = h }) (record { kind = k'; hash = h' }))
    answered Txid Txid h h' = refl
    answered Txid Wtxid h h' = refl
    answered Wtxid Txid h h' = refl
    answered Wtxid Wtxid h h' = refl

    less : (m n : ℕ) → is_lt (nat_cmp m n) ≡ ltb m n
    less m n =
        ⊎_elim (λ l. ap is_lt (is-less m n l) ∙ sym (lt-ltb m n l))
        (⊎_elim (λ l. ap is_lt (is_more m n l) ∙ sym (le-ltb m n (omega arith))) (λ q. ap is_lt (is_same m n q) ∙ sym (le-ltb m n (omega arith))))
        (three m n)

-- "every Txid key before every Wtxid key"
pub txid_first : (h h' : ℕ) → h < top → place (record { kind = Txid; hash = h }) < place (record { kind = Wtxid; hash = h' })
txid_first h h' g = omega arith

-- keys at one place are one key
pub place_same : (a b : Key) → a.hash < top → b.hash < top → place a ≡ place b → a ≡ b
place_same a b g g' e = parts a.kind b.kind a.hash b.hash g g' e
  where
    parts : (k k' : Kind) (h h' : ℕ) → h < top → h' < top → base k + h ≡ base k' + h' → ◌≡◌ {A = Key} (record { kind = k; hash = h }) (record { kind = k'; hash = h' })
    parts Txid Txid h h' g g' e = let s : h ≡ h' = omega arith in cc
    parts Txid Wtxid h h' g g' e = absurd (omega arith)
    parts Wtxid Txid h h' g g' e = absurd (omega arith)
    parts Wtxid Wtxid h h' g g' e = let s : h ≡ h' = omega arith in cc

-- and so of the keys that the code holds
pub same_place : (a b : D.Key) → Four a.hash → Four b.hash → place (key_num a) ≡ place (key_num b) → a ≡ b
same_place a b f g e = key_same a b f g (place_same (key_num a) (key_num b) (hash_below a.hash f) (hash_below b.hash g) e)

-- places from 2^256 on are those of Wtxid keys
pub is-wtxid : (k : Kind) (h : ℕ) → h < top → top ≤ base k + h → k ≡ Wtxid
is-wtxid Txid h s l = absurd (omega arith)
is-wtxid Wtxid h s l = refl

-- "two identities of one hash"
pub other_twice : (k : Key) → other (other k) ≡ k
other_twice k = back k.kind k.hash
  where
    back : (c : Kind) (h : ℕ) → other (other (record { kind = c; hash = h })) ≡ record { kind = c; hash = h }
    back Txid h = refl
    back Wtxid h = refl
