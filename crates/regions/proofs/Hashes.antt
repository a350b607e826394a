-- Hashes and keys as rows have them, and the number by which rows are searched.
use Prim.Native.Nat.{ℕ, ◌+◌, ◌*◌, ◌^◌}
use mathlib.Core.Path.{◌≡◌, refl, sym, ap, ◌∙◌}
use mathlib.Core.List.{List, [], ◌∷◌}
use native.Mathlib.Nat.{zero-add, add_comm}
use native.Mathlib.Omega.{arith}
use lib.ListN.{length, get_or}
use Rattle.ident.specs.declared.Hash.{Hash}
use Rattle.ident.specs.declared.Key.{Key}
use Rattle.ident.specs.declared.Kind.{Kind}
use Rattle.ident.specs.declared.Kind.TheVariants.{Txid, Wtxid}
use Rattle.ident.specs.Number.{top, base, place}
use Rattle.ident.specs.Words.{hash_num}
use Rattle.ident.proofs.Words.{Four, hash_below}
use Rattle.words.specs.Words.{number}
use Rattle.regions.specs.declared.Quad.{Quad}
use Rattle.regions.specs.declared.Key.{Key as RowKey}
use Rattle.regions.specs.Rows.{quad_number, quad_of, quad_words, key_number}
use Rattle.regions.specs.Keys.{Words, KeyWords}
use Rattle.regions.proofs.Order.{number_quad, quad-number}

-- ---- a hash's words

abbrev quad_in : List ℕ → Quad
quad_in w = record { w0 = get_or w 0 0; w1 = get_or w 1 0; w2 = get_or w 2 0; w3 = get_or w 3 0 }

four-words : (w : List ℕ) → length w ≡ 4 → quad_words (quad_in w) ≡ w
four-words [] e = absurd (omega arith)
four-words (a ∷ []) e = absurd (omega arith)
four-words (a ∷ b ∷ []) e = absurd (omega arith)
four-words (a ∷ b ∷ c ∷ []) e = absurd (omega arith)
four-words (a ∷ b ∷ c ∷ d ∷ []) e = refl
four-words (a ∷ b ∷ c ∷ d ∷ x ∷ w) e = absurd (omega arith)

pub quad-of : (h : Hash) → Four h → Words h (quad_in h.words)
unfolding quad_number
quad-of h f =
    let q : quad_number (quad_in h.words) ≡ hash_num h = ap (number (2 ^ 64)) (four-words h.words f.four) in
    record {
      words_are = sym (quad-number (quad_in h.words) (record { w0 = f.fits 0; w1 = f.fits 1; w2 = f.fits 2; w3 = f.fits 3 })) ∙ ap quad_of q;
      small = hash_below h f;
    }

-- ---- a key's number is its place in the order of keys

-- a part of a digit, taken out of the sum
lift : (a x y : ℕ) → a + 2 ^ 64 * (x + y) ≡ (a + 2 ^ 64 * x) + 2 ^ 64 * y
lift a x y = omega arith

fifth : (a b c d y : ℕ) → a + 2 ^ 64 * (b + 2 ^ 64 * (c + 2 ^ 64 * (d + y))) ≡ (a + 2 ^ 64 * (b + 2 ^ 64 * (c + 2 ^ 64 * d))) + 2 ^ 64 * (2 ^ 64 * (2 ^ 64 * y))
fifth a b c d y =
    rw (lift c d y, lift b (c + 2 ^ 64 * d) (2 ^ 64 * y), lift a (b + 2 ^ 64 * (c + 2 ^ 64 * d)) (2 ^ 64 * (2 ^ 64 * y)))

module _ (q : Quad) where
  key-txid : key_number (record { kind = Txid; hash = q }) ≡ quad_number q
  unfolding key_number quad_number number
  key-txid = refl

  key-wtxid : key_number (record { kind = Wtxid; hash = q }) ≡ top + quad_number q
  unfolding key_number quad_number number top
  key-wtxid = let e : q.w3 + 2 ^ 64 * 0 ≡ q.w3 = omega arith in rw e (fifth q.w0 q.w1 q.w2 q.w3 (2 ^ 64) ∙ add_comm _ (2 ^ 256))

  by-kind : (k : Kind) → key_number (record { kind = k; hash = q }) ≡ base k + quad_number q
  by-kind Txid = key-txid ∙ sym (zero-add (quad_number q))
  by-kind Wtxid = key-wtxid

pub key_place : (k : RowKey) → key_number k ≡ place (record { kind = k.kind; hash = quad_number k.hash })
key_place k = by-kind k.hash k.kind

pub key-words : (k : Key) (r : RowKey) → Words k.hash r.hash → r.kind ≡ k.kind → KeyWords k r
key-words k r w e = record {
  hash = w.words_are;
  kind = e;
  number =
      let q : quad_number r.hash ≡ hash_num k.hash = ap quad_number w.words_are ∙ number_quad (hash_num k.hash) in
      key_place r ∙ ap (λ (x : Kind). base x + quad_number r.hash) e ∙ ap (λ (x : ℕ). base k.kind + x) q;
  small = w.small;
}
