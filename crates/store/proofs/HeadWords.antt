-- The 24 words of the header, one by one, and the header read back from them.
use Prim.Native.Nat.{ℕ}
use mathlib.Core.Path.{◌≡◌, refl, ap, ◌∙◌}
use mathlib.Core.List.{List, [], ◌∷◌, ◌++◌}
use mathlib.Core.Option.{Option, none, some}
use lib.ListN.{length}
use Rattle.ident.specs.declared.Kind.{Kind}
use Rattle.ident.specs.declared.Kind.TheVariants.{Txid, Wtxid}
use Rattle.ident.specs.Number.{Key}
use Rattle.regions.specs.declared.Quad.{Quad}
use Rattle.regions.specs.Rows.{quad_number, quad_of}
use Rattle.regions.proofs.Order.{number_quad}
use Rattle.store.specs.Flat.{Head}
use Rattle.store.specs.Image.{head_size, format, cursor_tag, poll_words, cursor_words, head_words}
use Rattle.store.specs.Read.{poll_is, cursor_is, head_in}

-- ---- the words of the parts that can be none

abbrev pub poll_tag : Option ℕ → ℕ
poll_tag none = 0
poll_tag (some n) = 1

abbrev pub poll_time : Option ℕ → ℕ
poll_time none = 0
poll_time (some n) = n

pub poll-words : (p : Option ℕ) → poll_words p ≡ poll_tag p ∷ poll_time p ∷ []
poll-words none = refl
poll-words (some n) = refl

poll_back : (p : Option ℕ) → poll_is (poll_tag p) (poll_time p) ≡ p
poll_back none = refl
poll_back (some n) = refl

abbrev pub tag_of : Option Key → ℕ
tag_of none = 0
tag_of (some k) = cursor_tag k.kind

abbrev pub quad_in : Option Key → Quad
quad_in none = record { w0 = 0; w1 = 0; w2 = 0; w3 = 0 }
quad_in (some k) = quad_of k.hash

pub cursor-words : (c : Option Key) → cursor_words c ≡ tag_of c ∷ (quad_in c).w0 ∷ (quad_in c).w1 ∷ (quad_in c).w2 ∷ (quad_in c).w3 ∷ []
cursor-words none = refl
cursor-words (some k) = refl

key_back : (k : Kind) (h n : ℕ) → n ≡ h → cursor_is (cursor_tag k) n ≡ some (record { kind = k; hash = h })
key_back Txid h n e = rw e
key_back Wtxid h n e = rw e

cursor_back : (c : Option Key) → cursor_is (tag_of c) (quad_number (quad_in c)) ≡ c
cursor_back none = refl
cursor_back (some k) = key_back k.kind k.hash (quad_number (quad_of k.hash)) (number_quad k.hash)

-- ---- the whole

module _ (h : Head) (rows conns places : ℕ) where
  abbrev pub in_words : List ℕ
  in_words =
      let p = h.next_poll in
      let k = h.known_cursor in
      let r = h.ready_cursor in
      format
      ∷ h.limit
      ∷ h.places
      ∷ rows
      ∷ conns
      ∷ places
      ∷ poll_tag p
      ∷ poll_time p
      ∷ tag_of k
      ∷ (quad_in k).w0
      ∷ (quad_in k).w1
      ∷ (quad_in k).w2
      ∷ (quad_in k).w3
      ∷ tag_of r
      ∷ (quad_in r).w0
      ∷ (quad_in r).w1
      ∷ (quad_in r).w2
      ∷ (quad_in r).w3
      ∷ 0
      ∷ 0
      ∷ 0
      ∷ 0
      ∷ 0
      ∷ 0
      ∷ []

  pub head-words : head_words h rows conns places ≡ in_words
  unfolding head_words
  head-words = rw (poll-words h.next_poll, cursor-words h.known_cursor, cursor-words h.ready_cursor)

  pub head-length : length (head_words h rows conns places) ≡ head_size
  head-length = ap length head-words

  pub head_back : (z : List ℕ) → head_in (head_words h rows conns places ++ z) ≡ h
  unfolding head_in
  head_back z =
      let k = cursor_back h.known_cursor in
      let r = cursor_back h.ready_cursor in
      let p = poll_back h.next_poll in
      ap (λ (w : List ℕ). head_in (w ++ z)) head-words
      ∙ (λ i. record { limit = h.limit; places = h.places; next_poll = p i; known_cursor = k i; ready_cursor = r i })
