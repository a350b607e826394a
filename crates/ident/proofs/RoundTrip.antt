-- Bytes to a hash and back, from the two contracts alone.
use Prim.Native.Nat.{ℕ, ◌<◌}
use mathlib.Core.Path.{◌≡◌, sym, ap, ◌∙◌}
use mathlib.Core.List.{List}
use lib.Dec.{lit<}
use lib.ListN.{length, get_or}
use Rattle.words.specs.Words.{number, digits}
use Rattle.words.proofs.Digits.{digits_number}
use Rattle.ident.specs.declared.Hash.{Hash}
use Rattle.ident.specs.Words.{hash_bytes, hash_num}
use Rattle.ident.proofs.Words.{Four, hash_same}

-- b are the bytes that are made from the hash h, and r is the hash that is made from b
pub hash_again : (h r : Hash) (b : List ℕ) → Four h → Four r → number 256 b ≡ hash_num h → hash_num r ≡ number 256 b → r ≡ h
hash_again h r b f g e e' = hash_same r h g f (e' ∙ e)

-- h is the hash that is made from the bytes b, and c are the bytes that are made from h
pub bytes_again : (b c : List ℕ) (h : Hash) → length b ≡ hash_bytes → length c ≡ hash_bytes → ((i : ℕ) → get_or b i 0 < 256) → ((i : ℕ) → get_or c i 0 < 256)
    → hash_num h ≡ number 256 b → number 256 c ≡ hash_num h → c ≡ b
bytes_again b c h l m f g e e' = sym (again c m g) ∙ ap (digits 256 hash_bytes) (e' ∙ e) ∙ again b l f
  where
    again : (s : List ℕ) → length s ≡ hash_bytes → ((i : ℕ) → get_or s i 0 < 256) → digits 256 hash_bytes (number 256 s) ≡ s
    again s l f = rw l at (digits_number 256 (lit< tt) s (λ i _. f i))
