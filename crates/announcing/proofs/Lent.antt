-- What answers say again and again of what a function is given: a store's bytes hold a header, a key's hash is below 2^256, lent hashes are few.
use Prim.Native.Nat.{ℕ, ◌*◌, ◌≤◌, ◌<◌}
use mathlib.Core.List.{List}
use native.Mathlib.Omega.{arith}
use lib.ListN.{length, get_or}
use mir.Val.{Fits}
use mir.Syntax.{w8}
use denote.Laws.{Is}
use denote.Struct.Laws as LL
use Rattle.ident.specs.declared.Hash.{Hash}
use Rattle.ident.specs.declared.Key.{Key}
use Rattle.ident.specs.Number.{top}
use Rattle.ident.specs.Words.{hash_num}
use Rattle.ident.specs.contracts.Hash as T
use Rattle.ident.proofs.Hash.TheLaws as T'
use Rattle.ident.specs.contracts.Key as K
use Rattle.ident.proofs.Key.TheLaws as K'
use Rattle.ident.proofs.Words.{hash-four, key-four, hash_below}
use Rattle.ident.specs.declared.connection.Connection.{Connection}
use Rattle.machine.specs.Limits.{word, max_parents, max_announcements}
use Rattle.machine.proofs.Fail.{Peer, FewHashes}
use Rattle.store.specs.Image.{head_size}
use Rattle.store.specs.Shown.{rows_in, Kept}
use Rattle.lent_lists.specs.Lists.{hashes_in}
use Rattle.lent_lists.proofs.Given.{hashes-fit}
use Rattle.requests.proofs.Keeping.{kept_shown}

pub kept_long : {b : List ℕ} → Kept b → 8 * head_size ≤ length b
kept_long k = let z = (kept_shown k).sizes in omega arith

pub kept_few : {b : List ℕ} → Kept b → rows_in b ≤ max_announcements
kept_few k = let z = kept_shown k in omega (arith, z.sizes.rows, z.sized.rows_few, z.sized.limit)

pub hash_low : (h : Hash) → Is T.the_row h (LL.vals T.the_type T'.the_laws h) → hash_num h < top
hash_low h g = hash_below h (hash-four h g)

pub key_low : (k : Key) → Is K.the_row k (LL.vals K.the_type K'.the_laws k) → hash_num k.hash < top
key_low k g = hash_below k.hash (key-four k g)

pub peer_of : (n : Connection) → n.number < word → Peer n.number
peer_of n l = record { positive = n.positive; small = l }

pub few_hashes : (b : List ℕ) → ((j : ℕ) → Fits w8 (get_or b j 0)) → length (hashes_in b) ≤ max_parents → FewHashes (hashes_in b)
few_hashes b p l = record { hashes = hashes-fit b (λ j. omega (arith, p j)); few = l }
