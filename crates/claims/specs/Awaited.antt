-- failed_package_claims: the claims of a connection in the table, in rows and in lists of hashes; keys listed behind others.
use Rattle.std.specs.Prelude as std
use Rattle.std.specs.Prelude.{Some, None, ℕ, ◌+◌, ◌*◌, ◌≤◌, ◌⊎◌, ◌≡◌, Bool, true, false, not, ◌&&◌, List, [], ◌∷◌, ◌++◌, map, eqb, length, take, drop, if◌then◌else◌}
use Rattle.std.proofs.Math.Option.{Option, none, some}
use Rattle.ident.specs.declared.Hash.{Hash}
use Rattle.ident.specs.Number.{Key, Item, wtxid}
use Rattle.ident.specs.Words.{hash_num}
use Rattle.regions.specs.declared.Row.{Row}
use Rattle.machine.specs.Limits.{Limits, max_in_flight, max_parents, msg_pkg_txns}
use Rattle.machine.specs.State.{Package, Request, Table, State, limits_of, on_table, owner_is, is_some}
use Rattle.machine.specs.Table.{at, places_held}
use Rattle.machine.specs.Fail.{Listed}
use Rattle.machine.specs.Call.{key_bytes}
use Rattle.machine.specs.Wrapper.{is_type, packages_in}
use Rattle.machine.specs.Step.{keys_answer, written}
use Rattle.machine.specs.Sound.{Sound}
use Rattle.lent_lists.specs.Lists.{hashes_in}
use Rattle.lent_lists.specs.Items.{items_in}
use Rattle.store.specs.FlatSound.{owns}
use Rattle.store.specs.Gather.{key_at}
use Rattle.store.specs.Image.{Writes}
use Rattle.requests.specs.Changes.{Tells}
use Rattle.package_stages.specs.Changes.{combined_of}
use Rattle.package_stages.specs.Dead.{filter}
use Rattle.claims.specs.declared.waiting.Claim.{Claim}
use Rattle.claims.specs.declared.waiting.Given.{Given}
use Rattle.claims.specs.declared.waiting.Given.TheVariants.{Hashes, Items}

-- ---- the claims of a connection: requests that it owns with an Awaiting package, in the order of keys

abbrev pub awaiting : Option Package → Bool
awaiting none = false
awaiting (some p) = not p.enqueued

abbrev pub is_claim : ℕ → Request → Bool
is_claim n q = owner_is n q.owner && awaiting q.«package»

abbrev pub claims_in : ℕ → Table → Table
claims_in n t = filter (is_claim n) t

abbrev pub hash_of : Request → ℕ
hash_of q = q.key.hash

abbrev pub sum_of : Request → ℕ
sum_of q = combined_of q.«package»

-- ---- in rows: that of n as the owner of a claim

abbrev pub is_claim_row : ℕ → Table → Row → Bool
is_claim_row n t r = (eqb r.conn n && owns r) && awaiting (at (key_at r) t).«package»

unfoldable pub claim_of : ℕ → Table → Row → Table
claim_of n t r = if is_claim_row n t r then at (key_at r) t ∷ [] else []

-- ---- as they are noted

abbrev pub noted_keys : List Claim → List ℕ
noted_keys cs = map (λ c. hash_num c.key) cs

abbrev pub noted_sums : List Claim → List ℕ
noted_sums cs = map (λ c. hash_num c.combined) cs

-- the claim of a row, if it is one, noted behind m others
pub record ClaimNoted (n : ℕ) (r : Row) (b : List ℕ) (cs cs' : List Claim) (m w : ℕ) : Type 0 where
  pub count : Tells b (λ t. w ≡ m + length (claim_of n t r))
  pub keys-are : Tells b (λ t. noted_keys (take w cs') ≡ noted_keys (take m cs) ++ map hash_of (claim_of n t r))
  pub sums-are : Tells b (λ t. noted_sums (take w cs') ≡ noted_sums (take m cs) ++ map sum_of (claim_of n t r))

-- they are the claims of n, in the order of keys
pub record ClaimsAre (n : ℕ) (t : Table) (cs : List Claim) : Type 0 where
  pub keys-are : noted_keys cs ≡ map hash_of (claims_in n t)
  pub sums-are : noted_sums cs ≡ map sum_of (claims_in n t)

-- "no connection owns more than 100 requests"
pub record ClaimsNoted (n : ℕ) (b : List ℕ) (cs : List Claim) : Type 0 where
  pub few : length cs ≤ max_in_flight
  pub are : Tells b (λ t. ClaimsAre n t cs)

-- the key of the last claim with the combined hash c
unfoldable pub last_among : ℕ → List ℕ → List ℕ → Option Key
last_among c [] xs = none
last_among c (h ∷ hs) [] = none
last_among c (h ∷ hs) (x ∷ xs) =
    let later = last_among c hs xs in
    if is_some later then later
    else if eqb x c then some (wtxid h)
    else none

abbrev pub key_found : std.Option Hash → Option Key
key_found None = none
key_found (Some h) = some (wtxid (hash_num h))

-- ---- the combined hashes given: by the items that name a package, or else by each entry

abbrev pub package_named : Item → Option ℕ
package_named i = if is_type msg_pkg_txns i.kind then some i.hash else none

abbrev pub entries_in : Given → List (Option ℕ)
entries_in (Items b) = map package_named (items_in b.now)
entries_in (Hashes b) = map some (hashes_in b.now)

abbrev pub given_in : Given → List ℕ
given_in (Items b) = packages_in (items_in b.now)
given_in (Hashes b) = hashes_in b.now

abbrev pub hash_found : std.Option Hash → Option ℕ
hash_found None = none
hash_found (Some h) = some (hash_num h)

abbrev pub last_of : Option ℕ → List Claim → Option Key
last_of none cs = none
last_of (some c) cs = last_among c (noted_keys cs) (noted_sums cs)

-- the buffer u has room for the parents of every place that is held, and for a key of each place or of each of the l hashes given
abbrev pub ClaimsFit : ℕ → List ℕ → List ℕ → Type 0
ClaimsFit l b u = Tells b (λ t. (key_bytes * ((max_parents + 1) * places_held t) ≤ length u) ⊎ (key_bytes * (l + max_parents * places_held t) ≤ length u))

-- ---- keys listed behind the first c of a buffer

pub record ListedOn (b b' u u' : List ℕ) (c r : ℕ) (f : Limits → Table → Listed) : Type 0 where
  pub count : (st : State) → Sound st → Writes b st → r ≡ c + length (f (limits_of st) st.table).keys
  pub keys : (st : State) → Sound st → Writes b st → u' ≡ take (key_bytes * c) u ++ written (keys_answer (f (limits_of st) st.table).keys) (drop (key_bytes * c) u)
  pub table : (st : State) → Sound st → Writes b st → Writes b' (on_table (f (limits_of st) st.table).table st)
