-- What the contracts of claim say: the declared entries as the machine's, and what becomes of one of them.
use Rattle.std.specs.Prelude.{ℕ, zero, suc, ◌+◌, ◌*◌, ◌/◌, ◌%◌, ◌<◌, ◌≡◌, Bool, false, not, List, [], ◌∷◌, ◌++◌, eqb, length, get_or, take, drop, if◌then◌else◌}
use Rattle.ident.specs.declared.Hash.{Hash}
use Rattle.ident.specs.declared.Kind.TheVariants.{Txid}
use Rattle.ident.specs.declared.ItemKind.TheVariants.{Transaction}
use Rattle.ident.specs.Number.{top, Key, Item, type_of, item_kind_of, kind_is}
use Rattle.ident.specs.Words.{key_num}
use Rattle.words.specs.Words.{number, words, bytes_of, splice}
use Rattle.machine.specs.Limits.{request_lifetime}
use Rattle.machine.specs.State as machine
use Rattle.machine.specs.State.{Table, State, Answer, on_table, owned_until}
use Rattle.machine.specs.Table.{change, one}
use Rattle.machine.specs.Claim.{takes, claim}
use Rattle.machine.specs.Sound.{Sound}
use Rattle.machine.specs.Call.{entry_bytes}
use Rattle.machine.specs.Step.{hash_bytes, entry_answer, entries_answer, written}
use Rattle.store.specs.Image.{Writes}
use Rattle.requests.specs.Changes.{candidate_of}
use Rattle.announcing.specs.Answers.{Answered}
use Rattle.claiming.specs.declared.Entry.{Entry}

abbrev pub entry_of : Entry → machine.Entry
entry_of e = record {
  key = key_num e.key;
  candidate = candidate_of e.candidate;
}

-- the i-th entry of a list; past its end, an entry of zeros
abbrev pub no_entry : Entry
no_entry =
    let zeros : Hash = record { words = 0 ∷ 0 ∷ 0 ∷ 0 ∷ [] } in
    record { key = record { kind = Txid; hash = zeros }; candidate = record { connection = 0; item = record { kind = Transaction; hash = zeros }; ready = 0; preferred = false; priority = 0 } }

abbrev pub nth_entry : List Entry → ℕ → Entry
nth_entry l i = get_or l i no_entry

-- one entry of a claim: whether it is taken, and "its connection becomes owner with deadline now + 60,000"
abbrev pub taking : ℕ → machine.Entry → Table → Answer
taking now a t = record { reply = takes now a t; table = if takes now a t then change a.key (owned_until a.candidate.connection (now + request_lifetime)) t else t }

-- ---- the answer

-- the part of an entry's bytes between its key and its ready time
abbrev pub item_answer : ℕ → Item → List ℕ
item_answer n i = bytes_of (n ∷ type_of i.kind ∷ []) ++ hash_bytes i.hash

-- one entry of a claim on the bytes: taken or passed over, and written as the n-th of the answer u if it is taken
pub record OneMore (b b' u u' : List ℕ) (now : ℕ) (a : machine.Entry) (n n' : ℕ) : Type 0 where
  pub small : a.key.hash < top
  pub taken : Bool
  pub answered : Answered b b' taken (λ m t. taking now a t)
  pub count : n' ≡ n + one taken
  pub bytes : u' ≡ (if taken then splice u (entry_bytes * n) (entry_answer a) else u)

-- whatever sound state b writes, n is how many of the entries l a claim takes, u' has them over the first bytes of u, and b' write the
-- table that it leaves
pub record Claims (b b' u u' : List ℕ) (now : ℕ) (l : List machine.Entry) (n : ℕ) : Type 0 where
  pub count : (st : State) → Sound st → Writes b st → n ≡ length (claim now l st.table).entries
  pub entries : (st : State) → Sound st → Writes b st → u' ≡ written (entries_answer (claim now l st.table).entries) u
  pub table : (st : State) → Sound st → Writes b st → Writes b' (on_table (claim now l st.table).table st)

-- ---- entries in bytes, as an answer has them

-- the hash from the word w on, and the key and the item
abbrev pub hash_from : List ℕ → ℕ → ℕ
hash_from b w = number 256 (take 32 (drop (w * 8) b))

abbrev pub key_from : List ℕ → ℕ → Key
key_from b w = record { kind = kind_is (get_or (words b) w 0); hash = hash_from b (w + 1) }

-- (a type has 32 bits)
abbrev pub item_from : List ℕ → ℕ → Item
item_from b w = record { kind = item_kind_of (get_or (words b) w 0 % 4294967296); hash = hash_from b (w + 1) }

-- the i-th entry; preferred is any number but 0
unfoldable pub entry_from : List ℕ → ℕ → machine.Entry
entry_from b i = record {
  key = key_from b (i * 14);
  candidate = record {
    connection = get_or (words b) (i * 14 + 5) 0;
    item = item_from b (i * 14 + 6);
    ready = get_or (words b) (i * 14 + 11) 0;
    preferred = not (eqb (get_or (words b) (i * 14 + 12) 0) 0);
    priority = get_or (words b) (i * 14 + 13) 0;
  };
}

-- n entries from the i-th on; all of them
unfoldable pub entries_from : List ℕ → ℕ → ℕ → List machine.Entry
entries_from b i zero = []
entries_from b i (suc n) = entry_from b i ∷ entries_from b (i + 1) n

abbrev pub entries_in : List ℕ → List machine.Entry
entries_in b = entries_from b 0 (length b / entry_bytes)
