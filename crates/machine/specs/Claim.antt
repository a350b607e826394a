-- The request machine: claim, and Sending.
use Rattle.std.specs.Prelude.{ℕ, ◌+◌, Bool, true, false, not, ◌&&◌, ◌||◌, List, [], ◌∷◌, map, leb, eqb, if◌then◌else◌}
use Rattle.std.proofs.Math.Option.{Option, none, some}
use Rattle.ident.specs.declared.Kind.{Kind}
use Rattle.ident.specs.declared.Kind.TheVariants.{Txid, Wtxid}
use Rattle.ident.specs.declared.ItemKind.{ItemKind}
use Rattle.ident.specs.declared.ItemKind.TheVariants.{Transaction, WitnessTransaction, WTx, Other}
use Rattle.ident.specs.Number.{Key, Item}
use Rattle.machine.specs.Limits.{request_lifetime}
use Rattle.machine.specs.State.{Candidate, Request, Table, Entry, owned_until, with_item}
use Rattle.machine.specs.Table.{at, change, owned_at}
use Rattle.machine.specs.Plan.{choice}

-- ---- "in every field"

abbrev pub same_kind : Kind → Kind → Bool
same_kind Txid Txid = true
same_kind Txid Wtxid = false
same_kind Wtxid Txid = false
same_kind Wtxid Wtxid = true

abbrev pub same_bool : Bool → Bool → Bool
same_bool true b = b
same_bool false b = not b

-- a number for each kind of item: other items have numbers of their own, from 3 on
abbrev pub kind_rank : ItemKind → ℕ
kind_rank Transaction = 0
kind_rank WitnessTransaction = 1
kind_rank WTx = 2
kind_rank (Other n) = 3 + n

abbrev pub same_item : Item → Item → Bool
same_item a b = eqb (kind_rank a.kind) (kind_rank b.kind) && eqb a.hash b.hash

abbrev pub same_key : Key → Key → Bool
same_key a b = same_kind a.kind b.kind && eqb a.hash b.hash

abbrev pub same_candidate : Candidate → Candidate → Bool
same_candidate a b = eqb a.connection b.connection && (same_item a.item b.item && (eqb a.ready b.ready && (same_bool a.preferred b.preferred && eqb a.priority b.priority)))

unfoldable pub same_entry : Entry → Entry → Bool
same_entry a b = same_key a.key b.key && same_candidate a.candidate b.candidate

abbrev pub is_choice : Entry → Option Entry → Bool
is_choice a none = false
is_choice a (some b) = same_entry a b

-- ---- claim

pub record Taken : Type 0 where
  pub entries : List Entry
  pub table : Table

-- "whose hash is unowned and that is still, in every field, what plan would choose for its hash, counting what this claim has
-- taken": what it has taken is counted because the owner is set in the table at once
unfoldable pub takes : ℕ → Entry → Table → Bool
takes now a t = eqb (owned_at a.key.hash t) 0 && is_choice a (choice now t [] a.key)

-- "its connection becomes owner with deadline now + 60,000. Other entries are passed over"
unfoldable pub claim : ℕ → List Entry → Table → Taken
claim now [] t = record { entries = []; table = t }
claim now (a ∷ l) t =
    let ok = takes now a t in
    let rest = claim now l (if ok then change a.key (owned_until a.candidate.connection (now + request_lifetime)) t else t) in
    record { entries = if ok then a ∷ rest.entries else rest.entries; table = rest.table }

-- ---- Sending

unfoldable pub elem : ℕ → List ℕ → Bool
elem n [] = false
elem n (m ∷ l) = eqb m n || elem n l

abbrev pub witness_kind : ItemKind → ItemKind
witness_kind Transaction = WitnessTransaction
witness_kind WitnessTransaction = WitnessTransaction
witness_kind WTx = WTx
witness_kind (Other n) = Other n

abbrev pub witness_item : Item → Item
witness_item i = record { kind = witness_kind i.kind; hash = i.hash }

-- "a taken t item of a marked request turns v for a witness connection"
unfoldable pub for_witness : List ℕ → Table → Entry → Entry
for_witness ws t a = record {
  key = a.key;
  candidate = with_item (if elem a.candidate.connection ws && (at a.key t).fallback then witness_item a.candidate.item else a.candidate.item) a.candidate;
}

-- "by ascending connection, then claim order"
unfoldable pub insert_by_connection : Entry → List Entry → List Entry
insert_by_connection a [] = a ∷ []
insert_by_connection a (b ∷ l) = if leb a.candidate.connection b.candidate.connection then a ∷ (b ∷ l) else b ∷ insert_by_connection a l

unfoldable pub sort_by_connection : List Entry → List Entry
sort_by_connection [] = []
sort_by_connection (a ∷ l) = insert_by_connection a (sort_by_connection l)

unfoldable pub arrange : List ℕ → List Entry → Table → List Entry
arrange ws l t = sort_by_connection (map (for_witness ws t) l)

-- "one connection's requests are handed back as that part of the arranged list" (it takes no store)
unfoldable pub part_of : ℕ → List Entry → List Entry
part_of n [] = []
part_of n (a ∷ l) = if eqb a.candidate.connection n then a ∷ part_of n l else part_of n l
