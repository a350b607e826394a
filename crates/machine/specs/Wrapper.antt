-- The request machine: the wrappers' tracker part, the poll gate, and sum.
use Rattle.std.specs.Prelude.{ℕ, ◌+◌, ◌-◌, ◌*◌, ◌/◌, Bool, true, false, not, ◌&&◌, List, [], ◌∷◌, ◌++◌, leb, eqb, length, if◌then◌else◌}
use Rattle.std.proofs.Math.Option.{Option, none, some}
use Rattle.ident.specs.declared.ItemKind.{ItemKind}
use Rattle.ident.specs.declared.ItemKind.TheVariants.{Transaction, WitnessTransaction, WTx, Other}
use Rattle.ident.specs.Number.{Key, Item, key_of, txid, wtxid}
use Rattle.machine.specs.Limits.{Limits, max_in_flight, source_delay, poll_interval, msg_pkg_txns, msg_anc_pkg_info}
use Rattle.machine.specs.State.{Candidate, Table, State}
use Rattle.machine.specs.Table.{at, one, held, owned_by}
use Rattle.machine.specs.Announce.{victims, anywhere, announce}
use Rattle.machine.specs.Fail.{failed, Listed, nothing, parents_for}
use Rattle.machine.specs.Package.{failed_package_info, listed_after, failed_package_claims}

-- ---- announce_transactions

-- an item announced, with the priority that the host drew for it
pub record Offer : Type 0 where
  pub item : Item
  pub priority : ℕ

abbrev pub is_w_tx : ItemKind → Bool
is_w_tx Transaction = false
is_w_tx WitnessTransaction = false
is_w_tx WTx = true
is_w_tx (Other n) = false

-- "2,000 times how many hold: unpreferred; a wtxid source exists and the item is not w; 100 owned before the batch"
abbrev pub delay : Bool → Bool → Bool → Item → ℕ
delay preferred source overloaded i = source_delay * (one (not preferred) + one (source && not (is_w_tx i.kind)) + one overloaded)

abbrev pub offered : ℕ → ℕ → Bool → Bool → Bool → Offer → Candidate
offered n now preferred source overloaded o = record { connection = n; item = o.item; ready = now + delay preferred source overloaded o.item; preferred = preferred; priority = o.priority }

unfoldable pub offers_from : Limits → ℕ → ℕ → Bool → Bool → Bool → List Offer → Table → Table
offers_from m n now preferred source overloaded [] t = t
offers_from m n now preferred source overloaded (o ∷ os) t = offers_from m n now preferred source overloaded os (announce m (offered n now preferred source overloaded o) t).table

unfoldable pub announce_transactions : Limits → ℕ → ℕ → Bool → Bool → List Offer → Table → Table
announce_transactions m n now preferred source os t = offers_from m n now preferred source (leb max_in_flight (owned_by n t)) os t

-- ---- transaction_response_completed

unfoldable pub response_completed : ℕ → ℕ → ℕ → ℕ → Table → Table
response_completed n x w now t = (failed (wtxid w) n now (failed (txid x) n now t).table).table

-- ---- transaction_not_found

abbrev pub fail_keyed : Option Key → ℕ → ℕ → Table → Listed
fail_keyed none n now t = nothing t
fail_keyed (some k) n now t = let a = failed k n now t in record { keys = if a.reply then k ∷ [] else []; table = a.table }

abbrev pub is_type : ℕ → ItemKind → Bool
is_type n Transaction = false
is_type n WitnessTransaction = false
is_type n WTx = false
is_type n (Other m) = eqb m n

-- package information that is not found fails with its parents; any other item with a key just fails
unfoldable pub not_found_one : Limits → ℕ → ℕ → Item → Table → Listed
not_found_one m n now i t =
    if is_type msg_anc_pkg_info i.kind
    then listed_after m (wtxid i.hash) n now (parents_for n (at (wtxid i.hash) t)) (failed_package_info (wtxid i.hash) n now t)
    else fail_keyed (key_of i) n now t

unfoldable pub not_found_each : Limits → ℕ → ℕ → List Item → Table → Listed
not_found_each m n now [] t = nothing t
not_found_each m n now (i ∷ l) t =
    let a = not_found_one m n now i t in
    let rest = not_found_each m n now l a.table in
    record { keys = a.keys ++ rest.keys; table = rest.table }

-- the combined hashes of the packages that are not found
unfoldable pub packages_in : List Item → List ℕ
packages_in [] = []
packages_in (i ∷ l) = if is_type msg_pkg_txns i.kind then i.hash ∷ packages_in l else packages_in l

unfoldable pub not_found : Limits → ℕ → ℕ → List Item → Table → Listed
not_found m n now l t =
    let a = not_found_each m n now l t in
    let b = failed_package_claims m n (packages_in l) now a.table in
    record { keys = a.keys ++ b.keys; table = b.table }

-- ---- the poll gate: "0, not due, while now < next; else 1 and next = now + 100"

abbrev pub due_at : ℕ → Option ℕ → Bool
due_at now none = true
due_at now (some next) = leb next now

abbrev pub next_poll_after : ℕ → Option ℕ → Option ℕ
next_poll_after now next = if due_at now next then some (now + poll_interval) else next

-- ---- sum: "held, free = L − held, held × 1,000 / L rounded down", and document 02's "two free figures: L − held for unpreferred newcomers, and that plus
-- the unpreferred candidates not owning their own request for preferred ones"

-- these are the candidates that a preferred newcomer can evict, at whatever hash
abbrev pub evictable : Table → ℕ
evictable t = length (victims anywhere t)

pub record Sums : Type 0 where
  pub held : ℕ
  pub free : ℕ
  pub preferred : ℕ
  pub permille : ℕ

unfoldable pub sum : State → Sums
sum s =
    record {
      held = held s.table;
      free = s.limit - held s.table;
      preferred = s.limit - held s.table + evictable s.table;
      permille = held s.table * 1000 / s.limit;
    }
