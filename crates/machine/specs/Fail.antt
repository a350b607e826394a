-- The request machine: failed, unclaim, forget, announce_parents.
use Rattle.std.specs.Prelude.{ℕ, suc, Bool, true, false, not, ◌&&◌, ◌||◌, List, [], ◌∷◌, map, eqb, if◌then◌else◌}
use Rattle.std.proofs.Math.Option.{Option, none, some}
use Rattle.ident.specs.declared.ItemKind.TheVariants.{Transaction}
use Rattle.ident.specs.Number.{Key, Item, txid, other}
use Rattle.machine.specs.Limits.{Limits}
use Rattle.machine.specs.State.{Candidate, Owner, Package, Request, Table, Answer, refused, done, blank, with_candidates, unowned, marked, ready_at, owner_is, enqueued_in, is_some}
use Rattle.machine.specs.Table.{at, change}
use Rattle.machine.specs.Announce.{without, request_parent_at}

-- ---- failed

-- "the connection owns the key and the package is not Enqueued"
abbrev pub releasable : ℕ → Request → Bool
releasable n r = owner_is n r.owner && not (enqueued_in r.«package»)

-- the connection leaves a request, which it then no longer owns; "every remaining candidate there gets ready = now"
unfoldable pub left : ℕ → ℕ → Request → Request
left n now r = with_candidates (map (ready_at now) (without n r.candidates)) (if owner_is n r.owner then unowned r else r)

-- "the connection leaves both kinds"
abbrev pub leaves : Key → ℕ → ℕ → Table → Table
leaves k n now t = change (other k) (left n now) (change k (left n now) t)

unfoldable pub failed : Key → ℕ → ℕ → Table → Answer
failed k n now t = if releasable n (at k t) then done (leaves k n now t) else refused t

-- ---- unclaim: "same test; clears the same four, keeps the candidate; reply 1 either way"

unfoldable pub unclaim : Key → ℕ → Table → Table
unclaim k n t = if releasable n (at k t) then change k unowned t else t

-- ---- forget: the request goes

unfoldable pub forget : Key → Table → Table
forget k t = change k (λ r. blank r.key) t

-- ---- announce_parents

-- keys listed for the caller, and the table
pub record Listed : Type 0 where
  pub keys : List Key
  pub table : Table

abbrev pub nothing : Table → Listed
nothing t = record { keys = []; table = t }

unfoldable pub but : ℕ → List ℕ → List ℕ
but h [] = []
but h (x ∷ xs) = if eqb x h then but h xs else x ∷ but h xs

-- repeats dropped, the first kept (dedup_txids)
unfoldable pub dedup : List ℕ → List ℕ
dedup [] = []
dedup (x ∷ xs) = x ∷ but x (dedup xs)

abbrev pub tx_item : ℕ → Item
tx_item h = record { kind = Transaction; hash = h }

-- "the n-th distinct parent, from 0, is requested as t with priority n"
abbrev pub parent_of : ℕ → ℕ → ℕ → ℕ → Candidate
parent_of n now h i = record { connection = n; item = tx_item h; ready = now; preferred = true; priority = i }

abbrev pub mark : Key → Table → Table
mark k t = change k marked t

-- "if kept, a request under its Txid key is marked and the key is listed, even where the candidate sits under the Wtxid key"
unfoldable pub parents_from : Limits → ℕ → ℕ → ℕ → List ℕ → Table → Listed
parents_from m n now i [] t = nothing t
parents_from m n now i (h ∷ hs) t =
    let a = request_parent_at m (txid h) (parent_of n now h i) t in
    let rest = parents_from m n now (suc i) hs (if a.reply then mark (txid h) a.table else a.table) in
    record { keys = if a.reply then txid h ∷ rest.keys else rest.keys; table = rest.table }

unfoldable pub announce_parents : Limits → ℕ → ℕ → List ℕ → Table → Listed
announce_parents m n now hs t = parents_from m n now 0 (dedup hs) t

-- the parents beside the flag or package of the request that the connection owns (package_parents_for)
abbrev pub parents_for : ℕ → Request → List ℕ
parents_for n r = if owner_is n r.owner && (r.info || is_some r.«package») then r.parents else []
