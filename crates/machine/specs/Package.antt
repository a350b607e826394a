-- The request machine: packages.
use Rattle.std.specs.Prelude.{ℕ, ◌+◌, suc, Bool, true, false, not, ◌&&◌, ◌||◌, List, [], ◌∷◌, ◌++◌, map, ltb, leb, eqb, length, if◌then◌else◌}
use Rattle.std.proofs.Math.Option.{Option, none, some}
use Rattle.ident.specs.declared.ItemKind.TheVariants.{WTx}
use Rattle.ident.specs.Number.{Key, other, wtxid}
use Rattle.machine.specs.Limits.{Limits, max_in_flight, max_wtxids, request_lifetime}
use Rattle.machine.specs.State.{Candidate, Owner, Package, Request, Table, Answer, refused, done, owner_is, enqueued_in, is_some, is_none}
use Rattle.machine.specs.Table.{at, change, has, owned_by, owned_at}
use Rattle.machine.specs.Announce.{announce_at}
use Rattle.machine.specs.Fail.{left, leaves, failed, dedup, Listed, nothing, announce_parents, parents_for}

-- ---- solicit_package_info

-- "Announces w, preferred, priority 0, ready now"
abbrev pub soliciting : ℕ → ℕ → ℕ → Candidate
soliciting n h now = record { connection = n; item = record { kind = WTx; hash = h }; ready = now; preferred = true; priority = 0 }

-- "owner with deadline now + 60,000, flag, parents with repeats dropped"
abbrev pub solicited : ℕ → ℕ → List ℕ → Request → Request
solicited n d hs r = record {
  key = r.key;
  candidates = r.candidates;
  owner = some (record { connection = n; deadline = d });
  info = true;
  «package» = r.«package»;
  parents = hs;
  fallback = r.fallback;
}

-- "0 if the hash is owned or the connection owns 100 .. 0 if the connection is still no candidate under that Wtxid key"
unfoldable pub solicit : Limits → ℕ → ℕ → List ℕ → ℕ → Table → Answer
solicit m n h hs now t =
    if eqb (owned_at h t) 0 && ltb (owned_by n t) max_in_flight then
    (let a = announce_at m (wtxid h) (soliciting n h now) t in
    if has n (at (wtxid h) a.table).candidates then done (change (wtxid h) (solicited n (now + request_lifetime) (dedup hs)) a.table)
    else refused a.table)
    else refused t

-- ---- claim_package, begin_package_resolution

-- "owner, now < deadline"
abbrev pub live_owner : ℕ → ℕ → Option Owner → Bool
live_owner n now none = false
live_owner n now (some o) = eqb o.connection n && ltb now o.deadline

abbrev pub packaged : Package → Request → Request
packaged p r = record { key = r.key; candidates = r.candidates; owner = r.owner; info = false; «package» = some p; parents = r.parents; fallback = r.fallback }

-- "0 unless 1 to 100 wtxids, flag, owner, now < deadline"
abbrev pub may_claim : ℕ → List ℕ → ℕ → Request → Bool
may_claim n ws now r = (leb 1 (length ws) && leb (length ws) max_wtxids) && ((r.info && is_none r.«package») && live_owner n now r.owner)

unfoldable pub claim_package : ℕ → ℕ → ℕ → List ℕ → ℕ → Table → Answer
claim_package n h combined ws now t =
    if may_claim n ws now (at (wtxid h) t) then done (change (wtxid h) (packaged (record { combined = combined; wtxids = ws; enqueued = false })) t)
    else refused t

unfoldable pub same_list : List ℕ → List ℕ → Bool
same_list [] [] = true
same_list [] (y ∷ ys) = false
same_list (x ∷ xs) [] = false
same_list (x ∷ xs) (y ∷ ys) = eqb x y && same_list xs ys

-- "combined hash and wtxid list equal in order, Awaiting"
abbrev pub awaits : ℕ → List ℕ → Option Package → Bool
awaits combined ws none = false
awaits combined ws (some p) = not p.enqueued && (eqb p.combined combined && same_list p.wtxids ws)

abbrev pub may_begin : ℕ → ℕ → List ℕ → ℕ → Request → Bool
may_begin n combined ws now r = live_owner n now r.owner && awaits combined ws r.«package»

unfoldable pub begin_resolution : ℕ → ℕ → ℕ → List ℕ → ℕ → Table → Answer
begin_resolution n h combined ws now t =
    if may_begin n combined ws now (at (wtxid h) t) then done (change (wtxid h) (packaged (record { combined = combined; wtxids = ws; enqueued = true })) t)
    else refused t

-- ---- failed_with_parents, failed_package_info, package_info_owner

-- the key and its announced parents, if the failing was carried out
unfoldable pub listed_after : Limits → Key → ℕ → ℕ → List ℕ → Answer → Listed
listed_after m k n now hs a =
    if a.reply then (let p = announce_parents m n now hs a.table in record { keys = k ∷ p.keys; table = p.table })
    else nothing a.table

unfoldable pub failed_with_parents : Limits → Key → ℕ → ℕ → Table → Listed
failed_with_parents m k n now t = listed_after m k n now (parents_for n (at k t)) (failed k n now t)

abbrev pub info_owned : ℕ → Request → Bool
info_owned n r = r.info && owner_is n r.owner

unfoldable pub failed_package_info : Key → ℕ → ℕ → Table → Answer
failed_package_info k n now t = if info_owned n (at k t) then failed k n now t else refused t

-- 0 stands for none: no connection is 0
abbrev pub info_owner_of : ℕ → Bool → Option Owner → ℕ
info_owner_of now info none = 0
info_owner_of now info (some o) = if info && ltb now o.deadline then o.connection else 0

unfoldable pub package_info_owner : Key → ℕ → Table → ℕ
package_info_owner k now t = info_owner_of now (at k t).info (at k t).owner

-- ---- release_package

abbrev pub enqueued_by : ℕ → Request → Bool
enqueued_by n r = owner_is n r.owner && enqueued_in r.«package»

unfoldable pub release_package : Limits → ℕ → ℕ → ℕ → Table → Listed
release_package m n h now t =
    if enqueued_by n (at (wtxid h) t) then listed_after m (wtxid h) n now (parents_for n (at (wtxid h) t)) (done (leaves (wtxid h) n now t))
    else nothing t

-- ---- failed_package_claims: "two Awaiting claims with one combined hash: the greater key is taken"

abbrev pub awaits_hash : ℕ → Option Package → Bool
awaits_hash combined none = false
awaits_hash combined (some p) = not p.enqueued && eqb p.combined combined

unfoldable pub claim_key : ℕ → ℕ → Table → Option Key
claim_key n combined [] = none
claim_key n combined (r ∷ t) =
    let later = claim_key n combined t in
    if is_some later then later
    else if owner_is n r.owner && awaits_hash combined r.«package» then some r.key
    else none

unfoldable pub some_keys : List (Option Key) → List Key
some_keys [] = []
some_keys (none ∷ l) = some_keys l
some_keys (some k ∷ l) = k ∷ some_keys l

unfoldable pub fail_each : Limits → ℕ → ℕ → List Key → Table → Listed
fail_each m n now [] t = nothing t
fail_each m n now (k ∷ ks) t =
    let a = failed_with_parents m k n now t in
    let rest = fail_each m n now ks a.table in
    record { keys = a.keys ++ rest.keys; table = rest.table }

-- the keys are looked up before the first fails
unfoldable pub failed_package_claims : Limits → ℕ → List ℕ → ℕ → Table → Listed
failed_package_claims m n cs now t = fail_each m n now (some_keys (map (λ c. claim_key n c t) cs)) t

-- ---- teardown_package_claims: every package goes, whatever its phase, and its owner leaves

unfoldable pub package_keys : Table → List Key
package_keys [] = []
package_keys (r ∷ t) = if is_some r.«package» then r.key ∷ package_keys t else package_keys t

unfoldable pub left_if_owned : ℕ → ℕ → Request → Request
left_if_owned n now r = if owner_is n r.owner then left n now r else r

pub record Torn : Type 0 where
  pub cleared : ℕ
  pub table : Table

abbrev pub tear_one : Option Owner → Key → ℕ → Table → Table
tear_one none k now t = t
tear_one (some o) k now t = change (other k) (left_if_owned o.connection now) (change k (left_if_owned o.connection now) t)

unfoldable pub tear_each : ℕ → List Key → Table → Torn
tear_each now [] t = record { cleared = 0; table = t }
tear_each now (k ∷ ks) t =
    let o = (at k t).owner in
    let rest = tear_each now ks (tear_one o k now t) in
    record { cleared = if is_some o then suc rest.cleared else rest.cleared; table = rest.table }

unfoldable pub teardown : ℕ → Table → Torn
teardown now t = tear_each now (package_keys t) t
