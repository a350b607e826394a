-- The keys that calls list: of 256 bits.
use Prim.Native.Nat.{ℕ, ◌≤◌, ◌<◌}
use mathlib.Core.List.{List, [], ◌∷◌, map}
use mathlib.Core.Option.{Option, none, some}
use lib.ListN.{length}
use Rattle.ident.specs.Number.{Key, Item, wtxid, key_of, top}
use Rattle.machine.specs.Limits.{Limits, max_parents, max_known_checks, msg_anc_pkg_info, word}
use Rattle.machine.specs.State.{Table, State, Answer, limits_of}
use Rattle.machine.specs.Table.{at, keys}
use Rattle.machine.specs.Sound.{CursorFits, Bounded, Sound}
use Rattle.machine.specs.Typed.{Each, KeyTyped}
use Rattle.machine.specs.Fail.{Listed, announce_parents, failed}
use Rattle.machine.specs.Package.{listed_after, failed_with_parents, enqueued_by, release_package, claim_key, some_keys, fail_each, failed_package_claims}
use Rattle.machine.specs.Sweep.{round, handed}
use Rattle.machine.specs.Wrapper.{fail_keyed, is_type, not_found_one, not_found_each, packages_in, not_found}
use Rattle.machine.proofs.Tests.{by_test}
use Rattle.machine.proofs.Table.{lawful_at}
use Rattle.machine.proofs.Announce.{each_append, each_map, item-fits}
use Rattle.machine.proofs.Fail.{Peer, FewHashes, few_for}
use Rattle.machine.proofs.Package.{bounded-failed_with_parents}
use Rattle.machine.proofs.Failing.{HoldsPlace, holds_claims}
use Rattle.machine.proofs.Wrapper.{bounded-not_found_one, bounded-not_found_each}
use Rattle.machine.proofs.Plan.{round-typed, keys-typed, parents-keys as hashes-typed, take-typed}
use Rattle.store.specs.Image.{Bytes}
use Rattle.lent_lists.specs.Lists.{hashes_in}
use Rattle.lent_lists.proofs.Given.{hashes-fit}
use Rattle.sweeping.specs.Batches.{next_batch}

-- ---- the keys that sweep hands out are those of the table

pub sweep-typed : (s : State) → Sound s → Each KeyTyped (next_batch s)
unfolding handed
sweep-typed s g = take-typed max_known_checks (round s.known_cursor (keys s.table)) (round-typed s.known_cursor (keys s.table) (keys-typed 0 s.table g.bounded.ordered))

-- ---- the keys that announce_parents lists are of the hashes given

pub parents-typed : (m : Limits) (n clock : ℕ) (b : List ℕ) (t : Table) → Bytes b → length (hashes_in b) ≤ max_parents → Each KeyTyped (announce_parents m n clock (hashes_in b) t).keys
parents-typed m n clock b t p f = hashes-typed m n clock (hashes_in b) t (record { hashes = hashes-fit b p; few = f })

-- ---- and those of failed_with_parents and release_package: the key itself, and parents of its request

after-typed : (m : Limits) (k : Key) (n clock : ℕ) (hs : List ℕ) (a : Answer) → KeyTyped k → FewHashes hs → Each KeyTyped (listed_after m k n clock hs a).keys
unfolding listed_after
after-typed m k n clock hs a g f = by_test (λ (l : Listed). Each KeyTyped l.keys) a.reply (λ e. (g, hashes-typed m n clock hs a.table f)) (λ e. tt)

failed-keys : {m : Limits} {Q : ℕ} {t : Table} (k : Key) (n clock : ℕ) → KeyTyped k → Bounded m Q t → Each KeyTyped (failed_with_parents m k n clock t).keys
unfolding failed_with_parents
failed-keys {m} {Q} {t} k n clock h b = after-typed m k n clock _ _ h (few_for n (at k t) (lawful_at k t b.lawful))

pub failed-typed : (s : State) → Sound s → (k : Key) (n clock : ℕ) → KeyTyped k → Each KeyTyped (failed_with_parents (limits_of s) k n clock s.table).keys
failed-typed s g k n clock h = failed-keys k n clock h g.bounded

pub released_typed : (s : State) → Sound s → (n h clock : ℕ) → h < top → Each KeyTyped (release_package (limits_of s) n h clock s.table).keys
unfolding release_package
released_typed s g n h clock l =
    let f = few_for n (at (wtxid h) s.table) (lawful_at (wtxid h) s.table g.bounded.lawful) in
    by_test (λ (x : Listed). Each KeyTyped x.keys) (enqueued_by n (at (wtxid h) s.table)) (λ e. after-typed (limits_of s) (wtxid h) n clock _ _ l f) (λ e. tt)

-- ---- those of package claims that fail, and of what is not found

each_typed : {m : Limits} {Q : ℕ} {t : Table} (n clock : ℕ) (ks : List Key) → Peer n → clock < word → Each KeyTyped ks → Bounded m Q t → Each KeyTyped (fail_each m n clock ks t).keys
unfolding fail_each
each_typed n clock [] p w a b = tt
each_typed {m} {Q} {t} n clock (k ∷ ks) p w a b =
    let x = failed_with_parents m k n clock t in
    let rest = each_typed {t = x.table} n clock ks p w a.1 (bounded-failed_with_parents k n clock a.0 p w b) in
    each_append KeyTyped x.keys (fail_each m n clock ks x.table).keys (failed-keys k n clock a.0 b) rest

claims-keys : {m : Limits} {Q : ℕ} {t : Table} (n : ℕ) (cs : List ℕ) (clock : ℕ) → Peer n → clock < word → Bounded m Q t → Each KeyTyped (failed_package_claims m n cs clock t).keys
unfolding failed_package_claims
claims-keys {m} {Q} {t} n cs clock p w b =
    let ks = some_keys (map (λ c. claim_key n c t) cs) in
    each_typed n clock ks p w (each_map (HoldsPlace n t) KeyTyped ks (λ k h. h.small) (holds_claims n cs t b.ordered)) b

pub claims-typed : (s : State) → Sound s → (n : ℕ) (cs : List ℕ) (clock : ℕ) → Peer n → clock < word → Each KeyTyped (failed_package_claims (limits_of s) n cs clock s.table).keys
claims-typed s g n cs clock p w = claims-keys n cs clock p w g.bounded

keyed-keys : (k : Option Key) (n clock : ℕ) (t : Table) → CursorFits k → Each KeyTyped (fail_keyed k n clock t).keys
keyed-keys none n clock t h = tt
keyed-keys (some k) n clock t h = by_test (Each KeyTyped) (failed k n clock t).reply (λ e. (h, tt)) (λ e. tt)

one_keys : {m : Limits} {Q : ℕ} {t : Table} (n clock : ℕ) (i : Item) → i.hash < top → Bounded m Q t → Each KeyTyped (not_found_one m n clock i t).keys
unfolding not_found_one
one_keys {m} {Q} {t} n clock i h b =
    let k = wtxid i.hash in
    by_test (λ (x : Listed). Each KeyTyped x.keys) (is_type msg_anc_pkg_info i.kind)
    (λ e. after-typed m k n clock _ _ h (few_for n (at k t) (lawful_at k t b.lawful)))
    (λ e. keyed-keys (key_of i) n clock t (item-fits i h))

items-keys : {m : Limits} {Q : ℕ} {t : Table} (n clock : ℕ) (l : List Item) → Peer n → clock < word → Each (λ (i : Item). i.hash < top) l → Bounded m Q t
    → Each KeyTyped (not_found_each m n clock l t).keys
unfolding not_found_each
items-keys n clock [] p w a b = tt
items-keys {m} {Q} {t} n clock (i ∷ l) p w a b =
    let x = not_found_one m n clock i t in
    let rest = items-keys {t = x.table} n clock l p w a.1 (bounded-not_found_one n clock i p w a.0 b) in
    each_append KeyTyped x.keys (not_found_each m n clock l x.table).keys (one_keys n clock i a.0 b) rest

pub missing-typed : (s : State) → Sound s → (n clock : ℕ) (l : List Item) → Peer n → clock < word → Each (λ (i : Item). i.hash < top) l
    → Each KeyTyped (not_found (limits_of s) n clock l s.table).keys
unfolding not_found
missing-typed s g n clock l p w a =
    let x = not_found_each (limits_of s) n clock l s.table in
    each_append KeyTyped x.keys (failed_package_claims (limits_of s) n (packages_in l) clock x.table).keys
    (items-keys n clock l p w a g.bounded) (claims-keys n (packages_in l) clock p w (bounded-not_found_each n clock l p w a g.bounded))
