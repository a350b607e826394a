-- plan keeps the bounds, and its cursor is a key of 256 bits.
use Prim.Native.Nat.{ℕ, zero, suc, ◌<◌}
use mathlib.Core.Path.{◌≡◌, refl}
use mathlib.Core.Bool.{Bool, true}
use mathlib.Core.List.{List, [], ◌∷◌}
use mathlib.Core.Option.{Option, none, some}
use lib.Dec.{ltb, leb}
use lib.ListN.{length, take}
use borrow.Author.Tests.{eq-eqb}
use Rattle.std.specs.Prelude.{if◌then◌else◌}
use Rattle.ident.specs.Number.{top, Key, place, txid}
use Rattle.machine.specs.Limits.{Limits, max_known_checks, max_request_checks, word}
use Rattle.machine.specs.State.{Owner, Table, State, limits_of, owner_is}
use Rattle.machine.specs.Table.{at, keys}
use Rattle.machine.specs.Announce.{request_parent_at}
use Rattle.machine.specs.Fail.{failed, dedup, parent_of, mark, parents_from, announce_parents, parents_for}
use Rattle.machine.specs.Sweep.{only, round, last_of, handed}
use Rattle.machine.specs.Plan.{Scan, start, consider, phase, Due, due_of, due, expire, cursor_after, expired, scanned}
use Rattle.machine.specs.Sound.{Hashes, CursorFits, Ordered, All, Lawful, Bounded, Sound}
use Rattle.machine.specs.Typed.{Each, KeyTyped}
use Rattle.machine.proofs.Tests.{by_test}
use Rattle.machine.proofs.Table.{lawful_at}
use Rattle.machine.proofs.Announce.{each_append}
use Rattle.machine.proofs.Fail.{Peer, FewHashes, parents-dedup, bounded-failed, bounded-parents, few_for, owner-peer}

-- ---- the owners that are due

pub record DueTyped (d : Due) : Type 0 where
  pub key : d.key.hash < top
  pub peer : Peer d.connection

due_one : (now : ℕ) (k : Key) (o : Option Owner) → k.hash < top → ((n : ℕ) → owner_is n o ≡ true → Peer n) → Each DueTyped (due_of now k o)
due_one now k none s p = tt
due_one now k (some o) s p = by_test (Each DueTyped) (leb o.deadline now) (λ e. (record { key = s; peer = p o.connection (eq-eqb o.connection o.connection refl) }, tt)) (λ e. tt)

pub due-typed : (now lo : ℕ) (t : Table) → Ordered lo t → All Lawful t → Each DueTyped (due now t)
unfolding due
due-typed now lo [] o l = tt
due-typed now lo (r ∷ t) o l = each_append DueTyped (due_of now r.key r.owner) (due now t) (due_one now r.key r.owner o.1 (λ n e. owner-peer n r l.0 e))
    (due-typed now (suc (place r.key)) t o.2 l.1)

pub bounded-due : {m : Limits} {Q : ℕ} {t : Table} (now : ℕ) (d : Due) → now < word → DueTyped d → Bounded m Q t
    → Bounded m Q (announce_parents m d.connection now (parents_for d.connection (at d.key t)) (failed d.key d.connection now t).table).table
bounded-due {m} {Q} {t} now d w a b = bounded-parents d.connection now _ a.peer w (few_for d.connection (at d.key t) (lawful_at d.key t b.lawful))
    (bounded-failed d.key d.connection now a.key w b)

pub bounded-expire : {m : Limits} {Q : ℕ} {t : Table} (now : ℕ) (ds : List Due) → now < word → Each DueTyped ds → Bounded m Q t → Bounded m Q (expire m now ds t).table
unfolding expire
bounded-expire now [] w a b = b
bounded-expire {m = m} {Q = Q} {t = t} now (d ∷ ds) w a b =
    bounded-expire {t = (announce_parents m d.connection now (parents_for d.connection (at d.key t)) (failed d.key d.connection now t).table).table} now ds w a.1 (bounded-due now d w a.0 b)

pub bounded-expired : (now : ℕ) (s : State) → now < word → Sound s → Bounded (limits_of s) s.places (expired now s).table
bounded-expired now s w g = bounded-expire now (due now s.table) w (due-typed now 0 s.table g.bounded.ordered g.bounded.lawful) g.bounded

-- ---- keys of 256 bits

pub keys-typed : (lo : ℕ) (t : Table) → Ordered lo t → Each KeyTyped (keys t)
unfolding keys
keys-typed lo [] o = tt
keys-typed lo (r ∷ t) o = (o.1, keys-typed (suc (place r.key)) t o.2)

only_typed : (p : ℕ → Bool) (ks : List Key) → Each KeyTyped ks → Each KeyTyped (only p ks)
unfolding only
only_typed p [] a = tt
only_typed p (k ∷ ks) a = by_test (Each KeyTyped) (p (place k)) (λ e. (a.0, only_typed p ks a.1)) (λ e. only_typed p ks a.1)

pub round-typed : (c : Option Key) (ks : List Key) → Each KeyTyped ks → Each KeyTyped (round c ks)
unfolding round
round-typed none ks a = a
round-typed (some c) ks a = each_append KeyTyped (only (λ n. ltb (place c) n) ks) _ (only_typed _ ks a) (only_typed _ ks a)

pub take-typed : (n : ℕ) (ks : List Key) → Each KeyTyped ks → Each KeyTyped (take n ks)
take-typed zero ks a = tt
take-typed (suc n) [] a = tt
take-typed (suc n) (k ∷ ks) a = (a.0, take-typed n ks a.1)

last_typed : (ks : List Key) → Each KeyTyped ks → CursorFits (last_of ks)
unfolding last_of
last_typed [] a = tt
last_typed (k ∷ []) a = a.0
last_typed (k ∷ (j ∷ ks)) a = last_typed (j ∷ ks) a.1

-- the cursor that a sweep leaves
pub swept-cursor : (c : Option Key) (lo : ℕ) (t : Table) → Ordered lo t → CursorFits (last_of (handed c (keys t)))
unfolding handed
swept-cursor c lo t o = last_typed (handed c (keys t)) (take-typed max_known_checks (round c (keys t)) (round-typed c (keys t) (keys-typed lo t o)))

-- ---- the cursor that a plan leaves

phase-cursor : (now : ℕ) (t : Table) (ks : List Key) (s : Scan) → Each KeyTyped ks → CursorFits s.last → CursorFits (phase now t ks s).last
unfolding phase consider
phase-cursor now t [] s a c = c
phase-cursor now t (k ∷ ks) s a c = by_test (λ (s : Scan). CursorFits s.last) (leb max_request_checks (length (consider now t k s).chosen)) (λ e. a.0)
    (λ e. phase-cursor now t ks (consider now t k s) a.1 a.0)

pub parents_from-keys : (m : Limits) (n now i : ℕ) (hs : List ℕ) (t : Table) → Hashes hs → Each KeyTyped (parents_from m n now i hs t).keys
unfolding parents_from
parents_from-keys m n now i [] t a = tt
parents_from-keys m n now i (h ∷ hs) t a =
    let x = request_parent_at m (txid h) (parent_of n now h i) t in
    let more = parents_from-keys m n now (suc i) hs (if x.reply then mark (txid h) x.table else x.table) a.1 in
    by_test (Each KeyTyped) x.reply (λ e. (a.0, more)) (λ e. more)

pub parents-keys : (m : Limits) (n now : ℕ) (hs : List ℕ) (t : Table) → FewHashes hs → Each KeyTyped (announce_parents m n now hs t).keys
unfolding announce_parents
parents-keys m n now hs t a = parents_from-keys m n now 0 (dedup hs) t (parents-dedup hs a).hashes

expire-keys : {m : Limits} {Q : ℕ} {t : Table} (now : ℕ) (ds : List Due) → now < word → Each DueTyped ds → Bounded m Q t → Each KeyTyped (expire m now ds t).keys
unfolding expire
expire-keys now [] w a b = tt
expire-keys {m} {Q} {t} now (d ∷ ds) w a b =
    each_append KeyTyped (announce_parents m d.connection now (parents_for d.connection (at d.key t)) (failed d.key d.connection now t).table).keys _
    (parents-keys m d.connection now _ _ (few_for d.connection (at d.key t) (lawful_at d.key t b.lawful)))
    (expire-keys {t = (announce_parents m d.connection now (parents_for d.connection (at d.key t)) (failed d.key d.connection now t).table).table} now ds w a.1 (bounded-due now d w a.0 b))

-- the keys that a plan considers first: parents of the owners that are due
pub expired-keys : (now : ℕ) (s : State) → now < word → Sound s → Each KeyTyped (expired now s).keys
expired-keys now s w g = expire-keys now (due now s.table) w (due-typed now 0 s.table g.bounded.ordered g.bounded.lawful) g.bounded

pub plan-cursor : (now : ℕ) (asked : Option (List Key)) (s : State) → now < word → Sound s → CursorFits (cursor_after asked (scanned now asked s).last s.ready_cursor)
plan-cursor now none s w g =
    let t = (expired now s).table in
    phase-cursor now t _ _ (round-typed s.ready_cursor (keys t) (keys-typed 0 t (bounded-expired now s w g).ordered)) (phase-cursor now t _ start (expired-keys now s w g) tt)
plan-cursor now (some ks) s w g = g.ready
