-- forget_known and disconnected keep the bounds.
use Prim.Native.Nat.{ℕ, ◌<◌, suc}
use mathlib.Core.Path.{◌≡◌, refl}
use mathlib.Core.List.{List, [], ◌∷◌}
use mathlib.Core.Option.{Option, none, some}
use borrow.Author.Tests.{eq-eqb}
use Rattle.ident.specs.Number.{top, Key, place}
use Rattle.machine.specs.Limits.{Limits, word}
use Rattle.machine.specs.State.{Candidate, Owner, Request, Table, owner_is}
use Rattle.machine.specs.Table.{at, has}
use Rattle.machine.specs.Fail.{failed, Listed, parents_for, announce_parents}
use Rattle.machine.specs.Leave.{guarded, owner_parents, forget_known, is_empty, keys_of, announce_each, drop_at_key, drop_each, disconnected}
use Rattle.machine.specs.Sound.{AllFit, Ordered, Lawful, Bounded}
use Rattle.machine.specs.Typed.{Each, KeyTyped}
use Rattle.machine.proofs.Tests.{by_test}
use Rattle.machine.proofs.Table.{lawful_at}
use Rattle.machine.proofs.Change.{bounded-cut}
use Rattle.machine.proofs.Fail.{FewHashes, bounded-failed, bounded-forget, bounded-parents, few_for, owner-peer}

-- ---- forget_known

pub bounded-owner_parents : {m : Limits} {Q : ℕ} {t : Table} (now : ℕ) (o : Option Owner) (r : Request) → now < word → r.owner ≡ o → Lawful r → Bounded m Q t → Bounded m Q (owner_parents m now o r t)
bounded-owner_parents now none r w e l b = b
bounded-owner_parents now (some o) r w e l b = bounded-parents o.connection now _ (owner-peer o.connection r l (rw e (eq-eqb o.connection o.connection refl))) w
    (few_for o.connection r l) b

pub bounded-forget_known : {m : Limits} {Q : ℕ} {t : Table} (k : Key) (now : ℕ) → k.hash < top → now < word → Bounded m Q t → Bounded m Q (forget_known m k now t)
unfolding forget_known
bounded-forget_known {m} {Q} {t} k now s w b = by_test (Bounded m Q) (guarded now (at k t)) (λ e. b)
    (λ e. bounded-forget k s (bounded-owner_parents now (at k t).owner (at k t) w refl (lawful_at k t b.lawful) b))

-- ---- disconnected

pub keys-of : (n lo : ℕ) (t : Table) → Ordered lo t → Each KeyTyped (keys_of n t)
unfolding keys_of
keys-of n lo [] o = tt
keys-of n lo (r ∷ t) o = by_test (Each KeyTyped) (has n r.candidates) (λ e. (o.1, keys-of n (suc (place r.key)) t o.2)) (λ e. keys-of n _ t o.2)

pub bounded-announce_each : {m : Limits} {Q : ℕ} {t : Table} (now : ℕ) (k : Key) (hs : List ℕ) (cs : List Candidate) → now < word → AllFit k cs → FewHashes hs → Bounded m Q t
    → Bounded m Q (announce_each m now hs cs t).table
unfolding announce_each
bounded-announce_each now k hs [] w f a b = b
bounded-announce_each {m = m} {Q = Q} {t = t} now k hs (c ∷ cs) w f a b = bounded-announce_each {t = (announce_parents m c.connection now hs t).table} now k hs cs w f.1 a
    (bounded-parents c.connection now hs (record { positive = f.0.positive; small = f.0.connection }) w a b)

pub bounded-drop_at_key : {m : Limits} {Q : ℕ} {t : Table} (n now : ℕ) (k : Key) → k.hash < top → now < word → Bounded m Q t → Bounded m Q (drop_at_key m n now k t).table
unfolding drop_at_key
bounded-drop_at_key {m} {Q} {t} n now k s w b =
    let t' = (failed k n now t).table in
    let b' = bounded-failed k n now s w b in
    by_test (λ (x : Listed). Bounded m Q x.table) (owner_is n (at k t).owner)
    (λ e. bounded-announce_each now _ _ _ w (by_test (AllFit (at k t').key) (is_empty (parents_for n (at k t))) (λ d. tt) (λ d. (lawful_at k t' b'.lawful).candidates))
    (few_for n (at k t) (lawful_at k t b.lawful)) b')
    (λ e. bounded-cut k n s e b)

bounded-drop_each : {m : Limits} {Q : ℕ} {t : Table} (n now : ℕ) (ks : List Key) → now < word → Each KeyTyped ks → Bounded m Q t → Bounded m Q (drop_each m n now ks t).table
unfolding drop_each
bounded-drop_each n now [] w s b = b
bounded-drop_each {m = m} {Q = Q} {t = t} n now (k ∷ ks) w s b = bounded-drop_each {t = (drop_at_key m n now k t).table} n now ks w s.1 (bounded-drop_at_key n now k s.0 w b)

pub bounded-disconnected : {m : Limits} {Q : ℕ} {t : Table} (n now : ℕ) → now < word → Bounded m Q t → Bounded m Q (disconnected m n now t).table
unfolding disconnected
bounded-disconnected {m} {Q} {t} n now w b = bounded-drop_each n now (keys_of n t) w (keys-of n 0 t b.ordered) b
