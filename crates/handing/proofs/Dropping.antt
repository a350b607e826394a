-- An owner dropped at a key, as the code does it: it fails, then the parents are announced for the candidates left.
use Prim.Native.Nat.{ℕ, ◌<◌}
use mathlib.Core.Path.{◌≡◌, refl, sym, ap, subst, ◌∙◌}
use mathlib.Core.Bool.{Bool, true}
use mathlib.Core.List.{List, [], ◌∷◌, ◌++◌}
use Rattle.std.specs.Prelude.{if◌then◌else◌}
use Rattle.ident.specs.Number.{top, Key}
use Rattle.machine.specs.Limits.{Limits, word}
use Rattle.machine.specs.State.{Candidate, State, Table, limits_of, on_table, owner_is}
use Rattle.machine.specs.Table.{at}
use Rattle.machine.specs.Fail.{Listed, nothing, failed, dedup, parents_from, announce_parents, parents_for}
use Rattle.machine.specs.Announce.{cut}
use Rattle.machine.specs.Leave.{is_empty, announce_each, drop_at_key}
use Rattle.machine.specs.Sound.{Sound, AllFit}
use Rattle.machine.proofs.Table.{lawful_at}
use Rattle.machine.proofs.Fail.{bounded-failed}
use Rattle.machine.proofs.Kept.{sound-table}
use Rattle.store.specs.Image.{Writes}
use Rattle.store.specs.Shown.{Kept}
use Rattle.requests.specs.Changes.{Tells}
use Rattle.announcing.specs.Answers.{Answered}
use Rattle.merging.specs.Merges.{Takes}
use Rattle.handing.specs.Hands.{conns_of, Peers, announce_for, Roomy, KeysMerged}
use Rattle.handing.proofs.Announcing.{same_state}

-- ---- the machine

each_for : (m : Limits) (now : ℕ) (hs : List ℕ) (cs : List Candidate) (t : Table) → announce_each m now hs cs t ≡ announce_for m now hs (conns_of cs) t
unfolding announce_each announce_for
each_for m now hs [] t = refl
each_for m now hs (c ∷ cs) t =
    let a = announce_parents m c.connection now hs t in
    ap (λ (x : Listed). joined a x) (each_for m now hs cs a.table)
  where
    joined : Listed → Listed → Listed
    joined a x = record { keys = a.keys ++ x.keys; table = x.table }

for_none : (m : Limits) (now : ℕ) (ns : List ℕ) (t : Table) → announce_for m now [] ns t ≡ nothing t
unfolding announce_for announce_parents dedup parents_from
for_none m now [] t = refl
for_none m now (n ∷ ns) t = for_none m now ns t

-- whoever is left: with no parents there is nothing to announce
pub for_left : (m : Limits) (now : ℕ) (hs : List ℕ) (cs : List Candidate) (t : Table) → announce_each m now hs (if is_empty hs then [] else cs) t ≡ announce_for m now hs (conns_of cs) t
for_left m now [] cs t = each_for m now [] [] t ∙ for_none m now [] t ∙ sym (for_none m now (conns_of cs) t)
for_left m now (h ∷ hs) cs t = each_for m now (h ∷ hs) cs t

pub drop_is : (m : Limits) (n now : ℕ) (k : Key) (t : Table) → owner_is n (at k t).owner ≡ true
    → drop_at_key m n now k t ≡ announce_for m now (parents_for n (at k t)) (conns_of (at k (failed k n now t).table).candidates) (failed k n now t).table
unfolding drop_at_key
drop_is m n now k t e =
    ap (λ (b : Bool). if b then announce_each m now (parents_for n (at k t)) (if is_empty (parents_for n (at k t)) then [] else (at k (failed k n now t).table).candidates)
    (failed k n now t).table else nothing (cut k n t)) e
    ∙ for_left m now (parents_for n (at k t)) (at k (failed k n now t).table).candidates (failed k n now t).table

-- ---- bytes

peers_of : (k : Key) (cs : List Candidate) → AllFit k cs → Peers (conns_of cs)
peers_of k [] a = tt
peers_of k (c ∷ cs) a = ((a.0.positive, a.0.connection), peers_of k cs a.1)

module _ (k : Key) (small : k.hash < top) (n now : ℕ) (late : now < word) {b b₁ : List ℕ} {r : Bool} (a : Answered b b₁ r (λ m t. failed k n now t)) where
  abbrev after : State → State
  after st = on_table (failed k n now st.table).table st

  after-sound : (st : State) → Sound st → Sound (after st)
  after-sound st s = sound-table s (bounded-failed k n now small late s.bounded)

  pub drop_kept : Kept b → Kept b₁
  drop_kept p = record { state = after p.state; sound = after-sound p.state p.sound; writes = a.table p.state p.sound p.writes }

  module _ (own : Tells b (λ t. owner_is n (at k t).owner ≡ true)) (hs : List ℕ) (h : Tells b (λ t. hs ≡ parents_for n (at k t))) (ns : List ℕ)
      (g : Tells b₁ (λ t. ns ≡ conns_of (at k t).candidates)) where
    pub drop_peers : Kept b → Peers ns
    drop_peers p =
        let q = drop_kept p in
        rw (g q.state q.sound q.writes) (peers_of _ (at k q.state.table).candidates (lawful_at k q.state.table q.sound.bounded.lawful).candidates)

    same : (st : State) → Sound st → Writes b st → drop_at_key (limits_of st) n now k st.table ≡ announce_for (limits_of st) now hs ns (after st).table
    same st s w =
        drop_is (limits_of st) n now k st.table (own st s w)
        ∙ ap (λ (l : List ℕ). announce_for (limits_of st) now l (conns_of (at k (after st).table).candidates) (after st).table) (sym (h st s w))
        ∙ ap (λ (l : List ℕ). announce_for (limits_of st) now hs l (after st).table) (sym (g (after st) (after-sound st s) (a.table st s w)))

    pub drop-room : (u : List ℕ) (c : ℕ) → Kept b → Roomy b u c (λ m t. drop_at_key m n now k t) → Roomy b₁ u c (λ m t. announce_for m now hs ns t)
    drop-room u c p room st s w =
        let x = p.state in
        let e = same_state (after x) st (after-sound x p.sound) s (a.table x p.sound p.writes) w in
        subst (λ (z : State). Takes (announce_for (limits_of z) now hs ns z.table).keys u c) e
        (subst (λ (l : Listed). Takes l.keys u c) (same x p.sound p.writes) (room x p.sound p.writes))

    pub dropped : {b₂ u u₂ : List ℕ} {c q : ℕ} → KeysMerged b₁ b₂ u u₂ c q (λ m t. announce_for m now hs ns t) → KeysMerged b b₂ u u₂ c q (λ m t. drop_at_key m n now k t)
    dropped {b₂} {u} {u₂} {c} {q} m = record {
      merged = λ st s w. rw (same st s w) (m.merged (after st) (after-sound st s) (a.table st s w));
      table = λ st s w. rw (same st s w) (m.table (after st) (after-sound st s) (a.table st s w));
    }
