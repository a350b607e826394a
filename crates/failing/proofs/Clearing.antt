-- Owner, flag, package and parents of a request go: the place first, then the owner.
use Prim.Native.Nat.{ℕ, ◌<◌}
use mathlib.Core.Path.{◌≡◌, refl, sym, ap, subst, ◌∙◌}
use mathlib.Core.Bool.{Bool, true, false, true≢false}
use mathlib.Core.List.{List, []}
use mathlib.Core.Option.{Option, none, some}
use native.Mathlib.Omega.{arith}
use Rattle.ident.specs.declared.Kind.{Kind}
use Rattle.ident.specs.declared.Kind.TheVariants.{Txid, Wtxid}
use Rattle.ident.specs.contracts.KindPartialEq.TheImpl.{eq-value as kind_eq}
use Rattle.ident.specs.Number.{top, Key}
use Rattle.machine.specs.State.{Owner, Package, Request, Table, State, on_table, unowned, owner_is}
use Rattle.machine.specs.Table.{at, change}
use Rattle.machine.specs.Sound.{Packed, Sound}
use Rattle.machine.proofs.Table.{at_key, lawful_at}
use Rattle.machine.proofs.Change.{Shrinks, bounded-change}
use Rattle.machine.proofs.Fail.{parents_none}
use Rattle.machine.proofs.OneKey.{at_changed, owner_held}
use Rattle.machine.proofs.Kept.{sound-table}
use Rattle.store.specs.Image.{Writes}
use Rattle.store.specs.Shown.{Kept}
use Rattle.requests.specs.Changes.{OwnedBare, Makes}
use Rattle.package_stages.specs.Changes.{closed}
use Rattle.failing.proofs.Fusing.{change_fuse, change_none}

shrinks_closed : Shrinks closed
shrinks_closed = record {
  key = λ r. refl;
  at_each = λ r. record {
    fewer = λ p. omega arith;
    less = λ p. omega arith;
    place = omega arith;
    lawful = λ h. record { candidates = h.candidates; owner = h.owner; packed = refl; parents = parents_none; mark = h.mark };
  };
}

-- ---- "only on Wtxid keys"

closed_with : (q : Request) (i : Bool) (p : Option Package) (hs : List ℕ) → i ≡ false → p ≡ none → hs ≡ []
    → closed q ≡ record { key = q.key; candidates = q.candidates; owner = q.owner; info = i; «package» = p; parents = hs; fallback = q.fallback }
closed_with q i p hs a b c = rw (a, b, c)

closed-txid : (q : Request) {j : Kind} (o : Option Owner) (hs : List ℕ) (i : Bool) (p : Option Package) → j ≡ Txid → Packed j o i p hs
    → closed q ≡ record { key = q.key; candidates = q.candidates; owner = q.owner; info = i; «package» = p; parents = hs; fallback = q.fallback }
closed-txid q o hs true (some p) e k = absurd k
closed-txid q o hs true none e k = let z : Txid ≡ Wtxid = sym e ∙ k.1 in let y : ◌≡◌ {A = ℕ} 0 1 = cc in absurd (omega arith)
closed-txid q o hs false (some p) e k = let z : Txid ≡ Wtxid = sym e ∙ k.1 in let y : ◌≡◌ {A = ℕ} 0 1 = cc in absurd (omega arith)
closed-txid q o hs false none e k = closed_with q false none hs refl refl k

-- the kind that is not Wtxid
pub left_txid : (k : Kind) {b : Bool} → b ≡ kind_eq.it k Wtxid → b ≡ false → k ≡ Txid
left_txid Txid e f = refl
left_txid Wtxid e f = absurd (true≢false (sym e ∙ f))

module _ (st : State) (s : Sound st) (k : Key) (small : k.hash < top) where
  pub nothing-closed : k.kind ≡ Txid → {b : List ℕ} → Writes b st → Writes b (on_table (change k closed st.table) st)
  nothing-closed e {b} w =
      let q = at k st.table in
      let same : closed q ≡ q = closed-txid q q.owner q.parents q.info q.«package» (ap (λ (j : Key). j.kind) (at_key k 0 st.table small s.bounded.ordered) ∙ e)
      (lawful_at k st.table s.bounded.lawful).packed in
      subst (λ (t : Table). Writes b (on_table t st)) (sym (change_none k closed 0 st.table s.bounded.ordered s.bounded.filled same)) w

  -- ---- once the place is closed

  abbrev shut : State
  shut = on_table (change k closed st.table) st

  pub shut-sound : Sound shut
  shut-sound = sound-table s (bounded-change k closed small shrinks_closed s.bounded)

  pub shut_kept : {b : List ℕ} → Writes b shut → Kept b
  shut_kept w = record { state = shut; sound = shut-sound; writes = w }

  pub owned-shut : (n : ℕ) → owner_is n (at k st.table).owner ≡ true → OwnedBare n (at k shut.table)
  owned-shut n w =
      let q = at k st.table in
      let h = owner_held n q.owner q.candidates (lawful_at k st.table s.bounded.lawful).owner w in
      subst (OwnedBare n) (sym (at_changed k closed st.table (λ r. refl) s.bounded.ordered h)) (record { owns = w; info = refl; bare = refl })

  pub clears : change k unowned shut.table ≡ change k unowned st.table
  clears = change_fuse k closed unowned 0 st.table (λ r. refl) (λ r z. z) s.bounded.ordered

  pub cleared_from : {b b' : List ℕ} (n : ℕ) → owner_is n (at k st.table).owner ≡ true → Writes b shut → Makes b b' (λ t. OwnedBare n (at k t)) (change k unowned)
      → Writes b' (on_table (change k unowned st.table) st)
  cleared_from {b} {b'} n e w h = subst (λ (t : Table). Writes b' (on_table t st)) clears (h shut shut-sound w (owned-shut n e))
