-- Ascending keys: what stands before a key, and the first and the last of a part.
use Prim.Native.Nat.{ℕ, zero, suc, ◌≤◌, ◌<◌}
use mathlib.Core.Path.{◌≡◌, refl, sym, ap, ◌∙◌}
use mathlib.Core.Bool.{true, false}
use mathlib.Core.List.{List, [], ◌∷◌, ◌++◌}
use native.Mathlib.Omega.{arith}
use lib.ListN.{length, get_or}
use borrow.Author.Tests.{ne_eqb}
use Rattle.ident.specs.Number.{top, Key, place, other}
use Rattle.ident.proofs.Places.{place_same as place-inj}
use Rattle.machine.specs.State.{State, Table}
use Rattle.machine.specs.Table.{at, has}
use Rattle.machine.specs.Leave.{keys_of}
use Rattle.machine.specs.Sound.{Sound, Ordered}
use Rattle.machine.specs.Typed.{Each}
use Rattle.machine.proofs.Announce.{each_map}
use Rattle.machine.proofs.Tests.{by_test}
use Rattle.machine.proofs.At.{at_here, at_there}
use Rattle.merging.specs.Merges.{Rising}
use Rattle.leaving.specs.Parts.{listed}
use Rattle.leaving.proofs.Parts.{InPart, rising_all}
use Rattle.leaving.proofs.Easing.{not_both}

pub each_front : (P : Key → Type 0) (ks js : List Key) → Each P (ks ++ js) → Each P ks
each_front P [] js e = tt
each_front P (k ∷ ks) js e = (e.0, each_front P ks js e.1)

pub each_back : (P : Key → Type 0) (ks js : List Key) → Each P (ks ++ js) → Each P js
each_back P [] js e = e
each_back P (k ∷ ks) js e = each_back P ks js e.1

module _ (k : Key) (js : List Key) where
  pub rising_at : (lo : ℕ) (ks : List Key) → Rising lo (ks ++ (k ∷ js)) → (lo ≤ place k) × (k.hash < top)
  rising_at lo [] r = (r.0, r.1)
  rising_at lo (i ∷ ks) r = let z = rising_at (suc (place i)) ks r.2 in (omega (arith, z.0, r.0), z.1)

  pub rising-before : (lo : ℕ) (ks : List Key) → Rising lo (ks ++ (k ∷ js)) → Each (λ i. place i < place k) ks
  rising-before lo [] r = tt
  rising-before lo (i ∷ ks) r = ((rising_at (suc (place i)) ks r.2).0, rising-before (suc (place i)) ks r.2)

pub before-listed : (k : Key) (ks : List Key) → Each (λ i. place i < place k) ks → listed k ks ≡ false
unfolding listed
before-listed k [] b = refl
before-listed k (i ∷ ks) b = rw (ne_eqb (place i) (place k) (λ e. omega (arith, b.0)), before-listed k ks b.1)

pub before-differ : (k : Key) (ks : List Key) → Each (λ i. place i < place k) ks → Each (λ i. place i ≡ place k → ⊥) ks
before-differ k ks b = each_map (λ i. place i < place k) (λ i. place i ≡ place k → ⊥) ks (λ i h e. omega arith) b

-- ---- the first and the last of a part

last-of : (lo e : ℕ) (ks js : List Key) (d : Key) → Rising lo (ks ++ js) → suc e ≡ length ks
    → Each (λ k. (lo ≤ place k) × (place k ≤ place (get_or ks e d))) ks × Rising (suc (place (get_or ks e d))) js × (lo ≤ place (get_or ks e d))
last-of lo e [] js d r h = absurd (omega arith)
last-of lo zero (a ∷ []) js d r h = (((r.0, omega arith), tt), r.2, r.0)
last-of lo (suc e) (a ∷ []) js d r h = absurd (omega arith)
last-of lo zero (a ∷ (x ∷ ks)) js d r h = absurd (omega arith)
last-of lo (suc e) (a ∷ (x ∷ ks)) js d r h =
    let z = last-of (suc (place a)) e (x ∷ ks) js d r.2 (omega arith) in
    let b = get_or (x ∷ ks) e d in (
      (
        (r.0, omega (arith, z.2)),
        each_map (λ k. (suc (place a) ≤ place k) × (place k ≤ place b)) (λ k. (lo ≤ place k) × (place k ≤ place b)) (x ∷ ks) (λ k q.
            (omega (arith, q.0, r.0), q.1)) z.0,
      ),
      z.1,
      omega (arith, z.2, r.0),
    )

pub record Ends (lo : ℕ) (a b : Key) (ks js : List Key) : Type 0 where
  pub low : lo ≤ place a
  pub part : InPart a b ks
  pub behind : Rising (suc (place b)) js

pub ends_of : (lo e : ℕ) (a : Key) (ks js : List Key) → Rising lo ((a ∷ ks) ++ js) → e ≡ length ks → Ends lo a (get_or (a ∷ ks) e a) (a ∷ ks) js
ends_of lo e a ks js r h =
    let z = last-of (place a) e (a ∷ ks) js a (omega arith, r.1, r.2) (omega arith) in
    record { low = r.0; part = z.0; behind = z.1 }

-- ---- "a connection at most once over both kinds of a hash"

held_keys : (n lo : ℕ) (t : Table) → Ordered lo t → Each (λ k. has n (at k t).candidates ≡ true) (keys_of n t)
unfolding keys_of
held_keys n lo [] o = tt
held_keys n lo (r ∷ t) o =
    let here = at_here r.key r t refl in
    let rest = later (keys_of n t) (from n (suc (place r.key)) t o.2) (held_keys n (suc (place r.key)) t o.2) in
    by_test (λ (l : List Key). Each (λ k. has n (at k (r ∷ t)).candidates ≡ true) l) (has n r.candidates) (λ e. (ap (λ q. has n q.candidates) here ∙ e, rest)) (λ e. rest)
  where
    from : (n lo : ℕ) (t : Table) → Ordered lo t → Each (λ (k : Key). lo ≤ place k) (keys_of n t)
    from n lo [] o = tt
    from n lo (r ∷ t) o =
        let rest = each_map (λ (k : Key). suc (place r.key) ≤ place k) (λ (k : Key). lo ≤ place k) (keys_of n t) (λ k h. omega (arith, o.0)) (from n (suc (place r.key)) t o.2) in
        by_test (Each (λ (k : Key). lo ≤ place k)) (has n r.candidates) (λ e. (o.0, rest)) (λ e. rest)

    later : (ks : List Key) → Each (λ (k : Key). suc (place r.key) ≤ place k) ks → Each (λ k. has n (at k t).candidates ≡ true) ks → Each (λ k. has n (at k (r ∷ t)).candidates ≡ true) ks
    later [] a b = tt
    later (k ∷ ks) a b = (ap (λ q. has n q.candidates) (at_there k r t (λ e. omega (arith, a.0))) ∙ b.0, later ks a.1 b.1)

typed-rising : (lo : ℕ) (ks : List Key) → Rising lo ks → Each (λ k. k.hash < top) ks
typed-rising lo [] r = tt
typed-rising lo (k ∷ ks) r = (r.1, typed-rising (suc (place k)) ks r.2)

-- none of its keys is another's of the other kind
pub apart-keys : (n : ℕ) (st : State) → Sound st → (k : Key) → k.hash < top → has n (at k st.table).candidates ≡ true → Each (λ i. place i ≡ place (other k) → ⊥) (keys_of n st.table)
apart-keys n st s k small h = go (keys_of n st.table) (held_keys n 0 st.table s.bounded.ordered) (typed-rising 0 (keys_of n st.table) (rising_all n st.table s.bounded.ordered))
  where
    go : (ks : List Key) → Each (λ k. has n (at k st.table).candidates ≡ true) ks → Each (λ k. k.hash < top) ks → Each (λ i. place i ≡ place (other k) → ⊥) ks
    go [] a b = tt
    go (i ∷ ks) a b = (
      (λ e. not_both n k st.table small s.bounded.ordered (s.bounded.once n k.hash) h
          (ap (λ (j : Key). has n (at j st.table).candidates) (sym (place-inj i (other k) b.0 small e)) ∙ a.0)),
      go ks a.1 b.1,
    )

pub held-at : (n : ℕ) (st : State) → Sound st → (ks : List Key) (k : Key) (js : List Key) → keys_of n st.table ≡ ks ++ (k ∷ js) → has n (at k st.table).candidates ≡ true
held-at n st s ks k js e = (each_back (λ k. has n (at k st.table).candidates ≡ true) ks (k ∷ js) (rw e at (held_keys n 0 st.table s.bounded.ordered))).0
