-- Changes of flag, package and parents keep a state sound, so that one call can follow another.
use Prim.Native.Nat.{ℕ, ◌+◌, ◌≤◌, ◌<◌}
use mathlib.Core.Path.{◌≡◌, refl, ap}
use mathlib.Core.Bool.{Bool, true, false, ◌||◌}
use mathlib.Core.List.{List, []}
use mathlib.Core.Option.{Option, none, some}
use native.Mathlib.Omega.{arith}
use Rattle.ident.specs.declared.Kind.{Kind}
use Rattle.ident.specs.declared.Kind.TheVariants.{Wtxid}
use Rattle.ident.specs.Number.{top, Key, wtxid}
use Rattle.machine.specs.State.{Owner, Package, Request, State, on_table, is_some}
use Rattle.machine.specs.Table.{at, change, any, by, under, by_under, count, count_in, owners, owner_in, place_in, places_held}
use Rattle.machine.specs.Sound.{Packed, Lawful, Ordered, Sound}
use Rattle.machine.proofs.At.{KeepsKey}
use Rattle.machine.proofs.Fail.{parents_none}
use Rattle.machine.proofs.Kept.{sound-table}
use Rattle.machine.proofs.Table.{ordered-change, count-change, owners-change, places-change, all_change, filled-change, lawful_at, at_key}
use Rattle.machine.proofs.Tests.{never}
use Rattle.store.proofs.Placed.{Alike}
use Rattle.package_stages.specs.Changes.{OwnedPlain, flagged}

-- ---- a change beside the rows

module _ (st : State) (s : Sound st) (k : Key) (small : k.hash < top) (g : Request → Request) (key : KeepsKey g) where
  abbrev q : Request
  q = at k st.table

  o : Ordered 0 st.table
  o = s.bounded.ordered

  module _ (same : Alike (g q) q) where
    fewer : (p : Key → ℕ → Bool) → count p (change k g st.table) ≤ count p st.table
    fewer p =
        let e : count_in (p (g q).key) (g q).candidates ≡ count_in (p q.key) q.candidates = rw (same.key, same.candidates) in
        omega (arith, count-change p k g st.table o)

    less : (p : Key → ℕ → Bool) → owners p (change k g st.table) ≤ owners p st.table
    less p =
        let e : owner_in (p (g q).key) (g q).owner ≡ owner_in (p q.key) q.owner = rw (same.key, same.owner) in
        omega (arith, owners-change p k g st.table o)

    pub sound-beside : Lawful (g q) → places_held st.table + place_in (g q).info (g q).«package» ≤ st.places + place_in q.info q.«package» → Sound (on_table (change k g st.table) st)
    sound-beside l r = sound-table s (record {
      ordered = ordered-change k g 0 st.table key (omega arith) small o;
      filled = filled-change k g st.table s.bounded.filled;
      lawful = all_change Lawful k g 0 st.table o l s.bounded.lawful;
      fits = omega (arith, fewer any, s.bounded.fits);
      each = λ n. omega (arith, fewer (by n), s.bounded.each n);
      alternates = λ h. omega (arith, fewer (under h), s.bounded.alternates h);
      once = λ n h. omega (arith, fewer (by_under n h), s.bounded.once n h);
      owned = λ n. omega (arith, less (by n), s.bounded.owned n);
      single = λ h. omega (arith, less (under h), s.bounded.single h);
      room = omega (arith, places-change k g st.table o);
    })

-- ---- parents

-- other parents beside flag or package
pub repacked : (k : Kind) (o : Option Owner) (i : Bool) (p : Option Package) (hs hs' : List ℕ) → (i || is_some p) ≡ true → Packed k o i p hs → Packed k o i p hs'
repacked k o true (some p) hs hs' e f = f
repacked k o true none hs hs' e f = f
repacked k o false (some p) hs hs' e f = f
repacked k o false none hs hs' e f = never e

-- ---- each change, at the Wtxid key with hash h

module _ (st : State) (s : Sound st) (h : ℕ) (small : h < top) where
  abbrev r : Request
  r = at (wtxid h) st.table

  l : Lawful r
  l = lawful_at (wtxid h) st.table s.bounded.lawful

  its-kind : r.key.kind ≡ Wtxid
  its-kind = ap (λ (j : Key). j.kind) (at_key (wtxid h) 0 st.table small s.bounded.ordered)

  pub sound-flagged : OwnedPlain r → places_held st.table < st.places → Sound (on_table (change (wtxid h) flagged st.table) st)
  sound-flagged p room =
      let packed : Packed r.key.kind r.owner true r.«package» [] = rw p.bare (p.owned, its-kind) in
      let a : place_in true r.«package» ≡ 1 = rw p.bare in
      sound-beside st s (wtxid h) small flagged (λ q. refl) (record { key = refl; candidates = refl; owner = refl; fallback = refl })
      (record { candidates = l.candidates; owner = l.owner; packed = packed; parents = parents_none; mark = l.mark }) (omega arith)
