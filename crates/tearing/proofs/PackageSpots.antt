-- The place of a hash beside that of another, and what it says of the request's package.
use Prim.Native.Nat.{ℕ, zero, suc, ◌-◌, ◌%◌, ◌≤◌, ◌<◌}
use mathlib.Core.Path.{◌≡◌, refl, sym, ap, ◌∙◌}
use mathlib.Core.Bool.{Bool, true, false, not, ◌||◌}
use mathlib.Core.List.{List}
use mathlib.Core.Option.{Option, none, some}
use native.Mathlib.Omega.{arith}
use lib.Dec.{ltb, leb}
use lib.ListN.{length, get_or, length-map}
use Rattle.ident.specs.declared.Kind.{Kind}
use Rattle.ident.specs.declared.Kind.TheVariants.{Txid, Wtxid}
use Rattle.ident.specs.Number.{top, Key, wtxid}
use Rattle.regions.specs.declared.Conn.{Conn}
use Rattle.regions.specs.declared.Row.{Row}
use Rattle.regions.specs.Order.{Sorted, Bound}
use Rattle.regions.specs.Rows.{quad_number}
use Rattle.places.specs.Places.{Place, blank}
use Rattle.machine.specs.State.{Package, Request, State, is_some}
use Rattle.machine.specs.Table.{at}
use Rattle.machine.specs.Sound.{Sound}
use Rattle.machine.proofs.Tests.{never}
use Rattle.store.specs.Flat.{places_of}
use Rattle.store.specs.FlatSound.{hash_at}
use Rattle.store.specs.Gather.{kind_is, key_at}
use Rattle.store.specs.Shown.{held_places_in}
use Rattle.store.proofs.Frame.{sizes}
use Rattle.package_stages.specs.Changes.{stage_of, has_place}
use Rattle.package_stages.specs.Records.{place_hashes}
use Rattle.package_stages.proofs.Seeking.{txid-stage, hash_at_lem, missing, tested, its-place}
use Rattle.tearing.specs.Torn.{packaged_row, is_package, Ebbs}
use Rattle.tearing.specs.declared.packaged.Reached.{Reached}
use Rattle.tearing.specs.Places.{Stands, Leads, PackageAt}
use Rattle.tearing.proofs.TornTables.{staged}

-- ---- by its neighbours

neighbours : (ks : List ℕ) (x i : ℕ) → i ≤ length ks → (0 < i → get_or ks (i - 1) 0 < x) → (i < length ks → x ≤ get_or ks i 0) → Sorted ks → Bound ks x i
unfolding Sorted
neighbours ks x i m a c s = record {
  most = m;
  below = λ k l. let e = s k (i - 1) (omega arith) (omega arith) in omega (arith, e, a (omega arith));
  above = λ k l h. let e = s i k l h in omega (arith, e, c (omega arith));
}

-- a place is known, and the hash h lies between it and the one before
pub stood : {ps : List Place} {c : Reached} {h : ℕ} → Stands ps c → (0 < c.at → quad_number c.before < h) → (c.at < length ps → h ≤ quad_number c.hash) → Sorted (place_hashes ps)
    → Bound (place_hashes ps) h c.at
stood {ps} {c} {h} s a b so =
    let d = blank 0 0 in
    let n = length-map ps (λ (p : Place). p.hash) in
    neighbours (place_hashes ps) h c.at (omega (arith, s.most, n))
    (λ l. let e = hash_at_lem ps (c.at - 1) d (omega (arith, s.most, l)) in omega (arith, e, a l, s.before d l))
    (λ l. let m : c.at < length ps = omega (arith, l, n) in let e = hash_at_lem ps c.at d m in omega (arith, e, b m, s.hash d m))
    so

-- ---- what it says

unplaced : (q : Request) → has_place q ≡ false → false ≡ is_some q.«package»
unplaced q e = go q.info q.«package» e
  where
    go : (i : Bool) (p : Option Package) → (i || is_some p) ≡ false → false ≡ is_some p
    go true p e = never (sym e)
    go false p e = sym e

stage-says : (i : Bool) (p : Option Package) → leb 2 (stage_of i p) ≡ is_some p
stage-says i (some p) = staged p.enqueued
stage-says true none = refl
stage-says false none = refl

module _ {b : List ℕ} {h : ℕ} {c : Reached} where
  -- there is no place behind
  pub no_place : held_places_in b ≤ c.at → PackageAt b h c false
  no_place l st xs cs s w k small = let z = sizes w in unplaced (at (wtxid h) st.table) (missing st s h small k.bound (blank 0 0) (λ m e. omega arith))

  module _ (l : c.at < held_places_in b) {a : Bool} (e : a ≡ ltb h (quad_number c.hash)) where
    placed : (st : State) → Sound st → {xs : List Row} (cs : List Conn) → Ebbs b st xs cs → Leads (places_of st.table) h c → h < top → not a ≡ has_place (at (wtxid h) st.table)
    placed st s cs w k small =
        let z = sizes w in
        let m : c.at < length (places_of st.table) = omega arith in
        tested st s h small k.bound (blank 0 0) m (e ∙ ap (ltb h) (k.stands.hash (blank 0 0) m))

    -- that place is another's
    pub other_place : a ≡ true → PackageAt b h c false
    other_place y st xs cs s w k small = unplaced (at (wtxid h) st.table) (sym (placed st s cs w k small) ∙ ap not y)

    pub its-stage : a ≡ false → PackageAt b h c c.packaged
    its-stage y st xs cs s w k small =
        let z = sizes w in
        let t = at (wtxid h) st.table in
        let held : has_place t ≡ true = sym (placed st s cs w k small) ∙ ap not y in
        let d = blank 0 0 in
        k.stands.packaged d (omega arith) ∙ ap is_package (its-place st s h small k.bound held d) ∙ stage-says t.info t.«package»

-- ---- by the row

kind-is : (n : ℕ) → (n ≡ 0 → ⊥) → kind_is n ≡ Wtxid
kind-is zero h = absurd (h refl)
kind-is (suc n) h = refl

module _ {b : List ℕ} (r : Row) where
  pub plain_row : r.bits % 2 ≡ 0 → (st : State) (xs : List Row) (cs : List Conn) → Sound st → Ebbs b st xs cs → hash_at r < top → false ≡ packaged_row st.table r
  plain_row e st xs cs s h small = bare-stage (at (key_at r) st.table).info (at (key_at r) st.table).«package» (txid-stage st s (key_at r) small-key (ap (λ (a : Kind). a) kind))
    where
      small-key : (key_at r).hash < top
      small-key = unfold key_at in small

      kind : (key_at r).kind ≡ Txid
      kind = unfold key_at in ap kind_is e

      bare-stage : (i : Bool) (p : Option Package) → stage_of i p ≡ 0 → false ≡ is_some p
      bare-stage i (some p) z = absurd (omega arith)
      bare-stage true none z = refl
      bare-stage false none z = refl

  pub wtxid-row : (r.bits % 2 ≡ 0 → ⊥) → {c : Reached} {held : Bool} → PackageAt b (hash_at r) c held
      → (st : State) (xs : List Row) (cs : List Conn) → Sound st → Ebbs b st xs cs → Leads (places_of st.table) (hash_at r) c → hash_at r < top → held ≡ packaged_row st.table r
  wtxid-row e p st xs cs s h k small = p st xs cs s h k small ∙ ap (λ (k : Key). is_some (at k st.table).«package») (sym key)
    where
      key : key_at r ≡ wtxid (hash_at r)
      key = unfold key_at in ap (λ (j : Kind). record { kind = j; hash = hash_at r }) (kind-is (r.bits % 2) e)
