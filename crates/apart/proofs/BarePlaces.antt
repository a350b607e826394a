-- The places of a table: tables that hold the same at every key have the same places; each place is that of the request at its hash.
use Prim.Native.Nat.{ℕ, suc, ◌≤◌, ◌<◌}
use mathlib.Core.Path.{◌≡◌, refl, sym, ap, subst, ◌∙◌}
use mathlib.Core.Logic.{inl, inr}
use mathlib.Core.Bool.{Bool, true, false}
use mathlib.Core.List.{List, [], ◌∷◌, ◌++◌}
use mathlib.Core.Option.{Option, none, some}
use native.Mathlib.Omega.{arith}
use lib.Dec.{leb}
use lib.ListN.{length, get_or, length-append}
use lib.Seq.{get_or_at}
use borrow.Author.Tests.{leb-true, leb-false}
use Rattle.ident.specs.declared.Kind.{Kind}
use Rattle.ident.specs.declared.Kind.TheVariants.{Txid, Wtxid}
use Rattle.ident.specs.Number.{top, Key, place, wtxid}
use Rattle.regions.specs.Regions.{each}
use Rattle.places.specs.Places.{Place}
use Rattle.machine.specs.State.{Package, Request, Table, blank}
use Rattle.machine.specs.Table.{at}
use Rattle.machine.specs.Sound.{Ordered, All, Lawful}
use Rattle.machine.specs.Typed.{Each}
use Rattle.machine.proofs.Alone.{Hold, hold_of}
use Rattle.machine.proofs.Announce.{each_append, each_map}
use Rattle.machine.proofs.At.{at_here, at_there}
use Rattle.machine.proofs.Same.{walk, walk_same}
use Rattle.machine.proofs.Table.{at_absent, at_key}
use Rattle.machine.proofs.Tests.{test}
use Rattle.store.specs.Flat.{place_for, places_for, places_of}
use Rattle.store.proofs.Missing.{each_at}
use Rattle.store.proofs.Split.{places_below, places_above, places-at}
use Rattle.package_stages.specs.Changes.{has_place}
use Rattle.package_stages.proofs.Seeking.{place_in, place_held, place-free, holding}

-- ---- what every request of a table gives

-- a law of what stands at each key is a law of each request
pub all_from_at : (P : Request → Type 0) (lo : ℕ) (t : Table) → Ordered lo t → ((j : Key) → P (blank j)) → ((j : Key) → j.hash < top → P (at j t)) → All P t
all_from_at P lo [] o b h = tt
all_from_at P lo (r ∷ t) o b h = (
  subst P (at_here r.key r t refl) (h r.key o.1),
  all_from_at P (suc (place r.key)) t o.2 b (λ j s. elim (test (leb (place j) (place r.key))) [
    | inl e ↦ subst P (sym (at_absent j _ t (omega (arith, leb-true (place j) (place r.key) e)) o.2)) (b j)
    | inr e ↦ subst P (at_there j r t (λ d. omega (arith, leb-false (place j) (place r.key) e))) (h j s)
  ]),
)

module _ {B : Type 0} (g : Request → List B) where
  as_walk : (t : Table) → walk (λ r a. g r ++ a) [] t ≡ each g t
  unfolding walk each
  as_walk [] = refl
  as_walk (r ∷ t) = ap (λ (l : List B). g r ++ l) (as_walk t)

  -- tables that give the same at every key give the same in all
  pub each_same : (t' t : Table) → Ordered 0 t' → Ordered 0 t → ((k : Key) → g (blank k) ≡ []) → ((j : Key) → j.hash < top → g (at j t') ≡ g (at j t)) → each g t' ≡ each g t
  each_same t' t o' o z e =
      sym (as_walk t')
      ∙ walk_same (λ r a. g r ++ a) [] (λ k a. ap (λ (l : List B). l ++ a) (z k)) 0 0 t' t o' o (λ j s a. ap (λ (l : List B). l ++ a) (e j s))
      ∙ as_walk t

  pub each_all : (P : B → Type 0) (t : Table) → All (λ r. Each P (g r)) t → Each P (each g t)
  unfolding each
  each_all P [] a = tt
  each_all P (r ∷ t) a = each_append P (g r) (each g t) a.0 (each_all P t a.1)

-- ---- places

places_by : (q r : Request) → q.key ≡ r.key → hold_of q ≡ hold_of r → places_for q ≡ places_for r
unfolding places_for
places_by q r e h = go q q.info q.«package» ∙ (λ i. bound (e i) (h i)) ∙ sym (go r r.info r.«package»)
  where
    bound : Key → Hold → List Place
    bound k x = place_for (record { key = k; candidates = []; owner = none; info = x.info; «package» = x.«package»; parents = x.parents; fallback = false }) x.info x.«package»

    go : (q : Request) (i : Bool) (p : Option Package)
        → place_for q i p ≡ place_for (record { key = q.key; candidates = []; owner = none; info = q.info; «package» = q.«package»; parents = q.parents; fallback = false }) i p
    go q i (some p) = refl
    go q true none = refl
    go q false none = refl

pub places-held : (j : Key) (t' t : Table) → j.hash < top → Ordered 0 t' → Ordered 0 t → hold_of (at j t') ≡ hold_of (at j t) → places_for (at j t') ≡ places_for (at j t)
places-held j t' t s o' o e = places_by (at j t') (at j t) (at_key j 0 t' s o' ∙ sym (at_key j 0 t s o)) e

pub places_same : (t' t : Table) → Ordered 0 t' → Ordered 0 t → ((j : Key) → j.hash < top → places_for (at j t') ≡ places_for (at j t)) → places_of t' ≡ places_of t
unfolding places_for
places_same t' t o' o e = each_same places_for t' t o' o (λ k. refl) e

-- ---- whose place it is

-- p is the place of the request at its hash's Wtxid key
pub record PlaceOf (t : Table) (p : Place) : Type 0 where
  pub held : has_place (at (wtxid p.hash) t) ≡ true
  pub is : place_in (at (wtxid p.hash) t) ≡ p

wtxid-key : (k : Key) → k.kind ≡ Wtxid → wtxid k.hash ≡ k
wtxid-key k e = ap (λ (x : Kind). record { kind = x; hash = k.hash }) (sym e)

record PlaceFrom (lo : ℕ) (t : Table) (p : Place) : Type 0 where
  from : lo ≤ place (wtxid p.hash)
  whose : PlaceOf t p

places-whose : (lo : ℕ) (t : Table) → Ordered lo t → All Lawful t → Each (PlaceFrom lo t) (places_of t)
unfolding each
places-whose lo [] o l = tt
places-whose lo (r ∷ t) o l = each_append (PlaceFrom lo (r ∷ t)) (places_for r) (places_of t) here (each_map _ _ (places_of t) later (places-whose (suc (place r.key)) t o.2 l.1))
  where
    here : Each (PlaceFrom lo (r ∷ t)) (places_for r)
    here = elim (test (has_place r)) [
      | inl e ↦
          let k = wtxid-key r.key (holding r l.0 e).kind in
          let a : at (wtxid r.key.hash) (r ∷ t) ≡ r = ap (λ (j : Key). at j (r ∷ t)) k ∙ at_here r.key r t refl in
          subst (Each (PlaceFrom lo (r ∷ t))) (sym (place_held r e)) (
            record {
              from = subst (λ (j : Key). lo ≤ place j) (sym k) o.0;
              whose = record { held = ap has_place a ∙ e; is = ap place_in a };
            },
            tt,
          )
      | inr e ↦ subst (Each (PlaceFrom lo (r ∷ t))) (sym (place-free r e)) tt
    ]

    later : (p : Place) → PlaceFrom (suc (place r.key)) t p → PlaceFrom lo (r ∷ t) p
    later p x =
        let a : at (wtxid p.hash) (r ∷ t) ≡ at (wtxid p.hash) t = at_there (wtxid p.hash) r t (λ e. omega (arith, x.from)) in
        record { from = omega (arith, x.from, o.0); whose = record { held = ap has_place a ∙ x.whose.held; is = ap place_in a ∙ x.whose.is } }

module _ (t : Table) (o : Ordered 0 t) (l : All Lawful t) where
  pub place-whose : (i : ℕ) (d : Place) → i < length (places_of t) → PlaceOf t (get_or (places_of t) i d)
  place-whose i d h = (each_at (PlaceFrom 0 t) (places_of t) i d (places-whose 0 t o l) h).whose

  -- a request that has a place has it among them
  pub place-stands : (h : ℕ) (d : Place) → has_place (at (wtxid h) t) ≡ true
      → (length (places_below (wtxid h) t) < length (places_of t)) × (get_or (places_of t) (length (places_below (wtxid h) t)) d ≡ place_in (at (wtxid h) t))
  place-stands h d e =
      let k = wtxid h in
      let q = places-at k 0 t o ∙ ap (λ (l : List Place). places_below k t ++ (l ++ places_above k t)) (place_held (at k t) e) in (
        omega (arith, ap length q, length-append (places_below k t) (place_in (at k t) ∷ places_above k t)),
        ap (λ (l : List Place). get_or l (length (places_below k t)) d) q ∙ get_or_at (places_below k t) (place_in (at k t)) (places_above k t) d (length (places_below k t)) refl,
      )

  -- a hash that no place has
  pub no_place : (h : ℕ) (d : Place) → h < top → ((i : ℕ) → i < length (places_of t) → (get_or (places_of t) i d).hash ≡ h → ⊥) → has_place (at (wtxid h) t) ≡ false
  no_place h d s n = elim (test (has_place (at (wtxid h) t))) [
    | inl e ↦ let x = place-stands h d e in absurd (n _ x.0 (ap (λ (p : Place). p.hash) x.1 ∙ ap (λ (k : Key). k.hash) (at_key (wtxid h) 0 t s o)))
    | inr e ↦ e
  ]

  -- "flag or package .. only on Wtxid keys"
  pub txid-free : (k : Key) → k.hash < top → k.kind ≡ Txid → Lawful (at k t) → has_place (at k t) ≡ false
  txid-free k s e a = elim (test (has_place (at k t))) [
    | inl h ↦
        let z : Txid ≡ Wtxid = sym e ∙ sym (ap (λ (j : Key). j.kind) (at_key k 0 t s o)) ∙ (holding (at k t) a h).kind in
        let y : ◌≡◌ {A = ℕ} 0 1 = cc in absurd (omega arith)
    | inr h ↦ h
  ]
