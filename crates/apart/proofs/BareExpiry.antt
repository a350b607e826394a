-- One owner that expires: on the table without packages it is the same, and its place, unless Enqueued, is the one that goes.
use Prim.Native.Nat.{ℕ, ◌<◌}
use mathlib.Core.Path.{◌≡◌, refl, sym, ap, subst, ◌∙◌}
use mathlib.Core.Logic.{inl, inr}
use mathlib.Core.Bool.{Bool, true, false, not, ◌||◌}
use mathlib.Core.List.{List, [], ◌∷◌, ◌++◌}
use lib.Dec.{eqb}
use borrow.Author.Tests.{eqb-true, eqb-false, eq-eqb, ne_eqb}
use Rattle.ident.specs.declared.Kind.{Kind}
use Rattle.ident.specs.declared.Kind.TheVariants.{Wtxid}
use Rattle.ident.specs.Number.{top, Key, place, wtxid}
use Rattle.ident.proofs.Places.{place_same as place-inj}
use Rattle.regions.specs.Regions.{each}
use Rattle.places.specs.Places.{Place}
use Rattle.machine.specs.Limits.{Limits, word}
use Rattle.machine.specs.State.{Request, Table, Answer, blank, owner_is, enqueued_in, is_some}
use Rattle.machine.specs.Table.{at}
use Rattle.machine.specs.Fail.{failed, dedup, announce_parents, parents_for}
use Rattle.machine.specs.Sound.{NoRepeat, Lawful, Bounded}
use Rattle.machine.specs.Typed.{Each}
use Rattle.machine.proofs.Alone.{Hold, hold_of, no_hold, alone-parents}
use Rattle.machine.proofs.Expired.{failed_here, failed-elsewhere}
use Rattle.machine.proofs.Fail.{few_for, bounded-failed, bounded-parents, owner-peer}
use Rattle.machine.proofs.Table.{at_key, lawful_at}
use Rattle.machine.proofs.Tests.{test}
use Rattle.machine.proofs.Distinct.{but-absent as but_none}
use Rattle.store.specs.Flat.{places_for, places_of}
use Rattle.package_stages.specs.Changes.{has_place}
use Rattle.package_stages.specs.Dead.{filter}
use Rattle.package_stages.proofs.Compacting.{filter-append, filter_none}
use Rattle.package_stages.proofs.Seeking.{place_in, place_held, place-free, holding}
use Rattle.apart.specs.Bare.{bare, bare_listed, other_than}
use Rattle.apart.proofs.BareChange.{failed-bare, enqueued_stays}
use Rattle.apart.proofs.BareAnnounce.{announce_parents-bare}
use Rattle.apart.proofs.BarePlaces.{all_from_at, each_same, each_all, places-held, places_same}

-- ---- the parents of an owner

module _ (n : ℕ) (r : Request) where
  pub parents-beside : owner_is n r.owner ≡ true → has_place r ≡ true → parents_for n r ≡ r.parents
  parents-beside o e = rw (o, e)

  pub no-parents : has_place r ≡ false → parents_for n r ≡ []
  no-parents e = elim (test (owner_is n r.owner)) [ inl o ↦ rw (o, e) | inr o ↦ rw o ]

pub dedup-distinct : (hs : List ℕ) → NoRepeat hs → dedup hs ≡ hs
unfolding dedup
dedup-distinct [] a = refl
dedup-distinct (h ∷ hs) a = rw (dedup-distinct hs a.1, but_none h hs a.0)

-- ---- without packages

module _ (m : Limits) (k : Key) (n now : ℕ) (hs : List ℕ) (t : Table) where
  pub expired-bare : enqueued_in (at k t).«package» ≡ false
      → announce_parents m n now hs (failed k n now (bare t)).table ≡ bare_listed (announce_parents m n now hs (failed k n now t).table)
  expired-bare e = ap (λ (a : Answer). announce_parents m n now hs a.table) (failed-bare k n now t e) ∙ announce_parents-bare m n now hs (failed k n now t).table

  pub expired-enqueued : enqueued_in (at k t).«package» ≡ true
      → announce_parents m n now hs (bare t) ≡ bare_listed (announce_parents m n now hs (failed k n now t).table)
  expired-enqueued e = announce_parents-bare m n now hs t ∙ sym (ap (λ (a : Answer). bare_listed (announce_parents m n now hs a.table)) (enqueued_stays k n now t e))

-- ---- the places

-- those of a request that have another hash than h
abbrev places_but : ℕ → Request → List Place
places_but h r = filter (other_than h) (places_for r)

filter-nil : (q : Place → Bool) → filter q [] ≡ []
unfolding filter
filter-nil q = refl

filter_all : (q : Place → Bool) (ps : List Place) → Each (λ p. q p ≡ true) ps → filter q ps ≡ ps
unfolding filter
filter_all q [] a = refl
filter_all q (p ∷ ps) a = rw (a.0, filter_all q ps a.1)

filter_each : (h : ℕ) (t : Table) → filter (other_than h) (places_of t) ≡ each (places_but h) t
unfolding each
filter_each h [] = filter-nil (other_than h)
filter_each h (r ∷ t) = filter-append (other_than h) (places_for r) (places_of t) ∙ ap (λ (l : List Place). filter (other_than h) (places_for r) ++ l) (filter_each h t)

blank-but : (h : ℕ) (k : Key) → places_but h (blank k) ≡ []
unfolding places_for filter
blank-but h k = refl

none_blank : (h : ℕ) (k : Key) → Each (λ p. other_than h p ≡ true) (places_for (blank k))
unfolding places_for
none_blank h k = tt

-- a request's own hash
its_own : (r : Request) (h : ℕ) → r.key.hash ≡ h → places_but h r ≡ []
its_own r h e = elim (test (has_place r)) [
  | inl f ↦ ap (filter (other_than h)) (place_held r f) ∙ filter_none (other_than h) (place_in r) (ap not (eq-eqb r.key.hash h e))
  | inr f ↦ ap (filter (other_than h)) (place-free r f) ∙ filter-nil (other_than h)
]

another : (r : Request) → Lawful r → (h : ℕ) → (r.key.kind ≡ Wtxid → r.key.hash ≡ h → ⊥) → Each (λ p. other_than h p ≡ true) (places_for r)
another r l h n = elim (test (has_place r)) [
  | inl f ↦ subst (Each (λ p. other_than h p ≡ true)) (sym (place_held r f)) (ap not (ne_eqb r.key.hash h (n (holding r l f).kind)), tt)
  | inr f ↦ subst (Each (λ p. other_than h p ≡ true)) (sym (place-free r f)) tt
]

wtxid_is : (k : Key) → k.kind ≡ Wtxid → k ≡ wtxid k.hash
wtxid_is k e = ap (λ (x : Kind). record { kind = x; hash = k.hash }) e

wtxid_of : (r : Request) (j : Key) (h : ℕ) → r.key ≡ j → r.key.kind ≡ Wtxid → r.key.hash ≡ h → j ≡ wtxid h
wtxid_of r j h e x y = sym e ∙ (λ i. record { kind = x i; hash = y i })

module _ {m : Limits} {Q : ℕ} {t : Table} (k : Key) (n now : ℕ) (s : k.hash < top) (w : now < word) (b : Bounded m Q t) (own : owner_is n (at k t).owner ≡ true) where
  -- the table with the owner n of k expired
  abbrev after : Table
  after = (announce_parents m n now (parents_for n (at k t)) (failed k n now t).table).table

  lawful : Lawful (at k t)
  lawful = lawful_at k t b.lawful

  pub bounded-after : Bounded m Q after
  bounded-after = bounded-parents n now _ (owner-peer n (at k t) lawful own) w (few_for n (at k t) lawful) (bounded-failed k n now s w b)

  parents-keep : (j : Key) → j.hash < top → hold_of (at j after) ≡ hold_of (at j (failed k n now t).table)
  parents-keep j h = (alone-parents n now _ (owner-peer n (at k t) lawful own) w (few_for n (at k t) lawful) (bounded-failed k n now s w b)).hold j h

  elsewhere : (j : Key) → j.hash < top → (place j ≡ place k → ⊥) → places_for (at j after) ≡ places_for (at j t)
  elsewhere j h d = places-held j after t h bounded-after.ordered b.ordered (parents-keep j h ∙ failed-elsewhere k n now s b j h d)

  -- Enqueued: the owner stays, and with it the place
  pub places-enqueued : enqueued_in (at k t).«package» ≡ true → places_of after ≡ places_of t
  places-enqueued e =
      places_same after t bounded-after.ordered b.ordered
      (λ j h. places-held j after t h bounded-after.ordered b.ordered (parents-keep j h ∙ ap (λ (a : Answer). hold_of (at j a.table)) (enqueued_stays k n now t e)))

  module _ (e : enqueued_in (at k t).«package» ≡ false) where
    nothing_held : hold_of (at k after) ≡ no_hold
    nothing_held = parents-keep k s ∙ failed_here k n now s b (rw (own, e) refl)

    emptied : places_for (at k after) ≡ []
    emptied = place-free (at k after) (ap (λ (x : Hold). x.info || is_some x.«package») nothing_held)

    -- it had none
    pub places_unheld : has_place (at k t) ≡ false → places_of after ≡ places_of t
    places_unheld f = places_same after t bounded-after.ordered b.ordered (λ j h. elim (test (eqb (place j) (place k))) [
      | inl d ↦ rw (place-inj j k h s (eqb-true _ _ d)) (emptied ∙ sym (place-free (at k t) f))
      | inr d ↦ elsewhere j h (eqb-false _ _ d)
    ])

    -- the place of k's hash, if there is one, is the one that goes
    pub places-without : k.kind ≡ Wtxid → places_of after ≡ filter (other_than k.hash) (places_of t)
    places-without f =
        sym (filter_all (other_than k.hash) (places_of after) (each_all places_for _ after (all_from_at _ 0 after bounded-after.ordered (none_blank k.hash) others)))
        ∙ (filter_each k.hash after ∙ each_same (places_but k.hash) after t bounded-after.ordered b.ordered (blank-but k.hash) same ∙ sym (filter_each k.hash t))
      where
        same : (j : Key) → j.hash < top → places_but k.hash (at j after) ≡ places_but k.hash (at j t)
        same j u = elim (test (eqb (place j) (place k))) [
          | inl d ↦
              rw (place-inj j k u s (eqb-true _ _ d))
              (ap (filter (other_than k.hash)) emptied ∙ filter-nil (other_than k.hash) ∙ sym (its_own (at k t) k.hash (ap (λ (i : Key). i.hash) (at_key k 0 t s b.ordered))))
          | inr d ↦ ap (filter (other_than k.hash)) (elsewhere j u (eqb-false _ _ d))
        ]

        others : (j : Key) → j.hash < top → Each (λ p. other_than k.hash p ≡ true) (places_for (at j after))
        others j u = elim (test (eqb (place j) (place k))) [
          | inl d ↦ subst (Each (λ p. other_than k.hash p ≡ true)) (sym (ap (λ (i : Key). places_for (at i after)) (place-inj j k u s (eqb-true _ _ d)) ∙ emptied)) tt
          | inr d ↦
              another (at j after) (lawful_at j after bounded-after.lawful) k.hash
              (λ x y. eqb-false _ _ d (ap place (wtxid_of (at j after) j k.hash (at_key j 0 after u bounded-after.ordered) x y ∙ sym (wtxid_is k f))))
        ]
