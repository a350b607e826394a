-- An owner whose time is over, where the places are set apart: what is read of its place, what failing and announcing make of the whole.
use Prim.Native.Nat.{ℕ, zero, suc, ◌+◌, ◌-◌, ◌≤◌, ◌<◌}
use mathlib.Core.Path.{◌≡◌, refl, sym, ap, subst, ◌∙◌}
use mathlib.Core.Logic.{inl, inr}
use mathlib.Core.Bool.{Bool, true, false}
use mathlib.Core.List.{List, [], ◌∷◌, ◌++◌}
use mathlib.Core.Option.{Option, none, some}
use native.Mathlib.Omega.{arith}
use lib.Dec.{eqb}
use lib.ListN.{length, take, drop, get_or, set}
use lib.Seq.{take_at, drop_at, length-take-le}
use borrow.Author.Tests.{lt-ltb, eq-eqb, ne_eqb}
use Rattle.ident.specs.declared.Kind.TheVariants.{Wtxid}
use Rattle.std.specs.Prelude.{if◌then◌else◌}
use Rattle.ident.specs.Number.{top, Key, wtxid}
use Rattle.words.specs.Words.{words}
use Rattle.regions.specs.Regions.{Holds}
use Rattle.places.specs.Places.{Place, list_most, place_size, blank, with_stage}
use Rattle.machine.specs.Limits.{word}
use Rattle.machine.specs.State.{Package, Table, State, Answer, limits_of, on_table, owner_is, enqueued_in}
use Rattle.machine.specs.Table.{at, one}
use Rattle.machine.specs.Announce.{victims, anywhere}
use Rattle.machine.specs.Fail.{Listed, failed, dedup, parents_from, announce_parents, parents_for}
use Rattle.machine.specs.Sound.{Lawful, Bounded}
use Rattle.machine.specs.Typed.{Each}
use Rattle.machine.proofs.Alone.{alone-parents}
use Rattle.machine.proofs.Fail.{bounded-failed, few_for, owner-peer, bounded-parents}
use Rattle.machine.proofs.Kept.{sound-table}
use Rattle.machine.proofs.Table.{lawful_at}
use Rattle.machine.proofs.Tests.{test}
use Rattle.store.specs.Flat.{places_of}
use Rattle.store.specs.FlatSound.{PlacesAscend}
use Rattle.store.proofs.Missing.{each_at}
use Rattle.package_stages.specs.Changes.{stage_of, has_place}
use Rattle.package_stages.specs.Dead.{filter, live}
use Rattle.package_stages.proofs.Seeking.{place_in}
use Rattle.apart.specs.declared.noting.Announced.{Announced}
use Rattle.apart.specs.declared.slots.Spot.{Spot}
use Rattle.apart.specs.Bare.{bare, bare_state, bare_listed, other_than}
use Rattle.apart.specs.Apart.{Slot, slot_words, dying, plain, Slots, SlotOf, Altered, SpotHeld}
use Rattle.apart.specs.Delayed.{Delay, Front, Fails, Around}
use Rattle.apart.specs.Noting.{hashes_at, picked_in, NotedAt, Noted}
use Rattle.apart.specs.Lapsing.{nowhere, lapsed, LapsedTo, expire_at, PlaceExpired}
use Rattle.parenting.specs.Displacing.{Spent}
use Rattle.parenting.proofs.SpentStill.{spent-failed}
use Rattle.postponing.specs.Pending.{Plain}
use Rattle.postponing.proofs.Starting.{plain_alone, pending_plain}
use Rattle.apart.proofs.BareTable.{victims-bare, bounded-bare}
use Rattle.apart.proofs.Delays.{front_on}
use Rattle.apart.proofs.BareChange.{failed-bare, enqueued_stays}
use Rattle.apart.proofs.BareAnnounce.{parents_from-bare}
use Rattle.apart.proofs.BarePlaces.{PlaceOf, place-whose}
use Rattle.apart.proofs.BareExpiry.{parents-beside, dedup-distinct, bounded-after, places-enqueued, places-without}
use Rattle.apart.proofs.SlotWords.{plain_at, plain-long, plain-set}
use Rattle.apart.proofs.Notes.{slot_all}
use Rattle.apart.proofs.Spotting.{ascend_above as ascend-least}

-- ---- the front of a store, lent and come back

module _ (b v : List ℕ) (m : ℕ) (l : m ≤ length b) (n : length v ≡ length (take m b)) where
  abbrev again : List ℕ
  again = v ++ drop m b

  long : length v ≡ m
  long = n ∙ length-take-le m b l

  pub front_is : take m again ≡ v
  front_is = take_at v (drop m b) m long

  pub rest_stays : drop m again ≡ drop m b
  rest_stays = drop_at v (drop m b) m long

pub slots_rest : {b b' f : List ℕ} {m Q : ℕ} {xs : List Slot} → drop m b' ≡ drop m b → Slots b f m Q xs → Slots b' f m Q xs
slots_rest {Q = Q} {xs = xs} e s = record {
  some = s.some;
  few = s.few;
  first = s.first;
  rest = subst (λ (z : List ℕ). Holds place_size slot_words (Q - 1) (drop 1 xs) (words z)) (sym e)
      s.rest;
}

-- ---- filters

module _ {A : Type 0} (q : A → Bool) where
  pub record Among (l : List A) (x d : A) : Type 0 where
    pub index : ℕ
    pub inside : index < length l
    pub is : get_or l index d ≡ x

  pub filter-has : (l : List A) (i : ℕ) (d : A) → i < length l → q (get_or l i d) ≡ true → Among (filter q l) (get_or l i d) d
  unfolding filter
  filter-has [] i d h e = absurd (omega arith)
  filter-has (a ∷ l) zero d h e = rw e (record { index = 0; inside = omega arith; is = refl })
  filter-has (a ∷ l) (suc i) d h e =
      let g = filter-has l i d (omega arith) e in
      elim (test (q a)) [ inl z ↦ rw z (record { index = suc g.index; inside = omega (arith, g.inside); is = g.is }) | inr z ↦ rw z g ]

  pub record From (l : List A) (x d : A) : Type 0 where
    pub index : ℕ
    pub inside : index < length l
    pub is : get_or l index d ≡ x
    pub passes : q (get_or l index d) ≡ true

  later : (a : A) (l : List A) (x d : A) → From l x d → From (a ∷ l) x d
  later a l x d g = record { index = suc g.index; inside = omega (arith, g.inside); is = g.is; passes = g.passes }

  pub filter_from : (l : List A) (i : ℕ) (d : A) → i < length (filter q l) → From l (get_or (filter q l) i d) d
  unfolding filter
  filter_from [] i d h = absurd (omega arith)
  filter_from (a ∷ l) i d h = elim (test (q a)) [
    | inl z ↦ rw z (here z (λ j g. filter_from l j d g) i (rw z at h))
    | inr z ↦ rw z (later a l (get_or (filter q l) i d) d (filter_from l i d (rw
        z at h)))
  ]
    where
      here : q a ≡ true → ((j : ℕ) → j < length (filter q l) → From l (get_or (filter q l) j d) d) → (i : ℕ) → i < length (a ∷ filter q l) → From (a ∷ l) (get_or (a ∷ filter q l) i d) d
      here z g zero h = record { index = 0; inside = omega arith; is = refl; passes = z }
      here z g (suc i) h = later a l (get_or (filter q l) i d) d (g i (omega arith))

-- ---- a place dies

above_other : (h lo : ℕ) (ps : List Place) → h < lo → PlacesAscend lo ps → filter (other_than h) (filter live ps) ≡ filter live ps
unfolding filter
above_other h lo [] l a = refl
above_other h lo (p ∷ ps) l a =
    let e : eqb p.hash h ≡ false = ne_eqb p.hash h (λ z. omega (arith, a.0)) in
    let g = above_other h (suc p.hash) ps (omega (arith, a.0)) a.1 in
    elim (test (live p)) [ inl z ↦ rw (z, e, g) | inr z ↦ rw (z, g) ]

pub dies-filter : (lo : ℕ) (ps : List Place) (i : ℕ) (d : Place) → PlacesAscend lo ps → i < length ps
    → filter live (set ps i (with_stage 0 (get_or ps i d))) ≡ filter (other_than (get_or ps i d).hash) (filter live ps)
unfolding filter
dies-filter lo [] i d a l = absurd (omega arith)
dies-filter lo (p ∷ ps) zero d a l =
    let e : eqb p.hash p.hash ≡ true = eq-eqb p.hash p.hash refl in
    let g = above_other p.hash (suc p.hash) ps (omega arith) a.1 in
    elim (test (live p)) [ inl z ↦ rw (z, e, g) | inr z ↦ rw (z, g) ]
dies-filter lo (p ∷ ps) (suc i) d a l =
    let h = ascend-least (suc p.hash) ps i d a.1 (omega arith) in
    let e : eqb p.hash (get_or ps i d).hash ≡ false = ne_eqb p.hash (get_or ps i d).hash (λ z. omega arith) in
    let g = dies-filter (suc p.hash) ps i d a.1 (omega arith) in
    elim (test (live p)) [ inl z ↦ rw (z, g, e) | inr z ↦ rw (z, g) ]

dies-ascend : (lo : ℕ) (ps : List Place) (i : ℕ) (d : Place) → PlacesAscend lo ps → PlacesAscend lo (set ps i (with_stage 0 (get_or ps i d)))
dies-ascend lo [] i d a = a
dies-ascend lo (p ∷ ps) zero d a = a
dies-ascend lo (p ∷ ps) (suc i) d a = (a.0, dies-ascend (suc p.hash) ps i d a.1)

dies-short : (ps : List Place) (i : ℕ) (d : Place) → Each (λ p. length p.parents ≤ list_most) ps → Each (λ p. length p.parents ≤ list_most) (set ps i (with_stage 0 (get_or ps i d)))
dies-short [] i d a = a
dies-short (p ∷ ps) zero d a = a
dies-short (p ∷ ps) (suc i) d a = (a.0, dies-short ps i d a.1)

-- ---- the request of a place

stage-enqueued : (i : Bool) (q : Option Package) → enqueued_in q ≡ eqb (stage_of i q) 3
stage-enqueued i (some p) = go p.enqueued
  where
    go : (b : Bool) → b ≡ eqb (2 + one b) 3
    go true = refl
    go false = refl
stage-enqueued true none = refl
stage-enqueued false none = refl

wtxid-key : (k : Key) (h : ℕ) → k.kind ≡ Wtxid → h ≡ k.hash → wtxid h ≡ k
wtxid-key k h e z = (λ i. record { kind = sym e i; hash = z i })

-- the places once one has died
module _ (r : Spot) (xs : List Slot) where
  place_here : get_or (plain xs) r.at (blank 0 0) ≡ (get_or xs r.at nowhere).place
  place_here = plain_at xs r.at (blank 0 0)

  pub lapsed_as : (P : List Place → Type 0) → P (plain xs) → P (set (plain xs) r.at (with_stage 0 (get_or (plain xs) r.at (blank 0 0)))) → P (plain (lapsed r xs))
  lapsed_as P u w = elim (test (eqb r.stage 3)) [
    | inl e ↦ rw e u
    | inr e ↦ rw e (subst P (ap (λ (q : Place). set (plain xs) r.at (with_stage 0 q)) place_here ∙ sym (plain-set xs r.at (dying (get_or xs r.at nowhere)))) w)
  ]

module _ {b f : List ℕ} {m : ℕ} {e : Delay} {st : State} {xs : List Slot} (o : Around b f m e st xs) {k : Key} {r : Spot} (h : SpotHeld (plain xs) k r) where
  abbrev t : Table
  t = st.table

  abbrev ps : List Place
  ps = plain xs

  abbrev p : Place
  p = get_or ps r.at (blank 0 0)

  abbrev q : Slot
  q = get_or xs r.at nowhere

  p_is : p ≡ q.place
  p_is = place_here r xs

  found : Among live (filter live ps) p (blank 0 0)
  found = filter-has live ps r.at (blank 0 0) h.inside (lt-ltb 0 p.stage (h.lives (blank 0 0)))

  whose : PlaceOf t p
  whose =
      let q : get_or (places_of t) found.index (blank 0 0) ≡ p = ap (λ (l : List Place). get_or l found.index (blank 0 0)) (sym o.lives) ∙ found.is in
      subst (PlaceOf t) q (place-whose t o.sound.bounded.ordered o.sound.bounded.lawful found.index (blank 0 0) (omega (arith, found.inside, ap length o.lives)))

  key-is : wtxid p.hash ≡ k
  key-is = wtxid-key k p.hash h.kind (h.hash (blank 0 0))

  pub held : has_place (at k t) ≡ true
  held = ap (λ (j : Key). has_place (at j t)) (sym key-is) ∙ whose.held

  place_is : place_in (at k t) ≡ p
  place_is = ap (λ (j : Key). place_in (at j t)) (sym key-is) ∙ whose.is

  pub parents-are : (at k t).parents ≡ p.parents
  parents-are = ap (λ (x : Place). x.parents) place_is

  pub enqueued_is : enqueued_in (at k t).«package» ≡ eqb r.stage 3
  enqueued_is = stage-enqueued (at k t).info (at k t).«package» ∙ ap (λ (x : Place). eqb x.stage 3) place_is ∙ ap (λ (n : ℕ). eqb n 3) (sym (h.stage (blank 0 0)))

  -- ---- it lapses

  module _ (n now : ℕ) where
    pub lapse_stays : eqb r.stage 3 ≡ true → LapsedTo b f m e st xs r k n now
    lapse_stays i = record {
      front = subst (λ (x : Table). Front (take m b) e (bare_state st) (bare x)) (sym (ap (λ (a : Answer). a.table) (enqueued_stays k n now t (enqueued_is ∙ i)))) o.front;
      slots = subst (λ (x : Bool). Slots b f m st.places (if x then xs else set xs r.at (dying q))) (sym i) o.slots;
    }

    pub lapse-fails : {v : List ℕ} {e₁ : Delay} {b₁ b₂ f₂ : List ℕ} → eqb r.stage 3 ≡ false → m ≤ length b → length v ≡ length (take m b)
        → Fails (take m b) v e e₁ k n now → b₁ ≡ v ++ drop m b → Altered b₁ b₂ f f₂ m r.at dying → LapsedTo b₂ f₂ m e₁ st xs r k n now
    lapse-fails {v} {e₁} {b₁} {b₂} {f₂} i l nv fails again kill = record {
      front =
          let z : take m b₂ ≡ v = kill.front ∙ ap (take m) again ∙ front_is b v m l nv in
          subst (λ (y : List ℕ). Front y e₁ (bare_state st) (bare (failed k n now t).table)) (sym z)
          (subst (λ (x : Answer). Front v e₁ (bare_state st) x.table) (failed-bare k n now t (enqueued_is ∙ i)) (fails (bare_state st) (bare t) o.front));
      slots = subst (λ (x : Bool). Slots b₂ f₂ m st.places (if x then xs else set xs r.at (dying q))) (sym i)
          (kill.slots st.places xs nowhere (omega (arith, h.inside, plain-long xs)) (slots_rest (ap (drop m) again ∙ rest_stays b v m l nv) o.slots));
    }

    module _ (late : now < word) (small : k.hash < top) where
      -- the table once it has lapsed
      lapsed-bounded : Bounded (limits_of st) st.places (failed k n now t).table
      lapsed-bounded = bounded-failed k n now small late o.sound.bounded

      module _ (own : owner_is n (at k t).owner ≡ true) where
        lawful : Lawful (at k t)
        lawful = lawful_at k t o.sound.bounded.lawful

        short : length p.parents ≤ list_most
        short = each_at (λ x. length x.parents ≤ list_most) ps r.at (blank 0 0) o.short h.inside

        announced : (x : Table) → announce_parents (limits_of st) n now (parents_for n (at k t)) x ≡ parents_from (limits_of st) n now 0 p.parents x
        unfolding announce_parents
        announced x =
            ap (λ (hs : List ℕ). parents_from (limits_of st) n now 0 (dedup hs) x) (parents-beside n (at k t) own held)
            ∙ ap (λ (hs : List ℕ). parents_from (limits_of st) n now 0 hs x) (dedup-distinct (at k t).parents lawful.parents.distinct ∙ parents-are)

        lives_still : filter live (plain (lapsed r xs)) ≡ places_of (expire_at (limits_of st) now k n t).table
        lives_still = elim (test (eqb r.stage 3)) [
          | inl e ↦ rw e (o.lives ∙ sym (places-enqueued k n now small late o.sound.bounded own (enqueued_is ∙ e)))
          | inr e ↦ rw e (ap (filter live) (plain-set xs r.at (dying q) ∙ ap (λ (y : Place). set ps r.at (with_stage 0 y)) (sym p_is)) ∙ dies-filter 0 ps r.at (blank 0 0) o.ascend h.inside ∙
              rw (h.hash (blank 0 0), o.lives)
              (sym (places-without k n now small late o.sound.bounded own (enqueued_is ∙ e) h.kind)))
        ]

        module _ {b₂ f₂ : List ℕ} {e₂ e₃ : Delay} (g : LapsedTo b₂ f₂ m e₂ st xs r k n now) (z : List ℕ) {v : List ℕ} {spent : Bool} {x : Announced} (loaded : SlotOf z q) (l : m ≤ length b₂)
            (nv : length v ≡ length (take m b₂)) (a : Noted (take m b₂) v e₂ e₃ spent n now (hashes_at (words z) 0 r.parents) x) (given : spent ≡ true → Spent t) where
          hashes : hashes_at (words z) 0 r.parents ≡ p.parents
          hashes =
              ap (hashes_at (words z) 0) (h.parents (blank 0 0) ∙ ap (λ (y : Place). length y.parents) p_is)
              ∙ slot_all z q loaded (subst (λ (y : Place). length y.parents ≤ list_most) p_is short) ∙ sym (ap (λ (y : Place). y.parents) p_is)

          abbrev after : Table
          after = (failed k n now t).table

          abbrev last : Table
          last = (expire_at (limits_of st) now k n t).table

          bare_is : parents_from (limits_of st) n now 0 p.parents (bare after) ≡ bare_listed (expire_at (limits_of st) now k n t)
          bare_is = parents_from-bare (limits_of st) n now 0 p.parents after ∙ ap bare_listed (sym (announced after))

          told : NotedAt v e₂ e₃ n now p.parents (bare_state st) (bare after) x
          told = (rw hashes at a) (bare_state st) (bare after) g.front (λ i. victims-bare after ∙ spent-failed n now o.sound.bounded k small (given i))

          -- no owner gets the deadline 0 by it
          plain-after : e₂.later ≡ true → Plain (parents_from (limits_of st) n now 0 p.parents (bare after)).table
          plain-after i =
              let peer = owner-peer n (at k t) lawful own in
              let alone = alone-parents n now _ peer late (few_for n (at k t) lawful) (bounded-bare 1 lapsed-bounded) in
              subst (λ (y : Listed). Plain y.table) (announced (bare after)) (plain_alone alone
              (bounded-parents n now _ peer late (few_for n (at k t) lawful) (bounded-bare 1 lapsed-bounded)).ordered (pending_plain (g.front.later i)))

          pub place-expired : {b₃ : List ℕ} → length b₃ ≡ length b → length f₂ ≡ length f → b₃ ≡ v ++ drop m b₂ → PlaceExpired b₃ f₂ m e₃ st xs r k n now x
          place-expired {b₃} n₃ nf again = record {
            around = record {
              sound = sound-table o.sound (bounded-after k n now small late o.sound.bounded own);
              size = o.size;
              long = n₃ ∙ o.long;
              first_long = nf ∙ o.first_long;
              front =
                  front_on st last
                  (subst (λ (y : List ℕ). Front y e₃ (bare_state st) (bare last)) (sym (ap (take m) again ∙ front_is b₂ v m l nv))
                  (subst (λ (y : Listed). Front v e₃ (bare_state st) y.table) bare_is (told.front plain-after)));
              slots = slots_rest (ap (drop m) again ∙ rest_stays b₂ v m l nv) g.slots;
              lives = lives_still;
              ascend = lapsed_as r xs (PlacesAscend 0) o.ascend (dies-ascend 0 ps r.at (blank 0 0) o.ascend);
              short = lapsed_as r xs (Each (λ y. length y.parents ≤ list_most)) o.short (dies-short ps r.at (blank 0 0) o.short);
            };
            keys = ap (λ (y : Place). picked_in y.parents x.note.low x.note.high) (sym p_is) ∙ told.keys ∙ ap (λ (y : Listed). y.keys) bare_is;
            none_left = λ i. sym (victims-bare last) ∙ ap (λ (y : Listed). victims anywhere y.table) (sym bare_is) ∙ told.none_left i;
          }
