-- One owner expires, where the places are set apart: with a place or without, and what is noted of all places.
use Prim.Native.Nat.{ℕ, zero, suc, ◌+◌, ◌≤◌, ◌<◌}
use mathlib.Core.Path.{◌≡◌, refl, sym, ap, subst, ◌∙◌}
use mathlib.Core.Logic.{inl, inr}
use mathlib.Core.Bool.{Bool, true, false}
use mathlib.Core.List.{List, [], ◌∷◌, ◌++◌, append_assoc, append-nil}
use native.Mathlib.Omega.{arith}
use lib.Dec.{eqb}
use lib.ListN.{length, take, drop, get_or, set, length-map, length-set}
use lib.Seq.{map-set_same, get_or-set_other}
use Rattle.ident.specs.declared.Kind.{Kind}
use Rattle.ident.specs.declared.Kind.TheVariants.{Txid, Wtxid}
use Rattle.ident.specs.Number.{top, Key, place, wtxid}
use Rattle.places.specs.Places.{Place, list_most, blank}
use Rattle.machine.specs.Limits.{word, max_places}
use Rattle.machine.specs.State.{Request, Table, State, Answer, limits_of, on_table, owner_is, enqueued_in}
use Rattle.machine.specs.Table.{at}
use Rattle.machine.specs.Announce.{victims, anywhere}
use Rattle.machine.specs.Fail.{Listed, failed, dedup, parents_from, announce_parents}
use Rattle.machine.specs.Typed.{Each}
use Rattle.machine.proofs.Fail.{bounded-failed}
use Rattle.machine.proofs.Kept.{sound-table}
use Rattle.machine.proofs.Table.{lawful_at}
use Rattle.machine.proofs.Tests.{test}
use Rattle.store.specs.Flat.{places_of}
use Rattle.store.specs.FlatSound.{PlacesAscend}
use Rattle.store.specs.Shown.{Kept}
use Rattle.store.proofs.Missing.{each_at}
use Rattle.regions.specs.Order.{Sorted}
use Rattle.store.proofs.Window.{places-sorted}
use Rattle.package_stages.specs.Records.{place_hashes}
use Rattle.package_stages.specs.Changes.{has_place}
use Rattle.package_stages.specs.Dead.{filter, live}
use Rattle.package_stages.proofs.Seeking.{hash_at_lem}
use Rattle.std.specs.Prelude as rust
use Rattle.apart.specs.declared.noting.Announced.{Announced}
use Rattle.apart.specs.declared.slots.Spot.{Spot}
use Rattle.apart.specs.Bare.{bare, bare_state}
use Rattle.apart.specs.declared.lapsing.Progress.{Progress}
use Rattle.apart.specs.Apart.{Slot, with_notes, dying, plain, Room, Altered, Clear, ClearFrom, SpotHeld, SpotNone, SpotIn, Apart}
use Rattle.apart.specs.Delayed.{Delay, Front, Fronts, FailsIn, Fails, Around}
use Rattle.parenting.specs.Displacing.{Spent}
use Rattle.parenting.proofs.SpentStill.{spent-failed}
use Rattle.apart.specs.Noting.{picked, half_most, picked_in}
use Rattle.apart.specs.Lapsing.{noted, ClearAt, nowhere, lapsed, LapsedTo, expire_at, PlaceExpiring, PlaceExpired, Expiring, ExpiredTo}
use Rattle.apart.proofs.SlotWords.{plain-long}
use Rattle.apart.proofs.Delays.{front_on}
use Rattle.apart.proofs.BareTable.{at_bare, victims-bare, sound-bare}
use Rattle.apart.proofs.BareChange.{failed-bare}
use Rattle.apart.proofs.BarePlaces.{no_place, txid-free}
use Rattle.apart.proofs.BareExpiry.{no-parents, bounded-after, places_unheld}
use Rattle.postponing.proofs.Dropping.{none_packaged}
use Rattle.apart.proofs.Overdue.{front_is, rest_stays, slots_rest, filter_from}

-- ---- what the functions ask for

module _ {b f : List ℕ} {m : ℕ} {st : State} {xs : List Slot} (o : Apart b f m st xs) where
  pub front_kept : Kept (take m b)
  front_kept = record { state = bare_state st; sound = sound-bare o.sound; writes = o.writes }

  pub front_within : m ≤ length b
  front_within = omega (arith, o.long)

  pub place-room : {i : ℕ} → i < length (plain xs) → Room b f m (i + 1)
  place-room {i} h = record { first = o.first_long; front = front_within; rest = omega (arith, o.long, o.slots.few, plain-long xs) }

  pub all_room : {n : ℕ} → n ≤ length xs → Room b f m n
  all_room {n} h = record { first = o.first_long; front = front_within; rest = omega (arith, o.long, o.slots.few, o.slots.some) }

-- the same where others wait

module _ {b f : List ℕ} {m : ℕ} {e : Delay} {st : State} {xs : List Slot} (o : Around b f m e st xs) where
  pub around_within : m ≤ length b
  around_within = omega (arith, o.long)

  pub around_room : {n : ℕ} → n ≤ length xs → Room b f m n
  around_room {n} h = record { first = o.first_long; front = around_within; rest = omega (arith, o.long, o.slots.few, o.slots.some) }

  pub few_parents : {k : Key} {r : Spot} → SpotHeld (plain xs) k r → r.parents ≤ list_most
  few_parents {r = r} h = let x = each_at (λ p. length p.parents ≤ list_most) (plain xs) r.at (blank 0 0) o.short h.inside in omega (arith, h.parents (blank 0 0))

  -- the owner of k fails in the table without packages
  pub around_fails : {k : Key} {n : ℕ} → owner_is n (at k st.table).owner ≡ true → FailsIn (take m b) e k n
  around_fails {k} {n} own = record {
    state = bare_state st;
    now_table = bare st.table;
    front = o.front;
    own = ap (λ (r : Request). owner_is n r.owner) (at_bare k st.table) ∙ own;
  }

  -- nobody can be evicted, once one has lapsed

  pub lapsed_fronts : {k : Key} {r : Spot} {n now : ℕ} → k.hash < top → {b₂ f₂ : List ℕ} {e₂ : Delay} {x : Bool} → LapsedTo b₂ f₂ m e₂ st xs r k n now → (x ≡ true → Spent st.table)
      → Fronts (take m b₂) e₂ x
  lapsed_fronts {k} {r} {n} {now} small g given = record {
    state = bare_state st;
    now_table = bare (failed k n now st.table).table;
    front = g.front;
    none_left = λ i. victims-bare (failed k n now st.table).table ∙ spent-failed n now o.sound.bounded k small (given i);
  }

-- ---- what is noted

picked_none : (hs : List ℕ) → picked hs 0 ≡ []
unfolding picked
picked_none [] = refl
picked_none (h ∷ hs) = picked_none hs

pub picked-clear : (hs : List ℕ) {x y : ℕ} → x ≡ 0 → y ≡ 0 → picked_in hs x y ≡ []
picked-clear hs e f = rw (e, f, picked_none (take half_most hs), picked_none (drop half_most hs))

pub noted_none : (xs : List Slot) → ClearFrom 0 xs → noted xs ≡ []
unfolding noted
noted_none [] c = refl
noted_none (x ∷ xs) c =
    let z = c 0 x (omega arith) (omega arith) in
    rw (picked-clear x.place.parents z.low_bits z.high_bits, noted_none xs (λ j d g h. c (suc j) d (omega arith) (omega arith)))

pub noted-set : (xs : List Slot) (i : ℕ) (y : Slot) → i < length xs → ClearFrom i xs → noted (set xs i y) ≡ noted xs ++ picked_in y.place.parents y.low y.high
unfolding noted
noted-set [] i y h c = absurd (omega arith)
noted-set (x ∷ xs) zero y h c =
    let z = c 0 x (omega arith) (omega arith) in
    let n = noted_none xs (λ j d g k. c (suc j) d (omega arith) (omega arith)) in
    rw (n, picked-clear x.place.parents z.low_bits z.high_bits) (append-nil (picked_in y.place.parents y.low y.high))
noted-set (x ∷ xs) (suc i) y h c =
    rw (noted-set xs i y (omega arith) (λ j d g k. c (suc j) d (omega arith) (omega arith))) (sym (append_assoc (picked_in x.place.parents x.low x.high) (noted xs) _))

-- ---- one place changed

module _ (g : Slot → Slot) where
  set-hashes : ((x : Slot) → (g x).place.hash ≡ x.place.hash) → (xs : List Slot) (i : ℕ) → place_hashes (plain (set xs i (g (get_or xs i nowhere)))) ≡ place_hashes (plain xs)
  set-hashes e [] i = refl
  set-hashes e (x ∷ xs) zero = ap (λ (h : ℕ). h ∷ place_hashes (plain xs)) (e x)
  set-hashes e (x ∷ xs) (suc i) = ap (λ (l : List ℕ). x.place.hash ∷ l) (set-hashes e xs i)

  set-clear : ((x : Slot) → Clear x → Clear (g x)) → (xs : List Slot) (i j : ℕ) (d : Slot) → j < length xs → Clear (get_or xs j d) → Clear (get_or (set xs i (g (get_or xs i nowhere))) j d)
  set-clear e [] i j d h c = c
  set-clear e (x ∷ xs) zero zero d h c = e x c
  set-clear e (x ∷ xs) zero (suc j) d h c = c
  set-clear e (x ∷ xs) (suc i) zero d h c = c
  set-clear e (x ∷ xs) (suc i) (suc j) d h c = set-clear e xs i j d (omega arith) c

dying-noted : (xs : List Slot) (i : ℕ) → noted (set xs i (dying (get_or xs i nowhere))) ≡ noted xs
unfolding noted
dying-noted [] i = refl
dying-noted (x ∷ xs) zero = refl
dying-noted (x ∷ xs) (suc i) = ap (λ (l : List Key). picked_in x.place.parents x.low x.high ++ l) (dying-noted xs i)

dying-parents : (xs : List Slot) (i : ℕ) → (get_or (set xs i (dying (get_or xs i nowhere))) i nowhere).place.parents ≡ (get_or xs i nowhere).place.parents
dying-parents [] i = refl
dying-parents (x ∷ xs) zero = refl
dying-parents (x ∷ xs) (suc i) = dying-parents xs i

module _ (r : Spot) (xs : List Slot) where
  by_stage : (P : List Slot → Type 0) → P xs → P (set xs r.at (dying (get_or xs r.at nowhere))) → P (lapsed r xs)
  by_stage P u w = elim (test (eqb r.stage 3)) [ inl e ↦ rw e u | inr e ↦ rw e w ]

  lapsed-hashes : place_hashes (plain (lapsed r xs)) ≡ place_hashes (plain xs)
  lapsed-hashes = by_stage (λ ys. place_hashes (plain ys) ≡ place_hashes (plain xs)) refl (set-hashes dying (λ x. refl) xs r.at)

  lapsed-noted : noted (lapsed r xs) ≡ noted xs
  lapsed-noted = by_stage (λ ys. noted ys ≡ noted xs) refl (dying-noted xs r.at)

  lapsed-parents : (get_or (lapsed r xs) r.at nowhere).place.parents ≡ (get_or xs r.at nowhere).place.parents
  lapsed-parents = by_stage (λ ys. (get_or ys r.at nowhere).place.parents ≡ (get_or xs r.at nowhere).place.parents) refl (dying-parents xs r.at)

  lapsed-clear : (j : ℕ) (d : Slot) → j < length xs → Clear (get_or xs j d) → Clear (get_or (lapsed r xs) j d)
  lapsed-clear j d h c = by_stage (λ ys. Clear (get_or ys j d)) c (set-clear dying (λ x y. record { low_bits = y.low_bits; high_bits = y.high_bits }) xs r.at j d h c)

  lapsed-long : length (lapsed r xs) ≡ length xs
  lapsed-long = by_stage (λ ys. length ys ≡ length xs) refl (length-set xs r.at (dying (get_or xs r.at nowhere)))

-- ---- with a place

module _ {b f : List ℕ} {m : ℕ} {d : Delay} {st : State} {xs : List Slot} (o : Around b f m d st xs) {k : Key} {r : Spot} (h : SpotHeld (plain xs) k r) where
  key-place : place k ≡ place (wtxid k.hash)
  key-place = ap (λ (x : Kind). place (record { kind = x; hash = k.hash })) h.kind

  inside : r.at < length xs
  inside = omega (arith, h.inside, plain-long xs)

  hash_here : get_or (place_hashes (plain xs)) r.at 0 ≡ k.hash
  hash_here = hash_at_lem (plain xs) r.at (blank 0 0) h.inside ∙ h.hash (blank 0 0)

  above_here : (j : ℕ) → r.at ≤ j → j < length xs → k.hash ≤ get_or (place_hashes (plain xs)) j 0
  unfolding Sorted
  above_here j g l =
      let s = places-sorted 0 (plain xs) o.ascend r.at j g (omega (arith, length-map (plain xs) (λ (p : Place). p.hash), plain-long xs)) in
      omega (arith, hash_here)

  module _ {b₁ b₂ f₁ f₂ : List ℕ} {n now : ℕ} {x : Announced} {d₁ : Delay} (e : PlaceExpired b₁ f₁ m d₁ st xs r k n now x) (alt : Altered b₁ b₂ f₁ f₂ m r.at (with_notes x.note.low x.note.high))
      (nb : length b₂ ≡ length b₁) (nf : length f₂ ≡ length f₁) where
    abbrev ys : List Slot
    ys = lapsed r xs

    abbrev y : Slot
    y = with_notes x.note.low x.note.high (get_or ys r.at nowhere)

    -- the places, with the notes of this one
    abbrev zs : List Slot
    zs = set ys r.at y

    long_same : length zs ≡ length xs
    long_same = length-set ys r.at y ∙ lapsed-long r xs

    plain_same : plain zs ≡ plain ys
    plain_same = map-set_same (λ (v : Slot). v.place) ys r.at y nowhere refl

    with-notes : Around b₂ f₂ m d₁ (on_table (expire_at (limits_of st) now k n st.table).table st) zs
    with-notes =
        let a = e.around in
        record {
          sound = a.sound;
          size = a.size;
          long = nb ∙ a.long;
          first_long = nf ∙ a.first_long;
          front =
              let u = (expire_at (limits_of st) now k n st.table).table in
              subst (λ (w : List ℕ). Front w d₁ (bare_state (on_table u st)) (bare u)) (sym alt.front) a.front;
          slots = alt.slots st.places ys nowhere (omega (arith, inside, lapsed-long r xs)) a.slots;
          lives = ap (filter live) plain_same ∙ a.lives;
          ascend = subst (PlacesAscend 0) (sym plain_same) a.ascend;
          short = subst (Each (λ p. length p.parents ≤ list_most)) (sym plain_same) a.short;
        }

    hashes-are : place_hashes (plain zs) ≡ place_hashes (plain xs)
    hashes-are = set-hashes (with_notes x.note.low x.note.high) (λ v. refl) ys r.at ∙ lapsed-hashes r xs

    module _ (c : ClearAt (place k) xs) where
      clear_here : (j : ℕ) (d : Slot) → r.at ≤ j → j < length xs → Clear (get_or xs j d)
      clear_here j d g l = c j d l (let w = above_here j g l in omega (arith, key-place))

      clear-beside : (j : ℕ) (d : Slot) → j < length xs → (j ≡ r.at → ⊥) → Clear (get_or xs j d) → Clear (get_or zs j d)
      clear-beside j d l u v = subst Clear (sym (get_or-set_other ys r.at j y d u)) (lapsed-clear r xs j d l v)

      keys-noted : noted zs ≡ noted xs ++ (expire_at (limits_of st) now k n st.table).keys
      keys-noted =
          noted-set ys r.at y (omega (arith, inside, lapsed-long r xs))
          (λ j d g l. let z : j < length xs = omega (arith, lapsed-long r xs) in lapsed-clear r xs j d z (clear_here j d g z))
          ∙ ap (λ (l : List Key). l ++ picked_in y.place.parents x.note.low x.note.high) (lapsed-noted r xs)
          ∙ ap (λ (hs : List ℕ). noted xs ++ picked_in hs x.note.low x.note.high) (lapsed-parents r xs)
          ∙ ap (λ (ks : List Key). noted xs ++ ks) e.keys

    pub expired_with : {q : Progress} → ExpiredTo b₂ f₂ m d₁ st xs k n now q (record { noted = r.at + 1; spent = x.spent })
    expired_with = record {
      places = zs;
      around = with-notes;
      hashes_same = hashes-are;
      keys = keys-noted;
      later = λ c j d l g.
          let u = ap (λ (hs : List ℕ). place (wtxid (get_or hs j 0))) hashes-are in
          clear-beside c j d (omega (arith, long_same)) (λ z. let v = ap (λ (i : ℕ). get_or (place_hashes (plain xs)) i 0) z in omega (arith, hash_here, key-place))
          (c j d (omega (arith, long_same)) (omega arith));
      few = λ c z j d g l.
          let w : j < length xs = omega (arith, long_same) in
          clear-beside c j d w (λ u. omega arith) (clear_here c j d (omega arith) w);
      none_left = e.none_left;
    }

-- ---- without

module _ {b f : List ℕ} {m : ℕ} {d : Delay} {st : State} {xs : List Slot} (o : Around b f m d st xs) (k : Key) (n now : ℕ) (late : now < word) (small : k.hash < top)
    (own : owner_is n (at k st.table).owner ≡ true)
    (none : SpotNone (plain xs) k) where
  abbrev t : Table
  t = st.table

  missing : (e : Kind) → k.kind ≡ e → has_place (at k t) ≡ false
  missing Txid e = txid-free t o.sound.bounded.ordered o.sound.bounded.lawful k small e (lawful_at k t o.sound.bounded.lawful)
  missing Wtxid e =
      ap (λ (x : Kind). has_place (at (record { kind = x; hash = k.hash }) t)) e
      ∙ no_place t o.sound.bounded.ordered o.sound.bounded.lawful k.hash (blank 0 0) small (λ i l z. go none i l z)
    where
      other : {X : Type 0} → Txid ≡ Wtxid → X
      other z = let y : ◌≡◌ {A = ℕ} 0 1 = cc in absurd (omega arith)

      go : SpotNone (plain xs) k → (i : ℕ) → i < length (places_of t) → (get_or (places_of t) i (blank 0 0)).hash ≡ k.hash → ⊥
      go (inl x) i l z = other (sym x ∙ e)
      go (inr x) i l z =
          let g = filter_from live (plain xs) i (blank 0 0) (omega (arith, ap length o.lives)) in
          x g.index (blank 0 0) g.inside g.passes (ap (λ (p : Place). p.hash) g.is ∙ ap (λ (l : List Place). (get_or l i (blank 0 0)).hash) o.lives ∙ z)

  pub free : has_place (at k t) ≡ false
  free = missing k.kind refl

  calm : enqueued_in (at k t).«package» ≡ false
  calm = none_packaged (at k t).info (at k t).«package» free

  alone : expire_at (limits_of st) now k n t ≡ record { keys = []; table = (failed k n now t).table }
  unfolding announce_parents dedup parents_from
  alone = ap (λ (hs : List ℕ). announce_parents (limits_of st) n now hs (failed k n now t).table) (no-parents n (at k t) free)

  pub expired-without : {v b' : List ℕ} {d' : Delay} → length v ≡ length (take m b) → Fails (take m b) v d d' k n now → length b' ≡ length b → b' ≡ v ++ drop m b
      → {q : Progress} → (q.spent ≡ true → Spent t) → ExpiredTo b' f m d' st xs k n now q q
  expired-without {v} {b'} {d'} nv fails nb e given = record {
    places = xs;
    around = record {
      sound = sound-table o.sound (bounded-after k n now small late o.sound.bounded own);
      size = o.size;
      long = nb ∙ o.long;
      first_long = o.first_long;
      front =
          let a = fails (bare_state st) (bare t) o.front in
          subst (λ (y : Listed). Front (take m b') d' (bare_state (on_table y.table st)) (bare y.table)) (sym alone)
          (subst (λ (y : List ℕ). Front y d' (bare_state (on_table (failed k n now t).table st)) (bare (failed k n now t).table)) (sym (ap (take m) e ∙ front_is b v m (around_within o) nv))
          (front_on st (failed k n now t).table (subst (λ (x : Answer). Front v d' (bare_state st) x.table) (failed-bare k n now t calm) a)));
      slots = slots_rest (ap (drop m) e ∙ rest_stays b v m (around_within o) nv) o.slots;
      lives = o.lives ∙ sym (places_unheld k n now small late o.sound.bounded own calm free);
      ascend = o.ascend;
      short = o.short;
    };
    hashes_same = refl;
    keys = λ c. sym (ap (λ (x : Listed). noted xs ++ x.keys) alone ∙ append-nil (noted xs));
    later = λ c j d l g. c j d l (omega arith);
    few = λ c z. z;
    none_left = λ i. ap (λ (y : Listed). victims anywhere y.table) alone ∙ spent-failed n now o.sound.bounded k small (given i);
  }

-- ---- the place that was found, of some state

module _ {b f : List ℕ} {m c : ℕ} {e : Delay} {k : Key} {n : ℕ} {s : Bool} (x : Expiring b f m c e k n s) {o : rust.Option Spot} (y : SpotIn b f m c k o) {r : Spot} (z : o ≡ rust.Some r) where
  pub found_held : SpotHeld (plain x.places) k r
  found_held = y.held r z x.state.places x.places x.count x.around.slots x.around.ascend

  pub found_inside : r.at < c
  found_inside = omega (arith, found_held.inside, x.count, plain-long x.places)

  pub found_few : r.at < max_places
  found_few = omega (arith, found_inside, x.count, x.around.slots.few, x.around.sound.most-places)

  pub found_expiring : PlaceExpiring b f m e r k n s
  found_expiring = record { state = x.state; places = x.places; around = x.around; held = found_held; own = x.own; none_left = x.none_left }
