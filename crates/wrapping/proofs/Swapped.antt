-- Offers announced where L is held, one after the other: those that come in wait, and as many victims go.
use Prim.Native.Nat.{ℕ, ◌+◌, ◌≤◌, ◌<◌}
use mathlib.Core.Path.{◌≡◌, refl, sym, ap, subst, ◌∙◌}
use mathlib.Core.Bool.{Bool, true, false}
use mathlib.Core.List.{List, [], ◌∷◌}
use native.Mathlib.Omega.{arith}
use lib.ListN.{length}
use Rattle.ident.specs.Number.{key_of}
use Rattle.machine.specs.Limits.{Limits}
use Rattle.machine.specs.State.{Candidate, State, Table, limits_of, on_table}
use Rattle.machine.specs.Table.{held}
use Rattle.machine.specs.Announce.{victims, anywhere, announce}
use Rattle.machine.specs.Wrapper.{Offer, offered, offers_from}
use Rattle.machine.specs.Sound.{Sound}
use Rattle.machine.specs.Typed.{Each, OfferTyped}
use Rattle.machine.proofs.Fail.{Peer}
use Rattle.machine.proofs.Tests.{never}
use Rattle.store.specs.Flat.{rows_of}
use Rattle.store.specs.Image.{Writes}
use Rattle.store.specs.Shown.{Kept}
use Rattle.announcing.specs.Falls.{fallen, cuts, VictimsIn, Evictable}
use Rattle.announcing.proofs.Nobody.{nobody-listed, nobody-keyed}
use Rattle.gathering.specs.declared.beside.Fare.{Fare}
use Rattle.gathering.specs.declared.beside.Fare.TheVariants.{Nothing, Waits, Alone}
use Rattle.gathering.specs.contracts.beside.FarePartialEq.TheImpl.{eq-value}
use Rattle.gathering.specs.Counted.{then_wait}
use Rattle.gathering.specs.Merges.{gathered}
use Rattle.gathering.specs.Waits.{pushes}
use Rattle.gathering.specs.Aside.{space, Empty, Gathers, ComeIn}
use Rattle.gathering.specs.Deferring.{Owing, left_by, OwedIn, Deferred, Gone}
use Rattle.gathering.proofs.Deferral.{left_sound, left_held, left_fallen, left_aside}
use Rattle.gathering.proofs.Elsewhere.{victims-pushes}
use Rattle.gathering.proofs.OneMore.{nobody_aside}
use Rattle.gathering.proofs.Waiting.{held_beside}
use Rattle.wrapping.specs.declared.offering.Terms.{Terms}
use Rattle.claims.specs.Changes.{Becomes}
use Rattle.wrapping.specs.Batches.{between, announced, Announced, Offers}
use Rattle.wrapping.specs.Swaps.{Whole, Swaps, Went, Settled}
use Rattle.wrapping.proofs.Parts.{between_none, announced-join, announced_one, offers_none}
use Rattle.wrapping.proofs.Gathered.{an_offer, made, part_kept, part_join}

pub swaps_start : {b w v : List ℕ} {m : ℕ} (a : Terms) (os : List Offer) {i : ℕ} → Empty w → VictimsIn b v m → Whole b → i ≤ length os → Swaps b w v m a os i i 0
unfolding pushes gathered cuts
swaps_start a os {i} e x h l = record {
  from = omega arith;
  inside = l;
  few = omega arith;
  less = omega arith;
  standing = λ st s g. record {
    owing = record {
      sound = s;
      writes = g;
      whole = h st s g;
      listed = x.listed st s g;
      few = omega arith;
      entries = [];
      aside = nobody_aside e;
      preferred = tt;
      apart = tt;
    };
    same = ap (λ (l : List Offer). announced a l (limits_of st) st.table) (between_none i os)
        ∙ offers_none (limits_of st) a.connection.number a.clock.time a.preferred a.source a.late st.table;
  };
}

-- where L are held and nobody can be evicted no preferred offer changes anything
announced-nobody : (a : Terms) (os : List Offer) (m : Limits) (t : Table) → a.preferred ≡ true → m.announcements ≤ held t → victims anywhere t ≡ [] → announced a os m t ≡ t
unfolding offers_from
announced-nobody a [] m t p l e = refl
announced-nobody a (o ∷ os) m t p l e =
    let c = offered a.connection.number a.clock.time a.preferred a.source a.late o in
    ap (λ (u : Table). announced a os m u) (nobody-keyed m c t p l e (key_of c.item)) ∙ announced-nobody a os m t p l e

module _ {b w v : List ℕ} {m : ℕ} {a : Terms} {os : List Offer} {i j d : ℕ} (x : Swaps b w v m a os i j d) where
  module _ (l : j < length os) {c : Candidate} (q : Offers a os j c) {w' : List ℕ} {r : Fare} (y : Deferred b w w' v d m (key_of c.item) c r) where
    one_deferred : Deferred b w w' v d m (key_of (made a os j).item) (made a os j) r
    one_deferred = subst (λ (k : Candidate). Deferred b w w' v d m (key_of k.item) k r) (q an_offer) y

    -- one offer more
    grown : {e : ℕ} → OwedIn b w w' v d e m (key_of (made a os j).item) (made a os j) → e ≤ space → e ≤ m → Swaps b w' v m a os i (j + 1) e
    grown o few less = record {
      from = omega (arith, x.from);
      inside = omega arith;
      few = few;
      less = less;
      standing = λ st s g.
          let u = limits_of st in
          let t = st.table in
          let z = x.standing st s g in
          let k = o st z.owing in
          record {
            owing = k.owing;
            same =
                sym (announced-join a u os t i j (j + 1) x.from (omega arith)) ∙ announced_one a u os (announced a (between i j os) u t) j an_offer l
                ∙ ap (λ (p : Table). (announce u (made a os j) p).table) z.same ∙ k.same;
          };
    }

    -- it changes nothing
    swaps_not : r ≡ Nothing → Swaps b w' v m a os i (j + 1) d
    swaps_not e = grown (one_deferred.nothing e) x.few x.less

    -- it comes in
    swaps_more : r ≡ Waits → Swaps b w' v m a os i (j + 1) (d + 1)
    swaps_more e = let z = one_deferred.waits e in grown z.owed (omega (arith, z.spare.0)) (omega (arith, z.spare.1))

  -- one that is not to be announced by itself
  pub swaps_next : j < length os → {c : Candidate} → Offers a os j c → {w' : List ℕ} (r : Fare) {z : Bool} {e : ℕ} → z ≡ eq-value.it r Alone → z ≡ false → e ≡ then_wait d r
      → Deferred b w w' v d m (key_of c.item) c r → Swaps b w' v m a os i (j + 1) e
  swaps_next l q Nothing u f g y = rw g (swaps_not l q y refl)
  swaps_next l q Waits u f g y = rw g (swaps_more l q y refl)
  swaps_next l q Alone u f g y = never (sym f ∙ u)

  -- ---- the victims go, and those that wait come in

  module _ {b₁ : List ℕ} (gone : Gone b b₁ v m d) where
    pub swaps_gathers : Kept b → Gathers b₁ a.connection.number w d
    swaps_gathers k =
        let z = (x.standing k.state k.sound k.writes).owing in
        record {
          state = on_table (left_by z) k.state;
          sound = left_sound z;
          writes = gone k.state k.sound k.writes z.listed;
          entries = z.entries;
          aside = left_aside z;
          room = omega (arith, left_held z);
        }

    module _ {b₂ : List ℕ} (h : ComeIn b₁ b₂ a.connection.number w d) where
      came : (st : State) → Sound st → (g : Writes b st) → (z : Owing b w v a.connection.number d m st) → Writes b₂ (on_table (pushes z.entries (left_by z)) st)
      came st s g z = h (on_table (left_by z) st) (left_sound z) (gone st s g z.listed) z.entries (left_aside z)

      -- if nobody else can be evicted, the others change nothing
      alone : (st : State) → (z : Owing b w v a.connection.number d m st) → length (fallen [] (rows_of st.table)) ≡ m → d ≡ m → a.preferred ≡ true → (l : List Offer)
          → announced a l (limits_of st) (pushes z.entries (left_by z)) ≡ pushes z.entries (left_by z)
      alone st z n e p l =
          let u = left_by z in
          let none : victims anywhere u ≡ [] = nobody-listed (on_table u st) (left_sound z) (omega (arith, left_fallen z)) in
          announced-nobody a l (limits_of st) (pushes z.entries u) p
          (omega (arith, left_held z, z.aside.mixed.count, held_beside z.entries u z.aside.mixed.ready (left_sound z).bounded.ordered))
          (victims-pushes z.entries u z.preferred ∙ none)

      pub swaps_settled : Settled b b₂ m a os i j d
      swaps_settled = record {
        went = record {
          from = x.from;
          inside = x.inside;
          table = λ st s g. let z = x.standing st s g in subst (λ (t : Table). Writes b₂ (on_table t st)) (sym z.same) (came st s g z.owing);
        };
        others = λ all e p. record {
          from = omega (arith, x.from, x.inside);
          inside = omega arith;
          table = λ st s g.
              let z = x.standing st s g in
              let q = sym (announced-join a (limits_of st) os st.table i j (length os) x.from x.inside)
              ∙ ap (λ (t : Table). announced a (between j (length os) os) (limits_of st) t) z.same ∙ alone st z.owing (all st s g) e p (between j (length os) os) in
              subst (λ (t : Table). Writes b₂ (on_table t st)) (sym q) (came st s g z.owing);
        };
      }

-- ---- some, and the others behind them

-- nobody can be evicted
pub went-nobody : {b : List ℕ} (a : Terms) (os : List Offer) (i : ℕ) {m k : ℕ} → Whole b → Evictable b m → m ≡ 0 → a.preferred ≡ true → i < length os → k ≡ length os → Went b b a os i k
went-nobody {b} a os i {m} {k} h n z p l e = record {
  from = omega arith;
  inside = omega arith;
  table = λ st s g.
      let q = announced-nobody a (between i k os) (limits_of st) st.table p (omega (arith, h st s g)) (nobody-listed st s (n st s g ∙ z)) in
      subst (λ (t : Table). Writes b (on_table t st)) (sym q) g;
}

module _ {b b₁ : List ℕ} {a : Terms} {os : List Offer} {i j : ℕ} (x : Went b b₁ a os i j) where
  module _ (peer : Peer a.connection.number) (typed : Each OfferTyped os) where
    pub went_kept : Kept b → Kept b₁
    went_kept k = part_kept a os i j x.table peer typed k

    -- the next one by itself
    pub went_one : {b₂ : List ℕ} → j < length os → Becomes b₁ b₂ (announced a (between j (j + 1) os)) → Went b b₂ a os i (j + 1)
    went_one l y = record { from = omega (arith, x.from); inside = omega arith; table = part_join a os i j x.table peer typed (j + 1) x.from (omega arith) y }

    pub went_then : {b₂ : List ℕ} {k : ℕ} → j ≤ i → Announced b₁ b₂ a os i k → Announced b b₂ a os i k
    went_then {b₂} {k} h y =
        let e : i ≡ j = omega (arith, x.from) in
        record {
          more = y.more;
          inside = y.inside;
          table = part_join a os i j x.table peer typed k x.from (omega (arith, y.more)) (subst (λ (p : ℕ). Becomes b₁ b₂ (announced a (between p k os))) e y.table);
        }
