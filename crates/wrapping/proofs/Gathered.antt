-- Offers collected beside the store, one after the other, and announced together.
use Prim.Native.Nat.{ℕ, ◌+◌, ◌≤◌, ◌<◌}
use mathlib.Core.Path.{◌≡◌, refl, sym, ap, subst, ◌∙◌}
use mathlib.Core.Bool.{Bool, false}
use mathlib.Core.List.{List, []}
use native.Mathlib.Omega.{arith}
use lib.ListN.{length, get_or}
use Rattle.ident.specs.declared.ItemKind.TheVariants.{WTx}
use Rattle.ident.specs.Number.{key_of}
use Rattle.machine.specs.Limits.{request_lifetime, word}
use Rattle.machine.specs.State.{Candidate, State, Table, limits_of, on_table}
use Rattle.machine.specs.Announce.{announce}
use Rattle.machine.specs.Wrapper.{Offer, offered}
use Rattle.machine.specs.Sound.{Sound}
use Rattle.machine.specs.Typed.{Each, OfferTyped}
use Rattle.machine.proofs.Fail.{Peer}
use Rattle.machine.proofs.Kept.{sound-table}
use Rattle.machine.proofs.Tests.{never}
use Rattle.machine.proofs.Wrapper.{bounded-offers}
use Rattle.store.specs.Image.{Writes}
use Rattle.store.specs.Shown.{Kept}
use Rattle.store.proofs.Counts.{held-rows}
use Rattle.requests.proofs.Keeping.{sized_of}
use Rattle.announcing.specs.Answers.{Answered}
use Rattle.gathering.specs.declared.beside.Fare.{Fare}
use Rattle.gathering.specs.declared.beside.Fare.TheVariants.{Nothing, Waits, Alone}
use Rattle.gathering.specs.contracts.beside.FarePartialEq.TheImpl.{eq-value}
use Rattle.gathering.specs.Counted.{then_wait}
use Rattle.gathering.specs.Merges.{gathered}
use Rattle.gathering.specs.Waits.{pushes}
use Rattle.gathering.specs.Aside.{space, Empty, JoinedIn, SetAside, ComeIn}
use Rattle.gathering.proofs.OneMore.{nobody_aside}
use Rattle.wrapping.specs.declared.offering.Terms.{Terms}
use Rattle.claims.specs.Changes.{Becomes}
use Rattle.wrapping.specs.Batches.{between, announced, Offers, Collects}
use Rattle.wrapping.proofs.Parts.{between_none, announced-join, announced_one, each_between, offers_none}

-- an offer to read lists with
pub an_offer : Offer
an_offer = record { item = record { kind = WTx; hash = 0 }; priority = 0 }

abbrev pub made : Terms → List Offer → ℕ → Candidate
made a os j = offered a.connection.number a.clock.time a.preferred a.source a.late (get_or os j an_offer)

-- ---- collecting

pub collects_start : {b w : List ℕ} (a : Terms) (os : List Offer) {i : ℕ} → Empty w → i ≤ length os → Collects b w a os i i 0
unfolding pushes gathered
collects_start a os {i} e l = record {
  from = omega arith;
  inside = l;
  few = omega arith;
  collected = λ st s g. record {
    entries = [];
    aside = nobody_aside e;
    room = omega (arith, (sized_of st s).rows_few, held-rows st.table);
    table = ap (λ (l : List Offer). announced a l (limits_of st) st.table) (between_none i os)
        ∙ offers_none (limits_of st) a.connection.number a.clock.time a.preferred a.source a.late st.table;
  };
}

module _ {b w : List ℕ} {a : Terms} {os : List Offer} {i j d : ℕ} (x : Collects b w a os i j d) (l : j < length os) {c : Candidate} (q : Offers a os j c) {w' : List ℕ} {r : Fare}
    (y : SetAside b w w' d (key_of c.item) c r) where
  one_aside : SetAside b w w' d (key_of (made a os j).item) (made a os j) r
  one_aside = subst (λ (k : Candidate). SetAside b w w' d (key_of k.item) k r) (q an_offer) y

  -- one offer more
  grown : {e : ℕ} → JoinedIn b w w' d e (key_of (made a os j).item) (made a os j) → e ≤ space → Collects b w' a os i (j + 1) e
  grown k few = record {
    from = omega (arith, x.from);
    inside = omega arith;
    few = few;
    collected = λ st s g.
        let m = limits_of st in
        let t = st.table in
        let z = x.collected st s g in
        let k = k st s g z.entries z.aside in
        record {
          entries = k.entries;
          aside = k.aside;
          room = k.room (omega (arith, z.room, z.aside.mixed.count));
          table =
              sym (announced-join a m os t i j (j + 1) x.from (omega arith)) ∙ announced_one a m os (announced a (between i j os) m t) j an_offer l
              ∙ ap (λ (u : Table). (announce m (made a os j) u).table) z.table ∙ k.table;
        };
  }

  -- it changes nothing
  collects_not : r ≡ Nothing → Collects b w' a os i (j + 1) d
  collects_not e = grown (one_aside.nothing e).joined x.few

  -- it waits with them
  collects_more : r ≡ Waits → Collects b w' a os i (j + 1) (d + 1)
  collects_more e = let z = one_aside.waits e in grown z.joined (omega (arith, z.spare))

module _ {b w : List ℕ} {a : Terms} {os : List Offer} {i j d : ℕ} (x : Collects b w a os i j d) (l : j < length os) {c : Candidate} (q : Offers a os j c) {w' : List ℕ} where
  -- one offer that is not to be announced by itself
  pub collects_next : (r : Fare) {z : Bool} {e : ℕ} → z ≡ eq-value.it r Alone → z ≡ false → e ≡ then_wait d r → SetAside b w w' d (key_of c.item) c r
      → Collects b w' a os i (j + 1) e
  collects_next Nothing u f g y = rw g (collects_not x l q y refl)
  collects_next Waits u f g y = rw g (collects_more x l q y refl)
  collects_next Alone u f g y = never (sym f ∙ u)

-- ---- coming in

module _ {b w : List ℕ} {a : Terms} {os : List Offer} {i j d : ℕ} (x : Collects b w a os i j d) where
  pub collects_in : {b₁ : List ℕ} → ComeIn b b₁ a.connection.number w d → Becomes b b₁ (announced a (between i j os))
  collects_in {b₁} h st s g =
      let z = x.collected st s g in
      subst (λ (t : Table). Writes b₁ (on_table t st)) (sym z.table) (h st s g z.entries z.aside)

-- ---- one by itself, and one part after another

pub one_announced : {b b₁ : List ℕ} (a : Terms) (os : List Offer) (i : ℕ) {c : Candidate} {r : Bool} → i < length os → Offers a os i c
    → Answered b b₁ r (λ m t. announce m c t) → Becomes b b₁ (announced a (between i (i + 1) os))
one_announced {b} {b₁} a os i l q h st s g =
    let m = limits_of st in
    let t = st.table in
    subst (λ (u : Table). Writes b₁ (on_table u st)) (ap (λ (k : Candidate). (announce m k t).table) (q an_offer) ∙ sym (announced_one a m os t i an_offer l)) (h.table st s g)

abbrev after : Terms → List Offer → ℕ → ℕ → State → State
after a os i j st = on_table (announced a (between i j os) (limits_of st) st.table) st

-- a deadline fits in a word
pub in-time : (a : Terms) → a.clock.time + request_lifetime < word
in-time a = omega (arith, a.clock.early)

after-sound : (a : Terms) (os : List Offer) (i j : ℕ) → Peer a.connection.number → Each OfferTyped os → (st : State) → Sound st → Sound (after a os i j st)
after-sound a os i j peer typed st s =
    sound-table s (bounded-offers a.connection.number a.clock.time a.preferred a.source a.late (between i j os) peer (in-time a) (each_between i j os typed) s.bounded)

module _ {b b₁ : List ℕ} (a : Terms) (os : List Offer) (i j : ℕ) (h : Becomes b b₁ (announced a (between i j os))) (peer : Peer a.connection.number)
    (typed : Each OfferTyped os) where
  pub part_kept : Kept b → Kept b₁
  part_kept k = record { state = after a os i j k.state; sound = after-sound a os i j peer typed k.state k.sound; writes = h k.state k.sound k.writes }

  pub part_join : {b₂ : List ℕ} (k : ℕ) → i ≤ j → j ≤ k → Becomes b₁ b₂ (announced a (between j k os)) → Becomes b b₂ (announced a (between i k os))
  part_join {b₂} k p q g st s w =
      subst (λ (t : Table). Writes b₂ (on_table t st)) (announced-join a (limits_of st) os st.table i j k p q) (g (after a os i j st) (after-sound a os i j peer typed st s) (h st s w))
