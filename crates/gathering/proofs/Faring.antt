-- How an announcement fares beside those that wait, and who waits then.
use Prim.Native.Nat.{ℕ, ◌+◌, ◌-◌, ◌≤◌, ◌<◌}
use mathlib.Core.Path.{◌≡◌, refl, sym, ap, subst, ◌∙◌}
use mathlib.Core.Logic.{inl, inr}
use mathlib.Core.Bool.{Bool, true, false, ◌||◌, or-false as or_none}
use mathlib.Core.List.{List, [], ◌∷◌, ◌++◌}
use mathlib.Core.Option.{Option, none, some}
use native.Mathlib.Omega.{arith}
use lib.Dec.{leb}
use lib.ListN.{length}
use borrow.Author.Tests.{le-leb, lt-leb}
use Rattle.ident.specs.Number.{top, Key}
use Rattle.regions.specs.declared.Row.{Row}
use Rattle.machine.specs.Limits.{Limits, max_peer_announcements}
use Rattle.machine.specs.State.{Answer, Candidate, Entry, State, Table, limits_of}
use Rattle.machine.specs.Table.{at, held, held_by, held_at, is_candidate}
use Rattle.machine.specs.Announce.{announce_keyed}
use Rattle.machine.specs.Sound.{Sound}
use Rattle.machine.proofs.Tests.{test, or_true}
use Rattle.store.specs.Flat.{row_of}
use Rattle.announcing.proofs.Entering.{fresh}
use Rattle.gathering.specs.declared.beside.Fare.{Fare}
use Rattle.gathering.specs.declared.beside.Fare.TheVariants.{Nothing, Waits, Alone}
use Rattle.gathering.specs.Waits.{waits, Admits, barred_beside, full_beside}
use Rattle.gathering.specs.Aside.{space, PutIn, Aside, Joins, Fares, FaresIn, RowIn, Enters, Joined, SetAside}
use Rattle.gathering.proofs.Waiting.{taken-barred, taken_out, admits, admitted}
use Rattle.gathering.proofs.OneMore.{aside_more}

-- ---- barred for one of three reasons

module _ (es : List Entry) (k : Key) (n : ℕ) (t : Table) {m : ℕ} (e : length es ≡ m) where
  pub barred-many : {x : ℕ} → x ≡ held_by n t → m ≤ space → max_peer_announcements - m ≤ x → true ≡ barred_beside es k n t
  barred-many q l h = sym (or_true (is_candidate n k.hash t || waits k.hash es) _ (le-leb max_peer_announcements (held_by n t + length es) (omega arith)))

  pub barred_known : {r : Bool} → r ≡ is_candidate n k.hash t → r ≡ true → true ≡ barred_beside es k n t
  barred_known q h = ap (λ (b : Bool). (b || waits k.hash es) || leb max_peer_announcements (held_by n t + length es)) (sym h ∙ q)

  pub barred-waits : {x : ℕ} {r w : Bool} → x ≡ held_by n t → x < max_peer_announcements - m → r ≡ is_candidate n k.hash t → r ≡ false → w ≡ waits k.hash es → w ≡ barred_beside es k n t
  barred-waits {x} {r} {w} p l q h i =
      i ∙ sym (or_none (waits k.hash es))
      ∙ ap (λ (b : Bool). waits k.hash es || b) (sym (lt-leb max_peer_announcements (held_by n t + length es) (omega arith)))
      ∙ ap (λ (b : Bool). (b || waits k.hash es) || leb max_peer_announcements (held_by n t + length es)) (sym h ∙ q)

-- ---- how it fares

module _ (st : State) (s : Sound st) (k : Key) (c : Candidate) (small : k.hash < top) {es : List Entry} {w : List ℕ} {d : ℕ} (a : Aside c.connection st.table es w d) where
  abbrev m : Limits
  m = limits_of st

  abbrev t : Table
  t = st.table

  abbrev Barred : Bool
  Barred = barred_beside es k c.connection t

  pub fares-barred : {r : Bool} → r ≡ Barred → r ≡ true → Fares m t es k c Nothing
  fares-barred q e = taken-barred m c es t a.mixed.ready a.mine s.bounded.ordered k (sym q ∙ e)

  out : full_beside m es k t ≡ true → c.preferred ≡ false → Fares m t es k c Nothing
  out f p =
      elim (test Barred) [
        | inl b ↦ fares-barred refl b
        | inr b ↦ taken_out m c es t a.mixed.ready a.mine s.bounded.ordered k b f p
      ]

  -- L announcements are held, or eight at the hash
  pub fares-full : {r : Bool} → r ≡ leb st.limit (held t + d) → r ≡ true → c.preferred ≡ false → Fares m t es k c Nothing
  fares-full q e p = out (or_true (leb m.alternates (held_at k.hash t)) _ (ap (λ (i : ℕ). leb st.limit (held t + i)) a.mixed.count ∙ sym q ∙ e)) p

  pub fares-crowded : {x : Bool} → x ≡ leb m.alternates (held_at k.hash t) → x ≡ true → c.preferred ≡ false → Fares m t es k c Nothing
  fares-crowded q e p = out (ap (λ (b : Bool). b || leb st.limit (held t + length es)) (sym q ∙ e)) p

  pub fares_in : {f b x : Bool} → f ≡ leb st.limit (held t + d) → f ≡ false → b ≡ Barred → b ≡ false → x ≡ leb m.alternates (held_at k.hash t) → x ≡ false → Fares m t es k c Waits
  fares_in {f} {b} {x} qf ef qb eb qx ex =
      let full : leb st.limit (held t + length es) ≡ false = ap (λ (i : ℕ). leb st.limit (held t + i)) a.mixed.count ∙ sym qf ∙ ef in
      let crowd : leb m.alternates (held_at k.hash t) ≡ false = sym qx ∙ ex in
      let spare : full_beside m es k t ≡ false = ap (λ (z : Bool). z || leb st.limit (held t + length es)) crowd ∙ full in
      let x : Admits m t es k c = admits m t es k c (sym qb ∙ eb) spare in
      record { joins = ap (λ (z : Answer). z.table) (admitted x a.mixed.ready s.bounded.ordered); idle = fresh st s k small c.connection x.new; admits = x }

-- ---- who waits then

module _ {m : Limits} {t : Table} {es : List Entry} {c : Candidate} {w : List ℕ} {d : ℕ} (a : Aside c.connection t es w d) where
  pub joined_none : Joined m t es w d none c
  unfolding announce_keyed
  joined_none = record { entries = es; aside = a; table = refl; room = λ h. omega (arith, a.mixed.count); enters = λ h. absurd (omega (arith, a.mixed.count)) }

  pub joined_not : {k : Key} → Fares m t es k c Nothing → Joined m t es w d (some k) c
  unfolding announce_keyed
  joined_not f = record { entries = es; aside = a; table = f; room = λ h. omega (arith, a.mixed.count); enters = λ h. absurd (omega (arith, a.mixed.count)) }

  pub joined_in : {k : Key} {w' : List ℕ} {y : Row} → k.hash < top → d < space → Joins m t es k c → y ≡ row_of (at k t) c → PutIn w w' d y → Joined m t es w' (d + 1) (some k) c
  unfolding announce_keyed
  joined_in {k} {w'} {y} small l f e p =
      let b : Entry = record { key = k; candidate = c } in
      record {
        entries = es ++ (b ∷ []);
        aside = aside_more k c small a l f.admits.apart f.idle e p;
        table = f.joins;
        room = λ h. omega (arith, f.admits.room, a.mixed.count);
        enters = λ h j q.
            let z : k ≡ j = cc in
            subst (λ (i : Key). Enters m t es i c (es ++ (b ∷ []))) z (record { admits = f.admits; last = refl });
      }

-- ---- what a call does with one announcement

module _ {b w : List ℕ} {m : ℕ} {k : Key} {c : Candidate} where
  pub set_not : {r : Fare} → FaresIn b w m k c r → (r ≡ Waits → ⊥) → SetAside b w w m (some k) c r
  set_not f n = record {
    nothing = λ e. record { same = refl; joined = λ st s g es a. joined_not a (subst (Fares (limits_of st) st.table es k c) e (f.fares st s g es a)) };
    waits = λ e. absurd (n e);
    alone = λ _. refl;
  }

  pub set_in : {w' : List ℕ} {y : Row} → k.hash < top → FaresIn b w m k c Waits → RowIn b k c y → PutIn w w' m y → SetAside b w w' m (some k) c Waits
  set_in {w'} {y} small f q p = record {
    nothing = λ e. cc;
    waits = λ _. record {
      spare = f.spare refl;
      joined = λ st s g es a. let h : Joins (limits_of st) st.table es k c = f.fares st s g es a in joined_in a small (f.spare refl) h (q st s g h.idle) p;
    };
    alone = λ e. cc;
  }

-- one that doesn't wait leaves the region
pub set-same : {b w w' : List ℕ} {m : ℕ} {x : Option Key} {c : Candidate} (r : Fare) → SetAside b w w' m x c r → (r ≡ Waits → ⊥) → w' ≡ w
set-same Nothing a n = (a.nothing refl).same
set-same Waits a n = absurd (n refl)
set-same Alone a n = a.alone refl

pub set_none : {b w : List ℕ} {m : ℕ} {c : Candidate} → SetAside b w w m none c Nothing
set_none = record { nothing = λ _. record { same = refl; joined = λ st s g es a. joined_none a }; waits = λ e. cc; alone = λ _. refl }

pub set-keyed : {b w w' : List ℕ} {m : ℕ} {x y : Option Key} {c : Candidate} {r : Fare} → x ≡ y → SetAside b w w' m x c r → SetAside b w w' m y c r
set-keyed {b} {w} {w'} {m} {x} {y} {c} {r} e a = subst (λ (k : Option Key). SetAside b w w' m k c r) e a
