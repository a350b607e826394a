-- What waits while owners fail and parents are announced: each step, and the table that is known meanwhile.
use Prim.Native.Nat.{ℕ, ◌<◌}
use mathlib.Core.Path.{◌≡◌, refl, sym, ap, subst, ◌∙◌}
use mathlib.Core.Bool.{Bool, true, false, not}
use mathlib.Core.List.{List}
use borrow.Author.Tests.{not-true}
use Rattle.std.specs.Prelude as rust
use Rattle.std.proofs.lemmas.Option.{none-some, same_Some}
use Rattle.ident.specs.Number.{top, Key}
use Rattle.machine.specs.Limits.{word}
use Rattle.machine.specs.State.{Table, State, limits_of, on_table, owner_is}
use Rattle.machine.specs.Fail.{failed}
use Rattle.machine.specs.Sound.{Sound}
use Rattle.machine.proofs.Fail.{bounded-failed}
use Rattle.machine.proofs.Kept.{sound-table}
use Rattle.machine.proofs.Tests.{never}
use Rattle.store.specs.Image.{Writes}
use Rattle.store.specs.Shown.{Kept}
use Rattle.requests.specs.Changes.{Tells}
use Rattle.announcing.specs.Answers.{Answered, one_parent}
use Rattle.gathering.specs.Aside.{Empty}
use Rattle.parenting.specs.Displacing.{Spent, Reserve, unlisted, Supplied, Supplies, Finished, Further, FurtherIn}
use Rattle.parenting.proofs.Starting.{supplied_none}
use Rattle.parenting.proofs.Spent.{spent_next}
use Rattle.postponing.specs.declared.among.Reply.{Reply}
use Rattle.postponing.specs.declared.among.Reply.TheVariants as reply
use Rattle.postponing.specs.Lapses.{Timely}
use Rattle.postponing.specs.Pending.{Unplaced, Plain, Pending, Pends, OwnsInTime, FailsLater, Settles, Among}
use Rattle.postponing.proofs.Starting.{pending_start, pending_sound, none_writes as settled_writes, none_sound as settled_sound, none_empty as settled_empty, owner_told}
use Rattle.apart.specs.Bare.{bare_state}
use Rattle.apart.specs.Delayed.{Delay, Front, Fronts, Starts, Ends, PendsIf, FailsIn, Fails, Open, Opens, Closes, OneAt, OneIn, BesideIn}

later_true : (a l : Bool) → a ≡ not l → a ≡ false → l ≡ true
later_true a true e f = refl
later_true a false e f = never (sym f ∙ e)

later_false : (a l : Bool) → a ≡ not l → a ≡ true → l ≡ false
later_false a false e f = refl
later_false a true e f = never (sym e ∙ f)

-- ---- the state is known by its limits and cursors alone

pub pending_on : {b w : List ℕ} {d c : ℕ} (st : State) {t : Table} (u : Table) → Pending b w d c (bare_state st) t → Pending b w d c (bare_state (on_table u st)) t
pending_on st u p = record {
  base = p.base;
  entries = p.entries;
  sound = p.sound;
  writes = p.writes;
  unplaced = p.unplaced;
  mixed = p.mixed;
  parental = p.parental;
  living = p.living;
  left = p.left;
  count = p.count;
  timely = p.timely;
  room = p.room;
  together = p.together;
  table = p.table;
}

pub front_on : {b : List ℕ} {e : Delay} (st : State) {t : Table} (u : Table) → Front b e (bare_state st) t → Front b e (bare_state (on_table u st)) t
front_on st u f = record { sound = f.sound; later = λ i. pending_on st u (f.later i); at_once = f.at_once; empty = f.empty; none = f.none; alone = f.alone }

-- ---- the start, and the end

pub starts : {b w : List ℕ} {d : ℕ} {l a : Bool} → Empty w → (l ≡ true → Tells b Timely) → d ≡ 0 → a ≡ not l → Starts b (record { words = w; count = d; gone = 0; later = l; alone = a })
starts {b} {w} empty timely none alone st s o u = record {
  sound = s;
  later = λ i. subst (λ (x : ℕ). Pending b w x 0 st st.table) (sym none) (pending_start s o (record { timely = timely i st s o; unplaced = u }) empty);
  at_once = λ i. o;
  empty = λ i. empty;
  none = λ i. none;
  alone = alone;
}

pub ends_settled : {b b' w' : List ℕ} {e : Delay} → e.later ≡ true → Settles b b' e.words w' e.count e.gone → Ends b b' e
ends_settled l x st t f = settled_writes (x st t (f.later l))

pub ends_so : {b : List ℕ} {e : Delay} → e.later ≡ false → Ends b b e
ends_so l st t f = f.at_once l

-- ---- an owner fails

module _ {b : List ℕ} {e : Delay} {k : Key} {n : ℕ} (x : FailsIn b e k n) where
  pub fails_pends : e.later ≡ true → k.hash < top → Pends b e.words e.count e.gone × Tells b (OwnsInTime n k)
  fails_pends l s = let p = x.front.later l in (record { state = x.state; now_table = x.now_table; pending = p }, owner_told p k s n x.own)

  pub fails_kept : e.later ≡ false → Kept b
  fails_kept l = record { state = on_table x.now_table x.state; sound = x.front.sound; writes = x.front.at_once l }

module _ {b b' : List ℕ} {e : Delay} (k : Key) (n now : ℕ) where
  pub fails_with : {w' : List ℕ} {d' c' : ℕ} → e.later ≡ true → FailsLater b b' e.words w' e.count d' e.gone c' k n now
      → Fails b b' e (record { words = w'; count = d'; gone = c'; later = e.later; alone = e.alone }) k n now
  fails_with l x st t f =
      let p = x st t (f.later l) in
      record {
        sound = pending_sound p;
        later = λ i. p;
        at_once = λ i. never (sym i ∙ l);
        empty = λ i. never (sym i ∙ l);
        none = λ i. never (sym i ∙ l);
        alone = f.alone;
      }

  pub fails_at_once : {r : Bool} → e.later ≡ false → now < word → k.hash < top → Answered b b' r (λ l x. failed k n now x) → Fails b b' e e k n now
  fails_at_once l late small a st t f = record {
    sound = sound-table f.sound (bounded-failed k n now small late f.sound.bounded);
    later = λ i. never (sym l ∙ i);
    at_once = λ i. a.table (on_table t st) f.sound (f.at_once i);
    empty = f.empty;
    none = f.none;
    alone = f.alone;
  }

-- ---- parents

-- the first is not announced yet
pub front_open : {n : ℕ} {b v : List ℕ} {e : Delay} {st : State} {t : Table} {q : Reserve} {x : Bool} → Front b e st t → (x ≡ true → Spent t) → q ≡ unlisted x → Open n e.later b v e q st t
front_open {n} {b} {v} {e} {st} {t} {q} {x} f k z = subst (λ (r : Reserve). Open n e.later b v e r st t) (sym z) (record {
  same = refl;
  later = λ i. later_true e.alone e.later f.alone i;
  beside = λ i. f.later (later_true e.alone e.later f.alone i);
  unlisted = λ i. refl;
  alone = λ i.
      let l = later_false e.alone e.later f.alone i in
      subst (λ (d : ℕ). Supplied n b e.words v d st t (unlisted x)) (sym (f.none l)) (supplied_none v f.sound (f.at_once l) (f.empty l) x k);
  none_left = k;
})

pub fronts_open : {n : ℕ} {b v : List ℕ} {e : Delay} {q : Reserve} {x : Bool} → Fronts b e x → q ≡ unlisted x → Opens n b v e q
fronts_open {e = e} f z = record { late = e.later; state = f.state; now_table = f.now_table; opened = front_open f.front f.none_left z }

module _ {n : ℕ} {b v : List ℕ} {e : Delay} {q : Reserve} (x : Opens n b v e q) where
  pub opens_pends : PendsIf (not e.alone) b e
  opens_pends i = record { state = x.state; now_table = x.now_table; pending = x.opened.beside (not-true e.alone i) }

  pub opens_supplies : e.alone ≡ true → Supplies n b e.words v e.count q
  opens_supplies a = record { state = x.state; with_them = x.now_table; supplied = x.opened.alone a }

module _ (n now h i : ℕ) {b : List ℕ} (e : Delay) {spent : Bool} where
  pub beside_alone : e.alone ≡ true → BesideIn n now h i b b e e spent rust.None
  beside_alone a = record {
    told = λ x z. absurd (none-some x z);
    itself = λ z. a;
    waits = λ z l v r st t o. o;
  }

  module _ {b' w' : List ℕ} {d' : ℕ} {r : Reply} (a : e.alone ≡ false) (x : Among n now h i b b' e.words w' e.count d' e.gone spent r) where
    pub beside-kept : r ≡ reply.Kept → BesideIn n now h i b b' e (record { words = w'; count = d'; gone = e.gone; later = e.later; alone = e.alone }) spent (rust.Some true)
    beside-kept k = record {
      told = λ y z l v q s st t o.
          let g = x.kept k st t (o.beside a) in
          record {
            reply = sym (same_Some true y z) ∙ sym g.reply;
            opened = record {
              same = o.same;
              later = o.later;
              beside = λ j. g.pending;
              unlisted = o.unlisted;
              alone = λ j. never (sym a ∙ j);
              none_left = λ j. spent_next (limits_of st) n now h i t (o.none_left j);
            };
          };
      itself = λ z. absurd (none-some true (sym z));
      waits = λ z. absurd (none-some true (sym z));
    }

    pub beside-refused : r ≡ reply.Refused → BesideIn n now h i b b' e (record { words = w'; count = d'; gone = e.gone; later = e.later; alone = e.alone }) spent (rust.Some false)
    beside-refused k = record {
      told = λ y z l v q s st t o.
          let g = x.refused k st t (o.beside a) (λ j. o.none_left (sym s ∙ j)) in
          record {
            reply = sym (same_Some false y z) ∙ sym g.reply;
            opened = record {
              same = o.same;
              later = o.later;
              beside = λ j. g.pending;
              unlisted = o.unlisted;
              alone = λ j. never (sym a ∙ j);
              none_left = λ j. spent_next (limits_of st) n now h i t (o.none_left j);
            };
          };
      itself = λ z. absurd (none-some false (sym z));
      waits = λ z. absurd (none-some false (sym z));
    }

    -- it is to be announced by itself, and nothing has changed
    pub pends_still : r ≡ reply.Alone → Pends b e.words e.count e.gone → Pends b' w' d' e.gone
    pends_still k p = let s = x.alone k in rw (s.0, s.1, s.2) p

    pub beside_settled : {b₂ w₂ : List ℕ} {d₂ : ℕ} → r ≡ reply.Alone → Settles b' b₂ w' w₂ d' e.gone → d₂ ≡ 0
        → BesideIn n now h i b b₂ e (record { words = w₂; count = d₂; gone = e.gone; later = e.later; alone = true }) spent rust.None
    beside_settled {b₂} {w₂} {d₂} k y none = record {
      told = λ u z. absurd (none-some u z);
      itself = λ z. refl;
      waits = λ z l v q st t o.
          let s = x.alone k in
          let p = (rw (s.0, s.1, s.2) at y) st t (o.beside a) in
          record {
            same = o.same;
            later = λ j. never (sym j);
            beside = λ j. never (sym j);
            unlisted = λ j. never (sym j);
            alone = λ j.
                subst (λ (m : ℕ). Supplied n b₂ w₂ v m st t q) (sym none)
                (subst (Supplied n b₂ w₂ v 0 st t) (λ c. record { count = sym (o.unlisted a) c; spent = q.spent })
                (supplied_none v (settled_sound p) (settled_writes p) (settled_empty p) q.spent o.none_left));
            none_left = o.none_left;
          };
    }

module _ (n now h i : ℕ) {b b₁ v : List ℕ} {e e₁ : Delay} {q : Reserve} {spent : Bool} {o : rust.Option Bool} (x : BesideIn n now h i b b₁ e e₁ spent o) (s : spent ≡ q.spent) where
  pub one_beside : {kept : Bool} → o ≡ rust.Some kept → OneIn n now h i b b₁ v v e e₁ q q kept
  one_beside {kept} z l st t y = x.told kept z l v q s st t y

  pub waits_supplies : o ≡ rust.None → Opens n b v e q → Supplies n b₁ e₁.words v e₁.count q
  waits_supplies z p = record { state = p.state; with_them = p.now_table; supplied = (x.waits z p.late v q p.state p.now_table p.opened).alone (x.itself z) }

  pub one_further : {b₂ w₂ v₂ : List ℕ} {r : Further} → o ≡ rust.None → FurtherIn n now h i b₁ b₂ e₁.words w₂ v v₂ e₁.count q r
      → OneIn n now h i b b₂ v v₂ e (record { words = w₂; count = r.waiting; gone = e₁.gone; later = e₁.later; alone = e₁.alone }) q r.reserve r.kept
  one_further z f l st t y =
      let a = x.itself z in
      let p = x.waits z l v q st t y in
      let g = f st t (p.alone a) in
      record {
        reply = g.reply;
        opened = record {
          same = p.same;
          later = λ j. never (sym j ∙ a);
          beside = λ j. never (sym j ∙ a);
          unlisted = λ j. never (sym j ∙ a);
          alone = λ j. g.supplied;
          none_left = g.supplied.none_left;
        };
      }

-- ---- an owner has no more

pub closes_so : {n : ℕ} {b v : List ℕ} {e : Delay} {r : Reserve} → e.alone ≡ false → Closes n b b v e e r
closes_so {e = e} a l st t o =
    let p = o.beside a in
    let k = o.same ∙ o.later a in
    record {
      sound = pending_sound p;
      front = λ y. record {
        sound = pending_sound p;
        later = λ j. p;
        at_once = λ j. never (sym j ∙ k);
        empty = λ j. never (sym j ∙ k);
        none = λ j. never (sym j ∙ k);
        alone = a ∙ sym (ap not k);
      };
    }

pub closes_finished : {n : ℕ} {b b' v w' : List ℕ} {e : Delay} {r : Reserve} → e.alone ≡ true → Finished n b b' e.words v e.count r → Empty w'
    → Closes n b b' v e (record { words = w'; count = 0; gone = 0; later = e.later; alone = not e.later }) r
closes_finished a x empty l st t o =
    let g = x st t (o.alone a) in
    record {
      sound = g.0;
      front = λ y. record {
        sound = g.0;
        later = λ j. pending_start g.0 g.1 (y (sym o.same ∙ j)) empty;
        at_once = λ j. g.1;
        empty = λ j. empty;
        none = λ j. refl;
        alone = refl;
      };
    }
