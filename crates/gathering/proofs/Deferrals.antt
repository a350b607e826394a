-- What a call that defers the victims' going does with one announcement.
use Prim.Native.Nat.{ℕ, zero, suc, ◌+◌, ◌≤◌, ◌<◌}
use mathlib.Core.Path.{◌≡◌, refl, sym, ap, subst, ◌∙◌}
use mathlib.Core.Logic.{inl, inr}
use mathlib.Core.Bool.{Bool, true, false}
use mathlib.Core.List.{List, [], ◌∷◌}
use mathlib.Core.Option.{Option, none, some}
use native.Mathlib.Numerals.{add-one}
use native.Mathlib.Omega.{arith}
use lib.Dec.{eqb}
use lib.ListN.{length, take, drop, get_or, take-append-drop}
use borrow.Author.Tests.{leb-true, leb-false}
use lib.Seq.{drop-cons, take-suc}
use Rattle.std.specs.List.{list_any, range_with_len}
use Rattle.std.specs.Prelude as std
use Rattle.std.specs.Prelude.{is_some}
use Rattle.ident.specs.Number.{top, Key}
use Rattle.regions.specs.declared.Row.{Row}
use Rattle.regions.specs.Rows.{quad_number}
use Rattle.machine.specs.State.{Candidate, limits_of}
use Rattle.machine.specs.Table.{one, under, held_at}
use Rattle.machine.specs.Announce.{victims, greatest, at_hash, announce_keyed}
use Rattle.machine.specs.Typed.{Each}
use Rattle.store.specs.Flat.{rows_of}
use Rattle.store.specs.Gather.{key_at}
use Rattle.store.specs.FlatSound.{count_rows}
use Rattle.store.proofs.Counts.{count-rows}
use Rattle.store.proofs.Missing.{each_at}
use Rattle.requests.specs.Changes.{Tells}
use Rattle.announcing.specs.Enters.{Crowded}
use Rattle.announcing.specs.Evicts.{found}
use Rattle.announcing.specs.Falls.{no_row, numbered, ListedRow}
use Rattle.machine.proofs.Tests.{or_left, or_right}
use Rattle.announcing.proofs.Nobody.{none_greatest}
use Rattle.announcing.proofs.Scanning.{none_found}
use Rattle.announcing.proofs.GoneBy.{each_front}
use Rattle.gathering.specs.declared.beside.Fare.{Fare}
use Rattle.gathering.specs.declared.beside.Fare.TheVariants.{Nothing, Waits, Alone}
use Rattle.gathering.specs.Waits.{waits}
use Rattle.gathering.specs.Aside.{space, PutIn, BarredIn, WaitsAt, RowIn}
use Rattle.gathering.specs.Deferring.{ListedAt, SuitsNot, SuitsToo, SuitedIn, Deferred}
use Rattle.gathering.proofs.Deferral.{owed_not, out_same, owed_in}

-- ---- the rows listed, one after the other

module _ (rows : List Row) (h : ℕ) where
  -- the i-th is at the hash
  abbrev pub at_row : ℕ → Bool
  at_row i = eqb (quad_number (get_or rows i no_row).hash) h

  none_from : (n i : ℕ) → i + n ≤ length rows → list_any at_row (range_with_len i n) ≡ false → Each (λ (y : Row). eqb (key_at y).hash h ≡ false) (take n (drop i rows))
  unfolding key_at
  none_from zero i l e = tt
  none_from (suc n) i l e =
      let rest = list_any at_row (range_with_len (i + 1) n) in
      rw (drop-cons rows i no_row (omega arith)) (
        or_left (at_row i) rest e,
        rw (← add-one i) (none_from n (i + 1) (omega arith) (or_right (at_row i) rest e)),
      )

  pub listed_by : {n : ℕ} → n ≤ length rows → list_any at_row (range_with_len 0 n) ≡ false → Each (λ (y : Row). eqb (key_at y).hash h ≡ false) (take n rows)
  listed_by {n} l e = none_from n 0 (omega arith) e

-- ---- a hash that has no candidates

none_counted : (p : Row → Bool) (rs : List Row) → count_rows p rs ≡ 0 → Each (λ (r : Row). p r ≡ false) rs
unfolding count_rows
none_counted p [] e = tt
none_counted p (r ∷ rs) e = (none_one (p r) (omega arith), none_counted p rs (omega arith))
  where
    none_one : (x : Bool) → one x ≡ 0 → x ≡ false
    none_one true z = absurd (omega arith)
    none_one false z = refl

each_numbered : (P : Row → Type 0) (rs : List Row) (ns : List ℕ) → Each P rs → Each (λ (i : ℕ). i < length rs) ns → Each P (numbered rs ns)
each_numbered P rs [] a l = tt
each_numbered P rs (i ∷ ns) a l = (each_at P rs i no_row a l.0, each_numbered P rs ns a l.1)

-- no victim is at it
pub listed-nowhere : {b v : List ℕ} {m : ℕ} (n h : ℕ) {d : ℕ} → Tells b (λ t. d ≡ held_at h t) → d ≡ 0 → ListedAt b v m n h false
listed-nowhere {b} {v} {m} n h {d} q e f st s w x =
    let P : Row → Type 0 = λ y. eqb (key_at y).hash h ≡ false in
    let rs = rows_of st.table in
    let none : Each P rs = none_counted (λ (r : Row). under h (key_at r) r.conn) rs (count-rows (under h) st.table ∙ sym (q st s w) ∙ e) in
    let all : Each P x.rows = subst (Each P) (sym x.are) (each_numbered P rs (take m v) none x.inside) in
    (each_front P (take n x.rows) (drop n x.rows) (subst (Each P) (sym (take-append-drop n x.rows)) all)).0

-- ---- how it fares

module _ {b w v : List ℕ} {d m : ℕ} {k : Key} {c : Candidate} {y : Row} where
  pub suited-alone : SuitedIn b w v d m k c y Alone
  suited-alone = record { nothing = λ e. cc; waits = λ e. cc }

module _ {b w v : List ℕ} {d m : ℕ} {k : Key} {c : Candidate} {y : Row} (p : c.preferred ≡ true) {l : Bool} (at : ListedAt b v m (d + 1) k.hash l) (n : l ≡ false) where
  pub suited-barred : {r : Bool} → BarredIn b w d k c.connection r → r ≡ true → SuitedIn b w v d m k c y Nothing
  suited-barred q e = record {
    nothing = λ _. record { preferred = p; elsewhere = subst (ListedAt b v m (d + 1) k.hash) n at; out = λ st s g es a. record { either = inl (sym (q st s g es a) ∙ e) } };
    waits = λ i. cc;
  }

  pub suited-crowded : {x : Bool} → Crowded b k.hash x → x ≡ true → (z : std.Option Row) → Tells b (λ t. found z ≡ greatest (victims (at_hash k.hash) t)) → is_some z ≡ false
      → SuitedIn b w v d m k c y Nothing
  suited-crowded q l z r e = record {
    nothing = λ _. record {
      preferred = p;
      elsewhere = subst (ListedAt b v m (d + 1) k.hash) n at;
      out = λ st s g es a. record {
        either = inr (
          leb-true (limits_of st).alternates (held_at k.hash st.table)
              (sym (q st s g) ∙ l),
          none_greatest (victims (at_hash k.hash) st.table) (sym (r st s g) ∙ none_found z e),
        );
      };
    };
    waits = λ i. cc;
  }

  pub suited_in : {r x z : Bool} {h : ℕ} → d < space → BarredIn b w d k c.connection r → r ≡ false → Crowded b k.hash x → x ≡ false
      → eqb y.conn c.connection ≡ false → h ≡ quad_number y.hash → WaitsAt w d h z → z ≡ false → SuitedIn b w v d m k c y Waits
  unfolding key_at
  suited_in l q e crowd few mine i wait u = record {
    nothing = λ j. cc;
    waits = λ _. record {
      spare = l;
      preferred = p;
      other = mine;
      elsewhere = subst (ListedAt b v m (d + 1) k.hash) n at;
      suited = λ st s g es a. record {
        free = sym (q st s g es a) ∙ e;
        room = leb-false (limits_of st).alternates (held_at k.hash st.table) (sym (crowd st s g) ∙ few);
        apart = ap (λ (j : ℕ). waits j es) (sym i) ∙ sym (wait st.table s.bounded.ordered es a.mixed) ∙ u;
      };
    };
  }

-- ---- what is done with it

module _ {b w v : List ℕ} {d m : ℕ} {c : Candidate} where
  pub deferred_none : Deferred b w w v d m none c Nothing
  unfolding announce_keyed
  deferred_none = record { nothing = λ _ st f. owed_not f refl; waits = λ e. cc; alone = λ _. refl }

  pub deferred_alone : {x : Option Key} → Deferred b w w v d m x c Alone
  deferred_alone = record { nothing = λ e. cc; waits = λ e. cc; alone = λ _. refl }

  module _ {k : Key} {y : Row} (small : k.hash < top) (l : d < m) where
    pub deferred_not : {r : Fare} → SuitedIn b w v d m k c y r → (r ≡ Waits → ⊥) → Deferred b w w v d m (some k) c r
    unfolding announce_keyed
    deferred_not x n = record {
      nothing = λ e st f.
          let s : SuitsNot b w v d m k c = x.nothing e in
          owed_not f (out_same f k small (fewer f.listed.rows (omega (arith, f.listed.count)) (s.elsewhere refl st f.sound f.writes f.listed)) s.preferred
          (s.out st f.sound f.writes f.entries f.aside));
      waits = λ e. absurd (n e);
      alone = λ _. refl;
    }
      where
        fewer : (rows : List Row) → d < length rows → Each (λ (x : Row). eqb (key_at x).hash k.hash ≡ false) (take (d + 1) rows)
            → Each (λ (x : Row). eqb (key_at x).hash k.hash ≡ false) (take d rows)
        fewer rows g e =
            let q : d + 1 ≡ suc d = omega arith in
            (each_front (λ (x : Row). eqb (key_at x).hash k.hash ≡ false) (take d rows) (get_or rows d y ∷ [])
            (subst (Each (λ (x : Row). eqb (key_at x).hash k.hash ≡ false)) (ap (λ (i : ℕ). take i rows) q ∙ take-suc rows d y g) e)).0

    pub deferred_in : {w' : List ℕ} {z : Row} → ListedRow b v m d y → SuitedIn b w v d m k c y Waits → RowIn b k c z → PutIn w w' d z
        → Deferred b w w' v d m (some k) c Waits
    deferred_in {w'} {z} found-y x row put =
        let s : SuitsToo b w v d m k c y = x.waits refl in
        record {
          nothing = λ e. cc;
          waits = λ _. record {
            spare = (s.spare, l);
            owed = λ st f.
                owed_in c f l y found-y k small (s.elsewhere refl st f.sound f.writes f.listed) s.preferred
                (s.suited st f.sound f.writes f.entries f.aside) s.other s.spare row put;
          };
          alone = λ e. cc;
        }

pub deferred_keyed : {b w w' v : List ℕ} {d m : ℕ} {x y : Option Key} {c : Candidate} {r : Fare} → x ≡ y → Deferred b w w' v d m x c r → Deferred b w w' v d m y c r
deferred_keyed {b} {w} {w'} {v} {d} {m} {x} {y} {c} {r} e a = subst (λ (k : Option Key). Deferred b w w' v d m k c r) e a
