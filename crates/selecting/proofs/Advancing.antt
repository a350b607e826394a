-- One key more of a plan's scan, on bytes in which what the plan has selected owns its request.
use Prim.Native.Nat.{ℕ, ◌+◌, ◌≤◌, ◌<◌}
use mathlib.Core.Path.{◌≡◌, refl, sym, ap, subst, ◌∙◌}
use mathlib.Core.Logic.{inl, inr}
use mathlib.Core.Bool.{Bool}
use mathlib.Core.List.{List, [], ◌∷◌, ◌++◌, map}
use mathlib.Core.Option.{Option, none, some}
use native.Mathlib.Omega.{arith}
use lib.Dec.{ltb, leb}
use lib.ListN.{length, get_or, length-append, get_or-append}
use lib.Seq.{get_or-set_same, get_or-set_other, get_or_at}
use borrow.Author.Tests.{ltb-true, ltb-false}
use Rattle.ident.specs.Number.{top, Key, txid}
use Rattle.machine.specs.Limits.{latest_clock, max_request_checks}
use Rattle.machine.specs.State.{Entry, Table, State, on_table, is_some}
use Rattle.machine.specs.Plan as machine
use Rattle.machine.specs.Plan.{add}
use Rattle.machine.specs.Sound.{Sound}
use Rattle.machine.proofs.Tests.{test}
use Rattle.machine.proofs.Owning.{one_most}
use Rattle.store.specs.Flat.{flat_of, rows_of}
use Rattle.store.specs.Image.{Writes}
use Rattle.store.specs.Shown.{rows_in, Kept}
use Rattle.store.proofs.Frame.{sizes}
use Rattle.store.specs.declared.rows.Window.{Window}
use Rattle.announcing.specs.Evicts.{entry_at}
use Rattle.std.specs.Prelude as rust
use Rattle.ident.specs.declared.Key.{Key as KeyRead}
use Rattle.cursors.specs.InWords.{Stands}
use Rattle.selecting.specs.declared.Scan.{Scan}
use Rattle.choosing.specs.Choosing.{free_choice, Windows}
use Rattle.selecting.specs.Selecting.{mark_all, until, selecting, Numbered, OneSelected, Marks, Considers}
use Rattle.selecting.proofs.Considered.{consider-marked, mark_snoc, free_snoc}
use Rattle.selecting.proofs.Picking.{pick_free, pick-sound}
use Rattle.selecting.proofs.SameRows.{marking-rows, marked-rows, same_length, numbered_as}

-- ---- the bytes write a sound state again

sound-selecting : {st : State} (now h : ℕ) (o : Option Entry) → h < top → now ≤ latest_clock → Sound st → o ≡ free_choice now st.table (txid h) → Sound (on_table (selecting now o st.table) st)
sound-selecting now h none small late s e = s
sound-selecting now h (some a) small late s e = pick-sound s now h small a e late

rows-selecting : {st : State} (now h : ℕ) (o : Option Entry) → h < top → Sound st → o ≡ free_choice now st.table (txid h) → map entry_at (rows_of (selecting now o st.table)) ≡ map entry_at
    (rows_of st.table)
rows-selecting now h none small s e = refl
rows-selecting {st} now h (some a) small s e = marking-rows (until now) a st.table s.bounded.ordered (pick_free s now h small a e)

module _ {b b' p p' : List ℕ} {now : ℕ} {x y : Window} {n n' : ℕ} (o : OneSelected b b' p p' now x y n n') (h : ℕ) (z : Windows b h x y) (late : now ≤ latest_clock) where
  kept_select : Kept b → Kept b'
  kept_select k = record {
    state = on_table (selecting now o.pick k.state.table) k.state;
    sound = sound-selecting now h o.pick z.as_txid.small late k.sound (o.chosen h z k.state k.sound k.writes);
    writes = o.table h z k.state k.sound k.writes;
  }

  rows_select : Kept b → rows_in b' ≡ rows_in b
  rows_select k =
      let e = same_length (rows_of (selecting now o.pick k.state.table)) (rows_of k.state.table)
      (rows-selecting now h o.pick z.as_txid.small k.sound (o.chosen h z k.state k.sound k.writes)) in
      (sizes (o.table h z k.state k.sound k.writes)).rows ∙ e ∙ sym (sizes k.writes).rows

  -- ---- the selections, marked and remembered

  module _ {st : State} (s : Sound st) {l : List Entry} (g : Marks now st l b p n) (room : n < length p) where
    abbrev t : Table
    t = mark_all (until now) l st.table

    said : o.pick ≡ free_choice now t (txid h)
    said = o.chosen h z (on_table t st) g.sound g.writes

    wrote : Writes b' (on_table (selecting now o.pick t) st)
    wrote = o.table h z (on_table t st) g.sound g.writes

    marks_none : o.pick ≡ none → Marks now st l b' p' n'
    marks_none e = record {
      sound = g.sound;
      writes = rw e at wrote;
      free = g.free;
      count = rw e at o.count ∙ omega (arith, g.count);
      numbers = λ j d q. rw (rw e at o.numbers) (g.numbers j d (omega (arith, q, rw e at o.count)));
    }

    module _ (a : Entry) (e : o.pick ≡ some a) where
      is : some a ≡ free_choice now t (txid h)
      is = sym e ∙ said

      more : n' ≡ n + 1
      more = rw e at o.count

      stood : Numbered (rows_of st.table) o.number a
      stood = numbered_as (marked-rows (until now) l st.table s.bounded.ordered g.free) (rw e at (o.stands (flat_of (on_table t st)) g.writes))

      remembered : (j : ℕ) (d : Entry) → j < n' → Numbered (rows_of st.table) (get_or p' j 0) (get_or (l ++ (a ∷ [])) j d)
      remembered j d q = elim (test (ltb j n)) [
        | inl f ↦ let less = ltb-true j n f in
            rw (rw e at o.numbers, get_or-set_other p n j o.number 0 (λ x. absurd (omega arith)), get_or-append l (a ∷ []) d j (omega (arith, g.count))) (g.numbers j d less)
        | inr f ↦ let same : j ≡ n = omega (arith, q, more, ltb-false j n f) in
            rw (rw e at o.numbers, same, get_or-set_same p n o.number 0 room, get_or_at l a [] d n (sym g.count)) stood
      ]

      marks_some : Marks now st (l ++ (a ∷ [])) b' p' n'
      marks_some = record {
        sound = rw (mark_snoc (until now) l a st.table) (pick-sound g.sound now h z.as_txid.small a is late);
        writes = rw (mark_snoc (until now) l a st.table) (rw e at wrote);
        free = free_snoc (until now) l a st.table g.free (pick_free g.sound now h z.as_txid.small a is);
        count = omega (arith, more, g.count, length-append l (a ∷ []));
        numbers = remembered;
      }

    marks_more : Marks now st (add o.pick l) b' p' n'
    marks_more = go o.pick refl
      where
        go : (q : Option Entry) → o.pick ≡ q → Marks now st (add q l) b' p' n'
        go none e = marks_none e
        go (some a) e = marks_some a e

-- ---- the scan

module _ (now : ℕ) (t : Table) (k : Key) (c : machine.Scan) where
  counted : (machine.consider now t k c).considered ≡ c.considered + 1
  unfolding machine.consider
  counted = omega arith

  last_is : (machine.consider now t k c).last ≡ some k
  unfolding machine.consider
  last_is = refl

pub considers : {b b' p p' : List ℕ} {now : ℕ} (k : Key) {x y : Window} {n' : ℕ} (v : Scan) (f : Bool) (q : rust.Option KeyRead) → Kept b → OneSelected b b' p p' now x y v.chosen n' → Windows b
    k.hash x y
    → now ≤ latest_clock → v.chosen < length p → Stands q (some k) → f ≡ leb max_request_checks n'
    → Considers b b' p p' now k v (record { chosen = n'; considered = v.considered + 1; full = f; last = q })
considers {b} {b'} {p} {p'} {now} k {n' = n'} v f q kept o z late room at_end full = record {
  kept = kept_select o k.hash z late kept;
  rows_same = rows_select o k.hash z late kept;
  full = full;
  near = omega (arith, o.count, one_most (is_some o.pick));
  counted = refl;
  goes = λ st c g.
      let m = marks_more o k.hash z late g.sound g.marks room in
      let said = o.chosen k.hash z _ g.marks.sound g.marks.writes in
      let e = consider-marked now (until now) st.table k c g.sound.bounded.ordered g.marks.free z.as_txid.small
      ∙ ap (λ (w : Option Entry). add w c.chosen) (sym said) in
      record {
        sound = g.sound;
        marks = subst (λ (l : List Entry). Marks now st l b' p' n') (sym e) m;
        considered = ap (λ (i : ℕ). i + 1) g.considered ∙ sym (counted now st.table k c);
        last = subst (Stands q) (sym (last_is now st.table k c)) at_end;
      };
}
