-- A parent whose connection has announced its hash, at which nobody waits: what it brings is adopted in place, and those that wait do so on.
use Prim.Native.Nat.{ℕ, ◌+◌, ◌<◌}
use mathlib.Core.Path.{◌≡◌, refl, sym, ap, subst, ◌∙◌}
use mathlib.Core.Logic.{inl, inr}
use mathlib.Core.Bool.{Bool, true, false, ◌||◌}
use mathlib.Core.List.{List, [], ◌∷◌, ◌++◌}
use native.Mathlib.Omega.{arith}
use lib.Dec.{ltb, eqb}
use lib.ListN.{take, drop, take-append-drop}
use lib.Seq.{take_all}
use borrow.Author.Tests.{eqb-false}
use Rattle.ident.proofs.Places.{place_same as place-inj}
use Rattle.regions.specs.declared.Row.{Row}
use Rattle.machine.proofs.At.{at_other}
use Rattle.store.specs.Flat.{row_of, rows_for, rows_of}
use Rattle.store.specs.Gather.{key_at}
use Rattle.store.specs.Image.{image}
use Rattle.store.proofs.FlatRead.{image_injective}
use Rattle.announcing.specs.Falls.{cuts, Foremost, VictimRows}
use Rattle.announcing.proofs.Entering.{cleared-sound}
use Rattle.announcing.proofs.Giving.{first_goes, next_first}
use Rattle.announcing.proofs.GoneBy.{each_front}
use Rattle.announcing.proofs.Swapping.{change-swap}
use Rattle.gathering.specs.Deferring.{left_by, ListedAt}
use Rattle.gathering.proofs.Deferral.{left_sound}
use Rattle.parenting.specs.Displacing.{Reserve, Owes, AdoptsListed}
use Rattle.parenting.proofs.StillListed.{Still, Off, still_first, turned_change, turned_adopted, turned_marked}
use Rattle.parenting.proofs.Spent.{spent_next}
use Rattle.parenting.proofs.Supplying.{some_listed, supplied_listed}
use Rattle.ident.specs.declared.Kind.{Kind}
use Rattle.ident.specs.declared.Kind.TheVariants.{Txid, Wtxid}
use Rattle.ident.specs.Number.{top, Key, place, txid, wtxid}
use Rattle.machine.specs.Limits.{Limits, word}
use Rattle.machine.specs.State.{Candidate, Entry, Request, Table, State, Answer, limits_of, on_table, done, with_candidates, marked}
use Rattle.machine.specs.Table.{at, keep, change, has, any, total, count_in, count, is_candidate}
use Rattle.machine.specs.Announce.{without, cut, adopt, adopted, request_parent_at}
use Rattle.machine.specs.Fail.{parent_of, mark}
use Rattle.machine.specs.Sound.{Ordered, All, Filled, Sound}
use Rattle.machine.specs.Typed.{Each}
use Rattle.machine.proofs.Fail.{Peer}
use Rattle.machine.proofs.Kept.{sound-table}
use Rattle.machine.proofs.Table.{at_key, ordered-change, filled-change}
use Rattle.machine.proofs.Tests.{test, never}
use Rattle.store.specs.Image.{Writes}
use Rattle.requests.proofs.Holding.{either-kind}
use Rattle.announcing.specs.Answers.{Answered, one_parent}
use Rattle.gathering.specs.Waits.{pushes, Small, waits}
use Rattle.gathering.specs.Aside.{Aside}
use Rattle.gathering.proofs.Elsewhere.{at_pushes, change-pushes, mixed_still}
use Rattle.parenting.specs.Waiting.{marks, keys_of, Beside, Adoptable, NextAt, AdoptsBeside, NextIn}
use Rattle.parenting.proofs.Marking.{count-mark, at_marks, change-marks, entries-else}
use Rattle.parenting.proofs.Waiting.{bounded_one}

-- ---- one request

module _ (same : Bool) (c : Candidate) where
  abbrev pub adopts : Request → Request
  adopts r = with_candidates (adopt same c r.candidates) r

  adopt_count : (p : ℕ → Bool) (cs : List Candidate) → count_in p (adopt same c cs) ≡ count_in p cs
  unfolding count_in adopt
  adopt_count p [] = refl
  adopt_count p (d ∷ cs) = elim (test (eqb d.connection c.connection)) [ inl e ↦ rw e | inr e ↦ rw (e, adopt_count p cs) ]

  adopts_count : (q : Key → ℕ → Bool) (k : Key) (t : Table) → count q (change k adopts t) ≡ count q t
  unfolding change total keep count_in
  adopts_count q k [] = unfold adopt in refl
  adopts_count q k (r ∷ t) =
      elim (test (ltb (place k) (place r.key))) [
        | inl e ↦ rw e (unfold adopt in refl)
        | inr e ↦ rw e (elim (test (eqb (place k) (place r.key))) [
          | inl d ↦ rw d (counted (adopts r) (adopts r).candidates t refl ∙ ap (λ (n : ℕ). n + count q t) (adopt_count (q r.key) r.candidates))
          | inr d ↦ rw d (ap (λ (n : ℕ). count_in (q r.key) r.candidates + n) (adopts_count q k t))
        ])
      ]
    where
      counted : (r : Request) (cs : List Candidate) (t : Table) → r.candidates ≡ cs → count q (keep r cs t) ≡ count_in (q r.key) r.candidates + count q t
      counted r [] t e = rw e (let z : count q t ≡ 0 + count q t = omega arith in z)
      counted r (d ∷ cs) t e = refl

-- ---- the parent is kept where its connection is

module _ (m : Limits) (n now h i : ℕ) (t : Table) where
  kept_txid : has n (at (txid h) t).candidates ≡ true → one_parent m n now h i t ≡ done (mark (txid h) (adopted true (txid h) (parent_of n now h i) t))
  unfolding request_parent_at
  kept_txid e = rw e refl

  kept_wtxid : has n (at (txid h) t).candidates ≡ false → has n (at (wtxid h) t).candidates ≡ true
      → one_parent m n now h i t ≡ done (mark (txid h) (adopted false (wtxid h) (parent_of n now h i) t))
  unfolding request_parent_at
  kept_wtxid e f = rw (e, f) refl

-- ---- adopted under one of the two keys of the hash

module _ (n now h i : ℕ) (s : h < top) (y : Kind) (same : Bool) where
  abbrev pub j : Key
  j = record { kind = y; hash = h }

  abbrev pub g : Request → Request
  g = adopts same (parent_of n now h i)

  abbrev pub adopts_marks : Table → Table
  adopts_marks t = mark (txid h) (change j g t)

  pub still_ordered : (t : Table) → Ordered 0 t → Ordered 0 (change j g t)
  still_ordered t o = ordered-change j g 0 t (λ r. refl) (omega arith) s o

  pub as_many : (q : Key → ℕ → Bool) (t : Table) → count q (adopts_marks t) ≡ count q t
  as_many q t = count-mark q (txid h) (change j g t) ∙ adopts_count same (parent_of n now h i) q j t

  -- before those that wait come in, or behind them
  pub before-pushes : (es : List Entry) (t : Table) → Each Small es → waits h es ≡ false → Ordered 0 t → All Filled t → adopts_marks (pushes es t) ≡ pushes es (adopts_marks t)
  before-pushes es t a w o l =
      ap (mark (txid h)) (change-pushes j g (λ r. refl) s es t a w o l)
      ∙ change-pushes (txid h) marked (λ r. refl) s es (change j g t) a w (still_ordered t o) (filled-change j g t l)

  -- and are marked
  pub before-marks : (es : List Entry) (t : Table) → Each Small es → waits h es ≡ false → Ordered 0 t → All Filled t → adopts_marks (marks (keys_of es) t) ≡ marks (keys_of es) (adopts_marks t)
  before-marks es t a w o l =
      let e = entries-else h es a w in
      ap (mark (txid h)) (change-marks j g (λ r. refl) s (keys_of es) t e o l)
      ∙ change-marks (txid h) marked (λ r. refl) s (keys_of es) (change j g t) e (still_ordered t o) (filled-change j g t l)

  pub still-aside : {d : ℕ} {t : Table} {es : List Entry} {w : List ℕ} → Aside n t es w d → waits h es ≡ false → Aside n (adopts_marks t) es w d
  still-aside a e = record { mixed = mixed_still (txid h) marked (λ r. refl) s (mixed_still j g (λ r. refl) s a.mixed e) e; mine = a.mine }

-- ---- beside those that wait, whose rows are not at the hash

-- the table with those that wait, marked, has at the hash what the one without them has
pub at_beside : (k : Key) → k.hash < top → (es : List Entry) (t : Table) → Each Small es → waits k.hash es ≡ false → at k (marks (keys_of es) (pushes es t)) ≡ at k t
at_beside k s es t a w = at_marks k (keys_of es) (pushes es t) s (entries-else k.hash es a w) ∙ at_pushes k s es t a w

module _ {n now h i : ℕ} (p : Peer n) (late : now < word) (short : i < word) (s : h < top) where
  -- what is announced on a table whose request at the hash is known
  abbrev Asked : Kind → Bool → Limits → Table → Table → Type 0
  Asked y same m t q = at (txid h) q ≡ at (txid h) t → at (wtxid h) q ≡ at (wtxid h) t → one_parent m n now h i q ≡ done (adopts_marks n now h i s y same q)

  -- so it is announced under one of the two keys
  pub record AsksAt (m : Limits) (t : Table) : Type 0 where
    pub kind : Kind
    pub same : Bool
    pub asked : (q : Table) → Asked kind same m t q

  pub asks_at : (m : Limits) (t : Table) → Ordered 0 t → is_candidate n h t ≡ true → AsksAt m t
  asks_at m t o known = elim (test (has n (at (txid h) t).candidates)) [
    | inl e ↦ record { kind = Txid; same = true; asked = λ q l r. kept_txid m n now h i q (ap (λ (z : Request). has n z.candidates) l ∙ e) }
    | inr e ↦
        let f : has n (at (wtxid h) t).candidates ≡ true = sym (ap (λ (z : Bool). z || has n (at (wtxid h) t).candidates) e) ∙ either-kind n h s t o ∙ known in
        record { kind = Wtxid; same = false; asked = λ q l r. kept_wtxid m n now h i q (ap (λ (z : Request). has n z.candidates) l ∙ e) (ap (λ (z : Request). has n z.candidates) r ∙ f) }
  ]

  -- what is sound stays so
  pub still_sound : (st : State) (y : Kind) (same : Bool) {q : Table} → one_parent (limits_of st) n now h i q ≡ done (adopts_marks n now h i s y same q) → Sound (on_table q st)
      → Sound (on_table (adopts_marks n now h i s y same q) st)
  still_sound st y same e k = subst (λ (z : Table). Sound (on_table z st)) (ap (λ (a : Answer). a.table) e) (sound-table k (bounded_one n now h i p late short s k.bounded))

  module _ {b b' w : List ℕ} {d : ℕ} {st : State} {t : Table} (v : Beside n b w d st t) (apart : waits h v.entries ≡ false) (x : AsksAt (limits_of st) v.base)
      (made : Writes b' (on_table (one_parent (limits_of st) n now h i v.base).table st)) where
    abbrev es : List Entry
    es = v.entries

    abbrev all : Table
    all = pushes es v.base

    abbrev F : Table → Table
    F = adopts_marks n now h i s x.kind x.same

    asked_all : one_parent (limits_of st) n now h i all ≡ done (F all)
    asked_all = x.asked all (at_pushes (txid h) s es v.base v.aside.mixed.ready apart) (at_pushes (wtxid h) s es v.base v.aside.mixed.ready apart)

    asked : one_parent (limits_of st) n now h i t ≡ done (F t)
    asked = rw v.table (x.asked (marks (keys_of es) all) (at_beside (txid h) s es v.base v.aside.mixed.ready apart) (at_beside (wtxid h) s es v.base v.aside.mixed.ready apart))

    asked_base : one_parent (limits_of st) n now h i v.base ≡ done (F v.base)
    asked_base = x.asked v.base refl refl

    before : F all ≡ pushes es (F v.base)
    before = before-pushes n now h i s x.kind x.same es v.base v.aside.mixed.ready apart v.sound.bounded.ordered v.sound.bounded.filled

    still_beside : Beside n b' w d st (F t)
    still_beside = record {
      base = F v.base;
      entries = es;
      parental = v.parental;
      sound = still_sound st x.kind x.same asked_base v.sound;
      writes = subst (λ (a : Answer). Writes b' (on_table a.table st)) asked_base made;
      aside = still-aside n now h i s x.kind x.same v.aside apart;
      room = omega (arith, v.room, as_many n now h i s x.kind x.same any v.base);
      together = subst (λ (z : Table). Sound (on_table z st)) before (still_sound st x.kind x.same asked_all v.together);
      table = ap F v.table
          ∙ before-marks n now h i s x.kind x.same es all v.aside.mixed.ready apart v.together.bounded.ordered v.together.bounded.filled
          ∙ ap (marks (keys_of es)) before;
    }

    pub adopted_beside : NextAt n now h i b' w st t (record { kept = true; waiting = d })
    adopted_beside = record {
      reply = sym (ap (λ (a : Answer). a.reply) asked);
      beside = subst (Beside n b' w d st) (sym (ap (λ (a : Answer). a.table) asked)) still_beside;
    }

  -- announced on the store itself
  pub adopts_in : {b b' w : List ℕ} {d : ℕ} {r r' : Bool} → Adoptable b w d h n r → r ≡ true → Answered b b' r' (λ m t. one_parent m n now h i t) → (st : State) (t : Table) → Beside n b w d st t
      → NextAt n now h i b' w st t (record { kept = true; waiting = d })
  adopts_in a e made st t v =
      let k = a.known e (on_table v.base st) v.sound v.writes in
      adopted_beside v (a.apart e (on_table v.base st) v.sound v.writes v.entries v.aside.mixed) (asks_at (limits_of st) v.base v.sound.bounded.ordered k)
      (made.table (on_table v.base st) v.sound v.writes)

  -- ---- where victims are listed, of whom none is at the hash

  cuts_at : (k : Key) → k.hash ≡ h → (st : State) → Sound st → (vs ws : List Row) → Foremost (vs ++ ws) (rows_of st.table) → Each (Off h) vs → at k (cuts vs st.table) ≡ at k st.table
  unfolding cuts
  cuts_at k e st o [] ws f a = refl
  cuts_at k e st o (v ∷ vs) ws f a =
      let c = first_goes st o v (vs ++ ws) f in
      cuts_at k e (on_table (cut (key_at v) v.conn st.table) st) (cleared-sound st o v c) vs ws (next_first st o v (vs ++ ws) f) a.1
      ∙ at_other k (key_at v) _ st.table (λ r. refl)
      (λ q. eqb-false (key_at v).hash h a.0 (ap (λ (z : Key). z.hash) (sym (place-inj k (key_at v) (subst (λ (z : ℕ). z < top) (sym e) s) c.small q)) ∙ e))

  before_cuts : (y : Kind) (same : Bool) (st : State) → Sound st → (vs ws : List Row) → Foremost (vs ++ ws) (rows_of st.table) → Each (Off h) vs
      → adopts_marks n now h i s y same (cuts vs st.table) ≡ cuts vs (adopts_marks n now h i s y same st.table)
  unfolding cuts
  before_cuts y same st o [] ws f a = refl
  before_cuts y same st o (v ∷ vs) ws f a =
      let c = first_goes st o v (vs ++ ws) f in
      let k : Key = record { kind = y; hash = h } in
      let x : Request → Request = λ r. with_candidates (without v.conn r.candidates) r in
      let far : (z : Key) → z.hash ≡ h → z.hash < top → place z ≡ place (key_at v) → ⊥ =
      λ z e l q. eqb-false (key_at v).hash h a.0 (ap (λ (i : Key). i.hash) (sym (place-inj z (key_at v) l c.small q)) ∙ e) in
      before_cuts y same (on_table (cut (key_at v) v.conn st.table) st) (cleared-sound st o v c) vs ws (next_first st o v (vs ++ ws) f) a.1
      ∙ ap (cuts vs)
      (ap (mark (txid h)) (change-swap k (key_at v) (adopts same (parent_of n now h i)) x st.table s c.small (far k refl s) (λ r. refl) (λ r. refl) o.bounded.ordered o.bounded.filled)
      ∙ change-swap (txid h) (key_at v) marked x (change k (adopts same (parent_of n now h i)) st.table) s c.small (far (txid h) refl s) (λ r. refl) (λ r. refl)
      (still_ordered n now h i s y same st.table o.bounded.ordered) (filled-change k (adopts same (parent_of n now h i)) st.table o.bounded.filled))

  still_listed : (y : Kind) (same : Bool) (t : Table) {v : List ℕ} {m : ℕ} → Ordered 0 t → (x : VictimRows v m (rows_of t)) → Each (Off h) x.rows
      → Still v m x.rows (rows_of (adopts_marks n now h i s y same t))
  unfolding rows_for row_of
  still_listed y same t o x off =
      let k : Key = record { kind = y; hash = h } in
      let c = parent_of n now h i in
      let o' = still_ordered n now h i s y same t o in
      let u = change k (adopts same c) t in
      let a = still_first h x (turned_change h k (adopts same c) t o (turned_adopted h (at k t) (ap (λ (z : Key). z.hash) (at_key k 0 t s o)) same c (at k t).candidates)) off in
      let b = still_first h a.victims
      (turned_change h (txid h) marked u o' (turned_marked h (at (txid h) u) (ap (λ (z : Key). z.hash) (at_key (txid h) 0 u s o')) (at (txid h) u).candidates))
      (subst (Each (Off h)) (sym a.same) off) in
      record { victims = b.victims; same = b.same ∙ a.same }

  module _ {b b' w v : List ℕ} {d m : ℕ} {st : State} {t : Table} (x : Owes n b w v d m st t) (apart : waits h x.owing.entries ≡ false) (a : AsksAt (limits_of st) x.base)
      (off : Each (Off h) x.owing.listed.rows) (made : Writes b' (on_table (one_parent (limits_of st) n now h i x.base).table st)) where
    abbrev here : State
    here = on_table x.base st

    abbrev ls : List Entry
    ls = x.owing.entries

    abbrev gone : List Row
    gone = take d x.owing.listed.rows

    abbrev rest : List Row
    rest = drop d x.owing.listed.rows

    abbrev left : Table
    left = left_by x.owing

    abbrev G : Table → Table
    G = adopts_marks n now h i s a.kind a.same

    both : Foremost (gone ++ rest) (rows_of x.base)
    both = subst (λ (l : List Row). Foremost l (rows_of x.base)) (sym (take-append-drop d x.owing.listed.rows)) x.owing.listed.first

    off_gone : Each (Off h) gone
    off_gone = (each_front (Off h) gone rest (subst (Each (Off h)) (sym (take-append-drop d x.owing.listed.rows)) off)).0

    ready : Each Small ls
    ready = x.owing.aside.mixed.ready

    left_there : (k : Key) → k.hash ≡ h → at k left ≡ at k x.base
    left_there k e = cuts_at k e here x.owing.sound gone rest both off_gone

    asked_here : one_parent (limits_of st) n now h i x.base ≡ done (G x.base)
    asked_here = a.asked x.base refl refl

    asked_both : one_parent (limits_of st) n now h i (pushes ls left) ≡ done (G (pushes ls left))
    asked_both = a.asked (pushes ls left) (at_pushes (txid h) s ls left ready apart ∙ left_there (txid h) refl) (at_pushes (wtxid h) s ls left ready apart ∙ left_there (wtxid h) refl)

    asked_t : one_parent (limits_of st) n now h i t ≡ done (G t)
    asked_t =
        rw x.table
        (a.asked (marks (keys_of ls) (pushes ls left)) (at_beside (txid h) s ls left ready apart ∙ left_there (txid h) refl) (at_beside (wtxid h) s ls left ready apart ∙ left_there (wtxid h) refl))

    sound_here : Sound (on_table (G x.base) st)
    sound_here = still_sound st a.kind a.same asked_here x.owing.sound

    writes_here : Writes b' (on_table (G x.base) st)
    writes_here = subst (λ (z : Answer). Writes b' (on_table z.table st)) asked_here made

    still_rows : Still v m x.owing.listed.rows (rows_of (G x.base))
    still_rows = still_listed a.kind a.same x.base x.owing.sound.bounded.ordered x.owing.listed off

    before_both : G (pushes ls left) ≡ pushes ls (cuts (take d still_rows.victims.rows) (G x.base))
    before_both =
        let k = left_sound x.owing in
        before-pushes n now h i s a.kind a.same ls left ready apart k.bounded.ordered k.bounded.filled
        ∙ ap (pushes ls) (before_cuts a.kind a.same here x.owing.sound gone rest both off_gone ∙ ap (λ (z : List Row). cuts (take d z) (G x.base)) (sym still_rows.same))

    only : (st' : State) → Sound st' → Writes b' st' → on_table (G x.base) st ≡ st'
    unfolding image
    only st' k g = image_injective (on_table (G x.base) st) st' sound_here k (sym writes_here.words_are ∙ g.words_are)

    still_owes : Owes n b' w v d m st (G t)
    still_owes = record {
      base = G x.base;
      owing = record {
        sound = sound_here;
        writes = writes_here;
        whole = as_many n now h i s a.kind a.same any x.base ∙ x.owing.whole;
        listed = still_rows.victims;
        few = x.owing.few;
        entries = ls;
        aside = still-aside n now h i s a.kind a.same x.owing.aside apart;
        preferred = x.owing.preferred;
        apart = subst (λ (z : List Row). Each (λ (y : Row). (waits (key_at y).hash ls ≡ false) × (eqb y.conn n ≡ false)) (take d z)) (sym still_rows.same) x.owing.apart;
      };
      listed = record { listed = λ st' k g. subst (λ (z : State). VictimRows v m (rows_of z.table)) (only st' k g) still_rows.victims };
      parental = x.parental;
      together = subst (λ (z : Table). Sound (on_table z st)) before_both (still_sound st a.kind a.same asked_both x.together);
      table = ap G x.table ∙ before-marks n now h i s a.kind a.same ls (pushes ls left) ready apart x.together.bounded.ordered x.together.bounded.filled ∙ ap (marks (keys_of ls)) before_both;
    }

    pub adopts-owes : (true ≡ (one_parent (limits_of st) n now h i t).reply) × Owes n b' w v d m st (one_parent (limits_of st) n now h i t).table
    adopts-owes = (
      sym (ap (λ (z : Answer). z.reply) asked_t),
      subst (Owes n b' w v d m st) (sym (ap (λ (z : Answer). z.table) asked_t)) still_owes,
    )

  pub adopts_listed : {b b' w v : List ℕ} {d : ℕ} {q : Reserve} {r r' l : Bool} → (q.count ≡ 0 → ⊥) → Adoptable b w d h n r → r ≡ true → ListedAt b v q.count q.count h l → l ≡ false
      → Answered b b' r' (λ m t. one_parent m n now h i t) → AdoptsListed n now h i b b' w v d q true
  adopts_listed {v = v} {q = q} o k e f g made = record {
    adopts = λ _ st t y.
        let x = y.owed (some_listed q.count o) in
        let there = on_table x.base st in
        let rows = x.owing.listed in
        let all : take q.count rows.rows ≡ rows.rows = take_all q.count rows.rows (omega (arith, rows.count)) in
        let c = adopts-owes x (k.apart e there x.owing.sound x.owing.writes x.owing.entries x.owing.aside.mixed)
        (asks_at (limits_of st) x.base x.owing.sound.bounded.ordered (k.known e there x.owing.sound x.owing.writes))
        (subst (Each (Off h)) all (f g there x.owing.sound x.owing.writes rows)) (made.table there x.owing.sound x.owing.writes) in
        record { reply = c.0; supplied = supplied_listed (some_listed q.count o) c.1 (λ z. spent_next (limits_of st) n now h i t (y.none_left z)) };
    alone = λ z. never (sym z);
  }

-- what a call does with one that is adopted
pub next_adopted : {n now h i : ℕ} {b b' w w' : List ℕ} {d e : ℕ} {r : Bool} → w' ≡ w → e ≡ d → AdoptsBeside n now h i b b' w' e r → r ≡ true
    → NextIn n now h i b b' w w' d (record { kept = true; waiting = e })
next_adopted {n} {b = b} {w' = w'} {d = d} c k a z st t v =
    a.adopts z st t (subst (λ (y : ℕ). Beside n b w' y st t) (sym k) (subst (λ (y : List ℕ). Beside n b y d st t) (sym c) v))
