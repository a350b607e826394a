-- Parents that wait beside the store: one more waits, they come in, one is announced where none waits.
use Prim.Native.Nat.{ℕ, suc, ◌+◌, ◌<◌}
use mathlib.Core.Path.{◌≡◌, refl, sym, ap, subst, ◌∙◌}
use mathlib.Core.Bool.{Bool, true, false}
use mathlib.Core.List.{List, [], ◌∷◌, ◌++◌}
use mathlib.Core.Option.{some}
use native.Mathlib.Omega.{arith}
use lib.ListN.{length, drop, get_or, drop_of_length-le}
use lib.Seq.{drop-cons}
use denote.Laws.{Is}
use denote.Struct.Laws as LL
use Rattle.ident.specs.Words.{hash_num}
use Rattle.ident.specs.Number.{top, Key, txid, key_of}
use Rattle.regions.specs.declared.Row.{Row}
use Rattle.regions.specs.Regions.{Holds, Found}
use Rattle.regions.specs.Rows.{row_size, row_words, read_row}
use Rattle.machine.specs.Limits.{Limits, word}
use Rattle.machine.specs.State.{Candidate, Entry, Table, State, Answer, limits_of, on_table}
use Rattle.machine.specs.Table.{one}
use Rattle.machine.specs.Announce.{request_parent_at}
use Rattle.machine.specs.Fail.{parent_of, mark}
use Rattle.machine.specs.Sound.{Sound, Bounded}
use Rattle.machine.specs.Typed.{Each}
use Rattle.machine.proofs.Fail.{Peer, bounded-parent_at, bounded-mark}
use Rattle.machine.proofs.Kept.{sound-table}
use Rattle.machine.proofs.Tests.{by_test, never}
use Rattle.store.specs.Gather.{key_at}
use Rattle.store.specs.Image.{Writes}
use Rattle.store.specs.Shown.{Kept}
use Rattle.requests.specs.Changes.{Makes}
use Rattle.announcing.specs.Answers.{Answered, one_parent}
use Rattle.gathering.specs.declared.beside.Fare.{Fare}
use Rattle.gathering.specs.declared.beside.Fare.TheVariants.{Nothing, Waits as Waiting, Alone}
use Rattle.gathering.specs.contracts.beside.FarePartialEq.TheImpl.{eq-value}
use Rattle.gathering.specs.Counted.{then_wait}
use Rattle.gathering.specs.Merges.{gathered}
use Rattle.gathering.specs.Waits.{pushes}
use Rattle.gathering.specs.Aside.{space, Empty, Aside, Joined, Enters, SetAside, ComeIn}
use Rattle.gathering.proofs.ComingIn.{length-gathered}
use Rattle.gathering.proofs.OneMore.{each_more}
use Rattle.gathering.proofs.Faring.{set-same}
use Rattle.announcing.proofs.Lent.{hash_low}
use Rattle.parenting.specs.declared.parent.Parent.{Parent}
use Rattle.parenting.specs.contracts.parent.Parent as P
use Rattle.parenting.proofs.parent.Parent.TheLaws as P'
use Rattle.parenting.specs.Waiting.{marks, keys_of, row_keys, TxKey, Markable, RowsMarked, Parental, Beside, Waits, LetIn, NextAt, WaitsWith, NextIn}
use Rattle.parenting.proofs.Admitted.{admitted_more, admitted_sound}
use Rattle.parenting.proofs.Starting.{beside_none, none_sound, none_writes, none_empty}
use Rattle.parenting.proofs.Marking.{sound-marks, entries-keys, keys-gathered, marks-gathered}

-- ---- a parent that is given

pub parent_low : (p : Parent) → Is P.the_row p (LL.vals P.the_type P'.the_laws p) → hash_num p.hash < top
parent_low p g = hash_low p.hash (LL.owed P.the_type P'.the_laws p _ g).0

-- ---- how many wait

pub counted_if : (d : ℕ) (r : Fare) {x : Bool} {e : ℕ} → x ≡ eq-value.it r Waiting → e ≡ then_wait d r → e ≡ d + one x
counted_if d Nothing q g = rw q (omega (arith, g))
counted_if d Waiting q g = rw q g
counted_if d Alone q g = rw q (omega (arith, g))

pub none_more : (d : ℕ) {e : ℕ} {x : Bool} → e ≡ d + one x → x ≡ false → e ≡ d
none_more d {e} g q = let i : e ≡ d + 0 = rw q at g in omega (arith, i)

-- ---- they come in

module _ {n : ℕ} {b w : List ℕ} {d : ℕ} {st : State} {t : Table} (v : Beside n b w d st t) where
  pub beside_kept : Kept b
  beside_kept = record { state = on_table v.base st; sound = v.sound; writes = v.writes }

  abbrev all : Table
  all = pushes v.entries v.base

  abbrev theirs : List Row
  theirs = gathered v.base v.entries []

  keys : Each TxKey (keys_of v.entries)
  keys = entries-keys v.entries v.aside.mixed.ready v.parental

  keys_in : Each TxKey (row_keys theirs)
  keys_in = keys-gathered v.base v.sound.bounded.ordered v.entries [] v.aside.mixed.ready v.parental tt

  so-many : length theirs ≡ d
  so-many = omega (arith, length-gathered v.base v.entries [], v.aside.mixed.count)

  module _ {b₁ : List ℕ} (c : ComeIn b b₁ n w d) where
    came : Writes b₁ (on_table all st)
    came = c (on_table v.base st) v.sound v.writes v.entries v.aside

    pub came_markable : Markable b₁ w d
    came_markable = record { state = on_table all st; sound = v.together; writes = came; space = space; rows = theirs; count = so-many; holds = v.aside.mixed.rows; keys = keys_in }

    pub came_in : {b₂ w₂ : List ℕ} → RowsMarked b₁ b₂ w d → Empty w₂ → Beside n b₂ w₂ 0 st t
    unfolding marks
    came_in {b₂} {w₂} m e =
        let q = marks-gathered v.base v.sound.bounded.ordered st all v.together v.entries [] v.aside.mixed.ready v.parental tt in
        let g = m space theirs so-many v.aside.mixed.rows keys_in (on_table all st) v.together came in
        subst (Beside n b₂ w₂ 0 st) (sym v.table)
        (beside_none (sound-marks st (keys_of v.entries) all keys v.together) (subst (λ (u : Table). Writes b₂ (on_table u st)) q g) e)

module _ {n : ℕ} {b w : List ℕ} {d : ℕ} where
  pub let-in : {b₁ b₂ w₂ : List ℕ} → ComeIn b b₁ n w d → RowsMarked b₁ b₂ w d → Empty w₂ → LetIn n b b₂ w w₂ d
  let-in c m e st t v = came_in v c m e

  -- where they have come in
  pub let_kept : {b₁ w₁ : List ℕ} → LetIn n b b₁ w w₁ d → Waits n b w d → Kept b₁
  let_kept x k = beside_kept (x k.state k.with_them k.beside)

pub waits_same : {b w w₁ : List ℕ} {n d : ℕ} → w₁ ≡ w → Waits n b w d → Waits n b w₁ d
waits_same {b} {w} {w₁} {n} {d} e k = subst (λ (y : List ℕ). Waits n b y d) (sym e) k

-- ---- one more waits

module _ {n now h i : ℕ} {b w : List ℕ} {d : ℕ} {st : State} {t : Table} (v : Beside n b w d st t) (p : Peer n) (late : now < word) (short : i < word) (low : h < top) {w' : List ℕ}
    (a : SetAside b w w' d (some (txid h)) (parent_of n now h i) Waiting) where
  abbrev m : Limits
  m = limits_of st

  abbrev c : Candidate
  c = parent_of n now h i

  abbrev es : List Entry
  es = v.entries

  abbrev new : Entry
  new = record { key = txid h; candidate = c }

  joined : Joined m v.base es w' (d + 1) (some (txid h)) c
  joined = (a.waits refl).joined (on_table v.base st) v.sound v.writes es v.aside

  enters : Enters m v.base es (txid h) c joined.entries
  enters = joined.enters (omega (arith, v.aside.mixed.count)) (txid h) refl

  -- the table with it
  abbrev with_them : Table
  with_them = marks (keys_of (es ++ (new ∷ []))) (pushes (es ++ (new ∷ [])) v.base)

  with_it : Beside n b w' (d + 1) st with_them
  with_it = record {
    base = v.base;
    entries = es ++ (new ∷ []);
    parental = each_more Parental es new v.parental (record { kind = refl; preferred = refl });
    sound = v.sound;
    writes = v.writes;
    aside = subst (λ (l : List Entry). Aside n v.base l w' (d + 1)) enters.last joined.aside;
    room = joined.room (omega (arith, v.room, v.aside.mixed.count));
    together = admitted_sound st v.base es n now h i enters.admits low v.aside.mixed.ready v.parental v.sound.bounded.ordered v.together p late short;
    table = refl;
  }

  pub waits-too : NextAt n now h i b w' st t (record { kept = true; waiting = d + 1 })
  waits-too =
      let e : one_parent m n now h i t ≡ record { reply = true; table = with_them } =
      ap (one_parent m n now h i) v.table ∙ admitted_more st v.base es n now h i enters.admits low v.aside.mixed.ready v.parental v.sound.bounded.ordered v.together in
      record {
        reply = sym (ap (λ (x : Answer). x.reply) e);
        beside = subst (Beside n b w' (d + 1) st) (sym (ap (λ (x : Answer). x.table) e)) with_it;
      }

-- ---- one announced where none waits

pub bounded_one : {m : Limits} {Q : ℕ} {t : Table} (n now h i : ℕ) → Peer n → now < word → i < word → h < top → Bounded m Q t → Bounded m Q (one_parent m n now h i t).table
bounded_one {m} {Q} {t} n now h i p w v s b =
    let x = request_parent_at m (txid h) (parent_of n now h i) t in
    let b' = bounded-parent_at (txid h) (parent_of n now h i) s (record { item = refl; positive = p.positive; connection = p.small; ready = w; priority = v }) b in
    by_test (Bounded m Q) x.reply (λ e. bounded-mark h s b') (λ e. b')

pub alone_by : {n now h i : ℕ} {b b' w : List ℕ} {st : State} {t : Table} {r : Bool} → Beside n b w 0 st t → Peer n → now < word → i < word → h < top
    → r ≡ (one_parent (limits_of st) n now h i t).reply → Writes b' (on_table (one_parent (limits_of st) n now h i t).table st) → NextAt n now h i b' w st t (record { kept = r; waiting = 0 })
alone_by {n} {now} {h} {i} v p late short low said made =
    let s = none_sound v in
    record { reply = said; beside = beside_none (sound-table s (bounded_one n now h i p late short low s.bounded)) made (none_empty v) }

-- ---- what a call does with the next one

module _ {n now h i : ℕ} (p : Peer n) (late : now < word) (short : i < word) (low : h < top) where
  waits_with : {b w w' : List ℕ} {d : ℕ} {k : Candidate} {r : Fare} → k ≡ parent_of n now h i → SetAside b w w' d (key_of k.item) k r → r ≡ Waiting → WaitsWith n now h i b w w' d true
  waits_with {b} {w} {w'} {d} {k} {r} q a e = record {
    joins = λ _ st t v.
        let g : SetAside b w w' d (some (txid h)) (parent_of n now h i) r = subst (λ (x : Candidate). SetAside b w w' d (key_of x.item) x r) q a in
        waits-too v p late short low (subst (SetAside b w w' d (some (txid h)) (parent_of n now h i)) e g);
    alone = λ e. never (sym e);
  }

  -- the test by which it is told
  pub waits_if : {b w w' : List ℕ} {d : ℕ} {k : Candidate} (r : Fare) {x : Bool} → x ≡ eq-value.it r Waiting → k ≡ parent_of n now h i → SetAside b w w' d (key_of k.item) k r
      → WaitsWith n now h i b w w' d x
  waits_if Nothing e q a = rw e (record { joins = λ y. never y; alone = λ _. set-same Nothing a (λ y. cc) })
  waits_if Waiting e q a = rw e (waits_with q a refl)
  waits_if Alone e q a = rw e (record { joins = λ y. never y; alone = λ _. set-same Alone a (λ y. cc) })

  pub next_alone : {b b₁ b₂ w w₁ w₂ : List ℕ} {d : ℕ} {r : Bool} → w₁ ≡ w → LetIn n b b₁ w₁ w₂ d → Answered b₁ b₂ r (λ m t. one_parent m n now h i t)
      → NextIn n now h i b b₂ w w₂ d (record { kept = r; waiting = 0 })
  next_alone {b} {b₁} {d = d} e x a st t v =
      let y = x st t (subst (λ (z : List ℕ). Beside n b z d st t) (sym e) v) in
      alone_by y p late short low (a.reply (on_table t st) (none_sound y) (none_writes y)) (a.table (on_table t st) (none_sound y) (none_writes y))

-- ---- requests marked, one after the other

pub record Marking (b : List ℕ) (rows : List Row) (i : ℕ) (st : State) : Type 0 where
  pub now-table : Table
  pub sound : Sound (on_table now-table st)
  pub writes : Writes b (on_table now-table st)
  pub keys : Each TxKey (row_keys (drop i rows))
  pub rest : marks (row_keys (drop i rows)) now-table ≡ marks (row_keys rows) st.table

abbrev pub MarkedSoFar : List ℕ → List ℕ → List ℕ → ℕ → ℕ → Type 0
MarkedSoFar b₀ b w d i =
    (L : ℕ) (rows : List Row) → length rows ≡ d → Holds row_size row_words L rows w → Each TxKey (row_keys rows) → (st : State) → Sound st → Writes b₀ st → Marking b rows i st

pub marking-starts : (b w : List ℕ) (d : ℕ) → MarkedSoFar b b w d 0
marking-starts b w d L rows l h k st s g = record { now-table = st.table; sound = s; writes = g; keys = k; rest = refl }

module _ {b₀ b w : List ℕ} {d i : ℕ} (x : MarkedSoFar b₀ b w d i) where
  pub marking_kept : Markable b₀ w d → Kept b
  marking_kept k =
      let g = x k.space k.rows k.count k.holds k.keys k.state k.sound k.writes in
      record { state = on_table g.now-table k.state; sound = g.sound; writes = g.writes }

  pub marking_goes : {b' : List ℕ} {y : Row} {k : Key} → i < d → Found row_size row_words w read_row i y → k ≡ key_at y → Makes b b' (λ (t : Table). Unit {0}) (mark k)
      → MarkedSoFar b₀ b' w d (i + 1)
  unfolding marks
  marking_goes {b'} {y} {k} l f q m L rows len h ks st s g =
      let a = x L rows len h ks st s g in
      let u = a.now-table in
      let here : y ≡ get_or rows i y = f.region L rows y (omega arith) h in
      let n : suc i ≡ i + 1 = omega arith in
      let next : drop i rows ≡ y ∷ drop (i + 1) rows = drop-cons rows i y (omega arith) ∙ ap (λ (r : Row). r ∷ drop (suc i) rows) (sym here) ∙ ap (λ (e : ℕ). y ∷ drop e rows) n in
      let c : Each TxKey (row_keys (y ∷ drop (i + 1) rows)) = subst (λ (r : List Row). Each TxKey (row_keys r)) next a.keys in
      record {
        now-table = mark (key_at y) u;
        sound = sound-marks st (key_at y ∷ []) u (c.0, tt) a.sound;
        writes = subst (λ (e : Key). Writes b' (on_table (mark e u) st)) q (m (on_table u st) a.sound a.writes tt);
        keys = c.1;
        rest = ap (λ (r : List Row). marks (row_keys r) u) (sym next) ∙ a.rest;
      }

  pub marking-ends : i ≡ d → RowsMarked b₀ b w d
  unfolding marks
  marking-ends e L rows len h ks st s g =
      let a = x L rows len h ks st s g in
      let none : drop i rows ≡ [] = drop_of_length-le rows {i = i} (omega arith) in
      subst (λ (t : Table). Writes b (on_table t st)) (sym (ap (λ (r : List Row). marks (row_keys r) a.now-table) none) ∙ a.rest) a.writes
