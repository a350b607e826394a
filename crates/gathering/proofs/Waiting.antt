-- Announcing behind those that wait, where nothing has to give way: each test can be made on the table as it was, beside them.
use Prim.Native.Nat.{ℕ, ◌+◌, ◌≤◌, ◌<◌}
use mathlib.Core.Path.{◌≡◌, refl, sym, ap, ◌∙◌}
use mathlib.Core.Logic.{inl, inr}
use mathlib.Core.Bool.{Bool, true, false, ◌||◌, false≢true as false-true, or-false as or_none}
use mathlib.Core.List.{List, [], ◌∷◌, ◌++◌}
use native.Mathlib.Omega.{arith}
use lib.Dec.{ltb, leb, eqb}
use lib.ListN.{length, take, drop, take-append-drop}
use borrow.Author.Tests.{lt-ltb, lt-leb, leb-false, eq-eqb}
use Rattle.ident.specs.Number.{Key, top}
use Rattle.regions.specs.declared.Row.{Row}
use Rattle.regions.specs.Regions.{insert_at}
use Rattle.machine.specs.Limits.{Limits, max_peer_announcements}
use Rattle.machine.specs.State.{Candidate, Entry, Table, Answer, refused, done}
use Rattle.machine.specs.Table.{at, one, any, by, under, by_under, count, held, held_by, held_at, is_candidate}
use Rattle.machine.specs.Announce.{victims, greatest, anywhere, at_hash, evicting, push, announce_at}
use Rattle.machine.specs.Sound.{Ordered}
use Rattle.machine.specs.Typed.{Each}
use Rattle.machine.proofs.Tests.{test, or_left, or_right, or_true}
use Rattle.machine.proofs.Table.{ordered-change, at_key}
use Rattle.store.specs.Flat.{row_of, rows_of, rows_for}
use Rattle.store.specs.Gather.{key_at}
use Rattle.store.specs.FlatSound.{count_rows}
use Rattle.store.proofs.Bits.{key_row, conn-row}
use Rattle.store.proofs.Counts.{rows_append, count-rows}
use Rattle.store.proofs.RowsAt.{push-rows}
use Rattle.store.proofs.Split.{rows_below}
use Rattle.announcing.proofs.Deciding.{when-barred, when-crowded, when-crowded_out, when-full, when-full_out, when-room}
use Rattle.gathering.specs.Waits.{pushes, Small, Of, waits, Admits, barred_beside, full_beside}

-- ---- counts, exactly

rows-insert : (p : Row → Bool) (i : ℕ) (r : Row) (rs : List Row) → count_rows p (insert_at i r rs) ≡ count_rows p rs + one (p r)
unfolding insert_at count_rows
rows-insert p i r rs =
    omega (arith, rows_append p (take i rs) (r ∷ drop i rs), rows_append p (take i rs) (drop i rs), ap (count_rows p) (take-append-drop i rs))

one_more_lem : (q : Key → ℕ → Bool) (k : Key) (c : Candidate) (t : Table) → k.hash < top → Ordered 0 t → count q (push k c t) ≡ count q t + one (q k c.connection)
one_more_lem q k c t s o =
    let p : Row → Bool = λ r. q (key_at r) r.conn in
    let r : Row = row_of (at k t) c in
    let i : ℕ = length (rows_below k t ++ rows_for (at k t)) in
    let e : p r ≡ q k c.connection = rw (key_row (at k t) c, conn-row (at k t) c, at_key k 0 t s o) in
    sym (count-rows q (push k c t)) ∙ ap (count_rows p) (push-rows k 0 t o c) ∙ rows-insert p i r (rows_of t) ∙ rw (count-rows q t, e)

pub among : (Key → ℕ → Bool) → List Entry → ℕ
among q [] = 0
among q (a ∷ l) = one (q a.key a.candidate.connection) + among q l

pub ordered-pushes : (es : List Entry) (t : Table) → Each Small es → Ordered 0 t → Ordered 0 (pushes es t)
unfolding pushes
ordered-pushes [] t a o = o
ordered-pushes (e ∷ es) t a o = ordered-pushes es (push e.key e.candidate t) a.1 (ordered-change e.key _ 0 t (λ r. refl) (omega arith) a.0.small o)

pub count-pushes : (q : Key → ℕ → Bool) (es : List Entry) (t : Table) → Each Small es → Ordered 0 t → count q (pushes es t) ≡ count q t + among q es
unfolding pushes among
count-pushes q [] t a o = omega arith
count-pushes q (e ∷ es) t a o =
    let o' : Ordered 0 (push e.key e.candidate t) = ordered-change e.key _ 0 t (λ r. refl) (omega arith) a.0.small o in
    omega (arith, count-pushes q es (push e.key e.candidate t) a.1 o', one_more_lem q e.key e.candidate t a.0.small o)

-- ---- what those that wait add to each count

among_any : (es : List Entry) → among any es ≡ length es
unfolding among
among_any [] = refl
among_any (e ∷ es) = omega (arith, among_any es)

among_most : (q : Key → ℕ → Bool) (es : List Entry) → among q es ≤ length es
unfolding among
among_most q [] = omega arith
among_most q (e ∷ es) = elim (test (q e.key e.candidate.connection)) [ inl d ↦ rw d (omega (arith, among_most q es)) | inr d ↦ rw d (omega (arith, among_most q es)) ]

among_by : (n : ℕ) (es : List Entry) → Each (Of n) es → among (by n) es ≡ length es
unfolding among
among_by n [] a = refl
among_by n (e ∷ es) a = rw (eq-eqb e.candidate.connection n a.0.mine) (omega (arith, among_by n es a.1))

among_under : (h : ℕ) (es : List Entry) → waits h es ≡ false → among (under h) es ≡ 0
unfolding among waits
among_under h [] w = refl
among_under h (e ∷ es) w = rw (or_left (eqb e.key.hash h) (waits h es) w) (omega (arith, among_under h es (or_right (eqb e.key.hash h) (waits h es) w)))

among_none : (n h : ℕ) (es : List Entry) → waits h es ≡ false → among (by_under n h) es ≡ 0
unfolding among waits
among_none n h [] w = refl
among_none n h (e ∷ es) w = rw (or_left (eqb e.key.hash h) (waits h es) w) (omega (arith, among_none n h es (or_right (eqb e.key.hash h) (waits h es) w)))

among_some : (n h : ℕ) (es : List Entry) → Each (Of n) es → waits h es ≡ true → 1 ≤ among (by_under n h) es
unfolding among waits
among_some n h [] a w = let z : ◌≡◌ {A = Bool} false true = w in absurd (false-true z)
among_some n h (e ∷ es) a w =
    elim (test (eqb e.key.hash h)) [
      | inl d ↦ rw (d, eq-eqb e.candidate.connection n a.0.mine) (omega arith)
      | inr d ↦ rw d (omega (arith, among_some n h es a.1 (rw d at w)))
    ]

-- ---- the counts, by the table as it was

module _ (es : List Entry) (t : Table) (a : Each Small es) (o : Ordered 0 t) where
  pub held_beside : held (pushes es t) ≡ held t + length es
  held_beside = omega (arith, count-pushes any es t a o, among_any es)

  pub by_most : (n : ℕ) → held_by n (pushes es t) ≤ held_by n t + length es
  by_most n = omega (arith, count-pushes (by n) es t a o, among_most (by n) es)

  module _ (h : ℕ) (w : waits h es ≡ false) where
    pub at_beside : held_at h (pushes es t) ≡ held_at h t
    at_beside = omega (arith, count-pushes (under h) es t a o, among_under h es w)

    pub candidate_beside : (n : ℕ) → is_candidate n h (pushes es t) ≡ is_candidate n h t
    candidate_beside n =
        let e : count (by_under n h) (pushes es t) ≡ count (by_under n h) t = omega (arith, count-pushes (by_under n h) es t a o, among_none n h es w) in
        ap (ltb 0) e

-- ---- one announcement, whoever waits

pub pushes_more : (es : List Entry) (a : Entry) (t : Table) → pushes (es ++ (a ∷ [])) t ≡ push a.key a.candidate (pushes es t)
unfolding pushes
pushes_more [] a t = refl
pushes_more (e ∷ es) a t = pushes_more es a (push e.key e.candidate t)

module _ {m : Limits} {t : Table} {es : List Entry} {k : Key} {c : Candidate} (x : Admits m t es k c) (a : Each Small es) (o : Ordered 0 t) where
  -- on a table with as many candidates of each kind
  module _ (u : Table) (same : (q : Key → ℕ → Bool) → count q u ≡ count q (pushes es t)) where
    pub admits_new : is_candidate c.connection k.hash u ≡ false
    admits_new = ap (ltb 0) (same (by_under c.connection k.hash)) ∙ candidate_beside es t a o k.hash x.apart c.connection ∙ x.new

    pub admits_done : announce_at m k c u ≡ done (push k c u)
    admits_done =
        let few : leb max_peer_announcements (held_by c.connection u) ≡ false = lt-leb max_peer_announcements (held_by c.connection u)
        (omega (arith, same (by c.connection), by_most es t a o c.connection, x.few)) in
        when-room m k c u (rw (admits_new, few))
        (lt-leb m.alternates (held_at k.hash u) (omega (arith, same (under k.hash), at_beside es t a o k.hash x.apart, x.spare)))
        (lt-leb m.announcements (held u) (omega (arith, same any, held_beside es t a o, x.room)))

  pub admitted : announce_at m k c (pushes es t) ≡ done (pushes (es ++ (record { key = k; candidate = c } ∷ [])) t)
  admitted = admits_done (pushes es t) (λ q. refl) ∙ ap done (sym (pushes_more es (record { key = k; candidate = c }) t))

-- ---- the tests where all are of one connection

module _ (n : ℕ) (es : List Entry) (t : Table) (a : Each Small es) (i : Each (Of n) es) (o : Ordered 0 t) where
  pub candidate-beside : (h : ℕ) → is_candidate n h (pushes es t) ≡ (is_candidate n h t || waits h es)
  candidate-beside h =
      elim (test (waits h es)) [
        | inl w ↦ lt-ltb 0 (count (by_under n h) (pushes es t)) (omega (arith, count-pushes (by_under n h) es t a o, among_some n h es i w)) ∙ sym (or_true (is_candidate n h t) (waits h es) w)
        | inr w ↦ candidate_beside es t a o h w n ∙ sym (ap (λ (b : Bool). is_candidate n h t || b) w ∙ or_none (is_candidate n h t))
      ]

  by_beside : held_by n (pushes es t) ≡ held_by n t + length es
  by_beside = omega (arith, count-pushes (by n) es t a o, among_by n es i)

  pub barred-beside : (k : Key) → (is_candidate n k.hash (pushes es t) || leb max_peer_announcements (held_by n (pushes es t))) ≡ barred_beside es k n t
  barred-beside k = rw (candidate-beside k.hash, by_beside)

-- ---- one announcement of that connection

module _ (es : List Entry) (k : Key) (n : ℕ) (t : Table) (b : barred_beside es k n t ≡ false) where
  abbrev Known : Bool
  Known = is_candidate n k.hash t || waits k.hash es

  abbrev Many : Bool
  Many = leb max_peer_announcements (held_by n t + length es)

  pub barred_apart : waits k.hash es ≡ false
  barred_apart = or_right (is_candidate n k.hash t) (waits k.hash es) (or_left Known Many b)

  pub barred_new : is_candidate n k.hash t ≡ false
  barred_new = or_left (is_candidate n k.hash t) (waits k.hash es) (or_left Known Many b)

  barred_few : held_by n t + length es < max_peer_announcements
  barred_few = leb-false max_peer_announcements (held_by n t + length es) (or_right Known Many b)

pub admits : (m : Limits) (t : Table) (es : List Entry) (k : Key) (c : Candidate) → barred_beside es k c.connection t ≡ false → full_beside m es k t ≡ false → Admits m t es k c
admits m t es k c b f = record {
  new = barred_new es k c.connection t b;
  apart = barred_apart es k c.connection t b;
  few = barred_few es k c.connection t b;
  spare = leb-false m.alternates (held_at k.hash t) (or_left (leb m.alternates (held_at k.hash t)) (leb m.announcements (held t + length es)) f);
  room = leb-false m.announcements (held t + length es) (or_right (leb m.alternates (held_at k.hash t)) (leb m.announcements (held t + length es)) f);
}

module _ (m : Limits) (c : Candidate) (es : List Entry) (t : Table) (a : Each Small es) (i : Each (Of c.connection) es) (o : Ordered 0 t) (k : Key) where
  abbrev Taken : List Entry → Type 0
  Taken l = (announce_at m k c (pushes es t)).table ≡ pushes l t

  abbrev Barred : Bool
  Barred = barred_beside es k c.connection t

  abbrev Crowded : Bool
  Crowded = leb m.alternates (held_at k.hash t)

  abbrev Full : Bool
  Full = leb m.announcements (held t + length es)

  pub barred_out : Barred ≡ true → announce_at m k c (pushes es t) ≡ refused (pushes es t)
  barred_out b = when-barred m k c (pushes es t) (barred-beside c.connection es t a i o k ∙ b)

  pub taken-barred : Barred ≡ true → Taken es
  taken-barred b = ap (λ (x : Answer). x.table) (barred_out b)

  module _ (b : Barred ≡ false) where
    free : (is_candidate c.connection k.hash (pushes es t) || leb max_peer_announcements (held_by c.connection (pushes es t))) ≡ false
    free = barred-beside c.connection es t a i o k ∙ b

    crowded_is : leb m.alternates (held_at k.hash (pushes es t)) ≡ Crowded
    crowded_is = ap (leb m.alternates) (at_beside es t a o k.hash (barred_apart es k c.connection t b))

    full_is : leb m.announcements (held (pushes es t)) ≡ Full
    full_is = ap (leb m.announcements) (held_beside es t a o)

    pub taken_out : full_beside m es k t ≡ true → c.preferred ≡ false → Taken es
    taken_out f p =
        elim (test Crowded) [
          | inl d ↦ ap (λ (x : Answer). x.table) (when-crowded_out m k c (pushes es t) free (crowded_is ∙ d) p)
          | inr d ↦ ap (λ (x : Answer). x.table) (when-full_out m k c (pushes es t) free (crowded_is ∙ d) (full_is ∙ sym (ap (λ (z : Bool). z || Full) d) ∙ f) p)
        ]

    -- one at its hash has to give way, or one anywhere
    pub taken-crowded : Crowded ≡ true → c.preferred ≡ true → announce_at m k c (pushes es t) ≡ evicting (greatest (victims (at_hash k.hash) (pushes es t))) k c (pushes es t)
    taken-crowded d p = when-crowded m k c (pushes es t) free (crowded_is ∙ d) p

    pub taken-evicting : Crowded ≡ false → Full ≡ true → c.preferred ≡ true → announce_at m k c (pushes es t) ≡ evicting (greatest (victims anywhere (pushes es t))) k c (pushes es t)
    taken-evicting d f p = when-full m k c (pushes es t) free (crowded_is ∙ d) (full_is ∙ f) p
