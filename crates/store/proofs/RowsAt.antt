-- A row put in, taken out or replaced at an index: the tally, and the machine's push and cut.
use Prim.Native.Nat.{ℕ, suc, ◌+◌, ◌<◌}
use mathlib.Core.Path.{◌≡◌, refl, sym, ap, ◌∙◌}
use mathlib.Core.Logic.{inl, inr}
use mathlib.Core.Bool.{Bool, true, false}
use mathlib.Core.List.{List, [], ◌∷◌, ◌++◌, map, append_assoc}
use mathlib.Core.Option.{Option, none, some}
use native.Mathlib.Omega.{arith}
use lib.Dec.{eqb}
use lib.ListN.{length, take, drop, get_or, set, take-append-drop, length-append}
use lib.Seq.{take_at, drop_at, drop-cons, set_split, drop-append-add}
use borrow.Author.Tests.{eqb-true}
use Rattle.ident.specs.Number.{Key}
use Rattle.regions.specs.declared.Row.{Row}
use Rattle.regions.specs.Regions.{insert_at, remove_at}
use Rattle.machine.specs.State.{Candidate, Package, Request, Table, with_candidates}
use Rattle.machine.specs.Table.{at, has}
use Rattle.machine.specs.Announce.{without, push, cut}
use Rattle.machine.specs.Sound.{Ordered}
use Rattle.machine.proofs.Tests.{test, never}
use Rattle.store.specs.Flat.{own_bit, row_of, rows_for, rows_of, place_for, places_for, places_of, bump, tally}
use Rattle.store.proofs.Split.{rows_below, rows_above, rows_at, places-at, rows-change, places-change}
use Rattle.store.proofs.Tally.{unbump, retally, tally-row, tally_less, tally-changed}
use Rattle.store.proofs.RowBack.{rows_like}

-- ---- lists

module _ {A : Type 0} where
  pub insert_seam : (a : List A) (x : A) (b : List A) → insert_at (length a) x (a ++ b) ≡ a ++ (x ∷ b)
  unfolding insert_at
  insert_seam a x b = rw (take_at a b (length a) refl, drop_at a b (length a) refl)

  pub remove_seam : (a : List A) (x : A) (b : List A) → remove_at (length a) (a ++ (x ∷ b)) ≡ a ++ b
  unfolding remove_at
  remove_seam a x b =
      let e : length a + 1 ≡ suc (length a) = omega arith in
      rw (take_at a (x ∷ b) (length a) refl, ← e, drop-append-add a (x ∷ b) 1)

  -- a list at one of its elements
  pub split_at : (l : List A) (i : ℕ) (d : A) → i < length l → l ≡ take i l ++ (get_or l i d ∷ drop (suc i) l)
  split_at l i d h = sym (take-append-drop i l) ∙ ap (λ (r : List A). take i l ++ r) (drop-cons l i d h)

-- ---- the tally

pub tally-insert : (rs : List Row) (i : ℕ) (r : Row) → tally (insert_at i r rs) ≡ bump r.conn (own_bit r) (tally rs)
unfolding insert_at
tally-insert rs i r = tally-row (take i rs) r (drop i rs) ∙ rw (take-append-drop i rs)

module _ (rs : List Row) (i : ℕ) (d : Row) (h : i < length rs) where
  pub tally_remove : tally (remove_at i rs) ≡ unbump (get_or rs i d).conn (own_bit (get_or rs i d)) (tally rs)
  unfolding remove_at
  tally_remove =
      tally_less (take i rs) (get_or rs i d) (drop (suc i) rs)
      ∙ ap (λ (l : List Row). unbump (get_or rs i d).conn (own_bit (get_or rs i d)) (tally l)) (sym (split_at rs i d h))

  pub tally-set : (q : Row) → (get_or rs i d).conn ≡ q.conn → tally (set rs i q) ≡ retally (get_or rs i d).conn (own_bit (get_or rs i d)) (own_bit q) (tally rs)
  tally-set q e =
      ap tally (set_split rs i q h)
      ∙ tally-changed (take i rs) (get_or rs i d) q (drop (suc i) rs) e
      ∙ ap (λ (l : List Row). retally (get_or rs i d).conn (own_bit (get_or rs i d)) (own_bit q) (tally l)) (sym (split_at rs i d h))

-- ---- one candidate more

pub rows_append : (r : Request) (cs ds : List Candidate) → map (row_of r) (cs ++ ds) ≡ map (row_of r) cs ++ map (row_of r) ds
rows_append r [] ds = refl
rows_append r (c ∷ cs) ds = rw (rows_append r cs ds)

snoc_some : {A X : Type 0} (cs : List A) (c : A) → cs ++ (c ∷ []) ≡ [] → X
snoc_some cs c e = absurd (omega (arith, length-append cs (c ∷ []), ap length e))

-- places depend on key, flag, package and parents
pub places_with : (r : Request) (cs : List Candidate) → places_for (with_candidates cs r) ≡ places_for r
unfolding places_for
places_with r cs = go r.info r.«package»
  where
    go : (i : Bool) (p : Option Package) → place_for (with_candidates cs r) i p ≡ place_for r i p
    go i (some p) = refl
    go true none = refl
    go false none = refl

module _ (k : Key) (lo : ℕ) (t : Table) (o : Ordered lo t) where
  module _ (c : Candidate) where
    pub push-rows : rows_of (push k c t) ≡ insert_at (length (rows_below k t ++ rows_for (at k t))) (row_of (at k t) c) (rows_of t)
    unfolding rows_for
    push-rows =
        let r : Request = at k t in
        let cs : List Candidate = r.candidates in
        let a : List Row = rows_below k t ++ rows_for r in
        let e : rows_of (push k c t) ≡ a ++ (row_of r c ∷ rows_above k t) =
        rows-change k lo t o (λ q. with_candidates (q.candidates ++ (c ∷ [])) q)
        ∙ rw (rows_like (with_candidates (cs ++ (c ∷ [])) r) r (cs ++ (c ∷ [])) refl refl refl, rows_append r cs (c ∷ [])) (simp append_assoc) in
        let f : rows_of t ≡ a ++ rows_above k t = rows_at k lo t o ∙ sym (append_assoc (rows_below k t) (rows_for r) (rows_above k t)) in
        e ∙ sym (insert_seam a (row_of r c) (rows_above k t)) ∙ ap (insert_at (length a) (row_of r c)) (sym f)

    pub push_places : places_of (push k c t) ≡ places_of t
    push_places =
        places-change k lo t o (λ q. with_candidates (q.candidates ++ (c ∷ [])) q) (λ e. snoc_some (at k t).candidates c e)
        ∙ rw (places_with (at k t) ((at k t).candidates ++ (c ∷ []))) (sym (places-at k lo t o))

-- ---- one candidate less

-- the candidates before that of a connection, that one, and those after
pub record Among (n : ℕ) (cs : List Candidate) : Type 0 where
  pub front : List Candidate
  pub one : Candidate
  pub back : List Candidate
  pub all : cs ≡ front ++ (one ∷ back)
  pub rest : without n cs ≡ front ++ back
  pub is : one.connection ≡ n
  pub none : has n front ≡ false

pub among : (n : ℕ) (cs : List Candidate) → has n cs ≡ true → Among n cs
unfolding has without
among n [] h = never h
among n (c ∷ cs) h =
    elim (test (eqb c.connection n)) [
      | inl e ↦ record { front = []; one = c; back = cs; all = refl; rest = rw e; is = eqb-true c.connection n e; none = refl }
      | inr e ↦ let f = among n cs (rw e at h) in
          record { front = c ∷ f.front; one = f.one; back = f.back; all = rw (← f.all); rest = rw (e, f.rest); is = f.is; none = rw e f.none }
    ]

module _ (k : Key) (n lo : ℕ) (t : Table) (o : Ordered lo t) (f : Among n (at k t).candidates) where
  abbrev r : Request
  r = at k t

  -- the rows before the one of n, and those after it
  abbrev pub ahead : List Row
  ahead = rows_below k t ++ map (row_of (at k t)) f.front

  abbrev pub behind : List Row
  behind = map (row_of (at k t)) f.back ++ rows_above k t

  pub rows-among : rows_of t ≡ ahead ++ (row_of (at k t) f.one ∷ behind)
  unfolding rows_for
  rows-among =
      rows_at k lo t o
      ∙ ap (λ (cs : List Candidate). rows_below k t ++ (map (row_of r) cs ++ rows_above k t)) f.all
      ∙ rw (rows_append r f.front (f.one ∷ f.back)) (simp append_assoc)

  pub cut-rows : rows_of (cut k n t) ≡ remove_at (length ahead) (rows_of t)
  unfolding rows_for
  cut-rows =
      rows-change k lo t o (λ q. with_candidates (without n q.candidates) q)
      ∙ ap (λ (l : List Row). rows_below k t ++ (l ++ rows_above k t)) (rows_like (with_candidates (without n r.candidates) r) r (without n r.candidates) refl refl refl ∙
      ap (map (row_of r)) f.rest ∙ rows_append r f.front f.back)
      ∙ (simp append_assoc)
      ∙ sym (remove_seam ahead (row_of r f.one) behind)
      ∙ ap (remove_at (length ahead)) (sym rows-among)

  -- "a request that loses its last candidate goes", and with it its place
  pub cut-places : (without n (at k t).candidates ≡ [] → places_for (at k t) ≡ []) → places_of (cut k n t) ≡ places_of t
  cut-places h =
      places-change k lo t o (λ q. with_candidates (without n q.candidates) q) (λ e. places_with r (without n r.candidates) ∙ h e)
      ∙ rw (places_with r (without n r.candidates)) (sym (places-at k lo t o))
