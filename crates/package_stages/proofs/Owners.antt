-- The owner of a request, read from its rows.
use Prim.Native.Nat.{ℕ, zero, suc, ◌+◌, ◌-◌, ◌≤◌, ◌<◌}
use mathlib.Core.Path.{◌≡◌, refl, sym, ap, subst, ◌∙◌}
use mathlib.Core.Logic.{inl, inr}
use mathlib.Core.Bool.{true, false}
use mathlib.Core.List.{List, [], ◌∷◌, ◌++◌, map}
use mathlib.Core.Option.{Option, none, some}
use native.Mathlib.Omega.{arith}
use lib.Dec.{eqb}
use lib.ListN.{length, get_or, length-append, length-map, get_or-append, get_or-map}
use lib.Seq.{get_or-append-add, get_or_at}
use borrow.Author.Tests.{eqb-true, eq-eqb}
use Rattle.std.specs.Prelude as rust
use Rattle.std.specs.Prelude.{Some, None}
use Rattle.ident.specs.declared.ItemKind.TheVariants.{Transaction}
use Rattle.ident.specs.Number.{Key}
use Rattle.regions.specs.declared.Row.{Row}
use Rattle.machine.specs.State.{Candidate, Owner, Request, State, owner_is}
use Rattle.machine.specs.Table.{at, has, one}
use Rattle.machine.specs.Sound.{Sound, OwnerFits}
use Rattle.machine.proofs.Table.{lawful_at}
use Rattle.machine.proofs.Tests.{test}
use Rattle.store.specs.Flat.{Flat, flat_of, deadline_for, own_bit, row_of, rows_for}
use Rattle.store.specs.Image.{Shows, Writes}
use Rattle.store.proofs.Bits.{own_row, conn-row}
use Rattle.store.proofs.RowsAt.{among}
use Rattle.store.proofs.Split.{rows_below, rows_above, rows_at}
use Rattle.package_stages.specs.declared.Owner.{Owner as OwnerRead}
use Rattle.package_stages.specs.Changes.{owner_as, OwnerRow, NoOwnerRow, OwnerAmong}

-- ---- one row

deadline-row : (q : Request) (c : Candidate) → (row_of q c).deadline ≡ deadline_for c.connection q.owner
unfolding row_of
deadline-row q c = refl

-- the row of who owns the request
owning : (q : Request) (c : Candidate) (r : OwnerRead) → own_bit (row_of q c) ≡ 1 → r.connection ≡ (row_of q c).conn → r.deadline ≡ (row_of q c).deadline → owner_as (Some r) ≡ q.owner
owning q c r e a b = go q.owner (sym (own_row q c) ∙ e) (a ∙ conn-row q c) (b ∙ deadline-row q c)
  where
    go : (o : Option Owner) → one (owner_is c.connection o) ≡ 1 → r.connection ≡ c.connection → r.deadline ≡ deadline_for c.connection o → owner_as (Some r) ≡ o
    go none e a b = absurd (omega arith)
    go (some o) e a b = elim (test (eqb o.connection c.connection)) [
      | inl t ↦ rw (a ∙ sym (eqb-true o.connection c.connection t), rw t at b)
      | inr t ↦ let z : one (eqb o.connection c.connection) ≡ 0 = ap one t in absurd (omega arith)
    ]

-- ---- the rows of a request, between others

pub nobody : Candidate
nobody = record { connection = 0; item = record { kind = Transaction; hash = 0 }; ready = 0; preferred = false; priority = 0 }

default : {A : Type 0} (l : List A) (i : ℕ) (d e : A) → i < length l → get_or l i d ≡ get_or l i e
default [] i d e h = absurd (omega arith)
default (a ∷ l) zero d e h = refl
default (a ∷ l) (suc i) d e h = default l i d e (omega arith)

module _ (A : List Row) (q : Request) (cs : List Candidate) (C : List Row) (d : Row) where
  in_window : (j : ℕ) → length A ≤ j → j < length A + length cs → (c : Candidate) → get_or (A ++ (map (row_of q) cs ++ C)) j d ≡ row_of q (get_or cs (j - length A) c)
  in_window j l m c =
      let e : j ≡ length A + (j - length A) = omega arith in
      let n = length-map cs (row_of q) in
      ap (λ (i : ℕ). get_or (A ++ (map (row_of q) cs ++ C)) i d) e
      ∙ get_or-append-add A (map (row_of q) cs ++ C) (j - length A) d
      ∙ get_or-append (map (row_of q) cs) C d (j - length A) (omega arith)
      ∙ default (map (row_of q) cs) (j - length A) d (row_of q c) (omega arith)
      ∙ get_or-map (row_of q) cs (j - length A) c

  -- an owner is a candidate, whose row owns
  owner-row : (o : Owner) → q.owner ≡ some o → has o.connection cs ≡ true → ((j : ℕ) → length A ≤ j → j < length A + length cs → own_bit (get_or (A ++ (map (row_of q) cs ++ C)) j d) ≡ 1 → ⊥) → ⊥
  owner-row o e h n =
      let f = among o.connection cs h in
      let l = ap length f.all ∙ length-append f.front (f.one ∷ f.back) in
      let j = length A + length f.front in
      let z : j - length A ≡ length f.front = omega arith in
      let there : get_or cs (j - length A) f.one ≡ f.one = ap (λ (i : ℕ). get_or cs i f.one) z ∙ ap (λ (l : List Candidate). get_or l (length f.front) f.one) f.all ∙
      get_or_at f.front f.one f.back f.one (length f.front) refl in
      let row = in_window j (omega arith) (omega arith) f.one ∙ ap (row_of q) there in
      let bit : own_bit (row_of q f.one) ≡ 1 = own_row q f.one ∙ ap (λ (w : Option Owner). one (owner_is f.one.connection w)) e ∙
      ap one (eq-eqb o.connection f.one.connection (sym f.is)) in
      n j (omega arith) (omega arith) (ap own_bit row ∙ bit)

  window-owner : {o : OwnerRead} → OwnerRow (A ++ (map (row_of q) cs ++ C)) d (length A) (length A + length cs) o → owner_as (Some o) ≡ q.owner
  window-owner {o} w =
      let e = in_window w.index w.least w.most nobody in
      owning q (get_or cs (w.index - length A) nobody) o (sym (ap own_bit e) ∙ w.owns) (w.connection ∙ ap (λ (r : Row). r.conn) e) (w.deadline ∙ ap (λ (r : Row). r.deadline) e)

  window-free : OwnerFits q.owner cs → NoOwnerRow (A ++ (map (row_of q) cs ++ C)) d (length A) (length A + length cs) → none ≡ q.owner
  window-free h w = go q.owner refl h
    where
      go : (o : Option Owner) → q.owner ≡ o → OwnerFits o cs → none ≡ o
      go none e h = refl
      go (some o) e h = absurd (owner-row o e h.0 w)

module _ (st : State) (s : Sound st) (k : Key) {from to : ℕ} (e : from ≡ length (rows_below k st.table)) (g : to ≡ length (rows_below k st.table ++ rows_for (at k st.table))) where
  abbrev q : Request
  q = at k st.table

  abbrev before : List Row
  before = rows_below k st.table

  abbrev d : Row
  d = row_of q nobody

  end : to ≡ length before + length q.candidates
  unfolding rows_for
  end = omega (arith, length-append before (map (row_of q) q.candidates), length-map q.candidates (row_of q))

  -- the rows of a key name the owner of its request
  pub owner-is : {b : List ℕ} → Writes b st → (r : rust.Option OwnerRead) → OwnerAmong b from to r → owner_as r ≡ q.owner
  unfolding rows_for
  owner-is w None f =
      window-free before q q.candidates (rows_above k st.table) d (lawful_at k st.table s.bounded.lawful).owner
      (subst (λ (rs : List Row). NoOwnerRow rs d (length before) (length before + length q.candidates)) (rows_at k 0 st.table s.bounded.ordered) (rw (e, end) at (f (flat_of st) d w)))
  owner-is w (Some o) f =
      window-owner before q q.candidates (rows_above k st.table) d
      (subst (λ (rs : List Row). OwnerRow rs d (length before) (length before + length q.candidates) o) (rows_at k 0 st.table s.bounded.ordered) (rw (e, end) at (f (flat_of st) d w)))

-- ---- the i-th row

abbrev pub Owns : List ℕ → ℕ → Type 0
Owns b i = (f : Flat) (d : Row) → Shows b f → own_bit (get_or f.rows i d) ≡ 1

abbrev pub OwnsNot : List ℕ → ℕ → Type 0
OwnsNot b i = (f : Flat) (d : Row) → Shows b f → own_bit (get_or f.rows i d) ≡ 1 → ⊥
