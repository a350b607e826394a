-- Rows that have come in are counted to their connections, one after the other.
use Prim.Native.Nat.{ℕ, suc, ◌+◌, ◌≤◌, ◌<◌}
use mathlib.Core.Path.{◌≡◌, refl, sym, ap, subst, ◌∙◌}
use mathlib.Core.Logic.{inl, inr}
use mathlib.Core.Bool.{Bool, ◌&&◌}
use mathlib.Core.List.{List, [], ◌∷◌}
use native.Mathlib.Omega.{arith}
use lib.Dec.{eqb}
use lib.ListN.{length, take, get_or}
use lib.Seq.{length-take-le}
use Rattle.regions.specs.declared.Row.{Row}
use Rattle.regions.specs.declared.Conn.{Conn}
use Rattle.regions.specs.Regions.{Found}
use Rattle.regions.specs.Rows.{row_size, row_words, read_row}
use Rattle.machine.specs.Limits.{max_announcements}
use Rattle.machine.specs.Typed.{Each}
use Rattle.machine.proofs.Tests.{test}
use Rattle.store.specs.Counting.{raise}
use Rattle.store.specs.Flat.{bump, tally}
use Rattle.store.specs.FlatSound.{count_rows, owns}
use Rattle.store.specs.Image.{Shows}
use Rattle.store.specs.Shown.{conns_in, limit_in, half, Light, Shown, with_conns, Tallies}
use Rattle.store.proofs.Certify.{tally-counted}
use Rattle.store.proofs.Entries.{tally-length}
use Rattle.store.proofs.Frame.{sizes, shown}
use Rattle.store.proofs.RowsFit.{each_by}
use Rattle.requests.proofs.Keeping.{conns_in_order}
use Rattle.gathering.specs.Coming.{counted, Uncounted, CountedTo}
use Rattle.gathering.specs.Merges.{merged}
use Rattle.gathering.proofs.ComingIn.{tally_next}
use Rattle.gathering.proofs.Merging.{length_merged}

-- the first j of the m rows in the words v are counted
pub record Counting (b₀ b v : List ℕ) (m j : ℕ) : Type 0 where
  pub few : j ≤ m
  pub size : length b ≡ length b₀
  pub so-far : CountedTo b₀ b v m j

pub counting_none : {b v : List ℕ} {m : ℕ} → Counting b b v m 0
counting_none = record { few = omega arith; size = refl; so-far = λ f M ys l p h g. g }

-- ---- a connection has no more rows than there are

rows_most : (p : Row → Bool) (rs : List Row) → count_rows p rs ≤ length rs
unfolding count_rows
rows_most p [] = omega arith
rows_most p (r ∷ rs) = elim (test (p r)) [ inl e ↦ rw e (omega (arith, rows_most p rs)) | inr e ↦ rw e (omega (arith, rows_most p rs)) ]

tally-light : (rs : List Row) → length rs < half → Each Light (tally rs)
tally-light rs l = each_by (tally rs) (λ c k. record {
  held = omega (arith, k.held, rows_most (λ (r : Row). eqb r.conn c.conn) rs);
  owned = omega (arith, k.owned, rows_most (λ (r : Row). eqb r.conn c.conn && owns r) rs);
}) (tally-counted rs)

-- ---- the loop

raise_one : (n : ℕ) (cs : List Conn) → raise n 1 cs ≡ bump n 0 cs
unfolding raise
raise_one n cs = refl

module _ {b₀ b v : List ℕ} {m j : ℕ} (c : Counting b₀ b v m j) where
  pub counting_shown : Uncounted b₀ v m → j < m → Shown b × (conns_in b < limit_in b) × (1 ≤ 1) × (1 ≤ max_announcements)
  counting_shown u l =
      let ys = u.rows in
      let xs = u.flat.rows in
      let z = u.sized in
      let h : Shows b (counted u.flat ys j) = c.so-far u.flat u.space ys u.count u.bare u.holds u.shows in
      let y = sizes h in
      let n = length_merged xs ys in
      let k = length_merged xs (take j ys) in
      let t = length-take-le j ys (omega (arith, u.count)) in
      let e = tally-length (merged xs (take j ys)) in (
        shown h (record { limit = z.limit; places = z.places; rows_few = omega (arith, u.room, u.count); conns_few = omega (arith, u.room); places_few = z.places_few })
            (tally-light (merged xs (take j ys)) (omega (arith, u.room, z.limit))),
        omega (arith, y.conns, y.limit, u.room),
        omega arith,
        omega arith,
      )

  pub counting_more : {b' : List ℕ} {y : Row} → j < m → Found row_size row_words v read_row j y → length b' ≡ length b → Tallies b b' (raise y.conn 1) → Counting b₀ b' v m (j + 1)
  counting_more {b'} {y} l found e t = record {
    few = omega arith;
    size = e ∙ c.size;
    so-far = λ f M ys n p h g.
        let xs = f.rows in
        let here : y ≡ get_or ys j y = found.region M ys y (omega arith) h in
        let s : j + 1 ≡ suc j = omega arith in
        let q : raise y.conn 1 (tally (merged xs (take j ys))) ≡ tally (merged xs (take (j + 1) ys)) =
        raise_one y.conn (tally (merged xs (take j ys))) ∙ ap (λ (r : Row). bump r.conn 0 (tally (merged xs (take j ys)))) here
        ∙ sym (tally_next xs ys j y p (omega arith)) ∙ ap (λ (i : ℕ). tally (merged xs (take i ys))) (sym s) in
        subst (λ (cs : List Conn). Shows b' (with_conns cs (counted f ys j))) q (t (counted f ys j) (conns_in_order (merged xs (take j ys))) (c.so-far f M ys n p h g));
  }

  pub counting_done : j ≡ m → CountedTo b₀ b v m m
  counting_done e = subst (CountedTo b₀ b v m) e c.so-far
