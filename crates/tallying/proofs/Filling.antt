-- An entry for each row, in bytes; and the table in their place.
use Prim.Native.Nat.{ℕ, suc, ◌+◌, ◌≤◌, ◌<◌}
use mathlib.Core.Path.{◌≡◌, refl, sym, ap, subst, ◌∙◌}
use mathlib.Core.List.{List, [], ◌∷◌, ◌++◌, map, map-append}
use native.Mathlib.Omega.{arith}
use lib.ListN.{length, take, get_or, length-map, drop_of_length-le}
use lib.Seq.{take_all, take-suc, length-take-le}
use Rattle.regions.specs.declared.Row.{Row}
use Rattle.regions.specs.declared.Conn.{Conn}
use Rattle.regions.specs.Regions.{insert_at}
use Rattle.machine.specs.Typed.{Each}
use Rattle.store.specs.Flat.{Flat, own_bit, tally}
use Rattle.store.specs.Image.{Shows}
use Rattle.store.specs.Shown.{limit_in, rows_in, conns_in, Light, Shown, with_conns, Turns}
use Rattle.store.proofs.Frame.{sizes, shown}
use Rattle.tallying.specs.Entries.{entry_of, counted}
use Rattle.tallying.proofs.Counted.{counted-rows}

-- ---- entries of rows

light-entries : (rs : List Row) → Each Light (map entry_of rs)
light-entries [] = tt
light-entries (r ∷ rs) = (record { held = omega arith; owned = omega arith }, light-entries rs)

pub entries-shown : {b₀ b : List ℕ} (k : Shown b₀) (rs : List Row) → length rs ≤ length k.flat.rows → Shows b (with_conns (map entry_of rs) k.flat) → Shown b
entries-shown k rs l h =
    let z = k.sized in
    let n : length (map entry_of rs) ≡ length rs = length-map rs entry_of in
    shown h (record { limit = z.limit; places = z.places; rows_few = z.rows_few; conns_few = omega (arith, z.rows_few); places_few = z.places_few }) (light-entries rs)

-- ---- the loop: the first i rows have theirs

pub record Filling (b₀ b : List ℕ) (n i : ℕ) : Type 0 where
  pub rows : n ≡ rows_in b₀
  pub most : i ≤ n
  pub size : length b ≡ length b₀
  pub filled : (f : Flat) → Shows b₀ f → Shows b (with_conns (map entry_of (take i f.rows)) f)

pub filling_none : {b : List ℕ} {n : ℕ} → n ≡ rows_in b → conns_in b ≡ 0 → Filling b b n 0
filling_none {b} {n} e c = record { rows = e; most = omega arith; size = refl; filled = λ f h. from f h f.conns refl }
  where
    from : (f : Flat) → Shows b f → (cs : List Conn) → f.conns ≡ cs → Shows b (with_conns [] f)
    from f h [] q = subst (λ (cs : List Conn). Shows b (with_conns cs f)) q h
    from f h (x ∷ cs) q = let z = sizes h in let l : length f.conns ≡ suc (length cs) = ap length q in absurd (omega (arith, z.conns))

at_end : (l : List Conn) (i : ℕ) (x : Conn) → length l ≡ i → insert_at i x l ≡ l ++ (x ∷ [])
unfolding insert_at
at_end l i x e = rw (take_all i l (omega arith), drop_of_length-le l {i = i} (omega arith))

module _ {b₀ b : List ℕ} {n i : ℕ} (k : Shown b₀) (p : Filling b₀ b n i) where
  now-shows : Shows b (with_conns (map entry_of (take i k.flat.rows)) k.flat)
  now-shows = p.filled k.flat k.shows

  many : (f : Flat) → Shows b₀ f → length (map entry_of (take i f.rows)) ≡ i
  many f h =
      let z = sizes h in
      length-map (take i f.rows) entry_of ∙ length-take-le i f.rows (omega (arith, z.rows, p.rows, p.most))

  pub filling_shown : Shown b
  filling_shown =
      let l = many k.flat k.shows in
      let z = sizes k.shows in
      let m : length (map entry_of (take i k.flat.rows)) ≡ length (take i k.flat.rows) = length-map (take i k.flat.rows) entry_of in
      entries-shown k (take i k.flat.rows) (omega (arith, z.rows, p.rows, p.most)) now-shows

  pub filling_row : i < n → i < rows_in b
  filling_row l = let z = sizes k.shows in let w = sizes now-shows in omega (arith, z.rows, w.rows, p.rows)

  pub filling_room : i < n → (i ≤ conns_in b) × (conns_in b < limit_in b)
  filling_room l =
      let z = sizes k.shows in
      let w = sizes now-shows in
      let m = many k.flat k.shows in
      (omega (arith, w.conns), omega (arith, w.conns, w.limit, z.rows, p.rows, k.sized.rows_few))

  pub filling_more : {b₁ : List ℕ} {r : Row} {o : ℕ} → i < n → ((f : Flat) (d : Row) → Shows b f → r ≡ get_or f.rows i d) → o ≡ own_bit r
      → Turns b b₁ (λ f. with_conns (insert_at i (record { conn = r.conn; held = 1; owned = o }) f.conns) f) → length b₁ ≡ length b → Filling b₀ b₁ n (i + 1)
  filling_more {b₁} {r} {o} l g own t e = record {
    rows = p.rows;
    most = omega arith;
    size = e ∙ p.size;
    filled = λ f h.
        let rs = f.rows in
        let cs = map entry_of (take i rs) in
        let z = sizes h in
        let q : i + 1 ≡ suc i = omega arith in
        let row : r ≡ get_or rs i r = g (with_conns cs f) r (p.filled f h) in
        let a : map entry_of (take (i + 1) rs) ≡ cs ++ (entry_of r ∷ []) =
        ap (λ (m : ℕ). map entry_of (take m rs)) q ∙ ap (map entry_of) (take-suc rs i r (omega (arith, z.rows, p.rows)) ∙ ap (λ (y : Row). take i rs ++ (y ∷ [])) (sym row))
        ∙ map-append entry_of (take i rs) (r ∷ []) in
        subst (λ (xs : List Conn). Shows b₁ (with_conns xs f)) (at_end cs i (entry_of r) (many f h) ∙ sym a) (rw own at t (with_conns cs f) (p.filled f h));
  }

-- ---- both

pub filled-shown : {b₀ b : List ℕ} → Shown b₀ → Turns b₀ b (λ f. with_conns (map entry_of f.rows) f) → Shown b
filled-shown k t = entries-shown k k.flat.rows (omega arith) (t k.flat k.shows)

pub tallied_rows : {b₀ b b₁ : List ℕ} → Turns b₀ b (λ f. with_conns (map entry_of f.rows) f) → Turns b b₁ (λ f. with_conns (counted [] f.conns) f) → Turns b₀ b₁ (λ f. with_conns (tally
    f.rows) f)
tallied_rows {b₀} {b} {b₁} t u f h = subst (λ (cs : List Conn). Shows b₁ (with_conns cs f)) (counted-rows f.rows) (u (with_conns (map entry_of f.rows) f) (t f h))
