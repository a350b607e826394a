-- The connections of a request's candidates, copied from its rows.
use Prim.Native.Nat.{ℕ, ◌+◌, ◌≤◌, ◌<◌}
use mathlib.Core.Path.{◌≡◌, refl, sym, ap, ◌∙◌}
use mathlib.Core.List.{List, [], ◌∷◌, ◌++◌, map}
use native.Mathlib.Numerals.{add-one}
use native.Mathlib.Omega.{arith}
use lib.ListN.{length, take, drop, get_or, set, length-drop, length-map, length-set}
use lib.Seq.{take-suc, take-suc-set, drop_at, take_at, get_or-drop}
use Rattle.ident.specs.declared.Kind.{Kind}
use Rattle.ident.specs.declared.Kind.TheVariants.{Txid, Wtxid}
use Rattle.ident.specs.Number.{top, Key, txid, wtxid}
use Rattle.regions.specs.declared.Row.{Row}
use Rattle.machine.specs.Limits.{max_alternates}
use Rattle.machine.specs.State.{Candidate, Request, State}
use Rattle.machine.specs.Table.{at}
use Rattle.machine.specs.Sound.{Sound}
use Rattle.store.specs.Flat.{Flat, row_of, rows_for, rows_of}
use Rattle.store.specs.Image.{Shows}
use Rattle.store.specs.Shown.{row_conns}
use Rattle.store.proofs.Bits.{conn-row}
use Rattle.store.proofs.Split.{rows_below, rows_above, rows_at}
use Rattle.requests.proofs.AtHash.{held-at}
use Rattle.requests.proofs.Cutting.{conns-append as map-append}
use Rattle.handing.specs.Hands.{conns_of}

-- eight at the most
pub few_candidates : (st : State) → Sound st → (k : Key) → k.hash < top → length (at k st.table).candidates ≤ max_alternates
few_candidates st s k small = go k.kind refl
  where
    all : length (at (txid k.hash) st.table).candidates + length (at (wtxid k.hash) st.table).candidates ≤ max_alternates
    all = omega (arith, held-at k.hash small st.table s.bounded.ordered, s.bounded.alternates k.hash)

    go : (x : Kind) → k.kind ≡ x → length (at k st.table).candidates ≤ max_alternates
    go Txid e = let q : k ≡ txid k.hash = λ i. record { kind = e i; hash = k.hash } in omega (arith, all, ap (λ (j : Key). length (at j st.table).candidates) q)
    go Wtxid e = let q : k ≡ wtxid k.hash = λ i. record { kind = e i; hash = k.hash } in omega (arith, all, ap (λ (j : Key). length (at j st.table).candidates) q)

-- ---- the loop

pub record Copied (b : List ℕ) (from n : ℕ) (u₀ u : List ℕ) (i : ℕ) : Type 0 where
  pub most : i ≤ n
  pub long : length u ≡ length u₀
  pub front : (f : Flat) → Shows b f → take i u ≡ row_conns (take i (drop from f.rows))

pub copied_none : (b : List ℕ) (from n : ℕ) (u : List ℕ) → Copied b from n u u 0
copied_none b from n u = record { most = omega arith; long = refl; front = λ f h. refl }

pub copied_more : {b : List ℕ} {from n : ℕ} {u₀ u : List ℕ} {i : ℕ} (r : Row) → Copied b from n u₀ u i → i < n → n ≤ length u₀
    → ((f : Flat) → Shows b f → from + n ≤ length f.rows) → ((f : Flat) (d : Row) → Shows b f → r ≡ get_or f.rows (from + i) d) → Copied b from n u₀ (set u i r.conn) (i + 1)
copied_more {b} {from} {n} {u₀} {u} {i} r c l room inside is = record {
  most = omega arith;
  long = length-set u i r.conn ∙ c.long;
  front = λ f h.
      let rs = drop from f.rows in
      let lr : i < length rs = omega (arith, length-drop from f.rows, inside f h) in
      let lw : i < length u = omega (arith, c.long) in
      let stored : take (i + 1) (set u i r.conn) ≡ take i u ++ (r.conn ∷ []) = rw (add-one i) (take-suc-set u i r.conn lw) in
      let read : take (i + 1) rs ≡ take i rs ++ (get_or rs i r ∷ []) = rw (add-one i) (take-suc rs i r lr) in
      stored
      ∙ ap (λ (x : List ℕ). x ++ (r.conn ∷ [])) (c.front f h)
      ∙ sym (ap row_conns read ∙ map-append (take i rs) (get_or rs i r ∷ []) ∙ ap (λ (x : Row). row_conns (take i rs) ++ (x.conn ∷ [])) (get_or-drop from f.rows i r ∙ sym (is f r h)));
}

-- ---- whose they are

conns-row : (q : Request) (cs : List Candidate) → row_conns (map (row_of q) cs) ≡ conns_of cs
conns-row q [] = refl
conns-row q (c ∷ cs) = ap (λ (l : List ℕ). (row_of q c).conn ∷ l) (conns-row q cs) ∙ ap (λ (x : ℕ). x ∷ conns_of cs) (conn-row q c)

pub copied_all : {b : List ℕ} {from n : ℕ} {u₀ u : List ℕ} {i : ℕ} (st : State) → Sound st → (k : Key) → Copied b from n u₀ u i → n ≤ i → (f : Flat) → f.rows ≡ rows_of st.table → Shows b f
    → from ≡ length (rows_below k st.table) → n ≡ length (at k st.table).candidates
    → take n u ≡ conns_of (at k st.table).candidates
unfolding rows_for
copied_all {b} {from} {n} {u₀} {u} {i} st s k c l f e h a z =
    let q = at k st.table in
    let A = rows_below k st.table in
    let C = rows_above k st.table in
    let x : i ≡ n = omega (arith, c.most) in
    let own = map (row_of q) q.candidates in
    let lo : length own ≡ n = length-map q.candidates (row_of q) ∙ sym z in
    ap (λ (j : ℕ). take j u) (sym x) ∙ c.front f h
    ∙ ap (λ (j : ℕ). row_conns (take j (drop from f.rows))) x
    ∙ ap (λ (rs : List Row). row_conns (take n (drop from rs))) (e ∙ rows_at k 0 st.table s.bounded.ordered)
    ∙ ap (λ (rs : List Row). row_conns (take n rs)) (drop_at A (own ++ C) from (sym a))
    ∙ ap row_conns (take_at own C n lo)
    ∙ conns-row q q.candidates
