-- The requests at two indices, and what is left of the test behind them.
use Prim.Native.Nat.{ℕ, ◌+◌, ◌<◌, ◌≤◌}
use mathlib.Core.Path.{◌≡◌, refl, sym, ap, ◌∙◌}
use mathlib.Core.Bool.{Bool, true, false, not, ◌&&◌}
use mathlib.Core.List.{List, [], ◌∷◌, ◌++◌}
use native.Mathlib.Omega.{arith}
use lib.Dec.{ltb}
use lib.ListN.{length}
use borrow.Author.Tests.{ltb-true, ltb-false}
use Rattle.std.specs.Prelude.{Some, None, is_some as is_there}
use Rattle.ident.specs.declared.Kind.{Kind}
use Rattle.ident.specs.declared.Kind.TheVariants.{Txid, Wtxid}
use Rattle.ident.specs.Number.{base, top, place}
use Rattle.regions.specs.Rows.{quad_number}
use Rattle.machine.specs.Limits.{max_alternates}
use Rattle.machine.specs.State.{Candidate, Request, Table, with_candidates, is_some}
use Rattle.machine.specs.Claim.{same_kind}
use Rattle.machine.specs.Sound.{Ordered}
use Rattle.machine.specs.SoundTest.{every}
use Rattle.machine.specs.Listing.{Rest}
use Rattle.machine.proofs.Table.{weaken}
use Rattle.listed_lines.specs.declared.line.Request as line-request
use Rattle.listed_lines.specs.Given.{request_in}
use Rattle.listed_form.specs.Given.{Body, requests_only}
use Rattle.listed_form.proofs.Stepping.{body_end}
use Rattle.listed_requests.specs.Parts.{few_once, uncrowded, pair_fits, pairs_fit}
use Rattle.listed_pairs.specs.declared.Pair.TheVariants.{Unfit, Done, Next}
use Rattle.listed_requests.specs.Given.{NextRequest}
use Rattle.listed_pairs.specs.Given.{FirstWtxid, Skips, PassesBelow, SideBySide, Facing, Left, Compared, PairsFit}
use Rattle.listed_requests.proofs.Judging.{owner-there}
use Rattle.listed_pairs.proofs.Facing.{from_first, first_few, others_few, no-txid, no-wtxid, front_first, back_first, both_first, same_wtxids}
use Rattle.listed_pairs.proofs.Seeking.{txid-kind, wtxid-kind}
use Rattle.listed_pairs.proofs.Skipping.{few_in}

abbrev most : ℕ
most = max_alternates

-- ---- no Txid request

module _ {b : List ℕ} {i j : ℕ} {ws ps : List ℕ} {e d to : ℕ} where
  pub no_front : i < length b → NextRequest b i ws ps None to → Compared b i j Done e d
  no_front h n = record { is = λ p q a. absurd (n.missing refl h p a.front) }

  pub no_back : j < length b → NextRequest b j ws ps None to → Compared b i j Done e d
  no_back h n = record { is = λ p q a. absurd (n.missing refl h q a.back) }

  pub wtxid_front : {r : line-request.Request} → NextRequest b i ws ps (Some r) to → {x : Bool} → x ≡ same_kind r.key.kind Wtxid → x ≡ true → Compared b i j Done e d
  wtxid_front {r} n d g = record {
    is = λ p q a.
        let v = n.takes.is p a.front in
        let z = v.parts in
        let o = rw z at a.ordered in
        let x = with_candidates v.candidates (request_in ws ps r) in
        let t : place x.key ≡ top + x.key.hash = ap (λ (y : Kind). base y + x.key.hash) (wtxid-kind r.key.kind (sym d ∙ g)) in
        ap (pairs_fit most q) z ∙ no-txid most q (place x.key) (x ∷ v.table) (omega arith) (from_first x v.table o);
  }

-- ---- both

record Met (b : List ℕ) (e d : ℕ) (front back : List Candidate → Request) (p q : Table) : Type 0 where
  pub cs : List Candidate
  pub ds : List Candidate
  pub s : Table
  pub u : Table
  pub first : p ≡ front cs ∷ s
  pub second : q ≡ back ds ∷ u
  pub body : Body b e (record { candidates = cs; table = s })
  pub body2 : Body b d (record { candidates = ds; table = u })
  pub ordered : Ordered 0 (front cs ∷ s)
  pub above : Ordered top (back ds ∷ u)
  pub few : every (uncrowded most) (front cs ∷ s) ≡ true
  pub fewer : every (uncrowded most) (back ds ∷ u) ≡ true

moves : {b : List ℕ} {i j e d : ℕ} → i ≤ e → j ≤ d → i + j < e + d → ((p q : Table) → Facing b i j p q → Left b e d (pairs_fit most q p)) → Compared b i j Next e d
moves a c l z = record { is = record { on = a; on2 = c; less = l; is = z } }

module _ {b : List ℕ} {i j : ℕ} {ws ps ws' ps' : List ℕ} {r w : line-request.Request} {f g : ℕ} (n : NextRequest b i ws ps (Some r) f) (m : NextRequest b j ws' ps' (Some w) g) {x : Bool}
    (x-is : x ≡ same_kind r.key.kind Wtxid) (txid : x ≡ false) where
  abbrev front : List Candidate → Request
  front cs = with_candidates cs (request_in ws ps r)

  abbrev back : List Candidate → Request
  back cs = with_candidates cs (request_in ws' ps' w)

  meet : (p q : Table) → Facing b i j p q → Met b f g front back p q
  meet p q a =
      let v = n.takes.is p a.front in
      let y = m.takes.is q a.back in
      let z = v.parts in
      let t = y.parts in
      record {
        cs = v.candidates;
        ds = y.candidates;
        s = v.table;
        u = y.table;
        first = z;
        second = t;
        body = v.body;
        body2 = y.body;
        ordered = rw z at a.ordered;
        above = rw t at a.above;
        few = rw z at a.few;
        fewer = rw t at a.fewer;
      }

  is-txid : r.key.kind ≡ Txid
  is-txid = txid-kind r.key.kind (sym x-is ∙ txid)

  -- the test with the two in front
  with_both : {p q : Table} (t : Met b f g front back p q) → pairs_fit most q p ≡ pairs_fit most (back t.ds ∷ t.u) (front t.cs ∷ t.s)
  with_both {p} {q} t = ap (pairs_fit most q) t.first ∙ ap (λ (y : Table). pairs_fit most y (front t.cs ∷ t.s)) t.second

  pub front_less : {y : Bool} → y ≡ ltb (quad_number r.key.hash) (quad_number w.key.hash) → y ≡ true → {to : ℕ} → PassesBelow b f to (quad_number w.key.hash)
      → Compared b i j Next to j
  front_less {y} y-is y-true {to} s =
      moves (omega (arith, n.takes.on, s.on)) (omega arith) (omega (arith, n.takes.on, s.on)) (λ p q a.
      let t = meet p q a in
      let l = ltb-true (quad_number r.key.hash) (quad_number w.key.hash) (sym y-is ∙ y-true) in
      let z = s.is (record { candidates = t.cs; table = t.s }) t.body (few_in (front t.cs) t.s t.few) (weaken t.s (omega arith) t.ordered.2)
      (others_few most (front t.cs) t.s t.few) in
      record {
        p = z.table;
        q = q;
        facing = record { front = z.body; back = a.back; ordered = z.ordered; above = a.above; few = z.few; fewer = a.fewer };
        same = with_both t ∙ front_first most (front t.cs) t.s (back t.ds) t.u t.ordered t.above is-txid (first_few most (front t.cs) t.s t.few) l
            ∙ z.same (back t.ds) t.u t.above refl ∙ sym (ap (λ (y : Table). pairs_fit most y z.table) t.second);
      })

  pub back_less : {y : Bool} → y ≡ ltb (quad_number w.key.hash) (quad_number r.key.hash) → y ≡ true → {to : ℕ} → Skips b g to
      → Compared b i j Next i to
  back_less {y} y-is y-true {to} s =
      moves (omega arith) (omega (arith, m.takes.on, s.on)) (omega (arith, m.takes.on, s.on)) (λ p q a.
      let t = meet p q a in
      let l = ltb-true (quad_number w.key.hash) (quad_number r.key.hash) (sym y-is ∙ y-true) in
      record {
        p = p;
        q = t.u;
        facing = record {
          front = a.front;
          back = s.is (record { candidates = t.ds; table = t.u }) t.body2 (few_in (back t.ds) t.u t.fewer);
          ordered = a.ordered;
          above = weaken t.u (omega (arith, t.above.0)) t.above.2;
          few = a.few;
          fewer = others_few most (back t.ds) t.u t.fewer;
        };
        same = with_both t ∙ back_first most (front t.cs) t.s (back t.ds) t.u t.ordered t.above is-txid l ∙ sym (ap (pairs_fit most t.u) t.first);
      })

  module _ {y z : Bool} (y-is : y ≡ ltb (quad_number r.key.hash) (quad_number w.key.hash)) (y-no : y ≡ false) (z-is : z ≡ ltb (quad_number w.key.hash) (quad_number r.key.hash)) (z-no : z ≡ false)
      {fit : Bool} {e d : ℕ} (v : SideBySide b f r g w fit e d) where
    same-hash : quad_number r.key.hash ≡ quad_number w.key.hash
    same-hash =
        let l = ltb-false (quad_number r.key.hash) (quad_number w.key.hash) (sym y-is ∙ y-no) in
        let k = ltb-false (quad_number w.key.hash) (quad_number r.key.hash) (sym z-is ∙ z-no) in
        omega arith

    fit_is : (cs ds : List Candidate) (s u : Table) → Body b f (record { candidates = cs; table = s }) → Body b g (record { candidates = ds; table = u })
        → fit ≡ pair_fits most (front cs) (back ds)
    unfolding pair_fits
    fit_is cs ds s u a c =
        v.is (record { candidates = cs; table = s }) (record { candidates = ds; table = u }) a c
        ∙ ap (λ (t : Bool). few_once most (cs ++ ds) && not (t && is_there w.owner)) (sym (owner-there r.owner))
        ∙ ap (λ (t : Bool). few_once most (cs ++ ds) && not (is_some (front cs).owner && t)) (sym (owner-there w.owner))

    left_is : {p q : Table} (t : Met b f g front back p q) → pairs_fit most q p ≡ (fit && pairs_fit most t.u t.s)
    left_is t =
        with_both t ∙ both_first most (front t.cs) t.s (back t.ds) t.u t.ordered t.above is-txid same-hash
        ∙ ap (λ (a : Bool). a && pairs_fit most t.u t.s) (sym (fit_is t.cs t.ds t.s t.u t.body t.body2))

    pub not_together : {e' d' : ℕ} → fit ≡ false → Compared b i j Unfit e' d'
    not_together c = record { is = λ p q a. let t = meet p q a in left_is t ∙ ap (λ (a : Bool). a && pairs_fit most t.u t.s) c }

    pub fit-together : fit ≡ true → Compared b i j Next e d
    fit-together c =
        moves (omega (arith, n.takes.on, v.on)) (omega (arith, m.takes.on, v.on2)) (omega (arith, n.takes.on, v.on, m.takes.on, v.on2)) (λ p q a.
        let t = meet p q a in
        record {
          p = t.s;
          q = t.u;
          facing = record {
            front = v.first (record { candidates = t.cs; table = t.s }) (record { candidates = t.ds; table = t.u }) t.body t.body2 c;
            back = v.second (record { candidates = t.cs; table = t.s }) (record { candidates = t.ds; table = t.u }) t.body t.body2 c;
            ordered = weaken t.s (omega arith) t.ordered.2;
            above = weaken t.u (omega (arith, t.above.0)) t.above.2;
            few = others_few most (front t.cs) t.s t.few;
            fewer = others_few most (back t.ds) t.u t.fewer;
          };
          same = left_is t ∙ ap (λ (a : Bool). a && pairs_fit most t.u t.s) c;
        })

-- ---- all of them

pub record Underway (b : List ℕ) (from i j : ℕ) : Type 0 where
  pub is : (t : Table) → Body b from (requests_only t) → Ordered 0 t → every (uncrowded most) t ≡ true → Left b i j (pairs_fit most t t)

pub pairs-begin : {b : List ℕ} {from j : ℕ} → FirstWtxid b from j → Underway b from from j
pairs-begin v = record {
  is = λ t y o f.
      let a = v.is t y o f in
      record {
        p = t;
        q = a.table;
        facing = record { front = y; back = a.body; ordered = o; above = a.ordered; few = f; fewer = a.few };
        same = same_wtxids most t a.table t a.same;
      };
}

module _ {b : List ℕ} {from i j : ℕ} (u : Underway b from i j) where
  module _ {e d : ℕ} where
    pub pairs_stop : Compared b i j Unfit e d → PairsFit b from false
    pairs_stop c = record { is = λ t y o f. let a = u.is t y o f in sym (a.same ∙ c.is a.p a.q a.facing) }

    pub pairs_done : Compared b i j Done e d → PairsFit b from true
    pairs_done c = record { is = λ t y o f. let a = u.is t y o f in sym (a.same ∙ c.is a.p a.q a.facing) }

    pub pairs_on : Compared b i j Next e d → Underway b from e d
    pairs_on c = record {
      is = λ t y o f.
          let a = u.is t y o f in
          let z = c.is.is a.p a.q a.facing in
          record { p = z.p; q = z.q; facing = z.facing; same = a.same ∙ z.same };
    }

  pub front_end : length b ≤ i → PairsFit b from true
  front_end h = record {
    is = λ t y o f.
        let a = u.is t y o f in
        let e : a.p ≡ [] = ap (λ (x : Rest). x.table) (body_end a.facing.front h) in
        sym (a.same ∙ ap (pairs_fit most a.q) e ∙ no-txid most a.q top [] (omega arith) tt);
  }

  pub back_end : length b ≤ j → PairsFit b from true
  back_end h = record {
    is = λ t y o f.
        let a = u.is t y o f in
        let e : a.q ≡ [] = ap (λ (x : Rest). x.table) (body_end a.facing.back h) in
        sym (a.same ∙ ap (λ (x : Table). pairs_fit most x a.p) e ∙ no-wtxid most a.p a.facing.few);
  }
