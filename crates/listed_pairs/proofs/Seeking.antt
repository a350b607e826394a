-- The first Wtxid request, sought line by line.
use Prim.Native.Nat.{ℕ, ◌+◌, ◌≤◌}
use mathlib.Core.Path.{◌≡◌, refl, sym, ap, subst, ◌∙◌}
use mathlib.Core.Bool.{Bool, true, false}
use mathlib.Core.List.{List, [], ◌∷◌}
use native.Mathlib.Omega.{arith}
use lib.ListN.{length, drop}
use Rattle.ident.specs.declared.Kind.{Kind}
use Rattle.ident.specs.declared.Kind.TheVariants.{Txid, Wtxid}
use Rattle.ident.specs.Number.{base, top, place, wtxid}
use Rattle.machine.specs.Limits.{max_alternates}
use Rattle.machine.specs.State.{Candidate, Request, Table, with_candidates}
use Rattle.machine.specs.Table.{at}
use Rattle.machine.specs.Claim.{same_kind}
use Rattle.machine.specs.Sound.{Ordered}
use Rattle.machine.specs.SoundTest.{every}
use Rattle.machine.specs.Listing.{Line, HeadLine, RequestLine, CandidateLine, Rest, rest_of}
use Rattle.machine.proofs.At.{at_there}
use Rattle.machine.proofs.Tests.{never}
use Rattle.machine.proofs.Table.{weaken}
use Rattle.listed_form.specs.Given.{Body, requests_only}
use Rattle.listed_form.proofs.Stepping.{body_end, Leaves, leaves}
use Rattle.listed_requests.specs.Parts.{uncrowded}
use Rattle.listed_pairs.specs.Given.{starts_wtxid, Tells, LinePassed, Behind, FirstWtxid}
use Rattle.listed_pairs.proofs.Facing.{others_few}

-- ---- underway

pub record Sought (b : List ℕ) (i : ℕ) (t : Table) : Type 0 where
  pub left : Rest
  pub body : Body b i left
  pub ordered : Ordered 0 left.table
  pub few : every (uncrowded max_alternates) left.table ≡ true
  pub same : (h : ℕ) → at (wtxid h) t ≡ at (wtxid h) left.table

pub record Searched (b : List ℕ) (from i : ℕ) : Type 0 where
  pub is : (t : Table) → Body b from (requests_only t) → Ordered 0 t → every (uncrowded max_alternates) t ≡ true → Sought b i t

pub txid-kind : (k : Kind) → same_kind k Wtxid ≡ false → k ≡ Txid
txid-kind Txid e = refl
txid-kind Wtxid e = never (sym e)

pub wtxid-kind : (k : Kind) → same_kind k Wtxid ≡ true → k ≡ Wtxid
wtxid-kind Wtxid e = refl
wtxid-kind Txid e = never e

module _ {b : List ℕ} {from i : ℕ} (u : Searched b from i) where
  module _ {end : ℕ} (p : LinePassed b i end) {x : Bool} (z : x ≡ starts_wtxid (drop i b)) where
    pub search_on : x ≡ false → Searched b from end
    search_on e = record {
      is = λ t y o f.
          let a = u.is t y o f in
          let d = p.is a.body.lines a.body.are in
          next t a d.first (subst (λ (v : Bool). Tells v d.first) (sym z ∙ e) d.tells) (leaves b end p.inside d.are d.first (ap rest_of (sym d.parts) ∙ a.body.list));
    }
      where
        past : (t q : Table) (r : Request) (cs : List Candidate) (s : Table) → r.key.kind ≡ Txid → q ≡ with_candidates cs r ∷ s → Ordered 0 q
            → every (uncrowded max_alternates) q ≡ true → ((h : ℕ) → at (wtxid h) t ≡ at (wtxid h) q) → Body b end (record { candidates = cs; table = s }) → Sought b end t
        past t q r cs s k d o f same y =
            let o' = rw d at o in
            let v : place r.key ≡ r.key.hash = ap (λ (a : Kind). base a + r.key.hash) k ∙ omega arith in
            record {
              left = record { candidates = cs; table = s };
              body = y;
              ordered = weaken s (omega arith) o'.2;
              few = others_few max_alternates (with_candidates cs r) s (rw d at f);
              same = λ h. same h ∙ ap (at (wtxid h)) d ∙ at_there (wtxid h) (with_candidates cs r) s (λ g. omega (arith, o'.1));
            }

        next : (t : Table) (a : Sought b i t) (l : Line) → Tells false l → Leaves b end l a.left → Sought b end t
        next t a (HeadLine s) k w = absurd w
        next t a (RequestLine r) k w = past t a.left.table r w.candidates w.table (txid-kind r.key.kind (sym k)) w.parts a.ordered a.few a.same w.body
        next t a (CandidateLine c) k w = record { left = record { candidates = w.candidates; table = a.left.table }; body = w.body; ordered = a.ordered; few = a.few; same = a.same }

    pub search_found : x ≡ true → FirstWtxid b from i
    search_found e = record {
      is = λ t y o f.
          let a = u.is t y o f in
          let d = p.is a.body.lines a.body.are in
          found t a d.first (subst (λ (v : Bool). Tells v d.first) (sym z ∙ e) d.tells) (leaves b end p.inside d.are d.first (ap rest_of (sym d.parts) ∙ a.body.list));
    }
      where
        above : (r : Request) (cs : List Candidate) (s t : Table) → r.key.kind ≡ Wtxid → t ≡ with_candidates cs r ∷ s → Ordered 0 t → Ordered top t
        above r cs s t k d o =
            let o' = rw d at o in
            let v : place r.key ≡ top + r.key.hash = ap (λ (a : Kind). base a + r.key.hash) k in
            rw d (omega arith, o'.1, o'.2)

        found : (t : Table) (a : Sought b i t) (l : Line) → Tells true l → Leaves b end l a.left → Behind b i t
        found t a (HeadLine s) k w = absurd w
        found t a (CandidateLine c) k w = never (sym k)
        found t a (RequestLine r) k w =
            record {
              table = a.left.table;
              body = clear a.left w.first a.body;
              ordered = above r w.candidates w.table a.left.table (wtxid-kind r.key.kind (sym k)) w.parts a.ordered;
              few = a.few;
              same = a.same;
            }
          where
            clear : (q : Rest) → q.candidates ≡ [] → Body b i q → Body b i (requests_only q.table)
            clear q g y = go q.candidates q.table g y
              where
                go : (cs : List Candidate) (s : Table) → cs ≡ [] → Body b i (record { candidates = cs; table = s }) → Body b i (requests_only s)
                go cs s g y = rw g at y

  pub search_end : length b ≤ i → FirstWtxid b from i
  search_end g = record {
    is = λ t y o f.
        let a = u.is t y o f in
        let e = body_end a.body g in
        let d : a.left.table ≡ [] = ap (λ (q : Rest). q.table) e in
        record { table = []; body = rw e at a.body; ordered = tt; few = rw d at a.few; same = λ k. a.same k ∙ ap (at (wtxid k)) d };
  }
