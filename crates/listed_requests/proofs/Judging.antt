-- One request by itself, in the code's words.
use Prim.Native.Nat.{ℕ, suc, ◌<◌, ◌≤◌}
use mathlib.Core.Path.{◌≡◌, refl, sym, ap, ◌∙◌}
use mathlib.Core.Bool.{Bool, true, false, ◌&&◌}
use mathlib.Core.List.{List, [], ◌∷◌}
use mathlib.Core.Option.{Option, none, some}
use mathlib.Core.Logic.{inl, inr}
use native.Mathlib.Omega.{arith}
use lib.Dec.{ltb, leb, eqb}
use lib.ListN.{length, take}
use borrow.Author.Tests.{lt-ltb, le-leb, lt-leb, ne_eqb}
use Rattle.std.specs.Prelude.{Option as Maybe, Some, None, is_some as is_there}
use Rattle.ident.specs.declared.Kind.{Kind}
use Rattle.ident.specs.declared.Kind.TheVariants.{Wtxid}
use Rattle.ident.specs.Number.{top}
use Rattle.ident.specs.Words.{hash_bytes}
use Rattle.words.specs.Words.{number}
use Rattle.words.proofs.Records.{length-recs}
use Rattle.machine.specs.Limits.{max_alternates, max_wtxids, max_parents, word}
use Rattle.machine.specs.State.{Candidate, Owner, Package, Request, with_candidates, is_some, Each}
use Rattle.machine.specs.Table.{has}
use Rattle.machine.specs.Claim.{elem, same_kind}
use Rattle.machine.specs.Listing.{Rest, Whenever, HashesListed, OwnerListed, PackageListed, RequestListed}
use Rattle.machine.specs.SoundTest.{hashes_fit, no_repeat, all_fit, owner_fits, package_fits, parents_fit, is_packed, mark_fits, is_lawful}
use Rattle.std.specs.Bool.{then_some}
use Rattle.machine.proofs.Tests.{test, never}
use Rattle.heavy.specs.Streams.{connections_of}
use Rattle.listed_lines.specs.declared.line.Request as line-request
use Rattle.listed_lines.specs.declared.parts.Owner as parts-owner
use Rattle.listed_lines.specs.declared.parts.Package as parts-package
use Rattle.listed_lines.specs.Given.{owner_of, package_of, request_in}
use Rattle.listed_form.specs.Given.{key_in, Body}
use Rattle.listed_requests.specs.Parts.{few_once, line_fits, one_fits}
use Rattle.listed_requests.specs.declared.candidates.Gathered.{Gathered}
use Rattle.listed_requests.specs.Given.{Gathers, packs, owner_among, LineFits, Judged}
use Rattle.reading.specs.Given.{hashes_of}
use Rattle.machine.specs.Leave.{is_empty}

and-true : (x : Bool) → (x && true) ≡ x
and-true true = refl
and-true false = refl

and-false : (x : Bool) → (x && false) ≡ false
and-false true = refl
and-false false = refl

-- ---- what a listing's numbers are

all_below : (hs : List ℕ) → Each (λ h. h < top) hs → hashes_fit hs ≡ true
unfolding hashes_fit
all_below [] e = refl
all_below (h ∷ hs) e = rw (lt-ltb h top e.0, all_below hs e.1)

package-fits : (p : Package) → PackageListed p → package_fits p ≡ true
package-fits p l =
    rw (
      lt-ltb p.combined top l.combined,
      all_below p.wtxids l.wtxids.hashes,
      le-leb 1 (length p.wtxids) l.wtxids.least,
      le-leb (length p.wtxids) max_wtxids l.wtxids.most,
    )

pub parents-fit : (hs : List ℕ) → HashesListed 0 max_parents hs → parents_fit hs ≡ no_repeat hs
parents-fit hs l = rw (all_below hs l.hashes, le-leb (length hs) max_parents l.most) (and-true (no_repeat hs))

-- ---- package and parents

empty_is : (hs : List ℕ) → is_empty hs ≡ eqb (length hs) 0
empty_is [] = refl
empty_is (h ∷ hs) = sym (ne_eqb (suc (length hs)) 0 (λ z. omega arith))

packed_is : (k : Kind) (o : Option Owner) (i : Bool) (p : Option Package) (hs : List ℕ) → Whenever PackageListed p → is_packed k o i p hs ≡ packs k (is_some o) i (is_some p) (length hs)
packed_is k o true (some p) hs l = refl
packed_is k o true none hs l = refl
packed_is k o false (some p) hs l = rw (package-fits p l, and-true (same_kind k Wtxid))
packed_is k o false none hs l = empty_is hs

pub owner-there : (o : Maybe parts-owner.Owner) → is_some (owner_of o) ≡ is_there o
owner-there None = refl
owner-there (Some o) = refl

package-there : (ws : List ℕ) (p : Maybe parts-package.Package) → is_some (package_of ws p) ≡ is_there p
package-there ws None = refl
package-there ws (Some p) = refl

abbrev pub packs_in : line-request.Request → Bool
packs_in r = packs r.key.kind (is_there r.owner) r.info (is_there r.packed) r.parents

module _ (ps : List ℕ) (r : line-request.Request) where
  pub many-hashes : length (hashes_of r.parents ps) ≡ r.parents
  many-hashes = length-recs hash_bytes (number 256) r.parents ps

  module _ (ws : List ℕ) (l : RequestListed (request_in ws ps r)) where
    line_is : line_fits (request_in ws ps r) ≡ (packs_in r && (no_repeat (hashes_of r.parents ps) && mark_fits r.key.kind r.mark))
    unfolding line_fits
    line_is =
        let q = request_in ws ps r in
        let a = packed_is q.key.kind q.owner q.info q.«package» q.parents l.packed in
        let b = ap (λ (x : Bool). packs r.key.kind x r.info (is_some q.«package») (length q.parents)) (owner-there r.owner) in
        let c = ap (λ (x : Bool). packs r.key.kind (is_there r.owner) r.info x (length q.parents)) (package-there ws r.packed) in
        let d = ap (λ (x : ℕ). packs r.key.kind (is_there r.owner) r.info (is_there r.packed) x) many-hashes in
        let e = parents-fit q.parents l.parents in
        ap (λ (x : Bool). x && (parents_fit q.parents && mark_fits r.key.kind r.mark)) (a ∙ b ∙ c ∙ d)
        ∙ ap (λ (x : Bool). packs_in r && (x && mark_fits r.key.kind r.mark)) e

    few_parents : r.parents ≤ max_parents
    few_parents = omega (arith, many-hashes, l.parents.most)

  pub too-many-parents : 100 < r.parents → LineFits ps r false
  too-many-parents h = record { is = λ ws l. absurd (omega (arith, few_parents ws l)) }

  pub parent-twice : no_repeat (hashes_of r.parents ps) ≡ false → LineFits ps r false
  parent-twice e = record {
    is = λ ws l. sym (line_is ws l ∙ ap (λ (x : Bool). packs_in r && (x && mark_fits r.key.kind r.mark)) e ∙ and-false (packs_in r));
  }

  pub mark-misplaced : no_repeat (hashes_of r.parents ps) ≡ true → mark_fits r.key.kind r.mark ≡ false → LineFits ps r false
  mark-misplaced e d = record {
    is = λ ws l. sym (line_is ws l ∙ ap (λ (x : Bool). packs_in r && (x && mark_fits r.key.kind r.mark)) e
        ∙ ap (λ (x : Bool). packs_in r && x) d ∙ and-false (packs_in r));
  }

  pub by_package : {b : Bool} → no_repeat (hashes_of r.parents ps) ≡ true → mark_fits r.key.kind r.mark ≡ true
      → b ≡ packs_in r → LineFits ps r b
  by_package e d f = record {
    is = λ ws l. f ∙ sym (line_is ws l ∙ ap (λ (x : Bool). packs_in r && (x && mark_fits r.key.kind r.mark)) e
        ∙ ap (λ (x : Bool). packs_in r && x) d ∙ and-true (packs_in r));
  }

-- ---- the owner

elem-has : (n : ℕ) (cs : List Candidate) → elem n (connections_of cs) ≡ has n cs
unfolding elem has
elem-has n [] = refl
elem-has n (c ∷ cs) = rw (elem-has n cs)

owner-is : (o : Option Owner) (cs : List Candidate) → Whenever OwnerListed o → owner_fits o cs ≡ owner_among o (connections_of cs)
owner-is none cs l = refl
owner-is (some o) cs l = rw (lt-ltb o.deadline word l.deadline) (and-true (has o.connection cs) ∙ sym (elem-has o.connection cs))

-- ---- all of it

module _ (ws ps : List ℕ) (r : line-request.Request) (l : RequestListed (request_in ws ps r)) (cs : List Candidate) where
  abbrev whole : Request
  whole = with_candidates cs (request_in ws ps r)

  one_is : one_fits max_alternates whole
      ≡ (leb 1 (length cs) && (((all_fit whole.key cs && owner_among (owner_of r.owner) (connections_of cs)) && line_fits (request_in ws ps r)) && few_once max_alternates cs))
  unfolding one_fits is_lawful line_fits
  one_is =
      ap (λ (x : Bool). leb 1 (length cs) && (((all_fit whole.key cs && x) && line_fits (request_in ws ps r)) && few_once max_alternates cs))
      (owner-is (owner_of r.owner) cs l.owner)

  pub bad-line : line_fits (request_in ws ps r) ≡ false → false ≡ one_fits max_alternates whole
  bad-line e =
      sym (one_is ∙ ap (λ (x : Bool). leb 1 (length cs) && (((all_fit whole.key cs && owner_among (owner_of r.owner) (connections_of cs)) && x) && few_once max_alternates cs)) e
      ∙ none_of (leb 1 (length cs)) (all_fit whole.key cs && owner_among (owner_of r.owner) (connections_of cs)) (few_once max_alternates cs))
    where
      none_of : (a b c : Bool) → (a && ((b && false) && c)) ≡ false
      none_of false b c = refl
      none_of true false c = refl
      none_of true true c = refl

  pub too_many : max_alternates < length cs → false ≡ one_fits max_alternates whole
  unfolding one_fits few_once
  too_many h = sym (rw (lt-leb (length cs) max_alternates h) (none_of (leb 1 (length cs)) (is_lawful whole)))
    where
      none_of : (a b : Bool) → (a && (b && false)) ≡ false
      none_of false b = refl
      none_of true false = refl
      none_of true true = refl

  pub few_are : {f n o : Bool} → line_fits (request_in ws ps r) ≡ true → length cs ≤ max_alternates → f ≡ all_fit whole.key cs → n ≡ no_repeat (connections_of cs)
      → o ≡ owner_among (owner_of r.owner) (connections_of cs) → (((f && n) && o) && ltb 0 (length cs)) ≡ one_fits max_alternates whole
  unfolding few_once
  few_are {f} {n} {o} e h d a b =
      rw (d, a, b) (moved (all_fit whole.key cs) (no_repeat (connections_of cs)) (owner_among (owner_of r.owner) (connections_of cs)) (leb 1 (length cs)) _ _ e
      (le-leb (length cs) max_alternates h) ∙ sym one_is)
    where
      moved : (f n o a x y : Bool) → x ≡ true → y ≡ true → (((f && n) && o) && a) ≡ (a && (((f && o) && x) && (y && n)))
      moved f n o a true true e d = shuffled f n o a
        where
          shuffled : (f n o a : Bool) → (((f && n) && o) && a) ≡ (a && (((f && o) && true) && n))
          shuffled true true true true = refl
          shuffled true true true false = refl
          shuffled true true false true = refl
          shuffled true true false false = refl
          shuffled true false true true = refl
          shuffled true false true false = refl
          shuffled true false false true = refl
          shuffled true false false false = refl
          shuffled false n o true = refl
          shuffled false n o false = refl
      moved f n o a false y e d = never e
      moved f n o a true false e d = never d

-- ---- the answer

module _ {b : List ℕ} {from : ℕ} {ps : List ℕ} {r : line-request.Request} {f : Bool} (t : LineFits ps r f) where
  pub judged_line : f ≡ false → Judged b from ps r None from
  judged_line e = record {
    on = omega arith;
    lawful = tt;
    unlawful = λ d ws q y l. sym (bad-line ws ps r l q.candidates (sym (t.is ws l) ∙ e));
  }

  module _ {w w' : List ℕ} {end : ℕ} where
    pub judged_many : Gathers b from (key_in r.key) 0 w w' None end → Judged b from ps r None end
    judged_many a = record {
      on = a.on;
      lawful = tt;
      unlawful = λ d ws q y l. sym (too_many ws ps r l q.candidates (omega (arith, a.many refl q y)));
    }

    module _ {g : Gathered} (a : Gathers b from (key_in r.key) 0 w w' (Some g) end) {n o : Bool} (e : f ≡ true) (once : n ≡ no_repeat (take g.count w'))
        (owner : o ≡ owner_among (owner_of r.owner) (take g.count w')) where
      one_fit : (ws : List ℕ) (q : Rest) → Body b from q → RequestListed (request_in ws ps r)
          → (((g.fit && n) && o) && ltb 0 g.count) ≡ one_fits max_alternates (with_candidates q.candidates (request_in ws ps r))
      one_fit ws q y l =
          let v = a.all.whole q y in
          let z : g.count ≡ length q.candidates = omega (arith, v.count) in
          ap (λ (x : ℕ). ((g.fit && n) && o) && ltb 0 x) z
          ∙ few_are ws ps r l q.candidates (sym (t.is ws l) ∙ e) (omega (arith, v.count, a.all.bound)) v.fit (once ∙ ap no_repeat v.connections)
          (owner ∙ ap (owner_among (owner_of r.owner)) v.connections)

      judged-unfit : (((g.fit && n) && o) && ltb 0 g.count) ≡ false → Judged b from ps r None end
      judged-unfit d = record { on = a.on; lawful = tt; unlawful = λ z ws q y l. sym (one_fit ws q y l) ∙ d }

      judged_fit : (((g.fit && n) && o) && ltb 0 g.count) ≡ true → Judged b from ps r (Some g.count) end
      judged_fit d = record {
        on = a.on;
        lawful = record {
          bound = a.all.bound;
          is = λ ws q y l. sym (one_fit ws q y l) ∙ d;
          count = λ q y. omega (arith, (a.all.whole q y).count);
          body = λ q y. (a.all.whole q y).body;
        };
        unlawful = λ z. never (sym z);
      }

      pub judged-by : {k : Maybe ℕ} → k ≡ then_some (((g.fit && n) && o) && ltb 0 g.count) g.count → Judged b from ps r k end
      judged-by e = rw e (elim (test (((g.fit && n) && o) && ltb 0 g.count)) [
        | inl t ↦ rw t (judged_fit t)
        | inr t ↦ rw t (judged-unfit t)
      ])
