-- What a line's fields say of a row and of a place.
use Prim.Native.Nat.{ℕ, ◌*◌, ◌/◌, ◌≤◌, ◌<◌}
use mathlib.Core.Path.{◌≡◌, refl, sym, ap, subst, ◌∙◌}
use mathlib.Core.Bool.{Bool, true, false, ◌||◌}
use native.Mathlib.Omega.{arith}
use mathlib.Core.List.{List, [], ◌∷◌, ◌++◌, append-nil}
use lib.ListN.{length, take}
use lib.Seq.{length-take-le}
use Rattle.ident.specs.Words.{hash_bytes}
use Rattle.words.specs.Words.{number, recs}
use Rattle.words.proofs.Records.{length-recs, recs-take}
use Rattle.lent_lists.specs.Lists.{hashes_in}
use Rattle.regions.specs.declared.Quad.{Quad}
use Rattle.regions.specs.declared.Row.{Row}
use Rattle.places.specs.Places.{Place, PlaceShort, list_most}
use Rattle.regions.specs.Rows.{quad_number}
use Rattle.regions.proofs.Order.{zero_number}
use Rattle.machine.specs.State.{Request, owner_is}
use Rattle.machine.specs.Typed.{Each}
use Rattle.std.specs.Prelude.{Option as Maybe, Some, None, MatchOption, is_some}
use Rattle.machine.proofs.Tests.{never}
use Rattle.store.specs.Flat.{witness_bit, bits_of, deadline_for, row_of, place_for, places_for}
use Rattle.store.specs.FlatSound.{QuadFits}
use Rattle.store.specs.Image.{Shows}
use Rattle.store.specs.Shown.{places_in, held_places_in, with_places, Turns}
use Rattle.store.proofs.Quads.{quad-number}
use Rattle.listed_lines.specs.declared.parts.Package as parts-package
use Rattle.listed_lines.specs.declared.line.Request as line-request
use Rattle.listed_lines.specs.declared.line.Candidate as line-candidate
use Rattle.listed_lines.specs.Given.{list_room, owner_of, package_of, request_in, candidate_in}
use Rattle.restoring.specs.Given.{Appends, PlaceRoom, stage_for}
use Rattle.package_stages.specs.Changes.{combined_of, wtxids_of}
use Rattle.reading.specs.Given.{hashes_of}

-- ---- the package

no-hashes : (ws : List ℕ) → hashes_of 0 ws ≡ []
unfolding recs
no-hashes ws = refl

-- what is answered of a package, or in its place; `Answers x`: it may be answered of x
module _ (p : Maybe parts-package.Package) where
  pub combined-is : {q : Quad} {Answers : parts-package.Package → Type 0} → ((x : parts-package.Package) → Answers x → q ≡ x.combined)
      → MatchOption p (q ≡ record { w0 = 0; w1 = 0; w2 = 0; w3 = 0 }) Answers → (ws : List ℕ) → quad_number q ≡ combined_of (package_of ws p)
  combined-is f m ws = by p f m
    where
      by : (p : Maybe parts-package.Package) {q : Quad} {Answers : parts-package.Package → Type 0} → ((x : parts-package.Package) → Answers x → q ≡ x.combined)
          → MatchOption p (q ≡ record { w0 = 0; w1 = 0; w2 = 0; w3 = 0 }) Answers → quad_number q ≡ combined_of (package_of ws p)
      by None f e = rw e zero_number
      by (Some x) f a = ap quad_number (f x a)

  pub wtxids-are : {n : ℕ} {Answers : parts-package.Package → Type 0} → ((x : parts-package.Package) → Answers x → n ≡ x.wtxids) → MatchOption p (n ≡ 0) Answers
      → (ws : List ℕ) → hashes_of n ws ≡ wtxids_of (package_of ws p)
  wtxids-are f m ws = by p f m
    where
      by : (p : Maybe parts-package.Package) {n : ℕ} {Answers : parts-package.Package → Type 0} → ((x : parts-package.Package) → Answers x → n ≡ x.wtxids)
          → MatchOption p (n ≡ 0) Answers → hashes_of n ws ≡ wtxids_of (package_of ws p)
      by None f e = rw e (no-hashes ws)
      by (Some x) f a = ap (λ (n : ℕ). hashes_of n ws) (f x a)

-- ---- the row of a candidate

pub row_made : (r : line-request.Request) (c : line-candidate.Candidate) → QuadFits r.key.hash → {o : Bool} {n d : ℕ} → o ≡ owner_is c.connection (owner_of r.owner)
    → d ≡ deadline_for c.connection (owner_of r.owner) → n ≡ bits_of r.key.kind (witness_bit c.kind) c.preferred o r.mark
    → ◌≡◌ {A = Row} (record { hash = r.key.hash; conn = c.connection; ready = c.ready; prio = c.priority; deadline = d; bits = n }) (row_of (request_in [] [] r) (candidate_in c))
unfolding row_of
row_made r c f eo ed e =
    let h = sym (quad-number r.key.hash f) in
    let b = e ∙ ap (λ (x : Bool). bits_of r.key.kind (witness_bit c.kind) c.preferred x r.mark) eo in
    (λ i. record { hash = h i; conn = c.connection; ready = c.ready; prio = c.priority; deadline = ed i; bits = b i })

-- ---- the place of a request

-- what its line says of it
abbrev pub place_of : List ℕ → List ℕ → line-request.Request → Place
place_of ws ps q = record {
  hash = quad_number q.key.hash;
  combined = combined_of (package_of ws q.packed);
  stage = stage_for (package_of ws q.packed);
  wtxids = wtxids_of (package_of ws q.packed);
  parents = hashes_of q.parents ps;
}

place_some : (r : Request) (i : Bool) (ws : List ℕ) (p : Maybe parts-package.Package) → (i || is_some p) ≡ true → place_for r i (package_of ws p) ≡ record {
  hash = r.key.hash;
  combined = combined_of (package_of ws p);
  stage = stage_for (package_of ws p);
  wtxids = wtxids_of (package_of ws p);
  parents = r.parents;
} ∷ []
place_some r true ws (Some p) g = refl
place_some r true ws None g = refl
place_some r false ws (Some p) g = refl
place_some r false ws None g = never g

place_none : (r : Request) (i : Bool) (ws : List ℕ) (p : Maybe parts-package.Package) → (i || is_some p) ≡ false → place_for r i (package_of ws p) ≡ []
place_none r true ws p g = never (sym g)
place_none r false ws (Some p) g = never (sym g)
place_none r false ws None g = refl

module _ (ws ps : List ℕ) (q : line-request.Request) where
  pub place_is : (q.info || is_some q.packed) ≡ true → places_for (request_in ws ps q) ≡ place_of ws ps q ∷ []
  unfolding places_for
  place_is g = place_some (request_in ws ps q) q.info ws q.packed g

  pub place_not : (q.info || is_some q.packed) ≡ false → places_for (request_in ws ps q) ≡ []
  unfolding places_for
  place_not g = place_none (request_in ws ps q) q.info ws q.packed g

-- a list at the front of lent bytes
pub front_hashes : (n : ℕ) (ws : List ℕ) → n * 32 ≤ length ws → hashes_in (take (n * 32) ws) ≡ hashes_of n ws
unfolding hashes_in
front_hashes n ws l =
    let m : length (take (n * 32) ws) ≡ n * 32 = length-take-le (n * 32) ws l in
    let k : length (take (n * 32) ws) / hash_bytes ≡ n = omega (arith, m) in
    let s : n * 32 ≡ hash_bytes * n = omega arith in
    ap (λ (j : ℕ). recs hash_bytes (number 256) j (take (n * 32) ws)) k ∙ ap (λ (j : ℕ). recs hash_bytes (number 256) n (take j ws)) s ∙ recs-take hash_bytes (number 256) n ws
    (omega (arith, l))

-- how long the lists are, and that there is room
module _ {b : List ℕ} (ws ps : List ℕ) (q : line-request.Request) (z : PlaceRoom b (request_in ws ps q)) (g : (q.info || is_some q.packed) ≡ true) where
  shorts : Each PlaceShort (place_of ws ps q ∷ [])
  shorts = subst (Each PlaceShort) (place_is ws ps q g) z.short

  pub one_more_lem : held_places_in b < places_in b
  one_more_lem = omega (arith, z.room, ap length (place_is ws ps q g))

  pub few_wtxids : {n : ℕ} → hashes_of n ws ≡ wtxids_of (package_of ws q.packed) → n ≤ list_most
  few_wtxids {n} e = omega (arith, ap length e, length-recs hash_bytes (number 256) n ws, shorts.0.wtxids)

  pub few_parents : q.parents ≤ list_most
  few_parents = omega (arith, length-recs hash_bytes (number 256) q.parents ps, shorts.0.parents)

pub front_few : (n : ℕ) (ws : List ℕ) → n ≤ list_most → list_room ≤ length ws → length (hashes_in (take (n * 32) ws)) ≤ list_most
front_few n ws l m = omega (arith, ap length (front_hashes n ws (omega arith)), length-recs hash_bytes (number 256) n ws)

-- the place behind the others
pub placed : {b b' : List ℕ} (ws ps : List ℕ) (q : line-request.Request) (z : PlaceRoom b (request_in ws ps q))
    (g : (q.info || is_some q.packed) ≡ true) → list_room ≤ length ws → list_room ≤ length ps
    → {x v : ℕ} (n : ℕ) → ((us : List ℕ) → x ≡ combined_of (package_of us q.packed)) → ((us : List ℕ) → v ≡ stage_for (package_of us q.packed))
    → ((us : List ℕ) → hashes_of n us ≡ wtxids_of (package_of us q.packed))
    → Appends b b' (record { hash = quad_number q.key.hash; combined = x; stage = v; wtxids = hashes_in (take (n * 32) ws); parents = hashes_in (take (q.parents * 32) ps) })
    → Turns b b' (λ f. with_places (f.places ++ places_for (request_in ws ps q)) f)
placed {b} {b'} ws ps q z g lw lp {x} {v} n ec ev en a f h =
    let mw = few_wtxids ws ps q z g (en ws) in
    let mp = few_parents ws ps q z g in
    let hw = front_hashes n ws (omega arith) ∙ en ws in
    let hp = front_hashes q.parents ps (omega arith) in
    let same : ◌≡◌ {A = Place} (record { hash = quad_number q.key.hash; combined = x; stage = v; wtxids = hashes_in (take (n * 32) ws); parents = hashes_in (take (q.parents * 32) ps) })
    (place_of ws ps q) = (λ i. record { hash = quad_number q.key.hash; combined = ec ws i; stage = ev ws i; wtxids = hw i; parents = hp i }) in
    subst (λ (x : List Place). Shows b' (with_places (f.places ++ x) f)) (ap (λ (p : Place). p ∷ []) same ∙ sym (place_is ws ps q g)) (a f h)

-- no place
pub not_placed : {b : List ℕ} (ws ps : List ℕ) (q : line-request.Request) → (q.info || is_some q.packed) ≡ false → Turns b b (λ f. with_places (f.places ++ places_for (request_in ws ps q)) f)
not_placed {b} ws ps q g f h =
    subst (λ (x : List Place). Shows b (with_places x f)) (sym (ap (λ (x : List Place). f.places ++ x) (place_not ws ps q g) ∙ append-nil f.places)) h
