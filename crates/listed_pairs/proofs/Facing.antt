-- Txid requests and Wtxid requests gone through together: what is left of the test of the two requests of each hash.
use Prim.Native.Nat.{ℕ, suc, ◌+◌, ◌<◌, ◌≤◌}
use mathlib.Core.Path.{◌≡◌, refl, sym, ap, ◌∙◌}
use mathlib.Core.Bool.{Bool, true, false, ◌&&◌}
use mathlib.Core.List.{[], ◌∷◌, append-nil}
use native.Mathlib.Omega.{arith}
use Rattle.ident.specs.declared.Kind.{Kind}
use Rattle.ident.specs.declared.Kind.TheVariants.{Txid, Wtxid}
use Rattle.ident.specs.Number.{base, top, Key, place, wtxid}
use Rattle.ident.proofs.Places.{is-wtxid}
use Rattle.machine.specs.State.{Request, Table, blank, is_some}
use Rattle.machine.specs.Table.{at}
use Rattle.machine.specs.Sound.{Ordered}
use Rattle.machine.specs.SoundTest.{every}
use Rattle.machine.proofs.At.{at_here, at_there}
use Rattle.machine.proofs.Table.{at_absent}
use Rattle.machine.proofs.Tests.{and_left, and_right}
use Rattle.listed_requests.specs.Parts.{few_once, uncrowded, pair_fits, paired_in, paired, pairs_fit}

-- ---- keys in order

-- the first is not below its own place
pub from_first : {lo : ℕ} (r : Request) (t : Table) → Ordered lo (r ∷ t) → Ordered (place r.key) (r ∷ t)
from_first r t o = (omega arith, o.1, o.2)

-- ---- a request without another

and-false : (x : Bool) → (x && false) ≡ false
and-false true = refl
and-false false = refl

module _ (most : ℕ) where
  alone : (r : Request) (k : Key) → uncrowded most r ≡ true → pair_fits most r (blank k) ≡ true
  unfolding pair_fits
  alone r k e =
      rw (ap (few_once most) (append-nil r.candidates) ∙ e, and-false (is_some r.owner))

  unpaired : (q : Table) (r : Request) (k : Kind) → uncrowded most r ≡ true → at (wtxid r.key.hash) q ≡ blank (wtxid r.key.hash) → paired_in most q k r ≡ true
  unpaired q r Txid u e = ap (pair_fits most r) e ∙ alone r (wtxid r.key.hash) u
  unpaired q r Wtxid u e = refl

  every_more : (p : Request → Bool) (r : Request) (t : Table) → every p (r ∷ t) ≡ (p r && every p t)
  unfolding every
  every_more p r t = refl

  every_none : (p : Request → Bool) → every p [] ≡ true
  unfolding every
  every_none p = refl

  pub first_few : (r : Request) (t : Table) → every (uncrowded most) (r ∷ t) ≡ true → uncrowded most r ≡ true
  first_few r t e = and_left (uncrowded most r) (every (uncrowded most) t) (sym (every_more (uncrowded most) r t) ∙ e)

  pub others_few : (r : Request) (t : Table) → every (uncrowded most) (r ∷ t) ≡ true → every (uncrowded most) t ≡ true
  others_few r t e = and_right (uncrowded most r) (every (uncrowded most) t) (sym (every_more (uncrowded most) r t) ∙ e)

  -- ---- what is left

  -- no Txid request is left
  pub no-txid : (q : Table) (lo : ℕ) (p : Table) → top ≤ lo → Ordered lo p → pairs_fit most q p ≡ true
  no-txid q lo [] h o = every_none (paired most q)
  no-txid q lo (r ∷ p) h o =
      every_more (paired most q) r p
      ∙ ap (λ (k : Kind). paired_in most q k r && pairs_fit most q p) (is-wtxid r.key.kind r.key.hash o.1 (omega (arith, o.0)))
      ∙ no-txid q (suc (place r.key)) p (omega (arith, o.0)) o.2

  -- no Wtxid request is left
  pub no-wtxid : (p : Table) → every (uncrowded most) p ≡ true → pairs_fit most [] p ≡ true
  unfolding at
  no-wtxid [] f = every_none (paired most [])
  no-wtxid (r ∷ p) f =
      every_more (paired most []) r p ∙ ap (λ (x : Bool). x && pairs_fit most [] p) (unpaired [] r r.key.kind (first_few r p f) refl) ∙ no-wtxid p (others_few r p f)

  -- a Wtxid request below all that are left
  pub below_all : (w : Request) (q : Table) (g : ℕ) → place w.key ≡ top + g → (lo : ℕ) (p : Table) → g < lo → Ordered lo p → pairs_fit most (w ∷ q) p ≡ pairs_fit most q p
  below_all w q g e lo [] h o = every_none (paired most (w ∷ q)) ∙ sym (every_none (paired most q))
  below_all w q g e lo (r ∷ p) h o =
      every_more (paired most (w ∷ q)) r p ∙ ap (λ (x : Bool). x && pairs_fit most (w ∷ q) p) (same r.key.kind refl)
      ∙ ap (λ (x : Bool). paired most q r && x) (below_all w q g e (suc (place r.key)) p (omega (arith, o.0)) o.2) ∙ sym (every_more (paired most q) r p)
    where
      same : (k : Kind) → r.key.kind ≡ k → paired_in most (w ∷ q) k r ≡ paired_in most q k r
      same Txid d =
          let z : place r.key ≡ r.key.hash = ap (λ (x : Kind). base x + r.key.hash) d ∙ omega arith in
          ap (pair_fits most r) (at_there (wtxid r.key.hash) w q (λ y. omega (arith, o.0)))
      same Wtxid d = refl

  -- the same Wtxid requests
  pub same_wtxids : (t q p : Table) → ((h : ℕ) → at (wtxid h) t ≡ at (wtxid h) q) → pairs_fit most t p ≡ pairs_fit most q p
  same_wtxids t q [] f = every_none (paired most t) ∙ sym (every_none (paired most q))
  same_wtxids t q (r ∷ p) f =
      every_more (paired most t) r p ∙ ap (λ (x : Bool). x && pairs_fit most t p) (same r.key.kind) ∙ ap (λ (x : Bool). paired most q r && x) (same_wtxids t q p f)
      ∙ sym (every_more (paired most q) r p)
    where
      same : (k : Kind) → paired_in most t k r ≡ paired_in most q k r
      same Txid = ap (pair_fits most r) (f r.key.hash)
      same Wtxid = refl

  module _ (r : Request) (p : Table) (w : Request) (q : Table) (o : Ordered 0 (r ∷ p)) (a : Ordered top (w ∷ q)) (t : r.key.kind ≡ Txid) where
    back_kind : w.key.kind ≡ Wtxid
    back_kind = is-wtxid w.key.kind w.key.hash a.1 a.0

    back_place : place w.key ≡ top + w.key.hash
    back_place = ap (λ (x : Kind). base x + w.key.hash) back_kind

    front_place : place r.key ≡ r.key.hash
    front_place = ap (λ (x : Kind). base x + r.key.hash) t ∙ omega arith

    front_is : pairs_fit most (w ∷ q) (r ∷ p) ≡ (pair_fits most r (at (wtxid r.key.hash) (w ∷ q)) && pairs_fit most (w ∷ q) p)
    front_is = every_more (paired most (w ∷ q)) r p ∙ ap (λ (k : Kind). paired_in most (w ∷ q) k r && pairs_fit most (w ∷ q) p) t

    -- the Txid request has no other
    pub front_first : uncrowded most r ≡ true → r.key.hash < w.key.hash → pairs_fit most (w ∷ q) (r ∷ p) ≡ pairs_fit most (w ∷ q) p
    front_first u h =
        front_is ∙ ap (λ (x : Bool). x && pairs_fit most (w ∷ q) p)
        (ap (pair_fits most r) (at_absent (wtxid r.key.hash) (place w.key) (w ∷ q) (omega (arith, back_place)) (from_first w q a)) ∙ alone r (wtxid r.key.hash) u)

    -- the Wtxid request has no other
    pub back_first : w.key.hash < r.key.hash → pairs_fit most (w ∷ q) (r ∷ p) ≡ pairs_fit most q (r ∷ p)
    back_first h = below_all w q w.key.hash back_place (place r.key) (r ∷ p) (omega (arith, front_place)) (from_first r p o)

    -- they are of one hash
    pub both_first : r.key.hash ≡ w.key.hash → pairs_fit most (w ∷ q) (r ∷ p) ≡ (pair_fits most r w && pairs_fit most q p)
    both_first e =
        front_is ∙ ap (λ (x : Request). pair_fits most r x && pairs_fit most (w ∷ q) p) (at_here (wtxid r.key.hash) w q (omega (arith, back_place)))
        ∙ ap (λ (x : Bool). pair_fits most r w && x) (below_all w q w.key.hash back_place (suc (place r.key)) p (omega (arith, front_place)) o.2)
