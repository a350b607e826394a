-- One record more behind the others: a row, a place and what is then stored in it.
use Prim.Native.Nat.{ℕ, ◌+◌, ◌<◌}
use mathlib.Core.Path.{◌≡◌, sym, ap, subst, ◌∙◌}
use mathlib.Core.List.{List, [], ◌∷◌, ◌++◌, append-nil}
use native.Mathlib.Omega.{arith}
use lib.ListN.{length, get_or, set, length-append}
use lib.Seq.{set_at, get_or_at}
use Rattle.regions.specs.declared.Row.{Row}
use Rattle.regions.specs.Regions.{insert_at}
use Rattle.places.specs.Places.{Place, with_combined, with_wtxids, with_parents}
use Rattle.store.specs.Flat.{Flat}
use Rattle.store.specs.Image.{Shows}
use Rattle.store.specs.Shown.{places_in, held_places_in, Sized, Shown, with_rows, with_places, Turns}
use Rattle.store.proofs.Frame.{sizes}
use Rattle.store.proofs.RowsAt.{insert_seam}
use Rattle.package_stages.specs.Records.{NoneListed, ListedIn}
use Rattle.restoring.specs.Given.{Appends}

-- put in at the end
insert_end : {A : Type 0} (l : List A) (i : ℕ) (x : A) → i ≡ length l → insert_at i x l ≡ l ++ (x ∷ [])
insert_end l i x e =
    ap (λ (j : ℕ). insert_at j x l) e ∙ ap (insert_at (length l) x) (sym (append-nil l)) ∙ insert_seam l x []

pub row-added : {b b' : List ℕ} {n : ℕ} {x : Row} (r : Row) → x ≡ r → ((f : Flat) → Shows b f → n ≡ length f.rows) → Turns b b' (λ f. with_rows (insert_at n x f.rows) f)
    → Turns b b' (λ f. with_rows (f.rows ++ (r ∷ [])) f)
row-added {b} {b'} {n} r x e turn f h =
    subst (λ (rs : List Row). Shows b' (with_rows rs f)) (ap (λ (y : Row). insert_at n y f.rows) x ∙ insert_end f.rows n r (e f h)) (turn f h)

-- ---- a place

pub place_opened : {b b' : List ℕ} {n : ℕ} (p : Place) → ((f : Flat) → Shows b f → n ≡ length f.places) → Turns b b' (λ f. with_places (insert_at n p f.places) f) → Appends b b' p
place_opened {b} {b'} {n} p e turn f h = subst (λ (ps : List Place). Shows b' (with_places ps f)) (insert_end f.places n p (e f h)) (turn f h)

-- bytes b, with room for a place; b₁ have the place p behind the others, the n-th
module _ {b b₁ : List ℕ} {n : ℕ} (z : Shown b) (room : held_places_in b < places_in b) (e : (f : Flat) → Shows b f → n ≡ length f.places) {p : Place} (a : Appends b b₁ p) where
  abbrev flat : Flat
  flat = with_places (z.flat.places ++ (p ∷ [])) z.flat

  pub there : Shows b₁ flat
  there = a z.flat z.shows

  longer : length (z.flat.places ++ (p ∷ [])) ≡ length z.flat.places + 1
  longer = length-append z.flat.places (p ∷ [])

  pub last_sized : Sized flat
  last_sized =
      let y = z.sized in
      let x = z.sizes in
      record { limit = y.limit; places = y.places; rows_few = y.rows_few; conns_few = y.conns_few; places_few = omega (arith, longer, room, x.places, x.held-places) }

  abbrev pub last_shown : Shown b₁
  last_shown = record { flat = flat; shows = there; sizes = sizes there; sized = last_sized; light = z.light }

  pub last_inside : n < held_places_in b₁
  last_inside = let x = sizes there in omega (arith, longer, x.held-places, e z.flat z.shows)

  is_last : (d : Place) → get_or (z.flat.places ++ (p ∷ [])) n d ≡ p
  is_last d = get_or_at z.flat.places p [] d n (sym (e z.flat z.shows))

  pub last_bare : p.wtxids ≡ [] → NoneListed b₁ n (λ q. q.wtxids)
  last_bare g = record { is_shown = last_shown; inside = last_inside; none_yet = λ d. ap (λ (q : Place). q.wtxids) (is_last d) ∙ g }

  pub last_orphan : p.parents ≡ [] → NoneListed b₁ n (λ q. q.parents)
  last_orphan g = record { is_shown = last_shown; inside = last_inside; none_yet = λ d. ap (λ (q : Place). q.parents) (is_last d) ∙ g }

-- what is stored in the last place
module _ {b b₁ b₂ : List ℕ} {n : ℕ} (e : (f : Flat) → Shows b f → n ≡ length f.places) {p : Place} (a : Appends b b₁ p) where
  changed : (g : Place → Place) (d : Place)
      → ((f : Flat) → get_or f.places n d ≡ p → Shows b₁ f → Shows b₂ (with_places (set f.places n (g (get_or f.places n d))) f))
      → Appends b b₂ (g p)
  changed g d turn f h =
      let ps = f.places in
      let last : get_or (ps ++ (p ∷ [])) n d ≡ p = get_or_at ps p [] d n (sym (e f h)) in
      let y = turn (with_places (ps ++ (p ∷ [])) f) last (a f h) in
      subst (λ (qs : List Place). Shows b₂ (with_places qs f)) (ap (λ (q : Place). set (ps ++ (p ∷ [])) n (g q)) last ∙ set_at ps p [] (g p) n (sym (e f h))) y

  pub last_wtxids : (hs : List ℕ) → p.wtxids ≡ [] → ListedIn b₁ b₂ n (λ q. q.wtxids) with_wtxids hs → Appends b b₂ (with_wtxids hs p)
  last_wtxids hs g turn = changed (with_wtxids hs) p (λ f l h. turn f p (ap (λ (q : Place). q.wtxids) l ∙ g) h)

  pub last_combined : (c : ℕ) → ((d : Place) → Turns b₁ b₂ (λ f. with_places (set f.places n (with_combined c (get_or f.places n d))) f)) → Appends b b₂ (with_combined c p)
  last_combined c turn = changed (with_combined c) p (λ f l h. turn p f h)

  pub last_parents : (hs : List ℕ) → p.parents ≡ [] → ListedIn b₁ b₂ n (λ q. q.parents) with_parents hs → Appends b b₂ (with_parents hs p)
  last_parents hs g turn = changed (with_parents hs) p (λ f l h. turn f p (ap (λ (q : Place). q.parents) l ∙ g) h)
