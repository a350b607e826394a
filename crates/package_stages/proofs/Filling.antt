-- A list of a place, its hashes put in one after the other; and one place changed several times.
use Prim.Native.Nat.{ℕ, ◌+◌, ◌≤◌, ◌<◌}
use mathlib.Core.Path.{◌≡◌, refl, sym, ap, subst, ◌∙◌}
use mathlib.Core.List.{List, [], ◌∷◌, ◌++◌}
use native.Mathlib.Numerals.{add-one}
use native.Mathlib.Omega.{arith}
use lib.ListN.{length, take, get_or, set, length-set}
use lib.Seq.{length-take-le, take-suc, set-get_or, set-set, get_or-set_same}
use Rattle.places.specs.declared.Head.{Head}
use Rattle.places.specs.Places.{Place, head_of, with_wtxids, with_parents}
use Rattle.machine.specs.State.{State}
use Rattle.machine.specs.Sound.{Sound}
use Rattle.store.specs.Flat.{Flat, flat_of, rows_of, places_of}
use Rattle.store.specs.FlatSound.{StageFits, PlaceFits}
use Rattle.store.specs.Image.{Shows}
use Rattle.store.specs.Shown.{held_places_in, Shown, Kept, with_places, Turns}
use Rattle.store.proofs.Frame.{sizes, shown}
use Rattle.store.proofs.Missing.{each_at}
use Rattle.store.proofs.ToFlat.{flat_sound}
use Rattle.requests.proofs.Keeping.{sized_of, light_of}
use Rattle.package_stages.specs.Records.{PushedIn, NoneListed, ListedIn}
use Rattle.package_stages.proofs.Seeking.{head-stage}

-- as many places as before
places-shown : {b b' : List ℕ} (s : Shown b) {ps : List Place} → length ps ≡ length s.flat.places → Shows b' (with_places ps s.flat) → Shown b'
places-shown s e h =
    let z = s.sized in
    shown h (record { limit = z.limit; places = z.places; rows_few = z.rows_few; conns_few = z.conns_few; places_few = omega arith }) s.light

places_count : {b b' : List ℕ} {f : Flat} {ps : List Place} → Shows b f → length ps ≡ length f.places → Shows b' (with_places ps f) → held_places_in b' ≡ held_places_in b
places_count h e h' = let x = sizes h in let y = sizes h' in omega arith

-- ---- one place changed

module _ {b b' : List ℕ} (s : Shown b) (i : ℕ) (p : Place) (h : Shows b' (with_places (set s.flat.places i p) s.flat)) where
  set-shown : Shown b'
  set-shown = places-shown s (length-set s.flat.places i p) h

  set-inside : i < held_places_in b → i < held_places_in b'
  set-inside l = let e = places_count s.shows (length-set s.flat.places i p) h in omega arith

-- what a call that changes one place leaves
module _ {b b' : List ℕ} (s : Shown b) (i : ℕ) (g : Place → Place) (d : Place) (turn : Turns b b' (λ f. with_places (set f.places i (g (get_or f.places i d))) f)) where
  pub turned_shown : Shown b'
  turned_shown = set-shown s i _ (turn s.flat s.shows)

  pub turned_inside : i < held_places_in b → i < held_places_in b'
  turned_inside = set-inside s i _ (turn s.flat s.shows)

module _ (with-list : List ℕ → Place → Place) {b b' : List ℕ} {i : ℕ} {list : Place → List ℕ} {hs : List ℕ} (k : NoneListed b i list) (d : Place) (turn : ListedIn b b' i list with-list hs) where
  pub listed-shown : Shown b'
  listed-shown = set-shown k.is_shown i _ (turn k.is_shown.flat d (k.none_yet d) k.is_shown.shows)

  pub listed-inside : i < held_places_in b'
  listed-inside = set-inside k.is_shown i _ (turn k.is_shown.flat d (k.none_yet d) k.is_shown.shows) k.inside

-- a place changed again, and a third time
set_again : (ps : List Place) (i : ℕ) (a d : Place) (g : Place → Place) → i < length ps → set (set ps i a) i (g (get_or (set ps i a) i d)) ≡ set ps i (g a)
set_again ps i a d g l = ap (λ (p : Place). set (set ps i a) i (g p)) (get_or-set_same ps i a d l) ∙ set-set ps i a (g a)

pub set_thrice : {b : List ℕ} (f : Flat) (i : ℕ) (a d : Place) (g k : Place → Place) → i < length f.places
    → Shows b (with_places (set (set (set f.places i a) i (g (get_or (set f.places i a) i d))) i (k (get_or (set (set f.places i a) i (g (get_or (set f.places i a) i d))) i d))) f)
    → Shows b (with_places (set f.places i (k (g a))) f)
set_thrice {b} f i a d g k l h =
    let ps = f.places in
    subst (λ (qs : List Place). Shows b (with_places qs f)) (ap (λ (qs : List Place). set qs i (k (get_or qs i d))) (set_again ps i a d g l) ∙ set_again ps i (g a) d k l) h

-- a place with the flag has no wtxids yet
flag-empty : (st : State) (s : Sound st) (i : ℕ) (d : Place) → i < length (places_of st.table) → (get_or (places_of st.table) i d).stage ≡ 1 → (get_or (places_of st.table) i d).wtxids ≡ []
flag-empty st s i d l e =
    let p = get_or (places_of st.table) i d in
    let f = each_at (PlaceFits (rows_of st.table)) (places_of st.table) i d (flat_sound st s).places-fit l in
    (subst (λ (n : ℕ). StageFits n p) e f.stage).1

pub no-wtxids : {b : List ℕ} {i : ℕ} {x : Head} (k : Kept b) → i < held_places_in b → ((f : Flat) (d : Place) → Shows b f → x ≡ head_of (get_or f.places i d))
    → x.stage ≡ 1 → NoneListed b i (λ p. p.wtxids)
no-wtxids {b} {i} k l reads e =
    let z = sizes k.writes in
    let m : i < length (places_of k.state.table) = omega arith in
    record {
      is_shown = record { flat = flat_of k.state; shows = k.writes; sizes = z; sized = sized_of k.state k.sound; light = light_of k.state k.sound };
      inside = l;
      none_yet = λ d. flag-empty k.state k.sound i d m (sym (head-stage _ (reads (flat_of k.state) d k.writes)) ∙ e);
    }

-- ---- the loop: the first j hashes are in

-- a list of a place, as it is read and as it is changed
pub record Lens (list : Place → List ℕ) (with-list : List ℕ → Place → Place) : Type 0 where
  pub got : (hs : List ℕ) (p : Place) → list (with-list hs p) ≡ hs
  pub again : (hs gs : List ℕ) (p : Place) → with-list hs (with-list gs p) ≡ with-list hs p
  pub same : (p : Place) → with-list (list p) p ≡ p

pub wtxids-lens : Lens (λ p. p.wtxids) with_wtxids
wtxids-lens = record { got = λ hs p. refl; again = λ hs gs p. refl; same = λ p. refl }

pub parents-lens : Lens (λ p. p.parents) with_parents
parents-lens = record { got = λ hs p. refl; again = λ hs gs p. refl; same = λ p. refl }

pub record Filled (b b' : List ℕ) (i : ℕ) (list : Place → List ℕ) (with-list : List ℕ → Place → Place) (hs : List ℕ) (j : ℕ) : Type 0 where
  pub most : j ≤ length hs
  pub long : length b' ≡ length b
  pub turns : ListedIn b b' i list with-list (take j hs)

module _ {list : Place → List ℕ} {with-list : List ℕ → Place → Place} (lens : Lens list with-list) where
  pub filled_none : {b : List ℕ} (i : ℕ) (hs : List ℕ) → Filled b b i list with-list hs 0
  filled_none {b} i hs = record {
    most = omega arith;
    long = refl;
    turns = λ f d e h.
        let p = get_or f.places i d in
        let same : set f.places i (with-list [] p) ≡ f.places =
        ap (λ (l : List ℕ). set f.places i (with-list l p)) (sym e) ∙ ap (set f.places i) (lens.same p) ∙ set-get_or f.places i d in
        subst (λ (ps : List Place). Shows b (with_places ps f)) (sym same) h;
  }

  module _ {b b' : List ℕ} {i : ℕ} {hs : List ℕ} {j : ℕ} (k : NoneListed b i list) (u : Filled b b' i list with-list hs j) where
    pub filled_more : {b'' : List ℕ} {x : ℕ} → j < length hs → x ≡ get_or hs j 0 → length b'' ≡ length b' → PushedIn b' b'' i list with-list j x → Filled b b'' i list with-list hs (j + 1)
    filled_more {b''} {x} l ex n push = record {
      most = omega arith;
      long = n ∙ u.long;
      turns = λ f d e h.
          let ps = f.places in
          let p = get_or ps i d in
          let z = sizes h in
          let inside : i < length ps = omega (arith, k.inside) in
          let a = with-list (take j hs) p in
          let there : get_or (set ps i a) i d ≡ a = get_or-set_same ps i a d inside in
          let listed : list (get_or (set ps i a) i d) ≡ take j hs = ap list there ∙ lens.got (take j hs) p in
          let count : length (take j hs) ≡ j = length-take-le j hs (omega arith) in
          let y = push (with_places (set ps i a) f) d (ap length listed ∙ count) (u.turns f d e h) in
          let longer : take j hs ++ (x ∷ []) ≡ take (j + 1) hs = rw (ex, add-one j) (sym (take-suc hs j 0 l)) in
          let new : set (set ps i a) i (with-list (list (get_or (set ps i a) i d) ++ (x ∷ [])) (get_or (set ps i a) i d)) ≡ set ps i (with-list (take (j + 1) hs) p) =
          ap (λ (gs : List ℕ). set (set ps i a) i (with-list (gs ++ (x ∷ [])) (get_or (set ps i a) i d))) listed
          ∙ ap (λ (w : Place). set (set ps i a) i (with-list (take j hs ++ (x ∷ [])) w)) there ∙ set-set ps i a _
          ∙ ap (set ps i) (lens.again (take j hs ++ (x ∷ [])) (take j hs) p) ∙ ap (λ (w : List ℕ). set ps i (with-list w p)) longer in
          subst (λ (qs : List Place). Shows b'' (with_places qs f)) new y;
    }
