-- The requests one after the other: the test of them all, in one pass.
use Prim.Native.Nat.{ℕ, suc, ◌+◌, ◌≤◌}
use mathlib.Core.Path.{◌≡◌, refl, ap}
use mathlib.Core.Bool.{Bool, true, false, ◌&&◌}
use mathlib.Core.List.{[], ◌∷◌}
use native.Mathlib.Omega.{arith}
use lib.Dec.{ltb, leb}
use lib.ListN.{length}
use borrow.Author.Tests.{leb-true, le-leb}
use Rattle.ident.specs.Number.{top, place}
use Rattle.machine.specs.Limits.{Limits}
use Rattle.machine.specs.State.{Request, Table}
use Rattle.machine.specs.Table.{any, total, count, held, place_in, places_held}
use Rattle.machine.specs.SoundTest.{is_lawful, is_ordered, every, is_filled}
use Rattle.machine.proofs.Tests.{and_left, and_right}
use Rattle.listed_requests.specs.Parts.{uncrowded, one_fits, local_fits, pass_fits}
use Rattle.listed_requests.proofs.Crowds.{all_in}
use Rattle.listed_requests.proofs.Together.{same_truth}

pub and_both : (a b : Bool) → a ≡ true → b ≡ true → (a && b) ≡ true
and_both true b d e = e
and_both false b d e = d

held_more : (r : Request) (t : Table) → held (r ∷ t) ≡ length r.candidates + held t
unfolding total
held_more r t = ap (λ (n : ℕ). n + held t) (all_in true r.candidates refl)

places-more : (r : Request) (t : Table) → places_held (r ∷ t) ≡ place_in r.info r.«package» + places_held t
unfolding total
places-more r t = refl

none_held : (held [] ≡ 0) × (places_held [] ≡ 0)
unfolding total
none_held = (refl, refl)

-- ---- the parts of the test, from lo on, with h announcements and p places before

record Left (m : Limits) (Q lo h p : ℕ) (t : Table) : Type 0 where
  pub ordered : is_ordered lo t ≡ true
  pub filled : every is_filled t ≡ true
  pub lawful : every is_lawful t ≡ true
  pub few : every (uncrowded m.alternates) t ≡ true
  pub held : h + count any t ≤ m.announcements
  pub taken : p + places_held t ≤ Q

module _ (m : Limits) (Q : ℕ) where
  to_pass : (lo h p : ℕ) (t : Table) → Left m Q lo h p t → pass_fits m Q lo h p t ≡ true
  unfolding pass_fits is_ordered every one_fits
  to_pass lo h p [] l = refl
  to_pass lo h p (r ∷ t) l =
      let n = length r.candidates in
      let k = place_in r.info r.«package» in
      let rest = is_ordered (suc (place r.key)) t in
      let low = and_left (leb lo (place r.key)) (ltb r.key.hash top && rest) l.ordered in
      let tail = and_right (leb lo (place r.key)) (ltb r.key.hash top && rest) l.ordered in
      let next = to_pass (suc (place r.key)) (h + n) (p + k) t (record {
        ordered = and_right (ltb r.key.hash top) rest tail;
        filled = and_right (is_filled r) (every is_filled t) l.filled;
        lawful = and_right (is_lawful r) (every is_lawful t) l.lawful;
        few = and_right (uncrowded m.alternates r) (every (uncrowded m.alternates) t) l.few;
        held = omega (arith, l.held, held_more r t);
        taken = omega (arith, l.taken, places-more r t);
      }) in
      and_both _ _ (and_both _ _ (and_both _ _ low (and_left (ltb r.key.hash top) rest tail))
      (and_both _ _ (and_left (is_filled r) (every is_filled t) l.filled) (and_both _ _ (and_left (is_lawful r) (every is_lawful t) l.lawful)
      (and_left (uncrowded m.alternates r) (every (uncrowded m.alternates) t) l.few))))
      (and_both _ _ (and_both _ _ (le-leb (h + n) m.announcements (omega (arith, l.held, held_more r t))) (le-leb (p + k) Q (omega (arith, l.taken, places-more r t)))) next)

  from_pass : (lo h p : ℕ) (t : Table) → h ≤ m.announcements → p ≤ Q → pass_fits m Q lo h p t ≡ true → Left m Q lo h p t
  unfolding pass_fits is_ordered every one_fits
  from_pass lo h p [] a b e = record { ordered = refl; filled = refl; lawful = refl; few = refl; held = omega (arith, none_held.0); taken = omega (arith, none_held.1) }
  from_pass lo h p (r ∷ t) a b e =
      let n = length r.candidates in
      let k = place_in r.info r.«package» in
      let w = leb lo (place r.key) && ltb r.key.hash top in
      let v = is_lawful r && uncrowded m.alternates r in
      let room = leb (h + n) m.announcements && leb (p + k) Q in
      let rest = pass_fits m Q (suc (place r.key)) (h + n) (p + k) t in
      let one = and_left (w && (is_filled r && v)) (room && rest) e in
      let o = and_left w (is_filled r && v) one in
      let f = and_right w (is_filled r && v) one in
      let u = and_right (is_filled r) v f in
      let s = and_left room rest (and_right (w && (is_filled r && v)) (room && rest) e) in
      let x = leb-true (h + n) m.announcements (and_left (leb (h + n) m.announcements) (leb (p + k) Q) s) in
      let y = leb-true (p + k) Q (and_right (leb (h + n) m.announcements) (leb (p + k) Q) s) in
      let z = from_pass (suc (place r.key)) (h + n) (p + k) t x y (and_right room rest (and_right (w && (is_filled r && v)) (room && rest) e)) in
      record {
        ordered = and_both _ _ (and_left (leb lo (place r.key)) (ltb r.key.hash top) o) (and_both _ _ (and_right (leb lo (place r.key)) (ltb r.key.hash top) o) z.ordered);
        filled = and_both _ _ (and_left (is_filled r) v f) z.filled;
        lawful = and_both _ _ (and_left (is_lawful r) (uncrowded m.alternates r) u) z.lawful;
        few = and_both _ _ (and_right (is_lawful r) (uncrowded m.alternates r) u) z.few;
        held = omega (arith, z.held, held_more r t);
        taken = omega (arith, z.taken, places-more r t);
      }

  -- ---- all of them, from the first on

  module _ (t : Table) where
    abbrev shape : Bool
    shape = is_ordered 0 t && (every is_filled t && every is_lawful t)

    abbrev room : Bool
    room = leb (held t) m.announcements && leb (places_held t) Q

    abbrev few : Bool
    few = every (uncrowded m.alternates) t

    to : local_fits m Q t ≡ true → pass_fits m Q 0 0 0 t ≡ true
    unfolding local_fits
    to e =
        let s = and_left shape (few && room) e in
        let r = and_right few room (and_right shape (few && room) e) in
        to_pass 0 0 0 t (record {
          ordered = and_left (is_ordered 0 t) (every is_filled t && every is_lawful t) s;
          filled = and_left (every is_filled t) (every is_lawful t) (and_right (is_ordered 0 t) (every is_filled t && every is_lawful t) s);
          lawful = and_right (every is_filled t) (every is_lawful t) (and_right (is_ordered 0 t) (every is_filled t && every is_lawful t) s);
          few = and_left few room (and_right shape (few && room) e);
          held = omega (arith, leb-true (held t) m.announcements (and_left (leb (held t) m.announcements) (leb (places_held t) Q) r));
          taken = omega (arith, leb-true (places_held t) Q (and_right (leb (held t) m.announcements) (leb (places_held t) Q) r));
        })

    from : pass_fits m Q 0 0 0 t ≡ true → local_fits m Q t ≡ true
    unfolding local_fits
    from e =
        let l = from_pass 0 0 0 t (omega arith) (omega arith) e in
        and_both _ _ (and_both _ _ l.ordered (and_both _ _ l.filled l.lawful))
        (and_both _ _ l.few (and_both _ _ (le-leb (held t) m.announcements (omega (arith, l.held))) (le-leb (places_held t) Q (omega (arith, l.taken)))))

    pub local_is : local_fits m Q t ≡ pass_fits m Q 0 0 0 t
    local_is = same_truth (local_fits m Q t) (pass_fits m Q 0 0 0 t) to from
