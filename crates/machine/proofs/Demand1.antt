-- Demand 1: the refusal of every call is 0, or the number of the first of the table's causes that applies.
use Prim.Native.Nat.{ℕ, suc, ◌≤◌, ◌<◌}
use mathlib.Core.Path.{◌≡◌, refl, sym, ap, ◌∙◌, subst}
use mathlib.Core.Logic.{◌⊎◌, inl, inr}
use mathlib.Core.Bool.{Bool, true, false, not, ◌&&◌, ◌||◌}
use mathlib.Core.List.{List, [], ◌∷◌}
use mathlib.Core.Option.{Option, none, some}
use native.Mathlib.Omega.{arith}
use lib.Dec.{ltb, leb, eqb}
use lib.ListN.{length}
use borrow.Author.Tests.{ltb-true, ltb-false, leb-true, leb-false, eqb-true, eqb-false, eq-eqb, ne_eqb, not-true}
use Rattle.machine.specs.Limits.{need, max_announcements, max_places, max_parents, max_asked_hashes, latest_clock}
use Rattle.machine.specs.State.{State}
use Rattle.machine.specs.Table.{places_held}
use Rattle.machine.specs.Claim.{elem}
use Rattle.machine.specs.Owners.{ascending}
use Rattle.machine.specs.Call.{Ask, Role, AsSolicitation, AsSweep, AsOther, role_of, place_taken, Call, Open, On, Named, named, any_late, takes_place, wrong_hashes, late, sizes_taken}
use Rattle.machine.specs.Call.{opening_refusal, ask_refusal, refusal, Restore, restore_refusal}
use Rattle.machine.specs.Step.{step_if}
use Rattle.machine.specs.Demand1.{Any, WrongSizes, WouldSolicit, OpeningCause, short-store, wrong-sizes, AskCause, unsound-store, connection_0, late-clock, many-parents, Ascending}
use Rattle.machine.specs.Demand1.{WrongHashes, wrong-hashes, short-buffer, no_place, Cause, tested, turn, Sooner, FirstCause, carried, refused_as, Demand1, Lists, ReadingCause, unreadable}
use Rattle.machine.specs.Demand1.{unsound-listing, short-receiver, tested_reading}
use Rattle.machine.proofs.Tests.{test, never, and_left, and_right, order}
use Rattle.machine.specs.Sound.{Sound}
use Rattle.machine.specs.Listing.{read_listing}
use Rattle.machine.specs.SoundTest.{is_sound}
use Rattle.machine.proofs.RoundTrips.{never_some}
use Rattle.machine.proofs.Listings.{listed_read, read_listed, read-listing}
use Rattle.machine.proofs.SoundTest.{sound-passes, passes-sound}

-- ---- a test and what it decides

record Decides (b : Bool) (P : Type 0) : Type 0 where
  holds : b ≡ true → P
  fails : b ≡ false → P → ⊥

either_one : (a b : Bool) {P Q : Type 0} → Decides a P → Decides b Q → Decides (a || b) (P ⊎ Q)
either_one true b p q = record { holds = λ e. inl (p.holds refl); fails = λ e. never (sym e) }
either_one false b p q = record { holds = λ e. inr (q.holds e); fails = λ e z. elim z [ inl x ↦ p.fails refl x | inr x ↦ q.fails e x ] }

both : (a b : Bool) {P Q : Type 0} → Decides a P → Decides b Q → Decides (a && b) (P × Q)
both true b p q = record { holds = λ e. (p.holds refl, q.holds e); fails = λ e z. q.fails e z.1 }
both false b p q = record { holds = λ e. never e; fails = λ e z. p.fails refl z.0 }

less : (m n : ℕ) → Decides (ltb m n) (m < n)
less m n = record { holds = ltb-true m n; fails = λ e p. omega (arith, ltb-false m n e) }

at_most : (m n : ℕ) → Decides (leb m n) (m ≤ n)
at_most m n = record { holds = leb-true m n; fails = λ e p. omega (arith, leb-false m n e) }

any_zero : (l : List ℕ) → Decides (elem 0 l) (Any (λ c. c ≡ 0) l)
unfolding elem
any_zero [] = record { holds = λ e. never e; fails = λ e p. p }
any_zero (n ∷ l) = either_one (eqb n 0) (elem 0 l) (record { holds = eqb-true n 0; fails = eqb-false n 0 }) (any_zero l)

any-late : (l : List ℕ) → Decides (any_late l) (Any (λ now. latest_clock < now) l)
unfolding any_late
any-late [] = record { holds = λ e. never e; fails = λ e p. p }
any-late (n ∷ l) = either_one (ltb latest_clock n) (any_late l) (less latest_clock n) (any-late l)

not_it : (b : Bool) {P : Type 0} → Decides b P → Decides (not b) (P → ⊥)
not_it true p = record { holds = λ e. never e; fails = λ e n. n (p.holds refl) }
not_it false p = record { holds = λ e. p.fails refl; fails = λ e. never (sym e) }

rising : (l : List ℕ) → Decides (ascending l) (Ascending l)
unfolding ascending
rising [] = record { holds = λ e. tt; fails = λ e. never (sym e) }
rising (h ∷ []) = record { holds = λ e. tt; fails = λ e. never (sym e) }
rising (h ∷ (g ∷ l)) = both (ltb h g) (ascending (g ∷ l)) (less h g) (rising (g ∷ l))

wrong : (l : List ℕ) → Decides (wrong_hashes l) (WrongHashes l)
wrong l = either_one (ltb max_asked_hashes (length l)) (not (ascending l)) (less max_asked_hashes (length l)) (not_it (ascending l) (rising l))

solicits : (r : Role) (s : State) → Decides (place_taken r s) (WouldSolicit r s)
solicits (AsSolicitation n h hs now) s = record { holds = λ e. e; fails = λ e p. never (sym e ∙ p) }
solicits AsSweep s = record { holds = λ e. never e; fails = λ e p. p }
solicits AsOther s = record { holds = λ e. never e; fails = λ e p. p }

-- ---- a verdict

-- what is known of a refusal: it is 0 and no cause applies, or it is the first cause's number
record Refuses (n : ℕ) (sound : Bool) (s : State) (c : Call) (r : ℕ) : Type 0 where
  number : refusal n sound c s ≡ r
  some_number : 0 < r
  cause : FirstCause n sound s c r

abbrev Verdict : ℕ → Bool → State → Call → Type 0
Verdict n sound s c = ((refusal n sound c s ≡ 0) × ((r : ℕ) → Cause n sound s c r → ⊥)) ⊎ ((r : ℕ) × Refuses n sound s c r)

-- ---- calls on a sound store: 3 to 8 in turn

not-false : (b : Bool) → not b ≡ false → b ≡ false → ⊥
not-false b e d = let z : ◌≡◌ {A = Bool} true false = sym (ap not d) ∙ e in let y : ◌≡◌ {A = ℕ} 0 1 = cc in omega arith

module _ (n : ℕ) (sound : Bool) (s : State) (a : Ask) where
  abbrev w : Named
  w = named a s

  -- the tests 4 to 8
  abbrev test_4 : Bool
  test_4 = elem 0 w.connections

  abbrev test_5 : Bool
  test_5 = any_late w.clocks

  abbrev test_6 : Bool
  test_6 = ltb max_parents w.parents

  abbrev test_7 : Bool
  test_7 = ltb (length w.buffer) w.needs

  abbrev test_8 : Bool
  test_8 = place_taken (role_of a) s && leb s.places (places_held s.table)

  decides_8 : Decides test_8 (WouldSolicit (role_of a) s × (s.places ≤ places_held s.table))
  decides_8 = both (place_taken (role_of a) s) (leb s.places (places_held s.table)) (solicits (role_of a) s) (at_most s.places (places_held s.table))

  abbrev test_13 : Bool
  test_13 = wrong_hashes w.hashes

  -- a cause whose turn comes before the p-th has been tested
  none_below : (p : ℕ) → (0 < p → not sound ≡ false) → (1 < p → test_4 ≡ false) → (2 < p → test_5 ≡ false) → (3 < p → test_6 ≡ false) → (4 < p → test_13 ≡ false) → (5 < p → test_7 ≡ false)
      → (6 < p → test_8 ≡ false) → (i : ℕ) → turn i tested < p → AskCause sound s a i → ⊥
  none_below p e₃ e₄ e₅ e₆ e₁₃ e₇ e₈ i h (unsound-store e q) = not-false sound (e₃ (rw e at h)) q
  none_below p e₃ e₄ e₅ e₆ e₁₃ e₇ e₈ i h (connection_0 e q) = (any_zero w.connections).fails (e₄ (rw e at h)) q
  none_below p e₃ e₄ e₅ e₆ e₁₃ e₇ e₈ i h (late-clock e q) = (any-late w.clocks).fails (e₅ (rw e at h)) q
  none_below p e₃ e₄ e₅ e₆ e₁₃ e₇ e₈ i h (many-parents e q) = (less max_parents w.parents).fails (e₆ (rw e at h)) q
  none_below p e₃ e₄ e₅ e₆ e₁₃ e₇ e₈ i h (wrong-hashes e q) = (wrong w.hashes).fails (e₁₃ (rw e at h)) q
  none_below p e₃ e₄ e₅ e₆ e₁₃ e₇ e₈ i h (short-buffer e q) = (less (length w.buffer) w.needs).fails (e₇ (rw e at h)) q
  none_below p e₃ e₄ e₅ e₆ e₁₃ e₇ e₈ i h (no_place e q v) = decides_8.fails (e₈ (rw e at h)) (q, v)

  cause-tested : (i : ℕ) → AskCause sound s a i → turn i tested < 7
  cause-tested i (unsound-store e p) = rw e (omega arith)
  cause-tested i (connection_0 e p) = rw e (omega arith)
  cause-tested i (late-clock e p) = rw e (omega arith)
  cause-tested i (many-parents e p) = rw e (omega arith)
  cause-tested i (wrong-hashes e p) = rw e (omega arith)
  cause-tested i (short-buffer e p) = rw e (omega arith)
  cause-tested i (no_place e p q) = rw e (omega arith)

  refused_by : (r : ℕ) → refusal n sound (On a) s ≡ r → 0 < r → AskCause sound s a r → ((i : ℕ) → turn i tested < turn r tested → AskCause sound s a i → ⊥) → Verdict n sound s (On a)
  refused_by r e h c k = inr (r, record { number = e; some_number = h; cause = record { applies = c; none_sooner = k } })

  in-turn : Verdict n sound s (On a)
  unfolding refusal ask_refusal takes_place late
  in-turn =
      elim (test (not sound)) [
        | inl e₃ ↦
            refused_by 3 (rw e₃) (omega arith) (unsound-store refl (not-true sound e₃))
            (none_below 0 (λ h. absurd (omega arith)) (λ h. absurd (omega arith)) (λ h. absurd (omega arith)) (λ h. absurd (omega arith))
            (λ h. absurd (omega arith)) (λ h. absurd (omega arith)) (λ h. absurd (omega arith)))
        | inr e₃ ↦ elim (test test_4) [
          | inl e₄ ↦
              refused_by 4 (rw (e₃, e₄)) (omega arith) (connection_0 refl ((any_zero w.connections).holds e₄))
              (none_below 1 (λ h. e₃) (λ h. absurd (omega arith)) (λ h. absurd (omega arith)) (λ h. absurd (omega arith)) (λ h. absurd (omega arith))
              (λ h. absurd (omega arith)) (λ h. absurd (omega arith)))
          | inr e₄ ↦ elim (test test_5) [
            | inl e₅ ↦
                refused_by 5 (rw (e₃, e₄, e₅)) (omega arith) (late-clock refl ((any-late w.clocks).holds e₅))
                (none_below 2 (λ h. e₃) (λ h. e₄) (λ h. absurd (omega arith)) (λ h. absurd (omega arith)) (λ h. absurd (omega arith)) (λ h. absurd (omega arith)) (λ h. absurd (omega arith)))
            | inr e₅ ↦ elim (test test_6) [
              | inl e₆ ↦
                  refused_by 6 (rw (e₃, e₄, e₅, e₆)) (omega arith) (many-parents refl (ltb-true max_parents w.parents e₆))
                  (none_below 3 (λ h. e₃) (λ h. e₄) (λ h. e₅) (λ h. absurd (omega arith)) (λ h. absurd (omega arith)) (λ h. absurd (omega arith)) (λ h. absurd (omega arith)))
              | inr e₆ ↦ elim (test test_13) [
                | inl e₁₃ ↦
                    refused_by 13 (rw (e₃, e₄, e₅, e₆, e₁₃)) (omega arith) (wrong-hashes refl ((wrong w.hashes).holds e₁₃))
                    (none_below 4 (λ h. e₃) (λ h. e₄) (λ h. e₅) (λ h. e₆) (λ h. absurd (omega arith)) (λ h. absurd (omega arith)) (λ h. absurd (omega arith)))
                | inr e₁₃ ↦ elim (test test_7) [
                  | inl e₇ ↦
                      refused_by 7 (rw (e₃, e₄, e₅, e₆, e₁₃, e₇)) (omega arith) (short-buffer refl (ltb-true (length w.buffer) w.needs e₇))
                      (none_below 5 (λ h. e₃) (λ h. e₄) (λ h. e₅) (λ h. e₆) (λ h. e₁₃) (λ h. absurd (omega arith)) (λ h. absurd (omega arith)))
                  | inr e₇ ↦ elim (test test_8) [
                    | inl e₈ ↦
                        refused_by 8 (rw (e₃, e₄, e₅, e₆, e₁₃, e₇, e₈)) (omega arith) (no_place refl (decides_8.holds e₈).0 (decides_8.holds e₈).1)
                        (none_below 6 (λ h. e₃) (λ h. e₄) (λ h. e₅) (λ h. e₆) (λ h. e₁₃) (λ h. e₇) (λ h. absurd (omega arith)))
                    | inr e₈ ↦ inl (rw (e₃, e₄, e₅, e₆, e₁₃, e₇, e₈), λ i c. none_below 7 (λ h. e₃) (λ h. e₄) (λ h. e₅) (λ h. e₆) (λ h. e₁₃) (λ h. e₇) (λ h. e₈) i (cause-tested i c) c)
                  ]
                ]
              ]
            ]
          ]
        ]
      ]

-- ---- openings: 2, then 1

in_range : (x m : ℕ) → (leb 1 x && leb x m) ≡ true → (x < 1) ⊎ (m < x) → ⊥
in_range x m e (inl h) = omega (arith, leb-true 1 x (and_left (leb 1 x) (leb x m) e))
in_range x m e (inr h) = omega (arith, leb-true x m (and_right (leb 1 x) (leb x m) e))

out_of_range : (x m : ℕ) → (leb 1 x && leb x m) ≡ false → (x < 1) ⊎ (m < x)
out_of_range x m e = elim (test (leb 1 x)) [ inl d ↦ inr (leb-false x m (rw d at e)) | inr d ↦ inl (omega (arith, leb-false 1 x d)) ]

taken-sizes : (L Q : ℕ) → sizes_taken L Q ≡ true → WrongSizes L Q → ⊥
taken-sizes L Q e (inl h) = in_range L max_announcements (and_left (leb 1 L && leb L max_announcements) (leb 1 Q && leb Q max_places) e) h
taken-sizes L Q e (inr h) = in_range Q max_places (and_right (leb 1 L && leb L max_announcements) (leb 1 Q && leb Q max_places) e) h

wrong-ones : (L Q : ℕ) → sizes_taken L Q ≡ false → WrongSizes L Q
wrong-ones L Q e = elim (test (leb 1 L && leb L max_announcements)) [ inl d ↦ inr (out_of_range Q max_places (rw d at e)) | inr d ↦ inl (out_of_range L max_announcements d) ]

module _ (n : ℕ) (sound : Bool) (s : State) (L Q : ℕ) where
  no-opening-cause : sizes_taken L Q ≡ true → ltb n (need L Q) ≡ false → (r : ℕ) → OpeningCause n L Q r → ⊥
  no-opening-cause e d r (short-store z p) = (less n (need L Q)).fails d p
  no-opening-cause e d r (wrong-sizes z p) = taken-sizes L Q e p

  none_before_1 : sizes_taken L Q ≡ true → (i : ℕ) → 1 < i → OpeningCause n L Q i → ⊥
  none_before_1 e i h (short-store z p) = omega arith
  none_before_1 e i h (wrong-sizes z p) = taken-sizes L Q e p

  none_before_2 : (i : ℕ) → 2 < i → OpeningCause n L Q i → ⊥
  none_before_2 i h (short-store z p) = omega arith
  none_before_2 i h (wrong-sizes z p) = omega arith

  opening : Verdict n sound s (Open L Q)
  unfolding refusal opening_refusal
  opening =
      elim (test (sizes_taken L Q)) [
        | inl e ↦ elim (test (ltb n (need L Q))) [
          | inl d ↦ inr (1, record { number = rw (e, d); some_number = omega arith; cause = record { applies = short-store refl (ltb-true n (need L Q) d); none_sooner = none_before_1 e } })
          | inr d ↦ inl (rw (e, d), no-opening-cause e d)
        ]
        | inr e ↦ inr (2, record { number = rw e; some_number = omega arith; cause = record { applies = wrong-sizes refl (wrong-ones L Q e); none_sooner = none_before_2 } })
      ]

-- ---- readings: 11, 12, then 1

-- a text lists one state, and the one that is read
lists_read : (x : List ℕ) (t : State) → Lists x t → read_listing x ≡ some t
lists_read x t l = subst (λ (y : List ℕ). read_listing y ≡ some t) l.1 (listed_read t l.0)

read_lists : (x : List ℕ) (t : State) → read_listing x ≡ some t → Lists x t
read_lists x t e = (read_listed x t e, read-listing x t e)

module _ (n : ℕ) (sound : Bool) (s : State) (x : List ℕ) where
  -- no state is read
  module _ (e : read_listing x ≡ none) where
    none_listed : (t : State) → Lists x t → ⊥
    none_listed t l = never_some (sym e ∙ lists_read x t l)

    none_sooner_11 : (i : ℕ) → turn i tested_reading < turn 11 tested_reading → ReadingCause n x i → ⊥
    none_sooner_11 i h (unreadable z p) = omega (arith, rw z at h)
    none_sooner_11 i h (unsound-listing z t l p) = none_listed t l
    none_sooner_11 i h (short-receiver z t l p) = none_listed t l

    not_read : Verdict n sound s (Restore x)
    unfolding refusal restore_refusal
    not_read = inr (11, record { number = rw e; some_number = omega arith; cause = record { applies = unreadable refl none_listed; none_sooner = none_sooner_11 } })

  -- the state t is
  module _ (t : State) (e : read_listing x ≡ some t) where
    abbrev lists : Lists x t
    lists = read_lists x t e

    the_one : (u : State) → Lists x u → t ≡ u
    the_one u l = let p : some t ≡ some u = sym e ∙ lists_read x u l in cc

    none_sooner_12 : (i : ℕ) → turn i tested_reading < turn 12 tested_reading → ReadingCause n x i → ⊥
    none_sooner_12 i h (unreadable z p) = p t lists
    none_sooner_12 i h (unsound-listing z u l p) = omega (arith, rw z at h)
    none_sooner_12 i h (short-receiver z u l p) = omega (arith, rw z at h)

    none_sooner_1 : Sound t → (i : ℕ) → turn i tested_reading < turn 1 tested_reading → ReadingCause n x i → ⊥
    none_sooner_1 g i h (unreadable z p) = p t lists
    none_sooner_1 g i h (unsound-listing z u l p) = p (subst Sound (the_one u l) g)
    none_sooner_1 g i h (short-receiver z u l p) = omega (arith, rw z at h)

    no-reading-cause : Sound t → need t.limit t.places ≤ n → (i : ℕ) → ReadingCause n x i → ⊥
    no-reading-cause g m i (unreadable z p) = p t lists
    no-reading-cause g m i (unsound-listing z u l p) = p (subst Sound (the_one u l) g)
    no-reading-cause g m i (short-receiver z u l p) = omega (arith, m, subst (λ (v : State). n < need v.limit v.places) (sym (the_one u l)) p)

    is_read : Verdict n sound s (Restore x)
    unfolding refusal restore_refusal
    is_read = elim (test (is_sound t)) [
      | inl d ↦ let g = passes-sound t d in elim (test (ltb n (need t.limit t.places))) [
        | inl m ↦ inr (
          1,
          record {
            number = rw (e, d, m);
            some_number = omega arith;
            cause = record { applies = short-receiver refl t lists (ltb-true n (need t.limit t.places) m); none_sooner = none_sooner_1 g };
          },
        )
        | inr m ↦ inl (rw (e, d, m), no-reading-cause g (ltb-false n (need t.limit t.places) m))
      ]
      | inr d ↦ inr (
        12,
        record {
          number = rw (e, d);
          some_number = omega arith;
          cause = record { applies = unsound-listing refl t lists (λ g. never (sym d ∙ sound-passes t g)); none_sooner = none_sooner_12 };
        },
      )
    ]

  reading : Verdict n sound s (Restore x)
  reading = go (read_listing x) refl
    where
      go : (o : Option State) → read_listing x ≡ o → Verdict n sound s (Restore x)
      go none e = not_read e
      go (some t) e = is_read t e

reading-tested : (n : ℕ) (x : List ℕ) (i : ℕ) → ReadingCause n x i → turn i tested_reading < length tested_reading
reading-tested n x i (unreadable z p) = rw z (omega arith)
reading-tested n x i (unsound-listing z t l p) = rw z (omega arith)
reading-tested n x i (short-receiver z t l p) = rw z (omega arith)

-- ---- every call

verdict : (n : ℕ) (sound : Bool) (s : State) (c : Call) → Verdict n sound s c
verdict n sound s (Open L Q) = opening n sound s L Q
verdict n sound s (Restore x) = reading n sound s x
verdict n sound s (On a) = in-turn n sound s a

-- a number that stands in a list has a place of its own
turn_one : (i j : ℕ) (l : List ℕ) → turn i l ≡ turn j l → turn i l < length l → i ≡ j
turn_one i j [] e h = absurd (omega arith)
turn_one i j (n ∷ l) e h =
    elim (test (eqb i n)) [
      | inl x ↦ elim (test (eqb j n)) [ inl y ↦ eqb-true i n x ∙ sym (eqb-true j n y) | inr y ↦ absurd (omega (arith, rw (x, y) at e)) ]
      | inr x ↦ elim (test (eqb j n)) [ inl y ↦ absurd (omega (arith, rw (x, y) at e)) | inr y ↦ turn_one i j l (omega (arith, rw (x, y) at e)) (omega (arith, rw x at h)) ]
    ]

sooner_one : (n : ℕ) (sound : Bool) (s : State) (c : Call) (i j : ℕ) → Cause n sound s c i → (Sooner c i j → ⊥) → (Sooner c j i → ⊥) → i ≡ j
sooner_one n sound s (Open L Q) i j c p q = elim (order i j) [ inl h ↦ absurd (q h) | inr h ↦ elim h [ inl e ↦ e | inr g ↦ absurd (p g) ] ]
sooner_one n sound s (Restore x) i j c p q =
    elim (order (turn i tested_reading) (turn j tested_reading)) [
      | inl h ↦ absurd (p h)
      | inr h ↦ elim h [ inl e ↦ turn_one i j tested_reading e (reading-tested n x i c) | inr g ↦ absurd (q g) ]
    ]
sooner_one n sound s (On a) i j c p q =
    elim (order (turn i tested) (turn j tested)) [ inl h ↦ absurd (p h) | inr h ↦ elim h [ inl e ↦ turn_one i j tested e (cause-tested n sound s a i c) | inr g ↦ absurd (q g) ] ]

module _ (n : ℕ) (sound : Bool) (c : Call) (s : State) where
  -- there is one first cause
  first_one : {i j : ℕ} → FirstCause n sound s c i → FirstCause n sound s c j → i ≡ j
  first_one {i} {j} a b = sooner_one n sound s c i j a.applies (λ h. b.none_sooner i h a.applies) (λ h. a.none_sooner j h b.applies)

  done : refusal n sound c s ≡ 0 → step_if n sound c s ≡ carried c s
  unfolding step_if
  done e = rw (eq-eqb (refusal n sound c s) 0 e)

  turned_away : {r : ℕ} → refusal n sound c s ≡ r → 0 < r → step_if n sound c s ≡ refused_as r c s
  unfolding step_if
  turned_away {r} e h = rw (ne_eqb (refusal n sound c s) 0 (λ z. omega arith)) (ap (λ (i : ℕ). refused_as i c s) e)

  pub demand_1 : Demand1 n sound c s
  demand_1 = record {
    within = λ f. elim (verdict n sound s c) [ inl v ↦ (v.0, done v.0) | inr v ↦ absurd (f v.0 v.1.cause.applies) ];
    beyond = λ r f. elim (verdict n sound s c) [
      | inl v ↦ absurd (v.1 r f.applies)
      | inr v ↦ let e = v.1.number ∙ first_one v.1.cause f in let h = v.1.some_number in (e, turned_away e (omega (arith, v.1.some_number, v.1.number)))
    ];
    either = elim (verdict n sound s c) [ inl v ↦ inl v.1 | inr v ↦ inr (v.0, v.1.cause) ];
  }
