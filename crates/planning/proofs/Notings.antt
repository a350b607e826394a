-- The first phase of a plan: the parents noted, bit by bit, place by place.
use Prim.Native.Nat.{ℕ, zero, suc, ◌+◌, ◌-◌, ◌*◌, ◌/◌, ◌%◌, ◌≤◌, ◌<◌}
use mathlib.Core.Path.{◌≡◌, refl, sym, ap, subst, ◌∙◌}
use mathlib.Core.Logic.{inl, inr}
use mathlib.Core.Bool.{true, ◌&&◌}
use mathlib.Core.List.{List, [], ◌∷◌, ◌++◌, append_assoc}
use native.Mathlib.Omega.{arith}
use lib.Dec.{eqb}
use lib.ListN.{length, take, drop, get_or, get_or-map}
use borrow.Author.Tests.{eq-eqb, ne_eqb, eqb-true}
use Rattle.machine.proofs.Tests.{test, never}
use Rattle.ident.specs.Number.{Key, txid}
use Rattle.words.specs.Words.{words}
use Rattle.places.specs.Places.{Place, list_most}
use Rattle.machine.specs.State.{State}
use Rattle.store.specs.Shown.{Kept}
use Rattle.store.proofs.Missing.{each_at}
use Rattle.apart.specs.declared.slots.Note.{Note}
use Rattle.apart.specs.Apart.{Slot, plain, Loaded, NoteIn, ClearFrom}
use Rattle.apart.specs.Noting.{parent_in, hashes_at, picked, picked_in, ParentsIn}
use Rattle.apart.specs.Lapsing.{noted_of, noted, nowhere}
use Rattle.apart.proofs.SlotWords.{plain-long}
use Rattle.apart.proofs.Notes.{hashes_next, hashes_none, slot_all}
use Rattle.apart.proofs.Overdue.{front_is, rest_stays, slots_rest}
use Rattle.apart.proofs.OneOwner.{picked-clear, noted_none}
use Rattle.selecting.specs.declared.Scan.{Scan}
use Rattle.selecting.specs.Phasing.{Roomy, Scans}
use Rattle.planning.specs.Noting.{PlaceScans, NotedScans, NotedPhased}
use Rattle.selecting.proofs.Walked.{phasing_as, scans_start, scans_as, scans_for, Opened, phased}

-- ---- bits

module _ (w : List ℕ) (j to r : ℕ) (h : j < to) where
  later : hashes_at w j (to - j) ≡ parent_in w j ∷ hashes_at w (j + 1) (to - (j + 1))
  later = let q : to - j - 1 ≡ to - (j + 1) = omega arith in hashes_next w j (to - j) (omega arith) ∙ rw q

  pub bit-set : {x : ℕ} {k : Key} → k ≡ txid x → x ≡ parent_in w j → r % 2 ≡ 1 → picked (hashes_at w j (to - j)) r ≡ k ∷ picked (hashes_at w (j + 1) (to - (j + 1))) (r / 2)
  unfolding picked
  bit-set {x} {k} ek ex e = rw (later, eq-eqb (r % 2) 1 e) (ap (λ (y : Key). y ∷ picked (hashes_at w (j + 1) (to - (j + 1))) (r / 2)) (sym (ek ∙ ap txid ex)))

  pub bit-clear : (r % 2 ≡ 1 → ⊥) → picked (hashes_at w j (to - j)) r ≡ picked (hashes_at w (j + 1) (to - (j + 1))) (r / 2)
  unfolding picked
  bit-clear n = rw (later, ne_eqb (r % 2) 1 n)

pub bits_done : (w : List ℕ) (j to r : ℕ) → to ≤ j → picked (hashes_at w j (to - j)) r ≡ []
unfolding picked
bits_done w j to r h = rw (hashes_none w j (to - j) (omega arith))

-- ---- one place

module _ {b f : List ℕ} {m i : ℕ} {x : Note} (note : NoteIn b f m i x) {p : List ℕ} {now : ℕ} {v : Scan} where
  pub place-clear : x.low ≡ 0 → x.high ≡ 0 → Kept (take m b) → Roomy v → PlaceScans b b f m i p p now v v
  place-clear el eh k r = record {
    ahead = record { rest = refl; kept = k; roomy = r; near = omega arith };
    goes = λ Q xs d h s z.
        let n = note Q xs d h s in
        scans_for (λ st. noted_of (get_or xs i d))
        (λ st l u w. picked-clear (get_or xs i d).place.parents (sym (ap (λ (y : Note). y.low) n) ∙ el) (sym (ap (λ (y : Note). y.high) n) ∙ eh))
        (scans_as (scans_start (λ st. []) v k r) (λ st. []) list_most (omega arith) (λ st l u w. refl));
  }

  pub place-scanned : {q : List ℕ} {w : Scan} (z y b' : List ℕ) {c : ℕ} → Loaded b f m i z → ParentsIn z c → m ≤ length b → length y ≡ length (take m b) → b' ≡ y ++ drop m b
      → Scans (take m b) y p q now (λ st. picked_in (hashes_at (words z) 0 c) x.low x.high) (λ st. []) v w list_most → PlaceScans b b' f m i p q now v w
  place-scanned {q} {w} z y b' {c} load n l ny e g =
      let g₁ : Scans (take m b) (take m b') p q now (λ st. picked_in (hashes_at (words z) 0 c) x.low x.high) (λ st. []) v w list_most = rw (e, front_is b y m l ny) g in
      record {
        ahead = record { rest = ap (drop m) e ∙ rest_stays b y m l ny; kept = g₁.kept; roomy = g₁.roomy; near = g₁.near };
        goes = λ Q xs d h s short.
            let few = subst (λ (a : Place). length a.parents ≤ list_most) (get_or-map (λ (a : Slot). a.place) xs i d)
            (each_at (λ a. length a.parents ≤ list_most) (plain xs) i d.place short (omega (arith, plain-long xs))) in
            let slot = load Q xs d h s in
            let hs = ap (hashes_at (words z) 0) (n.is (get_or xs i d) slot few) ∙ slot_all z (get_or xs i d) slot few in
            scans_for (λ st. noted_of (get_or xs i d)) (λ st l u k. ap (λ (o : Note). picked_in (get_or xs i d).place.parents o.low o.high) (sym (note Q xs d h s))
            ∙ ap (λ (k : List ℕ). picked_in k x.low x.high) (sym hs)) g₁;
      }

-- ---- place by place

-- the first of what is left, considered
scans_part : {b b₁ b₂ p p₁ p₂ : List ℕ} {now : ℕ} {ks : State → List Key} {v v₁ v₂ : Scan} {n k : ℕ} (xs ys : List Key) → Scans b b₁ p p₁ now ks (λ st. xs ++ ys) v v₁ n
    → Scans b₁ b₂ p₁ p₂ now (λ st. xs) (λ st. []) v₁ v₂ k → Scans b b₂ p p₂ now ks (λ st. ys) v v₂ (n + k)
scans_part xs ys x y = record {
  kept = y.kept;
  rows_same = y.rows_same ∙ x.rows_same;
  roomy = y.roomy;
  near = omega (arith, x.near, y.near);
  goes = λ st rest all g. y.goes st (ys ++ rest) all (phasing_as (append_assoc xs ys rest) (x.goes st rest all g));
}

noted_next : (xs : List Slot) (i : ℕ) (d : Slot) → i < length xs → noted (drop i xs) ≡ noted_of (get_or xs i d) ++ noted (drop (i + 1) xs)
unfolding noted
noted_next [] i d h = absurd (omega arith)
noted_next (x ∷ xs) zero d h = refl
noted_next (x ∷ xs) (suc i) d h = let e : suc i + 1 ≡ suc (i + 1) = omega arith in rw e (noted_next xs i d (omega arith))

noted_over : (e : ℕ) (xs : List Slot) → ClearFrom e xs → noted (drop e xs) ≡ []
noted_over zero xs c = noted_none xs c
noted_over (suc e) [] c = noted_none [] (λ j d g h. absurd (omega arith))
noted_over (suc e) (x ∷ xs) c = noted_over e xs (λ j d g h. c (suc j) d (omega arith) (omega arith))

module _ {b f : List ℕ} {m e : ℕ} {p : List ℕ} {now : ℕ} {v : Scan} where
  module _ {b₁ q : List ℕ} {i : ℕ} {w : Scan} (x : NotedScans b b₁ f m e i p q now v w) where
    pub noted_goes : {b₂ q₂ : List ℕ} {w₂ : Scan} → i < e → PlaceScans b₁ b₂ f m i q q₂ now w w₂ → NotedScans b b₂ f m e (i + 1) p q₂ now v w₂
    noted_goes {b₂} {q₂} {w₂} h y = record {
      ahead = record { rest = y.ahead.rest ∙ x.ahead.rest; kept = y.ahead.kept; roomy = y.ahead.roomy; near = omega (arith, x.ahead.near, y.ahead.near) };
      goes = λ Q xs n s z.
          let l : i < length xs = omega arith in
          let a : Slot = get_or xs i nowhere in
          let t = y.goes Q xs nowhere l (slots_rest x.ahead.rest s) z in
          let g = scans_as (x.goes Q xs n s z) (λ st. noted_of a ++ noted (drop (i + 1) xs)) (list_most * i) (omega arith) (λ st k u o. noted_next xs i nowhere l) in
          scans_as (scans_part (noted_of a) (noted (drop (i + 1) xs)) g t) (λ st. noted (drop (i + 1) xs)) (list_most * (i + 1)) (omega arith) (λ st k u o. refl);
    }

pub noted_phased : {b b' f : List ℕ} {m e : ℕ} {p p' : List ℕ} {now : ℕ} {v v₁ w : Scan} → Opened v v₁ → NotedScans b b' f m e e p p' now v₁ w → NotedPhased b b' f m e p p' now v w
noted_phased {e = e} {v = v} o x = record {
  rest = x.ahead.rest;
  kept = x.ahead.kept;
  near = omega (arith, x.ahead.near, ap (λ (u : Scan). u.considered) o);
  goes = λ Q xs n c s z. phased o (scans_as (x.goes Q xs n s z) (λ st. []) (list_most * e) (omega arith) (λ st l u k. noted_over e xs c));
}

-- nothing is noted
pub both_zero : (a b : ℕ) → (eqb a 0 && eqb b 0) ≡ true → (a ≡ 0) × (b ≡ 0)
both_zero a b e = elim (test (eqb a 0)) [ inl z ↦ (eqb-true a 0 z, eqb-true b 0 (rw z at e)) | inr z ↦ never (rw z at e) ]
