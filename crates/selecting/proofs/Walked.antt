-- A phase of a plan's scan, key by key.
use Prim.Native.Nat.{ℕ, ◌+◌, ◌≤◌}
use mathlib.Core.Path.{◌≡◌, refl, sym, ap, subst, ◌∙◌}
use mathlib.Core.Bool.{Bool, true, false}
use mathlib.Core.List.{List, [], ◌∷◌, ◌++◌, append_assoc, append-nil}
use native.Mathlib.Omega.{arith}
use lib.Dec.{leb}
use lib.ListN.{length}
use borrow.Author.Tests.{leb-false}
use Rattle.std.specs.Prelude.{if◌then◌else◌}
use Rattle.ident.specs.Number.{Key}
use Rattle.machine.specs.Limits.{max_request_checks}
use Rattle.machine.specs.State.{Entry, Table, State}
use Rattle.machine.specs.Plan as machine
use Rattle.machine.specs.Sound.{Sound}
use Rattle.store.specs.Shown.{Kept}
use Rattle.selecting.specs.declared.Scan.{Scan}
use Rattle.selecting.specs.Selecting.{Marks, Scanning, Considers}
use Rattle.selecting.specs.Phasing.{Phasing, Roomy, Scans, Phased}

-- ---- one key

phase_step : (now : ℕ) (t : Table) (k : Key) (ks : List Key) (c : machine.Scan) {f : Bool} → f ≡ leb max_request_checks (length (machine.consider now t k c).chosen)
    → (if f then machine.consider now t k c else machine.phase now t ks (machine.consider now t k c)) ≡ machine.phase now t (k ∷ ks) c
unfolding machine.phase
phase_step now t k ks c e = rw e refl

module _ {now : ℕ} {st : State} {b p : List ℕ} {v : Scan} {all : machine.Scan} where
  pub phasing_as : {xs ys : List Key} → xs ≡ ys → Phasing now st b p v xs all → Phasing now st b p v ys all
  phasing_as e g = subst (λ (ks : List Key). Phasing now st b p v ks all) e g

  phasing_full : (xs ys : List Key) → v.full ≡ true → Phasing now st b p v xs all → Phasing now st b p v ys all
  phasing_full xs ys e g = record {
    scan = g.scan;
    stands = g.stands;
    all_are = ap (λ (f : Bool). if f then g.scan else machine.phase now st.table ys g.scan) e
        ∙ sym (ap (λ (f : Bool). if f then g.scan else machine.phase now st.table xs g.scan) e) ∙ g.all_are;
  }

  phasing_more : {b' p' : List ℕ} {w : Scan} {k : Key} (ks : List Key) → v.full ≡ false → Considers b b' p p' now k v w → Phasing now st b p v (k ∷ ks) all → Phasing now st b' p' w ks all
  phasing_more {w = w} {k} ks e x g =
      let n = x.goes st g.scan g.stands in
      record {
        scan = machine.consider now st.table k g.scan;
        stands = n;
        all_are = phase_step now st.table k ks g.scan (x.full ∙ ap (leb max_request_checks) n.marks.count)
            ∙ sym (ap (λ (f : Bool). if f then g.scan else machine.phase now st.table (k ∷ ks) g.scan) e) ∙ g.all_are;
      }

-- ---- the keys of a list

pub scans_start : {b p : List ℕ} {now : ℕ} (ks : State → List Key) (v : Scan) → Kept b → Roomy v → Scans b b p p now ks ks v v 0
scans_start ks v k r = record { kept = k; rows_same = refl; roomy = r; near = omega arith; goes = λ st rest all g. g }

module _ {b b' p p' : List ℕ} {now : ℕ} {ks left : State → List Key} {v w : Scan} {n : ℕ} (x : Scans b b' p p' now ks left v w n) where
  -- what is left can be said otherwise of the bytes that stand
  pub scans_as : (left' : State → List Key) (n' : ℕ) → n ≤ n' → ((st : State) (l : List Entry) → Sound st → Marks now st l b' p' w.chosen → left st ≡ left' st)
      → Scans b b' p p' now ks left' v w n'
  scans_as left' n' h e = record {
    kept = x.kept;
    rows_same = x.rows_same;
    roomy = x.roomy;
    near = omega (arith, x.near);
    goes = λ st rest all g.
        let y = x.goes st rest all g in
        phasing_as (ap (λ (l : List Key). l ++ rest) (e st y.scan.chosen y.stands.sound y.stands.marks)) y;
  }

  -- the phase has stopped
  pub scans_full : (left' : State → List Key) (n' : ℕ) → n ≤ n' → w.full ≡ true → Scans b b' p p' now ks left' v w n'
  scans_full left' n' h e = record {
    kept = x.kept;
    rows_same = x.rows_same;
    roomy = x.roomy;
    near = omega (arith, x.near);
    goes = λ st rest all g. phasing_full (left st ++ rest) (left' st ++ rest) e (x.goes st rest all g);
  }

  -- one key more
  pub scans_more : {b'' p'' : List ℕ} {w' : Scan} {k : Key} (left' : State → List Key) (n' : ℕ) → n + 1 ≤ n' → w.full ≡ false → Considers b' b'' p' p'' now k w w'
      → ((st : State) (l : List Entry) → Sound st → Marks now st l b' p' w.chosen → left st ≡ k ∷ left' st) → Scans b b'' p p'' now ks left' v w' n'
  scans_more {w' = w'} {k} left' n' h f y e = record {
    kept = y.kept;
    rows_same = y.rows_same ∙ x.rows_same;
    roomy = record {
      most = omega (arith, y.near, x.roomy.more f);
      more = λ d. let less = leb-false max_request_checks w'.chosen (sym y.full ∙ d) in omega arith;
    };
    near = omega (arith, x.near, y.counted);
    goes = λ st rest all g.
        let z = x.goes st rest all g in
        phasing_more (left' st ++ rest) f y (phasing_as (ap (λ (l : List Key). l ++ rest) (e st z.scan.chosen z.stands.sound z.stands.marks)) z);
  }

-- the keys can be said otherwise of the bytes before
pub scans_for : {b b' p p' : List ℕ} {now : ℕ} {ks left : State → List Key} {v w : Scan} {n : ℕ} (js : State → List Key)
    → ((st : State) (l : List Entry) → Sound st → Marks now st l b p v.chosen → js st ≡ ks st) → Scans b b' p p' now ks left v w n → Scans b b' p p' now js left v w n
scans_for js e x = record {
  kept = x.kept;
  rows_same = x.rows_same;
  roomy = x.roomy;
  near = x.near;
  goes = λ st rest all g. x.goes st rest all (phasing_as (ap (λ (l : List Key). l ++ rest) (e st g.scan.chosen g.stands.sound g.stands.marks)) g);
}

-- the keys of two lists
pub scans_both : {b b₁ b₂ p p₁ p₂ : List ℕ} {now : ℕ} {ks js : State → List Key} {v v₁ v₂ : Scan} {n m : ℕ} → Scans b b₁ p p₁ now ks (λ st. []) v v₁ n → Scans b₁ b₂ p₁ p₂ now js (λ st. [])
    v₁ v₂ m
    → Scans b b₂ p p₂ now (λ st. ks st ++ js st) (λ st. []) v v₂ (n + m)
scans_both {ks = ks} {js} x y = record {
  kept = y.kept;
  rows_same = y.rows_same ∙ x.rows_same;
  roomy = y.roomy;
  near = omega (arith, x.near, y.near);
  goes = λ st rest all g. y.goes st rest all (x.goes st (js st ++ rest) all (phasing_as (append_assoc (ks st) (js st) rest) g));
}

-- ---- a whole phase

if_same : (f : Bool) (c : machine.Scan) → (if f then c else c) ≡ c
if_same true c = refl
if_same false c = refl

phase_none : (now : ℕ) (t : Table) (f : Bool) (c : machine.Scan) → (if f then c else machine.phase now t [] c) ≡ c
unfolding machine.phase
phase_none now t f c = if_same f c

-- v, where a phase begins
abbrev pub Opened : Scan → Scan → Type 0
Opened v w = w ≡ record { chosen = v.chosen; considered = v.considered; full = false; last = v.last }

pub phased : {b b' p p' : List ℕ} {now : ℕ} {ks : State → List Key} {v v₁ w : Scan} {n : ℕ} → Opened v v₁ → Scans b b' p p' now ks (λ st. []) v₁ w n → Phased b b' p p' now ks v w n
phased {b} {b'} {p} {p'} {now} {ks} {v} {v₁} {w} {n} e x = record {
  kept = x.kept;
  rows_same = x.rows_same;
  most = x.roomy.most;
  near = omega (arith, x.near, ap (λ (u : Scan). u.considered) e);
  goes = λ st c g.
      let y = x.goes st [] (machine.phase now st.table (ks st) c) (begin st c g) in
      subst (λ (u : machine.Scan). Scanning now st u b' p' w) (sym (phase_none now st.table w.full y.scan) ∙ y.all_are) y.stands;
}
  where
    begin : (st : State) (c : machine.Scan) → Scanning now st c b p v → Phasing now st b p v₁ (ks st ++ []) (machine.phase now st.table (ks st) c)
    begin st c g = subst (λ (u : Scan). Phasing now st b p u (ks st ++ []) (machine.phase now st.table (ks st) c)) (sym e)
        (record {
          scan = c;
          stands = record { sound = g.sound; marks = g.marks; considered = g.considered; last = g.last };
          all_are = ap (λ (l : List Key). machine.phase now st.table l c) (append-nil (ks st));
        })
