-- Lists of a line: their elements one after the other, the count before them, and the line's end behind them.
use Prim.Native.Nat.{ℕ, zero, suc, ◌+◌, ◌*◌, ◌-◌, ◌<◌, ◌≤◌}
use mathlib.Core.Path.{◌≡◌, refl, sym, ap, subst, ◌∙◌}
use mathlib.Core.List.{List, [], ◌∷◌, ◌++◌}
use mathlib.Core.Option.{Option, none, some}
use native.Mathlib.Nat.{mul-suc}
use native.Mathlib.Omega.{arith}
use lib.ListN.{length}
use Rattle.machine.specs.Fields.{number_of, rest, taking, ending, elements_then}
use Rattle.std.specs.Prelude as Rust
use Rattle.reading.specs.Line.{Line, Reader, list_then}
use Rattle.reading.specs.Given.{At, then_of, ElementRead, FieldRead, ElementsRead, ElementsAs, ListRead, Stored, bytes, Takes, NoList, Taken, TakenAs, ElementHeld, FrontAs, FrontList}
use Rattle.reading.proofs.Taking.{field_not, field_is, ending_end, ending_more}
use Rattle.reading.proofs.Bytes.{bytes_rest, no_value}

-- ---- one element after the other

module _ {A : Type 0} (read : Reader A) (k : List A → List (List ℕ) → Option Line) (xs : List A) (fs : List (List ℕ)) where
  then_next : (n : ℕ) → elements_then read (suc n) xs k fs ≡ read (λ x. elements_then read n (xs ++ (x ∷ [])) k) fs
  unfolding elements_then
  then_next n = refl

  then_none : elements_then read 0 xs k fs ≡ k xs fs
  unfolding elements_then
  then_none = refl

pub none_read : {A : Type 0} (read : Reader A) (l : List ℕ) (e n : ℕ) {xs : List A} → xs ≡ [] → ElementsRead read l e n e 0 xs
none_read {A} read l e n {xs} g =
    record {
      is = λ k. let z : n - 0 ≡ n = omega arith in
          ap (λ (ys : List A). elements_then read n ys k (rest l (e + 1))) (sym g) ∙ ap (λ (m : ℕ). elements_then read m xs k (rest l (e + 1))) (sym z);
    }

module _ {A : Type 0} {read : Reader A} {l : List ℕ} {e n to i : ℕ} {xs : List A} (r : ElementsRead read l e n to i xs) (g : i < n) {o : Option (At A)} (p : ElementRead read l to o) where
  turn : (k : List A → List (List ℕ) → Option Line) → elements_then read n [] k (rest l (e + 1)) ≡ then_of l (λ x. elements_then read (n - (i + 1)) (xs ++ (x ∷ [])) k) o
  turn k =
      let m : n - i ≡ suc (n - (i + 1)) = omega arith in
      r.is k
      ∙ ap (λ (j : ℕ). elements_then read j xs k (rest l (to + 1))) m
      ∙ then_next read k xs (rest l (to + 1)) (n - (i + 1))
      ∙ p.is (λ x. elements_then read (n - (i + 1)) (xs ++ (x ∷ [])) k)

  pub no-element : o ≡ none → (k : List A → List (List ℕ) → Option Line) → elements_then read n [] k (rest l (e + 1)) ≡ none
  no-element z k = turn k ∙ ap (then_of l (λ x. elements_then read (n - (i + 1)) (xs ++ (x ∷ [])) k)) z

  pub one_more_lem : {a : At A} {ys : List A} → o ≡ some a → ys ≡ xs ++ (a.value ∷ []) → ElementsRead read l e n a.end (i + 1) ys
  one_more_lem {a} z w =
      record {
        is = λ k.
            turn k
            ∙ ap (then_of l (λ x. elements_then read (n - (i + 1)) (xs ++ (x ∷ [])) k)) z
            ∙ ap (λ (zs : List A). elements_then read (n - (i + 1)) zs k (rest l (a.end + 1))) (sym w);
      }

-- an element as it was taken
module _ {A : Type 0} {read : Reader A} {size : ℕ} {f : List ℕ → A} {l : List ℕ} {e i : ℕ} {b b' : List ℕ} {r : Rust.Option ℕ} (t : Taken read size f l e i b b' r) where
  pub not_taken : r ≡ Rust.None → ElementRead read l e none
  not_taken g = subst (TakenAs read size f l e i b b') g t.is

  pub as_taken : {to : ℕ} → r ≡ Rust.Some to → ElementHeld read size f l e i b b' to
  as_taken g = subst (TakenAs read size f l e i b b') g t.is

-- an element that stands in what is read at e
module _ {A : Type 0} {read : Reader A} {size : ℕ} {f : List ℕ → A} {l : List ℕ} {e i : ℕ} {b b' : List ℕ} {o : Option (At A)} (p : ElementRead read l e o) where
  pub not_there : o ≡ none → Taken read size f l e i b b' Rust.None
  not_there z = record { is = subst (ElementRead read l e) z p }

  pub taken_there : {a : At A} → o ≡ some a → Stored size f b b' i a.value → Taken read size f l e i b b' (Rust.Some a.end)
  taken_there {a} z s = record { is = record { value = a.value; found = subst (ElementRead read l e) z p; stored = s } }

-- ---- more elements than a line has room for

-- one field that has so many bytes
module _ {A : Type 0} (read : List ℕ → Option A) {w : ℕ} (h : (f : List ℕ) (x : A) → read f ≡ some x → w ≤ suc (length f)) where
  none_left : (k : A → List (List ℕ) → Option Line) (fs : List (List ℕ)) → ((x : A) (gs : List (List ℕ)) → bytes gs + w ≤ bytes fs → k x gs ≡ none) → taking read k fs ≡ none
  unfolding taking bytes
  none_left k [] g = refl
  none_left k (f ∷ fs) g = no_value (read f) (λ x. k x fs) (λ x z. g x fs (omega (arith, h f x z)))

  pub takes_field : Takes (taking read) w
  takes_field = record { is = none_left }

too_few : {A : Type 0} {read : Reader A} {w : ℕ} → Takes read w → (n : ℕ) (xs : List A) (k : List A → List (List ℕ) → Option Line) (fs : List (List ℕ)) → bytes fs < w * n
    → elements_then read n xs k fs ≡ none
unfolding elements_then
too_few {w = w} t zero xs k fs h = absurd (omega (arith, h))
too_few {A} {read} {w} t (suc n) xs k fs h = t.is (λ x. elements_then read n (xs ++ (x ∷ [])) k) fs (λ x gs g. too_few t n (xs ++ (x ∷ [])) k gs (omega (arith, g, mul-suc w n, h)))

-- ---- the whole list

module _ {A : Type 0} (line : List A → Line) where
  abbrev whole : List A → List (List ℕ) → Option Line
  whole xs fs = ending (some (line xs)) fs

  abbrev behind-count : Reader A → ℕ → List (List ℕ) → Option Line
  behind-count read n fs = elements_then read n [] whole fs

module _ {A : Type 0} (read : Reader A) {l : List ℕ} {e : ℕ} {o : Option (At ℕ)} (p : FieldRead number_of l e o) where
  pub no-count : o ≡ none → NoList read l e
  unfolding list_then
  no-count g line = field_not p (behind-count line read) g

  module _ {a : At ℕ} (g : o ≡ some a) where
    counted : (line : List A → Line) → list_then read line (rest l (e + 1)) ≡ behind-count line read a.value (rest l (a.end + 1))
    unfolding list_then
    counted line = field_is p (behind-count line read) g

    pub too_long : {w : ℕ} → Takes read w → length l < w * a.value → NoList read l e
    too_long t m line = counted line ∙ too_few t a.value [] (whole line) (rest l (a.end + 1)) (omega (arith, bytes_rest l a.end, m))

    module _ {n : ℕ} (x : n ≡ a.value) {xs : List A} {r : Rust.Option ℕ} (q : ListRead read l a.end n xs r) where
      to_list : (line : List A → Line) → list_then read line (rest l (e + 1)) ≡ behind-count line read n (rest l (a.end + 1))
      to_list line = counted line ∙ ap (λ (m : ℕ). behind-count line read m (rest l (a.end + 1))) (sym x)

      as_read : {r' : Rust.Option ℕ} → r ≡ r' → ElementsAs read l a.end n xs r'
      as_read h = subst (ElementsAs read l a.end n xs) h q.is

      pub no-list : r ≡ Rust.None → NoList read l e
      no-list h line = to_list line ∙ as_read h (whole line)

      module _ {to : ℕ} (h : r ≡ Rust.Some to) where
        to_end : (line : List A → Line) → list_then read line (rest l (e + 1)) ≡ whole line xs (rest l (to + 1))
        to_end line =
            let z : n - n ≡ 0 = omega arith in
            let d : ElementsRead read l a.end n to n xs = as_read h in
            to_list line ∙ d.is (whole line) ∙ ap (λ (m : ℕ). elements_then read m xs (whole line) (rest l (to + 1))) z ∙ then_none read (whole line) xs (rest l (to + 1))

        pub more_fields : to < length l → NoList read l e
        more_fields m line = to_end line ∙ ending_more l to _ m

        pub list_is : length l ≤ to → (line : List A → Line) → list_then read line (rest l (e + 1)) ≡ some (line xs)
        list_is m line = to_end line ∙ ending_end l to _ m

-- the list as it was read
pub as_front : {A : Type 0} {read : Reader A} {size : ℕ} {f : List ℕ → A} {l : List ℕ} {e most : ℕ} {b : List ℕ} {r r' : Rust.Option ℕ} → FrontList read size f l e most b r → r ≡ r'
    → FrontAs read size f l e most b r'
as_front {read = read} {size} {f} {l} {e} {most} {b} q g = subst (FrontAs read size f l e most b) g q.is
