-- What reading's readers of a field say holds whatever is made of the field: of a listing's lines as of event lines.
use Prim.Native.Nat.{ℕ, zero, suc, ◌+◌, ◌-◌}
use mathlib.Core.Path.{◌≡◌, refl, sym, ap, ◌∙◌}
use mathlib.Core.Bool.{Bool, true, false, ◌&&◌}
use mathlib.Core.List.{List, [], ◌∷◌, ◌++◌}
use mathlib.Core.Option.{Option, none, some}
use mathlib.Core.Logic.{inl, inr}
use native.Mathlib.Omega.{arith}
use borrow.Author.Tests.{eq-eqb}
use Rattle.ident.specs.declared.ItemKind.TheVariants.{Transaction}
use Rattle.std.specs.Prelude.{if◌then◌else◌, Option as Maybe, Some, None}
use Rattle.ident.specs.Number.{Key, Item}
use Rattle.machine.specs.State.{Candidate, is_some}
use Rattle.machine.specs.Call.{Announce, Forget, On}
use Rattle.machine.specs.Fields.{bool_of, hash_of, key_of, item_of, same_text, rest, with_value, taking, elements_then}
use Rattle.machine.specs.Listing.{Line, short, key_in, item_in}
use Rattle.machine.proofs.Tests.{test, never, and_left, and_right}
use Rattle.machine.proofs.Readers.{same_text_lem}
use Rattle.reading.specs.Line as events
use Rattle.reading.specs.Given.{At, then_of, FieldRead, ListRead}
use Rattle.listed_lines.specs.Given.{then_in, Took}

-- ---- fields compared

unfoldable same_fields : List (List ℕ) → List (List ℕ) → Bool
same_fields [] [] = true
same_fields [] (g ∷ gs) = false
same_fields (f ∷ fs) [] = false
same_fields (f ∷ fs) (g ∷ gs) = same_text f g && same_fields fs gs

self_text : (f : List ℕ) → same_text f f ≡ true
unfolding same_text
self_text [] = refl
self_text (c ∷ f) = rw (eq-eqb c c refl, self_text f)

self_fields : (fs : List (List ℕ)) → same_fields fs fs ≡ true
unfolding same_fields
self_fields [] = refl
self_fields (f ∷ fs) = rw (self_text f, self_fields fs)

same-fields : (fs gs : List (List ℕ)) → same_fields fs gs ≡ true → fs ≡ gs
unfolding same_fields
same-fields [] [] e = refl
same-fields [] (g ∷ gs) e = never e
same-fields (f ∷ fs) [] e = never e
same-fields (f ∷ fs) (g ∷ gs) e = rw (same_text_lem f g (and_left (same_text f g) (same_fields fs gs) e), same-fields fs gs (and_right (same_text f g) (same_fields fs gs) e))

-- ---- a value that an event line can show

abbrev lost : events.Line
lost = events.Part 0

module _ {A : Type 0} (shown : A → events.Line) (one : (a b : A) → shown a ≡ shown b → a ≡ b) where
  -- what was read, and the fields behind it
  read_is : (l : List ℕ) (r : Option (A × List (List ℕ))) (o : Option (At A)) → ((k : A → List (List ℕ) → Option events.Line) → with_value r (λ p. k p.0 p.1) ≡ then_of l k o)
      → (k : A → List (List ℕ) → Option Line) → with_value r (λ p. k p.0 p.1) ≡ then_in l k o
  read_is l none none h k = refl
  read_is l none (some a) h k = never (ap is_some (h (λ v fs. some lost)))
  read_is l (some p) none h k = never (sym (ap is_some (h (λ v fs. some lost))))
  read_is l (some p) (some a) h k =
      let u : some (shown p.0) ≡ some (shown a.value) = h (λ v fs. some (shown v)) in
      let w : shown p.0 ≡ shown a.value = cc in
      let e : p.0 ≡ a.value = one p.0 a.value w in
      let q : p.1 ≡ rest l (a.end + 1) = behind (h (λ v fs. if same_fields fs (rest l (a.end + 1)) then none else some lost)) in
      rw (e, q)
    where
      behind : {gs hs : List (List ℕ)} → (if same_fields gs hs then none else some lost) ≡ (if same_fields hs hs then none else some lost) → gs ≡ hs
      behind {gs} {hs} e = elim (test (same_fields gs hs)) [
        | inl t ↦ same-fields gs hs t
        | inr t ↦ never (sym (ap is_some (rw (t, self_fields hs) at e)))
      ]

  value_is : (l : List ℕ) (gs : List (List ℕ)) (r : Option A) (o : Option (At A)) → ((k : A → List (List ℕ) → Option events.Line) → with_value r (λ v. k v gs) ≡ then_of l k o)
      → (k : A → List (List ℕ) → Option Line) → with_value r (λ v. k v gs) ≡ then_in l k o
  value_is l gs none o h k = read_is l none o h k
  value_is l gs (some v) o h k = read_is l (some (v, gs)) o h k

  taken : (read : List ℕ → Option A) (l : List ℕ) (fs : List (List ℕ)) (o : Option (At A)) → ((k : A → List (List ℕ) → Option events.Line) → taking read k fs ≡ then_of l k o)
      → (k : A → List (List ℕ) → Option Line) → taking read k fs ≡ then_in l k o
  unfolding taking
  taken read l [] none h k = refl
  taken read l [] (some a) h k = never (ap is_some (h (λ v fs. some lost)))
  taken read l (f ∷ fs) o h k = value_is l fs (read f) o h k

  field_took : (read : List ℕ → Option A) {l : List ℕ} {e : ℕ} {o : Option (At A)} → FieldRead read l e o → Took (taking read) l (rest l (e + 1)) o
  field_took read {l} {e} {o} p = record { is = taken read l (rest l (e + 1)) o p.is }

-- ---- numbers, hashes, bools, keys, items

pub number_took : (read : List ℕ → Option ℕ) {l : List ℕ} {e : ℕ} {o : Option (At ℕ)} → FieldRead read l e o → Took (taking read) l (rest l (e + 1)) o
number_took read p = field_took (λ n. events.Part n) (λ a b e. cc) read p

abbrev candidate_with : Item → Bool → Candidate
candidate_with i b = record { connection = 0; item = i; ready = 0; preferred = b; priority = 0 }

abbrev shown_in : Item → Bool → events.Line
shown_in i b = events.Asks (On (Announce (candidate_with i b)))

one_shown : (i j : Item) (b d : Bool) → shown_in i b ≡ shown_in j d → candidate_with i b ≡ candidate_with j d
one_shown i j b d e = cc

abbrev an_item : Item
an_item = record { kind = Transaction; hash = 0 }

pub bool_took : {l : List ℕ} {e : ℕ} {o : Option (At Bool)} → FieldRead bool_of l e o → Took (taking bool_of) l (rest l (e + 1)) o
bool_took p = field_took (λ b. shown_in an_item b) (λ a b e. ap (λ (c : Candidate). c.preferred) (one_shown an_item an_item a b e)) bool_of p

same_read : {A : Type 0} {read other : List ℕ → Option A} → ((f : List ℕ) → read f ≡ other f) → (k : A → List (List ℕ) → Option Line) (fs : List (List ℕ)) → taking other k fs ≡ taking read k fs
unfolding taking
same_read h k [] = refl
same_read h k (f ∷ fs) = rw (h f)

pub key_same : (f : List ℕ) → key_of f ≡ key_in short f
unfolding key_of key_in
key_same [] = refl
key_same (c ∷ f) = refl

pub item_same : (f : List ℕ) → item_of f ≡ item_in short f
unfolding item_of item_in
item_same [] = refl
item_same (c ∷ f) = refl

module _ {l : List ℕ} {e : ℕ} where
  pub key_took : {o : Option (At Key)} → FieldRead key_of l e o → Took (taking (key_in short)) l (rest l (e + 1)) o
  key_took p =
      let q = field_took (λ k. events.Asks (On (Forget k))) (λ a b e. cc) key_of p in
      record { is = λ k. same_read key_same k (rest l (e + 1)) ∙ q.is k }

  pub item_took : {o : Option (At Item)} → FieldRead item_of l e o → Took (taking (item_in short)) l (rest l (e + 1)) o
  item_took p =
      let q = field_took (λ i. shown_in i false) (λ a b e. ap (λ (c : Candidate). c.item) (one_shown a b false false e)) item_of p in
      record { is = λ k. same_read item_same k (rest l (e + 1)) ∙ q.is k }

-- ---- hashes one after the other

-- those that are read, and the fields behind them
both : List ℕ → List (List ℕ) → Option (List ℕ × List (List ℕ))
both ys gs = some (ys, gs)

many : ℕ → List ℕ → List (List ℕ) → Option (List ℕ × List (List ℕ))
many n xs fs = elements_then (taking hash_of) n xs both fs

module _ {B : Type 0} (k : List ℕ → List (List ℕ) → Option B) where
  many_is : (n : ℕ) (xs : List ℕ) (fs : List (List ℕ)) → elements_then (taking hash_of) n xs k fs ≡ with_value (many n xs fs) (λ p. k p.0 p.1)
  unfolding elements_then many both taking
  many_is zero xs fs = refl
  many_is (suc n) xs [] = refl
  many_is (suc n) xs (f ∷ fs) = by_hash (hash_of f) (λ x. many_is n (xs ++ (x ∷ [])) fs)
    where
      by_hash : (h : Option ℕ) → ((x : ℕ) → elements_then (taking hash_of) n (xs ++ (x ∷ [])) k fs ≡ with_value (many n (xs ++ (x ∷ [])) fs) (λ p. k p.0 p.1))
          → with_value h (λ x. elements_then (taking hash_of) n (xs ++ (x ∷ [])) k fs)
          ≡ with_value (with_value h (λ x. many n (xs ++ (x ∷ [])) fs)) (λ p. k p.0 p.1)
      by_hash none g = refl
      by_hash (some x) g = g x

-- so many of them, which are xs, end at an index
abbrev pub hashes_at : List ℕ → Maybe ℕ → Option (At (List ℕ))
hashes_at xs None = none
hashes_at xs (Some e) = some (record { value = xs; end = e })

no_more : (k : List ℕ → List (List ℕ) → Option events.Line) (xs : List ℕ) (fs : List (List ℕ)) → elements_then (taking hash_of) 0 xs k fs ≡ k xs fs
unfolding elements_then
no_more k xs fs = refl

listed_then : {l : List ℕ} {e n : ℕ} {xs : List ℕ} (r : Maybe ℕ) → ListRead (taking hash_of) l e n xs r
    → (k : List ℕ → List (List ℕ) → Option events.Line) → elements_then (taking hash_of) n [] k (rest l (e + 1)) ≡ then_of l k (hashes_at xs r)
listed_then None p k = p.is k
listed_then {l} {e} {n} {xs} (Some to) p k =
    let z : n - n ≡ 0 = omega arith in
    p.is.is k ∙ ap (λ (m : ℕ). elements_then (taking hash_of) m xs k (rest l (to + 1))) z ∙ no_more k xs (rest l (to + 1))

pub hashes_took : {l : List ℕ} {e n : ℕ} {xs : List ℕ} {r : Maybe ℕ} → ListRead (taking hash_of) l e n xs r → Took (elements_then (taking hash_of) n []) l (rest l (e + 1)) (hashes_at xs r)
hashes_took {l} {e} {n} {xs} {r} p = record {
  is = λ k. many_is k n [] (rest l (e + 1))
      ∙ read_is (λ hs. events.Send hs) (λ a b e. cc) l (many n [] (rest l (e + 1))) (hashes_at xs r)
      (λ k. sym (many_is k n [] (rest l (e + 1))) ∙ listed_then r p k) k;
}
