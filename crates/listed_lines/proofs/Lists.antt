-- A list of hashes behind its length.
use Prim.Native.Nat.{ℕ, ◌+◌, ◌<◌, ◌≤◌}
use mathlib.Core.Path.{◌≡◌, refl, sym, ap, ◌∙◌}
use mathlib.Core.Bool.{Bool, true, false, ◌&&◌}
use mathlib.Core.List.{List, []}
use mathlib.Core.Option.{Option, none, some}
use lib.Dec.{leb}
use borrow.Author.Tests.{le-leb, lt-leb}
use Rattle.std.specs.Prelude.{if◌then◌else◌}
use Rattle.machine.specs.Fields.{number_of, hash_of, rest, taking, elements_then}
use Rattle.machine.specs.Listing.{Line, short, list_then}
use Rattle.reading.specs.Given.{At}
use Rattle.listed_lines.specs.Given.{then_in, Took, longest_list}
use Rattle.listed_lines.proofs.Taking.{pass, stop}

module _ (lo : ℕ) {l : List ℕ} {fs : List (List ℕ)} {o : Option (At ℕ)} (p : Took (taking number_of) l fs o) where
  pub no_length : o ≡ none → Took (list_then short lo longest_list) l fs none
  unfolding list_then
  no_length g = record { is = λ k. stop p _ g }

  module _ {a : At ℕ} (g : o ≡ some a) where
    abbrev counted : (List ℕ → List (List ℕ) → Option Line) → List (List ℕ) → Option Line
    counted k gs = if leb lo a.value && leb a.value longest_list then elements_then (taking hash_of) a.value [] k gs else none

    behind-length : (k : List ℕ → List (List ℕ) → Option Line) → list_then short lo longest_list k fs ≡ counted k (rest l (a.end + 1))
    unfolding list_then
    behind-length k = pass p _ g

    pub too_short : a.value < lo → Took (list_then short lo longest_list) l fs none
    too_short h = record { is = λ k. behind-length k ∙ rw (lt-leb lo a.value h) }

    pub too_long : longest_list < a.value → Took (list_then short lo longest_list) l fs none
    too_long h = record { is = λ k. behind-length k ∙ refuse (leb lo a.value) k }
      where
        refuse : (t : Bool) (k : List ℕ → List (List ℕ) → Option Line) → (if t && leb a.value longest_list then elements_then (taking hash_of) a.value [] k (rest l (a.end + 1)) else none) ≡ none
        refuse true k = rw (lt-leb a.value longest_list h)
        refuse false k = refl

    module _ (least : lo ≤ a.value) (most : a.value ≤ longest_list) {n : ℕ} (x : n ≡ a.value) {o₂ : Option (At (List ℕ))}
        (q : Took (elements_then (taking hash_of) n []) l (rest l (a.end + 1)) o₂) where
      to_hashes : (k : List ℕ → List (List ℕ) → Option Line) → list_then short lo longest_list k fs ≡ then_in l k o₂
      to_hashes k =
          behind-length k ∙ rw (le-leb lo a.value least, le-leb a.value longest_list most)
          (ap (λ (m : ℕ). elements_then (taking hash_of) m [] k (rest l (a.end + 1))) (sym x) ∙ q.is k)

      pub no-hashes : o₂ ≡ none → Took (list_then short lo longest_list) l fs none
      no-hashes h = record { is = λ k. to_hashes k ∙ ap (then_in l k) h }

      pub hashes-are : {d : At (List ℕ)} → o₂ ≡ some d → Took (list_then short lo longest_list) l fs (some d)
      hashes-are h = record { is = λ k. to_hashes k ∙ ap (then_in l k) h }
