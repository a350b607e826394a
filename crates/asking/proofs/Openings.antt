-- The line of an opening.
use Prim.Native.Nat.{ℕ, ◌+◌, ◌<◌, ◌≤◌}
use mathlib.Core.Path.{◌≡◌, sym, ◌∙◌}
use mathlib.Core.List.{List}
use mathlib.Core.Option.{Option, none, some}
use lib.ListN.{length}
use borrow.Author.Tests.{le-leb, lt-leb}
use Rattle.machine.specs.Call.{Open}
use Rattle.machine.specs.Fields.{number_of, rest, taking, ending}
use Rattle.asking.specs.Calls.{most_announcements, most_places, opening, open_of}
use Rattle.reading.specs.Line.{Line, Asks}
use Rattle.reading.specs.Given.{At, FieldRead}
use Rattle.reading.proofs.Taking.{field_not, field_is, ending_end, ending_more}

above_L : (L Q : ℕ) → most_announcements < L → opening L Q ≡ none
above_L L Q x = rw (lt-leb L most_announcements x)

above_Q : (L Q : ℕ) → L ≤ most_announcements → most_places < Q → opening L Q ≡ none
above_Q L Q x y = rw (le-leb L most_announcements x, lt-leb Q most_places y)

taken : (L Q : ℕ) → L ≤ most_announcements → Q ≤ most_places → opening L Q ≡ some (Asks (Open L Q))
taken L Q x y = rw (le-leb L most_announcements x, le-leb Q most_places y)

abbrev places : ℕ → List (List ℕ) → Option Line
places L fs = taking number_of (λ Q. ending (opening L Q)) fs

module _ {l : List ℕ} {e : ℕ} {o : Option (At ℕ)} (p : FieldRead number_of l e o) where
  pub no-limit : o ≡ none → none ≡ open_of (rest l (e + 1))
  unfolding open_of
  no-limit g = sym (field_not p places g)

  module _ {a : At ℕ} (g : o ≡ some a) {u : Option (At ℕ)} (q : FieldRead number_of l a.end u) where
    first : open_of (rest l (e + 1)) ≡ places a.value (rest l (a.end + 1))
    unfolding open_of
    first = field_is p places g

    pub no-places : u ≡ none → none ≡ open_of (rest l (e + 1))
    no-places h = sym (first ∙ field_not q (λ Q. ending (opening a.value Q)) h)

    module _ {b : At ℕ} (h : u ≡ some b) where
      both : open_of (rest l (e + 1)) ≡ ending (opening a.value b.value) (rest l (b.end + 1))
      both = first ∙ field_is q (λ Q. ending (opening a.value Q)) h

      pub more_fields : b.end < length l → none ≡ open_of (rest l (e + 1))
      more_fields m = sym (both ∙ ending_more l b.end (opening a.value b.value) m)

      module _ (m : length l ≤ b.end) where
        whole : open_of (rest l (e + 1)) ≡ opening a.value b.value
        whole = both ∙ ending_end l b.end (opening a.value b.value) m

        pub limit_above : most_announcements < a.value → none ≡ open_of (rest l (e + 1))
        limit_above x = sym (whole ∙ above_L a.value b.value x)

        pub places-above : a.value ≤ most_announcements → most_places < b.value → none ≡ open_of (rest l (e + 1))
        places-above x y = sym (whole ∙ above_Q a.value b.value x y)

        pub opening_is : a.value ≤ most_announcements → b.value ≤ most_places → some (Asks (Open a.value b.value)) ≡ open_of (rest l (e + 1))
        opening_is x y = sym (whole ∙ taken a.value b.value x y)
