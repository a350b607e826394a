-- The header that the first line gives.
use mathlib.Core.Path.{◌≡◌, refl, ap, subst, ◌∙◌}
use Prim.Native.Nat.{ℕ}
use mathlib.Core.List.{List}
use mathlib.Core.Option.{some}
use Rattle.ident.specs.declared.Kind.{Kind}
use Rattle.ident.specs.declared.Key.{Key as KeyRead}
use Rattle.ident.specs.Words.{key_num, maybe_key_num}
use Rattle.regions.specs.Regions.{each}
use Rattle.std.specs.Prelude as answer
use Rattle.std.specs.Option.{IsSomeAnd, MatchOption}
use Rattle.lines.specs.declared.read.Named.{Named}
use Rattle.lines.specs.Values.{number_in, named_key, key_in}
use Rattle.machine.specs.Step.{empty}
use Rattle.store.specs.Flat.{tally}
use Rattle.store.specs.Image.{Shows, Writes}
use Rattle.cursors.specs.declared.Cursors.{Cursors}
use Rattle.cursors.specs.Numbers.{Numbers, time_num, numbers_of, with_cursors, Saves}
use Rattle.listed_lines.specs.declared.line.Head as line-head
use Rattle.listed_lines.specs.Given.{head_state}
use Rattle.restoring.specs.Given.{bare}

-- ---- the header

-- no request leaves no record
empty-bare : {b : List ℕ} (h : line-head.Head) (n : Numbers) → n ≡ record { next = number_in h.poll; known = key_in h.known; ready = key_in h.ready }
    → Writes b (with_cursors n (empty h.limit h.places)) → Shows b (bare (head_state h))
unfolding each tally
empty-bare {b} h n e w = subst (λ (m : Numbers). Writes b (with_cursors m (empty h.limit h.places))) e w

pub headed : {b b' : List ℕ} (h : line-head.Head) (c : Cursors) → Writes b (empty h.limit h.places) → Saves b b' c
    → c.next ≡ h.poll → maybe_key_num c.known ≡ key_in h.known → maybe_key_num c.ready ≡ key_in h.ready → Shows b' (bare (head_state h))
headed h c w v en ek er = empty-bare h (numbers_of c) (λ i. record { next = (ap time_num en ∙ time-number h.poll) i; known = ek i; ready = er i }) (v (empty h.limit h.places) w)
  where
    time-number : (m : answer.Option ℕ) → time_num m ≡ number_in m
    time-number answer.None = refl
    time-number (answer.Some n) = refl

-- a key that may be missing, taken over; `Answers n k`: k may be the answer of n
pub key-over : (m : answer.Option (Named Kind)) (r : answer.Option KeyRead) {Answers : Named Kind → KeyRead → Type 0} → ((n : Named Kind) (k : KeyRead) → Answers n k → key_num k ≡ named_key n)
    → MatchOption m (r ≡ answer.None) (λ n. IsSomeAnd r (Answers n)) → maybe_key_num r ≡ key_in m
key-over answer.None r f e = rw e refl
key-over (answer.Some n) answer.None f a = absurd a
key-over (answer.Some n) (answer.Some k) f a = ap some (f n k a)
