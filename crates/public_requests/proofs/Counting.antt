-- What counts says of a connection: refused, or told by its figures.
use Prim.Native.Nat.{ℕ}
use mathlib.Core.Path.{◌≡◌, refl, sym, ap, ◌∙◌}
use mathlib.Core.List.{List, [], ◌∷◌}
use native.Mathlib.Omega.{arith}
use lib.ListN.{take}
use Rattle.store.specs.Image.{SoundStore}
use Rattle.requests.specs.Changes.{Tells, FiguresOf}
use Rattle.outcome.specs.declared.refusal.Refusal.{Refusal}
use Rattle.outcome.specs.declared.refusal.Refusal.TheVariants.{NotSound}
use Rattle.outcome.specs.Refusals.{number_of}
use Rattle.outcome.specs.Tests.{in_turn}
use Rattle.outcome.specs.Lent.{Lent}
use Rattle.outcome.proofs.Turns.{never_none, connection_none, connection_some, connection_only}
use Rattle.outcome.proofs.Carried.{front_writes}
use Rattle.public_requests.specs.Counting.{NotCounted, Are, CountsOf}

-- test 4, of connection 0 and of any other
zero-refused : (n : ℕ) → n ≡ 0 → 4 ≡ in_turn (n ∷ []) [] 0 0 0
zero-refused n e = connection_none n e ∙ connection_only n

other_passes : (n : ℕ) → (n ≡ 0 → ⊥) → 0 ≡ in_turn (n ∷ []) [] 0 0 0
other_passes n h = connection_some n h ∙ connection_only n

module _ {b : List ℕ} (n : ℕ) where
  pub counts-unsound : {e : Refusal} → (e ≡ NotSound) × (SoundStore b → ⊥) → CountsOf b n (NotCounted (number_of e))
  counts-unsound h = record { unsound = λ _. ap (λ (e : Refusal). NotCounted (number_of e)) h.0; nobody = λ w e. absurd (h.1 w); told = λ w e. absurd (h.1 w) }

  module _ (v : SoundStore b) where
    -- the refusal e is what the test answers
    pub counts-refused : (e : Refusal) → number_of e ≡ in_turn (n ∷ []) [] 0 0 0 → CountsOf b n (NotCounted (number_of e))
    counts-refused e q =
        record {
          unsound = λ no. absurd (no v);
          nobody = λ w z. ap NotCounted (q ∙ sym (zero-refused n z));
          told = λ w h. absurd (never_none e (q ∙ sym (other_passes n h)));
        }

    -- or it has nothing against the call; h and o are the figures of the connection, in the bytes of the need
    pub counts_told : 0 ≡ in_turn (n ∷ []) [] 0 0 0 → {m : ℕ} → Lent b m → {h o : ℕ} → Tells (take m b) (λ x. FiguresOf x n h o) → CountsOf b n (Are h o)
    counts_told q l {h} {o} f =
        record {
          unsound = λ no. absurd (no v);
          nobody = λ w e. absurd (omega (arith, zero-refused n e, q));
          told = λ w e. let g = f w.state w.sound (front_writes w l) in rw (g.held, g.owned) refl;
        }
