-- solicit_package_info, the one call that takes a place: its tests 4 to 8, and what it leaves.
use Prim.Native.Nat.{ℕ}
use mathlib.Core.Path.{◌≡◌, refl, sym, ◌∙◌}
use mathlib.Core.Bool.{Bool, true}
use mathlib.Core.List.{List, [], ◌∷◌, ◌++◌}
use native.Mathlib.Omega.{arith}
use lib.ListN.{length, take, drop}
use Rattle.machine.specs.State.{State, limits_of, on_table}
use Rattle.machine.specs.Table.{one, places_held}
use Rattle.machine.specs.Package.{solicit}
use Rattle.machine.specs.Sound.{Sound}
use Rattle.machine.specs.Owners.{ascending}
use Rattle.machine.specs.Call.{Ask, SolicitPackageInfo, On, named, takes_place, late, ask_refusal}
use Rattle.machine.specs.Step.{Refused, Number, perform}
use Rattle.store.specs.Image.{Writes, SoundStore, Bytes, need_of}
use Rattle.announcing.specs.Answers.{Answered}
use Rattle.soliciting.specs.Solicits.{Room}
use Rattle.outcome.specs.declared.refusal.Refusal.{Refusal}
use Rattle.outcome.specs.Refusals.{number_of}
use Rattle.outcome.specs.Outcome.{Leaves}
use Rattle.outcome.specs.Tests.{first_of, of_place, in_turn}
use Rattle.outcome.specs.Lent.{Lent}
use Rattle.outcome.proofs.Turns.{Passed, passed, first_left, first_right, free-place, timely_turn}
use Rattle.outcome.proofs.Carried.{asked_refused_by, replies_done}

-- bytes of the need that write a state: so does the store
stored_as : {b : List ℕ} {m : ℕ} → Lent b m → (st : State) → Sound st → Writes (take m b) st → SoundStore b
stored_as {b} {m} e st g x =
    let q : m ≡ need_of st = sym e.long ∙ x.long in
    record { state = st; sound = g; long = omega (arith, e.inside, q); writes = rw (← q) x }

module _ (n h clock : ℕ) (hs : List ℕ) where
  abbrev ask : Ask
  ask = SolicitPackageInfo n h hs clock

  abbrev named_turn : ℕ
  named_turn = in_turn (n ∷ []) (clock ∷ []) (length hs) 0 0

  abbrev replies : State → Bool
  replies s = (solicit (limits_of s) n h hs clock s.table).reply

  abbrev place_turn : State → ℕ
  place_turn s = of_place (replies s) s.places (places_held s.table)

  abbrev next : State → State
  next s = on_table (solicit (limits_of s) n h hs clock s.table).table s

  pub solicit_turn : (s : State) → ask_refusal true ask s ≡ first_of named_turn (place_turn s)
  unfolding named takes_place late ascending
  solicit_turn s = timely_turn ask s refl

  -- refused by what they answer
  pub solicit-refused : {b : List ℕ} (v : SoundStore b) (e : Refusal) → number_of e ≡ ask_refusal true ask v.state → Leaves (On ask) b b (Refused (number_of e))
  unfolding named
  solicit-refused v e q = asked_refused_by ask v refl e q

  -- or not, of whatever state the bytes write
  module _ {b : List ℕ} (q : (w : SoundStore b) → 0 ≡ ask_refusal true ask w.state) where
    in_order : (v : SoundStore b) → first_of named_turn (place_turn v.state) ≡ 0
    in_order v = sym (solicit_turn v.state) ∙ sym (q v)

    pub solicit-passed : SoundStore b → Passed (n ∷ []) (clock ∷ []) (length hs) 0 0
    solicit-passed v = passed (sym (first_left named_turn (place_turn v.state) (in_order v)))

    pub solicit-room : {m : ℕ} → Lent b m → Room (take m b) n h hs clock
    unfolding stored_as
    solicit-room e st g x y =
        let v = stored_as e st g x in
        free-place st.places (places_held st.table) (sym (rw y at (first_right named_turn (place_turn st) (in_order v))))

    pub solicit_done : (v : SoundStore b) → {m : ℕ} → Lent b m → {p : List ℕ} → Bytes (p ++ drop m b) → {y : Bool} → Answered (take m b) p y (λ l s. solicit l n h hs clock s)
        → {r : ℕ} → r ≡ one y → Leaves (On ask) b (p ++ drop m b) (Number r)
    unfolding named perform
    solicit_done v e {p} k {y} g o =
        replies_done ask v (sym (q v)) refl {reply = replies} {next = next} refl e k (record { reply_is = g.reply; state_is = g.table }) o
