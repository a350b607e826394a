-- Keys listed behind other keys: a call that lists keys after another one has.
use Prim.Native.Nat.{ℕ, ◌+◌, ◌-◌, ◌*◌}
use mathlib.Core.Path.{◌≡◌, sym, ap, ◌∙◌}
use mathlib.Core.List.{List, [], ◌++◌}
use native.Mathlib.Omega.{arith}
use lib.ListN.{length, take, drop, length-append, length-drop, drop_of_length-le}
use lib.Seq.{take_all}
use Rattle.ident.specs.Number.{Key}
use Rattle.machine.specs.Limits.{Limits}
use Rattle.machine.specs.State.{State, Table, limits_of, on_table}
use Rattle.machine.specs.Call.{key_bytes}
use Rattle.machine.specs.Step.{keys_answer, written}
use Rattle.machine.specs.Fail.{Listed}
use Rattle.machine.specs.Sound.{Sound}
use Rattle.machine.proofs.AnswerLengths.{length-keys_answer}
use Rattle.announcing.specs.Answers.{KeysListed}
use Rattle.failing.proofs.Handing.{behind_front}
use Rattle.lent_lists.proofs.Answer.{keys-append}

-- the buffer u holds ks; what is lent of it behind them comes back as v
module _ (u₀ u : List ℕ) (ks : List Key) (a y : ℕ) (e : u ≡ written (keys_answer ks) u₀) (from : a ≡ key_bytes * length ks) (end : y ≡ length u) where
  whole : take (y - a) (drop a u) ≡ drop a u
  whole = take_all (y - a) (drop a u) (simp length-drop (omega arith))

  nothing_left : drop (y - a) (drop a u) ≡ []
  nothing_left = drop_of_length-le (drop a u) {i = y - a} (simp length-drop (omega arith))

  front : written (keys_answer ks) u₀ ≡ keys_answer ks ++ drop a u₀
  unfolding written
  front = ap (λ (z : ℕ). keys_answer ks ++ drop z u₀) (length-keys_answer ks ∙ sym from)

  pub keys-behind : (js : List Key) {v : List ℕ} → v ≡ written (keys_answer js) (take (y - a) (drop a u)) → take a u ++ (v ++ drop (y - a) (drop a u)) ≡ written (keys_answer (ks ++ js)) u₀
  keys-behind js {v} x =
      ap (λ (z : List ℕ). take a u ++ (z ++ drop (y - a) (drop a u))) (x ∙ ap (written (keys_answer js)) whole)
      ∙ ap (λ (z : List ℕ). take a u ++ (written (keys_answer js) (drop a u) ++ z)) nothing_left
      ∙ ap (λ (z : List ℕ). take a z ++ (written (keys_answer js) (drop a z) ++ [])) (e ∙ front)
      ∙ behind_front (keys_answer ks) (keys_answer js) u₀ a (length-keys_answer ks ∙ sym from)
      ∙ ap (λ (z : List ℕ). written z u₀) (sym (keys-append ks js))

-- keys listed by one call, and those that another lists on the table that it leaves
abbrev pub and_then : Listed → (Table → Listed) → Listed
and_then p g = record { keys = p.keys ++ (g p.table).keys; table = (g p.table).table }

abbrev afterwards : (Limits → Table → Listed) → State → State
afterwards f st = on_table (f (limits_of st) st.table).table st

pub listed_then : {s₀ s s₁ u₀ u v : List ℕ} {kept c a y : ℕ} (f g : Limits → Table → Listed) → KeysListed s₀ s u₀ u kept f → ((st : State) → Sound st → Sound (afterwards f st))
    → a ≡ key_bytes * kept → y ≡ length u → KeysListed s s₁ (take (y - a) (drop a u)) v c g
    → KeysListed s₀ s₁ u₀ (take a u ++ (v ++ drop (y - a) (drop a u))) (kept + c) (λ m t. and_then (f m t) (g m))
listed_then {s₀} {s} {s₁} {u₀} {u} {v} {kept} {c} {a} {y} f g l sound from end o = record {
  count = λ st x w. let ks = (f (limits_of st) st.table).keys in
      omega (arith, l.count st x w, o.count (afterwards f st) (sound st x) (l.table st x w), length-append ks (g (limits_of st) (afterwards f st).table).keys);
  keys = λ st x w. keys-behind u₀ u (f (limits_of st) st.table).keys a y (l.keys st x w) (from ∙ ap (λ (n : ℕ). key_bytes * n) (l.count st x w)) end
      (g (limits_of st) (afterwards f st).table).keys (o.keys (afterwards f st) (sound st x) (l.table st x w));
  table = λ st x w. o.table (afterwards f st) (sound st x) (l.table st x w);
}
