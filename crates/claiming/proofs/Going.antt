-- A claim on the bytes, entry by entry: what is left of the list, from the table that stands, comes to the same as the whole list.
use Prim.Native.Nat.{ℕ, ◌+◌, ◌*◌, ◌≤◌}
use mathlib.Core.Path.{◌≡◌, refl, sym, ap, subst, ◌∙◌}
use mathlib.Core.Logic.{inl, inr}
use mathlib.Core.Bool.{true, false}
use mathlib.Core.List.{List, [], ◌∷◌, ◌++◌, append_assoc, append-nil}
use native.Mathlib.Omega.{arith}
use lib.ListN.{length, length-append}
use Rattle.machine.specs.Limits.{latest_clock}
use Rattle.machine.specs.State.{Entry, Table, State, limits_of, on_table}
use Rattle.machine.specs.Claim.{takes, claim}
use Rattle.machine.specs.Sound.{Bounded, Sound}
use Rattle.machine.specs.Call.{entry_bytes}
use Rattle.machine.specs.Step.{entries_answer, written}
use Rattle.machine.proofs.Claim.{takes-means, bounded-take}
use Rattle.machine.proofs.Kept.{sound-table}
use Rattle.machine.proofs.Tests.{test, by_test}
use Rattle.machine.proofs.Owning.{one_most}
use Rattle.store.specs.Image.{Writes}
use Rattle.store.specs.Shown.{Kept}
use Rattle.claiming.specs.Claiming.{taking, OneMore, Claims}
use Rattle.claiming.proofs.Stored.{written_more, written_none}

-- from the state st, the entries before rest have been claimed: n of them taken, which u has over the first bytes of u₀
pub record Going (now : ℕ) (l rest : List Entry) (st : State) (s u₀ u : List ℕ) (n : ℕ) : Type 0 where
  pub table : Table
  pub done : List Entry
  pub sound : Sound (on_table table st)
  pub writes : Writes s (on_table table st)
  pub count : n ≡ length done
  pub bytes : u ≡ written (entries_answer done) u₀
  pub entries : (claim now l st.table).entries ≡ done ++ (claim now rest table).entries
  pub end : (claim now l st.table).table ≡ (claim now rest table).table

pub going_start : (now : ℕ) (l : List Entry) (st : State) (s u : List ℕ) → Sound st → Writes s st → Going now l l st s u u 0
going_start now l st s u g w = record { table = st.table; done = []; sound = g; writes = w; count = refl; bytes = written_none u; entries = refl; end = refl }

-- ---- one entry more

module _ {now n : ℕ} {l rest : List Entry} {st : State} {s s' u₀ u u' : List ℕ} {n' : ℕ} (a : Entry) (late : now ≤ latest_clock) (v : Going now l (a ∷ rest) st s u₀ u n)
    (x : OneMore s s' u u' now a n n') (room : entry_bytes * n + entry_bytes ≤ length u₀) where
  abbrev t : Table
  t = v.table

  abbrev t' : Table
  t' = (taking now a t).table

  reply : takes now a t ≡ x.taken
  reply = sym (x.answered.reply (on_table t st) v.sound v.writes)

  next_sound : Sound (on_table t' st)
  next_sound = sound-table v.sound
      (by_test (Bounded (limits_of st) st.places) (takes now a t) (λ e. bounded-take now a x.small (omega (arith, late)) (takes-means now a t e) v.sound.bounded) (λ e. v.sound.bounded))

  next_writes : Writes s' (on_table t' st)
  next_writes = x.answered.table (on_table t st) v.sound v.writes

  going-taken : x.taken ≡ true → Going now l rest st s' u₀ u' n'
  unfolding claim
  going-taken e = record {
    table = t';
    done = v.done ++ (a ∷ []);
    sound = next_sound;
    writes = next_writes;
    count = x.count ∙ rw e (omega (arith, v.count, length-append v.done (a ∷ [])));
    bytes = x.bytes ∙ rw e (rw (v.bytes, v.count) (written_more v.done a u₀ (rw v.count at room)));
    entries = v.entries ∙ rw (reply ∙ e) (sym (append_assoc v.done (a ∷ []) _));
    end = v.end;
  }

  going_left : x.taken ≡ false → Going now l rest st s' u₀ u' n'
  unfolding claim
  going_left e = record {
    table = t';
    done = v.done;
    sound = next_sound;
    writes = next_writes;
    count = x.count ∙ rw e (omega (arith, v.count));
    bytes = x.bytes ∙ rw e v.bytes;
    entries = v.entries ∙ rw (reply ∙ e) refl;
    end = v.end;
  }

  pub going_more : Going now l rest st s' u₀ u' n'
  going_more = elim (test x.taken) [ inl e ↦ going-taken e | inr e ↦ going_left e ]

-- ---- the whole list

pub claims_done : {now n : ℕ} {l : List Entry} {s₀ s u₀ u : List ℕ} → ((st : State) → Sound st → Writes s₀ st → Going now l [] st s u₀ u n) → Claims s₀ s u₀ u now l n
unfolding claim
claims_done {s = s} {u₀ = u₀} f = record {
  count = λ st g w. let v = f st g w in v.count ∙ ap length (sym (v.entries ∙ append-nil v.done));
  entries = λ st g w. let v = f st g w in v.bytes ∙ ap (λ (d : List Entry). written (entries_answer d) u₀) (sym (v.entries ∙ append-nil v.done));
  table = λ st g w. let v = f st g w in subst (λ (t : Table). Writes s (on_table t st)) (sym v.end) v.writes;
}

-- what each turn asks of the bytes
pub going_kept : {now n : ℕ} {l rest : List Entry} {st : State} {s u₀ u : List ℕ} → Going now l rest st s u₀ u n → Kept s
going_kept {st = st} v = record { state = on_table v.table st; sound = v.sound; writes = v.writes }

-- ---- the loop's invariant: i entries have been claimed, rest is left

pub record Turning (now : ℕ) (l rest : List Entry) (s₀ s u₀ u : List ℕ) (n i : ℕ) : Type 0 where
  pub few : n ≤ i
  pub store_long : length s ≡ length s₀
  pub buffer-long : length u ≡ length u₀
  pub going : (st : State) → Sound st → Writes s₀ st → Going now l rest st s u₀ u n

pub turning_start : (now : ℕ) (l : List Entry) (s u : List ℕ) → Turning now l l s s u u 0 0
turning_start now l s u = record { few = omega arith; store_long = refl; buffer-long = refl; going = λ st g w. going_start now l st s u g w }

module _ {now n i : ℕ} {l rest : List Entry} {s₀ s u₀ u : List ℕ} (v : Turning now l rest s₀ s u₀ u n i) where
  pub turning_more : {s' u' : List ℕ} {n' : ℕ} (a : Entry) (rest' : List Entry) → rest ≡ a ∷ rest' → now ≤ latest_clock → entry_bytes * i + entry_bytes ≤ length u₀ → length s' ≡ length s
      → length u' ≡ length u → OneMore s s' u u' now a n n'
      → Turning now l rest' s₀ s' u₀ u' n' (i + 1)
  turning_more {s'} {u'} {n'} a rest' e late room p q x = record {
    few = omega (arith, v.few, x.count, one_most x.taken);
    store_long = p ∙ v.store_long;
    buffer-long = q ∙ v.buffer-long;
    going = λ st g w. going_more a late (subst (λ (r : List Entry). Going now l r st s u₀ u n) e (v.going st g w)) x (omega (arith, v.few));
  }

  pub turning_done : rest ≡ [] → Claims s₀ s u₀ u now l n
  turning_done e = claims_done (λ st g w. subst (λ (r : List Entry). Going now l r st s u₀ u n) e (v.going st g w))
