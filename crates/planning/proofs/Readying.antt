-- The candidates beside each owner that is due made ready, one turn after the other; then all of these owners dropped, where no place is held. Where nobody is due all stays.
use Prim.Native.Nat.{ℕ, suc, ◌+◌, ◌<◌}
use mathlib.Core.Path.{◌≡◌, refl, sym, ap, subst, ◌∙◌}
use mathlib.Core.Bool.{false}
use mathlib.Core.List.{List, [], ◌∷◌, ◌++◌}
use native.Mathlib.Numerals.{add-one}
use native.Mathlib.Omega.{arith}
use lib.ListN.{length, take, drop, length-map}
use Rattle.std.specs.Prelude as rust
use Rattle.ident.specs.Number.{top, Key, place, other}
use Rattle.machine.specs.Limits.{word}
use Rattle.machine.specs.State.{Table, State, limits_of, on_table}
use Rattle.machine.specs.Table.{change}
use Rattle.machine.specs.Fail.{Listed}
use Rattle.machine.specs.Plan.{Due, due, expire, expired}
use Rattle.machine.specs.Sound.{Sound}
use Rattle.machine.proofs.Kept.{sound-table}
use Rattle.machine.proofs.Plan.{due-typed}
use Rattle.machine.proofs.Tests.{never}
use Rattle.store.specs.Image.{Writes}
use Rattle.store.specs.Shown.{Kept}
use Rattle.requests.specs.Changes.{Makes, Tells}
use Rattle.failing.specs.Changes.{readied}
use Rattle.postponing.specs.Silent.{readied_both, dropped_all, Unburdened}
use Rattle.postponing.specs.Pending.{Unplaced}
use Rattle.postponing.proofs.Settled.{unburdened}
use Rattle.apart.specs.Bare.{bare, bare_state}
use Rattle.apart.specs.Apart.{Apart, at_rest, resting}
use Rattle.apart.proofs.BareTable.{sound-bare}
use Rattle.apart.proofs.OneOwner.{noted_none}
use Rattle.planning.specs.Expiring.{due_from, still_from, DueNext, NextDue, ExpiresAll}
use Rattle.planning.specs.Silent.{ready_each, silenced, MadeReady}
use Rattle.planning.specs.declared.expiring.Overdue.{Overdue}
use Rattle.planning.proofs.Overdue.{due_whole, due_first}
use Rattle.planning.proofs.BareDue.{due_from_bare}
use Rattle.planning.proofs.StillDue.{still_zero}
use Rattle.planning.proofs.AtOnce.{due_from_both, bounded_half, bounded_both, bounded_each, unplaced_each}
use Rattle.planning.proofs.Silence.{silent_is, silent-apart}
use Rattle.planning.proofs.AllExpired.{rest_clear}

-- ---- the loop

-- what is left to make ready, from the place x on
pub record ReadyOn (b : List ℕ) (now x : ℕ) (st : State) : Type 0 where
  pub now-table : Table
  pub sound : Sound (on_table now-table st)
  pub writes : Writes b (on_table now-table st)
  pub rest : ready_each now (due_from now x now-table) now-table ≡ ready_each now (due now st.table) st.table

abbrev pub ReadyWay : List ℕ → List ℕ → ℕ → ℕ → Type 0
ReadyWay b₀ b now x = (st : State) → Sound st → Writes b₀ st → ReadyOn b now x st

pub ready-starts : (b : List ℕ) (now x : ℕ) → x ≡ 0 → ReadyWay b b now x
ready-starts b now x e st s g = record {
  now-table = st.table;
  sound = s;
  writes = g;
  rest = ap (λ (i : ℕ). ready_each now (due_from now i st.table) st.table) e ∙ ap (λ (ds : List Due). ready_each now ds st.table)
      (due_whole now 0 0 st.table (omega arith) s.bounded.ordered);
}

module _ {b₀ b : List ℕ} {now x : ℕ} (way : ReadyWay b₀ b now x) where
  pub ready_kept : Kept b₀ → Kept b
  ready_kept k = let g = way k.state k.sound k.writes in record { state = on_table g.now-table k.state; sound = g.sound; writes = g.writes }

  pub half_kept : {b₁ : List ℕ} (k : Key) → now < word → k.hash < top → Makes b b₁ (λ (t : Table). Unit {0}) (change k (readied now)) → Kept b₀ → Kept b₁
  half_kept {b₁} k w s m kept =
      let g = way kept.state kept.sound kept.writes in
      record {
        state = on_table (change k (readied now) g.now-table) kept.state;
        sound = sound-table g.sound (bounded_half now w k s g.sound.bounded);
        writes = m (on_table g.now-table kept.state) g.sound g.writes tt;
      }

  pub ready_goes : {b₁ b₂ : List ℕ} {k j : Key} {n : ℕ} → now < word → DueNext b 0 now x k n → j ≡ other k → Makes b b₁ (λ (t : Table). Unit {0}) (change k (readied now))
      → Makes b₁ b₂ (λ (t : Table). Unit {0}) (change j (readied now)) → ReadyWay b₀ b₂ now (place k + 1)
  unfolding ready_each
  ready_goes {b₁} {b₂} {k} {j} {n} w next q m₁ m₂ st s g =
      let y = way st s g in
      let u = y.now-table in
      let u₁ = change k (readied now) u in
      let u₂ = readied_both now k u in
      let c = y.sound.bounded in
      let s₁ = sound-table y.sound (bounded_half now w k next.small c) in
      let g₁ = m₁ (on_table u st) y.sound y.writes tt in
      let l = next.first (on_table u st) y.sound y.writes in
      let e : due_from now x u ≡ record { key = k; connection = n } ∷ l.rest = sym (still_zero now x u) ∙ l.is in
      let same : due_from now (place k + 1) u₂ ≡ l.rest =
      ap (λ (i : ℕ). due_from now i u₂) (add-one (place k)) ∙ due_from_both now (suc (place k)) k u c.filled
      ∙ (due_first now x 0 u (record { key = k; connection = n }) l.rest c.ordered c.lawful e).rest in
      record {
        now-table = u₂;
        sound = sound-table y.sound (bounded_both now w k next.small c);
        writes = subst (λ (i : Key). Writes b₂ (on_table (change i (readied now) u₁) st)) q (m₂ (on_table u₁ st) s₁ g₁ tt);
        rest = ap (λ (ds : List Due). ready_each now ds u₂) same ∙ sym (ap (λ (ds : List Due). ready_each now ds u) e) ∙ y.rest;
      }

  pub ready-ends : Tells b (λ (t : Table). still_from 0 now x t ≡ []) → Makes b₀ b (λ (t : Table). Unit {0}) (λ (t : Table). ready_each now (due now t) t)
  unfolding ready_each
  ready-ends none st s g _ =
      let y = way st s g in
      let u = y.now-table in
      let e = sym (still_zero now x u) ∙ none (on_table u st) y.sound y.writes in
      subst (λ (t : Table). Writes b (on_table t st)) (sym (ap (λ (ds : List Due). ready_each now ds u) e) ∙ y.rest) y.writes

pub made_ready : {b b' : List ℕ} {now : ℕ} → now < word → Makes b b' (λ (t : Table). Unit {0}) (λ (t : Table). ready_each now (due now t) t) → MadeReady b b' now
made_ready {now = now} w m = record {
  sound = λ st s. let c = s.bounded in sound-table s (bounded_each now w (due now st.table) st.table (due-typed now 0 st.table c.ordered c.lawful) c);
  table = m;
}

pub made_silent : {b b₁ b₂ : List ℕ} {now : ℕ} → now < word → MadeReady b b₁ now → Makes b₁ b₂ (Unburdened now) (dropped_all now) → Makes b b₂ Unplaced (silenced now)
made_silent {now = now} w x m st s g p =
    let t = st.table in
    let c = s.bounded in
    let u = ready_each now (due now t) t in
    m (on_table u st) (x.sound st s) (x.table st s g tt) (unburdened now u (unplaced_each now w (due now t) t (due-typed now 0 t c.ordered c.lawful) c p))

-- ---- all

-- no places: nothing is noted
pub all_silent : {b b' f v : List ℕ} {m c now : ℕ} → now < word → c ≡ 0 → length v ≡ length (take m b) → Makes (take m b) v Unplaced (silenced now)
    → length b' ≡ length b → b' ≡ v ++ drop m b → ExpiresAll b b' f f m c now 0
all_silent w z nv makes nb e = record {
  most = omega arith;
  goes = λ st ps o n.
      let long : length (resting ps) ≡ length ps = length-map ps at_rest in
      let none : length (resting ps) ≡ 0 = omega arith in
      record {
        places = resting ps;
        apart = silent-apart o none w nv makes nb e;
        count = n ∙ sym long;
        few = λ j d g h. absurd (omega arith);
        keys = noted_none (resting ps) (λ j d g h. absurd (omega arith)) ∙ sym (ap (λ (x : Listed). x.keys) (silent_is o none w));
      };
}

-- nobody is due
none_told : (o : rust.Option Overdue) → rust.is_some o ≡ false → o ≡ rust.None
none_told rust.None e = refl
none_told (rust.Some d) e = never (sym e)

pub all_early : {b f : List ℕ} {m c now x : ℕ} (o : rust.Option Overdue) → x ≡ 0 → NextDue (take m b) 0 now x o → rust.is_some o ≡ false → ExpiresAll b b f f m c now 0
unfolding expire
all_early {b} {f} {m} {c} {now} {x} o z next e = record {
  most = omega arith;
  goes = λ st ps a n.
      let t = st.table in
      let told : still_from 0 now x (bare t) ≡ [] = next.ends (none_told o e) (bare_state st) (sound-bare a.sound) a.writes in
      let none : due now t ≡ [] =
      sym (due_whole now 0 0 t (omega arith) a.sound.bounded.ordered) ∙ sym (due_from_bare now 0 t) ∙ sym (still_zero now 0 (bare t))
      ∙ ap (λ (i : ℕ). still_from 0 now i (bare t)) (sym z) ∙ told in
      let same : expired now st ≡ record { keys = []; table = t } = ap (λ (ds : List Due). expire (limits_of st) now ds t) none in
      record {
        places = resting ps;
        apart = subst (λ (y : Listed). Apart b f m (on_table y.table st) (resting ps)) (sym same) a;
        count = n ∙ sym (length-map ps at_rest);
        few = λ j d g h. rest_clear ps j d h;
        keys = noted_none (resting ps) (λ j d g h. rest_clear ps j d h) ∙ sym (ap (λ (y : Listed). y.keys) same);
      };
}
