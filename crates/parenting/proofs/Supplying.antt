-- What is known of the victims: some are listed, or it is known that there are none; those listed go, and the parents that wait for them come in.
use Prim.Native.Nat.{ℕ, ◌<◌}
use mathlib.Core.Path.{◌≡◌, refl, sym, ap, subst, ◌∙◌}
use mathlib.Core.Bool.{Bool, true, false, not}
use mathlib.Core.List.{List, []}
use native.Mathlib.Omega.{arith}
use Rattle.std.specs.Prelude.{Option, is_some}
use Rattle.regions.specs.declared.Row.{Row}
use Rattle.machine.specs.State.{Table, State, on_table}
use Rattle.machine.specs.Announce.{greatest, victims, anywhere}
use Rattle.machine.proofs.Tests.{never}
use Rattle.store.proofs.Counts.{held-rows}
use Rattle.requests.specs.Changes.{Tells}
use Rattle.requests.proofs.Keeping.{sized_of}
use Rattle.announcing.specs.Evicts.{found}
use Rattle.announcing.specs.Falls.{cuts, VictimsIn}
use Rattle.announcing.proofs.Nobody.{none_greatest as nobody}
use Rattle.announcing.proofs.Scanning.{none_found}
use Rattle.gathering.specs.Merges.{gathered}
use Rattle.gathering.specs.Waits.{pushes}
use Rattle.gathering.specs.Deferring.{left_by, Gone}
use Rattle.gathering.proofs.Deferral.{left_sound, left_held, left_aside}
use Rattle.gathering.proofs.OneMore.{nobody_aside}
use Rattle.parenting.specs.Waiting.{marks, Beside, Waits, LetIn}
use Rattle.parenting.specs.Displacing.{Spent, Reserve, unlisted, Lacks, Owes, Supplied, Supplies, Restocked, Settled}
use Rattle.parenting.proofs.Starting.{none_sound, none_writes, none_empty}

pub some_listed : (m : ℕ) → (m ≡ 0 → ⊥) → 0 < m
some_listed m o = omega (arith, o)

pub supplied_unlisted : {n : ℕ} {b w : List ℕ} {d : ℕ} {st : State} {t : Table} (v : List ℕ) → Beside n b w d st t → (s : Bool) → (s ≡ true → Spent t) → Supplied n b w v d st t (unlisted s)
supplied_unlisted v x s k = record { free = λ _. x; owed = λ l. absurd (omega arith); none_left = k }

pub supplied_listed : {n : ℕ} {b w v : List ℕ} {d : ℕ} {st : State} {t : Table} {q : Reserve} → 0 < q.count → Owes n b w v d q.count st t → (q.spent ≡ true → Spent t) → Supplied n b w v d st t q
supplied_listed l x k = record { free = λ e. absurd (omega arith); owed = λ _. x; none_left = k }

-- once the victims have gone
owes_gone : {n : ℕ} {b b₁ w v : List ℕ} {d m : ℕ} {st : State} {t : Table} → Owes n b w v d m st t → Gone b b₁ v m d → Beside n b₁ w d st t
owes_gone {st = st} x g = record {
  base = left_by x.owing;
  entries = x.owing.entries;
  parental = x.parental;
  sound = left_sound x.owing;
  writes = g (on_table x.base st) x.owing.sound x.owing.writes x.owing.listed;
  aside = left_aside x.owing;
  room = omega (arith, left_held x.owing);
  together = x.together;
  table = x.table;
}

-- ---- victims listed

module _ {n : ℕ} {b w v : List ℕ} {d : ℕ} {q : Reserve} where
  module _ {f : Bool} (x : Lacks b d q f) (e : f ≡ true) where
    -- nobody waits
    bare : {st : State} {t : Table} → Supplied n b w v d st t q → Beside n b w 0 st t
    bare {st} {t} k = subst (λ (i : ℕ). Beside n b w i st t) (x.alone e) (k.free (x.unknown e))

    pub restocked_listed : {v' : List ℕ} {m : ℕ} → (m ≡ 0 → ⊥) → VictimsIn b v' m → Restocked n b w v v' d q (record { count = m; spent = false })
    unfolding pushes gathered cuts marks
    restocked_listed {v'} {m} o h st t a =
        let y = bare a in
        let s = none_sound y in
        let g = none_writes y in
        supplied_listed (some_listed m o) (subst (λ (i : ℕ). Owes n b w v' i m st t) (sym (x.alone e)) (record {
          base = t;
          owing = record {
            sound = s;
            writes = g;
            whole = omega (arith, x.full e (on_table t st) s g, (sized_of (on_table t st) s).rows_few, held-rows t);
            listed = h.listed (on_table t st) s g;
            few = omega arith;
            entries = [];
            aside = nobody_aside (none_empty y);
            preferred = tt;
            apart = tt;
          };
          listed = h;
          parental = tt;
          together = s;
          table = refl;
        })) (λ i. never i)

    -- there are none
    pub restocked_none : {v' : List ℕ} (y : Option Row) {s : Bool} {m : ℕ} → is_some y ≡ not s → m ≡ 0 → Tells b (λ (t : Table). found y ≡ greatest (victims anywhere t))
        → Restocked n b w v v' d q (record { count = m; spent = s })
    restocked_none {v'} y {s} {m} k i h = subst (λ (c : ℕ). Restocked n b w v v' d q (record { count = c; spent = s })) (sym i) (λ st t a.
        let z = bare a in
        supplied_unlisted v' (a.free (x.unknown e)) s (λ c. nobody (victims anywhere t) (sym (h (on_table t st) (none_sound z) (none_writes z)) ∙ none_found y (k ∙ ap not c))))

  -- ---- victims go

  module _ (o : q.count ≡ 0 → ⊥) where
    pub gone_waits : {b₁ : List ℕ} → Gone b b₁ v q.count d → Supplies n b w v d q → Waits n b₁ w d
    gone_waits g k = record { state = k.state; with_them = k.with_them; beside = owes_gone (k.supplied.owed (some_listed q.count o)) g }

    pub settled_gone : {b₁ b₂ w₂ : List ℕ} {e : ℕ} → Gone b b₁ v q.count d → LetIn n b₁ b₂ w w₂ d → e ≡ 0 → Settled n b b₂ w w₂ v d e q
    settled_gone {b₂ = b₂} {w₂ = w₂} g c e st t k =
        subst (λ (i : ℕ). Beside n b₂ w₂ i st t) (sym e) (c st t (owes_gone (k.owed (some_listed q.count o)) g))
