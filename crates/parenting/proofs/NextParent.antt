-- The next parent, whatever is known of the victims: how it is announced, and what is known then.
use Prim.Native.Nat.{ℕ, ◌<◌}
use mathlib.Core.Path.{◌≡◌, refl, sym, ap, subst, ◌∙◌}
use mathlib.Core.Bool.{Bool, true, false}
use mathlib.Core.List.{List}
use mathlib.Core.Option.{some}
use Rattle.ident.specs.Number.{top, txid, key_of}
use Rattle.machine.specs.Limits.{word}
use Rattle.machine.specs.State.{Candidate, Table, State, Answer, limits_of, on_table}
use Rattle.machine.specs.Fail.{parent_of}
use Rattle.machine.specs.Sound.{Sound}
use Rattle.machine.proofs.Fail.{Peer}
use Rattle.machine.proofs.Tests.{never}
use Rattle.store.specs.Image.{Writes}
use Rattle.announcing.specs.Answers.{one_parent}
use Rattle.gathering.specs.declared.beside.Fare.{Fare}
use Rattle.gathering.specs.declared.beside.Fare.TheVariants.{Nothing, Waits, Alone}
use Rattle.gathering.specs.contracts.beside.FarePartialEq.TheImpl.{eq-value}
use Rattle.gathering.specs.Counted.{then_wait}
use Rattle.gathering.specs.Deferring.{Deferred}
use Rattle.parenting.specs.Waiting.{LetIn, Next, NextIn}
use Rattle.parenting.specs.Displacing.{Spent, Reserve, unlisted, ShutOut, Unknown, Unaided, Supplied, Restocked, Settled, Further, FurtherAt, FurtherIn, FurtherAlone, DefersWith, SpentIn}
use Rattle.parenting.proofs.Starting.{none_sound, none_writes}
use Rattle.parenting.proofs.Waiting.{alone_by}
use Rattle.parenting.proofs.Spent.{spent_next, spent_left}
use Rattle.parenting.proofs.Supplying.{some_listed, supplied_unlisted, supplied_listed}
use Rattle.parenting.proofs.Deferred.{defers_reply, defers-owes, stays-owes, stays-reply, stays_table}

-- ---- one more waits for a victim

-- by what was made of it
by_fare : {n now h i : ℕ} {b w w' v : List ℕ} {d m : ℕ} {k : Candidate} {r : Fare} → k ≡ parent_of n now h i → Deferred b w w' v d m (key_of k.item) k r → (f : Fare) → r ≡ f
    → Deferred b w w' v d m (some (txid h)) (parent_of n now h i) f
by_fare {n} {now} {h} {i} {b} {w} {w'} {v} {d} {m} {k} {r} same a f e =
    subst (Deferred b w w' v d m (some (txid h)) (parent_of n now h i)) e (subst (λ (c : Candidate). Deferred b w w' v d m (key_of c.item) c r) same a)

module _ {n now h i : ℕ} {b w w' v : List ℕ} {d : ℕ} {q : Reserve} (p : Peer n) (late : now < word) (short : i < word) (low : h < top) (o : q.count ≡ 0 → ⊥)
    {k : Candidate} (same : k ≡ parent_of n now h i) {r : Fare} (a : Deferred b w w' v d q.count (key_of k.item) k r) where
  -- its connection has announced the hash
  pub defers_known : r ≡ Nothing → DefersWith n now h i b w w' v d q Alone
  defers_known e = record {
    nothing = λ g. cc;
    waits = λ g. cc;
    alone = λ _ st t x. let l = some_listed q.count o in supplied_listed l (stays-owes (x.owed l) p late short low (by_fare same a Nothing e)) x.none_left;
  }

  -- it waits, or changes nothing: e wait then
  pub defers_in : {e : ℕ} {u : Bool} → e ≡ then_wait d r → (r ≡ Nothing → Unknown b w' e h n u) → (r ≡ Nothing → u ≡ false) → DefersWith n now h i b w w' v d q r
  defers_in {u = u} g k f = record {
    nothing = λ e st t x.
        let l = some_listed q.count o in
        let y = x.owed l in
        let c = by_fare same a Nothing e in
        let unknown = subst (λ (j : ℕ). Unknown b w' j h n u) (g ∙ ap (then_wait d) e) (k e) in
        record {
          reply = stays-reply y p late short low c unknown (f e);
          supplied = subst (λ (j : Table). Supplied n b w' v d st j q) (sym (stays_table y p late short low c unknown (f e))) (supplied_listed l (stays-owes y p late short low c) x.none_left);
        };
    waits = λ e st t x.
        let l = some_listed q.count o in
        let y = x.owed l in
        let c = by_fare same a Waits e in
        record {
          reply = defers_reply y p late short low c;
          supplied = supplied_listed l (defers-owes y p late short low c) (λ s. spent_next (limits_of st) n now h i t (x.none_left s));
        };
    alone = λ e st t x. subst (λ (f : List ℕ). Supplied n b f v d st t q) (sym ((by_fare same a Alone e).alone refl)) x;
  }

-- the test by which it is told
pub is_nothing : (r : Fare) {x : Bool} → x ≡ eq-value.it r Nothing → x ≡ true → r ≡ Nothing
is_nothing Nothing e o = refl
is_nothing Waits e o = never (sym e ∙ o)
is_nothing Alone e o = never (sym e ∙ o)

pub not_nothing : (r : Fare) {x : Bool} → x ≡ eq-value.it r Nothing → x ≡ false → r ≡ Nothing → ⊥
not_nothing Nothing e o z = never (sym o ∙ e)
not_nothing Waits e o z = cc
not_nothing Alone e o z = cc

-- ---- one parent, where no candidate can be evicted

module _ {b : List ℕ} {n now h i : ℕ} where
  pub unaided_shut : {r : Bool} → ShutOut b h n r → r ≡ true → h < top → Unaided b b n now h i false
  unaided_shut x e low = record {
    reply = λ st s g k. sym (ap (λ (a : Answer). a.reply) (left st s g k));
    table = λ st s g k. subst (λ (a : Answer). Writes b (on_table a.table st)) (sym (left st s g k)) g;
  }
    where
      left : (st : State) → Sound st → Writes b st → Spent st.table → one_parent (limits_of st) n now h i st.table ≡ record { reply = false; table = st.table }
      left st s g k = spent_left (limits_of st) n now h i st.table low s.bounded.ordered k (x.new e st s g) (x.full e st s g)

  pub spent-alone : {b₁ b₂ w w₁ : List ℕ} {d : ℕ} {r : Bool} → Peer n → now < word → i < word → h < top → LetIn n b b₁ w w₁ d → Unaided b₁ b₂ n now h i r
      → SpentIn n now h i b b₂ w w₁ d r
  spent-alone p late short low x a st t v k =
      let y = x st t v in
      alone_by y p late short low (a.reply (on_table t st) (none_sound y) (none_writes y) k) (a.table (on_table t st) (none_sound y) (none_writes y) k)

  -- ---- where nothing is listed

  module _ {b' w w' : List ℕ} {d : ℕ} {s : Bool} where
    pub further-spent : {r : Bool} {e : ℕ} → s ≡ true → e ≡ 0 → SpentIn n now h i b b' w w' d r
        → FurtherAlone n now h i b b' w w' d (unlisted s) (record { kept = r; waiting = e; reserve = unlisted s })
    further-spent {r} {e} z c x v st t y =
        let g = y.none_left z in
        let a = x st t (y.free refl) g in
        subst (λ (f : ℕ). FurtherAt n now h i b' w' v st t (record { kept = r; waiting = f; reserve = unlisted s })) (sym c)
        (record { reply = a.reply; supplied = supplied_unlisted v a.beside s (λ _. spent_next (limits_of st) n now h i t g) })

    pub further_next : {r : Next} → NextIn n now h i b b' w w' d r → FurtherAlone n now h i b b' w w' d (unlisted s) (record { kept = r.kept; waiting = r.waiting; reserve = unlisted s })
    further_next x v st t y =
        let a = x st t (y.free refl) in
        record { reply = a.reply; supplied = supplied_unlisted v a.beside s (λ e. spent_next (limits_of st) n now h i t (y.none_left e)) }

  -- ---- the whole

  -- the victims that were listed go, and where none is listed any more it is announced
  pub settled-further : {b₁ b₂ w w₁ w₂ v v₂ : List ℕ} {d e m : ℕ} {q g : Reserve} {kept : Bool} → Settled n b b₁ w w₁ v d e q → g ≡ unlisted q.spent
      → FurtherAlone n now h i b₁ b₂ w₁ w₂ e (unlisted g.spent) (record { kept = kept; waiting = m; reserve = unlisted g.spent })
      → FurtherIn n now h i b b₂ w w₂ v v₂ d q (record { kept = kept; waiting = m; reserve = g })
  settled-further {b₂ = b₂} {w₂ = w₂} {v₂ = v₂} {m = m} {q = q} {g = g} {kept = kept} s k a st t o =
      let same : g.spent ≡ q.spent = ap (λ (j : Reserve). j.spent) k in
      subst (λ (j : Reserve). FurtherAt n now h i b₂ w₂ v₂ st t (record { kept = kept; waiting = m; reserve = j })) (sym (k ∙ ap unlisted (sym same)))
      (a v₂ st t (supplied_unlisted v₂ (s st t o) g.spent (λ l. o.none_left (sym same ∙ l))))

  -- it is announced by itself, with what is known then
  pub further-restocked : {b₂ w w' w₂ v v' v₂ : List ℕ} {d d' : ℕ} {q q' : Reserve} {r : Fare} {f : Further} → Restocked n b w v v' d q q' → DefersWith n now h i b w w' v' d q' r
      → r ≡ Alone → d' ≡ then_wait d r → FurtherIn n now h i b b₂ w' w₂ v' v₂ d' q' f → FurtherIn n now h i b b₂ w w₂ v v₂ d q f
  further-restocked {w' = w'} {v' = v'} {d = d} {q' = q'} x y z c a st t o =
      a st t (subst (λ (j : ℕ). Supplied n b w' v' j st t q') (sym (c ∙ ap (then_wait d) z)) (y.alone z st t (x st t o)))
