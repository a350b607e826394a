-- The walk that hands keys out, turn by turn.
use Prim.Native.Nat.{ℕ, min, ◌+◌, ◌*◌, ◌≤◌, ◌<◌}
use mathlib.Core.Path.{◌≡◌, refl, sym, ap, subst, ◌∙◌}
use mathlib.Core.Bool.{Bool, true, false}
use mathlib.Core.List.{List, [], ◌∷◌, ◌++◌, append_assoc, append-nil}
use mathlib.Core.Option.{Option, none, some}
use native.Mathlib.Omega.{arith}
use lib.ListN.{length, take, get_or, length-append}
use lib.Seq.{take_all}
use Rattle.ident.specs.Number.{Key}
use Rattle.words.proofs.Splice.{length-splice}
use Rattle.regions.specs.declared.Row.{Row}
use Rattle.machine.specs.Limits.{max_known_checks}
use Rattle.machine.specs.State.{State}
use Rattle.machine.specs.Table.{keys}
use Rattle.machine.specs.Sound.{Sound}
use Rattle.machine.specs.Sweep.{last_of, round, handed}
use Rattle.machine.specs.Call.{key_bytes}
use Rattle.machine.specs.Step.{key_answer, keys_answer, written}
use Rattle.machine.proofs.AnswerLengths.{length-key_answer}
use Rattle.store.specs.Flat.{Flat, flat_of, rows_of}
use Rattle.store.specs.Gather.{key_at}
use Rattle.store.specs.Image.{Shows, Writes}
use Rattle.store.specs.Shown.{limit_in, rows_in}
use Rattle.store.proofs.Frame.{sizes}
use Rattle.lent_lists.proofs.Answer.{written_more, written_none}
use Rattle.announcing.specs.Evicts.{part}
use Rattle.cursors.specs.InWords.{Stands}
use Rattle.sweeping.specs.declared.batch.Batch.{Batch}
use Rattle.sweeping.specs.Batches.{next_batch, keys_over, last_row, Put, Handing, Walks, AfterKnown, Batched}
use Rattle.sweeping.proofs.Rounds.{key-ends, key_goes_on, over_none}

-- ---- what is handed out

last_more : (ks : List Key) (k : Key) → last_of (ks ++ (k ∷ [])) ≡ some k
unfolding last_of
last_more [] k = refl
last_more (a ∷ []) k = refl
last_more (a ∷ (b ∷ ks)) k = last_more (b ∷ ks) k

pub handing_none : (most : ℕ) (u : List ℕ) (v : Batch) (ks : List Key) → v.count ≡ 0 → Stands v.last none → Handing most (take most ks) u u v ks
unfolding last_of
handing_none most u v ks c l = record { out = []; count = c; bytes = written_none u; long = refl; last = l; all_are = refl }

module _ {most : ℕ} {all : List Key} {u₀ u : List ℕ} {v : Batch} where
  handing_as : (a : List Key) {b : List Key} → a ≡ b → Handing most all u₀ u v a → Handing most all u₀ u v b
  handing_as a e h = subst (λ (x : List Key). Handing most all u₀ u v x) e h

  handing_more : (r : Row) (rest : List Key) {u' : List ℕ} {w : Batch} → key_bytes * v.count + key_bytes ≤ length u → Put u u' v r w → Handing most all u₀ u v (key_at r ∷ rest)
      → Handing most all u₀ u' w rest
  handing_more r rest room p h =
      let c = h.count in
      let m = length-key_answer (key_at r) in
      record {
        out = h.out ++ (key_at r ∷ []);
        count = p.count ∙ rw (length-append h.out (key_at r ∷ [])) (omega (arith, c));
        bytes = p.bytes ∙ rw (h.bytes, c) (written_more h.out (key_at r) u₀ (omega (arith, c, room, h.long)));
        long = ap length p.bytes ∙ length-splice u (key_bytes * v.count) (key_answer (key_at r)) (omega (arith, m, room)) ∙ h.long;
        last = p.last ∙ sym (last_more h.out (key_at r));
        all_are = ap (take most) (append_assoc h.out (key_at r ∷ []) rest) ∙ h.all_are;
      }

-- ---- the loop's invariant: the rows before i are done

pub record Walking (b : List ℕ) (from to most : ℕ) (u₀ u : List ℕ) (v w : Batch) (i : ℕ) : Type 0 where
  pub inside : i ≤ to
  pub long : length u ≡ length u₀
  pub few : w.count ≤ most
  pub near : w.count + from ≤ v.count + i
  pub hands : (f : Flat) (all rest : List Key) (x : List ℕ) → Shows b f → Handing most all x u₀ v (keys_over from to f.rows ++ rest) → Handing most all x u w (keys_over i to f.rows ++ rest)

min_above : (a x y : ℕ) → a ≤ x → a ≤ y → a ≤ min x y
min_above a x y h g = omega arith

module _ {b : List ℕ} {from to most : ℕ} {u₀ u : List ℕ} {v w : Batch} {i : ℕ} (k : Walking b from to most u₀ u v w i) where
  pub walking_done : to ≤ i → Walks b from to most u₀ u v w
  walking_done e = record {
    few = k.few;
    near = omega (arith, k.near, k.inside);
    hands = λ f all rest x s g. handing_as (keys_over i to f.rows ++ rest) (ap (λ (l : List Key). l ++ rest) (over_none f.rows i to e)) (k.hands f all rest x s g);
  }

  module _ (l : i < to) where
    pub walking_room : (w.count ≡ most → ⊥) → v.count + to ≤ limit_in b + from → key_bytes * min most (limit_in b) ≤ length u₀ → key_bytes * w.count + key_bytes ≤ length u
    walking_room n h room =
        let a : w.count + 1 ≤ min most (limit_in b) = min_above (w.count + 1) most (limit_in b) (omega (arith, k.few, n)) (omega (arith, k.near, h)) in
        omega (arith, a, room, k.long)

    module _ (m : to ≤ rows_in b) {r : Row} (e : (f : Flat) (d : Row) → Shows b f → r ≡ get_or f.rows i d) {y : Bool} (q : (f : Flat) → Shows b f → y ≡ last_row r (part (i + 1) to f.rows)) where
      fits : (f : Flat) → Shows b f → to ≤ length f.rows
      fits f s = omega (arith, m, (sizes s).rows)

      pub walking_skip : y ≡ false → Walking b from to most u₀ u v w (i + 1)
      walking_skip t = record {
        inside = omega arith;
        long = k.long;
        few = k.few;
        near = omega (arith, k.near);
        hands = λ f all rest x s g. handing_as (keys_over i to f.rows ++ rest) (ap (λ (z : List Key). z ++ rest) (key_goes_on f.rows i to r l (fits f s) (e f r s) (q f s) t))
            (k.hands f all rest x s g);
      }

      pub walking_more : {u' : List ℕ} {w' : Batch} → y ≡ true → (w.count ≡ most → ⊥) → key_bytes * w.count + key_bytes ≤ length u → Put u u' w r w' → Walking b from to most u₀ u' v w' (i + 1)
      walking_more t n room p = record {
        inside = omega arith;
        long = ap length p.bytes ∙ length-splice u (key_bytes * w.count) (key_answer (key_at r)) (omega (arith, length-key_answer (key_at r), room)) ∙ k.long;
        few = omega (arith, k.few, n, p.count);
        near = omega (arith, k.near, p.count);
        hands = λ f all rest x s g. handing_more r (keys_over (i + 1) to f.rows ++ rest) room p
            (handing_as (keys_over i to f.rows ++ rest) (ap (λ (z : List Key). z ++ rest) (key-ends f.rows i to r l (fits f s) (e f r s) (q f s) t)) (k.hands f all rest x s g));
      }

-- ---- the parts of a walk put together

module _ {most : ℕ} {all : List Key} {u₀ u : List ℕ} {v : Batch} (h : Handing most all u₀ u v []) (few : v.count ≤ most) where
  out_is : h.out ≡ all
  out_is = sym (take_all most h.out (omega (arith, h.count, few))) ∙ ap (take most) (sym (append-nil h.out)) ∙ h.all_are

  done_count : v.count ≡ length all
  done_count = h.count ∙ ap length out_is

  done_bytes : u ≡ written (keys_answer all) u₀
  done_bytes = h.bytes ∙ ap (λ (ks : List Key). written (keys_answer ks) u₀) out_is

  done_last : Stands v.last (last_of all)
  done_last = h.last ∙ ap last_of out_is

handed_by : (c : Option Key) (ks : List Key) {xs : List Key} → xs ≡ round c ks → take max_known_checks xs ≡ handed c ks
unfolding handed
handed_by c ks e = ap (take max_known_checks) e

-- the rows after the known cursor, then those before
pub batched : {b u u₁ u₂ : List ℕ} {from n : ℕ} {z v w : Batch} → n ≡ rows_in b → AfterKnown b from → z.count ≡ 0 → Stands z.last none
    → Walks b from n max_known_checks u u₁ z v → Walks b 0 from max_known_checks u₁ u₂ v w → Batched b u u₂ w
batched {b} {u} {u₂ = u₂} {from} {n} {z} {v} {w} en a zc zl p q = record {
  count = λ st s x. done_count (handing st s x) q.few;
  keys-are = λ st s x. done_bytes (handing st s x) q.few;
  last = λ st s x. done_last (handing st s x) q.few;
}
  where
    handing : (st : State) → Sound st → Writes b st → Handing max_known_checks (next_batch st) u u₂ w []
    handing st s x =
        let rs = rows_of st.table in
        let lo = keys_over 0 from rs in
        let e : keys_over from n rs ++ (lo ++ []) ≡ round st.known_cursor (keys st.table) = rw (append-nil lo, en) (a.round_is st s x) in
        subst (λ (ks : List Key). Handing max_known_checks ks u u₂ w []) (handed_by st.known_cursor (keys st.table) e)
        (q.hands (flat_of st) _ [] u x (p.hands (flat_of st) _ (lo ++ []) u x (handing_none max_known_checks u z (keys_over from n rs ++ (lo ++ [])) zc zl)))
