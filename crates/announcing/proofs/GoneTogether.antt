-- Once the first of the victims have gone: what is left of the table, and what is not touched.
use Prim.Native.Nat.{ℕ, ◌+◌, ◌<◌}
use mathlib.Core.Path.{◌≡◌, refl, sym, ap, ◌∙◌}
use mathlib.Core.Bool.{Bool, false}
use mathlib.Core.List.{List, [], ◌∷◌, ◌++◌, map}
use native.Mathlib.Omega.{arith}
use lib.ListN.{length}
use Rattle.ident.specs.Number.{top, Key, txid, wtxid}
use Rattle.regions.specs.declared.Row.{Row}
use Rattle.machine.specs.State.{Entry, Request, State, Table, on_table}
use Rattle.machine.specs.Table.{at, one, count, held}
use Rattle.machine.specs.Announce.{victims_in, victims, at_hash, cut}
use Rattle.machine.specs.Sound.{Ordered, Sound}
use Rattle.machine.specs.Typed.{Each}
use Rattle.store.specs.Flat.{rows_of, places_of}
use Rattle.store.specs.Gather.{key_at}
use Rattle.announcing.specs.Evicts.{entry_at}
use Rattle.announcing.specs.Falls.{fallen, cuts, Foremost}
use Rattle.announcing.proofs.Entering.{cleared-sound}
use Rattle.announcing.proofs.Giving.{first_goes, next_first, rest_fallen, count_less, one_less, places_less}
use Rattle.announcing.proofs.Victims.{at-hash}

-- ---- one more

pub cuts_more : (vs : List Row) (v : Row) (t : Table) → cuts (vs ++ (v ∷ [])) t ≡ cut (key_at v) v.conn (cuts vs t)
unfolding cuts
cuts_more [] v t = refl
cuts_more (x ∷ vs) v t = cuts_more vs v (cut (key_at x) x.conn t)

-- ---- what is left

-- the state once the first has gone
module _ (st : State) (s : Sound st) (v : Row) (vs : List Row) (f : Foremost (v ∷ vs) (rows_of st.table)) where
  abbrev then : State
  then = on_table (cut (key_at v) v.conn st.table) st

  then_sound : Sound then
  then_sound = cleared-sound st s v (first_goes st s v vs f)

pub cuts-sound : (st : State) → Sound st → (vs ws : List Row) → Foremost (vs ++ ws) (rows_of st.table) → Sound (on_table (cuts vs st.table) st)
unfolding cuts
cuts-sound st s [] ws f = s
cuts-sound st s (v ∷ vs) ws f = cuts-sound (then st s v (vs ++ ws) f) (then_sound st s v (vs ++ ws) f) vs ws (next_first st s v (vs ++ ws) f)

pub cuts_left : (st : State) → Sound st → (vs ws : List Row) → Foremost (vs ++ ws) (rows_of st.table) → Foremost ws (rows_of (cuts vs st.table))
unfolding cuts
cuts_left st s [] ws f = f
cuts_left st s (v ∷ vs) ws f = cuts_left (then st s v (vs ++ ws) f) (then_sound st s v (vs ++ ws) f) vs ws (next_first st s v (vs ++ ws) f)

pub cuts-fallen : (st : State) → Sound st → (vs ws : List Row) → Foremost (vs ++ ws) (rows_of st.table) → fallen [] (rows_of st.table) ≡ map entry_at vs ++ fallen [] (rows_of (cuts vs st.table))
unfolding cuts
cuts-fallen st s [] ws f = refl
cuts-fallen st s (v ∷ vs) ws f =
    rest_fallen st s v (vs ++ ws) f
    ∙ ap (λ (l : List Entry). entry_at v ∷ l) (cuts-fallen (then st s v (vs ++ ws) f) (then_sound st s v (vs ++ ws) f) vs ws (next_first st s v (vs ++ ws) f))

-- as many less
pub cuts_held : (st : State) → Sound st → (vs ws : List Row) → Foremost (vs ++ ws) (rows_of st.table) → held (cuts vs st.table) + length vs ≡ held st.table
unfolding cuts
cuts_held st s [] ws f = omega arith
cuts_held st s (v ∷ vs) ws f =
    omega (arith, cuts_held (then st s v (vs ++ ws) f) (then_sound st s v (vs ++ ws) f) vs ws (next_first st s v (vs ++ ws) f), one_less st s v (vs ++ ws) f)

-- a count in which none of them is
pub cuts-count : (q : Key → ℕ → Bool) (st : State) → Sound st → (vs ws : List Row) → Foremost (vs ++ ws) (rows_of st.table) → Each (λ (y : Row). q (key_at y) y.conn ≡ false) vs
    → count q (cuts vs st.table) ≡ count q st.table
unfolding cuts
cuts-count q st s [] ws f n = refl
cuts-count q st s (v ∷ vs) ws f n =
    omega (arith, cuts-count q (then st s v (vs ++ ws) f) (then_sound st s v (vs ++ ws) f) vs ws (next_first st s v (vs ++ ws) f) n.1, count_less st s v (vs ++ ws) f q, ap one n.0)

pub cuts-places : (st : State) → Sound st → (vs ws : List Row) → Foremost (vs ++ ws) (rows_of st.table) → places_of (cuts vs st.table) ≡ places_of st.table
unfolding cuts
cuts-places st s [] ws f = refl
cuts-places st s (v ∷ vs) ws f =
    cuts-places (then st s v (vs ++ ws) f) (then_sound st s v (vs ++ ws) f) vs ws (next_first st s v (vs ++ ws) f) ∙ places_less st s v (vs ++ ws) f

-- ---- elsewhere

-- who can be evicted at a hash is told by its two requests
pub victims_there : (h : ℕ) → h < top → (t u : Table) → Ordered 0 t → Ordered 0 u → at (txid h) u ≡ at (txid h) t → at (wtxid h) u ≡ at (wtxid h) t → victims (at_hash h) u ≡ victims (at_hash h) t
victims_there h s t u o p a b =
    at-hash h s 0 u p
    ∙ ap (λ (q : Request). victims_in q q.candidates ++ victims_in (at (wtxid h) u) (at (wtxid h) u).candidates) a
    ∙ ap (λ (q : Request). victims_in (at (txid h) t) (at (txid h) t).candidates ++ victims_in q q.candidates) b
    ∙ sym (at-hash h s 0 t o)
