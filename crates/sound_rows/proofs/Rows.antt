-- Rows each fit to stand behind the one before it, by their index: what FlatSound says of the rows in order.
use Prim.Native.Nat.{ℕ, zero, suc, ◌+◌, ◌-◌, ◌≤◌, ◌<◌}
use mathlib.Core.Path.{◌≡◌, refl, sym, ◌∙◌}
use mathlib.Core.List.{List, [], ◌∷◌}
use native.Mathlib.Omega.{arith}
use Rattle.ident.specs.Number.{place}
use Rattle.words.specs.Words.{recs}
use Rattle.machine.specs.Typed.{Each}
use Rattle.regions.specs.declared.Row.{Row}
use Rattle.regions.specs.Rows.{row_size, read_row}
use Rattle.store.specs.Gather.{key_at}
use Rattle.store.specs.FlatSound.{RowFits, Ascending, MarkedAs}
use Rattle.sound_rows.specs.Rows.{RowPlain, Follows, RowsSound}
use Rattle.sound_rows.specs.Groups.{row_at}
use Rattle.sound_rows.proofs.Decide.{Chain, rest, rest_all, rest_turn, rest_none}
use Rattle.sound_rows.proofs.Ranges.{RowRanges}

-- r stands right behind p
pub record RowStep (p r : Row) : Type 0 where
  pub fit : RowFits r
  pub follows : Follows p r

pub row_fits : {r : Row} → RowRanges r → RowPlain r → RowFits r
row_fits g p = record { hash = g.hash; positive = p.positive; conn = g.conn; ready = g.ready; prio = g.prio; deadline = g.deadline; idle = p.idle; bits = p.bits; plain = p.plain }

pub row_plain : {r : Row} → RowFits r → RowPlain r
row_plain f = record { positive = f.positive; idle = f.idle; bits = f.bits; plain = f.plain }

record Behind (p : Row) (rs : List Row) : Type 0 where
  fit : Each RowFits rs
  ascending : Ascending (place (key_at p)) rs
  marks : MarkedAs p rs

behind : (p : Row) (rs : List Row) → Chain RowStep p rs → Behind p rs
unfolding Chain
behind p [] c = record { fit = tt; ascending = tt; marks = tt }
behind p (r ∷ rs) c =
    let b = behind r rs c.1 in
    record { fit = (c.0.fit, b.fit); ascending = (c.0.follows.order, b.ascending); marks = (c.0.follows.mark, b.marks) }

module _ (w : List ℕ) (n : ℕ) where
  chain_from : (d i : ℕ) → i + 1 + d ≡ n → ((k : ℕ) → i ≤ k → k + 1 < n → RowStep (row_at w k) (row_at w (k + 1))) → Chain RowStep (row_at w i) (rest row_size read_row n (i + 1) w)
  unfolding Chain
  chain_from zero i e f = rw (rest_none row_size read_row n (i + 1) w (omega arith)) tt
  chain_from (suc d) i e f = rw (rest_turn row_size read_row n (i + 1) w (omega arith)) (f i (omega arith) (omega arith), chain_from d (i + 1) (omega arith) (λ k a b. f k (omega arith) b))

  -- the first is fit, and each other stands right behind the one before it
  pub rows_in_order : ((k : ℕ) → k < n → RowFits (row_at w k)) → ((k : ℕ) → k + 1 < n → Follows (row_at w k) (row_at w (k + 1))) → RowsSound (recs row_size read_row n w)
  rows_in_order f g = go n refl
    where
      first : 0 < n → RowsSound (recs row_size read_row n w)
      first h =
          let q : recs row_size read_row n w ≡ row_at w 0 ∷ rest row_size read_row n (0 + 1) w = sym (rest_all row_size read_row n w) ∙ rest_turn row_size read_row n 0 w h in
          let b = behind (row_at w 0) (rest row_size read_row n (0 + 1) w) (chain_from (n - 1) 0 (omega arith) (λ k a l. record { fit = f (k + 1) l; follows = g k l })) in
          rw q (record { fit = (f 0 h, b.fit); ascending = (omega arith, b.ascending); marks = b.marks })

      go : (m : ℕ) → m ≡ n → RowsSound (recs row_size read_row n w)
      go zero e = rw (← e) (unfold recs in record { fit = tt; ascending = tt; marks = tt })
      go (suc m) e = first (omega arith)
