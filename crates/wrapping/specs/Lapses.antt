-- Items whose requests fail and wait to go together (postponing/specs/Lapses).
use Rattle.std.specs.Prelude.{ℕ, Bool, true, not, ◌&&◌, List, [], ◌∷◌, ◌++◌, if◌then◌else◌}
use Rattle.std.proofs.Math.Option.{Option, none, some}
use Rattle.ident.specs.Number.{Key, Item, key_of}
use Rattle.machine.specs.Limits.{msg_anc_pkg_info}
use Rattle.machine.specs.State.{Table}
use Rattle.machine.specs.Table.{at}
use Rattle.machine.specs.Fail.{Listed, nothing}
use Rattle.machine.specs.Wrapper.{is_type}
use Rattle.postponing.specs.Lapses.{lapses, lapsed}

-- one item
abbrev pub lapse_one : ℕ → ℕ → Option Key → Table → Listed
lapse_one n now none t = nothing t
lapse_one n now (some k) t = if lapses n (at k t) then record { keys = k ∷ []; table = lapsed k n now t } else nothing t

-- items one after the other
unfoldable pub in_turn : (Item → Table → Listed) → List Item → Table → Listed
in_turn f [] t = nothing t
in_turn f (i ∷ l) t =
    let a = f i t in
    let rest = in_turn f l a.table in
    record { keys = a.keys ++ rest.keys; table = rest.table }

abbrev pub lapse_each : ℕ → ℕ → List Item → Table → Listed
lapse_each n now l t = in_turn (λ i u. lapse_one n now (key_of i) u) l t

-- none is package information
unfoldable pub all_keyed : List Item → Bool
all_keyed [] = true
all_keyed (i ∷ l) = not (is_type msg_anc_pkg_info i.kind) && all_keyed l
