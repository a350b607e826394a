use mathlib.Core.Path.{◌∙◌}
use Rattle.sound_rows.proofs.Decide.{decides_iff}
use Rattle.sound_conns.proofs.Conns.{window-as, window_iff}
use Rattle.sound_conns.proofs.window_fits.Goals as goal

pub returns : goal.returns
returns c =
    let k = c.if-not-count_rows.ensures in
    decides_iff c.used_up.result (window-as (k.1 ∙ c.charge_all.ensures.1)) (decides_iff c.used_up.result (window_iff _ _ _ _ _ _ _ k.0) c.used_up.ensures)
