use native.Mathlib.Omega.{arith}
use mathlib.Core.Path.{sym, ap, ◌∙◌}
use Rattle.regions.specs.declared.Conn.{Conn}
use Rattle.store.proofs.counting.find.Goals as goal

pub returns-then-at-x : goal.returns-then-at-x
returns-then-at-x c = record {
  sought = c.seek_conn-i.ensures;
  inside = omega (arith, c.if-i-conns.true, c.conns.ensures.word);
  is = λ f d h. ap (λ (k : Conn). k.conn) (sym (c.at.ensures f d h)) ∙ c.if-at-x.true;
}
