-- `public_packages::on_sound::package_info::package_info_owner` meets its contract: an instance of proofs/Replies.
use Prim.Native.Nat.{ℕ}
use mathlib.Core.Path.{◌≡◌, sym, ◌∙◌}
use Rattle.std.specs.Prelude.{Option, None, Some, MatchOption}
use Rattle.ident.specs.declared.connection.Connection.{Connection}
use native.Mathlib.Omega.{arith}
use Rattle.std.proofs.Common.{rules}
use Rattle.outcome.proofs.Exits.{hands-on}
use Rattle.outcome.proofs.Carried.{refused_by}
use Rattle.outcome.proofs.Replies.{reads_done}
use Rattle.public_packages.proofs.Instances.{reads-owner}
use Rattle.public_packages.proofs.on_sound.package_info.package_info_owner.Goals as goal

pub returns-in_err-of_clock : goal.returns-in_err-of_clock
returns-in_err-of_clock c =
    rw (hands-on _ c.from_residual.ensures.1) (refused_by (reads-owner _ _).names c.requires _ c.in_err-of_clock.ensures.test)

-- an owner's number, or 0 for none, is what the machine says
told : (o : Option Connection) {r x : ℕ} → MatchOption o (r ≡ 0) (λ n. r ≡ n.number) → MatchOption o (x ≡ 0) (λ n. n.number ≡ x) → r ≡ x
told None p q = p ∙ sym q
told (Some n) p q = p ∙ q

pub returns : goal.returns
returns c =
    let m : MatchOption c.package_info_owner-owner.result (c.map_or.result ≡ 0) (λ n. c.map_or.result ≡ n.number) = search rules in
    reads_done (reads-owner _ _) c.requires c.in_ok-of_clock.ensures.test
    c.need_of-n.ensures (λ i. omega (arith, c.type_inv.s i)) (λ st s w. told _ m (c.package_info_owner-owner.ensures st s w))
