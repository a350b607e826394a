-- Kinds and their numbers: one decides the other.
use Prim.Native.Nat.{◌≤◌}
use native.Mathlib.Omega.{arith}
use mathlib.Core.Path.{◌≡◌, refl}
use Rattle.ident.specs.declared.Kind.{Kind}
use Rattle.ident.specs.declared.Kind.TheVariants.{Txid, Wtxid}
use Rattle.ident.specs.Number.{kind_number, kind_is}

pub kind_most : (k : Kind) → kind_number k ≤ 1
kind_most Txid = omega arith
kind_most Wtxid = omega arith

pub kind_back : (k : Kind) → kind_is (kind_number k) ≡ k
kind_back Txid = refl
kind_back Wtxid = refl
