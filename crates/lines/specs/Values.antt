-- What the readers' answers say: the value of a field as the definitions of machine/specs/Fields give it.
use Rattle.std.specs.Prelude.{ℕ, ◌+◌, ◌*◌, Bool, ◌&&◌, ltb, if◌then◌else◌, Option, None, Some}
use Rattle.std.proofs.Math.Option as math
use Rattle.std.proofs.Math.Option.{none, some}
use Rattle.ident.specs.declared.Kind.{Kind}
use Rattle.ident.specs.declared.ItemKind.{ItemKind}
use Rattle.ident.specs.Number.{Key, Item}
use Rattle.regions.specs.declared.Quad.{Quad}
use Rattle.regions.specs.Rows.{quad_number}
use Rattle.lines.specs.declared.read.Named.{Named}

-- the value that f says an answer's stands for, if it has one
abbrev pub value_in : {T A : Type 0} → (T → A) → Option T → math.Option A
value_in f None = none
value_in f (Some x) = some (f x)

-- n with one digit more in base b, if the digit is of that base, and the number stays below m
abbrev pub with_digit : ℕ → ℕ → ℕ → ℕ → math.Option ℕ
with_digit b m n d = if ltb d b && ltb (n * b + d) m then some (n * b + d) else none

abbrev pub number_in : Option ℕ → math.Option ℕ
number_in o = value_in (λ n. n) o

abbrev pub hash_in : Option Quad → math.Option ℕ
hash_in o = value_in quad_number o

abbrev pub bool_in : Option Bool → math.Option Bool
bool_in o = value_in (λ b. b) o

abbrev pub named_key : Named Kind → Key
named_key n = record { kind = n.kind; hash = quad_number n.hash }

abbrev pub key_in : Option (Named Kind) → math.Option Key
key_in o = value_in named_key o

abbrev pub item_kind_in : Option ItemKind → math.Option ItemKind
item_kind_in o = value_in (λ k. k) o

abbrev pub named_item : Named ItemKind → Item
named_item n = record { kind = n.kind; hash = quad_number n.hash }

abbrev pub item_in : Option (Named ItemKind) → math.Option Item
item_in o = value_in named_item o
