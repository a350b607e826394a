-- `reading::forms::take_field` meets its contract.
use borrow.Author.Rules.{rules}
use native.Mathlib.Omega.{arith}
use Rattle.regions.specs.Rows.{quad_number}
use Rattle.lines.specs.Values.{named_key, named_item}
use Rattle.machine.specs.Fields.{number_of, bool_of, hash_of, key_of, item_of}
use Rattle.reading.specs.Forms.{put_key, put_item, put_hash, put_number, put_bool}
use Rattle.reading.specs.Given.{values_of}
use Rattle.reading.proofs.Filling.{key-field, item-field, hash-field, bool-field, number-field, no_field, field_taken}
use Rattle.reading.proofs.forms.take_field.Goals as goal

pub returns-in_err-key_at-in-107 : goal.returns-in_err-key_at-in-107
returns-in_err-key_at-in-107 c = rw c.from_residual.ensures (no_field named_key key_of (put_key (values_of c.args.v)) (key-field _ c.in-107.is) c.key_at.ensures c.in_err-key_at-in-107.was)

pub returns-in_ok-key_at-in-107 : goal.returns-in_ok-key_at-in-107
returns-in_ok-key_at-in-107 c = field_taken named_key key_of (put_key (values_of c.args.v)) (key-field _ c.in-107.is) c.key_at.ensures c.in_ok-key_at-in-107.was (search rules) c.map.ensures.end

pub returns-in_err-item_at-in-105 : goal.returns-in_err-item_at-in-105
returns-in_err-item_at-in-105 c =
    rw c.from_residual-in_err-item_at-in-105.ensures (no_field named_item item_of (put_item (values_of c.args.v)) (item-field _ c.in-105.is)
    c.item_at.ensures c.in_err-item_at-in-105.was)

pub returns-in_ok-item_at-in-105 : goal.returns-in_ok-item_at-in-105
returns-in_ok-item_at-in-105 c =
    field_taken named_item item_of (put_item (values_of c.args.v)) (item-field _ c.in-105.is)
    c.item_at.ensures c.in_ok-item_at-in-105.was (search rules) c.map-in-105.ensures.end

pub returns-in_err-hash_at-in-104 : goal.returns-in_err-hash_at-in-104
returns-in_err-hash_at-in-104 c =
    rw c.from_residual-in_err-hash_at-in-104.ensures (no_field quad_number hash_of (put_hash c.args.f (values_of c.args.v)) (hash-field _ c.in-104.is)
    c.hash_at.ensures c.in_err-hash_at-in-104.was)

pub returns-in_ok-hash_at-in-104 : goal.returns-in_ok-hash_at-in-104
returns-in_ok-hash_at-in-104 c =
    field_taken quad_number hash_of (put_hash c.args.f (values_of c.args.v)) (hash-field _ c.in-104.is)
    c.hash_at.ensures c.in_ok-hash_at-in-104.was (search rules) c.map-in-104.ensures.end

pub returns-in_err-bool_at-in-112 : goal.returns-in_err-bool_at-in-112
returns-in_err-bool_at-in-112 c =
    rw c.from_residual-in_err-bool_at-in-112.ensures (no_field (λ b. b) bool_of (put_bool c.args.f (values_of c.args.v)) (bool-field _ c.in-112.is)
    c.bool_at.ensures c.in_err-bool_at-in-112.was)

pub returns-in_ok-bool_at-in-112 : goal.returns-in_ok-bool_at-in-112
returns-in_ok-bool_at-in-112 c =
    field_taken (λ b. b) bool_of (put_bool c.args.f (values_of c.args.v)) (bool-field _ c.in-112.is)
    c.bool_at.ensures c.in_ok-bool_at-in-112.was (search rules) c.map-in-112.ensures.end

pub returns-in_err-number_at-in_default : goal.returns-in_err-number_at-in_default
returns-in_err-number_at-in_default c =
    rw c.from_residual-in_err-number_at-in_default.ensures (no_field (λ n. n) number_of (put_number c.args.f (values_of c.args.v))
    (number-field _ (omega arith) (omega arith) (search rules) (search rules))
    c.number_at.ensures c.in_err-number_at-in_default.was)

pub returns-in_ok-number_at-in_default : goal.returns-in_ok-number_at-in_default
returns-in_ok-number_at-in_default c =
    field_taken (λ n. n) number_of (put_number c.args.f (values_of c.args.v)) (number-field _ (omega arith) (omega arith) (search rules) (search rules))
    c.number_at.ensures c.in_ok-number_at-in_default.was (search rules) c.map-in_default.ensures.end
