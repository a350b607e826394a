-- Forms: the fields of a line in their order, a letter each.
use Rattle.std.specs.Prelude.{ℕ, Bool, false, ◌||◌, List, [], ◌∷◌, eqb, if◌then◌else◌}
use Rattle.std.proofs.Math.Option.{Option}
use Rattle.ident.specs.declared.Kind.{Kind}
use Rattle.ident.specs.declared.Kind.TheVariants.{Txid}
use Rattle.ident.specs.declared.ItemKind.{ItemKind}
use Rattle.ident.specs.declared.ItemKind.TheVariants.{Transaction}
use Rattle.ident.specs.Number.{Key, Item}
use Rattle.machine.specs.State.{Candidate}
use Rattle.machine.specs.Fields.{number_of, bool_of, hash_of, key_of, item_of, taking}
use Rattle.reading.specs.Line.{Line}

-- the values of a line's fields; zero where it has no such field. The hash is the key's, the item's, or stands alone.
pub record Values : Type 0 where
  pub kind : Kind
  pub item : ItemKind
  pub hash : ℕ
  pub combined : ℕ
  pub connection : ℕ
  pub now : ℕ
  pub ready : ℕ
  pub priority : ℕ
  pub preferred : Bool
  pub source : Bool

abbrev pub blank : Values
blank = record { kind = Txid; item = Transaction; hash = 0; combined = 0; connection = 0; now = 0; ready = 0; priority = 0; preferred = false; source = false }

abbrev pub key_in : Values → Key
key_in v = record { kind = v.kind; hash = v.hash }

abbrev pub candidate_in : Values → Candidate
candidate_in v = record { connection = v.connection; item = record { kind = v.item; hash = v.hash }; ready = v.ready; preferred = v.preferred; priority = v.priority }

-- a form has a letter for each field: `k`, `i`, `h`, `m`, `c`, `n`, `r`, `q`, `p`, `s`
abbrev pub key_field : ℕ
key_field = 107

abbrev pub item_field : ℕ
item_field = 105

abbrev pub hash_field : ℕ
hash_field = 104

abbrev pub combined_field : ℕ
combined_field = 109

abbrev pub connection_field : ℕ
connection_field = 99

abbrev pub now_field : ℕ
now_field = 110

abbrev pub ready_field : ℕ
ready_field = 114

abbrev pub priority_field : ℕ
priority_field = 113

abbrev pub preferred_field : ℕ
preferred_field = 112

abbrev pub source_field : ℕ
source_field = 115

abbrev pub is_hash : ℕ → Bool
is_hash f = eqb f hash_field || eqb f combined_field

abbrev pub is_bool : ℕ → Bool
is_bool f = eqb f preferred_field || eqb f source_field

abbrev pub put_key : Values → Key → Values
put_key v k = record {
  kind = k.kind;
  item = v.item;
  hash = k.hash;
  combined = v.combined;
  connection = v.connection;
  now = v.now;
  ready = v.ready;
  priority = v.priority;
  preferred = v.preferred;
  source = v.source;
}

abbrev pub put_item : Values → Item → Values
put_item v i = record {
  kind = v.kind;
  item = i.kind;
  hash = i.hash;
  combined = v.combined;
  connection = v.connection;
  now = v.now;
  ready = v.ready;
  priority = v.priority;
  preferred = v.preferred;
  source = v.source;
}

abbrev pub put_hash : ℕ → Values → ℕ → Values
put_hash f v h = record {
  kind = v.kind;
  item = v.item;
  hash = if eqb f hash_field then h else v.hash;
  combined = if eqb f combined_field then h else v.combined;
  connection = v.connection;
  now = v.now;
  ready = v.ready;
  priority = v.priority;
  preferred = v.preferred;
  source = v.source;
}

abbrev pub put_number : ℕ → Values → ℕ → Values
put_number f v n = record {
  kind = v.kind;
  item = v.item;
  hash = v.hash;
  combined = v.combined;
  connection = if eqb f connection_field then n else v.connection;
  now = if eqb f now_field then n else v.now;
  ready = if eqb f ready_field then n else v.ready;
  priority = if eqb f priority_field then n else v.priority;
  preferred = v.preferred;
  source = v.source;
}

abbrev pub put_bool : ℕ → Values → Bool → Values
put_bool f v b = record {
  kind = v.kind;
  item = v.item;
  hash = v.hash;
  combined = v.combined;
  connection = v.connection;
  now = v.now;
  ready = v.ready;
  priority = v.priority;
  preferred = if eqb f preferred_field then b else v.preferred;
  source = if eqb f source_field then b else v.source;
}

-- what k makes of the values with a field of the letter f, and of the fields behind it
abbrev pub Then : Type 0
Then = Values → List (List ℕ) → Option Line

unfoldable pub plain_then : ℕ → Values → Then → List (List ℕ) → Option Line
plain_then f v k fs =
    if is_bool f then taking bool_of (λ b. k (put_bool f v b)) fs
    else taking number_of (λ n. k (put_number f v n)) fs

unfoldable pub field_then : ℕ → Values → Then → List (List ℕ) → Option Line
field_then f v k fs =
    if eqb f key_field then taking key_of (λ x. k (put_key v x)) fs
    else if eqb f item_field then taking item_of (λ x. k (put_item v x)) fs
    else if is_hash f then taking hash_of (λ h. k (put_hash f v h)) fs
    else plain_then f v k fs

unfoldable pub form_then : List ℕ → Values → Then → List (List ℕ) → Option Line
form_then [] v k fs = k v fs
form_then (f ∷ form) v k fs = field_then f v (λ w. form_then form w k) fs
