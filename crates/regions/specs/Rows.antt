-- Candidate rows and entries of connections as words.
use Rattle.std.specs.Prelude.{ℕ, ◌+◌, ◌/◌, ◌%◌, ◌^◌, List, [], ◌∷◌, ◌++◌, get_or}
use Rattle.std.specs.declared.ops.Bound.{Bound}
use Rattle.std.specs.declared.ops.Bound.TheVariants.{Included, Excluded, Unbounded}
use Rattle.words.specs.Words.{number}
use Rattle.ident.specs.Number.{kind_number, kind_is}
use Rattle.regions.specs.declared.Quad.{Quad}
use Rattle.regions.specs.declared.Row.{Row}
use Rattle.regions.specs.declared.Key.{Key}
use Rattle.regions.specs.declared.Conn.{Conn}

abbrev pub row_size : ℕ
row_size = 9

-- where the words of a row lie that are set by themselves
abbrev pub ready_at : ℕ
ready_at = 5

abbrev pub deadline_at : ℕ
deadline_at = 7

abbrev pub bits_at : ℕ
bits_at = 8

abbrev pub conn_size : ℕ
conn_size = 3

-- ---- a hash: four words

abbrev pub quad_words : Quad → List ℕ
quad_words q = q.w0 ∷ q.w1 ∷ q.w2 ∷ q.w3 ∷ []

abbrev pub read_quad : List ℕ → Quad
read_quad w = record { w0 = get_or w 0 0; w1 = get_or w 1 0; w2 = get_or w 2 0; w3 = get_or w 3 0 }

-- "byte 31 the most significant, ordered by number"
unfoldable pub quad_number : Quad → ℕ
quad_number q = number (2 ^ 64) (quad_words q)

-- the four words of a number below 2 ^ 256; what is over stays in the last
unfoldable pub quad_of : ℕ → Quad
quad_of h = record {
  w0 = h % 2 ^ 64;
  w1 = h / 2 ^ 64 % 2 ^ 64;
  w2 = h / 2 ^ 64 / 2 ^ 64 % 2 ^ 64;
  w3 = h / 2 ^ 64 / 2 ^ 64 / 2 ^ 64;
}

-- ---- a row: "candidates in order of arrival (connection, item, ready time, preferred, priority)", with the key and the owner's deadline

unfoldable pub row_words : Row → List ℕ
row_words r = quad_words r.hash ++ (r.conn ∷ r.ready ∷ r.prio ∷ r.deadline ∷ r.bits ∷ [])

unfoldable pub read_row : List ℕ → Row
read_row w = record { hash = read_quad w; conn = get_or w 4 0; ready = get_or w 5 0; prio = get_or w 6 0; deadline = get_or w 7 0; bits = get_or w 8 0 }

-- a key's number: the kind is the digit above the hash, so that every Txid key (0) comes before every Wtxid key (1)
unfoldable pub key_number : Key → ℕ
key_number k = number (2 ^ 64) (quad_words k.hash ++ (kind_number k.kind ∷ []))

-- the number that rows begin from where a search starts at a key, or behind it, or at all rows
abbrev pub start_number : Bound Key → ℕ
start_number (Included k) = key_number k
start_number (Excluded k) = key_number k + 1
start_number Unbounded = 0

-- the key of a row: the kind is bit 0 of its bits
abbrev pub key_of : Row → Key
key_of r = record { kind = kind_is (r.bits % 2); hash = r.hash }

-- of a row's words: its key's number, its connection
abbrev pub row_key : List ℕ → ℕ
row_key w = key_number (key_of (read_row w))

abbrev pub row_conn : List ℕ → ℕ
row_conn w = get_or w 4 0

abbrev pub with_ready : ℕ → Row → Row
with_ready v r = record { hash = r.hash; conn = r.conn; ready = v; prio = r.prio; deadline = r.deadline; bits = r.bits }

abbrev pub with_deadline : ℕ → Row → Row
with_deadline v r = record { hash = r.hash; conn = r.conn; ready = r.ready; prio = r.prio; deadline = v; bits = r.bits }

abbrev pub with_bits : ℕ → Row → Row
with_bits v r = record { hash = r.hash; conn = r.conn; ready = r.ready; prio = r.prio; deadline = r.deadline; bits = v }

-- ---- a connection: how many announcements it has, and how many requests it owns

unfoldable pub conn_words : Conn → List ℕ
conn_words c = c.conn ∷ c.held ∷ c.owned ∷ []

unfoldable pub read_conn : List ℕ → Conn
read_conn w = record { conn = get_or w 0 0; held = get_or w 1 0; owned = get_or w 2 0 }

-- the connection of an entry's words
abbrev pub conn_key : List ℕ → ℕ
conn_key w = get_or w 0 0
