-- The limits of document 01, by name (the Rust's constant in parentheses), and the bytes that a store needs.
use Rattle.std.specs.Prelude.{ℕ, ◌+◌, ◌-◌, ◌*◌, ◌^◌}

-- the greatest L, and the greatest Q
abbrev pub max_announcements : ℕ
max_announcements = 100000

abbrev pub max_places : ℕ
max_places = 4096

-- candidates of a hash, over both kinds (MAX_ALTERNATES)
abbrev pub max_alternates : ℕ
max_alternates = 8

-- announcements of a connection (MAX_PEER_ANNOUNCEMENTS), and requests that it owns (MAX_PEER_IN_FLIGHT)
abbrev pub max_peer_announcements : ℕ
max_peer_announcements = 5000

abbrev pub max_in_flight : ℕ
max_in_flight = 100

-- keys that a sweep hands out (MAX_KNOWN_CHECKS), and entries at which a plan's phase stops (MAX_REQUEST_CHECKS)
abbrev pub max_known_checks : ℕ
max_known_checks = 1024

abbrev pub max_request_checks : ℕ
max_request_checks = 1024

-- hashes whose owners are asked for together (document 02, request e)
abbrev pub max_asked_hashes : ℕ
max_asked_hashes = 1024

-- wtxids of a package (MAX_GETPKGTXNS, not listed: 100 stands in), and parents of a request
abbrev pub max_wtxids : ℕ
max_wtxids = 100

abbrev pub max_parents : ℕ
max_parents = 100

-- milliseconds: how long an owner has (REQUEST_LIFETIME), a delay (SOURCE_DELAY), between polls (REQUEST_POLL_INTERVAL)
abbrev pub request_lifetime : ℕ
request_lifetime = 60000

abbrev pub source_delay : ℕ
source_delay = 2000

abbrev pub poll_interval : ℕ
poll_interval = 100

-- 64 bits; "clock above 2^64 − 60,001" is refused
abbrev pub word : ℕ
word = 2 ^ 64

abbrev pub latest_clock : ℕ
latest_clock = 2 ^ 64 - 60001

-- the item types of BIP 331 that a not-found can name: a package's transactions, and package information
abbrev pub msg_pkg_txns : ℕ
msg_pkg_txns = 6

abbrev pub msg_anc_pkg_info : ℕ
msg_anc_pkg_info = 7

-- What bounds the announcements: L in all, and A at a hash (8; the laws hold of any A).
pub record Limits : Type 0 where
  pub announcements : ℕ
  pub alternates : ℕ

-- The bytes that a store needs: words of 8 bytes, 24 in the header, 9 a candidate, 3 a connection, 824 a package place.
unfoldable pub need : ℕ → ℕ → ℕ
need L Q = 8 * (24 + 12 * L + 824 * Q)
