-- What the test of the connections decides, in the words of FlatSound, and what its parts decide.
use Rattle.std.specs.Prelude.{ℕ, suc, ◌+◌, ◌/◌, ◌%◌, ◌≤◌, ◌<◌, ◌≡◌, ◌⊎◌, Bool, true, false, ◌&&◌, List, [], ◌∷◌, eqb, length, get_or}
use Rattle.words.specs.Words.{recs}
use Rattle.regions.specs.declared.Row.{Row}
use Rattle.regions.specs.declared.Conn.{Conn}
use Rattle.regions.specs.Rows.{conn_size, conn_key}
use Rattle.machine.specs.Typed.{Each}
use Rattle.store.specs.Flat.{tally}
use Rattle.store.specs.FlatSound.{count_rows, owns, ConnFits}
use Rattle.sound_rows.specs.Groups.{rows_by}

pub record ConnsSound (rs : List Row) (cs : List Conn) : Type 0 where
  pub tally : cs ≡ tally rs
  pub fit : Each ConnFits cs

-- ---- the entries by themselves

-- connections rise, from lo on, and each has a row
abbrev pub Rise : ℕ → List Conn → Type 0
Rise lo [] = Unit {0}
Rise lo (c ∷ cs) = (lo ≤ c.conn) × (0 < c.held) × Rise (suc c.conn) cs

pub record Entries (cs : List Conn) : Type 0 where
  pub rise : Rise 1 cs
  pub fit : Each ConnFits cs

-- c may stand right behind p
pub record EntryStep (p c : Conn) : Type 0 where
  pub rise : p.conn < c.conn
  pub held : 0 < c.held
  pub fit : ConnFits c

-- ---- the rows of a connection

abbrev pub owner_rows_by : ℕ → List Row → ℕ
owner_rows_by n rs = count_rows (λ r. eqb r.conn n && owns r) rs

-- an entry has its connection's counts
pub record Counts (rs : List Row) (c : Conn) : Type 0 where
  pub held : c.held ≡ rows_by c.conn rs
  pub owned : c.owned ≡ owner_rows_by c.conn rs

-- a counter v of an entry: in its low half how many rows the entry has left when the rows rs are taken off, in its high half how many
-- of them may own their request
abbrev pub half : ℕ
half = 65536

pub record Left (rs : List Row) (c : Conn) (v : ℕ) : Type 0 where
  pub held : v % half + rows_by c.conn rs ≡ c.held
  pub owned : v / half + owner_rows_by c.conn rs ≡ c.owned

-- ---- names: the connections of the entries, in order

abbrev pub names : ℕ → List ℕ → List ℕ
names n w = recs conn_size conn_key n w

abbrev pub Rising : List ℕ → Type 0
Rising ks = (p q : ℕ) → p < q → q < length ks → get_or ks p 0 < get_or ks q 0

pub record Named (ks : List ℕ) (x : ℕ) : Type 0 where
  pub at : ℕ
  pub within : at < length ks
  pub is : get_or ks at 0 ≡ x

-- r is where x is, or n if it is nowhere
pub record Place (ks : List ℕ) (n x r : ℕ) : Type 0 where
  pub found : r < n → get_or ks r 0 ≡ x
  pub absent : n ≤ r → Rising ks → Named ks x → ⊥

-- the greatest number of 64 bits
abbrev pub most : ℕ
most = 18446744073709551615

abbrev pub Low : List ℕ → Type 0
Low ks = (p : ℕ) → p < length ks → get_or ks p 0 ≤ most

-- ---- counters t of the entries from lo on

-- one row less in the counter v, and `own` less that own their request
pub record Less (own v v' : ℕ) : Type 0 where
  pub held : v' % half + 1 ≡ v % half
  pub owned : v' / half + own ≡ v / half

-- there is that much in it
abbrev pub Enough : ℕ → ℕ → Type 0
Enough own v = (0 < v % half) × (own ≤ v / half)

-- that much less in the counter of the entry k, if it is among them
pub record Lessened (t t' : List ℕ) (lo k own : ℕ) : Type 0 where
  pub here : (j : ℕ) → j < length t → lo + j ≡ k → Less own (get_or t j 0) (get_or t' j 0)
  pub other : (j : ℕ) → (lo + j ≡ k → ⊥) → get_or t' j 0 ≡ get_or t j 0

-- it is among them and has less than that
pub record Short (t : List ℕ) (lo k own : ℕ) : Type 0 where
  pub at : ℕ
  pub within : at < length t
  pub is : lo + at ≡ k
  pub short : Enough own (get_or t at 0) → ⊥

abbrev pub Lessening : Bool → List ℕ → List ℕ → ℕ → ℕ → ℕ → Type 0
Lessening true t t' lo k own = Lessened t t' lo k own
Lessening false t t' lo k own = Short t lo k own

-- ---- connections above done and not above last: those that a pass over the rows takes

abbrev pub Inside : ℕ → ℕ → ℕ → Type 0
Inside done last x = (done < x) × (x ≤ last)

-- m entries from lo on are inside
abbrev pub Holds : ℕ → ℕ → List ℕ → ℕ → ℕ → Type 0
Holds done last ks lo m = (j : ℕ) → j < m → lo + j < length ks → Inside done last (get_or ks (lo + j) 0)

-- the connections of the rows that are inside are named
abbrev pub NamedIn : List ℕ → ℕ → ℕ → List Row → Type 0
NamedIn ks done last rs = Each (λ r. Inside done last r.conn → Named ks r.conn) rs

-- a row of the connection x is taken off its entry
pub record Took (ks : List ℕ) (done last lo x own : ℕ) (t t' : List ℕ) : Type 0 where
  pub here : (j : ℕ) → j < length t → lo + j < length ks → get_or ks (lo + j) 0 ≡ x → Less own (get_or t j 0) (get_or t' j 0)
  pub other : (j : ℕ) → j < length t → lo + j < length ks → (get_or ks (lo + j) 0 ≡ x → ⊥) → get_or t' j 0 ≡ get_or t j 0
  pub named : Inside done last x → Named ks x

-- x's entry has too little left
pub record Lacks (ks : List ℕ) (lo x own : ℕ) (t : List ℕ) : Type 0 where
  pub at : ℕ
  pub within : at < length t
  pub entry : lo + at < length ks
  pub is : get_or ks (lo + at) 0 ≡ x
  pub short : Enough own (get_or t at 0) → ⊥

-- or x has no entry
abbrev pub Taking : Bool → List ℕ → ℕ → ℕ → ℕ → ℕ → ℕ → List ℕ → List ℕ → Type 0
Taking true ks done last lo x own t t' = Took ks done last lo x own t t'
Taking false ks done last lo x own t t' = (Inside done last x × (Named ks x → ⊥)) ⊎ Lacks ks lo x own t

abbrev pub blank : Conn
blank = record { conn = 0; held = 0; owned = 0 }

-- the m entries from lo on
abbrev pub Within : (Conn → ℕ → Type 0) → List Conn → ℕ → ℕ → Type 0
Within P cs lo m = (j : ℕ) → j < m → lo + j < length cs → P (get_or cs (lo + j) blank) j

pub record Window (ks : List ℕ) (rs : List Row) (cs : List Conn) (done last lo m : ℕ) : Type 0 where
  pub counted : Within (λ c j. Counts rs c) cs lo m
  pub named : NamedIn ks done last rs

-- the counters when the rows are taken off
pub record Tallied (ks : List ℕ) (rs : List Row) (cs : List Conn) (done last lo : ℕ) (t : List ℕ) : Type 0 where
  pub left : Within (λ c j. Left rs c (get_or t j 0)) cs lo (length t)
  pub named : NamedIn ks done last rs

abbrev pub Tallying : Bool → List ℕ → List Row → List Conn → ℕ → ℕ → ℕ → List ℕ → Type 0
Tallying true ks rs cs done last lo t = Tallied ks rs cs done last lo t
Tallying false ks rs cs done last lo t = Window ks rs cs done last lo (length t) → ⊥

-- last is at the end of the m entries from lo on
pub record LastOf (ks : List ℕ) (lo m last : ℕ) : Type 0 where
  pub upto : (j : ℕ) → j < lo + m → j < length ks → get_or ks j 0 ≤ last
  pub past : (j : ℕ) → lo + m ≤ j → j < length ks → last < get_or ks j 0
  pub whole : length ks ≤ lo + m → last ≡ most

-- how many entries a window has
abbrev pub few : ℕ
few = 512

abbrev pub many : ℕ
many = 8192
