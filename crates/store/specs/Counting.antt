-- The tally of connections with some rows more, with one row less, and with a row that comes to own its request or ceases to.
-- (`bump` of Flat is one row more.)
use Rattle.std.specs.Prelude.{ℕ, zero, suc, ◌+◌, ◌-◌, Option, Some, None, List, [], ◌∷◌, eqb, if◌then◌else◌}
use Rattle.regions.specs.declared.Conn.{Conn}
use Rattle.store.specs.Flat.{bump}

-- d rows more of a connection, which do not own their requests
unfoldable pub raise : ℕ → ℕ → List Conn → List Conn
raise n zero l = l
raise n (suc d) l = bump n 0 (raise n d l)

-- the entry of a connection becomes what g makes of it, or goes
abbrev pub put : Option Conn → List Conn → List Conn
put None l = l
put (Some c) l = c ∷ l

unfoldable pub adjusted : ℕ → (Conn → Option Conn) → List Conn → List Conn
adjusted n g [] = []
adjusted n g (c ∷ l) = if eqb n c.conn then put (g c) l else c ∷ adjusted n g l

-- the entry of a connection with one row less, or none
abbrev pub less_one : ℕ → Conn → Option Conn
less_one o c = if eqb c.held 1 then None else Some (record { conn = c.conn; held = c.held - 1; owned = c.owned - o })

abbrev pub fewer : ℕ → Conn → List Conn → List Conn
fewer o c l = if eqb c.held 1 then l else record { conn = c.conn; held = c.held - 1; owned = c.owned - o } ∷ l

-- the opposite of bump
unfoldable pub unbump : ℕ → ℕ → List Conn → List Conn
unbump n o [] = []
unbump n o (c ∷ l) = if eqb n c.conn then fewer o c l else c ∷ unbump n o l

-- a row whose bit goes from o to p
abbrev pub reowned : ℕ → ℕ → Conn → Conn
reowned o p c = record { conn = c.conn; held = c.held; owned = c.owned - o + p }

unfoldable pub retally : ℕ → ℕ → ℕ → List Conn → List Conn
retally n o p [] = []
retally n o p (c ∷ l) = if eqb n c.conn then reowned o p c ∷ l else c ∷ retally n o p l
