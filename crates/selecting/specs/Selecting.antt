-- What the contracts of a plan's scan say: selections are marked by owning them for its length, and their rows remembered.
use Rattle.std.specs.Prelude.{ℕ, ◌+◌, ◌≤◌, ◌<◌, ◌≡◌, List, [], ◌∷◌, leb, length, get_or, set}
use Rattle.std.proofs.Math.Option.{Option, none, some}
use Rattle.ident.specs.Number.{top, Key, txid}
use Rattle.regions.specs.declared.Row.{Row}
use Rattle.machine.specs.Limits.{request_lifetime, max_request_checks}
use Rattle.machine.specs.State.{Entry, Table, State, on_table, owned_until, is_some}
use Rattle.machine.specs.Table.{at, change, one}
use Rattle.machine.specs.Plan as machine
use Rattle.machine.specs.Sound.{Lawful, Sound}
use Rattle.machine.specs.Step.{entries_answer, written}
use Rattle.store.specs.Flat.{Flat, rows_of}
use Rattle.store.specs.Image.{Shows, Writes}
use Rattle.store.specs.Shown.{rows_in, Kept}
use Rattle.store.specs.declared.rows.Window.{Window}
use Rattle.requests.specs.Changes.{Tells}
use Rattle.announcing.specs.Evicts.{entry_at}
use Rattle.cursors.specs.InWords.{Stands}
use Rattle.selecting.specs.declared.Scan.{Scan}
use Rattle.choosing.specs.Choosing.{free_choice, Windows}

-- ---- selections marked

abbrev pub marking : ℕ → Entry → Table → Table
marking d a t = change a.key (owned_until a.candidate.connection d) t

unfoldable pub mark_all : ℕ → List Entry → Table → Table
mark_all d [] t = t
mark_all d (a ∷ l) t = mark_all d l (marking d a t)

-- an entry whose request has no owner
pub record Free (t : Table) (a : Entry) : Type 0 where
  pub small : a.key.hash < top
  pub lawful : Lawful (at a.key t)
  pub some_candidate : 1 ≤ length (at a.key t).candidates
  pub unowned : (at a.key t).owner ≡ none

-- each is free when its turn comes
abbrev pub AllFree : ℕ → List Entry → Table → Type 0
AllFree d [] t = Unit {0}
AllFree d (a ∷ l) t = Free t a × AllFree d l (marking d a t)

-- for the length of the scan
abbrev pub until : ℕ → ℕ
until now = now + request_lifetime

-- what is selected owns its request, and its row's number is the n-th of those remembered
abbrev pub selecting : ℕ → Option Entry → Table → Table
selecting now none t = t
selecting now (some a) t = marking (until now) a t

abbrev pub remembering : Option Entry → ℕ → ℕ → List ℕ → List ℕ
remembering none n i p = p
remembering (some a) n i p = set p n i

-- the i-th row is that of the entry a
pub record Numbered (rs : List Row) (i : ℕ) (a : Entry) : Type 0 where
  pub inside : i < length rs
  pub entry_is : (d : Row) → entry_at (get_or rs i d) ≡ a

abbrev pub NumberedAs : List Row → ℕ → Option Entry → Type 0
NumberedAs rs i none = Unit {0}
NumberedAs rs i (some a) = Numbered rs i a

-- one key of a plan on the bytes: what is chosen for its hash, whose rows stand in x and y, if nobody owns that
pub record OneSelected (b b' p p' : List ℕ) (now : ℕ) (x y : Window) (n n' : ℕ) : Type 0 where
  pub pick : Option Entry
  pub number : ℕ
  pub chosen : (h : ℕ) → Windows b h x y → Tells b (λ t. pick ≡ free_choice now t (txid h))
  pub table : (h : ℕ) → Windows b h x y → (st : State) → Sound st → Writes b st → Writes b' (on_table (selecting now pick st.table) st)
  pub stands : (f : Flat) → Shows b f → NumberedAs f.rows number pick
  pub count : n' ≡ n + one (is_some pick)
  pub numbers : p' ≡ remembering pick n number p

-- ---- a scan on the way

-- nothing is selected yet
pub record Fresh (v : Scan) : Type 0 where
  pub chosen : v.chosen ≡ 0
  pub considered : v.considered ≡ 0
  pub last : Stands v.last none

-- l are selected of the state st: b write its table with them marked, and p begin with the n numbers of their rows
pub record Marks (now : ℕ) (st : State) (l : List Entry) (b p : List ℕ) (n : ℕ) : Type 0 where
  pub sound : Sound (on_table (mark_all (until now) l st.table) st)
  pub writes : Writes b (on_table (mark_all (until now) l st.table) st)
  pub free : AllFree (until now) l st.table
  pub count : n ≡ length l
  pub numbers : (j : ℕ) (d : Entry) → j < n → Numbered (rows_of st.table) (get_or p j 0) (get_or l j d)

-- v says how far the machine's scan c of the state st has come
pub record Scanning (now : ℕ) (st : State) (c : machine.Scan) (b p : List ℕ) (v : Scan) : Type 0 where
  pub sound : Sound st
  pub marks : Marks now st c.chosen b p v.chosen
  pub considered : v.considered ≡ c.considered
  pub last : Stands v.last c.last

-- one key more
pub record Considers (b b' p p' : List ℕ) (now : ℕ) (k : Key) (v w : Scan) : Type 0 where
  pub kept : Kept b'
  pub rows_same : rows_in b' ≡ rows_in b
  pub full : w.full ≡ leb max_request_checks w.chosen
  pub near : w.chosen ≤ v.chosen + 1
  pub counted : w.considered ≡ v.considered + 1
  pub goes : (st : State) (c : machine.Scan) → Scanning now st c b p v → Scanning now st (machine.consider now st.table k c) b' p' w

-- ---- the end of the scan

-- some selections of a sound state are marked in b and remembered in p
pub record Marked (b p : List ℕ) (n : ℕ) : Type 0 where
  pub clock : ℕ
  pub state : State
  pub chosen : List Entry
  pub sound : Sound state
  pub marks : Marks clock state chosen b p n

-- whatever is marked in b, b' write the state without it
abbrev pub GivenBack : List ℕ → List ℕ → List ℕ → ℕ → Type 0
GivenBack b b' p n = (now : ℕ) (st : State) (l : List Entry) → Sound st → Marks now st l b p n → Writes b' st

-- n are the numbers that p begin with: those of rows of b
abbrev pub RowsOfStore : List ℕ → List ℕ → ℕ → Type 0
RowsOfStore b p n = (j : ℕ) → j < n → get_or p j 0 < rows_in b

-- whatever entries these rows have, u' has them over the first bytes of u, in order
abbrev pub EntriesPut : List ℕ → List ℕ → ℕ → List ℕ → List ℕ → Type 0
EntriesPut b p n u u' = (f : Flat) (l : List Entry) → Shows b f → n ≡ length l → ((j : ℕ) (d : Entry) → j < n → Numbered f.rows (get_or p j 0) (get_or l j d)) → u' ≡ written (entries_answer l) u
