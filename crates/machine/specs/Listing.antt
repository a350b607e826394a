-- A saved listing (docs/LISTING.md): a state as text, and the state that a text lists.
use Rattle.std.specs.Prelude.{ℕ, ◌+◌, ◌*◌, ◌^◌, ◌≤◌, ◌<◌, ◌≡◌, Bool, true, false, ◌&&◌, List, [], ◌∷◌, ◌++◌, map, ltb, leb, eqb, length, if◌then◌else◌}
use Rattle.std.proofs.Math.Option.{Option, none, some}
use Rattle.ident.specs.declared.ItemKind.{ItemKind}
use Rattle.ident.specs.declared.ItemKind.TheVariants.{Transaction, WitnessTransaction, WTx, Other}
use Rattle.ident.specs.Number.{top, Key, Item, place, is_plain}
use Rattle.machine.specs.Limits.{max_wtxids, max_parents, word}
use Rattle.machine.specs.State.{Candidate, Owner, Package, Request, Table, State, on_table, with_candidates, Each, KeyTyped}
use Rattle.machine.specs.Text.{decimal, hexadecimal, bool_text, kind_letter, item_kind_text, joined}
use Rattle.machine.specs.Fields.{digit_of, number_of, type_of, hash_of, bool_of, kind_of, key_with, before}
use Rattle.machine.specs.Fields.{behind, item_with, letter_kind, other_kind, same_text, fields, taking, ending, elements_then}

-- ---- hashes: how they are written, and what is read as one

pub record HashForm : Type 0 where
  pub text : ℕ → List ℕ
  pub of : List ℕ → Option ℕ

-- "hashes and items as on event lines"
abbrev pub short : HashForm
short = record { text = λ h. hexadecimal h; of = λ f. hash_of f }

-- every byte is a digit
abbrev pub Digital : List ℕ → Type 0
Digital [] = Unit {0}
Digital (c ∷ f) = (digit_of c < 16) × Digital f

-- what a form must have: a hash has one text, of digits
pub record FormFits (x : HashForm) : Type 0 where
  pub back : (h : ℕ) → h < top → x.of (x.text h) ≡ some h
  pub text : (f : List ℕ) (h : ℕ) → x.of f ≡ some h → (f ≡ x.text h) × (h < top)
  pub clean : (h : ℕ) → Digital (x.text h)
  pub empty : x.of [] ≡ none

-- ---- keys and items, as on event lines but for the hash

unfoldable pub key_field : HashForm → Key → List ℕ
key_field x k = kind_letter k.kind ∷ x.text k.hash

unfoldable pub key_in : HashForm → List ℕ → Option Key
key_in x [] = none
key_in x (c ∷ f) = key_with (kind_of c) (x.of f)

unfoldable pub item_field : HashForm → Item → List ℕ
item_field x i = item_kind_text i.kind ++ x.text i.hash

abbrev pub other_in : HashForm → List ℕ → Option Item
other_in x f = item_with (other_kind (type_of (before 58 f))) (x.of (behind 58 f))

unfoldable pub item_in : HashForm → List ℕ → Option Item
item_in x [] = none
item_in x (c ∷ f) = if eqb c 111 then other_in x f else item_with (letter_kind c) (x.of f)

-- ---- what may be missing

-- "`none` for what is missing": one field for the whole thing
abbrev pub none_text : List ℕ
none_text = 110 ∷ 111 ∷ 110 ∷ 101 ∷ []

abbrev pub maybe_field : {A : Type 0} → (A → List ℕ) → Option A → List ℕ
maybe_field text none = none_text
maybe_field text (some a) = text a

abbrev pub present : {A : Type 0} → Option A → Option (Option A)
present none = none
present (some a) = some (some a)

unfoldable pub maybe_in : {A : Type 0} → (List ℕ → Option A) → List ℕ → Option (Option A)
maybe_in read f = if same_text f none_text then some none else present (read f)

-- the same of a thing of several fields
abbrev pub maybe_fields : {A : Type 0} → (A → List (List ℕ)) → Option A → List (List ℕ)
maybe_fields fields none = none_text ∷ []
maybe_fields fields (some a) = fields a

unfoldable pub none_or : {A B : Type 0} → ((A → List (List ℕ) → Option B) → List (List ℕ) → Option B) → (Option A → List (List ℕ) → Option B) → List (List ℕ) → Option B
none_or read k [] = none
none_or read k (f ∷ fs) = if same_text f none_text then k none fs else read (λ a. k (some a)) (f ∷ fs)

-- ---- lists: "lists after their length"

unfoldable pub hash_fields : HashForm → List ℕ → List (List ℕ)
hash_fields x [] = []
hash_fields x (h ∷ hs) = x.text h ∷ hash_fields x hs

abbrev pub list_fields : HashForm → List ℕ → List (List ℕ)
list_fields x hs = decimal (length hs) ∷ hash_fields x hs

-- "a parent or wtxid list of wrong length": fewer than lo or more than hi hashes are not read
unfoldable pub list_then : {B : Type 0} → HashForm → ℕ → ℕ → (List ℕ → List (List ℕ) → Option B) → List (List ℕ) → Option B
list_then x lo hi k fs = taking number_of (λ n gs. if leb lo n && leb n hi then elements_then (taking x.of) n [] k gs else none) fs

-- ---- the lines

-- the first line, with a state without requests; a request's, with a request without candidates; a candidate's
pub data Line : Type 0 where
  HeadLine : (s : State) → Line
  RequestLine : (r : Request) → Line
  CandidateLine : (c : Candidate) → Line

-- "one line for L, Q, next poll and cursors"
unfoldable pub places_field : ℕ → List ℕ
places_field Q = decimal Q

unfoldable pub head_fields : HashForm → State → List (List ℕ)
head_fields x s =
    decimal s.limit ∷ places_field s.places ∷ maybe_field (λ n. decimal n) s.next_poll
    ∷ maybe_field (key_field x) s.known_cursor ∷ maybe_field (key_field x) s.ready_cursor ∷ []

unfoldable pub head_of : HashForm → List (List ℕ) → Option Line
head_of x fs =
    taking number_of (λ L. taking number_of (λ Q. taking (maybe_in number_of) (λ p. taking (maybe_in (key_in x)) (λ k. taking (maybe_in (key_in x)) (λ r.
    ending (some (HeadLine (record { limit = L; places = Q; table = []; next_poll = p; known_cursor = k; ready_cursor = r })))))))) fs

-- "key, owner (connection, deadline), flag, package (combined hash, wtxids, 0 Awaiting or 1 Enqueued), parents, mark"
abbrev pub owner_fields : Owner → List (List ℕ)
owner_fields o = decimal o.connection ∷ decimal o.deadline ∷ []

unfoldable pub owner_then : {B : Type 0} → (Owner → List (List ℕ) → Option B) → List (List ℕ) → Option B
owner_then k fs = taking number_of (λ n. taking number_of (λ d. k (record { connection = n; deadline = d }))) fs

abbrev pub package_fields : HashForm → Package → List (List ℕ)
package_fields x p = x.text p.combined ∷ (list_fields x p.wtxids ++ (bool_text p.enqueued ∷ []))

unfoldable pub package_then : {B : Type 0} → HashForm → (Package → List (List ℕ) → Option B) → List (List ℕ) → Option B
package_then x k fs =
    taking x.of (λ c. list_then x 1 max_wtxids (λ ws. taking bool_of (λ e. k (record { combined = c; wtxids = ws; enqueued = e })))) fs

unfoldable pub request_fields : HashForm → Request → List (List ℕ)
request_fields x r =
    key_field x r.key ∷ (maybe_fields owner_fields r.owner ++ (bool_text r.info ∷ (maybe_fields (package_fields x) r.«package» ++ (list_fields x r.parents ++ (bool_text r.fallback ∷ [])))))

abbrev pub request_with : Key → Option Owner → Bool → Option Package → List ℕ → Bool → Request
request_with k o i p hs m = record { key = k; candidates = []; owner = o; info = i; «package» = p; parents = hs; fallback = m }

unfoldable pub request_of : HashForm → List (List ℕ) → Option Line
request_of x fs =
    taking (key_in x) (λ k. none_or owner_then (λ o. taking bool_of (λ i. none_or (package_then x) (λ p. list_then x 0 max_parents (λ hs. taking bool_of (λ m.
    ending (some (RequestLine (request_with k o i p hs m))))))))) fs

-- "connection, item, ready, preferred, priority", as an announcement's
unfoldable pub candidate_fields : HashForm → Candidate → List (List ℕ)
candidate_fields x c = decimal c.connection ∷ item_field x c.item ∷ decimal c.ready ∷ bool_text c.preferred ∷ decimal c.priority ∷ []

unfoldable pub candidate_of : HashForm → List (List ℕ) → Option Line
candidate_of x fs =
    taking number_of (λ n. taking (item_in x) (λ i. taking number_of (λ ready. taking bool_of (λ preferred. taking number_of (λ priority.
    ending (some (CandidateLine (record { connection = n; item = i; ready = ready; preferred = preferred; priority = priority })))))))) fs

abbrev pub line_fields : HashForm → Line → List (List ℕ)
line_fields x (HeadLine s) = head_fields x s
line_fields x (RequestLine r) = request_fields x r
line_fields x (CandidateLine c) = candidate_fields x c

abbrev pub first_of : Option Line → Option Line → Option Line
first_of none o = o
first_of (some l) o = some l

-- the fields as one of the three forms
unfoldable pub line_of : HashForm → List (List ℕ) → Option Line
line_of x fs = first_of (head_of x fs) (first_of (request_of x fs) (candidate_of x fs))

-- ---- a state's listing

-- "a line for each request followed by one for each candidate, in key order and arrival order"
unfoldable pub lines_of : Table → List Line
lines_of [] = []
lines_of (r ∷ t) = RequestLine (with_candidates [] r) ∷ (map CandidateLine r.candidates ++ lines_of t)

-- "a line feed after each line"
unfoldable pub text_of : HashForm → List Line → List ℕ
text_of x [] = []
text_of x (l ∷ ls) = joined (line_fields x l) ++ (10 ∷ text_of x ls)

unfoldable pub listing_in : HashForm → State → List ℕ
listing_in x s = text_of x (HeadLine (on_table [] s) ∷ lines_of s.table)

abbrev pub listing : State → List ℕ
listing s = listing_in short s

-- the most bytes of a listing for L and Q (proofs/ListingLengths): the first line; a request and a candidate for each of L, and what the lists of
-- a package place add
abbrev pub most_bytes : ℕ → ℕ → ℕ
most_bytes L Q = 165 + 250 * L + 13068 * Q

-- ---- the state that a text lists; none: 11

abbrev pub new_line : Option (List (List ℕ)) → Option (List (List ℕ))
new_line none = none
new_line (some ls) = some ([] ∷ ls)

abbrev pub in_line : ℕ → Option (List (List ℕ)) → Option (List (List ℕ))
in_line c none = none
in_line c (some []) = none
in_line c (some (l ∷ ls)) = some ((c ∷ l) ∷ ls)

-- the lines of a text without their line feeds; none if the last byte is another
unfoldable pub text_lines : List ℕ → Option (List (List ℕ))
text_lines [] = some []
text_lines (c ∷ b) = if eqb c 10 then new_line (text_lines b) else in_line c (text_lines b)

abbrev pub one_more : Option Line → Option (List Line) → Option (List Line)
one_more none o = none
one_more (some l) none = none
one_more (some l) (some ls) = some (l ∷ ls)

-- "an unreadable .. line"
unfoldable pub lines_in : HashForm → List (List ℕ) → Option (List Line)
lines_in x [] = some []
lines_in x (l ∷ ls) = one_more (line_of x (fields l)) (lines_in x ls)

abbrev pub lines_from : HashForm → Option (List (List ℕ)) → Option (List Line)
lines_from x none = none
lines_from x (some ls) = lines_in x ls

-- candidates that belong to a request line before them, and the requests behind them
pub record Rest : Type 0 where
  pub candidates : List Candidate
  pub table : Table

-- "falling keys": equal ones do not fall
abbrev pub falls : Key → Table → Bool
falls k [] = false
falls k (q ∷ t) = ltb (place q.key) (place k)

abbrev pub candidate_then : Candidate → Option Rest → Option Rest
candidate_then c none = none
candidate_then c (some q) = some (record { candidates = c ∷ q.candidates; table = q.table })

abbrev pub request_then : Request → Option Rest → Option Rest
request_then r none = none
request_then r (some q) = if falls r.key q.table then none else some (record { candidates = []; table = with_candidates q.candidates r ∷ q.table })

-- what the lines behind the first list; "misplaced": a first line among them
unfoldable pub rest_of : List Line → Option Rest
rest_of [] = some (record { candidates = []; table = [] })
rest_of (HeadLine s ∷ ls) = none
rest_of (RequestLine r ∷ ls) = request_then r (rest_of ls)
rest_of (CandidateLine c ∷ ls) = candidate_then c (rest_of ls)

-- "misplaced": a candidate before any request
abbrev pub tabled : State → List Candidate → Table → Option State
tabled s [] t = some (on_table t s)
tabled s (c ∷ cs) t = none

abbrev pub tabled_from : State → Option Rest → Option State
tabled_from s none = none
tabled_from s (some q) = tabled s q.candidates q.table

-- "no line at all"; "misplaced": a line of another form in the first place
abbrev pub state_of : Option (List Line) → Option State
state_of none = none
state_of (some []) = none
state_of (some (HeadLine s ∷ ls)) = tabled_from s (rest_of ls)
state_of (some (RequestLine r ∷ ls)) = none
state_of (some (CandidateLine c ∷ ls)) = none

unfoldable pub read_in : HashForm → List ℕ → Option State
read_in x b = state_of (lines_from x (text_lines b))

abbrev pub read_listing : List ℕ → Option State
read_listing b = read_in short b

-- ---- what a listing can write: a text that gets 11 is the listing of no such state (proofs/Listings)

abbrev pub Whenever : {A : Type 0} → (A → Type 0) → Option A → Type 0
Whenever Good none = Unit {0}
Whenever Good (some a) = Good a

-- "a parent or wtxid list of wrong length"
pub record HashesListed (lo hi : ℕ) (hs : List ℕ) : Type 0 where
  pub hashes : Each (λ h. h < top) hs
  pub least : lo ≤ length hs
  pub most : length hs ≤ hi

pub record OwnerListed (o : Owner) : Type 0 where
  pub connection : o.connection < word
  pub deadline : o.deadline < word

pub record PackageListed (p : Package) : Type 0 where
  pub combined : p.combined < top
  pub wtxids : HashesListed 1 max_wtxids p.wtxids

-- an other item's type is none of the three, and has 32 bits
abbrev pub ItemListed : ItemKind → Type 0
ItemListed Transaction = Unit {0}
ItemListed WitnessTransaction = Unit {0}
ItemListed WTx = Unit {0}
ItemListed (Other n) = (is_plain (Other n) ≡ true) × (n < 2 ^ 32)

pub record CandidateListed (c : Candidate) : Type 0 where
  pub connection : c.connection < word
  pub item : ItemListed c.item.kind
  pub hash : c.item.hash < top
  pub ready : c.ready < word
  pub priority : c.priority < word

pub record RequestListed (r : Request) : Type 0 where
  pub key : KeyTyped r.key
  pub owner : Whenever OwnerListed r.owner
  pub packed : Whenever PackageListed r.«package»
  pub parents : HashesListed 0 max_parents r.parents

-- "falling keys"
abbrev pub NotBelow : Key → Table → Type 0
NotBelow k [] = Unit {0}
NotBelow k (q ∷ t) = place k ≤ place q.key

abbrev pub TableListed : Table → Type 0
TableListed [] = Unit {0}
TableListed (r ∷ t) = NotBelow r.key t × RequestListed r × Each CandidateListed r.candidates × TableListed t

pub record HeadListed (s : State) : Type 0 where
  pub limit : s.limit < word
  pub places : s.places < word
  pub poll : Whenever (λ n. n < word) s.next_poll
  pub known : Whenever KeyTyped s.known_cursor
  pub ready : Whenever KeyTyped s.ready_cursor

pub record StateListed (s : State) : Type 0 where
  pub head : HeadListed s
  pub table : TableListed s.table
