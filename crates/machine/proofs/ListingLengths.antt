-- No listing of a sound state is longer than docs/LISTING.md says (`most_bytes`).
use Prim.Native.Nat.{ℕ, zero, suc, ◌+◌, ◌*◌, ◌^◌, ◌/◌, ◌%◌, ◌≤◌, ◌<◌}
use mathlib.Core.Path.{◌≡◌, refl, sym, ap, ◌∙◌}
use mathlib.Core.Logic.{inl, inr}
use mathlib.Core.Bool.{Bool, true, false}
use mathlib.Core.List.{List, [], ◌∷◌, ◌++◌, map}
use mathlib.Core.Option.{Option, none, some}
use native.Mathlib.Omega.{arith}
use lib.Dec.{lit<, lit≤, ltb}
use lib.ListN.{length, length-append}
use borrow.Author.Tests.{ltb-true, ltb-false}
use Rattle.ident.specs.declared.Kind.{Kind}
use Rattle.ident.specs.declared.ItemKind.{ItemKind}
use Rattle.ident.specs.declared.ItemKind.TheVariants.{Transaction, WitnessTransaction, WTx, Other}
use Rattle.ident.specs.Number.{Key, Item, key_of}
use Rattle.machine.specs.Limits.{max_parents}
use Rattle.machine.specs.State.{Candidate, Owner, Package, Request, Table, State, on_table, with_candidates}
use Rattle.machine.specs.Table.{place_in, total, held, places_held}
use Rattle.machine.specs.Sound.{Fits, AllFit, PackageFits, ParentsFit, Packed, Lawful, All, Filled, Sound}
use Rattle.machine.specs.Text.{digit_text, numeral, decimal_digits, decimal, hexadecimal, bool_text, joined}
use Rattle.machine.specs.Listing.{short, key_field, item_field, none_text, maybe_field, maybe_fields, hash_fields, list_fields, Line, HeadLine, RequestLine, CandidateLine, head_fields}
use Rattle.machine.specs.Listing.{places_field, owner_fields, package_fields, request_fields, candidate_fields, line_fields, lines_of, text_of, listing_in, listing, most_bytes}
use Rattle.machine.proofs.Tests.{test}
use Rattle.machine.proofs.AnswerLengths.{length-count_in}
use Rattle.machine.proofs.Numerals.{numeral_none, numeral_one, numeral_more, length-numeral, first_digit, rest_below}
use Rattle.machine.proofs.RoundTrips.{never_some}

-- ---- digits

-- a number below b ^ j has at most j digits
more_most : (b j n : ℕ) (f : List ℕ) (d : ℕ) → 1 < b → b ≤ 16 → n < b ^ suc j → b ≤ n → ((i : ℕ) → n / b < b ^ suc i → length f ≤ suc i) → length (f ++ (d ∷ [])) ≤ suc j
more_most b zero n f d l u h g law = absurd (omega (arith, first_digit b 0 l u h))
more_most b (suc i) n f d l u h g law = omega (arith, length-append f (d ∷ []), law i (rest_below b 0 l u i h))

numeral-most : (b k j n : ℕ) → 1 < b → b ≤ 16 → n < b ^ suc j → length (numeral b k n) ≤ suc j
numeral-most b zero j n l u h = rw (numeral_none b n) (omega arith)
numeral-most b (suc k) j n l u h = elim (test (ltb n b)) [
  | inl t ↦ rw (numeral_one b k n (ltb-true n b t)) (omega arith)
  | inr t ↦
      let g = ltb-false n b t in
      rw (numeral_more b k n g) (more_most b j n (numeral b k (n / b)) (digit_text (n % b)) l u h g (λ i m. numeral-most b k i (n / b) l u m))
]

decimal-most : (j n : ℕ) → n < 10 ^ suc j → length (decimal n) ≤ suc j
decimal-most j n h = numeral-most 10 decimal_digits j n (lit< tt) (lit≤ tt) h

-- any number that is written
word-most : (n : ℕ) → length (decimal n) ≤ 20
word-most n = length-numeral 10 20 n

hash-most : (h : ℕ) → length (hexadecimal h) ≤ 64
hash-most h = length-numeral 16 64 h

-- ---- fields, each with the byte behind it

unfoldable spread : List (List ℕ) → ℕ
spread [] = 0
spread (f ∷ fs) = suc (length f) + spread fs

spread-append : (fs gs : List (List ℕ)) → spread (fs ++ gs) ≡ spread fs + spread gs
unfolding spread
spread-append [] gs = omega arith
spread-append (f ∷ fs) gs = omega (arith, spread-append fs gs)

-- a line with its line feed
joined-spread : (f : List ℕ) (fs : List (List ℕ)) → suc (length (joined (f ∷ fs))) ≡ spread (f ∷ fs)
unfolding joined spread
joined-spread f [] = omega arith
joined-spread f (g ∷ fs) = omega (arith, length-append f (44 ∷ joined (g ∷ fs)), joined-spread g fs)

bool-most : (b : Bool) → length (bool_text b) ≡ 1
bool-most true = refl
bool-most false = refl

key-most : (k : Key) → length (key_field short k) ≤ 65
unfolding key_field
key-most k = omega (arith, hash-most k.hash)

number-most : (o : Option ℕ) → length (maybe_field (λ n. decimal n) o) ≤ 20
number-most none = omega arith
number-most (some n) = word-most n

cursor-most : (o : Option Key) → length (maybe_field (key_field short) o) ≤ 65
cursor-most none = omega arith
cursor-most (some k) = key-most k

-- an item that gives a key is no other item
item-most : (i : Item) (k : Key) → key_of i ≡ some k → length (item_field short i) ≤ 65
unfolding item_field
item-most i k e = go i.kind i.hash e
  where
    go : (c : ItemKind) (h : ℕ) → key_of (record { kind = c; hash = h }) ≡ some k → length (item_field short (record { kind = c; hash = h })) ≤ 65
    go Transaction h e = omega (arith, hash-most h)
    go WitnessTransaction h e = omega (arith, hash-most h)
    go WTx h e = omega (arith, hash-most h)
    go (Other n) h e = absurd (never_some e)

-- ---- lines

head-most : (s : State) → Sound s → spread (head_fields short s) ≤ 165
unfolding spread head_fields places_field
head-most s g =
    omega (
      arith,
      decimal-most 5 s.limit (omega (arith, g.most-limit)),
      decimal-most 3 s.places (omega (arith, g.most-places)),
      number-most s.next_poll,
      cursor-most s.known_cursor,
      cursor-most s.ready_cursor,
    )

candidate-most : (k : Key) (c : Candidate) → Fits k c → spread (candidate_fields short c) ≤ 131
unfolding spread candidate_fields
candidate-most k c f = omega (arith, word-most c.connection, item-most c.item k f.item, word-most c.ready, bool-most c.preferred, word-most c.priority)

owner-most : (o : Option Owner) → spread (maybe_fields owner_fields o) ≤ 42
unfolding spread
owner-most none = omega arith
owner-most (some o) = omega (arith, word-most o.connection, word-most o.deadline)

hashes-most : (hs : List ℕ) → spread (hash_fields short hs) ≤ 65 * length hs
unfolding spread hash_fields
hashes-most [] = omega arith
hashes-most (h ∷ hs) = omega (arith, hash-most h, hashes-most hs)

list-most : (hs : List ℕ) → length hs ≤ 100 → spread (list_fields short hs) ≤ 6504
unfolding spread
list-most hs h = omega (arith, decimal-most 2 (length hs) (omega (arith, h)), hashes-most hs)

no-list : spread (list_fields short []) ≡ 2
unfolding spread hash_fields
no-list = rw (numeral_one 10 19 0 (lit< tt)) refl

package-most : (p : Package) → PackageFits p → spread (package_fields short p) ≤ 6571
unfolding spread
package-most p f =
    omega (arith, hash-most p.combined, spread-append (list_fields short p.wtxids) (bool_text p.enqueued ∷ []), list-most p.wtxids f.few_wtxids, bool-most p.enqueued)

-- package and parents: as in a request that holds no place, and 13,068 bytes more in one that holds one
place-most : (k : Kind) (o : Option Owner) (info : Bool) (p : Option Package) (hs : List ℕ) → Packed k o info p hs → length hs ≤ max_parents
    → spread (maybe_fields (package_fields short) p) + spread (list_fields short hs) ≤ 7 + 13068 * place_in info p
unfolding spread
place-most k o true (some p) hs w h = absurd w
place-most k o true none hs w h = omega (arith, list-most hs h)
place-most k o false (some p) hs w h = omega (arith, package-most p w.2, list-most hs h)
place-most k o false none hs w h = omega (arith, ap (λ (l : List ℕ). spread (list_fields short l)) w ∙ no-list)

request-most : (r : Request) → Lawful r → spread (request_fields short (with_candidates [] r)) ≤ 119 + 13068 * place_in r.info r.«package»
unfolding spread request_fields
request-most r f =
    let p = maybe_fields (package_fields short) r.«package» in
    let l = list_fields short r.parents in
    let last = bool_text r.fallback ∷ [] in
    omega (
      arith,
      key-most r.key,
      owner-most r.owner,
      spread-append (maybe_fields owner_fields r.owner) (bool_text r.info ∷ (p ++ (l ++ last))),
      bool-most r.info,
      spread-append p (l ++ last),
      spread-append l last,
      place-most r.key.kind r.owner r.info r.«package» r.parents f.packed f.parents.few,
      bool-most r.fallback,
    )

-- ---- texts

line-spread : (l : Line) → suc (length (joined (line_fields short l))) ≡ spread (line_fields short l)
unfolding head_fields request_fields candidate_fields
line-spread (HeadLine s) = joined-spread _ _
line-spread (RequestLine r) = joined-spread _ _
line-spread (CandidateLine c) = joined-spread _ _

text-spread : (l : Line) (ls : List Line) → length (text_of short (l ∷ ls)) ≡ spread (line_fields short l) + length (text_of short ls)
unfolding text_of
text-spread l ls = omega (arith, length-append (joined (line_fields short l)) (10 ∷ text_of short ls), line-spread l)

candidates-most : (k : Key) (cs : List Candidate) (ls : List Line) → AllFit k cs → length (text_of short (map CandidateLine cs ++ ls)) ≤ 131 * length cs + length (text_of short ls)
candidates-most k [] ls f = omega arith
candidates-most k (c ∷ cs) ls f =
    omega (arith, text-spread (CandidateLine c) (map CandidateLine cs ++ ls), candidate-most k c f.0, candidates-most k cs ls f.1)

table-most : (t : Table) → All Filled t → All Lawful t → length (text_of short (lines_of t)) ≤ 250 * held t + 13068 * places_held t
unfolding lines_of total text_of
table-most [] f g = omega arith
table-most (r ∷ t) f g =
    omega (
      arith,
      text-spread (RequestLine (with_candidates [] r)) (map CandidateLine r.candidates ++ lines_of t),
      request-most r g.0,
      candidates-most r.key r.candidates (lines_of t) g.0.candidates,
      length-count_in r.candidates,
      f.0,
      table-most t f.1 g.1,
    )

-- docs/LISTING.md: "No listing is longer than 165 + 250 × L + 13,068 × Q bytes"
pub listing-most : (s : State) → Sound s → length (listing s) ≤ most_bytes s.limit s.places
unfolding listing_in head_fields
listing-most s g =
    let b = g.bounded in
    omega (arith, text-spread (HeadLine (on_table [] s)) (lines_of s.table), head-most s g, table-most s.table b.filled b.lawful, b.fits, b.room)
