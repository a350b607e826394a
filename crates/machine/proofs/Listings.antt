-- A saved listing and the state that it lists: each gives the other back.
use Prim.Native.Nat.{ℕ, suc, ◌<◌}
use mathlib.Core.Path.{◌≡◌, refl, sym, ap, ◌∙◌}
use mathlib.Core.Logic.{inl, inr}
use mathlib.Core.Bool.{Bool, true, false}
use mathlib.Core.List.{List, [], ◌∷◌, ◌++◌, map, append-nil}
use mathlib.Core.Option.{Option, none, some}
use native.Mathlib.Omega.{arith}
use lib.Dec.{eqb}
use borrow.Author.Tests.{ltb-false, le-ltb, eqb-true}
use Rattle.ident.specs.declared.ItemKind.{ItemKind}
use Rattle.ident.specs.declared.ItemKind.TheVariants.{Transaction, WitnessTransaction, WTx, Other}
use Rattle.ident.specs.declared.Kind.{Kind}
use Rattle.ident.specs.Number.{top, Key, place, key_as, kind_of}
use Rattle.machine.specs.Limits.{word}
use Rattle.machine.specs.State.{Candidate, Owner, Package, Request, Table, State, on_table, with_candidates, Each, KeyTyped}
use Rattle.machine.specs.Table.{has}
use Rattle.machine.specs.Sound.{Hashes, CursorFits, PollFits, AllFit, OwnerFits, Packed, Lawful, Ordered, All, Sound}
use Rattle.machine.specs.Text.{joined}
use Rattle.machine.specs.Fields.{fields}
use Rattle.machine.specs.Listing.{HashForm, short, FormFits, Line, HeadLine, RequestLine, CandidateLine, head_fields, request_fields, candidate_fields, line_fields, line_of, lines_of}
use Rattle.machine.specs.Listing.{text_of, listing_in, listing, text_lines, one_more, lines_in, lines_from, Rest, falls, request_then, rest_of, tabled, tabled_from, state_of}
use Rattle.machine.specs.Listing.{read_in, read_listing, Whenever, OwnerListed, PackageListed, ItemListed, CandidateListed, RequestListed, NotBelow, TableListed}
use Rattle.machine.specs.Listing.{HeadListed, StateListed}
use Rattle.machine.proofs.Tests.{test, never}
use Rattle.machine.proofs.RoundTrips.{never_some}
use Rattle.machine.proofs.Forms.{short-fits}
use Rattle.machine.proofs.FrontLines.{request_first, candidate_first}
use Rattle.machine.proofs.Commas.{joined-fields, line_read, unbroken_joined, ended_lines, lines-text}
use Rattle.machine.proofs.ListingLines.{LineGood, line_back, line-text, line_above, line-fields}

module _ (x : HashForm) (fit : FormFits x) where
  -- ---- lines and their text

  abbrev LinesGood : List Line → Type 0
  LinesGood [] = Unit {0}
  LinesGood (l ∷ ls) = LineGood x fit l × LinesGood ls

  -- each line's text, without the line feed
  texts : List Line → List (List ℕ)
  texts [] = []
  texts (l ∷ ls) = joined (line_fields x l) ∷ texts ls

  text-lines : (ls : List Line) → text_lines (text_of x ls) ≡ some (texts ls)
  unfolding text_of text_lines texts
  text-lines [] = refl
  text-lines (l ∷ ls) = line_read (joined (line_fields x l)) (text_of x ls) (unbroken_joined (line_fields x l) (line_above x fit l)) ∙ rw (text-lines ls)

  lines_back : (ls : List Line) → LinesGood ls → lines_in x (texts ls) ≡ some ls
  unfolding lines_in texts
  lines_back [] g = refl
  lines_back (l ∷ ls) g = rw (line-fields x fit l, line_back x fit l g.0, lines_back ls g.1)

  -- lines that are read have their text, and can be written
  lines_in_text : (ts : List (List ℕ)) (ls : List Line) → lines_in x ts ≡ some ls → (ended_lines ts ≡ text_of x ls) × LinesGood ls
  unfolding lines_in ended_lines text_of
  lines_in_text [] ls e = let g : [] ≡ ls = cc in rw (← g) (refl, tt)
  lines_in_text (t ∷ ts) ls e = go (line_of x (fields t)) refl (lines_in x ts) (lines_in_text ts) e
    where
      go : (o : Option Line) → line_of x (fields t) ≡ o → (p : Option (List Line)) → ((ms : List Line) → p ≡ some ms → (ended_lines ts ≡ text_of x ms) × LinesGood ms)
          → one_more o p ≡ some ls → (t ++ (10 ∷ ended_lines ts) ≡ text_of x ls) × LinesGood ls
      go none q p h d = absurd (never_some d)
      go (some l) q none h d = absurd (never_some d)
      go (some l) q (some ms) h d =
          let g : l ∷ ms ≡ ls = cc in
          let w = line-text x fit (fields t) l q in
          let u : t ≡ joined (line_fields x l) = sym (joined-fields t) ∙ ap joined w.0 in
          let i = h ms refl in
          rw (← g) (rw i.0 (ap (λ (u : List ℕ). u ++ (10 ∷ text_of x ms)) u), (w.1, i.1))

  -- ---- lines and the table that they list

  candidates_back : (cs : List Candidate) (ls : List Line) (q : Rest) → rest_of ls ≡ some q → rest_of (map CandidateLine cs ++ ls) ≡ some (record { candidates = cs ++ q.candidates; table = q.table })
  unfolding rest_of
  candidates_back [] ls q e = e
  candidates_back (c ∷ cs) ls q e = rw (candidates_back cs ls q e)

  rising : (k : Key) (t : Table) → NotBelow k t → falls k t ≡ false
  rising k [] h = refl
  rising k (q ∷ t) h = le-ltb (place q.key) (place k) h

  not_below : (k : Key) (t : Table) → falls k t ≡ false → NotBelow k t
  not_below k [] e = tt
  not_below k (q ∷ t) e = ltb-false (place q.key) (place k) e

  table_back : (t : Table) → TableListed t → rest_of (lines_of t) ≡ some (record { candidates = []; table = t })
  unfolding rest_of lines_of
  table_back [] o = refl
  table_back (r ∷ t) o =
      let e = candidates_back r.candidates (lines_of t) (record { candidates = []; table = t }) (table_back t o.3) in
      rw (e, append-nil r.candidates) (risen r.candidates)
    where
      risen : (cs : List Candidate) → request_then (with_candidates [] r) (some (record { candidates = cs; table = t })) ≡ some (record { candidates = []; table = with_candidates cs r ∷ t })
      risen cs = rw (rising r.key t o.0)

  -- what lines list has their text
  rest_text : (ls : List Line) (q : Rest) → rest_of ls ≡ some q → text_of x (map CandidateLine q.candidates ++ lines_of q.table) ≡ text_of x ls
  unfolding rest_of lines_of text_of request_fields
  rest_text [] q e = let g : record { candidates = []; table = [] } ≡ q = cc in rw (← g)
  rest_text (HeadLine s ∷ ls) q e = absurd (never_some e)
  rest_text (RequestLine r ∷ ls) q e =
      let w = request_first r ls e in
      rw (← w.parts) (ap (λ (u : List ℕ). joined (request_fields x r) ++ (10 ∷ u)) (rest_text ls w.rest w.list))
  rest_text (CandidateLine c ∷ ls) q e =
      let w = candidate_first c ls e in
      rw (← w.parts) (ap (λ (u : List ℕ). joined (candidate_fields x c) ++ (10 ∷ u)) (rest_text ls w.rest w.list))

  -- and can be written
  record RestListed (q : Rest) : Type 0 where
    candidates : Each CandidateListed q.candidates
    table : TableListed q.table

  rest_listed : (ls : List Line) (q : Rest) → LinesGood ls → rest_of ls ≡ some q → RestListed q
  unfolding rest_of
  rest_listed [] q g e = let d : record { candidates = []; table = [] } ≡ q = cc in rw (← d) (record { candidates = tt; table = tt })
  rest_listed (HeadLine s ∷ ls) q g e = absurd (never_some e)
  rest_listed (RequestLine r ∷ ls) q g e =
      let w = request_first r ls e in
      let i = rest_listed ls w.rest g.1 w.list in
      let v = g.0.0 in
      rw (← w.parts) (record {
        candidates = tt;
        table = (not_below r.key w.rest.table w.rises, record { key = v.key; owner = v.owner; packed = v.packed; parents = v.parents }, i.candidates, i.table);
      })
  rest_listed (CandidateLine c ∷ ls) q g e =
      let w = candidate_first c ls e in
      let i = rest_listed ls w.rest g.1 w.list in
      rw (← w.parts) (record { candidates = (g.0, i.candidates); table = i.table })

  -- ---- the lines of a state that can be written

  candidates-good : (cs : List Candidate) (ls : List Line) → Each CandidateListed cs → LinesGood ls → LinesGood (map CandidateLine cs ++ ls)
  candidates-good [] ls a g = g
  candidates-good (c ∷ cs) ls a g = (a.0, candidates-good cs ls a.1 g)

  table-good : (t : Table) → TableListed t → LinesGood (lines_of t)
  unfolding lines_of
  table-good [] o = tt
  table-good (r ∷ t) o =
      let v = o.1 in
      ((record { key = v.key; owner = v.owner; packed = v.packed; parents = v.parents }, refl), candidates-good r.candidates (lines_of t) o.2 (table-good t o.3))

  with_table : (t : Table) (s : State) → HeadListed s → HeadListed (on_table t s)
  with_table t s v = record { limit = v.limit; places = v.places; poll = v.poll; known = v.known; ready = v.ready }

  -- ---- the laws, of any form of hashes that fits

  -- a state that can be written is read back
  pub form_read : (s : State) → StateListed s → read_in x (listing_in x s) ≡ some s
  unfolding read_in listing_in
  form_read s v =
      let ls = HeadLine (on_table [] s) ∷ lines_of s.table in
      rw (text-lines ls, lines_back ls ((with_table [] s v.head, refl), table-good s.table v.table), table_back s.table v.table)

  -- a text that is read is the listing of its state, which can be written
  pub form-listing : (b : List ℕ) (s : State) → read_in x b ≡ some s → (listing_in x s ≡ b) × StateListed s
  unfolding read_in listing_in text_of head_fields
  form-listing b s e = at_lines (text_lines b) refl e
    where
      at_rest_lem : (h : State) (ls : List Line) → HeadListed h → LinesGood ls → (o : Option Rest) → rest_of ls ≡ o → tabled_from h o ≡ some s
          → (text_of x (HeadLine (on_table [] s) ∷ lines_of s.table) ≡ text_of x (HeadLine h ∷ ls)) × StateListed s
      at_rest_lem h ls v g none q d = absurd (never_some d)
      at_rest_lem h ls v g (some p) q d = with_rest p.candidates p.table (rest_text ls p q) (rest_listed ls p g q).table d
        where
          with_rest : (cs : List Candidate) (t : Table) → text_of x (map CandidateLine cs ++ lines_of t) ≡ text_of x ls → TableListed t → tabled h cs t ≡ some s
              → (text_of x (HeadLine (on_table [] s) ∷ lines_of s.table) ≡ text_of x (HeadLine h ∷ ls)) × StateListed s
          with_rest (c ∷ cs) t w a d = absurd (never_some d)
          with_rest [] t w a d =
              let g : on_table t h ≡ s = cc in
              rw (← g) (ap (λ (u : List ℕ). joined (head_fields x h) ++ (10 ∷ u)) w, record { head = with_table t h v; table = a })

      at_state : (ls : List Line) → LinesGood ls → state_of (some ls) ≡ some s → (text_of x (HeadLine (on_table [] s) ∷ lines_of s.table) ≡ text_of x ls) × StateListed s
      at_state [] g d = absurd (never_some d)
      at_state (HeadLine h ∷ ls) g d = at_rest_lem h ls g.0.0 g.1 (rest_of ls) refl d
      at_state (RequestLine r ∷ ls) g d = absurd (never_some d)
      at_state (CandidateLine c ∷ ls) g d = absurd (never_some d)

      at_text : (ts : List (List ℕ)) (o : Option (List Line)) → lines_in x ts ≡ o → state_of o ≡ some s
          → (text_of x (HeadLine (on_table [] s) ∷ lines_of s.table) ≡ ended_lines ts) × StateListed s
      at_text ts none q d = absurd (never_some d)
      at_text ts (some ls) q d =
          let r = lines_in_text ts ls q in
          let p = at_state ls r.1 d in
          (p.0 ∙ sym r.0, p.1)

      at_lines : (o : Option (List (List ℕ))) → text_lines b ≡ o → state_of (lines_from x o) ≡ some s → (text_of x (HeadLine (on_table [] s) ∷ lines_of s.table) ≡ b) × StateListed s
      at_lines none q d = absurd (never_some d)
      at_lines (some ts) q d = let p = at_text ts (lines_in x ts) refl d in (p.0 ∙ sym (lines-text b ts q), p.1)

-- ---- a sound state can be written

has_word : (k : Key) (n : ℕ) (cs : List Candidate) → has n cs ≡ true → AllFit k cs → n < word
unfolding has
has_word k n [] e a = never e
has_word k n (c ∷ cs) e a = elim (test (eqb c.connection n)) [
  | inl d ↦ rw (← (eqb-true c.connection n d)) a.0.connection
  | inr d ↦ has_word k n cs (rw d at e) a.1
]

owner-listed : (k : Key) (o : Option Owner) (cs : List Candidate) → OwnerFits o cs → AllFit k cs → Whenever OwnerListed o
owner-listed k none cs f a = tt
owner-listed k (some o) cs f a = record { connection = has_word k o.connection cs f.0 a; deadline = f.1 }

hashes-listed : (hs : List ℕ) → Hashes hs → Each (λ h. h < top) hs
hashes-listed [] a = tt
hashes-listed (h ∷ hs) a = (a.0, hashes-listed hs a.1)

package-listed : (k : Kind) (o : Option Owner) (i : Bool) (p : Option Package) (hs : List ℕ) → Packed k o i p hs → Whenever PackageListed p
package-listed k o i none hs f = tt
package-listed k o true (some p) hs f = absurd f
package-listed k o false (some p) hs f =
    record { combined = f.2.combined; wtxids = record { hashes = hashes-listed p.wtxids f.2.wtxids; least = f.2.some_wtxid; most = f.2.few_wtxids } }

request-listed : (r : Request) → r.key.hash < top → Lawful r → RequestListed r
request-listed r h l = record {
  key = h;
  owner = owner-listed r.key r.owner r.candidates l.owner l.candidates;
  packed = package-listed r.key.kind r.owner r.info r.«package» r.parents l.packed;
  parents = record { hashes = hashes-listed r.parents l.parents.hashes; least = omega arith; most = l.parents.few };
}

item-listed : (c : ItemKind) (h : ℕ) (k : Key) → k.hash < top → key_as (kind_of c) h ≡ some k → ItemListed c × (h < top)
item-listed Transaction h k l e = (tt, let d : h ≡ k.hash = cc in omega arith)
item-listed WitnessTransaction h k l e = (tt, let d : h ≡ k.hash = cc in omega arith)
item-listed WTx h k l e = (tt, let d : h ≡ k.hash = cc in omega arith)
item-listed (Other n) h k l e = absurd (never_some e)

candidates-listed : (k : Key) (cs : List Candidate) → k.hash < top → AllFit k cs → Each CandidateListed cs
candidates-listed k [] h a = tt
candidates-listed k (c ∷ cs) h a =
    let f = a.0 in
    let i = item-listed c.item.kind c.item.hash k h f.item in
    (record { connection = f.connection; item = i.0; hash = i.1; ready = f.ready; priority = f.priority }, candidates-listed k cs h a.1)

in_order : (r : Request) (t : Table) → Ordered (suc (place r.key)) t → NotBelow r.key t
in_order r [] o = tt
in_order r (q ∷ t) o = omega (arith, o.0)

table-listed : (lo : ℕ) (t : Table) → Ordered lo t → All Lawful t → TableListed t
table-listed lo [] o a = tt
table-listed lo (r ∷ t) o a =
    (in_order r t o.2, request-listed r o.1 a.0, candidates-listed r.key r.candidates o.1 a.0.candidates, table-listed (suc (place r.key)) t o.2 a.1)

poll-listed : (p : Option ℕ) → PollFits p → Whenever (λ n. n < word) p
poll-listed none f = tt
poll-listed (some n) f = f

cursor-listed : (c : Option Key) → CursorFits c → Whenever KeyTyped c
cursor-listed none f = tt
cursor-listed (some k) f = f

pub sound-listed : (s : State) → Sound s → StateListed s
sound-listed s v = record {
  head = record {
    limit = omega arith;
    places = omega arith;
    poll = poll-listed s.next_poll v.poll;
    known = cursor-listed s.known_cursor v.known;
    ready = cursor-listed s.ready_cursor v.ready;
  };
  table = table-listed 0 s.table v.bounded.ordered v.bounded.lawful;
}

-- ---- the listing

-- "Reading a listing gives the .. state that was saved"
pub listing_read : (s : State) → Sound s → read_listing (listing s) ≡ some s
listing_read s v = form_read short short-fits s (sound-listed s v)

-- a text that is read is the listing of the state that it gives, sound or not
pub read-listing : (b : List ℕ) (s : State) → read_listing b ≡ some s → listing s ≡ b
read-listing b s e = (form-listing short short-fits b s e).0

-- "Every sound state has one listing"
pub one_listing : (s t : State) → Sound s → Sound t → listing s ≡ listing t → s ≡ t
one_listing s t v w e =
    let p : some s ≡ some t = sym (listing_read s v) ∙ ap (λ (b : List ℕ). read_listing b) e ∙ listing_read t w in
    cc

-- a text is read exactly if it is the listing of a state that can be written: all others get 11
pub listed_read : (s : State) → StateListed s → read_listing (listing s) ≡ some s
listed_read s v = form_read short short-fits s v

pub read_listed : (b : List ℕ) (s : State) → read_listing b ≡ some s → StateListed s
read_listed b s e = (form-listing short short-fits b s e).1
