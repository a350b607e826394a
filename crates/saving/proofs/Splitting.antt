-- A table in two parts, the requests that are done and those that are left: the first of these, its rows and its lines.
use Prim.Native.Nat.{ℕ, suc, ◌-◌, ◌≤◌, ◌<◌}
use mathlib.Core.Path.{◌≡◌, refl, sym, ap, ◌∙◌}
use mathlib.Core.List.{List, [], ◌∷◌, ◌++◌, map, append_assoc, append-nil}
use native.Mathlib.Omega.{arith}
use lib.ListN.{length, get_or, length-append}
use lib.Seq.{take_at, drop_at, get_or_at}
use borrow.Author.Tests.{lt-ltb, le-ltb}
use Rattle.ident.specs.Number.{place, top}
use Rattle.regions.specs.declared.Row.{Row}
use Rattle.regions.specs.Regions.{each}
use Rattle.machine.specs.State.{Candidate, Request, Table, with_candidates}
use Rattle.machine.specs.Table.{at}
use Rattle.machine.specs.Sound.{AllFit, Filled, Ordered}
use Rattle.machine.proofs.At.{at_here, at_there}
use Rattle.machine.specs.Listing.{short, Line, RequestLine, CandidateLine, line_fields, lines_of, text_of}
use Rattle.machine.specs.Text.{joined}
use Rattle.store.specs.Flat.{row_of, rows_for, rows_of}
use Rattle.store.specs.Gather.{key_at, candidate_at}
use Rattle.store.proofs.Bits.{key_row, candidate-row}
use Rattle.store.proofs.Split.{below, each_append}
use Rattle.announcing.specs.Evicts.{part}
use Rattle.saving.specs.Laid.{line_text, row_texts}

-- ---- the first request that is left

-- it comes after those that are done
after : (lo : ℕ) (done : Table) (r : Request) (rest : Table) → Ordered lo (done ++ (r ∷ rest)) → lo ≤ place r.key
after lo [] r rest o = o.0
after lo (d ∷ done) r rest o = let h = after (suc (place d.key)) done r rest o.2 in omega (arith, o.0)

pub at_split : (lo : ℕ) (done : Table) (r : Request) (rest : Table) → Ordered lo (done ++ (r ∷ rest)) → at r.key (done ++ (r ∷ rest)) ≡ r
at_split lo [] r rest o = at_here r.key r rest refl
at_split lo (d ∷ done) r rest o =
    let h = after (suc (place d.key)) done r rest o.2 in
    at_there r.key d (done ++ (r ∷ rest)) (λ e. omega (arith, e)) ∙ at_split (suc (place d.key)) done r rest o.2

pub below_split : (lo : ℕ) (done : Table) (r : Request) (rest : Table) → Ordered lo (done ++ (r ∷ rest)) → below r.key (done ++ (r ∷ rest)) ≡ done
unfolding below
below_split lo [] r rest o = rw (le-ltb (place r.key) (place r.key) (omega arith))
below_split lo (d ∷ done) r rest o =
    let h = after (suc (place d.key)) done r rest o.2 in
    rw (lt-ltb (place d.key) (place r.key) h) (ap (λ (l : Table). d ∷ l) (below_split (suc (place d.key)) done r rest o.2))

pub small_split : (lo : ℕ) (done : Table) (r : Request) (rest : Table) → Ordered lo (done ++ (r ∷ rest)) → r.key.hash < top
small_split lo [] r rest o = o.1
small_split lo (d ∷ done) r rest o = small_split (suc (place d.key)) done r rest o.2

-- ---- its rows

pub rows_split : (done : Table) (r : Request) (rest : Table) → rows_of (done ++ (r ∷ rest)) ≡ rows_of done ++ (rows_for r ++ rows_of rest)
unfolding each
rows_split done r rest = each_append rows_for done (r ∷ rest)

pub rows_more_lem : (done : Table) (r : Request) → rows_of (done ++ (r ∷ [])) ≡ rows_of done ++ rows_for r
unfolding each
rows_more_lem done r = rows_split done r [] ∙ ap (λ (l : List Row). rows_of done ++ l) (append-nil (rows_for r))

pub key_split : (done : Table) (r : Request) (rest : Table) {i : ℕ} → i ≡ length (rows_of done) → Filled r → (d : Row) → key_at (get_or (rows_of (done ++ (r ∷ rest))) i d) ≡ r.key
unfolding rows_for
key_split done r rest {i} e f d = ap (λ (l : List Row). key_at (get_or l i d)) (rows_split done r rest) ∙ go r.candidates f
  where
    go : (cs : List Candidate) → 1 ≤ length cs → key_at (get_or (rows_of done ++ (map (row_of r) cs ++ rows_of rest)) i d) ≡ r.key
    go [] h = absurd (omega arith)
    go (c ∷ cs) h = ap key_at (get_or_at (rows_of done) (row_of r c) (map (row_of r) cs ++ rows_of rest) d i (sym e)) ∙ key_row r c

pub part_split : (done : Table) (r : Request) (rest : Table) {i to : ℕ} → i ≡ length (rows_of done) → to ≡ length (rows_of done ++ rows_for r) → part i to (rows_of (done ++ (r ∷ rest))) ≡ rows_for r
part_split done r rest {i} {to} e f =
    let z : to - i ≡ length (rows_for r) = omega (arith, length-append (rows_of done) (rows_for r)) in
    rw (z, rows_split done r rest, drop_at (rows_of done) (rows_for r ++ rows_of rest) i (sym e)) (take_at (rows_for r) (rows_of rest) (length (rows_for r)) refl)

-- ---- its lines

pub text-append : (a b : List Line) → text_of short (a ++ b) ≡ text_of short a ++ text_of short b
unfolding text_of
text-append [] b = refl
text-append (l ∷ a) b = rw (text-append a b) (sym (append_assoc (joined (line_fields short l)) (10 ∷ text_of short a) (text_of short b)))

pub text_one : (l : Line) (ls : List Line) → text_of short (l ∷ ls) ≡ line_text l ++ text_of short ls
unfolding text_of line_text
text_one l ls = sym (append_assoc (joined (line_fields short l)) (10 ∷ []) (text_of short ls))

pub text_none : text_of short [] ≡ []
unfolding text_of
text_none = refl

lines-append : (a b : Table) → lines_of (a ++ b) ≡ lines_of a ++ lines_of b
unfolding lines_of
lines-append [] b = refl
lines-append (r ∷ a) b = ap (λ (l : List Line). RequestLine (with_candidates [] r) ∷ l) (rw (lines-append a b) (sym (append_assoc (map CandidateLine r.candidates) (lines_of a) (lines_of b))))

lines_one : (r : Request) → lines_of (r ∷ []) ≡ RequestLine (with_candidates [] r) ∷ map CandidateLine r.candidates
unfolding lines_of
lines_one r = ap (λ (l : List Line). RequestLine (with_candidates [] r) ∷ l) (append-nil (map CandidateLine r.candidates))

shown : (r : Request) (cs : List Candidate) → AllFit r.key cs → map (λ (q : Row). CandidateLine (candidate_at q)) (map (row_of r) cs) ≡ map CandidateLine cs
shown r [] f = refl
shown r (c ∷ cs) f = rw (candidate-row r c f.0.item) (ap (λ (l : List Line). CandidateLine c ∷ l) (shown r cs f.1))

pub rows-shown : (r : Request) → AllFit r.key r.candidates → row_texts (rows_for r) ≡ text_of short (map CandidateLine r.candidates)
unfolding rows_for
rows-shown r f = ap (text_of short) (shown r r.candidates f)

-- the lines of the requests that are done, and those of one more
pub text_more : (done : Table) (r : Request) → AllFit r.key r.candidates
    → text_of short (lines_of (done ++ (r ∷ []))) ≡ text_of short (lines_of done) ++ (line_text (RequestLine (with_candidates [] r)) ++ row_texts (rows_for r))
text_more done r f =
    let one = text_one (RequestLine (with_candidates [] r)) (map CandidateLine r.candidates) in
    ap (text_of short) (lines-append done (r ∷ []))
    ∙ text-append (lines_of done) (lines_of (r ∷ []))
    ∙ ap (λ (l : List Line). text_of short (lines_of done) ++ text_of short l) (lines_one r)
    ∙ ap (λ (x : List ℕ). text_of short (lines_of done) ++ x) (one ∙ ap (λ (x : List ℕ). line_text (RequestLine (with_candidates [] r)) ++ x) (sym (rows-shown r f)))
