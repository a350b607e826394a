-- What the contracts of the readers of a listing's lines say. The fields are read as the definition reads them (machine/specs/Listing).
use Rattle.std.specs.Prelude.{ℕ, ◌+◌, ◌<◌, ◌≤◌, ◌≡◌, Bool, true, false, List, [], ◌∷◌, length, drop}
use Rattle.std.specs.Prelude.{Option as Maybe, Some, None, IfSome, IsNone}
use denote.Ref.{Bor}
use Rattle.std.specs.Fn.{Once, FnOnceReturns}
use Rattle.std.proofs.Math.Option.{Option, none, some}
use Rattle.ident.specs.Number.{Key}
use Rattle.regions.specs.Rows.{quad_number}
use Rattle.machine.specs.State.{Candidate, Owner, Package, Request, State}
use Rattle.machine.specs.Fields.{before, rest, same_text}
use Rattle.machine.specs.Listing.{Line, HeadLine, RequestLine, CandidateLine, none_text, request_with, short, text_lines, one_more, lines_from}
use Rattle.lines.specs.Values.{number_in, key_in}
use Rattle.ident.specs.declared.Kind.{Kind}
use Rattle.lines.specs.declared.read.Named.{Named}
use Rattle.reading.specs.declared.fields.Parsed.{Parsed}
use Rattle.reading.specs.Given.{At, parsed_in, hashes_of}
use Rattle.listed_lines.specs.declared.parts.Owner as parts-owner
use Rattle.listed_lines.specs.declared.parts.Package as parts-package
use Rattle.listed_lines.specs.declared.line.Head as line-head
use Rattle.listed_lines.specs.declared.line.Request as line-request
use Rattle.listed_lines.specs.declared.line.Candidate as line-candidate
use Rattle.listed_lines.specs.declared.line.Line as line-line
use Rattle.listed_lines.specs.declared.line.Line.TheVariants.{Not as NoLine, Head as IsHead, Request as IsRequest, Candidate as IsCandidate}

-- ---- fields

-- what stands in one field or in several: what k makes of its value and of the fields behind
abbrev pub Reader : Type 0 → Type 0
Reader A = (A → List (List ℕ) → Option Line) → List (List ℕ) → Option Line

-- what k makes of the value and of the fields behind it
abbrev pub then_in : {A : Type 0} → List ℕ → (A → List (List ℕ) → Option Line) → Option (At A) → Option Line
then_in l k none = none
then_in l k (some a) = k a.value (rest l (a.end + 1))

-- in front of the fields fs, which end the line l, stands what `read` says to be o
pub record Took {A : Type 0} (read : Reader A) (l : List ℕ) (fs : List (List ℕ)) (o : Option (At A)) : Type 0 where
  pub is : (k : A → List (List ℕ) → Option Line) → read k fs ≡ then_in l k o

abbrev pub FirstAnswered : {T : Type 0} → (List ℕ → Maybe T → Type 0) → List ℕ → Maybe (Parsed T) → Type 0
FirstAnswered Answers l None = Answers (before 44 l) None
FirstAnswered Answers l (Some p) = (p.end ≡ length (before 44 l)) × Answers (before 44 l) (Some p.value)

-- the line's first field is what a reader answers of its bytes; `Answers f r`: the reader may answer r of f
pub record FirstParsed {T : Type 0} (Answers : List ℕ → Maybe T → Type 0) (l : List ℕ) (r : Maybe (Parsed T)) : Type 0 where
  pub is : FirstAnswered Answers l r

-- whether the first field is `none`
abbrev pub starts_none : List (List ℕ) → Bool
starts_none [] = false
starts_none (f ∷ fs) = same_text f none_text

-- it is, and gs stand behind it
pub record NoneThen (fs gs : List (List ℕ)) : Type 0 where
  pub field : List ℕ
  pub parts : fs ≡ field ∷ gs
  pub same : same_text field none_text ≡ true

-- the field behind the comma at index e is `none` and ends at index r; none: it is not
pub record NoneAt (l : List ℕ) (e : ℕ) (r : Maybe ℕ) : Type 0 where
  pub not : IsNone r → starts_none (rest l (e + 1)) ≡ false
  pub is : IfSome r (λ to. NoneThen (rest l (e + 1)) (rest l (to + 1)))

-- r is a result that the call of f at the line l and the index e may give
abbrev pub FnOnceReturnsIn : {F R : Type 0} → Once F (Bor (List ℕ) × (ℕ × Unit {0})) R → F → List ℕ → ℕ → R → Type 0
FnOnceReturnsIn g f l e r = (p : Bor (List ℕ)) × FnOnceReturns g f (p, (e, tt)) r × (p.now ≡ l)

abbrev pub MaybeValued : {T : Type 0} → (Maybe (Parsed T) → Type 0) → List ℕ → ℕ → ℕ → Maybe T → Type 0
MaybeValued Answers l e end None = NoneAt l e (Some end)
MaybeValued Answers l e end (Some v) = NoneAt l e None × Answers (Some (record { value = v; end = end }))

abbrev pub MaybeAnswered : {T : Type 0} → (Maybe (Parsed T) → Type 0) → List ℕ → ℕ → Maybe (Parsed (Maybe T)) → Type 0
MaybeAnswered Answers l e None = NoneAt l e None × Answers None
MaybeAnswered Answers l e (Some p) = MaybeValued Answers l e p.end p.value

-- behind the comma at index e stands `none`, or what a reader answers; `Answers r`: the reader may answer r
pub record MaybeParsed {T : Type 0} (Answers : Maybe (Parsed T) → Type 0) (l : List ℕ) (e : ℕ) (r : Maybe (Parsed (Maybe T))) : Type 0 where
  pub is : MaybeAnswered Answers l e r

abbrev pub maybe_number_at : Maybe (Parsed (Maybe ℕ)) → Option (At (Option ℕ))
maybe_number_at r = parsed_in number_in r

abbrev pub maybe_key_at : Maybe (Parsed (Maybe (Named Kind))) → Option (At (Option Key))
maybe_key_at r = parsed_in key_in r

-- ---- lists of hashes

-- room for the longest list: 100 hashes of 32 bytes
abbrev pub longest_list : ℕ
longest_list = 100

abbrev pub list_room : ℕ
list_room = 3200

-- a list behind its length
abbrev pub list_at : List ℕ → Maybe (Parsed ℕ) → Option (At (List ℕ))
list_at b r = parsed_in (λ n. hashes_of n b) r

-- ---- owner and package

abbrev pub the_owner : parts-owner.Owner → Owner
the_owner o = record { connection = o.connection; deadline = o.deadline }

abbrev pub owner_of : Maybe parts-owner.Owner → Option Owner
owner_of None = none
owner_of (Some o) = some (the_owner o)

abbrev pub owner_there : Maybe (Parsed parts-owner.Owner) → Option (At Owner)
owner_there r = parsed_in the_owner r

abbrev pub owner_at : Maybe (Parsed (Maybe parts-owner.Owner)) → Option (At (Option Owner))
owner_at r = parsed_in owner_of r

-- its wtxids stand in the bytes b
abbrev pub package_of : List ℕ → Maybe parts-package.Package → Option Package
package_of b None = none
package_of b (Some p) = some (record { combined = quad_number p.combined; wtxids = hashes_of p.wtxids b; enqueued = p.enqueued })

abbrev pub package_at : List ℕ → Maybe (Parsed (Maybe parts-package.Package)) → Option (At (Option Package))
package_at b r = parsed_in (package_of b) r

-- ---- lines

abbrev pub head_state : line-head.Head → State
head_state h = record { limit = h.limit; places = h.places; table = []; next_poll = number_in h.poll; known_cursor = key_in h.known; ready_cursor = key_in h.ready }

-- the request of a line, whose wtxids stand in the bytes ws and whose parents in ps
abbrev pub request_in : List ℕ → List ℕ → line-request.Request → Request
request_in ws ps r =
    request_with (record { kind = r.key.kind; hash = quad_number r.key.hash }) (owner_of r.owner) r.info (package_of ws r.packed) (hashes_of r.parents ps) r.mark

abbrev pub candidate_in : line-candidate.Candidate → Candidate
candidate_in c = record { connection = c.connection; item = record { kind = c.kind; hash = quad_number c.hash }; ready = c.ready; preferred = c.preferred; priority = c.priority }

abbrev pub head_line : Maybe line-head.Head → Option Line
head_line None = none
head_line (Some h) = some (HeadLine (head_state h))

abbrev pub request_line : List ℕ → List ℕ → Maybe line-request.Request → Option Line
request_line ws ps None = none
request_line ws ps (Some r) = some (RequestLine (request_in ws ps r))

abbrev pub candidate_line : Maybe line-candidate.Candidate → Option Line
candidate_line None = none
candidate_line (Some c) = some (CandidateLine (candidate_in c))

abbrev pub line_in : List ℕ → List ℕ → line-line.Line → Option Line
line_in ws ps NoLine = none
line_in ws ps (IsHead h) = some (HeadLine (head_state h))
line_in ws ps (IsRequest r) = some (RequestLine (request_in ws ps r))
line_in ws ps (IsCandidate c) = some (CandidateLine (candidate_in c))

-- the lines of a text; none if one of them is of no form, or the last one does not end
unfoldable pub lines_of_text : List ℕ → Option (List Line)
lines_of_text b = lines_from short (text_lines b)

-- the text from index at on has the line r, and then the lines behind it; a line that is of no form leaves none
abbrev pub LineAt : Type 0
LineAt = Parsed line-line.Line

pub record LineRead (b : List ℕ) (at : ℕ) (ws ps : List ℕ) (r : LineAt) : Type 0 where
  pub is : lines_of_text (drop at b) ≡ one_more (line_in ws ps r.value) (lines_of_text (drop r.end b))
  pub on : at < r.end
  pub inside : r.end ≤ length b
