-- Standard input, a byte at a time (docs/EVENTS.md): its lines, what each answers, and the store.
use Rattle.std.specs.Prelude.{ℕ, ◌≡◌, ◌≤◌, ◌<◌, Bool, true, false, List, [], ◌∷◌, ◌++◌, eqb, ltb, length, take, if◌then◌else◌}
use Rattle.std.proofs.Math.Option.{Option, none, some}
use Rattle.words.specs.Words.{Decides}
use Rattle.machine.specs.Call.{Call}
use Rattle.store.specs.Image.{SoundStore}
use Rattle.outcome.specs.Outcome.{Effect, Does}
use Rattle.events.specs.declared.so_far.SoFar.{SoFar}
use Rattle.events.specs.declared.so_far.SoFar.TheVariants.{Whole, TooLong}
use Rattle.reading.specs.Line.{Line}
use Rattle.asking.specs.Calls.{line_of}
use Rattle.printing.specs.Replies.{refusal_text, unreadable, reply_text}
use Rattle.printing.specs.Given.{line_room}
use Rattle.printing.specs.Kept.{KeptLists, no_lists, Meant, Calls, Parts, meant, kept_after}
use Rattle.printing.specs.Answers.{part_text}

-- ---- what a line does

-- "A line of more than 65,536 bytes is unreadable", whatever its bytes are
abbrev pub asks_for : List ℕ → Option Line
asks_for line = if ltb line_room (length line) then none else line_of line

-- the line x, which is the call c, on a store of the bytes b leaves b' and turns the kept lists k to k'; text is its reply
pub record Effected (x : Line) (c : Call) (k k' : KeptLists) (b b' text : List ℕ) : Type 0 where
  pub effect : Effect
  pub does : Does c b effect
  pub store : b' ≡ effect.store
  pub kept : k' ≡ kept_after x effect.reply k
  pub text_is : text ≡ reply_text c effect.reply

-- one connection's part of what is arranged leaves everything
pub record Parted (n : ℕ) (k k' : KeptLists) (b b' text : List ℕ) : Type 0 where
  pub sound : Bool
  pub tested : Decides sound (SoundStore b)
  pub store : b' ≡ b
  pub kept : k' ≡ k
  pub text_is : text ≡ part_text sound n k.arranged

abbrev pub MeantAs : Line → Meant → KeptLists → KeptLists → List ℕ → List ℕ → List ℕ → Type 0
MeantAs x (Calls c) k k' b b' text = Effected x c k k' b b' text
MeantAs x (Parts n) k k' b b' text = Parted n k k' b b' text

abbrev pub RepliedAs : Option Line → KeptLists → KeptLists → List ℕ → List ℕ → List ℕ → Type 0
RepliedAs none k k' b b' text = (k' ≡ k) × (b' ≡ b) × (text ≡ refusal_text unreadable)
RepliedAs (some x) k k' b b' text = MeantAs x (meant k x) k k' b b' text

pub record Replied (o : Option Line) (k k' : KeptLists) (b b' text : List ℕ) : Type 0 where
  pub is : RepliedAs o k k' b b' text

abbrev pub line_feed : ℕ
line_feed = 10

-- a line on a store of the bytes b leaves b', turns the kept lists k to k' and says its answer, with a line feed
pub record LineAnswered (line : List ℕ) (k k' : KeptLists) (b b' said : List ℕ) : Type 0 where
  pub text : List ℕ
  pub replied : Replied (asks_for line) k k' b b' text
  pub said_is : said ≡ text ++ (line_feed ∷ [])

-- ---- what a byte does

-- the bytes behind the last line feed, and the store and the kept lists as the lines before left them
pub record Reading : Type 0 where
  pub line : List ℕ
  pub store : List ℕ
  pub kept : KeptLists

abbrev pub started : List ℕ → Reading
started b = record { line = []; store = b; kept = no_lists }

-- a line feed ends the line, which is answered; any other byte belongs to the line
abbrev pub ReadsAs : Bool → Reading → ℕ → Reading → List ℕ → Type 0
ReadsAs true p x q said = (q.line ≡ []) × LineAnswered p.line p.kept q.kept p.store q.store said
ReadsAs false p x q said = (q.line ≡ p.line ++ (x ∷ [])) × (q.store ≡ p.store) × (q.kept ≡ p.kept) × (said ≡ [])

pub record Reads (p : Reading) (x : ℕ) (q : Reading) (said : List ℕ) : Type 0 where
  pub is : ReadsAs (eqb x line_feed) p x q said

-- its fold over a list of bytes
pub data ReadsAll : Reading → List ℕ → Reading → List ℕ → Type 0 where
  nothing : (p : Reading) → ReadsAll p [] p []
  further : (p : Reading) (xs : List ℕ) (m : Reading) (before : List ℕ) (x : ℕ) (q : Reading) (said : List ℕ) → ReadsAll p xs m before → Reads m x q said
      → ReadsAll p (xs ++ (x ∷ [])) q (before ++ said)

-- the end of the input: the last line may lack its line feed
abbrev pub EndsAs : List ℕ → KeptLists → KeptLists → List ℕ → List ℕ → List ℕ → Type 0
EndsAs [] k k' b b' said = (b' ≡ b) × (said ≡ [])
EndsAs (x ∷ l) k k' b b' said = LineAnswered (x ∷ l) k k' b b' said

-- the whole input, on a store of the bytes b
pub record Input (b xs b' said : List ℕ) : Type 0 where
  pub last : Reading
  pub kept : KeptLists
  pub before : List ℕ
  pub behind : List ℕ
  pub reads : ReadsAll (started b) xs last before
  pub ends : EndsAs last.line last.kept kept last.store b' behind
  pub said_is : said ≡ before ++ behind

-- ---- what the program keeps of it

-- what is asked for by a line of which the buffer holds so much
abbrev pub asked_in : SoFar → List ℕ → Option Line
asked_in (Whole n) buffer = line_of (take n.bytes buffer)
asked_in TooLong buffer = none

-- whether bytes came behind the last line feed
abbrev pub has_line : SoFar → Bool
has_line (Whole n) = ltb 0 n.bytes
has_line TooLong = true

-- a line of at most 65,536 bytes stands in the buffer, and of a longer one its first 65,536
abbrev pub HeldLine : SoFar → List ℕ → List ℕ → Type 0
HeldLine (Whole n) buffer line = (n.bytes ≡ length line) × (length line ≤ line_room) × (take n.bytes buffer ≡ line)
HeldLine TooLong buffer line = (line_room < length line) × (take line_room buffer ≡ take line_room line)

-- and the kept lists are those of the reading
pub record Held (k : SoFar) (buffer store : List ℕ) (lists : KeptLists) (p : Reading) : Type 0 where
  pub line_is : HeldLine k buffer p.line
  pub store_is : store ≡ p.store
  pub lists-are : lists ≡ p.kept

-- what holds of every reading that the program keeps so
abbrev pub OfHeld : SoFar → List ℕ → List ℕ → KeptLists → (Reading → Type 0) → Type 0
OfHeld k buffer store lists P = (p : Reading) → Held k buffer store lists p → P p

-- ---- the contracts

-- the line that was printed, and its line feed: r bytes at the front of out, which are written
pub record Said (o : Option Line) (k k' : KeptLists) (b b' out : List ℕ) (r : ℕ) : Type 0 where
  pub text : List ℕ
  pub replied : Replied o k k' b b' text
  pub count : r ≡ length (text ++ (line_feed ∷ []))
  pub shown : take r out ≡ text ++ (line_feed ∷ [])

pub record Took (p : Reading) (x : ℕ) (k : SoFar) (buffer store : List ℕ) (lists : KeptLists) (out : List ℕ) : Type 0 where
  pub next : Reading
  pub said : List ℕ
  pub reads : Reads p x next said
  pub held : Held k buffer store lists next
  -- what is written stands at the front of out
  pub shown : take (length said) out ≡ said

pub record TookAll (p : Reading) (xs : List ℕ) (k : SoFar) (buffer store : List ℕ) (lists : KeptLists) : Type 0 where
  pub next : Reading
  pub said : List ℕ
  pub reads : ReadsAll p xs next said
  pub held : Held k buffer store lists next

-- some bytes: which, no contract of a reader says
pub record TookSome (p : Reading) (k : SoFar) (buffer store : List ℕ) (lists : KeptLists) : Type 0 where
  pub bytes : List ℕ
  pub all : TookAll p bytes k buffer store lists

pub record Ended (p : Reading) (store out : List ℕ) : Type 0 where
  pub kept : KeptLists
  pub said : List ℕ
  pub ends : EndsAs p.line p.kept kept p.store store said
  pub shown : take (length said) out ≡ said

pub record Ran (b b' : List ℕ) : Type 0 where
  pub bytes : List ℕ
  pub said : List ℕ
  pub input : Input b bytes b' said
