-- What the step on one line says of the store, of the kept lists and of its answer.
use Rattle.std.specs.Prelude.{ℕ, ◌≡◌, Bool, not, List, eqb, if◌then◌else◌}
use Rattle.std.proofs.Math.Option.{Option, none, some}
use Rattle.words.specs.Words.{Decides}
use Rattle.machine.specs.State.{Entry}
use Rattle.machine.specs.Call.{Call}
use Rattle.machine.specs.Claim.{part_of}
use Rattle.store.specs.Image.{SoundStore}
use Rattle.reading.specs.Line.{Line}
use Rattle.printing.specs.Replies.{refusal_text, unreadable, listed, entry_texts}
use Rattle.printing.specs.Given.{Printed, Carried}
use Rattle.printing.specs.Kept.{KeptLists, Meant, Calls, Parts, meant, kept_after}

-- a line that is none leaves everything, and says that it is unreadable
pub record Unread (k k' : KeptLists) (b b' out out' : List ℕ) (r : ℕ) : Type 0 where
  pub kept : k' ≡ k
  pub store : b' ≡ b
  pub text : Printed out out' (refusal_text unreadable) r

-- the line x, which is the call c
pub record CallLine (x : Line) (c : Call) (k k' : KeptLists) (b b' out out' : List ℕ) (r : ℕ) : Type 0 where
  pub carried : Carried c b b' out out' r
  pub kept : k' ≡ kept_after x carried.effect.reply k

-- `part`: refusals 3 and 4 as of a call that names the connection, then the connection's entries
abbrev pub part_text : Bool → ℕ → List Entry → List ℕ
part_text sound n l = if not sound then refusal_text 3 else if eqb n 0 then refusal_text 4 else listed (entry_texts (part_of n l))

pub record PartLine (n : ℕ) (k k' : KeptLists) (b b' out out' : List ℕ) (r : ℕ) : Type 0 where
  pub kept : k' ≡ k
  pub store : b' ≡ b
  pub sound : Bool
  pub tested : Decides sound (SoundStore b)
  pub text : Printed out out' (part_text sound n k.arranged) r

abbrev pub MeantAs : Line → Meant → KeptLists → KeptLists → List ℕ → List ℕ → List ℕ → List ℕ → ℕ → Type 0
MeantAs x (Calls c) k k' b b' out out' r = CallLine x c k k' b b' out out' r
MeantAs x (Parts n) k k' b b' out out' r = PartLine n k k' b b' out out' r

abbrev pub AnsweredAs : Option Line → KeptLists → KeptLists → List ℕ → List ℕ → List ℕ → List ℕ → ℕ → Type 0
AnsweredAs none k k' b b' out out' r = Unread k k' b b' out out' r
AnsweredAs (some x) k k' b b' out out' r = MeantAs x (meant k x) k k' b b' out out' r

-- the step on one line, which asks for o: from the kept lists k and the store b to k' and b', with its answer in out'
pub record Answered (o : Option Line) (k k' : KeptLists) (b b' out out' : List ℕ) (r : ℕ) : Type 0 where
  pub is : AnsweredAs o k k' b b' out out' r

-- a step that leaves the lists, whatever they are
pub record Keeping (o : Option Line) (b b' out out' : List ℕ) (r : ℕ) : Type 0 where
  pub is : (k : KeptLists) → Answered o k k b b' out out' r
