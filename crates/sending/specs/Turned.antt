-- What the contracts of Sending say of an entry as it is sent.
use Rattle.std.specs.Prelude.{ℕ, ◌*◌, ◌≡◌, Bool, true, false, List}
use Rattle.ident.specs.declared.ItemKind.{ItemKind}
use Rattle.ident.specs.declared.ItemKind.TheVariants.{Transaction, WitnessTransaction, WTx, Other}
use Rattle.words.specs.Words.{words, splice}
use Rattle.machine.specs.Call.{entry_bytes}
use Rattle.machine.specs.Claim.{elem, for_witness}
use Rattle.machine.specs.State as machine
use Rattle.machine.specs.Step.{entry_answer}
use Rattle.requests.specs.Changes.{Tells}
use Rattle.claiming.specs.Claiming.{entry_of, entry_from}
use Rattle.sending.specs.declared.witness.Witness.{Witness}
use Rattle.sending.specs.declared.witness.Sent.{Sent}

abbrev pub is_transaction : ItemKind → Bool
is_transaction Transaction = true
is_transaction WitnessTransaction = false
is_transaction WTx = false
is_transaction (Other n) = false

-- what is known of the witness connections, which v has as words, is so
abbrev pub Holds : List ℕ → Witness → Type 0
Holds v k = k.listed ≡ elem k.connection (words v)

-- r is the entry a as it is sent, with what is known then
pub record Turned (s v : List ℕ) (a : machine.Entry) (r : Sent) : Type 0 where
  pub entry : Tells s (λ t. entry_of r.entry ≡ for_witness (words v) t a)
  pub known : Holds v r.known

-- the j-th entry of the bytes l as it is sent is the i-th of the answer; k is known then
pub record PutTurned (s l : List ℕ) (j : ℕ) (v u u' : List ℕ) (i : ℕ) (k : Witness) : Type 0 where
  pub entry : Tells s (λ t. u' ≡ splice u (entry_bytes * i) (entry_answer (for_witness (words v) t (entry_from l j))))
  pub known : Holds v k
