-- What the contracts of a phase say: the keys of a list considered one after the other, from any earlier scan on.
use Rattle.std.specs.Prelude.{ℕ, ◌+◌, ◌≤◌, ◌≡◌, false, List, ◌++◌, if◌then◌else◌}
use Rattle.ident.specs.Number.{Key}
use Rattle.machine.specs.Limits.{max_request_checks}
use Rattle.machine.specs.State.{State}
use Rattle.machine.specs.Plan as machine
use Rattle.store.specs.Shown.{rows_in, Kept}
pub use Rattle.lent_lists.specs.Lists.{key_count, given_keys}
use Rattle.selecting.specs.declared.Scan.{Scan}
use Rattle.selecting.specs.Selecting.{Scanning}

-- v says how far a phase has come: what is left of it leads to the scan `all`
pub record Phasing (now : ℕ) (st : State) (b p : List ℕ) (v : Scan) (left : List Key) (all : machine.Scan) : Type 0 where
  pub scan : machine.Scan
  pub stands : Scanning now st scan b p v
  pub all_are : (if v.full then scan else machine.phase now st.table left scan) ≡ all

-- one more can be selected as long as the phase goes on
pub record Roomy (v : Scan) : Type 0 where
  pub most : v.chosen ≤ max_request_checks + 1
  pub more : v.full ≡ false → v.chosen ≤ max_request_checks

-- of a phase whose next keys are ks the first are considered, at most n: `left` are those that are not
pub record Scans (b b' p p' : List ℕ) (now : ℕ) (ks left : State → List Key) (v w : Scan) (n : ℕ) : Type 0 where
  pub kept : Kept b'
  pub rows_same : rows_in b' ≡ rows_in b
  pub roomy : Roomy w
  pub near : w.considered ≤ v.considered + n
  pub goes : (st : State) (rest : List Key) (all : machine.Scan) → Phasing now st b p v (ks st ++ rest) all → Phasing now st b' p' w (left st ++ rest) all

-- a whole phase over the keys ks, at most n, from any earlier scan on
pub record Phased (b b' p p' : List ℕ) (now : ℕ) (ks : State → List Key) (v w : Scan) (n : ℕ) : Type 0 where
  pub kept : Kept b'
  pub rows_same : rows_in b' ≡ rows_in b
  pub most : w.chosen ≤ max_request_checks + 1
  pub near : w.considered ≤ v.considered + n
  pub goes : (st : State) (c : machine.Scan) → Scanning now st c b p v → Scanning now st (machine.phase now st.table (ks st) c) b' p' w
