-- request_parent by its two tests: a candidate at the key, a candidate at the other kind, neither.
use Prim.Native.Nat.{ℕ}
use mathlib.Core.Path.{◌≡◌, sym, subst, ◌∙◌}
use mathlib.Core.Bool.{Bool, true, false}
use mathlib.Core.List.{List}
use Rattle.ident.specs.Number.{Key, other}
use Rattle.machine.specs.State.{Candidate, Table}
use Rattle.machine.specs.Table.{at, has}
use Rattle.machine.specs.Announce.{announce_at, adopted, request_parent_at}
use Rattle.requests.specs.Changes.{Makes, Tells}
use Rattle.announcing.specs.Answers.{Answered}

module _ (b b' : List ℕ) (k : Key) (c : Candidate) where
  -- whether c's connection is a candidate at a key
  abbrev Holds : Key → Bool → Type 0
  Holds j r = Tells b (λ (t : Table). r ≡ has c.connection (at j t).candidates)

  abbrev Adopts : Bool → Key → Type 0
  Adopts same j = Makes b b' (λ (t : Table). has c.connection (at j t).candidates ≡ true) (adopted same j c)

  pub at_key : {r : Bool} → Holds k r → r ≡ true → Adopts true k → Answered b b' true (λ m t. request_parent_at m k c t)
  unfolding request_parent_at
  at_key h e a = record {
    reply = λ st s w. rw (sym (h st s w) ∙ e);
    table = λ st s w. let g = sym (h st s w) ∙ e in rw g (a st s w g);
  }

  -- the other kind's key, as the code has it
  module _ (j : Key) (q : j ≡ other k) {p r : Bool} (d : Holds k p) (n : p ≡ false) where
    pub at_other : Holds j r → r ≡ true → Adopts false j → Answered b b' true (λ m t. request_parent_at m k c t)
    unfolding request_parent_at
    at_other h e a = record {
      reply = λ st s w. let g = found st s w in rw (sym (d st s w) ∙ n, g);
      table = λ st s w. let g = found st s w in rw (sym (d st s w) ∙ n, g) (subst (λ (i : Key). Adopts false i) q a st s w g);
    }
      where
        found : Tells b (λ (t : Table). has c.connection (at (other k) t).candidates ≡ true)
        found st s w = sym (subst (λ (i : Key). Holds i r) q h st s w) ∙ e

    pub at_neither : {a : Bool} → Holds j r → r ≡ false → Answered b b' a (λ m t. announce_at m k c t) → Answered b b' a (λ m t. request_parent_at m k c t)
    unfolding request_parent_at
    at_neither h e a = record {
      reply = λ st s w. let g = missing st s w in rw (sym (d st s w) ∙ n, g) (a.reply st s w);
      table = λ st s w. let g = missing st s w in rw (sym (d st s w) ∙ n, g) (a.table st s w);
    }
      where
        missing : Tells b (λ (t : Table). has c.connection (at (other k) t).candidates ≡ false)
        missing st s w = sym (subst (λ (i : Key). Holds i r) q h st s w) ∙ e
