-- Who is asked for package info, from what is read of a request.
use Prim.Native.Nat.{ℕ, ◌≤◌, ◌<◌}
use mathlib.Core.Path.{◌≡◌, refl, sym, ap, subst, ◌∙◌}
use mathlib.Core.Bool.{Bool, true, false, not}
use mathlib.Core.List.{List}
use mathlib.Core.Option.{Option, none, some}
use native.Mathlib.Omega.{arith}
use lib.Dec.{eqb}
use borrow.Author.Tests.{ne_eqb, lt-ltb, le-ltb}
use Rattle.std.specs.Bool.{then_some}
use Rattle.std.specs.Option.{option_eq, MatchOption}
use Rattle.std.specs.Prelude as rust
use Rattle.std.specs.Prelude.{Some, None}
use Rattle.ident.specs.declared.Kind.{Kind}
use Rattle.ident.specs.Number.{Key}
use Rattle.machine.specs.State.{Owner, Package, Request, Table, Answer, on_table}
use Rattle.machine.specs.Table.{at}
use Rattle.machine.specs.Fail.{failed}
use Rattle.machine.specs.Package.{info_owned, failed_package_info, info_owner_of, package_info_owner}
use Rattle.machine.specs.Sound.{Packed, Lawful}
use Rattle.machine.proofs.Tests.{never}
use Rattle.store.specs.Image.{Writes}
use Rattle.requests.specs.Changes.{Tells}
use Rattle.package_stages.specs.declared.Request.{Request as Read}
use Rattle.package_stages.specs.contracts.StagePartialEq.TheImpl.{eq-value}
use Rattle.package_stages.specs.declared.Owner.{Owner as OwnerRead}
use Rattle.package_stages.specs.declared.Stage.TheVariants.{Flagged}
use Rattle.package_stages.specs.Changes.{stage_of, RequestOf}
use Rattle.package_stages.proofs.Read.{stage-is}
use Rattle.failing.proofs.Releasing.{owner-some, owner-none}
use Rattle.announcing.specs.Answers.{Answered}

-- "never both": the flag is stage 1
info_read : (j : Kind) (o : Option Owner) (hs : List ℕ) (i : Bool) (p : Option Package) → Packed j o i p hs → eqb (stage_of i p) 1 ≡ i
info_read j o hs true (some p) k = absurd k
info_read j o hs true none k = refl
info_read j o hs false (some p) k = ne_eqb (stage_of false (some p)) 1 (λ e. omega arith)
info_read j o hs false none k = refl

not-not : (b : Bool) → not b ≡ false → b ≡ true
not-not true e = refl
not-not false e = never (sym e)

not-yes : (b : Bool) → not b ≡ true → b ≡ false
not-yes true e = never e
not-yes false e = refl

module _ {q : Request} {r : Read} (l : Lawful q) (x : RequestOf q r) where
  pub info-is : {b : Bool} → b ≡ option_eq eq-value.it r.stage (Some Flagged) → b ≡ q.info
  info-is e = e ∙ stage-is x Flagged ∙ info_read q.key.kind q.owner q.parents q.info q.«package» l.packed

  -- the code asks whether the stage is another
  pub flagged : {b : Bool} → b ≡ not (option_eq eq-value.it r.stage (Some Flagged)) → b ≡ false → true ≡ q.info
  flagged e z = sym (not-not _ (sym e ∙ z)) ∙ info-is refl

  pub plain : {b : Bool} → b ≡ not (option_eq eq-value.it r.stage (Some Flagged)) → b ≡ true → false ≡ q.info
  plain e z = sym (not-yes _ (sym e ∙ z)) ∙ info-is refl

  module _ (v : ℕ) where
    pub asked-plain : false ≡ q.info → 0 ≡ info_owner_of v q.info q.owner
    asked-plain e = go q.owner ∙ ap (λ (i : Bool). info_owner_of v i q.owner) e
      where
        go : (o : Option Owner) → 0 ≡ info_owner_of v false o
        go none = refl
        go (some o) = refl

    -- ---- the owner in time

    pub asked-owner : true ≡ q.info → {o : OwnerRead} → r.owner ≡ Some o → v < o.deadline → o.connection ≡ info_owner_of v q.info q.owner
    asked-owner e {o} d h = rw (sym e, owner-some x d, lt-ltb v o.deadline h)

    asked-late : true ≡ q.info → {o : OwnerRead} → r.owner ≡ Some o → o.deadline ≤ v → 0 ≡ info_owner_of v q.info q.owner
    asked-late e {o} d h = rw (sym e, owner-some x d, le-ltb v o.deadline h)

    asked-nobody : true ≡ q.info → r.owner ≡ None → 0 ≡ info_owner_of v q.info q.owner
    asked-nobody e d = rw (sym e, owner-none x d)

    pub asked-none : true ≡ q.info → MatchOption r.owner (Unit {0}) (λ o. o.deadline ≤ v) → 0 ≡ info_owner_of v q.info q.owner
    asked-none e m = go r.owner refl m
      where
        go : (o : rust.Option OwnerRead) → r.owner ≡ o → MatchOption o (Unit {0}) (λ o. o.deadline ≤ v) → 0 ≡ info_owner_of v q.info q.owner
        go None d m = asked-nobody e d
        go (Some o) d m = asked-late e d m

-- ---- what a filter keeps, if the test tells Yes or No

module _ {X : Type 0} (P : X → Bool → Type 0) where
  sieved : (o r : rust.Option X) → MatchOption o (r ≡ None) (λ x. (b : Bool) × P x b × (r ≡ then_some b x))
      → MatchOption r (MatchOption o (Unit {0}) (λ x. P x false)) (λ x. (o ≡ Some x) × P x true)
  sieved None r e = rw e tt
  sieved (Some x) r (true, p, e) = rw e (refl, p)
  sieved (Some x) r (false, p, e) = rw e p

  pub kept_some : (Yes : X → Type 0) (o r : rust.Option X) → MatchOption o (r ≡ None) (λ x. (b : Bool) × P x b × (r ≡ then_some b x)) → {x : X} → r ≡ Some x
      → ((x : X) → P x true → Yes x) → (o ≡ Some x) × Yes x
  kept_some Yes o r m {x} e f =
      let z = subst (λ z. MatchOption z (MatchOption o (Unit {0}) (λ x. P x false)) (λ x. (o ≡ Some x) × P x true)) e (sieved o r m) in
      (z.0, f x z.1)

  pub kept_none : (No : X → Type 0) (o r : rust.Option X) → MatchOption o (r ≡ None) (λ x. (b : Bool) × P x b × (r ≡ then_some b x)) → r ≡ None
      → ((x : X) → P x false → No x) → MatchOption o (Unit {0}) No
  kept_none No o r m e f = go o (subst (λ z. MatchOption z (MatchOption o (Unit {0}) (λ x. P x false)) (λ x. (o ≡ Some x) × P x true)) e (sieved o r m))
    where
      go : (o : rust.Option X) → MatchOption o (Unit {0}) (λ x. P x false) → MatchOption o (Unit {0}) No
      go None m = tt
      go (Some x) m = f x m

pub owner_told : (k : Key) (v : ℕ) (t : Table) {m : ℕ} → m ≡ info_owner_of v (at k t).info (at k t).owner → m ≡ package_info_owner k v t
unfolding package_info_owner
owner_told k v t e = e

-- ---- the answer

pub info-refused : {b : List ℕ} (k : Key) (n v : ℕ) → Tells b (λ t. info_owned n (at k t) ≡ false) → Answered b b false (λ m t. failed_package_info k n v t)
unfolding failed_package_info
info-refused {b} k n v r = record {
  reply = λ st s w. rw (r st s w);
  table = λ st s w. rw (r st s w) w;
}

info-failed : (k : Key) (n v : ℕ) (t : Table) → info_owned n (at k t) ≡ true → failed_package_info k n v t ≡ failed k n v t
unfolding failed_package_info
info-failed k n v t e = rw e

pub info-answered : {b b' : List ℕ} {x : Bool} (k : Key) (n v : ℕ) → Tells b (λ t. info_owned n (at k t) ≡ true) → Answered b b' x (λ m t. failed k n v t)
    → Answered b b' x (λ m t. failed_package_info k n v t)
info-answered {b} {b'} k n v r a = record {
  reply = λ st s w. a.reply st s w ∙ ap (λ (y : Answer). y.reply) (sym (info-failed k n v st.table (r st s w)));
  table = λ st s w. subst (λ (y : Answer). Writes b' (on_table y.table st)) (sym (info-failed k n v st.table (r st s w))) (a.table st s w);
}
