-- What claim leaves alone: keys, and every part of every request but the owners of those that had none.
use Prim.Native.Nat.{ℕ, ◌+◌, ◌≤◌, ◌<◌}
use mathlib.Core.Path.{◌≡◌, refl, sym, ap, ◌∙◌}
use mathlib.Core.Logic.{◌⊎◌, inl, inr}
use mathlib.Core.Bool.{true}
use mathlib.Core.List.{List, [], ◌∷◌}
use mathlib.Core.Option.{none}
use native.Mathlib.Omega.{arith}
use lib.ListN.{length}
use Rattle.std.specs.Prelude.{if◌then◌else◌}
use Rattle.ident.specs.Number.{Key, top}
use Rattle.machine.specs.Limits.{Limits, request_lifetime, word}
use Rattle.machine.specs.State.{Request, Table, Entry, owned_until, is_some}
use Rattle.machine.specs.Table.{at, change, keys, has}
use Rattle.machine.specs.Claim.{takes, claim}
use Rattle.machine.specs.Choosing.{ownerless, owning, ClaimKeeps, ClaimMarks}
use Rattle.machine.specs.Sound.{Ordered, Bounded}
use Rattle.machine.specs.Typed.{Each, EntryTyped}
use Rattle.machine.proofs.Tests.{test, by_test, never}
use Rattle.machine.proofs.Change.{unowned_at}
use Rattle.machine.proofs.Claim.{Takes, takes-means, bounded-take}
use Rattle.machine.proofs.At.{kept, kept_some, at_same, at_other, keys-stay}
use Rattle.machine.proofs.Alone.{has_some, at_either}

-- the owner of a request is what it was, or new, one of its candidates, with the deadline d
abbrev pub OwnedBy : ℕ → Request → Request → Type 0
OwnedBy d r r' = (r'.owner ≡ r.owner) ⊎ ((r.owner ≡ none) × ((n : ℕ) × (r'.owner ≡ owning n d) × (has n r.candidates ≡ true)))

pub record Claimed (d : ℕ) (t t' : Table) : Type 0 where
  pub keys : keys t' ≡ keys t
  pub rest : (j : Key) → j.hash < top → ownerless (at j t') ≡ ownerless (at j t)
  pub owner : (j : Key) → j.hash < top → OwnedBy d (at j t) (at j t')

claimed_same : {d : ℕ} {t : Table} → Claimed d t t
claimed_same = record { keys = refl; rest = λ j s. refl; owner = λ j s. inl refl }

claimed_then : {d : ℕ} {t t' t'' : Table} → Claimed d t t' → Claimed d t' t'' → Claimed d t t''
claimed_then {d} {t} {t'} {t''} a b = record { keys = b.keys ∙ a.keys; rest = λ j s. b.rest j s ∙ a.rest j s; owner = λ j s. go j s (a.owner j s) (b.owner j s) }
  where
    go : (j : Key) → j.hash < top → OwnedBy d (at j t) (at j t') → OwnedBy d (at j t') (at j t'') → OwnedBy d (at j t) (at j t'')
    go j s (inl x) (inl y) = inl (y ∙ x)
    go j s (inl x) (inr y) = inr (sym x ∙ y.0, (y.1.0, y.1.1, ap (λ (r : Request). has y.1.0 r.candidates) (sym (a.rest j s)) ∙ y.1.2))
    go j s (inr x) (inl y) = inr (x.0, (x.1.0, y ∙ x.1.1, x.1.2))
    go j s (inr x) (inr y) = never (sym (ap is_some y.0) ∙ ap is_some x.1.1)

-- ---- one entry

-- the request of an entry that is taken
taken_here : (a : Entry) (d : ℕ) (t : Table) → Ordered 0 t → Takes t a
    → at a.key (change a.key (owned_until a.candidate.connection d) t) ≡ owned_until a.candidate.connection d (at a.key t)
taken_here a d t o x =
    let f = owned_until a.candidate.connection d in
    at_same a.key f 0 t (λ r. refl) o ∙ kept_some a.key (f (at a.key t)) (at a.key t).candidates (has_some a.candidate.connection (at a.key t).candidates x.held)

claimed-take : {m : Limits} {Q : ℕ} {t : Table} (a : Entry) (d : ℕ) → a.key.hash < top → Takes t a → Bounded m Q t → Claimed d t (change a.key (owned_until a.candidate.connection d) t)
claimed-take {m} {Q} {t} a d s x b = record {
  keys = keys-stay k f 0 t (λ r. refl) b.ordered some_candidate some_candidate;
  rest = at_either (λ j r. ownerless r ≡ ownerless (at j t)) k f t s (λ r. refl) b.ordered (ap ownerless here) (λ j h. refl);
  owner = at_either (λ j r. OwnedBy d (at j t) r) k f t s (λ r. refl) b.ordered
      (inr (unowned_at k t s b.ordered x.free, (n, ap (λ (r : Request). r.owner) here, x.held))) (λ j h. inl refl);
}
  where
    k : Key
    k = a.key

    n : ℕ
    n = a.candidate.connection

    f : Request → Request
    f = owned_until n d

    some_candidate : 1 ≤ length (at k t).candidates
    some_candidate = has_some n (at k t).candidates x.held

    here : kept k (f (at k t)) (f (at k t)).candidates ≡ f (at k t)
    here = kept_some k (f (at k t)) (at k t).candidates some_candidate

-- ---- claim

pub claimed : {m : Limits} {Q : ℕ} {t : Table} (now : ℕ) (l : List Entry) → now + request_lifetime < word → Each EntryTyped l → Bounded m Q t
    → Claimed (now + request_lifetime) t (claim now l t).table
unfolding claim
claimed now [] w s b = claimed_same
claimed {m} {Q} {t} now (a ∷ l) w s b =
    let d = now + request_lifetime in
    let t' = if takes now a t then change a.key (owned_until a.candidate.connection d) t else t in
    let one : Claimed d t t' = by_test (Claimed d t) (takes now a t) (λ e. claimed-take a d s.0.hash (takes-means now a t e) b) (λ e. claimed_same) in
    claimed_then one (claimed {t = t'} now l w s.1 (by_test (Bounded m Q) (takes now a t) (λ e. bounded-take now a s.0.hash w (takes-means now a t e) b) (λ e. b)))

-- an owner stays
owner_stays : {d : ℕ} {t t' : Table} (j : Key) → j.hash < top → Claimed d t t' → {n e : ℕ} → (at j t).owner ≡ owning n e → (at j t').owner ≡ owning n e
owner_stays j s c x = elim (c.owner j s) [ inl y ↦ y ∙ x | inr y ↦ never (sym (ap is_some y.0) ∙ ap is_some x) ]

keeps : {m : Limits} {Q : ℕ} {t : Table} (now : ℕ) (l : List Entry) → now + request_lifetime < word → Each EntryTyped l → Bounded m Q t → ClaimKeeps now t (claim now l t)
unfolding claim
keeps now [] w s b = record { keys = refl; rest = λ j h. refl; taken = tt; others = λ j h n. refl }
keeps {m} {Q} {t} now (a ∷ l) w s b =
    elim (test (takes now a t)) [
      | inr e ↦ rw e (keeps now l w s.1 b)
      | inl e ↦
          let d = now + request_lifetime in
          let x = takes-means now a t e in
          let b' = bounded-take now a s.0.hash w x b in
          let one = claimed-take a d s.0.hash x b in
          let g = keeps {t = change a.key (owned_until a.candidate.connection (now + request_lifetime)) t} now l w s.1 b' in
          let here = ap (λ (r : Request). r.owner) (taken_here a d t b.ordered x) in
          rw e (record {
            keys = g.keys ∙ one.keys;
            rest = λ j h. g.rest j h ∙ one.rest j h;
            taken = (owner_stays a.key s.0.hash (claimed now l w s.1 b') here, g.taken);
            others = λ j h n. g.others j h n.1 ∙ ap (λ (r : Request). r.owner) (at_other j a.key (owned_until a.candidate.connection d) t (λ r. refl) (λ q. n.0 (sym q)));
          })
    ]

pub claim-marks : ClaimMarks
claim-marks now l s h e g = keeps now l (omega arith) e g.bounded
