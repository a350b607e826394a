-- Who owns a hash, read at its two keys.
use Prim.Native.Nat.{ℕ, ◌<◌}
use mathlib.Core.Path.{◌≡◌, refl, sym, ap, subst, ◌∙◌}
use mathlib.Core.Bool.{Bool, true, false, ◌&&◌}
use mathlib.Core.Option.{none}
use native.Mathlib.Omega.{arith}
use lib.Dec.{ltb, eqb}
use borrow.Author.Tests.{ne_eqb}
use Rattle.std.specs.Prelude as rust
use Rattle.std.specs.Prelude.{Some, None, is_some}
use Rattle.ident.specs.declared.Kind.{Kind}
use Rattle.ident.specs.declared.Kind.TheVariants.{Txid, Wtxid}
use Rattle.ident.specs.Number.{top, Key, txid, wtxid}
use Rattle.machine.specs.Limits.{max_in_flight}
use Rattle.machine.specs.State.{Request, Table, State}
use Rattle.machine.specs.Table.{at, owned_at, owned_by}
use Rattle.machine.specs.Sound.{Sound}
use Rattle.machine.proofs.Change.{unowned_at}
use Rattle.machine.proofs.Tests.{never}
use Rattle.machine.proofs.Unowned.{owners_none}
use Rattle.package_stages.specs.declared.Request.{Request as Read}
use Rattle.package_stages.specs.declared.Owner.{Owner as OwnerRead}
use Rattle.package_stages.specs.Changes.{owner_as, RequestOf}

-- ---- the two keys of a hash

module _ {q : Request} {r : Read} (x : RequestOf q r) where
  owner-missing : is_some r.owner ≡ false → q.owner ≡ none
  owner-missing e = sym x.owner ∙ go r.owner e
    where
      go : (o : rust.Option OwnerRead) → is_some o ≡ false → owner_as o ≡ none
      go None e = refl
      go (Some o) e = never (sym e)

  owner-there : is_some r.owner ≡ true → q.owner ≡ none → ⊥
  owner-there e z = go r.owner e (x.owner ∙ z)
    where
      go : (o : rust.Option OwnerRead) → is_some o ≡ true → owner_as o ≡ none → ⊥
      go None e z = never e
      go (Some o) e z = cc

module _ (st : State) (s : Sound st) (n h : ℕ) (small : h < top) {a b : Read} (ea : RequestOf (at (txid h) st.table) a) (eb : RequestOf (at (wtxid h) st.table) b) where
  owned_at_lem : (k : Key) → k.hash ≡ h → ((at k st.table).owner ≡ none → ⊥) → owned_at h st.table ≡ 0 → ⊥
  owned_at_lem k e f z = f (unowned_at k st.table (rw e small) s.bounded.ordered (rw e (omega (arith, z))))

  pub owned_first : is_some a.owner ≡ true → (x : Bool) → false ≡ (eqb (owned_at h st.table) 0 && x)
  owned_first f x = rw (ne_eqb (owned_at h st.table) 0 (owned_at_lem (txid h) refl (owner-there ea f))) refl

  pub owned-second : is_some b.owner ≡ true → (x : Bool) → false ≡ (eqb (owned_at h st.table) 0 && x)
  owned-second f x = rw (ne_eqb (owned_at h st.table) 0 (owned_at_lem (wtxid h) refl (owner-there eb f))) refl

  nobody : is_some a.owner ≡ false → is_some b.owner ≡ false → owned_at h st.table ≡ 0
  nobody x y = owners_none h 0 st.table s.bounded.ordered (λ k e. at_kind k.kind k.hash e)
    where
      at_kind : (d : Kind) (g : ℕ) → g ≡ h → (at (record { kind = d; hash = g }) st.table).owner ≡ none
      at_kind Txid g e = rw e (owner-missing ea x)
      at_kind Wtxid g e = rw e (owner-missing eb y)

  pub owned_none : {o : ℕ} → is_some a.owner ≡ false → is_some b.owner ≡ false → o ≡ owned_by n st.table → ltb o max_in_flight ≡
      (eqb (owned_at h st.table) 0 && ltb (owned_by n st.table) max_in_flight)
  owned_none x y e = rw (nobody x y) (ap (λ (o : ℕ). ltb o max_in_flight) e)

-- what the code reads at a key
pub read-at : {k j : Key} {r : Read} (t : Table) → k ≡ j → RequestOf (at k t) r → RequestOf (at j t) r
read-at {r = r} t e f = subst (λ (k : Key). RequestOf (at k t) r) e f
