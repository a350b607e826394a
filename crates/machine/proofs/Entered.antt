-- A connection that is announced at a key came in, or nothing changed.
use Prim.Native.Nat.{◌≤◌}
use mathlib.Core.Path.{◌≡◌, refl, sym}
use mathlib.Core.Logic.{inl, inr}
use mathlib.Core.Bool.{true, false}
use mathlib.Core.List.{List, [], ◌∷◌, ◌++◌}
use mathlib.Core.Option.{Option, none, some}
use native.Mathlib.Omega.{arith}
use lib.Dec.{ltb, leb, eqb}
use lib.ListN.{length, length-append}
use borrow.Author.Tests.{eqb-true, eq-eqb}
use Rattle.ident.specs.Number.{Key, place}
use Rattle.machine.specs.Limits.{Limits, max_peer_announcements}
use Rattle.machine.specs.State.{Candidate, Request, Table, Entry, Answer, blank, with_candidates}
use Rattle.machine.specs.Table.{at, keep, change, has, held, held_by, held_at, is_candidate}
use Rattle.machine.specs.Announce.{push, victims, anywhere, at_hash, greatest, evicting, announce_at}
use Rattle.machine.proofs.At.{at_here}
use Rattle.machine.proofs.Tests.{test, by_test, never, or_true}

has_last : (cs : List Candidate) (c : Candidate) → has c.connection (cs ++ (c ∷ [])) ≡ true
unfolding has
has_last [] c = rw (eq-eqb c.connection c.connection refl)
has_last (d ∷ cs) c = or_true (eqb d.connection c.connection) _ (has_last cs c)

module _ (k : Key) (c : Candidate) where
  abbrev more : Request → Request
  more r = with_candidates (r.candidates ++ (c ∷ [])) r

  kept_here : (r : Request) (cs : List Candidate) (t : Table) → 1 ≤ length cs → place k ≡ place r.key → at k (keep r cs t) ≡ r
  unfolding keep
  kept_here r [] t h e = absurd (omega arith)
  kept_here r (d ∷ cs) t h e = at_here k r t e

  at_more : (r : Request) (t : Table) → place k ≡ place r.key → has c.connection (at k (keep (more r) (r.candidates ++ (c ∷ [])) t)).candidates ≡ true
  at_more r t e = rw (kept_here (more r) (r.candidates ++ (c ∷ [])) t (omega (arith, length-append r.candidates (c ∷ []))) e) (has_last r.candidates c)

  pub pushed_has : (t : Table) → has c.connection (at k (push k c t)).candidates ≡ true
  unfolding change at
  pushed_has [] = at_more (blank k) [] refl
  pushed_has (r ∷ t) = elim (test (ltb (place k) (place r.key))) [
    | inl e ↦ rw e (at_more (blank k) (r ∷ t) refl)
    | inr e ↦ rw e (elim (test (eqb (place k) (place r.key))) [
      | inl d ↦ rw d (at_more r t (eqb-true (place k) (place r.key) d))
      | inr d ↦ rw (d, d) (pushed_has t)
    ])
  ]

-- an answer that brings c in at k, or leaves the table
pub record Enters (k : Key) (c : Candidate) (t : Table) (a : Answer) : Type 0 where
  pub came : a.reply ≡ true → has c.connection (at k a.table).candidates ≡ true
  pub stays : a.reply ≡ false → a.table ≡ t

module _ (m : Limits) (k : Key) (c : Candidate) (t : Table) where
  out : Enters k c t (record { reply = false; table = t })
  out = record { came = λ e. never e; stays = λ e. refl }

  comes : (x : Table) → Enters k c t (record { reply = true; table = push k c x })
  comes x = record { came = λ e. pushed_has k c x; stays = λ e. never (sym e) }

  in_place : (v : Option Entry) → Enters k c t (evicting v k c t)
  unfolding evicting
  in_place none = out
  in_place (some v) = comes _

  pub enters : Enters k c t (announce_at m k c t)
  unfolding announce_at
  enters =
      by_test P (is_candidate c.connection k.hash t) (λ e. out) λ e.
      by_test P (leb max_peer_announcements (held_by c.connection t)) (λ e. out) λ e.
      by_test P (leb m.alternates (held_at k.hash t)) (λ e. by_test P c.preferred (λ e. in_place (greatest (victims (at_hash k.hash) t))) (λ e. out)) λ e.
      by_test P (leb m.announcements (held t)) (λ e. by_test P c.preferred (λ e. in_place (greatest (victims anywhere t))) (λ e. out)) λ e. comes t
    where
      P : Answer → Type 0
      P a = Enters k c t a
