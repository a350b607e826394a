-- Announcing commutes with taking the packages away: announce, request_parent and announce_parents look at candidates and owners alone.
use Prim.Native.Nat.{ℕ, suc}
use mathlib.Core.Path.{◌≡◌, refl, ap, ◌∙◌}
use mathlib.Core.Logic.{inl, inr}
use mathlib.Core.Bool.{Bool, true, false, ◌||◌}
use mathlib.Core.List.{List, [], ◌∷◌}
use mathlib.Core.Option.{Option, none, some}
use lib.Dec.{ltb, leb}
use Rattle.std.specs.Prelude.{if◌then◌else◌}
use Rattle.ident.specs.Number.{Key, other, txid}
use Rattle.machine.specs.Limits.{Limits, max_peer_announcements}
use Rattle.machine.specs.State.{Candidate, Request, Table, Entry, Answer, refused, owner_is}
use Rattle.machine.specs.Table.{at, has, any, by, under, by_under}
use Rattle.machine.specs.Announce.{push, cut, victims_in, victims, greatest, evicting, at_hash, anywhere, announce_at, adopted, request_parent_at}
use Rattle.machine.specs.Fail.{Listed, parent_of, mark, dedup, parents_from, announce_parents}
use Rattle.machine.proofs.Tests.{test}
use Rattle.apart.specs.Bare.{bare_request, bare, bare_answer, bare_listed}
use Rattle.apart.proofs.BareTable.{at_bare, count-bare}
use Rattle.apart.proofs.BareChange.{push-bare, cut-bare, adopted-bare, mark-bare}

-- a' is what a answers, with its table bare
record Bares (a a' : Answer) : Type 0 where
  is : a' ≡ bare_answer a

-- two tests that come to the same, and what each branch answers
branch : (b : Bool) {b' : Bool} {x y x' y' : Answer} → b' ≡ b → Bares x x' → Bares y y' → Bares (if b then x else y) (if b' then x' else y')
branch true e p q = rw e p
branch false e p q = rw e q

answers : (r : Bool) (t t' : Table) → t' ≡ bare t → Bares (record { reply = r; table = t }) (record { reply = r; table = t' })
answers r t t' e = record { is = ap (λ (x : Table). record { reply = r; table = x }) e }

stays : (t : Table) → Bares (refused t) (refused (bare t))
stays t = record { is = refl }

-- ---- eviction

victims-in : (r : Request) (cs : List Candidate) → victims_in (bare_request r) cs ≡ victims_in r cs
unfolding victims_in
victims-in r [] = refl
victims-in r (c ∷ cs) = elim (test (c.preferred || owner_is c.connection r.owner)) [ inl e ↦ rw e (victims-in r cs) | inr e ↦ rw (e, victims-in r cs) ]

victims-bare : (p : Key → Bool) (t : Table) → victims p (bare t) ≡ victims p t
unfolding victims bare
victims-bare p [] = refl
victims-bare p (r ∷ t) = rw (victims-in r r.candidates, victims-bare p t)

evicting-bare : (o : Option Entry) (k : Key) (c : Candidate) (t : Table) → Bares (evicting o k c t) (evicting o k c (bare t))
unfolding evicting
evicting-bare none k c t = stays t
evicting-bare (some v) k c t =
    answers true (push k c (cut v.key v.candidate.connection t)) (push k c (cut v.key v.candidate.connection (bare t)))
    (ap (push k c) (cut-bare v.key v.candidate.connection t) ∙ push-bare k c (cut v.key v.candidate.connection t))

evicts : (p : Key → Bool) (k : Key) (c : Candidate) (t : Table) → Bares (evicting (greatest (victims p t)) k c t) (evicting (greatest (victims p (bare t))) k c (bare t))
evicts p k c t = rw (victims-bare p t) (evicting-bare (greatest (victims p t)) k c t)

-- ---- announce, request_parent

announces : (m : Limits) (k : Key) (c : Candidate) (t : Table) → Bares (announce_at m k c t) (announce_at m k c (bare t))
unfolding announce_at
announces m k c t =
    branch _ (ap (ltb 0) (count-bare (by_under c.connection k.hash) t)) (stays t)
    (branch _ (ap (leb max_peer_announcements) (count-bare (by c.connection) t)) (stays t)
    (branch _ (ap (leb m.alternates) (count-bare (under k.hash) t)) (branch c.preferred refl (evicts (at_hash k.hash) k c t) (stays t))
    (branch _ (ap (leb m.announcements) (count-bare any t)) (branch c.preferred refl (evicts anywhere k c t) (stays t))
    (answers true (push k c t) (push k c (bare t)) (push-bare k c t)))))

pub announce_at-bare : (m : Limits) (k : Key) (c : Candidate) (t : Table) → announce_at m k c (bare t) ≡ bare_answer (announce_at m k c t)
announce_at-bare m k c t = (announces m k c t).is

has-bare : (n : ℕ) (k : Key) (t : Table) → has n (at k (bare t)).candidates ≡ has n (at k t).candidates
has-bare n k t = ap (λ (r : Request). has n r.candidates) (at_bare k t)

asks : (m : Limits) (k : Key) (c : Candidate) (t : Table) → Bares (request_parent_at m k c t) (request_parent_at m k c (bare t))
unfolding request_parent_at
asks m k c t =
    branch _ (has-bare c.connection k t) (answers true (adopted true k c t) (adopted true k c (bare t)) (adopted-bare true k c t))
    (branch _ (has-bare c.connection (other k) t) (answers true (adopted false (other k) c t) (adopted false (other k) c (bare t)) (adopted-bare false (other k) c t))
    (announces m k c t))

pub request_parent_at-bare : (m : Limits) (k : Key) (c : Candidate) (t : Table) → request_parent_at m k c (bare t) ≡ bare_answer (request_parent_at m k c t)
request_parent_at-bare m k c t = (asks m k c t).is

-- ---- announce_parents

abbrev marking : Key → Answer → Table
marking k a = if a.reply then mark k a.table else a.table

marking-bare : (k : Key) (a : Answer) → marking k (bare_answer a) ≡ bare (marking k a)
marking-bare k a = elim (test a.reply) [ inl e ↦ rw e (mark-bare k a.table) | inr e ↦ rw e ]

-- one parent in front of the rest
abbrev behind : Key → Bool → Listed → Listed
behind k b l = record { keys = if b then k ∷ l.keys else l.keys; table = l.table }

pub parents_from-bare : (m : Limits) (n now i : ℕ) (hs : List ℕ) (t : Table) → parents_from m n now i hs (bare t) ≡ bare_listed (parents_from m n now i hs t)
unfolding parents_from
parents_from-bare m n now i [] t = refl
parents_from-bare m n now i (h ∷ hs) t =
    let k = txid h in
    let a = request_parent_at m k (parent_of n now h i) t in
    ap (λ (x : Answer). behind k x.reply (parents_from m n now (suc i) hs (marking k x))) (request_parent_at-bare m k (parent_of n now h i) t)
    ∙ ap (λ (x : Table). behind k a.reply (parents_from m n now (suc i) hs x)) (marking-bare k a)
    ∙ ap (behind k a.reply) (parents_from-bare m n now (suc i) hs (marking k a))

pub announce_parents-bare : (m : Limits) (n now : ℕ) (hs : List ℕ) (t : Table) → announce_parents m n now hs (bare t) ≡ bare_listed (announce_parents m n now hs t)
unfolding announce_parents
announce_parents-bare m n now hs t = parents_from-bare m n now 0 (dedup hs) t
