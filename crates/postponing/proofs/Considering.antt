-- How a parent fares at an open hash that its connection has announced under neither kind, and what comes of it.
use Prim.Native.Nat.{ℕ, ◌+◌, ◌-◌, ◌<◌}
use mathlib.Core.Path.{◌≡◌, refl, sym, ap, subst, ◌∙◌}
use mathlib.Core.Bool.{Bool, true, false}
use mathlib.Core.Logic.{inl, inr}
use mathlib.Core.List.{List, [], ◌∷◌, ◌++◌}
use mathlib.Core.Option.{none}
use native.Mathlib.Omega.{arith}
use lib.Dec.{leb, eqb}
use borrow.Author.Tests.{leb-true, leb-false, eq-eqb, ne_eqb}
use Rattle.std.specs.Prelude.{Some, None}
use Rattle.std.specs.Prelude as std
use Rattle.ident.specs.Number.{top, Key, place, txid}
use Rattle.machine.specs.Limits.{max_peer_announcements, word}
use Rattle.machine.specs.State.{Candidate, Entry, Table, State, Answer, limits_of, on_table}
use Rattle.machine.specs.Table.{at, held_by, is_candidate}
use Rattle.machine.specs.Announce.{victims, greatest, at_hash}
use Rattle.machine.specs.Fail.{parent_of}
use Rattle.machine.proofs.Fail.{Peer}
use Rattle.machine.proofs.Tests.{test, never}
use Rattle.package_stages.specs.declared.Owner.{Owner as OwnerRead}
use Rattle.package_stages.specs.Changes.{owner_as, OwnerAmong}
use Rattle.package_stages.proofs.Owners.{owner-is}
use Rattle.requests.specs.Changes.{Tells, Spans}
use Rattle.requests.proofs.Keeping.{from_at, to_at}
use Rattle.announcing.specs.Answers.{Answered, one_parent}
use Rattle.announcing.specs.Enters.{Crowded}
use Rattle.announcing.specs.Evicts.{found}
use Rattle.announcing.proofs.Entering.{fresh}
use Rattle.gathering.specs.Waits.{pushes}
use Rattle.gathering.specs.Aside.{OpenAt, Among as WaitsToo}
use Rattle.gathering.proofs.OneMore.{each_more}
use Rattle.parenting.specs.Waiting.{marks, keys_of, Parental}
use Rattle.parenting.proofs.Admitted.{admitted_more, admitted_sound}
use Rattle.postponing.specs.declared.among.Reply.{Reply}
use Rattle.postponing.specs.declared.among.Reply.TheVariants as reply
use Rattle.postponing.specs.contracts.among.ReplyPartialEq.TheImpl.{eq-value}
use Rattle.postponing.specs.Silent.{late, dropped_all}
use Rattle.postponing.specs.Pending.{Living, Pending, Open, FullWith, Considers, Among}
use Rattle.postponing.proofs.Opening.{open_admits, open_spent, open_crowded}
use Rattle.postponing.proofs.Adopting.{adopts_in}

-- ---- an open hash

pub open_here : {b w : List ℕ} {d c h : ℕ} → OpenAt w d h true → Tells b (λ t. Living t h) → {st : State} {t : Table} (v : Pending b w d c st t) → Open h v
open_here a l {st} v = record { living = l (on_table v.base st) v.sound v.writes; apart = sym (a.apart refl v.base v.sound.bounded.ordered v.entries v.mixed) }

no_victim : (l : List Entry) → none ≡ greatest l → l ≡ []
unfolding greatest
no_victim [] e = refl
no_victim (a ∷ l) e = cc

-- ---- how it fares

module _ {b w : List ℕ} {d c : ℕ} {spent : Bool} {n now h i : ℕ} where
  pub considers_alone : Considers n now h i b w d c spent reply.Alone
  considers_alone = record { kept = λ e. cc; refused = λ e. cc }

  module _ (s : h < top) where
    pub considers_crowded : {r : Bool} → Crowded b h r → r ≡ true → Tells b (λ t. found None ≡ greatest (victims (at_hash h) t)) → Considers n now h i b w d c spent reply.Refused
    considers_crowded q e k = record {
      kept = λ z. cc;
      refused = λ _ st t v x new _.
          open_crowded v h s x n new now i (leb-true _ _ (sym (q (on_table v.base st) v.sound v.writes) ∙ e)) (no_victim _ (k (on_table v.base st) v.sound v.writes));
    }

    pub considers_full : {r : Bool} → FullWith b d c r → r ≡ true → spent ≡ true → Considers n now h i b w d c spent reply.Refused
    considers_full q e k = record {
      kept = λ z. cc;
      refused = λ _ st t v x new f. open_spent v h s x n new now i (leb-true _ _ (sym (q (on_table v.base st) v.sound v.writes) ∙ e)) (f k);
    }

    pub considers_in : {r f : Bool} {y : ℕ} → Crowded b h r → r ≡ false → FullWith b d c f → f ≡ false → Tells b (λ t. y ≡ held_by n t) → y < max_peer_announcements - d
        → Considers n now h i b w d c spent reply.Kept
    considers_in q e p o k l = record {
      kept = λ _ st t v x new.
          let z = on_table v.base st in
          open_admits v h s x n new now i (leb-false _ _ (sym (p z v.sound v.writes) ∙ o)) (leb-false _ _ (sym (q z v.sound v.writes) ∙ e)) (omega (arith, k z v.sound v.writes));
      refused = λ z. cc;
    }

-- ---- what comes of it

module _ {b w : List ℕ} {d c : ℕ} {spent : Bool} {n now h i : ℕ} where
  pub among_alone : {b' w' : List ℕ} {d' : ℕ} → b' ≡ b → w' ≡ w → d' ≡ d → Among n now h i b b' w w' d d' c spent reply.Alone
  among_alone x y z = record { kept = λ e. cc; refused = λ e. cc; alone = λ _. (x, y, z) }

  module _ (s : h < top) (a : OpenAt w d h true) (l : Tells b (λ t. Living t h)) where
    pub among_adopts : Peer n → now < word → i < word → Tells b (λ t. is_candidate n h t ≡ true) → {b' : List ℕ} {r : Bool} → Answered b b' r (λ m t. one_parent m n now h i t)
        → Among n now h i b b' w w d d c spent reply.Kept
    among_adopts p early short known y = record {
      kept = λ _ st t v.
          let z = on_table v.base st in adopts_in v n now h i p early short s (open_here a l v) (known z v.sound v.writes) (y.table z v.sound v.writes);
      refused = λ e. cc;
      alone = λ e. cc;
    }

    module _ (new : Tells b (λ t. is_candidate n h t ≡ false)) where
      pub among_refused : Considers n now h i b w d c spent reply.Refused → Among n now h i b b w w d d c spent reply.Refused
      among_refused y = record {
        kept = λ e. cc;
        refused = λ _ st t v f.
            let e = y.refused refl st t v (open_here a l v) (new (on_table v.base st) v.sound v.writes) f in
            record { reply = ap (λ (q : Answer). q.reply) e; pending = subst (λ (q : Table). Pending b w d c st q) (sym (ap (λ (q : Answer). q.table) e)) v };
        alone = λ e. cc;
      }

      pub among_waits : Peer n → now < word → i < word → Considers n now h i b w d c spent reply.Kept → {w' : List ℕ} {d' : ℕ} {j : Key} {o : Candidate} → j ≡ txid h → o ≡ parent_of n now h i
          → WaitsToo b w w' d j o → d' ≡ d + 1
          → Among n now h i b b w w' d d' c spent reply.Kept
      among_waits p early short y {w'} {d'} e₁ e₂ m' q = record {
        kept = λ _ st t v.
            let m : WaitsToo b w w' d (txid h) (parent_of n now h i) = rw (e₁, e₂) at m' in
            let z = on_table v.base st in
            let x = open_here a l v in
            let one = new z v.sound v.writes in
            let u = dropped_all 0 v.base in
            let k : Entry = record { key = txid h; candidate = parent_of n now h i } in
            let f = y.kept refl st t v x one in
            let es = v.entries in
            let e = ap (one_parent (limits_of st) n now h i) v.table ∙ admitted_more st u es n now h i f s v.mixed.ready v.parental v.left.bounded.ordered v.together in
            let idle = fresh z v.sound (txid h) s n one in
            let there : Pending b w' (d + 1) c st (marks (keys_of (es ++ (k ∷ []))) (pushes (es ++ (k ∷ [])) u)) = record {
              base = v.base;
              entries = es ++ (k ∷ []);
              sound = v.sound;
              writes = v.writes;
              unplaced = v.unplaced;
              mixed = m z v.sound v.writes idle es x.apart v.mixed;
              parental = each_more Parental es k v.parental (record { kind = refl; preferred = refl });
              living = each_more (λ (o : Entry). Living v.base o.key.hash) es k v.living x.living;
              left = v.left;
              count = v.count;
              timely = v.timely;
              room = omega (arith, f.room, v.mixed.count);
              together = admitted_sound st u es n now h i f s v.mixed.ready v.parental v.left.bounded.ordered v.together p early short;
              table = refl;
            } in
            record {
              reply = ap (λ (o : Answer). o.reply) e;
              pending = subst (λ (o : Table). Pending b w' d' c st o) (sym (ap (λ (o : Answer). o.table) e))
                  (subst (λ (o : ℕ). Pending b w' o c st (marks (keys_of (es ++ (k ∷ []))) (pushes (es ++ (k ∷ [])) u))) (sym q) there);
            };
        refused = λ e. cc;
        alone = λ e. cc;
      }

-- ---- the test by which it is told

pub is_kept : (r : Reply) {x : Bool} → x ≡ eq-value.it r reply.Kept → x ≡ true → r ≡ reply.Kept
is_kept reply.Kept e o = refl
is_kept reply.Refused e o = never (sym e ∙ o)
is_kept reply.Alone e o = never (sym e ∙ o)

pub among_rest : {b w : List ℕ} {d c : ℕ} {spent : Bool} {n now h i : ℕ} → h < top → OpenAt w d h true → Tells b (λ t. Living t h) → Tells b (λ t. is_candidate n h t ≡ false)
    → (r : Reply) {x : Bool} → x ≡ eq-value.it r reply.Kept → x ≡ false → Considers n now h i b w d c spent r → Among n now h i b b w w d d c spent r
among_rest s a l new reply.Kept e o y = never (sym o ∙ e)
among_rest s a l new reply.Refused e o y = among_refused s a l new y
among_rest s a l new reply.Alone e o y = among_alone refl refl refl

-- ---- an owner that is to go, told by the rows of its request

zero_late : (d : ℕ) → eqb d 0 ≡ leb d 0
zero_late d = elim (test (leb d 0)) [
  | inl e ↦ eq-eqb d 0 (omega (arith, leb-true d 0 e)) ∙ sym e
  | inr e ↦ ne_eqb d 0 (λ z. omega (arith, leb-false d 0 e)) ∙ sym e
]

module _ {b : List ℕ} {from to : ℕ} (k : Key) (s : k.hash < top) (p : Spans b (place k) from to) where
  told_in : (r : std.Option OwnerRead) → OwnerAmong b from to r → Tells b (λ t. late 0 (owner_as r) ≡ late 0 (at k t).owner)
  told_in r a st g w = ap (late 0) (owner-is st g k (from_at st g k s refl (p.from_is st g w)) (to_at st g k s refl (p.to_is st g w)) w r a)

  pub goes_not : {r : std.Option OwnerRead} → OwnerAmong b from to r → r ≡ None → Tells b (λ t. false ≡ late 0 (at k t).owner)
  goes_not {r} a e st g w = sym (ap (λ (x : std.Option OwnerRead). late 0 (owner_as x)) e) ∙ told_in r a st g w

  pub goes_by : {r : std.Option OwnerRead} {o : OwnerRead} → OwnerAmong b from to r → r ≡ Some o → Tells b (λ t. eqb o.deadline 0 ≡ late 0 (at k t).owner)
  goes_by {r} {o} a e st g w = zero_late o.deadline ∙ sym (ap (λ (x : std.Option OwnerRead). late 0 (owner_as x)) e) ∙ told_in r a st g w
