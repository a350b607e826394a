-- The parts of the test of a state (specs/Parts) come to the whole test: what is left of it beside them is nothing.
use Prim.Native.Nat.{ℕ, suc, ◌+◌, ◌≤◌, ◌<◌}
use mathlib.Core.Path.{◌≡◌, refl, sym, ap, ◌∙◌}
use mathlib.Core.Logic.{◌⊎◌, inl, inr}
use mathlib.Core.Bool.{Bool, true, false, not, ◌&&◌}
use mathlib.Core.List.{List, [], ◌∷◌, ◌++◌}
use native.Mathlib.Omega.{arith}
use lib.Dec.{leb, eqb}
use lib.ListN.{length-append}
use borrow.Author.Tests.{le-leb}
use Rattle.ident.specs.declared.Kind.{Kind}
use Rattle.ident.specs.declared.Kind.TheVariants.{Txid, Wtxid}
use Rattle.ident.specs.Number.{top, Key, place, txid, wtxid}
use Rattle.machine.specs.Limits.{Limits, max_peer_announcements, max_in_flight}
use Rattle.machine.specs.State.{Candidate, Request, Table, State, blank, is_some, limits_of}
use Rattle.machine.specs.Table.{at, one, count_in, count, held, by_under, held_at, held_by, owned_at, owned_by, places_held}
use Rattle.machine.specs.Sound.{Ordered}
use Rattle.machine.specs.SoundTest.{is_lawful, is_ordered, every, is_filled, every_in, every_one, crowd_fits, is_bounded, sizes_fit, poll_fits, cursor_fits, is_sound}
use Rattle.machine.proofs.At.{at_here, at_there}
use Rattle.machine.proofs.Table.{at_key, all_at}
use Rattle.machine.proofs.Tests.{test, never, and_left, and_right}
use Rattle.machine.proofs.SoundTest.{Test, test_and, test_iff, test-ordered, test-every, test-bounded, every_one_lem}
use Rattle.listed_requests.specs.Parts.{head_fits, few_once, uncrowded, local_fits, pair_fits, paired_in, paired, pairs_fit, count_fits, counts_fit, together_fit}
use Rattle.listed_requests.proofs.Crowds.{is, FewOnce, test_few, count-append, few_front, few_back, held_two, once_two, owned_two}

-- ---- every request, with what stands at its key

-- f may use that the request stands at its key
pub every_here : (p q : Request → Bool) (lo : ℕ) (t : Table) → Ordered lo t → every p t ≡ true
    → ((r : Request) → lo ≤ place r.key → r.key.hash < top → at r.key t ≡ r → p r ≡ true → q r ≡ true) → every q t ≡ true
unfolding every
every_here p q lo [] o e f = refl
every_here p q lo (r ∷ t) o e f =
    let here = f r o.0 o.1 (at_here r.key r t refl) (and_left (p r) (every p t) e) in
    let there = every_here p q (suc (place r.key)) t o.2 (and_right (p r) (every p t) e)
    (λ x l s a g. f x (omega (arith, o.0)) s (at_there x.key r t (λ z. omega arith) ∙ a) g) in
    rw (here, there)

pub every_at : (p : Request → Bool) (k : Key) (t : Table) → p (blank k) ≡ true → every p t ≡ true → p (at k t) ≡ true
every_at p k t b e = all_at (λ r. p r ≡ true) k t b ((test-every p (λ r. p r ≡ true) (λ r. record { holds = λ d. d; passes = λ d. d }) t).holds e)

every_true : (t : Table) → every (λ r. true) t ≡ true
unfolding every
every_true [] = refl
every_true (r ∷ t) = every_true t

-- ---- the requests of a hash

pub record Two (most : ℕ) (p q : Request) : Type 0 where
  pub few : FewOnce most (p.candidates ++ q.candidates)
  pub single : one (is_some p.owner) + one (is_some q.owner) ≤ 1

test-single : (a b : Bool) → Test (not (a && b)) (one a + one b ≤ 1)
test-single true true = record { holds = λ e. never e; passes = λ h. absurd (omega arith) }
test-single true false = record { holds = λ e. omega arith; passes = λ h. refl }
test-single false true = record { holds = λ e. omega arith; passes = λ h. refl }
test-single false false = record { holds = λ e. omega arith; passes = λ h. refl }

pub test-pair : (most : ℕ) (p q : Request) → Test (pair_fits most p q) (Two most p q)
unfolding pair_fits
test-pair most p q =
    test_iff (test_and (few_once most (p.candidates ++ q.candidates)) (not (is_some p.owner && is_some q.owner)) (test_few most (p.candidates ++ q.candidates))
    (test-single (is_some p.owner) (is_some q.owner)))
    (λ x. record { few = x.0; single = x.1 }) (λ x. (x.few, x.single))

-- what is counted at a hash
pub record At (most : ℕ) (t : Table) (h : ℕ) : Type 0 where
  pub alternates : held_at h t ≤ most
  pub once : (n : ℕ) → count (by_under n h) t ≤ 1
  pub single : owned_at h t ≤ 1

module _ {most : ℕ} {t : Table} (o : Ordered 0 t) {h : ℕ} (small : h < top) where
  at_two : At most t h → Two most (at (txid h) t) (at (wtxid h) t)
  at_two a = record {
    few = record {
      few = omega (arith, length-append (at (txid h) t).candidates (at (wtxid h) t).candidates, held_two h small t o, a.alternates);
      once = λ n. omega (arith, count-append (is n) (at (txid h) t).candidates (at (wtxid h) t).candidates, once_two h small t o n, a.once n);
    };
    single = omega (arith, owned_two h small t o, a.single);
  }

  two_at : Two most (at (txid h) t) (at (wtxid h) t) → At most t h
  two_at w = record {
    alternates = omega (arith, length-append (at (txid h) t).candidates (at (wtxid h) t).candidates, held_two h small t o, w.few.few);
    once = λ n. omega (arith, count-append (is n) (at (txid h) t).candidates (at (wtxid h) t).candidates, once_two h small t o n, w.few.once n);
    single = omega (arith, owned_two h small t o, w.single);
  }

-- ---- a bounded table passes the parts

module _ {most : ℕ} {t : Table} (o : Ordered 0 t) (all : (h : ℕ) → At most t h) where
  two : (h : ℕ) → h < top → Two most (at (txid h) t) (at (wtxid h) t)
  two h s = at_two o s (all h)

  one_few : (k : Kind) (h : ℕ) (r : Request) → h < top → at (record { kind = k; hash = h }) t ≡ r → uncrowded most r ≡ true
  one_few Txid h r s e = ap (uncrowded most) (sym e) ∙ (test_few most (at (txid h) t).candidates).passes (few_front (at (txid h) t).candidates (at (wtxid h) t).candidates (two h s).few)
  one_few Wtxid h r s e = ap (uncrowded most) (sym e) ∙ (test_few most (at (wtxid h) t).candidates).passes (few_back (at (txid h) t).candidates (at (wtxid h) t).candidates (two h s).few)

  pub all_few : every (uncrowded most) t ≡ true
  all_few = every_here (λ r. true) (uncrowded most) 0 t o (every_true t) (λ r l s a g. one_few r.key.kind r.key.hash r s a)

  one_pair : (k : Kind) (h : ℕ) (r : Request) → h < top → at (record { kind = k; hash = h }) t ≡ r → r.key.hash ≡ h → paired_in most t k r ≡ true
  one_pair Txid h r s e d =
      ap (λ (n : ℕ). pair_fits most r (at (wtxid n) t)) d ∙ ap (λ (x : Request). pair_fits most x (at (wtxid h) t)) (sym e) ∙ (test-pair most (at (txid h) t) (at (wtxid h) t)).passes (two h s)
  one_pair Wtxid h r s e d = refl

  pub all_pairs : pairs_fit most t t ≡ true
  all_pairs = every_here (λ r. true) (paired most t) 0 t o (every_true t) (λ r l s a g. one_pair r.key.kind r.key.hash r s a refl)

-- ---- the parts are enough

-- what stands at a key is a request of the table, or a blank one
blank_or : (p : Request → Bool) (k : Key) (t : Table) → every p t ≡ true → (at k t ≡ blank k) ⊎ (p (at k t) ≡ true)
unfolding at every
blank_or p k [] e = inl refl
blank_or p k (r ∷ t) e = elim (test (eqb (place k) (place r.key))) [
  | inl d ↦ rw d (inr (and_left (p r) (every p t) e))
  | inr d ↦ rw d (blank_or p k t (and_right (p r) (every p t) e))
]

none_few : (most : ℕ) → few_once most [] ≡ true
unfolding count_in
none_few most = (test_few most []).passes (record { few = omega arith; once = λ n. omega arith })

one_most : (b : Bool) → one b ≤ 1
one_most true = omega arith
one_most false = omega arith

module _ (most : ℕ) (t : Table) (o : Ordered 0 t) (few : every (uncrowded most) t ≡ true) (pairs : pairs_fit most t t ≡ true) where
  module _ (h : ℕ) (small : h < top) where
    without : at (txid h) t ≡ blank (txid h) → Two most (at (txid h) t) (at (wtxid h) t)
    without e =
        rw e (record {
          few = (test_few most (at (wtxid h) t).candidates).holds (every_at (uncrowded most) (wtxid h) t (none_few most) few);
          single = omega (arith, one_most (is_some (at (wtxid h) t).owner));
        })

    with_one : paired most t (at (txid h) t) ≡ true → Two most (at (txid h) t) (at (wtxid h) t)
    with_one e =
        let p = at (txid h) t in
        let g = at_key (txid h) 0 t small o in
        let there = ap (λ (k : Key). pair_fits most p (at (wtxid k.hash) t)) g in
        let kind = ap (λ (k : Key). paired_in most t k.kind p) g in
        (test-pair most p (at (wtxid h) t)).holds (sym there ∙ sym kind ∙ e)

    pub at_most : At most t h
    at_most = two_at o small (elim (blank_or (paired most t) (txid h) t pairs) [ inl e ↦ without e | inr e ↦ with_one e ])

crowd_in : (m : Limits) (t : Table) (k : Key) (cs : List Candidate) → At m.alternates t k.hash → every_in (count_fits t) k cs ≡ true → every_in (crowd_fits m t) k cs ≡ true
unfolding every_in crowd_fits
crowd_in m t k [] a e = refl
crowd_in m t k (c ∷ cs) a e =
    let n = c.connection in
    let here = and_left (count_fits t k c) (every_in (count_fits t) k cs) e in
    let each = and_left (leb (held_by n t) max_peer_announcements) (leb (owned_by n t) max_in_flight) here in
    let owned = and_right (leb (held_by n t) max_peer_announcements) (leb (owned_by n t) max_in_flight) here in
    let there = crowd_in m t k cs a (and_right (count_fits t k c) (every_in (count_fits t) k cs) e) in
    and_both _ _ (and_both _ _ (and_both _ _ each (le-leb _ _ a.alternates)) (and_both _ _ (le-leb _ _ (a.once n)) (and_both _ _ owned (le-leb _ _ a.single)))) there
  where
    and_both : (a b : Bool) → a ≡ true → b ≡ true → (a && b) ≡ true
    and_both true b d e = e
    and_both false b d e = d

-- ---- the table

pub same_truth : (a b : Bool) → (a ≡ true → b ≡ true) → (b ≡ true → a ≡ true) → a ≡ b
same_truth true b f g = sym (f refl)
same_truth false true f g = g refl
same_truth false false f g = refl

module _ (m : Limits) (Q : ℕ) (t : Table) where
  abbrev shape : Bool
  shape = is_ordered 0 t && (every is_filled t && every is_lawful t)

  abbrev room : Bool
  room = leb (held t) m.announcements && leb (places_held t) Q

  abbrev parts : Bool
  parts = local_fits m Q t && (pairs_fit m.alternates t t && counts_fit t)

  to : is_bounded m Q t ≡ true → parts ≡ true
  unfolding is_bounded local_fits
  to e =
      let b = (test-bounded m Q t).holds e in
      let o = b.ordered in
      let all : (h : ℕ) → At m.alternates t h = λ h. record { alternates = b.alternates h; once = λ n. b.once n h; single = b.single h } in
      let c = every_one_lem (count_fits t)
      (λ k c. rw (le-leb (held_by c.connection t) max_peer_announcements (b.each c.connection), le-leb (owned_by c.connection t) max_in_flight (b.owned c.connection))) t in
      let r = and_right (every_one (crowd_fits m t) t) room (and_right shape (every_one (crowd_fits m t) t && room) e) in
      rw (and_left shape (every_one (crowd_fits m t) t && room) e, all_few o all, r, all_pairs o all, c)

  from : parts ≡ true → is_bounded m Q t ≡ true
  unfolding is_bounded local_fits
  from e =
      let few = every (uncrowded m.alternates) t in
      let l = and_left (shape && (few && room)) (pairs_fit m.alternates t t && counts_fit t) e in
      let r = and_right (shape && (few && room)) (pairs_fit m.alternates t t && counts_fit t) e in
      let s = and_left shape (few && room) l in
      let o = (test-ordered 0 t).holds (and_left (is_ordered 0 t) (every is_filled t && every is_lawful t) s) in
      let f = and_left few room (and_right shape (few && room) l) in
      let p = and_left (pairs_fit m.alternates t t) (counts_fit t) r in
      let c = every_here (λ x. every_in (count_fits t) x.key x.candidates) (λ x. every_in (crowd_fits m t) x.key x.candidates) 0 t o
      (and_right (pairs_fit m.alternates t t) (counts_fit t) r) (λ x b h a g. crowd_in m t x.key x.candidates (at_most m.alternates t o f p x.key.hash h) g) in
      rw (s, c, and_right few room (and_right shape (few && room) l))

  pub table_is : is_bounded m Q t ≡ (local_fits m Q t && (pairs_fit m.alternates t t && counts_fit t))
  table_is = same_truth (is_bounded m Q t) parts to from

-- ---- the state

pub together_is : (s : State) → is_sound s ≡ together_fit s
unfolding is_sound together_fit
together_is s =
    moved (sizes_fit s) (is_bounded (limits_of s) s.places s.table) (poll_fits s.next_poll && (cursor_fits s.known_cursor && cursor_fits s.ready_cursor))
    ∙ ap (λ (b : Bool). head_fits s && b) (table_is (limits_of s) s.places s.table)
  where
    moved : (a b c : Bool) → (a && (b && c)) ≡ ((a && c) && b)
    moved false b c = refl
    moved true true true = refl
    moved true true false = refl
    moved true false true = refl
    moved true false false = refl
