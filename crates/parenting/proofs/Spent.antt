-- Where no candidate can be evicted: a parent that is announced leaves it so, and with L held it comes in only if its connection has announced it.
use Prim.Native.Nat.{ℕ, suc, ◌+◌, ◌≤◌, ◌<◌}
use mathlib.Core.Path.{◌≡◌, refl, sym, ap, ◌∙◌}
use mathlib.Core.Logic.{inl, inr}
use mathlib.Core.Bool.{Bool, true, false, ◌||◌}
use mathlib.Core.List.{List, [], ◌∷◌, ◌++◌}
use mathlib.Core.Option.{Option, none, some}
use native.Mathlib.Omega.{arith}
use lib.Dec.{ltb, leb, eqb}
use lib.ListN.{length}
use borrow.Author.Tests.{le-leb}
use Rattle.std.specs.Prelude.{if◌then◌else◌}
use Rattle.ident.specs.Number.{top, Key, place, txid, wtxid, other}
use Rattle.machine.specs.Limits.{Limits, max_peer_announcements}
use Rattle.machine.specs.State.{Candidate, Entry, Owner, Request, Table, Answer, refused, with_candidates, marked, owner_is}
use Rattle.machine.specs.Table.{at, has, keep, change, any, by, under, by_under, count, held, held_by, held_at, is_candidate}
use Rattle.machine.specs.Announce.{victims_in, victims, greatest, anywhere, at_hash, evicting, announce_at, adopt, adopted, request_parent_at}
use Rattle.machine.specs.Fail.{parent_of, mark}
use Rattle.machine.specs.Sound.{Ordered}
use Rattle.machine.specs.Typed.{Each}
use Rattle.machine.proofs.Tests.{test, by_test, or_left, or_right, never}
use Rattle.requests.proofs.Holding.{either-kind}
use Rattle.announcing.specs.Answers.{one_parent}
use Rattle.announcing.proofs.Deciding.{when-barred, when-crowded, when-full, when-room}
use Rattle.announcing.proofs.Giving.{victims-push}
use Rattle.gathering.specs.Waits.{pushes, Small, waits}
use Rattle.gathering.proofs.Elsewhere.{victims-pushes}
use Rattle.gathering.proofs.Waiting.{held_beside, candidate_beside}
use Rattle.parenting.specs.Waiting.{marks}
use Rattle.parenting.specs.Displacing.{Spent}
use Rattle.parenting.proofs.Marking.{count-marks}

-- ---- victims of a request and of a table

pub cons-nil : (x : Entry) (l : List Entry) → x ∷ l ≡ [] → ⊥
cons-nil x l q = let z : suc (length l) ≡ 0 = ap length q in omega arith

pub none_left : (a b : List Entry) → a ++ b ≡ [] → a ≡ []
none_left [] b e = refl
none_left (x ∷ a) b e = absurd (cons-nil x (a ++ b) e)

pub none_right : (a b : List Entry) → a ++ b ≡ [] → b ≡ []
none_right [] b e = e
none_right (x ∷ a) b e = absurd (cons-nil x (a ++ b) e)

-- none anywhere, none at some keys
spent_some : (p : Key → Bool) (t : Table) → Spent t → victims p t ≡ []
unfolding victims
spent_some p [] e = refl
spent_some p (r ∷ t) e =
    let a = none_left (victims_in r r.candidates) (victims anywhere t) e in
    let b = spent_some p t (none_right (victims_in r r.candidates) (victims anywhere t) e) in
    elim (test (p r.key)) [ inl h ↦ rw (h, a) b | inr h ↦ rw h b ]

-- those of a request are told by its key and its owner
abbrev step : Candidate → Key → Option Owner → List Entry → List Entry
step c k o l = if c.preferred || owner_is c.connection o then l else record { key = k; candidate = c } ∷ l

pub in_same : (r q : Request) → r.key ≡ q.key → r.owner ≡ q.owner → (cs : List Candidate) → victims_in r cs ≡ victims_in q cs
unfolding victims_in
in_same r q k o [] = refl
in_same r q k o (c ∷ cs) =
    ap (λ (x : Key). step c x r.owner (victims_in r cs)) k ∙ ap (λ (x : Option Owner). step c q.key x (victims_in r cs)) o
    ∙ ap (step c q.key q.owner) (in_same r q k o cs)

-- ---- marks

module _ (p : Key → Bool) where
  keep-marked : (r : Request) (cs : List Candidate) (t : Table) → r.candidates ≡ cs → victims p (keep (marked r) cs t) ≡ victims p (r ∷ t)
  unfolding keep victims
  keep-marked r [] t e = elim (test (p r.key)) [ inl h ↦ rw (h, e) (unfold victims_in in refl) | inr h ↦ rw h ]
  keep-marked r (c ∷ cs) t e = elim (test (p r.key)) [ inl h ↦ rw h (ap (λ (l : List Entry). l ++ victims p t) (in_same (marked r) r refl refl r.candidates)) | inr h ↦ rw h ]

  victims-mark : (k : Key) (t : Table) → victims p (mark k t) ≡ victims p t
  unfolding change victims
  victims-mark k [] = unfold keep in refl
  victims-mark k (r ∷ t) =
      by_test (λ (x : Table). victims p x ≡ victims p (r ∷ t)) (ltb (place k) (place r.key))
      (λ e. unfold keep in refl)
      (λ e. by_test (λ (x : Table). victims p x ≡ victims p (r ∷ t)) (eqb (place k) (place r.key))
      (λ d. keep-marked r r.candidates t refl)
      (λ d. ap (λ (l : List Entry). (if p r.key then victims_in r r.candidates else []) ++ l) (victims-mark k t)))

  pub victims-marks : (ks : List Key) (t : Table) → victims p (marks ks t) ≡ victims p t
  unfolding marks
  victims-marks [] t = refl
  victims-marks (k ∷ ks) t = victims-marks ks (mark k t) ∙ victims-mark k t

-- ---- adoption

in_adopt : (r : Request) (same : Bool) (c : Candidate) (cs : List Candidate) → victims_in r cs ≡ [] → victims_in r (adopt same c cs) ≡ []
unfolding victims_in adopt
in_adopt r same c [] e = refl
in_adopt r same c (d ∷ ds) e =
    elim (test (d.preferred || owner_is d.connection r.owner)) [
      | inl h ↦ let b : victims_in r ds ≡ [] = rw h at e in elim (test (eqb d.connection c.connection)) [ inl q ↦ rw q b | inr q ↦ rw (q, h) (in_adopt r same c ds b) ]
      | inr h ↦ absurd (cons-nil (record { key = r.key; candidate = d }) (victims_in r ds) (rw h at e))
    ]

keep-spent : (r : Request) (cs : List Candidate) (t : Table) → victims_in r r.candidates ≡ [] → Spent t → Spent (keep r cs t)
unfolding keep victims
keep-spent r [] t e s = s
keep-spent r (c ∷ cs) t e s = rw (e, s)

spent-adopted : (same : Bool) (k : Key) (c : Candidate) (t : Table) → Spent t → Spent (adopted same k c t)
unfolding change victims
spent-adopted same k c [] s = unfold keep adopt in refl
spent-adopted same k c (r ∷ t) s =
    let a = none_left (victims_in r r.candidates) (victims anywhere t) s in
    let b = none_right (victims_in r r.candidates) (victims anywhere t) s in
    by_test (λ (x : Table). victims anywhere x ≡ []) (ltb (place k) (place r.key))
    (λ e. unfold keep adopt in s)
    (λ e. by_test (λ (x : Table). victims anywhere x ≡ []) (eqb (place k) (place r.key))
    (λ d. let q = with_candidates (adopt same c r.candidates) r in
    keep-spent q q.candidates t (in_same q r refl refl (adopt same c r.candidates) ∙ in_adopt r same c r.candidates a) b)
    (λ d. rw (a, spent-adopted same k c t b)))

-- ---- one parent

pub evicting_none : (k : Key) (c : Candidate) (t : Table) (l : List Entry) → l ≡ [] → evicting (greatest l) k c t ≡ refused t
unfolding greatest evicting
evicting_none k c t l e = rw e

module _ (m : Limits) (k : Key) (c : Candidate) (t : Table) (p : c.preferred ≡ true) (s : Spent t) where
  abbrev Barred : Bool
  Barred = is_candidate c.connection k.hash t || leb max_peer_announcements (held_by c.connection t)

  abbrev Crowded : Bool
  Crowded = leb m.alternates (held_at k.hash t)

  abbrev Full : Bool
  Full = leb m.announcements (held t)

  -- with L held it changes nothing
  spent-refused : Full ≡ true → announce_at m k c t ≡ refused t
  spent-refused f =
      elim (test Barred) [
        | inl b ↦ when-barred m k c t b
        | inr b ↦ elim (test Crowded) [
          | inl d ↦ when-crowded m k c t b d p ∙ evicting_none k c t (victims (at_hash k.hash) t) (spent_some (at_hash k.hash) t s)
          | inr d ↦ when-full m k c t b d f p ∙ evicting_none k c t (victims anywhere t) s
        ]
      ]

  spent-announced : Spent (announce_at m k c t).table
  spent-announced =
      elim (test Full) [
        | inl f ↦ rw (spent-refused f) s
        | inr f ↦ elim (test Barred) [
          | inl b ↦ rw (when-barred m k c t b) s
          | inr b ↦ elim (test Crowded) [
            | inl d ↦ rw (when-crowded m k c t b d p ∙ evicting_none k c t (victims (at_hash k.hash) t) (spent_some (at_hash k.hash) t s)) s
            | inr d ↦ rw (when-room m k c t b d f) (victims-push k c t p ∙ s)
          ]
        ]
      ]

  spent-asked : Spent (request_parent_at m k c t).table
  unfolding request_parent_at
  spent-asked =
      by_test (λ (a : Answer). Spent a.table) (has c.connection (at k t).candidates) (λ e. spent-adopted true k c t s)
      (λ e. by_test (λ (a : Answer). Spent a.table) (has c.connection (at (other k) t).candidates) (λ d. spent-adopted false (other k) c t s) (λ d. spent-announced))

-- it stays so
pub spent_next : (m : Limits) (n now h i : ℕ) (t : Table) → Spent t → Spent (one_parent m n now h i t).table
spent_next m n now h i t s =
    let a = request_parent_at m (txid h) (parent_of n now h i) t in
    let q = spent-asked m (txid h) (parent_of n now h i) t refl s in
    by_test Spent a.reply (λ e. victims-mark anywhere (txid h) a.table ∙ q) (λ e. q)

-- with L held a parent that its connection has not announced changes nothing
pub spent_left : (m : Limits) (n now h i : ℕ) (t : Table) → h < top → Ordered 0 t → Spent t → is_candidate n h t ≡ false → m.announcements ≤ held t → one_parent m n now h i t ≡ refused t
unfolding request_parent_at
spent_left m n now h i t low o s new l =
    let x = has n (at (txid h) t).candidates in
    let y = has n (at (wtxid h) t).candidates in
    let neither : (x || y) ≡ false = either-kind n h low t o ∙ new in
    let none : announce_at m (txid h) (parent_of n now h i) t ≡ refused t = spent-refused m (txid h) (parent_of n now h i) t refl s (le-leb m.announcements (held t) l) in
    rw (or_left x y neither, or_right x y neither, none)

-- the same beside those that wait and are preferred, their requests marked: they are counted, and leave nobody to evict
pub spent_beside : (m : Limits) (n now h i : ℕ) (ks : List Key) (es : List Entry) (t : Table) → h < top → Ordered 0 (marks ks (pushes es t)) → Each Small es
    → Each (λ (a : Entry). a.candidate.preferred ≡ true) es → Ordered 0 t → Spent t → is_candidate n h t ≡ false → waits h es ≡ false → m.announcements ≤ held t + length es
    → one_parent m n now h i (marks ks (pushes es t)) ≡ refused (marks ks (pushes es t))
spent_beside m n now h i ks es t low o a p q s new apart l =
    let all = pushes es t in
    spent_left m n now h i (marks ks all) low o (victims-marks anywhere ks all ∙ victims-pushes es t p ∙ s)
    (ap (ltb 0) (count-marks (by_under n h) ks all) ∙ candidate_beside es t a q h apart n ∙ new)
    (omega (arith, count-marks any ks all, held_beside es t a q))

-- ---- what is refused is refused where requests are marked

module _ (m : Limits) (k : Key) (c : Candidate) (t : Table) (p : c.preferred ≡ true) (no : (announce_at m k c t).reply ≡ false) (ks : List Key) where
  abbrev u : Table
  u = marks ks t

  same : (q : Key → ℕ → Bool) → count q u ≡ count q t
  same q = count-marks q ks t

  refusing : (o : Option Entry) → (evicting o k c t).reply ≡ false → evicting o k c u ≡ refused u
  unfolding evicting
  refusing none d = refl
  refusing (some v) d = never (sym d)

  -- who would go is the same
  not_evicting : (l l' : List Entry) → l' ≡ l → announce_at m k c t ≡ evicting (greatest l) k c t → evicting (greatest l') k c u ≡ refused u
  not_evicting l l' e q = ap (λ (x : List Entry). evicting (greatest x) k c u) e ∙ refusing (greatest l) (sym (ap (λ (a : Answer). a.reply) q) ∙ no)

  pub refused-marked : announce_at m k c u ≡ refused u
  refused-marked =
      elim (test (is_candidate c.connection k.hash t || leb max_peer_announcements (held_by c.connection t))) [
        | inl b ↦ when-barred m k c u (rw (same (by_under c.connection k.hash), same (by c.connection)) b)
        | inr b ↦
            let b' : (is_candidate c.connection k.hash u || leb max_peer_announcements (held_by c.connection u)) ≡ false =
            rw (same (by_under c.connection k.hash), same (by c.connection)) b in
            elim (test (leb m.alternates (held_at k.hash t))) [
              | inl d ↦ when-crowded m k c u b' (ap (leb m.alternates) (same (under k.hash)) ∙ d) p
                  ∙ not_evicting (victims (at_hash k.hash) t) (victims (at_hash k.hash) u) (victims-marks (at_hash k.hash) ks t) (when-crowded m k c t b d p)
              | inr d ↦ elim (test (leb m.announcements (held t))) [
                | inl f ↦ when-full m k c u b' (ap (leb m.alternates) (same (under k.hash)) ∙ d) (ap (leb m.announcements) (same any) ∙ f) p
                    ∙ not_evicting (victims anywhere t) (victims anywhere u) (victims-marks anywhere ks t) (when-full m k c t b d f p)
                | inr f ↦ never (sym no ∙ ap (λ (a : Answer). a.reply) (when-room m k c t b d f))
              ]
            ]
      ]
