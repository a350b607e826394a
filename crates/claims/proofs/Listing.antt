-- Keys listed behind others; claims failed one after the other.
use Prim.Native.Nat.{ℕ, ◌+◌, ◌-◌, ◌*◌, ◌≤◌, ◌<◌}
use mathlib.Core.Path.{◌≡◌, refl, sym, ap, subst, ◌∙◌}
use mathlib.Core.Logic.{inl, inr}
use mathlib.Core.Bool.{Bool, true, false}
use mathlib.Core.List.{List, [], ◌∷◌, ◌++◌, map, map-append, append_assoc, append-nil}
use mathlib.Core.Option.{Option, none, some}
use native.Mathlib.Nat.{add-zero}
use native.Mathlib.Numerals.{add-one}
use native.Mathlib.Omega.{arith}
use lib.ListN.{length, take, drop, get_or, length-append, length-drop, drop_of_length-le, take-append-drop}
use lib.Seq.{take_at, drop_at, take_all, drop-drop, take-suc}
use Rattle.ident.specs.Number.{Key, wtxid}
use Rattle.machine.specs.Limits.{Limits, word, max_parents, max_places}
use Rattle.machine.specs.State.{Table, State, on_table, limits_of, owner_is}
use Rattle.machine.specs.Table.{at, place_in, places_held}
use Rattle.machine.specs.Call.{key_bytes}
use Rattle.machine.specs.Step.{keys_answer, written}
use Rattle.machine.specs.Fail.{Listed, nothing, failed, parents_for}
use Rattle.machine.specs.Package.{listed_after, failed_with_parents, some_keys, fail_each, failed_package_claims}
use Rattle.machine.specs.Sound.{Bounded, Sound}
use Rattle.machine.specs.Typed.{Each}
use Rattle.machine.proofs.Announce.{each_map}
use Rattle.machine.proofs.Fail.{Peer}
use Rattle.machine.proofs.Package.{bounded-failed_with_parents}
use Rattle.machine.proofs.Table.{lawful_at, places-change}
use Rattle.machine.proofs.AnswerLengths.{length-keys_answer, length-listed_after, length-parents_for}
use Rattle.machine.proofs.Failing.{HoldsPlace, holds_loosened as Holds-on}
use Rattle.machine.proofs.Loosened.{Loosened, loosened_same, loosened_then, loosened_failed_with_parents}
use Rattle.machine.proofs.Places.{failing_one, failing_held}
use Rattle.machine.proofs.Kept.{sound-table}
use Rattle.store.specs.Image.{Writes}
use Rattle.store.specs.Shown.{Kept}
use Rattle.requests.specs.Changes.{Tells}
use Rattle.package_stages.specs.declared.Request.{Request as Read}
use Rattle.package_stages.specs.Changes.{closed, owner_as, RequestOf}
use Rattle.lent_lists.proofs.Answer.{written_none, keys-append as keys_both}
use Rattle.announcing.specs.Answers.{KeysListed}
use Rattle.failing.proofs.Leaving.{told}
use Rattle.failing.proofs.Releasing.{owner-is}
use Rattle.claims.specs.declared.waiting.Claim.{Claim}
use Rattle.claims.specs.Awaited.{last_of, ClaimsNoted, ClaimsFit, ListedOn}
use Rattle.claims.proofs.Naming.{somes, claim_given, claims_given, claims-given, holds_given, last_named, few_keys, somes_take, somes_before}

-- ---- the part of a buffer behind c keys

module _ (u : List ℕ) (c x y : ℕ) (ex : x ≡ c * key_bytes) (ey : y ≡ length u) where
  part_back : (ks : List Key) {v : List ℕ} → v ≡ written (keys_answer ks) (take (y - x) (drop x u))
      → take x u ++ (v ++ drop (y - x) (drop x u)) ≡ take (key_bytes * c) u ++ written (keys_answer ks) (drop (key_bytes * c) u)
  part_back ks {v} q =
      let e : x ≡ key_bytes * c = omega arith in
      let whole : take (y - x) (drop x u) ≡ drop x u = take_all (y - x) (drop x u) (simp length-drop (omega arith)) in
      let rest : drop (y - x) (drop x u) ≡ [] = drop_of_length-le (drop x u) {i = y - x} (simp length-drop (omega arith)) in
      ap (λ (z : List ℕ). take x u ++ (v ++ z)) rest
      ∙ ap (λ (z : List ℕ). take x u ++ z) (append-nil v ∙ q ∙ ap (written (keys_answer ks)) whole)
      ∙ ap (λ (z : ℕ). take z u ++ written (keys_answer ks) (drop z u)) e

  pub listed_on : {b b' v : List ℕ} {r : ℕ} (f : Limits → Table → Listed) → KeysListed b b' (take (y - x) (drop x u)) v r f → ListedOn b b' u (take x u ++ (v ++ drop (y - x) (drop x u))) c (c + r) f
  listed_on f l = record { count = λ st s w. ap (λ (z : ℕ). c + z) (l.count st s w); keys = λ st s w. part_back (f (limits_of st) st.table).keys (l.keys st s w); table = l.table }

-- ---- nothing listed

nothing_written : (c : ℕ) (u : List ℕ) → u ≡ take (key_bytes * c) u ++ written (keys_answer []) (drop (key_bytes * c) u)
nothing_written c u = sym (ap (λ (z : List ℕ). take (key_bytes * c) u ++ z) (sym (written_none (drop (key_bytes * c) u))) ∙ take-append-drop (key_bytes * c) u)

pub nothing_on : {b : List ℕ} (u : List ℕ) (c : ℕ) (f : Limits → Table → Listed) → ((st : State) → Sound st → Writes b st → f (limits_of st) st.table ≡ nothing st.table) → ListedOn b b u u c c f
nothing_on {b} u c f h = record {
  count = λ st s w. sym (ap (λ (l : Listed). c + length l.keys) (h st s w) ∙ add-zero c);
  keys = λ st s w. nothing_written c u ∙ ap (λ (l : Listed). take (key_bytes * c) u ++ written (keys_answer l.keys) (drop (key_bytes * c) u)) (sym (h st s w));
  table = λ st s w. subst (λ (l : Listed). Writes b (on_table l.table st)) (sym (h st s w)) w;
}

pub same_on : {b b' u u' : List ℕ} {c r : ℕ} (f g : Limits → Table → Listed) → ((m : Limits) (t : Table) → f m t ≡ g m t) → ListedOn b b' u u' c r f → ListedOn b b' u u' c r g
same_on {b} {b'} {u} {u'} {c} {r} f g h l = record {
  count = λ st s w. l.count st s w ∙ ap (λ (x : Listed). c + length x.keys) (h (limits_of st) st.table);
  keys = λ st s w. l.keys st s w ∙ ap (λ (x : Listed). take (key_bytes * c) u ++ written (keys_answer x.keys) (drop (key_bytes * c) u)) (h (limits_of st) st.table);
  table = λ st s w. subst (λ (x : Listed). Writes b' (on_table x.table st)) (h (limits_of st) st.table) (l.table st s w);
}

-- who does not own the request has failed it before
pub fails-nothing : (m : Limits) (k : Key) (n v : ℕ) (t : Table) → owner_is n (at k t).owner ≡ false → failed_with_parents m k n v t ≡ nothing t
unfolding failed_with_parents listed_after failed
fails-nothing m k n v t e = rw e

-- one key and at most 100 parents
pub fails_few : (m : Limits) (k : Key) (n v : ℕ) (st : State) → Sound st → length (failed_with_parents m k n v st.table).keys ≤ max_parents + 1
unfolding failed_with_parents
fails_few m k n v st s =
    let t = st.table in
    omega (arith, length-listed_after m k n v (parents_for n (at k t)) (failed k n v t), length-parents_for n (at k t) (lawful_at k t s.bounded.lawful))

-- ---- one after the other

one_each : (m : Limits) (k : Key) (n v : ℕ) (t : Table) → failed_with_parents m k n v t ≡ fail_each m n v (k ∷ []) t
unfolding fail_each
one_each m k n v t = let a = failed_with_parents m k n v t in ap (λ (ks : List Key). record { keys = ks; table = a.table }) (sym (append-nil a.keys))

pub found_each : (o : Option Key) (k : Key) (n v : ℕ) → o ≡ some k → (m : Limits) (t : Table) → failed_with_parents m k n v t ≡ fail_each m n v (some_keys (o ∷ [])) t
unfolding some_keys
found_each o k n v e m t = rw e (one_each m k n v t)

pub missing_each : (o : Option Key) (n v : ℕ) → o ≡ none → (m : Limits) (t : Table) → fail_each m n v (some_keys (o ∷ [])) t ≡ nothing t
unfolding some_keys fail_each
missing_each o n v e m t = rw e

abbrev then : Listed → Listed → Listed
then a x = record { keys = a.keys ++ x.keys; table = x.table }

each_then : (m : Limits) (n v : ℕ) (ks js : List Key) (t : Table) → fail_each m n v (ks ++ js) t ≡ then (fail_each m n v ks t) (fail_each m n v js (fail_each m n v ks t).table)
unfolding fail_each
each_then m n v [] js t = refl
each_then m n v (k ∷ ks) js t =
    let a = failed_with_parents m k n v t in
    let x = fail_each m n v ks a.table in
    let y = fail_each m n v js x.table in
    ap (λ (l : Listed). record { keys = a.keys ++ l.keys; table = l.table }) (each_then m n v ks js a.table)
    ∙ ap (λ (l : List Key). record { keys = l; table = y.table }) (sym (append_assoc a.keys x.keys y.keys))

some_append : (l r : List (Option Key)) → some_keys (l ++ r) ≡ some_keys l ++ some_keys r
unfolding some_keys
some_append [] r = refl
some_append (none ∷ l) r = some_append l r
some_append (some k ∷ l) r = ap (λ (x : List Key). k ∷ x) (some_append l r)

-- one entry more
claims_more : (m : Limits) (n v : ℕ) (os : List (Option ℕ)) (i : ℕ) (t : Table) → i < length os
    → claims_given m n (take (i + 1) os) v t ≡ then (claims_given m n (take i os) v t) (fail_each m n v (some_keys (claim_given n t (get_or os i none) ∷ [])) (claims_given m n (take i os) v t).table)
unfolding claims_given
claims_more m n v os i t l =
    let g : Option ℕ → Option Key = claim_given n t in
    let e : take (i + 1) os ≡ take i os ++ (get_or os i none ∷ []) = rw (add-one i) (take-suc os i none l) in
    ap (λ (x : List (Option ℕ)). fail_each m n v (some_keys (map g x)) t) e
    ∙ ap (λ (x : List (Option Key)). fail_each m n v (some_keys x) t) (map-append g (take i os) (get_or os i none ∷ []))
    ∙ ap (λ (x : List Key). fail_each m n v x t) (some_append (map g (take i os)) (g (get_or os i none) ∷ []))
    ∙ each_then m n v (some_keys (map g (take i os))) (some_keys (g (get_or os i none) ∷ [])) t

-- ---- what is written

over_both : (x y u : List ℕ) (n : ℕ) → length x ≡ n → take n (written x u) ++ written y (drop n (written x u)) ≡ written (x ++ y) u
unfolding written
over_both x y u n l =
    let e : length (x ++ y) ≡ n + length y = length-append x y ∙ ap (λ (z : ℕ). z + length y) l in
    rw (l, take_at x (drop n u) n l, drop_at x (drop n u) n l, drop-drop (length y) n u, e, append_assoc x y (drop (n + length y) u))

written_then : (ks js : List Key) (u : List ℕ) (c : ℕ) → c ≡ length ks
    → take (key_bytes * c) (written (keys_answer ks) u) ++ written (keys_answer js) (drop (key_bytes * c) (written (keys_answer ks) u)) ≡ written (keys_answer (ks ++ js)) u
written_then ks js u c e =
    let l : length (keys_answer ks) ≡ key_bytes * c = length-keys_answer ks ∙ ap (λ (z : ℕ). key_bytes * z) (sym e) in
    over_both (keys_answer ks) (keys_answer js) u (key_bytes * c) l ∙ ap (λ (z : List ℕ). written z u) (sym (keys_both ks js))

-- ---- room: a key that is still owned has its place

place-counts : {m : Limits} {Q : ℕ} {t : Table} (k : Key) → Bounded m Q t → place_in (at k t).info (at k t).«package» ≤ places_held t
place-counts {m} {Q} {t} k b = omega (arith, places-change k closed t b.ordered)

record Left (m : Limits) (Q n : ℕ) (t : Table) (l : ℕ) (a : Listed) : Type 0 where
  bounded : Bounded m Q a.table
  loosened : Loosened (owner_is n) t a.table
  room : length a.keys + (max_parents + 1) * places_held a.table ≤ (max_parents + 1) * places_held t
  named : length a.keys + max_parents * places_held a.table ≤ l + max_parents * places_held t

each_left : {m : Limits} {Q : ℕ} {t : Table} (n v : ℕ) (ks : List Key) → Peer n → v < word → Each (HoldsPlace n t) ks → Bounded m Q t → Left m Q n t (length ks) (fail_each m n v ks t)
unfolding fail_each
each_left n v [] p w h b = record { bounded = b; loosened = loosened_same; room = omega arith; named = omega arith }
each_left {m} {Q} {t} n v (k ∷ ks) p w h b =
    let a = failed_with_parents m k n v t in
    let l = loosened_failed_with_parents k n v h.0.small p w b in
    let b' = bounded-failed_with_parents k n v h.0.small p w b in
    let r = each_left {t = a.table} n v ks p w (each_map (HoldsPlace n t) (HoldsPlace n a.table) ks (Holds-on l) h.1) b' in
    record {
      bounded = r.bounded;
      loosened = loosened_then l r.loosened;
      room = omega (arith, length-append a.keys (fail_each m n v ks a.table).keys, failing_held k n v h.0.small p w b h.0.place, r.room);
      named = omega (arith, length-append a.keys (fail_each m n v ks a.table).keys, failing_one k n v h.0.small p w b, r.named);
    }

one_holds : (n : ℕ) (t : Table) (o : Option Key) (k : Key) → o ≡ some k → Each (HoldsPlace n t) (some_keys (o ∷ [])) → HoldsPlace n t k
unfolding some_keys
one_holds n t o k e h = let g : Each (HoldsPlace n t) (k ∷ []) = rw e at h in g.0

-- ---- the loop: the claims of the first i entries have failed

pub record Failed (b₀ b u₀ u : List ℕ) (n v : ℕ) (os : List (Option ℕ)) (i c : ℕ) : Type 0 where
  pub size : length b ≡ length b₀
  pub long : length u ≡ length u₀
  pub listed : KeysListed b₀ b u₀ u c (λ m t. claims_given m n (take i os) v t)

pub failed_none : (b u : List ℕ) (n v : ℕ) (os : List (Option ℕ)) → Failed b b u u n v os 0 0
unfolding claims_given some_keys fail_each
failed_none b u n v os = record { size = refl; long = refl; listed = record { count = λ st s w. refl; keys = λ st s w. written_none u; table = λ st s w. w } }

module _ {b₀ b u₀ u : List ℕ} {n v : ℕ} {os : List (Option ℕ)} {i c : ℕ} (f : Failed b₀ b u₀ u n v os i c) (p : Peer n) (late : v < word) where
  abbrev after : State → State
  after st = on_table (claims_given (limits_of st) n (take i os) v st.table).table st

  left : (st : State) → Sound st → Left (limits_of st) st.places n st.table (length (some_keys (map (claim_given n st.table) (take i os))))
      (claims_given (limits_of st) n (take i os) v st.table)
  unfolding claims_given
  left st s = each_left n v _ p late (holds_given n (take i os) st.table s.bounded.ordered) s.bounded

  after-sound : (st : State) → Sound st → Sound (after st)
  after-sound st s = sound-table s (left st s).bounded

  pub failed_kept : Kept b₀ → Kept b
  failed_kept k = record { state = after k.state; sound = after-sound k.state k.sound; writes = f.listed.table k.state k.sound k.writes }

  pub failed_few : Kept b₀ → c ≤ (max_parents + 1) * max_places
  failed_few kept =
      let st = kept.state in
      let s = kept.sound in
      omega (arith, f.listed.count st s kept.writes, (left st s).room, s.bounded.room, s.most-places)

  module _ (kept : Kept b₀) {l : ℕ} (given : length (somes os) ≡ l) (room : ClaimsFit l b₀ u₀) where
    pub failed-fits : key_bytes * c ≤ length u
    failed-fits =
        let st = kept.state in
        let s = kept.sound in
        let t = st.table in
        elim (room st s kept.writes) [
          | inl r ↦ omega (arith, f.listed.count st s kept.writes, (left st s).room, f.long)
          | inr r ↦ omega (arith, f.listed.count st s kept.writes, (left st s).named, few_keys n t (take i os), somes_take i os, f.long)
        ]

    pub failed-room : {cs : List Claim} (o : Option ℕ) → i < length os → o ≡ get_or os i none → ClaimsNoted n b₀ cs → (k : Key) → last_of o cs ≡ some k
        → Tells b (λ t. owner_is n (at k t).owner ≡ true → key_bytes * (c + (max_parents + 1)) ≤ length u)
    failed-room {cs} o inside is a k e =
        let st = kept.state in
        let s = kept.sound in
        let w = kept.writes in
        let t = st.table in
        let g : claim_given n t o ≡ some k = sym (last_named o s.bounded.lawful (a.are st s w)) ∙ e in
        let h = one_holds n t (claim_given n t o) k g (holds_given n (o ∷ []) t s.bounded.ordered) in
        let l = left st s in
        let more = somes_before n t k i os inside (ap (claim_given n t) (sym is) ∙ g) in
        told (λ t. owner_is n (at k t).owner ≡ true → key_bytes * (c + (max_parents + 1)) ≤ length u) (after st) (after-sound st s) (f.listed.table st s w)
        (λ q. elim (room st s w) [
          | inl r ↦ omega (arith, (Holds-on l.loosened k h).place q, place-counts k l.bounded, l.room, f.listed.count st s w, f.long)
          | inr r ↦ omega (arith, (Holds-on l.loosened k h).place q, place-counts k l.bounded, l.named, few_keys n t (take i os), more, f.listed.count st s w, f.long)
        ])

  pub failed_more : {b' u' : List ℕ} {cs : List Claim} {r : ℕ} (x : Option ℕ) → i < length os → x ≡ get_or os i none → ClaimsNoted n b₀ cs → length b' ≡ length b
      → length u' ≡ length u → ListedOn b b' u u' c r (λ m t. fail_each m n v (some_keys (last_of x cs ∷ [])) t)
      → Failed b₀ b' u₀ u' n v os (i + 1) r
  failed_more {b'} {u'} {cs} {r} x inside ex a lb ll l = record {
    size = lb ∙ f.size;
    long = ll ∙ f.long;
    listed = record {
      count = λ st s w. l.count (after st) (after-sound st s) (f.listed.table st s w) ∙ ap (λ (z : ℕ). z + length (rest st).keys) (f.listed.count st s w) ∙
          sym (length-append (first st).keys (rest st).keys) ∙ ap (λ (z : Listed). length z.keys) (sym (whole st s w));
      keys = λ st s w.
          l.keys (after st) (after-sound st s) (f.listed.table st s w)
          ∙ ap (λ (z : List ℕ). take (key_bytes * c) z ++ written (keys_answer (rest st).keys) (drop (key_bytes * c) z)) (f.listed.keys st s w)
          ∙ written_then (first st).keys (rest st).keys u₀ c (f.listed.count st s w)
          ∙ ap (λ (z : Listed). written (keys_answer z.keys) u₀) (sym (whole st s w));
      table = λ st s w. subst (λ (z : Listed). Writes b' (on_table z.table st)) (sym (whole st s w)) (l.table (after st) (after-sound st s) (f.listed.table st s w));
    };
  }
    where
      first : State → Listed
      first st = claims_given (limits_of st) n (take i os) v st.table

      rest : State → Listed
      rest st = fail_each (limits_of st) n v (some_keys (last_of x cs ∷ [])) (claims_given (limits_of st) n (take i os) v st.table).table

      whole : (st : State) → Sound st → Writes b₀ st → claims_given (limits_of st) n (take (i + 1) os) v st.table ≡ record { keys = (first st).keys ++ (rest st).keys; table = (rest st).table }
      whole st s w =
          claims_more (limits_of st) n v os i st.table inside
          ∙ ap (λ (o : Option Key). then (first st) (fail_each (limits_of st) n v (some_keys (o ∷ [])) (first st).table))
          (ap (claim_given n st.table) (sym ex) ∙ sym (last_named x s.bounded.lawful (a.are st s w)))

pub failed_done : {b₀ b u₀ u : List ℕ} {n v : ℕ} {os : List (Option ℕ)} {i c : ℕ} (cs : List ℕ) → Failed b₀ b u₀ u n v os i c → length os ≤ i → somes os ≡ cs
    → KeysListed b₀ b u₀ u c (λ m t. failed_package_claims m n cs v t)
failed_done {b₀} {b} {u₀} {u} {n} {v} {os} {i} {c} cs f h e =
    let g : (m : Limits) (t : Table) → claims_given m n (take i os) v t ≡ failed_package_claims m n cs v t = λ m t. ap (λ (x : List (Option ℕ)). claims_given m n x v t) (take_all i os h) ∙
    claims-given m n os v t ∙ ap (λ (x : List ℕ). failed_package_claims m n x v t) e in
    record {
      count = λ st s w. f.listed.count st s w ∙ ap (λ (x : Listed). length x.keys) (g (limits_of st) st.table);
      keys = λ st s w. f.listed.keys st s w ∙ ap (λ (x : Listed). written (keys_answer x.keys) u₀) (g (limits_of st) st.table);
      table = λ st s w. subst (λ (x : Listed). Writes b (on_table x.table st)) (g (limits_of st) st.table) (f.listed.table st s w);
    }

-- ---- one claim

-- whether n owns the request at the Wtxid key with hash h
pub owner-reads : {h : ℕ} (n : ℕ) (t : Table) {k : Key} → k ≡ wtxid h → {r : Read} → RequestOf (at k t) r → {b : Bool} → b ≡ owner_is n (owner_as r.owner) → b ≡ owner_is n (at (wtxid h) t).owner
owner-reads n t e x d = owner-is x n d ∙ ap (λ (j : Key). owner_is n (at j t).owner) e
