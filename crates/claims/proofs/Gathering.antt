-- Claims noted one behind the other, row by row.
use Prim.Native.Nat.{ℕ, ◌+◌, ◌≤◌, ◌<◌}
use mathlib.Core.Path.{◌≡◌, refl, sym, ap, ◌∙◌}
use mathlib.Core.Bool.{true, false, ◌&&◌}
use mathlib.Core.List.{List, [], ◌∷◌, ◌++◌, map, map-append, append-nil}
use native.Mathlib.Nat.{add-zero}
use native.Mathlib.Numerals.{add-one}
use native.Mathlib.Omega.{arith}
use lib.Dec.{eqb}
use lib.ListN.{length, take, drop, get_or, set, length-append, length-take, take-append-drop}
use lib.Seq.{take-suc, take-suc-set, take_all}
use Rattle.ident.specs.declared.Kind.{Kind}
use Rattle.ident.specs.declared.Kind.TheVariants.{Wtxid}
use Rattle.ident.specs.Number.{top, Key, wtxid}
use Rattle.ident.specs.Words.{hash_num}
use Rattle.regions.specs.declared.Row.{Row}
use Rattle.regions.specs.Regions.{each}
use Rattle.regions.proofs.Regions.{each_append}
use Rattle.machine.specs.Limits.{max_in_flight}
use Rattle.machine.specs.State.{Table, State}
use Rattle.machine.specs.Table.{at}
use Rattle.machine.specs.Sound.{Sound}
use Rattle.machine.proofs.Tests.{and_right}
use Rattle.machine.proofs.Table.{at_key, lawful_at}
use Rattle.store.specs.Flat.{rows_of}
use Rattle.store.specs.FlatSound.{owns}
use Rattle.store.specs.Gather.{key_at}
use Rattle.store.specs.Image.{Writes}
use Rattle.store.specs.Shown.{Kept}
use Rattle.requests.specs.Changes.{Tells}
use Rattle.package_stages.specs.Changes.{combined_of}
use Rattle.package_stages.proofs.Seeking.{holding}
use Rattle.claims.specs.declared.waiting.Claim.{Claim}
use Rattle.claims.specs.Awaited.{awaiting, claims_in, hash_of, sum_of, is_claim_row, claim_of, noted_keys, noted_sums, ClaimNoted, ClaimsNoted}
use Rattle.claims.proofs.Noting.{claim-yes, claim-no, awaiting-place, rows-claims, claims_few}

-- ---- one claim more

-- what is noted behind m others
noted_more : (f : Claim → ℕ) (cs : List Claim) (m : ℕ) (c : Claim) → m < length cs → map f (take (m + 1) (set cs m c)) ≡ map f (take m cs) ++ (f c ∷ [])
noted_more f cs m c l = ap (map f) (rw (add-one m) (take-suc-set cs m c l)) ∙ map-append f (take m cs) (c ∷ [])

module _ (n : ℕ) (r : Row) {b : List ℕ} where
  pub noted_none : {cs : List Claim} {m : ℕ} → Tells b (λ t. is_claim_row n t r ≡ false) → ClaimNoted n r b cs cs m m
  noted_none {cs} {m} e = record {
    count = λ st s w. rw (claim-no n st.table r (e st s w)) (sym (add-zero m));
    keys-are = λ st s w. rw (claim-no n st.table r (e st s w)) (sym (append-nil (noted_keys (take m cs))));
    sums-are = λ st s w. rw (claim-no n st.table r (e st s w)) (sym (append-nil (noted_sums (take m cs))));
  }

  module _ (e : Tells b (λ t. is_claim_row n t r ≡ true)) {h : ℕ} {j : Kind} (small : h < top) (k : record { kind = j; hash = h } ≡ key_at r) where
    awaits_it : (st : State) → Sound st → Writes b st → awaiting (at (key_at r) st.table).«package» ≡ true
    awaits_it st s w = and_right (eqb r.conn n && owns r) (awaiting (at (key_at r) st.table).«package») (e st s w)

    small-key : (key_at r).hash < top
    small-key = rw (sym k) small

    -- "only on Wtxid keys"
    pub key-is : (st : State) → Sound st → Writes b st → key_at r ≡ wtxid h
    key-is st s w =
        let q = at (key_at r) st.table in
        let x = at_key (key_at r) 0 st.table small-key s.bounded.ordered in
        let y = holding q (lawful_at (key_at r) st.table s.bounded.lawful) (awaiting-place q (awaits_it st s w)) in
        let z : j ≡ Wtxid = ap (λ (a : Key). a.kind) k ∙ ap (λ (a : Key). a.kind) (sym x) ∙ y.kind in
        sym k ∙ ap (λ (a : Kind). record { kind = a; hash = h }) z

    pub noted_one : {cs : List Claim} {m : ℕ} (c : Claim) → hash_num c.key ≡ h → m < length cs
        → Tells b (λ t. awaiting (at (wtxid h) t).«package» ≡ true → hash_num c.combined ≡ combined_of (at (wtxid h) t).«package»)
        → ClaimNoted n r b cs (set cs m c) m (m + 1)
    noted_one {cs} {m} c its few is = record {
      count = λ st s w. rw (claim-yes n st.table r (e st s w));
      keys-are = λ st s w.
          let t = st.table in
          rw (claim-yes n t r (e st s w))
          (noted_more (λ c. hash_num c.key) cs m c few ∙ ap (λ (y : ℕ). noted_keys (take m cs) ++ (y ∷ []))
          (its ∙ ap (λ (y : Key). y.hash) k ∙ sym (ap (λ (y : Key). y.hash) (at_key (key_at r) 0 t small-key s.bounded.ordered))));
      sums-are = λ st s w.
          let t = st.table in
          let g : key_at r ≡ wtxid h = key-is st s w in
          let v : awaiting (at (wtxid h) t).«package» ≡ true = ap (λ (y : Key). awaiting (at y t).«package») (sym g) ∙ awaits_it st s w in
          rw (claim-yes n t r (e st s w))
          (noted_more (λ c. hash_num c.combined) cs m c few ∙ ap (λ (y : ℕ). noted_sums (take m cs) ++ (y ∷ []))
          (is st s w v ∙ ap (λ (y : Key). combined_of (at y t).«package») (sym g)));
    }

-- ---- the loop

-- the claims among the first i rows are noted
pub record Gathered (n : ℕ) (b : List ℕ) (cs : List Claim) (m i : ℕ) : Type 0 where
  pub long : length cs ≡ max_in_flight
  pub count : Tells b (λ t. m ≡ length (each (claim_of n t) (take i (rows_of t))))
  pub keys-are : Tells b (λ t. noted_keys (take m cs) ≡ map hash_of (each (claim_of n t) (take i (rows_of t))))
  pub sums-are : Tells b (λ t. noted_sums (take m cs) ≡ map sum_of (each (claim_of n t) (take i (rows_of t))))

pub gathered_none : (n : ℕ) (b : List ℕ) (cs : List Claim) → length cs ≡ max_in_flight → Gathered n b cs 0 0
unfolding each
gathered_none n b cs l = record { long = l; count = λ st s w. refl; keys-are = λ st s w. refl; sums-are = λ st s w. refl }

module _ {n : ℕ} {b : List ℕ} {cs : List Claim} {m i : ℕ} (g : Gathered n b cs m i) (r : Row) (inside : (st : State) → Writes b st → i < length (rows_of st.table))
    (is : (st : State) (d : Row) → Writes b st → r ≡ get_or (rows_of st.table) i d) where
  next : (st : State) → Writes b st → each (claim_of n st.table) (take (i + 1) (rows_of st.table)) ≡ each (claim_of n st.table) (take i (rows_of st.table)) ++ claim_of n st.table r
  unfolding each
  next st w =
      let t = st.table in
      let rs = rows_of t in
      rw (add-one i, take-suc rs i r (inside st w))
      (each_append (claim_of n t) (take i rs) (get_or rs i r ∷ []) ∙ ap (λ (x : Row). each (claim_of n t) (take i rs) ++ (claim_of n t x ++ [])) (sym (is st r w)) ∙
      ap (λ (x : Table). each (claim_of n t) (take i rs) ++ x) (append-nil (claim_of n t r)))

  -- "no connection owns more than 100 requests"
  pub gathered-room : Tells b (λ t. is_claim_row n t r ≡ true → m < max_in_flight)
  gathered-room st s w e =
      let t = st.table in
      let rs = rows_of t in
      let a = each (claim_of n t) (take i rs) in
      let z = each (claim_of n t) (drop (i + 1) rs) in
      let x : length (each (claim_of n t) (take (i + 1) rs)) ≡ length a + 1 = ap length (next st w ∙ ap (λ (y : Table). a ++ y) (claim-yes n t r e)) ∙ length-append a (at (key_at r) t ∷ []) in
      let y : length (each (claim_of n t) rs) ≡ length (each (claim_of n t) (take (i + 1) rs)) + length z = ap (λ (y : List Row). length (each (claim_of n t) y)) (sym (take-append-drop (i + 1) rs)) ∙
      ap length (each_append (claim_of n t) (take (i + 1) rs) (drop (i + 1) rs)) ∙ length-append (each (claim_of n t) (take (i + 1) rs)) z in
      let v = ap length (rows-claims n t st s refl) in
      omega (arith, g.count st s w, claims_few n t t, s.bounded.owned n)

  pub gathered_more : {cs' : List Claim} {v : ℕ} → length cs' ≡ length cs → ClaimNoted n r b cs cs' m v → Gathered n b cs' v (i + 1)
  gathered_more {cs'} {v} l p = record {
    long = l ∙ g.long;
    count = λ st s w.
        let a = each (claim_of n st.table) (take i (rows_of st.table)) in
        let x = ap length (next st w) ∙ length-append a (claim_of n st.table r) in
        omega (arith, p.count st s w, g.count st s w);
    keys-are = λ st s w. p.keys-are st s w ∙ ap (λ (x : List ℕ). x ++ map hash_of (claim_of n st.table r)) (g.keys-are st s w) ∙
        sym (ap (map hash_of) (next st w) ∙ map-append hash_of (each (claim_of n st.table) (take i (rows_of st.table))) (claim_of n st.table r));
    sums-are = λ st s w. p.sums-are st s w ∙ ap (λ (x : List ℕ). x ++ map sum_of (claim_of n st.table r)) (g.sums-are st s w) ∙
        sym (ap (map sum_of) (next st w) ∙ map-append sum_of (each (claim_of n st.table) (take i (rows_of st.table))) (claim_of n st.table r));
  }

module _ {n : ℕ} {b : List ℕ} {cs : List Claim} {m i : ℕ} (g : Gathered n b cs m i) (kept : Kept b) (all : (st : State) → Writes b st → length (rows_of st.table) ≤ i) where
  whole : (st : State) → Sound st → Writes b st → each (claim_of n st.table) (take i (rows_of st.table)) ≡ claims_in n st.table
  whole st s w = ap (each (claim_of n st.table)) (take_all i (rows_of st.table) (all st w)) ∙ rows-claims n st.table st s refl

  pub gathered_few : m ≤ max_in_flight
  gathered_few =
      let st = kept.state in
      let v = ap length (whole st kept.sound kept.writes) in
      omega (arith, g.count st kept.sound kept.writes, claims_few n st.table st.table, kept.sound.bounded.owned n)

  pub gathered_done : ClaimsNoted n b (take m cs)
  gathered_done = record {
    few = omega (arith, length-take m cs, gathered_few);
    are = λ st s w. record { keys-are = g.keys-are st s w ∙ ap (map hash_of) (whole st s w); sums-are = g.sums-are st s w ∙ ap (map sum_of) (whole st s w) };
  }
