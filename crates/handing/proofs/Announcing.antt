-- Parents announced for each of some connections, their keys put in order as they come.
use Prim.Native.Nat.{ℕ, zero, suc, ◌+◌, ◌*◌, ◌≤◌, ◌<◌}
use mathlib.Core.Path.{◌≡◌, refl, sym, ap, subst, ◌∙◌}
use mathlib.Core.List.{List, [], ◌∷◌, ◌++◌, append_assoc, append-nil}
use native.Mathlib.Numerals.{add-one}
use native.Mathlib.Omega.{arith}
use lib.ListN.{length, take, drop, get_or, take-append-drop}
use lib.Seq.{take-suc, take_all}
use Rattle.ident.specs.Number.{Key}
use Rattle.machine.specs.Limits.{Limits, word, max_parents}
use Rattle.machine.specs.State.{State, Table, limits_of, on_table}
use Rattle.machine.specs.Fail.{announce_parents}
use Rattle.machine.specs.Sound.{Sound, Bounded}
use Rattle.machine.specs.Typed.{Each, KeyTyped}
use Rattle.machine.specs.Step.{keys_answer, written}
use Rattle.machine.proofs.Announce.{each_append}
use Rattle.machine.proofs.Fail.{Peer, FewHashes, bounded-parents}
use Rattle.machine.proofs.Kept.{sound-table}
use Rattle.machine.proofs.Plan.{parents-keys as typed-parents}
use Rattle.store.specs.Image.{image, Writes}
use Rattle.store.specs.Shown.{Kept}
use Rattle.store.proofs.FlatRead.{image_injective}
use Rattle.machine.specs.Call.{key_bytes}
use Rattle.machine.proofs.AnswerLengths.{length-announce_parents}
use Rattle.lent_lists.specs.Lists.{keys_in, given_keys}
use Rattle.lent_lists.proofs.KeysBack.{keys_back, front-keys}
use Rattle.announcing.specs.Answers.{KeysListed}
use Rattle.merging.specs.Merges.{InOrder, Takes, Merged}
use Rattle.handing.specs.Hands.{Peers, announce_for, Roomy, KeysMerged}
use Rattle.merging.proofs.Inserting.{After, merged-after, merged_none, merged_then, takes_front, takes_rest}

-- bytes write one sound state
pub same_state : {b : List ℕ} (a st : State) → Sound a → Sound st → Writes b a → Writes b st → a ≡ st
unfolding image
same_state a st s g w y = image_injective a st s g (sym w.words_are ∙ y.words_are)

-- ---- the keys are keys

pub typed_for : (m : Limits) (now : ℕ) (hs ns : List ℕ) (t : Table) → FewHashes hs → Each KeyTyped (announce_for m now hs ns t).keys
unfolding announce_for
typed_for m now hs [] t f = tt
typed_for m now hs (n ∷ ns) t f =
    let a = announce_parents m n now hs t in
    each_append KeyTyped a.keys (announce_for m now hs ns a.table).keys (typed-parents m n now hs t f) (typed_for m now hs ns a.table f)

pub bounded_for : {m : Limits} {Q : ℕ} {t : Table} (now : ℕ) (hs ns : List ℕ) → now < word → FewHashes hs → Peers ns → Bounded m Q t → Bounded m Q (announce_for m now hs ns t).table
unfolding announce_for
bounded_for now hs [] w f p b = b
bounded_for {m} {Q} {t} now hs (n ∷ ns) w f p b =
    bounded_for {t = (announce_parents m n now hs t).table} now hs ns w f p.1 (bounded-parents n now hs (record { positive = p.0.0; small = p.0.1 }) w f b)

-- ---- for one connection

module _ (n now : ℕ) (hs : List ℕ) (f : FewHashes hs) {b b₁ v v₁ : List ℕ} {c : ℕ} (l : KeysListed b b₁ v v₁ c (λ m t. announce_parents m n now hs t)) where
  keys-are : (st : State) → Sound st → Writes b st → keys_in c v₁ ≡ (announce_parents (limits_of st) n now hs st.table).keys
  keys-are st s w =
      let ks = (announce_parents (limits_of st) n now hs st.table).keys in
      ap (λ (x : List ℕ). keys_in c x) (l.keys st s w) ∙ ap (λ (j : ℕ). keys_in j (written (keys_answer ks) v)) (l.count st s w) ∙ keys_back ks v (typed-parents (limits_of st) n now hs st.table f)

  pub fits_parents : Kept b → length hs ≤ max_parents → key_bytes * max_parents ≤ length v₁ → key_bytes * c ≤ length v₁
  fits_parents k h g = omega (arith, l.count k.state k.sound k.writes, length-announce_parents (limits_of k.state) n now hs k.state.table)

  -- the front of the list that the call wrote
  module _ (h : key_bytes * c ≤ length v₁) where
    pub merge-room : (u : List ℕ) (q : ℕ) → Kept b → Roomy b u q (λ m t. announce_parents m n now hs t) → Takes (given_keys (take (c * key_bytes) v₁)) u q
    merge-room u q k r = rw (front-keys c v₁ h, keys-are k.state k.sound k.writes) (r k.state k.sound k.writes)

    pub one_merged : {u u₁ : List ℕ} {q r : ℕ} → Merged (given_keys (take (c * key_bytes) v₁)) u u₁ q r → KeysMerged b b₁ u u₁ q r (λ m t. announce_parents m n now hs t)
    one_merged m = record { merged = λ st s w. rw (front-keys c v₁ h, keys-are st s w) at m; table = l.table }

-- ---- one connection more

for_keys : (m : Limits) (now : ℕ) (hs ns : List ℕ) (n : ℕ) (t : Table) → (announce_for m now hs (ns ++ (n ∷ [])) t).keys ≡ (announce_for m now hs ns t).keys ++
    (announce_parents m n now hs (announce_for m now hs ns t).table).keys
unfolding announce_for
for_keys m now hs [] n t = append-nil _
for_keys m now hs (x ∷ ns) n t =
    let a = announce_parents m x now hs t in
    ap (λ (l : List Key). a.keys ++ l) (for_keys m now hs ns n a.table) ∙ sym (append_assoc a.keys (announce_for m now hs ns a.table).keys _)

for_table : (m : Limits) (now : ℕ) (hs ns : List ℕ) (n : ℕ) (t : Table) → (announce_for m now hs (ns ++ (n ∷ [])) t).table ≡ (announce_parents m n now hs (announce_for m now hs ns t).table).table
unfolding announce_for
for_table m now hs [] n t = refl
for_table m now hs (x ∷ ns) n t = for_table m now hs ns n (announce_parents m x now hs t).table

for_front : (m : Limits) (now : ℕ) (hs ns js : List ℕ) (t : Table) → (announce_for m now hs (ns ++ js) t).keys ≡ (announce_for m now hs ns t).keys ++
    (announce_for m now hs js (announce_for m now hs ns t).table).keys
unfolding announce_for
for_front m now hs [] js t = refl
for_front m now hs (x ∷ ns) js t =
    let a = announce_parents m x now hs t in
    ap (λ (l : List Key). a.keys ++ l) (for_front m now hs ns js a.table) ∙ sym (append_assoc a.keys (announce_for m now hs ns a.table).keys _)

-- ---- the loop over the connections ns: for the first i of them

pub record Handing (now : ℕ) (hs ns : List ℕ) (b₀ b u₀ u : List ℕ) (n r i : ℕ) : Type 0 where
  pub inside : i ≤ length ns
  pub store_long : length b ≡ length b₀
  pub merged : KeysMerged b₀ b u₀ u n r (λ m t. announce_for m now hs (take i ns) t)

peers_take : (i : ℕ) (ns : List ℕ) → Peers ns → Peers (take i ns)
peers_take zero ns p = tt
peers_take (suc i) [] p = tt
peers_take (suc i) (n ∷ ns) p = (p.0, peers_take i ns p.1)

peer_at : (i : ℕ) (ns : List ℕ) → Peers ns → i < length ns → Peer (get_or ns i 0)
peer_at i [] p h = absurd (omega arith)
peer_at zero (n ∷ ns) p h = record { positive = p.0.0; small = p.0.1 }
peer_at (suc i) (n ∷ ns) p h = peer_at i ns p.1 (omega arith)

pub handing_none : (now : ℕ) (hs ns b u : List ℕ) (n : ℕ) → InOrder u n → Handing now hs ns b b u u n n 0
unfolding announce_for
handing_none now hs ns b u n o = record { inside = omega arith; store_long = refl; merged = record { merged = λ st s w. merged_none o; table = λ st s w. w } }

module _ {now : ℕ} {hs ns b₀ b u₀ u : List ℕ} {n r i : ℕ} (late : now < word) (few : FewHashes hs) (peers : Peers ns) (o : InOrder u₀ n) (room : Roomy b₀ u₀ n (λ m t. announce_for m now hs ns t))
    (v : Handing now hs ns b₀ b u₀ u n r i) where
  abbrev after : State → State
  after st = on_table (announce_for (limits_of st) now hs (take i ns) st.table).table st

  after-sound : (st : State) → Sound st → Sound (after st)
  after-sound st s = sound-table s (bounded_for now hs (take i ns) late few (peers_take i ns peers) s.bounded)

  pub handing_kept : Kept b₀ → Kept b
  handing_kept k = record { state = after k.state; sound = after-sound k.state k.sound; writes = v.merged.table k.state k.sound k.writes }

  keys_to : ℕ → State → List Key
  keys_to j st = (announce_for (limits_of st) now hs (take j ns) st.table).keys

  front : (j : ℕ) (st : State) → Sound st → Writes b₀ st → Takes (keys_to j st) u₀ n
  unfolding keys_to
  front j st s w =
      let rest = (announce_for (limits_of st) now hs (drop j ns) (announce_for (limits_of st) now hs (take j ns) st.table).table).keys in
      takes_front (keys_to j st) rest u₀ n (rw (sym (ap (λ (l : List ℕ). (announce_for (limits_of st) now hs l st.table).keys) (sym (take-append-drop j ns)) ∙
      for_front (limits_of st) now hs (take j ns) (drop j ns) st.table)) (room st s w))

  typed : (st : State) → Each KeyTyped (keys_to i st)
  unfolding keys_to
  typed st = typed_for (limits_of st) now hs (take i ns) st.table few

  here : (st : State) → Sound st → Writes b₀ st → After (keys_to i st) u₀ u n r
  unfolding keys_to
  here st s w = merged-after o (typed st) (front i st s w) (v.merged.merged st s w)

  pub handing-long : Kept b₀ → length u ≡ length u₀
  handing-long k = (here k.state k.sound k.writes).long

  pub handing_done : length ns ≤ i → KeysMerged b₀ b u₀ u n r (λ m t. announce_for m now hs ns t)
  handing_done h = subst (λ (l : List ℕ). KeysMerged b₀ b u₀ u n r (λ m t. announce_for m now hs l t)) (take_all i ns h) v.merged

  module _ (x : ℕ) (h : i < length ns) (g : x ≡ get_or ns i 0) where
    next : take (i + 1) ns ≡ take i ns ++ (x ∷ [])
    next = rw (add-one i, g) (take-suc ns i 0 h)

    pub next_peer : Peer x
    next_peer = rw g (peer_at i ns peers h)

    more_keys : (st : State) → keys_to (i + 1) st ≡ keys_to i st ++ (announce_parents (limits_of st) x now hs (after st).table).keys
    unfolding keys_to
    more_keys st = ap (λ (l : List ℕ). (announce_for (limits_of st) now hs l st.table).keys) next ∙ for_keys (limits_of st) now hs (take i ns) x st.table

    pub handing-order : Kept b₀ → InOrder u r
    handing-order k = (here k.state k.sound k.writes).order

    pub handing-room : Kept b₀ → Roomy b u r (λ m t. announce_parents m x now hs t)
    unfolding keys_to
    handing-room k =
        let st = k.state in
        told_takes (after st) (after-sound st k.sound) (v.merged.table st k.sound k.writes)
        (takes_rest o (typed st) (front i st k.sound k.writes) (v.merged.merged st k.sound k.writes) _ (rw (more_keys st) at (front (i + 1) st k.sound k.writes)))
      where
        told_takes : (a : State) → Sound a → Writes b a → Takes (announce_parents (limits_of a) x now hs a.table).keys u r → Roomy b u r (λ m t. announce_parents m x now hs t)
        told_takes a s w p st g y = subst (λ (z : State). Takes (announce_parents (limits_of z) x now hs z.table).keys u r) (same_state a st s g w y) p

    pub handing_more : {b₁ u₁ : List ℕ} {q : ℕ} → length b₁ ≡ length b → KeysMerged b b₁ u u₁ r q (λ m t. announce_parents m x now hs t) → Handing now hs ns b₀ b₁ u₀ u₁ n q (i + 1)
    unfolding keys_to
    handing_more {b₁} {u₁} {q} long m = record {
      inside = omega arith;
      store_long = long ∙ v.store_long;
      merged = record {
        merged = λ st s w. subst (λ (l : List Key). Merged l u₀ u₁ n q) (sym (more_keys st))
            (merged_then o (typed st) (front i st s w) (v.merged.merged st s w) (m.merged (after st) (after-sound st s) (v.merged.table st s w)));
        table = λ st s w. subst (λ (t : Table). Writes b₁ (on_table t st)) (sym (ap (λ (l : List ℕ). (announce_for (limits_of st) now hs l st.table).table) next ∙
            for_table (limits_of st) now hs (take i ns) x st.table)) (m.table (after st) (after-sound st s) (v.merged.table st s w));
      };
    }
