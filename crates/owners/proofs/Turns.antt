-- The walk from hash to hash: two indices, and what has been written and counted.
use Prim.Native.Nat.{ℕ, zero, suc, ◌+◌, ◌*◌, max, ◌≤◌, ◌<◌}
use mathlib.Core.Path.{◌≡◌, refl, sym, ap, subst, ◌∙◌}
use mathlib.Core.Logic.{inl, inr}
use mathlib.Core.Bool.{true}
use mathlib.Core.List.{List, [], ◌∷◌, ◌++◌, map, append_assoc, append-nil}
use mathlib.Core.Option.{Option}
use native.Mathlib.Nat.{le_refl}
use native.Mathlib.Numerals.{add-one}
use native.Mathlib.Omega.{arith}
use lib.Dec.{ltb}
use lib.ListN.{length, take, get_or, length-map, length-take}
use lib.Seq.{take-suc, take_all}
use borrow.Author.Tests.{ltb-true}
use Rattle.std.specs.Prelude as rust
use Rattle.ident.specs.Number.{top}
use Rattle.words.specs.Words.{bytes_of, splice}
use Rattle.words.proofs.Splice.{splice_more}
use Rattle.machine.specs.State.{State, Table}
use Rattle.machine.specs.Table.{keys}
use Rattle.machine.specs.Sound.{Sound}
use Rattle.machine.specs.Owners.{Holding, or_holding, holding_at, holdings, ascending, greatest_hash, keys_up_to, passed}
use Rattle.machine.specs.Call.{owner_bytes}
use Rattle.machine.specs.Step.{holding_answer, holdings_answer, written}
use Rattle.machine.proofs.Tests.{and_left, and_right, order}
use Rattle.machine.proofs.Owners.{length-holding_answer, length-holdings_answer}
use Rattle.store.specs.Flat.{flat_of, rows_of}
use Rattle.store.specs.Image.{Writes}
use Rattle.store.specs.Shown.{rows_in}
use Rattle.lent_lists.proofs.Answer.{over_front}
use Rattle.announcing.specs.Evicts.{part}
use Rattle.sweeping.specs.Batches.{keys_over}
use Rattle.owners.specs.declared.Owner.{Owner}
use Rattle.owners.specs.declared.Stretch.{Stretch}
use Rattle.owners.specs.Walk.{owner_words, Says, holding_over, Rises, Stretched, Along, Parted, Halves, OwnersListed}

-- ---- a list that ascends

-- the first p hashes are below g, or not above it
abbrev pub Past : ℕ → List ℕ → ℕ → Type 0
Past p hs g = (k : ℕ) → k < p → get_or hs k 0 < g

abbrev pub UpTo : ℕ → List ℕ → ℕ → Type 0
UpTo p hs g = (k : ℕ) → k < p → get_or hs k 0 ≤ g

first_below : (h : ℕ) (hs : List ℕ) → ascending (h ∷ hs) ≡ true → (k : ℕ) → k < length hs → h < get_or hs k 0
unfolding ascending
first_below h [] e k l = absurd (omega arith)
first_below h (g ∷ hs) e zero l = ltb-true h g (and_left (ltb h g) (ascending (g ∷ hs)) e)
first_below h (g ∷ hs) e (suc k) l = omega (arith, ltb-true h g (and_left (ltb h g) (ascending (g ∷ hs)) e), first_below g hs (and_right (ltb h g) (ascending (g ∷ hs)) e) k (omega arith))

tail_ascends : (h : ℕ) (hs : List ℕ) → ascending (h ∷ hs) ≡ true → ascending hs ≡ true
unfolding ascending
tail_ascends h [] e = refl
tail_ascends h (g ∷ hs) e = and_right (ltb h g) (ascending (g ∷ hs)) e

climbs : (hs : List ℕ) → ascending hs ≡ true → (k p : ℕ) → k < p → p < length hs → get_or hs k 0 < get_or hs p 0
climbs [] e k p l m = absurd (omega arith)
climbs (h ∷ hs) e k zero l m = absurd (omega arith)
climbs (h ∷ hs) e zero (suc p) l m = first_below h hs e p (omega arith)
climbs (h ∷ hs) e (suc k) (suc p) l m = climbs hs (tail_ascends h hs e) k p (omega arith) (omega arith)

-- its last hash is the greatest
last_greatest : (h : ℕ) (hs : List ℕ) → ascending (h ∷ hs) ≡ true → greatest_hash h hs ≡ get_or (h ∷ hs) (length hs) 0
unfolding greatest_hash
last_greatest h [] e = refl
last_greatest h (g ∷ hs) e =
    let l = first_below h (g ∷ hs) e 0 (omega arith) in
    let m : max h g ≡ g = omega arith in
    rw m (last_greatest g hs (tail_ascends h (g ∷ hs) e))

-- ---- answers one behind the other

answers_more : (l : List (Option Holding)) (o : Option Holding) → holdings_answer (l ++ (o ∷ [])) ≡ holdings_answer l ++ holding_answer o
unfolding holdings_answer
answers_more [] o = append-nil (holding_answer o)
answers_more (a ∷ l) o = ap (λ (x : List ℕ). holding_answer a ++ x) (answers_more l o) ∙ sym (append_assoc (holding_answer a) (holdings_answer l) (holding_answer o))

written_more : (l : List (Option Holding)) (o : Option Holding) (u : List ℕ) → owner_bytes * length l + owner_bytes ≤ length u
    → splice (written (holdings_answer l) u) (owner_bytes * length l) (holding_answer o) ≡ written (holdings_answer (l ++ (o ∷ []))) u
written_more l o u h =
    let k = length-holdings_answer l in
    let m = length-holding_answer o in
    ap (λ (s : List ℕ). splice s (owner_bytes * length l) (holding_answer o)) (over_front (holdings_answer l) u)
    ∙ splice_more u 0 (owner_bytes * length l) (holdings_answer l) (holding_answer o) (omega arith) (omega arith)
    ∙ ap (splice u 0) (sym (answers_more l o))
    ∙ sym (over_front (holdings_answer (l ++ (o ∷ []))) u)

written_none : (u : List ℕ) → u ≡ written (holdings_answer []) u
unfolding written holdings_answer
written_none u = refl

map_more : (f : ℕ → Option Holding) (l : List ℕ) (h : ℕ) → map f (l ++ (h ∷ [])) ≡ map f l ++ (f h ∷ [])
map_more f [] h = refl
map_more f (a ∷ l) h = ap (λ (x : List (Option Holding)). f a ∷ x) (map_more f l h)

one_more_lem : (t : Table) (hs : List ℕ) (p : ℕ) → p < length hs → holdings (take (p + 1) hs) t ≡ holdings (take p hs) t ++ (holding_at t (get_or hs p 0) ∷ [])
one_more_lem t hs p l =
    let e : take (p + 1) hs ≡ take p hs ++ (get_or hs p 0 ∷ []) = rw add-one (take-suc hs p 0 l) in
    ap (λ (x : List ℕ). holdings x t) e ∙ map_more (holding_at t) (take p hs) (get_or hs p 0)

-- ---- what stands when p hashes are done, of one table

pub record Turn (t : Table) (hs : List ℕ) (m n : ℕ) (u₀ u : List ℕ) (i j c p : ℕ) : Type 0 where
  pub left : (g : ℕ) → Past p hs g → holding_over g (part i m (rows_of t)) ≡ holding_over g (part 0 m (rows_of t))
  pub right : (g : ℕ) → Past p hs g → holding_over g (part j n (rows_of t)) ≡ holding_over g (part m n (rows_of t))
  pub left_rises : Rises 0 (part i m (rows_of t))
  pub right_rises : Rises 0 (part j n (rows_of t))
  pub counts : (g : ℕ) → UpTo p hs g → keys_up_to g (keys t) ≡ c + (keys_up_to g (keys_over i m (rows_of t)) + keys_up_to g (keys_over j n (rows_of t)))
  pub none_yet : p ≡ 0 → c ≡ 0
  pub ended : (q : ℕ) → p ≡ suc q → (keys_up_to (get_or hs q 0) (keys_over i m (rows_of t)) ≡ 0) × (keys_up_to (get_or hs q 0) (keys_over j n (rows_of t)) ≡ 0)
  pub bytes : u ≡ written (holdings_answer (holdings (take p hs) t)) u₀

turn_start : (t : Table) (hs : List ℕ) (m n : ℕ) (u : List ℕ) → Parted t m n → Turn t hs m n u u 0 m 0 0
turn_start t hs m n u k = record {
  left = λ g a. refl;
  right = λ g a. refl;
  left_rises = k.txids;
  right_rises = k.wtxids;
  counts = λ g a. omega (arith, k.keys-are g);
  none_yet = λ e. refl;
  ended = λ q e. absurd (omega arith);
  bytes = written_none u;
}

module _ {t : Table} {hs : List ℕ} {m n : ℕ} {u₀ u : List ℕ} {i j c p : ℕ} (k : Turn t hs m n u₀ u i j c p) (asc : ascending hs ≡ true) where
  module _ (d : Parted t m n) (l : p < length hs) {h : ℕ} (e : h ≡ get_or hs p 0) (small : h < top) {x y : Stretch} (a : Stretched (rows_of t) i m h x) (b : Stretched (rows_of t) j n h y) where
    past : Past p hs h
    past z lz = rw e (climbs hs asc z p lz l)

    -- the owner of the hash
    owner : (w : rust.Option Owner) → ((o q : Option Holding) → Says x.owner o → Says y.owner q → Says w (or_holding o q)) → Says w (holding_at t h)
    owner w f =
        subst (Says w) ((λ z. or_holding (k.left h past z) (k.right h past z)) ∙ d.owner h small)
        (f (holding_over h (part i m (rows_of t))) (holding_over h (part j n (rows_of t))) (a.names k.left_rises) (b.names k.right_rises))

    more_past : (g : ℕ) → Past (p + 1) hs g → (h < g) × Past p hs g
    more_past g f = (rw e (f p (omega arith)), λ z lz. f z (omega arith))

    more_up : (g : ℕ) → UpTo (p + 1) hs g → (h ≤ g) × UpTo p hs g
    more_up g f = (rw e (f p (omega arith)), λ z lz. f z (omega arith))

    turn_more : (w : rust.Option Owner) → ((o q : Option Holding) → Says x.owner o → Says y.owner q → Says w (or_holding o q)) → {u' : List ℕ}
        → u' ≡ splice u (owner_bytes * p) (bytes_of (owner_words w)) → owner_bytes * length hs ≤ length u₀
        → Turn t hs m n u₀ u' x.at y.at (c + (x.keys + y.keys)) (p + 1)
    turn_more w f {u'} z room = record {
      left = λ g s. let r = more_past g s in sym (a.passes g r.0) ∙ k.left g r.1;
      right = λ g s. let r = more_past g s in sym (b.passes g r.0) ∙ k.right g r.1;
      left_rises = a.rises k.left_rises;
      right_rises = b.rises k.right_rises;
      counts = λ g s. let r = more_up g s in omega (arith, k.counts g r.1, a.counts g r.0, b.counts g r.0);
      none_yet = λ s. absurd (omega arith);
      ended = λ q s. let r : q ≡ p = omega arith in rw (r, ← e) (a.ends k.left_rises, b.ends k.right_rises);
      bytes = stored;
    }
      where
        done : List (Option Holding)
        done = holdings (take p hs) t

        long : length done ≡ p
        long = length-map (take p hs) (holding_at t) ∙ length-take p hs ∙ omega arith

        stored : u' ≡ written (holdings_answer (holdings (take (p + 1) hs) t)) u₀
        stored = z
            ∙ ap (λ (v : List ℕ). splice u (owner_bytes * p) (bytes_of v)) (owner w f)
            ∙ (λ v. splice (k.bytes v) (owner_bytes * sym long v) (holding_answer (holding_at t h)))
            ∙ written_more done (holding_at t h) u₀ (omega (arith, long))
            ∙ ap (λ (v : List (Option Holding)). written (holdings_answer v) u₀) (ap (λ (v : ℕ). done ++ (holding_at t v ∷ [])) e ∙ sym (one_more_lem t hs p l))

  -- all are done
  whole : length hs ≤ p → p ≤ length hs → u ≡ written (holdings_answer (holdings hs t)) u₀
  whole l r = k.bytes ∙ ap (λ (v : List ℕ). written (holdings_answer (holdings v t)) u₀) (take_all p hs l)

counted : {t : Table} {m n : ℕ} {u₀ u : List ℕ} {i j c p : ℕ} (hs : List ℕ) → Turn t hs m n u₀ u i j c p → ascending hs ≡ true → p ≡ length hs → c ≡ passed hs t
unfolding passed
counted [] k asc e = k.none_yet e
counted {t} {m} {n} {i = i} {j = j} {p = p} (h ∷ hs) k asc e =
    let g = get_or (h ∷ hs) (length hs) 0 in
    let up : UpTo p (h ∷ hs) g = λ z lz. not-above z (omega arith) in
    let r = k.ended (length hs) e in
    omega (arith, k.counts g up, r.0, r.1, ap (λ (x : ℕ). keys_up_to x (keys t)) (last_greatest h hs asc))
  where
    not-above : (z : ℕ) → z ≤ length hs → get_or (h ∷ hs) z 0 ≤ get_or (h ∷ hs) (length hs) 0
    not-above z l = elim (order z (length hs)) [ inl v ↦ omega (arith, climbs (h ∷ hs) asc z (length hs) v (omega arith)) | inr (inl v) ↦ rw v (le_refl _) | inr (inr v) ↦ absurd (omega arith) ]

-- ---- the loop's invariant

pub record Walking (b hs : List ℕ) (m : ℕ) (u₀ u : List ℕ) (i j c p : ℕ) : Type 0 where
  pub inside : p ≤ length hs
  pub first : i ≤ m
  pub second_least : m ≤ j
  pub second : j ≤ rows_in b
  pub long : length u ≡ length u₀
  pub few : c + m ≤ i + j
  pub is : (st : State) → Sound st → Writes b st → Turn st.table hs m (rows_in b) u₀ u i j c p

pub walking_start : (b hs : List ℕ) (m : ℕ) (u : List ℕ) → Halves b m → Walking b hs m u u 0 m 0 0
walking_start b hs m u k = record {
  inside = omega arith;
  first = omega arith;
  second_least = le_refl m;
  second = k.most;
  long = refl;
  few = omega arith;
  is = λ st s w. turn_start st.table hs m (rows_in b) u (k.is st s w);
}

module _ {b hs : List ℕ} {m : ℕ} {u₀ u : List ℕ} {i j c p : ℕ} (k : Walking b hs m u₀ u i j c p) (asc : ascending hs ≡ true) where
  pub walking_more : Halves b m → p < length hs → {h : ℕ} → h ≡ get_or hs p 0 → h < top → {x y : Stretch} → Along b i m h x → Along b j (rows_in b) h y
      → (w : rust.Option Owner) → ((o q : Option Holding) → Says x.owner o → Says y.owner q → Says w (or_holding o q)) → {u' : List ℕ}
      → u' ≡ splice u (owner_bytes * p) (bytes_of (owner_words w)) → length u' ≡ length u → owner_bytes * length hs ≤ length u₀
      → Walking b hs m u₀ u' x.at y.at (c + (x.keys + y.keys)) (p + 1)
  walking_more d l e small a z w f q r room = record {
    inside = omega arith;
    first = a.most;
    second_least = omega (arith, k.second_least, z.least);
    second = z.most;
    long = r ∙ k.long;
    few = omega (arith, k.few, a.few, z.few);
    is = λ st s o. turn_more (k.is st s o) asc (d.is st s o) l e small (a.is (flat_of st) o) (z.is (flat_of st) o) w f q room;
  }

  pub walking_done : length hs ≤ p → OwnersListed b hs u₀ u c
  walking_done l = record {
    count = λ st s w. counted hs (k.is st s w) asc (omega (arith, k.inside));
    owners-are = λ st s w. whole (k.is st s w) asc l k.inside;
  }
