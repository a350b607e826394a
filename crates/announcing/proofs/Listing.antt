-- announce_parents on the bytes, hash by hash: what stands after the first i hashes given.
use Prim.Native.Nat.{ℕ, zero, suc, ◌+◌, ◌*◌, ◌≤◌, ◌<◌}
use mathlib.Core.Path.{◌≡◌, refl, sym, ap, subst, ◌∙◌}
use mathlib.Core.Bool.{Bool, true, false}
use mathlib.Core.List.{List, [], ◌∷◌, ◌++◌, append-nil}
use native.Mathlib.Numerals.{add-one}
use native.Mathlib.Omega.{arith}
use lib.ListN.{length, take, get_or, length-append}
use lib.Seq.{take-suc, length-take-le}
use Rattle.ident.specs.Number.{Key, txid}
use Rattle.words.specs.Words.{splice}
use Rattle.words.proofs.Splice.{length-splice}
use Rattle.machine.specs.Limits.{word}
use Rattle.machine.specs.State.{Table, State, limits_of, on_table}
use Rattle.machine.specs.Sound.{Hashes, Sound}
use Rattle.machine.specs.Claim.{elem}
use Rattle.machine.specs.Call.{key_bytes}
use Rattle.machine.specs.Step.{key_answer, keys_answer, written}
use Rattle.machine.specs.Fail.{Listed, dedup, parents_from, announce_parents}
use Rattle.machine.proofs.Fail.{Peer, FewHashes, bounded-parents}
use Rattle.machine.proofs.Kept.{sound-table}
use Rattle.machine.proofs.AnswerLengths.{length-key_answer}
use Rattle.store.specs.Image.{Writes}
use Rattle.store.specs.Shown.{Kept}
use Rattle.lent_lists.proofs.Answer.{written_more, written_none}
use Rattle.announcing.specs.Answers.{Answered, one_parent}
use Rattle.announcing.proofs.Repeats.{key_if, dedup_new, dedup-met, repeat_same, new_keys, new_table}

-- the bytes s write the state with this table
abbrev pub written_in : List ℕ → State → Table → Type 0
written_in s st t = Writes s (on_table t st)

-- the first hashes announced, from the bytes s₀: so many keys are kept and stand in the buffer u, which was u₀, and W says what stands for the table
pub record Listing (n now : ℕ) (hs s₀ u₀ u : List ℕ) (kept : ℕ) (W : State → Table → Type 0) : Type 0 where
  pub count : (st : State) → Sound st → Writes s₀ st → kept ≡ length (announce_parents (limits_of st) n now hs st.table).keys
  pub keys : (st : State) → Sound st → Writes s₀ st → u ≡ written (keys_answer (announce_parents (limits_of st) n now hs st.table).keys) u₀
  pub table : (st : State) → Sound st → Writes s₀ st → W st (announce_parents (limits_of st) n now hs st.table).table

-- one parent more, h with the priority i: r says whether it is kept, and what stood, W, is W' then
pub record OneMore (n now h i : ℕ) (r : Bool) (W W' : State → Table → Type 0) : Type 0 where
  pub reply : (st : State) (t : Table) → Sound (on_table t st) → W st t → r ≡ (one_parent (limits_of st) n now h i t).reply
  pub table : (st : State) (t : Table) → Sound (on_table t st) → W st t → W' st (one_parent (limits_of st) n now h i t).table

listing_none : (n now : ℕ) (s u : List ℕ) {W : State → Table → Type 0} → ((st : State) → Sound st → Writes s st → W st st.table) → Listing n now [] s u u 0 W
unfolding announce_parents dedup parents_from
listing_none n now s u b = record { count = λ st g w. refl; keys = λ st g w. written_none u; table = b }

listing_repeat : (n now : ℕ) (hs : List ℕ) (h : ℕ) {kept : ℕ} {s₀ u₀ u : List ℕ} {W : State → Table → Type 0} → elem h hs ≡ true → Listing n now hs s₀ u₀ u kept W
    → Listing n now (hs ++ (h ∷ [])) s₀ u₀ u kept W
listing_repeat n now hs h {u₀ = u₀} {W = W} e l = record {
  count = λ st g w. l.count st g w ∙ ap (λ (x : Listed). length x.keys) (same st);
  keys = λ st g w. l.keys st g w ∙ ap (λ (x : Listed). written (keys_answer x.keys) u₀) (same st);
  table = λ st g w. subst (λ (x : Listed). W st x.table) (same st) (l.table st g w);
}
  where
    same : (st : State) → announce_parents (limits_of st) n now hs st.table ≡ announce_parents (limits_of st) n now (hs ++ (h ∷ [])) st.table
    same st = sym (repeat_same (limits_of st) n now hs h st.table e)

module _ {n now kept : ℕ} {hs s₀ u₀ u : List ℕ} {W : State → Table → Type 0} (p : Peer n) (late : now < word) (f : FewHashes hs) (l : Listing n now hs s₀ u₀ u kept W) where
  abbrev after : State → State
  after st = on_table (announce_parents (limits_of st) n now hs st.table).table st

  after-sound : (st : State) → Sound st → Sound (after st)
  after-sound st g = sound-table g (bounded-parents n now hs p late f g.bounded)

  -- a hash that did not occur
  module _ (h : ℕ) (e : elem h hs ≡ false) {W' : State → Table → Type 0} {r : Bool} (a : OneMore n now h (length (dedup hs)) r W W') where
    keys-are : (st : State) → Sound st → Writes s₀ st → (announce_parents (limits_of st) n now (hs ++ (h ∷ [])) st.table).keys ≡ (announce_parents (limits_of st) n now hs st.table).keys ++
        key_if (limits_of st) n now r h
    keys-are st g w =
        new_keys (limits_of st) n now hs h st.table e
        ∙ ap (λ (b : Bool). (announce_parents (limits_of st) n now hs st.table).keys ++ key_if (limits_of st) n now b h) (sym (a.reply st _ (after-sound st g) (l.table st g w)))

    table_is : (st : State) → Sound st → Writes s₀ st → W' st (announce_parents (limits_of st) n now (hs ++ (h ∷ [])) st.table).table
    table_is st g w = subst (W' st) (sym (new_table (limits_of st) n now hs h st.table e)) (a.table st _ (after-sound st g) (l.table st g w))

    listing_left : r ≡ false → Listing n now (hs ++ (h ∷ [])) s₀ u₀ u kept W'
    listing_left q = record {
      count = λ st g w. l.count st g w ∙ ap length (sym (same st g w));
      keys = λ st g w. l.keys st g w ∙ ap (λ (ks : List Key). written (keys_answer ks) u₀) (sym (same st g w));
      table = table_is;
    }
      where
        same : (st : State) → Sound st → Writes s₀ st → (announce_parents (limits_of st) n now (hs ++ (h ∷ [])) st.table).keys ≡ (announce_parents (limits_of st) n now hs st.table).keys
        same st g w = rw q at (keys-are st g w) ∙ append-nil _

    listing_more : {u₁ : List ℕ} → r ≡ true → key_bytes * kept + key_bytes ≤ length u₀ → u₁ ≡ splice u (key_bytes * kept) (key_answer (txid h)) → Listing n now (hs ++ (h ∷ [])) s₀ u₀ u₁ (kept + 1) W'
    listing_more {u₁} q room put = record {
      count = λ st g w. rw (more st g w) (rw length-append (omega (arith, l.count st g w)));
      keys = λ st g w. put ∙ behind _ (l.count st g w) (l.keys st g w) ∙ ap (λ (ks : List Key). written (keys_answer ks) u₀) (sym (more st g w));
      table = table_is;
    }
      where
        more : (st : State) → Sound st → Writes s₀ st → (announce_parents (limits_of st) n now (hs ++ (h ∷ [])) st.table).keys ≡ (announce_parents (limits_of st) n now hs st.table).keys ++
            (txid h ∷ [])
        more st g w = rw q at (keys-are st g w)

        behind : (ks : List Key) → kept ≡ length ks → u ≡ written (keys_answer ks) u₀ → splice u (key_bytes * kept) (key_answer (txid h)) ≡ written (keys_answer (ks ++ (txid h ∷ []))) u₀
        behind ks c d = rw (d, c) (written_more ks (txid h) u₀ (rw c at room))

-- ---- by index

-- the loop's invariant: the first i of the hashes hs are announced
pub record Turned (n now : ℕ) (hs s₀ u₀ u : List ℕ) (kept priority i : ℕ) (W : State → Table → Type 0) : Type 0 where
  pub inside : i ≤ length hs
  pub few : kept ≤ i
  pub low : priority ≤ i
  pub rank : priority ≡ length (dedup (take i hs))
  pub buffer-long : length u ≡ length u₀
  pub listing : Listing n now (take i hs) s₀ u₀ u kept W

pub turned_start : (n now : ℕ) (hs s u : List ℕ) {W : State → Table → Type 0} → ((st : State) → Sound st → Writes s st → W st st.table) → Turned n now hs s u u 0 0 0 W
unfolding dedup
turned_start n now hs s u b = record { inside = omega arith; few = omega arith; low = omega arith; rank = refl; buffer-long = refl; listing = listing_none n now s u b }

pub hashes-take : (i : ℕ) (hs : List ℕ) → Hashes hs → Hashes (take i hs)
hashes-take zero hs a = tt
hashes-take (suc i) [] a = tt
hashes-take (suc i) (h ∷ hs) a = (a.0, hashes-take i hs a.1)

module _ {n now kept priority i : ℕ} {hs s₀ u₀ u : List ℕ} {W : State → Table → Type 0} (v : Turned n now hs s₀ u₀ u kept priority i W) where
  module _ (inside : i < length hs) (x : ℕ) (q : x ≡ get_or hs i 0) where
    grown : take (i + 1) hs ≡ take i hs ++ (x ∷ [])
    grown = rw (add-one i, q) (take-suc hs i 0 inside)

    pub turned_repeat : elem x (take i hs) ≡ true → Turned n now hs s₀ u₀ u kept priority (i + 1) W
    turned_repeat e = record {
      inside = omega arith;
      few = omega (arith, v.few);
      low = omega (arith, v.low);
      rank = v.rank ∙ rw (grown, dedup-met x (take i hs) e);
      buffer-long = v.buffer-long;
      listing = rw grown (listing_repeat n now (take i hs) x e v.listing);
    }

    module _ (p : Peer n) (late : now < word) (f : FewHashes hs) where
      few_first : FewHashes (take i hs)
      few_first = record { hashes = hashes-take i hs f.hashes; few = omega (arith, f.few, length-take-le i hs v.inside) }

      pub turned_sound : (st : State) → Sound st → Sound (on_table (announce_parents (limits_of st) n now (take i hs) st.table).table st)
      turned_sound = after-sound p late few_first v.listing

      asked : {r : Bool} {W' : State → Table → Type 0} → OneMore n now x priority r W W' → OneMore n now x (length (dedup (take i hs))) r W W'
      asked {r} {W'} a = subst (λ (j : ℕ). OneMore n now x j r W W') v.rank a

      module _ (e : elem x (take i hs) ≡ false) where
        next_rank : priority + 1 ≡ length (dedup (take (i + 1) hs))
        next_rank = rw (grown, dedup_new x (take i hs) e, length-append) (omega (arith, v.rank))

        module _ {r : Bool} {W' : State → Table → Type 0} (a : OneMore n now x priority r W W') where
          pub turned_left : r ≡ false → Turned n now hs s₀ u₀ u kept (priority + 1) (i + 1) W'
          turned_left d = record {
            inside = omega arith;
            few = omega (arith, v.few);
            low = omega (arith, v.low);
            rank = next_rank;
            buffer-long = v.buffer-long;
            listing = rw grown (listing_left p late few_first v.listing x e (asked a) d);
          }

          pub turned_more : {u₁ : List ℕ} → r ≡ true → key_bytes * length hs ≤ length u₀ → u₁ ≡ splice u (key_bytes * kept) (key_answer (txid x))
              → Turned n now hs s₀ u₀ u₁ (kept + 1) (priority + 1) (i + 1) W'
          turned_more d room put = record {
            inside = omega arith;
            few = omega (arith, v.few);
            low = omega (arith, v.low);
            rank = next_rank;
            buffer-long = ap length put ∙ length-splice u (key_bytes * kept) (key_answer (txid x)) (omega (arith, v.few, v.buffer-long, length-key_answer (txid x))) ∙ v.buffer-long;
            listing = rw grown (listing_more p late few_first v.listing x e (asked a) d (omega (arith, v.few)) put);
          }

-- ---- what the code says of a hash and of a key

-- a hash that did not occur, as the code answers it
pub absent : {r : Bool} {x y : ℕ} (l : List ℕ) → r ≡ false → r ≡ elem y l → x ≡ y → elem x l ≡ false
absent l t e q = ap (λ (z : ℕ). elem z l) q ∙ sym e ∙ t

-- the parent's key is written, as the code makes it
pub keyed : {k : Key} {h : ℕ} (a : ℕ) (u : List ℕ) {u₁ : List ℕ} → k ≡ txid h → u₁ ≡ splice u a (key_answer k) → u₁ ≡ splice u a (key_answer (txid h))
keyed a u q e = e ∙ ap (λ (j : Key). splice u a (key_answer j)) q

-- ---- where the bytes write the table

-- the same of values that two ways of the code bring together
pub turned_as : {n now kept kept' priority priority' i : ℕ} {hs s₀ s s' u₀ u u' : List ℕ} → s' ≡ s → u' ≡ u → kept' ≡ kept → priority' ≡ priority
    → Turned n now hs s₀ u₀ u kept priority i (written_in s) → Turned n now hs s₀ u₀ u' kept' priority' i (written_in s')
turned_as a b c d v = rw (a, b, c, d) v

pub one_written : {n now h i : ℕ} {s s₁ : List ℕ} {r : Bool} → Answered s s₁ r (λ m t. one_parent m n now h i t) → OneMore n now h i r (written_in s) (written_in s₁)
one_written a = record { reply = λ st t g w. a.reply (on_table t st) g w; table = λ st t g w. a.table (on_table t st) g w }

module _ {n now kept priority i : ℕ} {hs s₀ s u₀ u : List ℕ} (v : Turned n now hs s₀ u₀ u kept priority i (written_in s)) where
  pub turned_kept : i < length hs → Peer n → now < word → FewHashes hs → Kept s₀ → Kept s
  turned_kept inside p late f k = record { state = _; sound = turned_sound v inside _ refl p late f k.state k.sound; writes = v.listing.table k.state k.sound k.writes }
