-- The rows of Txid keys come first, then those of Wtxid keys, and in each half the hashes do not fall.
use Prim.Native.Nat.{ℕ, suc, ◌+◌, ◌-◌, ◌≤◌, ◌<◌}
use mathlib.Core.Path.{◌≡◌, refl, sym, ap, subst, ◌∙◌}
use mathlib.Core.Logic.{inl, inr}
use mathlib.Core.List.{List, [], ◌∷◌, ◌++◌, map}
use native.Mathlib.Nat.{le_refl}
use native.Mathlib.Omega.{arith}
use lib.Dec.{leb, lit<}
use lib.ListN.{length}
use borrow.Author.Tests.{leb-true}
use Rattle.ident.specs.declared.Kind.{Kind}
use Rattle.ident.specs.declared.Kind.TheVariants.{Txid, Wtxid}
use Rattle.ident.specs.Number.{top, Key, base, place, txid}
use Rattle.ident.proofs.Places.{is-wtxid}
use Rattle.words.specs.Words.{number}
use Rattle.regions.specs.declared.Row.{Row}
use Rattle.regions.specs.declared.Key.{Key as RowKey}
use Rattle.regions.specs.Regions.{each}
use Rattle.regions.specs.Order.{Bound}
use Rattle.regions.specs.Rows.{key_number}
use Rattle.machine.specs.State.{Candidate, Request, Table, State}
use Rattle.machine.specs.Table.{at, keys}
use Rattle.machine.specs.Sound.{Lawful, Filled, Ordered, All, Sound}
use Rattle.machine.specs.Owners.{or_holding, holding_at, keys_up_to}
use Rattle.machine.proofs.Tests.{test}
use Rattle.store.specs.Flat.{row_of, rows_for, rows_of, flat_of}
use Rattle.store.specs.Gather.{gather}
use Rattle.store.specs.Shown.{rows_in, row_numbers, Seek}
use Rattle.store.proofs.Frame.{sizes}
use Rattle.store.proofs.Bits.{key_row}
use Rattle.store.proofs.Split.{above, above_ordered, each_append, rows_below}
use Rattle.requests.proofs.Keeping.{rows_in_order, to_at}
use Rattle.announcing.specs.Evicts.{part}
use Rattle.sweeping.specs.Batches.{keys_over}
use Rattle.sweeping.proofs.Rounds.{up_to, split, ordered_up, all_up, all_above, lower, upper, keys-rows}
use Rattle.owners.specs.Walk.{row_hash, holding_over, Rises, Parted, Halves}
use Rattle.owners.proofs.Rows.{over_append, rises_from}
use Rattle.owners.proofs.Tables.{table-names}

-- ---- hashes that do not fall

rises_for : (lo : ℕ) (q : Request) (cs : List Candidate) (rs : List Row) → lo ≤ q.key.hash → Rises q.key.hash rs → Rises lo (map (row_of q) cs ++ rs)
rises_for lo q [] rs l a = rises_from q.key.hash lo rs l a
rises_for lo q (c ∷ cs) rs l a =
    let e : q.key.hash ≡ row_hash (row_of q c) = ap (λ (k : Key). k.hash) (sym (key_row q c)) in
    subst (λ (x : ℕ). (lo ≤ x) × Rises x (map (row_of q) cs ++ rs)) e (l, rises_for q.key.hash q cs rs (le_refl _) a)

ordered_from : (lo lo' : ℕ) (t : Table) → lo' ≤ lo → Ordered lo t → Ordered lo' t
ordered_from lo lo' [] h o = tt
ordered_from lo lo' (q ∷ t) h o = (omega (arith, o.0), o.1, o.2)

abbrev AllOf : Kind → Table → Type 0
AllOf k t = All (λ (q : Request). q.key.kind ≡ k) t

rises-table : (k : Kind) (lo : ℕ) (t : Table) → Ordered (base k + lo) t → AllOf k t → Rises lo (rows_of t)
unfolding each rows_for
rises-table k lo [] o a = tt
rises-table k lo (q ∷ t) o a =
    let e : place q.key ≡ base k + q.key.hash = ap (λ (x : Kind). base x + q.key.hash) a.0 in
    rises_for lo q q.candidates (rows_of t) (omega (arith, o.0, e)) (rises-table k q.key.hash t (ordered_from (suc (place q.key)) (base k + q.key.hash) t (omega (arith, e)) o.2) a.1)

-- ---- the halves

is-txid : (k : Kind) (h : ℕ) → base k + h < top → k ≡ Txid
is-txid Txid h l = refl
is-txid Wtxid h l = absurd (omega arith)

txids_up : (k : Key) (t : Table) → place k < top → AllOf Txid (up_to k t)
unfolding up_to
txids_up k [] l = tt
txids_up k (q ∷ t) l = elim (test (leb (place q.key) (place k))) [
  | inl e ↦ rw e (is-txid q.key.kind q.key.hash (omega (arith, leb-true (place q.key) (place k) e)), txids_up k t l)
  | inr e ↦ rw e tt
]

wtxids_from : (lo : ℕ) (t : Table) → top ≤ lo → Ordered lo t → AllOf Wtxid t
wtxids_from lo [] l o = tt
wtxids_from lo (q ∷ t) l o = (is-wtxid q.key.kind q.key.hash o.1 (omega (arith, o.0)), wtxids_from (suc (place q.key)) t (omega (arith, o.0)) o.2)

up_tables : (g : ℕ) (a b : Table) → keys_up_to g (keys a) + keys_up_to g (keys b) ≡ keys_up_to g (keys (a ++ b))
unfolding keys_up_to keys
up_tables g [] b = omega arith
up_tables g (q ∷ a) b = omega (arith, up_tables g a b)

-- the least Wtxid key, as rows have it
abbrev pub first_wtxid : RowKey
first_wtxid = record { kind = Wtxid; hash = record { w0 = 0; w1 = 0; w2 = 0; w3 = 0 } }

first_top : key_number first_wtxid ≡ top
unfolding key_number number top
first_top = refl

top_some : 0 < top
unfolding top
top_some = lit< tt

-- the greatest Txid key
abbrev last_key : Key
last_key = txid (top - 1)

module _ (st : State) (s : Sound st) {m n : ℕ} (long : n ≡ length (rows_of st.table)) (b : Bound (row_numbers (rows_of st.table)) top m) where
  abbrev t : Table
  t = st.table

  o : Ordered 0 t
  o = s.bounded.ordered

  at_is : m ≡ length (rows_below last_key t ++ rows_for (at last_key t))
  at_is =
      let x : top - 1 ≡ place last_key = omega arith in
      let e : top ≡ top - 1 + 1 = omega (arith, top_some) in
      to_at st s last_key (omega (arith, top_some)) x (subst (λ (y : ℕ). Bound (row_numbers (rows_of st.table)) y m) e b)

  low : part 0 m (rows_of t) ≡ rows_of (up_to last_key t)
  low = lower t o s.bounded.lawful s.bounded.filled long last_key at_is

  high : part m n (rows_of t) ≡ rows_of (above last_key t)
  high = upper t o s.bounded.lawful s.bounded.filled long last_key at_is

  halves : rows_of t ≡ rows_of (up_to last_key t) ++ rows_of (above last_key t)
  halves = ap rows_of (split last_key t) ∙ each_append rows_for (up_to last_key t) (above last_key t)

  low-keys : keys_over 0 m (rows_of t) ≡ keys (up_to last_key t)
  low-keys = ap (λ (rs : List Row). keys (gather rs)) low ∙ keys-rows 0 (up_to last_key t) (ordered_up last_key 0 t o) (all_up Lawful last_key t s.bounded.lawful)
      (all_up Filled last_key t s.bounded.filled)

  high-keys : keys_over m n (rows_of t) ≡ keys (above last_key t)
  high-keys = ap (λ (rs : List Row). keys (gather rs)) high ∙ keys-rows _ (above last_key t) (above_ordered last_key 0 t o) (all_above Lawful last_key t s.bounded.lawful)
      (all_above Filled last_key t s.bounded.filled)

  after_last : Ordered top (above last_key t)
  after_last = ordered_from (suc (place last_key)) top (above last_key t) (omega (arith, top_some)) (above_ordered last_key 0 t o)

  pub parted : Parted t m n
  unfolding holding_at
  parted = record {
    txids = subst (Rises 0) (sym low) (rises-table Txid 0 (up_to last_key t) (ordered_up last_key 0 t o) (txids_up last_key t (omega (arith, top_some))));
    wtxids = subst (Rises 0) (sym high) (rises-table Wtxid 0 (above last_key t) (ordered_from top (top + 0) (above last_key t) (omega arith) after_last)
        (wtxids_from top (above last_key t) (le_refl top) after_last));
    owner = λ h l. (λ i. or_holding (holding_over h (low i)) (holding_over h (high i))) ∙ sym (over_append h (rows_of (up_to last_key t)) (rows_of (above last_key t)))
        ∙ ap (holding_over h) (sym halves)
        ∙ table-names h l 0 t o s.bounded.lawful;
    keys-are = λ g. (λ i. keys_up_to g (low-keys i) + keys_up_to g (high-keys i)) ∙ up_tables g (up_to last_key t) (above last_key t)
        ∙ ap (λ (x : Table). keys_up_to g (keys x)) (sym (split last_key t));
  }

pub parts : {b : List ℕ} {m : ℕ} → Seek b (λ f. row_numbers f.rows) (rows_in b) (key_number first_wtxid) m → Halves b m
parts {m = m} q = record {
  most = q.most;
  is = λ st s w. parted st s (sizes w).rows (subst (λ (y : ℕ). Bound (row_numbers (rows_of st.table)) y m) first_top (q.bound (flat_of st) w (rows_in_order st s)));
}
