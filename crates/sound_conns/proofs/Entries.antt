-- The entries of connections by themselves, and a search among them.
use Prim.Native.Nat.{ℕ, zero, suc, ◌+◌, ◌-◌, ◌*◌, ◌≤◌, ◌<◌}
use mathlib.Core.Path.{◌≡◌, refl, sym, ap, ◌∙◌}
use mathlib.Core.Logic.{inl, inr}
use mathlib.Core.List.{List, [], ◌∷◌}
use native.Mathlib.Nat.{le_refl}
use native.Mathlib.Omega.{arith}
use lib.Dec.{eqb}
use lib.ListN.{length, take, drop, get_or}
use lib.Seq.{get_or-take, get_or-drop}
use borrow.Author.Tests.{eqb-true, eqb-false}
use Rattle.words.specs.Words.{recs, Decides}
use Rattle.words.proofs.Records.{length-recs, recs_at}
use Rattle.regions.specs.declared.Conn.{Conn}
use Rattle.regions.specs.Order.{Sorted, Sought}
use Rattle.regions.specs.Rows.{conn_size, read_conn, conn_key}
use Rattle.machine.specs.Limits.{word}
use Rattle.machine.specs.Typed.{Each}
use Rattle.machine.proofs.Tests.{test, order}
use Rattle.store.specs.FlatSound.{ConnFits}
use Rattle.sound_conns.specs.Conns.{Rise, Entries, EntryStep, names, Rising, Low, Place, LastOf, blank, many, most}
use Rattle.sound_rows.proofs.Decide.{Iff, Chain}
use Rattle.regions.specs.contracts.Conn as C
use Rattle.regions.proofs.Conn.TheLaws as C'
use denote.Laws.{Is}
use denote.Struct.Laws as LL
use borrow.Author.Count.{below_more}

-- ---- a walk along the entries

record Behind (p : Conn) (cs : List Conn) : Type 0 where
  rise : Rise (suc p.conn) cs
  fit : Each ConnFits cs

behind : (p : Conn) (cs : List Conn) → Chain EntryStep p cs → Behind p cs
unfolding Chain
behind p [] c = record { rise = tt; fit = tt }
behind p (x ∷ cs) c = let b = behind x cs c.1 in record { rise = (c.0.rise, c.0.held, b.rise); fit = (c.0.fit, b.fit) }

chained : (p : Conn) (cs : List Conn) → Behind p cs → Chain EntryStep p cs
unfolding Chain
chained p [] b = tt
chained p (x ∷ cs) b = (record { rise = b.rise.0; held = b.rise.1; fit = b.fit.0 }, chained x cs (record { rise = b.rise.2; fit = b.fit.1 }))

pub entries_iff : (cs : List Conn) → Iff (Chain EntryStep blank cs) (Entries cs)
entries_iff cs = record {
  to = λ c. let b = behind blank cs c in record { rise = b.rise; fit = b.fit };
  from = λ e. chained blank cs (record { rise = e.rise; fit = e.fit });
}

-- ---- names

module _ (n : ℕ) (w : List ℕ) where
  pub length-names : length (names n w) ≡ n
  length-names = length-recs conn_size conn_key n w

  pub name-word : (i : ℕ) → i < n → get_or (names n w) i 0 ≡ get_or w (i * 3) 0
  name-word i h =
      let e : 3 * i + 0 ≡ i * 3 = omega arith in
      recs_at conn_size conn_key n w i 0 h ∙ get_or-take 3 (drop (3 * i) w) 0 0 (omega arith) ∙ get_or-drop (3 * i) w 0 0 ∙ ap (λ (k : ℕ). get_or w k 0) e

  pub name-entry : (i : ℕ) → i < n → get_or (names n w) i 0 ≡ (get_or (recs conn_size read_conn n w) i blank).conn
  unfolding read_conn
  name-entry i h = recs_at conn_size conn_key n w i 0 h ∙ sym (ap (λ (c : Conn). c.conn) (recs_at conn_size read_conn n w i blank h))

  -- as `is_entry` tests it
  pub is_name : (i x : ℕ) {v : ℕ} → i < n → v ≡ get_or w (i * 3) 0 → Decides (eqb v x) ((i < n) × (get_or (names n w) i 0 ≡ x))
  is_name i x {v} h e = elim (test (eqb v x)) [
    | inl q ↦ rw q (h, name-word i h ∙ sym e ∙ eqb-true v x q)
    | inr q ↦ rw q (λ z. eqb-false v x q (e ∙ sym (name-word i h) ∙ z.1))
  ]

rise_from : (lo : ℕ) (cs : List Conn) → Rise lo cs → (q : ℕ) → q < length cs → lo ≤ (get_or cs q blank).conn
rise_from lo [] t q h = absurd (omega arith)
rise_from lo (c ∷ cs) t zero h = t.0
rise_from lo (c ∷ cs) t (suc q) h = omega (arith, t.0, rise_from (suc c.conn) cs t.2 q (omega arith))

rise-rising : (lo : ℕ) (cs : List Conn) → Rise lo cs → (p q : ℕ) → p < q → q < length cs → (get_or cs p blank).conn < (get_or cs q blank).conn
rise-rising lo [] t p q h l = absurd (omega arith)
rise-rising lo (c ∷ cs) t p zero h l = absurd (omega arith)
rise-rising lo (c ∷ cs) t zero (suc q) h l = rise_from (suc c.conn) cs t.2 q (omega arith)
rise-rising lo (c ∷ cs) t (suc p) (suc q) h l = rise-rising (suc c.conn) cs t.2 p q (omega arith) (omega arith)

pub entries-rising : (n : ℕ) (w : List ℕ) → Entries (recs conn_size read_conn n w) → Rising (names n w)
entries-rising n w e p q h l =
    let m : q < n = rw (length-names n w) at l in
    let g : q < length (recs conn_size read_conn n w) = rw (length-recs conn_size read_conn n w) m in
    rw (name-entry n w p (omega arith), name-entry n w q m) (rise-rising 1 (recs conn_size read_conn n w) e.rise p q h g)

pub entries-positive : (n : ℕ) (w : List ℕ) → Entries (recs conn_size read_conn n w) → (j : ℕ) → j < n → 0 < get_or (names n w) j 0
entries-positive n w e j h =
    let g : j < length (recs conn_size read_conn n w) = rw (length-recs conn_size read_conn n w) h in
    rw (name-entry n w j h) (rise_from 1 (recs conn_size read_conn n w) e.rise j g)

-- a value of the declared type has a connection of 64 bits
pub conn-typed : (c : Conn) → Is C.the_row c (LL.vals C.the_type C'.the_laws c) → c.conn < word
conn-typed c g = (LL.owed C.the_type C'.the_laws c _ g).0.1

-- the first i names are numbers of 64 bits
abbrev pub LowUpto : ℕ → List ℕ → ℕ → Type 0
LowUpto n w i = (k : ℕ) → k < i → get_or (names n w) k 0 ≤ most

pub low_turn : (n : ℕ) (w : List ℕ) (i : ℕ) {c : Conn} → i < n → c ≡ read_conn (take conn_size (drop (conn_size * i) w)) → c.conn < word → LowUpto n w i → LowUpto n w (i + 1)
unfolding read_conn
low_turn n w i {c} h e l f =
    let q : get_or (names n w) i 0 ≡ c.conn = recs_at conn_size conn_key n w i 0 h ∙ sym (ap (λ (c : Conn). c.conn) e) in
    below_more (λ k. get_or (names n w) k 0 ≤ most) i f (omega (arith, q, l))

-- ---- the last entry of a window

rising-sorted : (ks : List ℕ) → Rising ks → Sorted ks
unfolding Sorted
rising-sorted ks r p q h l = elim (order p q) [
  | inl b ↦ native.Mathlib.Nat.le_of_lt (r p q b l)
  | inr (inl b) ↦ rw b (le_refl _)
  | inr (inr b) ↦ absurd (omega arith)
]

pub last_whole : (n : ℕ) (w : List ℕ) (lo : ℕ) → n ≤ lo + many → Low (names n w) → LastOf (names n w) lo many most
last_whole n w lo h b = record {
  upto = λ j m l. b j l;
  past = λ j m l. absurd (omega (arith, length-names n w));
  whole = λ _. refl;
}

pub last_at : (n : ℕ) (w : List ℕ) (lo : ℕ) {x : ℕ} → lo + many < n → Rising (names n w) → x ≡ get_or w ((lo + many - 1) * 3) 0 → LastOf (names n w) lo many x
unfolding Sorted
last_at n w lo {x} h r e =
    let g : x ≡ get_or (names n w) (lo + many - 1) 0 = e ∙ sym (name-word n w (lo + many - 1) (omega arith)) in
    rw g (record {
      upto = λ j m l. rising-sorted (names n w) r j (lo + many - 1) (omega arith) (omega (arith, length-names n w));
      past = λ j m l. r (lo + many - 1) j (omega arith) l;
      whole = λ z. absurd (omega (arith, length-names n w));
    })

-- ---- the search

pub place-absent : (ks : List ℕ) (n x i : ℕ) → length ks ≡ n → Sought ks n x i → ((i < n) × (get_or ks i 0 ≡ x) → ⊥) → Place ks n x n
place-absent ks n x i e s none = record { found = λ h. absurd (omega arith); absent = λ _ r m. gone r m.at m.within m.is }
  where
    gone : Rising ks → (j : ℕ) → j < length ks → get_or ks j 0 ≡ x → ⊥
    gone r j h q = elim (order j i) [
      | inl b ↦ omega (arith, (s.bound (rising-sorted ks r)).below j b)
      | inr (inl b) ↦ none (omega arith, rw b at q)
      | inr (inr b) ↦ omega (arith, (s.bound (rising-sorted ks r)).above i (le_refl i) (omega arith), r i j b h)
    ]

-- for the tactic
pub ruleset last = (last_whole, last_at)

pub ruleset rising = (entries-rising, entries-positive, length-names)
