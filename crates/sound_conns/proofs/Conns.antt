-- The entries are the rows' tally exactly if each has its rows' counts and each row's connection has an entry.
use Prim.Native.Nat.{ℕ, zero, suc, ◌+◌, ◌-◌, ◌≤◌, ◌<◌}
use mathlib.Core.Path.{◌≡◌, sym, ap, ◌∙◌}
use mathlib.Core.Logic.{inl, inr}
use mathlib.Core.Bool.{true}
use mathlib.Core.List.{List, [], ◌∷◌}
use native.Mathlib.Omega.{arith}
use lib.Dec.{ltb, eqb}
use lib.ListN.{length, get_or}
use borrow.Author.Tests.{ltb-true, ltb-false, eqb-true}
use Rattle.words.specs.Words.{recs}
use Rattle.words.proofs.Records.{length-recs}
use Rattle.regions.specs.declared.Row.{Row}
use Rattle.regions.specs.declared.Conn.{Conn}
use Rattle.regions.specs.Rows.{conn_size, read_conn}
use Rattle.machine.specs.Typed.{Each}
use Rattle.machine.proofs.Tests.{test, never}
use Rattle.store.specs.Flat.{own_bit, tally}
use Rattle.store.specs.FlatSound.{RowFits}
use Rattle.store.proofs.Tally as whole
use Rattle.store.proofs.Tally.{bump_tallied}
use Rattle.store.proofs.Certify.{Counted, listed, listed_at, certified, tally-counted, tally-listed}
use Rattle.sound_conns.specs.Conns.{Rise, Entries, Counts, names, Named, Inside, Holds, NamedIn, Tallied, blank, Window, LastOf, many, most, ConnsSound}
use Rattle.sound_rows.proofs.Decide.{Iff, iff_self}
use Rattle.sound_conns.proofs.Entries.{length-names, name-entry, entries-positive}
use Rattle.sound_conns.proofs.Tally.{spent_iff}

-- ---- the tally lists each row's connection

each_to : {A : Type 0} {P Q : A → Type 0} → ((a : A) → P a → Q a) → (l : List A) → Each P l → Each Q l
each_to f [] e = tt
each_to f (a ∷ l) e = (f a e.0, each_to f l e.1)

each_zip : {A : Type 0} {P Q R : A → Type 0} → ((a : A) → P a → Q a → R a) → (l : List A) → Each P l → Each Q l → Each R l
each_zip f [] d e = tt
each_zip f (a ∷ l) d e = (f a d.0 e.0, each_zip f l d.1 e.1)

-- ---- listed and named

record At (cs : List Conn) (x : ℕ) : Type 0 where
  at : ℕ
  within : at < length cs
  is : (get_or cs at blank).conn ≡ x

listed-index : (x : ℕ) (cs : List Conn) → listed x cs ≡ true → At cs x
unfolding listed
listed-index x [] e = never e
listed-index x (c ∷ cs) e = elim (test (eqb x c.conn)) [
  | inl q ↦ record { at = 0; within = omega arith; is = sym (eqb-true x c.conn q) }
  | inr q ↦ let a = listed-index x cs (rw q at e) in record { at = suc a.at; within = omega (arith, a.within); is = a.is }
]

module _ (n : ℕ) (w : List ℕ) where
  named-listed : (x : ℕ) → Named (names n w) x → listed x (recs conn_size read_conn n w) ≡ true
  named-listed x m =
      let h : m.at < n = rw (length-names n w) at m.within in
      listed_at x (recs conn_size read_conn n w) m.at blank (rw (length-recs conn_size read_conn n w) h) (sym (name-entry n w m.at h) ∙ m.is)

  listed-named : (x : ℕ) → listed x (recs conn_size read_conn n w) ≡ true → Named (names n w) x
  listed-named x e =
      let a = listed-index x (recs conn_size read_conn n w) e in
      let h : a.at < n = rw (length-recs conn_size read_conn n w) at a.within in
      record { at = a.at; within = rw (length-names n w) h; is = name-entry n w a.at h ∙ a.is }

-- ---- entries that rise

rise_tallied : (lo : ℕ) (cs : List Conn) → Rise lo cs → whole.Tallied lo cs
rise_tallied lo [] r = tt
rise_tallied lo (c ∷ cs) r = (r.0, r.1, rise_tallied (suc c.conn) cs r.2)

tallied_rise : (lo : ℕ) (cs : List Conn) → whole.Tallied lo cs → Rise lo cs
tallied_rise lo [] r = tt
tallied_rise lo (c ∷ cs) r = (r.0, r.1, tallied_rise (suc c.conn) cs r.2)

tally_from : (rs : List Row) → Each RowFits rs → whole.Tallied 1 (tally rs)
unfolding tally
tally_from [] f = tt
tally_from (r ∷ rs) f = bump_tallied 1 r.conn (own_bit r) (tally rs) f.0.positive (tally_from rs f.1)

pub conns-entries : (rs : List Row) (cs : List Conn) → Each RowFits rs → ConnsSound rs cs → Entries cs
conns-entries rs cs f s = record { rise = tallied_rise 1 cs (rw s.tally (tally_from rs f)); fit = s.fit }

-- ---- a window, and all of them

pub window-as : {ks : List ℕ} {rs : List Row} {cs : List Conn} {done last lo m m' : ℕ} → m ≡ m' → Iff (Window ks rs cs done last lo m) (Window ks rs cs done last lo m')
window-as e = rw e iff_self

module _ (rs : List Row) (c : ℕ) (v : List ℕ) where
  pub window_iff : (done last lo : ℕ) (t : List ℕ) → Tallied (names c v) rs (recs conn_size read_conn c v) done last lo t
      → Iff ((j : ℕ) → j < length t → lo + j < c → get_or t j 0 ≡ 0) (Window (names c v) rs (recs conn_size read_conn c v) done last lo (length t))
  window_iff done last lo t s = record {
    to = λ u. record { counted = λ j h l. (spent_iff rs _ (s.left j h l)).to (u j h (rw (length-recs conn_size read_conn c v) at l)); named = s.named };
    from = λ d. λ j h l. let l' : lo + j < length (recs conn_size read_conn c v) = rw (length-recs conn_size read_conn c v) l in (spent_iff rs _ (s.left j h l')).from (d.counted j h l');
  }

  pub sound-window : (done last lo m : ℕ) → ConnsSound rs (recs conn_size read_conn c v) → Window (names c v) rs (recs conn_size read_conn c v) done last lo m
  sound-window done last lo m s = record {
    counted = λ j h l. let a = each_at (recs conn_size read_conn c v) (lo + j) l (rw s.tally (tally-counted rs)) in record { held = a.held; owned = a.owned };
    named = each_to (λ r e _. named r e) rs (tally-listed rs);
  }
    where
      named : (r : Row) → listed r.conn (tally rs) ≡ true → Named (names c v) r.conn
      named r e = listed-named c v r.conn (ap (listed r.conn) s.tally ∙ e)

      each_at : (cs : List Conn) (j : ℕ) → j < length cs → Each (Counted rs) cs → Counted rs (get_or cs j blank)
      each_at [] j h a = absurd (omega arith)
      each_at (x ∷ cs) zero h a = a.0
      each_at (x ∷ cs) (suc j) h a = each_at cs j (omega arith) a.1

  pub windows_sound : Entries (recs conn_size read_conn c v) → ((j : ℕ) → j < c → Counts rs (get_or (recs conn_size read_conn c v) j blank)) → Each (λ r. Named (names c v) r.conn) rs
      → ConnsSound rs (recs conn_size read_conn c v)
  windows_sound e k m = record {
    tally = certified rs cs (whole.tallied_weaken 0 1 cs (omega arith) (rise_tallied 1 cs e.rise))
        (each_from cs (λ j h. let a = k j (rw (length-recs conn_size read_conn c v) at h) in record { held = a.held; owned = a.owned })) (each_to (λ r n. named-listed c v r.conn n) rs m);
    fit = e.fit;
  }
    where
      cs : List Conn
      cs = recs conn_size read_conn c v

      each_from : (l : List Conn) → ((j : ℕ) → j < length l → Counted rs (get_or l j blank)) → Each (Counted rs) l
      each_from [] f = tt
      each_from (x ∷ l) f = (f 0 (omega arith), each_from l (λ j h. f (suc j) (omega arith)))

  -- the entries before hi have their counts
  abbrev pub CountedTo : ℕ → Type 0
  CountedTo hi = (j : ℕ) → j < hi → j < c → Counts rs (get_or (recs conn_size read_conn c v) j blank)

  pub counted_turn : (done last lo m : ℕ) → CountedTo lo → Window (names c v) rs (recs conn_size read_conn c v) done last lo m → CountedTo (lo + m)
  counted_turn done last lo m k w j h l = elim (test (ltb j lo)) [
    | inl b ↦ k j (ltb-true j lo b) l
    | inr b ↦ let g : lo + (j - lo) ≡ j = omega (arith, ltb-false j lo b) in
        rw g at (w.counted (j - lo) (omega (arith, ltb-false j lo b)) (rw (length-recs conn_size read_conn c v, g) l))
  ]

  -- the connections that are not above done have their entries
  abbrev pub DoneTo : ℕ → Type 0
  DoneTo done = Each (λ r. r.conn ≤ done → Named (names c v) r.conn) rs

  pub done_start : Each RowFits rs → DoneTo 0
  done_start f = each_to (λ r p h. absurd (omega (arith, p.positive))) rs f

  pub done_turn : (done last : ℕ) → DoneTo done → NamedIn (names c v) done last rs → DoneTo last
  done_turn done last d m = each_zip turn rs d m
    where
      turn : (r : Row) → (r.conn ≤ done → Named (names c v) r.conn) → (Inside done last r.conn → Named (names c v) r.conn) → r.conn ≤ last → Named (names c v) r.conn
      turn r p q h = elim (test (ltb done r.conn)) [
        | inl b ↦ q (ltb-true done r.conn b, h)
        | inr b ↦ p (ltb-false done r.conn b)
      ]

  pub done_end : Each RowFits rs → DoneTo most → Each (λ r. Named (names c v) r.conn) rs
  done_end f d = each_zip (λ r p q. q (omega (arith, p.conn))) rs f d

  pub few_iff : (m : ℕ) → c ≤ m → Each RowFits rs → Entries (recs conn_size read_conn c v) → Iff (Window (names c v) rs (recs conn_size read_conn c v) 0 most 0 m)
      (ConnsSound rs (recs conn_size read_conn c v))
  few_iff m h f e = record {
    to = λ w. windows_sound e (λ j l. counted_turn 0 most 0 m (λ i b. absurd (omega arith)) w j (omega arith) l) (done_end f (done_turn 0 most (done_start f) w.named));
    from = sound-window 0 most 0 m;
  }

  -- the entries before lo are those up to done, and have their counts
  pub record Walked (done lo : ℕ) : Type 0 where
    pub counted : CountedTo lo
    pub named : Each RowFits rs → DoneTo done
    pub above : (j : ℕ) → lo ≤ j → j < c → done < get_or (names c v) j 0
    pub ended : c ≤ lo → done ≡ most

  pub walked_start : Entries (recs conn_size read_conn c v) → 0 < c → Walked 0 0
  walked_start e h = record {
    counted = λ j l. absurd (omega arith);
    named = done_start;
    above = λ j l m. entries-positive c v e j m;
    ended = λ l. absurd (omega arith);
  }

  module _ {done lo last : ℕ} (w : Walked done lo) (l : LastOf (names c v) lo many last) where
    pub walked_holds : Holds done last (names c v) lo many
    walked_holds j h m = (w.above (lo + j) (omega arith) (rw (length-names c v) at m), l.upto (lo + j) (omega arith) m)

    pub walked_turn : Window (names c v) rs (recs conn_size read_conn c v) done last lo many → Walked last (lo + many)
    walked_turn o = record {
      counted = counted_turn done last lo many w.counted o;
      named = λ f. done_turn done last (w.named f) o.named;
      above = λ j h m. l.past j h (rw (length-names c v) m);
      ended = λ h. l.whole (rw (length-names c v) h);
    }

  pub walked_end : {done lo : ℕ} → Walked done lo → c ≤ lo → Each RowFits rs → Entries (recs conn_size read_conn c v) → ConnsSound rs (recs conn_size read_conn c v)
  walked_end w h f e = windows_sound e (λ j l. w.counted j (omega arith) l) (done_end f (rw (w.ended h) at (w.named f)))

-- for the tactic
pub ruleset walking = (conns-entries, walked_start, walked_holds, walked_end)
