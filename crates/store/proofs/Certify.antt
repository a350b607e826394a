-- The tally's counts are those of the rows, and a list of connections whose counts are right is the tally.
use Prim.Native.Nat.{ℕ, zero, suc, ◌+◌, ◌≤◌, ◌<◌}
use mathlib.Core.Path.{◌≡◌, refl, sym, ap, ◌∙◌}
use mathlib.Core.Logic.{inl, inr}
use mathlib.Core.Bool.{Bool, true, false, ◌&&◌, ◌||◌, and-true}
use mathlib.Core.List.{List, [], ◌∷◌}
use native.Mathlib.Omega.{arith}
use lib.Dec.{eqb}
use lib.ListN.{length, get_or}
use borrow.Author.Tests.{eqb-true, eqb-false, eq-eqb, ne_eqb}
use Rattle.std.specs.Prelude.{if◌then◌else◌}
use Rattle.machine.specs.Table.{one}
use Rattle.machine.specs.Typed.{Each}
use Rattle.machine.proofs.Tests.{test, never, order}
use Rattle.regions.specs.declared.Row.{Row}
use Rattle.regions.specs.declared.Conn.{Conn}
use Rattle.store.specs.Flat.{own_bit, bump, tally}
use Rattle.store.specs.FlatSound.{count_rows, owns}
use Rattle.store.proofs.Tally.{fresh, more, bump-nil, bump-lt, bump-eq, bump_gt, Tallied, tally_tallied}
use Rattle.store.proofs.Counts.{rows_same, eqb-sym}

-- how many rows a connection has, and how many of them own their request
abbrev pub held_rows : ℕ → List Row → ℕ
held_rows n rs = count_rows (λ r. eqb r.conn n) rs

abbrev pub owned_rows : ℕ → List Row → ℕ
owned_rows n rs = count_rows (λ r. eqb r.conn n && owns r) rs

-- the value v (`held` or `owned`) of a connection's entry, 0 if it has none
unfoldable pub value_of : (Conn → ℕ) → ℕ → List Conn → ℕ
value_of v x [] = 0
value_of v x (c ∷ cs) = if eqb x c.conn then v c else value_of v x cs

value_here : (v : Conn → ℕ) (c : Conn) (cs : List Conn) → value_of v c.conn (c ∷ cs) ≡ v c
unfolding value_of
value_here v c cs = rw (eq-eqb c.conn c.conn refl)

value_past : (v : Conn → ℕ) (x : ℕ) (c : Conn) (cs : List Conn) → (x ≡ c.conn → ⊥) → value_of v x (c ∷ cs) ≡ value_of v x cs
unfolding value_of
value_past v x c cs n = rw (ne_eqb x c.conn n)

-- none below where the list starts
value_below : (v : Conn → ℕ) (x lo : ℕ) (cs : List Conn) → Tallied lo cs → x < lo → value_of v x cs ≡ 0
unfolding value_of
value_below v x lo [] t h = refl
value_below v x lo (c ∷ cs) t h = rw (ne_eqb x c.conn (λ e. omega (arith, t.0))) (value_below v x _ cs t.2 (omega (arith, t.0)))

-- ---- lists that ascend are the same if their values are

conn_same : (c d : Conn) {a b : List Conn} → c.conn ≡ d.conn → c.held ≡ d.held → c.owned ≡ d.owned → a ≡ b → c ∷ a ≡ d ∷ b
conn_same c d {a} {b} e f g h =
    let q : ◌≡◌ {A = Conn} (record { conn = c.conn; held = c.held; owned = c.owned }) (record { conn = d.conn; held = d.held; owned = d.owned }) = rw (e, f, g) in
    ap (λ (l : List Conn). c ∷ l) h ∙ ap (λ (x : Conn). x ∷ b) q

-- the first of one list is in the other
present : (c : Conn) (a b : List Conn) → 0 < c.held → ((x : ℕ) → value_of (λ c. c.held) x (c ∷ a) ≡ value_of (λ c. c.held) x b) → 0 < value_of (λ c. c.held) c.conn b
present c a b p h = rw (← (h c.conn), value_here (λ c. c.held) c a) p

-- past the first of both
past : (v : Conn → ℕ) (c d : Conn) (a b : List Conn) → c.conn ≡ d.conn → Tallied (suc c.conn) a → Tallied (suc d.conn) b
    → ((x : ℕ) → value_of v x (c ∷ a) ≡ value_of v x (d ∷ b)) → (x : ℕ) → value_of v x a ≡ value_of v x b
past v c d a b e s t h x =
    elim (test (eqb x c.conn)) [
      | inl q ↦ let q' = eqb-true x c.conn q in value_below v x _ a s (omega arith) ∙ sym (value_below v x _ b t (omega arith))
      | inr q ↦ let n = eqb-false x c.conn q in sym (value_past v x c a n) ∙ h x ∙ value_past v x d b (λ z. n (z ∙ sym e))
    ]

pub tallied_same : (lo : ℕ) (a b : List Conn) → Tallied lo a → Tallied lo b
    → ((x : ℕ) → value_of (λ c. c.held) x a ≡ value_of (λ c. c.held) x b) → ((x : ℕ) → value_of (λ c. c.owned) x a ≡ value_of (λ c. c.owned) x b) → a ≡ b
unfolding value_of
tallied_same lo [] [] s t h o = refl
tallied_same lo [] (d ∷ b) s t h o = absurd (omega (arith, present d b [] t.1 (λ x. sym (h x))))
tallied_same lo (c ∷ a) [] s t h o = absurd (omega (arith, present c a [] s.1 h))
tallied_same lo (c ∷ a) (d ∷ b) s t h o =
    elim (order c.conn d.conn) [
      | inl l ↦ absurd (omega (arith, present c a (d ∷ b) s.1 h, value_below (λ c. c.held) c.conn d.conn (d ∷ b) (omega arith, t.1, t.2) l))
      | inr (inl e) ↦
          let held : c.held ≡ d.held = sym (value_here (λ c. c.held) c a) ∙ h c.conn ∙ ap (λ (x : ℕ). value_of (λ c. c.held) x (d ∷ b)) e ∙ value_here (λ c. c.held) d b in
          let owned : c.owned ≡ d.owned = sym (value_here (λ c. c.owned) c a) ∙ o c.conn ∙ ap (λ (x : ℕ). value_of (λ c. c.owned) x (d ∷ b)) e ∙ value_here (λ c. c.owned) d b in
          let rest = tallied_same (suc c.conn) a b s.2 (rw (← e) at t.2) (past (λ c. c.held) c d a b e s.2 t.2 h) (past (λ c. c.owned) c d a b e s.2 t.2 o) in
          conn_same c d e held owned rest
      | inr (inr l) ↦ absurd (omega (arith, present d b (c ∷ a) t.1 (λ x. sym (h x)), value_below (λ c. c.held) d.conn c.conn (c ∷ a) (omega arith, s.1, s.2) l))
    ]

-- ---- the tally's counts

bump-value : (v : Conn → ℕ) (n o k : ℕ) → v (fresh n o) ≡ k → ((c : Conn) → v (more o c) ≡ v c + k) → (lo : ℕ) (cs : List Conn) → Tallied lo cs
    → (x : ℕ) → value_of v x (bump n o cs) ≡ (if eqb x n then k else 0) + value_of v x cs
unfolding value_of
bump-value v n o k f m lo [] t x = rw bump-nil (elim (test (eqb x n)) [ inl q ↦ rw q (omega arith) | inr q ↦ rw q ])
bump-value v n o k f m lo (c ∷ cs) t x =
    elim (order n c.conn) [
      | inl b ↦ rw (bump-lt n o c cs b) (elim (test (eqb x n)) [
        | inl q ↦ let z = value_below v x c.conn (c ∷ cs) (omega arith, t.1, t.2) (omega (arith, eqb-true x n q)) in rw q (omega arith)
        | inr q ↦ rw q (omega arith)
      ])
      | inr (inl b) ↦ rw (bump-eq n o c cs b, b) (elim (test (eqb x c.conn)) [
        | inl q ↦ rw q (omega (arith, m c))
        | inr q ↦ rw q (omega arith)
      ])
      | inr (inr b) ↦ rw (bump_gt n o c cs b) (elim (test (eqb x c.conn)) [
        | inl q ↦ rw (q, ne_eqb x n (λ e. omega (arith, eqb-true x c.conn q))) (omega arith)
        | inr q ↦ rw q (bump-value v n o k f m _ cs t.2 x)
      ])
    ]

own_one : (n : ℕ) → n ≤ 1 → n ≡ one (eqb n 1)
own_one zero h = refl
own_one (suc zero) h = refl
own_one (suc (suc n)) h = absurd (omega arith)

pub own-bit : (r : Row) → own_bit r ≡ one (owns r)
own-bit r = own_one (own_bit r) (omega arith)

held_step : (b : Bool) → (if b then 1 else 0) ≡ one b
held_step true = refl
held_step false = refl

owned_step : (b : Bool) (r : Row) → (if b then own_bit r else 0) ≡ one (b && owns r)
owned_step true r = own-bit r
owned_step false r = refl

pub held_value : (rs : List Row) (x : ℕ) → value_of (λ c. c.held) x (tally rs) ≡ held_rows x rs
unfolding tally count_rows value_of
held_value [] x = refl
held_value (r ∷ rs) x =
    bump-value (λ c. c.held) r.conn (own_bit r) 1 refl (λ c. refl) 0 (tally rs) (tally_tallied rs) x
    ∙ rw (held_value rs x, eqb-sym x r.conn, held_step (eqb r.conn x))

pub owned_value : (rs : List Row) (x : ℕ) → value_of (λ c. c.owned) x (tally rs) ≡ owned_rows x rs
unfolding tally count_rows value_of
owned_value [] x = refl
owned_value (r ∷ rs) x =
    bump-value (λ c. c.owned) r.conn (own_bit r) (own_bit r) refl (λ c. refl) 0 (tally rs) (tally_tallied rs) x
    ∙ rw (owned_value rs x, eqb-sym x r.conn, owned_step (eqb r.conn x) r)

-- ---- certified

-- an entry has its connection's counts
pub record Counted (rs : List Row) (c : Conn) : Type 0 where
  pub held : c.held ≡ held_rows c.conn rs
  pub owned : c.owned ≡ owned_rows c.conn rs

unfoldable pub listed : ℕ → List Conn → Bool
listed n [] = false
listed n (c ∷ cs) = eqb n c.conn || listed n cs

pub listed_at : (n : ℕ) (cs : List Conn) (i : ℕ) (d : Conn) → i < length cs → (get_or cs i d).conn ≡ n → listed n cs ≡ true
unfolding listed
listed_at n [] i d h e = absurd (omega arith)
listed_at n (c ∷ cs) zero d h e = rw (eq-eqb n c.conn (sym e))
listed_at n (c ∷ cs) (suc i) d h e = elim (test (eqb n c.conn)) [ inl q ↦ rw q | inr q ↦ rw q (listed_at n cs i d (omega arith) e) ]

-- a connection that is in no entry has no row
none_held : (n : ℕ) (cs : List Conn) (rs : List Row) → listed n cs ≡ false → Each (λ r. listed r.conn cs ≡ true) rs → (p : Row → Bool) → count_rows (λ r. eqb r.conn n && p r) rs ≡ 0
unfolding count_rows
none_held n cs [] h e p = refl
none_held n cs (r ∷ rs) h e p =
    rw (ne_eqb r.conn n (λ z. never (sym h ∙ ap (λ (m : ℕ). listed m cs) (sym z) ∙ e.0))) (omega (arith, none_held n cs rs h e.1 p))

-- the value that a list's entry gives is the rows' count
value-counted : (v : Conn → ℕ) (f : ℕ → ℕ) (x : ℕ) (cs : List Conn) → Each (λ c. v c ≡ f c.conn) cs → (listed x cs ≡ false → f x ≡ 0) → value_of v x cs ≡ f x
unfolding value_of listed
value-counted v f x [] e n = sym (n refl)
value-counted v f x (c ∷ cs) e n =
    elim (test (eqb x c.conn)) [
      | inl q ↦ rw q (e.0 ∙ ap f (sym (eqb-true x c.conn q)))
      | inr q ↦ rw q (value-counted v f x cs e.1 (λ z. n (rw q z)))
    ]

each_held : (rs : List Row) (cs : List Conn) → Each (Counted rs) cs → Each (λ c. c.held ≡ held_rows c.conn rs) cs
each_held rs [] e = tt
each_held rs (c ∷ cs) e = (e.0.held, each_held rs cs e.1)

each_owned : (rs : List Row) (cs : List Conn) → Each (Counted rs) cs → Each (λ c. c.owned ≡ owned_rows c.conn rs) cs
each_owned rs [] e = tt
each_owned rs (c ∷ cs) e = (e.0.owned, each_owned rs cs e.1)

-- so a test may count rows for each entry, and look each row's connection up
pub certified : (rs : List Row) (cs : List Conn) → Tallied 0 cs → Each (Counted rs) cs → Each (λ r. listed r.conn cs ≡ true) rs → cs ≡ tally rs
certified rs cs t e l = tallied_same 0 cs (tally rs) t (tally_tallied rs) (λ x. held x ∙ sym (held_value rs x)) (λ x. owned x ∙ sym (owned_value rs x))
  where
    held : (x : ℕ) → value_of (λ c. c.held) x cs ≡ held_rows x rs
    held x = value-counted (λ c. c.held) (λ x. held_rows x rs) x cs (each_held rs cs e) (λ z. sym (true_and x rs) ∙ none_held x cs rs z l (λ r. true))
      where
        true_and : (x : ℕ) (rs : List Row) → count_rows (λ r. eqb r.conn x && true) rs ≡ held_rows x rs
        true_and x rs = rows_same _ _ rs (λ r. and-true (eqb r.conn x))

    owned : (x : ℕ) → value_of (λ c. c.owned) x cs ≡ owned_rows x rs
    owned x = value-counted (λ c. c.owned) (λ x. owned_rows x rs) x cs (each_owned rs cs e) (λ z. none_held x cs rs z l owns)

-- and the tally passes such a test
value-own : (v : Conn → ℕ) (f : ℕ → ℕ) (lo : ℕ) (cs : List Conn) → Tallied lo cs → ((x : ℕ) → lo ≤ x → value_of v x cs ≡ f x) → Each (λ c. v c ≡ f c.conn) cs
value-own v f lo [] t h = tt
value-own v f lo (c ∷ cs) t h =
    (sym (value_here v c cs) ∙ h c.conn t.0, value-own v f (suc c.conn) cs t.2 (λ x l. sym (value_past v x c cs (λ z. omega arith)) ∙ h x (omega (arith, t.0))))

pub tally-counted : (rs : List Row) → Each (Counted rs) (tally rs)
tally-counted rs = both (tally rs) (value-own (λ c. c.held) (λ x. held_rows x rs) 0 (tally rs) (tally_tallied rs) (λ x l. held_value rs x))
    (value-own (λ c. c.owned) (λ x. owned_rows x rs) 0 (tally rs) (tally_tallied rs) (λ x l. owned_value rs x))
  where
    both : (cs : List Conn) → Each (λ c. c.held ≡ held_rows c.conn rs) cs → Each (λ c. c.owned ≡ owned_rows c.conn rs) cs → Each (Counted rs) cs
    both [] a b = tt
    both (c ∷ cs) a b = (record { held = a.0; owned = b.0 }, both cs a.1 b.1)

value-listed : (v : Conn → ℕ) (x : ℕ) (cs : List Conn) → 0 < value_of v x cs → listed x cs ≡ true
unfolding value_of listed
value-listed v x [] h = absurd (omega arith)
value-listed v x (c ∷ cs) h = elim (test (eqb x c.conn)) [ inl q ↦ rw q | inr q ↦ rw q (value-listed v x cs (rw q at h)) ]

some_row : (rs : List Row) → Each (λ r. 0 < held_rows r.conn rs) rs
unfolding count_rows
some_row [] = tt
some_row (r ∷ rs) = (rw (eq-eqb r.conn r.conn refl) (omega arith), later rs (some_row rs))
  where
    later : (qs : List Row) → Each (λ q. 0 < held_rows q.conn rs) qs → Each (λ q. 0 < held_rows q.conn (r ∷ rs)) qs
    later [] e = tt
    later (q ∷ qs) e = (omega (arith, e.0), later qs e.1)

pub tally-listed : (rs : List Row) → Each (λ r. listed r.conn (tally rs) ≡ true) rs
tally-listed rs = go rs (some_row rs)
  where
    go : (qs : List Row) → Each (λ r. 0 < held_rows r.conn rs) qs → Each (λ r. listed r.conn (tally rs) ≡ true) qs
    go [] e = tt
    go (q ∷ qs) e = (value-listed (λ c. c.held) q.conn (tally rs) (rw (held_value rs q.conn) e.0), go qs e.1)
