-- Hashes, rows and entries of connections, read and written as the code does it.
use Prim.Native.Nat.{ℕ, ◌+◌, ◌*◌, ◌%◌, ◌≤◌, ◌<◌}
use mathlib.Core.Path.{◌≡◌, refl, sym, ◌∙◌}
use mathlib.Core.Bool.{true, false}
use borrow.Author.Tests.{eqb-true, eqb-false}
use Rattle.std.specs.Prelude as std
use Rattle.std.specs.Prelude.{None, Some}
use Rattle.std.specs.Option.{MatchOption}
use Rattle.regions.specs.Order.{FoundFirst}
use mathlib.Core.List.{List, append_assoc}
use native.Mathlib.Nat.{add-zero, mul_comm}
use native.Mathlib.Numerals.{towards_suc}
use native.Mathlib.Omega.{arith}
use lib.Dec.{lit<, eqb}
use lib.ListN.{length, take, drop, get_or, set}
use lib.Seq.{sets-eq, get_or-drop, get_or-take}
use Rattle.ident.specs.declared.Kind.{Kind}
use Rattle.ident.specs.Number.{kind_is}
use Rattle.words.specs.Words.{splice, recs}
use Rattle.words.proofs.Records.{recs_at}
use Rattle.regions.specs.declared.Quad.{Quad}
use Rattle.regions.specs.declared.Row.{Row}
use Rattle.regions.specs.declared.Key.{Key}
use Rattle.regions.specs.declared.Conn.{Conn}
use Rattle.regions.specs.Rows.{row_size, conn_size, quad_words, read_quad, row_words, read_row, key_of, row_key, row_conn, conn_words, read_conn, conn_key}

-- ---- four words

pub quad_written : (w : List ℕ) {w1 w2 w3 w4 : List ℕ} (a : ℕ) (q : Quad) → a + 4 ≤ length w
    → w1 ≡ set w a q.w0 → w2 ≡ set w1 (a + 1) q.w1 → w3 ≡ set w2 (a + 2) q.w2 → w4 ≡ set w3 (a + 3) q.w3 → w4 ≡ splice w a (quad_words q)
unfolding splice
quad_written w a q h p1 p2 p3 p4 =
    rw (p4, p3, p2, p1) (simp towards_suc (simp towards_suc at (sets-eq (quad_words q) w a h ∙ append_assoc (take a w) (quad_words q) (drop (a + 4) w))))

-- ---- records of words, each at its place

module _ (w : List ℕ) (k i : ℕ) where
  word_in : (j : ℕ) → j < k → get_or (take k (drop (k * i) w)) j 0 ≡ get_or w (i * k + j) 0
  word_in j h = rw (get_or-take k (drop (k * i) w) j 0 h, get_or-drop (k * i) w j 0, mul_comm k i)

pub row_read : (w : List ℕ) (a : ℕ) {hash : Quad} {conn ready prio deadline bits : ℕ}
    → hash ≡ read_quad (drop a w) → conn ≡ get_or w (a + 4) 0 → ready ≡ get_or w (a + 5) 0 → prio ≡ get_or w (a + 6) 0 → deadline ≡ get_or w (a + 7) 0 → bits ≡ get_or w (a + 8) 0
    → ◌≡◌ {A = Row} (record { hash = hash; conn = conn; ready = ready; prio = prio; deadline = deadline; bits = bits }) (read_row (drop a w))
unfolding read_row
row_read w a p p4 p5 p6 p7 p8 = rw (p, p4, p5, p6, p7, p8) (simp get_or-drop)

pub conn_read : (w : List ℕ) (a : ℕ) {conn held owned : ℕ} → conn ≡ get_or w a 0 → held ≡ get_or w (a + 1) 0 → owned ≡ get_or w (a + 2) 0
    → ◌≡◌ {A = Conn} (record { conn = conn; held = held; owned = owned }) (read_conn (drop a w))
unfolding read_conn
conn_read w a p0 p1 p2 = rw (p0, p1, p2) (simp (get_or-drop, add-zero))

pub row_written : (w : List ℕ) {w0 w1 w2 w3 w4 w5 : List ℕ} (a : ℕ) (r : Row) → a + row_size ≤ length w
    → w0 ≡ splice w a (quad_words r.hash) → w1 ≡ set w0 (a + 4) r.conn → w2 ≡ set w1 (a + 5) r.ready
    → w3 ≡ set w2 (a + 6) r.prio → w4 ≡ set w3 (a + 7) r.deadline → w5 ≡ set w4 (a + 8) r.bits
    → w5 ≡ splice w a (row_words r)
unfolding splice row_words
row_written w a r h p0 p1 p2 p3 p4 p5 =
    let q = r.hash in
    let z : set (set (set (set w a q.w0) (a + 1) q.w1) (a + 2) q.w2) (a + 3) q.w3 ≡ splice w a (quad_words q) = quad_written w a q (omega arith) refl refl refl refl in
    rw (p5, p4, p3, p2, p1, p0, ← z) (simp towards_suc (sets-eq (row_words r) w a h ∙ append_assoc (take a w) (row_words r) (drop (a + row_size) w)))

pub conn_written : (w : List ℕ) {w1 w2 w3 : List ℕ} (a : ℕ) (c : Conn) → a + conn_size ≤ length w
    → w1 ≡ set w a c.conn → w2 ≡ set w1 (a + 1) c.held → w3 ≡ set w2 (a + 2) c.owned → w3 ≡ splice w a (conn_words c)
unfolding splice conn_words
conn_written w a c h p1 p2 p3 =
    rw (p3, p2, p1) (simp towards_suc (simp towards_suc at (sets-eq (conn_words c) w a h ∙ append_assoc (take a w) (conn_words c) (drop (a + conn_size) w))))

-- ---- keys of the records

pub row-conn_at : (w : List ℕ) (n i : ℕ) → i < n → get_or (recs row_size row_conn n w) i 0 ≡ get_or w (i * row_size + 4) 0
row-conn_at w n i h = recs_at row_size row_conn n w i 0 h ∙ word_in w row_size i 4 (lit< tt)

pub conn-key_at : (w : List ℕ) (n i : ℕ) → i < n → get_or (recs conn_size conn_key n w) i 0 ≡ get_or w (i * conn_size) 0
conn-key_at w n i h = recs_at conn_size conn_key n w i 0 h ∙ word_in w conn_size i 0 (lit< tt) ∙ rw add-zero

pub row-key_at : (w : List ℕ) (n i : ℕ) → i < n → get_or (recs row_size row_key n w) i 0 ≡ row_key (take row_size (drop (row_size * i) w))
row-key_at w n i h = recs_at row_size row_key n w i 0 h

-- as `key_at` reads it
pub key-read : (w : List ℕ) (i : ℕ) {kind : Kind} {bits : ℕ} {hash : Quad} → kind ≡ kind_is (bits % 2) → bits ≡ get_or w (i * row_size + 8) 0 → hash ≡ read_quad (drop (i * row_size) w)
    → ◌≡◌ {A = Key} (record { kind = kind; hash = hash }) (key_of (read_row (take row_size (drop (row_size * i) w))))
unfolding read_row
key-read w i o p q =
    let at : (j : ℕ) → j < row_size → get_or (take row_size (drop (row_size * i) w)) j 0 ≡ get_or w (i * row_size + j) 0 = word_in w row_size i in
    rw (o, p, q) (simp (get_or-drop, at 0 (lit< tt), at 1 (lit< tt), at 2 (lit< tt), at 3 (lit< tt), at 8 (lit< tt)))

-- the first that is found among them
pub first_found : (w : List ℕ) {from to : ℕ} (c : ℕ) → from ≤ to → (o : std.Option ℕ)
    → MatchOption o ((k : ℕ) → from ≤ k → k < to → eqb (get_or w (k * row_size + 4) 0) c ≡ false)
    (λ i. (from ≤ i) × (i < to) × (eqb (get_or w (i * row_size + 4) 0) c ≡ true) × ((k : ℕ) → from ≤ k → k < i → eqb (get_or w (k * row_size + 4) 0) c ≡ false))
    → FoundFirst (recs row_size row_conn to w) from to c o
first_found w {from} {to} c h None p = record {
  least = h;
  most = omega arith;
  found = λ l. absurd (omega arith);
  none = λ j a b z. eqb-false (get_or w (j * row_size + 4) 0) c (p j a b) (sym (row-conn_at w to j b) ∙ z);
}
first_found w {from} {to} c h (Some i) p =
    let l : i < to = p.1 in (
      record {
        least = p.0;
        most = omega arith;
        found = λ _. row-conn_at w to i l ∙ eqb-true (get_or w (i * row_size + 4) 0) c p.2;
        none = λ j a b z. eqb-false (get_or w (j * row_size + 4) 0) c (p.3 j a b) (sym (row-conn_at w to j (omega arith)) ∙ z);
      },
      l,
    )
