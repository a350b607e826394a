-- Rows of one hash in a half: fit, of its kind, with one mark.
use Prim.Native.Nat.{ℕ, ◌+◌, ◌/◌, ◌%◌, ◌≤◌, ◌<◌}
use mathlib.Core.Path.{◌≡◌, sym, ap, ◌∙◌}
use mathlib.Core.Logic.{inl, inr}
use mathlib.Core.Bool.{Bool, true, false, not, ◌&&◌}
use mathlib.Core.List.{List}
use native.Mathlib.Omega.{arith}
use lib.Dec.{ltb, eqb}
use borrow.Author.Tests.{ltb-true, ltb-false, eqb-true, eqb-false}
use Rattle.ident.specs.declared.Kind.{Kind}
use Rattle.ident.specs.declared.Kind.TheVariants.{Txid, Wtxid}
use Rattle.ident.specs.Number.{top, base, place, kind_is, kind_number}
use Rattle.words.specs.Words.{Decides}
use Rattle.regions.specs.declared.Row.{Row}
use Rattle.regions.proofs.Bits.{bit_kind}
use Rattle.machine.proofs.Tests.{test, never}
use Rattle.store.specs.Gather.{key_at}
use Rattle.store.specs.FlatSound.{RowFits, hash_at, mark_bit}
use Rattle.store.proofs.Quads.{number-top}
use Rattle.sound_rows.specs.Rows.{RowAs, KindPlain, MarkFits, mark_for, Follows}
use Rattle.sound_rows.specs.Groups.{row_at, Alike, Fitting}
use Rattle.sound_rows.proofs.Ranges.{RowRanges}
use Rattle.sound_rows.proofs.Rows.{row_fits, row_plain}

-- ---- one row

pub both : (P Q : Type 0) (a b : Bool) → Decides a P → Decides b Q → Decides (a && b) (P × Q)
both P Q true true p q = (p, q)
both P Q true false p q = λ z. q z.1
both P Q false b p q = λ z. p z.0

-- behind `if !b { return .. }`
pub refused : (P : Type 0) (b : Bool) → not b ≡ true → Decides b P → P → ⊥
refused P false e d = d
refused P true e d = never e

pub granted : (P : Type 0) (b : Bool) → not b ≡ false → Decides b P → P
granted P true e d = d
granted P false e d = never (sym e)

pub kind-bit : (b : ℕ) {k : Kind} → kind_is (b % 2) ≡ k → b % 2 ≡ kind_number k
kind-bit b e = sym (bit_kind b) ∙ ap kind_number e

pub txid_bits : (b : ℕ) → Decides (eqb (b % 2) 0) (KindPlain Txid b)
txid_bits b = elim (test (eqb (b % 2) 0)) [
  | inl t ↦ let e : b % 2 ≡ 0 = eqb-true (b % 2) 0 t in rw t (record { kind = ap kind_is e; plain = λ o. absurd (omega arith) })
  | inr t ↦ rw t (λ z. eqb-false (b % 2) 0 t (kind-bit b z.kind))
]

pub wtxid_bits : (b : ℕ) → Decides (eqb (b % 4) 1) (KindPlain Wtxid b)
wtxid_bits b = elim (test (eqb (b % 4) 1)) [
  | inl t ↦
      let q = eqb-true (b % 4) 1 t in
      let e : b % 2 ≡ 1 = omega arith in
      rw t (record { kind = ap kind_is e; plain = λ o. omega arith })
  | inr t ↦ rw t (λ z. let e = kind-bit b z.kind in omega (arith, e, z.plain e, eqb-false (b % 4) 1 t))
]

pub row_as : (k : Kind) (m : ℕ) (r : Row) → MarkFits k m → 0 < r.conn → r.bits / 16 ≡ m → (r.bits / 8 % 2 ≡ 0 → r.deadline ≡ 0) → KindPlain k r.bits → RowAs k m r
row_as Txid m r f p e i k = record {
  plain = record { positive = p; idle = i; bits = omega arith; plain = λ o. absurd (omega (arith, kind-bit r.bits k.kind)) };
  kind = k.kind;
  mark = omega arith;
}
row_as Wtxid m r f p e i k = record {
  plain = record { positive = p; idle = i; bits = omega arith; plain = λ o. (k.plain o, omega arith) };
  kind = k.kind;
  mark = omega arith;
}

pub as_parts : {k : Kind} {m : ℕ} {r : Row} → RowAs k m r → (((0 < r.conn) × (r.bits / 16 ≡ m)) × (r.bits / 8 % 2 ≡ 0 → r.deadline ≡ 0)) × KindPlain k r.bits
as_parts a = (((a.plain.positive, omega (arith, a.mark, a.plain.bits)), a.plain.idle), record { kind = a.kind; plain = λ o. (a.plain.plain o).0 })

-- ---- the walk

module _ (kind : Kind) (w : List ℕ) (from i : ℕ) (l : from ≤ i) where
  pub alike_turn : (b x : Bool) {r : Row} {m : ℕ} → r ≡ row_at w i → RowRanges r → m ≡ mark_for kind (row_at w from) → Decides b (Alike kind w from i) → Decides x (RowAs kind m r)
      → Decides (b && x) (Alike kind w from (i + 1))
  alike_turn false x e g q d p = λ z. d (λ k a b. z k a (omega arith))
  alike_turn true false e g q d p = λ z. let a = z i l (omega arith) in rw (e, q) at p (record { plain = row_plain a.fit; kind = a.kind; mark = a.mark })
  alike_turn true true {r} e g q d p = λ k a b. elim (test (ltb k i)) [
    | inl t ↦ d k a (ltb-true k i t)
    | inr t ↦ let z : k ≡ i = omega (arith, ltb-false k i t) in rw (z, ← e) (record { fit = row_fits g p.plain; kind = p.kind; mark = p.mark ∙ q })
  ]

  pub fitting_met : (to h : ℕ) (b x : Bool) → i < to → x ≡ ltb h (hash_at (row_at w i)) → Decides b (Alike kind w from i) → Decides (b && x) (Fitting kind w from to h i)
  fitting_met to h false x m e d = λ z. d z.rows
  fitting_met to h true false m e d = λ z. omega (arith, z.rising m, ltb-false h (hash_at (row_at w i)) (sym e))
  fitting_met to h true true m e d = record { rows = d; rising = λ _. ltb-true h (hash_at (row_at w i)) (sym e) }

  pub fitting_end : (h : ℕ) (b : Bool) → Decides b (Alike kind w from i) → Decides b (Fitting kind w from i h i)
  fitting_end h false d = λ z. d z.rows
  fitting_end h true d = record { rows = d; rising = λ m. absurd (omega arith) }

-- ---- the rows from .. i of a half that ends at `to`

pub record Beside (p r : Row) : Type 0 where
  pub at_most : hash_at p ≤ hash_at r
  pub mark : hash_at p ≡ hash_at r → mark_bit p ≡ mark_bit r

pub record Half (which : Kind) (w : List ℕ) (from to i : ℕ) : Type 0 where
  pub fit : (k : ℕ) → from ≤ k → k < i → RowFits (row_at w k)
  pub kind : (k : ℕ) → from ≤ k → k < i → kind_is ((row_at w k).bits % 2) ≡ which
  pub beside : (k : ℕ) → from ≤ k → k < i → k + 1 < to → Beside (row_at w k) (row_at w (k + 1))

pub half_none : (kind : Kind) (w : List ℕ) (from to : ℕ) → Half kind w from to from
half_none kind w from to = record { fit = λ k a b. absurd (omega arith); kind = λ k a b. absurd (omega arith); beside = λ k a b. absurd (omega arith) }

module _ {kind : Kind} {w : List ℕ} {from to i h e : ℕ} where
  pub half_turn : Half kind w from to i → from ≤ i → ((k : ℕ) → i ≤ k → k < e → hash_at (row_at w k) ≡ h) → Fitting kind w i to h e → Half kind w from to e
  half_turn s l same f = record {
    fit = λ k a b. elim (test (ltb k i)) [
      | inl t ↦ s.fit k a (ltb-true k i t)
      | inr t ↦ (f.rows k (ltb-false k i t) b).fit
    ];
    kind = λ k a b. elim (test (ltb k i)) [
      | inl t ↦ s.kind k a (ltb-true k i t)
      | inr t ↦ (f.rows k (ltb-false k i t) b).kind
    ];
    beside = λ k a b c. elim (test (ltb k i)) [
      | inl t ↦ s.beside k a (ltb-true k i t) c
      | inr t ↦ next k (ltb-false k i t) b c
    ];
  }
    where
      next : (k : ℕ) → i ≤ k → k < e → k + 1 < to → Beside (row_at w k) (row_at w (k + 1))
      next k a b c = elim (test (ltb (k + 1) e)) [
        | inl t ↦
            let g = ltb-true (k + 1) e t in
            record { at_most = omega (arith, same k a b, same (k + 1) (omega arith) g); mark = λ _. (f.rows k a b).mark ∙ sym (f.rows (k + 1) (omega arith) g).mark }
        | inr t ↦
            let z : k + 1 ≡ e = omega (arith, ltb-false (k + 1) e t) in
            let r : h < hash_at (row_at w (k + 1)) = rw (← z) at (f.rising (omega arith)) in
            record { at_most = omega (arith, same k a b); mark = λ q. absurd (omega (arith, same k a b)) }
      ]

-- ---- both halves

pub place-kind : (r : Row) {k : Kind} → kind_is (r.bits % 2) ≡ k → place (key_at r) ≡ base k + hash_at r
unfolding key_at
place-kind r e = ap (λ k. base k + hash_at r) e

follows_beside : (p r : Row) (k : Kind) → kind_is (p.bits % 2) ≡ k → kind_is (r.bits % 2) ≡ k → Beside p r → Follows p r
follows_beside p r k e f b = record {
  order = omega (arith, place-kind p e, place-kind r f, b.at_most);
  mark = λ q. b.mark (omega (arith, place-kind p e, place-kind r f));
}

follows_across : (p r : Row) → RowFits p → kind_is (p.bits % 2) ≡ Txid → kind_is (r.bits % 2) ≡ Wtxid → Follows p r
follows_across p r g e f =
    let x : place (key_at p) ≡ 0 + hash_at p = place-kind p e in
    let y : place (key_at r) ≡ top + hash_at r = place-kind r f in
    record { order = omega (arith, number-top p.hash g.hash); mark = λ q. absurd (omega (arith, number-top p.hash g.hash)) }

module _ {w : List ℕ} {m n : ℕ} (a : Half Txid w 0 m m) (b : Half Wtxid w m n n) where
  pub halves_fit : (k : ℕ) → k < n → RowFits (row_at w k)
  halves_fit k l = elim (test (ltb k m)) [
    | inl t ↦ a.fit k (omega arith) (ltb-true k m t)
    | inr t ↦ b.fit k (ltb-false k m t) l
  ]

  pub halves_follow : (k : ℕ) → k + 1 < n → Follows (row_at w k) (row_at w (k + 1))
  halves_follow k l = elim (test (ltb k m)) [
    | inl t ↦ before (ltb-true k m t)
    | inr t ↦ let g = ltb-false k m t in follows_beside _ _ Wtxid (b.kind k g (omega arith)) (b.kind (k + 1) (omega arith) l) (b.beside k g (omega arith) l)
  ]
    where
      before : k < m → Follows (row_at w k) (row_at w (k + 1))
      before g = elim (test (ltb (k + 1) m)) [
        | inl t ↦ let x = ltb-true (k + 1) m t in follows_beside _ _ Txid (a.kind k (omega arith) g) (a.kind (k + 1) (omega arith) x) (a.beside k (omega arith) g x)
        | inr t ↦ follows_across _ _ (a.fit k (omega arith) g) (a.kind k (omega arith) g) (b.kind (k + 1) (ltb-false (k + 1) m t) l)
      ]
