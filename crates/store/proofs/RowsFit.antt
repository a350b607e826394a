-- The rows of a sound table pass the tests of rows.
use Prim.Native.Nat.{ℕ, suc, ◌≤◌, ◌<◌}
use mathlib.Core.Path.{◌≡◌, refl, sym, ◌∙◌}
use mathlib.Core.Logic.{inl, inr}
use mathlib.Core.Bool.{Bool, true, false}
use mathlib.Core.List.{List, [], ◌∷◌, ◌++◌, map}
use mathlib.Core.Option.{Option, none, some}
use native.Mathlib.Nat.{le_refl}
use native.Mathlib.Omega.{arith}
use lib.Dec.{eqb}
use Rattle.ident.specs.declared.Kind.{Kind}
use Rattle.ident.specs.declared.Kind.TheVariants.{Txid, Wtxid}
use Rattle.ident.specs.declared.ItemKind.{ItemKind}
use Rattle.ident.specs.declared.ItemKind.TheVariants.{Transaction, WitnessTransaction, WTx, Other}
use Rattle.ident.specs.Number.{top, Key, place, Item, key_of, kind_number}
use Rattle.regions.specs.declared.Row.{Row}
use Rattle.regions.specs.Regions.{each}
use Rattle.machine.specs.Limits.{word}
use Rattle.machine.specs.State.{Candidate, Owner, Request, Table, owner_is}
use Rattle.machine.specs.Table.{one}
use Rattle.machine.specs.Sound.{Fits, AllFit, OwnerFits, Marked, Lawful, Ordered, All}
use Rattle.machine.specs.Typed.{Each}
use Rattle.machine.proofs.Tests.{test}
use Rattle.machine.proofs.Announce.{each_append as Each-both}
use Rattle.store.specs.Flat.{witness_bit, deadline_for, row_of, rows_for, rows_of}
use Rattle.store.specs.Gather.{key_at}
use Rattle.store.specs.FlatSound.{RowFits, Ascending, MarkedAs, SameMarks}
use Rattle.store.proofs.Quads.{quad_fits}
use Rattle.store.proofs.Bits.{bits-kind, bits-witness, bits_few, key_row, own_row, mark-row}

-- ---- one row

deadline-fits : (n : ℕ) (o : Option Owner) (cs : List Candidate) → OwnerFits o cs → deadline_for n o < word
deadline-fits n none cs f = omega arith
deadline-fits n (some o) cs f = elim (test (eqb o.connection n)) [ inl e ↦ rw e f.1 | inr e ↦ rw e (omega arith) ]

idle-owner : (n : ℕ) (o : Option Owner) → one (owner_is n o) ≡ 0 → deadline_for n o ≡ 0
idle-owner n none e = refl
idle-owner n (some o) e = elim (test (eqb o.connection n)) [ inl q ↦ absurd (omega (arith, rw q at e)) | inr q ↦ rw q ]

wtxid-bit : (k : Kind) → kind_number k ≡ 1 → k ≡ Wtxid
wtxid-bit Txid e = absurd (omega arith)
wtxid-bit Wtxid e = refl

wtxid-item : (k : Key) (i : Item) (t : ItemKind) → i.kind ≡ t → key_of i ≡ some k → k.kind ≡ Wtxid → witness_bit t ≡ 0
wtxid-item k i Transaction e f w = refl
wtxid-item k i WitnessTransaction e f w = let z : ◌≡◌ {A = ℕ} 0 1 = cc in absurd (omega arith)
wtxid-item k i WTx e f w = refl
wtxid-item k i (Other n) e f w = refl

wtxid-mark : (k : Kind) (b : Bool) → Marked k b → k ≡ Wtxid → one b ≡ 0
wtxid-mark k false m w = refl
wtxid-mark k true m w = let z : ◌≡◌ {A = ℕ} 0 1 = cc in absurd (omega arith)

row_fits : (r : Request) (c : Candidate) → r.key.hash < top → Lawful r → Fits r.key c → RowFits (row_of r c)
unfolding row_of
row_fits r c h l f = record {
  hash = quad_fits r.key.hash h;
  positive = f.positive;
  conn = f.connection;
  ready = f.ready;
  prio = f.priority;
  deadline = deadline-fits c.connection r.owner r.candidates l.owner;
  idle = λ e. idle-owner c.connection r.owner (sym (own_row r c) ∙ e);
  bits = bits_few r.key.kind c.item.kind c.preferred (owner_is c.connection r.owner) r.fallback;
  plain = λ e.
      let w = wtxid-bit r.key.kind (sym (bits-kind r.key.kind c.item.kind c.preferred (owner_is c.connection r.owner) r.fallback) ∙ e) in (
        bits-witness r.key.kind c.item.kind c.preferred (owner_is c.connection r.owner) r.fallback ∙ wtxid-item r.key c.item c.item.kind refl f.item w,
        mark-row r c ∙ wtxid-mark r.key.kind r.fallback l.mark w,
      );
}

-- ---- all of them

pub each_by : {A : Type 0} {P Q : A → Type 0} (l : List A) → ((a : A) → P a → Q a) → Each P l → Each Q l
each_by [] f p = tt
each_by (x ∷ l) f p = (f x p.0, each_by l f p.1)

fit_in : (r : Request) (cs : List Candidate) → r.key.hash < top → Lawful r → AllFit r.key cs → Each RowFits (map (row_of r) cs)
fit_in r [] h l f = tt
fit_in r (c ∷ cs) h l f = (row_fits r c h l f.0, fit_in r cs h l f.1)

pub rows_fit : (lo : ℕ) (t : Table) → Ordered lo t → All Lawful t → Each RowFits (rows_of t)
unfolding each rows_for
rows_fit lo [] o l = tt
rows_fit lo (r ∷ t) o l = Each-both RowFits (map (row_of r) r.candidates) (rows_of t) (fit_in r r.candidates o.1 l.0 l.0.candidates) (rows_fit (suc (place r.key)) t o.2 l.1)

-- ---- their order

pub ascending_weaken : (lo hi : ℕ) (rs : List Row) → lo ≤ hi → Ascending hi rs → Ascending lo rs
ascending_weaken lo hi [] h a = tt
ascending_weaken lo hi (r ∷ rs) h a = (omega (arith, a.0), a.1)

ascending_in : (lo : ℕ) (r : Request) (cs : List Candidate) (rs : List Row) → lo ≤ place r.key → Ascending (place r.key) rs → Ascending lo (map (row_of r) cs ++ rs)
ascending_in lo r [] rs h a = ascending_weaken lo (place r.key) rs h a
ascending_in lo r (c ∷ cs) rs h a = rw (key_row r c) (h, ascending_in (place r.key) r cs rs (le_refl _) a)

pub rows-ascend : (lo : ℕ) (t : Table) → Ordered lo t → Ascending lo (rows_of t)
unfolding each rows_for
rows-ascend lo [] o = tt
rows-ascend lo (r ∷ t) o = ascending_in lo r r.candidates (rows_of t) o.0 (ascending_weaken _ (suc (place r.key)) (rows_of t) (omega arith) (rows-ascend (suc (place r.key)) t o.2))

-- ---- their marks

marks_past : (q : Row) (rs : List Row) → Ascending (suc (place (key_at q))) rs → SameMarks rs → MarkedAs q rs
marks_past q [] a m = tt
marks_past q (r ∷ rs) a m = ((λ e. absurd (omega (arith, a.0))), m)

marks_in : (r : Request) (c : Candidate) (cs : List Candidate) (rs : List Row) → Ascending (suc (place r.key)) rs → SameMarks rs → MarkedAs (row_of r c) (map (row_of r) cs ++ rs)
marks_in r c [] rs a m = marks_past (row_of r c) rs (rw (key_row r c) a) m
marks_in r c (d ∷ cs) rs a m = ((λ e. mark-row r c ∙ sym (mark-row r d)), marks_in r d cs rs a m)

pub rows-marked : (lo : ℕ) (t : Table) → Ordered lo t → SameMarks (rows_of t)
unfolding each rows_for
rows-marked lo [] o = tt
rows-marked lo (r ∷ t) o = go r.candidates (rows-ascend _ t o.2) (rows-marked (suc (place r.key)) t o.2)
  where
    go : (cs : List Candidate) → Ascending (suc (place r.key)) (rows_of t) → SameMarks (rows_of t) → SameMarks (map (row_of r) cs ++ rows_of t)
    go [] a m = m
    go (c ∷ cs) a m = marks_in r c cs (rows_of t) a m
