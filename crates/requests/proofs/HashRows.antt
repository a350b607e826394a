-- The rows of a hash are those of its two keys.
use Prim.Native.Nat.{ℕ, ◌+◌, ◌-◌, ◌<◌}
use mathlib.Core.Path.{◌≡◌, refl, sym, ap, subst, ◌∙◌}
use mathlib.Core.Bool.{Bool, true, false}
use mathlib.Core.List.{List}
use lib.ListN.{length}
use Rattle.std.specs.Prelude.{Option, is_some}
use Rattle.ident.specs.declared.Hash.{Hash}
use Rattle.ident.specs.declared.Key.{Key}
use Rattle.ident.specs.declared.Kind.{Kind}
use Rattle.ident.specs.declared.Kind.TheVariants.{Txid, Wtxid}
use Rattle.ident.specs.Number.{top, Key as Named, base, place, txid, wtxid}
use Rattle.ident.specs.Words.{hash_num, key_num}
use Rattle.regions.specs.declared.Key.{Key as RowKey}
use Rattle.regions.specs.declared.Quad.{Quad}
use Rattle.regions.specs.Rows.{key_number, quad_number}
use Rattle.regions.proofs.Order.{number_quad}
use Rattle.machine.specs.State.{State}
use Rattle.machine.specs.Table.{at, has, held_at, is_candidate}
use Rattle.machine.specs.Sound.{Sound}
use Rattle.store.specs.Image.{Writes}
use Rattle.store.specs.Shown.{FoundMet}
use Rattle.store.specs.declared.rows.Window.{Window}
use Rattle.requests.specs.declared.windows.Windows.{Windows}
use Rattle.requests.specs.Changes.{Words, KeyWords, Spans}
use Rattle.requests.specs.Windows.{Windowed, of_kind}
use Rattle.requests.proofs.AtHash.{held-at, window-size}
use Rattle.requests.proofs.Finding.{found_among, found_holds}
use Rattle.requests.proofs.Holding.{candidate_first, candidate-second}
use Rattle.requests.proofs.Keeping.{from_at, to_at}

-- the words of a hash have its number
pub words-number : {h : Hash} {q : Quad} → Words h q → quad_number q ≡ hash_num h
words-number {h} v = ap quad_number v.words_are ∙ number_quad (hash_num h)

-- a key's rows by its place
pub spans_at : {b : List ℕ} {k : Key} {r : RowKey} {from to : ℕ} → KeyWords k r → Spans b (key_number r) from to → Spans b (place (key_num k)) from to
spans_at {b} {k} {r} {from} {to} w s = subst (λ (x : ℕ). Spans b x from to) w.number s

-- the rows of a key among those of its hash
pub kind_spans : {b : List ℕ} {h : ℕ} {w : Windows} (k : Named) → Windowed b h w → k.hash ≡ h → {r : Window} → r ≡ of_kind w k.kind → Spans b (place k) r.from r.to
kind_spans {b} {h} {w} k m e {r} q = subst (λ (x : Window). Spans b (place k) x.from x.to) (sym q)
    (subst (λ (y : ℕ). Spans b (base k.kind + y) (of_kind w k.kind).from (of_kind w k.kind).to) (sym e) (of k.kind))
  where
    of : (x : Kind) → Spans b (base x + h) (of_kind w x).from (of_kind w x).to
    of Txid = m.by_txid
    of Wtxid = m.by_wtxid

module _ {b : List ℕ} (st : State) (s : Sound st) (w : Writes b st) where
  module _ (k : Named) (small : k.hash < top) {from to : ℕ} (m : Spans b (place k) from to) where
    size : to - from ≡ length (at k st.table).candidates
    size = window-size k st.table (from_at st s k small refl (m.from_is st s w)) (to_at st s k small refl (m.to_is st s w))

    pub holds_there : (n : ℕ) (r : Option ℕ) → FoundMet b from to n r → is_some r ≡ has n (at k st.table).candidates
    holds_there n r f = found_holds st s k small refl w n r (found_among n m r f)

  module _ {h : ℕ} {x : Windows} (m : Windowed b h x) where
    pub windows_size : (x.txid.to - x.txid.from) + (x.wtxid.to - x.wtxid.from) ≡ held_at h st.table
    windows_size = rw (size (txid h) m.small m.by_txid, size (wtxid h) m.small m.by_wtxid) (sym (held-at h m.small st.table s.bounded.ordered))

    module _ (n : ℕ) (r : Option ℕ) (f : FoundMet b x.txid.from x.txid.to n r) where
      pub met_first : {a : Bool} → a ≡ is_some r → a ≡ true → a ≡ is_candidate n h st.table
      met_first e y = candidate_first n h m.small st.table s.bounded.ordered (e ∙ holds_there (txid h) m.small m.by_txid n r f) y

      pub met_second : {a : Bool} → a ≡ is_some r → a ≡ false → (q : Option ℕ) → FoundMet b x.wtxid.from x.wtxid.to n q → {c : Bool} → c ≡ is_some q → c ≡ is_candidate n h st.table
      met_second e y q g d = candidate-second n h m.small st.table s.bounded.ordered (e ∙ holds_there (txid h) m.small m.by_txid n r f) y (d ∙ holds_there (wtxid h) m.small m.by_wtxid n q g)
