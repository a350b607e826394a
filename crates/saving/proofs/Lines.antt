-- The three lines: their fields one behind the other, and what stages and owners in numbers say.
use Prim.Native.Nat.{ℕ, ◌+◌, ◌/◌, ◌%◌, ◌≤◌, ◌<◌}
use mathlib.Core.Path.{◌≡◌, refl, sym, ap, ◌∙◌}
use mathlib.Core.Bool.{Bool, true, false, ◌||◌}
use mathlib.Core.List.{List, [], ◌∷◌, ◌++◌, append_assoc}
use mathlib.Core.Option.{Option, none, some}
use native.Mathlib.Omega.{arith}
use lib.Dec.{eqb}
use lib.ListN.{length}
use borrow.Author.Tests.{ne_eqb}
use Rattle.ident.specs.declared.Kind.TheVariants.{Wtxid}
use Rattle.regions.specs.declared.Row.{Row}
use Rattle.regions.specs.Rows.{quad_number}
use Rattle.machine.specs.State.{Package, Request, State, on_table, with_candidates, is_some}
use Rattle.machine.specs.Table.{one}
use Rattle.machine.specs.Sound.{Packed, Lawful}
use Rattle.machine.specs.Text.{digit_text, numeral, decimal, hexadecimal, bool_text, joined}
use Rattle.machine.specs.Listing.{
  short,
  none_text,
  maybe_field,
  maybe_fields,
  key_field,
  item_field,
  hash_fields,
  list_fields,
  places_field,
  head_fields,
  owner_fields,
  package_fields,
  request_fields,
  candidate_fields,
}
use Rattle.machine.specs.Listing.{HeadLine, RequestLine, CandidateLine}
use Rattle.store.specs.Gather.{kind_is, key_at, item_kind_as, candidate_at}
use Rattle.package_stages.specs.Changes.{stage_of, wtxids_of, combined_of, has_place}
use Rattle.lines.specs.Text.{with_commas}
use Rattle.lines.proofs.Commas.{joined-commas, commas_both, commas-cons, commas_one}
use Rattle.saving.specs.Laid.{line_text, place_texts}

-- ---- lines of five fields

five : (a b c d e : List ℕ) → joined (a ∷ b ∷ c ∷ d ∷ e ∷ []) ++ (10 ∷ []) ≡ a ++ ((44 ∷ b) ++ ((44 ∷ c) ++ ((44 ∷ d) ++ ((44 ∷ e) ++ (10 ∷ [])))))
unfolding joined
five a b c d e = simp append_assoc

pub head-line : (st : State) → line_text (HeadLine (on_table [] st)) ≡ decimal st.limit ++ ((44 ∷ decimal st.places) ++ ((44 ∷ maybe_field (λ n. decimal n) st.next_poll)
    ++ ((44 ∷ maybe_field (key_field short) st.known_cursor) ++ ((44 ∷ maybe_field (key_field short) st.ready_cursor) ++ (10 ∷ [])))))
unfolding line_text head_fields places_field
head-line st = five (decimal st.limit) (decimal st.places) (maybe_field (λ n. decimal n) st.next_poll) (maybe_field (key_field short) st.known_cursor) (maybe_field (key_field short)
    st.ready_cursor)

pub candidate-line : (r : Row) → line_text (CandidateLine (candidate_at r)) ≡ decimal r.conn
    ++ ((44 ∷ item_field short (record { kind = item_kind_as (kind_is (r.bits % 2)) (r.bits / 2 % 2); hash = quad_number r.hash })) ++ ((44 ∷ decimal r.ready)
    ++ ((44 ∷ bool_text (eqb (r.bits / 4 % 2) 1)) ++ ((44 ∷ decimal r.prio) ++ (10 ∷ [])))))
unfolding line_text candidate_fields candidate_at key_at
candidate-line r = five (decimal r.conn) (item_field short (record { kind = item_kind_as (kind_is (r.bits % 2)) (r.bits / 2 % 2); hash = quad_number r.hash })) (decimal r.ready)
    (bool_text (eqb (r.bits / 4 % 2) 1)) (decimal r.prio)

-- ---- a request's line

parts : (k i m : List ℕ) (o p l : List (List ℕ)) → joined (k ∷ (o ++ (i ∷ (p ++ (l ++ (m ∷ [])))))) ++ (10 ∷ [])
    ≡ k ++ (with_commas o ++ ((44 ∷ i) ++ (with_commas (p ++ l) ++ ((44 ∷ m) ++ (10 ∷ [])))))
parts k i m o p l =
    let e : with_commas (o ++ (i ∷ (p ++ (l ++ (m ∷ []))))) ≡ with_commas o ++ ((44 ∷ i) ++ (with_commas (p ++ l) ++ (44 ∷ m))) =
    commas_both o (i ∷ (p ++ (l ++ (m ∷ []))))
    ∙ ap (λ (x : List ℕ). with_commas o ++ x) (commas-cons i (p ++ (l ++ (m ∷ [])))
    ∙ ap (λ (x : List ℕ). (44 ∷ i) ++ x) (ap with_commas (sym (append_assoc p l (m ∷ []))) ∙ commas_both (p ++ l) (m ∷ []) ∙ ap (λ (x : List ℕ). with_commas (p ++ l) ++ x) (commas_one m))) in
    ap (λ (x : List ℕ). x ++ (10 ∷ [])) (joined-commas k (o ++ (i ∷ (p ++ (l ++ (m ∷ []))))) ∙ ap (λ (x : List ℕ). k ++ x) e)
    ∙ append_assoc k (with_commas o ++ ((44 ∷ i) ++ (with_commas (p ++ l) ++ (44 ∷ m)))) (10 ∷ [])
    ∙ ap (λ (x : List ℕ). k ++ x) (append_assoc (with_commas o) ((44 ∷ i) ++ (with_commas (p ++ l) ++ (44 ∷ m))) (10 ∷ [])
    ∙ ap (λ (x : List ℕ). with_commas o ++ x) (append_assoc (44 ∷ i) (with_commas (p ++ l) ++ (44 ∷ m)) (10 ∷ [])
    ∙ ap (λ (x : List ℕ). (44 ∷ i) ++ x) (append_assoc (with_commas (p ++ l)) (44 ∷ m) (10 ∷ []))))

pub request-line : (y : Request) → line_text (RequestLine (with_candidates [] y)) ≡ key_field short y.key ++ (with_commas (maybe_fields owner_fields y.owner) ++ ((44 ∷ bool_text y.info)
    ++ (with_commas (place_texts y) ++ ((44 ∷ bool_text y.fallback) ++ (10 ∷ [])))))
unfolding line_text request_fields
request-line y = parts (key_field short y.key) (bool_text y.info) (bool_text y.fallback) (maybe_fields owner_fields y.owner) (maybe_fields (package_fields short) y.«package»)
    (list_fields short y.parents)

-- ---- the stage in numbers

pub flag_is : (y : Request) → Lawful y → eqb (stage_of y.info y.«package») 1 ≡ y.info
flag_is y l = go y.info y.«package» l.packed
  where
    go : (i : Bool) (o : Option Package) → Packed y.key.kind y.owner i o y.parents → eqb (stage_of i o) 1 ≡ i
    go true (some p) f = absurd f
    go true none f = refl
    go false none f = refl
    go false (some p) f = ne_eqb (2 + one p.enqueued) 1 (λ z. omega arith)

zero-text : decimal 0 ≡ 48 ∷ []
unfolding numeral digit_text
zero-text = refl

-- neither flag nor package: no parents
pub bare-place : (y : Request) → Lawful y → stage_of y.info y.«package» ≡ 0 → with_commas (place_texts y) ≡ 44 ∷ 110 ∷ 111 ∷ 110 ∷ 101 ∷ 44 ∷ 48 ∷ []
unfolding with_commas hash_fields
bare-place y l e = go y.info y.«package» l.packed e
  where
    go : (i : Bool) (o : Option Package) → Packed y.key.kind y.owner i o y.parents → stage_of i o ≡ 0
        → with_commas (maybe_fields (package_fields short) o ++ list_fields short y.parents) ≡ 44 ∷ 110 ∷ 111 ∷ 110 ∷ 101 ∷ 44 ∷ 48 ∷ []
    go i (some p) f z = absurd (omega arith)
    go true none f z = absurd (omega arith)
    go false none f z = rw (f, zero-text)

-- a flag or a package: a Wtxid key, and a place
pub staged_kind : (y : Request) → Lawful y → (stage_of y.info y.«package» ≡ 0 → ⊥) → (y.key.kind ≡ Wtxid) × (has_place y ≡ true)
staged_kind y l e = go y.info y.«package» l.packed e
  where
    go : (i : Bool) (o : Option Package) → Packed y.key.kind y.owner i o y.parents → (stage_of i o ≡ 0 → ⊥) → (y.key.kind ≡ Wtxid) × ((i || is_some o) ≡ true)
    go true (some p) f z = absurd f
    go true none f z = (f.1, refl)
    go false (some p) f z = (f.1, refl)
    go false none f z = absurd (z refl)

-- ---- a package

package-text : (p : Package) → with_commas (package_fields short p) ≡ (44 ∷ hexadecimal p.combined) ++ ((44 ∷ decimal (length p.wtxids)) ++ (with_commas (hash_fields short p.wtxids) ++
    (44 ∷ bool_text p.enqueued)))
package-text p =
    let w = hash_fields short p.wtxids in
    let b = bool_text p.enqueued in
    commas-cons (hexadecimal p.combined) (decimal (length p.wtxids) ∷ (w ++ (b ∷ [])))
    ∙ ap (λ (x : List ℕ). (44 ∷ hexadecimal p.combined) ++ x) (commas-cons (decimal (length p.wtxids)) (w ++ (b ∷ []))
    ∙ ap (λ (x : List ℕ). (44 ∷ decimal (length p.wtxids)) ++ x) (commas_both w (b ∷ []) ∙ ap (λ (x : List ℕ). with_commas w ++ x) (commas_one b)))

pub no-package : (y : Request) {stage : ℕ} → stage < 2 → stage ≡ stage_of y.info y.«package» → 44 ∷ none_text ≡ with_commas (maybe_fields (package_fields short) y.«package»)
no-package y {stage} h e = go y.«package» e
  where
    go : (o : Option Package) → stage ≡ stage_of y.info o → 44 ∷ none_text ≡ with_commas (maybe_fields (package_fields short) o)
    go none z = sym (commas_one none_text)
    go (some p) z = absurd (omega arith)

enqueued_is : (b : Bool) → eqb (2 + one b) 3 ≡ b
enqueued_is true = refl
enqueued_is false = refl

pub the-package : (i : Bool) (o : Option Package) {stage c n : ℕ} → 2 ≤ stage → stage ≡ stage_of i o → c ≡ combined_of o → n ≡ length (wtxids_of o)
    → (44 ∷ hexadecimal c) ++ ((44 ∷ decimal n) ++ (with_commas (hash_fields short (wtxids_of o)) ++ (44 ∷ bool_text (eqb stage 3)))) ≡ with_commas (maybe_fields (package_fields short) o)
the-package true none h e c n = absurd (omega arith)
the-package false none h e c n = absurd (omega arith)
the-package i (some p) h e c n = rw (c, n, e, enqueued_is p.enqueued) (sym (package-text p))
