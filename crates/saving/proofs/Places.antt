-- The package and the parents of a request, read from its place.
use Prim.Native.Nat.{ℕ, ◌+◌, ◌≤◌, ◌<◌}
use mathlib.Core.Path.{◌≡◌, refl, sym, ap, subst, ◌∙◌}
use mathlib.Core.Bool.{Bool, true, false}
use mathlib.Core.List.{List, [], ◌∷◌, ◌++◌}
use mathlib.Core.Option.{Option}
use native.Mathlib.Numerals.{add-one}
use native.Mathlib.Omega.{arith}
use lib.Dec.{eqb}
use lib.ListN.{length, take, get_or}
use lib.Seq.{take-suc, take_all}
use Rattle.std.specs.Option.{option_eq}
use Rattle.std.specs.Prelude.{Some}
use Rattle.ident.specs.declared.Kind.TheVariants.{Wtxid}
use Rattle.ident.specs.declared.Key.{Key as IdentKey}
use Rattle.ident.specs.Number.{Key, top, wtxid}
use Rattle.ident.specs.Words.{hash_num, key_num}
use Rattle.machine.specs.State.{Owner, Request, State, with_candidates}
use Rattle.machine.specs.Table.{at}
use Rattle.machine.specs.Sound.{Sound}
use Rattle.machine.specs.Text.{decimal, hexadecimal, bool_text}
use Rattle.machine.specs.Listing.{short, none_text, maybe_fields, key_field, hash_fields, list_fields, owner_fields, package_fields, RequestLine}
use Rattle.machine.proofs.Table.{at_key, lawful_at}
use Rattle.machine.proofs.Tests.{never}
use Rattle.store.specs.Image.{Writes}
use Rattle.requests.specs.Changes.{Tells}
use Rattle.package_stages.specs.declared.Request.{Request as RequestRead}
use Rattle.package_stages.specs.contracts.StagePartialEq.TheImpl.{eq-value}
use Rattle.package_stages.specs.declared.Stage.{Stage}
use Rattle.package_stages.specs.declared.Stage.TheVariants.{Flagged, Awaiting, Enqueued}
use Rattle.package_stages.proofs.Read.{stage-is}
use Rattle.package_stages.specs.Changes.{owner_as, stage_word, stage_of, wtxids_of, combined_of, has_place, PlaceSpot, SpotOf, ReadAt, RequestAt}
use Rattle.ident.specs.declared.Hash.{Hash}
use Rattle.ident.specs.Words.{hash_num}
use Rattle.lines.specs.Text.{with_commas}
use Rattle.lines.proofs.Commas.{commas_both, commas-cons, commas_one}
use Rattle.saving.specs.Laid.{LaysHashes, Lays, place_texts, line_text}
use Rattle.saving.proofs.Laying.{lays_as, lays_more, lays_none}
use Rattle.saving.proofs.Lines.{request-line, flag_is, bare-place, staged_kind, no-package, the-package}

-- ---- hashes one behind the other

fields-append : (xs ys : List ℕ) → hash_fields short (xs ++ ys) ≡ hash_fields short xs ++ hash_fields short ys
unfolding hash_fields
fields-append [] ys = refl
fields-append (x ∷ xs) ys = ap (λ (l : List (List ℕ)). hexadecimal x ∷ l) (fields-append xs ys)

fields_one : (h : ℕ) → hash_fields short (h ∷ []) ≡ hexadecimal h ∷ []
unfolding hash_fields
fields_one h = refl

fields_none : with_commas (hash_fields short []) ≡ []
unfolding hash_fields with_commas
fields_none = refl

hashes_more : (xs : List ℕ) (j : ℕ) → j < length xs → with_commas (hash_fields short (take (j + 1) xs)) ≡ with_commas (hash_fields short (take j xs)) ++ (44 ∷ hexadecimal (get_or xs j 0))
hashes_more xs j l =
    let x = get_or xs j 0 in
    rw (add-one j, take-suc xs j 0 l, fields-append (take j xs) (x ∷ []), fields_one x, commas_both (hash_fields short (take j xs)) (hexadecimal x ∷ []), commas_one (hexadecimal x))

-- ---- hashes one after the other

-- the first j are laid from a on, u₀ before
pub record Hashes (Answers : ℕ → Hash → Type 0) (n : ℕ) (u₀ : List ℕ) (a : ℕ) (u : List ℕ) (j e : ℕ) : Type 0 where
  pub is : (hs : List ℕ) → n ≡ length hs → ((k : ℕ) (h : Hash) → k < n → Answers k h → hash_num h ≡ get_or hs k 0) → Lays u₀ u a (with_commas (hash_fields short (take j hs))) e

module _ {Answers : ℕ → Hash → Type 0} {n : ℕ} {u₀ : List ℕ} {a : ℕ} where
  pub hashes_none : Hashes Answers n u₀ a u₀ 0 a
  hashes_none = record { is = λ hs m s. lays_as (sym fields_none) (lays_none u₀ a) }

  pub hashes-laid : {u u' : List ℕ} {j e e' : ℕ} {h : Hash} → Hashes Answers n u₀ a u j e → j < n → Answers j h → Lays u u' e (44 ∷ hexadecimal (hash_num h)) e'
      → Hashes Answers n u₀ a u' (j + 1) e'
  hashes-laid {j = j} {h = h} p l r k = record {
    is = λ hs m s.
        let i : j < length hs = omega arith in
        lays_as (ap (λ (v : ℕ). with_commas (hash_fields short (take j hs)) ++ (44 ∷ hexadecimal v)) (s j h l r) ∙ sym (hashes_more hs j i)) (lays_more (p.is hs m s) k);
  }

  pub hashes_all : {u : List ℕ} {e : ℕ} → Hashes Answers n u₀ a u n e → LaysHashes Answers u₀ u a n e
  hashes_all p = record { is = λ hs m s. lays_as (ap (λ (l : List ℕ). with_commas (hash_fields short l)) (take_all n hs (omega arith))) (p.is hs m s) }

  -- those of a list of the request at the i-th place
  pub hashes_read : {b u : List ℕ} {i e : ℕ} (g : Request → List ℕ) → LaysHashes Answers u₀ u a n e
      → ((j : ℕ) (h : Hash) → j < n → Answers j h → ReadAt b i (λ q. j < length (g q) → hash_num h ≡ get_or (g q) j 0))
      → ReadAt b i (λ q. n ≡ length (g q) → Lays u₀ u a (with_commas (hash_fields short (g q))) e)
  hashes_read g p s k small st f w x m = p.is (g (at (wtxid k) st.table)) m (λ j h l r. s j h l r k small st f w x (omega arith))

-- ---- the parents, the package

module _ {b : List ℕ} {i : ℕ} {u u₁ u₂ : List ℕ} {a e r n : ℕ} where
  pub parents-laid : ReadAt b i (λ q. n ≡ length q.parents) → Lays u u₁ a (44 ∷ decimal n) e → ReadAt b i (λ q. n ≡ length q.parents → Lays u₁ u₂ e (with_commas (hash_fields short q.parents)) r)
      → ReadAt b i (λ q. Lays u u₂ a (with_commas (list_fields short q.parents)) r)
  parents-laid c p l k small st s w x =
      let y = at (wtxid k) st.table in
      let z = c k small st s w x in
      lays_as (ap (λ (m : ℕ). (44 ∷ decimal m) ++ with_commas (hash_fields short y.parents)) z ∙ sym (commas-cons (decimal (length y.parents)) (hash_fields short y.parents)))
      (lays_more p (l k small st s w x z))

pub flagged_stage : (a : Stage) → true ≡ eq-value.it a Flagged → stage_word (Some a) < 2
flagged_stage Flagged e = omega arith
flagged_stage Awaiting e = never (sym e)
flagged_stage Enqueued e = never (sym e)

pub package_stage : (a : Stage) → false ≡ eq-value.it a Flagged → 2 ≤ stage_word (Some a)
package_stage Flagged e = never e
package_stage Awaiting e = omega arith
package_stage Enqueued e = omega arith

-- a stage is a word above 0
pub staged_word : (a : Stage) → stage_word (Some a) ≡ 0 → ⊥
staged_word Flagged e = omega arith
staged_word Awaiting e = omega arith
staged_word Enqueued e = omega arith

module _ {b : List ℕ} {i : ℕ} {u : List ℕ} {a stage : ℕ} where
  pub none_laid : {u' : List ℕ} {r : ℕ} → stage < 2 → Lays u u' a (44 ∷ none_text) r
      → ReadAt b i (λ q. stage ≡ stage_of q.info q.«package» → Lays u u' a (with_commas (maybe_fields (package_fields short) q.«package»)) r)
  none_laid h p k small st s w x z = lays_as (no-package (at (wtxid k) st.table) h z) p

  pub package-laid : {u₁ u₂ u₃ u₄ : List ℕ} {e₁ e₂ e₃ r n : ℕ} {enqueued : Bool} (c : ℕ) → 2 ≤ stage → enqueued ≡ eqb stage 3 → ReadAt b i (λ q. c ≡ combined_of q.«package»)
      → ReadAt b i (λ q. n ≡ length (wtxids_of q.«package»))
      → Lays u u₁ a (44 ∷ hexadecimal c) e₁ → Lays u₁ u₂ e₁ (44 ∷ decimal n) e₂
      → ReadAt b i (λ q. n ≡ length (wtxids_of q.«package») → Lays u₂ u₃ e₂ (with_commas (hash_fields short (wtxids_of q.«package»))) e₃)
      → Lays u₃ u₄ e₃ (44 ∷ bool_text enqueued) r
      → ReadAt b i (λ q. stage ≡ stage_of q.info q.«package» → Lays u u₄ a (with_commas (maybe_fields (package_fields short) q.«package»)) r)
  package-laid c h en cc' nn p₁ p₂ p₃ p₄ k small st s w x z =
      let y = at (wtxid k) st.table in
      let m = nn k small st s w x in
      lays_as (the-package y.info y.«package» h z (cc' k small st s w x) m) (lays_more p₁ (lays_more p₂ (lays_more (p₃ k small st s w x m) (lays_as (ap (λ (e : Bool). 44 ∷ bool_text e) en) p₄))))

-- ---- both, of the request at a key

module _ {b : List ℕ} (k : Key) (stage : ℕ) (is : Tells b (λ t. stage ≡ stage_of (at k t).info (at k t).«package»)) where
  pub bare-laid : {u u' : List ℕ} {a r : ℕ} → stage ≡ 0 → Lays u u' a (44 ∷ 110 ∷ 111 ∷ 110 ∷ 101 ∷ 44 ∷ 48 ∷ []) r → Tells b (λ t. Lays u u' a (with_commas (place_texts (at k t))) r)
  bare-laid z p st s w = lays_as (sym (bare-place (at k st.table) (lawful_at k st.table s.bounded.lawful) (sym (is st s w) ∙ z))) p

  module _ (small : k.hash < top) (some_stage : stage ≡ 0 → ⊥) (st : State) (s : Sound st) (w : Writes b st) where
    abbrev y : Request
    y = at k st.table

    staged : (y.key.kind ≡ Wtxid) × (has_place y ≡ true)
    staged = staged_kind y (lawful_at k st.table s.bounded.lawful) (λ z. some_stage (is st s w ∙ z))

    -- the key is a Wtxid
    key-is : wtxid k.hash ≡ k
    key-is =
        let e : y.key.kind ≡ k.kind = ap (λ (j : Key). j.kind) (at_key k 0 st.table small s.bounded.ordered) in
        let z : Wtxid ≡ k.kind = sym staged.0 ∙ e in
        (λ i. record { kind = z i; hash = k.hash })

    here : at (wtxid k.hash) st.table ≡ y
    here = ap (λ (j : Key). at j st.table) key-is

    pub spot_held : {i : ℕ} {held : Bool} → SpotOf b k.hash i held → held ≡ true
    spot_held p = (p.is st s w).held_is ∙ ap has_place here ∙ staged.1

    spot : {i : ℕ} {held : Bool} → SpotOf b k.hash i held → PlaceSpot st.table k.hash i true
    spot {i} {held} p = subst (λ (h : Bool). PlaceSpot st.table k.hash i h) (spot_held p) (p.is st s w)

    pub place-laid : {i : ℕ} {held : Bool} {u u₁ u₂ : List ℕ} {a e r : ℕ} → SpotOf b k.hash i held
        → ReadAt b i (λ q. stage ≡ stage_of q.info q.«package» → Lays u u₁ a (with_commas (maybe_fields (package_fields short) q.«package»)) e)
        → ReadAt b i (λ q. Lays u₁ u₂ e (with_commas (list_fields short q.parents)) r)
        → Lays u u₂ a (with_commas (place_texts y)) r
    place-laid {u = u} {u₁} {u₂} {a} {e} {r} p c l =
        let g : stage ≡ stage_of (at (wtxid k.hash) st.table).info (at (wtxid k.hash) st.table).«package» = is st s w ∙ ap (λ (q : Request). stage_of q.info
        q.«package») (sym here) in
        let x = lays_more (c k.hash small st s w (spot p) g) (l k.hash small st s w (spot p)) in
        let v : (q : Request) → with_commas (maybe_fields (package_fields short) q.«package») ++ with_commas (list_fields short q.parents) ≡ with_commas (place_texts q) = λ q.
        sym (commas_both (maybe_fields (package_fields short) q.«package») (list_fields short q.parents)) in
        lays_as (v (at (wtxid k.hash) st.table) ∙ ap (λ (q : Request). with_commas (place_texts q)) here) x

-- ---- the line

module _ {b : List ℕ} (k : IdentKey) {q : RequestRead} (x : RequestAt b (key_num k) q) (small : hash_num k.hash < top) {u u₁ u₂ u₃ u₄ u₅ u₆ : List ℕ} {a e₁ e₂ e₃ e₄ e₅ r : ℕ}
    {flag : Bool} (flag-is : flag ≡ option_eq eq-value.it q.stage (Some Flagged))
    (p₁ : Lays u u₁ a (key_field short (key_num k)) e₁) (p₂ : Lays u₁ u₂ e₁ (with_commas (maybe_fields owner_fields (owner_as q.owner))) e₂)
    (p₃ : Lays u₂ u₃ e₂ (44 ∷ bool_text flag) e₃) (p₄ : Tells b (λ t. Lays u₃ u₄ e₃ (with_commas (place_texts (at (key_num k) t))) e₄))
    (p₅ : Lays u₄ u₅ e₄ (44 ∷ bool_text q.mark) e₅) (p₆ : Lays u₅ u₆ e₅ (10 ∷ []) r) where
  pub request-laid : Tells b (λ t. Lays u u₆ a (line_text (RequestLine (with_candidates [] (at (key_num k) t)))) r)
  request-laid st s v =
      let y = at (key_num k) st.table in
      let l = lawful_at (key_num k) st.table s.bounded.lawful in
      let f = x.is st s v in
      let key : key_num k ≡ y.key = sym (at_key (key_num k) 0 st.table small s.bounded.ordered) in
      let c₁ = lays_as (ap (key_field short) key) p₁ in
      let c₂ = lays_as (ap (λ (o : Option Owner). with_commas (maybe_fields owner_fields o)) f.owner) p₂ in
      let c₃ = lays_as (ap (λ (z : Bool). 44 ∷ bool_text z) (flag-is ∙ stage-is f Flagged ∙ flag_is y l)) p₃ in
      let c₅ = lays_as (ap (λ (z : Bool). 44 ∷ bool_text z) f.mark) p₅ in
      lays_as (sym (request-line y)) (lays_more c₁ (lays_more c₂ (lays_more c₃ (lays_more (p₄ st s v) (lays_more c₅ p₆)))))
