-- Fields: what each branch of a writer lays is the field's text.
use Prim.Native.Nat.{ℕ, ◌+◌, ◌≤◌}
use mathlib.Core.Path.{◌≡◌, refl}
use mathlib.Core.Bool.{Bool, true, false}
use mathlib.Core.List.{List, [], ◌∷◌}
use mathlib.Core.Option.{Option, none, some}
use native.Mathlib.Omega.{arith}
use lib.ListN.{length}
use Rattle.ident.specs.declared.Hash.{Hash}
use Rattle.ident.specs.declared.ItemKind.{ItemKind}
use Rattle.ident.specs.Words.{hash_num, key_num}
use Rattle.regions.specs.declared.Quad.{Quad}
use Rattle.regions.specs.Rows.{quad_number}
use Rattle.machine.specs.Text.{decimal, hexadecimal, bool_text, kind_letter, item_kind_text}
use Rattle.machine.specs.Listing.{short, none_text, maybe_field, maybe_fields, key_field, item_field, owner_fields}
use Rattle.machine.specs.State.{Owner}
use Rattle.requests.specs.Changes.{Words}
use Rattle.requests.proofs.HashRows.{words-number}
use Rattle.std.specs.Prelude as rust
use Rattle.std.specs.Prelude.{Some, None}
use Rattle.ident.specs.declared.Key.{Key as KeyRead}
use Rattle.ident.specs.Words.{maybe_key_num}
use Rattle.cursors.specs.Numbers.{time_num}
use Rattle.lines.specs.Text.{with_commas}
use Rattle.lines.proofs.Commas.{commas-cons, commas_one}
use Rattle.saving.specs.Laid.{Lays}
use Rattle.saving.proofs.Laying.{lays_more}

-- ---- bools

module _ {s s' : List ℕ} {a r : ℕ} where
  pub bool-laid : {b c : Bool} → b ≡ c → Lays s s' a (44 ∷ bool_text c) r → (r ≤ a + 2) × Lays s s' a (44 ∷ bool_text b) r
  bool-laid {b} {c} e p = (omega (arith, p.next, two c), rw e p)
    where
      two : (d : Bool) → length (44 ∷ bool_text d) ≡ 2
      two true = refl
      two false = refl

  -- ---- an owner

  pub no-owner : {o : Option Owner} → o ≡ none → Lays s s' a (44 ∷ none_text) r → Lays s s' a (with_commas (maybe_fields owner_fields o)) r
  no-owner e p = rw (e, commas_one none_text) p

-- ---- next poll, a cursor

module _ {s s' : List ℕ} {a r : ℕ} where
  pub time_none : {m : rust.Option ℕ} → m ≡ None → Lays s s' a (44 ∷ none_text) r → Lays s s' a (44 ∷ maybe_field (λ n. decimal n) (time_num m)) r
  time_none e p = rw e p

  pub time_some : {m : rust.Option ℕ} {n : ℕ} → m ≡ Some n → Lays s s' a (44 ∷ decimal n) r → Lays s s' a (44 ∷ maybe_field (λ n. decimal n) (time_num m)) r
  time_some e p = rw e p

  pub no-cursor : {c : rust.Option KeyRead} → c ≡ None → Lays s s' a (44 ∷ none_text) r → Lays s s' a (44 ∷ maybe_field (key_field short) (maybe_key_num c)) r
  no-cursor e p = rw e p

module _ {s s₁ s₂ : List ℕ} {a e r : ℕ} where
  pub key-laid : (k : KeyRead) {q : Quad} → Words k.hash q → Lays s s₁ a (kind_letter k.kind ∷ []) e → Lays s₁ s₂ e (hexadecimal (quad_number q)) r
      → Lays s s₂ a (key_field short (key_num k)) r
  unfolding key_field
  key-laid k v p q = lays_more p (rw (words-number v) at q)

  pub cursor-laid : {c : rust.Option KeyRead} {k : KeyRead} → c ≡ Some k → Lays s s₁ a (44 ∷ []) e → Lays s₁ s₂ e (key_field short (key_num k)) r
      → Lays s s₂ a (44 ∷ maybe_field (key_field short) (maybe_key_num c)) r
  cursor-laid f p q = rw f (lays_more p q)

  pub next_hash-laid : {h : Hash} {q : Quad} → Words h q → Lays s s₁ a (44 ∷ []) e → Lays s₁ s₂ e (hexadecimal (quad_number q)) r → Lays s s₂ a (44 ∷ hexadecimal (hash_num h)) r
  next_hash-laid v p q = lays_more p (rw (words-number v) at q)

  pub owner-laid : {o : Option Owner} (w : Owner) → o ≡ some w → Lays s s₁ a (44 ∷ decimal w.connection) e → Lays s₁ s₂ e (44 ∷ decimal w.deadline) r
      → Lays s s₂ a (with_commas (maybe_fields owner_fields o)) r
  owner-laid w f p q = rw (f, commas-cons (decimal w.connection) (decimal w.deadline ∷ []), commas_one (decimal w.deadline)) (lays_more p q)

pub item-laid : {s s₁ s₂ s₃ : List ℕ} {a e₁ e₂ r : ℕ} (k : ItemKind) (h : ℕ) → Lays s s₁ a (44 ∷ []) e₁ → Lays s₁ s₂ e₁ (item_kind_text k) e₂ → Lays s₂ s₃ e₂ (hexadecimal h) r
    → Lays s s₃ a (44 ∷ item_field short (record { kind = k; hash = h })) r
unfolding item_field
item-laid k h p q w = lays_more p (lays_more q w)
