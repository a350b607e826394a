-- Some rows more of one connection: its entry of the tally is raised, or is new.
use Prim.Native.Nat.{ℕ, zero, suc, ◌+◌, ◌≤◌, ◌<◌}
use mathlib.Core.Path.{◌≡◌, refl, sym, ap, subst, ◌∙◌}
use mathlib.Core.List.{List, [], ◌∷◌, ◌++◌}
use native.Mathlib.Nat.{le_refl, add-zero}
use native.Mathlib.Omega.{arith}
use lib.ListN.{length, take, drop, get_or, set, length-map}
use lib.Seq.{set_split}
use Rattle.regions.specs.declared.Conn.{Conn}
use Rattle.regions.specs.Order.{Bound}
use Rattle.regions.specs.Regions.{insert_at}
use Rattle.store.specs.Flat.{Flat, bump}
use Rattle.store.specs.Counting.{raise}
use Rattle.store.specs.Image.{Shows}
use Rattle.store.specs.Shown.{conn_names, with_conns}
use Rattle.store.proofs.Tally.{fresh, more, bump-nil, bump-lt, bump-eq, bump_gt}
use Rattle.store.proofs.Missing.{name_at}

-- an entry with d rows more
abbrev raised : ℕ → Conn → Conn
raised d c = record { conn = c.conn; held = c.held + d; owned = c.owned }

more_raised : (d : ℕ) (c : Conn) → more 0 (raised d c) ≡ raised (suc d) c
more_raised d c =
    let a : c.held + d + 1 ≡ c.held + suc d = omega arith in
    rw (a, add-zero)

module _ (x : ℕ) where
  raise_past : (d : ℕ) (c : Conn) (l : List Conn) → c.conn < x → raise x d (c ∷ l) ≡ c ∷ raise x d l
  unfolding raise
  raise_past zero c l h = refl
  raise_past (suc d) c l h = ap (bump x 0) (raise_past d c l h) ∙ bump_gt x 0 c (raise x d l) h

  raise_here : (d : ℕ) (c : Conn) (l : List Conn) → x ≡ c.conn → raise x d (c ∷ l) ≡ raised d c ∷ l
  unfolding raise
  raise_here zero c l e = rw add-zero
  raise_here (suc d) c l e = ap (bump x 0) (raise_here d c l e) ∙ bump-eq x 0 (raised d c) l e ∙ ap (λ (a : Conn). a ∷ l) (more_raised d c)

  raise-bump : (d : ℕ) (l : List Conn) → raise x (suc d) l ≡ raise x d (bump x 0 l)
  unfolding raise
  raise-bump zero l = refl
  raise-bump (suc d) l = ap (bump x 0) (raise-bump d l)

  abbrev Below : List Conn → ℕ → Type 0
  Below cs i = (j : ℕ) → j < i → get_or (conn_names cs) j 0 < x

  raise_there : (d : ℕ) (cs : List Conn) (i : ℕ) (c₀ : Conn) → Below cs i → i < length cs → (get_or cs i c₀).conn ≡ x → raise x d cs ≡ take i cs ++ (raised d (get_or cs i c₀) ∷ drop (suc i) cs)
  raise_there d [] i c₀ b h e = absurd (omega arith)
  raise_there d (c ∷ cs) zero c₀ b h e = raise_here d c cs (sym e)
  raise_there d (c ∷ cs) (suc i) c₀ b h e =
      raise_past d c cs (b 0 (omega arith)) ∙ ap (λ (l : List Conn). c ∷ l) (raise_there d cs i c₀ (λ j l. b (suc j) (omega arith)) (omega arith) e)

  raise_new : (d : ℕ) (cs : List Conn) (i : ℕ) → Below cs i → i ≤ length cs → (i < length cs → x < get_or (conn_names cs) i 0) → raise x (suc d) cs ≡ take i cs ++ (raised d (fresh x 0) ∷ drop i cs)
  raise_new d [] zero b h e = raise-bump d [] ∙ ap (raise x d) (bump-nil x 0) ∙ raise_here d (fresh x 0) [] refl
  raise_new d [] (suc i) b h e = absurd (omega arith)
  raise_new d (c ∷ cs) zero b h e = raise-bump d (c ∷ cs) ∙ ap (raise x d) (bump-lt x 0 c cs (e (omega arith))) ∙ raise_here d (fresh x 0) (c ∷ cs) refl
  raise_new d (c ∷ cs) (suc i) b h e =
      raise_past (suc d) c cs (b 0 (omega arith)) ∙ ap (λ (l : List Conn). c ∷ l) (raise_new d cs i (λ j l. b (suc j) (omega arith)) (omega arith) (λ l. e (omega arith)))

-- ---- where a search says

abbrev With : List ℕ → Flat → List Conn → Type 0
With b f cs = Shows b (with_conns cs f)

module _ {b' : List ℕ} (f : Flat) {x i : ℕ} (bd : Bound (conn_names f.conns) x i) (c₀ : Conn) where
  module _ (l : i < length f.conns) (e : (get_or f.conns i c₀).conn ≡ x) (c : Conn) (k : c ≡ get_or f.conns i c₀) where
    pub raised_found : (d : ℕ) → With b' f (set f.conns i (record { conn = c.conn; held = c.held + d; owned = c.owned })) → With b' f (raise x d f.conns)
    raised_found d s =
        let y = raise_there x d f.conns i c₀ bd.below l e in
        subst (With b' f) (ap (λ (a : Conn). set f.conns i (raised d a)) k ∙ set_split f.conns i _ l ∙ sym y) s

module _ (f : Flat) {x i : ℕ} (bd : Bound (conn_names f.conns) x i) (c₀ : Conn) (n : i < length f.conns → (get_or f.conns i c₀).conn ≡ x → ⊥) where
  beyond : i < length f.conns → x < get_or (conn_names f.conns) i 0
  beyond l =
      let e : get_or (conn_names f.conns) i 0 ≡ (get_or f.conns i c₀).conn = name_at f.conns i c₀ l in
      let m : (get_or (conn_names f.conns) i 0 ≡ x) → ⊥ = λ z. n l (sym e ∙ z) in
      omega (arith, bd.above i (le_refl i) (rw (length-map f.conns (λ (c : Conn). c.conn)) l))

  new_entry : (d : ℕ) → 1 ≤ d → raise x d f.conns ≡ insert_at i (record { conn = x; held = d; owned = 0 }) f.conns
  unfolding insert_at
  new_entry zero h = absurd (omega arith)
  new_entry (suc d) h =
      let q : 1 + d ≡ suc d = omega arith in
      raise_new x d f.conns i bd.below (rw (length-map f.conns (λ (c : Conn). c.conn)) at bd.most) beyond
      ∙ ap (λ (k : ℕ). take i f.conns ++ (record { conn = x; held = k; owned = 0 } ∷ drop i f.conns)) q

  pub raised_new : {b' : List ℕ} (d : ℕ) → 1 ≤ d → With b' f (insert_at i (record { conn = x; held = d; owned = 0 }) f.conns) → With b' f (raise x d f.conns)
  raised_new {b'} d h s = subst (With b' f) (sym (new_entry d h)) s
