-- Parents announced one after the other, in two halves, while others wait: the bits of each half.
use Prim.Native.Nat.{ℕ, ◌+◌, ◌-◌, ◌*◌, ◌≤◌, ◌<◌}
use mathlib.Core.Path.{◌≡◌, refl, sym, ap, subst, ◌∙◌}
use mathlib.Core.Bool.{Bool, true}
use mathlib.Core.List.{List, [], ◌∷◌}
use native.Mathlib.Nat.{mul-add, mul_assoc}
use native.Mathlib.Numerals.{add-one}
use native.Mathlib.Omega.{arith}
use lib.ListN.{length}
use Rattle.ident.specs.Words.{hash_num}
use Rattle.machine.specs.State.{Table, State, limits_of}
use Rattle.machine.specs.Table.{one}
use Rattle.machine.specs.Fail.{parents_from}
use Rattle.announcing.specs.Answers.{one_parent}
use Rattle.parenting.specs.declared.parent.Parent.{Parent}
use Rattle.parenting.specs.Displacing.{Spent, Reserve, unlisted}
use Rattle.postponing.specs.Pending.{Plain}
use Rattle.apart.specs.Delayed.{Delay, Front, Open, Opens, Closes, OneIn}
use Rattle.apart.specs.Noting.{parent_in, hashes_at, ParentAt, kept_bits, Halved, picked_in, Half, HalfAt, HalfIn, Noted}
use Rattle.apart.proofs.Notes.{kept_picked, parts-keys, parts-table, hashes_next, hashes_none, hashes-long, whole, in-front, behind}
use Rattle.apart.proofs.Delays.{front_open}

-- ---- the loop

-- the same of numbers that are equal
one_as : {n n' now now' h h' i i' : ℕ} {b b' v v' : List ℕ} {e e' : Delay} {q q' : Reserve} {kept : Bool} → n ≡ n' → now ≡ now' → h ≡ h' → i ≡ i'
    → OneIn n now h i b b' v v' e e' q q' kept → OneIn n' now' h' i' b b' v v' e e' q q' kept
one_as en et eh ei x = rw (en, et, eh, ei) at x

module _ (z : List ℕ) (n now : ℕ) (from to : ℕ) where
  -- what is left to announce from the j-th on, e waiting before it, q known of the victims in the words a, the bits r so far, of which the next has the weight v
  pub record OnTheWay (l : Bool) (b a : List ℕ) (e : Delay) (q : Reserve) (st : State) (t₀ : Table) (j r v : ℕ) : Type 0 where
    pub now-table : Table
    pub opened : Open n l b a e q st now-table
    pub bits : r + v * kept_bits (limits_of st) n now j (hashes_at z j (to - j)) now-table ≡ kept_bits (limits_of st) n now from (hashes_at z from (to - from)) t₀
    pub rest : (parents_from (limits_of st) n now j (hashes_at z j (to - j)) now-table).table ≡ (parents_from (limits_of st) n now from (hashes_at z from (to - from)) t₀).table

  abbrev pub Way : List ℕ → List ℕ → Delay → Reserve → List ℕ → List ℕ → Delay → Reserve → ℕ → ℕ → ℕ → Type 0
  Way b₀ a₀ e₀ q₀ b a e q j r v = (l : Bool) (st : State) (t : Table) → Open n l b₀ a₀ e₀ q₀ st t → OnTheWay l b a e q st t j r v

  pub way-starts : (b a : List ℕ) (e : Delay) (q : Reserve) → Way b a e q b a e q from 0 1
  way-starts b a e q l st t x = record { now-table = t; opened = x; bits = omega arith; rest = refl }

  module _ {b₀ a₀ b a : List ℕ} {e₀ e : Delay} {q₀ q : Reserve} {j r v : ℕ} (x : Way b₀ a₀ e₀ q₀ b a e q j r v) where
    pub way_opens : {p : Parent} → ParentAt z n now j p → Opens n b₀ a₀ e₀ q₀ → Opens p.connection.number b a e q
    way_opens p k =
        let g = x k.late k.state k.now_table k.opened in
        subst (λ (m : ℕ). Opens m b a e q) (sym p.connection) (record { late = k.late; state = k.state; now_table = g.now-table; opened = g.opened })

    pub way_goes : {b' a' : List ℕ} {e' : Delay} {q' : Reserve} {kept : Bool} {r' : ℕ} {p : Parent} → j < to → ParentAt z n now j p
        → OneIn p.connection.number p.clock (hash_num p.hash) p.priority b b' a a' e e' q q' kept → r' ≡ r + v * one kept → Way b₀ a₀ e₀ q₀ b' a' e' q' (j + 1) r' (v * 2)
    unfolding kept_bits parents_from
    way_goes {b'} {a'} {e'} {q'} {kept} {r'} c p y i l st t k =
        let g = x l st t k in
        let u = g.now-table in
        let m = limits_of st in
        let o = one_as p.connection p.clock p.hash p.priority y l st u g.opened in
        let hs = hashes_at z (j + 1) (to - (j + 1)) in
        let next : hashes_at z j (to - j) ≡ parent_in z j ∷ hs = hashes_next z j (to - j) (omega arith) ∙
        ap (λ (c : ℕ). parent_in z j ∷ hashes_at z (j + 1) c) (let i : to - j - 1 ≡ to - (j + 1) = omega arith in i) in
        let u' = (one_parent m n now (parent_in z j) j u).table in
        let s = kept_bits m n now (j + 1) hs u' in
        record {
          now-table = u';
          opened = o.opened;
          bits =
              ap (λ (c : ℕ). c + v * 2 * s) i ∙ regroup r v (one kept) s
              ∙ ap (λ (c : Bool). r + v * (one c + 2 * s)) o.reply
              ∙ ap (λ (i : ℕ). r + v * (one (one_parent m n now (parent_in z j) j u).reply + 2 * kept_bits m n now i hs u')) (add-one j)
              ∙ ap (λ (l : List ℕ). r + v * kept_bits m n now j l u) (sym next) ∙ g.bits;
          rest = ap (λ (i : ℕ). (parents_from m n now i hs u').table) (add-one j) ∙ ap (λ (l : List ℕ). (parents_from m n now j l u).table) (sym next) ∙ g.rest;
        }
      where
        regroup : (r w z y : ℕ) → r + w * z + w * 2 * y ≡ r + w * (z + 2 * y)
        regroup r w z y = rw (mul-add w z (2 * y), mul_assoc w 2 y) (let u = w * z in let v = w * (2 * y) in omega arith)

    pub way-ends : j ≡ to → HalfIn n now b₀ b a₀ a from (hashes_at z from (to - from)) e₀ q₀ (record { bits = r; delay = e; reserve = q })
    unfolding kept_bits parents_from
    way-ends c l st t k =
        let g = x l st t k in
        let none : hashes_at z j (to - j) ≡ [] = hashes_none z j (to - j) (omega arith) in
        let u : g.now-table ≡ (parents_from (limits_of st) n now from (hashes_at z from (to - from)) t).table =
        sym (ap (λ (l : List ℕ). (parents_from (limits_of st) n now j l g.now-table).table) none) ∙ g.rest in
        let o = ap (λ (l : List ℕ). r + v * kept_bits (limits_of st) n now j l g.now-table) none in
        record { bits = omega (arith, o, g.bits); opened = subst (λ (y : Table). Open n l b a e q st y) u g.opened }

-- ---- both halves

pub half_opens : {b b₁ a a₁ hs : List ℕ} {n now i : ℕ} {e : Delay} {q : Reserve} {r : Half} → HalfIn n now b b₁ a a₁ i hs e q r → Opens n b a e q → Opens n b₁ a₁ r.delay r.reserve
half_opens x k = record { late = k.late; state = k.state; now_table = _; opened = (x k.late k.state k.now_table k.opened).opened }

module _ {b b₁ b₂ b₃ a₀ a₁ a₂ : List ℕ} {n now c e : ℕ} {d d₃ : Delay} {q : Reserve} {spent last : Bool} {x y : Half} (z : List ℕ) (known : q ≡ unlisted spent)
    (h : Halved c e) (first : HalfIn n now b b₁ a₀ a₁ 0 (hashes_at z 0 (e - 0)) d q x)
    (second : HalfIn n now b₁ b₂ a₁ a₂ e (hashes_at z e (c - e)) x.delay x.reserve y) (closed : Closes n b₂ b₃ a₂ y.delay d₃ y.reserve) (same : last ≡ y.reserve.spent) where
  abbrev hs : List ℕ
  hs = hashes_at z 0 c

  abbrev xs : List ℕ
  xs = hashes_at z 0 e

  abbrev ys : List ℕ
  ys = hashes_at z e (c - e)

  later : 0 + length (hashes_at z 0 e) ≡ e
  later = let l = hashes-long z 0 e in omega arith

  module _ (st : State) (t : Table) (f : Front b d st t) (k : spent ≡ true → Spent t) where
    abbrev t₁ : Table
    t₁ = (parents_from (limits_of st) n now 0 xs t).table

    half₁ : HalfAt n now d.later b₁ a₁ 0 xs st t x
    half₁ =
        let i : e - 0 ≡ e = omega arith in
        subst (λ (l : List ℕ). HalfAt n now d.later b₁ a₁ 0 l st t x) (ap (hashes_at z 0) i) (first d.later st t (front_open f k known))

    half₂ : HalfAt n now d.later b₂ a₂ e ys st t₁ y
    half₂ = second d.later st t₁ half₁.opened

    keys-are : picked_in hs x.bits y.bits ≡ (parents_from (limits_of st) n now 0 hs t).keys
    keys-are =
        let m = limits_of st in
        rw (in-front z h, behind z h, half₁.bits, half₂.bits, kept_picked m n now 0 xs t, kept_picked m n now e ys t₁)
        (sym (ap (λ (l : List ℕ). (parents_from m n now 0 l t).keys) (whole z h) ∙ parts-keys m n now 0 xs ys t ∙ rw later))

    table_is : (parents_from (limits_of st) n now 0 hs t).table ≡ (parents_from (limits_of st) n now e ys t₁).table
    table_is =
        let m = limits_of st in
        ap (λ (l : List ℕ). (parents_from m n now 0 l t).table) (whole z h) ∙ parts-table m n now 0 xs ys t ∙ ap (λ (i : ℕ). (parents_from m n now i ys t₁).table) later

    front-after : (d.later ≡ true → Plain (parents_from (limits_of st) n now 0 hs t).table) → Front b₃ d₃ st (parents_from (limits_of st) n now 0 hs t).table
    front-after p = subst (Front b₃ d₃ st) (sym table_is) ((closed d.later st _ half₂.opened).front (λ i. subst Plain table_is (p i)))

    none_left : last ≡ true → Spent (parents_from (limits_of st) n now 0 hs t).table
    none_left i = subst Spent (sym table_is) (half₂.opened.none_left (sym same ∙ i))

  pub both_noted : Noted b b₃ d d₃ spent n now hs (record { note = record { low = x.bits; high = y.bits }; spent = last })
  both_noted st t f k = record { keys = keys-are st t f k; front = front-after st t f k; none_left = none_left st t f k }
