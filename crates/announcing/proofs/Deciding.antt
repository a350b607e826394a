-- What the machine's announce answers in each case, and the verdict that says so.
use Prim.Native.Nat.{ℕ}
use mathlib.Core.Path.{◌≡◌, refl, sym, ap, subst, ◌∙◌}
use mathlib.Core.Bool.{Bool, true, false, ◌||◌}
use mathlib.Core.List.{List, [], ◌∷◌}
use mathlib.Core.Option.{Option, some}
use native.Mathlib.Omega.{arith}
use lib.Dec.{leb}
use borrow.Author.Tests.{leb-false}
use Rattle.std.specs.Prelude as std
use Rattle.std.specs.Prelude.{Some, None}
use Rattle.ident.specs.Number.{Key}
use Rattle.machine.specs.Limits.{Limits, max_peer_announcements}
use Rattle.machine.specs.State.{Candidate, Table, Entry, Answer, refused, done}
use Rattle.machine.specs.Table.{held, held_by, held_at, is_candidate}
use Rattle.machine.specs.Announce.{victims, greatest_from, greatest, at_hash, anywhere, evicting, push, announce_at}
use Rattle.machine.specs.Sound.{Ordered}
use Rattle.machine.specs.Typed.{Each}
use Rattle.machine.proofs.Announce.{Victim, victims_all, greatest_of}
use Rattle.machine.proofs.Tests.{by_test, never, or_left, or_right}
use Rattle.store.specs.Gather.{candidate_at}
use Rattle.regions.specs.declared.Row.{Row}
use Rattle.announcing.specs.Evicts.{found}
use Rattle.announcing.specs.Enters.{in_place_of, Entering, Decided}

clash : {X : Type 0} {b : Bool} → b ≡ true → b ≡ false → X
clash p q = never (sym q ∙ p)

-- ---- a connection is barred for one of two reasons

pub barred_first : {r a : Bool} → r ≡ a → r ≡ true → (b : Bool) → true ≡ (a || b)
barred_first e y b = ap (λ (z : Bool). z || b) (sym y ∙ e)

pub barred-second : {r a x b : Bool} → r ≡ a → r ≡ false → x ≡ b → x ≡ (a || b)
barred-second {r} {a} {x} {b} e n q = q ∙ ap (λ (z : Bool). z || b) (sym n ∙ e)

-- ---- the greatest of a list is one of it

pub greatest_each : (P : Entry → Type 0) (l : List Entry) → Each P l → {e : Entry} → greatest l ≡ some e → P e
unfolding greatest
greatest_each P [] a q = let z : ◌≡◌ {A = ℕ} 0 1 = cc in absurd (omega arith)
greatest_each P (v ∷ l) a {e} q = let z : greatest_from v l ≡ e = cc in subst P z (greatest_of P v l a.0 a.1)

module _ (m : Limits) (k : Key) (c : Candidate) (t : Table) where
  abbrev pub Barred : Bool
  Barred = is_candidate c.connection k.hash t || leb max_peer_announcements (held_by c.connection t)

  abbrev pub Crowded : Bool
  Crowded = leb m.alternates (held_at k.hash t)

  abbrev Full : Bool
  Full = leb m.announcements (held t)

  -- ---- the answer, case by case

  pub when-barred : Barred ≡ true → announce_at m k c t ≡ refused t
  unfolding announce_at
  when-barred b =
      by_test (λ (z : Answer). z ≡ refused t) (is_candidate c.connection k.hash t) (λ e. refl) λ e.
      let z : leb max_peer_announcements (held_by c.connection t) ≡ true = rw e at b in
      rw z

  module _ (b : Barred ≡ false) where
    unknown : is_candidate c.connection k.hash t ≡ false
    unknown = or_left (is_candidate c.connection k.hash t) (leb max_peer_announcements (held_by c.connection t)) b

    allowed : leb max_peer_announcements (held_by c.connection t) ≡ false
    allowed = or_right (is_candidate c.connection k.hash t) (leb max_peer_announcements (held_by c.connection t)) b

    pub when-crowded : Crowded ≡ true → c.preferred ≡ true → announce_at m k c t ≡ evicting (greatest (victims (at_hash k.hash) t)) k c t
    unfolding announce_at
    when-crowded f p = rw (unknown, allowed, f) (by_test (λ (z : Answer). z ≡ evicting (greatest (victims (at_hash k.hash) t)) k c t) c.preferred (λ e. refl) (λ e. clash p e))

    pub when-crowded_out : Crowded ≡ true → c.preferred ≡ false → announce_at m k c t ≡ refused t
    unfolding announce_at
    when-crowded_out f p = rw (unknown, allowed, f) (by_test (λ (z : Answer). z ≡ refused t) c.preferred (λ e. clash e p) (λ e. refl))

    pub when-full : Crowded ≡ false → Full ≡ true → c.preferred ≡ true → announce_at m k c t ≡ evicting (greatest (victims anywhere t)) k c t
    unfolding announce_at
    when-full f g p = rw (unknown, allowed, f, g) (by_test (λ (z : Answer). z ≡ evicting (greatest (victims anywhere t)) k c t) c.preferred (λ e. refl) (λ e. clash p e))

    pub when-full_out : Crowded ≡ false → Full ≡ true → c.preferred ≡ false → announce_at m k c t ≡ refused t
    unfolding announce_at
    when-full_out f g p = rw (unknown, allowed, f, g) (by_test (λ (z : Answer). z ≡ refused t) c.preferred (λ e. clash e p) (λ e. refl))

    pub when-room : Crowded ≡ false → Full ≡ false → announce_at m k c t ≡ done (push k c t)
    unfolding announce_at
    when-room f g = rw (unknown, allowed, f, g)

  -- ---- the verdict

  pub entering : Barred ≡ false → Crowded ≡ false → Full ≡ false → Entering m k c t
  entering b f g = record { pushes = when-room b f g; new = unknown b; room = leb-false m.announcements (held t) g }

  pub replacing : (p : Key → Bool) → Ordered 0 t → Barred ≡ false → announce_at m k c t ≡ evicting (greatest (victims p t)) k c t
      → (v : std.Option Row) → found v ≡ greatest (victims p t) → Decided m k c t (in_place_of v)
  unfolding evicting candidate_at
  replacing p o b a None w = a ∙ ap (λ (x : Option Entry). evicting x k c t) (sym w)
  replacing p o b a (Some r) w =
      let x = greatest_each (Victim p 0 t) (victims p t) (victims_all p 0 t o) (sym w) in
      record { evicts = a ∙ ap (λ (x : Option Entry). evicting x k c t) (sym w); new = unknown b; goes = record { small = x.small; held = x.held; free = x.free } }
