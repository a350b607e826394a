-- Every owner that is due expires, one turn after the other, where the places are set apart.
use Prim.Native.Nat.{ℕ, zero, suc, ◌+◌, ◌≤◌, ◌<◌}
use mathlib.Core.Path.{◌≡◌, refl, sym, ap, subst, ◌∙◌}
use mathlib.Core.Logic.{inl, inr}
use mathlib.Core.Bool.{true, false}
use mathlib.Core.List.{List, [], ◌∷◌, ◌++◌}
use native.Mathlib.Omega.{arith}
use native.Mathlib.Numerals.{add-one}
use lib.ListN.{length, take, drop, get_or, length-map}
use Rattle.ident.specs.declared.Kind.{Kind}
use Rattle.ident.specs.declared.Kind.TheVariants.{Txid, Wtxid}
use Rattle.ident.specs.Number.{top, base, Key, place}
use Rattle.places.specs.Places.{Place}
use Rattle.machine.specs.Limits.{word}
use Rattle.machine.specs.State.{Request, Table, State, limits_of, on_table, owner_is}
use Rattle.machine.specs.Table.{at}
use Rattle.machine.specs.Plan.{Due, expired}
use Rattle.machine.specs.Sound.{Ordered, All, Lawful}
use Rattle.machine.proofs.Fail.{Peer}
use Rattle.machine.proofs.At.{at_here, at_there}
use Rattle.machine.proofs.Tests.{never}
use Rattle.store.specs.Image.{Writes}
use Rattle.store.specs.Shown.{Kept}
use Rattle.requests.specs.Changes.{Tells}
use Rattle.package_stages.specs.Records.{place_hashes}
use Rattle.apart.specs.Bare.{bare, bare_state}
use Rattle.apart.specs.declared.lapsing.Progress.{Progress}
use Rattle.apart.specs.Apart.{Slot, resting, plain, Clear, ClearFrom, Apart, Rested}
use Rattle.apart.specs.Delayed.{Delay, Starts, Ends, PendsIf, Lowest, Around}
use Rattle.parenting.specs.Displacing.{Spent}
use Rattle.apart.specs.Lapsing.{noted, ClearAt, Expires, Expiring as OwnerExpiring}
use Rattle.apart.proofs.SlotWords.{plain-long, plain_rest}
use Rattle.apart.proofs.BareTable.{sound-bare}
use Rattle.apart.proofs.Overdue.{front_is, rest_stays, slots_rest}
use Rattle.apart.proofs.OneOwner.{noted_none, around_within}
use Rattle.postponing.specs.Pending.{Unplaced}
use Rattle.apart.specs.Lapsing.{expire_at}
use Rattle.planning.specs.Expiring.{due_from, still_from, Leads, DueNext, ExpiresAll}
use Rattle.planning.proofs.BareDue.{due_from_bare}
use Rattle.planning.proofs.StillDue.{Basis, basis, front_keeps}
use Rattle.planning.proofs.Overdue.{due_cases, due_first, Expiring, expiring_start, expiring_end, expiring_more}

place_base : (t : Kind) (h : ℕ) → h < top → base t + h < top + top
place_base Txid h s = omega arith
place_base Wtxid h s = omega arith

pub place-small : (k : Key) → k.hash < top → place k + 1 ≤ top + top
place-small k s = let p = place_base k.kind k.hash s in omega (arith, p)

-- who is due owns its request
due-owns : (now x lo : ℕ) (t : Table) (d : Due) (ds : List Due) → Ordered lo t → All Lawful t → due_from now x t ≡ d ∷ ds → owner_is d.connection (at d.key t).owner ≡ true
unfolding due_from
due-owns now x lo [] d ds o l e = let z : ◌≡◌ {A = ℕ} 0 1 = cc in absurd (omega arith)
due-owns now x lo (r ∷ t) d ds o l e =
    elim (due_cases now x r) [
      | inl z ↦
          let q = sym (ap (λ (a : List Due). a ++ due_from now x t) z) ∙ e in
          let f = due_first now x (suc (place r.key)) t d ds o.2 l.1 q in
          ap (λ (y : Request). owner_is d.connection y.owner) (at_there d.key r t (λ w. omega (arith, f.low))) ∙ due-owns now x (suc (place r.key)) t d ds o.2 l.1 q
      | inr z ↦
          let f : ◌≡◌ {A = List Due} (record { key = r.key; connection = z.connection } ∷ due_from now x t) (d ∷ ds) = sym (ap (λ (a : List Due). a ++ due_from now x t) z.is) ∙ e in
          let k : ◌≡◌ {A = Due} (record { key = r.key; connection = z.connection }) d = cc in
          subst (λ (a : Due). owner_is a.connection (at a.key (r ∷ t)).owner ≡ true) k
          (ap (λ (y : Request). owner_is z.connection y.owner) (at_here r.key r t refl) ∙ z.owns)
    ]

-- the owners before the place x of the state st, with the places ps, are expired
pub record OnTheWay (now : ℕ) (st : State) (ps : List Place) (b f : List ℕ) (m x : ℕ) (e : Delay) (q : Progress) : Type 0 where
  pub table : Table
  pub places : List Slot
  pub around : Around b f m e (on_table table st) places
  pub hashes_same : place_hashes (plain places) ≡ place_hashes ps
  pub going : Expiring (limits_of st) now (expired now st) x table (noted places)
  pub later : ClearAt x places
  pub few : ClearFrom q.noted places
  pub none_left : q.spent ≡ true → Spent table

abbrev pub AllOnTheWay : List ℕ → List ℕ → List ℕ → List ℕ → ℕ → ℕ → ℕ → ℕ → Delay → Progress → Type 0
AllOnTheWay b₀ b f₀ f m c now x e q = (st : State) (ps : List Place) → Apart b₀ f₀ m st (resting ps) → c ≡ length ps → OnTheWay now st ps b f m x e q

same_long : (ps : List Place) (xs : List Slot) → place_hashes (plain xs) ≡ place_hashes ps → length ps ≡ length xs
same_long ps xs e = sym (length-map ps (λ (p : Place). p.hash)) ∙ ap length (sym e) ∙ length-map (plain xs) (λ (p : Place). p.hash) ∙ plain-long xs

-- nothing is noted at rest
pub rest_clear : (ps : List Place) (j : ℕ) (d : Slot) → j < length (resting ps) → Clear (get_or (resting ps) j d)
rest_clear [] j d h = absurd (omega arith)
rest_clear (p ∷ ps) zero d h = record { low_bits = refl; high_bits = refl }
rest_clear (p ∷ ps) (suc j) d h = rest_clear ps j d (omega arith)

-- without packages no request has a place
pub unplaced_bare : (t : Table) → Unplaced (bare t)
unfolding bare
unplaced_bare [] = tt
unplaced_bare (r ∷ t) = (refl, unplaced_bare t)

pub way-starts : {b f : List ℕ} {m c : ℕ} {e : Delay} (now x : ℕ) → x ≡ 0 → Starts (take m b) e → (q : Progress) → q.spent ≡ false → AllOnTheWay b b f f m c now x e q
way-starts now x e front q z st ps o n =
    let none = noted_none (resting ps) (λ j d g h. rest_clear ps j d h) in
    record {
      table = st.table;
      places = resting ps;
      around = record {
        sound = o.sound;
        size = o.size;
        long = o.long;
        first_long = o.first_long;
        front = front (bare_state st) (sound-bare o.sound) o.writes (unplaced_bare st.table);
        slots = o.slots;
        lives = o.lives;
        ascend = o.ascend;
        short = o.short;
      };
      hashes_same = ap place_hashes (plain_rest ps);
      going = subst (λ (ks : List Key). Expiring (limits_of st) now (expired now st) x st.table ks) (sym none)
          (subst (λ (i : ℕ). Expiring (limits_of st) now (expired now st) i st.table []) (sym e) (expiring_start (limits_of st) now st.table o.sound.bounded.ordered));
      later = λ j d h l. rest_clear ps j d h;
      few = λ j d g h. rest_clear ps j d h;
      none_left = λ i. never (sym z ∙ i);
    }

-- ---- what the functions ask for, of the state that there is

module _ {b₀ b f₀ f : List ℕ} {m c now x : ℕ} {e : Delay} {q : Progress} (p : Rested b₀ f₀ m c) (a : AllOnTheWay b₀ b f₀ f m c now x e q) where
  abbrev here : OnTheWay now p.state p.places b f m x e q
  here = a p.state p.places p.apart p.count

  pub way-within : m ≤ length b
  way-within = around_within here.around

  pub way-kept : Kept (take m b)
  way-kept = front_keeps here.around.front

  pub way-pends : PendsIf e.later (take m b) e
  way-pends i = record { state = bare_state (on_table here.table p.state); now_table = bare here.table; pending = here.around.front.later i }

-- ---- an owner

module _ {b₀ b f₀ f : List ℕ} {m c now x low : ℕ} {e : Delay} {k : Key} {n : ℕ} {q : Progress} (a : AllOnTheWay b₀ b f₀ f m c now x e q) (l : Lowest e.later low)
    (next : DueNext (take m b) low now x k n) where
  module _ (st : State) (ps : List Place) (o : Apart b₀ f₀ m st (resting ps)) (count : c ≡ length ps) where
    abbrev way : OnTheWay now st ps b f m x e q
    way = a st ps o count

    abbrev t : Table
    t = way.table

    abbrev told : Basis (take m b) low now x (bare_state (on_table t st)) (bare t)
    told = basis way.around.front now x l

    abbrev leads : Leads low now x k n told.base
    leads = next.first (on_table told.base (bare_state (on_table t st))) told.sound told.writes

    pub next-due : due_from now x t ≡ record { key = k; connection = n } ∷ leads.rest
    next-due = sym (due_from_bare now x t) ∙ sym told.same ∙ leads.is

    pub next-owns : owner_is n (at k t).owner ≡ true
    next-owns = let s = way.around.sound in due-owns now x 0 t (record { key = k; connection = n }) leads.rest s.bounded.ordered s.bounded.lawful next-due

    pub next-peer : Peer n
    next-peer = let s = way.around.sound in (due_first now x 0 t (record { key = k; connection = n }) leads.rest s.bounded.ordered s.bounded.lawful next-due).typed.peer

    pub next-expiring : OwnerExpiring b f m c e k n q.spent
    next-expiring = record { state = on_table t st; places = way.places; around = way.around; count = count ∙ same_long ps way.places way.hashes_same; own = next-owns; none_left = way.none_left }

  pub way-expiring : Rested b₀ f₀ m c → OwnerExpiring b f m c e k n q.spent
  way-expiring p = next-expiring p.state p.places p.apart p.count

  pub way-peer : Rested b₀ f₀ m c → Peer n
  way-peer p = next-peer p.state p.places p.apart p.count

  pub way_goes : {b' f' : List ℕ} {e' : Delay} {q' : Progress} → now < word → Expires b b' f f' m c e e' k n now q q' → AllOnTheWay b₀ b' f₀ f' m c now (place k + 1) e' q'
  way_goes {b'} {f'} {e'} {q'} w one st ps o count =
      let g = way st ps o count in
      let s = g.around.sound in
      let y = one.goes (on_table g.table st) g.places g.around (count ∙ same_long ps g.places g.hashes_same) (next-owns st ps o count) g.none_left in
      let t₁ = (expire_at (limits_of st) now k n g.table).table in
      let ks₁ = (expire_at (limits_of st) now k n g.table).keys in
      let here : ClearAt (place k) g.places = λ j d h l. g.later j d h (omega (arith, next.from)) in
      let more = expiring_more g.going (record { key = k; connection = n }) _ w s.bounded (next-due st ps o count) in
      record {
        table = t₁;
        places = y.places;
        around = y.around;
        hashes_same = y.hashes_same ∙ g.hashes_same;
        going = subst (λ (ks : List Key). Expiring (limits_of st) now (expired now st) (place k + 1) t₁ ks) (sym (y.keys here)) (subst (λ (i : ℕ). Expiring (limits_of st) now (expired now st) i t₁
            (noted g.places ++ ks₁)) (sym (add-one (place k))) more);
        later = λ j d h l. y.later here j d h (omega arith);
        few = y.few here g.few;
        none_left = y.none_left;
      }

-- ---- all

pub way-ends : {b₀ b b' v f₀ f : List ℕ} {m c now x low : ℕ} {e : Delay} {q : Progress} → q.noted ≤ c → AllOnTheWay b₀ b f₀ f m c now x e q → Lowest e.later low
    → Tells (take m b) (λ t. still_from low now x t ≡ []) → Ends (take m b) v e → length v ≡ length (take m b) → length b' ≡ length b → b' ≡ v ++ drop m b → ExpiresAll b₀ b' f₀ f m c now q.noted
way-ends {b = b} {b'} {v} {f = f} {m} {now = now} {x} {e = e} {q} l a low d ends nv nb again = record {
  most = l;
  goes = λ st ps o n.
      let g = a st ps o n in
      let t = g.table in
      let u = basis g.around.front now x low in
      let z = expiring_end g.going (sym (due_from_bare now x t) ∙ sym u.same ∙ d (on_table u.base (bare_state (on_table t st))) u.sound u.writes) in
      let w = around_within g.around in
      record {
        places = g.places;
        apart = subst (λ (y : Table). Apart b' f m (on_table y st) g.places) z.1 (record {
          sound = g.around.sound;
          size = g.around.size;
          long = nb ∙ g.around.long;
          first_long = g.around.first_long;
          writes = subst (λ (y : List ℕ). Writes y (bare_state (on_table t st))) (sym (ap (take m) again ∙ front_is b v m w nv)) (ends (bare_state (on_table t st)) (bare t) g.around.front);
          slots = slots_rest (ap (drop m) again ∙ rest_stays b v m w nv) g.around.slots;
          lives = g.around.lives;
          ascend = g.around.ascend;
          short = g.around.short;
        });
        count = n ∙ same_long ps g.places g.hashes_same;
        few = g.few;
        keys = z.0;
      };
}
