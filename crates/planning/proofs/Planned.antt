-- A whole plan: the places set apart, expiry, two phases, the places put back.
use Prim.Native.Nat.{ℕ, zero, suc, ◌≤◌, ◌<◌}
use mathlib.Core.Path.{◌≡◌, refl, sym, ap, subst, ◌∙◌}
use mathlib.Core.List.{List, ◌++◌}
use mathlib.Core.Option.{Option, none, some}
use native.Mathlib.Omega.{arith}
use lib.ListN.{length, take, drop, length-map}
use Rattle.ident.specs.Number.{Key}
use Rattle.machine.specs.Limits.{word, max_places}
use Rattle.machine.specs.State.{Table, State, on_table, with_ready_cursor}
use Rattle.machine.specs.Plan as machine
use Rattle.machine.specs.Later.{next_look, time_of}
use Rattle.machine.proofs.Later.{look-later}
use Rattle.std.specs.Prelude as rust
use Rattle.choosing.specs.Choosing.{option_of}
use Rattle.machine.specs.Sound.{Sound}
use Rattle.machine.specs.Step.{entries_answer, written}
use Rattle.machine.specs.Sweep.{round}
use Rattle.machine.proofs.Plan.{bounded-expired, expired-keys, plan-cursor}
use Rattle.machine.proofs.AnswerLengths.{length-sort_by_priority as sort-count}
use Rattle.store.specs.Flat.{places_of}
use Rattle.store.specs.Image.{Writes}
use Rattle.store.specs.Shown.{limit_in, held_places_in, Kept}
use Rattle.store.proofs.Frame.{sizes}
use Rattle.requests.specs.Changes.{Tells}
use Rattle.apart.specs.Bare.{bare, bare_state}
use Rattle.apart.specs.Apart.{at_rest, resting, plain, Forgotten, Apart, Parted, Rested, SetApart, PutBack}
use Rattle.apart.specs.Lapsing.{noted}
use Rattle.apart.proofs.SlotWords.{plain-long}
use Rattle.apart.proofs.Forgetting.{forgotten_apart, forgotten_behind}
use Rattle.apart.proofs.BareTable.{sound-bare, keys-bare}
use Rattle.apart.proofs.BareChoice.{phase-bare}
use Rattle.apart.proofs.Overdue.{front_is, rest_stays, slots_rest}
use Rattle.selecting.specs.declared.Scan.{Scan}
use Rattle.planning.specs.declared.replying.Reply.{Reply}
use Rattle.selecting.specs.Selecting.{Fresh, Scanning}
use Rattle.planning.specs.Expiring.{ExpiresAll}
use Rattle.planning.specs.Noting.{NotedPhased}
use Rattle.planning.specs.Replying.{Selects, asks, Asks, AsksOf, Begun, BegunTo, Begins, SelectsOf, PlansOf}
use Rattle.planning.proofs.Whole.{fresh-scan}

-- ---- expiry and the first phase

pub rested_few : {b f : List ℕ} {m c : ℕ} → Rested b f m c → c ≤ max_places
rested_few p = omega (arith, p.count, length-map p.places at_rest, p.apart.slots.few, p.apart.sound.most-places)

pub expired-parted : {b b₁ f f₁ : List ℕ} {m c now e : ℕ} → ExpiresAll b b₁ f f₁ m c now e → Rested b f m c → Parted b₁ f₁ m c
expired-parted {now = now} x p =
    let g = x.goes p.state p.places p.apart p.count in
    record { state = on_table (machine.expired now p.state).table p.state; places = g.places; apart = g.apart; count = g.count }

pub begun : {b b₁ b₂ b₃ f f₁ f₃ : List ℕ} {m c now e : ℕ} {p p₂ : List ℕ} {v w : Scan} → c ≤ max_places → ExpiresAll b b₁ f f₁ m c now e → Fresh v → NotedPhased b₁ b₂ f₁ m e p p₂ now v w
    → Forgotten b₂ b₃ f₁ f₃ m e → length b₃ ≡ length b₁ → length f₃ ≡ length f₁ → Begins b b₃ f f₃ m c p₂ now w
begun {b₁ = b₁} {b₂} {b₃} {f₁ = f₁} {f₃} {m} {c} {now} {e} {p} {p₂} {v} {w} few x fr y z nb nf = record {
  near = omega (arith, y.near, fr.considered, x.most);
  goes = λ st ps o n.
      let g = x.goes st ps o n in
      let st₁ = on_table (machine.expired now st).table st in
      let l : e ≤ length g.places = omega (arith, x.most, g.count) in
      let q = y.goes st.places g.places l g.few g.apart.slots g.apart.short in
      let a = fresh-scan {p = p} now (bare_state st₁) v fr (sound-bare g.apart.sound) g.apart.writes in
      record {
        before = take m b₁ ++ drop m b₃;
        places = plain g.places;
        apart = forgotten_apart g.apart l g.few y.rest z nb nf;
        count = g.count ∙ sym (plain-long g.places);
        rest = sym (forgotten_behind b₁ b₃ m (omega (arith, g.apart.long)));
        stands = subst (λ (k : List Key). Scanning now (bare_state st₁) (machine.phase now (bare st₁.table) k machine.start) (take m b₃) p₂ w) g.keys
            (subst (λ (u : List ℕ). Scanning now (bare_state st₁) (machine.phase now (bare st₁.table) (noted g.places) machine.start) u p₂ w) (sym z.front)
            (q.goes (bare_state st₁) machine.start a));
      };
}

pub set-parted : {b₀ b₁ f₁ : List ℕ} {m c : ℕ} → Kept b₀ → SetApart b₀ b₁ f₁ m → c ≡ held_places_in b₀ → Rested b₁ f₁ m c
set-parted k s e = record { state = k.state; places = places_of k.state.table; apart = s k.state k.sound k.writes; count = e ∙ (sizes k.writes).held-places }

-- ---- the whole

asked-bare : (asked : Option (List Key)) (c : Option Key) (t : Table) → machine.asked_keys asked c (bare t) ≡ machine.asked_keys asked c t
asked-bare none c t = ap (round c) (keys-bare t)
asked-bare (some ks) c t = refl

module _ {b₀ b₁ b₂ f₁ f₂ p₂ : List ℕ} {m c now : ℕ} (asked : Option (List Key)) {w : Scan} (late : now < word) (set : SetApart b₀ b₁ f₁ m) (beg : Begins b₁ b₂ f₁ f₂ m c p₂ now w) (held : c
    ≡ held_places_in b₀) where
  module _ (st : State) (s : Sound st) (o : Writes b₀ st) where
    abbrev st₁ : State
    st₁ = on_table (machine.expired now st).table st

    pub start : BegunTo b₂ f₂ m c st p₂ now w
    start = beg.goes st (places_of st.table) (set st s o) (held ∙ (sizes o).held-places)

    abbrev first : machine.Scan
    first = machine.phase now (bare st₁.table) (machine.expired now st).keys machine.start

    scanning : Scanning now (bare_state st₁) first (take m b₂) p₂ w
    scanning = start.stands

    pub started : Begun now (take m b₂) p₂ w
    started = record {
      state = bare_state st₁;
      some-keys = (machine.expired now st).keys;
      typed = expired-keys now st late s;
      stands = scanning;
    }

    pub limit_is : limit_in (take m b₂) ≡ limit_in b₀
    limit_is = omega (arith, (sizes scanning.marks.writes).limit, (sizes o).limit)

    scan_is : asks now asked (bare_state st₁) first ≡ machine.scanned now asked st
    scan_is =
        let t = st₁.table in
        ap (λ (ks : List Key). machine.phase now (bare t) ks first) (asked-bare asked st.ready_cursor t)
        ∙ phase-bare now t (machine.asked_keys asked st.ready_cursor t) first
        ∙ ap (machine.phase now t (machine.asked_keys asked st.ready_cursor t)) (phase-bare now t (machine.expired now st).keys machine.start)

    abbrev cursor : Option Key
    cursor = machine.cursor_after asked (machine.scanned now asked st).last st.ready_cursor

    sound-after : Sound (with_ready_cursor cursor st₁)
    sound-after =
        let g = start.apart.sound in
        record {
          some_limit = g.some_limit;
          most-limit = g.most-limit;
          some_place = g.some_place;
          most-places = g.most-places;
          bounded = g.bounded;
          poll = g.poll;
          known = g.known;
          ready = plan-cursor now asked st late s;
        }

    module _ {x b₃ u u' : List ℕ} {r : Reply} (l : m ≤ length b₂) (nx : length x ≡ length (take m b₂)) (e₃ : b₃ ≡ x ++ drop m b₂) (n₃ : length
        b₃ ≡ length b₁)
        (nf : length f₂ ≡ length f₁) (ask : AsksOf (take m b₂) x p₂ u u' now asked w r) where
      answer : Asks now asked (bare_state st₁) first x u u' r
      answer = ask (bare_state st₁) first scanning

      pub apart-after : Apart b₃ f₂ m (with_ready_cursor cursor st₁) (resting start.places)
      apart-after =
          let g = start.apart in
          let a = set st s o in
          record {
            sound = sound-after;
            size = g.size;
            long = n₃ ∙ a.long;
            first_long = g.first_long;
            writes = subst (λ (z : List ℕ). Writes z (bare_state (with_ready_cursor cursor st₁))) (sym (ap (take m) e₃ ∙ front_is b₂ x m l nx))
                (subst (λ (k : machine.Scan). Writes x (with_ready_cursor (machine.cursor_after asked k.last st.ready_cursor) (bare_state st₁))) scan_is answer.state);
            slots = slots_rest (ap (drop m) e₃ ∙ rest_stays b₂ x m l nx ∙ start.rest) g.slots;
            lives = g.lives;
            ascend = g.ascend;
            short = g.short;
          }

      pub parted-after : Rested b₃ f₂ m c
      parted-after = record { state = with_ready_cursor cursor st₁; places = start.places; apart = apart-after; count = start.count }

      pub plan_is : {b₄ : List ℕ} → PutBack b₃ b₄ f₂ m c → Selects now asked st b₄ u u' r
      unfolding machine.plan
      plan_is back = record {
        count = answer.count ∙ ap (λ (k : machine.Scan). length k.chosen) scan_is ∙ sym (sort-count (machine.scanned now asked st).chosen);
        entries = answer.entries ∙ ap (λ (k : machine.Scan). written (entries_answer (machine.sort_by_priority k.chosen)) u) scan_is;
        considered = answer.considered ∙ ap (λ (k : machine.Scan). k.considered) scan_is;
        state = back (with_ready_cursor cursor st₁) start.places apart-after start.count;
      }

-- ---- and when to look again

module _ {b b' u u' : List ℕ} {now : ℕ} (asked : Option (List Key)) {r : Reply} (late : now < word) (h : SelectsOf b b' u u' now asked r) where
  sound-plan : (st : State) → Sound st → Sound (machine.plan now asked st).state
  unfolding machine.plan
  sound-plan st g = record {
    some_limit = g.some_limit;
    most-limit = g.most-limit;
    some_place = g.some_place;
    most-places = g.most-places;
    bounded = bounded-expired now st late g;
    poll = g.poll;
    known = g.known;
    ready = plan-cursor now asked st late g;
  }

  pub plan_kept : Kept b → Kept b'
  plan_kept k = record { state = (machine.plan now asked k.state).state; sound = sound-plan k.state k.sound; writes = (h k.state k.sound k.writes).state }

  pub plan_next : (n : rust.Option ℕ) → Tells b' (λ t. option_of n ≡ next_look now t) → PlansOf b b' u u' now asked (record { count = r.count; considered = r.considered; next = n })
  unfolding machine.plan
  plan_next n f st s w =
      let g = h st s w in
      record { count = g.count; entries = g.entries; considered = g.considered; next = f _ (sound-plan st s) g.state; state = g.state }

-- the next look as a number, 0 for none: a time later than now is no 0
module _ (now : ℕ) where
  look-number : (t : Table) (n : rust.Option ℕ) → option_of n ≡ next_look now t → time_of (rust.unwrap_or n 0) ≡ next_look now t
  look-number t rust.None e = e
  look-number t (rust.Some zero) e = let h = (look-later now 0 t (sym e)).later in absurd (omega (arith, h))
  look-number t (rust.Some (suc n)) e = e

  pub next-number : (asked : Option (List Key)) (st : State) (n : rust.Option ℕ) → option_of n ≡ (machine.plan now asked st).next → time_of (rust.unwrap_or n 0) ≡ (machine.plan now asked st).next
  unfolding machine.plan
  next-number asked st n e = look-number _ n e
