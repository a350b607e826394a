-- How a call other than opening gets its contract: from the sound test, from the tests in turn, and from the core call on the bytes of the
-- need. Every call is an instance.
use Prim.Native.Nat.{ℕ, zero, suc, ◌*◌}
use mathlib.Core.Path.{◌≡◌, refl, sym, ap, subst, ◌∙◌}
use mathlib.Core.Bool.{Bool, true, false}
use mathlib.Core.List.{List, [], ◌++◌}
use native.Mathlib.Omega.{arith}
use lib.ListN.{length, take, drop, length-take}
use lib.Seq.{take_at, drop_at}
use Rattle.ident.specs.Number.{Key}
use Rattle.machine.specs.Limits.{Limits}
use Rattle.machine.specs.State.{State, Table, Answer, limits_of, on_table}
use Rattle.machine.specs.Table.{one}
use Rattle.machine.specs.Fail.{Listed}
use Rattle.machine.specs.Typed.{Each, KeyTyped}
use Rattle.machine.specs.Owners.{ascending}
use Rattle.machine.specs.Call.{Buffer, Ask, On, key_bytes, named, takes_place, late, ask_refusal}
use Rattle.machine.specs.Step.{Reply, Refused, Number, Keys, Result, answered, listed, perform, answer_bytes, written, Saved}
use Rattle.store.specs.Image.{Writes, SoundStore, Bytes, need_of}
use Rattle.store.specs.Shown.{limit_in, places_in}
use Rattle.store.proofs.Frame.{sizes}
use Rattle.lent_lists.specs.Lists.{keys_in}
use Rattle.lent_lists.proofs.KeysBack.{keys_back}
use Rattle.announcing.specs.Answers.{Answered, KeysListed}
use Rattle.sweeping.specs.Effects.{Replied, KeysHanded}
use Rattle.outcome.specs.declared.refusal.Refusal.{Refusal}
use Rattle.outcome.specs.Refusals.{number_of}
use Rattle.outcome.specs.Outcome.{Does, Leaves}
use Rattle.outcome.specs.Tests.{in_turn}
use Rattle.outcome.specs.Lent.{Lent}
use Rattle.outcome.proofs.Sizes.{need_kept}
use Rattle.outcome.proofs.Turns.{never_none, in-turn}
use Rattle.outcome.proofs.Contract.{does-carried, does-nothing, does-refused}

-- ---- refused, by what a test after the sound test answers

pub asked-refused : (a : Ask) {b : List ℕ} (v : SoundStore b) {u : Buffer} → u ≡ (named a v.state).buffer → (t : ℕ) → t ≡ ask_refusal true a v.state → (t ≡ 0 → ⊥)
    → Does (On a) b (record { reply = Refused t; buffer = u; store = b })
asked-refused a v q zero e h = absurd (h refl)
asked-refused a {b} v q (suc m) e h = does-refused b _ a v m (sym e) refl q refl

-- the same by the refusal that the test answers
pub asked_refused_by : (a : Ask) {b : List ℕ} (v : SoundStore b) {u : Buffer} → u ≡ (named a v.state).buffer → (e : Refusal) → number_of e ≡ ask_refusal true a v.state
    → Does (On a) b (record { reply = Refused (number_of e); buffer = u; store = b })
asked_refused_by a v q e p = asked-refused a v q (number_of e) p (never_none e)

-- ---- the tests 4 to 7, of a call that takes no place

-- what the call names
pub record Names (a : Ask) (ns ts : List ℕ) (parents : ℕ) (u : Buffer) (needs : State → ℕ) : Type 0 where
  pub are : (s : State) → named a s ≡ record { connections = ns; clocks = ts; parents = parents; hashes = []; buffer = u; needs = needs s }
  pub placeless : (s : State) → takes_place a s ≡ false

-- neither parents nor an answer buffer
abbrev pub Plain : Ask → List ℕ → List ℕ → Type 0
Plain a ns ts = Names a ns ts 0 [] (λ s. 0)

-- a list of so many keys at the most
abbrev pub Keyed : Ask → List ℕ → List ℕ → ℕ → Buffer → (State → ℕ) → Type 0
Keyed a ns ts parents u m = Names a ns ts parents u (λ s. key_bytes * m s)

module _ {a : Ask} {ns ts : List ℕ} {parents : ℕ} {u : Buffer} {m : State → ℕ} (k : Names a ns ts parents u m) {b : List ℕ} (v : SoundStore b) where
  -- it names no hashes
  timely : late a v.state ≡ 0
  unfolding late ascending
  timely = rw (k.are v.state)

  asked : ask_refusal true a v.state ≡ in_turn ns ts parents (length u) (m v.state)
  asked = in-turn a v.state timely (k.placeless v.state) ∙ rw (k.are v.state)

  answer-buffer : u ≡ (named a v.state).buffer
  answer-buffer = rw (k.are v.state)

  -- by what they answer: the call is refused, or it may be carried out
  pub refused : {t : ℕ} → t ≡ in_turn ns ts parents (length u) (m v.state) → (t ≡ 0 → ⊥) → Does (On a) b (record { reply = Refused t; buffer = u; store = b })
  refused {t} q = asked-refused a v answer-buffer t (q ∙ sym asked)

  pub refused_by : (e : Refusal) → number_of e ≡ in_turn ns ts parents (length u) (m v.state) → Does (On a) b (record { reply = Refused (number_of e); buffer = u; store = b })
  refused_by e q = refused q (never_none e)

  pub passes : 0 ≡ in_turn ns ts parents (length u) (m v.state) → ask_refusal true a v.state ≡ 0
  passes q = asked ∙ sym q

-- ---- carried out, on the bytes of the need

pub lent : {b : List ℕ} {n : ℕ} → SoundStore b → ((w : SoundStore b) → n ≡ need_of w.state) → Lent b n
lent {b} {n} v e =
    record {
      inside = omega (arith, v.long, e v);
      long = simp length-take (omega (arith, v.long, e v));
      kept = record { state = v.state; sound = v.sound; writes = rw (e v) v.writes };
      is = e;
    }

module _ {b : List ℕ} (v : SoundStore b) {n : ℕ} (e : Lent b n) where
  pub front_writes : Writes (take n b) v.state
  front_writes = rw (e.is v) v.writes

  pub front_limit : limit_in (take n b) ≡ v.state.limit
  front_limit = (sizes front_writes).limit

  pub front_places : places_in (take n b) ≡ v.state.places
  front_places = (sizes front_writes).places

  -- what the core call left of them is p
  module _ (a : Ask) (z : ask_refusal true a v.state ≡ 0) (p : List ℕ) (h : Bytes (p ++ drop n b)) where
    abbrev next : State
    next = (perform a v.state).state

    pub does_front : (r : Reply) (u : Buffer) → r ≡ (perform a v.state).reply → u ≡ written (answer_bytes (perform a v.state).reply) (named a v.state).buffer → Writes p next
        → Does (On a) b (record { reply = r; buffer = u; store = p ++ drop n b })
    does_front r u q w x =
        let l : length p ≡ need_of next = x.long in
        let m : n ≡ need_of next = e.is v ∙ sym (need_kept a v.state) in
        does-carried b _ a v z q w h (rw (take_at p (drop n b) (need_of next) l) x) (drop_at p (drop n b) (need_of next) l ∙ ap (λ (k : ℕ). drop k b) m)

-- ---- calls that answer yes or no

pub replies_done : (a : Ask) {b : List ℕ} (v : SoundStore b) → ask_refusal true a v.state ≡ 0 → [] ≡ (named a v.state).buffer → {reply : State → Bool} {next : State → State}
    → perform a v.state ≡ record { reply = Number (one (reply v.state)); state = next v.state } → {n : ℕ} → Lent b n → {p : List ℕ} → Bytes (p ++ drop n b)
    → {y : Bool} → Replied (take n b) p y reply next → {r : ℕ} → r ≡ one y → Leaves (On a) b (p ++ drop n b) (Number r)
unfolding written
replies_done a v z u d e {p} h g {r} o =
    let x = front_writes v e in
    let w = subst (λ (o : Result). Writes p o.state) (sym d) (g.state_is v.state v.sound x) in
    does_front v e a z p h (Number r) [] (rw (d, ← g.reply_is v.state v.sound x) (ap Number o)) (rw d u) w

-- what such a call names, answers and makes of the state
pub record Answers (a : Ask) (ns ts : List ℕ) (reply : State → Bool) (next : State → State) : Type 0 where
  pub names : Plain a ns ts
  pub performs : (s : State) → perform a s ≡ record { reply = Number (one (reply s)); state = next s }

pub answers_done : {a : Ask} {ns ts : List ℕ} {reply : State → Bool} {next : State → State} → Answers a ns ts reply next → {b : List ℕ} (v : SoundStore b) → 0 ≡ in_turn ns ts 0 0 0
    → {n : ℕ} → Lent b n → {p : List ℕ} → Bytes (p ++ drop n b) → {y : Bool} → Replied (take n b) p y reply next → {r : ℕ} → r ≡ one y → Leaves (On a) b (p ++ drop n b) (Number r)
answers_done {a} k v q e h g o = replies_done a v (passes k.names v q) (answer-buffer k.names v) (k.performs v.state) e h g o

-- a call that changes the table only
pub record YesNo (a : Ask) (ns ts : List ℕ) (f : Limits → Table → Answer) : Type 0 where
  pub names : Plain a ns ts
  pub performs : (s : State) → perform a s ≡ answered (f (limits_of s) s.table) s

pub yes-no_done : {a : Ask} {ns ts : List ℕ} {f : Limits → Table → Answer} → YesNo a ns ts f → {b : List ℕ} (v : SoundStore b) → 0 ≡ in_turn ns ts 0 0 0
    → {n : ℕ} → Lent b n → {p : List ℕ} → Bytes (p ++ drop n b) → {y : Bool} → Answered (take n b) p y f → {r : ℕ} → r ≡ one y → Leaves (On a) b (p ++ drop n b) (Number r)
yes-no_done {a} {ns} {ts} {f} k v q e h g o =
    let answers : Answers a ns ts (λ s. (f (limits_of s) s.table).reply) (λ s. on_table (f (limits_of s) s.table).table s) = record { names = k.names; performs = k.performs } in
    answers_done answers v q e h (record { reply_is = g.reply; state_is = g.table }) o

-- ---- calls that list keys

-- u is the answer buffer, m how many keys it must have room for
pub record Hands (a : Ask) (ns ts : List ℕ) (parents : ℕ) (u : Buffer) (m : State → ℕ) (ks : State → List Key) (next : State → State) : Type 0 where
  pub names : Keyed a ns ts parents u m
  pub performs : (s : State) → perform a s ≡ record { reply = Keys (ks s); state = next s }

pub hands_done : {a : Ask} {ns ts : List ℕ} {parents : ℕ} {u : Buffer} {m : State → ℕ} {ks : State → List Key} {next : State → State}
    → Hands a ns ts parents u m ks next → {b : List ℕ} (v : SoundStore b)
    → 0 ≡ in_turn ns ts parents (length u) (key_bytes * m v.state) → {n : ℕ} → Lent b n → {p : List ℕ} → Bytes (p ++ drop n b) → Each KeyTyped (ks v.state)
    → {u' : List ℕ} {c : ℕ} → KeysHanded (take n b) p u u' c ks next → Does (On a) b (record { reply = Keys (keys_in c u'); buffer = u'; store = p ++ drop n b })
hands_done {a} {u = u} {ks = ks} k v q e {p} h t {u'} {c} g =
    let d = k.performs v.state in
    let x = front_writes v e in
    let y = g.keys-are v.state v.sound x in
    let r : Keys (keys_in c u') ≡ (perform a v.state).reply = rw (d, g.count v.state v.sound x, y, keys_back (ks v.state) u t) in
    let w = subst (λ (o : Result). Writes p o.state) (sym d) (g.state_is v.state v.sound x) in
    does_front v e a (passes k.names v q) p h (Keys (keys_in c u')) u' r (rw (d, k.names.are v.state) y) w

-- a call that changes the table only
pub record Lists (a : Ask) (ns ts : List ℕ) (parents : ℕ) (u : Buffer) (m : State → ℕ) (f : Limits → Table → Listed) : Type 0 where
  pub names : Keyed a ns ts parents u m
  pub performs : (s : State) → perform a s ≡ listed (f (limits_of s) s.table) s

pub lists_done : {a : Ask} {ns ts : List ℕ} {parents : ℕ} {u : Buffer} {m : State → ℕ} {f : Limits → Table → Listed} → Lists a ns ts parents u m f → {b : List ℕ} (v : SoundStore b)
    → 0 ≡ in_turn ns ts parents (length u) (key_bytes * m v.state) → {n : ℕ} → Lent b n → {p : List ℕ} → Bytes (p ++ drop n b)
    → Each KeyTyped (f (limits_of v.state) v.state.table).keys → {u' : List ℕ} {c : ℕ} → KeysListed (take n b) p u u' c f
    → Does (On a) b (record { reply = Keys (keys_in c u'); buffer = u'; store = p ++ drop n b })
lists_done {a} {ns} {ts} {parents} {u} {m} {f} k v q e h t g =
    let hands : Hands a ns ts parents u m (λ s. (f (limits_of s) s.table).keys) (λ s. on_table (f (limits_of s) s.table).table s) = record { names = k.names; performs = k.performs } in
    hands_done hands v q e h t (record { count = g.count; keys-are = g.keys; state_is = g.table })

-- ---- calls that write a text and leave the store

-- u is the answer buffer, which must have room for the text
pub record Texts (a : Ask) (u : Buffer) (text : State → List ℕ) : Type 0 where
  pub names : Names a [] [] 0 u (λ s. length (text s))
  pub performs : (s : State) → perform a s ≡ record { reply = Saved (text s); state = s }

pub texts_done : {a : Ask} {u : Buffer} {text : State → List ℕ} → Texts a u text → {b : List ℕ} (v : SoundStore b) → Bytes b → 0 ≡ in_turn [] [] 0 (length u) (length (text v.state))
    → {u' : List ℕ} {n : ℕ} → n ≡ length (text v.state) → u' ≡ written (text v.state) u → Does (On a) b (record { reply = Saved (take n u'); buffer = u'; store = b })
unfolding written
texts_done {a} {u} {text} k {b} v h q {u'} {n} g w =
    let x = text v.state in
    let d = k.performs v.state in
    let front : take n u' ≡ x = rw (g, w) (take_at x (drop (length x) u) (length x) refl) in
    does-nothing b _ a v (passes k.names v q) (rw d (ap Saved front)) (rw (d, k.names.are v.state) w) (ap (λ (o : Result). o.state) d) h refl
