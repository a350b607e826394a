-- Standard input a byte at a time: what the program keeps is what was read.
use Prim.Native.Nat.{ℕ, suc, ◌+◌, ◌-◌, ◌<◌, ◌≤◌}
use mathlib.Core.Path.{◌≡◌, refl, sym, ap, subst, ◌∙◌}
use mathlib.Core.Bool.{true, false}
use mathlib.Core.List.{List, [], ◌∷◌, ◌++◌, append_assoc, append-nil}
use mathlib.Core.Logic.{inl, inr}
use mathlib.Core.Option.{Option, none, some}
use native.Mathlib.Omega.{arith}
use lib.Dec.{eqb}
use lib.ListN.{length, take, drop, set, length-append, length-drop}
use lib.Seq.{take_all, take_at, take-append-le, take-append-add, take-add, drop-drop, drop-append_seam, take-suc-set}
use borrow.Author.Tests.{lt-ltb, le-ltb, eqb-true, eqb-false, ltb-true, ltb-false}
use borrow.Rule.Slice.PartMut.{put_mid}
use Rattle.std.proofs.lemmas.List.{length-take-le}
use Rattle.std.proofs.lemmas.Slice.{take-put_mid}
use Rattle.words.specs.Words.{splice}
use Rattle.machine.specs.Fields.{before, behind}
use Rattle.machine.proofs.Tests.{test}
use Rattle.machine.proofs.Parting.{take-before, before-nil, before-skip, before-met, parted}
use Rattle.lines.specs.Text.{Wrote}
use Rattle.events.specs.declared.so_far.Length.{Length}
use Rattle.events.specs.declared.so_far.SoFar.{SoFar}
use Rattle.events.specs.declared.so_far.SoFar.TheVariants.{Whole, TooLong}
use Rattle.reading.specs.Line.{Line}
use Rattle.asking.specs.Calls.{line_of}
use Rattle.printing.specs.Replies.{refusal_text, unreadable}
use Rattle.printing.specs.Given.{line_room}
use Rattle.printing.specs.Kept.{KeptLists, no_lists, Meant, Calls, Parts, meant}
use Rattle.printing.specs.Answers as answers
use Rattle.printing.specs.Answers.{AnsweredAs, Answered}
use Rattle.events.specs.Input.{asked_in, has_line, HeldLine, asks_for, MeantAs, Replied, line_feed, LineAnswered, Reading, started, ReadsAll}
use Rattle.events.specs.Input.{nothing, further, EndsAs, Held, Said, Took, TookAll, TookSome, Ended, Ran}

-- ---- one answer

-- the text that was printed
record Text (R : List ℕ → Type 0) (out out' : List ℕ) (r : ℕ) : Type 0 where
  text : List ℕ
  replied : R text
  wrote : Wrote out out' 0 text r

module _ (k k' : KeptLists) (b b' out out' : List ℕ) (r : ℕ) where
  meant-text : (x : Line) (m : Meant) → answers.MeantAs x m k k' b b' out out' r → Text (MeantAs x m k k' b b') out out' r
  meant-text x (Calls c) a = record {
    text = _;
    replied = record { effect = a.carried.effect; does = a.carried.does; store = a.carried.store; kept = a.kept; text_is = refl };
    wrote = a.carried.text.wrote;
  }
  meant-text x (Parts n) a = record { text = _; replied = record { sound = a.sound; tested = a.tested; store = a.store; kept = a.kept; text_is = refl }; wrote = a.text.wrote }

  text_of : (o : Option Line) → AnsweredAs o k k' b b' out out' r → Text (Replied o k k' b b') out out' r
  text_of none a = record { text = refusal_text unreadable; replied = record { is = (a.kept, a.store, refl) }; wrote = a.text.wrote }
  text_of (some x) a = let t = meant-text x (meant k x) a in record { text = t.text; replied = record { is = t.replied }; wrote = t.wrote }

-- it stands at the front
front_of : {out out' : List ℕ} (t : List ℕ) {r : ℕ} → Wrote out out' 0 t r → take r out' ≡ t
unfolding splice
front_of {out} {out'} t {r} w =
    let n : r ≡ length t = omega (arith, w.next) in
    rw (w.bytes, n) (take_at t (drop (0 + length t) out) (length t) refl)

length_fed : (t : List ℕ) → length (t ++ (line_feed ∷ [])) ≡ suc (length t)
length_fed t = length-append t (line_feed ∷ []) ∙ omega arith

-- and a line feed behind it
pub fed : {o : Option Line} {k k' : KeptLists} {b b' out out' : List ℕ} {r e : ℕ} → Answered o k k' b b' out out' r → r < length out' → e ≡ suc r → Said o k k' b b' (set out' r line_feed) e
fed {o} {k} {k'} {b} {b'} {out} {out'} {r} {e} a h q =
    let t = text_of k k' b b' out out' r o a.is in
    record {
      text = t.text;
      replied = t.replied;
      count = omega (arith, q, t.wrote.next, length_fed t.text);
      shown = rw q (take-suc-set out' r line_feed h ∙ ap (λ (s : List ℕ). s ++ (line_feed ∷ [])) (front_of t.text t.wrote));
    }

-- ---- the line that is answered

asked-line : (k : SoFar) (buffer line : List ℕ) → HeldLine k buffer line → asked_in k buffer ≡ asks_for line
asked-line (Whole n) buffer line h = rw (le-ltb line_room (length line) h.1) (ap line_of h.2)
asked-line TooLong buffer line h = rw (lt-ltb line_room (length line) h.0) refl

module _ {k : SoFar} {buffer store : List ℕ} {lists : KeptLists} {p : Reading} (g : Held k buffer store lists p) where
  answered-line : {lists' : KeptLists} {store' out : List ℕ} {r : ℕ} (a : Said (asked_in k buffer) lists lists' store store' out r)
      → LineAnswered p.line p.kept lists' p.store store' (a.text ++ (line_feed ∷ []))
  answered-line {lists'} {store'} a =
      let w = subst (λ (o : Option Line). Replied o lists lists' store store' a.text) (asked-line k buffer p.line g.line_is) a.replied in
      let x = subst (λ (b : List ℕ). Replied (asks_for p.line) lists lists' b store' a.text) g.store_is w in
      record { text = a.text; replied = subst (λ (z : KeptLists). Replied (asks_for p.line) z lists' p.store store' a.text) g.lists-are x; said_is = refl }

  -- ---- a line feed

  pub took_feed : {none : Length} {buffer' : List ℕ} {lists' : KeptLists} {store' out : List ℕ} {r : ℕ} → none.bytes ≡ 0 → Said (asked_in k buffer) lists lists' store store' out r
      → Took p line_feed (Whole none) buffer' store' lists' out
  took_feed {none} {buffer'} {lists'} {store'} {out} {r} z a =
      record {
        next = record { line = []; store = store'; kept = lists' };
        said = a.text ++ (line_feed ∷ []);
        reads = record { is = (refl, answered-line a) };
        held = record { line_is = (z, omega arith, rw z refl); store_is = refl; lists-are = refl };
        shown = rw (← a.count) a.shown;
      }

-- ---- more bytes of a line

-- the line is too long already
pub held-longer : (k : SoFar) (buffer line ys : List ℕ) → ((n : Length) → k ≡ Whole n → ⊥) → HeldLine k buffer line → HeldLine k buffer (line ++ ys)
held-longer (Whole n) buffer line ys short h = absurd (short n refl)
held-longer TooLong buffer line ys short h = (omega (arith, h.0, length-append line ys), h.1 ∙ sym (take-append-le line_room line ys (omega (arith, h.0))))

module _ (b : ℕ) (buffer line ys : List ℕ) (h : (b ≡ length line) × (length line ≤ line_room) × (take b buffer ≡ line)) (room : line_room ≤ length buffer) (i : ℕ) {k : ℕ} {x : List ℕ}
    (e : x ≡ take k ys) (l : k ≤ length ys) where
  put-behind : (m : ℕ) → m ≡ length line + k → take m (put_mid b i buffer x) ≡ line ++ take k ys
  put-behind m g =
      let z = ap length e ∙ length-take-le k ys l in
      take-put_mid b i buffer x m (omega (arith, g, z, h.0)) (omega (arith, h.0, h.1, room)) ∙ rw (h.2, e) refl

  -- the buffer is full before the last of them
  pub held-over : k < length ys → b + k ≡ line_room → HeldLine TooLong (put_mid b i buffer x) (line ++ ys)
  held-over o f =
      let g : line_room ≡ length line + k = omega (arith, h.0, f) in
      (omega (arith, g, o, length-append line ys), put-behind line_room g ∙ subst (λ (m : ℕ). line ++ take k ys ≡ take m (line ++ ys)) (sym g) (sym (take-append-add line ys k)))

  -- the buffer takes them
  pub held-on : (m : ℕ) → m ≡ b + k → b + k ≤ line_room → length ys ≤ k
      → (m ≡ length (line ++ ys)) × (length (line ++ ys) ≤ line_room) × (take m (put_mid b i buffer x) ≡ line ++ ys)
  held-on m q f o =
      let g : m ≡ length line + k = omega (arith, h.0, q) in (
        omega (arith, g, o, l, length-append line ys),
        omega (arith, g, q, f, o, l, length-append line ys),
        put-behind m g ∙ ap (λ (t : List ℕ). line ++ t) (take_all k ys o),
      )

-- ---- the end

pub some-line : (k : SoFar) (buffer line : List ℕ) → HeldLine k buffer line → has_line k ≡ true → 0 < length line
some-line (Whole n) buffer line h e = omega (arith, h.0, ltb-true 0 n.bytes e)
some-line TooLong buffer line h e = omega (arith, h.0)

pub no-line : (k : SoFar) (buffer line : List ℕ) → HeldLine k buffer line → has_line k ≡ false → length line ≡ 0
no-line (Whole n) buffer line h e = omega (arith, h.0, ltb-false 0 n.bytes e)
no-line TooLong buffer line h e = cc

pub ended-empty : {k : SoFar} {buffer store : List ℕ} {lists : KeptLists} {out : List ℕ} {p : Reading} → Held k buffer store lists p → length p.line ≡ 0 → Ended p store out
ended-empty {store = store} {p = p} g n = record { kept = p.kept; said = []; ends = go p.line n; shown = refl }
  where
    go : (l : List ℕ) → length l ≡ 0 → EndsAs l p.kept p.kept p.store store []
    go [] z = (g.store_is, refl)
    go (x ∷ l) z = absurd (omega (arith, z))

pub ended-line : {k : SoFar} {buffer store : List ℕ} {lists lists' : KeptLists} {store' out : List ℕ} {p : Reading} {r : ℕ} → Held k buffer store lists p → 0 < length p.line
    → Said (asked_in k buffer) lists lists' store store' out r → Ended p store' out
ended-line {k} {buffer} {store} {lists} {lists'} {store'} {out} {p} g n a =
    record {
      kept = lists';
      said = a.text ++ (line_feed ∷ []);
      ends = go p.line n (answered-line g a);
      shown = rw (← a.count) a.shown;
    }
  where
    go : (l : List ℕ) → 0 < length l → LineAnswered l p.kept lists' p.store store' (a.text ++ (line_feed ∷ []))
        → EndsAs l p.kept lists' p.store store' (a.text ++ (line_feed ∷ []))
    go [] z w = absurd (omega (arith, z))
    go (x ∷ l) z w = w

-- ---- bytes one after the other

pub took_none : {k : SoFar} {buffer store : List ℕ} {lists : KeptLists} {p : Reading} → Held k buffer store lists p → TookAll p [] k buffer store lists
took_none {p = p} g = record { next = p; said = []; reads = nothing p; held = g }

pub took_one : {p : Reading} {xs ys : List ℕ} {k : SoFar} {buffer store : List ℕ} {lists : KeptLists} {x : ℕ} {k' : SoFar} {buffer' store' : List ℕ} {lists' : KeptLists}
    {out : List ℕ} → (t : TookAll p xs k buffer store lists)
    → Took t.next x k' buffer' store' lists' out → ys ≡ xs ++ (x ∷ [])
    → TookAll p ys k' buffer' store' lists'
took_one {p} {xs} {ys} {x = x} t u e = record {
  next = u.next;
  said = t.said ++ u.said;
  reads = subst (λ (l : List ℕ). ReadsAll p l u.next (t.said ++ u.said)) (sym e) (further p xs t.next t.said x u.next u.said t.reads u.reads);
  held = u.held;
}

-- the bytes before a line feed
run : (p : Reading) (xs s : List ℕ) (m : Reading) {said : List ℕ} → ReadsAll p xs m said
    → ReadsAll p (xs ++ before line_feed s) (record { line = m.line ++ before line_feed s; store = m.store; kept = m.kept }) said
run p xs [] m {said} r = rw (before-nil line_feed, append-nil xs, append-nil m.line) r
run p xs (c ∷ s) m {said} r = elim (test (eqb c line_feed)) [
  | inl t ↦ let e = eqb-true c line_feed t in rw (e, before-met line_feed s, append-nil xs, append-nil m.line) r
  | inr t ↦
      let l : Reading = record { line = m.line ++ (c ∷ []); store = m.store; kept = m.kept } in
      let b : List ℕ = before line_feed s in
      let w = further p xs m said c l [] r (record { is = rw t (refl, refl, refl, refl) }) in
      let u = run p (xs ++ (c ∷ [])) s l (subst (λ (x : List ℕ). ReadsAll p (xs ++ (c ∷ [])) l x) (append-nil said) w) in
      let v = subst (λ (x : List ℕ). ReadsAll p x (record { line = l.line ++ b; store = m.store; kept = m.kept }) said) (append_assoc xs (c ∷ []) b) u in
      let z = subst (λ (x : List ℕ). ReadsAll p (xs ++ (c ∷ b)) (record { line = x; store = m.store; kept = m.kept }) said) (append_assoc m.line (c ∷ []) b) v in
      subst (λ (x : List ℕ). ReadsAll p (xs ++ x) (record { line = m.line ++ x; store = m.store; kept = m.kept }) said) (sym (before-skip line_feed c s (eqb-false c line_feed t))) z
]

module _ (xs : List ℕ) (at : ℕ) {end : ℕ} (e : end ≡ at + length (before line_feed (drop at xs))) where
  front : take end xs ≡ take at xs ++ before line_feed (drop at xs)
  front = rw e (take-add at (length (before line_feed (drop at xs))) xs ∙ ap (λ (l : List ℕ). take at xs ++ l) (take-before line_feed (drop at xs)))

  -- they are the line's
  pub took_run : {p : Reading} {k : SoFar} {buffer store : List ℕ} {lists : KeptLists} {k' : SoFar} {buffer' : List ℕ} → (t : TookAll p (take at xs) k buffer store lists)
      → ((line : List ℕ) → HeldLine k buffer line → HeldLine k' buffer' (line ++ take (end - at) (drop at xs))) → TookAll p (take end xs) k' buffer' store lists
  took_run {p} {k' = k'} {buffer' = buffer'} t h =
      let b : List ℕ = before line_feed (drop at xs) in
      let n : end - at ≡ length b = omega (arith, e) in
      let g : take (end - at) (drop at xs) ≡ b = rw n (take-before line_feed (drop at xs)) in
      record {
        next = record { line = t.next.line ++ b; store = t.next.store; kept = t.next.kept };
        said = t.said;
        reads = subst (λ (l : List ℕ). ReadsAll p l (record { line = t.next.line ++ b; store = t.next.store; kept = t.next.kept }) t.said) (sym front) (run p (take at xs) (drop at xs) t.next t.reads);
        held = record { line_is = subst (λ (l : List ℕ). HeldLine k' buffer' (t.next.line ++ l)) g (h t.next.line t.held.line_is); store_is = t.held.store_is; lists-are = t.held.lists-are };
      }

  -- and a line feed stands behind them
  pub fed_front : at ≤ length xs → end < length xs → take (end + 1) xs ≡ take end xs ++ (line_feed ∷ [])
  fed_front a h =
      let s : List ℕ = drop at xs in
      let b : List ℕ = before line_feed s in
      let q : s ≡ b ++ (line_feed ∷ behind line_feed s) = parted line_feed s (omega (arith, h, a, e, length-drop at xs)) in
      let d : drop end xs ≡ line_feed ∷ behind line_feed s = rw (e, ← drop-drop) (ap (λ (l : List ℕ). drop (length b) l) q ∙ drop-append_seam b (line_feed ∷ behind line_feed s)) in
      take-add end 1 xs ∙ ap (λ (l : List ℕ). take end xs ++ take 1 l) d

-- one list of bytes behind the other
reads_on : (p m : Reading) (xs a : List ℕ) → ReadsAll p xs m a → (m' q : Reading) (ys c : List ℕ) → ReadsAll m' ys q c → m ≡ m' → ReadsAll p (xs ++ ys) q (a ++ c)
reads_on p m xs a r m' q ys c (nothing s) e = subst (λ (l : List ℕ). ReadsAll p (xs ++ []) m' l) (sym (append-nil a))
    (subst (λ (l : List ℕ). ReadsAll p l m' a) (sym (append-nil xs)) (subst (λ (z : Reading). ReadsAll p xs z a) e r))
reads_on p m xs a r m' q ys c (further s zs n before x t said u v) e =
    let w = further p (xs ++ zs) n (a ++ before) x q said (reads_on p m xs a r m' n zs before u e) v in
    subst (λ (l : List ℕ). ReadsAll p (xs ++ (zs ++ (x ∷ []))) q l) (append_assoc a before said) (subst (λ (l : List ℕ). ReadsAll p l q ((a ++ before) ++ said)) (append_assoc xs zs (x ∷ [])) w)

pub took_more : {p : Reading} {k : SoFar} {buffer store : List ℕ} {lists : KeptLists} {k' : SoFar} {buffer' store' : List ℕ} {lists' : KeptLists} → (t : TookSome p k buffer store lists)
    → TookSome t.all.next k' buffer' store' lists' → TookSome p k' buffer' store' lists'
took_more {p} t u =
    record {
      bytes = t.bytes ++ u.bytes;
      all = record {
        next = u.all.next;
        said = t.all.said ++ u.all.said;
        reads = reads_on p t.all.next t.bytes t.all.said t.all.reads t.all.next u.all.next u.bytes u.all.said u.all.reads refl;
        held = u.all.held;
      };
    }

pub nothing_held : {k : SoFar} {buffer store : List ℕ} {lists : KeptLists} → HeldLine k buffer [] → lists ≡ no_lists → Held k buffer store lists (started store)
nothing_held h w = record { line_is = h; store_is = refl; lists-are = w }

-- ---- the whole input

pub ran : {b : List ℕ} {k : SoFar} {buffer store : List ℕ} {lists : KeptLists} {store' out : List ℕ} → (t : TookSome (started b) k buffer store lists) → Ended t.all.next store' out → Ran b store'
ran t e = record {
  bytes = t.bytes;
  said = t.all.said ++ e.said;
  input = record { last = t.all.next; kept = e.kept; before = t.all.said; behind = e.said; reads = t.all.reads; ends = e.ends; said_is = refl };
}

-- ---- the code's forms

-- all bytes of a list
pub took_whole : {p : Reading} {xs : List ℕ} {k : SoFar} {buffer store : List ℕ} {lists : KeptLists} (i : ℕ) → length xs ≤ i → TookAll p (take i xs) k buffer store lists
    → TookAll p xs k buffer store lists
took_whole {p} {xs} {k} {buffer} {store} {lists} i h t = subst (λ (l : List ℕ). TookAll p l k buffer store lists) (take_all i xs h) t
