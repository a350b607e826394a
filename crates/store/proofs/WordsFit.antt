-- Every word of an image is of 64 bits.
use Prim.Native.Nat.{ℕ, zero, suc, ◌*◌, ◌≤◌, ◌<◌}
use mathlib.Core.Logic.{inl, inr}
use mathlib.Core.List.{List, [], ◌∷◌, ◌++◌}
use mathlib.Core.Option.{Option, none, some}
use native.Mathlib.Omega.{arith}
use lib.Dec.{lit<}
use lib.ListN.{length, take, replicate}
use Rattle.ident.specs.declared.Kind.{Kind}
use Rattle.ident.specs.declared.Kind.TheVariants.{Txid, Wtxid}
use Rattle.ident.specs.Number.{Key, top}
use Rattle.regions.specs.declared.Row.{Row}
use Rattle.regions.specs.declared.Conn.{Conn}
use Rattle.regions.specs.Regions.{each, padded}
use Rattle.regions.specs.declared.Quad.{Quad}
use Rattle.regions.specs.Rows.{quad_words, quad_of, row_size, row_words, conn_size, conn_words}
use Rattle.places.specs.Places.{Place, list_most, place_size, kept_size, hash_words, list_words, place_words}
use Rattle.machine.specs.Limits.{word}
use Rattle.machine.specs.Sound.{Hashes, PackageFits, PollFits, CursorFits}
use Rattle.machine.specs.Typed.{Each}
use Rattle.machine.proofs.Tests.{order}
use Rattle.store.specs.Flat.{own_bit, bump, tally, Flat}
use Rattle.store.specs.FlatSound.{QuadFits, RowFits, package_of, StageFits, PlaceFits, ConnFits, FlatSound}
use Rattle.store.specs.Image.{format, poll_words, cursor_tag, cursor_words, head_words, words_of}
use Rattle.store.proofs.Quads.{quad_fits}
use Rattle.store.proofs.Tally.{bump-nil, bump-lt, bump-eq, bump_gt}
use Rattle.store.proofs.Entries.{tally-length}
use Rattle.store.proofs.Frame.{row_part, conn_part, place_part}

-- ---- laws of every element

module _ {A : Type 0} (P : A → Type 0) where
  pub all_append : (a b : List A) → Each P a → Each P b → Each P (a ++ b)
  all_append [] b p q = q
  all_append (x ∷ a) b p q = (p.0, all_append a b p.1 q)

  all_take : (n : ℕ) (l : List A) → Each P l → Each P (take n l)
  all_take zero l p = tt
  all_take (suc n) [] p = tt
  all_take (suc n) (x ∷ l) p = (p.0, all_take n l p.1)

  all_replicate : (n : ℕ) (x : A) → P x → Each P (replicate n x)
  all_replicate zero x p = tt
  all_replicate (suc n) x p = (p, all_replicate n x p)

abbrev pub Word : ℕ → Type 0
Word n = n < word

fit_each : {A : Type 0} (P : A → Type 0) (enc : A → List ℕ) → ((a : A) → P a → Each Word (enc a)) → (l : List A) → Each P l → Each Word (each enc l)
unfolding each
fit_each P enc f [] p = tt
fit_each P enc f (a ∷ l) p = all_append Word (enc a) (each enc l) (f a p.0) (fit_each P enc f l p.1)

fit-padded : (n : ℕ) (w : List ℕ) → Each Word w → Each Word (padded n w)
unfolding padded
fit-padded n w p = all_take Word n (w ++ replicate n 0) (all_append Word w (replicate n 0) p (all_replicate Word n 0 (omega arith)))

-- ---- rows and connections

fit_quad : (q : Quad) → QuadFits q → Each Word (quad_words q)
fit_quad q f = (f.w0, (f.w1, (f.w2, (f.w3, tt))))

fit_row : (r : Row) → RowFits r → Each Word (row_words r)
unfolding row_words
fit_row r f = all_append Word (quad_words r.hash) (r.conn ∷ r.ready ∷ r.prio ∷ r.deadline ∷ r.bits ∷ []) (fit_quad r.hash f.hash)
    (f.conn, (f.ready, (f.prio, (f.deadline, (omega arith, tt)))))

-- a connection of a tally is that of a row
fit-bump : (n o : ℕ) (cs : List Conn) → n < word → Each (λ c. c.conn < word) cs → Each (λ c. c.conn < word) (bump n o cs)
fit-bump n o [] h a = rw bump-nil (h, tt)
fit-bump n o (c ∷ cs) h a =
    elim (order n c.conn) [
      | inl b ↦ rw (bump-lt n o c cs b) (h, a)
      | inr (inl b) ↦ rw (bump-eq n o c cs b) a
      | inr (inr b) ↦ rw (bump_gt n o c cs b) (a.0, fit-bump n o cs h a.1)
    ]

fit-tally : (rs : List Row) → Each RowFits rs → Each (λ c. c.conn < word) (tally rs)
unfolding tally
fit-tally [] a = tt
fit-tally (r ∷ rs) a = fit-bump r.conn (own_bit r) (tally rs) a.0.conn (fit-tally rs a.1)

fit-conns : (cs : List Conn) → Each (λ c. c.conn < word) cs → Each ConnFits cs → Each Word (each conn_words cs)
unfolding each conn_words
fit-conns [] a b = tt
fit-conns (c ∷ cs) a b = (a.0, (omega (arith, b.0.held), (omega (arith, b.0.owned), fit-conns cs a.1 b.1)))

-- ---- places

fit-hash : (h : ℕ) → h < top → Each Word (hash_words h)
unfolding hash_words
fit-hash h l = fit_quad (quad_of h) (quad_fits h l)

fit-hashes : (hs : List ℕ) → Hashes hs → Each Word (each hash_words hs)
unfolding each
fit-hashes [] a = tt
fit-hashes (h ∷ hs) a = all_append Word (hash_words h) (each hash_words hs) (fit-hash h a.0) (fit-hashes hs a.1)

fit-list : (hs : List ℕ) → Hashes hs → Each Word (list_words hs)
unfolding list_words
fit-list hs a = fit-padded _ (each hash_words hs) (fit-hashes hs a)

-- what a stage says of its place
pub record Staged (n : ℕ) (p : Place) : Type 0 where
  pub stage : n < word
  pub combined : p.combined < top
  pub wtxids : Hashes p.wtxids
  pub few : length p.wtxids ≤ list_most

packaged : (n : ℕ) (p : Place) → n < word → PackageFits (package_of p) → Staged n p
packaged n p l f = record { stage = l; combined = f.combined; wtxids = f.wtxids; few = f.few_wtxids }

pub staged : (n : ℕ) (p : Place) → StageFits n p → Staged n p
unfolding top
staged zero p f = absurd f
staged (suc zero) p f = record { stage = omega arith; combined = rw f.0 (lit< tt); wtxids = rw f.1 tt; few = rw f.1 (omega arith) }
staged (suc (suc zero)) p f = packaged 2 p (omega arith) f
staged (suc (suc (suc zero))) p f = packaged 3 p (omega arith) f
staged (suc (suc (suc (suc n)))) p f = absurd f

fit-place : (rs : List Row) (p : Place) → PlaceFits rs p → Each Word (place_words p)
unfolding place_words
fit-place rs p f =
    let s = staged p.stage p f.stage in
    all_append Word (hash_words p.hash) _ (fit-hash p.hash f.hash)
    (all_append Word (hash_words p.combined) _ (fit-hash p.combined s.combined) (
      s.stage,
      (
        omega (arith, s.few),
        (
          omega (arith, f.parents.few),
          all_append Word (list_words p.wtxids) _ (fit-list p.wtxids s.wtxids)
              (all_append Word (list_words p.parents) _ (fit-list p.parents f.parents.hashes) (all_replicate Word kept_size 0 (omega arith))),
        ),
      ),
    ))

-- ---- the header

fit-poll : (p : Option ℕ) → PollFits p → Each Word (poll_words p)
fit-poll none f = (omega arith, (omega arith, tt))
fit-poll (some n) f = (omega arith, (f, tt))

fit-kind : (k : Kind) → cursor_tag k < word
fit-kind Txid = omega arith
fit-kind Wtxid = omega arith

fit-cursor : (c : Option Key) → CursorFits c → Each Word (cursor_words c)
fit-cursor none f = all_replicate Word 5 0 (omega arith)
fit-cursor (some k) f = (fit-kind k.kind, fit_quad (quad_of k.hash) (quad_fits k.hash f))

module _ (f : Flat) (s : FlatSound f) where
  pub few_conns : length f.conns ≤ f.head.limit
  few_conns = rw s.conns (omega (arith, tally-length f.rows, s.rows_few))

  fit-sizes : Each Word (format ∷ f.head.limit ∷ f.head.places ∷ length f.rows ∷ length f.conns ∷ length f.places ∷ [])
  fit-sizes = (
    omega arith,
    (
      omega (arith, s.most-limit),
      (omega (arith, s.most-places), (omega (arith, s.most-limit, s.rows_few), (omega (arith, s.most-limit, few_conns), (omega (arith, s.most-places, s.places_few), tt)))),
    ),
  )

  fit-head : Each Word (head_words f.head (length f.rows) (length f.conns) (length f.places))
  unfolding head_words
  fit-head =
      let h = f.head in
      let spare : List ℕ = replicate 6 0 in
      let ready : List ℕ = cursor_words h.ready_cursor ++ spare in
      let known : List ℕ = cursor_words h.known_cursor ++ ready in
      let fit-ready : Each Word ready = all_append Word (cursor_words h.ready_cursor) spare (fit-cursor h.ready_cursor s.ready) (all_replicate Word 6 0 (omega arith)) in
      let fit-known : Each Word known = all_append Word (cursor_words h.known_cursor) ready (fit-cursor h.known_cursor s.known) fit-ready in
      let sizes : List ℕ = format ∷ h.limit ∷ h.places ∷ length f.rows ∷ length f.conns ∷ length f.places ∷ [] in
      all_append Word sizes (poll_words h.next_poll ++ known) fit-sizes (all_append Word (poll_words h.next_poll) known (fit-poll h.next_poll s.poll) fit-known)

  fit-conn_part : Each Word (each conn_words f.conns)
  fit-conn_part = fit-conns f.conns (rw s.conns (fit-tally f.rows s.rows_fit)) s.conns-fit

  pub words-fit : Each Word (words_of f)
  unfolding words_of
  words-fit =
      let conns = fit-padded (conn_size * f.head.limit) (each conn_words f.conns) fit-conn_part in
      let rows = fit-padded (row_size * f.head.limit) (each row_words f.rows) (fit_each RowFits row_words fit_row f.rows s.rows_fit) in
      let places = fit-padded (place_size * f.head.places) (each place_words f.places) (fit_each (PlaceFits f.rows) place_words (fit-place f.rows) f.places s.places-fit) in
      let regions = conn_part f.head.limit f.conns ++ place_part f.head.places f.places in
      let behind : Each Word regions = all_append Word (conn_part f.head.limit f.conns) (place_part f.head.places f.places) conns places in
      let all_rows : Each Word (row_part f.head.limit f.rows ++ regions) = all_append Word (row_part f.head.limit f.rows) regions rows behind in
      all_append Word (head_words f.head (length f.rows) (length f.conns) (length f.places)) (row_part f.head.limit f.rows ++ regions) fit-head all_rows
