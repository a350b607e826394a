-- A parent beside those that wait for victims: one more waits and the next of those listed is to go, or it changes nothing.
use Prim.Native.Nat.{ℕ, ◌+◌, ◌<◌}
use mathlib.Core.Path.{◌≡◌, refl, sym, ap, subst, ◌∙◌}
use mathlib.Core.Bool.{Bool, true, false, ◌||◌}
use mathlib.Core.List.{List, [], ◌∷◌, ◌++◌}
use mathlib.Core.Option.{Option, some}
use native.Mathlib.Omega.{arith}
use lib.Dec.{ltb, leb}
use borrow.Author.Tests.{lt-leb, le-leb}
use Rattle.ident.specs.Number.{top, Key, txid, wtxid}
use Rattle.machine.specs.Limits.{Limits, max_peer_announcements, word}
use Rattle.machine.specs.State.{Candidate, Entry, Table, State, Answer, limits_of, on_table, refused, done, with_candidates}
use Rattle.machine.specs.Table.{at, has, any, by, under, by_under, count, held, held_by, held_at, is_candidate}
use Rattle.machine.specs.Announce.{without, push, cut, victims, greatest, anywhere, evicting, announce_at, announce_keyed, request_parent_at}
use Rattle.machine.specs.Fail.{parent_of, mark}
use Rattle.machine.specs.Sound.{Ordered, Fits, Sound}
use Rattle.machine.specs.Typed.{Each}
use Rattle.machine.proofs.Announce.{bounded-announce_at}
use Rattle.machine.proofs.Fail.{Peer}
use Rattle.machine.proofs.Kept.{sound-table}
use Rattle.machine.proofs.Table.{ordered-change, filled-change}
use Rattle.machine.proofs.Tests.{or_left, or_right}
use Rattle.store.specs.Gather.{key_at, candidate_at}
use Rattle.requests.proofs.Holding.{either-kind}
use Rattle.announcing.specs.Answers.{one_parent}
use Rattle.announcing.specs.Evicts.{entry_at}
use Rattle.announcing.proofs.Deciding.{when-full}
use Rattle.gathering.specs.declared.beside.Fare.TheVariants.{Nothing, Waits}
use Rattle.gathering.specs.Waits.{pushes, waits}
use Rattle.gathering.specs.Deferring.{left_by, Instead, Owed, Deferred}
use Rattle.gathering.proofs.Deferral.{left_sound, left_held, left_candidate}
use Rattle.gathering.proofs.Elsewhere.{cut-pushes, victims-pushes}
use Rattle.gathering.proofs.OneMore.{each_more}
use Rattle.gathering.proofs.Waiting.{barred-beside, candidate-beside, held_beside, at_beside, pushes_more, barred_apart}
use Rattle.parenting.specs.Waiting.{marks, keys_of, TxKey, Parental}
use Rattle.parenting.specs.Displacing.{Owes, Unknown}
use Rattle.parenting.proofs.Marking.{count-marks, change-marks, sound-marks, marks_more, entries-keys, entries-else, entries-preferred}
use Rattle.parenting.proofs.Admitted.{keys_more}
use Rattle.parenting.proofs.Spent.{victims-marks, refused-marked}

module _ {n : ℕ} {b w v : List ℕ} {d m : ℕ} {st : State} {t : Table} (x : Owes n b w v d m st t) where
  abbrev l : Limits
  l = limits_of st

  -- those that wait, and what the victims leave
  abbrev es : List Entry
  es = x.owing.entries

  abbrev left : Table
  left = left_by x.owing

  -- those before it have come in, and are marked
  abbrev all : Table
  all = pushes es left

  abbrev u : Table
  u = marks (keys_of es) all

  sound : Sound (on_table left st)
  sound = left_sound x.owing

  ordered : Ordered 0 left
  ordered = sound.bounded.ordered

  keys : Each TxKey (keys_of es)
  keys = entries-keys es x.owing.aside.mixed.ready x.parental

  same : (f : Key → ℕ → Bool) → count f u ≡ count f all
  same f = count-marks f (keys_of es) all

  sound_all : Sound (on_table u st)
  sound_all = sound-marks st (keys_of es) all keys x.together

  -- ---- one more waits, and a victim more is to go

  module _ {now i h : ℕ} (p : Peer n) (late : now < word) (short : i < word) (low : h < top) where
    abbrev c : Candidate
    c = parent_of n now h i

    abbrev new : Entry
    new = record { key = txid h; candidate = c }

    asks : is_candidate n h u ≡ false → {f : Answer} → announce_at l (txid h) c u ≡ f → request_parent_at l (txid h) c u ≡ f
    unfolding request_parent_at
    asks unknown e =
        let f = has n (at (txid h) u).candidates in
        let g = has n (at (wtxid h) u).candidates in
        let neither : (f || g) ≡ false = either-kind n h low u sound_all.bounded.ordered ∙ unknown in
        rw (or_left f g neither, or_right f g neither) e

    module _ {w' : List ℕ} (a : Deferred b w w' v d m (some (txid h)) c Waits) where
      owed : Owed b w' v (d + 1) m (some (txid h)) c (on_table x.base st) es left
      owed = (a.waits refl).owed (on_table x.base st) x.owing

      abbrev left' : Table
      left' = left_by owed.owing

      instead : Instead l left es (txid h) c owed.owing.entries left'
      instead = owed.enters (omega (arith, x.owing.aside.mixed.count)) (txid h) refl

      abbrev j : Key
      j = key_at instead.row

      abbrev y : ℕ
      y = instead.row.conn

      free : (is_candidate n h all || leb max_peer_announcements (held_by n all)) ≡ false
      free = barred-beside n es left x.owing.aside.mixed.ready x.owing.aside.mine ordered (txid h) ∙ instead.free

      nowhere : waits h es ≡ false
      nowhere = barred_apart es (txid h) n left instead.free

      unknown : is_candidate n h u ≡ false
      unknown = ap (ltb 0) (same (by_under n h)) ∙ or_left (is_candidate n h all) (leb max_peer_announcements (held_by n all)) free

      -- the machine evicts the same one
      announced : announce_at l (txid h) c u ≡ done (push (txid h) c (cut j y u))
      unfolding evicting candidate_at
      announced =
          let k : (is_candidate n h u || leb max_peer_announcements (held_by n u)) ≡ false =
          rw (unknown, same (by n)) (or_right (is_candidate n h all) (leb max_peer_announcements (held_by n all)) free) in
          let few : leb l.alternates (held_at h u) ≡ false = ap (leb l.alternates) (same (under h) ∙ at_beside es left x.owing.aside.mixed.ready ordered h nowhere)
          ∙ lt-leb l.alternates (held_at h left) instead.room in
          let full : leb st.limit (held u) ≡ true = le-leb st.limit (held u)
          (omega (arith, same any, held_beside es left x.owing.aside.mixed.ready ordered, left_held x.owing, x.owing.aside.mixed.count)) in
          let g : greatest (victims anywhere u) ≡ some (entry_at instead.row) =
          ap greatest (victims-marks anywhere (keys_of es) all ∙ victims-pushes es left (entries-preferred es x.parental)) ∙ instead.greatest_is in
          when-full l (txid h) c u k few full refl ∙ ap (λ (o : Option Entry). evicting o (txid h) c u) g

      -- the table with it
      next_table : mark (txid h) (push (txid h) c (cut j y u)) ≡ marks (keys_of (es ++ (new ∷ []))) (pushes (es ++ (new ∷ [])) left')
      next_table =
          let g = x.together.bounded in
          let r = x.owing.aside.mixed.ready in
          let ks = keys_of es in
          let o = ordered-change j (λ f. with_candidates (without y f.candidates) f) 0 all (λ f. refl) (omega arith) instead.small g.ordered in
          let k = filled-change j (λ f. with_candidates (without y f.candidates) f) all g.filled in
          ap (λ (f : Table). mark (txid h) (push (txid h) c f)) (change-marks j (λ f. with_candidates (without y f.candidates) f) (λ f. refl) instead.small ks all
          (entries-else j.hash es r instead.apart) g.ordered g.filled)
          ∙ ap (mark (txid h)) (change-marks (txid h) (λ f. with_candidates (f.candidates ++ (c ∷ [])) f) (λ f. refl) low ks (cut j y all) (entries-else h es r nowhere) o k)
          ∙ sym (marks_more ks (txid h) (push (txid h) c (cut j y all)))
          ∙ ap (λ (f : Table). marks (ks ++ (txid h ∷ [])) (push (txid h) c f)) (cut-pushes j y instead.small es left r instead.apart ordered sound.bounded.filled)
          ∙ ap (λ (f : Table). marks (ks ++ (txid h ∷ [])) (push (txid h) c (pushes es f))) (sym instead.rest)
          ∙ ap (marks (ks ++ (txid h ∷ []))) (sym (pushes_more es new left'))
          ∙ ap (λ (f : List Key). marks f (pushes (es ++ (new ∷ [])) left')) (sym (keys_more es new))

      fits : Fits (txid h) c
      fits = record { item = refl; positive = p.positive; connection = p.small; ready = late; priority = short }

      all_there : Sound (on_table (pushes owed.owing.entries left') st)
      unfolding announce_keyed
      all_there = subst (λ (f : Table). Sound (on_table f st)) owed.same (sound-table x.together (bounded-announce_at (txid h) c low fits x.together.bounded))

      one_more : Owes n b w' v (d + 1) m st (mark (txid h) (push (txid h) c (cut j y u)))
      one_more = record {
        base = x.base;
        owing = owed.owing;
        listed = x.listed;
        parental = subst (Each Parental) (sym instead.last) (each_more Parental es new x.parental (record { kind = refl; preferred = refl }));
        together = all_there;
        table = next_table ∙ ap (λ (f : List Entry). marks (keys_of f) (pushes f left')) (sym instead.last);
      }

      asked : one_parent l n now h i t ≡ record { reply = true; table = mark (txid h) (push (txid h) c (cut j y u)) }
      asked = ap (one_parent l n now h i) x.table ∙ rw (asks unknown announced)

      pub defers_reply : true ≡ (one_parent l n now h i t).reply
      defers_reply = sym (ap (λ (f : Answer). f.reply) asked)

      pub defers-owes : Owes n b w' v (d + 1) m st (one_parent l n now h i t).table
      defers-owes = subst (Owes n b w' v (d + 1) m st) (sym (ap (λ (f : Answer). f.table) asked)) one_more

    -- ---- one that changes nothing, unless its connection has announced its hash

    module _ {w' : List ℕ} (a : Deferred b w w' v d m (some (txid h)) c Nothing) where
      owed_not : Owed b w' v d m (some (txid h)) c (on_table x.base st) es left
      owed_not = a.nothing refl (on_table x.base st) x.owing

      stays : (owed_not.owing.entries ≡ es) × (left_by owed_not.owing ≡ left) × ((announce_keyed l (some (txid h)) c all).reply ≡ false)
      stays = owed_not.stays (sym x.owing.aside.mixed.count)

      table_same : pushes owed_not.owing.entries (left_by owed_not.owing) ≡ all
      table_same = ap (λ (f : List Entry). pushes f (left_by owed_not.owing)) stays.0 ∙ ap (pushes es) stays.1

      pub stays-owes : Owes n b w' v d m st t
      stays-owes = record {
        base = x.base;
        owing = owed_not.owing;
        listed = x.listed;
        parental = subst (Each Parental) (sym stays.0) x.parental;
        together = subst (λ (f : Table). Sound (on_table f st)) (sym table_same) x.together;
        table = x.table ∙ ap (λ (f : List Entry). marks (keys_of f) all) (sym stays.0) ∙ ap (marks (keys_of owed_not.owing.entries)) (sym table_same);
      }

      module _ {r : Bool} (k : Unknown b w' d h n r) (e : r ≡ false) where
        new_there : is_candidate n h u ≡ false
        new_there =
            let f = k.new e (on_table x.base st) x.owing.sound x.owing.writes in
            let g = k.apart e (on_table x.base st) x.owing.sound x.owing.writes owed_not.owing.entries owed_not.owing.aside.mixed in
            ap (ltb 0) (same (by_under n h)) ∙ candidate-beside n es left x.owing.aside.mixed.ready x.owing.aside.mine ordered h
            ∙ rw (left_candidate x.owing h ∙ f, ap (waits h) (sym stays.0) ∙ g)

        stays_asked : one_parent l n now h i t ≡ refused u
        unfolding announce_keyed
        stays_asked = ap (one_parent l n now h i) x.table ∙ rw (asks new_there (refused-marked l (txid h) c all refl stays.2 (keys_of es)))

        pub stays-reply : false ≡ (one_parent l n now h i t).reply
        stays-reply = sym (ap (λ (f : Answer). f.reply) stays_asked)

        pub stays_table : (one_parent l n now h i t).table ≡ t
        stays_table = ap (λ (f : Answer). f.table) stays_asked ∙ sym x.table
