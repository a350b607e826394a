-- A parent that nothing bars and for which nothing has to give way, whoever waits: it comes in behind those that wait, and its request is marked.
use Prim.Native.Nat.{ℕ, ◌<◌}
use mathlib.Core.Path.{◌≡◌, refl, sym, ap, subst, ◌∙◌}
use mathlib.Core.Bool.{Bool, true, false, ◌||◌}
use mathlib.Core.List.{List, [], ◌∷◌, ◌++◌, map-append}
use Rattle.ident.specs.Number.{top, Key, txid, wtxid}
use Rattle.machine.specs.Limits.{word}
use Rattle.machine.specs.State.{Candidate, Entry, Table, State, Answer, limits_of, on_table, done}
use Rattle.machine.specs.Table.{at, has, count}
use Rattle.machine.specs.Announce.{push, request_parent_at}
use Rattle.machine.specs.Fail.{parent_of, mark}
use Rattle.machine.specs.Sound.{Ordered, Fits, Sound}
use Rattle.machine.specs.Typed.{Each}
use Rattle.machine.proofs.Announce.{bounded-announce_at}
use Rattle.machine.proofs.Fail.{Peer}
use Rattle.machine.proofs.Kept.{sound-table}
use Rattle.machine.proofs.Tests.{or_left, or_right}
use Rattle.requests.proofs.Holding.{either-kind}
use Rattle.announcing.specs.Answers.{one_parent}
use Rattle.gathering.specs.Waits.{pushes, Small, Admits}
use Rattle.gathering.proofs.Waiting.{pushes_more, admits_new, admits_done, admitted}
use Rattle.parenting.specs.Waiting.{marks, keys_of, Parental}
use Rattle.parenting.proofs.Marking.{count-marks, sound-marks, push-marks, marks_more, entries-keys, entries-else}

pub keys_more : (es : List Entry) (a : Entry) → keys_of (es ++ (a ∷ [])) ≡ keys_of es ++ (a.key ∷ [])
keys_more es a = map-append (λ (x : Entry). x.key) es (a ∷ [])

module _ (st : State) (t : Table) (es : List Entry) (n now h i : ℕ) (x : Admits (limits_of st) t es (txid h) (parent_of n now h i)) (low : h < top) (ready : Each Small es)
    (parental : Each Parental es) (o : Ordered 0 t) (all : Sound (on_table (pushes es t) st)) where
  abbrev c : Candidate
  c = parent_of n now h i

  abbrev new : Entry
  new = record { key = txid h; candidate = c }

  -- the table with those before it
  abbrev u : Table
  u = marks (keys_of es) (pushes es t)

  same : (q : Key → ℕ → Bool) → count q u ≡ count q (pushes es t)
  same q = count-marks q (keys_of es) (pushes es t)

  asked : request_parent_at (limits_of st) (txid h) c u ≡ done (push (txid h) c u)
  unfolding request_parent_at
  asked =
      let a = has n (at (txid h) u).candidates in
      let b = has n (at (wtxid h) u).candidates in
      let k = sound-marks st (keys_of es) (pushes es t) (entries-keys es ready parental) all in
      let neither : (a || b) ≡ false = either-kind n h low u k.bounded.ordered ∙ admits_new x ready o u same in
      rw (or_left a b neither, or_right a b neither) (admits_done x ready o u same)

  -- the table with it
  next_table : mark (txid h) (push (txid h) c u) ≡ marks (keys_of (es ++ (new ∷ []))) (pushes (es ++ (new ∷ [])) t)
  next_table =
      let g = all.bounded in
      let ks = keys_of es in
      ap (mark (txid h)) (push-marks (txid h) c ks (pushes es t) low (entries-else h es ready x.apart) g.ordered g.filled)
      ∙ sym (marks_more ks (txid h) (push (txid h) c (pushes es t)))
      ∙ ap (marks (ks ++ (txid h ∷ []))) (sym (pushes_more es new t))
      ∙ ap (λ (l : List Key). marks l (pushes (es ++ (new ∷ [])) t)) (sym (keys_more es new))

  pub admitted_more : one_parent (limits_of st) n now h i u ≡ record { reply = true; table = marks (keys_of (es ++ (new ∷ []))) (pushes (es ++ (new ∷ [])) t) }
  admitted_more = rw asked (ap (λ (y : Table). record { reply = true; table = y }) next_table)

  pub admitted_sound : Peer n → now < word → i < word → Sound (on_table (pushes (es ++ (new ∷ [])) t) st)
  admitted_sound p late short =
      let fits : Fits (txid h) c = record { item = refl; positive = p.positive; connection = p.small; ready = late; priority = short } in
      subst (λ (y : Table). Sound (on_table y st)) (ap (λ (a : Answer). a.table) (admitted x ready o)) (sound-table all (bounded-announce_at (txid h) c low fits all.bounded))
