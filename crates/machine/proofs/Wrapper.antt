-- The wrappers keep the bounds, and the poll gate's time is of 64 bits.
use Rattle.machine.specs.Announce.{announce}
use Prim.Native.Nat.{ℕ, ◌+◌, ◌<◌}
use mathlib.Core.Bool.{Bool, not, ◌&&◌}
use mathlib.Core.List.{List, [], ◌∷◌}
use mathlib.Core.Option.{Option, none, some}
use native.Mathlib.Omega.{arith}
use lib.Dec.{leb}
use Rattle.ident.specs.Number.{top, Key, Item, key_of, txid, wtxid}
use Rattle.machine.specs.Limits.{Limits, max_in_flight, request_lifetime, msg_anc_pkg_info, word}
use Rattle.machine.specs.State.{Table}
use Rattle.machine.specs.Table.{at, owned_by}
use Rattle.machine.specs.Fail.{Listed}
use Rattle.machine.specs.Wrapper.{Offer, is_w_tx, offered, offers_from, announce_transactions, response_completed, fail_keyed}
use Rattle.machine.specs.Wrapper.{is_type, not_found_one, not_found_each, packages_in, not_found, due_at, next_poll_after}
use Rattle.machine.specs.Sound.{CursorFits, PollFits, Bounded}
use Rattle.machine.specs.Typed.{CandidateTyped, OfferTyped, Each}
use Rattle.machine.proofs.Tests.{by_test}
use Rattle.machine.proofs.Table.{lawful_at}
use Rattle.machine.proofs.Announce.{item-fits, bounded-announce}
use Rattle.machine.proofs.Fail.{Peer, bounded-failed, few_for}
use Rattle.machine.proofs.Package.{bounded-failed_package_info, bounded-listed, bounded-failed_package_claims}
use Rattle.machine.proofs.Owning.{one_most}

-- ---- announce_transactions

pub offered-typed : (n now : ℕ) (p v f : Bool) (o : Offer) → Peer n → now + request_lifetime < word → OfferTyped o → CandidateTyped (offered n now p v f o)
offered-typed n now p v f o a w h = record {
  connection = a.small;
  hash = h.hash;
  ready = omega (arith, one_most (not p), one_most (v && not (is_w_tx o.item.kind)), one_most f);
  priority = h.priority;
}

pub bounded-offers : {m : Limits} {Q : ℕ} {t : Table} (n now : ℕ) (p v f : Bool) (os : List Offer) → Peer n → now + request_lifetime < word → Each OfferTyped os → Bounded m Q t
    → Bounded m Q (offers_from m n now p v f os t)
unfolding offers_from
bounded-offers n now p v f [] a w h b = b
bounded-offers {m = m} {Q = Q} {t = t} n now p v f (o ∷ os) a w h b =
    bounded-offers {t = (announce m (offered n now p v f o) t).table} n now p v f os a w h.1 (bounded-announce (offered n now p v f o) a.positive (offered-typed n now p v f o a w h.0) b)

pub bounded-announce_transactions : {m : Limits} {Q : ℕ} {t : Table} (n now : ℕ) (p v : Bool) (os : List Offer) → Peer n → now + request_lifetime < word → Each OfferTyped os → Bounded m Q t
    → Bounded m Q (announce_transactions m n now p v os t)
unfolding announce_transactions
bounded-announce_transactions {m} {Q} {t} n now p v os a w h b = bounded-offers n now p v (leb max_in_flight (owned_by n t)) os a w h b

-- ---- transaction_response_completed, transaction_not_found

pub bounded-response_completed : {m : Limits} {Q : ℕ} {t : Table} (n x y now : ℕ) → x < top → y < top → now < word → Bounded m Q t → Bounded m Q (response_completed n x y now t)
unfolding response_completed
bounded-response_completed n x y now s r w b = bounded-failed (wtxid y) n now r w (bounded-failed (txid x) n now s w b)

bounded-fail_keyed : {m : Limits} {Q : ℕ} {t : Table} (k : Option Key) (n now : ℕ) → CursorFits k → now < word → Bounded m Q t → Bounded m Q (fail_keyed k n now t).table
bounded-fail_keyed none n now s w b = b
bounded-fail_keyed (some k) n now s w b = bounded-failed k n now s w b

pub bounded-not_found_one : {m : Limits} {Q : ℕ} {t : Table} (n now : ℕ) (i : Item) → Peer n → now < word → i.hash < top → Bounded m Q t → Bounded m Q (not_found_one m n now i t).table
unfolding not_found_one
bounded-not_found_one {m} {Q} {t} n now i p w s b =
    let k = wtxid i.hash in
    by_test (λ (x : Listed). Bounded m Q x.table) (is_type msg_anc_pkg_info i.kind)
    (λ e. bounded-listed k n now _ _ p w (few_for n (at k t) (lawful_at k t b.lawful)) (bounded-failed_package_info k n now s w b))
    (λ e. bounded-fail_keyed (key_of i) n now (item-fits i s) w b)

pub bounded-not_found_each : {m : Limits} {Q : ℕ} {t : Table} (n now : ℕ) (l : List Item) → Peer n → now < word → Each (λ (i : Item). i.hash < top) l → Bounded m Q t
    → Bounded m Q (not_found_each m n now l t).table
unfolding not_found_each
bounded-not_found_each n now [] p w s b = b
bounded-not_found_each {m = m} {Q = Q} {t = t} n now (i ∷ l) p w s b = bounded-not_found_each {t = (not_found_one m n now i t).table} n now l p w s.1 (bounded-not_found_one n now i p w s.0 b)

pub bounded-not_found : {m : Limits} {Q : ℕ} {t : Table} (n now : ℕ) (l : List Item) → Peer n → now < word → Each (λ (i : Item). i.hash < top) l → Bounded m Q t
    → Bounded m Q (not_found m n now l t).table
unfolding not_found
bounded-not_found n now l p w s b = bounded-failed_package_claims n (packages_in l) now p w (bounded-not_found_each n now l p w s b)

-- ---- the poll gate

pub gate-poll : (now : ℕ) (next : Option ℕ) → now + request_lifetime < word → PollFits next → PollFits (next_poll_after now next)
gate-poll now next w h = by_test PollFits (due_at now next) (λ e. omega arith) (λ e. h)
