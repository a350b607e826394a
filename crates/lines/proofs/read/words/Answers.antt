-- `lines::read::words` meets its contract.
use Prim.Native.Nat.{ℕ, ◌-◌}
use mathlib.Core.Path.{◌≡◌, refl}
use mathlib.Core.Logic.{inr}
use mathlib.Core.List.{List}
use native.Mathlib.Omega.{arith}
use lib.ListN.{length, take, drop}
use Rattle.lines.proofs.HashWords.{upto_none, cut, word-none, word-some, words-are}
use Rattle.lines.proofs.read.words.Goals as goal

front : (f : List ℕ) (a : ℕ) → take a f ≡ take (a - 0) (drop 0 f)
front f a = let e : a - 0 ≡ a = omega arith in rw e

pub returns-in_err-w3 : goal.returns-in_err-w3
returns-in_err-w3 c =
    let f = c.args.f.now in
    let a = c.saturating_sub-a.result in
    rw c.from_residual.ensures (word-none (upto_none f) a (omega arith) (omega arith) (inr refl) (front f a) c.word.ensures c.in_err-w3.was)

pub returns-in_err-w2 : goal.returns-in_err-w2
returns-in_err-w2 c =
    let f = c.args.f.now in
    let a = c.saturating_sub-a.result in
    let b = c.saturating_sub-b.result in
    let u = word-some (upto_none f) a (omega arith) (omega arith) (inr refl) (front f a) c.word.ensures c.in_ok-w3.was in
    rw c.from_residual-in_err-w2.ensures (word-none u b (omega arith) (omega arith) (cut b a (omega arith)) refl c.word-2.ensures c.in_err-w2.was)

pub returns-in_err-w1 : goal.returns-in_err-w1
returns-in_err-w1 c =
    let f = c.args.f.now in
    let a = c.saturating_sub-a.result in
    let b = c.saturating_sub-b.result in
    let d = c.saturating_sub-c.result in
    let u = word-some (upto_none f) a (omega arith) (omega arith) (inr refl) (front f a) c.word.ensures c.in_ok-w3.was in
    let v = word-some u b (omega arith) (omega arith) (cut b a (omega arith)) refl c.word-2.ensures c.in_ok-w2.was in
    rw c.from_residual-in_err-w1.ensures (word-none v d (omega arith) (omega arith) (cut d b (omega arith)) refl c.word-3.ensures c.in_err-w1.was)

pub returns-in_err-w0 : goal.returns-in_err-w0
returns-in_err-w0 c =
    let f = c.args.f.now in
    let a = c.saturating_sub-a.result in
    let b = c.saturating_sub-b.result in
    let d = c.saturating_sub-c.result in
    let u = word-some (upto_none f) a (omega arith) (omega arith) (inr refl) (front f a) c.word.ensures c.in_ok-w3.was in
    let v = word-some u b (omega arith) (omega arith) (cut b a (omega arith)) refl c.word-2.ensures c.in_ok-w2.was in
    let w = word-some v d (omega arith) (omega arith) (cut d b (omega arith)) refl c.word-3.ensures c.in_ok-w1.was in
    rw c.from_residual-in_err-w0.ensures (word-none w (length f) (omega arith) (omega arith) (cut (length f) d (omega arith)) refl c.word-4.ensures c.in_err-w0.was)

pub returns : goal.returns
returns c =
    let f = c.args.f.now in
    let a = c.saturating_sub-a.result in
    let b = c.saturating_sub-b.result in
    let d = c.saturating_sub-c.result in
    let u = word-some (upto_none f) a (omega arith) (omega arith) (inr refl) (front f a) c.word.ensures c.in_ok-w3.was in
    let v = word-some u b (omega arith) (omega arith) (cut b a (omega arith)) refl c.word-2.ensures c.in_ok-w2.was in
    let w = word-some v d (omega arith) (omega arith) (cut d b (omega arith)) refl c.word-3.ensures c.in_ok-w1.was in
    words-are c.in_ok-w3.w3 c.in_ok-w2.w2 c.in_ok-w1.w1 c.in_ok-w0.w0 (omega arith)
    (word-some w (length f) (omega arith) (omega arith) (cut (length f) d (omega arith)) refl c.word-4.ensures c.in_ok-w0.was)
