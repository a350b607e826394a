-- Owners of many hashes: each answer by itself, how many there are, and how many keys were passed.
use Prim.Native.Nat.{ℕ, suc, ◌+◌, ◌*◌, ◌≤◌, ◌<◌}
use mathlib.Core.Path.{◌≡◌, refl, sym, ap, ◌∙◌}
use mathlib.Core.Logic.{inl, inr}
use mathlib.Core.Bool.{Bool, true, false}
use mathlib.Core.List.{List, [], ◌∷◌, ◌++◌, map}
use mathlib.Core.Option.{Option, none, some}
use native.Mathlib.Omega.{arith}
use lib.Dec.{ltb, leb}
use lib.ListN.{length, length-append, length-map}
use Rattle.ident.specs.Number.{Key}
use Rattle.words.specs.Words.{bytes_of}
use Rattle.machine.specs.State.{Table}
use Rattle.machine.specs.Table.{keys, one}
use Rattle.machine.specs.Owners.{Holding, holding_at, holdings, greatest_hash, keys_up_to, passed}
use Rattle.machine.specs.Call.{owner_bytes}
use Rattle.machine.specs.Step.{holding_words, holding_answer, holdings_answer}
use Rattle.machine.proofs.Tests.{test}
use Rattle.words.proofs.Words.{length-bytes}

-- ---- "Each answer equals that for a list of its hash by itself."

-- the n-th answer is that of the n-th hash
pub alone : (t : Table) (before : List ℕ) (h : ℕ) (after : List ℕ) → holdings (before ++ (h ∷ after)) t ≡ holdings before t ++ (holdings (h ∷ []) t ++ holdings after t)
alone t [] h after = refl
alone t (g ∷ before) h after = ap (λ (l : List (Option Holding)). holding_at t g ∷ l) (alone t before h after)

-- ---- lengths

pub length-holding_answer : (o : Option Holding) → length (holding_answer o) ≡ owner_bytes
length-holding_answer none = length-bytes (0 ∷ 0 ∷ 0 ∷ [])
length-holding_answer (some a) = length-bytes (holding_words (some a))

pub length-holdings_answer : (l : List (Option Holding)) → length (holdings_answer l) ≡ owner_bytes * length l
unfolding holdings_answer
length-holdings_answer [] = refl
length-holdings_answer (o ∷ l) = omega (arith, length-append (holding_answer o) (holdings_answer l), length-holding_answer o, length-holdings_answer l)

pub length-holdings : (hs : List ℕ) (t : Table) → length (holdings_answer (holdings hs t)) ≡ owner_bytes * length hs
length-holdings hs t = omega (arith, length-holdings_answer (holdings hs t), length-map hs (holding_at t))

-- ---- "never more than the keys held", "0 for an empty list"

pub up_to_few : (h : ℕ) (ks : List Key) → keys_up_to h ks ≤ length ks
unfolding keys_up_to
up_to_few h [] = omega arith
up_to_few h (k ∷ ks) = elim (test (leb k.hash h)) [ inl e ↦ rw e (omega (arith, up_to_few h ks)) | inr e ↦ rw e (omega (arith, up_to_few h ks)) ]

pub passed_few : (hs : List ℕ) (t : Table) → passed hs t ≤ length (keys t)
unfolding passed
passed_few [] t = omega arith
passed_few (h ∷ hs) t = up_to_few (greatest_hash h hs) (keys t)

pub passed_none : (t : Table) → passed [] t ≡ 0
unfolding passed
passed_none t = refl
