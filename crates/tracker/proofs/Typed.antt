-- The calls that the code can make have arguments of their widths, so that demands 2 and 3 (proofs/Demands) speak of every list of them.
use Prim.Native.Nat.{ℕ}
use mathlib.Core.Path.{◌≡◌}
use mathlib.Core.List.{List, [], ◌∷◌}
use lib.ListN.{length}
use Rattle.machine.specs.Typed.{Each, CallTyped}
use Rattle.machine.specs.Call.{Call, Open, opening_refusal}
use Rattle.machine.specs.Step.{empty}
use Rattle.store.specs.Image.{SoundStore, Bytes}
use Rattle.lent_lists.proofs.Given.{hashes-fit}
use Rattle.lent_lists.proofs.Inventory.{items-fit, offers-fit}
use Rattle.claiming.specs.Claiming.{entries_in}
use Rattle.selecting.proofs.Given.{given_typed}
use Rattle.outcome.specs.Outcome.{Effect}
use Rattle.outcome.proofs.Widths.{candidate-typed, key-typed}
use Rattle.public_plans.proofs.Entered.{entries_whole, whole_typed}
use Rattle.public_plans.proofs.Sent.{words_small}
use Rattle.tracker.specs.Tracked.{Ran, Tracked}
use Rattle.tracker.specs.Made.{Made, opens, sums, saves, restores, announces, requests-parent, announces-parents, fails, fails_with_parents, releases-package, claims}
use Rattle.tracker.specs.Made.{departs, unclaims, forgets, forgets_known, fails-info, reads-owner, announces-transactions, completes, sweeps, gates}
use Rattle.tracker.specs.Made.{solicits, claims-package, begins-resolution, fails-claims, tears_down, misses, plans, plans_given, arranges, reads-owners}
use Rattle.tracker.proofs.Demands.{tracked, tracked_open}

pub made_typed : (c : Call) → Made c → CallTyped c
made_typed c (opens l q g h) = (g, h)
made_typed c sums = tt
made_typed c (saves u) = tt
made_typed c (restores x) = tt
made_typed c (announces d g) = candidate-typed d g
made_typed c (requests-parent d g) = candidate-typed d g
made_typed c (announces-parents n clock b u g h p) = (g, hashes-fit b p, h)
made_typed c (fails k n clock i g h) = (key-typed k i, g, h)
made_typed c (fails_with_parents k n clock u i g h) = (key-typed k i, g, h)
made_typed c (releases-package n h clock u g i j) = (g, i, j)
made_typed c (claims clock b u g p) = (g, whole_typed (entries_in b) (entries_whole b p))
made_typed c (departs n clock u g h) = (g, h)
made_typed c (unclaims k n i g) = (key-typed k i, g)
made_typed c (forgets k i) = key-typed k i
made_typed c (forgets_known k clock i g) = (key-typed k i, g)
made_typed c (fails-info k n clock i g h) = (key-typed k i, g, h)
made_typed c (reads-owner k clock i h) = (key-typed k i, h)
made_typed c (announces-transactions n clock p v b d g h i j) = (g, h, offers-fit b d i j)
made_typed c (completes n x w clock g h i j) = (g, h, i, j)
made_typed c (sweeps u) = tt
made_typed c (gates clock g) = g
made_typed c (solicits n k clock b g h j p) = (g, h, hashes-fit b p, j)
made_typed c (claims-package n k d clock b g h i j p) = (g, h, i, hashes-fit b p, j)
made_typed c (begins-resolution n k d clock b g h i j p) = (g, h, i, hashes-fit b p, j)
made_typed c (fails-claims n clock b u g h p) = (g, hashes-fit b p, h)
made_typed c (tears_down clock g) = g
made_typed c (misses n clock b u g h p) = (g, items-fit b p, h)
made_typed c (plans clock u g) = (g, tt)
made_typed c (plans_given clock b u g p) = (g, given_typed b p)
made_typed c (arranges v b u p q) = (words_small v p, whole_typed (entries_in b) (entries_whole b q))
made_typed c (reads-owners b u p) = hashes-fit b p

each_typed : (cs : List Call) → Each Made cs → Each CallTyped cs
each_typed [] m = tt
each_typed (c ∷ cs) m = (made_typed c m.0, each_typed cs m.1)

-- demands 2 and 3 of every list of them, from any sound store
pub tracked_made : (b : List ℕ) (calls : List Call) (es : List Effect) (w : SoundStore b) → Bytes b → Each Made calls → Ran b calls es → Tracked b w.state calls es
tracked_made b calls es w p m r = tracked b calls es w p (each_typed calls m) r

-- and from an empty tracker, by an opening that is carried out
pub tracked_opened : (b : List ℕ) (L Q : ℕ) (e : Effect) (calls : List Call) (es : List Effect) → opening_refusal (length b) L Q ≡ 0 → Bytes b → Each Made calls → Ran b (Open L Q ∷ calls)
    (e ∷ es) → Tracked e.store (empty L Q) calls es
tracked_opened b L Q e calls es z p m r = (tracked_open b L Q e calls es z p (each_typed calls m) r).1
