-- What the contracts of the readers of lines say.
use Rattle.std.specs.Prelude.{ℕ, ◌+◌, List}
use Rattle.std.specs.Prelude as answer
use Rattle.std.proofs.Math.Option.{Option, none, some}
use Rattle.machine.specs.Call.{Sum, Open, On}
use Rattle.machine.specs.Fields.{rest}
use Rattle.reading.specs.Line.{Line, Asks, Take, Part}
use Rattle.reading.specs.Lists.{list_call, key_list_call, item_list_call, offers_call, send_line}
use Rattle.reading.specs.Given.{values_of}
use Rattle.asking.specs.declared.calls.Asked.{Asked}
use Rattle.asking.specs.declared.calls.Asked.TheVariants.{Opening, Summing, Leaving, Offers, Number, Keys as KeysAsked, Hashes as HashesAsked}
use Rattle.asking.specs.declared.calls.Asked.TheVariants.{Planning, Wanting, Missing, Taking, Sending, Parting}
use Rattle.asking.specs.Calls.{number_ask, keys_ask, leave_ask, inventory_ask, hashes_ask, plan_ask, want_ask, missing_ask}

-- what the line l is that asks for this
abbrev pub asked_line : List ℕ → Asked → Option Line
asked_line l (Opening L Q) = some (Asks (Open L Q))
asked_line l Summing = some (Asks (On Sum))
asked_line l (Leaving v) = some (Asks (On (leave_ask (values_of v))))
asked_line l (Offers v e) = offers_call (inventory_ask (values_of v)) (rest l (e + 1))
asked_line l (Planning v) = some (Asks (On (plan_ask (values_of v))))
asked_line l (Wanting v e) = key_list_call (want_ask (values_of v)) (rest l (e + 1))
asked_line l (Missing v e) = item_list_call (missing_ask (values_of v)) (rest l (e + 1))
asked_line l (Taking v) = some (Take (values_of v).now)
asked_line l (Sending e) = send_line (rest l (e + 1))
asked_line l (Parting v) = some (Part (values_of v).connection)
asked_line l (Number w v) = some (Asks (On (number_ask w (values_of v))))
asked_line l (KeysAsked w v) = some (Asks (On (keys_ask w (values_of v))))
asked_line l (HashesAsked w v e) = list_call (hashes_ask w (values_of v)) (rest l (e + 1))

-- none where it is not readable
abbrev pub asked_in : List ℕ → answer.Option Asked → Option Line
asked_in l answer.None = none
asked_in l (answer.Some a) = asked_line l a
