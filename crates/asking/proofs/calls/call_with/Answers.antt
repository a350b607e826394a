-- `asking::calls::call_with` meets its contract: each word with a form by one of two laws (proofs/Filled).
use mathlib.Core.Path.{◌≡◌, refl}
use Rattle.std.proofs.Common.{rules}
use Rattle.std.specs.Prelude.{None, Some, MatchOption}
use Rattle.machine.specs.Call.{On}
use Rattle.reading.specs.Line.{Asks, Take as TakeLine, Part as PartLine}
use Rattle.reading.specs.Lists.{list_call, key_list_call, item_list_call, offers_call}
use Rattle.asking.specs.declared.calls.Asked.TheVariants.{Leaving, Offers, Planning, Wanting, Missing, Taking, Parting, Number, Keys, Hashes}
use Rattle.asking.specs.Calls.{leave_ask, inventory_ask, plan_ask, want_ask, missing_ask, number_ask, keys_ask, hashes_ask}
use Rattle.asking.specs.Calls.{leave_call, inventory_call, plan_line, want_line, take_line, missing_line, part_line, number_call, keys_call, hashes_call}
use Rattle.asking.proofs.Filled.{whole_asked, fields_asked}
use Rattle.asking.proofs.Worded.{with_word}
use Rattle.asking.proofs.calls.call_with.Goals as goal

pub returns-in-Leave : goal.returns-in-Leave
unfolding leave_call
returns-in-Leave c =
    let m : MatchOption c.read_whole.result (c.map.result ≡ None) (λ v. c.map.result ≡ Some (Leaving v)) = search rules in
    with_word _ c.in-Leave.is (whole_asked _ c.read_whole.ensures (λ v. Asks (On (leave_ask v))) (λ v. Leaving v) (λ v. refl) _ m)

pub returns-in-Inventory : goal.returns-in-Inventory
unfolding inventory_call
returns-in-Inventory c =
    let m : MatchOption c.read_form.result (c.map-in-Inventory.result ≡ None) (λ t. c.map-in-Inventory.result ≡ Some (Offers t.value t.end)) = search rules in
    with_word _ c.in-Inventory.is (fields_asked _ c.read_form.ensures (λ v. offers_call (inventory_ask v)) (λ t. Offers t.value t.end) (λ t. refl) _ m)

pub returns-in-Plan : goal.returns-in-Plan
unfolding plan_line
returns-in-Plan c =
    let m : MatchOption c.read_whole-in-Plan.result (c.map-in-Plan.result ≡ None) (λ v. c.map-in-Plan.result ≡ Some (Planning v)) = search rules in
    with_word _ c.in-Plan.is (whole_asked _ c.read_whole-in-Plan.ensures (λ v. Asks (On (plan_ask v))) (λ v. Planning v) (λ v. refl) _ m)

pub returns-in-Want : goal.returns-in-Want
unfolding want_line
returns-in-Want c =
    let m : MatchOption c.read_form-in-Want.result (c.map-in-Want.result ≡ None) (λ t. c.map-in-Want.result ≡ Some (Wanting t.value t.end)) = search rules in
    with_word _ c.in-Want.is (fields_asked _ c.read_form-in-Want.ensures (λ v. key_list_call (want_ask v)) (λ t. Wanting t.value t.end) (λ t. refl) _ m)

pub returns-in-Take : goal.returns-in-Take
unfolding take_line
returns-in-Take c =
    let m : MatchOption c.read_whole-in-Take.result (c.map-in-Take.result ≡ None) (λ v. c.map-in-Take.result ≡ Some (Taking v)) = search rules in
    with_word _ c.in-Take.is (whole_asked _ c.read_whole-in-Take.ensures (λ v. TakeLine v.now) (λ v. Taking v) (λ v. refl) _ m)

pub returns-in-Missing : goal.returns-in-Missing
unfolding missing_line
returns-in-Missing c =
    let m : MatchOption c.read_form-in-Missing.result (c.map-in-Missing.result ≡ None) (λ t. c.map-in-Missing.result ≡ Some (Missing t.value t.end)) = search rules in
    with_word _ c.in-Missing.is (fields_asked _ c.read_form-in-Missing.ensures (λ v. item_list_call (missing_ask v)) (λ t. Missing t.value t.end) (λ t. refl) _ m)

pub returns-in-Part : goal.returns-in-Part
unfolding part_line
returns-in-Part c =
    let m : MatchOption c.read_whole-in-Part.result (c.map-in-Part.result ≡ None) (λ v. c.map-in-Part.result ≡ Some (Parting v)) = search rules in
    with_word _ c.in-Part.is (whole_asked _ c.read_whole-in-Part.ensures (λ v. PartLine v.connection) (λ v. Parting v) (λ v. refl) _ m)

pub returns-in-Number : goal.returns-in-Number
unfolding number_call
returns-in-Number c =
    let m : MatchOption c.number_values.result (c.map-in-Number.result ≡ None) (λ v. c.map-in-Number.result ≡ Some (Number c.in-Number.x v)) = search rules in
    with_word _ c.in-Number.is (whole_asked _ c.number_values.ensures (λ v. Asks (On (number_ask c.in-Number.x v))) (λ v. Number c.in-Number.x v) (λ v. refl) _ m)

pub returns-in-Keys : goal.returns-in-Keys
unfolding keys_call
returns-in-Keys c =
    let m : MatchOption c.keys_values.result (c.map-in-Keys.result ≡ None) (λ v. c.map-in-Keys.result ≡ Some (Keys c.in-Keys.x v)) = search rules in
    with_word _ c.in-Keys.is (whole_asked _ c.keys_values.ensures (λ v. Asks (On (keys_ask c.in-Keys.x v))) (λ v. Keys c.in-Keys.x v) (λ v. refl) _ m)

pub returns-in-Hashes : goal.returns-in-Hashes
unfolding hashes_call
returns-in-Hashes c =
    let m : MatchOption c.hashes_values.result (c.map-in-Hashes.result ≡ None) (λ t. c.map-in-Hashes.result ≡ Some (Hashes c.in-Hashes.x t.value t.end)) = search rules in
    with_word _ c.in-Hashes.is (fields_asked _ c.hashes_values.ensures (λ v. list_call (hashes_ask c.in-Hashes.x v)) (λ t. Hashes c.in-Hashes.x t.value t.end) (λ t. refl) _ m)
