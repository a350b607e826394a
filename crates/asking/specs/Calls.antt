-- Which line the fields behind a word are (docs/EVENTS.md, "Words"); none for a line of no listed form.
use Rattle.std.specs.Prelude.{ℕ, ◌&&◌, List, [], ◌∷◌, leb, replicate, if◌then◌else◌}
use Rattle.std.specs.Prelude as answer
use Rattle.std.proofs.Math.Option.{Option, none, some}
use Rattle.ident.specs.Number.{Key, Item}
use Rattle.machine.specs.Wrapper.{Offer}
use Rattle.machine.specs.Call.{Buffer, Open, On}
use Rattle.machine.specs.Call.{Ask, Announce, RequestParent, Failed, Unclaim, Forget, ForgetKnown, TeardownPackageClaims, FailedPackageInfo, PackageInfoOwner}
use Rattle.machine.specs.Call.{TransactionResponseCompleted, PollGate, Sum}
use Rattle.machine.specs.Call.{Sweep, FailedWithParents, ReleasePackage, Disconnected, AnnounceTransactions}
use Rattle.machine.specs.Call.{SolicitPackageInfo, ClaimPackage, BeginPackageResolution, AnnounceParents, FailedPackageClaims, OwnersOf}
use Rattle.machine.specs.Call.{Plan, TransactionNotFound}
use Rattle.machine.specs.Fields.{number_of, fields, taking, ending}
use Rattle.asking.specs.declared.vocabulary.Word.{Word}
use Rattle.asking.specs.declared.vocabulary.Word.TheVariants.{Open as OpenWord, Sum as SumWord, Leave as LeaveWord, Inventory as InventoryWord}
use Rattle.asking.specs.declared.vocabulary.Word.TheVariants.{Plan as PlanWord, Want as WantWord, Take as TakeWord, Missing as MissingWord, Send as SendWord, Part as PartWord}
use Rattle.asking.specs.declared.vocabulary.Word.TheVariants.{Number as NumberOf, Keys as KeysOf, Hashes as HashesOf}
use Rattle.asking.specs.declared.vocabulary.NumberWord.{NumberWord}
use Rattle.asking.specs.declared.vocabulary.NumberWord.TheVariants.{Announce as AnnounceWord, RequestParent as ParentWord, Failed as FailedWord}
use Rattle.asking.specs.declared.vocabulary.NumberWord.TheVariants.{Unclaim as UnclaimWord, Forget as ForgetWord, ForgetKnown as KnownWord, Teardown as TearWord}
use Rattle.asking.specs.declared.vocabulary.NumberWord.TheVariants.{FailedPackageInfo as InfoWord, PackageInfoOwner as OwnerWord}
use Rattle.asking.specs.declared.vocabulary.NumberWord.TheVariants.{ResponseCompleted as DoneWord, PollGate as PollWord}
use Rattle.asking.specs.declared.vocabulary.KeysWord.{KeysWord}
use Rattle.asking.specs.declared.vocabulary.KeysWord.TheVariants.{Sweep as SweepWord, FailedWithParents as FailWord, ReleasePackage as ReleaseWord}
use Rattle.asking.specs.declared.vocabulary.HashesWord.{HashesWord}
use Rattle.asking.specs.declared.vocabulary.HashesWord.TheVariants.{SolicitPackageInfo as SolicitWord, ClaimPackage as ClaimWord}
use Rattle.asking.specs.declared.vocabulary.HashesWord.TheVariants.{BeginPackageResolution as BeginWord, AnnounceParents as ParentsWord, FailedPackageClaims as LostWord}
use Rattle.asking.specs.declared.vocabulary.HashesWord.TheVariants.{OwnersOf as OwnersWord}
use Rattle.reading.specs.Line.{Line, Asks, Take, Part}
use Rattle.reading.specs.Forms.{Values, blank, key_in, candidate_in, form_then}
use Rattle.reading.specs.Forms.{key_field, item_field, hash_field, combined_field, connection_field, now_field, ready_field, priority_field, preferred_field, source_field}
use Rattle.reading.specs.Lists.{list_call, key_list_call, item_list_call, offers_call, send_line}
use Rattle.asking.specs.Words.{word_of}

-- ---- `open`

-- "an `open` with L above 100 or Q above 2 is unreadable"
abbrev pub most_announcements : ℕ
most_announcements = 100

abbrev pub most_places : ℕ
most_places = 2

abbrev pub opening : ℕ → ℕ → Option Line
opening L Q = if leb L most_announcements && leb Q most_places then some (Asks (Open L Q)) else none

unfoldable pub open_of : List (List ℕ) → Option Line
open_of fs = taking number_of (λ L. taking number_of (λ Q. ending (opening L Q))) fs

-- ---- answer buffers

-- 300 keys of 40 bytes or 107 entries of 112: the most that a call of this program needs, which opens for 100 announcements and 2 places at most
unfoldable pub answer_buffer : Buffer
answer_buffer = replicate 12000 0

-- that of items that are not found: a key for each of the 21,845 that a line of 65,536 bytes can hold (a comma, a letter and a digit each), and 200 for parents
unfoldable pub missing_buffer : Buffer
missing_buffer = replicate 881800 0

-- that of the owners of 1,024 hashes, 24 bytes each
unfoldable pub owners_buffer : Buffer
owners_buffer = replicate 24576 0

-- ---- words with a form

-- the fields of the words whose reply is a number
abbrev pub number_form : NumberWord → List ℕ
number_form AnnounceWord = connection_field ∷ item_field ∷ ready_field ∷ preferred_field ∷ priority_field ∷ []
number_form ParentWord = connection_field ∷ item_field ∷ ready_field ∷ preferred_field ∷ priority_field ∷ []
number_form FailedWord = key_field ∷ connection_field ∷ now_field ∷ []
number_form UnclaimWord = key_field ∷ connection_field ∷ []
number_form ForgetWord = key_field ∷ []
number_form KnownWord = key_field ∷ now_field ∷ []
number_form TearWord = now_field ∷ []
number_form InfoWord = key_field ∷ connection_field ∷ now_field ∷ []
number_form OwnerWord = key_field ∷ now_field ∷ []
number_form DoneWord = connection_field ∷ hash_field ∷ combined_field ∷ now_field ∷ []
number_form PollWord = now_field ∷ []

abbrev pub number_ask : NumberWord → Values → Ask
number_ask AnnounceWord v = Announce (candidate_in v)
number_ask ParentWord v = RequestParent (candidate_in v)
number_ask FailedWord v = Failed (key_in v) v.connection v.now
number_ask UnclaimWord v = Unclaim (key_in v) v.connection
number_ask ForgetWord v = Forget (key_in v)
number_ask KnownWord v = ForgetKnown (key_in v) v.now
number_ask TearWord v = TeardownPackageClaims v.now
number_ask InfoWord v = FailedPackageInfo (key_in v) v.connection v.now
number_ask OwnerWord v = PackageInfoOwner (key_in v) v.now
number_ask DoneWord v = TransactionResponseCompleted v.connection v.hash v.combined v.now
number_ask PollWord v = PollGate v.now

unfoldable pub number_call : NumberWord → List (List ℕ) → Option Line
number_call w fs = form_then (number_form w) blank (λ v. ending (some (Asks (On (number_ask w v))))) fs

-- those of the words whose reply is a list of keys
abbrev pub keys_form : KeysWord → List ℕ
keys_form SweepWord = []
keys_form FailWord = key_field ∷ connection_field ∷ now_field ∷ []
keys_form ReleaseWord = connection_field ∷ hash_field ∷ now_field ∷ []

abbrev pub keys_ask : KeysWord → Values → Ask
keys_ask SweepWord v = Sweep answer_buffer
keys_ask FailWord v = FailedWithParents (key_in v) v.connection v.now answer_buffer
keys_ask ReleaseWord v = ReleasePackage v.connection v.hash v.now answer_buffer

unfoldable pub keys_call : KeysWord → List (List ℕ) → Option Line
keys_call w fs = form_then (keys_form w) blank (λ v. ending (some (Asks (On (keys_ask w v))))) fs

-- "gone: connection, now"
abbrev pub leave_form : List ℕ
leave_form = connection_field ∷ now_field ∷ []

abbrev pub leave_ask : Values → Ask
leave_ask v = Disconnected v.connection v.now answer_buffer

unfoldable pub leave_call : List (List ℕ) → Option Line
leave_call fs = form_then leave_form blank (λ v. ending (some (Asks (On (leave_ask v))))) fs

-- "inv: connection, now, preferred, wtxid source exists, list of (item, priority)"
abbrev pub inventory_form : List ℕ
inventory_form = connection_field ∷ now_field ∷ preferred_field ∷ source_field ∷ []

abbrev pub inventory_ask : Values → List Offer → Ask
inventory_ask v os = AnnounceTransactions v.connection v.now v.preferred v.source os

unfoldable pub inventory_call : List (List ℕ) → Option Line
inventory_call fs = form_then inventory_form blank (λ v. offers_call (inventory_ask v)) fs

-- those of the words with a list of hashes behind them
abbrev pub hashes_form : HashesWord → List ℕ
hashes_form SolicitWord = connection_field ∷ hash_field ∷ now_field ∷ []
hashes_form ClaimWord = connection_field ∷ hash_field ∷ combined_field ∷ now_field ∷ []
hashes_form BeginWord = connection_field ∷ hash_field ∷ combined_field ∷ now_field ∷ []
hashes_form ParentsWord = connection_field ∷ now_field ∷ []
hashes_form LostWord = connection_field ∷ now_field ∷ []
hashes_form OwnersWord = []

abbrev pub hashes_ask : HashesWord → Values → List ℕ → Ask
hashes_ask SolicitWord v hs = SolicitPackageInfo v.connection v.hash hs v.now
hashes_ask ClaimWord v hs = ClaimPackage v.connection v.hash v.combined hs v.now
hashes_ask BeginWord v hs = BeginPackageResolution v.connection v.hash v.combined hs v.now
hashes_ask ParentsWord v hs = AnnounceParents v.connection hs v.now answer_buffer
hashes_ask LostWord v hs = FailedPackageClaims v.connection hs v.now answer_buffer
hashes_ask OwnersWord v hs = OwnersOf hs owners_buffer

unfoldable pub hashes_call : HashesWord → List (List ℕ) → Option Line
hashes_call w fs = form_then (hashes_form w) blank (λ v. list_call (hashes_ask w v)) fs

-- ---- plans, and what is kept of them

-- "plan: now", "take: now"
abbrev pub plan_form : List ℕ
plan_form = now_field ∷ []

abbrev pub plan_ask : Values → Ask
plan_ask v = Plan v.now none answer_buffer

unfoldable pub plan_line : List (List ℕ) → Option Line
plan_line fs = form_then plan_form blank (λ v. ending (some (Asks (On (plan_ask v))))) fs

unfoldable pub take_line : List (List ℕ) → Option Line
take_line fs = form_then plan_form blank (λ v. ending (some (Take v.now))) fs

-- "part: connection"
abbrev pub part_form : List ℕ
part_form = connection_field ∷ []

unfoldable pub part_line : List (List ℕ) → Option Line
part_line fs = form_then part_form blank (λ v. ending (some (Part v.connection))) fs

-- "want: now, list of keys"
abbrev pub want_ask : Values → List Key → Ask
want_ask v ks = Plan v.now (some ks) answer_buffer

unfoldable pub want_line : List (List ℕ) → Option Line
want_line fs = form_then plan_form blank (λ v. key_list_call (want_ask v)) fs

-- "nfd: connection, now, list of items"
abbrev pub missing_form : List ℕ
missing_form = connection_field ∷ now_field ∷ []

abbrev pub missing_ask : Values → List Item → Ask
missing_ask v is = TransactionNotFound v.connection is v.now missing_buffer

unfoldable pub missing_line : List (List ℕ) → Option Line
missing_line fs = form_then missing_form blank (λ v. item_list_call (missing_ask v)) fs

-- ---- the whole line

abbrev pub line_with : Word → List (List ℕ) → Option Line
line_with OpenWord fs = open_of fs
line_with SumWord fs = ending (some (Asks (On Sum))) fs
line_with LeaveWord fs = leave_call fs
line_with InventoryWord fs = inventory_call fs
line_with PlanWord fs = plan_line fs
line_with WantWord fs = want_line fs
line_with TakeWord fs = take_line fs
line_with MissingWord fs = missing_line fs
line_with SendWord fs = send_line fs
line_with PartWord fs = part_line fs
line_with (NumberOf w) fs = number_call w fs
line_with (KeysOf w) fs = keys_call w fs
line_with (HashesOf w) fs = hashes_call w fs

-- none where the first field is no word
abbrev pub line_named : answer.Option Word → List (List ℕ) → Option Line
line_named answer.None fs = none
line_named (answer.Some w) fs = line_with w fs

unfoldable pub called : List (List ℕ) → Option Line
called [] = none
called (w ∷ fs) = line_named (word_of w) fs

unfoldable pub line_of : List ℕ → Option Line
line_of line = called (fields line)
