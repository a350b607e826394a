-- The words of event lines (docs/EVENTS.md, "Words"): the first field of a line.
use Rattle.std.specs.Prelude.{ℕ, List, [], ◌∷◌, if◌then◌else◌, Option, None, Some}
use Rattle.machine.specs.Fields.{same_text}
use Rattle.asking.specs.declared.vocabulary.Word.{Word}
use Rattle.asking.specs.declared.vocabulary.Word.TheVariants.{Open as OpenWord, Sum as SumWord, Leave as LeaveWord, Inventory as InventoryWord}
use Rattle.asking.specs.declared.vocabulary.Word.TheVariants.{Plan as PlanWord, Want as WantWord, Take as TakeWord, Missing as MissingWord, Send as SendWord, Part as PartWord}
use Rattle.asking.specs.declared.vocabulary.Word.TheVariants.{Number as NumberOf, Keys as KeysOf, Hashes as HashesOf}
use Rattle.asking.specs.declared.vocabulary.NumberWord.TheVariants.{Announce as AnnounceWord, RequestParent as ParentWord, Failed as FailedWord}
use Rattle.asking.specs.declared.vocabulary.NumberWord.TheVariants.{Unclaim as UnclaimWord, Forget as ForgetWord, ForgetKnown as KnownWord, Teardown as TearWord}
use Rattle.asking.specs.declared.vocabulary.NumberWord.TheVariants.{FailedPackageInfo as InfoWord, PackageInfoOwner as OwnerWord}
use Rattle.asking.specs.declared.vocabulary.NumberWord.TheVariants.{ResponseCompleted as DoneWord, PollGate as PollWord}
use Rattle.asking.specs.declared.vocabulary.KeysWord.TheVariants.{Sweep as SweepWord, FailedWithParents as FailWord, ReleasePackage as ReleaseWord}
use Rattle.asking.specs.declared.vocabulary.HashesWord.TheVariants.{SolicitPackageInfo as SolicitWord, ClaimPackage as ClaimWord}
use Rattle.asking.specs.declared.vocabulary.HashesWord.TheVariants.{BeginPackageResolution as BeginWord, AnnounceParents as ParentsWord, FailedPackageClaims as LostWord, OwnersOf as OwnersWord}

-- `plan`, `want`, `take`, `nfd`, `send`, `part`
abbrev pub plan_text : List ℕ
plan_text = 112 ∷ 108 ∷ 97 ∷ 110 ∷ []

abbrev pub want_text : List ℕ
want_text = 119 ∷ 97 ∷ 110 ∷ 116 ∷ []

abbrev pub take_text : List ℕ
take_text = 116 ∷ 97 ∷ 107 ∷ 101 ∷ []

abbrev pub nfd_text : List ℕ
nfd_text = 110 ∷ 102 ∷ 100 ∷ []

abbrev pub send_text : List ℕ
send_text = 115 ∷ 101 ∷ 110 ∷ 100 ∷ []

abbrev pub part_text : List ℕ
part_text = 112 ∷ 97 ∷ 114 ∷ 116 ∷ []

unfoldable pub plan_word : List ℕ → Option Word
plan_word f =
    if same_text f plan_text then Some PlanWord
    else if same_text f want_text then Some WantWord
    else if same_text f take_text then Some TakeWord
    else if same_text f nfd_text then Some MissingWord
    else if same_text f send_text then Some SendWord
    else if same_text f part_text then Some PartWord
    else None

-- `sol`, `clm`, `beg`, `kin`, `lost`, `whose`
abbrev pub sol_text : List ℕ
sol_text = 115 ∷ 111 ∷ 108 ∷ []

abbrev pub clm_text : List ℕ
clm_text = 99 ∷ 108 ∷ 109 ∷ []

abbrev pub beg_text : List ℕ
beg_text = 98 ∷ 101 ∷ 103 ∷ []

abbrev pub kin_text : List ℕ
kin_text = 107 ∷ 105 ∷ 110 ∷ []

abbrev pub lost_text : List ℕ
lost_text = 108 ∷ 111 ∷ 115 ∷ 116 ∷ []

abbrev pub whose_text : List ℕ
whose_text = 119 ∷ 104 ∷ 111 ∷ 115 ∷ 101 ∷ []

unfoldable pub hashes_word : List ℕ → Option Word
hashes_word f =
    if same_text f sol_text then Some (HashesOf SolicitWord)
    else if same_text f clm_text then Some (HashesOf ClaimWord)
    else if same_text f beg_text then Some (HashesOf BeginWord)
    else if same_text f kin_text then Some (HashesOf ParentsWord)
    else if same_text f lost_text then Some (HashesOf LostWord)
    else if same_text f whose_text then Some (HashesOf OwnersWord)
    else plan_word f

-- `swp`, `fail`, `rel`, `gone`, `inv`
abbrev pub swp_text : List ℕ
swp_text = 115 ∷ 119 ∷ 112 ∷ []

abbrev pub fail_text : List ℕ
fail_text = 102 ∷ 97 ∷ 105 ∷ 108 ∷ []

abbrev pub rel_text : List ℕ
rel_text = 114 ∷ 101 ∷ 108 ∷ []

abbrev pub gone_text : List ℕ
gone_text = 103 ∷ 111 ∷ 110 ∷ 101 ∷ []

abbrev pub inv_text : List ℕ
inv_text = 105 ∷ 110 ∷ 118 ∷ []

unfoldable pub keys_word : List ℕ → Option Word
keys_word f =
    if same_text f swp_text then Some (KeysOf SweepWord)
    else if same_text f fail_text then Some (KeysOf FailWord)
    else if same_text f rel_text then Some (KeysOf ReleaseWord)
    else if same_text f gone_text then Some LeaveWord
    else if same_text f inv_text then Some InventoryWord
    else hashes_word f

-- `known`, `tear`, `info`, `who`, `done`, `poll`
abbrev pub known_text : List ℕ
known_text = 107 ∷ 110 ∷ 111 ∷ 119 ∷ 110 ∷ []

abbrev pub tear_text : List ℕ
tear_text = 116 ∷ 101 ∷ 97 ∷ 114 ∷ []

abbrev pub info_text : List ℕ
info_text = 105 ∷ 110 ∷ 102 ∷ 111 ∷ []

abbrev pub who_text : List ℕ
who_text = 119 ∷ 104 ∷ 111 ∷ []

abbrev pub done_text : List ℕ
done_text = 100 ∷ 111 ∷ 110 ∷ 101 ∷ []

abbrev pub poll_text : List ℕ
poll_text = 112 ∷ 111 ∷ 108 ∷ 108 ∷ []

unfoldable pub package_word : List ℕ → Option Word
package_word f =
    if same_text f known_text then Some (NumberOf KnownWord)
    else if same_text f tear_text then Some (NumberOf TearWord)
    else if same_text f info_text then Some (NumberOf InfoWord)
    else if same_text f who_text then Some (NumberOf OwnerWord)
    else if same_text f done_text then Some (NumberOf DoneWord)
    else if same_text f poll_text then Some (NumberOf PollWord)
    else keys_word f

-- `ann`, `par`, `bad`, `off`, `drop`
abbrev pub ann_text : List ℕ
ann_text = 97 ∷ 110 ∷ 110 ∷ []

abbrev pub par_text : List ℕ
par_text = 112 ∷ 97 ∷ 114 ∷ []

abbrev pub bad_text : List ℕ
bad_text = 98 ∷ 97 ∷ 100 ∷ []

abbrev pub off_text : List ℕ
off_text = 111 ∷ 102 ∷ 102 ∷ []

abbrev pub drop_text : List ℕ
drop_text = 100 ∷ 114 ∷ 111 ∷ 112 ∷ []

unfoldable pub request_word : List ℕ → Option Word
request_word f =
    if same_text f ann_text then Some (NumberOf AnnounceWord)
    else if same_text f par_text then Some (NumberOf ParentWord)
    else if same_text f bad_text then Some (NumberOf FailedWord)
    else if same_text f off_text then Some (NumberOf UnclaimWord)
    else if same_text f drop_text then Some (NumberOf ForgetWord)
    else package_word f

-- `open`, `sum`
abbrev pub open_text : List ℕ
open_text = 111 ∷ 112 ∷ 101 ∷ 110 ∷ []

abbrev pub sum_text : List ℕ
sum_text = 115 ∷ 117 ∷ 109 ∷ []

unfoldable pub word_of : List ℕ → Option Word
word_of f =
    if same_text f open_text then Some OpenWord
    else if same_text f sum_text then Some SumWord
    else request_word f
