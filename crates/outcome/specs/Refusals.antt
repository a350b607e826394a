-- The refusals by the numbers of document 01's table.
use Rattle.std.specs.Prelude.{ℕ, Result, Ok, Err}
use Rattle.outcome.specs.declared.refusal.Refusal.{Refusal}
use Rattle.outcome.specs.declared.refusal.Refusal.TheVariants.{StoreTooShort, SizesOutOfRange, NotSound, NoConnection, NowTooLate, TooManyParents}
use Rattle.outcome.specs.declared.refusal.Refusal.TheVariants.{AnswerTooShort, NoPlace, UnreadableLine, BadPayload, NotAListing, ListingNotSound, WrongHashes}

abbrev pub number_of : Refusal → ℕ
number_of StoreTooShort = 1
number_of SizesOutOfRange = 2
number_of NotSound = 3
number_of NoConnection = 4
number_of NowTooLate = 5
number_of TooManyParents = 6
number_of AnswerTooShort = 7
number_of NoPlace = 8
number_of UnreadableLine = 9
number_of BadPayload = 10
number_of NotAListing = 11
number_of ListingNotSound = 12
number_of WrongHashes = 13

-- the number of a test or of a call: 0, if it has nothing against the call
abbrev pub refusal_in : {T : Type 0} → Result T Refusal → ℕ
refusal_in (Ok x) = 0
refusal_in (Err r) = number_of r
