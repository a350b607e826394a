-- Whether the lines behind a listing's first line are placed and their keys do not fall, as a scan from the first of them on.
use Rattle.std.specs.Prelude.{Bool, true, false, List, [], ◌∷◌, ltb, if◌then◌else◌}
use Rattle.std.proofs.Math.Option.{Option, none, some}
use Rattle.ident.specs.Number.{Key, place}
use Rattle.machine.specs.Listing.{Line, HeadLine, RequestLine, CandidateLine}

-- what the scan has met: a line that may not stand there; no request yet; a request of this key, the last one
pub data Met : Type 0 where
  Bad : Met
  Start : Met
  After : (k : Key) → Met

abbrev pub is_good : Met → Bool
is_good Bad = false
is_good Start = true
is_good (After k) = true

abbrev pub meets_key : Met → Key → Met
meets_key Bad k = Bad
meets_key Start k = After k
meets_key (After j) k = if ltb (place k) (place j) then Bad else After k

abbrev pub meets_candidate : Met → Met
meets_candidate Bad = Bad
meets_candidate Start = Bad
meets_candidate (After k) = After k

abbrev pub meets : Met → Option Line → Met
meets m none = Bad
meets m (some (HeadLine s)) = Bad
meets m (some (RequestLine r)) = meets_key m r.key
meets m (some (CandidateLine c)) = meets_candidate m

unfoldable pub placed : Met → List Line → Bool
placed m [] = is_good m
placed m (l ∷ ls) = placed (meets m (some l)) ls

-- no line of a text is placed if one of them is of no form
abbrev pub placed_from : Met → Option (List Line) → Bool
placed_from m none = false
placed_from m (some ls) = placed m ls
