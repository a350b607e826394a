-- The edges of document 01 that are marked P hold: each side computes to the other.
use mathlib.Core.Path.{refl}
use Rattle.ident.specs.Number.{top}
use Rattle.words.specs.Words.{digits, bytes_of}
use Rattle.machine.specs.Limits.{need}
use Rattle.machine.specs.Table.{at, keep, change, keys, count_in, total, has}
use Rattle.machine.specs.Announce.{without, victims_in, victims, after, greatest_from, greatest, evicting, announce_at, announce_keyed, adopt, request_parent_at, request_parent_keyed}
use Rattle.machine.specs.Fail.{left, failed, unclaim, forget, but, dedup, parents_from, announce_parents}
use Rattle.machine.specs.Package.{solicit, claim_package, same_list, begin_resolution, listed_after, failed_with_parents, failed_package_info, package_info_owner}
use Rattle.machine.specs.Package.{release_package, claim_key, some_keys, fail_each, failed_package_claims, package_keys, left_if_owned, tear_each, teardown}
use Rattle.machine.specs.Leave.{guarded, forget_known, keys_of, announce_each, drop_at_key, drop_each, insert_key, sort_keys, disconnected}
use Rattle.machine.specs.Sweep.{only, round, last_of, handed}
use Rattle.machine.specs.Later.{least_later, any_ready, times}
use Rattle.machine.specs.Plan.{chosen_by, chosen_at, able, sooner, better, or_else, least_in, least_at, choice, consider, phase, due, expire, insert_by_priority, sort_by_priority, plan}
use Rattle.machine.specs.Claim.{same_entry, takes, claim, elem, for_witness, insert_by_connection, sort_by_connection, arrange, part_of}
use Rattle.machine.specs.Wrapper.{offers_from, announce_transactions, response_completed, not_found_one, not_found_each, packages_in, not_found, sum}
use Rattle.machine.specs.Owners.{holding_at, ascending, greatest_hash, keys_up_to, passed}
use Rattle.machine.specs.Call.{named, any_late, takes_place, late, opening_refusal, ask_refusal, refusal}
use Rattle.machine.specs.Step.{perform, carry_out, keys_answer, entries_answer, holdings_answer, written, step_if}
use Rattle.machine.specs.Edges.{Edges}

pub edges : Edges
unfolding top digits bytes_of need at keep change keys count_in total has without victims_in victims after greatest_from greatest evicting announce_at announce_keyed adopt request_parent_at
    request_parent_keyed left failed unclaim forget but dedup parents_from announce_parents solicit claim_package same_list begin_resolution listed_after failed_with_parents failed_package_info
    package_info_owner release_package claim_key some_keys fail_each failed_package_claims package_keys left_if_owned tear_each teardown guarded forget_known keys_of announce_each
    drop_at_key drop_each insert_key
    sort_keys disconnected only round last_of handed
    least_later any_ready times chosen_by chosen_at able sooner better or_else least_in least_at choice consider phase due expire insert_by_priority sort_by_priority plan same_entry
    takes claim elem for_witness insert_by_connection sort_by_connection arrange part_of offers_from announce_transactions response_completed not_found_one not_found_each packages_in
    not_found sum named any_late
    takes_place holding_at ascending greatest_hash keys_up_to passed late opening_refusal ask_refusal refusal perform carry_out keys_answer entries_answer holdings_answer written step_if
edges = record {
  worked-lines = refl;
  look-lines = refl;
  whose-lines = refl;
  ninth-preferred = refl;
  all_stay = refl;
  one_unpreferred = refl;
  it_goes = refl;
  nine_goes = refl;
  nine_goes_first = refl;
  wtxid_goes = refl;
  greater_goes = refl;
  keeps = refl;
  fails = refl;
  no-wtxids = refl;
  one_wtxid = refl;
  enqueued = refl;
  parents = refl;
  delayed = refl;
  two_of_three = refl;
}
