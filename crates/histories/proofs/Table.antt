-- Every row of the table holds, by computation, and its arena is fresh.
use mathlib.Core.Path.{◌≡◌, refl}
use mathlib.Core.List.{[], ◌∷◌, ◌++◌, map, flatten}
use lib.ListN.{replicate}
use Rattle.worker.specs.Stages.{step_of}
use Rattle.worker.specs.Worker.{add}
use Rattle.worker.specs.Turn.{belongs, kept, placed, astray, busy_refusals, turn_refusals, turn_of}
use Rattle.words.specs.Layout.{header_words, old_header_words, worker_part, node_part, node_from}
use Rattle.words.specs.Records.{worker_at, with_worker, with_node, node_at}
use Rattle.words.specs.Header.{is_header, is_old_header, header_refusals}
use Rattle.arena.specs.Init.{fresh_workers, fresh_nodes, fresh_words}
use Rattle.arena.specs.Start.{call_refusals, start_refusals, start_arena}
use Rattle.arena.specs.Sets.{member, walk, chain, chain_nodes, set_nodes, chain_labels, set_of}
use Rattle.arena.specs.Snapshot.{chain_broken}
use Rattle.arena.specs.Lists.{numbers_from}
use Rattle.convert.specs.Convert.{any_above, conversion_refusals, convert_refusals, converted, convert_target, to_layout_1_target, to_layout_2_target}
use Rattle.convert.specs.Layouts.{new_header, part_node, layout_refusals}
use Rattle.lazy.specs.Free.{roots_of, leads, reached, lowest_from, lowest_free}
use Rattle.lazy.specs.Turn.{seen_of, seen_by, worker_refusals, counted, turn_on, with_effect, with_growth, turn_arena}
use Rattle.linear.specs.Times.{first, latest}
use Rattle.linear.specs.Entries.{event_of, after}
use Rattle.linear.specs.History.{is_decision, entry_at, arena_at, event_at, finishes_at, decides_at, absent_at, finish_of, decision_of, answer_of, point_of, call_at, calls, starts_call_of, call_number, wait_at, waits, totals}
use Rattle.linear.specs.Order.{goes_before, inserted, sorted, in_order}
use Rattle.linear.specs.Sequential.{including, excluding, response_to, labels_after}
use Rattle.histories.specs.Histories.{start, turn, found, stated, for_two, for_one, at_rest, old_arena, new_arena, histories}

pub histories_hold : map found histories ≡ map stated histories
unfolding header_words node_part node_from worker_at with_worker with_node node_at is_header is_old_header old_header_words header_refusals call_refusals start_refusals start_arena walk chain step_of belongs kept placed astray busy_refusals turn_refusals turn_of roots_of leads reached lowest_from lowest_free seen_of seen_by worker_refusals counted turn_on with_effect with_growth turn_arena numbers_from first latest member chain_nodes set_nodes chain_labels set_of event_of after is_decision entry_at arena_at event_at finishes_at decides_at absent_at finish_of decision_of answer_of point_of call_at calls starts_call_of call_number wait_at waits totals goes_before inserted sorted in_order including excluding response_to labels_after
histories_hold = refl

-- the arenas are fresh
pub fresh_arenas : (fresh_words 2 3 ≡ for_two) × (fresh_words 1 3 ≡ for_one)
unfolding flatten header_words fresh_workers fresh_nodes fresh_words
fresh_arenas = (refl, refl)

-- an arena comes to rest with a label; that one is converted, and converted again
pub comes_to_rest : arena_at for_one (start add 0 5 1 ++ turn 0 14) 15 ≡ at_rest
unfolding header_words node_part node_from worker_at with_worker with_node node_at is_header is_old_header old_header_words header_refusals call_refusals start_refusals start_arena step_of belongs kept placed astray busy_refusals turn_refusals turn_of roots_of leads reached lowest_from lowest_free seen_of seen_by worker_refusals counted turn_on with_effect with_growth turn_arena event_of after entry_at arena_at
comes_to_rest = refl

pub old_converted : to_layout_1_target at_rest (replicate 28 0) ≡ old_arena
unfolding flatten header_words worker_part node_part worker_at is_header is_old_header old_header_words numbers_from walk chain chain_nodes set_nodes chain_broken new_header part_node layout_refusals any_above conversion_refusals convert_refusals converted convert_target
old_converted = refl

pub new_converted : to_layout_2_target old_arena (0 ∷ 0 ∷ 4 ∷ []) (replicate 31 0) ≡ new_arena
unfolding flatten header_words worker_part node_part worker_at is_header is_old_header old_header_words numbers_from walk chain chain_nodes set_nodes chain_broken new_header part_node layout_refusals any_above conversion_refusals convert_refusals converted convert_target
new_converted = refl
