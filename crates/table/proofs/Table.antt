-- Every row of the table holds, by computation.
use mathlib.Core.Path.{◌≡◌, refl}
use mathlib.Core.List.{map, flatten}
use Rattle.worker.specs.Stages.{step_of}
use Rattle.worker.specs.Turn.{belongs, kept, placed, astray, busy_refusals, turn_refusals, turn_of}
use Rattle.words.specs.Layout.{header_words, old_header_words, worker_part, node_part, node_from}
use Rattle.words.specs.Records.{worker_at, with_worker, with_node, node_at}
use Rattle.words.specs.Header.{is_header, is_old_header, header_refusals}
use Rattle.arena.specs.Init.{fresh_workers, fresh_nodes, fresh_words, init_refusals, init_answer, init_arena}
use Rattle.arena.specs.Start.{call_refusals, start_refusals, start_answer, start_arena}
use Rattle.arena.specs.Sets.{walk, chain, chain_nodes, set_nodes, chain_labels, set_of}
use Rattle.arena.specs.Snapshot.{chain_keys, chain_broken, chain_too_long, chain_refusals, keys_of, snapshot_refusals, snapshot_answer}
use Rattle.arena.specs.Stored.{stored_answer}
use Rattle.lazy.specs.Free.{roots_of, leads, reached, lowest_from, lowest_free, nodes_below, not_free}
use Rattle.lazy.specs.FindFree.{find_free_answer}
use Rattle.lazy.specs.Turn.{seen_of, seen_by, worker_refusals, counted, turn_on, with_effect, with_growth, turn_answer, turn_arena}
use Rattle.free_cells.specs.Search.{longer, met, longest_free}
use Rattle.free_cells.specs.LongestFreeRun.{cells_refusals, longest_free_run_refusals, longest_free_run_answer}
use Rattle.arena.specs.Lists.{numbers_from}
use Rattle.convert.specs.Layouts.{new_header, part_node, layout_refusals}
use Rattle.convert.specs.Convert.{any_above, conversion_refusals, convert_refusals, converted, convert_answer, convert_target}
use Rattle.table.specs.Cases.{found, stated, cases}

pub cases_hold : map found cases ≡ map stated cases
unfolding flatten header_words old_header_words node_part worker_at with_worker with_node is_header is_old_header header_refusals fresh_workers fresh_nodes fresh_words init_refusals init_answer init_arena call_refusals start_refusals start_answer start_arena walk chain chain_nodes set_nodes chain_labels set_of chain_keys chain_broken chain_too_long chain_refusals keys_of snapshot_refusals snapshot_answer stored_answer step_of belongs kept placed astray busy_refusals turn_refusals turn_of node_from node_at roots_of leads reached lowest_from lowest_free nodes_below not_free find_free_answer seen_of seen_by worker_refusals counted turn_on with_effect with_growth turn_answer turn_arena longer met longest_free cells_refusals longest_free_run_refusals longest_free_run_answer worker_part numbers_from new_header part_node layout_refusals any_above conversion_refusals convert_refusals converted convert_answer convert_target
cases_hold = refl
