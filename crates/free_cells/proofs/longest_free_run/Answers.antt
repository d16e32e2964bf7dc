-- The header test comes first; behind it the answer holds of the node records, which the header places.
use Rattle.std.proofs.Common.{[], sym, ◌∙◌}
use Rattle.std.proofs.lemmas.Result.{err_from_is_err_and}
use Rattle.words.specs.Layout.{nodes_of}
use Rattle.words.specs.Header.{header_refusals}
use Rattle.words.proofs.Judged.{refused_first, accepted_first}
use Rattle.arena.specs.Sets.{node_in, set_of}
use Rattle.free_cells.specs.LongestFreeRun.{cells_refusals, longest_free_run_refusals, longest_free_run_answer}
use Rattle.free_cells.proofs.longest_free_run.Goals as goal

pub returns-in_err-new : goal.returns-in_err-new
unfolding longest_free_run_answer longest_free_run_refusals
returns-in_err-new c =
    let arena = c.args.arena.now in
    let cells = cells_refusals (node_in arena) (nodes_of arena) c.args.last_cell in
    let p = err_from_is_err_and c.from_residual.result c.from_residual.ensures.1 in
    rw (p.1, p.2) (sym (refused_first (header_refusals arena) cells [] _ _ c.in_err-new.ensures.answer))

pub returns : goal.returns
unfolding longest_free_run_answer longest_free_run_refusals set_of
returns c =
    let arena = c.args.arena.now in
    let nodes = c.nodes.ensures in
    let cells = cells_refusals (node_in arena) (nodes_of arena) c.args.last_cell in
    (rw (nodes.words, nodes.count, c.in_ok-new.ensures.words) at c.longest_run.ensures)
    ∙ sym (accepted_first (header_refusals arena) cells [] _ _ c.in_ok-new.ensures.answer)
