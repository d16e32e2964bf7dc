-- The last cell is one, and the chain is whole: so the search was shown all labels of the set.
use Rattle.std.proofs.Common.{rules, ◌+◌, ◌≡◌, true, [], ◌∷◌}
use Rattle.worker.specs.Worker.{within}
use Rattle.words.specs.Records.{node_at}
use Rattle.words.proofs.Judged.{none_holds}
use Rattle.arena.specs.Sets.{set_nodes, chain_labels}
use Rattle.arena.specs.Snapshot.{chain_broken}
use Rattle.arena.proofs.Walks.{shown_labels}
use Rattle.free_cells.specs.Search.{begun, met, longest_free}
use Rattle.free_cells.specs.LongestFreeRun.{cells_refusals}
use Rattle.free_cells.proofs.longest_run.Goals as goal

pub returns : goal.returns
unfolding cells_refusals chain_broken longest_free chain_labels
returns c =
    let nodes = c.args.nodes in
    let told = c.in_ok-visit_labels.ensures in
    let unbroken = (none_holds (chain_broken (node_at nodes.words.now) nodes.count ∷ []) [] told.answer).0 in
    let is_cell : within 1 65534 c.args.last_cell ≡ true = search rules in
    let shown = shown_labels (node_at nodes.words.now) nodes.count met (begun (c.args.last_cell + 1)) (set_nodes (node_at nodes.words.now) nodes.count) in
    rw (c.found.ensures, told.visitor, c.new-search.ensures, shown, unbroken, is_cell)
