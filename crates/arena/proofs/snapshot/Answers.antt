-- The header test comes first; behind it the chain's answer holds of the node records, which the header places.
use Rattle.std.proofs.Common.{[], sym, ◌∙◌, length}
use Rattle.std.proofs.lemmas.Result.{err_from_is_err_and}
use Rattle.words.specs.Layout.{nodes_of}
use Rattle.words.specs.Header.{header_refusals}
use Rattle.words.proofs.Judged.{refused_first, accepted_first}
use Rattle.arena.specs.Sets.{node_in, set_of}
use Rattle.arena.specs.Snapshot.{chain_keys, chain_refusals, keys_of, snapshot_refusals, snapshot_answer, snapshot_words}
use Rattle.arena.proofs.snapshot.Goals as goal

pub returns-in_err-new : goal.returns-in_err-new
unfolding snapshot_answer snapshot_words snapshot_refusals
returns-in_err-new c =
    let args = c.args in
    let arena = args.arena.now in
    let told = c.in_err-new.ensures.answer in
    let chain = chain_refusals (node_in arena) (nodes_of arena) (length args.keys.now) in
    record {
      answer = let p = err_from_is_err_and c.from_residual.result c.from_residual.ensures.1 in rw (p.1, p.2) (sym (refused_first (header_refusals arena) chain [] _ _ told));
      words = sym (refused_first (header_refusals arena) chain [] _ _ told);
    }

pub returns : goal.returns
unfolding snapshot_answer snapshot_words snapshot_refusals keys_of set_of chain_keys
returns c =
    let args = c.args in
    let arena = args.arena.now in
    let told = c.in_ok-new.ensures.answer in
    let nodes = c.nodes.ensures in
    let chain = chain_refusals (node_in arena) (nodes_of arena) (length args.keys.now) in
    let listed = rw (nodes.words, nodes.count, c.in_ok-new.ensures.words) at c.write_keys.ensures in
    record {
      answer = listed.answer ∙ sym (accepted_first (header_refusals arena) chain [] _ _ told);
      words = listed.words ∙ sym (accepted_first (header_refusals arena) chain [] _ _ told);
    }
