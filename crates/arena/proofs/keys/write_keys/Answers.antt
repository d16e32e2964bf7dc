-- The walk decides between a broken chain and the keys; then the room does.
use Rattle.std.proofs.Common.{ℕ, List, ◌++◌, refl, sym, ap, ◌∙◌, arith, drop}
use Rattle.std.proofs.lemmas.Result.{err_from_is_err_and}
use Rattle.words.specs.Records.{node_at}
use Rattle.arena.specs.Snapshot.{chain_keys}
use Rattle.arena.proofs.KeyLaws.{keys_broken, keys_listed, keys_fit, keys_short}
use Rattle.arena.proofs.keys.write_keys.Goals as goal

pub returns-in_err-visit_labels : goal.returns-in_err-visit_labels
returns-in_err-visit_labels c =
    let nodes = c.args.nodes in
    let told = c.in_err-visit_labels.ensures.answer in
    record {
      answer = let p = err_from_is_err_and c.from_residual.result c.from_residual.ensures.1 in rw (p.1, p.2) (sym (keys_broken (node_at nodes.words.now) nodes.count _ _ _ told));
      words = sym (keys_broken (node_at nodes.words.now) nodes.count _ _ _ told);
    }

pub returns-then-keys-end : goal.returns-then-keys-end
returns-then-keys-end c =
    let nodes = c.args.nodes in
    let told = c.in_ok-visit_labels.ensures in
    let all = keys_listed (node_at nodes.words.now) nodes.count _ _ refl nodes.spans.1 told.visitor in
    let short = rw all.0 at c.if-keys-end.true in
    record {
      answer = sym (keys_short (node_at nodes.words.now) nodes.count _ _ _ told.answer short);
      words = sym (keys_short (node_at nodes.words.now) nodes.count _ _ _ told.answer short);
    }

pub shared_ref_as_front-copy_from_slice : goal.shared_ref_as_front-copy_from_slice
shared_ref_as_front-copy_from_slice c =
    let nodes = c.args.nodes in
    omega (arith, keys_listed (node_at nodes.words.now) nodes.count _ _ refl nodes.spans.1 c.in_ok-visit_labels.ensures.visitor)

pub returns : goal.returns
returns c =
    let nodes = c.args.nodes in
    let told = c.in_ok-visit_labels.ensures in
    let found = c.visit_labels.new.visitor in
    let all = keys_listed (node_at nodes.words.now) nodes.count _ _ refl nodes.spans.1 told.visitor in
    let fits = rw all.0 at c.if-keys-end.false in
    record {
      answer = rw all.0 (sym (keys_fit (node_at nodes.words.now) nodes.count _ _ _ told.answer fits));
      words =
          ap (λ (words : List ℕ). words ++ drop found.count c.args.keys.now) (c.copy_from_slice.ensures.after ∙ all.2)
          ∙ ap (λ (n : ℕ). chain_keys (node_at nodes.words.now) nodes.count ++ drop n c.args.keys.now) all.0
          ∙ sym (keys_fit (node_at nodes.words.now) nodes.count _ _ _ told.answer fits);
    }
