-- The converted arena, whatever words stand behind it: what it has of the one that it was converted from.
use Prim.Native.Nat.{ℕ, ◌<◌}
use mathlib.Core.Path.{◌≡◌, refl, sym, ap, ◌∙◌}
use mathlib.Core.List.{List, ◌++◌}
use mathlib.Core.Bool.{Bool, true, false, cond, not}
use native.Mathlib.Omega.{arith}
use native.Mathlib.Decide.{dec_lt}
use lib.ListN.{length}
use borrow.Author.Tests.{ltb-false}
use Rattle.worker.specs.Node.{without_length, with_length}
use Rattle.worker.proofs.RefusalLaws.{NoneHolds}
use Rattle.words.specs.Layout.{word, slot, worker_width, header_words, old_header_words, workers_of, nodes_of, worker_part, node_part}
use Rattle.words.specs.Records.{worker_at}
use Rattle.words.specs.Header.{is_short, is_header, is_old_header}
use Rattle.words.proofs.Bounds.{counts_good}
use Rattle.words.proofs.HeaderLaws.{or_false, part_long, header_of_some, old_header_of_some}
use Rattle.words.proofs.Laid.{laid_long, laid_workers, laid_nodes}
use Rattle.words.proofs.RecordLaws.{record_of, record_in_part}
use Rattle.arena.proofs.ShortChains.{set_few}
use Rattle.convert.specs.Layouts.{number, width, new_header, part_node, arena_node, layout_refusals}
use Rattle.convert.specs.Convert.{source_node, source_set, new_length, converted}
use Rattle.convert.proofs.Accepted.{Ordered, workers_long, records, records_long}
use Rattle.convert.proofs.NodeRecords.{gone, part_back}

module _ (lengthening : Bool) (source lengths past : List ℕ) (header : Ordered (not lengthening) source) where
  abbrev pub new : List ℕ
  new = converted lengthening source lengths ++ past

  abbrev stored : ℕ
  stored = length (source_set lengthening source)

  long : is_short new ≡ false
  unfolding converted new_header
  long =
      laid_long (number lengthening) (width lengthening) (workers_of source) (nodes_of source) (cond lengthening stored 0) (worker_part source)
      (records lengthening source lengths) past (workers_long (not lengthening) source header) (records_long lengthening source lengths)

  -- its header is in order
  in_order : (t : Bool) → lengthening ≡ t → cond t (is_header new) (is_old_header new) ≡ true
  unfolding converted new_header header_words old_header_words
  in_order true e =
      let few = set_few (source_node lengthening source) (nodes_of source) in
      (header_of_some new (ltb-false _ _ (or_false _ _ long).0)).1
      (workers_of source, nodes_of source, stored, counts_good header.good, few, rw e)
  in_order false e =
      (old_header_of_some new (ltb-false _ _ (or_false _ _ long).0)).1 (workers_of source, nodes_of source, counts_good header.good, rw e)

  pub new_passes : NoneHolds (layout_refusals lengthening new)
  unfolding layout_refusals
  new_passes = (long, (ap not (in_order lengthening refl), tt))

  -- its worker records are the same
  pub new_workers : worker_part new ≡ worker_part source
  unfolding converted new_header
  new_workers =
      laid_workers (number lengthening) (width lengthening) (workers_of source) (nodes_of source) (cond lengthening stored 0) (worker_part source)
      (records lengthening source lengths) past (workers_long (not lengthening) source header) (records_long lengthening source lengths)

  pub worker_same : (worker : ℕ) → worker < workers_of source → worker_at new worker ≡ worker_at source worker
  unfolding converted new_header
  worker_same worker there =
      record_in_part new worker there
      ∙ (λ i. record_of (λ k. word (new_workers i) (slot worker_width worker k)))
      ∙ sym (record_in_part source worker there)

  new_nodes : node_part new ≡ records lengthening source lengths
  unfolding converted new_header
  new_nodes =
      laid_nodes (number lengthening) (width lengthening) (workers_of source) (nodes_of source) (cond lengthening stored 0) (worker_part source)
      (records lengthening source lengths) past (workers_long (not lengthening) source header) (records_long lengthening source lengths)

  -- and a node is the same but for its length
  pub node_is : (node : ℕ) → node < nodes_of source →
      arena_node lengthening new node
      ≡ with_length (source_node lengthening source node) (cond lengthening (new_length lengthening source lengths node) 0)
  node_is node there =
      (λ i. part_node lengthening (new_nodes i) node)
      ∙ part_back lengthening (λ n. with_length (source_node lengthening source n) (new_length lengthening source lengths n)) (nodes_of source) node there

  pub node_same : (node : ℕ) → without_length (arena_node lengthening new node) ≡ without_length (source_node lengthening source node)
  node_same node =
      elim (dec_lt node (nodes_of source)) [
        | yes there ↦ ap without_length (node_is node there)
        | no past ↦
            ap without_length
            (gone lengthening (node_part new) (nodes_of source) node (rw new_nodes (records_long lengthening source lengths)) (omega arith)
            ∙ sym (gone (not lengthening) (node_part source) (nodes_of source) node (part_long source header) (omega arith)))
      ]
