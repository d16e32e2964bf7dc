-- An arena that is sound and at rest may be converted, and stays so.
use Prim.Native.Nat.{ℕ, zero, suc, ◌+◌, ◌<◌, zero-le}
use mathlib.Core.Path.{◌≡◌, refl, sym, ap, subst, fun_ext, ◌∙◌}
use mathlib.Core.List.{List, []}
use mathlib.Core.Bool.{Bool, true, false, cond, not, ◌&&◌, ◌||◌}
use native.Mathlib.Omega.{arith}
use lib.Dec.{ltb}
use lib.ListN.{length, length-map}
use borrow.Author.Tests.{le-ltb, not-false}
use Rattle.std.specs.List.{list_any}
use Rattle.worker.specs.Node.{head, tail}
use Rattle.worker.specs.Worker.{idle_stage, last_stage}
use Rattle.worker.specs.declared.Node.{Node}
use Rattle.worker.proofs.RefusalLaws.{none_in_both, none_accepts}
use Rattle.words.specs.Layout.{workers_of, nodes_of}
use Rattle.words.specs.Records.{node_at, worker_at}
use Rattle.words.specs.Replies.{accepted, refusing}
use Rattle.words.specs.Header.{header_refusals}
use Rattle.words.proofs.HeaderLaws.{none_of, is_of}
use Rattle.words.proofs.Judged.{none_holds}
use Rattle.arena.specs.Lists.{numbers_from}
use Rattle.arena.specs.Sets.{is_none, node_in, label_at, chain, chain_labels, set_of, OnChain}
use Rattle.arena.specs.Snapshot.{chain_broken}
use Rattle.arena.specs.AtRest.{SoundAtRest}
use Rattle.arena.proofs.RestLaws.{nodes_whole}
use Rattle.convert.specs.Layouts.{part_node, arena_node, arena_set, layout_refusals}
use Rattle.convert.specs.Claims.{Converts, SavedAtRest, SavedIn2, StaysAtRest, AcceptedAtRest}
use Rattle.convert.specs.Convert.{source_node, any_above, conversion_refusals, convert_refusals, convert_answer}
use Rattle.convert.proofs.Accepted.{ordered}
use Rattle.convert.proofs.Laws.{converts}

-- what a conversion keeps is enough
kept_at_rest : {lengthening : Bool} {source lengths new : List ℕ} → Converts lengthening source lengths new → SavedAtRest (not lengthening) source →
    SavedAtRest lengthening new
kept_at_rest {lengthening} {source} {lengths} {new} now rest =
    record {
      in_order = now.in_order;
      nodes = record {
        head_key = key head ∙ rest.nodes.head_key;
        tail_key = key tail ∙ rest.nodes.tail_key;
        tail_next = next tail ∙ rest.nodes.tail_next;
        inside = λ node there. rw (next node, now.nodes_are) (rest.nodes.inside node (rw now.nodes_are at there));
        small = λ node there. rw (key node) (rest.nodes.small node (rw now.nodes_are at there));
        unowned = λ node there. owner node ∙ rest.nodes.unowned node (rw now.nodes_are at there);
        rises = λ node on more. rw (key node, next_key node) (rest.nodes.rises node (of_source on) more);
      };
      workers = λ worker there. let known = rw now.workers_are at there in now.same_workers worker known ∙ rest.workers worker known;
      counted = λ has_lengths. now.counts ∙ ap (λ t. cond t (length (arena_set lengthening new)) 0) has_lengths;
    }
  where
    key : (node : ℕ) → (arena_node lengthening new node).key ≡ (source_node lengthening source node).key
    key node = ap (λ (n : Node). n.key) (now.same_nodes node)

    next : (node : ℕ) → (arena_node lengthening new node).next ≡ (source_node lengthening source node).next
    next node = ap (λ (n : Node). n.next) (now.same_nodes node)

    owner : (node : ℕ) → (arena_node lengthening new node).owner ≡ (source_node lengthening source node).owner
    owner node = ap (λ (n : Node). n.owner) (now.same_nodes node)

    next_key : (node : ℕ) → (arena_node lengthening new (arena_node lengthening new node).next).key
        ≡ (source_node lengthening source (source_node lengthening source node).next).key
    next_key node = key (arena_node lengthening new node).next ∙ ap (λ m. (source_node lengthening source m).key) (next node)

    of_source : {node : ℕ} → OnChain (λ n. (arena_node lengthening new n).next) (nodes_of new) node →
        OnChain (λ n. (source_node lengthening source n).next) (nodes_of source) node
    of_source {node} on = rw now.nodes_are at (subst (λ (follow : ℕ → ℕ). OnChain follow (nodes_of new) node) (fun_ext next) on)

-- an arena of layout 2 has the nodes and the labels that it has for the converters
same_nodes : (arena : List ℕ) → node_in arena ≡ arena_node true arena
unfolding part_node node_at
same_nodes arena = refl

pub same_labels : (arena : List ℕ) → set_of arena ≡ chain_labels (arena_node true arena) (nodes_of arena)
unfolding set_of
same_labels arena = ap (λ (nodes : ℕ → Node). chain_labels nodes (nodes_of arena)) (same_nodes arena)

same_size : (arena : List ℕ) → length (set_of arena) ≡ length (arena_set true arena)
unfolding chain_labels
same_size arena = ap length (same_labels arena) ∙ length-map (arena_set true arena) (label_at (arena_node true arena))

pub saved_in_2 : SavedIn2
unfolding layout_refusals header_refusals
saved_in_2 arena = (forth, back)
  where
    forth : SavedAtRest true arena → SoundAtRest arena
    forth saved =
        let none = none_holds (layout_refusals true arena) [] (sym saved.in_order) in
        record {
          header = none_accepts (header_refusals arena) refusing (accepted []) (none_of arena none.0 (not-false _ none.1.0));
          nodes = rw (same_nodes arena) saved.nodes;
          workers = saved.workers;
          counted = saved.counted refl ∙ sym (same_size arena);
        }

    back : SoundAtRest arena → SavedAtRest true arena
    back rest =
        let none = none_holds (header_refusals arena) [] (sym rest.header) in
        record {
          in_order = none_accepts (layout_refusals true arena) refusing (accepted []) (none.0, (ap not (is_of arena none), tt));
          nodes = rw (same_nodes arena) at rest.nodes;
          workers = rest.workers;
          counted = λ has_lengths. rest.counted ∙ same_size arena;
        }

-- a test that holds of no number in a row
none_holds_of : (test : ℕ → Bool) (number left : ℕ) → ((n : ℕ) → n < number + left → test n ≡ false) → list_any test (numbers_from number left) ≡ false
unfolding numbers_from
none_holds_of test number zero none = refl
none_holds_of test number (suc left) none =
    rw (none number (omega arith)) (none_holds_of test (suc number) left (λ n there. none n (omega arith)))

pub stays_at_rest : StaysAtRest
stays_at_rest lengthening source lengths target accepts = kept_at_rest (converts lengthening source lengths target accepts)

pub accepted_at_rest : AcceptedAtRest
unfolding convert_answer convert_refusals conversion_refusals chain_broken any_above
accepted_at_rest lengthening source lengths room rest enough lent fit =
    none_accepts (convert_refusals lengthening source lengths room) refusing (accepted [])
    (none_in_both (layout_refusals (not lengthening) source) (conversion_refusals lengthening source lengths room)
    (none_holds (layout_refusals (not lengthening) source) [] (sym rest.in_order)) (
      stages last_stage,
      (stages idle_stage, (whole, (rw (le-ltb _ _ enough) (few lengthening refl), (ap not fit, tt)))),
    ))
  where
    stages : (stage : ℕ) → list_any (λ worker. ltb stage (worker_at source worker).stage) (numbers_from 0 (workers_of source)) ≡ false
    stages stage =
        none_holds_of _ 0 (workers_of source)
        (λ worker there. rw (rest.workers worker (omega arith)) (le-ltb stage 0 zero-le))

    whole : is_none (chain (source_node lengthening source) (nodes_of source)) ≡ false
    whole = nodes_whole rest.nodes (omega (arith, (ordered (not lengthening) source (sym rest.in_order)).good))

    few : (t : Bool) → lengthening ≡ t → (false || t && ltb (length lengths) (nodes_of source)) ≡ false
    few true e = rw (le-ltb _ _ (lent e))
    few false e = refl
