-- What an accepted conversion leaves.
use Prim.Native.Nat.{ℕ}
use mathlib.Core.Path.{◌≡◌, refl, sym, ap, ap₂, subst, ◌∙◌}
use mathlib.Core.List.{List, [], ◌∷◌, ◌++◌, map, Memᴰ}
use mathlib.Core.Bool.{Bool, true, cond, not}
use lib.ListN.{length, drop}
use lib.Dec.{eqb}
use borrow.Author.Tests.{eq-eqb}
use Rattle.std.proofs.Math.Bool.{or-true}
use Rattle.worker.specs.declared.Node.{Node}
use Rattle.worker.specs.Worker.{among}
use Rattle.worker.proofs.RefusalLaws.{none_of_both, none_accepts}
use Rattle.words.specs.Layout.{workers_of, nodes_of}
use Rattle.words.specs.Replies.{accepted, refusing}
use Rattle.words.proofs.Judged.{none_holds, judged_accepted}
use Rattle.arena.specs.declared.chain.Label.{Label}
use Rattle.arena.specs.Sets.{chain_labels, keys_in, label_at}
use Rattle.arena.specs.Snapshot.{chain_keys}
use Rattle.arena.proofs.SameChains.{chain_same, set_nodes_same}
use Rattle.arena.proofs.SetLaws.{set_nodes_below}
use Rattle.convert.specs.Layouts.{total_words, new_header, arena_node, arena_set, layout_refusals}
use Rattle.convert.specs.Claims.{new_label, Converts, Converting}
use Rattle.convert.specs.Convert.{source_node, source_set, conversion_refusals, convert_refusals, converted, convert_answer, convert_target}
use Rattle.convert.proofs.Accepted.{Ordered, ordered_of}
use Rattle.convert.proofs.Converted.{new, new_passes, worker_same, node_is, node_same}

-- what is in a list is among it
pub among_these : {n : ℕ} {numbers : List ℕ} → Memᴰ n numbers → among numbers n ≡ true
among_these {n} (Memᴰ.head {x} same) = rw (eq-eqb x n (sym same))
among_these {n} (Memᴰ.tail {x} {xs} m) = rw (among_these m) (or-true (eqb x n))

-- the keys of the labels of some nodes
keys_of_nodes : (f : ℕ → Label) (nodes : List ℕ) → keys_in (map f nodes) ≡ map (λ node. (f node).key) nodes
keys_of_nodes f [] = refl
keys_of_nodes f (node ∷ nodes) = ap (λ keys. (f node).key ∷ keys) (keys_of_nodes f nodes)

-- of labels that are the same for each of some nodes
same_labels : (f g : ℕ → Label) (nodes : List ℕ) → ((node : ℕ) → Memᴰ node nodes → f node ≡ g node) → map f nodes ≡ map g nodes
same_labels f g [] same = refl
same_labels f g (node ∷ nodes) same =
    ap₂ ◌∷◌ (same node (Memᴰ.head refl)) (same_labels f g nodes (λ other m. same other (Memᴰ.tail m)))

module _ (lengthening : Bool) (source lengths past : List ℕ) (header : Ordered (not lengthening) source) where
  abbrev now : List ℕ
  now = new lengthening source lengths past header

  abbrev old : ℕ → Node
  old = source_node lengthening source

  abbrev places : List ℕ
  places = source_set lengthening source

  same_set : arena_set lengthening now ≡ places
  unfolding converted new_header
  same_set = set_nodes_same old (arena_node lengthening now) (nodes_of source) (node_same lengthening source lengths past header)

  labels_are : chain_labels (arena_node lengthening now) (nodes_of now) ≡ map (new_label lengthening source lengths) places
  unfolding chain_labels
  labels_are =
      ap (map (label_at (arena_node lengthening now))) same_set
      ∙ same_labels (label_at (arena_node lengthening now)) (new_label lengthening source lengths) places (λ node m. label_is node m)
    where
      label_is : (node : ℕ) → Memᴰ node places → label_at (arena_node lengthening now) node ≡ new_label lengthening source lengths node
      label_is node m =
          let is = node_is lengthening source lengths past header node (set_nodes_below old (nodes_of source) m) in
          ap (λ (n : Node). record { key = n.key; length = n.length }) is ∙ rw (among_these m)

  -- it is all that is claimed
  pub is_converted : Converts lengthening source lengths now
  unfolding converted new_header chain_keys chain_labels
  is_converted =
      record {
        in_order = none_accepts (layout_refusals lengthening now) refusing (accepted []) (new_passes lengthening source lengths past header);
        workers_are = refl;
        nodes_are = refl;
        same_workers = worker_same lengthening source lengths past header;
        same_nodes = node_same lengthening source lengths past header;
        same_chain = chain_same old (arena_node lengthening now) (nodes_of source) (node_same lengthening source lengths past header);
        same_set = same_set;
        same_keys = ap keys_in labels_are ∙ keys_of_nodes (new_label lengthening source lengths) places ∙ sym (keys_of_nodes (label_at old) places);
        labels_are = labels_are;
        counts = ap (λ (nodes : List ℕ). cond lengthening (length nodes) 0) (sym same_set);
      }

-- every accepted conversion leaves such an arena
pub converts : Converting
unfolding convert_answer convert_target convert_refusals
converts lengthening source lengths target accepts =
    let refusals = convert_refusals lengthening source lengths (length target) in
    let tests = layout_refusals (not lengthening) source in
    let none = none_of_both tests (conversion_refusals lengthening source lengths (length target)) (none_holds refusals [] (sym accepts)) in
    let past = drop (total_words lengthening (workers_of source) (nodes_of source)) target in
    let left : convert_target lengthening source lengths target ≡ converted lengthening source lengths ++ past = judged_accepted refusals [] _ _ (sym accepts) in
    subst (Converts lengthening source lengths) (sym left) (is_converted lengthening source lengths past (ordered_of (not lengthening) source none.0))
