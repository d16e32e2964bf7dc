-- A fresh arena is sound and at rest: Head, which leads to Tail, unused nodes, and idle workers. Its set is empty.
use Prim.Native.Nat.{ℕ, zero, suc, ◌+◌, ◌-◌, ◌≤◌, ◌<◌}
use mathlib.Core.Path.{◌≡◌, refl, sym, ap, ◌∙◌}
use mathlib.Core.Logic.{◌≢◌}
use mathlib.Core.Option.{some}
use mathlib.Core.List.{List, [], ◌∷◌, ◌++◌, Memᴰ, flatten, append-nil}
use mathlib.Core.Bool.{true}
use native.Mathlib.Omega.{arith}
use native.Mathlib.Nat.{mul-suc}
use lib.ListN.{length, replicate, get_or-append}
use lib.Seq.{get_or-append-add}
use borrow.Author.Tests.{eq-eqb}
use Rattle.worker.specs.Node.{head, tail, head_node, tail_node, unused_node}
use Rattle.worker.specs.Worker.{idle_worker}
use Rattle.worker.specs.declared.Node.{Node}
use Rattle.words.specs.Layout.{word, nodes_of, stored_of, worker_from, worker_width, slot, good_counts, header_words, node_width, node_key, node_next, node_owner, node_from}
use Rattle.words.specs.Records.{worker_words, worker_at, node_words, node_at}
use Rattle.words.specs.Header.{header_refusals}
use Rattle.words.proofs.Bounds.{Counts, counts}
use Rattle.words.proofs.Judged.{none_holds}
use Rattle.words.proofs.HeaderLaws.{Header, header_of}
use Rattle.words.proofs.RecordLaws.{record_words}
use Rattle.arena.specs.Init.{fresh_workers, fresh_nodes, fresh_words}
use Rattle.arena.specs.Sets.{walk, chain, node_in, ChainWhole, set_of, OnChain, top, link}
use Rattle.arena.specs.AtRest.{SoundAtRest}
use Rattle.arena.proofs.FreshLaws.{nodes_place, fresh_header}
use Rattle.arena.proofs.SetLaws.{set_members}
use Rattle.linear.proofs.Words.{field_in, field_word}
use Rattle.linear.proofs.Bridge.{Sound}

-- the fresh arena's header is in order
pub fresh_sound : (workers nodes : ℕ) → good_counts workers nodes ≡ true → Sound workers nodes (fresh_words workers nodes)
unfolding fresh_words header_words
fresh_sound workers nodes good =
    record {
      none = none_holds (header_refusals (fresh_words workers nodes)) []
          (sym (rw append-nil at (fresh_header workers nodes [] good)));
      workers_are = refl;
      nodes_are = refl;
    }

-- copies of some words, one after the other: each is those words
copies_at : (values : List ℕ) (count n k : ℕ) → n < count → k < length values →
    word (flatten (replicate count values)) (slot (length values) n k) ≡ word values k
unfolding flatten
copies_at values zero n k there inside = absurd (omega arith)
copies_at values (suc count) zero k there inside =
    let first : slot (length values) 0 k ≡ k = omega arith in
    rw first (get_or-append values (flatten (replicate count values)) 0 k inside)
copies_at values (suc count) (suc n) k there inside =
    let onward : slot (length values) (suc n) k ≡ length values + slot (length values) n k = rw mul-suc (omega arith) in
    rw onward
    (get_or-append-add values (flatten (replicate count values)) (slot (length values) n k) 0
    ∙ copies_at values count n k (omega arith) inside)

-- the fields of the node that a fresh arena has at a number
abbrev fresh_fields : ℕ → List ℕ
fresh_fields zero = 0 ∷ tail ∷ 0 ∷ 0 ∷ 0 ∷ []
fresh_fields (suc zero) = 65535 ∷ tail ∷ 0 ∷ 0 ∷ 0 ∷ []
fresh_fields (suc (suc n)) = 0 ∷ 0 ∷ 0 ∷ 0 ∷ 0 ∷ []

-- each of them leads to Head or Tail, and nobody owns it
fields_rest : (n : ℕ) → (word (fresh_fields n) node_next < 2) × (word (fresh_fields n) node_key ≤ 65535) × (word (fresh_fields n) node_owner ≡ 0)
fields_rest zero = (omega arith, omega arith, refl)
fields_rest (suc zero) = (omega arith, omega arith, refl)
fields_rest (suc (suc n)) = (omega arith, omega arith, refl)

-- a walk that begins at Tail passes no node
walk_at_tail : (nodes : ℕ → Node) (count steps last node : ℕ) → node ≡ tail → walk nodes count (suc steps) last node ≡ some []
unfolding walk
walk_at_tail nodes count steps last node e = rw (eq-eqb node tail e)

-- a list in which nothing is, is empty
none_in : {A : Type 0} (xs : List A) → ((x : A) → Memᴰ x xs → ⊥) → xs ≡ []
none_in [] out = refl
none_in (x ∷ xs) out = absurd (out x (Memᴰ.head refl))

-- where a field of a node stands among fresh nodes, it is that node's
module _ (nodes : ℕ) (some : 2 ≤ nodes) where
  first : List ℕ
  first = node_words head_node ++ node_words tail_node

  others : List ℕ
  others = flatten (replicate (nodes - 2) (node_words unused_node))

  laid_at : (n f : ℕ) → n < nodes → f < node_width → word (fresh_nodes nodes) (slot node_width n f) ≡ word (fresh_fields n) f
  unfolding fresh_nodes first others
  laid_at zero f there room =
      let place : slot node_width 0 f ≡ f = omega arith in
      rw place
      (get_or-append first others 0 f (omega arith)
      ∙ get_or-append (node_words head_node) (node_words tail_node) 0 f (omega arith))
  laid_at (suc zero) f there room =
      let place : slot node_width 1 f ≡ length (node_words head_node) + f = omega arith in
      rw place
      (get_or-append first others 0 _ (omega arith) ∙ get_or-append-add (node_words head_node) (node_words tail_node) f 0)
  laid_at (suc (suc n)) f there room =
      let place : slot node_width (suc (suc n)) f ≡ length first + slot node_width n f = omega arith in
      rw place
      (get_or-append-add first others (slot node_width n f) 0 ∙ copies_at (node_words unused_node) (nodes - 2) n f (omega arith) room)

module _ (workers nodes : ℕ) (good : good_counts workers nodes ≡ true) where
  -- the fresh arena, its header, and its counts
  abbrev fresh : List ℕ
  fresh = fresh_words workers nodes

  order : Header fresh
  order = header_of fresh (fresh_sound workers nodes good).none

  known : Counts workers nodes
  known = counts workers nodes good

  -- what stands before the nodes
  abbrev before : List ℕ
  before = header_words workers nodes 0 ++ fresh_workers workers

  -- a field of a node that there is
  node_field : (n f : ℕ) → n < nodes → f < node_width → field_in fresh n f ≡ word (fresh_fields n) f
  unfolding fresh_words header_words node_from
  node_field n f there room =
      let at = slot node_width n f in
      let place : worker_from workers + at ≡ length before + at = omega (arith, nodes_place workers nodes) in
      field_word fresh order n f there room
      ∙ ap (word fresh) place
      ∙ get_or-append-add before (fresh_nodes nodes) at 0
      ∙ laid_at nodes (omega (arith, known)) n f there room

  -- every worker is idle
  idle_record : (v : ℕ) → v < workers → worker_at fresh v ≡ idle_worker
  unfolding fresh_words header_words fresh_workers
  idle_record v there = record_words fresh v (word (worker_words idle_worker)) words
    where
      words : (k : ℕ) → k < worker_width → word fresh (worker_from v + k) ≡ word (worker_words idle_worker) k
      words k inside =
          let at = slot worker_width v k in
          let header = header_words workers nodes 0 in
          let place : worker_from v + k ≡ length header + at = omega arith in
          get_or-append before (fresh_nodes nodes) 0 (worker_from v + k) (omega (arith, nodes_place workers nodes))
          ∙ ap (word before) place
          ∙ get_or-append-add header (fresh_workers workers) at 0
          ∙ copies_at (worker_words idle_worker) workers v k there inside

  key_is : (n : ℕ) → n < nodes → (node_in fresh n).key ≡ word (fresh_fields n) node_key
  unfolding node_at
  key_is n there = node_field n node_key there (omega arith)

  next_is : (n : ℕ) → n < nodes → (node_in fresh n).next ≡ word (fresh_fields n) node_next
  unfolding node_at
  next_is n there = node_field n node_next there (omega arith)

  owner_is : (n : ℕ) → n < nodes → (node_in fresh n).owner ≡ word (fresh_fields n) node_owner
  unfolding node_at
  owner_is n there = node_field n node_owner there (omega arith)

  -- of its chain only Head is not Tail
  only_head : {n : ℕ} → OnChain (λ m. (node_in fresh m).next) (nodes_of fresh) n → n ≢ tail → n ≡ head
  only_head (top low) more = refl
  only_head (link on before low) more =
      absurd (more (ap (λ m. (node_in fresh m).next) (only_head on before) ∙ next_is head (omega (arith, known))))

  -- it is whole, as Head leads to Tail, and the set is empty
  whole : ChainWhole fresh
  unfolding chain
  whole = rw (walk_at_tail _ _ 65535 _ _ (next_is head (omega (arith, known))))

  pub fresh_set : set_of fresh ≡ []
  fresh_set =
      none_in (set_of fresh)
      (λ label m. let inside = (set_members fresh whole label).0 m in inside.not_head (only_head inside.on_chain inside.not_tail))

  no_count : stored_of fresh ≡ 0
  unfolding fresh_words header_words
  no_count = refl

  -- all together
  pub fresh_rests : SoundAtRest fresh
  fresh_rests =
      record {
        header = rw append-nil at (fresh_header workers nodes [] good);
        nodes = record {
          head_key = key_is head (omega (arith, known));
          tail_key = key_is tail (omega (arith, known));
          tail_next = next_is tail (omega (arith, known));
          inside = λ n there. rw (next_is n (among n there)) (omega (arith, (fields_rest n).0, known, sound.nodes_are));
          small = λ n there. rw (key_is n (among n there)) (fields_rest n).1;
          unowned = λ n there. owner_is n (among n there) ∙ (fields_rest n).2;
          rises = λ n on more.
              rw (only_head on more, next_is head (omega (arith, known)), key_is head (omega (arith, known)), key_is tail (omega (arith, known)))
              (omega arith);
        };
        workers = λ v there. idle_record v (omega (arith, sound.workers_are));
        counted = rw fresh_set no_count;
      }
    where
      sound : Sound workers nodes fresh
      sound = fresh_sound workers nodes good

      among : (n : ℕ) → n < nodes_of fresh → n < nodes
      among n there = omega (arith, sound.nodes_are)
