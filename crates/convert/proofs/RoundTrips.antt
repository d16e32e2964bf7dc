-- To layout 2 with every length 1, and back: nothing refuses the way back, and the words are the same.
use Prim.Native.Nat.{ℕ, zero, suc, ◌+◌, ◌≤◌, ◌<◌}
use mathlib.Core.Path.{◌≡◌, refl, sym, ap, subst, ◌∙◌}
use mathlib.Core.List.{List, [], ◌∷◌, ◌++◌, Memᴰ}
use mathlib.Core.Bool.{Bool, true, false, not, ◌||◌}
use mathlib.Mathlib.Data.Bool.Basic.{and_elim_left, and_elim_right}
use native.Mathlib.Omega.{arith}
use lib.Dec.{ltb}
use lib.ListN.{length, take, drop}
use borrow.Author.Tests.{le-ltb, not-false}
use Rattle.std.specs.List.{list_any, list_all}
use Rattle.worker.specs.Worker.{is_length, last_stage, idle_stage}
use Rattle.worker.specs.declared.Node.{Node}
use Rattle.worker.specs.declared.Worker.{Worker}
use Rattle.worker.proofs.RefusalLaws.{NoneHolds, none_of_both, none_in_both, none_accepts}
use Rattle.words.specs.Layout.{word, workers_of, nodes_of, total_of, stored_of, worker_part, node_part}
use Rattle.words.specs.Records.{worker_at}
use Rattle.words.specs.Flat.{flat_words}
use Rattle.words.specs.Replies.{accepted, refusing}
use Rattle.words.proofs.HeaderLaws.{part_long}
use Rattle.words.proofs.Judged.{none_holds, judged_accepted}
use Rattle.words.proofs.Laid.{parts_whole}
use Rattle.arena.specs.Lists.{numbers_from}
use Rattle.arena.specs.Sets.{is_none}
use Rattle.arena.specs.Snapshot.{chain_broken}
use Rattle.arena.proofs.SetLaws.{set_nodes_below}
use Rattle.convert.specs.Layouts.{first_words, total_words, new_header, part_node, arena_node, layout_refusals}
use Rattle.convert.specs.Claims.{Converts, RoundTrip}
use Rattle.convert.specs.Convert.{any_above, source_node, source_set, node_fits, conversion_refusals, convert_refusals, new_node, converted, convert_answer, convert_target, to_layout_2_target, to_layout_1_answer, to_layout_1_target}
use Rattle.convert.proofs.NodeRecords.{same_records, nodes_written}
use Rattle.convert.proofs.Accepted.{Ordered, ordered_of}
use Rattle.convert.proofs.Converted.{new_passes, new_workers, node_is}
use Rattle.convert.proofs.Laws.{among_these, is_converted}

-- a test that holds of every one of a list, and one that holds of each
all_hold : (test : ℕ → Bool) (xs : List ℕ) → ((x : ℕ) → Memᴰ x xs → test x ≡ true) → list_all test xs ≡ true
all_hold test [] each = refl
all_hold test (x ∷ xs) each = rw (each x (Memᴰ.head refl)) (all_hold test xs (λ y m. each y (Memᴰ.tail m)))

each_holds : (test : ℕ → Bool) {x : ℕ} {xs : List ℕ} → list_all test xs ≡ true → Memᴰ x xs → test x ≡ true
each_holds test all (Memᴰ.head {x} {xs} same) = rw same (and_elim_left (test x) (list_all test xs) all)
each_holds test all (Memᴰ.tail {x} {xs} m) = each_holds test (and_elim_right (test x) (list_all test xs) all) m

-- tests that are the same of the numbers in a row
any_same : (f g : ℕ → Bool) (n left : ℕ) → ((m : ℕ) → m < n + left → f m ≡ g m) → list_any f (numbers_from n left) ≡ list_any g (numbers_from n left)
unfolding numbers_from
any_same f g n zero same = refl
any_same f g n (suc left) same = rw (same n (omega arith)) (ap (λ others. g n || others) (any_same f g (suc n) left (λ m h. same m (omega arith))))

module _ (source lengths past : List ℕ) (header : Ordered false source) (ones : (node : ℕ) → node < nodes_of source → word lengths node ≡ 1) where
  abbrev new : List ℕ
  new = converted true source lengths ++ past

  now : Converts true source lengths new
  now = is_converted true source lengths past header

  -- the way back gives the words of the source
  back_words : converted false new [] ≡ take (total_of source) source
  unfolding converted new_header
  back_words =
      let records : flat_words (new_node false new []) (numbers_from 0 (nodes_of source)) ≡ node_part source
      = same_records _ (λ n. first_words 4 (part_node false (node_part source) n)) 0 (nodes_of source)
      (λ n there. ap (λ (node : Node). node.key ∷ node.next ∷ node.mark ∷ node.owner ∷ []) (now.same_nodes n))
      ∙ nodes_written false (node_part source) (nodes_of source) (part_long source header) in
      let stored : stored_of source ≡ 0 = omega (arith, header.few_stored) in
      let whole : take (total_of source) source ≡ new_header false (workers_of source) (nodes_of source) 0 ++ worker_part source ++ node_part source
      = parts_whole source header ∙ rw (header.own, stored) in
      (λ i. new_header false (workers_of source) (nodes_of source) 0 ++ new_workers true source lengths past header i ++ records i) ∙ sym whole

  -- every stage is as it was
  stages : (stage : ℕ) → any_above source stage ≡ false → any_above new stage ≡ false
  unfolding any_above
  stages stage none =
      rw now.workers_are
      (any_same _ (λ worker. ltb stage (worker_at source worker).stage) 0 (workers_of source)
      (λ worker there. ap (λ (w : Worker). ltb stage w.stage) (now.same_workers worker (omega arith)))
      ∙ none)

  -- every length is 1
  fits_back : list_all (node_fits true source lengths) (source_set true source) ≡ true → (node : ℕ) → Memᴰ node (source_set false new) →
      node_fits false new [] node ≡ true
  fits_back all node m =
      let of_source : Memᴰ node (source_set true source) = subst (λ nodes. Memᴰ node nodes) now.same_set m in
      let there = set_nodes_below (source_node true source) (nodes_of source) of_source in
      let is = node_is true source lengths past header node there in
      let key : (arena_node true new node).key ≡ (arena_node false source node).key = ap (λ (n : Node). n.key) is in
      let one : (arena_node true new node).length ≡ 1 = ap (λ (n : Node). n.length) is ∙ rw (among_these of_source, ones node there) in
      let fit : is_length (arena_node false source node).key 1 ≡ true
      = rw (ones node there) at (and_elim_left (is_length (arena_node false source node).key (word lengths node)) true (each_holds (node_fits true source lengths) all of_source)) in
      rw (key, one, fit)

  -- and no test of it holds
  none_back : (room first : ℕ) → NoneHolds (conversion_refusals true source lengths first) → total_of source ≤ room →
      NoneHolds (conversion_refusals false new [] room)
  unfolding conversion_refusals chain_broken
  none_back room first none enough = (
    stages last_stage none.0,
    (
      stages idle_stage none.1.0,
      (
        ap is_none now.same_chain ∙ none.1.1.0,
        (
          rw (now.workers_are, now.nodes_are, ← header.end, le-ltb room (total_of source) enough),
          (ap not (all_hold (node_fits false new []) (source_set false new) (fits_back (not-false _ none.1.1.1.1.0))), tt),
        ),
      ),
    ),
  )

  -- so it is accepted, and gives them
  pub back : (second : List ℕ) (first : ℕ) → NoneHolds (conversion_refusals true source lengths first) → total_of source ≤ length second →
      (to_layout_1_answer new (length second) ≡ accepted [])
      × (to_layout_1_target new second ≡ take (total_of source) source ++ drop (total_of source) second)
  unfolding convert_answer convert_target convert_refusals
  back second first none enough =
      let refusals = convert_refusals false new [] (length second) in
      let passes = none_in_both (layout_refusals true new) (conversion_refusals false new [] (length second)) (new_passes true source lengths past header) (none_back (length second) first none enough) in (
        none_accepts refusals refusing (accepted []) passes,
        none_accepts refusals (λ refusal. second) (converted false new [] ++ drop (total_words false (workers_of new) (nodes_of new)) second) passes
            ∙ rw (back_words, now.workers_are, now.nodes_are, ← header.end),
      )

pub round_trip : RoundTrip
unfolding convert_answer convert_target convert_refusals
round_trip source lengths first second accepts ones enough =
    let refusals = convert_refusals true source lengths (length first) in
    let none = none_of_both (layout_refusals false source) (conversion_refusals true source lengths (length first)) (none_holds refusals [] (sym accepts)) in
    let past = drop (total_words true (workers_of source) (nodes_of source)) first in
    let left : to_layout_2_target source lengths first ≡ converted true source lengths ++ past = judged_accepted refusals [] _ _ (sym accepts) in
    rw left (back source lengths past (ordered_of false source none.0) ones second (length first) none.1 enough)
