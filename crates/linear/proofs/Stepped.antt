-- The arena after a worker's step: its header stays in order, and decoded it is the state after the step.
use Prim.Native.Nat.{ℕ, ◌+◌, ◌≤◌, ◌<◌}
use mathlib.Core.Path.{◌≡◌, refl, sym, ap, ◌∙◌, fun_ext}
use mathlib.Core.Logic.{inl, inr, ◌≢◌}
use mathlib.Core.List.{List}
use native.Mathlib.Omega.{arith}
use native.Mathlib.Decide.{ℕ_discrete, dec_lt}
use lib.ListN.{length}
use lib.Seq.{length-sets}
use borrow.Author.Tests.{eq-eqb, ne_eqb, le-leb, lt-ltb, le-ltb}
use Rattle.worker.specs.Worker.{idle_worker}
use Rattle.worker.specs.Stages.{grown}
use Rattle.worker.specs.declared.report.Step.{Step}
use Rattle.std.specs.Prelude.{Ok}
use Rattle.worker.proofs.RefusalLaws.{NoneHolds}
use Rattle.worker.proofs.EffectLaws.{EffectBelow}
use Rattle.words.specs.Layout.{word, header_width, node_key, node_next, node_mark, node_owner, node_length, worker_from, node_width, slot, header_words, workers_of, nodes_of, nodes_from_of, stored_of, most_stored, stored_at, node_from, total_of}
use Rattle.words.specs.Records.{worker_at, worker_words, with_worker, node_at, Outside}
use Rattle.words.specs.Header.{is_header, header_refusals}
use Rattle.words.proofs.HeaderLaws.{Header, none_of, is_of, header_of}
use Rattle.words.proofs.RecordLaws.{read_back, others_stay, record_words}
use Rattle.lazy.specs.Turn.{with_effect, with_changes, turned_arena}
use Rattle.lazy.proofs.ChangeLaws.{CountFits, growth_off, changes_long, changes_before, changes_count}
use Rattle.lazy.proofs.InsideLaws.{field_inside}
use Rattle.linear.proofs.State.{decode, word_after, stepped}
use Rattle.linear.proofs.Words.{field_in, field_word, no_field, effect_word, word_stays}

-- decoded, a worker that there is has its record
pub known_record : (arena : List ℕ) (v : ℕ) → v < workers_of arena → (decode arena).worker v ≡ worker_at arena v
known_record arena v there = rw (lt-ltb v (workers_of arena) there)

-- and one that there is not is idle
pub no_record : (arena : List ℕ) (v : ℕ) → workers_of arena ≤ v → (decode arena).worker v ≡ idle_worker
no_record arena v gone = rw (le-ltb v (workers_of arena) gone)

-- Another arena with the same words in its header, but for the count:
module _ (arena other : List ℕ) (same : (at : ℕ) → at < header_width → at ≢ stored_at → word other at ≡ word arena at) where
  -- where it is long enough too, and its count within its ends, it passes the header test as well
  pub none_same : length arena ≤ length other → stored_of other ≤ most_stored (nodes_of arena) → NoneHolds (header_refusals arena) →
      NoneHolds (header_refusals other)
  unfolding is_header header_words
  none_same long few none =
      let order = header_of arena none in
      let total = same 5 (omega arith) (omega arith) in
      none_of other
      (rw (
        le-ltb (length other) header_width (omega (arith, order.long)),
        le-ltb (length other) (total_of other) (omega (arith, order.whole)),
      ))
      (rw (
        same 0 (omega arith) (omega arith),
        same 1 (omega arith) (omega arith),
        same 2 (omega arith) (omega arith),
        same 3 (omega arith) (omega arith),
        same 4 (omega arith) (omega arith),
        same 5 (omega arith) (omega arith),
        same 7 (omega arith) (omega arith),
        le-leb (stored_of other) _ few,
        eq-eqb (stored_of other) _ refl,
      )
      (rw (le-leb (stored_of arena) _ order.few_stored, eq-eqb (stored_of arena) _ refl) at (is_of arena none)))

  -- decoded, a worker is the same where its record is
  pub worker_same : (v : ℕ) → (v < workers_of arena → worker_at other v ≡ worker_at arena v) → (decode other).worker v ≡ (decode arena).worker v
  worker_same v stays =
      let workers = same 1 (omega arith) (omega arith) in
      elim (dec_lt v (workers_of arena)) [
        | yes there ↦ known_record other v (omega arith) ∙ stays there ∙ sym (known_record arena v there)
        | no gone ↦ no_record other v (omega arith) ∙ sym (no_record arena v (omega arith))
      ]

  -- a field of a node stands at the same place
  pub place_same : (node field : ℕ) → node_from other node field ≡ node_from arena node field
  unfolding node_from
  place_same node field = ap (λ from. from + slot node_width node field) (same 4 (omega arith) (omega arith))

-- the arena after a worker's step
abbrev pub stepped_arena : List ℕ → ℕ → Step → List ℕ
stepped_arena arena worker step = turned_arena arena worker (Ok step)

module _ (arena : List ℕ) (none : NoneHolds (header_refusals arena)) (worker : ℕ) (step : Step) (fits : CountFits arena step.growth) where
  -- the arena after the step
  abbrev later : List ℕ
  later = stepped_arena arena worker step

  -- the header before it
  order : Header arena
  order = header_of arena none

  -- before the node records a step writes to the worker's own record and the count alone
  before_stays : (at : ℕ) → at < nodes_from_of arena → at ≢ stored_at → Outside worker at → word later at ≡ word arena at
  before_stays at before off outside =
      others_stay (with_changes arena step) worker step.worker at outside ∙ changes_before arena step at before off

  -- and the arena stays as long
  long_stays : length later ≡ length arena
  unfolding with_worker
  long_stays =
      length-sets (with_changes arena step) (worker_from worker) (worker_words step.worker) ∙ changes_long arena step

  -- the header stays, but for the count
  pub header_stays : (at : ℕ) → at < header_width → at ≢ stored_at → word (stepped_arena arena worker step) at ≡ word arena at
  header_stays at inside off = before_stays at (omega (arith, order.from)) off (inl (omega arith))

  -- the count is as the step says
  count_steps : stored_of later ≡ grown step.growth (stored_of arena)
  count_steps = others_stay (with_changes arena step) worker step.worker stored_at (inl (omega arith)) ∙ changes_count arena step order

  -- so it is still in order
  pub none_stays : NoneHolds (header_refusals (stepped_arena arena worker step))
  none_stays = none_same arena later header_stays (omega (arith, long_stays)) (rw count_steps fits) none

  module _ (known : worker < workers_of arena) where
    -- the other workers' records stay
    record_stays : (v : ℕ) → v < workers_of arena → (v ≡ worker → ⊥) → worker_at later v ≡ worker_at arena v
    unfolding worker_at
    record_stays v there other =
        record_words later v (λ k. word arena (worker_from v + k))
        (λ k inside. before_stays (worker_from v + k) (omega (arith, order.from)) (omega arith)
        (elim (dec_lt v worker) [ yes lower ↦ inl (omega arith) | no higher ↦ inr (omega arith) ]))

    -- and the worker's own is the step's
    record_steps : worker_at later worker ≡ step.worker
    record_steps =
        read_back (with_changes arena step) worker step.worker
        (rw (changes_long arena step) (omega (arith, order.whole, order.from, order.end)))

    -- decoded, the workers are as the step says
    worker_steps : (v : ℕ) → (decode later).worker v ≡ (stepped (decode arena) worker step).worker v
    worker_steps v =
        let workers : workers_of later ≡ workers_of arena = header_stays 1 (omega arith) (omega arith) in
        elim (ℕ_discrete v worker) [
          | yes same ↦ rw (eq-eqb v worker same, same) (known_record later worker (omega arith) ∙ record_steps)
          | no other ↦ rw (ne_eqb v worker other) (worker_same arena later header_stays v (λ there. record_stays v there other))
        ]

    module _ (below : EffectBelow (nodes_of arena) step.effect) where
      -- a field of a node is as the effect says
      field_steps : (n f : ℕ) → f < node_width → field_in later n f ≡ word_after step.effect n f (field_in arena n f)
      unfolding node_from
      field_steps n f room =
          let order_later = header_of later none_stays in
          let nodes : nodes_of later ≡ nodes_of arena = header_stays 2 (omega arith) (omega arith) in
          elim (dec_lt n (nodes_of arena)) [
            | yes there ↦
                let inside = field_inside arena n f order there room in
                field_word later order_later n f (omega arith) room
                ∙ ap (word later) (place_same arena later header_stays n f)
                ∙ others_stay (with_changes arena step) worker step.worker (node_from arena n f)
                (inr (omega (arith, order.from)))
                ∙ growth_off (with_effect arena step.effect) step.growth (node_from arena n f) (omega (arith, order.from))
                ∙ effect_word arena order step.effect n f below room
                ∙ ap (word_after step.effect n f) (sym (field_word arena order n f there room))
            | no gone ↦
                no_field later order_later n f (omega arith)
                ∙ sym (word_stays (nodes_of arena) step.effect n f 0 below (omega arith))
                ∙ ap (word_after step.effect n f) (sym (no_field arena order n f (omega arith)))
          ]

      -- the arena after the step, decoded, is the state after the step
      pub state_steps : decode (stepped_arena arena worker step) ≡ stepped (decode arena) worker step
      unfolding node_at
      state_steps =
          λ i. record {
            key = fun_ext (λ n. field_steps n node_key (omega arith)) i;
            next = fun_ext (λ n. field_steps n node_next (omega arith)) i;
            mark = fun_ext (λ n. field_steps n node_mark (omega arith)) i;
            owner = fun_ext (λ n. field_steps n node_owner (omega arith)) i;
            length = fun_ext (λ n. field_steps n node_length (omega arith)) i;
            stored = count_steps i;
            worker = fun_ext worker_steps i;
          }
