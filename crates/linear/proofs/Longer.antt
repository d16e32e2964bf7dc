-- An arena with further words behind it: entries come to the same, and the further words stay.
use Prim.Native.Nat.{ℕ, suc, ◌+◌, ◌-◌, ◌≤◌, ◌<◌}
use mathlib.Core.Path.{◌≡◌, refl, sym, ap, ◌∙◌}
use mathlib.Core.Logic.{◌≢◌}
use mathlib.Core.List.{List, [], ◌++◌}
use mathlib.Core.Bool.{Bool, true, false, cond}
use native.Mathlib.Omega.{arith}
use native.Mathlib.Decide.{dec_lt}
use lib.ListN.{length, take, drop, set, length-append, length-drop, get_or-append}
use lib.Seq.{sets, set-append_left, take-append-le, drop-append-le}
use lib.Dec.{leb}
use borrow.Author.Tests.{le-leb, leb-false}
use Rattle.worker.specs.Node.{new_node}
use Rattle.worker.specs.Worker.{started_worker}
use Rattle.worker.specs.Stages.{grown}
use Rattle.worker.specs.Refusals.{Test, judged}
use Rattle.worker.specs.declared.report.Step.{Step}
use Rattle.worker.specs.declared.refusal.Refusal.{Refusal}
use Rattle.worker.specs.declared.refusal.Refusal.TheVariants.{NoSuchWorker, BrokenCount}
use Rattle.worker.specs.Turn.{turn_of}
use Rattle.worker.specs.declared.Worker.{Worker}
use Rattle.worker.specs.declared.report.Growth.{Growth}
use Rattle.worker.specs.declared.report.Effect.{Effect}
use Rattle.worker.specs.declared.report.Effect.TheVariants.{Nothing, SetOwner, SetNext, SetMark, Fill}
use Rattle.std.specs.Prelude.{Result, Ok, Err}
use Rattle.worker.proofs.RefusalLaws.{NoneHolds, judged_append, none_accepts}
use Rattle.worker.proofs.EffectLaws.{EffectBelow}
use Rattle.words.specs.Layout.{word, header_width, worker_from, node_width, workers_of, nodes_of, nodes_from_of, stored_of, stored_at, total_of, node_part, node_from, node_key, node_next, node_mark, node_owner, node_length}
use Rattle.words.specs.Records.{worker_at, worker_words, with_worker, node_words, with_node, node_at}
use Rattle.words.specs.Replies.{Reply, refused, accepted, refusing, replied}
use Rattle.words.specs.Header.{header_refusals}
use Rattle.words.proofs.HeaderLaws.{Header, header_of}
use Rattle.words.proofs.Judged.{none_holds, judged_numbered, judged_accepted}
use Rattle.words.proofs.RecordLaws.{record_words}
use Rattle.words.proofs.Runs.{sets_front}
use Rattle.words.specs.declared.entry.Entry.{Entry}
use Rattle.arena.specs.Sets.{chain_labels, node_in, set_of}
use Rattle.arena.specs.AtRest.{SoundAtRest}
use Rattle.arena.specs.Start.{call_refusals, start_refusals, start_arena}
use Rattle.lazy.specs.Turn.{outcome_of, seen_of, seen_by, miscounts, counted, turn_on, with_effect, with_growth, with_changes, turned_arena, turn_arena}
use Rattle.lazy.proofs.ChangeLaws.{effect_long, changes_long}
use Rattle.lazy.proofs.TurnLaws.{turn_accepted}
use Rattle.lazy.proofs.InsideLaws.{effect_below, field_inside}
use Rattle.linear.specs.Entries.{is_turn, call_started, entry_refused, turn_event, event_of, after}
use Rattle.linear.specs.Lent.{Unseen, MoreUnseen}
use Rattle.linear.proofs.Stepped.{none_same, place_same}
use Rattle.linear.proofs.Bridge.{Sound, roots_same, turn_judged, turn_unknown}

module _ (arena more : List ℕ) (none : NoneHolds (header_refusals arena)) where
  abbrev longer : List ℕ
  longer = arena ++ more

  order : Header arena
  order = header_of arena none

  same_word : (at : ℕ) → at < length arena → word longer at ≡ word arena at
  same_word at inside = get_or-append arena more 0 at inside

  -- the header is the same, and in order
  header_word : (at : ℕ) → at < header_width → word longer at ≡ word arena at
  header_word at inside = same_word at (omega (arith, order.long))

  same_header : (at : ℕ) → at < header_width → at ≢ stored_at → word longer at ≡ word arena at
  same_header at inside off = header_word at inside

  none_longer : NoneHolds (header_refusals longer)
  none_longer =
      none_same arena longer same_header (rw length-append (omega arith))
      (rw (header_word stored_at (omega arith)) order.few_stored) none

  sound_here : Sound (workers_of arena) (nodes_of arena) arena
  sound_here = record { none = none; workers_are = refl; nodes_are = refl }

  pub sound_longer : Sound (workers_of arena) (nodes_of arena) (arena ++ more)
  sound_longer =
      record {
        none = none_longer;
        workers_are = header_word 1 (omega arith);
        nodes_are = header_word 2 (omega arith);
      }

  -- so are the records of the workers, and the nodes
  record_same : (v : ℕ) → v < workers_of arena → worker_at longer v ≡ worker_at arena v
  unfolding worker_at
  record_same v there =
      record_words longer v (λ k. word arena (worker_from v + k))
      (λ k inside. same_word (worker_from v + k) (omega (arith, order.whole, order.from, order.end)))

  part_same : node_part longer ≡ node_part arena
  unfolding node_part
  part_same =
      let from = nodes_from_of arena in
      let count = total_of arena - from in
      (λ i. take (header_word 5 (omega arith) i - header_word 4 (omega arith) i) (drop (header_word 4 (omega arith) i) longer))
      ∙ ap (take count) (drop-append-le from arena more (omega (arith, order.whole, order.from, order.end)))
      ∙ take-append-le count (drop from arena) more (rw length-drop (omega (arith, order.whole, order.from, order.end)))

  -- and the set, so it is still sound and at rest
  node_same : node_in longer ≡ node_in arena
  node_same = ap node_at part_same

  pub set_same : set_of (arena ++ more) ≡ set_of arena
  unfolding set_of
  set_same = λ i. chain_labels (node_same i) (header_word 2 (omega arith) i)

  pub rests_longer : SoundAtRest arena → SoundAtRest (arena ++ more)
  rests_longer rest =
      let nodes = header_word 2 (omega arith) in
      record {
        header = none_accepts (header_refusals longer) refusing (accepted []) none_longer;
        nodes = rw (node_same, nodes) rest.nodes;
        workers = λ v there. let known : v < workers_of arena = omega (arith, header_word 1 (omega arith)) in record_same v known ∙ rest.workers v known;
        counted = rw (header_word stored_at (omega arith), set_same) rest.counted;
      }

  -- so a turn sees the same, and is the same
  seen_same : (w : Worker) → seen_by longer w ≡ seen_by arena w
  unfolding seen_by seen_of
  seen_same w =
      rw (
        part_same,
        header_word 1 (omega arith),
        header_word 2 (omega arith),
        roots_same (worker_at longer) (worker_at arena) (workers_of arena) record_same,
      )

  counted_same : (t : Result Step Refusal) → counted longer t ≡ counted arena t
  unfolding counted
  counted_same (Err refusal) = refl
  counted_same (Ok step) =
      λ i. cond (miscounts (header_word 2 (omega arith) i) (header_word stored_at (omega arith) i) step.growth) (Err BrokenCount) (Ok step)

  turn_same : (w : ℕ) → turn_on longer w ≡ turn_on arena w
  turn_same w =
      elim (dec_lt w (workers_of arena)) [
        | yes known ↦
            let seen = ap (seen_by longer) (record_same w known) ∙ seen_same (worker_at arena w) in
            turn_judged sound_longer w
            ∙ (λ i. cond (leb (header_word 1 (omega arith) i) w) (Err NoSuchWorker) (counted_same (turn_of (record_same w known i) (suc w) (seen i)) i))
            ∙ sym (turn_judged sound_here w)
        | no unknown ↦ turn_unknown sound_longer w (omega arith) ∙ sym (turn_unknown sound_here w (omega arith))
      ]

  -- it writes at the same places, all before the further words
  field_longer : (node field value : ℕ) → node < nodes_of arena → field < node_width →
      set longer (node_from longer node field) value ≡ set arena (node_from arena node field) value ++ more
  field_longer node field value below fits =
      let inside = field_inside arena node field order below fits in
      ap (λ at. set longer at value) (place_same arena longer same_header node field)
      ∙ set-append_left arena more (node_from arena node field) value (omega (arith, order.whole))

  effect_longer : (e : Effect) → EffectBelow (nodes_of arena) e → with_effect longer e ≡ with_effect arena e ++ more
  unfolding with_effect with_node node_from
  effect_longer Nothing below = refl
  effect_longer (SetOwner node owner) below = field_longer node node_owner owner below (omega arith)
  effect_longer (SetNext node next) below = field_longer node node_next next below (omega arith)
  effect_longer (SetMark node) below = field_longer node node_mark 1 below (omega arith)
  effect_longer (Fill node key next length) below =
      let last = field_inside arena node node_length order below (omega arith) in
      let filled = node_words (new_node key next length) in
      ap (λ at. sets longer at filled) (place_same arena longer same_header node node_key)
      ∙ sets_front filled arena more (node_from arena node node_key) (omega (arith, order.whole))

  -- and its count too
  growth_longer : (words : List ℕ) (g : Growth) → header_width ≤ length words → with_growth (words ++ more) g ≡ with_growth words g ++ more
  unfolding with_growth
  growth_longer words g long =
      ap (λ stored. set (words ++ more) stored_at (grown g stored)) (get_or-append words more 0 stored_at (omega arith))
      ∙ set-append_left words more stored_at (grown g (stored_of words)) (omega arith)

  record_longer : (words : List ℕ) (w : ℕ) (to : Worker) → length words ≡ length arena → w < workers_of arena →
      with_worker (words ++ more) w to ≡ with_worker words w to ++ more
  unfolding with_worker
  record_longer words w to long known =
      sets_front (worker_words to) words more (worker_from w) (omega (arith, order.whole, order.from, order.end))

  turn_longer : (w : ℕ) → turn_arena longer w ≡ turn_arena arena w ++ more
  unfolding turn_arena
  turn_longer w = ap (turned_arena longer w) (turn_same w) ∙ go (turn_on arena w) refl
    where
      go : (t : Result Step Refusal) → turn_on arena w ≡ t → turned_arena longer w t ≡ turned_arena arena w t ++ more
      go (Err refusal) e = refl
      go (Ok step) e =
          ap (λ words. with_worker (with_growth words step.growth) w step.worker) (effect_longer step.effect (effect_below arena w e))
          ∙ ap (λ words. with_worker words w step.worker)
          (growth_longer (with_effect arena step.effect) step.growth (omega (arith, effect_long arena step.effect, order.long)))
          ∙ record_longer (with_changes arena step) w step.worker (changes_long arena step) (turn_accepted arena w e).known

  -- a start is judged the same
  module _ (w operation key length : ℕ) where
    call_judged : {A : Type 0} (refuse : Refusal → A) (accept : A) →
        judged (call_refusals longer w operation key length) refuse accept ≡ judged (call_refusals arena w operation key length) refuse accept
    unfolding call_refusals
    call_judged refuse accept =
        elim (dec_lt w (workers_of arena)) [
          | yes known ↦ rw (record_same w known, header_word 1 (omega arith))
          | no unknown ↦ rw (header_word 1 (omega arith), le-leb (workers_of arena) w (omega arith))
        ]

    start_judged : {A : Type 0} (refuse : Refusal → A) (accept : A) →
        judged (start_refusals longer w operation key length) refuse accept ≡ judged (start_refusals arena w operation key length) refuse accept
    unfolding start_refusals
    start_judged refuse accept =
        judged_append (header_refusals longer) (call_refusals longer w operation key length) refuse accept
        ∙ none_accepts (header_refusals longer) refuse _ none_longer
        ∙ call_judged refuse accept
        ∙ sym (none_accepts (header_refusals arena) refuse _ none)
        ∙ sym (judged_append (header_refusals arena) (call_refusals arena w operation key length) refuse accept)

    start_longer : start_arena longer w operation key length ≡ start_arena arena w operation key length ++ more
    unfolding start_arena start_refusals call_refusals header_refusals
    start_longer = start_judged (λ refusal. longer) (with_worker longer w started) ∙ go (replied refusals []) refl
      where
        started : Worker
        started = started_worker operation key length

        refusals : List Test
        refusals = start_refusals arena w operation key length

        go : (reply : Reply) → reply ≡ replied refusals [] →
            judged refusals (λ refusal. longer) (with_worker longer w started)
            ≡ judged refusals (λ refusal. arena) (with_worker arena w started) ++ more
        go (refused number) e =
            judged_numbered refusals [] (λ refusal. longer) _ e
            ∙ ap (λ words. words ++ more) (sym (judged_numbered refusals [] (λ refusal. arena) _ e))
        go (accepted values) e =
            let known = leb-false (workers_of arena) w (none_holds refusals [] e).1.1.1.0 in
            judged_accepted refusals [] (λ refusal. longer) _ e
            ∙ record_longer arena w started refl known
            ∙ ap (λ words. words ++ more) (sym (judged_accepted refusals [] (λ refusal. arena) _ e))

  pub unseen : (entry : Entry) → Unseen arena more entry
  unfolding event_of after
  unseen entry = go (is_turn entry) refl
    where
      w : ℕ
      w = entry.worker

      go : (t : Bool) → is_turn entry ≡ t → Unseen arena more entry
      go true e =
          record { same_event = rw e (ap (λ t. turn_event (outcome_of t)) (turn_same w)); same_words = rw e (turn_longer w) }
      go false e =
          record {
            same_event = rw e (start_judged w entry.act entry.key entry.length entry_refused call_started);
            same_words = rw e (start_longer w entry.act entry.key entry.length);
          }

-- for every arena that passes the header test
pub more_unseen : MoreUnseen
more_unseen arena more entry e = unseen arena more (none_holds (header_refusals arena) [] (sym e)) entry
