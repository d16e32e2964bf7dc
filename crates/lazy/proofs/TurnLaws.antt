-- What a turn on an arena does and what it leaves: for those who build on it.
use Prim.Native.Nat.{ℕ, suc, ◌+◌, ◌-◌, ◌≤◌, ◌<◌}
use mathlib.Core.Path.{◌≡◌, refl, sym, ap, subst, ◌∙◌}
use mathlib.Core.Logic.{◌⊎◌, ◌↔◌, inl, inr}
use mathlib.Core.List.{List, [], ◌∷◌}
use mathlib.Core.Bool.{Bool, true, false, cond, true≢false}
use native.Mathlib.Omega.{arith}
use lib.Seq.{get_or-set_other}
use lib.Dec.{leb}
use native.Mathlib.Decide.{ℕ_discrete}
use borrow.Author.Tests.{leb-false, eqb-true, eqb-false, eq-eqb, ne_eqb}
use Rattle.worker.specs.Node.{new_node}
use Rattle.worker.specs.Refusals.{Test, judged}
use Rattle.worker.specs.declared.refusal.Refusal.TheVariants.{NoSuchWorker, BrokenCount}
use Rattle.worker.specs.Report.{report_values, is_still}
use Rattle.worker.specs.Stages.{grown, takes, step_of, growth_at}
use Rattle.worker.specs.Turn.{turn_of}
use Rattle.worker.specs.declared.Worker.{Worker}
use Rattle.std.specs.Prelude.{Option, Some, None}
use Rattle.worker.specs.declared.refusal.Refusal.{Refusal}
use Rattle.worker.specs.declared.report.Report.{Report}
use Rattle.worker.specs.declared.report.Report.TheVariants.{Moved, Finished}
use Rattle.worker.specs.declared.report.Answer.{Answer}
use Rattle.worker.specs.declared.report.Step.{Step}
use Rattle.worker.specs.declared.report.Effect.{Effect}
use Rattle.worker.specs.declared.report.Effect.TheVariants as effect
use Rattle.worker.specs.declared.report.Growth.{Growth}
use Rattle.worker.specs.declared.report.Growth.TheVariants.{Stays, OneMore, OneLess}
use Rattle.std.specs.Prelude.{Result, Ok, Err}
use Rattle.worker.proofs.RefusalLaws.{NoneHolds, judged_append, none_accepts}
use Rattle.worker.proofs.ReportLaws.{report_told}
use Rattle.worker.proofs.TurnLaws.{judged_done, done_step, step_row}
use Rattle.worker.proofs.StepLaws.{Writes, step_written, step_grows, still_step}
use Rattle.words.specs.Layout.{word, worker_width, worker_from, worker_operation, worker_key, worker_length, workers_of, nodes_of, stored_of, stored_at, node_from, node_key, node_next, node_mark, node_owner}
use Rattle.words.specs.Records.{worker_at, with_worker, with_moved, node_words, with_node, Outside}
use Rattle.words.specs.Replies.{refused, accepted, refusing, reply}
use Rattle.words.specs.Header.{header_refusals}
use Rattle.words.proofs.Judged.{reply_told}
use Rattle.words.proofs.HeaderLaws.{Header, header_holds}
use Rattle.words.proofs.Runs.{sets_outside}
use Rattle.words.proofs.RecordLaws.{others_stay, rewritten, moved_written}
use Rattle.lazy.specs.FindFree.{next_in, roots_in, found_in}
use Rattle.lazy.specs.Turn.{seen_of, seen_by, worker_refusals, miscounts, counted, turn_on, outcome_of, with_effect, with_changes, turned_arena, turn_answer, turn_arena}
use Rattle.lazy.specs.Claims.{Takes, IsFull, Touches, Recounts, BadCount}
use Rattle.lazy.proofs.FreeLaws.{lowest_found, lowest_none}
use Rattle.lazy.proofs.ChangeLaws.{CountFits, effect_before, count_stays, growth_leaves, changes_before, changes_count}

-- the reply tells the report, so a turn answers just what it comes to
pub answer_told : (arena : List ℕ) (worker : ℕ) {told : Result Report Refusal} → reply report_values told ≡ turn_answer arena worker →
    told ≡ outcome_of (turn_on arena worker)
unfolding turn_answer
answer_told arena worker same = reply_told report_values report_told _ (outcome_of (turn_on arena worker)) same

-- a refused turn changes no word
pub refused_stays : (arena : List ℕ) (worker : ℕ) {number : ℕ} → turn_answer arena worker ≡ refused number → turn_arena arena worker ≡ arena
unfolding turn_answer turn_arena
refused_stays arena worker {number} e = go (turn_on arena worker) e
  where
    go : (t : Result Step Refusal) → reply report_values (outcome_of t) ≡ refused number → turned_arena arena worker t ≡ arena
    go (Ok step) e = let z : ◌≡◌ {A = ℕ} 0 1 = cc in absurd (omega arith)
    go (Err n) e = refl

-- an effect leaves every word but those it writes
effect_leaves : (arena : List ℕ) (e : Effect) (at : ℕ) → (Touches arena e at → ⊥) → word (with_effect arena e) at ≡ word arena at
unfolding with_effect with_node node_from
effect_leaves arena effect.Nothing at out = refl
effect_leaves arena (effect.SetOwner node owner) at out = get_or-set_other arena (node_from arena node node_owner) at owner 0 out
effect_leaves arena (effect.SetNext node next) at out = get_or-set_other arena (node_from arena node node_next) at next 0 out
effect_leaves arena (effect.SetMark node) at out = get_or-set_other arena (node_from arena node node_mark) at 1 0 out
effect_leaves arena (effect.Fill node key next length) at out =
    sets_outside (node_words (new_node key next length)) arena (node_from arena node node_key) at (λ k h e. out (k, h, omega arith))

-- a turn leaves every word but the worker's own record, what its effect writes, and the count where it changes
pub turn_leaves : (arena : List ℕ) (worker at : ℕ) {step : Step} → turn_on arena worker ≡ Ok step →
    Outside worker at → (Touches arena step.effect at → ⊥) → (Recounts step.growth at → ⊥) → word (turn_arena arena worker) at ≡ word arena at
unfolding turn_arena
turn_leaves arena worker at {step} e outside out same =
    rw e
    (others_stay (with_changes arena step) worker step.worker at outside
    ∙ growth_leaves (with_effect arena step.effect) step.growth at same
    ∙ effect_leaves arena step.effect at out)

-- a turn that the count does not refuse is what it was, and its change of the count can be
counted_done : (arena : List ℕ) (t : Result Step Refusal) {step : Step} → counted arena t ≡ Ok step →
    (t ≡ Ok step) × (miscounts (nodes_of arena) (stored_of arena) step.growth ≡ false)
unfolding counted
counted_done arena (Err refusal) e = let z : ◌≡◌ {A = ℕ} 0 1 = cc in absurd (omega arith)
counted_done arena (Ok taken) {step} e = go (miscounts (nodes_of arena) (stored_of arena) taken.growth) refl e
  where
    done : Result Step Refusal
    done = Ok taken

    go : (broken : Bool) → miscounts (nodes_of arena) (stored_of arena) taken.growth ≡ broken → cond broken (Err BrokenCount) done ≡ Ok step →
        (done ≡ Ok step) × (miscounts (nodes_of arena) (stored_of arena) step.growth ≡ false)
    go true may e = let z : ◌≡◌ {A = ℕ} 0 1 = cc in absurd (omega arith)
    go false may e =
        let same : taken ≡ step = cc in (e, ap (λ (t : Step). miscounts (nodes_of arena) (stored_of arena) t.growth) (sym same) ∙ may)

-- a count at which a stage's change cannot be is the one of document 02's words
bad_count : (nodes stored stage : ℕ) → (miscounts nodes stored (growth_at stage) ≡ true) ↔ BadCount nodes stored stage
bad_count nodes stored stage = (forth, back)
  where
    forth : miscounts nodes stored (growth_at stage) ≡ true → BadCount nodes stored stage
    forth e =
        elim (ℕ_discrete stage 15) [
          | yes q ↦ inr (q, eqb-true stored (nodes - 2) (rw q at e))
          | no q ↦ elim (ℕ_discrete stage 16) [
            | yes r ↦ inl (r, eqb-true stored 0 (rw r at e))
            | no r ↦ absurd (true≢false (sym (rw (ne_eqb stage 15 q, ne_eqb stage 16 r) at e)))
          ]
        ]

    back : BadCount nodes stored stage → miscounts nodes stored (growth_at stage) ≡ true
    back (inl (at, empty)) = rw (at, empty)
    back (inr (at, all)) = rw (at, all) (eq-eqb (nodes - 2) (nodes - 2) refl)

-- a turn that nothing else refuses is refused for the count just there
pub count_refused : (arena : List ℕ) (worker : ℕ) {step : Step} → NoneHolds (worker_refusals arena worker) →
    turn_of (worker_at arena worker) (suc worker) (seen_by arena (worker_at arena worker)) ≡ Ok step →
    (turn_on arena worker ≡ Err BrokenCount) ↔ BadCount (nodes_of arena) (stored_of arena) (worker_at arena worker).stage
unfolding turn_on counted
count_refused arena worker {step} none done = (λ e. bad.0 (go miscounting refl (sym comes ∙ e)), λ e. comes ∙ ap decided (bad.1 e))
  where
    w : Worker
    w = worker_at arena worker

    miscounting : Bool
    miscounting = miscounts (nodes_of arena) (stored_of arena) (growth_at w.stage)

    bad : (miscounting ≡ true) ↔ BadCount (nodes_of arena) (stored_of arena) w.stage
    bad = bad_count (nodes_of arena) (stored_of arena) w.stage

    decided : Bool → Result Step Refusal
    decided broken = cond broken (Err BrokenCount) (Ok step)

    grows : step.growth ≡ growth_at w.stage
    grows = ap (λ (t : Step). t.growth) (done_step w (suc worker) (seen_by arena w) done) ∙ step_grows w (suc worker) (seen_by arena w)

    comes : turn_on arena worker ≡ decided miscounting
    comes =
        none_accepts (worker_refusals arena worker) Err _ none
        ∙ ap (counted arena) done
        ∙ ap (λ g. decided (miscounts (nodes_of arena) (stored_of arena) g)) grows

    go : (broken : Bool) → miscounting ≡ broken → decided broken ≡ Err BrokenCount → miscounting ≡ true
    go true is e = is
    go false is e = let z : ◌≡◌ {A = ℕ} 0 1 = cc in absurd (omega arith)

-- what a turn that is done tells of its arena: the header is in order, there is such a worker, its own turn is done, and the count allows it
pub record Accepted (arena : List ℕ) (worker : ℕ) (step : Step) : Type 0 where
  pub header : Header arena
  pub known : worker < workers_of arena
  pub done : turn_of (worker_at arena worker) (suc worker) (seen_by arena (worker_at arena worker)) ≡ Ok step
  pub counts : miscounts (nodes_of arena) (stored_of arena) step.growth ≡ false

pub turn_accepted : (arena : List ℕ) (worker : ℕ) {step : Step} → turn_on arena worker ≡ Ok step → Accepted arena worker step
unfolding turn_on worker_refusals
turn_accepted arena worker {step} e =
    let own = turn_of (worker_at arena worker) (suc worker) (seen_by arena (worker_at arena worker)) in
    let unknown : List Test = (leb (workers_of arena) worker, NoSuchWorker) ∷ [] in
    let first = judged_done (header_refusals arena) (judged unknown Err (counted arena own))
    (sym (judged_append (header_refusals arena) unknown Err (counted arena own)) ∙ e) in
    let second = judged_done unknown (counted arena own) first.1 in
    let third = counted_done arena own second.1 in
    record {
      header = header_holds arena (sym (none_accepts (header_refusals arena) refusing (accepted []) first.0));
      known = leb-false (workers_of arena) worker second.0.0;
      done = third.0;
      counts = third.1;
    }

-- its count fits a word, and one more does
pub one_more_fits : (arena : List ℕ) (worker : ℕ) {step : Step} → turn_on arena worker ≡ Ok step → stored_of (with_effect arena step.effect) < 65535
one_more_fits arena worker {step} e =
    let header = (turn_accepted arena worker e).header in
    omega (
      arith,
      effect_before arena step.effect stored_at (omega (arith, header.from)),
      header.few_stored,
      header.good,
    )

-- after it the count is as its step says
pub turn_counts : (arena : List ℕ) (worker : ℕ) {step : Step} → turn_on arena worker ≡ Ok step →
    stored_of (turn_arena arena worker) ≡ grown step.growth (stored_of arena)
unfolding turn_arena
turn_counts arena worker {step} e =
    rw e
    (others_stay (with_changes arena step) worker step.worker stored_at (inl (omega arith))
    ∙ changes_count arena step (turn_accepted arena worker e).header)

-- and within its ends
pub turn_fits : (arena : List ℕ) (worker : ℕ) {step : Step} → turn_on arena worker ≡ Ok step → CountFits arena step.growth
turn_fits arena worker {step} e = let it = turn_accepted arena worker e in go step.growth it.counts it.header.few_stored
  where
    go : (g : Growth) → miscounts (nodes_of arena) (stored_of arena) g ≡ false → stored_of arena ≤ nodes_of arena - 2 →
        grown g (stored_of arena) ≤ nodes_of arena - 2
    go Stays may few = few
    go OneMore may few = omega (arith, eqb-false (stored_of arena) (nodes_of arena - 2) may)
    go OneLess may few = omega arith

-- and it is the step of the worker's stage
pub turn_steps : (arena : List ℕ) (worker : ℕ) {step : Step} → turn_on arena worker ≡ Ok step →
    step ≡ step_of (worker_at arena worker) (suc worker) (seen_by arena (worker_at arena worker))
turn_steps arena worker e =
    done_step (worker_at arena worker) (suc worker) (seen_by arena (worker_at arena worker)) (turn_accepted arena worker e).done

-- a turn that is done, and is idle or waits, changes no word
pub still_turn : (arena : List ℕ) (worker : ℕ) {step : Step} → turn_on arena worker ≡ Ok step → is_still step.report ≡ true →
    turn_arena arena worker ≡ arena
unfolding turn_arena with_effect
still_turn arena worker is still =
    let w : Worker = worker_at arena worker in
    let does = turn_steps arena worker is in
    let stays = still_step w (suc worker) (seen_by arena w) (ap (λ (t : Step). is_still t.report) (sym does) ∙ still) in
    ap (turned_arena arena worker) is
    ∙ ap (λ (t : Step). turned_arena arena worker (Ok t)) (does ∙ stays)
    ∙ ap (λ (words : List ℕ). with_worker words worker w) (count_stays arena)
    ∙ rewritten arena worker

-- so a turn that reports so changes none
pub still_stays : (arena : List ℕ) (worker : ℕ) (report : Report) → is_still report ≡ true →
    turn_answer arena worker ≡ accepted (report_values report) → turn_arena arena worker ≡ arena
unfolding turn_arena
still_stays arena worker report still e =
    go (turn_on arena worker) refl (answer_told arena worker {told = Ok report} (sym e))
  where
    go : (t : Result Step Refusal) → turn_on arena worker ≡ t → Ok report ≡ outcome_of t → turn_arena arena worker ≡ arena
    go (Err refusal) is told = ap (turned_arena arena worker) is
    go (Ok step) is told =
        let same : report ≡ step.report = cc in still_turn arena worker is (ap is_still (sym same) ∙ still)

-- what a turn that is done writes, by what it reports
turn_written : (arena : List ℕ) (worker : ℕ) {step : Step} {report : Report} → turn_on arena worker ≡ Ok step → step.report ≡ report →
    Writes (worker_at arena worker) (suc worker) (seen_by arena (worker_at arena worker)) step report
turn_written arena worker {step} is tells =
    let w : Worker = worker_at arena worker in
    let seen = seen_by arena w in
    let does = turn_steps arena worker is in
    subst (Writes w (suc worker) seen step) tells
    (subst (λ (t : Step). Writes w (suc worker) seen t t.report) (sym does) (step_written w (suc worker) seen))

-- where it moves, its changes and what a move may change of the record
pub moved_turn : (arena : List ℕ) (worker : ℕ) {step : Step} {stage : ℕ} → turn_on arena worker ≡ Ok step → step.report ≡ Moved stage →
    with_moved (with_changes arena step) worker step.worker ≡ turn_arena arena worker
unfolding turn_arena worker_at
moved_turn arena worker {step} is moves =
    let it = turn_accepted arena worker is in
    let keeps = turn_written arena worker is moves in
    let stays : (field : ℕ) → field < worker_width → word (with_changes arena step) (worker_from worker + field) ≡ word arena (worker_from worker + field)
    = λ field inside. changes_before arena step (worker_from worker + field) (omega (arith, it.header.from, it.known)) (λ same. omega arith) in
    moved_written (with_changes arena step) worker step.worker
    (stays worker_operation (omega arith) ∙ sym (ap (λ (w : Worker). w.operation) keeps))
    (stays worker_key (omega arith) ∙ sym (ap (λ (w : Worker). w.key) keeps))
    (stays worker_length (omega arith) ∙ sym (ap (λ (w : Worker). w.length) keeps))
    ∙ sym (ap (turned_arena arena worker) is)

-- where it finishes, the record alone
pub finished_turn : (arena : List ℕ) (worker : ℕ) {step : Step} {answer : Answer} → turn_on arena worker ≡ Ok step →
    step.report ≡ Finished answer → with_worker arena worker step.worker ≡ turn_arena arena worker
unfolding turn_arena with_effect
finished_turn arena worker {step} is finishes =
    sym (
    ap (turned_arena arena worker) is
    ∙ ap (λ (t : Step). with_worker (with_changes arena t) worker step.worker) (turn_written arena worker is finishes)
    ∙ ap (λ (words : List ℕ). with_worker words worker step.worker) (count_stays arena))

-- at 14 a free node is taken where there is one, and full is answered only where there is none
pub takes_free : (arena : List ℕ) (worker : ℕ) {step : Step} → turn_on arena worker ≡ Ok step →
    (worker_at arena worker).stage ≡ 14 → Takes arena (worker_at arena worker) step ⊎ IsFull arena (worker_at arena worker) step
unfolding seen_by seen_of
takes_free arena worker {step} e s =
    go (found_in arena).free refl (turn_steps arena worker e ∙ step_row w (suc worker) (seen_by arena w) s)
  where
    w : Worker
    w = worker_at arena worker

    go : (found : Option ℕ) → (found_in arena).free ≡ found → step ≡ takes w found → Takes arena w step ⊎ IsFull arena w step
    go None none same =
        inr (record {
          effect = ap (λ (t : Step). t.effect) same;
          answer = ap (λ (t : Step). t.worker.answer) same;
          none = lowest_none (next_in arena) (nodes_of arena) (roots_in arena) none;
        })
    go (Some node) some same =
        let found = lowest_found (next_in arena) (nodes_of arena) (roots_in arena) some in
        inl (record {
          node = node;
          effect = ap (λ (t : Step). t.effect) same;
          free = found.0;
          lowest = found.1;
        })
