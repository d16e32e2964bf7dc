-- The answer and the words are those of what the turn comes to.
use mathlib.Core.Path.{sym, ap, ◌∙◌}
use mathlib.Core.Logic.{⊎_elim}
use Rattle.std.proofs.lemmas.Result.{err_from_is_err_and}
use Rattle.worker.specs.Report.{is_still}
use Rattle.lazy.specs.Turn.{turn_answer, turn_arena}
use Rattle.lazy.proofs.TurnLaws.{one_more_fits, still_turn, moved_turn, finished_turn}
use Rattle.lazy.proofs.turn.Goals as goal

pub returns-in_err-step : goal.returns-in_err-step
unfolding turn_answer turn_arena
returns-in_err-step c =
    let told = sym c.in_err-step.ensures in
    let p = err_from_is_err_and c.from_residual.result c.from_residual.ensures.1 in
    record { answer = rw (told, p.1, p.2); words = rw told }

pub apply-requires : goal.apply-requires
apply-requires c = one_more_fits c.args.arena.now c.args.worker (sym c.in_ok-step.ensures)

pub returns-in-Idle : goal.returns-in-Idle
unfolding turn_answer
returns-in-Idle c =
    let told = sym c.in_ok-step.ensures in
    let still = ⊎_elim (λ idle. ap is_still idle) (λ waits. ap is_still waits.2) c.in-Idle.is in
    record { answer = rw told; words = sym (still_turn c.args.arena.now c.args.worker told still) }

pub returns-in-Moved : goal.returns-in-Moved
unfolding turn_answer
returns-in-Moved c =
    let told = sym c.in_ok-step.ensures in
    record {
      answer = rw told;
      words = rw (c.write_moved.ensures, c.apply.ensures) (moved_turn c.args.arena.now c.args.worker told c.in-Moved.is);
    }

pub returns-in-Finished : goal.returns-in-Finished
unfolding turn_answer
returns-in-Finished c =
    let told = sym c.in_ok-step.ensures in
    record {
      answer = rw told;
      words = c.write_worker.ensures ∙ finished_turn c.args.arena.now c.args.worker told c.in-Finished.is;
    }
