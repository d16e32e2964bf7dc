-- A decision is written into the record of the worker's open call, and then the books are those of the definition.
use mathlib.Core.Path.{◌≡◌, sym, ◌∙◌}
use mathlib.Core.Bool.{true, false}
use Rattle.words.specs.Records.{worker_at}
use Rattle.linear.specs.History.{is_decision}
use Rattle.schedule.specs.Book.{settles, with_decision}
use Rattle.schedule.proofs.entries.enter_move.Goals as goal

pub returns-else-is_decision : goal.returns-else-is_decision
unfolding with_decision worker_at is_decision
returns-else-is_decision c =
    let args = c.args in
    let answer = c.worker_field-answer.ensures in
    let none : settles args.before (worker_at args.arena.now args.worker).answer ≡ false
    = rw (← answer) (sym c.is_decision.ensures ∙ c.if-is_decision.false) in
    record {
      calls = rw none;
      books = rw none;
    }

pub returns-then-is_decision : goal.returns-then-is_decision
unfolding with_decision worker_at is_decision
returns-then-is_decision c =
    let args = c.args in
    let answer = c.worker_field-answer.ensures in
    let some : settles args.before (worker_at args.arena.now args.worker).answer ≡ true
    = rw (← answer) (sym c.is_decision.ensures ∙ c.if-is_decision.true) in
    let books = c.book_decision.ensures in
    record {
      calls = rw (
        some,
        c.note_decision.ensures,
        c.open_call-number.ensures,
        c.point_of-point.ensures,
        c.absent_time.ensures,
        answer,
      );
      books = rw (books, answer);
    }
