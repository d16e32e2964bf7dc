-- What the turn reports decides the definitions.
use mathlib.Core.Path.{sym, ap, ◌∙◌}
use Rattle.worker.specs.declared.report.Report.{Report}
use Rattle.worker.specs.declared.report.Report.TheVariants as report
use Rattle.std.specs.Prelude.{Ok, Err}
use Rattle.worker.specs.Report.{report_values}
use Rattle.words.specs.Replies.{reply}
use Rattle.schedule.specs.Book.{next_book, next_calls, next_waits}
use Rattle.schedule.proofs.BookLaws.{turn_arena_lem, after_turn}
use Rattle.schedule.proofs.entries.enter_turn.Goals as goal

pub returns-in-Err : goal.returns-in-Err
unfolding next_book next_calls next_waits
returns-in-Err c =
    let args = c.args in
    let told = c.in-Err.ensures.answer in
    let then = after_turn args.arena.now args.entry args.time args.book.now c.requires.turns (Err _) told in
    record {
      words = c.turn.ensures.words ∙ turn_arena_lem args.arena.now args.entry c.requires.turns;
      calls = then.calls args.history.now;
      waits = then.waits args.waits.now;
      books = c.refuse.ensures ∙ then.books;
    }

pub returns-in-Idle : goal.returns-in-Idle
unfolding next_book next_calls next_waits
returns-in-Idle c =
    let args = c.args in
    let told = sym (ap (λ (r : Report). reply report_values (Ok r)) c.in-Idle.is) ∙ c.in-Ok.ensures.answer in
    let then = after_turn args.arena.now args.entry args.time args.book.now c.requires.turns (Ok report.Idle) told in
    record {
      words = c.turn.ensures.words ∙ turn_arena_lem args.arena.now args.entry c.requires.turns;
      calls = then.calls args.history.now;
      waits = then.waits args.waits.now;
      books = then.books;
    }

pub returns-in-Moved : goal.returns-in-Moved
unfolding next_book next_calls next_waits
returns-in-Moved c =
    let args = c.args in
    let moves = c.enter_move in
    let here = c.turn.ensures.words ∙ turn_arena_lem args.arena.now args.entry c.requires.turns in
    let told = sym (ap (λ (r : Report). reply report_values (Ok r)) c.in-Moved.is) ∙ c.in-Ok.ensures.answer in
    let then = after_turn args.arena.now args.entry args.time args.book.now c.requires.turns (Ok (report.Moved c.in-Moved.field-0)) told in
    record {
      words = here;
      calls = rw (moves.ensures.calls, moves.ensures.books, c.read_worker-before.ensures, here) (then.calls args.history.now);
      waits = then.waits args.waits.now;
      books = rw (moves.ensures.books, c.read_worker-before.ensures, here) then.books;
    }

pub returns-in-Waits : goal.returns-in-Waits
unfolding next_book next_calls next_waits
returns-in-Waits c =
    let args = c.args in
    let told = sym (ap (λ (r : Report). reply report_values (Ok r)) c.in-Waits.is) ∙ c.in-Ok.ensures.answer in
    let then = after_turn args.arena.now args.entry args.time args.book.now c.requires.turns (Ok (report.Waits c.in-Waits.node c.in-Waits.blocker)) told in
    record {
      words = c.turn.ensures.words ∙ turn_arena_lem args.arena.now args.entry c.requires.turns;
      calls = then.calls args.history.now;
      waits = rw (c.write.ensures, c.open_call.ensures) (then.waits args.waits.now);
      books = c.wait.ensures ∙ then.books;
    }

pub returns-in-Finished : goal.returns-in-Finished
unfolding next_book next_calls next_waits
returns-in-Finished c =
    let args = c.args in
    let told = sym (ap (λ (r : Report). reply report_values (Ok r)) c.in-Finished.is) ∙ c.in-Ok.ensures.answer in
    let then = after_turn args.arena.now args.entry args.time args.book.now c.requires.turns (Ok (report.Finished c.in-Finished.field-0)) told in
    record {
      words = c.turn.ensures.words ∙ turn_arena_lem args.arena.now args.entry c.requires.turns;
      calls = rw (c.note_finish.ensures, c.open_call-in-Finished.ensures) (then.calls args.history.now);
      waits = then.waits args.waits.now;
      books = then.books;
    }
