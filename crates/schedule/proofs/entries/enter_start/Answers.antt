-- What the start answers decides the definitions.
use mathlib.Core.Path.{◌∙◌}
use Rattle.schedule.specs.Book.{next_book, next_calls, next_waits}
use Rattle.schedule.proofs.BookLaws.{start_arena_lem, after_refused_start, after_start}
use Rattle.schedule.proofs.entries.enter_start.Goals as goal

pub absent_from-requires : goal.absent_from-requires
absent_from-requires c =
    let here = c.start.ensures.words ∙ start_arena_lem c.args.arena.now c.args.entry c.requires.starts in
    rw here c.requires.in_order

pub returns-in-Err : goal.returns-in-Err
unfolding next_book next_calls next_waits
returns-in-Err c =
    let args = c.args in
    let told = c.in-Err.ensures.answer in
    let then = after_refused_start args.arena.now args.entry args.time args.book.now c.requires.starts told in
    record {
      words = c.start.ensures.words ∙ start_arena_lem args.arena.now args.entry c.requires.starts;
      calls = then.calls args.history.now;
      waits = then.waits;
      books = c.refuse.ensures ∙ then.books;
    }

pub returns-in-Ok : goal.returns-in-Ok
unfolding next_book next_calls next_waits
returns-in-Ok c =
    let args = c.args in
    let told = c.in-Ok.ensures.answer in
    let here = c.start.ensures.words ∙ start_arena_lem args.arena.now args.entry c.requires.starts in
    let then = after_start args.arena.now args.entry args.time args.book.now c.requires.starts told in
    record {
      words = here;
      calls = rw (c.write.ensures, c.new.ensures) (then.calls args.history.now);
      waits = then.waits;
      books = rw (c.start-in-Ok.ensures, c.absent_from.ensures, here) then.books;
    }
