-- What the verdict says decides the definitions; where it accepts, the record of a started worker is written.
use Rattle.std.proofs.Common.{[], sym}
use Rattle.words.proofs.Judged.{judged_refused, judged_accepted}
use Rattle.arena.specs.Start.{start_refusals, start_arena}
use Rattle.arena.proofs.start.Goals as goal

pub returns-in_err-start_verdict-clause-words : goal.returns-in_err-start_verdict-clause-words
unfolding start_arena
returns-in_err-start_verdict-clause-words c =
    let args = c.args in
    sym (judged_refused (start_refusals args.arena.now args.worker args.operation args.key args.length) [] _ _ c.in_err-start_verdict.ensures)

pub returns-clause-words : goal.returns-clause-words
unfolding start_arena
returns-clause-words c =
    let args = c.args in
    let refusals = start_refusals args.arena.now args.worker args.operation args.key args.length in
    rw (c.write_worker.ensures, c.started.ensures) (sym (judged_accepted refusals [] _ _ c.in_ok-start_verdict.ensures))
