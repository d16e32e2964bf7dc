-- What the verdict says decides the definitions; where it accepts, the fresh words are written.
use Rattle.std.proofs.Common.{[], sym, ◌∙◌}
use Rattle.words.proofs.Judged.{judged_refused, judged_accepted}
use Rattle.arena.specs.Init.{init_refusals, init_arena}
use Rattle.arena.proofs.FreshLaws.{init_passed, init_words}
use Rattle.arena.proofs.init.Goals as goal

pub returns-in_err-counts-clause-words : goal.returns-in_err-counts-clause-words
unfolding init_arena
returns-in_err-counts-clause-words c =
    let args = c.args in
    sym (judged_refused (init_refusals args.arena.now args.workers args.nodes) [] _ _ c.in_err-counts.ensures.answer)

pub write_fresh-requires : goal.write_fresh-requires
write_fresh-requires c =
    let told = c.in_ok-counts.ensures in
    let same = told.counts in
    rw (same.0, same.1) (init_passed c.args.arena.now c.args.workers c.args.nodes told.answer).1

pub returns-clause-words : goal.returns-clause-words
unfolding init_arena
returns-clause-words c =
    let args = c.args in
    let told = c.in_ok-counts.ensures in
    let same = told.counts in
    rw (same.0, same.1) at c.write_fresh.ensures
    ∙ init_words args.arena.now args.workers args.nodes told.answer
    ∙ sym (judged_accepted (init_refusals args.arena.now args.workers args.nodes) [] _ _ told.answer)
