-- The header's verdict, where it refuses; else that of the call.
use Rattle.std.proofs.Common.{[], sym, ◌∙◌}
use Rattle.std.proofs.lemmas.Result.{err_from_is_err_and}
use Rattle.words.specs.Header.{header_refusals}
use Rattle.words.proofs.Judged.{refused_first, accepted_first}
use Rattle.arena.specs.Start.{call_refusals, start_refusals}
use Rattle.arena.proofs.start_verdict.Goals as goal

pub returns-in_err-new : goal.returns-in_err-new
unfolding start_refusals
returns-in_err-new c =
    let args = c.args in
    let arena = args.arena.now in
    let call = call_refusals arena args.worker args.operation args.key args.length in
    let p = err_from_is_err_and c.from_residual.result c.from_residual.ensures.1 in rw (p.1, p.2) (sym (refused_first (header_refusals arena) call [] _ _ c.in_err-new.ensures.answer))

pub returns : goal.returns
unfolding start_refusals
returns c =
    let args = c.args in
    let arena = args.arena.now in
    let call = call_refusals arena args.worker args.operation args.key args.length in
    rw c.in_ok-new.ensures.words at c.call_verdict.ensures ∙ sym (accepted_first (header_refusals arena) call [] _ _ c.in_ok-new.ensures.answer)
