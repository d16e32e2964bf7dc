-- The header's refusal, no such worker, or the worker's own turn.
use mathlib.Core.Path.{sym, ◌∙◌}
use mathlib.Core.List.{[]}
use native.Mathlib.Numerals.{add-one}
use borrow.Author.Tests.{le-leb, lt-leb, ltb-true, ltb-false}
use Rattle.std.proofs.lemmas.Result.{err_from_is_err_and}
use Rattle.words.specs.Header.{header_refusals}
use Rattle.words.specs.Layout.{workers_of}
use Rattle.words.specs.Records.{worker_at}
use Rattle.words.proofs.RecordLaws.{found_is, found_none}
use Rattle.words.proofs.Judged.{refused_first, accepted_first}
use Rattle.lazy.specs.Turn.{worker_refusals, turn_on}
use Rattle.lazy.proofs.turned.Goals as goal

pub returns-in_err-arena : goal.returns-in_err-arena
unfolding turn_on worker_refusals
returns-in_err-arena c =
    let p = err_from_is_err_and c.from_residual.result c.from_residual.ensures.1 in
    rw (p.1, p.2) (sym (refused_first (header_refusals c.args.arena.now) _ [] _ _ c.in_err-arena.ensures.answer))

pub returns-in_default : goal.returns-in_default
unfolding turn_on worker_refusals
returns-in_default c =
    let passed = c.in_ok-arena.ensures in
    let arena = c.in_ok-arena.arena.words.now in
    let none = found_none (worker_at arena) (workers_of arena) c.args.worker (sym c.worker.ensures ∙ c.in_default.is) in
    rw (
      accepted_first (header_refusals c.args.arena.now) _ [] _ _ passed.answer,
      ← passed.words,
      le-leb _ _ (ltb-false _ _ none),
    )

pub returns : goal.returns
unfolding turn_on worker_refusals
returns c =
    let passed = c.in_ok-arena.ensures in
    let arena = c.in_ok-arena.arena.words.now in
    let one = found_is (worker_at arena) (workers_of arena) c.args.worker c.in-Some.state (sym c.worker.ensures ∙ c.in-Some.is) in
    rw (
      accepted_first (header_refusals c.args.arena.now) _ [] _ _ passed.answer,
      ← passed.words,
      lt-leb _ _ (ltb-true _ _ one.0),
      c.counted.ensures,
      c.turn.ensures,
      one.1,
      add-one,
    )
