-- One wait more; and the loop goes over all waits of the call.
use mathlib.Core.List.{[], ◌∷◌, map}
use mathlib.Core.Path.{◌≡◌}
use Rattle.std.specs.List.{filter}
use denote.Ref.{Bor}
use Rattle.schedule.specs.declared.Wait.{Wait}
use Rattle.std.proofs.Common.{rules}
use borrow.Author.Tests.{tests}
use Rattle.std.proofs.lemmas.List.{map-append}
use Rattle.std.proofs.lemmas.Iterator.{YieldsList-from_slice}
use Rattle.std.proofs.lemmas.Iterator.Consumers.{YieldsList-from_filter, YieldsList-at, YieldsList-end}
use Rattle.bench_print.specs.Print.{wait_text}
use Rattle.bench_print.proofs.PrintLaws.{prints_next}
use Rattle.bench_run.specs.Output.{is_wait_of}
use Rattle.bench_run.proofs.print_waits.Goals as goal

pub loop-wait-preserved : goal.loop-wait-preserved
loop-wait-preserved c =
    let now : Bor Wait → Wait = λ w. w.now in
    rw (map-append now c.loop-wait.yielded (c.in-Some.wait ∷ []))
    (prints_next wait_text (map now c.loop-wait.yielded) c.in-Some.wait.now c.loop-wait.invariant c.print_wait.ensures)

pub returns : goal.returns
returns c =
    let now : Bor Wait → Wait = λ w. w.now in
    let all : map now c.loop-wait.yielded ≡ filter (is_wait_of c.args.call) c.args.waits.now =
    (YieldsList-end
    (YieldsList-at c.into_iter-wait-iterator.ensures.into_iter_gives
    (YieldsList-from_filter _ (is_wait_of c.args.call) (YieldsList-from_slice c.args.waits.now cc)
    c.filter-wait-items.ensures.closure (λ x r q k. search (rules, tests))))
    c.loop-wait.yielded _ c.loop-wait.yielded_by _ _ c.in-None.is c.next.ensures.steps).0 in
    rw (← all) c.loop-wait.invariant
