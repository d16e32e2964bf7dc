-- One call more, with its waits.
use Rattle.history.specs.Rows.{no_call}
use Rattle.bench_print.proofs.PrintLaws.{prints_none, prints_then}
use Rattle.bench_run.specs.Output.{calls_text}
use Rattle.bench_run.proofs.CallLaws.{calls_more}
use Rattle.bench_run.proofs.print_calls.Goals as goal

pub loop-number-init : goal.loop-number-init
unfolding calls_text
loop-number-init c = prints_none _

pub loop-number-preserved : goal.loop-number-preserved
loop-number-preserved c =
    let loop = c.loop-number in
    rw (calls_more c.args.waits.now c.args.calls.now loop.number no_call c.loop-number-test.true)
    (prints_then loop.invariant (prints_then c.print_call.ensures c.print_waits.ensures))
