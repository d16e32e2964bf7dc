-- The calls so far are printed, each with its waits.
use lib.ListN.{take}
use Rattle.bench_print.specs.Print.{Prints}
use Rattle.bench_run.specs.Output.{calls_text}
use Rattle.bench_run.proofs.print_calls.Given as goal

abbrev pub invariant-loop-number : goal.invariant-loop-number
invariant-loop-number l = Prints (calls_text l.waits 0 (take l.number l.calls)) l.initial.out l.out
