-- The call's waits so far are printed.
use mathlib.Core.List.{map}
use Rattle.std.specs.List.{flat_map}
use Rattle.bench_print.specs.Print.{Prints, wait_text}
use Rattle.bench_run.proofs.print_waits.Given as goal

abbrev pub invariant-loop-wait : goal.invariant-loop-wait
invariant-loop-wait l = Prints (flat_map wait_text (map (λ w. w.now) l.yielded)) l.initial.out l.out
