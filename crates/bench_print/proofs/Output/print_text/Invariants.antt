-- The bytes so far are printed.
use lib.ListN.{take}
use Rattle.bench_print.specs.Print.{Prints}
use Rattle.bench_print.proofs.Output.print_text.Given as goal

abbrev pub invariant-loop-byte : goal.invariant-loop-byte
invariant-loop-byte l = Prints (take l.byte-index l.byte-items) l.initial.self l.self
