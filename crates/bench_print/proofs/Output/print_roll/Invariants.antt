-- The keys so far are printed.
use lib.ListN.{take}
use Rattle.bench_print.specs.Print.{Prints, keys_text}
use Rattle.bench_print.proofs.Output.print_roll.Given as goal

abbrev pub invariant-loop-key : goal.invariant-loop-key
invariant-loop-key l = Prints (keys_text (take l.key-index l.keys)) l.initial.self l.self
