-- The parts so far are printed.
use lib.ListN.{take}
use Rattle.std.specs.List.{flat_map}
use Rattle.bench_print.specs.Print.{Prints, part_text}
use Rattle.bench_print.proofs.Output.print_parts.Given as goal

abbrev pub invariant-loop-part : goal.invariant-loop-part
invariant-loop-part l = Prints (flat_map part_text (take l.part-index l.parts)) l.initial.self l.self
