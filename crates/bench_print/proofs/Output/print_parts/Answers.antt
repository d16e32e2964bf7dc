-- One part more.
use Rattle.bench_print.specs.Print.{part_text}
use Rattle.bench_print.proofs.PrintLaws.{prints_more}
use Rattle.bench_print.proofs.Output.print_parts.Goals as goal

pub loop-part-preserved : goal.loop-part-preserved
loop-part-preserved c =
    prints_more part_text c.args.parts.now c.loop-part.part-index _ c.loop-part-test.true c.loop-part.invariant c.print_part.ensures
