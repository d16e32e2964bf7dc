-- The number stands behind its text.
use Rattle.bench_print.proofs.PrintLaws.{prints_then}
use Rattle.bench_print.proofs.Output.print_part.Goals as goal

pub returns-in-Labelled : goal.returns-in-Labelled
returns-in-Labelled c = rw c.in-Labelled.is (prints_then c.print_text-in-Labelled.ensures c.print_number.ensures)
