-- One key more; and the word, the keys, and LF.
use lib.Seq.{take_all}
use Rattle.bench_print.specs.Print.{labelled, roll_text}
use Rattle.bench_print.proofs.PrintLaws.{prints_then, prints_more}
use Rattle.bench_print.proofs.Output.print_roll.Goals as goal

pub loop-key-preserved : goal.loop-key-preserved
loop-key-preserved c =
    prints_more (labelled " ") c.args.keys.now c.loop-key.key-index _ c.loop-key-test.true c.loop-key.invariant c.print_part.ensures

pub returns : goal.returns
unfolding roll_text
returns c =
    let keys = rw (take_all c.loop-key.key-index c.args.keys.now c.loop-key-test.false) at c.loop-key.invariant in
    prints_then (prints_then c.print_text.ensures keys) c.print_text-2.ensures
