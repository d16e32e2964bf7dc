-- A byte is written where there is room.
use mathlib.Core.Path.{refl, sym}
use mathlib.Core.List.{[], ◌∷◌}
use lib.ListN.{get_or}
use native.Mathlib.Omega.{arith}
use Rattle.std.proofs.lemmas.List.{take_more}
use Rattle.words.proofs.Runs.{sets_out}
use Rattle.bench_print.proofs.PrintLaws.{prints_then}
use Rattle.bench_print.proofs.Output.print_text.Goals as goal
use Rattle.bench_print.proofs.Output.print_text.Goals.{then-self, else-self}

pub loop-byte-preserved : goal.loop-byte-preserved
loop-byte-preserved c =
    let loop = c.loop-byte in
    let items = c.as_bytes-byte-items.result.now in
    rw (take_more items loop.byte-index 0 c.loop-byte-test.true)
    (elim c.if-self.branch [
      | then-self w ↦ rw w.self-is
          (prints_then loop.invariant (record { same_reference = refl; printed = record { bytes = refl; place = omega arith } }))
      | else-self w ↦ rw w.self-is
          (prints_then loop.invariant (record {
            same_reference = refl;
            printed = record { bytes = sym (sets_out (get_or items loop.byte-index 0 ∷ []) _ _ w.if-self.false); place = omega arith };
          }))
    ])
