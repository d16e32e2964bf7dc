use mathlib.Core.List.{append_assoc}
use Rattle.bench_print.specs.Print.{call_text}
use Rattle.bench_print.proofs.Output.print_call.Goals as goal

pub returns : goal.returns
unfolding call_text
returns c = simp (append_assoc, ← c.operation_word.ensures, ← c.answer_word.ensures) (simp append_assoc at c.print_parts.ensures)
