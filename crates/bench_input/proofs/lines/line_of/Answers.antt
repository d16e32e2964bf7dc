-- Behind two numbers the last field decides.
use Rattle.std.proofs.Common.{sym}
use Rattle.bench_input.specs.Lines.{line_of}
use Rattle.bench_input.proofs.LineLaws.{last_field}
use Rattle.bench_input.proofs.lines.line_of.Goals as goal

pub returns-in_err-c : goal.returns-in_err-c
unfolding line_of
returns-in_err-c c =
    rw (
      c.in_ok-word.ensures.parts,
      c.in_ok-first.ensures.parts,
      c.in-Some.ensures.parts,
      last_field _ _ _ _ _ _ (sym c.in_ok-a.ensures) (sym c.in_ok-b.ensures),
      ← c.in_err-c.ensures,
    ) c.from_residual-in_err-c.ensures

pub returns : goal.returns
unfolding line_of
returns c =
    rw (
      c.in_ok-word.ensures.parts,
      c.in_ok-first.ensures.parts,
      c.in-Some.ensures.parts,
      last_field _ _ _ _ _ _ (sym c.in_ok-a.ensures) (sym c.in_ok-b.ensures),
      ← c.in_ok-c.ensures,
    ) c.long_line.ensures
