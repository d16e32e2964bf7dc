-- The longer words, whose bytes are read one by one.
use Rattle.std.proofs.Common.{◌≡◌, Some, ap, arith}
use Rattle.std.specs.Prelude.{codes}
use Rattle.bench_input.specs.Lines.{command_line}
use Rattle.bench_input.proofs.ByteLaws.{bytes_listed}
use Rattle.bench_input.proofs.lines.command_line.Goals as goal

pub returns-in-remove : goal.returns-in-remove
unfolding command_line
returns-in-remove c =
    let bytes = bytes_listed c.args.word.now 6 (omega arith) in
    let word : c.args.word.now ≡ codes "remove" = cc in
    rw word (ap Some c.one_entry.ensures)

pub returns-in-contains : goal.returns-in-contains
unfolding command_line
returns-in-contains c =
    let bytes = bytes_listed c.args.word.now 8 (omega arith) in
    let word : c.args.word.now ≡ codes "contains" = cc in
    rw word (ap Some c.one_entry-in-contains.ensures)
