-- The invariant: the records before this one are filled in.
use Rattle.std.proofs.Common.{◌≡◌}
use Rattle.words.specs.Flat.{record_in}
use Rattle.history.specs.Rows.{filled_row}
use Rattle.history.proofs.fill.Given as goal

abbrev pub invariant-loop-number : goal.invariant-loop-number
invariant-loop-number g l = l.row ≡ filled_row (record_in g.row.WIDTH g.R.Record.first l.words) l.number l.initial.row
