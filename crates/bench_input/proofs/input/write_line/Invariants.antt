-- The invariant: the copies so far are written.
use Rattle.std.proofs.Common.{◌≡◌, ◌*◌, replicate}
use Rattle.std.proofs.lemmas.List.Edits.{sets}
use Rattle.words.specs.Flat.{flat_words}
use Rattle.words.specs.Entries.{entry_width, entry_words}
use Rattle.bench_input.proofs.input.write_line.Given as goal

abbrev pub invariant-loop-copy : goal.invariant-loop-copy
invariant-loop-copy l = l.schedule ≡ sets l.initial.schedule (entry_width * l.entries) (flat_words entry_words (replicate l.copy l.entry))
