-- Line 1 decides whether the other lines are read.
use Rattle.std.proofs.Common.{◌≡◌, None, Err, [], ◌∷◌, sym, ◌∙◌, arith}
use Rattle.bench_input.specs.Bytes.{line_feed, parts}
use Rattle.bench_input.specs.Input.{counts_of}
use Rattle.bench_input.proofs.InputLaws.{nothing_written, too_long, no_line, first_line}
use Rattle.bench_input.proofs.input.parse.Goals as goal

pub returns-then-input-gt-MOST_BYTES : goal.returns-then-input-gt-MOST_BYTES
returns-then-input-gt-MOST_BYTES c =
    let both = nothing_written _ _ 0 (too_long _ c.if-input-gt-MOST_BYTES.true) in
    record { answer = both.0; words = both.1 }

pub returns-in_err-first : goal.returns-in_err-first
returns-in_err-first c =
    let whole : parts line_feed c.args.input.now ≡ c.args.input.now ∷ [] = rw c.in_err-first.ensures.ok_part at c.split_once.ensures.parts in
    let failed : c.from_residual.result ≡ Err (record { 0 = 1 }) = grind arith in
    let both = nothing_written _ _ 1 (no_line _ c.if-input-gt-MOST_BYTES.false whole) in
    record { answer = failed ∙ both.0; words = both.1 }

pub returns-in_err-workers : goal.returns-in_err-workers
returns-in_err-workers c =
    let cut = rw c.in_ok-first.ensures.ok_part at c.split_once.ensures.parts in
    let none : counts_of c.in_ok-first.first.now ≡ None = sym c.counts_of.ensures ∙ c.in_err-workers.ensures.ok_part in
    let failed : c.from_residual-in_err-workers.result ≡ Err (record { 0 = 1 }) = grind arith in
    let both = nothing_written _ _ 1 (first_line _ c.if-input-gt-MOST_BYTES.false _ _ cut ∙ rw none) in
    record { answer = failed ∙ both.0; words = both.1 }

pub returns : goal.returns
returns c =
    let cut = rw c.in_ok-first.ensures.ok_part at c.split_once.ensures.parts in
    let counts = sym c.counts_of.ensures ∙ c.in_ok-workers.ensures.ok_part in
    rw (first_line _ c.if-input-gt-MOST_BYTES.false _ _ cut, counts) c.parse_entries.ensures
