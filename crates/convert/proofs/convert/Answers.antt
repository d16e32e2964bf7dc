-- The header test comes first, then the other tests. Where nothing refuses, the converted arena is written over as many words.
use Rattle.std.proofs.Common.{[], not, sym, ◌∙◌, arith, length}
use native.Mathlib.Nat.{zero-add}
use lib.Seq.{sets-eq}
use Rattle.words.proofs.Judged.{none_holds, accepted_first, judged_refused, judged_accepted}
use Rattle.convert.specs.Layouts.{layout_refusals}
use Rattle.convert.specs.Convert.{conversion_refusals, convert_refusals, converted, convert_answer, convert_target}
use Rattle.convert.proofs.Accepted.{ordered, room_there, converted_long}
use Rattle.convert.proofs.convert.Goals as goal

pub returns-in_err-judge-clause-words : goal.returns-in_err-judge-clause-words
unfolding convert_target convert_refusals
returns-in_err-judge-clause-words c =
    let args = c.args in
    let rest = conversion_refusals args.lengthening args.source.now args.lengths.now (length args.target.now) in
    let refused = rw (c.in_ok-source.ensures.same.0, c.new-members.ensures.lent.0, c.new-members.ensures.lent.1) at c.in_err-judge.ensures.answer in
    sym (accepted_first (layout_refusals (not args.lengthening) args.source.now) rest [] _ _ c.in_ok-source.ensures.answer ∙ judged_refused rest [] _ _ refused)

pub write_converted-requires-clause-room : goal.write_converted-requires-clause-room
write_converted-requires-clause-room c =
    let args = c.args in
    let source = c.in_ok-source.source.words.now in
    let rest = conversion_refusals args.lengthening source args.lengths.now (length args.target.now) in
    let passed = rw (c.new-members.ensures.lent.0, c.new-members.ensures.lent.1) at c.in_ok-judge.ensures.answer in
    rw (c.in_ok-judge.ensures.members.lengthening_is, c.new-members.ensures.lent.0)
    (room_there args.lengthening source args.lengths.now (length args.target.now) (none_holds rest [] passed))

pub returns : goal.returns
unfolding convert_answer convert_target convert_refusals
returns c =
    let args = c.args in
    let source = args.source.now in
    let same = c.in_ok-source.ensures.same.0 in
    let rest = conversion_refusals args.lengthening source args.lengths.now (length args.target.now) in
    let way = c.new-members.ensures.lent.0 in
    let lent = c.new-members.ensures.lent.1 in
    let passed = rw (same, way, lent) at c.in_ok-judge.ensures.answer in
    let gathered = rw (same, way, lent) at c.in_ok-judge.ensures.members in
    let room = room_there args.lengthening source args.lengths.now (length args.target.now) (none_holds rest [] passed) in
    let long = converted_long args.lengthening source args.lengths.now (ordered (not args.lengthening) source c.in_ok-source.ensures.answer) in
    record {
      answer = sym (accepted_first (layout_refusals (not args.lengthening) source) rest [] _ _ c.in_ok-source.ensures.answer ∙ judged_accepted rest [] _ _ passed);
      words =
          rw (same, gathered.lengthening_is, gathered.lent) at c.write_converted.ensures
          ∙ sets-eq (converted args.lengthening source args.lengths.now) args.target.now 0 (omega (arith, long))
          ∙ rw (zero-add, long)
          (sym (accepted_first (layout_refusals (not args.lengthening) source) rest [] _ _ c.in_ok-source.ensures.answer ∙ judged_accepted rest [] _ _ passed));
    }
