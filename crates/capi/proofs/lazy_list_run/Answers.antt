-- What a run answers, as one number and four totals; only a run that is done replies 0.
use Rattle.schedule.specs.Run.{totals_values}
use Rattle.capi.proofs.NumberLaws.{told_bare, zero_done}
use Rattle.capi.proofs.lazy_list_run.Goals as goal

pub returns : goal.returns
returns c =
    let s = c.run-summary.result in
    let ran = c.run-summary.ensures in
    record {
      number = rw (c.number.ensures.number, c.write_totals.ensures.answer, ran.answer);
      words = ran.words;
      calls = ran.calls;
      waits = ran.waits;
      totals = rw (c.write_totals.ensures.words, ran.answer);
      linearizable = λ zero. zero_done s _ _ _ (rw (told_bare totals_values s) (rw (c.number.ensures.number, c.write_totals.ensures.answer) at zero)) ran.linearizable;
    }
