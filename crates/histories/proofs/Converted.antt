-- A converted arena is sound and at rest, and its set is that of the arena that it was made from.
use mathlib.Core.Path.{subst, ◌∙◌}
use mathlib.Core.List.{List}
use mathlib.Core.Bool.{true}
use Rattle.arena.specs.declared.chain.Label.{Label}
use Rattle.convert.specs.Convert.{to_layout_2_target}
use Rattle.convert.proofs.AtRest.{same_labels, saved_in_2, stays_at_rest}
use Rattle.convert.proofs.Laws.{converts}
use Rattle.linear.specs.Works.{WorksFrom}
use Rattle.linear.proofs.Theorem.{from_rest}
use Rattle.histories.specs.Converted.{GoesOn}

pub goes_on : GoesOn
goes_on source lengths target entries rest accepts =
    let new = to_layout_2_target source lengths target in
    subst (λ (begins : List Label). WorksFrom begins new entries) (same_labels new ∙ (converts true source lengths target accepts).labels_are)
    (from_rest new entries ((saved_in_2 new).0 (stays_at_rest true source lengths target accepts rest)))
