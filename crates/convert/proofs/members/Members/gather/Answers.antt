-- The visitor was shown all nodes of the set.
use Rattle.convert.proofs.Accepted.{ordered}
use Rattle.convert.proofs.Gathered.{all_gathered}
use Rattle.convert.proofs.members.Members.gather.Goals as goal

pub returns-clause-answer : goal.returns-clause-answer
returns-clause-answer c = let part = c.args.source.part in rw (part.0, part.1, c.requires.1) at c.in_ok-visit_labels.ensures.answer

pub returns-clause-members : goal.returns-clause-members
returns-clause-members c =
    let source = c.args.source in
    let told = rw (source.part.0, source.part.1, c.requires.1) at c.in_ok-visit_labels.ensures.visitor in
    rw told (all_gathered source.words.now (ordered source.has_lengths source.words.now source.tested).good c.args.self.now c.requires.0)
