-- The sequential set (document 01: the plain set): its labels as a list that rises by key.
use Rattle.std.specs.Prelude.{ℕ, List, [], ◌∷◌, Bool, cond, ltb, eqb}
use Rattle.worker.specs.Worker.{add, remove}
use Rattle.worker.specs.Report.{answer_number}
use Rattle.worker.specs.declared.report.Answer.{Answer}
use Rattle.worker.specs.declared.report.Answer.TheVariants.{Yes, No, Full}
use Rattle.arena.specs.declared.chain.Label.{Label}
use Rattle.arena.specs.Sets.{member}
use Rattle.linear.specs.History.{Call}

-- the labels with one more, in its place, and without the one of a key
unfoldable pub including : Label → List Label → List Label
including label [] = label ∷ []
including label (other ∷ labels) =
    let later = including label labels in cond (ltb label.key other.key) (label ∷ other ∷ labels) (other ∷ later)

unfoldable pub excluding : ℕ → List Label → List Label
excluding key [] = []
excluding key (other ∷ labels) = let later = excluding key labels in cond (eqb key other.key) later (other ∷ later)

-- what the set answers, and its labels afterwards
pub record Response : Type 0 where
  pub answer : ℕ
  pub labels : List Label

abbrev pub responds : Answer → List Label → Response
responds answer labels = record { answer = answer_number answer; labels = labels }

-- add, key absent: told full, it answers full and stays as it is; otherwise yes, and the key goes in, with the length of this add. Key
-- present: no, whatever it was told
abbrev pub add_to : List Label → Label → Bool → Bool → Response
add_to labels label told_full present =
    cond present (responds No labels) (cond told_full (responds Full labels) (responds Yes (including label labels)))

-- remove: present, yes, and the key goes out; absent, no
abbrev pub remove_from : List Label → ℕ → Bool → Response
remove_from labels key present = cond present (responds Yes (excluding key labels)) (responds No labels)

-- contains: yes if present, else no; nothing changes
abbrev pub look_in : List Label → Bool → Response
look_in labels present = cond present (responds Yes labels) (responds No labels)

-- what it is fed of a call: operation, key and length as its start carries them, and whether an add's answer is full
unfoldable pub response_to : List Label → ℕ → Label → Bool → Response
response_to labels operation label told_full =
    let present = member label.key labels in
    cond (eqb operation add) (add_to labels label told_full present)
    (cond (eqb operation remove) (remove_from labels label.key present) (look_in labels present))

abbrev pub label_of : Call → Label
label_of call = record { key = call.key; length = call.length }

abbrev pub fed : List Label → Call → Response
fed labels call = response_to labels call.operation (label_of call) (eqb call.answer (answer_number Full))

-- calls one after another: the set's answers, and its labels at the end
unfoldable pub answers_to : List Label → List Call → List ℕ
answers_to labels [] = []
answers_to labels (call ∷ calls) = let response = fed labels call in response.answer ∷ answers_to response.labels calls

unfoldable pub labels_after : List Label → List Call → List Label
labels_after labels [] = labels
labels_after labels (call ∷ calls) = labels_after (fed labels call).labels calls
