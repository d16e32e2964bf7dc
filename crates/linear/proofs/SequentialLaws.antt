-- Laws of the sequential set, one for each of document 01's sentences on it.
use mathlib.Core.Path.{◌≡◌, ap}
use mathlib.Core.List.{List}
use mathlib.Core.Bool.{Bool, true, false}
use Rattle.worker.specs.Worker.{add, remove, contains}
use Rattle.worker.specs.declared.report.Answer.TheVariants.{Yes, No, Full}
use Rattle.arena.specs.declared.chain.Label.{Label}
use Rattle.arena.specs.Sets.{member}
use Rattle.linear.specs.Sequential.{including, excluding, responds, add_to, remove_from, look_in, response_to}

module _ (labels : List Label) (label : Label) where
  -- add, key absent: told full, it answers full and stays as it is; otherwise yes, and the key goes in, with its length
  pub add_absent : member label.key labels ≡ false → response_to labels add label false ≡ responds Yes (including label labels)
  unfolding response_to
  add_absent absent = ap (add_to labels label false) absent

  pub add_full : member label.key labels ≡ false → response_to labels add label true ≡ responds Full labels
  unfolding response_to
  add_full absent = ap (add_to labels label true) absent

  -- add, key present: no, whatever it was told
  pub add_present : (told_full : Bool) → member label.key labels ≡ true → response_to labels add label told_full ≡ responds No labels
  unfolding response_to
  add_present told_full present = ap (add_to labels label told_full) present

  -- remove: present, yes, and the key goes out; absent, no
  pub remove_present : (told_full : Bool) → member label.key labels ≡ true → response_to labels remove label told_full ≡ responds Yes (excluding label.key labels)
  unfolding response_to
  remove_present told_full present = ap (remove_from labels label.key) present

  pub remove_absent : (told_full : Bool) → member label.key labels ≡ false → response_to labels remove label told_full ≡ responds No labels
  unfolding response_to
  remove_absent told_full absent = ap (remove_from labels label.key) absent

  -- contains: yes if present, else no; nothing changes
  pub contains_present : (told_full : Bool) → member label.key labels ≡ true → response_to labels contains label told_full ≡ responds Yes labels
  unfolding response_to
  contains_present told_full present = ap (look_in labels) present

  pub contains_absent : (told_full : Bool) → member label.key labels ≡ false → response_to labels contains label told_full ≡ responds No labels
  unfolding response_to
  contains_absent told_full absent = ap (look_in labels) absent
