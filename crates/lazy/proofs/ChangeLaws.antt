-- What a step's changes of the nodes and of the count write, and what they leave.
use Prim.Native.Nat.{ℕ, ◌<◌, ◌≤◌}
use mathlib.Core.Path.{◌≡◌, refl, ap, ◌∙◌}
use mathlib.Core.Logic.{◌≢◌}
use mathlib.Core.List.{List, [], ◌∷◌}
use native.Mathlib.Omega.{arith}
use lib.ListN.{length, length-set}
use lib.Seq.{sets, length-sets, set-get_or, get_or-set_same, get_or-set_other}
use Rattle.worker.specs.Node.{head, new_node}
use Rattle.worker.specs.Stages.{grown}
use Rattle.worker.specs.declared.report.Step.{Step}
use Rattle.worker.specs.declared.report.Effect.{Effect}
use Rattle.worker.specs.declared.report.Effect.TheVariants.{Nothing, SetOwner, SetNext, SetMark, Fill}
use Rattle.worker.specs.declared.report.Growth.{Growth}
use Rattle.worker.specs.declared.report.Growth.TheVariants.{Stays, OneMore, OneLess}
use Rattle.words.specs.Layout.{word, nodes_of, nodes_from_of, stored_of, most_stored, stored_at, node_key, node_next, node_mark, node_owner, node_from}
use Rattle.words.specs.Records.{node_words, with_node}
use Rattle.words.proofs.HeaderLaws.{Header}
use Rattle.words.proofs.Runs.{sets_outside}
use Rattle.lazy.specs.Turn.{with_effect, with_growth, with_changes}
use Rattle.lazy.specs.Claims.{Recounts}

-- an effect writes a run of words, from a field of a node on
effect_run : (arena : List ℕ) (e : Effect) →
    (node : ℕ) × (field : ℕ) × (values : List ℕ) × (with_effect arena e ≡ sets arena (node_from arena node field) values)
unfolding with_effect with_node
effect_run arena Nothing = (head, node_key, [], refl)
effect_run arena (SetOwner node owner) = (node, node_owner, owner ∷ [], refl)
effect_run arena (SetNext node next) = (node, node_next, next ∷ [], refl)
effect_run arena (SetMark node) = (node, node_mark, 1 ∷ [], refl)
effect_run arena (Fill node key next length) = (node, node_key, node_words (new_node key next length), refl)

-- so the arena is as long as before
pub effect_long : (arena : List ℕ) (e : Effect) → length (with_effect arena e) ≡ length arena
effect_long arena e = let run = effect_run arena e in ap length run.3 ∙ length-sets arena _ run.2

-- and what stands before the node records stays
pub effect_before : (arena : List ℕ) (e : Effect) (at : ℕ) → at < nodes_from_of arena → word (with_effect arena e) at ≡ word arena at
unfolding node_from
effect_before arena e at before =
    let run = effect_run arena e in
    ap (λ (words : List ℕ). word words at) run.3
    ∙ sets_outside run.2 arena (node_from arena run.0 run.1) at (λ k h same. omega arith)

-- where the count stays, so does the arena
pub count_stays : (arena : List ℕ) → with_growth arena Stays ≡ arena
unfolding with_growth
count_stays arena = set-get_or arena stored_at 0

-- a change of the count writes its word alone
growth_long : (arena : List ℕ) (g : Growth) → length (with_growth arena g) ≡ length arena
unfolding with_growth
growth_long arena g = length-set arena stored_at (grown g (stored_of arena))

-- every other word stays
pub growth_off : (arena : List ℕ) (g : Growth) (at : ℕ) → at ≢ stored_at → word (with_growth arena g) at ≡ word arena at
unfolding with_growth
growth_off arena g at off = get_or-set_other arena stored_at at (grown g (stored_of arena)) 0 off

pub recounted : (g : Growth) (at : ℕ) → Recounts g at → at ≡ stored_at
recounted Stays at counts = absurd counts
recounted OneMore at counts = counts
recounted OneLess at counts = counts

pub growth_leaves : (arena : List ℕ) (g : Growth) (at : ℕ) → (Recounts g at → ⊥) → word (with_growth arena g) at ≡ word arena at
growth_leaves arena Stays at out = ap (λ (words : List ℕ). word words at) (count_stays arena)
growth_leaves arena OneMore at out = growth_off arena OneMore at out
growth_leaves arena OneLess at out = growth_off arena OneLess at out

-- a change that leaves the count of an arena within its ends
abbrev pub CountFits : List ℕ → Growth → Type 0
CountFits arena g = grown g (stored_of arena) ≤ most_stored (nodes_of arena)

module _ (arena : List ℕ) (step : Step) where
  -- all changes leave the arena as long, and what stands before the node records but for the count
  pub changes_long : length (with_changes arena step) ≡ length arena
  changes_long = growth_long (with_effect arena step.effect) step.growth ∙ effect_long arena step.effect

  pub changes_before : (at : ℕ) → at < nodes_from_of arena → at ≢ stored_at → word (with_changes arena step) at ≡ word arena at
  changes_before at before off = growth_off (with_effect arena step.effect) step.growth at off ∙ effect_before arena step.effect at before

  -- and the count is as the step says
  pub changes_count : Header arena → stored_of (with_changes arena step) ≡ grown step.growth (stored_of arena)
  unfolding with_growth
  changes_count header =
      get_or-set_same (with_effect arena step.effect) stored_at _ 0 (omega (arith, effect_long arena step.effect, header.long))
      ∙ ap (grown step.growth) (effect_before arena step.effect stored_at (omega (arith, header.from)))
