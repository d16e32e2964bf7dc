-- A field of a node as a word of an arena, and what an effect makes of it.
use Prim.Native.Nat.{ℕ, ◌+◌, ◌*◌, ◌-◌, ◌≤◌, ◌<◌}
use mathlib.Core.Path.{◌≡◌, refl, ◌∙◌}
use mathlib.Core.List.{List}
use mathlib.Core.Bool.{Bool, true, false, cond}
use native.Mathlib.Omega.{arith}
use native.Mathlib.Nat.{mul-le-mul_left}
use native.Mathlib.Decide.{ℕ_discrete}
use lib.ListN.{length, drop, set, length-take, get_or-eq_default}
use lib.Seq.{sets, get_or-take, get_or-drop, get_or-set_same, get_or-set_other}
use lib.Dec.{eqb}
use borrow.Author.Tests.{eq-eqb, ne_eqb}
use Rattle.worker.specs.Node.{new_node}
use Rattle.worker.specs.declared.Node.{Node}
use Rattle.worker.specs.declared.report.Effect.{Effect}
use Rattle.worker.specs.declared.report.Effect.TheVariants.{Nothing, SetOwner, SetNext, SetMark, Fill}
use Rattle.worker.proofs.EffectLaws.{EffectBelow}
use Rattle.words.specs.Layout.{word, nodes_of, nodes_from_of, total_of, node_width, node_key, node_next, node_mark, node_owner, node_length, node_part, node_from, slot}
use Rattle.words.specs.Records.{node_words, with_node}
use Rattle.words.proofs.HeaderLaws.{Header}
use Rattle.words.proofs.Slots.{slot_same}
use Rattle.words.proofs.Runs.{sets_outside, sets_at}
use Rattle.lazy.specs.Turn.{with_effect}
use Rattle.lazy.proofs.InsideLaws.{field_inside}
use Rattle.linear.proofs.State.{word_after}

-- a field of a node, read from the node records
abbrev pub field_in : List ℕ → ℕ → ℕ → ℕ
field_in arena node field = word (node_part arena) (slot node_width node field)

module _ (arena : List ℕ) (header : Header arena) where
  -- a field of a node that there is stands in its place of the arena
  pub field_word : (node field : ℕ) → node < nodes_of arena → field < node_width →
      field_in arena node field ≡ word arena (node_from arena node field)
  unfolding node_part node_from
  field_word node field below fits =
      let inside = field_inside arena node field header below fits in
      let at = slot node_width node field in
      get_or-take (total_of arena - nodes_from_of arena) (drop (nodes_from_of arena) arena) at 0 (omega arith)
      ∙ get_or-drop (nodes_from_of arena) arena at 0

  -- of a node that there is not, every field is read as 0
  pub no_field : (node field : ℕ) → nodes_of arena ≤ node → field_in arena node field ≡ 0
  unfolding node_part
  no_field node field far =
      let past : node_width * nodes_of arena ≤ node_width * node = mul-le-mul_left node_width far in
      let room = total_of arena - nodes_from_of arena in
      let most = length-take room (drop (nodes_from_of arena) arena) in
      get_or-eq_default (node_part arena) 0 (omega (arith, most, header.from, header.end))

  -- two places of fields are the same only where node and field are
  field_same : (n m f g : ℕ) → f < node_width → g < node_width → node_from arena n f ≡ node_from arena m g → (n ≡ m) × (f ≡ g)
  unfolding node_from
  field_same n m f g fits room same = slot_same node_width n m f g fits room (omega arith)

  -- with a field of a node set, that field is the value, and every other as it was
  field_set : (node field value n f : ℕ) → node < nodes_of arena → field < node_width → f < node_width →
      word (set arena (node_from arena node field) value) (node_from arena n f)
      ≡ cond (eqb f field) (cond (eqb n node) value (word arena (node_from arena n f))) (word arena (node_from arena n f))
  field_set node field value n f below fits room =
      elim (ℕ_discrete f field) [
        | no q ↦ rw (ne_eqb f field q) (other (λ same. q (field_same n node f field room fits same).1))
        | yes q ↦ elim (ℕ_discrete n node) [
          | no r ↦ rw (eq-eqb f field q, ne_eqb n node r) (other (λ same. r (field_same n node f field room fits same).0))
          | yes r ↦ rw (eq-eqb f field q, eq-eqb n node r, q, r) own
        ]
      ]
    where
      other : (node_from arena n f ≡ node_from arena node field → ⊥) →
          word (set arena (node_from arena node field) value) (node_from arena n f) ≡ word arena (node_from arena n f)
      other out = get_or-set_other arena (node_from arena node field) (node_from arena n f) value 0 out

      own : word (set arena (node_from arena node field) value) (node_from arena node field) ≡ value
      own =
          let inside = field_inside arena node field header below fits in
          get_or-set_same arena (node_from arena node field) value 0 (omega (arith, header.whole))

  -- with all fields of a node set, those are the new node's, and all others as they were
  node_set : (node : ℕ) (to : Node) (n f : ℕ) → node < nodes_of arena → f < node_width →
      word (with_node arena node to) (node_from arena n f)
      ≡ cond (eqb n node) (word (node_words to) f) (word arena (node_from arena n f))
  unfolding with_node node_from
  node_set node to n f below room =
      elim (ℕ_discrete n node) [
        | no q ↦ rw (ne_eqb n node q)
            (sets_outside words arena (node_from arena node node_key) (node_from arena n f)
            (λ k h same. q (field_same n node f k room h (omega arith)).0))
        | yes q ↦ rw (eq-eqb n node q, q) own
      ]
    where
      words : List ℕ
      words = node_words to

      own : word (sets arena (node_from arena node node_key) words) (node_from arena node f) ≡ word words f
      own =
          let last = field_inside arena node node_length header below (omega arith) in
          let place : node_from arena node f ≡ node_from arena node node_key + f = omega arith in
          rw place (sets_at words arena (node_from arena node node_key) f (omega arith) (omega (arith, header.whole)))

  -- an effect makes of every field what `word_after` says
  pub effect_word : (e : Effect) (n f : ℕ) → EffectBelow (nodes_of arena) e → f < node_width →
      word (with_effect arena e) (node_from arena n f) ≡ word_after e n f (word arena (node_from arena n f))
  unfolding with_effect
  effect_word Nothing n f below room = refl
  effect_word (SetOwner node owner) n f below room = field_set node node_owner owner n f below (omega arith) room
  effect_word (SetNext node next) n f below room = field_set node node_next next n f below (omega arith) room
  effect_word (SetMark node) n f below room = field_set node node_mark 1 n f below (omega arith) room
  effect_word (Fill node key next length) n f below room = node_set node (new_node key next length) n f below room

-- two cases with one outcome
same_word : (t : Bool) (old : ℕ) → cond t old old ≡ old
same_word true old = refl
same_word false old = refl

-- of a node that there is not, an effect leaves what was read
pub word_stays : (count : ℕ) (e : Effect) (n f old : ℕ) → EffectBelow count e → count ≤ n → word_after e n f old ≡ old
word_stays count Nothing n f old below far = refl
word_stays count (SetOwner node owner) n f old below far = rw (ne_eqb n node (omega arith)) (same_word (eqb f node_owner) old)
word_stays count (SetNext node next) n f old below far = rw (ne_eqb n node (omega arith)) (same_word (eqb f node_next) old)
word_stays count (SetMark node) n f old below far = rw (ne_eqb n node (omega arith)) (same_word (eqb f node_mark) old)
word_stays count (Fill node key next length) n f old below far = rw (ne_eqb n node (omega arith))
