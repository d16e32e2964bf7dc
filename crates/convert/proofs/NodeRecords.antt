-- Node records, one behind the other by number: written one by one, and read back.
use Prim.Native.Nat.{ℕ, zero, suc, ◌+◌, ◌*◌, ◌-◌, ◌≤◌, ◌<◌}
use mathlib.Core.Path.{◌≡◌, refl, sym, ap, ◌∙◌}
use mathlib.Core.List.{List, ◌++◌, flatten}
use mathlib.Core.Bool.{Bool, true, false, cond}
use native.Mathlib.Omega.{arith}
use native.Mathlib.Nat.{zero-add, mul-zero, mul-suc, mul-le-mul_left}
use lib.ListN.{length, take, drop, length-drop, get_or-eq_default}
use lib.Seq.{sets, take-add, drop-drop, get_or-take, get_or-drop, length-take-le, take-length, ext_get_or}
use borrow.Author.Tests.{ltb-false}
use Rattle.std.specs.Prelude.{None}
use Rattle.worker.specs.Node.{with_length, unused_node}
use Rattle.worker.specs.declared.Node.{Node}
use Rattle.words.specs.Layout.{word, slot, node_length}
use Rattle.words.specs.Flat.{flat_words}
use Rattle.words.specs.Records.{node_words, found}
use Rattle.words.proofs.FlatLaws.{flat_at}
use Rattle.words.proofs.RecordLaws.{no_node_there, found_none}
use Rattle.words.proofs.Runs.{sets_append}
use Rattle.convert.specs.Layouts.{first_words, width, part_node}
use Rattle.arena.specs.Lists.{numbers_from}
use Rattle.arena.proofs.ListLaws.{numbers_on, numbers_length, numbers_at}

-- records that are the same for each number in a row
pub same_records : (f g : ℕ → List ℕ) (node left : ℕ) → ((n : ℕ) → n < node + left → f n ≡ g n) →
    flat_words f (numbers_from node left) ≡ flat_words g (numbers_from node left)
unfolding numbers_from flatten
same_records f g node zero same = refl
same_records f g node (suc left) same =
    rw (same node (omega arith)) (ap (λ rest. g node ++ rest) (same_records f g (suc node) left (λ n h. same n (omega arith))))

module _ (width : ℕ) (words : ℕ → List ℕ) (wide : (node : ℕ) → length (words node) ≡ width) where
  -- the record of the first node is written, and then the others
  pub written_on : (l : List ℕ) (node left : ℕ) → 0 < left →
      sets l (slot width node 0) (flat_words words (numbers_from node left))
      ≡ sets (sets l (slot width node 0) (words node)) (slot width (node + 1) 0) (flat_words words (numbers_from (node + 1) (left - 1)))
  unfolding flatten
  written_on l node left some =
      let next : slot width node 0 + length (words node) ≡ slot width (node + 1) 0 = rw (wide node) (omega (arith, mul-suc width node)) in
      rw (numbers_on node left some, sets_append (words node) (flat_words words (numbers_from (node + 1) (left - 1))) l (slot width node 0), next)

-- words cut into pieces of some width are their pieces
pieces : (width : ℕ) (l : List ℕ) (node left : ℕ) →
    flat_words (λ n. take width (drop (width * n) l)) (numbers_from node left) ≡ take (width * left) (drop (width * node) l)
unfolding numbers_from flatten
pieces width l node zero = rw mul-zero
pieces width l node (suc left) =
    let behind : width * node + width ≡ width * suc node = sym (mul-suc width node) in
    let all : width * suc left ≡ width + width * left = mul-suc width left ∙ omega arith in
    rw (pieces width l (suc node) left, all, take-add width (width * left) (drop (width * node) l), drop-drop width (width * node) l, behind)

-- a record has as many words as its width says, which is 4 or 5
pub first_long : (width : ℕ) (n : Node) → width ≤ 5 → length (first_words width n) ≡ width
first_long width n few = length-take-le width (node_words n) few

pub width_bounds : (has_lengths : Bool) → (4 ≤ width has_lengths) × (width has_lengths ≤ 5)
width_bounds true = (omega arith, omega arith)
width_bounds false = (omega arith, omega arith)

-- a node that there is not is read as zeros
pub gone : (has_lengths : Bool) (l : List ℕ) (count node : ℕ) → length l ≡ width has_lengths * count → count ≤ node → part_node has_lengths l node ≡ unused_node
unfolding part_node
gone has_lengths l count node long past =
    let far = mul-le-mul_left {m = count} {n = node} (width has_lengths) past in
    let none = no_node_there l (width has_lengths * node) (omega arith) in
    let last : word l (width has_lengths * node + node_length) ≡ 0 = get_or-eq_default l 0 (omega arith) in
    (λ i. with_length (none i) (cond has_lengths (last i) 0)) ∙ same has_lengths
  where
    same : (has_lengths : Bool) → with_length unused_node (cond has_lengths 0 0) ≡ unused_node
    same true = refl
    same false = refl

-- so it is where none is found
pub not_found : (has_lengths : Bool) (l : List ℕ) (count node : ℕ) → length l ≡ width has_lengths * count → found (part_node has_lengths l) count node ≡ None →
    part_node has_lengths l node ≡ unused_node
not_found has_lengths l count node long none = gone has_lengths l count node long (ltb-false node count (found_none (part_node has_lengths l) count node none))

-- a node as it stands in a layout
abbrev pub kept : Bool → Node → Node
kept has_lengths n = with_length n (cond has_lengths n.length 0)

-- the node of a number is read from records of some nodes, with its length where there is a word for it
pub part_back : (has_lengths : Bool) (node : ℕ → Node) (count n : ℕ) → n < count →
    part_node has_lengths (flat_words (λ m. first_words (width has_lengths) (node m)) (numbers_from 0 count)) n ≡ kept has_lengths (node n)
unfolding part_node
part_back has_lengths node count n there =
    λ i.
    record {
      key = field has_lengths 0 (omega (arith, width_bounds has_lengths)) i;
      next = field has_lengths 1 (omega (arith, width_bounds has_lengths)) i;
      mark = field has_lengths 2 (omega (arith, width_bounds has_lengths)) i;
      owner = field has_lengths 3 (omega (arith, width_bounds has_lengths)) i;
      length = longer has_lengths i;
    }
  where
    words : Bool → List ℕ
    words has_lengths = flat_words (λ m. first_words (width has_lengths) (node m)) (numbers_from 0 count)

    field : (has_lengths : Bool) (f : ℕ) → f < width has_lengths → word (words has_lengths) (slot (width has_lengths) n f) ≡ word (node_words (node n)) f
    field has_lengths f room =
        flat_at (λ m. first_words (width has_lengths) (node m)) (λ m. first_long (width has_lengths) (node m) (width_bounds has_lengths).1) (numbers_from 0 count) n f 0 (rw (numbers_length 0 count) there) room
        ∙ ap (λ m. word (first_words (width has_lengths) (node m)) f) (numbers_at 0 count n 0 there ∙ zero-add n)
        ∙ get_or-take (width has_lengths) (node_words (node n)) f 0 room

    longer : (has_lengths : Bool) → cond has_lengths (word (words has_lengths) (slot (width has_lengths) n 4)) 0 ≡ cond has_lengths (node n).length 0
    longer true = field true 4 (omega arith)
    longer false = refl

-- a node's record is the piece of the words where it stands
piece : (has_lengths : Bool) (l : List ℕ) (n : ℕ) → width has_lengths * n + width has_lengths ≤ length l →
    first_words (width has_lengths) (part_node has_lengths l n) ≡ take (width has_lengths) (drop (width has_lengths * n) l)
unfolding part_node
piece has_lengths l n room =
    ext_get_or 0 (first_words (width has_lengths) node) (take (width has_lengths) (drop (width has_lengths * n) l))
    (long ∙ sym (length-take-le (width has_lengths) (drop (width has_lengths * n) l) (rw length-drop (omega arith))))
    (λ field inside.
    let narrow : field < width has_lengths = omega (arith, long) in
    get_or-take (width has_lengths) (node_words node) field 0 narrow
    ∙ fields field narrow
    ∙ sym (get_or-take (width has_lengths) (drop (width has_lengths * n) l) field 0 narrow ∙ get_or-drop (width has_lengths * n) l field 0))
  where
    node : Node
    node = part_node has_lengths l n

    long : length (first_words (width has_lengths) node) ≡ width has_lengths
    long = first_long (width has_lengths) node (width_bounds has_lengths).1

    last : (has_lengths : Bool) (read : ℕ) → 4 < width has_lengths → cond has_lengths read 0 ≡ read
    last true read there = refl
    last false read there = absurd (omega arith)

    fields : (field : ℕ) → field < width has_lengths → word (node_words node) field ≡ word l (width has_lengths * n + field)
    fields zero inside = refl
    fields (suc zero) inside = refl
    fields (suc (suc zero)) inside = refl
    fields (suc (suc (suc zero))) inside = refl
    fields (suc (suc (suc (suc zero)))) inside = last has_lengths _ inside
    fields (suc (suc (suc (suc (suc more))))) inside = absurd (omega (arith, width_bounds has_lengths))

-- so node records are those of their nodes
pub nodes_written : (has_lengths : Bool) (l : List ℕ) (count : ℕ) → length l ≡ width has_lengths * count →
    flat_words (λ n. first_words (width has_lengths) (part_node has_lengths l n)) (numbers_from 0 count) ≡ l
nodes_written has_lengths l count long =
    let none : width has_lengths * 0 ≡ 0 = omega arith in
    same_records _ (λ n. take (width has_lengths) (drop (width has_lengths * n) l)) 0 count
    (λ n there. piece has_lengths l n (omega (arith, long, mul-suc (width has_lengths) n, mul-le-mul_left {m = suc n} {n = count} (width has_lengths) (omega arith))))
    ∙ pieces (width has_lengths) l 0 count
    ∙ rw (none, ← long) (take-length l)
