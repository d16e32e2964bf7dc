-- What has been gathered once all nodes of a set have been shown.
use Prim.Native.Nat.{ℕ, suc, ◌+◌, ◌≤◌, ◌<◌, min}
use mathlib.Core.Path.{◌≡◌, refl, sym, ap, ◌∙◌}
use mathlib.Core.List.{List, [], ◌∷◌}
use mathlib.Core.Bool.{Bool, true, false, ◌&&◌, ◌||◌}
use native.Mathlib.Omega.{arith}
use native.Mathlib.Decide.{ℕ_discrete}
use lib.ListN.{length, get_or, set, length-set, length-replicate, get_or-replicate}
use lib.Seq.{get_or-set_same, get_or-set_other}
use lib.Dec.{eqb}
use borrow.Author.Tests.{eq-eqb, ne_eqb}
use Rattle.std.specs.List.{list_all}
use Rattle.std.proofs.Math.Bool.{and_assoc, and-true, or-false}
use Rattle.worker.specs.Worker.{among}
use Rattle.worker.specs.declared.Node.{Node}
use Rattle.words.specs.Layout.{workers_of, nodes_of}
use Rattle.words.proofs.Bounds.{Counts}
use Rattle.arena.specs.Sets.{shown, label_at}
use Rattle.arena.proofs.ShortChains.{set_few}
use Rattle.convert.specs.declared.members.Members.{Members}
use Rattle.convert.specs.Convert.{fits, length_in_2, source_node, source_set}
use Rattle.convert.specs.Members.{IsEmpty, gathered, AllGathered}

-- a row with one mark more
marked_at : (row : List Bool) (place node : ℕ) → node < length row → get_or (set row place true) node false ≡ (eqb place node || get_or row node false)
marked_at row place node there =
    elim (ℕ_discrete place node) [
      | yes q ↦ rw (q, eq-eqb node node refl) (get_or-set_same row node true false there)
      | no q ↦ rw (ne_eqb place node q) (get_or-set_other row place node true false (λ e. q (sym e)))
    ]

in_front : (a b c : Bool) → (a || (b || c)) ≡ (b || a || c)
in_front true true c = refl
in_front true false c = refl
in_front false true c = refl
in_front false false c = refl

module _ (nodes : ℕ → Node) where
  abbrev told : Members → List ℕ → Members
  told = shown nodes gathered

  -- what is lent stays
  pub same_lent : (members : Members) (places : List ℕ) →
      ((told members places).lengthening ≡ members.lengthening) × ((told members places).lengths ≡ members.lengths)
  same_lent members [] = (refl, refl)
  same_lent members (place ∷ places) = same_lent (gathered members place (label_at nodes place)) places

  -- how many nodes they are
  pub counted : (members : Members) (places : List ℕ) → members.count + length places ≤ 65535 →
      (told members places).count ≡ members.count + length places
  counted members [] few = omega arith
  counted members (place ∷ places) few =
      let one : min 65535 (suc members.count) ≡ suc members.count = omega arith in
      counted (gathered members place (label_at nodes place)) places (rw one (omega arith)) ∙ rw one (omega arith)

  -- whether their labels may be converted
  pub fitted : (members : Members) (places : List ℕ) →
      (told members places).fit
      ≡ (members.fit
      && list_all (λ node. fits members.lengthening (nodes node).key (length_in_2 members.lengthening members.lengths.now node (nodes node).length)) places)
  fitted members [] = sym (and-true members.fit)
  fitted members (place ∷ places) = fitted (gathered members place (label_at nodes place)) places ∙ and_assoc members.fit _ _

  -- and which they are
  pub marked : (members : Members) (places : List ℕ) (node : ℕ) → node < length members.row →
      get_or (told members places).row node false ≡ (among places node || get_or members.row node false)
  marked members [] node there = refl
  marked members (place ∷ places) node there =
      marked (gathered members place (label_at nodes place)) places node (rw length-set there)
      ∙ ap (λ mark. among places node || mark) (marked_at members.row place node there)
      ∙ in_front (among places node) (eqb place node) (get_or members.row node false)

-- so it is once all nodes of a source's set have been shown to a visitor that had gathered none
module _ (source : List ℕ) (good : Counts (workers_of source) (nodes_of source)) (members : Members) (none : IsEmpty members) where
  abbrev read : ℕ → Node
  read = source_node members.lengthening source

  abbrev places : List ℕ
  places = source_set members.lengthening source

  abbrev all : Members
  all = told read members places

  lent : all.lengths.now ≡ members.lengths.now
  lent = ap (λ (words : _). words.now) (same_lent read members places).1

  pub all_gathered : AllGathered members.lengthening source members.lengths.now all
  all_gathered =
      let few = set_few read (nodes_of source) in
      let row : length members.row ≡ 1024 = rw none.0 (length-replicate 1024 false) in
      record {
        lengthening_is = (same_lent read members places).0;
        lent = lent;
        counted = counted read members places (omega (arith, none.1, good)) ∙ omega (arith, none.1);
        lengths_are = λ node there.
            let mark = marked read members places node (omega (arith, good)) in
            let unmarked : get_or members.row node false ≡ false = rw none.0 (get_or-replicate 1024 node false false (omega (arith, good))) in
            rw (mark, unmarked, or-false, lent) refl;
        fit = fitted read members places ∙ rw none.2;
      }
