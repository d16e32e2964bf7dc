-- Laws of the header test.
use Prim.Native.Nat.{ℕ, zero, suc, ◌+◌, ◌*◌, ◌-◌, ◌≤◌, ◌<◌}
use mathlib.Core.Path.{◌≡◌, refl, sym, ap, ◌∙◌}
use mathlib.Core.Logic.{◌↔◌}
use mathlib.Core.List.{List, [], ◌∷◌}
use mathlib.Core.Bool.{Bool, true, false, ◌||◌, true≢false, and-eq-true_iff, and-false, or-false}
use native.Mathlib.Omega.{arith}
use native.Mathlib.Nat.{zero-add, add-zero, add-suc, suc-add}
use lib.ListN.{length, take, drop, length-drop}
use lib.Seq.{get_or-take, length-take-le, ext_get_or}
use lib.Dec.{leb, eqb}
use borrow.Author.Tests.{eqb-true, eq-eqb, ne_eqb, leb-true, le-leb, ltb-false, not-false}
use Rattle.std.proofs.Common.{lit<}
use Rattle.worker.proofs.RefusalLaws.{NoneHolds}
use Rattle.words.specs.Layout.{word, layout1, layout2, header_width, nodes_from, node_width, old_node_width, node_part, good_counts, most_stored, header_with, header_words, old_header_words, workers_of, nodes_of, nodes_from_of, total_of, stored_of}
use Rattle.words.specs.Records.{Spans}
use Rattle.words.specs.Replies.{accepted, replied}
use Rattle.words.specs.Header.{agrees, is_header, is_old_header, HeaderOfSome, OldHeaderOfSome, is_short, header_refusals}
use Rattle.words.proofs.Bounds.{Counts, counts}
use Rattle.words.proofs.Judged.{none_holds}

-- words that agree are equal, one by one
agrees_at : (words vs : List ℕ) (at k : ℕ) → agrees words at vs ≡ true → k < length vs → word words (at + k) ≡ word vs k
agrees_at words [] at k e h = absurd (omega arith)
agrees_at words (v ∷ vs) at zero e h =
    let both = (and-eq-true_iff (eqb (word words at) v) (agrees words (suc at) vs)).0 e in
    rw add-zero (eqb-true _ _ both.0)
agrees_at words (v ∷ vs) at (suc k) e h =
    let both = (and-eq-true_iff (eqb (word words at) v) (agrees words (suc at) vs)).0 e in
    rw (add-suc, ← suc-add) (agrees_at words vs (suc at) k both.1 (omega arith))

-- and the other way round
agrees_all : (words vs : List ℕ) (at : ℕ) → ((k : ℕ) → k < length vs → word words (at + k) ≡ word vs k) → agrees words at vs ≡ true
agrees_all words [] at same = refl
agrees_all words (v ∷ vs) at same =
    rw (eq-eqb (word words at) v (rw add-zero at (same 0 (omega arith))))
    (agrees_all words vs (suc at) (λ k h. rw (suc-add, ← add-suc) (same (suc k) (omega arith))))

-- eight words agree with the first eight exactly where they are these
module _ (arena vs : List ℕ) (eight : length vs ≡ header_width) where
  stands : header_width ≤ length arena → agrees arena 0 vs ≡ true → take header_width arena ≡ vs
  stands h e =
      let long : length (take header_width arena) ≡ header_width = length-take-le header_width arena h in
      ext_get_or 0 (take header_width arena) vs (long ∙ sym eight)
      (λ k l. get_or-take header_width arena k 0 (omega arith) ∙ rw zero-add at (agrees_at arena vs 0 k e (omega arith)))

  stood : take header_width arena ≡ vs → agrees arena 0 vs ≡ true
  stood same =
      agrees_all arena vs 0
      (λ k l. rw zero-add (sym (get_or-take header_width arena k 0 (omega arith)) ∙ ap (λ (words : List ℕ). word words k) same))

-- a word of the header, where it is known whole
header_word : (arena : List ℕ) {vs : List ℕ} → take header_width arena ≡ vs → (k : ℕ) → k < header_width → word arena k ≡ word vs k
header_word arena same k l = sym (get_or-take header_width arena k 0 l) ∙ ap (λ (words : List ℕ). word words k) same

-- what stands in a header of a layout, with node records of a width, and a count of at most so many
pub record HeaderIn (layout width most : ℕ) (arena : List ℕ) : Type 0 where
  pub long : header_width ≤ length arena
  pub whole : total_of arena ≤ length arena
  pub good : Counts (workers_of arena) (nodes_of arena)
  pub from : nodes_from_of arena ≡ nodes_from (workers_of arena)
  pub end : total_of arena ≡ nodes_from (workers_of arena) + width * nodes_of arena
  pub few_stored : stored_of arena ≤ most
  pub own : take header_width arena ≡ header_with layout (workers_of arena) (nodes_of arena) (nodes_from (workers_of arena) + width * nodes_of arena) (stored_of arena)

-- of an arena that is not refused, and of an old one
abbrev pub Header : List ℕ → Type 0
Header arena = HeaderIn layout2 node_width (most_stored (nodes_of arena)) arena

abbrev pub OldHeader : List ℕ → Type 0
OldHeader arena = HeaderIn layout1 old_node_width 0 arena

pub or_false : (a b : Bool) → (a || b) ≡ false → (a ≡ false) × (b ≡ false)
or_false true b e = (e, absurd (true≢false e))
or_false false b e = (refl, e)

module _ (arena : List ℕ) (long_enough : is_short arena ≡ false) where
  header_in : (layout width most stored : ℕ) → good_counts (workers_of arena) (nodes_of arena) ≡ true → stored ≤ most →
      agrees arena 0 (header_with layout (workers_of arena) (nodes_of arena) (nodes_from (workers_of arena) + width * nodes_of arena) stored) ≡ true →
      HeaderIn layout width most arena
  header_in layout width most stored good few e =
      let short = or_false _ _ long_enough in
      let total = nodes_from (workers_of arena) + width * nodes_of arena in
      let words : take header_width arena ≡ header_with layout (workers_of arena) (nodes_of arena) total stored
      = stands arena _ refl (ltb-false _ _ short.0) e in
      let counted : stored_of arena ≡ stored = header_word arena words 6 (omega arith) in
      record {
        long = ltb-false _ _ short.0;
        whole = ltb-false _ _ short.1;
        good = counts (workers_of arena) (nodes_of arena) good;
        from = header_word arena words 4 (omega arith);
        end = header_word arena words 5 (omega arith);
        few_stored = rw counted few;
        own = rw counted words;
      }

  pub new_header : is_header arena ≡ true → Header arena
  unfolding is_header header_words
  new_header e =
      let all = (and-eq-true_iff _ _).0 e in
      let numbers = (and-eq-true_iff _ _).0 all.0 in
      header_in layout2 node_width (most_stored (nodes_of arena)) (stored_of arena) numbers.0 (leb-true _ _ numbers.1) all.1

  pub old_header : is_old_header arena ≡ true → OldHeader arena
  unfolding is_old_header old_header_words
  old_header e =
      let all = (and-eq-true_iff _ _).0 e in
      header_in layout1 old_node_width 0 0 all.0 (omega arith) all.1

-- no header is of both layouts
header_layout : (arena : List ℕ) → is_header arena ≡ true → word arena 0 ≡ layout2
unfolding is_header header_words
header_layout arena e = agrees_at arena (header_words (workers_of arena) (nodes_of arena) (stored_of arena)) 0 0 ((and-eq-true_iff _ _).0 e).1 (lit< tt)

pub not_both : (arena : List ℕ) → is_header arena ≡ true → is_old_header arena ≡ false
unfolding is_old_header old_header_words
not_both arena e =
    let layout = header_layout arena e in rw (ne_eqb (word arena 0) layout1 (λ q. omega arith)) (and-false _)

-- no refusal holds where the arena is long enough and its header in order, and only there
pub none_of : (arena : List ℕ) → is_short arena ≡ false → is_header arena ≡ true → NoneHolds (header_refusals arena)
unfolding header_refusals
none_of arena long is = (long, (rw is, (not_both arena is, tt)))

pub is_of : (arena : List ℕ) → NoneHolds (header_refusals arena) → is_header arena ≡ true
unfolding header_refusals
is_of arena none = sym (or-false (is_header arena)) ∙ ap (λ (old : Bool). is_header arena || old) (sym none.1.1.0) ∙ not-false _ none.1.0

pub header_of : (arena : List ℕ) → NoneHolds (header_refusals arena) → Header arena
unfolding header_refusals
header_of arena none = new_header arena none.0 (is_of arena none)

pub header_holds : (arena : List ℕ) {values : List ℕ} → accepted values ≡ replied (header_refusals arena) [] → Header arena
header_holds arena e = header_of arena (none_holds (header_refusals arena) [] e)

-- the node records have as many words as the nodes need
pub part_long : {layout width most : ℕ} (arena : List ℕ) → HeaderIn layout width most arena → length (node_part arena) ≡ width * nodes_of arena
unfolding node_part
part_long {width} arena header =
    let from = nodes_from_of arena in
    let span : total_of arena - from ≡ width * nodes_of arena = omega (arith, header.from, header.end) in
    let fits : total_of arena - from ≤ length (drop from arena) = rw length-drop (omega (arith, header.whole)) in
    length-take-le (total_of arena - from) (drop from arena) fits ∙ span

-- behind a header in order the walks may rely on all that they do
pub all_spanned : (arena : List ℕ) → Header arena → Spans (nodes_of arena) (node_part arena)
all_spanned arena header = (part_long arena header, header.good.few_nodes)

-- the test is document 01's
pub header_of_some : (arena : List ℕ) → header_width ≤ length arena → (is_header arena ≡ true) ↔ HeaderOfSome arena
unfolding is_header header_words
header_of_some arena h = (forth, back)
  where
    forth : is_header arena ≡ true → HeaderOfSome arena
    forth e =
        let all = (and-eq-true_iff _ _).0 e in
        let numbers = (and-eq-true_iff _ _).0 all.0 in
        (workers_of arena, nodes_of arena, stored_of arena, numbers.0, leb-true _ _ numbers.1, stands arena _ refl h all.1)

    back : HeaderOfSome arena → is_header arena ≡ true
    back p =
        let workers : workers_of arena ≡ p.0 = header_word arena p.5 1 (omega arith) in
        let nodes : nodes_of arena ≡ p.1 = header_word arena p.5 2 (omega arith) in
        let stored : stored_of arena ≡ p.2 = header_word arena p.5 6 (omega arith) in
        (and-eq-true_iff _ _).1 (
          (and-eq-true_iff _ _).1 (
            (λ i. good_counts (workers i) (nodes i)) ∙ p.3,
            (λ i. leb (stored i) (most_stored (nodes i))) ∙ le-leb _ _ p.4,
          ),
          (λ i. agrees arena 0 (header_words (workers i) (nodes i) (stored i))) ∙ stood arena _ refl p.5,
        )

-- so is that of an old one
pub old_header_of_some : (arena : List ℕ) → header_width ≤ length arena → (is_old_header arena ≡ true) ↔ OldHeaderOfSome arena
unfolding is_old_header old_header_words
old_header_of_some arena h = (forth, back)
  where
    forth : is_old_header arena ≡ true → OldHeaderOfSome arena
    forth e =
        let all = (and-eq-true_iff _ _).0 e in (workers_of arena, nodes_of arena, all.0, stands arena _ refl h all.1)

    back : OldHeaderOfSome arena → is_old_header arena ≡ true
    back p =
        let workers : workers_of arena ≡ p.0 = header_word arena p.3 1 (omega arith) in
        let nodes : nodes_of arena ≡ p.1 = header_word arena p.3 2 (omega arith) in
        (and-eq-true_iff _ _).1 (
          (λ i. good_counts (workers i) (nodes i)) ∙ p.2,
          (λ i. agrees arena 0 (old_header_words (workers i) (nodes i))) ∙ stood arena _ refl p.3,
        )
