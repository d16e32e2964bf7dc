-- Laws of the order of calls: a sort keeps the calls and puts them in order.
use Prim.Native.Nat.{ℕ}
use mathlib.Core.Path.{◌≡◌, refl, ◌∙◌}
use mathlib.Core.Logic.{inl, inr, ⊎_elim}
use mathlib.Core.List.Memᴰ
use mathlib.Core.List.{List, [], ◌∷◌, Memᴰ}
use mathlib.Core.List.Permᴰ
use mathlib.Core.List.{Permᴰ}
use mathlib.Core.Bool.{Bool, true, false, cond, ◌&&◌, ◌||◌}
use mathlib.Mathlib.Data.Bool.Basic.{dichotomy}
use native.Mathlib.Omega.{arith}
use lib.Dec.{leb, ltb, eqb}
use borrow.Author.Tests.{ltb-true, ltb-false, leb-true, leb-false, eqb-true, eqb-false}
use Rattle.std.specs.List.{filter}
use Rattle.words.specs.declared.entry.Entry.{Entry}
use Rattle.arena.specs.Lists.{Each, none, ◌and◌, Pairs, alone, ◌ahead◌}
use Rattle.arena.proofs.ListLaws.{each_in, each_of, pairs_weaken}
use Rattle.linear.specs.History.{Call, calls}
use Rattle.linear.specs.Order.{has_point, rank, Before, goes_before, inserted, sorted, in_order, Ordered}

-- what is before a call is before each later one
before_trans : (a b c : Call) → Before a b → Before b c → Before a c
before_trans a b c (inl h) (inl k) = inl (omega arith)
before_trans a b c (inl h) (inr k) = inl (omega arith)
before_trans a b c (inr h) (inl k) = inl (omega arith)
before_trans a b c (inr h) (inr k) = inr (omega arith)

-- the test says which of two calls is before the other
tested : (a b : Call) → cond (goes_before a b) (Before a b) (Before b a)
unfolding goes_before
tested a b =
    go (ltb a.point b.point) (eqb a.point b.point) (leb (rank a) (rank b)) refl refl refl
  where
    go : (earlier same lower : Bool) →
        ltb a.point b.point ≡ earlier → eqb a.point b.point ≡ same → leb (rank a) (rank b) ≡ lower →
        cond (earlier || (same && lower)) (Before a b) (Before b a)
    go true same lower e s l = inl (ltb-true _ _ e)
    go false true true e s l = inr (omega (arith, eqb-true, leb-true))
    go false true false e s l = inr (omega (arith, eqb-true, leb-false))
    go false false lower e s l = inl (omega (arith, ltb-false, eqb-false a.point b.point s))

-- a call put in its place is there with the others, each once
inserted_same : (new : Call) (cs : List Call) → Permᴰ (inserted new cs) (new ∷ cs)
unfolding inserted
inserted_same new [] = Permᴰ.refl (new ∷ [])
inserted_same new (other ∷ others) =
    ⊎_elim (λ later. rw later (Permᴰ.trans (Permᴰ.cons refl (inserted_same new others)) (Permᴰ.swap refl refl)))
    (λ before. rw before (Permᴰ.refl (new ∷ other ∷ others))) (dichotomy (goes_before new other))

-- so a sorted list has the calls of the list, each as often
sorted_same : (cs : List Call) → Permᴰ (sorted cs) cs
unfolding sorted
sorted_same [] = Permᴰ.nil
sorted_same (first ∷ others) = Permᴰ.trans (inserted_same first (sorted others)) (Permᴰ.cons refl (sorted_same others))

-- what is in a list is in every list of the same calls
in_same : {call : Call} {cs ds : List Call} → Permᴰ cs ds → Memᴰ call cs → Memᴰ call ds
in_same Permᴰ.nil m = m
in_same (Permᴰ.cons e same) m =
    ⊎_elim (λ first. Memᴰ.head (first ∙ e)) (λ there. Memᴰ.tail (in_same same there)) (Memᴰ.cases_cons m)
in_same (Permᴰ.swap e f) m =
    ⊎_elim (λ first. Memᴰ.tail (Memᴰ.head (first ∙ e)))
    (λ there. ⊎_elim (λ second. Memᴰ.head (second ∙ f)) (λ later. Memᴰ.tail (Memᴰ.tail later)) (Memᴰ.cases_cons there))
    (Memᴰ.cases_cons m)
in_same (Permᴰ.trans same more) m = in_same more (in_same same m)

pub in_sorted : {call : Call} {cs : List Call} → Memᴰ call cs → Memᴰ call (sorted cs)
in_sorted {cs = cs} = in_same (Permᴰ.symm (sorted_same cs))

pub from_sorted : {call : Call} {cs : List Call} → Memᴰ call (sorted cs) → Memᴰ call cs
from_sorted {cs = cs} = in_same (sorted_same cs)

module _ {R : Call → Call → Type 0} (either : (a b : Call) → R a b → R b a) where
  -- a call put in its place keeps a list in order
  inserted_pairs : (new : Call) (cs : List Call) → Each (R new) cs → Pairs (λ a b. Before a b × R a b) cs →
      Pairs (λ a b. Before a b × R a b) (inserted new cs)
  unfolding inserted
  inserted_pairs new [] all pairs = none ahead alone
  inserted_pairs new (other ∷ others) (related and all) (each ahead pairs) =
      ⊎_elim
      (λ later.
      rw later
      (each_of (inserted new others)
      (λ c m.
      ⊎_elim (λ same. rw same (rw later at (tested new other), either new other related)) (λ there. each_in each there)
      (Memᴰ.cases_cons (in_same (inserted_same new others) m)))
      ahead inserted_pairs new others all pairs))
      (λ first.
      let before = rw first at (tested new other) in
      rw first
      (((before, related) and each_of others (λ c m. (before_trans new other c before (each_in each m).0, each_in all m)))
      ahead each ahead pairs))
      (dichotomy (goes_before new other))

  -- a sorted list is in order, and what held of every two calls, either way round, still does
  pub sorted_pairs : (cs : List Call) → Pairs R cs → Pairs (λ a b. Before a b × R a b) (sorted cs)
  unfolding sorted
  sorted_pairs [] alone = alone
  sorted_pairs (first ∷ others) (each ahead pairs) =
      inserted_pairs first (sorted others) (each_of (sorted others) (λ c m. each_in each (from_sorted m))) (sorted_pairs others pairs)

-- of every two calls nothing is asked
any_pairs : (cs : List Call) → Pairs (λ a b. Unit {0}) cs
any_pairs [] = alone
any_pairs (first ∷ others) = each_of others (λ c m. tt) ahead any_pairs others

pub ordered : (initial : List ℕ) (entries : List Entry) → Ordered initial entries
unfolding in_order
ordered initial entries =
    let some = filter has_point (calls initial entries) in
    record {
      same_calls = sorted_same some;
      by_point =
          pairs_weaken {P = λ c. Unit {0}} (λ a b _ _ both. both.0) (each_of (sorted some) (λ c m. tt))
          (sorted_pairs (λ a b related. related) some (any_pairs some));
    }
