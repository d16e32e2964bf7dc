-- Laws of the judgement by a list of refusals.
use mathlib.Core.Path.{◌≡◌, refl, ap}
use mathlib.Core.List.{List, [], ◌∷◌, ◌++◌}
use mathlib.Core.Bool.{Bool, true, false, cond}
use Rattle.worker.specs.Refusals.{Test, judged}
use Rattle.worker.specs.declared.refusal.Refusal.{Refusal}

-- what every outcome has, the judgement has
pub judged_keeps : {A : Type 0} (P : A → Type 0) (rs : List Test) (refuse : Refusal → A) (accept : A) →
    ((refusal : Refusal) → P (refuse refusal)) → P accept → P (judged rs refuse accept)
judged_keeps P [] refuse accept p q = q
judged_keeps {A} P (r ∷ rs) refuse accept p q = go r.0 (judged rs refuse accept) (judged_keeps P rs refuse accept p q)
  where
    go : (t : Bool) (others : A) → P others → P (cond t (refuse r.1) others)
    go true others more = p r.1
    go false others more = more

-- a list of refusals behind another
pub judged_append : {A : Type 0} (rs ss : List Test) (refuse : Refusal → A) (accept : A) →
    judged (rs ++ ss) refuse accept ≡ judged rs refuse (judged ss refuse accept)
judged_append [] ss refuse accept = refl
judged_append (r ∷ rs) ss refuse accept = ap (cond r.0 (refuse r.1)) (judged_append rs ss refuse accept)

-- no test of a list holds
abbrev pub NoneHolds : List Test → Type 0
NoneHolds [] = Unit {0}
NoneHolds (r ∷ rs) = (r.0 ≡ false) × NoneHolds rs

-- of two lists, one behind the other, none holds exactly where none of either does
pub none_of_both : (rs ss : List Test) → NoneHolds (rs ++ ss) → NoneHolds rs × NoneHolds ss
none_of_both [] ss none = (tt, none)
none_of_both (r ∷ rs) ss none = let both = none_of_both rs ss none.1 in ((none.0, both.0), both.1)

pub none_in_both : (rs ss : List Test) → NoneHolds rs → NoneHolds ss → NoneHolds (rs ++ ss)
none_in_both [] ss first second = second
none_in_both (r ∷ rs) ss first second = (first.0, none_in_both rs ss first.1 second)

-- where a judgement is what no refusal gives, no test holds, and it is what is accepted
pub judged_passed : {A : Type 0} (rs : List Test) (refuse : Refusal → A) (accept other : A) → ((refusal : Refusal) → refuse refusal ≡ other → ⊥) →
    judged rs refuse accept ≡ other → NoneHolds rs × (accept ≡ other)
judged_passed [] refuse accept other out e = (tt, e)
judged_passed {A} (r ∷ rs) refuse accept other out e = go r.0 (judged rs refuse accept) (judged_passed rs refuse accept other out) e
  where
    go : (t : Bool) (others : A) → (others ≡ other → NoneHolds rs × (accept ≡ other)) → cond t (refuse r.1) others ≡ other →
        ((t ≡ false) × NoneHolds rs) × (accept ≡ other)
    go true others more e = absurd (out r.1 e)
    go false others more e = let passed = more e in ((refl, passed.0), passed.1)

-- and the other way round
pub none_accepts : {A : Type 0} (rs : List Test) (refuse : Refusal → A) (accept : A) → NoneHolds rs → judged rs refuse accept ≡ accept
none_accepts [] refuse accept none = refl
none_accepts (r ∷ rs) refuse accept none = rw none.0 (none_accepts rs refuse accept none.1)
