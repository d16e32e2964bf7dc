-- Laws of the reply by a list of refusals, and of what else the list judges.
use Prim.Native.Nat.{ℕ, ◌-◌}
use mathlib.Core.Path.{◌≡◌, refl, sym, ap, ◌∙◌}
use mathlib.Core.List.{List, [], ◌∷◌, ◌++◌}
use mathlib.Core.Bool.{Bool, true, false, cond}
use native.Mathlib.Omega.{arith}
use lib.ListN.{get_or}
use lib.Dec.{eqb}
use Rattle.std.specs.Prelude.{Result, Ok, Err}
use Rattle.worker.specs.Refusals.{Test, refusal_number, judged}
use Rattle.worker.specs.declared.refusal.Refusal.{Refusal}
use Rattle.worker.specs.declared.refusal.Refusal.TheVariants.{ShortArena, OddHeader, NoSuchWorker, Busy, BadCall, BrokenRecord, BrokenChain, NoRoom, BadSchedule, BadCounts, OldLayout, BrokenCount}
use Rattle.worker.proofs.RefusalLaws.{NoneHolds, judged_append, judged_passed}
use Rattle.words.specs.Replies.{Reply, refused, accepted, refusing, reply, replied}

-- a number tells its refusal
pub numbered : ℕ → Refusal
numbered number =
    get_or
    (ShortArena
    ∷ OddHeader
    ∷ NoSuchWorker
    ∷ Busy
    ∷ BadCall
    ∷ BrokenRecord
    ∷ BrokenChain
    ∷ NoRoom
    ∷ BadSchedule
    ∷ BadCounts
    ∷ [])
    (number - 1) (cond (eqb number 12) OldLayout BrokenCount)

numbered_back : (refusal : Refusal) → numbered (refusal_number refusal) ≡ refusal
unfolding numbered
numbered_back ShortArena = refl
numbered_back OddHeader = refl
numbered_back NoSuchWorker = refl
numbered_back Busy = refl
numbered_back BadCall = refl
numbered_back BrokenRecord = refl
numbered_back BrokenChain = refl
numbered_back NoRoom = refl
numbered_back BadSchedule = refl
numbered_back BadCounts = refl
numbered_back OldLayout = refl
numbered_back BrokenCount = refl

settled : {A : Type 0} → Reply → (Refusal → A) → A → A
settled (refused number) refuse accept = refuse (numbered number)
settled (accepted values) refuse accept = accept

-- the reply alone decides
judged_by : {A : Type 0} (rs : List Test) (values : List ℕ) (refuse : Refusal → A) (accept : A) →
    judged rs refuse accept ≡ settled (replied rs values) refuse accept
unfolding settled
judged_by [] values refuse accept = refl
judged_by (r ∷ rs) values refuse accept = go r.0 (judged_by rs values refuse accept)
  where
    go : (t : Bool) → judged rs refuse accept ≡ settled (replied rs values) refuse accept →
        cond t (refuse r.1) (judged rs refuse accept) ≡ settled (cond t (refusing r.1) (replied rs values)) refuse accept
    go true e = ap refuse (sym (numbered_back r.1))
    go false e = e

module _ {A : Type 0} (rs : List Test) (values : List ℕ) (refuse : Refusal → A) (accept : A) where
  pub judged_numbered : {number : ℕ} → refused number ≡ replied rs values → judged rs refuse accept ≡ refuse (numbered number)
  unfolding settled
  judged_numbered e = judged_by rs values refuse accept ∙ ap (λ (r : Reply). settled r refuse accept) (sym e)

  pub judged_refused : {refusal : Refusal} → refusing refusal ≡ replied rs values → judged rs refuse accept ≡ refuse refusal
  judged_refused {refusal} e = judged_numbered e ∙ ap refuse (numbered_back refusal)

  pub judged_accepted : {given : List ℕ} → accepted given ≡ replied rs values → judged rs refuse accept ≡ accept
  unfolding settled
  judged_accepted e = judged_by rs values refuse accept ∙ ap (λ (r : Reply). settled r refuse accept) (sym e)

-- the number of a reply is its refusal's
pub numbered_on : (rs : List Test) (values : List ℕ) {number : ℕ} → refused number ≡ replied rs values →
    number ≡ refusal_number (numbered number)
numbered_on rs values {number} e =
    let same : refused number ≡ refusing (numbered number) = e ∙ judged_numbered rs values refusing (accepted values) e in cc

-- what is refused is refused whatever is asked for, and what is accepted gives it
pub still_refused : (rs : List Test) (values asked : List ℕ) (refusal : Refusal) → refusing refusal ≡ replied rs values →
    refusing refusal ≡ replied rs asked
still_refused rs values asked refusal e = sym (judged_refused rs values refusing (accepted asked) e)

pub still_accepted : (rs : List Test) (values asked : List ℕ) {given : List ℕ} → accepted given ≡ replied rs values →
    accepted asked ≡ replied rs asked
still_accepted rs values asked e = sym (judged_accepted rs values refusing (accepted asked) e)

-- where a list refuses nothing, no test of it holds, and what is given are the values
passed : (rs : List Test) (values : List ℕ) {given : List ℕ} → accepted given ≡ replied rs values →
    NoneHolds rs × (accepted values ≡ accepted given)
passed rs values {given} e =
    judged_passed rs refusing (accepted values) (accepted given)
    (λ refusal same. let z : ◌≡◌ {A = ℕ} 0 1 = cc in omega arith) (sym e)

pub none_holds : (rs : List Test) (values : List ℕ) {given : List ℕ} → accepted given ≡ replied rs values → NoneHolds rs
none_holds rs values e = (passed rs values e).0

pub given_values : (rs : List Test) (values : List ℕ) {given : List ℕ} → accepted given ≡ replied rs values → given ≡ values
given_values rs values {given} e = let same : accepted values ≡ accepted given = (passed rs values e).1 in cc

module _ {A : Type 0} (rs ss : List Test) (values : List ℕ) (refuse : Refusal → A) (accept : A) where
  pub refused_first : {refusal : Refusal} → refusing refusal ≡ replied rs values → judged (rs ++ ss) refuse accept ≡ refuse refusal
  refused_first e = judged_append rs ss refuse accept ∙ judged_refused rs values refuse (judged ss refuse accept) e

  pub accepted_first : {given : List ℕ} → accepted given ≡ replied rs values → judged (rs ++ ss) refuse accept ≡ judged ss refuse accept
  accepted_first e = judged_append rs ss refuse accept ∙ judged_accepted rs values refuse (judged ss refuse accept) e

-- where the values tell what is given, a reply tells the answer
pub reply_told : {A : Type 0} (values : A → List ℕ) → ((a b : A) → values a ≡ values b → a ≡ b) → (x y : Result A Refusal) →
    reply values x ≡ reply values y → x ≡ y
reply_told values told (Ok a) (Ok b) same = let given : values a ≡ values b = cc in ap Ok (told a b given)
reply_told values told (Ok a) (Err r) same = let z : ◌≡◌ {A = ℕ} 0 1 = cc in absurd (omega arith)
reply_told values told (Err r) (Ok b) same = let z : ◌≡◌ {A = ℕ} 0 1 = cc in absurd (omega arith)
reply_told values told (Err r) (Err s) same =
    let number : refusal_number r ≡ refusal_number s = cc in
    ap Err (sym (numbered_back r) ∙ ap numbered number ∙ numbered_back s)
