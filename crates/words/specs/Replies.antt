-- What is replied and written, by the refusals in document 01's order.
use Rattle.std.specs.Prelude.{ℕ, List, [], Option, Some, None, Result, Ok, Err}
use Rattle.worker.specs.Node.{no_node}
use Rattle.worker.specs.Refusals.{Test, refusal_number, judged}
use Rattle.worker.specs.declared.refusal.Refusal.{Refusal}

-- a reply: the number of a refusal alone, or the values asked for
pub data Reply : Type 0 where
  refused : ℕ → Reply
  accepted : List ℕ → Reply

abbrev pub refusing : Refusal → Reply
refusing refusal = refused (refusal_number refusal)

-- what an answer of the code says: the number of its refusal, or the values of what it gives
abbrev pub reply : {A : Type 0} → (A → List ℕ) → Result A Refusal → Reply
reply values (Ok given) = accepted (values given)
reply values (Err refusal) = refusing refusal

-- of a call that only may be refused nothing is asked
abbrev pub no_values : {A : Type 0} → A → List ℕ
no_values given = []

-- a number, or 65,535 where there is none
abbrev pub or_none : Option ℕ → ℕ
or_none (Some number) = number
or_none None = no_node

-- what is replied: the number alone, or the values
abbrev pub replied : List Test → List ℕ → Reply
replied tests values = judged tests refusing (accepted values)

-- what lent words are at exit: a refusal leaves them as they were
abbrev pub written : List Test → List ℕ → List ℕ → List ℕ
written tests before after = judged tests (λ refusal. before) after
