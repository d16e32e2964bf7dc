-- The lines of calls and of their waits, with one more.
use Prim.Native.Nat.{ℕ, zero, suc, ◌+◌, ◌<◌}
use mathlib.Core.Path.{◌≡◌, sym, ap, ◌∙◌}
use mathlib.Core.List.{List, [], ◌∷◌, ◌++◌, append-nil, append_assoc}
use native.Mathlib.Nat.{add-zero, add-suc, suc-add}
use native.Mathlib.Numerals.{add-one}
use native.Mathlib.Omega.{arith}
use lib.ListN.{length, get_or, take}
use mathlib.Core.Bool.{false}
use Rattle.std.specs.List.{filter, flat_map}
use Rattle.std.proofs.lemmas.List.Elements.{filter_more}
use Rattle.schedule.specs.declared.Call.{Call}
use Rattle.schedule.specs.declared.Wait.{Wait}
use Rattle.bench_print.specs.Print.{wait_text}
use Rattle.bench_run.specs.Output.{is_wait_of, lines_text, calls_text}

-- one call more
calls_suc : (waits : List Wait) (number : ℕ) (row : List Call) (i : ℕ) (default : Call) → i < length row →
    calls_text waits number (take (suc i) row) ≡ calls_text waits number (take i row) ++ lines_text waits (number + i) (get_or row i default)
unfolding calls_text
calls_suc waits number [] i default there = absurd (omega arith)
calls_suc waits number (call ∷ row) zero default there = rw add-zero (append-nil (lines_text waits number call))
calls_suc waits number (call ∷ row) (suc i) default there =
    rw (add-suc, ← suc-add)
    (ap (λ text. lines_text waits number call ++ text) (calls_suc waits (suc number) row i default (omega arith))
    ∙ sym (append_assoc (lines_text waits number call) (calls_text waits (suc number) (take i row)) _))

pub calls_more : (waits : List Wait) (row : List Call) (i : ℕ) (default : Call) → i < length row →
    calls_text waits 0 (take (i + 1) row) ≡ calls_text waits 0 (take i row) ++ lines_text waits i (get_or row i default)
calls_more waits row i default there =
    let same : 0 + i ≡ i = omega arith in
    rw add-one (rw same at (calls_suc waits 0 row i default there))

-- one wait more, of another call
pub no_wait_lem : (number : ℕ) (waits : List Wait) (i : ℕ) (default : Wait) → i < length waits → is_wait_of number (get_or waits i default) ≡ false →
    flat_map wait_text (filter (is_wait_of number) (take (i + 1) waits)) ≡ flat_map wait_text (filter (is_wait_of number) (take i waits))
no_wait_lem number waits i default there is =
    let more = filter_more (is_wait_of number) waits i default there in
    ap (flat_map wait_text) (rw is at more ∙ append-nil (filter (is_wait_of number) (take i waits)))
