-- Lines of document 01's listing and others, computed from the definitions.
use mathlib.Core.Path.{◌≡◌, refl}
use mathlib.Core.List.{[], ◌∷◌}
use Rattle.std.specs.Prelude.{codes}
use Rattle.bench_print.specs.Print.{digit_at, decimal, totals_text, operation_text, answer_text, call_text, wait_text, roll_text}

-- the listing's first two lines and its last one, a call without a point, and a wait
totals : totals_text (record { entries = 67; refused = 0; waits = 0; calls = 5 }) ≡ codes "entries 67 refused 0 waits 0 calls 5\n"
unfolding totals_text decimal digit_at
totals = refl

call : call_text (record { worker = 0; operation = 1; key = 5; start = 1; point = 12; finish = 15; answer = 1 })
    ≡ codes "0 add 5 1 12 15 yes\n"
unfolding call_text decimal digit_at operation_text answer_text
call = refl

open_call : call_text (record { worker = 7; operation = 3; key = 65534; start = 3060; point = 0; finish = 0; answer = 0 })
    ≡ codes "7 contains 65534 3060 0 0 open\n"
unfolding call_text decimal digit_at operation_text answer_text
open_call = refl

wait : wait_text (record { call = 1; time = 29; node = 2; worker = 0 }) ≡ codes "wait 29 2 0\n"
unfolding wait_text decimal digit_at
wait = refl

roll : roll_text (7 ∷ []) ≡ codes "roll 7\n"
unfolding roll_text decimal digit_at
roll = refl

empty_roll : roll_text [] ≡ codes "roll\n"
unfolding roll_text
empty_roll = refl
