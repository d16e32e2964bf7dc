-- Refusals in the numbers and words of documents 01 and 02, and the first of them in the given order.
use Rattle.std.specs.Prelude.{ℕ, List, [], ◌∷◌, Bool, cond, codes}
use Rattle.worker.specs.declared.refusal.Refusal.{Refusal}
use Rattle.worker.specs.declared.refusal.Refusal.TheVariants.{ShortArena, OddHeader, NoSuchWorker, Busy, BadCall, BrokenRecord, BrokenChain, NoRoom, BadSchedule, BadCounts, OldLayout, BrokenCount}

abbrev pub refusal_number : Refusal → ℕ
refusal_number ShortArena = 1
refusal_number OddHeader = 2
refusal_number NoSuchWorker = 3
refusal_number Busy = 4
refusal_number BadCall = 5
refusal_number BrokenRecord = 6
refusal_number BrokenChain = 7
refusal_number NoRoom = 8
refusal_number BadSchedule = 9
refusal_number BadCounts = 10
refusal_number OldLayout = 12
refusal_number BrokenCount = 14

abbrev pub refusal_word : Refusal → List ℕ
refusal_word ShortArena = codes "short board"
refusal_word OddHeader = codes "odd header"
refusal_word NoSuchWorker = codes "no such worker"
refusal_word Busy = codes "busy"
refusal_word BadCall = codes "bad call"
refusal_word BrokenRecord = codes "broken record"
refusal_word BrokenChain = codes "broken chain"
refusal_word NoRoom = codes "no room"
refusal_word BadSchedule = codes "bad schedule"
refusal_word BadCounts = codes "bad counts"
refusal_word OldLayout = codes "old layout"
refusal_word BrokenCount = codes "broken count"

-- a test, and the refusal where it holds
abbrev pub Test : Type 0
Test = Bool × Refusal

-- the first refusal in the given order decides; where no test holds, the call is accepted
abbrev pub judged : {A : Type 0} → List Test → (Refusal → A) → A → A
judged [] refuse accept = accept
judged (test ∷ tests) refuse accept = cond test.0 (refuse test.1) (judged tests refuse accept)
