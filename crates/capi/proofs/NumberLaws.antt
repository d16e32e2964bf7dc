-- What a C program reads from the one number.
use Prim.Native.Nat.{ℕ, ◌+◌, ◌*◌, ◌/◌, ◌<◌}
use mathlib.Core.Path.{◌≡◌, refl}
use mathlib.Core.Bool.{Bool}
use mathlib.Core.List.{List, [], ◌∷◌}
use native.Mathlib.Omega.{arith}
use Rattle.std.specs.Prelude.{Result, Ok, Err}
use Rattle.worker.specs.Refusals.{Test}
use Rattle.worker.specs.Report.{report_values}
use Rattle.worker.specs.declared.refusal.Refusal.{Refusal}
use Rattle.worker.specs.declared.refusal.Refusal.TheVariants.{ShortArena, OddHeader, NoSuchWorker, Busy, BadCall, BrokenRecord, BrokenChain, NoRoom, BadSchedule, BadCounts, OldLayout, BrokenCount}
use Rattle.worker.proofs.RefusalLaws.{judged_keeps}
use Rattle.words.specs.Replies.{Reply, refused, accepted, refusing, reply, no_values, replied}
use Rattle.words.specs.Header.{header_refusals}
use Rattle.words.specs.Entries.{entries_of}
use Rattle.arena.specs.Init.{fresh_words, init_refusals, init_answer}
use Rattle.arena.specs.Start.{start_refusals, start_answer}
use Rattle.arena.specs.Snapshot.{snapshot_refusals, snapshot_answer}
use Rattle.arena.specs.Stored.{stored_answer}
use Rattle.lazy.specs.FindFree.{find_free_answer}
use Rattle.lazy.specs.Turn.{outcome_of, turn_on, turn_answer}
use Rattle.free_cells.specs.LongestFreeRun.{longest_free_run_refusals, longest_free_run_answer}
use Rattle.convert.specs.Convert.{convert_refusals, convert_answer}
use Rattle.linear.specs.Linearizable.{Linearizable}
use Rattle.schedule.specs.Run.{run_refusals, run_answer, DoneLinearizable}
use Rattle.schedule.specs.declared.Totals.{Totals}
use Rattle.capi.specs.Number.{reply_number, unreported, report_in, value_in, second_in, Reads, Readable, Fitting, bare}

-- three numbers in their places, read back
module _ (report first second : ℕ) (one : report < 256) (two : first < 65536) (three : second < 65536) where
  abbrev whole : ℕ
  whole = 256 * report + 65536 * first + 4294967296 * second

  report_back : report_in whole ≡ report
  report_back = let above : whole / 256 ≡ report + 256 * first + 16777216 * second = omega arith in rw above (omega arith)

  first_back : value_in whole ≡ first
  first_back = let above : whole / 65536 ≡ first + 65536 * second = omega arith in rw above (omega arith)

  second_back : second_in whole ≡ second
  second_back = let above : whole / 4294967296 ≡ second = omega arith in rw above (omega arith)

-- what fits its place is read back
pub reads_back : (reply : Reply) → Readable reply → Fitting reply → Reads (reply_number reply) reply
reads_back (refused number) readable fits = readable.2
reads_back (accepted values) readable fits = (
  readable,
  report_back _ _ _ fits.0 fits.1 fits.2,
  first_back _ _ _ fits.0 fits.1 fits.2,
  second_back _ _ _ fits.0 fits.1 fits.2,
)

-- a refusal's number fits the lowest byte, and is not 0
refusal_readable : (refusal : Refusal) → Readable (refusing refusal)
refusal_readable ShortArena = (omega arith, omega arith, omega arith)
refusal_readable OddHeader = (omega arith, omega arith, omega arith)
refusal_readable NoSuchWorker = (omega arith, omega arith, omega arith)
refusal_readable Busy = (omega arith, omega arith, omega arith)
refusal_readable BadCall = (omega arith, omega arith, omega arith)
refusal_readable BrokenRecord = (omega arith, omega arith, omega arith)
refusal_readable BrokenChain = (omega arith, omega arith, omega arith)
refusal_readable NoRoom = (omega arith, omega arith, omega arith)
refusal_readable BadSchedule = (omega arith, omega arith, omega arith)
refusal_readable BadCounts = (omega arith, omega arith, omega arith)
refusal_readable OldLayout = (omega arith, omega arith, omega arith)
refusal_readable BrokenCount = (omega arith, omega arith, omega arith)

accepted_readable : (values : List ℕ) → Readable (accepted values)
accepted_readable values = omega arith

pub reply_readable : {A : Type 0} (values : A → List ℕ) (answer : Result A Refusal) → Readable (reply values answer)
reply_readable values (Ok given) = accepted_readable (values given)
reply_readable values (Err refusal) = refusal_readable refusal

replied_readable : (tests : List Test) (values : List ℕ) → Readable (replied tests values)
replied_readable tests values = judged_keeps Readable tests refusing (accepted values) refusal_readable (accepted_readable values)

unreported_readable : (reply : Reply) → Readable reply → Readable (unreported reply)
unreported_readable (refused number) readable = readable
unreported_readable (accepted values) readable = accepted_readable (0 ∷ values)

-- an answer without a report, and a run's, as they are told
pub told_unreported : {A : Type 0} (values : A → List ℕ) (answer : Result A Refusal) →
    reply (λ given. 0 ∷ values given) answer ≡ unreported (reply values answer)
told_unreported values (Ok given) = refl
told_unreported values (Err refusal) = refl

pub told_bare : {A : Type 0} (values : A → List ℕ) (answer : Result A Refusal) → reply no_values answer ≡ bare (reply values answer)
told_bare values (Ok given) = refl
told_bare values (Err refusal) = refl

module _ (arena : List ℕ) where
  pub init_readable : (workers nodes : ℕ) → Readable (init_answer arena workers nodes)
  unfolding init_answer
  init_readable workers nodes = replied_readable (init_refusals arena workers nodes) []

  pub start_readable : (worker operation key length : ℕ) → Readable (start_answer arena worker operation key length)
  unfolding start_answer
  start_readable worker operation key length = replied_readable (start_refusals arena worker operation key length) []

  pub snapshot_readable : (room : ℕ) → Readable (unreported (snapshot_answer arena room))
  unfolding snapshot_answer
  snapshot_readable room = unreported_readable (snapshot_answer arena room) (replied_readable (snapshot_refusals arena room) _)

  pub find_free_readable : Readable (unreported (find_free_answer arena))
  unfolding find_free_answer
  find_free_readable = unreported_readable (find_free_answer arena) (replied_readable (header_refusals arena) _)

  pub stored_readable : Readable (unreported (stored_answer arena))
  unfolding stored_answer
  stored_readable = unreported_readable (stored_answer arena) (replied_readable (header_refusals arena) _)

  pub longest_free_run_readable : (last : ℕ) → Readable (unreported (longest_free_run_answer arena last))
  unfolding longest_free_run_answer
  longest_free_run_readable last =
      unreported_readable (longest_free_run_answer arena last) (replied_readable (longest_free_run_refusals arena last) _)

  pub convert_readable : (lengthening : Bool) (lengths : List ℕ) (room : ℕ) → Readable (convert_answer lengthening arena lengths room)
  unfolding convert_answer
  convert_readable lengthening lengths room = replied_readable (convert_refusals lengthening arena lengths room) []

  pub run_readable : (workers nodes : ℕ) (schedule : List ℕ) (call_room wait_room : ℕ) →
      Readable (run_answer arena workers nodes schedule call_room wait_room)
  unfolding run_answer
  run_readable workers nodes schedule call_room wait_room =
      replied_readable (run_refusals arena workers nodes schedule call_room wait_room) _

  pub turn_readable : (worker : ℕ) → Readable (turn_answer arena worker)
  unfolding turn_answer
  turn_readable worker = reply_readable report_values (outcome_of (turn_on arena worker))

-- a run that returns 0 is done
pub zero_done : (s : Result Totals Refusal) (workers nodes : ℕ) (schedule : List ℕ) → reply_number (reply no_values s) ≡ 0 →
    DoneLinearizable s workers nodes schedule → Linearizable [] (fresh_words workers nodes) (entries_of schedule)
zero_done (Ok totals) workers nodes schedule zero holds = holds
zero_done (Err refusal) workers nodes schedule zero holds =
    let readable = refusal_readable refusal in absurd (omega (arith, readable.0))
