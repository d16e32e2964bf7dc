-- What a run answers and leaves, as the parts of the text that is printed of it.
use Prim.Native.Nat.{ℕ, zero, suc, ◌*◌, ◌%◌, ◌≤◌}
use mathlib.Core.Path.{◌≡◌, refl, sym, ap, ◌∙◌}
use mathlib.Core.List.{List, [], ◌∷◌, ◌++◌}
use mathlib.Core.Bool.{Bool, true, false, cond}
use native.Mathlib.Omega.{arith}
use lib.ListN.{length, take, drop, replicate, length-replicate}
use lib.Seq.{length-sets, take-append_seam, take_at}
use lib.Dec.{ltb}
use borrow.Author.Tests.{le-ltb}
use Rattle.std.proofs.lemmas.Bool.Decides.{nat_tests}
use Rattle.worker.specs.Worker.{started_worker}
use Rattle.worker.specs.Refusals.{Test, refusal_number, judged}
use Rattle.worker.specs.declared.refusal.Refusal.{Refusal}
use Rattle.worker.specs.declared.report.Step.{Step}
use Rattle.worker.specs.declared.refusal.Refusal.TheVariants.{NoRoom}
use Rattle.std.specs.Prelude.{Result, Ok, Err}
use Rattle.words.specs.Layout.{good_counts, total}
use Rattle.words.specs.Records.{with_worker}
use Rattle.words.specs.Replies.{refused, accepted, refusing, reply, replied}
use Rattle.words.proofs.Bounds.{counts}
use Rattle.words.proofs.Judged.{numbered_on, judged_numbered, judged_accepted, given_values}
use Rattle.words.specs.Flat.{flat_words}
use Rattle.words.specs.Entries.{entries_of, entry_width, entry_words, entry_laws, most_entries}
use Rattle.words.proofs.FlatLaws.{flat_length}
use Rattle.words.specs.declared.entry.Entry.{Entry}
use Rattle.arena.specs.Init.{fresh_words}
use Rattle.arena.specs.Start.{start_refusals, start_arena}
use Rattle.arena.specs.Snapshot.{keys_of, Listed}
use Rattle.arena.proofs.FreshLaws.{fresh_length}
use Rattle.lazy.specs.Turn.{turn_on, turned_arena, turn_arena}
use Rattle.lazy.proofs.ChangeLaws.{changes_long}
use Rattle.linear.specs.Entries.{is_turn, after}
use Rattle.linear.specs.History.{arena_at, totals}
use Rattle.linear.proofs.Timeline.{fresh_schedule, Schedule, last, arena, entry}
use Rattle.schedule.specs.declared.Call.{Call}
use Rattle.schedule.specs.declared.Wait.{Wait}
use Rattle.schedule.specs.declared.Totals.{Totals}
use Rattle.schedule.specs.Run.{is_operation, count_in, is_bad_schedule, run_refusals, run_answer, run_arena, row_after, run_records, run_waits, records_of, waits_of, totals_of, totals_values}
use Rattle.schedule.proofs.HistoryLaws.{Accepted, run_passed, told_calls, told_waits}
use Rattle.schedule.proofs.Running.{calls_few, waits_few}
use Rattle.history.specs.Rows.{no_call, no_wait}
use Rattle.bench_input.specs.declared.BadLine.{BadLine}
use Rattle.bench_input.specs.declared.Plan.{Plan}
use Rattle.bench_input.specs.Input.{Reading, planned, bad_line, reading_of, parsed_of, scheduled}
use Rattle.bench_input.proofs.PlanLaws.{planned_sound, planned_words}
use Rattle.bench_print.specs.Print.{bad_line_text, refused_text, totals_text, roll_text}
use Rattle.bench_run.proofs.RollLaws.{roll_fits}
use Rattle.bench_run.specs.Output.{arena_words, record_count, wait_count, calls_text, run_text, schedule_text, reading_text, output_of}

-- no entry changes the number of the words
judged_length : (rs : List Test) (before after : List ℕ) → length after ≡ length before →
    length (judged rs (λ refusal. before) after) ≡ length before
judged_length [] before after same = same
judged_length (r ∷ rs) before after same = grind (arith, nat_tests, judged_length rs before after same)

turned_length : (words : List ℕ) (worker : ℕ) (t : Result Step Refusal) → length (turned_arena words worker t) ≡ length words
unfolding with_worker
turned_length words worker (Ok step) = rw length-sets (changes_long words step)
turned_length words worker (Err refusal) = refl

after_length : (words : List ℕ) (x : Entry) → length (after words x) ≡ length words
unfolding after start_arena turn_arena with_worker
after_length words x = go (is_turn x)
  where
    go : (turning : Bool) → length (cond turning (turn_arena words x.worker) (start_arena words x.worker x.act x.key x.length)) ≡ length
        words
    go true = turned_length words x.worker (turn_on words x.worker)
    go false = judged_length (start_refusals words x.worker x.act x.key x.length) words
        (with_worker words x.worker (started_worker x.act x.key x.length)) (rw length-sets)

arena_length : (r : Schedule) (time : ℕ) → length r.initial ≡ total r.workers r.nodes →
    length (arena r time) ≡ total r.workers r.nodes
unfolding arena_at
arena_length r zero fresh = fresh
arena_length r (suc time) fresh = after_length (arena r time) (entry r time) ∙ arena_length r time fresh

-- what is printed of a refusal
abbrev pub text_of : Refusal → List ℕ
text_of refusal = refused_text (refusal_number refusal)

module _ (workers nodes : ℕ) (schedule : List ℕ) where
  abbrev lent : List ℕ
  lent = replicate arena_words 0

  abbrev refusals : List Test
  refusals = run_refusals lent workers nodes schedule record_count wait_count

  pub refused_text_lem : {number : ℕ} → refused number ≡ run_answer lent workers nodes schedule record_count wait_count →
      refused_text number ≡ schedule_text workers nodes schedule
  unfolding schedule_text run_answer
  refused_text_lem told =
      ap refused_text (numbered_on refusals _ told) ∙ sym (judged_numbered refusals _ text_of (run_text workers nodes schedule) told)

  module _ (t : Totals) (told : reply totals_values (Ok t) ≡ run_answer lent workers nodes schedule record_count wait_count) where
    pub passed : Accepted lent workers nodes schedule record_count wait_count
    unfolding run_answer
    passed = run_passed lent workers nodes schedule record_count wait_count _ told

    abbrev run : Schedule
    run = fresh_schedule workers nodes (entries_of schedule) passed.counts

    -- where the run is accepted, its text is printed
    pub done_text : run_text workers nodes schedule ≡ schedule_text workers nodes schedule
    unfolding schedule_text run_answer
    done_text = sym (judged_accepted refusals _ text_of (run_text workers nodes schedule) told)

    pub totals_are : t ≡ totals_of (totals (fresh_words workers nodes) (entries_of schedule))
    unfolding run_answer
    totals_are =
        let all = totals (fresh_words workers nodes) (entries_of schedule) in
        let same : t.entries ∷ t.refused ∷ t.waits ∷ t.calls ∷ [] ≡ all.entries ∷ all.refused ∷ all.waits ∷ all.calls ∷ []
        = given_values refusals (all.entries ∷ all.refused ∷ all.waits ∷ all.calls ∷ []) told in
        let entries_same : t.entries ≡ all.entries = cc in
        let refused_same : t.refused ≡ all.refused = cc in
        let waits_same : t.waits ≡ all.waits = cc in
        let calls_same : t.calls ≡ all.calls = cc in
        λ k. record { entries = entries_same k; refused = refused_same k; waits = waits_same k; calls = calls_same k }

    -- a row that is told has its records first
    first_told : {A : Type 0} (records row : List A) → take (length records) (row_after refusals records row) ≡ records
    unfolding row_after run_answer
    first_told records row =
        ap (take (length records)) (judged_accepted refusals _ (λ refusal. row) (records ++ drop (length records) row) told)
        ∙ take-append_seam records (drop (length records) row)

    -- so the first records of the rows are those of the calls and of the waits, as many as there are
    calls_counted : t.calls ≡ length (records_of workers nodes schedule)
    calls_counted = ap (λ (all : Totals). all.calls) totals_are ∙ told_calls workers nodes schedule

    waits_counted : t.waits ≡ length (waits_of workers nodes schedule)
    waits_counted = ap (λ (all : Totals). all.waits) totals_are ∙ told_waits workers nodes schedule

    pub records_are : take t.calls (run_records lent workers nodes schedule (replicate record_count no_call) wait_count)
        ≡ records_of workers nodes schedule
    records_are = rw (calls_counted, length-replicate) (first_told (records_of workers nodes schedule) (replicate record_count no_call))

    pub waits_are : take t.waits (run_waits lent workers nodes schedule record_count (replicate wait_count no_wait))
        ≡ waits_of workers nodes schedule
    waits_are = rw (waits_counted, length-replicate) (first_told (waits_of workers nodes schedule) (replicate wait_count no_wait))

    pub few_calls : t.calls ≤ record_count
    few_calls = omega (arith, calls_counted, calls_few workers nodes schedule passed.counts, passed.calls_fit)

    pub few_waits : t.waits ≤ wait_count
    few_waits = omega (arith, waits_counted, waits_few workers nodes schedule passed.counts, passed.waits_fit)

    -- and the first words are the arena
    pub arena_are : take (total workers nodes) (run_arena lent workers nodes schedule record_count wait_count)
        ≡ arena_at (fresh_words workers nodes) (entries_of schedule) (length (entries_of schedule))
    unfolding run_arena run_answer
    arena_are =
        ap (take (total workers nodes))
        (judged_accepted refusals _ (λ refusal. lent) (arena run (last run) ++ drop (total workers nodes) lent) told)
        ∙ take_at (arena run (last run)) (drop (total workers nodes) lent) (total workers nodes)
        (arena_length run (last run) (fresh_length workers nodes (omega (arith, counts workers nodes passed.counts))))

    pub roll_room : Listed (arena_at (fresh_words workers nodes) (entries_of schedule) (length (entries_of schedule))) (replicate 1024 0)
    roll_room = roll_fits run (last run)

    -- and these are the parts of what is printed
    pub whole_text : {row : List Call} {waits : List Wait} {words : List ℕ} {end : ℕ} →
        row ≡ run_records lent workers nodes schedule (replicate record_count no_call) wait_count →
        waits ≡ run_waits lent workers nodes schedule record_count (replicate wait_count no_wait) →
        words ≡ run_arena lent workers nodes schedule record_count wait_count → end ≡ total workers nodes →
        totals_text t ++ calls_text (take t.waits waits) 0 (take t.calls row) ++ roll_text (keys_of (take end words))
        ≡ schedule_text workers nodes schedule
    unfolding run_text
    whole_text r v w e = rw (r, v, w, e, records_are, waits_are, arena_are, totals_are) done_text

-- what is printed of a bad line, and of a plan
module _ (input : List ℕ) where
  pub bad_text : {bad : BadLine} → Err bad ≡ parsed_of (reading_of input) → bad_line_text bad.0 ≡ output_of input
  unfolding output_of
  bad_text {bad} told = go (reading_of input) told
    where
      go : (o : Reading) → Err bad ≡ parsed_of o → bad_line_text bad.0 ≡ reading_text o
      go (planned workers nodes entries) e = cc
      go (bad_line number entries) e =
          let same : bad ≡ record { 0 = number } = cc in ap (λ (b : BadLine). bad_line_text b.0) same

  module _ (plan : Plan) (words : List ℕ) (told : Ok plan ≡ parsed_of (reading_of input))
      (written : words ≡ scheduled (replicate 16000 0) (reading_of input)) where
    -- the plan of a reading
    as_planned : (o : Reading) → Ok plan ≡ parsed_of o →
        (entries : List Entry) × (o ≡ planned plan.workers plan.nodes entries) × (plan.entries ≡ length entries)
    as_planned (planned workers nodes entries) e =
        let same : plan ≡ record { workers = workers; nodes = nodes; entries = length entries } = cc in
        (entries, rw same, ap (λ (p : Plan). p.entries) same)
    as_planned (bad_line number entries) e = absurd cc

    pub plan_fits : entry_width * plan.entries ≤ 16000
    plan_fits =
        let is = as_planned (reading_of input) told in
        omega (arith, is.2, (planned_sound input plan.workers plan.nodes is.0 is.1).1)

    pub plan_text : schedule_text plan.workers plan.nodes (take (entry_width * plan.entries) words) ≡ output_of input
    unfolding output_of
    plan_text =
        let is = as_planned (reading_of input) told in
        ap (schedule_text plan.workers plan.nodes)
        (ap (λ n. take (entry_width * n) words) is.2 ∙ ap (take (entry_width * length is.0)) written
        ∙ planned_words input plan.workers plan.nodes is.0 is.1 (replicate 16000 0) (rw length-replicate (omega arith)))
        ∙ sym (ap reading_text is.1)

-- of a plan the counts and the length of the schedule are good, and the arena's words are enough: only the rows may be too short
good_plan : (entries : List Entry) → length entries ≤ most_entries → is_bad_schedule (flat_words entry_words entries) ≡ false
unfolding is_bad_schedule
good_plan entries few =
    let sized = flat_length entry_laws entries in
    let whole_entries : length (flat_words entry_words entries) % entry_width ≡ 0 = omega (arith, sized) in
    rw (whole_entries, le-ltb 16000 (length (flat_words entry_words entries)) (omega (arith, few, sized)))

wide_enough : (workers nodes : ℕ) → good_counts workers nodes ≡ true →
    ltb (length {A = ℕ} (replicate arena_words 0)) (total workers nodes) ≡ false
wide_enough workers nodes good =
    le-ltb (length {A = ℕ} (replicate arena_words 0)) (total workers nodes)
    (omega (arith, counts workers nodes good, length-replicate {A = ℕ} arena_words 0))

pub only_no_room : (input : List ℕ) (workers nodes : ℕ) (entries : List Entry) → reading_of input ≡ planned workers nodes entries →
    {number : ℕ} → refused number ≡ replied (run_refusals (replicate arena_words 0) workers nodes (flat_words entry_words entries) record_count wait_count) [] →
    number ≡ refusal_number NoRoom
unfolding run_refusals
only_no_room input workers nodes entries plan {number} told =
    let sound = planned_sound input workers nodes entries plan in
    go (ltb record_count (count_in is_operation (entries_of (flat_words entry_words entries)))) (ltb wait_count (count_in is_turn (entries_of (flat_words entry_words entries))))
    (rw (sound.0, good_plan entries sound.1, wide_enough workers nodes sound.0) at told)
  where
    go : (short few : Bool) → refused number ≡ cond short (refusing NoRoom) (cond few (refusing NoRoom) (accepted [])) → number ≡ refusal_number NoRoom
    go true few e = cc
    go false true e = cc
    go false false e = let z : ◌≡◌ {A = ℕ} 0 1 = cc in absurd (omega arith)
