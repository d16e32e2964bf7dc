-- One table for the starred cases of document 01, "Small boards", restated for layout 2, and some of document 02: a row lends words,
-- makes some calls, asks one thing more, and says what is replied.
use Rattle.std.specs.Prelude.{ℕ, zero, suc, ◌+◌, List, [], ◌∷◌, ◌++◌, replicate, set}
use Rattle.worker.specs.Node.{head, no_node}
use Rattle.worker.specs.Worker.{add, remove, contains}
use Rattle.worker.specs.declared.refusal.Refusal.TheVariants.{ShortArena, OddHeader, NoSuchWorker, Busy, BadCall, BrokenRecord, NoRoom, BadCounts, OldLayout, BrokenCount}
use Rattle.worker.specs.Report.{report_values}
use Rattle.worker.specs.declared.report.Answer.TheVariants.{Yes, No}
use Rattle.worker.specs.declared.report.Report.{Report}
use Rattle.worker.specs.declared.report.Report.TheVariants.{Idle, Moved, Waits, Finished}
use Rattle.words.specs.Layout.{word, worker_from, worker_stage, worker_operation, stored_at}
use Rattle.words.specs.Replies.{Reply, accepted, refusing}
use Rattle.arena.specs.Init.{init_answer, init_arena}
use Rattle.arena.specs.Start.{start_answer, start_arena}
use Rattle.arena.specs.Snapshot.{snapshot_answer}
use Rattle.arena.specs.Stored.{stored_answer}
use Rattle.lazy.specs.FindFree.{find_free_answer}
use Rattle.lazy.specs.Turn.{turn_answer, turn_arena}
use Rattle.free_cells.specs.LongestFreeRun.{longest_free_run_answer}
use Rattle.convert.specs.Convert.{to_layout_2_answer, to_layout_2_target, to_layout_1_answer, to_layout_1_target}

-- what is asked of an arena: init with W and N, a start with worker, operation, key and length, so many turns of a worker, a snapshot with
-- so much room, the lowest free node, the longest free run up to a last cell, the count of stored labels, or the word at a place; or another
-- word is written there; or it is converted, to layout 2 with lent lengths, or to layout 1, into so many zeros, and these are what is asked then
pub data Ask : Type 0 where
  init : ℕ → ℕ → Ask
  start : ℕ → ℕ → ℕ → ℕ → Ask
  turns : ℕ → ℕ → Ask
  list : ℕ → Ask
  search : Ask
  longest : ℕ → Ask
  size : Ask
  look : ℕ → Ask
  write : ℕ → ℕ → Ask
  to_layout_2 : List ℕ → ℕ → Ask
  to_layout_1 : ℕ → Ask

abbrev pub after_turns : List ℕ → ℕ → ℕ → List ℕ
after_turns arena worker zero = arena
after_turns arena worker (suc count) = turn_arena (after_turns arena worker count) worker

-- the reply to the last of them
abbrev pub last_reply : List ℕ → ℕ → ℕ → Reply
last_reply arena worker zero = accepted []
last_reply arena worker (suc count) = turn_answer (after_turns arena worker count) worker

-- what is replied
abbrev pub reply_to : List ℕ → Ask → Reply
reply_to arena (init workers nodes) = init_answer arena workers nodes
reply_to arena (start worker operation key length) = start_answer arena worker operation key length
reply_to arena (turns worker count) = last_reply arena worker count
reply_to arena (list room) = snapshot_answer arena room
reply_to arena search = find_free_answer arena
reply_to arena (longest last) = longest_free_run_answer arena last
reply_to arena size = stored_answer arena
reply_to arena (look at) = accepted (word arena at ∷ [])
reply_to arena (write at value) = accepted []
reply_to arena (to_layout_2 lengths room) = to_layout_2_answer arena lengths room
reply_to arena (to_layout_1 room) = to_layout_1_answer arena room

-- and the arena afterwards
abbrev pub arena_after : List ℕ → Ask → List ℕ
arena_after arena (init workers nodes) = init_arena arena workers nodes
arena_after arena (start worker operation key length) = start_arena arena worker operation key length
arena_after arena (turns worker count) = after_turns arena worker count
arena_after arena (list room) = arena
arena_after arena search = arena
arena_after arena (longest last) = arena
arena_after arena size = arena
arena_after arena (look at) = arena
arena_after arena (write at value) = set arena at value
arena_after arena (to_layout_2 lengths room) = to_layout_2_target arena lengths (replicate room 0)
arena_after arena (to_layout_1 room) = to_layout_1_target arena (replicate room 0)

abbrev pub arena_after_all : List ℕ → List Ask → List ℕ
arena_after_all arena [] = arena
arena_after_all arena (ask ∷ asks) = arena_after_all (arena_after arena ask) asks

-- a row: so many lent words, what is asked first, what is asked then, and what that says
pub data Case : Type 0 where
  row : ℕ → List Ask → Ask → Reply → Case

abbrev pub found : Case → Reply
found (row words before ask reply) = reply_to (arena_after_all (replicate words 0) before) ask

abbrev pub stated : Case → Reply
stated (row words before ask reply) = reply

-- an arena of W 1, N 3
abbrev pub small : Ask
small = init 1 3

-- what a turn reports. One that finishes is the last of its call's turns: the next would report idle
abbrev pub report_reply : Report → Reply
report_reply report = accepted (report_values report)

-- only a label from cell 5 on stored, of so many cells, or of three; and after so many turns of its remove
abbrev pub labelled_by : ℕ → List Ask
labelled_by cells = small ∷ start 0 add 5 cells ∷ turns 0 14 ∷ []

abbrev pub labelled : List Ask
labelled = labelled_by 3

abbrev pub unlabelling : ℕ → List Ask
unlabelling count = labelled ++ start 0 remove 5 0 ∷ turns 0 count ∷ []

-- with another count, after so many turns of that add, and of that remove
abbrev pub adding_on : ℕ → ℕ → List Ask
adding_on stored turn = small ∷ start 0 add 5 3 ∷ turns 0 turn ∷ write stored_at stored ∷ []

abbrev pub removing_on : ℕ → ℕ → List Ask
removing_on stored turn = unlabelling turn ++ write stored_at stored ∷ []

-- two adds on an empty set: worker 0 has taken pred, and worker 1 wants it
abbrev pub two_adds : List Ask
two_adds = init 2 3 ∷ start 0 add 5 1 ∷ turns 0 4 ∷ start 1 add 7 1 ∷ turns 1 3 ∷ []

-- an old arena, of layout 1, with only 5 stored, at rest: an arena was converted to it. And another, in which all words behind the first six
-- are 0
abbrev pub old : List Ask
old = labelled_by 1 ++ to_layout_1 28 ∷ []

abbrev pub old_header : List Ask
old_header = write 0 1 ∷ write 1 1 ∷ write 2 3 ∷ write 3 8 ∷ write 4 16 ∷ write 5 28 ∷ []

-- an old arena becomes a new one, with lengths for Head, Tail and node 2, in so many words
abbrev pub renewed : ℕ → ℕ → Ask
renewed cells room = to_layout_2 (7 ∷ 8 ∷ cells ∷ []) room

-- there and back, with a length of 1
abbrev pub returned : List Ask
returned = old ++ renewed 1 31 ∷ to_layout_1 28 ∷ []

abbrev pub cases : List Case
cases =
    -- W 1, N 3: layout 2, node offset 16, total 31; 30 words: 1
    row 31 [] small (accepted [])
    ∷ row 31 (small ∷ []) (look 0) (accepted (2 ∷ []))
    ∷ row 31 (small ∷ []) (look 4) (accepted (16 ∷ []))
    ∷ row 31 (small ∷ []) (look 5) (accepted (31 ∷ []))
    ∷ row 30 [] small (refusing ShortArena)
    -- N 2: 10; W 9: 10
    ∷ row 31 [] (init 1 2) (refusing BadCounts)
    ∷ row 95 [] (init 9 3) (refusing BadCounts)
    -- start with key 0: 5; with 65,535: 5; 65,534 is accepted
    ∷ row 31 (small ∷ []) (start 0 add 0 1) (refusing BadCall)
    ∷ row 31 (small ∷ []) (start 0 contains 65535 0) (refusing BadCall)
    ∷ row 31 (small ∷ []) (start 0 add 65534 1) (accepted [])
    -- key 0 on a busy worker: 4
    ∷ row 31 (small ∷ start 0 contains 5 0 ∷ []) (start 0 add 0 1) (refusing Busy)
    -- turn of an idle worker: idle; of worker 1: 3
    ∷ row 31 (small ∷ []) (turns 0 1) (report_reply Idle)
    ∷ row 31 (small ∷ []) (turns 1 1) (refusing NoSuchWorker)
    -- alone on an empty set: add 5 takes 14 turns, contains 5 takes 5
    ∷ row 31 (small ∷ start 0 add 5 3 ∷ []) (turns 0 14) (report_reply (Finished Yes))
    ∷ row 31 (small ∷ start 0 contains 5 0 ∷ []) (turns 0 5) (report_reply (Finished No))
    -- with only 5 stored: contains 5 takes 6, remove 5 takes 15, add 5 takes 12
    ∷ row 31 (labelled ++ start 0 contains 5 0 ∷ []) (turns 0 6) (report_reply (Finished Yes))
    ∷ row 31 (labelled ++ start 0 remove 5 0 ∷ []) (turns 0 15) (report_reply (Finished Yes))
    ∷ row 31 (labelled ++ start 0 add 5 2 ∷ []) (turns 0 12) (report_reply (Finished No))
    -- two adds on an empty set, worker 0 at stage 7: worker 1 at 6 waits for Head, which worker 0 owns
    ∷ row 39 two_adds (look 8) (accepted (7 ∷ []))
    ∷ row 39 two_adds (look 16) (accepted (6 ∷ []))
    ∷ row 39 two_adds (turns 1 1) (report_reply (Waits head 0))
    -- an add with length 0: 5; key plus length is at most 65,535; a remove with a length: 5 (document 02, A2)
    ∷ row 31 (small ∷ []) (start 0 add 5 0) (refusing BadCall)
    ∷ row 31 (small ∷ []) (start 0 add 65534 2) (refusing BadCall)
    ∷ row 31 (small ∷ []) (start 0 remove 5 1) (refusing BadCall)
    -- once 5 is stored with length 3, that is the fifth word of node 2; an add of it with another length leaves it
    ∷ row 31 labelled (look 30) (accepted (3 ∷ []))
    ∷ row 31 (labelled ++ start 0 add 5 2 ∷ turns 0 12 ∷ []) (look 30) (accepted (3 ∷ []))
    -- with only 5 stored, remove 5 marks its node in its tenth turn and unlinks it in its twelfth: from the tenth on no key is listed, and no
    -- room is needed (document 02, A3)
    ∷ row 31 (unlabelling 9) (list 1) (accepted (1 ∷ []))
    ∷ row 31 (unlabelling 9) (list 0) (refusing NoRoom)
    ∷ row 31 (unlabelling 10) (list 0) (accepted (0 ∷ []))
    ∷ row 31 (unlabelling 12) (list 0) (accepted (0 ∷ []))
    -- fewer than 8 words: 1; 31 zeros: 2; on a fresh arena node 2 is free, and Head and Tail are read; with 5 stored no node is, and all are
    -- read; the removed node is free once the call has finished, and not before (document 02, A4)
    ∷ row 7 [] search (refusing ShortArena)
    ∷ row 31 [] search (refusing OddHeader)
    ∷ row 31 (small ∷ []) search (accepted (2 ∷ 2 ∷ []))
    ∷ row 31 labelled search (accepted (no_node ∷ 3 ∷ []))
    ∷ row 31 (unlabelling 14) search (accepted (no_node ∷ 3 ∷ []))
    ∷ row 31 (unlabelling 15) search (accepted (2 ∷ 2 ∷ []))
    -- with cells 5 to 7 in a label: up to 12 the longest free run is 8 to 12; up to 11 there are two of four cells, and the lower is told; up to 6,
    -- a cell of the label, it is 1 to 4; from the turn on that marks the label's node its cells are free (document 02, A5)
    ∷ row 31 labelled (longest 12) (accepted (8 ∷ 5 ∷ []))
    ∷ row 31 labelled (longest 11) (accepted (1 ∷ 4 ∷ []))
    ∷ row 31 labelled (longest 6) (accepted (1 ∷ 4 ∷ []))
    ∷ row 31 (unlabelling 9) (longest 12) (accepted (8 ∷ 5 ∷ []))
    ∷ row 31 (unlabelling 10) (longest 12) (accepted (1 ∷ 12 ∷ []))
    -- no label leaves all cells free; one of 65,534 cells leaves none
    ∷ row 31 (small ∷ []) (longest 65534) (accepted (1 ∷ 65534 ∷ []))
    ∷ row 31 (small ∷ start 0 add 1 65534 ∷ turns 0 14 ∷ []) (longest 65534) (accepted (0 ∷ 0 ∷ []))
    -- last cell 0, or 65,535: 5
    ∷ row 31 (small ∷ []) (longest 0) (refusing BadCall)
    ∷ row 31 (small ∷ []) (longest 65535) (refusing BadCall)
    -- no label is stored on a fresh arena; one is from the add's turn at 15 on, its eleventh, and none from the remove's at 16 on, its tenth
    -- (document 02, A6)
    ∷ row 31 (small ∷ []) size (accepted (0 ∷ []))
    ∷ row 31 (small ∷ start 0 add 5 3 ∷ turns 0 10 ∷ []) size (accepted (0 ∷ []))
    ∷ row 31 (small ∷ start 0 add 5 3 ∷ turns 0 11 ∷ []) size (accepted (1 ∷ []))
    ∷ row 31 (unlabelling 9) size (accepted (1 ∷ []))
    ∷ row 31 (unlabelling 10) size (accepted (0 ∷ []))
    ∷ row 31 (unlabelling 15) size (accepted (0 ∷ []))
    -- a count is at most N less 2: else 2
    ∷ row 31 (small ∷ write stored_at 1 ∷ []) size (accepted (1 ∷ []))
    ∷ row 31 (small ∷ write stored_at 2 ∷ []) size (refusing OddHeader)
    ∷ row 7 [] size (refusing ShortArena)
    -- stage 15 on a count of N less 2: 14; on one less it goes on. Stage 14 is not refused for it
    ∷ row 31 (adding_on 1 10) (turns 0 1) (refusing BrokenCount)
    ∷ row 31 (adding_on 0 10) (turns 0 1) (report_reply (Moved 19))
    ∷ row 31 (adding_on 1 9) (turns 0 1) (report_reply (Moved 15))
    -- stage 16 on a count of 0: 14, and nothing is written; 18 is not refused for it; a broken record comes first
    ∷ row 31 (removing_on 0 9) (turns 0 1) (refusing BrokenCount)
    ∷ row 31 (removing_on 0 9 ++ turns 0 1 ∷ []) (look (worker_from 0 + worker_stage)) (accepted (16 ∷ []))
    ∷ row 31 (removing_on 0 11) (turns 0 1) (report_reply (Moved 19))
    ∷ row 31 (removing_on 0 9 ++ write (worker_from 0 + worker_operation) add ∷ []) (turns 0 1) (refusing BrokenRecord)
    -- an old arena is refused with 12 by all but the converters, before 3 and before 5 (document 02, A8)
    ∷ row 31 old (start 0 contains 5 0) (refusing OldLayout)
    ∷ row 31 old (turns 0 1) (refusing OldLayout)
    ∷ row 31 old (list 1) (refusing OldLayout)
    ∷ row 31 old search (refusing OldLayout)
    ∷ row 31 old (longest 12) (refusing OldLayout)
    ∷ row 31 old size (refusing OldLayout)
    ∷ row 31 old (start 1 contains 5 0) (refusing OldLayout)
    ∷ row 31 old (start 0 contains 0 0) (refusing OldLayout)
    ∷ row 31 old (turns 1 1) (refusing OldLayout)
    ∷ row 31 old (longest 0) (refusing OldLayout)
    -- and no word is written
    ∷ row 31 (old ++ start 0 contains 5 0 ∷ turns 0 1 ∷ []) (look (worker_from 0 + worker_stage)) (accepted (0 ∷ []))
    -- where its word 6 is not 0 the header is odd: 2; the header alone decides; 27 words: 1
    ∷ row 31 (old ++ write stored_at 1 ∷ []) size (refusing OddHeader)
    ∷ row 31 (old ++ write stored_at 1 ∷ []) (turns 0 1) (refusing OddHeader)
    ∷ row 28 old_header (turns 0 1) (refusing OldLayout)
    ∷ row 27 old_header (turns 0 1) (refusing ShortArena)
    -- an old arena with 5 stored becomes a new one of 31 words: layout, total and count are new, the length of node 2 is the one lent, and Head's
    -- and Tail's are 0; then cells 5 to 7 are in a label, and 5 can be taken out (document 02, A7)
    ∷ row 31 old (renewed 3 31) (accepted [])
    ∷ row 31 (old ++ renewed 3 31 ∷ []) (look 0) (accepted (2 ∷ []))
    ∷ row 31 (old ++ renewed 3 31 ∷ []) (look 5) (accepted (31 ∷ []))
    ∷ row 31 (old ++ renewed 3 31 ∷ []) (look 20) (accepted (0 ∷ []))
    ∷ row 31 (old ++ renewed 3 31 ∷ []) (look 25) (accepted (0 ∷ []))
    ∷ row 31 (old ++ renewed 3 31 ∷ []) (look 30) (accepted (3 ∷ []))
    ∷ row 31 (old ++ renewed 3 31 ∷ []) size (accepted (1 ∷ []))
    ∷ row 31 (old ++ renewed 3 31 ∷ []) (longest 12) (accepted (8 ∷ 5 ∷ []))
    ∷ row 31 (old ++ renewed 3 31 ∷ start 0 remove 5 0 ∷ []) (turns 0 15) (report_reply (Finished Yes))
    -- a node that was taken out gets length 0, and is not counted
    ∷ row 31 (unlabelling 15 ++ to_layout_1 28 ∷ renewed 3 31 ∷ []) (look 30) (accepted (0 ∷ []))
    ∷ row 31 (unlabelling 15 ++ to_layout_1 28 ∷ renewed 3 31 ∷ []) size (accepted (0 ∷ []))
    -- a short source: 1; a source of layout 2, or with an odd header: 2; a busy worker: 4; 30 words, or lengths for two of three nodes: 8;
    -- length 0: 5
    ∷ row 7 [] (renewed 3 31) (refusing ShortArena)
    ∷ row 31 labelled (renewed 3 31) (refusing OddHeader)
    ∷ row 31 (old ++ write stored_at 1 ∷ []) (renewed 3 31) (refusing OddHeader)
    ∷ row 31 (old ++ write (worker_from 0 + worker_stage) 22 ∷ []) (renewed 3 31) (refusing Busy)
    ∷ row 31 old (renewed 3 30) (refusing NoRoom)
    ∷ row 31 old (to_layout_2 (7 ∷ 8 ∷ []) 31) (refusing NoRoom)
    ∷ row 31 old (renewed 0 31) (refusing BadCall)
    ∷ row 31 old (renewed 65530 31) (accepted [])
    ∷ row 31 old (renewed 65531 31) (refusing BadCall)
    -- the way back: with length 1 it is accepted, in 28 words, and the count is dropped; with length 2: 5; an old arena: 2; 27 words: 8
    ∷ row 31 (labelled_by 1) (to_layout_1 28) (accepted [])
    ∷ row 31 old (look 0) (accepted (1 ∷ []))
    ∷ row 31 old (look 5) (accepted (28 ∷ []))
    ∷ row 31 old (look stored_at) (accepted (0 ∷ []))
    ∷ row 31 old (look 24) (accepted (5 ∷ []))
    ∷ row 31 (labelled_by 2) (to_layout_1 28) (refusing BadCall)
    ∷ row 31 old (to_layout_1 28) (refusing OddHeader)
    ∷ row 31 (labelled_by 1) (to_layout_1 27) (refusing NoRoom)
    -- busy workers: 4; stage 26 of worker 1: 6, though worker 0 is busy
    ∷ row 39 two_adds (to_layout_1 36) (refusing Busy)
    ∷ row 39 (two_adds ++ write (worker_from 1 + worker_stage) 26 ∷ []) (to_layout_1 36) (refusing BrokenRecord)
    -- there and back: the same layout, total, count, next of Head, and key, next and owner of node 2
    ∷ row 31 returned (look 0) (accepted (1 ∷ []))
    ∷ row 31 returned (look 5) (accepted (28 ∷ []))
    ∷ row 31 returned (look stored_at) (accepted (0 ∷ []))
    ∷ row 31 returned (look 17) (accepted (2 ∷ []))
    ∷ row 31 returned (look 24) (accepted (5 ∷ []))
    ∷ row 31 returned (look 25) (accepted (1 ∷ []))
    ∷ row 31 returned (look 27) (accepted (0 ∷ []))
    ∷ []
