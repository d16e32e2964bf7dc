-- One table of histories: a row has an arena and entries, and says what calls and waits they come to, the totals, and the set at the end.
use Rattle.std.specs.Prelude.{ℕ, List, [], ◌∷◌, ◌++◌, map, length, replicate}
use Rattle.worker.specs.Worker.{add, remove, contains}
use Rattle.worker.specs.Report.{answer_number}
use Rattle.worker.specs.declared.report.Answer.TheVariants.{Yes, No, Full}
use Rattle.words.specs.Layout.{stored_of}
use Rattle.words.specs.declared.entry.Entry.{Entry}
use Rattle.arena.specs.declared.chain.Label.{Label}
use Rattle.arena.specs.Sets.{set_of}
use Rattle.linear.specs.History.{Call, Wait, Totals, arena_at, calls, waits, totals}
use Rattle.linear.specs.Order.{in_order}
use Rattle.linear.specs.Sequential.{labels_after}

-- a start of a worker, with key and length, and so many turns of it
abbrev pub start : ℕ → ℕ → ℕ → ℕ → List Entry
start operation worker key length = record { worker = worker; act = operation; key = key; length = length } ∷ []

abbrev pub turn : ℕ → ℕ → List Entry
turn worker count = replicate count (record { worker = worker; act = 0; key = 0; length = 0 })

-- a call record: worker, operation, key, length, start, point, finish, answer
abbrev pub call : ℕ → ℕ → ℕ → ℕ → ℕ → ℕ → ℕ → ℕ → Call
call worker operation key length start point finish answer =
    record {
      worker = worker;
      operation = operation;
      key = key;
      length = length;
      start = start;
      point = point;
      finish = finish;
      answer = answer;
    }

-- a wait: the number of its call, its time, the node, the worker in the way
abbrev pub wait : ℕ → ℕ → ℕ → ℕ → Wait
wait call time node worker = record { call = call; time = time; node = node; worker = worker }

-- entries, refused, waits, calls
abbrev pub total : ℕ → ℕ → ℕ → ℕ → Totals
total entries refused waits calls = record { entries = entries; refused = refused; waits = waits; calls = calls }

-- key and length
abbrev pub label : ℕ → ℕ → Label
label key length = record { key = key; length = length }

-- what is asked of a list of entries: its calls, its waits, its totals, the starts of its calls in order; and at the end the set, on the arena and by
-- the sequential set, which begins with the arena's, and the count of stored labels
pub record Told : Type 0 where
  pub calls : List Call
  pub waits : List Wait
  pub totals : Totals
  pub order : List ℕ
  pub labels : List Label
  pub sequential : List Label
  pub stored : ℕ

pub data History : Type 0 where
  row : List ℕ → List Entry → Told → History

abbrev pub found : History → Told
found (row initial entries told) =
    record {
      calls = calls initial entries;
      waits = waits initial entries;
      totals = totals initial entries;
      order = map (λ (call : Call). call.start) (in_order initial entries);
      labels = set_of (arena_at initial entries (length entries));
      sequential = labels_after (set_of initial) (in_order initial entries);
      stored = stored_of (arena_at initial entries (length entries));
    }

abbrev pub stated : History → Told
stated (row initial entries told) = told

-- fresh arenas with 3 nodes, for 2 workers and for 1, written out (`Table.fresh_arenas`)
abbrev pub for_two : List ℕ
for_two =
    -- header
    2 ∷ 2 ∷ 3 ∷ 8 ∷ 24 ∷ 39 ∷ 0 ∷ 0
    -- idle workers
    ∷ 0 ∷ 0 ∷ 0 ∷ 65535 ∷ 65535 ∷ 65535 ∷ 0 ∷ 0
    ∷ 0 ∷ 0 ∷ 0 ∷ 65535 ∷ 65535 ∷ 65535 ∷ 0 ∷ 0
    -- Head, Tail, and an unused node
    ∷ 0 ∷ 1 ∷ 0 ∷ 0 ∷ 0
    ∷ 65535 ∷ 1 ∷ 0 ∷ 0 ∷ 0
    ∷ 0 ∷ 0 ∷ 0 ∷ 0 ∷ 0
    ∷ []

abbrev pub for_one : List ℕ
for_one =
    2 ∷ 1 ∷ 3 ∷ 8 ∷ 16 ∷ 31 ∷ 0 ∷ 0
    ∷ 0 ∷ 0 ∷ 0 ∷ 65535 ∷ 65535 ∷ 65535 ∷ 0 ∷ 0
    ∷ 0 ∷ 1 ∷ 0 ∷ 0 ∷ 0
    ∷ 65535 ∷ 1 ∷ 0 ∷ 0 ∷ 0
    ∷ 0 ∷ 0 ∷ 0 ∷ 0 ∷ 0
    ∷ []

-- an arena with 5 stored, as it comes to rest after an add; converted to layout 1; and from there to layout 2, with length 4 (`Table.comes_to_rest`,
-- `old_converted`, `new_converted`)
abbrev pub at_rest : List ℕ
at_rest =
    2 ∷ 1 ∷ 3 ∷ 8 ∷ 16 ∷ 31 ∷ 1 ∷ 0
    ∷ 0 ∷ 0 ∷ 0 ∷ 65535 ∷ 65535 ∷ 65535 ∷ 0 ∷ 0
    ∷ 0 ∷ 2 ∷ 0 ∷ 0 ∷ 0
    ∷ 65535 ∷ 1 ∷ 0 ∷ 0 ∷ 0
    ∷ 5 ∷ 1 ∷ 0 ∷ 0 ∷ 1
    ∷ []

abbrev pub old_arena : List ℕ
old_arena =
    1 ∷ 1 ∷ 3 ∷ 8 ∷ 16 ∷ 28 ∷ 0 ∷ 0
    ∷ 0 ∷ 0 ∷ 0 ∷ 65535 ∷ 65535 ∷ 65535 ∷ 0 ∷ 0
    ∷ 0 ∷ 2 ∷ 0 ∷ 0
    ∷ 65535 ∷ 1 ∷ 0 ∷ 0
    ∷ 5 ∷ 1 ∷ 0 ∷ 0
    ∷ []

abbrev pub new_arena : List ℕ
new_arena =
    2 ∷ 1 ∷ 3 ∷ 8 ∷ 16 ∷ 31 ∷ 1 ∷ 0
    ∷ 0 ∷ 0 ∷ 0 ∷ 65535 ∷ 65535 ∷ 65535 ∷ 0 ∷ 0
    ∷ 0 ∷ 2 ∷ 0 ∷ 0 ∷ 0
    ∷ 65535 ∷ 1 ∷ 0 ∷ 0 ∷ 0
    ∷ 5 ∷ 1 ∷ 0 ∷ 0 ∷ 4
    ∷ []

-- document 01's bench listing, whole, with length 1 for each add (document 02, A2)
abbrev pub listing : List Entry
listing =
    start add 0 5 1
    ++ turn 0 14
    ++ start contains 1 5 0
    ++ turn 1 4
    ++ start remove 0 5 0
    ++ turn 0 15
    ++ start add 0 7 1
    ++ turn 0 13
    ++ turn 1 2
    ++ start add 0 7 1
    ++ turn 0 14

-- a contains passes where its key will stand; the key goes in before it answers no, so that its point is long before its decision
abbrev pub overtaken : List Entry
overtaken = start contains 1 7 0 ++ turn 1 3 ++ start add 0 7 4 ++ turn 0 14 ++ turn 1 2

-- two adds of one key, with lengths 3 and 2, and a remove between them. The second add starts before the remove, stands on the node that
-- is removed, goes back, and takes it again: the set then has its length, 2
abbrev pub relabelled : List Entry
relabelled =
    start add 0 5 3
    ++ turn 0 14
    ++ start add 1 5 2
    ++ turn 1 2
    ++ start remove 0 5 0
    ++ turn 0 15
    ++ turn 1 21

-- one node besides Head and Tail: the second add is told full. An add without a length is refused
abbrev pub crowded : List Entry
crowded = start add 0 5 3 ++ turn 0 14 ++ start add 0 6 0 ++ start add 0 6 1 ++ turn 0 16

-- no such worker, busy, bad operation, bad key and bad length among the starts; worker 1 waits for Head, which worker 0 owns; no such worker
-- among the turns; calls without a finish, and one without a point
abbrev pub mixed : List Entry
mixed =
    start add 0 5 9
    ++ start add 2 5 1
    ++ start add 0 6 1
    ++ turn 0 4
    ++ start 4 1 7 0
    ++ start add 1 0 1
    ++ start remove 1 7 1
    ++ start remove 1 7 0
    ++ turn 1 4
    ++ turn 0 9
    ++ turn 1 1
    ++ turn 7 1

-- on an arena with a label: it is looked up and taken out, and another one is put in
abbrev pub onward : List Entry
onward = start contains 0 5 0 ++ turn 0 6 ++ start remove 0 5 0 ++ turn 0 15 ++ start add 0 7 2 ++ turn 0 14

abbrev pub histories : List History
histories =
    row for_two listing
    (record {
      calls =
          call 0 add 5 1 1 12 15 (answer_number Yes)
          ∷ call 1 contains 5 0 16 31 52 (answer_number No)
          ∷ call 0 remove 5 0 21 31 36 (answer_number Yes)
          ∷ call 0 add 7 1 37 47 50 (answer_number Full)
          ∷ call 0 add 7 1 53 64 67 (answer_number Yes)
          ∷ [];
      waits = [];
      totals = total 67 0 0 5;
      order = 1 ∷ 21 ∷ 16 ∷ 37 ∷ 53 ∷ [];
      labels = label 7 1 ∷ [];
      sequential = label 7 1 ∷ [];
      stored = 1;
    })
    ∷ row for_two overtaken
    (record {
      calls = call 1 contains 7 0 1 1 21 (answer_number No) ∷ call 0 add 7 4 5 16 19 (answer_number Yes) ∷ [];
      waits = [];
      totals = total 21 0 0 2;
      order = 1 ∷ 5 ∷ [];
      labels = label 7 4 ∷ [];
      sequential = label 7 4 ∷ [];
      stored = 1;
    })
    ∷ row for_two relabelled
    (record {
      calls =
          call 0 add 5 3 1 12 15 (answer_number Yes)
          ∷ call 1 add 5 2 16 52 55 (answer_number Yes)
          ∷ call 0 remove 5 0 19 29 34 (answer_number Yes)
          ∷ [];
      waits = [];
      totals = total 55 0 0 3;
      order = 1 ∷ 19 ∷ 16 ∷ [];
      labels = label 5 2 ∷ [];
      sequential = label 5 2 ∷ [];
      stored = 1;
    })
    ∷ row for_one crowded
    (record {
      calls = call 0 add 5 3 1 12 15 (answer_number Yes) ∷ call 0 add 6 1 17 30 33 (answer_number Full) ∷ [];
      waits = [];
      totals = total 33 1 0 2;
      order = 1 ∷ 17 ∷ [];
      labels = label 5 3 ∷ [];
      sequential = label 5 3 ∷ [];
      stored = 1;
    })
    ∷ row for_two mixed
    (record {
      calls = call 0 add 5 9 1 22 0 (answer_number Yes) ∷ call 1 remove 7 0 11 0 0 0 ∷ [];
      waits = wait 1 15 0 0 ∷ [];
      totals = total 26 6 1 2;
      order = 1 ∷ [];
      labels = label 5 9 ∷ [];
      sequential = label 5 9 ∷ [];
      stored = 1;
    })
    ∷ row new_arena onward
    (record {
      calls =
          call 0 contains 5 0 1 6 7 (answer_number Yes)
          ∷ call 0 remove 5 0 8 18 23 (answer_number Yes)
          ∷ call 0 add 7 2 24 35 38 (answer_number Yes)
          ∷ [];
      waits = [];
      totals = total 38 0 0 3;
      order = 1 ∷ 8 ∷ 24 ∷ [];
      labels = label 7 2 ∷ [];
      sequential = label 7 2 ∷ [];
      stored = 1;
    })
    ∷ []
