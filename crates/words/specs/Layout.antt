-- The word layout of an arena (document 01: board; document 02, A2 and A6: layout 2): a header, then worker records, then node records.
use Rattle.std.specs.Prelude.{ℕ, ◌+◌, ◌*◌, ◌-◌, List, [], ◌∷◌, Bool, ◌&&◌, get_or, take, drop}
use Rattle.worker.specs.Worker.{within}

-- the word at a place, counted from 0; past the end there are zeros
abbrev pub word : List ℕ → ℕ → ℕ
word words at = get_or words at 0

-- words of the header, and of a worker record
abbrev pub header_width : ℕ
header_width = 8

abbrev pub worker_width : ℕ
worker_width = 8

-- layouts: 2, in which a node has a length and the header a count; and 1, the old one, which the converters keep (document 02, A8)
abbrev pub layout1 : ℕ
layout1 = 1

abbrev pub layout2 : ℕ
layout2 = 2

-- words of a node record; in layout 1 it has none for a length
abbrev pub node_width : ℕ
node_width = 5

abbrev pub old_node_width : ℕ
old_node_width = 4

-- fields of a worker record: stage, operation, key, pred, curr, spare, answer, length
abbrev pub worker_stage : ℕ
worker_stage = 0

abbrev pub worker_operation : ℕ
worker_operation = 1

abbrev pub worker_key : ℕ
worker_key = 2

abbrev pub worker_pred : ℕ
worker_pred = 3

abbrev pub worker_curr : ℕ
worker_curr = 4

abbrev pub worker_spare : ℕ
worker_spare = 5

abbrev pub worker_answer : ℕ
worker_answer = 6

abbrev pub worker_length : ℕ
worker_length = 7

-- fields of a node record: key, next, mark, owner, length
abbrev pub node_key : ℕ
node_key = 0

abbrev pub node_next : ℕ
node_next = 1

abbrev pub node_mark : ℕ
node_mark = 2

abbrev pub node_owner : ℕ
node_owner = 3

abbrev pub node_length : ℕ
node_length = 4

-- where the record of a worker stands
abbrev pub worker_from : ℕ → ℕ
worker_from worker = header_width + worker_width * worker

-- where a field of a record stands among records of so many words
abbrev pub slot : ℕ → ℕ → ℕ → ℕ
slot width number field = width * number + field

-- offset of the node records (8 + 8W), and total (8 + 8W + 5N; in layout 1 8 + 8W + 4N)
abbrev pub nodes_from : ℕ → ℕ
nodes_from workers = worker_from workers

abbrev pub total : ℕ → ℕ → ℕ
total workers nodes = nodes_from workers + node_width * nodes

abbrev pub old_total : ℕ → ℕ → ℕ
old_total workers nodes = nodes_from workers + old_node_width * nodes

-- W is 1 to 8 and N is 3 to 1,024
abbrev pub good_counts : ℕ → ℕ → Bool
good_counts workers nodes = within 1 8 workers && within 3 1024 nodes

-- the count, which is the size of the set, is at most N less 2 (document 02, A6)
abbrev pub most_stored : ℕ → ℕ
most_stored nodes = nodes - 2

-- a header: layout, W, N, offset of the worker records (8), offset of the node records, total, count, 0
abbrev pub header_with : ℕ → ℕ → ℕ → ℕ → ℕ → List ℕ
header_with layout workers nodes total stored =
    layout ∷ workers ∷ nodes ∷ header_width ∷ nodes_from workers ∷ total ∷ stored ∷ 0 ∷ []

unfoldable pub header_words : ℕ → ℕ → ℕ → List ℕ
header_words workers nodes stored = header_with layout2 workers nodes (total workers nodes) stored

-- that of an old arena, which has no count
unfoldable pub old_header_words : ℕ → ℕ → List ℕ
old_header_words workers nodes = header_with layout1 workers nodes (old_total workers nodes) 0

-- where the count stands
abbrev pub stored_at : ℕ
stored_at = 6

-- the header words of an arena as they stand
abbrev pub workers_of : List ℕ → ℕ
workers_of arena = word arena 1

abbrev pub nodes_of : List ℕ → ℕ
nodes_of arena = word arena 2

abbrev pub nodes_from_of : List ℕ → ℕ
nodes_from_of arena = word arena 4

abbrev pub total_of : List ℕ → ℕ
total_of arena = word arena 5

abbrev pub stored_of : List ℕ → ℕ
stored_of arena = word arena stored_at

-- the worker records: the part behind the header
unfoldable pub worker_part : List ℕ → List ℕ
worker_part arena = take (worker_width * workers_of arena) (drop header_width arena)

-- the node records: the part from the node offset to the total
unfoldable pub node_part : List ℕ → List ℕ
node_part arena = take (total_of arena - nodes_from_of arena) (drop (nodes_from_of arena) arena)

-- where a field of a node stands in an arena
unfoldable pub node_from : List ℕ → ℕ → ℕ → ℕ
node_from arena node field = nodes_from_of arena + slot node_width node field
