-- The worker record (document 01: stage, operation, key, pred, curr, spare, answer; document 02, A2: length), idle and started.
use Rattle.std.specs.Prelude.{ℕ, ◌+◌, List, [], ◌∷◌, Bool, false, cond, ◌&&◌, ◌||◌, leb, eqb}
use Rattle.worker.specs.Node.{no_node}
use Rattle.worker.specs.declared.Worker.{Worker}

-- operations: 1 add, 2 remove, 3 contains
abbrev pub add : ℕ
add = 1

abbrev pub remove : ℕ
remove = 2

abbrev pub contains : ℕ
contains = 3

-- stages: 0 is idle, and none is above 25
abbrev pub idle_stage : ℕ
idle_stage = 0

abbrev pub last_stage : ℕ
last_stage = 25

-- low ≤ n ≤ high
abbrev pub within : ℕ → ℕ → ℕ → Bool
within low high n = leb low n && leb n high

-- a number that is one of these
abbrev pub among : List ℕ → ℕ → Bool
among [] n = false
among (m ∷ ms) n = eqb m n || among ms n

-- keys of calls are 1 to 65,534
abbrev pub is_key : ℕ → Bool
is_key key = within 1 65534 key

-- the length of a label (document 02, A2): 1 to 65,534, and key plus length at most 65,535
abbrev pub is_length : ℕ → ℕ → Bool
is_length key length = within 1 65534 length && leb (key + length) 65535

-- what a start carries: an add a length, every other start 0
abbrev pub carries : ℕ → ℕ → ℕ → Bool
carries operation key length = cond (eqb operation add) (is_length key length) (eqb length 0)

-- a call: operation 1 to 3, a key of calls, and what its start carries
abbrev pub is_call : ℕ → ℕ → ℕ → Bool
is_call operation key length = within add contains operation && is_key key && carries operation key length

-- a record that has met no node yet: stage, operation, key, none three times, 0, length
abbrev pub new_worker : ℕ → ℕ → ℕ → ℕ → Worker
new_worker stage operation key length =
    record {
      stage = stage;
      operation = operation;
      key = key;
      pred = no_node;
      curr = no_node;
      spare = no_node;
      answer = 0;
      length = length;
    }

-- idle: 0, 0, 0, three times 65,535, 0, 0
abbrev pub idle_worker : Worker
idle_worker = new_worker idle_stage 0 0 0

-- where a call begins: stage 1 (add, remove) or 22 (contains)
abbrev pub first_stage : ℕ → ℕ
first_stage operation = cond (eqb operation contains) 22 1

-- a start writes: its first stage, operation, key, none three times, 0, length
abbrev pub started_worker : ℕ → ℕ → ℕ → Worker
started_worker operation key length = new_worker (first_stage operation) operation key length
