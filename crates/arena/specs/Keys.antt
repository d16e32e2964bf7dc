-- The row in which a snapshot gathers keys: for the contracts of its inner functions.
use Rattle.std.specs.Prelude.{ℕ, suc, cond, set, ltb}
use Rattle.arena.specs.declared.chain.Label.{Label}
use Rattle.arena.specs.declared.keys.Keys.{Keys}

-- one key more, where there is room: the lent row has 1,024 places
abbrev pub listed : Keys → ℕ → Label → Keys
listed keys node label =
    cond (ltb keys.count 1024)
    (record { row = record keys.row { now = set keys.row.now keys.count label.key }; count = suc keys.count })
    keys
