-- queues by keys
use Rattle.std.specs.Prelude.{List, [], Some, None}
use Rattle.std.specs.declared.option.Option.{Option}

-- the items of a queue, where there is one
abbrev pub items_in : {Q X : Type 0} → (Q → List X) → Option Q → List X
items_in items None = []
items_in items (Some queue) = items queue
