-- what the source and the sink in memory answer: which of their calls fail, and how many bytes move
use Rattle.std.specs.Prelude.{ℕ, ◌+◌, ◌-◌, ◌^◌, min, if◌then◌else◌, ◌==◌, Bool, ◌||◌, List, [], ◌∷◌, take, drop, None, Some}
use Rattle.std.specs.List.{list_any}
use Rattle.std.specs.declared.option.Option.{Option}
use Rattle.rh_io.specs.Bytes.{Moves, Stays}

-- a source at a place in its bytes moves on to a further place
abbrev pub MovesOn : List ℕ → ℕ → List ℕ → ℕ → List ℕ → Type 0
MovesOn bytes place after next moved =
    Moves (Some (drop place bytes)) (Some (drop next after)) (Some (take place bytes))
    (Some (take next after)) moved

-- a source at a place in its bytes stays there
abbrev pub StaysAt : List ℕ → ℕ → List ℕ → ℕ → Type 0
StaysAt bytes place after next =
    Stays (Some (drop place bytes)) (Some (drop next after)) (Some (take place bytes))
    (Some (take next after))

-- the number of the next call, from 1
abbrev pub next_call : ℕ → ℕ
next_call calls = min (calls + 1) (2 ^ 64 - 1)

-- the call is one of those that are to fail
abbrev pub is_to_fail : List ℕ → ℕ → Bool
is_to_fail fails call = list_any (λ f. f == call) fails

-- how many bytes a read moves into the room, or that it fails
abbrev pub read_moves : Bool → ℕ → ℕ → Option ℕ
read_moves to_fail room left =
    if room == 0 then Some 0 else (if to_fail then None else Some (min room left))

-- how many bytes a write moves to where so many are free, or that it fails
abbrev pub write_moves : Bool → ℕ → ℕ → Option ℕ
write_moves to_fail piece free =
    if piece == 0 then Some 0 else (if to_fail || free == 0 then None else Some (min piece free))

-- how many bytes are sure to be taken where so many are free: all of them where no write is to fail
abbrev pub free_for_sure : List ℕ → ℕ → ℕ
free_for_sure [] free = free
free_for_sure (call ∷ calls) free = 0
