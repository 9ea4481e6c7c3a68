-- the whole frames of a list of bytes, and what is left
use Rattle.std.specs.Prelude.{ℕ, zero, suc, List, [], ◌∷◌, length, take, drop, Bool, true, false, ◌&&◌}
use Rattle.std.specs.Prelude.{if◌then◌else◌, nat_le, Some, None}
use Rattle.std.specs.declared.option.Option.{Option}
use Rattle.rh_pdu.specs.declared.fault.HeadFault.{HeadFault}
use Rattle.rh_pdu.specs.Header.{header_length, frag_of, head_fault}

-- no rule is broken
abbrev pub is_sound : Option HeadFault → Bool
is_sound None = true
is_sound (Some fault) = false

-- a whole frame stands at the front
unfoldable pub begins_whole : List ℕ → Bool
begins_whole b =
    nat_le header_length (length b) && (is_sound (head_fault b) && nat_le (frag_of b) (length b))

-- at most n frames from the front
unfoldable pub cut : ℕ → List ℕ → List (List ℕ)
cut zero b = []
cut (suc n) b = if begins_whole b then take (frag_of b) b ∷ cut n (drop (frag_of b) b) else []

-- what is left behind at most n frames
unfoldable pub left : ℕ → List ℕ → List ℕ
left zero b = b
left (suc n) b = if begins_whole b then left n (drop (frag_of b) b) else b

-- the frames from the front, as many as there are: a frame takes a byte at least
abbrev pub frames_of : List ℕ → List (List ℕ)
frames_of b = cut (length b) b

-- what is left behind them
abbrev pub rest_of : List ℕ → List ℕ
rest_of b = left (length b) b
