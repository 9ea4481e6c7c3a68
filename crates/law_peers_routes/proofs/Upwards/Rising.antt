-- legs that came up by moves, move by move
use Rattle.law_order.proofs.Vocabulary.{◌≡◌, ◌||◌, List, [], ◌∷◌, ◌++◌, Bool, true, false, refl, sym, ap, ◌∙◌, list_any}
use Rattle.law_moves.proofs.Vocabulary.{Leg, Move}
use Rattle.law_role_server.proofs.Takes.{or_again as or_assoc}
use Rattle.law_node_streams.specs.Streams.{is_up_on}

-- the leg came up by one of the moves
abbrev pub rose : Leg → List Move → Bool
rose leg moves = list_any (is_up_on leg) moves

-- ---- tests

pub or_nothing : (b : Bool) → b || false ≡ b
or_nothing true = refl
or_nothing false = refl

-- ---- moves

pub rose_more : (leg : Leg) (before : List Move) (move : Move)
    → rose leg (before ++ move ∷ []) ≡ rose leg before || is_up_on leg move
rose_more leg [] move = or_nothing (is_up_on leg move)
rose_more leg (first ∷ before) move =
    ap (λ b. is_up_on leg first || b) (rose_more leg before move)
    ∙ sym (or_assoc (is_up_on leg first) (rose leg before) (is_up_on leg move))
