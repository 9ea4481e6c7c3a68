-- a direction at its clean end: channel 2 replaced channel 1 and shared its far leg, and channel 3
-- with a far leg of its own replaced channel 2 (profile)
use Rattle.std.specs.Prelude.{ℕ, zero, suc, Bool, true, false, List, [], ◌∷◌}
use Rattle.law_order.specs.Items.{Piece, Stop, Handover}
use Rattle.law_order.specs.Logs.{Log}
use Rattle.law_order.specs.Shelves.{Shelves, new_shelves, blank}
use Rattle.law_order.specs.Passing.{Passer, new_passer}
use Rattle.law_order.specs.Routes.{Route}

abbrev pub first_pdu : List ℕ
first_pdu = 1 ∷ []

abbrev pub second_pdu : List ℕ
second_pdu = 2 ∷ []

abbrev pub third_pdu : List ℕ
third_pdu = 3 ∷ []

abbrev pub all_pdus : List (List ℕ)
all_pdus = first_pdu ∷ second_pdu ∷ third_pdu ∷ []

-- each channel's items where it is put
abbrev pub sent : Log
sent (suc zero) = Piece first_pdu ∷ Handover ∷ []
sent (suc (suc zero)) = Piece second_pdu ∷ Handover ∷ []
sent (suc (suc (suc zero))) = Piece third_pdu ∷ Stop ∷ []
sent n = []

abbrev pub has_far_leg : ℕ → Bool
has_far_leg zero = false
has_far_leg (suc (suc zero)) = false
has_far_leg n = true

-- the first proxy read the channels 1 and 2, the other one channel 3
abbrev pub came : ℕ → Log
came (suc zero) (suc zero) = sent 1
came (suc zero) (suc (suc zero)) = sent 2
came (suc (suc (suc zero))) (suc (suc (suc zero))) = sent 3
came m n = []

abbrev pub put : Log
put (suc zero) = Piece first_pdu ∷ Piece second_pdu ∷ Handover ∷ []
put (suc (suc (suc zero))) = Piece third_pdu ∷ Stop ∷ []
put n = []

abbrev pub handed_at : ℕ → Shelves
handed_at n = record (new_shelves n) { now = record blank { finished = true } }

abbrev pub ended_at : ℕ → Shelves
ended_at n = record (new_shelves n) { now = record blank { ended = true } }

abbrev pub proxies : ℕ → Passer
proxies (suc zero) = record { shelves = handed_at 2; end_put = false; handover_put = true }
proxies (suc (suc (suc zero))) =
    record { shelves = ended_at 3; end_put = true; handover_put = false }
proxies n = new_passer n

abbrev pub replaced_twice : Route
replaced_twice = record {
  giver = record {
    given = all_pdus;
    queue = [];
    closing = true;
    writing = 3;
    end_put = true;
  };
  proxies = proxies;
  taker = record { taken = all_pdus; shelves = ended_at 3 };
  legs = has_far_leg;
  known = has_far_leg;
  sent = sent;
  came = came;
  put = put;
  got = put;
}
