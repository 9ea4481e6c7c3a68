-- what one event of a report tells of gives and takes
use Rattle.law_order.proofs.Vocabulary.{◌≡◌, ◌++◌, ℕ, List, [], ◌∷◌, refl, sym, ap}
use Rattle.rh_record.specs.Events.Events.{Event, Gives, Takes, Ends, Closes}
use Rattle.law_moves.proofs.Vocabulary.{Side}
use Rattle.law_node_history.proofs.Vocabulary.{Answer, Refuses, Stops, Silent, event, events, of_end, given, taken}
use Rattle.law_world_reports.proofs.Telling.Adding.{Way, Given, Taken, Stopped}
use Rattle.law_world_reports.proofs.Ordering.Passing.{given_none as none_given}
use Rattle.law_world_reports.proofs.Vocabulary.{stopped}

-- what events tell
abbrev pub said : Way → Side → List (List ℕ) → List Event → List (List ℕ)
said Given end pdus events = given end pdus events
said Taken end pdus events = taken end events
said Stopped end pdus events = stopped end events

-- the first that was offered, where the end asked for gave it
abbrev pub first_given : Side → Side → List (List ℕ) → List (List ℕ)
first_given end at [] = []
first_given end at (pdu ∷ pdus) = of_end end at pdu

-- what one event tells
abbrev pub part : Way → Side → List (List ℕ) → Event → List (List ℕ)
part Given end pdus (Gives at) = first_given end at pdus
part Taken end pdus (Takes at pdu) = of_end end at pdu
part Stopped end pdus (Stops at) = of_end end at []
part way end pdus event = []

abbrev pub behind_first : List (List ℕ) → List (List ℕ)
behind_first [] = []
behind_first (pdu ∷ pdus) = pdus

-- what is still to be answered of what was offered
abbrev pub left : List (List ℕ) → Event → List (List ℕ)
left pdus (Gives at) = behind_first pdus
left pdus (Refuses at) = behind_first pdus
left pdus event = pdus

pub said_more : (way : Way) (end : Side) (pdus : List (List ℕ)) (event : Event)
    (events : List Event)
    → said way end pdus (event ∷ events)
    ≡ part way end pdus event ++ said way end (left pdus event) events
said_more Given end [] (Gives at) events = sym (none_given end events)
said_more Given end [] (Refuses at) events = sym (none_given end events)
said_more Given end [] (Takes at pdu) events = sym (none_given end events)
said_more Given end [] (Ends at) events = sym (none_given end events)
said_more Given end [] (Closes at) events = sym (none_given end events)
said_more Given end [] (Stops at) events = sym (none_given end events)
said_more Given end [] Silent events = sym (none_given end events)
said_more Given end (pdu ∷ pdus) (Gives at) events = refl
said_more Given end (pdu ∷ pdus) (Refuses at) events = refl
said_more Given end (pdu ∷ pdus) (Takes at one) events = refl
said_more Given end (pdu ∷ pdus) (Ends at) events = refl
said_more Given end (pdu ∷ pdus) (Closes at) events = refl
said_more Given end (pdu ∷ pdus) (Stops at) events = refl
said_more Given end (pdu ∷ pdus) Silent events = refl
said_more Taken end pdus (Gives at) events = refl
said_more Taken end pdus (Refuses at) events = refl
said_more Taken end pdus (Takes at one) events = refl
said_more Taken end pdus (Ends at) events = refl
said_more Taken end pdus (Closes at) events = refl
said_more Taken end pdus (Stops at) events = refl
said_more Taken end pdus Silent events = refl
said_more Stopped end pdus (Gives at) events = refl
said_more Stopped end pdus (Refuses at) events = refl
said_more Stopped end pdus (Takes at one) events = refl
said_more Stopped end pdus (Ends at) events = refl
said_more Stopped end pdus (Closes at) events = refl
said_more Stopped end pdus (Stops at) events = refl
said_more Stopped end pdus Silent events = refl

pub said_none : (way : Way) (end : Side) (pdus : List (List ℕ)) → said way end pdus [] ≡ []
said_none Given end pdus = refl
said_none Taken end pdus = refl
said_none Stopped end pdus = refl

pub part_silent : (way : Way) (end : Side) (pdus : List (List ℕ))
    → part way end pdus Silent ≡ []
part_silent Given end pdus = refl
part_silent Taken end pdus = refl
part_silent Stopped end pdus = refl

-- events of reports behind each other
pub events_append : (xs ys : List Answer) → events (xs ++ ys) ≡ events xs ++ events ys
events_append [] ys = refl
events_append (x ∷ xs) ys = ap (λ behind. event x ∷ behind) (events_append xs ys)
