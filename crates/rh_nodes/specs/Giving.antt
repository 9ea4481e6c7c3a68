-- the lines at the ends: PDUs are given and taken, an end closes, a channel is replaced (profile)
use Rattle.std.specs.Prelude.{ℕ, List, [], ◌∷◌, Bool, true, length, min, Ok, Err}
use Rattle.std.specs.declared.result.Result.{Result}
use Rattle.rh_text.specs.declared.ends.Side.{Side}
use Rattle.rh_text.specs.declared.ends.Side.TheVariants.{Client, Server}
use Rattle.rh_line.specs.declared.give_fault.GiveFault.{GiveFault}
use Rattle.rh_line.specs.declared.recycle_fault.RecycleFault.{RecycleFault}
use Rattle.rh_line.specs.declared.state.Take.{Take}
use Rattle.rh_line.specs.declared.state.Take.TheVariants as taken
use Rattle.rh_record.specs.declared.answer.Answer.{Answer}
use Rattle.rh_record.specs.declared.answer.Answer.TheVariants as answer
use Rattle.rh_record.specs.declared.answer.TakeAnswer.{TakeAnswer}
use Rattle.rh_record.specs.declared.answer.TakeAnswer.TheVariants.{Pdu, Empty, Ended, Closed}
use Rattle.rh_shell.specs.Rules.{Rules, Acts}
use Rattle.rh_shell.specs.Shells.{Shell}
use Rattle.rh_shell.specs.Ends as ends
use Rattle.rh_wires.specs.declared.counts.Counts.{Counts}
use Rattle.rh_wires.specs.Counts as counts
use Rattle.rh_nodes.specs.World.{World}

-- what each end does besides
pub record Deeds (C S : Type 0) : Type 0 where
  pub client : Acts C
  pub server : Acts S

abbrev pub deeds_of : {C S : Type 0} → Acts C → Acts S → Deeds C S
deeds_of client server = record { client = client; server = server }

-- a node of an end changed
abbrev pub with_client : {K C S I O : Type 0} → World K C S I O → Shell C → World K C S I O
with_client w node = record w { company = record w.company { client = node } }

abbrev pub with_server : {K C S I O : Type 0} → World K C S I O → Shell S → World K C S I O
with_server w node = record w { company = record w.company { server = node } }

-- ---- a PDU is given

abbrev pub length_of : List ℕ → ℕ
length_of pdu = min (length pdu) 65535

abbrev pub give_answer : List ℕ → Result (Unit {0}) GiveFault → Result ℕ GiveFault
give_answer pdu (Ok done) = Ok (length_of pdu)
give_answer pdu (Err fault) = Err fault

abbrev pub count_given : Counts → Result (Unit {0}) GiveFault → Counts
count_given count (Ok done) = counts.given count
count_given count (Err fault) = count

abbrev pub given_up : {K C S I O : Type 0} → World K C S I O → List ℕ
    → Shell C × Result (Unit {0}) GiveFault → World K C S I O × Result ℕ GiveFault
given_up w pdu did = (
  record w { company = record w.company { client = did.0 }; up = count_given w.up did.1 },
  give_answer pdu did.1,
)

abbrev pub given_down : {K C S I O : Type 0} → World K C S I O → List ℕ
    → Shell S × Result (Unit {0}) GiveFault → World K C S I O × Result ℕ GiveFault
given_down w pdu did = (
  record w { company = record w.company { server = did.0 }; down = count_given w.down did.1 },
  give_answer pdu did.1,
)

abbrev pub give_client : {K C S I O : Type 0} → Acts C → World K C S I O → List ℕ
    → World K C S I O × Result ℕ GiveFault
give_client acts w pdu = given_up w pdu (ends.give acts w.company.client pdu)

abbrev pub give_server : {K C S I O : Type 0} → Acts S → World K C S I O → List ℕ
    → World K C S I O × Result ℕ GiveFault
give_server acts w pdu = given_down w pdu (ends.give acts w.company.server pdu)

abbrev pub gave : {W : Type 0} → Side → W × Result ℕ GiveFault → W × Answer
gave side did = (did.0, answer.Give side did.1)

abbrev pub give : {K C S I O : Type 0} → Deeds C S → World K C S I O → Side → List ℕ
    → World K C S I O × Answer
give d w Client pdu = gave Client (give_client d.client w pdu)
give d w Server pdu = gave Server (give_server d.server w pdu)

-- ---- the next PDU is taken

abbrev pub first_of : List (List ℕ) → List ℕ
first_of [] = []
first_of (pdu ∷ pdus) = pdu

abbrev pub take_answer : Take → List (List ℕ) → TakeAnswer
take_answer (taken.Pdu len) pdus = Pdu (first_of pdus)
take_answer taken.Empty pdus = Empty
take_answer taken.Ended pdus = Ended
take_answer (taken.Closed why) pdus = Closed why

abbrev pub take_from : {S : Type 0} → Acts S → Shell S → Shell S × TakeAnswer
take_from acts node = (
  ends.after_take acts node,
  take_answer (ends.take_answer acts node) (acts.line node.role).current.pdus,
)

abbrev pub count_taken : Counts → TakeAnswer → Counts
count_taken count (Pdu pdu) = counts.taken count
count_taken count Empty = count
count_taken count Ended = count
count_taken count (Closed why) = count

abbrev pub ended_by : Bool → TakeAnswer → Bool
ended_by ended (Pdu pdu) = ended
ended_by ended Empty = ended
ended_by ended Ended = true
ended_by ended (Closed why) = ended

abbrev pub taken_down : {K C S I O : Type 0} → World K C S I O → Shell C × TakeAnswer
    → World K C S I O × TakeAnswer
taken_down w did = (
  record w {
    company = record w.company { client = did.0 };
    down = count_taken w.down did.1;
    client_ended = ended_by w.client_ended did.1;
  },
  did.1,
)

abbrev pub taken_up : {K C S I O : Type 0} → World K C S I O → Shell S × TakeAnswer
    → World K C S I O × TakeAnswer
taken_up w did = (
  record w {
    company = record w.company { server = did.0 };
    up = count_taken w.up did.1;
    server_ended = ended_by w.server_ended did.1;
  },
  did.1,
)

abbrev pub take_client : {K C S I O : Type 0} → Acts C → World K C S I O
    → World K C S I O × TakeAnswer
take_client acts w = taken_down w (take_from acts w.company.client)

abbrev pub take_server : {K C S I O : Type 0} → Acts S → World K C S I O
    → World K C S I O × TakeAnswer
take_server acts w = taken_up w (take_from acts w.company.server)

abbrev pub take : {K C S I O : Type 0} → Deeds C S → World K C S I O → Side
    → World K C S I O × TakeAnswer
take d w Client = take_client d.client w
take d w Server = take_server d.server w

-- a take at the end was answered Ended
abbrev pub has_ended : {K C S I O : Type 0} → World K C S I O → Side → Bool
has_ended w Client = w.client_ended
has_ended w Server = w.server_ended

-- ---- no PDU is given any more

abbrev pub close : {K C S I O : Type 0} → Deeds C S → World K C S I O → Side
    → World K C S I O × Answer
close d w Client =
    (with_client w (ends.close d.client w.company.client), answer.Close Client)
close d w Server =
    (with_server w (ends.close d.server w.company.server), answer.Close Server)

-- ---- a channel is replaced

abbrev pub recycled_in : {K C S I O : Type 0} → World K C S I O
    → Shell C × Result (Unit {0}) RecycleFault → World K C S I O × Answer
recycled_in w did = (with_client w did.0, answer.RecycleIn did.1)

abbrev pub recycled_out : {K C S I O : Type 0} → World K C S I O
    → Shell S × Result (Unit {0}) RecycleFault → World K C S I O × Answer
recycled_out w did = (with_server w did.0, answer.RecycleOut did.1)

abbrev pub recycle_in : {K C S I O : Type 0} → Acts C → Rules C → World K C S I O
    → World K C S I O × Answer
recycle_in acts rules w = recycled_in w (ends.recycle acts rules w.company.client)

abbrev pub recycle_out : {K C S I O : Type 0} → Acts S → Rules S → World K C S I O
    → World K C S I O × Answer
recycle_out acts rules w = recycled_out w (ends.recycle acts rules w.company.server)
