-- the line that lets all that can go on do so, in rounds (profile)
use Rattle.std.specs.Prelude.{ℕ, zero, suc, ◌+◌, ◌&&◌, List, [], ◌∷◌, Bool, true, false, max, nat_le, if◌then◌else◌, length, Some, None}
use Rattle.std.specs.declared.option.Option.{Option}
use Rattle.rh_text.specs.declared.ends.Side.{Side}
use Rattle.rh_text.specs.declared.ends.Side.TheVariants.{Client, Server}
use Rattle.rh_text.specs.declared.ends.Dir.{Dir}
use Rattle.rh_text.specs.declared.ends.Dir.TheVariants.{U, D}
use Rattle.rh_line.specs.declared.leg.Leg.{Leg}
use Rattle.rh_line.specs.declared.leg.TheConstants.{LAST_NUMBER}
use Rattle.rh_line.specs.declared.leg.LegKind.{LegKind}
use Rattle.rh_line.specs.declared.leg.LegKind.TheVariants.{ClientOut, OutServer, ClientIn, InServer}
use Rattle.rh_record.specs.declared.answer.Answer.{Answer}
use Rattle.rh_record.specs.declared.answer.Answer.TheVariants as answer
use Rattle.rh_record.specs.declared.answer.TakeAnswer.{TakeAnswer}
use Rattle.rh_record.specs.declared.answer.TakeAnswer.TheVariants as takes
use Rattle.rh_wires.specs.Legs as legs
use Rattle.rh_wires.specs.Wires.{sender}
use Rattle.rh_company.specs.Company as company
use Rattle.rh_company.specs.Company.{Rulebook}
use Rattle.rh_nodes.specs.declared.settling.TheConstants.{MOST_BYTES}
use Rattle.rh_nodes.specs.Breaking.{is_up, end_leg}
use Rattle.rh_nodes.specs.Carrying.{send, feed}
use Rattle.rh_nodes.specs.Giving.{Deeds, take, has_ended}
use Rattle.rh_nodes.specs.Opening.{Makers, open_leg, open_same, may_open_same}
use Rattle.rh_nodes.specs.Reports.{and_then, each}
use Rattle.rh_nodes.specs.World.{World, at}

-- the leg of a kind and a number
abbrev pub leg_at : LegKind → ℕ → Leg
leg_at kind number = record { kind = kind; number = number }

-- ---- part 1: each leg that can be opened is, in the order of legs

-- reported where it was opened
abbrev pub opened : {W : Type 0} → Leg → W × Bool → W × List Answer
opened leg (w, true) = (w, answer.OpenLeg leg true ∷ [])
opened leg (w, false) = (w, [])

abbrev pub opened_same : {W : Type 0} → Leg → W × Bool → W × List Answer
opened_same leg (w, true) = (w, answer.OpenSame leg true ∷ [])
opened_same leg (w, false) = (w, [])

abbrev pub open_next : {K C S I O : Type 0} → Rulebook C S I O → Makers K I O → Leg
    → World K C S I O → World K C S I O × List Answer
open_next r m leg w = opened leg (open_leg r m w leg)

-- to the proxy of its predecessor, where that is asked for and it may have the leg up
abbrev pub open_next_in : {K C S I O : Type 0} → Rulebook C S I O → Makers K I O → Leg
    → World K C S I O → World K C S I O × List Answer
open_next_in r m leg w =
    if w.same && may_open_same r w leg
    then opened_same leg (open_same r w leg)
    else open_next r m leg w

-- the number behind the greatest one that was used; there is no leg 0
abbrev pub next_number : ℕ → ℕ
next_number len = max len 1

-- there is no number above the last one
abbrev pub open_client_outs : {K C S I O : Type 0} → Rulebook C S I O → Makers K I O
    → World K C S I O → World K C S I O × List Answer
open_client_outs r m w =
    if nat_le (next_number (length w.legs.client_out)) LAST_NUMBER
    then open_next r m (leg_at ClientOut (next_number (length w.legs.client_out))) w
    else (w, [])

abbrev pub open_client_ins : {K C S I O : Type 0} → Rulebook C S I O → Makers K I O
    → World K C S I O → World K C S I O × List Answer
open_client_ins r m w =
    if nat_le (next_number (length w.legs.client_in)) LAST_NUMBER
    then open_next_in r m (leg_at ClientIn (next_number (length w.legs.client_in))) w
    else (w, [])

-- each proxy has a leg to the server
abbrev pub open_out_servers : {K C S I O : Type 0} → Rulebook C S I O → Makers K I O
    → World K C S I O → World K C S I O × List Answer
open_out_servers r m w =
    each (length w.company.outs) (λ number. open_next r m (leg_at OutServer number)) w

abbrev pub open_in_servers : {K C S I O : Type 0} → Rulebook C S I O → Makers K I O
    → World K C S I O → World K C S I O × List Answer
open_in_servers r m w =
    each (length w.company.ins) (λ number. open_next r m (leg_at InServer number)) w

abbrev pub open_all : {K C S I O : Type 0} → Rulebook C S I O → Makers K I O
    → World K C S I O → World K C S I O × List Answer
open_all r m w =
    and_then (and_then (and_then (open_client_outs r m w) (open_out_servers r m))
    (open_client_ins r m)) (open_in_servers r m)

-- ---- part 2: each leg that is up carries what it can, first towards the server

abbrev pub most_bytes : ℕ
most_bytes = MOST_BYTES

abbrev pub carry_bytes : {K C S I O : Type 0} → Rulebook C S I O → Leg → Dir
    → World K C S I O → World K C S I O × Option (List ℕ)
carry_bytes r leg dir w = feed r (send r w leg dir most_bytes).0 leg dir most_bytes

-- reported where bytes were fed
abbrev pub carried : {W : Type 0} → Leg → Dir → W × Option (List ℕ) → W × List Answer
carried leg dir (w, None) = (w, [])
carried leg dir (w, Some []) = (w, [])
carried leg dir (w, Some (b ∷ bytes)) =
    (w, answer.Move (Some leg) dir (Some (b ∷ bytes)) ∷ [])

abbrev pub carry : {K C S I O : Type 0} → Rulebook C S I O → Leg → Dir → World K C S I O
    → World K C S I O × List Answer
carry r leg dir w = carried leg dir (carry_bytes r leg dir w)

abbrev pub carry_both : {K C S I O : Type 0} → Rulebook C S I O → Leg → World K C S I O
    → World K C S I O × List Answer
carry_both r leg w = and_then (carry r leg U w) (carry r leg D)

abbrev pub carry_kind : {K C S I O : Type 0} → Rulebook C S I O → LegKind → World K C S I O
    → World K C S I O × List Answer
carry_kind r kind w =
    each (length (legs.of kind w.legs)) (λ number. carry_both r (leg_at kind number)) w

abbrev pub carry_all : {K C S I O : Type 0} → Rulebook C S I O → World K C S I O
    → World K C S I O × List Answer
carry_all r w =
    and_then (and_then (and_then (carry_kind r ClientOut w) (carry_kind r OutServer))
    (carry_kind r ClientIn)) (carry_kind r InServer)

-- ---- part 3: each end takes, first the client

-- reported where there was a PDU, and where it is Ended for the first time
abbrev pub took : {W : Type 0} → Side → Bool → W × TakeAnswer → W × List Answer
took side ended (w, takes.Pdu pdu) = (w, answer.Take side (takes.Pdu pdu) ∷ [])
took side ended (w, takes.Empty) = (w, [])
took side false (w, takes.Ended) = (w, answer.Take side takes.Ended ∷ [])
took side true (w, takes.Ended) = (w, [])
took side ended (w, takes.Closed why) = (w, [])

abbrev pub take_one : {K C S I O : Type 0} → Deeds C S → Side → World K C S I O
    → World K C S I O × List Answer
take_one d side w = took side (has_ended w side) (take d w side)

abbrev pub take_both : {K C S I O : Type 0} → Deeds C S → World K C S I O
    → World K C S I O × List Answer
take_both d w = and_then (take_one d Client w) (take_one d Server)

-- ---- part 4: each leg that is up and finished ends

-- the end that puts what goes in a direction has it finished, and nothing is in flight there
abbrev pub is_finished : {K C S I O : Type 0} → Rulebook C S I O → Leg → Dir → World K C S I O
    → Bool
is_finished r leg dir w =
    company.finished r w.company (at w leg (sender dir)) leg && legs.is_clear leg dir w.legs

-- in which direction it ends
abbrev pub ends_now : {K C S I O : Type 0} → Rulebook C S I O → Leg → World K C S I O → Option Dir
ends_now r leg w =
    if is_up w leg then (if is_finished r leg U w then Some U
    else (if is_finished r leg D w then Some D else None))
    else None

abbrev pub ended : {W : Type 0} → Leg → Dir → W × Bool → W × List Answer
ended leg dir did = (did.0, answer.EndLeg leg dir did.1 ∷ [])

abbrev pub end_where : {K C S I O : Type 0} → Rulebook C S I O → Leg → World K C S I O
    → Option Dir → World K C S I O × List Answer
end_where r leg w None = (w, [])
end_where r leg w (Some dir) = ended leg dir (end_leg r w leg dir)

abbrev pub end_one : {K C S I O : Type 0} → Rulebook C S I O → Leg → World K C S I O
    → World K C S I O × List Answer
end_one r leg w = end_where r leg w (ends_now r leg w)

abbrev pub end_kind : {K C S I O : Type 0} → Rulebook C S I O → LegKind → World K C S I O
    → World K C S I O × List Answer
end_kind r kind w =
    each (length (legs.of kind w.legs)) (λ number. end_one r (leg_at kind number)) w

abbrev pub end_all : {K C S I O : Type 0} → Rulebook C S I O → World K C S I O
    → World K C S I O × List Answer
end_all r w =
    and_then (and_then (and_then (end_kind r ClientOut w) (end_kind r OutServer))
    (end_kind r ClientIn)) (end_kind r InServer)

-- ---- rounds

abbrev pub round : {K C S I O : Type 0} → Rulebook C S I O → Makers K I O → Deeds C S
    → World K C S I O → World K C S I O × List Answer
round r m d w =
    and_then (and_then (and_then (open_all r m w) (carry_all r)) (take_both d)) (end_all r)

-- rounds go on behind one that reported something; one that reported nothing ends them, and isn't
-- counted
abbrev pub behind_round : {W : Type 0} → ℕ → W × List Answer → (W → W × List Answer)
    → W × List Answer
behind_round count (w, []) rest = (w, answer.Quiet count ∷ [])
behind_round count (w, a ∷ more) rest = and_then (w, a ∷ more) rest

unfoldable pub rounds_from : {W : Type 0} → ℕ → ℕ → (W → W × List Answer) → W → W × List Answer
rounds_from zero count one w = (w, answer.Spent count ∷ [])
rounds_from (suc left) count one w =
    behind_round count (one w) (λ next. rounds_from left (count + 1) one next)

-- so many rounds at most
abbrev pub settle : {K C S I O : Type 0} → Rulebook C S I O → Makers K I O → Deeds C S → ℕ
    → World K C S I O → World K C S I O × List Answer
settle r m d rounds w = rounds_from rounds 0 (round r m d) w
