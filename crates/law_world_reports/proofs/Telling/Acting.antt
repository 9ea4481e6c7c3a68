-- the acts at the ends: what they add, and what their answers tell
use Rattle.rh_text.specs.declared.ends.Side.TheVariants as side
use Rattle.law_order.proofs.Vocabulary.{◌≡◌, ℕ, List, [], ◌∷◌, Bool, true, false, Some, None, Ok, Err, refl, sym, ◌∙◌, Option, Result, append-nil}
use Rattle.rh_line.specs.Lines.{is_ended}
use Rattle.rh_line.specs.declared.state.Take.{Take}
use Rattle.rh_line.specs.Lines as lines
use Rattle.rh_line.specs.declared.line_take.LineTake.TheVariants as line_take
use Rattle.rh_line.specs.declared.state.Take.TheVariants as taken
use Rattle.rh_record.specs.Events.Events.{Event}
use Rattle.rh_record.specs.declared.answer.Answer.TheVariants as answer
use Rattle.rh_record.specs.declared.answer.TakeAnswer.TheVariants as takes
use Rattle.rh_record.specs.Events.Events as events
use Rattle.rh_shell.specs.Ends as ends
use Rattle.law_moves.proofs.Vocabulary.{Side, Line, Cause, GiveFault, LineTake, Course, Going, Closed, Refusing, cause_of, Acts, Shell, accepted, first_in, handed, handed_by, ClosedWith}
use Rattle.law_node_history.proofs.Vocabulary.{TakeAnswer, Silent, event, of_end, Rulebook, Deeds, give, give_answer, take, take_answer, take_from, has_ended, close, recycle_in, recycle_out, Makers, took, take_one, answered, reported, World, Change, Gives, Takes, Closes, RecyclesIn, RecyclesOut, MayChange, changed, of_line, HasClosed}
use Rattle.law_node_history.proofs.Lemmas.{works_one}
use Rattle.law_world_reports.proofs.Telling.Adding.{Way, Given, Taken, Stopped, adds, is_of_pdus}
use Rattle.law_world_reports.proofs.Telling.Parts.{part, part_silent, left}
use Rattle.law_world_reports.proofs.Telling.Tales.{Idle, Told, TaleOf, idle_none, idle_then, tale_none, tale_one}
use Rattle.law_world_reports.proofs.Vocabulary.{Tells, next_take, node_of}

-- what is of one end, asked for another
abbrev own : Side → Side → List (List ℕ) → List (List ℕ)
own side.Client side.Client pdus = pdus
own side.Client side.Server pdus = []
own side.Server side.Client pdus = []
own side.Server side.Server pdus = pdus

own_none : (end at : Side) → own end at [] ≡ []
own_none side.Client side.Client = refl
own_none side.Client side.Server = refl
own_none side.Server side.Client = refl
own_none side.Server side.Server = refl

-- ---- what a take is answered

-- the PDU of an answer
abbrev pdu_in : TakeAnswer → List (List ℕ)
pdu_in (takes.Pdu pdu) = pdu ∷ []
pdu_in takes.Empty = []
pdu_in takes.Ended = []
pdu_in (takes.Closed why) = []

line_handed : (pdus : List (List ℕ)) (ended : Bool)
    → first_in pdus ≡ pdu_in (take_answer (ends.take_of (lines.take_of pdus ended)) pdus)
line_handed [] true = refl
line_handed [] false = refl
line_handed (pdu ∷ pdus) ended = refl

module _ {S : Type 0} (acts : Acts S) (s : Shell S) where
  handed_where : (o : Option Cause)
      → handed_by acts s o
      ≡ pdu_in (take_answer (ends.take_answer_where acts s o) (acts.line s.role).current.pdus)
  handed_where (Some why) = refl
  handed_where None =
      line_handed (acts.line s.role).current.pdus (is_ended (acts.line s.role))

  handed_is : handed acts s ≡ pdu_in (take_from acts s).1
  handed_is = handed_where (cause_of s.course)

not_closed : (t : LineTake) (pdus : List (List ℕ)) (why : Cause)
    → take_answer (ends.take_of t) pdus ≡ takes.Closed why → ⊥
not_closed (line_take.Pdu len) pdus why e = absurd cc
not_closed line_take.Empty pdus why e = absurd cc
not_closed line_take.Ended pdus why e = absurd cc

closed_by : {S : Type 0} (acts : Acts S) (s : Shell S) (course : Course)
    (pdus : List (List ℕ)) (why : Cause)
    → take_answer (ends.take_answer_where acts s (cause_of course)) pdus ≡ takes.Closed why
    → ClosedWith why course
closed_by acts s Going pdus why e =
    absurd (not_closed (lines.take_answer (acts.line s.role)) pdus why e)
closed_by acts s (Closed first) pdus why e = cc
closed_by acts s (Refusing first leg rest) pdus why e = cc

ended_by : (t : Take) (pdus : List (List ℕ)) → take_answer t pdus ≡ takes.Ended
    → t ≡ taken.Ended
ended_by (taken.Pdu len) pdus e = absurd cc
ended_by taken.Empty pdus e = absurd cc
ended_by taken.Ended pdus e = refl
ended_by (taken.Closed why) pdus e = absurd cc

-- ---- what an answer tells

took_part : (end at : Side) (pdus : List (List ℕ)) (t : TakeAnswer)
    → own end at (pdu_in t) ≡ part Taken end pdus (event (answer.Take at t))
took_part side.Client side.Client pdus (takes.Pdu pdu) = refl
took_part side.Client side.Server pdus (takes.Pdu pdu) = refl
took_part side.Server side.Client pdus (takes.Pdu pdu) = refl
took_part side.Server side.Server pdus (takes.Pdu pdu) = refl
took_part end at pdus takes.Empty = own_none end at
took_part end at pdus takes.Ended = own_none end at
took_part end at pdus (takes.Closed why) = own_none end at

-- a take tells of nothing that was given
take_gave : (end at : Side) (pdus : List (List ℕ)) (t : TakeAnswer)
    → part Given end pdus (event (answer.Take at t)) ≡ []
take_gave end at pdus (takes.Pdu pdu) = refl
take_gave end at pdus takes.Empty = refl
take_gave end at pdus takes.Ended = refl
take_gave end at pdus (takes.Closed why) = refl

-- and a give of nothing that was taken
give_took : (end at : Side) (pdu : List ℕ) (pdus : List (List ℕ))
    (given : Result (Unit {0}) GiveFault)
    → part Taken end pdus (event (answer.Give at (give_answer pdu given))) ≡ []
give_took end at pdu pdus (Ok done) = refl
give_took end at pdu pdus (Err fault) = refl

gave_part : (end at : Side) (pdu : List ℕ) (rest : List (List ℕ))
    (given : Result (Unit {0}) GiveFault)
    → own end at (accepted pdu given)
    ≡ part Given end (pdu ∷ rest) (event (answer.Give at (give_answer pdu given)))
gave_part side.Client side.Client pdu rest (Ok done) = refl
gave_part side.Client side.Server pdu rest (Ok done) = refl
gave_part side.Server side.Client pdu rest (Ok done) = refl
gave_part side.Server side.Server pdu rest (Ok done) = refl
gave_part end at pdu rest (Err fault) = own_none end at

-- neither tells of an end that gives no more
take_stopped : (end at : Side) (pdus : List (List ℕ)) (t : TakeAnswer)
    → part Stopped end pdus (event (answer.Take at t)) ≡ []
take_stopped end at pdus (takes.Pdu pdu) = refl
take_stopped end at pdus takes.Empty = refl
take_stopped end at pdus takes.Ended = refl
take_stopped end at pdus (takes.Closed why) = refl

give_stopped : (end at : Side) (pdu : List ℕ) (pdus : List (List ℕ))
    (given : Result (Unit {0}) GiveFault)
    → part Stopped end pdus (event (answer.Give at (give_answer pdu given))) ≡ []
give_stopped end at pdu pdus (Ok done) = refl
give_stopped end at pdu pdus (Err fault) = refl

-- an end that ends or closes tells of none of these
pub ends_none : (pdus : List (List ℕ)) (at : Side) (way : Way) (end : Side)
    → part way end pdus (events.Ends at) ≡ []
ends_none pdus at Given end = refl
ends_none pdus at Taken end = refl
ends_none pdus at Stopped end = refl

pub closes_none : (pdus : List (List ℕ)) (at : Side) (way : Way) (end : Side)
    → part way end pdus (events.Closes at) ≡ []
closes_none pdus at Given end = refl
closes_none pdus at Taken end = refl
closes_none pdus at Stopped end = refl

pub left_give : (at : Side) (pdu : List ℕ) (rest : List (List ℕ))
    (given : Result (Unit {0}) GiveFault)
    → left (pdu ∷ rest) (event (answer.Give at (give_answer pdu given))) ≡ rest
left_give at pdu rest (Ok done) = refl
left_give at pdu rest (Err fault) = refl

pub left_take : (at : Side) (pdus : List (List ℕ)) (t : TakeAnswer)
    → left pdus (event (answer.Take at t)) ≡ pdus
left_take at pdus (takes.Pdu pdu) = refl
left_take at pdus takes.Empty = refl
left_take at pdus takes.Ended = refl
left_take at pdus (takes.Closed why) = refl

module _ {K C S I O : Type 0} (r : Rulebook C S I O) (m : Makers K I O) (d : Deeds C S) where
  -- one change, of which an event tells
  pub told_one : (w : World K C S I O) (change : Change) (pdus : List (List ℕ)) (told : Event)
      → MayChange r w change → of_line change ≡ true
      → ((way : Way) (end : Side) → adds r m d way w change end ≡ part way end pdus told)
      → Tells r m d w (change ∷ []) told → Told r m d w (changed r m d w change) pdus told
  told_one w change pdus told may is gain tells = record {
    at = w;
    before = idle_none r m d w;
    lines = works_one r m d w change may is;
    gain = λ way end. append-nil (adds r m d way w change end) ∙ gain way end;
    tells = tells;
  }

  -- what adds nothing
  pub idle_told : (w v : World K C S I O) (pdus : List (List ℕ)) (told : Event)
      → Told r m d w v pdus told
      → ((way : Way) (end : Side) → part way end pdus told ≡ []) → Idle r m d w v
  idle_told w v pdus told did none =
      idle_then r m d w did.at v did.before (record {
        lines = did.lines;
        none = λ way end. did.gain way end ∙ none way end;
      })

  -- ---- a PDU is given

  module _ (w : World K C S I O) (pdu : List ℕ) (rest : List (List ℕ)) where
    abbrev given_result : Side → Result (Unit {0}) GiveFault
    given_result side.Client = (ends.give d.client w.company.client pdu).1
    given_result side.Server = (ends.give d.server w.company.server pdu).1

    adds_given : (end at : Side)
        → adds r m d Given w (Gives at pdu) end ≡ own end at (accepted pdu (given_result at))
    adds_given side.Client side.Client =
        append-nil (accepted pdu (given_result side.Client))
    adds_given side.Client side.Server = refl
    adds_given side.Server side.Client = refl
    adds_given side.Server side.Server =
        append-nil (accepted pdu (given_result side.Server))

    pub gives_take_none : (end at : Side) → adds r m d Taken w (Gives at pdu) end ≡ []
    gives_take_none side.Client side.Client = refl
    gives_take_none side.Client side.Server = refl
    gives_take_none side.Server side.Client = refl
    gives_take_none side.Server side.Server = refl

    gives_stop_none : (end at : Side) → adds r m d Stopped w (Gives at pdu) end ≡ []
    gives_stop_none side.Client side.Client = refl
    gives_stop_none side.Client side.Server = refl
    gives_stop_none side.Server side.Client = refl
    gives_stop_none side.Server side.Server = refl

    pub give_gain : (at : Side) (way : Way) (end : Side)
        → adds r m d way w (Gives at pdu) end
        ≡ part way end (pdu ∷ rest) (event (answer.Give at (give_answer pdu (given_result at))))
    give_gain at Given end =
        adds_given end at ∙ gave_part end at pdu rest (given_result at)
    give_gain at Taken end =
        gives_take_none end at ∙ sym (give_took end at pdu (pdu ∷ rest) (given_result at))
    give_gain at Stopped end =
        gives_stop_none end at ∙ sym (give_stopped end at pdu (pdu ∷ rest) (given_result at))

    give_tells : (at : Side) (later : List Change) (given : Result (Unit {0}) GiveFault)
        → Tells r m d w later (event (answer.Give at (give_answer pdu given)))
    give_tells at later (Ok done) = tt
    give_tells at later (Err fault) = tt

    give_told : (at : Side) → Told r m d w (give d w at pdu).0 (pdu ∷ rest)
        (event (answer.Give at (give_answer pdu (given_result at))))
    give_told at =
        told_one w (Gives at pdu) (pdu ∷ rest)
        (event (answer.Give at (give_answer pdu (given_result at)))) tt refl (give_gain at)
        (give_tells at (Gives at pdu ∷ []) (given_result at))

    pub give_tale : (at : Side)
        → TaleOf r m d (pdu ∷ rest) rest w (reported (answered (λ given. given) (give d w at pdu)))
    give_tale side.Client =
        tale_one r m d (pdu ∷ rest) rest w (give d w side.Client pdu).0
        (answer.Give side.Client (give_answer pdu (given_result side.Client)))
        (give_told side.Client) (left_give side.Client pdu rest (given_result side.Client))
    give_tale side.Server =
        tale_one r m d (pdu ∷ rest) rest w (give d w side.Server pdu).0
        (answer.Give side.Server (give_answer pdu (given_result side.Server)))
        (give_told side.Server) (left_give side.Server pdu rest (given_result side.Server))

  -- ---- the next PDU is taken

  module _ (w : World K C S I O) (pdus : List (List ℕ)) where
    adds_taken : (end at : Side)
        → adds r m d Taken w (Takes at) end ≡ own end at (pdu_in (take d w at).1)
    adds_taken side.Client side.Client =
        append-nil (handed d.client w.company.client) ∙ handed_is d.client w.company.client
    adds_taken side.Client side.Server = refl
    adds_taken side.Server side.Client = refl
    adds_taken side.Server side.Server =
        append-nil (handed d.server w.company.server) ∙ handed_is d.server w.company.server

    pub takes_give_none : (end at : Side) → adds r m d Given w (Takes at) end ≡ []
    takes_give_none side.Client side.Client = refl
    takes_give_none side.Client side.Server = refl
    takes_give_none side.Server side.Client = refl
    takes_give_none side.Server side.Server = refl

    takes_stop_none : (end at : Side) → adds r m d Stopped w (Takes at) end ≡ []
    takes_stop_none side.Client side.Client = refl
    takes_stop_none side.Client side.Server = refl
    takes_stop_none side.Server side.Client = refl
    takes_stop_none side.Server side.Server = refl

    pub take_gain : (at : Side) (way : Way) (end : Side)
        → adds r m d way w (Takes at) end
        ≡ part way end pdus (event (answer.Take at (take d w at).1))
    take_gain at Given end =
        takes_give_none end at ∙ sym (take_gave end at pdus (take d w at).1)
    take_gain at Taken end = adds_taken end at ∙ took_part end at pdus (take d w at).1
    take_gain at Stopped end =
        takes_stop_none end at ∙ sym (take_stopped end at pdus (take d w at).1)

    ended_tells : (at : Side) → (take d w at).1 ≡ takes.Ended → next_take d w at ≡ taken.Ended
    ended_tells side.Client e =
        ended_by (next_take d w side.Client)
        (d.client.line w.company.client.role).current.pdus e
    ended_tells side.Server e =
        ended_by (next_take d w side.Server)
        (d.server.line w.company.server.role).current.pdus e

    closed_tells : (at : Side) (why : Cause) → (take d w at).1 ≡ takes.Closed why
        → HasClosed w.company (node_of at) why
    closed_tells side.Client why e =
        closed_by d.client w.company.client w.company.client.course
        (d.client.line w.company.client.role).current.pdus why e
    closed_tells side.Server why e =
        closed_by d.server w.company.server w.company.server.course
        (d.server.line w.company.server.role).current.pdus why e

    take_tells : (at : Side) (later : List Change) (t : TakeAnswer) → (take d w at).1 ≡ t
        → Tells r m d w later (event (answer.Take at t))
    take_tells at later (takes.Pdu pdu) e = tt
    take_tells at later takes.Empty e = tt
    take_tells at later takes.Ended e = ended_tells at e
    take_tells at later (takes.Closed why) e = (why, closed_tells at why e)

    take_told : (at : Side) → Told r m d w (take d w at).0 pdus
        (event (answer.Take at (take d w at).1))
    take_told at =
        told_one w (Takes at) pdus (event (answer.Take at (take d w at).1)) tt refl (take_gain at)
        (take_tells at (Takes at ∷ []) (take d w at).1 refl)

    pub take_tale : (at : Side) → TaleOf r m d pdus pdus w
        (reported (answered (λ got. answer.Take at got) (take d w at)))
    take_tale at =
        tale_one r m d pdus pdus w (take d w at).0 (answer.Take at (take d w at).1) (take_told at)
        (left_take at pdus (take d w at).1)

    -- where it is told only if there was a PDU, or it is Ended for the first time
    took_tale : (at : Side) (ended : Bool) (did : World K C S I O × TakeAnswer)
        → Told r m d w did.0 pdus (event (answer.Take at did.1))
        → TaleOf r m d pdus pdus w (took at ended did)
    took_tale at ended (v, takes.Pdu pdu) told =
        tale_one r m d pdus pdus w v (answer.Take at (takes.Pdu pdu)) told refl
    took_tale at ended (v, takes.Empty) told =
        tale_none r m d pdus w v (idle_told w v pdus Silent told
        (λ way end. part_silent way end pdus))
    took_tale at false (v, takes.Ended) told =
        tale_one r m d pdus pdus w v (answer.Take at takes.Ended) told refl
    took_tale at true (v, takes.Ended) told =
        tale_none r m d pdus w v (idle_told w v pdus (events.Ends at) told (ends_none pdus at))
    took_tale at ended (v, takes.Closed why) told =
        tale_none r m d pdus w v (idle_told w v pdus (events.Closes at) told (closes_none pdus at))

    pub take_one_tale : (at : Side) → TaleOf r m d pdus pdus w (take_one d at w)
    take_one_tale at = took_tale at (has_ended w at) (take d w at) (take_told at)

  -- ---- no PDU is given any more, or a channel is replaced

  module _ (w : World K C S I O) (pdus : List (List ℕ)) where
    pub adds_closed : (way : Way) (end at : Side) → is_of_pdus way ≡ true
        → adds r m d way w (Closes at) end ≡ []
    adds_closed Given side.Client side.Client is = refl
    adds_closed Given side.Client side.Server is = refl
    adds_closed Given side.Server side.Client is = refl
    adds_closed Given side.Server side.Server is = refl
    adds_closed Taken side.Client side.Client is = refl
    adds_closed Taken side.Client side.Server is = refl
    adds_closed Taken side.Server side.Client is = refl
    adds_closed Taken side.Server side.Server is = refl
    adds_closed Stopped end at is = absurd cc

    pub close_gain : (at : Side) (way : Way) (end : Side)
        → adds r m d way w (Closes at) end ≡ part way end pdus (events.Stops at)
    close_gain at Given end = adds_closed Given end at refl
    close_gain at Taken end = adds_closed Taken end at refl
    close_gain side.Client Stopped side.Client = refl
    close_gain side.Client Stopped side.Server = refl
    close_gain side.Server Stopped side.Client = refl
    close_gain side.Server Stopped side.Server = refl

    close_told : (at : Side) → Told r m d w (close d w at).0 pdus (events.Stops at)
    close_told at =
        told_one w (Closes at) pdus (events.Stops at) tt refl (close_gain at) ([], refl)

    pub close_tale : (at : Side) → TaleOf r m d pdus pdus w
        (reported (answered (λ closed. closed) (close d w at)))
    close_tale side.Client =
        tale_one r m d pdus pdus w (close d w side.Client).0 (answer.Close side.Client)
        (close_told side.Client) refl
    close_tale side.Server =
        tale_one r m d pdus pdus w (close d w side.Server).0 (answer.Close side.Server)
        (close_told side.Server) refl

    pub adds_in : (way : Way) (end : Side) → adds r m d way w RecyclesIn end ≡ []
    adds_in Given side.Client = refl
    adds_in Given side.Server = refl
    adds_in Taken side.Client = refl
    adds_in Taken side.Server = refl
    adds_in Stopped side.Client = refl
    adds_in Stopped side.Server = refl

    pub adds_out : (way : Way) (end : Side) → adds r m d way w RecyclesOut end ≡ []
    adds_out Given side.Client = refl
    adds_out Given side.Server = refl
    adds_out Taken side.Client = refl
    adds_out Taken side.Server = refl
    adds_out Stopped side.Client = refl
    adds_out Stopped side.Server = refl

    pub recycle_in_tale : TaleOf r m d pdus pdus w
        (reported (answered (λ recycled. recycled) (recycle_in d.client r.client w)))
    recycle_in_tale =
        let did = recycle_in d.client r.client w in
        tale_one r m d pdus pdus w did.0 did.1 (told_one w RecyclesIn pdus Silent tt refl
        (λ way end. adds_in way end ∙ sym (part_silent way end pdus)) tt) refl

    pub recycle_out_tale : TaleOf r m d pdus pdus w
        (reported (answered (λ recycled. recycled) (recycle_out d.server r.server w)))
    recycle_out_tale =
        let did = recycle_out d.server r.server w in
        tale_one r m d pdus pdus w did.0 did.1 (told_one w RecyclesOut pdus Silent tt refl
        (λ way end. adds_out way end ∙ sym (part_silent way end pdus)) tt) refl
