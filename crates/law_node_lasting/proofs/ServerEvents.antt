-- a server's node that lost no is leg but behind IN_R1/A6: its moves mark no others
use Rattle.law_order.proofs.Vocabulary.{◌≡◌, ℕ, List, [], ◌∷◌, true, not, Some, None, refl, ap, ◌∙◌, subst, All-nil, Option, TakerLaw}
use Rattle.rh_shell.specs.declared.answers.Phase.TheVariants as phase
use Rattle.rh_line.specs.declared.state.State.{State}
use Rattle.rh_line.specs.declared.state.State.TheVariants as states
use Rattle.rh_server.specs.declared.state.Stage.TheVariants as stage
use Rattle.rh_server.specs.declared.state.Stage.{Stage}
use Rattle.rh_server.specs.Servers.{new_server}
use Rattle.law_moves.proofs.Vocabulary.{Cause, Phase, Course, Going, Closed, Refusing, Shell, state_by, state_of, cause_of, give_where, take_where, close_where, recycle_where, give, is_at_work, is_ended, Move, EndMove, Passage, EndPassage, Moves, Gives, Takes, Closes, Recycles, AreAllowed, AreAllowedAtEnd, all_moved, end_moved, all_end_moved, Event, EndEvent, Happens, IsGiven, IsTaken, IsClosed, IsRecycled, after_event, after_end_event, after_end_events, IsHeld, AreHeld, Follows}
use Rattle.law_role_server.proofs.Vocabulary.{Server, phase_of, acts, got, has_leg, taker_of, rules as server_rules}
use Rattle.law_role_server_in.proofs.Steps.{known}
use Rattle.law_node_streams.proofs.Streams.EndMoves.{did_close, did_give, did_recycle, did_take}
use Rattle.law_node_marks.specs.Losing.{AgreeOn}
use Rattle.law_node_lasting.specs.Lasting.{AllAgreeAtEnd, AgreeOnAtEnd, marks_left}
use Rattle.law_node_lasting.proofs.EventMoves.{event_follows}
use Rattle.law_node_lasting.proofs.ServerLasts.{Known, Lasts, left_rules, move_lasts, not_over, start, start_lasts}

open_phase : (c : Course) (f : Phase) → state_by c f ≡ states.Open → f ≡ phase.Open
open_phase Going phase.Opening h = absurd cc
open_phase Going phase.Open h = refl
open_phase Going phase.Ended h = absurd cc
open_phase (Closed why) f h = absurd cc
open_phase (Refusing why leg rest) f h = absurd cc

module _ (window : ℕ)
    (same : (node : Shell Server) (event : Event) → AgreeOn server_rules marks_left node.role event
    → after_event left_rules node event ≡ after_event server_rules node event) where
  with_passage : EndPassage Server → Passage Server → EndPassage Server
  with_passage p passage = record p { passage = passage }

  moves_last : (p : EndPassage Server) (moves : List Move)
      → AreAllowed left_rules p.passage moves → Lasts window p
      → Lasts window (with_passage p (all_moved left_rules p.passage moves))
  unfolding with_passage
  moves_last p [] may h = h
  moves_last p (move ∷ moves) may h =
      moves_last (end_moved left_rules acts p (Moves move)) moves may.1
      (move_lasts window p (Moves move) may.0 h)

  -- a passage of the node lasts
  record At (s : Shell Server) : Type 0 where
    passage : EndPassage Server
    role : passage.passage.role ≡ s.role
    held : AreHeld s
    lasts : Lasts window passage

  module _ (s : Shell Server) (h : At s) where
    happens : (event : Event) → AgreeOn server_rules marks_left s.role event
        → At (after_event server_rules s event)
    unfolding with_passage
    happens event agree =
        subst At (same s event agree) (record {
          passage = with_passage h.passage f.passage;
          role = f.role;
          held = f.held;
          lasts =
              subst (λ (q : Passage Server). Lasts window (with_passage h.passage q))
              f.leads.reached (moves_last h.passage f.leads.moves f.leads.allowed h.lasts);
        })
      where
        f : Follows left_rules h.passage.passage (after_event left_rules s event)
        f = event_follows left_rules h.passage.passage s h.role h.held event

    gives : (pdu : List ℕ) (o : Option Cause) → At (give_where acts s pdu o).0
    gives pdu (Some why) = h
    gives pdu None = record {
      passage = end_moved left_rules acts h.passage (Gives pdu);
      role =
          (did_give left_rules acts h.passage pdu (acts.give s.role pdu)
          (ap (λ (r : Server). acts.give r pdu) h.role)).role;
      held = h.held;
      lasts = move_lasts window h.passage (Gives pdu) tt h.lasts;
    }

    takes : (o : Option Cause) → At (take_where acts s o)
    takes (Some why) = h
    takes None = record {
      passage = end_moved left_rules acts h.passage Takes;
      role = (did_take left_rules acts h.passage s.role h.role).role;
      held = h.held;
      lasts = move_lasts window h.passage Takes tt h.lasts;
    }

    closes : (o : Option Cause) → At (close_where acts s o)
    closes (Some why) = h
    closes None = record {
      passage = end_moved left_rules acts h.passage Closes;
      role = (did_close left_rules acts h.passage s.role h.role).role;
      held = h.held;
      lasts = move_lasts window h.passage Closes tt h.lasts;
    }

    recycles : (x : State) → state_of server_rules s ≡ x → At (recycle_where acts s x).0
    recycles states.Open e = record {
      passage = end_moved left_rules acts h.passage Recycles;
      role = (did_recycle left_rules acts h.passage s.role h.role).role;
      held = h.held;
      lasts =
          move_lasts window h.passage Recycles
          (ap server_rules.phase h.role ∙ open_phase s.course (server_rules.phase s.role) e)
          h.lasts;
    }
    recycles states.Opening e = h
    recycles states.Ended e = h
    recycles (states.Closed why) e = h

    event_lasts : (event : EndEvent) → AgreeOnAtEnd server_rules marks_left s.role event
        → At (after_end_event server_rules acts s event)
    event_lasts (Happens event) agree = happens event agree
    event_lasts (IsGiven pdu) agree = gives pdu (cause_of s.course)
    event_lasts IsTaken agree = takes (cause_of s.course)
    event_lasts IsClosed agree = closes (cause_of s.course)
    event_lasts IsRecycled agree = recycles (state_of server_rules s) refl

  events_last : (s : Shell Server) (events : List EndEvent) → At s
      → AllAgreeAtEnd server_rules acts marks_left s events
      → At (after_end_events server_rules acts s events)
  events_last s [] h agree = h
  events_last s (event ∷ events) h agree =
      events_last (after_end_event server_rules acts s event) events
      (event_lasts s h event agree.0) agree.1

  module _ (events : List EndEvent)
      (agree : AllAgreeAtEnd server_rules acts marks_left (new_server window) events)
      (law : (moves : List EndMove) → AreAllowedAtEnd server_rules acts (start window) moves
      → (let p = all_end_moved server_rules acts (start window) moves in
      TakerLaw (taker_of p.taken p.passage.role) (has_leg moves p.passage.role) (got p))) where
    all : At (after_end_events server_rules acts (new_server window) events)
    all =
        events_last (new_server window) events (record {
          passage = start window;
          role = refl;
          held = All-nil IsHeld;
          lasts = start_lasts window;
        }) agree

    known_of : Known all.passage
    known_of =
        subst Known all.lasts.leads.reached (record {
          legs = has_leg all.lasts.leads.moves
              (all_end_moved server_rules acts (start window) all.lasts.leads.moves).passage.role;
          law = law all.lasts.leads.moves all.lasts.leads.allowed;
          facts = known window all.lasts.leads.moves all.lasts.leads.allowed;
        })

    working : (x : Stage) → all.passage.passage.role.stage ≡ x
        → not (is_ended (phase_of x)) ≡ true
    working stage.Waits e = refl
    working (stage.OutCame connection) e = refl
    working (stage.InCame connection size timeout) e = refl
    working (stage.Open connection) e = refl
    working stage.Ended e = absurd (not_over all.passage known_of all.lasts.met e)

    pub works_on : is_at_work server_rules
        (after_end_events server_rules acts (new_server window) events).role ≡ true
    works_on =
        subst (λ (s : Server). is_at_work server_rules s ≡ true) all.role
        (working all.passage.passage.role.stage refl)
