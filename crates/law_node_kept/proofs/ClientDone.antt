-- a client whose work is done does no more, whatever happens
use Rattle.law_order.proofs.Vocabulary.{◌≡◌, ◌==◌, ◌&&◌, ℕ, true, false, true≢false, not, List, [], ◌∷◌, refl, sym, subst}
use Rattle.rh_client.specs.Client as client
use Rattle.rh_client.specs.Opening.{wants_by}
use Rattle.rh_client.specs.State.{first}
use Rattle.rh_shell.specs.declared.answers.Phase.TheVariants as phases
use Rattle.law_moves.proofs.Vocabulary.{ClientConfig, LegKind, ClientOut, OutServer, ClientIn, InServer, Phase, Shell, is_ended, is_of, Up, HeadCame, PduCame, PacketCame, Puts, IsDrawn, Marks, Pings, EndMove, Moves, Gives, Takes, Closes, Recycles, EndPassage, AreAllowedAtEnd, MayEndMove, all_end_moved, end_moved, end_started, EndLeads, AreHeld, EndEvent, EndFollows, after_end_event, after_end_events}
use Rattle.law_role_client.proofs.Vocabulary.{ClientRole}
use Rattle.law_node_streams.proofs.Streams.EndMoves.{leads_one}
use Rattle.law_node_streams.specs.Streams.{StaysUnusedAtEnd, is_end_up_on}

-- a client has use for a leg that is none of its own exactly while it works
abbrev Idle : ClientRole → Type 0
Idle s = (not (is_ended s.phase) && true) ≡ false

ended_of : (f : Phase) → (not (is_ended f) && true) ≡ false → f ≡ phases.Ended
ended_of phases.Opening e = absurd (true≢false e)
ended_of phases.Open e = absurd (true≢false e)
ended_of phases.Ended e = refl

idle_of : (f : Phase) → f ≡ phases.Ended → (not (is_ended f) && true) ≡ false
idle_of phases.Opening e = absurd cc
idle_of phases.Open e = absurd cc
idle_of phases.Ended e = refl

-- and which never comes up there
other_leg : (s : ClientRole) (k : LegKind) (number : ℕ) → wants_by s number k ≡ true
    → (is_of k (record { kind = InServer; number = 0 }) && (number == 0)) ≡ false
other_leg s ClientOut number e = refl
other_leg s OutServer number e = absurd (true≢false (sym e))
other_leg s ClientIn number e = refl
other_leg s InServer number e = absurd (true≢false (sym e))

not_up : (s : ClientRole) (move : EndMove) → MayEndMove client.rules s move
    → is_end_up_on (record { kind = InServer; number = 0 }) move ≡ false
not_up s (Moves (Up leg cookie)) may = other_leg s leg.kind leg.number may.1
not_up s (Moves (HeadCame leg text)) may = refl
not_up s (Moves (PduCame leg count pdu)) may = refl
not_up s (Moves (PacketCame leg count named)) may = refl
not_up s (Moves (Puts leg)) may = refl
not_up s (Moves (IsDrawn leg)) may = refl
not_up s (Moves (Marks leg)) may = refl
not_up s (Moves (Pings leg)) may = refl
not_up s (Gives pdu) may = refl
not_up s Takes may = refl
not_up s Closes may = refl
not_up s Recycles may = refl

module _ (config : ClientConfig)
    (unused : StaysUnusedAtEnd client.rules client.acts (first config))
    (follow : (p : EndPassage ClientRole) (s : Shell ClientRole) (event : EndEvent)
    → p.passage.role ≡ s.role → AreHeld s
    → EndFollows client.rules client.acts p (after_end_event client.rules client.acts s event))
    (run : (events : List EndEvent)
    → EndFollows client.rules client.acts (end_started (first config))
    (after_end_events client.rules client.acts (client.first_client config) events)) where
  abbrev Leads : EndPassage ClientRole → Type 0
  Leads = EndLeads client.rules client.acts (end_started (first config))

  one : (p : EndPassage ClientRole) (leads : Leads p) (move : EndMove)
      → MayEndMove client.rules p.passage.role move → Idle p.passage.role
      → Idle (end_moved client.rules client.acts p move).passage.role
  one p leads move may idle =
      subst (λ (q : EndPassage ClientRole).
      Idle (end_moved client.rules client.acts q move).passage.role) leads.reached
      (unused leads.moves move (record { kind = InServer; number = 0 }) leads.allowed
      (subst (λ (q : EndPassage ClientRole). MayEndMove client.rules q.passage.role move)
      (sym leads.reached) may) (not_up p.passage.role move may)
      (subst (λ (q : EndPassage ClientRole). Idle q.passage.role) (sym leads.reached) idle))

  record Rests (p : EndPassage ClientRole) : Type 0 where
    leads : Leads p
    idle : Idle p.passage.role

  rests : (p : EndPassage ClientRole) → Rests p → (moves : List EndMove)
      → AreAllowedAtEnd client.rules client.acts p moves
      → Rests (all_end_moved client.rules client.acts p moves)
  rests p h [] may = h
  rests p h (move ∷ moves) may =
      rests (end_moved client.rules client.acts p move)
      (record {
        leads =
            leads_one client.rules client.acts (end_started (first config)) p move h.leads may.0;
        idle = one p h.leads move may.0 h.idle;
      }) moves may.1

  record At (s : Shell ClientRole) : Type 0 where
    passage : EndPassage ClientRole
    role : passage.passage.role ≡ s.role
    held : AreHeld s
    rest : Rests passage

  step : (s : Shell ClientRole) (event : EndEvent) → At s
      → At (after_end_event client.rules client.acts s event)
  step s event h = record {
    passage = f.passage;
    role = f.role;
    held = f.held;
    rest = subst Rests f.leads.reached (rests h.passage h.rest f.leads.moves f.leads.allowed);
  }
    where
      f : EndFollows client.rules client.acts h.passage
          (after_end_event client.rules client.acts s event)
      f = follow h.passage s event h.role h.held

  steps : (s : Shell ClientRole) (events : List EndEvent) → At s
      → At (after_end_events client.rules client.acts s events)
  steps s [] h = h
  steps s (event ∷ events) h =
      steps (after_end_event client.rules client.acts s event) events (step s event h)

  pub done_for_good : (events more : List EndEvent)
      → (let node = after_end_events client.rules client.acts (client.first_client config) events
      in node.role.phase ≡ phases.Ended
      → (after_end_events client.rules client.acts node more).role.phase ≡ phases.Ended)
  done_for_good events more done =
      ended_of (after_end_events client.rules client.acts node more).role.phase
      (subst Idle later.role later.rest.idle)
    where
      node : Shell ClientRole
      node = after_end_events client.rules client.acts (client.first_client config) events

      now : EndFollows client.rules client.acts (end_started (first config))
          (after_end_events client.rules client.acts (client.first_client config) events)
      now = run events

      later : At (after_end_events client.rules client.acts
          (after_end_events client.rules client.acts (client.first_client config) events) more)
      later =
          steps (after_end_events client.rules client.acts (client.first_client config) events)
          more (record {
            passage = now.passage;
            role = now.role;
            held = now.held;
            rest = record {
              leads = now.leads;
              idle = subst Idle (sym now.role) (idle_of _ done);
            };
          })
