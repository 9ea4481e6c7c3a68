-- a server whose work is done goes on so
use Rattle.rh_server.specs.declared.state.Stage.TheVariants as stage
use Rattle.law_order.proofs.Vocabulary.{◌≡◌, ◌&&◌, ◌∙◌, ℕ, List, [], ◌∷◌, Bool, true, false, true≢false, false≢true, not, IsTrue, Ok, Err, refl, rules, sym, ap, subst, Result}
use Rattle.law_moves.proofs.Vocabulary.{by_test, Leg, LegKind, ClientIn, ClientOut, InServer, OutServer, GiveRefused, Shell, is_ended, is_at_work, is_in_use, Move, Up, HeadCame, PduCame, PacketCame, Puts, IsDrawn, Marks, Pings, MayMove, Passage, moved, EndMove, EndPassage, Moves, Gives, Takes, Closes, Recycles, MayEndMove, AreAllowedAtEnd, all_end_moved, end_moved, end_now_at, end_started, given_by, with_first, EndEvent, EndFollows, after_end_event, after_end_events, AreHeld}
use Rattle.law_role_server.proofs.Vocabulary.{Server, Stage, completed, is_complete, phase_of, settled, wished, in_is_drawn, in_leg, without_in, drawn_by, give, take, recycle, acts, rules as server_rules}

-- its stage is the last one
abbrev Over : Server → Type 0
Over s = s.stage ≡ stage.Ended

over_is : (s : Server) → is_at_work server_rules s ≡ false → Over s
over_is s rest = by s.stage rest
  where
    by : (x : Stage) → not (is_ended (phase_of x)) ≡ false → x ≡ stage.Ended
    by stage.Waits e = absurd (true≢false e)
    by (stage.OutCame connection) e = absurd (true≢false e)
    by (stage.InCame connection size timeout) e = absurd (true≢false e)
    by (stage.Open connection) e = absurd (true≢false e)
    by stage.Ended e = refl

rests : (s : Server) → Over s → is_at_work server_rules s ≡ false
rests s over = ap (λ (x : Stage). not (is_ended (phase_of x))) over

-- ---- steps of one that is done

wished_stage : (s : Server) → (wished s).stage ≡ s.stage
wished_stage s = search rules

settled_over : (s : Server) → Over s → Over (settled s)
settled_over s over =
    wished_stage (completed s)
    ∙ by_test Over (is_complete s) (record s { stage = stage.Ended }) s (λ e. refl) (λ e. over)

drawn_over : (s : Server) (k : ℕ) (kind : LegKind) → Over s → Over (drawn_by s k kind)
drawn_over s k InServer over =
    by_test Over (in_is_drawn (in_leg k s.ins)) (settled (without_in s k)) s
    (λ e. settled_over (without_in s k) over) (λ e. over)
drawn_over s k OutServer over = over
drawn_over s k ClientIn over = over
drawn_over s k ClientOut over = over

give_stage : (s : Server) (bytes : List ℕ) → (give s bytes).0.stage ≡ s.stage
give_stage s bytes = search rules

take_stage : (s : Server) → (take s).stage ≡ s.stage
take_stage s = search rules

recycle_stage : (s : Server) → (recycle s).0.stage ≡ s.stage
recycle_stage s = search rules

-- ---- moves

idle : (s : Server) → Over s → IsTrue (is_at_work server_rules s) → ⊥
idle s over work = true≢false (sym work ∙ rests s over)

used : (a b : Bool) → IsTrue (a && not b) → a ≡ true
used true b e = refl
used false b e = absurd (false≢true e)

unused : (s : Server) (leg : Leg) → Over s → IsTrue (is_in_use server_rules s leg) → ⊥
unused s leg over e =
    idle s over (used (is_at_work server_rules s) (server_rules.is_done s leg) e)

move_over : (p : Passage Server) (move : Move) → Over p.role → MayMove server_rules p.role move
    → Over (moved server_rules p move).role
move_over p (Up leg cookie) over may = absurd (idle p.role over may.0)
move_over p (HeadCame leg text) over may = absurd (unused p.role leg over may)
move_over p (PduCame leg count bytes) over may = absurd (unused p.role leg over may.0)
move_over p (PacketCame leg count named) over may = absurd (unused p.role leg over may)
move_over p (Puts leg) over may = absurd (unused p.role leg over may)
move_over p (IsDrawn leg) over may = drawn_over p.role leg.number leg.kind over
move_over p (Marks leg) over may = absurd (idle p.role over may.0)
move_over p (Pings leg) over may = over

end_move_over : (p : EndPassage Server) (move : EndMove) → Over p.passage.role
    → MayEndMove server_rules p.passage.role move
    → Over (end_moved server_rules acts p move).passage.role
end_move_over p (Moves move) over may = move_over p.passage move over may
end_move_over p (Gives bytes) over may = by (give p.passage.role bytes) stays
  where
    stays : Over (give p.passage.role bytes).0
    stays = give_stage p.passage.role bytes ∙ over

    by : (x : Server × Result (Unit {0}) GiveRefused) → Over x.0
        → Over (given_by p bytes x).passage.role
    by (t, Ok accepted) h = h
    by (t, Err refused) h = h
end_move_over p Takes over may = by p.passage.role.line.current.pdus
  where
    by : (pdus : List (List ℕ))
        → Over (with_first (end_now_at p (take p.passage.role)) pdus).passage.role
    by [] = take_stage p.passage.role ∙ over
    by (pdu ∷ pdus) = take_stage p.passage.role ∙ over
end_move_over p Closes over may = over
end_move_over p Recycles over may = recycle_stage p.passage.role ∙ over

moves_over : (p : EndPassage Server) (moves : List EndMove) → Over p.passage.role
    → AreAllowedAtEnd server_rules acts p moves
    → Over (all_end_moved server_rules acts p moves).passage.role
moves_over p [] over may = over
moves_over p (move ∷ moves) over may =
    moves_over (end_moved server_rules acts p move) moves (end_move_over p move over may.0) may.1

-- ---- events

module _ (follow : (p : EndPassage Server) (s : Shell Server) (event : EndEvent)
    → p.passage.role ≡ s.role → AreHeld s
    → EndFollows server_rules acts p (after_end_event server_rules acts s event)) where
  event_over : (s : Shell Server) → AreHeld s → Over s.role → (event : EndEvent)
      → AreHeld (after_end_event server_rules acts s event)
      × Over (after_end_event server_rules acts s event).role
  event_over s held over event =
      let f = follow (end_started s.role) s event refl held in (
        f.held,
        subst Over f.role
            (subst (λ (p : EndPassage Server). Over p.passage.role) f.leads.reached
            (moves_over (end_started s.role) f.leads.moves over f.leads.allowed)),
      )

  events_over : (s : Shell Server) → AreHeld s → Over s.role → (events : List EndEvent)
      → Over (after_end_events server_rules acts s events).role
  events_over s held over [] = over
  events_over s held over (event ∷ events) =
      let next = event_over s held over event in
      events_over (after_end_event server_rules acts s event) next.0 next.1 events

  pub stays_done : (s : Shell Server) → AreHeld s → is_at_work server_rules s.role ≡ false
      → (more : List EndEvent)
      → is_at_work server_rules (after_end_events server_rules acts s more).role ≡ false
  stays_done s held rest more =
      rests (after_end_events server_rules acts s more).role
      (events_over s held (over_is s.role rest) more)
