-- what each function of an end's role leaves alone, its moves do, and whatever happens at its node
use Rattle.law_order.proofs.Vocabulary.{◌≡◌, ℕ, List, [], ◌∷◌, Bool, true, Some, None, Ok, Err, refl, sym, ap, subst, ◌∙◌, IfSome, Option}
use Rattle.rh_shell.specs.declared.end_role.GiveRefused.TheVariants as give_refused
use Rattle.law_moves.proofs.Vocabulary.{Cookie, Named, Cause, Leg, Count, cause_of, give_where, give_to, Rules, Acts, Row, Message, Pdu, Packet, Shell, accepted, Move, Up, HeadCame, PduCame, PacketCame, Puts, IsDrawn, Marks, Pings, Passage, moved, taken_by, put_by, EndMove, Moves, Gives, Takes, Closes, Recycles, EndPassage, end_moved, all_end_moved, end_started, end_now_at, given_by, with_first, AreHeld, EndEvent, Happens, IsGiven, IsTaken, IsClosed, IsRecycled}
use Rattle.law_moves.proofs.Vocabulary.{after_end_event, EndFollows}
use Rattle.law_node_streams.specs.Streams as streams
use Rattle.law_node_ends.specs.Stops.{GaveNoMore, GivesNoMore}

-- whether an end was told to close
pub record Said : Type 0 where
  pub closing : Bool

-- its rows, puts and calls leave that alone, but for closing; and once it was told, each PDU is
-- refused and changes nothing
pub record StaysSaid {S : Type 0} (rules : Rules S) (acts : Acts S) (said : S → Said)
    : Type 0 where
  pub up : (s : S) (leg : Leg) (cookie : Cookie) → said (rules.up s leg cookie) ≡ said s
  pub head : (s : S) (leg : Leg) (text : List ℕ) → said (rules.head s leg text).0 ≡ said s
  pub pdu : (s : S) (leg : Leg) (count : Count) (bytes : List ℕ)
      → said (rules.pdu s leg count bytes).0 ≡ said s
  pub packet : (s : S) (leg : Leg) (count : Count) (named : Named)
      → said (rules.packet s leg count named).0 ≡ said s
  pub put : (s : S) (leg : Leg)
      → IfSome (rules.put s leg) (λ (put : S × Message). said put.0 ≡ said s)
  pub drawn : (s : S) (leg : Leg) → said (rules.drawn s leg) ≡ said s
  pub mark : (s : S) (leg : Leg) → said (rules.mark s leg) ≡ said s
  pub ping : (s : S) (leg : Leg) → said (rules.ping s leg) ≡ said s
  pub give : (s : S) (pdu : List ℕ) → (said s).closing ≡ true
      → acts.give s pdu ≡ (s, Err give_refused.Closing)
  pub take : (s : S) → said (acts.take s) ≡ said s
  pub close : (s : S) → (said (acts.close s)).closing ≡ true
  pub recycle : (s : S) → said (acts.recycle s).0 ≡ said s

module _ {S : Type 0} (rules : Rules S) (acts : Acts S) (said : S → Said)
    (law : StaysSaid rules acts said) where
  abbrev is_closing : S → Bool
  is_closing s = (said s).closing

  -- ---- moves

  by_row : (p : Passage S) (leg : Leg) (message : Message) (x : S × Row)
      → said x.0 ≡ said p.role → said (taken_by p leg message x).role ≡ said p.role
  by_row p leg message (role, Ok taken) e = e
  by_row p leg message (role, Err refused) e = e

  by_put : (p : Passage S) (leg : Leg) (o : Option (S × Message))
      → IfSome o (λ (put : S × Message). said put.0 ≡ said p.role)
      → said (put_by p leg o).role ≡ said p.role
  by_put p leg None e = refl
  by_put p leg (Some put) e = e

  pub move_said : (p : Passage S) (move : Move) → said (moved rules p move).role ≡ said p.role
  move_said p (Up leg cookie) = law.up p.role leg cookie
  move_said p (HeadCame leg text) = law.head p.role leg text
  move_said p (PduCame leg count bytes) =
      by_row p leg (Pdu bytes) (rules.pdu p.role leg count bytes)
      (law.pdu p.role leg count bytes)
  move_said p (PacketCame leg count named) =
      by_row p leg (Packet named) (rules.packet p.role leg count named)
      (law.packet p.role leg count named)
  move_said p (Puts leg) = by_put p leg (rules.put p.role leg) (law.put p.role leg)
  move_said p (IsDrawn leg) = law.drawn p.role leg
  move_said p (Marks leg) = law.mark p.role leg
  move_said p (Pings leg) = law.ping p.role leg

  by_first : (p : EndPassage S) (q : EndPassage S) (pdus : List (List ℕ))
      → GaveNoMore is_closing p q → GaveNoMore is_closing p (with_first q pdus)
  by_first p q [] h = h
  by_first p q (pdu ∷ pdus) h = record { closes = h.closes; given = h.given }

  still : (s t : S) → said t ≡ said s → is_closing s ≡ true → is_closing t ≡ true
  still s t e h = ap (λ (x : Said). x.closing) e ∙ h

  end_move_stays : (p : EndPassage S) (move : EndMove) → is_closing p.passage.role ≡ true
      → GaveNoMore is_closing p (end_moved rules acts p move)
  end_move_stays p (Moves move) h = record {
    closes = still p.passage.role (moved rules p.passage move).role (move_said p.passage move) h;
    given = refl;
  }
  end_move_stays p (Gives pdu) h =
      subst (λ x. GaveNoMore is_closing p (given_by p pdu x))
      (sym (law.give p.passage.role pdu h)) (record { closes = h; given = refl })
  end_move_stays p Takes h =
      let t = acts.take p.passage.role in
      by_first p (end_now_at p t) (acts.line p.passage.role).current.pdus
      (record { closes = still p.passage.role t (law.take p.passage.role) h; given = refl })
  end_move_stays p Closes h = record { closes = law.close p.passage.role; given = refl }
  end_move_stays p Recycles h = record {
    closes = still p.passage.role (acts.recycle p.passage.role).0
        (law.recycle p.passage.role) h;
    given = refl;
  }

  pub moves_stay : (p : EndPassage S) (moves : List EndMove)
      → is_closing p.passage.role ≡ true
      → GaveNoMore is_closing p (all_end_moved rules acts p moves)
  moves_stay p [] h = record { closes = h; given = refl }
  moves_stay p (move ∷ moves) h =
      let first = end_move_stays p move h in
      let later = moves_stay (end_moved rules acts p move) moves first.closes in
      record { closes = later.closes; given = later.given ∙ first.given }

  -- ---- events

  none_accepted : (s : Shell S) (pdu : List ℕ) → is_closing s.role ≡ true → (o : Option Cause)
      → accepted pdu (give_where acts s pdu o).1 ≡ []
  none_accepted s pdu h (Some why) = refl
  none_accepted s pdu h None =
      subst (λ x. accepted pdu (give_to s x).1 ≡ []) (sym (law.give s.role pdu h)) refl

  none_given : (s : Shell S) (event : EndEvent) → is_closing s.role ≡ true
      → streams.given_by acts s event ≡ []
  none_given s (Happens event) h = refl
  none_given s (IsGiven pdu) h = none_accepted s pdu h (cause_of s.course)
  none_given s IsTaken h = refl
  none_given s IsClosed h = refl
  none_given s IsRecycled h = refl

  follows_closing : (s t : Shell S) → EndFollows rules acts (end_started s.role) t
      → is_closing s.role ≡ true → is_closing t.role ≡ true
  follows_closing s t f h =
      subst (λ role. is_closing role ≡ true) f.role
      (subst (λ (p : EndPassage S). is_closing p.passage.role ≡ true) f.leads.reached
      (moves_stay (end_started s.role) f.leads.moves h).closes)

  pub events_stay : ((p : EndPassage S) (s : Shell S) (event : EndEvent)
      → p.passage.role ≡ s.role → AreHeld s
      → EndFollows rules acts p (after_end_event rules acts s event))
      → (s : Shell S) (events : List EndEvent) → is_closing s.role ≡ true → AreHeld s
      → GivesNoMore rules acts is_closing s events
  events_stay follow s [] h held = record { closes = h; given = refl }
  events_stay follow s (event ∷ events) h held =
      let next = after_end_event rules acts s event in
      let f = follow (end_started s.role) s event refl held in
      let later = events_stay follow next events (follows_closing s next f h) f.held in
      record { closes = later.closes; given = rw (none_given s event h) later.given }
