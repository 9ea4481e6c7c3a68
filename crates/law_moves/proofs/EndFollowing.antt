-- whatever happens at an end, its role goes on by moves
use Rattle.law_order.proofs.Vocabulary.{◌≡◌, ℕ, List, [], ◌∷◌, ◌++◌, map, Some, None, Ok, Err, refl, sym, ap, ◌∙◌, subst, Option, Result, append-nil, All-nil}
use Rattle.rh_line.specs.declared.state.State.TheVariants as state
use Rattle.rh_shell.specs.Ends.{given_by as give_answer, after_take, close}
use Rattle.rh_shell.specs.declared.answers.Phase.TheVariants as phase
use Rattle.law_moves.proofs.Vocabulary.{Cause, State, Phase, Course, Going, Closed, Refusing, GiveRefused, Rooms, Rules, Acts, Shell, begun, state_by, state_of, cause_of, give_where, give, take_where, close_where, recycle_where, recycle, Move, EndMove, Passage, EndPassage, Moves, Gives, Takes, Closes, Recycles, MayEndMove, AreAllowed, AreAllowedAtEnd, given_by, with_first, all_moved, end_now_at, end_moved, all_end_moved, end_started, Event, after_event, EndEvent, Happens}
use Rattle.law_moves.proofs.Vocabulary.{IsGiven, IsTaken, IsClosed, IsRecycled, after_end_event, after_end_events, IsHeld, AreHeld, EndLeads, EndFollows, IsQuiet, LogsAtEnd, EndLogs, EndPasses, Passes, accepted, first_in, handed_by}
use Rattle.law_moves.proofs.Following.{event_passes}

pub open_phase : (c : Course) (f : Phase) → state_by c f ≡ state.Open → f ≡ phase.Open
open_phase Going phase.Opening h = absurd cc
open_phase Going phase.Open h = refl
open_phase Going phase.Ended h = absurd cc
open_phase (Closed why) f h = absurd cc
open_phase (Refusing why leg rest) f h = absurd cc

-- the role behind an answer
given_role : {S : Type 0} (p : EndPassage S) (pdu : List ℕ) (x : S × Result (Unit {0}) GiveRefused)
    → (given_by p pdu x).passage.role ≡ x.0
given_role p pdu (role, Ok accepted) = refl
given_role p pdu (role, Err refused) = refl

taken_role : {S : Type 0} (p : EndPassage S) (pdus : List (List ℕ))
    → (with_first p pdus).passage.role ≡ p.passage.role
taken_role p [] = refl
taken_role p (pdu ∷ pdus) = refl

module _ {S : Type 0} (rules : Rules S) (acts : Acts S) where
  moved_append : (p : EndPassage S) (ms ns : List EndMove)
      → all_end_moved rules acts p (ms ++ ns)
      ≡ all_end_moved rules acts (all_end_moved rules acts p ms) ns
  moved_append p [] ns = refl
  moved_append p (m ∷ ms) ns = moved_append (end_moved rules acts p m) ms ns

  allowed_append : (p : EndPassage S) (ms ns : List EndMove) → AreAllowedAtEnd rules acts p ms
      → AreAllowedAtEnd rules acts (all_end_moved rules acts p ms) ns
      → AreAllowedAtEnd rules acts p (ms ++ ns)
  allowed_append p [] ns a b = b
  allowed_append p (m ∷ ms) ns a b =
      (a.0, allowed_append (end_moved rules acts p m) ms ns a.1 b)

  leads_none : (p : EndPassage S) → EndLeads rules acts p p
  leads_none p = record { moves = []; allowed = tt; reached = refl }

  leads_one : (p : EndPassage S) (move : EndMove) → MayEndMove rules p.passage.role move
      → EndLeads rules acts p (end_moved rules acts p move)
  leads_one p move may = record { moves = move ∷ []; allowed = (may, tt); reached = refl }

  leads_then : (p q r : EndPassage S) → EndLeads rules acts p q → EndLeads rules acts q r
      → EndLeads rules acts p r
  leads_then p q r a b = record {
    moves = a.moves ++ b.moves;
    allowed =
        allowed_append p a.moves b.moves a.allowed
        (subst (λ x. AreAllowedAtEnd rules acts x b.moves) (sym a.reached) b.allowed);
    reached =
        moved_append p a.moves b.moves
        ∙ ap (λ x. all_end_moved rules acts x b.moves) a.reached ∙ b.reached;
  }

  -- ---- the moves of any role

  with_passage : EndPassage S → Passage S → EndPassage S
  with_passage p passage = record p { passage = passage }

  all_allowed : (p : EndPassage S) (ms : List Move) → AreAllowed rules p.passage ms
      → AreAllowedAtEnd rules acts p (map Moves ms)
  all_allowed p [] a = tt
  all_allowed p (m ∷ ms) a = (a.0, all_allowed (end_moved rules acts p (Moves m)) ms a.1)

  all_reached : (p : EndPassage S) (ms : List Move)
      → all_end_moved rules acts p (map Moves ms)
      ≡ with_passage p (all_moved rules p.passage ms)
  unfolding with_passage
  all_reached p [] = refl
  all_reached p (m ∷ ms) = all_reached (end_moved rules acts p (Moves m)) ms

  -- moves lead to a passage whose role is the node's, and which logs this
  record Goes (p : EndPassage S) (L : EndPassage S → Type 0) (s : Shell S) : Type 0 where
    passage : EndPassage S
    leads : EndLeads rules acts p passage
    role : passage.passage.role ≡ s.role
    held : AreHeld s
    logs : L passage

  nothing : (p : EndPassage S) → EndLogs p p [] []
  nothing p =
      record { given = sym (append-nil p.given); taken = sym (append-nil p.taken) }

  happens : (p : EndPassage S) (s : Shell S) (event : Event) → Passes rules p.passage s event
      → Goes p (λ q. LogsAtEnd rules acts p s q (Happens event)) (after_event rules s event)
  unfolding with_passage
  happens p s event f = record {
    passage = with_passage p f.follows.passage;
    leads = record {
      moves = map Moves f.follows.leads.moves;
      allowed = all_allowed p f.follows.leads.moves f.follows.leads.allowed;
      reached =
          all_reached p f.follows.leads.moves ∙ ap (with_passage p) f.follows.leads.reached;
    };
    role = f.follows.role;
    held = f.follows.held;
    logs = (
      f.logs,
      record { given = sym (append-nil p.given); taken = sym (append-nil p.taken) },
    );
  }

  -- ---- the acts of an end

  module _ (p : EndPassage S) (s : Shell S) (is : p.passage.role ≡ s.role) (held : AreHeld s) where
    none : Goes p (λ q. IsQuiet p.passage q.passage × EndLogs p q [] []) s
    none = record {
      passage = p;
      leads = leads_none p;
      role = is;
      held = held;
      logs = ((refl, refl), nothing p);
    }

    gives : (pdu : List ℕ)
        → Goes p (λ q. LogsAtEnd rules acts p s q (IsGiven pdu)) (give acts s pdu).0
    gives pdu = by (cause_of s.course)
      where
        answered : (x : S × Result (Unit {0}) GiveRefused)
            → (let q = given_by p pdu x in
            IsQuiet p.passage q.passage
            × EndLogs p q (accepted pdu (give_answer x.1)) [])
        answered (role, Ok given) =
            ((refl, refl), record { given = refl; taken = sym (append-nil p.taken) })
        answered (role, Err refused) = (
          (refl, refl),
          record { given = sym (append-nil p.given); taken = sym (append-nil p.taken) },
        )

        by : (o : Option Cause)
            → Goes p (λ q. IsQuiet p.passage q.passage
            × EndLogs p q (accepted pdu (give_where acts s pdu o).1) [])
            (give_where acts s pdu o).0
        by (Some why) = none
        by None = record {
          passage = end_moved rules acts p (Gives pdu);
          leads = leads_one p (Gives pdu) tt;
          role =
              given_role p pdu (acts.give p.passage.role pdu)
              ∙ ap (λ (r : S). (acts.give r pdu).0) is;
          held = held;
          logs =
              subst (λ (r : S). let q = given_by p pdu (acts.give p.passage.role pdu) in
              IsQuiet p.passage q.passage
              × EndLogs p q (accepted pdu (give_answer (acts.give r pdu).1)) []) is
              (answered (acts.give p.passage.role pdu));
        }

    takes : Goes p (λ q. LogsAtEnd rules acts p s q IsTaken) (after_take acts s)
    takes = by (cause_of s.course)
      where
        taken : (role : S) (pdus : List (List ℕ))
            → (let q = with_first (end_now_at p role) pdus in
            IsQuiet p.passage q.passage × EndLogs p q [] (first_in pdus))
        taken role [] = (
          (refl, refl),
          record { given = sym (append-nil p.given); taken = sym (append-nil p.taken) },
        )
        taken role (pdu ∷ pdus) =
            ((refl, refl), record { given = sym (append-nil p.given); taken = refl })

        by : (o : Option Cause)
            → Goes p (λ q. IsQuiet p.passage q.passage × EndLogs p q [] (handed_by acts s o))
            (take_where acts s o)
        by (Some why) = none
        by None = record {
          passage = end_moved rules acts p Takes;
          leads = leads_one p Takes tt;
          role =
              taken_role _ (acts.line p.passage.role).current.pdus ∙ ap acts.take is;
          held = held;
          logs =
              subst (λ (r : S).
              let q = with_first (end_now_at p (acts.take p.passage.role))
              (acts.line p.passage.role).current.pdus in
              IsQuiet p.passage q.passage
              × EndLogs p q [] (first_in (acts.line r).current.pdus)) is
              (taken (acts.take p.passage.role) (acts.line p.passage.role).current.pdus);
        }

    closes : Goes p (λ q. IsQuiet p.passage q.passage × EndLogs p q [] []) (close acts s)
    closes = by (cause_of s.course)
      where
        by : (o : Option Cause)
            → Goes p (λ q. IsQuiet p.passage q.passage × EndLogs p q [] [])
            (close_where acts s o)
        by (Some why) = none
        by None = record {
          passage = end_moved rules acts p Closes;
          leads = leads_one p Closes tt;
          role = ap acts.close is;
          held = held;
          logs = (
            (refl, refl),
            record { given = sym (append-nil p.given); taken = sym (append-nil p.taken) },
          );
        }

    recycles : Goes p (λ q. IsQuiet p.passage q.passage × EndLogs p q [] [])
        (recycle acts rules s).0
    recycles = by (state_of rules s) refl
      where
        by : (st : State) → state_of rules s ≡ st
            → Goes p (λ q. IsQuiet p.passage q.passage × EndLogs p q [] [])
            (recycle_where acts s st).0
        by state.Open e = record {
          passage = end_moved rules acts p Recycles;
          leads = leads_one p Recycles
              (ap rules.phase is ∙ open_phase s.course (rules.phase s.role) e);
          role = ap (λ (r : S). (acts.recycle r).0) is;
          held = held;
          logs = (
            (refl, refl),
            record { given = sym (append-nil p.given); taken = sym (append-nil p.taken) },
          );
        }
        by state.Opening e = none
        by state.Ended e = none
        by (state.Closed why) e = none

  goes_on : (p : EndPassage S) (s : Shell S) (event : EndEvent)
      → p.passage.role ≡ s.role → AreHeld s
      → Goes p (λ q. LogsAtEnd rules acts p s q event) (after_end_event rules acts s event)
  goes_on p s (Happens event) is held =
      happens p s event (event_passes rules p.passage s event is held)
  goes_on p s (IsGiven pdu) is held = gives p s is held pdu
  goes_on p s IsTaken is held = takes p s is held
  goes_on p s IsClosed is held = closes p s is held
  goes_on p s IsRecycled is held = recycles p s is held

  pub end_event_passes : (p : EndPassage S) (s : Shell S) (event : EndEvent)
      → p.passage.role ≡ s.role → AreHeld s → EndPasses rules acts p s event
  end_event_passes p s event is held =
      let g = goes_on p s event is held in
      record {
        follows = record { passage = g.passage; leads = g.leads; role = g.role; held = g.held };
        logs = g.logs;
      }

  pub end_event_follows : (p : EndPassage S) (s : Shell S) (event : EndEvent)
      → p.passage.role ≡ s.role → AreHeld s
      → EndFollows rules acts p (after_end_event rules acts s event)
  end_event_follows p s event is held = (end_event_passes p s event is held).follows

  events_follow : (p : EndPassage S) (s : Shell S) (events : List EndEvent)
      → p.passage.role ≡ s.role → AreHeld s
      → EndFollows rules acts p (after_end_events rules acts s events)
  events_follow p s [] is held =
      record { passage = p; leads = leads_none p; role = is; held = held }
  events_follow p s (event ∷ events) is held =
      let first = end_event_follows p s event is held in
      let next = events_follow first.passage (after_end_event rules acts s event) events first.role
      first.held in
      record {
        passage = next.passage;
        leads = leads_then p first.passage next.passage first.leads next.leads;
        role = next.role;
        held = next.held;
      }

  pub end_run_follows : (role : S) (rooms : Rooms) (events : List EndEvent)
      → EndFollows rules acts (end_started role)
      (after_end_events rules acts (begun role rooms) events)
  end_run_follows role rooms events =
      events_follow (end_started role) (begun role rooms) events refl (All-nil IsHeld)
