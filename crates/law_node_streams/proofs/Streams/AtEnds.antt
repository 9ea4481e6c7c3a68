-- the stream of an end, event by event
use Rattle.law_order.proofs.Vocabulary.{◌≡◌, ◌⊎◌, inl, inr, ℕ, List, [], ◌∷◌, ◌++◌, append_assoc, Bool, false, ◌||◌, Some, None, Err, refl, sym, ap, ◌∙◌, subst, Option, AllByRecursion, list_any, append-nil, list_any-append, IsPrefix}
use Rattle.rh_line.specs.declared.state.State.TheVariants as state
use Rattle.rh_shell.specs.Ends.{given_by as told_of}
use Rattle.rh_shell.specs.declared.answers.HeadRefused.TheVariants as head
use Rattle.rh_shell.specs.declared.answers.Phase.TheVariants as phase
use Rattle.law_moves.proofs.Vocabulary.{neither, Cookie, Pipe, HttpFault, Cause, Leg, State, Closed, Rooms, cause_of, give_where, take_where, close_where, recycle_where, with_role, Rules, Acts, Shell, begun, may_up, state_of, accepted, handed_by, spelled, Move, Moves, EndMove, EndPassage, Gives, Takes, Closes, Recycles, Passage, MayEndMove, MayMove, all_end_moved, end_moved, end_started, is_in_use, moved, EndEvent, EndLeads, Event, Happens, IsClosed, IsGiven, IsRecycled}
use Rattle.law_moves.proofs.Vocabulary.{IsTaken, after_end_event, after_end_events, after_event, of_leg, messages_read, Stages, IsInTurn, stages_after, AreCountedAtEnd, IsCounted, IsCountedAtEnd, AreUpFirst, CameUpWith, HasComeUp, IsUpFirst}
use Rattle.law_moves.proofs.Lemmas.{open_phase as is_open}
use Rattle.law_node_history.proofs.Lemmas.{came_append, end_drawn_append, heard_append, happened_append, end_accepted_append, end_events_append}
use Rattle.law_node_history.proofs.Vocabulary.{AreAcceptedAtEnd, ComesUpOnceAtEnd, IsAcceptedAtEnd, came_up, drawn_at_end, drawn_in, end_drawn_on, happened, heard_in, heard_on, is_up_of}
use Rattle.law_node_streams.proofs.Streams.EndMoves.{Did, did_close, did_give, did_recycle, did_take, leads_one}
use Rattle.law_node_streams.proofs.Streams.Seats.{left_self, seat, silent_none, staged_on}
use Rattle.law_node_streams.proofs.Streams.Begun.{same_begun}
use Rattle.law_node_streams.proofs.Streams.Counts.{end_counted_append}
use Rattle.law_node_streams.proofs.Streams.Kept.{FrontOf}
use Rattle.law_node_streams.proofs.Streams.Going.{IsSpelledOut, kept_seated, spelled_at}
use Rattle.law_node_streams.proofs.Streams.Rising.{AreKnown, IsLifted, came_of, comes_here, first_more, has_cookies, is_up_first, known_more, lifted_with, up_more}
use Rattle.law_node_streams.proofs.Streams.Runs.{IsFit, Ran, ran_as, ran_by, ran_event, ran_none}
use Rattle.law_node_streams.proofs.Streams.Turns.{Passes}
use Rattle.law_node_streams.proofs.Streams.Ways.{Lifts, each_joined, each_of, or_false}
use Rattle.law_node_streams.specs.Streams.{EndStream, HearsInTurn, NeverRefuses, Seated, StaysUnusedAtEnd, all_given, all_taken, is_end_up_on, is_up_on, taken_by}
use Rattle.law_node_streams.specs.Streams as streams

module _ {S : Type 0} (rules : Rules S) (acts : Acts S) (first : S) (rooms : Rooms)
    (pipe : Leg → Option Pipe) (piped : (s : S) (leg : Leg) → rules.pipe s leg ≡ pipe leg)
    (never : NeverRefuses rules) (unused : StaysUnusedAtEnd rules acts first)
    (once : ComesUpOnceAtEnd rules acts (begun first rooms)) (all : List EndEvent) where
  abbrev pub start : Shell S
  start = begun first rooms

  abbrev pub Sound : Leg → Type 0
  Sound leg = Unit {0}

  -- the leg came up so by an event
  abbrev pub CameUp : Leg → Cookie → Type 0
  CameUp leg cookie = CameUpWith (happened all) leg cookie

  -- moves of the end lead to it, by which these PDUs were given and taken
  pub record IsReached (given taken : List (List ℕ)) (p : Passage S) (ms : List Move)
      (g : Stages) : Type 0 where
    pub end : EndPassage S
    pub leads : EndLeads rules acts (end_started first) end
    pub is : end.passage ≡ p
    pub ups : (leg : Leg)
        → list_any (is_end_up_on leg) leads.moves ≡ list_any (is_up_on leg) ms
    pub lifted : AllByRecursion (Lifts CameUp) ms → AllByRecursion (IsLifted CameUp) leads.moves
    pub up_first : AreUpFirst [] leads.moves
    pub known : AreKnown leads.moves g
    pub counted : AreCountedAtEnd rules acts (end_started first) leads.moves
    pub given_is : end.given ≡ given
    pub taken_is : end.taken ≡ taken

  pub end_stays : (end : EndPassage S) (move : EndMove) (leg : Leg)
      → EndLeads rules acts (end_started first) end → MayEndMove rules end.passage.role move
      → is_end_up_on leg move ≡ false → is_in_use rules end.passage.role leg ≡ false
      → is_in_use rules (end_moved rules acts end move).passage.role leg ≡ false
  end_stays end move leg leads may up not_used =
      subst (λ (x : EndPassage S).
      is_in_use rules (end_moved rules acts x move).passage.role leg ≡ false) leads.reached
      (unused leads.moves move leg leads.allowed
      (subst (λ (x : EndPassage S). MayEndMove rules x.passage.role move) (sym leads.reached) may)
      up
      (subst (λ (x : EndPassage S). is_in_use rules x.passage.role leg ≡ false)
      (sym leads.reached) not_used))

  pub asked : (leg : Leg) (p : Passage S) (text : List ℕ) (fault : HttpFault)
      → (rules.head p.role leg text).1 ≡ Err (head.Request fault)
      → ⊥ × (of_leg leg p.put ≡ [])
  asked leg p text fault refuses = absurd (never.heads p.role leg text fault refuses)

  pub unreached : (leg : Leg) (p : Passage S) → rules.answers_on p.role ≡ Some leg
      → ⊥ × (of_leg leg p.put ≡ [])
  unreached leg p answers =
      absurd (let bad : None ≡ Some leg = sym (never.unreached p.role) ∙ answers in cc)

  abbrev pub RanBy : List (List ℕ) → List (List ℕ) → Shell S → (Leg → List ℕ) → (Leg → List ℕ)
      → (Leg → Bool) → Type 0
  RanBy given taken s heard drawn up =
      Ran rules pipe Sound ⊥ CameUp (IsReached given taken) s heard drawn up

  module _ (given taken : List (List ℕ)) where
    more : (p : Passage S) (ms : List Move) (g : Stages) (move : Move)
        → IsReached given taken p ms g → MayMove rules p.role move
        → IsInTurn rules p.role g move → IsCounted p move
        → IsReached given taken (moved rules p move) (ms ++ move ∷ [])
        (stages_after rules p.role g move)
    more p ms g move at may turn count = record {
      end = end_moved rules acts at.end (Moves move);
      leads = leads_one rules acts (end_started first) at.end (Moves move) at.leads
          (subst (λ (x : Passage S). MayMove rules x.role move) (sym at.is) may);
      is = ap (λ x. moved rules x move) at.is;
      ups = λ leg.
          list_any-append (is_end_up_on leg) at.leads.moves (Moves move ∷ [])
          ∙ ap (λ b. b || (is_up_on leg move || false)) (at.ups leg)
          ∙ sym (list_any-append (is_up_on leg) ms (move ∷ []));
      lifted = λ have.
          let two = each_of (Lifts CameUp) ms (move ∷ []) have in
          each_joined (IsLifted CameUp) at.leads.moves (Moves move ∷ []) (at.lifted two.0)
          two.1;
      up_first =
          first_more [] at.leads.moves (Moves move) at.up_first
          (is_up_first rules p.role g at.leads.moves move at.known turn);
      known = known_more rules p.role g at.leads.moves move at.known turn;
      counted =
          end_counted_append rules acts (end_started first) at.leads.moves (Moves move ∷ [])
          at.counted (
            subst (λ (x : EndPassage S). IsCountedAtEnd x (Moves move)) (sym at.leads.reached)
                (subst (λ (x : Passage S). IsCounted x move) (sym at.is) count),
            tt,
          );
      given_is = at.given_is;
      taken_is = at.taken_is;
    }

    stays : (p : Passage S) (ms : List Move) (g : Stages) (move : Move) (leg : Leg)
        → IsReached given taken p ms g → MayMove rules p.role move → is_up_on leg move ≡ false
        → is_in_use rules p.role leg ≡ false
        → is_in_use rules (moved rules p move).role leg ≡ false
    stays p ms g move leg at may up not_used =
        subst (λ (x : Passage S). is_in_use rules (moved rules x move).role leg ≡ false) at.is
        (end_stays at.end (Moves move) leg at.leads
        (subst (λ (x : Passage S). MayMove rules x.role move) (sym at.is) may) up
        (subst (λ (x : Passage S). is_in_use rules x.role leg ≡ false) (sym at.is) not_used))

    module _ (s : Shell S) (heard drawn : Leg → List ℕ) (up : Leg → Bool)
        (ran : RanBy given taken s heard drawn up) where
      abbrev After : List (List ℕ) → List (List ℕ) → Shell S → Type 0
      After more out t =
          RanBy (given ++ more) (taken ++ out) t (λ leg. heard leg ++ [])
          (λ leg. drawn leg ++ []) (λ leg. up leg || false)

      aside : (next : List (List ℕ)) (out : List (List ℕ)) (role : S) (q : Passage S)
          → IsReached (given ++ next) (taken ++ out) q (ran.moves ++ []) ran.stages
          → q.role ≡ role → q.came ≡ ran.passage.came → q.put ≡ ran.passage.put
          → ((leg : Leg) → is_in_use rules ran.passage.role leg ≡ false
          → is_in_use rules q.role leg ≡ false)
          → After next out (with_role s role)
      aside next out role q at role_is came put unused_on =
          ran_by rules pipe Sound ⊥ CameUp (IsReached given taken)
          (λ leg p ms g text fault sound at top headless refuses. asked leg p text fault refuses)
          (λ leg p ms g wanted sound at answers wants. unreached leg p answers)
          (IsReached (given ++ next) (taken ++ out)) s (with_role s role) heard drawn (λ leg. [])
          (λ leg. []) up (λ leg. up leg || false) ran q [] ran.stages at role_is (λ leg free. free)
          (λ leg. same_begun leg s (with_role s role) refl)
          ran.held ran.apart
          (λ leg. Passes (record {
            quiet = record {
              came = ap (of_leg leg) came;
              put = ap (of_leg leg) put;
              headless = refl;
              out_is = refl;
            };
            left = left_self (seat leg s);
            silent = silent_none (seat leg s);
          }))
          (λ leg.
          staged_on (ran.stages leg) (ran.stages leg) (seat leg s) (seat leg s) (up leg) refl
          (λ on. on) (ran.staged leg))
          (λ leg. refl) tt (λ leg rose. unused_on leg)
          (λ leg e. (neither (up leg) false e).0) (λ leg e. refl)

      -- no act
      idle : After [] [] s
      idle =
          aside [] [] s.role ran.passage (record {
            end = ran.at.end;
            leads = ran.at.leads;
            is = ran.at.is;
            ups = λ leg.
                ran.at.ups leg ∙ ap (list_any (is_up_on leg)) (sym (append-nil ran.moves));
            lifted = λ have.
                ran.at.lifted (subst (AllByRecursion (Lifts CameUp)) (append-nil ran.moves) have);
            up_first = ran.at.up_first;
            known = ran.at.known;
            counted = ran.at.counted;
            given_is = ran.at.given_is ∙ sym (append-nil given);
            taken_is = ran.at.taken_is ∙ sym (append-nil taken);
          }) ran.role refl refl (λ leg e. e)

      role_is : ran.at.end.passage.role ≡ s.role
      role_is = ap (λ (x : Passage S). x.role) ran.at.is ∙ ran.role

      act : (move : EndMove) (role : S) (next out : List (List ℕ))
          → MayEndMove rules s.role move → ((leg : Leg) → is_end_up_on leg move ≡ false)
          → IsLifted CameUp move → ((before : List EndMove) → IsUpFirst before move)
          → ((x : EndPassage S) → IsCountedAtEnd x move)
          → Did ran.at.end (end_moved rules acts ran.at.end move) role next out
          → After next out (with_role s role)
      act move role next out may up_none with plain uncounted did =
          let at = ran.at in
          let moves_on = subst (λ (r : S). MayEndMove rules r move) (sym role_is) may in
          let q = end_moved rules acts at.end move in
          aside next out role q.passage (record {
            end = q;
            leads = leads_one rules acts (end_started first) at.end move at.leads moves_on;
            is = refl;
            ups = λ leg.
                list_any-append (is_end_up_on leg) at.leads.moves (move ∷ [])
                ∙ ap (λ b. list_any (is_end_up_on leg) at.leads.moves || (b || false))
                (up_none leg)
                ∙ or_false (list_any (is_end_up_on leg) at.leads.moves) ∙ at.ups leg
                ∙ ap (list_any (is_up_on leg)) (sym (append-nil ran.moves));
            lifted = λ have.
                each_joined (IsLifted CameUp) at.leads.moves (move ∷ [])
                (at.lifted (subst (AllByRecursion (Lifts CameUp)) (append-nil ran.moves) have))
                (with, tt);
            up_first = first_more [] at.leads.moves move at.up_first (plain at.leads.moves);
            known = λ leg stage is. up_more at.leads.moves (move ∷ []) leg (at.known leg stage is);
            counted =
                end_counted_append rules acts (end_started first) at.leads.moves (move ∷ [])
                at.counted
                (uncounted (all_end_moved rules acts (end_started first) at.leads.moves), tt);
            given_is = did.given ∙ ap (λ x. x ++ next) at.given_is;
            taken_is = did.taken ∙ ap (λ x. x ++ out) at.taken_is;
          }) did.role
          (did.came ∙ ap (λ (x : Passage S). x.came) at.is)
          (did.put ∙ ap (λ (x : Passage S). x.put) at.is)
          (λ leg e.
          end_stays at.end move leg at.leads moves_on (up_none leg)
          (subst (λ (x : Passage S). is_in_use rules x.role leg ≡ false) (sym at.is) e))

      gives : (pdu : List ℕ) (o : Option Cause)
          → After (accepted pdu (give_where acts s pdu o).1) [] (give_where acts s pdu o).0
      gives pdu (Some why) = idle
      gives pdu None =
          act (Gives pdu) (acts.give s.role pdu).0
          (accepted pdu (told_of (acts.give s.role pdu).1)) [] tt (λ leg. refl) tt (λ before. tt)
          (λ x. tt)
          (did_give rules acts ran.at.end pdu (acts.give s.role pdu)
          (ap (λ (r : S). acts.give r pdu) role_is))

      takes : (o : Option Cause) → After [] (handed_by acts s o) (take_where acts s o)
      takes (Some why) = idle
      takes None =
          act Takes (acts.take s.role) [] (handed_by acts s None) tt (λ leg. refl) tt (λ before. tt)
          (λ x. tt)
          (did_take rules acts ran.at.end s.role role_is)

      closes : (o : Option Cause) → After [] [] (close_where acts s o)
      closes (Some why) = idle
      closes None =
          act Closes (acts.close s.role) [] [] tt (λ leg. refl) tt (λ before. tt)
          (λ x. tt)
          (did_close rules acts ran.at.end s.role role_is)

      recycles : (x : State) → state_of rules s ≡ x → After [] [] (recycle_where acts s x).0
      recycles state.Open e =
          act Recycles (acts.recycle s.role).0 [] [] (is_open s.course (rules.phase s.role) e)
          (λ leg. refl) tt (λ before. tt) (λ x. tt)
          (did_recycle rules acts ran.at.end s.role role_is)
      recycles state.Opening e = idle
      recycles state.Ended e = idle
      recycles (state.Closed why) e = idle

  -- ---- all that happens at the end

  abbrev pub RanTo : List (List ℕ) → List (List ℕ) → Shell S → List EndEvent → Type 0
  RanTo given taken s events =
      RanBy given taken s (λ leg. heard_on leg (happened events))
      (λ leg. end_drawn_on rules acts start leg events) (λ leg. came_up leg (happened events))

  -- what was kept, and then what an event brought
  abbrev pub Next : List (List ℕ) → List (List ℕ) → Shell S → List EndEvent → EndEvent → Type 0
  Next given taken s events event =
      RanBy (given ++ streams.given_by acts s event) (taken ++ taken_by acts s event)
      (after_end_event rules acts s event)
      (λ leg. heard_on leg (happened events) ++ heard_on leg (happened (event ∷ [])))
      (λ leg. end_drawn_on rules acts start leg events ++ drawn_at_end rules acts s leg event)
      (λ leg. came_up leg (happened events) || came_up leg (happened (event ∷ [])))

  abbrev pub FitsEnd : Shell S → List EndEvent → EndEvent → Type 0
  FitsEnd s events (Happens event) =
      IsFit rules CameUp s (λ leg. came_up leg (happened events)) event
  FitsEnd s events act = Unit {0}

  pub happens : (given taken : List (List ℕ)) (s : Shell S) (events : List EndEvent) (event : Event)
      → RanTo given taken s events
      → IsFit rules CameUp s (λ leg. came_up leg (happened events)) event
      → Next given taken s events (Happens event)
  happens given taken s events event ran fit =
      subst (λ x. RanBy x (taken ++ []) (after_event rules s event)
      (λ leg. heard_on leg (happened events) ++ (heard_in leg event ++ []))
      (λ leg. end_drawn_on rules acts start leg events ++ drawn_in rules s leg event)
      (λ leg. came_up leg (happened events) || (is_up_of leg event || false)))
      (sym (append-nil given))
      (subst (λ x. RanBy given x (after_event rules s event)
      (λ leg. heard_on leg (happened events) ++ (heard_in leg event ++ []))
      (λ leg. end_drawn_on rules acts start leg events ++ drawn_in rules s leg event)
      (λ leg. came_up leg (happened events) || (is_up_of leg event || false)))
      (sym (append-nil taken))
      (ran_as rules pipe Sound ⊥ CameUp (IsReached given taken)
      (after_event rules s event)
      (λ leg. heard_on leg (happened events) ++ heard_in leg event)
      (λ leg. end_drawn_on rules acts start leg events ++ drawn_in rules s leg event)
      (λ leg. heard_on leg (happened events) ++ (heard_in leg event ++ []))
      (λ leg. end_drawn_on rules acts start leg events ++ drawn_in rules s leg event)
      (λ leg. came_up leg (happened events) || is_up_of leg event)
      (λ leg. came_up leg (happened events) || (is_up_of leg event || false))
      (λ leg.
      ap (λ x. heard_on leg (happened events) ++ x) (sym (append-nil (heard_in leg event))))
      (λ leg. refl)
      (λ leg.
      ap (λ b. came_up leg (happened events) || b) (sym (or_false (is_up_of leg event))))
      (ran_event rules pipe Sound ⊥ CameUp (IsReached given taken)
      (λ leg p ms g text fault sound at top headless refuses. asked leg p text fault refuses)
      (λ leg p ms g wanted sound at answers wants. unreached leg p answers)
      (more given taken) (stays given taken) (λ p ms g leg at. piped p.role leg) s event
      (λ leg. heard_on leg (happened events)) (λ leg. end_drawn_on rules acts start leg events)
      (λ leg. came_up leg (happened events)) ran fit)))

  pub next_of : (given taken : List (List ℕ)) (s : Shell S) (events : List EndEvent)
      (event : EndEvent) → RanTo given taken s events → FitsEnd s events event
      → Next given taken s events event
  next_of given taken s events (Happens event) ran fit =
      happens given taken s events event ran fit
  next_of given taken s events (IsGiven pdu) ran fit =
      gives given taken s (λ leg. heard_on leg (happened events))
      (λ leg. end_drawn_on rules acts start leg events) (λ leg. came_up leg (happened events)) ran
      pdu (cause_of s.course)
  next_of given taken s events IsTaken ran fit =
      takes given taken s (λ leg. heard_on leg (happened events))
      (λ leg. end_drawn_on rules acts start leg events) (λ leg. came_up leg (happened events)) ran
      (cause_of s.course)
  next_of given taken s events IsClosed ran fit =
      closes given taken s (λ leg. heard_on leg (happened events))
      (λ leg. end_drawn_on rules acts start leg events) (λ leg. came_up leg (happened events)) ran
      (cause_of s.course)
  next_of given taken s events IsRecycled ran fit =
      recycles given taken s (λ leg. heard_on leg (happened events))
      (λ leg. end_drawn_on rules acts start leg events) (λ leg. came_up leg (happened events)) ran
      (state_of rules s) refl

  pub one_more : (given taken : List (List ℕ)) (s : Shell S) (events : List EndEvent)
      (event : EndEvent) → after_end_events rules acts start events ≡ s
      → Next given taken s events event
      → RanTo (given ++ streams.given_by acts s event) (taken ++ taken_by acts s event)
      (after_end_event rules acts s event) (events ++ event ∷ [])
  one_more given taken s events event is next =
      ran_as rules pipe Sound ⊥ CameUp
      (IsReached (given ++ streams.given_by acts s event) (taken ++ taken_by acts s event))
      (after_end_event rules acts s event)
      (λ leg. heard_on leg (happened events) ++ heard_on leg (happened (event ∷ [])))
      (λ leg. end_drawn_on rules acts start leg events ++ drawn_at_end rules acts s leg event)
      (λ leg. heard_on leg (happened (events ++ event ∷ [])))
      (λ leg. end_drawn_on rules acts start leg (events ++ event ∷ []))
      (λ leg. came_up leg (happened events) || came_up leg (happened (event ∷ [])))
      (λ leg. came_up leg (happened (events ++ event ∷ [])))
      (λ leg.
      sym (heard_append leg (happened events) (happened (event ∷ [])))
      ∙ ap (heard_on leg) (sym (happened_append events (event ∷ []))))
      (λ leg.
      ap (λ x. end_drawn_on rules acts start leg events ++ x)
      (ap (λ (x : Shell S). drawn_at_end rules acts x leg event) (sym is)
      ∙ sym (append-nil (drawn_at_end rules acts (after_end_events rules acts start events) leg
      event)))
      ∙ sym (end_drawn_append rules acts leg start events (event ∷ [])))
      (λ leg.
      sym (came_append leg (happened events) (happened (event ∷ [])))
      ∙ ap (came_up leg) (sym (happened_append events (event ∷ []))))
      next

  pub fits : (s : Shell S) (events later : List EndEvent) (event : EndEvent)
      → after_end_events rules acts start events ≡ s
      → AreAcceptedAtEnd rules acts start events → IsAcceptedAtEnd rules s event
      → HearsInTurn (happened (events ++ event ∷ later))
      → events ++ event ∷ later ≡ all → FitsEnd s events event
  fits s events later (Happens event) is before accepted turn whole = record {
    accepted = accepted;
    once = λ leg rose.
        subst (λ (x : Shell S). may_up rules x leg ≡ false) is (once.once events leg before rose);
    turn = λ leg piece e.
        turn (happened events) (happened later) leg piece
        (happened_append events (Happens event ∷ later)
        ∙ ap (λ x. happened events ++ x ∷ happened later) e);
    raises = λ leg cookie e.
        subst (λ x. CameUpWith (happened x) leg cookie) whole
        (subst (λ x. CameUpWith x leg cookie)
        (sym (happened_append events (Happens event ∷ later)))
        (comes_here (happened events) (happened later) event leg cookie e));
  }
  fits s events later (IsGiven pdu) is before accepted turn whole = tt
  fits s events later IsTaken is before accepted turn whole = tt
  fits s events later IsClosed is before accepted turn whole = tt
  fits s events later IsRecycled is before accepted turn whole = tt

  pub run : (given taken : List (List ℕ)) (events later : List EndEvent) (s : Shell S)
      → after_end_events rules acts start events ≡ s → AreAcceptedAtEnd rules acts start events
      → RanTo given taken s events → AreAcceptedAtEnd rules acts s later
      → HearsInTurn (happened (events ++ later)) → events ++ later ≡ all
      → RanTo (given ++ all_given rules acts s later) (taken ++ all_taken rules acts s later)
      (after_end_events rules acts s later) (events ++ later)
  run given taken events [] s is before ran accepted turn whole =
      subst (λ x. RanTo x (taken ++ []) s (events ++ [])) (sym (append-nil given))
      (subst (λ x. RanTo given x s (events ++ [])) (sym (append-nil taken))
      (subst (RanTo given taken s) (sym (append-nil events)) ran))
  run given taken events (event ∷ later) s is before ran accepted turn whole =
      let next = after_end_event rules acts s event in
      let end = after_end_events rules acts next later in
      let same = append_assoc events (event ∷ []) later in
      let g = streams.given_by acts s event in
      let k = taken_by acts s event in
      subst (λ x. RanTo x (taken ++ (k ++ all_taken rules acts next later)) end
      (events ++ event ∷ later)) (append_assoc given g (all_given rules acts next later))
      (subst (λ x. RanTo ((given ++ g) ++ all_given rules acts next later) x end
      (events ++ event ∷ later)) (append_assoc taken k (all_taken rules acts next later))
      (subst (RanTo ((given ++ g) ++ all_given rules acts next later)
      ((taken ++ k) ++ all_taken rules acts next later) end) same
      (run (given ++ g) (taken ++ k) (events ++ event ∷ []) later next
      (end_events_append rules acts start events (event ∷ [])
      ∙ ap (λ (x : Shell S). after_end_event rules acts x event) is)
      (end_accepted_append rules acts start events (event ∷ []) before
      (subst (λ (x : Shell S). IsAcceptedAtEnd rules x event) (sym is) accepted.0, tt))
      (one_more given taken s events event is
      (next_of given taken s events event ran
      (fits s events later event is before accepted.0 turn whole)))
      accepted.1
      (subst (λ x. HearsInTurn (happened x)) (sym same) turn) (same ∙ whole))))

  pub drawn_is : (leg : Leg) (p : Passage S) (heard bytes : List ℕ)
      → IsPrefix bytes (spelled (of_leg leg p.put))
      ⊎ FrontOf rules (pipe leg) leg (Sound leg) ⊥ p heard bytes
      → IsPrefix bytes (spelled (of_leg leg p.put))
  drawn_is leg p heard bytes (inl front) = front
  drawn_is leg p heard bytes (inr front) = absurd front.answering.may

  pub end_stream : AreAcceptedAtEnd rules acts start all → HearsInTurn (happened all)
      → EndStream rules acts first rooms pipe all
  end_stream accepted turn = record {
    passage = ran.at.end;
    leads = ran.at.leads;
    role = ap (λ (x : Passage S). x.role) ran.at.is ∙ ran.role;
    given = ran.at.given_is;
    taken = ran.at.taken_is;
    ups = λ leg. ran.at.ups leg ∙ ran.ups leg;
    cookies = λ have.
        has_cookies ran.at.leads.moves (λ leg cookie rose.
        came_of (happened all) leg cookie have (raised leg cookie rose));
    raised = raised;
    up_first = ran.at.up_first;
    counted = ran.at.counted;
    read = λ leg.
        subst (λ (x : Passage S). IsPrefix (of_leg leg x.came)
        (messages_read (pipe leg) (heard_on leg (happened all)))) (sym ran.at.is)
        (ran.kept leg).front;
    drawn = λ leg.
        subst (λ (x : Passage S). IsPrefix (end_drawn_on rules acts start leg all)
        (spelled (of_leg leg x.put))) (sym ran.at.is)
        (drawn_is leg ran.passage (heard_on leg (happened all))
        (end_drawn_on rules acts start leg all)
        ((ran.kept leg).spells tt));
    seats = λ leg end going at.
        subst (λ (x : Passage S). Seated rules (after_end_events rules acts start all).role
        (pipe leg) (of_leg leg x.came) (of_leg leg x.put) (heard_on leg (happened all))
        (end_drawn_on rules acts start leg all) end) (sym ran.at.is)
        (kept_seated rules (pipe leg) leg (Sound leg) ⊥ ran.passage ran.moves
        (after_end_events rules acts start all) (heard_on leg (happened all))
        (end_drawn_on rules acts start leg all) (came_up leg (happened all)) ran.role
        (ran.kept leg) end going at);
    left = λ leg.
        spelled_at leg (after_end_events rules acts start all) (of_leg leg ran.at.end.passage.put)
        (end_drawn_on rules acts start leg all)
        (subst (λ (x : Passage S). IsSpelledOut leg (after_end_events rules acts start all) (of_leg leg x.put)
        (end_drawn_on rules acts start leg all)) (sym ran.at.is) (ran.left leg));
    unput = λ leg none.
        subst (λ (x : Passage S). of_leg leg x.put ≡ []) (sym ran.at.is)
        ((ran.kept leg).new none).put;
  }
    where
      ran : RanTo (all_given rules acts start all) (all_taken rules acts start all)
          (after_end_events rules acts start all) all
      ran =
          run [] [] [] all start refl tt
          (ran_none rules pipe Sound ⊥ CameUp (IsReached [] []) first rooms (record {
            end = end_started first;
            leads = record { moves = []; allowed = tt; reached = refl };
            is = refl;
            ups = λ leg. refl;
            lifted = λ have. tt;
            up_first = tt;
            known = λ leg stage is. absurd cc;
            counted = tt;
            given_is = refl;
            taken_is = refl;
          })) accepted turn refl

      raised : (leg : Leg) (cookie : Cookie) → HasComeUp ran.at.leads.moves leg cookie
          → CameUp leg cookie
      raised leg cookie =
          lifted_with CameUp ran.at.leads.moves leg cookie (ran.at.lifted ran.lifted)
