-- the streams of an end behind each front of its events, event by event
use Rattle.law_order.proofs.Vocabulary.{◌≡◌, inl, inr, ℕ, List, [], ◌∷◌, ◌++◌, append_assoc, Bool, false, ◌||◌, Some, None, Err, refl, sym, ap, ◌∙◌, subst, Option, AllByRecursion, list_any, append-nil, list_any-append, IsPrefix}
use Rattle.rh_line.specs.declared.state.State.TheVariants as state
use Rattle.rh_shell.specs.Ends.{given_by as told_of}
use Rattle.rh_shell.specs.declared.answers.HeadRefused.TheVariants as head
use Rattle.law_moves.proofs.Vocabulary.{neither, prefix_more, prefix_self, prefix_trans, Cookie, Pipe, HttpFault, Cause, Leg, State, Rooms, cause_of, give_where, take_where, close_where, recycle_where, with_role, Rules, Acts, Shell, begun, state_of, accepted, handed_by, spelled, Move, Up, HeadCame, PduCame, PacketCame, Puts, IsDrawn, Marks, Pings, Moves, EndMove, EndPassage, Gives, Takes, Closes, Recycles, Passage, MayEndMove, MayMove, all_end_moved, end_moved, end_started}
use Rattle.law_moves.proofs.Vocabulary.{is_in_use, moved, EndEvent, EndLeads, Event, Happens, Hears, IsClosed, IsGiven, IsRecycled, IsTaken, after_end_event, after_end_events, after_event, of_leg, AreCountedAtEnd, IsCounted, IsCountedAtEnd, AreUpFirst, CameUpWith, HasComeUp, IsUpFirst, messages_read, Stages, IsInTurn, stages_after}
use Rattle.law_moves.proofs.Lemmas.{open_phase as is_open}
use Rattle.law_node_history.proofs.Lemmas.{came_append, end_accepted_append, end_drawn_append, happened_append, heard_append, end_events_append}
use Rattle.law_node_history.proofs.Vocabulary.{AreAcceptedAtEnd, ComesUpOnceAtEnd, IsAcceptedAtEnd, came_up, drawn_at_end, drawn_in, end_drawn_on, happened, heard_in, heard_on, is_up_of}
use Rattle.law_node_streams.proofs.Streams.AtEnds.{drawn_is, end_stays}
use Rattle.law_node_streams.proofs.Streams.Begun.{same_begun}
use Rattle.law_node_streams.proofs.Streams.Counts.{end_counted_append}
use Rattle.law_node_streams.proofs.Streams.EndMoves.{Did, did_close, did_give, did_recycle, did_take, leads_one}
use Rattle.law_node_streams.proofs.Streams.Going.{IsSpelledOut, kept_seated, spelled_at}
use Rattle.law_node_streams.proofs.Streams.Rising.{AreKnown, IsLifted, came_of, comes_here, first_more, has_cookies, is_up_first, known_more, lifted_with, up_more}
use Rattle.law_node_streams.proofs.Streams.Runs.{IsFit, Ran, ran_as, ran_by, ran_event, ran_none}
use Rattle.law_node_streams.proofs.Streams.Seats.{left_self, seat, silent_none, staged_on}
use Rattle.law_node_streams.proofs.Streams.Turns.{Passes}
use Rattle.law_node_streams.proofs.Streams.Ways.{Lifts, each_joined, each_of, or_false}
use Rattle.law_node_streams.proofs.Grown.Based.{ran_with}
use Rattle.law_node_streams.specs.Streams.{EndStream, HearsInTurn, NeverRefuses, Seated, StaysUnusedAtEnd, all_given, all_taken, given_by, is_end_up_on, is_up_on, taken_by}
use Rattle.law_node_streams.specs.Grown.{EndGrowing, EndGrows}

-- ---- more events

came_more : (events later : List Event) (leg : Leg) (cookie : Cookie)
    → CameUpWith events leg cookie → CameUpWith (events ++ later) leg cookie
came_more [] later leg cookie came = absurd came
came_more (event ∷ events) later leg cookie (inl is) = inl is
came_more (event ∷ events) later leg cookie (inr rest) =
    inr (came_more events later leg cookie rest)

-- what is heard in turn in all events is so in the first
pub turn_front : (events later : List Event) → HearsInTurn (events ++ later) → HearsInTurn events
turn_front events later turn before behind leg piece is =
    turn before (behind ++ later) leg piece
    (ap (λ x. x ++ later) is ∙ append_assoc before (Hears leg piece ∷ behind) later)

each_as : {X : Type 0} (P Q : X → Type 0) (xs : List X) → ((x : X) → P x → Q x)
    → AllByRecursion P xs → AllByRecursion Q xs
each_as P Q [] so all = tt
each_as P Q (x ∷ xs) so all = (so x all.0, each_as P Q xs so all.1)

module _ (With Other : Leg → Cookie → Type 0)
    (so : (leg : Leg) (cookie : Cookie) → With leg cookie → Other leg cookie) where
  lifts_as : (move : Move) → Lifts With move → Lifts Other move
  lifts_as (Up leg cookie) is = so leg cookie is
  lifts_as (HeadCame leg text) is = tt
  lifts_as (PduCame leg count pdu) is = tt
  lifts_as (PacketCame leg count named) is = tt
  lifts_as (Puts leg) is = tt
  lifts_as (IsDrawn leg) is = tt
  lifts_as (Marks leg) is = tt
  lifts_as (Pings leg) is = tt

  lifted_as : (move : EndMove) → IsLifted With move → IsLifted Other move
  lifted_as (Moves move) is = lifts_as move is
  lifted_as (Gives pdu) is = tt
  lifted_as Takes is = tt
  lifted_as Closes is = tt
  lifted_as Recycles is = tt

module _ {S : Type 0} (rules : Rules S) (acts : Acts S) where
  all_given_append : (s : Shell S) (events later : List EndEvent)
      → all_given rules acts s (events ++ later)
      ≡ all_given rules acts s events
      ++ all_given rules acts (after_end_events rules acts s events) later
  all_given_append s [] later = refl
  all_given_append s (event ∷ events) later =
      let next = after_end_event rules acts s event in
      ap (λ x. given_by acts s event ++ x) (all_given_append next events later)
      ∙ sym (append_assoc (given_by acts s event) (all_given rules acts next events)
      (all_given rules acts (after_end_events rules acts next events) later))

  all_taken_append : (s : Shell S) (events later : List EndEvent)
      → all_taken rules acts s (events ++ later)
      ≡ all_taken rules acts s events
      ++ all_taken rules acts (after_end_events rules acts s events) later
  all_taken_append s [] later = refl
  all_taken_append s (event ∷ events) later =
      let next = after_end_event rules acts s event in
      ap (λ x. taken_by acts s event ++ x) (all_taken_append next events later)
      ∙ sym (append_assoc (taken_by acts s event) (all_taken rules acts next events)
      (all_taken rules acts (after_end_events rules acts next events) later))

module _ {S : Type 0} (rules : Rules S) (acts : Acts S) (first : S) (rooms : Rooms)
    (pipe : Leg → Option Pipe) (piped : (s : S) (leg : Leg) → rules.pipe s leg ≡ pipe leg)
    (never : NeverRefuses rules) (unused : StaysUnusedAtEnd rules acts first)
    (once : ComesUpOnceAtEnd rules acts (begun first rooms)) where
  abbrev start : Shell S
  start = begun first rooms

  abbrev after : List EndEvent → Shell S
  after events = after_end_events rules acts start events

  abbrev Sound : Leg → Type 0
  Sound leg = Unit {0}

  -- the leg came up so by an event of these
  abbrev CameUp : List EndEvent → Leg → Cookie → Type 0
  CameUp all leg cookie = CameUpWith (happened all) leg cookie

  -- moves of the end, of which these are a front, lead to it; these PDUs were given and taken
  record Goes (all : List EndEvent) (base : List EndMove) (given taken : List (List ℕ))
      (p : Passage S) (ms : List Move) (g : Stages) : Type 0 where
    end : EndPassage S
    leads : EndLeads rules acts (end_started first) end
    is : end.passage ≡ p
    ups : (leg : Leg) → list_any (is_end_up_on leg) leads.moves ≡ list_any (is_up_on leg) ms
    lifted : AllByRecursion (Lifts (CameUp all)) ms
        → AllByRecursion (IsLifted (CameUp all)) leads.moves
    up_first : AreUpFirst [] leads.moves
    known : AreKnown leads.moves g
    counted : AreCountedAtEnd rules acts (end_started first) leads.moves
    given_is : end.given ≡ given
    taken_is : end.taken ≡ taken
    on : IsPrefix base leads.moves

  abbrev FitsEnd : List EndEvent → Shell S → List EndEvent → EndEvent → Type 0
  FitsEnd all s events (Happens event) =
      IsFit rules (CameUp all) s (λ leg. came_up leg (happened events)) event
  FitsEnd all s events act = Unit {0}

  module _ (all : List EndEvent) (base : List EndMove) where
    abbrev RanBy : List (List ℕ) → List (List ℕ) → Shell S → (Leg → List ℕ) → (Leg → List ℕ)
        → (Leg → Bool) → Type 0
    RanBy given taken s heard drawn up =
        Ran rules pipe Sound ⊥ (CameUp all) (Goes all base given taken) s heard drawn up

    refused : (leg : Leg) (p : Passage S) (text : List ℕ) (fault : HttpFault)
        → (rules.head p.role leg text).1 ≡ Err (head.Request fault)
        → ⊥ × (of_leg leg p.put ≡ [])
    refused leg p text fault refuses = absurd (never.heads p.role leg text fault refuses)

    unanswered : (leg : Leg) (p : Passage S) → rules.answers_on p.role ≡ Some leg
        → ⊥ × (of_leg leg p.put ≡ [])
    unanswered leg p answers =
        absurd (let bad : None ≡ Some leg = sym (never.unreached p.role) ∙ answers in cc)

    stays_unused : (end : EndPassage S) (move : EndMove) (leg : Leg)
        → EndLeads rules acts (end_started first) end → MayEndMove rules end.passage.role move
        → is_end_up_on leg move ≡ false → is_in_use rules end.passage.role leg ≡ false
        → is_in_use rules (end_moved rules acts end move).passage.role leg ≡ false
    stays_unused = end_stays rules acts first rooms pipe piped never unused once all

    -- one move more leads on
    abbrev on_more : (moves : List EndMove) (move : EndMove) → IsPrefix base moves
        → IsPrefix base (moves ++ move ∷ [])
    on_more moves move on =
        prefix_trans base moves (moves ++ move ∷ []) on (prefix_more moves (move ∷ []))

    module _ (given taken : List (List ℕ)) where
      more : (p : Passage S) (ms : List Move) (g : Stages) (move : Move)
          → Goes all base given taken p ms g → MayMove rules p.role move
          → IsInTurn rules p.role g move → IsCounted p move
          → Goes all base given taken (moved rules p move) (ms ++ move ∷ [])
          (stages_after rules p.role g move)
      more p ms g move at may turn count = record {
        end = end_moved rules acts at.end (Moves move);
        leads = leads_one rules acts (end_started first) at.end (Moves move) at.leads
            (subst (λ (x : Passage S). MayMove rules x.role move) (sym at.is) may);
        is = ap (λ x. moved rules x move) at.is;
        ups = λ leg.
            list_any-append (is_end_up_on leg) at.leads.moves (Moves move ∷ [])
            ∙ ap (λ b. b || (is_up_on leg move || false)) (at.ups leg)
            ∙ sym (list_any-append (is_up_on leg) ms (move ∷ []));
        lifted = λ have.
            let two = each_of (Lifts (CameUp all)) ms (move ∷ []) have in
            each_joined (IsLifted (CameUp all)) at.leads.moves (Moves move ∷ [])
            (at.lifted two.0) two.1;
        up_first =
            first_more [] at.leads.moves (Moves move) at.up_first
            (is_up_first rules p.role g at.leads.moves move at.known turn);
        known = known_more rules p.role g at.leads.moves move at.known turn;
        counted =
            end_counted_append rules acts (end_started first) at.leads.moves (Moves move ∷ [])
            at.counted (
              subst (λ (x : EndPassage S). IsCountedAtEnd x (Moves move)) (sym at.leads.reached)
                  (subst (λ (x : Passage S). IsCounted x move) (sym at.is) count),
              tt,
            );
        given_is = at.given_is;
        taken_is = at.taken_is;
        on = on_more at.leads.moves (Moves move) at.on;
      }

      stays : (p : Passage S) (ms : List Move) (g : Stages) (move : Move) (leg : Leg)
          → Goes all base given taken p ms g → MayMove rules p.role move
          → is_up_on leg move ≡ false → is_in_use rules p.role leg ≡ false
          → is_in_use rules (moved rules p move).role leg ≡ false
      stays p ms g move leg at may up not_used =
          subst (λ (x : Passage S). is_in_use rules (moved rules x move).role leg ≡ false) at.is
          (stays_unused at.end (Moves move) leg at.leads
          (subst (λ (x : Passage S). MayMove rules x.role move) (sym at.is) may) up
          (subst (λ (x : Passage S). is_in_use rules x.role leg ≡ false) (sym at.is) not_used))

      -- ---- an act

      module _ (s : Shell S) (heard drawn : Leg → List ℕ) (up : Leg → Bool)
          (ran : RanBy given taken s heard drawn up) where
        abbrev After : List (List ℕ) → List (List ℕ) → Shell S → Type 0
        After next out t =
            RanBy (given ++ next) (taken ++ out) t (λ leg. heard leg ++ [])
            (λ leg. drawn leg ++ []) (λ leg. up leg || false)

        aside : (next out : List (List ℕ)) (role : S) (q : Passage S)
            → Goes all base (given ++ next) (taken ++ out) q (ran.moves ++ []) ran.stages
            → q.role ≡ role → q.came ≡ ran.passage.came → q.put ≡ ran.passage.put
            → ((leg : Leg) → is_in_use rules ran.passage.role leg ≡ false
            → is_in_use rules q.role leg ≡ false)
            → After next out (with_role s role)
        aside next out role q at role_is came put unused_on =
            ran_by rules pipe Sound ⊥ (CameUp all) (Goes all base given taken)
            (λ leg p ms g text fault sound at top headless refuses.
            refused leg p text fault refuses)
            (λ leg p ms g wanted sound at answers wants. unanswered leg p answers)
            (Goes all base (given ++ next) (taken ++ out)) s (with_role s role) heard drawn
            (λ leg. []) (λ leg. []) up (λ leg. up leg || false) ran q [] ran.stages at role_is
            (λ leg free. free) (λ leg. same_begun leg s (with_role s role) refl) ran.held ran.apart
            (λ leg. Passes (record {
              quiet = record {
                came = ap (of_leg leg) came;
                put = ap (of_leg leg) put;
                headless = refl;
                out_is = refl;
              };
              left = left_self (seat leg s);
              silent = silent_none (seat leg s);
            }))
            (λ leg.
            staged_on (ran.stages leg) (ran.stages leg) (seat leg s) (seat leg s) (up leg) refl
            (λ on. on) (ran.staged leg))
            (λ leg. refl) tt (λ leg rose. unused_on leg)
            (λ leg e. (neither (up leg) false e).0) (λ leg e. refl)

        -- none
        idle : After [] [] s
        idle =
            aside [] [] s.role ran.passage (record {
              end = ran.at.end;
              leads = ran.at.leads;
              is = ran.at.is;
              ups = λ leg.
                  ran.at.ups leg ∙ ap (list_any (is_up_on leg)) (sym (append-nil ran.moves));
              lifted = λ have.
                  ran.at.lifted
                  (subst (AllByRecursion (Lifts (CameUp all))) (append-nil ran.moves) have);
              up_first = ran.at.up_first;
              known = ran.at.known;
              counted = ran.at.counted;
              given_is = ran.at.given_is ∙ sym (append-nil given);
              taken_is = ran.at.taken_is ∙ sym (append-nil taken);
              on = ran.at.on;
            }) ran.role refl refl (λ leg e. e)

        role_is : ran.at.end.passage.role ≡ s.role
        role_is = ap (λ (x : Passage S). x.role) ran.at.is ∙ ran.role

        act : (move : EndMove) (role : S) (next out : List (List ℕ))
            → MayEndMove rules s.role move → ((leg : Leg) → is_end_up_on leg move ≡ false)
            → IsLifted (CameUp all) move → ((before : List EndMove) → IsUpFirst before move)
            → ((x : EndPassage S) → IsCountedAtEnd x move)
            → Did ran.at.end (end_moved rules acts ran.at.end move) role next out
            → After next out (with_role s role)
        act move role next out may up_none with plain uncounted did =
            let at = ran.at in
            let moves_on = subst (λ (r : S). MayEndMove rules r move) (sym role_is) may in
            let q = end_moved rules acts at.end move in
            aside next out role q.passage (record {
              end = q;
              leads = leads_one rules acts (end_started first) at.end move at.leads moves_on;
              is = refl;
              ups = λ leg.
                  list_any-append (is_end_up_on leg) at.leads.moves (move ∷ [])
                  ∙ ap (λ b. list_any (is_end_up_on leg) at.leads.moves || (b || false))
                  (up_none leg)
                  ∙ or_false (list_any (is_end_up_on leg) at.leads.moves) ∙ at.ups leg
                  ∙ ap (list_any (is_up_on leg)) (sym (append-nil ran.moves));
              lifted = λ have.
                  each_joined (IsLifted (CameUp all)) at.leads.moves (move ∷ [])
                  (at.lifted
                  (subst (AllByRecursion (Lifts (CameUp all))) (append-nil ran.moves) have))
                  (with, tt);
              up_first = first_more [] at.leads.moves move at.up_first (plain at.leads.moves);
              known = λ leg stage is.
                  up_more at.leads.moves (move ∷ []) leg (at.known leg stage is);
              counted =
                  end_counted_append rules acts (end_started first) at.leads.moves (move ∷ [])
                  at.counted
                  (uncounted (all_end_moved rules acts (end_started first) at.leads.moves), tt);
              given_is = did.given ∙ ap (λ x. x ++ next) at.given_is;
              taken_is = did.taken ∙ ap (λ x. x ++ out) at.taken_is;
              on = on_more at.leads.moves move at.on;
            }) did.role
            (did.came ∙ ap (λ (x : Passage S). x.came) at.is)
            (did.put ∙ ap (λ (x : Passage S). x.put) at.is)
            (λ leg e.
            stays_unused at.end move leg at.leads moves_on (up_none leg)
            (subst (λ (x : Passage S). is_in_use rules x.role leg ≡ false) (sym at.is) e))

        gives : (pdu : List ℕ) (o : Option Cause)
            → After (accepted pdu (give_where acts s pdu o).1) [] (give_where acts s pdu o).0
        gives pdu (Some why) = idle
        gives pdu None =
            act (Gives pdu) (acts.give s.role pdu).0
            (accepted pdu (told_of (acts.give s.role pdu).1)) [] tt (λ leg. refl) tt
            (λ before. tt) (λ x. tt)
            (did_give rules acts ran.at.end pdu (acts.give s.role pdu)
            (ap (λ (r : S). acts.give r pdu) role_is))

        takes : (o : Option Cause) → After [] (handed_by acts s o) (take_where acts s o)
        takes (Some why) = idle
        takes None =
            act Takes (acts.take s.role) [] (handed_by acts s None) tt (λ leg. refl) tt
            (λ before. tt) (λ x. tt) (did_take rules acts ran.at.end s.role role_is)

        closes : (o : Option Cause) → After [] [] (close_where acts s o)
        closes (Some why) = idle
        closes None =
            act Closes (acts.close s.role) [] [] tt (λ leg. refl) tt (λ before. tt) (λ x. tt)
            (did_close rules acts ran.at.end s.role role_is)

        recycles : (x : State) → state_of rules s ≡ x → After [] [] (recycle_where acts s x).0
        recycles state.Open e =
            act Recycles (acts.recycle s.role).0 [] []
            (is_open s.course (rules.phase s.role) e) (λ leg. refl) tt (λ before. tt) (λ x. tt)
            (did_recycle rules acts ran.at.end s.role role_is)
        recycles state.Opening e = idle
        recycles state.Ended e = idle
        recycles (state.Closed why) e = idle

      -- ---- one event more

      abbrev RanTo : Shell S → List EndEvent → Type 0
      RanTo s events =
          RanBy given taken s (λ leg. heard_on leg (happened events))
          (λ leg. end_drawn_on rules acts start leg events)
          (λ leg. came_up leg (happened events))

      -- what was kept, and then what the event brought
      abbrev Next : Shell S → List EndEvent → EndEvent → Type 0
      Next s events event =
          RanBy (given ++ given_by acts s event) (taken ++ taken_by acts s event)
          (after_end_event rules acts s event)
          (λ leg. heard_on leg (happened events) ++ heard_on leg (happened (event ∷ [])))
          (λ leg. end_drawn_on rules acts start leg events ++ drawn_at_end rules acts s leg event)
          (λ leg. came_up leg (happened events) || came_up leg (happened (event ∷ [])))

      happens : (s : Shell S) (events : List EndEvent) (event : Event) → RanTo s events
          → IsFit rules (CameUp all) s (λ leg. came_up leg (happened events)) event
          → Next s events (Happens event)
      happens s events event ran fit =
          subst (λ x. RanBy x (taken ++ []) (after_event rules s event)
          (λ leg. heard_on leg (happened events) ++ (heard_in leg event ++ []))
          (λ leg. end_drawn_on rules acts start leg events ++ drawn_in rules s leg event)
          (λ leg. came_up leg (happened events) || (is_up_of leg event || false)))
          (sym (append-nil given))
          (subst (λ x. RanBy given x (after_event rules s event)
          (λ leg. heard_on leg (happened events) ++ (heard_in leg event ++ []))
          (λ leg. end_drawn_on rules acts start leg events ++ drawn_in rules s leg event)
          (λ leg. came_up leg (happened events) || (is_up_of leg event || false)))
          (sym (append-nil taken))
          (ran_as rules pipe Sound ⊥ (CameUp all) (Goes all base given taken)
          (after_event rules s event)
          (λ leg. heard_on leg (happened events) ++ heard_in leg event)
          (λ leg. end_drawn_on rules acts start leg events ++ drawn_in rules s leg event)
          (λ leg. heard_on leg (happened events) ++ (heard_in leg event ++ []))
          (λ leg. end_drawn_on rules acts start leg events ++ drawn_in rules s leg event)
          (λ leg. came_up leg (happened events) || is_up_of leg event)
          (λ leg. came_up leg (happened events) || (is_up_of leg event || false))
          (λ leg.
          ap (λ x. heard_on leg (happened events) ++ x) (sym (append-nil (heard_in leg event))))
          (λ leg. refl)
          (λ leg.
          ap (λ b. came_up leg (happened events) || b) (sym (or_false (is_up_of leg event))))
          (ran_event rules pipe Sound ⊥ (CameUp all) (Goes all base given taken)
          (λ leg p ms g text fault sound at top headless refuses. refused leg p text fault refuses)
          (λ leg p ms g wanted sound at answers wants. unanswered leg p answers)
          more stays (λ p ms g leg at. piped p.role leg) s event
          (λ leg. heard_on leg (happened events)) (λ leg. end_drawn_on rules acts start leg events)
          (λ leg. came_up leg (happened events)) ran fit)))

      next_of : (s : Shell S) (events : List EndEvent) (event : EndEvent) → RanTo s events
          → FitsEnd all s events event → Next s events event
      next_of s events (Happens event) ran fit = happens s events event ran fit
      next_of s events (IsGiven pdu) ran fit =
          gives s (λ leg. heard_on leg (happened events))
          (λ leg. end_drawn_on rules acts start leg events) (λ leg. came_up leg (happened events))
          ran pdu (cause_of s.course)
      next_of s events IsTaken ran fit =
          takes s (λ leg. heard_on leg (happened events))
          (λ leg. end_drawn_on rules acts start leg events) (λ leg. came_up leg (happened events))
          ran (cause_of s.course)
      next_of s events IsClosed ran fit =
          closes s (λ leg. heard_on leg (happened events))
          (λ leg. end_drawn_on rules acts start leg events) (λ leg. came_up leg (happened events))
          ran (cause_of s.course)
      next_of s events IsRecycled ran fit =
          recycles s (λ leg. heard_on leg (happened events))
          (λ leg. end_drawn_on rules acts start leg events) (λ leg. came_up leg (happened events))
          ran (state_of rules s) refl

    -- ---- behind all events until then

    abbrev RanFrom : Shell S → List EndEvent → Type 0
    RanFrom s events =
        RanBy (all_given rules acts start events) (all_taken rules acts start events) s
        (λ leg. heard_on leg (happened events)) (λ leg. end_drawn_on rules acts start leg events)
        (λ leg. came_up leg (happened events))

    one_more : (events : List EndEvent) (event : EndEvent)
        → RanFrom (after events) events
        → FitsEnd all (after events) events event
        → RanFrom (after (events ++ event ∷ [])) (events ++ event ∷ [])
    one_more events event ran fit =
        let s = after events in
        let given = all_given rules acts start events in
        let taken = all_taken rules acts start events in
        let whole = events ++ event ∷ [] in
        let heard = λ (leg : Leg). heard_on leg (happened whole) in
        let drawn = λ (leg : Leg). end_drawn_on rules acts start leg whole in
        let up = λ (leg : Leg). came_up leg (happened whole) in
        subst (λ (x : Shell S). RanFrom x whole)
        (sym (end_events_append rules acts start events (event ∷ [])))
        (subst (λ x. RanBy x (all_taken rules acts start whole) (after_end_event rules acts s event)
        heard drawn up)
        (ap (λ x. given ++ x) (sym (append-nil (given_by acts s event)))
        ∙ sym (all_given_append rules acts start events (event ∷ [])))
        (subst (λ x. RanBy (given ++ given_by acts s event) x (after_end_event rules acts s event)
        heard drawn up)
        (ap (λ x. taken ++ x) (sym (append-nil (taken_by acts s event)))
        ∙ sym (all_taken_append rules acts start events (event ∷ [])))
        (ran_as rules pipe Sound ⊥ (CameUp all)
        (Goes all base (given ++ given_by acts s event) (taken ++ taken_by acts s event))
        (after_end_event rules acts s event)
        (λ leg. heard_on leg (happened events) ++ heard_on leg (happened (event ∷ [])))
        (λ leg. end_drawn_on rules acts start leg events ++ drawn_at_end rules acts s leg event)
        heard drawn
        (λ leg. came_up leg (happened events) || came_up leg (happened (event ∷ []))) up
        (λ leg.
        sym (heard_append leg (happened events) (happened (event ∷ [])))
        ∙ ap (heard_on leg) (sym (happened_append events (event ∷ []))))
        (λ leg.
        ap (λ x. end_drawn_on rules acts start leg events ++ x)
        (sym (append-nil (drawn_at_end rules acts s leg event)))
        ∙ sym (end_drawn_append rules acts leg start events (event ∷ [])))
        (λ leg.
        sym (came_append leg (happened events) (happened (event ∷ [])))
        ∙ ap (came_up leg) (sym (happened_append events (event ∷ []))))
        (next_of given taken s events event ran fit))))

  -- ---- all events

  -- with the events until then, and from no move on
  abbrev Behind : List EndEvent → Type 0
  Behind events = RanFrom events [] (after events) events

  abbrev GoesTo : List EndEvent → List EndMove → List EndEvent
      → Passage S → List Move → Stages → Type 0
  GoesTo all base events =
      Goes all base (all_given rules acts start events) (all_taken rules acts start events)

  widens : (events : List EndEvent) (event : EndEvent) (leg : Leg) (cookie : Cookie)
      → CameUp events leg cookie → CameUp (events ++ event ∷ []) leg cookie
  widens events event leg cookie came =
      subst (λ x. CameUpWith x leg cookie) (sym (happened_append events (event ∷ [])))
      (came_more (happened events) (happened (event ∷ [])) leg cookie came)

  -- the moves so far are a front, and the event may be among others
  abbrev based : (events : List EndEvent) (event : EndEvent) (ran : Behind events)
      → RanFrom (events ++ event ∷ []) ran.at.leads.moves (after events) events
  based events event ran =
      let all = events ++ event ∷ [] in
      let at = ran.at in
      ran_with rules pipe Sound ⊥ (CameUp events) (CameUp all) (GoesTo events [] events)
      (GoesTo all at.leads.moves events) (after events)
      (λ leg. heard_on leg (happened events)) (λ leg. end_drawn_on rules acts start leg events)
      (λ leg. came_up leg (happened events)) ran (record {
        end = at.end;
        leads = at.leads;
        is = at.is;
        ups = at.ups;
        lifted = λ have.
            each_as (IsLifted (CameUp events)) (IsLifted (CameUp all)) at.leads.moves
            (lifted_as (CameUp events) (CameUp all) (widens events event)) (at.lifted ran.lifted);
        up_first = at.up_first;
        known = at.known;
        counted = at.counted;
        given_is = at.given_is;
        taken_is = at.taken_is;
        on = prefix_self at.leads.moves;
      })
      (each_as (Lifts (CameUp events)) (Lifts (CameUp all)) ran.moves
      (lifts_as (CameUp events) (CameUp all) (widens events event)) ran.lifted)

  abbrev loosed : (all : List EndEvent) (base : List EndMove) → RanFrom all base (after all) all
      → Behind all
  loosed all base ran =
      let at = ran.at in
      ran_with rules pipe Sound ⊥ (CameUp all) (CameUp all) (GoesTo all base all)
      (GoesTo all [] all) (after all) (λ leg. heard_on leg (happened all))
      (λ leg. end_drawn_on rules acts start leg all) (λ leg. came_up leg (happened all)) ran
      (record {
        end = at.end;
        leads = at.leads;
        is = at.is;
        ups = at.ups;
        lifted = at.lifted;
        up_first = at.up_first;
        known = at.known;
        counted = at.counted;
        given_is = at.given_is;
        taken_is = at.taken_is;
        on = (at.leads.moves, refl);
      }) ran.lifted

  raised : (events : List EndEvent) (ran : Behind events) (leg : Leg) (cookie : Cookie)
      → HasComeUp ran.at.leads.moves leg cookie → CameUp events leg cookie
  raised events ran leg cookie =
      lifted_with (CameUp events) ran.at.leads.moves leg cookie (ran.at.lifted ran.lifted)

  abbrev stream_of : (events : List EndEvent) → Behind events
      → EndStream rules acts first rooms pipe events
  stream_of events ran = record {
    passage = ran.at.end;
    leads = ran.at.leads;
    role = ap (λ (x : Passage S). x.role) ran.at.is ∙ ran.role;
    given = ran.at.given_is;
    taken = ran.at.taken_is;
    ups = λ leg. ran.at.ups leg ∙ ran.ups leg;
    cookies = λ have.
        has_cookies ran.at.leads.moves (λ leg cookie rose.
        came_of (happened events) leg cookie have (raised events ran leg cookie rose));
    raised = raised events ran;
    up_first = ran.at.up_first;
    counted = ran.at.counted;
    read = λ leg.
        subst (λ (x : Passage S). IsPrefix (of_leg leg x.came)
        (messages_read (pipe leg) (heard_on leg (happened events)))) (sym ran.at.is)
        (ran.kept leg).front;
    drawn = λ leg.
        subst (λ (x : Passage S). IsPrefix (end_drawn_on rules acts start leg events)
        (spelled (of_leg leg x.put))) (sym ran.at.is)
        (drawn_is rules acts first rooms pipe piped never unused once events leg ran.passage
        (heard_on leg (happened events)) (end_drawn_on rules acts start leg events)
        ((ran.kept leg).spells tt));
    seats = λ leg end going at.
        subst (λ (x : Passage S). Seated rules (after events).role
        (pipe leg) (of_leg leg x.came) (of_leg leg x.put) (heard_on leg (happened events))
        (end_drawn_on rules acts start leg events) end) (sym ran.at.is)
        (kept_seated rules (pipe leg) leg (Sound leg) ⊥ ran.passage ran.moves
        (after events) (heard_on leg (happened events))
        (end_drawn_on rules acts start leg events) (came_up leg (happened events)) ran.role
        (ran.kept leg) end going at);
    left = λ leg.
        spelled_at leg (after events) (of_leg leg ran.at.end.passage.put)
        (end_drawn_on rules acts start leg events)
        (subst (λ (x : Passage S). IsSpelledOut leg (after events) (of_leg leg x.put)
        (end_drawn_on rules acts start leg events)) (sym ran.at.is) (ran.left leg));
    unput = λ leg none.
        subst (λ (x : Passage S). of_leg leg x.put ≡ []) (sym ran.at.is)
        ((ran.kept leg).new none).put;
  }

  fits : (events : List EndEvent) (event : EndEvent) → AreAcceptedAtEnd rules acts start events
      → IsAcceptedAtEnd rules (after events) event
      → HearsInTurn (happened (events ++ event ∷ []))
      → FitsEnd (events ++ event ∷ []) (after events) events event
  fits events (Happens event) before accepted turn = record {
    accepted = accepted;
    once = λ leg rose. once.once events leg before rose;
    turn = λ leg piece e.
        turn (happened events) [] leg piece
        (happened_append events (Happens event ∷ []) ∙ ap (λ x. happened events ++ x ∷ []) e);
    raises = λ leg cookie e.
        subst (λ x. CameUpWith x leg cookie) (sym (happened_append events (Happens event ∷ [])))
        (comes_here (happened events) [] event leg cookie e);
  }
  fits events (IsGiven pdu) before accepted turn = tt
  fits events IsTaken before accepted turn = tt
  fits events IsClosed before accepted turn = tt
  fits events IsRecycled before accepted turn = tt

  grows : (events later : List EndEvent) (ran : Behind events)
      → AreAcceptedAtEnd rules acts start events → AreAcceptedAtEnd rules acts (after events) later
      → HearsInTurn (happened (events ++ later))
      → EndGrows rules acts first rooms pipe events later (stream_of events ran)
  grows events [] ran before accepted turn = tt
  grows events (event ∷ later) ran before accepted turn =
      let whole = events ++ event ∷ [] in
      let base = ran.at.leads.moves in
      let turns : HearsInTurn (happened (whole ++ later)) =
      subst (λ x. HearsInTurn (happened x)) (sym (append_assoc events (event ∷ []) later)) turn in
      let next = one_more whole base events event (based events event ran)
      (fits events event before accepted.0
      (turn_front (happened whole) (happened later)
      (subst HearsInTurn (happened_append whole later) turns))) in
      let more = loosed whole base next in (
        stream_of whole more,
        next.at.on,
        grows whole later more
            (end_accepted_append rules acts start events (event ∷ []) before (accepted.0, tt))
            (subst (λ (x : Shell S). AreAcceptedAtEnd rules acts x later)
            (sym (end_events_append rules acts start events (event ∷ []))) accepted.1) turns,
      )

  -- before any event there was no move
  abbrev Still : Passage S → List Move → Stages → Type 0
  Still p ms g = (goes : Goes [] [] [] [] p ms g) × (goes.leads.moves ≡ [])

  still : Ran rules pipe Sound ⊥ (CameUp []) Still start (λ leg. []) (λ leg. []) (λ leg. false)
  still =
      ran_none rules pipe Sound ⊥ (CameUp []) Still first rooms (
        record {
          end = end_started first;
          leads = record { moves = []; allowed = tt; reached = refl };
          is = refl;
          ups = λ leg. refl;
          lifted = λ have. tt;
          up_first = tt;
          known = λ leg stage is. absurd cc;
          counted = tt;
          given_is = refl;
          taken_is = refl;
          on = ([], refl);
        },
        refl,
      )

  abbrev behind_none : Behind []
  behind_none =
      ran_with rules pipe Sound ⊥ (CameUp []) (CameUp []) Still (Goes [] [] [] []) start
      (λ leg. []) (λ leg. []) (λ leg. false) still still.at.0 still.lifted

  pub end_grows : (events : List EndEvent) → AreAcceptedAtEnd rules acts start events
      → HearsInTurn (happened events) → EndGrowing rules acts first rooms pipe events
  end_grows events accepted turn = record {
    start = stream_of [] behind_none;
    none = still.at.1;
    grows = grows [] events behind_none tt accepted turn;
  }
