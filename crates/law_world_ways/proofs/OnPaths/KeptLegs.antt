-- what is known of a leg at a node, event by event: it stands, or it was left by its role
use Rattle.law_order.proofs.Vocabulary.{◌≡◌, ◌⊎◌, inl, inr, ℕ, zero, suc, ◌<◌, List, [], ◌∷◌, ◌++◌, length, cond, Bool, true, false, ◌||◌, nat_lt, Some, None, Ok, Err, arith, refl, sym, ap, ◌∙◌, subst, ◌&&◌, slice_set, Option, and_parts, true≢false, nat_tests}
use Rattle.rh_line.specs.declared.state.State.TheVariants as state
use Rattle.law_moves.proofs.Vocabulary.{neither, Cookie, Cause, Leg, State, Rooms, cause_of, close_where, give_where, recycle_where, take_where, NearEnd, new_end, Acts, Message, Packet, Pdu, Row, Rules, Shell, begun, free_place, has_room, is_working, may_up, place, same_leg, seated_at, state_of, with_leg, Move, Up, HeadCame, PduCame, PacketCame, Puts, IsDrawn, Marks, Pings, Passage, EndMove, EndPassage, Moves, Gives, Takes, Closes, Recycles, AreAllowedAtEnd, MayEndMove}
use Rattle.law_moves.proofs.Vocabulary.{MayMove, all_end_moved, end_moved, end_started, is_in_use, moved, put_by, started, taken_by, AreHeld, EndEvent, EndLeads, Event, ComesUp, Hears, Ends, Breaks, Draws, Ticks, Happens, IsClosed, IsGiven, IsRecycled, IsTaken, Leads, after_end_event, after_event, of_leg}
use Rattle.law_moves.proofs.Lemmas.{leads_keep, leads_one, leads_then, leg_is}
use Rattle.law_node_history.proofs.Lemmas.{same_itself}
use Rattle.law_node_history.proofs.Vocabulary.{IsAccepted, IsAcceptedAtEnd, came_up, happened, is_up_of}
use Rattle.law_node_causes.proofs.LegChanges.{closed_legs, given_legs, recycled_legs, taken_legs}
use Rattle.law_node_causes.proofs.OnceUp.{AllFollow, AllFollowAtEnd, Goes, comes_up, first_held, first_once, run_once, run_once_at_end}
use Rattle.law_node_causes.specs.Once.{AreUpOnce, ComesUpOnce, KeepsUp}
use Rattle.law_node_streams.proofs.Streams.EndMoves.{did_close, did_give, did_recycle, did_take, leads_one as end_leads_one}
use Rattle.law_node_streams.proofs.Streams.Going.{free_before}
use Rattle.law_node_streams.proofs.Streams.Ends.{end_is, end_leg, end_of, none_in}
use Rattle.law_node_streams.proofs.Streams.Turns.{more_there}
use Rattle.law_node_streams.proofs.Streams.Ways.{or_false as or_none}
use Rattle.law_node_streams.specs.Streams.{StaysUnused, StaysUnusedAtEnd, is_end_up_on, is_up_on}
use Rattle.law_world_ways.proofs.OnPaths.KeptEnds.{IsAnother, IsFree, IsLeft, Stands, Unused, behind}
use Rattle.law_world_ways.proofs.ExactWays.CameUp.{or_left}
use Rattle.law_world_ways.specs.OnPaths.Lost.{is_loss_of, was_lost}

-- ---- an end is put for a leg that has none

set_new : (ends : List NearEnd) (i : ℕ) (new : NearEnd) → end_of new.leg ends ≡ None
    → i < length ends → end_of new.leg (slice_set ends i new) ≡ Some new
set_new [] i new none below = absurd (omega (arith, below))
set_new (x ∷ xs) zero new none below =
    ap (λ t. cond t (Some new) (end_of new.leg xs)) (same_itself new.leg)
set_new (x ∷ xs) (suc i) new none below =
    let two = none_in new.leg x xs none in
    ap (λ t. cond t (Some x) (end_of new.leg (slice_set xs i new))) two.0
    ∙ set_new xs i new two.1 (omega (arith, below))

push_new : (ends : List NearEnd) (new : NearEnd) → end_of new.leg ends ≡ None
    → end_of new.leg (ends ++ new ∷ []) ≡ Some new
push_new [] new none = ap (λ t. cond t (Some new) None) (same_itself new.leg)
push_new (x ∷ xs) new none =
    let two = none_in new.leg x xs none in
    ap (λ t. cond t (Some x) (end_of new.leg (xs ++ new ∷ []))) two.0 ∙ push_new xs new two.1

seat_new : (ends : List NearEnd) (i : ℕ) (new : NearEnd) → end_of new.leg ends ≡ None
    → end_of new.leg (seated_at ends i new) ≡ Some new
seat_new ends i new none = by (nat_lt i (length ends)) refl
  where
    by : (t : Bool) → nat_lt i (length ends) ≡ t
        → end_of new.leg (cond t (slice_set ends i new) (ends ++ new ∷ [])) ≡ Some new
    by true e = set_new ends i new none (grind (arith, nat_tests))
    by false e = push_new ends new none

-- the leg comes up by an event of an end, or is lost by it
abbrev pub comes_at : Leg → EndEvent → Bool
comes_at leg event = came_up leg (happened (event ∷ []))

abbrev pub is_lost_at : Leg → EndEvent → Bool
is_lost_at leg event = was_lost leg (happened (event ∷ []))

module _ {S : Type 0} (rules : Rules S) (Holds : S → Type 0) (once : ComesUpOnce rules Holds)
    (leg : Leg) where
  -- ---- the leg comes up

  role_may : (s : Shell S) (k : Leg) → may_up rules s k ≡ true → rules.may_up s.role k ≡ true
  role_may s k may =
      (and_parts (has_room rules s k.kind) (rules.may_up s.role k)
      (and_parts (is_working rules s) (has_room rules s k.kind && rules.may_up s.role k)
      may).1).1

  absent : (s : Shell S) (k : Leg) → AreUpOnce rules Holds s → may_up rules s k ≡ true
      → end_of k s.legs ≡ None
  absent s k are may = by (end_of k s.legs) refl
    where
      by : (o : Option NearEnd) → end_of k s.legs ≡ o → o ≡ None
      by None e = refl
      by (Some end) e =
          let was = are.kept end (record {
            place = place k s.legs;
            at = end_is k s.legs ∙ e;
          }) in
          let was_k : rules.was_up s.role k ≡ true =
          subst (λ (l : Leg). rules.was_up s.role l ≡ true)
          (leg_is end.leg k (end_leg k s.legs end e)) was in
          absurd (true≢false (sym (role_may s k may) ∙ once.once s.role k are.holds was_k))

  stands_new : (s : Shell S) (k : Leg) (cookie : Cookie) → AreUpOnce rules Holds s
      → may_up rules s k ≡ true → same_leg k leg ≡ true
      → Stands rules leg (after_event rules s (ComesUp k cookie))
  stands_new s k cookie are may this =
      subst (λ (l : Leg). Stands rules l (after_event rules s (ComesUp k cookie)))
      (leg_is k leg this)
      (subst (λ (t : Bool). Stands rules k (cond t (with_leg rules s k cookie) s)) (sym may)
      (record {
        end = new;
        at = seat_new s.legs (free_place rules s.role k.kind s.legs) new (absent s k are may);
        unmarked = refl;
      }))
    where
      new : NearEnd
      new = new_end k (rules.pipe s.role k) s.now

  -- ---- no move has the leg up that was up before

  not_up : (s : S) (move : Move) → Holds s → rules.was_up s leg ≡ true → MayMove rules s move
      → is_up_on leg move ≡ false
  not_up s (Up k cookie) holds was may = by (same_leg k leg) refl
    where
      by : (t : Bool) → same_leg k leg ≡ t → t ≡ false
      by false e = refl
      by true e =
          absurd (true≢false (sym may.1
          ∙ once.once s k holds (subst (λ (l : Leg). rules.was_up s l ≡ true)
          (sym (leg_is k leg e)) was)))
  not_up s (HeadCame k text) holds was may = refl
  not_up s (PduCame k count pdu) holds was may = refl
  not_up s (PacketCame k count named) holds was may = refl
  not_up s (Puts k) holds was may = refl
  not_up s (IsDrawn k) holds was may = refl
  not_up s (Marks k) holds was may = refl
  not_up s (Pings k) holds was may = refl

  -- ---- events

  -- what is known of the leg at a node: it came up, and stands or was left, as it is said then
  pub record Known (Gone : Type 0) (s : Shell S) (up : Bool) : Type 0 where
    pub held : AreHeld s
    pub are : AreUpOnce rules Holds s
    pub was : up ≡ true → rules.was_up s.role leg ≡ true
    pub kept : IsFree leg s → up ≡ true → Stands rules leg s ⊎ Gone

  pub known_first : (Gone : Type 0) (first : S) (rooms : Rooms) → Holds first
      → Known Gone (begun first rooms) false
  known_first Gone first rooms holds = record {
    held = first_held rules Holds once first rooms;
    are = first_once rules Holds once first rooms holds;
    was = λ e. absurd cc;
    kept = λ free e. absurd cc;
  }

  module _ (follow : AllFollow rules) (s : Shell S) (up : Bool) (Gone Then : Type 0)
      (known : Known Gone s up) (leaves : IsFree leg s → IsLeft rules leg s → Gone) where
    was_new : (event : Event) → IsAccepted rules s event → is_up_of leg event ≡ true
        → rules.was_up (after_event rules s event).role leg ≡ true
    was_new (ComesUp k cookie) ok this =
        subst (λ (l : Leg). rules.was_up (after_event rules s (ComesUp k cookie)).role l
        ≡ true) (leg_is k leg this)
        (comes_up rules Holds once s k cookie known.are.holds ok)
    was_new (Hears k piece) ok this = absurd cc
    was_new (Ends k) ok this = absurd cc
    was_new (Breaks k) ok this = absurd cc
    was_new (Draws k room) ok this = absurd cc
    was_new (Ticks now) ok this = absurd cc

    was_then : (event : Event) → IsAccepted rules s event → (up || is_up_of leg event) ≡ true
        → rules.was_up (after_event rules s event).role leg ≡ true
    was_then event ok e = by (is_up_of leg event) refl
      where
        by : (b : Bool) → is_up_of leg event ≡ b
            → rules.was_up (after_event rules s event).role leg ≡ true
        by true this = was_new event ok this
        by false this =
            (run_once rules Holds once follow s (event ∷ []) known.held known.are).up leg
            (known.was (or_left up (is_up_of leg event) this e))

    -- a leg that was left stays so
    abbrev Stays : Event → Type 0
    Stays event = IsFree leg (after_event rules s event) → up ≡ true → Gone → Then

    -- where it does not come up by the event
    stays_kept : (event : Event) → IsAnother rules leg s known.held event
        → is_loss_of leg event ≡ false → Stays event
        → IsFree leg (after_event rules s event) → up ≡ true
        → Stands rules leg (after_event rules s event) ⊎ Then
    stays_kept event other kept stays free e = by (known.kept before e)
      where
        before : IsFree leg s
        before = free_before rules leg s event free

        on : Stands rules leg (after_event rules s event) ⊎ IsLeft rules leg s
            → Stands rules leg (after_event rules s event) ⊎ Then
        on (inl h) = inl h
        on (inr gone) = inr (stays free e (leaves before gone))

        by : Stands rules leg s ⊎ Gone → Stands rules leg (after_event rules s event) ⊎ Then
        by (inl stands) = on (behind rules leg s known.held event other kept stands)
        by (inr gone) = inr (stays free e gone)

    kept_then : (event : Event) → IsAccepted rules s event → is_loss_of leg event ≡ false
        → Stays event → IsFree leg (after_event rules s event)
        → (up || is_up_of leg event) ≡ true
        → Stands rules leg (after_event rules s event) ⊎ Then
    kept_then (ComesUp k cookie) ok kept stays free e = by (same_leg k leg) refl
      where
        by : (b : Bool) → same_leg k leg ≡ b
            → Stands rules leg (after_event rules s (ComesUp k cookie)) ⊎ Then
        by true this = inl (stands_new s k cookie known.are ok this)
        by false other =
            stays_kept (ComesUp k cookie) other kept stays free
            (or_left up (same_leg k leg) other e)
    kept_then (Hears k piece) ok kept stays free e =
        stays_kept (Hears k piece) tt kept stays free (or_left up false refl e)
    kept_then (Ends k) ok kept stays free e =
        stays_kept (Ends k) tt kept stays free (or_left up false refl e)
    kept_then (Breaks k) ok kept stays free e =
        stays_kept (Breaks k) tt kept stays free (or_left up false refl e)
    kept_then (Draws k room) ok kept stays free e =
        stays_kept (Draws k room) tt kept stays free (or_left up false refl e)
    kept_then (Ticks now) ok kept stays free e =
        stays_kept (Ticks now) tt kept stays free (or_left up false refl e)

    pub known_after : (event : Event) → IsAccepted rules s event
        → is_loss_of leg event ≡ false → Stays event
        → Known Then (after_event rules s event) (up || is_up_of leg event)
    known_after event ok kept stays =
        let g = run_once rules Holds once follow s (event ∷ []) known.held known.are in
        record {
          held = g.held;
          are = g.are;
          was = was_then event ok;
          kept = kept_then event ok kept stays;
        }

  -- ---- moves

  taken_put : (p : Passage S) (k : Leg) (message : Message) (x : S × Row)
      → (taken_by p k message x).put ≡ p.put
  taken_put p k message (role, Ok taken) = refl
  taken_put p k message (role, Err refused) = refl

  put_beside : (p : Passage S) (k : Leg) (o : Option (S × Message)) → same_leg k leg ≡ false
      → of_leg leg (put_by p k o).put ≡ of_leg leg p.put
  put_beside p k None other = refl
  put_beside p k (Some put) other =
      more_there leg (p.put ++ (k, put.1) ∷ []) p.put (put.1 ∷ []) k refl other

  -- nothing is put on a leg that is of no use
  unput : (q : Passage S) (move : Move) → Unused rules leg q.role → MayMove rules q.role move
      → of_leg leg (moved rules q move).put ≡ of_leg leg q.put
  unput q (Up k cookie) none may = refl
  unput q (HeadCame k text) none may = refl
  unput q (PduCame k count pdu) none may =
      ap (of_leg leg) (taken_put q k (Pdu pdu) (rules.pdu q.role k count pdu))
  unput q (PacketCame k count named) none may =
      ap (of_leg leg) (taken_put q k (Packet named) (rules.packet q.role k count named))
  unput q (Puts k) none may = by (same_leg k leg) refl
    where
      by : (t : Bool) → same_leg k leg ≡ t
          → of_leg leg (put_by q k (rules.put q.role k)).put ≡ of_leg leg q.put
      by false other = put_beside q k (rules.put q.role k) other
      by true this =
          absurd (true≢false
          (sym (subst (λ (l : Leg). is_in_use rules q.role l ≡ true) (leg_is k leg this) may)
          ∙ none))
  unput q (IsDrawn k) none may = refl
  unput q (Marks k) none may = refl
  unput q (Pings k) none may = refl

  module _ (first : S) (unused : StaysUnused rules first) where
    -- a passage by moves from the first one, at which the leg is of no use, and these were put
    pub record Left (put : List Message) (q : Passage S) : Type 0 where
      pub leads : Leads rules (started first) q
      pub holds : Holds q.role
      pub was : rules.was_up q.role leg ≡ true
      pub none : Unused rules leg q.role
      pub put_is : of_leg leg q.put ≡ put

    left_more : (put : List Message) (q : Passage S) (move : Move) → Left put q
        → MayMove rules q.role move → Left put (moved rules q move)
    left_more put q move l may = record {
      leads = leads_then rules (started first) q (moved rules q move) l.leads
          (leads_one rules q move may);
      holds = once.kept q move l.holds may;
      was = once.stays q move leg l.holds may l.was;
      none =
          subst (λ (p : Passage S). Unused rules leg (moved rules p move).role) l.leads.reached
          (unused l.leads.moves move leg l.leads.allowed
          (subst (λ (p : Passage S). MayMove rules p.role move) (sym l.leads.reached) may)
          (not_up q.role move l.holds l.was may)
          (subst (λ (p : Passage S). Unused rules leg p.role) (sym l.leads.reached) l.none));
      put_is = unput q move l.none may ∙ l.put_is;
    }

    pub left_stays : (put : List Message) (q r : Passage S) → Leads rules q r → Left put q
        → Left put r
    left_stays put = leads_keep rules (Left put) (left_more put)

  -- ---- at an end

  module _ (acts : Acts S) (follow : AllFollow rules) (follow_end : AllFollowAtEnd rules acts)
      (calls : KeepsUp rules acts Holds) where
    not_up_at_end : (s : S) (move : EndMove) → Holds s → rules.was_up s leg ≡ true
        → MayEndMove rules s move → is_end_up_on leg move ≡ false
    not_up_at_end s (Moves move) holds was may = not_up s move holds was may
    not_up_at_end s (Gives pdu) holds was may = refl
    not_up_at_end s Takes holds was may = refl
    not_up_at_end s Closes holds was may = refl
    not_up_at_end s Recycles holds was may = refl

    unput_at_end : (q : EndPassage S) (move : EndMove) → Unused rules leg q.passage.role
        → MayEndMove rules q.passage.role move
        → of_leg leg (end_moved rules acts q move).passage.put ≡ of_leg leg q.passage.put
    unput_at_end q (Moves move) none may = unput q.passage move none may
    unput_at_end q (Gives pdu) none may =
        ap (of_leg leg) (did_give rules acts q pdu (acts.give q.passage.role pdu) refl).put
    unput_at_end q Takes none may =
        ap (of_leg leg) (did_take rules acts q q.passage.role refl).put
    unput_at_end q Closes none may =
        ap (of_leg leg) (did_close rules acts q q.passage.role refl).put
    unput_at_end q Recycles none may =
        ap (of_leg leg) (did_recycle rules acts q q.passage.role refl).put

    module _ (first : S) (unused : StaysUnusedAtEnd rules acts first) where
      pub record LeftAtEnd (put : List Message) (q : EndPassage S) : Type 0 where
        pub leads : EndLeads rules acts (end_started first) q
        pub holds : Holds q.passage.role
        pub was : rules.was_up q.passage.role leg ≡ true
        pub none : Unused rules leg q.passage.role
        pub put_is : of_leg leg q.passage.put ≡ put

      left_more_at_end : (put : List Message) (q : EndPassage S) (move : EndMove)
          → LeftAtEnd put q → MayEndMove rules q.passage.role move
          → LeftAtEnd put (end_moved rules acts q move)
      left_more_at_end put q move l may = record {
        leads = end_leads_one rules acts (end_started first) q move l.leads may;
        holds = calls.kept q move l.holds may;
        was = calls.stays q move leg l.holds may l.was;
        none =
            subst (λ (p : EndPassage S).
            Unused rules leg (end_moved rules acts p move).passage.role) l.leads.reached
            (unused l.leads.moves move leg l.leads.allowed
            (subst (λ (p : EndPassage S). MayEndMove rules p.passage.role move)
            (sym l.leads.reached) may)
            (not_up_at_end q.passage.role move l.holds l.was may)
            (subst (λ (p : EndPassage S). Unused rules leg p.passage.role) (sym l.leads.reached)
            l.none));
        put_is = unput_at_end q move l.none may ∙ l.put_is;
      }

      left_all : (put : List Message) (q : EndPassage S) (moves : List EndMove)
          → AreAllowedAtEnd rules acts q moves → LeftAtEnd put q
          → LeftAtEnd put (all_end_moved rules acts q moves)
      left_all put q [] allowed l = l
      left_all put q (move ∷ moves) allowed l =
          left_all put (end_moved rules acts q move) moves allowed.1
          (left_more_at_end put q move l allowed.0)

      pub left_stays_at_end : (put : List Message) (q r : EndPassage S)
          → EndLeads rules acts q r → LeftAtEnd put q → LeftAtEnd put r
      left_stays_at_end put q r leads l =
          subst (LeftAtEnd put) leads.reached (left_all put q leads.moves leads.allowed l)

    given_free : (s : Shell S) (pdu : List ℕ) (o : Option Cause)
        → IsFree leg (give_where acts s pdu o).0 → IsFree leg s
    given_free s pdu None e = e
    given_free s pdu (Some why) e = e

    taken_free : (s : Shell S) (o : Option Cause) → IsFree leg (take_where acts s o)
        → IsFree leg s
    taken_free s None e = e
    taken_free s (Some why) e = e

    closed_free : (s : Shell S) (o : Option Cause) → IsFree leg (close_where acts s o)
        → IsFree leg s
    closed_free s None e = e
    closed_free s (Some why) e = e

    recycled_free : (s : Shell S) (x : State) → IsFree leg (recycle_where acts s x).0
        → IsFree leg s
    recycled_free s state.Open e = e
    recycled_free s state.Opening e = e
    recycled_free s state.Ended e = e
    recycled_free s (state.Closed why) e = e

    module _ (s : Shell S) (up : Bool) (Gone Then : Type 0) (known : Known Gone s up)
        (leaves : IsFree leg s → IsLeft rules leg s → Gone) where
      -- an act leaves legs and course
      acted : (event : EndEvent)
          → (let t = after_end_event rules acts s event in
          t.legs ≡ s.legs → (IsFree leg t → IsFree leg s)
          → (IsFree leg t → up ≡ true → Gone → Then) → Known Then t (up || false))
      acted event legs before stays = subst (Known Then t) (sym (or_none up)) (record {
        held = g.held;
        are = g.are;
        was = λ e. g.up leg (known.was e);
        kept = λ free e. by free e (known.kept (before free) e);
      })
        where
          t : Shell S
          t = after_end_event rules acts s event

          g : Goes rules Holds once follow s t
          g = run_once_at_end rules Holds once follow acts calls follow_end s (event ∷ [])
              known.held known.are

          by : IsFree leg t → up ≡ true → Stands rules leg s ⊎ Gone
              → Stands rules leg t ⊎ Then
          by free e (inl h) = inl (record {
            end = h.end;
            at = ap (end_of leg) legs ∙ h.at;
            unmarked = h.unmarked;
          })
          by free e (inr gone) = inr (stays free e gone)

      pub known_at_end : (event : EndEvent) → IsAcceptedAtEnd rules s event
          → is_lost_at leg event ≡ false
          → (IsFree leg (after_end_event rules acts s event) → up ≡ true → Gone → Then)
          → Known Then (after_end_event rules acts s event) (up || comes_at leg event)
      known_at_end (Happens event) ok kept stays =
          subst (λ b. Known Then (after_event rules s event) (up || b))
          (sym (or_none (is_up_of leg event)))
          (known_after follow s up Gone Then known leaves event ok
          (neither (is_loss_of leg event) false kept).0 stays)
      known_at_end (IsGiven pdu) ok kept stays =
          acted (IsGiven pdu) (given_legs rules s acts pdu (cause_of s.course))
          (given_free s pdu (cause_of s.course)) stays
      known_at_end IsTaken ok kept stays =
          acted IsTaken (taken_legs rules s acts (cause_of s.course))
          (taken_free s (cause_of s.course)) stays
      known_at_end IsClosed ok kept stays =
          acted IsClosed (closed_legs rules s acts (cause_of s.course))
          (closed_free s (cause_of s.course)) stays
      known_at_end IsRecycled ok kept stays =
          acted IsRecycled (recycled_legs rules s acts (state_of rules s))
          (recycled_free s (state_of rules s)) stays
