-- a node keeps each leg while its role has use for it, or it was told that it was lost
use Rattle.law_order.proofs.Vocabulary.{◌≡◌, ◌⊎◌, inl, inr, List, [], ◌∷◌, Bool, true, false, ◌||◌, refl, sym, ap, ◌∙◌, subst}
use Rattle.law_moves.proofs.Vocabulary.{neither, Leg, Rooms, Acts, Rules, Shell, begun, EndMove, EndPassage, Passage, AreAllowedAtEnd, all_end_moved, end_moved, end_started, started, EndEvent, EndFollows, EndLeads, Event, Happens, IsClosed, IsGiven, IsRecycled, IsTaken, Follows, Leads, after_end_event, after_end_events, after_event, after_events, of_leg}
use Rattle.law_moves.proofs.Lemmas.{leads_none, leads_then}
use Rattle.law_node_history.proofs.Vocabulary.{AreAccepted, AreAcceptedAtEnd, IsAccepted, IsAcceptedAtEnd, came_up, happened, is_up_of}
use Rattle.law_node_causes.proofs.OnceUp.{AllFollow, AllFollowAtEnd}
use Rattle.law_node_causes.specs.Once.{ComesUpOnce, KeepsUp}
use Rattle.law_node_streams.proofs.Streams.EndMoves.{leads_one as end_leads_one}
use Rattle.law_node_streams.proofs.Streams.Ends.{end_is}
use Rattle.law_node_streams.proofs.Streams.Ways.{or_false as or_none}
use Rattle.law_node_streams.specs.Streams.{StaysUnused, StaysUnusedAtEnd, is_refused_on}
use Rattle.law_world_ways.proofs.OnPaths.KeptEnds.{Stands, Unused}
use Rattle.law_world_ways.proofs.OnPaths.KeptLegs.{Known, comes_at, is_lost_at, known_after, known_at_end, known_first, left_stays, left_stays_at_end}
use Rattle.law_world_ways.proofs.ExactWays.CameUp.{or_more}
use Rattle.law_world_ways.specs.OnPaths.Lost.{is_loss_of, was_lost}
use Rattle.law_world_ways.specs.ExactWays.Keeping.{KeepsEnd, KeepsIfOfUse}

module _ {S : Type 0} (rules : Rules S) (Holds : S → Type 0) (once : ComesUpOnce rules Holds)
    (leg : Leg) where
  -- a leg that was left is of no use
  abbrev Knows : Shell S → Bool → Type 0
  Knows s up = Known rules Holds once leg (Unused rules leg s.role) s up

  known_keeps : (s : Shell S) → Knows s true → KeepsIfOfUse rules s leg
  known_keeps s known = λ going. by (known.kept (ap (is_refused_on leg) going) refl)
    where
      by : Stands rules leg s ⊎ Unused rules leg s.role
          → KeepsEnd s leg ⊎ Unused rules leg s.role
      by (inl h) = inl (record {
        end = h.end;
        at = end_is leg s.legs ∙ h.at;
        unmarked = h.unmarked;
      })
      by (inr none) = inr none

  -- ---- a node

  module _ (follow : AllFollow rules) (first : S) (unused : StaysUnused rules first) where
    -- the node's role was reached
    record At (s : Shell S) (up : Bool) : Type 0 where
      passage : Passage S
      leads : Leads rules (started first) passage
      role : passage.role ≡ s.role
      known : Knows s up

    at_after : (s : Shell S) (event : Event) (up : Bool) → At s up → IsAccepted rules s event
        → is_loss_of leg event ≡ false
        → At (after_event rules s event) (up || is_up_of leg event)
    at_after s event up at ok kept = record {
      passage = f.passage;
      leads = leads_then rules (started first) at.passage f.passage at.leads f.leads;
      role = f.role;
      known = known_after rules Holds once leg follow s up (Unused rules leg s.role)
          (Unused rules leg (after_event rules s event).role) at.known
          (λ free gone. gone.unused) event ok kept (λ free. stays);
    }
      where
        f : Follows rules at.passage (after_event rules s event)
        f = follow at.passage s event at.role at.known.held

        stays : up ≡ true → Unused rules leg s.role
            → Unused rules leg (after_event rules s event).role
        stays e none =
            subst (Unused rules leg) f.role
            (left_stays rules Holds once leg first unused (of_leg leg at.passage.put) at.passage
            f.passage f.leads (record {
              leads = at.leads;
              holds = subst Holds (sym at.role) at.known.are.holds;
              was = subst (λ (r : S). rules.was_up r leg ≡ true) (sym at.role) (at.known.was e);
              none = subst (Unused rules leg) (sym at.role) none;
              put_is = refl;
            })).none

    at_all : (s : Shell S) (events : List Event) (up : Bool) → At s up
        → AreAccepted rules s events → was_lost leg events ≡ false
        → At (after_events rules s events) (up || came_up leg events)
    at_all s [] up at ok kept = subst (At s) (sym (or_none up)) at
    at_all s (event ∷ events) up at ok kept =
        let two = neither (is_loss_of leg event) (was_lost leg events) kept in
        subst (At (after_events rules s (event ∷ events)))
        (or_more up (is_up_of leg event) (came_up leg events))
        (at_all (after_event rules s event) events (up || is_up_of leg event)
        (at_after s event up at ok.0 two.0) ok.1 two.1)

    pub node_keeps : (rooms : Rooms) → Holds first → (events : List Event)
        → AreAccepted rules (begun first rooms) events → came_up leg events ≡ true
        → was_lost leg events ≡ false
        → KeepsIfOfUse rules (after_events rules (begun first rooms) events) leg
    node_keeps rooms holds events ok came kept =
        let at = at_all (begun first rooms) events false (record {
          passage = started first;
          leads = leads_none rules (started first);
          role = refl;
          known = known_first rules Holds once leg (Unused rules leg first) first rooms holds;
        }) ok kept in
        known_keeps (after_events rules (begun first rooms) events)
        (subst (Knows (after_events rules (begun first rooms) events)) came at.known)

  -- ---- an end

  module _ (acts : Acts S) (follow : AllFollow rules) (follow_end : AllFollowAtEnd rules acts)
      (calls : KeepsUp rules acts Holds) (first : S)
      (unused : StaysUnusedAtEnd rules acts first) where
    -- moves behind moves
    end_leads_all : (p q : EndPassage S) (moves : List EndMove)
        → EndLeads rules acts p q → AreAllowedAtEnd rules acts q moves
        → EndLeads rules acts p (all_end_moved rules acts q moves)
    end_leads_all p q [] leads allowed = leads
    end_leads_all p q (move ∷ moves) leads allowed =
        end_leads_all p (end_moved rules acts q move) moves
        (end_leads_one rules acts p q move leads allowed.0) allowed.1

    record AtEnd (s : Shell S) (up : Bool) : Type 0 where
      passage : EndPassage S
      leads : EndLeads rules acts (end_started first) passage
      role : passage.passage.role ≡ s.role
      known : Knows s up

    at_end_after : (s : Shell S) (event : EndEvent) (up : Bool) → AtEnd s up
        → IsAcceptedAtEnd rules s event → is_lost_at leg event ≡ false
        → AtEnd (after_end_event rules acts s event) (up || comes_at leg event)
    at_end_after s event up at ok kept = record {
      passage = f.passage;
      leads =
          subst (EndLeads rules acts (end_started first)) f.leads.reached
          (end_leads_all (end_started first) at.passage f.leads.moves at.leads f.leads.allowed);
      role = f.role;
      known = known_at_end rules Holds once leg acts follow follow_end calls s up
          (Unused rules leg s.role) (Unused rules leg (after_end_event rules acts s event).role)
          at.known (λ free gone. gone.unused) event ok kept (λ free. stays);
    }
      where
        f : EndFollows rules acts at.passage (after_end_event rules acts s event)
        f = follow_end at.passage s event at.role at.known.held

        stays : up ≡ true → Unused rules leg s.role
            → Unused rules leg (after_end_event rules acts s event).role
        stays e none =
            subst (Unused rules leg) f.role
            (left_stays_at_end rules Holds once leg acts follow follow_end calls first unused
            (of_leg leg at.passage.passage.put) at.passage f.passage f.leads (record {
              leads = at.leads;
              holds = subst Holds (sym at.role) at.known.are.holds;
              was = subst (λ (r : S). rules.was_up r leg ≡ true) (sym at.role) (at.known.was e);
              none = subst (Unused rules leg) (sym at.role) none;
              put_is = refl;
            })).none

    came_first : (event : EndEvent) (events : List EndEvent)
        → came_up leg (happened (event ∷ events))
        ≡ (comes_at leg event || came_up leg (happened events))
    came_first (Happens event) events =
        ap (λ b. b || came_up leg (happened events)) (sym (or_none (is_up_of leg event)))
    came_first (IsGiven pdu) events = refl
    came_first IsTaken events = refl
    came_first IsClosed events = refl
    came_first IsRecycled events = refl

    lost_first : (event : EndEvent) (events : List EndEvent)
        → was_lost leg (happened (event ∷ events)) ≡ false
        → (is_lost_at leg event ≡ false) × (was_lost leg (happened events) ≡ false)
    lost_first (Happens event) events e =
        let two = neither (is_loss_of leg event) (was_lost leg (happened events)) e in
        (or_none (is_loss_of leg event) ∙ two.0, two.1)
    lost_first (IsGiven pdu) events e = (refl, e)
    lost_first IsTaken events e = (refl, e)
    lost_first IsClosed events e = (refl, e)
    lost_first IsRecycled events e = (refl, e)

    at_end_all : (s : Shell S) (events : List EndEvent) (up : Bool) → AtEnd s up
        → AreAcceptedAtEnd rules acts s events → was_lost leg (happened events) ≡ false
        → AtEnd (after_end_events rules acts s events) (up || came_up leg (happened events))
    at_end_all s [] up at ok kept = subst (AtEnd s) (sym (or_none up)) at
    at_end_all s (event ∷ events) up at ok kept =
        let two = lost_first event events kept in
        subst (AtEnd (after_end_events rules acts s (event ∷ events)))
        (or_more up (comes_at leg event) (came_up leg (happened events))
        ∙ ap (λ b. up || b) (sym (came_first event events)))
        (at_end_all (after_end_event rules acts s event) events (up || comes_at leg event)
        (at_end_after s event up at ok.0 two.0) ok.1 two.1)

    pub end_keeps : (rooms : Rooms) → Holds first → (events : List EndEvent)
        → AreAcceptedAtEnd rules acts (begun first rooms) events
        → came_up leg (happened events) ≡ true → was_lost leg (happened events) ≡ false
        → KeepsIfOfUse rules (after_end_events rules acts (begun first rooms) events) leg
    end_keeps rooms holds events ok came kept =
        let at = at_end_all (begun first rooms) events false (record {
          passage = end_started first;
          leads = record { moves = []; allowed = tt; reached = refl };
          role = refl;
          known = known_first rules Holds once leg (Unused rules leg first) first rooms holds;
        }) ok kept in
        known_keeps (after_end_events rules acts (begun first rooms) events)
        (subst (Knows (after_end_events rules acts (begun first rooms) events)) came at.known)
