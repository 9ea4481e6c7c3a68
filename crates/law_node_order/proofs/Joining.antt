-- the stream of a node over the events that reach it, and the law of order of its role's moves, are
-- its law of streams over all events
use Rattle.law_order.proofs.Vocabulary.{◌≡◌, ℕ, ◌<◌, Bool, true, false, List, [], ◌∷◌, ◌++◌, ◌⊎◌, inl, inr, if◌then◌else◌, true≢false, nat_le, arith, nat_tests, refl, sym, ap, ◌∙◌, subst, append_assoc, append-nil, list_any, Option, IsPrefix, Item, pdus, Log, seen, Passer, PasserLaw, Shelves, Shelved}
use Rattle.law_order.proofs.ByNumber.{seen-append}
use Rattle.law_order.proofs.ItemLists.{neither, nil_front}
use Rattle.law_moves.proofs.Vocabulary.{Leg, Message, Pipe, Rooms, Rules, Acts, Shell, begun, spelled, same_leg, Move, EndMove, Passage, EndPassage, OnLeg, AreAllowed, AreAllowedAtEnd, all_moved, all_end_moved, started, end_started, of_leg, Event, Hears, EndEvent, after_end_events, messages_read, RefusesInTurn}
use Rattle.law_node_history.proofs.Lemmas.{cases_leg, came_append}
use Rattle.law_node_history.proofs.Vocabulary.{AreAccepted, AreAcceptedAtEnd, came_up, happened, heard_in, heard_on}
use Rattle.law_node_streams.specs.Streams.{EndStream, HearsInTurn, IsDrawn, Stream, all_given}
use Rattle.law_node_order.proofs.Feeding.{is_of_fed, passes_on}
use Rattle.law_node_order.proofs.Reaching.{IsSame, IsSameAtEnd, Turns, same, same_at_end, in_turn, in_turn_at_end}
use Rattle.law_node_order.specs.Feeds.{GivesOut, IsOfFed}
use Rattle.law_node_order.specs.Reaching.{reaching, reaching_end}
use Rattle.law_node_order.specs.Streams.{Feed, StreamsAtEnd, StreamsThrough, fed_by, is_close}

-- ---- bytes on a leg that did not come up

unheard : (leg : Leg) (past : List Event) (event : Event)
    → ((other : Leg) (piece : List ℕ) → event ≡ Hears other piece → came_up other past ≡ true)
    → came_up leg past ≡ false → heard_in leg event ≡ []
unheard leg past (Hears other piece) turn down = by (cases_leg other leg)
  where
    by : (other ≡ leg) ⊎ (same_leg other leg ≡ false)
        → (if same_leg other leg then piece else []) ≡ []
    by (inl is) =
        absurd (true≢false (sym (turn other piece refl) ∙ ap (λ (l : Leg). came_up l past) is
        ∙ down))
    by (inr e) = ap (λ b. if b then piece else []) e
unheard leg past event turn down = refl

silent : {S : Type 0} (rules : Rules S) (leg : Leg) (past events : List Event)
    → Turns rules past events → came_up leg (past ++ events) ≡ false → heard_on leg events ≡ []
silent rules leg past [] turn down = refl
silent rules leg past (event ∷ events) turn down =
    ap (λ x. x ++ heard_on leg events)
    (unheard leg past event
    (λ other piece is.
    ap (came_up other) (sym (append-nil past))
    ∙ turn [] events other piece (ap (λ (x : Event). x ∷ events) is))
    (neither (came_up leg past) (came_up leg (event ∷ events))
    (sym (came_append leg past (event ∷ events)) ∙ down)).0)
    ∙ silent rules leg (past ++ event ∷ []) events
    (λ before behind other piece is.
    ap (came_up other) (append_assoc past (event ∷ []) before)
    ∙ turn (event ∷ before) behind other piece (ap (λ x. event ∷ x) is))
    (ap (came_up leg) (append_assoc past (event ∷ []) events) ∙ down)

-- ---- what came is of what was fed

seen_front : (view : Message → List Item) (a b : List Message) → IsPrefix a b
    → IsPrefix (seen view a) (seen view b)
seen_front view a b p = (seen view p.0, sym (seen-append view a p.0) ∙ ap (seen view) p.1)

module _ (near : Feed) (pipe : Leg → Option Pipe) (events : List Event) (came : List OnLeg)
    (log : Log) (sees : (n : ℕ) → log n ≡ seen near.view (of_leg (near.leg n) came))
    (read : (leg : Leg)
    → IsPrefix (of_leg leg came) (messages_read (pipe leg) (heard_on leg events))) where
  front : (n : ℕ) → IsPrefix (log n) (fed_by near pipe events n)
  front n =
      let leg = near.leg n in
      subst (λ x. IsPrefix x (fed_by near pipe events n)) (sym (sees n))
      (seen_front near.view (of_leg leg came) (messages_read (pipe leg) (heard_on leg events))
      (read leg))

  nothing : (n : ℕ) → heard_on (near.leg n) events ≡ [] → log n ≡ []
  nothing n none =
      let leg = near.leg n in
      let p = subst (λ x. IsPrefix (of_leg leg came) (messages_read (pipe leg) x)) none (read leg)
      in
      sees n ∙ ap (seen near.view) (nil_front (of_leg leg came) p.0 p.1)

-- ---- a proxy

not_from : (a b : ℕ) → nat_le a b ≡ false → b < a
not_from a b e = grind (arith, nat_tests)

module _ {S : Type 0} (rules : Rules S) (role : S) (rooms : Rooms) (pipe : Leg → Option Pipe)
    (near : Feed) (first : ℕ) (far : List OnLeg → List Item) (log : List OnLeg → Log)
    (sees : (came : List OnLeg) (n : ℕ)
    → log came n ≡ seen near.view (of_leg (near.leg n) came))
    (passer : S → Passer)
    (law : (moves : List Move) → AreAllowed rules (started role) moves
    → (let p = all_moved rules (started role) moves in
    PasserLaw (passer p.role) first (log p.came) (far p.put)))
    (returns_none : (moves : List Move) (n : ℕ) → pdus (seen near.view
    (of_leg (near.leg n) (all_moved rules (started role) moves).put)) ≡ [])
    (refuses : (leg : Leg) → RefusesInTurn rules role pipe leg)
    (stream : (events : List Event) → AreAccepted rules (begun role rooms) events
    → HearsInTurn events → Stream rules role rooms pipe events) where
  pub through : (events : List Event)
      → StreamsThrough rules role rooms pipe near first far events
  through events = record {
    put = st.passage.put;
    drawn = λ leg.
        subst (IsDrawn (of_leg leg st.passage.put)) (all.drawn leg) (st.drawn leg (refuses leg));
    passes = passes_on (passer st.passage.role) first (fed_by near pipe some)
        (log st.passage.came) (far st.passage.put) kept (record {
          front = front near pipe some st.passage.came (log st.passage.came)
              (sees st.passage.came) st.read;
          none = λ n e. kept.unused n (not_from first n e);
        });
    back = λ n.
        subst (λ (p : Passage S). pdus (seen near.view (of_leg (near.leg n) p.put)) ≡ [])
        st.leads.reached (returns_none st.leads.moves n);
  }
    where
      some : List Event
      some = reaching rules (begun role rooms) events

      all : IsSame rules (begun role rooms) events some
      all = same rules (begun role rooms) events

      st : Stream rules role rooms pipe some
      st = stream some all.accepted (in_turn rules role rooms events)

      kept : PasserLaw (passer st.passage.role) first (log st.passage.came) (far st.passage.put)
      kept =
          subst (λ (p : Passage S). PasserLaw (passer p.role) first (log p.came) (far p.put))
          st.leads.reached (law st.leads.moves st.leads.allowed)

-- ---- an end

-- as the law of its moves says
pub record IsInOrder {S : Type 0} (is_closing : S → Bool) (far log : List OnLeg → Log)
    (known : List EndMove → S → ℕ → Bool) (moves : List EndMove) (p : EndPassage S) : Type 0 where
  pub gives : GivesOut p.given (is_closing p.passage.role) (far p.passage.put)
  pub shelves : Shelves
  pub takes : Shelved shelves (known moves p.passage.role) p.taken (log p.passage.came)

told : (given all : List (List ℕ)) (closing closed : Bool) (put : Log) → given ≡ all
    → (closing ≡ true → closed ≡ true) → GivesOut given closing put → GivesOut all closed put
told given all closing closed put same is g =
    subst (λ x. GivesOut x closed put) same (record {
      last = g.last;
      marked = g.marked;
      later = g.later;
      front = g.front;
      channel = g.channel;
      ended = λ h. let over = g.ended h in (is over.0, over.1);
    })

module _ {S : Type 0} (rules : Rules S) (acts : Acts S) (role : S) (rooms : Rooms)
    (pipe : Leg → Option Pipe) (far : List OnLeg → Log) (near : Feed) (log : List OnLeg → Log)
    (sees : (came : List OnLeg) (n : ℕ)
    → log came n ≡ seen near.view (of_leg (near.leg n) came))
    (is_closing : S → Bool) (known : List EndMove → S → ℕ → Bool)
    (law : (moves : List EndMove) → AreAllowedAtEnd rules acts (end_started role) moves
    → IsInOrder is_closing far log known moves
    (all_end_moved rules acts (end_started role) moves))
    (stream : (events : List EndEvent) → AreAcceptedAtEnd rules acts (begun role rooms) events
    → HearsInTurn (happened events) → EndStream rules acts role rooms pipe events)
    (knows : (events : List EndEvent) → AreAcceptedAtEnd rules acts (begun role rooms) events
    → (st : EndStream rules acts role rooms pipe events) (n : ℕ)
    → came_up (near.leg n) (happened events) ≡ true
    → known st.leads.moves st.passage.passage.role n ≡ true)
    (closes : (events : List EndEvent)
    → is_closing (after_end_events rules acts (begun role rooms) events).role ≡ true
    → list_any is_close events ≡ true) where
  pub at_end : (events : List EndEvent)
      → StreamsAtEnd rules acts role rooms pipe far near events
  at_end events = record {
    put = st.passage.passage.put;
    drawn = λ leg.
        subst (λ x. IsPrefix x (spelled (of_leg leg st.passage.passage.put))) (all.drawn leg)
        (st.drawn leg);
    gives = told st.passage.given (all_given rules acts (begun role rooms) events)
        (is_closing st.passage.passage.role) (list_any is_close events)
        (far st.passage.passage.put) (st.given ∙ all.given)
        (λ h.
        closes events
        (ap (λ (s : Shell S). is_closing s.role) (sym all.after) ∙ ap is_closing (sym st.role)
        ∙ h))
        kept.gives;
    takes = subst (IsOfFed (λ n. came_up (near.leg n) fed) (fed_by near pipe fed))
        (st.taken ∙ all.taken)
        (is_of_fed kept.shelves (λ n. came_up (near.leg n) fed)
        (known st.leads.moves st.passage.passage.role) (fed_by near pipe fed)
        (log st.passage.passage.came) st.passage.taken kept.takes (knows some all.accepted st)
        (record {
          front = front near pipe fed st.passage.passage.came (log st.passage.passage.came)
              (sees st.passage.passage.came) st.read;
          none = λ n down.
              nothing near pipe fed st.passage.passage.came (log st.passage.passage.came)
              (sees st.passage.passage.came) st.read n (silent rules (near.leg n) [] fed turn down);
        }));
  }
    where
      some : List EndEvent
      some = reaching_end rules acts (begun role rooms) events

      fed : List Event
      fed = happened some

      all : IsSameAtEnd rules acts (begun role rooms) events some
      all = same_at_end rules acts (begun role rooms) events

      turn : HearsInTurn fed
      turn = in_turn_at_end rules acts role rooms events

      st : EndStream rules acts role rooms pipe some
      st = stream some all.accepted turn

      kept : IsInOrder is_closing far log known st.leads.moves st.passage
      kept =
          subst (IsInOrder is_closing far log known st.leads.moves) st.leads.reached
          (law st.leads.moves st.leads.allowed)
