-- what each role is in the law of streams: its legs, and what order sees there
use Rattle.law_order.proofs.Vocabulary.{◌⊎◌, inl, inr, nat_lt, rules, ◌≡◌, ℕ, zero, suc, ◌==◌, ◌&&◌, ◌||◌, Bool, true, false, true≢false, false≢true, if◌then◌else◌, arith, nat_tests, List, [], ◌∷◌, ◌++◌, refl, sym, ap, ◌∙◌, subst, list_any, Item, seen}
use Rattle.rh_inproxy.specs.Machine as in_proxy
use Rattle.rh_inproxy.specs.State as in_state
use Rattle.rh_client.specs.Client as client
use Rattle.rh_outproxy.specs.Machine as out_proxy
use Rattle.rh_server.specs.Servers as server
use Rattle.rh_server.specs.States.{Server}
use Rattle.law_moves.proofs.Vocabulary.{Leg, LegKind, ClientOut, OutServer, ClientIn, InServer, Rules, Acts, Shell, has_room, is_working, may_up, is_of, kind_number, same_leg, OnLeg, of_leg, Moves, Up, HeadCame, PduCame, PacketCame, Puts, IsDrawn, Marks, Pings, EndMove, Gives, Takes, Closes, Recycles, RefusesInTurn, Event, ComesUp, Hears, Ends, Breaks, Draws, Ticks, EndEvent, Happens, IsGiven, IsTaken, IsClosed, IsRecycled, after_end_event, after_end_events}
use Rattle.law_role_inproxy.proofs.Vocabulary.{InProxyConfig, is_client_leg, item_came}
use Rattle.law_role_inproxy.proofs.Refusing.Items.{came_is, swapped as same_test}
use Rattle.law_role_inproxy.specs.Order as in_order
use Rattle.law_role_outproxy.proofs.Vocabulary.{OutProxyConfig, new_proxy, from_server}
use Rattle.law_role_outproxy.specs.Order as out_order
use Rattle.law_role_client.proofs.Vocabulary.{ClientRole, down_items}
use Rattle.law_role_client.specs.Order as client_order
use Rattle.law_role_server.proofs.Vocabulary.{in_items, items_if}
use Rattle.law_role_server.specs.Order as server_order
use Rattle.law_node_history.proofs.Lemmas.{cases_leg}
use Rattle.law_node_history.proofs.Vocabulary.{AreAcceptedAtEnd, IsAccepted, came_up, happened, is_up_of}
use Rattle.law_node_causes.specs.Numbers.{ClientIsNumbered}
use Rattle.law_node_streams.proofs.Streams.LegLogs.{leg_items}
use Rattle.law_node_streams.specs.Streams.{EndStream, is_end_up_on}
use Rattle.law_node_begins.specs.EndsBegin.{server_reads}
use Rattle.law_node_ends.proofs.Stops.ClientStays as client_stays
use Rattle.law_node_ends.proofs.Stops.ServerStays as server_stays
use Rattle.law_node_begins.specs.ProxiesBegin.Pipes.{ci, is, co, os, in_pipe, out_pipe}

-- ---- what came on each leg, as order sees it

pub in_sees : (came : List OnLeg) (n : ℕ)
    → in_order.came_log came n ≡ seen item_came (of_leg (ci n) came)
in_sees came n = came_is n came

pub out_sees : (came : List OnLeg) (n : ℕ)
    → out_order.came_log came n ≡ seen from_server (of_leg (os n) came)
out_sees came n =
    leg_items from_server (os n) (λ log. out_order.came_log log n) refl (λ one log. refl) came

pub client_sees : (came : List OnLeg) (n : ℕ)
    → client_order.came_log came n ≡ seen down_items (of_leg (co n) came)
client_sees came n =
    leg_items down_items (co n) (λ log. client_order.came_log log n) refl (λ one log. refl) came

pub server_sees : (came : List OnLeg) (n : ℕ)
    → server_order.items_on in_items InServer came n ≡ seen in_items (of_leg (is n) came)
server_sees came n =
    leg_items in_items (is n) (λ log. server_order.items_on in_items InServer log n) refl
    (λ one log. ap (λ (items : List Item).
    items ++ server_order.items_on in_items InServer log n)
    (by (same_leg (is n) one.0) (in_items one.1))) came
  where
    by : (t : Bool) (items : List Item) → items_if t items ≡ (if t then items else [])
    by true items = refl
    by false items = refl

-- ---- the legs that come up

-- one that may never come up doesn't
module _ {S : Type 0} (rules : Rules S) (acts : Acts S) (leg : Leg) where
  may_have : (s : Shell S) (event : Event) → is_up_of leg event ≡ true
      → IsAccepted rules s event → may_up rules s leg ≡ true
  may_have s (ComesUp other cookie) e may = by (cases_leg other leg)
    where
      by : (other ≡ leg) ⊎ (same_leg other leg ≡ false) → may_up rules s leg ≡ true
      by (inl same) = ap (may_up rules s) (sym same) ∙ may
      by (inr apart) = absurd (true≢false (sym e ∙ apart))
  may_have s (Hears other piece) e may = absurd (false≢true e)
  may_have s (Ends other) e may = absurd (false≢true e)
  may_have s (Breaks other) e may = absurd (false≢true e)
  may_have s (Draws other room) e may = absurd (false≢true e)
  may_have s (Ticks now) e may = absurd (false≢true e)

  never_up : (s : Shell S) (events : List EndEvent)
      → ((later : List EndEvent)
      → may_up rules (after_end_events rules acts s later) leg ≡ false)
      → AreAcceptedAtEnd rules acts s events → came_up leg (happened events) ≡ false
  never_up s [] never may = refl
  never_up s (Happens event ∷ events) never may =
      by (is_up_of leg event) refl
      (never_up (after_end_event rules acts s (Happens event)) events
      (λ later. never (Happens event ∷ later)) may.1)
    where
      by : (b : Bool) → is_up_of leg event ≡ b → came_up leg (happened events) ≡ false
          → (is_up_of leg event || came_up leg (happened events)) ≡ false
      by true e rest = absurd (true≢false (sym (may_have s event e may.0) ∙ never []))
      by false e rest = ap (λ b. b || came_up leg (happened events)) e ∙ rest
  never_up s (IsGiven pdu ∷ events) never may =
      never_up (after_end_event rules acts s (IsGiven pdu)) events
      (λ later. never (IsGiven pdu ∷ later)) may.1
  never_up s (IsTaken ∷ events) never may =
      never_up (after_end_event rules acts s IsTaken) events (λ later. never (IsTaken ∷ later))
      may.1
  never_up s (IsClosed ∷ events) never may =
      never_up (after_end_event rules acts s IsClosed) events (λ later. never (IsClosed ∷ later))
      may.1
  never_up s (IsRecycled ∷ events) never may =
      never_up (after_end_event rules acts s IsRecycled) events
      (λ later. never (IsRecycled ∷ later)) may.1

-- a client has no OUT channel of number 0
no_first : (s : ClientRole) → ClientIsNumbered s → client.rules.may_up s (co 0) ≡ false
no_first s h = grind (arith, nat_tests, h.outs.first, h.outs.behind)

above : (n : ℕ) → client_order.has_leg (suc n) ≡ true
above n = grind (arith, nat_tests)

pub client_knows : (s : Shell ClientRole) (events : List EndEvent)
    → ((later : List EndEvent)
    → ClientIsNumbered (after_end_events client.rules client.acts s later).role)
    → AreAcceptedAtEnd client.rules client.acts s events → (n : ℕ)
    → came_up (co n) (happened events) ≡ true → client_order.has_leg n ≡ true
client_knows s events numbers may zero e =
    absurd (true≢false (sym e
    ∙ never_up client.rules client.acts (co 0) s events (λ later. none later) may))
  where
    none : (later : List EndEvent)
        → may_up client.rules (after_end_events client.rules client.acts s later) (co 0) ≡ false
    none later =
        let t = after_end_events client.rules client.acts s later in
        both (is_working client.rules t) (has_room client.rules t ClientOut)
        (client.rules.may_up t.role (co 0)) (no_first t.role (numbers later))
      where
        both : (a b c : Bool) → c ≡ false → (a && (b && c)) ≡ false
        both true true c e = e
        both true false c e = refl
        both false b c e = refl
client_knows s events numbers may (suc n) e = above n

-- a server's leg that came up by moves
pub ups_are : (n : ℕ) (moves : List EndMove)
    → list_any (is_end_up_on (is n)) moves ≡ server_order.came_up moves n
ups_are n [] = refl
ups_are n (move ∷ moves) =
    ap (λ (b : Bool). b || list_any (is_end_up_on (is n)) moves) (one move)
    ∙ ap (λ (b : Bool). server_order.is_up n move || b) (ups_are n moves)
  where
    one : (move : EndMove) → is_end_up_on (is n) move ≡ server_order.is_up n move
    one (Moves (Up leg cookie)) =
        ap (λ (b : Bool). b && (leg.number == n))
        (same_test (kind_number leg.kind) (kind_number InServer))
        ∙ ap (λ (b : Bool). is_of InServer leg && b) (same_test leg.number n)
    one (Moves (HeadCame leg text)) = refl
    one (Moves (PduCame leg count pdu)) = refl
    one (Moves (PacketCame leg count named)) = refl
    one (Moves (Puts leg)) = refl
    one (Moves (IsDrawn leg)) = refl
    one (Moves (Marks leg)) = refl
    one (Moves (Pings leg)) = refl
    one (Gives pdu) = refl
    one Takes = refl
    one Closes = refl
    one Recycles = refl

pub server_knows : (window : ℕ) (events : List EndEvent)
    → (st : EndStream server.rules server.acts (server.first window) server.rooms server_reads
    events) (n : ℕ)
    → came_up (is n) (happened events) ≡ true
    → server_order.has_leg st.leads.moves st.passage.passage.role n ≡ true
server_knows window events st n up =
    ap (λ b. nat_lt st.passage.passage.role.newest_in n || b)
    (sym (ups_are n st.leads.moves) ∙ st.ups (is n) ∙ up)
    ∙ by (nat_lt st.passage.passage.role.newest_in n)
  where
    by : (b : Bool) → (b || true) ≡ true
    by true = refl
    by false = refl

-- ---- a PDU that is given changes nothing of whether an end was told to close

pub client_gives : (s : ClientRole) (pdu : List ℕ)
    → client_stays.said (client.acts.give s pdu).0 ≡ client_stays.said s
client_gives s pdu = search rules

pub server_gives : (s : Server) (pdu : List ℕ)
    → server_stays.said (server.acts.give s pdu).0 ≡ server_stays.said s
server_gives s pdu = search rules

-- ---- where a proxy refuses its client, it put nothing there

pub in_refuses : (config : InProxyConfig)
    → ((number : ℕ)
    → RefusesInTurn in_proxy.rules (in_state.first config) (in_pipe config) (ci number))
    → ((leg : Leg) → is_client_leg leg ≡ false
    → RefusesInTurn in_proxy.rules (in_state.first config) (in_pipe config) leg)
    → (leg : Leg) → RefusesInTurn in_proxy.rules (in_state.first config) (in_pipe config) leg
in_refuses config client elsewhere leg = by (is_client_leg leg) refl
  where
    of_kind : (kind : LegKind) (n : ℕ)
        → is_of ClientIn (record { kind = kind; number = n }) ≡ true
        → ci n ≡ record { kind = kind; number = n }
    of_kind ClientIn n e = refl
    of_kind ClientOut n e = absurd (false≢true e)
    of_kind OutServer n e = absurd (false≢true e)
    of_kind InServer n e = absurd (false≢true e)

    by : (b : Bool) → is_client_leg leg ≡ b
        → RefusesInTurn in_proxy.rules (in_state.first config) (in_pipe config) leg
    by true e =
        subst (RefusesInTurn in_proxy.rules (in_state.first config) (in_pipe config))
        (of_kind leg.kind leg.number e) (client leg.number)
    by false e = elsewhere leg e

pub out_refuses : (config : OutProxyConfig)
    → RefusesInTurn out_proxy.rules (new_proxy config) (out_pipe config) (co config.number)
    → ((leg : Leg) → same_leg (co config.number) leg ≡ false
    → RefusesInTurn out_proxy.rules (new_proxy config) (out_pipe config) leg)
    → (leg : Leg) → RefusesInTurn out_proxy.rules (new_proxy config) (out_pipe config) leg
out_refuses config client elsewhere leg = by (cases_leg (co config.number) leg)
  where
    by : (co config.number ≡ leg) ⊎ (same_leg (co config.number) leg ≡ false)
        → RefusesInTurn out_proxy.rules (new_proxy config) (out_pipe config) leg
    by (inl is) =
        subst (RefusesInTurn out_proxy.rules (new_proxy config) (out_pipe config)) is client
    by (inr e) = elsewhere leg e
