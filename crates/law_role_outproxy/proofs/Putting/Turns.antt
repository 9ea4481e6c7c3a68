-- what holds of an out proxy whose moves are counted and in their turn: when its channel is opened,
-- by which packet, and where its legs came up
use Rattle.law_order.proofs.Vocabulary.{◌≡◌, ℕ, ◌&&◌, ◌||◌, Bool, true, false, true≢false, if◌then◌else◌, List, [], ◌∷◌, ◌++◌, Some, None, Ok, Err, refl, sym, ap, ◌∙◌, subst, arith, and_parts, nat_le, Option, Result}
use Rattle.rh_sig.specs.declared.named.Named.TheVariants as named
use Rattle.rh_shell.specs.declared.stage.Stage.TheVariants as stage
use Rattle.rh_outproxy.specs.declared.state.Answer.TheVariants as answers
use Rattle.rh_outproxy.specs.declared.state.Channel.TheVariants as channels
use Rattle.rh_outproxy.specs.declared.state.ClientLeg.TheVariants as clients
use Rattle.rh_outproxy.specs.declared.state.ServerLeg.TheVariants as servers
use Rattle.law_moves.proofs.Vocabulary.{by_test, Cookie, CoU, OsD, Named, HttpFault, greatest_echo, Asked, request_verdict, Leg, Frames, PassedOver, Count, HeadRefused, HeadTaken, Stage, first_stage, Message, Packet, Pdu, same_leg, OnLeg, Move, Up, HeadCame, PduCame, PacketCame, Puts, IsDrawn, Marks, Pings, Passage, started, moved, all_moved, taken_by, put_by, MayMove, AreAllowed, of_leg, IsCounted, AreCounted, is_any, Stages, none_up, with_stage, stages_after, takes_frames}
use Rattle.law_moves.proofs.Vocabulary.{IsInTurn, AreInTurn, AreInTurnFrom}
use Rattle.law_moves.proofs.Lemmas.{RowKeeps, leg_more, last_one_so, count_append, count_rises, leg_is, here_more, itself}
use Rattle.law_moves.specs.Turns.{behind_head}
use Rattle.law_role_outproxy.proofs.Vocabulary.{Channel, OutProxyConfig, OutProxy, is_known, is_server_down, is_client_down, new_proxy, Done, is_co, is_os, is_first, unexpected, forwarded, passed_on, up, pipe, may_up, wants, head_by, told_length, new_length, successor_length, opened, on_out_r2_c1, conn_c1_by, on_ack_to, drawn, mark, on_end_b1, on_out_r1_a9, Pick, put as put_of, pdu, packet, on_co, on_os, rules as proxy_rules, co_leg, os_leg, NamesNew, NamesSuccessor}
use Rattle.law_role_outproxy.proofs.Putting.Goes.{Seen, seen, is_unheard, IsUnasked, Turns, Goes, PickGoes, unheard_takes, goes_same, same_pdu, same_c1, same_forwarded, same_passed, same_ack, same_a9, same_end, goes_mark, goes_drawn, put_goes}
use Rattle.law_role_outproxy.proofs.Counted.OutProxyNames.{IsAsked, asked_more}

-- ---- moves

pub stage_each : (P : Option Stage → Type 0) (leg other : Leg) (next : Stage) (g : Stages)
    → (leg ≡ other → P (Some next)) → (same_leg leg other ≡ false → P (g other))
    → P (with_stage leg next g other)
stage_each P leg other next g at apart =
    by_test P (same_leg leg other) (Some next) (g other) (λ e. at (leg_is leg other e)) apart

module _ (config : OutProxyConfig) where
  abbrev pub co : Leg
  co = co_leg config.number

  abbrev pub os : Leg
  os = os_leg config.number

  abbrev pub TurnsAt : Stages → OutProxy → List OnLeg → Type 0
  TurnsAt g s came = Turns config g (seen s) (of_leg co came)

  goes_turns : (g : Stages) (a b : Seen) (came : List Message) → Goes a b
      → Turns config g a came → Turns config g b came
  goes_turns g a b came goes h = record {
    made = goes.config ∙ h.made;
    heads = h.heads;
    served = λ e. goes.server (h.served e);
    unasked = λ e. let u = h.unasked e in record {
      request = goes.request ∙ u.request;
      answer = goes.answer u.answer;
      channel = goes.channel ∙ u.channel;
    };
    known = λ e. h.known (ap is_known (sym goes.channel) ∙ e);
    asked = subst (λ (c : Channel). IsAsked c came) (sym goes.channel) h.asked;
  }

  came_turns : (g : Stages) (a : Seen) (came more : List Message) → Turns config g a came
      → Turns config g a (came ++ more)
  came_turns g a came more h = record {
    made = h.made;
    heads = h.heads;
    served = h.served;
    unasked = h.unasked;
    known = λ e.
        let was = h.known e in let rise = count_rises is_any came more in
        omega (arith, was, rise);
    asked = asked_more a.channel came more h.asked;
  }

  came_at : (g : Stages) (a : Seen) (came : List OnLeg) (one : OnLeg)
      → Turns config g a (of_leg co came) → Turns config g a (of_leg co (came ++ one ∷ []))
  came_at g a came one h =
      subst (Turns config g a) (sym (leg_more co came one))
      (came_turns g a (of_leg co came) (of_leg co (one ∷ [])) h)

  pub here : (s : OutProxy) (leg : Leg) → s.config ≡ config → is_co s leg ≡ true → co ≡ leg
  here s leg made e =
      ap (λ (c : OutProxyConfig). co_leg c.number) (sym made)
      ∙ leg_is (co_leg s.config.number) leg e

  pub there : (s : OutProxy) (leg : Leg) → s.config ≡ config → is_os s leg ≡ true → os ≡ leg
  there s leg made e =
      ap (λ (c : OutProxyConfig). os_leg c.number) (sym made)
      ∙ leg_is (os_leg s.config.number) leg e

  -- ---- rows

  module _ (g : Stages) where
    abbrev Row : List OnLeg → OnLeg → Done → Type 0
    Row came one x = RowKeeps (λ (t : OutProxy) (log put : List OnLeg). TurnsAt g t log) one came []
        x

    same_row : (one : OnLeg) (s : OutProxy) (came : List OnLeg) → TurnsAt g s came → (x : Done)
        → seen x.0 ≡ seen s → Row came one x
    same_row one s came h (t, Ok taken) same =
        came_at g (seen t) came one
        (goes_turns g (seen s) (seen t) (of_leg co came) (goes_same s t same) h)
    same_row one s came h (t, Err why) same =
        goes_turns g (seen s) (seen t) (of_leg co came) (goes_same s t same) h

    module _ (s : OutProxy) (came : List OnLeg) (h : TurnsAt g s came) where
      opened_row : (m : Named) (c : Channel) (size : ℕ) → takes_frames (g co) ≡ true
          → IsAsked c (of_leg co came ++ Packet m ∷ [])
          → TurnsAt g (opened s c size) (came ++ (co, Packet m) ∷ [])
      opened_row m c size turn asks =
          subst (Turns config g (seen (opened s c size))) (sym (here_more co came (Packet m)))
          (record {
            made = h.made;
            heads = h.heads;
            served = h.served;
            unasked = λ e. absurd (unheard_takes (g co) e turn);
            known = λ e.
                let both = count_append is_any (of_leg co came) (Packet m ∷ []) in
                omega (arith, both);
            asked = asks;
          })

      co_row : (count : Count) (m : Named) → takes_frames (g co) ≡ true
          → Row came (co, Packet m) (on_co s count m)
      co_row count (named.ConnA1 version connection cookie size) turn =
          by_test (Row came (co, Packet (named.ConnA1 version connection cookie size)))
          (is_first count && told_length s.request new_length) _ (unexpected s)
          (λ e. opened_row (named.ConnA1 version connection cookie size)
          (channels.New connection cookie) size turn
          (last_one_so (NamesNew connection cookie) (of_leg co came)
          (named.ConnA1 version connection cookie size) (refl, refl)))
          (λ e. h)
      co_row count (named.OutR1A3 version connection predecessor cookie size) turn =
          by_test
          (Row came (co, Packet (named.OutR1A3 version connection predecessor cookie size)))
          (is_first count && told_length s.request successor_length) _ (unexpected s)
          (λ e. opened_row (named.OutR1A3 version connection predecessor cookie size)
          (channels.Successor connection predecessor cookie) size turn
          (last_one_so (NamesSuccessor connection predecessor cookie) (of_leg co came)
          (named.OutR1A3 version connection predecessor cookie size) (refl, refl, refl)))
          (λ e. h)
      co_row count named.OutR2C1 turn =
          same_row (co, Packet named.OutR2C1) s came h (on_out_r2_c1 s count) (same_c1 s count)
      co_row count m turn = h

      c1_row : (m : Named) (c : Channel) → s.channel ≡ c → (version size timeout : ℕ)
          → Row came (os, Packet m) (conn_c1_by c s version size timeout)
      c1_row m channels.Unknown e version size timeout = h
      c1_row m (channels.New connection cookie) e version size timeout =
          same_row (os, Packet m) t came (record {
            made = h.made;
            heads = h.heads;
            served = h.served;
            unasked = λ f.
                let no' = sym e ∙ (h.unasked f).channel in absurd cc;
            known = λ f. h.known (ap is_known e);
            asked = subst (λ (c : Channel). IsAsked c (of_leg co came)) e h.asked;
          })
          (forwarded t (named.ConnC2 version size timeout))
          (same_forwarded t (named.ConnC2 version size timeout))
        where
          t : OutProxy
          t = record s { channel = channels.Joined connection cookie }
      c1_row m (channels.Joined connection cookie) e version size timeout = h
      c1_row m (channels.Successor connection predecessor cookie) e version size timeout = h

      passed_row : (m : Named) (to : ℕ) (other : Named)
          → Row came (os, Packet m) (passed_on s to other)
      passed_row m to other =
          same_row (os, Packet m) s came h (passed_on s to other) (same_passed s to other)

      os_row : (m : Named) → Row came (os, Packet m) (on_os s m)
      os_row (named.ConnC1 version size timeout) =
          c1_row (named.ConnC1 version size timeout) s.channel refl version size timeout
      os_row (named.AckTo to received available cookie) =
          same_row (os, Packet (named.AckTo to received available cookie)) s came h
          (on_ack_to s to received available cookie) (same_ack s to received available cookie)
      os_row (named.InR1A3 to version size timeout) =
          passed_row (named.InR1A3 to version size timeout) to
          (named.InR1A4 0 version size timeout)
      os_row (named.InR2A3 to) = passed_row (named.InR2A3 to) to (named.InR2A4 0)
      os_row (named.OutR1A1 to) = passed_row (named.OutR1A1 to) to (named.OutR1A2 0)
      os_row (named.OutR1A5 to version timeout) =
          passed_row (named.OutR1A5 to version timeout) to (named.OutR1A6 0 version timeout)
      os_row named.OutR1A9 =
          same_row (os, Packet named.OutR1A9) s came h (on_out_r1_a9 s) (same_a9 s)
      os_row named.EndB1 =
          same_row (os, Packet named.EndB1) s came h (on_end_b1 s) (same_end s)
      os_row m = h

      packet_row : (leg : Leg) (count : Count) (m : Named) → takes_frames (g leg) ≡ true
          → Row came (leg, Packet m) (packet s leg count m)
      packet_row leg count m turn =
          by_test (Row came (leg, Packet m)) (is_co s leg) (on_co s count m)
          (if is_os s leg then on_os s m else unexpected s)
          (λ e. subst
          (λ (l : Leg). takes_frames (g l) ≡ true → Row came (l, Packet m) (on_co s count m))
          (here s leg h.made e) (co_row count m) turn)
          (λ e. by_test (Row came (leg, Packet m)) (is_os s leg) (on_os s m) (unexpected s)
          (λ f. subst (λ (l : Leg). Row came (l, Packet m) (on_os s m)) (there s leg h.made f)
          (os_row m))
          (λ f. h))

  -- ---- legs come up

  -- the client's
  co_up : (g : Stages) (s : OutProxy) (came : List Message) (leg : Leg) → leg ≡ co → g leg ≡ None
      → Turns config g (seen s) came → Turns config (with_stage leg stage.Head g) (seen s) came
  co_up g s came leg e none h = record {
    made = h.made;
    heads = λ l.
        stage_each (λ (o : Option Stage). o ≡ Some stage.Head → l ≡ co) leg l stage.Head g
        (λ at f. sym at ∙ e) (λ apart. h.heads l);
    served = stage_each (λ (o : Option Stage). takes_frames o ≡ true
        → is_server_down s.server ≡ false) leg os stage.Head g
        (λ at f. absurd cc) (λ apart. h.served);
    unasked = λ f. h.unasked (ap is_unheard (ap g (sym e) ∙ none));
    known = h.known;
    asked = h.asked;
  }

  -- the server's
  os_up : (g : Stages) (s : OutProxy) (came : List Message) (leg : Leg)
      → is_known s.channel ≡ true → Turns config g (seen s) came
      → Turns config (with_stage leg stage.Greeting g)
      (record (seen s) { server = servers.FirstDue; answer = answers.ResponseDue }) came
  os_up g s came leg known h = record {
    made = h.made;
    heads = λ l.
        stage_each (λ (o : Option Stage). o ≡ Some stage.Head → l ≡ co) leg l stage.Greeting g
        (λ at f. absurd cc) (λ apart. h.heads l);
    served = λ f. refl;
    unasked = stage_each (λ (o : Option Stage). is_unheard o ≡ true
        → IsUnasked (record (seen s) { server = servers.FirstDue; answer = answers.ResponseDue }))
        leg co stage.Greeting g (λ at f. absurd cc)
        (λ apart f. let no' = sym known ∙ ap is_known (h.unasked f).channel in absurd cc);
    known = h.known;
    asked = h.asked;
  }

  wanted : (a b c : Bool) → (a || (b && c)) ≡ true → b ≡ false → a ≡ true
  wanted true b c e f = refl
  wanted false true c e f = absurd cc
  wanted false false c e f = absurd cc

  -- where another leg than the client's comes up, the server's was wanted
  pub is_wanted : (s : OutProxy) (leg : Leg) → may_up s leg ≡ true → is_co s leg ≡ false
      → (is_os s leg ≡ true) × (is_known s.channel ≡ true) × (is_server_down s.server ≡ true)
  is_wanted s leg may e =
      let both = and_parts (is_os s leg) (is_known s.channel && is_server_down s.server)
      (wanted (wants s leg) (is_co s leg) (is_client_down s.client) may e) in
      let more = and_parts (is_known s.channel) (is_server_down s.server) both.1 in
      (both.0, more.0, more.1)

  up_turns : (g : Stages) (s : OutProxy) (came : List Message) (leg : Leg) (cookie : Cookie)
      → may_up s leg ≡ true → g leg ≡ None → Turns config g (seen s) came
      → Turns config (with_stage leg (first_stage (pipe s leg)) g) (seen (up s leg cookie)) came
  up_turns g s came leg cookie may none h =
      elim (is_co s leg) as (λ t. is_co s leg ≡ t
      → Turns config (with_stage leg (first_stage (if t then Some CoU else Some OsD)) g)
      (seen (if t then record s { client = clients.Up }
      else record s { server = servers.FirstDue; answer = answers.ResponseDue })) came) [
        | true ↦ λ e. co_up g s came leg (sym (here s leg h.made e)) none h
        | false ↦ λ e. os_up g s came leg (is_wanted s leg may e).1 h
      ] refl

  -- ---- a head comes

  headed : (g : Stages) (s : OutProxy) (b : Seen) (came : List Message) (leg : Leg) (next : Stage)
      → leg ≡ co → is_unheard (Some next) ≡ false → b.config ≡ s.config → b.channel ≡ s.channel
      → b.server ≡ s.server → Turns config g (seen s) came
      → Turns config (with_stage leg next g) b came
  headed g s b came leg next e heard made channel server h = record {
    made = made ∙ h.made;
    heads = λ l.
        stage_each (λ (o : Option Stage). o ≡ Some stage.Head → l ≡ co) leg l next g
        (λ at f. sym at ∙ e) (λ apart. h.heads l);
    served = λ f.
        ap is_server_down server
        ∙ h.served (subst (λ (o : Option Stage). takes_frames o ≡ true)
        (ap (λ (l : Leg). with_stage l next g os) e) f);
    unasked = λ f. absurd (true≢false (sym (subst (λ (l : Leg).
        is_unheard (with_stage l next g co) ≡ true) e f) ∙ at_co next g heard));
    known = λ f. h.known (ap is_known (sym channel) ∙ f);
    asked = subst (λ (c : Channel). IsAsked c came) (sym channel) h.asked;
  }
    where
      at_co : (next : Stage) (g : Stages) → is_unheard (Some next) ≡ false
          → is_unheard (with_stage co next g co) ≡ false
      at_co next g heard =
          by_test (λ (o : Option Stage). is_unheard o ≡ false) (same_leg co co) (Some next) (g co)
          (λ t. heard) (λ t. absurd (true≢false (sym (itself co) ∙ t)))

  head_turns : (g : Stages) (s : OutProxy) (came : List Message) (leg : Leg)
      (verdict : Result Asked HttpFault) → g leg ≡ Some stage.Head → Turns config g (seen s) came
      → Turns config (with_stage leg (behind_head (head_by s verdict).1) g)
      (seen (head_by s verdict).0) came
  head_turns g s came leg (Err fault) turn h =
      headed g s (seen s) came leg stage.Shut (h.heads leg turn) refl refl refl refl h
  head_turns g s came leg (Ok request) turn h =
      by_test (λ (r : OutProxy × Result HeadTaken HeadRefused).
      Turns config (with_stage leg (behind_head r.1) g) (seen r.0) came)
      (nat_le request.length greatest_echo) (
        record s { answer = answers.EchoDue },
        Ok (record { behind = PassedOver; length = request.length }),
      ) (
        record s { request = Some request },
        Ok (record { behind = Frames; length = request.length }),
      )
      (λ f. headed g s (record (seen s) { answer = answers.EchoDue }) came leg stage.PassedOver
      (h.heads leg turn) refl refl refl refl h)
      (λ f. headed g s (record (seen s) { request = Some request }) came leg stage.Frames
      (h.heads leg turn) refl refl refl refl h)

  -- ---- each move

  row_turns : (g : Stages) (p : Passage OutProxy) (leg : Leg) (m : Message) (x : Done)
      → Row g p.came (leg, m) x
      → TurnsAt g (taken_by p leg m x).role (taken_by p leg m x).came
  row_turns g p leg m (t, Ok taken) h = h
  row_turns g p leg m (t, Err why) h = h

  pick_turns : (g : Stages) (p : Passage OutProxy) (leg : Leg) (pick : Pick)
      → PickGoes (seen p.role) pick → TurnsAt g p.role p.came
      → TurnsAt g (put_by p leg pick).role (put_by p leg pick).came
  pick_turns g p leg None goes h = h
  pick_turns g p leg (Some one) goes h =
      goes_turns g (seen p.role) (seen one.0) (of_leg co p.came) goes h

  move_turns : (g : Stages) (p : Passage OutProxy) (move : Move)
      → MayMove proxy_rules p.role move → IsInTurn proxy_rules p.role g move
      → TurnsAt g p.role p.came
      → TurnsAt (stages_after proxy_rules p.role g move) (moved proxy_rules p move).role
      (moved proxy_rules p move).came
  move_turns g p (Up leg cookie) may turn h =
      up_turns g p.role (of_leg co p.came) leg cookie may.1 turn h
  move_turns g p (HeadCame leg text) may turn h =
      head_turns g p.role (of_leg co p.came) leg (request_verdict false text) turn h
  move_turns g p (PduCame leg count bytes) may turn h =
      row_turns g p leg (Pdu bytes) (pdu p.role leg count bytes)
      (same_row g (leg, Pdu bytes) p.role p.came h (pdu p.role leg count bytes)
      (same_pdu p.role leg count bytes))
  move_turns g p (PacketCame leg count m) may turn h =
      row_turns g p leg (Packet m) (packet p.role leg count m)
      (packet_row g p.role p.came h leg count m turn)
  move_turns g p (Puts leg) may turn h =
      pick_turns g p leg (put_of p.role leg) (put_goes p.role leg) h
  move_turns g p (IsDrawn leg) may turn h =
      goes_turns g (seen p.role) (seen (drawn p.role leg)) (of_leg co p.came)
      (goes_drawn p.role leg) h
  move_turns g p (Marks leg) may turn h =
      goes_turns g (seen p.role) (seen (mark p.role leg)) (of_leg co p.came)
      (goes_mark p.role leg) h
  move_turns g p (Pings leg) may turn h =
      goes_turns g (seen p.role) (seen p.role) (of_leg co p.came) (goes_same p.role p.role refl) h

  -- ---- all moves

  -- where each move keeps another fact as well, it holds behind all
  abbrev pub Fact : Type 1
  Fact = OutProxy → List OnLeg → List OnLeg → Type 0

  abbrev pub Keeps : Fact → Type 0
  Keeps F =
      (g : Stages) (p : Passage OutProxy) (move : Move) → MayMove proxy_rules p.role move
      → IsCounted p move → IsInTurn proxy_rules p.role g move → TurnsAt g p.role p.came
      → F p.role p.came p.put
      → F (moved proxy_rules p move).role (moved proxy_rules p move).came
      (moved proxy_rules p move).put

  all_keep : (F : Fact) → Keeps F → (g : Stages) (p : Passage OutProxy) (moves : List Move)
      → AreAllowed proxy_rules p moves → AreCounted proxy_rules p moves
      → AreInTurnFrom proxy_rules p g moves → TurnsAt g p.role p.came → F p.role p.came p.put
      → F (all_moved proxy_rules p moves).role (all_moved proxy_rules p moves).came
      (all_moved proxy_rules p moves).put
  all_keep F keeps g p [] may counted turn h f = f
  all_keep F keeps g p (move ∷ moves) may counted turn h f =
      all_keep F keeps (stages_after proxy_rules p.role g move) (moved proxy_rules p move) moves
      may.1 counted.1 turn.1 (move_turns g p move may.0 turn.0 h)
      (keeps g p move may.0 counted.0 turn.0 h f)

  starts : TurnsAt none_up (new_proxy config) []
  starts = record {
    made = refl;
    heads = λ leg e. absurd cc;
    served = λ e. absurd cc;
    unasked = λ e. record { request = refl; answer = refl; channel = refl };
    known = λ e. absurd cc;
    asked = tt;
  }

  pub keeps_all : (F : Fact) → Keeps F → F (new_proxy config) [] [] → (moves : List Move)
      → AreAllowed proxy_rules (started (new_proxy config)) moves
      → AreCounted proxy_rules (started (new_proxy config)) moves
      → AreInTurn proxy_rules (new_proxy config) moves
      → (let p = all_moved proxy_rules (started (new_proxy config)) moves in
      F p.role p.came p.put)
  keeps_all F keeps first moves may counted turn =
      all_keep F keeps none_up (started (new_proxy config)) moves may counted turn starts first

  -- the channel is one that was asked for
  pub is_asked : (moves : List Move) → AreAllowed proxy_rules (started (new_proxy config)) moves
      → AreCounted proxy_rules (started (new_proxy config)) moves
      → AreInTurn proxy_rules (new_proxy config) moves
      → (let p = all_moved proxy_rules (started (new_proxy config)) moves in
      IsAsked p.role.channel (of_leg co p.came))
  is_asked moves may counted turn =
      keeps_all (λ (s : OutProxy) (came put : List OnLeg). IsAsked s.channel (of_leg co came))
      (λ g p move may counted turn h f. (move_turns g p move may turn h).asked) tt moves may counted
      turn
