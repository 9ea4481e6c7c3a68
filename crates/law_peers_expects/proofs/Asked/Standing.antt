-- what holds of an out proxy whose moves are in their turn: no leg but its client's begins with a
-- head, and frames come there behind a request that it took
use Rattle.law_order.proofs.Vocabulary.{◌≡◌, ℕ, Bool, true, false, true≢false, if◌then◌else◌, List, [], ◌∷◌, Some, None, is_some, Ok, Err, refl, sym, ap, ◌∙◌, rules, nat_le, IfSome, Option, Result}
use Rattle.rh_shell.specs.declared.stage.Stage.TheVariants as stage
use Rattle.law_moves.proofs.Vocabulary.{Ack, by_test, Cookie, CoU, OsD, Named, HttpFault, greatest_echo, Asked, request_verdict, Leg, Count, HeadRefused, HeadTaken, Due, Stage, first_stage, Message, Pdu, Packet, same_leg, Move, Up, HeadCame, PduCame, PacketCame, Puts, IsDrawn, Marks, Pings, Passage, started, moved, all_moved, taken_by, put_by, Stages, none_up, with_stage, stages_after, takes_frames}
use Rattle.law_moves.proofs.Lemmas.{leg_is, itself}
use Rattle.law_moves.specs.Turns.{behind_head}
use Rattle.law_role_outproxy.proofs.Vocabulary.{Answer, OutProxyConfig, OutProxy, joined, new_proxy, Done, is_co, is_os, unexpected, up, head_by, ack_due, drawn, mark, ping, Pick, or_else, answer_by, put_answer, waiting_by, put_waiting, pdu_by, put_pdu, put_mark, put_ping, next_co, put_first, ack_by, put_ack, next_os, put as put_of, pdu, packet, on_co, on_os, rules as proxy_rules, co_leg}
use Rattle.law_role_outproxy.proofs.Putting.Turns.{stage_each}
use Rattle.law_node_streams.proofs.Streams.Staging.{all_stages}

-- ---- what rows leave alone

pub record Seen : Type 0 where
  pub config : OutProxyConfig
  pub request : Option Asked
  pub answer : Answer

abbrev pub seen : OutProxy → Seen
seen s = record { config = s.config; request = s.request; answer = s.answer }

pub same_pdu : (s : OutProxy) (leg : Leg) (count : Count) (bytes : List ℕ)
    → seen (pdu s leg count bytes).0 ≡ seen s
same_pdu s leg count bytes = search rules

same_co : (s : OutProxy) (count : Count) (m : Named) → seen (on_co s count m).0 ≡ seen s
same_co s count m = search rules

same_os : (s : OutProxy) (m : Named) → seen (on_os s m).0 ≡ seen s
same_os s m = search rules

pub same_packet : (s : OutProxy) (leg : Leg) (count : Count) (m : Named)
    → seen (packet s leg count m).0 ≡ seen s
same_packet s leg count m =
    by_test (λ (x : Done). seen x.0 ≡ seen s) (is_co s leg) (on_co s count m)
    (if is_os s leg then on_os s m else unexpected s) (λ e. same_co s count m)
    (λ e. by_test (λ (x : Done). seen x.0 ≡ seen s) (is_os s leg) (on_os s m) (unexpected s)
    (λ f. same_os s m) (λ f. refl))

pub same_mark : (s : OutProxy) (leg : Leg) → seen (mark s leg) ≡ seen s
same_mark s leg = search rules

-- ---- what nothing but a head changes

pub record Core : Type 0 where
  pub config : OutProxyConfig
  pub request : Option Asked

abbrev pub core : OutProxy → Core
core s = record { config = s.config; request = s.request }

abbrev pub seen_core : Seen → Core
seen_core x = record { config = x.config; request = x.request }

pub same_up : (s : OutProxy) (leg : Leg) (cookie : Cookie) → core (up s leg cookie) ≡ core s
same_up s leg cookie = search rules

pub same_drawn : (s : OutProxy) (leg : Leg) → core (drawn s leg) ≡ core s
same_drawn s leg = search rules

abbrev pub IsQuiet : OutProxy → Pick → Type 0
IsQuiet s pick = IfSome pick (λ (one : OutProxy × Message). core one.0 ≡ core s)

or_quiet : (s : OutProxy) (a b : Pick) → IsQuiet s a → IsQuiet s b → IsQuiet s (or_else a b)
or_quiet s None b g k = k
or_quiet s (Some pick) b g k = g

quiet_answer : (s : OutProxy) (a : Answer) → IsQuiet s (answer_by a s)
quiet_answer s a = search rules

quiet_waiting : (s : OutProxy) (dues : List Due) → IsQuiet s (waiting_by s dues)
quiet_waiting s dues = search rules

quiet_pdu : (s : OutProxy) (pdus : List (List ℕ)) → IsQuiet s (pdu_by s pdus)
quiet_pdu s pdus = search rules

quiet_mark : (s : OutProxy) → IsQuiet s (put_mark s)
quiet_mark s = search rules

quiet_ping : (s : OutProxy) → IsQuiet s (put_ping s)
quiet_ping s = search rules

quiet_first : (s : OutProxy) → IsQuiet s (put_first s)
quiet_first s = search rules

quiet_ack : (s : OutProxy) (o : Option Cookie) (a : Option Ack) → IsQuiet s (ack_by s o a)
quiet_ack s o a = search rules

pub same_put : (s : OutProxy) (leg : Leg) → IsQuiet s (put_of s leg)
same_put s leg =
    by_test (IsQuiet s) (is_co s leg) (next_co s) (if is_os s leg then next_os s else None)
    (λ e. or_quiet s (put_answer s) _ (quiet_answer s s.answer)
    (or_quiet s (put_waiting s) _ (quiet_waiting s s.waiting.due)
    (or_quiet s (put_pdu s) _ (quiet_pdu s s.line.current.pdus)
    (or_quiet s (put_mark s) (put_ping s) (quiet_mark s) (quiet_ping s)))))
    (λ e. by_test (IsQuiet s) (is_os s leg) (next_os s) None
    (λ f. or_quiet s (put_first s) (put_ack s) (quiet_first s)
    (quiet_ack s (joined s.channel) (ack_due s)))
    (λ f. tt))

-- ---- what comes next

module _ (config : OutProxyConfig) where
  abbrev pub co : Leg
  co = co_leg config.number

  pub record Stands (g : Stages) (s : OutProxy) : Type 0 where
    pub made : s.config ≡ config
    pub heads : (leg : Leg) → g leg ≡ Some stage.Head → leg ≡ co
    pub frames : takes_frames (g co) ≡ true → is_some s.request ≡ true

  same_stands : (g : Stages) (s t : OutProxy) → core t ≡ core s → Stands g s → Stands g t
  same_stands g s t same h = record {
    made = ap (λ (k : Core). k.config) same ∙ h.made;
    heads = h.heads;
    frames = λ e. ap (λ (k : Core). is_some k.request) same ∙ h.frames e;
  }

  here : (s : OutProxy) (leg : Leg) → s.config ≡ config → is_co s leg ≡ true → leg ≡ co
  here s leg made e =
      sym (leg_is (co_leg s.config.number) leg e)
      ∙ ap (λ (c : OutProxyConfig). co_leg c.number) made

  -- a leg comes up
  up_stands : (g : Stages) (s t : OutProxy) (leg : Leg) → core t ≡ core s → Stands g s
      → (b : Bool) → is_co s leg ≡ b
      → Stands (with_stage leg (first_stage (if b then Some CoU else Some OsD)) g) t
  up_stands g s t leg same h true e = record {
    made = ap (λ (k : Core). k.config) same ∙ h.made;
    heads = λ l.
        stage_each (λ (o : Option Stage). o ≡ Some stage.Head → l ≡ co) leg l stage.Head g
        (λ at f. sym at ∙ here s leg h.made e) (λ apart. h.heads l);
    frames = stage_each (λ (o : Option Stage). takes_frames o ≡ true → is_some t.request ≡ true)
        leg co stage.Head g (λ at f. absurd cc)
        (λ apart f. ap (λ (k : Core). is_some k.request) same ∙ h.frames f);
  }
  up_stands g s t leg same h false e = record {
    made = ap (λ (k : Core). k.config) same ∙ h.made;
    heads = λ l.
        stage_each (λ (o : Option Stage). o ≡ Some stage.Head → l ≡ co) leg l stage.Greeting g
        (λ at f. absurd cc) (λ apart. h.heads l);
    frames = stage_each (λ (o : Option Stage). takes_frames o ≡ true → is_some t.request ≡ true)
        leg co stage.Greeting g
        (λ at f. absurd (true≢false (sym (is_here at) ∙ e)))
        (λ apart f. ap (λ (k : Core). is_some k.request) same ∙ h.frames f);
  }
    where
      is_here : leg ≡ co_leg config.number → is_co s leg ≡ true
      is_here at =
          ap (same_leg (co_leg s.config.number))
          (at ∙ ap (λ (c : OutProxyConfig). co_leg c.number) (sym h.made))
          ∙ itself (co_leg s.config.number)

  -- a head comes
  headed : (g : Stages) (s t : OutProxy) (leg : Leg) (next : Stage) → t.config ≡ s.config
      → (next ≡ stage.Head → ⊥) → (takes_frames (Some next) ≡ true → is_some t.request ≡ true)
      → (is_some s.request ≡ true → is_some t.request ≡ true) → Stands g s
      → Stands (with_stage leg next g) t
  headed g s t leg next made other asked still h = record {
    made = made ∙ h.made;
    heads = λ l.
        stage_each (λ (o : Option Stage). o ≡ Some stage.Head → l ≡ co) leg l next g
        (λ at f. absurd (other cc)) (λ apart. h.heads l);
    frames = stage_each (λ (o : Option Stage). takes_frames o ≡ true → is_some t.request ≡ true)
        leg co next g (λ at. asked) (λ apart f. still (h.frames f));
  }

  head_stands : (g : Stages) (s : OutProxy) (leg : Leg) (verdict : Result Asked HttpFault)
      → Stands g s → Stands (with_stage leg (behind_head (head_by s verdict).1) g)
      (head_by s verdict).0
  head_stands g s leg (Err fault) h =
      headed g s s leg stage.Shut refl (λ e. absurd cc) (λ e. absurd cc) (λ e. e) h
  head_stands g s leg (Ok request) h =
      by_test (λ (r : OutProxy × Result HeadTaken HeadRefused).
      Stands (with_stage leg (behind_head r.1) g) r.0)
      (nat_le request.length greatest_echo) _ _
      (λ f. headed g s _ leg stage.PassedOver refl (λ e. absurd cc) (λ e. absurd cc) (λ e. e) h)
      (λ f. headed g s _ leg stage.Frames refl (λ e. absurd cc) (λ e. refl) (λ e. refl) h)

  -- ---- each move

  row_stands : (g : Stages) (p : Passage OutProxy) (leg : Leg) (m : Message) (x : Done)
      → seen x.0 ≡ seen p.role → Stands g p.role → Stands g (taken_by p leg m x).role
  row_stands g p leg m (t, Ok taken) same h = same_stands g p.role t (ap seen_core same) h
  row_stands g p leg m (t, Err why) same h = same_stands g p.role t (ap seen_core same) h

  put_stands : (g : Stages) (p : Passage OutProxy) (leg : Leg) (pick : Pick)
      → IsQuiet p.role pick → Stands g p.role → Stands g (put_by p leg pick).role
  put_stands g p leg None same h = h
  put_stands g p leg (Some one) same h = same_stands g p.role one.0 same h

  pub move_stands : (g : Stages) (p : Passage OutProxy) (move : Move) → Stands g p.role
      → Stands (stages_after proxy_rules p.role g move) (moved proxy_rules p move).role
  move_stands g p (Up leg cookie) h =
      up_stands g p.role (up p.role leg cookie) leg (same_up p.role leg cookie) h
      (is_co p.role leg) refl
  move_stands g p (HeadCame leg text) h =
      head_stands g p.role leg (request_verdict false text) h
  move_stands g p (PduCame leg count bytes) h =
      row_stands g p leg (Pdu bytes) (pdu p.role leg count bytes)
      (same_pdu p.role leg count bytes) h
  move_stands g p (PacketCame leg count m) h =
      row_stands g p leg (Packet m) (packet p.role leg count m) (same_packet p.role leg count m) h
  move_stands g p (Puts leg) h =
      put_stands g p leg (put_of p.role leg) (same_put p.role leg) h
  move_stands g p (IsDrawn leg) h =
      same_stands g p.role (drawn p.role leg) (same_drawn p.role leg) h
  move_stands g p (Marks leg) h =
      same_stands g p.role (mark p.role leg) (ap seen_core (same_mark p.role leg)) h
  move_stands g p (Pings leg) h = same_stands g p.role (ping p.role leg) refl h

  -- ---- all moves

  pub starts : Stands none_up (new_proxy config)
  starts = record { made = refl; heads = λ leg e. absurd cc; frames = λ e. absurd cc }

  all_stand : (g : Stages) (p : Passage OutProxy) (moves : List Move) → Stands g p.role
      → Stands (all_stages proxy_rules p g moves) (all_moved proxy_rules p moves).role
  all_stand g p [] h = h
  all_stand g p (move ∷ moves) h =
      all_stand (stages_after proxy_rules p.role g move) (moved proxy_rules p move) moves
      (move_stands g p move h)

  pub proxy_stands : (moves : List Move)
      → Stands (all_stages proxy_rules (started (new_proxy config)) none_up moves)
      (all_moved proxy_rules (started (new_proxy config)) moves).role
  proxy_stands moves = all_stand none_up (started (new_proxy config)) moves starts
