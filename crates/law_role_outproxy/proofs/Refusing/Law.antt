-- an out proxy's request is the last that its moves asked for, and why it refuses what comes
use Rattle.law_order.proofs.Vocabulary.{◌≡◌, ℕ, ◌≤◌, Bool, true, false, if◌then◌else◌, List, [], ◌∷◌, Some, None, Ok, Err, refl, ap, ◌∙◌, subst, rules, IfSome, Option}
use Rattle.rh_shell.specs.declared.answers.Refused.TheVariants as refused
use Rattle.law_moves.proofs.Vocabulary.{Ack, by_test, Cookie, Named, Asked, Leg, Count, Due, Message, Pdu, Packet, Move, Up, HeadCame, PduCame, PacketCame, Puts, IsDrawn, Marks, Pings, Passage, started, moved, all_moved, taken_by, put_by, of_leg, count_of, AreCounted, opens_client}
use Rattle.law_role_outproxy.proofs.Vocabulary.{Answer, OutProxyConfig, OutProxy, joined, new_proxy, Done, is_co, is_os, unexpected, was_up, up, head, on_pdu, ack_due, drawn, mark, Pick, or_else, answer_by, put_answer, waiting_by, put_waiting, pdu_by, put_pdu, put_mark, put_ping, next_co, put_first, ack_by, put_ack, next_os, put as put_of, pdu, packet, on_co, on_os, rules as proxy_rules, co_leg, asked_after, last_asked, UnexpectedPdu, RefusesFor}
use Rattle.law_role_outproxy.proofs.Refusing.Told.{seen, Told}
use Rattle.law_role_outproxy.proofs.Refusing.MovesKeep.{is_client, is_server, proxy_told}
use Rattle.law_role_outproxy.proofs.Refusing.Refusals.{no_leg, pdu_says, packet_says}
use Rattle.law_role_outproxy.proofs.Refusing.Cookies as cookies

-- ---- requests

same_up : (s : OutProxy) (leg : Leg) (cookie : Cookie) → (up s leg cookie).request ≡ s.request
same_up s leg cookie = search rules

same_co : (s : OutProxy) (number : Count) (m : Named) → (on_co s number m).0.request ≡ s.request
same_co s number m = search rules

same_os : (s : OutProxy) (m : Named) → (on_os s m).0.request ≡ s.request
same_os s m = search rules

same_pdu : (s : OutProxy) (leg : Leg) (number : Count) (bytes : List ℕ)
    → (pdu s leg number bytes).0.request ≡ s.request
same_pdu s leg number bytes = search rules

same_drawn : (s : OutProxy) (leg : Leg) → (drawn s leg).request ≡ s.request
same_drawn s leg = search rules

same_mark : (s : OutProxy) (leg : Leg) → (mark s leg).request ≡ s.request
same_mark s leg = search rules

pub head_asks : (s : OutProxy) (leg : Leg) (text : List ℕ)
    → (head s leg text).0.request ≡ asked_after s.request (HeadCame leg text)
head_asks s leg text = search rules

-- the same request behind what is put
abbrev IsQuiet : OutProxy → Pick → Type 0
IsQuiet s pick = IfSome pick (λ (one : OutProxy × Message). one.0.request ≡ s.request)

or_quiet : (s : OutProxy) (a b : Pick) → IsQuiet s a → IsQuiet s b → IsQuiet s (or_else a b)
or_quiet s None b g k = k
or_quiet s (Some pick) b g k = g

quiet_answer : (s : OutProxy) (a : Answer) → IsQuiet s (answer_by a s)
quiet_answer s a = search rules

quiet_waiting : (s : OutProxy) (dues : List Due) → IsQuiet s (waiting_by s dues)
quiet_waiting s dues = search rules

quiet_pdu : (s : OutProxy) (pdus : List (List ℕ)) → IsQuiet s (pdu_by s pdus)
quiet_pdu s pdus = search rules

quiet_mark : (s : OutProxy) → IsQuiet s (put_mark s)
quiet_mark s = search rules

quiet_ping : (s : OutProxy) → IsQuiet s (put_ping s)
quiet_ping s = search rules

quiet_first : (s : OutProxy) → IsQuiet s (put_first s)
quiet_first s = search rules

quiet_ack : (s : OutProxy) (o : Option Cookie) (a : Option Ack) → IsQuiet s (ack_by s o a)
quiet_ack s o a = search rules

same_put : (s : OutProxy) (leg : Leg) → IsQuiet s (put_of s leg)
same_put s leg =
    by_test (IsQuiet s) (is_co s leg) (next_co s) (if is_os s leg then next_os s else None)
    (λ e. or_quiet s (put_answer s) _ (quiet_answer s s.answer)
    (or_quiet s (put_waiting s) _ (quiet_waiting s s.waiting.due)
    (or_quiet s (put_pdu s) _ (quiet_pdu s s.line.current.pdus)
    (or_quiet s (put_mark s) (put_ping s) (quiet_mark s) (quiet_ping s)))))
    (λ e. by_test (IsQuiet s) (is_os s leg) (next_os s) None
    (λ f. or_quiet s (put_first s) (put_ack s) (quiet_first s)
    (quiet_ack s (joined s.channel) (ack_due s)))
    (λ f. tt))

same_packet : (s : OutProxy) (leg : Leg) (number : Count) (m : Named)
    → (packet s leg number m).0.request ≡ s.request
same_packet s leg number m =
    by_test (λ (x : Done). x.0.request ≡ s.request) (is_co s leg) (on_co s number m)
    (if is_os s leg then on_os s m else unexpected s) (λ e. same_co s number m)
    (λ e. by_test (λ (x : Done). x.0.request ≡ s.request) (is_os s leg) (on_os s m)
    (unexpected s) (λ f. same_os s m) (λ f. refl))

by_row : (p : Passage OutProxy) (leg : Leg) (m : Message) (x : Done)
    → x.0.request ≡ p.role.request → (taken_by p leg m x).role.request ≡ p.role.request
by_row p leg m (t, Ok taken) same = same
by_row p leg m (t, Err why) same = same

by_put : (p : Passage OutProxy) (leg : Leg) (pick : Pick)
    → IfSome pick (λ (one : OutProxy × Message). one.0.request ≡ p.role.request)
    → (put_by p leg pick).role.request ≡ p.role.request
by_put p leg None same = refl
by_put p leg (Some one) same = same

pub move_asks : (p : Passage OutProxy) (move : Move)
    → (moved proxy_rules p move).role.request ≡ asked_after p.role.request move
move_asks p (Up leg cookie) = same_up p.role leg cookie
move_asks p (HeadCame leg text) = head_asks p.role leg text
move_asks p (PduCame leg number bytes) =
    by_row p leg (Pdu bytes) (pdu p.role leg number bytes) (same_pdu p.role leg number bytes)
move_asks p (PacketCame leg number m) =
    by_row p leg (Packet m) (packet p.role leg number m) (same_packet p.role leg number m)
move_asks p (Puts leg) = by_put p leg (put_of p.role leg) (same_put p.role leg)
move_asks p (IsDrawn leg) = same_drawn p.role leg
move_asks p (Marks leg) = same_mark p.role leg
move_asks p (Pings leg) = refl

pub moves_ask : (p : Passage OutProxy) (moves : List Move)
    → (all_moved proxy_rules p moves).role.request ≡ last_asked p.role.request moves
moves_ask p [] = refl
moves_ask p (move ∷ moves) =
    moves_ask (moved proxy_rules p move) moves
    ∙ ap (λ (before : Option Asked). last_asked before moves) (move_asks p move)

-- ---- the law

pdu_on : (n : ℕ) (p : Passage OutProxy) → Told n (seen p.role) p.came → (leg : Leg)
    → (number : Count) (bytes : List ℕ) → was_up p.role leg ≡ true
    → (pdu p.role leg number bytes).1 ≡ Err refused.Unexpected → UnexpectedPdu n p leg
pdu_on n p h leg number bytes is_up =
    by_test (λ (x : Done). x.1 ≡ Err refused.Unexpected → UnexpectedPdu n p leg)
    (is_os p.role leg) (on_pdu p.role bytes) (unexpected p.role)
    (λ e. subst (λ (l : Leg). (on_pdu p.role bytes).1 ≡ Err refused.Unexpected
    → UnexpectedPdu n p l) (is_server n p.role leg h.is e) (pdu_says n p h bytes))
    (λ e f. client (is_co p.role leg) refl e)
  where
    client : (b : Bool) → is_co p.role leg ≡ b → is_os p.role leg ≡ false → UnexpectedPdu n p leg
    client true f e = subst (λ (l : Leg). UnexpectedPdu n p l) (is_client n p.role leg h.is f) tt
    client false f e = absurd (no_leg _ _ _ _ f e is_up)

pub refuses : (config : OutProxyConfig) (moves : List Move)
    → AreCounted proxy_rules (started (new_proxy config)) moves
    → count_of opens_client (of_leg (co_leg config.number)
    (all_moved proxy_rules (started (new_proxy config)) moves).came) ≤ 1
    → RefusesFor config.number moves (all_moved proxy_rules (started (new_proxy config)) moves)
refuses config moves counted once =
    let p = all_moved proxy_rules (started (new_proxy config)) moves in
    let n = config.number in
    let h : Told n (seen p.role) p.came = proxy_told config moves counted in
    let asks = moves_ask (started (new_proxy config)) moves in record {
      pdu = λ leg number bytes. pdu_on n p h leg number bytes;
      packet = λ leg number m. packet_says n p h moves asks leg number m;
      cookie = λ leg number m expected got.
          cookies.packet_says expected got n p h once leg number m;
      pdu_cookie = λ leg number bytes expected got.
          cookies.pdu_never expected got p.role leg number bytes;
    }
