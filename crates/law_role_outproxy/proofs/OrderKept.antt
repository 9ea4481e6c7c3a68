-- each move of an out proxy keeps the law of a proxy
use Rattle.law_order.proofs.Vocabulary.{◌≡◌, ℕ, true, false, not, ◌&&◌, nat_le, List, [], ◌∷◌, Some, Ok, Err, refl, sym, subst, Result}
use Rattle.rh_outproxy.specs.declared.state.Answer.TheVariants as answers
use Rattle.rh_outproxy.specs.declared.state.ClientLeg.TheVariants as clients
use Rattle.rh_outproxy.specs.declared.state.ServerLeg.TheVariants as servers
use Rattle.rh_outproxy.specs.Machine as machine
use Rattle.law_moves.proofs.Vocabulary.{by_test, passer_starts, HttpFault, Asked, request_verdict, greatest_echo, Leg, Frames, PassedOver, HeadRefused, HeadTaken, Passage, now_at, Move, Up, HeadCame, PduCame, PacketCame, Puts, IsDrawn, Marks, Pings, moved, MayMove, is_at_work, is_in_use, started, all_moved, AreAllowed}
use Rattle.law_role_outproxy.proofs.Vocabulary.{OutProxyConfig, Due as DueNow, OutProxy, is_echo_put, new_proxy, is_over, is_co, head_by, KeepsOrder}
use Rattle.law_role_outproxy.proofs.Conditions.{both_right, no_false}
use Rattle.law_role_outproxy.proofs.ProxyLaw.{picture_of, AreOther, Law, stays}
use Rattle.law_role_outproxy.proofs.OrderRows.{pdu_law, packet_law}
use Rattle.law_role_outproxy.proofs.OrderPuts.{put_law}

-- a state of the same picture
pub rests : (n : ℕ) (p : Passage OutProxy) (s : OutProxy) → picture_of s ≡ picture_of p.role
    → s.waiting.due ≡ p.role.waiting.due → Law n p → Law n (now_at p s)
rests n p s same waiting l =
    stays n p (now_at p s) same (subst AreOther (sym waiting) l.other) refl refl l

pub head_law : (n : ℕ) (p : Passage OutProxy) (verdict : Result Asked HttpFault) → Law n p
    → Law n (now_at p (head_by p.role verdict).0)
head_law n p (Err fault) l = l
head_law n p (Ok request) l =
    by_test (λ (r : OutProxy × Result HeadTaken HeadRefused). Law n (now_at p r.0))
    (nat_le request.length greatest_echo) (
      record (p.role) { answer = answers.EchoDue },
      Ok (record { behind = PassedOver; length = request.length }),
    ) (
      record (p.role) { request = Some request },
      Ok (record { behind = Frames; length = request.length }),
    )
    (λ t. rests n p (record (p.role) { answer = answers.EchoDue }) refl refl l)
    (λ t. rests n p (record (p.role) { request = Some request }) refl refl l)

pub works_where : (s : OutProxy) (leg : Leg) → is_in_use machine.rules s leg ≡ true
    → is_over s ≡ false
works_where s leg e =
    no_false (is_over s) (both_right (is_at_work machine.rules s) (not (is_over s)) e)

pub step : (n : ℕ) (p : Passage OutProxy) (move : Move) → MayMove machine.rules p.role move
    → Law n p → Law n (moved machine.rules p move)
step n p (Up leg cookie) may l =
    let up' : OutProxy = record (p.role) { client = clients.Up } in
    let first : OutProxy =
    record (p.role) { server = servers.FirstDue; answer = answers.ResponseDue } in
    by_test (λ (s : OutProxy). Law n (now_at p s)) (is_co p.role leg) up' first
    (λ t. rests n p up' refl refl l) (λ t. rests n p first refl refl l)
step n p (HeadCame leg text) may l = head_law n p (request_verdict false text) l
step n p (PduCame leg count pdu) may l = pdu_law n p leg count pdu l
step n p (PacketCame leg count m) may l = packet_law n p leg count m l
step n p (Puts leg) may l = put_law n p leg (works_where p.role leg may) l
step n p (IsDrawn leg) may l =
    let drawn' : OutProxy = record (p.role) { answer = answers.EchoDrawn } in
    by_test (λ (s : OutProxy). Law n (now_at p s)) (is_co p.role leg && is_echo_put p.role.answer)
    drawn' p.role (λ t. rests n p drawn' refl refl l) (λ t. l)
step n p (Marks leg) may l =
    let client : OutProxy = record (p.role) { client = clients.Marked } in
    let server : OutProxy = record (p.role) { server = servers.Marked } in
    by_test (λ (s : OutProxy). Law n (now_at p s)) (is_co p.role leg) client server
    (λ t. rests n p client refl refl l) (λ t. rests n p server refl refl l)
step n p (Pings leg) may l = rests n p (record (p.role) { ping = DueNow }) refl refl l

pub steps : (n : ℕ) (p : Passage OutProxy) (moves : List Move) → AreAllowed machine.rules p moves
    → Law n p → Law n (all_moved machine.rules p moves)
steps n p [] allowed l = l
steps n p (move ∷ moves) allowed l =
    steps n (moved machine.rules p move) moves allowed.1 (step n p move allowed.0 l)

pub starts : (config : OutProxyConfig) → Law config.number (started (new_proxy config))
starts config = record {
  number = refl;
  single = refl;
  other = tt;
  order = passer_starts config.number;
}

pub order_kept : (config : OutProxyConfig) (moves : List Move)
    → AreAllowed machine.rules (started (new_proxy config)) moves
    → KeepsOrder config.number (all_moved machine.rules (started (new_proxy config)) moves)
order_kept config moves allowed =
    let l = steps config.number (started (new_proxy config)) moves allowed (starts config) in
    subst (λ (j : ℕ). KeepsOrder j (all_moved machine.rules (started (new_proxy config)) moves))
    l.number l.order
