-- whatever moves an out proxy makes, what it put reads back
use Rattle.law_order.proofs.Vocabulary.{false, ◌&&◌, nat_le, List, [], ◌∷◌, Some, Ok, Err, Option, Result}
use Rattle.rh_outproxy.specs.declared.state.Answer.TheVariants as answers
use Rattle.rh_outproxy.specs.declared.state.ClientLeg.TheVariants as clients
use Rattle.rh_outproxy.specs.declared.state.ServerLeg.TheVariants as servers
use Rattle.rh_outproxy.specs.Putting as putting
use Rattle.rh_outproxy.specs.Machine as machine
use Rattle.law_moves.proofs.Vocabulary.{by_test, Pipe, HttpFault, greatest_echo, Asked, request_verdict, Leg, Frames, PassedOver, HeadRefused, HeadTaken, Pdu, Packet, AllMayGo, AllReadBack, IsLegible, OnLeg, Passage, now_at, Move, Up, HeadCame, PduCame, PacketCame, Puts, IsDrawn, Marks, Pings, moved, started, all_moved}
use Rattle.law_role_outproxy.proofs.Vocabulary.{OutProxyConfig, OutProxy, is_echo_put, new_proxy, is_co, head_by, IsConfig, pipe_put}
use Rattle.law_role_outproxy.proofs.LegibleKept.{Kept, kept_starts, kept_taken, kept_put, kept_reads}
use Rattle.law_role_outproxy.proofs.LegibleRows.{pdu_keeps, packet_keeps}
use Rattle.law_role_outproxy.proofs.LegiblePuts.{put_goes}

pub head_kept : (p : Passage OutProxy) (verdict : Result Asked HttpFault) → Kept p
    → Kept (now_at p (head_by p.role verdict).0)
head_kept p (Err fault) kept = kept
head_kept p (Ok request) kept =
    by_test (λ (r : OutProxy × Result HeadTaken HeadRefused). Kept (now_at p r.0))
    (nat_le request.length greatest_echo) (
      record (p.role) { answer = answers.EchoDue },
      Ok (record { behind = PassedOver; length = request.length }),
    ) (
      record (p.role) { request = Some request },
      Ok (record { behind = Frames; length = request.length }),
    )
    (λ t. kept) (λ t. kept)

pub step_kept : (p : Passage OutProxy) (move : Move) → Kept p → Kept (moved machine.rules p move)
step_kept p (Up leg cookie) kept =
    let up' : OutProxy = record (p.role) { client = clients.Up } in
    let first : OutProxy =
    record (p.role) { server = servers.FirstDue; answer = answers.ResponseDue } in
    by_test (λ (s : OutProxy). Kept (now_at p s)) (is_co p.role leg) up' first (λ t. kept)
    (λ t. kept)
step_kept p (HeadCame leg text) kept = head_kept p (request_verdict false text) kept
step_kept p (PduCame leg count pdu) kept =
    kept_taken p leg (Pdu pdu) (machine.pdu p.role leg count pdu) (pdu_keeps p.role leg count pdu)
    kept
step_kept p (PacketCame leg count m) kept =
    kept_taken p leg (Packet m) (machine.packet p.role leg count m)
    (packet_keeps p.role leg count m) kept
step_kept p (Puts leg) kept = kept_put p leg (putting.put p.role leg) (put_goes p.role leg) kept
step_kept p (IsDrawn leg) kept =
    let drawn' : OutProxy = record (p.role) { answer = answers.EchoDrawn } in
    by_test (λ (s : OutProxy). Kept (now_at p s)) (is_co p.role leg && is_echo_put p.role.answer)
    drawn' p.role (λ t. kept) (λ t. kept)
step_kept p (Marks leg) kept =
    let client : OutProxy = record (p.role) { client = clients.Marked } in
    let server : OutProxy = record (p.role) { server = servers.Marked } in
    by_test (λ (s : OutProxy). Kept (now_at p s)) (is_co p.role leg) client server (λ t. kept)
    (λ t. kept)
step_kept p (Pings leg) kept = kept

pub steps_kept : (p : Passage OutProxy) (moves : List Move) → Kept p
    → Kept (all_moved machine.rules p moves)
steps_kept p [] kept = kept
steps_kept p (move ∷ moves) kept =
    steps_kept (moved machine.rules p move) moves (step_kept p move kept)

pub all_read_back : (config : OutProxyConfig) (moves : List Move) → IsConfig config
    → ((pipe : Leg → Option Pipe) (log : List OnLeg) → AllMayGo pipe log
    → AllReadBack pipe log)
    → IsLegible pipe_put (all_moved machine.rules (started (new_proxy config)) moves)
all_read_back config moves own reads =
    kept_reads (all_moved machine.rules (started (new_proxy config)) moves) reads
    (steps_kept (started (new_proxy config)) moves (kept_starts config own))
