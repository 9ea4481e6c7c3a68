-- where few wait at an out proxy, nothing is refused for want of room
use Rattle.law_order.proofs.Vocabulary.{◌≡◌, ℕ, suc, ◌+◌, ◌≤◌, ◌==◌, ◌&&◌, nat_lt, Bool, true, false, if◌then◌else◌, List, [], ◌∷◌, ◌++◌, length, refl, subst, arith, rules, nat_tests, count_by-le-length, AllByRecursion, list_any}
use Rattle.rh_sig.specs.declared.named.Named.TheVariants as named
use Rattle.rh_shell.specs.Waiting.{is_of}
use Rattle.rh_shell.specs.Waiting as waits
use Rattle.rh_outproxy.specs.declared.state.Channel.TheVariants as channels
use Rattle.law_moves.proofs.Vocabulary.{by_test, Cookie, TO_OUT_PROXY, Named, Leg, Count, Due, Forwarded, FORWARDED_ROOM, Message, Packet, Waiting, count, merged, pushed, takes, to_forward, with_due, Passage, count_of, is_conn_c2, is_out_r1_a2, is_out_r1_a6}
use Rattle.law_role_client.proofs.Vocabulary.{is_in_a4}
use Rattle.law_role_outproxy.proofs.Vocabulary.{Channel, OutProxy, is_client_marked, Done, is_co, is_os, is_carrying, taken, unexpected, forwarded, forwarded_by, passed_on, conn_c1_by, on_ack, on_ack_to, on_end_b1, on_out_r1_a9, packet, on_co, on_os}
use Rattle.law_peers_room.proofs.InRoom.Full.{IsNotFull as HasPlace}
use Rattle.law_peers_room.specs.OutRoom.Room.{HasRoom, PassOneByOne}
use Rattle.law_peers_room.specs.OutRoom.Waits.{IsForwarded, IsToForward, WaitsInOrder, cookie_in, cookies_in, packets_of, waiting_at}

-- ---- how many wait

-- all, of each kind and for each channel
all_kinds : (dues : List Due) → AllByRecursion IsToForward dues
    → length dues
    ≡ count_of is_conn_c2 (packets_of dues) + count_of is_in_a4 (packets_of dues)
    + count_of is_out_r1_a2 (packets_of dues) + count_of is_out_r1_a6 (packets_of dues)
    + length (cookies_in dues)
all_kinds [] each = refl
all_kinds (due ∷ dues) each = by due.packet each.0 (all_kinds dues each.1)
  where
    ms : List Message
    ms = packets_of dues

    by : (m : Named) → IsForwarded m
        → length dues
        ≡ count_of is_conn_c2 ms + count_of is_in_a4 ms + count_of is_out_r1_a2 ms
        + count_of is_out_r1_a6 ms + length (cookies_in dues)
        → suc (length dues)
        ≡ count_of is_conn_c2 (Packet m ∷ ms) + count_of is_in_a4 (Packet m ∷ ms)
        + count_of is_out_r1_a2 (Packet m ∷ ms) + count_of is_out_r1_a6 (Packet m ∷ ms)
        + length (cookie_in m ++ cookies_in dues)
    by (named.ConnC2 version window timeout) is rest = omega (arith, rest)
    by (named.InR1A4 to version window timeout) is rest = omega (arith, rest)
    by (named.InR2A4 to) is rest = omega (arith, rest)
    by (named.OutR1A2 to) is rest = omega (arith, rest)
    by (named.OutR1A6 to version timeout) is rest = omega (arith, rest)
    by (named.AckTo to received available of) is rest = omega (arith, rest)
    by m is rest = absurd is

pub few_in_all : (n : ℕ) (p : Passage OutProxy) → WaitsInOrder n p → PassOneByOne n p
    → length (cookies_in (waiting_at p)) ≤ 10 → length (waiting_at p) ≤ 14
few_in_all n p order singly acks =
    let all = all_kinds (waiting_at p) order.each in
    let connection = order.connection in
    let ins = order.ins in
    let wishes = order.wishes in
    let answers = order.answers in
    let one_connection = singly.connection in
    let one_in = singly.ins in
    let one_wish = singly.wishes in
    let one_answer = singly.answers in
    omega (
      arith,
      all,
      acks,
      connection,
      ins,
      wishes,
      answers,
      one_connection,
      one_in,
      one_wish,
      one_answer,
    )

-- ---- rows

client_place : (s : OutProxy) (number : Count) (m : Named) → HasPlace (on_co s number m).1
client_place s number m = search rules

own_place : (s : OutProxy) (received available : ℕ) (cookie : Cookie)
    → HasPlace (on_ack s received available cookie).1
own_place s received available cookie = search rules

handover_place : (s : OutProxy) → HasPlace (on_out_r1_a9 s).1
handover_place s = search rules

end_place : (s : OutProxy) → HasPlace (on_end_b1 s).1
end_place s = search rules

module _ (s : OutProxy) (room : s.waiting.room ≡ FORWARDED_ROOM)
    (few : length s.waiting.due ≤ 14) where
  forwarded_place : (m : Named) → HasPlace (forwarded s m).1
  forwarded_place m =
      by_test (λ (x : Done). HasPlace x.1) (is_client_marked s.client) (taken s)
      (forwarded_by s (waits.forwarded s.waiting m)) (λ e. tt)
      (λ e. by_test Fits (list_any (takes m) s.waiting.due)
      (with_due s.waiting (merged s.waiting.due m), true) _ (λ f. tt)
      (λ f. by_test Fits (nat_lt (count Forwarded s.waiting.due) s.waiting.room)
      (pushed s.waiting (to_forward m), true) (s.waiting, false) (λ g. tt)
      (λ g. absurd (full g))))
    where
      Fits : Waiting × Bool → Type 0
      Fits r = HasPlace (forwarded_by s r).1

      full : nat_lt (count Forwarded s.waiting.due) s.waiting.room ≡ false → ⊥
      full e =
          let most = count_by-le-length (is_of Forwarded) s.waiting.due in
          let reached : s.waiting.room ≤ count Forwarded s.waiting.due
          = grind (arith, nat_tests, e) in
          omega (arith, most, reached, few, room)

  passed_place : (to : ℕ) (m : Named) → HasPlace (passed_on s to m).1
  passed_place to m =
      by_test (λ (x : Done). HasPlace x.1) (is_carrying s && (to == 0)) (forwarded s m)
      (unexpected s) (λ e. forwarded_place m) (λ e. tt)

  ack_place : (to received available : ℕ) (cookie : Cookie)
      → HasPlace (on_ack_to s to received available cookie).1
  ack_place to received available cookie =
      by_test (λ (x : Done). HasPlace x.1) (to == TO_OUT_PROXY)
      (on_ack s received available cookie)
      (passed_on s to (named.AckTo 0 received available cookie))
      (λ e. own_place s received available cookie)
      (λ e. passed_place to (named.AckTo 0 received available cookie))

c1_place : (s : OutProxy) → s.waiting.room ≡ FORWARDED_ROOM → length s.waiting.due ≤ 14
    → (c : Channel) (version size timeout : ℕ) → HasPlace (conn_c1_by c s version size timeout).1
c1_place s room few channels.Unknown version size timeout = tt
c1_place s room few (channels.New connection cookie) version size timeout =
    forwarded_place (record s { channel = channels.Joined connection cookie }) room few
    (named.ConnC2 version size timeout)
c1_place s room few (channels.Joined connection cookie) version size timeout = tt
c1_place s room few (channels.Successor connection predecessor cookie) version size timeout = tt

module _ (s : OutProxy) (room : s.waiting.room ≡ FORWARDED_ROOM)
    (few : length s.waiting.due ≤ 14) where
  server_place : (m : Named) → HasPlace (on_os s m).1
  server_place (named.ConnC1 version size timeout) =
      c1_place s room few s.channel version size timeout
  server_place (named.AckTo to received available cookie) =
      ack_place s room few to received available cookie
  server_place (named.InR1A3 to version size timeout) =
      passed_place s room few to (named.InR1A4 0 version size timeout)
  server_place (named.InR2A3 to) = passed_place s room few to (named.InR2A4 0)
  server_place (named.OutR1A1 to) = passed_place s room few to (named.OutR1A2 0)
  server_place (named.OutR1A5 to version timeout) =
      passed_place s room few to (named.OutR1A6 0 version timeout)
  server_place named.OutR1A9 = handover_place s
  server_place named.EndB1 = end_place s
  server_place m = tt

  packet_place : (leg : Leg) (number : Count) (m : Named) → HasPlace (packet s leg number m).1
  packet_place leg number m =
      by_test (λ (x : Done). HasPlace x.1) (is_co s leg) (on_co s number m)
      (if is_os s leg then on_os s m else unexpected s) (λ e. client_place s number m)
      (λ e. by_test (λ (x : Done). HasPlace x.1) (is_os s leg) (on_os s m) (unexpected s)
      (λ f. server_place m) (λ f. tt))

pub has_room : (p : Passage OutProxy) → p.role.waiting.room ≡ FORWARDED_ROOM
    → length (waiting_at p) ≤ 14 → HasRoom p
has_room p room few = record {
  waits = few;
  packet = λ leg full number m e.
      subst HasPlace e (packet_place p.role room few leg number m);
}
