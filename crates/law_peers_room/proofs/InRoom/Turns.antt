-- a packet more waits in its turn
use Rattle.law_order.proofs.Vocabulary.{◌≡◌, ℕ, ◌+◌, ◌==◌, Bool, true, nat_lt, List, [], ◌∷◌, ◌++◌, append_assoc, Some, None, arith, refl, sym, ap, ◌∙◌, subst, and_parts, eqb-true, bytes_eq-Decides, bytes_eq, Option}
use Rattle.law_moves.proofs.Vocabulary.{by_test, Cookie, Named, AckTo, OutR1A8, Due, Packet, one_if, Key, key_of, are_one, better, edge_of, merged, takes, to_forward, OnLeg}
use Rattle.law_role_client.proofs.Vocabulary.{ci}
use Rattle.law_role_server.proofs.Vocabulary.{is_out_r1_a8}
use Rattle.law_peers_room.specs.InRoom.Waiting.{switches, CameBehind, IsInTurn, WaitFrom}

-- ---- keys

pub one_is : (a b : Option Key) → are_one a b ≡ true → a ≡ b
one_is None b e = absurd cc
one_is (Some a) None e = absurd cc
one_is (Some a) (Some b) e =
    let parts = and_parts (a.destination == b.destination) (bytes_eq a.channel.0 b.channel.0) e in
    let channel : a.channel.0 ≡ b.channel.0 =
    (bytes_eq-Decides a.channel.0 b.channel.0).0 parts.1 in
    let same : a.channel ≡ b.channel = ap (λ (bytes : List ℕ). record { 0 = bytes }) channel in
    ap (λ (n : ℕ). Some (record a { destination = n })) (eqb-true _ _ parts.0)
    ∙ ap (λ (c : Cookie). Some (record b { channel = c })) same

pub takes_same : (packet : Named) (due : Due) → takes packet due ≡ true
    → key_of due.packet ≡ key_of packet
takes_same packet due e = one_is (key_of due.packet) (key_of packet) e

-- a packet that is merged has the same key as before
pub better_key : (packet : Named) (due : Due) → takes packet due ≡ true
    → key_of (better due packet).packet ≡ key_of due.packet
better_key packet due e =
    by_test (λ (d : Due). key_of d.packet ≡ key_of due.packet)
    (nat_lt (edge_of packet) (edge_of due.packet)) due
    (record { packet = packet; origin = due.origin })
    (λ f. refl) (λ f. sym (takes_same packet due e))

-- ---- more that comes

pub behind_more : (often : ℕ) (channel : Cookie) (came : List OnLeg) (one : OnLeg)
    → CameBehind often channel came → CameBehind often channel (came ++ one ∷ [])
behind_more often channel came one h =
    let here : OnLeg = (ci h.number, Packet (AckTo 3 h.received h.available channel)) in
    record {
      before = h.before;
      later = h.later ++ one ∷ [];
      number = h.number;
      received = h.received;
      available = h.available;
      is = ap (λ (log : List OnLeg). log ++ one ∷ []) h.is
          ∙ append_assoc h.before (here ∷ h.later) (one ∷ []);
      behind = h.behind;
      near = h.near;
    }

pub turn_more : (often : ℕ) (came : List OnLeg) (one : OnLeg) (m : Named)
    → IsInTurn often came m → IsInTurn often (came ++ one ∷ []) m
turn_more often came one (AckTo to received available channel) h =
    (h.0, behind_more often channel came one h.1)
turn_more often came one (OutR1A8 to successor) h = tt
turn_more often came one m h = absurd h

-- it is no OUT_R1/A7
pub wait_more : (often : ℕ) (came : List OnLeg) (one : OnLeg) (dues : List Due)
    → switches (came ++ one ∷ []) ≡ switches came → WaitFrom often came dues
    → WaitFrom often (came ++ one ∷ []) dues
wait_more often came one [] same h = h ∙ sym same
wait_more often came one (due ∷ dues) same h = (
  turn_more often came one due.packet h.0,
  wait_more (often + one_if (is_out_r1_a8 due.packet)) came one dues same h.1,
)

-- ---- one more waits

-- behind the others
pub wait_pushed : (often : ℕ) (came : List OnLeg) (one : OnLeg) (dues : List Due) (m : Named)
    → ((k : ℕ) → k ≡ switches came → IsInTurn k (came ++ one ∷ []) m)
    → switches (came ++ one ∷ []) ≡ switches came + one_if (is_out_r1_a8 m)
    → WaitFrom often came dues → WaitFrom often (came ++ one ∷ []) (dues ++ to_forward m ∷ [])
wait_pushed often came one [] m is counts h =
    (is often h, omega (arith, h, counts))
wait_pushed often came one (due ∷ dues) m is counts h = (
  turn_more often came one due.packet h.0,
  wait_pushed (often + one_if (is_out_r1_a8 due.packet)) came one dues m is counts h.1,
)

-- or merged
module _ (came : List OnLeg) (received available : ℕ) (channel : Cookie) where
  abbrev ack : Named
  ack = AckTo 3 received available channel

  better_turn : (often : ℕ) (due : Due) → takes ack due ≡ true
      → IsInTurn often came due.packet
      → IsInTurn often came (better due ack).packet
      × (is_out_r1_a8 (better due ack).packet ≡ is_out_r1_a8 due.packet)
  better_turn often due e h =
      by_test (λ (d : Due). IsInTurn often came d.packet
      × (is_out_r1_a8 d.packet ≡ is_out_r1_a8 due.packet))
      (nat_lt (edge_of ack) (edge_of due.packet)) due
      (record { packet = ack; origin = due.origin }) (λ f. (h, refl))
      (λ f. by due.packet (takes_same ack due e) h)
    where
      channel_in : Option Key → Cookie
      channel_in None = channel
      channel_in (Some key) = key.channel

      by : (m : Named) → key_of m ≡ key_of ack → IsInTurn often came m
          → IsInTurn often came ack × (is_out_r1_a8 ack ≡ is_out_r1_a8 m)
      by (AckTo to r a of) same is =
          let alike : of ≡ channel = ap channel_in same in
          ((refl, subst (λ (c : Cookie). CameBehind often c came) alike is.1), refl)
      by (OutR1A8 to successor) same is = absurd cc
      by m same is = absurd is

  pub wait_merged : (often : ℕ) (dues : List Due) → WaitFrom often came dues
      → WaitFrom often came (merged dues ack)
  wait_merged often [] h = h
  wait_merged often (due ∷ dues) h =
      by_test (WaitFrom often came) (takes ack due) (better due ack ∷ dues)
      (due ∷ merged dues ack)
      (λ e. let both = better_turn often due e h.0 in
      (both.0, subst (λ (b : Bool). WaitFrom (often + one_if b) came dues) (sym both.1) h.1))
      (λ e. (h.0, wait_merged (often + one_if (is_out_r1_a8 due.packet)) dues h.1))
