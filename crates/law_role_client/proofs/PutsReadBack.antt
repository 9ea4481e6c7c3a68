-- what a client puts reads back: each message may go on its pipe, whatever moves came before
use Rattle.law_order.proofs.Vocabulary.{◌≡◌, ℕ, ◌+◌, ◌<◌, ◌^◌, ◌&&◌, Bool, true, false, if◌then◌else◌, List, [], ◌∷◌, Some, None, Ok, Err, inl, inr, arith, refl, AllByRecursion, Option}
use Rattle.rh_sig.specs.declared.named.Named.TheVariants as named
use Rattle.rh_client.specs.declared.replacement.InStage.TheVariants as in_stage
use Rattle.rh_client.specs.declared.replacement.OutStage.TheVariants as out_stage
use Rattle.rh_client.specs.Channels as channels
use Rattle.rh_client.specs.Putting as putting
use Rattle.law_moves.proofs.Vocabulary.{Ack, may_put, fits, by_test, IsPdu, Pipe, CiU, CoU, IsKeepalive, CONN_B1_LEN, IN_R1_A1_LEN, IN_R1_A5_LEN, OUT_R1_A7_LEN, END_A1_LEN, ACK_TO_LEN, PING_LEN, ClientConfig, each_push, channel_of, with_window, after_told, behind, front_length, Leg, LegKind, ClientOut, OutServer, ClientIn, InServer, Which, Current, Next, first_of, Row, Message, Pdu, Packet, OnLeg, Passage, EndPassage, EndMove, Up, HeadCame, PduCame, PacketCame, Puts, IsDrawn}
use Rattle.law_moves.proofs.Vocabulary.{Marks, Pings, Moves, Gives, Takes, Closes, Recycles, taken_by, given_by, with_first, end_moved, all_end_moved, MayGo, MayGoOn, AllMayGo, AllReadBack, AreLegible}
use Rattle.law_moves.specs.Moves as moves
use Rattle.law_role_client.proofs.Vocabulary.{Opening, NotUp, Request, First, Second, Put, Replacement, NoneUnderWay, In, Out, Waits, ClientRole, metered, is_writing, is_in_successor, is_current, is_out_successor, ack_due, cookie_of, handed_over, Given, give, take, Pick, or_else, conn_a1, conn_b1, in_r1_a1, out_r1_a3, begun_in, with_end_put, without_ping, put_in_r1_a5, put_out_r1_a7, put_by, put_conn_b1, put_in_r1_a1, put_current, put_out_successor, put_out, due_by, put_due}
use Rattle.law_role_client.proofs.Vocabulary.{ack_by, put_ack_of, put_ack, lets_pdu, put_pdu, is_end_due, put_end, put_ping, put_successor_ping, put_next, put_writing, put_in_successor, put_in, settled_pick, rules as client_rules, acts, packet, pdu, client_started, client_moved, IsCookie, IsConfig, HasCookies, HasCookie, HasCookieAtEnd, HaveCookies, pipe_to, pipe_put}
use Rattle.law_role_client.proofs.Saying.{said, IsSound, with_queue, with_line, channel_within, ack_due_is, IsAck, settled_sound, handed_sound, recycle_sound, take_sound, packet_sound, pdu_sound, up_sound, drawn_sound, ping_sound, give_sound, first_sound}

-- ---- what may go

-- a message that is picked may go on the pipe, and the client behind it is as before
abbrev IsPicked : Option Pipe → Pick → Type 0
IsPicked pipe None = Unit {0}
IsPicked pipe (Some pick) = IsSound (said pick.0) × MayGoOn pipe pick.1

or_picked : (pipe : Option Pipe) (p q : Pick) → IsPicked pipe p → IsPicked pipe q
    → IsPicked pipe (or_else p q)
or_picked pipe None q a b = b
or_picked pipe (Some pick) q a b = a

picked_if : (pipe : Option Pipe) (b : Bool) (f : ClientRole) (m : Message)
    → IsSound (said f) → MayGoOn pipe m → IsPicked pipe (if b then Some (f, m) else None)
picked_if pipe true f m l o = (l, o)
picked_if pipe false f m l o = tt

-- the packets that have no value
ping_goes : MayGo CiU named.Ping
ping_goes = record {
  fine = record { sizes = tt; ranges = tt; destination = tt };
  carried = (0, omega arith, refl);
}

end_goes : MayGo CiU named.EndA1
end_goes = record {
  fine = record { sizes = (tt, tt); ranges = (tt, tt); destination = tt };
  carried = (0, omega arith, refl);
}

c1_goes : MayGo CoU named.OutR2C1
c1_goes = record {
  fine = record { sizes = (tt, tt); ranges = (tt, tt); destination = tt };
  carried = (0, omega arith, refl);
}

-- ---- what a leg begins with

short_keepalive : (n : ℕ) → IsKeepalive n → n < 2 ^ 32
short_keepalive n (inl default) = omega (arith, default)
short_keepalive n (inr within) = omega (arith, within.1)

conn_b1_goes : (s : ClientRole) → IsSound (said s) → MayGo CiU (conn_b1 s)
conn_b1_goes s l =
    let config = l.config in
    let lifetime = config.lifetime in
    record {
      fine = record {
        sizes = (
          omega arith,
          (
            l.cookies.connection,
            (
              l.ins.0,
              (
                omega (arith, lifetime.1),
                (short_keepalive s.config.keepalive config.keepalive, (l.cookies.group, tt)),
              ),
            ),
          ),
        );
        ranges = (refl, (tt, (tt, (lifetime, (config.keepalive, (tt, tt))))));
        destination = tt;
      };
      carried = (0, omega arith, refl);
    }

in_r1_a1_goes : (s : ClientRole) → IsSound (said s) → MayGo CiU (in_r1_a1 s)
in_r1_a1_goes s l = record {
  fine = record {
    sizes = (omega arith, (l.cookies.connection, (l.ins.0, (l.ins.1, tt))));
    ranges = (refl, (tt, (tt, (tt, tt))));
    destination = tt;
  };
  carried = (0, omega arith, refl);
}

conn_a1_goes : (s : ClientRole) → IsSound (said s) → MayGo CoU (conn_a1 s)
conn_a1_goes s l =
    let window = l.config.window in
    let greatest = window.greatest in
    record {
      fine = record {
        sizes = (omega arith, (l.cookies.connection, (l.outs.0, (omega (arith, greatest), tt))));
        ranges = (refl, (tt, (tt, (window, tt))));
        destination = tt;
      };
      carried = (0, omega arith, refl);
    }

out_r1_a3_goes : (s : ClientRole) → IsSound (said s) → MayGo CoU (out_r1_a3 s)
out_r1_a3_goes s l =
    let window = l.config.window in
    let greatest = window.greatest in
    record {
      fine = record {
        sizes = (
          omega arith,
          (
            l.cookies.connection,
            (
              l.outs.0,
              (
                l.outs.1,
                (omega (arith, greatest), tt),
              ),
            ),
          ),
        );
        ranges = (refl, (tt, (tt, (tt, (window, tt)))));
        destination = tt;
      };
      carried = (0, omega arith, refl);
    }

-- ---- OUT channels

current_picked : (s : ClientRole) (o : Opening) → IsSound (said s)
    → IsPicked (Some CoU) (put_current s o)
unfolding put_current
current_picked s NotUp l = tt
current_picked s Request l = (l, tt)
current_picked s First l = (l, conn_a1_goes s l)
current_picked s Second l = tt
current_picked s Put l = tt

out_successor_picked : (s : ClientRole) (o : Opening) → IsSound (said s)
    → IsPicked (Some CoU) (put_out_successor s o)
unfolding put_out_successor
out_successor_picked s NotUp l = tt
out_successor_picked s Request l = (l, tt)
out_successor_picked s First l = (l, out_r1_a3_goes s l)
out_successor_picked s Second l = (l, c1_goes)
out_successor_picked s Put l = tt

out_picked : (s : ClientRole) (n : ℕ) → IsSound (said s) → IsPicked (Some CoU) (put_out s n)
unfolding put_out
out_picked s n l =
    by_test (IsPicked (Some CoU)) (is_current s n) (put_current s s.current.opening)
    (if is_out_successor s n then put_out_successor s s.out_successor.opening else None)
    (λ e. current_picked s s.current.opening l)
    (λ e. by_test (IsPicked (Some CoU)) (is_out_successor s n)
    (put_out_successor s s.out_successor.opening) None
    (λ o. out_successor_picked s s.out_successor.opening l) (λ o. tt))

-- ---- IN channels

a5_picked : (s : ClientRole) (w : Bool) → IsSound (said s)
    → IsPicked (Some CiU) (put_in_r1_a5 s w)
a5_picked s w l =
    picked_if (Some CiU) (fits s.writing.meter IN_R1_A5_LEN) (handed_over s w)
    (Packet (named.InR1A5 s.in_successor.cookie)) (handed_sound s w l)
    (record {
      fine = record { sizes = (l.ins.1, tt); ranges = (tt, tt); destination = tt };
      carried = (0, omega arith, refl);
    })

a7_picked : (s : ClientRole) (w : Waits) → IsSound (said s)
    → IsPicked (Some CiU) (put_out_r1_a7 s w)
a7_picked s w l =
    let f : ClientRole = record s {
      writing = metered s.writing OUT_R1_A7_LEN;
      replacement = Out out_stage.Switched w;
    } in
    picked_if (Some CiU) (fits s.writing.meter OUT_R1_A7_LEN) f
    (Packet (named.OutR1A7 2 s.out_successor.cookie)) l
    (record {
      fine = record {
        sizes = (omega arith, (l.outs.1, tt));
        ranges = (tt, (tt, tt));
        destination = omega arith;
      };
      carried = (0, omega arith, refl);
    })

due_picked : (s : ClientRole) (r : Replacement) → IsSound (said s)
    → IsPicked (Some CiU) (due_by s r)
due_picked s NoneUnderWay l = tt
due_picked s (In in_stage.Asked w) l = tt
due_picked s (In in_stage.Answered w) l = a5_picked s w l
due_picked s (Out out_stage.Asked w) l = tt
due_picked s (Out out_stage.Answered w) l = a7_picked s w l
due_picked s (Out out_stage.Switched w) l = tt
due_picked s (Out out_stage.Finished w) l = tt

cookie_is : (s : ClientRole) (which : Which) → IsSound (said s) → IsCookie (cookie_of s which)
cookie_is s Current l = l.outs.0
cookie_is s Next l = l.outs.1

ack_picked : (s : ClientRole) (which : Which) (ack : Option Ack)
    → IsAck (channel_of s.line which).window ack → IsSound (said s)
    → IsPicked (Some CiU) (ack_by s which ack)
ack_picked s which None is l = tt
ack_picked s which (Some ack) is l =
    let c = channel_of s.line which in
    picked_if (Some CiU) (may_put s.writing.meter ACK_TO_LEN)
    (record s {
      line = after_told s.line which ack;
      writing = metered s.writing ACK_TO_LEN;
    })
    (Packet (named.AckTo 3 ack.received ack.available (cookie_of s which)))
    (with_line s (after_told s.line which ack)
    (channel_within s.line which
    (with_window c (record (c.window) { told = ack.received + ack.available })) is.2 l.windows) l)
    (record {
      fine = record {
        sizes = (omega arith, ((is.0, is.1, cookie_is s which l), tt));
        ranges = (tt, (tt, tt));
        destination = omega arith;
      };
      carried = (0, omega arith, refl);
    })

put_ack_picked : (s : ClientRole) → IsSound (said s) → IsPicked (Some CiU) (put_ack s)
unfolding put_ack put_ack_of
put_ack_picked s l =
    or_picked (Some CiU) (ack_by s Current (ack_due s Current)) (ack_by s Next (ack_due s Next))
    (ack_picked s Current (ack_due s Current) (ack_due_is s Current l) l)
    (ack_picked s Next (ack_due s Next) (ack_due_is s Next l) l)

-- the front PDU, and those behind it
front_pdu : (queue : List (List ℕ)) (len : ℕ) → front_length queue ≡ Some len
    → AllByRecursion IsPdu queue → IsPdu (first_of queue) × AllByRecursion IsPdu (behind queue)
front_pdu [] len e all = absurd (cc)
front_pdu (pdu ∷ pdus) len e all = all

pdu_picked : (s : ClientRole) (len : Option ℕ) → front_length s.queue ≡ len
    → IsSound (said s) → IsPicked (Some CiU) (putting.pdu_by s len)
pdu_picked s None e l = tt
pdu_picked s (Some len) e l =
    let front = front_pdu s.queue len e l.queue in
    picked_if (Some CiU) (lets_pdu s len)
    (record s { queue = behind s.queue; writing = channels.sent s.writing len })
    (Pdu (first_of s.queue)) (with_queue (said s) (behind s.queue) front.1 l) front.0

next_picked : (s : ClientRole) → IsSound (said s) → IsPicked (Some CiU) (put_next s)
unfolding put_next put_due put_pdu put_end put_ping
next_picked s l =
    let pipe = Some CiU in
    or_picked pipe (due_by s s.replacement) _ (due_picked s s.replacement l)
    (or_picked pipe (put_ack s) _ (put_ack_picked s l)
    (or_picked pipe (putting.pdu_by s (front_length s.queue)) _
    (pdu_picked s (front_length s.queue) refl l)
    (or_picked pipe _ _
    (picked_if pipe (is_end_due s && fits s.writing.meter END_A1_LEN)
    (record s { writing = with_end_put (metered s.writing END_A1_LEN) }) (Packet named.EndA1) l
    end_goes)
    (picked_if pipe (s.writing.is_ping_due && may_put s.writing.meter PING_LEN)
    (record s { writing = without_ping (metered s.writing PING_LEN) }) (Packet named.Ping) l
    ping_goes))))

writing_picked : (s : ClientRole) (o : Opening) → IsSound (said s)
    → IsPicked (Some CiU) (put_writing s o)
unfolding put_writing put_conn_b1
writing_picked s NotUp l = tt
writing_picked s Request l = (l, tt)
writing_picked s First l =
    picked_if (Some CiU) (may_put s.writing.meter CONN_B1_LEN)
    (record s { writing = begun_in (metered s.writing CONN_B1_LEN) Put }) (Packet (conn_b1 s)) l
    (conn_b1_goes s l)
writing_picked s Second l = tt
writing_picked s Put l = next_picked s l

in_successor_picked : (s : ClientRole) (o : Opening) → IsSound (said s)
    → IsPicked (Some CiU) (put_in_successor s o)
unfolding put_in_successor put_in_r1_a1 put_successor_ping
in_successor_picked s NotUp l = tt
in_successor_picked s Request l = (l, tt)
in_successor_picked s First l =
    picked_if (Some CiU) (may_put s.in_successor.meter IN_R1_A1_LEN)
    (record s { in_successor = begun_in (metered s.in_successor IN_R1_A1_LEN) Put })
    (Packet (in_r1_a1 s)) l (in_r1_a1_goes s l)
in_successor_picked s Second l = tt
in_successor_picked s Put l =
    picked_if (Some CiU) (s.in_successor.is_ping_due && may_put s.in_successor.meter PING_LEN)
    (record s { in_successor = without_ping (metered s.in_successor PING_LEN) })
    (Packet named.Ping) l ping_goes

in_picked : (s : ClientRole) (n : ℕ) → IsSound (said s) → IsPicked (Some CiU) (put_in s n)
unfolding put_in
in_picked s n l =
    by_test (IsPicked (Some CiU)) (is_writing s n) (put_writing s s.writing.opening)
    (if is_in_successor s n then put_in_successor s s.in_successor.opening else None)
    (λ e. writing_picked s s.writing.opening l)
    (λ e. by_test (IsPicked (Some CiU)) (is_in_successor s n)
    (put_in_successor s s.in_successor.opening) None
    (λ o. in_successor_picked s s.in_successor.opening l) (λ o. tt))

put_picked : (s : ClientRole) (n : ℕ) (k : LegKind) → IsSound (said s)
    → IsPicked (pipe_to k) (put_by s n k)
unfolding put_by
put_picked s n ClientOut l = out_picked s n l
put_picked s n ClientIn l = in_picked s n l
put_picked s n OutServer l = tt
put_picked s n InServer l = tt

-- ---- moves

abbrev Holds : Passage ClientRole → Type 0
Holds p = IsSound (said p.role) × AllMayGo pipe_put p.put

taken_holds : (p : Passage ClientRole) (leg : Leg) (m : Message) (row : ClientRole × Row)
    → IsSound (said row.0) × AllMayGo pipe_put p.put → Holds (taken_by p leg m row)
taken_holds p leg m (role, Ok took) l = l
taken_holds p leg m (role, Err refused) l = l

put_holds : (p : Passage ClientRole) (leg : Leg) (pick : Pick) → IsPicked (pipe_put leg) pick
    → Holds p → Holds (moves.put_by p leg (settled_pick pick))
put_holds p leg None o l = l
put_holds p leg (Some (f, m)) o l = (
  settled_sound f o.0,
  each_push (λ (one : OnLeg). MayGoOn (pipe_put one.0) one.1) p.put (leg, m) l.1 o.1,
)

move_holds : (p : Passage ClientRole) (move : moves.Move) → HasCookie move → Holds p
    → Holds (moves.moved client_rules p move)
move_holds p (Up leg cookie) h l =
    (up_sound p.role leg.number cookie leg.kind h l.0, l.1)
move_holds p (HeadCame leg text) h l = l
move_holds p (PduCame leg count bytes) h l =
    taken_holds p leg (Pdu bytes) (pdu p.role leg count bytes)
    (pdu_sound p.role leg.number bytes leg.kind l.0, l.1)
move_holds p (PacketCame leg count named) h l =
    taken_holds p leg (Packet named) (packet p.role leg count named)
    (packet_sound p.role leg.number count named leg.kind l.0, l.1)
move_holds p (Puts leg) h l =
    put_holds p leg (put_by p.role leg.number leg.kind)
    (put_picked p.role leg.number leg.kind l.0) l
move_holds p (IsDrawn leg) h l = (drawn_sound p.role leg.number leg.kind l.0, l.1)
move_holds p (Marks leg) h l = l
move_holds p (Pings leg) h l = (ping_sound p.role leg.number leg.kind l.0, l.1)

given_holds : (p : EndPassage ClientRole) (bytes : List ℕ) (x : Given)
    → IsSound (said x.0) × AllMayGo pipe_put p.passage.put → Holds (given_by p bytes x).passage
given_holds p bytes (role, Ok accepted) l = l
given_holds p bytes (role, Err refused) l = l

first_holds : (p : EndPassage ClientRole) (pdus : List (List ℕ)) → Holds p.passage
    → Holds (with_first p pdus).passage
first_holds p [] l = l
first_holds p (pdu ∷ pdus) l = l

end_holds : (p : EndPassage ClientRole) (move : EndMove) → HasCookieAtEnd move
    → Holds p.passage → Holds (end_moved client_rules acts p move).passage
end_holds p (Moves move) h l = move_holds p.passage move h l
end_holds p (Gives bytes) h l =
    given_holds p bytes (give p.passage.role bytes) (give_sound p.passage.role bytes l.0, l.1)
end_holds p Takes h l =
    first_holds (moves.end_now_at p (take p.passage.role)) p.passage.role.line.current.pdus
    (take_sound p.passage.role l.0, l.1)
end_holds p Closes h l = l
end_holds p Recycles h l = (recycle_sound p.passage.role p.passage.role.replacement l.0, l.1)

all_hold : (p : EndPassage ClientRole) (all : List EndMove) → HaveCookies all
    → Holds p.passage → Holds (all_end_moved client_rules acts p all).passage
all_hold p [] h l = l
all_hold p (move ∷ all) h l =
    all_hold (end_moved client_rules acts p move) all h.1 (end_holds p move h.0 l)

-- ---- the law

pub puts_read_back : ((pipe : Leg → Option Pipe) (log : List OnLeg) → AllMayGo pipe log
    → AllReadBack pipe log) → (config : ClientConfig) (all : List EndMove)
    → IsConfig config → HasCookies config → HaveCookies all
    → AreLegible pipe_put (client_moved config all).passage.put
puts_read_back law config all fine sized cookies =
    let holds = all_hold (client_started config) all cookies (first_sound config fine sized, tt) in
    record {
      may_go = holds.1;
      read_back = law pipe_put (client_moved config all).passage.put holds.1;
    }
