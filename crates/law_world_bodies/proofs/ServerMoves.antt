-- what a server puts on its OUT legs is within the lifetimes that were told there, whatever moves
-- came
use Rattle.law_order.proofs.Vocabulary.{◌≡◌, ℕ, ◌+◌, ◌≤◌, ◌==◌, ◌&&◌, Bool, true, false, List, [], ◌∷◌, ◌++◌, Some, None, Ok, Err, arith, rules, refl, sym, ◌∙◌, subst, IfSome, Option, Result, and_parts, fun_ext}
use Rattle.rh_server.specs.Servers.{pdu_by}
use Rattle.rh_server.specs.declared.state.Leaving.TheVariants as leaving
use Rattle.rh_server.specs.declared.state.Tells.TheVariants as tells
use Rattle.rh_server.specs.Putting as putting
use Rattle.rh_server.specs.Servers as server
use Rattle.law_moves.proofs.Vocabulary.{Ack, by_test, change_here, change_other, other_number, same_number, test_other, Named, LegKind, ClientOut, OutServer, ClientIn, InServer, Count, GiveRefused, Message, Text, Pdu, Packet, OnLeg, Passage, EndPassage, EndMove, Up, HeadCame, PduCame, PacketCame, Puts, IsDrawn, Marks, Pings, Moves, Gives, Takes, Closes, Recycles, all_end_moved, end_moved, end_now_at, end_started, given_by, put_by, taken_by, with_first, of_leg}
use Rattle.law_moves.specs.Moves as moves
use Rattle.law_role_server.proofs.Vocabulary.{InLeg, Leaving, Tells, Server, in_leg, is_due, is_open, is_waiting, out_place, removed_at, stays, without_in, without_out, Done, has_room, may_up_by, out_leg_up, up_by, take, drawn_by, give, in_is_drawn, lost_in, mark_by, settled, with_ack_dropped, Pick, ack_due, or_else, put_ack, put_ack_by, put_b1, put_b1_by, put_in_by, put_in_greeting, put_tells, put_tells_by, told_by, was_current, acts, first, on_is, on_os, packet, packet_by}
use Rattle.law_role_server.proofs.Vocabulary.{pdu}
use Rattle.law_role_outproxy.proofs.Counted.OutProxyOwes.{os_at as os}
use Rattle.law_world_bodies.proofs.OutMoves.{passes, sum, sum_here, sum_other}
use Rattle.law_world_bodies.proofs.OutLegs.{Amounts, AreRoomy, push_roomy, remove_roomy}
use Rattle.law_world_bodies.proofs.ServerSame.{Outs, give_same, outs_of, pdu_same, recycle_same, settled_same, take_same}
use Rattle.law_world_bodies.proofs.ServerRooms.{AreWithin, Roomy, RowKeeps, allows, bump, is_keeps, os_keeps, out_keeps}

-- what a message from an out proxy allows
abbrev pub allowing : Message → ℕ
allowing (Text text) = 0
allowing (Pdu pdu) = 0
allowing (Packet packet) = allows packet

-- by the number of an OUT leg
abbrev amounts : (Message → ℕ) → List OnLeg → Amounts
amounts f log = λ n. sum f (of_leg (os n) log)

-- one message more there
on_leg : (f : Message → ℕ) (log : List OnLeg) (k : ℕ) (m : Message)
    → amounts f (log ++ (os k, m) ∷ []) ≡ bump k (f m) (amounts f log)
on_leg f log k m = fun_ext (λ n. by n (n == k) refl)
  where
    by : (n : ℕ) (t : Bool) → (n == k) ≡ t
        → amounts f (log ++ (os k, m) ∷ []) n ≡ bump k (f m) (amounts f log) n
    by n true e =
        let is = same_number n k e in
        subst (λ (j : ℕ). amounts f (log ++ (os k, m) ∷ []) j ≡ bump k (f m) (amounts f log) j)
        (sym is)
        (sum_here f (os k) (os k) log m refl
        ∙ sym (change_here k (λ (x : ℕ). x + f m) (amounts f log)))
    by n false e =
        let other = other_number n k e in
        sum_other f (os k) (os n) log m (test_other k n (λ same. other (sym same)))
        ∙ sym (change_other k (λ (x : ℕ). x + f m) (amounts f log) n other)

-- on a leg of another kind
off_leg : (f : Message → ℕ) (log : List OnLeg) (k : ℕ) (m : Message)
    → amounts f (log ++ (record { kind = InServer; number = k }, m) ∷ []) ≡ amounts f log
off_leg f log k m =
    fun_ext (λ n. sum_other f (record { kind = InServer; number = k }) (os n) log m refl)

abbrev Holds : Passage Server → Type 0
Holds p = Roomy (amounts passes p.put) (amounts allowing p.came) p.role

-- ---- rows

os_row : (p : Passage Server) (n : ℕ) (m : Message) (row : Done)
    → RowKeeps (amounts passes p.put) (amounts allowing p.came) n (allowing m) row
    → Holds (taken_by p (os n) m row)
os_row p n m (s, Ok taken) k =
    subst (λ (may : Amounts). Roomy (amounts passes p.put) may s) (sym (on_leg allowing p.came n m))
    k
os_row p n m (s, Err why) k = k

is_row : (p : Passage Server) (n : ℕ) (m : Message) (row : Done)
    → Roomy (amounts passes p.put) (amounts allowing p.came) row.0
    → Holds (taken_by p (record { kind = InServer; number = n }) m row)
is_row p n m (s, Ok taken) k =
    subst (λ (may : Amounts). Roomy (amounts passes p.put) may s)
    (sym (off_leg allowing p.came n m)) k
is_row p n m (s, Err why) k = k

packet_holds : (p : Passage Server) (n : ℕ) (kind : LegKind) (count : Count) (packet : Named)
    → Holds p
    → Holds (taken_by p (record { kind = kind; number = n }) (Packet packet)
    (packet_by p.role n count packet kind))
packet_holds p n OutServer count packet k =
    os_row p n (Packet packet) (on_os p.role n count packet)
    (os_keeps (amounts passes p.put) (amounts allowing p.came) p.role n count packet k)
packet_holds p n InServer count packet k =
    is_row p n (Packet packet) (on_is p.role n count packet)
    (is_keeps (amounts passes p.put) (amounts allowing p.came) p.role n count packet k)
packet_holds p n ClientIn count packet k = k
packet_holds p n ClientOut count packet k = k

pdu_holds : (p : Passage Server) (n : ℕ) (kind : LegKind) (bytes : List ℕ) → Holds p
    → Holds (taken_by p (record { kind = kind; number = n }) (Pdu bytes)
    (pdu_by p.role n bytes kind))
pdu_holds p n InServer bytes k =
    is_row p n (Pdu bytes) (pdu_by p.role n bytes InServer)
    (subst (AreWithin (amounts passes p.put) (amounts allowing p.came))
    (sym (pdu_same p.role n bytes)) k)
pdu_holds p n OutServer bytes k = k
pdu_holds p n ClientIn bytes k = k
pdu_holds p n ClientOut bytes k = k

-- ---- puts

-- on an is leg nothing changes of the OUT legs
abbrev Same : Server → Pick → Type 0
Same s pick = IfSome pick (λ (next : Server × Message). outs_of next.0 ≡ outs_of s)

or_same : (s : Server) (a b : Pick) → Same s a → Same s b → Same s (or_else a b)
or_same s None b h k = k
or_same s (Some pick) b h k = h

told_same : (s : Server) (n : ℕ) → outs_of (told_by s n) ≡ outs_of s
told_same s n = search rules

tells_same : (s : Server) (leg : InLeg) (t : Tells) → Same s (put_tells_by s leg t)
tells_same s leg tells.Nothing = tt
tells_same s leg tells.ConnB3 = by_test (Same s) (is_open s.stage) _ None (λ e. refl) (λ e. tt)
tells_same s leg tells.InR1B2 =
    by_test (Same s) (was_current s leg) _ None (λ e. told_same s leg.number) (λ e. tt)

b1_same : (s : Server) (leg : InLeg) (l : Leaving) → Same s (put_b1_by s leg l)
b1_same s leg leaving.Stays = tt
b1_same s leg leaving.InR1B1 = refl
b1_same s leg leaving.Left = tt
b1_same s leg leaving.Lost = tt

ack_same : (s : Server) (ack : Option Ack) → Same s (put_ack_by s ack)
ack_same s None = tt
ack_same s (Some ack) = refl

in_same : (s : Server) (leg : Option InLeg) → Same s (put_in_by s leg)
in_same s None = tt
in_same s (Some leg) =
    or_same s (put_in_greeting s leg) _
    (by_test (Same s) (is_due leg.greeting) _ None (λ e. refl) (λ e. tt))
    (or_same s (put_tells s leg) _ (tells_same s leg leg.tells)
    (or_same s (put_b1 s leg) (put_ack s leg) (b1_same s leg leg.leaving)
    (ack_same s (ack_due s leg))))

put_on_out : (p : Passage Server) (n : ℕ) (pick : Pick)
    → IfSome pick (λ (next : Server × Message).
    Roomy (bump n (passes next.1) (amounts passes p.put)) (amounts allowing p.came) next.0)
    → Holds p → Holds (put_by p (os n) pick)
put_on_out p n None next k = k
put_on_out p n (Some pick) next k =
    subst (λ (put : Amounts). Roomy put (amounts allowing p.came) pick.0)
    (sym (on_leg passes p.put n pick.1)) next

put_on_in : (p : Passage Server) (n : ℕ) (pick : Pick) → Same p.role pick → Holds p
    → Holds (put_by p (record { kind = InServer; number = n }) pick)
put_on_in p n None e k = k
put_on_in p n (Some pick) e k =
    subst (λ (put : Amounts). Roomy put (amounts allowing p.came) pick.0)
    (sym (off_leg passes p.put n pick.1))
    (subst (AreWithin (amounts passes p.put) (amounts allowing p.came)) (sym e) k)

put_holds : (p : Passage Server) (n : ℕ) (kind : LegKind) → Holds p
    → Holds (put_by p (record { kind = kind; number = n }) (putting.put_by p.role n kind))
put_holds p n InServer k =
    put_on_in p n (putting.put_in p.role n) (in_same p.role (in_leg n p.role.ins)) k
put_holds p n OutServer k =
    put_on_out p n (putting.put_out p.role n)
    (out_keeps (amounts passes p.put) (amounts allowing p.came) p.role n
    (out_place n p.role.outs) refl k) k
put_holds p n ClientIn k = k
put_holds p n ClientOut k = k

-- ---- legs come up and are lost

module _ (put may : Amounts) where
  up_holds : (s : Server) (n : ℕ) (kind : LegKind) → may_up_by s n kind ≡ true → Roomy put may s
      → Roomy put may (up_by s n kind)
  up_holds s n OutServer e k =
      let is : n ≡ s.newest_out + 1 = same_number n (s.newest_out + 1)
      (and_parts (n == s.newest_out + 1) (has_room s.outs) e).0 in
      let fits = k.all n in
      record {
        legs =
            subst (λ (j : ℕ).
            AreRoomy put may 0 j (s.outs ++ out_leg_up n ∷ [])) (sym is)
            (push_roomy put may 0 s.newest_out s.outs (out_leg_up n) is (omega (arith, fits))
            k.legs);
        all = k.all;
      }
  up_holds s n InServer e k = k
  up_holds s n ClientIn e k = k
  up_holds s n ClientOut e k = k

  settled_holds : (s : Server) → Roomy put may s → Roomy put may (settled s)
  settled_holds s k = subst (AreWithin put may) (sym (settled_same s)) k

  drawn_holds : (s : Server) (n : ℕ) (kind : LegKind) → Roomy put may s
      → Roomy put may (drawn_by s n kind)
  drawn_holds s n InServer k =
      by_test (Roomy put may) (in_is_drawn (in_leg n s.ins)) (settled (without_in s n)) s
      (λ e. settled_holds (without_in s n) k) (λ e. k)
  drawn_holds s n OutServer k = k
  drawn_holds s n ClientIn k = k
  drawn_holds s n ClientOut k = k

  removed_holds : (s : Server) (place : Option ℕ) → Roomy put may s
      → Roomy put may (record s { outs = removed_at s.outs place })
  removed_holds s None k = k
  removed_holds s (Some place) k =
      record { legs = remove_roomy put may 0 s.newest_out s.outs place k.legs; all = k.all }

  lost_same : (s : Server) (n : ℕ) (leg : Option InLeg) → outs_of (lost_in s n leg) ≡ outs_of s
  lost_same s n None = refl
  lost_same s n (Some leg) =
      by_test (λ (t : Server). outs_of t ≡ outs_of s)
      (is_waiting leg.stage && stays leg.leaving) _ (without_in s n) (λ e. refl) (λ e. refl)

  mark_holds : (s : Server) (n : ℕ) (kind : LegKind) → Roomy put may s
      → Roomy put may (mark_by s n kind)
  mark_holds s n InServer k =
      settled_holds (lost_in s n (in_leg n s.ins))
      (subst (AreWithin put may) (sym (lost_same s n (in_leg n s.ins))) k)
  mark_holds s n OutServer k =
      settled_holds (without_out (with_ack_dropped s n) n)
      (removed_holds s (out_place n s.outs) k)
  mark_holds s n ClientIn k = k
  mark_holds s n ClientOut k = k

-- ---- moves

move_holds : (p : Passage Server) (move : moves.Move) → Holds p
    → Holds (moves.moved server.rules p move)
move_holds p (Up leg cookie) k =
    by_test (Roomy (amounts passes p.put) (amounts allowing p.came))
    (may_up_by p.role leg.number leg.kind) (up_by p.role leg.number leg.kind) p.role
    (λ e. up_holds (amounts passes p.put) (amounts allowing p.came) p.role leg.number leg.kind e k)
    (λ e. k)
move_holds p (HeadCame leg text) k = k
move_holds p (PduCame leg count bytes) k = pdu_holds p leg.number leg.kind bytes k
move_holds p (PacketCame leg count packet) k =
    packet_holds p leg.number leg.kind count packet k
move_holds p (Puts leg) k = put_holds p leg.number leg.kind k
move_holds p (IsDrawn leg) k =
    drawn_holds (amounts passes p.put) (amounts allowing p.came) p.role leg.number leg.kind k
move_holds p (Marks leg) k =
    mark_holds (amounts passes p.put) (amounts allowing p.came) p.role leg.number leg.kind k
move_holds p (Pings leg) k = k

given_holds : (p : EndPassage Server) (bytes : List ℕ) (x : Server × Result (Unit {0}) GiveRefused)
    → Roomy (amounts passes p.passage.put) (amounts allowing p.passage.came) x.0
    → Holds (given_by p bytes x).passage
given_holds p bytes (s, Ok accepted) k = k
given_holds p bytes (s, Err refused) k = k

first_holds : (p : EndPassage Server) (pdus : List (List ℕ)) → Holds p.passage
    → Holds (with_first p pdus).passage
first_holds p [] k = k
first_holds p (pdu ∷ pdus) k = k

abbrev Within : EndPassage Server → Outs → Type 0
Within p o = AreWithin (amounts passes p.passage.put) (amounts allowing p.passage.came) o

end_holds : (p : EndPassage Server) (move : EndMove) → Holds p.passage
    → Holds (end_moved server.rules acts p move).passage
end_holds p (Moves move) k = move_holds p.passage move k
end_holds p (Gives bytes) k =
    given_holds p bytes (give p.passage.role bytes)
    (subst (Within p) (sym (give_same p.passage.role bytes)) k)
end_holds p Takes k =
    first_holds (end_now_at p (take p.passage.role)) p.passage.role.line.current.pdus
    (subst (Within p) (sym (take_same p.passage.role)) k)
end_holds p Closes k = k
end_holds p Recycles k = subst (Within p) (sym (recycle_same p.passage.role)) k

all_hold : (p : EndPassage Server) (all : List EndMove) → Holds p.passage
    → Holds (all_end_moved server.rules acts p all).passage
all_hold p [] k = k
all_hold p (move ∷ all) k = all_hold (end_moved server.rules acts p move) all (end_holds p move k)

-- what it put on an OUT leg, without acknowledgements for the proxy, is within what came there
-- allowed
pub within_lifetimes : (window : ℕ) (all : List EndMove) (n : ℕ)
    → (let p = (all_end_moved server.rules acts (end_started (first window)) all).passage in
    sum passes (of_leg (os n) p.put) ≤ sum allowing (of_leg (os n) p.came))
within_lifetimes window all n =
    (all_hold (end_started (first window)) all
    (record { legs = omega arith; all = λ k. omega arith })).all n
