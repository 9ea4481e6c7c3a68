-- the laws of the roles, as the hops of a client need them
use Rattle.law_order.proofs.Vocabulary.{◌≡◌, ◌≤◌, ◌⊎◌, ℕ, ◌+◌, Bool, true, false, if◌then◌else◌, List, [], ◌∷◌, length, ◌<◌, Err, inl, inr, refl, sym, ◌∙◌, subst, zero, suc, arith, ap, AllByRecursion}
use Rattle.rh_shell.specs.declared.answers.Refused.TheVariants as refused
use Rattle.rh_inproxy.specs.Machine as in_proxy
use Rattle.rh_client.specs.Client as client
use Rattle.law_moves.proofs.Vocabulary.{WindowExceeded, Cookie, Named, AckTo, ConnA1, ConnB2, ConnC1, ConnC2, InR1A2, InR1A3, InR1A4, OutR1A3, ClientConfig, out_request, Leg, ClientIn, ClientOut, InServer, OutServer, Count, Message, Text, Pdu, Packet, same_leg, EndMove, OnLeg, Passage, of_leg, pdu_bytes, count_of, Has, HasOn, HasOne, HasBegunIn, HasBegunOut, HasComeUp}
use Rattle.law_moves.proofs.Lemmas.{one_so}
use Rattle.law_role_inproxy.proofs.Vocabulary.{InProxy}
use Rattle.law_role_client.proofs.Vocabulary.{ClientRole, ci, co, client_moved}
use Rattle.law_role_client.proofs.Counted.Behind.{has_one}
use Rattle.law_role_client.specs.Sending as sends
use Rattle.law_role_client.specs.Receiving as receives
use Rattle.law_role_server.proofs.Vocabulary.{Server}
use Rattle.law_role_outproxy.proofs.Vocabulary.{OutProxy, opens}
use Rattle.law_role_outproxy.specs.Sending as out_sends
use Rattle.law_role_client_rows.specs.Putting.{Begins, IsBegun, OpenedBefore, OpensOutChannels, OutRest, out_length, out_way}
use Rattle.law_role_windows.proofs.Acknowledging.Found.{has_found}
use Rattle.law_role_windows.specs.Acknowledging.Acks.{IsPassedOn, IsTrue, IsTrueOn, PassesOn}
use Rattle.law_role_windows.specs.Acknowledging.Receiving.{EndsBehind, ReceivesOn, RefusesOnly}
use Rattle.law_role_windows.specs.Acknowledging.Windows.{ByConnB2, ByConnC1, ByConnC2, ByInR1A2, ByInR1A3, ByInR1A4, Tells, TellsFrom, TellsOwn}
use Rattle.law_world_windows.proofs.ClientHops.Roles.{Acks, ClientBegins, ClientReceives, ClientSends, InProxySees, IsFalse, IsToldIn, IsToldOut, OutProxySees, ServerSees, TellsOutProxy, TellsProxy, TellsServer}
use Rattle.law_world_windows.proofs.ClientHops.Roles as roles
use Rattle.law_world_windows.specs.Hops.{is_leg, os_leg}
use Rattle.law_world_windows.specs.KeptAfar.{TellsClient}

-- ---- packets in a list

same_packet : (a b : Named) → Packet a ≡ Packet b → b ≡ a
same_packet a b e = cc

one_of : (P Q R : Named → Type 0) → ((named : Named) → P named → Q named ⊎ R named)
    → (ms : List Message) → HasOne P ms → HasOne Q ms ⊎ HasOne R ms
one_of P Q R so [] has = absurd has
one_of P Q R so (Text bytes ∷ ms) has = one_of P Q R so ms has
one_of P Q R so (Pdu pdu ∷ ms) has = one_of P Q R so ms has
one_of P Q R so (Packet named ∷ ms) (inl is) = here (so named is)
  where
    here : Q named ⊎ R named → HasOne Q (Packet named ∷ ms) ⊎ HasOne R (Packet named ∷ ms)
    here (inl q) = inl (inl q)
    here (inr r) = inr (inl r)
one_of P Q R so (Packet named ∷ ms) (inr has) = there (one_of P Q R so ms has)
  where
    there : HasOne Q ms ⊎ HasOne R ms
        → HasOne Q (Packet named ∷ ms) ⊎ HasOne R (Packet named ∷ ms)
    there (inl q) = inl (inr q)
    there (inr r) = inr (inr r)

-- ---- windows

server_one : (edge : ℕ) (named : Named) → TellsServer edge named
    → Tells ByConnB2 edge named ⊎ Tells ByInR1A2 edge named
server_one edge (ConnB2 version connection channel window timeout group address padding) is =
    inl is
server_one edge (InR1A2 version connection predecessor channel window timeout) is = inr is
server_one edge named is = search

out_one : (edge : ℕ) (named : Named) → TellsOutProxy edge named
    → Tells ByConnC1 edge named ⊎ Tells ByInR1A3 edge named
out_one edge (ConnC1 version window timeout) is = inl is
out_one edge (InR1A3 to version window timeout) is = inr is
out_one edge named is = search

client_one : (edge : ℕ) (named : Named) → TellsClient edge named
    → Tells ByConnC2 edge named ⊎ Tells ByInR1A4 edge named
client_one edge (ConnC2 version window timeout) is = inl is
client_one edge (InR1A4 to version window timeout) is = inr is
client_one edge named is = search

by_b2 : (edge : ℕ) (named : Named) → Tells ByConnB2 edge named → TellsServer edge named
by_b2 edge (ConnB2 version connection channel window timeout group address padding) is = is
by_b2 edge named is = search

by_a2 : (edge : ℕ) (named : Named) → Tells ByInR1A2 edge named → TellsServer edge named
by_a2 edge (InR1A2 version connection predecessor channel window timeout) is = is
by_a2 edge named is = search

by_c1 : (edge : ℕ) (named : Named) → Tells ByConnC1 edge named → TellsOutProxy edge named
by_c1 edge (ConnC1 version window timeout) is = is
by_c1 edge named is = search

by_a3 : (edge : ℕ) (named : Named) → Tells ByInR1A3 edge named → TellsOutProxy edge named
by_a3 edge (InR1A3 to version window timeout) is = is
by_a3 edge named is = search

-- ---- a server

pub server_sees : (p : Passage Server) → ((to : ℕ) → PassesOn InServer to p)
    → TellsFrom ByConnB2 InServer ByConnC1 p → TellsFrom ByInR1A2 InServer ByInR1A3 p
    → ServerSees p
server_sees p passes connected replaced = record {
  passes = λ to n received available cookie has.
      has_found (IsPassedOn InServer to p.came) (AckTo to received available cookie) (os_leg n)
      p.put (passes to) has refl;
  tells = λ edge n has.
      told edge n (one_of (TellsOutProxy edge) (Tells ByConnC1 edge) (Tells ByInR1A3 edge)
      (out_one edge) (of_leg (os_leg n) p.put) has);
}
  where
    told : (edge n : ℕ)
        → HasOne (Tells ByConnC1 edge) (of_leg (os_leg n) p.put)
        ⊎ HasOne (Tells ByInR1A3 edge) (of_leg (os_leg n) p.put)
        → (m : ℕ) × HasOne (TellsServer edge) (of_leg (is_leg m) p.came)
    told edge n (inl one) =
        let from = connected (os_leg n) edge one in (
          from.0,
          one_so (Tells ByConnB2 edge) (TellsServer edge) (by_b2 edge)
              (of_leg (is_leg from.0) p.came) from.1,
        )
    told edge n (inr one) =
        let from = replaced (os_leg n) edge one in (
          from.0,
          one_so (Tells ByInR1A2 edge) (TellsServer edge) (by_a2 edge)
              (of_leg (is_leg from.0) p.came) from.1,
        )

-- ---- an out proxy

module _ (n : ℕ) (p : Passage OutProxy) (once : out_sends.OpensOnce n p.came)
    (law : out_sends.SendsWithin n p) where
  out_told : out_sends.MaySend n p.came (pdu_bytes (of_leg (co n) p.put))
      → roles.SendsWithin (IsToldOut n p.came) (pdu_bytes (of_leg (co n) p.put))
  out_told (inl none) = inl none
  out_told (inr (inl in_window)) =
      inr (
        in_window.window,
        in_window.within,
        inl (has_one (TellsProxy in_window.window) in_window.packet (of_leg (co n) p.came)
            in_window.tells in_window.has),
      )
  out_told (inr (inr in_room)) =
      let ack : Acks 3 os_leg p.came = record {
        number = n;
        received = in_room.received;
        available = in_room.available;
        cookie = in_room.cookie;
        has = in_room.has;
      } in
      inr (in_room.received + in_room.available, in_room.within, inr (ack, in_room.begun, refl))

  out_false : (leg : Leg) (named : Named)
      → out_sends.IsFalseAck n p.came (pdu_bytes (of_leg (co n) p.put)) leg named
      → (leg ≡ os_leg n) × (received : ℕ) × (available : ℕ) × (cookie : Cookie)
      × (named ≡ AckTo 3 received available cookie)
      × HasBegunOut cookie (of_leg (co n) p.came)
      × IsFalse (pdu_bytes (of_leg (co n) p.put)) received available
  out_false leg (AckTo to received available cookie) is = (
    is.0,
    received,
    available,
    cookie,
    subst (λ (k : ℕ). AckTo k received available cookie ≡ AckTo 3 received available cookie)
        (sym is.1) refl,
    is.2,
    is.3,
  )
  out_false leg named is = search

  module _ (passes : (to : ℕ) → PassesOn OutServer to p)
      (connected : TellsFrom ByConnC1 OutServer ByConnC2 p)
      (replaced : TellsFrom ByInR1A3 OutServer ByInR1A4 p) where
    told_client : (edge k : ℕ)
        → HasOne (Tells ByConnC2 edge) (of_leg (co k) p.put)
        ⊎ HasOne (Tells ByInR1A4 edge) (of_leg (co k) p.put)
        → (j : ℕ) × HasOne (TellsOutProxy edge) (of_leg (os_leg j) p.came)
    told_client edge k (inl one) =
        let from = connected (co k) edge one in (
          from.0,
          one_so (Tells ByConnC1 edge) (TellsOutProxy edge) (by_c1 edge)
              (of_leg (os_leg from.0) p.came) from.1,
        )
    told_client edge k (inr one) =
        let from = replaced (co k) edge one in (
          from.0,
          one_so (Tells ByInR1A3 edge) (TellsOutProxy edge) (by_a3 edge)
              (of_leg (os_leg from.0) p.came) from.1,
        )

    pub out_proxy_sees : OutProxySees n p
    out_proxy_sees = record {
      sends = out_told (law.within once);
      refuses = λ leg count named command value e.
          out_false leg named
          (subst (out_sends.RefusesFalseAcks n p.came (pdu_bytes (of_leg (co n) p.put)) leg named) e
          (law.refuses once leg count named));
      refuses_none = λ leg count pdu command value e.
          subst out_sends.IsInRange e (law.ranges leg count pdu);
      exceeded_none = λ count pdu exceeded e.
          absurd (let bad = sym e ∙ law.pdus count pdu in cc);
      exceeded_no_packet = λ count named exceeded e.
          subst out_sends.IsNoWindow e (law.windows (co n) count named);
      passes = λ to k received available cookie has.
          has_found (IsPassedOn OutServer to p.came) (AckTo to received available cookie) (co k)
          p.put (passes to) has refl;
      tells = λ edge k has.
          told_client edge k (one_of (TellsClient edge) (Tells ByConnC2 edge)
          (Tells ByInR1A4 edge) (client_one edge) (of_leg (co k) p.put) has);
    }

-- ---- an in proxy

true_found : (came : List OnLeg) (received available : ℕ) (cookie : Cookie) (leg : Leg)
    (log : List OnLeg) → AllByRecursion (IsTrue came) log
    → Has (AckTo 0 received available cookie) (of_leg leg log)
    → (n : ℕ) × IsTrueOn (of_leg (ci n) came) received available cookie
true_found came received available cookie leg [] each has = absurd has
true_found came received available cookie leg ((other, m) ∷ log) each has =
    by (same_leg other leg) (true_found came received available cookie leg log each.1) has
  where
    packet : Named
    packet = AckTo 0 received available cookie

    by : (b : Bool)
        → (Has packet (of_leg leg log)
        → (n : ℕ) × IsTrueOn (of_leg (ci n) came) received available cookie)
        → Has packet (if b then m ∷ of_leg leg log else of_leg leg log)
        → (n : ℕ) × IsTrueOn (of_leg (ci n) came) received available cookie
    by false rest one = rest one
    by true rest (inl e) = subst (λ (x : Message). IsTrue came (other, x)) e each.0 refl
    by true rest (inr more) = rest more

pub in_proxy_sees : (window m : ℕ) (p : Passage InProxy)
    → ((n : ℕ) → ReceivesOn in_proxy.rules window n p) → AllByRecursion (IsTrue p.came) p.put
    → PassesOn ClientIn 3 p → TellsOwn ByConnB2 window p → TellsOwn ByInR1A2 window p
    → InProxySees window m p
in_proxy_sees window m p receives truth passes connected replaced = record {
  exceeded = λ n count pdu exceeded e. (behind n count pdu exceeded e).opened;
  exceeded_ack = λ n count pdu exceeded e received available cookie has begun only.
      (behind n count pdu exceeded e).acked received available cookie (m, has) only;
  exceeded_none = λ n count named exceeded e.
      subst (RefusesOnly ⊥) e ((receives n).packets count named);
  ranges = λ n count named command value e.
      subst (RefusesOnly ⊥) e ((receives n).packets count named);
  ranges_none = λ n count pdu command value e.
      subst (RefusesOnly (EndsBehind window n p.came p.put
      (pdu_bytes (of_leg (ci n) p.came) + length pdu))) e ((receives n).pdus count pdu);
  acks = λ ack.
      let is = true_found p.came ack.received ack.available ack.cookie (is_leg ack.number) p.put
      truth ack.has in
      record { number = is.0; begun = is.1.begun; came = is.1.came; window = is.1.window };
  passes = λ n received available cookie has.
      has_found (IsPassedOn ClientIn 3 p.came) (AckTo 3 received available cookie) (is_leg n) p.put
      passes has refl;
  tells = λ edge n has.
      told edge n (one_of (TellsServer edge) (Tells ByConnB2 edge) (Tells ByInR1A2 edge)
      (server_one edge) (of_leg (is_leg n) p.put) has);
}
  where
    behind : (n : ℕ) (count : Count) (pdu : List ℕ) (exceeded : WindowExceeded)
        → (in_proxy.rules.pdu p.role (ci n) count pdu).1 ≡ Err (refused.Window exceeded)
        → EndsBehind window n p.came p.put (pdu_bytes (of_leg (ci n) p.came) + length pdu)
    behind n count pdu exceeded e =
        subst (RefusesOnly (EndsBehind window n p.came p.put
        (pdu_bytes (of_leg (ci n) p.came) + length pdu))) e ((receives n).pdus count pdu)

    told : (edge n : ℕ)
        → HasOne (Tells ByConnB2 edge) (of_leg (is_leg n) p.put)
        ⊎ HasOne (Tells ByInR1A2 edge) (of_leg (is_leg n) p.put) → window ≡ edge
    told edge n (inl one) = sym (connected (is_leg n) edge one)
    told edge n (inr one) = sym (replaced (is_leg n) edge one)

-- ---- the client

pub client_begins : (moves : List EndMove) (p : Passage ClientRole)
    → sends.BeginsByCookie moves p.put → ClientBegins moves p
client_begins moves p law = record {
  ins = law.ins;
  outs = law.outs;
}

-- it puts at most one packet that opens an OUT channel on the leg of that

rest_none : (n : ℕ) (rest : List Message) → OutRest n rest → count_of opens rest ≡ 0
rest_none zero rest is = ap (count_of opens) is
rest_none (suc n) rest (inl is) = ap (count_of opens) is
rest_none (suc n) rest (inr is) = ap (count_of opens) is

one_first : (m : Message) (rest : List Message) → count_of opens rest ≡ 0
    → count_of opens (m ∷ rest) ≤ 1
one_first (Text bytes) rest none = omega (arith, none)
one_first (Pdu pdu) rest none = omega (arith, none)
one_first (Packet named) rest none = by (opens named)
  where
    by : (t : Bool) → (if t then suc (count_of opens rest) else count_of opens rest) ≤ 1
    by true = omega (arith, none)
    by false = omega (arith, none)

begun_once : (n : ℕ) (request : List ℕ) (Begin : Named → Type 0) (ms : List Message)
    → IsBegun request Begin (OutRest n) ms → count_of opens ms ≤ 1
begun_once n request Begin [] is = omega arith
begun_once n request Begin (text ∷ []) is =
    let none : count_of opens (text ∷ []) ≡ 0 =
    ap (λ (m : Message). count_of opens (m ∷ [])) is in
    omega (arith, none)
begun_once n request Begin (text ∷ first ∷ rest) is =
    let none : count_of opens (text ∷ first ∷ rest) ≡ count_of opens (first ∷ rest) =
    ap (λ (m : Message). count_of opens (m ∷ first ∷ rest)) is.0 in
    let more = one_first first rest (rest_none n rest is.2) in omega (arith, none, more)

pub client_opens_once : (config : ClientConfig) (moves : List EndMove)
    → OpensOutChannels config moves → (n : ℕ)
    → count_of opens (of_leg (co n) (client_moved config moves).passage.put) ≤ 1
client_opens_once config moves law zero =
    let none = ap (count_of opens) (law zero) in omega (arith, none)
client_opens_once config moves law (suc n) =
    begun_once n (out_request config (out_length n))
    (Begins (out_way config) (HasComeUp moves) (OpenedBefore config moves) n)
    (of_leg (co (suc n)) (client_moved config moves).passage.put) (law (suc n))

-- each window with which it opens an OUT channel is so
pub client_opened : (P : ℕ → Type 0) (edge : ℕ) (ms : List Message)
    → ((version : ℕ) (connection channel : Cookie) (window : ℕ)
    → Has (ConnA1 version connection channel window) ms → P window)
    → ((version : ℕ) (connection predecessor channel : Cookie) (window : ℕ)
    → Has (OutR1A3 version connection predecessor channel window) ms → P window)
    → HasOne (TellsProxy edge) ms → P edge
client_opened P edge [] first later has = absurd has
client_opened P edge (Text bytes ∷ ms) first later has =
    client_opened P edge ms (λ v c h w is. first v c h w (inr is))
    (λ v c q h w is. later v c q h w (inr is)) has
client_opened P edge (Pdu pdu ∷ ms) first later has =
    client_opened P edge ms (λ v c h w is. first v c h w (inr is))
    (λ v c q h w is. later v c q h w (inr is)) has
client_opened P edge (Packet named ∷ ms) first later (inr has) =
    client_opened P edge ms (λ v c h w is. first v c h w (inr is))
    (λ v c q h w is. later v c q h w (inr is)) has
client_opened P edge (Packet named ∷ ms) first later (inl is) =
    one named is (λ v c h w e. first v c h w (inl e)) (λ v c q h w e. later v c q h w (inl e))
  where
    one : (x : Named) → TellsProxy edge x
        → ((version : ℕ) (connection channel : Cookie) (window : ℕ)
        → Packet x ≡ Packet (ConnA1 version connection channel window) → P window)
        → ((version : ℕ) (connection predecessor channel : Cookie) (window : ℕ)
        → Packet x ≡ Packet (OutR1A3 version connection predecessor channel window) → P window)
        → P edge
    one (ConnA1 version connection channel window) is first later =
        subst P is (first version connection channel window refl)
    one (OutR1A3 version connection predecessor channel window) is first later =
        subst P is (later version connection predecessor channel window refl)
    one x is first later = search

module _ (moves : List EndMove) (p : Passage ClientRole) where
  client_told : (n edge : ℕ) (named : Named)
      → sends.TellsEdge (λ cookie. HasBegunIn cookie (of_leg (ci n) p.put)) named edge
      → HasOn ClientOut named p.came → IsToldIn (of_leg (ci n) p.put) p.came edge
  client_told n edge (ConnC2 version window timeout) is on =
      inl (
        on.0,
        has_one (TellsClient edge) (ConnC2 version window timeout) (of_leg (co on.0) p.came)
            (sym is) on.1,
      )
  client_told n edge (InR1A4 to version window timeout) is on =
      inl (
        on.0,
        has_one (TellsClient edge) (InR1A4 to version window timeout) (of_leg (co on.0) p.came)
            (sym is) on.1,
      )
  client_told n edge (AckTo to received available cookie) is on =
      let ack : Acks 0 co p.came = record {
        number = on.0;
        received = received;
        available = available;
        cookie = cookie;
        has = subst (λ (k : ℕ). Has (AckTo k received available cookie) (of_leg (co on.0) p.came))
            is.0 on.1;
      } in
      inr (record { ack = ack; begun = is.2; is = sym is.1 })
  client_told n edge named is on = search

  client_within : (n : ℕ)
      → sends.IsWithin (λ cookie. HasBegunIn cookie (of_leg (ci n) p.put)) p.came
      (pdu_bytes (of_leg (ci n) p.put))
      → roles.SendsWithin (IsToldIn (of_leg (ci n) p.put) p.came)
      (pdu_bytes (of_leg (ci n) p.put))
  client_within n (inl none) = inl none
  client_within n (inr told) =
      inr (told.edge, told.within, client_told n told.edge told.packet told.tells told.on)

  client_false : (named : Named) → sends.IsFalseAck moves p.put named
      → (received : ℕ) × (available : ℕ) × (cookie : Cookie) × (n : ℕ)
      × (named ≡ AckTo 0 received available cookie) × HasComeUp moves (ci n) cookie
      × IsFalse (pdu_bytes (of_leg (ci n) p.put)) received available
  client_false (AckTo to received available cookie) is = (
    received,
    available,
    cookie,
    is.1.0,
    subst (λ (k : ℕ). AckTo k received available cookie ≡ AckTo 0 received available cookie)
        (sym is.0) refl,
    is.1.1.is_of_it,
    is.1.1.exceeds,
  )
  client_false named is = search

  pub client_sends : sends.SendsAsTold moves p → ClientSends moves p
  client_sends law = record {
    sends = λ n. client_within n (law.within n);
    refuses = λ k count named command value e.
        client_false named
        (subst (sends.RefusesFalseAcks moves p.put named) e (law.refuses (co k) count named));
    refuses_none = λ k count pdu command value e.
        subst sends.IsInRange e (law.pdus (co k) count pdu);
  }

  pub client_receives : ((k : ℕ) (count : Count) (bytes : List ℕ)
      → receives.RefusesBehind (receives.IsBehindWindow k p.put)
      (pdu_bytes (of_leg (co k) p.came) + length bytes)
      (client.rules.pdu p.role (co k) count bytes).1)
      → ((k : ℕ) (count : Count) (bytes : List ℕ)
      → receives.RefusesBehind (receives.IsBehindAcks k moves p.put)
      (pdu_bytes (of_leg (co k) p.came) + length bytes)
      (client.rules.pdu p.role (co k) count bytes).1)
      → ((leg : Leg) (count : Count) (named : Named)
      → receives.IsNoWindow (client.rules.packet p.role leg count named).1)
      → ((leg : Leg) (destination received available : ℕ) (cookie : Cookie)
      → Has (AckTo destination received available cookie) (of_leg leg p.put)
      → receives.IsTrueAck moves p.came received available cookie) → ClientReceives moves p
  client_receives windows acks packets truth = record {
    exceeded = λ k count pdu exceeded e edge has.
        let reached = pdu_bytes (of_leg (co k) p.came) + length pdu in
        let law = subst (receives.RefusesBehind (receives.IsBehindWindow k p.put) reached) e
        (windows k count pdu) in
        client_opened (λ (window : ℕ). window < reached) edge (of_leg (co k) p.put) law.first
        law.later has;
    exceeded_ack = λ k count pdu exceeded e l received available cookie has up only.
        subst (receives.RefusesBehind (receives.IsBehindAcks k moves p.put)
        (pdu_bytes (of_leg (co k) p.came) + length pdu)) e (acks k count pdu) (ci l) received
        available cookie has up only;
    exceeded_none = λ k count named exceeded e.
        subst receives.IsNoWindow e (packets (co k) count named);
    acks = λ ack.
        let is = truth (ci ack.number) 3 ack.received ack.available ack.cookie ack.has in
        record { number = is.number; begun = is.up; came = is.arrived; window = is.window };
  }
