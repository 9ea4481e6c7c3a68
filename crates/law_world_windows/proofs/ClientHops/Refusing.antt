-- what a row on a hop of a client refuses cannot come from the other end (MS-RPCH 3.2, 3.2.1)
use Rattle.law_order.proofs.Vocabulary.{◌≡◌, ℕ, ◌+◌, ◌≤◌, ◌<◌, List, [], ◌∷◌, ◌++◌, length, Err, arith, inl, inr, sym, ◌∙◌, subst, IsPrefix}
use Rattle.rh_shell.specs.declared.answers.Refused.TheVariants as refused
use Rattle.rh_inproxy.specs.Machine as in_proxy
use Rattle.rh_outproxy.specs.Machine as out_proxy
use Rattle.rh_client.specs.Client as client
use Rattle.law_moves.proofs.Vocabulary.{U, D, WindowExceeded, GREATEST_WINDOW, IsPdu, Cookie, Named, AckTo, Count, Message, Text, Pdu, Packet, EndMove, of_leg, IsFineMessage, all_read_of, pdu_bytes, Has, BeginsIn, BeginsOut, HasBegunIn, HasBegunOut, HasComeUp}
use Rattle.law_moves.proofs.Lemmas.{bytes_append, has_last}
use Rattle.law_role_client.proofs.Vocabulary.{ci, co}
use Rattle.law_peers_moments.proofs.Read.{front_bytes, front_has, front_one}
use Rattle.law_peers_moments.proofs.Joining.{in_front, in_reads}
use Rattle.law_peers_moments.specs.Moments.{AreJoined, Passages}
use Rattle.law_world_windows.proofs.ClientHops.Roles.{Acks, AcksRoom, IsFalse, IsToldIn, IsToldOut, SendsWithin, TellsProxy}
use Rattle.law_world_windows.proofs.ClientHops.Routes.{AreHonest, client_put, from_client, from_out, out_front, window_is}
use Rattle.law_world_windows.specs.Hops.{is_leg, os_leg}
use Rattle.law_world_windows.specs.Refusing.{RefusesMessage}

-- the bytes that came with the next PDU are of what was put
reached : (came put : List Message) (pdu : List ℕ)
    → IsPrefix (came ++ Pdu pdu ∷ []) (all_read_of put)
    → pdu_bytes came + length pdu ≤ pdu_bytes put
reached came put pdu p =
    let all = bytes_append came (Pdu pdu ∷ []) in
    let front = front_bytes (came ++ Pdu pdu ∷ []) put p in
    omega (arith, all, front)

next_has : (came put : List Message) (named : Named)
    → IsPrefix (came ++ Packet named ∷ []) (all_read_of put) → Has named put
next_has came put named p =
    front_has named (came ++ Packet named ∷ []) put p (has_last named came)

-- an acknowledgement of what came is not false
true_false : (sent came received available : ℕ) → came ≤ sent → received ≤ came
    → available ≤ GREATEST_WINDOW → IsFalse sent received available → ⊥
true_false sent came received available all is small (inl more) =
    absurd (omega (arith, all, is, more))
true_false sent came received available all is small (inr great) =
    absurd (omega (arith, small, great))

-- a PDU has bytes
pdu_long : (pdu : List ℕ) → IsPdu pdu → 0 < length pdu
pdu_long pdu is = let long : 16 ≤ length pdu = is.frame.long in omega (arith, long)

module _ (reader : ℕ → ℕ) (all : Passages) (joined : AreJoined reader all) (window : ℕ)
    (moves : List EndMove) (honest : AreHonest window moves all) where
  -- ---- what is known of an acknowledgement

  -- one to the client that an in proxy put: of the IN channel of its cookie
  pub record IsOfIn (n received available : ℕ) (cookie : Cookie) (m : ℕ) : Type 0 where
    pub begun : HasBegunIn cookie (of_leg (ci n) (all.ins m).came)
    pub came : received ≤ pdu_bytes (of_leg (ci n) (all.ins m).came)
    pub small : available ≤ GREATEST_WINDOW

  -- a channel that began there came up under the cookie
  pub came_in : (m n : ℕ) (cookie : Cookie) → HasBegunIn cookie (of_leg (ci n) (all.ins m).came)
      → HasComeUp moves (ci n) cookie
  came_in m n cookie begun =
      honest.begins.ins n cookie
      (front_one (BeginsIn cookie) (of_leg (ci n) (all.ins m).came) (of_leg (ci n) all.client.put)
      (in_front reader all joined m n) begun)

  pub of_in : (m n received available : ℕ) (cookie : Cookie)
      → Has (AckTo 0 received available cookie) (of_leg (is_leg m) (all.ins m).put)
      → HasComeUp moves (ci n) cookie → IsOfIn n received available cookie m
  of_in m n received available cookie has raised =
      let ack : Acks 0 is_leg (all.ins m).put = record {
        number = m;
        received = received;
        available = available;
        cookie = cookie;
        has = has;
      } in
      let is = (honest.ins m).acks ack in
      let same = honest.apart.ins cookie is.number n (came_in m is.number cookie is.begun) raised in
      subst (λ (k : ℕ). IsOfIn k received available cookie m) same
      (record { begun = is.begun; came = is.came; small = is.window })

  -- one of the client for an out proxy: of the OUT channel of its cookie
  pub record IsOfClient (n received available : ℕ) : Type 0 where
    pub came : received ≤ pdu_bytes (of_leg (co n) all.client.came)
    pub small : available ≤ GREATEST_WINDOW

  pub of_client : (l n received available : ℕ) (cookie : Cookie)
      → Has (AckTo 3 received available cookie) (of_leg (ci l) all.client.put)
      → HasBegunOut cookie (of_leg (co n) all.client.put) → IsOfClient n received available
  of_client l n received available cookie has begun =
      let ack : Acks 3 ci all.client.put = record {
        number = l;
        received = received;
        available = available;
        cookie = cookie;
        has = has;
      } in
      let is = honest.receives.acks ack in
      subst (λ (k : ℕ). IsOfClient k received available)
      (honest.apart.outs cookie is.number n is.begun (honest.begins.outs n cookie begun))
      (record { came = is.came; small = is.window })

  pub began_out : (n : ℕ) (cookie : Cookie) → HasBegunOut cookie (of_leg (co n) (all.outs n).came)
      → HasBegunOut cookie (of_leg (co n) all.client.put)
  began_out n cookie begun =
      front_one (BeginsOut cookie) (of_leg (co n) (all.outs n).came)
      (of_leg (co n) all.client.put) (joined.front (co n) U) begun

  -- ---- an in proxy, on a leg of the client that it reads

  module _ (m n : ℕ) (reads : reader n ≡ m) (pdu : List ℕ)
      (ahead : IsPrefix (of_leg (ci n) (all.ins m).came ++ Pdu pdu ∷ [])
      (all_read_of (of_leg (ci n) all.client.put))) (count : Count) (why : WindowExceeded)
      (row : (in_proxy.rules.pdu (all.ins m).role (ci n) count pdu).1
      ≡ Err (refused.Window why)) where
    abbrev in_end : ℕ
    in_end = pdu_bytes (of_leg (ci n) (all.ins m).came) + length pdu

    in_acked : (edge : ℕ)
        → AcksRoom 0 co (λ (cookie : Cookie). HasBegunIn cookie (of_leg (ci n) all.client.put))
        all.client.came edge → edge < in_end
    in_acked edge room =
        let ack = room.ack in
        let put = from_client reader all joined window moves honest 0 ack.received ack.available
        ack.cookie ack.number ack.has in
        let raised = honest.begins.ins n ack.cookie room.begun in
        let is = of_in put.0 n ack.received ack.available ack.cookie put.1 raised in
        let same : put.0 ≡ m =
        sym (in_reads reader all joined (BeginsIn ack.cookie) put.0 n is.begun) ∙ reads in
        let here = subst (λ (k : ℕ).
        Has (AckTo 0 ack.received ack.available ack.cookie) (of_leg (is_leg k) (all.ins k).put)
        × HasBegunIn ack.cookie (of_leg (ci n) (all.ins k).came)) same (put.1, is.begun) in
        subst (λ (k : ℕ). k < in_end) room.is
        ((honest.ins m).exceeded_ack n count pdu why row ack.received ack.available ack.cookie
        here.0 here.1 (λ l began.
        honest.apart.ins ack.cookie l n (came_in m l ack.cookie began) raised))

    in_told : (edge : ℕ) → IsToldIn (of_leg (ci n) all.client.put) all.client.came edge
        → edge < in_end
    in_told edge (inl opened) =
        subst (λ (k : ℕ). k < in_end)
        (window_is reader all joined window moves honest edge opened.0 opened.1)
        ((honest.ins m).exceeded n count pdu why row)
    in_told edge (inr room) = in_acked edge room

    in_pdu : ⊥
    in_pdu = by (honest.sends.sends n)
      where
        put : in_end ≤ pdu_bytes (of_leg (ci n) all.client.put)
        put = reached (of_leg (ci n) (all.ins m).came) (of_leg (ci n) all.client.put) pdu ahead

        by : SendsWithin (IsToldIn (of_leg (ci n) all.client.put) all.client.came)
            (pdu_bytes (of_leg (ci n) all.client.put)) → ⊥
        by (inl none) =
            let first = (honest.ins m).exceeded n count pdu why row in
            let all_put = put in absurd (omega (arith, none, first, all_put))
        by (inr so) =
            let behind = in_told so.0 so.2 in let within = so.1 in
            let all_put = put in absurd (omega (arith, behind, within, all_put))

  pub in_window : (m n : ℕ) → reader n ≡ m → (x : Message)
      → IsPrefix (of_leg (ci n) (all.ins m).came ++ x ∷ [])
      (all_read_of (of_leg (ci n) all.client.put)) → (why : WindowExceeded)
      → RefusesMessage in_proxy.rules (all.ins m).role (ci n) (refused.Window why) x → ⊥
  in_window m n reads (Text bytes) ahead why row = row
  in_window m n reads (Pdu pdu) ahead why row = in_pdu m n reads pdu ahead row.0 why row.1
  in_window m n reads (Packet named) ahead why row =
      (honest.ins m).exceeded_none n row.0 named why row.1

  pub in_range : (m n : ℕ) (x : Message) (command value : ℕ)
      → RefusesMessage in_proxy.rules (all.ins m).role (ci n) (refused.OutOfRange command value) x
      → ⊥
  in_range m n (Text bytes) command value row = row
  in_range m n (Pdu pdu) command value row =
      (honest.ins m).ranges_none n row.0 pdu command value row.1
  in_range m n (Packet named) command value row =
      (honest.ins m).ranges n row.0 named command value row.1

  -- ---- the client, on its leg of an OUT channel

  client_ack : (k : ℕ) (named : Named)
      → IsPrefix (of_leg (co k) all.client.came ++ Packet named ∷ [])
      (all_read_of (of_leg (co k) (all.outs k).put))
      → (n received available : ℕ) (cookie : Cookie)
      → named ≡ AckTo 0 received available cookie
      → HasComeUp moves (ci n) cookie
      → IsFalse (pdu_bytes (of_leg (ci n) all.client.put)) received available → ⊥
  client_ack k named ahead n received available cookie is raised false_one =
      let put = from_out reader all joined window moves honest 0 received available cookie k
      (subst (λ (x : Named). Has x (of_leg (co k) (all.outs k).put)) is
      (next_has (of_leg (co k) all.client.came) (of_leg (co k) (all.outs k).put) named ahead)) in
      let one = of_in put.0 n received available cookie put.1 raised in
      true_false (pdu_bytes (of_leg (ci n) all.client.put))
      (pdu_bytes (of_leg (ci n) (all.ins put.0).came)) received available
      (front_bytes (of_leg (ci n) (all.ins put.0).came) (of_leg (ci n) all.client.put)
      (in_front reader all joined put.0 n)) one.came one.small false_one

  pub client_range : (k : ℕ) (x : Message)
      → IsPrefix (of_leg (co k) all.client.came ++ x ∷ [])
      (all_read_of (of_leg (co k) (all.outs k).put)) → (command value : ℕ)
      → RefusesMessage client.rules all.client.role (co k) (refused.OutOfRange command value) x
      → ⊥
  client_range k (Text bytes) ahead command value row = row
  client_range k (Pdu pdu) ahead command value row =
      honest.sends.refuses_none k row.0 pdu command value row.1
  client_range k (Packet named) ahead command value row =
      let is = honest.sends.refuses k row.0 named command value row.1 in
      client_ack k named ahead is.3 is.0 is.1 is.2 is.4 is.5 is.6

  module _ (k : ℕ) (pdu : List ℕ) (some : 0 < length pdu)
      (ahead : IsPrefix (of_leg (co k) all.client.came ++ Pdu pdu ∷ [])
      (all_read_of (of_leg (co k) (all.outs k).put))) (count : Count) (why : WindowExceeded)
      (row : (client.rules.pdu all.client.role (co k) count pdu).1 ≡ Err (refused.Window why))
    where
      abbrev client_end : ℕ
      client_end = pdu_bytes (of_leg (co k) all.client.came) + length pdu

      client_told : (edge : ℕ) → IsToldOut k (all.outs k).came edge → edge < client_end
      client_told edge (inl opened) =
          honest.receives.exceeded k count pdu why row edge
          (front_one (TellsProxy edge) (of_leg (co k) (all.outs k).came)
          (of_leg (co k) all.client.put) (joined.front (co k) U) opened)
      client_told edge (inr acked) =
          let ack = acked.0 in
          let came = front_has (AckTo 3 ack.received ack.available ack.cookie)
          (of_leg (os_leg ack.number) (all.outs k).came) (of_leg (os_leg ack.number) all.server.put)
          (out_front reader all joined k ack.number) ack.has in
          let put = client_put reader all joined window moves honest ack.number ack.received
          ack.available ack.cookie came in
          let raised = honest.begins.outs k ack.cookie (began_out k ack.cookie acked.1) in
          subst (λ (n : ℕ). n < client_end) acked.2
          (honest.receives.exceeded_ack k count pdu why row put.0 ack.received ack.available
          ack.cookie put.1 raised (λ j other. honest.apart.outs ack.cookie j k other raised))

      client_pdu : ⊥
      client_pdu = by (honest.outs k).sends
        where
          put : client_end ≤ pdu_bytes (of_leg (co k) (all.outs k).put)
          put = reached (of_leg (co k) all.client.came) (of_leg (co k) (all.outs k).put) pdu ahead

          by : SendsWithin (IsToldOut k (all.outs k).came)
              (pdu_bytes (of_leg (co k) (all.outs k).put)) → ⊥
          by (inl none) =
              let all_put = put in absurd (omega (arith, none, some, all_put))
          by (inr so) =
              let behind = client_told so.0 so.2 in let within = so.1 in
              let all_put = put in absurd (omega (arith, behind, within, all_put))

  pub client_window : (k : ℕ) (x : Message) → IsFineMessage x
      → IsPrefix (of_leg (co k) all.client.came ++ x ∷ [])
      (all_read_of (of_leg (co k) (all.outs k).put)) → (why : WindowExceeded)
      → RefusesMessage client.rules all.client.role (co k) (refused.Window why) x → ⊥
  client_window k (Text bytes) fine ahead why row = row
  client_window k (Pdu pdu) fine ahead why row =
      client_pdu k pdu (pdu_long pdu fine) ahead row.0 why row.1
  client_window k (Packet named) fine ahead why row =
      honest.receives.exceeded_none k row.0 named why row.1

  -- ---- an out proxy

  out_ack : (n : ℕ) (named : Named)
      → IsPrefix (of_leg (os_leg n) (all.outs n).came ++ Packet named ∷ [])
      (all_read_of (of_leg (os_leg n) all.server.put))
      → (received available : ℕ) (cookie : Cookie) → named ≡ AckTo 3 received available cookie
      → HasBegunOut cookie (of_leg (co n) (all.outs n).came)
      → IsFalse (pdu_bytes (of_leg (co n) (all.outs n).put)) received available → ⊥
  out_ack n named ahead received available cookie is begun false_one =
      let put = client_put reader all joined window moves honest n received available cookie
      (subst (λ (x : Named). Has x (of_leg (os_leg n) all.server.put)) is
      (next_has (of_leg (os_leg n) (all.outs n).came) (of_leg (os_leg n) all.server.put) named
      ahead)) in
      let one = of_client put.0 n received available cookie put.1 (began_out n cookie begun) in
      true_false (pdu_bytes (of_leg (co n) (all.outs n).put))
      (pdu_bytes (of_leg (co n) all.client.came)) received available
      (front_bytes (of_leg (co n) all.client.came) (of_leg (co n) (all.outs n).put)
      (joined.front (co n) D)) one.came one.small false_one

  -- on the server's leg
  pub out_range : (n : ℕ) (x : Message)
      → IsPrefix (of_leg (os_leg n) (all.outs n).came ++ x ∷ [])
      (all_read_of (of_leg (os_leg n) all.server.put)) → (command value : ℕ)
      → RefusesMessage out_proxy.rules (all.outs n).role (os_leg n)
      (refused.OutOfRange command value) x → ⊥
  out_range n (Text bytes) ahead command value row = row
  out_range n (Pdu pdu) ahead command value row =
      (honest.outs n).refuses_none (os_leg n) row.0 pdu command value row.1
  out_range n (Packet named) ahead command value row =
      let is = (honest.outs n).refuses (os_leg n) row.0 named command value row.1 in
      out_ack n named ahead is.1 is.2 is.3 is.4 is.5 is.6

  -- and on the client's
  pub out_range_none : (n : ℕ) (x : Message) (command value : ℕ)
      → RefusesMessage out_proxy.rules (all.outs n).role (co n) (refused.OutOfRange command value)
      x → ⊥
  out_range_none n (Text bytes) command value row = row
  out_range_none n (Pdu pdu) command value row =
      (honest.outs n).refuses_none (co n) row.0 pdu command value row.1
  out_range_none n (Packet named) command value row =
      let is = ((honest.outs n).refuses (co n) row.0 named command value row.1).0 in absurd cc

  pub out_window : (n : ℕ) (x : Message) (why : WindowExceeded)
      → RefusesMessage out_proxy.rules (all.outs n).role (co n) (refused.Window why) x → ⊥
  out_window n (Text bytes) why row = row
  out_window n (Pdu pdu) why row = (honest.outs n).exceeded_none row.0 pdu why row.1
  out_window n (Packet named) why row = (honest.outs n).exceeded_no_packet row.0 named why row.1
