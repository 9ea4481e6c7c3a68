-- the hops of a client are kept at each moment (MS-RPCH 3.2, 3.2.1)
use Rattle.law_order.proofs.Vocabulary.{◌≡◌, ℕ, ◌+◌, ◌-◌, ◌≤◌, List, inl, inr, arith, sym, subst}
use Rattle.law_moves.proofs.Vocabulary.{U, D, AckTo, BeginsIn, EndMove, of_leg, pdu_bytes}
use Rattle.law_role_client.proofs.Vocabulary.{ci, co}
use Rattle.law_role_windows.specs.Room.{ClientRoom, InProxyRoom, held_by_client, held_by_in_proxy}
use Rattle.law_peers_moments.proofs.Joining.{in_front, in_reads}
use Rattle.law_peers_moments.proofs.Read.{front_bytes, front_has, front_one}
use Rattle.law_peers_moments.specs.Moments.{AreJoined, Passages}
use Rattle.law_world_windows.proofs.ClientHops.Refusing.{began_out, came_in, of_client, of_in}
use Rattle.law_world_windows.proofs.ClientHops.Roles.{IsToldIn, IsToldOut, SendsWithin, TellsProxy}
use Rattle.law_world_windows.proofs.ClientHops.Routes.{AreHonest, client_put, from_client, out_front, window_is}
use Rattle.law_world_windows.specs.Hops.{os_leg}
use Rattle.law_world_windows.specs.KeptAfar.{AcksIn, AcksOut, InIsKept, IsTold, IsUpTo, KnowsIn, KnowsOut, OpensOut, OutIsKept}

module _ (reader : ℕ → ℕ) (all : Passages) (joined : AreJoined reader all) (window size : ℕ)
    (moves : List EndMove) (honest : AreHonest window moves all) where
  -- ---- to the in proxy that reads the leg

  module _ (n : ℕ) (room : InProxyRoom window (held_by_in_proxy n (all.ins (reader n)).role) n
      (all.ins (reader n)).came (all.ins (reader n)).put) where
    abbrev m : ℕ
    m = reader n

    in_within : SendsWithin (IsToldIn (of_leg (ci n) all.client.put) all.client.came)
        (pdu_bytes (of_leg (ci n) all.client.put))
        → IsUpTo (KnowsIn n all.client) (pdu_bytes (of_leg (ci n) all.client.put))
    in_within (inl none) = inl none
    in_within (inr so) = inr (so.0, so.1, by so.2)
      where
        by : IsToldIn (of_leg (ci n) all.client.put) all.client.came so.0
            → KnowsIn n all.client so.0
        by (inl opened) = inl opened
        by (inr acked) =
            let ack = acked.ack in
            inr (
              ack.received,
              ack.available,
              ack.cookie,
              (ack.number, ack.has),
              acked.begun,
              sym acked.is,
            )

    in_known : (edge : ℕ) → KnowsIn n all.client edge
        → IsTold (λ told. told ≡ window) (AcksIn m n (all.ins m)) edge
    in_known edge (inl opened) =
        inl (sym (window_is reader all joined window moves honest edge opened.0 opened.1))
    in_known edge (inr acked) =
        let received = acked.0 in
        let available = acked.1 in
        let cookie = acked.2 in
        let put = from_client reader all joined window moves honest 0 received available cookie
        acked.3.0 acked.3.1 in
        let is = of_in reader all joined window moves honest put.0 n received available cookie put.1
        (honest.begins.ins n cookie acked.4) in
        inr (
          received,
          available,
          subst (λ (k : ℕ). AcksIn k n (all.ins k) received available)
              (sym (in_reads reader all joined (BeginsIn cookie) put.0 n is.begun))
              (cookie, put.1, is.begun),
          acked.5,
        )

    in_acked : (received available : ℕ) → AcksIn m n (all.ins m) received available
        → (received ≤ pdu_bytes (of_leg (ci n) (all.ins m).came))
        × (received + available ≤ (pdu_bytes (of_leg (ci n) (all.ins m).came)
        - held_by_in_proxy n (all.ins m).role) + window)
    in_acked received available (cookie, put, begun) =
        let raised = came_in reader all joined window moves honest m n cookie begun in (
          (of_in reader all joined window moves honest m n received available cookie put
              raised).came,
          room.acked received available cookie (m, put) (λ l there.
              honest.apart.ins cookie l n
              (came_in reader all joined window moves honest m l cookie there) raised),
        )

    pub in_is_kept : InIsKept window m n all.client (all.ins m)
    in_is_kept = record {
      came = front_bytes (of_leg (ci n) (all.ins m).came) (of_leg (ci n) all.client.put)
          (in_front reader all joined m n);
      within = in_within (honest.sends.sends n);
      known = in_known;
      held = room.held;
      opened = λ edge is. omega (arith, is);
      acked = in_acked;
    }

  -- ---- from an out proxy to the client, whose windows are of this size

  module _ (n : ℕ) (opens : (edge : ℕ) → OpensOut n all.client edge → edge ≡ size)
      (room : ClientRoom size (held_by_client n all.client.role) n moves all.client.came
      all.client.put) where
    out_within : SendsWithin (IsToldOut n (all.outs n).came)
        (pdu_bytes (of_leg (co n) (all.outs n).put))
        → IsUpTo (KnowsOut n (all.outs n)) (pdu_bytes (of_leg (co n) (all.outs n).put))
    out_within (inl none) = inl none
    out_within (inr so) = inr (so.0, so.1, by so.2)
      where
        by : IsToldOut n (all.outs n).came so.0 → KnowsOut n (all.outs n) so.0
        by (inl opened) = inl opened
        by (inr acked) =
            let ack = acked.0 in
            inr (
              ack.received,
              ack.available,
              ack.cookie,
              (ack.number, ack.has),
              acked.1,
              sym acked.2,
            )

    out_known : (edge : ℕ) → KnowsOut n (all.outs n) edge
        → IsTold (OpensOut n all.client) (AcksOut n all.client) edge
    out_known edge (inl opened) =
        inl (front_one (TellsProxy edge) (of_leg (co n) (all.outs n).came)
        (of_leg (co n) all.client.put) (joined.front (co n) U) opened)
    out_known edge (inr acked) =
        let received = acked.0 in
        let available = acked.1 in
        let cookie = acked.2 in
        let came = front_has (AckTo 3 received available cookie)
        (of_leg (os_leg acked.3.0) (all.outs n).came) (of_leg (os_leg acked.3.0) all.server.put)
        (out_front reader all joined n acked.3.0) acked.3.1 in
        let put = client_put reader all joined window moves honest acked.3.0 received available
        cookie came in
        inr (
          received,
          available,
          (cookie, put, began_out reader all joined window moves honest n cookie acked.4),
          acked.5,
        )

    out_acked : (received available : ℕ) → AcksOut n all.client received available
        → (received ≤ pdu_bytes (of_leg (co n) all.client.came))
        × (received + available ≤ (pdu_bytes (of_leg (co n) all.client.came)
        - held_by_client n all.client.role) + size)
    out_acked received available (cookie, on, begun) =
        let raised = honest.begins.outs n cookie begun in (
          (of_client reader all joined window moves honest on.0 n received available cookie on.1
              begun).came,
          room.acked (ci on.0) received available cookie on.1 raised
              (λ j other. honest.apart.outs cookie j n other raised),
        )

    pub out_is_kept : OutIsKept size n (all.outs n) all.client
    out_is_kept = record {
      came = front_bytes (of_leg (co n) all.client.came) (of_leg (co n) (all.outs n).put)
          (joined.front (co n) D);
      within = out_within (honest.outs n).sends;
      known = out_known;
      held = room.held;
      opened = λ edge is. let told = opens edge is in omega (arith, told);
      acked = out_acked;
    }
