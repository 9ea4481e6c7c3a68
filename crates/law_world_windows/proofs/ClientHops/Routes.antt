-- the way of an acknowledgement and of a window through the nodes, back to where it was made
-- (MS-RPCH 3.2.1)
use Rattle.rh_text.specs.declared.ends.Side.TheVariants as side
use Rattle.law_order.proofs.Vocabulary.{◌≡◌, ◌⊎◌, ℕ, List, inl, inr, subst, cases_eq, IsPrefix}
use Rattle.rh_record.specs.declared.answer.Who.TheVariants as who
use Rattle.law_moves.proofs.Vocabulary.{U, D, Side, Cookie, Named, AckTo, EndMove, of_leg, all_read_of, Has, HasOne}
use Rattle.law_role_client.proofs.Vocabulary.{ci, co}
use Rattle.law_role_server.proofs.Vocabulary.{Server}
use Rattle.law_peers_moments.proofs.Joining.{in_front, nothing_front}
use Rattle.law_peers_moments.proofs.Read.{front_has, front_one}
use Rattle.law_peers_moments.specs.Moments.{AreJoined, Passages, end_of}
use Rattle.law_world_windows.proofs.ClientHops.Roles.{AreApart, ClientBegins, ClientReceives, ClientSends, InProxySees, OutProxySees, ServerSees, TellsOutProxy, TellsServer}
use Rattle.law_world_windows.specs.Hops.{is_leg, os_leg}
use Rattle.law_world_windows.specs.KeptAfar.{TellsClient}

-- each role sees to its part, the client behind these moves; the in proxies have one window
pub record AreHonest (window : ℕ) (moves : List EndMove) (all : Passages) : Type 0 where
  pub sends : ClientSends moves all.client
  pub receives : ClientReceives moves all.client
  pub begins : ClientBegins moves all.client
  pub apart : AreApart moves
  pub server : ServerSees all.server
  pub ins : (m : ℕ) → InProxySees window m (all.ins m)
  pub outs : (n : ℕ) → OutProxySees n (all.outs n)

module _ (reader : ℕ → ℕ) (all : Passages) (joined : AreJoined reader all) where
  -- ---- what came at an out proxy, whichever it is

  -- the server put it on the leg of the out proxy
  pub out_front : (j n : ℕ) → IsPrefix (of_leg (os_leg n) (all.outs j).came)
      (all_read_of (of_leg (os_leg n) all.server.put))
  out_front j n = by (cases_eq n j)
    where
      at : (n ≡ j → ⊥) → (end : Side) → end_of reader (os_leg n) end ≡ who.Out j → ⊥
      at apart side.Client e = apart (let same = e in cc)
      at apart side.Server e = absurd cc

      by : (n ≡ j) ⊎ (n ≡ j → ⊥) → IsPrefix (of_leg (os_leg n) (all.outs j).came)
          (all_read_of (of_leg (os_leg n) all.server.put))
      by (inl is) =
          subst (λ (k : ℕ). IsPrefix (of_leg (os_leg n) (all.outs k).came)
          (all_read_of (of_leg (os_leg n) all.server.put))) is (joined.front (os_leg n) D)
      by (inr apart) =
          nothing_front (of_leg (os_leg n) (all.outs j).came) _
          (joined.elsewhere (who.Out j) (os_leg n) (at apart))

  module _ (window : ℕ) (moves : List EndMove) (honest : AreHonest window moves all) where
    -- ---- acknowledgements

    module _ (to received available : ℕ) (cookie : Cookie) where
      abbrev packet : Named
      packet = AckTo to received available cookie

      -- one that the server put for an out proxy was put by an in proxy
      pub from_server : (n : ℕ) → Has packet (of_leg (os_leg n) all.server.put)
          → (m : ℕ) × Has packet (of_leg (is_leg m) (all.ins m).put)
      from_server n has =
          let came = honest.server.passes to n received available cookie has in (
            came.0,
            front_has packet (of_leg (is_leg came.0) all.server.came)
                (of_leg (is_leg came.0) (all.ins came.0).put) (joined.front (is_leg came.0) U)
                came.1,
          )

      -- so was one that an out proxy put for the client
      pub from_out : (k : ℕ) → Has packet (of_leg (co k) (all.outs k).put)
          → (m : ℕ) × Has packet (of_leg (is_leg m) (all.ins m).put)
      from_out k has =
          let came = (honest.outs k).passes to k received available cookie has in
          from_server came.0
          (front_has packet (of_leg (os_leg came.0) (all.outs k).came)
          (of_leg (os_leg came.0) all.server.put) (out_front k came.0) came.1)

      -- so was one that came at the client
      pub from_client : (k : ℕ) → Has packet (of_leg (co k) all.client.came)
          → (m : ℕ) × Has packet (of_leg (is_leg m) (all.ins m).put)
      from_client k has =
          from_out k
          (front_has packet (of_leg (co k) all.client.came) (of_leg (co k) (all.outs k).put)
          (joined.front (co k) D) has)

    -- one for an out proxy that the server put was put by the client
    pub client_put : (n received available : ℕ) (cookie : Cookie)
        → Has (AckTo 3 received available cookie) (of_leg (os_leg n) all.server.put)
        → (l : ℕ) × Has (AckTo 3 received available cookie) (of_leg (ci l) all.client.put)
    client_put n received available cookie has =
        let put = from_server 3 received available cookie n has in
        let came = (honest.ins put.0).passes put.0 received available cookie put.1 in (
          came.0,
          front_has (AckTo 3 received available cookie)
              (of_leg (ci came.0) (all.ins put.0).came) (of_leg (ci came.0) all.client.put)
              (in_front reader all joined put.0 came.0) came.1,
        )

    -- ---- windows

    -- one that came at the client is that of the in proxies
    pub window_is : (edge k : ℕ) → HasOne (TellsClient edge) (of_leg (co k) all.client.came)
        → window ≡ edge
    window_is edge k has =
        let out = (honest.outs k).tells edge k
        (front_one (TellsClient edge) (of_leg (co k) all.client.came)
        (of_leg (co k) (all.outs k).put) (joined.front (co k) D) has) in
        let server = honest.server.tells edge out.0
        (front_one (TellsOutProxy edge) (of_leg (os_leg out.0) (all.outs k).came)
        (of_leg (os_leg out.0) all.server.put) (out_front k out.0) out.1) in
        (honest.ins server.0).tells edge server.0
        (front_one (TellsServer edge) (of_leg (is_leg server.0) all.server.came)
        (of_leg (is_leg server.0) (all.ins server.0).put) (joined.front (is_leg server.0) U)
        server.1)
