-- no acknowledgement to an out proxy has the cookie that stands for none, where no OUT channel of
-- the client has it
use Rattle.law_order.proofs.Vocabulary.{ℕ, refl}
use Rattle.law_moves.proofs.Vocabulary.{Cookie, AckTo, OutServer, ClientIn, InServer, of_leg, Has}
use Rattle.law_node_history.proofs.Vocabulary.{leg_at}
use Rattle.law_role_windows.proofs.Acknowledging.Found.{has_found}
use Rattle.law_role_windows.specs.Acknowledging.Acks.{IsPassedOn, PassesOn}
use Rattle.law_peers_moments.proofs.Joining.{in_front, is_front}
use Rattle.law_peers_moments.proofs.Read.{front_has}
use Rattle.law_peers_moments.specs.Moments.{AreJoined, Passages}

module _ (reader : ℕ → ℕ) (all : Passages) (joined : AreJoined reader all)
    (server : PassesOn InServer 3 all.server) (ins : (m : ℕ) → PassesOn ClientIn 3 (all.ins m))
    (n received available : ℕ) (cookie : Cookie) where
  -- one that the server put for an out proxy was put by the client
  pub from_client :
      Has (AckTo 3 received available cookie) (of_leg (leg_at OutServer n) all.server.put)
      → (k : ℕ)
      × Has (AckTo 3 received available cookie) (of_leg (leg_at ClientIn k) all.client.put)
  from_client has =
      let came = has_found (IsPassedOn InServer 3 all.server.came)
      (AckTo 3 received available cookie) (leg_at OutServer n) all.server.put server has refl in
      let put = front_has (AckTo 3 received available cookie)
      (of_leg (leg_at InServer came.0) all.server.came)
      (of_leg (leg_at InServer came.0) (all.ins came.0).put) (is_front reader all joined came.0)
      came.1 in
      let asked = has_found (IsPassedOn ClientIn 3 (all.ins came.0).came)
      (AckTo 3 received available cookie) (leg_at InServer came.0) (all.ins came.0).put
      (ins came.0) put refl in (
        asked.0,
        front_has (AckTo 3 received available cookie)
            (of_leg (leg_at ClientIn asked.0) (all.ins came.0).came)
            (of_leg (leg_at ClientIn asked.0) all.client.put)
            (in_front reader all joined came.0 asked.0) asked.1,
      )
