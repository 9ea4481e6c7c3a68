-- OUT channels: legs of the client, and legs of out proxies to the server
use Rattle.law_order.proofs.Vocabulary.{ℕ, suc, List}
use Rattle.rh_audit.specs.declared.packet.First.{First}
use Rattle.rh_audit.specs.declared.packet.Met.{Met}
use Rattle.law_moves.proofs.Vocabulary.{Named, ClientOut, OutServer, Message, of_leg, HasComeUp, HasOne}
use Rattle.law_moves.proofs.Lemmas.{one_so}
use Rattle.law_role_client.proofs.Vocabulary.{co}
use Rattle.law_role_client_rows.specs.Putting.{OpenedBefore}
use Rattle.law_role_outproxy.proofs.Vocabulary.{co_leg, os_leg}
use Rattle.law_peers_moments.proofs.Joining.{os_front}
use Rattle.law_peers_moments.proofs.Read.{front_one}
use Rattle.law_peers_moments.specs.Moments.{IsMoment, Moves, Numbers, Passages, passages}
use Rattle.law_peers_chains.specs.Shown.{AreShown}
use Rattle.law_peers_chains.proofs.Channels.{IsOpening, opening_asked, out_asks, out_none_anew, out_starts, to_server_begins, to_server_none_anew, to_server_starts}
use Rattle.law_peers_chains.proofs.Fronts.{Begins, IsAny}
use Rattle.law_peers_chains.proofs.Known.{Knows, Out, asked_out, begun_below, out_is, to_server}
use Rattle.law_peers_chains.proofs.Numbered.{AreFollowing, each_own, following}
use Rattle.law_peers_chains.proofs.OwnLegs.{read}

pub any_one : (P : Named → Type 0) (ms : List Message) → HasOne P ms → HasOne IsAny ms
any_one P ms has = one_so P IsAny (λ m is. tt) ms has

module _ (numbers : Numbers) (reader : ℕ → ℕ) (moves : Moves)
    (moment : IsMoment numbers reader moves) (know : Knows numbers reader moves)
    (mets : ℕ → List Met) where
  abbrev all : Passages
  all = passages numbers moves

  abbrev put : ℕ → List Message
  put n = of_leg (co n) all.client.put

  abbrev asked : ℕ → List Message
  asked n = of_leg (co_leg n) (all.outs n).came

  abbrev opened : ℕ → List Message
  opened n = of_leg (os_leg n) (all.outs n).put

  abbrev came : ℕ → List Message
  came n = of_leg (os_leg n) all.server.came

  -- where a channel that is not the first began, the one below it began at the server
  below_came : (below : ℕ) (begun : First) → HasOne (Begins begun) (put (suc (suc below)))
      → HasOne IsOpening (came (suc below))
  below_came below begun has =
      begun_below numbers reader moves moment know below
      (out_asks numbers.client (HasComeUp moves.client) (OpenedBefore numbers.client moves.client)
      know.late_out below (put (suc (suc below))) (know.out_channels (suc (suc below)))
      (Begins begun) has)

  below_asked : (below : ℕ) (begun : First) → HasOne (Begins begun) (put (suc (suc below)))
      → HasOne IsAny (asked (suc below))
  below_asked below begun has =
      let one = suc below in
      let to = opening_asked (numbers.outs one) (asked one) (opened one)
      (to_server numbers reader moves moment know one)
      (front_one IsOpening (came one) (opened one) (os_front reader all moment.now.joined one)
      (below_came below begun has)) in
      any_one (Begins to.0) (asked one) to.1

  -- what an out proxy put names what came for it
  opened_put : (n : ℕ) (begun : First) → HasOne (Begins begun) (opened n)
      → HasOne (Begins begun) (put n)
  opened_put n begun has =
      asked_out numbers reader moves moment know (Begins begun) n
      (to_server_begins (numbers.outs n) (asked n) begun (opened n)
      (to_server numbers reader moves moment know n) has)

  pub client_out : AreShown numbers reader moves ClientOut mets
      → AreFollowing (Out numbers reader moves moment know) (λ k. k) mets (λ k. k)
  client_out shown =
      following (Out numbers reader moves moment know) (λ k. k) mets (λ k. k) each_own
      (λ n. moment.now.cookies.one (co n)) (moment.now.cookies.own ClientOut)
      (read (Out numbers reader moves moment know) put asked mets shown
      (λ n.
      out_starts numbers.client (HasComeUp moves.client) (OpenedBefore numbers.client moves.client)
      know.late_out n (put n) (know.out_channels n))
      (out_is numbers reader moves moment know)
      (λ n.
      out_none_anew numbers.client (HasComeUp moves.client)
      (OpenedBefore numbers.client moves.client) know.late_out n (put n) (know.out_channels n))
      below_asked)

  pub out_server : AreShown numbers reader moves OutServer mets
      → AreFollowing (Out numbers reader moves moment know) (λ k. k) mets (λ k. k)
  out_server shown =
      following (Out numbers reader moves moment know) (λ k. k) mets (λ k. k) each_own
      (λ n. moment.now.cookies.one (co n)) (moment.now.cookies.own ClientOut)
      (read (Out numbers reader moves moment know) opened came mets shown
      (λ n.
      to_server_starts (numbers.outs n) (asked n) (opened n)
      (to_server numbers reader moves moment know n))
      (λ n begun has.
      out_is numbers reader moves moment know n begun (opened_put n begun has))
      (λ n.
      to_server_none_anew (numbers.outs n) (asked n) (opened n)
      (to_server numbers reader moves moment know n))
      (λ below begun has.
      any_one IsOpening (came (suc below))
      (below_came below begun (opened_put (suc (suc below)) begun has))))
