-- each message that a role puts has bytes, whatever moves it made: a PDU and a packet since they
-- read back, and a text by its row
use Rattle.law_order.proofs.Vocabulary.{◌≡◌, ◌≤◌, ℕ, List, [], ◌∷◌, ◌++◌, false, Some, None, Option, length, arith, refl, sym, subst}
use Rattle.rh_shell.specs.NearEnds.{is_empty}
use Rattle.rh_inproxy.specs.Machine as in_proxy
use Rattle.rh_inproxy.specs.State as in_state
use Rattle.rh_outproxy.specs.Machine as out_proxy
use Rattle.rh_client.specs.Client as client
use Rattle.rh_server.specs.Servers as server
use Rattle.law_moves.proofs.Vocabulary.{ClientConfig, EndMove, EndPassage, IsWindow, Leg, Message, Move, Moves, OnLeg, Passage, Pdu, Packet, Pipe, Puts, Rules, Text, AllReadBack, AreFine, AreLegible, IsLegible, ReadsBack, all_end_moved, all_moved, each_push, end_started, header_length, moved, put_by, spell, started}
use Rattle.law_moves.proofs.Lemmas.{each_parted}
use Rattle.law_role_inproxy.proofs.Vocabulary.{HasSizes, InProxy, InProxyConfig}
use Rattle.law_role_inproxy.specs.Legible as in_legible
use Rattle.law_role_client.proofs.Vocabulary.{ClientRole, HasCookieAtEnd, HasCookies, HaveCookies, IsConfig, client_moved, client_started}
use Rattle.law_role_client.specs.Legible as client_legible
use Rattle.law_role_server.proofs.Vocabulary.{Server}
use Rattle.law_role_server.specs.Legible as server_legible
use Rattle.law_role_outproxy.proofs.Vocabulary.{OutProxy, OutProxyConfig, new_proxy}
use Rattle.law_role_outproxy.specs.Legible as out_legible
use Rattle.law_node_streams.proofs.Streams.EndMoves.{all_end_moved_append}
use Rattle.law_node_streams.proofs.Streams.Ways.{all_moved_append}
use Rattle.law_world_order.proofs.Legal.{Legalities}
use Rattle.law_world_rest.proofs.Texts.Clients.{client_has}
use Rattle.law_world_rest.proofs.Texts.Having.{HasText, HasTexts}
use Rattle.law_world_rest.proofs.Texts.InProxies.{in_has}
use Rattle.law_world_rest.proofs.Texts.OutProxies.{out_has}
use Rattle.law_world_rest.proofs.Texts.Servers.{server_has}
use Rattle.law_world_rest.specs.Steady.{PutsBytes}

-- ---- one message

frame_has : (bytes : List ℕ) → header_length ≤ length bytes → is_empty bytes ≡ false
frame_has [] long = absurd (omega (arith, long))
frame_has (b ∷ bytes) long = refl

message_has : (pipe : Option Pipe) (message : Message) → HasText message
    → ReadsBack pipe message → is_empty (spell message) ≡ false
message_has pipe (Text text) text_has back = text_has
message_has pipe (Pdu pdu) text_has back = frame_has pdu back.frame.long
message_has pipe (Packet named) text_has back = frame_has (spell (Packet named)) back.frame.long

module _ {S : Type 0} (rules : Rules S) (pipe : Leg → Option Pipe) (p : Passage S)
    (has : (leg : Leg) → HasTexts (rules.put p.role leg)) where
  -- the next message that is put, if all that is put reads back then
  next_has : (leg : Leg) (put : S × Message) → rules.put p.role leg ≡ Some put
      → AllReadBack pipe (moved rules p (Puts leg)).put → is_empty (spell put.1) ≡ false
  next_has leg put is back =
      message_has (pipe leg) put.1 (subst (λ (o : Option (S × Message)). HasTexts o) is (has leg))
      (each_parted (λ (one : OnLeg). ReadsBack (pipe one.0) one.1) p.put (leg, put.1)
      (subst (λ (o : Option (S × Message)). AllReadBack pipe (put_by p leg o).put) is back)).1

  -- a put takes nothing
  nothing_came : (leg : Leg) → (moved rules p (Puts leg)).came ≡ p.came
  nothing_came leg = by (rules.put p.role leg)
    where
      by : (o : Option (S × Message)) → (put_by p leg o).came ≡ p.came
      by None = refl
      by (Some put) = refl

  puts_if : AreFine p.came → ((leg : Leg) → IsLegible pipe (moved rules p (Puts leg)))
      → PutsBytes rules p.role
  puts_if fine legible leg put is =
      next_has leg put is (legible leg (subst AreFine (sym (nothing_came leg)) fine)).read_back

-- ---- the roles

module _ (law : Legalities) where
  pub client_puts : (config : ClientConfig) (moves : List EndMove) → IsConfig config
      → HasCookies config → HaveCookies moves
      → PutsBytes client.rules (client_moved config moves).passage.role
  client_puts config moves ranges sized cookies leg put is =
      let p = client_moved config moves in
      let put_there : List EndMove = Moves (Puts leg) ∷ [] in
      let more : AreLegible client_legible.pipe_put
      (client_moved config (moves ++ put_there)).passage.put =
      law.client config (moves ++ put_there) ranges sized
      (each_push HasCookieAtEnd moves (Moves (Puts leg)) cookies tt) in
      next_has client.rules client_legible.pipe_put p.passage (client_has p.passage.role) leg put
      is
      (subst (λ (q : EndPassage ClientRole).
      AllReadBack client_legible.pipe_put q.passage.put)
      (all_end_moved_append client.rules client.acts (client_started config) moves put_there)
      more.read_back)

  pub server_puts : (window : ℕ) (moves : List EndMove) → IsWindow window
      → (let p = all_end_moved server.rules server.acts (end_started (server.first window)) moves
      in AreFine p.passage.came → PutsBytes server.rules p.passage.role)
  server_puts window moves ranges fine =
      let start = end_started (server.first window) in
      let p = all_end_moved server.rules server.acts start moves in
      puts_if server.rules server_legible.pipe_put p.passage (server_has p.passage.role) fine
      (λ leg. subst (λ (q : EndPassage Server). IsLegible server_legible.pipe_put q.passage)
      (all_end_moved_append server.rules server.acts start moves (Moves (Puts leg) ∷ []))
      (law.server window (moves ++ Moves (Puts leg) ∷ []) ranges))

  pub in_puts : (config : InProxyConfig) (moves : List Move) → in_state.IsConfig config
      → HasSizes config
      → (let p = all_moved in_proxy.rules (started (in_state.first config)) moves
      in AreFine p.came → PutsBytes in_proxy.rules p.role)
  in_puts config moves ranges sizes fine =
      let start = started (in_state.first config) in
      let p = all_moved in_proxy.rules start moves in
      puts_if in_proxy.rules in_legible.pipe_put p (in_has p.role) fine
      (λ leg. subst (λ (q : Passage InProxy). IsLegible in_legible.pipe_put q)
      (all_moved_append in_proxy.rules start moves (Puts leg ∷ []))
      (law.ins config (moves ++ Puts leg ∷ []) ranges sizes))

  pub out_puts : (config : OutProxyConfig) (moves : List Move) → out_legible.IsConfig config
      → (let p = all_moved out_proxy.rules (started (new_proxy config)) moves
      in AreFine p.came → PutsBytes out_proxy.rules p.role)
  out_puts config moves ranges fine =
      let start = started (new_proxy config) in
      let p = all_moved out_proxy.rules start moves in
      puts_if out_proxy.rules out_legible.pipe_put p (out_has p.role) fine
      (λ leg. subst (λ (q : Passage OutProxy). IsLegible out_legible.pipe_put q)
      (all_moved_append out_proxy.rules start moves (Puts leg ∷ []))
      (law.outs config (moves ++ Puts leg ∷ []) ranges))
