-- an in proxy acknowledges what came from the client, and receives within its window
use Rattle.law_order.proofs.Vocabulary.{ℕ, true≢false, arith, refl, sym, List, [], AllByRecursion}
use Rattle.rh_inproxy.specs.declared.state.InProxyConfig.{InProxyConfig}
use Rattle.rh_inproxy.specs.State.{InProxy, first}
use Rattle.rh_inproxy.specs.Opening.{head, drawn}
use Rattle.rh_inproxy.specs.Ending.{mark}
use Rattle.rh_inproxy.specs.Time.{ping}
use Rattle.rh_inproxy.specs.Machine.{rules as proxy_rules}
use Rattle.law_moves.proofs.Vocabulary.{IsWindow, Move, Passage, started, all_moved}
use Rattle.law_moves.proofs.Lemmas.{StepsKeep, moves_keep}
use Rattle.law_role_windows.proofs.Acknowledging.InAcks.{all_true}
use Rattle.law_role_windows.proofs.Acknowledging.InChannels.{WasTold}
use Rattle.law_role_windows.proofs.Acknowledging.InPdus.{Holds, same_holds, same_head, same_drawn, same_mark, same_ping, up_holds, pdu_row}
use Rattle.law_role_windows.proofs.Acknowledging.InRows.{packet_row}
use Rattle.law_role_windows.proofs.Acknowledging.InPuts.{puts}
use Rattle.law_role_windows.proofs.Acknowledging.InRefuses.{pdu_refuses, packet_refuses}
use Rattle.law_role_windows.specs.Acknowledging.Acks.{IsTrue}
use Rattle.law_role_windows.specs.Acknowledging.Receiving.{ReceivesOn}

keeps : (window : ℕ) → IsWindow window → StepsKeep proxy_rules (Holds window)
keeps window is = record {
  up = λ s leg cookie came put. up_holds window s leg came put;
  head = λ s leg text came put.
      same_holds window s (head s leg text).0 came put (same_head s leg text);
  pdu = λ s leg count bytes came put h. pdu_row window s leg came put h count bytes;
  packet = λ s leg count m came put h. packet_row window s leg came put h count m;
  put = λ s leg came put. puts window is leg came put s;
  drawn = λ s leg came put.
      same_holds window s (drawn s leg) came put (same_drawn s leg);
  mark = λ s leg came put. same_holds window s (mark s leg) came put (same_mark s leg);
  ping = λ s leg came put. same_holds window s (ping s leg) came put (same_ping s leg);
}

starts : (config : InProxyConfig) → Holds config.window (first config) [] []
starts config = record {
  channels = record {
    size = refl;
    there = refl;
    finished = λ e. absurd (true≢false (sym e));
    number = tt;
    now = record { received = omega arith; told = omega arith; counted = refl; size = refl };
    behind = tt;
    acks = tt;
  };
  shut = λ e. refl;
  begun = λ e. absurd (true≢false (sym e));
  others = tt;
}

module _ (config : InProxyConfig) (moves : List Move) (is : IsWindow config.window) where
  abbrev p : Passage InProxy
  p = all_moved proxy_rules (started (first config)) moves

  pub holds : Holds config.window p.role p.came p.put
  holds =
      moves_keep proxy_rules (Holds config.window) (keeps config.window is)
      (started (first config)) moves (starts config)

  pub in_proxy_tells : AllByRecursion (IsTrue p.came) p.put
  in_proxy_tells =
      all_true config.window p.came (WasTold p.role.line p.role.current p.role.successor) p.put
      holds.channels.acks

  pub in_proxy_receives : (n : ℕ) → ReceivesOn proxy_rules config.window n p
  in_proxy_receives n = record {
    pdus = pdu_refuses config.window p.role p.came p.put holds n;
    packets = packet_refuses p.role n;
  }
