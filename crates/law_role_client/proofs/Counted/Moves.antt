-- each allowed step of a client keeps what its events keep
use Rattle.law_order.proofs.Vocabulary.{List, refl}
use Rattle.law_moves.proofs.Vocabulary.{OnLeg}
use Rattle.law_role_client.proofs.Vocabulary.{give, drawn, ping, acts, rules}
use Rattle.law_role_client.proofs.Counted.Allowed.{AllowedKeep}
use Rattle.law_role_client.proofs.Counted.Views.{View, EventsKeep}
use Rattle.law_role_client.proofs.Counted.Replacements.{Holds, same_holds, take_holds, recycled}
use Rattle.law_role_client.proofs.Counted.Rows.{up_holds, pdu_row, packet_row, same_drawn, same_ping, same_give}
use Rattle.law_role_client.proofs.Counted.Puts.{puts_by}

pub client_keeps : (P : View → List OnLeg → List OnLeg → Type 0) (events : EventsKeep P)
    → AllowedKeep rules acts (Holds P events)
client_keeps P events = record {
  up = λ s leg cookie came put wanted h.
      up_holds P events s leg.number cookie leg.kind came put wanted h;
  head = λ s leg text came put h. h;
  pdu = λ s leg count bytes came put h. pdu_row P events s leg bytes leg.kind came put h;
  packet = λ s leg count m came put h.
      packet_row P events s leg count m leg.kind came put refl h;
  puts = λ s leg came put h. puts_by P events leg came put s leg.kind refl h;
  drawn = λ s leg came put h.
      same_holds P events s (drawn s leg) came put (same_drawn P events s leg.number leg.kind) h;
  mark = λ s leg came put h. h;
  ping = λ s leg came put h.
      same_holds P events s (ping s leg) came put (same_ping P events s leg.number leg.kind) h;
  give = λ s bytes came put h.
      same_holds P events s (give s bytes).0 came put (same_give P events s bytes) h;
  take = take_holds P events;
  close = λ s came put h. h;
  recycle = λ s came put open' h. recycled P events s came put open' h;
}
