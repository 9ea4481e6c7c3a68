-- a channel goes on counting what it holds
use Rattle.std.proofs.Common.{◌≡◌, ℕ, ◌+◌, List, [], ◌∷◌, ◌++◌, length, arith}
use Rattle.rh_pdu.specs.Frames.{IsPdu}
use Rattle.rh_window.specs.Sides.{Receiver, IsReceiver}
use Rattle.rh_line.specs.Lines.{Incoming, IsIncoming}
use Rattle.rh_line.proofs.Queues.{each_push, total_push}

-- a PDU more, which the window counts as received
pub counts_more : (c : Incoming) (pdu : List ℕ) (window : Receiver) → IsIncoming c → IsPdu pdu
    → IsReceiver window → window ≡ record c.window { received = c.window.received + length pdu }
    → IsIncoming (record c { pdus = c.pdus ++ pdu ∷ []; window = window })
counts_more c pdu window h is side counted = record {
  side = side;
  each = each_push IsPdu c.pdus pdu h.each is;
  counted = rw counted (omega (arith, h.counted, total_push c.pdus pdu));
}
