-- the bytes of a leg
use Rattle.law_order.proofs.Vocabulary.{◌≡◌, ◌++◌, sym, ◌∙◌, append_assoc, Wire, WireLaw, Event, Draws, Feeds, Loses, MayHappen, after}
use Rattle.law_order.proofs.Prefixes.{prefix_more, prefix_trans}

pub wire_step : (w : Wire) (event : Event) → WireLaw w → MayHappen w event → WireLaw (after w event)
wire_step w (Draws bytes) l may = record {
  in_order = prefix_trans w.fed w.drawn (w.drawn ++ bytes) l.in_order (prefix_more w.drawn bytes);
  whole = λ e. rw (l.whole e) (append_assoc w.fed w.flight bytes);
}
wire_step w (Feeds bytes rest) l may =
    let all : w.drawn ≡ (w.fed ++ bytes) ++ rest =
    l.whole may.0 ∙ rw may.1 (sym (append_assoc w.fed bytes rest)) in
    record { in_order = (rest, sym all); whole = λ e. all }
wire_step w Loses l may = record { in_order = l.in_order; whole = λ e. absurd (cc) }
