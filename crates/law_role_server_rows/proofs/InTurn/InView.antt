-- what the laws of is legs are about, which a put on an os leg leaves alone
use Rattle.law_order.proofs.Vocabulary.{◌≡◌, ℕ, ◌==◌, ◌&&◌, List, Some, None, refl, rules, IfSome, slice_get, Option}
use Rattle.rh_sig.specs.declared.named.Named.TheVariants as named
use Rattle.rh_server.specs.declared.state.InChannel.{InChannel}
use Rattle.rh_server.specs.declared.state.EndMark.TheVariants as end_mark
use Rattle.law_moves.proofs.Vocabulary.{by_test, Named, front_length, Due, Message, Packet, Waiting, taken}
use Rattle.law_role_server.proofs.Vocabulary.{InLeg, Stage, Gate, lets, length_of, Server, Pick, or_else, gate_at, counts, was_put, waiting_by, waiting_at, put_waiting, may_go_at, pdu_by, put_pdu, is_end_due, may_end_at, put_end, put_pdu_or_end, next_out}

pub record InView : Type 0 where
  pub at : Stage
  pub current : InChannel
  pub next : InChannel
  pub newest : ℕ
  pub ins : List InLeg

-- at this stage
abbrev pub view_at : Stage → Server → InView
view_at at s = record {
  at = at;
  current = s.current;
  next = s.next;
  newest = s.newest_in;
  ins = s.ins;
}

abbrev pub view : Server → InView
view s = view_at s.stage s

abbrev pub Alone : Server → Pick → Type 0
Alone s pick = IfSome pick (λ (one : Server × Message). view one.0 ≡ view s)

or_alone : (s : Server) (a b : Pick) → Alone s a → Alone s b → Alone s (or_else a b)
or_alone s None b h k = k
or_alone s (Some pick) b h k = h

counts_same : (s : Server) (place len : ℕ) → view (counts s place len) ≡ view s
counts_same s place len = search rules

was_put_same : (s : Server) (place : ℕ) (packet : Named) → view (was_put s place packet) ≡ view s
was_put_same s place named.OutR1A9 = counts_same s place 24
was_put_same s place (named.AckTo to received window cookie) =
    by_test (λ (t : Server). view t ≡ view s) (to == 3) s (counts s place 56) (λ e. refl)
    (λ e. counts_same s place 56)
was_put_same s place packet = counts_same s place (length_of packet)

pub out_alone : (s : Server) (place : ℕ) → Alone s (next_out s place)
out_alone s place =
    or_alone s (put_waiting s place) (put_pdu_or_end s place)
    (waiting (gate_at s (slice_get s.outs place)))
    (or_alone s (put_pdu s place) (put_end s place) (sends (front_length s.queue)) ends)
  where
    goes : (w : Waiting) (o : Option Due) → Alone s (waiting_by s place (w, o))
    goes w None = tt
    goes w (Some due) = was_put_same (record s { waiting = w }) place due.packet

    waiting : (o : Option Gate) → Alone s (waiting_at s place o)
    waiting None = tt
    waiting (Some gate) = goes (taken (lets gate) s.waiting).0 (taken (lets gate) s.waiting).1

    sends : (len : Option ℕ) → Alone s (pdu_by s place len)
    sends None = tt
    sends (Some len) =
        by_test (Alone s) (may_go_at s len (slice_get s.outs place)) _ None (λ e. refl) (λ e. tt)

    ends : Alone s (put_end s place)
    ends =
        by_test (Alone s) (is_end_due s && may_end_at s (slice_get s.outs place))
        (Some (record (counts s place 24) { end_mark = end_mark.Put }, Packet named.EndB1)) None
        (λ e. counts_same s place 24) (λ e. tt)
