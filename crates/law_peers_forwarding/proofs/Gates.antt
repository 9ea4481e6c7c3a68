-- an acknowledgement to the client goes where the meter of the channel that writes lets it
use Rattle.law_order.proofs.Vocabulary.{◌≡◌, ℕ, suc, ◌≤◌, ◌==◌, ◌&&◌, Bool, true, false, if◌then◌else◌, List, [], ◌∷◌, Some, None, refl, sym, ap, ◌∙◌, subst, arith, and_parts, false≢true, IfSome, find, slice_get, Option}
use Rattle.rh_sig.specs.declared.named.Named.TheVariants as named
use Rattle.rh_server.specs.declared.state.EndMark.TheVariants as end_mark
use Rattle.law_moves.proofs.Vocabulary.{may_put, by_test, same_number, Named, front_length, Due, first_of, Message, Text, Pdu, Packet, Waiting, taken}
use Rattle.law_role_server.proofs.Vocabulary.{OutLeg, Gate, lets, lets_packet, Server, is_due, is_open, out_at, out_leg, out_place, same_cookie, Pick, or_else, counts, gate, gate_at, goes, is_end_due, may_end_at, may_go_at, next_out, out_greeting_at, pdu_by, put_end, put_open, put_out_at, put_out_greeting, put_pdu, put_pdu_or_end, put_waiting, settled_pick, waiting_at, waiting_by, rules, is_ack_to, waiting_of, waits_for}
use Rattle.law_role_server.proofs.Counted.Dues.{found_may}
use Rattle.law_role_server.proofs.Counted.Replacing.{found_number}
use Rattle.law_role_outproxy.proofs.Vocabulary.{os_leg}

-- one waits, and the writing channel has room for it
pub record AckMayGo (s : Server) : Type 0 where
  pub leg : OutLeg
  pub writes : out_leg s.writing s.outs ≡ Some leg
  pub may : may_put leg.meter 56 ≡ true
  pub waits : 1 ≤ waits_for (is_ack_to 0) s

-- ---- what waits

abbrev IsCounted : (Named → Bool) → List Due → Option Due → Type 0
IsCounted test dues found =
    IfSome found (λ (due : Due). test due.packet ≡ true → 1 ≤ waiting_of test dues)

found_counts : (may_go : Due → Bool) (test : Named → Bool) (dues : List Due)
    → IsCounted test dues (find may_go dues)
found_counts may_go test [] = tt
found_counts may_go test (due ∷ dues) =
    by_test (IsCounted test (due ∷ dues)) (may_go due) (Some due) (find may_go dues)
    (λ e is. subst (λ (b : Bool).
    1 ≤ (if b then suc (waiting_of test dues) else waiting_of test dues)) (sym is) (omega arith))
    (λ e. later (find may_go dues) (found_counts may_go test dues))
  where
    more : (b : Bool) → 1 ≤ waiting_of test dues
        → 1 ≤ (if b then suc (waiting_of test dues) else waiting_of test dues)
    more true h = omega arith
    more false h = h

    later : (o : Option Due) → IsCounted test dues o → IsCounted test (due ∷ dues) o
    later None h = tt
    later (Some d) h = λ is. more (test due.packet) (h is)

-- ---- the gate

record IsLet (g : Gate) : Type 0 where
  writing : g.is_writing ≡ true
  may : may_put g.meter 56 ≡ true

let_ack : (g : Gate) (m : Named) → lets_packet g m ≡ true → is_ack_to 0 m ≡ true → IsLet g
let_ack g (named.AckTo to received window cookie) may is =
    let parts = and_parts g.is_writing (may_put g.meter 56)
    (subst (λ (k : ℕ). (if k == 3 then same_cookie cookie g.cookie
    else g.is_writing && may_put g.meter 56) ≡ true) (same_number to 0 is) may) in
    record { writing = parts.0; may = parts.1 }
let_ack g m may is = absurd cc

-- ---- what is put

module _ (s : Server) where
  abbrev OnAck : Message → Type 0
  OnAck (Text bytes) = Unit {0}
  OnAck (Pdu pdu) = Unit {0}
  OnAck (Packet m) = is_ack_to 0 m ≡ true → AckMayGo s

  abbrev Lets : Pick → Type 0
  Lets pick = IfSome pick (λ (one : Server × Message). OnAck one.1)

  or_lets : (a b : Pick) → Lets a → Lets b → Lets (or_else a b)
  or_lets None b h k = k
  or_lets (Some pick) b h k = h

  settled_lets : (pick : Pick) → Lets pick → Lets (settled_pick pick)
  settled_lets None h = tt
  settled_lets (Some pick) h = h

  module _ (n place : ℕ) (found : out_place n s.outs ≡ Some place) where
    writes_on : (leg : OutLeg) → slice_get s.outs place ≡ Some leg
        → leg.number == s.writing ≡ true → out_leg s.writing s.outs ≡ Some leg
    writes_on leg at writing =
        ap (λ (k : ℕ). out_leg k s.outs)
        (sym (same_number leg.number s.writing writing)
        ∙ found_number n place s.outs leg found at)
        ∙ ap (out_at s.outs) found ∙ at

    waiting_lets : (o : Option OutLeg) → slice_get s.outs place ≡ o
        → Lets (waiting_at s place (gate_at s o))
    waiting_lets None at = tt
    waiting_lets (Some leg) at =
        by (find may_go s.waiting.due) (found_may may_go s.waiting.due)
        (found_counts may_go (is_ack_to 0) s.waiting.due)
      where
        may_go : Due → Bool
        may_go = lets (gate s leg)

        left : Waiting
        left = (taken (lets (gate s leg)) s.waiting).0

        by : (x : Option Due) → IfSome x (λ (due : Due). may_go due ≡ true)
            → IsCounted (is_ack_to 0) s.waiting.due x → Lets (waiting_by s place (left, x))
        by None may counts = tt
        by (Some due) may counts = λ is.
            let let_so = let_ack (gate s leg) due.packet may is in record {
              leg = leg;
              writes = writes_on leg at let_so.writing;
              may = let_so.may;
              waits = counts is;
            }

    pdu_lets : (l : Option ℕ) → Lets (pdu_by s place l)
    pdu_lets None = tt
    pdu_lets (Some len) =
        by_test Lets (may_go_at s len (slice_get s.outs place))
        (Some (goes s place len, Pdu (first_of s.queue))) None (λ e. tt) (λ e. tt)

    end_lets : Lets (put_end s place)
    end_lets =
        by_test Lets (is_end_due s && may_end_at s (slice_get s.outs place))
        (Some (record (counts s place 24) { end_mark = end_mark.Put }, Packet named.EndB1)) None
        (λ e is. absurd (false≢true is)) (λ e. tt)

    next_lets : Lets (next_out s place)
    next_lets =
        or_lets (put_waiting s place) (put_pdu_or_end s place)
        (waiting_lets (slice_get s.outs place) refl)
        (or_lets (put_pdu s place) (put_end s place) (pdu_lets (front_length s.queue)) end_lets)

    greeting_lets : (o : Option OutLeg) → Lets (out_greeting_at s place o)
    greeting_lets None = tt
    greeting_lets (Some leg) = by_test Lets (is_due leg.greeting) _ None (λ e. tt) (λ e. tt)

    place_lets : Lets (put_out_at s (Some place))
    place_lets =
        or_lets (put_out_greeting s place) (put_open s place)
        (greeting_lets (slice_get s.outs place))
        (by_test Lets (is_open s.stage) (settled_pick (next_out s place)) None
        (λ e. settled_lets (next_out s place) next_lets) (λ e. tt))

  out_lets : (n : ℕ) (place : Option ℕ) → out_place n s.outs ≡ place
      → Lets (put_out_at s place)
  out_lets n None found = tt
  out_lets n (Some place) found = place_lets n place found

pub ack_goes : (s : Server) (n : ℕ) (next : Server) (m : Named)
    → rules.put s (os_leg n) ≡ Some (next, Packet m) → is_ack_to 0 m ≡ true → AckMayGo s
ack_goes s n next m e =
    subst (Lets s) e (out_lets s n (out_place n s.outs) refl)
