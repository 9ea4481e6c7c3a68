-- each row keeps the law of a proxy
use Rattle.rh_window.specs.Receiving.{after_admit}
use Rattle.law_order.proofs.Vocabulary.{◌≡◌, ℕ, Bool, true, not, is_ok, if◌then◌else◌, List, [], ◌∷◌, ◌++◌, Ok, Err, length, refl, sym, ap, Result, append-nil, PduNow, EndNow, HandoverNow, Takes}
use Rattle.rh_sig.specs.declared.named.Named.TheVariants as named
use Rattle.rh_line.specs.declared.line_fault.LineFault.TheVariants as line_fault
use Rattle.rh_outproxy.specs.declared.state.Mark.TheVariants as marks
use Rattle.rh_outproxy.specs.Machine as machine
use Rattle.law_moves.proofs.Vocabulary.{Receiver, by_test, Named, Leg, LineFault, channel_verdict, Count, Pdu, Packet, Passage, taken_by}
use Rattle.law_role_outproxy.proofs.Vocabulary.{OutProxy, has_come, Done, is_co, is_os, is_joined, is_carrying, takes_pdus, taken, unexpected, on_pdu, admitted, line_row, on_out_r1_a9, on_end_b1, passer_of, put_items}
use Rattle.law_role_outproxy.proofs.Conditions.{both_left, both_right, no_false, unput}
use Rattle.law_role_outproxy.proofs.ItemLogs.{client_log, other_log, server_log}
use Rattle.law_role_outproxy.proofs.ProxyLaw.{Law, acts}
use Rattle.law_role_outproxy.proofs.OtherRows.{co_alike, os_alike, other_row}

-- what is admitted is held, whatever its window is then
pub pdu_comes : (n : ℕ) (p : Passage OutProxy) (leg : Leg) (pdu : List ℕ) (window : Receiver)
    (verdict : Result (Unit {0}) LineFault) → is_os p.role leg ≡ true → takes_pdus p.role ≡ true
    → Law n p → Law n (taken_by p leg (Pdu pdu) (
      record (p.role) {
        line = record (p.role.line) {
          current = if is_ok verdict
              then record (p.role.line.current) {
                pdus = p.role.line.current.pdus ++ pdu ∷ [];
                window = window;
              }
              else p.role.line.current;
        };
      },
      line_row verdict,
    ))
pdu_comes n p leg pdu window (Err (line_fault.Window exceeded)) here open' l =
    record { number = l.number; single = l.single; other = l.other; order = l.order }
pdu_comes n p leg pdu window (Err line_fault.Over) here open' l =
    record { number = l.number; single = l.single; other = l.other; order = l.order }
pdu_comes n p leg pdu window (Ok done) here open' l =
    let carrying = both_left (is_carrying p.role) (not (has_come p.role.end)) open' in
    let unhanded =
    no_false (has_come p.role.handover)
    (both_right (is_joined p.role) (not (has_come p.role.handover)) carrying) in
    let unended =
    no_false (has_come p.role.end)
    (both_right (is_carrying p.role) (not (has_come p.role.end)) open') in
    let now : OutProxy = record (p.role) {
      line = record (p.role.line) {
        current = record (p.role.line.current) {
          pdus = p.role.line.current.pdus ++ pdu ∷ [];
          window = window;
        };
      };
    } in
    acts n p (taken_by p leg (Pdu pdu) (now, Ok tt)) (Takes (PduNow pdu)) refl refl l.single l.other
    (server_log p.role.config.number leg (Pdu pdu) p.came here)
    (sym (append-nil (put_items p.role.config.number p.put)))
    ((unhanded, unended), unended) l

pub pdu_law : (n : ℕ) (p : Passage OutProxy) (leg : Leg) (count : Count) (pdu : List ℕ) → Law n p
    → Law n (taken_by p leg (Pdu pdu) (machine.pdu p.role leg count pdu))
pdu_law n p leg count pdu l =
    let Then = λ (d : Done). Law n (taken_by p leg (Pdu pdu) d) in
    by_test Then (is_os p.role leg) (on_pdu p.role pdu) (unexpected p.role)
    (λ here. by_test Then (takes_pdus p.role) (admitted p.role pdu) (unexpected p.role)
    (λ open'. pdu_comes n p leg pdu (after_admit_window p.role pdu)
    (channel_verdict p.role.line.current pdu) here open' l) (λ t. l)) (λ t. l)
  where
    after_admit_window : OutProxy → List ℕ → Receiver
    after_admit_window s pdu = after_admit s.line.current.window (length pdu)

pub end_law : (n : ℕ) (p : Passage OutProxy) (leg : Leg) → is_os p.role leg ≡ true → Law n p
    → Law n (taken_by p leg (Packet named.EndB1) (on_end_b1 p.role))
end_law n p leg here l =
    let Then = λ (d : Done). Law n (taken_by p leg (Packet named.EndB1) d) in
    let now : OutProxy = record (p.role) { end = marks.Came } in
    by_test Then (takes_pdus p.role) (taken now) (unexpected p.role)
    (λ open'.
    let carrying = both_left (is_carrying p.role) (not (has_come p.role.end)) open' in
    let unhanded =
    no_false (has_come p.role.handover)
    (both_right (is_joined p.role) (not (has_come p.role.handover)) carrying) in
    let unended =
    no_false (has_come p.role.end)
    (both_right (is_carrying p.role) (not (has_come p.role.end)) open') in
    let put = unput p.role.end unended in
    acts n p (taken_by p leg (Packet named.EndB1) (taken now)) (Takes EndNow)
    (ap (λ (b : Bool). record (passer_of now) { end_put = b }) (sym put)) refl l.single l.other
    (server_log p.role.config.number leg (Packet named.EndB1) p.came here)
    (sym (append-nil (put_items p.role.config.number p.put)))
    ((unhanded, unended), refl) l)
    (λ t. l)

pub handover_law : (n : ℕ) (p : Passage OutProxy) (leg : Leg) → is_os p.role leg ≡ true → Law n p
    → Law n (taken_by p leg (Packet named.OutR1A9) (on_out_r1_a9 p.role))
handover_law n p leg here l =
    let Then = λ (d : Done). Law n (taken_by p leg (Packet named.OutR1A9) d) in
    let now : OutProxy = record (p.role) { handover = marks.Came } in
    by_test Then (is_carrying p.role) (taken now) (unexpected p.role)
    (λ open'.
    let unhanded =
    no_false (has_come p.role.handover)
    (both_right (is_joined p.role) (not (has_come p.role.handover)) open') in
    let put = unput p.role.handover unhanded in
    acts n p (taken_by p leg (Packet named.OutR1A9) (taken now)) (Takes HandoverNow)
    (ap (λ (b : Bool). record (passer_of now) { handover_put = b }) (sym put)) refl l.single
    l.other (server_log p.role.config.number leg (Packet named.OutR1A9) p.came here)
    (sym (append-nil (put_items p.role.config.number p.put)))
    (unhanded, tt) l)
    (λ t. l)

pub os_law : (n : ℕ) (p : Passage OutProxy) (leg : Leg) (m : Named) → is_os p.role leg ≡ true
    → Law n p → Law n (taken_by p leg (Packet m) (machine.on_os p.role m))
os_law n p leg named.EndB1 here l = end_law n p leg here l
os_law n p leg named.OutR1A9 here l = handover_law n p leg here l
os_law n p leg m here l =
    other_row n p leg (Packet m) (machine.on_os p.role m) (os_alike p.role m refl)
    (other_log leg (Packet m) p.came refl) l

pub packet_law : (n : ℕ) (p : Passage OutProxy) (leg : Leg) (count : Count) (m : Named) → Law n p
    → Law n (taken_by p leg (Packet m) (machine.packet p.role leg count m))
packet_law n p leg count m l =
    let Then = λ (d : Done). Law n (taken_by p leg (Packet m) d) in
    by_test Then (is_co p.role leg) (machine.on_co p.role count m)
    (if is_os p.role leg then machine.on_os p.role m else unexpected p.role)
    (λ here. other_row n p leg (Packet m) (machine.on_co p.role count m)
    (co_alike p.role count m) (client_log p.role.config.number leg (Packet m) p.came here) l)
    (λ t. by_test Then (is_os p.role leg) (machine.on_os p.role m) (unexpected p.role)
    (λ here. os_law n p leg m here l) (λ u. l))
