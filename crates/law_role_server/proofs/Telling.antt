-- the windows of the line that comes: what came is within what was told, so that acknowledgements
-- and the next edge have their sizes
use Rattle.rh_window.specs.Receiving as windows
use Rattle.law_order.proofs.Vocabulary.{◌≡◌, ℕ, ◌+◌, ◌<◌, ◌≤◌, ◌^◌, cond, List, ◌∷◌, length, Bool, true, false, None, Ok, Err, arith, refl, ◌∙◌, nat_le, IfSome, is_ok, Option, Result, nat_tests}
use Rattle.rh_server.specs.declared.state.Edge.TheVariants as edge
use Rattle.law_moves.proofs.Vocabulary.{Receiver, IsWindow, WindowExceeded, Ack, by_test, Incoming, Line, admitted, channel_verdict, released, after_admit, after_end, after_open_next, after_tell, after_told, moved_on, Which, Current, Next}
use Rattle.law_role_server.proofs.Vocabulary.{Edge, is_shut, ended_if}

-- of the current channel's window and of the next one's, where the edge is told or still to be told
pub record IsTelling (edge : Edge) (size : ℕ) (now next : Receiver) : Type 0 where
  pub window : IsWindow size
  pub within : now.received ≤ now.told
  pub closed : is_shut edge ≡ true → now.told ≡ 0
  pub nothing : next.received ≡ 0
  pub unopened : next.told ≡ 0

abbrev pub Tells : Edge → Line → Type 0
Tells edge line = IsTelling edge line.size line.current.window line.next.window

-- ---- PDUs come

-- what came stays within what was told, which stays
record Within (r t : Receiver) : Type 0 where
  same : t.told ≡ r.told
  within : r.received ≤ r.told → t.received ≤ t.told

-- the answer to a PDU, by the test whether it is within what was told
abbrev verdict_by : Receiver → ℕ → Bool → Result (Unit {0}) WindowExceeded
verdict_by r len b =
    cond b (Ok tt) (Err (record { reached = r.received + len; edge = r.told }))

fits : (r : Receiver) (len : ℕ) (b : Bool) → nat_le (r.received + len) r.told ≡ b
    → is_ok (verdict_by r len b) ≡ true → r.received + len ≤ r.told
fits r len true is e = grind (arith, nat_tests)
fits r len false is e = absurd (cc)

window_admits : (r : Receiver) (len : ℕ) → Within r (windows.after_admit r len)
window_admits r len =
    by_test (Within r) (is_ok (windows.admit_verdict r len))
    (record r { received = r.received + len }) r
    (λ e. record {
      same = refl;
      within = λ h. fits r len (nat_le (r.received + len) r.told) refl e;
    })
    (λ e. record { same = refl; within = λ h. h })

channel_admits : (c : Incoming) (pdu : List ℕ) → Within c.window (admitted c pdu).window
channel_admits c pdu =
    by_test (λ (x : Incoming). Within c.window x.window) (is_ok (channel_verdict c pdu)) _ c
    (λ e. window_admits c.window (length pdu)) (λ e. record { same = refl; within = λ h. h })

pub admitted_tells : (edge : Edge) (line : Line) (which : Which) (pdu : List ℕ)
    → Tells edge line → Tells edge (after_admit line which pdu)
admitted_tells edge line Current pdu h =
    let a = channel_admits line.current pdu in
    record {
      window = h.window;
      within = a.within h.within;
      closed = λ e. a.same ∙ h.closed e;
      nothing = h.nothing;
      unopened = h.unopened;
    }
admitted_tells edge line Next pdu h =
    let a = channel_admits line.next pdu in
    let came = a.within (omega (arith, h.nothing)) in
    record {
      window = h.window;
      within = h.within;
      closed = h.closed;
      nothing = omega (arith, came, a.same, h.unopened);
      unopened = a.same ∙ h.unopened;
    }

-- ---- END comes, and a PDU is taken

pub ended_tells : (edge : Edge) (line : Line) (which : Which) → Tells edge line
    → Tells edge (after_end line which)
ended_tells edge line Current h = record {
  window = h.window;
  within = h.within;
  closed = h.closed;
  nothing = h.nothing;
  unopened = h.unopened;
}
ended_tells edge line Next h = record {
  window = h.window;
  within = h.within;
  closed = h.closed;
  nothing = h.nothing;
  unopened = h.unopened;
}

pub released_tells : (edge : Edge) (line : Line) (pdu : List ℕ) (pdus : List (List ℕ))
    → Tells edge line → Tells edge (record line { current = released (pdu ∷ pdus) line.current })
released_tells edge line pdu pdus h = record {
  window = h.window;
  within = h.within;
  closed = h.closed;
  nothing = h.nothing;
  unopened = h.unopened;
}

-- ---- channels

pub opened_tells : (edge : Edge) (line : Line) (ended : Bool) → Tells edge line
    → Tells edge (ended_if ended (after_open_next line true))
opened_tells edge line true h = record {
  window = h.window;
  within = h.within;
  closed = h.closed;
  nothing = refl;
  unopened = refl;
}
opened_tells edge line false h = record {
  window = h.window;
  within = h.within;
  closed = h.closed;
  nothing = refl;
  unopened = refl;
}

-- the next channel is the current one: its window is shut, whether that is to be told or not
pub moved_tells : (old new : Edge) (line : Line) → Tells old line → Tells new (moved_on line)
moved_tells old new line h = record {
  window = h.window;
  within = omega (arith, h.nothing);
  closed = λ e. h.unopened;
  nothing = refl;
  unopened = refl;
}

-- ---- the window is told

pub told_tells : (old : Edge) (line : Line) → is_shut old ≡ true → Tells old line
    → Tells edge.Told (after_tell line Current)
told_tells old line e h =
    let shut = h.closed e in
    record {
      window = h.window;
      within = omega (arith, h.within, shut);
      closed = λ e. absurd (cc);
      nothing = h.nothing;
      unopened = h.unopened;
    }

-- an acknowledgement that is due
pub record IsDue (r : Receiver) (ack : Ack) : Type 0 where
  pub opened : 0 < r.told
  pub same : ack.received ≡ r.received
  pub received : ack.received < 2 ^ 32
  pub available : ack.available < 2 ^ 32

pub ack_is_due : (r : Receiver) → r.received ≤ r.told → IfSome (windows.due r) (IsDue r)
ack_is_due r within =
    by_test (λ (due : Option Ack). IfSome due (IsDue r)) (windows.is_due r) _ None
    (λ e. record {
      opened = grind (arith, nat_tests);
      same = refl;
      received = grind (arith, nat_tests);
      available = grind (arith, nat_tests);
    })
    (λ e. tt)

pub acked_tells : (edge : Edge) (line : Line) (ack : Ack) → IsDue line.current.window ack
    → Tells edge line → Tells edge (after_told line Current ack)
acked_tells edge line ack due h = record {
  window = h.window;
  within = omega (arith, due.same);
  closed = λ e. let shut = h.closed e in absurd (omega (arith, due.opened, shut));
  nothing = h.nothing;
  unopened = h.unopened;
}
