-- laws of a hop: what each event keeps, and what all of them together keep
use Rattle.std.proofs.Common.{◌≡◌, ◌≤◌, List, [], ◌∷◌, Ok, inl, inr, arith, subst, rules}
use Rattle.std.proofs.lemmas.Bool.Decides.{nat_tests}
use Rattle.std.proofs.lemmas.List.Elements.{Contains-push, Contains-push_cases}
use Rattle.std.specs.List.{Contains}
use Rattle.rh_window.specs.declared.recv_window.Ack.{Ack}
use Rattle.rh_window.specs.Sides.{IsSender, IsReceiver}
use Rattle.rh_window.specs.Sending.{ack_verdict}
use Rattle.rh_window.specs.Receiving.{due}
use Rattle.rh_window.specs.Hops.{Hop, IsHop, IsOnItsWay, Event, Hears, Tells, Leaves}
use Rattle.rh_window.specs.Hops.{after, CanHappen, CanRun, run, Rises, IsAnnounced, LosesNone}

-- an acknowledgement on its way is of what was sent, and its window is none too great
pub taken_on_its_way : (h : Hop) (ack : Ack) → IsHop h → IsOnItsWay h ack
    → ack_verdict h.sender ack.received ack.available ≡ Ok tt
taken_on_its_way h ack hop way = search rules

pub rises : (h : Hop) (event : Event) → IsHop h → CanHappen h event → Rises h (after h event)
rises = search rules

sender_kept : (h : Hop) (event : Event) → IsHop h → CanHappen h event
    → IsSender (after h event).sender
sender_kept = search rules

receiver_kept : (h : Hop) (event : Event) → IsHop h → CanHappen h event
    → IsReceiver (after h event).receiver
receiver_kept = search rules

received_kept : (h : Hop) (event : Event) → IsHop h → CanHappen h event
    → (after h event).receiver.received ≤ (after h event).sender.sent
received_kept = search rules

edge_kept : (h : Hop) (event : Event) → IsHop h → CanHappen h event
    → (after h event).sender.edge ≤ (after h event).receiver.told
edge_kept h (Hears ack) hop can = let way = hop.acks ack can in grind (arith, nat_tests)
edge_kept h event hop can = search rules

size_kept : (h : Hop) (event : Event) → (after h event).receiver.size ≡ h.receiver.size
size_kept = search rules

-- an acknowledgement stays within what was sent and told, since these only rise
stays_on_its_way : (h : Hop) (event : Event) (ack : Ack) → IsHop h → CanHappen h event
    → IsOnItsWay h ack → IsOnItsWay (after h event) ack
stays_on_its_way h event ack hop can way =
    let up = rises h event hop can in
    let size = size_kept h event in
    record { sent = omega arith; told = omega arith; within = omega arith }

-- the one that is due is of what came, and tells up to where the window reaches
due_on_its_way : (h : Hop) (ack : Ack) → IsHop h → CanHappen h (Tells ack)
    → IsOnItsWay (after h (Tells ack)) ack
due_on_its_way h ack hop can = search rules

acks_kept : (h : Hop) (event : Event) → IsHop h → CanHappen h event → (ack : Ack)
    → Contains (after h event).acks ack → IsOnItsWay (after h event) ack
acks_kept h (Tells due) hop can ack on =
    let told = after h (Tells due) in
    elim (Contains-push_cases h.acks due ack on) [
      | inl before ↦ stays_on_its_way h (Tells due) ack hop can (hop.acks ack before)
      | inr same ↦ subst (λ (a : Ack). IsOnItsWay told a) same (due_on_its_way h due hop can)
    ]
acks_kept h (Leaves acks) hop can ack on = let way = hop.acks ack (can ack on) in search rules
acks_kept h event hop can ack on = stays_on_its_way h event ack hop can (hop.acks ack on)

pub step_kept : (h : Hop) (event : Event) → IsHop h → CanHappen h event → IsHop (after h event)
step_kept h event hop can = record {
  sender = sender_kept h event hop can;
  receiver = receiver_kept h event hop can;
  received = received_kept h event hop can;
  edge = edge_kept h event hop can;
  acks = acks_kept h event hop can;
}

rises_along : (h k l : Hop) → Rises h k → Rises k l → Rises h l
rises_along = search rules

pub run_kept : (events : List Event) (h : Hop) → IsHop h → CanRun h events → IsHop (run h events)
run_kept [] h hop can = hop
run_kept (event ∷ events) h hop can =
    run_kept events (after h event) (step_kept h event hop can.0) can.1

pub run_rises : (events : List Event) (h : Hop) → IsHop h → CanRun h events → Rises h (run h events)
run_rises [] h hop can = search rules
run_rises (event ∷ events) h hop can =
    let next = step_kept h event hop can.0 in
    rises_along _ _ _ (rises h event hop can.0) (run_rises events (after h event) next can.1)

-- ---- what the sender is to know

pub announced_kept : (h : Hop) (event : Event) → IsHop h → IsAnnounced h → CanHappen h event
    → LosesNone h event → IsAnnounced (after h event)
announced_kept h (Tells due) hop announced can none = record {
  opened = omega (arith, rises h (Tells due) hop can);
  coming = λ less. (due, Contains-push h.acks due, omega arith);
}
announced_kept h (Leaves acks) hop announced can none = record {
  opened = announced.opened;
  coming = λ less.
      let coming = announced.coming less in
      let left = none coming.0 coming.1 (omega arith) in
      (left.0, left.1, omega arith);
}
announced_kept h event hop announced can none = search rules
