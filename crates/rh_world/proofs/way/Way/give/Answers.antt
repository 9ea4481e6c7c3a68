-- the PDU stands behind the others
use Rattle.std.proofs.Common.{◌≡◌, ℕ, ◌+◌, List, ◌++◌, ◌∷◌, [], Ok, refl, arith, sym, ap, ◌∙◌, subst, length}
use Rattle.std.specs.List.{concat}
use Rattle.rh_pdu.proofs.Pdus.{frame_bounds, none_from_pdu}
use Rattle.rh_world.specs.Carrying.{IsCarrying, way_with}
use Rattle.rh_world.specs.Direct.{Way, give}
use Rattle.rh_world.proofs.Ways.{given_carried, undrawn-push, give_done}
use Rattle.rh_world.proofs.way.Way.give.Goals as goal

pub overflow_cast-result : goal.overflow_cast-result
overflow_cast-result c =
    let is = c.in_default.ensures.pdu.0 refl in
    omega (arith, (frame_bounds c.args.pdu.now is.frame).1)

queued : (c : goal.After-self-1) → c.push.new.self ≡ c.self.inside.queue ++ c.args.pdu.now ∷ []
queued c = (rw c.if-not-push.false at c.push.ensures).pushed

undrawn : (c : goal.After-self-1)
    → c.self.inside.begun ++ concat c.push.new.self
    ≡ (c.self.inside.begun ++ concat c.self.inside.queue) ++ c.args.pdu.now
undrawn c =
    ap (λ (q : List (List ℕ)). c.self.inside.begun ++ concat q) (queued c)
    ∙ undrawn-push c.self.inside.begun c.self.inside.queue c.args.pdu.now

pub invariant_of-self-2 : goal.invariant_of-self-2
invariant_of-self-2 c =
    let f = c.self.inside in
    let is = c.in_default.ensures.pdu.0 refl in
    subst
    (λ (u : List ℕ). IsCarrying u f.flight.items f.framer f.untaken.pdus (f.given + 1) f.taken)
    (sym (undrawn c))
    (given_carried (f.begun ++ concat f.queue) f.flight.items f.framer f.untaken.pdus f.given
    f.taken c.args.pdu.now is.frame
    c.self.invariant)

pub returns : goal.returns
returns c =
    let f = c.self.inside in
    let way : Way =
    way_with f.queue f.begun f.flight.items f.framer f.untaken.pdus f.given f.taken in
    let sound = none_from_pdu c.args.pdu.now (c.in_default.ensures.pdu.0 refl) in
    let room = (rw c.if-not-push.false at c.push.ensures).room.0 refl in
    let done = give_done way c.args.pdu.now c.push.new.self _ sound room (queued c) (undrawn c) in
    let next : Way =
    record way {
      queue = c.push.new.self;
      undrawn = f.begun ++ concat c.push.new.self;
      given = f.given + 1;
    } in
    subst (λ (w : Way). (next, Ok (length c.args.pdu.now)) ≡ give w c.args.pdu.now)
    c.self.view_is done
