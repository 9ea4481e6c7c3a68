use Rattle.std.proofs.Common.{◌≡◌, ◌+◌, length, sym, ◌∙◌, ap, arith}
use Rattle.std.specs.Prelude.{is_ok, if◌then◌else◌}
use Rattle.std.specs.declared.result.Result.{Result}
use Rattle.rh_pdu.proofs.Pdus.{frame_bounds}
use Rattle.rh_window.specs.declared.fault.WindowExceeded.{WindowExceeded}
use Rattle.rh_line.specs.Lines.{IsIncoming}
use Rattle.rh_line.proofs.Channels.{counts_more}
use Rattle.rh_line.proofs.channel.Channel.admit.Goals as goal

pub overflow_cast-pdu : goal.overflow_cast-pdu
overflow_cast-pdu c =
    let bounds = frame_bounds c.args.pdu.now c.requires.frame in omega (arith, bounds.1)

-- the window counts the PDU
counted : (c : goal.After-push) → c.admit.new.self
    ≡ record c.self.inside.window {
      received = c.self.inside.window.received + length c.args.pdu.now;
    }
counted c =
    let w = c.self.inside.window in
    let more = w.received + length c.args.pdu.now in
    c.admit.ensures.new
    ∙ ap (λ (v : Result (Unit {0}) WindowExceeded).
    if is_ok v then record w { received = more } else w)
    (sym c.in_default.ensures.verdict)

sound : (c : goal.After-push) → IsIncoming record {
  pdus = c.push.new.self.pdus;
  ended = c.self.inside.ended;
  window = c.admit.new.self;
}
sound c =
    rw c.push.ensures
    (counts_more _ c.args.pdu.now c.admit.new.self c.self.invariant.0 c.requires
    c.admit.ensures.side (counted c))

pub invariant_of-self-2 : goal.invariant_of-self-2
invariant_of-self-2 c =
    (sound c, rw (c.push.ensures, counted c) c.self.invariant.1)

pub returns-clause-sound : goal.returns-clause-sound
returns-clause-sound c = sound c
