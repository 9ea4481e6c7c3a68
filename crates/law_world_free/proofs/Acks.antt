-- where no acknowledgement is put, none is due
use Rattle.law_order.proofs.Vocabulary.{◌≡◌, Bool, true, false, true≢false, ◌&&◌, ◌||◌, ◌==◌, not, Some, None, if◌then◌else◌, refl, sym, ap₂, ◌∙◌, subst, IfSome, Option, eq-eqb}
use Rattle.rh_keep.specs.Meters.{may_put}
use Rattle.rh_window.specs.Receiving as windows
use Rattle.rh_window.specs.declared.recv_window.Ack.{Ack}
use Rattle.rh_sig.specs.declared.lengths.TheConstants.{ACK_TO_LEN}
use Rattle.rh_line.specs.declared.which.Which.TheVariants.{Current}
use Rattle.rh_inproxy.specs.Acknowledging as in_acks
use Rattle.rh_inproxy.specs.State.{InProxy, has_a5}
use Rattle.rh_outproxy.specs.Acknowledging as out_acks
use Rattle.rh_outproxy.specs.OutProxy.{OutProxy, has_come}
use Rattle.rh_client.specs.Acknowledging as client
use Rattle.rh_client.specs.Replacements.{is_finished}
use Rattle.rh_client.specs.declared.state.ClientRole.{ClientRole}
use Rattle.rh_server.specs.Putting as server
use Rattle.rh_server.specs.States.{Server}
use Rattle.rh_server.specs.declared.state.InLeg.{InLeg}
use Rattle.law_world_free.specs.Free.{IsFreeClient}

-- of two answers the one is given
given_else : (b : Bool) (o : Option Ack) → b ≡ false → (if b then None else o) ≡ o
given_else true o e = absurd cc
given_else false o e = refl

given_then : (b : Bool) (o : Option Ack) → b ≡ true → (if b then o else None) ≡ o
given_then true o e = refl
given_then false o e = absurd cc

-- a lifetime lets an acknowledgement and doesn't let it
neither_lets : (o : Option Ack) (b : Bool) → IfSome o (λ (ack : Ack). b ≡ true)
    → IfSome o (λ (ack : Ack). b ≡ false) → o ≡ None
neither_lets None b lets refuses = refl
neither_lets (Some ack) b lets refuses = absurd (true≢false (sym lets ∙ refuses))

pub client_due : (c : ClientRole) → IsFreeClient c
    → IfSome (client.ack_due c Current) (λ ack. may_put c.writing.meter ACK_TO_LEN ≡ false)
    → c.line.current.ended ≡ false → is_finished c.replacement ≡ false
    → windows.due c.line.current.window ≡ None
client_due c free held ended finished =
    let due = windows.due c.line.current.window in
    let may : client.may_ack c Current ≡ true =
    ap₂ (λ (x y : Bool). not x && not y) ended finished in
    neither_lets due (may_put c.writing.meter ACK_TO_LEN) (free.acks Current)
    (subst (λ (o : Option Ack).
    IfSome o (λ (ack : Ack). may_put c.writing.meter ACK_TO_LEN ≡ false))
    (given_then (client.may_ack c Current) due may) held)

pub out_due : (o : OutProxy) → out_acks.ack_due o ≡ None → has_come o.end ≡ false
    → has_come o.handover ≡ false → windows.due o.line.current.window ≡ None
out_due o none end handover =
    sym (given_else (has_come o.end || has_come o.handover) (windows.due o.line.current.window)
    (ap₂ (λ (x y : Bool). x || y) end handover))
    ∙ none

pub in_due : (i : InProxy) → in_acks.ack_due i Current ≡ None → i.line.current.ended ≡ false
    → has_a5 i Current ≡ false → windows.due i.line.current.window ≡ None
in_due i none ended a5 =
    sym (given_else (i.line.current.ended || has_a5 i Current)
    (windows.due i.line.current.window) (ap₂ (λ (x y : Bool). x || y) ended a5))
    ∙ none

pub server_due : (s : Server) (leg : InLeg) → server.ack_due s leg ≡ None
    → leg.number ≡ s.current.leg → s.line.finished ≡ false → s.line.current.ended ≡ false
    → windows.due s.line.current.window ≡ None
server_due s leg none number finished ended =
    sym (given_then
    ((leg.number == s.current.leg) && (not s.line.finished && not s.line.current.ended))
    (windows.due s.line.current.window)
    (ap₂ (λ (x y : Bool). x && y) (eq-eqb leg.number s.current.leg number)
    (ap₂ (λ (x y : Bool). not x && not y) finished ended)))
    ∙ none
