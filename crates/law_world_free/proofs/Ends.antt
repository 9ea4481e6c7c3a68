-- free ends hold their first PDU for the window alone
use Rattle.law_order.proofs.Vocabulary.{◌≡◌, ℕ, Bool, true, false, ◌&&◌, ◌==◌, Some, None, refl, subst, IfSome, Option, eq-eqb}
use Rattle.rh_keep.specs.Meters.{may_put}
use Rattle.rh_window.specs.Sending.{may_send}
use Rattle.rh_line.specs.Queue.{front_length}
use Rattle.rh_client.specs.Putting.{lets_pdu}
use Rattle.rh_client.specs.State.{is_open}
use Rattle.rh_client.specs.declared.state.ClientRole.{ClientRole}
use Rattle.rh_server.specs.OutLegs.{may_go}
use Rattle.rh_server.specs.States.{Server, out_leg}
use Rattle.rh_server.specs.declared.state.OutLeg.{OutLeg}
use Rattle.law_world_free.specs.Drained.{WaitsForWindow}
use Rattle.law_world_free.specs.Free.{IsFreeClient, IsFreeServer, LetsServer}

-- of three tests the one in the middle fails
middle : (open_now sends lets : Bool) → open_now && (sends && lets) ≡ false → open_now ≡ true
    → lets ≡ true → sends ≡ false
middle true true true fails a b = fails
middle true true false fails a b = absurd cc
middle true false lets fails a b = refl
middle false sends lets fails a b = absurd cc

first_waits : (o : Option ℕ) (open_now : Bool) (sends lets : ℕ → Bool)
    → IfSome o (λ (len : ℕ). open_now && (sends len && lets len) ≡ false) → open_now ≡ true
    → IfSome o (λ (len : ℕ). lets len ≡ true) → IfSome o (λ (len : ℕ). sends len ≡ false)
first_waits None open_now sends lets held is free = tt
first_waits (Some len) open_now sends lets held is free =
    middle open_now (sends len) (lets len) held is free

pub client_waits : (c : ClientRole) → IsFreeClient c → is_open c.phase ≡ true
    → IfSome (front_length c.queue) (λ len. lets_pdu c len ≡ false)
    → WaitsForWindow c.writing.window c.queue
client_waits c free is held =
    first_waits (front_length c.queue) (is_open c.phase)
    (λ (len : ℕ). may_send c.writing.window len) (λ (len : ℕ). may_put c.writing.meter len) held is
    free.pdu

pub server_waits : (s : Server) (leg : OutLeg) → IsFreeServer s
    → out_leg s.writing s.outs ≡ Some leg → leg.number ≡ s.writing
    → IfSome (front_length s.queue) (λ len. may_go leg s.writing len ≡ false)
    → WaitsForWindow leg.window s.queue
server_waits s leg free kept number held =
    let lets = subst (λ (o : Option OutLeg). IfSome o (λ (l : OutLeg). LetsServer s l.meter)) kept
    free in
    first_waits (front_length s.queue) (leg.number == s.writing)
    (λ (len : ℕ). may_send leg.window len) (λ (len : ℕ). may_put leg.meter len) held
    (eq-eqb leg.number s.writing number) lets.pdu
