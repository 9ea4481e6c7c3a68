-- legs that are not lost, and an out proxy that has no use for one
use Rattle.std.specs.List.{AllByRecursion}
use Rattle.rh_shell.specs.declared.answers.Phase.TheVariants as phases
use Rattle.rh_outproxy.specs.Machine as out_proxy
use Rattle.rh_outproxy.specs.OutProxy.{is_over, is_server_down}
use Rattle.law_order.proofs.Vocabulary.{◌≡◌, ◌&&◌, if◌then◌else◌, Bool, true, false, true≢false, not, List, [], ◌∷◌, refl}
use Rattle.law_moves.proofs.Vocabulary.{neither, Leg, is_ended, is_at_work, is_in_use, Event, ComesUp, Hears, Ends, Breaks, Draws, Ticks}
use Rattle.law_role_outproxy.proofs.Vocabulary.{OutProxy}
use Rattle.law_node_marks.specs.Losing.{KeepsLeg}
use Rattle.law_world_ways.specs.OnPaths.Lost.{is_loss_of, was_lost}

one_keeps : (leg : Leg) (event : Event) → is_loss_of leg event ≡ false → KeepsLeg leg event
one_keeps leg (Ends other) e = e
one_keeps leg (Breaks other) e = e
one_keeps leg (ComesUp other cookie) e = tt
one_keeps leg (Hears other piece) e = tt
one_keeps leg (Draws other room) e = tt
one_keeps leg (Ticks now) e = tt

pub all_keep : (leg : Leg) (events : List Event) → was_lost leg events ≡ false
    → AllByRecursion (KeepsLeg leg) events
all_keep leg [] e = tt
all_keep leg (event ∷ events) e =
    let both = neither (is_loss_of leg event) (was_lost leg events) e in
    (one_keeps leg event both.0, all_keep leg events both.1)

pub alone : (a : Bool) → (a && true) ≡ false → a ≡ false
alone true e = absurd (true≢false e)
alone false e = refl

-- an out proxy that has no use for a leg is done
pub out_rests : (s : OutProxy) (leg : Leg) → is_in_use out_proxy.rules s leg ≡ false
    → is_at_work out_proxy.rules s ≡ false
out_rests s leg = by (is_over s)
  where
    by : (b : Bool)
        → (not (is_ended (if b then phases.Ended
        else (if is_server_down s.server then phases.Opening else phases.Open))) && not b) ≡ false
        → not (is_ended (if b then phases.Ended
        else (if is_server_down s.server then phases.Opening else phases.Open))) ≡ false
    by true e = refl
    by false e =
        alone (not (is_ended (if is_server_down s.server then phases.Opening else phases.Open))) e
