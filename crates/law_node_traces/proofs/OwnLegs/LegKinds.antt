-- of which legs each role keeps ends
use Rattle.law_order.proofs.Vocabulary.{◌≡◌, ◌⊎◌, inl, inr, ℕ, length, cond, Bool, true, false, refl, sym, ap, subst, ⊎_elim, ◌&&◌, and_parts, or_cases}
use Rattle.rh_shell.specs.Intakes.{Over}
use Rattle.rh_inproxy.specs.State.{InProxy, is_client_leg, is_server_leg}
use Rattle.rh_inproxy.specs.Machine as in_proxy
use Rattle.rh_inproxy.specs.Opening as in_opening
use Rattle.rh_outproxy.specs.OutProxy.{OutProxy, is_client_down}
use Rattle.rh_outproxy.specs.Rows.{co, is_co, is_os, os}
use Rattle.rh_outproxy.specs.Machine as out_proxy
use Rattle.rh_outproxy.specs.Opening as out_opening
use Rattle.rh_server.specs.Opening.{may_up_by}
use Rattle.rh_server.specs.States.{Server}
use Rattle.rh_server.specs.Servers as server
use Rattle.law_moves.proofs.Vocabulary.{Leg, LegKind, ClientOut, OutServer, ClientIn, InServer, Turn, heading, heard, is_greeting, take_frame, touched, with_intake, take as taken, Came, Nothing, Head, Greeting, Frame, Fault, on_byte, NearEnd, Rules, same_leg}
use Rattle.law_moves.proofs.Lemmas.{head_leg, frame_leg, leg_is}
use Rattle.law_node_traces.proofs.OwnLegs.Ends.{StaysSo}
use Rattle.law_node_traces.proofs.Vocabulary.{IsOfInProxy, IsOfOutProxy, IsOfServer}

-- ---- the leg of an end stays where a byte is heard

greeting_leg : {S : Type 0} (t : Bool) (a b : Turn S) (leg : Leg) → a.end.leg ≡ leg
    → b.end.leg ≡ leg → (cond t a b).end.leg ≡ leg
greeting_leg true a b leg p q = p
greeting_leg false a b leg p q = q

module _ {S : Type 0} (rules : Rules S) where
  came_leg : (end : NearEnd) (role : S) (c : Came) → (taken rules end role c).end.leg ≡ end.leg
  unfolding taken
  came_leg end role Nothing = refl
  came_leg end role (Head text) =
      head_leg end end.leg (length text) (rules.head role end.leg text)
  came_leg end role (Greeting text) = greeting_leg (is_greeting text) _ _ end.leg refl refl
  came_leg end role (Frame at frame) =
      frame_leg end (take_frame rules (heading end at) role frame)
  came_leg end role (Fault at fault) = refl
  came_leg end role (Over told) = refl

  pub heard_leg : (now : ℕ) (end : NearEnd) (role : S) (b : ℕ)
      → (heard rules now end role b).end.leg ≡ end.leg
  heard_leg now end role b =
      let next = on_byte end.intake b in
      came_leg (with_intake (touched end now) next.0) role next.1

  -- so what holds of the legs that may be up holds of the legs of all ends
  pub by_legs : (On : Leg → Type 0)
      → ((role : S) (leg : Leg) → rules.may_up role leg ≡ true → On leg)
      → StaysSo rules (λ end. On end.leg)
  by_legs On may = record {
    comes = λ role leg now is. may role leg is;
    hears = λ now end role b is. subst On (sym (heard_leg now end role b)) is;
    like = λ a b leg intake is. subst On (sym leg) is;
  }

-- ---- the legs that may be up

kind_of : (a b : Leg) → same_leg a b ≡ true → b.kind ≡ a.kind
kind_of a b same = sym (ap (λ (l : Leg). l.kind) (leg_is a b same))

pub out_proxy_kinds : (s : OutProxy) (leg : Leg) → out_proxy.rules.may_up s leg ≡ true
    → IsOfOutProxy leg
out_proxy_kinds s leg may =
    ⊎_elim (λ wants. inr (kind_of (os s) leg (and_parts (is_os s leg) _ wants).0))
    (λ accepts. inl (kind_of (co s) leg (and_parts (is_co s leg) _ accepts).0))
    (or_cases (out_opening.wants s leg) (is_co s leg && is_client_down s.client) may)

client_leg : (kind : LegKind) (n : ℕ)
    → is_client_leg (record { kind = kind; number = n }) ≡ true → kind ≡ ClientIn
client_leg ClientIn n is = refl
client_leg ClientOut n is = absurd cc
client_leg OutServer n is = absurd cc
client_leg InServer n is = absurd cc

pub in_proxy_kinds : (s : InProxy) (leg : Leg) → in_proxy.rules.may_up s leg ≡ true
    → IsOfInProxy leg
in_proxy_kinds s leg may =
    ⊎_elim
    (λ wants. inr (kind_of (record { kind = InServer; number = s.config.number }) leg
    (and_parts (is_server_leg s leg) _ wants).0))
    (λ accepts. inl (client_leg leg.kind leg.number (and_parts (is_client_leg leg) _ accepts).0))
    (or_cases (in_opening.wants s leg) (in_opening.may_accept s leg) may)

pub server_kinds : (s : Server) (leg : Leg) → server.rules.may_up s leg ≡ true → IsOfServer leg
server_kinds s leg may = by leg.kind may
  where
    by : (kind : LegKind) → may_up_by s leg.number kind ≡ true
        → (kind ≡ InServer) ⊎ (kind ≡ OutServer)
    by InServer is = inl refl
    by OutServer is = inr refl
    by ClientIn is = absurd cc
    by ClientOut is = absurd cc
