-- which legs of an out proxy come up, where they come up as they may
use Rattle.law_order.proofs.Vocabulary.{◌≡◌, ◌&&◌, ◌||◌, Bool, true, false, if◌then◌else◌, IsTrue, refl, ap, and_parts}
use Rattle.rh_outproxy.specs.declared.state.Answer.TheVariants as answers
use Rattle.rh_outproxy.specs.declared.state.ClientLeg.TheVariants as clients
use Rattle.rh_outproxy.specs.declared.state.ServerLeg.TheVariants as servers
use Rattle.law_moves.proofs.Vocabulary.{Cookie, Leg, LegKind, ClientOut, OutServer, ClientIn, InServer}
use Rattle.law_role_outproxy.proofs.Vocabulary.{ClientLeg, OutProxy, is_client_down, is_client_marked, is_known, is_server_down, is_co, is_os, up, wants, rules as proxy_rules}

abbrev pub MayUp : OutProxy → Leg → Type 0
MayUp s leg = IsTrue (proxy_rules.may_up s leg)

apart : (s : OutProxy) (leg : Leg) → is_co s leg ≡ true → is_os s leg ≡ false
apart s leg here = by leg.kind here
  where
    by : (kind : LegKind) → is_co s (record { kind = kind; number = leg.number }) ≡ true
        → is_os s (record { kind = kind; number = leg.number }) ≡ false
    by ClientOut e = refl
    by OutServer e = absurd cc
    by ClientIn e = absurd cc
    by InServer e = absurd cc

other_one : (a b : Bool) → a || b ≡ true → a ≡ false → b ≡ true
other_one true b e f = absurd cc
other_one false b e f = e

first_one : (a b c : Bool) → a || (b && c) ≡ true → b ≡ false → a ≡ true
first_one true b c e f = refl
first_one false true c e f = absurd cc
first_one false false c e f = absurd cc

down_is_free : (leg : ClientLeg) → is_client_down leg ≡ true → is_client_marked leg ≡ false
down_is_free clients.Down e = refl
down_is_free clients.Up e = absurd cc
down_is_free clients.Marked e = absurd cc

-- the client's leg comes up once, so it is lost for good
pub up_has_client : (s : OutProxy) (leg : Leg) (cookie : Cookie) → MayUp s leg
    → is_client_marked (up s leg cookie).client ≡ false → is_client_marked s.client ≡ false
up_has_client s leg cookie may free = by (is_co s leg) refl free
  where
    by : (t : Bool) → is_co s leg ≡ t
        → is_client_marked (if t then record s { client = clients.Up }
        else record s { server = servers.FirstDue; answer = answers.ResponseDue }).client ≡ false
        → is_client_marked s.client ≡ false
    by true e f =
        let unwanted : wants s leg ≡ false =
        ap (λ (t : Bool). t && (is_known s.channel && is_server_down s.server)) (apart s leg e) in
        let here = other_one (wants s leg) (is_co s leg && is_client_down s.client) may unwanted in
        down_is_free s.client (and_parts (is_co s leg) (is_client_down s.client) here).1
    by false e f = f

-- the leg to the server comes up once the channel is known
pub up_is_wanted : (s : OutProxy) (leg : Leg) → MayUp s leg → is_co s leg ≡ false
    → (is_known s.channel ≡ true) × (is_server_down s.server ≡ true)
up_is_wanted s leg may e =
    let wanted = first_one (wants s leg) (is_co s leg) (is_client_down s.client) may e in
    let both = and_parts (is_os s leg) (is_known s.channel && is_server_down s.server) wanted in
    and_parts (is_known s.channel) (is_server_down s.server) both.1
