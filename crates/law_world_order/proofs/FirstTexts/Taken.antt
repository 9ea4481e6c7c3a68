-- proxies take the requests of a client whose numbers are in their ranges, and no such request is
-- one for an echo
use Rattle.law_order.proofs.Vocabulary.{◌≡◌, inl, inr, ℕ, ◌≤◌, List, [], ◌∷◌, true, false, nat_le, Ok, Err, arith, refl, sym, ap, ◌∙◌, IsTrue, AllByRecursion, Result, nat_tests}
use Rattle.rh_shell.specs.declared.answers.HeadRefused.TheVariants as head
use Rattle.rh_inproxy.specs.Machine as in_proxy
use Rattle.rh_inproxy.specs.Opening as in_opening
use Rattle.rh_outproxy.specs.Machine as out_proxy
use Rattle.rh_outproxy.specs.Opening as out_opening
use Rattle.law_moves.proofs.Vocabulary.{by_test, ClientConfig, HttpFault, greatest_echo, may_ask, Asked, request_verdict, host_text, Leg, ClientIn, ClientOut, HeadRefused, HeadTaken, Move, Up, HeadCame, PduCame, PacketCame, Puts, IsDrawn, Marks, Pings}
use Rattle.law_role_inproxy.proofs.Vocabulary.{ECHO_LENGTH, InProxy}
use Rattle.law_role_client.proofs.Vocabulary.{IsConfig}
use Rattle.law_node_history.proofs.Vocabulary.{cookie_of}
use Rattle.law_role_outproxy.proofs.Vocabulary.{OutProxy}
use Rattle.rh_world.specs.Roles as roles
use Rattle.law_node_streams.specs.Streams.{IsFirstHead, IsHeadOf}
use Rattle.law_node_begins.specs.EndsBegin.{IsRequestOf}
use Rattle.law_node_begins.specs.ProxiesBegin.Echoes.{AsksNoEcho}
use Rattle.law_world_reports.proofs.Vocabulary.{WorldConfig}
use Rattle.law_world_order.proofs.FirstTexts.Requests.{request_asks}
use Rattle.law_world_order.proofs.Vocabulary.{IsPort}

-- the server of a recording has a port
pub recorded_port : (config : WorldConfig)
    → IsPort (roles.client_config config (cookie_of 1) (cookie_of 2)).port
recorded_port config = record { least = omega arith; most = omega arith }

abbrev pub asked_for : ClientConfig → ℕ → Asked
asked_for config n = record { host = host_text config.host; port = config.port; length = n }

-- ---- OUT channels

out_takes : (s : OutProxy) (request : Asked) (fault : HttpFault)
    → (out_opening.asked s request).1 ≡ Err (head.Request fault) → ⊥
out_takes s request fault =
    by_test (λ (x : OutProxy × Result HeadTaken HeadRefused).
    x.1 ≡ Err (head.Request fault) → ⊥) (nat_le request.length greatest_echo) _ _
    (λ t e. absurd cc) (λ t e. absurd cc)

out_judged : (s : OutProxy) (verdict : Result Asked HttpFault) (request : Asked)
    (fault : HttpFault) → verdict ≡ Ok request
    → (out_opening.head_by s verdict).1 ≡ Err (head.Request fault) → ⊥
out_judged s (Ok other) request fault is = out_takes s other fault
out_judged s (Err wrong) request fault is = absurd cc

pub out_asks : (config : ClientConfig) (text : List ℕ) → IsPort config.port
    → IsRequestOf config ClientOut text
    → (request : Asked) × (request_verdict false text ≡ Ok request)
out_asks config text port (inl is) = (
  asked_for config 76,
  ap (request_verdict false) is ∙ request_asks false config 76 port refl,
)
out_asks config text port (inr is) = (
  asked_for config 120,
  ap (request_verdict false) is ∙ request_asks false config 120 port refl,
)

pub out_taken : (config : ClientConfig) (s : OutProxy) (leg : Leg) (text : List ℕ)
    (fault : HttpFault) → IsPort config.port → IsRequestOf config ClientOut text
    → (out_proxy.rules.head s leg text).1 ≡ Err (head.Request fault) → ⊥
out_taken config s leg text fault port is =
    let asks = out_asks config text port is in
    out_judged s (request_verdict false text) asks.0 fault asks.1

-- ---- IN channels

in_takes : (s : InProxy) (number : ℕ) (request : Asked) (fault : HttpFault)
    → (in_opening.head_by s number (Ok request)).1 ≡ Err (head.Request fault) → ⊥
in_takes s number request fault =
    by_test (λ (x : InProxy × Result HeadTaken HeadRefused).
    x.1 ≡ Err (head.Request fault) → ⊥) (nat_le request.length ECHO_LENGTH) _ _
    (λ t e. absurd cc) (λ t e. absurd cc)

in_judged : (s : InProxy) (number : ℕ) (verdict : Result Asked HttpFault) (request : Asked)
    (fault : HttpFault) → verdict ≡ Ok request
    → (in_opening.head_by s number verdict).1 ≡ Err (head.Request fault) → ⊥
in_judged s number (Ok other) request fault is = in_takes s number other fault
in_judged s number (Err wrong) request fault is = absurd cc

may_open : (n : ℕ) → 131072 ≤ n → n ≤ 2147483648 → IsTrue (may_ask true n)
may_open n least most = grind (arith, nat_tests)

pub in_asks : (config : ClientConfig) (text : List ℕ) → IsConfig config → IsPort config.port
    → IsRequestOf config ClientIn text
    → request_verdict true text ≡ Ok (asked_for config config.lifetime)
in_asks config text range port is =
    ap (request_verdict true) is
    ∙ request_asks true config config.lifetime port
    (may_open config.lifetime range.lifetime.0 range.lifetime.1)

pub in_taken : (config : ClientConfig) (s : InProxy) (leg : Leg) (text : List ℕ)
    (fault : HttpFault) → IsConfig config → IsPort config.port
    → IsRequestOf config ClientIn text
    → (in_proxy.rules.head s leg text).1 ≡ Err (head.Request fault) → ⊥
in_taken config s leg text fault range port is =
    in_judged s leg.number (request_verdict true text) (asked_for config config.lifetime) fault
    (in_asks config text range port is)

no_echo : (n : ℕ) → 131072 ≤ n → nat_le n ECHO_LENGTH ≡ false
no_echo n least = grind (arith, nat_tests)

-- where each head is the request
pub none_echoes : (config : ClientConfig) (leg : Leg) (heard : List ℕ) (moves : List Move)
    → IsConfig config → IsPort config.port
    → ((text : List ℕ) → IsFirstHead text heard → IsRequestOf config ClientIn text)
    → AllByRecursion (IsHeadOf leg heard) moves → AllByRecursion (AsksNoEcho leg) moves
none_echoes config leg heard [] range port honest all = tt
none_echoes config leg heard (move ∷ moves) range port honest all =
    (one move all.0, none_echoes config leg heard moves range port honest all.1)
  where
    long : (request : Asked) → request ≡ asked_for config config.lifetime
        → nat_le request.length ECHO_LENGTH ≡ false
    long request is =
        ap (λ (x : Asked). nat_le x.length ECHO_LENGTH) is
        ∙ no_echo config.lifetime range.lifetime.0

    one : (m : Move) → IsHeadOf leg heard m → AsksNoEcho leg m
    one (HeadCame other text) h = λ same request read.
        let both : Ok request ≡ Ok (asked_for config config.lifetime) =
        sym read ∙ in_asks config text range port (honest text (h same)) in
        long request cc
    one (Up other cookie) h = tt
    one (PduCame other count pdu) h = tt
    one (PacketCame other count named) h = tt
    one (Puts other) h = tt
    one (IsDrawn other) h = tt
    one (Marks other) h = tt
    one (Pings other) h = tt
