-- which lengths roles take of heads
use Rattle.law_order.proofs.Vocabulary.{◌≡◌, ◌⊎◌, inl, inr, ℕ, List, false, nat_le, Ok, Err, refl, sym, ap, ◌∙◌, subst, IsTrue, Result}
use Rattle.rh_inproxy.specs.Machine as in_proxy
use Rattle.rh_inproxy.specs.Opening as in_opening
use Rattle.rh_outproxy.specs.Machine as out_proxy
use Rattle.rh_outproxy.specs.Opening as out_opening
use Rattle.rh_client.specs.Client as client
use Rattle.rh_client.specs.Opening as client_opening
use Rattle.rh_server.specs.Servers as server
use Rattle.law_moves.proofs.Vocabulary.{by_test, ClientConfig, HttpFault, Response, greatest_echo, may_ask, Asked, request_verdict, response_verdict, Leg, LegKind, ClientOut, OutServer, ClientIn, InServer, HeadRefused, HeadTaken}
use Rattle.law_role_inproxy.proofs.Vocabulary.{ECHO_LENGTH, InProxy}
use Rattle.law_role_client.proofs.Vocabulary.{IsConfig}
use Rattle.law_role_outproxy.proofs.Vocabulary.{OutProxy}
use Rattle.law_world_order.proofs.FirstTexts.Requests.{request_asks}
use Rattle.law_world_order.proofs.FirstTexts.Taken.{asked_for, in_asks}
use Rattle.law_world_order.proofs.Vocabulary.{IsPort}
use Rattle.law_world_bodies.specs.Behind.{TakesHead}
use Rattle.law_world_bodies.specs.Bodies.{RequestTells}

-- what is taken has its length
pub length_of : (a b : HeadTaken) → ◌≡◌ {A = Result HeadTaken HeadRefused} (Ok a) (Ok b)
    → b.length ≡ a.length
length_of a b e = let same : a ≡ b = cc in sym (ap (λ (x : HeadTaken). x.length) same)

-- ---- IN channels

in_length : (s : InProxy) (number : ℕ) (request : Asked) (taken : HeadTaken)
    → (in_opening.head_by s number (Ok request)).1 ≡ Ok taken → taken.length ≡ request.length
in_length s number request taken =
    by_test (λ (x : InProxy × Result HeadTaken HeadRefused).
    x.1 ≡ Ok taken → taken.length ≡ request.length) (nat_le request.length ECHO_LENGTH) _ _
    (λ t e. length_of _ taken e) (λ t e. length_of _ taken e)

pub in_takes : (config : ClientConfig) (leg : Leg) (text : List ℕ) (n told : ℕ) → IsConfig config
    → IsPort config.port → RequestTells config ClientIn n text
    → TakesHead in_proxy.rules leg text told → n ≡ told
in_takes config leg text n told range port tells h =
    tells.0
    ∙ sym (in_length h.role leg.number (asked_for config config.lifetime) h.taken
    (ap (λ (r : Result Asked HttpFault). (in_opening.head_by h.role leg.number r).1)
    (sym (in_asks config text range port tells.1)) ∙ h.takes)) ∙ h.tells

-- ---- OUT channels

out_length : (s : OutProxy) (request : Asked) (taken : HeadTaken)
    → (out_opening.asked s request).1 ≡ Ok taken → taken.length ≡ request.length
out_length s request taken =
    by_test (λ (x : OutProxy × Result HeadTaken HeadRefused).
    x.1 ≡ Ok taken → taken.length ≡ request.length) (nat_le request.length greatest_echo) _ _
    (λ t e. length_of _ taken e) (λ t e. length_of _ taken e)

may_open : (n : ℕ) → (n ≡ 76) ⊎ (n ≡ 120) → IsTrue (may_ask false n)
may_open n (inl is) = subst (λ (k : ℕ). IsTrue (may_ask false k)) (sym is) refl
may_open n (inr is) = subst (λ (k : ℕ). IsTrue (may_ask false k)) (sym is) refl

pub out_takes : (config : ClientConfig) (leg : Leg) (text : List ℕ) (n told : ℕ)
    → IsPort config.port → RequestTells config ClientOut n text
    → TakesHead out_proxy.rules leg text told → n ≡ told
out_takes config leg text n told port tells h =
    sym (out_length h.role (asked_for config n) h.taken
    (ap (λ (r : Result Asked HttpFault). (out_opening.head_by h.role r).1)
    (sym (ap (request_verdict false) tells.1
    ∙ request_asks false config n port (may_open n tells.0))) ∙ h.takes)) ∙ h.tells

-- ---- the ends

client_kind : (kind : LegKind) (r : Result Response HttpFault) (taken : HeadTaken)
    → client_opening.head_by kind r ≡ Ok taken → kind ≡ ClientOut
client_kind ClientOut r taken e = refl
client_kind kind (Err fault) taken e = absurd (cc)
client_kind OutServer (Ok response) taken e = absurd (cc)
client_kind ClientIn (Ok response) taken e = absurd (cc)
client_kind InServer (Ok response) taken e = absurd (cc)

pub client_takes : (leg : Leg) (text : List ℕ) (told : ℕ)
    → TakesHead client.rules leg text told → leg.kind ≡ ClientOut
client_takes leg text told h =
    client_kind leg.kind (response_verdict text) h.taken h.takes

pub server_takes : (leg : Leg) (text : List ℕ) (told : ℕ)
    → TakesHead server.rules leg text told → ⊥
server_takes leg text told h = let bad = h.takes in absurd (cc)
