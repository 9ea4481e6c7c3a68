-- a proxy that drew what refuses its client refused it, or put a response of success
use Rattle.law_order.proofs.Vocabulary.{◌≡◌, ℕ, ◌≤◌, ◌⊎◌, inl, inr, List, [], ◌∷◌, ◌++◌, length, true, Some, arith, refl, sym, ap, ◌∙◌, subst, AllByRecursion, append-nil, length-append, IsPrefix}
use Rattle.law_moves.proofs.Vocabulary.{prefix_trans, CoD, refusal_told, response_told, Refusal, refusal_text, response_text, status_of, is_whole, Leg, ClientOut, Message, Text, Pdu, Packet, spelled, Begins}
use Rattle.law_role_inproxy.proofs.Vocabulary.{echo_packet}
use Rattle.law_role_outproxy.proofs.Vocabulary.{OutProxyConfig, IsConfig}
use Rattle.law_node_streams.specs.Streams.{IsDrawn}
use Rattle.law_world_order.proofs.FirstTexts.InTexts.{IsEcho, echo_begins}
use Rattle.law_world_order.proofs.FirstTexts.OutTexts.{IsSuccess, Succeeds, in_range, success_begins}
use Rattle.law_world_order.proofs.FirstTexts.Told.{front_told, read_whole}
use Rattle.law_world_honest.proofs.Refusals.Drawn.{refused_more}
use Rattle.law_world_honest.specs.Refusals.Refused.{BeginsRefused, DrewRefusal}

-- no text is a front of nothing, and is a response
pub none_refused : (leg : Leg) (status : ℕ) → BeginsRefused [] leg status → ⊥
none_refused leg status b =
    by b.text b.front.0 b.front.1 (read_whole b.text b.refused.response b.refused.read)
  where
    by : (text rest : List ℕ) → text ++ rest ≡ [] → is_whole text ≡ true → ⊥
    by [] rest e w = absurd cc
    by (x ∷ text) rest e w = absurd cc

-- what begins with a response of success refuses with its status, if at all
success_told : (k : ℕ) (behind bytes : List ℕ) (leg : Leg) (status : ℕ) → k ≤ 2147549184
    → bytes ≡ response_text k ++ behind → BeginsRefused bytes leg status → status ≡ 200
success_told k behind bytes leg status most is b =
    let told = front_told 200 k (response_text k) (response_told k most) b.text behind
    b.refused.response (subst (IsPrefix b.text) is b.front) b.refused.read in
    sym b.refused.told ∙ told.1

-- ---- what an out proxy puts refuses no OUT channel

pub put_none : (config : OutProxyConfig) → IsConfig config → (leg : Leg) → leg.kind ≡ ClientOut
    → (status : ℕ) (put : List Message) → AllByRecursion (Succeeds config) put
    → Begins (Some CoD) put → BeginsRefused (spelled put) leg status → ⊥
put_none config range leg out status [] all begins b = none_refused leg status b
put_none config range leg out status (Text bytes ∷ put) all begins b =
    let s : IsSuccess config bytes = all.0 in
    b.refused.failure out
    (success_told s.number (s.behind ++ spelled put) (bytes ++ spelled put) leg status
    (in_range config range bytes s) (success_begins config bytes put s) b)
put_none config range leg out status (Pdu pdu ∷ put) all begins b = absurd begins
put_none config range leg out status (Packet named ∷ put) all begins b = absurd begins

-- ---- what an in proxy puts on its clients' legs is the answer to an echo request

pub echo_success : (put : List Message) (leg : Leg) (status : ℕ) → AllByRecursion IsEcho put
    → BeginsRefused (spelled put) leg status → status ≡ 200
echo_success [] leg status all b = absurd (none_refused leg status b)
echo_success (message ∷ put) leg status all b =
    success_told 20 (echo_packet ++ spelled put) (spelled (message ∷ put)) leg status (omega arith)
    (echo_begins message put all.0) b

-- ---- what is drawn

-- a front of a refusal that refuses a channel is all of it, and has its status
pub refusal_whole : (refusal : Refusal) (drawn : List ℕ) (leg : Leg) (status : ℕ)
    → IsPrefix drawn (refusal_text refusal) → BeginsRefused drawn leg status
    → (drawn ≡ refusal_text refusal) × (status_of refusal ≡ status)
refusal_whole refusal drawn leg status front b =
    let text = refusal_text refusal in
    let told = front_told (status_of refusal) 0 text (refusal_told refusal) b.text []
    b.refused.response
    (subst (IsPrefix b.text) (sym (append-nil text)) (prefix_trans b.text drawn text b.front front))
    b.refused.read in
    let whole : text ++ b.front.0 ≡ drawn = ap (λ (x : List ℕ). x ++ b.front.0) (sym told.0)
    ∙ b.front.1 in (
      sym whole
          ∙ ap (λ (x : List ℕ). text ++ x)
          (none b.front.0 (omega (
            arith,
            ap length whole,
            ap length front.1,
            length-append text b.front.0,
            length-append drawn front.0,
          )))
          ∙ append-nil text,
      sym told.1 ∙ b.refused.told,
    )
  where
    none : (rest : List ℕ) → length rest ≡ 0 → rest ≡ []
    none [] e = refl
    none (x ∷ rest) e = absurd (omega (arith, e))

-- what was put refuses the channel, or a refusal was drawn
pub by_drawn : (put : List Message) (drawn : List ℕ) (leg : Leg) (status : ℕ)
    → IsDrawn put drawn → BeginsRefused drawn leg status
    → BeginsRefused (spelled put) leg status ⊎ DrewRefusal drawn status
by_drawn put drawn leg status (inl front) b =
    inl (refused_more drawn (spelled put) leg status front b)
by_drawn put drawn leg status (inr refused) b =
    let two = refusal_whole refused.1 drawn leg status refused.2 b in
    inr (record { refusal = refused.1; named = two.1; drew = two.0 })
