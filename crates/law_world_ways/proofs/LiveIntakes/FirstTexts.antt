-- the heads with which bytes begin at the proxies of a world of roles
use Rattle.rh_text.specs.declared.ends.Side.TheVariants as side
use Rattle.law_order.proofs.Vocabulary.{◌≡◌, ◌≤◌, ℕ, List, [], Bool, true, false, nat_le, Ok, Some, None, arith, inl, inr, refl, sym, ap, ◌∙◌, subst, if◌then◌else◌, AllByRecursion, Option, Result, nat_tests, IsPrefix}
use Rattle.rh_record.specs.declared.answer.Who.TheVariants as who
use Rattle.rh_shell.specs.declared.stage.Stage.TheVariants as stage
use Rattle.rh_client.specs.Client as client
use Rattle.rh_client.specs.State as client_state
use Rattle.law_moves.proofs.Vocabulary.{Side, nil_front, Pipe, CoU, IsD, OsD, ClientConfig, HttpFault, greatest_echo, in_request, out_request, Asked, request_verdict, Leg, LegKind, ClientOut, OutServer, ClientIn, InServer, is_whole_head, first_stage, same_leg, EndMove, EndEvent, of_leg, IsWholeText}
use Rattle.law_moves.proofs.Lemmas.{leg_is}
use Rattle.law_role_inproxy.proofs.Vocabulary.{InProxyConfig}
use Rattle.law_role_client.proofs.Vocabulary.{IsConfig, pipe_put, AreAllowedMoves, client_moved}
use Rattle.law_node_history.proofs.Vocabulary.{node_by, end_drawn_on}
use Rattle.law_role_outproxy.proofs.Vocabulary.{OutProxyConfig}
use Rattle.law_node_streams.specs.Streams.{EndStream, IsFirstHead}
use Rattle.law_node_ends.specs.Passed.{AsksNoEcho}
use Rattle.law_node_begins.specs.EndsBegin.{Asks, BeginsLegs, IsRequestOf}
use Rattle.law_node_begins.specs.ProxiesBegin.Pipes.{ci, co, in_pipe, is, out_pipe}
use Rattle.law_world_order.proofs.FirstTexts.Asking.{head_is, whole_requests}
use Rattle.law_world_order.proofs.FirstTexts.Requests.{request_asks, none_whole}
use Rattle.law_world_order.proofs.FirstTexts.Taken.{asked_for, in_asks}
use Rattle.law_world_order.proofs.Vocabulary.{IsPort}
use Rattle.law_world_ways.specs.LiveIntakes.{BeginsNoEcho}

-- ---- requests

no_echo : (n : ℕ) → 17 ≤ n → nat_le n greatest_echo ≡ false
no_echo n least = grind (arith, nat_tests)

told_no_echo : (inbound : Bool) (config : ClientConfig) (n : ℕ) (text : List ℕ) → 17 ≤ n
    → request_verdict inbound text ≡ Ok (asked_for config n) → AsksNoEcho inbound text
told_no_echo inbound config n text least read = λ asked verdict.
    by asked (sym verdict ∙ read)
  where
    by : (asked : Asked) → ◌≡◌ {A = Result Asked HttpFault} (Ok asked) (Ok (asked_for config n))
        → nat_le asked.length greatest_echo ≡ false
    by asked e =
        let same : asked ≡ asked_for config n = cc in
        ap (λ (x : Asked). nat_le x.length greatest_echo) same ∙ no_echo n least

long_enough : (n : ℕ) → 131072 ≤ n → 17 ≤ n
long_enough n least = omega (arith, least)

in_no_echo : (config : ClientConfig) (text : List ℕ) → IsConfig config
    → IsPort config.port → IsRequestOf config ClientIn text → AsksNoEcho true text
in_no_echo config text range port same =
    told_no_echo true config config.lifetime text (long_enough config.lifetime range.lifetime.0)
    (in_asks config text range port same)

out_no_echo : (config : ClientConfig) (text : List ℕ) → IsPort config.port
    → IsRequestOf config ClientOut text → AsksNoEcho false text
out_no_echo config text port (inl same) =
    told_no_echo false config 76 text (omega arith)
    (ap (request_verdict false) same ∙ request_asks false config 76 port refl)
out_no_echo config text port (inr same) =
    told_no_echo false config 120 text (omega arith)
    (ap (request_verdict false) same ∙ request_asks false config 120 port refl)

-- ---- no bytes begin with no head

none_first : (text heard : List ℕ) → heard ≡ [] → IsFirstHead text heard → ⊥
none_first text heard none first =
    none_whole (subst (λ (x : List ℕ). is_whole_head x ≡ true)
    (nil_front text first.front.0 (first.front.1 ∙ none)) first.whole.whole)

-- ---- the laws that this stands on

pub record RequestLaws : Type 0 where
  pub begins : (config : ClientConfig) (moves : List EndMove) → AreAllowedMoves config moves
      → BeginsLegs pipe_put (client_moved config moves).passage.put
  pub asks : (config : ClientConfig) (moves : List EndMove) (leg : Leg)
      → AreAllowedMoves config moves
      → AllByRecursion (Asks config leg.kind) (of_leg leg (client_moved config moves).passage.put)
  pub in_whole : (config : ClientConfig) → IsWholeText is_whole_head (in_request config)
  pub out_whole : (config : ClientConfig) (n : ℕ)
      → IsWholeText is_whole_head (out_request config n)

module _ (law : RequestLaws) (config : ClientConfig) (port : IsPort config.port)
    {reads : Leg → Option Pipe} (events : List EndEvent)
    (stream : EndStream client.rules client.acts (client_state.first config) client.rooms reads
    events) where
  abbrev Drew : Leg → List ℕ → Type 0
  Drew leg heard =
      IsPrefix heard (end_drawn_on client.rules client.acts (client.first_client config) leg events)

  -- the head with which what was heard of a client on the leg of a channel begins is its request
  requested : (leg : Leg) → first_stage (pipe_put leg) ≡ stage.Head → (heard text : List ℕ)
      → Drew leg heard → IsFirstHead text heard → IsRequestOf config leg.kind text
  requested leg asks_first =
      head_is law.begins law.asks (whole_requests law.in_whole law.out_whole) config events
      stream leg asks_first

  -- ---- an in proxy hears its clients on their legs, and the server on its own

  module _ (range : IsConfig config) (proxy : InProxyConfig) (heard : Leg → List ℕ)
      (near : (n : ℕ) → Drew (ci n) (heard (ci n)))
      (beside : (leg : Leg) → (leg.kind ≡ ClientIn → ⊥)
      → (leg.kind ≡ InServer → same_leg (is proxy.number) leg ≡ false) → heard leg ≡ []) where
    -- no head comes first on the server's leg
    own_at : (n : ℕ) → same_leg (is proxy.number) (is n) ≡ true
        → first_stage (in_pipe proxy (is n)) ≡ stage.Head → ⊥
    own_at n e head =
        let greets : stage.Greeting ≡ stage.Head =
        ap (λ (t : Bool). first_stage (if t then Some IsD else None)) (sym e) ∙ head in
        absurd cc

    pub in_begins : (leg : Leg) → BeginsNoEcho true (in_pipe proxy leg) (heard leg)
    in_begins leg head text first = by leg.kind refl
      where
        nothing : (leg.kind ≡ ClientIn → ⊥)
            → (leg.kind ≡ InServer → same_leg (is proxy.number) leg ≡ false)
            → AsksNoEcho true text
        nothing a b = absurd (none_first text (heard leg) (beside leg a b) first)

        of_server : leg.kind ≡ InServer → (t : Bool) → same_leg (is proxy.number) leg ≡ t
            → AsksNoEcho true text
        of_server e true own =
            let at : is leg.number ≡ leg = ap (λ (k : LegKind). record leg { kind = k }) (sym e) in
            absurd (subst (λ (l : Leg). same_leg (is proxy.number) l ≡ true
            → first_stage (in_pipe proxy l) ≡ stage.Head → ⊥) at (own_at leg.number) own head)
        of_server e false apart =
            nothing (λ f. absurd (let bad : InServer ≡ ClientIn = sym e ∙ f in cc)) (λ f. apart)

        by : (kind : LegKind) → leg.kind ≡ kind → AsksNoEcho true text
        by ClientIn e =
            let at : leg ≡ ci leg.number = ap (λ (k : LegKind). record leg { kind = k }) e in
            in_no_echo config text range port
            (requested (ci leg.number) refl (heard (ci leg.number)) text (near leg.number)
            (subst (λ (l : Leg). IsFirstHead text (heard l)) at first))
        by InServer e = of_server e (same_leg (is proxy.number) leg) refl
        by ClientOut e =
            nothing (λ f. absurd (let bad : ClientOut ≡ ClientIn = sym e ∙ f in cc))
            (λ f. absurd (let bad : ClientOut ≡ InServer = sym e ∙ f in cc))
        by OutServer e =
            nothing (λ f. absurd (let bad : OutServer ≡ ClientIn = sym e ∙ f in cc))
            (λ f. absurd (let bad : OutServer ≡ InServer = sym e ∙ f in cc))

  -- ---- an out proxy hears its client on the leg of its number

  module _ (proxy : OutProxyConfig) (heard : Leg → List ℕ)
      (near : Drew (co proxy.number) (heard (co proxy.number))) where
    pub out_begins : (leg : Leg) → BeginsNoEcho false (out_pipe proxy leg) (heard leg)
    out_begins leg head text first = by (same_leg (co proxy.number) leg) refl
      where
        by : (t : Bool) → same_leg (co proxy.number) leg ≡ t → AsksNoEcho false text
        by false e =
            let greets : stage.Greeting ≡ stage.Head =
            ap (λ (t : Bool). first_stage (if t then Some CoU else Some OsD)) (sym e) ∙ head in
            absurd cc
        by true e =
            out_no_echo config text port
            (requested (co proxy.number) refl (heard (co proxy.number)) text near
            (subst (λ (l : Leg). IsFirstHead text (heard l))
            (sym (leg_is (co proxy.number) leg e)) first))

-- ---- at which ends an in proxy stands

pub apart_in : (reader n k : ℕ) (kind : LegKind) (end : Side) → (kind ≡ ClientIn → ⊥)
    → (kind ≡ InServer → n ≡ k → ⊥) → node_by reader n kind end ≡ who.In k → ⊥
apart_in reader n k ClientOut side.Client a b e = absurd cc
apart_in reader n k ClientOut side.Server a b e = absurd cc
apart_in reader n k OutServer side.Client a b e = absurd cc
apart_in reader n k OutServer side.Server a b e = absurd cc
apart_in reader n k ClientIn end a b e = a refl
apart_in reader n k InServer side.Client a b e = b refl cc
apart_in reader n k InServer side.Server a b e = absurd cc
