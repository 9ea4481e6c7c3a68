-- what an in proxy puts, reads and refuses, from its start
use Rattle.law_order.proofs.Vocabulary.{◌≡◌, ◌⊎◌, inl, inr, ℕ, List, [], ◌∷◌, Bool, true, false, Some, None, Ok, Err, refl, sym, ap, ◌∙◌, subst, if◌then◌else◌, nat_le, AllByRecursion, list_any, Option, Result, and_parts}
use Rattle.rh_shell.specs.declared.stage.Stage.TheVariants as stage
use Rattle.rh_inproxy.specs.declared.opening.TheConstants.{ECHO_LENGTH}
use Rattle.rh_inproxy.specs.declared.state.InProxyConfig.{InProxyConfig}
use Rattle.rh_inproxy.specs.declared.state.Opening.{Opening}
use Rattle.rh_inproxy.specs.declared.state.Opening.TheVariants.{AwaitsClient, AwaitsPacket, WantsServer, Announces, Announced}
use Rattle.rh_inproxy.specs.Machine.{rules}
use Rattle.rh_inproxy.specs.Opening.{channel_asked, echo_answer, echo_asked, head_by, pipe, wants_server}
use Rattle.rh_inproxy.specs.State.{InProxy, first, has_opened, is_client_leg, is_server_leg}
use Rattle.law_moves.proofs.Vocabulary.{Pipe, CiU, IsU, IsD, CoU, CoD, OsU, OsD, HttpFault, Asked, request_verdict, Leg, Stage, first_stage, Message, Text, same_leg, Move, Up, HeadCame, PduCame, PacketCame, Puts, IsDrawn, Marks, Pings, OnLeg, Passage, started, moved, all_moved, AreAllowed, of_leg, Begins, AreNoTexts, IsNoText, ReadsNothing, Answers, IsWellText, TextIsWell, Stages, none_up, stages_after, AreInTurn, RefusesInTurn}
use Rattle.law_moves.proofs.Lemmas.{itself, leg_is}
use Rattle.law_moves.specs.Turns.{behind_head}
use Rattle.law_node_streams.proofs.Streams.Staging.{all_stages}
use Rattle.law_node_streams.specs.Streams.{HasPipes, RefusesFirst, is_head_on}
use Rattle.law_node_begins.proofs.ProxiesBegin.Legs.{none_of, each_of}
use Rattle.law_node_begins.proofs.ProxiesBegin.Turning.{IsUnheard, all_keep, all_turns_keep, stage_each, unheard}
use Rattle.law_node_begins.proofs.ProxiesBegin.InTurns.{AsksAt, IsAnswered, framed, in_starts, in_turns_keep}
use Rattle.law_node_begins.proofs.ProxiesBegin.InReached.{MayPut, ReachedAt, in_moves_keep, in_reaches}
use Rattle.law_node_begins.specs.ProxiesBegin.Echoes.{AsksNoEcho}
use Rattle.law_node_begins.specs.ProxiesBegin.Pipes.{ci, is, in_pipe}

-- ---- what comes next where no echo is asked for

-- no body is passed over
abbrev IsNotPassed : Option Stage → Type 0
IsNotPassed (Some stage.PassedOver) = ⊥
IsNotPassed next = Unit {0}

first_not : (pipe : Option Pipe) → IsNotPassed (Some (first_stage pipe))
first_not None = tt
first_not (Some CiU) = tt
first_not (Some CoU) = tt
first_not (Some CoD) = tt
first_not (Some IsD) = tt
first_not (Some OsD) = tt
first_not (Some IsU) = tt
first_not (Some OsU) = tt

asked_not : (s : InProxy) (number : ℕ) (asked : Asked) (t : Bool) → t ≡ false
    → IsNotPassed (Some (behind_head (if t then echo_asked s number asked
    else channel_asked s asked).1))
asked_not s number asked true e = absurd cc
asked_not s number asked false e = tt

head_not : (s : InProxy) (number : ℕ) (verdict : Result Asked HttpFault)
    → ((asked : Asked) → verdict ≡ Ok asked → nat_le asked.length ECHO_LENGTH ≡ false)
    → IsNotPassed (Some (behind_head (head_by s number verdict).1))
head_not s number (Err fault) none = tt
head_not s number (Ok asked) none =
    asked_not s number asked (nat_le asked.length ECHO_LENGTH) (none asked refl)

module _ (number : ℕ) where
  move_not : (p : Passage InProxy) (g : Stages) (move : Move) → AsksNoEcho (ci number) move
      → IsNotPassed (g (ci number)) → IsNotPassed (stages_after rules p.role g move (ci number))
  move_not p g (Up other cookie) none h =
      stage_each IsNotPassed other (ci number) (first_stage (rules.pipe p.role other)) g
      (λ same. first_not (rules.pipe p.role other)) (λ apart. h)
  move_not p g (HeadCame other text) none h =
      stage_each IsNotPassed other (ci number) (behind_head (rules.head p.role other text).1) g
      (λ same. head_not p.role other.number (request_verdict true text)
      (none (ap (λ (l : Leg). same_leg l (ci number)) same ∙ itself (ci number)))) (λ apart. h)
  move_not p g (PduCame other count bytes) none h = h
  move_not p g (PacketCame other count named) none h = h
  move_not p g (Puts other) none h = h
  move_not p g (IsDrawn other) none h = h
  move_not p g (Marks other) none h = h
  move_not p g (Pings other) none h = h

  all_not : (p : Passage InProxy) (g : Stages) (moves : List Move)
      → AllByRecursion (AsksNoEcho (ci number)) moves → IsNotPassed (g (ci number))
      → IsNotPassed (all_stages rules p g moves (ci number))
  all_not p g [] none h = h
  all_not p g (move ∷ moves) none h =
      all_not (moved rules p move) (stages_after rules p.role g move) moves none.1
      (move_not p g move none.0 h)

module _ (config : InProxyConfig) (moves : List Move)
    (allowed : AreAllowed rules (started (first config)) moves) where
  abbrev pub run : Passage InProxy
  run = all_moved rules (started (first config)) moves

  pub reached : ReachedAt config moves run.role run.put
  reached =
      all_keep rules (ReachedAt config) (in_moves_keep config) (first config) moves allowed
      (in_reaches config)

  pub pipes : (leg : Leg) → pipe run.role leg ≡ in_pipe config leg
  pipes leg = ap (λ (c : InProxyConfig). in_pipe c leg) reached.0.number

  -- on the is leg of its number no texts
  server_texts : (one : OnLeg) → MayPut config one → same_leg one.0 (is config.number) ≡ true
      → IsNoText one.1
  server_texts one (inr may) same = may.1
  server_texts one (inl client) same =
      let no = ap is_client_leg (sym (leg_is one.0 (is config.number) same)) ∙ client in absurd cc

  pub on_server : AreNoTexts (of_leg (is config.number) run.put)
  on_server =
      each_of (MayPut config) (is config.number) IsNoText run.put reached.1 server_texts

  -- on any other leg nothing
  pub elsewhere : (leg : Leg) → is_client_leg leg ≡ false
      → same_leg (is config.number) leg ≡ false → of_leg leg run.put ≡ []
  elsewhere leg client server =
      none_of (MayPut config) leg run.put reached.1
      (λ one may. elim (same_leg one.0 leg) as (λ t. same_leg one.0 leg ≡ t → t ≡ false) [
        | true ↦ λ e. absurd (other one may (leg_is one.0 leg e))
        | false ↦ λ e. refl
      ] refl)
    where
      other : (one : OnLeg) → MayPut config one → one.0 ≡ leg → ⊥
      other one (inl may) e = let no = sym (ap is_client_leg e) ∙ may in absurd cc
      other one (inr may) e =
          let no = sym (ap (same_leg (is config.number)) e) ∙ may.0 in absurd cc

  -- ---- in their turn

  module _ (turn : AreInTurn rules (first config) moves) where
    abbrev stages : Stages
    stages = all_stages rules (started (first config)) none_up moves

    asks : AsksAt config stages run.role run.put
    asks =
        all_turns_keep rules (AsksAt config) (in_turns_keep config) (first config) moves
        allowed turn (in_starts config)

    -- nothing, or the answer to an echo request
    client_put : (n : ℕ) → (of_leg (ci n) run.put ≡ [])
        ⊎ (of_leg (ci n) run.put ≡ Text echo_answer ∷ [])
    client_put n = by (stages (ci n)) (of_leg (ci n) run.put) (asks.answered n)
      where
        by : (o : Option Stage) (put : List Message) → IsAnswered o put
            → (put ≡ []) ⊎ (put ≡ Text echo_answer ∷ [])
        by None put e = inl e
        by (Some stage.Head) put e = inl e
        by (Some stage.Greeting) put e = inl e
        by (Some stage.Frames) put e = inl e
        by (Some stage.PassedOver) put e = e
        by (Some stage.Shut) put e = inl e

    pub on_client : (n : ℕ) → ReadsNothing None echo_answer → Begins None (of_leg (ci n) run.put)
    on_client n nothing = by (client_put n)
      where
        by : (of_leg (ci n) run.put ≡ []) ⊎ (of_leg (ci n) run.put ≡ Text echo_answer ∷ [])
            → Begins None (of_leg (ci n) run.put)
        by (inl e) = subst (Begins None) (sym e) tt
        by (inr e) = subst (Begins None) (sym e) (inr (nothing, refl))

    pub client_well : (well : Answers) → TextIsWell well None echo_answer → (n : ℕ)
        → AllByRecursion (IsWellText well None) (of_leg (ci n) run.put)
    client_well well echo n = by (client_put n)
      where
        by : (of_leg (ci n) run.put ≡ []) ⊎ (of_leg (ci n) run.put ≡ Text echo_answer ∷ [])
            → AllByRecursion (IsWellText well None) (of_leg (ci n) run.put)
        by (inl e) = subst (AllByRecursion (IsWellText well None)) (sym e) tt
        by (inr e) = subst (AllByRecursion (IsWellText well None)) (sym e) (echo, tt)

    -- where no head asks for an echo
    pub unechoed : (n : ℕ) → AllByRecursion (AsksNoEcho (ci n)) moves
        → of_leg (ci n) run.put ≡ []
    unechoed n none =
        by (stages (ci n)) (of_leg (ci n) run.put)
        (all_not n (started (first config)) none_up moves none tt) (asks.answered n)
      where
        by : (o : Option Stage) (put : List Message) → IsNotPassed o → IsAnswered o put
            → put ≡ []
        by None put not e = e
        by (Some stage.Head) put not e = e
        by (Some stage.Greeting) put not e = e
        by (Some stage.Frames) put not e = e
        by (Some stage.PassedOver) put not e = absurd not
        by (Some stage.Shut) put not e = e

    -- where no head came
    pub unasked : (n : ℕ) → list_any (is_head_on (ci n)) moves ≡ false
        → IsUnheard (Some CiU) (stages (ci n)) → of_leg (ci n) run.put ≡ []
    unasked n none (inl e) =
        subst (λ (o : Option Stage). IsAnswered o (of_leg (ci n) run.put)) e (asks.answered n)
    unasked n none (inr e) =
        subst (λ (o : Option Stage). IsAnswered o (of_leg (ci n) run.put)) e (asks.answered n)

    -- where the is leg is wanted
    pub unwanted : (n : ℕ) → n ≡ config.number → wants_server run.role.opening ≡ true
        → of_leg (ci n) run.put ≡ []
    unwanted n same wants =
        subst (λ (i : ℕ). of_leg (ci i) run.put ≡ []) (sym same)
        (framed (stages (ci config.number)) (of_leg (ci config.number) run.put)
        (asks.opened (by run.role.opening wants)) (asks.answered config.number))
      where
        by : (o : Opening) → wants_server o ≡ true → has_opened o ≡ true
        by AwaitsClient e = absurd cc
        by AwaitsPacket e = absurd cc
        by (WantsServer o) e = refl
        by (Announces o) e = absurd cc
        by (Announced o) e = absurd cc

pub in_has_pipes : (config : InProxyConfig) → HasPipes rules (first config) (in_pipe config)
in_has_pipes config moves leg allowed = pipes config moves allowed leg

-- the client is told on the first ci leg
told_on : (config : InProxyConfig) (moves : List Move)
    → AreAllowed rules (started (first config)) moves → (leg : Leg)
    → rules.answers_on (all_moved rules (started (first config)) moves).role ≡ Some leg
    → leg ≡ ci config.number
told_on config moves allowed leg e =
    let told : ci (all_moved rules (started (first config)) moves).role.config.number ≡ leg = cc in
    sym told ∙ ap (λ (c : InProxyConfig). ci c.number) (reached config moves allowed).0.number

pub refuses_on_client : (config : InProxyConfig) (n : ℕ)
    → RefusesInTurn rules (first config) (in_pipe config) (ci n)
refuses_on_client config n = record {
  asked = λ moves text fault allowed turn first_comes none refused.
      unasked config moves allowed turn n none
      (unheard rules (ci n) (Some CiU) (first config) moves
      (λ more may. pipes config more may (ci n)) allowed none);
  unreached = λ moves wanted allowed turn told wants.
      unwanted config moves allowed turn n
      (ap (λ (l : Leg). l.number) (told_on config moves allowed (ci n) told))
      (and_parts (is_server_leg (run config moves allowed).role wanted)
      (wants_server (run config moves allowed).role.opening) wants).1;
}

pub refuses_elsewhere : (config : InProxyConfig) (leg : Leg) → is_client_leg leg ≡ false
    → RefusesFirst rules (first config) (in_pipe config) leg
refuses_elsewhere config leg other = record {
  asked = λ moves text fault allowed first_comes none refused.
      elim (same_leg (is config.number) leg) as (λ t. same_leg (is config.number) leg ≡ t
      → of_leg leg (all_moved rules (started (first config)) moves).put ≡ []) [
        | true ↦ λ e. absurd (greeted (is_client_leg leg) (same_leg (is config.number) leg) other e
            first_comes)
        | false ↦ λ e. elsewhere config moves allowed leg other e
      ] refl;
  unreached = λ moves wanted allowed told wants.
      let no = sym other ∙ ap is_client_leg (told_on config moves allowed leg told) in absurd cc;
}
  where
    greeted : (client server : Bool) → client ≡ false → server ≡ true
        → first_stage (if client then Some CiU else (if server then Some IsD else None))
        ≡ stage.Head
        → ⊥
    greeted true server c s e = absurd cc
    greeted false false c s e = absurd cc
    greeted false true c s e = absurd cc
