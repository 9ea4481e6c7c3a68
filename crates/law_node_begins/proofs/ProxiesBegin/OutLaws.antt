-- what an out proxy puts, reads and refuses, from its start
use Rattle.law_order.proofs.Vocabulary.{◌≡◌, inl, inr, ℕ, List, [], ◌∷◌, Bool, true, false, ◌&&◌, Some, None, refl, sym, ap, ◌∙◌, subst, if◌then◌else◌, and_parts, AllByRecursion}
use Rattle.rh_shell.specs.declared.stage.Stage.TheVariants as stage
use Rattle.rh_outproxy.specs.declared.state.Answer.{Answer}
use Rattle.rh_outproxy.specs.declared.state.OutProxyConfig.{OutProxyConfig}
use Rattle.rh_outproxy.specs.Machine.{rules}
use Rattle.rh_outproxy.specs.Opening.{pipe}
use Rattle.rh_outproxy.specs.OutProxy.{OutProxy, is_client_up, is_known, is_server_down, new_proxy}
use Rattle.rh_outproxy.specs.Putting.{echo_text}
use Rattle.rh_outproxy.specs.Rows.{is_os}
use Rattle.rh_outproxy.specs.declared.state.Answer.TheVariants as answers
use Rattle.law_moves.proofs.Vocabulary.{CoD, CoU, OsD, response_text, Leg, is_whole_head, first_stage, Message, Text, same_leg, Move, OnLeg, Passage, started, all_moved, AreAllowed, of_leg, Begins, AreNoTexts, IsNoText, IsWholeText, ReadsNothing, Answers, IsWellText, TextIsWell, Stages, none_up, AreInTurn, RefusesInTurn}
use Rattle.law_moves.proofs.Lemmas.{no_texts_well, itself, leg_is}
use Rattle.law_node_streams.proofs.Streams.Staging.{all_stages}
use Rattle.law_node_streams.specs.Streams.{HasPipes, RefusesFirst}
use Rattle.law_node_begins.proofs.ProxiesBegin.Legs.{none_of, each_of}
use Rattle.law_node_begins.proofs.ProxiesBegin.Turning.{IsUnheard, all_keep, all_turns_keep, unheard}
use Rattle.law_node_begins.proofs.ProxiesBegin.OutGoes.{Seen, seen}
use Rattle.law_node_begins.proofs.ProxiesBegin.OutTurns.{AnswersAt, IsResponse, Stands, is_unheard}
use Rattle.law_node_begins.proofs.ProxiesBegin.OutRole.{wanted_stands, none_put}
use Rattle.law_node_begins.proofs.ProxiesBegin.OutPuts.{out_starts, out_turns_keep}
use Rattle.law_node_begins.proofs.ProxiesBegin.OutMoves.{MayPut, Runs, out_moves_keep}
use Rattle.law_node_begins.specs.ProxiesBegin.Pipes.{co, os, out_pipe}

-- what was put to the client begins with a whole response, or is one in which nothing is read
begins_by : ((n : ℕ) → IsWholeText is_whole_head (response_text n))
    → ReadsNothing (Some CoD) echo_text → (x : Answer) (a : Seen) (on : List Message)
    → Stands x a on → Begins (Some CoD) on
begins_by whole nothing x a on k = by x k
  where
    none : on ≡ [] → Begins (Some CoD) on
    none e = subst (Begins (Some CoD)) (sym e) tt

    echo : on ≡ Text echo_text ∷ [] → Begins (Some CoD) on
    echo e = subst (Begins (Some CoD)) (sym e) (inr (nothing, refl))

    response : (n : ℕ) → IsResponse n on → Begins (Some CoD) on
    response n r = subst (Begins (Some CoD)) (sym r.is) (inl (whole n, r.none))

    by : (y : Answer) → Stands y a on → Begins (Some CoD) on
    by answers.Awaited h = none h.1
    by answers.EchoDue h = none h.1
    by answers.EchoPut h = echo h.1
    by answers.EchoDrawn h = echo h.1
    by answers.ResponseDue h = none h.1
    by answers.TimeoutDue h = response _ h.1
    by answers.Put h = response _ h.1

-- each text of it reads well
well_by : (well : Answers) → ((n : ℕ) → TextIsWell well (Some CoD) (response_text n))
    → TextIsWell well (Some CoD) echo_text → (x : Answer) (a : Seen) (on : List Message)
    → Stands x a on → AllByRecursion (IsWellText well (Some CoD)) on
well_by well heads echo_well x a on k = by x k
  where
    none : on ≡ [] → AllByRecursion (IsWellText well (Some CoD)) on
    none e = subst (AllByRecursion (IsWellText well (Some CoD))) (sym e) tt

    echo : on ≡ Text echo_text ∷ [] → AllByRecursion (IsWellText well (Some CoD)) on
    echo e = subst (AllByRecursion (IsWellText well (Some CoD))) (sym e) (echo_well, tt)

    response : (n : ℕ) → IsResponse n on → AllByRecursion (IsWellText well (Some CoD)) on
    response n r =
        subst (AllByRecursion (IsWellText well (Some CoD))) (sym r.is)
        (heads n, no_texts_well well (Some CoD) r.behind r.none)

    by : (y : Answer) → Stands y a on → AllByRecursion (IsWellText well (Some CoD)) on
    by answers.Awaited h = none h.1
    by answers.EchoDue h = none h.1
    by answers.EchoPut h = echo h.1
    by answers.EchoDrawn h = echo h.1
    by answers.ResponseDue h = none h.1
    by answers.TimeoutDue h = response _ h.1
    by answers.Put h = response _ h.1

module _ (config : OutProxyConfig) (moves : List Move)
    (allowed : AreAllowed rules (started (new_proxy config)) moves) where
  abbrev pub run : Passage OutProxy
  run = all_moved rules (started (new_proxy config)) moves

  runs : Runs config moves run.role run.put
  runs =
      all_keep rules (Runs config) (out_moves_keep config) (new_proxy config) moves allowed
      (refl, tt)

  pub pipes : (leg : Leg) → pipe run.role leg ≡ out_pipe config leg
  pipes leg = ap (λ (c : OutProxyConfig). out_pipe c leg) runs.0

  pub number : run.role.config ≡ config
  number = runs.0

  -- on the leg to the server no texts
  server_texts : (one : OnLeg) → MayPut config one → same_leg one.0 (os config.number) ≡ true
      → IsNoText one.1
  server_texts one (inr may) same = may.1
  server_texts one (inl client) same =
      let no =
      ap (same_leg (co config.number)) (sym (leg_is one.0 (os config.number) same)) ∙ client
      in absurd cc

  pub on_server : AreNoTexts (of_leg (os config.number) run.put)
  on_server = each_of (MayPut config) (os config.number) IsNoText run.put runs.1 server_texts

  pub elsewhere : (leg : Leg) → same_leg (co config.number) leg ≡ false
      → same_leg (os config.number) leg ≡ false → of_leg leg run.put ≡ []
  elsewhere leg client server =
      none_of (MayPut config) leg run.put runs.1
      (λ one may. elim (same_leg one.0 leg) as (λ t. same_leg one.0 leg ≡ t → t ≡ false) [
        | true ↦ λ e. absurd (other one may (leg_is one.0 leg e))
        | false ↦ λ e. refl
      ] refl)
    where
      other : (one : OnLeg) → MayPut config one → one.0 ≡ leg → ⊥
      other one (inl may) e =
          let no = sym (ap (same_leg (co config.number)) e) ∙ may in absurd cc
      other one (inr may) e =
          let no = sym (ap (same_leg (os config.number)) e) ∙ may.0 in absurd cc

  -- ---- in their turn

  module _ (turn : AreInTurn rules (new_proxy config) moves) where
    abbrev stages : Stages
    stages = all_stages rules (started (new_proxy config)) none_up moves

    answers_at : AnswersAt config stages run.role run.put
    answers_at =
        all_turns_keep rules (AnswersAt config) (out_turns_keep config) (new_proxy config) moves
        allowed turn (out_starts config)

    pub on_client : ((n : ℕ) → IsWholeText is_whole_head (response_text n))
        → ReadsNothing (Some CoD) echo_text
        → Begins (Some CoD) (of_leg (co config.number) run.put)
    on_client whole nothing =
        begins_by whole nothing run.role.answer (seen run.role) (of_leg (co config.number) run.put)
        answers_at.stands

    pub client_well : (well : Answers)
        → ((n : ℕ) → TextIsWell well (Some CoD) (response_text n))
        → TextIsWell well (Some CoD) echo_text
        → AllByRecursion (IsWellText well (Some CoD)) (of_leg (co config.number) run.put)
    client_well well heads echo =
        well_by well heads echo run.role.answer (seen run.role) (of_leg (co config.number) run.put)
        answers_at.stands

    -- where no head came
    pub unasked : IsUnheard (Some CoU) (stages (co config.number))
        → of_leg (co config.number) run.put ≡ []
    unasked h =
        none_put run.role.answer (seen run.role) (of_leg (co config.number) run.put)
        (answers_at.unasked (by h)).answer answers_at.stands
      where
        by : IsUnheard (Some CoU) (stages (co config.number))
            → is_unheard (stages (co config.number)) ≡ true
        by (inl e) = ap is_unheard e
        by (inr e) = ap is_unheard e

    -- where the leg to the server is wanted
    pub unwanted : is_known run.role.channel ≡ true → is_server_down run.role.server ≡ true
        → of_leg (co config.number) run.put ≡ []
    unwanted known down =
        wanted_stands run.role.answer (seen run.role) (of_leg (co config.number) run.put) known down
        answers_at.stands

pub out_has_pipes : (config : OutProxyConfig) → HasPipes rules (new_proxy config) (out_pipe config)
out_has_pipes config moves leg allowed = pipes config moves allowed leg

-- the client is told on its leg
told_by : (up : Bool) (a b : Leg) → (if up then Some a else None) ≡ Some b → b ≡ a
told_by true a b e = cc
told_by false a b e = absurd cc

told_on : (config : OutProxyConfig) (moves : List Move)
    → AreAllowed rules (started (new_proxy config)) moves → (leg : Leg)
    → rules.answers_on (all_moved rules (started (new_proxy config)) moves).role ≡ Some leg
    → leg ≡ co config.number
told_on config moves allowed leg e =
    let role = (all_moved rules (started (new_proxy config)) moves).role in
    told_by (is_client_up role.client) (co role.config.number) leg e
    ∙ ap (λ (c : OutProxyConfig). co c.number) (number config moves allowed)

pub refuses_on_client : (config : OutProxyConfig)
    → RefusesInTurn rules (new_proxy config) (out_pipe config) (co config.number)
refuses_on_client config = record {
  asked = λ moves text fault allowed turn first_comes none refused.
      unasked config moves allowed turn
      (unheard rules (co config.number) (Some CoU) (new_proxy config) moves
      (λ more may. pipes config more may (co config.number)
      ∙ ap (λ (t : Bool). if t then Some CoU else Some OsD) (itself (co config.number)))
      allowed none);
  unreached = λ moves wanted allowed turn told wants.
      let role = (run config moves allowed).role in
      let parts = and_parts (is_os role wanted)
      (is_known role.channel && is_server_down role.server) wants in
      let both = and_parts (is_known role.channel) (is_server_down role.server) parts.1 in
      unwanted config moves allowed turn both.0 both.1;
}

pub refuses_elsewhere : (config : OutProxyConfig) (leg : Leg)
    → same_leg (co config.number) leg ≡ false
    → RefusesFirst rules (new_proxy config) (out_pipe config) leg
refuses_elsewhere config leg other = record {
  asked = λ moves text fault allowed first_comes none refused.
      absurd (greeted (same_leg (co config.number) leg) other first_comes);
  unreached = λ moves wanted allowed told wants.
      let no = sym other ∙ ap (same_leg (co config.number)) (told_on config moves allowed leg told)
      ∙ itself (co config.number) in absurd cc;
}
  where
    greeted : (client : Bool) → client ≡ false
        → first_stage (if client then Some CoU else Some OsD) ≡ stage.Head → ⊥
    greeted true c e = absurd cc
    greeted false c e = absurd cc
