-- what an out proxy of a world drew to its client reads well there, and each packet has a name
use Rattle.law_order.proofs.Vocabulary.{◌≡◌, ℕ, List, refl, sym, subst, inl, inr, Some, AllByRecursion, Option, IsPrefix}
use Rattle.rh_shell.specs.declared.stage.Stage.TheVariants as stage
use Rattle.law_moves.proofs.Vocabulary.{prefix_trans, Pipe, CoD, Refusal, refusal_text, Leg, ClientOut, first_stage, Message, begun, spelled, Move, Passage, AreAllowed, all_moved, started, Event, of_leg, AreLegible, MayGoOn, AreCounted, Begins, Answers, AreTaken, IsWellText, ReadsWell, TextIsWell, is_named, AreInTurn}
use Rattle.law_node_history.proofs.Vocabulary.{leg_at, drawn_on}
use Rattle.law_role_outproxy.proofs.Vocabulary.{ROOMS, OutProxyConfig, rules, OutProxy, new_proxy, pipe_put, co_leg}
use Rattle.law_node_streams.proofs.Streams.LegLogs.{on_leg}
use Rattle.law_node_streams.specs.Streams.{IsDrawn, Stream}
use Rattle.law_peers_expects.proofs.Asked.Requests.{ask_no_echo}
use Rattle.law_peers_expects.specs.Asked.Asking.{AsksNoEcho}
use Rattle.law_peers_expects.specs.Asked.Requests.{IsRequest}
use Rattle.law_peers_routes.specs.Downwards.{proxy_reads}

pub record Texts : Type 0 where
  pub put : (well : Answers) (pipe : Option Pipe) (put : List Message) (drawn heard : List ℕ)
      → AreTaken well → Begins pipe put → AllByRecursion (MayGoOn pipe) put
      → AllByRecursion (IsWellText well pipe) put → IsPrefix drawn (spelled put)
      → IsPrefix heard drawn → ReadsWell well pipe heard
  pub refusals : (well : Answers) (pipe : Option Pipe) (refusal : Refusal)
      → first_stage pipe ≡ stage.Head → TextIsWell well pipe (refusal_text refusal)
  pub served : (well : Answers) (config : OutProxyConfig) (moves : List Move)
      → AreAllowed rules (started (new_proxy config)) moves
      → AreCounted rules (started (new_proxy config)) moves
      → AreInTurn rules (new_proxy config) moves
      → AllByRecursion (AsksNoEcho (co_leg config.number)) moves
      → AllByRecursion (IsWellText well (Some CoD)) (of_leg (co_leg config.number)
      (all_moved rules (started (new_proxy config)) moves).put)

module _ (law : Texts) (config : OutProxyConfig) (n : ℕ) (own : config.number ≡ n)
    (events : List Event) (f : Stream rules (new_proxy config) ROOMS (proxy_reads config) events)
    (legible : AreLegible pipe_put f.passage.put)
    (asks : AllByRecursion (IsRequest n) f.leads.moves) where
  abbrev leg : Leg
  leg = leg_at ClientOut n

  abbrev put : List Message
  put = of_leg leg f.passage.put

  abbrev drawn : List ℕ
  drawn = drawn_on rules (begun (new_proxy config) ROOMS) leg events

  texts : AllByRecursion (IsWellText is_named (Some CoD)) put
  texts =
      subst (λ (p : Passage OutProxy). AllByRecursion (IsWellText is_named (Some CoD))
      (of_leg leg p.put)) f.leads.reached
      (subst (λ (k : ℕ). AllByRecursion (IsWellText is_named (Some CoD)) (of_leg (co_leg k)
      (all_moved rules (started (new_proxy config)) f.leads.moves).put)) own
      (law.served is_named config f.leads.moves f.leads.allowed f.counted f.in_turn
      (subst (λ (k : ℕ). AllByRecursion (AsksNoEcho (co_leg k)) f.leads.moves) (sym own)
      (ask_no_echo n f.leads.moves asks))))

  pub reads_named : (bytes : List ℕ) → Begins (Some CoD) put → IsDrawn put drawn
      → IsPrefix bytes drawn → ReadsWell is_named (Some CoD) bytes
  reads_named bytes begins (inl front) p =
      law.put is_named (Some CoD) put drawn bytes (λ named. refl) begins
      (on_leg pipe_put MayGoOn leg f.passage.put legible.may_go) texts front p
  reads_named bytes begins (inr refused) p =
      law.refusals is_named (Some CoD) refused.1 refl bytes
      (prefix_trans bytes drawn (refusal_text refused.1) p refused.2)
