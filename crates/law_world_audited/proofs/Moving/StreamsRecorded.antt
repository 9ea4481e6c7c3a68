-- what the answers of a recording tell moved are streams of what was put
use Rattle.law_order.proofs.Vocabulary.{◌≤◌, ℕ, zero, suc, List, ◌∷◌, true, false, refl, IsTrue, AllByRecursion, arith, nat_tests}
use Rattle.rh_http.specs.declared.config.ClientConfig.{ClientConfig}
use Rattle.rh_http.specs.declared.numbers.TheConstants.{LEAST_PORT, GREATEST_PORT}
use Rattle.rh_http.specs.Lengths.{may_ask}
use Rattle.rh_http.specs.Texts.{in_request, out_request, response_text}
use Rattle.rh_sig.specs.declared.name.Pipe.TheVariants.{CiU, CoD, CoU}
use Rattle.rh_world.specs.Roles as roles
use Rattle.law_moves.proofs.Vocabulary.{IsLifetime}
use Rattle.law_node_history.proofs.Vocabulary.{Answer, Line, First}
use Rattle.law_node_ends.specs.Passed.{AsksNoEcho, HeadsAre}
use Rattle.law_audit.specs.Streams.Texts.{IsFineText}
use Rattle.law_role_client_rows.specs.Putting.{out_length}
use Rattle.law_world_reports.proofs.Vocabulary.{AnyWorld, Before, Direct, Settings, Roles, after, answers}
use Rattle.law_world_order.specs.Pasts.{moves_of, numbers}
use Rattle.law_world_audited.specs.Moving.Sent.{TellsSent, TellsSentIn, TellsSentOf}
use Rattle.law_world_audited.specs.Moving.Streams.{TellsStreams, TellsStreamsIn, TellsStreamsOf}
use Rattle.law_world_audited.proofs.Moving.Streamed.{FineTexts, RoleLaws, StreamLaws, may_begin, streamed}

-- ---- texts

pub record TextLaws : Type 0 where
  pub in_request : (config : ClientConfig) → LEAST_PORT ≤ config.port
      → config.port ≤ GREATEST_PORT → IsTrue (may_ask true config.lifetime)
      → IsFineText CiU (in_request config)
  pub out_request : (config : ClientConfig) (n : ℕ) → LEAST_PORT ≤ config.port
      → config.port ≤ GREATEST_PORT → IsTrue (may_ask false n)
      → IsFineText CoU (out_request config n)
  pub response : (n : ℕ) → n ≤ 2147549184 → IsFineText CoD (response_text n)

may_open : (n : ℕ) → IsLifetime n → IsTrue (may_ask true n)
may_open n h = grind (arith, nat_tests, h.0, h.1)

opens_out : (k : ℕ) → IsTrue (may_ask false (out_length k))
opens_out zero = refl
opens_out (suc k) = refl

module _ (streams : StreamLaws) (role : RoleLaws) (texts : TextLaws)
    (heads : (answered : List Answer) (world : roles.World) (told : TellsSent answered world)
    (n : ℕ) → AllByRecursion (HeadsAre (AsksNoEcho false)) ((moves_of told.flowing).outs n)) where
  told_streams : (answered : List Answer) (world : roles.World) → TellsSent answered world
      → TellsStreams answered world
  told_streams answered world told =
      let config = told.ours.config in
      let fine : FineTexts (numbers told.ours) = record {
        ins = texts.in_request config told.port.least told.port.most
            (may_open config.lifetime told.ranges.client.lifetime);
        outs = λ k. texts.out_request config (out_length k) told.port.least told.port.most
            (opens_out k);
        down = λ n. let range = told.ranges.outs n in
            texts.response _ (omega (arith, range.lifetime.1));
      } in
      let begins = may_begin role (numbers told.ours) (moves_of told.flowing) told.made fine
      (heads answered world told) world.readers in
      record {
        told = told;
        begins = begins;
        streams = λ leg dir pipe is.
            streamed streams pipe _ _ (told.sent leg dir pipe is) (begins leg dir pipe is);
      }

  streams_in : (answered : List Answer) (world : AnyWorld) → TellsSentIn answered world
      → TellsStreamsIn answered world
  streams_in answered Before told = tt
  streams_in answered (Direct world) told = tt
  streams_in answered (Settings config) told = tt
  streams_in answered (Roles world) told = told_streams answered world told

  pub recording_streams : ((behind : List Line) → TellsSentOf (First true ∷ behind))
      → (behind : List Line) → TellsStreamsOf (First true ∷ behind)
  recording_streams sent behind =
      streams_in (answers Before (First true ∷ behind)) (after Before (First true ∷ behind))
      (sent behind)
