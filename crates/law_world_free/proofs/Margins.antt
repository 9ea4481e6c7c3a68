-- where a lifetime has a margin nothing waits for it
use Rattle.law_order.proofs.Vocabulary.{◌≡◌, ℕ, ◌+◌, ◌≤◌, true, List, [], ◌∷◌, Some, None, arith, IfSome, AllByRecursion, Option, and_parts, le-leb, leb-true, nat_le}
use Rattle.rh_keep.specs.Meters.{Meter, fits, may_put, started}
use Rattle.rh_keep.specs.declared.meter.TheConstants.{RESERVE}
use Rattle.rh_keep.specs.declared.range.TheConstants.{GREATEST_LIFETIME, LEAST_LIFETIME}
use Rattle.rh_window.specs.declared.range.TheConstants.{LEAST_WINDOW}
use Rattle.rh_sig.specs.declared.lengths.TheConstants.{ACK_TO_LEN, CONN_C1_LEN, IN_R1_A3_LEN, IN_R1_A5_LEN, IN_R2_A3_LEN, OUT_R1_A1_LEN, OUT_R1_A5_LEN, OUT_R1_A7_LEN, OUT_R1_A9_LEN}
use Rattle.rh_sig.specs.declared.named.Named.{Named}
use Rattle.rh_sig.specs.declared.named.Named.TheVariants as named
use Rattle.rh_line.specs.Lines.{due}
use Rattle.rh_line.specs.Queue.{front_length}
use Rattle.rh_shell.specs.declared.due.Due.{Due}
use Rattle.rh_client.specs.declared.replacement.InStage.TheVariants as in_stage
use Rattle.rh_client.specs.declared.replacement.OutStage.TheVariants as out_stage
use Rattle.rh_client.specs.declared.replacement.Replacement.{Replacement}
use Rattle.rh_client.specs.declared.replacement.Replacement.TheVariants.{NoneUnderWay, In, Out}
use Rattle.rh_client.specs.declared.state.ClientRole.{ClientRole}
use Rattle.rh_server.specs.OutLines.{lets_by_meter}
use Rattle.rh_server.specs.States.{Server, out_leg}
use Rattle.rh_server.specs.declared.state.OutLeg.{OutLeg}
use Rattle.rh_inproxy.specs.State.{InProxy}
use Rattle.rh_outproxy.specs.OutProxy.{OutProxy}
use Rattle.rh_nodes.specs.World.{World}
use Rattle.rh_world.specs.declared.config.WorldConfig.{WorldConfig}
use Rattle.rh_world.specs.Config.{AreInRange}
use Rattle.rh_world.specs.Roles.{begun}
use Rattle.law_world_free.specs.Drained.{IsShort}
use Rattle.law_world_free.specs.Free.{HasMargin, HaveMargins, IsFree, IsFreeClient, IsFreeServer, IsLetBy, LetsReplacement, LetsServer, is_for_writing}

module _ (m : Meter) (margin : HasMargin m) where
  lets_len : (len : ℕ) → len ≤ LEAST_WINDOW → may_put m len ≡ true
  lets_len len short = le-leb (m.count + len + RESERVE) m.length (omega (arith, margin, short))

  fits_len : (len : ℕ) → len ≤ LEAST_WINDOW → fits m len ≡ true
  fits_len len short = le-leb (m.count + len) m.length (omega (arith, margin, short))

  lets_some : {A : Type 0} (o : Option A) (len : ℕ) → len ≤ LEAST_WINDOW
      → IfSome o (λ (a : A). may_put m len ≡ true)
  lets_some None len short = tt
  lets_some (Some a) len short = lets_len len short

  lets_front : (pdus : List (List ℕ)) → IsShort pdus
      → IfSome (front_length pdus) (λ (len : ℕ). may_put m len ≡ true)
  lets_front [] short = tt
  lets_front (pdu ∷ pdus) short = lets_len _ short

  lets_replacement : (replacement : Replacement) → LetsReplacement m replacement
  lets_replacement NoneUnderWay = tt
  lets_replacement (In in_stage.Asked out_waits) = tt
  lets_replacement (In in_stage.Answered out_waits) = fits_len IN_R1_A5_LEN (omega arith)
  lets_replacement (Out out_stage.Asked waiting) = tt
  lets_replacement (Out out_stage.Answered waiting) = fits_len OUT_R1_A7_LEN (omega arith)
  lets_replacement (Out out_stage.Switched waiting) = tt
  lets_replacement (Out out_stage.Finished waiting) = tt

  lets_packet : (packet : Named) → is_for_writing packet ≡ true → lets_by_meter m packet ≡ true
  lets_packet (named.ConnC1 version window timeout) is = lets_len CONN_C1_LEN (omega arith)
  lets_packet (named.InR1A3 destination version window timeout) is =
      fits_len IN_R1_A3_LEN (omega arith)
  lets_packet (named.InR2A3 destination) is = fits_len IN_R2_A3_LEN (omega arith)
  lets_packet (named.OutR1A1 destination) is = fits_len OUT_R1_A1_LEN (omega arith)
  lets_packet (named.OutR1A5 destination version timeout) is =
      fits_len OUT_R1_A5_LEN (omega arith)
  lets_packet named.OutR1A9 is = fits_len OUT_R1_A9_LEN (omega arith)
  lets_packet (named.AckTo destination received window cookie) is =
      lets_len ACK_TO_LEN (omega arith)
  lets_packet packet is = absurd cc

  lets_waiting : (dues : List Due) → AllByRecursion (IsLetBy m) dues
  lets_waiting [] = tt
  lets_waiting (one ∷ dues) = (lets_packet one.packet, lets_waiting dues)

client_is_free : (c : ClientRole) → HasMargin c.writing.meter → IsShort c.queue
    → IsFreeClient c
client_is_free c margin short = record {
  replacement = lets_replacement c.writing.meter margin c.replacement;
  acks = λ which. lets_some c.writing.meter margin (due c.line which) ACK_TO_LEN (omega arith);
  pdu = lets_front c.writing.meter margin c.queue short;
}

server_is_free : (s : Server)
    → IfSome (out_leg s.writing s.outs) (λ (leg : OutLeg). HasMargin leg.meter)
    → IsShort s.queue → IsFreeServer s
server_is_free s margin short = by (out_leg s.writing s.outs) margin
  where
    by : (o : Option OutLeg) → IfSome o (λ (leg : OutLeg). HasMargin leg.meter)
        → IfSome o (λ (leg : OutLeg). LetsServer s leg.meter)
    by None margin = tt
    by (Some leg) margin = record {
      waiting = lets_waiting leg.meter margin s.waiting.due;
      pdu = lets_front leg.meter margin s.queue short;
    }

-- ---- worlds

pub world_is_free : {K : Type 0} (w : World K ClientRole Server InProxy OutProxy) → HaveMargins w
    → IsFree w
world_is_free w have = record {
  client = client_is_free w.company.client.role have.client have.client_first;
  server = server_is_free w.company.server.role have.server have.server_first;
}

pub new_world : (config : WorldConfig) → AreInRange config → IsFree (begun config)
new_world config are = world_is_free (begun config) (record {
  client = least (and_parts (nat_le LEAST_LIFETIME config.ilife)
      (nat_le config.ilife GREATEST_LIFETIME) are.ilife).0;
  server = tt;
  client_first = tt;
  server_first = tt;
})
  where
    least : nat_le LEAST_LIFETIME config.ilife ≡ true
        → HasMargin (started config.ilife 0)
    least e = let low = leb-true LEAST_LIFETIME config.ilife e in omega (arith, low)
