-- what an out proxy owes the server for the packet that opened its channel
use Rattle.law_order.proofs.Vocabulary.{◌≡◌, ℕ, Bool, true, false, if◌then◌else◌, List, Some, None, refl, rules, IfSome, Option}
use Rattle.rh_sig.specs.declared.named.Named.TheVariants as named
use Rattle.rh_outproxy.specs.declared.state.Channel.TheVariants as channels
use Rattle.rh_outproxy.specs.declared.state.ServerLeg.TheVariants as servers
use Rattle.law_moves.proofs.Vocabulary.{Cookie, Named, Leg, Count, Due, Message, Ack, one_if}
use Rattle.law_role_outproxy.proofs.Vocabulary.{Answer, Channel, OutProxyConfig, ServerLeg, OutProxy, is_known, is_server_down, is_server_first, is_server_marked, head, forwarded, passed_on, on_ack, on_out_r1_a9, on_out_r2_c1, drawn, on_end_b1, Pick, or_else, answer_by, put_answer, waiting_by, put_waiting, pdu_by, put_pdu, put_end, put_handover, put_mark, put_ping, next_co, ack_by, pdu, ping}
use Rattle.law_role_edges.specs.Openings.{is_unbegun}

-- each packet that opens the channel and passes a test is told the server as one that passes another
pub record Leads (test put : Named → Bool) : Type 0 where
  pub connects : (version window lifetime size : ℕ) (connection channel : Cookie)
      → put (named.ConnA2 1 connection channel lifetime size)
      ≡ test (named.ConnA1 version connection channel window)
  pub replaces : (version window lifetime size timeout : ℕ)
      (connection predecessor channel : Cookie)
      → put (named.OutR1A4 1 connection predecessor channel lifetime size timeout)
      ≡ test (named.OutR1A3 version connection predecessor channel window)
  pub second : test named.OutR2C1 ≡ false
  pub acks : (received available : ℕ) (channel : Cookie)
      → put (named.Ack received available channel) ≡ false

-- what the facts are about
pub record Seen : Type 0 where
  pub config : OutProxyConfig
  pub channel : Channel
  pub server : ServerLeg

abbrev pub seen : OutProxy → Seen
seen s = record { config = s.config; channel = s.channel; server = s.server }

abbrev pub Same : OutProxy → OutProxy → Type 0
Same s t = seen t ≡ seen s

-- ---- what is owed

module _ (put : Named → Bool) where
  abbrev pub channel_owes : OutProxyConfig → Channel → ℕ
  channel_owes config channels.Unknown = 0
  channel_owes config (channels.New connection cookie) =
      one_if (put (named.ConnA2 1 connection cookie config.lifetime config.window))
  channel_owes config (channels.Joined connection cookie) =
      one_if (put (named.ConnA2 1 connection cookie config.lifetime config.window))
  channel_owes config (channels.Successor connection predecessor cookie) =
      one_if (put (named.OutR1A4 1 connection predecessor cookie config.lifetime config.window
      config.timeout))

  abbrev pub owed_by : Bool → OutProxyConfig → Channel → ℕ
  owed_by unbegun config c = if unbegun then channel_owes config c else 0

  abbrev pub owed : Seen → ℕ
  owed x = owed_by (is_unbegun x.server) x.config x.channel

  pub unknown_owes : (unbegun : Bool) (config : OutProxyConfig) (c : Channel)
      → is_known c ≡ false → owed_by unbegun config c ≡ 0
  unknown_owes true config channels.Unknown e = refl
  unknown_owes false config c e = refl
  unknown_owes true config (channels.New connection cookie) e = absurd cc
  unknown_owes true config (channels.Joined connection cookie) e = absurd cc
  unknown_owes true config (channels.Successor connection predecessor cookie) e = absurd cc

-- ---- the leg to the server

pub down_is : (z : ServerLeg) → is_server_down z ≡ true
    → (is_unbegun z ≡ true) × (is_server_marked z ≡ false)
down_is servers.Down e = (refl, refl)
down_is servers.FirstDue e = absurd cc
down_is servers.Up e = absurd cc
down_is servers.Marked e = absurd cc

pub first_is : (z : ServerLeg) → is_server_first z ≡ true
    → (is_unbegun z ≡ true) × (is_server_marked z ≡ false) × (is_server_down z ≡ false)
first_is servers.FirstDue e = (refl, refl, refl)
first_is servers.Down e = absurd cc
first_is servers.Up e = absurd cc
first_is servers.Marked e = absurd cc

-- ---- what leaves these alone

pub same_head : (s : OutProxy) (leg : Leg) (text : List ℕ) → Same s (head s leg text).0
same_head s leg text = search rules

pub same_pdu : (s : OutProxy) (leg : Leg) (count : Count) (bytes : List ℕ)
    → Same s (pdu s leg count bytes).0
same_pdu s leg count bytes = search rules

pub same_c1 : (s : OutProxy) (count : Count) → Same s (on_out_r2_c1 s count).0
same_c1 s count = search rules

pub same_forwarded : (s : OutProxy) (m : Named) → Same s (forwarded s m).0
same_forwarded s m = search rules

pub same_passed : (s : OutProxy) (to : ℕ) (m : Named) → Same s (passed_on s to m).0
same_passed s to m = search rules

pub same_on_ack : (s : OutProxy) (received available : ℕ) (channel : Cookie)
    → Same s (on_ack s received available channel).0
same_on_ack s received available channel = search rules

pub same_a9 : (s : OutProxy) → Same s (on_out_r1_a9 s).0
same_a9 s = search rules

pub same_end : (s : OutProxy) → Same s (on_end_b1 s).0
same_end s = search rules

pub same_drawn : (s : OutProxy) (leg : Leg) → Same s (drawn s leg)
same_drawn s leg = search rules

pub same_ping : (s : OutProxy) (leg : Leg) → Same s (ping s leg)
same_ping s leg = search rules

-- ---- what is put to the client

abbrev pub IsQuiet : OutProxy → Pick → Type 0
IsQuiet s pick = IfSome pick (λ (one : OutProxy × Message). Same s one.0)

module _ (s : OutProxy) where
  or_quiet : (a b : Pick) → IsQuiet s a → IsQuiet s b → IsQuiet s (or_else a b)
  or_quiet None b h k = k
  or_quiet (Some one) b h k = h

  quiet_answer : (a : Answer) → IsQuiet s (answer_by a s)
  quiet_answer a = search rules

  quiet_waiting : (dues : List Due) → IsQuiet s (waiting_by s dues)
  quiet_waiting dues = search rules

  quiet_front : (pdus : List (List ℕ)) → IsQuiet s (pdu_by s pdus)
  quiet_front pdus = search rules

  quiet_end : IsQuiet s (put_end s)
  quiet_end = search rules

  quiet_handover : IsQuiet s (put_handover s)
  quiet_handover = search rules

  quiet_ping : IsQuiet s (put_ping s)
  quiet_ping = search rules

  pub quiet_co : IsQuiet s (next_co s)
  quiet_co =
      or_quiet (put_answer s) _ (quiet_answer s.answer)
      (or_quiet (put_waiting s) _ (quiet_waiting s.waiting.due)
      (or_quiet (put_pdu s) _ (quiet_front s.line.current.pdus)
      (or_quiet (put_mark s) (put_ping s)
      (or_quiet (put_end s) (put_handover s) quiet_end quiet_handover) quiet_ping)))

  pub quiet_ack : (o : Option Cookie) (a : Option Ack) → IsQuiet s (ack_by s o a)
  quiet_ack o a = search rules
