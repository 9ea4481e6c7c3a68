-- what in an in proxy is owed for what came
use Rattle.law_order.proofs.Vocabulary.{◌≡◌, ℕ, ◌+◌, ◌≤◌, Bool, true, false, if◌then◌else◌, List, refl, ◌∙◌, rules, replicate}
use Rattle.rh_rts.specs.declared.command.Address4or16.{Address4or16}
use Rattle.rh_sig.specs.declared.named.Named.TheVariants as named
use Rattle.rh_shell.specs.Waiting as waiting
use Rattle.law_moves.proofs.Vocabulary.{by_test, Cookie, V4, Named, Leg, Which, Count, one_if}
use Rattle.law_moves.proofs.Lemmas.{IsNoAck}
use Rattle.law_role_inproxy.proofs.Vocabulary.{Entry, Connects, Replaces, Handover, InProxyConfig, Opener, Opening, Successor, InProxy, head, drawn, announcement, on_conn_b3, on_ack, is_newest, mark, on_end_a1, settled, on_in_r1_b1, on_in_r1_b2, on_keep_alive, ping, pdu, on_is}

-- what the facts are about
pub record Seen : Type 0 where
  pub config : InProxyConfig
  pub opening : Opening
  pub successor : Successor
  pub handover : Handover
  pub waiting : waiting.Waiting

abbrev pub seen : InProxy → Seen
seen s = record {
  config = s.config;
  opening = s.opening;
  successor = s.successor;
  handover = s.handover;
  waiting = s.waiting;
}

abbrev pub Same : InProxy → InProxy → Type 0
Same s t = seen t ≡ seen s

-- ---- what leaves these alone

pub same_head : (s : InProxy) (leg : Leg) (text : List ℕ) → Same s (head s leg text).0
same_head s leg text = search rules

pub same_pdu : (s : InProxy) (leg : Leg) (count : Count) (bytes : List ℕ)
    → Same s (pdu s leg count bytes).0
same_pdu s leg count bytes = search rules

pub same_b3 : (s : InProxy) (size : ℕ) → Same s (on_conn_b3 s size).0
same_b3 s size = search rules

pub same_b2 : (s : InProxy) (size : ℕ) → Same s (on_in_r1_b2 s size).0
same_b2 s size = search rules

pub same_b1 : (s : InProxy) → Same s (on_in_r1_b1 s).0
same_b1 s = search rules

pub same_ack : (s : InProxy) (received available : ℕ) (channel : Cookie)
    → Same s (on_ack s received available channel).0
same_ack s received available channel = search rules

pub same_is : (s : InProxy) (m : Named) → Same s (on_is s m).0
same_is s (named.ConnB3 size version) = same_b3 s size
same_is s (named.InR1B2 size) = same_b2 s size
same_is s named.InR1B1 = same_b1 s
same_is s (named.Ack received available channel) = same_ack s received available channel
same_is s m = refl

pub same_keep_alive : (s : InProxy) (which : Which) (keepalive : ℕ)
    → Same s (on_keep_alive s which keepalive).0
same_keep_alive s which keepalive = search rules

pub same_end : (s : InProxy) (which : Which) → Same s (on_end_a1 s which).0
same_end s which = search rules

pub same_drawn : (s : InProxy) (leg : Leg) → Same s (drawn s leg)
same_drawn s leg = search rules

pub same_settled : (s : InProxy) → Same s (settled s)
same_settled s = search rules

pub same_mark : (s : InProxy) (leg : Leg) → Same s (mark s leg)
same_mark s leg =
    same_settled (if is_newest s leg then record s { newest_lost = true } else s)
    ∙ by_test (Same s) (is_newest s leg) _ s (λ e. refl) (λ e. refl)

pub same_ping : (s : InProxy) (leg : Leg) → Same s (ping s leg)
same_ping s leg = search rules

-- ---- what is due

-- the first packet to the server
abbrev pub announced : InProxyConfig → Opener → Entry → Named
announced config o (Connects group) =
    named.ConnB2 1 o.connection o.channel config.window config.timeout group (V4 config.address)
    (replicate 12 0)
announced config o (Replaces predecessor) =
    named.InR1A2 1 o.connection predecessor o.channel config.window config.timeout

pub is_announced : (s : InProxy) (o : Opener) (entry : Entry)
    → announcement s o entry ≡ announced s.config o entry
is_announced s o (Connects group) = refl
is_announced s o (Replaces predecessor) = refl

-- each packet that passes the test is put for one that came and passes the other; IN_R1/A6 may be
-- owed from the beginning, so many times
pub record Leads (came put : Named → Bool) (base : ℕ) : Type 0 where
  pub connects : (version lifetime keepalive window timeout : ℕ) (connection channel group : Cookie)
      (address : Address4or16) (padding : List ℕ)
      → one_if (put (named.ConnB2 1 connection channel window timeout group address padding))
      ≤ one_if (came (named.ConnB1 version connection channel lifetime keepalive group))
  pub replaces : (version window timeout : ℕ) (connection predecessor channel : Cookie)
      → one_if (put (named.InR1A2 1 connection predecessor channel window timeout))
      ≤ one_if (came (named.InR1A1 version connection predecessor channel))
  pub joins : (version : ℕ) (connection predecessor channel : Cookie)
      → one_if (put (named.InR2A2 channel))
      ≤ one_if (came (named.InR1A1 version connection predecessor channel))
  pub leaves : (successor : Cookie)
      → one_if (put (named.InR1A6 successor)) ≤ base + one_if (came (named.InR1A5 successor))
  pub passes : (to : ℕ) (successor : Cookie)
      → one_if (put (named.OutR1A8 2 successor)) ≤ one_if (came (named.OutR1A7 to successor))
  pub acks : IsNoAck put
  pub ends : put named.EndA2 ≡ false
  pub pings : put named.Ping ≡ false
