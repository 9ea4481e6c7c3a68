-- a byte that closes a node since what came is amiss: the role refuses the next message of what was
-- put at the other end, or that has a Ping first
use Rattle.law_order.proofs.Vocabulary.{◌≡◌, ◌⊎◌, inl, inr, ℕ, List, Bool, true, false, ◌||◌, ◌&&◌, not, Some, refl, sym, subst, Option}
use Rattle.rh_shell.specs.declared.answers.Count.TheVariants as count
use Rattle.law_moves.proofs.Vocabulary.{Pipe, Leg, Count, Refused, Going, is_upward, is_zero, NearEnd, is_ended, is_marked, is_over, Message, Text, Pdu, Packet, Rules, Shell, end_at, Passage, is_in_use, of_leg, Tells, packets, all_read_of, messages_read}
use Rattle.law_node_streams.specs.Streams.{is_live}
use Rattle.law_peers_moments.specs.Expecting.{Expects, HasNoPingFirst, IsAhead, IsAmiss}
use Rattle.law_world_expected.proofs.Amiss.Stops.{AmissAt, PingsFirst, RefusesAhead}
use Rattle.law_world_expected.specs.Amiss.{AmissNext, NextIsAmiss, RefusesBy}

-- what a node that goes on knows of a leg whose end it has: the leg was up, and the end's count is
-- of the packets that are read there
pub record KnowsEnd {S : Type 0} (rules : Rules S) (role : S) (pipe : Option Pipe) (leg : Leg)
    (heard : List ℕ) (end : NearEnd) : Type 0 where
  pub was_up : rules.was_up role leg ≡ true
  pub counts : is_over rules end role ≡ false → is_live end.intake.stage ≡ true
      → Tells end.count (packets (messages_read pipe heard))

-- an end that is of use is of a leg in use
of_use : (marked done ended : Bool) → (marked || (done || ended)) ≡ false
    → (not ended && not done) ≡ true
of_use true done ended e = absurd cc
of_use false true ended e = absurd cc
of_use false false true e = absurd cc
of_use false false false e = refl

no_packets : (c : Count) (n : ℕ) → is_zero c ≡ true → Tells c n → n ≡ 0
no_packets count.Zero n e tells = tells
no_packets count.One n e tells = absurd cc
no_packets count.More n e tells = absurd cc

module _ {S : Type 0} (rules : Rules S) (p : Passage S) (s : Shell S) (role : p.role ≡ s.role)
    (leg : Leg) (pipe : Option Pipe) (r : Refused) (put : List Message)
    (heard : List ℕ) (b : ℕ)
    (knows : (end : NearEnd) → s.course ≡ Going → end_at s leg ≡ Some end
    → KnowsEnd rules s.role pipe leg heard end)
    (at : AmissAt rules leg pipe r s (of_leg leg p.came) (all_read_of put) heard b) where
  known : KnowsEnd rules s.role pipe leg heard at.end
  known = knows at.end at.going at.at

  counts : Tells at.end.count (packets (messages_read pipe heard))
  counts = known.counts at.on at.live

  in_use : is_in_use rules s.role leg ≡ true
  in_use =
      subst (λ (l : Leg). is_in_use rules s.role l ≡ true) at.here
      (of_use (is_marked at.end.standing) (rules.is_done s.role at.end.leg)
      (is_ended (rules.phase s.role)) at.on)

  refused : RefusesAhead rules s.role leg r at.end.count (of_leg leg p.came) (all_read_of put)
      → NextIsAmiss rules p leg (all_read_of put) r
  refused next = record {
    in_use = subst (λ (x : S). is_in_use rules x leg ≡ true) (sym role) in_use;
    was_up = subst (λ (x : S). rules.was_up x leg ≡ true) (sym role) known.was_up;
    count = at.end.count;
    counts =
        subst (λ (ms : List Message). Tells at.end.count (packets ms)) (sym at.came_is) counts;
    message = next.message;
    ahead = next.ahead;
    refuses =
        subst (λ (x : S). RefusesBy rules x leg at.end.count r next.message) (sym role)
        next.refuses;
  }

  pub amiss_next : (PingsFirst pipe r at.end.count heard b
      → packets (messages_read pipe heard) ≡ 0 → HasNoPingFirst put → ⊥)
      → AmissNext rules p leg pipe put r
  amiss_next pings = by at.how
    where
      by : RefusesAhead rules s.role leg r at.end.count (of_leg leg p.came) (all_read_of put)
          ⊎ PingsFirst pipe r at.end.count heard b → AmissNext rules p leg pipe put r
      by (inl next) = inl (refused next)
      by (inr ping) =
          inr (
            ping.unexpected,
            ping.upward,
            pings ping (no_packets at.end.count (packets (messages_read pipe heard)) ping.none
                counts),
          )

-- ---- what expects that refuses nothing so

refuses_none : {S : Type 0} (rules : Rules S) (p : Passage S) (leg : Leg) (all : List Message)
    (r : Refused) → IsAmiss r → Expects rules p leg all → (next : NextIsAmiss rules p leg all r)
    → (message : Message) → next.message ≡ message → ⊥
refuses_none rules p leg all r amiss expects next (Text bytes) e =
    subst (RefusesBy rules p.role leg next.count r) e next.refuses
refuses_none rules p leg all r amiss expects next (Pdu bytes) e =
    expects.pdu next.count bytes r next.in_use next.was_up
    (subst (IsAhead p leg all) e next.ahead)
    (subst (RefusesBy rules p.role leg next.count r) e next.refuses) amiss
refuses_none rules p leg all r amiss expects next (Packet named) e =
    expects.packet next.count named r next.in_use next.was_up next.counts
    (subst (IsAhead p leg all) e next.ahead)
    (subst (RefusesBy rules p.role leg next.count r) e next.refuses) amiss

pub never_amiss : {S : Type 0} (rules : Rules S) (p : Passage S) (leg : Leg) (pipe : Option Pipe)
    (put : List Message) (r : Refused) → IsAmiss r → Expects rules p leg (all_read_of put)
    → (is_upward pipe ≡ true → HasNoPingFirst put) → AmissNext rules p leg pipe put r → ⊥
never_amiss rules p leg pipe put r amiss expects first (inl next) =
    refuses_none rules p leg (all_read_of put) r amiss expects next next.message refl
never_amiss rules p leg pipe put r amiss expects first (inr pinged) = pinged.2 (first pinged.1)
