-- what leaves the facts of an in proxy alone, and what tests tell of them
use Rattle.law_order.proofs.Vocabulary.{◌≡◌, ℕ, suc, ◌&&◌, ◌||◌, Bool, true, false, not, if◌then◌else◌, List, refl, ◌∙◌, rules}
use Rattle.rh_sig.specs.declared.named.Named.TheVariants as named
use Rattle.rh_inproxy.specs.declared.state.Handover.TheVariants as handovers
use Rattle.law_moves.proofs.Vocabulary.{by_test, Cookie, Named, Leg, Which, Due, OnLeg}
use Rattle.law_role_inproxy.proofs.Vocabulary.{ClientLeg, Handover, InProxyConfig, Joining, Opening, AwaitsClient, AwaitsPacket, WantsServer, Announces, Announced, Successor, Absent, Up, Joined, on_ack, is_newest, is_succeeded, mark, settled, on_in_r1_b1, on_in_r1_b2, head, drawn, is_absent, awaits_packet, on_conn_b3, InProxy, has_come, has_opened, hands_over, is_joined, on_keep_alive, ping, on_is, CameOn, Leaves}
use Rattle.law_role_inproxy.proofs.Putting.Sounds.{Same, IsOpening, IsLeaving, IsQuiet, told_by}

-- ---- what leaves the facts alone

pub same_head : (s : InProxy) (leg : Leg) (text : List ℕ) → Same s (head s leg text).0
same_head s leg text = search rules

pub same_keep_alive : (s : InProxy) (which : Which) (keepalive : ℕ)
    → Same s (on_keep_alive s which keepalive).0
same_keep_alive s which keepalive = search rules

pub same_b3 : (s : InProxy) (size : ℕ) → Same s (on_conn_b3 s size).0
same_b3 s size = search rules

pub same_b2 : (s : InProxy) (size : ℕ) → Same s (on_in_r1_b2 s size).0
same_b2 s size = search rules

pub same_b1 : (s : InProxy) → Same s (on_in_r1_b1 s).0
same_b1 s = search rules

pub same_ack : (s : InProxy) (received available : ℕ) (channel : Cookie)
    → Same s (on_ack s received available channel).0
same_ack s received available channel = search rules

pub same_is : (s : InProxy) (m : Named) → Same s (on_is s m).0
same_is s (named.ConnB3 size version) = same_b3 s size
same_is s (named.InR1B2 size) = same_b2 s size
same_is s named.InR1B1 = same_b1 s
same_is s (named.Ack received available channel) = same_ack s received available channel
same_is s m = refl

pub same_drawn : (s : InProxy) (leg : Leg) → Same s (drawn s leg)
same_drawn s leg = search rules

pub same_settled : (s : InProxy) → Same s (settled s)
same_settled s = search rules

pub same_mark : (s : InProxy) (leg : Leg) → Same s (mark s leg)
same_mark s leg =
    same_settled (if is_newest s leg then record s { newest_lost = true } else s)
    ∙ by_test (Same s) (is_newest s leg) _ s (λ e. refl) (λ e. refl)

pub same_ping : (s : InProxy) (leg : Leg) → Same s (ping s leg)
same_ping s leg = search rules

-- ---- tests

pub absent_alone : (z : Successor) → is_absent z ≡ true
    → (is_joined z ≡ false) × (is_succeeded z ≡ false)
absent_alone Absent e = (refl, refl)
absent_alone (Up number) e = absurd cc
absent_alone (Joined leg stage) e = absurd cc

pub not_so : (b : Bool) → not b ≡ true → b ≡ false
not_so true e = absurd cc
not_so false e = refl

pub four : (a b c d : Bool) → a && b && c && d ≡ true
    → (a ≡ true) × (b ≡ true) × (d ≡ true)
four false b c d e = absurd cc
four true false c d e = absurd cc
four true true false d e = absurd cc
four true true true false e = absurd cc
four true true true true e = (refl, refl, refl)

pub awaits_is : (o : Opening) → awaits_packet o ≡ true → o ≡ AwaitsPacket
awaits_is AwaitsClient e = absurd cc
awaits_is AwaitsPacket e = refl
awaits_is (WantsServer o) e = absurd cc
awaits_is (Announces o) e = absurd cc
awaits_is (Announced o) e = absurd cc

module _ (config : InProxyConfig) (came : List OnLeg) where
  -- the facts of an opening, once there was a first packet, are those of any successor
  pub opened_any : (current : ClientLeg) (z y : Successor) (o : Opening) → has_opened o ≡ true
      → IsOpening config came current z o → IsOpening config came current y o
  opened_any current z y AwaitsClient e h = absurd cc
  opened_any current z y AwaitsPacket e h = absurd cc
  opened_any current z y (WantsServer o) e h = h
  opened_any current z y (Announces o) e h = h
  opened_any current z y (Announced o) e h = h

  -- where no IN_R1/A5 came
  pub staying : (n : ℕ) (handover : Handover) (z : Successor) → has_come handover ≡ false
      → IsLeaving came n handover z
  staying n handovers.Before z e = tt
  staying n (handovers.Came cookie) z e = absurd cc
  staying n handovers.Passed z e = absurd cc

  -- nor did one while the newest ci leg has no channel
  pub joining : (n k : ℕ) (leg : ClientLeg) (stage : Joining) (handover : Handover)
      → IsLeaving came n handover (Up k) → IsLeaving came n handover (Joined leg stage)
  joining n k leg stage handovers.Before h = tt
  joining n k leg stage (handovers.Came cookie) h = absurd h
  joining n k leg stage handovers.Passed h = absurd h

  pub finishing : (n : ℕ) (leg : ClientLeg) (stage other : Joining) (handover : Handover)
      → IsLeaving came n handover (Joined leg stage)
      → IsLeaving came n handover (Joined leg other)
  finishing n leg stage other handovers.Before h = tt
  finishing n leg stage other (handovers.Came cookie) h = h
  finishing n leg stage other handovers.Passed h = absurd h

  pub joined_any : (current leg : ClientLeg) (stage other : Joining) (o : Opening)
      → IsOpening config came current (Joined leg stage) o
      → IsOpening config came current (Joined leg other) o
  joined_any current leg stage other AwaitsClient h = h
  joined_any current leg stage other AwaitsPacket h = h
  joined_any current leg stage other (WantsServer o) h = h
  joined_any current leg stage other (Announces o) h = h
  joined_any current leg stage other (Announced o) h = h

  pub leaving_next : (n : ℕ) (cookie : Cookie) (z : Successor) → is_joined z ≡ true
      → CameOn (suc n) (Leaves cookie) came → IsLeaving came n (handovers.Came cookie) z
  leaving_next n cookie Absent e h = absurd cc
  leaving_next n cookie (Up number) e h = absurd cc
  leaving_next n cookie (Joined leg stage) e h = h

-- where IN_R1/A6 was not put, anything may be left
pub uncome : (handover : Handover) (dues : List Due) (pdus : List (List ℕ)) (ended end_put : Bool)
    → has_come handover ≡ false → IsQuiet handover dues pdus ended end_put
uncome handovers.Before dues pdus ended end_put e = tt
uncome (handovers.Came cookie) dues pdus ended end_put e = tt
uncome handovers.Passed dues pdus ended end_put e = absurd cc

pub unpassed : (came : List OnLeg) (n : ℕ) (z : Successor) (handover : Handover) (dues : List Due)
    (pdus : List (List ℕ)) (ended end_put : Bool) → IsLeaving came n handover z
    → hands_over z handover ≡ false → IsQuiet handover dues pdus ended end_put
unpassed came n z handovers.Before dues pdus ended end_put h e = tt
unpassed came n z (handovers.Came cookie) dues pdus ended end_put h e = tt
unpassed came n Absent handovers.Passed dues pdus ended end_put h e = absurd cc
unpassed came n (Up number) handovers.Passed dues pdus ended end_put h e = absurd h
unpassed came n (Joined leg stage) handovers.Passed dues pdus ended end_put h e = absurd h

pub none_of : (a b c : Bool) → a || b || c ≡ false → a ≡ false
none_of true b c e = absurd cc
none_of false b c e = refl

pub same_told : (n : ℕ) (cookie : Cookie) (z : Successor) (handover : Handover)
    → has_come handover ≡ false
    → told_by n z (handovers.Came cookie) ≡ told_by n z handover
same_told n cookie z handovers.Before e = refl
same_told n cookie z (handovers.Came other) e = absurd cc
same_told n cookie z handovers.Passed e = absurd cc

-- a successor that the server was not told
pub untold : (n : ℕ) (z y : Successor) (handover : Handover)
    → ((k : ℕ) → told_by k z handovers.Before ≡ told_by k y handovers.Before)
    → told_by n z handover ≡ told_by n y handover
untold n z y handovers.Before e = e n
untold n z y (handovers.Came cookie) e = e n
untold n z y handovers.Passed e = refl
