-- what an in proxy knows of the packet that opened it, and what leaves that alone
use Rattle.law_order.proofs.Vocabulary.{◌≡◌, ℕ, Bool, true, false, if◌then◌else◌, List, [], ◌∷◌, ◌++◌, Some, None, refl, sym, ◌∙◌, subst, rules, Option}
use Rattle.rh_sig.specs.declared.named.Named.TheVariants as named
use Rattle.law_moves.proofs.Vocabulary.{by_test, Named, Leg, Which, Count, Due, OnLeg, of_leg, HasOne}
use Rattle.law_moves.proofs.Lemmas.{leg_more, one_more_so, waits}
use Rattle.law_role_inproxy.proofs.Vocabulary.{Entry, Connects, Replaces, Opener, is_newest, mark, on_end_a1, settled, head, drawn, is_absent, opener_of, InProxy, on_keep_alive, ping, pdu, on_is, ci_leg}
use Rattle.law_peers_expects.specs.InProxyExpects.Announcing.{CameOn, IsFor}
use Rattle.law_peers_expects.specs.InProxyExpects.Announcing as announcing

-- CONN/B2 or IN_R1/A2
abbrev pub announces : Named → Bool
announces (named.ConnB2 version connection channel window timeout group address padding) = true
announces (named.InR1A2 version connection predecessor successor window timeout) = true
announces packet = false

-- what is known is about these
pub record Seen : Type 0 where
  pub number : ℕ
  pub opener : Option Opener
  -- the ci leg of the current channel, and that none is behind it
  pub current : ℕ
  pub alone : Bool
  pub dues : List Due

abbrev pub seen : InProxy → Seen
seen s = record {
  number = s.config.number;
  opener = opener_of s.opening;
  current = s.current.number;
  alone = is_absent s.successor;
  dues = s.waiting.due;
}

abbrev pub Same : InProxy → InProxy → Type 0
Same s t = seen t ≡ seen s

-- the packet that opened it came on the first ci leg
abbrev pub Told : ℕ → Opener → Entry → List OnLeg → Type 0
Told n o (Connects group) came = CameOn n (announcing.Connects o.connection o.channel group) came
Told n o (Replaces predecessor) came =
    CameOn n (announcing.Replaces o.connection predecessor o.channel) came

-- before, there is no other ci leg
abbrev pub Opened : ℕ → Option Opener → ℕ → Bool → List OnLeg → Type 0
Opened n None current alone came = (current ≡ n) × (alone ≡ true)
Opened n (Some o) current alone came = Told n o o.entry came

pub record Knows (n : ℕ) (x : Seen) (came : List OnLeg) : Type 0 where
  pub number : x.number ≡ n
  pub opened : Opened n x.opener x.current x.alone came
  pub waits : waits announces x.dues ≡ 0

-- ---- one more came

came_more : (n : ℕ) (Is : Named → Type 0) (came : List OnLeg) (one : OnLeg) → CameOn n Is came
    → CameOn n Is (came ++ one ∷ [])
came_more n Is came one h =
    subst (HasOne Is) (sym (leg_more (ci_leg n) came one))
    (one_more_so Is (of_leg (ci_leg n) came) (of_leg (ci_leg n) (one ∷ [])) h)

told_more : (n : ℕ) (o : Opener) (entry : Entry) (came : List OnLeg) (one : OnLeg)
    → Told n o entry came → Told n o entry (came ++ one ∷ [])
told_more n o (Connects group) came one h =
    came_more n (announcing.Connects o.connection o.channel group) came one h
told_more n o (Replaces predecessor) came one h =
    came_more n (announcing.Replaces o.connection predecessor o.channel) came one h

opened_more : (n : ℕ) (o : Option Opener) (current : ℕ) (alone : Bool) (came : List OnLeg)
    (one : OnLeg) → Opened n o current alone came → Opened n o current alone (came ++ one ∷ [])
opened_more n None current alone came one h = h
opened_more n (Some o) current alone came one h = told_more n o o.entry came one h

pub grows : (n : ℕ) (x : Seen) (came : List OnLeg) (one : OnLeg) → Knows n x came
    → Knows n x (came ++ one ∷ [])
grows n x came one h = record {
  number = h.number;
  opened = opened_more n x.opener x.current x.alone came one h.opened;
  waits = h.waits;
}

pub for_more : (n : ℕ) (came : List OnLeg) (one : OnLeg) (m : Named) → IsFor n came m
    → IsFor n (came ++ one ∷ []) m
for_more n came one
    (named.ConnB2 version connection channel window timeout group address padding) h =
    came_more n (announcing.Connects connection channel group) came one h
for_more n came one (named.InR1A2 version connection predecessor successor window timeout) h =
    came_more n (announcing.Replaces connection predecessor successor) came one h
for_more n came one m h = tt

-- ---- what leaves it alone

pub same_head : (s : InProxy) (leg : Leg) (text : List ℕ) → Same s (head s leg text).0
same_head s leg text = search rules

pub same_pdu : (s : InProxy) (leg : Leg) (count : Count) (bytes : List ℕ)
    → Same s (pdu s leg count bytes).0
same_pdu s leg count bytes = search rules

pub same_keep_alive : (s : InProxy) (which : Which) (keepalive : ℕ)
    → Same s (on_keep_alive s which keepalive).0
same_keep_alive s which keepalive = search rules

pub same_end : (s : InProxy) (which : Which) → Same s (on_end_a1 s which).0
same_end s which = search rules

pub same_is : (s : InProxy) (m : Named) → Same s (on_is s m).0
same_is s (named.ConnB3 size version) = search rules
same_is s (named.InR1B2 size) = search rules
same_is s named.InR1B1 = search rules
same_is s (named.Ack received available channel) = search rules
same_is s m = refl

pub same_drawn : (s : InProxy) (leg : Leg) → Same s (drawn s leg)
same_drawn s leg = search rules

pub same_settled : (s : InProxy) → Same s (settled s)
same_settled s = search rules

pub same_mark : (s : InProxy) (leg : Leg) → Same s (mark s leg)
same_mark s leg =
    same_settled (if is_newest s leg then record s { newest_lost = true } else s)
    ∙ by_test (Same s) (is_newest s leg) _ s (λ e. refl) (λ e. refl)

pub same_ping : (s : InProxy) (leg : Leg) → Same s (ping s leg)
same_ping s leg = search rules
