-- the later ci legs of which an in proxy told the server, by IN_R2/A2
use Rattle.law_order.proofs.Vocabulary.{◌≡◌, ℕ, ◌+◌, ◌≤◌, ◌&&◌, Bool, true, false, if◌then◌else◌, List, refl, sym, ◌∙◌, rules, and_parts}
use Rattle.rh_sig.specs.declared.named.Named.TheVariants as named
use Rattle.rh_line.specs.Lines as line
use Rattle.law_moves.proofs.Vocabulary.{by_test, Cookie, Named, Leg, Which, Count, Due}
use Rattle.law_moves.proofs.Lemmas.{waits}
use Rattle.law_role_inproxy.proofs.Vocabulary.{ClientLeg, TellsServer, Told, Follows, Successor, Absent, Up, Joined, is_newest, is_succeeded, mark, on_end_a1, settled, up, head, drawn, on_conn_b1, InProxy, follows, is_joined, on_keep_alive, ping, pdu, on_is, is_in_r2_a2}
use Rattle.law_role_inproxy.proofs.Refusing.Legs.{IsBehind}

-- ---- what the fact is about

pub record Seen : Type 0 where
  pub number : ℕ
  pub heir : Successor
  pub has_next : Bool
  pub done : Bool
  pub dues : List Due

abbrev pub seen : InProxy → Seen
seen s = record {
  number = s.current.number;
  heir = s.successor;
  has_next = s.line.has_next;
  done = s.line.finished;
  dues = s.waiting.due;
}

abbrev pub Same : InProxy → InProxy → Type 0
Same s t = seen t ≡ seen s

-- the last ci leg of which the server was told
abbrev pub told : ℕ → Successor → ℕ
told number (Joined leg Told) = leg.number
told number (Joined leg Follows) = leg.number
told number heir = number

-- the server was told of the next ci leg, by this cookie
abbrev pub IsTold : Cookie → Successor → Type 0
IsTold cookie (Joined leg Told) = leg.cookie ≡ cookie
IsTold cookie heir = ⊥

-- so many were put
pub record Tells (n floor : ℕ) (x : Seen) (put : ℕ) : Type 0 where
  pub count : n + put ≤ told x.number x.heir
  -- it is no earlier one than this
  pub least : floor ≤ told x.number x.heir
  -- none waits
  pub none : waits is_in_r2_a2 x.dues ≡ 0
  pub behind : IsBehind x.number x.heir
  pub joined : x.has_next ≡ is_joined x.heir
  pub done : x.done ≡ is_succeeded x.heir

-- ---- what leaves it alone

pub same_head : (s : InProxy) (leg : Leg) (text : List ℕ) → Same s (head s leg text).0
same_head s leg text = search rules

pub same_pdu : (s : InProxy) (leg : Leg) (count : Count) (bytes : List ℕ)
    → Same s (pdu s leg count bytes).0
same_pdu s leg count bytes = search rules

pub same_keep_alive : (s : InProxy) (which : Which) (keepalive : ℕ)
    → Same s (on_keep_alive s which keepalive).0
same_keep_alive s which keepalive = search rules

pub same_end : (s : InProxy) (which : Which) → Same s (on_end_a1 s which).0
same_end s which = search rules

pub same_conn_b1 : (s : InProxy) (number : ℕ) (connection channel : Cookie) (keepalive : ℕ)
    (group : Cookie) → Same s (on_conn_b1 s number connection channel keepalive group).0
same_conn_b1 s number connection channel keepalive group = search rules

pub same_is : (s : InProxy) (m : Named) → Same s (on_is s m).0
same_is s (named.ConnB3 size version) = search rules
same_is s (named.InR1B2 size) = search rules
same_is s named.InR1B1 = search rules
same_is s (named.Ack received available channel) = search rules
same_is s m = refl

pub same_drawn : (s : InProxy) (leg : Leg) → Same s (drawn s leg)
same_drawn s leg = search rules

pub same_settled : (s : InProxy) → Same s (settled s)
same_settled s = search rules

pub same_mark : (s : InProxy) (leg : Leg) → Same s (mark s leg)
same_mark s leg =
    same_settled (if is_newest s leg then record s { newest_lost = true } else s)
    ∙ by_test (Same s) (is_newest s leg) _ s (λ e. refl) (λ e. refl)

pub same_ping : (s : InProxy) (leg : Leg) → Same s (ping s leg)
same_ping s leg = search rules

-- ---- the next channel takes the place of the current one

pub no_ack : (to received available : ℕ) (channel : Cookie)
    → is_in_r2_a2 (named.AckTo to received available channel) ≡ false
no_ack to received available channel = refl

module _ (n floor k : ℕ) (dues : List Due) where
  abbrev pub After : Bool → Bool → ClientLeg → Successor → Type 0
  After has_next done current z = Tells n floor (record {
    number = (follows has_next current z).0.number;
    heir = (follows has_next current z).1;
    has_next = has_next;
    done = done;
    dues = dues;
  }) k

  pub stays : (has_next done : Bool) (current : ClientLeg) (z : Successor)
      → Tells n floor (record {
        number = current.number;
        heir = z;
        has_next = has_next;
        done = done;
        dues = dues;
      }) k → After has_next done current z
  stays true done current z h = h
  stays false done current Absent h = h
  stays false done current (Up number) h = h
  stays false done current (Joined leg stage) h = absurd (let e = h.joined in cc)

  pub goes : (current : ClientLeg) (z : Successor) → is_succeeded z ≡ true
      → n + k ≤ told current.number z → floor ≤ told current.number z
      → waits is_in_r2_a2 dues ≡ 0 → After false false current z
  goes current (Joined leg Follows) e h up none =
      record { count = h; least = up; none = none; behind = tt; joined = refl; done = refl }
  goes current (Joined leg Told) e h up none = absurd cc
  goes current (Joined leg (TellsServer behind)) e h up none = absurd cc
  goes current (Up number) e h up none = absurd cc
  goes current Absent e h up none = absurd cc

  -- as the line says
  abbrev pub Behind : ClientLeg → Successor → line.Line → Type 0
  Behind current z l = After l.has_next l.finished current z

  pub settles : (current : ClientLeg) (z : Successor) (l : line.Line)
      → Tells n floor (record {
        number = current.number;
        heir = z;
        has_next = l.has_next;
        done = l.finished;
        dues = dues;
      }) k → Behind current z (line.settled l)
  settles current z l h =
      by_test (Behind current z) (l.finished && line.is_empty l.current.pdus) (line.moved_on l) l
      (λ e. goes current z (sym h.done
      ∙ (and_parts l.finished (line.is_empty l.current.pdus) e).0) h.count
      h.least h.none)
      (λ e. stays l.has_next l.finished current z h)
