-- what a server keeps of what it may put: sizes, ranges and PDUs
use Rattle.law_order.proofs.Vocabulary.{◌≡◌, ℕ, ◌&&◌, ◌||◌, List, Bool, true, false, not, Some, None, IfSome, AllByRecursion, Option}
use Rattle.rh_sig.specs.declared.named.Named.TheVariants as named
use Rattle.rh_server.specs.declared.out_line.Kind.TheVariants as kind
use Rattle.rh_server.specs.declared.state.Stage.TheVariants as stage
use Rattle.rh_server.specs.declared.state.Tells.TheVariants as tells
use Rattle.law_moves.proofs.Vocabulary.{Receiver, IsWindow, by_test, IsPdu, Cookie, OsD, Named, IsTimeout, each_push, Line, after_open_next, moved_on, is_empty, settled as line_settled, Due, Waiting, added, own, MayGo}
use Rattle.law_role_server.proofs.Vocabulary.{Stage, Edge, Shut, InStage, Fresh, Waits, Opened, InLeg, waits, Server, in_at, in_leg, in_place, set_at, removed_at, with_in, without_in, ended_if, opens_next, opens_leg, first_waiting, waiting_place, next_opened, becomes_current, moved_if, asks, wishes, wished, is_complete, completed, settled}
use Rattle.law_role_server.proofs.Each.{each_got, each_set, each_removed}
use Rattle.law_role_server.proofs.Putable.{IsCookie, in_r1_a3, out_r1_a1}
use Rattle.law_role_server.proofs.Telling.{IsTelling, Tells, opened_tells, moved_tells}

-- ---- what is kept

-- a window and a timeout that came, and are told to the client
abbrev pub AreTold : ℕ → ℕ → Type 0
AreTold window timeout = IsWindow window × IsTimeout timeout

abbrev pub IsStage : Stage → Type 0
IsStage stage.Waits = Unit {0}
IsStage (stage.OutCame connection) = Unit {0}
IsStage (stage.InCame connection window timeout) = AreTold window timeout
IsStage (stage.Open connection) = Unit {0}
IsStage stage.Ended = Unit {0}

abbrev pub IsInStage : InStage → Type 0
IsInStage Fresh = Unit {0}
IsInStage (Waits window timeout ended) = AreTold window timeout
IsInStage Opened = Unit {0}

abbrev pub IsLeg : InLeg → Type 0
IsLeg leg = IsCookie leg.cookie × IsInStage leg.stage

abbrev pub MayWait : Due → Type 0
MayWait due = MayGo OsD due.packet

pub record IsSound (stage : Stage) (edge : Edge) (size : ℕ) (now next : Receiver)
    (one other : Cookie) (ins : List InLeg) (queue : List (List ℕ)) (dues : List Due)
    : Type 0 where
  pub staged : IsStage stage
  pub telling : IsTelling edge size now next
  -- the cookies of the current and of the next channel
  pub current : IsCookie one
  pub following : IsCookie other
  pub legs : AllByRecursion IsLeg ins
  pub pdus : AllByRecursion IsPdu queue
  pub packets : AllByRecursion MayWait dues

abbrev pub Sound : Server → Type 0
Sound s =
    IsSound s.stage s.edge s.line.size s.line.current.window s.line.next.window s.current.cookie
    s.next.cookie s.ins s.queue s.waiting.due

-- ---- a part is changed

pub stage_is : (s : Server) (new : Stage) → Sound s → IsStage new
    → Sound (record s { stage = new })
stage_is s new h is = record {
  staged = is;
  telling = h.telling;
  current = h.current;
  following = h.following;
  legs = h.legs;
  pdus = h.pdus;
  packets = h.packets;
}

pub line_is : (s : Server) (new : Line) → Sound s → Tells s.edge new
    → Sound (record s { line = new })
line_is s new h is = record {
  staged = h.staged;
  telling = is;
  current = h.current;
  following = h.following;
  legs = h.legs;
  pdus = h.pdus;
  packets = h.packets;
}

pub legs_are : (s : Server) (new : List InLeg) → Sound s → AllByRecursion IsLeg new
    → Sound (record s { ins = new })
legs_are s new h are = record {
  staged = h.staged;
  telling = h.telling;
  current = h.current;
  following = h.following;
  legs = are;
  pdus = h.pdus;
  packets = h.packets;
}

pub queue_is : (s : Server) (new : List (List ℕ)) → Sound s → AllByRecursion IsPdu new
    → Sound (record s { queue = new })
queue_is s new h are = record {
  staged = h.staged;
  telling = h.telling;
  current = h.current;
  following = h.following;
  legs = h.legs;
  pdus = are;
  packets = h.packets;
}

pub packets_are : (s : Server) (new : Waiting) → Sound s → AllByRecursion MayWait new.due
    → Sound (record s { waiting = new })
packets_are s new h are = record {
  staged = h.staged;
  telling = h.telling;
  current = h.current;
  following = h.following;
  legs = h.legs;
  pdus = h.pdus;
  packets = are;
}

pub packet_added : (s : Server) (packet : Named) → Sound s → MayGo OsD packet
    → Sound (record s { waiting = added s.waiting packet })
packet_added s packet h may =
    packets_are s (added s.waiting packet) h
    (each_push MayWait s.waiting.due (own packet) h.packets may)

-- ---- is legs

pub leg_at : (legs : List InLeg) (place : Option ℕ) → AllByRecursion IsLeg legs
    → IfSome (in_at legs place) IsLeg
leg_at legs None h = tt
leg_at legs (Some place) h = each_got IsLeg legs place h

pub leg_found : (s : Server) (n : ℕ) → Sound s → IfSome (in_leg n s.ins) IsLeg
leg_found s n h = leg_at s.ins (in_place n s.ins) h.legs

pub leg_set : (s : Server) (leg : InLeg) → Sound s → IsLeg leg → Sound (with_in s leg)
leg_set s leg h is =
    legs_are s (set_at s.ins leg (in_place leg.number s.ins)) h (by (in_place leg.number s.ins))
  where
    by : (place : Option ℕ) → AllByRecursion IsLeg (set_at s.ins leg place)
    by None = h.legs
    by (Some place) = each_set IsLeg s.ins place leg is h.legs

pub leg_gone : (s : Server) (n : ℕ) → Sound s → Sound (without_in s n)
leg_gone s n h =
    legs_are s (removed_at s.ins (in_place n s.ins)) h (by (in_place n s.ins))
  where
    by : (place : Option ℕ) → AllByRecursion IsLeg (removed_at s.ins place)
    by None = h.legs
    by (Some place) = each_removed IsLeg s.ins place h.legs

-- ---- channels

opens : (s : Server) (leg : InLeg) (x : InStage) → Sound s → IsCookie leg.cookie → IsInStage x
    → Sound (opens_next s leg x)
opens s leg Fresh h is told = h
opens s leg Opened h is told = h
opens s leg (Waits window timeout ended) h is told =
    leg_set (record s {
      line = ended_if ended (after_open_next s.line true);
      next = record { leg = leg.number; number = leg.number; cookie = leg.cookie };
      waiting = added s.waiting (named.InR1A3 0 1 window timeout);
    })
    (record leg { stage = Opened; tells = tells.InR1B2 })
    (record {
      staged = h.staged;
      telling = opened_tells s.edge s.line ended h.telling;
      current = h.current;
      following = is;
      legs = h.legs;
      pdus = h.pdus;
      packets = each_push MayWait s.waiting.due (own (named.InR1A3 0 1 window timeout)) h.packets
          (in_r1_a3 window timeout told.0 told.1);
    })
    (is, tt)

pub next_opens : (s : Server) → Sound s → Sound (next_opened s)
next_opens s h =
    by_test Sound (s.line.has_next || waits kind.InR1A3 s.waiting) s
    (opens_leg s (first_waiting s.ins)) (λ e. h)
    (λ e. by (first_waiting s.ins) (leg_at s.ins (waiting_place s.ins) h.legs))
  where
    by : (leg : Option InLeg) → IfSome leg IsLeg → Sound (opens_leg s leg)
    by None is = h
    by (Some leg) is = opens s leg leg.stage h is.0 is.1

pub no_both : (b : Bool) → b && not b ≡ true → ⊥
no_both true e = absurd (cc)
no_both false e = absurd (cc)

-- the current channel is finished, or a PDU was taken: the next one may be the current one
pub moves : (s : Server) (line : Line) → Sound (record s { line = line })
    → Sound (moved_if line.has_next (record s { line = line_settled line }))
moves s line h =
    by_test (λ (x : Line). Sound (moved_if line.has_next (record s { line = x })))
    (line.finished && is_empty line.current.pdus) (moved_on line) line
    (λ e. by_test Sound (line.has_next && not false) (becomes_current next) next
    (λ f. next_opens (record next { current = s.next; edge = Shut }) (record {
      staged = h.staged;
      telling = moved_tells s.edge Shut line h.telling;
      current = h.following;
      following = h.following;
      legs = h.legs;
      pdus = h.pdus;
      packets = h.packets;
    }))
    (λ f. line_is (record s { line = line }) (moved_on line) h
    (moved_tells s.edge s.edge line h.telling)))
    (λ e. by_test Sound (line.has_next && not line.has_next)
    (becomes_current (record s { line = line })) (record s { line = line })
    (λ f. absurd (no_both line.has_next f)) (λ f. h))
  where
    next : Server
    next = record s { line = moved_on line }

-- ---- behind each put, and where a leg is lost

pub asks_sound : (s : Server) → Sound s → Sound (asks s)
asks_sound s h = packet_added s (named.OutR1A1 0) h out_r1_a1

pub settles : (s : Server) → Sound s → Sound (settled s)
settles s h =
    wish (completed s)
    (by_test Sound (is_complete s) (record s { stage = stage.Ended }) s
    (λ e. stage_is s stage.Ended h tt) (λ e. h))
  where
    wish : (t : Server) → Sound t → Sound (wished t)
    wish t q = by_test Sound (wishes t) (asks t) t (λ e. asks_sound t q) (λ e. q)
