-- a proxy that drew the refusal of status 503 was told that its server is lost, since what it put
-- while it went on does not begin with that; and it drew it on its client's leg
use Rattle.law_order.proofs.Vocabulary.{◌≡◌, ◌⊎◌, inl, inr, ℕ, List, ◌++◌, sym, ap, ◌∙◌, subst, Option, IsPrefix}
use Rattle.law_moves.proofs.Vocabulary.{Pipe, Unavailable, refusal_text, status_of, Leg, Going, Rooms, Rules, begun, spelled, Event, after_events, of_leg, RefusesInTurn}
use Rattle.law_node_history.proofs.Vocabulary.{drawn_on, heard_on}
use Rattle.law_node_causes.specs.Refusals.{MayRefuseOn}
use Rattle.law_node_streams.specs.Streams.{RefusalDrawn, RefusesText, Stream}
use Rattle.law_node_traces.proofs.Vocabulary.{DrawsRightly}
use Rattle.law_world_honest.proofs.Refusals.Drawn.{refused_more}
use Rattle.law_world_honest.proofs.Refusals.Fronts.{Traced, front_stream}
use Rattle.law_world_honest.proofs.Refusals.Refusals.{refusal_whole}
use Rattle.law_world_honest.proofs.Refusals.Unavailables.{told_503, unavailable_refuses}
use Rattle.law_world_honest.specs.Refusals.Refused.{BeginsRefused, DrewRefusal, IsUnreached}

module _ {S : Type 0} (rules : Rules S) (first : S) (rooms : Rooms) (pipe : Leg → Option Pipe)
    (leg : Leg) where
  -- what it put there refuses no channel with this status
  abbrev pub PutsNone : ℕ → (events : List Event) → Stream rules first rooms pipe events → Type 0
  PutsNone status events s =
      BeginsRefused (spelled (of_leg leg s.passage.put)) leg status → ⊥

  abbrev drew : List Event → List ℕ
  drew events = drawn_on rules (begun first rooms) leg events

  module _ (events : List Event) (law : Traced rules first rooms pipe events)
      (client server : Leg)
      (on : (some : List Event)
      → MayRefuseOn client server (after_events rules (begun first rooms) some).course)
      (none : (some : List Event) → (s : Stream rules first rooms pipe some)
      → PutsNone 503 some s) where
    fair : (before behind : List Event) → events ≡ before ++ behind
        → (after_events rules (begun first rooms) before).course ≡ Going
        → drew before ≡ refusal_text Unavailable → ⊥
    fair before behind is going whole =
        let s = front_stream rules first rooms pipe events law before behind is in
        let put = spelled (of_leg leg s.passage.put) in
        none before s
        (refused_more (refusal_text Unavailable) put leg 503
        (subst (λ (x : List ℕ). IsPrefix x put) whole (s.goes leg going))
        (unavailable_refuses leg))

    pub lost_503 : DrawsRightly rules (begun first rooms) server leg events
        → DrewRefusal (drew events) 503 → (leg ≡ client) × IsUnreached server events
    lost_503 = told_503 rules (begun first rooms) client server leg events law.once law.accepted
        on fair

  -- a refusal where no head was refused has that status
  pub has_503 : (events : List Event) (s : Stream rules first rooms pipe events) (status : ℕ)
      → RefusesInTurn rules first pipe leg → PutsNone status events s
      → (RefusesText rules leg (heard_on leg events) → ⊥)
      → BeginsRefused (drew events) leg status → status ≡ 503
  has_503 events s status refuses none taken begins = by (s.refused leg refuses)
    where
      put : List ℕ
      put = spelled (of_leg leg s.passage.put)

      by : IsPrefix (drew events) put
          ⊎ RefusalDrawn rules leg (of_leg leg s.passage.put) (heard_on leg events) (drew events)
          → status ≡ 503
      by (inl front) = absurd (none (refused_more (drew events) put leg status front begins))
      by (inr r) = by_reason r.why
        where
          by_reason : (r.refusal ≡ Unavailable) ⊎ RefusesText rules leg (heard_on leg events)
              → status ≡ 503
          by_reason (inr refused) = absurd (taken refused)
          by_reason (inl lost) =
              sym (refusal_whole r.refusal (drew events) leg status r.front begins).1
              ∙ ap status_of lost
