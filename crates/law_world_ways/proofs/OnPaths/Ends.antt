-- what is told of a leg at a node's end
use Rattle.law_order.proofs.Vocabulary.{◌≡◌, ℕ, Bool, true, false, List, [], ◌++◌, Some, None, refl, sym, ap, ◌∙◌, ◌&&◌, ◌||◌, not, if◌then◌else◌, Option, append-nil}
use Rattle.rh_shell.specs.declared.answers.Phase.TheVariants as phase
use Rattle.law_moves.proofs.Vocabulary.{Pipe, some_is, Leg, Phase, Course, Going, Closed, Refusing, NearEnd, is_ended, is_marked, is_over, Rules, Message, Shell, end_at, is_working, is_working_by, state_by, spelled, Reading, begin, messages_read, reading, reading_after}
use Rattle.law_node_streams.specs.Streams.{IsReadTo, is_live, is_refused_on}
use Rattle.law_world_ways.proofs.OnPaths.Legs.{StandsAt}
use Rattle.law_world_ways.specs.OnPaths.Forgotten.{IsDrawnOut}
use Rattle.law_world_ways.specs.OnPaths.OnWay.{left_at, left_on, read_at, read_by, read_on}

module _ {S : Type 0} (s : Shell S) (leg : Leg) (up : Bool) where
  -- what was put spells what was drawn and is begun
  module _ (lost : Bool) (put : List Message) (drawn : List ℕ)
      (seat : (end : NearEnd) → is_refused_on leg s.course ≡ false → end_at s leg ≡ Some end
      → spelled put ≡ drawn ++ end.begun)
      (all : IsDrawnOut s leg up lost put drawn)
      (new : up ≡ false → (put ≡ []) × (drawn ≡ [])) (begun : List ℕ) where
    left_end : is_refused_on leg s.course ≡ false → (o : Option NearEnd) → end_at s leg ≡ o → (u : Bool) → up ≡ u
        → (l : Bool) → lost ≡ l → left_at u l o ≡ Some begun → spelled put ≡ drawn ++ begun
    left_end free (Some end) at u is l was told =
        seat end free at ∙ ap (λ (b : List ℕ). drawn ++ b) (some_is end.begun begun told)
    left_end free None at true is true was told = absurd (cc)
    left_end free None at true is false was told =
        all (record { free = free; gone = at; rose = is; untold = was })
        ∙ sym (append-nil drawn) ∙ ap (λ (b : List ℕ). drawn ++ b) (some_is [] begun told)
    left_end free None at false is l was told =
        ap spelled (new is).0 ∙ some_is [] begun told
        ∙ ap (λ (d : List ℕ). d ++ begun) (sym (new is).1)

    left_free : (b : Bool) → is_refused_on leg s.course ≡ b
        → (if b then None else left_at up lost (end_at s leg)) ≡ Some begun
        → spelled put ≡ drawn ++ begun
    left_free true is told = absurd (cc)
    left_free false is told = left_end is (end_at s leg) refl up refl lost refl told

    pub left_spells : left_on s leg up lost ≡ Some begun → spelled put ≡ drawn ++ begun
    left_spells told = left_free (is_refused_on leg s.course) refl told

  -- what came is what is read up to where it stands
  module _ (rules : Rules S) (pipe : Option Pipe) where
    module _ (came : List Message) (heard : List ℕ)
        (seat : (end : NearEnd) → s.course ≡ Going → end_at s leg ≡ Some end
        → is_over rules end s.role ≡ false → is_live end.intake.stage ≡ true
        → IsReadTo pipe came heard end.intake)
        (new : up ≡ false → (came ≡ []) × (heard ≡ [])) (r : Reading) where
      read_tests : s.course ≡ Going → (end : NearEnd) → end_at s leg ≡ Some end
          → (over live : Bool) → is_over rules end s.role ≡ over
          → is_live end.intake.stage ≡ live
          → (if not over && live then Some (reading end.intake.stage end.intake.held) else None)
          ≡ Some r
          → StandsAt pipe came heard r
      read_tests going end at true live is l told = absurd (cc)
      read_tests going end at false false is l told = absurd (cc)
      read_tests going end at false true is l told =
          let here = seat end going at is l in
          record {
            all = here.all;
            after = here.after ∙ some_is (reading end.intake.stage end.intake.held) r told;
          }

      read_end : s.course ≡ Going → (o : Option NearEnd) → end_at s leg ≡ o → (u : Bool)
          → up ≡ u → read_at rules s.role pipe u o ≡ Some r → StandsAt pipe came heard r
      read_end going (Some end) at u is told =
          read_tests going end at (is_over rules end s.role) (is_live end.intake.stage) refl refl
          told
      read_end going None at true is told = absurd (cc)
      read_end going None at false is told = record {
        all = (new is).0 ∙ ap (messages_read pipe) (sym (new is).1);
        after = ap (reading_after pipe (begin pipe)) (new is).1 ∙ some_is (begin pipe) r told;
      }

      read_course : (c : Course) → s.course ≡ c
          → read_by rules s.role pipe up (end_at s leg) c ≡ Some r → StandsAt pipe came heard r
      read_course Going is told = read_end is (end_at s leg) refl up refl told
      read_course (Closed why) is told = absurd (cc)
      read_course (Refusing why client rest) is told = absurd (cc)

      pub read_stands : read_on rules s pipe leg up ≡ Some r → StandsAt pipe came heard r
      read_stands told = read_course s.course refl told

    -- a node whose work is done takes nothing on a leg that came up
    module _ (r : Reading) (stopped : is_working rules s ≡ false) where
      ended_phase : (f : Phase) → is_working_by (state_by Going f) ≡ false → is_ended f ≡ true
      ended_phase phase.Opening e = absurd (cc)
      ended_phase phase.Open e = absurd (cc)
      ended_phase phase.Ended e = refl

      over_by : (marked useless ended : Bool) → ended ≡ true
          → (marked || (useless || ended)) ≡ true
      over_by true useless ended e = refl
      over_by false true ended e = refl
      over_by false false ended e = e

      untold : (over live : Bool) (x : Reading) → over ≡ true
          → (if not over && live then Some x else None) ≡ Some r → up ≡ false
      untold true live x e told = absurd (cc)
      untold false live x e told = absurd (cc)

      gone_end : is_ended (rules.phase s.role) ≡ true → (o : Option NearEnd) → (u : Bool)
          → up ≡ u → read_at rules s.role pipe u o ≡ Some r → up ≡ false
      gone_end ended (Some end) u is told =
          untold (is_over rules end s.role) (is_live end.intake.stage)
          (reading end.intake.stage end.intake.held)
          (over_by (is_marked end.standing) (rules.is_done s.role end.leg)
          (is_ended (rules.phase s.role)) ended) told
      gone_end ended None true is told = absurd (cc)
      gone_end ended None false is told = is

      gone_course : (c : Course) → s.course ≡ c
          → is_working_by (state_by c (rules.phase s.role)) ≡ false
          → read_by rules s.role pipe up (end_at s leg) c ≡ Some r → up ≡ false
      gone_course Going is done told =
          gone_end (ended_phase (rules.phase s.role) done) (end_at s leg) up refl told
      gone_course (Closed why) is done told = absurd (cc)
      gone_course (Refusing why client rest) is done told = absurd (cc)

      pub gone_unread : read_on rules s pipe leg up ≡ Some r → up ≡ false
      gone_unread told = gone_course s.course refl stopped told
