-- what an event at a node is to each leg
use Rattle.law_order.proofs.Vocabulary.{◌≡◌, ℕ, List, [], ◌∷◌, length, take, drop, cond, Bool, true, false, Some, None, refl, sym, ap, ◌∙◌, subst, All, ◌&&◌, ◌||◌, is_some, not, nat_le, AllByRecursion, list_any, Option, take-append-drop, All-set, and_parts}
use Rattle.rh_line.specs.declared.cause.Cause.TheVariants as cause
use Rattle.rh_shell.specs.Shells.{drawn}
use Rattle.rh_shell.specs.declared.stage.Stage.TheVariants as stage
use Rattle.law_moves.proofs.Vocabulary.{neither, IsUnfinished, Cookie, Pipe, refusal_text, Unavailable, Leg, Cause, Course, Going, Closed, Refusing, Stage, Drawn, draw, Turn, goes, hear, is_stopped, Intake, NearEnd, first_stage, is_ended, is_finished, is_marked, marked, new_end, Rules, Shell, end_at, with_end, place, close, refuse, stopped, bytes_at, bytes_by, bytes, may_up, has_room, with_leg, seated_at, free_place, up, lose, lost, ended_at, ended_by, ended, wants, is_heard}
use Rattle.law_moves.proofs.Vocabulary.{unreached_by, unreached, broken_at, broken_by, broken, put_back, drawn_at, drawn_by, same_leg, first_silent, passed_by, passed, tick, is_working, Move, Passage, Up, HeadCame, PduCame, PacketCame, Puts, IsDrawn, Marks, Pings, MayMove, moved, Event, ComesUp, Hears, Ends, Breaks, Draws, Ticks, after_event, IsHeld, AreHeld, of_leg, AreCounted, Stages, AreInTurnFrom}
use Rattle.law_moves.proofs.Lemmas.{leg_is, nothing_held, seated_held}
use Rattle.law_node_history.proofs.Lemmas.{same_itself}
use Rattle.law_node_history.proofs.Vocabulary.{drawn_in, heard_in, is_up_of}
use Rattle.law_node_streams.proofs.Streams.Counts.{TellsOn}
use Rattle.law_node_streams.proofs.Streams.Draws.{Drew, draw_drew}
use Rattle.law_node_streams.proofs.Streams.Ends.{AreApart, end_has, end_is, end_leg, end_of, same_apart, seated_apart, seated_new, seated_other}
use Rattle.law_node_streams.proofs.Streams.Hears.{Heard}
use Rattle.law_node_streams.proofs.Streams.Pings.{pings}
use Rattle.law_node_streams.proofs.Streams.Pieces.{piece_heard}
use Rattle.law_node_streams.proofs.Streams.Staging.{IsNext, LeavesStages, all_stages, anything, leaves_none, next_itself, reached_stays, stage_none, stage_other}
use Rattle.law_node_streams.proofs.Streams.Seats.{StopKeeps, at_work, on_answers, on_left, on_stopped, staged_on, beside_seat, here_seat, left_as, left_of, left_self, marked_left, seat, silent_closed, silent_none, stop_here, stop_keeps, stop_there, was_seat}
use Rattle.law_node_streams.proofs.Streams.Turns.{Nowhere, Sits, Answers, IsOn, IsStaged, IsLeft, IsQuiet, IsSilent, Turns, Passes, Tells, Comes, Fails, more_there, seat_by}
use Rattle.law_node_streams.proofs.Streams.Ways.{Way, IsRaised, Lifts, nowhere, or_false, way_none, way_one}
use Rattle.law_node_streams.proofs.Streams.Turns as turns
use Rattle.law_node_streams.specs.Streams.{is_up_on}

pub no_lift : (With : Leg → Cookie → Type 0) (move : Move)
    → ((leg : Leg) → is_up_on leg move ≡ false) → Lifts With move
no_lift With (Up leg cookie) none =
    absurd (let bad : true ≡ false = sym (same_itself leg) ∙ none leg in cc)
no_lift With (HeadCame leg text) none = tt
no_lift With (PduCame leg count pdu) none = tt
no_lift With (PacketCame leg count named) none = tt
no_lift With (Puts leg) none = tt
no_lift With (IsDrawn leg) none = tt
no_lift With (Marks leg) none = tt
no_lift With (Pings leg) none = tt

-- where no leg comes up, each that does has it
pub no_lifts : (With : Leg → Cookie → Type 0) (moves : List Move)
    → ((leg : Leg) → list_any (is_up_on leg) moves ≡ false) → AllByRecursion (Lifts With) moves
no_lifts With [] none = tt
no_lifts With (move ∷ moves) none = (
  no_lift With move
      (λ leg. (neither (is_up_on leg move) (list_any (is_up_on leg) moves) (none leg)).0),
  no_lifts With moves
      (λ leg. (neither (is_up_on leg move) (list_any (is_up_on leg) moves) (none leg)).1),
)

module _ {S : Type 0} (rules : Rules S) (pipes : Leg → Option Pipe) (rose : Leg → Bool)
    (With : Leg → Cookie → Type 0) where
  -- moves lead to a passage whose role is the node's, and each leg turns so; those that come up
  -- have this with their cookies, if the event has it
  pub record Steps (p : Passage S) (s t : Shell S) (ups : Leg → Bool) (HasIt : Type 0)
      (bytes out : Leg → List ℕ) (later : Leg → Bool) : Type 0 where
    pub heads : Leg → Bool
    pub passage : Passage S
    pub way : Way rules heads ups p passage
    pub role : passage.role ≡ t.role
    pub held : AreHeld t
    pub apart : AreApart t.legs
    pub lifted : HasIt → AllByRecursion (Lifts With) way.moves
    pub turned : (leg : Leg) → Turns rules (pipes leg) leg p passage way.moves (seat leg s)
        (seat leg t) (bytes leg) (out leg) (rose leg) (later leg)
    pub staged : (g : Stages)
        → ((leg : Leg) → IsStaged (g leg) (seat leg s) (rose leg))
        → AreInTurnFrom rules p g way.moves
        × ((leg : Leg)
        → IsStaged (all_stages rules p g way.moves leg) (seat leg t) (later leg))
    pub counted : ((leg : Leg) (end : NearEnd) → seat leg s ≡ Sits end
        → TellsOn p leg end.count) → AreCounted rules p way.moves

  module _ (p : Passage S) (s : Shell S) (is : p.role ≡ s.role) (held : AreHeld s)
      (apart : AreApart s.legs) where
    -- nothing is logged, and no head comes
    quiet_steps : (q : Passage S) (t : Shell S) (bytes out : Leg → List ℕ)
        → (way : Way rules nowhere nowhere p q)
        → LeavesStages rules anything (Unit {0}) p way.moves → q.role ≡ t.role → q.came ≡ p.came
        → q.put ≡ p.put → AreHeld t → AreApart t.legs
        → ((leg : Leg) → IsLeft (seat leg s) (seat leg t))
        → ((leg : Leg) → IsSilent (bytes leg) (seat leg t)) → ((leg : Leg) → out leg ≡ [])
        → Steps p s t nowhere (Unit {0}) bytes out (λ leg. rose leg || false)
    quiet_steps q t bytes out way leaves role came put held_t apart_t left silent dry = record {
      heads = nowhere;
      passage = q;
      way = way;
      role = role;
      held = held_t;
      apart = apart_t;
      lifted = λ has. no_lifts With way.moves way.raised;
      turned = λ leg. Passes (record {
        quiet = record {
          came = ap (of_leg leg) came;
          put = ap (of_leg leg) put;
          headless = way.headless leg refl;
          out_is = dry leg;
        };
        left = left leg;
        silent = silent leg;
      });
      staged = λ g. λ all. (
        leaves.in_turn g tt,
        λ leg.
            staged_on (g leg) (all_stages rules p g way.moves leg) (seat leg s) (seat leg t)
            (rose leg) (ap (λ (f : Stages). f leg) (leaves.stays g))
            (on_left (g leg) (seat leg s) (seat leg t) (left leg)) (all leg),
      );
      counted = λ all. leaves.counted tt;
    }

    -- the node is as it was
    none : (bytes out : Leg → List ℕ)
        → ((leg : Leg) → IsSilent (bytes leg) (seat leg s)) → ((leg : Leg) → out leg ≡ [])
        → Steps p s s nowhere (Unit {0}) bytes out (λ leg. rose leg || false)
    none bytes out silent dry =
        quiet_steps p s bytes out (way_none rules nowhere p)
        (leaves_none rules anything (Unit {0}) p) is refl refl held apart
        (λ leg. left_self (seat leg s)) silent dry

    abbrev Calm : Shell S → Type 0
    Calm t =
        Steps p s t nowhere (Unit {0}) (λ leg. []) (λ leg. []) (λ leg. rose leg || false)

    calm : (q : Passage S) (t : Shell S) → (way : Way rules nowhere nowhere p q)
        → LeavesStages rules anything (Unit {0}) p way.moves → q.role ≡ t.role
        → q.came ≡ p.came → q.put ≡ p.put → AreHeld t → AreApart t.legs
        → ((leg : Leg) → IsLeft (seat leg s) (seat leg t)) → Calm t
    calm q t way leaves role came put held_t apart_t left =
        quiet_steps q t (λ leg. []) (λ leg. []) way leaves role came put
        held_t apart_t left (λ leg. silent_none (seat leg t)) (λ leg. refl)

    calm_none : Calm s
    calm_none =
        none (λ leg. []) (λ leg. []) (λ leg. silent_none (seat leg s)) (λ leg. refl)

    closes : (why : Cause) → Calm (close s why)
    closes why =
        calm p (close s why) (way_none rules nowhere p) (leaves_none rules anything (Unit {0}) p)
        is refl refl held apart (λ leg. tt)

    -- ---- a leg is lost

    marks : (k : Leg) (end : NearEnd) (q : Passage S) (role : S) → end_of k s.legs ≡ Some end
        → s.course ≡ Going → (way : Way rules nowhere nowhere p q)
        → LeavesStages rules anything (Unit {0}) p way.moves → q.role ≡ role → q.came ≡ p.came
        → q.put ≡ p.put → Calm (with_end s k (marked end) role)
    marks k end q role at going way leaves same came put =
        calm q (with_end s k (marked end) role) way leaves same came put
        (All-set IsHeld s.legs (place k s.legs) (marked end) (end_has IsHeld k s.legs end at held)
        held)
        (same_apart k s.legs end (marked end) at refl apart)
        (λ leg. by leg (same_leg k leg) refl)
      where
        by : (leg : Leg) (t : Bool) → same_leg k leg ≡ t
            → IsLeft (seat leg s) (seat leg (with_end s k (marked end) role))
        by leg true e =
            subst (IsLeft (seat leg s))
            (sym (here_seat s k leg end (marked end) role at refl e going))
            (marked_left end (seat leg s) (was_seat s k leg end at e going))
        by leg false e =
            left_as (seat leg s) (seat leg (with_end s k (marked end) role))
            (beside_seat s k leg end (marked end) role at refl e)

    loses : (k : Leg) (end : NearEnd) (why : Cause) → end_of k s.legs ≡ Some end
        → s.course ≡ Going → Calm (lost rules s k end why)
    loses k end why at going = by_finished (is_finished rules s.role end)
      where
        by_marks : (t : Bool) → rules.only_marks s.role k ≡ t
            → not (is_ended (rules.phase s.role)) ≡ true
            → Calm (cond t (with_end s k (marked end) (rules.mark s.role k)) (close s why))
        by_marks true e work =
            marks k end (moved rules p (Marks k)) (rules.mark s.role k) at going
            (way_one rules nowhere nowhere p (Marks k)
            (subst (λ (r : S). MayMove rules r (Marks k)) (sym is) (work, e))
            (λ leg. λ h. refl) (λ leg. refl))
            (record {
              in_turn = λ g. λ a. (tt, tt);
              stays = λ g. refl;
              counted = λ a. (tt, tt);
            })
            (ap (λ (r : S). rules.mark r k) is) refl refl
        by_marks false e work = closes why

        by_phase : (t : Bool) → is_ended (rules.phase s.role) ≡ t
            → Calm (cond t (with_end s k (marked end) s.role)
            (cond (rules.only_marks s.role k)
            (with_end s k (marked end) (rules.mark s.role k)) (close s why)))
        by_phase true e =
            marks k end p s.role at going (way_none rules nowhere p)
            (leaves_none rules anything (Unit {0}) p) is refl refl
        by_phase false e = by_marks (rules.only_marks s.role k) refl (ap not e)

        by_finished : (t : Bool) → Calm (cond t s (lose rules s k end why))
        by_finished true = calm_none
        by_finished false = by_phase (is_ended (rules.phase s.role)) refl

    ends : (k : Leg) → Calm (ended rules s k).0
    ends k = by_course s.course refl
      where
        by_end : (o : Option NearEnd) → end_at s k ≡ o → s.course ≡ Going
            → Calm (ended_at rules s k o)
        by_end None e going = calm_none
        by_end (Some end) e going =
            loses k end (cause.LegEnded k (length end.intake.held))
            (sym (end_is k s.legs) ∙ e) going

        by_course : (c : Course) → s.course ≡ c → Calm (ended_by rules s k c)
        by_course Going e = by_end (end_at s k) refl e
        by_course (Closed why) e = calm_none
        by_course (Refusing why client rest) e = calm_none

    -- ---- a wanted leg fails, and the client is told so

    refuses : (k client : Leg) (why : Cause) (end : NearEnd) → rules.wants s.role k ≡ true
        → rules.answers_on s.role ≡ Some client → end_of client s.legs ≡ Some end
        → s.course ≡ Going → Calm (refuse s why client Unavailable)
    refuses k client why end wants answers at going = record {
      heads = nowhere;
      passage = p;
      way = way_none rules nowhere p;
      role = is;
      held = held;
      apart = apart;
      lifted = λ has. tt;
      turned = λ leg. by leg (same_leg client leg) refl;
      staged = λ g. λ all. (
        tt,
        λ leg.
            staged_on (g leg) (g leg) (seat leg s)
            (cond (same_leg client leg) (Answers (refusal_text Unavailable)) Nowhere) (rose leg)
            refl (λ on. on_answers (g leg) (same_leg client leg) (refusal_text Unavailable))
            (all leg),
      );
      counted = λ all. tt;
    }
      where
        quiet : (leg : Leg) → IsQuiet rules (pipes leg) leg p p [] []
        quiet leg = record { came = refl; put = refl; headless = refl; out_is = refl }

        by : (leg : Leg) (t : Bool) → same_leg client leg ≡ t
            → Turns rules (pipes leg) leg p p [] (seat leg s)
            (cond t (Answers (refusal_text Unavailable)) Nowhere) [] [] (rose leg)
            (rose leg || false)
        by leg true e = Fails (record {
          quiet = quiet leg;
          wanted = k;
          wants = subst (λ (r : S). rules.wants r k ≡ true) (sym is) wants;
          answers =
              subst (λ (r : S). rules.answers_on r ≡ Some leg) (sym is)
              (answers ∙ ap Some (leg_is client leg e));
          end = end;
          before = was_seat s client leg end at e going;
          after = refl;
        })
        by leg false e = Passes (record { quiet = quiet leg; left = tt; silent = tt })

    breaks : (k : Leg) → Calm (broken rules s k).0
    breaks k = by_course s.course refl
      where
        by_client_end : (why : Cause) (client : Leg) (o : Option NearEnd) → end_at s client ≡ o
            → rules.wants s.role k ≡ true → rules.answers_on s.role ≡ Some client
            → s.course ≡ Going
            → Calm (cond (is_heard o) (refuse s why client Unavailable) (close s why))
        by_client_end why client None e wants answers going = closes why
        by_client_end why client (Some end) e wants answers going =
            by_heard (not (is_marked end.standing))
          where
            by_heard : (t : Bool)
                → Calm (cond t (refuse s why client Unavailable) (close s why))
            by_heard true =
                refuses k client why end wants answers (sym (end_is client s.legs) ∙ e) going
            by_heard false = closes why

        by_client : (why : Cause) (o : Option Leg) → rules.answers_on s.role ≡ o
            → rules.wants s.role k ≡ true → s.course ≡ Going → Calm (unreached_by s why o)
        by_client why None e wants going = closes why
        by_client why (Some client) e wants going =
            by_client_end why client (end_at s client) refl wants e going

        by_wants : (t : Bool) → wants rules s k ≡ t → s.course ≡ Going
            → Calm (cond t (unreached rules s k) s)
        by_wants true e going =
            let room = and_parts (is_working rules s)
            (has_room rules s k.kind && rules.wants s.role k) e in
            by_client (cause.LegBroken k) (rules.answers_on s.role) refl
            (and_parts (has_room rules s k.kind) (rules.wants s.role k) room.1).1 going
        by_wants false e going = calm_none

        by_end : (o : Option NearEnd) → end_at s k ≡ o → s.course ≡ Going
            → Calm (broken_at rules s k o)
        by_end None e going = by_wants (wants rules s k) refl going
        by_end (Some end) e going =
            loses k end (cause.LegBroken k) (sym (end_is k s.legs) ∙ e) going

        by_course : (c : Course) → s.course ≡ c → Calm (broken_by rules s k c)
        by_course Going e = by_end (end_at s k) refl e
        by_course (Closed why) e = calm_none
        by_course (Refusing why client rest) e = calm_none

    -- ---- bytes come

    abbrev Listens : Leg → List ℕ → Shell S → Type 0
    Listens k piece t =
        Steps p s t nowhere (Unit {0}) (λ leg. cond (same_leg k leg) piece []) (λ leg. [])
        (λ leg. rose leg || false)

    -- nobody hears them
    unheard : (k : Leg) (piece : List ℕ) → (s.course ≡ Going → end_of k s.legs ≡ None)
        → Listens k piece s
    unheard k piece deaf =
        none (λ leg. cond (same_leg k leg) piece []) (λ leg. [])
        (λ leg. by leg (same_leg k leg) refl) (λ leg. refl)
      where
        by : (leg : Leg) (t : Bool) → same_leg k leg ≡ t
            → IsSilent (cond t piece []) (seat leg s)
        by leg true e =
            silent_closed piece leg s.course (end_of leg s.legs)
            (λ going. subst (λ (l : Leg). end_of l s.legs ≡ None) (leg_is k leg e) (deaf going))
        by leg false e = silent_none (seat leg s)

    hears_on : (k : Leg) (piece : List ℕ) (end : NearEnd) → end_of k s.legs ≡ Some end
        → s.course ≡ Going
        → Listens k piece (bytes_at rules s k piece (Some end))
    hears_on k piece end at going = record {
      heads = same_leg end.leg;
      passage = h.passage;
      way = h.way;
      role = h.role ∙ sym keeps.role;
      held =
          subst (All IsHeld) (sym keeps.legs)
          (All-set IsHeld s.legs (place k s.legs) t.end h.held held);
      apart =
          subst AreApart (sym keeps.legs)
          (same_apart k s.legs end t.end at h.same.leg apart);
      lifted = λ has. no_lifts With h.way.moves h.way.raised;
      turned = λ leg. by leg (same_leg k leg) refl;
      staged = λ g. λ all.
          let both = h.turns g (next g all) in
          (both.0, λ leg. next_by g leg both.0 both.1 (all leg) (same_leg k leg) refl);
      counted = λ all.
          (h.counted (all end.leg end (was_seat s k end.leg end at
          (ap (same_leg k) on_leg ∙ same_itself k) going))).0;
    }
      where
        t : Turn S
        t = hear rules s.now (goes end s.role) piece

        h : Heard rules p end t piece
        h = piece_heard rules s.now p (goes end s.role) piece is refl
            (end_has IsHeld k s.legs end at held)

        set : Shell S
        set = with_end s k t.end t.role

        keeps : StopKeeps set (stopped set k t.stop)
        keeps = stop_keeps set k t.stop

        on_leg : end.leg ≡ k
        on_leg = leg_is end.leg k (end_leg k s.legs end at)

        -- what the end takes next comes next
        next : (g : Stages) → ((leg : Leg) → IsStaged (g leg) (seat leg s) (rose leg))
            → IsNext (g end.leg) end.intake.stage
        next g all =
            (subst (IsOn (g end.leg))
            (was_seat s k end.leg end at
            (ap (same_leg k) on_leg ∙ same_itself k) going)
            (all end.leg).on).0

        next_by : (g : Stages) (leg : Leg) → AreInTurnFrom rules p g h.way.moves
            → (is_stopped t.stop ≡ false
            → IsNext (all_stages rules p g h.way.moves end.leg) t.end.intake.stage)
            → IsStaged (g leg) (seat leg s) (rose leg) → (b : Bool) → same_leg k leg ≡ b
            → IsStaged (all_stages rules p g h.way.moves leg)
            (seat leg (stopped set k t.stop)) (rose leg || false)
        next_by g leg turn now was true e = record {
          on =
              subst (IsOn (all_stages rules p g h.way.moves leg))
              (sym (stop_here set k leg t.end t.stop
              (here_seat s k leg end t.end t.role at h.same.leg e going) e))
              (on_stopped (all_stages rules p g h.way.moves leg) t.end t.stop
              (λ go.
              subst (λ (l : Leg). IsNext (all_stages rules p g h.way.moves l) t.end.intake.stage)
              (on_leg ∙ leg_is k leg e) (now go))
              (reached_stays rules p g leg h.way.moves
              (subst (IsOn (g leg)) (was_seat s k leg end at e going) was.on).1));
          none = λ down.
              stage_none rules p g leg h.way.moves turn (h.way.raised leg)
              (was.none (sym (or_false (rose leg)) ∙ down));
        }
        next_by g leg turn now was false e =
            staged_on (g leg) (all_stages rules p g h.way.moves leg) (seat leg s)
            (seat leg (stopped set k t.stop)) (rose leg)
            (stage_other rules p g leg h.way.moves
            (h.way.headless leg (ap (λ (l : Leg). same_leg l leg) on_leg ∙ e)) (h.way.raised leg))
            (on_left (g leg) (seat leg s) (seat leg (stopped set k t.stop))
            (stop_there set k leg (seat leg s) t.stop
            (left_as (seat leg s) (seat leg set)
            (beside_seat s k leg end t.end t.role at h.same.leg e)) e)) was

        by : (leg : Leg) (b : Bool) → same_leg k leg ≡ b
            → Turns rules (pipes leg) leg p h.passage h.way.moves (seat leg s)
            (seat leg (stopped set k t.stop)) (cond b piece []) [] (rose leg)
            (rose leg || false)
        by leg true e = turns.Hears (record {
          end = end;
          before = was_seat s k leg end at e going;
          turn = t;
          heard = h;
          passage = refl;
          moves_are = refl;
          after =
              stop_here set k leg t.end t.stop
              (here_seat s k leg end t.end t.role at h.same.leg e going) e;
          out_is = refl;
        })
        by leg false e =
            let other : same_leg end.leg leg ≡ false =
            ap (λ (l : Leg). same_leg l leg) on_leg ∙ e in
            Passes (record {
              quiet = record {
                came = more_there leg h.passage.came p.came h.messages end.leg h.came other;
                put = ap (of_leg leg) h.put;
                headless = h.way.headless leg other;
                out_is = refl;
              };
              left =
                  stop_there set k leg (seat leg s) t.stop
                  (left_as (seat leg s) (seat leg set)
                  (beside_seat s k leg end t.end t.role at h.same.leg e)) e;
              silent = silent_none (seat leg (stopped set k t.stop));
            })

    hears : (k : Leg) (piece : List ℕ) → Listens k piece (bytes rules s k piece).0
    hears k piece = by_course s.course refl
      where
        by_end : (o : Option NearEnd) → end_at s k ≡ o → s.course ≡ Going
            → Listens k piece (bytes_at rules s k piece o)
        by_end None e going = unheard k piece (λ g. sym (end_is k s.legs) ∙ e)
        by_end (Some end) e going = hears_on k piece end (sym (end_is k s.legs) ∙ e) going

        by_course : (c : Course) → s.course ≡ c → Listens k piece (bytes_by rules s k piece c)
        by_course Going e = by_end (end_at s k) refl e
        by_course (Closed why) e =
            unheard k piece (λ g. absurd (let bad : Closed why ≡ Going = sym e ∙ g in cc))
        by_course (Refusing why client rest) e =
            unheard k piece
            (λ g. absurd (let bad : Refusing why client rest ≡ Going = sym e ∙ g in cc))

    -- ---- bytes are drawn

    abbrev Gives : Leg → Shell S × List ℕ → Type 0
    Gives k t =
        Steps p s t.0 nowhere (Unit {0}) (λ leg. []) (λ leg. cond (same_leg k leg) t.1 [])
        (λ leg. rose leg || false)

    gives_none : (k : Leg) → Gives k (s, [])
    gives_none k =
        none (λ leg. []) (λ leg. cond {A = List ℕ} (same_leg k leg) [] [])
        (λ leg. silent_none (seat leg s)) (λ leg. by (same_leg k leg))
      where
        by : (t : Bool) → cond {A = List ℕ} t [] [] ≡ []
        by true = refl
        by false = refl

    draws_on : (k : Leg) (room : ℕ) (end : NearEnd) → end_of k s.legs ≡ Some end
        → s.course ≡ Going → Gives k (put_back s k (draw rules s.now room end s.role))
    draws_on k room end at going = record {
      heads = nowhere;
      passage = w.passage;
      way = w.way;
      role = w.role;
      held = All-set IsHeld s.legs (place k s.legs) d.end still_held held;
      apart = same_apart k s.legs end d.end at w.beside.leg apart;
      lifted = λ has. no_lifts With w.way.moves w.way.raised;
      turned = λ leg. by leg (same_leg k leg) refl;
      staged = λ g. λ all. (
        w.leaves.in_turn g (reached g all),
        λ leg.
            staged_on (g leg) (all_stages rules p g w.way.moves leg) (seat leg s)
            (seat leg (with_end s k d.end d.role)) (rose leg)
            (ap (λ (f : Stages). f leg) (w.leaves.stays g))
            (next_by (g leg) leg (same_leg k leg) refl) (all leg),
      );
      counted = λ all. w.leaves.counted tt;
    }
      where
        d : Drawn S
        d = draw rules s.now room end s.role

        w : Drew rules p end d
        w = draw_drew rules s.now room p end s.role is

        still_held : IsHeld d.end
        still_held =
            subst (λ (i : Intake). i.stage ≡ stage.Frames → IsUnfinished i.held)
            (sym w.beside.intake) (end_has IsHeld k s.legs end at held)

        on_leg : end.leg ≡ k
        on_leg = leg_is end.leg k (end_leg k s.legs end at)

        -- the leg came up, since its end stands there
        reached : (g : Stages) → ((leg : Leg) → IsStaged (g leg) (seat leg s) (rose leg))
            → is_some (g end.leg) ≡ true
        reached g all =
            (subst (IsOn (g end.leg))
            (was_seat s k end.leg end at
            (ap (same_leg k) on_leg ∙ same_itself k) going)
            (all end.leg).on).1

        next_by : (next : Option Stage) (leg : Leg) (b : Bool) → same_leg k leg ≡ b
            → IsOn next (seat leg s) → IsOn next (seat leg (with_end s k d.end d.role))
        next_by next leg true e on =
            subst (IsOn next) (sym (here_seat s k leg end d.end d.role at w.beside.leg e going))
            (subst (λ (i : Intake). IsNext next i.stage × (is_some next ≡ true))
            (sym w.beside.intake) (subst (IsOn next) (was_seat s k leg end at e going) on))
        next_by next leg false e on =
            subst (IsOn next) (sym (beside_seat s k leg end d.end d.role at w.beside.leg e)) on

        by : (leg : Leg) (b : Bool) → same_leg k leg ≡ b
            → Turns rules (pipes leg) leg p w.passage w.way.moves (seat leg s)
            (seat leg (with_end s k d.end d.role)) [] (cond b d.bytes []) (rose leg)
            (rose leg || false)
        by leg true e = turns.Draws (record {
          end = end;
          before = was_seat s k leg end at e going;
          drawn = d;
          drew = w;
          passage = refl;
          headless = w.way.headless leg refl;
          after = here_seat s k leg end d.end d.role at w.beside.leg e going;
          bytes_are = refl;
          out_is = refl;
        })
        by leg false e = Passes (record {
          quiet = record {
            came = ap (of_leg leg) w.came;
            put = more_there leg w.passage.put p.put w.messages end.leg w.put
                (ap (λ (l : Leg). same_leg l leg) on_leg ∙ e);
            headless = w.way.headless leg refl;
            out_is = refl;
          };
          left =
              left_as (seat leg s) (seat leg (with_end s k d.end d.role))
              (beside_seat s k leg end d.end d.role at w.beside.leg e);
          silent = silent_none (seat leg (with_end s k d.end d.role));
        })

    -- of a refusal
    tells : (k : Leg) (room : ℕ) (why : Cause) (client : Leg) (rest : List ℕ)
        → s.course ≡ Refusing why client rest → same_leg client k ≡ true
        → Gives k (record s { course = Refusing why client (drop room rest) }, take room rest)
    tells k room why client rest course this = record {
      heads = nowhere;
      passage = p;
      way = way_none rules nowhere p;
      role = is;
      held = held;
      apart = apart;
      lifted = λ has. tt;
      turned = λ leg.
          subst (λ x. Turns rules (pipes leg) leg p p [] x
          (cond (same_leg client leg) (Answers (drop room rest)) Nowhere) []
          (cond (same_leg k leg) (take room rest) []) (rose leg) (rose leg || false))
          (ap (λ c. seat_by leg c (end_of leg s.legs)) (sym course))
          (subst (λ (l : Leg). Turns rules (pipes leg) leg p p []
          (cond (same_leg l leg) (Answers rest) Nowhere)
          (cond (same_leg l leg) (Answers (drop room rest)) Nowhere) []
          (cond (same_leg k leg) (take room rest) []) (rose leg) (rose leg || false))
          (sym (leg_is client k this)) (by leg (same_leg k leg)));
      staged = λ g. λ all. (
        tt,
        λ leg.
            staged_on (g leg) (g leg) (seat leg s)
            (cond (same_leg client leg) (Answers (drop room rest)) Nowhere) (rose leg) refl
            (λ on. on_answers (g leg) (same_leg client leg) (drop room rest)) (all leg),
      );
      counted = λ all. tt;
    }
      where
        by : (leg : Leg) (b : Bool)
            → Turns rules (pipes leg) leg p p [] (cond b (Answers rest) Nowhere)
            (cond b (Answers (drop room rest)) Nowhere) [] (cond b (take room rest) [])
            (rose leg) (rose leg || false)
        by leg true = Tells (record {
          rest = rest;
          left = drop room rest;
          before = refl;
          after = refl;
          cut = sym (take-append-drop room rest);
          passage = refl;
          headless = refl;
        })
        by leg false = Passes (record {
          quiet = record { came = refl; put = refl; headless = refl; out_is = refl };
          left = tt;
          silent = tt;
        })

    draws : (k : Leg) (room : ℕ) → Gives k (drawn rules s k room)
    draws k room = by_course s.course refl
      where
        by_marked : (end : NearEnd) → end_of k s.legs ≡ Some end → s.course ≡ Going → (t : Bool)
            → Gives k (cond {A = Shell S × List ℕ} t (s, [])
            (put_back s k (draw rules s.now room end s.role)))
        by_marked end at going true = gives_none k
        by_marked end at going false = draws_on k room end at going

        by_end : (o : Option NearEnd) → end_at s k ≡ o → s.course ≡ Going
            → Gives k (drawn_at rules s k room o)
        by_end None e going = gives_none k
        by_end (Some end) e going =
            by_marked end (sym (end_is k s.legs) ∙ e) going (is_marked end.standing)

        by_client : (why : Cause) (client : Leg) (rest : List ℕ)
            → s.course ≡ Refusing why client rest → (t : Bool) → same_leg client k ≡ t
            → Gives k (cond {A = Shell S × List ℕ} t
            (record s { course = Refusing why client (drop room rest) }, take room rest) (s, []))
        by_client why client rest course true e = tells k room why client rest course e
        by_client why client rest course false e = gives_none k

        by_course : (c : Course) → s.course ≡ c → Gives k (drawn_by rules s k room c)
        by_course Going e = by_end (end_at s k) refl e
        by_course (Closed why) e = gives_none k
        by_course (Refusing why client rest) e =
            by_client why client rest e (same_leg client k) refl

    -- ---- a leg comes up

    comes_up : (k : Leg) (cookie : Cookie) → may_up rules s k ≡ true
        → rules.pipe s.role k ≡ pipes k → rose k ≡ false
        → ((end : NearEnd) → seat k s ≡ Sits end → ⊥)
        → Steps p s (up rules s k cookie) (same_leg k) (With k cookie) (λ leg. []) (λ leg. [])
        (λ leg. rose leg || same_leg k leg)
    comes_up k cookie may pipe down empty =
        subst (λ t. Steps p s (cond t (with_leg rules s k cookie) s) (same_leg k)
        (With k cookie) (λ leg. []) (λ leg. []) (λ leg. rose leg || same_leg k leg)) (sym may)
        (record {
          heads = nowhere;
          passage = moved rules p (Up k cookie);
          way = way_one rules nowhere (same_leg k) p (Up k cookie)
              (subst (λ (r : S). MayMove rules r (Up k cookie)) (sym is) (work.1, room.1))
              (λ leg. λ h. refl) (λ leg. refl);
          role = ap (λ (r : S). rules.up r k cookie) is;
          held = seated_held s.legs at new held (λ fr. nothing_held new.intake.held refl);
          apart = seated_apart s.legs at new absent apart;
          lifted = λ has. (has, tt);
          turned = λ leg. by leg (same_leg k leg) refl;
          staged = λ g. λ all. (
            ((all k).none down, tt),
            λ leg. next_by (g leg) leg (all leg) (same_leg k leg) refl,
          );
          counted = λ all. (tt, tt);
        })
      where
        first : (is_working rules s ≡ true)
            × ((has_room rules s k.kind && rules.may_up s.role k) ≡ true)
        first =
            and_parts (is_working rules s) (has_room rules s k.kind && rules.may_up s.role k) may

        work : (s.course ≡ Going) × (not (is_ended (rules.phase s.role)) ≡ true)
        work = at_work s.course (rules.phase s.role) first.0

        room : (has_room rules s k.kind ≡ true) × (rules.may_up s.role k ≡ true)
        room = and_parts (has_room rules s k.kind) (rules.may_up s.role k) first.1

        at : ℕ
        at = free_place rules s.role k.kind s.legs

        new : NearEnd
        new = new_end k (rules.pipe s.role k) s.now

        absent : end_of k s.legs ≡ None
        absent = by_end (end_of k s.legs) refl
          where
            by_end : (o : Option NearEnd) → end_of k s.legs ≡ o → o ≡ None
            by_end None e = refl
            by_end (Some end) e =
                absurd (empty end (was_seat s k k end e (same_itself k) work.0))

        quiet : (leg : Leg) → IsQuiet rules (pipes leg) leg p (moved rules p (Up k cookie))
            (Up k cookie ∷ []) []
        quiet leg = record { came = refl; put = refl; headless = refl; out_is = refl }

        raised : (b : Bool) → (b || true) ≡ true
        raised true = refl
        raised false = refl

        here : (leg : Leg) → k ≡ leg
            → seat leg (with_leg rules s k cookie) ≡ Sits (new_end leg (pipes leg) s.now)
        here leg same =
            subst (λ (l : Leg). seat l (with_leg rules s k cookie)
            ≡ Sits (new_end l (pipes l) s.now)) same
            (ap (λ c. seat_by k c (end_of k (seated_at s.legs at new))) work.0
            ∙ ap (seat_by k Going) (seated_new s.legs at new absent apart)
            ∙ ap (λ (x : Option Pipe). Sits (new_end k x s.now)) pipe)

        -- the pipe says what comes first
        begins : (leg : Leg) → k ≡ leg
            → IsNext (Some (first_stage (rules.pipe p.role k))) (first_stage (pipes leg))
        begins leg same =
            subst (λ (l : Leg). IsNext (Some (first_stage (rules.pipe p.role k)))
            (first_stage (pipes l))) same
            (subst (λ (x : Option Pipe). IsNext (Some (first_stage (rules.pipe p.role k)))
            (first_stage x)) (ap (λ (r : S). rules.pipe r k) is ∙ pipe)
            (next_itself (first_stage (rules.pipe p.role k))))

        next_by : (next : Option Stage) (leg : Leg) → IsStaged next (seat leg s) (rose leg)
            → (b : Bool) → same_leg k leg ≡ b
            → IsStaged (cond b (Some (first_stage (rules.pipe p.role k))) next)
            (seat leg (with_leg rules s k cookie)) (rose leg || b)
        next_by next leg was true e = record {
          on =
              subst (IsOn (Some (first_stage (rules.pipe p.role k))))
              (sym (here leg (leg_is k leg e))) (begins leg (leg_is k leg e), refl);
          none = λ f. absurd (let bad : true ≡ false = sym (raised (rose leg)) ∙ f in cc);
        }
        next_by next leg was false e =
            staged_on next next (seat leg s) (seat leg (with_leg rules s k cookie)) (rose leg)
            refl
            (on_left next (seat leg s) (seat leg (with_leg rules s k cookie))
            (left_of leg s.course (end_of leg s.legs) (end_of leg (seated_at s.legs at new))
            (seated_other s.legs at new absent apart leg e))) was

        by : (leg : Leg) (b : Bool) → same_leg k leg ≡ b
            → Turns rules (pipes leg) leg p (moved rules p (Up k cookie)) (Up k cookie ∷ [])
            (seat leg s) (seat leg (with_leg rules s k cookie)) [] [] (rose leg) (rose leg || b)
        by leg true e = Comes (record {
          quiet = quiet leg;
          bytes_are = refl;
          down = subst (λ (l : Leg). rose l ≡ false) (leg_is k leg e) down;
          raised = raised (rose leg);
          now = s.now;
          after = here leg (leg_is k leg e);
        })
        by leg false e = Passes (record {
          quiet = quiet leg;
          left = left_of leg s.course (end_of leg s.legs) (end_of leg (seated_at s.legs at new))
              (seated_other s.legs at new absent apart leg e);
          silent = silent_none (seat leg (with_leg rules s k cookie));
        })

  -- ---- time

  pub ticks : (p : Passage S) (s : Shell S) (is : p.role ≡ s.role) (held : AreHeld s)
      (apart : AreApart s.legs) (now : ℕ) → Calm p s is held apart (tick rules s now).0
  ticks p s is held apart now = by (is_working rules s && nat_le s.now now)
    where
      by_silent : (o : Option (Leg × ℕ))
          → Calm p s is held apart (passed_by rules (record s { now = now }) o)
      by_silent (Some silent) =
          calm p s is held apart p (passed_by rules (record s { now = now }) (Some silent))
          (way_none rules nowhere p) (leaves_none rules anything (Unit {0}) p)
          is refl refl held apart (λ leg. tt)
      by_silent None =
          let all = pings rules now s.legs p s.role is in
          calm p s is held apart all.passage (passed_by rules (record s { now = now }) None)
          all.way all.leaves all.role_is all.came all.put held apart (λ leg. left_self (seat leg s))

      by : (t : Bool) → Calm p s is held apart (cond t (passed rules (record s { now = now })) s)
      by true = by_silent (first_silent rules s.role now s.legs None)
      by false = calm_none p s is held apart

  -- ---- all events

  abbrev pub ups_of : Event → Leg → Bool
  ups_of (ComesUp k cookie) = same_leg k
  ups_of event = nowhere

  -- what is asked of a leg that comes up
  abbrev pub IsFresh : Shell S → Event → Type 0
  IsFresh s (ComesUp k cookie) =
      (may_up rules s k ≡ true) × (rules.pipe s.role k ≡ pipes k) × (rose k ≡ false)
      × ((end : NearEnd) → seat k s ≡ Sits end → ⊥)
  IsFresh s event = Unit {0}

  pub event_steps : (p : Passage S) (s : Shell S) (event : Event) → p.role ≡ s.role → AreHeld s
      → AreApart s.legs → IsFresh s event
      → Steps p s (after_event rules s event) (ups_of event) (IsRaised With event)
      (λ leg. heard_in leg event) (λ leg. drawn_in rules s leg event)
      (λ leg. rose leg || is_up_of leg event)
  event_steps p s (ComesUp k cookie) is held apart new =
      comes_up p s is held apart k cookie new.0 new.1 new.2 new.3
  event_steps p s (Hears k piece) is held apart new = hears p s is held apart k piece
  event_steps p s (Ends k) is held apart new = ends p s is held apart k
  event_steps p s (Breaks k) is held apart new = breaks p s is held apart k
  event_steps p s (Draws k room) is held apart new = draws p s is held apart k room
  event_steps p s (Ticks now) is held apart new = ticks p s is held apart now
