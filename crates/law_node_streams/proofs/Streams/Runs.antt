-- what is kept of all legs over events
use Rattle.law_order.proofs.Vocabulary.{◌≡◌, ℕ, List, [], ◌∷◌, ◌++◌, cond, Bool, true, false, ◌||◌, Some, Err, inl, refl, sym, ap, ◌∙◌, subst, AllByRecursion, list_any, Option, All-nil, list_any-append, IsPrefix}
use Rattle.rh_shell.specs.declared.answers.HeadRefused.TheVariants as head
use Rattle.rh_shell.specs.declared.stage.Stage.TheVariants as stage
use Rattle.law_moves.proofs.Vocabulary.{neither, Cookie, Pipe, HttpFault, Leg, Rooms, first_stage, Rules, Shell, begun, may_up, same_leg, spelled, Move, Passage, MayMove, is_in_use, moved, started, AreHeld, Event, ComesUp, Hears, Ends, Breaks, Draws, Ticks, IsHeld, after_event, of_leg, Stages, AreInTurnFrom, IsInTurn, none_up, stages_after, AreCounted, IsCounted}
use Rattle.law_moves.proofs.Lemmas.{leg_is}
use Rattle.law_node_history.proofs.Vocabulary.{IsAccepted, drawn_in, heard_in, is_up_of}
use Rattle.law_node_streams.proofs.Streams.Staging.{all_stages, way_reached, way_stays}
use Rattle.law_node_streams.proofs.Streams.Begun.{KeepsBegun, begun_before}
use Rattle.law_node_streams.proofs.Streams.Ends.{AreApart}
use Rattle.law_node_streams.proofs.Streams.Events.{IsFresh, Steps, event_steps, ups_of}
use Rattle.law_node_streams.proofs.Streams.Seats.{seat}
use Rattle.law_node_streams.proofs.Streams.Kept.{IsSeated, Kept, turns_keep}
use Rattle.law_node_streams.proofs.Streams.Going.{IsSpelledOut, free_before, goes_keep, left_keeps}
use Rattle.law_node_streams.proofs.Streams.Turns.{Nowhere, Sits, IsStaged, Turns}
use Rattle.law_node_streams.proofs.Streams.Ways.{IsRaised, Lifts, each_joined}
use Rattle.law_node_streams.specs.Streams.{is_head_on, is_refused_on, is_up_on}

-- a passage with the node's role, which was reached, and what is kept of each leg; what each leg
-- that came up has with its cookie; and what was drawn where the node refuses nobody
pub record Ran {S : Type 0} (rules : Rules S) (pipes : Leg → Option Pipe) (Sound : Leg → Type 0)
    (MayRefuse : Type 0) (With : Leg → Cookie → Type 0)
    (At : Passage S → List Move → Stages → Type 0) (s : Shell S) (heard drawn : Leg → List ℕ)
    (up : Leg → Bool) : Type 0 where
  pub passage : Passage S
  pub moves : List Move
  pub stages : Stages
  pub at : At passage moves stages
  pub role : passage.role ≡ s.role
  pub held : AreHeld s
  pub apart : AreApart s.legs
  pub ups : (leg : Leg) → list_any (is_up_on leg) moves ≡ up leg
  pub lifted : AllByRecursion (Lifts With) moves
  pub staged : (leg : Leg) → IsStaged (stages leg) (seat leg s) (up leg)
  pub kept : (leg : Leg) → Kept rules (pipes leg) leg (Sound leg) MayRefuse passage moves
      (seat leg s) (heard leg) (drawn leg) (up leg)
  pub unrefused : (leg : Leg) → is_refused_on leg s.course ≡ false
      → IsPrefix (drawn leg) (spelled (of_leg leg passage.put))
  pub left : (leg : Leg) → IsSpelledOut leg s (of_leg leg passage.put) (drawn leg)

-- what an event asks of the legs that came up before, and of one that comes up
pub record IsFit {S : Type 0} (rules : Rules S) (With : Leg → Cookie → Type 0) (s : Shell S)
    (up : Leg → Bool) (event : Event) : Type 0 where
  pub accepted : IsAccepted rules s event
  pub once : (leg : Leg) → up leg ≡ true → may_up rules s leg ≡ false
  pub turn : (leg : Leg) (piece : List ℕ) → event ≡ Hears leg piece → up leg ≡ true
  pub raises : (leg : Leg) (cookie : Cookie) → event ≡ ComesUp leg cookie → With leg cookie

module _ {S : Type 0} (rules : Rules S) (pipes : Leg → Option Pipe) (Sound : Leg → Type 0)
    (MayRefuse : Type 0) (With : Leg → Cookie → Type 0) where
  -- before any event
  pub ran_none : (At : Passage S → List Move → Stages → Type 0) (first : S) (rooms : Rooms)
      → At (started first) [] none_up
      → Ran rules pipes Sound MayRefuse With At (begun first rooms) (λ leg. []) (λ leg. [])
      (λ leg. false)
  ran_none At first rooms at = record {
    passage = started first;
    moves = [];
    stages = none_up;
    at = at;
    role = refl;
    held = All-nil IsHeld;
    apart = tt;
    ups = λ leg. refl;
    lifted = tt;
    staged = λ leg. record { on = tt; none = λ e. refl };
    kept = λ leg. record {
      front = ([], refl);
      texts = tt;
      spells = λ sound. inl ([], refl);
      seat = tt;
      new = λ e. record {
        came = refl;
        put = refl;
        headless = refl;
        seat = refl;
        unheard = refl;
        undrawn = refl;
      };
    };
    unrefused = λ leg is. ([], refl);
    left = λ leg is end at. absurd cc;
  }

  pub ran_as : (At : Passage S → List Move → Stages → Type 0) (s : Shell S)
      (heard drawn more_heard more_drawn : Leg → List ℕ) (up later : Leg → Bool)
      → ((leg : Leg) → heard leg ≡ more_heard leg) → ((leg : Leg) → drawn leg ≡ more_drawn leg)
      → ((leg : Leg) → up leg ≡ later leg)
      → Ran rules pipes Sound MayRefuse With At s heard drawn up
      → Ran rules pipes Sound MayRefuse With At s more_heard more_drawn later
  ran_as At s heard drawn more_heard more_drawn up later e f g ran = record {
    passage = ran.passage;
    moves = ran.moves;
    stages = ran.stages;
    at = ran.at;
    role = ran.role;
    held = ran.held;
    apart = ran.apart;
    ups = λ leg. ran.ups leg ∙ g leg;
    lifted = ran.lifted;
    staged = λ leg.
        subst (λ b. IsStaged (ran.stages leg) (seat leg s) b) (g leg) (ran.staged leg);
    kept = λ leg.
        subst (λ x. Kept rules (pipes leg) leg (Sound leg) MayRefuse ran.passage ran.moves
        (seat leg s) x (more_drawn leg) (later leg)) (e leg)
        (subst (λ x. Kept rules (pipes leg) leg (Sound leg) MayRefuse ran.passage ran.moves
        (seat leg s) (heard leg) x (later leg)) (f leg)
        (subst (λ x. Kept rules (pipes leg) leg (Sound leg) MayRefuse ran.passage ran.moves
        (seat leg s) (heard leg) (drawn leg) x) (g leg) (ran.kept leg)));
    unrefused = λ leg is.
        subst (λ x. IsPrefix x (spelled (of_leg leg ran.passage.put))) (f leg)
        (ran.unrefused leg is);
    left = λ leg.
        subst (IsSpelledOut leg s (of_leg leg ran.passage.put)) (f leg) (ran.left leg);
  }

  module _ (At : Passage S → List Move → Stages → Type 0)
      (asked : (leg : Leg) (p : Passage S) (ms : List Move) (g : Stages) (text : List ℕ)
      (fault : HttpFault) → Sound leg → At p ms g → first_stage (pipes leg) ≡ stage.Head
      → list_any (is_head_on leg) ms ≡ false
      → (rules.head p.role leg text).1 ≡ Err (head.Request fault)
      → MayRefuse × (of_leg leg p.put ≡ []))
      (unreached : (leg : Leg) (p : Passage S) (ms : List Move) (g : Stages) (wanted : Leg)
      → Sound leg → At p ms g → rules.answers_on p.role ≡ Some leg
      → rules.wants p.role wanted ≡ true → MayRefuse × (of_leg leg p.put ≡ [])) where
    -- one thing more
    pub ran_by : (Next : Passage S → List Move → Stages → Type 0) (s t : Shell S)
        (heard drawn bytes out : Leg → List ℕ) (up later : Leg → Bool)
        → (ran : Ran rules pipes Sound MayRefuse With At s heard drawn up)
        → (q : Passage S) (ns : List Move) (next : Stages) → Next q (ran.moves ++ ns) next
        → q.role ≡ t.role
        → ((leg : Leg) → is_refused_on leg t.course ≡ false
        → is_refused_on leg s.course ≡ false)
        → ((leg : Leg) → KeepsBegun leg s t)
        → AreHeld t → AreApart t.legs
        → ((leg : Leg) → Turns rules (pipes leg) leg ran.passage q ns (seat leg s) (seat leg t)
        (bytes leg) (out leg) (up leg) (later leg))
        → ((leg : Leg) → IsStaged (next leg) (seat leg t) (later leg))
        → ((leg : Leg) → (up leg || list_any (is_up_on leg) ns) ≡ later leg)
        → AllByRecursion (Lifts With) ns
        → ((leg : Leg) → up leg ≡ true → is_in_use rules ran.passage.role leg ≡ false
        → is_in_use rules q.role leg ≡ false)
        → ((leg : Leg) → later leg ≡ false → up leg ≡ false)
        → ((leg : Leg) → later leg ≡ false → bytes leg ≡ [])
        → Ran rules pipes Sound MayRefuse With Next t (λ leg. heard leg ++ bytes leg)
        (λ leg. drawn leg ++ out leg) later
    ran_by Next s t heard drawn bytes out up later ran q ns next at role free begins held apart
        turned staged raised with stays was none = record {
          passage = q;
          moves = ran.moves ++ ns;
          stages = next;
          at = at;
          role = role;
          held = held;
          apart = apart;
          staged = staged;
          ups = λ leg.
              list_any-append (is_up_on leg) ran.moves ns
              ∙ ap (λ b. b || list_any (is_up_on leg) ns) (ran.ups leg) ∙ raised leg;
          lifted = each_joined (Lifts With) ran.moves ns ran.lifted with;
          kept = kept;
          unrefused = λ leg is.
              goes_keep rules (pipes leg) leg (Sound leg) MayRefuse ran.passage q (ran.moves ++ ns)
              ns s t (heard leg ++ bytes leg) (drawn leg) (bytes leg) (out leg) (up leg)
              (later leg) (free leg is) (ran.unrefused leg (free leg is)) (kept leg) (turned leg);
          left = λ leg is.
              left_keeps rules (pipes leg) leg (Sound leg) MayRefuse ran.passage q (ran.moves ++ ns)
              ns s t (heard leg ++ bytes leg) (drawn leg) (bytes leg) (out leg) (up leg)
              (later leg) (free leg is) (ran.left leg (free leg is)) (kept leg) (begins leg)
              (turned leg);
        }
      where
        kept : (leg : Leg)
            → Kept rules (pipes leg) leg (Sound leg) MayRefuse q (ran.moves ++ ns) (seat leg t)
            (heard leg ++ bytes leg) (drawn leg ++ out leg) (later leg)
        kept leg =
            turns_keep rules (pipes leg) leg (Sound leg) MayRefuse ran.passage q ran.moves ns
            (seat leg s) (seat leg t) (heard leg) (drawn leg) (bytes leg) (out leg) (up leg)
            (ran.kept leg) (stays leg) (later leg)
            (λ sound. λ text fault first headless refuses.
            asked leg ran.passage ran.moves ran.stages text fault sound ran.at first headless
            refuses)
            (λ sound. λ wanted answers wants.
            unreached leg ran.passage ran.moves ran.stages wanted sound ran.at answers wants)
            (turned leg) (was leg) (none leg)

    module _ (more : (p : Passage S) (ms : List Move) (g : Stages) (move : Move) → At p ms g
        → MayMove rules p.role move → IsInTurn rules p.role g move → IsCounted p move
        → At (moved rules p move) (ms ++ move ∷ []) (stages_after rules p.role g move))
        (stays : (p : Passage S) (ms : List Move) (g : Stages) (move : Move) (leg : Leg)
        → At p ms g → MayMove rules p.role move → is_up_on leg move ≡ false
        → is_in_use rules p.role leg ≡ false
        → is_in_use rules (moved rules p move).role leg ≡ false)
        (piped : (p : Passage S) (ms : List Move) (g : Stages) (leg : Leg) → At p ms g
        → rules.pipe p.role leg ≡ pipes leg) where
      pub ran_event : (s : Shell S) (event : Event) (heard drawn : Leg → List ℕ)
          (up : Leg → Bool) → Ran rules pipes Sound MayRefuse With At s heard drawn up
          → IsFit rules With s up event
          → Ran rules pipes Sound MayRefuse With At (after_event rules s event)
          (λ leg. heard leg ++ heard_in leg event) (λ leg. drawn leg ++ drawn_in rules s leg event)
          (λ leg. up leg || is_up_of leg event)
      ran_event s event heard drawn up ran fit =
          ran_by At s (after_event rules s event) heard drawn (λ leg. heard_in leg event)
          (λ leg. drawn_in rules s leg event) up (λ leg. up leg || is_up_of leg event) ran
          step.passage step.way.moves (all_stages rules ran.passage ran.stages step.way.moves)
          (way_reached rules At more stays step.heads (ups_of rules pipes up With event) ran.passage
          step.passage ran.moves ran.stages step.way staged.0 counted ran.at)
          step.role (λ leg. free_before rules leg s event)
          (λ leg. begun_before rules leg s ran.held event) step.held step.apart step.turned staged.1
          (λ leg. ap (λ b. up leg || b) (step.way.raised leg ∙ comes event leg))
          (step.lifted (raises event fit))
          (λ leg rose.
          way_stays rules At more stays step.heads (ups_of rules pipes up With event) ran.passage
          step.passage ran.moves ran.stages leg step.way staged.0 counted ran.at
          (others event fit leg rose))
          (λ leg e. (neither (up leg) (is_up_of leg event) e).0)
          (λ leg e. silent event fit leg (neither (up leg) (is_up_of leg event) e).0)
        where
          -- a leg that comes up did not before
          down : (k : Leg) → may_up rules s k ≡ true
              → ((leg : Leg) → up leg ≡ true → may_up rules s leg ≡ false) → up k ≡ false
          down k may once = by (up k) refl
            where
              by : (b : Bool) → up k ≡ b → b ≡ false
              by true e = absurd (let bad : true ≡ false = sym may ∙ once k e in cc)
              by false e = refl

          fresh : (e : Event) → IsFit rules With s up e → IsFresh rules pipes up With s e
          fresh (ComesUp k cookie) f =
              let first = down k f.accepted f.once in (
                f.accepted,
                subst (λ (r : S). rules.pipe r k ≡ pipes k) ran.role
                    (piped ran.passage ran.moves ran.stages k ran.at),
                first,
                λ end at.
                    absurd (let bad : Nowhere ≡ Sits end =
                    sym ((ran.kept k).new first).seat ∙ at in cc),
              )
          fresh (Hears k piece) f = tt
          fresh (Ends k) f = tt
          fresh (Breaks k) f = tt
          fresh (Draws k room) f = tt
          fresh (Ticks now) f = tt

          raises : (e : Event) → IsFit rules With s up e → IsRaised With e
          raises (ComesUp k cookie) f = f.raises k cookie refl
          raises (Hears k piece) f = tt
          raises (Ends k) f = tt
          raises (Breaks k) f = tt
          raises (Draws k room) f = tt
          raises (Ticks now) f = tt

          comes : (e : Event) (leg : Leg) → ups_of rules pipes up With e leg ≡ is_up_of leg e
          comes (ComesUp k cookie) leg = refl
          comes (Hears k piece) leg = refl
          comes (Ends k) leg = refl
          comes (Breaks k) leg = refl
          comes (Draws k room) leg = refl
          comes (Ticks now) leg = refl

          others : (e : Event) → IsFit rules With s up e → (leg : Leg) → up leg ≡ true
              → ups_of rules pipes up With e leg ≡ false
          others (ComesUp k cookie) f leg rose = by (same_leg k leg) refl
            where
              by : (b : Bool) → same_leg k leg ≡ b → b ≡ false
              by true e =
                  absurd (let bad : true ≡ false =
                  sym rose ∙ ap up (sym (leg_is k leg e)) ∙ down k f.accepted f.once in cc)
              by false e = refl
          others (Hears k piece) f leg rose = refl
          others (Ends k) f leg rose = refl
          others (Breaks k) f leg rose = refl
          others (Draws k room) f leg rose = refl
          others (Ticks now) f leg rose = refl

          silent : (e : Event) → IsFit rules With s up e → (leg : Leg) → up leg ≡ false
              → heard_in leg e ≡ []
          silent (ComesUp k cookie) f leg none = refl
          silent (Hears k piece) f leg none = by (same_leg k leg) refl
            where
              by : (b : Bool) → same_leg k leg ≡ b → cond b piece [] ≡ []
              by true e =
                  absurd (let bad : true ≡ false =
                  sym (f.turn k piece refl) ∙ ap up (leg_is k leg e) ∙ none in cc)
              by false e = refl
          silent (Ends k) f leg none = refl
          silent (Breaks k) f leg none = refl
          silent (Draws k room) f leg none = refl
          silent (Ticks now) f leg none = refl

          step : Steps rules pipes up With ran.passage s (after_event rules s event)
              (ups_of rules pipes up With event) (IsRaised With event)
              (λ leg. heard_in leg event) (λ leg. drawn_in rules s leg event)
              (λ leg. up leg || is_up_of leg event)
          step =
              event_steps rules pipes up With ran.passage s event ran.role ran.held ran.apart
              (fresh event fit)

          staged : AreInTurnFrom rules ran.passage ran.stages step.way.moves
              × ((leg : Leg)
              → IsStaged (all_stages rules ran.passage ran.stages step.way.moves leg)
              (seat leg (after_event rules s event)) (up leg || is_up_of leg event))
          staged = step.staged ran.stages ran.staged

          counted : AreCounted rules ran.passage step.way.moves
          counted =
              step.counted (λ leg end at.
              (subst (IsSeated rules (pipes leg) leg (Sound leg) MayRefuse ran.passage ran.moves
              (heard leg) (drawn leg)) at (ran.kept leg).seat).tells)
