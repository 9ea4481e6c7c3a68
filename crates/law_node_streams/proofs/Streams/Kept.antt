-- what is kept of a leg: what its role took was read there, and what was drawn spells what it put
use Rattle.law_order.proofs.Vocabulary.{◌≡◌, ◌⊎◌, inl, inr, ℕ, ◌<◌, List, [], ◌∷◌, ◌++◌, append_assoc, length, take, Bool, true, false, ◌||◌, Some, None, Err, refl, sym, ap, ◌∙◌, subst, ◌&&◌, not, AllByRecursion, list_any, Option, append-nil, flat_map-append, IsPrefix}
use Rattle.rh_shell.specs.declared.standing.Standing.{Standing}
use Rattle.rh_shell.specs.Intakes.{fresh}
use Rattle.rh_shell.specs.declared.answers.HeadRefused.TheVariants as head
use Rattle.rh_shell.specs.declared.stage.Stage.TheVariants as stage
use Rattle.law_moves.proofs.Vocabulary.{Pipe, CiU, IsU, IsD, CoU, CoD, OsU, OsD, HttpFault, Refusal, Unavailable, refusal_text, Leg, Stop, is_stopped, Intake, is_whole_head, NearEnd, first_stage, is_ended, is_marked, is_over, new_end, Rules, Message, spell, spelled, is_deaf, Move, Passage, is_in_use, of_leg, begin, messages_from, messages_read, reading, packets}
use Rattle.law_moves.specs.Passages.Counted as counts
use Rattle.law_node_streams.proofs.Streams.Counts.{TellsOn}
use Rattle.law_node_streams.proofs.Streams.Heads.{HeadBy, each_as, first_more, head_as, head_of, head_then, heads_more, heads_none, waited}
use Rattle.law_node_streams.proofs.Streams.Hears.{IsExact, IsRefusal, IsRefused, Judges}
use Rattle.law_node_streams.proofs.Streams.Pieces.{exact_then, front_more, front_then}
use Rattle.law_node_streams.proofs.Streams.Turns.{Seat, Nowhere, Sits, Answers, IsStill, IsLeft, IsSilent, seat_refused, seat_stopped, more_here, IsQuiet, IsAside, Hearing, Drawing, Answered, Coming, Unreached, Turns, Passes, Hears, Draws, Tells, Comes, Fails}
use Rattle.law_node_streams.proofs.Streams.Ways.{any_none, each_joined}
use Rattle.law_node_streams.specs.Streams.{IsFirstHead, IsHeadOf, RefusesText, is_head_on, is_live}

-- ---- the invariant

pub first_live : (pipe : Option Pipe) → is_live (first_stage pipe) ≡ true
first_live None = refl
first_live (Some CiU) = refl
first_live (Some CoU) = refl
first_live (Some CoD) = refl
first_live (Some IsD) = refl
first_live (Some OsD) = refl
first_live (Some IsU) = refl
first_live (Some OsU) = refl

module _ {S : Type 0} (rules : Rules S) (pipe : Option Pipe) (leg : Leg)
    (Sound MayRefuse : Type 0) where
  -- the bytes that were heard are read up to where the intake is, and all in them was taken
  abbrev pub IsRead : Passage S → List ℕ → Intake → Type 0
  IsRead p heard i = IsExact pipe (fresh (first_stage pipe)) i heard (of_leg leg p.came)

  pub record Sitting (p : Passage S) (moves : List Move) (heard drawn : List ℕ) (end : NearEnd)
      : Type 0 where
    pub leg_is : end.leg ≡ leg
    pub pipe_is : end.pipe ≡ pipe
    pub spells : spelled (of_leg leg p.put) ≡ drawn ++ end.begun
    pub reads : is_over rules end p.role ≡ false → is_live end.intake.stage ≡ true
        → IsRead p heard end.intake
    pub heads : end.intake.stage ≡ stage.Head
        → (first_stage pipe ≡ stage.Head) × (list_any (is_head_on leg) moves ≡ false)
    pub tells : TellsOn p leg end.count

  -- for a leg that cannot be connected, or for a head
  abbrev pub IsWhy : List ℕ → Refusal → Type 0
  IsWhy heard refusal = (refusal ≡ Unavailable) ⊎ RefusesText rules leg heard

  pub record Answering (p : Passage S) (heard bytes : List ℕ) : Type 0 where
    pub may : MayRefuse
    pub none : of_leg leg p.put ≡ []
    pub refusal : Refusal
    pub text : refusal_text refusal ≡ bytes
    pub why : IsWhy heard refusal

  abbrev pub IsSeated : Passage S → List Move → List ℕ → List ℕ → Seat → Type 0
  IsSeated p moves heard drawn Nowhere = Unit {0}
  IsSeated p moves heard drawn (Sits end) = Sitting p moves heard drawn end
  IsSeated p moves heard drawn (Answers rest) = Sound → Answering p heard (drawn ++ rest)

  pub record FrontOf (p : Passage S) (heard drawn : List ℕ) : Type 0 where
    pub rest : List ℕ
    pub answering : Answering p heard (drawn ++ rest)

  -- nothing passed on a leg that did not come up
  pub record IsNew (p : Passage S) (moves : List Move) (s : Seat) (heard drawn : List ℕ)
      : Type 0 where
    pub came : of_leg leg p.came ≡ []
    pub put : of_leg leg p.put ≡ []
    pub headless : list_any (is_head_on leg) moves ≡ false
    pub seat : s ≡ Nowhere
    pub unheard : heard ≡ []
    pub undrawn : drawn ≡ []

  pub record Kept (p : Passage S) (moves : List Move) (s : Seat) (heard drawn : List ℕ)
      (up : Bool) : Type 0 where
    pub front : IsPrefix (of_leg leg p.came) (messages_read pipe heard)
    pub texts : AllByRecursion (IsHeadOf leg heard) moves
    pub spells : Sound → IsPrefix drawn (spelled (of_leg leg p.put)) ⊎ FrontOf p heard drawn
    pub seat : IsSeated p moves heard drawn s
    pub new : up ≡ false → IsNew p moves s heard drawn

  -- ---- and then the invariant holds again

  module _ (p q : Passage S) (ms ns : List Move) (s t : Seat) (heard drawn bytes out : List ℕ)
      (up : Bool) (k : Kept p ms s heard drawn up)
      (stays : up ≡ true → is_in_use rules p.role leg ≡ false
      → is_in_use rules q.role leg ≡ false) where
    still_over : (a b : NearEnd) → up ≡ true → a.leg ≡ leg → b.leg ≡ leg
        → (is_marked b.standing ≡ false → is_marked a.standing ≡ false)
        → is_over rules b q.role ≡ false → is_over rules a p.role ≡ false
    still_over a b rose is js marks over =
        let two = parts (is_marked b.standing) (rules.is_done q.role b.leg)
        (is_ended (rules.phase q.role)) over in
        whole (is_marked a.standing) (rules.is_done p.role a.leg) (is_ended (rules.phase p.role))
        (marks two.0)
        (subst (λ (l : Leg). (not (is_ended (rules.phase p.role)) && not (rules.is_done p.role l))
        ≡ true) (sym is)
        (by (is_in_use rules p.role leg) refl
        (subst (λ (l : Leg). (not (is_ended (rules.phase q.role))
        && not (rules.is_done q.role l)) ≡ true) js two.1)))
      where
        parts : (marked done ended : Bool) → (marked || (done || ended)) ≡ false
            → (marked ≡ false) × ((not ended && not done) ≡ true)
        parts true done ended h = absurd cc
        parts false true ended h = absurd cc
        parts false false true h = absurd cc
        parts false false false h = (refl, refl)

        whole : (marked done ended : Bool) → marked ≡ false → (not ended && not done) ≡ true
            → (marked || (done || ended)) ≡ false
        whole true done ended h u = absurd cc
        whole false true true h u = absurd cc
        whole false true false h u = absurd cc
        whole false false true h u = absurd cc
        whole false false false h u = refl

        by : (u : Bool) → is_in_use rules p.role leg ≡ u → is_in_use rules q.role leg ≡ true
            → u ≡ true
        by true e v = refl
        by false e v = absurd (let bad : true ≡ false = sym v ∙ stays rose e in cc)

    -- nothing is drawn, or was
    same_drawn : out ≡ [] → drawn ++ out ≡ drawn
    same_drawn none = ap (λ (x : List ℕ). drawn ++ x) none ∙ append-nil drawn

    answering_on : (text : List ℕ) → of_leg leg q.put ≡ of_leg leg p.put
        → Answering p heard text → Answering q (heard ++ bytes) text
    answering_on text put a = record {
      may = a.may;
      none = put ∙ a.none;
      refusal = a.refusal;
      text = a.text;
      why = by a.why;
    }
      where
        by : IsWhy heard a.refusal → IsWhy (heard ++ bytes) a.refusal
        by (inl lost) = inl lost
        by (inr asks) = inr (record {
          role = asks.role;
          text = asks.text;
          stands = first_more leg heard bytes asks.text asks.stands;
          fault = asks.fault;
          refuses = asks.refuses;
        })

    texts_then : AllByRecursion (IsHeadOf leg (heard ++ bytes)) ns
        → AllByRecursion (IsHeadOf leg (heard ++ bytes)) (ms ++ ns)
    texts_then new =
        each_joined (IsHeadOf leg (heard ++ bytes)) ms ns
        (each_as (IsHeadOf leg heard) (IsHeadOf leg (heard ++ bytes)) ms
        (heads_more leg heard bytes) k.texts) new

    -- no head comes
    texts_on : list_any (is_head_on leg) ns ≡ false
        → AllByRecursion (IsHeadOf leg (heard ++ bytes)) (ms ++ ns)
    texts_on headless = texts_then (heads_none leg (heard ++ bytes) ns headless)

    spells_on : of_leg leg q.put ≡ of_leg leg p.put → out ≡ []
        → Sound
        → IsPrefix (drawn ++ out) (spelled (of_leg leg q.put))
        ⊎ FrontOf q (heard ++ bytes) (drawn ++ out)
    spells_on put none sound = by (k.spells sound)
      where
        same : drawn ≡ drawn ++ out
        same = sym (same_drawn none)

        by : IsPrefix drawn (spelled (of_leg leg p.put)) ⊎ FrontOf p heard drawn
            → IsPrefix (drawn ++ out) (spelled (of_leg leg q.put))
            ⊎ FrontOf q (heard ++ bytes) (drawn ++ out)
        by (inl front) =
            inl (subst (λ x. IsPrefix x (spelled (of_leg leg q.put))) same
            (subst (λ x. IsPrefix drawn (spelled x)) (sym put) front))
        by (inr front) =
            inr (subst (FrontOf q (heard ++ bytes)) same (record {
              rest = front.rest;
              answering = answering_on (drawn ++ front.rest) put front.answering;
            }))

    front_same : of_leg leg q.came ≡ of_leg leg p.came
        → IsPrefix (of_leg leg q.came) (messages_read pipe (heard ++ bytes))
    front_same came =
        subst (λ x. IsPrefix x (messages_read pipe (heard ++ bytes))) (sym came)
        (front_more pipe (begin pipe) heard bytes (of_leg leg p.came) k.front)

    -- nothing is logged
    new_on : IsQuiet rules pipe leg p q ns out → (s ≡ Nowhere → t ≡ Nowhere) → (later : Bool)
        → (later ≡ false → up ≡ false) → (later ≡ false → bytes ≡ [])
        → later ≡ false → IsNew q (ms ++ ns) t (heard ++ bytes) (drawn ++ out)
    new_on quiet seat later was none e =
        let n = k.new (was e) in
        record {
          came = quiet.came ∙ n.came;
          put = quiet.put ∙ n.put;
          headless = any_none (is_head_on leg) ms ns n.headless quiet.headless;
          seat = seat n.seat;
          unheard = ap (λ (x : List ℕ). x ++ bytes) n.unheard ∙ none e;
          undrawn = same_drawn quiet.out_is ∙ n.undrawn;
        }

    -- ---- an end that is left, or marked

    reads_on : (a b : NearEnd) → up ≡ true → Sitting p ms heard drawn a → b.leg ≡ a.leg
        → b.intake ≡ a.intake → (is_marked b.standing ≡ false → is_marked a.standing ≡ false)
        → of_leg leg q.came ≡ of_leg leg p.came → bytes ≡ []
        → is_over rules b q.role ≡ false → is_live b.intake.stage ≡ true
        → IsRead q (heard ++ bytes) b.intake
    reads_on a b rose old same intake marks came none over live =
        subst (λ i. IsRead q (heard ++ bytes) i) (sym intake)
        (subst (λ (x : List Message). IsExact pipe (fresh (first_stage pipe)) a.intake
        (heard ++ bytes) x) (sym came)
        (subst (λ (x : List ℕ). IsRead p x a.intake)
        (sym (ap (λ (x : List ℕ). heard ++ x) none ∙ append-nil heard))
        (old.reads (still_over a b rose old.leg_is (same ∙ old.leg_is) marks over)
        (subst (λ (i : Intake). is_live i.stage ≡ true) intake live))))

    heads_on : (a b : NearEnd) → Sitting p ms heard drawn a → b.intake ≡ a.intake
        → list_any (is_head_on leg) ns ≡ false → b.intake.stage ≡ stage.Head
        → (first_stage pipe ≡ stage.Head) × (list_any (is_head_on leg) (ms ++ ns) ≡ false)
    heads_on a b old intake headless e =
        let two = old.heads (ap (λ (i : Intake). i.stage) (sym intake) ∙ e) in
        (two.0, any_none (is_head_on leg) ms ns two.1 headless)

    -- no packet comes
    tells_on : (a b : NearEnd) → Sitting p ms heard drawn a → b.count ≡ a.count
        → of_leg leg q.came ≡ of_leg leg p.came → TellsOn q leg b.count
    tells_on a b old same came =
        subst (TellsOn q leg) (sym same)
        (subst (λ (x : List Message). counts.Tells a.count (packets x)) (sym came) old.tells)

    sits_on : (a b : NearEnd) → up ≡ true → Sitting p ms heard drawn a → IsStill a b
        → IsQuiet rules pipe leg p q ns out
        → bytes ≡ [] → Sitting q (ms ++ ns) (heard ++ bytes) (drawn ++ out) b
    sits_on a b rose old still quiet none = record {
      leg_is = still.leg ∙ old.leg_is;
      pipe_is = still.pipe ∙ old.pipe_is;
      spells =
          ap spelled quiet.put ∙ old.spells ∙ ap (λ (x : List ℕ). drawn ++ x) (sym still.begun)
          ∙ ap (λ (x : List ℕ). x ++ b.begun) (sym (same_drawn quiet.out_is));
      reads = reads_on a b rose old still.leg still.intake still.standing quiet.came none;
      heads = heads_on a b old still.intake quiet.headless;
      tells = tells_on a b old still.count quiet.came;
    }

    sitting : (end : NearEnd) → s ≡ Sits end → Sitting p ms heard drawn end
    sitting end e = subst (IsSeated p ms heard drawn) e k.seat

    -- what came up has or had an end
    was_up : (end : NearEnd) → s ≡ Sits end → up ≡ false → ⊥
    was_up end e down = absurd (let bad : Nowhere ≡ Sits end = sym (k.new down).seat ∙ e in cc)

    is_up : (end : NearEnd) → s ≡ Sits end → up ≡ true
    is_up end e = by up refl
      where
        by : (b : Bool) → up ≡ b → b ≡ true
        by true f = refl
        by false f = absurd (was_up end e f)

    abbrev pub Keeps : Bool → Type 0
    Keeps later =
        (later ≡ false → up ≡ false) → (later ≡ false → bytes ≡ [])
        → Kept q (ms ++ ns) t (heard ++ bytes) (drawn ++ out) later

    aside_keeps : (later : Bool) → IsAside rules pipe leg p q ns s t bytes out → Keeps later
    aside_keeps later a was none = record {
      front = front_same a.quiet.came;
      texts = texts_on a.quiet.headless;
      spells = spells_on a.quiet.put a.quiet.out_is;
      seat = by t a.left a.silent;
      new = new_on a.quiet (gone t a.left) later was none;
    }
      where
        by : (u : Seat) → IsLeft s u → IsSilent bytes u
            → IsSeated q (ms ++ ns) (heard ++ bytes) (drawn ++ out) u
        by Nowhere left silent = tt
        by (Sits b) left silent =
            sits_on left.before b (is_up left.before left.seat) (sitting left.before left.seat)
            left.still a.quiet silent
        by (Answers rest) left silent =
            let old = subst (IsSeated p ms heard drawn) left k.seat in
            λ sound.
            answering_on ((drawn ++ out) ++ rest) a.quiet.put
            (subst (λ x. Answering p heard (x ++ rest)) (sym (same_drawn a.quiet.out_is))
            (old sound))

        gone : (u : Seat) → IsLeft s u → s ≡ Nowhere → u ≡ Nowhere
        gone Nowhere left e = refl
        gone (Sits b) left e =
            absurd (let bad : Nowhere ≡ Sits left.before = sym e ∙ left.seat in cc)
        gone (Answers rest) left e =
            absurd (let bad : Nowhere ≡ Answers rest = sym e ∙ left in cc)

    drawing_keeps : (later : Bool) → Drawing rules pipe leg p q ns s t bytes out → Keeps later
    drawing_keeps later d was none = record {
      front = front_same came;
      texts = texts_on d.headless;
      spells = λ sound. inl (d.drawn.end.begun, sym spells);
      seat = subst (IsSeated q (ms ++ ns) (heard ++ bytes) (drawn ++ out)) (sym d.after) sits;
      new = λ e. absurd (was_up d.end d.before (was e));
    }
      where
        old : Sitting p ms heard drawn d.end
        old = sitting d.end d.before

        came : of_leg leg q.came ≡ of_leg leg p.came
        came =
            ap (λ (x : Passage S). of_leg leg x.came) (sym d.passage)
            ∙ ap (of_leg leg) d.drew.came

        spells : spelled (of_leg leg q.put) ≡ (drawn ++ out) ++ d.drawn.end.begun
        spells =
            ap spelled (more_here leg q.put p.put d.drew.messages d.end.leg
            (ap (λ (x : Passage S). x.put) (sym d.passage) ∙ d.drew.put) old.leg_is)
            ∙ flat_map-append spell (of_leg leg p.put) d.drew.messages
            ∙ ap (λ (x : List ℕ). x ++ spelled d.drew.messages) old.spells
            ∙ append_assoc drawn d.end.begun (spelled d.drew.messages)
            ∙ ap (λ (x : List ℕ). drawn ++ x) d.drew.spells
            ∙ sym (append_assoc drawn d.drawn.bytes d.drawn.end.begun)
            ∙ ap (λ (x : List ℕ). (drawn ++ x) ++ d.drawn.end.begun) (sym d.out_is)

        sits : Sitting q (ms ++ ns) (heard ++ bytes) (drawn ++ out) d.drawn.end
        sits = record {
          leg_is = d.drew.beside.leg ∙ old.leg_is;
          pipe_is = d.drew.beside.pipe ∙ old.pipe_is;
          spells = spells;
          reads = reads_on d.end d.drawn.end (is_up d.end d.before) old d.drew.beside.leg
              d.drew.beside.intake
              (λ e. subst (λ (x : Standing). is_marked x ≡ false) d.drew.beside.standing e) came
              d.bytes_are;
          heads = heads_on d.end d.drawn.end old d.drew.beside.intake d.headless;
          tells = tells_on d.end d.drawn.end old d.drew.beside.count came;
        }

    answered_keeps : (later : Bool) → Answered rules pipe leg p q ns s t bytes out → Keeps later
    answered_keeps later a was none = record {
      front = front_same (ap (λ (x : Passage S). of_leg leg x.came) a.passage);
      texts = texts_on a.headless;
      spells = λ sound. inr (record { rest = a.left; answering = answering sound });
      seat = subst (IsSeated q (ms ++ ns) (heard ++ bytes) (drawn ++ out)) (sym a.after) answering;
      new = λ e.
          absurd (let bad : Nowhere ≡ Answers a.rest = sym (k.new (was e)).seat ∙ a.before in cc);
    }
      where
        old : Sound → Answering p heard (drawn ++ a.rest)
        old = subst (IsSeated p ms heard drawn) a.before k.seat

        answering : Sound → Answering q (heard ++ bytes) ((drawn ++ out) ++ a.left)
        answering sound =
            answering_on ((drawn ++ out) ++ a.left)
            (ap (λ (x : Passage S). of_leg leg x.put) a.passage)
            (subst (Answering p heard)
            (ap (λ (x : List ℕ). drawn ++ x) a.cut ∙ sym (append_assoc drawn out a.left))
            (old sound))

    coming_keeps : (later : Bool) → Coming rules pipe leg p q ns t bytes out up later → Keeps later
    coming_keeps later c was none = record {
      front =
          subst (λ (x : List Message). IsPrefix x (messages_read pipe (heard ++ bytes))) (sym came)
          (messages_read pipe (heard ++ bytes), refl);
      texts = texts_on c.quiet.headless;
      spells = λ sound.
          inl (subst (λ (x : List ℕ). IsPrefix x (spelled (of_leg leg q.put))) (sym out_none)
          (spelled (of_leg leg q.put), refl));
      seat = subst (IsSeated q (ms ++ ns) (heard ++ bytes) (drawn ++ out)) (sym c.after) sits;
      new = λ e. absurd (let bad : true ≡ false = sym c.raised ∙ e in cc);
    }
      where
        old : IsNew p ms s heard drawn
        old = k.new c.down

        came : of_leg leg q.came ≡ []
        came = c.quiet.came ∙ old.came

        out_none : drawn ++ out ≡ []
        out_none = same_drawn c.quiet.out_is ∙ old.undrawn

        read_none : IsExact pipe (fresh (first_stage pipe)) (fresh (first_stage pipe)) [] []
        read_none = record { live = first_live pipe; all = refl; after = refl }

        sits : Sitting q (ms ++ ns) (heard ++ bytes) (drawn ++ out) (new_end leg pipe c.now)
        sits = record {
          leg_is = refl;
          pipe_is = refl;
          spells =
              ap spelled (c.quiet.put ∙ old.put) ∙ sym (ap (λ (x : List ℕ). x ++ []) out_none);
          reads = λ over. λ live.
              subst (λ (x : List ℕ). IsRead q x (fresh (first_stage pipe)))
              (sym (ap (λ (x : List ℕ). x ++ bytes) old.unheard ∙ c.bytes_are))
              (subst (λ (x : List Message). IsExact pipe (fresh (first_stage pipe))
              (fresh (first_stage pipe)) [] x) (sym came) read_none);
          heads = λ e. (e, any_none (is_head_on leg) ms ns old.headless c.quiet.headless);
          tells = ap packets came;
        }

    -- ---- the client is refused

    -- where nothing was put nothing was drawn
    undrawn : (end : NearEnd) → Sitting p ms heard drawn end → of_leg leg p.put ≡ []
        → drawn ≡ []
    undrawn end old none = front_nil drawn end.begun (sym (ap spelled none) ∙ old.spells)
      where
        front_nil : (a b : List ℕ) → [] ≡ a ++ b → a ≡ []
        front_nil [] b e = refl
        front_nil (x ∷ xs) b e = absurd cc

    refused_on : (end : NearEnd) (refusal : Refusal) → Sitting p ms heard drawn end
        → of_leg leg q.put ≡ of_leg leg p.put → out ≡ [] → IsWhy (heard ++ bytes) refusal
        → MayRefuse × (of_leg leg p.put ≡ [])
        → Answering q (heard ++ bytes) ((drawn ++ out) ++ refusal_text refusal)
    refused_on end refusal old put none why may = record {
      may = may.0;
      none = put ∙ may.1;
      refusal = refusal;
      text =
          sym (ap (λ (x : List ℕ). x ++ refusal_text refusal)
          (same_drawn none ∙ undrawn end old may.1));
      why = why;
    }

    unreached_keeps : (later : Bool)
        → (Sound → (wanted : Leg) → rules.answers_on p.role ≡ Some leg
        → rules.wants p.role wanted ≡ true → MayRefuse × (of_leg leg p.put ≡ []))
        → Unreached rules pipe leg p q ns s t bytes out → Keeps later
    unreached_keeps later refuses u was none = record {
      front = front_same u.quiet.came;
      texts = texts_on u.quiet.headless;
      spells = spells_on u.quiet.put u.quiet.out_is;
      seat = subst (IsSeated q (ms ++ ns) (heard ++ bytes) (drawn ++ out)) (sym u.after)
          (λ sound.
          refused_on u.end Unavailable (sitting u.end u.before) u.quiet.put u.quiet.out_is
          (inl refl)
          (refuses sound u.wanted u.answers u.wants));
      new = λ e. absurd (was_up u.end u.before (was e));
    }

    -- ---- a piece is heard

    module _ (h : Hearing rules pipe leg p q ns s t bytes out) where
      old : Sitting p ms heard drawn h.end
      old = sitting h.end h.before

      heard_put : of_leg leg q.put ≡ of_leg leg p.put
      heard_put =
          ap (λ (x : Passage S). of_leg leg x.put) (sym h.passage) ∙ ap (of_leg leg) h.heard.put

      heard_came : of_leg leg q.came ≡ of_leg leg p.came ++ h.heard.messages
      heard_came =
          more_here leg q.came p.came h.heard.messages h.end.leg
          (ap (λ (x : Passage S). x.came) (sym h.passage) ∙ h.heard.came) old.leg_is

      heard_front : IsPrefix (of_leg leg q.came) (messages_read pipe (heard ++ bytes))
      heard_front = by h.heard.on
        where
          by : ((h.heard.messages ≡ []) × (is_deaf rules h.turn ≡ true))
              ⊎ (is_over rules h.end p.role ≡ false)
              → IsPrefix (of_leg leg q.came) (messages_read pipe (heard ++ bytes))
          by (inl deaf) =
              front_same (heard_came ∙ ap (λ (x : List Message). of_leg leg p.came ++ x) deaf.0
              ∙ append-nil (of_leg leg p.came))
          by (inr on) =
              subst (λ (x : List Message). IsPrefix x (messages_read pipe (heard ++ bytes)))
              (sym heard_came)
              (front_then pipe (begin pipe) h.end.intake heard bytes (of_leg leg p.came)
              h.heard.messages (λ live. let r = old.reads on live in (r.all, r.after)) k.front
              (subst (λ (x : Option Pipe). IsPrefix h.heard.messages (messages_from x
              (reading h.end.intake.stage h.end.intake.held) bytes)) old.pipe_is h.heard.front))

      heard_reads : h.turn.stop ≡ None → is_over rules h.turn.end q.role ≡ false
          → is_live h.turn.end.intake.stage ≡ true → IsRead q (heard ++ bytes) h.turn.end.intake
      heard_reads goes_on over live =
          subst (λ (x : List Message). IsExact pipe (fresh (first_stage pipe)) h.turn.end.intake
          (heard ++ bytes) x) (sym heard_came)
          (exact_then pipe (fresh (first_stage pipe)) h.end.intake h.turn.end.intake heard bytes
          (of_leg leg p.came) h.heard.messages (old.reads (was_on h.heard.on) exact.live) exact)
        where
          role : q.role ≡ h.turn.role
          role = ap (λ (x : Passage S). x.role) (sym h.passage) ∙ h.heard.role

          on : is_deaf rules h.turn ≡ false
          on =
              ap (λ (o : Option Stop). is_stopped o || is_over rules h.turn.end h.turn.role) goes_on
              ∙ subst (λ (r : S). is_over rules h.turn.end r ≡ false) role over

          exact : IsExact pipe h.end.intake h.turn.end.intake bytes h.heard.messages
          exact =
              subst (λ (x : Option Pipe). IsExact x h.end.intake h.turn.end.intake bytes
              h.heard.messages) old.pipe_is (h.heard.exact on live)

          was_on : ((h.heard.messages ≡ []) × (is_deaf rules h.turn ≡ true))
              ⊎ (is_over rules h.end p.role ≡ false) → is_over rules h.end p.role ≡ false
          was_on (inl deaf) = absurd (let bad : true ≡ false = sym deaf.1 ∙ on in cc)
          was_on (inr e) = e

      heard_sits : h.turn.stop ≡ None
          → Sitting q (ms ++ ns) (heard ++ bytes) (drawn ++ out) h.turn.end
      heard_sits goes_on = record {
        leg_is = h.heard.same.leg ∙ old.leg_is;
        pipe_is = h.heard.same.pipe ∙ old.pipe_is;
        spells =
            ap spelled heard_put ∙ old.spells
            ∙ ap (λ (x : List ℕ). drawn ++ x) (sym h.heard.same.begun)
            ∙ ap (λ (x : List ℕ). x ++ h.turn.end.begun) (sym (same_drawn h.out_is));
        reads = heard_reads goes_on;
        heads = λ e.
            let now = h.heard.heads (ap is_stopped goes_on) e in
            let before = old.heads now.0 in (
              before.0,
              any_none (is_head_on leg) ms ns before.1
                  (ap (list_any (is_head_on leg)) (sym h.moves_are ∙ now.1)),
            );
        tells =
            subst (λ (l : Leg). TellsOn q l h.turn.end.count) old.leg_is
            (subst (λ (x : Passage S). TellsOn x h.end.leg h.turn.end.count) h.passage
            ((h.heard.counted
            (subst (λ (l : Leg). TellsOn p l h.end.count) (sym old.leg_is) old.tells)).1
            (ap is_stopped goes_on)));
      }

      -- a head that was judged stands at the front of all that was heard
      judged_first : (text : List ℕ) → Judges rules p h.end bytes text
          → IsFirstHead text (heard ++ bytes)
      judged_first text j =
          let read = old.reads j.0 (ap is_live j.1.head) in
          let whole = head_then (fresh (first_stage pipe)) h.end.intake heard bytes text
          (waited pipe (begin pipe) heard h.end.intake.held
          (read.after ∙ ap (λ s. reading s h.end.intake.held) j.1.head)) j.1 in
          record {
            whole = record {
              whole = whole.whole;
              front = λ k more less.
                  subst (λ (x : List ℕ). is_whole_head (take k x) ≡ false) (sym whole.is)
                  (whole.first k more
                  (subst (λ (x : List ℕ). k < length x) whole.is less));
            };
            front = (
              whole.behind,
              ap (λ (x : List ℕ). x ++ whole.behind) whole.is ∙ whole.cut,
            );
          }

      heard_texts : AllByRecursion (IsHeadOf leg (heard ++ bytes)) ns
      heard_texts =
          subst (AllByRecursion (IsHeadOf leg (heard ++ bytes))) h.moves_are
          (each_as (HeadBy (Judges rules p h.end bytes)) (IsHeadOf leg (heard ++ bytes))
          h.heard.way.moves
          (λ move by.
          head_of leg (heard ++ bytes) move
          (head_as (Judges rules p h.end bytes) (λ text. IsFirstHead text (heard ++ bytes))
          judged_first move by)) h.heard.texts)

    hearing_keeps : (later : Bool)
        → (Sound → (text : List ℕ) (fault : HttpFault) → first_stage pipe ≡ stage.Head
        → list_any (is_head_on leg) ms ≡ false
        → (rules.head p.role leg text).1 ≡ Err (head.Request fault)
        → MayRefuse × (of_leg leg p.put ≡ []))
        → Hearing rules pipe leg p q ns s t bytes out → Keeps later
    hearing_keeps later refuses h was none = record {
      front = heard_front h;
      texts = texts_then (heard_texts h);
      spells = spells_on (heard_put h) h.out_is;
      seat = subst (IsSeated q (ms ++ ns) (heard ++ bytes) (drawn ++ out)) (sym h.after)
          (by h.turn.stop refl);
      new = λ e. absurd (was_up h.end h.before (was e));
    }
      where
        by_refusal : (why : Stop) (o : Option Refusal) → h.turn.stop ≡ Some why
            → why.refusal ≡ o
            → IsSeated q (ms ++ ns) (heard ++ bytes) (drawn ++ out) (seat_refused o)
        by_refusal why None e f = tt
        by_refusal why (Some refusal) e f =
            λ sound.
            let old = sitting h.end h.before in
            let r = h.heard.refused (subst IsRefused (sym e) (subst IsRefusal (sym f) tt)) in
            let first = old.heads r.0 in
            refused_on h.end refusal old (heard_put h) h.out_is
            (inr (record {
              role = p.role;
              text = r.1.text;
              stands = judged_first h r.1.text r.1.judges;
              fault = r.1.fault;
              refuses =
                  subst (λ (l : Leg). (rules.head p.role l r.1.text).1
                  ≡ Err (head.Request r.1.fault)) old.leg_is r.1.refuses;
            }))
            (refuses sound r.1.text r.1.fault first.0 first.1
            (subst (λ (l : Leg). (rules.head p.role l r.1.text).1 ≡ Err (head.Request r.1.fault))
            old.leg_is r.1.refuses))

        by : (o : Option Stop) → h.turn.stop ≡ o
            → IsSeated q (ms ++ ns) (heard ++ bytes) (drawn ++ out) (seat_stopped h.turn.end o)
        by None e = heard_sits h e
        by (Some why) e = by_refusal why why.refusal e refl

    pub turns_keep : (later : Bool)
        → (Sound → (text : List ℕ) (fault : HttpFault) → first_stage pipe ≡ stage.Head
        → list_any (is_head_on leg) ms ≡ false
        → (rules.head p.role leg text).1 ≡ Err (head.Request fault)
        → MayRefuse × (of_leg leg p.put ≡ []))
        → (Sound → (wanted : Leg) → rules.answers_on p.role ≡ Some leg
        → rules.wants p.role wanted ≡ true → MayRefuse × (of_leg leg p.put ≡ []))
        → Turns rules pipe leg p q ns s t bytes out up later → Keeps later
    turns_keep later asked unreached (Passes a) = aside_keeps later a
    turns_keep later asked unreached (Hears h) = hearing_keeps later asked h
    turns_keep later asked unreached (Draws d) = drawing_keeps later d
    turns_keep later asked unreached (Tells a) = answered_keeps later a
    turns_keep later asked unreached (Comes c) = coming_keeps later c
    turns_keep later asked unreached (Fails u) = unreached_keeps later unreached u
