-- a piece that a node hears: what its role takes is what is read there
use Rattle.law_order.proofs.Vocabulary.{◌≡◌, ◌⊎◌, inr, ℕ, List, [], ◌∷◌, ◌++◌, length, cond, Bool, true, false, ◌||◌, Some, None, Ok, Err, arith, refl, sym, ap, ◌∙◌, subst, ◌&&◌, not, IsTrue, AllByRecursion, Option, Result, append-nil, IsPrefix}
use Rattle.rh_shell.specs.Intakes.{Over}
use Rattle.rh_shell.specs.declared.answers.Behind.TheVariants as passed
use Rattle.rh_shell.specs.declared.answers.HeadRefused.TheVariants as head
use Rattle.rh_shell.specs.declared.stage.Stage.TheVariants as stage
use Rattle.law_moves.proofs.Vocabulary.{Pipe, HttpFault, Refusal, Cause, Leg, Behind, Count, HeadRefused, HeadTaken, Stage, Stop, Turn, goes, stops, stop_head, with_intake, touched, heading, take, take_next, take_frame, head_row, behind_head, behind_frame, begun_body, stage_of, is_greeting, is_stopped, Intake, Came, Nothing, Head, Greeting, Frame, Fault, on_byte, NearEnd, is_over, is_ended, is_marked, Rules, Message, same_leg, on_leg, message_in, is_deaf, Passage, OnLeg}
use Rattle.law_moves.proofs.Vocabulary.{HeadCame, moved, is_in_use, IsHeld, of_leg, Tells, AreCounted, packets, Reading, reading, read_byte, reading_after, messages_from, Stages, AreInTurnFrom, takes_frames}
use Rattle.law_moves.proofs.Lemmas.{nothing_held}
use Rattle.law_moves.specs.Turns as turn
use Rattle.law_node_history.proofs.Lemmas.{same_itself}
use Rattle.law_node_streams.proofs.Streams.Counts.{TellsOn}
use Rattle.law_node_streams.proofs.Streams.Bytes.{ByteIs, byte_is}
use Rattle.law_node_streams.proofs.Streams.Heads.{HeadBy, HeadIn, IsHead, head_whole, no_heads}
use Rattle.law_node_streams.proofs.Streams.Staging.{IsNext, all_stages}
use Rattle.law_node_streams.proofs.Streams.Ways.{Way, nowhere, way_as, way_none, way_one}
use Rattle.law_node_streams.proofs.Streams.Frames.{FrameIs, frame_taken}
use Rattle.law_node_streams.specs.Streams.{is_live}

-- a request is refused by a head
abbrev pub IsRefusal : Option Refusal → Type 0
IsRefusal None = ⊥
IsRefusal (Some refusal) = Unit {0}

abbrev pub IsRefused : Option Stop → Type 0
IsRefused None = ⊥
IsRefused (Some why) = IsRefusal why.refusal

-- what an end keeps while bytes come
pub record IsSame (a b : NearEnd) : Type 0 where
  pub leg : b.leg ≡ a.leg
  pub pipe : b.pipe ≡ a.pipe
  pub begun : b.begun ≡ a.begun
  pub standing : b.standing ≡ a.standing

-- all messages in the bytes, behind which the intake is what is read
pub record IsExact (pipe : Option Pipe) (i j : Intake) (bytes : List ℕ) (messages : List Message)
    : Type 0 where
  pub live : is_live i.stage ≡ true
  pub all : messages ≡ messages_from pipe (reading i.stage i.held) bytes
  pub after : reading_after pipe (reading i.stage i.held) bytes ≡ reading j.stage j.held

module _ {S : Type 0} (rules : Rules S) where
  -- the role judges the text as a head, on a leg that is heard
  abbrev pub Judges : Passage S → NearEnd → List ℕ → List ℕ → Type 0
  Judges p end piece text = (is_over rules end p.role ≡ false) × HeadIn end.intake piece text

  -- and refuses it
  pub record Refuses (p : Passage S) (end : NearEnd) (piece : List ℕ) : Type 0 where
    pub text : List ℕ
    pub judges : Judges p end piece text
    pub fault : HttpFault
    pub refuses : (rules.head p.role end.leg text).1 ≡ Err (head.Request fault)

  -- moves take a front of the messages in a piece, and all where the leg is heard
  pub record Heard (p : Passage S) (end : NearEnd) (u : Turn S) (piece : List ℕ) : Type 0 where
    pub passage : Passage S
    pub way : Way rules (same_leg end.leg) nowhere p passage
    pub role : passage.role ≡ u.role
    pub put : passage.put ≡ p.put
    pub messages : List Message
    pub came : passage.came ≡ p.came ++ on_leg end.leg messages
    pub front : IsPrefix messages
        (messages_from end.pipe (reading end.intake.stage end.intake.held) piece)
    pub exact : is_deaf rules u ≡ false → is_live u.end.intake.stage ≡ true
        → IsExact end.pipe end.intake u.end.intake piece messages
    pub heads : is_stopped u.stop ≡ false → u.end.intake.stage ≡ stage.Head
        → (end.intake.stage ≡ stage.Head) × (way.moves ≡ [])
    pub refused : IsRefused u.stop
        → (end.intake.stage ≡ stage.Head) × Refuses p end piece
    pub texts : AllByRecursion (HeadBy (Judges p end piece)) way.moves
    pub turns : (g : Stages) → IsNext (g end.leg) end.intake.stage
        → AreInTurnFrom rules p g way.moves
        × (is_stopped u.stop ≡ false
        → IsNext (all_stages rules p g way.moves end.leg) u.end.intake.stage)
    pub counted : TellsOn p end.leg end.count
        → AreCounted rules p way.moves
        × (is_stopped u.stop ≡ false → TellsOn passage end.leg u.end.count)
    pub on : ((messages ≡ []) × (is_deaf rules u ≡ true)) ⊎ (is_over rules end p.role ≡ false)
    pub same : IsSame end u.end
    pub held : IsHeld u.end

-- ---- a byte

-- a leg that is heard is in use
pub in_use : {S : Type 0} (rules : Rules S) (end : NearEnd) (role : S)
    → is_over rules end role ≡ false → IsTrue (is_in_use rules role end.leg)
in_use rules end role h =
    by (is_marked end.standing) (rules.is_done role end.leg) (is_ended (rules.phase role)) h
  where
    by : (marked done ended : Bool) → (marked || (done || ended)) ≡ false
        → IsTrue (not ended && not done)
    by true done ended h = absurd cc
    by false true ended h = absurd cc
    by false false true h = absurd cc
    by false false false h = refl

module _ {S : Type 0} (rules : Rules S) (moment : ℕ) (p : Passage S) (end : NearEnd) (b : ℕ)
    (on : is_over rules end p.role ≡ false) where
  may : IsTrue (is_in_use rules p.role end.leg)
  may = in_use rules end p.role on

  abbrev now : Intake → NearEnd
  now j = with_intake (touched end moment) j

  abbrev start : Reading
  start = reading end.intake.stage end.intake.held

  abbrev next : Reading × List Message
  next = read_byte end.pipe start b

  abbrev heads : Leg → Bool
  heads = same_leg end.leg

  -- the node stops
  stops_here : (q : Passage S) (j : Intake) (role : S) (why : Stop)
      → (way : Way rules heads nowhere p q)
      → ((g : Stages) → IsNext (g end.leg) end.intake.stage → AreInTurnFrom rules p g way.moves)
      → q.role ≡ role → q.put ≡ p.put → q.came ≡ p.came → IsHeld (now j)
      → (IsRefused (Some why)
      → (end.intake.stage ≡ stage.Head) × Refuses rules p end (b ∷ []))
      → AllByRecursion (HeadBy (Judges rules p end (b ∷ []))) way.moves
      → (TellsOn p end.leg end.count → AreCounted rules p way.moves)
      → Heard rules p end (stops (now j) role why) (b ∷ [])
  stops_here q j role why way turns is put came held refused texts counts = record {
    passage = q;
    way = way;
    role = is;
    put = put;
    messages = [];
    came = came ∙ sym (append-nil p.came);
    front = (messages_from end.pipe start (b ∷ []), refl);
    exact = λ h. absurd cc;
    heads = λ h. absurd cc;
    refused = refused;
    texts = texts;
    turns = λ g. λ n. (turns g n, λ h. absurd cc);
    counted = λ h. (counts h, λ go. absurd cc);
    on = inr on;
    same = record { leg = refl; pipe = refl; begun = refl; standing = refl };
    held = held;
  }

  -- a head or greeting was taken, or nothing is whole
  goes_on : (q : Passage S) (to : NearEnd) (role : S) → (way : Way rules heads nowhere p q)
      → q.role ≡ role → q.put ≡ p.put → q.came ≡ p.came → IsHeld to
      → IsSame end to
      → (is_live to.intake.stage ≡ true → (is_live end.intake.stage ≡ true)
      × (next ≡ (reading to.intake.stage to.intake.held, [])))
      → (to.intake.stage ≡ stage.Head → (end.intake.stage ≡ stage.Head) × (way.moves ≡ []))
      → ((g : Stages) → IsNext (g end.leg) end.intake.stage
      → AreInTurnFrom rules p g way.moves
      × IsNext (all_stages rules p g way.moves end.leg) to.intake.stage)
      → AllByRecursion (HeadBy (Judges rules p end (b ∷ []))) way.moves
      → to.count ≡ end.count → AreCounted rules p way.moves
      → Heard rules p end (goes to role) (b ∷ [])
  goes_on q to role way is put came held same live top turns texts count counts = record {
    passage = q;
    way = way;
    role = is;
    put = put;
    messages = [];
    came = came ∙ sym (append-nil p.came);
    front = (messages_from end.pipe start (b ∷ []), refl);
    exact = λ h. λ l. record {
      live = (live l).0;
      all = ap (λ (x : Reading × List Message). x.1 ++ []) (sym (live l).1);
      after = ap (λ (x : Reading × List Message). x.0) (live l).1;
    };
    heads = λ h. top;
    refused = λ h. absurd h;
    texts = texts;
    turns = λ g. λ n. let both = turns g n in (both.0, λ h. both.1);
    counted = λ h. (
      counts,
      λ go.
          subst (TellsOn q end.leg) (sym count)
          (subst (λ (log : List OnLeg). Tells end.count (packets (of_leg end.leg log)))
          (sym came) h),
    );
    on = inr on;
    same = same;
    held = held;
  }

  nothing_is : (j : Intake) → ByteIs end.pipe end.intake.stage j Nothing next
      → Heard rules p end (goes (now j) p.role) (b ∷ [])
  nothing_is j is =
      goes_on p (now j) p.role (way_none rules heads p) refl refl refl is.2
      (record { leg = refl; pipe = refl; begun = refl; standing = refl })
      (λ l.
      let live : is_live end.intake.stage ≡ true =
      subst (λ (s : Stage). is_live s ≡ true) is.0 l in
      (live, is.1 live ∙ ap (λ (s : Stage). (reading s j.held, [])) (sym is.0)))
      (λ h. (sym is.0 ∙ h, refl))
      (λ g. λ n. (tt, subst (λ (s : Stage). IsNext (g end.leg) s) (sym is.0) n)) tt refl tt

  head_is : (j : Intake) (text : List ℕ) (x : S × Result HeadTaken HeadRefused)
      → rules.head p.role end.leg text ≡ x
      → end.intake.stage ≡ stage.Head → next ≡ (reading stage.Frames [], []) → j.held ≡ []
      → IsHead end.intake b (Head text)
      → Heard rules p end (behind_head (now j) (head_row end.leg (length text) x)) (b ∷ [])
  head_is j text x e top is none stands = by x e
    where
      q : Passage S
      q = moved rules p (HeadCame end.leg text)

      way : Way rules heads nowhere p q
      way = way_one rules heads nowhere p (HeadCame end.leg text) may (λ leg. λ h. h)
          (λ leg. refl)

      judged : Judges rules p end (b ∷ []) text
      judged = (
        on,
        record {
          head = top;
          front = b ∷ [];
          behind = [];
          cut = refl;
          is = stands.0;
          whole = stands.1;
          first = λ k more less. absurd (omega (arith, more, less));
        },
      )

      -- a head comes first
      first : (g : Stages) → IsNext (g end.leg) end.intake.stage
          → AreInTurnFrom rules p g (HeadCame end.leg text ∷ [])
      first g n = (subst (λ (s : Stage). IsNext (g end.leg) s) top n, tt)

      behind_is : (taken : HeadTaken) → (rules.head p.role end.leg text).1 ≡ Ok taken
          → (g : Stages)
          → all_stages rules p g (HeadCame end.leg text ∷ []) end.leg
          ≡ Some (stage_of taken.behind)
      behind_is taken ok g =
          ap (λ t. cond t (Some (turn.behind_head (rules.head p.role end.leg text).1)) (g end.leg))
          (same_itself end.leg)
          ∙ ap (λ (r : Result HeadTaken HeadRefused). Some (turn.behind_head r)) ok

      by_behind : (role : S) (behind : Behind) (length : ℕ) → q.role ≡ role
          → ((g : Stages)
          → all_stages rules p g (HeadCame end.leg text ∷ []) end.leg ≡ Some (stage_of behind))
          → Heard rules p end
          (goes (begun_body (now j) (stage_of behind) (Some length)) role) (b ∷ [])
      by_behind role passed.Frames length same next_is =
          goes_on q (begun_body (now j) stage.Frames (Some length)) role way same refl refl
          (λ fr. nothing_held j.held none)
          (record { leg = refl; pipe = refl; begun = refl; standing = refl })
          (λ l. (ap is_live top, is ∙ ap (λ (x : List ℕ). (reading stage.Frames x, [])) (sym none)))
          (λ h. absurd cc) (λ g. λ n. (first g n, ap takes_frames (next_is g))) (judged, tt)
          refl (tt, tt)
      by_behind role passed.PassedOver length same next_is =
          goes_on q (begun_body (now j) stage.PassedOver (Some length)) role way same refl refl
          (λ fr. nothing_held j.held none)
          (record { leg = refl; pipe = refl; begun = refl; standing = refl })
          (λ l. absurd cc) (λ h. absurd cc) (λ g. λ n. (first g n, tt)) (judged, tt)
          refl (tt, tt)

      by_why : (role : S) (why : HeadRefused) → rules.head p.role end.leg text ≡ (role, Err why)
          → IsRefused (Some (stop_head end.leg (length text) why))
          → (end.intake.stage ≡ stage.Head) × Refuses rules p end (b ∷ [])
      by_why role (head.Request fault) e r = (
        top,
        record {
          text = text;
          judges = judged;
          fault = fault;
          refuses = ap (λ (y : S × Result HeadTaken HeadRefused). y.1) e;
        },
      )
      by_why role (head.Response fault) e r = absurd r
      by_why role (head.Status status) e r = absurd r

      by : (y : S × Result HeadTaken HeadRefused) → rules.head p.role end.leg text ≡ y
          → Heard rules p end (behind_head (now j) (head_row end.leg (length text) y)) (b ∷ [])
      by (role, Ok taken) e =
          by_behind role taken.behind taken.length
          (ap (λ (y : S × Result HeadTaken HeadRefused). y.0) e)
          (behind_is taken (ap (λ (y : S × Result HeadTaken HeadRefused). y.1) e))
      by (role, Err why) e =
          stops_here q j role (stop_head end.leg (length text) why) way first
          (ap (λ (y : S × Result HeadTaken HeadRefused). y.0) e) refl refl
          (λ fr. nothing_held j.held none) (by_why role why e) (judged, tt)
          (λ h. (tt, tt))

  greeting_is : (j : Intake) (t : Bool) (why : Cause) → end.intake.stage ≡ stage.Greeting
      → next ≡ (reading stage.Frames [], []) → j.held ≡ []
      → Heard rules p end
      (cond t (goes (begun_body (now j) stage.Frames None) p.role)
      (stops (now j) p.role (record { cause = why; refusal = None }))) (b ∷ [])
  greeting_is j true why at is none =
      goes_on p (begun_body (now j) stage.Frames None) p.role (way_none rules heads p)
      refl refl refl (λ fr. nothing_held j.held none)
      (record { leg = refl; pipe = refl; begun = refl; standing = refl })
      (λ l. (ap is_live at, is ∙ ap (λ (x : List ℕ). (reading stage.Frames x, [])) (sym none)))
      (λ h. absurd cc)
      (λ g. λ n. (tt, subst (λ (s : Stage). IsNext (g end.leg) s) at n)) tt refl tt
  greeting_is j false why at is none =
      stops_here p j p.role (record { cause = why; refusal = None })
      (way_none rules heads p) (λ g. λ n. tt) refl refl refl
      (λ fr. nothing_held j.held none) (λ r. absurd r) tt (λ h. tt)

  frame_is : (j : Intake) (frame : List ℕ) (place : ℕ) (x : S × Result Count Cause)
      → FrameIs rules nowhere p (heading (now j) place) may frame x
      → end.intake.stage ≡ stage.Frames
      → next ≡ (reading stage.Frames [], message_in end.pipe frame)
      → j.held ≡ [] → j.stage ≡ stage.Frames
      → Heard rules p end (behind_frame (now j) x) (b ∷ [])
  frame_is j frame place (role, Ok count) f at is none st = record {
    passage = f.passage;
    way = way_as rules nowhere heads p f.passage (λ leg. λ h. refl) f.way;
    role = f.role;
    put = f.put;
    messages = message_in end.pipe frame;
    came = f.came;
    front = ([], ap (λ (x : Reading × List Message). x.1 ++ []) (sym is));
    exact = λ h. λ l. record {
      live = ap is_live at;
      all =
          sym (append-nil (message_in end.pipe frame))
          ∙ ap (λ (x : Reading × List Message). x.1 ++ []) (sym is);
      after =
          ap (λ (x : Reading × List Message). x.0) is
          ∙ ap (λ (y : Stage). reading y []) (sym st)
          ∙ ap (reading j.stage) (sym none);
    };
    heads = λ h. λ e. absurd (apart (sym st ∙ e));
    refused = λ r. absurd r;
    texts = no_heads (Judges rules p end (b ∷ [])) f.way.moves (λ leg. f.way.headless leg refl);
    turns = λ g. λ n.
        let frames = subst (λ (s : Stage). IsNext (g end.leg) s) at n in (
          f.leaves.in_turn g frames,
          λ h.
              subst (λ (s : Stage). IsNext (all_stages rules p g f.way.moves end.leg) s) (sym st)
              (subst (λ (x : Stages). takes_frames (x end.leg) ≡ true) (sym (f.leaves.stays g))
              frames),
        );
    counted = λ h. let two = f.counted h in (two.0, λ go. two.1);
    on = inr on;
    same = record { leg = refl; pipe = refl; begun = refl; standing = refl };
    held = λ fr. nothing_held j.held none;
  }
    where
      apart : stage.Frames ≡ stage.Head → ⊥
      apart e = absurd cc
  frame_is j frame place (role, Err why) f at is none st =
      stops_here f.passage j role (record { cause = why; refusal = None })
      (way_as rules nowhere heads p f.passage (λ leg. λ h. refl) f.way)
      (λ g. λ n. f.leaves.in_turn g (subst (λ (s : Stage). IsNext (g end.leg) s) at n))
      f.role f.put
      (f.came ∙ append-nil p.came) (λ fr. nothing_held j.held none) (λ r. absurd r)
      (no_heads (Judges rules p end (b ∷ [])) f.way.moves (λ leg. f.way.headless leg refl))
      (λ h. (f.counted h).0)

  by_came : (j : Intake) (c : Came) → ByteIs end.pipe end.intake.stage j c next
      → (end.intake.stage ≡ stage.Head → IsHead end.intake b c)
      → Heard rules p end (take rules (now j) p.role c) (b ∷ [])
  unfolding take
  by_came j Nothing is stands = nothing_is j is
  by_came j (Head text) is stands =
      head_is j text (rules.head p.role end.leg text) refl is.0 is.1 is.2 (stands is.0)
  by_came j (Greeting text) is stands = greeting_is j (is_greeting text) _ is.0 is.1 is.2
  by_came j (Frame place frame) is stands =
      frame_is j frame place (take_frame rules (heading (now j) place) p.role frame)
      (frame_taken rules nowhere p (heading (now j) place) may frame is.4) is.0 is.1 is.2 is.3
  by_came j (Fault place fault) is stands =
      stops_here p j p.role _ (way_none rules heads p) (λ g. λ n. tt) refl refl refl
      (λ fr. absurd (apart (sym is ∙ fr))) (λ r. absurd r) tt (λ h. tt)
    where
      apart : stage.Shut ≡ stage.Frames → ⊥
      apart e = absurd cc
  by_came j (Over length) is stands =
      stops_here p j p.role _ (way_none rules heads p) (λ g. λ n. tt) refl refl refl
      (λ fr. absurd (apart (sym is ∙ fr))) (λ r. absurd r) tt (λ h. tt)
    where
      apart : stage.Shut ≡ stage.Frames → ⊥
      apart e = absurd cc

  pub byte_heard : IsHeld end
      → Heard rules p end
      (take_next rules (touched end moment) p.role (on_byte end.intake b)) (b ∷ [])
  byte_heard held =
      by_came (on_byte end.intake b).0 (on_byte end.intake b).1
      (byte_is end.pipe end.intake b held) (head_whole end.intake b)
