-- what bytes that read well close a node with
use Rattle.law_order.proofs.Vocabulary.{◌≡◌, inl, inr, ℕ, List, [], ◌∷◌, ◌++◌, length, cond, Bool, true, false, nat_lt, Some, None, Ok, Err, refl, sym, ap, ◌∙◌, subst, slice_index, ◌==◌, ◌&&◌, ◌+◌, Option, Result, eqb-true}
use Rattle.rh_sig.specs.declared.fault.SigFault.TheVariants as sig
use Rattle.rh_line.specs.declared.cause.Cause.TheVariants as cause
use Rattle.rh_shell.specs.Intakes.{Over, behind}
use Rattle.rh_shell.specs.declared.answers.Behind.TheVariants as passed
use Rattle.rh_shell.specs.declared.answers.HeadRefused.TheVariants as head
use Rattle.rh_shell.specs.declared.answers.Refused.TheVariants as refused
use Rattle.rh_shell.specs.declared.reading.PacketFault.TheVariants as unread
use Rattle.rh_shell.specs.declared.stage.Stage.TheVariants as stage
use Rattle.law_moves.proofs.Vocabulary.{HeadFault, rts, header_length, frag_of, head_fault, Pipe, Named, Refusal, Leg, Cause, Behind, Count, HeadRefused, HeadTaken, Refused, Course, Going, Closed, Refusing, Heading, PacketFault, Stage, Stop, Turn, goes, stops, stop, stop_head, head_row, stage_of, begun_body, behind_head, behind_frame, row_by, close_row, one_more, is_zero, is_upward, is_ping, take_ping, take_packet, take_frame, is_greeting, heading, touched, with_intake, take}
use Rattle.law_moves.proofs.Vocabulary.{hear_byte, hear, heard, Intake, Came, Nothing, Head, Greeting, Frame, Fault, on_byte, byte_by, text_by, frame_by, frame_byte, holds, is_whole_head, is_whole_greeting, is_full, length_told, counted, NearEnd, is_over, packet_of, Message, Rules, Row, Shell, bytes_at, bytes_by, end_at, stop_by, stopped, with_end, is_deaf, message_in, ClosedWith, Reading, frame_read, read_by, read_byte, reading, text_read, Answers, ByteIsWell, FrameIsWell}
use Rattle.law_moves.proofs.Vocabulary.{HeaderIsWell, ReadsWellFrom}
use Rattle.law_node_streams.specs.Streams.{is_live}
use Rattle.law_world_honest.proofs.Honesty.WaitedHeads.{waits_on, whole_there}
use Rattle.law_world_honest.specs.Honesty.Causes.{AreStrict, IsOfRole, RowRefuses}
use Rattle.law_world_honest.specs.Honesty.Heads.{BreaksRule, IsHeadThere, IsWaitedFor, RefusesBadHead}

module _ {S : Type 0} (well : Answers) (strict : AreStrict well) (rules : Rules S) (leg : Leg)
    (pipe : Option Pipe) (start : Stage) (from : ℕ) (bytes : List ℕ) where
  abbrev IsBad : Type 0
  IsBad = RefusesBadHead rules leg start from bytes

  -- ---- frames

  -- a cause of the role, if it is one at all
  abbrev IsOfRow : Result Count Cause → Type 0
  IsOfRow (Ok next) = Unit {0}
  IsOfRow (Err why) = IsOfRole rules leg IsBad why

  module _ (at : Heading) (role : S) (here : at.leg ≡ leg) (on : at.pipe ≡ pipe) where
    row_is : (next : Count) (r : Row) → ((why : Refused) → r ≡ Err why → RowRefuses rules leg why)
        → IsOfRow (row_by at next r)
    row_is next (Ok taken) refuses = tt
    row_is next (Err refused.Unexpected) refuses = tt
    row_is next (Err (refused.Cookie expected got)) refuses = tt
    row_is next (Err (refused.Window window)) refuses = tt
    row_is next (Err (refused.OutOfRange command value)) refuses =
        refuses (refused.OutOfRange command value) refl
    row_is next (Err (refused.Full full)) refuses = tt

    pdu_is : (frame : List ℕ)
        → IsOfRow (close_row at at.count (rules.pdu role at.leg at.count frame)).1
    pdu_is frame =
        row_is at.count (rules.pdu role at.leg at.count frame).1 (λ why e.
        inr (
          role,
          at.count,
          frame,
          subst (λ (l : Leg). (rules.pdu role l at.count frame).1 ≡ Err why) here e,
        ))

    ping_is : (zero upward : Bool)
        → IsOfRow (cond (zero && upward) (Err (cause.Unexpected at.leg at.place)) (Ok at.count))
    ping_is true true = tt
    ping_is true false = tt
    ping_is false upward = tt

    named_is : (named : Named) (t : Bool)
        → IsOfRow (cond {A = S × Result Count Cause} t (role, take_ping at)
        (close_row at (one_more at.count) (rules.packet role at.leg at.count named))).1
    named_is named true = ping_is (is_zero at.count) (is_upward at.pipe)
    named_is named false =
        row_is (one_more at.count) (rules.packet role at.leg at.count named).1 (λ why e.
        inl (
          role,
          at.count,
          named,
          subst (λ (l : Leg). (rules.packet role l at.count named).1 ≡ Err why) here e,
        ))

    packet_is : (r : Result Named PacketFault) → well r ≡ true
        → IsOfRow (take_packet rules at role r).1
    packet_is (Ok named) fits = named_is named (is_ping named)
    packet_is (Err (unread.Rts fault)) fits =
        absurd (let bad : true ≡ false = sym fits ∙ strict.packets fault in cc)
    packet_is (Err (unread.Sig sig.Unknown)) fits = tt
    packet_is (Err (unread.Sig (sig.OutOfRange command value))) fits =
        absurd (let bad : true ≡ false = sym fits ∙ strict.ranges command value in cc)

    by_type : (frame : List ℕ) (t : Bool) → (t ≡ true → well (packet_of frame at.pipe) ≡ true)
        → IsOfRow (cond {A = S × Result Count Cause} t
        (take_packet rules at role (packet_of frame at.pipe))
        (close_row at at.count (rules.pdu role at.leg at.count frame))).1
    by_type frame true fits = packet_is (packet_of frame at.pipe) (fits refl)
    by_type frame false fits = pdu_is frame

    frame_is : (frame : List ℕ) → FrameIsWell well pipe frame
        → IsOfRow (take_frame rules at role frame).1
    unfolding take_frame
    frame_is frame fits =
        by_type frame (slice_index frame 2 == rts) (λ e.
        subst (λ (p : Option Pipe). well (packet_of frame p) ≡ true) (sym on)
        (fits (eqb-true _ _ e)))

  -- ---- a byte

  -- what came is well, and the rest reads well behind it
  abbrev NextIsWell : List ℕ → Intake × Came → Type 0
  NextIsWell rest (j, Nothing) =
      (is_live j.stage ≡ true → ReadsWellFrom well pipe (reading j.stage j.held) rest)
      × (j.stage ≡ stage.Head → IsWaitedFor start from bytes j.held rest)
  NextIsWell rest (j, Head text) =
      (j.held ≡ []) × ReadsWellFrom well pipe (reading stage.Frames []) rest
      × IsHeadThere start from bytes text
  NextIsWell rest (j, Greeting text) =
      (is_greeting text ≡ true) × (j.held ≡ [])
      × ReadsWellFrom well pipe (reading stage.Frames []) rest
  NextIsWell rest (j, Frame place frame) =
      (j.stage ≡ stage.Frames) × (j.held ≡ []) × FrameIsWell well pipe frame
      × ReadsWellFrom well pipe (reading stage.Frames []) rest
  NextIsWell rest (j, Fault place fault) = ⊥
  NextIsWell rest (j, Over told) = Unit {0}

  module _ (rest : List ℕ) (all : List ℕ) where
    -- these bytes are a whole head, or it is waited for
    record IsNext : Type 0 where
      whole : is_whole_head all ≡ true → IsHeadThere start from bytes all
      waits : is_whole_head all ≡ false → IsWaitedFor start from bytes all rest

    -- at another stage these bytes are held
    held_on : (i : Intake) (s : Stage) → i.stage ≡ s → (s ≡ stage.Head → ⊥)
        → (is_live i.stage ≡ true → ReadsWellFrom well pipe (reading s all) rest)
        → NextIsWell rest (holds i all)
    held_on i s st past reads = (
      λ live.
          subst (λ (x : Stage). ReadsWellFrom well pipe (reading x all) rest) (sym st) (reads live),
      λ waiting. absurd (past (sym st ∙ waiting)),
    )

    on_head : (i : Intake) (t : Bool) → is_whole_head all ≡ t → i.stage ≡ stage.Head → IsNext
        → ReadsWellFrom well pipe (text_read stage.Head all t).0 rest
        → NextIsWell rest (text_by i all (Head all) t)
    on_head i true e st next reads = (refl, reads, next.whole e)
    on_head i false e st next reads = (
      λ live.
          subst (λ (s : Stage). ReadsWellFrom well pipe (reading s all) rest) (sym st) reads,
      λ waiting. next.waits e,
    )

    on_greeting : (i : Intake) (t : Bool) → i.stage ≡ stage.Greeting
        → (t ≡ true → is_greeting all ≡ true)
        → ReadsWellFrom well pipe (text_read stage.Greeting all t).0 rest
        → NextIsWell rest (text_by i all (Greeting all) t)
    on_greeting i true st is reads = (is refl, refl, reads)
    on_greeting i false st is reads =
        held_on i stage.Greeting st (λ waiting. absurd cc) (λ live. reads)

    on_header : (i : Intake) (o : Option HeadFault) → i.stage ≡ stage.Frames
        → HeaderIsWell well pipe all o → ReadsWellFrom well pipe (frame_read pipe all o).0 rest
        → NextIsWell rest (frame_by i all o)
    on_header i (Some fault) st is reads = absurd is
    on_header i None st is reads = by (nat_lt (length all) (frag_of all)) is reads
      where
        by : (t : Bool) → (t ≡ false → FrameIsWell well pipe all)
            → ReadsWellFrom well pipe
            (cond {A = Reading × List Message} t (reading stage.Frames all, [])
            (reading stage.Frames [], message_in pipe all)).0 rest
            → NextIsWell rest (cond t (holds i all) (behind i all, Frame i.place all))
        by true is reads = held_on i stage.Frames st (λ waiting. absurd cc) (λ live. reads)
        by false is reads = (st, refl, is refl, reads)

    on_frame : (i : Intake) (t : Bool) → i.stage ≡ stage.Frames
        → (t ≡ false → HeaderIsWell well pipe all (head_fault all))
        → ReadsWellFrom well pipe
        (cond {A = Reading × List Message} t (reading stage.Frames all, [])
        (frame_read pipe all (head_fault all))).0 rest
        → NextIsWell rest (cond t (holds i all) (frame_by i all (head_fault all)))
    on_frame i true st is reads = held_on i stage.Frames st (λ waiting. absurd cc) (λ live. reads)
    on_frame i false st is reads = on_header i (head_fault all) st (is refl) reads

    on_body : (i : Intake) (t : Bool) → i.stage ≡ stage.Frames
        → ByteIsWell well pipe stage.Frames all
        → ReadsWellFrom well pipe (read_by pipe stage.Frames all).0 rest
        → NextIsWell rest (cond t (record i { stage = stage.Shut }, Over (length_told i.body))
        (frame_byte (record i { body = counted 1 i.body }) all))
    on_body i true st is reads = tt
    on_body i false st is reads =
        on_frame (record i { body = counted 1 i.body }) (nat_lt (length all) header_length) st is
        reads

    on_passed : (i : Intake) (t : Bool) → i.stage ≡ stage.PassedOver
        → NextIsWell rest (cond t (record i { stage = stage.Shut }, Over (length_told i.body))
        (record i { body = counted 1 i.body }, Nothing))
    on_passed i true st = tt
    on_passed i false st = (
      λ live. absurd (let bad : false ≡ true = ap is_live (sym st) ∙ live in cc),
      λ waiting. absurd (let bad : stage.PassedOver ≡ stage.Head = sym st ∙ waiting in cc),
    )

    by_stage : (i : Intake) (s : Stage) → i.stage ≡ s
        → (is_live s ≡ true → ByteIsWell well pipe s all
        × ReadsWellFrom well pipe (read_by pipe s all).0 rest)
        → (s ≡ stage.Head → IsNext) → NextIsWell rest (byte_by s i all)
    by_stage i stage.Head st reads next =
        on_head i (is_whole_head all) refl st (next refl) (reads refl).1
    by_stage i stage.Greeting st reads next =
        on_greeting i (is_whole_greeting all) st (reads refl).0 (reads refl).1
    by_stage i stage.Frames st reads next =
        on_body i (is_full i.body) st (reads refl).0 (reads refl).1
    by_stage i stage.PassedOver st reads next = on_passed i (is_full i.body) st
    by_stage i stage.Shut st reads next = (
      λ live. absurd (let bad : false ≡ true = ap is_live (sym st) ∙ live in cc),
      λ waiting. absurd (let bad : stage.Shut ≡ stage.Head = sym st ∙ waiting in cc),
    )

  byte_is : (i : Intake) (b : ℕ) (rest : List ℕ)
      → (is_live i.stage ≡ true → ReadsWellFrom well pipe (reading i.stage i.held) (b ∷ rest))
      → (i.stage ≡ stage.Head → IsWaitedFor start from bytes i.held (b ∷ rest))
      → NextIsWell rest (on_byte i b)
  unfolding on_byte read_byte
  byte_is i b rest reads waits =
      by_stage rest (i.held ++ b ∷ []) i i.stage refl reads (λ waiting. record {
        whole = whole_there start from bytes i.held rest b (waits waiting);
        waits = waits_on start from bytes i.held rest b (waits waiting);
      })

  -- ---- what became whole

  -- a turn stopped for its role if it did, and what comes reads well
  record IsWellTurn (t : Turn S) (rest : List ℕ) : Type 0 where
    here : t.end.leg ≡ leg
    on : t.end.pipe ≡ pipe
    stopped : (why : Stop) → t.stop ≡ Some why → IsOfRole rules leg IsBad why.cause
    reads : is_deaf rules t ≡ false → is_live t.end.intake.stage ≡ true
        → ReadsWellFrom well pipe (reading t.end.intake.stage t.end.intake.held) rest
    waits : is_deaf rules t ≡ false → t.end.intake.stage ≡ stage.Head
        → IsWaitedFor start from bytes t.end.intake.held rest

  module _ (rest : List ℕ) where
    goes_is : (end : NearEnd) (role : S) → end.leg ≡ leg → end.pipe ≡ pipe
        → (is_live end.intake.stage ≡ true
        → ReadsWellFrom well pipe (reading end.intake.stage end.intake.held) rest)
        → (end.intake.stage ≡ stage.Head → IsWaitedFor start from bytes end.intake.held rest)
        → IsWellTurn (goes end role) rest
    goes_is end role here on reads waits = record {
      here = here;
      on = on;
      stopped = λ why e. absurd cc;
      reads = λ heard. reads;
      waits = λ heard. waits;
    }

    stops_is : (end : NearEnd) (role : S) (first : Stop) → end.leg ≡ leg → end.pipe ≡ pipe
        → IsOfRole rules leg IsBad first.cause → IsWellTurn (stops end role first) rest
    stops_is end role first here on is = record {
      here = here;
      on = on;
      stopped = λ why e.
          let same : first ≡ why = cc in
          subst (λ (s : Stop). IsOfRole rules leg IsBad s.cause) same is;
      reads = λ heard. absurd cc;
      waits = λ heard. absurd cc;
    }

    refused_is : (l : Leg) (n : ℕ) (why : HeadRefused) → (BreaksRule (Err why) → IsBad)
        → IsOfRole rules leg IsBad (stop_head l n why).cause
    refused_is l n (head.Request fault) bad = bad tt
    refused_is l n (head.Response fault) bad = bad tt
    refused_is l n (head.Status status) bad = tt

    -- no head is behind another
    no_head : (behind : Behind) → stage_of behind ≡ stage.Head → ⊥
    no_head passed.Frames waiting = absurd cc
    no_head passed.PassedOver waiting = absurd cc

    module _ (end : NearEnd) (role : S) (here : end.leg ≡ leg) (on : end.pipe ≡ pipe) where
      -- frames come next
      frames_next : (held : List ℕ) → held ≡ []
          → ReadsWellFrom well pipe (reading stage.Frames []) rest
          → ReadsWellFrom well pipe (reading stage.Frames held) rest
      frames_next held none reads =
          subst (λ (bytes : List ℕ). ReadsWellFrom well pipe (reading stage.Frames bytes) rest)
          (sym none) reads

      behind_is : (behind : Behind) (held : List ℕ) → held ≡ []
          → ReadsWellFrom well pipe (reading stage.Frames []) rest
          → is_live (stage_of behind) ≡ true
          → ReadsWellFrom well pipe (reading (stage_of behind) held) rest
      behind_is passed.Frames held none reads live = frames_next held none reads
      behind_is passed.PassedOver held none reads live = absurd cc

      head_is : (text : List ℕ) (x : S × Result HeadTaken HeadRefused)
          → rules.head role end.leg text ≡ x → end.intake.held ≡ []
          → ReadsWellFrom well pipe (reading stage.Frames []) rest
          → IsHeadThere start from bytes text
          → IsWellTurn (behind_head end (head_row end.leg (length text) x)) rest
      head_is text (r, Ok t) is none reads there =
          goes_is (begun_body end (stage_of t.behind) (Some t.length)) r here on
          (behind_is t.behind end.intake.held none reads)
          (λ waiting. absurd (no_head t.behind waiting))
      head_is text (r, Err why) is none reads there =
          stops_is end r (stop_head end.leg (length text) why) here on
          (refused_is end.leg (length text) why (λ breaks.
          let refused : (rules.head role end.leg text).1 ≡ Err why =
          ap (λ (y : S × Result HeadTaken HeadRefused). y.1) is in
          record {
            role = role;
            text = text;
            stands = there;
            refuses =
                subst (λ (l : Leg). BreaksRule (rules.head role l text).1) here
                (subst BreaksRule (sym refused) breaks);
          }))

      greeting_is : (t : Bool) → t ≡ true → end.intake.held ≡ []
          → ReadsWellFrom well pipe (reading stage.Frames []) rest
          → IsWellTurn (cond t (goes (begun_body end stage.Frames None) role)
          (stops end role (stop (cause.Unexpected end.leg 0)))) rest
      greeting_is true is none reads =
          goes_is (begun_body end stage.Frames None) role here on
          (λ live. frames_next end.intake.held none reads) (λ waiting. absurd cc)
      greeting_is false is none reads = absurd cc

      frame_turns : (x : S × Result Count Cause) → IsOfRow x.1 → end.intake.stage ≡ stage.Frames
          → end.intake.held ≡ [] → ReadsWellFrom well pipe (reading stage.Frames []) rest
          → IsWellTurn (behind_frame end x) rest
      frame_turns (r, Ok next) is st none reads =
          goes_is (record end { count = next }) r here on
          (λ live.
          subst (λ (s : Stage). ReadsWellFrom well pipe (reading s end.intake.held) rest) (sym st)
          (frames_next end.intake.held none reads))
          (λ waiting. absurd (let bad : stage.Frames ≡ stage.Head = sym st ∙ waiting in cc))
      frame_turns (r, Err why) is st none reads = stops_is end r (stop why) here on is

      came_is : (c : Came) → NextIsWell rest (end.intake, c)
          → IsWellTurn (take rules end role c) rest
      unfolding take
      came_is Nothing next = goes_is end role here on next.0 next.1
      came_is (Head text) next =
          head_is text (rules.head role end.leg text) refl next.0 next.1 next.2
      came_is (Greeting text) next = greeting_is (is_greeting text) next.0 next.1 next.2
      came_is (Frame place frame) next =
          frame_turns (take_frame rules (heading end place) role frame)
          (frame_is (heading end place) role here on frame next.2) next.0 next.1 next.3
      came_is (Fault place fault) next = absurd next
      came_is (Over told) next =
          stops_is end role (stop (cause.BodyOver end.leg (told + 1) told)) here on tt

  -- ---- bytes

  module _ (now : ℕ) where
    byte_heard : (t : Turn S) (b : ℕ) (rest : List ℕ) → IsWellTurn t (b ∷ rest)
        → IsWellTurn (hear_byte rules now t b) rest
    unfolding hear_byte
    byte_heard t b rest h = by (is_deaf rules t) refl
      where
        by : (d : Bool) → is_deaf rules t ≡ d
            → IsWellTurn (cond d t (heard rules now t.end t.role b)) rest
        by true e = record {
          here = h.here;
          on = h.on;
          stopped = h.stopped;
          reads = λ on. absurd (let bad : true ≡ false = sym e ∙ on in cc);
          waits = λ on. absurd (let bad : true ≡ false = sym e ∙ on in cc);
        }
        by false e =
            came_is rest (with_intake (touched t.end now) (on_byte t.end.intake b).0) t.role h.here
            h.on (on_byte t.end.intake b).1
            (byte_is t.end.intake b rest (h.reads e) (h.waits e))

    bytes_heard : (t : Turn S) (piece : List ℕ) → IsWellTurn t piece
        → IsWellTurn (hear rules now t piece) []
    unfolding hear
    bytes_heard t [] h = h
    bytes_heard t (b ∷ rest) h = bytes_heard (hear_byte rules now t b) rest (byte_heard t b rest h)

  -- ---- a node

  stopped_for : (s : Shell S) (l : Leg) (why : Cause) (o : Option Stop) → s.course ≡ Going
      → ((first : Stop) → o ≡ Some first → IsOfRole rules leg IsBad first.cause)
      → ClosedWith why (stopped s l o).course → IsOfRole rules leg IsBad why
  stopped_for s l why None going is closed = absurd (subst (ClosedWith why) going closed)
  stopped_for s l why (Some first) going is closed = by first.refusal closed
    where
      by : (r : Option Refusal) → ClosedWith why (stop_by s l first.cause r).course
          → IsOfRole rules leg IsBad why
      by None same = subst (IsOfRole rules leg IsBad) same (is first refl)
      by (Some refusal) same = subst (IsOfRole rules leg IsBad) same (is first refl)

  pub piece_closes : (s : Shell S) (l : Leg) (piece : List ℕ) (why : Cause) (end : NearEnd)
      → end.leg ≡ leg → end.pipe ≡ pipe → s.course ≡ Going → end_at s l ≡ Some end
      → (is_over rules end s.role ≡ false → is_live end.intake.stage ≡ true
      → ReadsWellFrom well pipe (reading end.intake.stage end.intake.held) piece)
      → (is_over rules end s.role ≡ false → end.intake.stage ≡ stage.Head
      → IsWaitedFor start from bytes end.intake.held piece)
      → ClosedWith why (bytes_by rules s l piece s.course).course
      → IsOfRole rules leg IsBad why
  piece_closes s l piece why end here on going at reads waits closed =
      stopped_for (with_end s l t.end t.role) l why t.stop going
      (bytes_heard s.now (goes end s.role) piece first).stopped
      (subst (λ (o : Option NearEnd). ClosedWith why (bytes_at rules s l piece o).course) at
      (subst (λ (c : Course). ClosedWith why (bytes_by rules s l piece c).course) going closed))
    where
      t : Turn S
      t = hear rules s.now (goes end s.role) piece

      first : IsWellTurn (goes end s.role) piece
      first = record {
        here = here;
        on = on;
        stopped = λ w e. absurd cc;
        reads = λ heard live. reads heard live;
        waits = λ heard waiting. waits heard waiting;
      }

-- a node that something closed was going
pub going_is : {S : Type 0} (s : Shell S) (closed : Option Cause) (why : Cause)
    → ((first : Cause) → ClosedWith first s.course → closed ≡ None) → closed ≡ Some why
    → s.course ≡ Going
going_is s closed why again is = by s.course refl
  where
    by : (course : Course) → s.course ≡ course → course ≡ Going
    by Going e = refl
    by (Closed first) e =
        absurd (let bad : None ≡ Some why =
        sym (again first (subst (ClosedWith first) (sym e) refl)) ∙ is in cc)
    by (Refusing first leg rest) e =
        absurd (let bad : None ≡ Some why =
        sym (again first (subst (ClosedWith first) (sym e) refl)) ∙ is in cc)
