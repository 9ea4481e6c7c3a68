-- a byte on a leg: what it makes whole is taken by moves
use Rattle.law_order.proofs.Vocabulary.{◌≡◌, ◌≢◌, ℕ, ◌<◌, ◌≤◌, List, [], ◌∷◌, ◌++◌, length, cond, Bool, true, false, nat_lt, Some, None, Ok, Err, arith, refl, sym, ap, ◌∙◌, subst, ◌==◌, ◌&&◌, IsTrue, slice_index, Option, Result, append-nil, length-append, take-append-le, nat_tests}
use Rattle.rh_shell.specs.Intakes.{Over, behind}
use Rattle.rh_shell.specs.declared.stage.Stage.TheVariants as stage
use Rattle.law_moves.proofs.Vocabulary.{frag_bounds, frag_same, rts, frag_of, head_fault, IsFrame, IsUnfinished, HeadFault, Named, Leg, Cause, Count, HeadRefused, HeadTaken, Heading, PacketFault, Stage, Stop, Intake, Came, Nothing, Head, Greeting, Frame, Fault, counted, is_full, length_told, is_whole_head, is_whole_greeting, text_by, frame_by, frame_byte, byte_by, on_byte, packet_of, NearEnd, Rules, Row, Message, Pdu, Packet, Turn, goes, stops, with_intake, touched, heading}
use Rattle.law_moves.proofs.Vocabulary.{take, take_frame, take_packet, take_ping, head_row, behind_head, behind_frame, close_row, is_ping, is_greeting, one_more, is_zero, is_upward, Passage, HeadCame, PduCame, PacketCame, moved, taken_by, is_in_use, Leads, IsHeld, Cut, on_leg, message_in, named_messages}
use Rattle.law_moves.proofs.Leading.{leads_none, leads_one}
use Rattle.law_moves.specs.Carrying.{Takes}

-- ---- what a byte makes of what is held

-- all: what is held, and then the byte
abbrev pub ByteIs : Intake → List ℕ → Intake → Came → Type 0
ByteIs i all j Nothing =
    (i.stage ≡ stage.Frames → (j.stage ≡ stage.Frames) × (j.held ≡ all))
    × (j.stage ≡ stage.Frames → IsUnfinished j.held)
ByteIs i all j (Head text) = (i.stage ≡ stage.Frames → ⊥) × (j.held ≡ [])
ByteIs i all j (Greeting text) = (i.stage ≡ stage.Frames → ⊥) × (j.held ≡ [])
ByteIs i all j (Frame place frame) =
    (j.stage ≡ stage.Frames) × (j.held ≡ []) × (frame ≡ all) × IsFrame all
ByteIs i all j (Fault place fault) = j.stage ≡ stage.Shut
ByteIs i all j (Over length) = j.stage ≡ stage.Shut

-- a header that is whole, and bytes that are not more than its frame
pub grown : (held : List ℕ) (b : ℕ) → IsUnfinished held → 16 ≤ length (held ++ b ∷ [])
    → head_fault (held ++ b ∷ []) ≡ None → length (held ++ b ∷ []) ≤ frag_of (held ++ b ∷ [])
grown held b u long head =
    let size = length-append held (b ∷ []) in
    elim (nat_lt (length held) 16) as (λ t. nat_lt (length held) 16 ≡ t
    → length (held ++ b ∷ []) ≤ frag_of (held ++ b ∷ [])) [
      | true ↦ λ e.
          let short : length held < 16 = grind (arith, nat_tests) in
          let bounds = frag_bounds (held ++ b ∷ []) head in
          omega (arith, size, short, bounds.0)
      | false ↦ λ e.
          let past : 16 ≤ length held = grind (arith, nat_tests) in
          let same = frag_same (held ++ b ∷ []) held (take-append-le 16 held (b ∷ []) past) in
          omega (arith, size, (u past).1, same)
    ] refl

-- a frame that is held, or whole
pub frame_is : (i j : Intake) (b : ℕ) → j.stage ≡ stage.Frames → IsUnfinished i.held
    → ByteIs i (i.held ++ b ∷ []) (frame_byte j (i.held ++ b ∷ [])).0
    (frame_byte j (i.held ++ b ∷ [])).1
frame_is i j b st u = by_length (nat_lt (length all) 16) refl
  where
    all : List ℕ
    all = i.held ++ b ∷ []

    by_whole : (t : Bool) → nat_lt (length all) (frag_of all) ≡ t → 16 ≤ length all
        → head_fault all ≡ None
        → ByteIs i all (cond {A = Intake × Came} t (record j { held = all }, Nothing)
        (behind j all, Frame j.place all)).0
        (cond {A = Intake × Came} t (record j { held = all }, Nothing)
        (behind j all, Frame j.place all)).1
    by_whole true e long head =
        (λ fr. (st, refl), λ fr. λ more. (head, grind (arith, nat_tests)))
    by_whole false e long head =
        let most = grown i.held b u long head in
        let least : frag_of all ≤ length all = grind (arith, nat_tests) in
        (st, refl, refl, record { long = long; head = head; whole = omega (arith, most, least) })

    by_head : (o : Option HeadFault) → head_fault all ≡ o → 16 ≤ length all
        → ByteIs i all (frame_by j all o).0 (frame_by j all o).1
    by_head (Some fault) e long = refl
    by_head None e long = by_whole (nat_lt (length all) (frag_of all)) refl long e

    by_length : (t : Bool) → nat_lt (length all) 16 ≡ t
        → ByteIs i all (cond {A = Intake × Came} t (record j { held = all }, Nothing)
        (frame_by j all (head_fault all))).0
        (cond {A = Intake × Came} t (record j { held = all }, Nothing)
        (frame_by j all (head_fault all))).1
    by_length true e = (
      λ fr. (st, refl),
      λ fr. λ more.
          absurd (let k : length all < 16 = grind (arith, nat_tests) in omega (arith, k, more)),
    )
    by_length false e = by_head (head_fault all) refl (grind (arith, nat_tests))

-- a text is held, or whole
text_is : (i : Intake) (all : List ℕ) (came : Came) (t : Bool)
    → (i.stage ≡ stage.Frames → ⊥)
    → ByteIs i all (behind i all) came
    → ByteIs i all (text_by i all came t).0 (text_by i all came t).1
text_is i all came true apart whole = whole
text_is i all came false apart whole = (λ fr. absurd (apart fr), λ fr. absurd (apart fr))

-- a byte of a body, which may be one too many
body_is : (i : Intake) (all : List ℕ) (next : Intake → Intake × Came) (t : Bool)
    → (let n = next (record i { body = counted 1 i.body }) in ByteIs i all n.0 n.1)
    → (let n = cond {A = Intake × Came} t
    (record i { stage = stage.Shut }, Over (length_told i.body))
    (next (record i { body = counted 1 i.body })) in
    ByteIs i all n.0 n.1)
body_is i all next true is = refl
body_is i all next false is = is

by_stage : (s : Stage) (i : Intake) (b : ℕ) → i.stage ≡ s
    → (i.stage ≡ stage.Frames → IsUnfinished i.held)
    → ByteIs i (i.held ++ b ∷ []) (byte_by s i (i.held ++ b ∷ [])).0
    (byte_by s i (i.held ++ b ∷ [])).1
by_stage stage.Head i b st u =
    let all = i.held ++ b ∷ [] in
    let apart : i.stage ≡ stage.Frames → ⊥ = λ fr. absurd cc in
    text_is i all (Head all) (is_whole_head all) apart (apart, refl)
by_stage stage.Greeting i b st u =
    let all = i.held ++ b ∷ [] in
    let apart : i.stage ≡ stage.Frames → ⊥ = λ fr. absurd cc in
    text_is i all (Greeting all) (is_whole_greeting all) apart (apart, refl)
by_stage stage.Frames i b st u =
    let all = i.held ++ b ∷ [] in
    body_is i all (λ j. frame_byte j all) (is_full i.body)
    (frame_is i (record i { body = counted 1 i.body }) b st (u st))
by_stage stage.PassedOver i b st u =
    let apart : i.stage ≡ stage.Frames → ⊥ = λ fr. absurd cc in
    body_is i (i.held ++ b ∷ []) (λ j. (j, Nothing)) (is_full i.body)
    (λ fr. absurd (apart fr), λ fr. absurd (apart fr))
by_stage stage.Shut i b st u =
    let apart : i.stage ≡ stage.Frames → ⊥ = λ fr. absurd cc in
    (λ fr. absurd (apart fr), λ fr. absurd (apart fr))

pub byte_is : (i : Intake) (b : ℕ) → (i.stage ≡ stage.Frames → IsUnfinished i.held)
    → ByteIs i (i.held ++ b ∷ []) (on_byte i b).0 (on_byte i b).1
unfolding on_byte
byte_is i b u = by_stage i.stage i b refl u

-- ---- what became whole is taken

-- what a row took is logged
abbrev pub LogsBy : {S : Type 0} → Passage S → Passage S → Leg → List Message
    → Result Count Cause → Type 0
LogsBy p q leg messages (Ok next) = q.came ≡ p.came ++ on_leg leg messages
LogsBy p q leg messages (Err why) = q.came ≡ p.came

pub record RowIs {S : Type 0} (p q : Passage S) (leg : Leg) (messages : List Message)
    (x : S × Result Count Cause) : Type 0 where
  pub role : q.role ≡ x.0
  pub put : q.put ≡ p.put
  pub logs : LogsBy p q leg messages x.1

row_is : {S : Type 0} (p : Passage S) (leg : Leg) (message : Message) (at : Heading) (next : Count)
    (x : S × Row)
    → RowIs p (taken_by p leg message x) leg (message ∷ []) (close_row at next x)
row_is p leg message at next (role, Ok taken) = record { role = refl; put = refl; logs = refl }
row_is p leg message at next (role, Err why) = record { role = refl; put = refl; logs = refl }

-- nothing is left of a frame that is whole
pub nothing_held : (held : List ℕ) → held ≡ [] → IsUnfinished held
nothing_held held none long =
    absurd (let size : length held ≡ 0 = ap (λ (x : List ℕ). length x) none in
    omega (arith, size, long))

module _ {S : Type 0} (rules : Rules S) (p : Passage S) (end now : NearEnd) (j : Intake) (b : ℕ)
    (leg_is : now.leg ≡ end.leg) (pipe_is : now.pipe ≡ end.pipe) where
  abbrev all : List ℕ
  all = end.intake.held ++ b ∷ []

  -- no frame is taken
  no_frame : (q : Passage S) (u : Turn S) → Leads rules p q → q.role ≡ u.role → q.came ≡ p.came
      → q.put ≡ p.put → (end.intake.stage ≡ stage.Frames → Cut rules end u (b ∷ []) [])
      → u.end.leg ≡ now.leg → u.end.pipe ≡ now.pipe → IsHeld u.end → Takes rules p end u (b ∷ [])
  no_frame q u leads is came put cut leg pipe held = record {
    passage = q;
    leads = leads;
    role = is;
    frames = [];
    each = tt;
    came = came ∙ sym (append-nil p.came);
    put = put;
    cut = cut;
    leg = leg ∙ leg_is;
    pipe = pipe ∙ pipe_is;
    held = held;
  }

  -- where the node stops, all is left
  all_left : (e : NearEnd) (role : S) (why : Stop) → Cut rules end (stops e role why) (b ∷ []) []
  all_left e role why = record {
    rest = all;
    joined = refl;
    left = λ h. absurd cc;
    stage = λ h. absurd cc;
  }

  -- a frame that a row took or refused
  frame_row : (frame : List ℕ) (q : Passage S) (x : S × Result Count Cause) → Leads rules p q
      → RowIs p q end.leg (message_in end.pipe frame) x
      → (j.stage ≡ stage.Frames) → (j.held ≡ []) → (frame ≡ all) → IsFrame all
      → Takes rules p end (behind_frame (with_intake now j) x) (b ∷ [])
  frame_row frame q (role, Ok next) leads row st none is whole = record {
    passage = q;
    leads = leads;
    role = row.role;
    frames = frame ∷ [];
    each = (subst IsFrame (sym is) whole, tt);
    came = row.logs ∙ ap (λ ms. p.came ++ on_leg end.leg ms)
        (sym (append-nil (message_in end.pipe frame)));
    put = row.put;
    cut = λ fr. record {
      rest = [];
      joined = sym is ∙ sym (append-nil frame) ∙ sym (append-nil (frame ++ []));
      left = λ h. sym none;
      stage = λ h. st;
    };
    leg = leg_is;
    pipe = pipe_is;
    held = λ fr. nothing_held j.held none;
  }
  frame_row frame q (role, Err why) leads row st none is whole =
      no_frame q _ leads row.role row.logs row.put (λ fr. all_left (with_intake now j) role _)
      refl refl (λ fr. nothing_held j.held none)

  -- where the leg stops
  stops_here : (why : Stop) → j.stage ≡ stage.Shut
      → Takes rules p end (stops (with_intake now j) p.role why) (b ∷ [])
  stops_here why st =
      no_frame p _ (leads_none rules p) refl refl refl
      (λ fr. all_left (with_intake now j) p.role why) refl refl (λ fr. absurd cc)

  -- a head that a row took or refused
  head_row_is : (text : List ℕ) (q : Passage S) (x : S × Result HeadTaken HeadRefused)
      → Leads rules p q → q.role ≡ x.0 → q.came ≡ p.came → q.put ≡ p.put
      → (end.intake.stage ≡ stage.Frames → ⊥) → j.held ≡ []
      → Takes rules p end
      (behind_head (with_intake now j) (head_row now.leg (length text) x)) (b ∷ [])
  head_row_is text q (role, Ok taken) leads is came put apart none =
      no_frame q _ leads is came put (λ fr. absurd (apart fr)) refl refl
      (λ fr. nothing_held j.held none)
  head_row_is text q (role, Err why) leads is came put apart none =
      no_frame q _ leads is came put (λ fr. absurd (apart fr)) refl refl
      (λ fr. nothing_held j.held none)

  -- a greeting that is right or wrong
  greeting_is : (text : List ℕ) (t : Bool) (why : Stop) (next : NearEnd)
      → next.leg ≡ now.leg → next.pipe ≡ now.pipe → next.intake.held ≡ j.held
      → (end.intake.stage ≡ stage.Frames → ⊥) → j.held ≡ []
      → Takes rules p end
      (cond t (goes next p.role) (stops (with_intake now j) p.role why)) (b ∷ [])
  greeting_is text true why next leg pipe same apart none =
      no_frame p _ (leads_none rules p) refl refl refl (λ fr. absurd (apart fr)) leg pipe
      (λ fr. nothing_held next.intake.held (same ∙ none))
  greeting_is text false why next leg pipe same apart none =
      no_frame p _ (leads_none rules p) refl refl refl (λ fr. absurd (apart fr)) refl refl
      (λ fr. nothing_held j.held none)

  -- nothing is whole
  nothing_is : ByteIs end.intake all j Nothing
      → Takes rules p end (goes (with_intake now j) p.role) (b ∷ [])
  nothing_is is =
      no_frame p _ (leads_none rules p) refl refl refl
      (λ fr. record {
        rest = all;
        joined = refl;
        left = λ h. sym (is.0 fr).1;
        stage = λ h. (is.0 fr).0;
      }) refl refl is.1

-- ---- a frame is a packet or a PDU

module _ {S : Type 0} (rules : Rules S) (p : Passage S) (at : Heading)
    (may : IsTrue (is_in_use rules p.role at.leg)) where
  -- the passage behind a frame, and what it logs
  pub record FrameIs (frame : List ℕ) (x : S × Result Count Cause) : Type 0 where
    pub passage : Passage S
    pub leads : Leads rules p passage
    pub row : RowIs p passage at.leg (message_in at.pipe frame) x

  ping_is : (frame : List ℕ) (t : Bool) (why : Cause) → message_in at.pipe frame ≡ []
      → FrameIs frame (p.role, cond {A = Result Count Cause} t (Err why) (Ok at.count))
  ping_is frame true why none = record {
    passage = p;
    leads = leads_none rules p;
    row = record { role = refl; put = refl; logs = refl };
  }
  ping_is frame false why none = record {
    passage = p;
    leads = leads_none rules p;
    row = record { role = refl; put = refl; logs = rw none (sym (append-nil p.came)) };
  }

  named_is : (frame : List ℕ) (named : Named) (t : Bool)
      → message_in at.pipe frame ≡ cond t [] (Packet named ∷ [])
      → FrameIs frame (cond {A = S × Result Count Cause} t (p.role, take_ping at)
      (close_row at (one_more at.count) (rules.packet p.role at.leg at.count named)))
  named_is frame named true is =
      ping_is frame (is_zero at.count && is_upward at.pipe) _ is
  named_is frame named false is = record {
    passage = moved rules p (PacketCame at.leg at.count named);
    leads = leads_one rules p (PacketCame at.leg at.count named) may;
    row = rw is
        (row_is p at.leg (Packet named) at (one_more at.count)
        (rules.packet p.role at.leg at.count named));
  }

  packet_is : (frame : List ℕ) (r : Result Named PacketFault)
      → message_in at.pipe frame ≡ named_messages r → FrameIs frame (take_packet rules at p.role r)
  packet_is frame (Ok named) is = named_is frame named (is_ping named) is
  packet_is frame (Err fault) is = record {
    passage = p;
    leads = leads_none rules p;
    row = record { role = refl; put = refl; logs = refl };
  }

  kind_is : (frame : List ℕ) (t : Bool) → (slice_index frame 2 == rts) ≡ t → IsFrame frame
      → FrameIs frame (cond {A = S × Result Count Cause} t
      (take_packet rules at p.role (packet_of frame at.pipe))
      (close_row at at.count (rules.pdu p.role at.leg at.count frame)))
  kind_is frame true is whole = packet_is frame (packet_of frame at.pipe) (rw is refl)
  kind_is frame false is whole =
      let apart : slice_index frame 2 ≢ rts = λ e. absurd (grind (arith, nat_tests)) in
      record {
        passage = moved rules p (PduCame at.leg at.count frame);
        leads =
            leads_one rules p (PduCame at.leg at.count frame)
            (may, record { frame = whole; not_rts = apart });
        row = rw is
            (row_is p at.leg (Pdu frame) at at.count (rules.pdu p.role at.leg at.count frame));
      }

  pub frame_taken : (frame : List ℕ) → IsFrame frame
      → FrameIs frame (take_frame rules at p.role frame)
  unfolding take_frame
  frame_taken frame whole = kind_is frame (slice_index frame 2 == rts) refl whole

-- ---- a byte

module _ {S : Type 0} (rules : Rules S) (moment : ℕ) (p : Passage S) (end : NearEnd) (b : ℕ)
    (may : IsTrue (is_in_use rules p.role end.leg)) where
  now : NearEnd
  now = touched end moment

  by_came : (j : Intake) (c : Came) → ByteIs end.intake (end.intake.held ++ b ∷ []) j c
      → Takes rules p end (take rules (with_intake now j) p.role c) (b ∷ [])
  unfolding take now
  by_came j Nothing is = nothing_is rules p end now j b refl refl is
  by_came j (Head text) is =
      head_row_is rules p end now j b refl refl text (moved rules p (HeadCame end.leg text))
      (rules.head p.role end.leg text) (leads_one rules p (HeadCame end.leg text) may)
      refl refl refl is.0 is.1
  by_came j (Greeting text) is =
      greeting_is rules p end now j b refl refl text (is_greeting text) _ _ refl refl refl is.0
      is.1
  by_came j (Frame place frame) is =
      let f = frame_taken rules p (heading (with_intake now j) place) may frame
      (subst IsFrame (sym is.2) is.3) in
      frame_row rules p end now j b refl refl frame f.passage
      (take_frame rules (heading (with_intake now j) place) p.role frame) f.leads f.row is.0 is.1
      is.2 is.3
  by_came j (Fault place fault) is = stops_here rules p end now j b refl refl _ is
  by_came j (Over length) is = stops_here rules p end now j b refl refl _ is

  pub byte_takes : IsHeld end
      → Takes rules p end
      (take rules (with_intake (touched end moment) (on_byte end.intake b).0) p.role
      (on_byte end.intake b).1) (b ∷ [])
  unfolding now
  byte_takes held =
      by_came (on_byte end.intake b).0 (on_byte end.intake b).1 (byte_is end.intake b held)
