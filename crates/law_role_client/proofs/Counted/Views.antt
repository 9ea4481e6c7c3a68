-- what the replacements at a client read and change, and what may happen to it
use Rattle.law_order.proofs.Vocabulary.{◌≡◌, ◌⊎◌, Some, ℕ, ◌+◌, nat_lt, Bool, true, false, if◌then◌else◌, List, [], ◌∷◌, ◌++◌, refl}
use Rattle.rh_shell.specs.declared.answers.Phase.TheVariants as phase
use Rattle.rh_client.specs.declared.replacement.InStage.TheVariants as in_stage
use Rattle.rh_client.specs.declared.replacement.OutStage.TheVariants as out_stage
use Rattle.rh_client.specs.declared.replacement.Waits.TheVariants as waits
use Rattle.law_moves.proofs.Vocabulary.{Ack, Cookie, ConnA1, ConnB1, InR1A1, InR1A5, OutR1A3, OutR1A7, PROTOCOL_VERSION, Line, due, after_take, after_told, ClientOut, ClientIn, Which, Current, Next, Phase, Message, Packet, is_of, OnLeg, HasBegunIn, HasBegunOut}
use Rattle.law_moves.proofs.Lemmas.{Fact}
use Rattle.law_role_client.proofs.Vocabulary.{LAST_NUMBER, Replacement, NoneUnderWay, In, Out, InStage, OutStage, Waits, ClientRole, no_cookie, is_put, is_asked, has_out, with_in, with_out, is_opening, is_open, is_conn_a1, is_conn_b1, is_conn_c2, is_in_r1_a1, is_in_a4, is_in_r1_a5, is_out_r1_a2, is_out_r1_a3, is_out_r1_a6, is_out_r1_a7, is_out_r1_a10, is_greeting}
use Rattle.law_role_client.proofs.Counted.Standing.{passes}

-- ---- how far a replacement is

pub data Way : Type 0 where
  Free : Way
  InIsAsked : Way
  InIsAnswered : Way
  OutIsAsked : Way
  OutIsAnswered : Way
  OutIsSwitched : Way
  OutIsFinished : Way

abbrev pub in_way : InStage → Way
in_way in_stage.Asked = InIsAsked
in_way in_stage.Answered = InIsAnswered

abbrev pub out_way : OutStage → Way
out_way out_stage.Asked = OutIsAsked
out_way out_stage.Answered = OutIsAnswered
out_way out_stage.Switched = OutIsSwitched
out_way out_stage.Finished = OutIsFinished

abbrev pub way_of : Replacement → Way
way_of NoneUnderWay = Free
way_of (In stage out_waits) = in_way stage
way_of (Out stage waiting) = out_way stage

abbrev pub is_in_way : Way → Bool
is_in_way InIsAsked = true
is_in_way InIsAnswered = true
is_in_way way = false

abbrev pub is_out_way : Way → Bool
is_out_way OutIsAsked = true
is_out_way OutIsAnswered = true
is_out_way OutIsSwitched = true
is_out_way OutIsFinished = true
is_out_way way = false

-- ---- what waits behind it

abbrev pub out_if : Bool → Waits
out_if true = waits.Out
out_if false = waits.Nothing

abbrev pub waits_of : Replacement → Waits
waits_of NoneUnderWay = waits.Nothing
waits_of (In stage out_waits) = out_if out_waits
waits_of (Out stage waiting) = waiting

abbrev pub has_in : Waits → Bool
has_in waits.Nothing = false
has_in waits.In = true
has_in waits.Out = false
has_in waits.InThenOut = true
has_in waits.OutThenIn = true

-- that of an IN channel goes first
abbrev pub is_in_first : Waits → Bool
is_in_first waits.Nothing = false
is_in_first waits.In = true
is_in_first waits.Out = false
is_in_first waits.InThenOut = true
is_in_first waits.OutThenIn = false

pub first_is_in : (x : Waits) → is_in_first x ≡ true → has_in x ≡ true
first_is_in waits.Nothing e = e
first_is_in waits.In e = e
first_is_in waits.Out e = e
first_is_in waits.InThenOut e = e
first_is_in waits.OutThenIn e = refl

-- what waits once that of an OUT channel begins
abbrev pub behind_out : Waits → Waits
behind_out waits.Nothing = waits.Nothing
behind_out waits.In = waits.Nothing
behind_out waits.Out = waits.Nothing
behind_out waits.InThenOut = waits.Nothing
behind_out waits.OutThenIn = waits.In

-- ---- a view of a client

pub record View : Type 0 where
  pub phase : Phase
  pub writing : ℕ
  pub in_successor : ℕ
  -- IN_R1/A1 was put there
  pub in_asked : Bool
  pub current : ℕ
  pub out_successor : ℕ
  -- OUT_R1/A3 was
  pub out_asked : Bool
  pub way : Way
  pub waiting : Waits
  -- END/A1 was put on the writing channel
  pub end_put : Bool
  -- what came, and is not taken
  pub line : Line
  -- the cookies of the four channels; the first packet of the writing and of the current one was
  -- put
  pub connection : Cookie
  pub writing_cookie : Cookie
  pub writing_begun : Bool
  pub in_cookie : Cookie
  pub current_cookie : Cookie
  pub current_begun : Bool
  pub out_cookie : Cookie

abbrev pub view_by : ClientRole → Replacement → View
view_by s r = record {
  phase = s.phase;
  writing = s.writing.number;
  in_successor = s.in_successor.number;
  in_asked = is_put s.in_successor.opening;
  current = s.current.number;
  out_successor = s.out_successor.number;
  out_asked = is_asked s.out_successor.opening;
  way = way_of r;
  waiting = waits_of r;
  end_put = s.writing.is_end_put;
  line = s.line;
  connection = s.config.connection;
  writing_cookie = s.writing.cookie;
  writing_begun = is_put s.writing.opening;
  in_cookie = s.in_successor.cookie;
  current_cookie = s.current.cookie;
  current_begun = is_asked s.current.opening;
  out_cookie = s.out_successor.cookie;
}

abbrev pub view : ClientRole → View
view s = view_by s s.replacement

-- the newest OUT channel
abbrev pub newest_out : View → ℕ
newest_out v = if is_out_way v.way then v.out_successor else v.current

-- ---- which packet of a replacement a message is

pub record Marks : Type 0 where
  pub begins_in : Bool
  pub begins_out : Bool
  pub opens : Bool
  pub asks_in : Bool
  pub answers_in : Bool
  pub hands_over : Bool
  pub wants_out : Bool
  pub asks_out : Bool
  pub answers_out : Bool
  pub switches : Bool
  pub finishes : Bool

abbrev pub marks : Message → Marks
marks m = record {
  begins_in = passes is_conn_b1 m;
  begins_out = passes is_conn_a1 m;
  opens = passes is_conn_c2 m;
  asks_in = passes is_in_r1_a1 m;
  answers_in = passes is_in_a4 m;
  hands_over = passes is_in_r1_a5 m;
  wants_out = passes is_out_r1_a2 m;
  asks_out = passes is_out_r1_a3 m;
  answers_out = passes is_out_r1_a6 m;
  switches = passes is_out_r1_a7 m;
  finishes = passes is_out_r1_a10 m;
}

-- it is none of them
abbrev pub unmarked : Marks
unmarked = record {
  begins_in = false;
  begins_out = false;
  opens = false;
  asks_in = false;
  answers_in = false;
  hands_over = false;
  wants_out = false;
  asks_out = false;
  answers_out = false;
  switches = false;
  finishes = false;
}

-- ---- what may happen

abbrev pub IsGreeting : OnLeg → Type 0
IsGreeting (leg, m) = is_of ClientIn leg ≡ true → is_greeting m ≡ true

-- CONN/A1 and CONN/B1 are of the connection
abbrev pub Names : Cookie → Message → Type 0
Names connection (Packet (ConnA1 version of channel window)) = of ≡ connection
Names connection (Packet (ConnB1 version of channel lifetime keepalive group)) = of ≡ connection
Names connection message = Unit {0}

-- the client is open, or replaces an OUT channel
abbrev pub IsPast : View → Type 0
IsPast v = (is_open v.phase ≡ true) ⊎ (is_out_way v.way ≡ true)

abbrev pub IsDue : View → Which → Ack → Type 0
IsDue v Current ack = due v.line Current ≡ Some ack
IsDue v Next ack = v.line.has_next ≡ true

-- each of these keeps the fact
pub record EventsKeep (P : Fact View) : Type 0 where
  -- another message comes, or is put: before the client is open, on IN channels, what these begin
  -- with
  pub comes : (v : View) (came put : List OnLeg) (one : OnLeg) → marks one.1 ≡ unmarked
      → P v came put → P v (came ++ one ∷ []) put
  pub goes : (v : View) (came put : List OnLeg) (one : OnLeg) → marks one.1 ≡ unmarked
      → (is_opening v.phase ≡ true → IsGreeting one) → P v came put → P v came (put ++ one ∷ [])
  -- the line changes, also by a take, and where it has an acknowledgement put
  pub fills : (v : View) (line : Line) (came put : List OnLeg) → IsPast v → P v came put
      → P (record v { line = line }) came put
  pub takes : (v : View) (came put : List OnLeg) → P v came put
      → P (record v { line = after_take v.line }) came put
  pub acks : (v : View) (which : Which) (ack : Ack) (came put : List OnLeg) (one : OnLeg)
      → marks one.1 ≡ unmarked → IsDue v which ack → P v came put
      → P (record v { line = after_told v.line which ack }) came (put ++ one ∷ [])
  -- the client opens, puts END/A1, and ends
  pub opens : (v : View) (came put : List OnLeg) (one : OnLeg)
      → marks one.1 ≡ record unmarked { opens = true } → one.0.kind ≡ ClientOut
      → is_opening v.phase ≡ true → P v came put
      → P (record v { phase = phase.Open }) (came ++ one ∷ []) put
  pub closes : (v : View) (came put : List OnLeg) → is_open v.phase ≡ true → P v came put
      → P (record v { end_put = true }) came put
  pub ends : (v : View) (came put : List OnLeg) → v.end_put ≡ true
      → P (record v { way = Free }) came put
      → P (record v { phase = phase.Ended; way = Free; waiting = waits.Nothing }) came put
  -- a leg is up: there is one successor at most, and it has another number
  pub ups_writing : (v : View) (cookie : Cookie) (came put : List OnLeg)
      → (v.writing_begun ≡ false) ⊎ ((is_in_way v.way ≡ true) × (v.in_successor ≡ v.writing))
      → P v came put
      → P (record v { writing_begun = false; writing_cookie = cookie }) came put
  pub ups_in : (v : View) (cookie : Cookie) (came put : List OnLeg)
      → P (record v { in_asked = false }) came put
      → P (record v { in_asked = false; in_cookie = cookie }) came put
  pub ups_current : (v : View) (cookie : Cookie) (came put : List OnLeg)
      → (v.current_begun ≡ false) ⊎ ((is_out_way v.way ≡ true) × (v.out_successor ≡ v.current))
      → P v came put
      → P (record v { current_begun = false; current_cookie = cookie }) came put
  pub ups_out : (v : View) (cookie : Cookie) (came put : List OnLeg)
      → P (record v { out_asked = false }) came put
      → P (record v { out_asked = false; out_cookie = cookie }) came put
  -- its first packet is put: CONN/B1, CONN/A1
  pub begins_writing : (v : View) (came put : List OnLeg) (one : OnLeg)
      → marks one.1 ≡ record unmarked { begins_in = true } → IsGreeting one
      → Names v.connection one.1 → HasBegunIn v.writing_cookie (one.1 ∷ [])
      → one.0.kind ≡ ClientIn → one.0.number ≡ v.writing
      → P (record v { writing_begun = false }) came put
      → P (record v { writing_begun = true }) came (put ++ one ∷ [])
  pub begins_current : (v : View) (came put : List OnLeg) (one : OnLeg)
      → marks one.1 ≡ record unmarked { begins_out = true } → IsGreeting one
      → Names v.connection one.1 → HasBegunOut v.current_cookie (one.1 ∷ [])
      → one.0.kind ≡ ClientOut → one.0.number ≡ v.current
      → P (record v { current_begun = false }) came put
      → P (record v { current_begun = true }) came (put ++ one ∷ [])
  -- a replacement is wanted
  pub wants_in : (v : View) (came put : List OnLeg) → is_open v.phase ≡ true
      → nat_lt v.writing LAST_NUMBER ≡ true → P v came put
      → P (record v { waiting = with_in v.waiting }) came put
  pub wants_out : (v : View) (came put : List OnLeg) (one : OnLeg)
      → marks one.1 ≡ record unmarked { wants_out = true } → one.0.kind ≡ ClientOut
      → is_open v.phase ≡ true → has_out v.waiting ≡ false
      → nat_lt (newest_out v) LAST_NUMBER ≡ true → P v came put
      → P (record v { waiting = with_out v.waiting }) (came ++ one ∷ []) put
  -- it begins, or is dropped, since the channel has the last number
  pub begins_in : (v : View) (came put : List OnLeg) → is_in_first v.waiting ≡ true
      → nat_lt v.writing LAST_NUMBER ≡ true → P (record v { way = Free }) came put
      → P (record v {
        in_successor = v.writing + 1;
        in_asked = false;
        in_cookie = no_cookie;
        way = InIsAsked;
        waiting = out_if (has_out v.waiting);
      }) came put
  pub begins_out : (v : View) (came put : List OnLeg) → has_out v.waiting ≡ true
      → nat_lt v.current LAST_NUMBER ≡ true → P (record v { way = Free }) came put
      → P (record v {
        out_successor = v.current + 1;
        out_asked = false;
        out_cookie = no_cookie;
        way = OutIsAsked;
        waiting = behind_out v.waiting;
      }) came put
  pub drops_in : (v : View) (came put : List OnLeg) → has_in v.waiting ≡ true
      → nat_lt v.writing LAST_NUMBER ≡ false → P (record v { way = Free }) came put
      → P (record v { way = Free; waiting = waits.Nothing }) came put
  pub drops_out : (v : View) (came put : List OnLeg) → has_out v.waiting ≡ true
      → nat_lt v.current LAST_NUMBER ≡ false → P (record v { way = Free }) came put
      → P (record v { way = Free; waiting = waits.Nothing }) came put
  -- an IN channel is replaced
  pub asks_in : (v : View) (came put : List OnLeg) (one : OnLeg)
      → marks one.1 ≡ record unmarked { asks_in = true }
      → one.1 ≡ Packet (InR1A1 PROTOCOL_VERSION v.connection v.writing_cookie v.in_cookie)
      → one.0.kind ≡ ClientIn
      → one.0.number ≡ v.in_successor → is_in_way v.way ≡ true
      → P (record v { in_asked = false }) came put
      → P (record v { in_asked = true }) came (put ++ one ∷ [])
  pub answers_in : (v : View) (came put : List OnLeg) (one : OnLeg)
      → marks one.1 ≡ record unmarked { answers_in = true } → one.0.kind ≡ ClientOut
      → v.in_asked ≡ true → P (record v { way = InIsAsked }) came put
      → P (record v { way = InIsAnswered }) (came ++ one ∷ []) put
  pub hands_over : (v : View) (out_waits end_put : Bool) (came put : List OnLeg) (one : OnLeg)
      → marks one.1 ≡ record unmarked { hands_over = true }
      → one.1 ≡ Packet (InR1A5 v.in_cookie) → one.0.kind ≡ ClientIn
      → one.0.number ≡ v.writing
      → P (record v { way = InIsAnswered; waiting = out_if out_waits }) came put
      → P (record v {
        writing = v.in_successor;
        writing_cookie = v.in_cookie;
        writing_begun = v.in_asked;
        in_successor = 0;
        in_asked = false;
        in_cookie = no_cookie;
        way = Free;
        waiting = out_if out_waits;
        end_put = end_put;
      }) came (put ++ one ∷ [])
  -- an OUT channel is
  pub asks_out : (v : View) (window : ℕ) (came put : List OnLeg) (one : OnLeg)
      → marks one.1 ≡ record unmarked { asks_out = true }
      → one.1
      ≡ Packet (OutR1A3 PROTOCOL_VERSION v.connection v.current_cookie v.out_cookie window)
      → one.0.kind ≡ ClientOut
      → one.0.number ≡ v.out_successor → is_out_way v.way ≡ true
      → P (record v { out_asked = false }) came put
      → P (record v { out_asked = true }) came (put ++ one ∷ [])
  pub answers_out : (v : View) (came put : List OnLeg) (one : OnLeg)
      → marks one.1 ≡ record unmarked { answers_out = true } → one.0.kind ≡ ClientOut
      → one.0.number ≡ v.current → v.out_asked ≡ true
      → P (record v { way = OutIsAsked }) came put
      → P (record v { way = OutIsAnswered }) (came ++ one ∷ []) put
  pub switches : (v : View) (came put : List OnLeg) (one : OnLeg)
      → marks one.1 ≡ record unmarked { switches = true }
      → one.1 ≡ Packet (OutR1A7 2 v.out_cookie) → one.0.kind ≡ ClientIn
      → P (record v { way = OutIsAnswered }) came put
      → P (record v { way = OutIsSwitched }) came (put ++ one ∷ [])
  pub finishes : (v : View) (came put : List OnLeg) (one : OnLeg)
      → marks one.1 ≡ record unmarked { finishes = true } → one.0.kind ≡ ClientOut
      → one.0.number ≡ v.current → P (record v { way = OutIsSwitched }) came put
      → P (record v { way = OutIsFinished }) (came ++ one ∷ []) put
  pub succeeds : (v : View) (came put : List OnLeg)
      → P (record v { way = OutIsFinished }) came put
      → P (record v {
        current = v.out_successor;
        current_cookie = v.out_cookie;
        current_begun = v.out_asked;
        out_successor = 0;
        out_asked = false;
        out_cookie = no_cookie;
        way = Free;
      }) came put
