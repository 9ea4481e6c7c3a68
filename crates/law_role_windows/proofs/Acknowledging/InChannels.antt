-- the IN channels that an in proxy reads, and what came on their legs
use Rattle.rh_window.specs.Receiving as windows
use Rattle.law_order.proofs.Vocabulary.{◌≡◌, ℕ, ◌+◌, ◌-◌, ◌≤◌, Bool, true, false, true≢false, ◌&&◌, List, [], ◌∷◌, ◌++◌, length, Some, None, Ok, Err, arith, refl, sym, ap, ◌∙◌, subst, and_parts, nat_tests, if◌then◌else◌, IfSome, is_ok, nat_le, Option, Result}
use Rattle.rh_line.specs.Lines as line
use Rattle.rh_inproxy.specs.declared.state.ClientLeg.{ClientLeg}
use Rattle.rh_inproxy.specs.declared.state.Successor.{Successor}
use Rattle.rh_inproxy.specs.declared.state.Successor.TheVariants.{Absent, Up, Joined}
use Rattle.rh_inproxy.specs.State.{is_joined, follows}
use Rattle.law_moves.proofs.Vocabulary.{IsWindow, Ack, WindowExceeded, by_test, Cookie, each_push, total_push, Line, Incoming, total, Over, Due, Message, OnLeg, of_leg, pdu_bytes, HasBegunIn}
use Rattle.law_role_client.proofs.Receiving.Windows.{leg_rises}
use Rattle.law_role_windows.proofs.Acknowledging.Legs.{leg_begun}
use Rattle.law_role_windows.proofs.Acknowledging.Waiting.{EachIs}
use Rattle.law_role_windows.proofs.Acknowledging.InAcks.{IsNextNumber, IsTold, IsAck, AreAcks, IsOther, acks_more, acks_so}
use Rattle.law_role_windows.specs.Acknowledging.Acks.{ci_leg as ci, OfPacket, IsTrueOn}

-- ---- a channel counts no more than came on its leg, and told its window

pub record Counts (window : ℕ) (c : Incoming) (messages : List Message) : Type 0 where
  pub received : c.window.received ≤ pdu_bytes messages
  pub told : window ≤ c.window.told
  pub counted : c.window.released + total c.pdus ≡ c.window.received
  pub size : c.window.size ≡ window

pub counts_more : (window : ℕ) (c : Incoming) (a b : List Message)
    → pdu_bytes a ≤ pdu_bytes b → Counts window c a → Counts window c b
counts_more window c a b more h = record {
  received = let before = h.received in omega (arith, before, more);
  told = h.told;
  counted = h.counted;
  size = h.size;
}

pub admitted_counts : (window : ℕ) (c : Incoming) (pdu : List ℕ) (a b : List Message)
    → pdu_bytes b ≡ pdu_bytes a + length pdu → Counts window c a
    → Counts window (line.admitted c pdu) b
admitted_counts window c pdu a b more h =
    by c.ended (nat_le (c.window.received + length pdu) c.window.told)
  where
    exceeded : WindowExceeded
    exceeded = record { reached = c.window.received + length pdu; edge = c.window.told }

    verdict : Bool → Result (Unit {0}) WindowExceeded
    verdict t = if t then Ok tt else Err exceeded

    now : Bool → Bool → Incoming
    now e t =
        if is_ok (if e then Err Over else line.by_window (verdict t))
        then record c {
          pdus = c.pdus ++ pdu ∷ [];
          window =
              if is_ok (verdict t)
              then record (c.window) { received = c.window.received + length pdu }
              else c.window;
        }
        else c

    same : Counts window c b
    same = counts_more window c a b (omega (arith, more)) h

    by : (e t : Bool) → Counts window (now e t) b
    by true t = same
    by false true =
        let before = h.received in
        let counted = h.counted in
        let push = total_push c.pdus pdu in
        record {
          received = omega (arith, before, more);
          told = h.told;
          counted = omega (arith, counted, push);
          size = h.size;
        }
    by false false = same

pub released_counts : (window : ℕ) (c : Incoming) (pdus : List (List ℕ)) (ms : List Message)
    → c.pdus ≡ pdus → Counts window c ms → Counts window (line.released pdus c) ms
released_counts window c [] ms is h = h
released_counts window c (pdu ∷ pdus) ms is h =
    let counted =
    subst (λ (all : List (List ℕ)). c.window.released + total all ≡ c.window.received) is
    h.counted in
    record {
      received = h.received;
      told = h.told;
      counted = omega (arith, counted);
      size = h.size;
    }

-- another edge is told, which is no lower
pub told_counts : (window : ℕ) (c : Incoming) (ack : Ack) (ms : List Message)
    → c.window.told ≤ ack.received + ack.available → Counts window c ms
    → Counts window (line.with_window c (windows.after_told c.window ack)) ms
told_counts window c ack ms rises h = record {
  received = h.received;
  told = let before = h.told in omega (arith, before, rises);
  counted = h.counted;
  size = h.size;
}

-- ---- an acknowledgement that is due is true, tells more, and no more than the window

abbrev pub IsDue : ℕ → Incoming → List Message → Cookie → Ack → Type 0
IsDue window c ms cookie ack =
    IsTrueOn ms ack.received ack.available cookie
    × (c.window.told ≤ ack.received + ack.available) × (ack.available ≤ window)

pub due_is : (window : ℕ) (c : Incoming) (ms : List Message) (cookie : Cookie)
    → IsWindow window → Counts window c ms → HasBegunIn cookie ms
    → IfSome (windows.due c.window) (IsDue window c ms cookie)
due_is window c ms cookie is h begun =
    by_test (λ (o : Option Ack). IfSome o (IsDue window c ms cookie)) (windows.is_due c.window)
    (Some (record {
      received = c.window.received;
      available = windows.edge_of c.window - c.window.received;
    }))
    None
    (λ e. (
      record {
        begun = begun;
        came = h.received;
        window =
            let counted = h.counted in
            let size = h.size in
            let greatest = is.greatest in
            omega (arith, counted, size, greatest);
      },
      grind (arith, nat_tests, e),
      let counted = h.counted in let size = h.size in omega (arith, counted, size),
    ))
    (λ e. tt)

-- ---- the channels of an in proxy

abbrev pub IsChannel : ℕ → ClientLeg → Incoming → List OnLeg → Type 0
IsChannel window leg c came =
    Counts window c (of_leg (ci leg.number) came)
    × HasBegunIn leg.cookie (of_leg (ci leg.number) came)

-- the channel behind the current one, where there is one
abbrev pub IsBehind : ℕ → Successor → Incoming → List OnLeg → Type 0
IsBehind window (Joined leg stage) c came = IsChannel window leg c came
IsBehind window (Up number) c came = Unit {0}
IsBehind window Absent c came = Unit {0}

-- what was told of both
abbrev pub WasTold : Line → ClientLeg → Successor → ℕ → ℕ → Type 0
WasTold l current z = IsTold current.number l.current.window.told z l.next.window.told

pub record Channels (window : ℕ) (l : Line) (current : ClientLeg) (successor : Successor)
    (came put : List OnLeg) : Type 0 where
  pub size : l.size ≡ window
  pub there : l.has_next ≡ is_joined successor
  pub finished : l.finished ≡ true → l.has_next ≡ true
  pub number : IsNextNumber current.number successor
  pub now : Counts window l.current (of_leg (ci current.number) came)
  pub behind : IsBehind window successor l.next came
  pub acks : AreAcks window came (WasTold l current successor) put

-- before the first packet nothing came; behind it the current channel has begun
pub record Tells (window : ℕ) (opened : Bool) (l : Line) (current : ClientLeg)
    (successor : Successor) (dues : List Due) (came put : List OnLeg) : Type 0 where
  pub channels : Channels window l current successor came put
  pub shut : opened ≡ false → l ≡ line.first_line window
  pub begun : opened ≡ true → HasBegunIn current.cookie (of_leg (ci current.number) came)
  pub others : EachIs IsOther dues

-- ---- more came

channel_more : (window : ℕ) (leg : ClientLeg) (c : Incoming) (came : List OnLeg) (one : OnLeg)
    → IsChannel window leg c came → IsChannel window leg c (came ++ one ∷ [])
channel_more window leg c came one h = (
  counts_more window c (of_leg (ci leg.number) came)
      (of_leg (ci leg.number) (came ++ one ∷ [])) (leg_rises (ci leg.number) came one) h.0,
  leg_begun (ci leg.number) leg.cookie came one h.1,
)

behind_more : (window : ℕ) (z : Successor) (c : Incoming) (came : List OnLeg) (one : OnLeg)
    → IsBehind window z c came → IsBehind window z c (came ++ one ∷ [])
behind_more window (Joined leg stage) c came one h = channel_more window leg c came one h
behind_more window (Up number) c came one h = tt
behind_more window Absent c came one h = tt

channels_more : (window : ℕ) (l : Line) (current : ClientLeg) (z : Successor)
    (came put : List OnLeg) (one : OnLeg) → Channels window l current z came put
    → Channels window l current z (came ++ one ∷ []) put
channels_more window l current z came put one h = record {
  size = h.size;
  there = h.there;
  finished = h.finished;
  number = h.number;
  now = counts_more window l.current (of_leg (ci current.number) came)
      (of_leg (ci current.number) (came ++ one ∷ [])) (leg_rises (ci current.number) came one)
      h.now;
  behind = behind_more window z l.next came one h.behind;
  acks = acks_more window came one (WasTold l current z) put h.acks;
}

pub tells_more : (window : ℕ) (opened : Bool) (l : Line) (current : ClientLeg) (z : Successor)
    (dues : List Due) (came put : List OnLeg) (one : OnLeg)
    → Tells window opened l current z dues came put
    → Tells window opened l current z dues (came ++ one ∷ []) put
tells_more window opened l current z dues came put one h = record {
  channels = channels_more window l current z came put one h.channels;
  shut = h.shut;
  begun = λ e. leg_begun (ci current.number) current.cookie came one (h.begun e);
  others = h.others;
}

-- one more was put
pub channels_put : (window : ℕ) (l : Line) (current : ClientLeg) (z : Successor)
    (came put : List OnLeg) (one : OnLeg) → OfPacket (IsAck window came (WasTold l current z)) one
    → Channels window l current z came put → Channels window l current z came (put ++ one ∷ [])
channels_put window l current z came put one is h = record {
  size = h.size;
  there = h.there;
  finished = h.finished;
  number = h.number;
  now = h.now;
  behind = h.behind;
  acks = each_push (OfPacket (IsAck window came (WasTold l current z))) put one h.acks is;
}

-- ---- a channel that nobody began

pub opened_joined : (window : ℕ) (opened : Bool) (l : Line) (current : ClientLeg) (z : Successor)
    (dues : List Due) (came put : List OnLeg) → is_joined z ≡ true
    → Tells window opened l current z dues came put → opened ≡ true
opened_joined window true l current z dues came put is h = refl
opened_joined window false l current z dues came put is h =
    absurd (true≢false (sym is ∙ (sym h.channels.there
    ∙ ap (λ (k : Line). k.has_next) (h.shut refl))))

pub opened_held : (window : ℕ) (opened : Bool) (l : Line) (current : ClientLeg) (z : Successor)
    (dues : List Due) (came put : List OnLeg) (pdu : List ℕ) (pdus : List (List ℕ))
    → l.current.pdus ≡ pdu ∷ pdus → Tells window opened l current z dues came put
    → opened ≡ true
opened_held window true l current z dues came put pdu pdus is h = refl
opened_held window false l current z dues came put pdu pdus is h =
    absurd (true≢false (sym (ap line.is_empty (sym is
    ∙ ap (λ (k : Line). k.current.pdus) (h.shut refl)))))

pub first_due : (window : ℕ) (P : Ack → Type 0)
    → IfSome (windows.due (windows.opened window)) P
first_due window P =
    by_test (λ (o : Option Ack). IfSome o P) (windows.is_due (windows.opened window)) _ None
    (λ e. absurd (grind (arith, nat_tests, e))) (λ e. tt)

-- what is due for the current channel is true, and tells more
pub current_due : (window : ℕ) (opened : Bool) (l : Line) (current : ClientLeg) (z : Successor)
    (dues : List Due) (came put : List OnLeg) → IsWindow window
    → Tells window opened l current z dues came put
    → IfSome (windows.due l.current.window)
    (IsDue window l.current (of_leg (ci current.number) came) current.cookie)
current_due window true l current z dues came put is h =
    due_is window l.current (of_leg (ci current.number) came) current.cookie is h.channels.now
    (h.begun refl)
current_due window false l current z dues came put is h =
    subst (λ (k : Line).
    IfSome (windows.due k.current.window) (IsDue window k.current ms current.cookie))
    (sym (h.shut refl))
    (first_due window (IsDue window (line.first_line window).current ms current.cookie))
  where
    ms : List Message
    ms = of_leg (ci current.number) came

-- ---- the next channel becomes current

-- where it does not, nothing changes
same_channels : (window : ℕ) (l : Line) (current : ClientLeg) (z : Successor)
    (came put : List OnLeg) → Channels window l current z came put
    → Channels window l (follows l.has_next current z).0 (follows l.has_next current z).1 came put
same_channels window l current z came put h = by l.has_next z h.there h
  where
    by : (b : Bool) (y : Successor) → b ≡ is_joined y → Channels window l current y came put
        → Channels window l (follows b current y).0 (follows b current y).1 came put
    by true Absent e k = absurd (true≢false e)
    by true (Up number) e k = absurd (true≢false e)
    by true (Joined leg stage) e k = k
    by false Absent e k = k
    by false (Up number) e k = k
    by false (Joined leg stage) e k = absurd (true≢false (sym e))

pub moved_channels : (window : ℕ) (l : Line) (current : ClientLeg) (z : Successor)
    (came put : List OnLeg) → Channels window l current z came put
    → Channels window (line.settled l) (follows (line.settled l).has_next current z).0
    (follows (line.settled l).has_next current z).1 came put
moved_channels window l current z came put h =
    by_test To (l.finished && line.is_empty l.current.pdus) (line.moved_on l) l
    (λ e. moves z (sym h.there
    ∙ h.finished (and_parts l.finished (line.is_empty l.current.pdus) e).0) h)
    (λ e. same_channels window l current z came put h)
  where
    To : Line → Type 0
    To m =
        Channels window m (follows m.has_next current z).0 (follows m.has_next current z).1 came
        put

    moves : (y : Successor) → is_joined y ≡ true → Channels window l current y came put
        → Channels window (line.moved_on l) (follows false current y).0
        (follows false current y).1 came put
    moves Absent e k = absurd (true≢false (sym e))
    moves (Up number) e k = absurd (true≢false (sym e))
    moves (Joined leg stage) e k = record {
      size = k.size;
      there = refl;
      finished = λ f. absurd (true≢false (sym f));
      number = tt;
      now = k.behind.0;
      behind = tt;
      acks = acks_so window came (WasTold l current (Joined leg stage))
          (WasTold (line.moved_on l) leg Absent) (λ m edge is. (is.0, is.2)) put k.acks;
    }

pub moved_begun : (window : ℕ) (b : Bool) (current : ClientLeg) (z : Successor) (c : Incoming)
    (came : List OnLeg) → IsBehind window z c came
    → HasBegunIn current.cookie (of_leg (ci current.number) came)
    → HasBegunIn (follows b current z).0.cookie (of_leg (ci (follows b current z).0.number) came)
moved_begun window true current z c came behind begun = begun
moved_begun window false current Absent c came behind begun = begun
moved_begun window false current (Up number) c came behind begun = begun
moved_begun window false current (Joined leg stage) c came behind begun = behind.1

-- the first PDU is taken
pub taken_channels : (window : ℕ) (l : Line) (current : ClientLeg) (z : Successor)
    (came put : List OnLeg) (pdus : List (List ℕ)) → l.current.pdus ≡ pdus
    → Channels window l current z came put
    → Channels window (line.taken pdus l) (follows (line.taken pdus l).has_next current z).0
    (follows (line.taken pdus l).has_next current z).1 came put
taken_channels window l current z came put [] is h =
    same_channels window l current z came put h
taken_channels window l current z came put (pdu ∷ pdus) is h =
    moved_channels window (record l { current = line.released (pdu ∷ pdus) l.current }) current z
    came put
    (record {
      size = h.size;
      there = h.there;
      finished = h.finished;
      number = h.number;
      now = released_counts window l.current (pdu ∷ pdus) (of_leg (ci current.number) came) is
          h.now;
      behind = h.behind;
      acks = h.acks;
    })
