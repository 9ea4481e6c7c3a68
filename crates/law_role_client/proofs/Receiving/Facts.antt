-- what is known of a client's OUT channels, by what came on their legs and by what it put
use Rattle.law_order.proofs.Vocabulary.{◌≡◌, ℕ, suc, ◌+◌, ◌≤◌, ◌<◌, Bool, true, List, [], ◌∷◌, ◌++◌, arith, rules, sym, ◌∙◌, AllByRecursion}
use Rattle.law_moves.proofs.Vocabulary.{GREATEST_WINDOW, Cookie, ConnA1, OutR1A3, AckTo, Line, Leg, Message, Text, Pdu, Packet, OnLeg, of_leg, pdu_bytes}
use Rattle.law_moves.proofs.Lemmas.{all_append, each_so}
use Rattle.law_role_client.proofs.Vocabulary.{co}
use Rattle.law_role_client.proofs.Receiving.Windows.{Counts, counts_more, leg_rises}

-- what is seen of an OUT channel; up: its leg came up
pub record Channel : Type 0 where
  pub number : ℕ
  pub cookie : Cookie
  pub up : Bool

pub record Seen : Type 0 where
  pub window : ℕ
  pub line : Line
  pub current : Channel
  pub successor : Channel
  -- an OUT channel is replaced; OUT_R1/A6 came; OUT_R1/A10 came
  pub replaces : Bool
  pub answered : Bool
  pub finished : Bool

-- ---- what is known

-- of the moves
pub record Known : Type 1 where
  -- PDUs come only on legs that came up before
  pub UpFirst : Type 0
  -- the leg of the first channel came up so far
  pub FirstUp : Type 0
  -- a leg comes up with the cookie
  pub Comes : Leg → Cookie → Type 0

-- the successor has the next number; the legs of the channels behind the first one came up
pub record Numbered (window given : ℕ) (current successor : Channel) (replaces answered : Bool)
    : Type 0 where
  pub window_is : given ≡ window
  pub from_one : 1 ≤ current.number
  pub follows : replaces ≡ true → successor.number ≡ suc current.number
  pub later : 2 ≤ current.number → current.up ≡ true
  pub next_up : answered ≡ true → successor.up ≡ true

-- the next channel begins with a whole window; it is there where the current one is over
pub record Lined (window : ℕ) (line : Line) (over : Bool) : Type 0 where
  pub size : line.size ≡ window
  pub told : window ≤ line.current.window.told
  pub next_told : line.has_next ≡ true → line.next.window.told ≡ window
  pub next_held : line.next.window.released ≡ 0
  pub finished : line.finished ≡ over
  pub there : over ≡ true → line.has_next ≡ true

-- the windows count what came
pub record Counted (window : ℕ) (line : Line) (number : ℕ) (came : List OnLeg) : Type 0 where
  pub now : Counts window line.current (pdu_bytes (of_leg (co number) came))
  pub next : Counts window line.next (pdu_bytes (of_leg (co (suc number)) came))

-- the leg came up with the cookie that the channel has
abbrev pub IsRisen : Known → Channel → Type 0
IsRisen known c = c.up ≡ true → known.Comes (co c.number) c.cookie

pub record Risen (known : Known) (current successor : Channel) (replaces : Bool) : Type 0 where
  pub now : IsRisen known current
  pub next : replaces ≡ true → IsRisen known successor
  pub first : known.FirstUp → current.number ≡ 1 → current.up ≡ true

-- CONN/A1 and OUT_R1/A3 tell the window, and acknowledgements go to an out proxy and tell no more
abbrev pub Says : ℕ → OnLeg → Type 0
Says window (leg, Packet (ConnA1 version connection channel size)) = size ≡ window
Says window (leg, Packet (OutR1A3 version connection predecessor channel size)) = size ≡ window
Says window (leg, Packet (AckTo destination received available cookie)) =
    (destination ≡ 3) × (available ≤ window)
Says window one = Unit {0}

-- an acknowledgement is of a channel up to the current one, of which told is all that was told
pub record Acks (Comes : Leg → Cookie → Type 0) (number told : ℕ) (came : List OnLeg)
    (received available : ℕ) (cookie : Cookie) : Type 0 where
  pub channel : ℕ
  pub up : Comes (co channel) cookie
  pub arrived : received ≤ pdu_bytes (of_leg (co channel) came)
  pub window : available ≤ GREATEST_WINDOW
  pub low : channel ≤ number
  pub within : channel ≡ number → received + available ≤ told

abbrev pub IsTold : (Leg → Cookie → Type 0) → ℕ → ℕ → List OnLeg → OnLeg → Type 0
IsTold Comes number told came (leg, Packet (AckTo destination received available cookie)) =
    Acks Comes number told came received available cookie
IsTold Comes number told came one = Unit {0}

-- told is what the current channel told
abbrev pub IsToldBy : Known → Seen → List OnLeg → OnLeg → Type 0
IsToldBy known x came one =
    IsTold known.Comes x.current.number x.line.current.window.told came one

pub record Kept (window : ℕ) (known : Known) (x : Seen) (came put : List OnLeg) : Type 0 where
  pub numbered : Numbered window x.window x.current x.successor x.replaces x.answered
  pub lined : Lined window x.line x.finished
  pub counted : Counted window x.line x.current.number came
  pub risen : Risen known x.current x.successor x.replaces
  pub says : AllByRecursion (Says window) put
  pub up : known.UpFirst → 0 < x.line.current.window.received → x.current.up ≡ true
  pub acks : known.UpFirst → AllByRecursion (IsToldBy known x came) put

-- ---- acknowledgements stay true

pub record Grows (x y : Seen) (came more : List OnLeg) : Type 0 where
  pub arrived : (k : ℕ) → pdu_bytes (of_leg (co k) came) ≤ pdu_bytes (of_leg (co k) more)
  pub number : x.current.number ≤ y.current.number
  pub told : x.current.number ≡ y.current.number
      → x.line.current.window.told ≤ y.line.current.window.told

module _ (known : Known) (x y : Seen) (came more : List OnLeg) (g : Grows x y came more) where
  one_grows : (one : OnLeg) → IsToldBy known x came one → IsToldBy known y more one
  one_grows (leg, Text bytes) h = tt
  one_grows (leg, Pdu bytes) h = tt
  one_grows (leg, Packet (AckTo to received available cookie)) h =
      let k = h.channel in
      record {
        channel = k;
        up = h.up;
        arrived = let before = h.arrived in let rise = g.arrived k in omega (arith, before, rise);
        window = h.window;
        low = let low = h.low in let up = g.number in omega (arith, low, up);
        within = λ e.
            let low = h.low in
            let up = g.number in
            let same : k ≡ x.current.number = omega (arith, low, up, e) in
            let before = h.within same in
            let rise = g.told (sym same ∙ e) in
            omega (arith, before, rise);
      }
  one_grows (leg, Packet named) h = search rules

  pub told_grows : (log : List OnLeg) → AllByRecursion (IsToldBy known x came) log
      → AllByRecursion (IsToldBy known y more) log
  told_grows log all =
      each_so (IsToldBy known x came) (IsToldBy known y more) one_grows log all

-- ---- a message more

more_came : (x : Seen) (came : List OnLeg) (one : OnLeg) → Grows x x came (came ++ one ∷ [])
more_came x came one = record {
  arrived = λ k. leg_rises (co k) came one;
  number = omega arith;
  told = λ e. omega arith;
}

counted_more : (window : ℕ) (line : Line) (number : ℕ) (came : List OnLeg) (one : OnLeg)
    → Counted window line number came → Counted window line number (came ++ one ∷ [])
counted_more window line number came one h = record {
  now = counts_more window line.current (pdu_bytes (of_leg (co number) came))
      (pdu_bytes (of_leg (co number) (came ++ one ∷ []))) (leg_rises (co number) came one) h.now;
  next = counts_more window line.next (pdu_bytes (of_leg (co (suc number)) came))
      (pdu_bytes (of_leg (co (suc number)) (came ++ one ∷ [])))
      (leg_rises (co (suc number)) came one) h.next;
}

module _ (window : ℕ) (known : Known) (x : Seen) (came put : List OnLeg)
    (h : Kept window known x came put) where
  pub kept_more : (one : OnLeg) → Kept window known x (came ++ one ∷ []) put
  kept_more one = record {
    numbered = h.numbered;
    lined = h.lined;
    counted = counted_more window x.line x.current.number came one h.counted;
    risen = h.risen;
    says = h.says;
    up = h.up;
    acks = λ is.
        told_grows known x x came (came ++ one ∷ []) (more_came x came one) put (h.acks is);
  }

  -- a message is put, which says what it should
  pub kept_put : (one : OnLeg) → Says window one → (known.UpFirst → IsToldBy known x came one)
      → Kept window known x came (put ++ one ∷ [])
  kept_put one says is_told = record {
    numbered = h.numbered;
    lined = h.lined;
    counted = h.counted;
    risen = h.risen;
    says = all_append (Says window) put (one ∷ []) h.says (says, tt);
    up = h.up;
    acks = λ is.
        all_append (IsToldBy known x came) put (one ∷ []) (h.acks is) (is_told is, tt);
  }

  -- the leg of the first channel came up so far
  pub kept_up : (Is : Type 0) → (Is → x.current.number ≡ 1 → x.current.up ≡ true)
      → Kept window (record known { FirstUp = Is }) x came put
  kept_up Is first = record {
    numbered = h.numbered;
    lined = h.lined;
    counted = h.counted;
    risen = record { now = h.risen.now; next = h.risen.next; first = first };
    says = h.says;
    up = h.up;
    acks = h.acks;
  }

-- messages of which nothing is known but that they tell and acknowledge nothing
abbrev pub IsQuiet : Message → Type 0
IsQuiet (Packet (ConnA1 version connection channel size)) = ⊥
IsQuiet (Packet (OutR1A3 version connection predecessor channel size)) = ⊥
IsQuiet (Packet (AckTo destination received available cookie)) = ⊥
IsQuiet message = Unit {0}

quiet_says : (window : ℕ) (leg : Leg) (m : Message) → IsQuiet m → Says window (leg, m)
quiet_says window leg (Text bytes) is = tt
quiet_says window leg (Pdu bytes) is = tt
quiet_says window leg (Packet named) is = search rules

quiet_told : (known : Known) (x : Seen) (came : List OnLeg) (leg : Leg) (m : Message) → IsQuiet m
    → IsToldBy known x came (leg, m)
quiet_told known x came leg (Text bytes) is = tt
quiet_told known x came leg (Pdu bytes) is = tt
quiet_told known x came leg (Packet named) is = search rules

pub quiet_put : (window : ℕ) (known : Known) (x : Seen) (came put : List OnLeg) (leg : Leg)
    (m : Message) → IsQuiet m → Kept window known x came put
    → Kept window known x came (put ++ (leg, m) ∷ [])
quiet_put window known x came put leg m is h =
    kept_put window known x came put h (leg, m) (quiet_says window leg m is)
    (λ so. quiet_told known x came leg m is)
