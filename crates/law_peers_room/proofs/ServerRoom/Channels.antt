-- what is known of the channels of an in proxy, and of what came on them
use Rattle.law_order.proofs.Vocabulary.{◌≡◌, ◌⊎◌, inl, inr, ℕ, suc, ◌≤◌, ◌&&◌, Bool, true, false, true≢false, List, [], ◌∷◌, ◌++◌, length, refl, sym, ap, ◌∙◌, subst, and_parts, AllByRecursion}
use Rattle.rh_line.specs.Lines as line
use Rattle.law_moves.proofs.Vocabulary.{Receiver, by_test, Cookie, Named, AckTo, OutR1A8, Line, Due, OnLeg, of_leg, BeginsIn}
use Rattle.law_moves.proofs.Lemmas.{leg_more}
use Rattle.law_role_inproxy.proofs.Vocabulary.{ClientLeg, InProxyConfig, TellsServer, Told, Follows, Successor, Absent, Up, Joined, is_succeeded, InProxy, has_opened, is_joined, follows, followed, HasPdu, ci}
use Rattle.law_role_inproxy.proofs.Putting.Sounds.{told, HasBegun}
use Rattle.law_role_inproxy.proofs.Putting.Fronts.{came_stays, pdu_more}
use Rattle.law_peers_room.specs.ServerRoom.Acks.{IsUsed}

-- what the facts are about
pub record Seen : Type 0 where
  pub config : InProxyConfig
  pub opened : Bool
  pub has_next : Bool
  pub finished : Bool
  pub current : ClientLeg
  pub successor : Successor
  -- what is held of the current channel and of the next one, and their windows
  pub pdus : List (List ℕ)
  pub window : Receiver
  pub next_pdus : List (List ℕ)
  pub next_window : Receiver
  pub dues : List Due

abbrev pub seen : InProxy → Seen
seen s = record {
  config = s.config;
  opened = has_opened s.opening;
  has_next = s.line.has_next;
  finished = s.line.finished;
  current = s.current;
  successor = s.successor;
  pdus = s.line.current.pdus;
  window = s.line.current.window;
  next_pdus = s.line.next.pdus;
  next_window = s.line.next.window;
  dues = s.waiting.due;
}

abbrev pub Same : InProxy → InProxy → Type 0
Same s t = seen t ≡ seen s

-- ---- what is known

abbrev pub IsUsedLeg : List OnLeg → ClientLeg → Type 0
IsUsedLeg came leg = IsUsed came leg.number leg.cookie

-- no RPC PDU came on a channel, so none was released: no acknowledgement is due
pub record IsIdle (pdus : List (List ℕ)) (window : Receiver) : Type 0 where
  pub none : pdus ≡ []
  pub released : window.released ≡ 0
  pub told : window.size ≤ window.told

-- of the ci leg behind that of the current channel
abbrev pub IsLater : List OnLeg → Bool → ℕ → Successor → List (List ℕ) → Receiver → Type 0
IsLater came opened n Absent pdus window = Unit {0}
IsLater came opened n (Up number) pdus window = number ≡ suc n
IsLater came opened n (Joined leg stage) pdus window =
    (opened ≡ true) × (leg.number ≡ suc n) × HasBegun came leg
    × (IsUsedLeg came leg ⊎ IsIdle pdus window)

-- IN_R2/A2 is due behind some that wait
abbrev pub IsBehind : Successor → List Due → Type 0
IsBehind (Joined leg (TellsServer behind)) dues = behind ≤ length dues
IsBehind successor dues = Unit {0}

-- an acknowledgement to the out proxy, or OUT_R1/A8
abbrev pub MayWait : Named → Type 0
MayWait (AckTo to received available channel) = to ≡ 3
MayWait (OutR1A8 to successor) = Unit {0}
MayWait packet = ⊥

abbrev pub Wait : List Due → Type 0
Wait dues = AllByRecursion (λ (due : Due). MayWait due.packet) dues

pub record Known (config : InProxyConfig) (x : Seen) (came : List OnLeg) : Type 0 where
  pub same : x.config ≡ config
  pub joined : x.has_next ≡ is_joined x.successor
  pub finished : x.finished ≡ is_succeeded x.successor
  pub begun : x.opened ≡ true → HasBegun came x.current
  pub now : ((x.opened ≡ true) × IsUsedLeg came x.current) ⊎ IsIdle x.pdus x.window
  pub later : IsLater came x.opened x.current.number x.successor x.next_pdus x.next_window
  pub waits : Wait x.dues
  pub behind : IsBehind x.successor x.dues

-- ---- one more came

pub used_stays : (n : ℕ) (channel : Cookie) (came : List OnLeg) (one : OnLeg)
    → IsUsed came n channel → IsUsed (came ++ one ∷ []) n channel
used_stays n channel came one h = record {
  begun = came_stays (BeginsIn channel) n came one h.begun;
  sent = (
    h.sent.0,
    subst (HasPdu h.sent.0) (sym (leg_more (ci n) came one))
        (pdu_more h.sent.0 (of_leg (ci n) came) (of_leg (ci n) (one ∷ [])) h.sent.1),
  );
}

module _ (config : InProxyConfig) (came : List OnLeg) (one : OnLeg) where
  abbrev later : List OnLeg
  later = came ++ one ∷ []

  now_stays : (x : Seen) → ((x.opened ≡ true) × IsUsedLeg came x.current) ⊎ IsIdle x.pdus x.window
      → ((x.opened ≡ true) × IsUsedLeg later x.current) ⊎ IsIdle x.pdus x.window
  now_stays x (inl used) =
      inl (used.0, used_stays x.current.number x.current.cookie came one used.1)
  now_stays x (inr idle) = inr idle

  later_stays : (opened : Bool) (n : ℕ) (z : Successor) (pdus : List (List ℕ)) (window : Receiver)
      → IsLater came opened n z pdus window → IsLater later opened n z pdus window
  later_stays opened n Absent pdus window h = tt
  later_stays opened n (Up number) pdus window h = h
  later_stays opened n (Joined leg stage) pdus window h =
      (h.0, h.1, came_stays (BeginsIn leg.cookie) leg.number came one h.2, by h.3)
    where
      by : IsUsedLeg came leg ⊎ IsIdle pdus window → IsUsedLeg later leg ⊎ IsIdle pdus window
      by (inl used) = inl (used_stays leg.number leg.cookie came one used)
      by (inr idle) = inr idle

  pub known_stays : (x : Seen) → Known config x came → Known config x later
  known_stays x h = record {
    same = h.same;
    joined = h.joined;
    finished = h.finished;
    begun = λ e. came_stays (BeginsIn x.current.cookie) x.current.number came one (h.begun e);
    now = now_stays x h.now;
    later = later_stays x.opened x.current.number x.successor x.next_pdus x.next_window h.later;
    waits = h.waits;
    behind = h.behind;
  }

-- ---- what puts nothing on the is leg

pub record Moves (config : InProxyConfig) (came : List OnLeg) (s t : InProxy) : Type 0 where
  pub known : Known config (seen t) came
  pub last : told t.current.number t.successor ≡ told s.current.number s.successor

module _ (config : InProxyConfig) (came : List OnLeg) where
  pub same_moves : (s t : InProxy) → Same s t → Known config (seen s) came
      → Moves config came s t
  same_moves s t same h = record {
    known = subst (λ (x : Seen). Known config x came) (sym same) h;
    last = ap (λ (x : Seen). told x.current.number x.successor) same;
  }

  pub moves_on : (s t u : InProxy) → Moves config came s t → Moves config came t u
      → Moves config came s u
  moves_on s t u a b = record { known = b.known; last = b.last ∙ a.last }

  -- the next channel becomes current, where the current one is finished and empty
  pub settles : (s : InProxy) → Known config (seen s) came
      → Moves config came s (followed (record s { line = line.settled s.line }))
  settles s h =
      by_test (λ (l : Line). Moves config came s (followed (record s { line = l })))
      (s.line.finished && line.is_empty s.line.current.pdus) (line.moved_on s.line) s.line
      (λ e. by s.successor refl
      (sym h.finished ∙ (and_parts s.line.finished (line.is_empty s.line.current.pdus) e).0))
      (λ e. stays s.line.has_next s.successor refl h.joined)
    where
      now : (leg : ClientLeg) → has_opened s.opening ≡ true
          → IsUsedLeg came leg ⊎ IsIdle s.line.next.pdus s.line.next.window
          → ((has_opened s.opening ≡ true) × IsUsedLeg came leg)
          ⊎ IsIdle s.line.next.pdus s.line.next.window
      now leg opened (inl used) = inl (opened, used)
      now leg opened (inr idle) = inr idle

      by : (z : Successor) → s.successor ≡ z → is_succeeded z ≡ true
          → (let now = follows false s.current z in
          Moves config came s
          (record s { line = line.moved_on s.line; current = now.0; successor = now.1 }))
      by Absent e is = absurd cc
      by (Up number) e is = absurd cc
      by (Joined leg (TellsServer behind)) e is = absurd cc
      by (Joined leg Told) e is = absurd cc
      by (Joined leg Follows) e is =
          let k = subst (λ (z : Successor). Known config (record (seen s) { successor = z }) came)
          e h in record {
            known = record {
              same = k.same;
              joined = refl;
              finished = refl;
              begun = λ f. k.later.2;
              now = now leg k.later.0 k.later.3;
              later = tt;
              waits = k.waits;
              behind = tt;
            };
            last = k.later.1 ∙ ap (told s.current.number) (sym e);
          }

      same : (z : Successor) → s.successor ≡ z
          → Moves config came s (record s { successor = z })
      same z e =
          same_moves s (record s { successor = z })
          (ap (λ (y : Successor). record (seen s) { successor = y }) (sym e)) h

      stays : (b : Bool) (z : Successor) → s.successor ≡ z → b ≡ is_joined s.successor
          → (let now = follows b s.current z in
          Moves config came s (record s { current = now.0; successor = now.1 }))
      stays true z e is = same z e
      stays false Absent e is = same Absent e
      stays false (Up number) e is = same (Up number) e
      stays false (Joined leg stage) e is =
          absurd (true≢false (sym (is ∙ ap is_joined e)))
