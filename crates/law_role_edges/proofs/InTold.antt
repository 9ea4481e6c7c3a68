-- what is known of the windows of an in proxy's channels, and what was told of them
use Rattle.law_order.proofs.Vocabulary.{◌≡◌, ℕ, ◌+◌, ◌-◌, ◌≤◌, ◌&&◌, Bool, true, false, if◌then◌else◌, List, [], ◌∷◌, ◌++◌, Some, None, refl, sym, ap, ◌∙◌, subst, arith, rules, and_parts, nat_tests, bytes_eq-Decides}
use Rattle.rh_sig.specs.declared.named.Named.TheVariants as named
use Rattle.rh_line.specs.Lines as line
use Rattle.rh_window.specs.Receiving as windows
use Rattle.rh_inproxy.specs.declared.state.Successor.TheVariants as successors
use Rattle.law_moves.proofs.Vocabulary.{Ack, by_test, Cookie, Named, Incoming, Line, Leg, Which, Packet, OnLeg, HasOne, of_leg}
use Rattle.law_moves.proofs.Lemmas.{leg_more, one_more_so}
use Rattle.law_role_inproxy.proofs.Vocabulary.{ClientLeg, InProxyConfig, TellsServer, Told, Follows, Opening, Successor, InProxy, is_announced, is_joined, is_newest, is_succeeded, has_opened, head, drawn, mark, settled, follows, ping, on_is, on_ack_to, on_out_r1_a7, on_keep_alive, is_leg}
use Rattle.law_role_edges.proofs.Greatest.{greatest_last}
use Rattle.law_role_edges.specs.ClientWindows.{IsNextTold, TellsWindow, to_client, told_client}
use Rattle.law_role_edges.specs.Passing.{told_in}

-- what the facts are about
pub record Seen : Type 0 where
  pub config : InProxyConfig
  pub opening : Opening
  pub line : Line
  pub leg : ClientLeg
  pub successor : Successor

abbrev pub seen : InProxy → Seen
seen s = record {
  config = s.config;
  opening = s.opening;
  line = s.line;
  leg = s.current;
  successor = s.successor;
}

abbrev pub Same : InProxy → InProxy → Type 0
Same s t = seen t ≡ seen s

-- ---- what leaves these alone

pub same_head : (s : InProxy) (leg : Leg) (text : List ℕ) → Same s (head s leg text).0
same_head s leg text = search rules

pub same_ack_to : (s : InProxy) (which : Which) (to received available : ℕ) (channel : Cookie)
    → Same s (on_ack_to s which to received available channel).0
same_ack_to s which to received available channel = search rules

pub same_a7 : (s : InProxy) (which : Which) (to : ℕ) (successor : Cookie)
    → Same s (on_out_r1_a7 s which to successor).0
same_a7 s which to successor = search rules

pub same_keep_alive : (s : InProxy) (which : Which) (keepalive : ℕ)
    → Same s (on_keep_alive s which keepalive).0
same_keep_alive s which keepalive = search rules

pub same_is : (s : InProxy) (m : Named) → Same s (on_is s m).0
same_is s m = search rules

pub same_drawn : (s : InProxy) (leg : Leg) → Same s (drawn s leg)
same_drawn s leg = search rules

pub same_settled : (s : InProxy) → Same s (settled s)
same_settled s = search rules

pub same_mark : (s : InProxy) (leg : Leg) → Same s (mark s leg)
same_mark s leg =
    same_settled (if is_newest s leg then record s { newest_lost = true } else s)
    ∙ by_test (Same s) (is_newest s leg) _ s (λ e. refl) (λ e. refl)

pub same_ping : (s : InProxy) (leg : Leg) → Same s (ping s leg)
same_ping s leg = search rules

-- ---- windows

-- on a first channel all was told, and nothing is due
pub first_due : (size : ℕ) (ack : Ack) → windows.due (windows.opened size) ≡ Some ack → ⊥
first_due size ack e = by (windows.is_due (windows.opened size)) refl e
  where
    never : windows.is_due (windows.opened size) ≡ true → ⊥
    never due = absurd (grind (arith, nat_tests, due))

    by : (t : Bool) → windows.is_due (windows.opened size) ≡ t
        → (if t
        then Some (record {
          received = (windows.opened size).received;
          available = windows.edge_of (windows.opened size) - (windows.opened size).received;
        })
        else None) ≡ Some ack → ⊥
    by true due e = never due
    by false due e = absurd cc

-- an acknowledgement to the client tells its edge
pub ack_tells : (cookie : Cookie) (received available : ℕ)
    → told_in (to_client cookie) (Packet (named.AckTo 0 received available cookie))
    ≡ received + available
ack_tells cookie received available =
    ap (λ (t : Bool). if t then received + available else 0)
    ((bytes_eq-Decides cookie.0 cookie.0).1 refl)

module _ (config : InProxyConfig) where
  abbrev pub is : Leg
  is = is_leg config.number

  abbrev pub told_for : Cookie → List OnLeg → ℕ
  told_for cookie put = told_client config.window cookie put

  -- nothing came yet
  abbrev pub IsEarly : Incoming → Type 0
  IsEarly c = (c.pdus ≡ []) × (c.window ≡ windows.opened config.window)

  abbrev pub IsNext : Line → List OnLeg → Successor → Type 0
  IsNext l put z = IsNextTold config.window l.next.window.told put z

  pub record Tells (x : Seen) (put : List OnLeg) : Type 0 where
    pub same : x.config ≡ config
    pub size : x.line.size ≡ config.window
    pub early : has_opened x.opening ≡ false → IsEarly x.line.current
    pub opened : is_announced x.opening ≡ true
        → HasOne (TellsWindow config.window) (of_leg is put)
    pub current : x.line.current.window.told ≤ told_for x.leg.cookie put
    pub next : IsNext x.line put x.successor

  -- ---- more was put

  pub told_more : (cookie : Cookie) (put : List OnLeg) (one : OnLeg)
      → told_for cookie put ≤ told_for cookie (put ++ one ∷ [])
  told_more cookie put one =
      let last = greatest_last (to_client cookie) put one in grind (arith, nat_tests, last)

  pub told_last : (cookie : Cookie) (put : List OnLeg) (leg : Leg) (received available : ℕ)
      → received + available
      ≤ told_for cookie (put ++ (leg, Packet (named.AckTo 0 received available cookie)) ∷ [])
  told_last cookie put leg received available =
      let last = greatest_last (to_client cookie) put
      (leg, Packet (named.AckTo 0 received available cookie)) in
      let tells = ack_tells cookie received available in grind (arith, nat_tests, last, tells)

  pub next_more : (l : Line) (put : List OnLeg) (one : OnLeg) (z : Successor) → IsNext l put z
      → IsNext l (put ++ one ∷ []) z
  next_more l put one successors.Absent h = tt
  next_more l put one (successors.Up number) h = tt
  next_more l put one (successors.Joined leg stage) h =
      let more = told_more leg.cookie put one in omega (arith, more, h)

  pub opened_more : (put : List OnLeg) (one : OnLeg)
      → HasOne (TellsWindow config.window) (of_leg is put)
      → HasOne (TellsWindow config.window) (of_leg is (put ++ one ∷ []))
  opened_more put one h =
      subst (HasOne (TellsWindow config.window)) (sym (leg_more is put one))
      (one_more_so (TellsWindow config.window) (of_leg is put) (of_leg is (one ∷ [])) h)

  pub more : (x : Seen) (put : List OnLeg) (one : OnLeg) → Tells x put
      → Tells x (put ++ one ∷ [])
  more x put one h = record {
    same = h.same;
    size = h.size;
    early = h.early;
    opened = λ e. opened_more put one (h.opened e);
    current =
        let was = h.current in
        let grows = told_more x.leg.cookie put one in omega (arith, was, grows);
    next = next_more x.line put one x.successor h.next;
  }

  -- ---- the next channel becomes current

  module _ (put : List OnLeg) where
    -- the windows of a line behind which the ci legs follow
    abbrev pub Behind : ClientLeg → Successor → Line → Type 0
    Behind current z l =
        (l.size ≡ config.window)
        × (l.current.window.told ≤ told_for (follows l.has_next current z).0.cookie put)
        × IsNext l put (follows l.has_next current z).1

    pub stays : (b : Bool) (current : ClientLeg) (z : Successor) (l : Line) → b ≡ is_joined z
        → l.current.window.told ≤ told_for current.cookie put → IsNext l put z
        → (l.current.window.told ≤ told_for (follows b current z).0.cookie put)
        × IsNext l put (follows b current z).1
    stays true current z l e here next = (here, next)
    stays false current successors.Absent l e here next = (here, tt)
    stays false current (successors.Up number) l e here next = (here, tt)
    stays false current (successors.Joined leg stage) l e here next = absurd cc

    moves_on : (current : ClientLeg) (z : Successor) (l : Line) → is_succeeded z ≡ true
        → l.size ≡ config.window → IsNext l put z → Behind current z (line.moved_on l)
    moves_on current (successors.Joined leg Follows) l e size next = (size, next, tt)
    moves_on current (successors.Joined leg Told) l e size next = absurd cc
    moves_on current (successors.Joined leg (TellsServer behind)) l e size next = absurd cc
    moves_on current (successors.Up number) l e size next = absurd cc
    moves_on current successors.Absent l e size next = absurd cc

    pub settles : (current : ClientLeg) (z : Successor) (l : Line) → l.has_next ≡ is_joined z
        → l.finished ≡ is_succeeded z → l.size ≡ config.window
        → l.current.window.told ≤ told_for current.cookie put → IsNext l put z
        → Behind current z (line.settled l)
    settles current z l joined done size here next =
        by_test (Behind current z) (l.finished && line.is_empty l.current.pdus)
        (line.moved_on l) l
        (λ e. moves_on current z l
        (sym done ∙ (and_parts l.finished (line.is_empty l.current.pdus) e).0) size next)
        (λ e. let both = stays l.has_next current z l joined here next in (size, both.0, both.1))
