-- what is known of an in proxy and of what came
use Rattle.law_order.proofs.Vocabulary.{◌≡◌, ℕ, suc, ◌&&◌, Bool, true, false, true≢false, not, List, [], ◌∷◌, ◌++◌, Some, None, refl, sym, ap, ◌∙◌, subst, rules, and_parts, Option, AllByRecursion}
use Rattle.rh_line.specs.Lines as line
use Rattle.rh_inproxy.specs.declared.state.Handover.TheVariants as handovers
use Rattle.law_moves.proofs.Vocabulary.{by_test, Named, Line, Due, Waiting, OnLeg, of_leg, BeginsIn}
use Rattle.law_moves.proofs.Lemmas.{one_so, each_so}
use Rattle.law_role_inproxy.proofs.Vocabulary.{ClientLeg, Entry, Connects, Replaces, Handover, InProxyConfig, TellsServer, Told, Follows, Opener, Opening, AwaitsClient, AwaitsPacket, WantsServer, Announces, Announced, Successor, Absent, Up, Joined, is_announced, is_succeeded, is_absent, InProxy, has_opened, is_joined, follows, followed, CameOn, CameFirst, HasPdu, Joins, Leaves, IsPlainPacket}
use Rattle.law_role_inproxy.proofs.Putting.Fronts.{came_stays, first_stays_first, packet_stays, pdu_stays}
use Rattle.law_role_inproxy.specs.Putting.Puts as puts

-- what the facts are about
pub record Seen : Type 0 where
  pub config : InProxyConfig
  pub opening : Opening
  pub has_next : Bool
  pub finished : Bool
  pub current : ClientLeg
  pub successor : Successor
  pub handover : Handover
  pub waiting : Waiting
  -- the RPC PDUs of the current channel and of the next one
  pub pdus : List (List ℕ)
  pub later : List (List ℕ)
  pub ended : Bool
  pub end_put : Bool

abbrev pub seen : InProxy → Seen
seen s = record {
  config = s.config;
  opening = s.opening;
  has_next = s.line.has_next;
  finished = s.line.finished;
  current = s.current;
  successor = s.successor;
  handover = s.handover;
  waiting = s.waiting;
  pdus = s.line.current.pdus;
  later = s.line.next.pdus;
  ended = s.line.current.ended;
  end_put = s.end_put;
}

abbrev pub Same : InProxy → InProxy → Type 0
Same s t = seen t ≡ seen s

-- the last ci leg that the server was told, as the first is by the first packet
abbrev pub told : ℕ → Successor → ℕ
told n (Joined leg Told) = suc n
told n (Joined leg Follows) = suc n
told n successor = n

-- until IN_R1/A6
abbrev pub told_by : ℕ → Successor → Handover → Option ℕ
told_by n successor handovers.Passed = None
told_by n successor handover = Some (told n successor)

abbrev pub last : Seen → Option ℕ
last x = told_by x.current.number x.successor x.handover

-- ---- what is known

-- of the first packet
abbrev pub IsOpener : InProxyConfig → List OnLeg → Opener → Entry → Type 0
IsOpener config came o (Connects group) =
    CameFirst config.number (puts.Connects o.connection o.channel group) came
IsOpener config came o (Replaces predecessor) =
    CameFirst config.number (puts.Replaces o.connection predecessor o.channel) came

-- the channel began on its ci leg
abbrev pub HasBegun : List OnLeg → ClientLeg → Type 0
HasBegun came leg = CameOn leg.number (BeginsIn leg.cookie) came

abbrev pub IsFirstLeg : InProxyConfig → ClientLeg → Successor → Type 0
IsFirstLeg config current successor =
    (current.number ≡ config.number) × (is_absent successor ≡ true)

abbrev pub IsOpening : InProxyConfig → List OnLeg → ClientLeg → Successor → Opening → Type 0
IsOpening config came current successor AwaitsClient = IsFirstLeg config current successor
IsOpening config came current successor AwaitsPacket = IsFirstLeg config current successor
IsOpening config came current successor (WantsServer o) =
    IsOpener config came o o.entry × HasBegun came current
IsOpening config came current successor (Announces o) =
    IsOpener config came o o.entry × HasBegun came current
IsOpening config came current successor (Announced o) = HasBegun came current

-- of the next ci leg
abbrev pub IsNext : List OnLeg → ℕ → Successor → Type 0
IsNext came n Absent = Unit {0}
IsNext came n (Up number) = number ≡ suc n
IsNext came n (Joined leg stage) =
    (leg.number ≡ suc n) × CameOn (suc n) (Joins leg.cookie) came

-- IN_R1/A5 came on the newest ci leg, and none follows
abbrev pub IsLeaving : List OnLeg → ℕ → Handover → Successor → Type 0
IsLeaving came n handovers.Before successor = Unit {0}
IsLeaving came n (handovers.Came cookie) Absent = CameOn n (Leaves cookie) came
IsLeaving came n (handovers.Came cookie) (Joined leg stage) = CameOn (suc n) (Leaves cookie) came
IsLeaving came n (handovers.Came cookie) (Up number) = ⊥
IsLeaving came n handovers.Passed Absent = Unit {0}
IsLeaving came n handovers.Passed successor = ⊥

abbrev pub Waits : List OnLeg → List Due → Type 0
Waits came dues = AllByRecursion (λ (due : Due). IsPlainPacket came due.packet) dues

-- each RPC PDU came on the ci leg of this number
abbrev pub Held : List OnLeg → ℕ → List (List ℕ) → Type 0
Held came n pdus = AllByRecursion (λ (pdu : List ℕ). HasPdu pdu (of_leg (puts.ci n) came)) pdus

-- behind IN_R1/A6 nothing is left to put but Pings
abbrev pub IsQuiet : Handover → List Due → List (List ℕ) → Bool → Bool → Type 0
IsQuiet handovers.Passed dues pdus ended end_put =
    (dues ≡ []) × (pdus ≡ []) × (ended && not end_put ≡ false)
IsQuiet handover dues pdus ended end_put = Unit {0}

pub record Sound (config : InProxyConfig) (x : Seen) (came : List OnLeg) : Type 0 where
  pub same : x.config ≡ config
  pub joined : x.has_next ≡ is_joined x.successor
  pub finished : x.finished ≡ is_succeeded x.successor
  pub opening : IsOpening config came x.current x.successor x.opening
  pub next : IsNext came x.current.number x.successor
  pub leaving : IsLeaving came x.current.number x.handover x.successor
  pub waits : Waits came x.waiting.due
  pub held : Held came x.current.number x.pdus
  pub held_next : Held came (suc x.current.number) x.later
  pub quiet : IsQuiet x.handover x.waiting.due x.pdus x.ended x.end_put

-- ---- one more came

module _ (config : InProxyConfig) (came : List OnLeg) (one : OnLeg) where
  abbrev later : List OnLeg
  later = came ++ one ∷ []

  begun_stays : (leg : ClientLeg) → HasBegun came leg → HasBegun later leg
  begun_stays leg h = came_stays (BeginsIn leg.cookie) leg.number came one h

  opener_stays : (o : Opener) (entry : Entry) → IsOpener config came o entry
      → IsOpener config later o entry
  opener_stays o (Connects group) h =
      first_stays_first (puts.Connects o.connection o.channel group) config.number came one h
  opener_stays o (Replaces predecessor) h =
      first_stays_first (puts.Replaces o.connection predecessor o.channel) config.number came one h

  opening_stays : (current : ClientLeg) (z : Successor) (o : Opening)
      → IsOpening config came current z o → IsOpening config later current z o
  opening_stays current z AwaitsClient h = h
  opening_stays current z AwaitsPacket h = h
  opening_stays current z (WantsServer o) h =
      (opener_stays o o.entry h.0, begun_stays current h.1)
  opening_stays current z (Announces o) h =
      (opener_stays o o.entry h.0, begun_stays current h.1)
  opening_stays current z (Announced o) h = begun_stays current h

  next_stays : (n : ℕ) (z : Successor) → IsNext came n z → IsNext later n z
  next_stays n Absent h = tt
  next_stays n (Up number) h = h
  next_stays n (Joined leg stage) h =
      (h.0, came_stays (Joins leg.cookie) (suc n) came one h.1)

  leaving_stays : (n : ℕ) (handover : Handover) (z : Successor) → IsLeaving came n handover z
      → IsLeaving later n handover z
  leaving_stays n handovers.Before z h = tt
  leaving_stays n (handovers.Came cookie) Absent h = came_stays (Leaves cookie) n came one h
  leaving_stays n (handovers.Came cookie) (Joined leg stage) h =
      came_stays (Leaves cookie) (suc n) came one h
  leaving_stays n (handovers.Came cookie) (Up number) h = absurd h
  leaving_stays n handovers.Passed Absent h = tt
  leaving_stays n handovers.Passed (Up number) h = absurd h
  leaving_stays n handovers.Passed (Joined leg stage) h = absurd h

  held_stays : (n : ℕ) (pdus : List (List ℕ)) → Held came n pdus → Held later n pdus
  held_stays n pdus h =
      each_so (λ (pdu : List ℕ). HasPdu pdu (of_leg (puts.ci n) came))
      (λ (pdu : List ℕ). HasPdu pdu (of_leg (puts.ci n) later))
      (λ (pdu : List ℕ). pdu_stays pdu n came one) pdus h

  pub sound_stays : (x : Seen) → Sound config x came → Sound config x later
  sound_stays x h = record {
    same = h.same;
    joined = h.joined;
    finished = h.finished;
    opening = opening_stays x.current x.successor x.opening h.opening;
    next = next_stays x.current.number x.successor h.next;
    leaving = leaving_stays x.current.number x.handover x.successor h.leaving;
    waits = each_so (λ (due : Due). IsPlainPacket came due.packet)
        (λ (due : Due). IsPlainPacket later due.packet)
        (λ (due : Due). packet_stays came one due.packet) x.waiting.due h.waits;
    held = held_stays x.current.number x.pdus h.held;
    held_next = held_stays (suc x.current.number) x.later h.held_next;
    quiet = h.quiet;
  }

-- ---- what changes nothing on the is leg

pub record Moves (config : InProxyConfig) (came : List OnLeg) (s t : InProxy) : Type 0 where
  pub sound : Sound config (seen t) came
  pub last : last (seen t) ≡ last (seen s)
  pub announced : is_announced t.opening ≡ is_announced s.opening
  pub opened : has_opened t.opening ≡ false → has_opened s.opening ≡ false

module _ (config : InProxyConfig) (came : List OnLeg) where
  pub same_moves : (s t : InProxy) → Same s t → Sound config (seen s) came
      → Moves config came s t
  same_moves s t same h = record {
    sound = subst (λ (x : Seen). Sound config x came) (sym same) h;
    last = ap last same;
    announced = ap (λ (x : Seen). is_announced x.opening) same;
    opened = λ e. ap (λ (x : Seen). has_opened x.opening) (sym same) ∙ e;
  }

  pub moves_on : (s t u : InProxy) → Moves config came s t → Moves config came t u
      → Moves config came s u
  moves_on s t u a b = record {
    sound = b.sound;
    last = b.last ∙ a.last;
    announced = b.announced ∙ a.announced;
    opened = λ e. a.opened (b.opened e);
  }

  -- ---- the next channel becomes current

  pub begins : (leg : ClientLeg) (n : ℕ) → leg.number ≡ suc n
      → CameOn (suc n) (Joins leg.cookie) came → HasBegun came leg
  begins leg n e h =
      subst (λ (k : ℕ). CameOn k (BeginsIn leg.cookie) came) (sym e)
      (one_so (Joins leg.cookie) (BeginsIn leg.cookie) by
      (of_leg (puts.ci (suc n)) came) h)
    where
      by : (m : Named) → Joins leg.cookie m → BeginsIn leg.cookie m
      by m is = search rules

  following_opens : (current leg : ClientLeg) (o : Opening)
      → IsOpening config came current (Joined leg Follows) o → HasBegun came leg
      → IsOpening config came leg Absent o
  following_opens current leg AwaitsClient h begun = absurd (true≢false (sym h.1))
  following_opens current leg AwaitsPacket h begun = absurd (true≢false (sym h.1))
  following_opens current leg (WantsServer o) h begun = (h.0, begun)
  following_opens current leg (Announces o) h begun = (h.0, begun)
  following_opens current leg (Announced o) h begun = begun

  following_leaves : (n k : ℕ) (leg : ClientLeg) (handover : Handover) → k ≡ suc n
      → IsLeaving came n handover (Joined leg Follows) → IsLeaving came k handover Absent
  following_leaves n k leg handovers.Before e h = tt
  following_leaves n k leg (handovers.Came cookie) e h =
      subst (λ (j : ℕ). CameOn j (Leaves cookie) came) (sym e) h
  following_leaves n k leg handovers.Passed e h = absurd h

  following_last : (n k : ℕ) (leg : ClientLeg) (handover : Handover) → k ≡ suc n
      → told_by k Absent handover ≡ told_by n (Joined leg Follows) handover
  following_last n k leg handovers.Before e = ap (λ (j : ℕ). Some j) e
  following_last n k leg (handovers.Came cookie) e = ap (λ (j : ℕ). Some j) e
  following_last n k leg handovers.Passed e = refl

  following_quiet : (n : ℕ) (leg : ClientLeg) (handover : Handover) (dues : List Due)
      (pdus : List (List ℕ)) (ended end_put : Bool)
      → IsLeaving came n handover (Joined leg Follows) → IsQuiet handover dues pdus ended end_put
  following_quiet n leg handovers.Before dues pdus ended end_put h = tt
  following_quiet n leg (handovers.Came cookie) dues pdus ended end_put h = tt
  following_quiet n leg handovers.Passed dues pdus ended end_put h = absurd h

  pub settles : (s : InProxy) → Sound config (seen s) came
      → Moves config came s (followed (record s { line = line.settled s.line }))
  settles s h =
      by_test (λ (l : Line). Moves config came s (followed (record s { line = l })))
      (s.line.finished && line.is_empty s.line.current.pdus) (line.moved_on s.line) s.line
      (λ e. by s.successor refl
      (sym h.finished ∙ (and_parts s.line.finished (line.is_empty s.line.current.pdus) e).0))
      (λ e. stays s.line.has_next s.successor refl h.joined)
    where
      by : (z : Successor) → s.successor ≡ z → is_succeeded z ≡ true
          → (let now = follows false s.current z in
          Moves config came s
          (record s { line = line.moved_on s.line; current = now.0; successor = now.1 }))
      by Absent e is = absurd cc
      by (Up number) e is = absurd cc
      by (Joined leg (TellsServer behind)) e is = absurd cc
      by (Joined leg Told) e is = absurd cc
      by (Joined leg Follows) e is =
          let k = subst (λ (z : Successor). Sound config (record (seen s) { successor = z }) came)
          e h in record {
            sound = record {
              same = k.same;
              joined = refl;
              finished = refl;
              opening = following_opens s.current leg s.opening k.opening
                  (begins leg s.current.number k.next.0 k.next.1);
              next = tt;
              leaving = following_leaves s.current.number leg.number leg s.handover k.next.0
                  k.leaving;
              waits = k.waits;
              held = subst (λ (n : ℕ). Held came n s.line.next.pdus) (sym k.next.0) k.held_next;
              held_next = tt;
              quiet = following_quiet s.current.number leg s.handover s.waiting.due s.line.next.pdus
                  s.line.next.ended s.end_put k.leaving;
            };
            last = following_last s.current.number leg.number leg s.handover k.next.0
                ∙ ap (λ (z : Successor). told_by s.current.number z s.handover) (sym e);
            announced = refl;
            opened = λ e. e;
          }

      same : (z : Successor) → s.successor ≡ z
          → Moves config came s (record s { successor = z })
      same z e =
          same_moves s (record s { successor = z })
          (ap (λ (y : Successor). record (seen s) { successor = y }) (sym e)) h

      stays : (b : Bool) (z : Successor) → s.successor ≡ z → b ≡ is_joined s.successor
          → (let now = follows b s.current z in
          Moves config came s (record s { current = now.0; successor = now.1 }))
      stays true z e is = same z e
      stays false Absent e is = same Absent e
      stays false (Up number) e is = same (Up number) e
      stays false (Joined leg stage) e is =
          absurd (true≢false (sym (is ∙ ap is_joined e)))
