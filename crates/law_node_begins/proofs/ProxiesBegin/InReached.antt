-- which ci legs came up, by what an in proxy keeps
use Rattle.law_order.proofs.Vocabulary.{◌≡◌, ◌⊎◌, inl, inr, ℕ, ◌+◌, ◌≤◌, ◌==◌, List, [], ◌∷◌, ◌++◌, Bool, true, false, not, ◌&&◌, ◌||◌, Some, None, Ok, Err, arith, refl, sym, ap, ◌∙◌, subst, if◌then◌else◌, nat_le, IfSome, list_any-append, list_any, AllByRecursion, and_parts, eqb-true, or_left, Result}
use Rattle.rh_inproxy.specs.declared.opening.TheConstants.{ECHO_LENGTH, GREATEST_LENGTHS}
use Rattle.rh_inproxy.specs.declared.state.Handover.{Handover}
use Rattle.rh_inproxy.specs.declared.state.Handover.TheVariants.{Before, Came, Passed}
use Rattle.rh_inproxy.specs.declared.state.InProxyConfig.{InProxyConfig}
use Rattle.rh_inproxy.specs.declared.state.Opening.{Opening}
use Rattle.rh_inproxy.specs.declared.state.Opening.TheVariants.{AwaitsClient, AwaitsPacket, WantsServer, Announces, Announced}
use Rattle.rh_inproxy.specs.declared.state.Successor.TheVariants.{Up}
use Rattle.rh_inproxy.specs.declared.state.Work.{Work}
use Rattle.rh_inproxy.specs.Answers.{Pick}
use Rattle.rh_inproxy.specs.Ending.{settled_pick}
use Rattle.rh_inproxy.specs.InReplacement.{has_passed}
use Rattle.rh_inproxy.specs.Machine.{rules}
use Rattle.rh_inproxy.specs.Opening.{accepted, accepts, accepts_later, connected, channel_asked, echo_answer, echo_asked, echo_by, head_by, is_absent, may_accept, may_up, put_echo, up, wants, wants_server}
use Rattle.rh_inproxy.specs.Putting.{next, put}
use Rattle.rh_inproxy.specs.State.{InProxy, first, has_come, has_opened, is_client_leg, is_server_leg}
use Rattle.rh_inproxy.specs.declared.state.Work.TheVariants as works
use Rattle.law_moves.proofs.Vocabulary.{by_test, Cookie, HttpFault, Asked, request_verdict, Leg, ClientIn, HeadRefused, HeadTaken, Message, Text, same_leg, Move, OnLeg, IsNoText}
use Rattle.law_moves.proofs.Lemmas.{itself, leg_is}
use Rattle.law_moves.specs.Moves as moves
use Rattle.law_node_streams.proofs.Streams.Ways.{or_false as or_none}
use Rattle.law_node_streams.specs.Streams.{is_up_on}
use Rattle.law_node_begins.proofs.ProxiesBegin.Legs.{of_kind, each_append}
use Rattle.law_node_begins.proofs.ProxiesBegin.Turning.{MovesKeep}
use Rattle.law_node_begins.proofs.ProxiesBegin.InGoes.{Seen, seen, stays, newest_of, alone, not_client, Goes, GoesPut, FirstOn, pdu_goes, packet_goes, mark_goes, ping_goes, drawn_goes, server_goes}
use Rattle.law_node_begins.proofs.ProxiesBegin.InTurns.{at_opening}
use Rattle.law_node_begins.specs.ProxiesBegin.Pipes.{ci, is}
use Rattle.law_node_begins.specs.ProxiesBegin.Reached.{came_up_by, IsKnown}

-- ---- one move more

any_append : {X : Type 0} (test : X → Bool) (xs : List X) (x : X)
    → list_any test (xs ++ x ∷ []) ≡ (list_any test xs || test x)
any_append test xs x =
    list_any-append test xs (x ∷ []) ∙ ap (λ (b : Bool). list_any test xs || b) (or_none (test x))

module _ (leg : Leg) (before : List Move) (move : Move) where
  still_up : came_up_by leg before ≡ true → came_up_by leg (before ++ move ∷ []) ≡ true
  still_up e =
      any_append (is_up_on leg) before move
      ∙ or_left (came_up_by leg before) (is_up_on leg move) e

  up_or_now : came_up_by leg (before ++ move ∷ []) ≡ true
      → (came_up_by leg before ≡ true) ⊎ (is_up_on leg move ≡ true)
  up_or_now e =
      by (came_up_by leg before) (is_up_on leg move)
      (sym (any_append (is_up_on leg) before move) ∙ e)
    where
      by : (a b : Bool) → (a || b) ≡ true → (a ≡ true) ⊎ (b ≡ true)
      by true b e = inl refl
      by false b e = inr e

  up_now : is_up_on leg move ≡ true → came_up_by leg (before ++ move ∷ []) ≡ true
  up_now e =
      any_append (is_up_on leg) before move ∙ by (came_up_by leg before) (is_up_on leg move) e
    where
      by : (a b : Bool) → b ≡ true → (a || b) ≡ true
      by true b e = refl
      by false b e = e

-- ---- what is kept

-- ci legs that came up have numbers up to the newest one; that one and the current one came up, or
-- no other one did; and none is behind the current one before the first packet, nor once IN_R1/A6
-- was put
pub record Reached (config : InProxyConfig) (before : List Move) (a : Seen) : Type 0 where
  pub number : a.config ≡ config
  pub ups : (k : ℕ) → came_up_by (ci k) before ≡ true → k ≤ newest_of a
  pub current : IsKnown config before a.current.number
  pub newest : IsKnown config before (newest_of a)
  pub passed : has_passed a.handover ≡ true → is_absent a.successor ≡ true
  pub awaits : has_opened a.opening ≡ false → is_absent a.successor ≡ true

still_known : (config : InProxyConfig) (before : List Move) (move : Move) (n : ℕ)
    → IsKnown config before n → IsKnown config (before ++ move ∷ []) n
still_known config before move n (inl e) = inl e
still_known config before move n (inr e) = inr (still_up (ci n) before move e)

-- no ci leg comes up
more_reached : (config : InProxyConfig) (before : List Move) (move : Move) (a : Seen)
    → ((k : ℕ) → is_up_on (ci k) move ≡ false) → Reached config before a
    → Reached config (before ++ move ∷ []) a
more_reached config before move a none k = record {
  number = k.number;
  ups = λ n e. by n (up_or_now (ci n) before move e);
  current = still_known config before move a.current.number k.current;
  newest = still_known config before move (newest_of a) k.newest;
  passed = k.passed;
  awaits = k.awaits;
}
  where
    by : (n : ℕ) → (came_up_by (ci n) before ≡ true) ⊎ (is_up_on (ci n) move ≡ true)
        → n ≤ newest_of a
    by n (inl e) = k.ups n e
    by n (inr e) = let no = sym e ∙ none n in absurd cc

goes_reached : (First : Type 0) (config : InProxyConfig) (before : List Move) (a b : Seen)
    → Goes First a b → Reached config before a → Reached config before b
goes_reached First config before a b goes k = record {
  number = goes.config ∙ k.number;
  ups = λ n e. subst (λ (m : ℕ). n ≤ m) (sym goes.newest) (k.ups n e);
  current = by goes.current;
  newest = subst (IsKnown config before) (sym goes.newest) k.newest;
  passed = goes.passed k.passed;
  awaits = by_opened goes.opened;
}
  where
    by : (b.current.number ≡ a.current.number) ⊎ (b.current.number ≡ newest_of a)
        → IsKnown config before b.current.number
    by (inl e) = subst (IsKnown config before) (sym e) k.current
    by (inr e) = subst (IsKnown config before) (sym e) k.newest

    by_opened : (has_opened b.opening ≡ has_opened a.opening)
        ⊎ (First × (has_opened b.opening ≡ true))
        → has_opened b.opening ≡ false → is_absent b.successor ≡ true
    by_opened (inl e) h = goes.absent (k.awaits (sym e ∙ h))
    by_opened (inr e) h = let opened = e.1 in absurd cc

-- ---- a leg comes up

four : (a b c d : Bool) → a && b && c && not d ≡ true
    → (a ≡ true) × (b ≡ true) × (d ≡ false)
four false b c d e = absurd cc
four true false c d e = absurd cc
four true true false d e = absurd cc
four true true true true e = absurd cc
four true true true false e = (refl, refl, refl)

passed_came : (h : Handover) → has_come h ≡ false → has_passed h ≡ true → ⊥
passed_came Before e p = absurd cc
passed_came (Came cookie) e p = absurd cc
passed_came Passed e p = absurd cc

module _ (config : InProxyConfig) (before : List Move) (s : InProxy) (n : ℕ) (cookie : Cookie)
    (k : Reached config before (seen s)) where
  abbrev came : List Move
  came = before ++ moves.Up (ci n) cookie ∷ []

  numbered : (m : ℕ) → came_up_by (ci m) came ≡ true
      → (came_up_by (ci m) before ≡ true) ⊎ (m ≡ n)
  numbered m e = by (up_or_now (ci m) before (moves.Up (ci n) cookie) e)
    where
      by : (came_up_by (ci m) before ≡ true) ⊎ (same_leg (ci n) (ci m) ≡ true)
          → (came_up_by (ci m) before ≡ true) ⊎ (m ≡ n)
      by (inl f) = inl f
      by (inr f) = inr (ap (λ (l : Leg). l.number) (sym (leg_is (ci n) (ci m) f)))

  -- the first ci leg
  first_up : s.current.number ≡ n → is_absent s.successor ≡ true → (o : Opening)
      → has_opened o ≡ false → Reached config came (record (seen s) { opening = o })
  first_up e absent o closed = record {
    number = k.number;
    ups = λ m f. by m (numbered m f);
    current = still_known config before (moves.Up (ci n) cookie) s.current.number k.current;
    newest = still_known config before (moves.Up (ci n) cookie) (newest_of (seen s)) k.newest;
    passed = k.passed;
    awaits = λ h. absent;
  }
    where
      by : (m : ℕ) → (came_up_by (ci m) before ≡ true) ⊎ (m ≡ n) → m ≤ newest_of (seen s)
      by m (inl f) = k.ups m f
      by m (inr f) = omega (arith, f, e, alone s.current s.successor absent)

  -- a later one
  later_up : accepts_later s n ≡ true → has_opened s.opening ≡ true
      → Reached config came (record (seen s) { successor = Up n })
  later_up e opened = record {
    number = k.number;
    ups = λ m f. by m (numbered m f);
    current = still_known config before (moves.Up (ci n) cookie) s.current.number k.current;
    newest = inr (up_now (ci n) before (moves.Up (ci n) cookie) (itself (ci n)));
    passed = λ p. absurd (passed_came s.handover may.2 p);
    awaits = λ h. absurd cc;
  }
    where
      may : ((n == s.current.number + 1) ≡ true) × (is_absent s.successor ≡ true)
          × (has_come s.handover ≡ false)
      may = four (n == s.current.number + 1) (is_absent s.successor)
          (nat_le s.lengths GREATEST_LENGTHS) (has_come s.handover) e

      by : (m : ℕ) → (came_up_by (ci m) before ≡ true) ⊎ (m ≡ n) → m ≤ n
      by m (inr f) = omega (arith, f)
      by m (inl f) =
          omega (
            arith,
            k.ups m f,
            alone s.current s.successor may.1,
            eqb-true n (s.current.number + 1) may.0,
          )

accepted_reached : (config : InProxyConfig) (before : List Move) (s : InProxy) (o : Opening) (n : ℕ)
    (cookie : Cookie) → Reached config before (seen (at_opening s o)) → accepts s o n ≡ true
    → Reached config (before ++ moves.Up (ci n) cookie ∷ [])
    (seen (accepted (at_opening s o) o n))
accepted_reached config before s AwaitsClient n cookie k may =
    first_up config before (at_opening s AwaitsClient) n cookie k
    (eqb-true s.current.number n may) (k.awaits refl) AwaitsPacket refl
accepted_reached config before s AwaitsPacket n cookie k may = absurd cc
accepted_reached config before s (WantsServer o) n cookie k may =
    later_up config before (at_opening s (WantsServer o)) n cookie k may refl
accepted_reached config before s (Announces o) n cookie k may =
    later_up config before (at_opening s (Announces o)) n cookie k may refl
accepted_reached config before s (Announced o) n cookie k may =
    later_up config before (at_opening s (Announced o)) n cookie k may refl

connected_reached : (config : InProxyConfig) (before : List Move) (s : InProxy) (o : Opening)
    → Reached config before (seen (at_opening s o))
    → Reached config before (seen (connected (at_opening s o) o))
connected_reached config before s AwaitsClient k = k
connected_reached config before s AwaitsPacket k = k
connected_reached config before s (Announces o) k = k
connected_reached config before s (Announced o) k = k
connected_reached config before s (WantsServer o) k = record {
  number = k.number;
  ups = k.ups;
  current = k.current;
  newest = k.newest;
  passed = k.passed;
  awaits = λ h. absurd cc;
}

server_leg : (s : InProxy) (leg : Leg) → is_server_leg s leg ≡ true → is_client_leg leg ≡ false
server_leg s leg e = ap is_client_leg (sym (leg_is (is s.config.number) leg e))

neither : (a b : Bool) → a ≡ false → b ≡ false → (b || a) ≡ true → ⊥
neither true b e f h = absurd cc
neither false true e f h = absurd cc
neither false false e f h = absurd cc

up_reached : (config : InProxyConfig) (before : List Move) (s : InProxy) (leg : Leg)
    (cookie : Cookie) → Reached config before (seen s) → may_up s leg ≡ true
    → Reached config (before ++ moves.Up leg cookie ∷ []) (seen (up s leg))
up_reached config before s leg cookie k may =
    by_test (λ (t : InProxy). Reached config (before ++ moves.Up leg cookie ∷ []) (seen t))
    (may_accept s leg) (accepted s s.opening leg.number)
    (if wants s leg then connected s s.opening else s)
    (λ e.
    let parts = and_parts (is_client_leg leg) (accepts s s.opening leg.number) e in
    subst (λ (l : Leg). Reached config (before ++ moves.Up l cookie ∷ [])
    (seen (accepted s s.opening leg.number))) (sym (of_kind ClientIn leg parts.0))
    (accepted_reached config before s s.opening leg.number cookie k parts.1))
    (λ e. by_test (λ (t : InProxy). Reached config (before ++ moves.Up leg cookie ∷ []) (seen t))
    (wants s leg) (connected s s.opening) s
    (λ f.
    let server = server_leg s leg (and_parts (is_server_leg s leg) (wants_server s.opening) f).0 in
    more_reached config before (moves.Up leg cookie) (seen (connected s s.opening))
    (λ n. not_client leg n server) (connected_reached config before s s.opening k))
    (λ f. absurd (neither (may_accept s leg) (wants s leg) e f may)))

-- ---- the role

-- on ci legs anything, and on the is leg of its number no text
abbrev pub MayPut : InProxyConfig → OnLeg → Type 0
MayPut config one =
    (is_client_leg one.0 ≡ true) ⊎ ((same_leg (is config.number) one.0 ≡ true) × IsNoText one.1)

abbrev pub ReachedAt : InProxyConfig → List Move → InProxy → List OnLeg → Type 0
ReachedAt config before s put =
    Reached config before (seen s) × AllByRecursion (MayPut config) put

same_head : (s : InProxy) (n : ℕ) (verdict : Result Asked HttpFault)
    → record (seen (head_by s n verdict).0) { work = works.Done }
    ≡ record (seen s) { work = works.Done }
same_head s n (Err fault) = refl
same_head s n (Ok asked) =
    by_test (λ (r : InProxy × Result HeadTaken HeadRefused).
    record (seen r.0) { work = works.Done } ≡ record (seen s) { work = works.Done })
    (nat_le asked.length ECHO_LENGTH) (echo_asked s n asked) (channel_asked s asked)
    (λ e. refl) (λ e. refl)

-- it is not about the work
by_work : (config : InProxyConfig) (before : List Move) (a : Seen) (w : Work)
    → Reached config before a → Reached config before (record a { work = w })
by_work config before a w k = record {
  number = k.number;
  ups = k.ups;
  current = k.current;
  newest = k.newest;
  passed = k.passed;
  awaits = k.awaits;
}

head_reached : (config : InProxyConfig) (before : List Move) (s : InProxy) (n : ℕ)
    (verdict : Result Asked HttpFault) → Reached config before (seen s)
    → Reached config before (seen (head_by s n verdict).0)
head_reached config before s n verdict k =
    by_work config before (record (seen t) { work = works.Done }) t.work
    (subst (Reached config before) (sym (same_head s n verdict))
    (by_work config before (seen s) works.Done k))
  where
    t : InProxy
    t = (head_by s n verdict).0

module _ (config : InProxyConfig) where
  abbrev PutReached : List Move → List OnLeg → Leg → Pick → Type 0
  PutReached before log leg pick =
      IfSome pick (λ (x : InProxy × Message).
      ReachedAt config before x.0 (log ++ (leg, x.1) ∷ []))

  echo_reached : (before : List Move) (s : InProxy) (log : List OnLeg) (leg : Leg) (w : Work)
      → is_client_leg leg ≡ true → ReachedAt config before s log
      → PutReached before log leg (echo_by s w leg.number)
  echo_reached before s log leg works.Underway client k = tt
  echo_reached before s log leg (works.EchoPut m) client k = tt
  echo_reached before s log leg works.Done client k = tt
  echo_reached before s log leg (works.EchoDue m) client k =
      by_test (PutReached before log leg) (m == leg.number)
      (Some (record s { work = works.EchoPut m }, Text echo_answer)) None
      (λ e. (
        by_work config before (seen s) (works.EchoPut m) k.0,
        each_append (MayPut config) log (leg, Text echo_answer) k.1 (inl client),
      ))
      (λ e. tt)

  server_reached : (before : List Move) (s : InProxy) (log : List OnLeg) (leg : Leg) (pick : Pick)
      → same_leg (is config.number) leg ≡ true → ReachedAt config before s log
      → GoesPut (seen s) pick → PutReached before log leg pick
  server_reached before s log leg None server k goes = tt
  server_reached before s log leg (Some x) server k goes = (
    goes_reached ⊥ config before (seen s) (seen x.0) goes.0 k.0,
    each_append (MayPut config) log (leg, x.1) k.1 (inr (server, goes.1)),
  )

  put_reached : (before : List Move) (s : InProxy) (log : List OnLeg) (leg : Leg)
      → ReachedAt config before s log → PutReached before log leg (put s leg)
  put_reached before s log leg k =
      by_test (PutReached before log leg) (is_client_leg leg) (put_echo s leg.number)
      (if is_server_leg s leg then settled_pick (next s) else None)
      (λ e. echo_reached before s log leg s.work e k)
      (λ e. by_test (PutReached before log leg) (is_server_leg s leg) (settled_pick (next s)) None
      (λ f. server_reached before s log leg (settled_pick (next s))
      (subst (λ (c : InProxyConfig). same_leg (is c.number) leg ≡ true) k.0.number f) k
      (server_goes s)) (λ f. tt))

  -- a row that goes on, and the log
  goes_at : (First : Type 0) (before : List Move) (s t : InProxy) (put : List OnLeg) (move : Move)
      → Goes First (seen s) (seen t) → ((n : ℕ) → is_up_on (ci n) move ≡ false)
      → ReachedAt config before s put → ReachedAt config (before ++ move ∷ []) t put
  goes_at First before s t put move goes none k = (
    more_reached config before move (seen t) none
        (goes_reached First config before (seen s) (seen t) goes k.0),
    k.1,
  )

  pub in_moves_keep : MovesKeep rules (ReachedAt config)
  in_moves_keep = record {
    up = λ before s put leg cookie k may. (up_reached config before s leg cookie k.0 may, k.1);
    head = λ before s put leg text k. (
      more_reached config before (moves.HeadCame leg text) (seen (rules.head s leg text).0)
          (λ n. refl) (head_reached config before s leg.number (request_verdict true text) k.0),
      k.1,
    );
    pdu = λ before s put leg count bytes k.
        goes_at ⊥ before s (rules.pdu s leg count bytes).0 put (moves.PduCame leg count bytes)
        (pdu_goes s leg count bytes) (λ n. refl) k;
    packet = λ before s put leg count named k.
        goes_at (FirstOn s leg) before s (rules.packet s leg count named).0 put
        (moves.PacketCame leg count named) (packet_goes s leg count named) (λ n. refl) k;
    none_put = λ before s put leg k.
        goes_at ⊥ before s s put (moves.Puts leg) (stays (seen s)) (λ n. refl) k;
    put = λ before s log leg k.
        put_reached (before ++ moves.Puts leg ∷ []) s log leg
        (goes_at ⊥ before s s log (moves.Puts leg) (stays (seen s)) (λ n. refl) k);
    drawn = λ before s put leg k.
        goes_at ⊥ before s (rules.drawn s leg) put (moves.IsDrawn leg) (drawn_goes s leg)
        (λ n. refl) k;
    mark = λ before s put leg k.
        goes_at ⊥ before s (rules.mark s leg) put (moves.Marks leg) (mark_goes s leg)
        (λ n. refl) k;
    ping = λ before s put leg k.
        goes_at ⊥ before s (rules.ping s leg) put (moves.Pings leg) (ping_goes s leg)
        (λ n. refl) k;
  }

  pub in_reaches : ReachedAt config [] (first config) []
  in_reaches = (
    record {
      number = refl;
      ups = λ k e. absurd cc;
      current = inl refl;
      newest = inl refl;
      passed = λ e. absurd cc;
      awaits = λ e. refl;
    },
    tt,
  )
