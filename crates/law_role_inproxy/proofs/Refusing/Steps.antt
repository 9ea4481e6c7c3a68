-- each step of an in proxy keeps what is known of its legs
use Rattle.law_order.proofs.Vocabulary.{◌≡◌, ℕ, suc, ◌<◌, ◌≤◌, ◌==◌, ◌&&◌, Bool, true, false, if◌then◌else◌, List, [], ◌∷◌, ◌++◌, Some, None, inl, inr, refl, sym, ap, subst, ◌∙◌, arith, rules, eqb-true, nat_tests, ◌⊎◌, Option}
use Rattle.rh_line.specs.Lines as line
use Rattle.rh_inproxy.specs.declared.state.Opening.TheVariants as openings
use Rattle.law_moves.proofs.Vocabulary.{by_test, Cookie, Named, Leg, ClientIn, Which, Count, Packet, OnLeg, of_leg, BeginsIn, HasOne, HasBegunIn, count_of, packets, is_any, is_conn_b1, is_in_r1_a1, opens_server}
use Rattle.law_moves.proofs.Lemmas.{leg_at_most, leg_rises, leg_here, kind_at_most}
use Rattle.law_role_inproxy.proofs.Vocabulary.{ClientLeg, Edge, Told, Opener, Opening, Successor, Absent, Up, Joined, on_ack, on_ack_to, is_some, is_newest, mark, on_end_a1, settled, is_newcomer, on_in_r1_b1, head, drawn, is_absent, is_connection, is_replacement, awaits_packet, leg_of, opener_of, on_out_r1_a7, InProxy, follows, has_opened, is_joined, on_keep_alive, ping, pdu, is_leg, any, ci_leg}
use Rattle.law_role_inproxy.proofs.Refusing.Legs.{All, Opens, Opened, Same, Seen, Starts, bound, leg_sum, on_client, one_last, opened_more, plain, seen}

-- ---- what leaves the legs alone

pub same_head : (s : InProxy) (leg : Leg) (text : List ℕ) → Same s (head s leg text).0
same_head s leg text = search rules

pub same_pdu : (s : InProxy) (leg : Leg) (count : Count) (bytes : List ℕ)
    → Same s (pdu s leg count bytes).0
same_pdu s leg count bytes = search rules

pub same_ack_to : (s : InProxy) (which : Which) (to received available : ℕ) (channel : Cookie)
    → Same s (on_ack_to s which to received available channel).0
same_ack_to s which to received available channel = search rules

pub same_a7 : (s : InProxy) (which : Which) (to : ℕ) (successor : Cookie)
    → Same s (on_out_r1_a7 s which to successor).0
same_a7 s which to successor = search rules

pub same_keep_alive : (s : InProxy) (which : Which) (keepalive : ℕ)
    → Same s (on_keep_alive s which keepalive).0
same_keep_alive s which keepalive = search rules

pub same_end : (s : InProxy) (which : Which) → Same s (on_end_a1 s which).0
same_end s which = search rules

pub same_b1 : (s : InProxy) → Same s (on_in_r1_b1 s).0
same_b1 s = search rules

pub same_ack : (s : InProxy) (received available : ℕ) (channel : Cookie)
    → Same s (on_ack s received available channel).0
same_ack s received available channel = search rules

pub same_drawn : (s : InProxy) (leg : Leg) → Same s (drawn s leg)
same_drawn s leg = search rules

pub same_settled : (s : InProxy) → Same s (settled s)
same_settled s = search rules

pub same_mark : (s : InProxy) (leg : Leg) → Same s (mark s leg)
same_mark s leg =
    same_settled (if is_newest s leg then record s { newest_lost = true } else s)
    ∙ by_test (Same s) (is_newest s leg) _ s (λ e. refl) (λ e. refl)

pub same_ping : (s : InProxy) (leg : Leg) → Same s (ping s leg)
same_ping s leg = search rules

-- ---- parts of a state

pub awaits_none : (o : Opening) → awaits_packet o ≡ true → opener_of o ≡ None
awaits_none openings.AwaitsPacket e = refl
awaits_none openings.AwaitsClient e = absurd cc
awaits_none (openings.WantsServer o) e = absurd cc
awaits_none (openings.Announces o) e = absurd cc
awaits_none (openings.Announced o) e = absurd cc

pub absent_is : (z : Successor) → is_absent z ≡ true → z ≡ Absent
absent_is Absent e = refl
absent_is (Up number) e = absurd cc
absent_is (Joined leg stage) e = absurd cc

pub newcomer_is : (z : Successor) (k : ℕ) → is_newcomer z k ≡ true → z ≡ Up k
newcomer_is (Up number) k e = ap Up (eqb-true number k e)
newcomer_is Absent k e = absurd cc
newcomer_is (Joined leg stage) k e = absurd cc

pub is_opened : (o : Opening) → has_opened o ≡ is_some (opener_of o)
is_opened openings.AwaitsClient = refl
is_opened openings.AwaitsPacket = refl
is_opened (openings.WantsServer o) = refl
is_opened (openings.Announces o) = refl
is_opened (openings.Announced o) = refl

pub connects_some : (o : Option Opener) → is_connection o ≡ true → is_some o ≡ true
connects_some None e = absurd cc
connects_some (Some o) e = refl

pub replaces_some : (o : Option Opener) → is_replacement o ≡ true → is_some o ≡ true
replaces_some None e = absurd cc
replaces_some (Some o) e = refl

-- where a channel is finished or a PDU taken, no next channel comes to be
pub finish_next : (l : line.Line) → ((line.after_finish l).has_next ≡ l.has_next)
    ⊎ ((line.after_finish l).has_next ≡ false)
finish_next l =
    by_test (λ (k : line.Line). (k.has_next ≡ l.has_next) ⊎ (k.has_next ≡ false))
    (line.is_empty l.current.pdus) (line.moved_on (record l { finished = true }))
    (record l { finished = true }) (λ e. inr refl) (λ e. inl refl)

pub take_next : (l : line.Line) (pdus : List (List ℕ))
    → ((line.taken pdus l).has_next ≡ l.has_next) ⊎ ((line.taken pdus l).has_next ≡ false)
take_next l [] = inl refl
take_next l (pdu ∷ pdus) =
    let k = record l { current = line.released (pdu ∷ pdus) l.current } in
    by_test (λ (j : line.Line). (j.has_next ≡ l.has_next) ⊎ (j.has_next ≡ false))
    (k.finished && line.is_empty k.current.pdus) (line.moved_on k) k (λ e. inr refl)
    (λ e. inl refl)

-- ---- the steps that change them

module _ (first : ℕ) where
  pub kept : (s t : InProxy) (came : List OnLeg) → Same s t → All first (seen s) came
      → All first (seen t) came
  kept s t came same h = subst (λ (x : Seen). All first x came) (sym same) h

  -- a later ci leg is up
  bound_up : (o : Option Opener) (current : ClientLeg) (n : ℕ)
      → bound first o current (Up n) ≡ bound first o current Absent
  bound_up None current n = refl
  bound_up (Some o) current n = refl

  starts_up : (o : Option Opener) (current : ClientLeg) (z : Successor) → is_some o ≡ true
      → Starts first o current z
  starts_up None current z e = absurd cc
  starts_up (Some o) current z e = tt

  pub rises : (x : Seen) (n : ℕ) (came : List OnLeg) → All first (record x { heir = Absent }) came
      → is_some x.opener ≡ true → n ≡ suc x.current.number
      → All first (record x { heir = Up n }) came
  rises x n came h some is =
      let same = bound_up x.opener x.current n in
      record {
        number = h.number;
        from = h.from;
        start = starts_up x.opener x.current (Up n) some;
        behind = is;
        joined = h.joined;
        used = λ k a b. h.used k a (omega (arith, same, b));
        fresh = λ k a. h.fresh k (omega (arith, same, a));
        opened = h.opened;
        joins = tt;
        connects = h.connects;
        replaces = h.replaces;
        window = h.window;
        told = h.told;
      }

  -- the first packet of all
  pub begins : (number : ℕ) (edge : Edge) (current : ClientLeg) (has_next : Bool) (o : Opener)
      (m : Named) (came : List OnLeg)
      → All first (record {
        number = number;
        opener = None;
        edge = edge;
        current = current;
        heir = Absent;
        has_next = has_next;
      }) came
      → Opens o m → BeginsIn o.channel m → count_of opens_server (Packet m ∷ []) ≡ 0
      → (is_connection (Some o) ≡ false → count_of is_conn_b1 (Packet m ∷ []) ≡ 0)
      → (is_replacement (Some o) ≡ false → count_of (is_in_r1_a1 any) (Packet m ∷ []) ≡ 0)
      → All first (record {
        number = number;
        opener = Some o;
        edge = edge;
        current = leg_of current.number o.channel;
        heir = Absent;
        has_next = has_next;
      })
      (came ++ (ci_leg current.number, Packet m) ∷ [])
  begins number edge current has_next o m came h opens starts no_window no_b1 no_a1 =
      let at = h.start.0 in
      let one : OnLeg = (ci_leg current.number, Packet m) in
      record {
        number = h.number;
        from = h.from;
        start = tt;
        behind = tt;
        joined = h.joined;
        used = λ k a b.
            let is : current.number ≡ k = omega (arith, at, a, b) in
            subst (λ (j : ℕ). 1 ≤ packets (of_leg (ci_leg j) (came ++ one ∷ []))) is
            (let here = leg_here is_any (ci_leg current.number) came m in omega (arith, here));
        fresh = λ k a.
            let none = h.fresh k (omega (arith, at, a)) in
            let sum = leg_sum (ci_leg k) came one is_any in
            let here = ap packets (on_client current.number k (Packet m)
            (λ e. omega (arith, e, a))) in omega (arith, none, here, sum);
        opened = (
          subst (λ (j : ℕ). HasOne (Opens o) (of_leg (ci_leg j) (came ++ one ∷ []))) at
              (one_last (ci_leg current.number) came m (Opens o) opens),
          one_last (ci_leg current.number) came m (BeginsIn o.channel) starts,
        );
        joins = tt;
        connects = λ e.
            let none = h.connects refl in
            let here = no_b1 e in
            let more = kind_at_most is_conn_b1 ClientIn came one in omega (arith, none, more, here);
        replaces = λ e.
            let none = h.replaces refl in
            let here = no_a1 e in
            let more = leg_at_most (is_in_r1_a1 any) (ci_leg first) came one in
            omega (arith, none, more, here);
        window =
            let before = h.window in
            let more = leg_at_most opens_server (is_leg first) came one in
            let least = leg_rises opens_server (is_leg first) came one in
            omega (arith, before, more, least, no_window);
        told = λ e. refl;
      }

  -- the first packet on a later ci leg
  pub comes_behind : (number : ℕ) (edge : Edge) (current : ClientLeg) (has_next : Bool)
      (o : Opener) (k : ℕ) (channel : Cookie) (m : Named) (came : List OnLeg)
      → All first (record {
        number = number;
        opener = Some o;
        edge = edge;
        current = current;
        heir = Up k;
        has_next = has_next;
      }) came
      → BeginsIn channel m → count_of opens_server (Packet m ∷ []) ≡ 0
      → count_of is_conn_b1 (Packet m ∷ []) ≡ 0
      → All first (record {
        number = number;
        opener = Some o;
        edge = edge;
        current = current;
        heir = Joined (leg_of k channel) Told;
        has_next = true;
      }) (came ++ (ci_leg k, Packet m) ∷ [])
  comes_behind number edge current has_next o k channel m came h starts no_window no_b1 =
      let at = h.behind in
      let from = h.from in
      let one : OnLeg = (ci_leg k, Packet m) in
      record {
        number = h.number;
        from = h.from;
        start = tt;
        behind = h.behind;
        joined = refl;
        used = λ j a b. used_at at one h j a b (j == k) refl;
        fresh = λ j a.
            let none = h.fresh j (omega (arith, at, a)) in
            let sum = leg_sum (ci_leg j) came one is_any in
            let here = ap packets (on_client k j (Packet m) (λ e. omega (arith, e, a))) in
            omega (arith, none, here, sum);
        opened = opened_more first (record {
          number = number;
          opener = Some o;
          edge = edge;
          current = current;
          heir = Up k;
          has_next = has_next;
        }) came one h (Some o) h.opened;
        joins = one_last (ci_leg k) came m (BeginsIn channel) starts;
        connects = λ e.
            let none = h.connects e in
            let more = kind_at_most is_conn_b1 ClientIn came one in
            omega (arith, none, more, no_b1);
        replaces = λ e.
            let none = h.replaces e in
            let sum = leg_sum (ci_leg first) came one (is_in_r1_a1 any) in
            let here = ap (count_of (is_in_r1_a1 any)) (on_client k first (Packet m)
            (λ e. omega (arith, e, at, from))) in omega (arith, none, here, sum);
        window =
            let before = h.window in
            let more = leg_at_most opens_server (is_leg first) came one in
            let least = leg_rises opens_server (is_leg first) came one in
            omega (arith, before, more, least, no_window);
        told = λ e. refl;
      }
    where
      used_at : k ≡ suc current.number → (one : OnLeg)
          → All first (record {
            number = number;
            opener = Some o;
            edge = edge;
            current = current;
            heir = Up k;
            has_next = has_next;
          }) came
          → (j : ℕ) → first ≤ j → j < suc k → (b : Bool) → (j == k) ≡ b
          → 1 ≤ packets (of_leg (ci_leg j) (came ++ (ci_leg k, Packet m) ∷ []))
      used_at at one h j a b true e =
          let is : k ≡ j = sym (eqb-true j k e) in
          subst (λ (i : ℕ). 1 ≤ packets (of_leg (ci_leg i) (came ++ (ci_leg k, Packet m) ∷ []))) is
          (let here = leg_here is_any (ci_leg k) came m in omega (arith, here))
      used_at at one h j a b false e =
          let apart : j < k = grind (arith, nat_tests) in
          let some = h.used j a (omega (arith, at, apart)) in
          let more = leg_rises is_any (ci_leg j) came (ci_leg k, Packet m) in
          omega (arith, some, more)

  -- the next channel takes the place of the current one
  succeeds : (x : Seen) (leg : ClientLeg) (came : List OnLeg)
      → All first (record x { heir = Joined leg Told }) came
      → All first (record x { current = leg; heir = Absent; has_next = false }) came
  succeeds x leg came h = record {
    number = h.number;
    from = let at = h.behind in let from = h.from in omega (arith, at, from);
    start = starts x.opener h.start;
    behind = tt;
    joined = refl;
    used = λ k a b. h.used k a (let same = bound_is x.opener in omega (arith, same, b));
    fresh = λ k a. h.fresh k (let same = bound_is x.opener in omega (arith, same, a));
    opened = opens x.opener h.opened h.joins;
    joins = tt;
    connects = h.connects;
    replaces = h.replaces;
    window = h.window;
    told = h.told;
  }
    where
      starts : (o : Option Opener) → Starts first o x.current (Joined leg Told)
          → Starts first o leg Absent
      starts None b = absurd (let e = b.1 in cc)
      starts (Some o) b = tt

      bound_is : (o : Option Opener)
          → bound first o leg Absent ≡ bound first o x.current (Joined leg Told)
      bound_is None = refl
      bound_is (Some o) = refl

      opens : (o : Option Opener) → Opened first o x.current came
          → HasBegunIn leg.cookie (of_leg (ci_leg leg.number) came) → Opened first o leg came
      opens None b c = tt
      opens (Some o) b c = (b.0, c)

  -- no next one is there
  still : (x : Seen) (z : Successor) (came : List OnLeg) → is_joined z ≡ false
      → All first (record x { heir = z }) came
      → All first (record x { heir = z; has_next = false }) came
  still x z came e h = record {
    number = h.number;
    from = h.from;
    start = h.start;
    behind = h.behind;
    joined = sym e;
    used = h.used;
    fresh = h.fresh;
    opened = h.opened;
    joins = h.joins;
    connects = h.connects;
    replaces = h.replaces;
    window = h.window;
    told = h.told;
  }

  pub follow : (has_next : Bool) (x : Seen) (z : Successor) (came : List OnLeg)
      → (has_next ≡ x.has_next) ⊎ (has_next ≡ false)
      → All first (record x { heir = plain z }) came
      → All first (record x {
        current = (follows has_next x.current z).0;
        heir = plain (follows has_next x.current z).1;
        has_next = has_next;
      }) came
  follow true x z came (inl same) h =
      subst (λ (b : Bool). All first (record x { heir = plain z; has_next = b }) came) (sym same) h
  follow true x z came (inr gone) h = absurd cc
  follow false x Absent came fewer h = still x Absent came refl h
  follow false x (Up number) came fewer h = still x (Up number) came refl h
  follow false x (Joined leg stage) came fewer h = succeeds x leg came h
