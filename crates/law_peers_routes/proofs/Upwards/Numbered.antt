-- which in proxy reads which channel, and which legs the server knows
use Rattle.law_order.proofs.Vocabulary.{◌≡◌, ◌≢◌, ◌⊎◌, ℕ, zero, suc, ◌+◌, ◌-◌, ◌==◌, ◌<◌, ◌≤◌, ◌&&◌, ◌||◌, List, [], Bool, true, false, not, nat_eq, nat_lt, refl, sym, ap, ◌∙◌, subst, arith, inl, inr, ⊎_elim, true≢false, cases_eq, and_parts, eq-eqb, lt-ltb, ltb-true, or_right, nat_tests, if◌then◌else◌, Item, has_handover, Log, PasserLaw, Route, IsRoute, Taker, TakerLaw}
use Rattle.rh_server.specs.Servers as server
use Rattle.law_moves.proofs.Vocabulary.{same_number, other_number, test_other, ClientConfig, EndPassage, end_started, Event, EndEvent}
use Rattle.law_role_inproxy.proofs.Vocabulary.{InProxyConfig, Successor, Absent, Up, Joined, has_passed, is_absent}
use Rattle.law_role_inproxy.specs.Order as proxy_order
use Rattle.law_role_server.proofs.Vocabulary.{Server}
use Rattle.law_role_server.specs.Order as server_order
use Rattle.law_node_history.proofs.Vocabulary.{came_up}
use Rattle.law_node_begins.specs.ProxiesBegin.Pipes.{ci as client_leg}
use Rattle.law_peers_routes.proofs.Upwards.Counts.{AreRead, AreMade, IsCarried, Counted, none_counted}
use Rattle.law_peers_routes.proofs.Upwards.InProxySteps.{top}
use Rattle.law_peers_routes.proofs.Upwards.Laws.{Laws, AreBegun}
use Rattle.law_peers_routes.proofs.Upwards.Passed.{gives, keeps, takes, proxy_holds, near, far, told_less, idle_came, idle_got, spoke_made, has_own}
use Rattle.law_peers_routes.proofs.Upwards.Rising.{rose}
use Rattle.law_peers_routes.proofs.Upwards.ServerMoves.{moves_hold}
use Rattle.law_peers_routes.proofs.Upwards.Told.{carried}
use Rattle.law_peers_routes.proofs.Upwards.InProxyMoves as proxy_moves
use Rattle.law_peers_routes.proofs.Upwards.ServerMoves as server_moves
use Rattle.law_peers_routes.specs.Upwards.{GoesUp, has_leg, is_known, up_route}

-- the newest ci leg is the current one, where none is behind it
top_alone : (n : ℕ) (z : Successor) → is_absent z ≡ true → top n z ≡ n
top_alone n Absent e = refl
top_alone n (Up number) e = absurd cc
top_alone n (Joined leg stage) e = absurd cc

neither_of : (a b c : Bool) → b ≡ false → c ≡ false → a && (b || c) ≡ false
neither_of true b c p q = ap (λ t. t || c) p ∙ q
neither_of false b c p q = refl

-- a taker asks of no number behind the one that follows whether it has a leg
known_before : (following n : ℕ) (legs : ℕ → Bool) → n < following
    → not (nat_lt n following) || legs n ≡ legs n
known_before following n legs below =
    ap (λ b. not b || legs n) (lt-ltb n following below)

knows_less : (t : Taker) (legs : ℕ → Bool) (came : Log) → TakerLaw t legs came
    → TakerLaw t (λ n. not (nat_lt n t.shelves.following) || legs n) came
knows_less t legs came law =
    let above = law.above in
    record {
      holds = law.holds;
      above = law.above;
      past = λ n below is.
          law.past n below (sym (known_before t.shelves.following n legs
          (omega (arith, below, above))) ∙ is);
      between = λ n more less.
          let one = law.between n more less in
          (known_before t.shelves.following n legs less ∙ one.0, one.1);
      unfinished = law.unfinished;
      later = law.later;
      channel = law.channel;
    }

module _ (laws : Laws) (config : ClientConfig) (window : ℕ) (in_config : ℕ → InProxyConfig)
    (client_events server_events : List EndEvent) (ins : ℕ → List Event) (made : ℕ → Bool)
    (reader : ℕ → ℕ)
    (g : GoesUp config window in_config client_events server_events ins made reader)
    (begun : AreBegun g.giver.passage (λ n. (g.proxies n).passage)) where
  -- ---- in proxies

  abbrev newest : ℕ → ℕ
  newest m = top (g.proxies m).passage.role.current.number (g.proxies m).passage.role.successor

  holds : (m : ℕ) → proxy_moves.Holds m (λ n. rose (client_leg n) (g.proxies m).leads.moves)
      (g.proxies m).passage
  holds m = proxy_holds laws config window in_config client_events server_events ins made reader g
      begun m

  -- the legs behind its own, up to the newest one, came up at in proxy m, which reads them
  reads_on : (m n : ℕ) → m < n → n ≤ newest m → came_up (client_leg n) (ins m) ≡ true
  reads_on m n above below =
      sym ((g.proxies m).ups (client_leg n)) ∙ (holds m).all n above below

  own : (n : ℕ) → made n ≡ true → has_leg reader n ≡ true
  own = has_own laws config window in_config client_events server_events ins made reader g begun

  above_none : (m : ℕ) → has_leg reader m ≡ true → 0 < m
  above_none m e =
      ltb-true 0 m (and_parts (nat_lt 0 m) (reader m == m || reader m == 0) e).0

  -- a channel with no reader has a far leg
  none_reads : (n : ℕ) → 0 < n → reader n ≡ 0 → has_leg reader n ≡ true
  none_reads n above unread =
      ap (λ b. b && (reader n == n || reader n == 0)) (lt-ltb 0 n above)
      ∙ or_right (reader n == n) (reader n == 0) (eq-eqb (reader n) 0 unread)

  first : has_leg reader 1 ≡ true
  first =
      ⊎_elim (none_reads 1 (omega arith))
      (λ some. ⊎_elim (own 1)
      (λ before. absurd (some (before.0 ∙ g.readers.unread))) (g.readers.opened 1 some))
      (cases_eq (reader 1) 0)

  -- one behind another has none, where that one reads it
  not_own : (m n : ℕ) → 0 < m → m < n → reader n ≡ m → has_leg reader n ≡ false
  not_own m n some above read =
      neither_of (nat_lt 0 n) (reader n == n) (reader n == 0)
      (test_other (reader n) n (λ e. absurd (omega (arith, e, read, above))))
      (test_other (reader n) 0 (λ e. absurd (omega (arith, e, read, some))))

  reads : (m n : ℕ) → has_leg reader m ≡ true → m < n
      → n ≤ (g.proxies m).passage.role.current.number → has_leg reader n ≡ false
  reads m n has above below =
      not_own m n (above_none m has) above
      (g.readers.reads m n (reads_on m n above
      (let r = (holds m).above in omega (arith, r, below))))

  -- ---- a mark

  -- what came on the current ci leg of an in proxy that put its mark
  module _ (m : ℕ) (has : has_leg reader m ≡ true)
      (put : has_passed (g.proxies m).passage.role.handover ≡ true) where
    abbrev current : ℕ
    current = (g.proxies m).passage.role.current.number

    law : PasserLaw (proxy_order.passer_of (g.proxies m).passage.role) m
        (proxy_order.came_log (g.proxies m).passage.came)
        (proxy_order.put_items (g.proxies m).passage.put)
    law = keeps laws config window in_config client_events server_events ins made reader g begun m

    marked : has_handover (proxy_order.came_log (g.proxies m).passage.came current) ≡ true
    marked = sym law.shelved.holds.finished ∙ (law.handover_came put).0

    -- so it was made, and reads it
    was_made : made m ≡ true
    was_made = by (made m) refl
      where
        by : (b : Bool) → made m ≡ b → b ≡ true
        by true e = refl
        by false e =
            absurd (true≢false (sym marked ∙ ap has_handover (idle_came laws config window in_config
            client_events server_events ins made reader g begun m current e)))

    is_reader : reader current ≡ m
    is_reader = by (nat_eq current m) refl
      where
        by : (b : Bool) → nat_eq current m ≡ b → reader current ≡ m
        by true e =
            subst (λ n. reader n ≡ m) (sym (same_number current m e)) (g.readers.own m was_made)
        by false e =
            let other = other_number current m e in
            let from = law.from in
            g.readers.reads m current (reads_on m current (omega (arith, other, from))
            (holds m).above)

    -- no later ci leg came up there
    not_later : came_up (client_leg (suc current)) (ins m) ≡ true → ⊥
    not_later e =
        let most = (holds m).most (suc current)
        ((g.proxies m).ups (client_leg (suc current)) ∙ e) in
        let alone = top_alone current (g.proxies m).passage.role.successor ((holds m).last put) in
        absurd (omega (arith, most, alone))

    handed : has_leg reader (suc current) ≡ true
    handed =
        ⊎_elim (none_reads (suc current) (omega arith))
        (λ some. ⊎_elim (own (suc current)) by (g.readers.opened (suc current) some))
        (cases_eq (reader (suc current)) 0)
      where
        by : (reader (suc current) ≡ reader (suc current - 1))
            × (came_up (client_leg (suc current)) (ins (reader (suc current))) ≡ true)
            → has_leg reader (suc current) ≡ true
        by e =
            let back : suc current - 1 ≡ current = omega arith in
            let same : reader (suc current) ≡ m = e.0 ∙ ap reader back ∙ is_reader in
            absurd (not_later (subst (λ k. came_up (client_leg (suc current)) (ins k) ≡ true) same
            e.1))

  -- ---- the server

  abbrev came_up_at : ℕ → ℕ → Bool
  came_up_at m n = came_up (client_leg n) (ins m)

  abbrev told_by : ℕ → ℕ
  told_by m = carried (g.proxies m).passage.put m

  are_read : AreRead made reader came_up_at told_by
  are_read = record {
    own = g.readers.own;
    read = g.readers.reads;
    all = λ m j some within.
        reads_on m (m + j) (omega (arith, some))
        (let r = (holds m).told in omega (arith, r, within));
  }

  abbrev server_role : Server
  server_role = g.taker.passage.passage.role

  abbrev server_ups : ℕ → Bool
  server_ups n = server_order.came_up g.taker.leads.moves n

  server_holds : server_moves.Holds made reader came_up_at told_by are_read server_ups
      g.taker.passage.passage
  server_holds =
      subst (λ (p : EndPassage Server). server_moves.Holds made reader came_up_at told_by are_read
      server_ups p.passage) g.taker.leads.reached
      (moves_hold made reader came_up_at told_by are_read [] (end_started (server.first window))
      g.taker.leads.moves g.taker.leads.allowed (record {
        kept = record {
          ins = tt;
          current = inr refl;
          next = λ e. absurd cc;
          newest = refl;
        };
        counted = λ within.
            none_counted made reader came_up_at told_by are_read (λ n. false) (carried [])
            (λ n. refl) (λ n. refl);
      }))

  counted : Counted made reader came_up_at told_by are_read server_ups
      (carried g.taker.passage.passage.came) server_role.newest_in
  counted = server_holds.counted
      (λ n. told_less laws config window in_config client_events server_events ins made reader g
      begun n)

  -- the leg of the current channel
  abbrev at : ℕ
  at = server_role.current.leg

  at_made : at ≢ 1 → made at ≡ true
  at_made later =
      ⊎_elim (spoke_made laws config window in_config client_events server_events ins made reader g
      begun at) (λ first. absurd (later first)) server_holds.kept.current

  here : has_leg reader at ≡ true
  here =
      ⊎_elim (λ one. subst (λ n. has_leg reader n ≡ true) (sym one) first)
      (λ later. own at (at_made later)) (cases_eq at 1)

  abbrev following : ℕ
  following = server_order.following server_role

  law_there : TakerLaw (server_order.taker_of g.taker.passage.taken server_role)
      (server_order.has_leg g.taker.leads.moves server_role) (server_order.got g.taker.passage)
  law_there =
      takes laws config window in_config client_events server_events ins made reader g begun

  knows_up : (n : ℕ) → server_ups n ≡ true
      → server_order.has_leg g.taker.leads.moves server_role n ≡ true
  knows_up n e = or_right (nat_lt server_role.newest_in n) (server_ups n) e

  -- a leg that came up below the channel that follows is that of an in proxy that was made: its
  -- mark came, or it is the current one
  made_below : (k n : ℕ) → 1 < k → k < n → n < following → server_ups k ≡ true → made k ≡ true
  made_below k n some below within up =
      by (nat_lt k at) (nat_eq k at) refl refl
    where
      by_made : (b : Bool) → made k ≡ b → has_handover (server_order.got g.taker.passage k) ≡ true
          → b ≡ true
      by_made true e mark = refl
      by_made false e mark =
          absurd (true≢false (sym mark ∙ ap has_handover (idle_got laws config window in_config
          client_events server_events ins made reader g begun k e)))

      by : (a b : Bool) → nat_lt k at ≡ a → nat_eq k at ≡ b → made k ≡ true
      by true b p q =
          by_made (made k) refl (law_there.past k (ltb-true k at p) (knows_up k up))
      by false true p q =
          let same = same_number k at q in
          subst (λ j. made j ≡ true) (sym same)
          (at_made (λ one. absurd (omega (arith, one, same, some))))
      by false false p q =
          let above : at < k = grind (arith, nat_tests) in
          absurd (true≢false (sym (knows_up k up)
          ∙ (law_there.between k above (omega (arith, below, within))).0))

  -- a number with a leg of its own is that of a leg which came up
  is_given : (n : ℕ) → has_leg reader n ≡ true
      → (server_ups n ≡ true)
      ⊎ IsCarried made reader came_up_at told_by are_read (carried g.taker.passage.passage.came) n
      → server_ups n ≡ true
  is_given n has (inl e) = e
  is_given n has (inr e) = absurd (by e.on refl)
    where
      by : (k : ℕ) → e.on ≡ k → ⊥
      by zero same =
          let none_there : ins e.on ≡ [] =
          subst (λ k. ins k ≡ []) (sym same) (g.readers.unmade 0 g.readers.none) in
          true≢false (sym e.read ∙ ap (came_up (client_leg n)) none_there)
      by (suc k) same =
          true≢false (sym has ∙ not_own e.on n (omega (arith, same)) e.above
          (g.readers.reads e.on n e.read))

  known : (n : ℕ) → has_leg reader n ≡ true
      → is_known g.taker.leads.moves server_role n ≡ true
  known n has = behind (nat_lt n following) refl
    where
      -- up to n all legs that came up are those of in proxies, where it did not come up
      up : server_ups n ≡ false → n < following
          → AreMade made reader came_up_at told_by are_read server_ups n
      up down within k some low e =
          made_below k n some (below (nat_eq k n) refl) within e
        where
          below : (b : Bool) → nat_eq k n ≡ b → k < n
          below true same =
              absurd (true≢false (sym e ∙ ap server_ups (same_number k n same) ∙ down))
          below false same =
              let other = other_number k n same in omega (arith, other, low)

      by_up : (b : Bool) → server_ups n ≡ b → n < following → n ≤ server_role.newest_in
          → b ≡ true
      by_up true e within low = refl
      by_up false e within low =
          sym e ∙ is_given n has
          (counted.given n low (up e within) n (above_none n has) (omega arith))

      by : (b : Bool) → nat_lt server_role.newest_in n ≡ b → n < following
          → b || server_ups n ≡ true
      by true e within = refl
      by false e within = by_up (server_ups n) refl within (grind (arith, nat_tests))

      behind : (b : Bool) → nat_lt n following ≡ b
          → not b || server_order.has_leg g.taker.leads.moves server_role n ≡ true
      behind false e = refl
      behind true e = by (nat_lt server_role.newest_in n) refl (ltb-true n following e)

  -- ---- the route

  abbrev route : Route
  route = up_route reader g.giver.passage (λ m. (g.proxies m).passage) g.taker.leads.moves
      g.taker.passage

  pub goes_up : IsRoute route
  goes_up = record {
    giver = gives laws config window in_config client_events server_events ins made reader g begun;
    passers = λ m has.
        subst (λ (put : List Item). PasserLaw (proxy_order.passer_of (g.proxies m).passage.role) m
        (proxy_order.came_log (g.proxies m).passage.came) put)
        (sym (ap (λ b. if b then proxy_order.put_items (g.proxies m).passage.put else []) has))
        (keeps laws config window in_config client_events server_events ins made reader g begun m);
    taker =
        knows_less (server_order.taker_of g.taker.passage.taken server_role)
        (server_order.has_leg g.taker.leads.moves server_role) (server_order.got g.taker.passage)
        law_there;
    near = λ m n has.
        near laws config window in_config client_events server_events ins made reader g begun m n;
    far = far laws config window in_config client_events server_events ins made reader g begun;
    numbered = record {
      none = refl;
      first = first;
      reads = reads;
      handed = handed;
      unused = λ n e.
          ap (λ b. if b then proxy_order.put_items (g.proxies n).passage.put else []) e;
      known = known;
      here = here;
    };
  }
