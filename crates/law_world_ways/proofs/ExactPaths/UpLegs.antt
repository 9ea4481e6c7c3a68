-- the legs up, while all nodes go on: each gives all, or its handover mark or END passed
use Rattle.rh_text.specs.declared.ends.Side.TheVariants as side
use Rattle.law_order.proofs.Vocabulary.{◌≡◌, ◌≢◌, ◌⊎◌, inl, inr, ◌<◌, ◌≤◌, ◌==◌, ◌&&◌, ◌||◌, ℕ, zero, suc, List, [], ◌++◌, Bool, true, false, true≢false, nat_lt, if◌then◌else◌, Some, arith, refl, sym, ap, ◌∙◌, subst, list_all, cases_Bool, cases_eq, eq-eqb, lt-ltb, nat_tests, IsPrefix, Item, has_end, below, seen, from_first, reader, stops_at, Route}
use Rattle.rh_record.specs.declared.answer.Who.TheVariants as who
use Rattle.rh_inproxy.specs.Machine as in_proxy
use Rattle.rh_server.specs.Servers as server
use Rattle.law_moves.proofs.Vocabulary.{U, D, below_empty, nil_front, reader_at, prefix_self, CiU, IsU, is_in_use, EndEvent, Event, of_leg, messages_read}
use Rattle.law_role_inproxy.proofs.Vocabulary.{InProxy, item_came, put_items}
use Rattle.law_role_inproxy.specs.Order as in_order
use Rattle.law_role_client.proofs.Vocabulary.{up_items}
use Rattle.law_role_server.proofs.Vocabulary.{in_items}
use Rattle.law_node_history.proofs.Vocabulary.{reader_of, Makers, came_up, happened, heard_on, AreAllowed, Change, of_line, History, IsNew, all_noted, nothing}
use Rattle.law_node_history.proofs.Lemmas.{came_append, happened_append, not_both, or_left as or_first, or_true as or_second}
use Rattle.law_role_outproxy.proofs.Vocabulary.{OutProxy}
use Rattle.law_node_begins.specs.ProxiesBegin.Pipes.{ci, in_pipe, is}
use Rattle.law_node_begins.specs.EndsBegin.{server_reads}
use Rattle.law_node_traces.proofs.Vocabulary.{is_made, AreOurs, deeds, rules}
use Rattle.law_peers_routes.proofs.Upwards.JoinedLegs.{client_put, proxy_came, server_came}
use Rattle.law_peers_routes.specs.Upwards.{has_leg}
use Rattle.law_world_order.proofs.Marked.{up_is_route}
use Rattle.law_world_order.proofs.Moments.{OurWorld}
use Rattle.law_world_order.proofs.Vocabulary.{up_route_of, numbers_of}
use Rattle.law_world_ways.proofs.ExactWays.Passing.{in_passes, server_passes}
use Rattle.law_world_ways.proofs.ExactWays.ReadBy.{read_by}
use Rattle.law_world_ways.proofs.ExactPaths.Streams.{InStream, ServerStream, ci_passed, is_passed}
use Rattle.law_world_ways.proofs.ExactPaths.Fates.{Facts, goes_or_passed, never_lost, unlost_came}
use Rattle.law_world_ways.proofs.ExactPaths.Fronts.{front_more}
use Rattle.law_world_ways.proofs.ExactPaths.Grown.{in_grown, server_grown}
use Rattle.law_world_ways.proofs.ExactPaths.Receivers.{in_later, in_passed, server_later}
use Rattle.law_world_ways.proofs.ExactPaths.Shelves.{either, passed_more}
use Rattle.law_world_ways.proofs.ExactPaths.Unlost.{not_left, over_parts}
use Rattle.law_world_ways.proofs.ExactPaths.AtFronts.{NodeLaws, WorldLaws}
use Rattle.law_world_ways.proofs.OnPaths.Used.{passed_goes}
use Rattle.law_world_ways.proofs.ExactPaths.AtFronts as worlds
use Rattle.law_world_ways.specs.EndsInTime.InTime.{AllEndInTime}
use Rattle.law_world_ways.specs.OnPaths.Legs.{has_passed, was_up}
use Rattle.law_world_ways.specs.OnPaths.OnWay.{is_lost, items_on_way}
use Rattle.law_world_ways.specs.OnPaths.Ways.{AreOnTheirWay, client_node, in_node, server_node, up_far, up_lost}
use Rattle.law_world_ways.specs.ExactWays.Pdus.{IsBehindEnd, NoneStopsButBehindEnd}
use Rattle.law_world_ways.specs.ExactPaths.GoingOn.{AllGoOn}
use Rattle.law_world_ways.specs.ExactPaths.Over.{IsOverUpwards}

if_there : (b : Bool) (items : List Item) → b ≡ true → (if b then items else []) ≡ items
if_there true items e = refl
if_there false items e = absurd (true≢false (sym e))

above_zero : (reads : ℕ → ℕ) (n : ℕ) → has_leg reads n ≡ true → 0 < n
above_zero reads zero e = absurd (true≢false (sym e))
above_zero reads (suc n) e = omega arith

module _ {K : Type 0} (m : Makers K InProxy OutProxy) (w : OurWorld K) (new : IsNew w)
    (ours : AreOurs m w.company w.cast) (node : NodeLaws) (law : WorldLaws m w ours)
    (changes : List Change) (allowed : AreAllowed rules m deeds w changes)
    (works : list_all of_line changes ≡ true)
    (in_time : AllEndInTime rules m deeds w changes)
    (going : AllGoOn (numbers_of ours) (all_noted rules m deeds w nothing changes)) where
  abbrev W : List Change → OurWorld K
  W e = worlds.W m w new ours node law changes allowed works going e

  abbrev H : List Change → History
  H e = worlds.H m w new ours node law changes allowed works going e

  abbrev At : List Change → Type 0
  At e = IsPrefix e changes

  abbrev ways : (e : List Change) (here : At e) → AreOnTheirWay (numbers_of ours) (W e) (H e)
  ways e here = worlds.ways m w new ours node law changes allowed works going e here

  abbrev up : (e : List Change) (here : At e) → Route
  up e here = up_route_of (ways e here).directions

  -- ---- from the client to an in proxy

  module _ (n : ℕ) (some : 0 < n) where
    abbrev reads : List Change → ℕ
    reads e = reader_of (W e).readers n

    abbrev NearPassed : List Change → Type 0
    NearPassed e = (s : InStream (numbers_of ours) (H e) (reads e)) → ci_passed s.passage n

    is_from : (e : List Change) (here : At e) → reads e ≢ 0
        → from_first (ours.in_config (reads e)).number n ≡ true
    is_from e here read =
        let at_most =
        ((worlds.known m w new ours node law changes allowed works going e here).read.each n
        read).below in
        ap (λ (k : ℕ). from_first k n) (ours.in_number (reads e)) ∙ tested (reads e) at_most
      where
        tested : (k : ℕ) → k ≤ n → from_first k n ≡ true
        tested k within = grind (arith, nat_tests)

    -- what was put there was put behind the leg's coming up, which has a reader then
    is_read : (e : List Change) (here : At e) → has_passed ((up e here).sent n) ≡ true
        → reads e ≢ 0
    is_read e here passed =
        (worlds.led m w new ours node law changes allowed works going e here).led n some
        (by (cases_Bool (came_up (ci n) (happened (H e).client))))
      where
        none : came_up (ci n) (happened (H e).client) ≡ false → (up e here).sent n ≡ []
        none down =
            let s = (ways e here).directions.up.giver in
            client_put s.passage.passage.put n ∙ ap (seen up_items) (s.unput (ci n) down)

        by : (came_up (ci n) (happened (H e).client) ≡ true)
            ⊎ (came_up (ci n) (happened (H e).client) ≡ false)
            → came_up (ci n) (happened (H e).client) ≡ true
        by (inl rose) = rose
        by (inr down) =
            absurd (true≢false (sym passed ∙ ap has_passed (none down)))

    near_later : (e more : List Change) (here : At (e ++ more)) (read : reads e ≢ 0)
        (s : InStream (numbers_of ours) (H e) (reads e)) → ci_passed s.passage n
        → NearPassed (e ++ more)
    near_later e more here read s passed =
        subst (λ (k : ℕ). (t : InStream (numbers_of ours) (H (e ++ more)) k)
        → ci_passed t.passage n)
        (sym (worlds.same_reader m w new ours node law changes allowed works going e more here n
        read))
        (λ t. in_later node.in_order (ours.in_config (reads e)) n
        (is_from e (front_more e more changes here) read) ((H e).ins (reads e))
        ((H (e ++ more)).ins (reads e)) (in_grown rules m deeds w e more (reads e))
        (worlds.in_growing m w new ours node law changes allowed works going (e ++ more) here
        (reads e)) s passed t)

    -- nothing came to a proxy at which nothing happened
    none_came : (h : History) (k : ℕ) (s : InStream (numbers_of ours) h k) → h.ins k ≡ []
        → in_passed s.passage.came n ≡ false
    none_came h k s none =
        ap (λ (items : List Item).
        has_passed items || has_end (below (in_order.came_log s.passage.came) n)) (empty n)
        ∙ ap has_end (below_empty (in_order.came_log s.passage.came) n (λ j within. empty j))
      where
        empty : (j : ℕ) → in_order.came_log s.passage.came j ≡ []
        empty j =
            let read = s.read (ci j) in
            let pipe = in_pipe (ours.in_config k) (ci j) in
            proxy_came s.passage.came j
            ∙ ap (seen item_came) (nil_front (of_leg (ci j) s.passage.came) read.0
            (read.1 ∙ ap (λ (events : List Event).
            messages_read pipe (heard_on (ci j) events)) none))

    near_stays : (e more : List Change) → At (e ++ more) → NearPassed e → NearPassed (e ++ more)
    near_stays e more here done = by (cases_eq (reads e) 0)
      where
        front : At e
        front = front_more e more changes here

        s : InStream (numbers_of ours) (H e) (reads e)
        s = (ways e front).directions.up.proxies (reads e)

        by : (reads e ≡ 0) ⊎ (reads e ≢ 0) → NearPassed (e ++ more)
        by (inr read) = near_later e more here read s (done s)
        by (inl zero_is) =
            let readers = (ways e front).directions.up.readers in
            not_both (in_passed ((ways e front).directions.up.proxies (reads e)).passage.came n)
            (done s)
            (none_came (H e) (reads e) s
            (ap (H e).ins zero_is ∙ readers.unmade 0 readers.none))

    near_passes : (e : List Change) (here : At e)
        → came_up (ci n) ((H e).ins (reads e)) ≡ true
        → is_in_use in_proxy.rules (in_node (numbers_of ours) (H e) (reads e)).role (ci n)
        ≡ false
        → NearPassed e
    near_passes e here rose unused s =
        both (in_passes node.in_law (ours.in_config (reads e)) n ((H e).ins (reads e)) s
        (law.in_echoes (W e)
        (worlds.by_front m w new ours node law changes allowed works going e here) (reads e) s)
        ((node.knows_in (ours.in_config (reads e)) ((H e).ins (reads e)) (ci n)
        (worlds.in_accepted m w new ours node law changes allowed works going e here
        (reads e))).known rose) unused)
      where
        both : (has_passed (in_order.came_log s.passage.came n) ≡ true)
            ⊎ (has_end (below (in_order.came_log s.passage.came) n) ≡ true)
            → ci_passed s.passage n
        both (inl e) =
            or_first (has_passed (in_order.came_log s.passage.came n))
            (has_end (below (in_order.came_log s.passage.came) n)) e
        both (inr e) =
            or_second (has_passed (in_order.came_log s.passage.came n))
            (has_end (below (in_order.came_log s.passage.came) n)) e

    near_facts : Facts rules m deeds w changes in_time (ci n) U (Some CiU) in_proxy.rules
        (λ e. client_node (numbers_of ours) (H e))
        (λ e. in_node (numbers_of ours) (H e) (reads e)) item_came
        (λ e here. (up e here).sent n)
        (λ e here. (up e here).came (reader (up e here).legs n) n) NearPassed
    near_facts = record {
      puts_on = worlds.client_goes m w new ours node law changes allowed works going;
      takes_on = λ e here.
          worlds.in_goes m w new ours node law changes allowed works going e here (reads e);
      told = worlds.told_ends m w new ours node law changes allowed works going (ci n);
      left = worlds.left_ends m w new ours node law changes allowed works going (ci n);
      kept = λ e here rose untold.
          node.keeps_in (ours.in_config (reads e)) ((H e).ins (reads e)) (ci n)
          (worlds.in_accepted m w new ours node law changes allowed works going e here (reads
          e))
          rose untold
          (worlds.in_goes m w new ours node law changes allowed works going e here (reads e));
      absent = λ e here.
          (node.knows_in (ours.in_config (reads e)) ((H e).ins (reads e)) (ci n)
          (worlds.in_accepted m w new ours node law changes allowed works going e here
          (reads e))).absent;
      live = λ e here.
          law.live_in (W e)
          (worlds.by_front m w new ours node law changes allowed works going e here) (reads e)
          (ci n)
          (worlds.in_goes m w new ours node law changes allowed works going e here (reads e));
      passes = λ e here rose unused. near_passes e here rose unused;
      finished = λ e here up done untold.
          near_passes e here up
          (worlds.in_unused m w new ours node law changes allowed works going e here (reads e)
          (ci n) done up untold);
      rose = λ e here.
          worlds.rose m w new ours node law changes allowed works going e here (ci n);
      put = λ e here is_up up done untold. (
        worlds.client_drawn m w new ours node law changes allowed works going e here (ci n)
            (was_up (W e) (H e) (ci n) side.Client) done untold,
        worlds.client_put m w new ours node law changes allowed works going e here n done up
            untold (ways e here).directions.up.giver,
      );
      arrives = λ e here kept. (ways e here).up.arrives.near n some kept;
      came_is = λ e here passed.
          let route = up_is_route node.routes (ways e here).directions in
          let prefix = route.near (reader (up e here).legs n) n
          (reader_at (up e here) route n some).is_leg in
          let put : has_passed ((up e here).sent n) ≡ true =
          subst (λ (items : List Item). has_passed items ≡ true) prefix.1
          (passed_more ((up e here).came (reader (up e here).legs n) n) prefix.0 passed) in
          let read = is_read e here put in
          let same = read_by (W e).readers (is_made (W e).company)
          (worlds.known m w new ours node law changes allowed works going e here).read n read in
          let s = (ways e here).directions.up.proxies (reads e) in
          λ t. in_later node.in_order (ours.in_config (reads e)) n (is_from e here read)
          ((H e).ins (reads e)) ((H e).ins (reads e)) (prefix_self ((H e).ins (reads e)))
          (worlds.in_growing m w new ours node law changes allowed works going e here (reads
          e)) s
          (or_first (has_passed (in_order.came_log s.passage.came n))
          (has_end (below (in_order.came_log s.passage.came) n))
          (subst (λ (k : ℕ). has_passed ((up e here).came k n) ≡ true) same passed)) t;
      stays = near_stays;
    }

    -- at a moment at which it is over
    pub near_came : IsOverUpwards rules (W changes) (H changes) (ci n)
        → (has_passed ((up changes (prefix_self changes)).came
        (reader (up changes (prefix_self changes)).legs n) n) ≡ true)
        ⊎ (is_in_use in_proxy.rules
        (in_node (numbers_of ours) (H changes) (reads changes)).role (ci n) ≡ false)
    near_came over =
        unlost_came rules m deeds w changes in_time (ci n) U (Some CiU) in_proxy.rules
        (λ e. client_node (numbers_of ours) (H e))
        (λ e. in_node (numbers_of ours) (H e) (reads e)) item_came
        (λ e here. (up e here).sent n)
        (λ e here. (up e here).came (reader (up e here).legs n) n) NearPassed near_facts changes
        (prefix_self changes)
        (not_left rules (W changes) (H changes) (ci n) over side.Server)
        (not_left rules (W changes) (H changes) (ci n) over side.Client)
        (over.untold side.Server) (over.untold side.Client) (over.up side.Client)
        (over_parts rules (W changes) (H changes) (ci n) over).0
        (over_parts rules (W changes) (H changes) (ci n) over).1

  -- ---- and from an in proxy that was made to the server

  module _ (n : ℕ) (some : 0 < n) (made : is_made (W changes).company n ≡ true) where
    record FarPassed (e : List Change) : Type 0 where
      rose : came_up (is n) (happened (H e).server) ≡ true
      passed : (s : ServerStream (numbers_of ours) (H e)) → is_passed s.passage n

    -- it has a leg of its own at each front
    has_one : (e : List Change) → At e → has_leg (reader_of (W e).readers) n ≡ true
    has_one e here = by (cases_eq (reader_of (W e).readers n) 0)
      where
        last : reader_of (W changes).readers n ≡ n
        last =
            (worlds.order m w new ours node law changes allowed works going changes
            (prefix_self changes)).own n made

        tested : (k : ℕ) → (k ≡ n) ⊎ (k ≡ 0) → (nat_lt 0 n && (k == n || k == 0)) ≡ true
        tested k (inl same) =
            ap (λ (t : Bool). t && (k == n || k == 0)) (lt-ltb 0 n some)
            ∙ or_first (k == n) (k == 0) (eq-eqb k n same)
        tested k (inr none) =
            ap (λ (t : Bool). t && (k == n || k == 0)) (lt-ltb 0 n some)
            ∙ or_second (k == n) (k == 0) (eq-eqb k 0 none)

        by : (reader_of (W e).readers n ≡ 0) ⊎ (reader_of (W e).readers n ≢ 0)
            → has_leg (reader_of (W e).readers) n ≡ true
        by (inl none) = tested (reader_of (W e).readers n) (inr none)
        by (inr read) =
            tested (reader_of (W e).readers n)
            (inl (sym (worlds.same_reader m w new ours node law changes allowed works going e
            here.0 (subst At (sym here.1) (prefix_self changes)) n read)
            ∙ ap (λ (cs : List Change). reader_of (W cs).readers n) here.1 ∙ last))

    rose_later : (e more : List Change) → came_up (is n) (happened (H e).server) ≡ true
        → came_up (is n) (happened (H (e ++ more)).server) ≡ true
    rose_later e more rose =
        let p = server_grown rules m deeds w e more in
        subst (λ (events : List EndEvent). came_up (is n) (happened events) ≡ true) p.1
        (ap (came_up (is n)) (happened_append (H e).server p.0)
        ∙ came_append (is n) (happened (H e).server) (happened p.0)
        ∙ or_first (came_up (is n) (happened (H e).server)) (came_up (is n) (happened p.0)) rose)

    far_later : (e more : List Change) (here : At (e ++ more))
        → came_up (is n) (happened (H e).server) ≡ true
        → (s : ServerStream (numbers_of ours) (H e)) → is_passed s.passage n
        → FarPassed (e ++ more)
    far_later e more here rose s passed = record {
      rose = rose_later e more rose;
      passed = server_later node.server_order ours.window n (H e).server (H (e ++ more)).server
          rose (rose_later e more rose) (server_grown rules m deeds w e more)
          (worlds.server_growing m w new ours node law changes allowed works going (e ++ more)
          here) s passed;
    }

    -- what came came behind the leg's coming up
    got_rose : (e : List Change) (here : At e) → has_passed ((up e here).got n) ≡ true
        → came_up (is n) (happened (H e).server) ≡ true
    got_rose e here passed = by (cases_Bool (came_up (is n) (happened (H e).server)))
      where
        none : came_up (is n) (happened (H e).server) ≡ false → (up e here).got n ≡ []
        none down =
            let s = (ways e here).directions.up.taker in
            let traced = (worlds.known m w new ours node law changes allowed works going e
            here).traced in
            let unheard : heard_on (is n) (happened (H e).server) ≡ [] =
            traced.heard.server (is n) ∙ (traced.carried.idle who.Server (is n) down).1 in
            let read = s.read (is n) in
            server_came s.passage.passage.came n
            ∙ ap (seen in_items) (nil_front (of_leg (is n) s.passage.passage.came) read.0
            (read.1 ∙ ap (messages_read (server_reads (is n))) unheard))

        by : (came_up (is n) (happened (H e).server) ≡ true)
            ⊎ (came_up (is n) (happened (H e).server) ≡ false)
            → came_up (is n) (happened (H e).server) ≡ true
        by (inl rose) = rose
        by (inr down) = absurd (true≢false (sym passed ∙ ap has_passed (none down)))

    far_facts : Facts rules m deeds w changes in_time (is n) U (Some IsU) server.rules
        (λ e. in_node (numbers_of ours) (H e) n) (λ e. server_node (numbers_of ours) (H e))
        in_items (λ e here. (up e here).put n) (λ e here. (up e here).got n) FarPassed
    far_facts = record {
      puts_on = λ e here.
          worlds.in_goes m w new ours node law changes allowed works going e here n;
      takes_on = worlds.server_goes m w new ours node law changes allowed works going;
      told = worlds.told_ends m w new ours node law changes allowed works going (is n);
      left = worlds.left_ends m w new ours node law changes allowed works going (is n);
      kept = λ e here rose untold.
          node.keeps_server ours.window (H e).server (is n)
          (worlds.server_accepted m w new ours node law changes allowed works going e here) rose
          untold (worlds.server_goes m w new ours node law changes allowed works going e here);
      absent = λ e here.
          (node.knows_server ours.window (H e).server (is n)
          (worlds.server_accepted m w new ours node law changes allowed works going e
          here)).absent;
      live = λ e here.
          law.live_server (W e)
          (worlds.by_front m w new ours node law changes allowed works going e here) (is n)
          (worlds.server_goes m w new ours node law changes allowed works going e here);
      passes = λ e here rose unused. record {
        rose = rose;
        passed = λ s.
            server_passes node.server_law ours.window n server_reads (H e).server s rose unused;
      };
      finished = λ e here up done untold. record {
        rose = up;
        passed = λ s.
            server_passes node.server_law ours.window n server_reads (H e).server s up
            (worlds.server_unused m w new ours node law changes allowed works going e here
            (is n) done up untold);
      };
      rose = λ e here.
          worlds.rose m w new ours node law changes allowed works going e here (is n);
      put = λ e here is_up up done untold.
          let proxy = (ways e here).directions.up.proxies n in (
            worlds.in_drawn m w new ours node law changes allowed works going e here n is_up
                done untold,
            ap has_passed (if_there (has_leg (reader_of (W e).readers) n)
                (put_items proxy.passage.put) (has_one e here))
                ∙ worlds.in_put m w new ours node law changes allowed works going e here n
                done up untold proxy,
          );
      arrives = λ e here kept.
          (ways e here).up.arrives.far n kept
          ∙ ap (λ (items : List Item). (up e here).got n ++ items)
          (if_there (has_leg (reader_of (W e).readers) n)
          (items_on_way in_items (up_far (numbers_of ours) (W e) (H e) n)) (has_one e here));
      came_is = λ e here passed.
          let rose = got_rose e here passed in
          record {
            rose = rose;
            passed = server_later node.server_order ours.window n (H e).server (H e).server rose
                rose (prefix_self (H e).server)
                (worlds.server_growing m w new ours node law changes allowed works going e here)
                (ways e here).directions.up.taker passed;
          };
      stays = λ e more here done.
          far_later e more here done.rose
          (ways e (front_more e more changes here)).directions.up.taker
          (done.passed (ways e (front_more e more changes here)).directions.up.taker);
    }

    -- at a moment at which it is over
    pub far_came : IsOverUpwards rules (W changes) (H changes) (is n)
        → has_passed ((up changes (prefix_self changes)).got n) ≡ true
    far_came over =
        by (unlost_came rules m deeds w changes in_time (is n) U (Some IsU) server.rules
        (λ e. in_node (numbers_of ours) (H e) n) (λ e. server_node (numbers_of ours) (H e))
        in_items (λ e here. (up e here).put n) (λ e here. (up e here).got n) FarPassed far_facts
        changes (prefix_self changes)
        (not_left rules (W changes) (H changes) (is n) over side.Server)
        (not_left rules (W changes) (H changes) (is n) over side.Client)
        (over.untold side.Server) (over.untold side.Client) (over.up side.Client)
        (over_parts rules (W changes) (H changes) (is n) over).0
        (over_parts rules (W changes) (H changes) (is n) over).1)
      where
        by : (has_passed ((up changes (prefix_self changes)).got n) ≡ true)
            ⊎ (is_in_use server.rules (server_node (numbers_of ours) (H changes)).role (is n)
            ≡ false) → has_passed ((up changes (prefix_self changes)).got n) ≡ true
        by (inl passed) = passed
        by (inr unused) =
            server_passes node.server_law ours.window n server_reads (H changes).server
            (ways changes (prefix_self changes)).directions.up.taker
            (worlds.rose m w new ours node law changes allowed works going changes
            (prefix_self changes) (is n) D (over.up side.Server)) unused

  -- ---- so no leg stops the way

  module _ (last : AreOnTheirWay (numbers_of ours) (W changes) (H changes)) where
    abbrev r : Route
    r = up_route_of last.directions

    all : At changes
    all = prefix_self changes

    above : (n : ℕ) → r.taker.shelves.current ≤ n → 0 < n
    above n from =
        let first = above_zero (reader_of (W changes).readers) r.taker.shelves.current
        (up_is_route node.routes last.directions).numbered.here in
        omega (arith, first, from)

    near_goes : (n : ℕ) → 0 < n
        → (stops_at ((up_lost (numbers_of ours) (W changes) (H changes)).near n)
        (r.came (reader r.legs n) n) ≡ false) ⊎ IsBehindEnd r n
    near_goes n some =
        by (goes_or_passed rules m deeds w changes in_time (ci n) U (Some CiU) in_proxy.rules
        (λ e. client_node (numbers_of ours) (H e))
        (λ e. in_node (numbers_of ours) (H e) (reader_of (W e).readers n)) item_came
        (λ e here. (up e here).sent n)
        (λ e here. (up e here).came (reader (up e here).legs n) n) (NearPassed n some)
        (near_facts n some) changes all)
      where
        read : NearPassed n some changes → reader_of (W changes).readers n ≢ 0
        read done zero_is =
            let readers = last.directions.up.readers in
            let s = last.directions.up.proxies (reader_of (W changes).readers n) in
            not_both (in_passed s.passage.came n) (done s)
            (none_came n some (H changes) (reader_of (W changes).readers n) s
            (ap (H changes).ins zero_is ∙ readers.unmade 0 readers.none))

        same : NearPassed n some changes
            → reader r.legs n ≡ reader_of (W changes).readers n
        same done =
            read_by (W changes).readers (is_made (W changes).company)
            (worlds.known m w new ours node law changes allowed works going changes all).read n
            (read done)

        passed : NearPassed n some changes
            → (has_passed (r.came (reader_of (W changes).readers n) n) ≡ true)
            ⊎ (has_end (below (r.came (reader_of (W changes).readers n)) n) ≡ true)
            → (stops_at ((up_lost (numbers_of ours) (W changes) (H changes)).near n)
            (r.came (reader r.legs n) n) ≡ false) ⊎ IsBehindEnd r n
        passed done (inl here) =
            inl (passed_goes ((up_lost (numbers_of ours) (W changes) (H changes)).near n)
            (r.came (reader r.legs n) n)
            (subst (λ (k : ℕ). has_passed (r.came k n) ≡ true) (sym (same done)) here))
        passed done (inr ended) =
            inr (subst (λ (k : ℕ). has_end (below (r.came k) n) ≡ true) (sym (same done)) ended)

        by : ((up_lost (numbers_of ours) (W changes) (H changes)).near n ≡ false)
            ⊎ NearPassed n some changes
            → (stops_at ((up_lost (numbers_of ours) (W changes) (H changes)).near n)
            (r.came (reader r.legs n) n) ≡ false) ⊎ IsBehindEnd r n
        by (inl kept) =
            inl (ap (λ (t : Bool). stops_at t (r.came (reader r.legs n) n)) kept)
        by (inr done) =
            let s = last.directions.up.proxies (reader_of (W changes).readers n) in
            passed done (either (has_passed (in_order.came_log s.passage.came n))
            (has_end (below (in_order.came_log s.passage.came) n)) (done s))

    -- where the in proxy was never made the leg never came up
    unmade_goes : (n : ℕ) → is_made (W changes).company n ≡ false
        → is_lost (up_far (numbers_of ours) (W changes) (H changes) n) ≡ false
    unmade_goes n unmade =
        never_lost (W changes) (H changes) (is n) U (Some IsU)
        (in_node (numbers_of ours) (H changes) n) server.rules
        (server_node (numbers_of ours) (H changes)) (going.ins n) going.server here there
        ((node.knows_server ours.window (H changes).server (is n)
        (worlds.server_accepted m w new ours node law changes allowed works going changes
        all)).absent there)
      where
        here : was_up (W changes) (H changes) (is n) side.Client ≡ false
        here =
            ap (came_up (is n)) ((worlds.order m w new ours node law changes allowed works going
            changes all).unmade n unmade)

        there : was_up (W changes) (H changes) (is n) side.Server ≡ false
        there = by (cases_Bool (came_up (is n) (happened (H changes).server)))
          where
            by : (came_up (is n) (happened (H changes).server) ≡ true)
                ⊎ (came_up (is n) (happened (H changes).server) ≡ false)
                → came_up (is n) (happened (H changes).server) ≡ false
            by (inl rose) =
                not_both (is_made (W changes).company n)
                ((worlds.led m w new ours node law changes allowed works going changes
                all).joined n rose) unmade
            by (inr down) = down

    far_goes : (n : ℕ) → 0 < n
        → stops_at ((up_lost (numbers_of ours) (W changes) (H changes)).far n) (r.got n)
        ≡ false
    far_goes n some = by (is_made (W changes).company n) refl
      where
        of_made : (made : is_made (W changes).company n ≡ true)
            → ((up_lost (numbers_of ours) (W changes) (H changes)).far n ≡ false)
            ⊎ FarPassed n some made changes
            → stops_at ((up_lost (numbers_of ours) (W changes) (H changes)).far n) (r.got n)
            ≡ false
        of_made made (inl kept) = ap (λ (t : Bool). stops_at t (r.got n)) kept
        of_made made (inr done) =
            passed_goes ((up_lost (numbers_of ours) (W changes) (H changes)).far n) (r.got n)
            (done.passed last.directions.up.taker)

        by : (b : Bool) → is_made (W changes).company n ≡ b
            → stops_at ((up_lost (numbers_of ours) (W changes) (H changes)).far n) (r.got n)
            ≡ false
        by true made =
            of_made made (goes_or_passed rules m deeds w changes in_time (is n) U (Some IsU)
            server.rules (λ e. in_node (numbers_of ours) (H e) n)
            (λ e. server_node (numbers_of ours) (H e)) in_items
            (λ e here. (up e here).put n) (λ e here. (up e here).got n)
            (FarPassed n some made) (far_facts n some made) changes all)
        by false unmade =
            ap (λ (t : Bool). stops_at t (r.got n)) (unmade_goes n unmade)

    pub none_stops_up : NoneStopsButBehindEnd r
        (up_lost (numbers_of ours) (W changes) (H changes))
    none_stops_up = record {
      near = λ n from within. near_goes n (above n from);
      far = λ n from within leg. far_goes n (above n from);
    }
