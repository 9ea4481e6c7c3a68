-- the legs down, while all nodes go on: each gives all, or its handover mark or END passed
use Rattle.rh_text.specs.declared.ends.Side.TheVariants as side
use Rattle.law_order.proofs.Vocabulary.{◌≡◌, ◌⊎◌, inl, inr, ◌<◌, ◌≤◌, ℕ, zero, suc, List, [], ◌++◌, Bool, true, false, true≢false, if◌then◌else◌, Some, arith, refl, sym, ap, ◌∙◌, subst, list_all, nat_tests, IsPrefix, Item, from_first, reader, stops_at, Route}
use Rattle.rh_outproxy.specs.Machine as out_proxy
use Rattle.rh_client.specs.Client as client
use Rattle.law_moves.proofs.Vocabulary.{D, prefix_self, CoD, OsD, is_in_use}
use Rattle.law_role_inproxy.proofs.Vocabulary.{InProxy}
use Rattle.law_role_client.proofs.Vocabulary.{down_items, has_leg}
use Rattle.law_role_server.proofs.Vocabulary.{Server}
use Rattle.law_node_history.proofs.Vocabulary.{Makers, came_up, happened, AreAllowed, Change, of_line, History, IsNew, all_noted, nothing}
use Rattle.law_role_outproxy.proofs.Vocabulary.{OutProxy, from_server, put_items}
use Rattle.law_node_begins.specs.ProxiesBegin.Pipes.{co, os}
use Rattle.law_node_traces.proofs.Vocabulary.{AreOurs, deeds, rules}
use Rattle.law_world_order.proofs.Marked.{down_is_route}
use Rattle.law_world_order.proofs.Moments.{OurWorld}
use Rattle.law_world_order.proofs.Vocabulary.{down_route_of, numbers_of}
use Rattle.law_world_ways.proofs.ExactWays.Passing.{out_passes}
use Rattle.law_world_ways.proofs.ExactPaths.Streams.{ClientStream, OutStream, co_passed, os_passed}
use Rattle.law_world_ways.proofs.ExactPaths.Clients.{passed}
use Rattle.law_world_ways.proofs.ExactPaths.Fates.{Facts, goes_or_passed}
use Rattle.law_world_ways.proofs.ExactPaths.Fronts.{front_more}
use Rattle.law_world_ways.proofs.ExactPaths.Grown.{client_grown, out_grown}
use Rattle.law_world_ways.proofs.ExactPaths.Receivers.{client_later, out_later}
use Rattle.law_world_ways.proofs.ExactPaths.AtFronts.{NodeLaws, WorldLaws}
use Rattle.law_world_ways.proofs.OnPaths.Used.{passed_goes}
use Rattle.law_world_ways.proofs.ExactPaths.AtFronts as worlds
use Rattle.law_world_ways.specs.EndsInTime.InTime.{AllEndInTime}
use Rattle.law_world_ways.specs.OnPaths.Legs.{has_passed, was_up}
use Rattle.law_world_ways.specs.OnPaths.OnWay.{items_on_way}
use Rattle.law_world_ways.specs.OnPaths.Ways.{AreOnTheirWay, client_node, down_far, down_lost, down_near, out_node, server_node}
use Rattle.law_world_ways.specs.ExactWays.Pdus.{NoneStopsButBehindEnd}
use Rattle.law_world_ways.specs.ExactPaths.GoingOn.{AllGoOn}

-- each channel down is read by the out proxy of its number
pub own_reader : (n : ℕ) → reader has_leg n ≡ n
own_reader zero = refl
own_reader (suc n) =
    let has : has_leg (suc n) ≡ true = grind (arith, nat_tests) in
    ap (λ (b : Bool). if b then suc n else reader has_leg n) has

there_is : (n : ℕ) → has_leg n ≡ true → 0 < n
there_is zero e = absurd (true≢false (sym e))
there_is (suc n) e = omega arith

module _ {K : Type 0} (m : Makers K InProxy OutProxy) (w : OurWorld K) (new : IsNew w)
    (ours : AreOurs m w.company w.cast) (node : NodeLaws) (law : WorldLaws m w ours)
    (changes : List Change) (allowed : AreAllowed rules m deeds w changes)
    (works : list_all of_line changes ≡ true)
    (in_time : AllEndInTime rules m deeds w changes)
    (going : AllGoOn (numbers_of ours) (all_noted rules m deeds w nothing changes)) where
  abbrev W : List Change → OurWorld K
  W e = worlds.W m w new ours node law changes allowed works going e

  abbrev H : List Change → History
  H e = worlds.H m w new ours node law changes allowed works going e

  abbrev At : List Change → Type 0
  At e = IsPrefix e changes

  ways : (e : List Change) (here : At e) → AreOnTheirWay (numbers_of ours) (W e) (H e)
  ways e here = worlds.ways m w new ours node law changes allowed works going e here

  abbrev down : (e : List Change) (here : At e) → Route
  down e here = down_route_of (ways e here).directions

  -- ---- from the server to an out proxy

  module _ (n : ℕ) (some : 0 < n)
      (within : n ≤ (server_node (numbers_of ours) (H changes)).role.writing) where
    abbrev NearPassed : List Change → Type 0
    NearPassed e = (s : OutStream (numbers_of ours) (H e) n) → os_passed s.passage n

    own : from_first (ours.out_config n).number n ≡ true
    own =
        ap (λ (k : ℕ). from_first k n) (ours.out_number n) ∙ from_itself n
      where
        from_itself : (k : ℕ) → from_first k k ≡ true
        from_itself k = grind (arith, nat_tests)

    near_later : (e more : List Change) (here : At (e ++ more)) (front : At e)
        → has_passed ((down e front).came n n) ≡ true → NearPassed (e ++ more)
    near_later e more here front passed s =
        out_later node.out_order (ours.out_config n) n own ((H e).outs n) ((H (e ++ more)).outs n)
        (out_grown rules m deeds w e more n)
        (worlds.out_growing m w new ours node law changes allowed works going (e ++ more)
        here n)
        ((ways e front).directions.down.proxies n) passed s

    near_passes : (e : List Change) (here : At e)
        → is_in_use out_proxy.rules (out_node (numbers_of ours) (H e) n).role (os n) ≡ false
        → NearPassed e
    near_passes e here unused s =
        out_passes node.out_law (ours.out_config n) n (ours.out_number n) ((H e).outs n) s
        (law.out_echoes (W e)
        (worlds.by_front m w new ours node law changes allowed works going e here) n s) unused

    near_facts : Facts rules m deeds w changes in_time (os n) D (Some OsD) out_proxy.rules
        (λ e. server_node (numbers_of ours) (H e)) (λ e. out_node (numbers_of ours) (H e) n)
        from_server (λ e here. (down e here).sent n) (λ e here. (down e here).came n n) NearPassed
    near_facts = record {
      puts_on = worlds.server_goes m w new ours node law changes allowed works going;
      takes_on = λ e here.
          worlds.out_goes m w new ours node law changes allowed works going e here n;
      told = worlds.told_ends m w new ours node law changes allowed works going (os n);
      left = worlds.left_ends m w new ours node law changes allowed works going (os n);
      kept = λ e here up untold.
          node.keeps_out (ours.out_config n) ((H e).outs n) (os n)
          (worlds.out_accepted m w new ours node law changes allowed works going e here n) up
          untold
          (worlds.out_goes m w new ours node law changes allowed works going e here n);
      absent = λ e here.
          (node.knows_out (ours.out_config n) ((H e).outs n) (os n)
          (worlds.out_accepted m w new ours node law changes allowed works going e here
          n)).absent;
      live = λ e here.
          law.live_out (W e)
          (worlds.by_front m w new ours node law changes allowed works going e here) n (os n)
          (worlds.out_goes m w new ours node law changes allowed works going e here n);
      passes = λ e here up unused. near_passes e here unused;
      finished = λ e here up done untold.
          near_passes e here
          (worlds.out_unused m w new ours node law changes allowed works going e here n (os n)
          done up untold);
      rose = λ e here.
          worlds.rose m w new ours node law changes allowed works going e here (os n);
      put = λ e here is_up up done untold. (
        worlds.server_drawn m w new ours node law changes allowed works going e here (os n)
            (was_up (W e) (H e) (os n) side.Server) done untold,
        worlds.server_put m w new ours node law changes allowed works going e here n within
            done up untold (ways e here).directions.down.giver,
      );
      arrives = λ e here kept.
          subst (λ (k : ℕ). (down e here).sent n
          ≡ (down e here).came k n
          ++ items_on_way from_server (down_near (numbers_of ours) (W e) (H e) n))
          (own_reader n) ((ways e here).down.arrives.near n some kept);
      came_is = λ e here passed s.
          out_later node.out_order (ours.out_config n) n own ((H e).outs n) ((H e).outs n)
          (prefix_self ((H e).outs n))
          (worlds.out_growing m w new ours node law changes allowed works going e here n)
          ((ways e here).directions.down.proxies n) passed s;
      stays = λ e more here done.
          let front = front_more e more changes here in
          near_later e more here front (done ((ways e front).directions.down.proxies n));
    }

  -- ---- and from there to the client

  module _ (n : ℕ) (has : has_leg n ≡ true) where
    abbrev FarPassed : List Change → Type 0
    FarPassed e = (s : ClientStream (numbers_of ours) (H e)) → co_passed s.passage n

    far_later : (e more : List Change) (here : At (e ++ more)) (front : At e)
        → has_passed ((down e front).got n) ≡ true → FarPassed (e ++ more)
    far_later e more here front passed s =
        client_later node.client_order ours.config n has (H e).client (H (e ++ more)).client
        (client_grown rules m deeds w e more)
        (worlds.client_growing m w new ours node law changes allowed works going (e ++ more)
        here)
        (ways e front).directions.down.taker passed s

    if_there : (b : Bool) (items : List Item) → b ≡ true
        → (if b then items else []) ≡ items
    if_there true items e = refl
    if_there false items e = absurd (true≢false (sym e))

    far_passes : (e : List Change) (here : At e)
        → came_up (co n) (happened (H e).client) ≡ true
        → is_in_use client.rules (client_node (numbers_of ours) (H e)).role (co n) ≡ false
        → FarPassed e
    far_passes e here rose unused s =
        passed node.client_order ours.config n has (H e).client s
        ((node.knows_client ours.config (H e).client (co n)
        (worlds.client_accepted m w new ours node law changes allowed works going e here)).known
        rose) unused

    far_facts : Facts rules m deeds w changes in_time (co n) D (Some CoD) client.rules
        (λ e. out_node (numbers_of ours) (H e) n) (λ e. client_node (numbers_of ours) (H e))
        down_items (λ e here. (down e here).put n) (λ e here. (down e here).got n) FarPassed
    far_facts = record {
      puts_on = λ e here.
          worlds.out_goes m w new ours node law changes allowed works going e here n;
      takes_on = worlds.client_goes m w new ours node law changes allowed works going;
      told = worlds.told_ends m w new ours node law changes allowed works going (co n);
      left = worlds.left_ends m w new ours node law changes allowed works going (co n);
      kept = λ e here up untold.
          node.keeps_client ours.config (H e).client (co n)
          (worlds.client_accepted m w new ours node law changes allowed works going e here) up
          untold (worlds.client_goes m w new ours node law changes allowed works going e here);
      absent = λ e here.
          (node.knows_client ours.config (H e).client (co n)
          (worlds.client_accepted m w new ours node law changes allowed works going e
          here)).absent;
      live = λ e here.
          law.live_client (W e)
          (worlds.by_front m w new ours node law changes allowed works going e here) (co n)
          (worlds.client_goes m w new ours node law changes allowed works going e here);
      passes = λ e here up unused. far_passes e here up unused;
      finished = λ e here up done untold.
          far_passes e here up
          (worlds.client_unused m w new ours node law changes allowed works going e here (co n)
          done up untold);
      rose = λ e here.
          worlds.rose m w new ours node law changes allowed works going e here (co n);
      put = λ e here is_up up done untold.
          let proxy = (ways e here).directions.down.proxies n in (
            worlds.out_drawn m w new ours node law changes allowed works going e here n is_up
                done untold,
            ap has_passed (if_there (has_leg n) (put_items n proxy.passage.put) has)
                ∙ worlds.out_put m w new ours node law changes allowed works going e here n
                done up untold proxy,
          );
      arrives = λ e here kept.
          (ways e here).down.arrives.far n kept
          ∙ ap (λ (items : List Item). (down e here).got n ++ items)
          (if_there (has_leg n)
          (items_on_way down_items (down_far (numbers_of ours) (W e) (H e) n)) has);
      came_is = λ e here passed s.
          client_later node.client_order ours.config n has (H e).client (H e).client
          (prefix_self (H e).client)
          (worlds.client_growing m w new ours node law changes allowed works going e here)
          (ways e here).directions.down.taker passed s;
      stays = λ e more here done.
          let front = front_more e more changes here in
          far_later e more here front (done (ways e front).directions.down.taker);
    }

  -- ---- so no leg stops the way

  module _ (last : AreOnTheirWay (numbers_of ours) (W changes) (H changes)) where
    abbrev r : Route
    r = down_route_of last.directions

    all : At changes
    all = prefix_self changes

    above : (n : ℕ) → r.taker.shelves.current ≤ n → 0 < n
    above n from =
        let first = there_is r.taker.shelves.current
        (down_is_route node.routes last.directions).numbered.here in
        omega (arith, first, from)

    near_goes : (n : ℕ) → 0 < n
        → n ≤ (server_node (numbers_of ours) (H changes)).role.writing
        → stops_at ((down_lost (numbers_of ours) (W changes) (H changes)).near n)
        (r.came (reader r.legs n) n) ≡ false
    near_goes n some within =
        by (goes_or_passed rules m deeds w changes in_time (os n) D (Some OsD) out_proxy.rules
        (λ e. server_node (numbers_of ours) (H e)) (λ e. out_node (numbers_of ours) (H e) n)
        from_server (λ e here. (down e here).sent n) (λ e here. (down e here).came n n)
        (NearPassed n some within) (near_facts n some within) changes all)
      where
        by : ((down_lost (numbers_of ours) (W changes) (H changes)).near n ≡ false)
            ⊎ NearPassed n some within changes
            → stops_at ((down_lost (numbers_of ours) (W changes) (H changes)).near n)
            (r.came (reader r.legs n) n) ≡ false
        by (inl kept) = ap (λ (t : Bool). stops_at t (r.came (reader r.legs n) n)) kept
        by (inr done) =
            passed_goes ((down_lost (numbers_of ours) (W changes) (H changes)).near n)
            (r.came (reader r.legs n) n)
            (subst (λ (k : ℕ). has_passed (r.came k n) ≡ true) (sym (own_reader n))
            (done (last.directions.down.proxies n)))

    far_goes : (n : ℕ) → has_leg n ≡ true
        → stops_at ((down_lost (numbers_of ours) (W changes) (H changes)).far n) (r.got n)
        ≡ false
    far_goes n has =
        by (goes_or_passed rules m deeds w changes in_time (co n) D (Some CoD) client.rules
        (λ e. out_node (numbers_of ours) (H e) n) (λ e. client_node (numbers_of ours) (H e))
        down_items (λ e here. (down e here).put n) (λ e here. (down e here).got n)
        (FarPassed n has) (far_facts n has) changes all)
      where
        by : ((down_lost (numbers_of ours) (W changes) (H changes)).far n ≡ false)
            ⊎ FarPassed n has changes
            → stops_at ((down_lost (numbers_of ours) (W changes) (H changes)).far n) (r.got n)
            ≡ false
        by (inl kept) = ap (λ (t : Bool). stops_at t (r.got n)) kept
        by (inr done) =
            passed_goes ((down_lost (numbers_of ours) (W changes) (H changes)).far n) (r.got n)
            (done last.directions.down.taker)

    pub none_stops_down : NoneStopsButBehindEnd r
        (down_lost (numbers_of ours) (W changes) (H changes))
    none_stops_down = record {
      near = λ n from within.
          inl (near_goes n (above n from)
          (subst (λ (s : Server). n ≤ s.writing) last.directions.down.giver.role within));
      far = λ n from within leg. far_goes n leg;
    }
