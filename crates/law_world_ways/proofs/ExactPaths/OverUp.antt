-- where the end nearer the client has finished a leg, its handover mark or END came
use Rattle.rh_text.specs.declared.ends.Side.TheVariants as side
use Rattle.law_order.proofs.Vocabulary.{◌≡◌, ◌≢◌, ◌⊎◌, inl, inr, ◌<◌, ℕ, zero, suc, List, Bool, true, false, true≢false, arith, refl, sym, ap, ◌∙◌, subst, list_all, IsPrefix, lt-ltb, reader}
use Rattle.rh_inproxy.specs.Machine as in_proxy
use Rattle.rh_outproxy.specs.Machine as out_proxy
use Rattle.law_moves.proofs.Vocabulary.{U, prefix_self, Leg, is_in_use}
use Rattle.law_role_inproxy.proofs.Vocabulary.{InProxy}
use Rattle.law_role_inproxy.specs.Order as in_order
use Rattle.law_node_history.proofs.Vocabulary.{reader_of, Makers, came_up, AreAllowed, Change, of_line, History, IsNew, all_noted, nothing}
use Rattle.law_role_outproxy.proofs.Vocabulary.{OutProxy}
use Rattle.law_node_begins.specs.ProxiesBegin.Pipes.{ci, co, is, os}
use Rattle.law_node_traces.proofs.Vocabulary.{is_made, AreOurs, deeds, rules}
use Rattle.law_world_order.proofs.Moments.{OurWorld}
use Rattle.law_world_order.proofs.Vocabulary.{up_route_of, numbers_of}
use Rattle.law_world_ways.proofs.ExactWays.Passing.{out_passes}
use Rattle.law_world_ways.proofs.ExactWays.ReadBy.{read_by}
use Rattle.law_world_ways.proofs.ExactPaths.Clients.{passed}
use Rattle.law_world_ways.proofs.ExactPaths.Unlost.{over_parts}
use Rattle.law_world_ways.proofs.ExactPaths.AtFronts.{NodeLaws, WorldLaws}
use Rattle.law_world_ways.proofs.ExactPaths.AtFronts as worlds
use Rattle.law_world_ways.proofs.ExactPaths.UpLegs.{far_came, near_came}
use Rattle.law_world_ways.specs.EndsInTime.InTime.{AllEndInTime}
use Rattle.law_world_ways.specs.OnPaths.Legs.{has_passed, was_up}
use Rattle.law_world_ways.specs.OnPaths.Ways.{AreOnTheirWay, in_node, out_node}
use Rattle.law_world_ways.specs.ExactPaths.GoingOn.{AllGoOn}
use Rattle.law_world_ways.specs.ExactPaths.Over.{IsOverUpwards, PassesWhereOver}

module _ {K : Type 0} (m : Makers K InProxy OutProxy) (w : OurWorld K) (new : IsNew w)
    (ours : AreOurs m w.company w.cast) (node : NodeLaws) (law : WorldLaws m w ours)
    (changes : List Change) (allowed : AreAllowed rules m deeds w changes)
    (works : list_all of_line changes ≡ true)
    (in_time : AllEndInTime rules m deeds w changes)
    (going : AllGoOn (numbers_of ours) (all_noted rules m deeds w nothing changes)) where
  abbrev v : OurWorld K
  v = worlds.W m w new ours node law changes allowed works going changes

  abbrev h : History
  h = worlds.H m w new ours node law changes allowed works going changes

  abbrev all : IsPrefix changes changes
  all = prefix_self changes

  abbrev ways : AreOnTheirWay (numbers_of ours) v h
  ways = worlds.ways m w new ours node law changes allowed works going changes all

  rose : (leg : Leg) → IsOverUpwards rules v h leg → was_up v h leg side.Client ≡ true
  rose leg over =
      worlds.rose m w new ours node law changes allowed works going changes all leg U
      (over.up side.Client)

  -- an in proxy whose leg came up was made, and there is no in proxy 0
  made : (n : ℕ) → came_up (is n) (h.ins n) ≡ true → is_made v.company n ≡ true
  made n up = by (is_made v.company n) refl
    where
      by : (b : Bool) → is_made v.company n ≡ b → is_made v.company n ≡ true
      by true e = e
      by false e =
          absurd (true≢false (sym up
          ∙ ap (came_up (is n)) ((worlds.order m w new ours node law changes allowed works going
          changes all).unmade n e)))

  numbered : (n : ℕ) → is_made v.company n ≡ true → 0 < n
  numbered zero e =
      absurd (true≢false (sym e
      ∙ (worlds.order m w new ours node law changes allowed works going changes all).none))
  numbered (suc n) e = omega arith

  -- the in proxy that reads the channel
  ins : (n : ℕ) → 0 < n → IsOverUpwards rules v h (ci n)
      → (let number = reader_of v.readers n in
      (has_passed (in_order.came_log (ways.directions.up.proxies number).passage.came n) ≡ true)
      ⊎ (is_in_use in_proxy.rules (in_node (numbers_of ours) h number).role (ci n) ≡ false))
  ins n some over =
      by (near_came m w new ours node law changes allowed works in_time going n some over)
    where
      read : reader_of v.readers n ≢ 0
      read =
          (worlds.led m w new ours node law changes allowed works going changes all).led n some
          (rose (ci n) over)

      same : reader (up_route_of ways.directions).legs n ≡ reader_of v.readers n
      same =
          read_by v.readers (is_made v.company)
          (worlds.known m w new ours node law changes allowed works going changes all).read n read

      by : (has_passed ((up_route_of ways.directions).came
          (reader (up_route_of ways.directions).legs n) n) ≡ true)
          ⊎ (is_in_use in_proxy.rules
          (in_node (numbers_of ours) h (reader_of v.readers n)).role (ci n) ≡ false)
          → (has_passed (in_order.came_log
          (ways.directions.up.proxies (reader_of v.readers n)).passage.came n) ≡ true)
          ⊎ (is_in_use in_proxy.rules
          (in_node (numbers_of ours) h (reader_of v.readers n)).role (ci n) ≡ false)
      by (inl came) =
          inl (subst (λ (k : ℕ). has_passed ((up_route_of ways.directions).came k n) ≡ true) same
          came)
      by (inr unused) = inr unused

  unused : (n : ℕ) → IsOverUpwards rules v h (os n)
      → is_in_use out_proxy.rules (out_node (numbers_of ours) h n).role (os n) ≡ false
  unused n over =
      worlds.out_unused m w new ours node law changes allowed works going changes all n (os n)
      (over_parts rules v h (os n) over).0 (rose (os n) over) (over.untold side.Client)

  pub passes_where_over : PassesWhereOver (numbers_of ours) v h
  passes_where_over = record {
    ways = ways;
    passed = record {
      outs = λ n some over.
          passed node.client_order ours.config n (lt-ltb 0 n some) h.client
          ways.directions.down.taker
          ((node.knows_client ours.config h.client (co n)
          (worlds.client_accepted m w new ours node law changes allowed works going changes
          all)).known (rose (co n) over))
          (worlds.client_unused m w new ours node law changes allowed works going changes all
          (co n) (over_parts rules v h (co n) over).0 (rose (co n) over)
          (over.untold side.Client));
      out_servers = λ n over.
          out_passes node.out_law (ours.out_config n) n (ours.out_number n) (h.outs n)
          (ways.directions.down.proxies n)
          (law.out_echoes v
          (worlds.by_front m w new ours node law changes allowed works going changes all) n
          (ways.directions.down.proxies n))
          (unused n over);
      out_done = unused;
      ins = ins;
      in_servers = λ n over.
          let is_there = made n (rose (is n) over) in
          far_came m w new ours node law changes allowed works in_time going n
          (numbered n is_there) is_there over;
    };
  }
