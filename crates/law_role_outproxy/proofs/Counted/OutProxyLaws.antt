-- what an out proxy puts for what came, kind by kind
use Rattle.law_order.proofs.Vocabulary.{true, false, ◌≤◌, Bool, List, refl, arith}
use Rattle.law_moves.proofs.Vocabulary.{Named, Leg, Move, AreAllowed, started, all_moved, of_leg, count_of, is_conn_a1, is_conn_a2, is_conn_a3, is_conn_c1, is_conn_c2, is_in_r1_a3, is_in_r1_a4, is_in_r2_a3, is_in_r2_a4, is_out_r1_a1, is_out_r1_a2, is_out_r1_a3, is_out_r1_a4, is_out_r1_a5, is_out_r1_a6, is_out_r1_a9, is_out_r1_a10, is_end_b1, is_end_b2}
use Rattle.law_moves.proofs.Lemmas.{none, count_none, allowed_rise, any_rise}
use Rattle.law_role_outproxy.proofs.Vocabulary.{OutProxyConfig, new_proxy, rules, co_leg, os_leg, ForwardsWhatCame, OpensWhatCame}
use Rattle.law_role_outproxy.proofs.Counted.OutProxyOwes.{Leads, MayUp}
use Rattle.law_role_outproxy.proofs.Counted.OutProxyPays.{out_proxy_pays}

-- ---- kinds

c1_leads : Leads none is_conn_c1 is_conn_c2 false
c1_leads = grind arith

in_r1_leads : Leads none is_in_r1_a3 is_in_r1_a4 false
in_r1_leads = grind arith

in_r2_leads : Leads none is_in_r2_a3 is_in_r2_a4 false
in_r2_leads = grind arith

a1_leads : Leads none is_out_r1_a1 is_out_r1_a2 false
a1_leads = grind arith

a5_leads : Leads none is_out_r1_a5 is_out_r1_a6 false
a5_leads = grind arith

a9_leads : Leads none is_out_r1_a9 is_out_r1_a10 false
a9_leads = grind arith

b1_leads : Leads none is_end_b1 is_end_b2 false
b1_leads = grind arith

conn_a2_leads : Leads is_conn_a1 none is_conn_a2 true
conn_a2_leads = record {
  closed = λ e. absurd cc;
  connects = λ version window lifetime size timeout connection channel. omega arith;
  replaces = λ version window lifetime size timeout connection predecessor channel. omega arith;
  opens = λ version size timeout. omega arith;
  in_r1 = λ to version size timeout. omega arith;
  in_r2 = λ to. omega arith;
  wishes = λ to. omega arith;
  answers = λ to version timeout. omega arith;
  leaves = omega arith;
  ends = omega arith;
  acks = λ to received available channel. refl;
  own_acks = λ received available channel. refl;
  pings = refl;
}

conn_a3_leads : Leads is_conn_a1 none is_conn_a3 true
conn_a3_leads = record {
  closed = λ e. absurd cc;
  connects = λ version window lifetime size timeout connection channel. omega arith;
  replaces = λ version window lifetime size timeout connection predecessor channel. omega arith;
  opens = λ version size timeout. omega arith;
  in_r1 = λ to version size timeout. omega arith;
  in_r2 = λ to. omega arith;
  wishes = λ to. omega arith;
  answers = λ to version timeout. omega arith;
  leaves = omega arith;
  ends = omega arith;
  acks = λ to received available channel. refl;
  own_acks = λ received available channel. refl;
  pings = refl;
}

a3_leads : Leads is_out_r1_a3 none is_out_r1_a4 true
a3_leads = record {
  closed = λ e. absurd cc;
  connects = λ version window lifetime size timeout connection channel. omega arith;
  replaces = λ version window lifetime size timeout connection predecessor channel. omega arith;
  opens = λ version size timeout. omega arith;
  in_r1 = λ to version size timeout. omega arith;
  in_r2 = λ to. omega arith;
  wishes = λ to. omega arith;
  answers = λ to version timeout. omega arith;
  leaves = omega arith;
  ends = omega arith;
  acks = λ to received available channel. refl;
  own_acks = λ received available channel. refl;
  pings = refl;
}

-- ---- the laws

module _ (config : OutProxyConfig) (moves : List Move) where
  -- for what came from the server
  forwards : (came put : Named → Bool) → Leads none came put false
      → (let p = all_moved rules (started (new_proxy config)) moves in
      count_of put (of_leg (co_leg config.number) p.put)
      ≤ count_of came (of_leg (os_leg config.number) p.came))
  forwards came put leads =
      let p = all_moved rules (started (new_proxy config)) moves in
      let paid = out_proxy_pays none came put false leads config.number config moves refl
      (any_rise rules (MayUp put config.number false leads.closed) (λ s leg e. absurd cc)
      (started (new_proxy config)) moves)
      (co_leg config.number) in
      let nothing = count_none (of_leg (co_leg config.number) p.came) in
      omega (arith, paid, nothing)

  pub out_proxy_forwards : ForwardsWhatCame config.number
      (all_moved rules (started (new_proxy config)) moves)
  out_proxy_forwards = record {
    connection = forwards is_conn_c1 is_conn_c2 c1_leads;
    in_r1 = forwards is_in_r1_a3 is_in_r1_a4 in_r1_leads;
    in_r2 = forwards is_in_r2_a3 is_in_r2_a4 in_r2_leads;
    wishes = forwards is_out_r1_a1 is_out_r1_a2 a1_leads;
    answers = forwards is_out_r1_a5 is_out_r1_a6 a5_leads;
    handover = forwards is_out_r1_a9 is_out_r1_a10 a9_leads;
    ends = forwards is_end_b1 is_end_b2 b1_leads;
  }

  module _ (allowed : AreAllowed rules (started (new_proxy config)) moves) where
    -- for what came from the client
    opens : (came put : Named → Bool) → Leads came none put true → (to : Leg)
        → (let p = all_moved rules (started (new_proxy config)) moves in
        count_of put (of_leg to p.put) ≤ count_of came (of_leg (co_leg config.number) p.came))
    opens came put leads to =
        let p = all_moved rules (started (new_proxy config)) moves in
        let paid = out_proxy_pays came none put true leads config.number config moves refl
        (allowed_rise rules (MayUp put config.number true leads.closed) (λ s leg may e. may)
        (started (new_proxy config)) moves allowed) to in
        let nothing = count_none (of_leg (os_leg config.number) p.came) in
        omega (arith, paid, nothing)

    pub out_proxy_opens : OpensWhatCame config.number
        (all_moved rules (started (new_proxy config)) moves)
    out_proxy_opens = record {
      connection = opens is_conn_a1 is_conn_a2 conn_a2_leads (os_leg config.number);
      timeout = opens is_conn_a1 is_conn_a3 conn_a3_leads (co_leg config.number);
      successor = opens is_out_r1_a3 is_out_r1_a4 a3_leads (os_leg config.number);
    }
