-- what an in proxy puts for what came, kind by kind
use Rattle.law_order.proofs.Vocabulary.{◌≡◌, ℕ, ◌+◌, ◌≤◌, Bool, true, List, refl, arith}
use Rattle.law_moves.proofs.Vocabulary.{Cookie, Named, Leg, ClientIn, Move, started, all_moved, of_leg, count_of, of_kind, is_conn_b1, is_conn_b2, is_in_r1_a1, is_in_a2, is_in_r1_a5, is_in_r1_a6, is_out_r1_a7, is_out_r1_a8}
use Rattle.law_moves.proofs.Lemmas.{count_none, none}
use Rattle.law_role_inproxy.proofs.Vocabulary.{Handover, Before, Came, Passed, has_passed, InProxyConfig, first, rules as proxy_rules, is_leg, PutsForWhatCame, HappensOnce}
use Rattle.law_role_inproxy.proofs.Counted.InProxyOwes.{Leads}
use Rattle.law_role_inproxy.proofs.Counted.InProxyPays.{handover_owes, in_proxy_owes, in_proxy_pays}
use Rattle.law_role_inproxy.proofs.Counted.InProxyOnce.{in_proxy_opens_once}

-- ---- kinds

b1_leads : Leads is_conn_b1 is_conn_b2 0
b1_leads = grind arith

a1_leads : (of : Cookie → Bool) → Leads (is_in_r1_a1 of) (is_in_a2 of) 0
a1_leads of = grind arith

a5_leads : Leads is_in_r1_a5 is_in_r1_a6 0
a5_leads = grind arith

a7_leads : (of : Cookie → Bool) → Leads (is_out_r1_a7 of) (is_out_r1_a8 of) 0
a7_leads of = grind arith

-- IN_R1/A6 is owed once, whatever comes
once_leads : Leads none is_in_r1_a6 1
once_leads = grind arith

-- ---- the laws

module _ (config : InProxyConfig) (moves : List Move) where
  abbrev is : Leg
  is = is_leg config.number

  puts : (came put : Named → Bool) → Leads came put 0
      → (let p = all_moved proxy_rules (started (first config)) moves in
      count_of put (of_leg is p.put) ≤ count_of came (of_kind ClientIn p.came))
  puts came put leads =
      let paid = in_proxy_pays came put 0 leads config moves is in omega (arith, paid)

  pub in_proxy_puts : PutsForWhatCame config.number
      (all_moved proxy_rules (started (first config)) moves)
  in_proxy_puts = record {
    connection = puts is_conn_b1 is_conn_b2 b1_leads;
    successors = λ of. puts (is_in_r1_a1 of) (is_in_a2 of) (a1_leads of);
    handover = puts is_in_r1_a5 is_in_r1_a6 a5_leads;
    answers = λ of. puts (is_out_r1_a7 of) (is_out_r1_a8 of) (a7_leads of);
  }

  -- IN_R1/A6 is owed until it is put
  passes : (put : ℕ) (h : Handover) → put + handover_owes none is_in_r1_a6 1 once_leads h ≤ 1
      → 1 ≤ put → has_passed h ≡ true
  passes put Before owed some = absurd (omega (arith, owed, some))
  passes put (Came cookie) owed some = absurd (omega (arith, owed, some))
  passes put Passed owed some = refl

  pub in_proxy_once : HappensOnce config.number
      (all_moved proxy_rules (started (first config)) moves)
  in_proxy_once =
      let p = all_moved proxy_rules (started (first config)) moves in
      let once = in_proxy_opens_once config moves in
      let owed = in_proxy_owes none is_in_r1_a6 1 once_leads config moves is in
      let nothing = count_none (of_kind ClientIn p.came) in
      record {
        connection = once.0;
        handover = omega (arith, owed, nothing);
        passed = passes (count_of is_in_r1_a6 (of_leg is p.put)) p.role.handover
            (omega (arith, owed, nothing));
        window = once.1;
      }
