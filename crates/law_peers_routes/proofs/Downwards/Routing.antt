-- the parts of a route downwards: which proxy reads which channel, and what is on no leg
use Rattle.law_order.proofs.Vocabulary.{◌≡◌, ℕ, suc, ◌<◌, ◌≤◌, true, false, if◌then◌else◌, List, [], arith, refl, sym, ap, ◌∙◌, subst, ◌⊎◌, inl, inr, true≢false, nat_tests, IsPrefix, Item, IsLeg, seen, PasserLaw, IsNumbered}
use Rattle.law_moves.proofs.Vocabulary.{by_test, nil_front, ClientConfig, Passage, EndPassage, started, Event, EndEvent, of_leg, messages_read}
use Rattle.law_role_client.proofs.Vocabulary.{ClientRole, has_leg, down_items}
use Rattle.law_role_client.specs.Order as client_order
use Rattle.law_role_server.proofs.Vocabulary.{sent}
use Rattle.law_role_outproxy.proofs.Vocabulary.{OutProxyConfig, OutProxy, new_proxy, KeepsOrder, passer_of, came_log, put_items, server_leg, from_server}
use Rattle.law_role_outproxy.proofs.OrderKept.{steps, starts}
use Rattle.law_peers_routes.proofs.Downwards.ClientLegs.{IsQuiet, client_quiet}
use Rattle.law_peers_routes.proofs.Downwards.Sides.{client_came, proxy_came, nothing_first}
use Rattle.law_peers_routes.specs.Downwards.{GoesDown, proxy_reads, route_of}

-- ---- numbers

pub has_above : (n : ℕ) → 0 < n → has_leg n ≡ true
has_above n a = grind (arith, nat_tests)

above_has : (n : ℕ) → has_leg n ≡ false → n ≡ 0
above_has n e = grind (arith, nat_tests)

-- ---- what an out proxy put goes to the client, where it has a number above 0

pub with_put : (m : ℕ) (p : Passage OutProxy) → has_leg m ≡ true → KeepsOrder m p
    → PasserLaw (passer_of p.role) m (came_log p.came)
    (if has_leg m then put_items m p.put else [])
with_put m p h law =
    by_test (λ (put : List Item). PasserLaw (passer_of p.role) m (came_log p.came) put) (has_leg m)
    (put_items m p.put) [] (λ e. law) (λ e. absurd (true≢false (sym h ∙ e)))

pub far_leg : (m : ℕ) (p : Passage OutProxy) (c : EndPassage ClientRole)
    → IsLeg (put_items m p.put) (client_order.came_log c.passage.came m) → IsQuiet c.passage
    → IsLeg (if has_leg m then put_items m p.put else [])
    (client_order.came_log c.passage.came m)
far_leg m p c leg q =
    by_test (λ (put : List Item). IsLeg put (client_order.came_log c.passage.came m)) (has_leg m)
    (put_items m p.put) [] (λ e. leg)
    (λ e. nothing_first (client_order.came_log c.passage.came m) []
    (subst (λ (n : ℕ). client_order.came_log c.passage.came n ≡ []) (sym (above_has m e))
    (client_came 0 c.passage.came ∙ ap (seen down_items) q.quiet)))

-- ---- an out proxy takes what is put on its own leg alone

pub near_leg : (sent : List Item) (o : ℕ → Passage OutProxy) (m n : ℕ)
    → IsLeg sent (came_log (o n).came n) → ((m ≡ n → ⊥) → came_log (o m).came n ≡ [])
    → (m ≡ n) ⊎ (m ≡ n → ⊥) → IsLeg sent (came_log (o m).came n)
near_leg sent o m n own other (inl same) =
    subst (λ (k : ℕ). IsLeg sent (came_log (o k).came n)) (sym same) own
near_leg sent o m n own other (inr apart) =
    nothing_first (came_log (o m).came n) sent (other apart)

module _ {config : ClientConfig} {window : ℕ} {out_config : ℕ → OutProxyConfig}
    {client_events server_events : List EndEvent} {outs : ℕ → List Event}
    (d : GoesDown config window out_config client_events server_events outs) where
  pub nothing_elsewhere : (m n : ℕ) → (m ≡ n → ⊥) → came_log (d.proxies m).passage.came n ≡ []
  nothing_elsewhere m n apart =
      proxy_came n (d.proxies m).passage.came ∙ ap (seen from_server) none
    where
      front : IsPrefix (of_leg (server_leg n) (d.proxies m).passage.came) []
      front = subst (λ (heard : List ℕ). IsPrefix (of_leg (server_leg n) (d.proxies m).passage.came)
          (messages_read (proxy_reads (out_config m) (server_leg n)) heard)) (d.alone m n apart)
          ((d.proxies m).read (server_leg n))

      none : of_leg (server_leg n) (d.proxies m).passage.came ≡ []
      none = nil_front (of_leg (server_leg n) (d.proxies m).passage.came) front.0 front.1

  -- the client's OUT channels have numbers above 0, and nothing came on co 0
  pub taker_quiet : IsQuiet d.taker.passage.passage
  taker_quiet = subst (λ (p : EndPassage ClientRole). IsQuiet p.passage) d.taker.leads.reached
      (client_quiet config d.taker.leads.moves)

  -- an out proxy's number stays
  own_number : (m : ℕ) → (d.proxies m).passage.role.config.number ≡ m
  own_number m =
      subst (λ (p : Passage OutProxy). p.role.config.number ≡ (out_config m).number)
      (d.proxies m).leads.reached
      (steps (out_config m).number (started (new_proxy (out_config m))) (d.proxies m).leads.moves
      (d.proxies m).leads.allowed (starts (out_config m))).number
      ∙ d.numbered m

  pub numbered_down : IsNumbered (route_of d)
  numbered_down = record {
    none = refl;
    first = refl;
    reads = λ m n h above below. absurd (no_further m n above
        (subst (λ (k : ℕ). n ≤ k) (own_number m) below));
    handed = λ m h put. has_above (suc (d.proxies m).passage.role.config.number) (omega arith);
    unused = λ n h. by_test (λ (put : List Item). put ≡ []) (has_leg n)
        (put_items n (d.proxies n).passage.put) [] (λ e. absurd (true≢false (sym e ∙ h)))
        (λ e. refl);
    known = λ n h. h;
    here = has_above d.taker.passage.passage.role.current.number taker_quiet.above.current;
  }
    where
      no_further : (m n : ℕ) → m < n → n ≤ m → ⊥
      no_further m n above below = absurd (omega arith)
