-- legs that come up, requests, and what else nothing is put for
use Rattle.law_order.proofs.Vocabulary.{◌≡◌, ℕ, ◌+◌, ◌==◌, true, false, not, if◌then◌else◌, List, refl, sym, ap, ◌∙◌, subst, arith, and_parts, eqb-true, nat_le}
use Rattle.law_moves.proofs.Vocabulary.{by_test, Leg, OnLeg}
use Rattle.law_role_inproxy.proofs.Vocabulary.{GREATEST_LENGTHS, InProxyConfig, Opening, AwaitsClient, AwaitsPacket, WantsServer, Announces, Announced, Successor, Absent, Up, Joined, is_announced, mark, up, may_accept, accepts, accepts_later, accepted, wants, connected, head, drawn, is_absent, InProxy, has_come, has_opened, is_client_leg, ping}
use Rattle.law_role_inproxy.proofs.Putting.Sounds.{seen, Sound, Moves, IsOpening, told_by, same_moves}
use Rattle.law_role_inproxy.proofs.Putting.Tests.{same_head, same_drawn, same_mark, same_ping, absent_alone, not_so, four, opened_any, staying, untold}

-- ---- ups

module _ (config : InProxyConfig) (came : List OnLeg) (s : InProxy)
    (h : Sound config (seen s) came) where
  abbrev pub Goes : InProxy → Type 0
  Goes t = Moves config came s t

  still : Goes s
  still = same_moves config came s s refl h

  -- a later ci leg is up
  newcomer : (number : ℕ) → has_opened s.opening ≡ true → accepts_later s number ≡ true
      → Goes (record s { successor = Up number; newest_lost = false })
  newcomer number has e = by s.successor refl
    where
      may : ((number == s.current.number + 1) ≡ true) × (is_absent s.successor ≡ true)
          × (not (has_come s.handover) ≡ true)
      may =
          four (number == s.current.number + 1) (is_absent s.successor)
          (nat_le s.lengths GREATEST_LENGTHS) (not (has_come s.handover)) e

      by : (z : Successor) → s.successor ≡ z
          → Goes (record s { successor = Up number; newest_lost = false })
      by (Up k) f = let is = may.1 in absurd cc
      by (Joined leg stage) f = let is = may.1 in absurd cc
      by Absent f =
          let alone = absent_alone s.successor may.1 in
          let is = eqb-true number (s.current.number + 1) may.0 in record {
            sound = record {
              same = h.same;
              joined = h.joined ∙ alone.0;
              finished = h.finished ∙ alone.1;
              opening = opened_any config came s.current s.successor (Up number) s.opening has
                  h.opening;
              next = omega (arith, is);
              leaving = staying config came s.current.number s.handover (Up number)
                  (not_so (has_come s.handover) may.2);
              waits = h.waits;
              held = h.held;
              held_next = h.held_next;
              quiet = h.quiet;
            };
            last = untold s.current.number (Up number) Absent s.handover (λ k. refl)
                ∙ ap (λ (z : Successor). told_by s.current.number z s.handover) (sym f);
            announced = refl;
            opened = λ e. e;
          }

  -- how far the first legs are
  opens : (o now : Opening) → s.opening ≡ o → is_announced now ≡ is_announced o
      → has_opened now ≡ has_opened o
      → (IsOpening config came s.current s.successor o
      → IsOpening config came s.current s.successor now) → Goes (record s { opening = now })
  opens o now e same same_opened so = record {
    sound = record {
      same = h.same;
      joined = h.joined;
      finished = h.finished;
      opening = so (subst (IsOpening config came s.current s.successor) e h.opening);
      next = h.next;
      leaving = h.leaving;
      waits = h.waits;
      held = h.held;
      held_next = h.held_next;
      quiet = h.quiet;
    };
    last = refl;
    announced = same ∙ ap is_announced (sym e);
    opened = λ f. ap has_opened e ∙ sym same_opened ∙ f;
  }

  pub up_moves : (leg : Leg) → Goes (up s leg)
  up_moves leg =
      by_test Goes (may_accept s leg) (accepted s s.opening leg.number)
      (if wants s leg then connected s s.opening else s)
      (λ e. comes s.opening refl
      (and_parts (is_client_leg leg) (accepts s s.opening leg.number) e).1)
      (λ e. by_test Goes (wants s leg) (connected s s.opening) s (λ f. connects s.opening refl)
      (λ f. still))
    where
      comes : (o : Opening) → s.opening ≡ o → accepts s o leg.number ≡ true
          → Goes (accepted s o leg.number)
      comes AwaitsClient e may = opens AwaitsClient AwaitsPacket e refl refl (λ first. first)
      comes AwaitsPacket e may = absurd cc
      comes (WantsServer o) e may = newcomer leg.number (ap has_opened e) may
      comes (Announces o) e may = newcomer leg.number (ap has_opened e) may
      comes (Announced o) e may = newcomer leg.number (ap has_opened e) may

      connects : (o : Opening) → s.opening ≡ o → Goes (connected s o)
      connects AwaitsClient e = still
      connects AwaitsPacket e = still
      connects (Announces o) e = still
      connects (Announced o) e = still
      connects (WantsServer o) e = opens (WantsServer o) (Announces o) e refl refl (λ first. first)

  pub head_moves : (leg : Leg) (text : List ℕ) → Goes (head s leg text).0
  head_moves leg text = same_moves config came s (head s leg text).0 (same_head s leg text) h

  pub drawn_moves : (leg : Leg) → Goes (drawn s leg)
  drawn_moves leg = same_moves config came s (drawn s leg) (same_drawn s leg) h

  pub mark_moves : (leg : Leg) → Goes (mark s leg)
  mark_moves leg = same_moves config came s (mark s leg) (same_mark s leg) h

  pub ping_moves : (leg : Leg) → Goes (ping s leg)
  ping_moves leg = same_moves config came s (ping s leg) (same_ping s leg) h
