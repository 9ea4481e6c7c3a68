-- what an in proxy keeps behind its moves, where no echo is asked for: nothing is put on its ci
-- legs, and behind IN_R1/B1 its work is done
use Rattle.law_order.proofs.Vocabulary.{◌≡◌, ◌⊎◌, inl, inr, ◌||◌, ◌∙◌, ℕ, Bool, true, false, true≢false, not, List, [], ◌∷◌, ◌++◌, Some, None, Ok, Err, refl, sym, ap, subst, and_parts, AllByRecursion, if◌then◌else◌, Option}
use Rattle.rh_inproxy.specs.declared.state.Work.TheVariants as works
use Rattle.law_moves.proofs.Vocabulary.{by_test, Named, InR1B1, request_verdict, Leg, Count, Message, Pdu, Packet, Row, Rules, same_leg, of_leg, put_by, taken_by, Has, is_in_use, AreAllowed, MayMove, Move, Up, HeadCame, PduCame, PacketCame, Puts, IsDrawn, Marks, Pings, Passage, started, moved, all_moved, is_at_work}
use Rattle.law_moves.proofs.Lemmas.{leg_is, of_append}
use Rattle.law_role_inproxy.proofs.Vocabulary.{InProxyConfig, Work, Done, Pick, taken, unexpected, InProxy, first, has_come, has_passed, is_client_leg, is_server_leg, head, drawn, drawn_by, echo_by, is_newest, settled_pick, up, on_ci, on_is, pdu, packet, ping, put_echo, next, put as put_of, rules as proxy_rules, ci_leg, is_leg}
use Rattle.law_role_inproxy.proofs.Refusing.Naming.{has_split}
use Rattle.law_node_ends.specs.Passed.{AsksNoEcho, HeadsAre}
use Rattle.law_node_marks.specs.Losing.{marking}
use Rattle.law_node_marks.proofs.ByMoves.{moves_keep, put_keeps, row_keeps}
use Rattle.law_node_marks.proofs.InProxyRows.{IsUnderway, to_fine, to_all, up_kept, head_fine, pdu_kept, packet_all, puts_all, mark_all, drawn_all, ping_all}
use Rattle.law_node_marks.proofs.InProxyRows as kept

module _ (Handed : Type 0) where
  abbrev All : InProxy → Type 0
  All = kept.All Handed

  abbrev Fine : InProxy → Type 0
  Fine = kept.Fine Handed

  works_on : (s : InProxy) (leg : Leg) → is_in_use proxy_rules s leg ≡ true
      → is_at_work proxy_rules s ≡ true
  works_on s leg used =
      (and_parts (is_at_work proxy_rules s) (not (proxy_rules.is_done s leg)) used).0

  -- on a ci leg nothing is put
  none_put : (s : InProxy) (leg : Leg) → Fine s → is_client_leg leg ≡ true → put_of s leg ≡ None
  none_put s leg h is =
      by_test (λ (pick : Pick). pick ≡ None) (is_client_leg leg) (put_echo s leg.number)
      (if is_server_leg s leg then settled_pick (next s) else None)
      (λ t. by s.work h.work) (λ t. absurd (true≢false (sym is ∙ t)))
    where
      by : (w : Work) → w ≡ works.Underway → echo_by s w leg.number ≡ None
      by works.Underway e = refl
      by (works.EchoDue asked_on) e = absurd cc
      by (works.EchoPut asked_on) e = refl
      by works.Done e = refl

  -- IN_R1/B1 came on an is leg
  abbrev WasTold : Passage InProxy → ℕ → Type 0
  WasTold p n = Has InR1B1 (of_leg (is_leg n) p.came)

  pub record Held (p : Passage InProxy) : Type 0 where
    pub all : All p.role
    pub unput : (n : ℕ) → of_leg (ci_leg n) p.put ≡ []
    pub told : (n : ℕ) → WasTold p n → p.role.work ≡ works.Done

  -- none came while the work goes on
  untold : (p : Passage InProxy) → Held p → Fine p.role → (n : ℕ) → WasTold p n → ⊥
  untold p h fine n t = not_done p.role.work fine.work (h.told n t)
    where
      not_done : (w : Work) → w ≡ works.Underway → w ≡ works.Done → ⊥
      not_done works.Underway e f = absurd cc
      not_done (works.EchoDue number) e f = absurd cc
      not_done (works.EchoPut number) e f = absurd cc
      not_done works.Done e f = absurd cc

  -- the row that takes it
  b1_done : (s : InProxy) (leg : Leg) (count : Count) (t : InProxy) (taken_it : Unit {0})
      → is_client_leg leg ≡ false
      → packet s leg count InR1B1 ≡ (t, Ok taken_it) → t.work ≡ works.Done
  b1_done s leg count t taken_it other =
      by_test IsDone (is_client_leg leg) (on_ci s leg.number InR1B1)
      (if is_server_leg s leg then on_is s InR1B1 else unexpected s)
      (λ c. absurd (true≢false (sym c ∙ other)))
      (λ c. by_test IsDone (is_server_leg s leg) (on_is s InR1B1) (unexpected s)
      (λ d. by_test IsDone (has_passed s.handover) (taken (record s { work = works.Done }))
      (unexpected s) (λ e f. ap (λ (x : Done). x.0.work) (sym f)) (λ e. refused))
      (λ d. refused))
    where
      is_taken : Done → Bool
      is_taken (u, Ok fine) = true
      is_taken (u, Err why) = false

      refused : unexpected s ≡ (t, Ok taken_it) → t.work ≡ works.Done
      refused f = absurd (true≢false (sym (ap is_taken f)))

      IsDone : Done → Type 0
      IsDone x = x ≡ (t, Ok taken_it) → t.work ≡ works.Done

  -- a message more, which came on a leg
  told_more : (p : Passage InProxy) (leg : Leg) (m : Message) (n : ℕ)
      → Has InR1B1 (of_leg (is_leg n) (p.came ++ (leg, m) ∷ []))
      → WasTold p n ⊎ (Has InR1B1 (m ∷ []) × (same_leg leg (is_leg n) ≡ true))
  told_more p leg m n h =
      by (has_split InR1B1 (of_leg (is_leg n) p.came) (of_leg (is_leg n) ((leg, m) ∷ []))
      (subst (Has InR1B1) (of_append (is_leg n) p.came ((leg, m) ∷ [])) h))
    where
      on : (t : Bool) → same_leg leg (is_leg n) ≡ t → Has InR1B1 (if t then m ∷ [] else [])
          → Has InR1B1 (m ∷ []) × (same_leg leg (is_leg n) ≡ true)
      on true e one = (one, e)
      on false e one = absurd one

      by : WasTold p n ⊎ Has InR1B1 (of_leg (is_leg n) ((leg, m) ∷ []))
          → WasTold p n ⊎ (Has InR1B1 (m ∷ []) × (same_leg leg (is_leg n) ≡ true))
      by (inl before) = inl before
      by (inr now) = inr (on (same_leg leg (is_leg n)) refl now)

  told_pdu : (p : Passage InProxy) (leg : Leg) (bytes : List ℕ) (x : InProxy × Row)
      → ((n : ℕ) → WasTold p n → ⊥) → (n : ℕ) → WasTold (taken_by p leg (Pdu bytes) x) n
      → (taken_by p leg (Pdu bytes) x).role.work ≡ works.Done
  told_pdu p leg bytes (s, Err refused) none n h = absurd (none n h)
  told_pdu p leg bytes (s, Ok taken) none n h = by (told_more p leg (Pdu bytes) n h)
    where
      no_packet : Has InR1B1 (Pdu bytes ∷ []) → ⊥
      no_packet (inl same) = absurd cc
      no_packet (inr more) = more

      by : WasTold p n ⊎ (Has InR1B1 (Pdu bytes ∷ []) × (same_leg leg (is_leg n) ≡ true))
          → s.work ≡ works.Done
      by (inl before) = absurd (none n before)
      by (inr now) = absurd (no_packet now.0)

  told_packet : (p : Passage InProxy) (leg : Leg) (count : Count) (named : Named)
      (x : InProxy × Row) → packet p.role leg count named ≡ x
      → ((n : ℕ) → WasTold p n → ⊥) → (n : ℕ) → WasTold (taken_by p leg (Packet named) x) n
      → (taken_by p leg (Packet named) x).role.work ≡ works.Done
  told_packet p leg count named (s, Err refused) is none n h = absurd (none n h)
  told_packet p leg count named (s, Ok fine) is none n h =
      by (told_more p leg (Packet named) n h)
    where
      done : named ≡ InR1B1 → same_leg leg (is_leg n) ≡ true → s.work ≡ works.Done
      done same here =
          b1_done p.role leg count s fine
          (subst (λ (l : Leg). is_client_leg l ≡ false) (sym (leg_is leg (is_leg n) here)) refl)
          (ap (packet p.role leg count) (sym same) ∙ is)

      one : Has InR1B1 (Packet named ∷ []) → named ≡ InR1B1
      one (inl same) = cc
      one (inr more) = absurd more

      by : WasTold p n ⊎ (Has InR1B1 (Packet named ∷ []) × (same_leg leg (is_leg n) ≡ true))
          → s.work ≡ works.Done
      by (inl before) = absurd (none n before)
      by (inr now) = done (one now.0) now.1

  unput_more : (p : Passage InProxy) (leg : Leg) (pick : Option (InProxy × Message))
      → (is_client_leg leg ≡ true → pick ≡ None)
      → ((n : ℕ) → of_leg (ci_leg n) p.put ≡ [])
      → (n : ℕ) → of_leg (ci_leg n) (put_by p leg pick).put ≡ []
  unput_more p leg None none h n = h n
  unput_more p leg (Some one) none h n =
      of_append (ci_leg n) p.put ((leg, one.1) ∷ [])
      ∙ ap (λ (ms : List Message). ms ++ of_leg (ci_leg n) ((leg, one.1) ∷ [])) (h n)
      ∙ by (same_leg leg (ci_leg n)) refl
    where
      by : (t : Bool) → same_leg leg (ci_leg n) ≡ t
          → (if t then one.1 ∷ [] else []) ≡ []
      by true t =
          absurd (let bad = none (subst (λ (l : Leg). is_client_leg l ≡ true)
          (sym (leg_is leg (ci_leg n) t)) refl) in cc)
      by false t = refl

  -- a row puts nothing
  row_unput : (p : Passage InProxy) (leg : Leg) (m : Message) (x : InProxy × Row)
      → ((n : ℕ) → of_leg (ci_leg n) p.put ≡ [])
      → (n : ℕ) → of_leg (ci_leg n) (taken_by p leg m x).put ≡ []
  row_unput p leg m (s, Ok taken) h = h
  row_unput p leg m (s, Err refused) h = h

  -- nor does anything come by a put
  told_put : (p : Passage InProxy) (leg : Leg) (pick : Option (InProxy × Message))
      → ((n : ℕ) → WasTold p n → ⊥) → (n : ℕ) → WasTold (put_by p leg pick) n
      → (put_by p leg pick).role.work ≡ works.Done
  told_put p leg None none n h = absurd (none n h)
  told_put p leg (Some one) none n h = absurd (none n h)

  drawn_same : (s : InProxy) (leg : Leg) → s.work ≡ works.Done → (drawn s leg).work ≡ works.Done
  drawn_same s leg e =
      by_test (λ (t : InProxy). t.work ≡ works.Done) (is_client_leg leg)
      (drawn_by s s.work leg.number) s (λ t. by s.work e) (λ t. e)
    where
      by : (w : Work) → w ≡ works.Done → (drawn_by s w leg.number).work ≡ works.Done
      by works.Underway f = e
      by (works.EchoDue number) f = e
      by (works.EchoPut number) f = absurd cc
      by works.Done f = e

  ping_same : (s : InProxy) (leg : Leg) → (ping s leg).work ≡ s.work
  ping_same s leg =
      by_test (λ (t : InProxy). t.work ≡ s.work) (is_server_leg s leg)
      (record s { ping_due = true }) s (λ t. refl) (λ t. refl)

  module _ (marks : InProxy → Leg → Bool)
      (so : (s : InProxy) (leg : Leg) → marks s leg ≡ true
      → Handed → (not (is_newest s leg) || has_come s.handover) ≡ true) where
    abbrev other : Rules InProxy
    other = marking proxy_rules marks

    step_all : (p : Passage InProxy) (move : Move) → MayMove other p.role move
        → HeadsAre (AsksNoEcho true) move → Held p → Held (moved other p move)
    step_all p (Up leg cookie) may asks h = record {
      all = to_all Handed (up p.role leg)
          (up_kept Handed IsUnderway p.role leg (to_fine Handed p.role may.0 h.all));
      unput = h.unput;
      told = λ n t. absurd (untold p h (to_fine Handed p.role may.0 h.all) n t);
    }
    step_all p (HeadCame leg text) may asks h = record {
      all = to_all Handed (head p.role leg text).0
          (head_fine Handed p.role leg.number (request_verdict true text) asks
          (to_fine Handed p.role (works_on p.role leg may) h.all));
      unput = h.unput;
      told = λ n t. absurd (untold p h (to_fine Handed p.role (works_on p.role leg may) h.all) n t);
    }
    step_all p (PduCame leg count bytes) may asks h = record {
      all = row_keeps All p leg (Pdu bytes) (pdu p.role leg count bytes)
          (to_all Handed (pdu p.role leg count bytes).0
          (pdu_kept Handed IsUnderway p.role leg count bytes
          (to_fine Handed p.role (works_on p.role leg may.0) h.all)));
      unput = row_unput p leg (Pdu bytes) (pdu p.role leg count bytes) h.unput;
      told = told_pdu p leg bytes (pdu p.role leg count bytes)
          (untold p h (to_fine Handed p.role (works_on p.role leg may.0) h.all));
    }
    step_all p (PacketCame leg count named) may asks h = record {
      all = row_keeps All p leg (Packet named) (packet p.role leg count named)
          (packet_all Handed p.role leg count named
          (to_fine Handed p.role (works_on p.role leg may) h.all));
      unput = row_unput p leg (Packet named) (packet p.role leg count named) h.unput;
      told = told_packet p leg count named (packet p.role leg count named) refl
          (untold p h (to_fine Handed p.role (works_on p.role leg may) h.all));
    }
    step_all p (Puts leg) may asks h =
        let fine = to_fine Handed p.role (works_on p.role leg may) h.all in
        record {
          all = put_keeps All p leg (put_of p.role leg) h.all (puts_all Handed p.role leg fine);
          unput = unput_more p leg (put_of p.role leg) (none_put p.role leg fine) h.unput;
          told = told_put p leg (put_of p.role leg) (untold p h fine);
        }
    step_all p (IsDrawn leg) may asks h =
        record {
          all = drawn_all Handed p.role leg h.all;
          unput = h.unput;
          told = λ n t. drawn_same p.role leg (h.told n t);
        }
    step_all p (Marks leg) may asks h = record {
      all = mark_all Handed p.role leg (so p.role leg may.1) (to_fine Handed p.role may.0 h.all);
      unput = h.unput;
      told = λ n t. absurd (untold p h (to_fine Handed p.role may.0 h.all) n t);
    }
    step_all p (Pings leg) may asks h =
        record {
          all = ping_all Handed p.role leg h.all;
          unput = h.unput;
          told = λ n t. ping_same p.role leg ∙ h.told n t;
        }

    pub held_behind : (config : InProxyConfig) (moves : List Move)
        → AreAllowed other (started (first config)) moves
        → AllByRecursion (HeadsAre (AsksNoEcho true)) moves
        → Held (all_moved other (started (first config)) moves)
    held_behind config moves may asks =
        moves_keep other (HeadsAre (AsksNoEcho true)) Held step_all (started (first config)) moves
        may asks (record {
          all = record { handed = λ k e. absurd (true≢false (sym e)); works = tt };
          unput = λ n. refl;
          told = λ n t. absurd t;
        })
