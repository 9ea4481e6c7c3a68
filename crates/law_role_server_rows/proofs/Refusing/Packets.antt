-- why a server refuses, packet by packet
use Rattle.law_order.proofs.Vocabulary.{◌≡◌, ◌⊎◌, inl, inr, ℕ, ◌≤◌, ◌==◌, ◌&&◌, Bool, false, not, arith, refl, ap, rules, IsTrue, Option}
use Rattle.rh_sig.specs.declared.named.Named.TheVariants as named
use Rattle.rh_server.specs.declared.out_line.Kind.TheVariants as kind
use Rattle.law_moves.proofs.Vocabulary.{by_test, other_number, Cookie, Named, Leg, LegKind, ClientOut, OutServer, ClientIn, InServer, Count, Passage, is_in_use, Tells}
use Rattle.law_role_server.proofs.Vocabulary.{Replacement, Steady, Asked, Answered, Confirmed, waits, Server, same_cookie, Done, took, unexpected, is_first, forwards_writing, forwards_to, channel_leg, on_ack_to, on_ping_traffic, out_r1_a8_at, on_out_r1_a8, packet_by, on_is, on_os, rules as server_rules, is_conn_a2, is_out_r1_a4, is_out_r1_a5, is_out_r1_a8, in_came, out_put, leg_at, OpensOnce, since_asked, since_answered, since_confirmed, ArePutInTurn, AreReplaced}
use Rattle.law_role_server.proofs.Takes.{not_false}
use Rattle.law_role_server_rows.proofs.Refusing.Tests.{one_fails, first_count, out_waits, WaitsOut}
use Rattle.law_role_server_rows.proofs.Refusing.Begun.{view, Begun}
use Rattle.law_role_server_rows.proofs.Refusing.Writing.{Writes}
use Rattle.law_role_server_rows.proofs.Refusing.FirstLeg.{AreFirst}
use Rattle.law_role_server_rows.proofs.Refusing.OutRows.{ack_refused, a4_refused}
use Rattle.law_role_server_rows.proofs.Refusing.Told.{seen, Known}
use Rattle.law_role_server_rows.proofs.Refusing.Mismatches.{refused_other}
use Rattle.law_role_server_rows.proofs.Refusing.Openings.{IsUnexpected, conn_a2_refused, conn_b2_refused}
use Rattle.law_role_server_rows.specs.Refusing.Refusing.{came_on, UnexpectedBy, RefusesFor}

-- ---- acknowledgements

writing_full : (s : Server) (packet : Named) → IsUnexpected (forwards_writing s packet) → ⊥
writing_full s packet = search rules

to_full : (s : Server) (packet : Named) (number : Option ℕ)
    → IsUnexpected (forwards_to s packet number) → ⊥
to_full s packet number = search rules

ack_to_refused : (s : Server) (count : Count) (before destination received window : ℕ)
    (cookie : Cookie) → Tells count before
    → IsUnexpected (on_ack_to s count destination received window cookie)
    → (before ≡ 0) ⊎ ((destination ≡ 0 → ⊥) × (destination ≡ 3 → ⊥))
ack_to_refused s count before destination received window cookie tells =
    by_test (λ (d : Done). IsUnexpected d → Goal) (is_first count) (unexpected s) _
    (λ e r. inl (first_count count before tells e))
    (λ e. by_test (λ (d : Done). IsUnexpected d → Goal) (destination == 0) _ _
    (λ f r. absurd (writing_full s (named.AckTo 0 received window cookie) r))
    (λ f. by_test (λ (d : Done). IsUnexpected d → Goal) (destination == 3) _ (unexpected s)
    (λ g r. absurd (to_full s (named.AckTo 3 received window cookie)
    (channel_leg cookie s.outs) r))
    (λ g r. inr (other_number destination 0 f, other_number destination 3 g))))
  where
    Goal : Type 0
    Goal = (before ≡ 0) ⊎ ((destination ≡ 0 → ⊥) × (destination ≡ 3 → ⊥))

traffic_refused : (s : Server) (count : Count) (before : ℕ) → Tells count before
    → IsUnexpected (on_ping_traffic s count) → before ≡ 0
traffic_refused s count before tells =
    by_test (λ (d : Done). IsUnexpected d → before ≡ 0) (is_first count) (unexpected s) (took s)
    (λ e r. first_count count before tells e) (λ e r. absurd (cc))

-- ---- an OUT channel is replaced

in_turn : (at : Replacement) → (since_asked at ≤ 1) × (since_confirmed at ≤ since_answered at)
in_turn Steady = (omega arith, omega arith)
in_turn Asked = (omega arith, omega arith)
in_turn (Answered successor) = (omega arith, omega arith)
in_turn Confirmed = (omega arith, omega arith)

module _ (p : Passage Server) (h : AreReplaced p) where
  abbrev Over : Type 0
  Over = out_put is_out_r1_a5 p ≤ in_came is_out_r1_a8 p

  -- each OUT_R1/A5 that was put has its OUT_R1/A8
  over_waits : WaitsOut p.role.waiting.due → Over
  over_waits some =
      let at = in_turn p.role.replacement in
      let most = at.0 in
      let turn = at.1 in
      omega (arith, some, most, turn, h.answered, h.confirmed, h.a1_waits, h.a9_waits)

  over_at : (at : Replacement) → p.role.replacement ≡ at
      → since_answered at ≡ since_confirmed at → Over
  over_at at e same =
      let one = ap since_answered e in
      let other = ap since_confirmed e in
      omega (arith, h.answered, h.confirmed, one, other, same)

  a8_refused : (count : Count) (before destination : ℕ) (successor : Cookie)
      → Tells count before → IsUnexpected (on_out_r1_a8 p.role count destination successor)
      → (before ≡ 0) ⊎ (destination ≡ 2 → ⊥) ⊎ Over
  a8_refused count before destination successor tells =
      by_test (λ (d : Done). IsUnexpected d → Goal) _ _ (unexpected p.role)
      (λ e. by p.role.replacement refl)
      (λ e r. test (one_fails (not (is_first count)) rest e))
    where
      Goal : Type 0
      Goal = (before ≡ 0) ⊎ (destination ≡ 2 → ⊥) ⊎ Over

      rest : Bool
      rest = (destination == 2) && not (waits kind.OutR1 p.role.waiting)

      inner : (destination == 2 ≡ false) ⊎ (not (waits kind.OutR1 p.role.waiting) ≡ false)
          → Goal
      inner (inl f) = inr (inl (other_number destination 2 f))
      inner (inr f) =
          inr (inr (over_waits (out_waits p.role.waiting.due
          (not_false (waits kind.OutR1 p.role.waiting) f))))

      test : (not (is_first count) ≡ false) ⊎ (rest ≡ false) → Goal
      test (inl f) = inl (first_count count before tells (not_false (is_first count) f))
      test (inr f) =
          inner (one_fails (destination == 2) (not (waits kind.OutR1 p.role.waiting)) f)

      by : (at : Replacement) → p.role.replacement ≡ at
          → IsUnexpected (out_r1_a8_at p.role successor at) → Goal
      by (Answered cookie) e r =
          by_test (λ (d : Done). IsUnexpected d → Goal) (same_cookie cookie successor) _ _
          (λ t q. absurd (cc)) (λ t q. absurd (cc)) r
      by Steady e r = inr (inr (over_at Steady e refl))
      by Asked e r = inr (inr (over_at Asked e refl))
      by Confirmed e r = inr (inr (over_at Confirmed e refl))

-- ---- each packet

module _ (p : Passage Server) (opens : OpensOnce p) (replaces : AreReplaced p)
    (of_a2 : Begun is_conn_a2 (view p.role) p.came)
    (of_a4 : Begun is_out_r1_a4 (view p.role) p.came) (writes : Writes (seen p.role))
    (turn : ArePutInTurn p) (first_came : AreFirst p.came) where
  on_is_refused : (leg : Leg) (count : Count) (m : Named) → Tells count (came_on p leg)
      → IsUnexpected (on_is p.role leg.number count m) → UnexpectedBy p leg m InServer
  on_is_refused leg count (named.ConnB2 v1 v2 v3 v4 v5 v6 v7 v8) tells r =
      conn_b2_refused p opens leg.number count (came_on p leg) v2 v3 v4 v5 tells r
  on_is_refused leg count (named.AckTo destination received window cookie) tells r =
      ack_to_refused p.role count (came_on p leg) destination received window cookie tells r
  on_is_refused leg count (named.OutR1A8 destination successor) tells r =
      a8_refused p replaces count (came_on p leg) destination successor tells r
  on_is_refused leg count packet tells r = tt

  on_os_refused : (leg : Leg) (count : Count) (m : Named)
      → IsTrue (is_in_use server_rules p.role (leg_at OutServer leg.number))
      → Tells count (came_on p leg) → IsUnexpected (on_os p.role leg.number count m)
      → UnexpectedBy p leg m OutServer
  on_os_refused leg count (named.ConnA2 v1 v2 v3 v4 v5) used tells r =
      conn_a2_refused p opens leg.number count (came_on p leg) v2 v3 v4 v5 tells r
  on_os_refused leg count (named.OutR1A4 v1 v2 v3 v4 v5 v6 v7) used tells r =
      a4_refused p opens replaces of_a2 of_a4 writes turn first_came leg.number count
      (came_on p leg) v2 v3 v4 v5 v6 v7 used tells r
  on_os_refused leg count (named.Ack v1 v2 v3) used tells r =
      ack_refused p opens replaces of_a2 of_a4 writes turn first_came leg.number count
      (came_on p leg) v1 v2 v3 used tells r
  on_os_refused leg count (named.PingTraffic bytes) used tells r =
      traffic_refused p.role count (came_on p leg) tells r
  on_os_refused leg count packet used tells r = tt

  by_kind : (leg : Leg) (count : Count) (m : Named) (k : LegKind)
      → IsTrue (is_in_use server_rules p.role (leg_at k leg.number))
      → Tells count (came_on p leg) → IsUnexpected (packet_by p.role leg.number count m k)
      → UnexpectedBy p leg m k
  by_kind leg count m InServer used tells r = on_is_refused leg count m tells r
  by_kind leg count m OutServer used tells r = on_os_refused leg count m used tells r
  by_kind leg count m ClientIn used tells r = tt
  by_kind leg count m ClientOut used tells r = tt

  pub refuses_for : Known (seen p.role) p.came → RefusesFor p
  refuses_for known = record {
    unexpected = λ leg count m used tells r. by_kind leg count m leg.kind used tells r;
    mismatch = λ leg count m expected got r.
        refused_other expected got p known replaces.writing leg.number count m leg.kind r;
  }
