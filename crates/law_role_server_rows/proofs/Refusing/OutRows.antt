-- why a server refuses OUT_R1/A4 and Ack as unexpected
use Rattle.law_order.proofs.Vocabulary.{◌≡◌, ◌⊎◌, inl, inr, ℕ, suc, ◌+◌, ◌≤◌, ◌==◌, ◌&&◌, Bool, false, true≢false, not, List, [], ◌∷◌, Some, None, arith, refl, sym, ap, ◌∙◌, subst, rules, zero, false≢true, and_parts, slice_get, IfSome, IsTrue, AllByRecursion, Option}
use Rattle.rh_shell.specs.declared.answers.Refused.TheVariants as refused
use Rattle.rh_server.specs.declared.state.Stage.TheVariants as stage
use Rattle.rh_server.specs.declared.out_line.Kind.TheVariants as kind
use Rattle.law_moves.proofs.Vocabulary.{by_test, other_number, Cookie, Named, OutServer, Count, Message, Text, Pdu, Packet, is_ended, count_of, of_kind, Passage, is_in_use, is_at_work, Tells}
use Rattle.law_role_server.proofs.Vocabulary.{OutLeg, Replacement, Steady, Asked, Answered, Confirmed, Stage, waits, Server, phase_of, is_some, same_cookie, cookie_by, out_place, out_at, out_cookie, Done, unexpected, refuse, is_first, acked_at, acked_in, acked_cookie, on_ack, answered_by, answered_on, out_r1_a4_by, out_r1_a4_at, is_asked, may_answer, on_out_r1_a4, rules as server_rules, is_conn_a2, is_out_r1_a1, is_out_r1_a4, is_out_r1_a9, out_came, out_put, leg_at, often_at}
use Rattle.law_role_server.proofs.Vocabulary.{since_conn_a2, since_conn_b2, IsText, OpensOnce, since_asked, since_answered, ArePutInTurn, AreReplaced}
use Rattle.law_role_server.proofs.Takes.{not_false}
use Rattle.law_role_server_rows.proofs.Refusing.Writing.{has_place, Writes}
use Rattle.law_role_server_rows.proofs.Refusing.FirstLeg.{AreFirst}
use Rattle.law_role_server_rows.proofs.Refusing.Tests.{one_fails, first_count, later_count, out_waits, WaitsOut}
use Rattle.law_role_server_rows.proofs.Refusing.Places.{all_at}
use Rattle.law_role_server_rows.proofs.Refusing.Told.{seen, number_at}
use Rattle.law_role_server_rows.proofs.Refusing.Begun.{view, Bare, Begun, is_there, in_use_at}
use Rattle.law_role_server_rows.proofs.Refusing.Openings.{IsUnexpected}
use Rattle.law_role_server_rows.specs.Refusing.Refusing.{IsUnbegun}

pub no_packets : (test : Named → Bool) (messages : List Message) → AllByRecursion IsText messages
    → count_of test messages ≡ 0
no_packets test [] all = refl
no_packets test (Text bytes ∷ messages) all = no_packets test messages all.1
no_packets test (Pdu pdu ∷ messages) all = absurd (all.0)
no_packets test (Packet named ∷ messages) all = absurd (all.0)

in_turn : (at : Replacement) → (since_asked at ≤ 1) × (since_answered at ≤ since_asked at)
in_turn Steady = (omega arith, omega arith)
in_turn Asked = (omega arith, omega arith)
in_turn (Answered successor) = (omega arith, omega arith)
in_turn Confirmed = (omega arith, omega arith)

module _ (p : Passage Server) (opens : OpensOnce p) (replaces : AreReplaced p)
    (of_a2 : Begun is_conn_a2 (view p.role) p.came)
    (of_a4 : Begun is_out_r1_a4 (view p.role) p.came) (writes : Writes (seen p.role))
    (turn : ArePutInTurn p) (first_came : AreFirst p.came) where
  -- the leg isn't kept any more
  abbrev IsGone : ℕ → Type 0
  IsGone n = is_some (out_place n p.role.outs) ≡ false

  -- a leg that is there and has no cookie
  unbegun_at : (place : ℕ) (n : ℕ) (x : OutLeg) → out_place n p.role.outs ≡ Some place
      → slice_get p.role.outs place ≡ Some x → is_some x.cookie ≡ false → IsUnbegun p n
  unbegun_at place n x found at none =
      let is = number_at p.role.outs n place x found at in
      subst (IsUnbegun p) is (bare is_conn_a2 of_a2 none, bare is_out_r1_a4 of_a4 none)
    where
      bare : (test : Named → Bool) → Begun test (view p.role) p.came → Bare test p.came x
      bare test h =
          subst (λ (o : Option OutLeg). IfSome o (Bare test p.came)) at
          (all_at (Bare test p.came) p.role.outs place h.each)

  -- there is no cookie for a leg: it is gone, or no channel began there
  no_cookie_so : (n : ℕ) → out_cookie n p.role.outs ≡ None → IsGone n ⊎ IsUnbegun p n
  no_cookie_so n e = by (out_place n p.role.outs) refl e
    where
      by_leg : (place : ℕ) (o : Option OutLeg) → out_place n p.role.outs ≡ Some place
          → slice_get p.role.outs place ≡ o → cookie_by o ≡ None → IsUnbegun p n
      by_leg place None found at e = absurd (is_there p.role n place found at)
      by_leg place (Some x) found at e =
          unbegun_at place n x found at (ap is_some e)

      by : (place : Option ℕ) → out_place n p.role.outs ≡ place
          → cookie_by (out_at p.role.outs place) ≡ None → IsGone n ⊎ IsUnbegun p n
      by None found e = inl (ap (λ (o : Option ℕ). is_some o) found)
      by (Some place) found e =
          inr (by_leg place (slice_get p.role.outs place) found refl e)

  there : (n : ℕ) → IsTrue (is_in_use server_rules p.role (leg_at OutServer n)) → IsGone n → ⊥
  there n used gone =
      absurd (true≢false (sym (in_use_at p.role n used) ∙ gone))

  -- ---- acknowledgements

  pub ack_refused : (n : ℕ) (count : Count) (before received window : ℕ) (cookie : Cookie)
      → IsTrue (is_in_use server_rules p.role (leg_at OutServer n)) → Tells count before
      → IsUnexpected (on_ack p.role n count received window cookie)
      → (before ≡ 0) ⊎ IsUnbegun p n
  ack_refused n count before received window cookie used tells =
      by_test (λ (x : Done). IsUnexpected x → Goal) (is_first count) (unexpected p.role) _
      (λ e r. inl (first_count count before tells e)) (λ e. by (out_cookie n p.role.outs) refl)
    where
      Goal : Type 0
      Goal = (before ≡ 0) ⊎ IsUnbegun p n

      none : IsGone n ⊎ IsUnbegun p n → Goal
      none (inl gone) = absurd (there n used gone)
      none (inr is) = inr is

      acked : (place : Option ℕ) → out_place n p.role.outs ≡ place
          → IsUnexpected (acked_in p.role received window place) → Goal
      acked None found r = none (inl (ap (λ (o : Option ℕ). is_some o) found))
      acked (Some place) found r = by_leg (slice_get p.role.outs place) refl r
        where
          by_leg : (o : Option OutLeg) → slice_get p.role.outs place ≡ o
              → IsUnexpected (acked_at p.role place received window o) → Goal
          by_leg None at r = absurd (is_there p.role n place found at)
          by_leg (Some x) at r = absurd (never place x r)
            where
              never : (place : ℕ) (x : OutLeg)
                  → IsUnexpected (acked_at p.role place received window (Some x)) → ⊥
              never place x r = search rules

      by : (o : Option Cookie) → out_cookie n p.role.outs ≡ o
          → IsUnexpected (acked_cookie p.role n received window cookie o) → Goal
      by None e r = none (no_cookie_so n e)
      by (Some channel) e r =
          by_test (λ (x : Done). IsUnexpected x → Goal) (same_cookie channel cookie)
          (acked_in p.role received window (out_place n p.role.outs))
          (refuse p.role (refused.Cookie channel cookie))
          (λ f. acked (out_place n p.role.outs) refl) (λ f q. absurd (cc)) r

  -- ---- OUT_R1/A4

  -- each OUT_R1/A1 that was put has its OUT_R1/A4
  abbrev Over : Type 0
  Over = out_put is_out_r1_a1 p ≤ out_came is_out_r1_a4 p

  over_waits : WaitsOut p.role.waiting.due → Over
  over_waits some =
      let at = in_turn p.role.replacement in
      let most = at.0 in
      let turn = at.1 in
      omega (
        arith,
        some,
        most,
        turn,
        replaces.asked,
        replaces.began,
        replaces.a1_waits,
        replaces.a5_waits,
        replaces.a9_waits,
      )

  over_at : (at : Replacement) → p.role.replacement ≡ at → is_asked at ≡ false → Over
  over_at at e none =
      let one = ap since_asked e in
      let other = ap since_answered e in
      let same = alike at none in
      omega (arith, replaces.asked, replaces.began, one, other, same)
    where
      alike : (at : Replacement) → is_asked at ≡ false → since_asked at ≡ since_answered at
      alike Steady none = refl
      alike Asked none = absurd (true≢false none)
      alike (Answered successor) none = refl
      alike Confirmed none = refl

  -- before the server is open it puts no packet
  over_early : (at : Stage) → p.role.stage ≡ at → since_conn_a2 at + since_conn_b2 at ≤ 1 → Over
  over_early at e few =
      let one = ap since_conn_a2 e in
      let other = ap since_conn_b2 e in
      let early = opens.early (omega (arith, one, other, few, opens.conn_a2, opens.conn_b2)) in
      let none : out_put is_out_r1_a1 p ≡ 0 =
      no_packets is_out_r1_a1 (of_kind OutServer p.put) early.greetings in omega (arith, none)

  pub a4_refused : (n : ℕ) (count : Count) (before : ℕ) (a b c : Cookie) (d e f : ℕ)
      → IsTrue (is_in_use server_rules p.role (leg_at OutServer n)) → Tells count before
      → IsUnexpected (on_out_r1_a4 p.role n count a b c d e f)
      → (1 ≤ before) ⊎ (n ≡ suc (suc (out_put is_out_r1_a9 p)) → ⊥) ⊎ Over
  a4_refused n count before a b c d e f used tells =
      by_test (λ (x : Done). IsUnexpected x → Goal) (may_answer p.role n count)
      (out_r1_a4_at p.role p.role.stage n a b c d e f) (unexpected p.role)
      (λ g. by p.role.stage refl)
      (λ g r. test (one_fails (is_first count) (first && second) g))
    where
      Goal : Type 0
      Goal =
          (1 ≤ before) ⊎ (n ≡ suc (suc (out_put is_out_r1_a9 p)) → ⊥) ⊎ Over

      first : Bool
      first = n == p.role.writing + 1

      second : Bool
      second = is_asked p.role.replacement && not (waits kind.OutR1 p.role.waiting)

      third : (is_asked p.role.replacement ≡ false)
          ⊎ (not (waits kind.OutR1 p.role.waiting) ≡ false) → Goal
      third (inl g) = inr (inr (over_at p.role.replacement refl g))
      third (inr g) =
          inr (inr (over_waits (out_waits p.role.waiting.due
          (not_false (waits kind.OutR1 p.role.waiting) g))))

      inner : (first ≡ false) ⊎ (second ≡ false) → Goal
      inner (inl g) =
          inr (inl (λ is. other_number n (p.role.writing + 1) g
          (is ∙ sym (ap suc replaces.writing ∙ refl) ∙ plus p.role.writing)))
        where
          plus : (k : ℕ) → suc k ≡ k + 1
          plus k = omega arith
      inner (inr g) =
          third (one_fails (is_asked p.role.replacement)
          (not (waits kind.OutR1 p.role.waiting)) g)

      test : (is_first count ≡ false) ⊎ (first && second ≡ false) → Goal
      test (inl g) = inl (later_count count before tells g)
      test (inr g) = inner (one_fails first second g)

      answers : (place : Option ℕ) → out_place n p.role.outs ≡ place
          → IsUnexpected (answered_by p.role c d e f place (out_at p.role.outs place)) → Goal
      answers None found r =
          absurd (there n used (ap (λ (o : Option ℕ). is_some o) found))
      answers (Some place) found r = by_leg (slice_get p.role.outs place) refl r
        where
          by_leg : (o : Option OutLeg) → slice_get p.role.outs place ≡ o
              → IsUnexpected (answered_by p.role c d e f (Some place) o) → Goal
          by_leg None at r = absurd (is_there p.role n place found at)
          by_leg (Some x) at r = absurd (cc)

      -- the writing channel began: the first with CONN/A2, a later one with OUT_R1/A4
      began : since_conn_a2 p.role.stage ≡ 1 → IsUnbegun p p.role.writing → ⊥
      began opened is = at_number (out_put is_out_r1_a9 p) refl
        where
          at_number : (k : ℕ) → out_put is_out_r1_a9 p ≡ k → ⊥
          at_number zero g =
              let none = subst (λ (i : ℕ). often_at is_conn_a2 OutServer i p.came ≡ 0)
              (replaces.writing ∙ ap suc g) is.0 in
              absurd (omega (arith, none, first_came, opens.conn_a2, opened))
          at_number (suc k) g =
              let none = is.1 in
              let one = turn.a4.each p.role.writing (omega (arith, replaces.writing, g))
              (omega (arith, replaces.writing, replaces.began)) in
              absurd (omega (arith, none, one))

      none : since_conn_a2 p.role.stage ≡ 1 → IsGone p.role.writing ⊎ IsUnbegun p p.role.writing
          → Goal
      none opened (inl gone) =
          absurd (true≢false (sym (has_place p.role.writing p.role.outs (writes.now opened))
          ∙ gone))
      none opened (inr is) = absurd (began opened is)

      by_writing : since_conn_a2 p.role.stage ≡ 1 → (known : Cookie) (o : Option Cookie)
          → out_cookie p.role.writing p.role.outs ≡ o
          → IsUnexpected (out_r1_a4_by p.role n known a b c d e f o) → Goal
      by_writing opened known None g r = none opened (no_cookie_so p.role.writing g)
      by_writing opened known (Some writing) g q =
          by_test (λ (x : Done). IsUnexpected x → Goal) (not (same_cookie known a))
          (refuse p.role (refused.Cookie known a)) _ (λ i r. absurd (cc))
          (λ i. by_test (λ (x : Done). IsUnexpected x → Goal) (not (same_cookie writing b))
          (refuse p.role (refused.Cookie writing b)) (answered_on p.role n c d e f)
          (λ j r. absurd (cc)) (λ j. answers (out_place n p.role.outs) refl)) q

      by : (at : Stage) → p.role.stage ≡ at
          → IsUnexpected (out_r1_a4_at p.role at n a b c d e f) → Goal
      by (stage.Open known) g r =
          by_writing (ap since_conn_a2 g) known
          (out_cookie p.role.writing p.role.outs) refl r
      by stage.Waits g r = inr (inr (over_early stage.Waits g (omega arith)))
      by (stage.OutCame known) g r =
          inr (inr (over_early (stage.OutCame known) g (omega arith)))
      by (stage.InCame known window timeout) g r =
          inr (inr (over_early (stage.InCame known window timeout) g (omega arith)))
      by stage.Ended g r = absurd (at_work_not g)
        where
          at_work_not : p.role.stage ≡ stage.Ended → ⊥
          at_work_not is = false≢true (sym (ap (λ (at : Stage). not (is_ended (phase_of at))) is)
              ∙ (and_parts (is_at_work server_rules p.role) _ used).0)
