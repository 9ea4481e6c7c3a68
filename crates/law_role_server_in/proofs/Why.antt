-- why a server refuses what comes on an is leg
use Rattle.law_order.proofs.Vocabulary.{◌≡◌, ◌⊎◌, inl, inr, ℕ, ◌≤◌, ◌==◌, ◌&&◌, nat_lt, Bool, true, false, not, List, Some, None, Ok, Err, arith, refl, sym, ap, ◌∙◌, subst, false≢true, IfSome, IsTrue, Option, Result}
use Rattle.rh_line.specs.declared.line_fault.LineFault.TheVariants as line_fault
use Rattle.rh_shell.specs.declared.answers.Refused.TheVariants as refused
use Rattle.rh_server.specs.declared.state.InStage.TheVariants as in_stage
use Rattle.rh_server.specs.declared.out_line.Kind.TheVariants as kind
use Rattle.rh_server.specs.declared.state.Stage.TheVariants as stage
use Rattle.law_moves.proofs.Vocabulary.{by_test, test_same, Cookie, admit_verdict, LineFault, Which, Current, Next, InServer, Count, Passage, of_leg, Tells}
use Rattle.law_role_server.proofs.Vocabulary.{InLeg, InStage, Stage, waits, Server, is_fresh, is_open, is_some, is_waiting, same_cookie, in_at, in_leg, in_place, Done, unexpected, is_first, admitted_by, admitted_on, channel_at, on_pdu, has_fresh_below, in_r1_a2_by, in_r1_a2_at, on_in_r1_a2, in_r2_a2_on, on_in_r2_a2, end_a2_at, end_a2_on_leg, end_a2_waiting, is_over_on, on_end_a2, waits_ended, AreAnswered, OpensOnce, is_end_a2, is_in_r1_a6, leg_at}
use Rattle.law_role_server.proofs.TakesRows.{on_next}
use Rattle.law_role_server.proofs.Takes.{not_false}
use Rattle.law_role_server_rows.proofs.InTurn.InPlaces.{Found, Placed, found_at, placed}
use Rattle.law_role_server_rows.proofs.Putting.Each.{number_found}
use Rattle.law_role_server_rows.proofs.InTurn.InKept.{is_opened}
use Rattle.law_role_server_rows.proofs.Refusing.Tests.{first_count, later_count, one_fails}
use Rattle.law_role_server_in.proofs.Tallies.{Tally, tally}
use Rattle.law_role_server_in.proofs.Kept.{IsOpen, So, leg_at_place, top_of}
use Rattle.law_role_server_in.proofs.Takes.{Holds, IsKept, on_current}
use Rattle.law_role_server_in.proofs.Steps.{in_use}
use Rattle.law_role_server_in.proofs.Tests.{FreshLeg, at_least, first_among, fresh_leg, in_r2_a3_waits, is_over, none_current, none_next, some_waits, still_opening}
use Rattle.law_role_server_in.specs.Refusing.{IsFreshBelow, IsShut, IsUnopened, IsUsed, IsOpening, UnexpectedEndA2, UnexpectedInR1A2, UnexpectedInR2A2, UnexpectedPdu, came_at, came_on}

abbrev pub IsUnexpected : Done → Type 0
IsUnexpected d = d.1 ≡ Err refused.Unexpected

-- the leg of that number
record Leg (legs : List InLeg) (n : ℕ) (o : Option InLeg) : Type 0 where
  leg : InLeg
  found : Found legs leg
  number : leg.number ≡ n
  is : o ≡ Some leg

leg_in : (legs : List InLeg) (n : ℕ) (o : Option InLeg) → IsKept o → IfSome o (Found legs)
    → IfSome o (λ (leg : InLeg). leg.number ≡ n) → Leg legs n o
leg_in legs n None kept found number = absurd kept
leg_in legs n (Some leg) kept found number =
    record { leg = leg; found = found; number = number; is = refl }

module _ (p : Passage Server) (known : (n : ℕ) → Holds n p.role p.came p.put)
    (answers : AreAnswered p) (opens : OpensOnce p) where
  abbrev pub s : Server
  s = p.role

  module _ (n : ℕ) (used : IsUsed p n) where
    abbrev pub c : Tally
    c = tally n p.came p.put

    at : Leg s.ins n (in_leg n s.ins)
    at = leg_in s.ins n (in_leg n s.ins) (in_use s n used).1 (found_at s.ins (in_place n s.ins))
        (number_found n s.ins (in_place n s.ins) refl)

    so : So n (top_of s) c at.leg
    so = leg_at_place n (top_of s) s.newest_in s.ins c at.leg at.found (sym at.number) (known n)

    is_opening : is_open s.stage ≡ false → IsOpening p
    is_opening shut = opens.opening (still_opening s.stage (in_use s n used).0 shut)

    -- its channel waits
    unopened : is_waiting at.leg.stage ≡ true → is_opened at.leg.stage ≡ false → IsUnopened p n
    unopened e f = record {
      announced = so.waits e;
      answered =
          let some = some_waits s.ins at.found.place at.leg at.found.at e in
          omega (arith, some, answers.in_r1);
      untold = (so.untold f).1;
    }

    left_if : is_opened at.leg.stage ≡ true → channel_at s n ≡ None
        → 1 ≤ came_at is_in_r1_a6 p n
    left_if e none = by (so.opened e)
      where
        by : IsOpen n (top_of s) c → 1 ≤ came_at is_in_r1_a6 p n
        by (inl now) =
            (known n).tail.left
            (none_current (n == s.current.leg) s.line.finished _ none
            (ap (λ (k : ℕ). n == k) (sym now) ∙ test_same n)) now
        by (inr (inl next)) =
            absurd (none_next ((n == s.current.leg) && not s.line.finished) s.line.has_next
            (n == s.next.leg) none next.0 (ap (λ (k : ℕ). n == k) (sym next.1) ∙ test_same n))
        by (inr (inr left)) = left

    shut : channel_at s n ≡ None → IsShut p n
    shut none = by at.leg.stage refl
      where
        by : (x : InStage) → at.leg.stage ≡ x → IsShut p n
        by in_stage.Fresh e = inl (so.fresh (ap is_fresh e))
        by (in_stage.Waits window timeout ended) e =
            inr (inl (unopened (ap is_waiting e) (ap is_opened e)))
        by in_stage.Opened e = inr (inr (left_if (ap is_opened e) none))

    -- END came on the channel
    over : (which : Which) → channel_at s n ≡ Some which → is_over_on s which ≡ true
        → 1 ≤ came_at is_end_a2 p n
    over Current on e = (known n).tail.now_over e (on_current s n on)
    over Next on e =
        let next = on_next s n on in (known n).tail.next_over next.0 e next.1

    -- ---- RPC PDUs

    verdict : (which : Which) (bytes : List ℕ) (v : Result (Unit {0}) LineFault)
        → IsUnexpected (admitted_by s which bytes v) → v ≡ Err line_fault.Over
    verdict which bytes (Ok admits) r = absurd (cc)
    verdict which bytes (Err (line_fault.Window exceeded)) r = absurd (cc)
    verdict which bytes (Err line_fault.Over) r = refl

    ended : (which : Which) (bytes : List ℕ)
        → admit_verdict s.line which bytes ≡ Err line_fault.Over → is_over_on s which ≡ true
    ended Current bytes e = is_over s.line.current.ended _ e
    ended Next bytes e = is_over s.line.next.ended _ e

    pub pdu_refused : (bytes : List ℕ) → IsUnexpected (on_pdu s n bytes) → UnexpectedPdu p n
    pdu_refused bytes =
        by_test (λ (d : Done). IsUnexpected d → UnexpectedPdu p n) (is_open s.stage)
        (admitted_on s bytes (channel_at s n)) (unexpected s) (λ e. by (channel_at s n) refl)
        (λ e r. inl (is_opening e))
      where
        by : (o : Option Which) → channel_at s n ≡ o → IsUnexpected (admitted_on s bytes o)
            → UnexpectedPdu p n
        by None on r = inr (inl (shut on))
        by (Some which) on r =
            inr (inr (over which on
            (ended which bytes (verdict which bytes (admit_verdict s.line which bytes) r))))

    -- ---- END/A2

    pub end_refused : (count : Count) → Tells count (came_on p n)
        → IsUnexpected (on_end_a2 s n count) → UnexpectedEndA2 p n
    end_refused count tells =
        by_test (λ (d : Done). IsUnexpected d → UnexpectedEndA2 p n) (is_first count)
        (unexpected s) (end_a2_at s n (channel_at s n))
        (λ e r. inl (first_count count (came_on p n) tells e))
        (λ e. by (channel_at s n) refl)
      where
        staged : (x : InStage) → at.leg.stage ≡ x → channel_at s n ≡ None
            → IsUnexpected (end_a2_on_leg s at.leg x) → UnexpectedEndA2 p n
        staged in_stage.Fresh e on = λ r. inr (inl (so.fresh (ap is_fresh e)))
        staged in_stage.Opened e on = λ r. inr (inr (inl (left_if (ap is_opened e) on)))
        staged (in_stage.Waits window timeout came) e on =
            by_test (λ (d : Done). IsUnexpected d → UnexpectedEndA2 p n) came (unexpected s) _
            (λ f r. inr (inr (inr (so.ended (ap waits_ended e ∙ f)))))
            (λ f r. absurd (cc))

        by : (o : Option Which) → channel_at s n ≡ o → IsUnexpected (end_a2_at s n o)
            → UnexpectedEndA2 p n
        by None on = λ r.
            staged at.leg.stage refl on
            (subst (λ (o : Option InLeg). IsUnexpected (end_a2_waiting s o)) at.is r)
        by (Some which) on =
            by_test (λ (d : Done). IsUnexpected d → UnexpectedEndA2 p n) (is_over_on s which)
            (unexpected s) _ (λ e r. inr (inr (inr (over which on e)))) (λ e r. absurd (cc))

    -- ---- IN_R2/A2

    pub in_r2_a2_refused : (count : Count) (successor : Cookie) → Tells count (came_on p n)
        → IsUnexpected (on_in_r2_a2 s n count successor) → UnexpectedInR2A2 p n
    in_r2_a2_refused count successor tells =
        by_test (λ (d : Done). IsUnexpected d → UnexpectedInR2A2 p n)
        (not (is_first count) && (is_open s.stage && room)) _ (unexpected s)
        (λ e. on_channel (channel_at s n) refl)
        (λ e r. first (one_fails (not (is_first count)) (is_open s.stage && room) e))
      where
        waiting : Bool
        waiting = waits kind.InR2A3 s.waiting

        room : Bool
        room = not waiting && nat_lt s.newest_in 4294967295

        last : (not waiting ≡ false) ⊎ (nat_lt s.newest_in 4294967295 ≡ false)
            → UnexpectedInR2A2 p n
        last (inl e) =
            let some = in_r2_a3_waits s.waiting.due (not_false waiting e) in
            inr (inr (inl (omega (arith, some, answers.in_r2))))
        last (inr e) = inr (inr (inr (inl (at_least s.newest_in 4294967295 e))))

        second : (is_open s.stage ≡ false) ⊎ (room ≡ false) → UnexpectedInR2A2 p n
        second (inl e) = inr (inl (is_opening e))
        second (inr e) = last (one_fails (not waiting) (nat_lt s.newest_in 4294967295) e)

        first : (not (is_first count) ≡ false) ⊎ (is_open s.stage && room ≡ false)
            → UnexpectedInR2A2 p n
        first (inl e) =
            inl (first_count count (came_on p n) tells (not_false (is_first count) e))
        first (inr e) = second (one_fails (is_open s.stage) room e)

        on_channel : (o : Option Which) → channel_at s n ≡ o
            → IsUnexpected (in_r2_a2_on s n successor o) → UnexpectedInR2A2 p n
        on_channel None on r = inr (inr (inr (inr (shut on))))
        on_channel (Some which) on r = absurd (cc)

    -- ---- IN_R1/A2

    pub in_r1_a2_refused : (count : Count) (a b d : Cookie) (e f : ℕ) → Tells count (came_on p n)
        → IsUnexpected (on_in_r1_a2 s n count a b d e f) → UnexpectedInR1A2 p n
    in_r1_a2_refused count a b d e f tells =
        by_test Row (is_first count && not (has_fresh_below n s.ins))
        (in_r1_a2_at s s.stage n a b d e f) (unexpected s) (λ t. staged s.stage refl)
        (λ t r. first (one_fails (is_first count) (not (has_fresh_below n s.ins)) t))
      where
        Row : Done → Type 0
        Row x = IsUnexpected x → UnexpectedInR1A2 p n

        kept_at : (k : ℕ) → Placed s.ins k → IsTrue (is_some (in_leg k s.ins))
        kept_at k q =
            subst (λ (o : Option ℕ). IsTrue (is_some (in_at s.ins o))) (sym q.is)
            (subst (λ (o : Option InLeg). IsTrue (is_some o)) (sym q.at) refl)

        so_of : (x : FreshLeg n s.ins)
            → So x.leg.number (top_of s) (tally x.leg.number p.came p.put) x.leg
        so_of x =
            leg_at_place x.leg.number (top_of s) s.newest_in s.ins
            (tally x.leg.number p.came p.put) x.leg x.found refl (known x.leg.number)

        below : has_fresh_below n s.ins ≡ true → IsFreshBelow p n
        below t =
            let x = fresh_leg n s.ins t in record {
              leg = x.leg.number;
              positive = (so_of x).positive;
              below = x.below;
              kept = kept_at x.leg.number (placed s.ins x.leg x.found);
              none = (so_of x).fresh x.fresh;
            }

        first : (is_first count ≡ false) ⊎ (not (has_fresh_below n s.ins) ≡ false)
            → UnexpectedInR1A2 p n
        first (inl t) = inl (later_count count (came_on p n) tells t)
        first (inr t) = inr (inr (below (not_false (has_fresh_below n s.ins) t)))

        by : (known : Cookie) (o : Option InLeg) → o ≡ Some at.leg
            → Row (in_r1_a2_by s known a b d e f o)
        by known None is = absurd (cc)
        by known (Some leg) is =
            by_test Row (not (is_fresh leg.stage)) (unexpected s) _
            (λ t r. inl (stale (ap is_fresh (same leg at.leg is) ∙ is_not (is_fresh leg.stage) t)))
            (λ t. by_test Row (not (same_cookie known a)) _ _ (λ u r. absurd (cc))
            (λ u. by_test Row (not (same_cookie s.newest.cookie b)) _ _ (λ w r. absurd (cc))
            (λ w r. absurd (cc))))
          where
            same : (x y : InLeg) → Some x ≡ Some y → y.stage ≡ x.stage
            same x y t = cc

            is_not : (t : Bool) → not t ≡ true → t ≡ false
            is_not true t = absurd (false≢true t)
            is_not false t = refl

            stale : is_fresh at.leg.stage ≡ false → 1 ≤ came_on p n
            stale t =
                let some = so.stale t in
                let among = first_among (of_leg (leg_at InServer n) p.came) in
                omega (arith, some, among)

        staged : (x : Stage) → s.stage ≡ x → Row (in_r1_a2_at s x n a b d e f)
        staged (stage.Open known) t = by known (in_leg n s.ins) at.is
        staged stage.Waits t = λ r. inr (inl (is_opening (ap is_open t)))
        staged (stage.OutCame known) t = λ r. inr (inl (is_opening (ap is_open t)))
        staged (stage.InCame known window timeout) t =
            λ r. inr (inl (is_opening (ap is_open t)))
        staged stage.Ended t = λ r. inr (inl (is_opening (ap is_open t)))
