-- why a server refuses what replaces an IN channel
use Rattle.law_order.proofs.Vocabulary.{◌≡◌, ◌⊎◌, inl, inr, ℕ, ◌&&◌, true, false, not, Some, None, Err, refl, sym, ap, ◌∙◌, Option}
use Rattle.rh_shell.specs.declared.answers.Refused.TheVariants as refused
use Rattle.rh_server.specs.declared.state.Stage.TheVariants as stage
use Rattle.law_moves.proofs.Vocabulary.{by_test, Cookie, Count, Row, Passage}
use Rattle.law_role_server.proofs.Vocabulary.{InLeg, Stage, Server, is_fresh, same_cookie, in_leg, Done, took, refuse, unexpected, is_first, announced, has_fresh_below, in_r1_a2_by, in_r1_a2_at, on_in_r1_a2, AreAnswered, OpensOnce}
use Rattle.law_role_server.proofs.Gives.{negated as is_not}
use Rattle.law_role_server.proofs.TakesKept.{has_begun as is_begun}
use Rattle.law_role_server_rows.proofs.Refusing.Mismatches.{differ, expected_of, got_of}
use Rattle.law_role_server_rows.specs.Refusing.Refusing.{IsOther}
use Rattle.law_role_server_in.proofs.Takes.{Holds}
use Rattle.law_role_server_in.proofs.Why.{in_r1_a2_refused, in_r2_a2_refused, end_refused, pdu_refused}
use Rattle.law_role_server_in.specs.Refusing.{NewestNames, RefusesInFor}

-- ---- what a row tells

module _ (expected got : Cookie) where
  abbrev pub Refuses : Done → Type 0
  Refuses done = done.1 ≡ Err (refused.Cookie expected got)

  -- it refuses this cookie, as another than that one
  pub other : (s : Server) (known cookie : Cookie) → same_cookie known cookie ≡ false
      → Refuses (refuse s (refused.Cookie known cookie)) → (known ≡ expected)
      × IsOther cookie expected got
  other s known cookie e r =
      let first : known ≡ expected = ap expected_of r in
      let last : cookie ≡ got = ap got_of r in (
        first,
        record {
          is_got = last;
          differs = λ same. differ known cookie e (first ∙ same ∙ sym last);
        },
      )

module _ (p : Passage Server) (known : (n : ℕ) → Holds n p.role p.came p.put)
    (answers : AreAnswered p) (opens : OpensOnce p) where
  abbrev s : Server
  s = p.role

  -- ---- IN_R1/A2

  module _ (expected got : Cookie) (n : ℕ) (count : Count) (a b c : Cookie) (d e : ℕ) where
    abbrev Mismatch : Type 0
    Mismatch = IsOther a expected got ⊎ (IsOther b expected got × NewestNames p expected)

    newest : is_begun s.stage ≡ true → s.newest.cookie ≡ expected → NewestNames p expected
    newest begun is = record {
      leg = s.newest.leg;
      names = (known s.newest.leg).tail.named begun refl
          ∙ ap (λ (k : Cookie). Some k) is;
      newest = λ k less. (known k).tail.beyond begun less;
    }

    in_r1_a2_other : Refuses expected got (on_in_r1_a2 s n count a b c d e) → Mismatch
    in_r1_a2_other =
        by_test Row (is_first count && not (has_fresh_below n s.ins))
        (in_r1_a2_at s s.stage n a b c d e) (unexpected s) (λ t. by_stage s.stage refl)
        (λ t r. absurd (cc))
      where
        Row : Done → Type 0
        Row x = Refuses expected got x → Mismatch

        by_leg : (first : Cookie) → is_begun s.stage ≡ true → (o : Option InLeg)
            → Row (in_r1_a2_by s first a b c d e o)
        by_leg first begun None = λ r. absurd (cc)
        by_leg first begun (Some leg) =
            by_test Row (not (is_fresh leg.stage)) (unexpected s) _ (λ t r. absurd (cc))
            (λ t. by_test Row (not (same_cookie first a)) (refuse s (refused.Cookie first a)) _
            (λ u r. inl (other expected got s first a (is_not (same_cookie first a) u) r).1)
            (λ u. by_test Row (not (same_cookie s.newest.cookie b))
            (refuse s (refused.Cookie s.newest.cookie b)) (took (announced s leg c d e))
            (λ w r.
            let is = other expected got s s.newest.cookie b
            (is_not (same_cookie s.newest.cookie b) w) r in inr (is.1, newest begun is.0))
            (λ w r. absurd (cc))))

        by_stage : (x : Stage) → s.stage ≡ x → Row (in_r1_a2_at s x n a b c d e)
        by_stage (stage.Open first) at = by_leg first (ap is_begun at) (in_leg n s.ins)
        by_stage stage.Waits at = λ r. absurd (cc)
        by_stage (stage.OutCame first) at = λ r. absurd (cc)
        by_stage (stage.InCame first window timeout) at = λ r. absurd (cc)
        by_stage stage.Ended at = λ r. absurd (cc)

  pub refuses_in_for : RefusesInFor p
  refuses_in_for = record {
    pdu = λ n count bytes used r. pdu_refused p known answers opens n used bytes r;
    end_a2 = λ n count used tells r. end_refused p known answers opens n used count tells r;
    in_r2_a2 = λ n count successor used tells r.
        in_r2_a2_refused p known answers opens n used count successor tells r;
    in_r1_a2 = λ n count version connection predecessor successor window timeout used tells r.
        in_r1_a2_refused p known answers opens n used count connection predecessor successor
        window timeout tells r;
    in_r1_a2_cookie = λ n count version connection predecessor successor window timeout expected
        got r.
        in_r1_a2_other expected got n count connection predecessor successor window timeout r;
  }
