-- why a server refuses a cookie
use Rattle.std.specs.Prelude.{bytes_eq}
use Rattle.law_order.proofs.Vocabulary.{◌≡◌, ◌⊎◌, inl, inr, ℕ, suc, ◌+◌, false, not, List, Some, None, Err, arith, refl, sym, ap, ◌∙◌, subst, rules, not_from_Decides, bytes_eq-Decides, slice_get, IfSome, Option}
use Rattle.rh_sig.specs.declared.named.Named.TheVariants as named
use Rattle.rh_shell.specs.declared.answers.Refused.TheVariants as refused
use Rattle.rh_server.specs.declared.state.Stage.TheVariants as stage
use Rattle.law_moves.proofs.Vocabulary.{by_test, Cookie, Named, LegKind, ClientOut, OutServer, ClientIn, InServer, Count, Row, OnLeg, Passage}
use Rattle.law_role_server.proofs.Vocabulary.{InLeg, OutLeg, Replacement, Steady, Asked, Answered, Confirmed, Stage, Server, is_fresh, same_cookie, in_leg, no_cookie, cookie_by, out_place, out_at, out_cookie, Done, took, refuse, unexpected, is_first, conn_a2_at, on_conn_a2, conn_b2_at, on_conn_b2, acked_in, acked_cookie, on_ack, on_ack_to, on_ping_traffic, announced, in_r1_a2_by, in_r1_a2_at, on_in_r1_a2, hands_over, on_in_r1_a6, on_in_r2_a2, answered_on, out_r1_a4_by}
use Rattle.law_role_server.proofs.Vocabulary.{out_r1_a4_at, on_out_r1_a4, out_r1_a8_at, on_out_r1_a8, on_end_a2, packet_by, on_is, on_os, is_out_r1_a9, out_put}
use Rattle.law_role_server.proofs.Gives.{negated as is_not}
use Rattle.law_role_server_rows.proofs.Refusing.Places.{all_at}
use Rattle.law_role_server_rows.proofs.Refusing.Told.{seen, StageTold, OutTold, CookieTold, ReplacementTold, Known, number_at}
use Rattle.law_role_server_rows.specs.Refusing.Cookies.{IsConnection, IsOutChannel}
use Rattle.law_role_server_rows.specs.Refusing.Refusing.{IsOther, MismatchIn, MismatchOut, MismatchBy}

-- ---- what a row tells

abbrev pub expected_of : Row → Cookie
expected_of (Err (refused.Cookie expected got)) = expected
expected_of row = no_cookie

abbrev pub got_of : Row → Cookie
got_of (Err (refused.Cookie expected got)) = got
got_of row = no_cookie

pub differ : (a b : Cookie) → same_cookie a b ≡ false → a ≡ b → ⊥
differ a b e same =
    not_from_Decides (bytes_eq a.0 b.0) (bytes_eq-Decides a.0 b.0) e
    (ap (λ (c : Cookie). c.0) same)

module _ (expected got : Cookie) where
  abbrev Refuses : Done → Type 0
  Refuses done = done.1 ≡ Err (refused.Cookie expected got)

  -- it refuses this cookie, as another than that one
  other : (s : Server) (known cookie : Cookie) → same_cookie known cookie ≡ false
      → Refuses (refuse s (refused.Cookie known cookie)) → (known ≡ expected)
      × IsOther cookie expected got
  other s known cookie e r =
      let first : known ≡ expected = ap expected_of r in
      let last : cookie ≡ got = ap got_of r in (
        first,
        record { is_got = last; differs = λ same. differ known cookie e (first ∙ same ∙ sym last) },
      )

  -- ---- rows that expect none

  none_refused : (s : Server) → Refuses (unexpected s) → ⊥
  none_refused s r = absurd (cc)

  in_r2_a2_none : (s : Server) (n : ℕ) (count : Count) (a : Cookie)
      → Refuses (on_in_r2_a2 s n count a) → ⊥
  in_r2_a2_none s n count a = search rules

  ack_to_none : (s : Server) (count : Count) (a b c : ℕ) (d : Cookie)
      → Refuses (on_ack_to s count a b c d) → ⊥
  ack_to_none s count a b c d = search rules

  end_a2_none : (s : Server) (n : ℕ) (count : Count) → Refuses (on_end_a2 s n count) → ⊥
  end_a2_none s n count = search rules

  ping_none : (s : Server) (count : Count) → Refuses (on_ping_traffic s count) → ⊥
  ping_none s count = search rules

  acked_none : (s : Server) (received window : ℕ) (place : Option ℕ)
      → Refuses (acked_in s received window place) → ⊥
  acked_none s received window place = search rules

  answered_none : (s : Server) (n : ℕ) (a : Cookie) (b c d : ℕ)
      → Refuses (answered_on s n a b c d) → ⊥
  answered_none s n a b c d = search rules

  -- ---- a connection is opened

  module _ (s : Server) (came : List OnLeg) (h : Known (seen s) came) where
    stage_told : (at : Stage) → s.stage ≡ at → StageTold came at
    stage_told at e = subst (StageTold came) e h.at

    conn_b2_other : (n : ℕ) (count : Count) (a b : Cookie) (c d : ℕ)
        → Refuses (on_conn_b2 s n count a b c d)
        → IsOther a expected got × IsConnection OutServer expected came
    conn_b2_other n count a b c d =
        by_test (λ (x : Done). Refuses x → Goal) _ (conn_b2_at s s.stage a b c d) (unexpected s)
        (λ e. by s.stage refl) (λ e r. absurd (none_refused s r))
      where
        Goal : Type 0
        Goal = IsOther a expected got × IsConnection OutServer expected came

        by : (at : Stage) → s.stage ≡ at → Refuses (conn_b2_at s at a b c d) → Goal
        by stage.Waits e r = absurd (cc)
        by (stage.OutCame first) e r =
            by_test (λ (x : Done). Refuses x → Goal) (same_cookie first a) _
            (refuse s (refused.Cookie first a)) (λ f q. absurd (cc))
            (λ f q.
            let is = other s first a f q in (
              is.1,
              subst (λ (x : Cookie). IsConnection OutServer x came) is.0
                  (stage_told (stage.OutCame first) e),
            )) r
        by (stage.InCame first in_window in_timeout) e r = absurd (none_refused s r)
        by (stage.Open first) e r = absurd (none_refused s r)
        by stage.Ended e r = absurd (none_refused s r)

    conn_a2_other : (n : ℕ) (count : Count) (a b : Cookie) (c d : ℕ)
        → Refuses (on_conn_a2 s n count a b c d)
        → IsOther a expected got × IsConnection InServer expected came
    conn_a2_other n count a b c d =
        by_test (λ (x : Done). Refuses x → Goal) _ (conn_a2_at s s.stage a b c d) (unexpected s)
        (λ e. by s.stage refl) (λ e r. absurd (none_refused s r))
      where
        Goal : Type 0
        Goal = IsOther a expected got × IsConnection InServer expected came

        by : (at : Stage) → s.stage ≡ at → Refuses (conn_a2_at s at a b c d) → Goal
        by stage.Waits e r = absurd (cc)
        by (stage.InCame first in_window in_timeout) e r =
            by_test (λ (x : Done). Refuses x → Goal) (same_cookie first a) _
            (refuse s (refused.Cookie first a)) (λ f q. absurd (cc))
            (λ f q.
            let is = other s first a f q in (
              is.1,
              subst (λ (x : Cookie). IsConnection InServer x came) is.0
                  (stage_told (stage.InCame first in_window in_timeout) e),
            )) r
        by (stage.OutCame first) e r = absurd (none_refused s r)
        by (stage.Open first) e r = absurd (none_refused s r)
        by stage.Ended e r = absurd (none_refused s r)

    -- ---- IN channels

    a2_other : (n : ℕ) (count : Count) (a b c : Cookie) (d e : ℕ)
        → Refuses (on_in_r1_a2 s n count a b c d e)
        → (IsOther a expected got
        × (IsConnection OutServer expected came ⊎ IsConnection InServer expected came))
        ⊎ IsOther b expected got
    a2_other n count a b c d e =
        by_test (λ (x : Done). Refuses x → Goal) _ (in_r1_a2_at s s.stage n a b c d e)
        (unexpected s) (λ g. by s.stage refl) (λ g r. absurd (none_refused s r))
      where
        Goal : Type 0
        Goal =
            (IsOther a expected got
            × (IsConnection OutServer expected came ⊎ IsConnection InServer expected came))
            ⊎ IsOther b expected got

        by_leg : (first : Cookie) → s.stage ≡ stage.Open first → (o : Option InLeg)
            → Refuses (in_r1_a2_by s first a b c d e o) → Goal
        by_leg first at None r = absurd (none_refused s r)
        by_leg first at (Some leg) r =
            by_test (λ (x : Done). Refuses x → Goal) (not (is_fresh leg.stage)) (unexpected s) _
            (λ g q. absurd (none_refused s q))
            (λ g. by_test (λ (x : Done). Refuses x → Goal) (not (same_cookie first a))
            (refuse s (refused.Cookie first a)) _
            (λ i q.
            let is = other s first a (is_not (same_cookie first a) i) q in
            inl (
              is.1,
              subst (λ (x : Cookie). IsConnection OutServer x came
                  ⊎ IsConnection InServer x came) is.0 (stage_told (stage.Open first) at),
            ))
            (λ i. by_test (λ (x : Done). Refuses x → Goal) (not (same_cookie s.newest.cookie b))
            (refuse s (refused.Cookie s.newest.cookie b)) (took (announced s leg c d e))
            (λ j q. inr (other s s.newest.cookie b (is_not (same_cookie s.newest.cookie b) j) q).1)
            (λ j q. absurd (cc)))) r

        by : (at : Stage) → s.stage ≡ at → Refuses (in_r1_a2_at s at n a b c d e) → Goal
        by (stage.Open first) at r = by_leg first at (in_leg n s.ins) r
        by stage.Waits at r = absurd (none_refused s r)
        by (stage.OutCame first) at r = absurd (none_refused s r)
        by (stage.InCame first in_window in_timeout) at r = absurd (none_refused s r)
        by stage.Ended at r = absurd (none_refused s r)

    a6_other : (n : ℕ) (successor : Cookie) → Refuses (on_in_r1_a6 s n successor)
        → IsOther successor expected got
    a6_other n successor =
        by_test (λ (x : Done). Refuses x → IsOther successor expected got) _ _ (unexpected s)
        (λ e. by_test (λ (x : Done). Refuses x → IsOther successor expected got)
        (same_cookie s.next.cookie successor) (took (hands_over s n))
        (refuse s (refused.Cookie s.next.cookie successor)) (λ f r. absurd (cc))
        (λ f r. (other s s.next.cookie successor f r).1))
        (λ e r. absurd (none_refused s r))

    -- ---- OUT channels

    -- the cookie of a leg's channel came there
    cookie_told : (n : ℕ) (cookie : Cookie) → out_cookie n s.outs ≡ Some cookie
        → IsOutChannel n cookie came
    cookie_told n cookie e = by_place (out_place n s.outs) refl e
      where
        by_leg : (place : ℕ) (o : Option OutLeg) → out_place n s.outs ≡ Some place
            → slice_get s.outs place ≡ o → cookie_by o ≡ Some cookie
            → IfSome o (OutTold came) → IsOutChannel n cookie came
        by_leg place None at is e told = absurd (cc)
        by_leg place (Some x) at is e told =
            subst (λ (k : ℕ). IsOutChannel k cookie came) (number_at s.outs n place x at is)
            (subst (CookieTold came x.number) e told)

        by_place : (place : Option ℕ) → out_place n s.outs ≡ place
            → cookie_by (out_at s.outs place) ≡ Some cookie → IsOutChannel n cookie came
        by_place None at e = absurd (cc)
        by_place (Some place) at e =
            by_leg place (slice_get s.outs place) at refl e
            (all_at (OutTold came) s.outs place h.outs)

    ack_other : (n : ℕ) (count : Count) (received window : ℕ) (cookie : Cookie)
        → Refuses (on_ack s n count received window cookie)
        → IsOther cookie expected got × IsOutChannel n expected came
    ack_other n count received window cookie =
        by_test (λ (x : Done). Refuses x → Goal) (is_first count) (unexpected s) _
        (λ e r. absurd (none_refused s r)) (λ e. by (out_cookie n s.outs) refl)
      where
        Goal : Type 0
        Goal = IsOther cookie expected got × IsOutChannel n expected came

        by : (o : Option Cookie) → out_cookie n s.outs ≡ o
            → Refuses (acked_cookie s n received window cookie o) → Goal
        by None e r = absurd (none_refused s r)
        by (Some channel) e r =
            by_test (λ (x : Done). Refuses x → Goal) (same_cookie channel cookie)
            (acked_in s received window (out_place n s.outs))
            (refuse s (refused.Cookie channel cookie))
            (λ f q. absurd (acked_none s received window (out_place n s.outs) q))
            (λ f q.
            let is = other s channel cookie f q in (
              is.1,
              subst (λ (x : Cookie). IsOutChannel n x came) is.0 (cookie_told n channel e),
            )) r

    a8_other : (count : Count) (destination : ℕ) (successor : Cookie)
        → Refuses (on_out_r1_a8 s count destination successor)
        → IsOther successor expected got × IsOutChannel (s.writing + 1) expected came
    a8_other count destination successor =
        by_test (λ (x : Done). Refuses x → Goal) _ (out_r1_a8_at s successor s.replacement)
        (unexpected s) (λ e. by s.replacement refl) (λ e r. absurd (none_refused s r))
      where
        Goal : Type 0
        Goal = IsOther successor expected got × IsOutChannel (s.writing + 1) expected came

        by : (at : Replacement) → s.replacement ≡ at → Refuses (out_r1_a8_at s successor at)
            → Goal
        by (Answered cookie) e r =
            by_test (λ (x : Done). Refuses x → Goal) (same_cookie cookie successor) _
            (refuse s (refused.Cookie cookie successor)) (λ f q. absurd (cc))
            (λ f q.
            let is = other s cookie successor f q in (
              is.1,
              subst (λ (x : Cookie). IsOutChannel (s.writing + 1) x came) is.0
                  (subst (ReplacementTold came s.writing) e h.replacement),
            )) r
        by Steady e r = absurd (none_refused s r)
        by Asked e r = absurd (none_refused s r)
        by Confirmed e r = absurd (none_refused s r)

    a4_other : (n : ℕ) (count : Count) (a b c : Cookie) (d e f : ℕ)
        → Refuses (on_out_r1_a4 s n count a b c d e f)
        → (IsOther a expected got
        × (IsConnection OutServer expected came ⊎ IsConnection InServer expected came))
        ⊎ (IsOther b expected got × IsOutChannel s.writing expected came)
    a4_other n count a b c d e f =
        by_test (λ (x : Done). Refuses x → Goal) _ (out_r1_a4_at s s.stage n a b c d e f)
        (unexpected s) (λ g. by s.stage refl) (λ g r. absurd (none_refused s r))
      where
        Goal : Type 0
        Goal =
            (IsOther a expected got
            × (IsConnection OutServer expected came ⊎ IsConnection InServer expected came))
            ⊎ (IsOther b expected got × IsOutChannel s.writing expected came)

        by_writing : (first : Cookie) → s.stage ≡ stage.Open first → (o : Option Cookie)
            → out_cookie s.writing s.outs ≡ o
            → Refuses (out_r1_a4_by s n first a b c d e f o) → Goal
        by_writing first at None g r = absurd (none_refused s r)
        by_writing first at (Some writing) g r =
            by_test (λ (x : Done). Refuses x → Goal) (not (same_cookie first a))
            (refuse s (refused.Cookie first a)) _
            (λ i q.
            let is = other s first a (is_not (same_cookie first a) i) q in
            inl (
              is.1,
              subst (λ (x : Cookie). IsConnection OutServer x came
                  ⊎ IsConnection InServer x came) is.0 (stage_told (stage.Open first) at),
            ))
            (λ i. by_test (λ (x : Done). Refuses x → Goal) (not (same_cookie writing b))
            (refuse s (refused.Cookie writing b)) (answered_on s n c d e f)
            (λ j q.
            let is = other s writing b (is_not (same_cookie writing b) j) q in
            inr (
              is.1,
              subst (λ (x : Cookie). IsOutChannel s.writing x came) is.0
                  (cookie_told s.writing writing g),
            ))
            (λ j q. absurd (answered_none s n c d e f q))) r

        by : (at : Stage) → s.stage ≡ at → Refuses (out_r1_a4_at s at n a b c d e f) → Goal
        by (stage.Open first) at r =
            by_writing first at (out_cookie s.writing s.outs) refl r
        by stage.Waits at r = absurd (none_refused s r)
        by (stage.OutCame first) at r = absurd (none_refused s r)
        by (stage.InCame first in_window in_timeout) at r = absurd (none_refused s r)
        by stage.Ended at r = absurd (none_refused s r)

  -- ---- each packet

  module _ (p : Passage Server) (h : Known (seen p.role) p.came)
      (writes : p.role.writing ≡ suc (out_put is_out_r1_a9 p)) where
    next : p.role.writing + 1 ≡ suc (suc (out_put is_out_r1_a9 p))
    next = omega (arith, writes)

    on_is_other : (n : ℕ) (count : Count) (m : Named) → Refuses (on_is p.role n count m)
        → MismatchIn p m expected got
    on_is_other n count (named.ConnB2 v1 v2 v3 v4 v5 v6 v7 v8) r =
        conn_b2_other p.role p.came h n count v2 v3 v4 v5 r
    on_is_other n count (named.InR1A2 v1 v2 v3 v4 v5 v6) r =
        a2_other p.role p.came h n count v2 v3 v4 v5 v6 r
    on_is_other n count (named.InR1A6 v1) r = a6_other p.role p.came h n v1 r
    on_is_other n count (named.InR2A2 v1) r = in_r2_a2_none p.role n count v1 r
    on_is_other n count (named.AckTo v1 v2 v3 v4) r = ack_to_none p.role count v1 v2 v3 v4 r
    on_is_other n count (named.OutR1A8 v1 v2) r =
        let is = a8_other p.role p.came h count v1 v2 r in
        (is.0, subst (λ (k : ℕ). IsOutChannel k expected p.came) next is.1)
    on_is_other n count named.EndA2 r = end_a2_none p.role n count r
    on_is_other n count packet r = none_refused p.role r

    on_os_other : (n : ℕ) (count : Count) (m : Named) → Refuses (on_os p.role n count m)
        → MismatchOut p n m expected got
    on_os_other n count (named.ConnA2 v1 v2 v3 v4 v5) r =
        conn_a2_other p.role p.came h n count v2 v3 v4 v5 r
    on_os_other n count (named.OutR1A4 v1 v2 v3 v4 v5 v6 v7) r =
        by (a4_other p.role p.came h n count v2 v3 v4 v5 v6 v7 r)
      where
        by : (IsOther v2 expected got
            × (IsConnection OutServer expected p.came ⊎ IsConnection InServer expected p.came))
            ⊎ (IsOther v3 expected got × IsOutChannel p.role.writing expected p.came)
            → MismatchOut p n (named.OutR1A4 v1 v2 v3 v4 v5 v6 v7) expected got
        by (inl is) = inl is
        by (inr is) =
            inr (is.0, subst (λ (k : ℕ). IsOutChannel k expected p.came) writes is.1)
    on_os_other n count (named.Ack v1 v2 v3) r = ack_other p.role p.came h n count v1 v2 v3 r
    on_os_other n count (named.PingTraffic v1) r = ping_none p.role count r
    on_os_other n count packet r = none_refused p.role r

    pub refused_other : (n : ℕ) (count : Count) (m : Named) (k : LegKind)
        → Refuses (packet_by p.role n count m k) → MismatchBy p n m expected got k
    refused_other n count m InServer r = on_is_other n count m r
    refused_other n count m OutServer r = on_os_other n count m r
    refused_other n count m ClientIn r = none_refused p.role r
    refused_other n count m ClientOut r = none_refused p.role r
