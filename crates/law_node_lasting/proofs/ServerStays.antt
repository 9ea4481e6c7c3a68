-- what the rows of a server do to an is leg that it keeps, by how it leaves
use Rattle.law_order.proofs.Vocabulary.{◌≡◌, ℕ, ◌==◌, Bool, true, false, true≢false, cond, not, ◌&&◌, ◌||◌, List, [], ◌∷◌, Some, None, refl, rules, sym, ap, ◌∙◌, subst, and_parts, if◌then◌else◌, IfSome, AllByRecursion, Option}
use Rattle.rh_shell.specs.declared.answers.Refused.TheVariants as refused
use Rattle.rh_server.specs.declared.state.Stage.TheVariants as stage
use Rattle.rh_server.specs.declared.state.InStage.TheVariants as in_stage
use Rattle.rh_server.specs.declared.state.Leaving.TheVariants as leaving
use Rattle.rh_server.specs.declared.out_line.Kind.TheVariants as kind
use Rattle.law_moves.proofs.Vocabulary.{by_test, same_number, test_same, Cookie, Leg, Which, after_finish, Count, is_ended}
use Rattle.law_role_server.proofs.Vocabulary.{Stage, Shut, InStage, InLeg, Leaving, waits, Server, in_leg, in_place, is_fresh, is_lost, is_open, is_put, is_waiting, phase_of, same_cookie, stays, with_in, without_in, Done, took, refuse, unexpected, is_first, opens, with_first_out, conn_a2_at, on_conn_a2, first_in, with_first_in, conn_b2_at, on_conn_b2, channel_at, on_ack_to, on_ack, on_ping_traffic, opens_next, opens_leg, first_waiting, waiting_place, next_opened, becomes_current}
use Rattle.law_role_server.proofs.Vocabulary.{moved_if, announced, in_r1_a2_by, in_r1_a2_at, on_in_r1_a2, has_fresh_below, leaves, leaves_by, hands_over, on_in_r1_a6, on_in_r2_a2, wished, on_out_r1_a4, on_out_r1_a8, lost_in, are_lost, completed, end_a2_at, end_a2_on_leg, end_a2_waiting, is_complete, is_over_on, on_end_a2, settled, pdu}
use Rattle.law_node_lasting.proofs.ServerLegs.{IsFound, each_found, each_gone, each_set, found_number, has_number, number_gone, number_set}

-- ---- the is legs that are kept

-- L: how the leg of this number may leave, which is not lost
module _ (n : ℕ) (L : Leaving → Type 0) (kept_not : L leaving.Lost → ⊥) where
  abbrev pub IsStaying : InLeg → Type 0
  IsStaying leg = leg.number ≡ n → L leg.leaving

  -- and is there, once it came up, while the work is not done
  pub record Stays (has_come : Bool) (s : Server) : Type 0 where
    pub each : AllByRecursion IsStaying s.ins
    pub there : has_come ≡ true → has_number n s.ins ≡ true
    pub work : has_come ≡ true → is_ended (phase_of s.stage) ≡ false

  abbrev pub Keeps : Server → Server → Type 0
  Keeps s t = (has_come : Bool) → Stays has_come s → Stays has_come t

  -- the parts that this is about
  pub record Seen : Type 0 where
    pub ins : List InLeg
    pub stage : Stage

  abbrev pub seen : Server → Seen
  seen s = record { ins = s.ins; stage = s.stage }

  abbrev pub Same : Server → Server → Type 0
  Same s t = seen t ≡ seen s

  record SeenStays (has_come : Bool) (x : Seen) : Type 0 where
    each : AllByRecursion IsStaying x.ins
    there : has_come ≡ true → has_number n x.ins ≡ true
    work : has_come ≡ true → is_ended (phase_of x.stage) ≡ false

  pub keeps_same : (s t : Server) → Same s t → Keeps s t
  keeps_same s t same has_come h =
      let now : SeenStays has_come (seen t) = subst (SeenStays has_come) (sym same)
      (record { each = h.each; there = h.there; work = h.work }) in
      record { each = now.each; there = now.there; work = now.work }

  keeps_if : (s : Server) (b : Bool) (x y : Done) → Keeps s x.0 → Keeps s y.0
      → Keeps s (if b then x else y).0
  keeps_if s b x y h k = by_test (λ (z : Done). Keeps s z.0) b x y (λ e. h) (λ e. k)

  keeps_test : (s : Server) (b : Bool) (t u : Server) → Keeps s t → Keeps s u
      → Keeps s (if b then t else u)
  keeps_test s b t u h k = by_test (Keeps s) b t u (λ e. h) (λ e. k)

  -- a leg has changed, which stays
  pub with_stays : (s : Server) (leg : InLeg) (has_come : Bool) → IsStaying leg → Stays has_come s
      → Stays has_come (with_in s leg)
  with_stays s leg has_come is h = record {
    each = each_set IsStaying s.ins leg (in_place leg.number s.ins) is h.each;
    there = λ e. number_set n s.ins leg ∙ h.there e;
    work = h.work;
  }

  -- ---- behind puts

  no_loss : (x : Leaving) → L x → is_lost x ≡ true → ⊥
  no_loss leaving.Stays l e = true≢false (sym e)
  no_loss leaving.InR1B1 l e = true≢false (sym e)
  no_loss leaving.Left l e = true≢false (sym e)
  no_loss leaving.Lost l e = kept_not l

  none_lost : (legs : List InLeg) → AllByRecursion IsStaying legs → has_number n legs ≡ true
      → are_lost legs ≡ true → ⊥
  none_lost [] each e f = true≢false (sym e)
  none_lost (leg ∷ legs) each e f =
      by (leg.number == n) refl e (none_lost legs each.1)
    where
      by : (b : Bool) → leg.number == n ≡ b → cond b true (has_number n legs) ≡ true
          → (has_number n legs ≡ true → are_lost legs ≡ true → ⊥) → ⊥
      by true is t rest =
          no_loss leg.leaving (each.0 (same_number leg.number n is))
          (and_parts (is_lost leg.leaving) (are_lost legs) f).0
      by false is t rest = rest t (and_parts (is_lost leg.leaving) (are_lost legs) f).1

  -- the work is not done while the leg stays
  keeps_completed : (s : Server) → Keeps s (completed s)
  keeps_completed s has_come h =
      by_test (Stays has_come) (is_complete s) (record s { stage = stage.Ended }) s
      (λ t. record {
        each = h.each;
        there = h.there;
        work = λ e. absurd (none_lost s.ins h.each (h.there e) (lost t));
      })
      (λ t. h)
    where
      lost : is_complete s ≡ true → are_lost s.ins ≡ true
      lost t =
          (and_parts (is_put s.end_mark) (are_lost s.ins)
          (and_parts (is_open s.stage) (is_put s.end_mark && are_lost s.ins) t).1).1

  same_wished : (s : Server) → Same s (wished s)
  same_wished s = search rules

  pub keeps_settled : (s : Server) → Keeps s (settled s)
  keeps_settled s has_come h =
      keeps_same (completed s) (wished (completed s)) (same_wished (completed s)) has_come
      (keeps_completed s has_come h)

  -- ---- the next channel

  keeps_opens : (s : Server) (leg : InLeg) (stage : InStage) (has_come : Bool) → IsStaying leg
      → Stays has_come s → Stays has_come (opens_next s leg stage)
  keeps_opens s leg in_stage.Fresh has_come is h = h
  keeps_opens s leg in_stage.Opened has_come is h = h
  keeps_opens s leg (in_stage.Waits window timeout ended) has_come is h =
      record {
        each = each_set IsStaying s.ins _ (in_place leg.number s.ins)
            (λ same. is same) h.each;
        there = λ e. number_set n s.ins _ ∙ h.there e;
        work = h.work;
      }

  keeps_next_opened : (s : Server) → Keeps s (next_opened s)
  keeps_next_opened s has_come h =
      by_test (Stays has_come) (s.line.has_next || waits kind.InR1A3 s.waiting) s
      (opens_leg s (first_waiting s.ins)) (λ t. h)
      (λ t. by (first_waiting s.ins) (each_found IsStaying s.ins (waiting_place s.ins) h.each))
    where
      by : (o : Option InLeg) → IfSome o IsStaying → Stays has_come (opens_leg s o)
      by None is = h
      by (Some leg) is = keeps_opens s leg leg.stage has_come is h

  pub keeps_moved : (had_next : Bool) (s : Server) → Keeps s (moved_if had_next s)
  keeps_moved had_next s =
      keeps_test s (had_next && not s.line.has_next) (becomes_current s) s
      (λ has_come h. keeps_next_opened (record s { current = s.next; edge = Shut }) has_come
      (record { each = h.each; there = h.there; work = h.work }))
      (λ has_come h. h)

  -- ---- rows

  -- the work is not done
  keeps_stage : (s t : Server) (at : Stage) → is_ended (phase_of at) ≡ false → Keeps s t
      → Keeps s (record t { stage = at })
  keeps_stage s t at going keeps has_come h =
      let now = keeps has_come h in
      record { each = now.each; there = now.there; work = λ e. going }

  keeps_opened : (s t : Server) (connection : Cookie) (window timeout : ℕ) → Keeps s t
      → Keeps s (opens t connection window timeout)
  keeps_opened s t connection window timeout keeps has_come h =
      let now = keeps has_come h in
      record { each = now.each; there = now.there; work = λ e. refl }

  same_first_out : (s : Server) (cookie : Cookie) (lifetime window : ℕ)
      → Same s (with_first_out s cookie lifetime window)
  same_first_out s cookie lifetime window = search rules

  keeps_first_out : (s : Server) (cookie : Cookie) (lifetime window : ℕ)
      → Keeps s (with_first_out s cookie lifetime window)
  keeps_first_out s cookie lifetime window =
      keeps_same s (with_first_out s cookie lifetime window)
      (same_first_out s cookie lifetime window)

  keeps_first_in : (s : Server) (cookie : Cookie) → Keeps s (with_first_in s cookie)
  keeps_first_in s cookie has_come h =
      by (in_leg 1 s.ins) (each_found IsStaying s.ins (in_place 1 s.ins) h.each)
    where
      by : (o : Option InLeg) → IfSome o IsStaying → Stays has_come (first_in s cookie o)
      by None is = h
      by (Some leg) is = record {
        each = each_set IsStaying s.ins _ (in_place leg.number s.ins)
            (λ same. is same) h.each;
        there = λ e. number_set n s.ins _ ∙ h.there e;
        work = h.work;
      }

  keeps_a2_at : (s : Server) (at : Stage) (connection cookie : Cookie) (lifetime window : ℕ)
      → Keeps s (conn_a2_at s at connection cookie lifetime window).0
  keeps_a2_at s stage.Waits connection cookie lifetime window =
      keeps_stage s (with_first_out s cookie lifetime window) (stage.OutCame connection) refl
      (keeps_first_out s cookie lifetime window)
  keeps_a2_at s (stage.InCame first' in_window timeout) connection cookie lifetime window =
      keeps_if s (same_cookie first' connection)
      (took (opens (with_first_out s cookie lifetime window) first' in_window timeout))
      (refuse s (refused.Cookie first' connection))
      (keeps_opened s (with_first_out s cookie lifetime window) first' in_window timeout
      (keeps_first_out s cookie lifetime window))
      (λ has_come h. h)
  keeps_a2_at s (stage.OutCame first') connection cookie lifetime window = λ has_come h. h
  keeps_a2_at s (stage.Open first') connection cookie lifetime window = λ has_come h. h
  keeps_a2_at s stage.Ended connection cookie lifetime window = λ has_come h. h

  pub keeps_conn_a2 : (s : Server) (number : ℕ) (count : Count) (connection cookie : Cookie)
      (lifetime window : ℕ)
      → Keeps s (on_conn_a2 s number count connection cookie lifetime window).0
  keeps_conn_a2 s number count connection cookie lifetime window =
      keeps_if s (is_first count && ((number == 1) && not (waits kind.ConnC1 s.waiting)))
      (conn_a2_at s s.stage connection cookie lifetime window) (unexpected s)
      (keeps_a2_at s s.stage connection cookie lifetime window) (λ has_come h. h)

  keeps_b2_at : (s : Server) (at : Stage) (connection cookie : Cookie) (window timeout : ℕ)
      → Keeps s (conn_b2_at s at connection cookie window timeout).0
  keeps_b2_at s stage.Waits connection cookie window timeout =
      keeps_stage s (with_first_in s cookie) (stage.InCame connection window timeout) refl
      (keeps_first_in s cookie)
  keeps_b2_at s (stage.OutCame first') connection cookie window timeout =
      keeps_if s (same_cookie first' connection)
      (took (opens (with_first_in s cookie) first' window timeout))
      (refuse s (refused.Cookie first' connection))
      (keeps_opened s (with_first_in s cookie) first' window timeout (keeps_first_in s cookie))
      (λ has_come h. h)
  keeps_b2_at s (stage.InCame first' in_window in_timeout) connection cookie window timeout =
      λ has_come h. h
  keeps_b2_at s (stage.Open first') connection cookie window timeout = λ has_come h. h
  keeps_b2_at s stage.Ended connection cookie window timeout = λ has_come h. h

  pub keeps_conn_b2 : (s : Server) (number : ℕ) (count : Count) (connection cookie : Cookie)
      (window timeout : ℕ)
      → Keeps s (on_conn_b2 s number count connection cookie window timeout).0
  keeps_conn_b2 s number count connection cookie window timeout =
      keeps_if s (is_first count && ((number == 1) && not (waits kind.ConnC1 s.waiting)))
      (conn_b2_at s s.stage connection cookie window timeout) (unexpected s)
      (keeps_b2_at s s.stage connection cookie window timeout) (λ has_come h. h)

  keeps_announced : (s : Server) (leg : InLeg) (successor : Cookie) (window timeout : ℕ)
      (has_come : Bool) → IsStaying leg → Stays has_come s
      → Stays has_come (announced s leg successor window timeout)
  keeps_announced s leg successor window timeout has_come is h =
      keeps_next_opened (with_in
      (record s { newest = record { leg = leg.number; cookie = successor } })
      (record leg { cookie = successor; stage = in_stage.Waits window timeout false }))
      has_come (record {
        each = each_set IsStaying s.ins _ (in_place leg.number s.ins)
            (λ same. is same) h.each;
        there = λ e. number_set n s.ins _ ∙ h.there e;
        work = h.work;
      })

  keeps_in_r1_a2_by : (s : Server) (first' connection predecessor successor : Cookie)
      (window timeout : ℕ) (has_come : Bool) → Stays has_come s → (o : Option InLeg)
      → IfSome o IsStaying
      → Stays has_come
      (in_r1_a2_by s first' connection predecessor successor window timeout o).0
  keeps_in_r1_a2_by s first' connection predecessor successor window timeout has_come h None is =
      h
  keeps_in_r1_a2_by s first' connection predecessor successor window timeout has_come h
      (Some leg) is =
      by_test There (not (is_fresh leg.stage)) (unexpected s) _ (λ t. h)
      (λ t. by_test There (not (same_cookie first' connection))
      (refuse s (refused.Cookie first' connection)) _ (λ u. h)
      (λ u. by_test There (not (same_cookie s.newest.cookie predecessor))
      (refuse s (refused.Cookie s.newest.cookie predecessor))
      (took (announced s leg successor window timeout)) (λ v. h)
      (λ v. keeps_announced s leg successor window timeout has_come is h)))
    where
      There : Done → Type 0
      There x = Stays has_come x.0

  keeps_in_r1_a2_at : (s : Server) (at : Stage) (number : ℕ)
      (connection predecessor successor : Cookie) (window timeout : ℕ)
      → Keeps s (in_r1_a2_at s at number connection predecessor successor window timeout).0
  keeps_in_r1_a2_at s (stage.Open first') number connection predecessor successor window timeout =
      λ has_come h.
      keeps_in_r1_a2_by s first' connection predecessor successor window timeout has_come h
      (in_leg number s.ins) (each_found IsStaying s.ins (in_place number s.ins) h.each)
  keeps_in_r1_a2_at s opening number connection predecessor successor window timeout =
      λ has_come h. h

  pub keeps_in_r1_a2 : (s : Server) (number : ℕ) (count : Count)
      (connection predecessor successor : Cookie) (window timeout : ℕ)
      → Keeps s (on_in_r1_a2 s number count connection predecessor successor window timeout).0
  keeps_in_r1_a2 s number count connection predecessor successor window timeout =
      keeps_if s (is_first count && not (has_fresh_below number s.ins))
      (in_r1_a2_at s s.stage number connection predecessor successor window timeout) (unexpected s)
      (keeps_in_r1_a2_at s s.stage number connection predecessor successor window timeout)
      (λ has_come h. h)

  -- a leg leaves, by IN_R1/A6
  keeps_leaves : (s : Server) (number : ℕ) → (number ≡ n → L leaving.InR1B1)
      → Keeps s (leaves s number)
  keeps_leaves s number may has_come h =
      by (in_leg number s.ins) (found_number number s.ins)
    where
      by : (o : Option InLeg) → IsFound number (has_number number s.ins) o
          → Stays has_come (leaves_by s o)
      by None is = h
      by (Some leg) is =
          with_stays s (record leg { leaving = leaving.InR1B1 }) has_come
          (λ same. may (sym is ∙ same)) h

  keeps_hands_over : (s : Server) (number : ℕ) → (number ≡ n → L leaving.InR1B1)
      → Keeps s (hands_over s number)
  keeps_hands_over s number may has_come h =
      let now = keeps_leaves s number may has_come h in
      keeps_moved true (record (leaves s number) { line = after_finish s.line }) has_come
      (record { each = now.each; there = now.there; work = now.work })

  pub keeps_in_r1_a6 : (s : Server) (number : ℕ) (successor : Cookie)
      → (number ≡ n → L leaving.InR1B1) → Keeps s (on_in_r1_a6 s number successor).0
  keeps_in_r1_a6 s number successor may =
      keeps_if s ((number == s.current.leg)
      && (not s.line.finished && (s.line.has_next && not (waits kind.InR1A3 s.waiting))))
      (if same_cookie s.next.cookie successor then took (hands_over s number)
      else refuse s (refused.Cookie s.next.cookie successor)) (unexpected s)
      (keeps_if s (same_cookie s.next.cookie successor) (took (hands_over s number))
      (refuse s (refused.Cookie s.next.cookie successor)) (keeps_hands_over s number may)
      (λ has_come h. h))
      (λ has_come h. h)

  pub same_in_r2_a2 : (s : Server) (number : ℕ) (count : Count) (successor : Cookie)
      → Same s (on_in_r2_a2 s number count successor).0
  same_in_r2_a2 s number count successor = search rules

  pub same_ack_to : (s : Server) (count : Count) (destination received window : ℕ) (cookie : Cookie)
      → Same s (on_ack_to s count destination received window cookie).0
  same_ack_to s count destination received window cookie = search rules

  pub same_out_r1_a8 : (s : Server) (count : Count) (destination : ℕ) (successor : Cookie)
      → Same s (on_out_r1_a8 s count destination successor).0
  same_out_r1_a8 s count destination successor = search rules

  -- END comes
  keeps_end_on : (s : Server) (leg : InLeg) (at : InStage) (has_come : Bool) → IsStaying leg
      → Stays has_come s → Stays has_come (end_a2_on_leg s leg at).0
  keeps_end_on s leg in_stage.Fresh has_come is h = h
  keeps_end_on s leg in_stage.Opened has_come is h = h
  keeps_end_on s leg (in_stage.Waits window timeout ended) has_come is h =
      by_test (λ (x : Done). Stays has_come x.0) ended (unexpected s)
      (took (with_in s (record leg { stage = in_stage.Waits window timeout true }))) (λ t. h)
      (λ t. with_stays s (record leg { stage = in_stage.Waits window timeout true }) has_come is
      h)

  keeps_end_at : (s : Server) (number : ℕ) (o : Option Which)
      → Keeps s (end_a2_at s number o).0
  keeps_end_at s number (Some which) has_come h =
      by_test (λ (x : Done). Stays has_come x.0) (is_over_on s which) (unexpected s) _ (λ t. h)
      (λ t. record { each = h.each; there = h.there; work = h.work })
  keeps_end_at s number None has_come h =
      by (in_leg number s.ins) (each_found IsStaying s.ins (in_place number s.ins) h.each)
    where
      by : (o : Option InLeg) → IfSome o IsStaying → Stays has_come (end_a2_waiting s o).0
      by None is = h
      by (Some leg) is = keeps_end_on s leg leg.stage has_come is h

  pub keeps_end_a2 : (s : Server) (number : ℕ) (count : Count)
      → Keeps s (on_end_a2 s number count).0
  keeps_end_a2 s number count =
      keeps_if s (is_first count) (unexpected s) (end_a2_at s number (channel_at s number))
      (λ has_come h. h) (keeps_end_at s number (channel_at s number))

  pub same_out_r1_a4 : (s : Server) (number : ℕ) (count : Count)
      (connection predecessor successor : Cookie) (lifetime window timeout : ℕ)
      → Same s
      (on_out_r1_a4 s number count connection predecessor successor lifetime window timeout).0
  same_out_r1_a4 s number count connection predecessor successor lifetime window timeout =
      search rules

  pub same_ack : (s : Server) (number : ℕ) (count : Count) (received window : ℕ) (cookie : Cookie)
      → Same s (on_ack s number count received window cookie).0
  same_ack s number count received window cookie = search rules

  pub same_traffic : (s : Server) (count : Count) → Same s (on_ping_traffic s count).0
  same_traffic s count = search rules

  pub same_pdu : (s : Server) (leg : Leg) (count : Count) (bytes : List ℕ)
      → Same s (pdu s leg count bytes).0
  same_pdu s leg count bytes = search rules

  -- ---- a leg is lost

  pub keeps_gone : (s : Server) (number : ℕ) → (number == n) ≡ false
      → Keeps s (without_in s number)
  keeps_gone s number other has_come h = record {
    each = each_gone IsStaying s.ins (in_place number s.ins) h.each;
    there = λ e. number_gone n number s.ins other ∙ h.there e;
    work = h.work;
  }

  pub keeps_lost : (s : Server) (number : ℕ) → (number == n) ≡ false
      → Keeps s (lost_in s number (in_leg number s.ins))
  keeps_lost s number other has_come h =
      by (in_leg number s.ins) (found_number number s.ins)
    where
      by : (o : Option InLeg) → IsFound number (has_number number s.ins) o
          → Stays has_come (lost_in s number o)
      by None is = keeps_gone s number other has_come h
      by (Some leg) is =
          by_test (Stays has_come) (is_waiting leg.stage && stays leg.leaving)
          (with_in s (record leg { leaving = leaving.Lost })) (without_in s number)
          (λ t. with_stays s (record leg { leaving = leaving.Lost }) has_come
          (λ same. absurd (true≢false (sym (ap (λ (k : ℕ). k == n) (sym is ∙ same)
          ∙ test_same n) ∙ other))) h)
          (λ t. keeps_gone s number other has_come h)
