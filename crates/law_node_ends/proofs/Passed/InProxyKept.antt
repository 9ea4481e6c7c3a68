-- what an in proxy keeps: its work is done behind IN_R1/A6, or behind END where its newest ci leg
-- was lost
use Rattle.law_order.proofs.Vocabulary.{◌≡◌, ◌⊎◌, inl, ℕ, suc, Bool, true, false, true≢false, not, List, Some, None, Ok, Err, nat_le, arith, refl, sym, ◌∙◌, subst, ap, rules, and_parts, nat_tests, if◌then◌else◌, Option, Result}
use Rattle.rh_sig.specs.declared.named.Named.TheVariants.{Ack}
use Rattle.rh_line.specs.Lines as line
use Rattle.rh_shell.specs.declared.answers.Refused.TheVariants as refused
use Rattle.rh_inproxy.specs.declared.state.Opening.TheVariants as openings
use Rattle.rh_inproxy.specs.declared.state.Successor.TheVariants as successors
use Rattle.rh_inproxy.specs.declared.state.Work.TheVariants as works
use Rattle.law_moves.proofs.Vocabulary.{by_test, same_number, Cookie, Named, ConnB1, ConnB3, InR1A1, InR1A5, InR1B1, InR1B2, OutR1A7, EndA1, AckTo, KeepAlive, HttpFault, greatest_echo, Asked, Leg, Which, Current, Next, Count, HeadRefused, HeadTaken, is_ended, is_at_work}
use Rattle.law_role_inproxy.proofs.Vocabulary.{ClientLeg, Handover, Before, Came, Passed, InProxyConfig, Joining, TellsServer, Told, Follows, Opener, Opening, Successor, Work, Done, taken, refuse, unexpected, InProxy, channel_of, followed, follows, has_a5, has_come, is_client_leg, is_server_leg, same_cookie, accepted, accepts, accepts_later, channel_asked, connected, echo_asked, head_by, is_absent, is_first, may_accept, on_conn_b1, on_conn_b3, on_first_in_r1_a1, opener_of}
use Rattle.law_role_inproxy.proofs.Vocabulary.{phase_by, up, wants, on_ack, on_ack_to, newest_ended, on_end_a1, finish_by, finished, handed_over, has_passed, is_newcomer, join, joined, on_in_r1_a1, on_in_r1_a5, on_in_r1_b1, on_in_r1_b2, on_later_in_r1_a1, on_out_r1_a7, on_keep_alive, pdu, packet, on_channel, on_channel_by, on_ci, on_is, rules as proxy_rules}

-- what the fact is about
pub record Seen : Type 0 where
  pub config : InProxyConfig
  pub work : Work
  pub newest_lost : Bool
  pub handover : Handover
  pub number : ℕ
  pub successor : Successor

abbrev pub seen : InProxy → Seen
seen s = record {
  config = s.config;
  work = s.work;
  newest_lost = s.newest_lost;
  handover = s.handover;
  number = s.current.number;
  successor = s.successor;
}

abbrev pub Same : InProxy → InProxy → Type 0
Same s t = seen t ≡ seen s

-- the ci leg behind has the number behind
abbrev pub IsBehind : ℕ → Successor → Type 0
IsBehind number successors.Absent = Unit {0}
IsBehind number (successors.Up n) = n ≡ suc number
IsBehind number (successors.Joined leg stage) = leg.number ≡ suc number

not_passed : (h : Handover) → has_come h ≡ false → has_passed h ≡ true → ⊥
not_passed Before e f = true≢false (sym f)
not_passed (Came cookie) e f = true≢false (sym f)
not_passed Passed e f = true≢false e

-- behind IN_R1/A6 no ci leg follows; Lost is what is known where the newest ci leg was lost
pub record SeenFine (config : InProxyConfig) (Lost : Type 0) (x : Seen) : Type 0 where
  pub made : x.config ≡ config
  pub lost : x.newest_lost ≡ true → Lost
  pub last : has_passed x.handover ≡ true → is_absent x.successor ≡ true
  pub behind : IsBehind x.number x.successor

-- the newest ci leg was lost behind END, and END/A2 was put
pub record Over (Lost : Type 0) (s : InProxy) : Type 0 where
  pub lost : Lost
  pub ended : newest_ended s s.successor ≡ true
  pub put : s.end_put ≡ true

-- the work goes on, or is done behind IN_R1/A6, or so
abbrev pub IsWork : Type 0 → InProxy → Work → Type 0
IsWork Lost s works.Underway = Unit {0}
IsWork Lost s (works.EchoDue number) = ⊥
IsWork Lost s (works.EchoPut number) = ⊥
IsWork Lost s works.Done = (has_passed s.handover ≡ true) ⊎ Over Lost s

pub record Holds (config : InProxyConfig) (Lost : Type 0) (s : InProxy) : Type 0 where
  pub seen : SeenFine config Lost (seen s)
  pub works : IsWork Lost s s.work

module _ (config : InProxyConfig) (Lost : Type 0) where
  abbrev All : InProxy → Type 0
  All = Holds config Lost

  -- while the work goes on
  pub record Fine (s : InProxy) : Type 0 where
    pub fine : SeenFine config Lost (seen s)
    pub underway : s.work ≡ works.Underway

  pub to_fine : (s : InProxy) → is_at_work proxy_rules s ≡ true → All s → Fine s
  to_fine s going h =
      record { fine = h.seen; underway = by s.work refl s.opening h.works going }
    where
      by : (w : Work) → s.work ≡ w → (o : Opening) → IsWork Lost s w
          → not (is_ended (phase_by w o)) ≡ true → s.work ≡ works.Underway
      by works.Underway is o works going = is
      by (works.EchoDue number) is o works going = absurd works
      by (works.EchoPut number) is o works going = absurd works
      by works.Done is o works going = absurd (true≢false (sym going))

  pub to_all : (s : InProxy) → Fine s → All s
  to_all s h = record {
    seen = h.fine;
    works = subst (IsWork Lost s) (sym h.underway) tt;
  }

  pub same_fine : (s t : InProxy) → Same s t → Fine s → Fine t
  same_fine s t same h = record {
    fine = subst (SeenFine config Lost) (sym same) h.fine;
    underway = ap (λ (x : Seen). x.work) same ∙ h.underway;
  }

  -- ---- legs come up

  -- a ci leg comes to follow while no IN_R1/A6 was put
  pub succeeds : (s t : InProxy) → (has_passed s.handover ≡ true → ⊥)
      → seen t ≡ record (seen s) { successor = t.successor }
      → IsBehind s.current.number t.successor → Fine s → Fine t
  succeeds s t none same behind h = record {
    fine =
        subst (SeenFine config Lost) (sym same) (record {
          made = h.fine.made;
          lost = h.fine.lost;
          last = λ e. absurd (none e);
          behind = behind;
        });
    underway = ap (λ (x : Seen). x.work) same ∙ h.underway;
  }

  later : (s : InProxy) (n : ℕ) → accepts_later s n ≡ true → has_passed s.handover ≡ true → ⊥
  later s n e = not_passed s.handover (grind (arith, nat_tests, e))

  comes_up : (s : InProxy) (n : ℕ) → accepts_later s n ≡ true → Fine s
      → Fine (record s { successor = successors.Up n; newest_lost = false })
  comes_up s n e h = record {
    fine = record {
      made = h.fine.made;
      lost = λ f. absurd (true≢false (sym f));
      last = λ f. absurd (later s n e f);
      behind = grind (arith, nat_tests, e);
    };
    underway = h.underway;
  }

  accepted_fine : (s : InProxy) (o : Opening) (n : ℕ) → accepts s o n ≡ true → Fine s
      → Fine (accepted s o n)
  accepted_fine s openings.AwaitsClient n e h =
      same_fine s (accepted s openings.AwaitsClient n) refl h
  accepted_fine s openings.AwaitsPacket n e h = absurd (true≢false (sym e))
  accepted_fine s (openings.WantsServer o) n e h = comes_up s n e h
  accepted_fine s (openings.Announces o) n e h = comes_up s n e h
  accepted_fine s (openings.Announced o) n e h = comes_up s n e h

  same_connected : (s : InProxy) (o : Opening) → Same s (connected s o)
  same_connected s o = search rules

  pub up_fine : (s : InProxy) (leg : Leg) → Fine s → Fine (up s leg)
  up_fine s leg h =
      by_test Fine (may_accept s leg) (accepted s s.opening leg.number) _
      (λ t. accepted_fine s s.opening leg.number
      (and_parts (is_client_leg leg) (accepts s s.opening leg.number) t).1 h)
      (λ t. by_test Fine (wants s leg) (connected s s.opening) s
      (λ u. same_fine s (connected s s.opening) (same_connected s s.opening) h) (λ u. h))

  -- ---- what comes

  pub head_fine : (s : InProxy) (n : ℕ) (verdict : Result Asked HttpFault)
      → ((request : Asked) → verdict ≡ Ok request → nat_le request.length greatest_echo ≡ false)
      → Fine s → Fine (head_by s n verdict).0
  head_fine s n (Err fault) none h = h
  head_fine s n (Ok request) none h =
      by_test AtEnd (nat_le request.length greatest_echo) (echo_asked s n request)
      (channel_asked s request) (λ t. absurd (true≢false (sym t ∙ none request refl)))
      (λ t. same_fine s (channel_asked s request).0 refl h)
    where
      AtEnd : InProxy × Result HeadTaken HeadRefused → Type 0
      AtEnd x = Fine x.0

  pub same_pdu : (s : InProxy) (leg : Leg) (count : Count) (bytes : List ℕ)
      → Same s (pdu s leg count bytes).0
  same_pdu s leg count bytes = search rules

  same_conn_b1 : (s : InProxy) (n : ℕ) (a b : Cookie) (c : ℕ) (d : Cookie)
      → Same s (on_conn_b1 s n a b c d).0
  same_conn_b1 s n a b c d = search rules

  same_first : (s : InProxy) (a b c : Cookie) → Same s (on_first_in_r1_a1 s a b c).0
  same_first s a b c = search rules

  newcomer : (z : Successor) (n : ℕ) → is_newcomer z n ≡ true → is_absent z ≡ true → ⊥
  newcomer successors.Absent n e f = true≢false (sym e)
  newcomer (successors.Up number) n e f = true≢false (sym f)
  newcomer (successors.Joined client stage) n e f = true≢false (sym f)

  numbered : (z : Successor) (n : ℕ) → is_newcomer z n ≡ true → {k : ℕ} → IsBehind k z
      → n ≡ suc k
  numbered successors.Absent n e b = absurd (true≢false (sym e))
  numbered (successors.Up number) n e b = sym (same_number number n e) ∙ b
  numbered (successors.Joined client stage) n e b = absurd (true≢false (sym e))

  later_fine : (s : InProxy) (o : Option Opener) (n : ℕ) (a b c : Cookie) → Fine s
      → Fine (on_later_in_r1_a1 s o n a b c).0
  later_fine s None n a b c h = h
  later_fine s (Some o) n a b c h =
      by_test AtEnd (is_newcomer s.successor n) (join s o n a b c) (unexpected s)
      (λ t. by_test AtEnd (not (same_cookie o.connection a))
      (refuse s (refused.Cookie o.connection a)) _ (λ u. h)
      (λ u. by_test AtEnd (not (same_cookie s.current.cookie b))
      (refuse s (refused.Cookie s.current.cookie b)) (taken (joined s n c)) (λ v. h)
      (λ v. succeeds s (joined s n c) (λ e. newcomer s.successor n t (h.fine.last e)) refl
      (numbered s.successor n t h.fine.behind) h)))
      (λ t. h)
    where
      AtEnd : Done → Type 0
      AtEnd x = Fine x.0

  a1_fine : (s : InProxy) (n : ℕ) (a b c : Cookie) → Fine s → Fine (on_in_r1_a1 s n a b c).0
  a1_fine s n a b c h =
      by_test (λ (x : Done). Fine x.0) (is_first s n) (on_first_in_r1_a1 s a b c)
      (on_later_in_r1_a1 s (opener_of s.opening) n a b c)
      (λ t. same_fine s (on_first_in_r1_a1 s a b c).0 (same_first s a b c) h)
      (λ t. later_fine s (opener_of s.opening) n a b c h)

  -- the ci leg behind becomes the current one, or does not
  pub followed_fine : (s : InProxy) → Fine s → Fine (followed s)
  followed_fine s h = by s.line.has_next s.successor refl
    where
      Followed : Bool → Successor → Type 0
      Followed b z = Fine (record s {
        current = (follows b s.current z).0;
        successor = (follows b s.current z).1;
      })

      as_was : (z : Successor) → s.successor ≡ z → Fine (record s { successor = z })
      as_was z is = record {
        fine = record {
          made = h.fine.made;
          lost = h.fine.lost;
          last = λ e. sym (ap is_absent is) ∙ h.fine.last e;
          behind = subst (IsBehind s.current.number) is h.fine.behind;
        };
        underway = h.underway;
      }

      by : (b : Bool) (z : Successor) → s.successor ≡ z → Followed b z
      by true z is = as_was z is
      by false successors.Absent is = as_was successors.Absent is
      by false (successors.Up number) is = as_was (successors.Up number) is
      by false (successors.Joined client stage) is = record {
        fine = record {
          made = h.fine.made;
          lost = h.fine.lost;
          last = λ e. refl;
          behind = tt;
        };
        underway = h.underway;
      }

  came_fine : (s : InProxy) (cookie : Cookie) → Fine s → Fine (handed_over s cookie).0
  came_fine s cookie h = record {
    fine = record {
      made = h.fine.made;
      lost = h.fine.lost;
      last = λ f. absurd (true≢false (sym f));
      behind = h.fine.behind;
    };
    underway = h.underway;
  }

  pub joined_not : (s : InProxy) (client : ClientLeg) (stage : Joining)
      → s.successor ≡ successors.Joined client stage → Fine s → has_passed s.handover ≡ true → ⊥
  joined_not s client stage is h f = true≢false (sym (h.fine.last f) ∙ ap is_absent is)

  finish_fine : (s : InProxy) (z : Successor) (cookie : Cookie) → s.successor ≡ z → Fine s
      → Fine (finish_by s z cookie).0
  finish_fine s successors.Absent cookie is h = came_fine s cookie h
  finish_fine s (successors.Up number) cookie is h = h
  finish_fine s (successors.Joined client (TellsServer behind)) cookie is h = h
  finish_fine s (successors.Joined client Follows) cookie is h = h
  finish_fine s (successors.Joined client Told) cookie is h =
      by_test (λ (x : Done). Fine x.0) (same_cookie client.cookie cookie)
      (taken (finished s client)) (refuse s (refused.Cookie client.cookie cookie))
      (λ t. followed_fine next (succeeds s next (joined_not s client Told is h) refl
      (subst (IsBehind s.current.number) is h.fine.behind) h))
      (λ t. h)
    where
      next : InProxy
      next = record s {
        line = line.after_finish s.line;
        successor = successors.Joined client Follows;
      }

  a5_fine : (s : InProxy) (which : Which) (cookie : Cookie) → Fine s
      → Fine (on_in_r1_a5 s which cookie).0
  a5_fine s Current cookie h =
      by_test (λ (x : Done). Fine x.0) (has_a5 s Current) (unexpected s) _ (λ t. h)
      (λ t. finish_fine s s.successor cookie refl h)
  a5_fine s Next cookie h =
      by_test (λ (x : Done). Fine x.0) (has_a5 s Next) (unexpected s) _ (λ t. h)
      (λ t. came_fine s cookie h)

  same_ack_to : (s : InProxy) (which : Which) (to received available : ℕ) (channel : Cookie)
      → Same s (on_ack_to s which to received available channel).0
  same_ack_to s which to received available channel = search rules

  same_a7 : (s : InProxy) (which : Which) (to : ℕ) (successor : Cookie)
      → Same s (on_out_r1_a7 s which to successor).0
  same_a7 s which to successor = search rules

  same_keep_alive : (s : InProxy) (which : Which) (n : ℕ) → Same s (on_keep_alive s which n).0
  same_keep_alive s which n = search rules

  same_end_a1 : (s : InProxy) (which : Which) → Same s (on_end_a1 s which).0
  same_end_a1 s which = search rules

  channel_fine : (s : InProxy) (which : Which) (named : Named) → Fine s
      → Fine (on_channel s which named).0
  channel_fine s which (AckTo to received available channel) h =
      same_fine s (on_ack_to s which to received available channel).0
      (same_ack_to s which to received available channel) h
  channel_fine s which (OutR1A7 to successor) h =
      same_fine s (on_out_r1_a7 s which to successor).0 (same_a7 s which to successor) h
  channel_fine s which (KeepAlive keepalive) h =
      same_fine s (on_keep_alive s which keepalive).0 (same_keep_alive s which keepalive) h
  channel_fine s which EndA1 h = same_fine s (on_end_a1 s which).0 (same_end_a1 s which) h
  channel_fine s which (InR1A5 successor) h = a5_fine s which successor h
  channel_fine s which packet h = h

  on_fine : (s : InProxy) (o : Option Which) (named : Named) → Fine s
      → Fine (on_channel_by s o named).0
  on_fine s None named h = h
  on_fine s (Some which) named h = channel_fine s which named h

  ci_fine : (s : InProxy) (n : ℕ) (named : Named) → Fine s → Fine (on_ci s n named).0
  ci_fine s n (ConnB1 v1 v2 v3 v4 v5 v6) h =
      same_fine s (on_conn_b1 s n v2 v3 v5 v6).0 (same_conn_b1 s n v2 v3 v5 v6) h
  ci_fine s n (InR1A1 v1 v2 v3 v4) h = a1_fine s n v2 v3 v4 h
  ci_fine s n packet h = on_fine s (channel_of s n) packet h

  same_conn_b3 : (s : InProxy) (size : ℕ) → Same s (on_conn_b3 s size).0
  same_conn_b3 s size = search rules

  same_b2 : (s : InProxy) (size : ℕ) → Same s (on_in_r1_b2 s size).0
  same_b2 s size = search rules

  same_ack : (s : InProxy) (received available : ℕ) (channel : Cookie)
      → Same s (on_ack s received available channel).0
  same_ack s received available channel = search rules

  -- IN_R1/B1: the work is done
  b1_all : (s : InProxy) → Fine s → All (on_in_r1_b1 s).0
  b1_all s h =
      by_test (λ (x : Done). All x.0) (has_passed s.handover)
      (taken (record s { work = works.Done })) (unexpected s)
      (λ t. record {
        seen = record {
          made = h.fine.made;
          lost = h.fine.lost;
          last = h.fine.last;
          behind = h.fine.behind;
        };
        works = inl t;
      })
      (λ t. to_all s h)

  is_all : (s : InProxy) (named : Named) → Fine s → All (on_is s named).0
  is_all s (ConnB3 size version) h =
      to_all (on_conn_b3 s size).0 (same_fine s (on_conn_b3 s size).0 (same_conn_b3 s size) h)
  is_all s (InR1B2 size) h =
      to_all (on_in_r1_b2 s size).0 (same_fine s (on_in_r1_b2 s size).0 (same_b2 s size) h)
  is_all s InR1B1 h = b1_all s h
  is_all s (Ack received available channel) h =
      to_all (on_ack s received available channel).0
      (same_fine s (on_ack s received available channel).0
      (same_ack s received available channel) h)
  is_all s packet h = to_all s h

  pub packet_all : (s : InProxy) (leg : Leg) (count : Count) (named : Named) → Fine s
      → All (packet s leg count named).0
  packet_all s leg count named h =
      by_test (λ (x : Done). All x.0) (is_client_leg leg) (on_ci s leg.number named)
      (if is_server_leg s leg then on_is s named else unexpected s)
      (λ t. to_all (on_ci s leg.number named).0 (ci_fine s leg.number named h))
      (λ t. by_test (λ (x : Done). All x.0) (is_server_leg s leg) (on_is s named) (unexpected s)
      (λ u. is_all s named h) (λ u. to_all s h))
