-- what a client knows of its OUT channels, and which of them it acknowledged
use Rattle.law_order.proofs.Vocabulary.{◌≡◌, ◌⊎◌, ℕ, suc, ◌+◌, nat_lt, Bool, true, false, List, [], ◌∷◌, ◌++◌, Ok, Err, arith, inl, inr, refl, sym, subst, false≢true, Result}
use Rattle.rh_shell.specs.declared.answers.Phase.TheVariants as phase
use Rattle.rh_client.specs.declared.replacement.InStage.TheVariants as in_stage
use Rattle.rh_client.specs.declared.replacement.OutStage.TheVariants as out_stage
use Rattle.rh_client.specs.declared.replacement.Waits.TheVariants as waits
use Rattle.law_moves.proofs.Vocabulary.{by_test, Cookie, AckTo, OutR1A7, Leg, RecycleRefused, Last, Message, Text, Pdu, Packet, count_of}
use Rattle.law_role_client.proofs.Vocabulary.{LAST_NUMBER, Replacement, NoneUnderWay, In, Out, OutStage, Waits, ClientRole, is_switched_by, no_cookie, unopened_in, unopened_out, is_out, co, is_over, begin_in, begin_out, after_in, after_out, wish_by, wants_successor, wished, recycle_by, succeeded, ended_or, pass_at, pass_by, passed, settled_or_wished, is_out_r1_a7}
use Rattle.law_role_client_rows.proofs.Putting.Channels.{last}
use Rattle.law_peers_room.specs.InRoom.Acks.{AcksFrom}

-- ---- a message more

abbrev pub often_in : List Message → ℕ
often_in messages = count_of is_out_r1_a7 messages

module _ (Comes : Leg → Cookie → Type 0) where
  pub acks_more : (often : ℕ) (a b : List Message) → AcksFrom Comes often a
      → AcksFrom Comes (often + often_in a) b → AcksFrom Comes often (a ++ b)
  acks_more often [] b h more = subst (λ (n : ℕ). AcksFrom Comes n b) (omega arith) more
  acks_more often (Text bytes ∷ a) b h more = acks_more often a b h more
  acks_more often (Pdu pdu ∷ a) b h more = acks_more often a b h more
  acks_more often (Packet (OutR1A7 to successor) ∷ a) b h more =
      acks_more (suc often) a b h (subst (λ (n : ℕ). AcksFrom Comes n b) (omega arith) more)
  acks_more often (Packet (AckTo to received available channel) ∷ a) b h more =
      (h.0, acks_more often a b h.1 more)
  acks_more often (Packet m ∷ a) b h more = acks_more often a b h more

-- ---- what the facts are about

pub record View : Type 0 where
  -- the current OUT channel
  pub number : ℕ
  pub cookie : Cookie
  -- its successor, where it is replaced; and whether OUT_R1/A7 was put
  pub replaces : Bool
  pub switched : Bool
  pub successor : ℕ
  pub successor_cookie : Cookie

abbrev pub view : ClientRole → View
view s = record {
  number = s.current.number;
  cookie = s.current.cookie;
  replaces = is_out s.replacement;
  switched = is_switched_by s.replacement;
  successor = s.out_successor.number;
  successor_cookie = s.out_successor.cookie;
}

module _ (Comes : Leg → Cookie → Type 0) where
  abbrev pub IsOf : ℕ → Cookie → Type 0
  IsOf n cookie = (cookie ≡ no_cookie) ⊎ Comes (co n) cookie

  abbrev IsNext : View → Type 0
  IsNext v =
      (v.successor_cookie ≡ no_cookie)
      ⊎ ((v.replaces ≡ true) × Comes (co (suc v.number)) v.successor_cookie)

  pub record IsSo (v : View) (messages : List Message) : Type 0 where
    pub current : IsOf v.number v.cookie
    pub following : IsNext v
    pub next : v.replaces ≡ true → v.successor ≡ suc v.number
    pub often : suc (often_in messages) ≡ last v.switched v.number
    pub acks : AcksFrom Comes 0 messages

  -- by the replacement that is under way
  abbrev pub with_stage : View → Replacement → View
  with_stage v r = record v { replaces = is_out r; switched = is_switched_by r }

  abbrev pub idle : View → View
  idle v = record v { replaces = false; switched = false }

  module _ (messages : List Message) where
    abbrev pub So : ClientRole → Type 0
    So s = IsSo (view s) messages

    abbrev pub IdleSo : ClientRole → Type 0
    IdleSo s = IsSo (idle (view s)) messages

    pub at : (s : ClientRole) (r : Replacement) → s.replacement ≡ r → So s
        → IsSo (with_stage (view s) r) messages
    at s r e h = subst (λ (x : Replacement). IsSo (with_stage (view s) x) messages) e h

    -- ---- a replacement begins

    begin_in_so : (s : ClientRole) (out_waits : Bool) → IdleSo s → So (begin_in s out_waits)
    begin_in_so s out_waits h =
        by_test So (nat_lt s.writing.number LAST_NUMBER)
        (record s {
          in_successor = unopened_in (s.writing.number + 1) s.config.lifetime;
          replacement = In in_stage.Asked out_waits;
        })
        (record s { replacement = NoneUnderWay }) (λ e. h) (λ e. h)

    pub begin_out_so : (s : ClientRole) (waiting : Waits) → IdleSo s → So (begin_out s waiting)
    begin_out_so s waiting h =
        by_test So (nat_lt s.current.number LAST_NUMBER)
        (record s {
          out_successor = unopened_out (s.current.number + 1);
          replacement = Out out_stage.Asked waiting;
        })
        (record s { replacement = NoneUnderWay })
        (λ e. record {
          current = h.current;
          following = inl refl;
          next = λ f. omega arith;
          often = h.often;
          acks = h.acks;
        }) (λ e. h)

    wish_so : (s : ClientRole) (r : Replacement) → s.replacement ≡ r → So s → So (wish_by s r)
    wish_so s NoneUnderWay e h = begin_in_so s false (at s NoneUnderWay e h)
    wish_so s (In stage out_waits) e h = h
    wish_so s (Out stage waiting) e h = at s (Out stage waiting) e h

    pub recycle_so : (s : ClientRole) (r : Replacement) → s.replacement ≡ r → So s
        → So (recycle_by s r).0
    recycle_so s NoneUnderWay e h =
        by_test (λ (x : ClientRole × Result (Unit {0}) RecycleRefused). So x.0)
        (nat_lt s.writing.number LAST_NUMBER) (begin_in s false, Ok tt) (s, Err Last)
        (λ f. begin_in_so s false (at s NoneUnderWay e h)) (λ f. h)
    recycle_so s (In stage out_waits) e h = h
    recycle_so s (Out stage waiting) e h = h

    -- ---- behind a put

    pub settled_so : (s : ClientRole) → So s → So (settled_or_wished s)
    settled_so s h =
        by_test So (is_over s) (record s { phase = phase.Ended }) (wished s) (λ e. h)
        (λ e. by_test So (wants_successor s) (wish_by s s.replacement) s
        (λ f. wish_so s s.replacement refl h) (λ f. h))

    -- ---- a replacement is over

    pub after_in_so : (s : ClientRole) (out_waits : Bool) → IdleSo s → So (after_in s out_waits)
    after_in_so s true h = begin_out_so s waits.Nothing h
    after_in_so s false h = h

    after_out_so : (s : ClientRole) (waiting : Waits) → IdleSo s → So (after_out s waiting)
    after_out_so s waits.Nothing h = h
    after_out_so s waits.In h = begin_in_so s false h
    after_out_so s waits.Out h = begin_out_so s waits.Nothing h
    after_out_so s waits.InThenOut h = begin_in_so s true h
    after_out_so s waits.OutThenIn h = begin_out_so s waits.In h

    succeeded_so : (s : ClientRole) (waiting : Waits)
        → IsSo (with_stage (view s) (Out out_stage.Finished waiting)) messages
        → IdleSo (succeeded s)
    succeeded_so s waiting h =
        let next = h.next refl in
        let often = h.often in record {
          current = by next h.following;
          following = inl refl;
          next = λ e. absurd (false≢true e);
          often = omega (arith, next, often);
          acks = h.acks;
        }
      where
        by : s.out_successor.number ≡ suc s.current.number
            → (s.out_successor.cookie ≡ no_cookie)
            ⊎ ((true ≡ true) × Comes (co (suc s.current.number)) s.out_successor.cookie)
            → IsOf s.out_successor.number s.out_successor.cookie
        by next (inl none) = inl none
        by next (inr comes) =
            inr (subst (λ (n : ℕ). Comes (co n) s.out_successor.cookie) (sym next) comes.1)

    pass_so : (s : ClientRole) (waiting : Waits) (stage : OutStage)
        → s.replacement ≡ Out stage waiting → So s → So (pass_at s waiting stage)
    pass_so s waiting out_stage.Asked e h = h
    pass_so s waiting out_stage.Answered e h = h
    pass_so s waiting out_stage.Switched e h = h
    pass_so s waiting out_stage.Finished e h =
        by_test So s.line.has_next s (ended_or (succeeded s) waiting) (λ f. h)
        (λ f.
        let over = succeeded_so s waiting (at s (Out out_stage.Finished waiting) e h) in
        by_test So (is_over (succeeded s)) (record (succeeded s) { phase = phase.Ended })
        (after_out (succeeded s) waiting) (λ g. over)
        (λ g. after_out_so (succeeded s) waiting over))

    pub passed_so : (s : ClientRole) → So s → So (passed s)
    passed_so s h = by s.replacement refl
      where
        by : (r : Replacement) → s.replacement ≡ r → So (pass_by s r)
        by NoneUnderWay e = h
        by (In stage out_waits) e = h
        by (Out stage waiting) e = pass_so s waiting stage e h
