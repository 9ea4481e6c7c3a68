-- what was put on an is leg, and a message more
use Rattle.law_order.proofs.Vocabulary.{◌≡◌, ◌⊎◌, ℕ, suc, ◌+◌, ◌≤◌, List, [], ◌∷◌, ◌++◌, Bool, true, false, inl, inr, arith, refl, sym, ap, ◌∙◌, subst, AllByRecursion}
use Rattle.rh_sig.specs.declared.named.Named.TheVariants as named
use Rattle.law_moves.proofs.Vocabulary.{Cookie, Named, InServer, greeting as greeting_text, Message, Text, Packet, OnLeg, of_leg, Has, count_of}
use Rattle.law_moves.proofs.Lemmas.{all_append, count_append, leg_more}
use Rattle.law_role_server.proofs.Vocabulary.{Greeting, Due, Put, is_conn_b2, is_conn_b3, is_in_r1_a2, is_in_r1_a6, leg_at, often_at}
use Rattle.law_role_server_rows.proofs.Putting.Each.{came_more}
use Rattle.law_role_server_rows.specs.Putting.Copying.{Begins, CameAt}
use Rattle.law_role_server_rows.specs.InTurn.Answers.{Came, TellsAt, AcksAt, LeavesAt, AcksOn, TellsOn, AnswersOn, is_in_r1_b1, is_in_r1_b2}

-- ---- how far it is

-- the greeting alone, or nothing
abbrev pub Base : Greeting → List Message → Type 0
Base Due log = log ≡ []
Base Put log = log ≡ Text greeting_text ∷ []

module _ (n : ℕ) (came : List OnLeg) where
  -- acknowledgements behind CONN/B3 or IN_R1/B2
  abbrev ToldBehind : List Message → Type 0
  ToldBehind [] = ⊥
  ToldBehind (first ∷ rest) = TellsAt n came first × AllByRecursion (AcksAt n came) rest

  -- and the greeting before
  abbrev pub IsTold : List Message → Type 0
  IsTold [] = ⊥
  IsTold (first ∷ rest) = (first ≡ Text greeting_text) × ToldBehind rest

  -- where IN_R1/B1 was put, or was not
  abbrev pub Written : Bool → List Message → Type 0
  Written true log = AnswersOn n came log
  Written false log = IsTold log

  acks_so : (ms : List Message) → AllByRecursion (AcksAt n came) ms → AcksOn n came ms
  acks_so [] all = tt
  acks_so (m ∷ ms) all = inl (all.0, acks_so ms all.1)

  pub told_answers : (log : List Message) → IsTold log → AnswersOn n came log
  told_answers [] h = absurd h
  told_answers (g ∷ []) h = absurd h.1
  told_answers (g ∷ (first ∷ rest)) h = (h.0, (h.1.0, acks_so rest h.1.1))

  pub base_answers : (g : Greeting) (log : List Message) → Base g log → AnswersOn n came log
  base_answers Due log h = subst (AnswersOn n came) (sym h) tt
  base_answers Put log h = subst (AnswersOn n came) (sym h) (refl, tt)

  -- ---- a message more

  pub greeted : (log : List Message) → Base Due log → Base Put (log ++ Text greeting_text ∷ [])
  greeted log h = ap (λ (ms : List Message). ms ++ Text greeting_text ∷ []) h

  pub told : (log : List Message) (m : Message) → Base Put log → TellsAt n came m
      → IsTold (log ++ m ∷ [])
  told log m h is =
      subst (λ (ms : List Message). IsTold (ms ++ m ∷ [])) (sym h) (refl, (is, tt))

  pub acked : (log : List Message) (m : Message) → IsTold log → AcksAt n came m
      → IsTold (log ++ m ∷ [])
  acked [] m h is = absurd h
  acked (g ∷ []) m h is = absurd h.1
  acked (g ∷ (first ∷ rest)) m h is =
      (h.0, (h.1.0, all_append (AcksAt n came) rest (m ∷ []) h.1.1 (is, tt)))

  acks_left : (ms : List Message) (m : Message) → AllByRecursion (AcksAt n came) ms
      → LeavesAt n came m → AcksOn n came (ms ++ m ∷ [])
  acks_left [] m all is = inr (is, refl)
  acks_left (x ∷ ms) m all is = inl (all.0, acks_left ms m all.1 is)

  pub left : (log : List Message) (m : Message) → IsTold log → LeavesAt n came m
      → AnswersOn n came (log ++ m ∷ [])
  left [] m h is = absurd h
  left (g ∷ []) m h is = absurd h.1
  left (g ∷ (first ∷ rest)) m h is = (h.0, (h.1.0, acks_left rest m h.1.1 is))

-- ---- more came

module _ (n : ℕ) (came : List OnLeg) (one : OnLeg) where
  pub came_so : (test : Named → Bool) → Came test n came → Came test n (came ++ one ∷ [])
  came_so test h =
      let all : often_at test InServer n (came ++ one ∷ [])
      ≡ often_at test InServer n came + often_at test InServer n (one ∷ []) =
      ap (count_of test) (leg_more (leg_at InServer n) came one)
      ∙ count_append test (of_leg (leg_at InServer n) came)
      (of_leg (leg_at InServer n) (one ∷ [])) in
      omega (arith, all, h)

  tells_so : (m : Message) → TellsAt n came m → TellsAt n (came ++ one ∷ []) m
  tells_so (Packet (named.ConnB3 size version)) h = (h.0, came_so _ h.1)
  tells_so (Packet (named.InR1B2 size)) h = came_so _ h
  tells_so m h = h

  acks_at_so : (m : Message) → AcksAt n came m → AcksAt n (came ++ one ∷ []) m
  acks_at_so (Packet (named.Ack received window cookie)) h =
      came_more InServer n (Begins cookie) came one h
  acks_at_so m h = h

  leaves_so : (m : Message) → LeavesAt n came m → LeavesAt n (came ++ one ∷ []) m
  leaves_so (Packet named.InR1B1) h = came_so _ h
  leaves_so m h = h

  acks_on_so : (ms : List Message) → AcksOn n came ms → AcksOn n (came ++ one ∷ []) ms
  acks_on_so [] h = tt
  acks_on_so (m ∷ ms) (inl h) = inl (acks_at_so m h.0, acks_on_so ms h.1)
  acks_on_so (m ∷ ms) (inr h) = inr (leaves_so m h.0, h.1)

  pub answers_so : (log : List Message) → AnswersOn n came log
      → AnswersOn n (came ++ one ∷ []) log
  answers_so [] h = tt
  answers_so (g ∷ []) h = (h.0, tt)
  answers_so (g ∷ (first ∷ rest)) h = (h.0, (tells_so first h.1.0, acks_on_so rest h.1.1))

  all_acks_so : (ms : List Message) → AllByRecursion (AcksAt n came) ms
      → AllByRecursion (AcksAt n (came ++ one ∷ [])) ms
  all_acks_so [] h = tt
  all_acks_so (m ∷ ms) h = (acks_at_so m h.0, all_acks_so ms h.1)

  pub told_so : (log : List Message) → IsTold n came log → IsTold n (came ++ one ∷ []) log
  told_so [] h = absurd h
  told_so (g ∷ []) h = absurd h.1
  told_so (g ∷ (first ∷ rest)) h = (h.0, (tells_so first h.1.0, all_acks_so rest h.1.1))

  pub written_so : (b : Bool) (log : List Message) → Written n came b log
      → Written n (came ++ one ∷ []) b log
  written_so true log h = answers_so log h
  written_so false log h = told_so log h

-- ---- counts

module _ (n : ℕ) (came : List OnLeg) where
  acks_tell : (ms : List Message) → AcksOn n came ms
      → count_of is_conn_b3 ms + count_of is_in_r1_b2 ms ≡ 0
  acks_tell [] h = refl
  acks_tell (Packet (named.Ack received window cookie) ∷ ms) (inl h) = acks_tell ms h.1
  acks_tell (Packet named.InR1B1 ∷ ms) (inr h) =
      ap (λ (rest : List Message). count_of is_conn_b3 rest + count_of is_in_r1_b2 rest) h.1
  acks_tell (m ∷ ms) (inl h) = absurd h.0
  acks_tell (m ∷ ms) (inr h) = absurd h.0

  -- IN_R1/B1 is not among them, or once, for IN_R1/A6
  abbrev Leaves : List Message → Type 0
  Leaves ms =
      (count_of is_in_r1_b1 ms ≡ 0) ⊎ ((count_of is_in_r1_b1 ms ≡ 1) × Came is_in_r1_a6 n came)

  acks_leave : (ms : List Message) → AcksOn n came ms → Leaves ms
  acks_leave [] h = inl refl
  acks_leave (Packet (named.Ack received window cookie) ∷ ms) (inl h) = acks_leave ms h.1
  acks_leave (Packet named.InR1B1 ∷ ms) (inr h) =
      inr (ap (λ (rest : List Message). suc (count_of is_in_r1_b1 rest)) h.1, h.0)
  acks_leave (m ∷ ms) (inl h) = absurd h.0
  acks_leave (m ∷ ms) (inr h) = absurd h.0

  tells_tell : (ms : List Message) → TellsOn n came ms
      → count_of is_conn_b3 ms + count_of is_in_r1_b2 ms ≤ 1
  tells_tell [] h = omega arith
  tells_tell (Packet (named.ConnB3 size version) ∷ ms) h =
      let none = acks_tell ms h.1 in omega (arith, none)
  tells_tell (Packet (named.InR1B2 size) ∷ ms) h =
      let none = acks_tell ms h.1 in omega (arith, none)
  tells_tell (m ∷ ms) h = absurd h.0

  -- CONN/B3 is for CONN/B2, and IN_R1/B2 for IN_R1/A2
  abbrev pub TellsFor : List Message → Type 0
  TellsFor ms =
      (count_of is_conn_b3 ms ≤ often_at is_conn_b2 InServer n came)
      × (count_of is_in_r1_b2 ms ≤ often_at is_in_r1_a2 InServer n came)

  tells_for : (ms : List Message) → TellsOn n came ms → TellsFor ms
  tells_for [] h = (omega arith, omega arith)
  tells_for (Packet (named.ConnB3 size version) ∷ ms) h =
      let none = acks_tell ms h.1 in let for_it = h.0.1 in
      (omega (arith, none, for_it), omega (arith, none))
  tells_for (Packet (named.InR1B2 size) ∷ ms) h =
      let none = acks_tell ms h.1 in let for_it = h.0 in
      (omega (arith, none), omega (arith, none, for_it))
  tells_for (m ∷ ms) h = absurd h.0

  pub answers_for : (ms : List Message) → AnswersOn n came ms → TellsFor ms
  answers_for [] h = (omega arith, omega arith)
  answers_for (g ∷ ms) h =
      subst (λ (m : Message). TellsFor (m ∷ ms)) (sym h.0) (tells_for ms h.1)

  tells_leave : (ms : List Message) → TellsOn n came ms → Leaves ms
  tells_leave [] h = inl refl
  tells_leave (Packet (named.ConnB3 size version) ∷ ms) h = acks_leave ms h.1
  tells_leave (Packet (named.InR1B2 size) ∷ ms) h = acks_leave ms h.1
  tells_leave (m ∷ ms) h = absurd h.0

  pub answers_tell : (ms : List Message) → AnswersOn n came ms
      → count_of is_conn_b3 ms + count_of is_in_r1_b2 ms ≤ 1
  answers_tell [] h = omega arith
  answers_tell (g ∷ ms) h =
      subst (λ (m : Message). count_of is_conn_b3 (m ∷ ms) + count_of is_in_r1_b2 (m ∷ ms) ≤ 1)
      (sym h.0) (tells_tell ms h.1)

  answers_leave : (ms : List Message) → AnswersOn n came ms → Leaves ms
  answers_leave [] h = inl refl
  answers_leave (g ∷ ms) h =
      subst (λ (m : Message). Leaves (m ∷ ms)) (sym h.0) (tells_leave ms h.1)

  pub leaves_once : (ms : List Message) → AnswersOn n came ms → count_of is_in_r1_b1 ms ≤ 1
  leaves_once ms h = by (answers_leave ms h)
    where
      by : Leaves ms → count_of is_in_r1_b1 ms ≤ 1
      by (inl none) = omega (arith, none)
      by (inr one) = let is = one.0 in omega (arith, is)

  pub leaves_for : (ms : List Message) → AnswersOn n came ms
      → count_of is_in_r1_b1 ms ≤ often_at is_in_r1_a6 InServer n came
  leaves_for ms h = by (answers_leave ms h)
    where
      by : Leaves ms → count_of is_in_r1_b1 ms ≤ often_at is_in_r1_a6 InServer n came
      by (inl none) = omega (arith, none)
      by (inr one) = let is = one.0 in let came = one.1 in omega (arith, is, came)

-- ---- cookies

module _ (n : ℕ) (came : List OnLeg) (received window : ℕ) (cookie : Cookie) where
  abbrev ack : Named
  ack = named.Ack received window cookie

  acks_begun : (ms : List Message) → AcksOn n came ms → Has ack ms
      → CameAt InServer n (Begins cookie) came
  acks_begun [] h has = absurd has
  acks_begun (m ∷ ms) (inl h) (inl is) = subst (AcksAt n came) is h.0
  acks_begun (m ∷ ms) (inl h) (inr rest) = acks_begun ms h.1 rest
  acks_begun (m ∷ ms) (inr h) (inl is) = absurd (subst (LeavesAt n came) is h.0)
  acks_begun (m ∷ ms) (inr h) (inr rest) = absurd (subst (Has ack) h.1 rest)

  tells_begun : (ms : List Message) → TellsOn n came ms → Has ack ms
      → CameAt InServer n (Begins cookie) came
  tells_begun [] h has = absurd has
  tells_begun (m ∷ ms) h (inl is) = absurd (subst (TellsAt n came) is h.0)
  tells_begun (m ∷ ms) h (inr rest) = acks_begun ms h.1 rest

  pub answers_begun : (ms : List Message) → AnswersOn n came ms → Has ack ms
      → CameAt InServer n (Begins cookie) came
  answers_begun [] h has = absurd has
  answers_begun (m ∷ ms) h (inl is) = absurd (apart (sym h.0 ∙ is))
    where
      apart : Text greeting_text ≡ Packet (named.Ack received window cookie) → ⊥
      apart e = cc
  answers_begun (m ∷ ms) h (inr rest) = tells_begun ms h.1 rest
