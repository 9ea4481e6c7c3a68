-- the answers to IN channels that stand before an acknowledgement to the client, and before
-- OUT_R1/A1, among what waits
use Rattle.law_order.proofs.Vocabulary.{◌≡◌, ◌⊎◌, inl, inr, ℕ, suc, ◌+◌, ◌≤◌, ◌&&◌, ◌||◌, Bool, true, false, nat_lt, not, if◌then◌else◌, List, [], ◌∷◌, ◌++◌, Some, refl, sym, ap, ◌∙◌, subst, arith, find, Option}
use Rattle.rh_sig.specs.declared.named.Named.TheVariants as named
use Rattle.law_moves.proofs.Vocabulary.{by_test, Cookie, Named, Due, Key, are_one, better, edge_of, key_of, merged, takes, without_first}
use Rattle.law_role_server.proofs.Numbered.{one as some_same}
use Rattle.law_role_server.proofs.Vocabulary.{is_in_r1_a3, is_in_r2_a3, is_out_r1_a1, waiting_of}
use Rattle.law_peers_room.proofs.InRoom.Turns.{one_is as same_keys}
use Rattle.law_peers_room.proofs.ServerRoom.Ahead as ahead
use Rattle.law_peers_room.specs.OutRoom.Waits.{is_in_a3}
use Rattle.law_peers_room.specs.ServerRoom.Overtaking.{is_ack_for}

-- ---- one that passes a test

abbrev pub is_there : (Due → Bool) → List Due → Bool
is_there test [] = false
is_there test (due ∷ dues) = if test due then true else is_there test dues

pub there_pushed : (test : Due → Bool) (dues : List Due) (due : Due)
    → is_there test dues ≡ true → is_there test (dues ++ due ∷ []) ≡ true
there_pushed test [] due h = absurd cc
there_pushed test (first ∷ dues) due h = by (test first) h (there_pushed test dues due)
  where
    by : (b : Bool) → (if b then true else is_there test dues) ≡ true
        → (is_there test dues ≡ true → is_there test (dues ++ due ∷ []) ≡ true)
        → (if b then true else is_there test (dues ++ due ∷ [])) ≡ true
    by true h rest = refl
    by false h rest = rest h

pub there_last : (test : Due → Bool) (dues : List Due) (due : Due) → test due ≡ true
    → is_there test (dues ++ due ∷ []) ≡ true
there_last test [] due is = ap (λ (b : Bool). if b then true else false) is
there_last test (first ∷ dues) due is = by (test first) (there_last test dues due is)
  where
    by : (b : Bool) → is_there test (dues ++ due ∷ []) ≡ true
        → (if b then true else is_there test (dues ++ due ∷ [])) ≡ true
    by true h = refl
    by false h = h

-- one that doesn't pass is gone
pub there_gone : (test may_go : Due → Bool) (dues : List Due) (due : Due)
    → find may_go dues ≡ Some due → test due ≡ false → is_there test dues ≡ true
    → is_there test (without_first may_go dues) ≡ true
there_gone test may_go [] due found unlike h = absurd cc
there_gone test may_go (first ∷ dues) due found unlike h =
    by (may_go first) found (λ e. there_gone test may_go dues due e unlike)
  where
    behind : test first ≡ false → is_there test dues ≡ true
    behind e = subst (λ (b : Bool). (if b then true else is_there test dues) ≡ true) e h

    one : (b : Bool) → test first ≡ b
        → (is_there test dues ≡ true → is_there test (without_first may_go dues) ≡ true)
        → (if b then true else is_there test (without_first may_go dues)) ≡ true
    one true e rest = refl
    one false e rest = rest (behind e)

    by : (b : Bool) → (if b then Some first else find may_go dues) ≡ Some due
        → (find may_go dues ≡ Some due → is_there test dues ≡ true
        → is_there test (without_first may_go dues) ≡ true)
        → is_there test (if b then dues else first ∷ without_first may_go dues) ≡ true
    by true e rest = behind (ap test (some_same first due e) ∙ unlike)
    by false e rest = one (test first) refl (rest e)

pub found_there : (test : Named → Bool) (dues : List Due) → 1 ≤ waiting_of test dues
    → is_there (λ (due : Due). test due.packet) dues ≡ true
found_there test [] h = absurd (omega (arith, h))
found_there test (first ∷ dues) h = by (test first.packet) h (found_there test dues)
  where
    by : (b : Bool) → 1 ≤ (if b then suc (waiting_of test dues) else waiting_of test dues)
        → (1 ≤ waiting_of test dues
        → is_there (λ (due : Due). test due.packet) dues ≡ true)
        → (if b then true else is_there (λ (due : Due). test due.packet) dues) ≡ true
    by true h rest = refl
    by false h rest = rest h

-- ---- packets

abbrev pub is_wish : Due → Bool
is_wish due = is_out_r1_a1 due.packet

abbrev pub is_answer : Due → Bool
is_answer due = is_in_a3 due.packet

pub keyed_wish : (packet : Named) (key : Key) → key_of packet ≡ Some key
    → is_out_r1_a1 packet ≡ false
keyed_wish (named.OutR1A1 to) key e = absurd cc
keyed_wish packet key e = refl

pub keyed_answer : (packet : Named) (key : Key) → key_of packet ≡ Some key
    → is_in_a3 packet ≡ false
keyed_answer (named.InR1A3 to version window timeout) key e = absurd cc
keyed_answer (named.InR2A3 to) key e = absurd cc
keyed_answer packet key e = refl

pub answer_wish : (packet : Named) → is_in_a3 packet ≡ true → is_out_r1_a1 packet ≡ false
answer_wish (named.OutR1A1 to) e = absurd cc
answer_wish packet e = refl

pub answer_ack : (channel : Cookie) (packet : Named) → is_in_a3 packet ≡ true
    → is_ack_for channel packet ≡ false
answer_ack channel (named.AckTo to received window cookie) e = absurd cc
answer_ack channel packet e = refl

-- a wish stays where packets are merged
pub wish_merged : (dues : List Due) (packet : Named) (key : Key) → key_of packet ≡ Some key
    → is_there is_wish dues ≡ true → is_there is_wish (merged dues packet) ≡ true
wish_merged [] packet key is h = absurd cc
wish_merged (first ∷ dues) packet key is h =
    by_test (λ (l : List Due). is_there is_wish l ≡ true) (takes packet first)
    (better first packet ∷ dues) (first ∷ merged dues packet)
    (λ e. here (better first packet) (behind (keyed_wish first.packet key
    (same_keys (key_of first.packet) (key_of packet) e ∙ is))))
    (λ e. one (is_wish first) refl (λ f. wish_merged dues packet key is f))
  where
    behind : is_wish first ≡ false → is_there is_wish dues ≡ true
    behind e = subst (λ (b : Bool). (if b then true else is_there is_wish dues) ≡ true) e h

    here : (due : Due) → is_there is_wish dues ≡ true
        → is_there is_wish (due ∷ dues) ≡ true
    here due rest = by (is_wish due)
      where
        by : (b : Bool) → (if b then true else is_there is_wish dues) ≡ true
        by true = refl
        by false = rest

    one : (b : Bool) → is_wish first ≡ b
        → (is_there is_wish dues ≡ true → is_there is_wish (merged dues packet) ≡ true)
        → (if b then true else is_there is_wish (merged dues packet)) ≡ true
    one true e rest = refl
    one false e rest = rest (behind e)

-- ---- how many

-- answers of both kinds
pub both_kinds : (dues : List Due)
    → waiting_of is_in_a3 dues ≡ waiting_of is_in_r1_a3 dues + waiting_of is_in_r2_a3 dues
both_kinds [] = refl
both_kinds (due ∷ dues) = by due.packet (both_kinds dues)
  where
    Sum : Named → Type 0
    Sum packet =
        (if is_in_a3 packet then suc (waiting_of is_in_a3 dues) else waiting_of is_in_a3 dues)
        ≡ (if is_in_r1_a3 packet then suc (waiting_of is_in_r1_a3 dues)
        else waiting_of is_in_r1_a3 dues)
        + (if is_in_r2_a3 packet then suc (waiting_of is_in_r2_a3 dues)
        else waiting_of is_in_r2_a3 dues)

    by : (packet : Named)
        → waiting_of is_in_a3 dues ≡ waiting_of is_in_r1_a3 dues + waiting_of is_in_r2_a3 dues
        → Sum packet
    by (named.InR1A3 to version window timeout) rest = omega (arith, rest)
    by (named.InR2A3 to) rest = omega (arith, rest)
    by packet rest = rest

pub merged_all : (dues : List Due) (packet : Named) (key : Key) → key_of packet ≡ Some key
    → waiting_of is_in_a3 (merged dues packet) ≡ waiting_of is_in_a3 dues
merged_all [] packet key is = refl
merged_all (first ∷ dues) packet key is =
    by_test (λ (l : List Due). waiting_of is_in_a3 l ≡ waiting_of is_in_a3 (first ∷ dues))
    (takes packet first) (better first packet ∷ dues) (first ∷ merged dues packet)
    (λ e. by_test (λ (d : Due). waiting_of is_in_a3 (d ∷ dues)
    ≡ waiting_of is_in_a3 (first ∷ dues)) (nat_lt (edge_of packet) (edge_of first.packet)) first
    (record { packet = packet; origin = first.origin }) (λ f. refl)
    (λ f. ap (λ (b : Bool).
    if b then suc (waiting_of is_in_a3 dues) else waiting_of is_in_a3 dues)
    (keyed_answer packet key is ∙ sym (keyed_answer first.packet key
    (same_keys (key_of first.packet) (key_of packet) e ∙ is)))))
    (λ e. ap (λ (n : ℕ). if is_in_a3 first.packet then suc n else n)
    (merged_all dues packet key is))

pub plain_all : (may_go : Due → Bool)
    → ((due : Due) → may_go due ≡ true → is_answer due ≡ false) → (dues : List Due)
    → waiting_of is_in_a3 (without_first may_go dues) ≡ waiting_of is_in_a3 dues
plain_all may_go plain [] = refl
plain_all may_go plain (first ∷ dues) =
    by_test (λ (l : List Due). waiting_of is_in_a3 l ≡ waiting_of is_in_a3 (first ∷ dues))
    (may_go first) dues (first ∷ without_first may_go dues)
    (λ e. sym (ap (λ (b : Bool).
    if b then suc (waiting_of is_in_a3 dues) else waiting_of is_in_a3 dues) (plain first e)))
    (λ e. ap (λ (n : ℕ). if is_in_a3 first.packet then suc n else n)
    (plain_all may_go plain dues))

module _ (channel : Cookie) where
  abbrev pub is_for : Due → Bool
  is_for due = is_ack_for channel due.packet

  -- the answers that stand before the acknowledgement, where it is still to come, or before the
  -- wish, where that is
  abbrev pub span : Bool → Bool → List Due → ℕ
  span p q [] = 0
  span p q (due ∷ dues) =
      (if (p || q) && is_in_a3 due.packet then 1 else 0)
      + span (p && not (is_ack_for channel due.packet)) (q && not (is_out_r1_a1 due.packet)) dues

  abbrev step : Bool → Bool → Bool → Bool → Bool → List Due → ℕ
  step p q for wish answer dues =
      (if (p || q) && answer then 1 else 0) + span (p && not for) (q && not wish) dues

  plain_step : (p q : Bool) (dues : List Due) → step p q false false false dues ≡ span p q dues
  plain_step true true dues = omega arith
  plain_step true false dues = omega arith
  plain_step false true dues = omega arith
  plain_step false false dues = omega arith

  -- one of another kind
  as_step : (p q : Bool) (due : Due) (dues : List Due) (for wish answer : Bool)
      → is_for due ≡ for → is_wish due ≡ wish → is_answer due ≡ answer
      → span p q (due ∷ dues) ≡ step p q for wish answer dues
  as_step p q due dues for wish answer e f g =
      ap (λ (b : Bool). step p q b (is_wish due) (is_answer due) dues) e
      ∙ ap (λ (b : Bool). step p q for b (is_answer due) dues) f
      ∙ ap (λ (b : Bool). step p q for wish b dues) g

  -- ---- what becomes due

  next_there : (p b t : Bool) → (p ≡ true → (if b then true else t) ≡ true)
      → p && not b ≡ true → t ≡ true
  next_there true true t h e = absurd cc
  next_there true false t h e = h refl
  next_there false b t h e = absurd cc

  pub pushed_span : (p q : Bool) (dues : List Due) (due : Due)
      → (p ≡ true → ahead.is_there channel dues ≡ true)
      → (q ≡ true → is_there is_wish dues ≡ true)
      → span p q (dues ++ due ∷ []) ≡ span p q dues
  pushed_span true q [] due ack wish = absurd (unlike (ack refl))
    where
      unlike : false ≡ true → ⊥
      unlike e = absurd cc
  pushed_span false true [] due ack wish = absurd (unlike (wish refl))
    where
      unlike : false ≡ true → ⊥
      unlike e = absurd cc
  pushed_span false false [] due ack wish = refl
  pushed_span p q (first ∷ dues) due ack wish =
      ap (λ (n : ℕ). (if (p || q) && is_in_a3 first.packet then 1 else 0) + n)
      (pushed_span (p && not (is_ack_for channel first.packet))
      (q && not (is_out_r1_a1 first.packet)) dues due
      (next_there p (is_ack_for channel first.packet) (ahead.is_there channel dues) ack)
      (next_there q (is_out_r1_a1 first.packet) (is_there is_wish dues) wish))

  pub merged_span : (p q : Bool) (dues : List Due) (packet : Named) (key : Key)
      → key_of packet ≡ Some key → span p q (merged dues packet) ≡ span p q dues
  merged_span p q [] packet key is = refl
  merged_span p q (first ∷ dues) packet key is =
      by_test (λ (l : List Due). span p q l ≡ span p q (first ∷ dues)) (takes packet first)
      (better first packet ∷ dues) (first ∷ merged dues packet)
      (λ e. better_span (same_keys (key_of first.packet) (key_of packet) e))
      (λ e. ap (λ (n : ℕ). (if (p || q) && is_in_a3 first.packet then 1 else 0) + n)
      (merged_span (p && not (is_ack_for channel first.packet))
      (q && not (is_out_r1_a1 first.packet)) dues packet key is))
    where
      better_span : key_of first.packet ≡ key_of packet
          → span p q (better first packet ∷ dues) ≡ span p q (first ∷ dues)
      better_span same =
          by_test (λ (d : Due). span p q (d ∷ dues) ≡ span p q (first ∷ dues))
          (nat_lt (edge_of packet) (edge_of first.packet)) first
          (record { packet = packet; origin = first.origin }) (λ e. refl)
          (λ e. as_step p q (record { packet = packet; origin = first.origin }) dues
          (is_for first) false false
          (ap (λ (k : Option Key).
          are_one k (Some (record { destination = 0; channel = channel }))) (sym same))
          (keyed_wish packet key is) (keyed_answer packet key is)
          ∙ sym (as_step p q first dues (is_for first) false false refl
          (keyed_wish first.packet key (same ∙ is))
          (keyed_answer first.packet key (same ∙ is))))

  -- ---- what goes

  -- one that is none of these
  pub plain_span : (may_go : Due → Bool)
      → ((due : Due) → may_go due ≡ true
      → (is_for due ≡ false) × (is_wish due ≡ false) × (is_answer due ≡ false))
      → (p q : Bool) (dues : List Due)
      → span p q (without_first may_go dues) ≡ span p q dues
  plain_span may_go plain p q [] = refl
  plain_span may_go plain p q (first ∷ dues) =
      by_test (λ (l : List Due). span p q l ≡ span p q (first ∷ dues)) (may_go first) dues
      (first ∷ without_first may_go dues)
      (λ e. let is = plain first e in
      sym (as_step p q first dues false false false is.0 is.1 is.2 ∙ plain_step p q dues))
      (λ e. ap (λ (n : ℕ). (if (p || q) && is_in_a3 first.packet then 1 else 0) + n)
      (plain_span may_go plain (p && not (is_ack_for channel first.packet))
      (q && not (is_out_r1_a1 first.packet)) dues))

  -- of one that isn't the acknowledgement, nor the wish where that is still to come
  rest_most : (p q answer : Bool) (dues : List Due)
      → span p q dues ≤ step p q false false answer dues
  rest_most true true answer dues = omega arith
  rest_most true false answer dues = omega arith
  rest_most false true answer dues = omega arith
  rest_most false false answer dues = omega arith

  ack_most : (p wish answer : Bool) (dues : List Due)
      → span p false dues ≤ step p false false wish answer dues
  ack_most true wish answer dues = omega arith
  ack_most false wish answer dues = omega arith

  module _ (may_go : Due → Bool) (due : Due) where
    pub less_span : (p q : Bool) (dues : List Due) → find may_go dues ≡ Some due
        → is_for due ≡ false → is_wish due ≡ false
        → span p q (without_first may_go dues) ≤ span p q dues
    less_span p q [] found unlike none = omega arith
    less_span p q (first ∷ dues) found unlike none =
        by (may_go first) found
        (λ e. less_span (p && not (is_ack_for channel first.packet))
        (q && not (is_out_r1_a1 first.packet)) dues e unlike none)
      where
        by : (b : Bool) → (if b then Some first else find may_go dues) ≡ Some due
            → (find may_go dues ≡ Some due
            → span (p && not (is_ack_for channel first.packet))
            (q && not (is_out_r1_a1 first.packet)) (without_first may_go dues)
            ≤ span (p && not (is_ack_for channel first.packet))
            (q && not (is_out_r1_a1 first.packet)) dues)
            → span p q (if b then dues else first ∷ without_first may_go dues)
            ≤ span p q (first ∷ dues)
        by true e rest =
            let same = some_same first due e in
            subst (λ (n : ℕ). span p q dues ≤ n)
            (sym (as_step p q first dues false false (is_answer first)
            (ap is_for same ∙ unlike) (ap is_wish same ∙ none) refl))
            (rest_most p q (is_answer first) dues)
        by false e rest = let less = rest e in omega (arith, less)

    pub less_ack : (p : Bool) (dues : List Due) → find may_go dues ≡ Some due
        → is_for due ≡ false
        → span p false (without_first may_go dues) ≤ span p false dues
    less_ack p [] found unlike = omega arith
    less_ack p (first ∷ dues) found unlike =
        by (may_go first) found
        (λ e. less_ack (p && not (is_ack_for channel first.packet)) dues e unlike)
      where
        by : (b : Bool) → (if b then Some first else find may_go dues) ≡ Some due
            → (find may_go dues ≡ Some due
            → span (p && not (is_ack_for channel first.packet)) false
            (without_first may_go dues)
            ≤ span (p && not (is_ack_for channel first.packet)) false dues)
            → span p false (if b then dues else first ∷ without_first may_go dues)
            ≤ span p false (first ∷ dues)
        by true e rest =
            let same = some_same first due e in
            subst (λ (n : ℕ). span p false dues ≤ n)
            (sym (as_step p false first dues false (is_wish first) (is_answer first)
            (ap is_for same ∙ unlike) refl refl))
            (ack_most p (is_wish first) (is_answer first) dues)
        by false e rest = let less = rest e in omega (arith, less)

    -- an answer that goes where the acknowledgement, or the wish, might go
    abbrev pub AreLet : (Due → Bool) → Type 0
    AreLet test = (other : Due) → test other ≡ true → may_go other ≡ true

    abbrev pub Within : Bool → Bool → Type 0
    Within p q = ((p ≡ true) × AreLet is_for) ⊎ ((q ≡ true) × AreLet is_wish)

    one_more : (p q : Bool) (dues : List Due) → Within p q
        → suc (span p q dues) ≡ step p q false false true dues
    one_more true true dues h = omega arith
    one_more true false dues h = omega arith
    one_more false true dues h = omega arith
    one_more false false dues (inl h) = absurd (unlike h.0)
      where
        unlike : false ≡ true → ⊥
        unlike e = absurd cc
    one_more false false dues (inr h) = absurd (unlike h.0)
      where
        unlike : false ≡ true → ⊥
        unlike e = absurd cc

    still : (p for : Bool) → p ≡ true → (for ≡ true → ⊥) → p && not for ≡ true
    still true true e unlike = absurd (unlike refl)
    still true false e unlike = refl
    still false for e unlike = absurd cc

    refused : (test : Due → Bool) (first : Due) → AreLet test → may_go first ≡ false
        → test first ≡ true → ⊥
    refused test first all e is = other (sym (all first is) ∙ e)
      where
        other : true ≡ false → ⊥
        other f = absurd cc

    within : (p q : Bool) (first : Due) → may_go first ≡ false → Within p q
        → Within (p && not (is_ack_for channel first.packet))
        (q && not (is_out_r1_a1 first.packet))
    within p q first e (inl h) =
        inl (still p (is_for first) h.0 (refused is_for first h.1 e), h.1)
    within p q first e (inr h) =
        inr (still q (is_wish first) h.0 (refused is_wish first h.1 e), h.1)

    pub answer_span : (p q : Bool) (dues : List Due) → find may_go dues ≡ Some due
        → is_answer due ≡ true → Within p q
        → suc (span p q (without_first may_go dues)) ≡ span p q dues
    answer_span p q [] found is h = absurd cc
    answer_span p q (first ∷ dues) found is h =
        by (may_go first) refl found
        (λ none e. answer_span (p && not (is_ack_for channel first.packet))
        (q && not (is_out_r1_a1 first.packet)) dues e is (within p q first none h))
      where
        by : (b : Bool) → may_go first ≡ b
            → (if b then Some first else find may_go dues) ≡ Some due
            → (may_go first ≡ false → find may_go dues ≡ Some due
            → suc (span (p && not (is_ack_for channel first.packet))
            (q && not (is_out_r1_a1 first.packet)) (without_first may_go dues))
            ≡ span (p && not (is_ack_for channel first.packet))
            (q && not (is_out_r1_a1 first.packet)) dues)
            → suc (span p q (if b then dues else first ∷ without_first may_go dues))
            ≡ span p q (first ∷ dues)
        by true may e rest =
            let same = some_same first due e in
            let here = ap is_answer same ∙ is in
            one_more p q dues h
            ∙ sym (as_step p q first dues false false true
            (answer_ack channel first.packet here) (answer_wish first.packet here) here)
        by false may e rest = let more = rest may e in omega (arith, more)

  -- ---- fewer and all

  fewer_part : (p q answer : Bool)
      → (if (p || false) && answer then 1 else 0) ≤ (if (p || q) && answer then 1 else 0)
  fewer_part true q answer = omega arith
  fewer_part false true true = omega arith
  fewer_part false true false = omega arith
  fewer_part false false answer = omega arith

  pub ack_span : (p q : Bool) (dues : List Due) → span p false dues ≤ span p q dues
  ack_span p q [] = omega arith
  ack_span p q (first ∷ dues) =
      let part = fewer_part p q (is_answer first) in
      let rest = ack_span (p && not (is_ack_for channel first.packet))
      (q && not (is_out_r1_a1 first.packet)) dues in
      omega (arith, part, rest)

  pub span_all : (p q : Bool) (dues : List Due) → span p q dues ≤ waiting_of is_in_a3 dues
  span_all p q [] = omega arith
  span_all p q (first ∷ dues) =
      by (p || q) (is_answer first)
      (span_all (p && not (is_ack_for channel first.packet))
      (q && not (is_out_r1_a1 first.packet)) dues)
    where
      rest : ℕ
      rest =
          span (p && not (is_ack_for channel first.packet))
          (q && not (is_out_r1_a1 first.packet)) dues

      by : (c b : Bool) → rest ≤ waiting_of is_in_a3 dues
          → (if c && b then 1 else 0) + rest
          ≤ (if b then suc (waiting_of is_in_a3 dues) else waiting_of is_in_a3 dues)
      by true true h = omega (arith, h)
      by true false h = omega (arith, h)
      by false true h = omega (arith, h)
      by false false h = omega (arith, h)
