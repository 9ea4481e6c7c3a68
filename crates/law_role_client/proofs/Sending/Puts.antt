-- what a client keeps as it puts a message
use Rattle.law_order.proofs.Vocabulary.{◌≡◌, ◌≢◌, ℕ, suc, ◌+◌, ◌≤◌, nat_eq, Bool, true, false, true≢false, ◌&&◌, if◌then◌else◌, List, [], ◌∷◌, ◌++◌, length, Some, None, arith, refl, sym, ap, ◌∙◌, subst, false≢true, and_parts, nat_tests}
use Rattle.rh_shell.specs.declared.answers.Phase.TheVariants as phase
use Rattle.rh_client.specs.Putting.{pdu_by}
use Rattle.law_moves.proofs.Vocabulary.{may_send, may_put, by_test, same_number, other_number, test_same, test_other, Cookie, behind, front_length, Leg, Phase, first_of, Message, Text, Pdu, OnLeg, of_leg, pdu_bytes, HasBegunIn, HasBegunOut, BeginsIn}
use Rattle.law_moves.proofs.Lemmas.{PutKeeps, bytes_append, other_more as leg_other}
use Rattle.law_role_client.proofs.Vocabulary.{ClientRole, is_put, sent, is_in, ci, is_open, is_opening, Pick, or_else, lets_pdu, IsWithin}
use Rattle.law_role_client.proofs.Sending.Logs.{leg_here, within_so, within_less}
use Rattle.law_role_client.proofs.Sending.Facts.{SeenIn, seen_in, seen, put_bytes, IsCookieOf, IsKnownIn, IsSo, BeginsSo, Kept, logs_put, was_put}
use Rattle.law_role_client.proofs.Sending.Changes.{Same, quiet, same_kept}
use Rattle.law_role_client.proofs.Counted.Behind.{still_has as one_stays}

pub open_is : (p : Phase) → is_open p ≡ true → is_opening p ≡ false
open_is phase.Opening e = absurd (false≢true e)
open_is phase.Open e = refl
open_is phase.Ended e = refl

-- a message that begins nothing, and is no PDU
pub record IsPlain (m : Message) : Type 0 where
  pub bytes : pdu_bytes (m ∷ []) ≡ 0
  pub ins : (cookie : Cookie) → HasBegunIn cookie (m ∷ []) → ⊥
  pub outs : (cookie : Cookie) → HasBegunOut cookie (m ∷ []) → ⊥

pub text_plain : (bytes : List ℕ) → IsPlain (Text bytes)
text_plain bytes =
    record { bytes = refl; ins = λ cookie never. never; outs = λ cookie never. never }

module _ (Comes : Leg → Cookie → Type 0) where
  abbrev pub Puts : Leg → List OnLeg → List OnLeg → Pick → Type 0
  Puts leg came put pick = PutKeeps (Kept Comes) leg came put pick

  pub or_put : (leg : Leg) (came put : List OnLeg) (a b : Pick) → Puts leg came put a
      → Puts leg came put b → Puts leg came put (or_else a b)
  or_put leg came put None b h k = k
  or_put leg came put (Some one) b h k = h

  pub none_begun : (leg : Leg) (m : Message) → IsPlain m → BeginsSo Comes leg m
  none_begun leg m plain = (
    λ n cookie e is. absurd (plain.ins cookie is),
    λ n cookie e is. absurd (plain.outs cookie is),
  )

  pub plain_put : (s t : ClientRole) (leg : Leg) (m : Message) (came put : List OnLeg) → Same s t
      → IsPlain m → Kept Comes s came put → Kept Comes t came (put ++ (leg, m) ∷ [])
  plain_put s t leg m came put same plain h =
      same_kept Comes s t came (put ++ (leg, m) ∷ []) same
      (was_put Comes s came put (leg, m) plain.bytes (none_begun leg m plain) h)

  -- ---- a PDU goes on the writing channel

  pdu_kept : (s : ClientRole) (pdu : List ℕ) (came put : List OnLeg)
      → is_put s.writing.opening ≡ true → is_open s.phase ≡ true
      → may_send s.writing.window (length pdu) ≡ true → Kept Comes s came put
      → Kept Comes (record s { writing = sent s.writing (length pdu) }) came
      (put ++ (ci s.writing.number, Pdu pdu) ∷ [])
  pdu_kept s pdu came put begun opened may h = record {
    so = record {
      numbers = record {
        positive = so.numbers.positive;
        next = so.numbers.next;
        before = so.numbers.before;
        none =
            let positive = so.numbers.positive in
            there 0 (λ e. absurd (omega (arith, e, positive))) ∙ so.numbers.none;
        later = λ n l. there n (λ e. absurd (omega (arith, e, l))) ∙ so.numbers.later n l;
      };
      logs = logs_put Comes came put one within
          (λ n cookie e never. absurd never, λ n cookie e never. absurd never)
          so.logs;
      writing = record {
        counted = let counted = so.writing.counted in omega (arith, here, counted);
        edge = so.writing.edge;
        told = so.writing.told;
        begun = λ e. stays number s.writing.cookie (so.writing.begun e);
        comes = so.writing.comes;
      };
      in_successor = known_there (seen_in s.in_successor) (λ e. absurd (apart e)) so.in_successor;
      leaving = known_there (seen_in s.leaving)
          (λ e. let before = so.numbers.before in absurd (omega (arith, e, before)))
          so.leaving;
      current = so.current;
      out_successor = so.out_successor;
    };
    still = λ e. absurd (true≢false (sym e ∙ open_is s.phase opened));
  }
    where
      so : IsSo Comes (seen s) came put
      so = h.so

      number : ℕ
      number = s.writing.number

      one : OnLeg
      one = (ci s.writing.number, Pdu pdu)

      here : put_bytes (put ++ one ∷ []) s.writing.number
          ≡ put_bytes put s.writing.number + length pdu
      here =
          let all = bytes_append (of_leg (ci s.writing.number) put) (Pdu pdu ∷ []) in
          let sum : pdu_bytes (of_leg (ci s.writing.number) put ++ Pdu pdu ∷ [])
          ≡ put_bytes put s.writing.number + length pdu = omega (arith, all) in
          ap pdu_bytes (leg_here (ci s.writing.number) put one (test_same s.writing.number)) ∙ sum

      there : (n : ℕ) → s.writing.number ≢ n
          → put_bytes (put ++ one ∷ []) n ≡ put_bytes put n
      there n other =
          ap pdu_bytes (leg_other (ci n) put one (test_other s.writing.number n other))

      stays : (n : ℕ) (cookie : Cookie) → HasBegunIn cookie (of_leg (ci n) put)
          → HasBegunIn cookie (of_leg (ci n) (put ++ one ∷ []))
      stays n cookie is = one_stays (BeginsIn cookie) (ci n) put one is

      known_there : (x : SeenIn) → s.writing.number ≢ x.number → IsKnownIn Comes x came put
          → IsKnownIn Comes x came (put ++ one ∷ [])
      known_there x other known = record {
        counted = known.counted ∙ sym (there x.number other);
        edge = known.edge;
        told = known.told;
        begun = λ e. stays x.number x.cookie (known.begun e);
        comes = known.comes;
      }

      -- the successor's number is the next one, or 0
      apart : s.writing.number ≡ s.in_successor.number → ⊥
      apart e = by (is_in s.replacement) (e ∙ so.numbers.next)
        where
          by : (b : Bool) → s.writing.number ≡ (if b then suc s.writing.number else 0) → ⊥
          by true f = omega (arith, f)
          by false f = let positive = so.numbers.positive in omega (arith, f, positive)

      Within : ℕ → Type 0
      Within n = IsWithin (λ cookie. HasBegunIn cookie (of_leg (ci n) (put ++ one ∷ []))) came
          (put_bytes (put ++ one ∷ []) n)

      within_edge : put_bytes (put ++ one ∷ []) s.writing.number ≤ s.writing.window.edge
      within_edge =
          let counted = so.writing.counted in
          let edge : s.writing.window.sent + length pdu ≤ s.writing.window.edge =
          grind (arith, nat_tests, may) in
          omega (arith, here, counted, edge)

      within_here : Within s.writing.number
      within_here =
          within_less
          (λ cookie. HasBegunIn cookie (of_leg (ci s.writing.number) (put ++ one ∷ [])))
          came s.writing.window.edge (put_bytes (put ++ one ∷ []) s.writing.number) within_edge
          (within_so (IsCookieOf (seen_in s.writing))
          (λ cookie. HasBegunIn cookie (of_leg (ci s.writing.number) (put ++ one ∷ []))) came
          s.writing.window.edge
          (λ cookie is. subst
          (λ (x : Cookie). HasBegunIn x (of_leg (ci s.writing.number) (put ++ one ∷ []))) is.1
          (stays s.writing.number s.writing.cookie (so.writing.begun begun))) so.writing.edge)

      within : (n : ℕ) → Within n
      within n = by (nat_eq s.writing.number n) refl
        where
          by : (b : Bool) → nat_eq s.writing.number n ≡ b → Within n
          by true e = subst Within (same_number s.writing.number n e) within_here
          by false e =
              subst (IsWithin (λ cookie. HasBegunIn cookie (of_leg (ci n) (put ++ one ∷ []))) came)
              (sym (there n (other_number s.writing.number n e)))
              (within_so (λ cookie. HasBegunIn cookie (of_leg (ci n) put))
              (λ cookie. HasBegunIn cookie (of_leg (ci n) (put ++ one ∷ []))) came
              (put_bytes put n) (λ cookie is. stays n cookie is) (so.logs.within n))

  pub pdu_put : (s : ClientRole) (queue : List (List ℕ)) (came put : List OnLeg)
      → s.queue ≡ queue → is_put s.writing.opening ≡ true → Kept Comes s came put
      → Puts (ci s.writing.number) came put (pdu_by s (front_length queue))
  pdu_put s [] came put is begun h = tt
  pdu_put s (pdu ∷ pdus) came put is begun h =
      by_test (Puts (ci s.writing.number) came put) (lets_pdu s (length pdu)) _ None
      (λ e.
      let lets = and_parts (is_open s.phase)
      (may_send s.writing.window (length pdu) && may_put s.writing.meter (length pdu)) e in
      let may = (and_parts (may_send s.writing.window (length pdu))
      (may_put s.writing.meter (length pdu))
      lets.1).0 in
      let t : ClientRole = record s { writing = sent s.writing (length pdu) } in
      subst (λ (bytes : List ℕ). Kept Comes (record t { queue = behind s.queue }) came
      (put ++ (ci s.writing.number, Pdu bytes) ∷ [])) (sym (ap first_of is))
      (same_kept Comes t (record t { queue = behind s.queue }) came
      (put ++ (ci s.writing.number, Pdu pdu) ∷ [])
      (quiet t (record t { queue = behind s.queue }) refl refl)
      (pdu_kept s pdu came put begun lets.0 may h)))
      (λ e. tt)
