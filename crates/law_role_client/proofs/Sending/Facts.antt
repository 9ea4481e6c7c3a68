-- what a client knows of its channels, by what came and what it put
use Rattle.law_order.proofs.Vocabulary.{◌≡◌, ◌⊎◌, ℕ, suc, ◌<◌, Bool, true, if◌then◌else◌, List, [], ◌∷◌, ◌++◌, inl, inr, sym, ◌∙◌, subst}
use Rattle.law_moves.proofs.Vocabulary.{Sender, Cookie, Named, Leg, Phase, Message, same_leg, OnLeg, of_leg, pdu_bytes, HasOne, BeginsIn, BeginsOut, HasBegunIn, HasBegunOut}
use Rattle.law_role_client.proofs.Vocabulary.{Opening, InChannel, OutChannel, ClientRole, is_up, is_put, is_in, ci, co, is_opening, IsWithin}
use Rattle.law_role_client.proofs.Sending.Logs.{bytes_stay, one_was, within_so, within_more}
use Rattle.law_role_client.proofs.Counted.Behind.{still_has as one_stays}

-- ---- what the facts are about

pub record SeenIn : Type 0 where
  pub number : ℕ
  pub cookie : Cookie
  pub opening : Opening
  pub window : Sender
  pub told : ℕ

pub record SeenOut : Type 0 where
  pub number : ℕ
  pub cookie : Cookie
  pub opening : Opening

pub record Seen : Type 0 where
  pub writing : SeenIn
  pub in_successor : SeenIn
  pub leaving : SeenIn
  pub current : SeenOut
  pub out_successor : SeenOut
  pub replaces_in : Bool

abbrev pub seen_in : InChannel → SeenIn
seen_in c = record {
  number = c.number;
  cookie = c.cookie;
  opening = c.opening;
  window = c.window;
  told = c.told;
}

abbrev pub seen_out : OutChannel → SeenOut
seen_out c = record { number = c.number; cookie = c.cookie; opening = c.opening }

abbrev pub seen : ClientRole → Seen
seen s = record {
  writing = seen_in s.writing;
  in_successor = seen_in s.in_successor;
  leaving = seen_in s.leaving;
  current = seen_out s.current;
  out_successor = seen_out s.out_successor;
  replaces_in = is_in s.replacement;
}

-- bytes of RPC PDUs that were put on an IN channel
abbrev pub put_bytes : List OnLeg → ℕ → ℕ
put_bytes put n = pdu_bytes (of_leg (ci n) put)

-- the cookie of a channel that is up
abbrev pub IsCookieOf : SeenIn → Cookie → Type 0
IsCookieOf x cookie = (is_up x.opening ≡ true) × (x.cookie ≡ cookie)

-- of no channel: no acknowledgement tells it
abbrev pub IsOfNone : Cookie → Type 0
IsOfNone cookie = ⊥

-- ---- the facts

-- the numbers of IN channels, and where no PDU was put
pub record IsNumbered (writing successor leaving : ℕ) (replaces : Bool) (put : List OnLeg)
    : Type 0 where
  pub positive : 0 < writing
  pub next : successor ≡ (if replaces then suc writing else 0)
  pub before : leaving < writing
  pub none : put_bytes put 0 ≡ 0
  pub later : (n : ℕ) → writing < n → put_bytes put n ≡ 0

-- before it is Open it sends nothing
abbrev pub IsStill : Phase → SeenIn → Type 0
IsStill phase x = is_opening phase ≡ true → x.window.sent ≡ 0

-- Comes says of a leg and a cookie that the leg came up with it
module _ (Comes : Leg → Cookie → Type 0) where
  abbrev pub IsKnownOut : SeenOut → Type 0
  IsKnownOut x = is_up x.opening ≡ true → Comes (co x.number) x.cookie

  -- of an IN channel: its window counts what was put there, and it knows of no edge and no window
  -- that weren't told
  pub record IsKnownIn (x : SeenIn) (came put : List OnLeg) : Type 0 where
    pub counted : x.window.sent ≡ put_bytes put x.number
    pub edge : IsWithin (IsCookieOf x) came x.window.edge
    pub told : IsWithin IsOfNone came x.told
    pub begun : is_put x.opening ≡ true → HasBegunIn x.cookie (of_leg (ci x.number) put)
    pub comes : is_up x.opening ≡ true → Comes (ci x.number) x.cookie

  -- of all legs
  pub record LogsAreSo (came put : List OnLeg) : Type 0 where
    pub within : (n : ℕ) → IsWithin (λ cookie. HasBegunIn cookie (of_leg (ci n) put)) came
        (put_bytes put n)
    pub ins : (n : ℕ) (cookie : Cookie) → HasBegunIn cookie (of_leg (ci n) put)
        → Comes (ci n) cookie
    pub outs : (n : ℕ) (cookie : Cookie) → HasBegunOut cookie (of_leg (co n) put)
        → Comes (co n) cookie

  pub record IsSo (x : Seen) (came put : List OnLeg) : Type 0 where
    pub numbers : IsNumbered x.writing.number x.in_successor.number x.leaving.number x.replaces_in
        put
    pub logs : LogsAreSo came put
    pub writing : IsKnownIn x.writing came put
    pub in_successor : IsKnownIn x.in_successor came put
    pub leaving : IsKnownIn x.leaving came put
    pub current : IsKnownOut x.current
    pub out_successor : IsKnownOut x.out_successor

  pub record Kept (s : ClientRole) (came put : List OnLeg) : Type 0 where
    pub so : IsSo (seen s) came put
    pub still : IsStill s.phase (seen_in s.writing)

  -- ---- a message came

  known_heard : (x : SeenIn) (came put : List OnLeg) (one : OnLeg) → IsKnownIn x came put
      → IsKnownIn x (came ++ one ∷ []) put
  known_heard x came put one h = record {
    counted = h.counted;
    edge = within_more (IsCookieOf x) came one x.window.edge h.edge;
    told = within_more IsOfNone came one x.told h.told;
    begun = h.begun;
    comes = h.comes;
  }

  pub heard : (s : ClientRole) (came put : List OnLeg) (one : OnLeg) → Kept s came put
      → Kept s (came ++ one ∷ []) put
  heard s came put one h =
      let so = h.so in
      record {
        so = record {
          numbers = so.numbers;
          logs = record {
            within = λ n. within_more (λ cookie. HasBegunIn cookie (of_leg (ci n) put)) came one
                (put_bytes put n)
                (so.logs.within n);
            ins = so.logs.ins;
            outs = so.logs.outs;
          };
          writing = known_heard _ came put one so.writing;
          in_successor = known_heard _ came put one so.in_successor;
          leaving = known_heard _ came put one so.leaving;
          current = so.current;
          out_successor = so.out_successor;
        };
        still = h.still;
      }

  -- ---- a message was put that is no PDU

  -- what it begins has the cookie with which its leg came up
  abbrev pub BeginsSo : Leg → Message → Type 0
  BeginsSo leg m =
      ((n : ℕ) (cookie : Cookie) → same_leg leg (ci n) ≡ true
      → HasBegunIn cookie (m ∷ []) → Comes (ci n) cookie)
      × ((n : ℕ) (cookie : Cookie) → same_leg leg (co n) ≡ true
      → HasBegunOut cookie (m ∷ []) → Comes (co n) cookie)

  known_put : (x : SeenIn) (came put : List OnLeg) (one : OnLeg) → pdu_bytes (one.1 ∷ []) ≡ 0
      → IsKnownIn x came put → IsKnownIn x came (put ++ one ∷ [])
  known_put x came put one none h = record {
    counted = h.counted ∙ sym (bytes_stay (ci x.number) put one none);
    edge = h.edge;
    told = h.told;
    begun = λ e. one_stays (BeginsIn x.cookie) (ci x.number) put one (h.begun e);
    comes = h.comes;
  }

  -- on each leg what began has its leg's cookie
  begun_by : (leg : Leg) (Is : Named → Type 0) (P : Type 0) (put : List OnLeg) (one : OnLeg)
      → (HasOne Is (of_leg leg put) → P)
      → (same_leg one.0 leg ≡ true → HasOne Is (one.1 ∷ []) → P)
      → HasOne Is (of_leg leg (put ++ one ∷ [])) → P
  begun_by leg Is P put one before now h = by (one_was Is leg put one h)
    where
      by : HasOne Is (of_leg leg put) ⊎ ((same_leg one.0 leg ≡ true) × HasOne Is (one.1 ∷ []))
          → P
      by (inl was) = before was
      by (inr is) = now is.0 is.1

  pub logs_put : (came put : List OnLeg) (one : OnLeg)
      → ((n : ℕ) → IsWithin (λ cookie. HasBegunIn cookie (of_leg (ci n) (put ++ one ∷ []))) came
      (put_bytes (put ++ one ∷ []) n))
      → BeginsSo one.0 one.1 → LogsAreSo came put → LogsAreSo came (put ++ one ∷ [])
  logs_put came put one within begins h = record {
    within = within;
    ins = λ n cookie is.
        begun_by (ci n) (BeginsIn cookie) (Comes (ci n) cookie) put one (h.ins n cookie)
        (begins.0 n cookie) is;
    outs = λ n cookie is.
        begun_by (co n) (BeginsOut cookie) (Comes (co n) cookie) put one (h.outs n cookie)
        (begins.1 n cookie) is;
  }

  pub was_put : (s : ClientRole) (came put : List OnLeg) (one : OnLeg)
      → pdu_bytes (one.1 ∷ []) ≡ 0 → BeginsSo one.0 one.1 → Kept s came put
      → Kept s came (put ++ one ∷ [])
  was_put s came put one none begins h =
      let so = h.so in
      record {
        so = record {
          numbers = record {
            positive = so.numbers.positive;
            next = so.numbers.next;
            before = so.numbers.before;
            none = bytes_stay (ci 0) put one none ∙ so.numbers.none;
            later = λ n l. bytes_stay (ci n) put one none ∙ so.numbers.later n l;
          };
          logs = logs_put came put one (λ n.
              subst (IsWithin (λ cookie. HasBegunIn cookie (of_leg (ci n) (put ++ one ∷ [])))
              came)
              (sym (bytes_stay (ci n) put one none))
              (within_so (λ cookie. HasBegunIn cookie (of_leg (ci n) put))
              (λ cookie. HasBegunIn cookie (of_leg (ci n) (put ++ one ∷ []))) came
              (put_bytes put n)
              (λ cookie is. one_stays (BeginsIn cookie) (ci n) put one is)
              (so.logs.within n))) begins so.logs;
          writing = known_put _ came put one none so.writing;
          in_successor = known_put _ came put one none so.in_successor;
          leaving = known_put _ came put one none so.leaving;
          current = so.current;
          out_successor = so.out_successor;
        };
        still = h.still;
      }
