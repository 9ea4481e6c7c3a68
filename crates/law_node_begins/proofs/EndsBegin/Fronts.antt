-- the channels of one direction at a client: the one in use, and its successor while it is
-- replaced; what stands on the leg of each number, and which of them came up
use Rattle.law_order.proofs.Vocabulary.{◌≡◌, ◌⊎◌, ℕ, suc, ◌+◌, ◌<◌, Bool, true, false, not, ◌&&◌, ◌||◌, IsTrue, List, [], nat_eq, inl, inr, arith, refl, sym, subst, ◌∙◌, cases_lt, cases_eq}
use Rattle.law_moves.proofs.Vocabulary.{same_number, other_number, Message}
use Rattle.law_node_begins.proofs.EndsBegin.Stands.{Stands, IsFine, fine, GoesBehind, NumberLogs, grown_at, at_here, at_other, EndsAt, ends_stay}

-- its number, whether its leg is up, and whether the text was put there
pub record Channel : Type 0 where
  pub number : ℕ
  pub up : Bool
  pub begun : Bool

abbrev pub channel : ℕ → Bool → Bool → Channel
channel number up begun = record { number = number; up = up; begun = begun }

pub record Front : Type 0 where
  pub now : Channel
  -- it is replaced, by the next one, which was answered
  pub replaced : Bool
  pub next : Channel
  pub answered : Bool

-- the channel in use; those before it came up, and nothing stands on number 0
pub record IsUsed (IsFirst : List ℕ → Type 0) (came : ℕ → Type 0) (c : Channel) (logs : NumberLogs)
    : Type 0 where
  pub positive : 0 < c.number
  pub above_first : 1 < c.number → c.up ≡ true
  pub came_up : c.up ≡ true → came c.number
  pub stands : Stands IsFirst c.begun (logs c.number)
  pub below : (k : ℕ) → 0 < k → k < c.number → IsFine IsFirst (logs k) × came k
  pub none : logs 0 ≡ []

-- the next channel has the next number, and is up once it was answered
pub record IsNext (IsFirst : List ℕ → Type 0) (came : ℕ → Type 0) (n : ℕ) (next : Channel)
    (answered : Bool) (logs : NumberLogs) : Type 0 where
  pub number : next.number ≡ suc n
  pub came_up : next.up ≡ true → came next.number
  pub answered_up : answered ≡ true → next.up ≡ true
  pub stands : Stands IsFirst next.begun (logs next.number)
  pub last : EndsAt next.number logs

abbrev pub IsFollowed : (List ℕ → Type 0) → (ℕ → Type 0) → Bool → ℕ → Channel → Bool
    → NumberLogs → Type 0
IsFollowed IsFirst came true n next answered logs = IsNext IsFirst came n next answered logs
IsFollowed IsFirst came false n next answered logs = EndsAt n logs

abbrev pub IsFront : (List ℕ → Type 0) → (ℕ → Type 0) → Front → NumberLogs → Type 0
IsFront IsFirst came f logs =
    IsUsed IsFirst came f.now logs
    × IsFollowed IsFirst came f.replaced f.now.number f.next f.answered logs

-- where it is not replaced
abbrev pub IsLast : (List ℕ → Type 0) → (ℕ → Type 0) → Channel → NumberLogs → Type 0
IsLast IsFirst came c logs = IsUsed IsFirst came c logs × EndsAt c.number logs

module _ (IsFirst : List ℕ → Type 0) (came : ℕ → Type 0) where
  -- ---- replacement

  pub next_begins : (c : Channel) (logs : NumberLogs) → EndsAt c.number logs
      → IsNext IsFirst came c.number (channel (c.number + 1) false false) false logs
  next_begins c logs ends = record {
    number = omega arith;
    came_up = λ e. absurd (cc);
    answered_up = λ e. absurd (cc);
    stands = ends (c.number + 1) (omega arith);
    last = λ k above. ends k (omega arith);
  }

  -- the next channel takes the place of one whose leg came up
  pub hands_over : (c next : Channel) (logs : NumberLogs) → IsUsed IsFirst came c logs
      → IsNext IsFirst came c.number next true logs → came c.number
      → IsLast IsFirst came next logs
  hands_over c next logs used is up = (
    record {
      positive = omega (arith, is.number);
      above_first = λ e. is.answered_up refl;
      came_up = is.came_up;
      stands = is.stands;
      below = λ k above under. before k above under (nat_eq k c.number) refl;
      none = used.none;
    },
    is.last,
  )
    where
      before : (k : ℕ) → 0 < k → k < next.number → (t : Bool) → nat_eq k c.number ≡ t
          → IsFine IsFirst (logs k) × came k
      before k above under true e =
          subst (λ n. IsFine IsFirst (logs n) × came n) (sym (same_number k c.number e))
          (fine IsFirst c.begun (logs c.number) used.stands, up)
      before k above under false e =
          let other = other_number k c.number e in
          let number = is.number in
          used.below k above (omega (arith, other, number, under))

  -- ---- legs come up

  -- the text is put on a leg that is up
  abbrev pub IsUpFirst : Channel → Type 0
  IsUpFirst c = c.begun ≡ true → c.up ≡ true

  -- nothing stands on a leg that is not up
  not_begun : (c : Channel) (messages : List Message) → IsUpFirst c → c.up ≡ false
      → Stands IsFirst c.begun messages → Stands IsFirst false messages
  not_begun c messages first down h = by c.begun refl h
    where
      by : (b : Bool) → c.begun ≡ b → Stands IsFirst b messages → Stands IsFirst false messages
      by true e h = let up = first e in absurd (cc)
      by false e h = h

  used_up : (c : Channel) (logs : NumberLogs) → IsUpFirst c → c.up ≡ false → came c.number
      → IsUsed IsFirst came c logs → IsUsed IsFirst came (channel c.number true false) logs
  used_up c logs first down up used = record {
    positive = used.positive;
    above_first = λ above. refl;
    came_up = λ e. up;
    stands = not_begun c (logs c.number) first down used.stands;
    below = used.below;
    none = used.none;
  }

  next_up : (n : ℕ) (c : Channel) (answered : Bool) (logs : NumberLogs) → IsUpFirst c
      → c.up ≡ false → came c.number → IsNext IsFirst came n c answered logs
      → IsNext IsFirst came n (channel c.number true false) answered logs
  next_up n c answered logs first down up is = record {
    number = is.number;
    came_up = λ e. up;
    answered_up = λ e. refl;
    stands = not_begun c (logs c.number) first down is.stands;
    last = is.last;
  }

  -- a leg is wanted that is not up: of the channel in use, or of the next one
  abbrev pub is_wanted : Front → ℕ → Bool
  is_wanted f k =
      (nat_eq k f.now.number && not f.now.up)
      || ((f.replaced && nat_eq k f.next.number) && not f.next.up)

  which : (a b c d : Bool) → IsTrue ((a && not b) || (c && not d))
      → ((a ≡ true) × (b ≡ false)) ⊎ ((c ≡ true) × (d ≡ false))
  which true false c d h = inl (refl, refl)
  which true true true false h = inr (refl, refl)
  which true true true true h = absurd (cc)
  which true true false d h = absurd (cc)
  which false b true false h = inr (refl, refl)
  which false b true true h = absurd (cc)
  which false b false d h = absurd (cc)

  -- the next one has another number
  apart : (replaced : Bool) (n k : ℕ) (next : Channel) (answered : Bool) (logs : NumberLogs)
      → IsFollowed IsFirst came replaced n next answered logs
      → (replaced && nat_eq k next.number) ≡ true → (k ≡ next.number) × (k ≡ suc n)
  apart true n k next answered logs is e =
      let same = same_number k next.number e in (same, same ∙ is.number)
  apart false n k next answered logs is e = absurd (cc)

  pub now_rises : (f : Front) (logs : NumberLogs) (k : ℕ) → IsUpFirst f.now → came k
      → IsTrue (is_wanted f k) → nat_eq k f.now.number ≡ true → IsFront IsFirst came f logs
      → IsFront IsFirst came (record f { now = channel f.now.number true false }) logs
  now_rises f logs k first up wants e is =
      let of_next = f.replaced && nat_eq k f.next.number in
      let same = same_number k f.now.number e in
      elim (which (nat_eq k f.now.number) f.now.up of_next f.next.up wants) [
        | inl a ↦ (used_up f.now logs first a.1 (subst came same up) is.0, is.1)
        | inr b ↦
            let other = apart f.replaced f.now.number k f.next f.answered logs is.1 b.0 in
            let above = other.1 in absurd (omega (arith, same, above))
      ]

  next_follows : (replaced : Bool) (n k : ℕ) (next : Channel) (answered : Bool)
      (logs : NumberLogs) → IsUpFirst next → came k
      → (replaced && nat_eq k next.number) ≡ true → next.up ≡ false
      → IsFollowed IsFirst came replaced n next answered logs
      → IsFollowed IsFirst came replaced n (channel next.number true false) answered logs
  next_follows true n k next answered logs first up e down is =
      next_up n next answered logs first down (subst came (same_number k next.number e) up) is
  next_follows false n k next answered logs first up e down is = absurd (cc)

  pub next_rises : (f : Front) (logs : NumberLogs) (k : ℕ) → IsUpFirst f.next → came k
      → IsTrue (is_wanted f k) → nat_eq k f.now.number ≡ false → IsFront IsFirst came f logs
      → IsFront IsFirst came (record f { next = channel f.next.number true false }) logs
  next_rises f logs k first up wants e is =
      let of_next = f.replaced && nat_eq k f.next.number in
      elim (which (nat_eq k f.now.number) f.now.up of_next f.next.up wants) [
        | inl a ↦ let here = a.0 in absurd (cc)
        | inr b ↦ (
          is.0,
          next_follows f.replaced f.now.number k f.next f.answered logs first up b.0 b.1 is.1,
        )
      ]

  -- ---- the next channel is answered once its leg is up

  pub next_answers : (n : ℕ) (next : Channel) (answered : Bool) (logs : NumberLogs)
      → next.up ≡ true → IsNext IsFirst came n next answered logs
      → IsNext IsFirst came n next true logs
  next_answers n next answered logs up is = record {
    number = is.number;
    came_up = is.came_up;
    answered_up = λ e. up;
    stands = is.stands;
    last = is.last;
  }

  -- ---- a message is put on the leg of number k

  pub used_grows : (c : Channel) (begun : Bool) (message : Message) (logs : NumberLogs)
      → GoesBehind IsFirst c.begun message begun → IsUsed IsFirst came c logs
      → IsUsed IsFirst came (channel c.number c.up begun) (grown_at c.number message logs)
  used_grows c begun message logs behind used = record {
    positive = used.positive;
    above_first = used.above_first;
    came_up = used.came_up;
    stands = subst (Stands IsFirst begun) (sym (at_here c.number message logs))
        (behind (logs c.number) used.stands);
    below = λ k above under.
        subst (λ ms. IsFine IsFirst ms × came k)
        (sym (at_other c.number message logs k (λ e. absurd (omega (arith, e, under)))))
        (used.below k above under);
    none =
        let positive = used.positive in
        at_other c.number message logs 0 (λ e. absurd (omega (arith, e, positive))) ∙ used.none;
  }

  pub used_stays : (c : Channel) (k : ℕ) (message : Message) (logs : NumberLogs)
      → c.number < k → IsUsed IsFirst came c logs → IsUsed IsFirst came c (grown_at k message logs)
  used_stays c k message logs above used = record {
    positive = used.positive;
    above_first = used.above_first;
    came_up = used.came_up;
    stands = subst (Stands IsFirst c.begun)
        (sym (at_other k message logs c.number (λ e. absurd (omega (arith, e, above)))))
        used.stands;
    below = λ j over under.
        subst (λ ms. IsFine IsFirst ms × came j)
        (sym (at_other k message logs j (λ e. absurd (omega (arith, e, under, above)))))
        (used.below j over under);
    none =
        at_other k message logs 0 (λ e. absurd (omega (arith, e, above))) ∙ used.none;
  }

  pub next_grows : (n : ℕ) (next : Channel) (begun answered : Bool) (message : Message)
      (logs : NumberLogs) → GoesBehind IsFirst next.begun message begun
      → IsNext IsFirst came n next answered logs
      → IsNext IsFirst came n (channel next.number next.up begun) answered
      (grown_at next.number message logs)
  next_grows n next begun answered message logs behind is = record {
    number = is.number;
    came_up = is.came_up;
    answered_up = is.answered_up;
    stands = subst (Stands IsFirst begun) (sym (at_here next.number message logs))
        (behind (logs next.number) is.stands);
    last = ends_stay next.number next.number message logs (omega arith) is.last;
  }

  pub next_stays : (n : ℕ) (next : Channel) (answered : Bool) (message : Message)
      (logs : NumberLogs) → IsNext IsFirst came n next answered logs
      → IsNext IsFirst came n next answered (grown_at n message logs)
  next_stays n next answered message logs is =
      let number = is.number in
      record {
        number = is.number;
        came_up = is.came_up;
        answered_up = is.answered_up;
        stands = subst (Stands IsFirst next.begun)
            (sym (at_other n message logs next.number (λ e. absurd (omega (arith, e, number)))))
            is.stands;
        last = ends_stay next.number n message logs (omega (arith, number)) is.last;
      }

  pub followed_stays : (replaced : Bool) (n : ℕ) (next : Channel) (answered : Bool)
      (message : Message) (logs : NumberLogs)
      → IsFollowed IsFirst came replaced n next answered logs
      → IsFollowed IsFirst came replaced n next answered (grown_at n message logs)
  followed_stays true n next answered message logs is =
      next_stays n next answered message logs is
  followed_stays false n next answered message logs is =
      ends_stay n n message logs (omega arith) is

  pub now_put : (f : Front) (begun : Bool) (message : Message) (logs : NumberLogs)
      → GoesBehind IsFirst f.now.begun message begun → IsFront IsFirst came f logs
      → IsFront IsFirst came (record f { now = channel f.now.number f.now.up begun })
      (grown_at f.now.number message logs)
  now_put f begun message logs behind is = (
    used_grows f.now begun message logs behind is.0,
    followed_stays f.replaced f.now.number f.next f.answered message logs is.1,
  )

  pub next_put : (f : Front) (begun : Bool) (message : Message) (logs : NumberLogs)
      → f.replaced ≡ true → GoesBehind IsFirst f.next.begun message begun
      → IsFront IsFirst came f logs
      → IsFront IsFirst came (record f { next = channel f.next.number f.next.up begun })
      (grown_at f.next.number message logs)
  next_put f begun message logs e behind is = (
    stays f.replaced e is.1,
    grows f.replaced e is.1,
  )
    where
      stays : (r : Bool) → r ≡ true
          → IsFollowed IsFirst came r f.now.number f.next f.answered logs
          → IsUsed IsFirst came f.now (grown_at f.next.number message logs)
      stays true e follows =
          let number = follows.number in
          used_stays f.now f.next.number message logs (omega (arith, number)) is.0
      stays false e follows = absurd (cc)

      grows : (r : Bool) → r ≡ true
          → IsFollowed IsFirst came r f.now.number f.next f.answered logs
          → IsFollowed IsFirst came r f.now.number (channel f.next.number f.next.up begun)
          f.answered (grown_at f.next.number message logs)
      grows true e follows =
          next_grows f.now.number f.next begun f.answered message logs behind follows
      grows false e follows = absurd (cc)

  -- ---- what follows of each number

  abbrev pub IsTold : List Message → Type 0 → Type 0
  IsTold messages up = IsFine IsFirst messages × ((messages ≡ []) ⊎ up)

  told : (begun up : Bool) (messages : List Message) (is_up : Type 0)
      → (begun ≡ true → up ≡ true) → (up ≡ true → is_up) → Stands IsFirst begun messages
      → IsTold messages is_up
  told false up messages is_up leads came_up h = (fine IsFirst false messages h, inl h)
  told true up messages is_up leads came_up h =
      (fine IsFirst true messages h, inr (came_up (leads refl)))

  nothing_told : (messages : List Message) (is_up : Type 0) → messages ≡ []
      → IsTold messages is_up
  nothing_told messages is_up none = (inl none, inl none)

  above_told : (replaced : Bool) (n : ℕ) (next : Channel) (answered : Bool) (logs : NumberLogs)
      → IsUpFirst next → IsFollowed IsFirst came replaced n next answered logs → (k : ℕ) → n < k
      → IsTold (logs k) (came k)
  above_told false n next answered logs first is k above =
      nothing_told (logs k) (came k) (is k above)
  above_told true n next answered logs first is k above = elim (cases_eq k next.number) [
    | inl e ↦ subst (λ j. IsTold (logs j) (came j)) (sym e)
        (told next.begun next.up (logs next.number) (came next.number) first is.came_up is.stands)
    | inr other ↦
        let number = is.number in
        nothing_told (logs k) (came k) (is.last k (omega (arith, other, number, above)))
  ]

  below_told : (c : Channel) (logs : NumberLogs) → IsUsed IsFirst came c logs → (k : ℕ)
      → k < c.number → IsTold (logs k) (came k)
  below_told c logs used k under = elim (cases_eq k 0) [
    | inl e ↦ nothing_told (logs k) (came k) (subst (λ j. logs j ≡ []) (sym e) used.none)
    | inr other ↦
        let before = used.below k (omega (arith, other)) under in (before.0, inr before.1)
  ]

  pub each_told : (f : Front) (logs : NumberLogs) → IsUpFirst f.now → IsUpFirst f.next
      → IsFront IsFirst came f logs → (k : ℕ) → IsTold (logs k) (came k)
  each_told f logs now_first next_first is k = elim (cases_lt k f.now.number) [
    | inl under ↦ below_told f.now logs is.0 k under
    | inr over ↦ elim (cases_eq k f.now.number) [
      | inl e ↦ subst (λ j. IsTold (logs j) (came j)) (sym e)
          (told f.now.begun f.now.up (logs f.now.number) (came f.now.number) now_first
          is.0.came_up is.0.stands)
      | inr other ↦
          above_told f.replaced f.now.number f.next f.answered logs next_first is.1 k
          (omega (arith, over, other))
    ]
  ]
