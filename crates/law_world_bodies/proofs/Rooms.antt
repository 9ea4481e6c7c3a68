-- how much room is left of the length that a head told: on the channels of one direction at a
-- client, the one in use and its successor while it is replaced
use Rattle.law_order.proofs.Vocabulary.{◌≡◌, ◌≢◌, ◌⊎◌, ℕ, suc, ◌+◌, ◌<◌, ◌≤◌, Bool, true, false, List, [], ◌∷◌, ◌++◌, inl, inr, arith, sym, subst, cases_lt, cases_eq, more}
use Rattle.law_moves.proofs.Vocabulary.{more_here, more_other, Message, Text, Pdu, Packet}
use Rattle.law_node_begins.proofs.EndsBegin.Stands.{NumberLogs, EndsAt}
use Rattle.law_world_bodies.proofs.Sizes.{size, total, total_push}

-- its number, whether its head was put, and the room that is left
pub record Channel : Type 0 where
  pub number : ℕ
  pub begun : Bool
  pub room : ℕ

abbrev pub channel : ℕ → Bool → ℕ → Channel
channel number begun room = record { number = number; begun = begun; room = room }

pub record Front : Type 0 where
  pub now : Channel
  -- it is replaced, by the next one
  pub replaced : Bool
  pub next : Channel

-- for heads that tell lengths, and the greatest of these
module _ (Tells : ℕ → List ℕ → Type 0) (most : ℕ) where
  -- ---- on one leg

  -- a head, and behind it messages that leave so much of its length
  abbrev pub HasRoom : ℕ → List Message → Type 0
  HasRoom room [] = ⊥
  HasRoom room (Text text ∷ messages) =
      (told : ℕ) × Tells told text × (total messages + room ≤ told)
  HasRoom room (Pdu pdu ∷ messages) = ⊥
  HasRoom room (Packet named ∷ messages) = ⊥

  -- by whether the head was put
  abbrev pub Stands : Bool → ℕ → List Message → Type 0
  Stands false room messages = (messages ≡ []) × (room ≤ most)
  Stands true room messages = HasRoom room messages

  abbrev pub Fits : List Message → Type 0
  Fits messages = (messages ≡ []) ⊎ HasRoom 0 messages

  pub head_put : (told room : ℕ) (text : List ℕ) (messages : List Message) → Tells told text
      → room ≤ told → messages ≡ [] → HasRoom room (messages ++ Text text ∷ [])
  head_put told room text [] tells fits none = (told, tells, omega (arith, fits))
  head_put told room text (m ∷ messages) tells fits none = absurd (cc)

  pub more_put : (room left : ℕ) (m : Message) (messages : List Message) → size m + left ≤ room
      → HasRoom room messages → HasRoom left (messages ++ m ∷ [])
  more_put room left m [] fits h = absurd h
  more_put room left m (Text text ∷ messages) fits h = (
    h.0,
    h.1,
    omega (arith, h.2, fits, total_push messages m),
  )
  more_put room left m (Pdu pdu ∷ messages) fits h = absurd h
  more_put room left m (Packet named ∷ messages) fits h = absurd h

  less_left : (room left : ℕ) (messages : List Message) → left ≤ room → HasRoom room messages
      → HasRoom left messages
  less_left room left [] less h = absurd h
  less_left room left (Text text ∷ messages) less h = (h.0, h.1, omega (arith, h.2, less))
  less_left room left (Pdu pdu ∷ messages) less h = absurd h
  less_left room left (Packet named ∷ messages) less h = absurd h

  less_stands : (begun : Bool) (room left : ℕ) (messages : List Message) → left ≤ room
      → Stands begun room messages → Stands begun left messages
  less_stands false room left messages less h = (h.0, omega (arith, h.1, less))
  less_stands true room left messages less h = less_left room left messages less h

  fits : (begun : Bool) (room : ℕ) (messages : List Message) → Stands begun room messages
      → Fits messages
  fits false room messages h = inl h.0
  fits true room messages h = inr (less_left room 0 messages (omega arith) h)

  -- ---- on the legs of all channels

  pub record IsUsed (c : Channel) (logs : NumberLogs) : Type 0 where
    pub stands : Stands c.begun c.room (logs c.number)
    pub below : (k : ℕ) → k < c.number → Fits (logs k)

  -- the next channel has the next number
  pub record IsNext (n : ℕ) (next : Channel) (logs : NumberLogs) : Type 0 where
    pub number : next.number ≡ suc n
    pub stands : Stands next.begun next.room (logs next.number)
    pub last : EndsAt next.number logs

  abbrev pub IsFollowed : Bool → ℕ → Channel → NumberLogs → Type 0
  IsFollowed true n next logs = IsNext n next logs
  IsFollowed false n next logs = EndsAt n logs

  abbrev pub IsFront : Front → NumberLogs → Type 0
  IsFront f logs = IsUsed f.now logs × IsFollowed f.replaced f.now.number f.next logs

  -- where it is not replaced
  abbrev pub IsLast : Channel → NumberLogs → Type 0
  IsLast c logs = IsUsed c logs × EndsAt c.number logs

  -- ---- replacement

  pub next_begins : (c : Channel) (room : ℕ) (logs : NumberLogs) → room ≤ most
      → EndsAt c.number logs → IsNext c.number (channel (c.number + 1) false room) logs
  next_begins c room logs within ends = record {
    number = omega arith;
    stands = (ends (c.number + 1) (omega arith), within);
    last = λ k above. ends k (omega (arith, above));
  }

  -- the next channel takes the place of the one in use
  pub hands_over : (c next : Channel) (room : ℕ) (logs : NumberLogs) → room ≤ next.room
      → IsUsed c logs → IsNext c.number next logs
      → IsLast (channel next.number next.begun room) logs
  hands_over c next room logs less used is = (
    record {
      stands = less_stands next.begun next.room room (logs next.number) less is.stands;
      below = λ k under. before k under (cases_eq k c.number);
    },
    is.last,
  )
    where
      before : (k : ℕ) → k < next.number → (k ≡ c.number) ⊎ (k ≢ c.number) → Fits (logs k)
      before k under (inl e) =
          subst (λ n. Fits (logs n)) (sym e) (fits c.begun c.room (logs c.number) used.stands)
      before k under (inr other) =
          let number = is.number in used.below k (omega (arith, other, number, under))

  -- ---- a message is put

  -- behind what stands there
  abbrev pub GoesBehind : Bool → ℕ → Message → Bool → ℕ → Type 0
  GoesBehind before room m behind left =
      (messages : List Message) → Stands before room messages
      → Stands behind left (messages ++ m ∷ [])

  abbrev one_more : ℕ → Message → NumberLogs → NumberLogs
  one_more n m logs = more n (m ∷ []) logs

  stays : (n k : ℕ) (m : Message) (logs : NumberLogs) (P : List Message → Type 0) → k ≢ n
      → P (logs k) → P (one_more n m logs k)
  stays n k m logs P other h = subst P (sym (more_other n (m ∷ []) logs k other)) h

  used_grows : (c : Channel) (begun : Bool) (left : ℕ) (m : Message) (logs : NumberLogs)
      → GoesBehind c.begun c.room m begun left → IsUsed c logs
      → IsUsed (channel c.number begun left) (one_more c.number m logs)
  used_grows c begun left m logs behind used = record {
    stands =
        subst (Stands begun left) (sym (more_here c.number (m ∷ []) logs))
        (behind (logs c.number) used.stands);
    below = λ k under.
        stays c.number k m logs Fits (λ e. absurd (omega (arith, e, under)))
        (used.below k under);
  }

  used_stays : (c : Channel) (n : ℕ) (m : Message) (logs : NumberLogs) → c.number < n
      → IsUsed c logs → IsUsed c (one_more n m logs)
  used_stays c n m logs above used = record {
    stands =
        stays n c.number m logs (Stands c.begun c.room) (λ e. absurd (omega (arith, e, above)))
        used.stands;
    below = λ k under.
        stays n k m logs Fits (λ e. absurd (omega (arith, e, under, above)))
        (used.below k under);
  }

  ends_stay : (last n : ℕ) (m : Message) (logs : NumberLogs) → n ≤ last → EndsAt last logs
      → EndsAt last (one_more n m logs)
  ends_stay last n m logs under ends k above =
      stays n k m logs (λ ms. ms ≡ []) (λ e. absurd (omega (arith, e, above, under)))
      (ends k above)

  followed_stays : (replaced : Bool) (n : ℕ) (next : Channel) (m : Message) (logs : NumberLogs)
      → IsFollowed replaced n next logs → IsFollowed replaced n next (one_more n m logs)
  followed_stays true n next m logs is =
      let number = is.number in
      record {
        number = is.number;
        stands =
            stays n next.number m logs (Stands next.begun next.room)
            (λ e. absurd (omega (arith, e, number))) is.stands;
        last = ends_stay next.number n m logs (omega (arith, number)) is.last;
      }
  followed_stays false n next m logs is = ends_stay n n m logs (omega arith) is

  pub now_put : (f : Front) (begun : Bool) (left : ℕ) (m : Message) (logs : NumberLogs)
      → GoesBehind f.now.begun f.now.room m begun left → IsFront f logs
      → IsFront (record f { now = channel f.now.number begun left })
      (one_more f.now.number m logs)
  now_put f begun left m logs behind is = (
    used_grows f.now begun left m logs behind is.0,
    followed_stays f.replaced f.now.number f.next m logs is.1,
  )

  pub next_put : (f : Front) (begun : Bool) (left : ℕ) (m : Message) (logs : NumberLogs)
      → f.replaced ≡ true → GoesBehind f.next.begun f.next.room m begun left → IsFront f logs
      → IsFront (record f { next = channel f.next.number begun left })
      (one_more f.next.number m logs)
  next_put f begun left m logs e behind is = by f.replaced e is.1
    where
      by : (r : Bool) → r ≡ true → IsFollowed r f.now.number f.next logs
          → IsUsed f.now (one_more f.next.number m logs)
          × IsFollowed r f.now.number (channel f.next.number begun left)
          (one_more f.next.number m logs)
      by false e follows = absurd (cc)
      by true e follows =
          let number = follows.number in (
            used_stays f.now f.next.number m logs (omega (arith, number)) is.0,
            record {
              number = follows.number;
              stands =
                  subst (Stands begun left) (sym (more_here f.next.number (m ∷ []) logs))
                  (behind (logs f.next.number) follows.stands);
              last = ends_stay f.next.number f.next.number m logs (omega arith) follows.last;
            },
          )

  -- ---- what follows of each number

  pub each_fits : (f : Front) (logs : NumberLogs) → IsFront f logs → (k : ℕ) → Fits (logs k)
  each_fits f logs is k = elim (cases_lt k f.now.number) [
    | inl under ↦ is.0.below k under
    | inr over ↦ elim (cases_eq k f.now.number) [
      | inl e ↦ subst (λ n. Fits (logs n)) (sym e)
          (fits f.now.begun f.now.room (logs f.now.number) is.0.stands)
      | inr other ↦ above f.replaced is.1 (omega (arith, over, other))
    ]
  ]
    where
      above : (r : Bool) → IsFollowed r f.now.number f.next logs → f.now.number < k
          → Fits (logs k)
      above false follows over = inl (follows k over)
      above true follows over = elim (cases_eq k f.next.number) [
        | inl e ↦ subst (λ n. Fits (logs n)) (sym e)
            (fits f.next.begun f.next.room (logs f.next.number) follows.stands)
        | inr other ↦
            let number = follows.number in
            inl (follows.last k (omega (arith, other, number, over)))
      ]
