-- what may be next of what a client puts on the leg of an OUT channel
use Rattle.law_order.proofs.Vocabulary.{◌≡◌, ◌⊎◌, inl, inr, ℕ, zero, suc, List, [], ◌∷◌, ◌++◌, refl, ap, ◌∙◌, subst, IsPrefix}
use Rattle.law_moves.proofs.Vocabulary.{Cookie, Named, ConnA1, OutR1A3, OutR2C1, ClientConfig, out_request, Leg, Message, Text, Pdu, Packet, all_read_of}
use Rattle.law_role_client_rows.specs.Putting.{Begins, IsChannel, OutRest, out_length, out_way}

-- ---- the next of a short list

not_none : (came : List Message) (m : Message) (rest : List Message)
    → (came ++ m ∷ []) ++ rest ≡ [] → ⊥
not_none [] m rest e = absurd cc
not_none (c ∷ came) m rest e = absurd cc

one_ahead : (came : List Message) (m x : Message) → IsPrefix (came ++ m ∷ []) (x ∷ [])
    → (came ≡ []) × (m ≡ x)
one_ahead [] m x (rest, e) = (refl, cc)
one_ahead (c ∷ came) m x (rest, e) = absurd (not_none came m rest cc)

two_ahead : (came : List Message) (m x y : Message) → IsPrefix (came ++ m ∷ []) (x ∷ y ∷ [])
    → ((came ≡ []) × (m ≡ x)) ⊎ ((came ≡ x ∷ []) × (m ≡ y))
two_ahead [] m x y (rest, e) = inl (refl, cc)
two_ahead (c ∷ came) m x y (rest, e) =
    let first : c ≡ x = cc in
    let next = one_ahead came m y (rest, cc) in
    inr (ap (λ (l : List Message). c ∷ l) next.0 ∙ ap (λ (z : Message). z ∷ []) first, next.1)

-- ---- of a channel

-- CONN/A1 comes first
pub record IsNewNext (n : ℕ) (came : List Message) (m : Message) : Type 0 where
  pub number : n ≡ 1
  pub none : came ≡ []
  pub version : ℕ
  pub connection : Cookie
  pub channel : Cookie
  pub window : ℕ
  pub is : m ≡ Packet (ConnA1 version connection channel window)

-- or OUT_R1/A3 does
pub record IsSuccessorNext (n : ℕ) (came : List Message) (m : Message) : Type 0 where
  pub below : ℕ
  pub number : n ≡ suc (suc below)
  pub none : came ≡ []
  pub version : ℕ
  pub connection : Cookie
  pub predecessor : Cookie
  pub channel : Cookie
  pub window : ℕ
  pub is : m ≡ Packet (OutR1A3 version connection predecessor channel window)

-- and behind it OUT_R2/C1
pub record IsSecondNext (came : List Message) (m : Message) : Type 0 where
  pub version : ℕ
  pub connection : Cookie
  pub predecessor : Cookie
  pub channel : Cookie
  pub window : ℕ
  pub behind : came ≡ Packet (OutR1A3 version connection predecessor channel window) ∷ []
  pub is : m ≡ Packet OutR2C1

abbrev pub IsNext : ℕ → List Message → Message → Type 0
IsNext n came m = IsNewNext n came m ⊎ (IsSuccessorNext n came m ⊎ IsSecondNext came m)

module _ (config : ClientConfig) (Comes : Leg → Cookie → Type 0) (Early : Leg → Type 0)
    (came : List Message) (m : Message) where
  abbrev Fronts : List Message → Type 0
  Fronts put = IsPrefix (came ++ m ∷ []) (all_read_of put)

  none_next : (n : ℕ) → Fronts [] → IsNext n came m
  none_next n front = absurd (not_none came m front.0 front.1)

  new_next : (packet : Named) (rest : List Message) → Begins (out_way config) Comes Early 0 packet
      → rest ≡ [] → Fronts (Packet packet ∷ rest) → IsNext 1 came m
  new_next packet rest begins none front =
      let at = one_ahead came m (Packet ((out_way config).first begins.own))
      (subst (λ (x : Named). Fronts (Packet x ∷ [])) begins.is
      (subst (λ (l : List Message). Fronts (Packet packet ∷ l)) none front)) in
      inl (record {
        number = refl;
        none = at.0;
        version = _;
        connection = _;
        channel = _;
        window = _;
        is = at.1;
      })

  successor_next : (n : ℕ) (packet : Named) (rest : List Message)
      → Begins (out_way config) Comes Early (suc n) packet → OutRest (suc n) rest
      → Fronts (Packet packet ∷ rest) → IsNext (suc (suc n)) came m
  successor_next n packet rest begins (inl none) front =
      let at = one_ahead came m (Packet ((out_way config).next begins.before begins.own))
      (subst (λ (x : Named). Fronts (Packet x ∷ [])) begins.is
      (subst (λ (l : List Message). Fronts (Packet packet ∷ l)) none front)) in
      inr (inl (record {
        below = n;
        number = refl;
        none = at.0;
        version = _;
        connection = _;
        predecessor = _;
        channel = _;
        window = _;
        is = at.1;
      }))
  successor_next n packet rest begins (inr second) front =
      by (two_ahead came m (Packet ((out_way config).next begins.before begins.own))
      (Packet OutR2C1)
      (subst (λ (x : Named). Fronts (Packet x ∷ Packet OutR2C1 ∷ [])) begins.is
      (subst (λ (l : List Message). Fronts (Packet packet ∷ l)) second front)))
    where
      by : ((came ≡ []) × (m ≡ Packet ((out_way config).next begins.before begins.own)))
          ⊎ ((came ≡ Packet ((out_way config).next begins.before begins.own) ∷ [])
          × (m ≡ Packet OutR2C1)) → IsNext (suc (suc n)) came m
      by (inl at) = inr (inl (record {
        below = n;
        number = refl;
        none = at.0;
        version = _;
        connection = _;
        predecessor = _;
        channel = _;
        window = _;
        is = at.1;
      }))
      by (inr at) = inr (inr (record {
        version = _;
        connection = _;
        predecessor = _;
        channel = _;
        window = _;
        behind = at.0;
        is = at.1;
      }))

  behind_text : (n : ℕ) (put : List Message) (text : Message)
      → text ≡ Text (out_request config (out_length n)) → Fronts (text ∷ put) → Fronts put
  behind_text n put text is front = subst (λ (t : Message). Fronts (t ∷ put)) is front

  pub channel_next : (n : ℕ) (put : List Message) → IsChannel (out_way config) Comes Early n put
      → Fronts put → IsNext n came m
  channel_next zero put is front = none_next 0 (subst Fronts is front)
  channel_next (suc n) [] is front = none_next (suc n) front
  channel_next (suc n) (text ∷ []) is front = none_next (suc n) (behind_text n [] text is front)
  channel_next (suc n) (text ∷ Text bytes ∷ rest) is front = absurd is.1
  channel_next (suc n) (text ∷ Pdu bytes ∷ rest) is front = absurd is.1
  channel_next (suc zero) (text ∷ Packet packet ∷ rest) is front =
      new_next packet rest is.1 is.2 (behind_text 0 (Packet packet ∷ rest) text is.0 front)
  channel_next (suc (suc n)) (text ∷ Packet packet ∷ rest) is front =
      successor_next n packet rest is.1 is.2
      (behind_text (suc n) (Packet packet ∷ rest) text is.0 front)
