-- what is put on a channel in use, and on its successor, as far as they are
use Rattle.law_order.proofs.Vocabulary.{◌≡◌, ◌⊎◌, ℕ, suc, Bool, true, false, true≢false, List, [], ◌∷◌, ◌++◌, arith, inl, inr, refl, sym, ap, ◌∙◌, subst, false≢true}
use Rattle.law_moves.proofs.Vocabulary.{Cookie, Named, Leg, Message, Text, Packet, OnLeg, of_leg}
use Rattle.law_role_client.proofs.Vocabulary.{Opening, Request, First, Second, Put, is_up, is_asked}
use Rattle.law_role_client.proofs.Sending.Facts.{SeenOut as Channel}
use Rattle.law_role_client_rows.proofs.Putting.Fronts.{HasFirst, IsAt, text_more, first_more, second_more, rest_more, first_is_more, none_is}
use Rattle.law_role_client_rows.proofs.Putting.Channels.{AreSo, puts_now, puts_next, down_none, down_unasked}
use Rattle.law_role_client_rows.specs.Putting.{Direction, leg_of}

module _ (way : Direction) (Comes : Leg → Cookie → Type 0) (Early : Leg → Type 0)
    {x y : Channel} {replaces answered : Bool} {put : List OnLeg}
    (h : AreSo way Comes Early x y replaces answered put) where
  abbrev on : ℕ → List Message
  on n = of_leg (leg_of way n) put

  -- ---- on the channel in use

  abbrev Now : Opening → Message → Type 0
  Now opening m =
      AreSo way Comes Early (record x { opening = opening }) y replaces answered
      (put ++ (leg_of way x.number, m) ∷ [])

  is_now : (opening : Opening) → x.opening ≡ opening → IsAt opening (on x.number)
  is_now opening e = subst (λ (o : Opening). IsAt o (on x.number)) e h.now

  pub text_now : (m : Message) → x.opening ≡ Request → m ≡ Text (way.request 0) → Now First m
  text_now m e is =
      let lowest = h.lowest (ap is_asked e) in
      puts_now way Comes Early h m First (ap is_up e) (λ f. lowest)
      (text_more way Comes Early x.number 0 lowest (on x.number) (is_now Request e) m is)

  pub first_now : (packet : Named) → x.opening ≡ First → packet ≡ way.first x.cookie
      → way.Rest 0 [] → Now Put (Packet packet)
  first_now packet e is rest =
      let lowest = h.lowest (ap is_asked e) in
      let begun = first_more way Comes Early x.number 0 lowest (on x.number) (is_now First e)
      (h.legs.each x.number) packet
      (record {
        own = x.cookie;
        is = is;
        names = subst (λ (n : ℕ). Comes (leg_of way n) x.cookie) lowest (h.up (ap is_up e));
      }) rest in
      puts_now way Comes Early h (Packet packet) Put (ap is_up e) (λ f. absurd (true≢false f))
      (begun.0, first_is_more way Comes Early (on x.number ++ Packet packet ∷ []) begun.1)

  pub more_now : (m : Message) → x.opening ≡ Put
      → ((rest : List Message) → way.Rest h.legs.below rest
      → way.Rest h.legs.below (rest ++ m ∷ []))
      → AreSo way Comes Early x y replaces answered (put ++ (leg_of way x.number, m) ∷ [])
  more_now m e more =
      let so = rest_more way Comes Early x.number h.legs.below h.legs.is (on x.number)
      (is_now Put e) (h.legs.each x.number) m more in
      puts_now way Comes Early h m x.opening (ap is_up e) h.lowest
      (so.0, subst (λ (o : Opening). IsAt o (on x.number ++ m ∷ [])) (sym e) so.1)

  -- ---- on its successor

  abbrev Next : Opening → Message → Type 0
  Next opening m =
      AreSo way Comes Early x (record y { opening = opening }) replaces answered
      (put ++ (leg_of way y.number, m) ∷ [])

  is_next : replaces ≡ true → (opening : Opening) → y.opening ≡ opening
      → IsAt opening (on y.number)
  is_next r opening e = subst (λ (o : Opening). IsAt o (on y.number)) e (h.following r)

  -- its number, and that its leg came up
  number : replaces ≡ true → y.number ≡ suc (suc h.legs.below)
  number r = h.legs.next r ∙ ap suc h.legs.is

  pub next_comes : replaces ≡ true → is_up y.opening ≡ true
      → Comes (leg_of way (suc (suc h.legs.below))) y.cookie
  next_comes r up =
      subst (λ (n : ℕ). Comes (leg_of way n) y.cookie) (number r) (h.next_up up)

  -- what its packet says of the channel in use
  named_before : (on 1 ≡ [] → Early (leg_of way 1))
      → Comes (leg_of way (suc h.legs.below)) x.cookie
      ⊎ ((h.legs.below ≡ 0) × Early (leg_of way 1))
  named_before early = by (is_up x.opening) refl
    where
      by : (b : Bool) → is_up x.opening ≡ b
          → Comes (leg_of way (suc h.legs.below)) x.cookie
          ⊎ ((h.legs.below ≡ 0) × Early (leg_of way 1))
      by true e = inl (subst (λ (n : ℕ). Comes (leg_of way n) x.cookie) h.legs.is (h.up e))
      by false e =
          let lowest = h.lowest (down_unasked x.opening e) in
          let is = h.legs.is in
          inr (
            omega (arith, is, lowest),
            early
                (subst (λ (n : ℕ). on n ≡ []) lowest
                (none_is (on x.number) (down_none x.opening (on x.number) e h.now))),
          )

  pub text_next : (m : Message) → replaces ≡ true → y.opening ≡ Request
      → m ≡ Text (way.request (suc h.legs.below)) → Next First m
  text_next m r e is =
      puts_next way Comes Early h m First r (ap is_up e)
      (λ f. absurd (false≢true (sym (ap is_asked e) ∙ f)))
      (text_more way Comes Early y.number (suc h.legs.below) (number r) (on y.number)
      (is_next r Request e) m is)

  -- its packet, behind which it is so far
  pub first_next : (packet : Named) (opening : Opening) → replaces ≡ true → y.opening ≡ First
      → packet ≡ way.next x.cookie y.cookie → way.Rest (suc h.legs.below) []
      → (on 1 ≡ [] → Early (leg_of way 1)) → is_asked opening ≡ true
      → ((ms : List Message) → HasFirst ms → IsAt opening ms) → Next opening (Packet packet)
  first_next packet opening r e is rest early asked so =
      let begun = first_more way Comes Early y.number (suc h.legs.below) (number r) (on y.number)
      (is_next r First e) (h.legs.each y.number) packet
      (record {
        before = x.cookie;
        own = y.cookie;
        is = is;
        names = next_comes r (ap is_up e);
        follows = named_before early;
      }) rest in
      puts_next way Comes Early h (Packet packet) opening r (ap is_up e) (λ f. asked)
      (begun.0, so (on y.number ++ Packet packet ∷ []) begun.1)

  pub second_next : (m : Message) → replaces ≡ true → y.opening ≡ Second
      → way.Rest (suc h.legs.below) (m ∷ []) → Next Put m
  second_next m r e rest =
      puts_next way Comes Early h m Put r (ap is_up e) (λ f. refl)
      (second_more way Comes Early y.number (suc h.legs.below) (number r) (on y.number)
      (is_next r Second e) (h.legs.each y.number) m rest)

  pub more_next : (m : Message) → replaces ≡ true → y.opening ≡ Put
      → ((rest : List Message) → way.Rest (suc h.legs.below) rest
      → way.Rest (suc h.legs.below) (rest ++ m ∷ []))
      → AreSo way Comes Early x y replaces answered (put ++ (leg_of way y.number, m) ∷ [])
  more_next m r e more =
      let so = rest_more way Comes Early y.number (suc h.legs.below) (number r) (on y.number)
      (is_next r Put e) (h.legs.each y.number) m more in
      puts_next way Comes Early h m y.opening r (ap is_up e) (λ f. f)
      (so.0, subst (λ (o : Opening). IsAt o (on y.number ++ m ∷ [])) (sym e) so.1)
