-- a message more in a log: what began, what came, and up to where was told
use Rattle.law_order.proofs.Vocabulary.{◌≡◌, ◌⊎◌, ℕ, ◌≤◌, nat_le, Bool, true, false, if◌then◌else◌, List, [], ◌∷◌, ◌++◌, inl, inr, arith, refl, sym, ap, ◌∙◌, subst, max, nat_tests}
use Rattle.law_moves.proofs.Vocabulary.{test_same, Cookie, Named, ConnC2, InR1A4, AckTo, Leg, LegKind, ClientOut, Message, Text, Pdu, Packet, same_leg, OnLeg, of_leg, pdu_bytes, Has, HasOn, HasOne}
use Rattle.law_moves.proofs.Lemmas.{leg_more, has_more, has_last, bytes_append, other_more as leg_other}
use Rattle.law_role_client.proofs.Vocabulary.{co, TellsEdge, IsWithin}

-- ---- on a leg

-- on the leg itself, and on another
pub leg_by : (leg : Leg) (log : List OnLeg) (one : OnLeg) (b : Bool) → same_leg one.0 leg ≡ b
    → of_leg leg (log ++ one ∷ []) ≡ of_leg leg log ++ (if b then one.1 ∷ [] else [])
leg_by leg log one b e =
    leg_more leg log one
    ∙ ap (λ (t : Bool). of_leg leg log ++ (if t then one.1 ∷ [] else [])) e

pub leg_here : (leg : Leg) (log : List OnLeg) (one : OnLeg) → same_leg one.0 leg ≡ true
    → of_leg leg (log ++ one ∷ []) ≡ of_leg leg log ++ one.1 ∷ []
leg_here leg log one e = leg_by leg log one true e

-- no bytes of RPC PDUs more
pub bytes_stay : (leg : Leg) (log : List OnLeg) (one : OnLeg) → pdu_bytes (one.1 ∷ []) ≡ 0
    → pdu_bytes (of_leg leg (log ++ one ∷ [])) ≡ pdu_bytes (of_leg leg log)
bytes_stay leg log one none =
    by (same_leg one.0 leg) refl
  where
    by : (b : Bool) → same_leg one.0 leg ≡ b
        → pdu_bytes (of_leg leg (log ++ one ∷ [])) ≡ pdu_bytes (of_leg leg log)
    by true e =
        let all = bytes_append (of_leg leg log) (one.1 ∷ []) in
        let sum : pdu_bytes (of_leg leg log ++ one.1 ∷ []) ≡ pdu_bytes (of_leg leg log) =
        omega (arith, all, none) in
        ap pdu_bytes (leg_here leg log one e) ∙ sum
    by false e = ap pdu_bytes (leg_other leg log one e)

-- ---- packets that are so

one_of_both : (P : Named → Type 0) (a b : List Message) → HasOne P (a ++ b)
    → HasOne P a ⊎ HasOne P b
one_of_both P [] b h = inr h
one_of_both P (Text bytes ∷ a) b h = one_of_both P a b h
one_of_both P (Pdu pdu ∷ a) b h = one_of_both P a b h
one_of_both P (Packet named ∷ a) b (inl is) = inl (inl is)
one_of_both P (Packet named ∷ a) b (inr rest) = by (one_of_both P a b rest)
  where
    by : HasOne P a ⊎ HasOne P b → (P named ⊎ HasOne P a) ⊎ HasOne P b
    by (inl here) = inl (inr here)
    by (inr there) = inr there

-- one that is so was there, or is the last
pub one_was : (P : Named → Type 0) (leg : Leg) (log : List OnLeg) (one : OnLeg)
    → HasOne P (of_leg leg (log ++ one ∷ []))
    → HasOne P (of_leg leg log) ⊎ ((same_leg one.0 leg ≡ true) × HasOne P (one.1 ∷ []))
one_was P leg log one h =
    by (same_leg one.0 leg) refl
  where
    by : (b : Bool) → same_leg one.0 leg ≡ b
        → HasOne P (of_leg leg log) ⊎ ((same_leg one.0 leg ≡ true) × HasOne P (one.1 ∷ []))
    by true e =
        last (one_of_both P (of_leg leg log) (one.1 ∷ [])
        (subst (λ (ms : List Message). HasOne P ms) (leg_here leg log one e) h))
      where
        last : HasOne P (of_leg leg log) ⊎ HasOne P (one.1 ∷ [])
            → HasOne P (of_leg leg log) ⊎ ((same_leg one.0 leg ≡ true) × HasOne P (one.1 ∷ []))
        last (inl before) = inl before
        last (inr now) = inr (e, now)
    by false e = inl (subst (λ (ms : List Message). HasOne P ms) (leg_other leg log one e) h)

-- ---- packets that came

pub on_more : (kind : LegKind) (named : Named) (log : List OnLeg) (one : OnLeg)
    → HasOn kind named log → HasOn kind named (log ++ one ∷ [])
on_more kind named log one (n, has) =
    let leg : Leg = record { kind = kind; number = n } in (
      n,
      subst (λ (ms : List Message). Has named ms) (sym (leg_more leg log one))
          (has_more named (of_leg leg log) (of_leg leg (one ∷ [])) has),
    )

pub on_last : (n : ℕ) (named : Named) (log : List OnLeg)
    → HasOn ClientOut named (log ++ (co n, Packet named) ∷ [])
on_last n named log = (
  n,
  subst (λ (ms : List Message). Has named ms)
      (sym (leg_here (co n) log (co n, Packet named) (test_same n)))
      (has_last named (of_leg (co n) log)),
)

-- ---- within what was told

tells_so : (P Q : Cookie → Type 0) → ((x : Cookie) → P x → Q x) → (packet : Named) (edge : ℕ)
    → TellsEdge P packet edge → TellsEdge Q packet edge
tells_so P Q so (ConnC2 version window timeout) edge h = h
tells_so P Q so (InR1A4 to version window timeout) edge h = h
tells_so P Q so (AckTo to received available cookie) edge h = (h.0, h.1, so cookie h.2)
tells_so P Q so packet edge h = absurd h

pub within_so : (P Q : Cookie → Type 0) (came : List OnLeg) (bytes : ℕ)
    → ((x : Cookie) → P x → Q x) → IsWithin P came bytes → IsWithin Q came bytes
within_so P Q came bytes so (inl none) = inl none
within_so P Q came bytes so (inr h) = inr (record {
  packet = h.packet;
  edge = h.edge;
  on = h.on;
  tells = tells_so P Q so h.packet h.edge h.tells;
  within = h.within;
})

pub within_more : (P : Cookie → Type 0) (came : List OnLeg) (one : OnLeg) (bytes : ℕ)
    → IsWithin P came bytes → IsWithin P (came ++ one ∷ []) bytes
within_more P came one bytes (inl none) = inl none
within_more P came one bytes (inr h) = inr (record {
  packet = h.packet;
  edge = h.edge;
  on = on_more ClientOut h.packet came one h.on;
  tells = h.tells;
  within = h.within;
})

pub within_less : (P : Cookie → Type 0) (came : List OnLeg) (bytes less : ℕ) → less ≤ bytes
    → IsWithin P came bytes → IsWithin P came less
within_less P came bytes less l (inl none) = inl (omega (arith, l, none))
within_less P came bytes less l (inr h) = inr (record {
  packet = h.packet;
  edge = h.edge;
  on = h.on;
  tells = h.tells;
  within = let within = h.within in omega (arith, l, within);
})

pub within_both : (P : Cookie → Type 0) (came : List OnLeg) (a b : ℕ) → IsWithin P came a
    → IsWithin P came b → IsWithin P came (max a b)
within_both P came a b h k =
    by (nat_le a b) refl
  where
    by : (t : Bool) → nat_le a b ≡ t → IsWithin P came (max a b)
    by true e = within_less P came b (max a b) (grind (arith, nat_tests, e)) k
    by false e = within_less P came a (max a b) (grind (arith, nat_tests, e)) h

-- the packet that came last tells the edge
pub within_last : (P : Cookie → Type 0) (n : ℕ) (came : List OnLeg) (packet : Named) (edge : ℕ)
    → TellsEdge P packet edge → IsWithin P (came ++ (co n, Packet packet) ∷ []) edge
within_last P n came packet edge tells = inr (record {
  packet = packet;
  edge = edge;
  on = on_last n packet came;
  tells = tells;
  within = omega arith;
})
