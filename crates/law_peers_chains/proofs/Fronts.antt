-- what a front of the messages of a leg tells of it
use Rattle.law_order.proofs.Vocabulary.{◌≡◌, ◌⊎◌, ℕ, zero, suc, ◌≤◌, Bool, true, false, if◌then◌else◌, List, [], ◌∷◌, ◌++◌, Some, None, inl, inr, refl, sym, ap, ◌∙◌, subst, arith, IsPrefix}
use Rattle.std.specs.declared.option.Option.{Option}
use Rattle.rh_audit.specs.declared.packet.First.{First}
use Rattle.rh_audit.specs.declared.packet.Met.{Met}
use Rattle.rh_audit.specs.declared.packet.Met.TheVariants as met
use Rattle.rh_audit.specs.Chains.{newest_of}
use Rattle.rh_audit.specs.Packets.{first_of, renewed_by}
use Rattle.rh_audit.specs.Streams.{first_among, later, renewed}
use Rattle.law_moves.proofs.Vocabulary.{Cookie, Named, InR2A2, Message, Text, Pdu, Packet, count_of, HasOne}
use Rattle.law_moves.proofs.Lemmas.{count_rises, one_more_so}
use Rattle.law_role_server.proofs.Vocabulary.{is_in_r2_a2}
use Rattle.law_audit.specs.Chains.Successors.{newest}
use Rattle.law_peers_moments.proofs.Read.{front_one}
use Rattle.law_peers_in_channels.proofs.ServerExpects.Logs.{some_counted}
use Rattle.law_peers_chains.specs.Shown.{IsShown, framed, mets_of, packet_of}

-- ---- what begins a leg

-- a leg that connects, and one that replaces another
abbrev pub new : Cookie → First
new own = record { own = own; predecessor = None }

abbrev pub next : Cookie → Cookie → First
next before own = record { own = own; predecessor = Some before }

-- the packet begins a leg, as this says
abbrev pub Begins : First → Named → Type 0
Begins begun named = first_of (packet_of named) ≡ Some begun

pub first_one : (ms : List Message) (begun : First) → first_among (mets_of ms) ≡ Some begun
    → HasOne (Begins begun) ms
first_one [] begun h = absurd (let both = h in cc)
first_one (Text bytes ∷ ms) begun h = first_one ms begun h
first_one (Pdu pdu ∷ ms) begun h = absurd (let both = h in cc)
first_one (Packet m ∷ ms) begun h = inl h

-- ---- frames of what was put

framed_one : (P : Named → Type 0) (put : List Message) → HasOne P (framed put) → HasOne P put
framed_one P [] has = has
framed_one P (Text bytes ∷ put) has = framed_one P put has
framed_one P (Pdu pdu ∷ put) has = framed_one P put has
framed_one P (Packet m ∷ put) (inl is) = inl is
framed_one P (Packet m ∷ put) (inr has) = inr (framed_one P put has)

pub shown_one : (P : Named → Type 0) (front put : List Message) → IsPrefix front (framed put)
    → HasOne P front → HasOne P put
shown_one P front put p has =
    framed_one P put (subst (HasOne P) p.1 (one_more_so P front p.0 has))

framed_count : (test : Named → Bool) (put : List Message)
    → count_of test (framed put) ≡ count_of test put
framed_count test [] = refl
framed_count test (Text bytes ∷ put) = framed_count test put
framed_count test (Pdu pdu ∷ put) = framed_count test put
framed_count test (Packet m ∷ put) =
    ap (λ (k : ℕ). if test m then suc k else k) (framed_count test put)

pub shown_count : (test : Named → Bool) (front put : List Message)
    → IsPrefix front (framed put) → count_of test front ≤ count_of test put
shown_count test front put p =
    let more = count_rises test front p.0 in
    let all = ap (count_of test) p.1 in
    let same = framed_count test put in omega (arith, more, all, same)

-- ---- what a leg begins with

-- nothing was put but texts, or a packet that begins a leg is the first frame
abbrev pub Starts : List Message → Type 0
Starts put =
    (framed put ≡ [])
    ⊎ ((m : Named) × (rest : List Message) × (begun : First) × (framed put ≡ Packet m ∷ rest)
    × Begins begun m)

abbrev pub IsMet : List Message → Type 0
IsMet front = (begun : First) × (first_among (mets_of front) ≡ Some begun)

-- where a packet was seen, the first was met
pub first_met : (P : Named → Type 0) (front put : List Message) → Starts put
    → IsPrefix front (framed put) → HasOne P front → IsMet front
first_met P [] put starts p has = absurd has
first_met P (x ∷ front) put (inl none) p has =
    absurd (let both : x ∷ (front ++ p.0) ≡ [] = p.1 ∙ none in cc)
first_met P (x ∷ front) put (inr starts) p has =
    let both : x ∷ (front ++ p.0) ≡ Packet starts.0 ∷ starts.1 = p.1 ∙ starts.3 in
    let same : x ≡ Packet starts.0 = cc in (
      starts.2,
      ap (λ (y : Message). first_among (mets_of (y ∷ front))) same ∙ starts.4,
    )

-- ---- cookies that a channel got anew

none_anew : (m : Named) → is_in_r2_a2 m ≡ false → renewed_by (met.Packet (packet_of m)) ≡ None
none_anew (InR2A2 successor) e = absurd (let both = e in cc)
none_anew m e = refl

pub renewed_none : (found : Option Cookie) (ms : List Message) → count_of is_in_r2_a2 ms ≡ 0
    → renewed found (mets_of ms) ≡ found
renewed_none found [] none = refl
renewed_none found (Text bytes ∷ ms) none = renewed_none found ms none
renewed_none found (Pdu pdu ∷ ms) none = renewed_none found ms none
renewed_none found (Packet m ∷ ms) none =
    by (is_in_r2_a2 m) refl none (renewed_none found ms)
  where
    by : (b : Bool) → is_in_r2_a2 m ≡ b
        → (if b then suc (count_of is_in_r2_a2 ms) else count_of is_in_r2_a2 ms) ≡ 0
        → (count_of is_in_r2_a2 ms ≡ 0 → renewed found (mets_of ms) ≡ found)
        → renewed (later found (renewed_by (met.Packet (packet_of m)))) (mets_of ms) ≡ found
    by true e some rest = absurd (omega (arith, some))
    by false e none rest =
        ap (λ (o : Option Cookie). renewed (later found o) (mets_of ms)) (none_anew m e)
        ∙ rest none

-- ---- a leg of which a front was seen

abbrev pub IsInR2A2 : Named → Type 0
IsInR2A2 (InR2A2 successor) = Unit {0}
IsInR2A2 packet = ⊥

passes_in_r2_a2 : (m : Named) → is_in_r2_a2 m ≡ true → IsInR2A2 m
passes_in_r2_a2 (InR2A2 successor) e = tt
passes_in_r2_a2 m e = absurd cc

-- any packet
abbrev pub IsAny : Named → Type 0
IsAny packet = Unit {0}

pub none_counted : (ms : List Message) → (HasOne IsInR2A2 ms → ⊥) → count_of is_in_r2_a2 ms ≡ 0
none_counted ms none = by (count_of is_in_r2_a2 ms) refl
  where
    by : (k : ℕ) → count_of is_in_r2_a2 ms ≡ k → k ≡ 0
    by zero e = refl
    by (suc k) e =
        absurd (none (some_counted IsInR2A2 is_in_r2_a2 passes_in_r2_a2 ms (omega (arith, e))))

module _ (put came : List Message) (mets : List Met) (shown : IsShown put came mets) where
  -- the first packet was put
  pub begins_put : (begun : First) → first_among mets ≡ Some begun → HasOne (Begins begun) put
  begins_put begun met =
      shown_one (Begins begun) shown.front put shown.of_put
      (first_one shown.front begun (ap first_among (sym shown.is) ∙ met))

  -- where a packet came, the first was met
  pub came_met : Starts put → (P : Named → Type 0) → HasOne P came
      → (begun : First) × (first_among mets ≡ Some begun)
  came_met starts P has =
      let met = first_met P shown.front put starts shown.of_put
      (front_one P came shown.front shown.of_came has) in
      (met.0, ap first_among shown.is ∙ met.1)

  -- a channel that got no cookie anew has its own
  pub newest_own : (begun : First) → (HasOne IsInR2A2 put → ⊥) → newest mets begun ≡ begun.own
  newest_own begun none =
      let few = shown_count is_in_r2_a2 shown.front put shown.of_put in
      let nothing = none_counted put none in
      ap (λ (ms : List Met). newest ms begun) shown.is
      ∙ ap (λ (o : Option Cookie). newest_of o begun.own)
      (renewed_none None shown.front (omega (arith, few, nothing)))
