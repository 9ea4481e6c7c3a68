-- what stands on the is leg of an in proxy, with its first packet
use Rattle.law_order.proofs.Vocabulary.{◌≡◌, ℕ, Bool, true, false, List, [], ◌∷◌, ◌++◌, Some, None, refl, sym, ap, ◌∙◌, subst, IfSome}
use Rattle.law_moves.proofs.Vocabulary.{V4, Message, Packet, OnLeg}
use Rattle.law_role_inproxy.proofs.Vocabulary.{Entry, Connects, Replaces, InProxyConfig, Opener, Opening, AwaitsClient, AwaitsPacket, WantsServer, Announces, Announced, Pick, or_else, is_announced, announcement, first_by, InProxy, IsFirst, IsRest, IsStream}
use Rattle.law_role_inproxy.proofs.Putting.Fronts.{reached}
use Rattle.law_role_inproxy.proofs.Putting.Sounds.{seen, Sound, Moves, IsOpener, IsOpening, last}

-- ---- what stands on the leg

abbrev pub behind : List Message → List Message
behind [] = []
behind (first ∷ rest) = rest

-- the first packet was put, or nothing
abbrev pub IsAt : Bool → List Message → Type 0
IsAt true [] = ⊥
IsAt true (first ∷ rest) = Unit {0}
IsAt false ms = ms ≡ []

pub record Stands (config : InProxyConfig) (came : List OnLeg) (ms : List Message) (s : InProxy)
    : Type 0 where
  pub sound : Sound config (seen s) came
  pub at : IsAt (is_announced s.opening) ms
  pub stream : IsStream config came ms
  pub last : reached config.number (behind ms) ≡ last (seen s)

pub still : (config : InProxyConfig) (came : List OnLeg) (ms : List Message) (s t : InProxy)
    → Moves config came s t → IsStream config came ms → IsAt (is_announced s.opening) ms
    → reached config.number (behind ms) ≡ last (seen s) → Stands config came ms t
still config came ms s t moves stream at now = record {
  sound = moves.sound;
  at = subst (λ (b : Bool). IsAt b ms) (sym moves.announced) at;
  stream = stream;
  last = now ∙ sym moves.last;
}

module _ (config : InProxyConfig) (came : List OnLeg) (ms : List Message) (s : InProxy)
    (h : Stands config came ms s) where
  abbrev pub Goes : Pick → Type 0
  Goes pick =
      IfSome pick (λ (one : InProxy × Message).
      Stands config came (ms ++ one.1 ∷ []) one.0)

  abbrev pub n : ℕ
  n = s.current.number

  pub or_stands : (a b : Pick) → Goes a → (a ≡ None → Goes b) → Goes (or_else a b)
  or_stands None b one other = other refl
  or_stands (Some pick) b one other = one

  -- ---- the first packet

  first_is : (o : Opener) (entry : Entry) → IsOpener config came o entry
      → IsFirst config came (announcement s o entry)
  first_is o (Connects group) is =
      let same = h.sound.same in (
        refl,
        ap (λ (c : InProxyConfig). c.window) same,
        ap (λ (c : InProxyConfig). c.timeout) same,
        ap (λ (c : InProxyConfig). V4 c.address) same,
        is,
      )
  first_is o (Replaces predecessor) is =
      let same = h.sound.same in (
        refl,
        ap (λ (c : InProxyConfig). c.window) same,
        ap (λ (c : InProxyConfig). c.timeout) same,
        is,
      )

  pub first_goes : (o : Opener) → s.opening ≡ Announces o → Goes (first_by s (Announces o))
  first_goes o e =
      let none : ms ≡ [] = subst (λ (x : Opening). IsAt (is_announced x) ms) e h.at in
      let opens = subst (IsOpening config came s.current s.successor) e h.sound.opening in
      let packet : Message = Packet (announcement s o o.entry) in
      subst (λ (all : List Message). Stands config came (all ++ packet ∷ [])
      (record s { opening = Announced o })) (sym none)
      (record {
        sound = record {
          same = h.sound.same;
          joined = h.sound.joined;
          finished = h.sound.finished;
          opening = opens.1;
          next = h.sound.next;
          leaving = h.sound.leaving;
          waits = h.sound.waits;
          held = h.sound.held;
          held_next = h.sound.held_next;
          quiet = h.sound.quiet;
        };
        at = tt;
        stream = (first_is o o.entry opens.0, tt);
        last = subst (λ (all : List Message). reached config.number (behind all)
            ≡ last (seen s)) none h.last;
      })

  -- ---- a message behind it

  module _ (announced : is_announced s.opening ≡ true) where
    pub more : (t : InProxy) (m : Message) → Sound config (seen t) came
        → is_announced t.opening ≡ true
        → ((rest : List Message) → IsRest came config.number rest
        → reached config.number rest ≡ last (seen s)
        → IsRest came config.number (rest ++ m ∷ [])
        × (reached config.number (rest ++ m ∷ []) ≡ last (seen t)))
        → Stands config came (ms ++ m ∷ []) t
    more t m sound now so =
        by ms (subst (λ (b : Bool). IsAt b ms) announced h.at) h.stream h.last
      where
        by : (all : List Message) → IsAt true all → IsStream config came all
            → reached config.number (behind all) ≡ last (seen s)
            → Stands config came (all ++ m ∷ []) t
        by [] at stream e = absurd at
        by (first ∷ rest) at stream e =
            let both = so rest stream.1 e in record {
              sound = sound;
              at = subst (λ (b : Bool). IsAt b (first ∷ rest ++ m ∷ [])) (sym now) tt;
              stream = (stream.0, both.0);
              last = both.1;
            }

    pub no_first : (o : Opening) → is_announced o ≡ true → Goes (first_by s o)
    no_first AwaitsClient e = tt
    no_first AwaitsPacket e = tt
    no_first (WantsServer o) e = tt
    no_first (Announces o) e = absurd cc
    no_first (Announced o) e = tt
