-- before the first packet an in proxy takes nothing else on a ci leg
use Rattle.law_order.proofs.Vocabulary.{◌≡◌, ℕ, ◌==◌, ◌&&◌, ◌++◌, true, false, true≢false, List, [], ◌∷◌, Some, None, Ok, Err, refl, sym, ◌∙◌, subst, and_parts, Option}
use Rattle.rh_sig.specs.declared.named.Named.TheVariants as named
use Rattle.law_moves.proofs.Vocabulary.{by_test, Cookie, Named, Which, Current, Message, OnLeg}
use Rattle.law_role_inproxy.proofs.Vocabulary.{ClientLeg, Connects, InProxyConfig, Opening, AwaitsClient, AwaitsPacket, WantsServer, Announces, Announced, Successor, Absent, Up, Joined, Done, unexpected, is_announced, on_later_in_r1_a1, is_absent, is_first, opened, opener, opener_of, kept_for, on_first_in_r1_a1, pdu_by, on_channel_by, on_ci, InProxy, channel_of, has_opened, next_of}
use Rattle.law_role_inproxy.proofs.Putting.Sounds.{IsOpening}
use Rattle.law_role_inproxy.proofs.Putting.Stands.{IsAt}

-- then no later ci leg is there
pub new_alone : (config : InProxyConfig) (came : List OnLeg) (current : ClientLeg) (z : Successor)
    (o : Opening) → has_opened o ≡ false → IsOpening config came current z o
    → is_absent z ≡ true
new_alone config came current z AwaitsClient e h = h.1
new_alone config came current z AwaitsPacket e h = h.1
new_alone config came current z (WantsServer o) e h = absurd cc
new_alone config came current z (Announces o) e h = absurd cc
new_alone config came current z (Announced o) e h = absurd cc

-- and nothing was put
pub new_nothing : (o : Opening) (ms : List Message) (m : Message) → has_opened o ≡ false
    → IsAt (is_announced o) (ms ++ m ∷ []) → ⊥
new_nothing AwaitsClient [] m e h = absurd cc
new_nothing AwaitsClient (one ∷ ms) m e h = absurd cc
new_nothing AwaitsPacket [] m e h = absurd cc
new_nothing AwaitsPacket (one ∷ ms) m e h = absurd cc
new_nothing (WantsServer o) ms m e h = absurd cc
new_nothing (Announces o) ms m e h = absurd cc
new_nothing (Announced o) ms m e h = absurd cc

-- what is taken is the first packet
abbrev pub Takes : Done → Type 0
Takes (t, Ok taken) = has_opened t.opening ≡ true
Takes (t, Err why) = Unit {0}

module _ (s : InProxy) (new : has_opened s.opening ≡ false)
    (alone : is_absent s.successor ≡ true) where
  pub no_channel : (number : ℕ) → channel_of s number ≡ None
  no_channel number =
      by_test (λ (o : Option Which). o ≡ None)
      (has_opened s.opening && (s.current.number == number)) (Some Current)
      (next_of s.successor number)
      (λ e. absurd (true≢false (sym (and_parts (has_opened s.opening)
      (s.current.number == number) e).0 ∙ new)))
      (λ e. by s.successor alone)
    where
      by : (z : Successor) → is_absent z ≡ true → next_of z number ≡ None
      by Absent f = refl
      by (Up leg) f = refl
      by (Joined leg stage) f = absurd cc

  pub pdu_takes : (number : ℕ) (bytes : List ℕ) → Takes (pdu_by s (channel_of s number) bytes)
  pdu_takes number bytes =
      subst (λ (o : Option Which). Takes (pdu_by s o bytes)) (sym (no_channel number)) tt

  later_takes : (o : Opening) (number : ℕ) (connection predecessor channel : Cookie)
      → has_opened o ≡ false
      → Takes (on_later_in_r1_a1 s (opener_of o) number connection predecessor channel)
  later_takes AwaitsClient number connection predecessor channel e = tt
  later_takes AwaitsPacket number connection predecessor channel e = tt
  later_takes (WantsServer o) number connection predecessor channel e = absurd cc
  later_takes (Announces o) number connection predecessor channel e = absurd cc
  later_takes (Announced o) number connection predecessor channel e = absurd cc

  channel_takes : (number : ℕ) (m : Named) → Takes (on_channel_by s (channel_of s number) m)
  channel_takes number m =
      subst (λ (o : Option Which). Takes (on_channel_by s o m)) (sym (no_channel number)) tt

  pub ci_takes : (number : ℕ) (m : Named) → Takes (on_ci s number m)
  ci_takes number (named.ConnB1 version connection channel lifetime keepalive group) =
      by_test Takes (is_first s number)
      (opened s (opener connection channel (Connects group)) (kept_for keepalive))
      (unexpected s) (λ e. refl) (λ e. tt)
  ci_takes number (named.InR1A1 version connection predecessor channel) =
      by_test Takes (is_first s number) (on_first_in_r1_a1 s connection predecessor channel)
      (on_later_in_r1_a1 s (opener_of s.opening) number connection predecessor channel)
      (λ e. refl) (λ e. later_takes s.opening number connection predecessor channel new)
  ci_takes number m = channel_takes number m
