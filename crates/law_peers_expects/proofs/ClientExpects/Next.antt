-- what comes next on an OUT channel of the client: the timeout, CONN/C2, or what passes an open
-- channel
use Rattle.law_order.proofs.Vocabulary.{◌≡◌, ◌⊎◌, inl, inr, ℕ, ◌≤◌, Bool, true, false, true≢false, if◌then◌else◌, List, [], ◌∷◌, ◌++◌, refl, sym, ap, ◌∙◌, subst, arith, AllByRecursion, append_assoc, IsPrefix}
use Rattle.law_moves.proofs.Vocabulary.{Named, ConnA3, ConnC2, Ping, is_ping, Message, Text, Pdu, Packet, all_read_of, read_of, count_of, HasOne}
use Rattle.law_moves.proofs.Lemmas.{all_append}
use Rattle.law_role_client.proofs.Vocabulary.{is_conn_c2}
use Rattle.law_role_outproxy.proofs.Vocabulary.{OutProxyConfig, OpensNew, OpensSuccessor, OpensClient, PassesPacket, IsPassed, IsEcho, IsOpening, IsNew, IsSuccessor, IsToClient}

-- what passes and is read is no Ping
abbrev pub Passes : List Message → Message → Type 0
Passes os (Text bytes) = ⊥
Passes os (Pdu pdu) = Unit {0}
Passes os (Packet named) = PassesPacket os named × (named ≡ Ping → ⊥)

abbrev pub Opens : List Message → Message → Type 0
Opens os (Text bytes) = ⊥
Opens os (Pdu pdu) = ⊥
Opens os (Packet named) = OpensClient os named

-- by what came to the out proxy on both sides, and what came at the client
pub data Next (asked os came : List Message) (m : Message) : Type 0 where
  TimeoutNext : HasOne OpensNew asked → came ≡ [] → (timeout : ℕ)
      → m ≡ Packet (ConnA3 timeout) → Next asked os came m
  OpeningNext : HasOne OpensNew asked → (timeout : ℕ) → came ≡ Packet (ConnA3 timeout) ∷ []
      → Opens os m → Next asked os came m
  PassingNext : (1 ≤ count_of is_conn_c2 came) ⊎ HasOne OpensSuccessor asked → Passes os m
      → Next asked os came m

-- ---- what passes

passes_read : (os : List Message) (m : Message) → IsPassed os m
    → AllByRecursion (Passes os) (read_of m)
passes_read os (Text bytes) passed = absurd passed
passes_read os (Pdu pdu) passed = (tt, tt)
passes_read os (Packet named) passed = by (is_ping named) refl
  where
    by : (b : Bool) → is_ping named ≡ b
        → AllByRecursion (Passes os) (if b then [] else Packet named ∷ [])
    by true e = tt
    by false e = ((passed, λ is. true≢false (sym (ap is_ping is) ∙ e)), tt)

all_pass : (os ms : List Message) → AllByRecursion (IsPassed os) ms
    → AllByRecursion (Passes os) (all_read_of ms)
all_pass os [] passed = tt
all_pass os (m ∷ ms) passed =
    all_append (Passes os) (read_of m) (all_read_of ms) (passes_read os m passed.0)
    (all_pass os ms passed.1)

middle : {X : Type 0} (P : X → Type 0) (a : List X) (x : X) (b : List X)
    → AllByRecursion P (a ++ x ∷ b) → P x
middle P [] x b all = all.0
middle P (y ∷ a) x b all = middle P a x b all.1

none_next : {X : Type 0} (a : List X) (x : X) (b : List X) → a ++ x ∷ b ≡ [] → ⊥
none_next [] x b e = cc
none_next (y ∷ a) x b e = cc

module _ (asked os : List Message) (m : Message) (later : List Message) where
  next_passes : (came ms : List Message) → AllByRecursion (IsPassed os) ms
      → came ++ m ∷ later ≡ all_read_of ms → Passes os m
  next_passes came ms passed e =
      middle (Passes os) came m later
      (subst (AllByRecursion (Passes os)) (sym e) (all_pass os ms passed))

  -- ---- CONN/C2, and what is behind it

  opens_read : (named : Named) → OpensClient os named
      → read_of (Packet named) ≡ Packet named ∷ []
  opens_read (ConnC2 version window timeout) opens = refl
  opens_read named opens = absurd opens

  opens_count : (named : Named) (ms : List Message) → OpensClient os named
      → 1 ≤ count_of is_conn_c2 (Packet named ∷ ms)
  opens_count (ConnC2 version window timeout) ms opens = omega arith
  opens_count named ms opens = absurd opens

  abbrev Opening : List Message → Type 0
  Opening came =
      ((came ≡ []) × Opens os m) ⊎ ((1 ≤ count_of is_conn_c2 came) × Passes os m)

  behind_opening : (named : Named) (rest came : List Message) → OpensClient os named
      → AllByRecursion (IsPassed os) rest
      → came ++ m ∷ later ≡ Packet named ∷ all_read_of rest → Opening came
  behind_opening named rest [] opens passed e =
      let is : m ≡ Packet named = cc in inl (refl, subst (Opens os) (sym is) opens)
  behind_opening named rest (first ∷ came) opens passed e =
      let is : first ≡ Packet named = cc in
      let tail : came ++ m ∷ later ≡ all_read_of rest = cc in
      inr (
        subst (λ (x : Message). 1 ≤ count_of is_conn_c2 (x ∷ came)) (sym is)
            (opens_count named came opens),
        next_passes came rest passed tail,
      )

  opening_next : (rest came : List Message) → IsOpening os rest
      → came ++ m ∷ later ≡ all_read_of rest → Opening came
  opening_next [] came opening e = absurd (none_next came m later e)
  opening_next (Text bytes ∷ rest) came opening e = absurd opening
  opening_next (Pdu pdu ∷ rest) came opening e = absurd opening
  opening_next (Packet named ∷ rest) came (inl ping) e =
      opening_next rest came ping.1
      (e ∙ ap (λ (x : Named). read_of (Packet x) ++ all_read_of rest) ping.0)
  opening_next (Packet named ∷ rest) came (inr opens) e =
      behind_opening named rest came opens.0 opens.1
      (e ∙ ap (λ (ms : List Message). ms ++ all_read_of rest) (opens_read named opens.0))

  -- ---- a channel, by what opened it

  begun_next : (timeout : ℕ) (rest came : List Message) → HasOne OpensNew asked
      → IsOpening os rest
      → came ++ m ∷ later ≡ Packet (ConnA3 timeout) ∷ all_read_of rest → Next asked os came m
  begun_next timeout rest [] new opening e = TimeoutNext new refl timeout (let all = e in cc)
  begun_next timeout rest (first ∷ came) new opening e =
      let is : first ≡ Packet (ConnA3 timeout) = cc in
      let tail : came ++ m ∷ later ≡ all_read_of rest = cc in
      by is (opening_next rest came opening tail)
    where
      by : first ≡ Packet (ConnA3 timeout) → Opening came → Next asked os (first ∷ came) m
      by is (inl (none, opens)) = OpeningNext new timeout (let all = none in cc) opens
      by is (inr (one, passes)) =
          PassingNext (inl (subst (λ (x : Message). 1 ≤ count_of is_conn_c2 (x ∷ came)) (sym is)
          one)) passes

  behind_text : (text : Message) (bytes : List ℕ) (rest came : List Message)
      → text ≡ Text bytes → came ++ m ∷ later ≡ all_read_of (text ∷ rest)
      → came ++ m ∷ later ≡ all_read_of rest
  behind_text text bytes rest came is e =
      e ∙ ap (λ (x : Message). read_of x ++ all_read_of rest) is

  new_next : (config : OutProxyConfig) (put came : List Message) → HasOne OpensNew asked
      → IsNew config os put → came ++ m ∷ later ≡ all_read_of put → Next asked os came m
  new_next config [] came new is e = absurd (none_next came m later e)
  new_next config (text ∷ []) came new is e =
      absurd (none_next came m later (behind_text text _ [] came is e))
  new_next config (text ∷ first ∷ rest) came new is e =
      begun_next config.timeout rest came new is.2
      (behind_text text _ (first ∷ rest) came is.0 e
      ∙ ap (λ (x : Message). read_of x ++ all_read_of rest) is.1)

  successor_next : (config : OutProxyConfig) (put came : List Message)
      → HasOne OpensSuccessor asked → IsSuccessor config os put
      → came ++ m ∷ later ≡ all_read_of put → Next asked os came m
  successor_next config [] came successor is e = absurd (none_next came m later e)
  successor_next config (text ∷ rest) came successor is e =
      PassingNext (inr successor)
      (next_passes came rest is.1 (behind_text text _ rest came is.0 e))

  echo_next : (put came : List Message) → IsEcho put → came ++ m ∷ later ≡ all_read_of put → ⊥
  echo_next [] came is e = none_next came m later e
  echo_next (text ∷ []) came is e =
      none_next came m later (behind_text text _ [] came is e)
  echo_next (text ∷ other ∷ rest) came is e = is

  by_first : (config : OutProxyConfig) (put came : List Message)
      → IsToClient config asked os put → came ++ m ∷ later ≡ all_read_of put
      → Next asked os came m
  by_first config put came (inl echo) e = absurd (echo_next put came echo e)
  by_first config put came (inr (inl (new, is))) e = new_next config put came new is e
  by_first config put came (inr (inr (successor, is))) e =
      successor_next config put came successor is e

pub next_of : (config : OutProxyConfig) (asked os put came : List Message) (m : Message)
    → IsToClient config asked os put → IsPrefix (came ++ m ∷ []) (all_read_of put)
    → Next asked os came m
next_of config asked os put came m is ahead =
    by_first asked os m ahead.0 config put came is
    (sym (append_assoc came (m ∷ []) ahead.0) ∙ ahead.1)
