-- what an out proxy sent, and what it was told, as messages come and are put
use Rattle.law_order.proofs.Vocabulary.{◌≡◌, ◌⊎◌, ℕ, ◌+◌, ◌≤◌, Bool, true, false, inl, inr, if◌then◌else◌, List, [], ◌∷◌, ◌++◌, length, refl, sym, ap, ◌∙◌, subst, arith, IfSome, nat_tests}
use Rattle.rh_outproxy.specs.declared.state.Channel.TheVariants as channels
use Rattle.law_moves.proofs.Vocabulary.{Sender, unsent, may_send, after_sent, after_acked, by_test, Cookie, TO_OUT_PROXY, Named, ConnA1, OutR1A3, AckTo, Leg, Message, Text, Pdu, Packet, same_leg, OnLeg, of_leg, pdu_bytes, count_of, Has, BeginsOut, HasBegunOut}
use Rattle.law_moves.proofs.Lemmas.{leg_more, has_more, has_last, one_more_so, last_one_so, count_append, count_rises, here_more, other_more}
use Rattle.law_role_outproxy.proofs.Vocabulary.{Channel, OutProxyConfig, is_known, joined, opens, OpensOnce, TellsWindow, MaySend}
use Rattle.law_role_outproxy.proofs.Sending.Legs.{more_keeps, bytes_here, bytes_still}
use Rattle.law_role_outproxy.proofs.Sending.Windows.{acked_sent, acked_rises, acked_edge}
use Rattle.law_role_outproxy.specs.Sending.{co_leg, os_leg}

-- ---- the channel that began

-- the channel of the proxy began by one of these
abbrev pub IsBegun : Channel → List Message → Type 0
IsBegun channels.Unknown messages = Unit {0}
IsBegun (channels.New connection cookie) messages = HasBegunOut cookie messages
IsBegun (channels.Joined connection cookie) messages = HasBegunOut cookie messages
IsBegun (channels.Successor connection predecessor cookie) messages = HasBegunOut cookie messages

begun_more : (c : Channel) (a b : List Message) → IsBegun c a → IsBegun c (a ++ b)
begun_more channels.Unknown a b h = tt
begun_more (channels.New connection cookie) a b h = one_more_so (BeginsOut cookie) a b h
begun_more (channels.Joined connection cookie) a b h = one_more_so (BeginsOut cookie) a b h
begun_more (channels.Successor connection predecessor cookie) a b h =
    one_more_so (BeginsOut cookie) a b h

-- a channel that the proxy joined is one
pub joined_begun : (c : Channel) (messages : List Message) → IsBegun c messages
    → IfSome (joined c) (λ (cookie : Cookie).
    HasBegunOut cookie messages × (is_known c ≡ true))
joined_begun channels.Unknown messages h = tt
joined_begun (channels.New connection cookie) messages h = tt
joined_begun (channels.Joined connection cookie) messages h = (h, refl)
joined_begun (channels.Successor connection predecessor cookie) messages h = (h, refl)

-- what begins a channel opens it
begins_opens : (cookie : Cookie) (named : Named) → BeginsOut cookie named → opens named ≡ true
begins_opens cookie (ConnA1 version connection channel window) h = refl
begins_opens cookie (OutR1A3 version connection predecessor channel window) h = refl
begins_opens cookie packet h = absurd h

begun_counts : (cookie : Cookie) (messages : List Message) → HasBegunOut cookie messages
    → 1 ≤ count_of opens messages
begun_counts cookie [] h = absurd h
begun_counts cookie (Text bytes ∷ messages) h = begun_counts cookie messages h
begun_counts cookie (Pdu pdu ∷ messages) h = begun_counts cookie messages h
begun_counts cookie (Packet named ∷ messages) (inl is) =
    by_test (λ (n : ℕ). 1 ≤ n) (opens named) _ (count_of opens messages) (λ e. omega arith)
    (λ e. absurd (let both : true ≡ false = sym (begins_opens cookie named is) ∙ e in cc))
begun_counts cookie (Packet named ∷ messages) (inr rest) =
    let before = begun_counts cookie messages rest in
    by_test (λ (n : ℕ). 1 ≤ n) (opens named) _ (count_of opens messages) (λ e. omega arith)
    (λ e. before)

-- where no packet opened it, none is known
unopened : (c : Channel) (messages : List Message) → IsBegun c messages
    → count_of opens messages ≡ 0 → is_known c ≡ false
unopened channels.Unknown messages h none = refl
unopened (channels.New connection cookie) messages h none =
    absurd (let some = begun_counts cookie messages h in omega (arith, some, none))
unopened (channels.Joined connection cookie) messages h none =
    absurd (let some = begun_counts cookie messages h in omega (arith, some, none))
unopened (channels.Successor connection predecessor cookie) messages h none =
    absurd (let some = begun_counts cookie messages h in omega (arith, some, none))

-- ---- what it was told

module _ (n : ℕ) (came : List OnLeg) where
  pub told_more : (bytes : ℕ) (one : OnLeg) → MaySend n came bytes
      → MaySend n (came ++ one ∷ []) bytes
  told_more bytes one (inl none) = inl none
  told_more bytes one (inr (inl h)) = inr (inl (record {
    packet = h.packet;
    has = more_keeps (Has h.packet) (has_more h.packet) (co_leg n) came one h.has;
    window = h.window;
    tells = h.tells;
    within = h.within;
  }))
  told_more bytes one (inr (inr h)) = inr (inr (record {
    received = h.received;
    available = h.available;
    cookie = h.cookie;
    has = more_keeps (Has (AckTo TO_OUT_PROXY h.received h.available h.cookie))
        (has_more (AckTo TO_OUT_PROXY h.received h.available h.cookie)) (os_leg n) came one h.has;
    begun = more_keeps (HasBegunOut h.cookie) (one_more_so (BeginsOut h.cookie)) (co_leg n) came
        one h.begun;
    within = h.within;
  }))

  pub told_less : (bytes edge : ℕ) → bytes ≤ edge → MaySend n came edge → MaySend n came bytes
  told_less bytes edge less (inl none) = inl (omega (arith, less, none))
  told_less bytes edge less (inr (inl h)) = inr (inl (record {
    packet = h.packet;
    has = h.has;
    window = h.window;
    tells = h.tells;
    within = let within = h.within in omega (arith, less, within);
  }))
  told_less bytes edge less (inr (inr h)) = inr (inr (record {
    received = h.received;
    available = h.available;
    cookie = h.cookie;
    has = h.has;
    begun = h.begun;
    within = let within = h.within in omega (arith, less, within);
  }))

-- ---- the sender

-- what the facts are about
pub record Seen : Type 0 where
  pub config : OutProxyConfig
  pub channel : Channel
  pub window : Sender

-- it counts what was put since the channel opened, within an edge that it was told
pub record Sends (config : OutProxyConfig) (x : Seen) (came put : List OnLeg) : Type 0 where
  pub is : x.config ≡ config
  pub within : x.window.sent ≤ x.window.edge
  pub counted : OpensOnce config.number came
      → x.window.sent ≡ pdu_bytes (of_leg (co_leg config.number) put)
  pub begun : IsBegun x.channel (of_leg (co_leg config.number) came)
  pub shut : is_known x.channel ≡ false → x.window.edge ≡ 0
  pub told : MaySend config.number came x.window.edge
  pub elsewhere : (leg : Leg) → same_leg (co_leg config.number) leg ≡ false
      → pdu_bytes (of_leg leg put) ≡ 0

module _ (config : OutProxyConfig) (x : Seen) (came put : List OnLeg) where
  abbrev co : Leg
  co = co_leg config.number

  -- one more came
  pub came_one : (one : OnLeg) → Sends config x came put
      → Sends config x (came ++ one ∷ []) put
  came_one one h = record {
    is = h.is;
    within = h.within;
    counted = λ once. h.counted (before once);
    begun = more_keeps (IsBegun x.channel) (begun_more x.channel) co came one h.begun;
    shut = h.shut;
    told = told_more config.number came x.window.edge one h.told;
    elsewhere = h.elsewhere;
  }
    where
      before : OpensOnce config.number (came ++ one ∷ []) → OpensOnce config.number came
      before once =
          let all = ap (count_of opens) (leg_more co came one) in
          let rise = count_rises opens (of_leg co came) (of_leg co (one ∷ [])) in
          omega (arith, all, rise, once)

  -- a packet opens the channel
  pub opened_one : (packet : Named) (channel : Channel) (cookie : Cookie) (size : ℕ)
      → opens packet ≡ true → TellsWindow packet size → BeginsOut cookie packet
      → ((messages : List Message) → HasBegunOut cookie messages → IsBegun channel messages)
      → is_known channel ≡ true → Sends config x came put
      → Sends config (record { config = x.config; channel = channel; window = unsent size })
      (came ++ (co, Packet packet) ∷ []) put
  opened_one packet channel cookie size opening tells begins is_so known h = record {
    is = h.is;
    within = omega arith;
    counted = λ once. nothing (
        let all = ap (count_of opens) (here_more co came (Packet packet)) in
        let both = count_append opens (of_leg co came) (Packet packet ∷ []) in
        let one : count_of opens (Packet packet ∷ []) ≡ 1 = ap (λ (t : Bool). if t then 1 else 0)
        opening in
        omega (arith, all, both, one, once));
    begun = is_so (of_leg co (came ++ (co, Packet packet) ∷ []))
        (subst (HasBegunOut cookie) (sym (here_more co came (Packet packet)))
        (last_one_so (BeginsOut cookie) (of_leg co came) packet begins));
    shut = λ e. absurd (let both : true ≡ false = sym known ∙ e in cc);
    told = inr (inl (record {
      packet = packet;
      has = subst (Has packet) (sym (here_more co came (Packet packet)))
          (has_last packet (of_leg co came));
      window = size;
      tells = tells;
      within = omega arith;
    }));
    elsewhere = h.elsewhere;
  }
    where
      nothing : count_of opens (of_leg co came) ≡ 0 → 0 ≡ pdu_bytes (of_leg co put)
      nothing none =
          let counted = h.counted (omega (arith, none)) in
          let within = h.within in
          let shut = h.shut (unopened x.channel (of_leg co came) h.begun none) in
          omega (arith, counted, within, shut)

  -- an acknowledgement of the channel comes from the server, and is applied
  pub acked_one : (received available : ℕ) (cookie : Cookie) → HasBegunOut cookie (of_leg co came)
      → is_known x.channel ≡ true → Sends config x came put
      → (let one : OnLeg = (
        os_leg config.number,
        Packet (AckTo TO_OUT_PROXY received available cookie),
      ) in
      Sends config (record {
        config = x.config;
        channel = x.channel;
        window = after_acked x.window received available;
      }) (came ++ one ∷ []) put)
  acked_one received available cookie begun known h =
      let k = came_one (os, Packet packet) h in record {
        is = h.is;
        within =
            let sent = acked_sent x.window received available in
            let rises = acked_rises x.window received available in
            let within = h.within in omega (arith, sent, rises, within);
        counted = λ once. acked_sent x.window received available ∙ k.counted once;
        begun = k.begun;
        shut = λ e. absurd (let both : true ≡ false = sym known ∙ e in cc);
        told = by k.told (acked_edge x.window received available);
        elsewhere = h.elsewhere;
      }
    where
      os : Leg
      os = os_leg config.number

      packet : Named
      packet = AckTo TO_OUT_PROXY received available cookie

      edge : ℕ
      edge = (after_acked x.window received available).edge

      by : MaySend config.number (came ++ (os, Packet packet) ∷ []) x.window.edge
          → (edge ≡ x.window.edge) ⊎ (edge ≡ received + available)
          → MaySend config.number (came ++ (os, Packet packet) ∷ []) edge
      by told (inl same) =
          told_less config.number (came ++ (os, Packet packet) ∷ []) edge x.window.edge
          (omega (arith, same)) told
      by told (inr new) = inr (inr (record {
        received = received;
        available = available;
        cookie = cookie;
        has = subst (Has packet) (sym (here_more os came (Packet packet)))
            (has_last packet (of_leg os came));
        begun = more_keeps (HasBegunOut cookie) (one_more_so (BeginsOut cookie)) co came
            (os, Packet packet) begun;
        within = omega (arith, new);
      }))

  -- ---- what is put

  -- what is no PDU
  pub still_put : (one : OnLeg) → pdu_bytes (one.1 ∷ []) ≡ 0 → Sends config x came put
      → Sends config x came (put ++ one ∷ [])
  still_put one none h = record {
    is = h.is;
    within = h.within;
    counted = λ once. h.counted once ∙ sym (bytes_still co put one none);
    begun = h.begun;
    shut = h.shut;
    told = h.told;
    elsewhere = λ leg other. bytes_still leg put one none ∙ h.elsewhere leg other;
  }

  -- a PDU that may be sent, to the client
  pub pdu_put : (pdu : List ℕ) → may_send x.window (length pdu) ≡ true → Sends config x came put
      → Sends config (record {
        config = x.config;
        channel = x.channel;
        window = after_sent x.window (length pdu);
      }) came (put ++ (co, Pdu pdu) ∷ [])
  pdu_put pdu may h = record {
    is = h.is;
    within = grind (arith, nat_tests, may);
    counted = λ once.
        let before = h.counted once in
        let all = bytes_here co put (Pdu pdu) in omega (arith, before, all);
    begun = h.begun;
    shut = h.shut;
    told = h.told;
    elsewhere = λ leg other.
        ap pdu_bytes (other_more leg put (co, Pdu pdu) other) ∙ h.elsewhere leg other;
  }
