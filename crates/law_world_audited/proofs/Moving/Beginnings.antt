-- what each role puts first on its legs is fine
use Rattle.law_order.proofs.Vocabulary.{◌≡◌, ◌+◌, ℕ, zero, suc, true, false, List, [], ◌∷◌, refl, sym, subst, inl, inr, is_some}
use Rattle.rh_rts.specs.declared.command.Cookie.{Cookie}
use Rattle.rh_sig.specs.declared.named.Named.{Named}
use Rattle.rh_sig.specs.declared.named.Named.TheVariants.{ConnA2, ConnB2, InR1A2, OutR1A4}
use Rattle.rh_sig.specs.declared.name.Pipe.{Pipe}
use Rattle.rh_sig.specs.declared.name.Pipe.TheVariants.{CiU, IsU, CoU, CoD, OsU, OsD}
use Rattle.rh_http.specs.declared.config.ClientConfig.{ClientConfig}
use Rattle.rh_http.specs.Texts.{in_request, out_request, response_text}
use Rattle.rh_line.specs.declared.leg.Leg.{Leg}
use Rattle.rh_shell.specs.Rules.{Message, Text, Pdu, Packet}
use Rattle.rh_inproxy.specs.declared.state.InProxyConfig.{InProxyConfig}
use Rattle.rh_outproxy.specs.declared.state.OutProxyConfig.{OutProxyConfig}
use Rattle.rh_outproxy.specs.Putting.{ping_room}
use Rattle.rh_audit.specs.Packets.{first_of}
use Rattle.law_moves.specs.Moves.{OnLeg}
use Rattle.law_role_client_rows.specs.Putting.{Begins, Direction, IsBegun, IsChannel, IsPacket, in_way, out_length, out_way}
use Rattle.law_role_inproxy.specs.Putting.Puts.{IsFirst, IsStream}
use Rattle.law_role_outproxy.specs.Putting.{IsNew, IsSuccessor, IsToServer, OpensServer}
use Rattle.law_role_server_rows.specs.Putting.Greeting.{MayGreet}
use Rattle.law_peers_expects.specs.Asked.Asking.{IsServed}
use Rattle.law_audit.specs.Streams.Put.{BeginsFrames, IsFirst as BeginsLeg, packet_of}
use Rattle.law_audit.specs.Streams.Texts.{IsFineText}
use Rattle.law_world_audited.specs.Moving.Streams.{MayBegin}

-- a packet with which a leg begins
abbrev Opens : Named → Type 0
Opens named = is_some (first_of (packet_of named)) ≡ true

-- ---- a client

module _ (pipe : Pipe) where
  begun : (request : List ℕ) (Begin : Named → Type 0) (Rest : List Message → Type 0)
      → IsFineText pipe request → ((m : Named) → Begin m → Opens m) → (put : List Message)
      → IsBegun request Begin Rest put → MayBegin pipe put
  begun request Begin Rest fine so [] h = inl refl
  begun request Begin Rest fine so (text ∷ []) h =
      subst (λ (m : Message). MayBegin pipe (m ∷ [])) (sym h)
      (inr (record { text = fine; first = tt }))
  begun request Begin Rest fine so (text ∷ first ∷ rest) h =
      subst (λ (m : Message). MayBegin pipe (m ∷ first ∷ rest)) (sym h.0)
      (inr (record { text = fine; first = λ up. opens first h.1 }))
    where
      opens : (m : Message) → IsPacket Begin m → BeginsLeg m
      opens (Text bytes) is = absurd is
      opens (Pdu pdu) is = absurd is
      opens (Packet named) is = so named is

  channel : (way : Direction) (Comes : Leg → Cookie → Type 0) (Early : Leg → Type 0)
      → ((k : ℕ) → IsFineText pipe (way.request k)) → ((own : Cookie) → Opens (way.first own))
      → ((before own : Cookie) → Opens (way.next before own)) → (n : ℕ) (put : List Message)
      → IsChannel way Comes Early n put → MayBegin pipe put
  channel way Comes Early fine first next zero put h = inl h
  channel way Comes Early fine first next (suc k) put h =
      begun (way.request k) (Begins way Comes Early k) (way.Rest k) (fine k) (opens k) put h
    where
      opens : (k : ℕ) (m : Named) → Begins way Comes Early k m → Opens m
      opens zero m is = subst Opens (sym is.is) (first is.own)
      opens (suc k) m is = subst Opens (sym is.is) (next is.before is.own)

pub in_channel : (config : ClientConfig) (Comes : Leg → Cookie → Type 0) (Early : Leg → Type 0)
    → IsFineText CiU (in_request config) → (n : ℕ) (put : List Message)
    → IsChannel (in_way config Comes) Comes Early n put → MayBegin CiU put
in_channel config Comes Early fine n put h =
    channel CiU (in_way config Comes) Comes Early (λ k. fine) (λ own. refl) (λ before own. refl) n
    put h

pub out_channel : (config : ClientConfig) (Comes : Leg → Cookie → Type 0) (Early : Leg → Type 0)
    → ((k : ℕ) → IsFineText CoU (out_request config (out_length k))) → (n : ℕ)
    (put : List Message) → IsChannel (out_way config) Comes Early n put → MayBegin CoU put
out_channel config Comes Early fine n put h =
    channel CoU (out_way config) Comes Early fine (λ own. refl) (λ before own. refl) n put h

-- ---- proxies, to the server

first_in : (config : InProxyConfig) (came : List OnLeg) (m : Named) → IsFirst config came m
    → Opens m
first_in config came (ConnB2 version connection channel window timeout group address padding) is =
    refl
first_in config came (InR1A2 version connection predecessor successor window timeout) is = refl
first_in config came m is = absurd is

pub in_stream : (config : InProxyConfig) (came : List OnLeg) (put : List Message)
    → IsStream config came put → MayBegin IsU put
in_stream config came [] h = inl refl
in_stream config came (Text bytes ∷ rest) h = absurd h.0
in_stream config came (Pdu pdu ∷ rest) h = absurd h.0
in_stream config came (Packet named ∷ rest) h =
    inr (record { text = refl; first = λ up. first_in config came named h.0 })

first_out : (config : OutProxyConfig) (came : List Message) (cookie : Cookie) (m : Named)
    → OpensServer config came cookie m → Opens m
first_out config came cookie (ConnA2 version connection channel lifetime window) is = refl
first_out config came cookie
    (OutR1A4 version connection predecessor successor lifetime window timeout) is = refl
first_out config came cookie m is = absurd is

pub to_server : (config : OutProxyConfig) (came put : List Message) → IsToServer config came put
    → MayBegin OsU put
to_server config came [] h = inl refl
to_server config came (first ∷ rest) h =
    subst (λ (m : Message). MayBegin OsU (m ∷ rest)) (sym h.is)
    (inr (record { text = refl; first = λ up. first_out config came h.cookie h.packet h.opens }))

-- ---- an out proxy to its client

response_first : (text : List ℕ) (rest : List Message) (first : Message) → first ≡ Text text
    → IsFineText CoD text → BeginsFrames CoD rest → MayBegin CoD (first ∷ rest)
response_first text rest first is fine begins =
    subst (λ (m : Message). MayBegin CoD (m ∷ rest)) (sym is)
    (inr (record { text = fine; first = begins }))

down : (rest : List Message) → BeginsFrames CoD rest
down [] = tt
down (m ∷ rest) = λ up. absurd (let same : false ≡ true = up in cc)

pub to_client : (config : OutProxyConfig) (asked came put : List Message)
    → IsFineText CoD (response_text (config.lifetime + ping_room))
    → IsServed config asked came put → MayBegin CoD put
to_client config asked came put fine (inl none) = inl none
to_client config asked came put fine (inr (inl new)) = by put new.1
  where
    by : (put : List Message) → IsNew config came put → MayBegin CoD put
    by [] h = inl refl
    by (text ∷ []) h =
        response_first (response_text (config.lifetime + ping_room)) [] text h fine tt
    by (text ∷ first ∷ rest) h =
        response_first (response_text (config.lifetime + ping_room)) (first ∷ rest) text h.0 fine
        (down (first ∷ rest))
to_client config asked came put fine (inr (inr next)) = by put next.1
  where
    by : (put : List Message) → IsSuccessor config came put → MayBegin CoD put
    by [] h = inl refl
    by (text ∷ rest) h =
        response_first (response_text (config.lifetime + ping_room)) rest text h.0 fine (down rest)

-- ---- a server

pub greets : (put : List Message) → MayGreet put → MayBegin OsD put
greets [] h = inl refl
greets (first ∷ rest) h =
    subst (λ (m : Message). MayBegin OsD (m ∷ rest)) (sym h.0)
    (inr (record { text = refl; first = frames rest }))
  where
    frames : (rest : List Message) → BeginsFrames OsD rest
    frames [] = tt
    frames (m ∷ rest) = λ up. absurd (let same : false ≡ true = up in cc)
