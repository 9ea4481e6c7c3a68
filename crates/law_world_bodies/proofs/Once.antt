-- a client opens each OUT channel with one packet: CONN/A1 or OUT_R1/A3 came there at most once
use Rattle.law_order.proofs.Vocabulary.{◌≡◌, ◌⊎◌, inl, inr, ℕ, ◌+◌, ◌*◌, ◌≤◌, List, [], ◌∷◌, Some, arith, AllByRecursion}
use Rattle.rh_sig.specs.declared.named.Named.TheVariants as named
use Rattle.law_moves.proofs.Vocabulary.{CoU, Named, ClientConfig, ClientOut, Message, Text, Pdu, Packet, MayGoOn}
use Rattle.law_world_bodies.proofs.OutBooks.{asks}
use Rattle.law_world_bodies.proofs.OutFirsts.{replaces, replacing}
use Rattle.law_world_bodies.proofs.OutMoves.{asking, sum}
use Rattle.law_world_bodies.proofs.Sizes.{size, spelled_total, total}
use Rattle.law_world_bodies.specs.Bodies.{KeepsLength, RequestTells}

packet_opens : (packet : Named) → 76 * (asks packet + replaces packet) ≤ size (Packet packet)
packet_opens (named.ConnA1 version connection cookie window) = omega arith
packet_opens (named.OutR1A3 version connection predecessor cookie window) = omega arith
packet_opens packet = omega arith

opens : (ms : List Message) → 76 * (sum asking ms + sum replacing ms) ≤ total ms
opens [] = omega arith
opens (Text text ∷ ms) = let rest = opens ms in omega (arith, rest)
opens (Pdu pdu ∷ ms) = let rest = opens ms in omega (arith, rest)
opens (Packet packet ∷ ms) =
    let first = packet_opens packet in
    let rest = opens ms in
    omega (arith, first, rest)

pub once : (config : ClientConfig) (put : List Message)
    → KeepsLength (RequestTells config ClientOut) put → AllByRecursion (MayGoOn (Some CoU)) put
    → sum asking put + sum replacing put ≤ 1
once config [] keeps may = omega arith
once config (Text text ∷ ms) keeps may =
    let each = opens ms in
    let long = spelled_total (Some CoU) ms may.1 in
    let within = keeps.2 in
    omega (arith, each, long, within, most keeps.0 keeps.1.0)
  where
    most : (told : ℕ) → (told ≡ 76) ⊎ (told ≡ 120) → told ≤ 120
    most told (inl is) = omega (arith, is)
    most told (inr is) = omega (arith, is)
once config (Pdu pdu ∷ ms) keeps may = absurd keeps
once config (Packet packet ∷ ms) keeps may = absurd keeps
