-- what goes up to a server before it put CONN/C1 (MS-RPCH 3.2.5; profile)
use Rattle.std.specs.Prelude.{◌≡◌, ℕ, List, true}
use Rattle.std.specs.List.{AllByRecursion}
use Rattle.rh_sig.specs.declared.named.Named.{Named}
use Rattle.rh_sig.specs.declared.named.Named.TheVariants.{AckTo, ConnA2}
use Rattle.rh_sig.specs.Values.{IsLifetime}
use Rattle.rh_line.specs.declared.leg.LegKind.TheVariants.{ClientIn}
use Rattle.rh_shell.specs.Rules.{Message}
use Rattle.rh_inproxy.specs.State.{InProxy}
use Rattle.rh_server.specs.States.{Server}
use Rattle.law_moves.specs.Moves.{OnLeg, Passage}
use Rattle.law_moves.specs.Passages.Passing.{of_kind}
use Rattle.law_role_client.specs.Counted.Counting.{is_greeting}
use Rattle.law_role_server.specs.Counted.Counting.{in_came, is_ack_to, is_conn_c1, out_put}
use Rattle.law_role_server.specs.Counted.BeforeC1.{HaveRoom}
use Rattle.law_role_windows.specs.Acknowledging.Acks.{OfPacket}
use Rattle.law_peers_moments.specs.Moments.{Numbers}

-- ---- an in proxy

-- CONN/B1 and Pings alone came from the client
abbrev pub HasGreeted : List OnLeg → Type 0
HasGreeted came = AllByRecursion (λ (m : Message). is_greeting m ≡ true) (of_kind ClientIn came)

-- neither an acknowledgement with a destination nor CONN/A2
abbrev pub IsQuiet : Named → Type 0
IsQuiet (AckTo to received available cookie) = ⊥
IsQuiet (ConnA2 version connection channel lifetime window) = ⊥
IsQuiet packet = Unit {0}

-- as long as that is so, it puts no such packet
abbrev pub PutsQuietly : Passage InProxy → Type 0
PutsQuietly p = HasGreeted p.came → AllByRecursion (OfPacket IsQuiet) p.put

-- ---- a server

-- no acknowledgement with a destination came before CONN/C1 was put
abbrev pub IsNotEarly : Passage Server → Type 0
IsNotEarly p = out_put is_conn_c1 p ≡ 0 → (to : ℕ) → in_came (is_ack_to to) p ≡ 0

-- and the lifetime that CONN/A2 told until then has room for it
abbrev pub HasRoomForC1 : Passage Server → Type 0
HasRoomForC1 p = out_put is_conn_c1 p ≡ 0 → HaveRoom p.came

-- out proxies tell lifetimes that are in range (MS-RPCH 2.2.3.5)
abbrev pub HaveLifetimes : Numbers → Type 0
HaveLifetimes numbers = (n : ℕ) → IsLifetime (numbers.outs n).lifetime
