-- the fields of commands, and the named packet that has them
use Rattle.std.specs.Prelude.{ℕ, zero, suc, List, [], ◌∷◌, map, replicate}
use Rattle.rh_rts.specs.declared.command.Address4or16.{Address4or16}
use Rattle.rh_rts.specs.declared.command.Address4or16.TheVariants.{V4}
use Rattle.rh_rts.specs.declared.command.Cookie.{Cookie}
use Rattle.rh_rts.specs.declared.command.Command.{Command}
use Rattle.rh_rts.specs.declared.command.Command.TheVariants as commands
use Rattle.rh_rts.specs.declared.command.CommandRef.{CommandRef}
use Rattle.rh_rts.specs.declared.command.TheConstants.{COOKIE_LEN, V4_LEN, ADDRESS_PADDING_LEN}
use Rattle.rh_rts.specs.Showing.{shown}
use Rattle.rh_sig.specs.declared.name.Name.{Name}
use Rattle.rh_sig.specs.declared.name.Name.TheVariants.{ConnA1, ConnA2, ConnA3, ConnB1, ConnB2}
use Rattle.rh_sig.specs.declared.name.Name.TheVariants.{ConnB3, ConnC1, ConnC2, InR1A1, InR1A2}
use Rattle.rh_sig.specs.declared.name.Name.TheVariants.{InR1A3, InR1A4, InR1A5, InR1A6, InR1B1}
use Rattle.rh_sig.specs.declared.name.Name.TheVariants.{InR1B2, InR2A2, InR2A3, InR2A4}
use Rattle.rh_sig.specs.declared.name.Name.TheVariants.{OutR1A1, OutR1A2, OutR1A3, OutR2C1, OutR1A4}
use Rattle.rh_sig.specs.declared.name.Name.TheVariants.{OutR1A5, OutR1A6, OutR1A7, OutR1A8, OutR1A9}
use Rattle.rh_sig.specs.declared.name.Name.TheVariants.{OutR1A10, EndA1, EndA2, EndB1, EndB2, Ack}
use Rattle.rh_sig.specs.declared.name.Name.TheVariants.{AckTo, KeepAlive, PingTraffic, Ping}
use Rattle.rh_sig.specs.declared.named.Named.{Named}
use Rattle.rh_sig.specs.declared.named.Named.TheVariants as named
use Rattle.rh_sig.specs.Values.{value_of}

-- commands as they stand in a packet's bytes
abbrev pub all_shown : List CommandRef → List Command
all_shown cs = map shown cs

-- ---- the fields, each with a value for the commands that don't have it

abbrev pub zeros : ℕ → List ℕ
zeros n = replicate n 0

abbrev pub cookie_of : Command → Cookie
cookie_of (commands.Cookie cookie) = cookie
cookie_of (commands.AssociationGroupId cookie) = cookie
cookie_of _ = record { 0 = zeros COOKIE_LEN }

abbrev pub received_of : Command → ℕ
received_of (commands.FlowControlAck received window cookie) = received
received_of _ = 0

abbrev pub window_of : Command → ℕ
window_of (commands.FlowControlAck received window cookie) = window
window_of _ = 0

abbrev pub ack_cookie_of : Command → Cookie
ack_cookie_of (commands.FlowControlAck received window cookie) = cookie
ack_cookie_of _ = record { 0 = zeros COOKIE_LEN }

abbrev pub address_of : Command → Address4or16
address_of (commands.ClientAddress address padding) = address
address_of _ = V4 (zeros V4_LEN)

abbrev pub padding_of : Command → List ℕ
padding_of (commands.ClientAddress address padding) = padding
padding_of _ = zeros ADDRESS_PADDING_LEN

-- ---- the places

abbrev pub first : List Command → Command
first [] = commands.Empty
first (c ∷ cs) = c

abbrev pub rest : List Command → List Command
rest [] = []
rest (c ∷ cs) = cs

-- the command in that place, counted from 0, and its fields
abbrev pub command_at : ℕ → List Command → Command
command_at zero cs = first cs
command_at (suc n) cs = command_at n (rest cs)

abbrev pub number_at : ℕ → List Command → ℕ
number_at n cs = value_of (command_at n cs)

abbrev pub cookie_at : ℕ → List Command → Cookie
cookie_at n cs = cookie_of (command_at n cs)

-- the named packet of that name, with the fields of these commands
abbrev pub value : Name → List Command → Named
value ConnA1 cs = named.ConnA1 (number_at 0 cs) (cookie_at 1 cs) (cookie_at 2 cs) (number_at 3 cs)
value ConnA2 cs =
    named.ConnA2 (number_at 0 cs) (cookie_at 1 cs) (cookie_at 2 cs) (number_at 3 cs)
    (number_at 4 cs)
value ConnA3 cs = named.ConnA3 (number_at 0 cs)
value ConnB1 cs =
    named.ConnB1 (number_at 0 cs) (cookie_at 1 cs) (cookie_at 2 cs) (number_at 3 cs)
    (number_at 4 cs) (cookie_at 5 cs)
value ConnB2 cs =
    named.ConnB2 (number_at 0 cs) (cookie_at 1 cs) (cookie_at 2 cs) (number_at 3 cs)
    (number_at 4 cs) (cookie_at 5 cs) (address_of (command_at 6 cs)) (padding_of (command_at 6 cs))
value ConnB3 cs = named.ConnB3 (number_at 0 cs) (number_at 1 cs)
value ConnC1 cs = named.ConnC1 (number_at 0 cs) (number_at 1 cs) (number_at 2 cs)
value ConnC2 cs = named.ConnC2 (number_at 0 cs) (number_at 1 cs) (number_at 2 cs)
value InR1A1 cs = named.InR1A1 (number_at 0 cs) (cookie_at 1 cs) (cookie_at 2 cs) (cookie_at 3 cs)
value InR1A2 cs =
    named.InR1A2 (number_at 0 cs) (cookie_at 1 cs) (cookie_at 2 cs) (cookie_at 3 cs)
    (number_at 4 cs) (number_at 5 cs)
value InR1A3 cs = named.InR1A3 (number_at 0 cs) (number_at 1 cs) (number_at 2 cs) (number_at 3 cs)
value InR1A4 cs = named.InR1A4 (number_at 0 cs) (number_at 1 cs) (number_at 2 cs) (number_at 3 cs)
value InR1A5 cs = named.InR1A5 (cookie_at 0 cs)
value InR1A6 cs = named.InR1A6 (cookie_at 0 cs)
value InR1B1 cs = named.InR1B1
value InR1B2 cs = named.InR1B2 (number_at 0 cs)
value InR2A2 cs = named.InR2A2 (cookie_at 0 cs)
value InR2A3 cs = named.InR2A3 (number_at 0 cs)
value InR2A4 cs = named.InR2A4 (number_at 0 cs)
value OutR1A1 cs = named.OutR1A1 (number_at 0 cs)
value OutR1A2 cs = named.OutR1A2 (number_at 0 cs)
value OutR1A3 cs =
    named.OutR1A3 (number_at 0 cs) (cookie_at 1 cs) (cookie_at 2 cs) (cookie_at 3 cs)
    (number_at 4 cs)
value OutR2C1 cs = named.OutR2C1
value OutR1A4 cs =
    named.OutR1A4 (number_at 0 cs) (cookie_at 1 cs) (cookie_at 2 cs) (cookie_at 3 cs)
    (number_at 4 cs) (number_at 5 cs) (number_at 6 cs)
value OutR1A5 cs = named.OutR1A5 (number_at 0 cs) (number_at 1 cs) (number_at 2 cs)
value OutR1A6 cs = named.OutR1A6 (number_at 0 cs) (number_at 1 cs) (number_at 2 cs)
value OutR1A7 cs = named.OutR1A7 (number_at 0 cs) (cookie_at 1 cs)
value OutR1A8 cs = named.OutR1A8 (number_at 0 cs) (cookie_at 1 cs)
value OutR1A9 cs = named.OutR1A9
value OutR1A10 cs = named.OutR1A10
value EndA1 cs = named.EndA1
value EndA2 cs = named.EndA2
value EndB1 cs = named.EndB1
value EndB2 cs = named.EndB2
value Ack cs =
    named.Ack (received_of (command_at 0 cs)) (window_of (command_at 0 cs))
    (ack_cookie_of (command_at 0 cs))
value AckTo cs =
    named.AckTo (number_at 0 cs) (received_of (command_at 1 cs)) (window_of (command_at 1 cs))
    (ack_cookie_of (command_at 1 cs))
value KeepAlive cs = named.KeepAlive (number_at 0 cs)
value PingTraffic cs = named.PingTraffic (number_at 0 cs)
value Ping cs = named.Ping
