-- the words for packets and for pipes
use Rattle.std.specs.Prelude.{ℕ, List, codes}
use Rattle.rh_sig.specs.declared.name.Name.{Name}
use Rattle.rh_sig.specs.declared.name.Name.TheVariants.{ConnA1, ConnA2, ConnA3, ConnB1, ConnB2}
use Rattle.rh_sig.specs.declared.name.Name.TheVariants.{ConnB3, ConnC1, ConnC2, InR1A1, InR1A2}
use Rattle.rh_sig.specs.declared.name.Name.TheVariants.{InR1A3, InR1A4, InR1A5, InR1A6, InR1B1}
use Rattle.rh_sig.specs.declared.name.Name.TheVariants.{InR1B2, InR2A2, InR2A3, InR2A4}
use Rattle.rh_sig.specs.declared.name.Name.TheVariants.{OutR1A1, OutR1A2, OutR1A3, OutR2C1, OutR1A4}
use Rattle.rh_sig.specs.declared.name.Name.TheVariants.{OutR1A5, OutR1A6, OutR1A7, OutR1A8, OutR1A9}
use Rattle.rh_sig.specs.declared.name.Name.TheVariants.{OutR1A10, EndA1, EndA2, EndB1, EndB2, Ack}
use Rattle.rh_sig.specs.declared.name.Name.TheVariants.{AckTo, KeepAlive, PingTraffic, Ping}
use Rattle.rh_sig.specs.declared.name.Pipe.{Pipe}
use Rattle.rh_sig.specs.declared.name.Pipe.TheVariants.{CiU, IsU, IsD, CoU, CoD, OsU, OsD}

-- what a packet is called: those of opening, flow control and pings by MS-RPCH 2.2.4, those of
-- replacement and of a clean end by the profile
abbrev pub name_word : Name → List ℕ
name_word ConnA1 = codes "CONN/A1"
name_word ConnA2 = codes "CONN/A2"
name_word ConnA3 = codes "CONN/A3"
name_word ConnB1 = codes "CONN/B1"
name_word ConnB2 = codes "CONN/B2"
name_word ConnB3 = codes "CONN/B3"
name_word ConnC1 = codes "CONN/C1"
name_word ConnC2 = codes "CONN/C2"
name_word InR1A1 = codes "IN_R1/A1"
name_word InR1A2 = codes "IN_R1/A2"
name_word InR1A3 = codes "IN_R1/A3"
name_word InR1A4 = codes "IN_R1/A4"
name_word InR1A5 = codes "IN_R1/A5"
name_word InR1A6 = codes "IN_R1/A6"
name_word InR1B1 = codes "IN_R1/B1"
name_word InR1B2 = codes "IN_R1/B2"
name_word InR2A2 = codes "IN_R2/A2"
name_word InR2A3 = codes "IN_R2/A3"
name_word InR2A4 = codes "IN_R2/A4"
name_word OutR1A1 = codes "OUT_R1/A1"
name_word OutR1A2 = codes "OUT_R1/A2"
name_word OutR1A3 = codes "OUT_R1/A3"
name_word OutR2C1 = codes "OUT_R2/C1"
name_word OutR1A4 = codes "OUT_R1/A4"
name_word OutR1A5 = codes "OUT_R1/A5"
name_word OutR1A6 = codes "OUT_R1/A6"
name_word OutR1A7 = codes "OUT_R1/A7"
name_word OutR1A8 = codes "OUT_R1/A8"
name_word OutR1A9 = codes "OUT_R1/A9"
name_word OutR1A10 = codes "OUT_R1/A10"
name_word EndA1 = codes "END/A1"
name_word EndA2 = codes "END/A2"
name_word EndB1 = codes "END/B1"
name_word EndB2 = codes "END/B2"
name_word Ack = codes "FlowControlAck"
name_word AckTo = codes "FlowControlAckWithDestination"
name_word KeepAlive = codes "Keep-Alive"
name_word PingTraffic = codes "PingTrafficSentNotify"
name_word Ping = codes "Ping"

-- a pipe: the kind of its leg and the direction
abbrev pub pipe_word : Pipe → List ℕ
pipe_word CiU = codes "ciu"
pipe_word IsU = codes "isu"
pipe_word IsD = codes "isd"
pipe_word CoU = codes "cou"
pipe_word CoD = codes "cod"
pipe_word OsU = codes "osu"
pipe_word OsD = codes "osd"
