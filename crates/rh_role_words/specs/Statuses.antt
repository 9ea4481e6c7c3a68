-- the statuses of the role words: their numbers and texts
use Rattle.std.specs.Prelude.{ℕ, List, ◌++◌, codes, take}
use Rattle.std.specs.Fmt.{decimal}
use Rattle.rh_line.specs.Texts.{cause_text}
use Rattle.rh_net.specs.declared.address.Address.{Address}
use Rattle.rh_legs.specs.declared.end.NodeEnd.{NodeEnd}
use Rattle.rh_legs.specs.declared.end.NodeEnd.TheVariants as ends
use Rattle.rh_role_words.specs.declared.status.RoleStatus.{RoleStatus}
use Rattle.rh_role_words.specs.declared.status.RoleStatus.TheVariants.{Done, Usage, BadInput, ReadFault, WriteFault, NetFault, SpawnFault, Closed, NoMemory, CookieFault}

abbrev pub status_number : RoleStatus → ℕ
status_number Done = 0
status_number Usage = 1
status_number (BadInput pdu) = 2
status_number ReadFault = 3
status_number WriteFault = 4
status_number NetFault = 5
status_number SpawnFault = 6
status_number (Closed cause) = 7
status_number NoMemory = 8
status_number CookieFault = 10

abbrev pub status_name : RoleStatus → List ℕ
status_name Done = codes "done"
status_name Usage = codes "usage"
status_name (BadInput pdu) = codes "bad input"
status_name ReadFault = codes "read fault"
status_name WriteFault = codes "write fault"
status_name NetFault = codes "net fault"
status_name SpawnFault = codes "spawn fault"
status_name (Closed cause) = codes "closed"
status_name NoMemory = codes "no memory"
status_name CookieFault = codes "cookie fault"

-- its name, and the number of the bad PDU or the text of the cause
abbrev pub status_text : RoleStatus → List ℕ
status_text (BadInput pdu) = status_name (BadInput pdu) ++ codes " " ++ decimal pdu
status_text (Closed cause) = status_name (Closed cause) ++ codes " " ++ cause_text cause
status_text status = status_name status

-- where the net failed, a line behind that status
abbrev pub address_text : Address → List ℕ
address_text at = codes "at " ++ take at.len at.host ++ codes ":" ++ decimal at.port

-- the status of how a node ended
abbrev pub status_of : NodeEnd → RoleStatus
status_of ends.Ended = Done
status_of (ends.Closed cause) = Closed cause
status_of (ends.BadInput pdu) = BadInput pdu
status_of ends.ReadFault = ReadFault
status_of ends.WriteFault = WriteFault
status_of ends.NetFault = NetFault
status_of ends.SpawnFault = SpawnFault
status_of ends.NoMemory = NoMemory
status_of ends.CookieFault = CookieFault
