-- the statuses of the program: their numbers and texts
use Rattle.std.specs.Prelude.{ℕ, List, ◌++◌, codes}
use Rattle.std.specs.Fmt.{decimal}
use Rattle.rh_words.specs.declared.status.Status.{Status}
use Rattle.rh_words.specs.declared.status.Status.TheVariants.{Done, Usage, BadInput, ReadFault, WriteFault, NoMemory, TooLong}
use Rattle.rh_word.specs.declared.word.Ended.{Ended}
use Rattle.rh_word.specs.declared.word.Ended.TheVariants as ends

abbrev pub status_number : Status → ℕ
status_number Done = 0
status_number Usage = 1
status_number (BadInput line) = 2
status_number ReadFault = 3
status_number WriteFault = 4
status_number NoMemory = 8
status_number TooLong = 9

abbrev pub status_name : Status → List ℕ
status_name Done = codes "done"
status_name Usage = codes "usage"
status_name (BadInput line) = codes "bad input"
status_name ReadFault = codes "read fault"
status_name WriteFault = codes "write fault"
status_name NoMemory = codes "no memory"
status_name TooLong = codes "input too long"

-- its name, and the number of the bad line
abbrev pub status_text : Status → List ℕ
status_text (BadInput line) = status_name (BadInput line) ++ codes " " ++ decimal line
status_text status = status_name status

-- the status of how a word ended
abbrev pub status_of : Ended → Status
status_of ends.Done = Done
status_of (ends.BadInput line) = BadInput line
status_of ends.ReadFault = ReadFault
status_of ends.WriteFault = WriteFault
status_of ends.NoMemory = NoMemory
status_of ends.TooLong = TooLong
