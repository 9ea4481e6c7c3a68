-- what a pipe holds, and what its reader and its writer are answered
use Rattle.std.specs.Prelude.{ℕ, ◌-◌, ◌==◌, min, Bool, true, false, if◌then◌else◌, List, length}
use Rattle.rh_net.specs.declared.in_memory.pipe.TheConstants.{PIPE_ROOM}
use Rattle.rh_net.specs.declared.in_memory.pipe.Side.{Side}
use Rattle.rh_net.specs.declared.in_memory.pipe.Side.TheVariants.{There, Gone}
use Rattle.rh_net.specs.declared.in_memory.pipe.Found.{Found}
use Rattle.rh_net.specs.declared.in_memory.pipe.Found.TheVariants as finds
use Rattle.rh_net.specs.declared.in_memory.pipe.Put.{Put}
use Rattle.rh_net.specs.declared.in_memory.pipe.Put.TheVariants as puts

-- a pipe: the bytes written and not read, and whether its writer and its reader go on
pub record Held : Type 0 where
  pub bytes : List ℕ
  pub writer : Side
  pub reader : Side

-- what a reader finds where there is no byte
abbrev pub found_none : Side → Found
found_none There = finds.Nothing
found_none Gone = finds.End

-- what a reader with so much room finds
abbrev pub found : Held → ℕ → Found
found p room = if length p.bytes == 0 then found_none p.writer
    else finds.Bytes (min room (length p.bytes))

-- a reader finds bytes, or the end
abbrev pub is_some : Found → Bool
is_some finds.Nothing = false
is_some finds.End = true
is_some (finds.Bytes n) = true

-- a reader with any room finds bytes, or the end
abbrev pub is_ready : Held → Bool
is_ready p = is_some (found p 1)

-- how many bytes a reader found
abbrev pub count_found : Found → ℕ
count_found (finds.Bytes n) = n
count_found finds.End = 0
count_found finds.Nothing = 0

-- what becomes of so many bytes where this is the reader, and so many are free
abbrev pub put_to : Side → ℕ → ℕ → Put
put_to Gone free count = puts.NoReader
put_to There free count = if free == 0 then puts.Full else puts.Bytes (min count free)

-- what becomes of so many bytes
abbrev pub put : Held → ℕ → Put
put p count = put_to p.reader (PIPE_ROOM - length p.bytes) count

-- how many bytes a pipe took
abbrev pub count_put : Put → ℕ
count_put (puts.Bytes n) = n
count_put puts.NoReader = 0
count_put puts.Full = 0
