-- packets that were read from bytes
use Rattle.std.specs.Prelude.{ℕ, ◌≡◌, List, Some, Ok}
use Rattle.rh_rts.specs.Commands.{IsBytes}
use Rattle.rh_sig.specs.declared.name.Pipe.{Pipe}
use Rattle.rh_sig.specs.declared.named.Named.{Named}
use Rattle.rh_shell.specs.Readings.{packet_of}

-- some bytes are this packet on some pipe
pub record WasRead (named : Named) : Type 0 where
  pub pipe : Pipe
  pub frame : List ℕ
  pub bytes : IsBytes frame
  pub reads : packet_of frame (Some pipe) ≡ Ok named
