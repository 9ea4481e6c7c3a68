-- looking a name up in the table, row by row
use Rattle.std.specs.Prelude.{◌==◌, ◌&&◌, ◌||◌, ℕ, List, [], ◌∷◌, Bool, false, if◌then◌else◌, Some}
use Rattle.std.specs.Prelude.{None}
use Rattle.std.specs.Str.{bytes_eq}
use Rattle.std.specs.declared.option.Option.{Option}
use Rattle.rh_sig.specs.declared.name.Name.{Name}
use Rattle.rh_sig.specs.declared.name.Name.TheVariants.{ConnA1, ConnA2, ConnA3, ConnB1, ConnB2}
use Rattle.rh_sig.specs.declared.name.Name.TheVariants.{ConnB3, ConnC1, ConnC2, InR1A1, InR1A2}
use Rattle.rh_sig.specs.declared.name.Name.TheVariants.{InR1A3, InR1A4, InR1A5, InR1A6, InR1B1}
use Rattle.rh_sig.specs.declared.name.Name.TheVariants.{InR1B2, InR2A2, InR2A3, InR2A4}
use Rattle.rh_sig.specs.declared.name.Name.TheVariants.{OutR1A1, OutR1A2, OutR1A3, OutR2C1, OutR1A4}
use Rattle.rh_sig.specs.declared.name.Name.TheVariants.{OutR1A5, OutR1A6, OutR1A7, OutR1A8, OutR1A9}
use Rattle.rh_sig.specs.declared.name.Name.TheVariants.{OutR1A10, EndA1, EndA2, EndB1, EndB2, Ack}
use Rattle.rh_sig.specs.declared.name.Name.TheVariants.{AckTo, KeepAlive, PingTraffic, Ping}
use Rattle.rh_sig.specs.declared.name.Pipe.{Pipe}
use Rattle.rh_sig.specs.declared.name.Pipe.TheVariants.{CiU, IsU, IsD, CoU, CoD, OsU, OsD}
use Rattle.rh_sig.specs.Names.{row_of}

-- each pipe by its place in a list of all
abbrev pub place : Pipe → ℕ
place CiU = 0
place IsU = 1
place IsD = 2
place CoU = 3
place CoD = 4
place OsU = 5
place OsD = 6

-- whether the pipe is one of these
abbrev pub carries : List Pipe → Pipe → Bool
carries [] pipe = false
carries (q ∷ qs) pipe = (place q == place pipe) || carries qs pipe

-- whether flags and types are those of a row
unfoldable pub fits : ℕ → List ℕ → ℕ → List ℕ → Bool
fits flags types told kinds = (flags == told) && bytes_eq types kinds

-- the names in the order of the table
unfoldable pub names : List Name
names =
    ConnA1 ∷ ConnA2 ∷ ConnA3 ∷ ConnB1 ∷ ConnB2 ∷ ConnB3 ∷ ConnC1 ∷ ConnC2 ∷ InR1A1 ∷ InR1A2 ∷
    InR1A3 ∷ InR1A4 ∷ InR1A5 ∷ InR1A6 ∷ InR1B1 ∷ InR1B2 ∷ InR2A2 ∷ InR2A3 ∷ InR2A4 ∷ OutR1A1 ∷
    OutR1A2 ∷ OutR1A3 ∷ OutR2C1 ∷ OutR1A4 ∷ OutR1A5 ∷ OutR1A6 ∷ OutR1A7 ∷ OutR1A8 ∷ OutR1A9 ∷
    OutR1A10 ∷ EndA1 ∷ EndA2 ∷ EndB1 ∷ EndB2 ∷ Ack ∷ AckTo ∷ KeepAlive ∷ PingTraffic ∷ Ping ∷ []

-- the first of the names whose row lists the pipe and has these flags and types
abbrev pub found : List Name → Pipe → ℕ → List ℕ → Option Name
found [] pipe flags types = None
found (name ∷ names) pipe flags types =
    if carries (row_of name).pipes pipe && fits (row_of name).flags (row_of name).types flags types
    then Some name else found names pipe flags types
