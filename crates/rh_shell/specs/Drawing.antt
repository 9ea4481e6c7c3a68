-- bytes are drawn from a leg: the role puts a message each time the last one is drawn to its end
-- (profile)
use Rattle.std.specs.Prelude.{ℕ, zero, suc, List, [], ◌∷◌, ◌&&◌, not, if◌then◌else◌}
use Rattle.rh_shell.specs.NearEnds.{NearEnd, is_empty, is_over}
use Rattle.rh_shell.specs.Rules.{Rules, put_into}

-- a leg's end and the role, and the bytes that were drawn
pub record Drawn (S : Type 0) : Type 0 where
  pub end : NearEnd
  pub role : S
  pub bytes : List ℕ

abbrev pub drawn : {S : Type 0} → NearEnd → S → List ℕ → Drawn S
drawn end role bytes = record { end = end; role = role; bytes = bytes }

-- a message is begun, where it has bytes
abbrev pub begun_now : ℕ → NearEnd → List ℕ → NearEnd
begun_now now end [] = end
begun_now now end (b ∷ bs) = record end { begun = b ∷ bs; put_at = now }

abbrev pub put_on : {S : Type 0} → ℕ → NearEnd → S × List ℕ → Drawn S
put_on now end put = drawn (begun_now now end put.1) put.0 []

-- the next message is put, where the last one is drawn to its end and one may go
abbrev pub filled : {S : Type 0} → Rules S → ℕ → NearEnd → S → Drawn S
filled rules now end role =
    if is_empty end.begun && not (is_over rules end role)
    then put_on now end (put_into role (rules.put role end.leg))
    else drawn end role []

-- bytes are left to draw, or the message is drawn to its end
abbrev pub left_by : {S : Type 0} → Rules S → NearEnd → S → List ℕ → Drawn S
left_by rules end role [] = drawn (record end { begun = [] }) (rules.drawn role end.leg) []
left_by rules end role (b ∷ bs) = drawn (record end { begun = b ∷ bs }) role []

-- a byte goes, and then those behind it
abbrev pub next_byte : {S : Type 0} → Rules S → Drawn S → List ℕ
    → (NearEnd → S → Drawn S) → Drawn S
next_byte rules f [] more = f
next_byte rules f (b ∷ bs) more =
    let left = left_by rules f.end f.role bs in
    let behind = more left.end left.role in drawn behind.end behind.role (b ∷ behind.bytes)

-- up to so many bytes, one after the other
unfoldable pub draw : {S : Type 0} → Rules S → ℕ → ℕ → NearEnd → S → Drawn S
draw rules now zero end role = drawn end role []
draw rules now (suc n) end role =
    let f = filled rules now end role in next_byte rules f f.end.begun (draw rules now n)
