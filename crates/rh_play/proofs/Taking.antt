-- a PDU that is taken stands at the front of the room
use Rattle.std.proofs.Common.{◌≡◌, ℕ, List, [], ◌∷◌, ◌++◌, Bool, true, false, length, take, drop, Some, None, refl, ap}
use Rattle.std.proofs.Math.Seq.{take-append_seam}
use Rattle.std.specs.declared.option.Option.{Option}
use Rattle.rh_line.specs.declared.cause.Cause.{Cause}
use Rattle.rh_line.specs.Lines as lines
use Rattle.rh_line.specs.Queue.{put_first}
use Rattle.rh_record.specs.declared.answer.TakeAnswer.TheVariants as takes
use Rattle.rh_shell.specs.Rules.{Acts}
use Rattle.rh_shell.specs.Shells.{Shell}
use Rattle.rh_shell.specs.Ends as ends
use Rattle.rh_play.specs.Nodes as seen

took_of : (pdus : List (List ℕ)) (ended : Bool) (room : List ℕ)
    → seen.take_answer (ends.take_of (lines.take_of pdus ended)) (put_first pdus room)
    ≡ seen.took_first (ends.take_of (lines.take_of pdus ended)) pdus
took_of [] true room = refl
took_of [] false room = refl
took_of (pdu ∷ pdus) ended room =
    ap (λ (x : List ℕ). takes.Pdu x) (take-append_seam pdu (drop (length pdu) room))

took_where : {S : Type 0} (acts : Acts S) (s : Shell S) (room : List ℕ) (cause : Option Cause)
    → seen.take_answer (ends.take_answer_where acts s cause) (ends.room_where acts s room cause)
    ≡ seen.took_first (ends.take_answer_where acts s cause) (acts.line s.role).current.pdus
took_where acts s room (Some why) = refl
took_where acts s room None =
    took_of (acts.line s.role).current.pdus (lines.is_ended (acts.line s.role)) room

pub took : {S : Type 0} (acts : Acts S) (s : Shell S) (room : List ℕ)
    → seen.take_answer (ends.take_answer acts s) (ends.room_after_take acts s room)
    ≡ seen.took_first (ends.take_answer acts s) (acts.line s.role).current.pdus
took acts s room = took_where acts s room (ends.cause_of s.course)
