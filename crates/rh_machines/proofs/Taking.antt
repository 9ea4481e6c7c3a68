-- the PDU that is taken stands at the front of the room
use Rattle.std.proofs.Common.{◌≡◌, ℕ, ◌+◌, Bool, true, false, List, [], ◌∷◌, ◌++◌, length, refl, sym, subst, ap, arith, ◌∙◌, take, drop}
use Rattle.std.specs.Prelude.{min, None, Some}
use Rattle.std.specs.declared.option.Option.{Option}
use Rattle.std.proofs.lemmas.List.{length-append}
use Rattle.std.proofs.Math.Seq.{take-append_seam}
use Rattle.rh_line.specs.declared.cause.Cause.{Cause}
use Rattle.rh_line.specs.declared.state.Take.{Take as Taking}
use Rattle.rh_line.specs.Lines as lines
use Rattle.rh_line.specs.Queue.{put_first}
use Rattle.rh_shell.specs.Rules.{Acts}
use Rattle.rh_shell.specs.Shells.{Shell}
use Rattle.rh_shell.specs.Ends as ends
use Rattle.rh_machines.specs.declared.event.NodeReply.TheVariants as reply
use Rattle.rh_machines.specs.Machines.{taken_len, first_pdu, taken_where, taken, taken_of}

least-is : (n m : ℕ) → n + m ≡ 8192 → min n 8192 ≡ n
least-is n m sum = omega (arith, sum)

-- a room that begins with these bytes and has 8,192
front-of-room : (pdu rest : List ℕ) → length (pdu ++ rest) ≡ 8192
    → take (min (length pdu) 8192) (pdu ++ rest) ≡ pdu
front-of-room pdu rest whole =
    subst (λ n. take n (pdu ++ rest) ≡ pdu)
    (sym (least-is (length pdu) (length rest) (sym (length-append pdu rest) ∙ whole)))
    (take-append_seam pdu rest)

by-pdus : (pdus : List (List ℕ)) (is_ended : Bool) (room : List ℕ)
    → length (put_first pdus room) ≡ 8192
    → take (min (taken_len (ends.take_of (lines.take_of pdus is_ended))) 8192)
    (put_first pdus room) ≡ first_pdu pdus
by-pdus [] true room whole = refl
by-pdus [] false room whole = refl
by-pdus (pdu ∷ pdus) is_ended room whole = front-of-room pdu (drop (length pdu) room) whole

module _ {S : Type 0} (acts : Acts S) (s : Shell S) where
  by-cause : (why : Option Cause) (room : List ℕ)
      → length (ends.room_where acts s room why) ≡ 8192
      → take (min (taken_len (ends.take_answer_where acts s why)) 8192)
      (ends.room_where acts s room why) ≡ taken_where acts s why
  by-cause (Some why) room whole = refl
  by-cause None room whole =
      by-pdus (acts.line s.role).current.pdus (lines.is_ended (acts.line s.role)) room whole

  taken-first : (room : List ℕ) → length (ends.room_after_take acts s room) ≡ 8192
      → take (min (taken_len (ends.take_answer acts s)) 8192) (ends.room_after_take acts s room)
      ≡ taken acts s
  taken-first room whole = by-cause (ends.cause_of s.course) room whole

  -- the block of the reply has it
  pub taken_block : (answer : Taking) (n : ℕ) (old now block : List ℕ)
      → answer ≡ ends.take_answer acts s
      → n ≡ taken_len answer
      → now ≡ ends.room_after_take acts s old
      → length now ≡ 8192
      → block ≡ take (min n 8192) now
      → reply.Taken answer block ≡ taken_of acts s
  taken_block answer n old now block answers counts puts whole is =
      let len : n ≡ taken_len (ends.take_answer acts s) = counts ∙ ap taken_len answers in
      let first : block ≡ taken acts s =
      is ∙ ap (λ m. take (min m 8192) now) len
      ∙ ap (λ bytes. take (min (taken_len (ends.take_answer acts s)) 8192) bytes) puts
      ∙ taken-first old (sym (ap length puts) ∙ whole) in
      ap (λ a. reply.Taken a block) answers
      ∙ ap (λ b. reply.Taken (ends.take_answer acts s) b) first
