-- bytes are of a packet, or a first part of them is wrong
use Rattle.std.proofs.Common.{◌≡◌, ℕ, inl, List, length, drop, refl, subst}
use Rattle.std.specs.Prelude.{Some, None, Ok, Err}
use Rattle.std.specs.declared.option.Option.{Option}
use Rattle.std.specs.declared.result.Result.{Result}
use Rattle.rh_rts.specs.declared.fault.RtsFault.{RtsFault}
use Rattle.rh_rts.specs.Commands.{IsBytes}
use Rattle.rh_rts.specs.Packets.{Parts}
use Rattle.rh_rts.specs.Refusals.{IsHead, count_of}
use Rattle.rh_rts.specs.Judging.{Judged}
use Rattle.rh_rts.specs.Reading.{header_fault, body_fault, read_packet}
use Rattle.rh_rts.proofs.Heads.{HeadIs, head_is}
use Rattle.rh_rts.proofs.Fields.{IsBytes-drop}
use Rattle.rh_rts.proofs.Bodies.{all_listed, first_found}
use Rattle.rh_rts.proofs.Packets.{is_packet, is_first}
use Rattle.rh_rts.proofs.OneReading.{judged_so}

of_body : (b : List ℕ) → IsBytes b → IsHead b → (wrong : Option RtsFault)
    → body_fault (length b) (count_of b) (drop 20 b) ≡ wrong → (verdict : Result Parts RtsFault)
    × Judged b verdict
of_body b fits head None body = (
  Ok _,
  is_packet b fits head
      (all_listed (length b) (count_of b) (drop 20 b) (IsBytes-drop 20 b fits) body),
)
of_body b fits head (Some wrong) body =
    let first = first_found (length b) (count_of b) (drop 20 b) wrong
    (IsBytes-drop 20 b fits) body in
    (Err wrong, is_first b (drop 20 b) (count_of b) wrong head refl refl first)

of_head : (b : List ℕ) → IsBytes b → (wrong : Option RtsFault) → HeadIs b wrong
    → (verdict : Result Parts RtsFault) × Judged b verdict
of_head b fits None head = of_body b fits head (body_fault (length b) (count_of b) (drop 20 b)) refl
of_head b fits (Some wrong) head = (Err wrong, inl head)

pub some_verdict : (b : List ℕ) → IsBytes b → (verdict : Result Parts RtsFault) × Judged b verdict
some_verdict b fits = of_head b fits (header_fault b) (head_is b)

-- what is read is so
pub judged : (b : List ℕ) → IsBytes b → Judged b (read_packet b)
judged b fits =
    let some = some_verdict b fits in
    subst (λ (r : Result Parts RtsFault). Judged b r) (judged_so b some.0 some.1) some.1
