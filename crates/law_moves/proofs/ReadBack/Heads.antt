-- no message is read in a head
use Rattle.law_order.proofs.Vocabulary.{◌≡◌, List, ℕ, [], ◌++◌, sym, subst, Option, append-nil, IsPrefix}
use Rattle.rh_shell.specs.declared.stage.Stage.TheVariants as stage
use Rattle.law_moves.proofs.Vocabulary.{nil_front, IsFrame, Pipe, Stage, is_whole_head, first_stage, message_in, IsWholeText, ReadsNothing, messages_from, reading}
use Rattle.law_moves.proofs.ReadBack.Taking.{next_read}
use Rattle.law_moves.proofs.ReadBack.Frames.{frame_taken}
use Rattle.law_moves.proofs.ReadBack.WholeTexts.{head_taken}
use Rattle.law_moves.proofs.ReadBack.Puts.{read_of_none}

-- nothing is read behind it
head_alone : (pipe : Option Pipe) (text behind : List ℕ) → first_stage pipe ≡ stage.Head
    → IsWholeText is_whole_head text
    → ((front : List ℕ) → IsPrefix front behind
    → IsPrefix (messages_from pipe (reading stage.Frames []) front) [])
    → ReadsNothing pipe (text ++ behind)
head_alone pipe text behind first is nothing front p =
    let none = next_read pipe stage.Head text [] (head_taken pipe text is) front behind [] p nothing
    in
    subst (λ (at : Stage). messages_from pipe (reading at []) front ≡ []) (sym first)
    (nil_front (messages_from pipe (reading stage.Head []) front) none.0 none.1)

pub head_nothing : (pipe : Option Pipe) (text : List ℕ) → first_stage pipe ≡ stage.Head
    → IsWholeText is_whole_head text → ReadsNothing pipe text
head_nothing pipe text first is =
    subst (ReadsNothing pipe) (append-nil text)
    (head_alone pipe text [] first is (read_of_none pipe stage.Frames))

pub frame_nothing : (pipe : Option Pipe) (text frame : List ℕ) → first_stage pipe ≡ stage.Head
    → IsWholeText is_whole_head text → IsFrame frame → message_in pipe frame ≡ []
    → ReadsNothing pipe (text ++ frame)
frame_nothing pipe text frame first is is_frame none =
    head_alone pipe text frame first is (λ front p.
    next_read pipe stage.Frames frame [] (frame_taken pipe frame [] is_frame none) front [] []
    (subst (IsPrefix front) (sym (append-nil frame)) p) (read_of_none pipe stage.Frames))
