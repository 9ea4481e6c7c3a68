-- how many IN channels a server answers while an acknowledgement waits
use Rattle.law_order.proofs.Vocabulary.{◌≡◌, ℕ, ◌+◌, ◌*◌, ◌≤◌, List, [], ◌∷◌, ◌++◌, append_assoc, length, sym, ◌∙◌, subst, arith}
use Rattle.law_moves.proofs.Vocabulary.{EndMove, Passage}
use Rattle.law_role_server.proofs.Vocabulary.{Server, is_in_r1_a3, is_in_r2_a3, out_put, waits_for}
use Rattle.law_role_server_in.specs.Handovers.{passed}
use Rattle.law_peers_room.specs.ServerRoom.Overtaking.{AreLong, FewOvertake, answer_bytes, due_bytes, is_ack_for}
use Rattle.law_peers_forwarding.proofs.ServerFull.Grows.{put_grows}
use Rattle.law_peers_forwarding.specs.ServerFull.Oldest.{Oldest}
use Rattle.law_peers_forwarding.specs.ServerFull.Taken.{FewAreTaken}

-- of 52 bytes and of 28
few_fit : (first second first_then second_then one two : ℕ) → first_then ≤ first
    → second_then ≤ second → one + two ≤ 1
    → 52 * first + 28 * second
    ≤ 52 * first_then + 28 * second_then + (52 * one + 28 * two) + 311
    → first + second ≤ first_then + second_then + (one + two) + 11
few_fit first second first_then second_then one two grows more most bytes =
    omega (arith, grows, more, most, bytes)

module _ (window : ℕ) (moves : List EndMove) (oldest : Oldest window moves) where
  abbrev behind : List EndMove
  behind = oldest.front ++ oldest.move ∷ []

  abbrev now : Passage Server
  now = passed window moves

  abbrev was : Passage Server
  was = passed window behind

  same : moves ≡ behind ++ oldest.later
  same = oldest.is ∙ sym (append_assoc oldest.front (oldest.move ∷ []) oldest.later)

  taken : ((front later : List EndMove) → FewOvertake window front later) → (least : ℕ)
      → AreLong least now.came → 56 * length was.role.waiting.due + 312 ≤ least
      → waits_for is_in_r1_a3 was.role + waits_for is_in_r2_a3 was.role ≤ 1
      → out_put is_in_r1_a3 now + out_put is_in_r2_a3 now
      ≤ out_put is_in_r1_a3 was + out_put is_in_r2_a3 was
      + (waits_for is_in_r1_a3 was.role + waits_for is_in_r2_a3 was.role) + 11
  taken few least long room most =
      few_fit (out_put is_in_r1_a3 now) (out_put is_in_r2_a3 now) (out_put is_in_r1_a3 was)
      (out_put is_in_r2_a3 was) (waits_for is_in_r1_a3 was.role) (waits_for is_in_r2_a3 was.role)
      (subst (λ (ms : List EndMove). out_put is_in_r1_a3 was ≤ out_put is_in_r1_a3
      (passed window ms)) (sym same) (put_grows is_in_r1_a3 window behind oldest.later))
      (subst (λ (ms : List EndMove). out_put is_in_r2_a3 was ≤ out_put is_in_r2_a3
      (passed window ms)) (sym same) (put_grows is_in_r2_a3 window behind oldest.later))
      most
      (subst (λ (ms : List EndMove). AreLong least (passed window ms).came
      → out_put (is_ack_for oldest.channel) (passed window ms)
      ≤ out_put (is_ack_for oldest.channel) was
      → answer_bytes (passed window ms) ≤ answer_bytes was + due_bytes was.role + 311) (sym same)
      (λ long_then stays.
      few behind oldest.later least oldest.channel long_then room oldest.waited stays)
      long oldest.stays)

pub few_taken : (window : ℕ) (moves : List EndMove)
    → ((front later : List EndMove) → FewOvertake window front later) → FewAreTaken window moves
few_taken window moves few oldest least long room most =
    taken window moves oldest few least long room most
