-- Lemmas that crates above cite, passed on from one place. Declares nothing.
pub use Rattle.law_moves.proofs.Chains.Along.{by_in_proxies, by_proxies, sum_plus, zeros}
pub use Rattle.law_moves.proofs.Chains.Summing.{all_legs, some_legs, sum_rises}
pub use Rattle.law_moves.proofs.Cuttings.{frame_leg, head_leg, here_is}
pub use Rattle.law_moves.proofs.EndFollowing.{open_phase}
pub use Rattle.law_moves.proofs.Following.{at_work, both, seated_held}
pub use Rattle.law_moves.proofs.Leading.{leads_keep, leads_none, leads_one, leads_then}
pub use Rattle.law_moves.proofs.Legible.Each.{each_parted}
pub use Rattle.law_moves.proofs.OnWires.{of_append}
pub use Rattle.law_moves.proofs.PacketKinds.Counts.{count_none, here_more, itself, kind_at_most, kind_here, kind_is, kind_rises, leg_at_most, leg_beside, leg_here, leg_is, leg_rises, none, one_counts, other_more}
pub use Rattle.law_moves.proofs.PacketKinds.Pays.{Rise, StepsPay, allowed_rise, any_rise, moves_pay}
pub use Rattle.law_moves.proofs.PacketKinds.Waits.{IsNoAck, IsSame, forwarded_waits, refused_waits, waits}
pub use Rattle.law_moves.proofs.Passages.Logs.{ActsKeep, Fact, PutKeeps, RowKeeps, StepsKeep, end_moves_keep, moves_keep}
pub use Rattle.law_moves.proofs.Passages.Messages.{all_append, bytes_append, bytes_rise, count_append, count_rises, each_so, has_last, has_more, kind_more, last_one_so, leg_more, one_more_so, one_so}
pub use Rattle.law_moves.proofs.Puttings.{empty_is}
pub use Rattle.law_moves.proofs.ReadBack.NoTexts.{no_texts_well}
pub use Rattle.law_moves.proofs.ReadBack.Seen.{seen_read}
pub use Rattle.law_moves.proofs.ReadBack.Taking.{TakesAt, next_byte, read_behind}
pub use Rattle.law_moves.proofs.TakenPieces.{on_leg_append}
pub use Rattle.law_moves.proofs.Takings.{grown, nothing_held}
