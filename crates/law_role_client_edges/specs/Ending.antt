-- how a client's work is done (MS-RPCH 3.2.2.5; the clean end and replacements are this profile's)
use Rattle.std.specs.Prelude.{◌≡◌, ◌+◌}
use Rattle.rh_sig.specs.declared.named.Named.TheVariants.{EndA1, EndB2}
use Rattle.rh_client.specs.declared.replacement.Replacement.TheVariants.{NoneUnderWay}
use Rattle.rh_client.specs.declared.state.ClientRole.{ClientRole}
use Rattle.rh_client.specs.State.{ci, co}
use Rattle.law_moves.specs.Moves.{Passage}
use Rattle.law_moves.specs.Passages.Passing.{Has}
use Rattle.law_moves.specs.Wires.{of_leg}
use Rattle.law_role_client.specs.Counted.Replacing.{OutStands, in_answered, in_asked, in_handed_over}

-- END/A1 was put on the writing channel, and END/B2 came on the current one; no replacement is
-- under way: as many successors were asked for as channels were handed over or finished, and the
-- writing and the current channel have the numbers behind these
pub record EndsLast (p : Passage ClientRole) : Type 0 where
  pub put : Has EndA1 (of_leg (ci p.role.writing.number) p.put)
  pub came : Has EndB2 (of_leg (co p.role.current.number) p.came)
  pub replaced : p.role.replacement ≡ NoneUnderWay
  pub outs : OutStands p 0 0 0 1
  pub in_answers : in_answered p ≡ in_handed_over p
  pub in_asks : in_asked p ≡ in_handed_over p
  pub in_number : p.role.writing.number ≡ in_handed_over p + 1
