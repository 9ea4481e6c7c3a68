use Rattle.law_order.proofs.Vocabulary.{arith, refl}
use Rattle.rh_world.specs.Roles as roles
use Rattle.law_world_reports.proofs.Vocabulary.{AnyWorld, Before, Direct, Settings, Roles, after, prepared, step}
use Rattle.law_world_reports.proofs.Bounded.Reached.{IsRecorded, acted_is_recorded, behind_lines, prepared_is_recorded, reached_draws}
use Rattle.law_world_order.proofs.Recorded.{new, ours}
use Rattle.law_world_order.proofs.Vocabulary.{AreLeftIn}
use Rattle.law_world_order.proofs.cookies.cookies_of_a_recording_are_left.Goals as goal

pub returns : goal.returns
returns c before line =
    left (step (after Before before) line).0
    (acted_is_recorded (prepared (after Before before) line) line
    (prepared_is_recorded (after Before before) line (behind_lines Before before tt)))
  where
    left : (world : AnyWorld) → IsRecorded world → AreLeftIn world
    left Before is = tt
    left (Direct world) is = tt
    left (Settings config) is = tt
    left (Roles world) is =
        let most = c.cookies_are_drawn_for_channels.ensures roles.makers (roles.begun is.config)
        world (new is.config) (ours is.config) refl (reached_draws world is) in
        omega (arith, most)
