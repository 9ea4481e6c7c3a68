-- a server has finished an os leg of which it was not told that it is lost only once its work is
-- done
use Rattle.std.specs.List.{AllByRecursion}
use Rattle.rh_server.specs.Servers as server
use Rattle.law_order.proofs.Vocabulary.{◌≡◌, ◌∙◌, ℕ, List, Bool, true, false, true≢false, Some, refl, sym}
use Rattle.law_moves.proofs.Vocabulary.{Leg, Going, NearEnd, Rooms, Shell, begun, end_at, finished, is_at_work, is_in_use, is_marked, EndEvent, after_end_events}
use Rattle.law_role_server.proofs.Vocabulary.{Server}
use Rattle.law_node_history.proofs.Vocabulary.{AreAcceptedAtEnd, came_up, happened}
use Rattle.law_node_begins.specs.ProxiesBegin.Pipes.{os}
use Rattle.law_node_marks.specs.Losing.{KeepsLeg}
use Rattle.law_world_ways.specs.OnPaths.Lost.{was_lost}
use Rattle.law_world_ways.specs.ExactWays.Keeping.{KeepsIfOfUse}
use Rattle.law_world_downwards.proofs.Keeping.{all_keep}
use Rattle.law_world_downwards.proofs.OverLegs.{left}

pub record ServerLaws : Type 0 where
  pub unmarked : (first : Server) (rooms : Rooms) (events : List EndEvent) (leg : Leg)
      → was_lost leg (happened events) ≡ false → (end : NearEnd)
      → end_at (after_end_events server.rules server.acts (begun first rooms) events) leg
      ≡ Some end
      → is_marked end.standing ≡ false
  pub keeps : (window : ℕ) (events : List EndEvent) (leg : Leg)
      → AreAcceptedAtEnd server.rules server.acts (server.new_server window) events
      → came_up leg (happened events) ≡ true → was_lost leg (happened events) ≡ false
      → KeepsIfOfUse server.rules
      (after_end_events server.rules server.acts (server.new_server window) events) leg
  pub uses : (window : ℕ) (events : List EndEvent) (n : ℕ)
      → AreAcceptedAtEnd server.rules server.acts (server.new_server window) events
      → came_up (os n) (happened events) ≡ true
      → AllByRecursion (KeepsLeg (os n)) (happened events)
      → (let s = (after_end_events server.rules server.acts (server.new_server window)
      events).role in
      is_at_work server.rules s ≡ true → is_in_use server.rules s (os n) ≡ true)

module _ (law : ServerLaws) (window : ℕ) (events : List EndEvent) (n : ℕ)
    (accepted : AreAcceptedAtEnd server.rules server.acts (server.new_server window) events)
    (rose : came_up (os n) (happened events) ≡ true)
    (kept : was_lost (os n) (happened events) ≡ false) where
  abbrev node : Shell Server
  node = after_end_events server.rules server.acts (server.new_server window) events

  pub finished_rests : node.course ≡ Going → finished server.rules node (os n) ≡ true
      → is_at_work server.rules node.role ≡ false
  finished_rests going done = by (is_at_work server.rules node.role) refl
    where
      unused : is_in_use server.rules node.role (os n) ≡ false
      unused =
          left server.rules node (os n) going
          (law.unmarked (server.first window) server.rooms events (os n) kept) done
          (law.keeps window events (os n) accepted rose kept going)

      by : (b : Bool) → is_at_work server.rules node.role ≡ b
          → is_at_work server.rules node.role ≡ false
      by false rest = rest
      by true work =
          absurd (true≢false (sym (law.uses window events n accepted rose
          (all_keep (os n) (happened events) kept) work)
          ∙ unused))
