-- the chains in the capture of a recording of roles (profile)
use Rattle.std.specs.Prelude.{◌≡◌, ◌≤◌, ℕ, List, [], map, None}
use Rattle.std.specs.List.{AllByRecursion, flat_map}
use mathlib.Core.List.{IsPrefix}
use Rattle.rh_text.specs.declared.ends.Dir.TheVariants.{D, U}
use Rattle.rh_line.specs.declared.leg.Leg.{Leg}
use Rattle.rh_line.specs.declared.leg.LegKind.{LegKind}
use Rattle.rh_line.specs.declared.leg.LegKind.TheVariants.{OutServer}
use Rattle.rh_sig.specs.declared.name.Pipe.TheVariants.{OsD}
use Rattle.rh_wires.specs.Wires.{receiver}
use Rattle.law_moves.specs.Wires.{of_leg}
use Rattle.rh_record.specs.declared.answer.Answer.{Answer}
use Rattle.rh_record.specs.declared.line.Line.{Line}
use Rattle.rh_nodes.specs.Settling.{leg_at}
use Rattle.rh_wires.specs.Readers.{reader_of}
use Rattle.rh_shell.specs.Rules.{Message, spell}
use Rattle.rh_audit.specs.Audits.{AreTags, unchained_in}
use Rattle.rh_audit.specs.Pipes.{first_pipe}
use Rattle.rh_audit.specs.Streams.{stream, stream_is}
use Rattle.rh_capture.specs.Captured.{captured}
use Rattle.rh_capture.specs.Legs.{tag_of}
use Rattle.rh_world.specs.declared.any_world.AnyWorld.{AnyWorld}
use Rattle.rh_world.specs.declared.any_world.AnyWorld.TheVariants.{Before, Direct, Settings, Roles}
use Rattle.rh_world.specs.Any.{after, answers}
use Rattle.rh_world.specs.Roles as roles
use Rattle.law_audit.specs.Chains.Successors.{IsChained, mets_of_leg}
use Rattle.law_audit.specs.Streams.Put.{behind_text}
use Rattle.law_peers_chains.specs.Shown.{came_up}
use Rattle.law_peers_chains.specs.Turns.{BeginInTurn, HaveOwn}
use Rattle.law_moves.specs.ReadBack.Reading.{all_read_of}
use Rattle.law_peers_moments.specs.Moments.{IsMoment, came_to, end_of, passages}
use Rattle.law_world_order.specs.Pasts.{moves_of, numbers}
use Rattle.law_world_audited.specs.Moving.Moved.{moved_on}
use Rattle.law_world_audited.specs.Moving.Sent.{sent_on}
use Rattle.law_world_audited.specs.Moving.Streams.{TellsStreams}
use Rattle.law_world_audited.specs.Moving.Tagged.{legs_met}

-- no leg has a greater number
abbrev pub IsMost : ℕ → List Leg → Type 0
IsMost most legs = AllByRecursion (λ (leg : Leg). leg.number ≤ most) legs

-- the tag of a leg of a kind, by its number
abbrev pub tag_at : List Answer → LegKind → ℕ → ℕ
tag_at answered kind n = tag_of (legs_met answered) (leg_at kind n)

-- by these messages in a stream towards the server, all that came there is read
abbrev pub IsAllThere : (answered : List Answer) (world : roles.World)
    → TellsStreams answered world → LegKind → ℕ → List Message → Type 0
IsAllThere answered world told kind n front =
    (let all = passages (numbers told.told.ours) (moves_of told.told.flowing) in
    IsPrefix front (behind_text (sent_on all world.readers (leg_at kind n) U))
    → stream (first_pipe kind) (moved_on (leg_at kind n) U answered)
    ≡ stream_is (map spell front) None
    → IsPrefix (came_up all (reader_of world.readers) kind n) (all_read_of front))

-- and so of a stream from the server to an out proxy
abbrev pub IsAllBack : (answered : List Answer) (world : roles.World)
    → TellsStreams answered world → ℕ → List Message → Type 0
IsAllBack answered world told n front =
    (let all = passages (numbers told.told.ours) (moves_of told.told.flowing) in
    let leg = leg_at OutServer n in
    IsPrefix front (behind_text (sent_on all world.readers leg D))
    → stream OsD (moved_on leg D answered) ≡ stream_is (map spell front) None
    → IsPrefix (of_leg leg (came_to all (end_of (reader_of world.readers) leg (receiver D))))
    (all_read_of front))

-- what these answers tell moved is streams, whose legs stand in chains
pub record TellsChains (answered : List Answer) (world : roles.World) : Type 0 where
  pub told : TellsStreams answered world
  pub moment : IsMoment (numbers told.told.ours) (reader_of world.readers)
      (moves_of told.told.flowing)
  pub came : (kind : LegKind) (n : ℕ) (front : List Message)
      → IsAllThere answered world told kind n front
  pub came_back : (n : ℕ) (front : List Message) → IsAllBack answered world told n front
  pub chained : (kind : LegKind) (tags : List ℕ) (most : ℕ) → AreTags (captured answered) tags
      → IsMost most (legs_met answered)
      → IsChained kind (captured answered) tags (tag_at answered kind) most
  -- so an audit tells of no tag that is in no chain
  pub none_left : (tags : List ℕ) → AreTags (captured answered) tags
      → flat_map (unchained_in (captured answered) tags) tags ≡ []
  -- a leg has its first packet only where the one of the channel before has
  pub turns : (kind : LegKind) → BeginInTurn kind (reader_of world.readers)
      (λ n. mets_of_leg kind (captured answered) (tag_at answered kind n))
  pub own : (kind : LegKind) → HaveOwn kind (reader_of world.readers)
      (λ n. mets_of_leg kind (captured answered) (tag_at answered kind n))

-- only a world of roles has nodes
abbrev pub TellsChainsIn : List Answer → AnyWorld → Type 0
TellsChainsIn answered Before = Unit {0}
TellsChainsIn answered (Direct world) = Unit {0}
TellsChainsIn answered (Settings config) = Unit {0}
TellsChainsIn answered (Roles world) = TellsChains answered world

-- behind the lines, with what they are answered
abbrev pub TellsChainsOf : List Line → Type 0
TellsChainsOf lines = TellsChainsIn (answers Before lines) (after Before lines)
