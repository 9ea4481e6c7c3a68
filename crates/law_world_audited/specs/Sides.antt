-- what an audit joins of the capture of a recording of roles is what order sees in messages that were
-- put (profile)
use Rattle.std.specs.Prelude.{◌≡◌, ℕ, List, is_some, map, None}
use mathlib.Core.List.{IsPrefix}
use Rattle.rh_text.specs.declared.ends.Dir.{Dir}
use Rattle.rh_text.specs.declared.ends.Dir.TheVariants.{U, D}
use Rattle.rh_line.specs.declared.leg.LegKind.{LegKind}
use Rattle.rh_line.specs.declared.leg.LegKind.TheVariants.{ClientOut, OutServer, ClientIn, InServer}
use Rattle.rh_record.specs.declared.answer.Answer.{Answer}
use Rattle.rh_record.specs.declared.line.Line.{Line}
use Rattle.rh_nodes.specs.Settling.{leg_at}
use Rattle.rh_shell.specs.Rules.{Message, spell}
use Rattle.rh_audit.specs.Audits.{AreTags}
use Rattle.rh_audit.specs.Chains.{chain, legs}
use Rattle.rh_audit.specs.Pipes.{pdu_pipe}
use Rattle.rh_audit.specs.Streams.{first_among, stream, stream_is}
use Rattle.rh_capture.specs.Captured.{captured}
use Rattle.rh_world.specs.declared.any_world.AnyWorld.{AnyWorld}
use Rattle.rh_world.specs.declared.any_world.AnyWorld.TheVariants.{Before, Direct, Settings, Roles}
use Rattle.rh_world.specs.Any.{after, answers}
use Rattle.rh_world.specs.Roles as roles
use Rattle.law_order.specs.Items.{Item}
use Rattle.law_order.specs.Logs.{seen}
use Rattle.law_audit.specs.FarAndNear.Seen.{Side}
use Rattle.law_audit.specs.Carrying.Fronts.{AreLegsOf}
use Rattle.law_audit.specs.Carrying.Items.{Fits}
use Rattle.law_audit.specs.Streams.Put.{behind_text}
use Rattle.law_audit.specs.Chains.Successors.{mets_of_leg}
use Rattle.law_peers_moments.specs.Moments.{passages}
use Rattle.law_world_order.specs.Pasts.{moves_of, numbers}
use Rattle.law_world_audited.specs.Moving.Moved.{moved_on}
use Rattle.law_world_audited.specs.Moving.Sent.{sent_on}
use Rattle.law_world_audited.specs.Moving.Streams.{TellsStreams}
use Rattle.law_world_audited.specs.Moving.Tagged.{legs_met}
use Rattle.law_world_audited.specs.LegsInChains.Chained.{IsMost, TellsChains, tag_at}

-- the way of RPC PDUs on a leg
abbrev pub pdu_dir : LegKind → Dir
pdu_dir ClientIn = U
pdu_dir InServer = U
pdu_dir ClientOut = D
pdu_dir OutServer = D

-- what was put that way on the leg of a number
abbrev pub put_on : (answered : List Answer) (world : roles.World) → TellsStreams answered world
    → LegKind → ℕ → List Message
put_on answered world told kind n =
    sent_on (passages (numbers told.told.ours) (moves_of told.told.flowing)) world.readers
    (leg_at kind n) (pdu_dir kind)

-- the items that order sees in the messages whose bytes moved there, which are the first of those
-- that were put
pub record IsSeenOf (kind : LegKind) (view : Message → List Item) (put : List Message)
    (bytes : List ℕ) (items : List Item) : Type 0 where
  pub front : List Message
  pub of_put : IsPrefix front (behind_text put)
  pub read : stream (pdu_pipe kind) bytes ≡ stream_is (map spell front) None
  pub is : items ≡ seen view front

-- a side has the legs of a kind whose first packet is in the capture
pub record IsSideOf (answered : List Answer) (world : roles.World)
    (told : TellsStreams answered world) (kind : LegKind) (view : Message → List Item) (most : ℕ)
    (side : Side) : Type 0 where
  pub there : (n : ℕ) → side.there n
      ≡ is_some (first_among (mets_of_leg kind (captured answered) (tag_at answered kind n)))
  pub seen : (n : ℕ) → IsSeenOf kind view (put_on answered world told kind n)
      (moved_on (leg_at kind n) (pdu_dir kind) answered) (side.seen n)
  pub last : side.most ≡ most

-- so it is for what the chain of the kind joins
pub record IsJoined (answered : List Answer) (world : roles.World)
    (told : TellsStreams answered world) (kind : LegKind) (view : Message → List Item)
    (tags : List ℕ) (most : ℕ) : Type 0 where
  pub side : Side
  pub is_side : IsSideOf answered world told kind view most side
  pub are_legs : AreLegsOf side (chain (legs kind (captured answered) tags))

pub record TellsSides (answered : List Answer) (world : roles.World) : Type 0 where
  pub chains : TellsChains answered world
  pub sides : (kind : LegKind) (view : Message → List Item) → Fits (pdu_pipe kind) view
      → (tags : List ℕ) (most : ℕ) → AreTags (captured answered) tags
      → IsMost most (legs_met answered)
      → IsJoined answered world chains.told kind view tags most

-- only a world of roles has nodes
abbrev pub TellsSidesIn : List Answer → AnyWorld → Type 0
TellsSidesIn answered Before = Unit {0}
TellsSidesIn answered (Direct world) = Unit {0}
TellsSidesIn answered (Settings config) = Unit {0}
TellsSidesIn answered (Roles world) = TellsSides answered world

-- behind the lines, with what they are answered
abbrev pub TellsSidesOf : List Line → Type 0
TellsSidesOf lines = TellsSidesIn (answers Before lines) (after Before lines)
