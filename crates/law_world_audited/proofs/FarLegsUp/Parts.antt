-- what holds of each side of legs in the capture of a recording
use Rattle.law_order.proofs.Vocabulary.{◌≡◌, ◌<◌, ◌≤◌, ◌++◌, ◌⊎◌, ℕ, true, false, List, [], ◌∷◌, length, map, refl, sym, ap, ap₂, ◌∙◌, subst, inl, inr, arith, true≢false, Some, None, Option, AllByRecursion, IsPrefix, Item}
use Rattle.law_order.proofs.ByNumber.{seen-append}
use Rattle.law_order.specs.Logs.{seen}
use Rattle.law_order.specs.Routes.{IsRoute, Route}
use Rattle.std.specs.Prelude.{is_some}
use Rattle.rh_text.specs.declared.ends.Dir.{Dir}
use Rattle.rh_sig.specs.declared.name.Pipe.{Pipe}
use Rattle.rh_sig.specs.declared.named.Named.{Named}
use Rattle.rh_line.specs.declared.leg.Leg.{Leg}
use Rattle.rh_line.specs.declared.leg.LegKind.{LegKind}
use Rattle.rh_record.specs.declared.answer.Answer.{Answer}
use Rattle.rh_shell.specs.Rules.{Message, Text, Pdu, Packet, spell}
use Rattle.rh_audit.specs.declared.packet.First.{First}
use Rattle.rh_audit.specs.declared.packet.Met.{Met}
use Rattle.rh_audit.specs.declared.packet.Met.TheVariants as kinds
use Rattle.rh_audit.specs.declared.prefixed.Prefixed.TheVariants.{Yes}
use Rattle.rh_audit.specs.Audits.{AreTags, prefixed}
use Rattle.rh_audit.specs.Chains as chains
use Rattle.rh_audit.specs.Captures.{bytes_on}
use Rattle.rh_audit.specs.Packets.{first_met, met}
use Rattle.rh_audit.specs.Pipes.{first_pipe, is_upward, pdu_pipe}
use Rattle.rh_audit.specs.Streams.{first_among, stream, stream_is}
use Rattle.rh_capture.specs.Captured.{captured}
use Rattle.rh_capture.specs.Legs.{tag_of}
use Rattle.rh_capture.specs.Moves.{pipe_of}
use Rattle.rh_world.specs.Roles as roles
use Rattle.rh_wires.specs.Readers.{reader_of}
use Rattle.law_moves.specs.Legible.Legible.{MayGo, MayGoOn}
use Rattle.law_moves.proofs.Vocabulary.{all_read_of, read_of}
use Rattle.law_audit.specs.FarAndNear.Seen.{IsSeenFar, IsSeenNear, Side}
use Rattle.law_audit.specs.Carrying.Fronts.{AreLegsOf}
use Rattle.law_audit.specs.Carrying.Items.{Fits}
use Rattle.law_audit.specs.Streams.Put.{BeginsFrames, IsFirst, behind_text, packet_of}
use Rattle.law_audit.specs.Chains.Successors.{AreTagged, mets_of_leg}
use Rattle.law_peers_chains.specs.Turns.{BeginInTurn, HasBefore}
use Rattle.law_peers_routes.proofs.Upwards.JoinedLegs.{AgreeOn}
use Rattle.law_world_audited.specs.Moving.Moved.{moved_on}
use Rattle.law_world_audited.specs.Moving.Streams.{MayBegin, TellsStreams}
use Rattle.law_world_audited.specs.Moving.Tagged.{IsLineOf, is_met, legs_met}
use Rattle.law_world_audited.proofs.LegsInChains.Tagging.{are_tagged, sum_most, sum_of}
use Rattle.law_world_audited.specs.LegsInChains.Chained.{tag_at}
use Rattle.law_world_audited.specs.Sides.{IsJoined, IsSideOf, TellsSides, put_on}

-- ---- a stream towards the server has a first packet, where it has any message

abbrev pub PacketMet : Type 0
PacketMet =
    (pipe : Pipe) (named : Named) → MayGo pipe named
    → met pipe (spell (Packet named)) ≡ kinds.Packet (packet_of named)

module _ (law : PacketMet) (pipe : Pipe) where
  first_there : (m : Message) (rest : List Met) → MayGoOn (Some pipe) m → IsFirst m
      → is_some (first_among (met pipe (spell m) ∷ rest)) ≡ true
  first_there (Text text) rest may is = absurd is
  first_there (Pdu pdu) rest may is = absurd is
  first_there (Packet named) rest may is =
      ap (λ (one : Met). is_some (first_met one)) (law pipe named may) ∙ is

  pub nothing : (put front rest : List Message) → is_upward pipe ≡ true → MayBegin pipe put
      → front ++ rest ≡ behind_text put → AllByRecursion (MayGoOn (Some pipe)) front
      → is_some (first_among (map (met pipe) (map spell front))) ≡ false → front ≡ []
  nothing put [] rest up begins e may away = refl
  nothing put (m ∷ front) rest up (inl none) e may away =
      absurd (let f = e ∙ ap behind_text none in cc)
  nothing put (m ∷ front) rest up (inr fine) e may away =
      absurd (true≢false (sym (first_there m (map (met pipe) (map spell front)) may.0
      (subst (BeginsFrames pipe) (sym e) fine.first up)) ∙ away))

-- ---- a text has no item

seen_behind : (view : Message → List Item) → ((bytes : List ℕ) → view (Text bytes) ≡ [])
    → (put : List Message) → seen view (behind_text put) ≡ seen view put
seen_behind view text [] = refl
seen_behind view text (Text bytes ∷ put) =
    sym (ap (λ (front : List Item). front ++ seen view put) (text bytes))
seen_behind view text (Pdu pdu ∷ put) = refl
seen_behind view text (Packet named ∷ put) = refl

-- ---- what is read of messages

pub seen_read : (put_view came_view : Message → List Item) → AgreeOn put_view came_view
    → (ms : List Message) → seen came_view (all_read_of ms) ≡ seen put_view ms
seen_read put_view came_view same [] = refl
seen_read put_view came_view same (m ∷ ms) =
    seen-append came_view (read_of m) (all_read_of ms)
    ∙ ap₂ (λ (a b : List Item). a ++ b) (same m) (seen_read put_view came_view same ms)

pub seen_front : (view : Message → List Item) (a b : List Message) → IsPrefix a b
    → IsPrefix (seen view a) (seen view b)
seen_front view a b p =
    (seen view p.0, sym (seen-append view a p.0) ∙ ap (seen view) p.1)

-- ---- first packets

pub has_some : (o : Option First) → is_some o ≡ true → (begun : First) × (o ≡ Some begun)
has_some None e = absurd cc
has_some (Some begun) e = (begun, refl)

none_or : (o : Option First) → ((begun : First) → o ≡ Some begun → ⊥) → is_some o ≡ false
none_or None never = refl
none_or (Some begun) never = absurd (never begun refl)

module _ (answered : List Answer) (world : roles.World) (told : TellsStreams answered world)
    (kind : LegKind) (view : Message → List Item) (most : ℕ) (side : Side)
    (is : IsSideOf answered world told kind view most side) where
  -- what is seen is a front of what order sees in all that was put
  pub of_put : ((bytes : List ℕ) → view (Text bytes) ≡ []) → (n : ℕ)
      → IsPrefix (side.seen n) (seen view (put_on answered world told kind n))
  of_put text n =
      let s = is.seen n in (
        seen view s.of_put.0,
        ap (λ (front : List Item). front ++ seen view s.of_put.0) s.is
            ∙ sym (seen-append view s.front s.of_put.0) ∙ ap (seen view) s.of_put.1
            ∙ seen_behind view text (put_on answered world told kind n),
      )

  -- no leg above the greatest number has a first packet
  pub above : (tags : List ℕ)
      → AreTagged kind (captured answered) tags (tag_at answered kind) most → (n : ℕ)
      → most < n → side.there n ≡ false
  above tags tagged n past =
      is.there n ∙ none_or _ (λ begun met.
      let least = (tagged.tagged n begun met).1 in absurd (omega (arith, past, least)))

  first_number : (n : ℕ) → (n ≡ 1) ⊎ HasBefore kind (reader_of world.readers)
      (λ k. mets_of_leg kind (captured answered) (tag_at answered kind k)) n → 1 ≤ n
  first_number n (inl e) = omega (arith, e)
  first_number n (inr has) = let number = has.number in omega (arith, number)

  -- and there is none of number 0
  pub zero : BeginInTurn kind (reader_of world.readers)
      (λ n. mets_of_leg kind (captured answered) (tag_at answered kind n)) → side.there 0 ≡ false
  zero turns =
      is.there 0 ∙ none_or _ (λ begun was.
      let some = first_number 0 (turns 0 begun was) in absurd (omega (arith, some)))

-- ---- the laws that both ways stand on

abbrev pub BytesOf : Type 0
BytesOf =
    (report : List Answer) (leg : Leg) (dir : Dir) (pipe : Pipe)
    → pipe_of leg.kind dir ≡ Some pipe
    → bytes_on (tag_of (legs_met report) leg) pipe (captured report) ≡ moved_on leg dir report

pub record SeenLaws : Type 0 where
  pub packet : PacketMet
  pub bytes : BytesOf
  pub lines : (report : List Answer)
      → AllByRecursion (IsLineOf (legs_met report)) (captured report)
  pub own : (legs : List Leg) (leg other : Leg) → is_met legs leg ≡ true
      → tag_of legs leg ≡ tag_of legs other → leg ≡ other
  pub empty : (pipe : Pipe) → stream pipe [] ≡ stream_is [] None

-- what is seen of the far legs of a route is a front of what is seen of the near ones
abbrev pub FrontOfNear : Type 0
FrontOfNear =
    (r : Route) (near far : Side) (near_legs far_legs : List chains.Leg) → IsRoute r
    → IsSeenNear r near → IsSeenFar r far → AreLegsOf near near_legs → AreLegsOf far far_legs
    → prefixed (chains.joined far_legs) (chains.joined near_legs)
    ≡ Yes (length (chains.joined far_legs)) (length (chains.joined near_legs))

-- legs of one kind are tagged, and what is seen of them is joined
module _ (law : SeenLaws) (answered : List Answer) (world : roles.World)
    (tells : TellsSides answered world) (tags : List ℕ)
    (are : AreTags (captured answered) tags) where
  pub tagged : (kind : LegKind)
      → AreTagged kind (captured answered) tags (tag_at answered kind)
      (sum_of (legs_met answered))
  tagged kind =
      are_tagged kind (captured answered) tags (legs_met answered) (sum_of (legs_met answered)) are
      (sum_most (legs_met answered)) (law.lines answered) law.own (law.empty (first_pipe kind))

  pub side_of : (kind : LegKind) (view : Message → List Item) → Fits (pdu_pipe kind) view
      → IsJoined answered world tells.chains.told kind view tags (sum_of (legs_met answered))
  side_of kind view fits =
      tells.sides kind view fits tags (sum_of (legs_met answered)) are
      (sum_most (legs_met answered))
