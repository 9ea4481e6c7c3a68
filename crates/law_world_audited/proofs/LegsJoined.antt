-- what the chains of a recording join
use Rattle.law_order.proofs.Vocabulary.{◌≡◌, ◌++◌, ℕ, Bool, zero, suc, true, List, [], ◌∷◌, map, refl, sym, ap, ◌∙◌, subst, inl, inr, Some, None, Option, AllByRecursion, Item, has_handover}
use Rattle.law_order.specs.Items as items
use Rattle.law_order.specs.Logs as logs
use Rattle.std.specs.Prelude.{is_some}
use Rattle.rh_rts.specs.declared.command.Cookie.{Cookie}
use Rattle.rh_text.specs.declared.ends.Dir.{Dir}
use Rattle.rh_sig.specs.declared.name.Pipe.{Pipe}
use Rattle.rh_line.specs.declared.leg.Leg as line
use Rattle.rh_line.specs.declared.leg.LegKind.{LegKind}
use Rattle.rh_line.specs.declared.leg.LegKind.TheVariants.{ClientOut, OutServer, ClientIn, InServer}
use Rattle.rh_record.specs.declared.answer.Answer.{Answer}
use Rattle.rh_record.specs.declared.line.Line.{Line}
use Rattle.rh_record.specs.declared.line.Line.TheVariants.{First}
use Rattle.rh_nodes.specs.Settling.{leg_at}
use Rattle.rh_shell.specs.Rules.{Message, spell}
use Rattle.rh_audit.specs.declared.packet.First as packet
use Rattle.rh_audit.specs.Captures.{bytes_on}
use Rattle.rh_audit.specs.Chains.{Leg, chain, leg_by, legs}
use Rattle.rh_audit.specs.Packets.{met}
use Rattle.rh_audit.specs.Pipes.{pdu_pipe}
use Rattle.rh_audit.specs.Streams.{Stream, first_among, is_marked, mets, pdus, renewed, stream, stream_is}
use Rattle.rh_capture.specs.Captured.{captured}
use Rattle.rh_capture.specs.Legs.{tag_of}
use Rattle.rh_capture.specs.Moves.{pipe_of}
use Rattle.rh_world.specs.declared.any_world.AnyWorld.{AnyWorld}
use Rattle.rh_world.specs.declared.any_world.AnyWorld.TheVariants.{Before, Direct, Settings, Roles}
use Rattle.rh_world.specs.Any.{after, answers}
use Rattle.rh_world.specs.Roles as roles
use Rattle.law_moves.specs.Legible.Legible.{MayGoOn}
use Rattle.law_moves.specs.ReadBack.Reading.{AreNoTexts}
use Rattle.law_moves.proofs.Vocabulary.{IsNoText}
use Rattle.law_audit.specs.FarAndNear.Seen.{Side}
use Rattle.law_audit.specs.Carrying.Fronts.{AreInOrder, AreLegsOf, IsNumber}
use Rattle.law_audit.specs.Carrying.Items.{Fits}
use Rattle.law_audit.specs.Streams.Put.{IsStreamOf, behind_text}
use Rattle.law_audit.specs.Chains.Successors.{in_order, leg_of_tag, mets_of_leg}
use Rattle.law_world_audited.proofs.Moving.Streamed.{all_behind, no_texts}
use Rattle.law_world_audited.specs.Moving.Moved.{moved_on}
use Rattle.law_world_audited.specs.Moving.Streams.{TellsStreams}
use Rattle.law_world_audited.specs.Moving.Tagged.{legs_met}
use Rattle.law_world_audited.specs.LegsInChains.Chained.{TellsChainsIn, TellsChainsOf, tag_at}
use Rattle.law_world_audited.specs.Sides.{IsJoined, IsSideOf, TellsSidesIn, TellsSidesOf, pdu_dir, put_on}

pub record JoinedLaws : Type 0 where
  pub bytes : (report : List Answer) (leg : line.Leg) (dir : Dir) (pipe : Pipe)
      → pipe_of leg.kind dir ≡ Some pipe
      → bytes_on (tag_of (legs_met report) leg) pipe (captured report) ≡ moved_on leg dir report
  pub pdus : (pipe : Pipe) (view : Message → List Item) (messages : List Message)
      → Fits pipe view → AreNoTexts messages → AllByRecursion (MayGoOn (Some pipe)) messages
      → pdus pipe (map spell messages) ≡ items.pdus (logs.seen view messages)
  pub mark : (pipe : Pipe) (view : Message → List Item) (messages : List Message)
      → Fits pipe view → AreNoTexts messages → AllByRecursion (MayGoOn (Some pipe)) messages
      → is_marked (map (met pipe) (map spell messages)) ≡ has_handover (logs.seen view messages)

pipe_is : (kind : LegKind) → pipe_of kind (pdu_dir kind) ≡ Some (pdu_pipe kind)
pipe_is ClientIn = refl
pipe_is InServer = refl
pipe_is ClientOut = refl
pipe_is OutServer = refl

pub front_all : (P : Message → Type 0) (front rest : List Message)
    → AllByRecursion P (front ++ rest) → AllByRecursion P front
front_all P [] rest all = tt
front_all P (m ∷ front) rest all = (all.0, front_all P front rest all.1)

-- one leg
number_is : (side : Side) (n tag : ℕ) (anew : Option Cookie) (marked : Bool)
    (some : List (List ℕ)) (begun : Option packet.First) → side.there n ≡ is_some begun
    → some ≡ items.pdus (side.seen n) → marked ≡ has_handover (side.seen n)
    → IsNumber side n (leg_by tag anew marked some begun)
number_is side n tag anew marked some None there same is = inl (there, refl)
number_is side n tag anew marked some (Some begun) there same is =
    inr (record { there = there; leg = _; is = refl; pdus_are = same; marked = is })

legs_of : (side : Side) (leg : ℕ → List Leg) → ((n : ℕ) → IsNumber side n (leg n))
    → (n more : ℕ) → AreInOrder side n more (in_order leg n more)
legs_of side leg each n zero = refl
legs_of side leg each n (suc more) =
    (leg n, in_order leg (suc n) more, refl, each n, legs_of side leg each (suc n) more)

module _ (law : JoinedLaws) (answered : List Answer) (world : roles.World)
    (told : TellsStreams answered world) (kind : LegKind) (view : Message → List Item)
    (fits : Fits (pdu_pipe kind) view) where
  abbrev pipe : Pipe
  pipe = pdu_pipe kind

  abbrev moved : ℕ → List ℕ
  moved n = moved_on (leg_at kind n) (pdu_dir kind) answered

  abbrev put : ℕ → List Message
  put n = put_on answered world told kind n

  is_stream : (n : ℕ) → IsStreamOf pipe (behind_text (put n)) (moved n)
  is_stream n = told.streams (leg_at kind n) (pdu_dir kind) pipe (pipe_is kind)

  abbrev front : ℕ → List Message
  front n = (is_stream n).front

  front_of : (P : Message → Type 0) (n : ℕ) → AllByRecursion P (behind_text (put n))
      → AllByRecursion P (front n)
  front_of P n all =
      let of = (is_stream n).of_messages in
      front_all P (front n) of.0 (subst (AllByRecursion P) (sym of.1) all)

  plain : (n : ℕ) → AreNoTexts (front n)
  plain n =
      front_of IsNoText n (no_texts pipe (put n)
      (told.told.sent (leg_at kind n) (pdu_dir kind) pipe (pipe_is kind)).begins)

  may : (n : ℕ) → AllByRecursion (MayGoOn (Some pipe)) (front n)
  may n =
      front_of (MayGoOn (Some pipe)) n (all_behind (MayGoOn (Some pipe)) (put n)
      (told.told.sent (leg_at kind n) (pdu_dir kind) pipe (pipe_is kind)).may_go)

  abbrev tag : ℕ → ℕ
  tag n = tag_at answered kind n

  stream_there : (n : ℕ) → stream pipe (bytes_on (tag n) pipe (captured answered))
      ≡ stream_is (map spell (front n)) None
  stream_there n =
      ap (stream pipe) (law.bytes answered (leg_at kind n) (pdu_dir kind) pipe (pipe_is kind))
      ∙ (is_stream n).is

  abbrev side : ℕ → Side
  side most = record {
    there = λ n. is_some (first_among (mets_of_leg kind (captured answered) (tag n)));
    seen = λ n. logs.seen view (front n);
    most = most;
  }

  number : (most n : ℕ) → IsNumber (side most) n (leg_of_tag kind (captured answered) (tag n))
  number most n =
      let begun = mets_of_leg kind (captured answered) (tag n) in
      number_is (side most) n (tag n) (renewed None begun) _ _ (first_among begun) refl
      (ap (λ (s : Stream). pdus pipe s.frames) (stream_there n)
      ∙ law.pdus pipe view (front n) fits (plain n) (may n))
      (ap (λ (s : Stream). is_marked (mets pipe s)) (stream_there n)
      ∙ law.mark pipe view (front n) fits (plain n) (may n))

  is_side : (most : ℕ) → IsSideOf answered world told kind view most (side most)
  is_side most = record {
    there = λ n. refl;
    seen = λ n. record {
      front = front n;
      of_put = (is_stream n).of_messages;
      read = (is_stream n).is;
      is = refl;
    };
    last = refl;
  }

  joined_is : (tags : List ℕ) (most : ℕ)
      → chain (legs kind (captured answered) tags)
      ≡ in_order (λ n. leg_of_tag kind (captured answered) (tag n)) 0 (suc most)
      → IsJoined answered world told kind view tags most
  joined_is tags most is = record {
    side = side most;
    is_side = is_side most;
    are_legs = subst (AreLegsOf (side most)) (sym is)
        (legs_of (side most) (λ n. leg_of_tag kind (captured answered) (tag n)) (number most) 0
        (suc most));
  }

module _ (law : JoinedLaws) where
  sides_in : (answered : List Answer) (world : AnyWorld) → TellsChainsIn answered world
      → TellsSidesIn answered world
  sides_in answered Before told = tt
  sides_in answered (Direct world) told = tt
  sides_in answered (Settings config) told = tt
  sides_in answered (Roles world) told = record {
    chains = told;
    sides = λ kind view fits tags most are is_most.
        joined_is law answered world told.told kind view fits tags most
        (told.chained kind tags most are is_most).chain_is;
  }

  pub recording_sides : ((behind : List Line) → TellsChainsOf (First true ∷ behind))
      → (behind : List Line) → TellsSidesOf (First true ∷ behind)
  recording_sides chains behind =
      sides_in (answers Before (First true ∷ behind)) (after Before (First true ∷ behind))
      (chains behind)
