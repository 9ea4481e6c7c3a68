-- a frame that a node hears is a packet or a PDU, and a row takes it or refuses it
use Rattle.law_order.proofs.Vocabulary.{◌≡◌, ◌≢◌, ℕ, List, [], ◌∷◌, ◌++◌, cond, Bool, true, false, Ok, Err, arith, refl, sym, ◌==◌, ◌&&◌, IsTrue, slice_index, Result, append-nil, nat_tests}
use Rattle.law_moves.proofs.Vocabulary.{rts, IsFrame, Named, Cause, Leg, Count, Heading, PacketFault, take_frame, take_packet, take_ping, close_row, is_ping, one_more, is_zero, is_upward, packet_of, Rules, Row, Message, Pdu, Packet, on_leg, message_in, named_messages, Move, Passage, PduCame, PacketCame, taken_by, is_in_use, of_leg, Tells, AreCounted, packets, Stages, AreInTurnFrom, takes_frames}
use Rattle.law_node_streams.proofs.Streams.Counts.{TellsOn, ToldBy, tells_packet, tells_pdu}
use Rattle.law_node_streams.proofs.Streams.Staging.{LeavesStages, all_stages, leaves_none}
use Rattle.law_node_streams.proofs.Streams.Ways.{Way, nowhere, way_none, way_one}

-- what a row took
abbrev pub logged : List Message → Result Count Cause → List Message
logged messages (Ok next) = messages
logged messages (Err why) = []

module _ {S : Type 0} (rules : Rules S) (heads : Leg → Bool) (p : Passage S) (at : Heading)
    (may : IsTrue (is_in_use rules p.role at.leg)) where
  -- a frame may come
  abbrev pub framed : Stages → Type 0
  framed g = takes_frames (g at.leg) ≡ true

  pub record FrameIs (frame : List ℕ) (x : S × Result Count Cause) : Type 0 where
    pub passage : Passage S
    pub way : Way rules heads nowhere p passage
    pub role : passage.role ≡ x.0
    pub put : passage.put ≡ p.put
    pub came : passage.came ≡ p.came ++ on_leg at.leg (logged (message_in at.pipe frame) x.1)
    pub leaves : LeavesStages rules framed ⊥ p way.moves
    pub counted : TellsOn p at.leg at.count
        → AreCounted rules p way.moves × ToldBy (of_leg at.leg passage.came) x.1

  -- no move is made
  none_is : (frame : List ℕ) (r : Result Count Cause)
      → logged (message_in at.pipe frame) r ≡ []
      → (TellsOn p at.leg at.count → ToldBy (of_leg at.leg p.came) r)
      → FrameIs frame (p.role, r)
  none_is frame r none counts = record {
    passage = p;
    way = way_none rules heads p;
    role = refl;
    put = refl;
    came = rw none (sym (append-nil p.came));
    leaves = leaves_none rules framed ⊥ p;
    counted = λ h. (tt, counts h);
  }

  ping_is : (frame : List ℕ) (t : Bool) (why : Cause) → message_in at.pipe frame ≡ []
      → FrameIs frame (p.role, cond {A = Result Count Cause} t (Err why) (Ok at.count))
  ping_is frame true why none = none_is frame (Err why) refl (λ h. tt)
  ping_is frame false why none = none_is frame (Ok at.count) none (λ h. h)

  -- a row takes the message, or refuses it
  row_is : (frame : List ℕ) (message : Message) (next : Count) (x : S × Row)
      → (way : Way rules heads nowhere p (taken_by p at.leg message x))
      → LeavesStages rules framed ⊥ p way.moves → message_in at.pipe frame ≡ message ∷ []
      → (TellsOn p at.leg at.count → AreCounted rules p way.moves
      × Tells next (packets (of_leg at.leg (p.came ++ (at.leg, message) ∷ []))))
      → FrameIs frame (close_row at next x)
  row_is frame message next (role, Ok taken) way leaves is counts = record {
    passage = taken_by p at.leg message (role, Ok taken);
    way = way;
    role = refl;
    put = refl;
    came = rw is refl;
    leaves = leaves;
    counted = counts;
  }
  row_is frame message next (role, Err why) way leaves is counts = record {
    passage = taken_by p at.leg message (role, Err why);
    way = way;
    role = refl;
    put = refl;
    came = sym (append-nil p.came);
    leaves = leaves;
    counted = λ h. ((counts h).0, tt);
  }

  -- a frame comes where frames do
  leaves_frame : (move : Move) → ((g : Stages) → framed g → AreInTurnFrom rules p g (move ∷ []))
      → ((g : Stages) → all_stages rules p g (move ∷ []) ≡ g)
      → LeavesStages rules framed ⊥ p (move ∷ [])
  leaves_frame move in_turn stays = record {
    in_turn = in_turn;
    stays = stays;
    counted = λ none. absurd none;
  }

  named_is : (frame : List ℕ) (named : Named) (t : Bool)
      → message_in at.pipe frame ≡ cond t [] (Packet named ∷ [])
      → FrameIs frame (cond {A = S × Result Count Cause} t (p.role, take_ping at)
      (close_row at (one_more at.count) (rules.packet p.role at.leg at.count named)))
  named_is frame named true is =
      ping_is frame (is_zero at.count && is_upward at.pipe) _ is
  named_is frame named false is =
      row_is frame (Packet named) (one_more at.count) (rules.packet p.role at.leg at.count named)
      (way_one rules heads nowhere p (PacketCame at.leg at.count named) may
      (λ leg. λ h. refl) (λ leg. refl))
      (leaves_frame (PacketCame at.leg at.count named) (λ g a. (a, tt)) (λ g. refl)) is
      (λ h. ((h, tt), tells_packet at.count at.leg p.came named h))

  packet_is : (frame : List ℕ) (r : Result Named PacketFault)
      → message_in at.pipe frame ≡ named_messages r → FrameIs frame (take_packet rules at p.role r)
  packet_is frame (Ok named) is = named_is frame named (is_ping named) is
  packet_is frame (Err fault) is = none_is frame _ refl (λ h. tt)

  kind_is : (frame : List ℕ) (t : Bool) → (slice_index frame 2 == rts) ≡ t → IsFrame frame
      → FrameIs frame (cond {A = S × Result Count Cause} t
      (take_packet rules at p.role (packet_of frame at.pipe))
      (close_row at at.count (rules.pdu p.role at.leg at.count frame)))
  kind_is frame true is whole = packet_is frame (packet_of frame at.pipe) (rw is refl)
  kind_is frame false is whole =
      let apart : slice_index frame 2 ≢ rts = λ e. absurd (grind (arith, nat_tests)) in
      row_is frame (Pdu frame) at.count (rules.pdu p.role at.leg at.count frame)
      (way_one rules heads nowhere p (PduCame at.leg at.count frame)
      (may, record { frame = whole; not_rts = apart }) (λ leg. λ h. refl) (λ leg. refl))
      (leaves_frame (PduCame at.leg at.count frame) (λ g a. (a, tt)) (λ g. refl)) (rw is refl)
      (λ h. ((tt, tt), tells_pdu at.count at.leg p.came frame h))

  pub frame_taken : (frame : List ℕ) → IsFrame frame
      → FrameIs frame (take_frame rules at p.role frame)
  unfolding take_frame
  frame_taken frame whole = kind_is frame (slice_index frame 2 == rts) refl whole
