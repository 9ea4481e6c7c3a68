-- a server keeps legs of distinct numbers, and no leg that is done comes in use again
use Rattle.law_order.proofs.Vocabulary.{◌≡◌, ℕ, ◌+◌, ◌==◌, ◌&&◌, List, [], ◌∷◌, ◌++◌, Bool, true, false, not, Some, None, arith, rules, refl, ap, ◌∙◌, IfSome, IsTrue, nat_tests}
use Rattle.law_moves.proofs.Vocabulary.{by_test, same_number, Cookie, Leg, LegKind, ClientOut, OutServer, ClientIn, InServer, after_take, Count, Message, Pdu, Packet, is_ended, kind_number, Move, Up, HeadCame, PduCame, PacketCame, Puts, IsDrawn, Marks, Pings, Passage, moved, MayMove, EndMove, EndPassage, Moves, Gives, Takes, Closes, Recycles, end_moved, end_now_at, MayEndMove, is_in_use}
use Rattle.law_role_server.proofs.Vocabulary.{Stage, Ended, Server, in_leg, without_in, Pick, goes, is_done_by, in_is_drawn, drawn_by, settled, rules as server_rules, acts as server_acts, phase_of, has_room, in_leg_up, out_leg_up, may_up, may_up_by, up, up_by, take, asks, recycle, wishes, put, close, completed, drawn, give, is_complete, mark, first, packet, pdu}
use Rattle.law_node_causes.proofs.MoveRoles.{by_row, by_given, by_first}
use Rattle.law_node_ends.proofs.Unused.Places.{none_pushed, has, distinct_pushed}
use Rattle.law_node_ends.proofs.Unused.ServerLists.{in_number, out_number, is_used, in_unused, in_done, out_absent, out_done}
use Rattle.law_node_ends.proofs.Unused.Staying.{StaysDone, Keeps, RoleKeeps, EndKeeps, by_put}
use Rattle.law_node_ends.proofs.Unused.ServerLegs.{Same, GoesOn, goes_self, goes_same, IsSound, goes_sound}
use Rattle.law_node_ends.proofs.Unused.ServerRows.{moved_goes, packet_goes}
use Rattle.law_node_ends.proofs.Unused.ServerPuts.{PickGoes, put_goes, mark_goes, drawn_goes}

-- ---- which legs are done

goes_done : (s t : Server) → IsSound s → GoesOn s t → StaysDone server_rules s t
goes_done s t sound goes leg = by leg.kind
  where
    by : (kind : LegKind) → is_done_by s leg.number kind ≡ true
        → is_done_by t leg.number kind ≡ true
    by InServer h =
        in_done leg.number t.ins
        (goes.used leg.number (in_unused leg.number s.ins sound.distinct h))
    by OutServer h =
        out_done leg.number t.outs (goes.outs leg.number (out_absent leg.number s.outs h))
    by ClientIn h = absurd cc
    by ClientOut h = absurd cc

-- ---- a leg comes up

apart : (n m : ℕ) (kind : LegKind)
    → ((kind_number kind == kind_number kind) && (n == m)) ≡ false → (n == m) ≡ false
apart n m InServer e = e
apart n m OutServer e = e
apart n m ClientIn e = e
apart n m ClientOut e = e

up_done : (s : Server) (n m : ℕ) (kind other : LegKind) → IsSound s
    → ((kind_number kind == kind_number other) && (n == m)) ≡ false
    → is_done_by s m other ≡ true → is_done_by (up_by s n kind) m other ≡ true
up_done s n m InServer InServer sound e h =
    in_done m (s.ins ++ in_leg_up n ∷ [])
    (none_pushed (is_used m) s.ins (in_leg_up n) (rw (apart n m InServer e) refl)
    (in_unused m s.ins sound.distinct h))
up_done s n m OutServer OutServer sound e h =
    out_done m (s.outs ++ out_leg_up n ∷ [])
    (none_pushed (has out_number m) s.outs (out_leg_up n) (apart n m OutServer e)
    (out_absent m s.outs h))
up_done s n m kind other sound e h = search (rules, h)

first_part : (a b : Bool) → (a && b) ≡ true → a ≡ true
first_part true b h = refl
first_part false b h = absurd cc

up_sound : (s : Server) (n : ℕ) (kind : LegKind) → IsSound s → may_up_by s n kind ≡ true
    → IsSound (up_by s n kind)
up_sound s n InServer sound may =
    let next : n ≡ s.newest_in + 1 =
    same_number n (s.newest_in + 1) (first_part (n == s.newest_in + 1) (has_room s.ins) may) in
    record {
      distinct = distinct_pushed in_number s.ins (in_leg_up n)
          (sound.below n (omega (arith, next))) sound.distinct;
      below = λ k above.
          none_pushed (has in_number k) s.ins (in_leg_up n) (grind (arith, nat_tests, above))
          (sound.below k (omega (arith, next, above)));
    }
up_sound s n OutServer sound may = record { distinct = sound.distinct; below = sound.below }
up_sound s n ClientIn sound may = sound
up_sound s n ClientOut sound may = sound

up_is : (s : Server) (leg : Leg) (cookie : Cookie) → IsSound s → may_up s leg ≡ true
    → IsSound (up s leg cookie)
up_is s leg cookie sound may =
    by_test IsSound (may_up s leg) (up_by s leg.number leg.kind) s
    (λ e. up_sound s leg.number leg.kind sound may) (λ e. sound)

-- ---- what is still sound

in_use : (s : Server) (leg : Leg) → IsTrue (is_in_use server_rules s leg)
    → is_done_by s leg.number leg.kind ≡ false
in_use s leg = by (not (is_ended (phase_of s.stage))) (is_done_by s leg.number leg.kind)
  where
    by : (work done : Bool) → IsTrue (work && not done) → done ≡ false
    by true true may = absurd cc
    by true false may = refl
    by false done may = absurd cc

pdu_same : (s : Server) (leg : Leg) (count : Count) (bytes : List ℕ)
    → Same s (pdu s leg count bytes).0
pdu_same s leg count bytes = search rules

put_sound : (s : Server) (pick : Pick) → IsSound s → PickGoes s pick
    → IfSome pick (λ (put : Server × Message). IsSound put.0)
put_sound s None sound goes = tt
put_sound s (Some put) sound goes = goes_sound s put.0 goes sound

put_done : (s : Server) (pick : Pick) → IsSound s → PickGoes s pick
    → IfSome pick (λ (put : Server × Message). StaysDone server_rules s put.0)
put_done s None sound goes = tt
put_done s (Some put) sound goes = goes_done s put.0 sound goes

move_sound : (p : Passage Server) (move : Move) → IsSound p.role
    → MayMove server_rules p.role move → IsSound (moved server_rules p move).role
move_sound p (Up leg cookie) sound may = up_is p.role leg cookie sound may.1
move_sound p (HeadCame leg text) sound may = sound
move_sound p (PduCame leg count bytes) sound may =
    let t = (pdu p.role leg count bytes).0 in
    by_row IsSound p leg (Pdu bytes) (pdu p.role leg count bytes)
    (goes_sound p.role t (goes_same p.role t (pdu_same p.role leg count bytes)) sound)
move_sound p (PacketCame leg count named) sound may =
    by_row IsSound p leg (Packet named) (packet p.role leg count named)
    (goes_sound p.role (packet p.role leg count named).0
    (packet_goes p.role leg.number count named leg.kind (in_use p.role leg may)) sound)
move_sound p (Puts leg) sound may =
    by_put IsSound p leg (put p.role leg) sound
    (put_sound p.role (put p.role leg) sound (put_goes p.role leg.number leg.kind))
move_sound p (IsDrawn leg) sound may =
    goes_sound p.role (drawn p.role leg) (drawn_goes p.role leg.number leg.kind) sound
move_sound p (Marks leg) sound may =
    goes_sound p.role (mark p.role leg) (mark_goes p.role leg.number leg.kind) sound
move_sound p (Pings leg) sound may = sound

give_same : (s : Server) (bytes : List ℕ) → Same s (give s bytes).0
give_same s bytes = search rules

take_goes : (s : Server) → GoesOn s (take s)
take_goes s = moved_goes (record s { line = after_take s.line }) s.line.has_next

recycle_same : (s : Server) → Same s (recycle s).0
recycle_same s = search rules

call_sound : (p : EndPassage Server) (move : EndMove) → IsSound p.passage.role
    → MayEndMove server_rules p.passage.role move
    → IsSound (end_moved server_rules server_acts p move).passage.role
call_sound p (Moves move) sound may = move_sound p.passage move sound may
call_sound p (Gives bytes) sound may =
    let s = p.passage.role in
    by_given IsSound p bytes (give s bytes)
    (goes_sound s (give s bytes).0 (goes_same s (give s bytes).0 (give_same s bytes)) sound)
call_sound p Takes sound may =
    let s = p.passage.role in
    by_first IsSound (end_now_at p (take s)) s.line.current.pdus
    (goes_sound s (take s) (take_goes s) sound)
call_sound p Closes sound may =
    let s = p.passage.role in
    goes_sound s (close s) (goes_same s (close s) refl) sound
call_sound p Recycles sound may =
    let s = p.passage.role in
    goes_sound s (recycle s).0 (goes_same s (recycle s).0 (recycle_same s)) sound

-- ---- the work that ended stays so

abbrev StaysEnded : Server → Server → Type 0
StaysEnded s t = is_ended (phase_of s.stage) ≡ true → is_ended (phase_of t.stage) ≡ true

completed_ended : (s : Server) → StaysEnded s (completed s)
completed_ended s =
    by_test (StaysEnded s) (is_complete s) (record s { stage = Ended }) s (λ e h. refl) (λ e h. h)

settled_ended : (s : Server) → StaysEnded s (settled s)
settled_ended s =
    by_test (StaysEnded s) (wishes (completed s)) (asks (completed s)) (completed s)
    (λ e. completed_ended s) (λ e. completed_ended s)

drawn_ended : (s : Server) (n : ℕ) (kind : LegKind) → StaysEnded s (drawn_by s n kind)
drawn_ended s n InServer =
    by_test (StaysEnded s) (in_is_drawn (in_leg n s.ins)) (settled (without_in s n)) s
    (λ e. settled_ended (without_in s n)) (λ e h. h)
drawn_ended s n OutServer = λ h. h
drawn_ended s n ClientIn = λ h. h
drawn_ended s n ClientOut = λ h. h

pub record Staged : Type 0 where
  pub stage : Stage

abbrev staged : Server → Staged
staged s = record { stage = s.stage }

keeps : (s t : Server) → IsSound s → GoesOn s t → staged t ≡ staged s
    → Keeps server_rules s t
keeps s t sound goes same = record {
  ended = λ h. ap (λ (x : Staged). is_ended (phase_of x.stage)) same ∙ h;
  done = goes_done s t sound goes;
}

-- ---- the laws

pub server_keeps : RoleKeeps server_rules IsSound
server_keeps = record {
  kept = move_sound;
  up = λ s leg cookie other sound work may e.
      by_test (λ (t : Server). is_done_by s other.number other.kind ≡ true
      → is_done_by t other.number other.kind ≡ true) (may_up s leg)
      (up_by s leg.number leg.kind) s
      (λ o. up_done s leg.number other.number leg.kind other.kind sound e) (λ o h. h);
  head = λ s leg text sound may other h. h;
  pdu = λ s leg count bytes sound may.
      let t = (pdu s leg count bytes).0 in
      goes_done s t sound (goes_same s t (pdu_same s leg count bytes));
  packet = λ s leg count named sound may.
      goes_done s (packet s leg count named).0 sound
      (packet_goes s leg.number count named leg.kind (in_use s leg may));
  put = λ s leg sound may.
      put_done s (put s leg) sound (put_goes s leg.number leg.kind);
  drawn = λ s leg sound. record {
    ended = drawn_ended s leg.number leg.kind;
    done = goes_done s (drawn s leg) sound (drawn_goes s leg.number leg.kind);
  };
  mark = λ s leg sound work may.
      goes_done s (mark s leg) sound (mark_goes s leg.number leg.kind);
  ping = λ s leg sound. keeps s s sound (goes_self s) refl;
}

pub calls_keep : EndKeeps server_rules server_acts IsSound
calls_keep = record {
  kept = call_sound;
  give = λ s bytes sound.
      keeps s (give s bytes).0 sound (goes_same s (give s bytes).0 (give_same s bytes))
      (search rules);
  take = λ s sound. keeps s (take s) sound (take_goes s) (search rules);
  close = λ s sound. keeps s (close s) sound (goes_same s (close s) refl) refl;
  recycle = λ s sound.
      keeps s (recycle s).0 sound (goes_same s (recycle s).0 (recycle_same s)) (search rules);
}

pub first_is : (window : ℕ) → IsSound (first window)
first_is window = record { distinct = tt; below = λ n above. refl }
