-- what a server puts may go on its pipe, whatever happens, so that it reads back
use Rattle.law_order.proofs.Vocabulary.{ℕ, List, [], ◌∷◌, Some, None, Ok, Err, arith, refl, Option, Result}
use Rattle.rh_server.specs.Servers.{pdu_by}
use Rattle.law_moves.proofs.Vocabulary.{IsWindow, by_test, Pipe, Named, each_push, Leg, LegKind, ClientOut, OutServer, ClientIn, InServer, Count, GiveRefused, Message, Pdu, Packet, AllMayGo, AllReadBack, MayGoOn, IsFineMessage, AreFine, IsLegible, OnLeg, Passage, Move, Up, HeadCame, PduCame, PacketCame, Puts, IsDrawn, Marks, Pings, EndPassage, EndMove, Moves, Gives, Takes, Closes, Recycles, moved, put_by, taken_by, given_by, with_first, end_now_at, end_started, end_moved}
use Rattle.law_moves.proofs.Vocabulary.{all_end_moved}
use Rattle.law_moves.proofs.Lemmas.{each_parted}
use Rattle.law_role_server.proofs.Vocabulary.{Server, Done, may_up_by, up_by, take, give, Pick, put, rules, acts, first, on_is, on_os, packet_by, on_pdu, pipe_put}
use Rattle.law_role_server.proofs.Sounds.{Sound}
use Rattle.law_role_server.proofs.SoundRows.{RowSound, row_any, pdu_row, is_sound, os_sound, take_sound, recycle_sound}
use Rattle.law_role_server.proofs.SoundPuts.{PickSound, puts, up_sound, drawn_sound, mark_sound, give_sound}

abbrev MayGoThere : OnLeg → Type 0
MayGoThere one = MayGoOn (pipe_put one.0) one.1

abbrev IsFineThere : OnLeg → Type 0
IsFineThere one = IsFineMessage one.1

-- where all that came is fine, the state is sound and all that was put may go
abbrev Kept : Passage Server → Type 0
Kept p = AreFine p.came → Sound p.role × AllMayGo pipe_put p.put

-- ---- what passes

taken_kept : (p : Passage Server) (leg : Leg) (m : Message) (x : Done)
    → (Sound p.role → RowSound (IsFineMessage m) x) → Kept p → Kept (taken_by p leg m x)
taken_kept p leg m (t, Ok took) row k = λ f.
    let fine = each_parted IsFineThere p.came (leg, m) f in
    let now = k fine.0 in
    (row now.0 fine.1, now.1)
taken_kept p leg m (t, Err why) row k = λ f. let now = k f in (row now.0, now.1)

pick_kept : (p : Passage Server) (leg : Leg) (pick : Pick)
    → (Sound p.role → PickSound (pipe_put leg) pick) → Kept p → Kept (put_by p leg pick)
pick_kept p leg None picks k = k
pick_kept p leg (Some (t, m)) picks k = λ f.
    let now = k f in
    let picked = picks now.0 in
    (picked.0, each_push MayGoThere p.put (leg, m) now.1 picked.1)

-- ---- the moves

pdu_kept : (p : Passage Server) (leg : Leg) (kind : LegKind) (bytes : List ℕ) → Kept p
    → Kept (taken_by p leg (Pdu bytes) (pdu_by p.role leg.number bytes kind))
pdu_kept p leg InServer bytes k =
    taken_kept p leg (Pdu bytes) (on_pdu p.role leg.number bytes)
    (λ h. row_any (IsFineMessage (Pdu bytes)) (on_pdu p.role leg.number bytes)
    (pdu_row p.role leg.number bytes h)) k
pdu_kept p leg OutServer bytes k = k
pdu_kept p leg ClientIn bytes k = k
pdu_kept p leg ClientOut bytes k = k

packet_kept : (p : Passage Server) (leg : Leg) (kind : LegKind) (count : Count) (named : Named)
    → Kept p → Kept (taken_by p leg (Packet named) (packet_by p.role leg.number count named kind))
packet_kept p leg InServer count named k =
    taken_kept p leg (Packet named) (on_is p.role leg.number count named)
    (is_sound p.role leg.number count named) k
packet_kept p leg OutServer count named k =
    taken_kept p leg (Packet named) (on_os p.role leg.number count named)
    (os_sound p.role leg.number count named) k
packet_kept p leg ClientIn count named k = k
packet_kept p leg ClientOut count named k = k

move_kept : (p : Passage Server) (move : Move) → Kept p → Kept (moved rules p move)
move_kept p (Up leg cookie) k = λ f.
    let now = k f in (
      by_test Sound (may_up_by p.role leg.number leg.kind) (up_by p.role leg.number leg.kind) p.role
          (λ e. up_sound p.role leg.number leg.kind now.0) (λ e. now.0),
      now.1,
    )
move_kept p (HeadCame leg text) k = k
move_kept p (PduCame leg count bytes) k = pdu_kept p leg leg.kind bytes k
move_kept p (PacketCame leg count named) k = packet_kept p leg leg.kind count named k
move_kept p (Puts leg) k =
    pick_kept p leg (put p.role leg) (puts p.role leg.number leg.kind) k
move_kept p (IsDrawn leg) k = λ f.
    let now = k f in (drawn_sound p.role leg.number leg.kind now.0, now.1)
move_kept p (Marks leg) k = λ f.
    let now = k f in (mark_sound p.role leg.number leg.kind now.0, now.1)
move_kept p (Pings leg) k = k

-- ---- the calls of an end

given_kept : (p : EndPassage Server) (pdu : List ℕ)
    (x : Server × Result (Unit {0}) GiveRefused) → (Sound p.passage.role → Sound x.0)
    → Kept p.passage → Kept (given_by p pdu x).passage
given_kept p pdu (t, Ok accepted) gives k = λ f. let now = k f in (gives now.0, now.1)
given_kept p pdu (t, Err refused) gives k = λ f. let now = k f in (gives now.0, now.1)

first_kept : (p : EndPassage Server) (pdus : List (List ℕ)) → Kept p.passage
    → Kept (with_first p pdus).passage
first_kept p [] k = k
first_kept p (pdu ∷ pdus) k = k

end_move_kept : (p : EndPassage Server) (move : EndMove) → Kept p.passage
    → Kept (end_moved rules acts p move).passage
end_move_kept p (Moves move) k = move_kept p.passage move k
end_move_kept p (Gives pdu) k =
    given_kept p pdu (give p.passage.role pdu) (give_sound p.passage.role pdu) k
end_move_kept p Takes k =
    first_kept (end_now_at p (take p.passage.role)) p.passage.role.line.current.pdus
    (λ f. let now = k f in (take_sound p.passage.role now.0, now.1))
end_move_kept p Closes k = k
end_move_kept p Recycles k = λ f.
    let now = k f in (recycle_sound p.passage.role now.0, now.1)

all_kept : (moves : List EndMove) (p : EndPassage Server) → Kept p.passage
    → Kept (all_end_moved rules acts p moves).passage
all_kept [] p k = k
all_kept (move ∷ moves) p k =
    all_kept moves (end_moved rules acts p move) (end_move_kept p move k)

-- ---- the law

starts : (window : ℕ) → IsWindow window → Kept (end_started (first window)).passage
starts window is = λ f. (
  record {
    staged = tt;
    telling = record {
      window = is;
      within = omega arith;
      closed = λ e. absurd (cc);
      nothing = refl;
      unopened = refl;
    };
    current = refl;
    following = refl;
    legs = tt;
    pdus = tt;
    packets = tt;
  },
  tt,
)

pub puts_read_back : ((pipe : Leg → Option Pipe) (log : List OnLeg) → AllMayGo pipe log
    → AllReadBack pipe log) → (window : ℕ) (moves : List EndMove) → IsWindow window
    → IsLegible pipe_put (all_end_moved rules acts (end_started (first window)) moves).passage
puts_read_back back window moves is = λ f.
    let kept = all_kept moves (end_started (first window)) (starts window is) f in
    record {
      may_go = kept.1;
      read_back =
          back pipe_put (all_end_moved rules acts (end_started (first window)) moves).passage.put
          kept.1;
    }
