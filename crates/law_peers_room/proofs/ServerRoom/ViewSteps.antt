-- a fact of a server's OUT channels and of what waits for them, that each step keeps, holds whatever
-- happens
use Rattle.law_order.proofs.Vocabulary.{◌≡◌, ℕ, ◌≤◌, List, [], ◌∷◌, ◌++◌, Some, None, Ok, Err, refl, sym, subst, rules, arith, IfSome}
use Rattle.rh_sig.specs.declared.named.Named.TheVariants as named
use Rattle.law_moves.proofs.Vocabulary.{Named, Leg, LegKind, ClientOut, OutServer, ClientIn, InServer, Message, Text, Pdu, Packet, EndMove, OnLeg, end_started}
use Rattle.law_moves.proofs.Lemmas.{ActsKeep, PutKeeps, RowKeeps, StepsKeep, end_moves_keep}
use Rattle.law_role_server.proofs.Vocabulary.{close, drawn_by, give, mark_by, take, Done, up, recycle, Pick, put_in, put_out_at, put_by as put_by_kind, acts, first, packet_by, pdu, rules as server_rules, Server, out_place, leg_at}
use Rattle.law_role_server_in.specs.Handovers.{passed}
use Rattle.law_peers_room.proofs.ServerRoom.ViewPuts.{ArePut, os_goes}
use Rattle.law_peers_room.proofs.ServerRoom.ViewRows.{LongServes, drawn_serves, give_serves, mark_serves, packet_row, pdu_row, recycles, take_serves, up_serves}
use Rattle.law_peers_room.proofs.ServerRoom.Views.{AreKept, View, view}
use Rattle.law_peers_room.specs.ServerRoom.Overtaking.{AreLong, IsLong, IsLongOn}

-- ---- lifetimes

pub long_before : (least : ℕ) (came : List OnLeg) (one : OnLeg)
    → AreLong least (came ++ one ∷ []) → AreLong least came × IsLongOn least one
long_before least [] one h = (tt, h.0)
long_before least (first ∷ came) one h =
    let rest = long_before least came one h.1 in ((h.0, rest.0), rest.1)

pub all_long : (came : List OnLeg) → AreLong 0 came
all_long [] = tt
all_long ((leg, m) ∷ came) = (by m, all_long came)
  where
    by : (m : Message) → IsLongOn 0 (leg, m)
    by (Text bytes) = tt
    by (Pdu pdu) = tt
    by (Packet (named.ConnA2 v a b lifetime c)) = omega arith
    by (Packet (named.OutR1A4 v a b c lifetime d e)) = omega arith
    by (Packet packet) = tt

-- ---- what is put on is legs leaves the view alone

pub in_same : (s : Server) (n : ℕ)
    → IfSome (put_in s n) (λ (one : Server × Message). view one.0 ≡ view s)
in_same s n = search rules

-- ---- the role

module _ (least : ℕ) (F : View → Type 0) (keeps : AreKept least F) (W : Message → View → Type 0)
    (puts : (n : ℕ) (s : Server) → F (view s) → ArePut n s W (λ m. F)) where
  abbrev Holds : Server → List OnLeg → List OnLeg → Type 0
  Holds s came put = AreLong least came → F (view s)

  goes_on : (s t : Server) (came put : List OnLeg) → (F (view s) → F (view t))
      → Holds s came put → Holds t came put
  goes_on s t came put so h = λ long. so (h long)

  row_keeps : (s : Server) (leg : Leg) (m : Named) (came put : List OnLeg) (x : Done)
      → (F (view s) → LongServes least F keeps (IsLong least m) x)
      → Holds s came put → RowKeeps Holds (leg, Packet m) came put x
  row_keeps s leg m came put (t, Err why) so h = λ long. so (h long)
  row_keeps s leg m came put (t, Ok taken) so h = λ long.
      let parts = long_before least came (leg, Packet m) long in so (h parts.0) parts.1

  pdu_keeps : (s : Server) (leg : Leg) (bytes : List ℕ) (came put : List OnLeg) (x : Done)
      → (F (view s) → F (view x.0)) → Holds s came put
      → RowKeeps Holds (leg, Pdu bytes) came put x
  pdu_keeps s leg bytes came put (t, Err why) so h = λ long. so (h long)
  pdu_keeps s leg bytes came put (t, Ok taken) so h = λ long.
      so (h (long_before least came (leg, Pdu bytes) long).0)

  in_keeps : (s : Server) (n : ℕ) (came put : List OnLeg) (pick : Pick)
      → IfSome pick (λ (one : Server × Message). view one.0 ≡ view s)
      → Holds s came put → PutKeeps Holds (leg_at InServer n) came put pick
  in_keeps s n came put None same h = tt
  in_keeps s n came put (Some one) same h = λ long. subst F (sym same) (h long)

  out_keeps : (s : Server) (n : ℕ) (came put : List OnLeg) (pick : Pick)
      → (F (view s) → IfSome pick (λ (one : Server × Message). F (view one.0)))
      → Holds s came put → PutKeeps Holds (leg_at OutServer n) came put pick
  out_keeps s n came put None goes h = tt
  out_keeps s n came put (Some one) goes h = λ long. goes (h long)

  put_keeps : (s : Server) (n : ℕ) (k : LegKind) (came put : List OnLeg) → Holds s came put
      → PutKeeps Holds (leg_at k n) came put (put_by_kind s n k)
  put_keeps s n InServer came put h = in_keeps s n came put (put_in s n) (in_same s n) h
  put_keeps s n OutServer came put h =
      out_keeps s n came put (put_out_at s (out_place n s.outs))
      (λ now. os_goes n s W (λ m. F) (puts n s now) (out_place n s.outs) refl) h
  put_keeps s n ClientIn came put h = tt
  put_keeps s n ClientOut came put h = tt

  steps : StepsKeep server_rules Holds
  steps = record {
    up = λ s leg cookie came put h.
        goes_on s (up s leg cookie) came put (up_serves least F keeps s leg cookie) h;
    head = λ s leg text came put h. h;
    pdu = λ s leg count bytes came put h.
        pdu_keeps s leg bytes came put (pdu s leg count bytes)
        (pdu_row least F keeps s leg count bytes) h;
    packet = λ s leg count m came put h.
        row_keeps s leg m came put (packet_by s leg.number count m leg.kind)
        (packet_row least F keeps s leg.number count m leg.kind) h;
    put = λ s leg came put h. put_keeps s leg.number leg.kind came put h;
    drawn = λ s leg came put h.
        goes_on s (drawn_by s leg.number leg.kind) came put
        (drawn_serves least F keeps s leg.number leg.kind) h;
    mark = λ s leg came put h.
        goes_on s (mark_by s leg.number leg.kind) came put
        (mark_serves least F keeps s leg.number leg.kind) h;
    ping = λ s leg came put h. h;
  }

  calls : ActsKeep acts Holds
  calls = record {
    give = λ s bytes came put h.
        goes_on s (give s bytes).0 came put (give_serves least F keeps s bytes) h;
    take = λ s came put h. goes_on s (take s) came put (take_serves least F keeps s) h;
    close = λ s came put h. goes_on s (close s) came put (λ now. now) h;
    recycle = λ s came put h. goes_on s (recycle s).0 came put (recycles least F keeps s) h;
  }

  pub view_keeps : (window : ℕ) (moves : List EndMove) → F (view (first window))
      → AreLong least (passed window moves).came → F (view (passed window moves).role)
  view_keeps window moves start =
      end_moves_keep server_rules Holds steps acts calls (end_started (first window)) moves
      (λ long. start)
