-- what came to a server, and what it put, stays
use Rattle.law_order.proofs.Vocabulary.{ℕ, ◌+◌, ◌≤◌, Bool, List, ◌∷◌, [], ◌++◌, Ok, Err, Some, None, sym, ap, ◌∙◌, subst, arith, IsPrefix}
use Rattle.law_moves.proofs.Vocabulary.{prefix_self, prefix_more, prefix_trans, Named, Leg, OutServer, Row, Pdu, Packet, count_of, of_kind, EndMove, EndPassage, OnLeg, Passage, all_end_moved, end_started}
use Rattle.law_moves.proofs.Lemmas.{ActsKeep, PutKeeps, RowKeeps, StepsKeep, end_moves_keep, count_append}
use Rattle.law_role_server.proofs.Vocabulary.{Server, Pick, acts, first, rules, often, out_put}
use Rattle.law_role_server_rows.proofs.InTurn.Splits.{kind_append}
use Rattle.law_node_streams.proofs.Streams.EndMoves.{all_end_moved_append}
use Rattle.law_role_server_in.specs.Handovers.{passed}
use Rattle.law_peers_in_channels.specs.InChannels as in_channels
use Rattle.law_peers_moments.specs.Moments.{Numbers}

module _ (came_then put_then : List OnLeg) where
  abbrev Holds : Server → List OnLeg → List OnLeg → Type 0
  Holds s came put = IsPrefix came_then came × IsPrefix put_then put

  row_keeps : (one : OnLeg) (came put : List OnLeg) (x : Server × Row)
      → IsPrefix came_then came × IsPrefix put_then put → RowKeeps Holds one came put x
  row_keeps one came put (t, Ok taken) h =
      (prefix_trans came_then came (came ++ one ∷ []) h.0 (prefix_more came (one ∷ [])), h.1)
  row_keeps one came put (t, Err why) h = h

  put_keeps : (leg : Leg) (came put : List OnLeg) (pick : Pick)
      → IsPrefix came_then came × IsPrefix put_then put → PutKeeps Holds leg came put pick
  put_keeps leg came put None h = tt
  put_keeps leg came put (Some one) h = (
    h.0,
    prefix_trans put_then put (put ++ (leg, one.1) ∷ []) h.1
        (prefix_more put ((leg, one.1) ∷ [])),
  )

  steps : StepsKeep rules Holds
  steps = record {
    up = λ s leg cookie came put h. h;
    head = λ s leg text came put h. h;
    pdu = λ s leg count bytes came put h.
        row_keeps (leg, Pdu bytes) came put (rules.pdu s leg count bytes) h;
    packet = λ s leg count m came put h.
        row_keeps (leg, Packet m) came put (rules.packet s leg count m) h;
    put = λ s leg came put h. put_keeps leg came put (rules.put s leg) h;
    drawn = λ s leg came put h. h;
    mark = λ s leg came put h. h;
    ping = λ s leg came put h. h;
  }

  calls : ActsKeep acts Holds
  calls = record {
    give = λ s bytes came put h. h;
    take = λ s came put h. h;
    close = λ s came put h. h;
    recycle = λ s came put h. h;
  }

logs_grow : (window : ℕ) (front later : List EndMove)
    → IsPrefix (passed window front).came (passed window (front ++ later)).came
    × IsPrefix (passed window front).put (passed window (front ++ later)).put
logs_grow window front later =
    let p = passed window front in
    subst (λ (q : Passage Server). IsPrefix p.came q.came × IsPrefix p.put q.put)
    (sym (ap (λ (e : EndPassage Server). e.passage)
    (all_end_moved_append rules acts (end_started (first window)) front later)))
    (end_moves_keep rules (Holds p.came p.put) (steps p.came p.put) acts (calls p.came p.put)
    (all_end_moved rules acts (end_started (first window)) front) later
    (prefix_self p.came, prefix_self p.put))

pub came_grows : (numbers : Numbers) (front later : List EndMove)
    → IsPrefix (in_channels.passed numbers front).came
    (in_channels.passed numbers (front ++ later)).came
came_grows numbers front later = (logs_grow numbers.window front later).0

-- no less was put later
pub put_grows : (test : Named → Bool) (window : ℕ) (front later : List EndMove)
    → out_put test (passed window front) ≤ out_put test (passed window (front ++ later))
put_grows test window front later =
    let put = (passed window front).put in
    let grown = (logs_grow window front later).1 in
    let all = ap (λ (log : List OnLeg). often test OutServer log) grown.1 in
    let split = ap (count_of test) (kind_append OutServer put grown.0)
    ∙ count_append test (of_kind OutServer put) (of_kind OutServer grown.0) in
    omega (arith, all, split)
