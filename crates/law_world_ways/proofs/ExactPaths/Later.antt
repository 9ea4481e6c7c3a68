-- the streams of a node behind a front of its events and behind all of them: what came behind the
-- front came
use Rattle.law_order.proofs.Vocabulary.{List, [], ◌∷◌, ◌++◌, Some, None, Ok, Err, sym, ap, ◌∙◌, subst, Option, append-nil, IsPrefix}
use Rattle.law_moves.proofs.Vocabulary.{prefix_more, prefix_self, prefix_trans, Pipe, Leg, Rooms, Acts, Message, Row, Rules, EndMove, EndPassage, Move, OnLeg, Passage, all_end_moved, all_moved, end_started, started, EndEvent, Event}
use Rattle.law_moves.proofs.Lemmas.{ActsKeep, Fact, PutKeeps, RowKeeps, StepsKeep, end_moves_keep, moves_keep}
use Rattle.law_node_streams.proofs.Streams.EndMoves.{all_end_moved_append}
use Rattle.law_node_streams.proofs.Streams.Ways.{all_moved_append}
use Rattle.law_node_streams.proofs.Grown.Walks.{end_walk, walk}
use Rattle.law_node_streams.specs.Streams.{EndStream, Stream}
use Rattle.law_node_streams.specs.Grown.{EndGrowing, EndGrows, Growing, Grows}

-- ---- what came by moves is a front of what came by more

module _ {S : Type 0} (rules : Rules S) (came : List OnLeg) where
  abbrev Behind : Fact S
  Behind s now put = IsPrefix came now

  row : (one : OnLeg) (now put : List OnLeg) → IsPrefix came now → (row : S × Row)
      → RowKeeps Behind one now put row
  row one now put h (s, Ok taken) =
      prefix_trans came now (now ++ one ∷ []) h (prefix_more now (one ∷ []))
  row one now put h (s, Err refused) = h

  puts : (leg : Leg) (now put : List OnLeg) → IsPrefix came now
      → (pick : Option (S × Message)) → PutKeeps Behind leg now put pick
  puts leg now put h None = tt
  puts leg now put h (Some one) = h

  steps_keep : StepsKeep rules Behind
  steps_keep = record {
    up = λ s leg cookie now put h. h;
    head = λ s leg text now put h. h;
    pdu = λ s leg count bytes now put h. row _ now put h (rules.pdu s leg count bytes);
    packet = λ s leg count named now put h. row _ now put h (rules.packet s leg count named);
    put = λ s leg now put h. puts leg now put h (rules.put s leg);
    drawn = λ s leg now put h. h;
    mark = λ s leg now put h. h;
    ping = λ s leg now put h. h;
  }

  acts_keep : (acts : Acts S) → ActsKeep acts Behind
  acts_keep acts = record {
    give = λ s bytes now put h. h;
    take = λ s now put h. h;
    close = λ s now put h. h;
    recycle = λ s now put h. h;
  }

pub came_front : {S : Type 0} (rules : Rules S) (p : Passage S) (front all : List Move)
    → IsPrefix front all
    → IsPrefix (all_moved rules p front).came (all_moved rules p all).came
came_front rules p front all is =
    let q = all_moved rules p front in
    subst (λ x. IsPrefix q.came x.came)
    (sym (all_moved_append rules p front is.0) ∙ ap (all_moved rules p) is.1)
    (moves_keep rules (Behind rules q.came) (steps_keep rules q.came) q is.0 (prefix_self q.came))

pub end_came_front : {S : Type 0} (rules : Rules S) (acts : Acts S) (p : EndPassage S)
    (front all : List EndMove) → IsPrefix front all
    → IsPrefix (all_end_moved rules acts p front).passage.came
    (all_end_moved rules acts p all).passage.came
end_came_front rules acts p front all is =
    let q = all_end_moved rules acts p front in
    let came = q.passage.came in
    subst (λ x. IsPrefix came x.passage.came)
    (sym (all_end_moved_append rules acts p front is.0) ∙ ap (all_end_moved rules acts p) is.1)
    (end_moves_keep rules (Behind rules came) (steps_keep rules came) acts
    (acts_keep rules came acts) q is.0 (prefix_self came))

-- ---- streams of both

pub record Both {S : Type 0} (rules : Rules S) (first : S) (rooms : Rooms)
    (pipe : Leg → Option Pipe) (front all : List Event) : Type 0 where
  pub one : Stream rules first rooms pipe front
  pub other : Stream rules first rooms pipe all
  pub came : IsPrefix one.passage.came other.passage.came

module _ {S : Type 0} (rules : Rules S) (first : S) (rooms : Rooms)
    (pipe : Leg → Option Pipe) where
  both_behind : (front more : List Event) → Growing rules first rooms pipe (front ++ more)
      → Both rules first rooms pipe front (front ++ more)
  both_behind front more growing =
      let a = walk rules first rooms pipe [] front more growing.start growing.grows in
      let b = walk rules first rooms pipe front more [] a.0
      (subst (λ x. Grows rules first rooms pipe front x a.0) (sym (append-nil more)) a.2) in
      record {
        one = a.0;
        other = b.0;
        came =
            subst (λ (p : Passage S). IsPrefix p.came b.0.passage.came) a.0.leads.reached
            (subst (λ (p : Passage S).
            IsPrefix (all_moved rules (started first) a.0.leads.moves).came p.came)
            b.0.leads.reached
            (came_front rules (started first) a.0.leads.moves b.0.leads.moves b.1));
      }

  pub both_streams : (front all : List Event) → IsPrefix front all
      → Growing rules first rooms pipe all → Both rules first rooms pipe front all
  both_streams front all p growing =
      subst (λ x. Both rules first rooms pipe front x) p.1
      (both_behind front p.0 (subst (λ x. Growing rules first rooms pipe x) (sym p.1) growing))

-- ---- and of an end

pub record EndBoth {S : Type 0} (rules : Rules S) (acts : Acts S) (first : S) (rooms : Rooms)
    (pipe : Leg → Option Pipe) (front all : List EndEvent) : Type 0 where
  pub one : EndStream rules acts first rooms pipe front
  pub other : EndStream rules acts first rooms pipe all
  pub moves : IsPrefix one.leads.moves other.leads.moves
  pub came : IsPrefix one.passage.passage.came other.passage.passage.came

module _ {S : Type 0} (rules : Rules S) (acts : Acts S) (first : S) (rooms : Rooms)
    (pipe : Leg → Option Pipe) where
  end_both_behind : (front more : List EndEvent)
      → EndGrowing rules acts first rooms pipe (front ++ more)
      → EndBoth rules acts first rooms pipe front (front ++ more)
  end_both_behind front more growing =
      let a = end_walk rules acts first rooms pipe [] front more growing.start growing.grows in
      let b = end_walk rules acts first rooms pipe front more [] a.0
      (subst (λ x. EndGrows rules acts first rooms pipe front x a.0) (sym (append-nil more)) a.2) in
      record {
        one = a.0;
        other = b.0;
        moves = b.1;
        came =
            subst (λ (p : EndPassage S). IsPrefix p.passage.came b.0.passage.passage.came)
            a.0.leads.reached
            (subst (λ (p : EndPassage S).
            IsPrefix (all_end_moved rules acts (end_started first) a.0.leads.moves).passage.came
            p.passage.came) b.0.leads.reached
            (end_came_front rules acts (end_started first) a.0.leads.moves b.0.leads.moves b.1));
      }

  pub end_both_streams : (front all : List EndEvent) → IsPrefix front all
      → EndGrowing rules acts first rooms pipe all → EndBoth rules acts first rooms pipe front all
  end_both_streams front all p growing =
      subst (λ x. EndBoth rules acts first rooms pipe front x) p.1
      (end_both_behind front p.0
      (subst (λ x. EndGrowing rules acts first rooms pipe x) (sym p.1) growing))
