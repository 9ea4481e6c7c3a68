-- what is kept of all legs, with more known of the moves
use Rattle.law_order.proofs.Vocabulary.{ℕ, List, Bool, AllByRecursion, Option}
use Rattle.law_moves.proofs.Vocabulary.{Cookie, Pipe, Leg, Rules, Shell, Move, Passage, Stages}
use Rattle.law_node_streams.proofs.Streams.Runs.{Ran}
use Rattle.law_node_streams.proofs.Streams.Ways.{Lifts}

abbrev pub ran_with : {S : Type 0} (rules : Rules S) (pipes : Leg → Option Pipe)
    (Sound : Leg → Type 0) (MayRefuse : Type 0) (With Other : Leg → Cookie → Type 0)
    (At Next : Passage S → List Move → Stages → Type 0) (s : Shell S)
    (heard drawn : Leg → List ℕ) (up : Leg → Bool)
    → (ran : Ran rules pipes Sound MayRefuse With At s heard drawn up)
    → Next ran.passage ran.moves ran.stages → AllByRecursion (Lifts Other) ran.moves
    → Ran rules pipes Sound MayRefuse Other Next s heard drawn up
ran_with rules pipes Sound MayRefuse With Other At Next s heard drawn up ran next lifted = record {
  passage = ran.passage;
  moves = ran.moves;
  stages = ran.stages;
  at = next;
  role = ran.role;
  held = ran.held;
  apart = ran.apart;
  ups = ran.ups;
  lifted = lifted;
  staged = ran.staged;
  kept = ran.kept;
  unrefused = ran.unrefused;
  left = ran.left;
}
