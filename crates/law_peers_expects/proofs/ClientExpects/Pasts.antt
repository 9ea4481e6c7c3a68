-- at each moment OUT_R1/A2 came once on each OUT channel from the first on, as at those before it
use Rattle.law_order.proofs.Vocabulary.{◌≡◌, ◌≤◌, ℕ, List, [], ◌∷◌, ◌++◌, refl, sym, ap, ◌∙◌, subst, append_assoc, append-nil}
use Rattle.law_moves.proofs.Vocabulary.{ClientOut, AreAllowedAtEnd, EndMove, EndPassage, all_end_moved, end_moved, end_started}
use Rattle.law_role_client.proofs.Vocabulary.{ClientRole, acts, rules, first, StandsOnEach, is_out_r1_a2, out_asked, out_wanted}
use Rattle.law_role_client.proofs.Counted.Standing.{stands_none, stands_on}
use Rattle.law_node_streams.proofs.Streams.EndMoves.{all_end_moved_append}
use Rattle.law_peers_moments.specs.Moments.{IsMoment, Moves, Numbers, client_behind, server_behind}
use Rattle.law_peers_expects.proofs.ClientExpects.GoingRound.{RoundLaws, are_asked}
use Rattle.law_peers_expects.proofs.ClientExpects.Wishes.{AreAsked, brings, brought}

allowed_front : (p : EndPassage ClientRole) (ms ns : List EndMove)
    → AreAllowedAtEnd rules acts p (ms ++ ns) → AreAllowedAtEnd rules acts p ms
allowed_front p [] ns allowed = tt
allowed_front p (m ∷ ms) ns allowed =
    (allowed.0, allowed_front (end_moved rules acts p m) ms ns allowed.1)

module _ (laws : RoundLaws) (numbers : Numbers) (reader : ℕ → ℕ) (moves : Moves)
    (moment : IsMoment numbers reader moves) where
  abbrev behind : List EndMove → EndPassage ClientRole
  behind front = all_end_moved rules acts (end_started (first numbers.client)) front

  abbrev Stood : List EndMove → Type 0
  Stood front = StandsOnEach is_out_r1_a2 ClientOut 1 (behind front).passage.came

  one_later : (front later : List EndMove) (move : EndMove)
      → moves.client ≡ front ++ move ∷ later → Stood front → Stood (front ++ move ∷ [])
  one_later front later move e stood =
      let past = moment.client_past (front ++ move ∷ []) later
      (e ∙ sym (append_assoc front (move ∷ []) later)) in
      let then : Moves = past.0.moves_then in
      let more : behind (front ++ move ∷ []) ≡ end_moved rules acts (behind front) move =
      all_end_moved_append rules acts (end_started (first numbers.client)) front (move ∷ []) in
      let asked : AreAsked (end_moved rules acts (behind front) move).passage
      (server_behind numbers then).passage =
      subst (λ (x : EndPassage ClientRole). AreAsked x.passage (server_behind numbers then).passage)
      (ap behind past.1 ∙ more)
      (are_asked laws numbers past.0.reader_then then past.0.then_joined) in
      let allowed : AreAllowedAtEnd rules acts (end_started (first numbers.client)) front =
      allowed_front (end_started (first numbers.client)) front (move ∷ later)
      (subst (AreAllowedAtEnd rules acts (end_started (first numbers.client))) e
      moment.now.made.client) in
      let wanted : out_asked (behind front).passage ≤ out_wanted (behind front).passage =
      (laws.asks numbers.client front allowed).wanted in
      subst (λ (x : EndPassage ClientRole).
      StandsOnEach is_out_r1_a2 ClientOut 1 x.passage.came) (sym more)
      (brought (behind front) (end_moved rules acts (behind front) move)
      (server_behind numbers then).passage asked wanted stood (brings (behind front) move))

  all_later : (front later : List EndMove) → moves.client ≡ front ++ later → Stood front
      → Stood moves.client
  all_later front [] e stood = subst Stood (sym (e ∙ append-nil front)) stood
  all_later front (move ∷ later) e stood =
      all_later (front ++ move ∷ []) later (e ∙ sym (append_assoc front (move ∷ []) later))
      (one_later front later move e stood)

  pub wanted_in_turn :
      StandsOnEach is_out_r1_a2 ClientOut 1 (client_behind numbers moves).passage.came
  wanted_in_turn =
      all_later [] moves.client refl
      (stands_on is_out_r1_a2 ClientOut 1 0 [] (stands_none is_out_r1_a2 ClientOut 1))
