-- a server whose work is done writes on the same channel from then on
use Rattle.law_order.proofs.Vocabulary.{◌≡◌, ◌++◌, ◌&&◌, List, [], ◌∷◌, Bool, true, false, true≢false, not, Ok, Err, refl, sym, ap, ◌∙◌, subst, rules, ℕ, if◌then◌else◌, nat_lt, Result, and_parts, IsPrefix}
use Rattle.rh_server.specs.declared.state.Stage.TheVariants as stage
use Rattle.rh_server.specs.Servers as server
use Rattle.law_moves.proofs.Vocabulary.{Leg, LegKind, ClientIn, ClientOut, InServer, OutServer, GiveRefused, is_ended, AreAllowedAtEnd, Closes, EndMove, EndPassage, Gives, HeadCame, IsDrawn, Marks, MayEndMove, Moves, PacketCame, PduCame, Pings, Puts, Recycles, Takes, Up, all_end_moved, end_moved, end_now_at, end_started, given_by, is_at_work, is_in_use, with_first, EndEvent, after_end_events}
use Rattle.law_role_server.proofs.Vocabulary.{Stage, are_lost, completed, drawn, drawn_by, give, in_is_drawn, settled, take, asks, is_under_way, last_number, wanted_by, wished, Server, in_leg, is_open, is_put, out_leg, phase_of, without_in}
use Rattle.law_node_streams.proofs.Streams.EndMoves.{all_end_moved_append}
use Rattle.law_node_streams.specs.Grown.{EndGrowing}
use Rattle.law_peers_routes.specs.Downwards.{server_reads}
use Rattle.law_world_ways.proofs.ExactPaths.Later.{EndBoth, end_both_streams}

abbrev Same : Server → Server → Type 0
Same s t = (t.stage ≡ s.stage) × (t.writing ≡ s.writing)

abbrev at_work : Server → Bool
at_work s = is_at_work server.rules s

ended : (s : Server) → at_work s ≡ false → s.stage ≡ stage.Ended
ended s e = by s.stage refl
  where
    at : (x : Stage) → s.stage ≡ x → not (is_ended (phase_of x)) ≡ false
    at x is = ap (λ (y : Stage). not (is_ended (phase_of y))) (sym is) ∙ e

    by : (x : Stage) → s.stage ≡ x → s.stage ≡ stage.Ended
    by stage.Waits is = absurd (true≢false (at stage.Waits is))
    by (stage.OutCame connection) is = absurd (true≢false (at (stage.OutCame connection) is))
    by (stage.InCame connection window timeout) is =
        absurd (true≢false (at (stage.InCame connection window timeout) is))
    by (stage.Open connection) is = absurd (true≢false (at (stage.Open connection) is))
    by stage.Ended is = is

-- ---- it settles no more

settled_stays : (t : Server) → t.stage ≡ stage.Ended → settled t ≡ t
settled_stays t is = ap wished complete ∙ wish
  where
    complete : completed t ≡ t
    complete =
        ap (λ (b : Bool). if b then record t { stage = stage.Ended } else t)
        (ap (λ (x : Stage). is_open x && (is_put t.end_mark && are_lost t.ins)) is)

    wish : wished t ≡ t
    wish =
        ap (λ (b : Bool). if b then asks t else t)
        (ap (λ (x : Stage). is_open x && (nat_lt t.writing last_number
        && (not (is_under_way t) && wanted_by (out_leg t.writing t.outs)))) is)

drawn_stays : (s : Server) (leg : Leg) → s.stage ≡ stage.Ended → Same s (drawn s leg)
drawn_stays s leg is = by leg.kind
  where
    left : (b : Bool) → Same s (if b then settled (without_in s leg.number) else s)
    left true = subst (Same s) (sym (settled_stays (without_in s leg.number) is)) (refl, refl)
    left false = (refl, refl)

    by : (kind : LegKind) → Same s (drawn_by s leg.number kind)
    by InServer = left (in_is_drawn (in_leg leg.number s.ins))
    by OutServer = (refl, refl)
    by ClientIn = (refl, refl)
    by ClientOut = (refl, refl)

-- ---- its moves

same_take : (s : Server) → Same s (take s)
same_take s = (search rules, search rules)

same_give : (s : Server) (pdu : List ℕ) → Same s (give s pdu).0
same_give s pdu = (search rules, search rules)

module _ (p : EndPassage Server) (rests : at_work p.passage.role ≡ false) where
  abbrev s : Server
  s = p.passage.role

  working : {A : Type 0} → at_work s ≡ true → A
  working e = absurd (true≢false (sym e ∙ rests))

  using : {A : Type 0} (leg : Leg) → is_in_use server.rules s leg ≡ true → A
  using leg e = working (and_parts (at_work s) (not (server.rules.is_done s leg)) e).0

  given : (pdu : List ℕ) (did : Server × Result (Unit {0}) GiveRefused) → Same s did.0
      → Same s (given_by p pdu did).passage.role
  given pdu (t, Ok accepted) same = same
  given pdu (t, Err refused) same = same

  first : (q : EndPassage Server) (pdus : List (List ℕ))
      → (with_first q pdus).passage.role ≡ q.passage.role
  first q [] = refl
  first q (pdu ∷ pdus) = refl

  move_stays : (move : EndMove) → MayEndMove server.rules s move
      → Same s (end_moved server.rules server.acts p move).passage.role
  move_stays (Moves (Up leg cookie)) may = working may.0
  move_stays (Moves (HeadCame leg text)) may = using leg may
  move_stays (Moves (PduCame leg count pdu)) may = using leg may.0
  move_stays (Moves (PacketCame leg count named)) may = using leg may
  move_stays (Moves (Puts leg)) may = using leg may
  move_stays (Moves (IsDrawn leg)) may = drawn_stays s leg (ended s rests)
  move_stays (Moves (Marks leg)) may = working may.0
  move_stays (Moves (Pings leg)) may = (refl, refl)
  move_stays (Gives pdu) may = given pdu (give s pdu) (same_give s pdu)
  move_stays Takes may =
      subst (Same s)
      (sym (first (end_now_at p (take s)) (server.acts.line s).current.pdus)) (same_take s)
  move_stays Closes may = (refl, refl)
  move_stays Recycles may =
      working (ap (λ x. not (is_ended x)) may)

moves_stay : (p : EndPassage Server) (moves : List EndMove)
    → AreAllowedAtEnd server.rules server.acts p moves → at_work p.passage.role ≡ false
    → (all_end_moved server.rules server.acts p moves).passage.role.writing
    ≡ p.passage.role.writing
moves_stay p [] may rests = refl
moves_stay p (move ∷ moves) may rests =
    let one = move_stays p rests move may.0 in
    moves_stay (end_moved server.rules server.acts p move) moves may.1
    (ap (λ (x : Stage). not (is_ended (phase_of x))) one.0 ∙ rests)
    ∙ one.1

-- what is allowed behind a front of moves
allowed_rest : (p : EndPassage Server) (front rest : List EndMove)
    → AreAllowedAtEnd server.rules server.acts p (front ++ rest)
    → AreAllowedAtEnd server.rules server.acts (all_end_moved server.rules server.acts p front)
    rest
allowed_rest p [] rest may = may
allowed_rest p (move ∷ front) rest may =
    allowed_rest (end_moved server.rules server.acts p move) front rest may.1

-- ---- behind more events

module _ (window : ℕ) (front all : List EndEvent) (p : IsPrefix front all)
    (growing : EndGrowing server.rules server.acts (server.first window) server.rooms server_reads
    all) where
  abbrev role_behind : List EndEvent → Server
  role_behind events =
      (after_end_events server.rules server.acts (server.new_server window) events).role

  abbrev begun : EndPassage Server
  begun = end_started (server.first window)

  both : EndBoth server.rules server.acts (server.first window) server.rooms server_reads front all
  both =
      end_both_streams server.rules server.acts (server.first window) server.rooms server_reads
      front all p growing

  abbrev one : EndPassage Server
  one = all_end_moved server.rules server.acts begun both.one.leads.moves

  here : one.passage.role ≡ role_behind front
  here =
      ap (λ (q : EndPassage Server). q.passage.role) both.one.leads.reached ∙ both.one.role

  behind : both.other.passage.passage.role
      ≡ (all_end_moved server.rules server.acts one both.moves.0).passage.role
  behind =
      ap (λ (q : EndPassage Server). q.passage.role)
      (sym both.other.leads.reached
      ∙ ap (all_end_moved server.rules server.acts begun) (sym both.moves.1)
      ∙ all_end_moved_append server.rules server.acts begun both.one.leads.moves both.moves.0)

  allowed : AreAllowedAtEnd server.rules server.acts one both.moves.0
  allowed =
      allowed_rest begun both.one.leads.moves both.moves.0
      (subst (λ (ms : List EndMove). AreAllowedAtEnd server.rules server.acts begun ms)
      (sym both.moves.1) both.other.leads.allowed)

  pub writing_stays : at_work (role_behind front) ≡ false
      → (role_behind all).writing ≡ (role_behind front).writing
  writing_stays rests =
      ap (λ (r : Server). r.writing) (sym both.other.role ∙ behind)
      ∙ moves_stay one both.moves.0 allowed (ap at_work here ∙ rests)
      ∙ ap (λ (r : Server). r.writing) here
