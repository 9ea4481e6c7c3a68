-- at each moment the channels that were announced are the first so many, and what stands next
-- announces the next one
use Rattle.law_order.proofs.Vocabulary.{◌≡◌, ℕ, suc, ◌+◌, ◌≤◌, Bool, true, false, if◌then◌else◌, List, [], ◌∷◌, ◌++◌, append_assoc, inl, inr, refl, sym, ap, ◌∙◌, subst, arith, append-nil}
use Rattle.law_moves.proofs.Vocabulary.{Named, InR1A2, InR2A2, InServer, Message, Packet, EndMove, EndPassage, OnLeg, Passage, all_end_moved, end_moved, end_started, of_leg, count_of, of_kind, all_read_of}
use Rattle.law_moves.proofs.Lemmas.{count_append, count_rises, leg_more}
use Rattle.law_role_inproxy.proofs.Vocabulary.{is_leg}
use Rattle.law_role_client.proofs.Vocabulary.{in_asked}
use Rattle.law_role_server.proofs.Vocabulary.{acts, first, rules, Server, is_conn_b2, is_in_r1_a2, is_in_r2_a2}
use Rattle.law_peers_moments.specs.Expecting.{IsAhead}
use Rattle.law_peers_moments.specs.Moments.{IsJoined, IsMoment, IsPast, Moves, Numbers, client_behind, in_behind}
use Rattle.law_role_server_in.specs.Refusing.{came_at, first_at}
use Rattle.law_peers_in_channels.proofs.ServerExpects.Fronts.{IsOneMore, all_fronts, behind_all, one_more}
use Rattle.law_peers_in_channels.proofs.InChannels.Fits.{Fits, beyond_all, fits_behind, same_fit}
use Rattle.law_peers_in_channels.proofs.InChannels.More.{one_more_of}
use Rattle.law_peers_in_channels.proofs.InChannels.Told.{AreTold, IsTold, Laws, are_told, is_told}
use Rattle.law_peers_in_channels.specs.InChannels.{AnnounceNext, AreAnnounced, IsAnnouncedOn, IsNextChannel, channels, passed}

-- ---- behind a move

-- a server that was told so at some moment
pub record WasTold (p : Passage Server) : Type 0 where
  pub reader : ℕ → ℕ
  pub asked : ℕ
  pub told : AreTold reader asked p

fits_by : (p q : Passage Server) → WasTold p → WasTold q → IsOneMore rules acts p q → Fits p
    → Fits q
fits_by p q before behind (inl came) fit =
    same_fit p q
    (λ test n. ap (λ (log : List OnLeg). count_of test (of_leg (is_leg n) log)) came)
    (ap (λ (log : List OnLeg). count_of is_conn_b2 (of_kind InServer log)
    + (count_of is_in_r1_a2 (of_kind InServer log)
    + count_of is_in_r2_a2 (of_kind InServer log))) came) fit
fits_by p q before behind (inr one) fit =
    fits_behind p q (one_more_of p q one.0 one.1 one.2) before.reader behind.reader before.asked
    behind.asked before.told behind.told fit

fits_first : (p : Passage Server) → p.came ≡ [] → Fits p
fits_first p none = record {
  each = λ k least most. absurd (omega (arith, least, most, all));
  only = λ m k on. let began = on.began in let here = at m in absurd (omega (arith, began, here));
}
  where
    all : channels p ≡ 0
    all =
        ap (λ (log : List OnLeg). count_of is_conn_b2 (of_kind InServer log)
        + (count_of is_in_r1_a2 (of_kind InServer log)
        + count_of is_in_r2_a2 (of_kind InServer log))) none

    at : (m : ℕ) → first_at p m ≡ 0
    at m =
        ap (λ (log : List OnLeg). count_of is_conn_b2 (of_leg (is_leg m) log)
        + count_of is_in_r1_a2 (of_leg (is_leg m) log)) none

-- what came on a leg grows
came_more : (test : Named → Bool) (p q : Passage Server) → IsOneMore rules acts p q → (n : ℕ)
    → came_at test p n ≤ came_at test q n
came_more test p q (inl came) n =
    let same = ap (λ (log : List OnLeg). count_of test (of_leg (is_leg n) log)) came in
    omega (arith, same)
came_more test p q (inr one) n =
    let same = ap (λ (log : List OnLeg). count_of test (of_leg (is_leg n) log)) one.1 in
    let more = ap (count_of test) (leg_more (is_leg n) p.came one.0) in
    let rise = count_rises test (of_leg (is_leg n) p.came) (of_leg (is_leg n) (one.0 ∷ [])) in
    omega (arith, same, more, rise)

-- ---- a moment

module _ (numbers : Numbers)
    (laws : (reader : ℕ → ℕ) (moves : Moves) → IsJoined numbers reader moves → Laws numbers moves)
  where
    told_then : (moves : Moves) (past : IsPast numbers moves)
        → WasTold (passed numbers past.moves_then.server)
    told_then moves past = record {
      reader = past.reader_then;
      asked = in_asked (client_behind numbers past.moves_then).passage;
      told = are_told numbers past.reader_then past.moves_then past.then_joined
          (laws past.reader_then past.moves_then past.then_joined);
    }

    module _ (reader : ℕ → ℕ) (moves : Moves) (moment : IsMoment numbers reader moves) where
      abbrev server : Passage Server
      server = passed numbers moves.server

      abbrev asked : ℕ
      asked = in_asked (client_behind numbers moves).passage

      pub told_front : (front later : List EndMove) → moves.server ≡ front ++ later
          → WasTold (passed numbers front)
      told_front front later e =
          let past = moment.server_past front later e in
          subst (λ (so : List EndMove). WasTold (passed numbers so)) past.1 (told_then moves past.0)

      fits_next : (front : List EndMove) (move : EndMove) (later : List EndMove)
          → moves.server ≡ front ++ move ∷ later → Fits (passed numbers front)
          → Fits (passed numbers (front ++ move ∷ []))
      fits_next front move later e fit =
          let begin : EndPassage Server = end_started (first numbers.window) in
          let here : EndPassage Server = all_end_moved rules acts begin front in
          let more = behind_all rules acts begin front move in
          let told = told_front (front ++ move ∷ []) later
          (e ∙ sym (append_assoc front (move ∷ []) later)) in
          subst (λ (s : EndPassage Server). Fits s.passage) (sym more)
          (fits_by here.passage (end_moved rules acts here move).passage
          (told_front front (move ∷ later) e)
          (subst (λ (s : EndPassage Server). WasTold s.passage) more told)
          (one_more rules acts here move) fit)

      fits_at : (front later : List EndMove) → moves.server ≡ front ++ later
          → Fits (passed numbers front)
      fits_at front later e =
          all_fronts (λ (these : List EndMove). Fits (passed numbers these)) front
          (λ these move rest is.
          fits_next these move (rest ++ later)
          (e ∙ ap (λ (all : List EndMove). all ++ later) is
          ∙ append_assoc these (move ∷ rest) later))
          (fits_first (passed numbers []) refl)

      fits : Fits server
      fits = fits_at moves.server [] (sym (append-nil moves.server))

      told_now : AreTold reader asked server
      told_now = are_told numbers reader moves moment.now (laws reader moves moment.now)

      -- what came on a leg behind a front came
      came_front : (test : Named → Bool) (n : ℕ) (front later : List EndMove)
          → moves.server ≡ front ++ later
          → came_at test (passed numbers front) n ≤ came_at test server n
      came_front test n front [] e =
          subst (λ (all : List EndMove). came_at test (passed numbers front) n
          ≤ came_at test (passed numbers all) n) (sym (e ∙ append-nil front)) (omega arith)
      came_front test n front (move ∷ later) e =
          let begin : EndPassage Server = end_started (first numbers.window) in
          let here : EndPassage Server = all_end_moved rules acts begin front in
          let rest = came_front test n (front ++ move ∷ []) later
          (e ∙ sym (append_assoc front (move ∷ []) later)) in
          let more = ap (λ (s : EndPassage Server). came_at test s.passage n)
          (behind_all rules acts begin front move) in
          let one = came_more test here.passage (end_moved rules acts here move).passage
          (one_more rules acts here move) n in
          omega (arith, rest, more, one)

      -- behind each front the channels that were announced are the first so many
      pub announced_front : (front later : List EndMove) → moves.server ≡ front ++ later
          → AreAnnounced reader (passed numbers front)
      announced_front front later e = record {
        each = (fits_at front later e).each;
        only = (fits_at front later e).only;
        read = λ m k on.
            let a = came_front is_conn_b2 m front later e in
            let b = came_front is_in_r1_a2 m front later e in
            let c = came_front is_in_r2_a2 m front later e in
            let began = on.began in
            let most = on.most in
            ((told_now.on m).channel k (omega (arith, a, b, began)) on.least
            (omega (arith, c, most))).0;
        once = λ m. ((told_front front later e).told.on m).once;
      }

      pub are_announced : AreAnnounced reader server
      are_announced = record {
        each = fits.each;
        only = fits.only;
        read = λ m k on. ((told_now.on m).channel k on.began on.least on.most).0;
        once = λ m. (told_now.on m).once;
      }

      -- ---- what stands next

      -- a channel that the client asked for and that was not announced is the next one
      next_by : (n k : ℕ) → 1 ≤ asked → (reader k ≡ n) × (1 ≤ k) × (k ≤ asked + 1)
          → (IsAnnouncedOn server n k → ⊥) → IsNextChannel server k
      next_by n k some right none =
          let last = told_now.one in
          let answered = told_now.answered in
          let opened = told_now.opened some in
          let once = told_now.opened_once in
          let most = right.2 in
          let least = beyond_all server fits n k right.1
          (λ m on.
          let read = (told_now.on m).channel k on.began on.least on.most in
          sym read.0 ∙ right.0) none in
          record {
            next = omega (arith, least, most, last, answered, opened, once);
            answered = omega (arith, least, most, last, answered, opened, once);
          }

      module _ (n : ℕ) (message : Named)
          (ahead : IsAhead server (is_leg n)
          (all_read_of (of_leg (is_leg n) (in_behind numbers moves n).put)) (Packet message)) where
        abbrev came : List Message
        came = of_leg (is_leg n) server.came

        next_told : IsTold reader asked n (came ++ Packet message ∷ [])
        next_told =
            is_told numbers reader moves moment.now (laws reader moves moment.now) n
            (came ++ Packet message ∷ []) ahead

        counted : (test : Named → Bool) → count_of test (came ++ Packet message ∷ [])
            ≡ came_at test server n + count_of test (Packet message ∷ [])
        counted test = count_append test came (Packet message ∷ [])

        -- it begins a channel
        next_first : is_in_r1_a2 message ≡ true → IsNextChannel server n
        next_first is =
            let a = counted is_conn_b2 in
            let b = counted is_in_r1_a2 in
            let here : count_of is_in_r1_a2 (Packet message ∷ []) ≡ 1
            = ap (λ (t : Bool). if t then 1 else 0) is in
            let once = next_told.once in
            next_by n n (next_told.asked_for (omega (arith, b, here)))
            (next_told.channel n (omega (arith, b, here)) (omega arith) (omega arith))
            (λ on. let began = on.began in omega (arith, a, b, here, once, began))

        -- or tells of the next one on its leg
        next_later : is_conn_b2 message ≡ false → is_in_r1_a2 message ≡ false
            → is_in_r2_a2 message ≡ true
            → (1 ≤ first_at server n)
            × IsNextChannel server (suc (n + came_at is_in_r2_a2 server n))
        next_later no_conn no_first is =
            let a = counted is_conn_b2 in
            let b = counted is_in_r1_a2 in
            let c = counted is_in_r2_a2 in
            let none_a : count_of is_conn_b2 (Packet message ∷ []) ≡ 0
            = ap (λ (t : Bool). if t then 1 else 0) no_conn in
            let none_b : count_of is_in_r1_a2 (Packet message ∷ []) ≡ 0
            = ap (λ (t : Bool). if t then 1 else 0) no_first in
            let here : count_of is_in_r2_a2 (Packet message ∷ []) ≡ 1
            = ap (λ (t : Bool). if t then 1 else 0) is in
            let began = next_told.begins (omega (arith, c, here)) in (
              omega (arith, began, a, b, none_a, none_b),
              next_by n (suc (n + came_at is_in_r2_a2 server n))
                  (next_told.asked_for (omega (arith, c, here)))
                  (next_told.channel (suc (n + came_at is_in_r2_a2 server n)) began (omega arith)
                  (omega (arith, c, here)))
                  (λ on. let most = on.most in omega (arith, most)),
            )

      pub announce_next : AnnounceNext numbers moves
      announce_next = record {
        in_r1_a2 = λ n version connection predecessor successor window timeout ahead.
            next_first n (InR1A2 version connection predecessor successor window timeout) ahead
            refl;
        in_r2_a2 = λ n successor ahead.
            next_later n (InR2A2 successor) ahead refl refl refl;
      }
