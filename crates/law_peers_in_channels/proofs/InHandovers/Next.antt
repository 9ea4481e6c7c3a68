-- the IN channel that was announced behind one that is left has an is leg of its own, and there was
-- a front of the server's moves where it was the next to be announced
use Rattle.law_order.proofs.Vocabulary.{◌≡◌, ◌⊎◌, ℕ, suc, ◌+◌, ◌≤◌, Bool, true, false, List, [], ◌∷◌, ◌++◌, inl, inr, refl, sym, ◌∙◌, subst, arith, nat_tests, append-nil, nat_lt}
use Rattle.law_moves.proofs.Vocabulary.{EndMove, Passage}
use Rattle.law_role_server.proofs.Vocabulary.{Server, in_came, is_conn_b2, is_in_r1_a2, is_in_r1_a3, is_in_r2_a2, out_put}
use Rattle.law_peers_moments.specs.GoingRound.{announced, taken_in}
use Rattle.law_peers_moments.specs.Moments.{IsMoment, Moves, Numbers}
use Rattle.law_role_server_in.proofs.Opened.{none_or_some}
use Rattle.law_role_server_in.specs.Handovers.{HadOpened, IsLastAnswered}
use Rattle.law_role_server_in.specs.Refusing.{came_at, first_at}
use Rattle.law_peers_in_channels.proofs.InHandovers.Known.{Known, Next, behind_is, connected, next_announced, none_waits}
use Rattle.law_peers_in_channels.specs.InChannels.{AreAnnounced, IsAnnouncedOn, channels, passed}

reached : (a b c : ℕ) → nat_lt a b ≡ false → a ≤ c → c ≤ b → b ≡ a
reached a b c e least most = grind (arith, nat_tests, e, least, most)

module _ (numbers : Numbers) (reader : ℕ → ℕ) (moves : Moves)
    (moment : IsMoment numbers reader moves) (known : Known numbers reader moves) where
  abbrev now : Passage Server
  now = passed numbers moves.server

  now_is : moves.server ≡ moves.server ++ []
  now_is = sym (append-nil moves.server)

  order : AreAnnounced reader now
  order = known.order moves.server [] now_is

  goes : taken_in now ≤ announced now
  goes =
      (known.round reader moves moment.now.made moment.now.joined).ins.a3_behind_a2

  -- a channel with an is leg of its own began there once so many were announced
  began_by : (front later : List EndMove) → moves.server ≡ front ++ later → (m : ℕ)
      → reader m ≡ m → 1 ≤ m → m ≤ channels (passed numbers front)
      → 1 ≤ first_at (passed numbers front) m
  began_by front later e m own least most =
      let then_order = known.order front later e in
      let one = then_order.each m least most in
      subst (λ (k : ℕ). 1 ≤ first_at (passed numbers front) k)
      (sym (then_order.read one.0 m one.1) ∙ own) one.1.began

  -- on is leg n this many channels behind the first one were announced, as many as are answered
  module _ (n behind : ℕ) (began : 1 ≤ first_at now n)
      (last : n + came_at is_in_r2_a2 now n ≡ suc behind)
      (are_taken : suc behind ≤ taken_in now) where
    on_last : IsAnnouncedOn now n (suc behind)
    on_last = record {
      began = began;
      least = omega (arith, last);
      most = omega (arith, last);
    }

    on_first : IsAnnouncedOn now n n
    on_first = record { began = began; least = omega arith; most = omega arith }

    own : reader n ≡ n
    own = order.read n n on_first

    positive : 1 ≤ n
    positive = (order.only n n on_first).0

    abbrev next : ℕ
    next = suc (suc behind)

    all : next ≤ channels now
    all =
        let most = goes in
        let opens = connected now (known.opens moves.server) (omega (arith, are_taken, most)) in
        omega (arith, are_taken, most, opens)

    pub next_own : reader next ≡ next
    next_own = by (moment.now.read.next (suc behind))
      where
        one : (m : ℕ) × IsAnnouncedOn now m next
        one = order.each next (omega arith) all

        read : reader next ≡ one.0
        read = order.read one.0 next one.1

        by : (reader next ≡ 0) ⊎ ((reader next ≡ next) ⊎ (reader next ≡ reader (suc behind)))
            → reader next ≡ next
        by (inl none) =
            let zero_first : 1 ≤ first_at now 0 =
            subst (λ (m : ℕ). 1 ≤ first_at now m) (sym read ∙ none) one.1.began in
            let no = (order.only 0 0
            (record { began = zero_first; least = omega arith; most = omega arith })).0 in
            absurd (omega (arith, no))
        by (inr (inl is)) = is
        by (inr (inr same)) =
            let there : one.0 ≡ n = sym read ∙ same ∙ order.read n (suc behind) on_last in
            let most = (subst (λ (m : ℕ). IsAnnouncedOn now m next) there one.1).most in
            absurd (omega (arith, most, last))

    pub before : Next numbers reader moves moment known behind
    before =
        let most = goes in
        next_announced numbers reader moves moment known behind
        (omega (arith, are_taken, most))

    abbrev front : List EndMove
    front = before.front

    abbrev behind_it : List EndMove
    behind_it = before.front ++ before.move ∷ []

    opened_behind : in_came is_conn_b2 (passed numbers behind_it) ≡ 1
    opened_behind =
        let more = before.behind.next in
        connected (passed numbers behind_it) (known.opens behind_it) (omega (arith, more))

    opened_before : in_came is_conn_b2 (passed numbers front) ≡ 1
    opened_before = sym before.behind.connected ∙ opened_behind

    pub not_yet : first_at (passed numbers front) next ≡ 0
    not_yet = by (none_or_some (first_at (passed numbers front) next))
      where
        by : (first_at (passed numbers front) next ≡ 0) ⊎ (1 ≤ first_at (passed numbers front) next)
            → first_at (passed numbers front) next ≡ 0
        by (inl none) = none
        by (inr some) =
            let most = ((known.order front (before.move ∷ before.later) before.is).only next next
            (record { began = some; least = omega arith; most = omega arith })).1 in
            let opens = opened_before in
            let count = before.so_many in absurd (omega (arith, most, opens, count))

    answered_before : in_came is_in_r1_a2 (passed numbers front)
        ≤ out_put is_in_r1_a3 (passed numbers front)
    answered_before =
        let count = before.so_many in
        let enough = before.are_answered in
        none_waits (passed numbers front) (known.answers front) (omega (arith, count, enough))

    pub had_opened : HadOpened numbers.window moves.server n front
    had_opened =
        let opens = opened_before in
        let count = before.so_many in
        let most = answered_before in
        record {
          on = (before.move ∷ before.later, sym before.is);
          began = began_by front (before.move ∷ before.later) before.is n own positive
              (omega (arith, opens, count, last));
          none_waits = omega (arith, most);
        }

    begins : in_came is_in_r1_a2 (passed numbers behind_it)
        ≡ suc (in_came is_in_r1_a2 (passed numbers front))
    begins =
        let opens = opened_behind in
        let count = before.so_many in
        let more = before.behind.next in
        before.behind.begins next not_yet
        (began_by behind_it before.later
        (behind_is numbers reader moves moment known behind before) next next_own (omega arith)
        (omega (arith, opens, count, more)))

    -- so some IN_R1/A3 was put behind the answers to those before
    pub not_last : IsLastAnswered numbers.window moves.server n → ⊥
    not_last is =
        let most = is front had_opened in
        let all_there = (known.answers front).in_r1 in
        let count = before.so_many in
        let more = before.behind.next in
        let now_put = known.answered behind_it before.later
        (behind_is numbers reader moves moment known behind before)
        (omega (arith, count, more, are_taken)) in
        let one = begins in
        omega (arith, most, all_there, now_put, one)

    -- ---- the next channel opens too

    pub record Later : Type 0 where
      pub moves_then : List EndMove
      pub had : HadOpened numbers.window moves.server next moves_then

    later_at : (these rest : List EndMove) → moves.server ≡ these ++ rest
        → announced (passed numbers these) ≡ suc behind
        → suc behind ≤ taken_in (passed numbers these) → Later
    later_at these rest e count enough =
        let opens = connected (passed numbers these) (known.opens these)
        (omega (arith, count)) in
        let most = none_waits (passed numbers these) (known.answers these)
        (omega (arith, count, enough)) in
        record {
          moves_then = these;
          had = record {
            on = (rest, sym e);
            began = began_by these rest e next next_own (omega arith)
                (omega (arith, opens, count));
            none_waits = omega (arith, most);
          };
        }

    pub later : Later
    later = by (nat_lt (suc behind) (announced now)) refl
      where
        by : (b : Bool) → nat_lt (suc behind) (announced now) ≡ b → Later
        by true e =
            let more = next_announced numbers reader moves moment known (suc behind)
            (grind (arith, nat_tests, e)) in
            later_at more.front (more.move ∷ more.later) more.is more.so_many more.are_answered
        by false e =
            later_at moves.server [] now_is
            (reached (suc behind) (announced now) (taken_in now) e are_taken goes) are_taken
