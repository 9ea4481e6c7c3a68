-- a server expects the handovers of IN channels that come next
use Rattle.law_order.proofs.Vocabulary.{◌≡◌, ℕ, zero, suc, ◌+◌, ◌≤◌, [], ◌∷◌, ◌++◌, IsTrue, Err, Some, None, inl, inr, refl, sym, subst, arith, IsPrefix}
use Rattle.rh_shell.specs.declared.answers.Refused.TheVariants as refused
use Rattle.law_moves.proofs.Vocabulary.{Cookie, Named, InR1A6, InServer, Count, Refused, Packet, Passage, is_in_use, of_leg, all_read_of, HasBegunIn, HasOne, BeginsIn}
use Rattle.law_role_inproxy.proofs.Vocabulary.{InProxy, is_leg, IsStream, Leaves, PutsInOrder}
use Rattle.law_role_client.proofs.Vocabulary.{ci, ClientRole, NamesIns, ReplacesIns}
use Rattle.law_role_server.proofs.Vocabulary.{rules, Server, is_in_r2_a2, leg_at}
use Rattle.law_role_server_rows.specs.Refusing.Refusing.{IsOther}
use Rattle.law_peers_moments.proofs.Joining.{in_front, is_front}
use Rattle.law_peers_moments.proofs.Read.{front_one}
use Rattle.law_peers_moments.specs.GoingRound.{taken_in}
use Rattle.law_peers_moments.specs.Expecting.{IsAmiss}
use Rattle.law_peers_moments.specs.Moments.{IsMoment, Moves, Numbers, client_behind, in_behind, passages, server_behind}
use Rattle.law_role_server_in.specs.Handovers.{NextNames, RefusesInR1A6, UnexpectedInR1A6}
use Rattle.law_role_server_in.specs.Refusing.{came_at, last_of, successor_by}
use Rattle.law_peers_in_channels.proofs.InHandovers.Known.{Known}
use Rattle.law_peers_in_channels.proofs.InHandovers.Left.{IsLeftFor, left_for}
use Rattle.law_peers_in_channels.proofs.InHandovers.Next.{Later, before, had_opened, later, not_last, not_yet}
use Rattle.law_peers_in_channels.proofs.InHandovers.Streams.{HandsOverTo, hands_over_next, names_begun}
use Rattle.law_peers_in_channels.proofs.ServerExpects.Refused.{not_other}
use Rattle.law_peers_in_channels.specs.ServerExpects.Expected.{ExpectsThose}
use Rattle.law_peers_in_channels.specs.InHandovers.{HandsOver}

one_less : (k : ℕ) → 1 ≤ k → (j : ℕ) × (k ≡ suc j)
one_less zero some = absurd (omega (arith, some))
one_less (suc j) some = (j, refl)

-- what else is known of a moment
pub record Handing (numbers : Numbers) (moves : Moves) : Type 0 where
  pub refuses : RefusesInR1A6 numbers.window moves.server
  pub names : NamesIns numbers.client.connection (client_behind numbers moves).passage
  pub replaces : ReplacesIns (client_behind numbers moves).passage
  pub puts : (m : ℕ) → PutsInOrder (numbers.ins m) (in_behind numbers moves m)
  pub number : (m : ℕ) → (numbers.ins m).number ≡ m

module _ (numbers : Numbers) (reader : ℕ → ℕ) (moves : Moves)
    (moment : IsMoment numbers reader moves) (known : Known numbers reader moves)
    (law : Handing numbers moves) where
  abbrev server : Passage Server
  server = (server_behind numbers moves).passage

  abbrev client : Passage ClientRole
  client = (client_behind numbers moves).passage

  abbrev proxy : ℕ → Passage InProxy
  proxy n = in_behind numbers moves n

  stream : (n : ℕ) → IsStream (numbers.ins n) (proxy n).came (of_leg (is_leg n) (proxy n).put)
  stream n =
      subst (λ (k : ℕ). IsStream (numbers.ins n) (proxy n).came (of_leg (is_leg k) (proxy n).put))
      (law.number n) (law.puts n)

  -- what came at an in proxy the client put
  put_there : (P : Named → Type 0) (n k : ℕ) → HasOne P (of_leg (ci k) (proxy n).came)
      → HasOne P (of_leg (ci k) client.put)
  put_there P n k has =
      front_one P (of_leg (ci k) (proxy n).came) (of_leg (ci k) client.put)
      (in_front reader (passages numbers moves) moment.now.joined n k) has

  -- IN_R1/A2 on an is leg named the cookie under which the channel of its number began
  named_there : (n : ℕ) (expected : Cookie)
      → last_of successor_by None (of_leg (leg_at InServer n) server.came) ≡ Some expected
      → HasBegunIn expected (of_leg (ci n) client.put)
  named_there n expected e =
      put_there (BeginsIn expected) n n
      (subst (λ (k : ℕ). HasBegunIn expected (of_leg (ci k) (proxy n).came)) (law.number n)
      (names_begun (numbers.ins n) (proxy n).came expected (of_leg (is_leg n) server.came)
      (of_leg (is_leg n) (proxy n).put) (stream n)
      (is_front reader (passages numbers moves) moment.now.joined n) e))

  module _ (n : ℕ) (successor : Cookie)
      (ahead : IsPrefix (of_leg (is_leg n) server.came ++ Packet (InR1A6 successor) ∷ [])
      (all_read_of (of_leg (is_leg n) (proxy n).put))) where
    handing : HandsOverTo (numbers.ins n) (proxy n).came successor
        (of_leg (is_leg n) server.came)
    handing =
        hands_over_next (numbers.ins n) (proxy n).came successor (of_leg (is_leg n) server.came)
        (of_leg (is_leg n) (proxy n).put) (stream n) ahead

    -- the last channel that was announced on the leg
    abbrev last : ℕ
    last = n + came_at is_in_r2_a2 server n

    left : IsLeftFor client last successor
    left =
        left_for numbers.client.connection client law.names law.replaces last successor
        (put_there (Leaves successor) n last
        (subst (λ (k : ℕ). HasOne (Leaves successor)
        (of_leg (ci (k + came_at is_in_r2_a2 server n)) (proxy n).came)) (law.number n)
        handing.left))

    are_taken : last ≤ taken_in server
    are_taken =
        let most = left.answered in
        let over = (known.round reader moves moment.now.made moment.now.joined).ins.a4_behind_a3 in
        omega (arith, most, over)

    module _ (behind : ℕ) (is : last ≡ suc behind) where
      taken : suc behind ≤ taken_in server
      taken = subst (λ (k : ℕ). k ≤ taken_in server) is are_taken

      unexpected : UnexpectedInR1A6 numbers.window moves.server n → ⊥
      unexpected (inl none) = let some = handing.began in omega (arith, none, some)
      unexpected (inr (inl some)) = let none = handing.stays in omega (arith, none, some)
      unexpected (inr (inr only)) =
          not_last numbers reader moves moment known n behind handing.began is taken only

      mismatch : (expected got : Cookie) → IsOther successor expected got
          → NextNames numbers.window moves.server n expected → ⊥
      mismatch expected got other next =
          not_other successor expected got
          (law.names.one (suc (suc behind)) expected successor
          (subst (λ (k : ℕ). HasBegunIn expected (of_leg (ci k) client.put)) (sym leg)
          (named_there next.leg expected next.names))
          (subst (λ (k : ℕ). HasBegunIn successor (of_leg (ci k) client.put)) here left.begun))
          other
        where
          after : Later numbers reader moves moment known n behind handing.began is taken
          after = later numbers reader moves moment known n behind handing.began is taken

          leg : suc (suc behind) ≡ next.leg
          leg =
              next.only (suc (suc behind))
              (before numbers reader moves moment known n behind handing.began is taken).front
              after.moves_then
              (had_opened numbers reader moves moment known n behind handing.began is taken)
              (not_yet numbers reader moves moment known n behind handing.began is taken)
              after.had

          here : last + 1 ≡ suc (suc behind)
          here = omega (arith, is)

      not_refused : (why : Refused) (count : Count)
          → IsTrue (is_in_use rules server.role (is_leg n))
          → (rules.packet server.role (is_leg n) count (InR1A6 successor)).1 ≡ Err why
          → IsAmiss why → ⊥
      not_refused refused.Unexpected count used refuses amiss =
          unexpected (law.refuses.in_r1_a6 n count successor used refuses)
      not_refused (refused.Cookie expected got) count used refuses amiss =
          let reason = law.refuses.in_r1_a6_cookie n count successor expected got refuses in
          mismatch expected got reason.0 reason.1
      not_refused why count used refuses amiss = absurd amiss

  pub expects_handovers : (n : ℕ) → ExpectsThose HandsOver rules server (is_leg n)
      (all_read_of (of_leg (is_leg n) (proxy n).put))
  expects_handovers n count (InR1A6 successor) why is used tells ahead refuses amiss =
      let last_is = one_less (last n successor ahead) (left n successor ahead).least in
      not_refused n successor ahead last_is.0 last_is.1 why count used refuses amiss
  expects_handovers n count m why is used tells ahead refuses amiss = absurd is
