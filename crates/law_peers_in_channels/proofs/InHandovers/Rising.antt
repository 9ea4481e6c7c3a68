-- what one message more adds to the announcements that came at a server
use Rattle.law_order.proofs.Vocabulary.{◌≡◌, ◌⊎◌, ℕ, suc, ◌+◌, ◌<◌, ◌≤◌, Bool, inl, inr, sym, ap, subst, arith, cases_eq}
use Rattle.law_moves.proofs.Vocabulary.{Named, InServer, Passage}
use Rattle.law_role_server.proofs.Vocabulary.{acts, rules, Server, in_came, is_conn_b2, is_in_r1_a2, is_in_r2_a2, often}
use Rattle.law_peers_moments.specs.GoingRound.{announced, taken_in}
use Rattle.law_role_server_in.specs.Refusing.{came_at, first_at}
use Rattle.law_peers_in_channels.proofs.ServerExpects.Fronts.{IsOneMore}
use Rattle.law_peers_in_channels.proofs.InChannels.More.{OneMore, one_more_of}

-- where one more was announced
pub record IsAnnouncedBy (p q : Passage Server) : Type 0 where
  pub next : announced q ≡ suc (announced p)
  pub still : taken_in q ≡ taken_in p
  pub connected : in_came is_conn_b2 q ≡ in_came is_conn_b2 p
  -- if a leg began, it was IN_R1/A2
  pub begins : (n : ℕ) → first_at p n ≡ 0 → 1 ≤ first_at q n
      → in_came is_in_r1_a2 q ≡ suc (in_came is_in_r1_a2 p)

module _ (p q : Passage Server) (one : OneMore p q) (more : announced p < announced q) where
  begins_by : (n : ℕ) → first_at p n ≡ 0 → 1 ≤ first_at q n
      → in_came is_in_r1_a2 q ≡ suc (in_came is_in_r1_a2 p)
  begins_by n none some = by (cases_eq n one.leg)
    where
      at : (test : Named → Bool) → n ≡ one.leg
          → came_at test q n ≡ came_at test p n + one.more test
      at test is =
          subst (λ (k : ℕ). came_at test q k ≡ came_at test p k + one.more test) (sym is)
          (one.on_leg test)

      by : (n ≡ one.leg) ⊎ (n ≡ one.leg → ⊥)
          → in_came is_in_r1_a2 q ≡ suc (in_came is_in_r1_a2 p)
      by (inl is) =
          let opens = at is_conn_b2 is in
          let begins = at is_in_r1_a2 is in
          let first = one.on_all is_in_r1_a2 in
          let later = one.on_all is_in_r2_a2 in
          let most = one.one in
          omega (arith, none, some, opens, begins, first, later, most, more)
      by (inr apart) =
          let opens = one.elsewhere is_conn_b2 n apart in
          let begins = one.elsewhere is_in_r1_a2 n apart in
          absurd (omega (arith, none, some, opens, begins))

  by_one : IsAnnouncedBy p q
  by_one =
      let opens = one.on_all is_conn_b2 in
      let first = one.on_all is_in_r1_a2 in
      let later = one.on_all is_in_r2_a2 in
      let most = one.one in
      record {
        next = omega (arith, first, later, most, more);
        still = one.put;
        connected = omega (arith, opens, first, later, most, more);
        begins = begins_by;
      }

pub announced_by : (p q : Passage Server) → IsOneMore rules acts p q → announced p < announced q
    → IsAnnouncedBy p q
announced_by p q (inl same) more =
    let first = ap (often is_in_r1_a2 InServer) same in
    let later = ap (often is_in_r2_a2 InServer) same in
    absurd (omega (arith, first, later, more))
announced_by p q (inr one) more = by_one p q (one_more_of p q one.0 one.1 one.2) more
