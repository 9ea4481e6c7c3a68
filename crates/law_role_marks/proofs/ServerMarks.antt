-- a server goes on where an os leg ends on which it put OUT_R1/A9
use Rattle.law_order.proofs.Vocabulary.{◌≡◌, ◌<◌, ◌≤◌, ◌⊎◌, inl, inr, ◌∙◌, ℕ, true, true≢false, not, nat_le, arith, nat_tests, sym, ap, cases_lt, has_handover, GiverLaw}
use Rattle.rh_server.specs.Acknowledging.{out_server as os}
use Rattle.law_moves.proofs.Vocabulary.{EndPassage}
use Rattle.law_role_server.proofs.Vocabulary.{Server, only_marks, giver_of, sent}

module _ (p : EndPassage Server) (n : ℕ)
    (law : GiverLaw (giver_of p.given p.passage.role) (sent p)) where
  abbrev writing : ℕ
  writing = p.passage.role.writing

  -- on the writing channel, and behind it, none was put
  below : has_handover (sent p n) ≡ true → n < writing
  below handed = by (cases_lt n writing)
    where
      on : writing ≤ n → (writing < n) ⊎ (n ≤ writing) → n < writing
      on from (inl above) =
          absurd (true≢false (sym handed ∙ ap has_handover (law.later n above)))
      on from (inr upto) =
          let same : n ≡ writing = omega (arith, from, upto) in
          absurd (true≢false (sym handed
          ∙ ap (λ (k : ℕ). has_handover (sent p k)) same ∙ law.unhanded))

      by : (n < writing) ⊎ (writing ≤ n) → n < writing
      by (inl less) = less
      by (inr from) = on from (cases_lt writing n)

  pub only_marks_handed : has_handover (sent p n) ≡ true
      → only_marks p.passage.role (os n) ≡ true
  only_marks_handed handed =
      let less = below handed in
      let behind : not (nat_le writing n) ≡ true = grind (arith, nat_tests, less) in behind
