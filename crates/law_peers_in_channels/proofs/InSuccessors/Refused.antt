-- which cookie of IN_R1/A2 a server refuses, told by what it does with another predecessor
use Rattle.law_order.proofs.Vocabulary.{◌≡◌, ◌⊎◌, ℕ, ◌∷◌, ◌++◌, Bool, true, false, not, if◌then◌else◌, List, Some, None, Err, inl, inr, refl, sym, ap, ◌∙◌, subst, length, arith, length-append, bytes_eq-Decides, ◌&&◌, Option}
use Rattle.rh_shell.specs.declared.answers.Refused.TheVariants as refused
use Rattle.rh_server.specs.declared.state.Stage.TheVariants as stage
use Rattle.law_moves.proofs.Vocabulary.{Cookie, Count}
use Rattle.law_role_server.proofs.Vocabulary.{InLeg, Stage, Server, in_leg, is_fresh, same_cookie, Done, is_first, refuse, took, unexpected, announced, has_fresh_below, in_r1_a2_at, in_r1_a2_by, on_in_r1_a2}

-- ---- another cookie

apart : (a b : Cookie) → (a ≡ b → ⊥) → same_cookie a b ≡ false
apart a b no' = by (same_cookie a b) refl
  where
    by : (t : Bool) → same_cookie a b ≡ t → t ≡ false
    by false e = refl
    by true e =
        let of : List ℕ → Cookie = λ bytes. record { 0 = bytes } in
        absurd (no' (ap of ((bytes_eq-Decides a.0 b.0).0 e)))

-- one that is neither of two
abbrev pub neither : Cookie → Cookie → Cookie
neither a b = record { 0 = 0 ∷ (a.0 ++ b.0) }

pub not_first : (a b : Cookie) → neither a b ≡ a → ⊥
not_first a b e =
    let same = ap (λ (c : Cookie). length c.0) e in
    let sum = length-append a.0 b.0 in omega (arith, same, sum)

pub not_second : (a b : Cookie) → neither a b ≡ b → ⊥
not_second a b e =
    let same = ap (λ (c : Cookie). length c.0) e in
    let sum = length-append a.0 b.0 in omega (arith, same, sum)

-- ---- IN_R1/A2

-- the row refuses this cookie, where it expected that one
abbrev pub Refuses : Cookie → Cookie → Done → Type 0
Refuses expected got d = d.1 ≡ Err (refused.Cookie expected got)

module _ (s : Server) (n : ℕ) (count : Count) (connection predecessor other successor : Cookie)
    (window timeout : ℕ) (expected got : Cookie) where
  -- the connection, and so with the other predecessor; or the predecessor, and so the other one
  abbrev pub Either : Done → Type 0
  Either with_other =
      ((got ≡ connection) × Refuses expected connection with_other)
      ⊎ ((got ≡ predecessor) × ((expected ≡ other → ⊥) → Refuses expected other with_other))

  abbrev Follows : Done → Done → Type 0
  Follows with_this with_other = Refuses expected got with_this → Either with_other

  abbrev by_newest : InLeg → Cookie → Bool → Done
  by_newest leg before t =
      if not t then refuse s (refused.Cookie s.newest.cookie before)
      else took (announced s leg successor window timeout)

  abbrev by_first : Cookie → Bool → Done → Done
  by_first first t rest =
      if not t then refuse s (refused.Cookie first connection) else rest

  at_newest : (leg : InLeg) (t : Bool)
      → Follows (by_newest leg predecessor t)
      (by_newest leg other (same_cookie s.newest.cookie other))
  at_newest leg true r = absurd cc
  at_newest leg false r =
      let is : s.newest.cookie ≡ expected = cc in
      let last : got ≡ predecessor = cc in
      inr (
        last,
        λ no'.
            subst (λ (u : Bool). Refuses expected other (by_newest leg other u))
            (sym (apart s.newest.cookie other (λ same. no' (sym is ∙ same))))
            (ap (λ (c : Cookie). Err (refused.Cookie c other)) is),
      )

  at_first : (leg : InLeg) (first : Cookie) (t : Bool)
      → Follows
      (by_first first t (by_newest leg predecessor (same_cookie s.newest.cookie predecessor)))
      (by_first first t (by_newest leg other (same_cookie s.newest.cookie other)))
  at_first leg first true r = at_newest leg (same_cookie s.newest.cookie predecessor) r
  at_first leg first false r =
      let is : first ≡ expected = cc in
      let last : got ≡ connection = cc in
      inl (last, ap (λ (c : Cookie). Err (refused.Cookie c connection)) is)

  at_leg : (first : Cookie) (o : Option InLeg)
      → Follows (in_r1_a2_by s first connection predecessor successor window timeout o)
      (in_r1_a2_by s first connection other successor window timeout o)
  at_leg first None r = absurd cc
  at_leg first (Some leg) r = by (not (is_fresh leg.stage)) r
    where
      by : (t : Bool) → Follows
          (if t then unexpected s else by_first first (same_cookie first connection)
          (by_newest leg predecessor (same_cookie s.newest.cookie predecessor)))
          (if t then unexpected s else by_first first (same_cookie first connection)
          (by_newest leg other (same_cookie s.newest.cookie other)))
      by true r = absurd cc
      by false r = at_first leg first (same_cookie first connection) r

  at_stage : (x : Stage)
      → Follows (in_r1_a2_at s x n connection predecessor successor window timeout)
      (in_r1_a2_at s x n connection other successor window timeout)
  at_stage (stage.Open first) r = at_leg first (in_leg n s.ins) r
  at_stage stage.Waits r = absurd cc
  at_stage (stage.OutCame first) r = absurd cc
  at_stage (stage.InCame first own_window own_timeout) r = absurd cc
  at_stage stage.Ended r = absurd cc

  pub with_other : Follows
      (on_in_r1_a2 s n count connection predecessor successor window timeout)
      (on_in_r1_a2 s n count connection other successor window timeout)
  with_other r = by (is_first count && not (has_fresh_below n s.ins)) r
    where
      by : (t : Bool) → Follows
          (if t then in_r1_a2_at s s.stage n connection predecessor successor window timeout
          else unexpected s)
          (if t then in_r1_a2_at s s.stage n connection other successor window timeout
          else unexpected s)
      by true r = at_stage s.stage r
      by false r = absurd cc
