-- bytes are heard up to what they first make whole, and then what is left
use Rattle.std.proofs.Common.{◌≡◌, ℕ, ◌<◌, List, [], ◌∷◌, length, true, false, cond, arith, ◌∙◌, ap, refl}
use Rattle.rh_shell.specs.Intakes.{Intake, Came, Nothing, Scanned, on_byte, is_nothing, scan}
use Rattle.rh_shell.specs.NearEnds.{NearEnd, is_over}
use Rattle.rh_shell.specs.Rules.{Rules}
use Rattle.rh_shell.specs.Hearing.{Turn, goes, take, take_next, take_scanned, touched, with_intake, is_stopped, hear_byte, hear, hear_next}

pub hear_none : {S : Type 0} (rules : Rules S) (now : ℕ) (t : Turn S) → hear rules now t [] ≡ t
unfolding hear
hear_none rules now t = refl

pub hear_stopped : {S : Type 0} (rules : Rules S) (now : ℕ) (t : Turn S) (bs : List ℕ)
    → is_stopped t.stop ≡ true → hear rules now t bs ≡ t
unfolding hear hear_byte
hear_stopped rules now t [] h = refl
hear_stopped rules now t (b ∷ bs) h = rw h (hear_stopped rules now t bs h)

pub hear_over : {S : Type 0} (rules : Rules S) (now : ℕ) (end : NearEnd) (role : S) (bs : List ℕ)
    → is_over rules end role ≡ true → hear rules now (goes end role) bs ≡ goes end role
unfolding hear hear_byte
hear_over rules now end role [] h = refl
hear_over rules now end role (b ∷ bs) h = rw h (hear_over rules now end role bs h)

-- what is left of a piece is heard
abbrev pub hear_left : {S : Type 0} → Rules S → ℕ → Turn S × List ℕ → Turn S
hear_left rules now t = hear rules now t.0 t.1

module _ {S : Type 0} (rules : Rules S) (now : ℕ) where
  hear_first : (end : NearEnd) (role : S) (b : ℕ) (bs : List ℕ) → is_over rules end role ≡ false
      → hear rules now (goes end role) (b ∷ bs)
      ≡ hear rules now (take_next rules (touched end now) role (on_byte end.intake b)) bs
  unfolding hear hear_byte
  hear_first end role b bs h = rw h refl

  nothing_is : (c : Came) → is_nothing c ≡ true → c ≡ Nothing
  nothing_is Nothing h = refl
  nothing_is c h = absurd cc

  scan_by : Intake × Came → List ℕ → Scanned
  scan_by n bs =
      cond (is_nothing n.1) (scan n.0 bs) (record { intake = n.0; came = n.1; left = bs })

  scan_first : (i : Intake) (b : ℕ) (bs : List ℕ) → scan_by (on_byte i b) bs ≡ scan i (b ∷ bs)
  unfolding scan scan_by
  scan_first i b bs = refl

  -- where a byte made nothing whole, the rest is heard by the same law
  rest_on : (end : NearEnd) (role : S) (i : Intake) (bs : List ℕ)
      → (0 < length bs → hear rules now (goes (with_intake (touched end now) i) role) bs
      ≡ hear_left rules now (take_scanned rules (touched end now) role (scan i bs)))
      → hear rules now (goes (with_intake (touched end now) i) role) bs
      ≡ hear_left rules now (take_scanned rules (touched end now) role (scan i bs))
  unfolding scan take
  rest_on end role i [] more = refl
  rest_on end role i (b ∷ bs) more = more (omega arith)

  take_none : (end : NearEnd) (role : S) (n : Intake × Came) → n.1 ≡ Nothing
      → take_next rules end role n ≡ goes (with_intake end n.0) role
  unfolding take
  take_none end role n e = rw e refl

  rest : (end : NearEnd) (role : S) (n : Intake × Came) (bs : List ℕ)
      → (0 < length bs → hear rules now (goes (with_intake (touched end now) n.0) role) bs
      ≡ hear_left rules now (take_scanned rules (touched end now) role (scan n.0 bs)))
      → hear rules now (take_next rules (touched end now) role n) bs
      ≡ hear_left rules now (take_scanned rules (touched end now) role (scan_by n bs))
  unfolding scan_by
  rest end role n bs more =
      elim (is_nothing n.1) as (λ t. is_nothing n.1 ≡ t
      → hear rules now (take_next rules (touched end now) role n) bs
      ≡ hear_left rules now (take_scanned rules (touched end now) role
      (cond t (scan n.0 bs) (record { intake = n.0; came = n.1; left = bs })))) [
        | true ↦ λ e.
            ap (λ (t : Turn S). hear rules now t bs)
            (take_none (touched end now) role n (nothing_is n.1 e))
            ∙ rest_on end role n.0 bs more
        | false ↦ λ e. refl
      ] refl

  pub hear_items : (end : NearEnd) (role : S) (piece : List ℕ) → 0 < length piece
      → is_over rules end role ≡ false
      → hear rules now (goes end role) piece
      ≡ hear_left rules now (hear_next rules (touched end now) role piece)
  hear_items end role [] some over = absurd (omega (arith, some))
  hear_items end role (b ∷ bs) some over =
      hear_first end role b bs over
      ∙ rest end role (on_byte end.intake b) bs
      (λ more. hear_items (with_intake (touched end now) (on_byte end.intake b).0) role bs more
      over)
      ∙ ap (λ (s : Scanned). hear_left rules now (take_scanned rules (touched end now) role s))
      (scan_first end.intake b bs)
