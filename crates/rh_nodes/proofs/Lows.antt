-- legs that are down, and places where nothing happens: what is done there does nothing
use Rattle.std.proofs.Common.{◌≡◌, ℕ, zero, suc, List, [], ◌∷◌, Bool, true, false, not, ◌||◌, if◌then◌else◌, IsTrue, get_or, Some, None, refl, ap, ◌∙◌}
use Rattle.std.proofs.lemmas.Bool.{false≢true}
use Rattle.rh_text.specs.declared.ends.Side.{Side}
use Rattle.rh_text.specs.declared.ends.Side.TheVariants as side
use Rattle.rh_text.specs.declared.ends.Dir.{Dir}
use Rattle.rh_text.specs.declared.ends.Dir.TheVariants.{U, D}
use Rattle.rh_line.specs.declared.leg.Leg.{Leg}
use Rattle.rh_wires.specs.declared.wire.Wire.{Wire}
use Rattle.rh_wires.specs.Wires as wires
use Rattle.rh_wires.specs.Wires.{blank, is_low, sender, receiver}
use Rattle.rh_wires.specs.Numbered.{ask}
use Rattle.rh_wires.specs.Legs as legs
use Rattle.rh_company.specs.Company.{Rulebook}
use Rattle.rh_nodes.specs.World.{World, at}
use Rattle.rh_nodes.specs.Carrying.{feed, sent, fed, draw_into}
use Rattle.rh_nodes.specs.Reports.{and_then}
use Rattle.rh_nodes.specs.Settling.{carry, carried, carry_both, most_bytes, end_one, end_where, is_finished}

-- ---- legs

off_client : (a b : Bool) → IsTrue (not (a || b)) → a ≡ false
off_client false b h = refl
off_client true b h = absurd (false≢true h)

off_server : (a b : Bool) → IsTrue (not (a || b)) → b ≡ false
off_server false false h = refl
off_server false true h = absurd (false≢true h)
off_server true b h = absurd (false≢true h)

off : (end : Side) (wire : Wire) → IsTrue (is_low wire) → wires.is_up end wire ≡ false
off side.Client wire h = off_client wire.client wire.server h
off side.Server wire h = off_server wire.client wire.server h

-- a leg that is low is up for no end
pub low_ask : (list : List Wire) (k : ℕ) (end : Side) → IsTrue (is_low (get_or list k blank))
    → ask (wires.is_up end) false list k ≡ false
low_ask [] k end h = refl
low_ask (wire ∷ list) zero end h = off end wire h
low_ask (wire ∷ list) (suc k) end h = low_ask list k end h

-- nothing is carried on a leg that is up for no end
pub carry_low : {K C S I O : Type 0} (r : Rulebook C S I O) (leg : Leg) (dir : Dir)
    (w : World K C S I O)
    → legs.is_up leg (sender dir) w.legs ≡ false → legs.is_up leg (receiver dir) w.legs ≡ false
    → carry r leg dir w ≡ (w, [])
carry_low r leg dir w from to =
    ap (λ b. carried leg dir (feed r (if b
    then sent w (draw_into r w.company w.legs (at w leg (sender dir)) leg dir most_bytes)
    else (w, None)).0 leg dir most_bytes)) from
    ∙ ap (λ b. carried leg dir (if b
    then fed r w leg dir (legs.take_out leg dir most_bytes w.legs)
    else (w, None))) to

pub carry_both_low : {K C S I O : Type 0} (r : Rulebook C S I O) (leg : Leg)
    (w : World K C S I O)
    → legs.is_up leg side.Client w.legs ≡ false → legs.is_up leg side.Server w.legs ≡ false
    → carry_both r leg w ≡ (w, [])
carry_both_low r leg w client server =
    ap (λ did. and_then did (carry r leg D)) (carry_low r leg U w client server)
    ∙ carry_low r leg D w server client

-- nor is it ended
pub end_one_low : {K C S I O : Type 0} (r : Rulebook C S I O) (leg : Leg) (w : World K C S I O)
    → legs.is_up leg side.Client w.legs ≡ false → legs.is_up leg side.Server w.legs ≡ false
    → end_one r leg w ≡ (w, [])
end_one_low r leg w client server =
    ap (λ b. end_where r leg w (if b then (if is_finished r leg U w then Some U
    else (if is_finished r leg D w then Some D else None)) else None))
    (ap (λ b. b || legs.is_up leg side.Server w.legs) client ∙ server)
