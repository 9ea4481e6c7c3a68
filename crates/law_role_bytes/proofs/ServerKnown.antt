-- what is known of a server's next channel: its window is shut, and nothing came there
use Rattle.law_order.proofs.Vocabulary.{◌≡◌, ℕ, suc, ◌<◌, List, Bool, true, if◌then◌else◌, arith, refl, ap, ◌∙◌, subst, TakerLaw, pdus}
use Rattle.rh_line.specs.Lines.{IsLine}
use Rattle.law_moves.proofs.Vocabulary.{InServer, IsWindow, EndMove, AreAllowedAtEnd, end_started, all_end_moved, OnLeg, total}
use Rattle.law_role_server.proofs.Vocabulary.{Server, first, acts, rules, got, has_leg, in_items, items_on, taker_of}
use Rattle.law_role_inproxy.proofs.Vocabulary.{is_leg}
use Rattle.law_role_windows.proofs.Held.Lines.{first_kept}
use Rattle.law_role_windows.proofs.Held.Roles.{end_moves_keep}
use Rattle.law_role_windows.proofs.Held.ServerLine as held
use Rattle.law_role_bytes.proofs.Items.{server_bytes}
use Rattle.law_role_bytes.proofs.ServerReceives.{Known}
use Rattle.law_role_bytes.specs.Bytes.{CountsCame}

module _ (taken : List (List ℕ)) (s : Server) (legs : ℕ → Bool) (came put : List OnLeg)
    (line : IsLine s.line) (shut : s.line.next.window.told ≡ 0)
    (law : TakerLaw (taker_of taken s) legs (λ n. items_on in_items InServer came n)) where
  nothing : s.line.has_next ≡ true → CountsCame (is_leg s.next.leg) came s.line.next.window
  nothing there =
      let within = line.next.side.within in
      let counted = line.next.counted in
      let follows = subst (λ (b : Bool). s.line.next.pdus
      ≡ pdus (items_on in_items InServer came (if b then s.next.leg else suc s.current.leg))) there
      law.holds.follows in
      let bytes = ap total follows ∙ server_bytes came s.next.leg in
      omega (arith, within, counted, shut, bytes)

  pub known_by : Known s came put
  known_by = record {
    above = λ there.
        subst (λ (b : Bool). s.current.leg < (if b then s.next.leg else suc s.current.leg)) there
        law.above;
    behind = nothing;
    followed = λ e. (line.finished e).0;
  }

pub server_known : (window : ℕ) → IsWindow window → (moves : List EndMove)
    → AreAllowedAtEnd rules acts (end_started (first window)) moves
    → (let p = all_end_moved rules acts (end_started (first window)) moves in
    TakerLaw (taker_of p.taken p.passage.role) (has_leg moves p.passage.role) (got p)
    → Known p.passage.role p.passage.came p.passage.put)
server_known window is moves may law =
    let p = all_end_moved rules acts (end_started (first window)) moves in
    let kept = end_moves_keep rules (held.Kept window) (held.server_keeps window) acts
    (held.server_calls_keep window) (first window) moves may
    (record { kept = first_kept window is; shut = λ e. absurd cc; next = refl }) in
    known_by p.taken p.passage.role (has_leg moves p.passage.role) p.passage.came p.passage.put
    kept.kept.sound kept.next law
