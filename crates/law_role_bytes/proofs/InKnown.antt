-- what is known of an in proxy's next channel
use Rattle.law_order.proofs.Vocabulary.{◌≡◌, suc, List, [], ◌∷◌, true, arith, refl, sym, ap, ◌∙◌, Item, pdus}
use Rattle.rh_line.specs.Lines.{IsLine}
use Rattle.rh_sig.specs.declared.named.Named.TheVariants.{EndA1, InR1A5}
use Rattle.law_moves.proofs.Vocabulary.{Incoming, IsWindow, Message, Text, Pdu, Packet, Move, AreAllowed, all_moved, started, OnLeg, of_leg, pdu_bytes, total}
use Rattle.law_role_inproxy.proofs.Vocabulary.{Handover, InProxy, InProxyConfig, Successor, Absent, Up, Joined, KeepsOrder, ci_leg, first, is_joined, item_came, next_shelf, rules}
use Rattle.law_role_inproxy.proofs.Refusing.Items.{came_is}
use Rattle.law_role_windows.proofs.Held.Lines.{first_kept}
use Rattle.law_role_windows.proofs.Held.Roles.{moves_keep}
use Rattle.law_role_windows.proofs.Held.InProxyLine as held
use Rattle.law_role_bytes.proofs.InReceives.{Known}
use Rattle.law_role_bytes.proofs.Items.{seen_bytes}
use Rattle.law_role_bytes.specs.Bytes.{CountsCame}

came_bytes : (m : Message) → total (pdus (item_came m)) ≡ pdu_bytes (m ∷ [])
came_bytes (Text bytes) = refl
came_bytes (Pdu pdu) = refl
came_bytes (Packet EndA1) = refl
came_bytes (Packet (InR1A5 successor)) = refl
came_bytes (Packet packet) = refl

held_is : (next : Incoming) (z : Successor) (handover : Handover) → is_joined z ≡ true
    → (next_shelf next z handover).held ≡ next.pdus
held_is next Absent handover e = absurd cc
held_is next (Up number) handover e = absurd cc
held_is next (Joined leg stage) handover e = refl

module _ (config : InProxyConfig) (s : InProxy) (came put : List OnLeg) (line : IsLine s.line)
    (there : s.line.has_next ≡ is_joined s.successor)
    (law : KeepsOrder config.number (record { role = s; came = came; put = put })) where
  counts : s.line.has_next ≡ true → s.line.next.window.released ≡ 0
      → CountsCame (ci_leg (suc s.current.number)) came s.line.next.window
  counts more released =
      let n = suc s.current.number in
      let counted = line.next.counted in
      let bytes = ap total (sym (held_is s.line.next s.successor s.handover (sym there ∙ more))
      ∙ law.shelved.holds.follows)
      ∙ ap (λ (items : List Item). total (pdus items)) (came_is n came)
      ∙ seen_bytes item_came came_bytes (of_leg (ci_leg n) came) in
      omega (arith, counted, released, bytes)

  pub known_by : Known s came put
  known_by = record { there = there; followed = λ e. (line.finished e).0; next = counts }

pub in_proxy_known : (config : InProxyConfig) (moves : List Move) → IsWindow config.window
    → AreAllowed rules (started (first config)) moves
    → (let p = all_moved rules (started (first config)) moves in
    KeepsOrder config.number p → Known p.role p.came p.put)
in_proxy_known config moves is may law =
    let p = all_moved rules (started (first config)) moves in
    let kept = moves_keep rules (held.Kept config.window) (held.in_proxy_keeps config.window)
    (first config) moves may (record { kept = first_kept config.window is; there = refl }) in
    known_by config p.role p.came p.put kept.kept.sound kept.there law
