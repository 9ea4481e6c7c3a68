-- a node that a fed piece closes, by the byte that closes it: what it heard until then
use Rattle.rh_text.specs.declared.ends.Side.TheVariants as side
use Rattle.law_order.proofs.Vocabulary.{◌≡◌, ℕ, Bool, List, [], ◌∷◌, ◌++◌, map, sym, ap, ◌∙◌, if◌then◌else◌, append-nil}
use Rattle.rh_record.specs.declared.answer.Who.TheVariants as who
use Rattle.rh_wires.specs.Legs as legs
use Rattle.law_moves.proofs.Vocabulary.{Dir, Leg, Shell, bytes, Happens, after_end_events}
use Rattle.law_moves.specs.Moving as moving
use Rattle.law_role_inproxy.proofs.Vocabulary.{InProxy}
use Rattle.law_role_client.proofs.Vocabulary.{ClientRole}
use Rattle.law_role_server.proofs.Vocabulary.{Server}
use Rattle.law_node_history.proofs.Vocabulary.{Who, receiver, Place, Here, is_same, World, at, happened, heard_on, IsFed, History, at_place, in_place, made_by, noted, out_place, told_to}
use Rattle.law_node_history.proofs.Lemmas.{happened_more, heard_append, end_events_append, same_itself, who_itself as same_who}
use Rattle.law_role_outproxy.proofs.Vocabulary.{OutProxy}
use Rattle.law_node_traces.proofs.Vocabulary.{deeds, rules}

module _ {K : Type 0} (v : World K ClientRole Server InProxy OutProxy) (h : History) (leg : Leg)
    (dir : Dir) (node : Who) (here : at v leg (receiver dir) ≡ node) where
  -- so many bytes
  abbrev pub piece : ℕ → List ℕ
  piece count = (legs.take_out leg dir count v.legs).1

  -- they are all that is told to the node
  pub told_here : (count : ℕ)
      → told_to v (IsFed leg dir count) node ≡ moving.Hears leg (piece count) ∷ []
  told_here count =
      ap (λ (x : Who).
      if is_same x node then moving.Hears leg (piece count) ∷ [] else []) here
      ∙ ap (λ (t : Bool). if t then moving.Hears leg (piece count) ∷ [] else []) (same_who node)

  pub heard_told : (count : ℕ)
      → heard_on leg (told_to v (IsFed leg dir count) node) ≡ piece count
  heard_told count =
      ap (heard_on leg) (told_here count)
      ∙ ap (λ (t : Bool). (if t then piece count else []) ++ []) (same_itself leg)
      ∙ append-nil (piece count)

-- ---- the server

module _ {K : Type 0} (first : Shell Server) (v : World K ClientRole Server InProxy OutProxy)
    (h : History)
    (run : v.company.server ≡ after_end_events rules.server deeds.server first h.server)
    (leg : Leg) (dir : Dir) (here : at v leg (receiver dir) ≡ who.Server) (count : ℕ) where
  pub server_heard : heard_on leg (happened (noted v h (IsFed leg dir count)).server)
      ≡ heard_on leg (happened h.server) ++ piece v h leg dir who.Server here count
  server_heard =
      ap (heard_on leg) (happened_more rules.server deeds.server first v.company.server h.server
      (told_to v (IsFed leg dir count) who.Server) (IsFed leg dir count) side.Server run)
      ∙ heard_append leg (happened h.server) (told_to v (IsFed leg dir count) who.Server)
      ∙ ap (λ (bytes : List ℕ). heard_on leg (happened h.server) ++ bytes)
      (heard_told v h leg dir who.Server here count)

  pub server_behind :
      after_end_events rules.server deeds.server first (noted v h (IsFed leg dir count)).server
      ≡ (bytes rules.server v.company.server leg (piece v h leg dir who.Server here count)).0
  server_behind =
      end_events_append rules.server deeds.server first h.server _
      ∙ ap (λ (s : Shell Server). after_end_events rules.server deeds.server s
      (map Happens (told_to v (IsFed leg dir count) who.Server) ++ [])) (sym run)
      ∙ ap (λ (events : List moving.Event). after_end_events rules.server deeds.server
      v.company.server (map Happens events ++ [])) (told_here v h leg dir who.Server here count)

-- ---- a proxy

module _ {K : Type 0} (v : World K ClientRole Server InProxy OutProxy) (h : History) (n : ℕ)
    (leg : Leg) (dir : Dir) (count : ℕ) where
  pub in_events : (here : at v leg (receiver dir) ≡ who.In n) (now : Shell InProxy) (up : ℕ)
      → in_place v.company n ≡ Here now up
      → (noted v h (IsFed leg dir count)).ins n
      ≡ h.ins n ++ moving.Hears leg (piece v h leg dir (who.In n) here count) ∷ []
  in_events here now up there =
      ap (λ (p : Place InProxy). h.ins n ++ at_place p
      (told_to v (IsFed leg dir count) (who.In n)) (made_by v (IsFed leg dir count) (who.In n)))
      there
      ∙ ap (λ (es : List moving.Event). h.ins n ++ es) (told_here v h leg dir (who.In n) here count)

  pub out_events : (here : at v leg (receiver dir) ≡ who.Out n) (now : Shell OutProxy) (up : ℕ)
      → out_place v.company n ≡ Here now up
      → (noted v h (IsFed leg dir count)).outs n
      ≡ h.outs n ++ moving.Hears leg (piece v h leg dir (who.Out n) here count) ∷ []
  out_events here now up there =
      ap (λ (p : Place OutProxy). h.outs n ++ at_place p
      (told_to v (IsFed leg dir count) (who.Out n))
      (made_by v (IsFed leg dir count) (who.Out n))) there
      ∙ ap (λ (es : List moving.Event). h.outs n ++ es)
      (told_here v h leg dir (who.Out n) here count)

-- ---- any node

pub heard_behind : (leg : Leg) (es : List moving.Event) (bytes : List ℕ)
    → heard_on leg (es ++ moving.Hears leg bytes ∷ []) ≡ heard_on leg es ++ bytes
heard_behind leg es bytes =
    heard_append leg es (moving.Hears leg bytes ∷ [])
    ∙ ap (λ (t : Bool). heard_on leg es ++ ((if t then bytes else []) ++ [])) (same_itself leg)
    ∙ ap (λ (xs : List ℕ). heard_on leg es ++ xs) (append-nil bytes)
