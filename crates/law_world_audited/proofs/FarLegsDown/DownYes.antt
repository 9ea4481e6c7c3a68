-- what went down in a recording is a front of what was given
use Rattle.law_order.proofs.Vocabulary.{◌≡◌, ◌<◌, ◌+◌, ◌++◌, ◌⊎◌, ℕ, false, List, [], length, inl, inr, sym, ap, ◌∙◌, subst, cases_eq, IsPrefix, Item}
use Rattle.law_order.specs.Logs.{seen}
use Rattle.law_order.specs.Routes.{Route}
use Rattle.rh_sig.specs.declared.name.Pipe.TheVariants.{CoD, OsD}
use Rattle.rh_line.specs.declared.leg.LegKind.TheVariants.{ClientOut, OutServer}
use Rattle.rh_record.specs.declared.answer.Answer.{Answer}
use Rattle.rh_audit.specs.Audits.{AreTags, carried_by, prefixed}
use Rattle.rh_audit.specs.Chains as chains
use Rattle.rh_audit.specs.Streams.{stream}
use Rattle.rh_audit.specs.declared.prefixed.Prefixed.TheVariants.{Yes}
use Rattle.rh_capture.specs.Captured.{captured}
use Rattle.rh_world.specs.Roles as roles
use Rattle.law_moves.proofs.Vocabulary.{Passage, all_read_of, of_leg}
use Rattle.law_role_outproxy.proofs.Vocabulary.{OutProxy, from_server, server_leg, to_client}
use Rattle.law_role_server.proofs.Vocabulary.{out_items}
use Rattle.law_audit.specs.FarAndNear.Seen.{IsSeenNear}
use Rattle.law_audit.specs.Carrying.Items.{Fits}
use Rattle.law_peers_moments.specs.Moments.{AreMade, Moves, Numbers, Passages, passages}
use Rattle.law_peers_routes.proofs.Downwards.Routing.{nothing_elsewhere}
use Rattle.law_peers_routes.proofs.Downwards.Sides.{proxy_came, sent_views}
use Rattle.law_world_reports.specs.ToldHistories.{history_of}
use Rattle.law_world_order.specs.Directions.{Directions}
use Rattle.law_world_order.specs.Flows.{numbers_of}
use Rattle.law_world_order.specs.Pasts.{moves_of, numbers}
use Rattle.law_world_audited.specs.Moving.Streams.{TellsStreams}
use Rattle.law_world_audited.specs.Moving.Tagged.{legs_met}
use Rattle.law_world_audited.proofs.LegsInChains.Tagging.{sum_of}
use Rattle.law_world_audited.specs.Sides.{IsJoined, TellsSides}
use Rattle.law_world_audited.proofs.FarLegsUp.Parts.{FrontOfNear, SeenLaws, above, seen_front, seen_read, side_of, tagged, zero}
use Rattle.law_world_audited.proofs.FarLegsDown.DownRoute.{IsARoute, goes, is_route}
use Rattle.law_world_audited.proofs.FarLegsDown.DownSides.{far_is, legs_same, near_none, near_of_sent, on_legs}
use Rattle.law_world_audited.proofs.FarLegsDown.ServerSends.{Sends}
use Rattle.law_world_audited.specs.FarLegsDown.Ways.{way_down}

-- ---- the laws that this stands on

pub record YesLaws : Type 0 where
  pub route : IsARoute
  pub sends : (numbers : Numbers) (moves : Moves) → AreMade numbers moves → Sends numbers moves
  pub seen : SeenLaws
  pub os : Fits OsD out_items
  pub co : Fits CoD to_client
  pub front : FrontOfNear

module _ (law : YesLaws) (answered : List Answer) (world : roles.World)
    (tells : TellsSides answered world) (tags : List ℕ) (are : AreTags (captured answered) tags)
    (ways : Directions (numbers_of tells.chains.told.told.ours) world
    (history_of tells.chains.told.told.told.config world tells.chains.told.told.told.by)) where
  abbrev told : TellsStreams answered world
  told = tells.chains.told

  abbrev most : ℕ
  most = sum_of (legs_met answered)

  abbrev all : Passages
  all = passages (numbers told.told.ours) (moves_of told.told.flowing)

  abbrev route : Route
  route = way_down answered world told

  near : IsJoined answered world told OutServer out_items tags most
  near = side_of law.seen answered world tells tags are OutServer out_items law.os

  far : IsJoined answered world told ClientOut to_client tags most
  far = side_of law.seen answered world tells tags are ClientOut to_client law.co

  sends : Sends (numbers told.told.ours) (moves_of told.told.flowing)
  sends = law.sends (numbers told.told.ours) (moves_of told.told.flowing) told.told.made

  -- ---- near

  own_came : (n : ℕ)
      → IsPrefix (seen from_server (of_leg (server_leg n) (all.outs n).came)) (near.side.seen n)
  own_came n =
      let s = near.is_side.seen n in
      subst (IsPrefix (seen from_server (of_leg (server_leg n) (all.outs n).came)))
      (seen_read out_items from_server sent_views s.front ∙ sym s.is)
      (seen_front from_server (of_leg (server_leg n) (all.outs n).came) (all_read_of s.front)
      (tells.chains.came_back n s.front s.of_put s.read))

  near_came : (m n : ℕ) → IsPrefix (route.came m n) (near.side.seen n)
  near_came m n = by (cases_eq m n)
    where
      here : IsPrefix (route.came n n) (near.side.seen n)
      here =
          let stream = told.told.flowing.flows.outs n in
          subst (λ (items : List Item). IsPrefix items (near.side.seen n))
          (ap (λ (p : Passage OutProxy). seen from_server (of_leg (server_leg n) p.came))
          stream.leads.reached ∙ sym (proxy_came n stream.passage.came))
          (own_came n)

      by : (m ≡ n) ⊎ (m ≡ n → ⊥) → IsPrefix (route.came m n) (near.side.seen n)
      by (inl same) =
          subst (λ (k : ℕ). IsPrefix (route.came k n) (near.side.seen n)) (sym same) here
      by (inr apart) =
          let none = nothing_elsewhere (goes answered world told ways) m n apart in
          (near.side.seen n, ap (λ (items : List Item). items ++ near.side.seen n) none)

  away_none : (n : ℕ) → near.side.there n ≡ false → near.side.seen n ≡ []
  away_none =
      near_none law.seen.packet law.seen.bytes answered world tells.chains most near.side near.is_side sends

  near_is : IsSeenNear route near.side
  near_is = record {
    of_sent = near_of_sent law.seen.packet law.seen.bytes answered world tells.chains most near.side
        near.is_side sends;
    came = λ m n has. near_came m n;
    none = away_none;
    past = λ n past.
        away_none n (above answered world told OutServer out_items most near.side near.is_side tags
        (tagged law.seen answered world tells tags are OutServer) n (subst (λ (k : ℕ). k < n) near.is_side.last past));
    zero = zero answered world told OutServer out_items most near.side near.is_side
        (tells.chains.turns OutServer);
  }

  pub down_yes : prefixed (carried_by ClientOut (captured answered) tags)
      (carried_by OutServer (captured answered) tags)
      ≡ Yes (length (carried_by ClientOut (captured answered) tags))
      (length (carried_by OutServer (captured answered) tags))
  down_yes =
      let is = is_route answered world told law.route ways in
      let far_legs = chains.chain (chains.legs ClientOut (captured answered) tags) in
      law.front route near.side (on_legs far.side)
      (chains.chain (chains.legs OutServer (captured answered) tags)) far_legs is near_is
      (far_is answered world tells.chains most far.side far.is_side is) near.are_legs
      (legs_same far.side far_legs far.are_legs)
