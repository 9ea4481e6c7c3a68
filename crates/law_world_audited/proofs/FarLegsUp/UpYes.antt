-- what went up in a recording is a front of what was given
use Rattle.law_order.proofs.Vocabulary.{◌≡◌, ◌<◌, ◌+◌, ◌++◌, ◌⊎◌, ℕ, suc, true, false, List, length, refl, sym, ap, ◌∙◌, subst, inl, inr, cases_eq, Some, Option, IsPrefix, Item}
use Rattle.law_order.specs.Logs.{seen}
use Rattle.law_order.specs.Routes.{Route}
use Rattle.std.specs.Prelude.{is_some}
use Rattle.rh_text.specs.declared.ends.Side.{Side}
use Rattle.rh_text.specs.declared.ends.Side.TheVariants as ends
use Rattle.rh_sig.specs.declared.name.Pipe.TheVariants.{CiU, IsU}
use Rattle.rh_line.specs.declared.leg.LegKind.TheVariants.{ClientIn, InServer}
use Rattle.rh_record.specs.declared.answer.Answer.{Answer}
use Rattle.rh_record.specs.declared.answer.Who.TheVariants as who
use Rattle.rh_nodes.specs.Settling.{leg_at}
use Rattle.rh_shell.specs.Rules.{Message}
use Rattle.rh_audit.specs.declared.packet.First.{First}
use Rattle.rh_audit.specs.Audits.{AreTags, carried_by, prefixed}
use Rattle.rh_audit.specs.Chains as chains
use Rattle.rh_audit.specs.Streams.{first_among, stream}
use Rattle.rh_audit.specs.declared.prefixed.Prefixed.TheVariants.{Yes}
use Rattle.rh_capture.specs.Captured.{captured}
use Rattle.rh_wires.specs.Readers.{reader_of}
use Rattle.rh_world.specs.Roles as roles
use Rattle.law_moves.proofs.Vocabulary.{Passage, all_read_of, of_leg}
use Rattle.law_role_inproxy.proofs.Vocabulary.{InProxy, item_came, item_put}
use Rattle.law_role_client.proofs.Vocabulary.{up_items}
use Rattle.law_audit.specs.FarAndNear.Seen.{IsSeenFar, IsSeenNear}
use Rattle.law_audit.specs.Carrying.Items.{Fits}
use Rattle.law_audit.specs.Chains.Successors.{mets_of_leg}
use Rattle.law_node_begins.specs.ProxiesBegin.Pipes.{ci as client_leg}
use Rattle.law_peers_chains.specs.Turns.{HasBefore}
use Rattle.law_peers_moments.specs.Moments.{Passages, end_of, passages}
use Rattle.law_peers_routes.proofs.Upwards.JoinedLegs.{proxy_came, up_views}
use Rattle.law_world_reports.specs.ToldHistories.{history_of}
use Rattle.law_world_order.specs.Directions.{Directions}
use Rattle.law_world_order.specs.Flows.{numbers_of}
use Rattle.law_world_order.specs.Pasts.{moves_of, numbers}
use Rattle.law_world_audited.specs.Moving.Streams.{TellsStreams}
use Rattle.law_world_audited.specs.Moving.Tagged.{legs_met}
use Rattle.law_world_audited.proofs.LegsInChains.FarUp.{far_up}
use Rattle.law_world_audited.proofs.LegsInChains.Tagging.{sum_of}
use Rattle.law_world_audited.specs.LegsInChains.Chained.{tag_at}
use Rattle.law_world_audited.specs.Sides.{IsJoined, TellsSides}
use Rattle.law_world_audited.proofs.FarLegsUp.Parts.{FrontOfNear, SeenLaws, above, has_some, seen_front, seen_read, side_of, tagged, zero}
use Rattle.law_world_audited.proofs.FarLegsUp.UpRoute.{UpLaws, is_route}
use Rattle.law_world_audited.proofs.FarLegsUp.UpSides.{far_of_put, near_none, near_of_sent}
use Rattle.law_world_audited.specs.FarLegsUp.Ways.{way_up}

-- ---- the laws that this stands on

pub record YesLaws : Type 0 where
  pub up : UpLaws
  pub seen : SeenLaws
  pub ci : Fits CiU up_items
  pub is : Fits IsU item_put
  pub front : FrontOfNear

module _ (law : YesLaws) (answered : List Answer) (world : roles.World)
    (tells : TellsSides answered world) (tags : List ℕ) (are : AreTags (captured answered) tags)
    (ways : Directions (numbers_of tells.chains.told.told.ours) world
    (history_of tells.chains.told.told.told.config world tells.chains.told.told.told.by)) where
  abbrev told : TellsStreams answered world
  told = tells.chains.told

  abbrev most : ℕ
  most = sum_of (legs_met answered)

  abbrev reader : ℕ → ℕ
  reader = reader_of world.readers

  abbrev all : Passages
  all = passages (numbers told.told.ours) (moves_of told.told.flowing)

  abbrev route : Route
  route = way_up answered world told

  near : IsJoined answered world told ClientIn up_items tags most
  near = side_of law.seen answered world tells tags are ClientIn up_items law.ci

  far : IsJoined answered world told InServer item_put tags most
  far = side_of law.seen answered world tells tags are InServer item_put law.is

  -- ---- near

  away : (m n : ℕ) → (reader n ≡ m → ⊥) → (end : Side)
      → end_of reader (leg_at ClientIn n) end ≡ who.In m → ⊥
  away m n apart ends.Client e = absurd (cc)
  away m n apart ends.Server e = apart (let same = e in cc)

  came_there : (m n : ℕ)
      → IsPrefix (seen item_came (of_leg (client_leg n) (all.ins m).came)) (near.side.seen n)
  came_there m n = by (cases_eq (reader n) m)
    where
      by : (reader n ≡ m) ⊎ (reader n ≡ m → ⊥)
          → IsPrefix (seen item_came (of_leg (client_leg n) (all.ins m).came)) (near.side.seen n)
      by (inl e) =
          let s = near.is_side.seen n in
          let here = tells.chains.came ClientIn n s.front s.of_put s.read in
          subst (λ (i : ℕ). IsPrefix (seen item_came (of_leg (client_leg n) (all.ins i).came))
          (near.side.seen n)) e
          (subst (IsPrefix (seen item_came (of_leg (client_leg n) (all.ins (reader n)).came)))
          (seen_read up_items item_came up_views s.front ∙ sym s.is)
          (seen_front item_came (of_leg (client_leg n) (all.ins (reader n)).came)
          (all_read_of s.front) here))
      by (inr apart) =
          let none = told.told.joined.elsewhere (who.In m) (leg_at ClientIn n) (away m n apart) in (
            near.side.seen n,
            ap (λ (ms : List Message). seen item_came ms ++ near.side.seen n) none,
          )

  near_came : (m n : ℕ) → IsPrefix (route.came m n) (near.side.seen n)
  near_came m n =
      let stream = told.told.flowing.flows.ins m in
      subst (λ (items : List Item). IsPrefix items (near.side.seen n))
      (ap (λ (p : Passage InProxy). seen item_came (of_leg (client_leg n) p.came))
      stream.leads.reached ∙ sym (proxy_came stream.passage.came n))
      (came_there m n)

  near_is : IsSeenNear route near.side
  near_is = record {
    of_sent = near_of_sent law.seen.packet law.seen.bytes answered world told most near.side near.is_side
        law.up;
    came = λ m n has. near_came m n;
    none = near_none law.seen.packet law.seen.bytes answered world told most near.side near.is_side;
    past = λ n past.
        near_none law.seen.packet law.seen.bytes answered world told most near.side near.is_side n
        (above answered world told ClientIn up_items most near.side near.is_side tags
        (tagged law.seen answered world tells tags are ClientIn) n (subst (λ (k : ℕ). k < n) near.is_side.last past));
    zero = zero answered world told ClientIn up_items most near.side near.is_side
        (tells.chains.turns ClientIn);
  }

  -- ---- far

  far_zero : far.side.there 0 ≡ false
  far_zero =
      zero answered world told InServer item_put most far.side far.is_side
      (tells.chains.turns InServer)

  begun_there : (n : ℕ) → far.side.there n ≡ true → (begun : First)
      × (first_among (mets_of_leg InServer (captured answered) (tag_at answered InServer n))
      ≡ Some begun)
  begun_there n there = has_some _ (sym (far.is_side.there n) ∙ there)

  far_own : (n : ℕ) → far.side.there n ≡ true → reader n ≡ n
  far_own n there =
      let begun = begun_there n there in tells.chains.own InServer n begun.0 begun.1

  far_turns : (n : ℕ) → far.side.there n ≡ true → (n ≡ 1)
      ⊎ ((below : ℕ) × (n ≡ suc (suc below)) × (far.side.there (reader (suc below)) ≡ true))
  far_turns n there =
      let begun = begun_there n there in by (tells.chains.turns InServer n begun.0 begun.1)
    where
      by : (n ≡ 1) ⊎ HasBefore InServer reader
          (λ k. mets_of_leg InServer (captured answered) (tag_at answered InServer k)) n
          → (n ≡ 1)
          ⊎ ((below : ℕ) × (n ≡ suc (suc below)) × (far.side.there (reader (suc below)) ≡ true))
      by (inl e) = inl e
      by (inr has) = inr (
        has.below,
        has.number,
        far.is_side.there (reader (suc has.below)) ∙ ap (λ (o : Option First). is_some o) has.met,
      )

  far_is : IsSeenFar route far.side
  far_is =
      far_up reader tells.chains.moment.now.read route
      (is_route law.up answered world told ways) (λ n. refl) far.side
      (far_of_put law.seen.packet law.seen.bytes answered world told most far.side far.is_side law.up far_zero
      far_own) far_own far_turns

  pub up_yes : prefixed (carried_by InServer (captured answered) tags)
      (carried_by ClientIn (captured answered) tags)
      ≡ Yes (length (carried_by InServer (captured answered) tags))
      (length (carried_by ClientIn (captured answered) tags))
  up_yes =
      law.front route near.side far.side
      (chains.chain (chains.legs ClientIn (captured answered) tags))
      (chains.chain (chains.legs InServer (captured answered) tags))
      (is_route law.up answered world told ways) near_is far_is near.are_legs far.are_legs
