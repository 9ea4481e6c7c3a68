-- what is seen on the legs by which a recording's RPC PDUs go up
use Rattle.law_order.proofs.Vocabulary.{◌≡◌, ◌≤◌, ◌&&◌, nat_tests, ◌==◌, ◌||◌, ◌++◌, ℕ, zero, suc, Bool, Some, true, false, List, [], map, refl, sym, ap, ◌∙◌, subst, arith, nat_lt, true≢false, AllByRecursion, IsPrefix, Item}
use Rattle.law_order.specs.Logs.{seen}
use Rattle.std.specs.Prelude.{is_some}
use Rattle.rh_text.specs.declared.ends.Dir.TheVariants.{U}
use Rattle.rh_sig.specs.declared.name.Pipe.TheVariants.{CiU, IsU}
use Rattle.rh_line.specs.declared.leg.LegKind.TheVariants.{ClientIn, InServer}
use Rattle.rh_record.specs.declared.answer.Answer.{Answer}
use Rattle.rh_nodes.specs.Settling.{leg_at}
use Rattle.rh_shell.specs.Rules.{spell}
use Rattle.rh_audit.specs.declared.packet.Met.{Met}
use Rattle.rh_audit.specs.Packets.{met}
use Rattle.rh_audit.specs.Streams.{Stream, first_among, mets, stream}
use Rattle.rh_capture.specs.Captured.{captured}
use Rattle.rh_wires.specs.Readers.{reader_of}
use Rattle.rh_world.specs.Roles as roles
use Rattle.law_moves.specs.Legible.Legible.{MayGoOn}
use Rattle.law_role_inproxy.specs.Order.{item_put}
use Rattle.law_role_client.specs.Order.{up_items}
use Rattle.law_audit.specs.FarAndNear.Seen.{Side}
use Rattle.law_audit.specs.Chains.Successors.{mets_of_leg}
use Rattle.law_peers_routes.specs.Upwards.{has_leg}
use Rattle.law_world_audited.proofs.Moving.Streamed.{all_behind}
use Rattle.law_world_audited.specs.Moving.Streams.{TellsStreams}
use Rattle.law_world_audited.specs.LegsInChains.Chained.{tag_at}
use Rattle.law_world_audited.proofs.LegsJoined.{front_all}
use Rattle.law_world_audited.specs.Sides.{IsSideOf, put_on}
use Rattle.law_world_audited.proofs.FarLegsUp.Parts.{BytesOf, PacketMet, nothing, of_put}
use Rattle.law_world_audited.proofs.FarLegsUp.UpRoute.{UpLaws, put_is, sent_is}
use Rattle.law_world_audited.specs.FarLegsUp.Ways.{way_up}

own_test : (n k : ℕ) → 1 ≤ n → k ≡ n → (nat_lt 0 n && (k == n || k == 0)) ≡ true
own_test n k some own = grind (arith, nat_tests, some, own)

module _ (packet : PacketMet) (bytes : BytesOf) (answered : List Answer) (world : roles.World)
    (told : TellsStreams answered world) (most : ℕ) (side : Side) where
  -- on a leg towards an in proxy
  module _ (is : IsSideOf answered world told ClientIn up_items most side) where
    pub near_none : (n : ℕ) → side.there n ≡ false → side.seen n ≡ []
    near_none n away =
        let s = is.seen n in
        let leg = leg_at ClientIn n in
        let put = put_on answered world told ClientIn n in
        let met_there : mets_of_leg ClientIn (captured answered) (tag_at answered ClientIn n)
        ≡ map (met CiU) (map spell s.front) =
        ap (λ (b : List ℕ). mets CiU (stream CiU b)) (bytes answered leg U CiU refl)
        ∙ ap (λ (x : Stream). mets CiU x) s.read in
        let may = front_all (MayGoOn (Some CiU)) s.front s.of_put.0
        (subst (AllByRecursion (MayGoOn (Some CiU))) (sym s.of_put.1)
        (all_behind (MayGoOn (Some CiU)) put (told.told.sent leg U CiU refl).may_go)) in
        s.is ∙ ap (seen up_items)
        (nothing packet CiU put s.front s.of_put.0 refl (told.begins leg U CiU refl) s.of_put.1 may
        (sym (ap (λ (ms : List Met). is_some (first_among ms)) met_there) ∙ sym (is.there n)
        ∙ away))

    pub near_of_sent : (law : UpLaws) (n : ℕ)
        → IsPrefix (side.seen n) ((way_up answered world told).sent n)
    near_of_sent law n =
        subst (IsPrefix (side.seen n)) (sym (sent_is law answered world told n))
        (of_put answered world told ClientIn up_items most side is (λ text. refl) n)

  -- and from one
  module _ (is : IsSideOf answered world told InServer item_put most side) where
    pub far_none : (n : ℕ) → side.there n ≡ false → side.seen n ≡ []
    far_none n away =
        let s = is.seen n in
        let leg = leg_at InServer n in
        let put = put_on answered world told InServer n in
        let met_there : mets_of_leg InServer (captured answered) (tag_at answered InServer n)
        ≡ map (met IsU) (map spell s.front) =
        ap (λ (b : List ℕ). mets IsU (stream IsU b)) (bytes answered leg U IsU refl)
        ∙ ap (λ (x : Stream). mets IsU x) s.read in
        let may = front_all (MayGoOn (Some IsU)) s.front s.of_put.0
        (subst (AllByRecursion (MayGoOn (Some IsU))) (sym s.of_put.1)
        (all_behind (MayGoOn (Some IsU)) put (told.told.sent leg U IsU refl).may_go)) in
        s.is ∙ ap (seen item_put)
        (nothing packet IsU put s.front s.of_put.0 refl (told.begins leg U IsU refl) s.of_put.1 may
        (sym (ap (λ (ms : List Met). is_some (first_among ms)) met_there) ∙ sym (is.there n)
        ∙ away))

    pub far_of_put : (law : UpLaws) → side.there 0 ≡ false
        → ((n : ℕ) → side.there n ≡ true → reader_of world.readers n ≡ n) → (n : ℕ)
        → IsPrefix (side.seen n) ((way_up answered world told).put n)
    far_of_put law first own n = by (side.there n) refl
      where
        there : (k : ℕ) → side.there k ≡ true → has_leg (reader_of world.readers) k ≡ true
        there zero e = absurd (true≢false (sym e ∙ first))
        there (suc k) e = own_test (suc k) (reader_of world.readers (suc k)) (omega arith) (own (suc k) e)

        by : (t : Bool) → side.there n ≡ t
            → IsPrefix (side.seen n) ((way_up answered world told).put n)
        by false e =
            let none = far_none n e in (
              (way_up answered world told).put n,
              ap (λ (x : List Item). x ++ (way_up answered world told).put n) none,
            )
        by true e =
            subst (IsPrefix (side.seen n)) (sym (put_is law answered world told n (there n e)))
            (of_put answered world told InServer item_put most side is (λ text. refl) n)
