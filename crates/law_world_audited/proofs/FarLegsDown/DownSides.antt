-- what is seen on the legs by which a recording's RPC PDUs go down
use Rattle.law_order.proofs.Vocabulary.{◌≡◌, ◌<◌, ◌≤◌, ◌++◌, ◌⊎◌, ℕ, zero, suc, nat_lt, Bool, Some, Option, true, false, if◌then◌else◌, List, [], map, inl, inr, refl, sym, ap, ◌∙◌, subst, arith, nat_tests, true≢false, AllByRecursion, IsPrefix, Item}
use Rattle.law_order.specs.Items.{has_handover, pdus}
use Rattle.law_order.specs.Logs.{seen}
use Rattle.law_order.specs.Routes.{IsRoute, Route}
use Rattle.std.specs.Prelude.{is_some}
use Rattle.rh_text.specs.declared.ends.Dir.TheVariants.{U}
use Rattle.rh_sig.specs.declared.name.Pipe.TheVariants.{OsU}
use Rattle.rh_line.specs.declared.leg.LegKind.TheVariants.{ClientOut, OutServer}
use Rattle.rh_record.specs.declared.answer.Answer.{Answer}
use Rattle.rh_nodes.specs.Settling.{leg_at}
use Rattle.rh_shell.specs.Rules.{Message, spell}
use Rattle.rh_audit.specs.Chains as chains
use Rattle.rh_audit.specs.declared.packet.First.{First}
use Rattle.rh_audit.specs.declared.packet.Met.{Met}
use Rattle.rh_audit.specs.Packets.{met}
use Rattle.rh_audit.specs.Streams.{Stream, first_among, mets, stream}
use Rattle.rh_capture.specs.Captured.{captured}
use Rattle.rh_wires.specs.Readers.{reader_of}
use Rattle.rh_world.specs.Roles as roles
use Rattle.law_moves.proofs.Vocabulary.{all_read_of, nil_front, of_leg}
use Rattle.law_moves.specs.Legible.Legible.{MayGoOn}
use Rattle.law_role_client.specs.Order.{has_leg}
use Rattle.law_role_outproxy.proofs.Vocabulary.{os_leg, to_client}
use Rattle.law_role_server.proofs.Vocabulary.{out_items}
use Rattle.law_audit.specs.FarAndNear.Seen.{IsSeenFar, Side}
use Rattle.law_audit.specs.Carrying.Fronts.{AreInOrder, AreLegsOf, IsNumber}
use Rattle.law_audit.specs.Chains.Successors.{mets_of_leg}
use Rattle.law_peers_chains.specs.Turns.{HasBefore}
use Rattle.law_peers_moments.specs.Moments.{passages}
use Rattle.law_peers_routes.proofs.Downwards.Routing.{has_above}
use Rattle.law_world_order.specs.Pasts.{moves_of, numbers}
use Rattle.law_world_audited.proofs.Moving.Streamed.{all_behind}
use Rattle.law_world_audited.specs.Moving.Sent.{sent_on}
use Rattle.law_world_audited.specs.Moving.Streams.{TellsStreams}
use Rattle.law_world_audited.specs.LegsInChains.Chained.{TellsChains, tag_at}
use Rattle.law_world_audited.proofs.LegsJoined.{front_all}
use Rattle.law_world_audited.specs.Sides.{IsSideOf, put_on}
use Rattle.law_world_audited.proofs.FarLegsUp.Parts.{BytesOf, PacketMet, has_some, nothing, of_put, zero as none_first}
use Rattle.law_world_audited.proofs.FarLegsDown.DownRoute.{put_is, sent_is}
use Rattle.law_world_audited.proofs.FarLegsDown.ServerSends.{Sends, none_sent}
use Rattle.law_world_audited.specs.FarLegsDown.Ways.{way_down}

front_of_none : {X : Type 0} (a b : List X) → IsPrefix a b → b ≡ [] → a ≡ []
front_of_none a b p e = nil_front a p.0 (p.1 ∙ e)

-- ---- legs from the server

module _ (packet : PacketMet) (bytes : BytesOf) (answered : List Answer) (world : roles.World)
    (chained : TellsChains answered world) (most : ℕ) (side : Side)
    (is : IsSideOf answered world chained.told OutServer out_items most side)
    (sends : Sends (numbers chained.told.told.ours) (moves_of chained.told.told.flowing)) where
  abbrev told : TellsStreams answered world
  told = chained.told

  pub near_of_sent : (n : ℕ) → IsPrefix (side.seen n) ((way_down answered world told).sent n)
  near_of_sent n =
      subst (IsPrefix (side.seen n)) (sym (sent_is answered world told n))
      (of_put answered world told OutServer out_items most side is (λ text. refl) n)

  -- where the first packet was not seen, nothing came at the server
  pub none_came : (n : ℕ) → side.there n ≡ false
      → of_leg (os_leg n) (passages (numbers told.told.ours) (moves_of told.told.flowing)).server.came
      ≡ []
  none_came n away =
      let leg = leg_at OutServer n in
      let s = told.streams leg U OsU refl in
      let put = sent_up n in
      let met_there : mets_of_leg OutServer (captured answered) (tag_at answered OutServer n)
      ≡ map (met OsU) (map spell s.front) =
      ap (λ (b : List ℕ). mets OsU (stream OsU b)) (bytes answered leg U OsU refl)
      ∙ ap (λ (x : Stream). mets OsU x) s.is in
      let may = front_all (MayGoOn (Some OsU)) s.front s.of_messages.0
      (subst (AllByRecursion (MayGoOn (Some OsU))) (sym s.of_messages.1)
      (all_behind (MayGoOn (Some OsU)) put (told.told.sent leg U OsU refl).may_go)) in
      let none = nothing packet OsU put s.front s.of_messages.0 refl (told.begins leg U OsU refl)
      s.of_messages.1 may
      (sym (ap (λ (ms : List Met). is_some (first_among ms)) met_there) ∙ sym (is.there n)
      ∙ away) in
      front_of_none _ (all_read_of s.front) (chained.came OutServer n s.front s.of_messages s.is)
      (ap all_read_of none)
    where
      sent_up : ℕ → List Message
      sent_up k =
          sent_on (passages (numbers told.told.ours) (moves_of told.told.flowing)) world.readers
          (leg_at OutServer k) U

  pub near_none : (n : ℕ) → side.there n ≡ false → side.seen n ≡ []
  near_none n away =
      front_of_none (side.seen n) (seen out_items (put_on answered world told OutServer n))
      (of_put answered world told OutServer out_items most side is (λ text. refl) n)
      (none_sent (numbers told.told.ours) (reader_of world.readers) (moves_of told.told.flowing)
      chained.moment sends n (none_came n away))

-- ---- legs to the client

-- of a side what is seen on the legs that are there
abbrev pub on_legs : Side → Side
on_legs side = record {
  there = side.there;
  seen = λ n. if side.there n then side.seen n else [];
  most = side.most;
}

there_seen : (side : Side) (n : ℕ) → side.there n ≡ true → (on_legs side).seen n ≡ side.seen n
there_seen side n e = ap (λ (t : Bool). if t then side.seen n else []) e

number_same : (side : Side) (n : ℕ) (legs : List chains.Leg) → IsNumber side n legs
    → IsNumber (on_legs side) n legs
number_same side n legs (inl away) = inl away
number_same side n legs (inr leg) = inr (record {
  there = leg.there;
  leg = leg.leg;
  is = leg.is;
  pdus_are = leg.pdus_are ∙ ap pdus (sym (there_seen side n leg.there));
  marked = leg.marked ∙ ap has_handover (sym (there_seen side n leg.there));
})

order_same : (side : Side) (n more : ℕ) (legs : List chains.Leg) → AreInOrder side n more legs
    → AreInOrder (on_legs side) n more legs
order_same side n zero legs h = h
order_same side n (suc more) legs (here, rest, is, number, behind) =
    (here, rest, is, number_same side n here number, order_same side (suc n) more rest behind)

pub legs_same : (side : Side) (legs : List chains.Leg) → AreLegsOf side legs
    → AreLegsOf (on_legs side) legs
legs_same side legs h = order_same side 0 (suc side.most) legs h

below_one : (m n : ℕ) → m < n → n ≡ 1 → m ≡ 0
below_one m n less one = omega (arith, less, one)

is_below : (k l : ℕ) → nat_lt k l ≡ true → k < l
is_below k l e = grind (arith, nat_tests, e)

not_below : (k l : ℕ) → nat_lt k l ≡ false → l ≤ k
not_below k l e = grind (arith, nat_tests, e)

are_same : (k m : ℕ) → m ≤ k → k ≤ m → k ≡ m
are_same k m least most = omega (arith, least, most)

is_next : (m n below : ℕ) → n ≡ suc (suc below) → m < n → suc below ≤ m → n ≡ suc m
is_next m n below number less least = omega (arith, number, less, least)

module _ (answered : List Answer) (world : roles.World) (chained : TellsChains answered world)
    (most : ℕ) (side : Side)
    (is : IsSideOf answered world chained.told ClientOut to_client most side)
    (route : IsRoute (way_down answered world chained.told)) where
  abbrev way : Route
  way = way_down answered world chained.told

  far_zero : side.there 0 ≡ false
  far_zero =
      none_first answered world chained.told ClientOut to_client most side is
      (chained.turns ClientOut)

  positive : (n : ℕ) → side.there n ≡ true → has_leg n ≡ true
  positive zero there = absurd (true≢false (sym there ∙ far_zero))
  positive (suc n) there = has_above (suc n) (omega arith)

  far_of_put : (n : ℕ) → IsPrefix ((on_legs side).seen n) (way.put n)
  far_of_put n = by (side.there n) refl
    where
      by : (t : Bool) → side.there n ≡ t → IsPrefix ((on_legs side).seen n) (way.put n)
      by false e =
          let none = ap (λ (t : Bool). if t then side.seen n else []) e in
          (way.put n, ap (λ (x : List Item). x ++ way.put n) none)
      by true e =
          subst (λ (x : List Item). IsPrefix x (way.put n)) (sym (there_seen side n e))
          (subst (IsPrefix (side.seen n))
          (sym (put_is answered world chained.told n (positive n e)))
          (of_put answered world chained.told ClientOut to_client most side is (λ text. refl) n))

  -- a leg that is there is the first, or the one below it is there
  turns : (n : ℕ) → side.there n ≡ true
      → (n ≡ 1) ⊎ ((below : ℕ) × (n ≡ suc (suc below)) × (side.there (suc below) ≡ true))
  turns n there =
      let begun = has_some _ (sym (is.there n) ∙ there) in
      by (chained.turns ClientOut n begun.0 begun.1)
    where
      by : (n ≡ 1) ⊎ HasBefore ClientOut (reader_of world.readers)
          (λ k. mets_of_leg ClientOut (captured answered) (tag_at answered ClientOut k)) n
          → (n ≡ 1) ⊎ ((below : ℕ) × (n ≡ suc (suc below)) × (side.there (suc below) ≡ true))
      by (inl e) = inl e
      by (inr has) = inr (
        has.below,
        has.number,
        is.there (suc has.below) ∙ ap (λ (o : Option First). is_some o) has.met,
      )

  first_there : (n : ℕ) → side.there n ≡ true
      → ((k : ℕ) → k < n → side.there k ≡ false) → n ≡ 1
  first_there n there none = by (turns n there)
    where
      by : (n ≡ 1) ⊎ ((below : ℕ) × (n ≡ suc (suc below)) × (side.there (suc below) ≡ true))
          → n ≡ 1
      by (inl e) = e
      by (inr (below, number, lower)) =
          absurd (true≢false (sym lower ∙ none (suc below) (omega (arith, number))))

  -- an out proxy reads the channel of its number alone
  current_is : (m : ℕ) → has_leg m ≡ true → (way.proxies m).shelves.current ≡ m
  current_is m has =
      let from = (route.passers m has).from in
      by from (nat_lt m (way.proxies m).shelves.current) refl
    where
      by : m ≤ (way.proxies m).shelves.current → (b : Bool)
          → nat_lt m (way.proxies m).shelves.current ≡ b → (way.proxies m).shelves.current ≡ m
      by from true e =
          absurd (true≢false (sym (has_above (suc m) (omega arith))
          ∙ route.numbered.reads m (suc m) has (omega arith)
          (is_below m (way.proxies m).shelves.current e)))
      by from false e =
          are_same (way.proxies m).shelves.current m from
          (not_below m (way.proxies m).shelves.current e)

  next_there : (m n : ℕ) → side.there m ≡ true → side.there n ≡ true → m < n
      → ((k : ℕ) → m < k → k < n → side.there k ≡ false) → n ≡ suc m
  next_there m n there_m there_n less none = by (turns n there_n)
    where
      at : (below : ℕ) → n ≡ suc (suc below) → side.there (suc below) ≡ true → (b : Bool)
          → nat_lt m (suc below) ≡ b → n ≡ suc m
      at below number there true e =
          absurd (true≢false (sym there
          ∙ none (suc below) (is_below m (suc below) e) (omega (arith, number))))
      at below number there false e =
          is_next m n below number less (not_below m (suc below) e)

      by : (n ≡ 1) ⊎ ((below : ℕ) × (n ≡ suc (suc below)) × (side.there (suc below) ≡ true))
          → n ≡ suc m
      by (inl e) =
          absurd (true≢false (sym there_m
          ∙ subst (λ (k : ℕ). side.there k ≡ false) (sym (below_one m n less e)) far_zero))
      by (inr (below, number, there)) = at below number there (nat_lt m (suc below)) refl

  pub far_is : IsSeenFar way (on_legs side)
  far_is = record {
    of_put = far_of_put;
    first = first_there;
    next = λ m n there_m there_n less none marked.
        next_there m n there_m there_n less none
        ∙ ap suc (sym (current_is m (positive m there_m)));
  }
