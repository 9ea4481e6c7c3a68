-- a round that reports nothing leaves the world as it was, and at rest
use Rattle.law_order.proofs.Vocabulary.{◌≡◌, ◌<◌, ℕ, true, length, ⊎_elim, cases_lt, nat_le}
use Rattle.rh_line.specs.declared.leg.TheConstants.{LAST_NUMBER}
use Rattle.rh_wires.specs.Legs as legs
use Rattle.law_moves.proofs.Vocabulary.{Dir, U, D, Side, Client, Server, Leg, LegKind, ClientOut, OutServer, ClientIn, InServer}
use Rattle.law_node_history.proofs.Vocabulary.{Rulebook, Deeds, Makers, World, carry, carry_all, carry_both, carry_kind, end_all, end_kind, end_one, is_up, leg_at, next_number, open_all, open_client_ins, open_client_outs, open_in_servers, open_next, open_next_in, open_out_servers, round, sender, take_both, take_one}
use Rattle.law_world_ways.proofs.EndsInTime.Both.{up_for}
use Rattle.law_world_ways.specs.EndsInTime.Both.{AreUpAtBoth}
use Rattle.law_world_rest.proofs.Carrying.{carry_leaves, was_clear}
use Rattle.law_world_rest.proofs.Past.{carry_past, end_past, in_past, out_past}
use Rattle.law_world_rest.proofs.Silences.{AreSilent, Leaves, each_leaves, each_silent, first_silent, four_leave, four_silent, leaves_if, leaves_then, next_silent}
use Rattle.law_world_rest.proofs.Steps.{end_leaves, is_unfinished, open_in_leaves, open_leaves, take_leaves}
use Rattle.law_world_rest.specs.Rest.{IsAtRest, IsSilent}
use Rattle.law_world_rest.specs.Steady.{AreSteady}

module _ {K C S I O : Type 0} (r : Rulebook C S I O) (m : Makers K I O) (d : Deeds C S)
    (w : World K C S I O) (both : AreUpAtBoth w) (steady : AreSteady r d w.company) where
  -- ---- part 1

  outs_leave : Leaves w (open_client_outs r m w)
  outs_leave =
      let n = next_number (length w.legs.client_out) in
      leaves_if w (nat_le n LAST_NUMBER) (open_next r m (leg_at ClientOut n) w)
      (open_leaves r m w (leg_at ClientOut n))

  ins_leave : Leaves w (open_client_ins r m w)
  ins_leave =
      let n = next_number (length w.legs.client_in) in
      leaves_if w (nat_le n LAST_NUMBER) (open_next_in r m (leg_at ClientIn n) w)
      (open_in_leaves r m w (leg_at ClientIn n))

  out_servers_leave : Leaves w (open_out_servers r m w)
  out_servers_leave =
      each_leaves w (length w.company.outs) (λ n. open_next r m (leg_at OutServer n))
      (λ n. open_leaves r m w (leg_at OutServer n))

  in_servers_leave : Leaves w (open_in_servers r m w)
  in_servers_leave =
      each_leaves w (length w.company.ins) (λ n. open_next r m (leg_at InServer n))
      (λ n. open_leaves r m w (leg_at InServer n))

  opens_leave : Leaves w (open_all r m w)
  opens_leave =
      four_leave w (open_client_outs r m) (open_out_servers r m) (open_client_ins r m)
      (open_in_servers r m) outs_leave out_servers_leave ins_leave in_servers_leave

  -- ---- part 2

  way_leaves : (leg : Leg) (dir : Dir) → Leaves w (carry r leg dir w)
  way_leaves leg = carry_leaves r d w both leg steady

  ways_leave : (leg : Leg) → Leaves w (carry_both r leg w)
  ways_leave leg =
      leaves_then w (carry r leg U w) (carry r leg D) (way_leaves leg U) (way_leaves leg D)

  kind_leaves : (kind : LegKind) → Leaves w (carry_kind r kind w)
  kind_leaves kind =
      each_leaves w (length (legs.of kind w.legs)) (λ n. carry_both r (leg_at kind n))
      (λ n. ways_leave (leg_at kind n))

  carries_leave : Leaves w (carry_all r w)
  carries_leave =
      four_leave w (carry_kind r ClientOut) (carry_kind r OutServer) (carry_kind r ClientIn)
      (carry_kind r InServer) (kind_leaves ClientOut) (kind_leaves OutServer)
      (kind_leaves ClientIn) (kind_leaves InServer)

  -- ---- part 3

  end_takes : (end : Side) → Leaves w (take_one d end w)
  end_takes = take_leaves w r d steady

  takes_leave : Leaves w (take_both d w)
  takes_leave =
      leaves_then w (take_one d Client w) (take_one d Server) (end_takes Client)
      (end_takes Server)

  -- ---- part 4

  kind_ends : (kind : LegKind) → Leaves w (end_kind r kind w)
  kind_ends kind =
      each_leaves w (length (legs.of kind w.legs)) (λ n. end_one r (leg_at kind n))
      (λ n. end_leaves r w (leg_at kind n))

  ends_leave : Leaves w (end_all r w)
  ends_leave =
      four_leave w (end_kind r ClientOut) (end_kind r OutServer) (end_kind r ClientIn)
      (end_kind r InServer) (kind_ends ClientOut) (kind_ends OutServer) (kind_ends ClientIn)
      (kind_ends InServer)

  -- ---- a round that reports nothing

  module _ (silent : IsSilent (round r m d w)) where
    pub same : (round r m d w).0 ≡ w
    same =
        four_leave w (open_all r m) (carry_all r) (take_both d) (end_all r) opens_leave
        carries_leave takes_leave ends_leave silent

    parts : AreSilent w (open_all r m) (carry_all r) (take_both d) (end_all r)
    parts = four_silent w (open_all r m) (carry_all r) (take_both d) (end_all r) opens_leave
        carries_leave takes_leave silent

    opens : AreSilent w (open_client_outs r m) (open_out_servers r m) (open_client_ins r m)
        (open_in_servers r m)
    opens = four_silent w (open_client_outs r m) (open_out_servers r m) (open_client_ins r m)
        (open_in_servers r m) outs_leave out_servers_leave ins_leave parts.first

    carries : AreSilent w (carry_kind r ClientOut) (carry_kind r OutServer)
        (carry_kind r ClientIn) (carry_kind r InServer)
    carries = four_silent w (carry_kind r ClientOut) (carry_kind r OutServer)
        (carry_kind r ClientIn) (carry_kind r InServer) (kind_leaves ClientOut)
        (kind_leaves OutServer) (kind_leaves ClientIn) parts.second

    ends : AreSilent w (end_kind r ClientOut) (end_kind r OutServer) (end_kind r ClientIn)
        (end_kind r InServer)
    ends = four_silent w (end_kind r ClientOut) (end_kind r OutServer) (end_kind r ClientIn)
        (end_kind r InServer) (kind_ends ClientOut) (kind_ends OutServer) (kind_ends ClientIn)
        parts.fourth

    kind_carries : (kind : LegKind) → IsSilent (carry_kind r kind w)
    kind_carries ClientOut = carries.first
    kind_carries OutServer = carries.second
    kind_carries ClientIn = carries.third
    kind_carries InServer = carries.fourth

    kind_silent : (kind : LegKind) → IsSilent (end_kind r kind w)
    kind_silent ClientOut = ends.first
    kind_silent OutServer = ends.second
    kind_silent ClientIn = ends.third
    kind_silent InServer = ends.fourth

    out_server : (n : ℕ) → IsSilent (open_next r m (leg_at OutServer n) w)
    out_server n =
        ⊎_elim (each_silent w (length w.company.outs)
        (λ k. open_next r m (leg_at OutServer k)) (λ k. open_leaves r m w (leg_at OutServer k))
        opens.second n) (out_past r m w n) (cases_lt n (length w.company.outs))

    in_server : (n : ℕ) → IsSilent (open_next r m (leg_at InServer n) w)
    in_server n =
        ⊎_elim (each_silent w (length w.company.ins)
        (λ k. open_next r m (leg_at InServer k)) (λ k. open_leaves r m w (leg_at InServer k))
        opens.fourth n) (in_past r m w n) (cases_lt n (length w.company.ins))

    -- of the legs that were up at any time
    carry_here : (leg : Leg) (dir : Dir) → leg.number < length (legs.of leg.kind w.legs)
        → IsSilent (carry r leg dir w)
    carry_here leg dir below = by dir
      where
        ways : IsSilent (carry_both r leg w)
        ways =
            each_silent w (length (legs.of leg.kind w.legs))
            (λ n. carry_both r (leg_at leg.kind n)) (λ n. ways_leave (leg_at leg.kind n))
            (kind_carries leg.kind) leg.number below

        by : (way : Dir) → IsSilent (carry r leg way w)
        by U = first_silent w (carry r leg U w) (carry r leg D) ways
        by D = next_silent w (carry r leg U w) (carry r leg D) (way_leaves leg U) ways

    carry_silent : (leg : Leg) (dir : Dir) → IsSilent (carry r leg dir w)
    carry_silent leg dir =
        ⊎_elim (carry_here leg dir) (λ past. carry_past r w leg past d both dir)
        (cases_lt leg.number (length (legs.of leg.kind w.legs)))

    take_silent : (end : Side) → IsSilent (take_one d end w)
    take_silent Client = first_silent w (take_one d Client w) (take_one d Server) parts.third
    take_silent Server =
        next_silent w (take_one d Client w) (take_one d Server) (end_takes Client) parts.third

    end_silent : (leg : Leg) → IsSilent (end_one r leg w)
    end_silent leg =
        ⊎_elim (each_silent w (length (legs.of leg.kind w.legs))
        (λ n. end_one r (leg_at leg.kind n)) (λ n. end_leaves r w (leg_at leg.kind n))
        (kind_silent leg.kind) leg.number) (end_past r w leg)
        (cases_lt leg.number (length (legs.of leg.kind w.legs)))

    leg_clear : (leg : Leg) (dir : Dir) → is_up w leg ≡ true
        → legs.is_clear leg dir w.legs ≡ true
    leg_clear leg dir up =
        was_clear r d w both leg dir (up_for w leg (sender dir) both up) (carry_silent leg dir)

    pub rests : IsAtRest r m d w
    rests = record {
      client_outs = opens.first;
      out_servers = out_server;
      client_ins = opens.third;
      in_servers = in_server;
      carries = carry_silent;
      takes = take_silent;
      ends = end_silent;
      clear = leg_clear;
      unfinished = λ leg end up.
          is_unfinished r w leg (end_silent leg) up (λ dir. leg_clear leg dir up) end;
    }
