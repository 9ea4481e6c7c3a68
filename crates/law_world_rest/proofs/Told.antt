-- what a round does goes by none of the nodes that closed since the last line: where they are told,
-- a world at rest stays so
use Rattle.law_order.proofs.Vocabulary.{◌≡◌, ℕ, List, [], ◌∷◌, Bool, true, false, ◌&&◌, if◌then◌else◌, length, nat_le, nat_lt, Some, None, Option, refl, sym, ap, ◌∙◌}
use Rattle.rh_line.specs.declared.leg.TheConstants.{LAST_NUMBER}
use Rattle.rh_record.specs.declared.answer.TakeAnswer.TheVariants as takes
use Rattle.rh_record.specs.declared.answer.Who.TheVariants as who
use Rattle.rh_shell.specs.Shells as shell
use Rattle.rh_wires.specs.Legs as legs
use Rattle.rh_company.specs.Company as company
use Rattle.rh_nodes.specs.Opening as opening
use Rattle.law_moves.proofs.Vocabulary.{Dir, Side, Client, Server, Leg, LegKind, ClientOut, OutServer, ClientIn, InServer, NO_COOKIE}
use Rattle.law_node_history.proofs.Vocabulary.{TakeAnswer, Legs, Rulebook, Deeds, Makers, World, at, carried, carry, carry_bytes, connect, connect_client, draw_into, end_one, end_where, ends_now, fed, feed, is_wanted, leg_at, may_make, may_open_same, most_bytes, next_number, open_by, open_in_to, open_leg, open_next, open_next_in, open_out_to, open_same, opened, opened_same, read_on, receiver, send, sender, sent, take, take_from, take_one, took, with_in, with_out}
use Rattle.law_world_rest.specs.Rest.{IsAtRest, IsSilent}

module _ {W : Type 0} (v u : W) where
  -- ---- what is reported goes by what was done, in whatever world

  opened_alike : (leg : Leg) (done : Bool) → (opened leg (v, done)).1 ≡ (opened leg (u, done)).1
  opened_alike leg true = refl
  opened_alike leg false = refl

  same_alike : (leg : Leg) (done : Bool)
      → (opened_same leg (v, done)).1 ≡ (opened_same leg (u, done)).1
  same_alike leg true = refl
  same_alike leg false = refl

  carried_alike : (leg : Leg) (dir : Dir) (o : Option (List ℕ))
      → (carried leg dir (v, o)).1 ≡ (carried leg dir (u, o)).1
  carried_alike leg dir None = refl
  carried_alike leg dir (Some []) = refl
  carried_alike leg dir (Some (b ∷ bytes)) = refl

  took_alike : (end : Side) (over : Bool) (one : TakeAnswer)
      → (took end over (v, one)).1 ≡ (took end over (u, one)).1
  took_alike end over (takes.Pdu pdu) = refl
  took_alike end over takes.Empty = refl
  took_alike end true takes.Ended = refl
  took_alike end false takes.Ended = refl
  took_alike end over (takes.Closed why) = refl

  -- the answer of either of two
  alike_if : {A : Type 0} (test : Bool) (did other : W × A) (none : A) → did.1 ≡ other.1
      → (if test then did else (v, none)).1 ≡ (if test then other else (u, none)).1
  alike_if true did other none same = same
  alike_if false did other none same = refl

module _ {K C S I O : Type 0} (r : Rulebook C S I O) (w : World K C S I O) where
  abbrev pub cleared : World K C S I O
  cleared = record w { closed = [] }

  module _ (leg : Leg) where
    -- ---- a leg is opened

    module _ (m : Makers K I O) where
      server_alike : (opening.open_server r cleared leg).1 ≡ (opening.open_server r w leg).1
      server_alike =
          alike_if cleared w (nat_lt 0 leg.number && is_wanted r w leg)
          (connect r cleared leg NO_COOKIE, true) (connect r w leg NO_COOKIE, true) false refl

      out_alike : (opening.open_client_out r m.out_proxy cleared leg).1
          ≡ (opening.open_client_out r m.out_proxy w leg).1
      out_alike =
          let node = opening.at_moment r.out_proxy (m.out_proxy w.cast leg.number) w.now in
          alike_if cleared w (may_make r w w.company.outs leg) (open_out_to r cleared leg node)
          (open_out_to r w leg node) false
          (alike_if cleared w (shell.may_up r.out_proxy node leg)
          (connect_client r (with_out cleared leg.number node) leg, true)
          (connect_client r (with_out w leg.number node) leg, true) false refl)

      in_alike : (opening.open_client_in r m.in_proxy cleared leg).1
          ≡ (opening.open_client_in r m.in_proxy w leg).1
      in_alike =
          let node = opening.at_moment r.in_proxy (m.in_proxy w.cast leg.number) w.now in
          alike_if cleared w (may_make r w w.company.ins leg) (open_in_to r cleared leg node)
          (open_in_to r w leg node) false
          (alike_if cleared w (shell.may_up r.in_proxy node leg)
          (connect_client r (with_in cleared leg.number node) leg, true)
          (connect_client r (with_in w leg.number node) leg, true) false refl)

      leg_alike : (open_leg r m cleared leg).1 ≡ (open_leg r m w leg).1
      leg_alike = by leg.kind
        where
          by : (kind : LegKind) → (open_by r m cleared leg kind).1 ≡ (open_by r m w leg kind).1
          by ClientOut = out_alike
          by OutServer = server_alike
          by ClientIn = in_alike
          by InServer = server_alike

      next_alike : (open_next r m leg cleared).1 ≡ (open_next r m leg w).1
      next_alike =
          opened_alike (open_leg r m cleared leg).0 (open_leg r m w leg).0 leg
          (open_leg r m cleared leg).1
          ∙ ap (λ (done : Bool). (opened leg ((open_leg r m w leg).0, done)).1) leg_alike

      flag_alike : (open_same r cleared leg).1 ≡ (open_same r w leg).1
      flag_alike =
          alike_if cleared w (opening.is_client_in leg.kind
          && company.wants r w.company who.Client leg && may_open_same r w leg)
          (connect_client r (read_on cleared leg.number) leg, true)
          (connect_client r (read_on w leg.number) leg, true) false refl

      next_in_alike : (open_next_in r m leg cleared).1 ≡ (open_next_in r m leg w).1
      next_in_alike = by (w.same && may_open_same r w leg)
        where
          by : (test : Bool) → (if test then opened_same leg (open_same r cleared leg)
              else open_next r m leg cleared).1
              ≡ (if test then opened_same leg (open_same r w leg) else open_next r m leg w).1
          by true =
              same_alike (open_same r cleared leg).0 (open_same r w leg).0 leg
              (open_same r cleared leg).1
              ∙ ap (λ (done : Bool). (opened_same leg ((open_same r w leg).0, done)).1)
              flag_alike
          by false = next_alike

    -- ---- a leg carries bytes

    module _ (dir : Dir) where
      -- what is fed, where the legs are these
      abbrev told : Legs → Option (List ℕ)
      told all =
          if legs.is_up leg (receiver dir) all
          then Some (legs.take_out leg dir most_bytes all).1 else None

      feeds : (v : World K C S I O) → (feed r v leg dir most_bytes).1 ≡ told v.legs
      feeds v = by (legs.is_up leg (receiver dir) v.legs)
        where
          by : (up : Bool)
              → (if up then fed r v leg dir (legs.take_out leg dir most_bytes v.legs)
              else (v, None)).1
              ≡ (if up then Some (legs.take_out leg dir most_bytes v.legs).1 else None)
          by true = refl
          by false = refl

      sends : (send r cleared leg dir most_bytes).0.legs ≡ (send r w leg dir most_bytes).0.legs
      sends = by (legs.is_up leg (sender dir) w.legs)
        where
          by : (up : Bool)
              → (let node = at w leg (sender dir) in
              let did = draw_into r w.company w.legs node leg dir most_bytes in
              (if up then sent cleared did else (cleared, None)).0.legs
              ≡ (if up then sent w did else (w, None)).0.legs)
          by true = refl
          by false = refl

      carry_alike : (carry r leg dir cleared).1 ≡ (carry r leg dir w).1
      carry_alike =
          carried_alike (carry_bytes r leg dir cleared).0 (carry_bytes r leg dir w).0 leg dir
          (carry_bytes r leg dir cleared).1
          ∙ ap (λ (o : Option (List ℕ)). (carried leg dir ((carry_bytes r leg dir w).0, o)).1)
          (feeds (send r cleared leg dir most_bytes).0 ∙ ap told sends
          ∙ sym (feeds (send r w leg dir most_bytes).0))

    -- ---- a leg ends

    none_ends : IsSilent (end_one r leg w) → IsSilent (end_one r leg cleared)
    none_ends = by (ends_now r leg w)
      where
        by : (o : Option Dir) → IsSilent (end_where r leg w o)
            → IsSilent (end_where r leg cleared o)
        by None silent = refl
        by (Some dir) silent = absurd cc

  -- ---- an end takes

  take_alike : (d : Deeds C S) (end : Side)
      → (take_one d end cleared).1 ≡ (take_one d end w).1
  take_alike d Client =
      took_alike (take d cleared Client).0 (take d w Client).0 Client w.client_ended
      (take_from d.client w.company.client).1
  take_alike d Server =
      took_alike (take d cleared Server).0 (take d w Server).0 Server w.server_ended
      (take_from d.server w.company.server).1

  -- ---- all of it

  pub rests_told : (m : Makers K I O) (d : Deeds C S) → IsAtRest r m d w
      → IsAtRest r m d cleared
  rests_told m d rest =
      let outs = leg_at ClientOut (next_number (length w.legs.client_out)) in
      let ins = leg_at ClientIn (next_number (length w.legs.client_in)) in
      record {
        client_outs =
            alike_if cleared w (nat_le (next_number (length w.legs.client_out)) LAST_NUMBER)
            (open_next r m outs cleared) (open_next r m outs w) [] (next_alike outs m)
            ∙ rest.client_outs;
        out_servers = λ n. next_alike (leg_at OutServer n) m ∙ rest.out_servers n;
        client_ins =
            alike_if cleared w (nat_le (next_number (length w.legs.client_in)) LAST_NUMBER)
            (open_next_in r m ins cleared) (open_next_in r m ins w) [] (next_in_alike ins m)
            ∙ rest.client_ins;
        in_servers = λ n. next_alike (leg_at InServer n) m ∙ rest.in_servers n;
        carries = λ leg dir. carry_alike leg dir ∙ rest.carries leg dir;
        takes = λ end. take_alike d end ∙ rest.takes end;
        ends = λ leg. none_ends leg (rest.ends leg);
        clear = rest.clear;
        unfinished = rest.unfinished;
      }
