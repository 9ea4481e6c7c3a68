-- what carries, opens and ends legs is answered by no answer of an end
use Rattle.law_order.proofs.Vocabulary.{ℕ, zero, suc, List, [], ◌∷◌, Bool, true, false, ◌&&◌, if◌then◌else◌, length, Some, None, refl, nat_le, Option}
use Rattle.rh_record.specs.declared.answer.Answer.TheVariants as answer
use Rattle.rh_record.specs.declared.line.Line.TheVariants as line
use Rattle.rh_wires.specs.Legs as legs
use Rattle.law_moves.proofs.Vocabulary.{Dir, U, D, Side, Cause, Leg, LegKind, ClientOut, OutServer, ClientIn, InServer}
use Rattle.law_node_history.proofs.Vocabulary.{Answer, Line, Rulebook, break_leg, end_leg, send, feed, Makers, open_leg, open_same, may_open_same, and_then, each, leg_at, opened, opened_same, open_next, open_next_in, next_number, open_client_outs, open_client_ins, open_out_servers, open_in_servers, open_all, carry_bytes, carried, carry, carry_both, carry_kind, carry_all, ends_now, end_where, end_one, end_kind, end_all, reported, ending_answer, leg_answer, tick, World}
use Rattle.law_world_reports.proofs.Naming.Naming.{names_none, names_other, names_append}
use Rattle.law_world_reports.proofs.Vocabulary.{Names}

module _ {K C S I O : Type 0} (r : Rulebook C S I O) (m : Makers K I O) (end : Side)
    (why : Cause) where
  abbrev pub Says : World K C S I O × List Answer → Type 0
  Says did = Names end why did.1

  says_then : (did : World K C S I O × List Answer)
      (act : World K C S I O → World K C S I O × List Answer) → Says did
      → ((v : World K C S I O) → Says (act v)) → Says (and_then did act)
  says_then did act a b = names_append end why did.1 (act did.0).1 a (b did.0)

  says_each : (n : ℕ) (act : ℕ → World K C S I O → World K C S I O × List Answer)
      (w : World K C S I O) → ((k : ℕ) (v : World K C S I O) → Says (act k v))
      → Says (each n act w)
  says_each zero act w a = names_none end why
  says_each (suc n) act w a = says_then (each n act w) (act n) (says_each n act w a) (a n)

  -- four things, one after the other
  says_four : (did : World K C S I O × List Answer)
      (second third last : World K C S I O → World K C S I O × List Answer) → Says did
      → ((v : World K C S I O) → Says (second v)) → ((v : World K C S I O) → Says (third v))
      → ((v : World K C S I O) → Says (last v))
      → Says (and_then (and_then (and_then did second) third) last)
  says_four did second third last a b c e =
      says_then (and_then (and_then did second) third) last
      (says_then (and_then did second) third (says_then did second a b) c) e

  -- ---- legs are opened

  opened_says : (leg : Leg) (did : World K C S I O × Bool) → Says (opened leg did)
  opened_says leg (v, true) = names_other end why (answer.OpenLeg leg true) refl
  opened_says leg (v, false) = names_none end why

  opened_same_says : (leg : Leg) (did : World K C S I O × Bool) → Says (opened_same leg did)
  opened_same_says leg (v, true) = names_other end why (answer.OpenSame leg true) refl
  opened_same_says leg (v, false) = names_none end why

  next_says : (leg : Leg) (w : World K C S I O) → Says (open_next r m leg w)
  next_says leg w = opened_says leg (open_leg r m w leg)

  next_in_says : (leg : Leg) (w : World K C S I O) → Says (open_next_in r m leg w)
  next_in_says leg w = by (w.same && may_open_same r w leg)
    where
      by : (t : Bool) → Says (if t then opened_same leg (open_same r w leg)
          else open_next r m leg w)
      by true = opened_same_says leg (open_same r w leg)
      by false = next_says leg w

  -- where there is a number for it
  says_where : (t : Bool) (w : World K C S I O) (did : World K C S I O × List Answer) → Says did
      → Says (if t then did else (w, []))
  says_where true w did a = a
  says_where false w did a = names_none end why

  client_outs_say : (w : World K C S I O) → Says (open_client_outs r m w)
  client_outs_say w =
      let number = next_number (length w.legs.client_out) in
      says_where (nat_le number 4294967295) w (open_next r m (leg_at ClientOut number) w)
      (next_says (leg_at ClientOut number) w)

  client_ins_say : (w : World K C S I O) → Says (open_client_ins r m w)
  client_ins_say w =
      let number = next_number (length w.legs.client_in) in
      says_where (nat_le number 4294967295) w (open_next_in r m (leg_at ClientIn number) w)
      (next_in_says (leg_at ClientIn number) w)

  pub opens_say : (w : World K C S I O) → Says (open_all r m w)
  opens_say w =
      says_four (open_client_outs r m w) (open_out_servers r m) (open_client_ins r m)
      (open_in_servers r m) (client_outs_say w)
      (λ v. says_each (length v.company.outs) (λ number. open_next r m (leg_at OutServer number)) v
      (λ number. next_says (leg_at OutServer number)))
      client_ins_say
      (λ v. says_each (length v.company.ins) (λ number. open_next r m (leg_at InServer number)) v
      (λ number. next_says (leg_at InServer number)))

  -- ---- bytes are carried

  carried_says : (leg : Leg) (dir : Dir) (did : World K C S I O × Option (List ℕ))
      → Says (carried leg dir did)
  carried_says leg dir (v, None) = names_none end why
  carried_says leg dir (v, Some []) = names_none end why
  carried_says leg dir (v, Some (b ∷ bytes)) =
      names_other end why (answer.Move (Some leg) dir (Some (b ∷ bytes))) refl

  both_say : (leg : Leg) (w : World K C S I O) → Says (carry_both r leg w)
  both_say leg w =
      says_then (carry r leg U w) (carry r leg D) (carried_says leg U (carry_bytes r leg U w))
      (λ v. carried_says leg D (carry_bytes r leg D v))

  kind_carries : (kind : LegKind) (w : World K C S I O) → Says (carry_kind r kind w)
  kind_carries kind w =
      says_each (length (legs.of kind w.legs)) (λ number. carry_both r (leg_at kind number)) w
      (λ number. both_say (leg_at kind number))

  pub carries_say : (w : World K C S I O) → Says (carry_all r w)
  carries_say w =
      says_four (carry_kind r ClientOut w) (carry_kind r OutServer) (carry_kind r ClientIn)
      (carry_kind r InServer) (kind_carries ClientOut w) (kind_carries OutServer)
      (kind_carries ClientIn) (kind_carries InServer)

  -- ---- legs end

  where_says : (leg : Leg) (w : World K C S I O) (o : Option Dir) → Says (end_where r leg w o)
  where_says leg w None = names_none end why
  where_says leg w (Some dir) =
      names_other end why (answer.EndLeg leg dir (end_leg r w leg dir).1) refl

  kind_ends : (kind : LegKind) (w : World K C S I O) → Says (end_kind r kind w)
  kind_ends kind w =
      says_each (length (legs.of kind w.legs)) (λ number. end_one r (leg_at kind number)) w
      (λ number v. where_says (leg_at kind number) v (ends_now r (leg_at kind number) v))

  pub ends_say : (w : World K C S I O) → Says (end_all r w)
  ends_say w =
      says_four (end_kind r ClientOut w) (end_kind r OutServer) (end_kind r ClientIn)
      (end_kind r InServer) (kind_ends ClientOut w) (kind_ends OutServer) (kind_ends ClientIn)
      (kind_ends InServer)

  -- ---- lines that aren't at an end, and don't settle

  ending_says : (one : Line) (w : World K C S I O) → Says (reported (ending_answer r w one))
  ending_says (line.BreakLeg leg) w =
      names_other end why (answer.BreakLeg leg (break_leg r w leg).1) refl
  ending_says (line.EndLeg leg dir) w =
      names_other end why (answer.EndLeg leg dir (end_leg r w leg dir).1) refl
  ending_says (line.Tick now) w = names_other end why (answer.Tick now (tick r w now).1) refl
  ending_says one w = names_none end why

  pub leg_says : (one : Line) (w : World K C S I O) → Says (reported (leg_answer r m w one))
  leg_says (line.Send (Some leg) dir count) w =
      names_other end why (answer.Send (Some leg) dir (send r w leg dir count).1) refl
  leg_says (line.Move (Some leg) dir count) w =
      names_other end why (answer.Move (Some leg) dir (feed r w leg dir count).1) refl
  leg_says (line.OpenLeg leg) w =
      names_other end why (answer.OpenLeg leg (open_leg r m w leg).1) refl
  leg_says (line.OpenSame leg) w =
      names_other end why (answer.OpenSame leg (open_same r w leg).1) refl
  leg_says one w = ending_says one w
