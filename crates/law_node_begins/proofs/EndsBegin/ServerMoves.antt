-- what a server put first, whatever moves came
use Rattle.law_order.proofs.Vocabulary.{◌≡◌, ℕ, List, [], Some, None, inl, arith, refl, sym, subst, AllByRecursion, Option}
use Rattle.rh_shell.specs.declared.stage.Stage.TheVariants as stage
use Rattle.law_moves.proofs.Vocabulary.{by_test, Cookie, Pipe, IsD, OsD, Leg, LegKind, ClientOut, OutServer, ClientIn, InServer, greeting as greeting_text, is_whole_head, is_whole_greeting, first_stage, of_leg, OnLeg, EndMove, AreAllowedAtEnd, end_started, all_end_moved, IsWholeText, Begins, Answers, IsWellText, TextIsWell}
use Rattle.law_role_server.proofs.Vocabulary.{Server, may_up_by, up_by, up, rules, acts, first, pipe_to, pipe_put}
use Rattle.law_node_begins.proofs.EndsBegin.Stands.{Logs, logs_of, begins, fine_well, none_well}
use Rattle.law_node_begins.proofs.EndsBegin.Moves.{StepsKeep, moves_keep}
use Rattle.law_node_begins.proofs.EndsBegin.KeptLegs.{AreBegun}
use Rattle.law_node_begins.proofs.EndsBegin.ServerRows.{Keeps, is_leg, os_leg, packet_keeps, pdu_keeps, up_keeps, drawn_keeps, mark_keeps, give_keeps, take_keeps, recycle_keeps}
use Rattle.law_node_begins.proofs.EndsBegin.ServerPuts.{puts}
use Rattle.law_node_begins.specs.EndsBegin.{BeginsLegs}

-- the steps of a server keep what stands on its legs
module _ (IsFirst : List ℕ → Type 0) (greets : IsFirst greeting_text) where
  ups : (logs : Logs) (s : Server) (leg : Leg) (cookie : Cookie) → Keeps IsFirst logs s
      → Keeps IsFirst logs (up s leg cookie)
  ups logs s leg cookie k =
      by_test (Keeps IsFirst logs) (may_up_by s leg.number leg.kind)
      (up_by s leg.number leg.kind) s
      (λ may. up_keeps IsFirst logs s leg.number leg.kind may k) (λ e. k)

  steps : StepsKeep rules acts (Keeps IsFirst) (λ leg. Unit {0})
  steps = record {
    up = λ logs s leg cookie may came k. ups logs s leg cookie k;
    head = λ logs s leg text k. k;
    pdu = λ logs s leg count bytes k. pdu_keeps IsFirst logs s leg.number bytes leg.kind k;
    packet = λ logs s leg count named k.
        packet_keeps IsFirst logs s leg.number count named leg.kind k;
    put = λ logs s leg k. puts IsFirst greets logs s leg k;
    drawn = λ logs s leg k. drawn_keeps IsFirst logs s leg.number leg.kind k;
    mark = λ logs s leg k. mark_keeps IsFirst logs s leg.number leg.kind k;
    ping = λ logs s leg k. k;
    give = λ logs s bytes k. give_keeps IsFirst logs s bytes k;
    take = λ logs s k. take_keeps IsFirst logs s k;
    close = λ logs s k. k;
    recycle = λ logs s k. recycle_keeps IsFirst logs s k;
  }

  starts : (window : ℕ) → Keeps IsFirst (logs_of []) (first window)
  starts window = record { ins = none; outs = none; apart = λ n. (refl, refl) }
    where
      none : AreBegun IsFirst 0 [] (λ n. [])
      none = record { rising = omega arith; last = λ k above. refl; each = λ k. inl refl }

-- ---- the law

begins_by : (put : List OnLeg) (s : Server)
    → Keeps (IsWholeText is_whole_greeting) (logs_of put) s → (n : ℕ) (kind : LegKind)
    → Begins (pipe_to kind) (of_leg (record { kind = kind; number = n }) put)
begins_by put s k n InServer =
    begins (Some IsD) is_whole_greeting (of_leg (is_leg n) put) (k.ins.each n)
begins_by put s k n OutServer =
    begins (Some OsD) is_whole_greeting (of_leg (os_leg n) put) (k.outs.each n)
begins_by put s k n ClientIn =
    begins None is_whole_head (of_leg (record { kind = ClientIn; number = n }) put)
    (inl (k.apart n).1)
begins_by put s k n ClientOut =
    begins None is_whole_head (of_leg (record { kind = ClientOut; number = n }) put)
    (inl (k.apart n).0)

nothing_by : (put : List OnLeg) (s : Server)
    → Keeps (IsWholeText is_whole_greeting) (logs_of put) s → (n : ℕ) (kind : LegKind)
    → pipe_to kind ≡ None → of_leg (record { kind = kind; number = n }) put ≡ []
nothing_by put s k n InServer e = absurd (cc)
nothing_by put s k n OutServer e = absurd (cc)
nothing_by put s k n ClientIn e = (k.apart n).1
nothing_by put s k n ClientOut e = (k.apart n).0

pub server_begins : IsWholeText is_whole_greeting greeting_text → (window : ℕ)
    (moves : List EndMove) → AreAllowedAtEnd rules acts (end_started (first window)) moves
    → BeginsLegs pipe_put (all_end_moved rules acts (end_started (first window)) moves).passage.put
server_begins whole window moves allowed =
    let p = (all_end_moved rules acts (end_started (first window)) moves).passage in
    let IsFirst : List ℕ → Type 0 = IsWholeText is_whole_greeting in
    let k = moves_keep rules acts (Keeps IsFirst) (λ leg. Unit {0}) (steps IsFirst whole)
    (end_started (first window)) moves allowed (λ leg e. tt) (starts IsFirst whole window) in
    record {
      begins = λ leg. begins_by p.put p.role k leg.number leg.kind;
      nothing = λ leg e. nothing_by p.put p.role k leg.number leg.kind e;
    }

-- ---- and its texts read well

abbrev Greets : List ℕ → Type 0
Greets text = text ≡ greeting_text

module _ (well : Answers) (greets : (pipe : Option Pipe) → first_stage pipe ≡ stage.Greeting
    → TextIsWell well pipe greeting_text) where
  greeting_is : (pipe : Option Pipe) → first_stage pipe ≡ stage.Greeting → (text : List ℕ)
      → Greets text → TextIsWell well pipe text
  greeting_is pipe first text is = subst (TextIsWell well pipe) (sym is) (greets pipe first)

  well_by : (put : List OnLeg) (s : Server) → Keeps Greets (logs_of put) s → (n : ℕ)
      (kind : LegKind)
      → AllByRecursion (IsWellText well (pipe_to kind))
      (of_leg (record { kind = kind; number = n }) put)
  well_by put s k n InServer =
      fine_well well (Some IsD) Greets (greeting_is (Some IsD) refl) (of_leg (is_leg n) put)
      (k.ins.each n)
  well_by put s k n OutServer =
      fine_well well (Some OsD) Greets (greeting_is (Some OsD) refl) (of_leg (os_leg n) put)
      (k.outs.each n)
  well_by put s k n ClientIn =
      none_well well None (of_leg (record { kind = ClientIn; number = n }) put) (k.apart n).1
  well_by put s k n ClientOut =
      none_well well None (of_leg (record { kind = ClientOut; number = n }) put) (k.apart n).0

  pub server_well : (window : ℕ) (moves : List EndMove)
      → AreAllowedAtEnd rules acts (end_started (first window)) moves → (leg : Leg)
      → AllByRecursion (IsWellText well (pipe_put leg))
      (of_leg leg (all_end_moved rules acts (end_started (first window)) moves).passage.put)
  server_well window moves allowed leg =
      let p = (all_end_moved rules acts (end_started (first window)) moves).passage in
      let k = moves_keep rules acts (Keeps Greets) (λ leg. Unit {0}) (steps Greets refl)
      (end_started (first window)) moves allowed (λ leg e. tt) (starts Greets refl window) in
      well_by p.put p.role k leg.number leg.kind
