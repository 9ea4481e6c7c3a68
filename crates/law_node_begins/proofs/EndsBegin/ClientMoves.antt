-- what a client put first, and which of its legs came up, whatever moves came
use Rattle.law_order.proofs.Vocabulary.{◌≡◌, ℕ, true, false, List, [], Some, None, inl, arith, refl, subst, AllByRecursion, Option}
use Rattle.rh_shell.specs.declared.stage.Stage.TheVariants as stage
use Rattle.law_moves.proofs.Vocabulary.{Pipe, CiU, CoU, ClientConfig, in_request, out_request, Leg, LegKind, ClientOut, OutServer, ClientIn, InServer, is_whole_head, first_stage, of_leg, OnLeg, EndMove, IsWholeText, Begins, Answers, IsWellText, TextIsWell}
use Rattle.law_role_client.proofs.Vocabulary.{ClientRole, ci, co, first, rules, acts, client_started, client_moved, AreAllowedMoves, pipe_to, pipe_put}
use Rattle.law_node_begins.proofs.EndsBegin.Stands.{Logs, logs_of, begins, fine_well, none_well}
use Rattle.law_node_begins.proofs.EndsBegin.Moves.{StepsKeep, moves_keep}
use Rattle.law_node_begins.proofs.EndsBegin.Fronts.{channel, IsLast, each_told}
use Rattle.law_node_begins.proofs.EndsBegin.ClientFronts.{fronts, Keeps, CameUp, up_first, up_keeps, packet_keeps, pdu_keeps, drawn_keeps, ping_keeps, give_keeps, take_keeps, recycle_keeps}
use Rattle.law_node_begins.proofs.EndsBegin.ClientPuts.{AreFirst, puts}
use Rattle.law_node_begins.specs.EndsBegin.{BeginsLegs, came_up}

-- the steps of a client keep what stands on its legs
module _ (config : ClientConfig) (IsFirst : List ℕ → Type 0) (came : ℕ → Type 0)
    (asks : AreFirst config IsFirst) where
  abbrev pub Holds : Logs → ClientRole → Type 0
  Holds logs s = Keeps config IsFirst came logs s

  abbrev pub LegCame : Leg → Type 0
  LegCame leg = CameUp config IsFirst came leg.kind leg.number

  pub steps : StepsKeep rules acts Holds LegCame
  steps = record {
    up = λ logs s leg cookie may up k.
        up_keeps config IsFirst came logs s leg.number cookie leg.kind may up k;
    head = λ logs s leg text k. k;
    pdu = λ logs s leg count bytes k.
        pdu_keeps config IsFirst came logs s leg.number bytes leg.kind k;
    packet = λ logs s leg count named k.
        packet_keeps config IsFirst came logs s leg.number count named leg.kind k;
    put = λ logs s leg k. puts config IsFirst came asks logs s leg k;
    drawn = λ logs s leg k. drawn_keeps config IsFirst came logs s leg.number leg.kind k;
    mark = λ logs s leg k. k;
    ping = λ logs s leg k. ping_keeps config IsFirst came logs s leg.number leg.kind k;
    give = λ logs s bytes k. give_keeps config IsFirst came logs s bytes k;
    take = λ logs s k. take_keeps config IsFirst came logs s k;
    close = λ logs s k. k;
    recycle = λ logs s k. recycle_keeps config IsFirst came logs s s.replacement refl k;
  }

  pub starts : Holds (logs_of []) (first config)
  starts = record {
    config_stays = refl;
    ins = starts_front came;
    outs = starts_front (λ n. Unit {0});
    apart = λ n. (refl, refl);
  }
    where
      starts_front : (up : ℕ → Type 0) → IsLast IsFirst up (channel 1 false false) (λ n. [])
      starts_front up = (
        record {
          positive = omega arith;
          above_first = λ e. absurd (omega (arith, e));
          came_up = λ e. absurd (cc);
          stands = refl;
          below = λ k above under. absurd (omega (arith, above, under));
          none = refl;
        },
        λ k above. refl,
      )

  pub says_kind : (n : ℕ) (kind : LegKind) → (kind ≡ ClientIn → came n)
      → CameUp config IsFirst came kind n
  says_kind n ClientIn says = says refl
  says_kind n ClientOut says = tt
  says_kind n OutServer says = tt
  says_kind n InServer says = tt

  pub client_keeps : (all : List EndMove) → AreAllowedMoves config all
      → ((n : ℕ) → came_up (ci n) all ≡ true → came n)
      → Holds (logs_of (client_moved config all).passage.put) (client_moved config all).passage.role
  client_keeps all allowed says =
      moves_keep rules acts Holds LegCame steps (client_started config) all allowed
      (λ leg e. says_kind leg.number leg.kind (λ is. says leg.number
      (subst (λ k. came_up (record { kind = k; number = leg.number }) all ≡ true) is e)))
      starts

-- ---- what it put first

abbrev Whole : List ℕ → Type 0
Whole text = IsWholeText is_whole_head text

abbrev pub AnyUp : ℕ → Type 0
AnyUp n = Unit {0}

begins_by : (config : ClientConfig) (put : List OnLeg) (s : ClientRole)
    → Keeps config Whole AnyUp (logs_of put) s → (n : ℕ) (kind : LegKind)
    → Begins (pipe_to kind) (of_leg (record { kind = kind; number = n }) put)
begins_by config put s k n ClientIn =
    begins (Some CiU) is_whole_head (of_leg (ci n) put)
    (each_told Whole AnyUp (fronts s).ins (λ j. of_leg (ci j) put) (up_first s.writing.opening)
    (up_first s.in_successor.opening) k.ins n).0
begins_by config put s k n ClientOut =
    begins (Some CoU) is_whole_head (of_leg (co n) put)
    (each_told Whole AnyUp (fronts s).outs (λ j. of_leg (co j) put) (up_first s.current.opening)
    (up_first s.out_successor.opening) k.outs n).0
begins_by config put s k n OutServer =
    begins None is_whole_head (of_leg (record { kind = OutServer; number = n }) put)
    (inl (k.apart n).0)
begins_by config put s k n InServer =
    begins None is_whole_head (of_leg (record { kind = InServer; number = n }) put)
    (inl (k.apart n).1)

nothing_by : (config : ClientConfig) (put : List OnLeg) (s : ClientRole)
    → Keeps config Whole AnyUp (logs_of put) s → (n : ℕ) (kind : LegKind)
    → pipe_to kind ≡ None → of_leg (record { kind = kind; number = n }) put ≡ []
nothing_by config put s k n ClientIn e = absurd (cc)
nothing_by config put s k n ClientOut e = absurd (cc)
nothing_by config put s k n OutServer e = (k.apart n).0
nothing_by config put s k n InServer e = (k.apart n).1

pub client_begins : ((config : ClientConfig) → Whole (in_request config))
    → ((config : ClientConfig) (len : ℕ) → Whole (out_request config len))
    → (config : ClientConfig) (all : List EndMove) → AreAllowedMoves config all
    → BeginsLegs pipe_put (client_moved config all).passage.put
client_begins ins outs config all allowed =
    let p = (client_moved config all).passage in
    let first : AreFirst config Whole = record { ins = ins config; outs = outs config } in
    let k = client_keeps config Whole AnyUp first all allowed (λ n e. tt) in
    record {
      begins = λ leg. begins_by config p.put p.role k leg.number leg.kind;
      nothing = λ leg e. nothing_by config p.put p.role k leg.number leg.kind e;
    }

-- ---- and its texts read well

module _ (well : Answers) (heads : (pipe : Option Pipe) (text : List ℕ)
    → first_stage pipe ≡ stage.Head → Whole text → TextIsWell well pipe text) where
  well_by : (config : ClientConfig) (put : List OnLeg) (s : ClientRole)
      → Keeps config Whole AnyUp (logs_of put) s → (n : ℕ) (kind : LegKind)
      → AllByRecursion (IsWellText well (pipe_to kind))
      (of_leg (record { kind = kind; number = n }) put)
  well_by config put s k n ClientIn =
      fine_well well (Some CiU) Whole (λ text whole. heads (Some CiU) text refl whole)
      (of_leg (ci n) put)
      (each_told Whole AnyUp (fronts s).ins (λ j. of_leg (ci j) put) (up_first s.writing.opening)
      (up_first s.in_successor.opening) k.ins n).0
  well_by config put s k n ClientOut =
      fine_well well (Some CoU) Whole (λ text whole. heads (Some CoU) text refl whole)
      (of_leg (co n) put)
      (each_told Whole AnyUp (fronts s).outs (λ j. of_leg (co j) put) (up_first s.current.opening)
      (up_first s.out_successor.opening) k.outs n).0
  well_by config put s k n OutServer =
      none_well well None (of_leg (record { kind = OutServer; number = n }) put) (k.apart n).0
  well_by config put s k n InServer =
      none_well well None (of_leg (record { kind = InServer; number = n }) put) (k.apart n).1

  pub client_well : ((config : ClientConfig) → Whole (in_request config))
      → ((config : ClientConfig) (len : ℕ) → Whole (out_request config len))
      → (config : ClientConfig) (all : List EndMove) → AreAllowedMoves config all → (leg : Leg)
      → AllByRecursion (IsWellText well (pipe_put leg))
      (of_leg leg (client_moved config all).passage.put)
  client_well ins outs config all allowed leg =
      let p = (client_moved config all).passage in
      let first : AreFirst config Whole = record { ins = ins config; outs = outs config } in
      let k = client_keeps config Whole AnyUp first all allowed (λ n e. tt) in
      well_by config p.put p.role k leg.number leg.kind

-- ---- on which legs it wrote

abbrev pub Any : List ℕ → Type 0
Any text = Unit {0}
