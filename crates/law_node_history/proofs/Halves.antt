-- each half step is a list of changes of a kind; and lines and half steps in any order are changes
use Rattle.rh_text.specs.declared.ends.Side.TheVariants as side
use Rattle.law_order.proofs.Vocabulary.{◌≡◌, ℕ, Bool, true, false, List, [], ◌∷◌, ◌&&◌, not, IsTrue, Some, None, refl, sym, inl, inr, IfSome, if◌then◌else◌, nat_le, nat_lt, Option, and_parts}
use Rattle.rh_wires.specs.Legs as legs
use Rattle.rh_company.specs.Company as company
use Rattle.rh_nodes.specs.World.{tell}
use Rattle.rh_nodes.specs.declared.half.Half.TheVariants as halves
use Rattle.law_moves.proofs.Vocabulary.{Side, by_test, Cookie, Leg, LegKind, ClientOut, OutServer, ClientIn, InServer}
use Rattle.law_node_history.proofs.Vocabulary.{Who, Client, Server, In, Out, ask, Breaks, Ends, Passes, Rulebook, was_had, with_other, is_absent, Half, lose, Deeds, is_same, end_of, make_by, make_proxy, up_at, with_cookie, up_client, up_end, up_half, refused_half, broken_end, ended_end, tick_from, half_by, half, Makers, at_moment, with_in, with_out, leg_at, World, at, Change, IsTold, RaisesAlone, OpensIn, OpensOut, Draws, Reports, Leads, Turn, IsLine, IsHalf, Quietly, WorksBy}
use Rattle.law_node_history.proofs.Vocabulary.{is_quiet, may_have, after_turn, after_turns}
use Rattle.law_node_history.proofs.Connecting.{or_left}
use Rattle.law_node_history.proofs.Leading.{leads_none, leads_then}
use Rattle.law_node_history.proofs.Lines.{leads_step, same_who}
use Rattle.law_node_history.proofs.Losing.{draws_broken, draws_ended}
use Rattle.law_node_history.proofs.Working.{all_wider, works_none, works_one, works_then, works_more}

-- what half steps change is of the kind: what tells a node something, the report, and a leg that
-- comes up with such a cookie
pub record MakeHalves (kind : Change → Bool) (Fits : Cookie → Type 0) : Type 0 where
  pub quiet : (change : Change) → is_quiet change ≡ true → kind change ≡ true
  pub reports : kind Reports ≡ true
  pub raises : (node : Who) (leg : Leg) (end : Side) (cookie : Cookie) → Fits cookie
      → kind (RaisesAlone node leg end cookie) ≡ true
  pub opens_in : (n : ℕ) (cookie : Cookie) → Fits cookie → kind (OpensIn n cookie) ≡ true
  pub opens_out : (n : ℕ) (cookie : Cookie) → Fits cookie → kind (OpensOut n cookie) ≡ true

-- the cookie of a half step
abbrev pub HalfFits : (Cookie → Type 0) → Half → Type 0
HalfFits Fits (halves.Up node leg cookie) = Fits cookie
HalfFits Fits one = Unit {0}

module _ {K C S I O : Type 0} (r : Rulebook C S I O) (m : Makers K I O) (d : Deeds C S)
    {kind : Change → Bool} {Fits : Cookie → Type 0} (law : MakeHalves kind Fits) where
  quiet_works : (w v : World K C S I O) → Quietly r m d w v → WorksBy kind r m d w v
  quiet_works w v a = record {
    leads = a.leads;
    work = all_wider is_quiet kind law.quiet a.leads.changes a.work;
  }

  abbrev By : World K C S I O → World K C S I O → Type 0
  By w v = WorksBy kind r m d w v

  -- to the world behind something that was done or refused
  abbrev Goes : World K C S I O → World K C S I O × Bool → Type 0
  Goes w did = By w did.0

  -- the client's leg comes up alone
  raised_goes : (w : World K C S I O) (leg : Leg) (cookie : Cookie) → Fits cookie
      → IsTrue (may_have r w Client leg)
      → By w (up_at r w Client leg side.Client cookie)
  raised_goes w leg cookie fits may =
      works_one r m d w (RaisesAlone Client leg side.Client cookie) (may, inr (refl, refl))
      (law.raises Client leg side.Client cookie fits)

  -- or to a proxy that is made where none was
  made_goes : (w : World K C S I O) (kind : LegKind) (n : ℕ) (cookie : Cookie)
      → Fits cookie → IsTrue (may_have r w Client (leg_at kind n))
      → By w
      (up_at r (make_by r m w n kind) Client (leg_at kind n) side.Client cookie)
  made_goes w OutServer n cookie fits may = raised_goes w (leg_at OutServer n) cookie fits may
  made_goes w InServer n cookie fits may = raised_goes w (leg_at InServer n) cookie fits may
  made_goes w ClientOut n cookie fits may =
      let leg = leg_at ClientOut n in
      by_test (λ (v : World K C S I O). By w (up_at r v Client leg side.Client cookie))
      (nat_lt 0 n && ask is_absent true w.company.outs n)
      (with_out w n (at_moment r.out_proxy (m.out_proxy w.cast n) w.now)) w
      (λ e. let parts = and_parts (nat_lt 0 n) (ask is_absent true w.company.outs n) e in
      works_one r m d w (OpensOut n cookie) (parts.0, parts.1, may)
      (law.opens_out n cookie fits))
      (λ e. raised_goes w leg cookie fits may)
  made_goes w ClientIn n cookie fits may =
      let leg = leg_at ClientIn n in
      by_test (λ (v : World K C S I O). By w (up_at r v Client leg side.Client cookie))
      (nat_lt 0 n && ask is_absent true w.company.ins n)
      (with_in w n (at_moment r.in_proxy (m.in_proxy w.cast n) w.now)) w
      (λ e. let parts = and_parts (nat_lt 0 n) (ask is_absent true w.company.ins n) e in
      works_one r m d w (OpensIn n cookie) (parts.0, parts.1, may)
      (law.opens_in n cookie fits))
      (λ e. raised_goes w leg cookie fits may)

  client_goes : (w : World K C S I O) (leg : Leg) (cookie : Cookie) → Fits cookie
      → Goes w (up_client r m w leg cookie)
  client_goes w leg cookie fits =
      let v = with_cookie w cookie in
      by_test (Goes w) (not (was_had w.cookies cookie) && company.may_up r w.company Client leg)
      (up_at r (make_proxy r m v leg) Client leg side.Client cookie, true) (w, false)
      (λ e. works_then r m d w v (up_at r (make_proxy r m v leg) Client leg side.Client cookie)
      (works_one r m d w (Draws (with_other w.cookies cookie)) tt
      (law.quiet (Draws (with_other w.cookies cookie)) refl))
      (made_goes v leg.kind leg.number cookie fits
      (or_left (company.may_up r w.company Client leg) (company.wants r w.company Client leg)
      (and_parts (not (was_had w.cookies cookie)) (company.may_up r w.company Client leg) e).1)))
      (λ e. works_none r m d w)

  -- a node stands at its end
  stands : (w : World K C S I O) (node : Who) (leg : Leg)
      → IfSome (end_of w node leg) (λ (end : Side). at w leg end ≡ node)
  stands w node leg =
      by_test (λ (o : Option Side). IfSome o (λ (end : Side). at w leg end ≡ node))
      (is_same node (at w leg side.Client)) (Some side.Client)
      (if is_same node (at w leg side.Server) then Some side.Server else None)
      (λ e. sym (same_who node (at w leg side.Client) e))
      (λ e. by_test (λ (o : Option Side). IfSome o (λ (end : Side). at w leg end ≡ node))
      (is_same node (at w leg side.Server)) (Some side.Server) None
      (λ f. sym (same_who node (at w leg side.Server) f)) (λ f. tt))

  other_goes : (w : World K C S I O) (node : Who) (leg : Leg) (cookie : Cookie)
      → Fits cookie → Goes w (up_end r w node leg cookie (end_of w node leg))
  other_goes w node leg cookie fits = by (end_of w node leg) (stands w node leg)
    where
      by : (o : Option Side) → IfSome o (λ (end : Side). at w leg end ≡ node)
          → Goes w (up_end r w node leg cookie o)
      by None here = works_none r m d w
      by (Some end) here =
          by_test (Goes w) (company.may_up r w.company node leg)
          (up_at r w node leg end cookie, true) (w, false)
          (λ e. works_one r m d w (RaisesAlone node leg end cookie) (
            or_left (company.may_up r w.company node leg) (company.wants r w.company node leg) e,
            inl here,
          ) (law.raises node leg end cookie fits))
          (λ e. works_none r m d w)

  up_goes : (w : World K C S I O) (node : Who) (leg : Leg) (cookie : Cookie)
      → Fits cookie → Goes w (up_half r m w node leg cookie)
  up_goes w Client leg cookie fits = client_goes w leg cookie fits
  up_goes w Server leg cookie fits = other_goes w Server leg cookie fits
  up_goes w (In n) leg cookie fits = other_goes w (In n) leg cookie fits
  up_goes w (Out n) leg cookie fits = other_goes w (Out n) leg cookie fits

  refused_goes : (w : World K C S I O) (node : Who) (leg : Leg)
      → Goes w (refused_half r w node leg)
  refused_goes w node leg =
      by_test (Goes w) (company.wants r w.company node leg) (tell r w node (Breaks leg), true)
      (w, false) (λ e. works_one r m d w (IsTold node (Breaks leg)) (inr e)
      (law.quiet (IsTold node (Breaks leg)) refl))
      (λ e. works_none r m d w)

  broken_goes : (w : World K C S I O) (node : Who) (leg : Leg) (o : Option Side)
      → Goes w (broken_end r w node leg o)
  broken_goes w node leg None = refused_goes w node leg
  broken_goes w node leg (Some end) =
      by_test (Goes w) (legs.is_up leg end w.legs) (lose r w leg end (Breaks leg), true)
      (refused_half r w node leg)
      (λ e. quiet_works w (lose r w leg end (Breaks leg)) (draws_broken r m d w leg end).works)
      (λ e. refused_goes w node leg)

  ended_goes : (w : World K C S I O) (leg : Leg) (o : Option Side) → Goes w (ended_end r w leg o)
  ended_goes w leg None = works_none r m d w
  ended_goes w leg (Some end) =
      by_test (Goes w) (legs.is_up leg end w.legs) (lose r w leg end (Ends leg), true) (w, false)
      (λ e. quiet_works w (lose r w leg end (Ends leg)) (draws_ended r m d w leg end).works)
      (λ e. works_none r m d w)

  tick_goes : (w : World K C S I O) (node : Who) (now : ℕ) (o : Option ℕ)
      → Goes w (tick_from r w node now o)
  tick_goes w node now None = works_none r m d w
  tick_goes w node now (Some last) =
      by_test (Goes w) (nat_le last now) (tell r w node (Passes now), true) (w, false)
      (λ e. works_one r m d w (IsTold node (Passes now)) tt
      (law.quiet (IsTold node (Passes now)) refl)) (λ e. works_none r m d w)

  pub half_works : (one : Half) (w : World K C S I O) → HalfFits Fits one
      → WorksBy kind r m d w (half r m w one).0
  half_works one w fits =
      works_more r m d w (half_by r m w one).0 Reports (by one fits) tt law.reports
    where
      by : (one : Half) → HalfFits Fits one → Goes w (half_by r m w one)
      by (halves.Up node leg cookie) fits = up_goes w node leg cookie fits
      by (halves.Broken node leg) fits = broken_goes w node leg (end_of w node leg)
      by (halves.Ended node leg) fits = ended_goes w leg (end_of w node leg)
      by (halves.Tick node now) fits =
          tick_goes w node now (company.last_moment w.company node)

-- ---- whatever the cookie

any_halves : MakeHalves (λ (change : Change). true) (λ (cookie : Cookie). Unit {0})
any_halves = record {
  quiet = λ change is. refl;
  reports = refl;
  raises = λ node leg end cookie fits. refl;
  opens_in = λ n cookie fits. refl;
  opens_out = λ n cookie fits. refl;
}

any_fits : (one : Half) → HalfFits (λ (cookie : Cookie). Unit {0}) one
any_fits (halves.Up node leg cookie) = tt
any_fits (halves.Broken node leg) = tt
any_fits (halves.Ended node leg) = tt
any_fits (halves.Tick node now) = tt

module _ {K C S I O : Type 0} (r : Rulebook C S I O) (m : Makers K I O) (d : Deeds C S) where
  pub leads_half : (one : Half) (w : World K C S I O) → Leads r m d w (half r m w one).0
  leads_half one w = (half_works r m d any_halves one w (any_fits one)).leads

  -- ---- in any order

  leads_turn : (turn : Turn) (w : World K C S I O) → Leads r m d w (after_turn r m d w turn)
  leads_turn (IsLine one) w = leads_step r m d one w
  leads_turn (IsHalf one) w = leads_half one w

  pub leads_turns : (turns : List Turn) (w : World K C S I O)
      → Leads r m d w (after_turns r m d w turns)
  leads_turns [] w = leads_none r m d w
  leads_turns (turn ∷ turns) w =
      leads_then r m d w (after_turn r m d w turn)
      (after_turns r m d (after_turn r m d w turn) turns) (leads_turn turn w)
      (leads_turns turns (after_turn r m d w turn))
