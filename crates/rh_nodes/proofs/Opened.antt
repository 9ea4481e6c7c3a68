-- a leg that the client wants is connected
use Rattle.std.proofs.Common.{◌≡◌, ℕ, ◌&&◌, Bool, true, false, if◌then◌else◌, sym, ap, ◌∙◌}
use Rattle.rh_line.specs.declared.leg.Leg.{Leg}
use Rattle.rh_shell.specs.Shells as shell
use Rattle.rh_shell.specs.Shells.{Shell}
use Rattle.rh_record.specs.declared.answer.Who.TheVariants as who
use Rattle.rh_company.specs.Company as company
use Rattle.rh_company.specs.Company.{Rulebook}
use Rattle.rh_nodes.specs.Opening.{at_moment, connect_client, is_client_in, may_make, may_open_same, open_client_in, open_client_out, open_in_to, open_out_to, open_same, read_on, with_in, with_out}
use Rattle.rh_nodes.specs.World.{World}

-- of two tests that are passed the first is
both : (a b : Bool) → a ≡ true → b ≡ true → (a && b) ≡ true
both a b first second = ap (λ x. x && b) first ∙ second

-- all three are passed
pub all_three : (a b c : Bool) → a ≡ true → b ≡ true → c ≡ true → (a && b && c) ≡ true
all_three a b c first second third = both (a && b) c (both a b first second) third

pub opened_out : {K C S I O : Type 0} (r : Rulebook C S I O) (make : K → ℕ → Shell O)
    (w made next : World K C S I O) (leg : Leg) (node : Shell O)
    → node ≡ at_moment r.out_proxy (make w.cast leg.number) w.now
    → shell.may_up r.out_proxy node leg ≡ true
    → made ≡ with_out w leg.number node → next ≡ connect_client r made leg
    → (next, true)
    ≡ open_out_to r w leg (at_moment r.out_proxy (make w.cast leg.number) w.now)
opened_out r make w made next leg node new up made_is next_is =
    ap (λ v. (v, true)) (next_is ∙ ap (λ v. connect_client r v leg) made_is)
    ∙ sym (ap (open_out_to r w leg) (sym new)
    ∙ ap (λ b. if b then (connect_client r (with_out w leg.number node) leg, true)
    else (w, false)) up)

-- where a proxy may be made the line is what it does to the one that is made
pub made_out : {K C S I O : Type 0} (r : Rulebook C S I O) (make : K → ℕ → Shell O)
    (w : World K C S I O) (leg : Leg) → may_make r w w.company.outs leg ≡ true
    → open_out_to r w leg (at_moment r.out_proxy (make w.cast leg.number) w.now)
    ≡ open_client_out r make w leg
made_out r make w leg may =
    let fresh = at_moment r.out_proxy (make w.cast leg.number) w.now in
    sym (ap (λ b. if b then open_out_to r w leg fresh else (w, false)) may)

pub opened_in : {K C S I O : Type 0} (r : Rulebook C S I O) (make : K → ℕ → Shell I)
    (w made next : World K C S I O) (leg : Leg) (node : Shell I)
    → node ≡ at_moment r.in_proxy (make w.cast leg.number) w.now
    → shell.may_up r.in_proxy node leg ≡ true
    → made ≡ with_in w leg.number node → next ≡ connect_client r made leg
    → (next, true)
    ≡ open_in_to r w leg (at_moment r.in_proxy (make w.cast leg.number) w.now)
opened_in r make w made next leg node new up made_is next_is =
    ap (λ v. (v, true)) (next_is ∙ ap (λ v. connect_client r v leg) made_is)
    ∙ sym (ap (open_in_to r w leg) (sym new)
    ∙ ap (λ b. if b then (connect_client r (with_in w leg.number node) leg, true)
    else (w, false)) up)

-- where a proxy may be made the line is what it does to the one that is made
pub made_in : {K C S I O : Type 0} (r : Rulebook C S I O) (make : K → ℕ → Shell I)
    (w : World K C S I O) (leg : Leg) → may_make r w w.company.ins leg ≡ true
    → open_in_to r w leg (at_moment r.in_proxy (make w.cast leg.number) w.now)
    ≡ open_client_in r make w leg
made_in r make w leg may =
    let fresh = at_moment r.in_proxy (make w.cast leg.number) w.now in
    sym (ap (λ b. if b then open_in_to r w leg fresh else (w, false)) may)

pub opened_same_to : {K C S I O : Type 0} (r : Rulebook C S I O) (w read next : World K C S I O)
    (leg : Leg)
    → is_client_in leg.kind ≡ true → company.wants r w.company who.Client leg ≡ true
    → may_open_same r w leg ≡ true
    → read ≡ read_on w leg.number → next ≡ connect_client r read leg
    → (next, true) ≡ open_same r w leg
opened_same_to r w read next leg kind wants may read_is next_is =
    ap (λ v. (v, true)) (next_is ∙ ap (λ v. connect_client r v leg) read_is)
    ∙ sym (ap (λ b. if b then (connect_client r (read_on w leg.number) leg, true)
    else (w, false)) (all_three (is_client_in leg.kind) (company.wants r w.company who.Client leg)
    (may_open_same r w leg) kind wants may))
