use Rattle.std.proofs.Common.{◌≤◌, ◌≡◌, ℕ, List, length, sym, ◌∙◌, ap, subst}
use Rattle.rh_http.specs.Reading.{greatest_head}
use Rattle.rh_audit.specs.declared.opening.Opening.{Opening}
use Rattle.rh_audit.specs.declared.opening.Begins.TheVariants as begins
use Rattle.rh_audit.specs.Openings.{extent, opening_by}
use Rattle.rh_audit.proofs.Ends.{opening_front, opening_most}
use Rattle.rh_audit.proofs.opening.opening_of.Goals as goal

pub returns-in-Request-clause-opening : goal.returns-in-Request-clause-opening
returns-in-Request-clause-opening c = λ bytes front.
    c.request_opening.ensures ∙ ap (λ b. opening_by b c.args.front.now) (sym c.in-Request.is)
    ∙ ap (opening_by c.args.begins) front ∙ opening_front c.args.begins bytes

pub returns-in-Request-clause-most : goal.returns-in-Request-clause-most
returns-in-Request-clause-most c =
    subst (λ (o : Opening). extent o ≤ greatest_head) (sym c.request_opening.ensures)
    (opening_most (begins.Request c.in-Request.inbound) c.args.front.now)

pub returns-in-Response-clause-opening : goal.returns-in-Response-clause-opening
returns-in-Response-clause-opening c = λ bytes front.
    c.response_opening.ensures ∙ ap (λ b. opening_by b c.args.front.now) (sym c.in-Response.is)
    ∙ ap (opening_by c.args.begins) front ∙ opening_front c.args.begins bytes

pub returns-in-Response-clause-most : goal.returns-in-Response-clause-most
returns-in-Response-clause-most c =
    subst (λ (o : Opening). extent o ≤ greatest_head) (sym c.response_opening.ensures)
    (opening_most begins.Response c.args.front.now)

pub returns-in-Greeting-clause-opening : goal.returns-in-Greeting-clause-opening
returns-in-Greeting-clause-opening c = λ bytes front.
    c.greeting_opening.ensures ∙ ap (λ b. opening_by b c.args.front.now) (sym c.in-Greeting.is)
    ∙ ap (opening_by c.args.begins) front ∙ opening_front c.args.begins bytes
