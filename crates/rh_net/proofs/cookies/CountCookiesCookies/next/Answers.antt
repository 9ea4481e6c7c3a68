-- the list of cookies is one cookie longer
use Rattle.std.proofs.Common.{◌≡◌, ◌+◌, ◌++◌, ◌∷◌, [], ◌∙◌, sym, ap, arith}
use Rattle.std.proofs.lemmas.Grind.{common_steps}
use Rattle.rh_net.specs.Answered.{cookie, first_cookies}
use Rattle.rh_net.proofs.Counted.{first_cookies_next}
use Rattle.rh_net.proofs.cookies.CountCookiesCookies.next.Goals as goal

pub returns-clause-answered : goal.returns-clause-answered
returns-clause-answered c =
    let made = c.args.self.now.made in
    let same : c.to_be_bytes.result ≡ cookie (made + 1) = grind (arith, common_steps) in
    first_cookies_next made ∙ ap (λ b. first_cookies made ++ b ∷ []) (sym same)
