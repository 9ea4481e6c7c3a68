use Rattle.law_node_history.proofs.Drawn.{own_cookies}
use Rattle.law_node_history.proofs.cookies.cookies_of_lines_differ.Goals as goal

pub returns : goal.returns
returns g c = λ r m d kind w v by left front rest split.
    own_cookies r m d w v by left front rest split
