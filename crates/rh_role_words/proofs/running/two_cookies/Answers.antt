-- one cookie, and another
use Rattle.rh_role_words.proofs.running.two_cookies.Goals as goal

pub returns-clause-came : goal.returns-clause-came
returns-clause-came g c = (
  g.K.Cookies.answered c.next.new.self,
  c.in_ok-connection.ensures.answered,
  c.in_ok-group.ensures.answered,
)
