use Rattle.law_role_client.proofs.Counted.Wishes.{asks_where_wanted}
use Rattle.law_role_client.proofs.counts.replacing.a_client_asks_where_a_successor_is_wanted.Goals as goal

pub returns : goal.returns
returns c = asks_where_wanted
