use Rattle.law_order.proofs.Vocabulary.{List, [], ◌∷◌, Some, AllByRecursion}
use Rattle.law_moves.proofs.Vocabulary.{Pipe, Message, ReadsBack}
use Rattle.law_moves.specs.Legible.Legible.{MayGoOn}
use Rattle.law_peers_chains.proofs.ReadWhole.{are_read}
use Rattle.law_peers_chains.proofs.whole.what_is_read_is_whole.Goals as goal

each_back : (pipe : Pipe)
    → ((m : Message) → MayGoOn (Some pipe) m → ReadsBack (Some pipe) m) → (put : List Message)
    → AllByRecursion (MayGoOn (Some pipe)) put → AllByRecursion (ReadsBack (Some pipe)) put
each_back pipe back [] all = tt
each_back pipe back (m ∷ put) all = (back m all.0, each_back pipe back put all.1)

pub returns : goal.returns
returns c pipe put bytes frames begins may p whole =
    are_read pipe put bytes frames begins
    (each_back pipe (c.what_may_go_reads_back.ensures.message (Some pipe)) put may) p whole
