use Rattle.law_world_honest.proofs.WorldAsked.Framed.{frames_behind_request}
use Rattle.law_world_honest.proofs.world_asked.nodes.an_out_proxy_reads_frames_behind_a_request.Goals as goal

pub returns : goal.returns
returns c = λ config events once accepted turn.
    frames_behind_request config (c.proxies_keep_their_pipes.ensures.out_proxy config)
    (c.a_leg_that_an_out_proxy_left_stays_unused.ensures config) once events accepted turn
