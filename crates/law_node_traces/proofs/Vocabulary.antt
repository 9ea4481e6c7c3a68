-- Words that proofs cite, passed on from one place. Declares nothing.
pub use Rattle.law_node_traces.specs.LetGo.{is_gone, was_let_go}
pub use Rattle.law_node_traces.specs.OwnLegs.{IsAmissOn, IsOfClient, IsOfInProxy, IsOfOutProxy, IsOfServer, KeepsEnds, KeepsLegs}
pub use Rattle.law_node_traces.specs.Traced.Cookies.{AreWhole, ByChanges, has_whole_cookie, is_whole_half, is_whole_turn}
pub use Rattle.law_node_traces.specs.Traced.Numbers.{AreJoined, AreLed, AreOpened, AreRead, ComeUpByLines, ComeUpInOrder, HasWholeCookie, HaveWholeCookies, IsRead, is_made}
pub use Rattle.law_node_traces.specs.Traced.Ours.{AreOurs, deeds, rules}
pub use Rattle.law_node_traces.specs.Traced.Recordings.{IsKnown, history_at}
pub use Rattle.law_node_traces.specs.Traced.Refusals.{DrawsGoing, DrawsRefusal, DrawsRightly}
pub use Rattle.law_node_traces.specs.Traced.Turns.{HearInTurn}
