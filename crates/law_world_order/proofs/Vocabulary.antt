-- Words that proofs cite, passed on from one place. Declares nothing.
pub use Rattle.law_world_order.specs.CookiesLeft.{legs_up, times}
pub use Rattle.law_world_order.specs.Directions.{BothMark, Directions, MarksAreLast, down_route_of, up_route_of}
pub use Rattle.law_world_order.specs.FirstTexts.{IsPort}
pub use Rattle.law_world_order.specs.Flows.{AllFine, AllLegible, AreBegun, Flows, IsFlowing, Numbers, numbers_of, read_on}
pub use Rattle.law_world_order.specs.Pasts.{HasMoment, moves_of, numbers}
pub use Rattle.law_world_order.specs.Premises.{AreDistinct, AreInRange, AreLeftIn}
