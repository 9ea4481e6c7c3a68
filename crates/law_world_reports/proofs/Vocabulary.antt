-- Words that proofs cite, passed on from one place. Declares nothing.
pub use Rattle.rh_world.proofs.Ranges.{in_timeout, in_window}
pub use Rattle.rh_world.specs.Any.{act, after, answers, prepared, run, step, told}
pub use Rattle.rh_world.specs.Config.{AreInRange, roles_config, setting, with_number}
pub use Rattle.rh_world.specs.Direct.{Asks, Deed, Draws, Feeds, Nothing, Offers, Way, deed}
pub use Rattle.rh_world.specs.declared.any_world.AnyWorld.{AnyWorld}
pub use Rattle.rh_world.specs.declared.any_world.AnyWorld.TheVariants.{Before, Direct, Roles, Settings}
pub use Rattle.rh_world.specs.declared.config.WorldConfig.{WorldConfig}
pub use Rattle.law_world_reports.specs.Closed.Licences.{IsEventOf, IsLicensed, IsPieceOn, MayCloseAt, MayCloseThere, ShowsCause, ShowsMove, midst}
pub use Rattle.law_world_reports.specs.Closed.Recordings.{IsLicensedAt, IsLicensedIn, IsRefusedIn, RefusesClient}
pub use Rattle.law_world_reports.specs.Closed.Shows.{AreShown, IsShown, ShownWorks, Shows, ShowsLoss, ShowsPiece}
pub use Rattle.law_world_reports.specs.Naming.{Names, NamesIt, cause_told, tells_of}
pub use Rattle.law_world_reports.specs.Ordering.Counted.{CountsCapped, capped_count}
pub use Rattle.law_world_reports.specs.Ordering.Ends.{GivesUntilClosing, IsClosing}
pub use Rattle.law_world_reports.specs.Ordering.LastLines.{EndsWithLast, counts_told, ends_in, ends_of}
pub use Rattle.law_world_reports.specs.Ordering.Premises.{HasAll, KeepsOrder}
pub use Rattle.law_world_reports.specs.Ordering.Recordings.{OffersBehindFirst}
pub use Rattle.law_world_reports.specs.Telling.{Agrees, GoesOn, Moment, StandsStill, Tells, TellsNext, all_stopped, end_events, end_given, end_stopped, end_taken, in_the_end, next_take, node_of, stopped, until}
