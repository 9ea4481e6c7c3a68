-- Words that proofs cite, passed on from one place. Declares nothing.
pub use Rattle.std.proofs.Common.{Bool, Err, List, None, Ok, Some, [], ap, append-nil, append_assoc, ap₂, arith, codes, cond, drop, false, get_or, if◌then◌else◌, inl, inr, is_some, length, lit<, lit≤, map, min, nat_eq, nat_lt, not, refl, rules, subst, suc, sym, take, true, true≢false, zero, ℕ, ⊎_elim, ◌%◌, ◌&&◌, ◌*◌, ◌++◌, ◌+◌, ◌-◌, ◌/◌, ◌<◌, ◌==◌, ◌^◌, ◌||◌, ◌∙◌, ◌∷◌, ◌≡◌, ◌≢◌, ◌≤◌, ◌⊎◌}
pub use Rattle.std.proofs.Math.Seq.{take-add, take-append-add, take-append_seam}
pub use Rattle.std.proofs.lemmas.Bool.{and_from, and_parts, cases_Bool, cases_eq, cases_lt, eq-eqb, eqb-false, eqb-true, false≢true, le-leb, le-ltb, leb-true, lt-ltb, ltb-false, ltb-true, ne_eqb, not-false, not-true, or_cases, or_left, or_parts, or_right}
pub use Rattle.std.proofs.lemmas.Bool.Decides.{nat_tests, not_from_Decides}
pub use Rattle.std.proofs.lemmas.List.{append_cancel_left, drop-drop, drop_all, get_or-set_other, get_or-set_same, get_or_past, length-append, length-drop, length-set, length-take, length-take-le, length_push, map-append, take-append-drop, take-append-le, take_all, take_at}
pub use Rattle.std.proofs.lemmas.List.Concat.{flat_map-append}
pub use Rattle.std.proofs.lemmas.List.Elements.{All-nil, All-push, All-set}
pub use Rattle.std.proofs.lemmas.List.Folds.{find_at, list_all-append, list_any-append}
pub use Rattle.std.proofs.lemmas.List.Quantifiers.{position-Some}
pub use Rattle.std.proofs.lemmas.List.Sums.{count_by-le-length, sum_by-cons, sum_by_push}
pub use Rattle.std.proofs.lemmas.Option.{get_or_from_slice_get, slice_get-get_or, slice_get_within, unwrap_or-slice_get}
pub use Rattle.std.proofs.lemmas.Slice.Eq.{bytes_eq-Decides}
pub use Rattle.std.specs.Fmt.{decimal, digit_glyph, digits_onto}
unfoldable pub use Rattle.std.specs.Fmt.{digits}
pub use Rattle.std.specs.List.{AllByRecursion, concat, insert, list_all, list_any, position_or_len}
pub use Rattle.std.specs.Prelude.{All, IfSome, IsTrue, MatchResult, count_by, find, is_ok, max, nat_le, position, remove, replicate, slice_get, slice_index, slice_set}
pub use Rattle.std.specs.Str.{bytes_eq}
pub use Rattle.std.specs.declared.option.Option.{Option}
pub use Rattle.std.specs.declared.result.Result.{Result}
pub use mathlib.Core.List.{IsPrefix}
pub use mathlib.Core.Path.{fun_ext}
pub use Rattle.law_order.specs.Giving.{Accepts, Closes, Giver, GiverAt, GiverLaw, Giving, HandsOver, MayGive, PutsEnd, PutsPdu, given_items, gives, new_giver, sent_by}
pub use Rattle.law_order.specs.Items.{Handover, IsBehindEnd, IsChannel, IsJoined, Item, Piece, Stop, has_end, has_handover, pdus}
pub use Rattle.law_order.specs.Logs.{IsLeg, Log, below, change, empty, more, seen, through}
pub use Rattle.law_order.specs.Passing.{MayPass, Passer, PasserLaw, PassesEnd, PassesHandover, PassesPdu, Passing, Takes, came_at, from_first, new_passer, passed_items, passes, with_held}
pub use Rattle.law_order.specs.Paths.{Arrives, IsWhole, Losses, OnLegs, Walk, advance, arriving, held_of, part, path, reach, reader, stops_at, walk, walk_over, with_queue}
pub use Rattle.law_order.specs.Routes.{IsNumbered, IsRoute, Route}
pub use Rattle.law_order.specs.Shelves.{Alike, Coming, EndLater, EndNext, EndNow, Follows, HandoverNext, HandoverNow, Holds, MayCome, MovesOn, PduNext, PduNow, Shelf, Shelved, ShelvedAt, Shelves, blank, came_by, channel_of, comes, is_ended, items_of, new_shelves}
pub use Rattle.law_order.specs.Taking.{Hears, MayTake, ReportsEnd, Taker, TakerLaw, TakesPdu, Taking, heard_by, new_taker, takes}
pub use Rattle.law_order.specs.Wires.{Draws, Event, Feeds, Loses, MayHappen, Wire, WireLaw, after}
