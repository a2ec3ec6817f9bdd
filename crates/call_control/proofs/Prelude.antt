-- Names that several proofs share.
pub use Rattle.std.proofs.Common.{Bool, List, None, Option, Some, [], ap, arith, cond, drop, false, inl, inr, is_some, length}
pub use Rattle.std.proofs.Common.{map, refl, slice_get, slice_set, subst, suc, sym, true, zero, ℕ, ◌&&◌, ◌++◌, ◌+◌, ◌-◌, ◌<◌}
pub use Rattle.std.proofs.Common.{◌==◌, ◌∙◌, ◌∷◌, ◌≡◌, ◌≢◌, ◌≤◌, ◌⊎◌}
pub use Rattle.std.proofs.lemmas.Bool.{cases_Bool, cond_both, eqb-true, ltb-true, true≢false}
pub use Rattle.std.proofs.lemmas.Bool.Decides.{nat_tests}
pub use Rattle.std.specs.List.{AllByRecursion}
pub use Rattle.std.specs.Prelude.{Err, Ok, Result, if◌then◌else◌, nat_le, nat_lt, option_map}
pub use Rattle.call_book.proofs.Changes.{IsBridged, IsReserved, bridged_by, lost, release_keeps, reserved}
pub use Rattle.call_book.proofs.NameLaws.{bit, has_name_from, has_name_is, is_same_itself, one_per_number, same_name}
pub use Rattle.call_book.proofs.Partners.{bridged_after, bridged_before, bridged_first, bridged_second, no_partner, partner_at}
pub use Rattle.call_book.proofs.Partners.{partner_has, released_after, released_before, released_gone, reserved_after}
pub use Rattle.call_book.proofs.Partners.{reserved_before, reserved_none}
pub use Rattle.call_book.specs.Book.{Book, IsBook, IsNumberOf, after_reserve, bridge_answer, bridged, has_name, is_name_in}
pub use Rattle.call_book.specs.Book.{is_same, partner_of, released, reserve_answer}
pub use Rattle.call_book.specs.declared.errors.BridgeError.{BridgeError}
pub use Rattle.call_book.specs.declared.errors.ReserveError.{ReserveError}
pub use Rattle.call_book.specs.declared.leg_name.LegName.{LegName}
pub use Rattle.call_signals.specs.Order.{kind_of, Kind}
pub use Rattle.call_control.specs.Law.{AllAreLookedAfter, AllHavePartners, IsFresh, IsIdle, IsLookedAfter, IsOpened}
pub use Rattle.call_control.specs.Law.{IsWithinSteps, NamesAreHeldOnce, NamesAreTheLegs, NoneIsBusy, NoneIsOutside, NoneIsStale}
pub use Rattle.call_control.specs.Law.{NoneMeetsOffered, NumbersServeOne, is_heard, is_kept, is_spent, is_talk, leases_of}
pub use Rattle.call_control.specs.Law.{names_at, names_in, names_in_all, names_of, times, words}
pub use Rattle.call_control.specs.Scene.{Answer, Brings, Choice, Goes, HasMedia, KeepsLeg, Lapses, LeadsTo, Leg, Opens}
pub use Rattle.call_control.specs.Scene.{RefusesDatagram, RefusesOpening, RefusesOrder, RefusesRejecting, RefusesTick, Scene}
pub use Rattle.call_control.specs.Scene.{TellsCause, all_lapsed, all_media, answer, answered, at_datagram, at_leg, at_open_in}
pub use Rattle.call_control.specs.Scene.{at_open_out, at_order, at_release, at_retire, at_tick, bridges, brings, brought, busy_in}
pub use Rattle.call_control.specs.Scene.{busy_out, can_open, carried, dropped, handed_up, heard_of, if_named, is_call, is_done}
pub use Rattle.call_control.specs.Scene.{is_leased, is_stale, keeps, lapsed_at, leg_at, leg_named, let_lapse, media_up, obeys}
pub use Rattle.call_control.specs.Scene.{opened, opens_out, refused, releases, replaced, reserves, retires, status_of, told_cause}
pub use Rattle.call_control.specs.Scene.{without}
pub use Rattle.call_control.specs.SeenReply.{heard, seen_reply}
pub use Rattle.call_control.specs.Sees.{AreApart, IsWorldStep, Sees, look_of}
pub use Rattle.call_control.specs.Work.{Rest, Work, after_accept, after_find, after_heard, after_reserve_in, after_status}
pub use Rattle.call_control.specs.Work.{after_told, at, ended, advance, advance_from, in_hand, next_at, next_of, passed_on}
pub use Rattle.call_control.specs.Work.{place_for}
pub use Rattle.call_control.specs.Work.{told_at}
pub use Rattle.call_control.specs.World.{ADatagram, Caller, Event, Start, Starts, Steps, World, after_answer, begins, happens}
pub use Rattle.call_control.specs.World.{makes, run, scene_of, starts, steps, work_of}
pub use Rattle.call_signals.specs.declared.order.Command.{Command}
pub use Rattle.call_control.specs.declared.need.Need.{Need}
pub use Rattle.call_control.specs.declared.place.Place.{Place}
pub use Rattle.call_control.specs.declared.reply.Reply.{Reply}
pub use Rattle.call_signals.specs.declared.cause.Cause.{Cause}
pub use Rattle.call_signals.specs.declared.cause.Cause.TheVariants.{NormalClearing}
pub use Rattle.call_signals.specs.declared.format.Format.{Format}
pub use Rattle.call_signals.specs.declared.openings.Opening.{Opening}
pub use Rattle.call_signals.specs.declared.signal.MediaSpan.{MediaSpan}
pub use Rattle.call_signals.specs.declared.signal.Signal.{Signal}
pub use Rattle.call_signals.specs.declared.stage.Stage.{Stage}
pub use Rattle.leg_machine.specs.Seen.{Lapse, SeenFrame, SeenLeg, Speaks, frame_effect, fresh_leg, lapsed, moved, opening_effect}
pub use Rattle.leg_machine.specs.Seen.{ordered, stage_after}
pub use Rattle.peer_lock.specs.Arrivals.{MediaTaken, datagram_step, delivered_step, entries_media, entry_span, mini_span}
pub use Rattle.peer_lock.specs.Arrivals.{media_at as taken_at}
pub use Rattle.peer_lock.specs.Legs.{NamedLeg, PeerLegs, filled, leg_of_remote, leg_at as peer_leg_at, with_place}
pub use Rattle.peer_lock.specs.Openings.{opens_in}
pub use Rattle.peer_lock.specs.Peer.{PeerStep, PeerView}
pub use Rattle.peer_lock.specs.Seen.{IsSeenRefusal, Obeys, SeenNamed, TurnsAt, seen_at, seen_named}
pub use Rattle.peer_lock.specs.declared.errors.OrderError.{OrderError}
