use Rattle.std.proofs.Common.{inl, inr, arith}
use Rattle.laws_of_workers.proofs.TurnRoom.{entries_fit}
use Rattle.laws_of_workers.proofs.laws.bounded_turns_lose_nothing.Goals as goal

pub returns-clause-room : goal.returns-clause-room
returns-clause-room c plan turn was left counted now_counted old new came now_came takes weight before after follows place first
    last at_first at_last weighs room =
    let few = c.arrivals_put_what_they_weigh.ensures.all plan turn takes.arrivals weight old new before after follows place
    takes.taken weighs in
    c.trails_that_fit_lose_nothing.ensures.outboxes follows.trail before after follows.follow place first last at_first at_last
    (omega (arith, few, room))

pub returns-clause-empty : goal.returns-clause-empty
returns-clause-empty c plan turn was left counted now_counted old new came now_came takes before after follows place first last
    at_first at_last several none =
    elim takes.within.1 [
      | inl alone ↦ absurd (omega (arith, alone, several))
      | inr fit ↦
          returns-clause-room c plan turn was left counted now_counted old new came now_came takes fit.0 before after follows
          place first last at_first at_last fit.1
          (omega (arith, none, entries_fit fit.0 fit.2))
    ]

pub returns-clause-queues : goal.returns-clause-queues
returns-clause-queues c old new before after follows place first last at_first at_last (inl waiting) =
    c.trails_that_fit_lose_nothing.ensures.queues follows.trail before after follows.follow place first last at_first at_last
    (inl waiting)
returns-clause-queues c old new before after follows place first last at_first at_last (inr none) =
    c.trails_that_fit_lose_nothing.ensures.queues follows.trail before after follows.follow place first last at_first at_last
    (inr (inl none))
