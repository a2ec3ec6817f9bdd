use Rattle.laws_of_workers.proofs.RoomLaws.{arrival_few, heard_few}
use Rattle.laws_of_workers.proofs.TurnRoom.{turn_few}
use Rattle.laws_of_workers.proofs.laws.arrivals_put_what_they_weigh.Goals as goal

pub returns-clause-one : goal.returns-clause-one
returns-clause-one c plan from call weight old new before after follows place heard weighs =
    let answers = c.full_frames_bring_few_answers.ensures in
    let calls = c.calls_put_few_datagrams.ensures in
    let brings = c.datagrams_bring_few.ensures in
    heard_few calls.steps calls.first brings.calls_in
    (arrival_few answers.others answers.vnaks brings.full brings.vnaks brings.mini brings.video brings.trunk)
    plan from call weight old new follows.trail before after follows.follow place heard follows.noted weighs follows.sound

pub returns-clause-all : goal.returns-clause-all
returns-clause-all c plan turn arrivals weight old new before after follows place takes weighs =
    let answers = c.full_frames_bring_few_answers.ensures in
    let calls = c.calls_put_few_datagrams.ensures in
    let brings = c.datagrams_bring_few.ensures in
    turn_few (heard_few calls.steps calls.first brings.calls_in
    (arrival_few answers.others answers.vnaks brings.full brings.vnaks brings.mini brings.video brings.trunk))
    plan turn arrivals weight old new follows.trail before after follows.follow place takes follows.noted weighs follows.sound
