-- what each kind of work takes
use Rattle.terms.specs.Durations.{Takes}
use Rattle.terms.proofs.settings.Settings.duration.Goals as goal

pub returns-in-Entry-clause-words : goal.returns-in-Entry-clause-words
returns-in-Entry-clause-words c = rw c.in-Entry.is (Takes.entry c.args.block)

pub returns-in-Leave-clause-words : goal.returns-in-Leave-clause-words
returns-in-Leave-clause-words c = rw c.in-Leave.is (Takes.leave c.args.block)

pub returns-in-Wait-clause-words : goal.returns-in-Wait-clause-words
returns-in-Wait-clause-words c = rw c.in-Wait.is (Takes.wait c.args.block)

pub returns-in-Move-clause-words : goal.returns-in-Move-clause-words
returns-in-Move-clause-words c = rw (c.in-Move.is, c.if-block.true) Takes.move_loaded

pub returns-in-Move-2-clause-words : goal.returns-in-Move-2-clause-words
returns-in-Move-2-clause-words c = rw (c.in-Move-2.is, c.if-block.false) Takes.move_empty

pub returns-in-PickUp-clause-words : goal.returns-in-PickUp-clause-words
returns-in-PickUp-clause-words c = rw c.in-PickUp.is (Takes.pick_up c.args.block)

pub returns-in-Deliver-clause-words : goal.returns-in-Deliver-clause-words
returns-in-Deliver-clause-words c = rw c.in-Deliver.is (Takes.deliver c.args.block)
