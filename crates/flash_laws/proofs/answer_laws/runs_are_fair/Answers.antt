use Rattle.flash_laws.proofs.World.Fair.{failure_free_is_fair, any_is_fair, own_is_fair, own_is_least}
use Rattle.flash_laws.proofs.World.Fair.{none_refuses_nothing}
use Rattle.flash_laws.proofs.answer_laws.runs_are_fair.Goals as goal

pub returns-clause-failure_free : goal.returns-clause-failure_free
returns-clause-failure_free c = failure_free_is_fair

pub returns-clause-any : goal.returns-clause-any
returns-clause-any c = any_is_fair

pub returns-clause-own : goal.returns-clause-own
returns-clause-own c = own_is_fair

pub returns-clause-least : goal.returns-clause-least
returns-clause-least c = own_is_least

pub returns-clause-none : goal.returns-clause-none
returns-clause-none c = none_refuses_nothing
