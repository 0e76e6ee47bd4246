use Rattle.std.proofs.Common.{rules, inl}
use Rattle.flash_log.proofs.dates.log_date.Goals as goal

pub returns-in_ok-text-in-Ok : goal.returns-in_ok-text-in-Ok
returns-in_ok-text-in-Ok c = inl (record { date = c.in-Ok.date; is = search rules; text-is = search rules })
