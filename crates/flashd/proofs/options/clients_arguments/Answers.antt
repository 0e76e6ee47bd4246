use Rattle.std.proofs.Common.{[], sym}
use Rattle.std.proofs.lemmas.List.{append-nil}
use Rattle.flashd.specs.Command.{arguments_of}
use Rattle.flashd.proofs.Arguments.{last_one, one_more}
use Rattle.flashd.proofs.options.clients_arguments.Goals as goal

pub returns : goal.returns
returns c =
    let base = arguments_of c.args.command in
    let one = one_more base [] _ _ _ _ (sym (append-nil base)) c.in_ok-arg.ensures c.stop_after.ensures in
    let two = one_more base _ _ _ _ _ one c.in_ok-arg-2.ensures c.max_clients.ensures in
    let three = one_more base _ _ _ _ _ two c.in_ok-arg-3.ensures c.idle_timeout.ensures in
    let four = one_more base _ _ _ _ _ three c.in_ok-arg-4.ensures c.request_timeout.ensures in
    let five = one_more base _ _ _ _ _ four c.in_ok-arg-5.ensures c.min_rate.ensures in
    last_one base _ _ _ _ _ five c.arg-6.ensures c.retire_timeout.ensures
