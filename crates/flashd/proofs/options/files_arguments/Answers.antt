use Rattle.std.proofs.Common.{[], sym}
use Rattle.std.proofs.lemmas.List.{append-nil}
use Rattle.flashd.specs.Command.{arguments_of}
use Rattle.flashd.proofs.Arguments.{last_one, one_more}
use Rattle.flashd.proofs.options.files_arguments.Goals as goal

pub returns : goal.returns
returns c =
    let base = arguments_of c.args.command in
    let one = one_more base [] _ _ _ _ (sym (append-nil base)) c.in_ok-arg.ensures c.access_log.ensures in
    let two = one_more base _ _ _ _ _ one c.in_ok-arg-2.ensures c.preload_limit.ensures in
    let three = one_more base _ _ _ _ _ two c.in_ok-arg-3.ensures c.no_preload.ensures in
    last_one base _ _ _ _ _ three c.arg-4.ensures c.in_ok-memory_only.ensures
