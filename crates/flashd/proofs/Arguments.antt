-- The arguments of a command that grows.
use Rattle.std.proofs.Common.{◌≡◌, ◌∙◌, List, [], ◌∷◌, ◌++◌, Result, Ok, Err, IfOk, ap, append_assoc, map}
use Rattle.std.proofs.lemmas.List.{map-append}
use Rattle.clap.specs.Words.{AddsArg, app_of, rule_of}
use Rattle.clap.specs.declared.builder.arg.Arg.{Arg}
use Rattle.clap.specs.declared.builder.command.Command.{Command}
use Rattle.flashd.specs.Command.{Argument, IsArgument, argument_of, arguments_of}

-- one more argument
pub one_more : (base more : List Argument) (old new : Command) (arg : Arg) (a : Argument)
    → arguments_of old ≡ base ++ more → AddsArg old arg new → IsArgument a arg
    → arguments_of new ≡ base ++ (more ++ a ∷ [])
one_more base more old new arg a same adds is =
    ap (λ app. map argument_of app.top.rules) (adds.shape is.1)
    ∙ map-append argument_of (app_of old).top.rules (rule_of arg ∷ [])
    ∙ ap (λ x. arguments_of old ++ x ∷ []) is.0
    ∙ ap (λ xs. xs ++ a ∷ []) same
    ∙ append_assoc base more (a ∷ [])

-- the last one, if there was memory for it
pub last_one : {E : Type 0} (base more : List Argument) (old : Command) (r : Result Command E) (arg : Arg) (a : Argument)
    → arguments_of old ≡ base ++ more → IfOk r (λ new. AddsArg old arg new) → IsArgument a arg
    → IfOk r (λ new. arguments_of new ≡ base ++ (more ++ a ∷ []))
last_one base more old (Ok new) arg a same adds is = one_more base more old new arg a same adds is
last_one base more old (Err e) arg a same adds is = tt
