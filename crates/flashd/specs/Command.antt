-- The command line that is accepted.
use Rattle.std.specs.Prelude.{◌≡◌, ◌++◌, ℕ, Bool, true, false, List, [], ◌∷◌, Option, Some, None, codes, map}
use Rattle.clap.specs.Simple.{app_of}
use Rattle.clap.specs.Walk.{Rule, rule_of}
use Rattle.clap.specs.declared.builder.arg.Arg.{Arg}
use Rattle.clap.specs.declared.builder.action.ArgAction.{ArgAction}
use Rattle.clap.specs.declared.builder.action.ArgAction.TheVariants.{SetTrue}
use Rattle.clap.specs.declared.builder.command.Command.{Command}

-- An argument: its name, the word by which it is given, its action, its default values, and whether it is required.
pub record Argument : Type 0 where
  pub name : List ℕ
  pub long : Option (List ℕ)
  pub action : Option ArgAction
  pub defaults : List (List ℕ)
  pub required : Bool

abbrev pub argument_of : Rule → Argument
argument_of r = record { name = r.id; long = r.long; action = r.action; defaults = r.defaults; required = r.required }

-- an option with a value, and without a default one
abbrev pub option : (name : List ℕ) → Argument
option name = record { name = name; long = Some name; action = None; defaults = []; required = false }

-- an option without a value
abbrev pub flag : (name : List ℕ) → Argument
flag name = record (option name) { action = Some SetTrue }

abbrev pub listen : Argument
listen = record (option (codes "listen")) { defaults = codes "127.0.0.1:8080" ∷ [] }

abbrev pub root : Argument
root = record { name = codes "root"; long = None; action = None; defaults = []; required = true }

-- those that limit clients
abbrev pub client_arguments : List Argument
client_arguments = option (codes "stop-after") ∷ option (codes "max-clients") ∷ option (codes "idle-timeout")
    ∷ option (codes "request-timeout") ∷ option (codes "min-rate") ∷ option (codes "retire-timeout") ∷ []

-- those for files
abbrev pub file_arguments : List Argument
file_arguments = option (codes "access-log") ∷ option (codes "preload-limit") ∷ flag (codes "no-preload")
    ∷ flag (codes "memory-only") ∷ []

-- all, in order
abbrev pub arguments : List Argument
arguments = listen ∷ root ∷ client_arguments ++ file_arguments

abbrev pub arguments_of : Command → List Argument
arguments_of command = map argument_of (app_of command).top.rules

-- the argument is this one, for this command alone
abbrev pub IsArgument : Argument → Arg → Type 0
IsArgument argument arg = (argument_of (rule_of arg) ≡ argument) × (arg.global ≡ false)
