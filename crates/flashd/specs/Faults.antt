-- The printed texts of the faults.
use Rattle.std.specs.Prelude.{List, ℕ, ◌++◌, Option, Some, None, codes}
use Rattle.std.specs.Net.Text.{socket_text}
use Rattle.flashd.specs.declared.fault.Fault.{Fault}
use Rattle.flashd.specs.declared.fault.Fault.TheVariants.{OutOfMemory, Failed}
use Rattle.flashd.specs.declared.fault.Step.{Step}
use Rattle.flashd.specs.declared.fault.Step.TheVariants.{ReadWords, Print, OpenLog, Read, ReadIntoMemory, Listen, Poll}

-- a step, as the end of a sentence
abbrev pub step_text : Step → List ℕ
step_text ReadWords = codes "read the arguments"
step_text Print = codes "write the output"
step_text (OpenLog path) = codes "open the log " ++ path.now
step_text (Read root) = codes "read " ++ root.now
step_text (ReadIntoMemory root) = codes "read " ++ root.now ++ codes " into memory"
step_text (Listen address) = codes "listen on " ++ socket_text address
step_text Poll = codes "poll the sockets"

-- a fault; the text of an error of the system is not known
abbrev pub fault_text : Fault → Option (List ℕ)
fault_text OutOfMemory = Some (codes "out of memory")
fault_text (Failed step error) = None
