-- The end of a server of a folder, and its report.
use Rattle.std.specs.Prelude.{◌≡◌, ◌⊎◌, ℕ, List, [], ◌∷◌, ◌++◌, Result, Ok, Err, codes}
use Rattle.flash_folder.specs.declared.fault.Fault.{Fault}
use Rattle.flash_folder.specs.declared.fault.Fault.TheVariants.{Listen, Accept, Connect, Folder, Output, Memory}

abbrev pub word_of : Fault → List ℕ
word_of Listen = codes "listen"
word_of Accept = codes "accept"
word_of Connect = codes "connect"
word_of Folder = codes "folder"
word_of Output = codes "output"
word_of Memory = codes "memory"

-- its printed text
abbrev pub fault_text : Fault → List ℕ
fault_text fault = codes "fault: " ++ word_of fault

-- the line that reports it
abbrev pub fault_line : Fault → List ℕ
fault_line fault = fault_text fault ++ 10 ∷ []

-- the exit status: 0 exactly if there was no fault
abbrev pub status_of : Result (Unit {0}) Fault → ℕ
status_of (Ok done) = 0
status_of (Err fault) = 3

-- the faults that prevent the start of a server: out of memory, or the folder cannot be read
abbrev pub StopsStart : Fault → Type 0
StopsStart fault = (fault ≡ Memory) ⊎ (fault ≡ Folder)

-- the faults that stop a running server: out of memory, or no connection can be accepted
abbrev pub StopsServing : Fault → Type 0
StopsServing fault = (fault ≡ Memory) ⊎ (fault ≡ Accept)
