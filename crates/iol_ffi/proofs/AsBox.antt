-- The seal and its parts own what a box at the same types owns.
use mir.Syntax.{impl, tnil, dnil}
use mathlib.Core.List.{[]}
use denote.Signature.{Slot, plain}
use Rattle.std_alloc.proofs.BoxSteps.Form.{Bx}
use Rattle.std_heap.specs.contracts.Global as Heap
use Rattle.std_heap.specs.contracts.GlobalAllocator.TheImpl.{ghosts, dict}
use Rattle.std_heap.proofs.Global.TheLaws as heap
use Rattle.iol_ffi.specs.contracts.Machine as Home
use Rattle.iol_ffi.proofs.Machine.TheLaws as home
use Rattle.iol_ffi.specs.contracts.raw_box.RawBox as RawBox
use Rattle.iol_ffi.specs.contracts.handle.Handle as Handle

abbrev pub E : Bx
E =
    record {
      row = Home.the_row;
      laws = home.the_row_laws;
      al = record { row = Heap.the_row; laws = heap.the_row_laws; g = ghosts; d = dict; drops = impl [] tnil dnil };
    }

abbrev pub FromRaw : Slot 0
FromRaw = plain (λ _. RawBox.the_row Home.the_row Heap.the_row ghosts)

abbrev pub FromHandle : Slot 0
FromHandle = plain (λ _. Handle.the_row)
