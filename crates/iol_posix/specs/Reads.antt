-- The result and the effect of a read into a memory.
use Rattle.std.specs.Prelude.{◌≡◌, ◌≤◌, ℕ, List, [], length, drop, Result, Err, IfOk, OnErr, IsFalse, ◌≢◌}
use Rattle.iol_core.specs.Calls.Reads.{read}
use Rattle.iol_core.specs.Calls.Writes.{is_file}
use Rattle.iol_core.specs.declared.refusals.Refusal.{Refusal}
use Rattle.iol_core.specs.declared.refusals.Refusal.TheVariants.{Memory}
use Rattle.iol_back.specs.Prelude.{Disk}
use Rattle.iol_kernel.specs.FileReads.{first_of, held_by}
use Rattle.iol_kernel.specs.KernelState.{machine_of}
use Rattle.iol_kernel.specs.Prelude.{Copies, ReadsOut, Serves, state_of}
use Rattle.iol_kernel.specs.declared.kernel.Kernel.{Kernel}

-- A read of at most `most` bytes by copying wrote its bytes to the front of a memory, returned their number, and left
-- the rest of the memory unchanged: the machine's step with an honest store, and the effect, by the descriptor's
-- object. A refusal leaves the memory unchanged, and a read that is not of a file is never refused for lack of memory.
pub record ReadsInto {B : Type 0} (by fd most : ℕ) (memory filled : List ℕ) (disk : B → Disk) (backing after : B)
    (old : Kernel)
    (r : Result ℕ Refusal) (new : Kernel) : Type 0 where
  pub serves : Serves (λ s. read s by fd most) (disk backing) old (first_of filled r) (disk after) new
  pub copies : Copies by fd most (disk backing) (state_of old) (first_of filled r) (disk after) (state_of new)
  pub not_memory : IsFalse (is_file (held_by (machine_of [] (state_of old)) by fd)) → r ≢ Err Memory
  pub count : IfOk r (λ n. n ≤ most)
  pub len : length filled ≡ length memory
  pub rest : IfOk r (λ n. drop n filled ≡ drop n memory)
  pub err : OnErr r (filled ≡ memory)

-- A read of a queue by copying wrote its bytes to the front of a memory, as many as have room, returned their number,
-- and left the rest of the memory unchanged. A refusal leaves the memory unchanged, and is never for lack of memory.
pub record TakesOut (by fd : ℕ) (memory filled : List ℕ) (old : Kernel) (r : Result ℕ Refusal) (new : Kernel) :
    Type 0 where
  pub reads : ReadsOut by fd (length memory) (state_of old) (first_of filled r) (state_of new)
  pub not_memory : r ≢ Err Memory
  pub count : IfOk r (λ n. n ≤ length memory)
  pub len : length filled ≡ length memory
  pub rest : IfOk r (λ n. drop n filled ≡ drop n memory)
  pub err : OnErr r (filled ≡ memory)
