-- The end of a file that a reply reports, from the contract of the kernel's call.
use Rattle.std.proofs.Common.{ℕ, List, Option, Some}
use Rattle.std.specs.Prelude.{Result, Ok, Err, IfOk}
use Rattle.iol_back.specs.Disk.{Disk}
use Rattle.iol_core.specs.Run.{outcome}
use Rattle.iol_core.specs.declared.descriptors.Descriptor.{Descriptor}
use Rattle.iol_core.specs.declared.descriptors.Descriptor.TheVariants as on
use Rattle.iol_core.specs.declared.events.Call.TheVariants as call
use Rattle.iol_core.specs.declared.events.Event.TheVariants as event
use Rattle.iol_core.specs.declared.events.Reply.TheVariants as reply
use Rattle.iol_core.specs.declared.refusals.Refusal.{Refusal}
use Rattle.iol_core.specs.declared.refusals.Refusal.TheVariants.{Denied, Memory, PoolClosed, TooLong, TooMany}
use Rattle.iol_kernel.specs.FileLengths.{EndsAt, FitsNext, SeeksAt, SeeksOn}
use Rattle.iol_kernel.specs.FileReads.{held_by}
use Rattle.iol_kernel.specs.KernelState.{KernelState}
use Rattle.iol_system.specs.FileLengths.{ReportsEnd}
use Rattle.iol_system.specs.Machine.{system_of, tables_of}
use Rattle.iol_system.specs.Replies.{reported}

module _ (disk : Disk) (h : KernelState) (by : ℕ) where
  pub length_ends : (fd : ℕ) (r : Result ℕ Refusal) → IfOk r (λ n. EndsAt by fd n disk h)
      → ReportsEnd (system_of h disk) (event.Call by (call.Length fd)) (reported reply.Count r)
  length_ends fd (Ok n) ends = ends
  length_ends fd (Err x) ends = tt

  seeks_outcome : (o : Option Descriptor) (at : ℕ) (r : Result (Unit {0}) Refusal) → SeeksOn o at disk h r
      → SeeksOn o at disk h (outcome (reported (λ u. reply.Done) r))
  seeks_outcome (Some (on.File f was mode)) at (Ok u) c =
      record { end = c.end; ends = c.ends; within = c.within; beyond = λ is. absurd (cc is) }
  seeks_outcome (Some (on.File f was mode)) at (Err x) c =
      record { end = c.end; ends = c.ends; within = tt; beyond = λ is. c.beyond (cc is) }
  seeks_outcome o at r c = tt

  pub seek_ends : (fd at : ℕ) (r : Result (Unit {0}) Refusal) → SeeksAt by fd at disk h r
      → ReportsEnd (system_of h disk) (event.Call by (call.Seek fd at)) (reported (λ u. reply.Done) r)
  seek_ends fd at r seeks = seeks_outcome (held_by (tables_of h) by fd) at r seeks

  pub new_ends : (name : List ℕ) (p : ℕ) (r : Result ℕ Refusal) → FitsNext disk h r
      → ReportsEnd (system_of h disk) (event.Call by (call.FileNew name p)) (reported reply.File r)
  new_ends name p (Ok n) fits = fits
  new_ends name p (Err TooLong) fits = fits
  new_ends name p (Err TooMany) fits = fits
  new_ends name p (Err (Denied q)) fits = fits
  new_ends name p (Err (PoolClosed q)) fits = fits
  new_ends name p (Err Memory) fits = fits
  new_ends name p (Err x) fits = tt
